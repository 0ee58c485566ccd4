use Rattle.std.specs.Prelude.{option_and_then}
use Rattle.std.proofs.Common.{ap, ◌∙◌, arith}
use Rattle.c_emit.specs.Calls.{kind_number}
use Rattle.lowered_text.specs.Texts.{kinds_of}
use Rattle.item_emitter.specs.Knowing.{known_of}
use Rattle.item_emitter.proofs.CallForms.{output-none-listed, output-one-listed, output-more-listed}
use Rattle.item_emitter.proofs.calls.output.Goals as goal

pub returns-in-empty : goal.returns-in-empty
returns-in-empty c = output-none-listed (known_of c.args.known.now) (kinds_of c.args.kept) c.args.row.now (omega arith)

pub returns-in_ok-holder-in-len1 : goal.returns-in_ok-holder-in-len1
returns-in_ok-holder-in-len1 c =
    output-one-listed (known_of c.args.known.now) (kinds_of c.args.kept) c.args.row.now c.source-item.result c.number_of.result c.in_ok-holder-in-len1.holder c.output_by.result
    c.in-len1.len_at_least c.in-len1.len_below c.source-item.is (c.number_of.ensures ∙ ap (option_and_then kind_number) c.type_in.ensures) c.in_ok-holder-in-len1.ensures c.output_by.ensures

pub returns-in-len2-up : goal.returns-in-len2-up
returns-in-len2-up c = output-more-listed (known_of c.args.known.now) (kinds_of c.args.kept) c.args.row.now (omega arith)
