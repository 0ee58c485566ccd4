use Rattle.std.proofs.Common.{ap, ◌∙◌, arith}
use Rattle.fortran_grammar.specs.IncludedFiles.{mentioned_in, mentions_of}
use Rattle.file_parse.proofs.IncludeLemmas.{units_go_on, units_end}
use Rattle.file_parse.proofs.mentions.includes.Goals as goal

pub loop-unit-preserved : goal.loop-unit-preserved
loop-unit-preserved c =
    units_go_on c.as_slice-unit-items.result.now c.loop-unit.unit-index c.unit-item.result c.loop-unit.names c.in_ok-mentioned_in.field-0 c.append.new.self
    c.loop-unit-test.true c.unit-item.is c.loop-unit.invariant (c.in_ok-mentioned_in.ensures ∙ ap mentioned_in c.as_slice.ensures) c.in_ok-append.ensures

pub returns : goal.returns
returns c =
    units_end c.as_slice-unit-items.result.now c.loop-unit.unit-index c.loop-unit.names (omega arith) c.loop-unit.invariant
    ∙ ap mentions_of c.as_slice-unit-items.ensures
