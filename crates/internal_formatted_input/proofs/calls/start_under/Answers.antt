use Rattle.std.proofs.Common.{Bool, subst, Ok}
use Rattle.c_tree.specs.FormatsGiven.{format_at}
use Rattle.formatted_output.specs.Fronts.{ReadsFormat}
use Rattle.internal_formatted_input.proofs.StartLaws.{under-format}
use Rattle.internal_formatted_input.proofs.calls.start_under.Goals as goal

pub returns-in-Ok-true : goal.returns-in-Ok-true
returns-in-Ok-true c =
    under-format (format_at c.args.run.now c.args.given) c.args.run.now c.args.control c.read_format.new.into c.begin_reading.result
    (subst (λ (one : Bool). ReadsFormat (format_at c.args.run.now c.args.given) c.read_format.new.into (Ok one)) c.in-Ok-true.field-0-test c.in-Ok-true.ensures)
    c.begin_reading.ensures
