use Rattle.std.proofs.Common.{sym, ap, ◌∙◌}
use Rattle.f_tree.specs.Attributes.{arrays_of, definitions_in}
use Rattle.definition_judge.proofs.DefinitionLaws.{nothing_judged, judged_ok, defines-Assign, defines_other}
use Rattle.definition_judge.proofs.judge.judge_statement.Goals as goal

pub returns-in-Assign : goal.returns-in-Assign
returns-in-Assign c =
    judged_ok c.judge_assignment.result c.args.unit.now c.args.names.now c.judge_assignment.new.names _ _
    (defines-Assign c.args.unit.now c.in-Assign.target c.in-Assign.value ∙ ap (definitions_in (arrays_of c.args.unit.now)) (sym c.in-Assign.is)) c.judge_assignment.ensures

pub returns-in_default : goal.returns-in_default
returns-in_default c = nothing_judged c.args.unit.now c.args.names.now _ (defines_other (arrays_of c.args.unit.now) c.args.body.now c.in_default.not-Assign)
