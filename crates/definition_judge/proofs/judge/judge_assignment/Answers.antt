use Rattle.std.proofs.Common.{option_copied, sym, ap, ◌∙◌}
use Rattle.name_table.specs.Named.{names_in, texts}
use Rattle.definition_judge.proofs.DefinitionLaws.{nothing_judged, judged_ok, defines_none, defines_one, defines_unnamed}
use Rattle.definition_judge.proofs.judge.judge_assignment.Goals as goal

pub returns-then-not-defines_function : goal.returns-then-not-defines_function
returns-then-not-defines_function c =
    nothing_judged c.args.unit.now c.args.names.now _
    (defines_none c.args.unit.now c.args.target.now c.args.value.now (names_in c.args.arrays.now) c.defines_function.result c.requires.arrays c.defines_function.ensures c.if-not-defines_function.true)

pub returns-in_default : goal.returns-in_default
returns-in_default c =
    nothing_judged c.args.unit.now c.args.names.now _
    (defines_unnamed c.args.unit.now c.args.target.now c.args.value.now (sym c.applied_name.ensures ∙ ap option_copied c.in_default.is))

pub returns : goal.returns
returns c =
    judged_ok c.judge_definition.result c.args.unit.now c.args.names.now c.judge_definition.new.names _ _
    (defines_one c.args.unit.now c.args.target.now c.args.value.now (names_in c.args.arrays.now) c.defines_function.result c.in-Some.name.now (texts c.as_slice.result.now) c.requires.arrays
    c.defines_function.ensures c.if-not-defines_function.false (sym c.applied_name.ensures ∙ ap option_copied c.in-Some.is) (ap texts c.as_slice.ensures.value ∙ c.in_ok-dummies.ensures))
    c.judge_definition.ensures
