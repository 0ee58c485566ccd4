use Rattle.std.proofs.Common.{sym, ◌∙◌}
use Rattle.name_table.specs.Named.{names_in}
use Rattle.reference_judge.proofs.BindingLaws.{target_is, target_none, target_other}
use Rattle.call_check.proofs.statements.defined_target.Goals as goal

pub returns-then-defines_function : goal.returns-then-defines_function
returns-then-defines_function c =
    target_is (names_in c.args.arrays.now) c.args.body.now c.in-Assign.target _ c.in-Assign.is (sym c.defines_function.ensures ∙ c.if-defines_function.true)

pub returns-else-defines_function : goal.returns-else-defines_function
returns-else-defines_function c =
    target_none (names_in c.args.arrays.now) c.args.body.now c.in-Assign.target _ c.in-Assign.is (sym c.defines_function.ensures ∙ c.if-defines_function.false)

pub returns-in_default : goal.returns-in_default
returns-in_default c = sym (target_other (names_in c.args.arrays.now) c.args.body.now c.in_default.not-Assign)
