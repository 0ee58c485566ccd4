use Rattle.std.proofs.Common.{◌≡◌, true, rules}
use Rattle.expression_lowering.specs.TableNames.{is_lowered_value}
use Rattle.expression_lowering.specs.Outcomes.{IsOutcome}
use Rattle.expression_lowering.proofs.Agreement.{outcome-lowered}
use Rattle.expression_lowering.proofs.outcome.lower_if.Goals as goal

pub returns-in-Ok : goal.returns-in-Ok
unfolding IsOutcome
returns-in-Ok c =
    let said = c.is_lowered.ensures in
    let tested = c.if-not-is_lowered.false in
    let covered : is_lowered_value c.args.table.now c.args.e.now ≡ true = first_of (cc (said, tested), search rules) in
    outcome-lowered c.args.table.now c.args.aspect c.args.purpose c.args.free c.args.e.now c.args.steps.now.items c.lower.new.steps.items c.in-Ok.lowered covered c.in-Ok.ensures
