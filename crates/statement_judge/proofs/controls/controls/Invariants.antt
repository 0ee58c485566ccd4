use Rattle.std.proofs.Common.{◌≡◌, None, drop}
use Rattle.statement_judge.specs.StatementSteps.{controls_onward}
use Rattle.statement_judge.proofs.controls.controls.Given as goal

abbrev pub invariant-loop-one : goal.invariant-loop-one
invariant-loop-one l = controls_onward l.site l.files l.fault (drop l.one-index l.list) ≡ controls_onward l.site l.files None l.list
