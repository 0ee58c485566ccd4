use Rattle.std.proofs.Common.{◌≡◌, drop}
use Rattle.statement_lowering.specs.LoweredTransfers.{controls_lower}
use Rattle.statement_lowering.proofs.controls.controls_lower.Given as goal

abbrev pub invariant-loop-control : goal.invariant-loop-control
invariant-loop-control l = controls_lower l.table (drop l.control-index l.controls) ≡ controls_lower l.table l.controls
