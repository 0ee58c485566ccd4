use Rattle.std.proofs.Common.{◌≡◌, drop}
use Rattle.statement_lowering.specs.LoweredTransfers.{call_lowers}
use Rattle.statement_lowering.proofs.calls.call_lowers.Given as goal

abbrev pub invariant-loop-e : goal.invariant-loop-e
invariant-loop-e l = call_lowers l.table (drop l.e-index l.es) ≡ call_lowers l.table l.es
