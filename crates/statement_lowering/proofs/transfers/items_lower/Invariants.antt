use Rattle.std.proofs.Common.{◌≡◌, drop}
use Rattle.statement_lowering.specs.LoweredTransfers.{items_lower}
use Rattle.statement_lowering.proofs.transfers.items_lower.Given as goal

abbrev pub invariant-loop-item : goal.invariant-loop-item
invariant-loop-item l = items_lower l.table (drop l.item-index l.items) ≡ items_lower l.table l.items
