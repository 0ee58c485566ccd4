use Rattle.std.proofs.Common.{◌≡◌, take, false}
use Rattle.std.specs.List.{list_any}
use Rattle.f2c_outside.specs.Shown.{holds_unit}
use Rattle.f2c_outside.proofs.unit_table.row_of.Given as goal

-- none of the rows that were looked at passes
abbrev pub invariant-loop-number : goal.invariant-loop-number
invariant-loop-number g l = list_any (holds_unit l.unit) (take l.number l.rows) ≡ false
