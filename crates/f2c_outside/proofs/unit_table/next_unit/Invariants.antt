use Rattle.std.proofs.Common.{take}
use Rattle.f2c_outside.specs.Shown.{units_in}
use Rattle.f2c_outside.specs.Finishing.{IsNext}
use Rattle.f2c_outside.proofs.unit_table.next_unit.Given as goal

-- the least of the rows that were looked at
abbrev pub invariant-loop-row : goal.invariant-loop-row
invariant-loop-row g l = IsNext l.last (units_in (take l.row-index l.rows)) l.least
