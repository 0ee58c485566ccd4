use Rattle.f2c_outside.specs.Shown.{units_in}
use Rattle.f2c_outside.specs.Rows.{rows_of}
use Rattle.f2c_outside.specs.Finishing.{OnDevice, EachRow}
use Rattle.f2c_outside.proofs.FinishLaws.{FinishedTo, above_count}
use Rattle.f2c_outside.proofs.unit_table.UnitTable.finish_all.Given as goal

-- every unit up to the last one was finished, and no other was
abbrev pub invariant-loop-unit : goal.invariant-loop-unit
invariant-loop-unit g l =
    EachRow (OnDevice (FinishedTo l.last)) (rows_of (λ b. (goal.Device-dyn g (b.vtable, b.value)).device_state b.value) l.initial.self)
    (rows_of (λ b. (goal.Device-dyn g (b.vtable, b.value)).device_state b.value) l.self)

-- the units that are left
abbrev pub decreases-loop-unit : goal.decreases-loop-unit
decreases-loop-unit g l = above_count l.last (units_in l.self.rows.items)
