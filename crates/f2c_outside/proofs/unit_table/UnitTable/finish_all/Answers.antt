use Rattle.std.proofs.Common.{rules, w32, to_z, of_z}
use Rattle.std.proofs.Math.Facts.{to_z-of_z}
use mir.Val.{SFits}
use Rattle.f2c_outside.proofs.FinishLaws.{none-finished, finished-step, first-fault, all-finished, all-next, as-given, table-falls}
use Rattle.f2c_outside.proofs.PlacedMeaning.{all-finished-means, first-fault-means}
use Rattle.f2c_outside.proofs.unit_table.UnitTable.finish_all.Goals as goal

pub loop-unit-init : goal.loop-unit-init
loop-unit-init g c = none-finished _

pub loop-unit-smaller : goal.loop-unit-smaller
loop-unit-smaller g c =
    let fits : SFits w32 c.in-Some.unit = search rules
    in table-falls _ c.loop-unit.last c.in-Some.unit (to_z w32 (of_z w32 c.in-Some.unit)) c.loop-unit.self.rows.items
    c.finish_unit.new.self.rows.items c.in-Ok.field-0 (to_z-of_z fits)
    (rw c.as_slice.ensures.value at c.in-Some.ensures) c.in-Ok.ensures

pub loop-unit-preserved : goal.loop-unit-preserved
loop-unit-preserved g c =
    let fits : SFits w32 c.in-Some.unit = search rules
    in finished-step c.loop-unit.last (to_z w32 (of_z w32 c.in-Some.unit)) _ _ _ c.in-Ok.field-0
    (as-given _ c.loop-unit.last c.in-Some.unit (to_z w32 (of_z w32 c.in-Some.unit)) c.loop-unit.self.rows.items (to_z-of_z fits)
    (rw c.as_slice.ensures.value at c.in-Some.ensures))
    c.in-Ok.ensures c.loop-unit.invariant

pub returns-in-Err-clause-did : goal.returns-in-Err-clause-did
returns-in-Err-clause-did g c =
    let fits : SFits w32 c.in-Some.unit = search rules
    in record {
      all = tt;
      first =
          first-fault _ c.loop-unit.last c.in-Some.unit (to_z w32 (of_z w32 c.in-Some.unit)) c.loop-unit.self.rows.items _ _
          c.in-Err.field-0 (to_z-of_z fits) (rw c.as_slice.ensures.value at c.in-Some.ensures) c.in-Err.ensures
          c.loop-unit.invariant;
    }

pub returns-in-Err-clause-means : goal.returns-in-Err-clause-means
returns-in-Err-clause-means g c =
    first-fault-means (to_z w32 (of_z w32 c.in-Some.unit)) _ _ ((returns-in-Err-clause-did g c).first.rows)

pub returns-clause-did : goal.returns-clause-did
returns-clause-did g c =
    record {
      all =
          all-finished c.loop-unit.last _ _
          (all-next _ c.loop-unit.last c.loop-unit.self.rows.items c.next_unit.result c.in_default.not-Some
          (rw c.as_slice.ensures.value at c.next_unit.ensures))
          c.loop-unit.invariant;
      first = tt;
    }

pub returns-clause-means : goal.returns-clause-means
returns-clause-means g c = all-finished-means _ _ ((returns-clause-did g c).all)
