use Rattle.std.proofs.Common.{ℤ, Some, None, subst}
use Rattle.std.proofs.Math.Facts.{to_z-of_z}
use Rattle.f2c_outside.specs.Shown.{holds_unit}
use Rattle.f2c_outside.specs.Table.{IsFirst}
use Rattle.f2c_outside.proofs.TableLaws.{on-unit, not-on-unit, still-distinct, failed-only}
use Rattle.f2c_outside.proofs.unit_table.UnitTable.finish_unit.Goals as goal

pub invariant_of-self : goal.invariant_of-self
invariant_of-self g c =
    record {
      distinct =
          still-distinct _ c.args.unit c.args.self.now.rows.items c.in-Some.number c.index_mut.result.now c.finish_row.new.row _
          c.args.self.now.distinct
          (subst (λ (unit : ℤ). IsFirst (holds_unit unit) c.args.self.now.rows.items (Some c.in-Some.number)) (to_z-of_z c.ranges.unit)
          (rw c.as_slice.ensures.value at c.in-Some.ensures))
          c.index_mut.ensures.value c.finish_row.ensures;
    }

pub returns-in-Some : goal.returns-in-Some
returns-in-Some g c =
    on-unit _ c.args.unit c.args.self.now.rows.items c.in-Some.number c.index_mut.result.now c.finish_row.new.row c.finish_row.result _
    c.args.self.now.distinct
    (subst (λ (unit : ℤ). IsFirst (holds_unit unit) c.args.self.now.rows.items (Some c.in-Some.number)) (to_z-of_z c.ranges.unit)
    (rw c.as_slice.ensures.value at c.in-Some.ensures))
    c.index_mut.ensures.value c.finish_row.ensures (λ d m d' m' did. failed-only c.finish_row.result did.refused)

pub returns-in-None : goal.returns-in-None
returns-in-None g c =
    not-on-unit _ c.args.unit c.args.self.now.rows.items _
    (subst (λ (unit : ℤ). IsFirst (holds_unit unit) c.args.self.now.rows.items None) (to_z-of_z c.ranges.unit)
    (rw c.as_slice.ensures.value at c.in-None.ensures))
