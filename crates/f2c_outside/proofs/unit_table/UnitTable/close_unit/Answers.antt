use Rattle.std.proofs.Common.{ℤ, Some, None, subst}
use Rattle.std.proofs.Math.Facts.{to_z-of_z}
use Rattle.f2c_outside.specs.Shown.{holds_unit}
use Rattle.f2c_outside.specs.Table.{IsFirst}
use Rattle.f2c_outside.proofs.TableLaws.{closed, closed-distinct, close-missing}
use Rattle.std.specs.Prelude.{Err}
use Rattle.run_state.specs.declared.refusals.UnitRefusal.TheVariants.{NotConnected}
use Rattle.f2c_outside.proofs.PlacedMeaning.{close-means}
use Rattle.f2c_outside.proofs.unit_table.UnitTable.close_unit.Goals as goal

pub invariant_of-self : goal.invariant_of-self
invariant_of-self g c =
    record {
      distinct =
          closed-distinct _ c.args.unit c.args.self.now.rows.items c.in-Some.number c.index_mut.result.now c.close_row.new.row
          c.close_row.result c.args.self.now.distinct
          (subst (λ (unit : ℤ). IsFirst (holds_unit unit) c.args.self.now.rows.items (Some c.in-Some.number)) (to_z-of_z c.ranges.unit)
          (rw c.as_slice.ensures.value at c.in-Some.ensures))
          c.index_mut.ensures.value c.close_row.ensures;
    }

pub returns-in-Some-clause-did : goal.returns-in-Some-clause-did
returns-in-Some-clause-did g c =
    closed _ c.args.unit c.args.self.now.rows.items c.in-Some.number c.index_mut.result.now c.close_row.new.row
    c.close_row.result c.args.self.now.distinct
    (subst (λ (unit : ℤ). IsFirst (holds_unit unit) c.args.self.now.rows.items (Some c.in-Some.number)) (to_z-of_z c.ranges.unit)
    (rw c.as_slice.ensures.value at c.in-Some.ensures))
    c.index_mut.ensures.value c.close_row.ensures

pub returns-in-None-clause-did : goal.returns-in-None-clause-did
returns-in-None-clause-did g c =
    close-missing _ c.args.unit c.args.self.now.rows.items
    (subst (λ (unit : ℤ). IsFirst (holds_unit unit) c.args.self.now.rows.items None) (to_z-of_z c.ranges.unit)
    (rw c.as_slice.ensures.value at c.in-None.ensures))

pub returns-in-Some-clause-means : goal.returns-in-Some-clause-means
returns-in-Some-clause-means g c = close-means c.args.unit _ _ c.close_row.result (returns-in-Some-clause-did g c)

pub returns-in-None-clause-means : goal.returns-in-None-clause-means
returns-in-None-clause-means g c = close-means c.args.unit _ _ (Err NotConnected) (returns-in-None-clause-did g c)
