use Rattle.std.proofs.Common.{ℤ, Some, None, subst}
use Rattle.std.proofs.Math.Facts.{to_z-of_z}
use Rattle.f2c_outside.specs.Shown.{holds_unit}
use Rattle.f2c_outside.specs.Table.{IsFirst}
use Rattle.f2c_outside.proofs.TableLaws.{on-unit, not-on-unit, still-distinct, past-or-failed-only}
use Rattle.std.specs.Prelude.{Err}
use Rattle.run_state.specs.declared.refusals.UnitRefusal.TheVariants.{NotConnected}
use Rattle.f2c_outside.proofs.MeaningLaws.{write-means}
use Rattle.f2c_outside.proofs.unit_table.UnitTable.write_to.Goals as goal

pub invariant_of-self : goal.invariant_of-self
invariant_of-self g c =
    record {
      distinct =
          still-distinct _ c.args.unit c.args.self.now.rows.items c.in-Some.number c.index_mut.result.now c.write_row.new.row _
          c.args.self.now.distinct
          (subst (λ (unit : ℤ). IsFirst (holds_unit unit) c.args.self.now.rows.items (Some c.in-Some.number)) (to_z-of_z c.ranges.unit)
          (rw c.as_slice.ensures.value at c.in-Some.ensures))
          c.index_mut.ensures.value c.write_row.ensures;
    }

pub returns-in-Some-clause-did : goal.returns-in-Some-clause-did
returns-in-Some-clause-did g c =
    on-unit _ c.args.unit c.args.self.now.rows.items c.in-Some.number c.index_mut.result.now c.write_row.new.row c.write_row.result _
    c.args.self.now.distinct
    (subst (λ (unit : ℤ). IsFirst (holds_unit unit) c.args.self.now.rows.items (Some c.in-Some.number)) (to_z-of_z c.ranges.unit)
    (rw c.as_slice.ensures.value at c.in-Some.ensures))
    c.index_mut.ensures.value c.write_row.ensures (λ d m d' m' did. past-or-failed-only c.write_row.result did.refused)

pub returns-in-None-clause-did : goal.returns-in-None-clause-did
returns-in-None-clause-did g c =
    not-on-unit _ c.args.unit c.args.self.now.rows.items _
    (subst (λ (unit : ℤ). IsFirst (holds_unit unit) c.args.self.now.rows.items None) (to_z-of_z c.ranges.unit)
    (rw c.as_slice.ensures.value at c.in-None.ensures))

pub returns-in-Some-clause-means : goal.returns-in-Some-clause-means
returns-in-Some-clause-means g c =
    write-means c.args.unit c.args.bytes.now _ _ c.write_row.result (returns-in-Some-clause-did g c)

pub returns-in-None-clause-means : goal.returns-in-None-clause-means
returns-in-None-clause-means g c = write-means c.args.unit c.args.bytes.now _ _ (Err NotConnected) (returns-in-None-clause-did g c)
