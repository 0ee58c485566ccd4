use Rattle.std.proofs.Common.{true, false}
use Rattle.std.proofs.Math.Facts.{to_z-of_z}
use Rattle.f2c_outside.proofs.TableLaws.{open-taken, open-nothing, opened, opened-distinct, at-same-unit, becomes-same}
use Rattle.std.specs.Prelude.{Ok, Err}
use Rattle.run_state.specs.declared.refusals.UnitRefusal.TheVariants.{NotOffered, Taken}
use Rattle.f2c_outside.proofs.PlacedMeaning.{open-means}
use Rattle.f2c_outside.proofs.unit_table.UnitTable.open_unit.Goals as goal

pub returns-then-is_connected-clause-did : goal.returns-then-is_connected-clause-did
returns-then-is_connected-clause-did g c =
    open-taken _ c.args.name.now c.args.unit c.args.zero_blanks c.args.self.now.rows.items
    (at-same-unit _ c.args.self.now.rows.items _ c.args.unit c.is_connected.result true (to_z-of_z c.ranges.unit) c.is_connected.ensures.is c.if-is_connected.true)

pub invariant_of-self : goal.invariant_of-self
invariant_of-self g c =
    record {
      distinct =
          opened-distinct _ c.args.name.now c.args.unit c.args.zero_blanks c.args.self.now.rows.items c.in-Some.number
          c.index_mut.result.now c.connect_row.new.row c.args.self.now.distinct
          (at-same-unit _ c.args.self.now.rows.items _ c.args.unit c.is_connected.result false (to_z-of_z c.ranges.unit) c.is_connected.ensures.is c.if-is_connected.false)
          (rw c.as_slice.ensures.value at c.in-Some.ensures) c.index_mut.ensures.value
          (becomes-same _ c.args.unit c.args.zero_blanks _ _ (to_z-of_z c.ranges.unit) c.connect_row.ensures);
    }

pub returns-in-Some-clause-did : goal.returns-in-Some-clause-did
returns-in-Some-clause-did g c =
    opened _ c.args.name.now c.args.unit c.args.zero_blanks c.args.self.now.rows.items c.in-Some.number
    c.index_mut.result.now c.connect_row.new.row _
    (at-same-unit _ c.args.self.now.rows.items _ c.args.unit c.is_connected.result false (to_z-of_z c.ranges.unit) c.is_connected.ensures.is c.if-is_connected.false)
    (rw c.as_slice.ensures.value at c.in-Some.ensures) c.index_mut.ensures.value
    (becomes-same _ c.args.unit c.args.zero_blanks _ _ (to_z-of_z c.ranges.unit) c.connect_row.ensures)

pub returns-in-None-clause-did : goal.returns-in-None-clause-did
returns-in-None-clause-did g c =
    open-nothing _ c.args.name.now c.args.unit c.args.zero_blanks c.args.self.now.rows.items
    (at-same-unit _ c.args.self.now.rows.items _ c.args.unit c.is_connected.result false (to_z-of_z c.ranges.unit) c.is_connected.ensures.is c.if-is_connected.false)
    (rw c.as_slice.ensures.value at c.in-None.ensures)

pub returns-then-is_connected-clause-means : goal.returns-then-is_connected-clause-means
returns-then-is_connected-clause-means g c =
    open-means c.args.unit c.args.name.now c.args.zero_blanks _ _ (Err Taken) (returns-then-is_connected-clause-did g c)

pub returns-in-Some-clause-means : goal.returns-in-Some-clause-means
returns-in-Some-clause-means g c =
    open-means c.args.unit c.args.name.now c.args.zero_blanks _ _ (Ok tt) (returns-in-Some-clause-did g c)

pub returns-in-None-clause-means : goal.returns-in-None-clause-means
returns-in-None-clause-means g c =
    open-means c.args.unit c.args.name.now c.args.zero_blanks _ _ (Err NotOffered) (returns-in-None-clause-did g c)
