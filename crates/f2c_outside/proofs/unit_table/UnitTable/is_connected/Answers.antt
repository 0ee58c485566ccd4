use Rattle.std.proofs.Common.{sym, ◌∙◌, subst, ℤ}
use Rattle.std.proofs.Math.Facts.{to_z-of_z}
use Rattle.f2c_outside.specs.Shown.{holds_unit}
use Rattle.f2c_outside.specs.Table.{IsFirst}
use Rattle.f2c_outside.proofs.TableLaws.{found-any, any-unit}
use Rattle.f2c_outside.specs.Rows.{rows_of}
use Rattle.f2c_outside.proofs.PlacedMeaning.{connected-some}
use Rattle.f2c_outside.proofs.unit_table.UnitTable.is_connected.Goals as goal

pub returns-clause-is : goal.returns-clause-is
returns-clause-is g c =
    rw c.is_some.ensures
    (found-any (holds_unit c.args.unit) c.args.self.now.rows.items c.row_of.result
    (subst (λ (unit : ℤ). IsFirst (holds_unit unit) c.args.self.now.rows.items c.row_of.result) (to_z-of_z c.ranges.unit)
    (rw c.as_slice.ensures.value at c.row_of.ensures))
    ∙ sym (any-unit _ c.args.unit c.args.self.now.rows.items))

pub returns-clause-means : goal.returns-clause-means
returns-clause-means g c = returns-clause-is g c ∙ sym (connected-some (rows_of (λ b. (goal.Device-dyn g (b.vtable, b.value)).device_state b.value) c.args.self.now) c.args.unit)
