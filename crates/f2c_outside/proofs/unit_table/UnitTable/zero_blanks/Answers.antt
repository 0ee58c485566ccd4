use Rattle.std.proofs.Common.{ℤ, Some, None, subst, ◌∙◌}
use Rattle.std.proofs.Math.Facts.{to_z-of_z}
use Rattle.f2c_outside.specs.Shown.{holds_unit}
use Rattle.f2c_outside.specs.Table.{IsFirst}
use Rattle.f2c_outside.proofs.TableLaws.{zeros-found, zeros-missing}
use Rattle.f2c_outside.specs.Rows.{rows_of}
use Rattle.f2c_outside.proofs.PlacedMeaning.{zeros-mean}
use Rattle.f2c_outside.proofs.unit_table.UnitTable.zero_blanks.Goals as goal

pub returns-in-Some-clause-is : goal.returns-in-Some-clause-is
returns-in-Some-clause-is g c =
    rw c.reads_zeros.ensures
    (zeros-found _ c.args.unit c.args.self.now.rows.items c.in-Some.number c.index.result.now
    (subst (λ (unit : ℤ). IsFirst (holds_unit unit) c.args.self.now.rows.items (Some c.in-Some.number)) (to_z-of_z c.ranges.unit)
    (rw c.as_slice.ensures.value at c.in-Some.ensures))
    c.index.ensures)

pub returns-in-None-clause-is : goal.returns-in-None-clause-is
returns-in-None-clause-is g c =
    zeros-missing _ c.args.unit c.args.self.now.rows.items
    (subst (λ (unit : ℤ). IsFirst (holds_unit unit) c.args.self.now.rows.items None) (to_z-of_z c.ranges.unit)
    (rw c.as_slice.ensures.value at c.in-None.ensures))

pub returns-in-Some-clause-means : goal.returns-in-Some-clause-means
returns-in-Some-clause-means g c = returns-in-Some-clause-is g c ∙ zeros-mean (rows_of (λ b. (goal.Device-dyn g (b.vtable, b.value)).device_state b.value) c.args.self.now) c.args.unit

pub returns-in-None-clause-means : goal.returns-in-None-clause-means
returns-in-None-clause-means g c = returns-in-None-clause-is g c ∙ zeros-mean (rows_of (λ b. (goal.Device-dyn g (b.vtable, b.value)).device_state b.value) c.args.self.now) c.args.unit
