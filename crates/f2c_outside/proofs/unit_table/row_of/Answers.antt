use Rattle.std.proofs.Common.{◌≡◌, arith, sym, ℤ, true, false, take, to_z, of_z, w32, subst}
use Rattle.std.specs.List.{list_any}
use Rattle.std.proofs.Math.Facts.{to_z-of_z}
use Rattle.f2c_outside.specs.Shown.{holds_unit}
use Rattle.f2c_outside.proofs.TableLaws.{first-here}
use Rattle.f2c_outside.proofs.unit_table.row_of.Goals as goal

pub returns-then-is_at : goal.returns-then-is_at
returns-then-is_at g c =
    let same : to_z w32 (of_z w32 c.args.unit) ≡ c.args.unit = to_z-of_z c.ranges.unit
    in first-here (holds_unit c.args.unit) c.args.rows.now c.loop-number.number c.index-rows-number.result (omega arith)
    c.index-rows-number.is
    (subst (λ (unit : ℤ). holds_unit unit c.index-rows-number.result ≡ true) same (sym c.if-is_at.ensures))
    (subst (λ (unit : ℤ). list_any (holds_unit unit) (take c.loop-number.number c.args.rows.now) ≡ false) same c.loop-number.invariant)
