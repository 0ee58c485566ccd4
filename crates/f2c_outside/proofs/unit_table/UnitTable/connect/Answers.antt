use Rattle.std.proofs.Common.{ℤ, false, [], ◌∷◌, ap, sym, ◌∙◌}
use Rattle.std.proofs.Math.Facts.{to_z-of_z}
use Rattle.f2c_outside.proofs.TableLaws.{connected-distinct, at-same-unit, any-unit}
use Rattle.f2c_outside.specs.Table.{Connects}
use Rattle.f2c_outside.proofs.PlacedMeaning.{connected-means}
use Rattle.f2c_outside.proofs.unit_table.UnitTable.connect.Goals as goal

pub invariant_of-self : goal.invariant_of-self
invariant_of-self g c =
    record {
      distinct =
          connected-distinct c.args.self.now.rows.items c.push.new.self.items _ c.args.unit _ c.push.ensures.items
          c.args.self.now.distinct
          (sym (any-unit _ c.args.unit c.args.self.now.rows.items)
          ∙ at-same-unit _ c.args.self.now.rows.items _ c.args.unit c.is_connected.result false (to_z-of_z c.ranges.unit) c.is_connected.ensures.is
          c.if-is_connected.false)
          (ap (λ (unit : ℤ). unit ∷ []) (to_z-of_z c.ranges.unit));
    }

pub returns-in-Ok-clause-means : goal.returns-in-Ok-clause-means
returns-in-Ok-clause-means g c =
    connected-means (λ b. (goal.Device-dyn g (b.vtable, b.value)).device_state b.value) c.args.self.now.rows.items
    c.push.new.self.items _ c.args.unit _ c.in-Ok.ensures.items
    (ap (λ (unit : ℤ). Connects unit ((goal.Device-dyn g (c.args.device.vtable, c.args.device.value)).device_state c.args.device.value) false false)
    (to_z-of_z c.ranges.unit))
    (at-same-unit _ c.args.self.now.rows.items _ c.args.unit c.is_connected.result false (to_z-of_z c.ranges.unit) c.is_connected.ensures.is
    c.if-is_connected.false)
