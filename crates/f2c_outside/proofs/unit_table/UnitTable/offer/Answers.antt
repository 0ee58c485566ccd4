use Rattle.std.proofs.Common.{refl}
use Rattle.f2c_outside.proofs.TableLaws.{offered-distinct}
use Rattle.f2c_outside.proofs.PlacedMeaning.{offered-means}
use Rattle.f2c_outside.proofs.unit_table.UnitTable.offer.Goals as goal

pub invariant_of-self : goal.invariant_of-self
invariant_of-self g c =
    record {
      distinct =
          offered-distinct c.args.self.now.rows.items c.push.new.self.items _ _ c.push.ensures.items c.args.self.now.distinct refl;
    }

pub returns-in-Ok-clause-means : goal.returns-in-Ok-clause-means
returns-in-Ok-clause-means g c =
    offered-means (λ b. (goal.Device-dyn g (b.vtable, b.value)).device_state b.value) c.args.self.now.rows.items
    c.push.new.self.items _ c.args.name _ c.in-Ok.ensures.items refl
