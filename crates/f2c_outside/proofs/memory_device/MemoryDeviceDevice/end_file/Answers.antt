use Rattle.std.proofs.Common.{Some, ap, refl}
use Rattle.f2c_outside.proofs.TapeLaws.{cut-records}
use Rattle.f2c_outside.proofs.memory_device.MemoryDeviceDevice.end_file.Goals as goal

pub returns-clause-ended : goal.returns-clause-ended
returns-clause-ended c =
    rw (← c.self.view_is)
    (record {
      told =
          ap Some
          (cut-records (λ r. r.items) c.self.inside.records.items c.truncate.new.self.items c.self.inside.position
          c.truncate.ensures.items);
      position = refl;
      finished = refl;
      tells = refl;
    })
