use Rattle.std.proofs.Common.{set, refl, arith}
use Rattle.f2c_outside.proofs.TapeLaws.{replaced-records}
use Rattle.f2c_outside.proofs.memory_device.write_at.Goals as goal

pub returns-else-position-len-clause-ok : goal.returns-else-position-len-clause-ok
returns-else-position-len-clause-ok c =
    replaced-records (λ r. r.items) c.args.records.now.items (set c.args.records.now.items c.args.position c.in_ok-record.record)
    c.truncate.new.self.items c.in_ok-record.record c.args.position c.args.bytes.now (grind arith) refl c.truncate.ensures.items
    c.in_ok-record.ensures.items
