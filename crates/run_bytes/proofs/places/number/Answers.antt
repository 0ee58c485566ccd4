use Rattle.std.proofs.Common.{◌-◌, ◌+◌, arith}
use Rattle.run_bytes.proofs.PlaceLemmas.{number-read}
use Rattle.run_bytes.proofs.places.number.Goals as goal

pub returns-in-Bytes : goal.returns-in-Bytes
returns-in-Bytes c values =
    number-read c.args.place c.args.offset c.in-Bytes.from c.in-Bytes.len (c.in-Bytes.from + c.in-Bytes.len - c.in-Bytes.from)
    c.args.bytes.now c.args.marks.now values c.number_at.result c.in-Bytes.is (omega arith) c.requires.same c.number_at.ensures
