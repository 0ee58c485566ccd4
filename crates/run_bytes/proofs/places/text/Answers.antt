use Rattle.std.proofs.Common.{◌-◌, ◌+◌, ◌∙◌, arith}
use Rattle.run_bytes.proofs.PlaceLemmas.{text-read}
use Rattle.run_bytes.proofs.places.text.Goals as goal

pub returns-in-Bytes : goal.returns-in-Bytes
returns-in-Bytes c values =
    c.bytes_at.ensures.found
    ∙ text-read c.args.place c.args.offset c.args.count c.in-Bytes.from c.in-Bytes.len (c.in-Bytes.from + c.in-Bytes.len - c.in-Bytes.from)
    c.args.bytes.now c.args.marks.now values c.in-Bytes.is (omega arith) c.requires.same
