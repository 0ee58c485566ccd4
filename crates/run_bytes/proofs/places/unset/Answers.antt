use Rattle.std.proofs.Common.{◌-◌, ◌+◌, arith}
use Rattle.run_bytes.proofs.PlaceLemmas.{unset-bytes, unset-values}
use Rattle.run_bytes.proofs.places.unset.Goals as goal

pub returns-in-Bytes : goal.returns-in-Bytes
returns-in-Bytes c bytes same =
    unset-bytes c.args.place c.in-Bytes.from c.in-Bytes.len (c.in-Bytes.from + c.in-Bytes.len - c.in-Bytes.from) bytes c.args.marks.now c.fill.new.self c.args.values.now
    c.in-Bytes.is (omega arith) same c.requires.bytes (c.fill.ensures.after (λ y is. is))

pub returns-in-Values : goal.returns-in-Values
returns-in-Values c bytes same =
    unset-values c.args.place c.in-Values.from c.in-Values.len (c.in-Values.from + c.in-Values.len - c.in-Values.from) c.in-Values.holds bytes c.args.marks.now c.args.values.now c.clear.new.values
    c.in-Values.is (omega arith) c.requires.values c.clear.ensures
