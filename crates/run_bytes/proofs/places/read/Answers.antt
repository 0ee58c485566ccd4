use Rattle.std.proofs.Common.{◌-◌, ◌+◌, ap, sym, ◌∙◌, arith}
use Rattle.c_tree.specs.Objects as objects
use Rattle.run_bytes.specs.Accesses.{access_of}
use Rattle.run_bytes.proofs.PlaceLemmas.{bytes-read, value-read}
use Rattle.run_bytes.proofs.places.read.Goals as goal

pub returns-in-Bytes : goal.returns-in-Bytes
returns-in-Bytes c =
    c.read_bytes.ensures
    ∙ bytes-read c.args.place (access_of c.args.access) c.args.offset c.in-Bytes.from c.in-Bytes.len (c.in-Bytes.from + c.in-Bytes.len - c.in-Bytes.from)
    c.args.bytes.now c.args.marks.now c.args.values.now c.in-Bytes.is (omega arith) c.requires.same

pub returns-then-holds : goal.returns-then-holds
returns-then-holds c =
    c.read_held.ensures ∙ ap (objects.read_held (access_of c.args.access)) c.value_at.ensures
    ∙ value-read c.args.place (access_of c.args.access) c.in-Values.holds c.args.offset c.in-Values.from c.in-Values.len (c.in-Values.from + c.in-Values.len - c.in-Values.from)
    c.args.bytes.now c.args.marks.now c.args.values.now c.in-Values.is (omega arith) (sym (c.if-holds.ensures))
