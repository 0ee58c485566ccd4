use Rattle.std.proofs.Common.{◌-◌, ◌+◌, Some, refl, arith}
use Rattle.c_tree.specs.Objects.{with_bytes}
use Rattle.c_tree.specs.LibraryArguments.{with_text}
use Rattle.run_bytes.proofs.PlaceLemmas.{written-bytes, inside-bytes}
use Rattle.run_bytes.proofs.places.put_text.Goals as goal

pub returns-in-Bytes : goal.returns-in-Bytes
returns-in-Bytes c values =
    written-bytes c.args.place (λ object. with_text c.args.offset c.args.text.now (Some object)) (with_bytes c.args.offset c.args.text.now) (λ cells. refl)
    c.in-Bytes.from c.in-Bytes.len (c.in-Bytes.from + c.in-Bytes.len - c.in-Bytes.from)
    c.args.bytes.now c.put_bytes.new.bytes c.args.marks.now c.put_bytes.new.marks values c.put_bytes.result c.in-Bytes.is (omega arith) c.requires.same
    (inside-bytes c.args.place c.in-Bytes.from c.in-Bytes.len c.args.bytes.now values c.in-Bytes.is c.requires.inside)
    c.put_bytes.auto.bytes c.put_bytes.auto.marks c.put_bytes.ensures
