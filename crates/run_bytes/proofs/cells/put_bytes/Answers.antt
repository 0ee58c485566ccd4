use Rattle.std.proofs.Common.{◌≡◌, ◌-◌, length, refl, arith}
use Rattle.run_bytes.proofs.CellLemmas.{put-inside, put-outside}
use Rattle.run_bytes.proofs.cells.put_bytes.Goals as goal

pub returns-in-Some : goal.returns-in-Some
returns-in-Some c =
    let count : c.in-Some.end - c.args.offset ≡ length c.args.new.now = omega (arith, (c.in-Some.ensures).1) in
    put-inside c.args.bytes.now c.args.new.now c.copy_from_slice.new.self c.args.marks.now c.fill.new.self c.args.offset (c.in-Some.end - c.args.offset)
    c.requires (c.in-Some.ensures).0 count c.copy_from_slice.ensures.after (c.fill.ensures.after (λ y is. is))

pub returns-in-None : goal.returns-in-None
returns-in-None c =
    (put-outside c.args.bytes.now c.args.new.now c.args.marks.now c.args.offset c.requires c.in-None.ensures, refl, refl)
