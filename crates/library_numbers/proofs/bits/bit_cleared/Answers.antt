use Rattle.std.proofs.Common.{pos, ◌≤ℤ◌, ◌<ℤ◌, arith, ◌∙◌, ap}
use Rattle.std.specs.Prelude.{nat_abs}
use Rattle.std.specs.Int.{w32}
use Rattle.std.proofs.lemmas.Int.{ints, to_z-of_z}
use Rattle.library_numbers.proofs.BitLemmas.{clear-in, clear-above, clear-below}
use Rattle.library_numbers.proofs.bits.bit_cleared.Goals as goal

pub returns-in-0-to-31 : goal.returns-in-0-to-31
returns-in-0-to-31 c =
    let low : pos 0 ≤ℤ c.args.place = grind (arith, ints) in
    let high : c.args.place <ℤ pos 32 = grind (arith, ints) in
    clear-in c.args.number c.args.place c.unsigned_abs.result low high
    (c.unsigned_abs.ensures.value ∙ ap nat_abs (to_z-of_z w32 c.args.place c.ranges.place))

pub returns-in_default : goal.returns-in_default
returns-in_default c =
    let low : c.args.place <ℤ pos 0 = grind (arith, ints) in clear-below c.args.number c.args.place low

pub returns-in_default-2 : goal.returns-in_default-2
returns-in_default-2 c =
    let high : pos 32 ≤ℤ c.args.place = grind (arith, ints) in clear-above c.args.number c.args.place high
