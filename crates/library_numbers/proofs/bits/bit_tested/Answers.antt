use Rattle.std.proofs.Common.{rules, Ok, ◌/◌, ◌%◌, ◌^◌, FitsSigned, pos, ◌≤ℤ◌, ◌<ℤ◌, arith, ◌∙◌, ap}
use Rattle.std.specs.Prelude.{nat_abs}
use Rattle.std.specs.Int.{w32, cast_signed, cast_unsigned}
use Rattle.std.proofs.lemmas.Int.{ints, to_z-of_z}
use Rattle.library_numbers.proofs.BitLemmas.{test-in, test-above, test-below}
use Rattle.library_numbers.proofs.bits.bit_tested.Goals as goal

pub returns-in-0-to-31 : goal.returns-in-0-to-31
returns-in-0-to-31 c =
    let low : pos 0 ≤ℤ c.args.place = grind (arith, ints) in
    let high : c.args.place <ℤ pos 32 = grind (arith, ints) in
    let fits : FitsSigned w32 c.cast_signed.result = search rules in
    ap Ok (to_z-of_z w32 c.cast_signed.result fits ∙ c.cast_signed.ensures)
    ∙ ap (λ bits. Ok (cast_signed w32 (bits / 2 ^ c.unsigned_abs.result % 2)))
    (c.cast_unsigned.ensures ∙ ap (cast_unsigned w32) (to_z-of_z w32 c.args.number c.ranges.number))
    ∙ test-in c.args.number c.args.place c.unsigned_abs.result low high
    (c.unsigned_abs.ensures.value ∙ ap nat_abs (to_z-of_z w32 c.args.place c.ranges.place))

pub returns-in_default : goal.returns-in_default
returns-in_default c =
    let low : c.args.place <ℤ pos 0 = grind (arith, ints) in test-below c.args.number c.args.place low

pub returns-in_default-2 : goal.returns-in_default-2
returns-in_default-2 c =
    let high : pos 32 ≤ℤ c.args.place = grind (arith, ints) in test-above c.args.number c.args.place high
