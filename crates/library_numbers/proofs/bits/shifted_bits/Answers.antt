use Rattle.std.proofs.Common.{rules, ℕ, pos, negsuc, Ok, ◌≤ℤ◌, ◌<ℤ◌, ◌/◌, ◌^◌, FitsSigned, arith, ◌∙◌, ap}
use Rattle.std.specs.Prelude.{nat_abs}
use Rattle.std.specs.Int.{w32, int_shl, cast_signed, cast_unsigned}
use Rattle.std.proofs.lemmas.Int.{ints, to_z-of_z}
use Rattle.library_numbers.proofs.BitLemmas.{shift-left, shift-right, shift-too_far, shift-too_low}
use Rattle.library_numbers.proofs.bits.shifted_bits.Goals as goal

pub returns-in-minus32-to-minus1 : goal.returns-in-minus32-to-minus1
returns-in-minus32-to-minus1 c =
    let low : c.args.count <ℤ pos 0 = grind (arith, ints) in
    let high : negsuc 31 ≤ℤ c.args.count = grind (arith, ints) in
    let fits : FitsSigned w32 c.shifted_right.result = search rules in
    ap Ok (to_z-of_z w32 c.shifted_right.result fits ∙ c.shifted_right.ensures)
    ∙ ap (λ z. Ok (cast_signed w32 (cast_unsigned w32 z / 2 ^ c.unsigned_abs.result))) (to_z-of_z w32 c.args.number c.ranges.number)
    ∙ shift-right c.args.number c.args.count c.unsigned_abs.result low high
    (c.unsigned_abs.ensures.value ∙ ap nat_abs (to_z-of_z w32 c.args.count c.ranges.count))

pub returns-in-0-to-32 : goal.returns-in-0-to-32
returns-in-0-to-32 c =
    let low : pos 0 ≤ℤ c.args.count = grind (arith, ints) in
    let high : c.args.count ≤ℤ pos 32 = grind (arith, ints) in
    let size : ℕ = c.unsigned_abs-in-0-to-32.result in
    let fits : FitsSigned w32 c.shifted_left.result = search rules in
    ap Ok (to_z-of_z w32 c.shifted_left.result fits ∙ c.shifted_left.ensures)
    ∙ ap (λ z. Ok (int_shl w32 z size)) (to_z-of_z w32 c.args.number c.ranges.number)
    ∙ shift-left c.args.number c.args.count size low high
    (c.unsigned_abs-in-0-to-32.ensures.value ∙ ap nat_abs (to_z-of_z w32 c.args.count c.ranges.count))

pub returns-in_default : goal.returns-in_default
returns-in_default c =
    let low : c.args.count <ℤ negsuc 31 = grind (arith, ints) in shift-too_low c.args.number c.args.count low

pub returns-in_default-2 : goal.returns-in_default-2
returns-in_default-2 c =
    let high : pos 32 <ℤ c.args.count = grind (arith, ints) in shift-too_far c.args.number c.args.count high
