use Rattle.std.proofs.Common.{◌≡◌, ◌-◌, suc, pos, negsuc, true, false, arith}
use Rattle.std.proofs.lemmas.Int.{ints}
use Rattle.library_numbers.proofs.PowerLemmas.{inverse-one, inverse-minus_one, inverse-small}
use Rattle.library_numbers.proofs.integers.inverse_power.Goals as goal

pub returns-in-1 : goal.returns-in-1
returns-in-1 c = let is : c.args.base ≡ pos 1 = grind (arith, ints) in inverse-one c.args.base (c.args.exponent - 1) is

pub returns-then-exponent-eq0 : goal.returns-then-exponent-eq0
returns-then-exponent-eq0 c =
    let is : c.args.base ≡ negsuc 0 = grind (arith, ints) in
    let more : suc (c.args.exponent - 1) ≡ c.args.exponent = omega arith in
    inverse-minus_one c.args.base (c.args.exponent - 1) c.args.exponent true is more (grind arith)

pub returns-else-exponent-eq0 : goal.returns-else-exponent-eq0
returns-else-exponent-eq0 c =
    let is : c.args.base ≡ negsuc 0 = grind (arith, ints) in
    let more : suc (c.args.exponent - 1) ≡ c.args.exponent = omega arith in
    inverse-minus_one c.args.base (c.args.exponent - 1) c.args.exponent false is more (grind arith)

pub returns-in_default : goal.returns-in_default
returns-in_default c =
    let not_zero : (c.args.base ≡ pos 0 → ⊥) = λ (h : c.args.base ≡ pos 0). grind (arith, ints) in
    let not_one : (c.args.base ≡ pos 1 → ⊥) = λ (h : c.args.base ≡ pos 1). grind (arith, ints) in
    let not_minus : (c.args.base ≡ negsuc 0 → ⊥) = λ (h : c.args.base ≡ negsuc 0). grind (arith, ints) in
    inverse-small c.args.base (c.args.exponent - 1) not_zero not_one not_minus
