-- A product of numbers that stops at the largest.
use Rattle.std.proofs.Common.{◌≡◌, ℕ, zero, suc, ◌*◌, ◌≤◌, ◌<◌, min, inl, inr, sym, ap, ◌∙◌, arith}
use Rattle.std.proofs.Math.Nat.{mul-le-mul_left}
use Rattle.std.proofs.lemmas.Bool.Decides.{leb_tells}

capped : (p q M : ℕ) → M ≤ p → M ≤ q → min p M ≡ min q M
capped p q M one other = omega arith

saturates-below : (p n M : ℕ) → p ≤ M → min (min p M * n) M ≡ min (p * n) M
saturates-below p n M h = let e : min p M ≡ p = omega arith in ap (λ k. min (k * n) M) e

pub grows : (p m : ℕ) → p ≤ p * suc m
grows p m = let one : 1 ≤ suc m = omega arith in omega (arith, mul-le-mul_left p one)

saturates-above : (p n M : ℕ) → M ≤ p → min (min p M * n) M ≡ min (p * n) M
saturates-above p zero M h = let e : min p M * 0 ≡ p * 0 = omega arith in ap (λ k. min k M) e
saturates-above p (suc m) M h =
    let e : min p M ≡ M = omega arith in
    let one : M ≤ M * suc m = grows M m in
    let other : p ≤ p * suc m = grows p m in
    ap (λ k. min (k * suc m) M) e ∙ capped (M * suc m) (p * suc m) M one (omega arith)

-- what has stopped at the largest stays there with a factor more, if that is not 0
pub saturates : (p n M : ℕ) → min (min p M * n) M ≡ min (p * n) M
saturates p n M =
    elim (leb_tells p M) [
      | inl h ↦ saturates-below p n M h.1
      | inr h ↦ saturates-above p n M (let below : M < p = h.1 in omega arith)
    ]

grouped : (a b c : ℕ) → (a * b) * c ≡ a * (b * c)
grouped a b c = omega arith

pub saturates-more : (c s n M : ℕ) → min (c * (s * n)) M ≡ min (min (c * s) M * n) M
saturates-more c s n M = ap (λ k. min k M) (sym (grouped c s n)) ∙ sym (saturates (c * s) n M)
