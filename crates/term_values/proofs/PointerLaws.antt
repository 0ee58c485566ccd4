-- Where pointers move to (C89, 3.3.6).
use Rattle.std.specs.Prelude.{◌≡◌, ℕ, ◌<◌, ◌≤◌, ◌^◌, ℤ, pos, negsuc, unsigned_abs, int_le, true, false, ◌&&◌, Option, Some, None, option_map, Ok, if◌then◌else◌}
use Rattle.std.specs.Int.{w64, FitsUnsigned}
use Rattle.std.proofs.Common.{refl, ap, sym, ◌∙◌, arith}
use Rattle.std.proofs.lemmas.Bool.Decides.{nat_tests}
use Rattle.std.proofs.lemmas.Int.{ints}
use Rattle.c_tree.specs.declared.outcome.CValue.TheVariants.{Pointer}
use Rattle.c_tree.specs.declared.outcome.CFault.TheVariants.{Outside}
use Rattle.c_tree.specs.Faults.{failing}
use Rattle.c_tree.specs.Objects.{Object, extent}
use Rattle.c_tree.specs.Values.{pointer_at}
use Rattle.term_values.specs.Within.{extent_of}

test_in : (n most : ℕ) → n ≤ most → int_le (pos 0) (pos n) && int_le (pos n) (pos most) ≡ true
test_in n most h = grind (arith, nat_tests)

test_past : (n most : ℕ) → (n ≤ most → ⊥) → int_le (pos 0) (pos n) && int_le (pos n) (pos most) ≡ false
test_past n most h = grind (arith, nat_tests)

-- in its object, or just past its end
pub pointer-in : (object n most : ℕ) (z : ℤ) (found : Option Object) → FitsUnsigned w64 z → n ≡ unsigned_abs z → n ≤ most → Some most ≡ option_map extent found →
    Ok (Pointer object n) ≡ pointer_at object z found
pointer-in object n most (pos m) None f e h is = cc
pointer-in object n most (pos m) (Some o) f e h is =
    let size : most ≡ extent o = cc in
    let low : m ≤ extent o = omega arith in
    ap (λ k. Ok (Pointer object k)) e
    ∙ sym (ap (λ test. if test then Ok (Pointer object m) else failing Outside) (test_in m (extent o) low))
pointer-in object n most (negsuc m) found f e h is = absurd (omega (arith, ints))

pub pointer-past : (object n most : ℕ) (z : ℤ) (found : Option Object) → FitsUnsigned w64 z → n ≡ unsigned_abs z → (n ≤ most → ⊥) → Some most ≡ option_map extent found →
    failing Outside ≡ pointer_at object z found
pointer-past object n most (pos m) None f e h is = refl
pointer-past object n most (pos m) (Some o) f e h is =
    let size : most ≡ extent o = cc in
    let high : m ≤ extent o → ⊥ = λ k. h (omega arith) in
    sym (ap (λ test. if test then Ok (Pointer object m) else failing Outside) (test_past m (extent o) high))
pointer-past object n most (negsuc m) found f e h is = absurd (omega (arith, ints))

pub pointer-unfit : (object most : ℕ) (z : ℤ) (found : Option Object) → (FitsUnsigned w64 z → ⊥) → most < 2 ^ 64 → Some most ≡ option_map extent found →
    failing Outside ≡ pointer_at object z found
pointer-unfit object most z None f h is = refl
pointer-unfit object most (pos m) (Some o) f h is =
    let size : most ≡ extent o = cc in
    let high : m ≤ extent o → ⊥ = λ k. f (omega (arith, ints), omega (arith, ints)) in
    sym (ap (λ test. if test then Ok (Pointer object m) else failing Outside) (test_past m (extent o) high))
pointer-unfit object most (negsuc m) (Some o) f h is = refl

pub pointer-nowhere : (object : ℕ) (z : ℤ) (found : Option Object) → None ≡ option_map extent found → failing Outside ≡ pointer_at object z found
pointer-nowhere object z None is = refl
pointer-nowhere object z (Some o) is = cc

pub ruleset pointer_laws = (pointer-in, pointer-past, pointer-unfit, pointer-nowhere)

-- an offset within an object is small, and 0 where there is none
pub offset-small : (n most : ℕ) (found : Option Object) → n ≤ extent_of found → Some most ≡ option_map extent found → most < 2 ^ 63 → n < 2 ^ 63
offset-small n most None h is small = cc
offset-small n most (Some o) h is small = let size : most ≡ extent o = cc in omega arith

pub offset-nowhere : (n : ℕ) (found : Option Object) → n ≤ extent_of found → None ≡ option_map extent found → n ≡ 0
offset-nowhere n None h is = omega arith
offset-nowhere n (Some o) h is = cc

pub ruleset offset_laws = (offset-small, offset-nowhere)
