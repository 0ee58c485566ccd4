-- The order of texts by their bytes, as the code computes it: first what both have, then the rest of the longer one
-- against blanks.
use Rattle.std.proofs.Common.{◌≡◌, ℕ, zero, suc, ◌+◌, ◌-◌, ◌<◌, ◌≤◌, min, ℤ, pos, negsuc, Bool, true, false, if◌then◌else◌, List, [], ◌∷◌, length, take, drop, get_or, refl, ap, sym, subst, ◌∙◌, arith, drop-cons, length-drop}
use Rattle.std.specs.Prelude.{neg_ℤ, ◌-ℤ◌, nat_lt, FitsSigned, ◌==◌, cond}
use Rattle.std.specs.Int.{w32, cast_signed, cast_unsigned}
use Rattle.std.proofs.lemmas.Int.{ints, to_z-of_z}
use Rattle.std.specs.Ordering.{nat_cmp, ordering_then}
use Rattle.std.specs.declared.cmp.Ordering.{Ordering}
use Rattle.std.specs.declared.cmp.Ordering.TheVariants.{Less, Equal, Greater}
use Rattle.std.specs.Cmp.Lexicographic.{slice_cmp}
use Rattle.std.proofs.lemmas.List.{take_all, drop_all}
use Rattle.std.proofs.lemmas.Bool.Decides.{nat_tests}
use Rattle.c_tree.specs.LibraryTexts.{sign_of, against_blanks, blanks_against, comparison}

sign-less : (a b : ℕ) (rest : ℤ) → a < b → sign_of a b rest ≡ negsuc 0
sign-less a b rest h = let is : nat_lt a b ≡ true = grind (arith, nat_tests) in ap (λ less. if less then negsuc 0 else if nat_lt b a then pos 1 else rest) is

sign-more : (a b : ℕ) (rest : ℤ) → b < a → sign_of a b rest ≡ pos 1
sign-more a b rest h =
    let is : nat_lt b a ≡ true = grind (arith, nat_tests) in
    let other : nat_lt a b ≡ false = grind (arith, nat_tests) in
    ap (λ less. if less then negsuc 0 else if nat_lt b a then pos 1 else rest) other ∙ ap (λ more. if more then pos 1 else rest) is

sign-same : (a b : ℕ) (rest : ℤ) → a ≡ b → sign_of a b rest ≡ rest
sign-same a b rest h =
    let is : nat_lt b a ≡ false = grind (arith, nat_tests) in
    let other : nat_lt a b ≡ false = grind (arith, nat_tests) in
    ap (λ less. if less then negsuc 0 else if nat_lt b a then pos 1 else rest) other ∙ ap (λ more. if more then pos 1 else rest) is

-- A TEXT AND AS MANY BLANKS
opened : (text : List ℕ) (i : ℕ) → i < length text → against_blanks (drop i text) ≡ sign_of (get_or text i 0) 32 (against_blanks (drop (i + 1) text))
opened text i h =
    let next : suc i ≡ i + 1 = omega arith in
    ap against_blanks (drop-cons text i 0 h) ∙ ap (λ n. sign_of (get_or text i 0) 32 (against_blanks (drop n text))) next

pub blank-step : (text : List ℕ) (i : ℕ) → i < length text → get_or text i 0 ≡ 32 → against_blanks (drop (i + 1) text) ≡ against_blanks (drop i text)
blank-step text i h is = sym (opened text i h ∙ sign-same (get_or text i 0) 32 (against_blanks (drop (i + 1) text)) is)

pub low-step : (text : List ℕ) (i : ℕ) → i < length text → get_or text i 0 < 32 → against_blanks (drop i text) ≡ negsuc 0
low-step text i h low = opened text i h ∙ sign-less (get_or text i 0) 32 (against_blanks (drop (i + 1) text)) low

pub high-step : (text : List ℕ) (i : ℕ) → i < length text → 32 < get_or text i 0 → against_blanks (drop i text) ≡ pos 1
high-step text i h high = opened text i h ∙ sign-more (get_or text i 0) 32 (against_blanks (drop (i + 1) text)) high

pub blanks-end : (text : List ℕ) (i : ℕ) → length text ≤ i → against_blanks (drop i text) ≡ pos 0
blanks-end text i h = ap against_blanks (drop_all i text h)

pub ruleset blank_laws = (blank-step, low-step, high-step, blanks-end)

-- the other way round
flipped : (b : ℕ) (there back : ℤ) → there ≡ neg_ℤ back → sign_of 32 b there ≡ neg_ℤ (sign_of b 32 back)
flipped b there back h = by (nat_lt b 32) (nat_lt 32 b) refl refl
  where
    by : (less more : Bool) → nat_lt b 32 ≡ less → nat_lt 32 b ≡ more →
        (if more then negsuc 0 else if less then pos 1 else there) ≡ neg_ℤ (if less then negsuc 0 else if more then pos 1 else back)
    by true true p q = absurd (grind (arith, nat_tests))
    by true false p q = refl
    by false true p q = refl
    by false false p q = h

pub blanks-flipped : (text : List ℕ) → blanks_against text ≡ neg_ℤ (against_blanks text)
blanks-flipped [] = refl
blanks-flipped (byte ∷ later) = flipped byte (blanks_against later) (against_blanks later) (blanks-flipped later)

fits-sign : (less more : Bool) (rest : ℤ) → FitsSigned w32 (neg_ℤ rest) → FitsSigned w32 (neg_ℤ (if less then negsuc 0 else if more then pos 1 else rest))
fits-sign true more rest h = record { sfits = omega arith }
fits-sign false true rest h = record { sfits = omega arith }
fits-sign false false rest h = h

-- the order of blanks and a text fits its type
pub blanks-fit : (text : List ℕ) → FitsSigned w32 (neg_ℤ (against_blanks text))
blanks-fit [] = record { sfits = omega arith }
blanks-fit (byte ∷ later) = fits-sign (nat_lt byte 32) (nat_lt 32 byte) (against_blanks later) (blanks-fit later)

-- WHAT BOTH TEXTS HAVE
-- what the order of the fronts decides
unfoldable pub by_order : Ordering → ℤ → ℤ
by_order Less rest = negsuc 0
by_order Equal rest = rest
by_order Greater rest = pos 1

one-step : (a b : ℕ) (less same : Bool) → nat_lt a b ≡ less → (a == b) ≡ same → (order : Ordering) (rest whole : ℤ) →
    whole ≡ by_order order rest → sign_of a b whole ≡ by_order (ordering_then (cond less Less (cond same Equal Greater)) order) rest
unfolding by_order
one-step a b true same p q order rest whole h = sign-less a b whole (grind (arith, nat_tests))
one-step a b false true p q order rest whole h = sign-same a b whole (grind (arith, nat_tests)) ∙ h
one-step a b false false p q order rest whole h = sign-more a b whole (grind (arith, nat_tests))

pub fronts : (n : ℕ) (left right : List ℕ) → n ≤ length left → n ≤ length right →
    comparison left right ≡ by_order (slice_cmp nat_cmp (take n left) (take n right)) (comparison (drop n left) (drop n right))
unfolding by_order
fronts zero left right h k = refl
fronts (suc n) [] right h k = absurd (omega arith)
fronts (suc n) (a ∷ left) [] h k = absurd (omega arith)
fronts (suc n) (a ∷ left) (b ∷ right) h k =
    one-step a b (nat_lt a b) (a == b) refl refl (slice_cmp nat_cmp (take n left) (take n right)) (comparison (drop n left) (drop n right)) (comparison left right)
    (fronts n left right (omega arith) (omega arith))

-- where the fronts differ
pub before : (n : ℕ) (left right : List ℕ) → n ≡ min (length left) (length right) → Less ≡ slice_cmp nat_cmp (take n left) (take n right) → negsuc 0 ≡ comparison left right
unfolding by_order
before n left right h is =
    sym (fronts n left right (omega arith) (omega arith) ∙ ap (λ order. by_order order (comparison (drop n left) (drop n right))) (sym is))

pub behind : (n : ℕ) (left right : List ℕ) → n ≡ min (length left) (length right) → Greater ≡ slice_cmp nat_cmp (take n left) (take n right) → pos 1 ≡ comparison left right
unfolding by_order
behind n left right h is =
    sym (fronts n left right (omega arith) (omega arith) ∙ ap (λ order. by_order order (comparison (drop n left) (drop n right))) (sym is))

alike : (n : ℕ) (left right : List ℕ) → n ≡ min (length left) (length right) → Equal ≡ slice_cmp nat_cmp (take n left) (take n right) →
    comparison (drop n left) (drop n right) ≡ comparison left right
unfolding by_order
alike n left right h is =
    sym (fronts n left right (omega arith) (omega arith) ∙ ap (λ order. by_order order (comparison (drop n left) (drop n right))) (sym is))

against-none : (text : List ℕ) → against_blanks text ≡ comparison text []
against-none [] = refl
against-none (byte ∷ later) = refl

whole-rest : (n : ℕ) (text : List ℕ) → take (length text - n) (drop n text) ≡ drop n text
whole-rest n text = take_all (length text - n) (drop n text) (omega (arith, length-drop n text))

-- where the first text is longer, and where it is not
pub longer : (n : ℕ) (left right : List ℕ) → n ≡ min (length left) (length right) → Equal ≡ slice_cmp nat_cmp (take n left) (take n right) → n < length left →
    against_blanks (take (length left - n) (drop n left)) ≡ comparison left right
longer n left right h is more =
    ap against_blanks (whole-rest n left) ∙ against-none (drop n left)
    ∙ ap (comparison (drop n left)) (sym (drop_all n right (omega arith))) ∙ alike n left right h is

pub shorter : (n : ℕ) (left right : List ℕ) → n ≡ min (length left) (length right) → Equal ≡ slice_cmp nat_cmp (take n left) (take n right) → length left ≤ n →
    neg_ℤ (against_blanks (take (length right - n) (drop n right))) ≡ comparison left right
shorter n left right h is less =
    ap (λ text. neg_ℤ (against_blanks text)) (whole-rest n right) ∙ sym (blanks-flipped (drop n right))
    ∙ ap (λ text. comparison text (drop n right)) (sym (drop_all n left less)) ∙ alike n left right h is

-- the minus of the code
minus : (z : ℤ) → pos 0 -ℤ z ≡ neg_ℤ z
minus z = grind (arith, ints)

as-minus : (text : List ℕ) (z : ℤ) → FitsSigned w32 z → z ≡ against_blanks text → pos 0 -ℤ cast_signed w32 (cast_unsigned w32 z) ≡ neg_ℤ (against_blanks text)
as-minus text z h is = ap (λ y. pos 0 -ℤ y) (to_z-of_z w32 z h ∙ is) ∙ minus (against_blanks text)

pub minus-fits : (text : List ℕ) (z : ℤ) → FitsSigned w32 z → z ≡ against_blanks text → FitsSigned w32 (pos 0 -ℤ cast_signed w32 (cast_unsigned w32 z))
minus-fits text z h is = subst (FitsSigned w32) (sym (as-minus text z h is)) (blanks-fit text)

pub minus-is : (text : List ℕ) (z : ℤ) → FitsSigned w32 z → z ≡ against_blanks text →
    cast_signed w32 (cast_unsigned w32 (pos 0 -ℤ cast_signed w32 (cast_unsigned w32 z))) ≡ neg_ℤ (against_blanks text)
minus-is text z h is = to_z-of_z w32 (pos 0 -ℤ cast_signed w32 (cast_unsigned w32 z)) (minus-fits text z h is) ∙ as-minus text z h is
