-- Numbers that are so many further on, and steps behind others.
use Rattle.std.specs.List.{list_any, position_or_len}
use Rattle.std.specs.Prelude.{◌≡◌, ℕ, zero, suc, ◌+◌, ◌<◌, nat_eq, nat_lt, Bool, false, not, ◌||◌, List, [], ◌∷◌, ◌++◌, map, length, drop, position, Some, None, slice_get}
use Rattle.std.proofs.Common.{cond, refl, ap, ◌∙◌, arith}
use Rattle.std.proofs.lemmas.Bool.Decides.{nat_tests}
use Rattle.unit_translation.specs.l_core.Steps.{Step, Pass}
use Rattle.behind_bounds.specs.BehindBounds.{steps_behind}

pub eq_further : (first n m : ℕ) → nat_eq (first + n) (first + m) ≡ nat_eq n m
eq_further first n m = grind (arith, nat_tests)

pub eq_before : (first n m : ℕ) → n < first → nat_eq n (first + m) ≡ false
eq_before first n m below = grind (arith, nat_tests, below)

pub lt_further : (first n m at size : ℕ) → at ≡ first + n → size ≡ first + m → nat_lt at size ≡ nat_lt n m
lt_further first n m at size is long = grind (arith, nat_tests, is, long)

abbrev pub further : ℕ → List ℕ → List ℕ
further first xs = map (λ n. first + n) xs

pub map_both : {A B : Type 0} (f : A → B) (xs ys : List A) → map f (xs ++ ys) ≡ map f xs ++ map f ys
map_both f [] ys = refl
map_both f (x ∷ xs) ys = ap (λ zs. f x ∷ zs) (map_both f xs ys)

pub any_further : (first n : ℕ) (xs : List ℕ) → list_any (nat_eq (first + n)) (further first xs) ≡ list_any (nat_eq n) xs
any_further first n [] = refl
any_further first n (x ∷ xs) = λ i. eq_further first n x i || any_further first n xs i

pub none_before : (first n : ℕ) (xs : List ℕ) → n < first → list_any (nat_eq n) (further first xs) ≡ false
none_before first n [] below = refl
none_before first n (x ∷ xs) below = λ i. eq_before first n x below i || none_before first n xs below i

-- where a test holds first does not change where the tests of the elements are the same
pub position_same : {A B : Type 0} (f : A → B) (p : A → Bool) (q : B → Bool) → ((x : A) → q (f x) ≡ p x) → (xs : List A) → position q (map f xs) ≡ position p xs
position_same f p q same xs = λ i. cond (nat_lt (place xs i) (long xs i)) (Some (place xs i)) None
  where
    place : (ys : List _) → position_or_len q (map f ys) ≡ position_or_len p ys
    place [] = refl
    place (y ∷ ys) = λ i. cond (not (same y i)) (1 + place ys i) 0

    long : (ys : List _) → length (map f ys) ≡ length ys
    long [] = refl
    long (y ∷ ys) = ap suc (long ys)

pub drop_further : (first : ℕ) (steps : List Step) (n at : ℕ) → at ≡ first + n → drop at (steps_behind first steps) ≡ drop n steps
unfolding steps_behind
drop_further zero steps n at is = ap (λ k. drop k steps) (let e : at ≡ n = omega (arith, is) in e)
drop_further (suc first) steps n zero is = absurd (omega (arith, is))
drop_further (suc first) steps n (suc at) is = drop_further first steps n at (omega (arith, is))

pub at_further : (first : ℕ) (steps : List Step) (n at : ℕ) → at ≡ first + n → slice_get (steps_behind first steps) at ≡ slice_get steps n
unfolding steps_behind
at_further zero steps n at is = ap (slice_get steps) (let e : at ≡ n = omega (arith, is) in e)
at_further (suc first) steps n zero is = absurd (omega (arith, is))
at_further (suc first) steps n (suc at) is = at_further first steps n at (omega (arith, is))

pub pass_at : (first : ℕ) (steps : List Step) (n : ℕ) → n < first → slice_get (steps_behind first steps) n ≡ Some Pass
unfolding steps_behind
pass_at zero steps n below = absurd (omega (arith, below))
pass_at (suc first) steps zero below = refl
pass_at (suc first) steps (suc n) below = pass_at first steps n (omega (arith, below))

pub long_further : (first : ℕ) (steps : List Step) → length (steps_behind first steps) ≡ first + length steps
unfolding steps_behind
long_further zero steps = let e : length steps ≡ 0 + length steps = omega arith in e
long_further (suc first) steps = let one = long_further first steps in let e : suc (first + length steps) ≡ suc first + length steps = omega arith in ap suc one ∙ e
