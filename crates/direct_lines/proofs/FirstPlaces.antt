-- The first element of a list that passes a test, and what stands before it.
use Rattle.std.proofs.Common.{◌≡◌, ℕ, zero, suc, ◌+◌, ◌<◌, ◌≤◌, Bool, true, false, not, ◌||◌, List, [], ◌∷◌, ◌++◌, length, take, drop, get_or, drop-cons, Some, None, cond, nat_lt, refl, sym, ap, ◌∙◌, arith}
use Rattle.std.specs.List.{list_any, position, position_or_len}
use Rattle.std.proofs.lemmas.Bool.Decides.{nat_tests}
use Rattle.std.proofs.lemmas.List.{take-append-drop}

-- ## Nowhere

fails-by : (t later : Bool) (n m : ℕ) → suc n ≤ cond (not t) (1 + m) 0 → (n ≤ m → later ≡ false) → t || later ≡ false
fails-by true later n m h step = absurd (omega arith)
fails-by false later n m h step = step (omega arith)

none-passes : {X : Type 0} (p : X → Bool) (xs : List X) → length xs ≤ position_or_len p xs → list_any p xs ≡ false
none-passes p [] h = refl
none-passes p (x ∷ xs) h = fails-by (p x) (list_any p xs) (length xs) (position_or_len p xs) h (none-passes p xs)

not-below : (t : Bool) (a b : ℕ) → nat_lt a b ≡ t → cond t (Some a) None ≡ None → b ≤ a
not-below true a b is h = absurd (cc)
not-below false a b is h = grind (arith, nat_tests)

pub nowhere : {X : Type 0} (p : X → Bool) (xs : List X) → position p xs ≡ None → list_any p xs ≡ false
nowhere p xs h = none-passes p xs (not-below (nat_lt (position_or_len p xs) (length xs)) (position_or_len p xs) (length xs) refl h)

-- ## Before a place

pub none-before : {X : Type 0} (p : X → Bool) (xs : List X) (i : ℕ) (d : X) → i ≤ length xs → ((k : ℕ) → k < i → p (get_or xs k d) ≡ false) → list_any p (take i xs) ≡ false
none-before p xs zero d h all = refl
none-before p [] (suc i) d h all = refl
none-before p (x ∷ xs) (suc i) d h all =
    let here : p x ≡ false = all 0 (omega arith) in
    let later : list_any p (take i xs) ≡ false = none-before p xs i d (omega arith) (λ k below. all (suc k) (omega arith)) in
    ap (λ b. b || list_any p (take i xs)) here ∙ later

pub split-at : {X : Type 0} (xs : List X) (i : ℕ) (d : X) → i < length xs → xs ≡ take i xs ++ get_or xs i d ∷ drop (suc i) xs
split-at xs i d h = sym (take-append-drop i xs) ∙ ap (λ ys. take i xs ++ ys) (drop-cons xs i d h)
