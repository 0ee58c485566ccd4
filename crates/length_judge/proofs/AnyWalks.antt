-- Loops that stop where a test holds.
use Rattle.std.proofs.Common.{◌≡◌, ℕ, suc, ◌+◌, ◌<◌, ◌≤◌, Bool, true, false, ◌||◌, List, [], ◌∷◌, drop, drop-cons, get_or, length, sym, ap, ◌∙◌, arith}
use Rattle.std.proofs.lemmas.List.{drop_all}

rest_is : {X : Type 0} (xs : List X) (i : ℕ) (x d : X) → i < length xs → x ≡ get_or xs i d → drop i xs ≡ x ∷ drop (i + 1) xs
rest_is xs i x d h is = drop-cons xs i d h ∙ ap (λ y. y ∷ drop (suc i) xs) (sym is) ∙ ap (λ n. x ∷ drop n xs) (let e : suc i ≡ i + 1 = omega arith in e)

module _ {X : Type 0} (rest : List X → Bool) (test : X → Bool) (step : (x : X) (xs : List X) → rest (x ∷ xs) ≡ (test x || rest xs)) where
  -- the test holds of the element at hand
  pub any_here : (xs : List X) (i : ℕ) (x d : X) (whole : Bool) → i < length xs → x ≡ get_or xs i d → whole ≡ rest (drop i xs) → test x ≡ true → true ≡ whole
  any_here xs i x d whole h is so_far holds = sym (so_far ∙ ap rest (rest_is xs i x d h is) ∙ step x (drop (i + 1) xs) ∙ ap (λ b. b || rest (drop (i + 1) xs)) holds)

  pub any_more : (xs : List X) (i : ℕ) (x d : X) (whole : Bool) → i < length xs → x ≡ get_or xs i d → whole ≡ rest (drop i xs) → test x ≡ false → whole ≡ rest (drop (i + 1) xs)
  any_more xs i x d whole h is so_far fails = so_far ∙ ap rest (rest_is xs i x d h is) ∙ step x (drop (i + 1) xs) ∙ ap (λ b. b || rest (drop (i + 1) xs)) fails

  pub any_end : rest [] ≡ false → (xs : List X) (i : ℕ) (whole : Bool) → length xs ≤ i → whole ≡ rest (drop i xs) → false ≡ whole
  any_end none xs i whole h so_far = sym (so_far ∙ ap rest (drop_all i xs h) ∙ none)
