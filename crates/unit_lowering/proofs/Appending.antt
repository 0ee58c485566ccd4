-- What is put behind a list, in turn.
use Rattle.std.proofs.Common.{◌≡◌, ℕ, suc, ◌+◌, ◌<◌, ◌≤◌, List, [], ◌∷◌, ◌++◌, drop, drop-cons, get_or, length, append_assoc, Result, Ok, Err, OnOk, sym, ap, ◌∙◌, arith}
use Rattle.std.proofs.lemmas.List.{drop_all, append-nil}

pub rest_is : {X : Type 0} (xs : List X) (i : ℕ) (x d : X) → i < length xs → x ≡ get_or xs i d → drop i xs ≡ x ∷ drop (i + 1) xs
rest_is xs i x d h is = drop-cons xs i d h ∙ ap (λ y. y ∷ drop (suc i) xs) (sym is) ∙ ap (λ n. x ∷ drop n xs) (let e : suc i ≡ i + 1 = omega arith in e)

-- a walk that puts behind a list what each element gives
module _ {X A : Type 0} (rest : List X → List A) (out : X → List A) where
  pub each_more : ((x : X) (xs : List X) → rest (x ∷ xs) ≡ out x ++ rest xs)
      → (xs : List X) (i : ℕ) (x d : X) (whole done now : List A) → i < length xs → x ≡ get_or xs i d
      → done ++ rest (drop i xs) ≡ whole → now ≡ done ++ out x → now ++ rest (drop (i + 1) xs) ≡ whole
  each_more step xs i x d whole done now h is so_far put =
      ap (λ ys. ys ++ rest (drop (i + 1) xs)) put ∙ append_assoc done (out x) (rest (drop (i + 1) xs))
      ∙ ap (λ ys. done ++ ys) (sym (ap rest (rest_is xs i x d h is) ∙ step x (drop (i + 1) xs))) ∙ so_far

  pub each_end : rest [] ≡ [] → (xs : List X) (i : ℕ) (whole done : List A) → length xs ≤ i → done ++ rest (drop i xs) ≡ whole → done ≡ whole
  each_end none xs i whole done h so_far =
      sym (ap (λ ys. done ++ rest ys) (drop_all i xs h) ∙ ap (λ ys. done ++ ys) none ∙ append-nil done) ∙ so_far

-- what follows where a call succeeded
pub then_ok : {A E : Type 0} (P Q : Type 0) (r : Result A E) → (P → Q) → OnOk r P → OnOk r Q
then_ok P Q (Ok x) step h = step h
then_ok P Q (Err e) step h = h
