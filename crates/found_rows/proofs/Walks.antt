-- Loops that put behind a list what each element of another one gives, in turn.
use Rattle.std.proofs.Common.{◌≡◌, ℕ, suc, ◌+◌, ◌<◌, ◌≤◌, List, [], ◌∷◌, ◌++◌, drop, drop-cons, get_or, length, append_assoc, Result, Ok, Err, OnOk, sym, ap, ◌∙◌, arith}
use Rattle.std.proofs.lemmas.List.{drop_all, append-nil}

rest_is : {X : Type 0} (xs : List X) (i : ℕ) (x d : X) → i < length xs → x ≡ get_or xs i d → drop i xs ≡ x ∷ drop (i + 1) xs
rest_is xs i x d h is = drop-cons xs i d h ∙ ap (λ y. y ∷ drop (suc i) xs) (sym is) ∙ ap (λ n. x ∷ drop n xs) (let e : suc i ≡ i + 1 = omega arith in e)

-- a walk with something that is known of the elements before
module _ {S X A : Type 0} (rest : S → List X → List A) (out : S → X → List A) (next : S → X → S) where
  pub walk_more : ((s : S) (x : X) (xs : List X) → rest s (x ∷ xs) ≡ out s x ++ rest (next s x) xs)
      → (xs : List X) (i : ℕ) (x d : X) (s after : S) (whole done now : List A) → i < length xs → x ≡ get_or xs i d
      → whole ≡ done ++ rest s (drop i xs) → now ≡ done ++ out s x → after ≡ next s x → whole ≡ now ++ rest after (drop (i + 1) xs)
  walk_more step xs i x d s after whole done now h is so_far put moved =
      so_far ∙ ap (λ ys. done ++ rest s ys) (rest_is xs i x d h is) ∙ ap (λ ys. done ++ ys) (step s x (drop (i + 1) xs))
      ∙ sym (append_assoc done (out s x) (rest (next s x) (drop (i + 1) xs)))
      ∙ ap (λ ys. ys ++ rest (next s x) (drop (i + 1) xs)) (sym put) ∙ ap (λ t. now ++ rest t (drop (i + 1) xs)) (sym moved)

  pub walk_end : ((s : S) → rest s [] ≡ []) → (xs : List X) (i : ℕ) (s : S) (whole done : List A) → length xs ≤ i
      → whole ≡ done ++ rest s (drop i xs) → done ≡ whole
  walk_end none xs i s whole done h so_far =
      sym (so_far ∙ ap (λ ys. done ++ rest s ys) (drop_all i xs h) ∙ ap (λ ys. done ++ ys) (none s) ∙ append-nil done)

-- a walk in which each element counts alone
module _ {X A : Type 0} (rest : List X → List A) (out : X → List A) where
  pub each_more : ((x : X) (xs : List X) → rest (x ∷ xs) ≡ out x ++ rest xs)
      → (xs : List X) (i : ℕ) (x d : X) (whole done now : List A) → i < length xs → x ≡ get_or xs i d
      → whole ≡ done ++ rest (drop i xs) → now ≡ done ++ out x → whole ≡ now ++ rest (drop (i + 1) xs)
  each_more step xs i x d whole done now h is so_far put =
      so_far ∙ ap (λ ys. done ++ rest ys) (rest_is xs i x d h is) ∙ ap (λ ys. done ++ ys) (step x (drop (i + 1) xs))
      ∙ sym (append_assoc done (out x) (rest (drop (i + 1) xs))) ∙ ap (λ ys. ys ++ rest (drop (i + 1) xs)) (sym put)

  pub each_end : rest [] ≡ [] → (xs : List X) (i : ℕ) (whole done : List A) → length xs ≤ i → whole ≡ done ++ rest (drop i xs) → done ≡ whole
  each_end none xs i whole done h so_far =
      sym (so_far ∙ ap (λ ys. done ++ rest ys) (drop_all i xs h) ∙ ap (λ ys. done ++ ys) none ∙ append-nil done)

-- what a walk has come to
module _ {S X A : Type 0} (all : S → List X → A) (next : S → X → S) where
  pub comes_on : ((s : S) (x : X) (xs : List X) → all s (x ∷ xs) ≡ all (next s x) xs) → (xs : List X) (i : ℕ) (x d : X) (s after : S) (whole : A) → i < length xs
      → x ≡ get_or xs i d → whole ≡ all s (drop i xs) → after ≡ next s x → whole ≡ all after (drop (i + 1) xs)
  comes_on step xs i x d s after whole h is so_far moved =
      so_far ∙ ap (all s) (rest_is xs i x d h is) ∙ step s x (drop (i + 1) xs) ∙ ap (λ t. all t (drop (i + 1) xs)) (sym moved)

-- what follows where a call succeeded
pub then_ok : {A E : Type 0} (P Q : Type 0) (r : Result A E) → (P → Q) → OnOk r P → OnOk r Q
then_ok P Q (Ok x) step h = step h
then_ok P Q (Err e) step h = h

-- what two calls put behind a list in turn, and what three do
pub put_two : {A B E : Type 0} (r : Result B E) (start between after one other whole : List A) → between ≡ start ++ one → OnOk r (after ≡ between ++ other) → one ++ other ≡ whole
    → OnOk r (after ≡ start ++ whole)
put_two r start between after one other whole first second is =
    then_ok (after ≡ between ++ other) (after ≡ start ++ whole) r
    (λ put. put ∙ ap (λ xs. xs ++ other) first ∙ append_assoc start one other ∙ ap (λ xs. start ++ xs) is) second

pub put_three : {A B E : Type 0} (r : Result B E) (start between later after one other third whole : List A) → between ≡ start ++ one → later ≡ between ++ other
    → OnOk r (after ≡ later ++ third) → (one ++ other) ++ third ≡ whole → OnOk r (after ≡ start ++ whole)
put_three r start between later after one other third whole first second last is =
    put_two r start later after (one ++ other) third whole (second ∙ ap (λ xs. xs ++ other) first ∙ append_assoc start one other) last is

-- what is put behind a list is known to be another list
pub put_as : {A B E : Type 0} (r : Result B E) (start after one other : List A) → one ≡ other → OnOk r (after ≡ start ++ one) → OnOk r (after ≡ start ++ other)
put_as r start after one other is put = then_ok (after ≡ start ++ one) (after ≡ start ++ other) r (λ now. now ∙ ap (λ xs. start ++ xs) is) put
