-- Loops that put behind a list what each element of another one gives, in turn.
use Rattle.std.proofs.Common.{◌≡◌, ℕ, suc, ◌+◌, ◌<◌, ◌≤◌, List, [], ◌∷◌, ◌++◌, drop, drop-cons, get_or, length, append_assoc, Result, Ok, Err, IfOk, sym, ap, ◌∙◌, arith}
use Rattle.std.proofs.lemmas.List.{drop_all, append-nil}

pub rest_is : {X : Type 0} (xs : List X) (i : ℕ) (x d : X) → i < length xs → x ≡ get_or xs i d → drop i xs ≡ x ∷ drop (i + 1) xs
rest_is xs i x d h is = drop-cons xs i d h ∙ ap (λ y. y ∷ drop (suc i) xs) (sym is) ∙ ap (λ n. x ∷ drop n xs) (let e : suc i ≡ i + 1 = omega arith in e)

-- a walk in which the place of an element counts
module _ {X A : Type 0} (rest : ℕ → List X → List A) (out : ℕ → X → List A) where
  pub placed_more : ((n : ℕ) (x : X) (xs : List X) → rest n (x ∷ xs) ≡ out n x ++ rest (n + 1) xs)
      → (xs : List X) (i n : ℕ) (x d : X) (whole done now : List A) → i < length xs → x ≡ get_or xs i d
      → whole ≡ done ++ rest n (drop i xs) → now ≡ done ++ out n x → whole ≡ now ++ rest (n + 1) (drop (i + 1) xs)
  placed_more step xs i n x d whole done now h is so_far put =
      so_far ∙ ap (λ ys. done ++ rest n ys) (rest_is xs i x d h is) ∙ ap (λ ys. done ++ ys) (step n x (drop (i + 1) xs))
      ∙ sym (append_assoc done (out n x) (rest (n + 1) (drop (i + 1) xs))) ∙ ap (λ ys. ys ++ rest (n + 1) (drop (i + 1) xs)) (sym put)

  pub placed_end : ((n : ℕ) → rest n [] ≡ []) → (xs : List X) (i n : ℕ) (whole done : List A) → length xs ≤ i → whole ≡ done ++ rest n (drop i xs) → done ≡ whole
  placed_end none xs i n whole done h so_far =
      sym (so_far ∙ ap (λ ys. done ++ rest n ys) (drop_all i xs h) ∙ ap (λ ys. done ++ ys) (none n) ∙ append-nil done)

-- a walk in which each element counts alone
module _ {X A : Type 0} (rest : List X → List A) (out : X → List A) where
  pub each_more : ((x : X) (xs : List X) → rest (x ∷ xs) ≡ out x ++ rest xs)
      → (xs : List X) (i : ℕ) (x d : X) (whole done now : List A) → i < length xs → x ≡ get_or xs i d
      → whole ≡ done ++ rest (drop i xs) → now ≡ done ++ out x → whole ≡ now ++ rest (drop (i + 1) xs)
  each_more step xs i x d whole done now h is so_far put =
      so_far ∙ ap (λ ys. done ++ rest ys) (rest_is xs i x d h is) ∙ ap (λ ys. done ++ ys) (step x (drop (i + 1) xs))
      ∙ sym (append_assoc done (out x) (rest (drop (i + 1) xs))) ∙ ap (λ ys. ys ++ rest (drop (i + 1) xs)) (sym put)

  pub each_end : rest [] ≡ [] → (xs : List X) (i : ℕ) (whole done : List A) → length xs ≤ i → whole ≡ done ++ rest (drop i xs) → done ≡ whole
  each_end none xs i whole done h so_far =
      sym (so_far ∙ ap (λ ys. done ++ rest ys) (drop_all i xs h) ∙ ap (λ ys. done ++ ys) none ∙ append-nil done)

-- what four calls put behind a list in turn
pub put_four : {A : Type 0} (start one two three four a b c d : List A) → one ≡ start ++ a → two ≡ one ++ b → three ≡ two ++ c → four ≡ three ++ d
    → four ≡ start ++ (a ++ (b ++ (c ++ d)))
put_four start one two three four a b c d first second third last =
    last ∙ ap (λ xs. xs ++ d) (third ∙ ap (λ xs. xs ++ c) (second ∙ ap (λ xs. xs ++ b) first))
    ∙ append_assoc ((start ++ a) ++ b) c d ∙ append_assoc (start ++ a) b (c ++ d) ∙ append_assoc start a (b ++ (c ++ d))

-- what a fifth call puts behind them
pub put_fifth : {A : Type 0} (start one two three four five a b c d e : List A) → one ≡ start ++ a → two ≡ one ++ b → three ≡ two ++ c → four ≡ three ++ d → five ≡ four ++ e
    → five ≡ start ++ (a ++ (b ++ (c ++ (d ++ e))))
put_fifth start one two three four five a b c d e first second third fourth last =
    last ∙ ap (λ xs. xs ++ e) (put_four start one two three four a b c d first second third fourth) ∙ append_assoc start (a ++ (b ++ (c ++ d))) e
    ∙ ap (λ xs. start ++ xs) (append_assoc a (b ++ (c ++ d)) e) ∙ ap (λ xs. start ++ (a ++ xs)) (append_assoc b (c ++ d) e) ∙ ap (λ xs. start ++ (a ++ (b ++ xs))) (append_assoc c d e)

-- and a sixth
pub put_sixth : {A : Type 0} (start one two three four five six a b c d e f : List A) → one ≡ start ++ a → two ≡ one ++ b → three ≡ two ++ c → four ≡ three ++ d → five ≡ four ++ e → six ≡ five ++ f
    → six ≡ start ++ (a ++ (b ++ (c ++ (d ++ (e ++ f)))))
put_sixth start one two three four five six a b c d e f first second third fourth fifth last =
    put_fifth one two three four five six b c d e f second third fourth fifth last ∙ ap (λ xs. xs ++ (b ++ (c ++ (d ++ (e ++ f))))) first ∙ append_assoc start a (b ++ (c ++ (d ++ (e ++ f))))

-- what seven calls put one after the other
pub put_seven : {A : Type 0} (start one two three four five six seven a b c d e f g : List A) → start ≡ [] → one ≡ start ++ a → two ≡ one ++ b → three ≡ two ++ c → four ≡ three ++ d → five ≡ four ++ e
    → six ≡ five ++ f → seven ≡ six ++ g → seven ≡ a ++ (b ++ (c ++ (d ++ (e ++ (f ++ g)))))
put_seven start one two three four five six seven a b c d e f g none first second third fourth fifth sixth last =
    put_sixth one two three four five six seven b c d e f g second third fourth fifth sixth last ∙ ap (λ xs. xs ++ (b ++ (c ++ (d ++ (e ++ (f ++ g)))))) (first ∙ ap (λ xs. xs ++ a) none)

-- what follows of what a call gives
pub ok_then : {A E : Type 0} (P Q : A → Type 0) (r : Result A E) → ((x : A) → P x → Q x) → IfOk r P → IfOk r Q
ok_then P Q (Ok x) step h = step x h
ok_then P Q (Err e) step h = h

-- a list of five that are put one after the other
pub put_five : {A : Type 0} (none one two three four five : List A) (a b c d e : A) → none ≡ [] → one ≡ none ++ a ∷ [] → two ≡ one ++ b ∷ [] → three ≡ two ++ c ∷ [] → four ≡ three ++ d ∷ []
    → five ≡ four ++ e ∷ [] → five ≡ a ∷ b ∷ c ∷ d ∷ e ∷ []
put_five none one two three four five a b c d e start first second third fourth last =
    last ∙ ap (λ xs. xs ++ e ∷ []) (fourth ∙ ap (λ xs. xs ++ d ∷ []) (third ∙ ap (λ xs. xs ++ c ∷ []) (second ∙ ap (λ xs. xs ++ b ∷ []) (first ∙ ap (λ xs. xs ++ a ∷ []) start))))
