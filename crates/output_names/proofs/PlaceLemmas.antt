-- Words one after the other, and the places that they name.
use Rattle.std.specs.Prelude.{◌≡◌, ℕ, zero, suc, ◌+◌, ◌<◌, ◌≤◌, Bool, true, false, List, [], ◌∷◌, ◌++◌, length, take, map, bytes_eq, slice_get, Some, None}
use Rattle.std.specs.List.{filter, flat_map}
use Rattle.std.proofs.Common.{refl, sym, ap, ◌∙◌, arith}
use Rattle.std.proofs.lemmas.List.{append_cancel_right, take_all}
use Rattle.std.proofs.lemmas.List.Elements.{filter-append}
use Rattle.std.proofs.lemmas.Grind.{flat_map-append}
use Rattle.std.proofs.lemmas.Slice.Eq.{bytes_eq-Decides}
use Rattle.f2c_outside.specs.Texts.{word_at}

-- TEXTS that end alike are told by what stands before
by_cases : (a b : Bool) → (a ≡ true → b ≡ true) → (b ≡ true → a ≡ true) → a ≡ b
by_cases true b there back = sym (there refl)
by_cases false true there back = back refl
by_cases false false there back = refl

pub same_behind : (one other end : List ℕ) → bytes_eq one other ≡ bytes_eq (one ++ end) (other ++ end)
same_behind one other end =
    by_cases (bytes_eq one other) (bytes_eq (one ++ end) (other ++ end))
    (λ is. (bytes_eq-Decides (one ++ end) (other ++ end)).1 (ap (λ xs. xs ++ end) ((bytes_eq-Decides one other).0 is)))
    (λ is. (bytes_eq-Decides one other).1 (append_cancel_right one other end ((bytes_eq-Decides (one ++ end) (other ++ end)).0 is)))

-- PLACES of the words up to one
some_same : {A : Type 0} (a b : A) → Some a ≡ Some b → a ≡ b
some_same a b is = cc

taken : (words : List (List ℕ)) (k : ℕ) (word : List ℕ) → slice_get words k ≡ Some word → take (suc k) words ≡ take k words ++ word ∷ []
taken [] k word is = absurd (cc)
taken (w ∷ words) zero word is = ap (λ z. z ∷ []) (some_same w word is)
taken (w ∷ words) (suc k) word is = ap (λ ws. w ∷ ws) (taken words k word is)

map_append : {A B : Type 0} (f : A → B) (xs ys : List A) → map f (xs ++ ys) ≡ map f xs ++ map f ys
map_append f [] ys = refl
map_append f (x ∷ xs) ys = ap (λ zs. f x ∷ zs) (map_append f xs ys)

plus_one : (n : ℕ) → n + 1 ≡ suc n
plus_one n = omega arith

-- a word more
pub place_more : {P : Type 0} (test : List ℕ → Bool) (f : List ℕ → P) (words : List (List ℕ)) (passed : ℕ) (word : List ℕ) (places more : List P) →
    word_at (passed + 1) words ≡ Some word → places ≡ map f (filter test (take passed words)) → more ≡ places ++ map f (filter test (word ∷ [])) →
    more ≡ map f (filter test (take (passed + 1) words))
place_more test f words passed word places more at are pushed =
    let here = ap (λ n. word_at n words) (sym (plus_one passed)) ∙ at in
    pushed ∙ (ap (λ ps. ps ++ map f (filter test (word ∷ []))) are
    ∙ (sym (map_append f (filter test (take passed words)) (filter test (word ∷ [])))
    ∙ (ap (map f) (sym (filter-append test (take passed words) (word ∷ [])) ∙ ap (filter test) (sym (taken words passed word here)))
    ∙ ap (λ n. map f (filter test (take n words))) (sym (plus_one passed)))))

-- and where each has several
pub places_more : {P : Type 0} (test : List ℕ → Bool) (f : List ℕ → List P) (words : List (List ℕ)) (passed : ℕ) (word : List ℕ) (places more : List P) →
    word_at (passed + 1) words ≡ Some word → places ≡ flat_map f (filter test (take passed words)) → more ≡ places ++ flat_map f (filter test (word ∷ [])) →
    more ≡ flat_map f (filter test (take (passed + 1) words))
places_more test f words passed word places more at are pushed =
    let here = ap (λ n. word_at n words) (sym (plus_one passed)) ∙ at in
    pushed ∙ (ap (λ ps. ps ++ flat_map f (filter test (word ∷ []))) are
    ∙ (sym (flat_map-append f (filter test (take passed words)) (filter test (word ∷ [])))
    ∙ (ap (flat_map f) (sym (filter-append test (take passed words) (word ∷ [])) ∙ ap (filter test) (sym (taken words passed word here)))
    ∙ ap (λ n. flat_map f (filter test (take n words))) (sym (plus_one passed)))))

never : (ws : List (List ℕ)) (k : ℕ) → k < length ws → slice_get ws k ≡ None → ⊥
never [] k less at = absurd (omega (arith, less))
never (w ∷ ws) zero less at = absurd (cc)
never (w ∷ ws) (suc k) less at = never ws k (omega (arith, less)) at

pub word_there : (words : List (List ℕ)) (passed : ℕ) → passed < length words → word_at (passed + 1) words ≡ None → ⊥
word_there words passed within none = never words passed within (ap (λ n. word_at n words) (sym (plus_one passed)) ∙ none)

pub all_places : {P : Type 0} (test : List ℕ → Bool) (f : List ℕ → P) (words : List (List ℕ)) (passed : ℕ) (places : List P) → length words ≤ passed →
    places ≡ map f (filter test (take passed words)) → places ≡ map f (filter test words)
all_places test f words passed places past are = are ∙ ap (λ ws. map f (filter test ws)) (take_all passed words past)
