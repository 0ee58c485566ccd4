-- What is kept of a list, mapped or reversed.
use Rattle.std.proofs.Common.{◌≡◌, Bool, true, false, ◌||◌, cond, List, [], ◌∷◌, ◌++◌, map, filter, reverse, refl, sym, ap, ◌∙◌, true≢false}
use Rattle.std.specs.List.{list_any}
use Rattle.std.proofs.lemmas.List.{reverse-append, map-append, append-nil}
use Rattle.std.proofs.lemmas.List.Elements.{filter-append}

map_cond : {X Y : Type 0} (f : X → Y) (b : Bool) (x : X) (ys : List X) → map f (cond b (x ∷ ys) ys) ≡ cond b (f x ∷ map f ys) (map f ys)
map_cond f true x ys = refl
map_cond f false x ys = refl

pub map-filter : {X Y : Type 0} (f : X → Y) (p : X → Bool) (q : Y → Bool) → ((x : X) → p x ≡ q (f x)) → (xs : List X) → map f (filter p xs) ≡ filter q (map f xs)
map-filter f p q same [] = refl
map-filter f p q same (x ∷ xs) =
    map_cond f (p x) x (filter p xs) ∙ ap (λ ys. cond (p x) (f x ∷ ys) ys) (map-filter f p q same xs)
    ∙ ap (λ b. cond b (f x ∷ filter q (map f xs)) (filter q (map f xs))) (same x)

pub map-reverse : {X Y : Type 0} (f : X → Y) (xs : List X) → map f (reverse xs) ≡ reverse (map f xs)
map-reverse f [] = refl
map-reverse f (x ∷ xs) =
    ap (map f) (reverse-append (x ∷ []) xs) ∙ map-append f (reverse xs) (x ∷ []) ∙ ap (λ l. l ++ f x ∷ []) (map-reverse f xs)
    ∙ sym (reverse-append (f x ∷ []) (map f xs))

reverse_cond : {X : Type 0} (b : Bool) (x : X) (ys : List X) → reverse (cond b (x ∷ ys) ys) ≡ reverse ys ++ cond b (x ∷ []) []
reverse_cond true x ys = reverse-append (x ∷ []) ys
reverse_cond false x ys = sym (append-nil (reverse ys))

pub reverse-filter : {X : Type 0} (p : X → Bool) (xs : List X) → reverse (filter p xs) ≡ filter p (reverse xs)
reverse-filter p [] = refl
reverse-filter p (x ∷ xs) =
    reverse_cond (p x) x (filter p xs) ∙ ap (λ l. l ++ cond (p x) (x ∷ []) []) (reverse-filter p xs) ∙ sym (filter-append p (reverse xs) (x ∷ []))
    ∙ ap (filter p) (sym (reverse-append (x ∷ []) xs))

-- where no element passes one test, all pass the other
all_kept : {X : Type 0} (p q : X → Bool) → ((x : X) → q x ≡ false → p x ≡ true) → (x : X) (xs : List X) (b : Bool) → q x ≡ b → (b || list_any q xs) ≡ false → (list_any q xs ≡ false → filter p xs ≡ xs)
    → filter p (x ∷ xs) ≡ x ∷ xs
all_kept p q other x xs true is none rest = absurd (true≢false none)
all_kept p q other x xs false is none rest = ap (λ b. cond b (x ∷ filter p xs) (filter p xs)) (other x is) ∙ ap (λ ys. x ∷ ys) (rest none)

pub filter_whole : {X : Type 0} (p q : X → Bool) → ((x : X) → q x ≡ false → p x ≡ true) → (xs : List X) → list_any q xs ≡ false → filter p xs ≡ xs
filter_whole p q other [] none = refl
filter_whole p q other (x ∷ xs) none = all_kept p q other x xs (q x) refl none (filter_whole p q other xs)
