-- Lists by the places of their elements, and what is told where something is.
use Rattle.std.specs.Prelude.{◌≡◌, ℕ, zero, suc, ◌+◌, ◌<◌, List, [], ◌∷◌, ◌++◌, length, take, drop, map, slice_get, Option, Some, None, option_map, IfSome}
use Rattle.std.proofs.Common.{refl, sym, ap, subst, ◌∙◌, arith, get_or}
use Rattle.std.proofs.Math.Seq.{drop-cons}
use Rattle.std.proofs.lemmas.List.{take-append-drop, take_more}
use Rattle.std.proofs.lemmas.Option.{slice_get-map}

-- the elements up to one, and one more
pub further : {A : Type 0} (xs : List A) (place : ℕ) (x : A) → place < length xs → x ≡ get_or xs place x → take place xs ++ x ∷ [] ≡ take (place + 1) xs
further xs place x within is = ap (λ y. take place xs ++ y ∷ []) is ∙ sym (take_more xs place x within)

-- a list around one of its elements
pub around : {A : Type 0} (xs : List A) (place : ℕ) (x : A) → place < length xs → x ≡ get_or xs place x → xs ≡ take place xs ++ x ∷ drop (suc place) xs
around xs place x within is =
    sym (take-append-drop place xs) ∙ ap (λ ys. take place xs ++ ys) (drop-cons xs place x within ∙ ap (λ y. y ∷ drop (suc place) xs) (sym is))

pub some_same : {A : Type 0} (a b : A) → Some a ≡ Some b → a ≡ b
some_same a b is = cc

pub at_seam : {A : Type 0} (before : List A) (x : A) (behind : List A) → slice_get (before ++ x ∷ behind) (length before) ≡ Some x
at_seam [] x behind = refl
at_seam (b ∷ before) x behind = at_seam before x behind

pub at_taken : {A : Type 0} (count : ℕ) (xs : List A) (place : ℕ) → place < count → slice_get (take count xs) place ≡ slice_get xs place
at_taken zero xs place within = absurd (omega (arith, within))
at_taken (suc count) [] place within = refl
at_taken (suc count) (x ∷ xs) zero within = refl
at_taken (suc count) (x ∷ xs) (suc place) within = at_taken count xs place (omega (arith, within))

pub record IsMappedAt {A B : Type 0} (f : A → B) (xs : List A) (place : ℕ) (y : B) : Type 0 where
  pub x : A
  pub at : slice_get xs place ≡ Some x
  pub is : y ≡ f x

mapped_by : {A B : Type 0} (f : A → B) (xs : List A) (place : ℕ) (y : B) (found : Option A) → slice_get xs place ≡ found → option_map f found ≡ Some y → IsMappedAt f xs place y
mapped_by f xs place y None at is = absurd (cc)
mapped_by f xs place y (Some x) at is = record { x = x; at = at; is = sym (some_same (f x) y is) }

pub mapped_at : {A B : Type 0} (f : A → B) (xs : List A) (place : ℕ) (y : B) → slice_get (map f xs) place ≡ Some y → IsMappedAt f xs place y
mapped_at f xs place y at = mapped_by f xs place y (slice_get xs place) refl (sym (slice_get-map f xs place) ∙ at)

pub map_append : {A B : Type 0} (f : A → B) (xs ys : List A) → map f (xs ++ ys) ≡ map f xs ++ map f ys
map_append f [] ys = refl
map_append f (x ∷ xs) ys = ap (λ zs. f x ∷ zs) (map_append f xs ys)

pub map_length : {A B : Type 0} (f : A → B) (xs : List A) → length (map f xs) ≡ length xs
map_length f [] = refl
map_length f (x ∷ xs) = ap suc (map_length f xs)

-- a fact of what is told
pub mapped : {A : Type 0} (told : Option A) (P Q : A → Type 0) → IfSome told P → ((x : A) → P x → Q x) → IfSome told Q
mapped None P Q fact h = tt
mapped (Some x) P Q fact h = h x fact

-- two facts, of which the second is told later
pub both_told : {A : Type 0} (told later : Option A) (P Q R : A → Type 0) → later ≡ told → IfSome told P → IfSome later Q → ((x : A) → P x → Q x → R x) → IfSome told R
both_told None later P Q R same one other h = tt
both_told (Some x) None P Q R same one other h = absurd (cc)
both_told (Some x) (Some y) P Q R same one other h = let its : y ≡ x = some_same y x same in h x one (subst Q its other)

-- an element does not rest on what stands for one that is not there
pub any_default : {A : Type 0} (xs : List A) (n : ℕ) (d e : A) → n < length xs → get_or xs n d ≡ get_or xs n e
any_default [] n d e within = absurd (omega (arith, within))
any_default (x ∷ xs) zero d e within = refl
any_default (x ∷ xs) (suc n) d e within = any_default xs n d e (omega (arith, within))
