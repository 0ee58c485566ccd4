-- A name more in a set.
use Rattle.std.proofs.Common.{◌≡◌, ◌||◌, ℕ, Bool, true, false, List, [], ◌∷◌, ◌++◌, bytes_eq, Option, Some, is_some, if◌then◌else◌, refl, sym, ap, ◌∙◌}
use Rattle.f_tree.specs.Uses.{is_among}
use Rattle.std.specs.Borrow.{Bor}
use Rattle.name_table.specs.Named.{texts}
use Rattle.name_table.proofs.Texts.{bytes_eq_flip}

pub among_none : (x : List ℕ) → is_among x [] ≡ false
unfolding is_among
among_none x = refl

or_none : (b : Bool) → (b || false) ≡ b
or_none true = refl
or_none false = refl

or_along : (a b c : Bool) → (a || (b || c)) ≡ ((a || b) || c)
or_along true b c = refl
or_along false b c = refl

pub among_both : (x : List ℕ) (xs ys : List (List ℕ)) → is_among x (xs ++ ys) ≡ (is_among x xs || is_among x ys)
unfolding is_among
among_both x [] ys = refl
among_both x (y ∷ xs) ys = ap (λ b. bytes_eq x y || b) (among_both x xs ys) ∙ or_along (bytes_eq x y) (is_among x xs) (is_among x ys)

one_more : (x y : List ℕ) (xs : List (List ℕ)) → is_among x (xs ++ y ∷ []) ≡ (is_among x xs || bytes_eq x y)
unfolding is_among
one_more x y xs = among_both x xs (y ∷ []) ∙ ap (λ b. is_among x xs || b) (or_none (bytes_eq x y))

put_by : (e c : Bool) (o : Option (Unit {0})) → is_some o ≡ c → is_some (if e then Some tt else o) ≡ (c || e)
put_by true true o is = refl
put_by true false o is = refl
put_by false true o is = is
put_by false false o is = is

pub set_more : (x y : List ℕ) (xs : List (List ℕ)) (before after : Option (Unit {0})) → is_some before ≡ is_among x xs → after ≡ (if bytes_eq y x then Some tt else before)
    → is_some after ≡ is_among x (xs ++ y ∷ [])
set_more x y xs before after is put =
    ap is_some put ∙ ap (λ e. is_some (if e then Some tt else before)) (bytes_eq_flip y x) ∙ put_by (bytes_eq x y) (is_among x xs) before is ∙ sym (one_more x y xs)

pub texts_more : (keys : List (Bor (List ℕ))) (name : Bor (List ℕ)) → texts (keys ++ name ∷ []) ≡ texts keys ++ name.now ∷ []
texts_more [] name = refl
texts_more (key ∷ keys) name = ap (λ rest. key.now ∷ rest) (texts_more keys name)
