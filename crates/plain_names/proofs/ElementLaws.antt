-- The elements of an array and the sizes of its dimensions.
use Rattle.std.proofs.Common.{◌≡◌, ℕ, zero, suc, ◌+◌, ◌*◌, ◌<◌, ◌≤◌, min, pos, true, false, ◌&&◌, List, [], ◌∷◌, map, drop, drop-cons, get_or, length, Option, Some, None, nat_lt, nat_le, refl, sym, ap, ◌∙◌, arith}
use Rattle.std.specs.Prelude.{ℤ, Bool, ◌||◌, nat_abs, nat_eq, ◌-ℤ◌, ◌+ℤ◌, is_some}
use Rattle.std.proofs.lemmas.Bool.Decides.{nat_tests}
use Rattle.std.specs.List.{list_all}
use Rattle.std.proofs.lemmas.List.{drop_all}
use Rattle.f_tree.specs.Values.{in_range}
use Rattle.f_tree.specs.Valuing.{elements_of, size_of_dimension}
use Rattle.name_facts.specs.declared.fact.Bound.{Bound}
use Rattle.name_facts.specs.Dimensions.{is_closed, elements_in}
use Rattle.name_facts.specs.GivenFacts.{bounds_of}
use Rattle.plain_forms.specs.PlainUnits.{has_none, only_last_is_assumed}
use Rattle.plain_forms.specs.SpellableNames.{has_element}
use Rattle.plain_names.specs.Elements.{only_last_is_open, has_length, fits}
use Rattle.plain_names.proofs.Saturation.{grows, saturates, saturates-more}

-- ## How many elements

pub count-start : (bs : List Bound) (M : ℕ) → min (elements_in bs) M ≡ min (1 * elements_in bs) M
count-start bs M = omega arith

rest_is : {X : Type 0} (xs : List X) (i : ℕ) (x d : X) → i < length xs → x ≡ get_or xs i d → drop i xs ≡ x ∷ drop (i + 1) xs
rest_is xs i x d h is = drop-cons xs i d h ∙ ap (λ y. y ∷ drop (suc i) xs) (sym is) ∙ ap (λ n. x ∷ drop n xs) (let e : suc i ≡ i + 1 = omega arith in e)

pub count-more : (bs : List Bound) (i : ℕ) (b d : Bound) (whole count more M : ℕ) → i < length bs → b ≡ get_or bs i d →
    min whole M ≡ min (count * elements_in (drop i bs)) M → more ≡ min (count * size_of_dimension (bounds_of b)) M → min whole M ≡ min (more * elements_in (drop (i + 1) bs)) M
unfolding elements_in
count-more bs i b d whole count more M h is so_far grows =
    so_far ∙ ap (λ ys. min (count * elements_in ys) M) (rest_is bs i b d h is)
    ∙ saturates-more count (size_of_dimension (bounds_of b)) (elements_in (drop (i + 1) bs)) M
    ∙ ap (λ m. min (m * elements_in (drop (i + 1) bs)) M) (sym grows)

pub count-end : (bs : List Bound) (i count M : ℕ) → length bs ≤ i → count ≤ M → min (elements_in bs) M ≡ min (count * elements_in (drop i bs)) M → count ≡ min (elements_in bs) M
unfolding elements_in
count-end bs i count M h within so_far =
    let one : count ≡ min (count * 1) M = omega arith in
    one ∙ sym (so_far ∙ ap (λ ys. min (count * elements_in ys) M) (drop_all i bs h))

-- a size of four units for each element is below a limit, or the number that stopped is
limited : (n M L : ℕ) → L ≤ M → nat_lt (min n M) L ≡ nat_lt n L
limited n M L h = grind (arith, nat_tests)

pub size-below : (n M L : ℕ) → L ≤ M → nat_lt (min (min n M * 4) M) L ≡ nat_lt (n * 4) L
size-below n M L h = ap (λ k. nat_lt k L) (saturates n 4 M) ∙ limited (n * 4) M L h

-- ## Whether there is one

product-some : (x y : ℕ) → nat_le 1 x && nat_le 1 y ≡ nat_le 1 (x * y)
product-some zero y = let e : 0 ≡ 0 * y = omega arith in ap (nat_le 1) e
product-some (suc x) zero = let some : nat_le 1 (suc x) ≡ true = grind (arith, nat_tests) in let e : 0 ≡ suc x * 0 = omega arith in ap (λ t. t && false) some ∙ ap (nat_le 1) e
product-some (suc x) (suc y) =
    let one : nat_le 1 (suc x) ≡ true = grind (arith, nat_tests) in
    let other : nat_le 1 (suc y) ≡ true = grind (arith, nat_tests) in
    let large : suc x ≤ suc x * suc y = grows (suc x) y in
    let both : nat_le 1 (suc x * suc y) ≡ true = grind (arith, nat_tests) in
    ap (λ t. t && nat_le 1 (suc y)) one ∙ other ∙ sym both

-- an element is known to be there where each dimension has one
pub element-known : (bs : List Bound) → list_all has_length bs ≡ has_element (elements_of (map bounds_of bs))
unfolding has_length has_element elements_of size_of_dimension bounds_of
element-known [] = refl
element-known (b ∷ bs) = by b.lower b.upper (list_all has_length bs) (elements_of (map bounds_of bs)) (element-known bs)
  where
    none : (t : Bool) → (t && false) ≡ false
    none true = refl
    none false = refl

    by : (lower : ℤ) (upper : Option ℤ) (some : Bool) (count : Option ℕ) → some ≡ has_element count →
        (nat_le 1 (elim upper [ None ↦ 0 | Some u ↦ nat_abs ((u -ℤ lower) +ℤ pos 1) ]) && some)
        ≡ has_element (elim upper [ None ↦ None | Some u ↦ elim count [ None ↦ None | Some n ↦ Some (nat_abs ((u -ℤ lower) +ℤ pos 1) * n) ] ])
    by lower None some count is = refl
    by lower (Some u) some None is = ap (λ t. nat_le 1 (nat_abs ((u -ℤ lower) +ℤ pos 1)) && t) is ∙ none (nat_le 1 (nat_abs ((u -ℤ lower) +ℤ pos 1)))
    by lower (Some u) some (Some n) is = ap (λ t. nat_le 1 (nat_abs ((u -ℤ lower) +ℤ pos 1)) && t) is ∙ product-some (nat_abs ((u -ℤ lower) +ℤ pos 1)) n

-- ## Whether the last alone is assumed

no-dimension : (bs : List Bound) → nat_eq (length bs) 0 ≡ has_none (map bounds_of bs)
unfolding has_none
no-dimension [] = refl
no-dimension (b ∷ bs) = grind arith

pub last-known : (bs : List Bound) → only_last_is_open bs ≡ only_last_is_assumed (map bounds_of bs)
unfolding only_last_is_open only_last_is_assumed is_closed bounds_of
last-known [] = refl
last-known (b ∷ bs) = ap (λ t. (is_some b.upper || t) && only_last_is_open bs) (no-dimension bs) ∙ ap (λ t. (is_some b.upper || has_none (map bounds_of bs)) && t) (last-known bs)

-- ## Whether it fits

pub bound_fits : (b : Bound) → in_range b.lower ≡ true → fits b ≡ nat_le (size_of_dimension (bounds_of b)) 2147483647
unfolding fits in_range Rattle.plain_forms.specs.PlainUnits.bound_fits bounds_of
bound_fits b low = ap (λ t. t && in_range (pos (size_of_dimension (bounds_of b)))) low
