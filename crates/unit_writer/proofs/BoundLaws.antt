-- How many elements an array has.
use Rattle.std.specs.List.{list_all}
use Rattle.std.proofs.Common.{◌≡◌, ℕ, ◌+◌, ◌*◌, ◌<◌, ◌≤◌, Bool, true, false, List, map, drop, get_or, length, Option, Some, None, is_some, refl, sym, ap, ◌∙◌, arith}
use Rattle.std.proofs.lemmas.List.{drop_all}
use Rattle.f_tree.specs.Valuing.{elements_of, size_of_dimension}
use Rattle.name_facts.specs.declared.fact.Bound.{Bound}
use Rattle.name_facts.specs.Dimensions.{is_closed, elements_in}
use Rattle.name_facts.specs.GivenFacts.{bounds_of}
use Rattle.name_facts.proofs.ElementLaws.{closed_elements, product_elements}
use Rattle.unit_writer.proofs.Walks.{rest_is}

pub product-start : (bs : List Bound) → elements_in bs ≡ 1 * elements_in bs
product-start bs = omega arith

grouped : (a b c : ℕ) → a * (b * c) ≡ (a * b) * c
grouped a b c = omega arith

pub product-more : (bs : List Bound) (i : ℕ) (b d : Bound) (whole count more : ℕ) → i < length bs → b ≡ get_or bs i d → whole ≡ count * elements_in (drop i bs)
    → more ≡ count * size_of_dimension (bounds_of b) → whole ≡ more * elements_in (drop (i + 1) bs)
unfolding elements_in
product-more bs i b d whole count more h is so_far grows =
    so_far ∙ ap (λ ys. count * elements_in ys) (rest_is bs i b d h is) ∙ grouped count (size_of_dimension (bounds_of b)) (elements_in (drop (i + 1) bs))
    ∙ ap (λ m. m * elements_in (drop (i + 1) bs)) (sym grows)

pub product-end : (bs : List Bound) (i count : ℕ) → length bs ≤ i → elements_in bs ≡ count * elements_in (drop i bs) → count ≡ elements_in bs
unfolding elements_in
product-end bs i count h so_far = let one : count * 1 ≡ count = omega arith in sym (so_far ∙ ap (λ ys. count * elements_in ys) (drop_all i bs h) ∙ one)

-- the number is known where each upper bound is constant
none-is : (o : Option ℕ) → is_some o ≡ false → None ≡ o
none-is None is = refl
none-is (Some n) is = absurd (cc)

pub not-known : (bs : List Bound) (closed : Bool) → closed ≡ list_all is_closed bs → closed ≡ false → None ≡ elements_of (map bounds_of bs)
not-known bs closed told assumed = none-is (elements_of (map bounds_of bs)) (sym (closed_elements bs) ∙ sym told ∙ assumed)

pub all-known : (bs : List Bound) (closed : Bool) (count kept : ℕ) → closed ≡ list_all is_closed bs → closed ≡ true → count ≡ elements_in bs → kept ≡ count →
    Some kept ≡ elements_of (map bounds_of bs)
all-known bs closed count kept told all counted same = ap Some (same ∙ counted) ∙ sym (product_elements bs (sym told ∙ all))
