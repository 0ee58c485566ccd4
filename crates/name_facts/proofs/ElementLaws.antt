-- How many elements dimensions have: their product, where no upper bound is assumed.
use Rattle.std.specs.List.{list_all}
use Rattle.std.proofs.Common.{◌≡◌, ℕ, ◌*◌, ℤ, pos, Bool, true, ◌&&◌, List, [], ◌∷◌, map, Option, Some, None, refl, sym, ap, ◌∙◌, arith}
use Rattle.std.specs.Prelude.{nat_abs, ◌-ℤ◌, ◌+ℤ◌, is_some}
use Rattle.f_tree.specs.Valuing.{elements_of, extent_of, size_of_dimension}
use Rattle.name_facts.specs.declared.fact.Bound.{Bound}
use Rattle.name_facts.specs.Dimensions.{is_closed, elements_in}
use Rattle.name_facts.specs.GivenFacts.{bounds_of}

-- the elements with a dimension more
abbrev with_dimension : ℤ → Option ℤ → Option ℕ → Option ℕ
with_dimension lower upper count = elim upper [
  | None ↦ None
  | Some u ↦ elim count [ None ↦ None | Some n ↦ Some (nat_abs ((u -ℤ lower) +ℤ pos 1) * n) ]
]

closed_more : (lower : ℤ) (upper : Option ℤ) (count : Option ℕ) (closed : Bool) → closed ≡ is_some count → (is_some upper && closed) ≡ is_some (with_dimension lower upper count)
closed_more lower None count closed same = refl
closed_more lower (Some u) None closed same = same
closed_more lower (Some u) (Some n) closed same = same

-- the number is known where each upper bound is constant
pub closed_elements : (bs : List Bound) → list_all is_closed bs ≡ is_some (elements_of (map bounds_of bs))
unfolding elements_of bounds_of is_closed
closed_elements [] = refl
closed_elements (b ∷ bs) = closed_more b.lower b.upper (elements_of (map bounds_of bs)) (list_all is_closed bs) (closed_elements bs)

grouped : (k n width : ℕ) → (k * n) * width ≡ k * (n * width)
grouped k n width = omega arith

extent_more : (lower : ℤ) (upper : Option ℤ) (count : Option ℕ) (n width : ℕ) → extent_of count width ≡ n * width →
    extent_of (with_dimension lower upper count) width ≡ ((elim upper [ None ↦ 0 | Some u ↦ nat_abs ((u -ℤ lower) +ℤ pos 1) ]) * n) * width
unfolding extent_of
extent_more lower None count n width same = let none : 0 ≡ (0 * n) * width = omega arith in none
extent_more lower (Some u) None n width same =
    let size : ℕ = nat_abs ((u -ℤ lower) +ℤ pos 1) in
    let none : 0 ≡ size * 0 = omega arith in none ∙ ap (λ m. size * m) same ∙ sym (grouped size n width)
extent_more lower (Some u) (Some m) n width same =
    let size : ℕ = nat_abs ((u -ℤ lower) +ℤ pos 1) in grouped size m width ∙ ap (λ k. size * k) same ∙ sym (grouped size n width)

-- the character units of so many elements: none where the number is not known
pub extent_elements : (bs : List Bound) (width : ℕ) → extent_of (elements_of (map bounds_of bs)) width ≡ elements_in bs * width
unfolding elements_of extent_of bounds_of elements_in size_of_dimension
extent_elements [] width = refl
extent_elements (b ∷ bs) width = extent_more b.lower b.upper (elements_of (map bounds_of bs)) (elements_in bs) width (extent_elements bs width)

product_more : (lower : ℤ) (upper : Option ℤ) (count : Option ℕ) (closed : Bool) (n : ℕ) → (closed ≡ true → count ≡ Some n) → (is_some upper && closed) ≡ true →
    with_dimension lower upper count ≡ Some ((elim upper [ None ↦ 0 | Some u ↦ nat_abs ((u -ℤ lower) +ℤ pos 1) ]) * n)
product_more lower None count closed n known is = absurd (cc)
product_more lower (Some u) count closed n known is =
    ap (λ (o : Option ℕ). elim o [ None ↦ None | Some m ↦ Some (nat_abs ((u -ℤ lower) +ℤ pos 1) * m) ]) (known is)

pub product_elements : (bs : List Bound) → list_all is_closed bs ≡ true → elements_of (map bounds_of bs) ≡ Some (elements_in bs)
unfolding elements_of bounds_of is_closed elements_in size_of_dimension
product_elements [] is = refl
product_elements (b ∷ bs) is = product_more b.lower b.upper (elements_of (map bounds_of bs)) (list_all is_closed bs) (elements_in bs) (λ closed. product_elements bs closed) is
