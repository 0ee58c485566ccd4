-- The element that FORTRAN finds by subscripts is the place that the C expression names, or where it points.
use Rattle.std.specs.Prelude.{◌≡◌, ℕ, ◌*◌, ◌<◌, ◌≤◌, pos, List}
use Rattle.std.proofs.Common.{refl, sym, ap, ◌∙◌, subst, arith}
use Rattle.c_image.specs.f_tree.declared.names.Basic.{Basic}
use Rattle.c_image.specs.f_tree.declared.names.Basic.TheVariants.{Integer, Logical, Character, Untyped}
use Rattle.c_image.specs.f_tree.Values.{Bytes, Spot, Datum, IsInt, IsSpot, Checked, Gives, Fails, given_that}
use Rattle.c_image.specs.f_tree.Store.{Number}
use Rattle.c_image.specs.f_tree.Facts.{Bounds}
use Rattle.c_image.specs.f_tree.Valuing.{elements_before, further, element_at}
use Rattle.c_laws.specs.c_tree.Access.{ToNumber}
use Rattle.c_laws.specs.c_tree.Values as c_range
use Rattle.c_laws.proofs.ValueLaws.{Variable-counts}
use Rattle.c_image.specs.Addresses.{access_to, HasShape}
use Rattle.c_image.specs.Operations.{constant_term}
use Rattle.c_image.specs.Elements.{Written, Saved, index_term, product_term}
use Rattle.c_image_laws.specs.DerivedPlaces.{further_place}
use Rattle.c_image_laws.specs.FoundElements.{ElementsAreFound, TextElementsAreFound, QuantitiesAreMeant, DistancesAreMeant}
use Rattle.c_image_laws.specs.Meanings.{IsNumber}
use Rattle.c_image_laws.proofs.Contracts.{elements_are_named}
use Rattle.c_image_laws.proofs.ElementValues.{index_meant}
use Rattle.c_image_laws.proofs.IntegerFacts.{small_in_range}
use Rattle.c_image_laws.proofs.Keeping.{held_number}
use Rattle.c_image_laws.proofs.OperatorValues.{same_range}
use Rattle.c_image_laws.proofs.Pointers.{text_parts_point}
use Rattle.c_image_laws.proofs.SoundPlaces.{is_further, further_sound}
use Rattle.c_image_laws.proofs.TermValues.{constant_counts, difference_counts, product_counts}

-- how many elements stand before an element that is found
record IsFoundBy (x : Bytes) (bounds : List Bounds) (ds : List Datum) (p : Spot) (d : Datum) : Type 0 where
  before : ℕ
  counted : elements_before x 1 bounds ds ≡ Gives before
  found : further p before ≡ Gives d

found_by : (x : Bytes) (bounds : List Bounds) (ds : List Datum) (p : Spot) (d : Datum) → element_at x bounds ds (IsSpot p) ≡ Gives d → IsFoundBy x bounds ds p d
unfolding element_at given_that
found_by x bounds ds p d gives = by (elements_before x 1 bounds ds) refl gives
  where
    by : (count : Checked ℕ) → elements_before x 1 bounds ds ≡ count → given_that count (further p) ≡ Gives d → IsFoundBy x bounds ds p d
    by (Gives n) is found = record { before = n; counted = is; found = found }
    by (Fails act) is found = absurd (cc)

wide : (basic : Basic) (p : Spot) → access_to basic ≡ ToNumber → HasShape basic p → p.width ≡ 4
wide Integer p numeric shaped = shaped.1
wide Logical p numeric shaped = shaped.1
wide Character p numeric shaped = absurd (cc)
wide Untyped p numeric shaped = absurd (cc)

pub elements_are_found : ElementsAreFound
elements_are_found μ s objects x p address object bounds ds steps d stands sound numeric reaches at are gives =
    let by = found_by x bounds ds p d gives in
    let further_on = is_further p by.before d by.found in
    let fits = further_on.fits in
    let inside = sound.inside in
    let small = stands.sane.small p.sequence sound.there in
    let width = wide p.basic p numeric sound.shaped in
    let product : by.before * p.width ≡ by.before * 4 = ap (λ k. by.before * k) width in
    let index = index_meant objects x bounds ds steps by.before are by.counted (omega (arith, fits, inside, small, product)) in
    record {
      place = further_place p by.before;
      is = further_on.is;
      sound = further_sound μ p by.before d sound by.found;
      at = at;
      found = elements_are_named μ s objects p address object by.before d (index_term steps) stands sound numeric reaches at by.found index;
    }

at_most_product : (n width : ℕ) → 0 < width → n ≤ n * width
at_most_product n width some = grind arith

pub text_elements_are_found : TextElementsAreFound
text_elements_are_found μ s objects x p address object bounds ds steps size d stands sound basic reaches at are counts gives =
    let by = found_by x bounds ds p d gives in
    let further_on = is_further p by.before d by.found in
    let fits = further_on.fits in
    let inside = sound.inside in
    let small = stands.sane.small p.sequence sound.there in
    let some : 0 < p.width = subst (λ kind. HasShape kind p) basic sound.shaped in
    let more = at_most_product by.before p.width some in
    let index = index_meant objects x bounds ds steps by.before are by.counted (omega (arith, fits, inside, small, more)) in
    let distance = product_counts objects (index_term steps) size (pos by.before) (pos p.width) index counts (small_in_range (by.before * p.width) (omega (arith, fits, inside, small))) in
    record {
      place = further_place p by.before;
      is = further_on.is;
      sound = further_sound μ p by.before d sound by.found;
      at = at;
      found = text_parts_point μ s objects p address object (by.before * p.width) (product_term (index_term steps) size) stands sound basic reaches at (omega (arith, fits, inside)) distance;
    }

-- ## Bounds and sizes

pub quantities_are_meant : QuantitiesAreMeant
quantities_are_meant μ s objects (Written number) z stands is fits =
    subst (λ n. IsNumber objects (constant_term number) n) is (constant_counts objects number (ap c_range.in_range is ∙ (sym (same_range z) ∙ fits)))
quantities_are_meant μ s objects (Saved k) z stands is fits =
    Variable-counts objects k z (held_number μ s objects k (IsInt z) (Number z) stands is refl)

pub distances_are_meant : DistancesAreMeant
distances_are_meant objects b z subscript lower of_subscript of_lower fits = difference_counts objects subscript lower z b.lower of_subscript of_lower fits
