-- The laws in the forms in which they are stated.
use Rattle.std.specs.Prelude.{◌≡◌, ℕ, ◌+◌, ◌*◌, ◌/◌, ◌%◌, pos, List, take, drop, Option, Some, None}
use Rattle.std.proofs.Common.{refl, sym, ap, ◌∙◌, subst, arith}
use Rattle.c_image.specs.f_tree.declared.names.Basic.{Basic}
use Rattle.c_image.specs.f_tree.declared.names.Basic.TheVariants.{Integer, Logical, Character, Untyped}
use Rattle.c_image.specs.f_tree.Values.{Spot, Datum, IsText, Gives}
use Rattle.c_image.specs.f_tree.Store.{Store, Cell, Whole, Truth, Label, value_of_type, characters, fetch_as, defined_as, stored_in, whole_at}
use Rattle.c_image.specs.f_tree.Store as store
use Rattle.c_laws.specs.c_tree.Access.{ToNumber, ToChar, ToPointer}
use Rattle.c_laws.specs.c_tree.declared.outcome.CValue.TheVariants.{Pointer}
use Rattle.c_laws.specs.c_tree.Objects.{Bytes}
use Rattle.c_laws.specs.c_tree.Terms.{Constant, Variable, Array, Element}
use Rattle.c_laws.proofs.ValueLaws.{Constant-counts}
use Rattle.c_image.specs.Held.{whole_for}
use Rattle.c_image.specs.Addresses.{Alone, Inside, InTexts, Through, access_to, pointer_object, HasShape}
use Rattle.c_image.specs.Elements.{sum_term}
use Rattle.c_image_laws.specs.Meanings.{Points, IsPlace}
use Rattle.c_image_laws.specs.Statements.{ImageStands, NumbersAreRead, TextsAreRead, NumbersAreNamed, ConstantsAreMeant, ElementsAreNamed}
use Rattle.c_image_laws.proofs.AddressValues.{Array-points, Parameter-points, Element-place}
use Rattle.c_image_laws.proofs.DefinedPlaces.{is_defined}
use Rattle.c_image_laws.proofs.IntegerFacts.{small_in_range}
use Rattle.c_image_laws.proofs.OperatorValues.{means_integer, same_range}
use Rattle.c_image_laws.proofs.PlaceValues.{has_object, reached_object, number_place, text_points, fours}
use Rattle.c_image_laws.proofs.FetchedPlaces.{is_fetched, number_fetched, text_fetched, text_is_no_number}
use Rattle.c_image_laws.proofs.SoundPlaces.{is_further}
use Rattle.c_image_laws.proofs.TermValues.{constant_counts, sum_counts}

-- ## Reading

pub image_stands : ImageStands
image_stands μ s objects stands = stands.units

no_value : (found : Option Whole) (d : Datum) → value_of_type Untyped found ≡ Gives d → ⊥
unfolding value_of_type
no_value None d gives = cc
no_value (Some (store.Number z)) d gives = cc
no_value (Some (Truth b)) d gives = cc
no_value (Some (Label owner l)) d gives = cc

-- a place of which a number is fetched is of a type of numbers
fetched_numeric : (basic : Basic) (p : Spot) (cells : List Cell) (d : Datum) (w : Whole) → fetch_as basic p cells ≡ Gives d → whole_for d ≡ Some w → access_to basic ≡ ToNumber
unfolding fetch_as
fetched_numeric Integer p cells d w gives is = refl
fetched_numeric Logical p cells d w gives is = refl
fetched_numeric Character p cells d w gives is = absurd (text_is_no_number (characters (take p.width (drop p.first cells))) d w gives is)
fetched_numeric Untyped p cells d w gives is = absurd (no_value (whole_at p.first cells) d gives)

pub numbers_are_read : NumbersAreRead
numbers_are_read μ s objects p address d w stands sound reaches gives is =
    let at = reached_object μ p address reaches in
    let place = is_fetched s p d gives in
    let numeric = fetched_numeric p.basic p place.sequence.cells d w place.found is in
    let named = number_place μ s objects p address at.0 stands sound numeric reaches at.1 in
    record { whole = w; is = is; counts = named.holds ∙ number_fetched μ s objects p at.0 d w stands sound at.1 gives is }

text_basic : (basic : Basic) (p : Spot) (cells : List Cell) (cs : List ℕ) → fetch_as basic p cells ≡ Gives (IsText cs) → basic ≡ Character
unfolding fetch_as value_of_type
text_basic Character p cells cs gives = refl
text_basic Integer p cells cs gives = absurd (by (whole_at p.first cells) gives)
  where
    by : (found : Option Whole) → value_of_type Integer found ≡ Gives (IsText cs) → ⊥
    by None is = cc
    by (Some (store.Number z)) is = cc
    by (Some (Truth b)) is = cc
    by (Some (Label owner l)) is = cc
text_basic Logical p cells cs gives = absurd (by (whole_at p.first cells) gives)
  where
    by : (found : Option Whole) → value_of_type Logical found ≡ Gives (IsText cs) → ⊥
    by None is = cc
    by (Some (store.Number z)) is = cc
    by (Some (Truth b)) is = cc
    by (Some (Label owner l)) is = cc
text_basic Untyped p cells cs gives = absurd (no_value (whole_at p.first cells) (IsText cs) gives)

pub texts_are_read : TextsAreRead
texts_are_read μ s objects p address object cs stands sound reaches at gives =
    let place = is_fetched s p (IsText cs) gives in (
      text_points μ s objects p address object stands sound (text_basic p.basic p place.sequence.cells cs place.found) reaches at,
      text_fetched μ s objects p object cs stands sound at gives,
    )

-- ## Defining

defined_numeric : (basic : Basic) (p : Spot) (d : Datum) (w : Whole) (s later : Store) (n : ℕ) (cells : List Cell) → whole_for d ≡ Some w → stored_in s n (defined_as basic p d cells) ≡ Gives later →
    access_to basic ≡ ToNumber
unfolding defined_as stored_in
defined_numeric Integer p d w s later n cells is gives = refl
defined_numeric Logical p d w s later n cells is gives = refl
defined_numeric Character p (IsText cs) w s later n cells is gives = absurd (cc)
defined_numeric _ p d w s later n cells is gives = absurd (cc)

pub numbers_are_named : NumbersAreNamed
numbers_are_named μ s later objects p address object d w stands sound reaches at gives is =
    let place = is_defined s p d later gives in
    number_place μ s objects p address object stands sound (defined_numeric p.basic p d w s later p.sequence place.sequence.cells is place.stored) reaches at

-- ## Values

pub constants_are_meant : ConstantsAreMeant
constants_are_meant objects z fits = means_integer objects _ z (constant_counts objects z (sym (same_range z) ∙ fits))

-- ## Elements

shape_of_numbers : (basic : Basic) (p : Spot) → access_to basic ≡ ToNumber → HasShape basic p → (p.first % 4 ≡ 0) × (p.width ≡ 4)
shape_of_numbers Integer p numeric shaped = shaped
shape_of_numbers Logical p numeric shaped = shaped
shape_of_numbers Character p numeric shaped = absurd (cc)
shape_of_numbers Untyped p numeric shaped = absurd (cc)

pub elements_are_named : ElementsAreNamed
elements_are_named μ s objects p (Alone own) object n d index stands sound numeric reaches at gives counts =
    let same : own ≡ object = (let both : Some own ≡ Some object = sym reaches.0 ∙ at in cc) in
    let has = has_object μ s objects p.sequence own stands sound.there reaches.0 in
    let shape = shape_of_numbers p.basic p numeric sound.shaped in
    let fits = (is_further p n d gives).fits in
    let inside = sound.inside in
    let room = has.room in
    let first = reaches.1 in
    let width = shape.1 in
    let wide : n * p.width ≡ n * 4 = ap (λ k. n * k) width in
    let where_is : 0 + n * 4 ≡ p.first + n * p.width = omega (arith, first, wide) in
    subst (λ place. IsPlace objects (Element (Array own ToNumber) index) object place ToNumber) where_is
    (subst (λ k. IsPlace objects (Element (Array own ToNumber) index) k (0 + n * 4) ToNumber) same
    (Element-place objects (Array own ToNumber) index own 0 n 4 ToNumber (Bytes has.bytes) (Array-points objects own ToNumber) counts refl has.is (omega (arith, first, wide, fits, inside, room))))
elements_are_named μ s objects p (Inside own before) object n d index stands sound numeric reaches at gives counts =
    let same : own ≡ object = (let both : Some own ≡ Some object = sym reaches.0 ∙ at in cc) in
    let has = has_object μ s objects p.sequence own stands sound.there reaches.0 in
    let shape = shape_of_numbers p.basic p numeric sound.shaped in
    let fits = (is_further p n d gives).fits in
    let inside = sound.inside in
    let room = has.room in
    let first = reaches.1 in
    let width = shape.1 in
    let wide : n * p.width ≡ n * 4 = ap (λ k. n * k) width in
    let whole = fours before (subst (λ k. k % 4 ≡ 0) first shape.0) in
    let small = stands.sane.small p.sequence sound.there in
    let term = sum_term index (Constant (pos (before / 4))) in
    let where_is : 0 + (n + before / 4) * 4 ≡ p.first + n * p.width = omega (arith, first, wide, whole) in
    let sum = sum_counts objects index (Constant (pos (before / 4))) (pos n) (pos (before / 4)) counts (Constant-counts objects (pos (before / 4))) (small_in_range (n + before / 4) (omega (arith, first, wide, whole, fits, inside, small))) in
    subst (λ place. IsPlace objects (Element (Array own ToNumber) term) object place ToNumber) where_is
    (subst (λ k. IsPlace objects (Element (Array own ToNumber) term) k (0 + (n + before / 4) * 4) ToNumber) same
    (Element-place objects (Array own ToNumber) term own 0 (n + before / 4) 4 ToNumber (Bytes has.bytes) (Array-points objects own ToNumber) sum refl has.is (omega (arith, first, wide, whole, fits, inside, room))))
elements_are_named μ s objects p (InTexts own before) object n d index stands sound numeric reaches at gives counts =
    let wrong : ToChar ≡ ToNumber = sym (ap access_to reaches.2) ∙ numeric in absurd (cc)
elements_are_named μ s objects p (Through parameter) object n d index stands sound numeric reaches at gives counts =
    let same : reaches.0 ≡ object = (let both : Some reaches.0 ≡ Some object = sym reaches.1 ∙ at in cc) in
    let has = has_object μ s objects p.sequence object stands sound.there at in
    let shape = shape_of_numbers p.basic p numeric sound.shaped in
    let fits = (is_further p n d gives).fits in
    let inside = sound.inside in
    let room = has.room in
    let width = shape.1 in
    let wide : n * p.width ≡ n * 4 = ap (λ k. n * k) width in
    let where_is : p.first + n * 4 ≡ p.first + n * p.width = omega (arith, wide) in
    let points = Parameter-points objects parameter reaches.0 p.first p.basic (stands.held parameter (pointer_object (access_to p.basic) (Pointer reaches.0 p.first)) reaches.2) in
    let start : Points objects (Variable parameter (ToPointer ToNumber)) object p.first ToNumber =
    subst (λ k. Points objects (Variable parameter (ToPointer ToNumber)) k p.first ToNumber) same
    (subst (λ access. Points objects (Variable parameter (ToPointer access)) reaches.0 p.first access) numeric points) in
    subst (λ place. IsPlace objects (Element (Variable parameter (ToPointer ToNumber)) index) object place ToNumber) where_is
    (Element-place objects (Variable parameter (ToPointer ToNumber)) index object p.first n 4 ToNumber (Bytes has.bytes) start counts refl has.is (omega (arith, wide, fits, inside, room)))
