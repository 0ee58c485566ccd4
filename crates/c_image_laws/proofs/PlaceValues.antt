-- The C expressions for the places of FORTRAN name the places where they stand, and point there.
use Rattle.std.specs.Prelude.{◌≡◌, ℕ, zero, suc, ◌+◌, ◌*◌, ◌/◌, ◌%◌, ◌<◌, ◌≤◌, pos, List, [], ◌∷◌, length, Option, Some, slice_get}
use Rattle.std.proofs.Common.{refl, sym, ap, ◌∙◌, subst, arith}
use Rattle.c_image.specs.f_tree.declared.names.Basic.{Basic}
use Rattle.c_image.specs.f_tree.declared.names.Basic.TheVariants.{Integer, Logical, Character, Untyped}
use Rattle.c_image.specs.f_tree.Values.{Spot}
use Rattle.c_image.specs.f_tree.Store.{Store}
use Rattle.c_laws.specs.c_tree.declared.outcome.CValue.TheVariants.{Pointer}
use Rattle.c_laws.specs.c_tree.declared.types.CastType.TheVariants as to
use Rattle.c_laws.specs.c_tree.Access.{ToNumber, ToChar, ToPointer}
use Rattle.c_laws.specs.c_tree.Objects.{Object, Bytes}
use Rattle.c_laws.specs.c_tree.Terms.{Constant, Variable, Array, Cast, Element}
use Rattle.c_laws.proofs.ValueLaws.{Constant-counts}
use Rattle.c_image.specs.World.{World}
use Rattle.c_image.specs.Standing.{Stands}
use Rattle.c_image.specs.Addresses.{Address, Alone, Inside, InTexts, Through, access_to, pointer_object, Reaches, HasShape, IsSound, number_term, text_term}
use Rattle.c_image_laws.specs.Meanings.{Points, IsPlace}
use Rattle.c_image_laws.specs.Statements.{IsAt}
use Rattle.c_image_laws.proofs.AddressValues.{Variable-place, Array-points, Parameter-points, Deref-place, Chars-points, Element-place}
use Rattle.c_image_laws.proofs.TermValues.{sum_points}

-- ## Places of FORTRAN

-- the object of a sequence has room for it
pub record HasObject (μ : World) (objects : List Object) (n object : ℕ) : Type 0 where
  pub bytes : List (Option ℕ)
  pub is : slice_get objects object ≡ Some (Bytes bytes)
  pub room : μ.size n ≤ length bytes

some_there : {A : Type 0} (xs : List A) (n : ℕ) → n < length xs → (x : A) × (slice_get xs n ≡ Some x)
some_there [] n inside = absurd (omega (arith, inside))
some_there (x ∷ xs) zero inside = (x, refl)
some_there (x ∷ xs) (suc n) inside = some_there xs n (omega (arith, inside))

pub has_object : (μ : World) (s : Store) (objects : List Object) (n object : ℕ) → Stands μ s objects → n < μ.height → μ.homes n ≡ Some object → HasObject μ objects n object
has_object μ s objects n object stands there home =
    let found = some_there s n (subst (λ count. n < count) (sym stands.as_high) there) in
    let housed = stands.housed n found.0 found.1 in
    let room = housed.room object home in
    record { bytes = room.bytes; is = room.is; room = subst (λ count. count ≤ length room.bytes) housed.sized room.room }

pub reached_object : (μ : World) (p : Spot) (address : Address) → Reaches μ p address → (object : ℕ) × IsAt μ p object
reached_object μ p (Alone object) reaches = (object, reaches.0)
reached_object μ p (Inside object before) reaches = (object, reaches.0)
reached_object μ p (InTexts object before) reaches = (object, reaches.0)
reached_object μ p (Through parameter) reaches = (reaches.0, reaches.1)

-- so many whole numbers before a place
pub fours : (n : ℕ) → n % 4 ≡ 0 → 0 + n / 4 * 4 ≡ n
fours n aligned = omega (arith, aligned)

abbrev pub IsNumeric : Basic → Type 0
IsNumeric basic = access_to basic ≡ ToNumber

aligned_by : (basic : Basic) (p : Spot) → IsNumeric basic → HasShape basic p → p.first % 4 ≡ 0
aligned_by Integer p numeric shaped = shaped.0
aligned_by Logical p numeric shaped = shaped.0
aligned_by Character p numeric shaped = absurd (cc)
aligned_by Untyped p numeric shaped = absurd (cc)

-- the expression for a number names the place where it stands
pub number_place : (μ : World) (s : Store) (objects : List Object) (p : Spot) (address : Address) (object : ℕ) → Stands μ s objects → IsSound μ p → IsNumeric p.basic → Reaches μ p address →
    IsAt μ p object → IsPlace objects (number_term address) object p.first ToNumber
number_place μ s objects p (Alone own) object stands sound numeric reaches at =
    let same : own ≡ object = (let both : Some own ≡ Some object = sym reaches.0 ∙ at in cc) in
    subst (λ first. IsPlace objects (Variable own ToNumber) object first ToNumber) (sym reaches.1)
    (subst (λ k. IsPlace objects (Variable own ToNumber) k 0 ToNumber) same (Variable-place objects own ToNumber))
number_place μ s objects p (Inside own before) object stands sound numeric reaches at =
    let same : own ≡ object = (let both : Some own ≡ Some object = sym reaches.0 ∙ at in cc) in
    let has = has_object μ s objects p.sequence own stands sound.there reaches.0 in
    let aligned = aligned_by p.basic p numeric sound.shaped in
    let first = reaches.1 in
    let whole = fours before (subst (λ n. n % 4 ≡ 0) first aligned) in
    let inside = sound.inside in
    let room = has.room in
    subst (λ first. IsPlace objects (Element (Array own ToNumber) (Constant (pos (before / 4)))) object first ToNumber) (whole ∙ sym first)
    (subst (λ k. IsPlace objects (Element (Array own ToNumber) (Constant (pos (before / 4)))) k (0 + before / 4 * 4) ToNumber) same
    (Element-place objects (Array own ToNumber) (Constant (pos (before / 4))) own 0 (before / 4) 4 ToNumber (Bytes has.bytes) (Array-points objects own ToNumber)
    (Constant-counts objects (pos (before / 4))) refl has.is (omega (arith, whole, first, inside, room))))
number_place μ s objects p (InTexts own before) object stands sound numeric reaches at =
    let wrong : ToChar ≡ ToNumber = sym (ap access_to reaches.2) ∙ numeric in absurd (cc)
number_place μ s objects p (Through parameter) object stands sound numeric reaches at =
    let same : reaches.0 ≡ object = (let both : Some reaches.0 ≡ Some object = sym reaches.1 ∙ at in cc) in
    let points = Parameter-points objects parameter reaches.0 p.first p.basic (stands.held parameter (pointer_object (access_to p.basic) (Pointer reaches.0 p.first)) reaches.2) in
    Deref-place objects (Variable parameter (ToPointer ToNumber)) object p.first ToNumber
    (subst (λ k. Points objects (Variable parameter (ToPointer ToNumber)) k p.first ToNumber) same
    (subst (λ access. Points objects (Variable parameter (ToPointer access)) reaches.0 p.first access) numeric points))

-- the expression for a text points to where it stands
pub text_points : (μ : World) (s : Store) (objects : List Object) (p : Spot) (address : Address) (object : ℕ) → Stands μ s objects → IsSound μ p → p.basic ≡ Character → Reaches μ p address →
    IsAt μ p object → Points objects (text_term address) object p.first ToChar
text_points μ s objects p (Alone own) object stands sound basic reaches at =
    let same : own ≡ object = (let both : Some own ≡ Some object = sym reaches.0 ∙ at in cc) in
    subst (λ first. Points objects (Array own ToChar) object first ToChar) (sym reaches.1)
    (subst (λ k. Points objects (Array own ToChar) k 0 ToChar) same (Array-points objects own ToChar))
text_points μ s objects p (Inside own before) object stands sound basic reaches at =
    let same : own ≡ object = (let both : Some own ≡ Some object = sym reaches.0 ∙ at in cc) in
    let has = has_object μ s objects p.sequence own stands sound.there reaches.0 in
    let first = reaches.1 in
    let inside = sound.inside in
    let room = has.room in
    let whole : 0 + before * 1 ≡ before = omega arith in
    subst (λ first. Points objects (text_term (Inside own before)) object first ToChar) (whole ∙ sym first)
    (subst (λ k. Points objects (text_term (Inside own before)) k (0 + before * 1) ToChar) same
    (sum_points objects (Cast to.Chars (Array own ToNumber)) (Constant (pos before)) own 0 before 1 ToChar (Bytes has.bytes)
    (Chars-points objects (Array own ToNumber) own 0 ToNumber (Array-points objects own ToNumber))
    (Constant-counts objects (pos before)) refl has.is (omega (arith, first, inside, room))))
text_points μ s objects p (InTexts own before) object stands sound basic reaches at =
    let same : own ≡ object = (let both : Some own ≡ Some object = sym reaches.0 ∙ at in cc) in
    let has = has_object μ s objects p.sequence own stands sound.there reaches.0 in
    let first = reaches.1 in
    let inside = sound.inside in
    let room = has.room in
    let whole : 0 + before * 1 ≡ before = omega arith in
    subst (λ first. Points objects (text_term (InTexts own before)) object first ToChar) (whole ∙ sym first)
    (subst (λ k. Points objects (text_term (InTexts own before)) k (0 + before * 1) ToChar) same
    (sum_points objects (Array own ToChar) (Constant (pos before)) own 0 before 1 ToChar (Bytes has.bytes) (Array-points objects own ToChar)
    (Constant-counts objects (pos before)) refl has.is (omega (arith, first, inside, room))))
text_points μ s objects p (Through parameter) object stands sound basic reaches at =
    let same : reaches.0 ≡ object = (let both : Some reaches.0 ≡ Some object = sym reaches.1 ∙ at in cc) in
    let points = Parameter-points objects parameter reaches.0 p.first p.basic (stands.held parameter (pointer_object (access_to p.basic) (Pointer reaches.0 p.first)) reaches.2) in
    subst (λ k. Points objects (Variable parameter (ToPointer ToChar)) k p.first ToChar) same
    (subst (λ access. Points objects (Variable parameter (ToPointer access)) reaches.0 p.first access) (ap access_to basic) points)
