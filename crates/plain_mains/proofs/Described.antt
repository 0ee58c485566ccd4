-- What holds of each described name of a unit holds of what each name is, and the bounds of each name are constant, or assumed.
use Rattle.std.specs.List.{list_all}
use Rattle.std.specs.Prelude.{◌≡◌, ℕ, zero, suc, ◌<◌, ℤ, Bool, true, false, ◌||◌, List, [], ◌∷◌, length, Option, Some, None, is_some, slice_get, bytes_eq, if◌then◌else◌}
use Rattle.std.proofs.Common.{refl, sym, ap, subst, ◌∙◌, arith}
use Rattle.std.proofs.lemmas.Slice.Eq.{bytes_eq-Decides}
use Rattle.std.proofs.lemmas.Bool.{and_parts}
use Rattle.main_translation_laws.specs.f_tree.declared.names.Class.TheVariants as class
use Rattle.main_translation_laws.specs.f_tree.declared.units.Unit.{Unit as WrittenUnit}
use Rattle.main_translation_laws.specs.f_tree.Values.{Bytes}
use Rattle.main_translation_laws.specs.f_tree.Facts.{Bounds, Attribute}
use Rattle.main_translation_laws.specs.f_tree.Setting.{IsIn, first_in, later_in}
use Rattle.main_translation_laws.specs.f_tree.Valuing.{elements_of, extent_of}
use Rattle.main_translation_laws.specs.f_tree.Uses.{Use}
use Rattle.main_translation_laws.specs.f_tree.Attributes.{Constant, Expansion, bare, constant_bounds, without_expansion, with_dimensions, with_expansions, attribute_of, Described, described, attribute_in, all_described}
use Rattle.main_translation_laws.specs.main_translation.Contents.{count_by}
use Rattle.main_translation_laws.specs.main_programs.MainRuns.{bytes_in}
use Rattle.main_translation_laws.specs.plain_forms.PlainUnits.{has_none, only_last_is_assumed}
use Rattle.main_translation_laws.proofs.Lists.{in_at}

-- ## Lists

-- what a test says of a list, it says of each of its parts
pub all_in : {A : Type 0} (test : A → Bool) (xs : List A) (x : A) → list_all test xs ≡ true → IsIn x xs → test x ≡ true
all_in test [] x all o = elim o [ ]
all_in test (y ∷ xs) _ all first_in = (and_parts (test y) (list_all test xs) all).0
all_in test (y ∷ xs) x all (later_in o) = all_in test xs x (and_parts (test y) (list_all test xs) all).1 o

pub all_at : {A : Type 0} (test : A → Bool) (xs : List A) (k : ℕ) (x : A) → list_all test xs ≡ true → slice_get xs k ≡ Some x → test x ≡ true
all_at test xs k x all at = all_in test xs x all (in_at xs k x at)

-- ## Attributes

chosen : (P : Attribute → Type 0) (t : Bool) (a b : Attribute) → P a → P b → P (if t then a else b)
chosen P true a b one other = one
chosen P false a b one other = other

-- what holds of each described name, and of a name that is not described, holds of each name
pub each_attribute : (P : Attribute → Type 0) (ds : List Described) (x : Bytes) → P (bare class.Unit None) → ((d : Described) → IsIn d ds → P d.attribute) → P (attribute_in ds x)
unfolding attribute_in
each_attribute P [] x none each = none
each_attribute P (d ∷ ds) x none each =
    chosen P (bytes_eq d.name x) d.attribute (attribute_in ds x) (each d first_in) (each_attribute P ds x none (λ e o. each e (later_in o)))

-- what a test says of each described name, and of one that is not described, it says of what each name is
pub each_told : (test : Described → Bool) (ds : List Described) (x : Bytes) → list_all test ds ≡ true → test (record { name = x; attribute = bare class.Unit None }) ≡ true →
    test (record { name = x; attribute = attribute_in ds x }) ≡ true
unfolding attribute_in
each_told test [] x all none = none
each_told test (d ∷ ds) x all none = let parts = and_parts (test d) (list_all test ds) all in by (bytes_eq d.name x) refl parts.0 (each_told test ds x parts.1 none)
  where
    by : (t : Bool) → bytes_eq d.name x ≡ t → test d ≡ true → test (record { name = x; attribute = attribute_in ds x }) ≡ true →
        test (record { name = x; attribute = if t then d.attribute else attribute_in ds x }) ≡ true
    by true same one later = subst (λ y. test (record { name = y; attribute = d.attribute }) ≡ true) ((bytes_eq-Decides d.name x).0 same) one
    by false other one later = later

-- what holds of what the unit makes of a name, and of a name that is not of the unit, holds of it
pub own_described : (P : Attribute → Type 0) (u : WrittenUnit) (uses : List Use) (cs : List Constant) (es : List Expansion) (xs : List Bytes) (x : Bytes) →
    P (bare class.Unit None) → P (attribute_of u uses cs es x) → P (attribute_in (described u uses cs es xs) x)
unfolding described attribute_in
own_described P u uses cs es [] x none own = none
own_described P u uses cs es (y ∷ xs) x none own = by (bytes_eq y x) refl (own_described P u uses cs es xs x none own)
  where
    by : (t : Bool) → bytes_eq y x ≡ t → P (attribute_in (described u uses cs es xs) x) → P (if t then attribute_of u uses cs es y else attribute_in (described u uses cs es xs) x)
    by true same later = subst (λ z. P (attribute_of u uses cs es z)) (sym ((bytes_eq-Decides y x).0 same)) own
    by false other later = later

-- ## Constant bounds

-- the bounds are those of the dimensions that are constant or assumed
pub constant_attribute : (u : WrittenUnit) (x : Bytes) → (attribute_in (all_described u) x).bounds ≡ constant_bounds (attribute_in (all_described u) x).dimensions
unfolding all_described bare attribute_of with_expansions without_expansion with_dimensions constant_bounds
constant_attribute u x = own_described (λ a. a.bounds ≡ constant_bounds a.dimensions) u _ _ _ _ x refl refl

-- each dimension but the last has its last subscript
pub last_of : (bs : List Bounds) → only_last_is_assumed bs ≡ true → (k : ℕ) (b : Bounds) → slice_get bs k ≡ Some b → suc k < length bs → (last : ℤ) × (b.upper ≡ Some last)
unfolding only_last_is_assumed has_none
last_of [] closed k b at more = absurd (cc)
last_of (c ∷ []) closed k b at more = absurd (let no : ⊥ = omega (arith, more) in no)
last_of (c ∷ d ∷ bs) closed k b at more =
    let parts = and_parts (is_some c.upper || false) (only_last_is_assumed (d ∷ bs)) closed in
    by k at more (or_false (is_some c.upper) parts.0) (λ j there within. last_of (d ∷ bs) parts.1 j b there within)
  where
    or_false : (t : Bool) → (t || false) ≡ true → t ≡ true
    or_false true is = refl
    or_false false is = absurd (cc)

    written : (upper : Option ℤ) → is_some upper ≡ true → (last : ℤ) × (upper ≡ Some last)
    written None is = absurd (cc)
    written (Some last) is = (last, refl)

    by : (k : ℕ) → slice_get (c ∷ d ∷ bs) k ≡ Some b → suc k < length (c ∷ d ∷ bs) → is_some c.upper ≡ true →
        ((j : ℕ) → slice_get (d ∷ bs) j ≡ Some b → suc j < length (d ∷ bs) → (last : ℤ) × (b.upper ≡ Some last)) → (last : ℤ) × (b.upper ≡ Some last)
    by zero at more one later = written b.upper (let same : c ≡ b = cc in ap (λ (e : Bounds). is_some e.upper) (sym same) ∙ one)
    by (suc j) at more one later = later j at (omega (arith, more))

-- where none is assumed, the number of elements is known
pub counted_elements : (bs : List Bounds) → is_some (elements_of bs) ≡ true → (n : ℕ) × (elements_of bs ≡ Some n)
counted_elements bs some = by (elements_of bs) some
  where
    by : (o : Option ℕ) → is_some o ≡ true → (n : ℕ) × (o ≡ Some n)
    by None some = absurd (cc)
    by (Some n) some = (n, refl)

-- ## Sizes

size_by_count : (count : Option ℕ) (n : ℕ) → count ≡ Some n → extent_of count 4 ≡ bytes_in count
unfolding extent_of
size_by_count None n is = absurd (cc)
size_by_count (Some m) n is = omega arith

pub size_is : (bs : List Bounds) → is_some (elements_of bs) ≡ true → extent_of (elements_of bs) 4 ≡ bytes_in (count_by bs)
unfolding count_by elements_of extent_of
size_is [] some = refl
size_is (b ∷ bs) some = let n = counted_elements (b ∷ bs) some in size_by_count (elements_of (b ∷ bs)) n.0 n.1
