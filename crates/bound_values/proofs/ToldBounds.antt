-- What the table tells of the arrays of a unit, and of the names in their bounds, is what they are.
use Rattle.std.proofs.Common.{◌≡◌, ℕ, Bool, true, false, not, ◌&&◌, ◌||◌, List, [], ◌∷◌, map, length, Option, None, is_some, option_map, nat_eq, bytes_eq, if◌then◌else◌, refl, sym, ap, subst, ◌∙◌}
use Rattle.std.specs.List.{list_all}
use Rattle.std.proofs.lemmas.List.{length-map}
use Rattle.std.proofs.lemmas.Slice.Eq.{bytes_eq-Decides}
use Rattle.f_tree.specs.declared.names.Basic.{Basic}
use Rattle.f_tree.specs.declared.names.Class.{Class}
use Rattle.f_tree.specs.declared.names.Class.TheVariants as class
use Rattle.f_tree.specs.declared.statements.Dimension.{Dimension as WrittenDimension}
use Rattle.f_tree.specs.declared.statements.UpperBound.{UpperBound}
use Rattle.f_tree.specs.declared.statements.UpperBound.TheVariants as upper
use Rattle.f_tree.specs.declared.units.Unit.{Unit as WrittenUnit}
use Rattle.f_tree.specs.Setting.{IsIn}
use Rattle.f_tree.specs.Values.{Bytes, Datum}
use Rattle.f_tree.specs.Facts.{Attribute, Dimension}
use Rattle.f_tree.specs.Uses.{Use, uses_of_statements}
use Rattle.f_tree.specs.Attributes as written
use Rattle.f_tree.specs.Attributes.{from_all, upper_read, dimension_read, bare, Constant, constants_of, Expansion, with_class, with_dimensions, without_expansion, with_expansions, definitions_in, expansions_from, arrays_of, described, all_described}
use Rattle.fortran_laws.proofs.SimpleAttributes.{described_name}
use Rattle.name_facts.specs.declaration_rows.NameRows.{given_names, all_names, shape_in}
use Rattle.name_facts.specs.declared.fact.NameFact.{NameFact}
use Rattle.name_facts.specs.declared.table.NameFacts.{NameFacts}
use Rattle.name_facts.specs.GivenFacts.{IsNameFact, AreNameFacts, bounds_of, datum_of, fact_in}
use Rattle.kept_bounds.specs.KeptBounds as kept
use Rattle.kept_bounds.specs.KeptBounds.{dimension_is_pure, only_last_assumes}
use Rattle.expression_lowering.specs.TableNames.{attribute_of, attribute_in}
use Rattle.bound_values.specs.BoundValues.{is_written, only_last_is_star, dimensions_told, is_adjustable, has_adjustable_bounds}
use Rattle.bound_values.proofs.NamesInBounds.{dimensions-same, shape-named}

-- ## What a unit gives its names

abbrev unit_uses : WrittenUnit → List Use
unit_uses u = uses_of_statements (arrays_of u) u.statements

abbrev unit_expansions : WrittenUnit → List Expansion
unit_expansions u = expansions_from (without_expansion u (unit_uses u) (constants_of u)) [] (from_all (definitions_in (arrays_of u)) u.statements)

-- the names in a bound as they are read there
abbrev in_bounds : WrittenUnit → Bytes → Attribute
in_bounds u = with_class u (unit_uses u) (constants_of u)

given-if : (P : Attribute → Type 0) (b : Bool) (x y : Bytes) (f : Bytes → Attribute) (rest : Attribute) → bytes_eq y x ≡ b → P (f x) → P rest → P (if b then f y else rest)
given-if P true x y f rest e own other = subst (λ z. P (f z)) (sym ((bytes_eq-Decides y x).0 e)) own
given-if P false x y f rest e own other = other

given-among : (P : Attribute → Type 0) (u : WrittenUnit) (us : List Use) (cs : List Constant) (es : List Expansion) (xs : List Bytes) (x : Bytes) → P (bare class.Unit None) →
    P (written.attribute_of u us cs es x) → P (written.attribute_in (described u us cs es xs) x)
unfolding described written.attribute_in
given-among P u us cs es [] x none own = none
given-among P u us cs es (y ∷ xs) x none own =
    given-if P (bytes_eq y x) x y (written.attribute_of u us cs es) (written.attribute_in (described u us cs es xs) x) refl own (given-among P u us cs es xs x none own)

-- a name is what it is described as, or nothing
given-either : (P : Attribute → Type 0) (u : WrittenUnit) (x : Bytes) → P (bare class.Unit None) → P (written.attribute_of u (unit_uses u) (constants_of u) (unit_expansions u) x) → P (given_names u x)
unfolding given_names all_described
given-either P u x none own = given-among P u _ _ _ _ x none own

-- ## Names in bounds

abbrev head_of : Basic → Class → Option ℕ → Option Datum → Attribute
head_of b c w d = record { basic = b; class = c; width = w; dimensions = []; bounds = []; constant = d; expansion = None }

told-head : (fact : NameFact) (a : Attribute) → IsNameFact a fact → attribute_of fact ≡ head_of a.basic a.class a.width a.constant
unfolding attribute_of
told-head fact a told =
    ap (λ b. head_of b fact.class fact.width (option_map datum_of fact.constant)) told.basic ∙ ap (λ c. head_of a.basic c fact.width (option_map datum_of fact.constant)) told.class
    ∙ ap (λ w. head_of a.basic a.class w (option_map datum_of fact.constant)) told.width ∙ ap (λ d. head_of a.basic a.class a.width d) told.constant

described-in : (u : WrittenUnit) (x : Bytes) → IsIn x (all_names u) → written.attribute_of u (unit_uses u) (constants_of u) (unit_expansions u) x ≡ given_names u x
unfolding given_names all_described all_names
described-in u x among = described_name (λ a. written.attribute_of u (unit_uses u) (constants_of u) (unit_expansions u) x ≡ a) u _ _ _ _ x among refl

head-in : (u : WrittenUnit) (x : Bytes) → (a : Attribute) → a ≡ written.attribute_of u (unit_uses u) (constants_of u) (unit_expansions u) x → head_of a.basic a.class a.width a.constant ≡ in_bounds u x
unfolding written.attribute_of with_expansions without_expansion with_dimensions with_class
head-in u x a is = ap (λ (b : Attribute). head_of b.basic b.class b.width b.constant) is

name-told : (u : WrittenUnit) (table : NameFacts) → AreNameFacts u table → (x : Bytes) → IsIn x (all_names u) → attribute_in table x ≡ in_bounds u x
unfolding attribute_in
name-told u table are x among = told-head (fact_in table x) (given_names u x) (are.facts x) ∙ head-in u x (given_names u x) (sym (described-in u x among))

-- the dimensions of a name are what is read of them by the table
told-shape : (u : WrittenUnit) (table : NameFacts) → AreNameFacts u table → (x : Bytes) → dimensions_told table (shape_in u x) ≡ map (dimension_read (in_bounds u)) (shape_in u x)
unfolding dimensions_told
told-shape u table are x =
    dimensions-same (attribute_in table) (in_bounds u) (shape_in u x) (record { same = λ v o. name-told u table are v.name (shape-named u x v o) })

-- ## Arrays

adjustable-same : (a : Attribute) (fact : NameFact) → IsNameFact a fact → is_adjustable fact ≡ kept.is_adjustable a
unfolding is_adjustable Rattle.kept_bounds.specs.KeptBounds.is_adjustable
adjustable-same a fact told =
    ap (λ n. not (nat_eq n fact.rank)) (sym (length-map fact.bounds bounds_of) ∙ ap length told.bounds) ∙ ap (λ n. not (nat_eq (length a.bounds) n)) told.rank

module _ {A : Type 0} (f : List Dimension → A) (none : A) where
  if-given : (u : WrittenUnit) (x : Bytes) → (if kept.is_adjustable (given_names u x) then f (map (dimension_read (in_bounds u)) (shape_in u x)) else none) ≡
      (if kept.is_adjustable (given_names u x) then f (given_names u x).dimensions else none)
  unfolding written.attribute_of with_expansions without_expansion with_dimensions Rattle.kept_bounds.specs.KeptBounds.is_adjustable bare shape_in
  if-given u x =
      given-either (λ a. (if kept.is_adjustable a then f (map (dimension_read (in_bounds u)) (shape_in u x)) else none) ≡ (if kept.is_adjustable a then f a.dimensions else none)) u x refl refl

  -- what is made of the dimensions of an adjustable array by the table is made of those that it has
  pub told-dimensions : (u : WrittenUnit) (table : NameFacts) → AreNameFacts u table → (x : Bytes) →
      (if is_adjustable (fact_in table x) then f (dimensions_told table (shape_in u x)) else none) ≡ (if kept.is_adjustable (given_names u x) then f (given_names u x).dimensions else none)
  told-dimensions u table are x =
      ap (λ b. if b then f (dimensions_told table (shape_in u x)) else none) (adjustable-same (given_names u x) (fact_in table x) (are.facts x))
      ∙ ap (λ ds. if kept.is_adjustable (given_names u x) then f ds else none) (told-shape u table are x) ∙ if-given u x

written-some : (n : Bytes → Attribute) (last : UpperBound) → is_written last ≡ is_some (upper_read n last)
unfolding is_written upper_read
written-some n (upper.Value e) = refl
written-some n upper.Star = refl

star-told : (n : Bytes → Attribute) (ds : List WrittenDimension) → only_last_is_star ds ≡ only_last_assumes (map (dimension_read n) ds)
unfolding only_last_is_star Rattle.kept_bounds.specs.KeptBounds.only_last_assumes dimension_read
star-told n [] = refl
star-told n (d ∷ ds) =
    ap (λ b. (b || nat_eq (length ds) 0) && only_last_is_star ds) (written-some n d.upper)
    ∙ ap (λ k. (is_some (upper_read n d.upper) || nat_eq k 0) && only_last_is_star ds) (sym (length-map ds (dimension_read n)))
    ∙ ap (λ b. (is_some (upper_read n d.upper) || nat_eq (length (map (dimension_read n) ds)) 0) && b) (star-told n ds)

all-mapped : {A B : Type 0} (test : B → Bool) (f : A → B) (xs : List A) → list_all (λ x. test (f x)) xs ≡ list_all test (map f xs)
all-mapped test f [] = refl
all-mapped test f (x ∷ xs) = ap (λ t. test (f x) && t) (all-mapped test f xs)

and-if : (b c : Bool) → b && c ≡ (if b then c else false)
and-if true c = refl
and-if false c = refl

abbrev fit : List Dimension → Bool
fit ds = list_all dimension_is_pure ds && only_last_assumes ds

-- the bounds of an array are adjustable by the table where they are
pub adjustable-told : (u : WrittenUnit) (table : NameFacts) → AreNameFacts u table → (x : Bytes) → has_adjustable_bounds table (fact_in table x) (shape_in u x) ≡ kept.has_adjustable_bounds (given_names u x)
unfolding has_adjustable_bounds dimensions_told Rattle.kept_bounds.specs.KeptBounds.has_adjustable_bounds
adjustable-told u table are x =
    ap (λ b. is_adjustable (fact_in table x) && (b && only_last_is_star (shape_in u x))) (all-mapped dimension_is_pure (dimension_read (attribute_in table)) (shape_in u x))
    ∙ ap (λ b. is_adjustable (fact_in table x) && (list_all dimension_is_pure (dimensions_told table (shape_in u x)) && b)) (star-told (attribute_in table) (shape_in u x))
    ∙ and-if (is_adjustable (fact_in table x)) (fit (dimensions_told table (shape_in u x)))
    ∙ told-dimensions fit false u table are x
    ∙ sym (and-if (kept.is_adjustable (given_names u x)) (fit (given_names u x).dimensions))
