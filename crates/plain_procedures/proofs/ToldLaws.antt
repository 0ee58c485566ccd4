-- What is said of a name tells what is asked of it.
use Rattle.std.proofs.Common.{◌≡◌, ℕ, suc, ◌+◌, ◌<◌, ◌≤◌, Bool, true, false, ◌&&◌, ◌||◌, List, [], ◌∷◌, map, length, drop, drop-cons, get_or, nat_eq, refl, ap, sym, ◌∙◌, arith}
use Rattle.std.proofs.lemmas.List.{drop_all}
use Rattle.std.specs.List.{list_all}
use Rattle.std.specs.Borrow.{Bor}
use Rattle.f_tree.specs.declared.names.Class.{Class}
use Rattle.f_tree.specs.declared.names.Class.TheVariants as class
use Rattle.f_tree.specs.declared.statements.Dimension.{Dimension as WrittenDimension}
use Rattle.f_tree.specs.declared.units.Unit.{Unit as WrittenUnit}
use Rattle.f_tree.specs.CNames.{is_name}
use Rattle.f_tree.specs.Values.{Bytes}
use Rattle.f_tree.specs.Facts.{Attribute, Dimension, UnitKind}
use Rattle.f_tree.specs.Setting.{IsIn, first_in, later_in}
use Rattle.f_tree.specs.Uses.{Use}
use Rattle.f_tree.specs.Attributes.{Constant, Expansion, attribute_of, Described, described, attribute_in, all_described}
use Rattle.f_tree.specs.Lines.{unit_kind}
use Rattle.fortran_laws.proofs.SimpleAttributes.{described_name}
use Rattle.name_facts.specs.declaration_rows.NameRows.{given_names, all_names, shape_in}
use Rattle.name_facts.specs.declared.fact.NameFact.{NameFact}
use Rattle.name_facts.specs.declared.table.NameFacts.{NameFacts}
use Rattle.name_facts.specs.GivenFacts.{IsNameFact, AreNameFacts, fact_in, no_fact}
use Rattle.unit_forms.specs.plain_forms.PlainUnits as plain
use Rattle.unit_forms.specs.plain_forms.PlainUnits.{has_none}
use Rattle.plain_names.specs.ToldNames.{has_plain_bounds, is_plain_variable}
use Rattle.plain_names.proofs.ToldLaws.{number-told, bounds-told, constant-told, variable-told}
use Rattle.bound_values.specs.BoundValues.{has_adjustable_bounds}
use Rattle.bound_values.proofs.ToldBounds.{adjustable-told}
use Rattle.unit_forms.specs.PlainProcedures as procedures
use Rattle.unit_forms.specs.PlainProcedures.{is_function, each_name_is_plain}
use Rattle.plain_procedures.specs.ToldProcedures.{is_plain_dummy, is_plain_procedure, is_plain_result, is_plain_stored, is_plain_as, is_plain}
use Rattle.plain_procedures.specs.ToldNames.{plain_in}

none_long : (ds : List Dimension) → nat_eq (length ds) 0 ≡ has_none ds
unfolding has_none
none_long [] = refl
none_long (d ∷ ds) = grind arith

no-array : (a : Attribute) (fact : NameFact) → IsNameFact a fact → nat_eq fact.rank 0 ≡ has_none a.dimensions
no-array a fact told = ap (λ n. nat_eq n 0) told.rank ∙ none_long a.dimensions

dummy-told : (u : WrittenUnit) (table : NameFacts) (x : Bytes) → AreNameFacts u table →
    is_plain_dummy table x (shape_in u x) (fact_in table x) ≡ procedures.is_plain_dummy (record { name = x; attribute = given_names u x })
unfolding is_plain_dummy Rattle.unit_forms.specs.PlainProcedures.is_plain_dummy
dummy-told u table x are =
    let fact = fact_in table x in
    let a = given_names u x in
    ap (λ t. is_name x && (t && (has_plain_bounds fact || has_adjustable_bounds table fact (shape_in u x)))) (number-told a fact (are.facts x))
    ∙ ap (λ t. is_name x && (plain.is_number a && (t || has_adjustable_bounds table fact (shape_in u x)))) (bounds-told a fact (are.facts x))
    ∙ ap (λ t. is_name x && (plain.is_number a && (plain.has_plain_bounds a || t))) (adjustable-told u table are x)

class-told : (u : WrittenUnit) (table : NameFacts) (kind : UnitKind) (x : Bytes) → AreNameFacts u table → (k : Class) →
    is_plain_as table (is_function kind) k x (shape_in u x) (fact_in table x) ≡ procedures.is_plain_as kind k (record { name = x; attribute = given_names u x })
unfolding is_plain_as is_plain_stored is_plain_procedure is_plain_result Rattle.unit_forms.specs.PlainProcedures.is_plain_as Rattle.unit_forms.specs.PlainProcedures.is_plain_result
class-told u table kind x are class.Stored =
    ap (λ t. t && is_plain_variable x (fact_in table x)) (constant-told (given_names u x) (fact_in table x) (are.facts x))
    ∙ ap (λ t. plain.has_constant_bounds (given_names u x) && t) (variable-told x (given_names u x) (fact_in table x) (are.facts x))
class-told u table kind x are class.Dummy = dummy-told u table x are
class-told u table kind x are class.DummyProcedure = ap (λ t. is_name x && t) (no-array (given_names u x) (fact_in table x) (are.facts x))
class-told u table kind x are class.Result =
    ap (λ t. is_function kind && (t && nat_eq (fact_in table x).rank 0)) (number-told (given_names u x) (fact_in table x) (are.facts x))
    ∙ ap (λ t. is_function kind && (plain.is_number (given_names u x) && t)) (no-array (given_names u x) (fact_in table x) (are.facts x))
class-told u table kind x are class.Constant = bounds-told (given_names u x) (fact_in table x) (are.facts x)
class-told u table kind x are class.Procedure = bounds-told (given_names u x) (fact_in table x) (are.facts x)
class-told u table kind x are class.StatementFunction = bounds-told (given_names u x) (fact_in table x) (are.facts x)
class-told u table kind x are class.Intrinsic = bounds-told (given_names u x) (fact_in table x) (are.facts x)
class-told u table kind x are class.Unit = bounds-told (given_names u x) (fact_in table x) (are.facts x)

-- a name is plain by what is said of it
plain-told : (u : WrittenUnit) (table : NameFacts) (kind : UnitKind) → AreNameFacts u table → (x : Bytes) →
    is_plain table (is_function kind) x (shape_in u x) (fact_in table x) ≡ procedures.is_plain_name kind (record { name = x; attribute = given_names u x })
unfolding is_plain Rattle.unit_forms.specs.PlainProcedures.is_plain_name
plain-told u table kind are x =
    ap (λ k. is_plain_as table (is_function kind) k x (shape_in u x) (fact_in table x)) (are.facts x).class ∙ class-told u table kind x are (given_names u x).class

-- a name that the table does not have
pub unknown_is_plain : (table : NameFacts) (function : Bool) (x : Bytes) (ds : List WrittenDimension) → is_plain table function x ds no_fact ≡ true
unfolding no_fact is_plain is_plain_as has_plain_bounds Rattle.plain_names.specs.Elements.only_last_is_open
unknown_is_plain table function x ds = refl

-- ## Each description is that of a name

looked-up : (Bytes → Attribute) → Bytes → Described
looked-up names x = record { name = x; attribute = names x }

described-as : (u : WrittenUnit) (us : List Use) (cs : List Constant) (es : List Expansion) (xs ys : List Bytes) → ((y : Bytes) → IsIn y ys → IsIn y xs) →
    described u us cs es ys ≡ map (looked-up (attribute_in (described u us cs es xs))) ys
unfolding described looked-up
described-as u us cs es xs [] all = refl
described-as u us cs es xs (y ∷ ys) all =
    let same : attribute_of u us cs es y ≡ attribute_in (described u us cs es xs) y =
    described_name (λ a. attribute_of u us cs es y ≡ a) u us cs es xs y (all y first_in) refl in
    ap (λ a. record { name = y; attribute = a } ∷ described u us cs es ys) same
    ∙ ap (λ ds. record { name = y; attribute = attribute_in (described u us cs es xs) y } ∷ ds) (described-as u us cs es xs ys (λ z o. all z (later_in o)))

all-described : (u : WrittenUnit) → all_described u ≡ map (looked-up (given_names u)) (all_names u)
unfolding all_described all_names given_names looked-up
all-described u = described-as u _ _ _ _ _ (λ y o. o)

all-mapped : {A B : Type 0} (test : B → Bool) (f : A → B) (xs : List A) → list_all test (map f xs) ≡ list_all (λ x. test (f x)) xs
all-mapped test f [] = refl
all-mapped test f (x ∷ xs) = ap (λ t. test (f x) && t) (all-mapped test f xs)

same-tests : {A : Type 0} (p q : A → Bool) (xs : List A) → ((x : A) → p x ≡ q x) → list_all p xs ≡ list_all q xs
same-tests p q [] same = refl
same-tests p q (x ∷ xs) same = ap (λ t. t && list_all p xs) (same x) ∙ ap (λ t. q x && t) (same-tests p q xs same)

-- each name of a unit is plain by what the table tells of it
pub all_plain : (u : WrittenUnit) (table : NameFacts) (names : List (Bor Bytes)) → AreNameFacts u table → map (λ (name : Bor Bytes). name.now) names ≡ all_names u →
    list_all (plain_in u table (is_function (unit_kind u))) names ≡ each_name_is_plain u
unfolding each_name_is_plain looked-up
all_plain u table names are all =
    sym (all-mapped (λ x. is_plain table (is_function (unit_kind u)) x (shape_in u x) (fact_in table x)) (λ (name : Bor Bytes). name.now) names)
    ∙ ap (list_all (λ x. is_plain table (is_function (unit_kind u)) x (shape_in u x) (fact_in table x))) all
    ∙ same-tests (λ x. is_plain table (is_function (unit_kind u)) x (shape_in u x) (fact_in table x)) (λ x. procedures.is_plain_name (unit_kind u) (looked-up (given_names u) x)) (all_names u)
    (λ x. plain-told u table (unit_kind u) are x)
    ∙ sym (all-mapped (procedures.is_plain_name (unit_kind u)) (looked-up (given_names u)) (all_names u))
    ∙ ap (list_all (procedures.is_plain_name (unit_kind u))) (sym (all-described u))

-- ## One name after the other

test-at : {A : Type 0} (test : A → Bool) (xs : List A) (i : ℕ) (d : A) → i < length xs → list_all test (drop i xs) ≡ test (get_or xs i d) && list_all test (drop (i + 1) xs)
test-at test xs i d h =
    ap (list_all test) (drop-cons xs i d h) ∙ ap (λ n. test (get_or xs i d) && list_all test (drop n xs)) (let next : suc i ≡ i + 1 = omega arith in next)

pub all-fails : {A : Type 0} (test : A → Bool) (xs : List A) (i : ℕ) (d : A) (r : Bool) → i < length xs → r ≡ test (get_or xs i d) → r ≡ false →
    list_all test xs ≡ list_all test (drop i xs) → false ≡ list_all test xs
all-fails test xs i d r h is fails so_far = sym (so_far ∙ test-at test xs i d h ∙ ap (λ t. t && list_all test (drop (i + 1) xs)) (sym is ∙ fails))

pub all-goes-on : {A : Type 0} (test : A → Bool) (xs : List A) (i : ℕ) (d : A) (r : Bool) → i < length xs → r ≡ test (get_or xs i d) → r ≡ true →
    list_all test xs ≡ list_all test (drop i xs) → list_all test xs ≡ list_all test (drop (i + 1) xs)
all-goes-on test xs i d r h is holds so_far = so_far ∙ test-at test xs i d h ∙ ap (λ t. t && list_all test (drop (i + 1) xs)) (sym is ∙ holds)

pub all-ends : {A : Type 0} (test : A → Bool) (xs : List A) (i : ℕ) → length xs ≤ i → list_all test xs ≡ list_all test (drop i xs) → true ≡ list_all test xs
all-ends test xs i h so_far = sym (so_far ∙ ap (list_all test) (drop_all i xs h))
