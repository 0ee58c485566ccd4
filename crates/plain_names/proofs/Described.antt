-- What is asked of each described name of a unit is asked of each of its names.
use Rattle.std.proofs.Common.{◌≡◌, Bool, true, false, not, ◌&&◌, ◌||◌, List, [], ◌∷◌, map, if◌then◌else◌, refl, sym, ap, ◌∙◌}
use Rattle.std.specs.List.{list_all}
use Rattle.f_tree.specs.declared.names.Options.{Options}
use Rattle.f_tree.specs.declared.units.Unit.{Unit as WrittenUnit}
use Rattle.f_tree.specs.Values.{Bytes}
use Rattle.f_tree.specs.Facts.{Attribute, Member}
use Rattle.f_tree.specs.Setting.{IsIn, first_in, later_in}
use Rattle.f_tree.specs.Uses.{Use}
use Rattle.f_tree.specs.Attributes.{Constant, Expansion, attribute_of, Described, described, attribute_in, all_described}
use Rattle.f_tree.specs.Valuing.{elements_of}
use Rattle.f_tree.specs.Lines.{Naming, is_stored, stored_among, program_of, with_ties, unit_read}
use Rattle.name_facts.specs.declaration_rows.NameRows.{given_names, all_names}
use Rattle.c_emit.specs.c_tree.Tokens.{begins_with, is_letter}
use Rattle.plain_forms.specs.PlainUnits.{is_plain_name, names_are_plain}
use Rattle.plain_forms.specs.SpellableNames.{has_element, is_spellable_name, is_spellable}
use Rattle.plain_forms.proofs.fortran_laws.SimpleAttributes.{described_name}
use Rattle.std.specs.Borrow.{Bor}
use Rattle.name_facts.specs.declared.fact.NameFact.{NameFact}
use Rattle.name_facts.specs.declared.table.NameFacts.{NameFacts}
use Rattle.name_facts.specs.GivenFacts.{IsNameFact, AreNameFacts, fact_in}
use Rattle.plain_names.specs.ToldNames as told
use Rattle.plain_names.specs.ToldNames.{is_plain}
use Rattle.plain_names.proofs.ToldLaws.{is_spelled, plain-told, spelled-told}

-- ## Each description is that of a name

looked-up : Naming → Bytes → Described
looked-up names x = record { name = x; attribute = names x }

-- a name with what its unit makes of it
described_in : WrittenUnit → Bytes → Described
described_in u x = looked-up (given_names u) x

-- a name that is among others is described as what is looked up
described-as : (u : WrittenUnit) (us : List Use) (cs : List Constant) (es : List Expansion) (xs ys : List Bytes) → ((y : Bytes) → IsIn y ys → IsIn y xs) →
    described u us cs es ys ≡ map (looked-up (attribute_in (described u us cs es xs))) ys
unfolding described looked-up
described-as u us cs es xs [] all = refl
described-as u us cs es xs (y ∷ ys) all =
    let same : attribute_of u us cs es y ≡ attribute_in (described u us cs es xs) y =
    described_name (λ a. attribute_of u us cs es y ≡ a) u us cs es xs y (all y first_in) refl in
    ap (λ a. record { name = y; attribute = a } ∷ described u us cs es ys) same
    ∙ ap (λ ds. record { name = y; attribute = attribute_in (described u us cs es xs) y } ∷ ds) (described-as u us cs es xs ys (λ z o. all z (later_in o)))

all-described : (u : WrittenUnit) → all_described u ≡ map (described_in u) (all_names u)
unfolding all_described all_names given_names described_in looked-up
all-described u = described-as u _ _ _ _ _ (λ y o. o)

all-mapped : {A B : Type 0} (test : B → Bool) (f : A → B) (xs : List A) → list_all test (map f xs) ≡ list_all (λ x. test (f x)) xs
all-mapped test f [] = refl
all-mapped test f (x ∷ xs) = ap (λ t. test (f x) && t) (all-mapped test f xs)

asked-known : (asked : Described → Bool) (u : WrittenUnit) → list_all (λ x. asked (described_in u x)) (all_names u) ≡ list_all asked (all_described u)
asked-known asked u = sym (ap (list_all asked) (all-described u) ∙ all-mapped asked (described_in u) (all_names u))

-- ## Spelled names

-- what is asked of a stored name
stored-test : Naming → Member → Bool
stored-test names m = begins_with is_letter m.name && has_element (elements_of (names m.name).bounds)

spelled-one : (names : Naming) (x : Bytes) (b : Bool) (n : _) (ms : List Member) (rest : Bool) → list_all (stored-test names) ms ≡ rest →
    list_all (stored-test names) (if b then record { name = x; size = n } ∷ ms else ms) ≡ (not b || (begins_with is_letter x && has_element (elements_of (names x).bounds))) && rest
unfolding stored-test
spelled-one names x true n ms rest is = ap (λ t. (begins_with is_letter x && has_element (elements_of (names x).bounds)) && t) is
spelled-one names x false n ms rest is = is

stored-spelled : (names : Naming) (xs : List Bytes) → list_all (stored-test names) (stored_among (map (looked-up names) xs)) ≡ list_all (λ x. is_spelled (looked-up names x)) xs
unfolding stored_among looked-up is_spelled
stored-spelled names [] = refl
stored-spelled names (x ∷ xs) =
    spelled-one names x (is_stored (names x)) _ (stored_among (map (looked-up names) xs)) (list_all (λ y. is_spelled (looked-up names y)) xs) (stored-spelled names xs)

spelled-known : (options : Options) (u : WrittenUnit) → list_all (λ x. is_spelled (described_in u x)) (all_names u) ≡ is_spellable (unit_read options u)
unfolding is_spellable is_spellable_name unit_read with_ties program_of given_names described_in looked-up stored-test
spelled-known options u =
    sym (ap (λ ds. list_all (stored-test (given_names u)) (stored_among ds)) (all-described u) ∙ stored-spelled (given_names u) (all_names u))

-- ## What the table tells of all of them

same-tests : {A : Type 0} (f g : A → Bool) (xs : List A) → ((x : A) → f x ≡ g x) → list_all f xs ≡ list_all g xs
same-tests f g [] same = refl
same-tests f g (x ∷ xs) same = ap (λ t. t && list_all f xs) (same x) ∙ ap (λ t. g x && t) (same-tests f g xs same)

-- a test of names that is one of what the table tells of them
by-table : (test : Bytes → NameFact → Bool) (asked : Described → Bool) (u : WrittenUnit) (table : NameFacts) (names : List (Bor Bytes)) → AreNameFacts u table →
    map (λ (name : Bor Bytes). name.now) names ≡ all_names u → ((x : Bytes) (a : Attribute) (fact : NameFact) → IsNameFact a fact → test x fact ≡ asked (record { name = x; attribute = a })) →
    list_all (λ (name : Bor Bytes). test name.now (fact_in table name.now)) names ≡ list_all (λ x. asked (described_in u x)) (all_names u)
unfolding described_in looked-up
by-table test asked u table names are all tells =
    sym (all-mapped (λ x. test x (fact_in table x)) (λ (name : Bor Bytes). name.now) names)
    ∙ ap (list_all (λ x. test x (fact_in table x))) all
    ∙ same-tests (λ x. test x (fact_in table x)) (λ x. asked (record { name = x; attribute = given_names u x })) (all_names u)
    (λ x. tells x (given_names u x) (fact_in table x) (are.facts x))

-- so is one of what each name is described as
pub all_asked : (test : Bytes → NameFact → Bool) (asked : Described → Bool) (u : WrittenUnit) (table : NameFacts) (names : List (Bor Bytes)) → AreNameFacts u table →
    map (λ (name : Bor Bytes). name.now) names ≡ all_names u → ((x : Bytes) (a : Attribute) (fact : NameFact) → IsNameFact a fact → test x fact ≡ asked (record { name = x; attribute = a })) →
    list_all (λ (name : Bor Bytes). test name.now (fact_in table name.now)) names ≡ list_all asked (all_described u)
all_asked test asked u table names are all tells = by-table test asked u table names are all tells ∙ asked-known asked u

pub all_plain : (u : WrittenUnit) (table : NameFacts) (names : List (Bor Bytes)) → AreNameFacts u table → map (λ (name : Bor Bytes). name.now) names ≡ all_names u →
    list_all (λ (name : Bor Bytes). is_plain name.now (fact_in table name.now)) names ≡ names_are_plain u
unfolding names_are_plain
all_plain u table names are all = all_asked is_plain is_plain_name u table names are all plain-told

pub all_spelled : (options : Options) (u : WrittenUnit) (table : NameFacts) (names : List (Bor Bytes)) → AreNameFacts u table → map (λ (name : Bor Bytes). name.now) names ≡ all_names u →
    list_all (λ (name : Bor Bytes). told.is_spelled name.now (fact_in table name.now)) names ≡ is_spellable (unit_read options u)
all_spelled options u table names are all = by-table told.is_spelled is_spelled u table names are all spelled-told ∙ spelled-known options u
