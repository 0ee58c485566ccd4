-- What is asked of the dummy arguments of a unit is asked of their names.
use Rattle.std.proofs.Common.{◌≡◌, ℕ, suc, Bool, true, false, not, ◌&&◌, ◌||◌, List, [], ◌∷◌, bytes_eq, ◌+◌, ◌-◌, ◌<◌, ◌≤◌, length, take, drop, drop-cons, get_or, refl, sym, ap, ◌∙◌, arith}
use Rattle.std.specs.List.{list_all, list_any}
use Rattle.std.proofs.lemmas.List.{drop_all, take_all, length-drop}
use Rattle.f_tree.specs.declared.statements.DummyArgument.{DummyArgument}
use Rattle.f_tree.specs.declared.statements.DummyArgument.TheVariants as dummy
use Rattle.f_tree.specs.declared.units.Unit.{Unit as WrittenUnit}
use Rattle.f_tree.specs.Values.{Bytes}
use Rattle.f_tree.specs.Attributes.{named_dummies}
use Rattle.f_tree.specs.Facts.{UnitKind, MainProgram, SubroutineUnit, FunctionUnit, BlockDataUnit}
use Rattle.f_tree.specs.declared.names.Class.{Class}
use Rattle.f_tree.specs.Reading.{name_or_none}
use Rattle.f_tree.specs.Lines.{unit_kind}
use Rattle.unit_forms.specs.plain_forms.PlainUnits.{has_none, is_main}
use Rattle.name_facts.specs.declaration_rows.NameRows.{given_names}
use Rattle.name_facts.specs.declared.table.NameFacts.{NameFacts}
use Rattle.name_facts.specs.GivenFacts.{AreNameFacts, fact_in}
use Rattle.plain_names.specs.PlainStatements.{is_no_entry}
use Rattle.plain_names.proofs.Statements.{entries-known}
use Rattle.unit_forms.specs.PlainProcedures.{has_no_entries, each_stands_once, is_dummy_class, is_result_class, class_in, names_dummies, is_function, names_its_result, heading_fits}
use Rattle.plain_procedures.specs.ToldHeadings.{is_named, stands_again, stand_once, names_a_dummy}

-- ## The list

among-names : (x : Bytes) (ds : List DummyArgument) → list_any (is_named x) ds ≡ list_any (bytes_eq x) (named_dummies ds)
unfolding is_named named_dummies
among-names x [] = refl
among-names x (dummy.Named y ∷ ds) = ap (λ t. bytes_eq x y || t) (among-names x ds)
among-names x (dummy.AlternateReturn ∷ ds) = among-names x ds

pub once-known : (ds : List DummyArgument) → stand_once ds ≡ each_stands_once (named_dummies ds)
unfolding stand_once stands_again named_dummies each_stands_once
once-known [] = refl
once-known (dummy.Named x ∷ ds) = ap (λ t. not t && stand_once ds) (among-names x ds) ∙ ap (λ t. not (list_any (bytes_eq x) (named_dummies ds)) && t) (once-known ds)
once-known (dummy.AlternateReturn ∷ ds) = once-known ds

-- ## What the names are

-- the class of a name, as the table tells it
pub class-known : (u : WrittenUnit) (table : NameFacts) (x : Bytes) → AreNameFacts u table → (fact_in table x).class ≡ class_in u x
unfolding class_in given_names
class-known u table x are = (are.facts x).class

all-known : (u : WrittenUnit) (table : NameFacts) (ds : List DummyArgument) → AreNameFacts u table → list_all (names_a_dummy table) ds ≡ list_all (λ x. is_dummy_class (class_in u x)) (named_dummies ds)
unfolding names_a_dummy named_dummies
all-known u table [] are = refl
all-known u table (dummy.Named x ∷ ds) are =
    ap (λ t. is_dummy_class t && list_all (names_a_dummy table) ds) (class-known u table x are) ∙ ap (λ t. is_dummy_class (class_in u x) && t) (all-known u table ds are)
all-known u table (dummy.AlternateReturn ∷ ds) are = all-known u table ds are

pub dummies-known : (u : WrittenUnit) (table : NameFacts) → AreNameFacts u table → list_all (names_a_dummy table) u.dummies ≡ names_dummies u
unfolding names_dummies
dummies-known u table are = all-known u table u.dummies are

pub no-entries : (u : WrittenUnit) → list_all is_no_entry u.statements ≡ has_no_entries u
unfolding has_no_entries
no-entries u = sym (entries-known 0 u.statements)

-- ## The unit

-- where a choice is made by a first test, and by a second if the first fails
either-first : (a b : Bool) → a ≡ true → a ≡ a || b
either-first true b is = refl
either-first false b is = absurd (cc)

either-second : (a b : Bool) → a ≡ false → b ≡ a || b
either-second true b is = absurd (cc)
either-second false b is = refl

pub result-then : (u : WrittenUnit) (f : Bool) → f ≡ is_function (unit_kind u) → f ≡ false → not f ≡ names_its_result u
unfolding names_its_result
result-then u f is none =
    either-first (not f) (is_result_class (class_in u (name_or_none u.name))) (ap not none) ∙ ap (λ t. not t || is_result_class (class_in u (name_or_none u.name))) is

pub result-else : (u : WrittenUnit) (f r : Bool) (k : Class) → f ≡ is_function (unit_kind u) → f ≡ true → k ≡ class_in u (name_or_none u.name) → r ≡ is_result_class k → r ≡ names_its_result u
unfolding names_its_result
result-else u f r k is some class-is result-is =
    result-is ∙ ap is_result_class class-is ∙ either-second (not f) (is_result_class (class_in u (name_or_none u.name))) (ap not some)
    ∙ ap (λ t. not t || is_result_class (class_in u (name_or_none u.name))) is

main-fits : (k : UnitKind) (ds : List DummyArgument) → not (is_main k) || has_none ds ≡ heading_fits k ds
unfolding is_main heading_fits
main-fits MainProgram ds = refl
main-fits SubroutineUnit ds = refl
main-fits FunctionUnit ds = refl
main-fits BlockDataUnit ds = refl

pub fits-then : (k : UnitKind) (ds : List DummyArgument) (m : Bool) → m ≡ is_main k → m ≡ false → not m ≡ heading_fits k ds
fits-then k ds m is none = either-first (not m) (has_none ds) (ap not none) ∙ ap (λ t. not t || has_none ds) is ∙ main-fits k ds

pub fits-else : (k : UnitKind) (ds : List DummyArgument) (m t : Bool) → m ≡ is_main k → m ≡ true → t ≡ has_none ds → t ≡ heading_fits k ds
fits-else k ds m t is some none = none ∙ either-second (not m) (has_none ds) (ap not some) ∙ ap (λ b. not b || has_none ds) is ∙ main-fits k ds

-- ## Behind a place of the list

-- what stands behind a place, cut off at the end of the list
behind : (ds : List DummyArgument) (i : ℕ) → take (length ds - (i + 1)) (drop (i + 1) ds) ≡ drop (i + 1) ds
behind ds i = take_all (length ds - (i + 1)) (drop (i + 1) ds) (let long : length (drop (i + 1) ds) ≡ length ds - (i + 1) = length-drop (i + 1) ds in omega (arith, long))

once-at : (ds : List DummyArgument) (i : ℕ) (x d : DummyArgument) (r : Bool) → i < length ds → x ≡ get_or ds i d → r ≡ stands_again x (take (length ds - (i + 1)) (drop (i + 1) ds)) →
    stand_once (drop i ds) ≡ not r && stand_once (drop (i + 1) ds)
unfolding stand_once
once-at ds i x d r below is again =
    ap stand_once (drop-cons ds i d below ∙ ap (λ y. y ∷ drop (suc i) ds) (sym is) ∙ ap (λ n. x ∷ drop n ds) (let e : suc i ≡ i + 1 = omega arith in e))
    ∙ ap (λ later. not (stands_again x later) && stand_once (drop (i + 1) ds)) (sym (behind ds i))
    ∙ ap (λ t. not t && stand_once (drop (i + 1) ds)) (sym again)

pub once-twice : (ds : List DummyArgument) (i : ℕ) (x d : DummyArgument) (r : Bool) → i < length ds → x ≡ get_or ds i d → r ≡ stands_again x (take (length ds - (i + 1)) (drop (i + 1) ds)) → r ≡ true →
    stand_once ds ≡ stand_once (drop i ds) → false ≡ stand_once ds
once-twice ds i x d r below is again twice so_far = sym (so_far ∙ once-at ds i x d r below is again ∙ ap (λ t. not t && stand_once (drop (i + 1) ds)) twice)

pub once-more : (ds : List DummyArgument) (i : ℕ) (x d : DummyArgument) (r : Bool) → i < length ds → x ≡ get_or ds i d → r ≡ stands_again x (take (length ds - (i + 1)) (drop (i + 1) ds)) → r ≡ false →
    stand_once ds ≡ stand_once (drop i ds) → stand_once ds ≡ stand_once (drop (i + 1) ds)
once-more ds i x d r below is again once so_far = so_far ∙ once-at ds i x d r below is again ∙ ap (λ t. not t && stand_once (drop (i + 1) ds)) once

pub once-end : (ds : List DummyArgument) (i : ℕ) → length ds ≤ i → stand_once ds ≡ stand_once (drop i ds) → true ≡ stand_once ds
unfolding stand_once
once-end ds i past so_far = sym (so_far ∙ ap stand_once (drop_all i ds past))
