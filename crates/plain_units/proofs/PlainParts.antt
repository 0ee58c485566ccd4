-- A written unit for which the test computes to true has plain parts.
use Rattle.std.specs.List.{list_all}
use Rattle.std.specs.Prelude.{◌≡◌, ◌≢◌, ℕ, Bool, true, false, not, ◌&&◌, ◌||◌, List, [], ◌∷◌, length, Option, Some, None, is_some, if◌then◌else◌}
use Rattle.std.proofs.Common.{refl, sym, ap, ◌∙◌, subst}
use Rattle.std.proofs.lemmas.Bool.{and_parts, eq-eqb}
use Rattle.plain_mains.specs.f_tree.declared.names.Basic.{Basic}
use Rattle.plain_mains.specs.f_tree.declared.names.Basic.TheVariants.{Integer, Logical, Character, Untyped}
use Rattle.plain_mains.specs.f_tree.declared.names.Class.{Class}
use Rattle.plain_mains.specs.f_tree.declared.names.Class.TheVariants as class
use Rattle.plain_mains.specs.f_tree.declared.names.Options.{Options}
use Rattle.plain_mains.specs.f_tree.declared.statements.DummyArgument.{DummyArgument}
use Rattle.plain_mains.specs.f_tree.declared.units.Unit.{Unit as WrittenUnit}
use Rattle.plain_mains.specs.f_tree.CNames.{is_name, CalledDummy, PassedDummy}
use Rattle.plain_mains.specs.f_tree.Values.{Bytes}
use Rattle.plain_mains.specs.f_tree.Facts.{Attribute, UnitKind, MainProgram, SubroutineUnit, FunctionUnit, BlockDataUnit, ProgramUnit}
use Rattle.plain_mains.specs.f_tree.Setting.{IsIn}
use Rattle.plain_mains.specs.f_tree.Valuing.{elements_of}
use Rattle.plain_mains.specs.f_tree.Meaning.{facts_at}
use Rattle.plain_mains.specs.f_tree.Reading.{name_or_none}
use Rattle.plain_mains.specs.f_tree.Uses.{Use, uses_of_statements}
use Rattle.plain_mains.specs.f_tree.Attributes.{named_dummies, is_used_as, called, with_list, bare, constant_bounds, arrays_of, Described, attribute_in, all_described}
use Rattle.plain_mains.specs.f_tree.Lines.{is_stored, formals_of, entries_from, unit_kind, program_of, with_ties, unit_read}
use Rattle.plain_mains.specs.c_emit.Numbers.{is_numeric}
use Rattle.plain_mains.specs.faithful.Signatures.{named_formals, function_dummy, procedure_dummy, variable_dummy, dummy_of}
use Rattle.plain_mains.proofs.fortran_laws.HomeLemmas.{stored_in_unit}
use Rattle.plain_mains.specs.main_programs.MainRuns as main
use Rattle.plain_mains.specs.main_translation.Contents.{count_by}
use Rattle.plain_mains.proofs.main_translation_laws.Lists.{distinct_by}
use Rattle.plain_mains.specs.plain_forms.PlainUnits.{has_none, has_own_storage, has_plain_lines, bound_fits, only_last_is_assumed, has_plain_bounds, has_constant_bounds, has_four_units, is_plain_variable}
use Rattle.plain_mains.specs.plain_forms.PlainUnits as plain_form
use Rattle.plain_mains.proofs.Described.{all_in, all_at, each_told, constant_attribute, last_of, counted_elements}
use Rattle.plain_mains.proofs.StoredNames.{four_units, TellsStored, told_member, stored_member, distinct_stored}
use Rattle.plain_mains.proofs.PlainUnits.{none_is, own_storage, plain_lines, AreWhole, whole_by, bound_is}
use Rattle.unit_translation_laws.specs.procedure_emission.EmittedUnits.{is_number_pointer, is_function_pointer}
use Rattle.unit_translation_laws.specs.procedure_emission.kept_bounds.KeptBounds.{is_adjustable, dimension_is_pure, only_last_assumes, has_adjustable_bounds}
use Rattle.unit_translation_laws.specs.unit_forms.OwnSetting.{own_facts}
use Rattle.unit_translation_laws.specs.unit_forms.PlainProcedures.{may_run, is_function, heading_fits, has_no_entries, is_plain_dummy, is_plain_result, is_plain_as, is_plain_name, each_name_is_plain, each_stands_once, is_dummy_class, is_result_class, class_in, names_dummies, names_its_result, has_plain_heading, is_plain_unit}
use Rattle.unit_translation_laws.specs.unit_programs.OwnStorage as unit
use Rattle.unit_translation_laws.specs.unit_programs.TranslatedUnits.{AreFixed}
use Rattle.unit_translation_laws.specs.unit_translation.UnitContents.{LoweredUnit, program_units, parameter_for}
use Rattle.unit_translation_laws.specs.PlainUnits as asked
use Rattle.unit_translation_laws.specs.PlainUnits.{HasDummyBounds, HasPlainDummies, IsPlainDummy, is_number, is_procedure, HasPlainResult, HasPlainStorage, HasPlainBounds}
use Rattle.plain_units.specs.PlainParts.{HasPlainParts, PlainUnitsAreTold}
use Rattle.plain_units.proofs.Fixed.{fixed_bounds}
use Rattle.plain_units.proofs.Dummies.{dummies_named, once_apart, dummy_listed}

-- ## The unit

runs : (k : UnitKind) → may_run k ≡ true → k ≢ BlockDataUnit
unfolding may_run
runs MainProgram is same = absurd (cc)
runs SubroutineUnit is same = absurd (cc)
runs FunctionUnit is same = absurd (cc)
runs BlockDataUnit is same = absurd (cc)

no_formals : (k : UnitKind) (ds : List DummyArgument) → heading_fits k ds ≡ true → k ≡ MainProgram → formals_of ds ≡ []
unfolding heading_fits formals_of
no_formals MainProgram ds fits is = ap formals_of (none_is ds fits)
no_formals SubroutineUnit ds fits is = absurd (cc)
no_formals FunctionUnit ds fits is = absurd (cc)
no_formals BlockDataUnit ds fits is = absurd (cc)

function_is : (k : UnitKind) → is_function k ≡ true → k ≡ FunctionUnit
unfolding is_function
function_is MainProgram is = absurd (cc)
function_is SubroutineUnit is = absurd (cc)
function_is FunctionUnit is = refl
function_is BlockDataUnit is = absurd (cc)

-- ## What the test says of each name

abbrev named_in : WrittenUnit → Bytes → Attribute
named_in u x = attribute_in (all_described u) x

told : (u : WrittenUnit) → each_name_is_plain u ≡ true → (x : Bytes) → is_plain_name (unit_kind u) (record { name = x; attribute = named_in u x }) ≡ true
unfolding each_name_is_plain is_plain_name is_plain_as has_plain_bounds only_last_is_assumed bare
told u plain x = each_told (is_plain_name (unit_kind u)) (all_described u) x plain refl

by_class : (kind : UnitKind) (k : Class) (d : Described) → d.attribute.class ≡ k → is_plain_name kind d ≡ true → is_plain_as kind k d ≡ true
unfolding is_plain_name
by_class kind k d is plain = subst (λ c. is_plain_as kind c d ≡ true) is plain

stored_class : (k : Class) → is_stored (bare k None) ≡ true → k ≡ class.Stored
unfolding is_stored bare
stored_class class.Stored is = refl
stored_class class.Dummy is = absurd (cc)
stored_class class.Result is = absurd (cc)
stored_class class.Constant is = absurd (cc)
stored_class class.Procedure is = absurd (cc)
stored_class class.DummyProcedure is = absurd (cc)
stored_class class.StatementFunction is = absurd (cc)
stored_class class.Intrinsic is = absurd (cc)
stored_class class.Unit is = absurd (cc)

stored_is : (a : Attribute) → is_stored a ≡ true → a.class ≡ class.Stored
unfolding is_stored bare
stored_is a is = stored_class a.class is

tells_stored : (kind : UnitKind) → TellsStored (is_plain_name kind)
unfolding is_plain_as
tells_stored kind d plain stored = by_class kind class.Stored d (stored_is d.attribute stored) plain

-- ## Numbers

record IsNumber (a : Attribute) : Type 0 where
  numeric : is_numeric a.basic ≡ true
  wide : a.width ≡ Some 4

number_by : (a : Attribute) → plain_form.is_number a ≡ true → IsNumber a
unfolding Rattle.plain_mains.specs.plain_forms.PlainUnits.is_number
number_by a is = let parts = and_parts (is_numeric a.basic) (has_four_units a.width) is in record { numeric = parts.0; wide = four_units a.width parts.1 }

-- ## Bounds

no_bounds : (a : Attribute) → a.bounds ≡ constant_bounds a.dimensions → has_none a.dimensions ≡ true → a.bounds ≡ []
unfolding constant_bounds
no_bounds a constant none = constant ∙ ap constant_bounds (none_is a.dimensions none)

none_assumed : only_last_is_assumed [] ≡ true
unfolding only_last_is_assumed
none_assumed = refl

none_whole : (a : Attribute) → a.bounds ≡ constant_bounds a.dimensions → has_none a.dimensions ≡ true → AreWhole a
none_whole a constant none = let empty = no_bounds a constant none in record {
  many = ap length empty ∙ ap length (sym (none_is a.dimensions none));
  fit = ap (list_all bound_fits) empty;
  closed = ap only_last_is_assumed empty ∙ none_assumed;
}

-- bounds that are constant and fit, or those of a dummy of numbers that a call fixes
data HasBounds (a : Attribute) : Type 0 where
  are_whole : AreWhole a → HasBounds a
  are_adjustable : a.class ≡ class.Dummy → is_numeric a.basic ≡ true → has_adjustable_bounds a ≡ true → HasBounds a

dummy_as_number : (a : Attribute) → a.class ≡ class.Dummy → (plain_form.is_number a && (has_plain_bounds a || has_adjustable_bounds a)) ≡ true → HasBounds a
dummy_as_number a own plain =
    let parts = and_parts (plain_form.is_number a) (has_plain_bounds a || has_adjustable_bounds a) plain in
    by (has_plain_bounds a) refl (number_by a parts.0).numeric parts.1
  where
    by : (t : Bool) → has_plain_bounds a ≡ t → is_numeric a.basic ≡ true → (t || has_adjustable_bounds a) ≡ true → HasBounds a
    by true whole numeric either = are_whole (whole_by a whole)
    by false other numeric either = are_adjustable own numeric either

bounds_as : (kind : UnitKind) (k : Class) (d : Described) → d.attribute.class ≡ k → d.attribute.bounds ≡ constant_bounds d.attribute.dimensions → is_plain_as kind k d ≡ true → HasBounds d.attribute
unfolding is_plain_as is_plain_dummy is_plain_result has_constant_bounds
bounds_as kind class.Stored d own constant plain =
    let parts = and_parts (has_plain_bounds d.attribute && is_some (elements_of d.attribute.bounds)) (is_plain_variable d) plain in
    are_whole (whole_by d.attribute (and_parts (has_plain_bounds d.attribute) (is_some (elements_of d.attribute.bounds)) parts.0).0)
bounds_as kind class.Dummy d own constant plain =
    dummy_as_number d.attribute own (and_parts (is_name d.name) (plain_form.is_number d.attribute && (has_plain_bounds d.attribute || has_adjustable_bounds d.attribute)) plain).1
bounds_as kind class.DummyProcedure d own constant plain = are_whole (none_whole d.attribute constant (and_parts (is_name d.name) (has_none d.attribute.dimensions) plain).1)
bounds_as kind class.Result d own constant plain =
    let parts = and_parts (is_function kind) (plain_form.is_number d.attribute && has_none d.attribute.dimensions) plain in
    are_whole (none_whole d.attribute constant (and_parts (plain_form.is_number d.attribute) (has_none d.attribute.dimensions) parts.1).1)
bounds_as kind class.Constant d own constant plain = are_whole (whole_by d.attribute plain)
bounds_as kind class.Procedure d own constant plain = are_whole (whole_by d.attribute plain)
bounds_as kind class.StatementFunction d own constant plain = are_whole (whole_by d.attribute plain)
bounds_as kind class.Intrinsic d own constant plain = are_whole (whole_by d.attribute plain)
bounds_as kind class.Unit d own constant plain = are_whole (whole_by d.attribute plain)

each_bounded : (u : WrittenUnit) → each_name_is_plain u ≡ true → (x : Bytes) → HasBounds (named_in u x)
each_bounded u plain x =
    let own : Described = record { name = x; attribute = named_in u x } in
    bounds_as (unit_kind u) (named_in u x).class own refl (constant_attribute u x) (by_class (unit_kind u) (named_in u x).class own refl (told u plain x))

-- what is whole is not adjustable, and all else is
not_adjustable : (a : Attribute) → AreWhole a → is_adjustable a ≡ false
unfolding is_adjustable
not_adjustable a whole = ap not (eq-eqb (length a.bounds) (length a.dimensions) whole.many)

adjustable_is : (a : Attribute) → has_adjustable_bounds a ≡ true → is_adjustable a ≡ true
unfolding has_adjustable_bounds
adjustable_is a h = (and_parts (is_adjustable a) (list_all dimension_is_pure a.dimensions && only_last_assumes a.dimensions) h).0

whole_unless : (a : Attribute) → HasBounds a → is_adjustable a ≡ false → AreWhole a
whole_unless a (are_whole whole) constant = whole
whole_unless a (are_adjustable own numeric h) constant = let no : true ≡ false = sym (adjustable_is a h) ∙ constant in absurd (cc)

whole_stored : (a : Attribute) → HasBounds a → a.class ≡ class.Stored → AreWhole a
whole_stored a (are_whole whole) stored = whole
whole_stored a (are_adjustable own numeric h) stored = let no : class.Dummy ≡ class.Stored = sym own ∙ stored in absurd (cc)

dummy_of_numbers : (a : Attribute) → HasBounds a → is_adjustable a ≡ true → (a.class ≡ class.Dummy) × (is_numeric a.basic ≡ true)
dummy_of_numbers a (are_whole whole) is = let no : false ≡ true = sym (not_adjustable a whole) ∙ is in absurd (cc)
dummy_of_numbers a (are_adjustable own numeric h) is = (own, numeric)

plain_bounds : (options : Options) (u : WrittenUnit) → each_name_is_plain u ≡ true → HasPlainBounds (unit_read options u)
unfolding unit_read with_ties program_of each_name_is_plain
plain_bounds options u plain = record {
  ranked = λ m o. (whole_stored (named_in u m.name) (each_bounded u plain m.name) (stored_is (named_in u m.name) (stored_member u m o))).many;
  counted = λ m b bs o is.
      subst (λ c. (n : ℕ) × (elements_of c ≡ Some n)) is (counted_elements _ (told_member (is_plain_name (unit_kind u)) (tells_stored (unit_kind u)) u plain m o).counted);
  fits = λ x k b constant at. bound_is b (all_at bound_fits _ k b (whole_unless (named_in u x) (each_bounded u plain x) constant).fit at);
  closed = λ x k b constant at behind. last_of _ (whole_unless (named_in u x) (each_bounded u plain x) constant).closed k b at behind;
  adjustable = λ x is. dummy_of_numbers (named_in u x) (each_bounded u plain x) is;
}

-- ## Storage

same_size : (count : Option ℕ) → main.bytes_in count ≡ unit.bytes_in count
same_size None = refl
same_size (Some n) = refl

plain_storage : (options : Options) (u : WrittenUnit) → has_own_storage u ≡ true → each_name_is_plain u ≡ true → HasPlainStorage (unit_read options u)
unfolding unit_read with_ties program_of each_name_is_plain
plain_storage options u storage plain =
    let own = own_storage options u storage in
    let member = told_member (is_plain_name (unit_kind u)) (tells_stored (unit_kind u)) u plain in
    record {
      blocks = own.blocks;
      ties = own.ties;
      images = own.images;
      stored = λ x is numeric. stored_in_unit options u x is;
      kept = λ m o. stored_is (named_in u m.name) (stored_member u m o);
      distinct = distinct_stored u;
      named = λ m o. (member m o).named;
      numbers = λ m o. (member m o).numeric;
      wide = λ m o. (member m o).wide;
      sized = λ m o. (member m o).sized ∙ same_size (count_by (named_in u m.name).bounds);
      within = λ m o. (member m o).within;
      small = λ m o. (member m o).small;
    }

-- ## The result

result_is : (k : Class) → is_result_class k ≡ true → k ≡ class.Result
unfolding is_result_class
result_is class.Result is = refl
result_is class.Stored is = absurd (cc)
result_is class.Dummy is = absurd (cc)
result_is class.Constant is = absurd (cc)
result_is class.Procedure is = absurd (cc)
result_is class.DummyProcedure is = absurd (cc)
result_is class.StatementFunction is = absurd (cc)
result_is class.Intrinsic is = absurd (cc)
result_is class.Unit is = absurd (cc)

own_result : (kind : UnitKind) (k : Class) → (not (is_function kind) || is_result_class k) ≡ true → kind ≡ FunctionUnit → k ≡ class.Result
unfolding is_function
own_result FunctionUnit k gives is = result_is k gives
own_result MainProgram k gives is = absurd (cc)
own_result SubroutineUnit k gives is = absurd (cc)
own_result BlockDataUnit k gives is = absurd (cc)

plain_result : (options : Options) (u : WrittenUnit) → names_its_result u ≡ true → each_name_is_plain u ≡ true → HasPlainResult (unit_read options u) (name_or_none u.name)
unfolding unit_read with_ties program_of names_its_result class_in is_plain_as is_plain_result
plain_result options u own plain =
    let parts : (x : Bytes) → (named_in u x).class ≡ class.Result → (is_function (unit_kind u) ≡ true) × ((plain_form.is_number (named_in u x) && has_none (named_in u x).dimensions) ≡ true) =
    λ x is. and_parts (is_function (unit_kind u)) (plain_form.is_number (named_in u x) && has_none (named_in u x).dimensions)
    (by_class (unit_kind u) class.Result (record { name = x; attribute = named_in u x }) is (told u plain x)) in
    record {
      own = own_result (unit_kind u) (named_in u (name_or_none u.name)).class own;
      numeric = λ x is.
          (function_is (unit_kind u) (parts x is).0, (number_by (named_in u x) (and_parts (plain_form.is_number (named_in u x)) (has_none (named_in u x).dimensions) (parts x is).1).0).numeric);
      alone = λ x is. none_is (named_in u x).dimensions (and_parts (plain_form.is_number (named_in u x)) (has_none (named_in u x).dimensions) (parts x is).1).1;
    }

-- ## Dummies

fixed : (us : List ProgramUnit) (j : ℕ) (p : ProgramUnit) (x : Bytes) → (p.attribute x).bounds ≡ constant_bounds (p.attribute x).dimensions →
    length (p.attribute x).bounds ≡ length (p.attribute x).dimensions → AreFixed (own_facts us j p) x
unfolding facts_at
fixed us j p x constant many f store bounds is = fixed_bounds (own_facts us j p) f store (p.attribute x).dimensions (ap length (sym constant) ∙ many) bounds is ∙ sym constant

-- what a dummy stands for by its class
variable_use : (uses : List Use) (names : Bytes → Attribute) (x : Bytes) → (names x).class ≡ class.Dummy → (dummy_of uses names x).use_of ≡ variable_dummy (names x).basic
unfolding dummy_of
variable_use uses names x is = ap (λ k. (dummy_of uses (λ y. record (names x) { class = k }) x).use_of) is

procedure_use : (uses : List Use) (names : Bytes → Attribute) (x : Bytes) → (names x).class ≡ class.DummyProcedure → (dummy_of uses names x).use_of ≡ procedure_dummy uses (names x).basic x
unfolding dummy_of
procedure_use uses names x is = ap (λ k. (dummy_of uses (λ y. record (names x) { class = k }) x).use_of) is

number_pointer : (basic : Basic) → is_numeric basic ≡ true → is_number_pointer (parameter_for (variable_dummy basic)) ≡ true
unfolding is_numeric is_number_pointer parameter_for variable_dummy
number_pointer Integer is = refl
number_pointer Logical is = refl
number_pointer Character is = absurd (cc)
number_pointer Untyped is = absurd (cc)

function_pointer : (uses : List Use) (basic : Basic) (x : Bytes) → is_function_pointer (parameter_for (procedure_dummy uses basic x)) ≡ true
unfolding is_function_pointer parameter_for procedure_dummy function_dummy
function_pointer uses basic x = by (is_used_as called x uses) (is_used_as with_list x uses) basic
  where
    by : (t q : Bool) (b : Basic) → is_function_pointer (parameter_for (if t then CalledDummy else if q then function_dummy b else PassedDummy)) ≡ true
    by true q b = refl
    by false true Integer = refl
    by false true Logical = refl
    by false true Character = refl
    by false true Untyped = refl
    by false false b = refl

-- a unit with its lowered text, and what its dummies stand for
abbrev lowered_as : Options → WrittenUnit → LoweredUnit → LoweredUnit
lowered_as options u l = record { unit = unit_read options u; text = l.text; use_of = l.use_of }

abbrev AreItsUses : WrittenUnit → LoweredUnit → Type 0
AreItsUses u l = (x : Bytes) → l.use_of x ≡ (dummy_of (uses_of_statements (arrays_of u) u.statements) l.unit.attribute x).use_of

dummy_bounds : (options : Options) (u : WrittenUnit) (us : List LoweredUnit) (j : ℕ) (l : LoweredUnit) (x : Bytes) → HasBounds (named_in u x) → HasDummyBounds us j (lowered_as options u l) x
unfolding unit_read with_ties program_of
dummy_bounds options u us j l x (are_whole whole) = asked.constant (not_adjustable (named_in u x) whole) (fixed (program_units us) j (unit_read options u) x (constant_attribute u x) whole.many)
dummy_bounds options u us j l x (are_adjustable own numeric h) = asked.adjustable h

dummy_as : (options : Options) (u : WrittenUnit) (us : List LoweredUnit) (j : ℕ) (l : LoweredUnit) → AreItsUses u (lowered_as options u l) → each_name_is_plain u ≡ true → (x : Bytes) (k : Class) →
    (named_in u x).class ≡ k → is_dummy_class k ≡ true → IsPlainDummy us j (lowered_as options u l) x
unfolding unit_read with_ties program_of is_dummy_class is_plain_as is_plain_dummy
dummy_as options u us j l uses plain x class.Dummy is dummy =
    let a : Attribute = named_in u x in
    let parts = and_parts (is_name x) (plain_form.is_number a && (has_plain_bounds a || has_adjustable_bounds a)) (by_class (unit_kind u) class.Dummy (record { name = x; attribute = a }) is (told u plain x)) in
    let number = number_by a (and_parts (plain_form.is_number a) (has_plain_bounds a || has_adjustable_bounds a) parts.1).0 in
    is_number is number.numeric number.wide (dummy_bounds options u us j l x (each_bounded u plain x))
    (subst (λ way. is_number_pointer (parameter_for way) ≡ true) (sym (uses x ∙ variable_use (uses_of_statements (arrays_of u) u.statements) (named_in u) x is)) (number_pointer a.basic number.numeric))
dummy_as options u us j l uses plain x class.DummyProcedure is dummy =
    is_procedure is (dummy_bounds options u us j l x (each_bounded u plain x))
    (subst (λ way. is_function_pointer (parameter_for way) ≡ true) (sym (uses x ∙ procedure_use (uses_of_statements (arrays_of u) u.statements) (named_in u) x is))
    (function_pointer (uses_of_statements (arrays_of u) u.statements) (named_in u x).basic x))
dummy_as options u us j l uses plain x class.Stored is dummy = absurd (cc)
dummy_as options u us j l uses plain x class.Result is dummy = absurd (cc)
dummy_as options u us j l uses plain x class.Constant is dummy = absurd (cc)
dummy_as options u us j l uses plain x class.Procedure is dummy = absurd (cc)
dummy_as options u us j l uses plain x class.StatementFunction is dummy = absurd (cc)
dummy_as options u us j l uses plain x class.Intrinsic is dummy = absurd (cc)
dummy_as options u us j l uses plain x class.Unit is dummy = absurd (cc)

-- the name of a dummy has letters and digits
name_as : (kind : UnitKind) (k : Class) (d : Described) → is_dummy_class k ≡ true → is_plain_as kind k d ≡ true → is_name d.name ≡ true
unfolding is_dummy_class is_plain_as is_plain_dummy
name_as kind class.Dummy d is plain = (and_parts (is_name d.name) (plain_form.is_number d.attribute && (has_plain_bounds d.attribute || has_adjustable_bounds d.attribute)) plain).0
name_as kind class.DummyProcedure d is plain = (and_parts (is_name d.name) (has_none d.attribute.dimensions) plain).0
name_as kind class.Stored d is plain = absurd (cc)
name_as kind class.Result d is plain = absurd (cc)
name_as kind class.Constant d is plain = absurd (cc)
name_as kind class.Procedure d is plain = absurd (cc)
name_as kind class.StatementFunction d is plain = absurd (cc)
name_as kind class.Intrinsic d is plain = absurd (cc)
name_as kind class.Unit d is plain = absurd (cc)

plain_dummies : (options : Options) (u : WrittenUnit) (us : List LoweredUnit) (j : ℕ) (l : LoweredUnit) → AreItsUses u (lowered_as options u l) → each_name_is_plain u ≡ true →
    each_stands_once (named_dummies u.dummies) ≡ true → names_dummies u ≡ true → has_no_entries u ≡ true → HasPlainDummies us j (lowered_as options u l) (formals_of u.dummies)
unfolding unit_read with_ties program_of names_dummies class_in has_no_entries is_dummy_class
plain_dummies options u us j l uses plain once dummies entries =
    let same = dummies_named u.dummies in
    let none = none_is (entries_from 0 u.statements) entries in
    let class_is : (x : Bytes) → IsIn x (named_formals (formals_of u.dummies)) → is_dummy_class (named_in u x).class ≡ true =
    λ x o. all_in (λ y. is_dummy_class (named_in u y).class) (named_dummies u.dummies) x dummies (subst (IsIn x) same o) in
    let listed : (x : Bytes) → is_dummy_class (named_in u x).class ≡ true → IsIn x (named_formals (formals_of u.dummies)) = λ x is. subst (IsIn x) (sym same) (dummy_listed u none x is) in
    record {
      plain = λ x o. dummy_as options u us j l uses plain x (named_in u x).class refl (class_is x o);
      named = λ x o. name_as (unit_kind u) (named_in u x).class (record { name = x; attribute = named_in u x }) (class_is x o)
          (by_class (unit_kind u) (named_in u x).class (record { name = x; attribute = named_in u x }) refl (told u plain x));
      distinct = distinct_by (named_formals (formals_of u.dummies)) (once_apart (named_formals (formals_of u.dummies)) (ap each_stands_once same ∙ once));
      variables = λ x is numeric. listed x (known x class.Dummy is refl);
      procedures = λ x is. listed x (known x class.DummyProcedure is refl);
    }
  where
    known : (x : Bytes) (k : Class) → (named_in u x).class ≡ k → is_dummy_class k ≡ true → is_dummy_class (named_in u x).class ≡ true
    known x k is dummy = ap is_dummy_class is ∙ dummy

-- ## The whole

plain_by : (options : Options) (u : WrittenUnit) (us : List LoweredUnit) (j : ℕ) (l : LoweredUnit) → AreItsUses u (lowered_as options u l) → may_run (unit_kind u) ≡ true →
    heading_fits (unit_kind u) u.dummies ≡ true → has_no_entries u ≡ true → has_own_storage u ≡ true → has_plain_heading u ≡ true → has_plain_lines (unit_read options u) ≡ true → each_name_is_plain u ≡ true →
    HasPlainParts us j (lowered_as options u l)
unfolding has_plain_heading has_no_entries unit_read with_ties program_of
plain_by options u us j l uses run fits entries storage heading lines plain =
    let statements = plain_lines (unit_read options u) lines in
    let once = and_parts (each_stands_once (named_dummies u.dummies)) (names_dummies u && names_its_result u) heading in
    let named = and_parts (names_dummies u) (names_its_result u) once.1 in
    record {
      direct = statements.direct;
      ended = statements.ended;
      loops = statements.loops;
      runs = runs (unit_kind u) run;
      name = name_or_none u.name;
      formals = formals_of u.dummies;
      entry = ap (λ later. record { name = name_or_none u.name; formals = formals_of u.dummies; start = 0 } ∷ later) (none_is (entries_from 0 u.statements) entries);
      main = no_formals (unit_kind u) u.dummies fits;
      dummies = plain_dummies options u us j l uses plain once.0 named.0 entries;
      result = plain_result options u named.1 plain;
      storage = plain_storage options u storage plain;
      bounds = plain_bounds options u plain;
    }

plain_read : (options : Options) (u : WrittenUnit) (us : List LoweredUnit) (j : ℕ) (l : LoweredUnit) → AreItsUses u (lowered_as options u l) → is_plain_unit options u ≡ true →
    HasPlainParts us j (lowered_as options u l)
unfolding is_plain_unit
plain_read options u us j l uses is =
    let run = and_parts (may_run (unit_kind u)) _ is in
    let fits = and_parts (heading_fits (unit_kind u) u.dummies) _ run.1 in
    let entries = and_parts (has_no_entries u) _ fits.1 in
    let storage = and_parts (has_own_storage u) _ entries.1 in
    let heading = and_parts (has_plain_heading u) _ storage.1 in
    let lines = and_parts (has_plain_lines (unit_read options u)) _ heading.1 in
    plain_by options u us j l uses run.0 fits.0 entries.0 storage.0 heading.0 lines.0 lines.1

pub plain_units_are_told : PlainUnitsAreTold
plain_units_are_told options u us j l is same uses =
    subst (λ (p : ProgramUnit). HasPlainParts us j (record { unit = p; text = l.text; use_of = l.use_of })) (sym same)
    (plain_read options u us j l (subst (λ (p : ProgramUnit). AreItsUses u (record { unit = p; text = l.text; use_of = l.use_of })) same uses) is)
