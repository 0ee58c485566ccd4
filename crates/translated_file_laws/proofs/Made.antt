-- Files of which all forms are translated are made of plain units with their lowered texts.
use Rattle.std.specs.List.{list_all}
use Rattle.std.specs.Prelude.{◌≡◌, ℕ, zero, suc, ◌+◌, ◌^◌, ◌<◌, ◌≤◌, nat_lt, nat_le, Bool, true, false, ◌&&◌, List, [], ◌∷◌, ◌++◌, map, length, Option, Some, None, option_and_then, slice_get, if◌then◌else◌}
use Rattle.std.proofs.Common.{refl, sym, ap, ◌∙◌, subst, arith}
use Rattle.std.proofs.lemmas.Bool.{leb-true, ltb-true}
use Rattle.translated_files.specs.f_tree.declared.names.Options.{Options}
use Rattle.translated_files.specs.f_tree.declared.units.File.{File}
use Rattle.translated_files.specs.f_tree.declared.units.Unit.{Unit as GivenUnit}
use Rattle.translated_files.specs.f_tree.Values.{Bytes}
use Rattle.translated_files.specs.f_tree.Facts.{ProgramUnit}
use Rattle.translated_files.specs.f_tree.Uses.{uses_of_statements}
use Rattle.translated_files.specs.f_tree.Attributes.{arrays_of}
use Rattle.translated_files.specs.f_tree.Lines.{unit_read}
use Rattle.translated_files.specs.f_tree.Setting.{IsIn, first_in, later_in}
use Rattle.translated_files.specs.declaration_rows.GlobalRows.{all_units}
use Rattle.translated_files.specs.declaration_rows.NameRows.{given_names}
use Rattle.translated_files.specs.l_core.Steps.{Text}
use Rattle.translated_files.specs.lowering.Units.{lowered_unit}
use Rattle.translated_files.specs.c_tree.declared.file.CFile.{CFile}
use Rattle.named_unit_laws.specs.c_text.Printed.{printed}
use Rattle.translated_files.specs.faithful.Faithful.{Faithful}
use Rattle.translated_files.specs.faithful.Signatures.{dummy_of, EachHasSignatures}
use Rattle.translated_files.specs.main_translation.Outlined.{labels_in}
use Rattle.translated_files.specs.unit_forms.OwnSetting.{own_facts}
use Rattle.translated_files.specs.unit_forms.PlainProcedures.{is_plain_unit}
use Rattle.translated_files.specs.unit_forms.SpellableUnits.{is_spellable_unit}
use Rattle.translated_files.specs.unit_sites.UnitSites.{UnitsOfFile, file_for, files_of as c_files}
use Rattle.translated_files.specs.unit_translation.UnitContents.{LoweredUnit, program_units, whole_text, temporaries_kept}
use Rattle.translated_files.specs.unit_translation.UnitBodies.{all_lowered}
use Rattle.named_unit_laws.specs.unit_translation_laws.PlainUnits.{IsPlainUnitText}
use Rattle.plain_unit_files.specs.unit_faithfulness.UnitsFaithful as faithful
use Rattle.plain_unit_files.specs.unit_faithfulness.UnitsFaithful.{AreOfFile, AreOfFiles}
use Rattle.plain_unit_files.specs.PlainUnitFiles.{AreMadeOf, EachPlainUnitSetIsFaithful}
use Rattle.plain_unit_files.proofs.Whole.{plain_units_of}
use Rattle.translated_files.specs.named_units.NamedUnits.{named_files}
use Rattle.named_unit_laws.specs.NamedBodies.{EachNamedUnitIsAUnit}
use Rattle.translated_files.specs.translated_forms.LoweredForms.{statements_lower}
use Rattle.translated_files.specs.translated_forms.TranslatedForms.{stop_fits}
use Rattle.translated_laws.proofs.Translated.{left, right, each_of, mapped, stops}
use Rattle.translated_files.specs.TranslatedFiles.{text_fits, unit_with, procedure_names, procedures_are_defined, passes_tests, lowered_by, lowered_at, lowered_before, lowered_from, files_before, lowered_files, has_units, each_has_units, made_files, files_of}
use Rattle.translated_file_laws.specs.FaithfulFiles.{translations_of, EachTranslationIsFaithful, EachTranslationHasSignatures}
use Rattle.unit_faithfulness.proofs.Signed.{files_have_signatures}

-- ## Texts that fit

plain_text : (u : Text) → text_fits u ≡ true → IsPlainUnitText u
unfolding text_fits
plain_text u h =
    let few_steps = nat_le (1 + length u.steps) (2 ^ 64) in
    let few_temporaries = nat_le (1 + temporaries_kept u.steps) (2 ^ 64) in
    let few_marks = nat_le (1 + length u.marks) (2 ^ 64) in
    let small_labels = list_all (λ (label : ℕ). nat_lt label (2 ^ 64)) (labels_in u.steps) in
    let stops_fit = list_all stop_fits u.steps in
    let second = right few_steps (few_temporaries && (few_marks && (small_labels && stops_fit))) h in
    let third = right few_temporaries (few_marks && (small_labels && stops_fit)) second in
    let fourth = right few_marks (small_labels && stops_fit) third in
    record {
      steps = leb-true (1 + length u.steps) (2 ^ 64) (left few_steps (few_temporaries && (few_marks && (small_labels && stops_fit))) h);
      temporaries = leb-true (1 + temporaries_kept u.steps) (2 ^ 64) (left few_temporaries (few_marks && (small_labels && stops_fit)) second);
      marks = leb-true (1 + length u.marks) (2 ^ 64) (left few_marks (small_labels && stops_fit) third);
      labels = λ label o. ltb-true label (2 ^ 64) (each_of (λ (k : ℕ). nat_lt k (2 ^ 64)) (labels_in u.steps) (left small_labels stops_fit fourth) label o);
      stops = stops u.steps (right small_labels stops_fit fourth);
    }

-- ## One unit

-- what a lowered unit of a file is
record IsLowered (options : Options) (units : List GivenUnit) (j : ℕ) (given : GivenUnit) (u : LoweredUnit) : Type 0 where
  plain : is_plain_unit options given ≡ true
  spellable : is_spellable_unit (unit_read options given) ≡ true
  unit : u.unit ≡ unit_read options given
  uses : (x : Bytes) → u.use_of x ≡ (dummy_of (uses_of_statements (arrays_of given) given.statements) (unit_read options given).attribute x).use_of
  text : lowered_unit (own_facts (map (unit_read options) units) j (unit_read options given)) ≡ Some u.text
  short : text_fits (whole_text u) ≡ true

record IsOfText (options : Options) (given : GivenUnit) (found : Option Text) (u : LoweredUnit) : Type 0 where
  unit : u.unit ≡ unit_read options given
  uses : (x : Bytes) → u.use_of x ≡ (dummy_of (uses_of_statements (arrays_of given) given.statements) (unit_read options given).attribute x).use_of
  text : found ≡ Some u.text
  short : text_fits (whole_text u) ≡ true

of_fitting : (options : Options) (given : GivenUnit) (text : Text) (u : LoweredUnit) (b : Bool) → text_fits (whole_text (unit_with options given text)) ≡ b → (if b then Some (unit_with options given text) else None) ≡ Some u
    → IsOfText options given (Some text) u
of_fitting options given text u false short h = absurd (cc)
of_fitting options given text u true short h =
    let same : unit_with options given text ≡ u = cc in
    subst (λ (v : LoweredUnit). IsOfText options given (Some text) v) same (record { unit = refl; uses = λ x. refl; text = refl; short = short })

of_text : (options : Options) (given : GivenUnit) (found : Option Text) (u : LoweredUnit) → lowered_by options given found ≡ Some u → IsOfText options given found u
unfolding lowered_by
of_text options given None u h = absurd (cc)
of_text options given (Some text) u h = of_fitting options given text u (text_fits (whole_text (unit_with options given text))) refl h

of_tests : (options : Options) (units : List GivenUnit) (j : ℕ) (given : GivenUnit) (u : LoweredUnit) (b : Bool) → passes_tests options (procedure_names units) given ≡ b →
    (if b then lowered_by options given (lowered_unit (own_facts (map (unit_read options) units) j (unit_read options given))) else None) ≡ Some u → IsLowered options units j given u
unfolding passes_tests
of_tests options units j given u false passed h = absurd (cc)
of_tests options units j given u true passed h =
    let read = unit_read options given in
    let found = procedures_are_defined (procedure_names units) given && statements_lower (given_names given) given.statements in
    let made = of_text options given (lowered_unit (own_facts (map (unit_read options) units) j read)) u h in
    record {
      plain = left (is_plain_unit options given) (is_spellable_unit read && found) passed;
      spellable = left (is_spellable_unit read) found (right (is_plain_unit options given) (is_spellable_unit read && found) passed);
      unit = made.unit;
      uses = made.uses;
      text = made.text;
      short = made.short;
    }

is_lowered : (options : Options) (units : List GivenUnit) (j : ℕ) (given : GivenUnit) (u : LoweredUnit) → lowered_at options units j given ≡ Some u → IsLowered options units j given u
unfolding lowered_at
is_lowered options units j given u h = of_tests options units j given u (passes_tests options (procedure_names units) given) refl h

-- ## All units

record IsBefore (first : Option LoweredUnit) (later : Option (List LoweredUnit)) (us : List LoweredUnit) : Type 0 where
  one : LoweredUnit
  others : List LoweredUnit
  first_is : first ≡ Some one
  later_are : later ≡ Some others
  all : us ≡ one ∷ others

before : (first : Option LoweredUnit) (later : Option (List LoweredUnit)) (us : List LoweredUnit) → lowered_before first later ≡ Some us → IsBefore first later us
unfolding lowered_before
before None later us h = absurd (cc)
before (Some one) None us h = absurd (cc)
before (Some one) (Some others) us h = record { one = one; others = others; first_is = refl; later_are = refl; all = cc }

-- the units behind a number are lowered, one for each
data AreLowered (options : Options) (units : List GivenUnit) : ℕ → List GivenUnit → List LoweredUnit → Type 0 where
  none_lowered : (j : ℕ) → AreLowered options units j [] []
  one_lowered : (j : ℕ) (given : GivenUnit) (u : LoweredUnit) (later : List GivenUnit) (us : List LoweredUnit) → IsLowered options units j given u → AreLowered options units (suc j) later us →
      AreLowered options units j (given ∷ later) (u ∷ us)

are_lowered : (options : Options) (units : List GivenUnit) (j : ℕ) (givens : List GivenUnit) (us : List LoweredUnit) → lowered_from options units j givens ≡ Some us → AreLowered options units j givens us
unfolding lowered_from
are_lowered options units j [] us h = let same : [] ≡ us = cc in subst (AreLowered options units j []) same (none_lowered j)
are_lowered options units j (given ∷ later) us h =
    let parts = before (lowered_at options units j given) (lowered_from options units (suc j) later) us h in
    subst (AreLowered options units j (given ∷ later)) (sym parts.all)
    (one_lowered j given parts.one later parts.others (is_lowered options units j given parts.one parts.first_is) (are_lowered options units (suc j) later parts.others parts.later_are))

same_units : (options : Options) (units : List GivenUnit) (j : ℕ) (givens : List GivenUnit) (us : List LoweredUnit) → AreLowered options units j givens us → map (unit_read options) givens ≡ program_units us
same_units options units j _ _ (none_lowered _) = refl
same_units options units j _ _ (one_lowered _ given u later us one rest) =
    let same = same_units options units (suc j) later us rest in
    let first : unit_read options given ≡ u.unit = sym one.unit in
    λ i. first i ∷ same i

-- the unit at a place among those behind a number
some_given : {A : Type 0} (x y : A) → Some x ≡ Some y → x ≡ y
some_given x y h = cc

at_place : (options : Options) (units : List GivenUnit) (j : ℕ) (givens : List GivenUnit) (us : List LoweredUnit) → AreLowered options units j givens us → (k : ℕ) (given : GivenUnit) (u : LoweredUnit) →
    slice_get givens k ≡ Some given → slice_get us k ≡ Some u → IsLowered options units (k + j) given u
at_place options units j _ _ (none_lowered _) k given u at at' = absurd (cc)
at_place options units j _ _ (one_lowered _ first v later us one rest) zero given u at at' =
    let e : j ≡ zero + j = omega arith in
    subst (λ (n : ℕ). IsLowered options units n given u) e
    (subst (λ (g : GivenUnit). IsLowered options units j g u) (some_given first given at) (subst (λ (w : LoweredUnit). IsLowered options units j first w) (some_given v u at') one))
at_place options units j _ _ (one_lowered _ first v later us one rest) (suc k) given u at at' =
    let e : k + suc j ≡ suc k + j = omega arith in
    subst (λ (n : ℕ). IsLowered options units n given u) e (at_place options units (suc j) later us rest k given u at at')

-- ## The files

-- what comes from an option
record IsFrom {A B : Type 0} (f : A → Option B) (x : Option A) (b : B) : Type 0 where
  from : A
  was : x ≡ Some from
  gives : f from ≡ Some b

from_option : {A B : Type 0} (f : A → Option B) (x : Option A) (b : B) → option_and_then f x ≡ Some b → IsFrom f x b
from_option f None b h = absurd (cc)
from_option f (Some a) b h = record { from = a; was = refl; gives = h }

-- the units of each file are lowered
data AreLoweredFiles (options : Options) (units : List GivenUnit) : ℕ → List File → List (List LoweredUnit) → Type 0 where
  no_files : (j : ℕ) → AreLoweredFiles options units j [] []
  one_file : (j : ℕ) (tree : File) (us : List LoweredUnit) (trees : List File) (lfs : List (List LoweredUnit)) → AreLowered options units j tree.units us →
      AreLoweredFiles options units (j + length tree.units) trees lfs → AreLoweredFiles options units j (tree ∷ trees) (us ∷ lfs)

both_lowered : (options : Options) (units : List GivenUnit) (j : ℕ) (tree : File) (trees : List File) (found : Option (List LoweredUnit)) (later : Option (List (List LoweredUnit))) (lfs : List (List LoweredUnit)) →
    lowered_from options units j tree.units ≡ found → ((rest : List (List LoweredUnit)) → later ≡ Some rest → AreLoweredFiles options units (j + length tree.units) trees rest) → files_before found later ≡ Some lfs →
    AreLoweredFiles options units j (tree ∷ trees) lfs
unfolding files_before
both_lowered options units j tree trees None later lfs is rest whole = absurd (cc)
both_lowered options units j tree trees (Some us) None lfs is rest whole = absurd (cc)
both_lowered options units j tree trees (Some us) (Some later) lfs is rest whole =
    let all : us ∷ later ≡ lfs = cc in
    subst (AreLoweredFiles options units j (tree ∷ trees)) all (one_file j tree us trees later (are_lowered options units j tree.units us is) (rest later refl))

are_lowered_files : (options : Options) (units : List GivenUnit) (j : ℕ) (trees : List File) (lfs : List (List LoweredUnit)) → lowered_files options units j trees ≡ Some lfs → AreLoweredFiles options units j trees lfs
unfolding lowered_files
are_lowered_files options units j [] lfs is = let none : [] ≡ lfs = cc in subst (AreLoweredFiles options units j []) none (no_files j)
are_lowered_files options units j (tree ∷ trees) lfs is =
    both_lowered options units j tree trees (lowered_from options units j tree.units) (lowered_files options units (j + length tree.units) trees) lfs refl
    (λ rest later. are_lowered_files options units (j + length tree.units) trees rest later) is

-- those of all files, one file behind the other
behind_lowered : (options : Options) (units : List GivenUnit) (j : ℕ) (gs hs : List GivenUnit) (us vs : List LoweredUnit) → AreLowered options units j gs us → AreLowered options units (j + length gs) hs vs →
    AreLowered options units j (gs ++ hs) (us ++ vs)
behind_lowered options units j _ hs _ vs (none_lowered _) others = subst (λ n. AreLowered options units n hs vs) {x = j + 0} {y = j} (omega arith) others
behind_lowered options units j _ hs _ vs (one_lowered _ g u gs us one rest) others =
    one_lowered j g u (gs ++ hs) (us ++ vs) one
    (behind_lowered options units (suc j) gs hs us vs rest (subst (λ n. AreLowered options units n hs vs) {x = j + length (g ∷ gs)} {y = suc j + length gs} (omega arith) others))

flat_lowered : (options : Options) (units : List GivenUnit) (j : ℕ) (trees : List File) (lfs : List (List LoweredUnit)) → AreLoweredFiles options units j trees lfs → AreLowered options units j (all_units trees) (all_lowered lfs)
unfolding all_units
flat_lowered options units j _ _ (no_files _) = none_lowered j
flat_lowered options units j _ _ (one_file _ tree us trees lfs one rest) =
    behind_lowered options units j tree.units (all_units trees) us (all_lowered lfs) one (flat_lowered options units (j + length tree.units) trees lfs rest)

record AreMadeFiles (options : Options) (trees : List File) (files : List CFile) : Type 0 where
  lfs : List (List LoweredUnit)
  fs : List UnitsOfFile
  lowered : AreLoweredFiles options (all_units trees) 0 trees lfs
  filled : each_has_units trees ≡ true
  named : named_files lfs ≡ Some fs
  made : c_files fs ≡ files

made_if : (options : Options) (trees : List File) (fs : List UnitsOfFile) (b : Bool) → each_has_units trees ≡ b → (if b then option_and_then named_files (lowered_files options (all_units trees) 0 trees) else None) ≡ Some fs →
    (each_has_units trees ≡ true) × (option_and_then named_files (lowered_files options (all_units trees) 0 trees) ≡ Some fs)
made_if options trees fs true is h = (is, h)
made_if options trees fs false is h = absurd (cc)

made_of_files : (options : Options) (trees : List File) (files : List CFile) → files_of options trees ≡ Some files → AreMadeFiles options trees files
unfolding files_of made_files
made_of_files options trees files h =
    let source = mapped c_files (made_files options trees) files h in
    let both = made_if options trees source.from (each_has_units trees) refl source.was in
    let lowered = from_option named_files (lowered_files options (all_units trees) 0 trees) source.from both.1 in
    record { lfs = lowered.from; fs = source.from; lowered = are_lowered_files options (all_units trees) 0 trees lowered.from lowered.was; filled = both.0; named = lowered.gives; made = source.gives }

-- the unit that is given at a place
given_at : (options : Options) (units : List GivenUnit) (j : ℕ) (givens : List GivenUnit) (us : List LoweredUnit) → AreLowered options units j givens us → (k : ℕ) (u : LoweredUnit) → slice_get us k ≡ Some u →
    (given : GivenUnit) × (slice_get givens k ≡ Some given)
given_at options units j _ _ (none_lowered _) k u at = absurd (cc)
given_at options units j _ _ (one_lowered _ given v later us one rest) zero u at = (given, refl)
given_at options units j _ _ (one_lowered _ given v later us one rest) (suc k) u at = given_at options units (suc j) later us rest k u at

lowered_given : (options : Options) (units : List GivenUnit) (j : ℕ) (givens : List GivenUnit) (us : List LoweredUnit) → AreLowered options units j givens us → (k : ℕ) (given : GivenUnit) → slice_get givens k ≡ Some given →
    (u : LoweredUnit) × (slice_get us k ≡ Some u)
lowered_given options units j _ _ (none_lowered _) k given at = absurd (cc)
lowered_given options units j _ _ (one_lowered _ first u later us one rest) zero given at = (u, refl)
lowered_given options units j _ _ (one_lowered _ first u later us one rest) (suc k) given at = lowered_given options units (suc j) later us rest k given at

file_of_units : (options : Options) (units : List GivenUnit) (j : ℕ) (tree : File) (us : List LoweredUnit) → AreLowered options units j tree.units us → AreOfFile options tree us
file_of_units options units j tree us lowered = record {
  units = same_units options units j tree.units us lowered;
  uses = λ k given u g v x.
      let one = at_place options units j tree.units us lowered k given u g v in
      one.uses x ∙ sym (ap (λ (unit : ProgramUnit). (dummy_of (uses_of_statements (arrays_of given) given.statements) unit.attribute x).use_of) one.unit);
}

files_of_units : (options : Options) (units : List GivenUnit) (j : ℕ) (trees : List File) (lfs : List (List LoweredUnit)) → AreLoweredFiles options units j trees lfs → AreOfFiles options trees lfs
files_of_units options units j _ _ (no_files _) = faithful.no_files
files_of_units options units j _ _ (one_file _ tree us trees lfs one rest) =
    faithful.one_file tree us trees lfs (file_of_units options units j tree us one) (files_of_units options units (j + length tree.units) trees lfs rest)

-- each file has a unit
has_one : (options : Options) (units : List GivenUnit) (j : ℕ) (gs : List GivenUnit) (us : List LoweredUnit) → AreLowered options units j gs us → has_units gs ≡ true → 1 ≤ length us
unfolding has_units
has_one options units j _ _ (none_lowered _) has = absurd (cc)
has_one options units j _ _ (one_lowered _ g u gs us one rest) has = omega arith

filled_by : (options : Options) (units : List GivenUnit) (j : ℕ) (trees : List File) (lfs : List (List LoweredUnit)) → AreLoweredFiles options units j trees lfs → each_has_units trees ≡ true → (us : List LoweredUnit) → IsIn us lfs → 1 ≤ length us
unfolding each_has_units
filled_by options units j _ _ (no_files _) has us o = elim o [ ]
filled_by options units j _ _ (one_file _ tree first trees lfs one rest) has _ first_in = has_one options units j tree.units first one (left (has_units tree.units) (each_has_units trees) has)
filled_by options units j _ _ (one_file _ tree first trees lfs one rest) has us (later_in o) =
    filled_by options units (j + length tree.units) trees lfs rest (right (has_units tree.units) (each_has_units trees) has) us o

as_many_files : (options : Options) (units : List GivenUnit) (j : ℕ) (trees : List File) (lfs : List (List LoweredUnit)) → AreLoweredFiles options units j trees lfs → length lfs ≡ length trees
as_many_files options units j _ _ (no_files _) = refl
as_many_files options units j _ _ (one_file _ tree us trees lfs one rest) = ap suc (as_many_files options units (j + length tree.units) trees lfs rest)

made_of : (options : Options) (trees : List File) (lfs : List (List LoweredUnit)) → AreLoweredFiles options (all_units trees) 0 trees lfs → each_has_units trees ≡ true → 0 < length trees → AreMadeOf options trees lfs
made_of options trees lfs lowered filled some =
    let units = all_units trees in
    let us = all_lowered lfs in
    let flat = flat_lowered options units 0 trees lfs lowered in
    let same : map (unit_read options) units ≡ program_units us = same_units options units 0 units us flat in
    let count = as_many_files options units 0 trees lfs lowered in
    let at : (k : ℕ) (given : GivenUnit) (u : LoweredUnit) → slice_get units k ≡ Some given → slice_get us k ≡ Some u → IsLowered options units k given u
    = λ k given u g v. (let e : k + 0 ≡ k = omega arith in subst (λ (n : ℕ). IsLowered options units n given u) e (at_place options units 0 units us flat k given u g v)) in
    record {
      of_files = files_of_units options units 0 trees lfs lowered;
      some = omega (arith, count, some);
      filled = filled_by options units 0 trees lfs lowered filled;
      plain = λ j given g. (let v = lowered_given options units 0 units us flat j given g in (at j given v.0 g v.1).plain);
      spellable = λ j given g. (let v = lowered_given options units 0 units us flat j given g in (at j given v.0 g v.1).spellable);
      lowered = λ j u v. (let g = given_at options units 0 units us flat j u v in
          let is = at j g.0 u g.1 v in
          subst (λ (unit : ProgramUnit). lowered_unit (own_facts (program_units us) j unit) ≡ Some u.text) (sym is.unit)
          (subst (λ (all : List ProgramUnit). lowered_unit (own_facts all j (unit_read options g.0)) ≡ Some u.text) same is.text));
      short = λ j u v. (let g = given_at options units 0 units us flat j u v in plain_text (whole_text u) (at j g.0 u g.1 v).short);
    }

-- ## The whole

printed_each : (fs : List UnitsOfFile) → map printed (c_files fs) ≡ map (λ f. printed (file_for f)) fs
printed_each [] = refl
printed_each (f ∷ fs) = ap (λ later. printed (file_for f) ∷ later) (printed_each fs)

pub translations_are_faithful_by : EachNamedUnitIsAUnit → EachPlainUnitSetIsFaithful → EachTranslationIsFaithful
unfolding translations_of
translations_are_faithful_by named faithful_sets options trees texts faultless some h =
    let source = mapped (map printed) (files_of options trees) texts h in
    let made = made_of_files options trees source.from source.was in
    let are = made_of options trees made.lfs made.lowered made.filled some in
    let plain = plain_units_of options trees made.lfs faultless are in
    subst (Faithful options trees) (sym (printed_each made.fs) ∙ ap (map printed) made.made ∙ source.gives) (faithful_sets options trees made.lfs made.fs faultless are (named made.lfs made.fs plain made.named))

-- and the C files have the functions and the external objects of the files
pub translations_have_signatures_by : EachNamedUnitIsAUnit → EachTranslationHasSignatures
translations_have_signatures_by named options trees files faultless some h =
    let made = made_of_files options trees files h in
    let are = made_of options trees made.lfs made.lowered made.filled some in
    let plain = plain_units_of options trees made.lfs faultless are in
    subst (EachHasSignatures options trees) made.made (files_have_signatures options trees made.lfs made.fs are.of_files plain (named made.lfs made.fs plain made.named))
