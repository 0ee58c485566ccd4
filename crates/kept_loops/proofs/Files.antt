-- The functions of the units of files keep their loops.
use Rattle.std.specs.Prelude.{◌≡◌, ℕ, zero, suc, ◌+◌, ◌&&◌, Bool, true, false, ℤ, List, [], ◌∷◌, map, length, Option, Some, None, option_map, option_and_then, slice_get, if◌then◌else◌}
use Rattle.std.proofs.Common.{refl, sym, ap, ◌∙◌, subst}
use Rattle.std.proofs.lemmas.Bool.{and_parts}
use Rattle.translated_files.specs.f_tree.declared.names.Options.{Options}
use Rattle.translated_files.specs.f_tree.declared.units.File.{File}
use Rattle.translated_files.specs.f_tree.declared.units.Unit.{Unit as GivenUnit}
use Rattle.translated_files.specs.f_tree.Lines.{unit_read}
use Rattle.translated_files.specs.f_tree.Setting.{IsIn, first_in, later_in}
use Rattle.translated_files.specs.declaration_rows.GlobalRows.{all_units}
use Rattle.translated_files.specs.declaration_rows.NameRows.{given_names}
use Rattle.translated_files.specs.l_core.Steps.{Text}
use Rattle.translated_files.specs.lowering.Units.{lowered_unit}
use Rattle.translated_files.specs.c_tree.declared.file.CFile.{CFile}
use Rattle.translated_files.specs.c_tree.declared.file.CFunction.{CFunction}
use Rattle.translated_files.specs.c_tree.declared.statement.CStmt.{CStmt}
use Rattle.translated_files.specs.faithful.StorageImage.{function_name}
use Rattle.translated_files.specs.unit_file.UnitFile.{Inventory, WrittenUnit, unit_function}
use Rattle.translated_files.specs.unit_sites.UnitSites.{UnitsOfFile, file_for, files_of as c_files}
use Rattle.translated_files.specs.unit_translation.UnitContents.{LoweredUnit, whole_text, constants_passed, inventory_of}
use Rattle.translated_files.specs.unit_translation.UnitBodies.{all_lowered, written_before}
use Rattle.translated_files.specs.named_units.NamedUnits.{named_body_of, named_from, named_file_of, named_files_from, named_files}
use Rattle.translated_files.specs.unit_forms.OwnSetting.{own_facts}
use Rattle.translated_files.specs.unit_forms.PlainProcedures.{is_plain_unit}
use Rattle.translated_files.specs.unit_forms.SpellableUnits.{is_spellable_unit}
use Rattle.translated_files.specs.translated_forms.LoweredForms.{statements_lower}
use Rattle.translated_files.specs.TranslatedFiles.{text_fits, unit_with, procedure_names, procedures_are_defined, passes_tests, lowered_by, lowered_at, lowered_before, lowered_from, files_before, lowered_files, each_has_units, made_files, files_of}
use Rattle.behind_units.specs.BehindUnits.{LoweredUnitsStandBehind}
use Rattle.loop_marks.specs.c_loops.KeptLayouts.{EachStructureIsKept}
use Rattle.loop_marks.specs.MarkedLoops.{EachTextMarksItsLoops, EachBranchIsNamed}
use Rattle.kept_loops.specs.KeptFunctions.{KeepsLoops, HasFunctions, EachTranslationKeepsLoops}
use Rattle.kept_loops.proofs.Direct.{plain_unit, nothing_implied}
use Rattle.kept_loops.proofs.Units.{own_program, unit_keeps}

-- ## One unit

-- what a lowered unit is of
record IsLowered (options : Options) (units : List GivenUnit) (j : ℕ) (given : GivenUnit) (u : LoweredUnit) : Type 0 where
  plain : is_plain_unit options given ≡ true
  lowers : statements_lower (given_names given) given.statements ≡ true
  unit : u.unit ≡ unit_read options given
  text : lowered_unit (own_facts (map (unit_read options) units) j (unit_read options given)) ≡ Some u.text

record IsOfText (options : Options) (given : GivenUnit) (found : Option Text) (u : LoweredUnit) : Type 0 where
  unit : u.unit ≡ unit_read options given
  text : found ≡ Some u.text

if_some : {A : Type 0} → (b : Bool) (x y : A) → (if b then Some x else None) ≡ Some y → x ≡ y
if_some true x y h = cc
if_some false x y h = absurd (cc)

of_text : (options : Options) (given : GivenUnit) (found : Option Text) (u : LoweredUnit) → lowered_by options given found ≡ Some u → IsOfText options given found u
unfolding lowered_by
of_text options given None u h = absurd (cc)
of_text options given (Some text) u h =
    let same = if_some (text_fits (whole_text (unit_with options given text))) (unit_with options given text) u h in
    record { unit = ap (λ (v : LoweredUnit). v.unit) (sym same); text = ap (λ (v : LoweredUnit). Some v.text) same }

of_tests : (options : Options) (units : List GivenUnit) (j : ℕ) (given : GivenUnit) (u : LoweredUnit) (b : Bool) → passes_tests options (procedure_names units) given ≡ b
    → (if b then lowered_by options given (lowered_unit (own_facts (map (unit_read options) units) j (unit_read options given))) else None) ≡ Some u → IsLowered options units j given u
unfolding passes_tests
of_tests options units j given u false passed h = absurd (cc)
of_tests options units j given u true passed h =
    let defined = procedures_are_defined (procedure_names units) given in
    let lowers = statements_lower (given_names given) given.statements in
    let spellable = is_spellable_unit (unit_read options given) in
    let one = and_parts (is_plain_unit options given) (spellable && (defined && lowers)) passed in
    let two = and_parts spellable (defined && lowers) one.1 in
    let three = and_parts defined lowers two.1 in
    let made = of_text options given (lowered_unit (own_facts (map (unit_read options) units) j (unit_read options given))) u h in
    record { plain = one.0; lowers = three.1; unit = made.unit; text = made.text }

is_lowered : (options : Options) (units : List GivenUnit) (j : ℕ) (given : GivenUnit) (u : LoweredUnit) → lowered_at options units j given ≡ Some u → IsLowered options units j given u
unfolding lowered_at
is_lowered options units j given u h = of_tests options units j given u (passes_tests options (procedure_names units) given) refl h

-- ## Units of a file

record AreBefore {A : Type 0} (x : Option A) (xs : Option (List A)) (all : List A) : Type 0 where
  first : A
  others : List A
  first_is : x ≡ Some first
  others_are : xs ≡ Some others
  is : first ∷ others ≡ all

lowered_parts : (x : Option LoweredUnit) (xs : Option (List LoweredUnit)) (us : List LoweredUnit) → lowered_before x xs ≡ Some us → AreBefore x xs us
unfolding lowered_before
lowered_parts (Some u) (Some later) us h = record { first = u; others = later; first_is = refl; others_are = refl; is = (let same : u ∷ later ≡ us = cc in same) }
lowered_parts (Some u) None us h = absurd (cc)
lowered_parts None later us h = absurd (cc)

files_parts : (x : Option (List LoweredUnit)) (xs : Option (List (List LoweredUnit))) (lfs : List (List LoweredUnit)) → files_before x xs ≡ Some lfs → AreBefore x xs lfs
unfolding files_before
files_parts (Some us) (Some later) lfs h = record { first = us; others = later; first_is = refl; others_are = refl; is = (let same : us ∷ later ≡ lfs = cc in same) }
files_parts (Some us) None lfs h = absurd (cc)
files_parts None later lfs h = absurd (cc)

record IsWritten (v : Inventory) (body : Option (List CStmt)) (later : Option (List WrittenUnit)) (ws : List WrittenUnit) : Type 0 where
  statements : List CStmt
  others : List WrittenUnit
  body_is : body ≡ Some statements
  others_are : later ≡ Some others
  is : record { inventory = v; body = statements } ∷ others ≡ ws

written_parts : (v : Inventory) (body : Option (List CStmt)) (later : Option (List WrittenUnit)) (ws : List WrittenUnit) → written_before v body later ≡ Some ws → IsWritten v body later ws
unfolding written_before
written_parts v (Some body) (Some later) ws h = record { statements = body; others = later; body_is = refl; others_are = refl; is = (let same : record { inventory = v; body = body } ∷ later ≡ ws = cc in same) }
written_parts v (Some body) None ws h = absurd (cc)
written_parts v None later ws h = absurd (cc)

-- a function among some
record HasOne (options : Options) (u : GivenUnit) (ws : List WrittenUnit) : Type 0 where
  function : CFunction
  among : IsIn function (map unit_function ws)
  named : function.name ≡ function_name (unit_read options u)
  keeps : KeepsLoops options u function

more_ones : (options : Options) (u : GivenUnit) (w : WrittenUnit) (ws : List WrittenUnit) → HasOne options u ws → HasOne options u (w ∷ ws)
more_ones options u w ws one = record { function = one.function; among = later_in one.among; named = one.named; keeps = one.keeps }

pick : (options : Options) (g f : GivenUnit) (fs : List GivenUnit) (w : WrittenUnit) (ws : List WrittenUnit) → IsIn g (f ∷ fs) → HasOne options f (w ∷ ws) → (IsIn g fs → HasOne options g ws) → HasOne options g (w ∷ ws)
pick options _ f fs w ws first_in one more = one
pick options g f fs w ws (later_in among) one more = more_ones options g w ws (more among)

module _ (built : EachStructureIsKept) (marked : EachTextMarksItsLoops) (branches : EachBranchIsNamed) (stand : LoweredUnitsStandBehind) (options : Options) (units : List GivenUnit) (all : List LoweredUnit) where
  one_kept : (constants : List ℤ) (j : ℕ) (given : GivenUnit) (u : LoweredUnit) (body : List CStmt) (ws : List WrittenUnit) → lowered_at options units j given ≡ Some u → named_body_of constants all u ≡ Some body
      → HasOne options given (record { inventory = inventory_of all u; body = body } ∷ ws)
  one_kept constants j given u body ws lowered is =
      let made = is_lowered options units j given u lowered in
      let c = own_facts (map (unit_read options) units) j (unit_read options given) in
      let function = unit_function (record { inventory = inventory_of all u; body = body }) in
      record {
        function = function;
        among = first_in;
        named = ap function_name made.unit;
        keeps = unit_keeps built marked branches stand options given c (own_program (map (unit_read options) units) j (unit_read options given)) (plain_unit options given made.plain) made.lowers constants all u function made.text
            (nothing_implied (given_names given) given.statements made.lowers) is;
      }

  units_kept : (constants : List ℤ) (j : ℕ) (givens : List GivenUnit) (us : List LoweredUnit) (ws : List WrittenUnit) → lowered_from options units j givens ≡ Some us → named_from constants all us ≡ Some ws → (given : GivenUnit) → IsIn given givens
      → HasOne options given ws
  unfolding lowered_from named_from
  units_kept constants j [] us ws lowered named given among = elim among [ ]
  units_kept constants j (first ∷ later) us ws lowered named given among =
      let parts = lowered_parts (lowered_at options units j first) (lowered_from options units (suc j) later) us lowered in
      let written = written_parts (inventory_of all parts.first) (named_body_of constants all parts.first) (named_from constants all parts.others) ws (ap (named_from constants all) parts.is ∙ named) in
      let w : WrittenUnit = record { inventory = inventory_of all parts.first; body = written.statements } in
      subst (HasOne options given) written.is
      (pick options given first later w written.others among (one_kept constants j first parts.first written.statements written.others parts.first_is written.body_is)
      (λ among'. units_kept constants (suc j) later parts.others written.others parts.others_are written.others_are given among'))

  -- ## Files

  file_kept : (j : ℕ) (file : File) (us : List LoweredUnit) (f : UnitsOfFile) → lowered_from options units j file.units ≡ Some us → named_file_of all us ≡ Some f → HasFunctions options file (Some (file_for f))
  unfolding named_file_of
  file_kept j file us f lowered named = by (named_from (constants_passed us) all us) refl named
    where
      by : (found : Option (List WrittenUnit)) → named_from (constants_passed us) all us ≡ found → option_map (λ ws. record { constants = constants_passed us; units = ws }) found ≡ Some f → HasFunctions options file (Some (file_for f))
      by None is g = absurd (cc)
      by (Some ws) is g =
          let same : record { constants = constants_passed us; units = ws } ≡ f = cc in
          subst (λ (x : UnitsOfFile). HasFunctions options file (Some (file_for x))) same
          (record {
            text = file_for (record { constants = constants_passed us; units = ws });
            there = refl;
            functions = λ u among. (let one = units_kept (constants_passed us) j file.units us ws lowered is u among in record { function = one.function; among = one.among; named = one.named; keeps = one.keeps });
          })

  record AreNamed (us : List LoweredUnit) (lfs : List (List LoweredUnit)) (fs : List UnitsOfFile) : Type 0 where
    first : UnitsOfFile
    others : List UnitsOfFile
    first_is : named_file_of all us ≡ Some first
    others_are : named_files_from all lfs ≡ Some others
    is : first ∷ others ≡ fs

  named_parts : (us : List LoweredUnit) (lfs : List (List LoweredUnit)) (fs : List UnitsOfFile) → named_files_from all (us ∷ lfs) ≡ Some fs → AreNamed us lfs fs
  unfolding named_files_from
  named_parts us lfs fs h = by (named_file_of all us) (named_files_from all lfs) refl refl h
    where
      by : (x : Option UnitsOfFile) (xs : Option (List UnitsOfFile)) → named_file_of all us ≡ x → named_files_from all lfs ≡ xs → option_and_then (λ f. option_map (λ later. f ∷ later) xs) x ≡ Some fs → AreNamed us lfs fs
      by None xs one more g = absurd (cc)
      by (Some f) None one more g = absurd (cc)
      by (Some f) (Some later) one more g = record { first = f; others = later; first_is = one; others_are = more; is = (let same : f ∷ later ≡ fs = cc in same) }

  files_kept : (j : ℕ) (files : List File) (lfs : List (List LoweredUnit)) (fs : List UnitsOfFile) → lowered_files options units j files ≡ Some lfs → named_files_from all lfs ≡ Some fs → (k : ℕ) (file : File) → slice_get files k ≡ Some file
      → HasFunctions options file (slice_get (c_files fs) k)
  unfolding lowered_files
  files_kept j [] lfs fs lowered named k file is = absurd (cc)
  files_kept j (first ∷ later) lfs fs lowered named zero file is =
      let parts = files_parts (lowered_from options units j first.units) (lowered_files options units (j + length first.units) later) lfs lowered in
      let names = named_parts parts.first parts.others fs (ap (named_files_from all) parts.is ∙ named) in
      let same : first ≡ file = cc in
      subst (λ (x : File). HasFunctions options x (slice_get (c_files fs) 0)) same
      (subst (λ (gs : List UnitsOfFile). HasFunctions options first (slice_get (c_files gs) 0)) names.is (file_kept j first parts.first names.first parts.first_is names.first_is))
  files_kept j (first ∷ later) lfs fs lowered named (suc k) file is =
      let parts = files_parts (lowered_from options units j first.units) (lowered_files options units (j + length first.units) later) lfs lowered in
      let names = named_parts parts.first parts.others fs (ap (named_files_from all) parts.is ∙ named) in
      subst (λ (gs : List UnitsOfFile). HasFunctions options file (slice_get (c_files gs) (suc k))) names.is (files_kept (j + length first.units) later parts.others names.others parts.others_are names.others_are k file is)

-- ## The whole

record IsFrom {A B : Type 0} (f : A → Option B) (x : Option A) (b : B) : Type 0 where
  from : A
  was : x ≡ Some from
  gives : f from ≡ Some b

from_option : {A B : Type 0} → (f : A → Option B) (x : Option A) (b : B) → option_and_then f x ≡ Some b → IsFrom f x b
from_option f None b h = absurd (cc)
from_option f (Some a) b h = record { from = a; was = refl; gives = h }

record IsMapped {A B : Type 0} (f : A → B) (x : Option A) (b : B) : Type 0 where
  from : A
  was : x ≡ Some from
  gives : f from ≡ b

from_map : {A B : Type 0} → (f : A → B) (x : Option A) (b : B) → option_map f x ≡ Some b → IsMapped f x b
from_map f None b h = absurd (cc)
from_map f (Some a) b h = record { from = a; was = refl; gives = (let same : f a ≡ b = cc in same) }

filled : (b : Bool) (x : Option (List UnitsOfFile)) (fs : List UnitsOfFile) → (if b then x else None) ≡ Some fs → x ≡ Some fs
filled true x fs h = h
filled false x fs h = absurd (cc)

pub translations_keep : EachStructureIsKept → EachTextMarksItsLoops → EachBranchIsNamed → LoweredUnitsStandBehind → EachTranslationKeepsLoops
unfolding files_of made_files named_files
translations_keep built marked branches stand options files cs h k file is =
    let source = from_map c_files (made_files options files) cs h in
    let made = filled (each_has_units files) (option_and_then named_files (lowered_files options (all_units files) 0 files)) source.from source.was in
    let lowered = from_option named_files (lowered_files options (all_units files) 0 files) source.from made in
    subst (λ (xs : List CFile). HasFunctions options file (slice_get xs k)) source.gives
    (files_kept built marked branches stand options (all_units files) (all_lowered lowered.from) 0 files lowered.from source.from lowered.was lowered.gives k file is)
