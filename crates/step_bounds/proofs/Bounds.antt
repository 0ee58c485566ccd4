-- The step factor of the C files of FORTRAN files is bounded by the trees of their units.
use Rattle.std.specs.Prelude.{◌≡◌, ℕ, suc, ◌+◌, ◌*◌, ◌≤◌, max, Bool, true, false, ℤ, List, [], ◌∷◌, map, length, Option, Some, None, option_map, option_and_then, if◌then◌else◌}
use Rattle.std.proofs.Common.{refl, ap, ◌∙◌, subst, arith}
use Rattle.translated_files.specs.f_tree.declared.names.Options.{Options}
use Rattle.translated_files.specs.f_tree.declared.units.File.{File}
use Rattle.translated_files.specs.f_tree.declared.units.Unit.{Unit as GivenUnit}
use Rattle.translated_files.specs.declaration_rows.GlobalRows.{all_units}
use Rattle.translated_files.specs.c_tree.FlatForm.{whole_body}
use Rattle.translated_files.specs.c_tree.Linking.{all_functions}
use Rattle.translated_files.specs.c_tree.Meaning.{step_factor}
use Rattle.translated_files.specs.c_tree.declared.file.CFile.{CFile}
use Rattle.translated_files.specs.c_tree.declared.file.CFunction.{CFunction}
use Rattle.translated_files.specs.c_tree.declared.statement.CStmt.{CStmt}
use Rattle.translated_files.specs.unit_file.UnitFile.{Inventory, WrittenUnit, unit_function}
use Rattle.translated_files.specs.unit_sites.UnitSites.{UnitsOfFile, files_of as c_files}
use Rattle.translated_files.specs.unit_translation.UnitContents.{LoweredUnit, constants_passed, inventory_of}
use Rattle.translated_files.specs.unit_translation.UnitBodies.{all_lowered, written_before}
use Rattle.translated_files.specs.named_units.NamedUnits.{named_body_of, named_from, named_file_of, named_files_from, named_files}
use Rattle.translated_files.specs.TranslatedFiles.{lowered_at, lowered_before, lowered_from, files_before, lowered_files, each_has_units, made_files, files_of}
use Rattle.built_sizes.specs.SizedStructures.{EachStructureHasASize}
use Rattle.read_sizes.specs.lowered_sizes.ReadNodes.{EachTextIsBounded}
use Rattle.read_sizes.specs.tree_nodes.TreeNodes.{unit_nodes, most_of, greatest_nodes}
use Rattle.read_sizes.specs.ReadUnits.{EachUnitIsReadWithin}
use Rattle.step_bounds.specs.BoundedSteps.{EachTranslationIsBounded}
use Rattle.step_bounds.proofs.StepFactors.{most_steps, factor_within, most_of_both}
use Rattle.step_bounds.proofs.Units.{squares, unit_within}

-- ## Units and files that stand before others

record AreBefore {A : Type 0} (x : Option A) (xs : Option (List A)) (all : List A) : Type 0 where
  first : A
  others : List A
  first_is : x ≡ Some first
  others_are : xs ≡ Some others
  is : first ∷ others ≡ all

lowered_parts : (x : Option LoweredUnit) (xs : Option (List LoweredUnit)) (us : List LoweredUnit) → lowered_before x xs ≡ Some us → AreBefore x xs us
unfolding lowered_before
lowered_parts (Some u) (Some later) us h = record { first = u; others = later; first_is = refl; others_are = refl; is = (let same : u ∷ later ≡ us = cc in same) }
lowered_parts (Some u) None us h = absurd (cc)
lowered_parts None later us h = absurd (cc)

files_parts : (x : Option (List LoweredUnit)) (xs : Option (List (List LoweredUnit))) (lfs : List (List LoweredUnit)) → files_before x xs ≡ Some lfs → AreBefore x xs lfs
unfolding files_before
files_parts (Some us) (Some later) lfs h = record { first = us; others = later; first_is = refl; others_are = refl; is = (let same : us ∷ later ≡ lfs = cc in same) }
files_parts (Some us) None lfs h = absurd (cc)
files_parts None later lfs h = absurd (cc)

record IsWritten (v : Inventory) (body : Option (List CStmt)) (later : Option (List WrittenUnit)) (ws : List WrittenUnit) : Type 0 where
  statements : List CStmt
  others : List WrittenUnit
  body_is : body ≡ Some statements
  others_are : later ≡ Some others
  is : record { inventory = v; body = statements } ∷ others ≡ ws

written_parts : (v : Inventory) (body : Option (List CStmt)) (later : Option (List WrittenUnit)) (ws : List WrittenUnit) → written_before v body later ≡ Some ws → IsWritten v body later ws
unfolding written_before
written_parts v (Some body) (Some later) ws h = record { statements = body; others = later; body_is = refl; others_are = refl; is = (let same : record { inventory = v; body = body } ∷ later ≡ ws = cc in same) }
written_parts v (Some body) None ws h = absurd (cc)
written_parts v None later ws h = absurd (cc)

named_parts : (all us : List LoweredUnit) (lfs : List (List LoweredUnit)) (fs : List UnitsOfFile) → named_files_from all (us ∷ lfs) ≡ Some fs → AreBefore (named_file_of all us) (named_files_from all lfs) fs
unfolding named_files_from
named_parts all us lfs fs h = by (named_file_of all us) (named_files_from all lfs) h
  where
    by : (x : Option UnitsOfFile) (xs : Option (List UnitsOfFile)) → option_and_then (λ f. option_map (λ later. f ∷ later) xs) x ≡ Some fs → AreBefore x xs fs
    by None xs g = absurd (cc)
    by (Some f) None g = absurd (cc)
    by (Some f) (Some later) g = record { first = f; others = later; first_is = refl; others_are = refl; is = (let same : f ∷ later ≡ fs = cc in same) }

module _ (sized : EachStructureHasASize) (bounded : EachTextIsBounded) (within : EachUnitIsReadWithin) (options : Options) (units : List GivenUnit) (all : List LoweredUnit) (most : ℕ) where
  -- the longest of some functions
  abbrev AreShort : List CFunction → Type 0
  AreShort functions = most_steps functions ≤ 24 * (most * most)

  -- ## Units of a file

  one_within : (constants : List ℤ) (j : ℕ) (given : GivenUnit) (u : LoweredUnit) (body : List CStmt) → lowered_at options units j given ≡ Some u → named_body_of constants all u ≡ Some body → unit_nodes given ≤ most → (whole_body body).size ≤ 24 * (most * most)
  one_within constants j given u body lowered is h =
      let own = unit_within sized bounded within options units j given constants all u body lowered is in
      let square = squares (unit_nodes given) most h in
      omega (arith, own, square)

  units_within : (constants : List ℤ) (j : ℕ) (givens : List GivenUnit) (us : List LoweredUnit) (ws : List WrittenUnit) → lowered_from options units j givens ≡ Some us → named_from constants all us ≡ Some ws → most_of givens ≤ most
      → AreShort (map unit_function ws)
  unfolding lowered_from named_from most_of most_steps
  units_within constants j [] us ws lowered named h =
      let none : [] ≡ us = cc in
      let nothing : Some [] ≡ Some ws = ap (named_from constants all) none ∙ named in
      let same : [] ≡ ws = cc in
      subst (λ (xs : List WrittenUnit). AreShort (map unit_function xs)) same (omega arith)
  units_within constants j (first ∷ later) us ws lowered named h =
      let parts = lowered_parts (lowered_at options units j first) (lowered_from options units (suc j) later) us lowered in
      let written = written_parts (inventory_of all parts.first) (named_body_of constants all parts.first) (named_from constants all parts.others) ws (ap (named_from constants all) parts.is ∙ named) in
      let one = one_within constants j first parts.first written.statements parts.first_is written.body_is (omega (arith, h)) in
      let more = units_within constants (suc j) later parts.others written.others parts.others_are written.others_are (omega (arith, h)) in
      subst (λ (xs : List WrittenUnit). AreShort (map unit_function xs)) written.is (let both : max (whole_body written.statements).size (most_steps (map unit_function written.others)) ≤ 24 * (most * most) = omega (arith, one, more) in both)

  -- ## Files

  file_within : (j : ℕ) (givens : List GivenUnit) (us : List LoweredUnit) (f : UnitsOfFile) → lowered_from options units j givens ≡ Some us → named_file_of all us ≡ Some f → most_of givens ≤ most → AreShort (map unit_function f.units)
  unfolding named_file_of
  file_within j givens us f lowered named h = by (named_from (constants_passed us) all us) refl named
    where
      by : (found : Option (List WrittenUnit)) → named_from (constants_passed us) all us ≡ found → option_map (λ ws. record { constants = constants_passed us; units = ws }) found ≡ Some f → AreShort (map unit_function f.units)
      by None is g = absurd (cc)
      by (Some ws) is g =
          let same : record { constants = constants_passed us; units = ws } ≡ f = cc in
          subst (λ (x : UnitsOfFile). AreShort (map unit_function x.units)) same (units_within (constants_passed us) j givens us ws lowered is h)

  files_within : (j : ℕ) (files : List File) (lfs : List (List LoweredUnit)) (fs : List UnitsOfFile) → lowered_files options units j files ≡ Some lfs → named_files_from all lfs ≡ Some fs → greatest_nodes files ≤ most → AreShort (all_functions (c_files fs))
  unfolding lowered_files named_files_from greatest_nodes most_steps
  files_within j [] lfs fs lowered named h =
      let none : [] ≡ lfs = cc in
      let nothing : Some [] ≡ Some fs = ap (named_files_from all) none ∙ named in
      let same : [] ≡ fs = cc in
      subst (λ (xs : List UnitsOfFile). AreShort (all_functions (c_files xs))) same (omega arith)
  files_within j (first ∷ later) lfs fs lowered named h =
      let parts = files_parts (lowered_from options units j first.units) (lowered_files options units (j + length first.units) later) lfs lowered in
      let names = named_parts all parts.first parts.others fs (ap (named_files_from all) parts.is ∙ named) in
      let one = file_within j first.units parts.first names.first parts.first_is names.first_is (omega (arith, h)) in
      let more = files_within (j + length first.units) later parts.others names.others parts.others_are names.others_are (omega (arith, h)) in
      subst (λ (xs : List UnitsOfFile). AreShort (all_functions (c_files xs))) names.is
      (most_of_both (map unit_function names.first.units) (all_functions (c_files names.others)) (24 * (most * most)) one more)

-- ## The whole

record IsFrom {A B : Type 0} (f : A → Option B) (x : Option A) (b : B) : Type 0 where
  from : A
  was : x ≡ Some from
  gives : f from ≡ Some b

from_option : {A B : Type 0} → (f : A → Option B) (x : Option A) (b : B) → option_and_then f x ≡ Some b → IsFrom f x b
from_option f None b h = absurd (cc)
from_option f (Some a) b h = record { from = a; was = refl; gives = h }

record IsMapped {A B : Type 0} (f : A → B) (x : Option A) (b : B) : Type 0 where
  from : A
  was : x ≡ Some from
  gives : f from ≡ b

from_map : {A B : Type 0} → (f : A → B) (x : Option A) (b : B) → option_map f x ≡ Some b → IsMapped f x b
from_map f None b h = absurd (cc)
from_map f (Some a) b h = record { from = a; was = refl; gives = (let same : f a ≡ b = cc in same) }

filled : (b : Bool) (x : Option (List UnitsOfFile)) (fs : List UnitsOfFile) → (if b then x else None) ≡ Some fs → x ≡ Some fs
filled true x fs h = h
filled false x fs h = absurd (cc)

itself : (n : ℕ) → n ≤ n
itself n = omega arith

enough : (factor n : ℕ) → factor ≤ 24 * (n * n) + 24 * (n * n) → factor ≤ 1000 * n * n
enough factor n h = omega (arith, h)

pub each_translation_is_bounded : EachStructureHasASize → EachTextIsBounded → EachUnitIsReadWithin → EachTranslationIsBounded
unfolding files_of made_files named_files
each_translation_is_bounded sized bounded within options files cs h =
    let source = from_map c_files (made_files options files) cs h in
    let made = filled (each_has_units files) (option_and_then named_files (lowered_files options (all_units files) 0 files)) source.from source.was in
    let lowered = from_option named_files (lowered_files options (all_units files) 0 files) source.from made in
    let short = files_within sized bounded within options (all_units files) (all_lowered lowered.from) (greatest_nodes files) 0 files lowered.from source.from lowered.was lowered.gives (itself (greatest_nodes files)) in
    enough (step_factor cs) (greatest_nodes files)
    (factor_within cs (24 * (greatest_nodes files * greatest_nodes files))
    (subst (λ (xs : List CFile). most_steps (all_functions xs) ≤ 24 * (greatest_nodes files * greatest_nodes files)) source.gives short))
