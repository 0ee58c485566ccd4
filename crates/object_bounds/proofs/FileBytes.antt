-- The objects of the C files of FORTRAN files have few bytes for the storage and the trees of their units.
use Rattle.std.specs.BTreeSet.{insert_key}
use Rattle.std.specs.List.{flat_map}
use Rattle.std.specs.Ordering.{int_cmp, match_ordering}
use Rattle.std.specs.Prelude.{◌≡◌, ℕ, suc, ◌+◌, ◌*◌, ◌≤◌, Bool, true, false, ℤ, List, [], ◌∷◌, ◌++◌, map, fold, length, Option, Some, None, option_map, option_and_then, if◌then◌else◌}
use Rattle.std.proofs.Common.{refl, ap, ◌∙◌, subst, arith, Ordering, Less, Equal, Greater}
use Rattle.std.proofs.lemmas.List.{length-append}
use Rattle.step_bounds.specs.translated_files.f_tree.declared.names.Options.{Options}
use Rattle.step_bounds.specs.translated_files.f_tree.declared.units.File.{File}
use Rattle.step_bounds.specs.translated_files.f_tree.declared.units.Unit.{Unit as GivenUnit}
use Rattle.step_bounds.specs.translated_files.f_tree.Facts.{Member}
use Rattle.step_bounds.specs.translated_files.f_tree.Lines.{unit_read}
use Rattle.step_bounds.specs.translated_files.f_tree.Runs.{all_sizes}
use Rattle.step_bounds.specs.translated_files.declaration_rows.GlobalRows.{all_units}
use Rattle.step_bounds.specs.translated_files.c_tree.Linking.{program, bytes_of_objects}
use Rattle.step_bounds.specs.translated_files.c_tree.declared.file.CFile.{CFile}
use Rattle.step_bounds.specs.translated_files.c_tree.declared.statement.CStmt.{CStmt}
use Rattle.step_bounds.specs.translated_files.main_translation.Contents.{with_new}
use Rattle.step_bounds.specs.translated_files.unit_file.UnitFile.{Inventory, WrittenUnit}
use Rattle.step_bounds.specs.translated_files.unit_sites.UnitSites.{UnitsOfFile, files_of as c_files}
use Rattle.step_bounds.specs.translated_files.unit_translation.UnitContents.{LoweredUnit, whole_text, values_from, constants_passed, inventory_of}
use Rattle.step_bounds.specs.translated_files.unit_translation.UnitBodies.{all_lowered, written_before}
use Rattle.step_bounds.specs.translated_files.named_units.NamedUnits.{named_body_of, named_from, named_file_of, named_files_from, named_files}
use Rattle.step_bounds.specs.translated_files.TranslatedFiles.{lowered_at, lowered_before, lowered_from, files_before, lowered_files, each_has_units, made_files, files_of}
use Rattle.step_bounds.specs.read_sizes.ReadUnits.{EachUnitIsReadWithin}
use Rattle.plain_units.specs.PlainParts.{PlainUnitsAreTold}
use Rattle.built_strings.specs.BuiltStrings.{EachStructureHasItsStrings}
use Rattle.emitted_strings.specs.EmittedStrings.{EachItemHasTheStringOfItsStep}
use Rattle.lowered_objects.specs.FewObjects.{EachTextNeedsFewObjects}
use Rattle.linked_sizes.specs.LinkedSizes.{units_bytes, files_bytes, EachProgramIsSized}
use Rattle.object_bytes.specs.tree_nodes.TreeNodes.{total_by, unit_nodes}
use Rattle.object_bytes.specs.ObjectBytes.{stored_in, stored_bytes, all_nodes, unit_stops, all_stops}
use Rattle.object_bounds.specs.BoundedObjects.{EachTranslationHasFewBytes}
use Rattle.object_bounds.proofs.UnitBytes.{sizes, IsSmall, unit_within}

-- ## Sums over units

total_both : {A : Type 0} (nodes : A → ℕ) (xs ys : List A) → total_by nodes (xs ++ ys) ≡ total_by nodes xs + total_by nodes ys
unfolding total_by
total_both nodes [] ys = (let e : total_by nodes ys ≡ 0 + total_by nodes ys = omega arith in e)
total_both nodes (x ∷ xs) ys = let more = total_both nodes xs ys in (let e : nodes x + total_by nodes (xs ++ ys) ≡ nodes x + total_by nodes xs + total_by nodes ys = omega (arith, more) in e)

stored_first : (options : Options) (given : GivenUnit) (later : List GivenUnit) → stored_in options (given ∷ later) ≡ sizes (unit_read options given).stored + stored_in options later
unfolding stored_in all_sizes sizes
stored_first options given later = total_both (λ size. size) (map (λ (m : Member). m.size) (unit_read options given).stored) (all_sizes (map (unit_read options) later))

stored_none : (options : Options) → stored_in options [] ≡ 0
unfolding stored_in all_sizes total_by
stored_none options = refl

stored_both : (options : Options) (us vs : List GivenUnit) → stored_in options (us ++ vs) ≡ stored_in options us + stored_in options vs
stored_both options [] vs = let none = stored_none options in (let e : stored_in options vs ≡ stored_in options [] + stored_in options vs = omega (arith, none) in e)
stored_both options (u ∷ us) vs =
    let one = stored_first options u us in
    let other = stored_first options u (us ++ vs) in
    let more = stored_both options us vs in
    (let e : stored_in options (u ∷ (us ++ vs)) ≡ stored_in options (u ∷ us) + stored_in options vs = omega (arith, one, other, more) in e)

-- what units may have: the bytes of their sequences, a hundred for each node, and those of the texts of STOP
limit : Options → List GivenUnit → ℕ
limit options us = stored_in options us + (total_by unit_stops us + 100 * total_by unit_nodes us)

limit_first : (options : Options) (given : GivenUnit) (later : List GivenUnit) → limit options (given ∷ later) ≡ sizes (unit_read options given).stored + (unit_stops given + 100 * unit_nodes given) + limit options later
unfolding limit total_by
limit_first options given later =
    let first = stored_first options given later in
    (let e : stored_in options (given ∷ later) + (unit_stops given + total_by unit_stops later + 100 * (unit_nodes given + total_by unit_nodes later))
    ≡ sizes (unit_read options given).stored + (unit_stops given + 100 * unit_nodes given) + (stored_in options later + (total_by unit_stops later + 100 * total_by unit_nodes later)) = omega (arith, first) in e)

limit_both : (options : Options) (us vs : List GivenUnit) → limit options (us ++ vs) ≡ limit options us + limit options vs
unfolding limit
limit_both options us vs =
    let stored = stored_both options us vs in
    let stops = total_both unit_stops us vs in
    let nodes = total_both unit_nodes us vs in
    (let e : stored_in options (us ++ vs) + (total_by unit_stops (us ++ vs) + 100 * total_by unit_nodes (us ++ vs))
    ≡ stored_in options us + (total_by unit_stops us + 100 * total_by unit_nodes us) + (stored_in options vs + (total_by unit_stops vs + 100 * total_by unit_nodes vs)) = omega (arith, stored, stops, nodes) in e)

-- ## Units and files that stand before others

record AreBefore {A : Type 0} (x : Option A) (xs : Option (List A)) (all : List A) : Type 0 where
  first : A
  others : List A
  first_is : x ≡ Some first
  others_are : xs ≡ Some others
  is : first ∷ others ≡ all

lowered_parts : (x : Option LoweredUnit) (xs : Option (List LoweredUnit)) (us : List LoweredUnit) → lowered_before x xs ≡ Some us → AreBefore x xs us
unfolding lowered_before
lowered_parts (Some u) (Some later) us h = record { first = u; others = later; first_is = refl; others_are = refl; is = (let same : u ∷ later ≡ us = cc in same) }
lowered_parts (Some u) None us h = absurd (cc)
lowered_parts None later us h = absurd (cc)

files_parts : (x : Option (List LoweredUnit)) (xs : Option (List (List LoweredUnit))) (lfs : List (List LoweredUnit)) → files_before x xs ≡ Some lfs → AreBefore x xs lfs
unfolding files_before
files_parts (Some us) (Some later) lfs h = record { first = us; others = later; first_is = refl; others_are = refl; is = (let same : us ∷ later ≡ lfs = cc in same) }
files_parts (Some us) None lfs h = absurd (cc)
files_parts None later lfs h = absurd (cc)

record IsWritten (v : Inventory) (body : Option (List CStmt)) (later : Option (List WrittenUnit)) (ws : List WrittenUnit) : Type 0 where
  statements : List CStmt
  others : List WrittenUnit
  body_is : body ≡ Some statements
  others_are : later ≡ Some others
  is : record { inventory = v; body = statements } ∷ others ≡ ws

written_parts : (v : Inventory) (body : Option (List CStmt)) (later : Option (List WrittenUnit)) (ws : List WrittenUnit) → written_before v body later ≡ Some ws → IsWritten v body later ws
unfolding written_before
written_parts v (Some body) (Some later) ws h = record { statements = body; others = later; body_is = refl; others_are = refl; is = (let same : record { inventory = v; body = body } ∷ later ≡ ws = cc in same) }
written_parts v (Some body) None ws h = absurd (cc)
written_parts v None later ws h = absurd (cc)

named_parts : (all us : List LoweredUnit) (lfs : List (List LoweredUnit)) (fs : List UnitsOfFile) → named_files_from all (us ∷ lfs) ≡ Some fs → AreBefore (named_file_of all us) (named_files_from all lfs) fs
unfolding named_files_from
named_parts all us lfs fs h = by (named_file_of all us) (named_files_from all lfs) h
  where
    by : (x : Option UnitsOfFile) (xs : Option (List UnitsOfFile)) → option_and_then (λ f. option_map (λ later. f ∷ later) xs) x ≡ Some fs → AreBefore x xs fs
    by None xs g = absurd (cc)
    by (Some f) None g = absurd (cc)
    by (Some f) (Some later) g = record { first = f; others = later; first_is = refl; others_are = refl; is = (let same : f ∷ later ≡ fs = cc in same) }

-- ## Constants

-- a value that is put into its place makes one more at most
inserted : (z : ℤ) (zs : List ℤ) → length (insert_key int_cmp zs z) ≤ suc (length zs)
inserted z [] = omega arith
inserted z (y ∷ ys) = by (int_cmp z y) (inserted z ys)
  where
    by : (r : Ordering) → length (insert_key int_cmp ys z) ≤ suc (length ys) → length (match_ordering r (z ∷ y ∷ ys) (y ∷ ys) (y ∷ insert_key int_cmp ys z)) ≤ suc (suc (length ys))
    by Less more = omega arith
    by Equal more = omega arith
    by Greater more = omega (arith, more)

once : (zs known : List ℤ) → length (fold with_new known zs) ≤ length known + length zs
unfolding with_new
once [] known = omega arith
once (z ∷ zs) known =
    let one = inserted z known in
    let more = once zs (insert_key int_cmp known z) in
    omega (arith, one, more)

-- the values that units pass
abbrev values_of : LoweredUnit → List ℤ
values_of u = values_from (whole_text u) 0 (whole_text u).steps

constants_within : (us : List LoweredUnit) → length (constants_passed us) ≤ length (flat_map values_of us)
unfolding constants_passed
constants_within us = let all = once (flat_map values_of us) [] in omega (arith, all)

module _ (told : PlainUnitsAreTold) (within : EachUnitIsReadWithin) (few : EachTextNeedsFewObjects) (built : EachStructureHasItsStrings) (each : EachItemHasTheStringOfItsStep) (options : Options) (units : List GivenUnit) (all : List LoweredUnit) where
  -- ## Units of a file

  record AreSmall (givens : List GivenUnit) (us : List LoweredUnit) (ws : List WrittenUnit) : Type 0 where
    bytes : units_bytes ws ≤ limit options givens
    values : length (flat_map values_of us) ≤ 12 * total_by unit_nodes givens

  none_small : AreSmall [] [] []
  unfolding units_bytes total_by
  none_small = record { bytes = omega arith; values = omega arith }

  one_more : (given : GivenUnit) (givens : List GivenUnit) (u : LoweredUnit) (us : List LoweredUnit) (w : WrittenUnit) (ws : List WrittenUnit) → IsSmall options given u w → AreSmall givens us ws → AreSmall (given ∷ givens) (u ∷ us) (w ∷ ws)
  unfolding units_bytes total_by
  one_more given givens u us w ws one more =
      let bytes = one.bytes in
      let values = one.values in
      let others = more.bytes in
      let passed = more.values in
      let first = limit_first options given givens in
      let whole = length-append (values_of u) (flat_map values_of us) in
      record { bytes = omega (arith, bytes, others, first); values = omega (arith, values, passed, whole) }

  units_within : (constants : List ℤ) (j : ℕ) (givens : List GivenUnit) (us : List LoweredUnit) (ws : List WrittenUnit) → lowered_from options units j givens ≡ Some us → named_from constants all us ≡ Some ws → AreSmall givens us ws
  unfolding lowered_from named_from
  units_within constants j [] us ws lowered named =
      let none : [] ≡ us = cc in
      let nothing : Some [] ≡ Some ws = ap (named_from constants all) none ∙ named in
      let same : [] ≡ ws = cc in
      subst (λ (vs : List LoweredUnit). AreSmall [] vs ws) none (subst (λ (xs : List WrittenUnit). AreSmall [] [] xs) same none_small)
  units_within constants j (first ∷ later) us ws lowered named =
      let parts = lowered_parts (lowered_at options units j first) (lowered_from options units (suc j) later) us lowered in
      let written = written_parts (inventory_of all parts.first) (named_body_of constants all parts.first) (named_from constants all parts.others) ws (ap (named_from constants all) parts.is ∙ named) in
      let one = unit_within told within few built each options units j first constants all parts.first written.statements parts.first_is written.body_is in
      let more = units_within constants (suc j) later parts.others written.others parts.others_are written.others_are in
      subst (λ (vs : List LoweredUnit). AreSmall (first ∷ later) vs ws) parts.is
      (subst (λ (xs : List WrittenUnit). AreSmall (first ∷ later) (parts.first ∷ parts.others) xs) written.is
      (one_more first later parts.first parts.others (record { inventory = inventory_of all parts.first; body = written.statements }) written.others one more))

  -- ## Files

  file_within : (j : ℕ) (givens : List GivenUnit) (us : List LoweredUnit) (f : UnitsOfFile) → lowered_from options units j givens ≡ Some us → named_file_of all us ≡ Some f
      → 4 * length f.constants + units_bytes f.units ≤ limit options givens + 48 * total_by unit_nodes givens
  unfolding named_file_of
  file_within j givens us f lowered named = by (named_from (constants_passed us) all us) refl named
    where
      by : (found : Option (List WrittenUnit)) → named_from (constants_passed us) all us ≡ found → option_map (λ ws. record { constants = constants_passed us; units = ws }) found ≡ Some f
          → 4 * length f.constants + units_bytes f.units ≤ limit options givens + 48 * total_by unit_nodes givens
      by None is g = absurd (cc)
      by (Some ws) is g =
          let same : record { constants = constants_passed us; units = ws } ≡ f = cc in
          let small = units_within (constants_passed us) j givens us ws lowered is in
          let bytes = small.bytes in
          let values = small.values in
          let constants = constants_within us in
          let own : 4 * length (constants_passed us) + units_bytes ws ≤ limit options givens + 48 * total_by unit_nodes givens = omega (arith, bytes, values, constants) in
          subst (λ (x : UnitsOfFile). 4 * length x.constants + units_bytes x.units ≤ limit options givens + 48 * total_by unit_nodes givens) same own

  files_within : (j : ℕ) (files : List File) (lfs : List (List LoweredUnit)) (fs : List UnitsOfFile) → lowered_files options units j files ≡ Some lfs → named_files_from all lfs ≡ Some fs
      → files_bytes fs ≤ limit options (all_units files) + 48 * total_by unit_nodes (all_units files)
  unfolding lowered_files named_files_from all_units files_bytes
  files_within j [] lfs fs lowered named =
      let none : [] ≡ lfs = cc in
      let nothing : Some [] ≡ Some fs = ap (named_files_from all) none ∙ named in
      let same : [] ≡ fs = cc in
      subst (λ (xs : List UnitsOfFile). files_bytes xs ≤ limit options [] + 48 * total_by unit_nodes []) same (omega arith)
  files_within j (first ∷ later) lfs fs lowered named =
      let parts = files_parts (lowered_from options units j first.units) (lowered_files options units (j + length first.units) later) lfs lowered in
      let names = named_parts all parts.first parts.others fs (ap (named_files_from all) parts.is ∙ named) in
      let one = file_within j first.units parts.first names.first parts.first_is names.first_is in
      let more = files_within (j + length first.units) later parts.others names.others parts.others_are names.others_are in
      let limits = limit_both options first.units (all_units later) in
      let nodes = total_both unit_nodes first.units (all_units later) in
      subst (λ (xs : List UnitsOfFile). files_bytes xs ≤ limit options (first.units ++ all_units later) + 48 * total_by unit_nodes (first.units ++ all_units later)) names.is (omega (arith, one, more, limits, nodes))

-- ## The whole

record IsFrom {A B : Type 0} (f : A → Option B) (x : Option A) (b : B) : Type 0 where
  from : A
  was : x ≡ Some from
  gives : f from ≡ Some b

from_option : {A B : Type 0} → (f : A → Option B) (x : Option A) (b : B) → option_and_then f x ≡ Some b → IsFrom f x b
from_option f None b h = absurd (cc)
from_option f (Some a) b h = record { from = a; was = refl; gives = h }

record IsMapped {A B : Type 0} (f : A → B) (x : Option A) (b : B) : Type 0 where
  from : A
  was : x ≡ Some from
  gives : f from ≡ b

from_map : {A B : Type 0} → (f : A → B) (x : Option A) (b : B) → option_map f x ≡ Some b → IsMapped f x b
from_map f None b h = absurd (cc)
from_map f (Some a) b h = record { from = a; was = refl; gives = (let same : f a ≡ b = cc in same) }

filled : (b : Bool) (x : Option (List UnitsOfFile)) (fs : List UnitsOfFile) → (if b then x else None) ≡ Some fs → x ≡ Some fs
filled true x fs h = h
filled false x fs h = absurd (cc)

enough : (options : Options) (files : List File) (bytes : ℕ) → bytes ≤ limit options (all_units files) + 48 * total_by unit_nodes (all_units files) → bytes ≤ stored_bytes options files + 1000 * all_nodes files + all_stops files
unfolding limit stored_bytes all_nodes all_stops
enough options files bytes h = omega (arith, h)

pub each_translation_has_few_bytes : PlainUnitsAreTold → EachUnitIsReadWithin → EachTextNeedsFewObjects → EachStructureHasItsStrings → EachItemHasTheStringOfItsStep → EachProgramIsSized → EachTranslationHasFewBytes
unfolding files_of made_files named_files
each_translation_has_few_bytes told within few built each sized options files cs h =
    let source = from_map c_files (made_files options files) cs h in
    let made = filled (each_has_units files) (option_and_then named_files (lowered_files options (all_units files) 0 files)) source.from source.was in
    let lowered = from_option named_files (lowered_files options (all_units files) 0 files) source.from made in
    let small = files_within told within few built each options (all_units files) (all_lowered lowered.from) 0 files lowered.from source.from lowered.was lowered.gives in
    let own = sized source.from in
    enough options files (bytes_of_objects (program cs).objects)
    (subst (λ (xs : List CFile). bytes_of_objects (program xs).objects ≤ limit options (all_units files) + 48 * total_by unit_nodes (all_units files)) source.gives (omega (arith, small, own)))
