-- Trees that have C files have no row F99.
use Rattle.std.specs.Prelude.{◌≡◌, ℕ, suc, ℤ, Bool, true, false, List, [], ◌∷◌, ◌++◌, Option, Some, None, option_map, option_and_then, Result, Ok, Err, if◌then◌else◌}
use Rattle.std.proofs.Common.{refl, ap}
use Rattle.std.proofs.lemmas.Bool.{and_parts}
use Rattle.f_tree.specs.declared.names.Options.{Options}
use Rattle.f_tree.specs.declared.refusals.Fail.{Fail}
use Rattle.f_tree.specs.declared.refusals.Fail.TheVariants as fail
use Rattle.f_tree.specs.declared.refusals.Refusal.{Refusal}
use Rattle.f_tree.specs.declared.units.File.{File}
use Rattle.f_tree.specs.declared.units.Unit.{Unit as GivenUnit}
use Rattle.c_tree.specs.declared.file.CFile.{CFile}
use Rattle.c_tree.specs.declared.statement.CStmt.{CStmt}
use Rattle.set_judge.specs.declaration_rows.GlobalRows.{all_units}
use Rattle.set_judge.specs.declaration_rows.Verdicts.{first_of}
use Rattle.source_reader.specs.unit_file.UnitFile.{WrittenUnit}
use Rattle.source_reader.specs.unit_sites.UnitSites.{UnitsOfFile, files_of as c_files}
use Rattle.source_reader.specs.unit_translation.UnitContents.{LoweredUnit, constants_passed, inventory_of}
use Rattle.source_reader.specs.unit_translation.UnitBodies.{all_lowered, written_before}
use Rattle.source_reader.specs.named_units.NamedUnits.{named_body_of, named_from, named_file_of, named_files_from, named_files}
use Rattle.source_reader.specs.translated_files.TranslatedFiles.{lowered_files, has_units, each_has_units, made_files, files_of, form_row, row_unless, rows_of_lowering, rows_of_bodies, rows_of_files, rows_behind, units_not_translated, row_of_none, files_without_units, files_not_translated}
use Rattle.translator.specs.TranslatedFiles.{AreTranslations}
use Rattle.source_translator.specs.TranslatedSource.{AreTranslated}

-- A FUNCTION that is made has no row
body_made : (all : List LoweredUnit) (u : LoweredUnit) (given : GivenUnit) (body : Option (List CStmt)) (behind : Option (List WrittenUnit)) (ws : List WrittenUnit) (more : List Refusal) →
    ((later : List WrittenUnit) → behind ≡ Some later → more ≡ []) → written_before (inventory_of all u) body behind ≡ Some ws → row_unless body (form_row given given.statements) ++ more ≡ []
unfolding written_before row_unless
body_made all u given None behind ws more later is = absurd (cc)
body_made all u given (Some body) None ws more later is = absurd (cc)
body_made all u given (Some body) (Some others) ws more later is = later others refl

bodies_made : (constants : List ℤ) (all ls : List LoweredUnit) (givens : List GivenUnit) (ws : List WrittenUnit) → named_from constants all ls ≡ Some ws → rows_of_bodies constants all ls givens ≡ []
unfolding named_from rows_of_bodies
bodies_made constants all [] givens ws is = refl
bodies_made constants all (u ∷ ls) [] ws is = refl
bodies_made constants all (u ∷ ls) (given ∷ givens) ws is =
    body_made all u given (named_body_of constants all u) (named_from constants all ls) ws (rows_of_bodies constants all ls givens) (λ later its. bodies_made constants all ls givens later its) is

file_made : (all us : List LoweredUnit) (givens : List GivenUnit) (found : Option (List WrittenUnit)) (f : UnitsOfFile) → named_from (constants_passed us) all us ≡ found →
    option_map (λ (ws : List WrittenUnit). record { constants = constants_passed us; units = ws }) found ≡ Some f → rows_of_bodies (constants_passed us) all us givens ≡ []
file_made all us givens None f its is = absurd (cc)
file_made all us givens (Some ws) f its is = bodies_made (constants_passed us) all us givens ws its

both_made : (f : Option UnitsOfFile) (fs : Option (List UnitsOfFile)) (all : List UnitsOfFile) (one others : List Refusal) → ((g : UnitsOfFile) → f ≡ Some g → one ≡ []) → ((gs : List UnitsOfFile) → fs ≡ Some gs → others ≡ []) →
    option_and_then (λ g. option_map (λ gs. g ∷ gs) fs) f ≡ Some all → one ++ others ≡ []
both_made None fs all one others first later is = absurd (cc)
both_made (Some g) None all one others first later is = absurd (cc)
both_made (Some g) (Some gs) all one others first later is = (λ i. first g refl i ++ later gs refl i)

files_made : (all : List LoweredUnit) (lfs : List (List LoweredUnit)) (trees : List File) (fs : List UnitsOfFile) → named_files_from all lfs ≡ Some fs → rows_of_files all lfs trees ≡ []
unfolding named_files_from rows_of_files named_file_of
files_made all [] trees fs is = refl
files_made all (us ∷ lfs) [] fs is = refl
files_made all (us ∷ lfs) (tree ∷ trees) fs is =
    both_made (named_file_of all us) (named_files_from all lfs) fs (rows_of_bodies (constants_passed us) all us tree.units) (rows_of_files all lfs trees)
    (λ f its. file_made all us tree.units (named_from (constants_passed us) all us) f refl its) (λ later its. files_made all lfs trees later its) is

rows_of_made : (found : Option (List (List LoweredUnit))) (rows : List Refusal) (trees : List File) (fs : List UnitsOfFile) → option_and_then named_files found ≡ Some fs → rows_behind found rows trees ≡ []
unfolding rows_behind named_files
rows_of_made None rows trees fs is = absurd (cc)
rows_of_made (Some lfs) rows trees fs is = files_made (all_lowered lfs) lfs trees fs is

-- EACH FILE has a unit
none_without : (k : ℕ) (trees : List File) → each_has_units trees ≡ true → files_without_units k trees ≡ []
unfolding files_without_units each_has_units has_units row_of_none
none_without k [] has = refl
none_without k (tree ∷ trees) has =
    let both = and_parts (has_units tree.units) (each_has_units trees) has in (λ i. one tree.units both.0 i ++ none_without (suc k) trees both.1 i)
  where
    one : (us : List GivenUnit) → has_units us ≡ true → row_of_none k us ≡ []
    one [] there = absurd (cc)
    one (u ∷ us) there = refl

-- THE SET has no row
made_if : (b : Bool) (x : Option (List UnitsOfFile)) (fs : List UnitsOfFile) → (if b then x else None) ≡ Some fs → (b ≡ true) × (x ≡ Some fs)
made_if true x fs is = (refl, is)
made_if false x fs is = absurd (cc)

source_of : (found : Option (List UnitsOfFile)) (files : List CFile) → option_map c_files found ≡ Some files → (fs : List UnitsOfFile) × (found ≡ Some fs)
source_of None files is = absurd (cc)
source_of (Some fs) files is = (fs, refl)

pub without_row : (options : Options) (trees : List File) (files : List CFile) → files_of options trees ≡ Some files → files_not_translated options trees ≡ []
unfolding files_of made_files files_not_translated units_not_translated
without_row options trees files is =
    let source = source_of (made_files options trees) files is in
    let both = made_if (each_has_units trees) (option_and_then named_files (lowered_files options (all_units trees) 0 trees)) source.0 source.1 in
    (λ i. none_without 0 trees both.0 i
    ++ rows_of_made (lowered_files options (all_units trees) 0 trees) (rows_of_lowering options (all_units trees) 0 (all_units trees)) trees source.0 both.1 i)

-- THE ANSWER
pub translations_are_translated : (options : Options) (trees : List File) (answer : Result (List CFile) Fail) → AreTranslations options trees answer → AreTranslated options trees answer
unfolding first_of
translations_are_translated options trees (Ok files) is = (ap first_of (without_row options trees files is), is)
translations_are_translated options trees (Err (fail.Refused r)) is = is
translations_are_translated options trees (Err fail.NoMemory) is = is
