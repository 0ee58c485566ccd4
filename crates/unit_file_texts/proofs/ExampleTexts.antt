-- The C files of the example of units that call each other are well formed, and their printed texts spell them.
use Rattle.std.specs.Prelude.{◌≡◌, ℕ, [], Some, slice_get}
use Rattle.std.proofs.Common.{refl, arith}
use Rattle.c_spelling.specs.c_tree.CText.{CText, WellFormed}
use Rattle.c_spelling.specs.c_text.Printed.{printed}
use Rattle.c_spelling.specs.c_text.Opened.{printed_opened}
use Rattle.unit_programs.specs.unit_sites.UnitSites.{file_for, inventories}
use Rattle.unit_programs.specs.unit_file.UnitNames.{constant_names, called_names, own_names}
use Rattle.unit_programs.specs.TranslatedUnits.{Rendering, written_of}
use Rattle.unit_programs.specs.Example.{its_constants, main_inventory, function_inventory, subroutine_inventory, its_files, its_renderings, example_opened}
use Rattle.unit_programs.proofs.Told.{distinct_by, apart_by, each_at}
use Rattle.unit_programs.proofs.ExampleLaws.{example_is_translated}
use Rattle.unit_file_texts.specs.ExampleText.{main_file, procedures_file, main_part, procedures_part, main_text, procedures_text}
use Rattle.unit_file_texts.specs.WellFormedUnits.{IsSpellable, AreSpellable, AreOfOneFile}
use Rattle.unit_file_texts.proofs.UnitTexts.{unit_files_are_well_formed}
use Rattle.unit_file_texts.proofs.UnitStrings.{unit_files_are_spelled}

main_functions : (j : ℕ) (r : Rendering) → slice_get main_part j ≡ Some r → IsSpellable r
unfolding example_opened
main_functions =
    each_at (λ j r. IsSpellable r) main_part
    (record { names = refl; labels = λ n name h. absurd (cc); calls = distinct_by (called_names main_inventory) refl; elements = refl; outputs = refl }, tt)

procedure_functions : (j : ℕ) (r : Rendering) → slice_get procedures_part j ≡ Some r → IsSpellable r
unfolding example_opened
procedure_functions =
    each_at (λ j r. IsSpellable r) procedures_part (
      record { names = refl; labels = λ n name h. absurd (cc); calls = distinct_by (called_names function_inventory) refl; elements = refl; outputs = refl },
      (record { names = refl; labels = λ n name h. absurd (cc); calls = distinct_by (called_names subroutine_inventory) refl; elements = refl; outputs = refl }, tt),
    )

pub main_is_spellable : AreSpellable its_constants main_part
unfolding example_opened
main_is_spellable = record { functions = main_functions; names = refl; apart = apart_by (constant_names its_constants) (own_names (inventories (written_of main_part))) refl }

pub procedures_are_spellable : AreSpellable [] procedures_part
unfolding example_opened
procedures_are_spellable = record { functions = procedure_functions; names = refl; apart = λ i name at. absurd (cc) }

-- the renderings of each file
main_constants : (i : ℕ) (r : Rendering) → slice_get main_part i ≡ Some r → r.site.constants ≡ its_constants
main_constants = each_at (λ i r. r.site.constants ≡ its_constants) main_part (refl, tt)

procedure_constants : (i : ℕ) (r : Rendering) → slice_get procedures_part i ≡ Some r → r.site.constants ≡ []
procedure_constants = each_at (λ i r. r.site.constants ≡ []) procedures_part (refl, (refl, tt))

of_main : AreOfOneFile its_renderings main_file main_part
of_main = record { before = []; behind = procedures_part; whole = refl; some = omega arith; written = refl; constants = main_constants }

of_procedures : AreOfOneFile its_renderings procedures_file procedures_part
of_procedures = record { before = main_part; behind = []; whole = refl; some = omega arith; written = refl; constants = procedure_constants }

pub main_is_formed : WellFormed (file_for main_file)
main_is_formed = unit_files_are_well_formed its_files its_renderings example_is_translated main_file main_part of_main main_is_spellable

pub procedures_are_formed : WellFormed (file_for procedures_file)
procedures_are_formed = unit_files_are_well_formed its_files its_renderings example_is_translated procedures_file procedures_part of_procedures procedures_are_spellable

pub main_is_spelled : CText (printed (file_for main_file)) (file_for main_file)
main_is_spelled = unit_files_are_spelled its_files its_renderings example_is_translated main_file main_part of_main main_is_spellable

pub procedures_are_spelled : CText (printed (file_for procedures_file)) (file_for procedures_file)
procedures_are_spelled = unit_files_are_spelled its_files its_renderings example_is_translated procedures_file procedures_part of_procedures procedures_are_spellable

pub main_is_printed : printed (file_for main_file) ≡ main_text
unfolding example_opened printed_opened
main_is_printed = refl

pub procedures_are_printed : printed (file_for procedures_file) ≡ procedures_text
unfolding example_opened printed_opened
procedures_are_printed = refl
