-- The example is a main program whose file is well formed.
use Rattle.std.specs.Prelude.{◌≡◌, ℕ, ◌≤◌, true, Some}
use Rattle.std.proofs.Common.{refl}
use Rattle.main_translation_laws.specs.f_tree.Facts.{Member}
use Rattle.main_translation_laws.specs.f_tree.Setting.{IsIn, first_in, later_in}
use Rattle.main_translation_laws.specs.lowered_rows.Examples.{example_opened}
use Rattle.main_translation_laws.specs.c_tree.Tokens.{begins_with, is_letter}
use Rattle.main_translation_laws.specs.c_tree.CText.{WellFormed}
use Rattle.main_translation_laws.specs.main_file.MainFile.{main_file}
use Rattle.main_translation_laws.specs.main_translation.Contents.{count_by, inventory_of}
use Rattle.main_translation_laws.specs.Example.{its_unit, its_text, its_statements}
use Rattle.main_translation_laws.proofs.ExampleHolds.{example_lowered, example_made, example_is_plain, example_is_short}
use Rattle.main_file_texts.specs.WellFormedMains.{IsSpellable}
use Rattle.main_file_texts.proofs.Files.{main_files_are_well_formed}

letters_first : (m : Member) → IsIn m its_unit.stored → begins_with is_letter m.name ≡ true
unfolding example_opened
letters_first _ first_in = refl
letters_first _ (later_in first_in) = refl
letters_first m (later_in (later_in o)) = elim o [ ]

some_element : (m : Member) (n : ℕ) → IsIn m its_unit.stored → count_by (its_unit.attribute m.name).bounds ≡ Some n → 1 ≤ n
unfolding example_opened count_by
some_element _ n first_in is = absurd (cc)
some_element _ n (later_in first_in) is = absurd (cc)
some_element m n (later_in (later_in o)) is = elim o [ ]

pub example_is_spellable : IsSpellable its_unit
example_is_spellable = record { letters = letters_first; elements = some_element }

pub example_is_formed : WellFormed (main_file (inventory_of its_unit its_text) its_statements)
example_is_formed = main_files_are_well_formed its_unit its_text its_statements example_is_plain example_is_spellable example_lowered example_is_short example_made
