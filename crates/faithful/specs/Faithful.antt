-- When C texts are faithful to the trees of FORTRAN files: what the contract of the top call says of every translation.
use Rattle.std.specs.Prelude.{◌≡◌, ℕ, ◌*◌, ◌≤◌, nat_eq, Bool, true, List, [], ◌∷◌, Option, Some, None}
use Rattle.c_tree.specs.run_state.Units.{Units}
use Rattle.f_tree.specs.declared.names.Options.{Options}
use Rattle.f_tree.specs.declared.units.File.{File}
use Rattle.f_tree.specs.Values.{NoMeaning, Gives}
use Rattle.f_tree.specs.Store.{Store}
use Rattle.f_tree.specs.Facts.{ProgramUnit}
use Rattle.f_tree.specs.Setting.{Setting, IsSetting}
use Rattle.f_tree.specs.Images.{image_store}
use Rattle.f_tree.specs.Meaning.{units_in, ftn, act_of, Closed}
use Rattle.c_tree.specs.declared.file.CFile.{CFile}
use Rattle.c_tree.specs.Linking.{first_broken_rule}
use Rattle.c_tree.specs.Meaning.{meaning, step_factor}
use Rattle.c_tree.specs.CText.{CText}
use Rattle.faithful.specs.Signatures.{EachHasSignatures}
use Rattle.faithful.specs.SameState.{Same}
use Rattle.faithful.specs.UnitsAtStart.{IsUnits}

-- one tree for each text, which the text spells
pub data SpellAll : List (List ℕ) → List CFile → Type 0 where
  none : SpellAll [] []
  more : (bytes : List ℕ) (file : CFile) (texts : List (List ℕ)) (files : List CFile) → CText bytes file → SpellAll texts files
      → SpellAll (bytes ∷ texts) (file ∷ files)

-- the texts break none of the first three link rules; the fourth, on the bytes of a program, is no matter of a translation
unfoldable pub is_linked : Option ℕ → Bool
is_linked None = true
is_linked (Some rule) = nat_eq rule 4

-- the run of the units and the run of the texts, from the same external units on: the FORTRAN run never comes to a step
-- without meaning, and where it is defined for n steps the C run is the same after some m, n at the least and the
-- step factor times n at the most
pub record SameRuns (program : List ProgramUnit) (setting : Setting) (texts : List CFile) (units : Units) (n : ℕ) : Type 0 where
  pub has_meaning : act_of (ftn setting program units n) ≡ Some NoMeaning → ⊥
  pub same : act_of (ftn setting program units n) ≡ None
      → (m : ℕ) × (n ≤ m) × (m ≤ step_factor texts * n) × Same program setting texts (ftn setting program units n) (meaning texts units m)

-- the texts of a closed set link, and over every setting each of its runs is the same
pub record SamePrograms (program : List ProgramUnit) (texts : List CFile) : Type 0 where
  pub linked : is_linked (first_broken_rule texts) ≡ true
  pub runs : (setting : Setting) → IsSetting program setting → (units : Units) → IsUnits units → (n : ℕ) → SameRuns program setting texts units n

-- each text spells a C tree that has exactly the functions and external objects of the file; the units have a setting, in which all that
-- DATA statements say is defined; and where the set is closed, the programs are the same
pub record Faithful (options : Options) (trees : List File) (texts : List (List ℕ)) : Type 0 where
  pub c_trees : List CFile
  pub written : SpellAll texts c_trees
  pub signatures : EachHasSignatures options trees c_trees
  pub setting : Setting
  pub is_setting : IsSetting (units_in options trees) setting
  pub imaged : (homes : Setting) → IsSetting (units_in options trees) homes
      → (store : Store) × (image_store homes (units_in options trees) ≡ Gives store)
  pub closed : Closed (units_in options trees) → SamePrograms (units_in options trees) c_trees
