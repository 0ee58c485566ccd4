-- That the translation of each FORTRAN file of which all forms are translated is faithful to it. ANSI X3.9-1978, sections 2.4 and 14.
use Rattle.std.specs.Prelude.{◌≡◌, ℕ, List, [], ◌∷◌, Option, Some, option_map}
use Rattle.translated_forms.specs.f_tree.declared.names.Options.{Options}
use Rattle.translated_forms.specs.f_tree.declared.refusals.Refusal.{Refusal}
use Rattle.translated_forms.specs.f_tree.declared.units.File.{File}
use Rattle.translated_forms.specs.c_tree.declared.file.CFile.{CFile}
use Rattle.named_main_laws.specs.c_text.Printed.{printed}
use Rattle.translated_forms.specs.declaration_rows.SetRows.{Faults}
use Rattle.translated_forms.specs.faithful.Faithful.{Faithful}
use Rattle.translated_forms.specs.TranslatedForms.{file_of, not_translated}

-- the text of the C file of a FORTRAN file
unfoldable pub translation_of : Options → File → Option (List ℕ)
translation_of options tree = option_map printed (file_of options tree)

-- LAWS
-- a file that breaks no row of declarations, and whose forms are all translated, has a translation
pub record HasFile (options : Options) (tree : File) : Type 0 where
  pub file : CFile
  pub is : file_of options tree ≡ Some file

abbrev pub EachTranslatedFileHasOne : Type 0
EachTranslatedFileHasOne = (options : Options) (tree : File) → not_translated options tree ≡ [] → HasFile options tree

-- and that is faithful to it
abbrev pub EachTranslationIsFaithful : Type 0
EachTranslationIsFaithful = (options : Options) (tree : File) (text : List ℕ) → ((r : Refusal) → Faults options (record { files = tree ∷ [] }) r → ⊥) →
    translation_of options tree ≡ Some text → Faithful options (tree ∷ []) (text ∷ [])
