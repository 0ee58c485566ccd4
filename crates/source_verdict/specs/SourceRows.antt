-- When a source is accepted for a purpose, and its first refusal: by phase, then file, then card, then number. A later phase is read only where no
-- earlier one refuses. The rows of storage are not judged here yet: forms that have them are not translated, and are refused as such where the source
-- is to be translated. ANSI X3.9-1978, sections 2 to 18; MIL-STD-1753.
use Rattle.std.specs.Prelude.{◌≡◌, ℕ, ◌<◌}
use Rattle.refusal_order.specs.f_tree.declared.names.Options.{Options}
use Rattle.refusal_order.specs.f_tree.declared.refusals.Refusal.{Refusal}
use Rattle.refusal_order.specs.f_tree.declared.units.File.{File}
use Rattle.refusal_order.specs.f_tree.declared.units.Unit.{Unit as ProgramUnit}
use Rattle.refusal_order.specs.f_tree.declared.units.FileSet.{FileSet}
use Rattle.refusal_order.specs.f_tree.RefusalRows.{number_of, IsNotAfter}
use Rattle.refusal_order.specs.f_tree.Setting.{IsIn}
use Rattle.grammar_laws.specs.fortran_grammar.SyntaxRows.{unit_deep_rows}
use Rattle.refusal_order.specs.declaration_rows.GlobalRows.{all_units, units_global_rows}
use Rattle.refusal_order.specs.declaration_rows.SetRows.{set_faults}
use Rattle.source_acceptance.specs.SourceFiles.{Source, IsWhole, SpellsSource}
use Rattle.source_acceptance.specs.TextRows.{CardFault, SyntaxFault}
use Rattle.translated_files.specs.TranslatedFiles.{files_not_translated}

-- what a source is judged for: to be translated; or that its calls be checked, whatever forms of the language it has
pub data Purpose : Type 0 where
  Translation : Purpose
  Checking : Purpose

-- the phases, in their order
pub data Phase : Type 0 where
  Cards : Phase
  Syntax : Phase
  -- more than 64 open blocks, with INCLUDE replaced
  Nesting : Phase
  -- the rows of the declarations of units
  Declarations : Phase
  -- F99, forms that are not translated yet: judged for a translation alone
  Forms : Phase
  -- F51 and F52, global names and main programs of the set
  Sharing : Phase

unfoldable pub place_of : Phase → ℕ
place_of Cards = 0
place_of Syntax = 1
place_of Nesting = 2
place_of Declarations = 3
place_of Forms = 4
place_of Sharing = 5

-- a row of a phase that is judged for a purpose holds in the source, at a file and a card
pub data FaultFor (purpose : Purpose) (options : Options) (source : Source) : Phase → Refusal → Type 0 where
  of_cards : (r : Refusal) → CardFault options source r → FaultFor purpose options source Cards r
  of_syntax : (r : Refusal) → SyntaxFault source r → FaultFor purpose options source Syntax r
  of_nests : (set : FileSet) (file : File) (unit : ProgramUnit) (r : Refusal) → SpellsSource source set → IsIn file set.files → IsIn unit file.units
      → IsIn r (unit_deep_rows unit) → FaultFor purpose options source Nesting r
  of_declarations : (set : FileSet) (r : Refusal) → SpellsSource source set → IsIn r (set_faults options set)
      → FaultFor purpose options source Declarations r
  of_forms : purpose ≡ Translation → (set : FileSet) (r : Refusal) → SpellsSource source set → IsIn r (files_not_translated options set.files)
      → FaultFor purpose options source Forms r
  of_sharing : (set : FileSet) (r : Refusal) → SpellsSource source set → IsIn r (units_global_rows (all_units set.files))
      → FaultFor purpose options source Sharing r

-- no row of an earlier phase holds
abbrev pub IsReadFor : Purpose → Options → Source → Phase → Type 0
IsReadFor purpose options source phase =
    (earlier : Phase) (q : Refusal) → place_of earlier < place_of phase → FaultFor purpose options source earlier q → ⊥

-- the first refusal of a source
pub record IsFirstRefusalFor (purpose : Purpose) (options : Options) (source : Source) (r : Refusal) : Type 0 where
  pub phase : Phase
  pub read : IsReadFor purpose options source phase
  pub holds : FaultFor purpose options source phase r
  pub least : (q : Refusal) → FaultFor purpose options source phase q → IsNotAfter r q

-- the source is accepted with the trees that it spells: each file that it includes is there, and no row of any phase holds
pub record IsAcceptedFor (purpose : Purpose) (options : Options) (source : Source) (set : FileSet) : Type 0 where
  pub whole : IsWhole source
  pub spelled : SpellsSource source set
  pub sound : (phase : Phase) (r : Refusal) → FaultFor purpose options source phase r → ⊥

-- the same for a translation
abbrev pub Fault : Options → Source → Phase → Refusal → Type 0
Fault options source phase r = FaultFor Translation options source phase r

abbrev pub IsFirstRefusal : Options → Source → Refusal → Type 0
IsFirstRefusal options source r = IsFirstRefusalFor Translation options source r

abbrev pub IsAccepted : Options → Source → FileSet → Type 0
IsAccepted options source set = IsAcceptedFor Translation options source set

-- LAWS
abbrev pub AcceptedIsNotRefused : Type 0
AcceptedIsNotRefused = (purpose : Purpose) (options : Options) (source : Source) (set : FileSet) (r : Refusal) →
    IsAcceptedFor purpose options source set → IsFirstRefusalFor purpose options source r → ⊥

abbrev pub OneSetIsAccepted : Type 0
OneSetIsAccepted = (purpose : Purpose) (options : Options) (source : Source) (one other : FileSet) → IsAcceptedFor purpose options source one →
    IsAcceptedFor purpose options source other → one ≡ other

abbrev pub OneFirstRefusal : Type 0
OneFirstRefusal = (purpose : Purpose) (options : Options) (source : Source) (r q : Refusal) → IsFirstRefusalFor purpose options source r →
    IsFirstRefusalFor purpose options source q → (r.file ≡ q.file) × (r.card ≡ q.card) × (number_of r.kind ≡ number_of q.kind)

-- what is accepted for a translation is accepted for checking
abbrev pub TranslatedIsChecked : Type 0
TranslatedIsChecked = (options : Options) (source : Source) (set : FileSet) → IsAcceptedFor Translation options source set →
    IsAcceptedFor Checking options source set
