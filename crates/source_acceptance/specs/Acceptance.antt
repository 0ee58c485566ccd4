-- When a source is accepted, and its first refusal: by phase, then file, then card, then number. A later phase is read only where no earlier one
-- refuses. ANSI X3.9-1978, sections 3 to 18; MIL-STD-1753.
use Rattle.std.specs.Prelude.{ℕ, ◌<◌, List, [], ◌∷◌, ◌++◌}
use Rattle.declaration_rows.specs.f_tree.declared.names.Options.{Options}
use Rattle.declaration_rows.specs.f_tree.declared.refusals.Refusal.{Refusal}
use Rattle.declaration_rows.specs.f_tree.declared.units.Unit.{Unit as ProgramUnit}
use Rattle.declaration_rows.specs.f_tree.declared.units.FileSet.{FileSet}
use Rattle.declaration_rows.specs.f_tree.RefusalRows.{IsNotAfter}
use Rattle.declaration_rows.specs.f_tree.Setting.{IsIn}
use Rattle.fortran_grammar.specs.SyntaxRows.{unit_deep_rows}
use Rattle.declaration_rows.specs.GlobalRows.{all_units}
use Rattle.declaration_rows.specs.SetRows.{set_faults}
use Rattle.declaration_rows.specs.Verdicts.{storage_faults, shared_faults}
use Rattle.source_acceptance.specs.SourceFiles.{Source, IsWhole, SpellsSource}
pub use Rattle.source_acceptance.specs.TextRows.{HasFile, HasIncluded, Counts, EndsOrIncludes, ends, includes, CardFault, of_file, of_included, too_many_included, end_or_include, SyntaxFault}

-- The phases, in their order.
pub data Phase : Type 0 where
  Cards : Phase
  Syntax : Phase
  -- more than 64 open blocks, with INCLUDE replaced
  Nesting : Phase
  Declarations : Phase
  Storage : Phase
  -- what the units of the set share
  Sharing : Phase

unfoldable pub place_of : Phase → ℕ
place_of Cards = 0
place_of Syntax = 1
place_of Nesting = 2
place_of Declarations = 3
place_of Storage = 4
place_of Sharing = 5

unfoldable pub deep_rows_of : List ProgramUnit → List Refusal
deep_rows_of [] = []
deep_rows_of (u ∷ us) = unit_deep_rows u ++ deep_rows_of us

unfoldable pub tree_faults : Phase → Options → FileSet → List Refusal
tree_faults Nesting options set = deep_rows_of (all_units set.files)
tree_faults Declarations options set = set_faults options set
tree_faults Storage options set = storage_faults options set
tree_faults Sharing options set = shared_faults options set
tree_faults phase options set = []

-- A row of a phase holds in a source, at a file and a card.
pub data Fault (options : Options) (source : Source) : Phase → Refusal → Type 0 where
  of_cards : (r : Refusal) → CardFault options source r → Fault options source Cards r
  of_syntax : (r : Refusal) → SyntaxFault source r → Fault options source Syntax r
  of_trees : (phase : Phase) (set : FileSet) (r : Refusal) → SpellsSource source set → IsIn r (tree_faults phase options set) → Fault options source phase r

-- No row of an earlier phase holds.
abbrev pub IsRead : Options → Source → Phase → Type 0
IsRead options source phase = (earlier : Phase) (q : Refusal) → place_of earlier < place_of phase → Fault options source earlier q → ⊥

-- The first refusal of a source.
pub record IsFirstRefusal (options : Options) (source : Source) (r : Refusal) : Type 0 where
  pub phase : Phase
  pub read : IsRead options source phase
  pub holds : Fault options source phase r
  pub least : (q : Refusal) → Fault options source phase q → IsNotAfter r q

-- The source is accepted with the trees that it spells: each file that it includes is there, and no row of any phase holds.
pub record IsAccepted (options : Options) (source : Source) (set : FileSet) : Type 0 where
  pub whole : IsWhole source
  pub spelled : SpellsSource source set
  pub sound : (phase : Phase) (r : Refusal) → Fault options source phase r → ⊥
