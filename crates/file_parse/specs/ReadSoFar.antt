-- What the readers keep while they go over statements.
use Rattle.std.specs.Prelude.{◌≡◌, ◌<◌, ℕ, suc, Bool, true, false, List, [], ◌∷◌, Result, Ok, Err, if◌then◌else◌}
use Rattle.f_tree.specs.declared.refusals.Fail.{Fail}
use Rattle.f_tree.specs.declared.refusals.Fail.TheVariants as fail
use Rattle.f_tree.specs.declared.refusals.Refusal.{Refusal}
use Rattle.f_tree.specs.declared.statements.Stmt.{Stmt}
use Rattle.f_tree.specs.declared.units.Unit.{Unit as ProgramUnit}
use Rattle.fortran_text.specs.CharactersOfText.{is_end}
use Rattle.fortran_text.specs.declared.source.Statement.{Statement}
use Rattle.fortran_grammar.specs.UnitsOfFile.{SpellsStatements, SpellsUnits, statements_of_units, unit_of}
use Rattle.fortran_grammar.specs.SyntaxRows.{RowOfStatement, first_behind, StandsAt}
use Rattle.statement_reader.specs.ReadStatements.{HasNoRow}

-- A refusal at the first statement that has a row.
pub data StopsAt (whole : Bool) : Bool → List Statement → Refusal → Type 0 where
  stops_here : (first : Bool) (source : Statement) (sources : List Statement) (r : Refusal) → r.file ≡ source.file → r.card ≡ source.card
      → RowOfStatement first source r.kind → StopsAt whole first (source ∷ sources) r
  stops_behind : (first : Bool) (source : Statement) (sources : List Statement) (r : Refusal) → HasNoRow first source
      → StopsAt whole (first_behind whole source) sources r → StopsAt whole first (source ∷ sources) r

-- No statement has a row.
abbrev pub AreClear : Bool → Bool → List Statement → Type 0
AreClear whole first sources = (begins : Bool) (source : Statement) → StandsAt whole first sources begins source → HasNoRow begins source

-- The trees of statements of which the first alone may begin a unit, or the first that has a row.
abbrev pub AreTrees : Bool → List Statement → Result (List Stmt) Fail → Type 0
AreTrees first sources (Ok trees) = SpellsStatements first sources trees × AreClear false first sources
AreTrees first sources (Err (fail.Refused r)) = StopsAt false first sources r
AreTrees first sources (Err fail.NoMemory) = Unit {0}

-- The statements of a unit spell it.
pub record SpellsUnit (sources : List Statement) (u : ProgramUnit) : Type 0 where
  pub trees : List Stmt
  pub spells : SpellsStatements true sources trees
  pub headed : unit_of trees ≡ u ∷ []
  pub clear : AreClear false true sources

-- The unit of its statements, or the first of them that has a row.
abbrev pub IsUnit : List Statement → Result ProgramUnit Fail → Type 0
IsUnit sources (Ok u) = SpellsUnit sources u
IsUnit sources (Err (fail.Refused r)) = StopsAt false true sources r
IsUnit sources (Err fail.NoMemory) = Unit {0}

-- The units of a file, or the first of its statements that has a row.
abbrev pub AreUnits : List Statement → Result (List ProgramUnit) Fail → Type 0
AreUnits sources (Ok us) = SpellsUnits (statements_of_units sources) us × AreClear true true sources
AreUnits sources (Err (fail.Refused r)) = StopsAt true true sources r
AreUnits sources (Err fail.NoMemory) = Unit {0}

-- How many statements the first unit has: those up to and with END, or all.
unfoldable pub unit_length : List Statement → ℕ
unit_length [] = 0
unit_length (source ∷ sources) = if is_end source.text then 1 else suc (unit_length sources)

-- The statements of one file, each on a card behind those of the statements before it.
pub data AreInOrder (file : ℕ) : ℕ → List Statement → Type 0 where
  no_more : (before : ℕ) → AreInOrder file before []
  one_more : (before : ℕ) (source : Statement) (sources : List Statement) → source.file ≡ file → before < source.card
      → AreInOrder file source.card sources → AreInOrder file before (source ∷ sources)
