-- Which trees the statements of a file spell: each statement one, and units up to each END. ANSI X3.9-1978, sections 2.4, 3.3 to 3.5 and 14
-- to 16; MIL-STD-1753: INCLUDE.
use Rattle.std.specs.Prelude.{◌≡◌, ℕ, Bool, true, false, ◌&&◌, ◌==◌, not, List, [], ◌∷◌, length, Option, Some, None, is_some, if◌then◌else◌}
use Rattle.fortran_lexemes.specs.f_tree.declared.statements.Body.{Body}
use Rattle.fortran_lexemes.specs.f_tree.declared.statements.Body.TheOpen as body
use Rattle.fortran_lexemes.specs.f_tree.declared.statements.DummyArgument.{DummyArgument}
use Rattle.fortran_lexemes.specs.f_tree.declared.statements.UnitKind.{UnitKind}
use Rattle.fortran_lexemes.specs.f_tree.declared.statements.UnitKind.TheVariants as unit_kind
use Rattle.fortran_lexemes.specs.f_tree.declared.statements.Stmt.{Stmt}
use Rattle.fortran_lexemes.specs.f_tree.declared.units.Unit.{Unit as ProgramUnit}
use Rattle.fortran_lexemes.specs.f_tree.declared.units.File.{File}
use Rattle.fortran_lexemes.specs.f_tree.Folds.{layer_of}
use Rattle.fortran_lexemes.specs.fortran_text.CharactersOfText.{characters, is_end}
use Rattle.fortran_lexemes.specs.fortran_text.declared.source.Statement.{Statement}
use Rattle.fortran_lexemes.specs.KindsOfStatements.{kind_of_statement}
use Rattle.fortran_lexemes.specs.Lexemes.{Lexemes}
use Rattle.fortran_lexemes.specs.PiecesOfStatements.{pieces}
use Rattle.fortran_lexemes.specs.declared.kinds.StmtKind.{StmtKind}
use Rattle.fortran_lexemes.specs.declared.kinds.StmtKind.TheVariants as kind
use Rattle.fortran_grammar.specs.StatementSpelling.{SpellsBody}

abbrev pub is_labelled : Statement → Bool
is_labelled source = is_some source.label

-- The pieces of a statement of a kind.
unfoldable pub pieces_of : StmtKind → Statement → Lexemes
pieces_of k source = pieces k (characters (is_labelled source) source.text)

-- INCLUDE has no label, and stands on one card.
unfoldable pub may_stand : StmtKind → Statement → Bool
may_stand kind.Include source = not (is_labelled source) && length source.text == 66
may_stand k source = true

-- The text of a statement of a kind spells what it says.
pub record SpellsText (k : StmtKind) (source : Statement) (b : Body) : Type 0 where
  pub stands : may_stand k source ≡ true
  pub spells : SpellsBody (pieces_of k source) b

-- A statement spells a tree, with its label, its file and its card. It may be the first of a unit in a file that is not included.
pub record SpellsStatement (first : Bool) (source : Statement) (tree : Stmt) : Type 0 where
  pub kind : StmtKind
  pub of_kind : kind_of_statement first (is_labelled source) source.text ≡ Some kind
  pub says : SpellsText kind source tree.body
  pub label : tree.label ≡ source.label
  pub file : tree.file ≡ source.file
  pub card : tree.card ≡ source.card

-- Statements, of which the first may be the first of a unit.
pub data SpellsStatements : Bool → List Statement → List Stmt → Type 0 where
  no_statements : (first : Bool) → SpellsStatements first [] []
  one_statement : (first : Bool) (source : Statement) (tree : Stmt) (sources : List Statement) (trees : List Stmt)
      → SpellsStatement first source tree → SpellsStatements false sources trees → SpellsStatements first (source ∷ sources) (tree ∷ trees)

-- A statement before those of units: it begins the first of them.
unfoldable pub before_units : Statement → List (List Statement) → List (List Statement)
before_units source [] = (source ∷ []) ∷ []
before_units source (unit ∷ more) = (source ∷ unit) ∷ more

-- The statements of each unit: those up to and with an END.
unfoldable pub statements_of_units : List Statement → List (List Statement)
statements_of_units [] = []
statements_of_units (source ∷ sources) =
    if is_end source.text then (source ∷ []) ∷ statements_of_units sources else before_units source (statements_of_units sources)

-- What a PROGRAM, SUBROUTINE, FUNCTION or BLOCK DATA statement says of its unit.
pub record Heading : Type 0 where
  pub kind : UnitKind
  pub name : Option (List ℕ)
  pub dummies : List DummyArgument

unfoldable pub heading_of : Body → Option Heading
heading_of b = elim (layer_of b) [
  | body.Header kind name dummies ↦ Some (record { kind = kind; name = name; dummies = dummies })
  | _ ↦ None
]

-- A unit that begins with a statement: the statement that heads it is not among its statements. Without one it is a main program.
unfoldable pub headed : Option Heading → Stmt → List Stmt → ProgramUnit
headed None s more =
    record { file = s.file; card = s.card; kind = unit_kind.Main; name = None; dummies = []; statements = s ∷ more }
headed (Some h) s more =
    record { file = s.file; card = s.card; kind = h.kind; name = h.name; dummies = h.dummies; statements = more }

unfoldable pub unit_of : List Stmt → List ProgramUnit
unit_of [] = []
unit_of (s ∷ more) = headed (heading_of s.body) s more ∷ []

-- The statements of units spell units.
pub data SpellsUnits : List (List Statement) → List ProgramUnit → Type 0 where
  no_units : SpellsUnits [] []
  one_unit : (sources : List Statement) (trees : List Stmt) (u : ProgramUnit) (more : List (List Statement)) (units : List ProgramUnit)
      → SpellsStatements true sources trees → unit_of trees ≡ u ∷ [] → SpellsUnits more units → SpellsUnits (sources ∷ more) (u ∷ units)

-- The statements of a file spell its tree, in which INCLUDE statements stand as they are written.
abbrev pub SpellsFile : List Statement → File → Type 0
SpellsFile sources tree = SpellsUnits (statements_of_units sources) tree.units
