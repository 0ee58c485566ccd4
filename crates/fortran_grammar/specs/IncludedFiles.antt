-- What INCLUDE stands for: the statements of the file that it names, in which no INCLUDE is replaced. MIL-STD-1753.
use Rattle.std.specs.Prelude.{◌≡◌, ℕ, Bool, true, false, List, [], ◌∷◌, ◌++◌, bytes_eq, Option, Some, None, if◌then◌else◌}
use Rattle.fortran_lexemes.specs.f_tree.declared.statements.Body.{Body}
use Rattle.fortran_lexemes.specs.f_tree.declared.statements.Body.TheOpen as body
use Rattle.fortran_lexemes.specs.f_tree.declared.statements.UnitKind.TheVariants as unit_kind
use Rattle.fortran_lexemes.specs.f_tree.declared.statements.Stmt.{Stmt}
use Rattle.fortran_lexemes.specs.f_tree.declared.units.Unit.{Unit as ProgramUnit}
use Rattle.fortran_lexemes.specs.f_tree.declared.units.File.{File}
use Rattle.fortran_lexemes.specs.f_tree.declared.units.Part.{Part}
use Rattle.fortran_lexemes.specs.f_tree.Folds.{layer_of}
use Rattle.fortran_lexemes.specs.fortran_text.declared.source.Statement.{Statement}
use Rattle.fortran_grammar.specs.UnitsOfFile.{SpellsStatements, unit_of}

-- The statements of an included file spell a part: none of them begins a unit by its type.
pub record SpellsPart (name : List ℕ) (sources : List Statement) (part : Part) : Type 0 where
  pub named : part.name ≡ name
  pub statements : SpellsStatements false sources part.statements

-- The name of the file that a statement includes.
unfoldable pub included_by : Body → Option (List ℕ)
included_by b = elim (layer_of b) [ body.Include name ↦ Some name | _ ↦ None ]

unfoldable pub part_named : List ℕ → List Part → List Stmt
part_named name [] = []
part_named name (part ∷ parts) = if bytes_eq part.name name then part.statements else part_named name parts

unfoldable pub statements_for : List Part → Stmt → Option (List ℕ) → List Stmt
statements_for parts s None = s ∷ []
statements_for parts s (Some name) = part_named name parts

-- Statements with those of the included files in their places.
unfoldable pub with_parts : List Part → List Stmt → List Stmt
with_parts parts [] = []
with_parts parts (s ∷ ss) = statements_for parts s (included_by s.body) ++ with_parts parts ss

-- A unit without a heading: a main program without a name.
unfoldable pub is_headed : ProgramUnit → Bool
is_headed u = elim u.kind [
  | unit_kind.Main ↦ elim u.name [ None ↦ false | Some name ↦ true ]
  | _ ↦ true
]

-- A unit with the included statements in their places: a heading that begins it so says what it is.
unfoldable pub unit_with_parts : List Part → ProgramUnit → List ProgramUnit
unit_with_parts parts u =
    if is_headed u then record u { statements = with_parts parts u.statements } ∷ [] else unit_of (with_parts parts u.statements)

unfoldable pub units_with_parts : List Part → List ProgramUnit → List ProgramUnit
units_with_parts parts [] = []
units_with_parts parts (u ∷ us) = unit_with_parts parts u ++ units_with_parts parts us

unfoldable pub file_with_parts : List Part → File → File
file_with_parts parts file = record { units = units_with_parts parts file.units }

-- The files that a file includes, by the order in which they are mentioned, each as often as it is.
unfoldable pub mentioned_in : List Stmt → List (List ℕ)
mentioned_in [] = []
mentioned_in (s ∷ ss) = elim (included_by s.body) [ None ↦ mentioned_in ss | Some name ↦ name ∷ mentioned_in ss ]

unfoldable pub mentions_of : List ProgramUnit → List (List ℕ)
mentions_of [] = []
mentions_of (u ∷ us) = mentioned_in u.statements ++ mentions_of us
