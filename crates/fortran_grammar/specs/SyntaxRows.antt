-- The rows of refusals of statements and their nests: F10 to F17. ANSI X3.9-1978, sections 3.3 and 7 to 16. Of one statement the least row
-- is told; F11 holds only where none of F12 to F17 does. More than 64 open DO and IF blocks are judged with INCLUDE replaced.
use Rattle.std.specs.Prelude.{◌≡◌, ℕ, nat_eq, nat_lt, Bool, true, false, ◌&&◌, List, [], ◌∷◌, ◌++◌, length, filter, not, Option, Some, None, if◌then◌else◌}
use Rattle.fortran_lexemes.specs.f_tree.declared.refusals.Kind.{Kind}
use Rattle.fortran_lexemes.specs.f_tree.declared.refusals.Kind.TheVariants.{UnknownStatement, SyntaxError, NestingTooDeep}
use Rattle.fortran_lexemes.specs.f_tree.declared.refusals.Refusal.{Refusal}
use Rattle.fortran_lexemes.specs.f_tree.declared.statements.Body.{Body}
use Rattle.fortran_lexemes.specs.f_tree.declared.statements.Body.TheOpen as body
use Rattle.fortran_lexemes.specs.f_tree.declared.statements.Stmt.{Stmt}
use Rattle.fortran_lexemes.specs.f_tree.declared.units.Unit.{Unit as ProgramUnit}
use Rattle.fortran_lexemes.specs.f_tree.Folds.{layer_of}
use Rattle.fortran_lexemes.specs.fortran_text.CharactersOfText.{is_end}
use Rattle.fortran_lexemes.specs.fortran_text.declared.source.Statement.{Statement}
use Rattle.fortran_lexemes.specs.KindsOfStatements.{kind_of_statement}
use Rattle.fortran_lexemes.specs.LexicalRows.{first_lexical_row}
use Rattle.fortran_lexemes.specs.declared.kinds.StmtKind.{StmtKind}
use Rattle.fortran_grammar.specs.UnitsOfFile.{is_labelled, pieces_of, SpellsText}

-- The row of a statement of a kind: the least of F12 to F17 that its pieces break, else F11 where its text spells nothing.
pub data RowOfKind (k : StmtKind) (source : Statement) (row : Kind) : Type 0 where
  lexical : first_lexical_row k (pieces_of k source) ≡ Some row → RowOfKind k source row
  not_spelled : first_lexical_row k (pieces_of k source) ≡ None → ((b : Body) → SpellsText k source b → ⊥) → row ≡ SyntaxError → RowOfKind k source row

-- The row of a statement, which may be the first of a unit in a file that is not included.
pub data RowOfStatement (first : Bool) (source : Statement) (row : Kind) : Type 0 where
  of_no_kind : kind_of_statement first (is_labelled source) source.text ≡ None → row ≡ UnknownStatement → RowOfStatement first source row
  of_a_kind : (k : StmtKind) → kind_of_statement first (is_labelled source) source.text ≡ Some k → RowOfKind k source row → RowOfStatement first source row

-- What stands behind END begins a unit, in a file that is not included.
unfoldable pub first_behind : Bool → Statement → Bool
first_behind whole source = whole && is_end source.text

-- A statement at a place in a list of statements, with whether it begins a unit: the first of a file that is not included does, and each one
-- behind an END.
pub data StandsAt (whole : Bool) : Bool → List Statement → Bool → Statement → Type 0 where
  at_first : (first : Bool) (source : Statement) (sources : List Statement) → StandsAt whole first (source ∷ sources) first source
  behind : (first begins : Bool) (source other : Statement) (sources : List Statement)
      → StandsAt whole (first_behind whole source) sources begins other → StandsAt whole first (source ∷ sources) begins other

-- A row of the statements of a file, with the card of the statement. `whole` says that the file is not included.
pub record FaultOfStatements (whole : Bool) (sources : List Statement) (file card : ℕ) (row : Kind) : Type 0 where
  pub begins : Bool
  pub source : Statement
  pub stands : StandsAt whole whole sources begins source
  pub holds : RowOfStatement begins source row
  pub in_file : file ≡ source.file
  pub on_card : card ≡ source.card

-- BLOCKS that are open: an IF block, or a loop up to its label or to its END DO.
pub data Block : Type 0 where
  IfBlock : Block
  LoopTo : Option ℕ → Block

unfoldable pub opened_by : Body → List Block
opened_by b = elim (layer_of b) [
  | body.IfThen e ↦ IfBlock ∷ []
  | body.Do label control ↦ LoopTo label ∷ []
  | body.DoWhile label e ↦ LoopTo label ∷ []
  | _ ↦ []
]

unfoldable pub is_loop_to : ℕ → Block → Bool
is_loop_to label (LoopTo (Some other)) = nat_eq label other
is_loop_to label block = false

-- without the innermost IF block, or the innermost loop without a label
unfoldable pub without_if : List Block → List Block
without_if [] = []
without_if (IfBlock ∷ blocks) = blocks
without_if (block ∷ blocks) = block ∷ without_if blocks

unfoldable pub without_loop : List Block → List Block
without_loop [] = []
without_loop (LoopTo None ∷ blocks) = blocks
without_loop (block ∷ blocks) = block ∷ without_loop blocks

unfoldable pub has_loop_to : ℕ → List Block → Bool
has_loop_to label [] = false
has_loop_to label (block ∷ blocks) = if is_loop_to label block then true else has_loop_to label blocks

-- A label closes the loops up to it.
unfoldable pub closed_by_label : Option ℕ → List Block → List Block
closed_by_label None blocks = blocks
closed_by_label (Some label) blocks = filter (λ block. not (is_loop_to label block)) blocks

unfoldable pub ends_labelled_loop : Option ℕ → List Block → Bool
ends_labelled_loop None blocks = false
ends_labelled_loop (Some label) blocks = has_loop_to label blocks

unfoldable pub closed_by_body : Body → Option ℕ → List Block → List Block
closed_by_body b label blocks = elim (layer_of b) [
  | body.EndIf ↦ without_if blocks
  | body.EndDo ↦ if ends_labelled_loop label blocks then blocks else without_loop blocks
  | _ ↦ blocks
]

-- The blocks that are open behind a statement.
unfoldable pub open_behind : List Block → Stmt → List Block
open_behind blocks s = opened_by s.body ++ closed_by_label s.label (closed_by_body s.body s.label blocks)

-- F17 of blocks: the statement that opens the sixty-fifth.
unfoldable pub opens_too_many : List Block → Stmt → Bool
opens_too_many blocks s = if nat_lt 0 (length (opened_by s.body)) then nat_lt 64 (length (open_behind blocks s)) else false

unfoldable pub deep_rows : List Block → List Stmt → List Refusal
deep_rows blocks [] = []
deep_rows blocks (s ∷ ss) =
    (if opens_too_many blocks s then record { file = s.file; card = s.card; kind = NestingTooDeep } ∷ [] else []) ++ deep_rows (open_behind blocks s) ss

unfoldable pub unit_deep_rows : ProgramUnit → List Refusal
unit_deep_rows u = deep_rows [] u.statements
