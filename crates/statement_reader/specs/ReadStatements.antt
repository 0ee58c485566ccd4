-- What the reader of a statement gives: its tree, or the row that the statement breaks.
use Rattle.std.specs.Prelude.{◌≡◌, Bool, None, Result, Ok, Err}
use Rattle.f_tree.specs.declared.refusals.Fail.{Fail}
use Rattle.f_tree.specs.declared.refusals.Fail.TheVariants as fail
use Rattle.f_tree.specs.declared.refusals.Kind.{Kind}
use Rattle.f_tree.specs.declared.statements.Body.{Body}
use Rattle.f_tree.specs.declared.statements.Stmt.{Stmt}
use Rattle.fortran_text.specs.declared.source.Statement.{Statement}
use Rattle.fortran_lexemes.specs.LexicalRows.{first_lexical_row}
use Rattle.fortran_lexemes.specs.declared.kinds.StmtKind.{StmtKind}
use Rattle.fortran_grammar.specs.UnitsOfFile.{pieces_of, SpellsText, SpellsStatement}
use Rattle.fortran_grammar.specs.SyntaxRows.{RowOfKind, RowOfStatement}
use Rattle.stmt_lex.specs.declared.token.LexFail.{LexFail}
use Rattle.stmt_lex.specs.declared.token.LexFail.TheVariants as lex

-- of a statement of a kind; want of memory says nothing
abbrev pub IsBody : StmtKind → Statement → Result Body LexFail → Type 0
IsBody k source (Ok b) = SpellsText k source b × (first_lexical_row k (pieces_of k source) ≡ None)
IsBody k source (Err (lex.Refused row)) = RowOfKind k source row
IsBody k source (Err lex.NoMemory) = Unit {0}

-- no row holds of a statement
abbrev pub HasNoRow : Bool → Statement → Type 0
HasNoRow first source = (row : Kind) → RowOfStatement first source row → ⊥

-- of a statement, which may be the first of a unit in a file that is not included
abbrev pub IsTree : Bool → Statement → Result Stmt Fail → Type 0
IsTree first source (Ok tree) = SpellsStatement first source tree × HasNoRow first source
IsTree first source (Err (fail.Refused r)) = (r.file ≡ source.file) × (r.card ≡ source.card) × RowOfStatement first source r.kind
IsTree first source (Err fail.NoMemory) = Unit {0}

-- a refusal at the statement
abbrev pub refused_at : Statement → Kind → Fail
refused_at source row = fail.Refused (record { file = source.file; card = source.card; kind = row })
