-- What code reads in one step of a statement, by the word that begins it.
use Rattle.std.specs.Prelude.{Bool, true, false, ◌∷◌, Option, Some, None, option_map, if◌then◌else◌}
use Rattle.f_tree.specs.declared.expressions.Expr.{Expr}
use Rattle.f_tree.specs.declared.statements.Body.{Body}
use Rattle.f_tree.specs.declared.statements.Body as body
use Rattle.fortran_lexemes.specs.Lexemes.{Lexemes, Number}
use Rattle.fortran_lexemes.specs.declared.kinds.StmtKind.{StmtKind}
use Rattle.fortran_lexemes.specs.declared.kinds.StmtKind.TheVariants as kind
use Rattle.fortran_grammar.specs.StatementForms.{if_sign}
use Rattle.grammar_laws.specs.Exactness.{Reader}
use Rattle.grammar_laws.specs.FormReading.{going_on}
use Rattle.grammar_laws.specs.StatementReading.{test_form, sign_labels_form}
use Rattle.grammar_laws.specs.DeclarationReading.{type_statement_form}
use Rattle.grammar_laws.specs.StatementReader.{whole, action_by_word, other_by_word, read_other, read_action, behind_condition}

-- A reader that there may be.
unfoldable pub reader_of : {A : Type 0} → Option (Reader A) → Reader A
reader_of None pieces = None
reader_of (Some read) pieces = read pieces

-- A reader, or that of a statement that may stand in a logical IF.
unfoldable pub form_by : StmtKind → Option (Reader Body) → Reader Body
form_by k None = reader_of (action_by_word k)
form_by k (Some read) = read

-- The statement that a word begins: its pieces with the word, and those behind it.
unfoldable pub worded : StmtKind → Lexemes → Lexemes → Option Body
worded kind.If pieces more = going_on (test_form more) behind_condition
worded kind.Integer pieces more = whole type_statement_form pieces
worded kind.Logical pieces more = whole type_statement_form pieces
worded kind.Character pieces more = whole type_statement_form pieces
worded k pieces more = read_other k (other_by_word k) more

-- Behind the word of an IF.
abbrev pub conditional : Lexemes → Option Body
conditional pieces = going_on (test_form pieces) behind_condition

unfoldable pub number_first : Lexemes → Bool
number_first (Number digits value ∷ more) = true
number_first pieces = false

-- Behind the condition of an arithmetic or of a logical IF.
unfoldable pub signed : Expr → Lexemes → Option Body
signed e pieces = option_map (λ labels. if_sign (e, labels)) (whole sign_labels_form pieces)

unfoldable pub logical : Expr → Lexemes → Option Body
logical e pieces = option_map (body.IfOne e) (read_action pieces)

unfoldable pub branched : Expr → Lexemes → Option Body
branched e pieces = if number_first pieces then signed e pieces else logical e pieces
