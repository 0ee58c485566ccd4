-- The laws of the crate, from the readings of the parts.
use Rattle.std.specs.Prelude.{◌≡◌, ℕ, true, ◌&&◌, List, [], ◌++◌, codes}
use Rattle.std.specs.List.{list_all}
use Rattle.std.proofs.Common.{refl, sym, subst, append-nil}
use Rattle.c_laws.specs.c_tree.declared.expression.CExpr.{CExpr}
use Rattle.c_laws.specs.c_tree.declared.expression.CCall.{CCall}
use Rattle.c_laws.specs.c_tree.declared.statement.CStmt.{CStmt}
use Rattle.c_laws.specs.c_tree.declared.file.CFile.{CFile}
use Rattle.c_laws.specs.c_tree.Tokens.{Token}
use Rattle.c_laws.specs.c_tree.CWords.{is_name}
use Rattle.c_laws.specs.c_tree.CLabels.{labels_of}
use Rattle.c_laws.specs.c_tree.CExpressionText.{Scope, ReadsExpr, ReadsCall}
use Rattle.c_laws.specs.c_tree.CStatementText.{ReadsStmt}
use Rattle.c_laws.specs.c_tree.CText.{kinds, CText, WellFormed}
use Rattle.c_text.specs.Expressions.{bare, printed_call}
use Rattle.c_text.specs.Printed.{printed_stmt, printed}
use Rattle.c_laws.proofs.TokenSpellings.{and-first, and-second}
use Rattle.c_laws.proofs.PlainText.{one_tree}
use Rattle.c_spelling.specs.Spelled.{expression_of_bytes, call_of_bytes, statement_of_bytes, file_of_bytes, TextOf, scope_is_named}
use Rattle.c_spelling.proofs.Tokens.{PlacedAs, ReadsAs, at_the_end, in_words, Piece, Whole, line_feed}
use Rattle.c_spelling.proofs.TokensScope.{NamedScope}
use Rattle.c_spelling.proofs.ExprPieces.{whole_piece}
use Rattle.c_spelling.proofs.Expr.{expression_printing}
use Rattle.c_spelling.proofs.ExprCalls.{call_whole}
use Rattle.c_spelling.proofs.Stmt.{statement_line}
use Rattle.c_spelling.proofs.Files.{file_spelled}
use Rattle.c_spelling.proofs.FilesBytes.{strings_of_a_text}

named_scope : (scope : Scope) → scope_is_named scope ≡ true → NamedScope scope
named_scope scope is =
    let front : (list_all is_name scope.objects && list_all is_name scope.arrays) ≡ true =
    and-first (list_all is_name scope.objects && list_all is_name scope.arrays) (list_all is_name scope.functions && list_all is_name scope.pointers) is in
    let behind : (list_all is_name scope.functions && list_all is_name scope.pointers) ≡ true =
    and-second (list_all is_name scope.objects && list_all is_name scope.arrays) (list_all is_name scope.functions && list_all is_name scope.pointers) is in
    record {
      objects = and-first (list_all is_name scope.objects) (list_all is_name scope.arrays) front;
      arrays = and-second (list_all is_name scope.objects) (list_all is_name scope.arrays) front;
      functions = and-first (list_all is_name scope.functions) (list_all is_name scope.pointers) behind;
      pointers = and-second (list_all is_name scope.functions) (list_all is_name scope.pointers) behind;
    }

-- a text that reads as tokens that a production spells
text_of : {text : List ℕ} {Spells : List Token → List Token → Type 0} {tokens : List Token} → ReadsAs text tokens → Spells tokens [] → TextOf text Spells
text_of {text = text} {Spells = Spells} {tokens = tokens} r spells = let whole : PlacedAs 1 true text tokens = r.from 1 true in record {
  tokens = whole.placed;
  lexed = whole.are;
  reads = subst (λ ts. Spells ts []) (sym whole.kinds_of) spells;
}

whole_text : {text : List ℕ} {Spells : List Token → List Token → Type 0} → Whole text Spells → TextOf text Spells
whole_text {text = text} w = text_of (in_words (sym (append-nil text)) (w.reads [] [] at_the_end)) (w.spells [])

pub expression_text : (scope : Scope) (place : ℕ) (e : CExpr) (p q : List Token) → scope_is_named scope ≡ true → expression_of_bytes e ≡ true → ReadsExpr scope place e p q →
    TextOf (bare e ++ codes "\n") (ReadsExpr scope 0 e)
expression_text scope place e p q is fit x =
    let piece : Piece (bare e) (ReadsExpr scope 0 e) = whole_piece (expression_printing x (named_scope scope is) fit) in
    text_of (piece.reads 10 [] [] refl (line_feed at_the_end)) (piece.spells [])

pub call_text : (scope : Scope) (call : CCall) (p q : List Token) → scope_is_named scope ≡ true → call_of_bytes call ≡ true → ReadsCall scope call p q → TextOf (printed_call call) (ReadsCall scope call)
call_text scope call p q is fit x = whole_text (call_whole x (named_scope scope is) fit)

pub statement_text : (scope : Scope) (one : CStmt) (depth : ℕ) (p q : List Token) → scope_is_named scope ≡ true → statement_of_bytes one ≡ true → list_all is_name (labels_of one).named ≡ true →
    ReadsStmt scope one p q → TextOf (printed_stmt one depth) (ReadsStmt scope one)
statement_text scope one depth p q is fit names x = whole_text (statement_line x (named_scope scope is) fit names depth)

-- one text spells one tree
pub files_apart : (one other : CFile) → file_of_bytes one ≡ true → file_of_bytes other ≡ true → WellFormed one → WellFormed other → printed one ≡ printed other → one ≡ other
files_apart one other fit fits formed others same =
    one_tree (printed one) one other (file_spelled one fit formed) (subst (λ text. CText text other) (sym same) (file_spelled other fits others))

-- a file that a text spells is well formed, and its strings are of bytes
pub printed_again : (bytes : List ℕ) (file : CFile) → CText bytes file → CText (printed file) file
printed_again bytes file spells = file_spelled file (strings_of_a_text bytes file spells) (record { tokens = kinds spells.tokens; reads = spells.reads })
