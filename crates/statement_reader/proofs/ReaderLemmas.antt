-- From what the kind, the tokens and the form of a statement are to what its text spells, or to its row.
use Rattle.std.specs.Prelude.{◌≡◌, Bool, true, false, List, Option, Some, None, is_some, Ok, Err}
use Rattle.std.proofs.Common.{refl, sym, ap, ◌∙◌, subst}
use Rattle.f_tree.specs.declared.refusals.Fail.{Fail}
use Rattle.f_tree.specs.declared.refusals.Kind.{Kind}
use Rattle.f_tree.specs.declared.refusals.Kind.TheVariants.{SyntaxError, UnknownStatement}
use Rattle.f_tree.specs.declared.statements.Body.{Body}
use Rattle.fortran_text.specs.CharactersOfText.{characters}
use Rattle.fortran_text.specs.declared.source.Statement.{Statement}
use Rattle.fortran_lexemes.specs.KindsOfStatements.{kind_of_statement}
use Rattle.fortran_lexemes.specs.LexicalRows.{first_lexical_row}
use Rattle.fortran_lexemes.specs.declared.kinds.StmtKind.{StmtKind}
use Rattle.fortran_grammar.specs.StatementSpelling.{SpellsBody}
use Rattle.fortran_grammar.specs.UnitsOfFile.{pieces_of, may_stand}
use Rattle.fortran_grammar.specs.SyntaxRows.{RowOfKind, lexical, not_spelled, of_no_kind, of_a_kind}
use Rattle.stmt_lex.specs.SeenTokens.{seen}
use Rattle.stmt_lex.specs.TokensOfTexts.{IsTokenList, IsLexFail}
use Rattle.stmt_lex.specs.declared.token.LexFail.{LexFail}
use Rattle.stmt_lex.specs.declared.token.LexFail.TheVariants as lex
use Rattle.stmt_lex.specs.declared.token.Token.{Token}
use Rattle.stmt_lex.specs.declared.token.TokenList.{TokenList}
use Rattle.fortran_text.specs.declared.characters.Character.{Character}
use Rattle.statement_reader.specs.ReadStatements.{IsBody, HasNoRow, IsTree, refused_at}

-- the tokens are the pieces of the statement
abbrev pub AreTokens : StmtKind → Statement → TokenList → Type 0
AreTokens k source list = IsTokenList k (characters (is_some source.label) source.text) list

pieces_are : (k : StmtKind) (source : Statement) (list : TokenList) → AreTokens k source list → seen list.text list.tokens ≡ pieces_of k source
unfolding pieces_of
pieces_are k source list is = ap (λ t. seen t list.tokens) is.characters ∙ is.tokens

accepted : (k : StmtKind) (source : Statement) (list : TokenList) → AreTokens k source list → first_lexical_row k (pieces_of k source) ≡ None
unfolding pieces_of
accepted k source list is = is.accepted

-- the same of the text and the tokens as they are handed out
handed_out : (k : StmtKind) (source : Statement) (list : TokenList) (text : List Character) (tokens : List Token) → AreTokens k source list →
    text ≡ list.text → tokens ≡ list.tokens → seen text tokens ≡ pieces_of k source
handed_out k source list text tokens is same_text same_tokens =
    ap (λ t. seen t tokens) same_text ∙ (ap (λ ts. seen list.text ts) same_tokens ∙ pieces_are k source list is)

pub spelled_text : (k : StmtKind) (source : Statement) (list : TokenList) (text : List Character) (tokens : List Token) (b : Body) →
    AreTokens k source list → text ≡ list.text → tokens ≡ list.tokens → may_stand k source ≡ true → SpellsBody (seen text tokens) b →
    IsBody k source (Ok b)
spelled_text k source list text tokens b is same_text same_tokens stands spells = (
  record { stands = stands; spells = subst (λ ps. SpellsBody ps b) (handed_out k source list text tokens is same_text same_tokens) spells },
  accepted k source list is,
)

-- a statement that spells a tree and breaks no row of its pieces has none
some_once : {A : Type 0} (a b : A) → Some a ≡ Some b → a ≡ b
some_once a b same = cc

none_some : {A : Type 0} (a : A) (o : Option A) → o ≡ None → o ≡ Some a → ⊥
none_some a o is other = let e : None ≡ Some a = sym is ∙ other in absurd (cc)

no_row_of_kind : (k : StmtKind) (source : Statement) (b : Body) → IsBody k source (Ok b) → (row : Kind) → RowOfKind k source row → ⊥
no_row_of_kind k source b is row (lexical found) = none_some row (first_lexical_row k (pieces_of k source)) is.1 found
no_row_of_kind k source b is row (not_spelled none no_tree same) = no_tree b is.0

no_row : (first : Bool) (k : StmtKind) (source : Statement) (b : Body) → kind_of_statement first (is_some source.label) source.text ≡ Some k →
    IsBody k source (Ok b) → HasNoRow first source
no_row first k source b of_kind is row (of_no_kind none same) = none_some k (kind_of_statement first (is_some source.label) source.text) none of_kind
no_row first k source b of_kind is row (of_a_kind other of_other holds) =
    no_row_of_kind k source b is row (subst (λ m. RowOfKind m source row) (some_once other k (sym of_other ∙ of_kind)) holds)

pub spelled_tree : (first : Bool) (k : StmtKind) (source : Statement) (b : Body) → kind_of_statement first (is_some source.label) source.text ≡ Some k →
    IsBody k source (Ok b) → IsTree first source (Ok (record { label = source.label; file = source.file; card = source.card; body = b }))
spelled_tree first k source b of_kind is = (
  record { kind = k; of_kind = of_kind; says = is.0; label = refl; file = refl; card = refl },
  no_row first k source b of_kind is,
)

pub spells_nothing : (k : StmtKind) (source : Statement) (list : TokenList) (text : List Character) (tokens : List Token) →
    AreTokens k source list → text ≡ list.text → tokens ≡ list.tokens → ((b : Body) → SpellsBody (seen text tokens) b → ⊥) →
    RowOfKind k source SyntaxError
spells_nothing k source list text tokens is same_text same_tokens none =
    not_spelled (accepted k source list is)
    (λ b t. none b (subst (λ ps. SpellsBody ps b) (sym (handed_out k source list text tokens is same_text same_tokens)) t.spells)) refl

opposite : (b : Bool) → b ≡ false → b ≡ true → ⊥
opposite b is not_so = let e : false ≡ true = sym is ∙ not_so in absurd (cc)

pub stands_not : (k : StmtKind) (source : Statement) (list : TokenList) → AreTokens k source list → may_stand k source ≡ false →
    RowOfKind k source SyntaxError
stands_not k source list is stands = not_spelled (accepted k source list is) (λ b t. opposite (may_stand k source) stands t.stands) refl

pub lex_failed : (k : StmtKind) (source : Statement) (f : LexFail) → IsLexFail k (characters (is_some source.label) source.text) f →
    IsBody k source (Err f)
unfolding pieces_of
lex_failed k source lex.NoMemory is = tt
lex_failed k source (lex.Refused row) is = lexical is

pub refused_row : (first : Bool) (k : StmtKind) (source : Statement) (row : Kind) (f : Fail) → f ≡ refused_at source row →
    kind_of_statement first (is_some source.label) source.text ≡ Some k → RowOfKind k source row → IsTree first source (Err f)
refused_row first k source row f is kind holds =
    subst (λ g. IsTree first source (Err g)) (sym is) (refl, refl, of_a_kind k kind holds)

pub refused_unknown : (first : Bool) (source : Statement) (f : Fail) → f ≡ refused_at source UnknownStatement →
    kind_of_statement first (is_some source.label) source.text ≡ None → IsTree first source (Err f)
refused_unknown first source f is kind = subst (λ g. IsTree first source (Err g)) (sym is) (refl, refl, of_no_kind kind refl)
