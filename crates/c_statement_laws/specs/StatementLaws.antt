-- The laws of the readers of statements.
use Rattle.std.specs.Prelude.{◌≡◌, ◌≤◌, ℕ, Bool, true, false, List, ◌∷◌, codes, bytes_eq}
use Rattle.c_grammar_laws.specs.c_tree.declared.statement.CStmt.{CStmt}
use Rattle.c_grammar_laws.specs.c_tree.Tokens.{Word}
use Rattle.c_grammar_laws.specs.c_tree.CWords.{is_among, is_name}
use Rattle.c_grammar_laws.specs.c_tree.CLabels.{LabelsOf, both, labels_of, labels_of_all, labels_meet}
use Rattle.c_grammar_laws.specs.c_tree.CExpressionText.{Scope}
use Rattle.c_grammar_laws.specs.c_tree.CStatementText.{ReadsStmt, ReadsStmts}
use Rattle.c_grammar_laws.specs.c_tree.CDeclarationText.{with_object, with_array, with_function, with_pointer}
use Rattle.c_grammar_laws.specs.c_tree.CText.{no_names}
use Rattle.c_grammar_laws.specs.c_readers.Readers.{Tokens}
use Rattle.c_grammar_laws.specs.grammar.Exactness.{Good, Exact}
use Rattle.c_grammar_laws.specs.ExpressionLaws.{OfNames, Anything}
use Rattle.c_statement_readers.specs.LabelTests.{can_meet}
use Rattle.c_statement_readers.specs.StatementReader.{closes_anywhere, block, statement, body}

-- The parameters of a scope that point to functions are among its objects.
abbrev pub PointersAmong : Scope → Type 0
PointersAmong scope = (name : List ℕ) → is_among name scope.pointers ≡ true → is_among name scope.objects ≡ true

-- What each scope of a file is.
pub record InOrder (scope : Scope) : Type 0 where
  pub of_names : OfNames scope
  pub pointers : PointersAmong scope

-- Scopes are in order from the beginning of a file on.
pub record ScopesInOrder : Type 0 where
  pub at_first : InOrder no_names
  pub object : (name : List ℕ) (scope : Scope) → is_name name ≡ true → InOrder scope → InOrder (with_object name scope)
  pub array : (name : List ℕ) (scope : Scope) → is_name name ≡ true → InOrder scope → InOrder (with_array name scope)
  pub function : (name : List ℕ) (scope : Scope) → is_name name ≡ true → InOrder scope → InOrder (with_function name scope)
  pub pointer : (name : List ℕ) (scope : Scope) → is_name name ≡ true → InOrder scope → InOrder (with_pointer name scope)

-- A statement, where these labels stand and are named before it: those that are named behind it too can still meet.
pub record StatementIs (scope : Scope) (before : LabelsOf) (one : CStmt) (p q : Tokens) : Type 0 where
  pub reads : ReadsStmt scope one p q
  pub can : can_meet (both before (labels_of one)) ≡ true

-- Statements up to a closing brace that stands where the labels pass a test.
pub record StatementsAre (scope : Scope) (closes : LabelsOf → Bool) (before : LabelsOf) (all : List CStmt) (p q : Tokens) : Type 0 where
  pub reads : ReadsStmts scope all p q
  pub can : can_meet (both before (labels_of_all all)) ≡ true
  pub closed : closes (both before (labels_of_all all)) ≡ true

-- The statements of a function: each label that is named stands once.
pub record BodyIs (scope : Scope) (all : List CStmt) (p q : Tokens) : Type 0 where
  pub reads : ReadsStmts scope all p q
  pub met : labels_meet all ≡ true

-- What stands first is not `else`, with which an `if` would go on.
abbrev pub begins_else : Tokens → Bool
begins_else (Word word ∷ more) = bytes_eq word (codes "else")
begins_else other = false

abbrev pub EndsStatement : Tokens → Type 0
EndsStatement tokens = begins_else tokens ≡ false

-- The readers of statements, of blocks and of the statements of a function judge all tokens.
abbrev pub GoodStatements : Type 0
GoodStatements = (scope : Scope) (before : LabelsOf) (nests more count most : ℕ) → InOrder scope → can_meet before ≡ true
    → nests ≤ more → nests ≤ count → count ≤ most
    → Good nests (StatementIs scope before) (statement scope count nests before) (statement scope most more before)

abbrev pub GoodBlocks : Type 0
GoodBlocks = (scope : Scope) (before : LabelsOf) (nests more count most : ℕ) → InOrder scope → can_meet before ≡ true
    → nests ≤ more → nests ≤ count → count ≤ most
    → Good nests (StatementsAre scope closes_anywhere before) (block (statement scope count nests) count before) (block (statement scope most more) most before)

abbrev pub GoodBodies : Type 0
GoodBodies = (scope : Scope) (nests more count most : ℕ) → InOrder scope → nests ≤ more → nests ≤ count → count ≤ most
    → Good nests (BodyIs scope) (body scope count nests) (body scope most more)

-- They are exact.
abbrev pub ExactStatements : Type 0
ExactStatements = (scope : Scope) (before : LabelsOf) → InOrder scope → can_meet before ≡ true
    → Exact (StatementIs scope before) EndsStatement (λ nests. statement scope nests nests before)

abbrev pub ExactBodies : Type 0
ExactBodies = (scope : Scope) → InOrder scope → Exact (BodyIs scope) Anything (λ nests. body scope nests nests)
