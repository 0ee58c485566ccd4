-- That the C file of a main program is well formed: some tokens spell its expressions, its statements and the whole. C89, 3.3, 3.5, 3.6 and 3.7.
use Rattle.std.specs.Prelude.{◌≡◌, ℕ, ◌≤◌, true, List, [], ◌∷◌, Option, Some}
use Rattle.main_translation_laws.specs.f_tree.Facts.{Member, ProgramUnit}
use Rattle.main_translation_laws.specs.f_tree.Setting.{IsIn}
use Rattle.main_translation_laws.specs.l_core.Steps.{Text}
use Rattle.main_translation_laws.specs.lowering.Units.{lowered_unit}
use Rattle.main_translation_laws.specs.c_tree.declared.expression.CExpr.{CExpr}
use Rattle.main_translation_laws.specs.c_tree.declared.statement.CStmt.{CStmt}
use Rattle.main_translation_laws.specs.c_tree.Access.{Access, ToFunction}
use Rattle.main_translation_laws.specs.c_tree.Tokens.{Token, begins_with, is_letter}
use Rattle.main_translation_laws.specs.c_tree.CWords.{is_among, is_name}
use Rattle.main_translation_laws.specs.c_tree.CLabels.{labels_of_all}
use Rattle.main_translation_laws.specs.c_tree.CExpressionText.{Scope, IsKnown, ReadsExpr}
use Rattle.main_translation_laws.specs.c_tree.CStatementText.{ReadsStmts}
use Rattle.main_translation_laws.specs.c_tree.CText.{WellFormed}
use Rattle.main_translation_laws.specs.c_tree.Drafts as linking
use Rattle.main_translation_laws.specs.c_tree.Terms.{Term, Variable, Array, Routine, Prefixed, Cast, Between, Choice, Element, Field, Most, Magnitude}
use Rattle.main_translation_laws.specs.c_tree.Flat.{Flat, Assign, Branch, Select, Invoke, Return, Ignored, Kept}
use Rattle.main_translation_laws.specs.c_structure.Expressions.{Names, expr_for}
use Rattle.main_translation_laws.specs.c_structure.Statements.{Outline, statements_for}
use Rattle.main_translation_laws.specs.c_structure_laws.Fitting.{Knows, KnowsItems}
use Rattle.main_translation_laws.specs.main_file.MainFile.{main_file}
use Rattle.main_translation_laws.specs.main_programs.MainRuns.{plain_facts}
use Rattle.main_translation_laws.specs.main_translation.Contents.{count_by, inventory_of}
use Rattle.main_translation_laws.specs.main_translation.Outlined.{body_of}
use Rattle.main_translation_laws.specs.PlainMains.{IsPlainMain, IsPlainText}

-- ## Expressions

-- there are tokens that a form spells, whatever stands behind them
pub record IsSpelled (Reads : List Token → List Token → Type 0) : Type 0 where
  pub from : List Token → List Token
  pub reads : (behind : List Token) → Reads (from behind) behind

-- what a name stands for where a file is linked is declared where its text is read
pub record Agrees (links : linking.Scope) (scope : Scope) : Type 0 where
  pub variables : (name : List ℕ) (k : ℕ) (access : Access) → links name ≡ Variable k access → IsKnown scope name
  pub arrays : (name : List ℕ) (k : ℕ) (access : Access) → links name ≡ Array k access → IsKnown scope name
  pub functions : (name : List ℕ) (k : ℕ) → links name ≡ Routine k → is_among name scope.functions ≡ true
  pub pointers : (name : List ℕ) (k : ℕ) → links name ≡ Variable k ToFunction → is_among name scope.pointers ≡ true

-- an expression that takes no field of a list
abbrev pub HasNoField : Term → Type 0
HasNoField (Prefixed op t) = HasNoField t
HasNoField (Cast type t) = HasNoField t
HasNoField (Between op t u) = HasNoField t × HasNoField u
HasNoField (Choice t u v) = HasNoField t × HasNoField u × HasNoField v
HasNoField (Element t u) = HasNoField t × HasNoField u
HasNoField (Field t name) = ⊥
HasNoField (Most which t u) = HasNoField t × HasNoField u
HasNoField (Magnitude t) = HasNoField t
HasNoField other = Unit {0}

-- nor do expressions one after the other
pub data HaveNoField : List Term → Type 0 where
  no_terms : HaveNoField []
  and_term : {t : Term} {ts : List Term} → HasNoField t → HaveNoField ts → HaveNoField (t ∷ ts)

-- nor does an item
abbrev pub ItemHasNoField : Flat → Type 0
ItemHasNoField (Assign t u) = HasNoField t × HasNoField u
ItemHasNoField (Branch test on off) = HasNoField test
ItemHasNoField (Select value cases otherwise) = HasNoField value
ItemHasNoField (Invoke Ignored callee arguments) = HaveNoField arguments
ItemHasNoField (Invoke (Kept t) callee arguments) = HasNoField t × HaveNoField arguments
ItemHasNoField (Return (Some t)) = HasNoField t
ItemHasNoField other = Unit {0}

-- nor do items one after the other
abbrev pub ItemsHaveNoField : List Flat → Type 0
ItemsHaveNoField [] = Unit {0}
ItemsHaveNoField (item ∷ later) = ItemHasNoField item × ItemsHaveNoField later

-- LAW
-- where its names are known and declared, and it takes no fields, an expression that is built has tokens that spell it
abbrev pub ExpressionsAreSpelled : Type 0
ExpressionsAreSpelled = (links : linking.Scope) (scope : Scope) (names : Names) (t : Term) (e : CExpr) → Agrees links scope → expr_for names t ≡ Some e → Knows links names t → HasNoField t → IsSpelled (ReadsExpr scope 0 e)

-- ## Statements

-- each of some labels is said to stand before an item
abbrev pub AllStand : (ℕ → Option (List ℕ)) → List (List ℕ) → Type 0
AllStand label [] = Unit {0}
AllStand label (name ∷ later) = ((n : ℕ) × (label n ≡ Some name)) × AllStand label later

-- tokens spell the statements, up to the brace behind them, and each label that they name is said to stand
pub record AreSpelled (o : Outline) (scope : Scope) (ss : List CStmt) : Type 0 where
  pub text : IsSpelled (ReadsStmts scope ss)
  pub named : AllStand o.label (labels_of_all ss).named

-- LAW
-- so have statements that are built for such items, where labels are names
abbrev pub StatementsAreSpelled : Type 0
StatementsAreSpelled = (o : Outline) (links : linking.Scope) (scope : Scope) (turns n : ℕ) (items : List Flat) (ss : List CStmt) → Agrees links scope → ((k : ℕ) (name : List ℕ) → o.label k ≡ Some name → is_name name ≡ true) →
    statements_for o turns n items ≡ Some ss → KnowsItems links o.names items → ItemsHaveNoField items → AreSpelled o scope ss

-- ## Files

-- what C asks besides of the names of a main program, and of its arrays: a name begins with a letter, and an array has an element
pub record IsSpellable (unit : ProgramUnit) : Type 0 where
  pub letters : (m : Member) → IsIn m unit.stored → begins_with is_letter m.name ≡ true
  pub elements : (m : Member) (n : ℕ) → IsIn m unit.stored → count_by (unit.attribute m.name).bounds ≡ Some n → 1 ≤ n

-- LAW
-- so has the whole file of a main program
abbrev pub MainFilesAreWellFormed : Type 0
MainFilesAreWellFormed = (unit : ProgramUnit) (u : Text) (body : List CStmt) → IsPlainMain unit → IsSpellable unit → lowered_unit (plain_facts unit) ≡ Some u → IsPlainText u → body_of unit u ≡ Some body →
    WellFormed (main_file (inventory_of unit u) body)
