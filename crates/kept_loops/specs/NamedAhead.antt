-- Whether the `goto`s and the `case`s of C statements stand before the labels that they name, in the order of the text. C89, 3.6.1, 3.6.4.2 and 3.6.6.1.
use Rattle.std.specs.Prelude.{ℕ, Bool, true, false, ◌||◌, ◌&&◌, List, [], ◌∷◌, ◌++◌, map, bytes_eq}
use Rattle.translated_files.specs.c_tree.declared.statement.CCase.{CCase}
use Rattle.translated_files.specs.c_tree.declared.statement.CStmt as stmt

-- a label that stands before a statement, or one that a `goto` or a `case` names
pub data Mention : Type 0 where
  Stands : List ℕ → Mention
  IsNamed : List ℕ → Mention

-- the labels in the order of the text, where a label stands before all that its statement holds
unfoldable mutual
  pub mentions_of : stmt.CStmt → List Mention
  mentions_of (stmt.Block' shape inner) = mentions_in inner
  mentions_of (stmt.Label' name shape (stmt.more_of-CStmt inner stmt.end_of-CStmt)) = Stands name ∷ mentions_of inner
  mentions_of (stmt.Goto label) = IsNamed label ∷ []
  mentions_of (stmt.Switch value cases) = map (λ (case : CCase). IsNamed case.label) cases
  mentions_of (stmt.If' test shape first other) = mentions_in first ++ mentions_of_other other
  mentions_of (stmt.For' target first test next shape turn) = mentions_in turn
  mentions_of (stmt.DoWhile' shape turn test) = mentions_in turn
  mentions_of other = []

  pub mentions_in : {count : _} → stmt.Row_of-CStmt count → List Mention
  mentions_in stmt.end_of-CStmt = []
  mentions_in (stmt.more_of-CStmt first later) = mentions_of first ++ mentions_in later

  pub mentions_of_other : stmt.Held-CStmt-If-2 → List Mention
  mentions_of_other stmt.None' = []
  mentions_of_other (stmt.Some' shape second) = mentions_in second

-- those of statements in order
unfoldable pub mentions_of_all : List stmt.CStmt → List Mention
mentions_of_all [] = []
mentions_of_all (first ∷ later) = mentions_of first ++ mentions_of_all later

-- a label stands among some
unfoldable pub stands_in : List Mention → List ℕ → Bool
stands_in [] label = false
stands_in (Stands name ∷ later) label = bytes_eq name label || stands_in later label
stands_in (IsNamed name ∷ later) label = stands_in later label

-- each `goto` and each `case` stands before the label that it names, but for labels that pass a test
unfoldable pub named_ahead : (List ℕ → Bool) → List Mention → Bool
named_ahead passes [] = true
named_ahead passes (Stands name ∷ later) = named_ahead passes later
named_ahead passes (IsNamed name ∷ later) = (passes name || stands_in later name) && named_ahead passes later

unfoldable pub named_ahead_opened : Unit {0}
unfolding mentions_of mentions_in mentions_of_other mentions_of_all stands_in named_ahead
named_ahead_opened = tt
