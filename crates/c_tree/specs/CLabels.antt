-- The labels of a function (C89, 3.1.2.1 and 3.6.1): those that stand before statements, and those that `goto` and
-- `case` name.
use Rattle.std.specs.Prelude.{ℕ, ◌==◌, Bool, List, [], ◌∷◌, ◌++◌, map, length, filter, bytes_eq}
use Rattle.std.specs.List.{list_all}
use Rattle.c_tree.specs.declared.statement.CCase.{CCase}
use Rattle.c_tree.specs.declared.statement.CStmt as stmt

pub record LabelsOf : Type 0 where
  -- those that stand, as often as they stand
  pub stand : List (List ℕ)
  -- those that are named
  pub named : List (List ℕ)

abbrev pub no_label : LabelsOf
no_label = record { stand = []; named = [] }

abbrev pub both : LabelsOf → LabelsOf → LabelsOf
both first second = record { stand = first.stand ++ second.stand; named = first.named ++ second.named }

abbrev pub standing : List ℕ → LabelsOf → LabelsOf
standing label inner = record inner { stand = label ∷ inner.stand }

abbrev mutual
  pub labels_of : stmt.CStmt → LabelsOf
  labels_of (stmt.Block' shape inner) = labels_in inner
  labels_of (stmt.Label' name shape (stmt.more_of-CStmt inner stmt.end_of-CStmt)) = standing name (labels_of inner)
  labels_of (stmt.Goto label) = record { stand = []; named = label ∷ [] }
  labels_of (stmt.Switch value cases) = record { stand = []; named = map (λ (case : CCase). case.label) cases }
  labels_of (stmt.If' test shape first other) = both (labels_in first) (labels_of_other other)
  labels_of (stmt.For' target first test next shape inner) = labels_in inner
  labels_of (stmt.DoWhile' shape inner test) = labels_in inner
  labels_of other = no_label

  pub labels_in : {count : _} → stmt.Row_of-CStmt count → LabelsOf
  labels_in stmt.end_of-CStmt = no_label
  labels_in (stmt.more_of-CStmt first later) = both (labels_of first) (labels_in later)

  pub labels_of_other : stmt.Held-CStmt-If-2 → LabelsOf
  labels_of_other stmt.None' = no_label
  labels_of_other (stmt.Some' shape second) = labels_in second

-- the labels of statements in order
abbrev pub labels_of_all : List stmt.CStmt → LabelsOf
labels_of_all [] = no_label
labels_of_all (first ∷ later) = both (labels_of first) (labels_of_all later)

abbrev pub stands_once : List (List ℕ) → List ℕ → Bool
stands_once labels label = length (filter (bytes_eq label) labels) == 1

-- each label that is named stands once
abbrev pub labels_meet : List stmt.CStmt → Bool
labels_meet body = let labels = labels_of_all body in list_all (stands_once labels.stand) labels.named
