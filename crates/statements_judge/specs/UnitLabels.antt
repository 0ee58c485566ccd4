-- The labels of a unit that its statements may name: those of the statements that a branch may go to, and those of FORMAT statements.
-- ANSI X3.9-1978, sections 3.4, 11 and 13.1.
use Rattle.std.specs.Prelude.{◌≡◌, ℕ, nat_eq, Bool, false, List, [], ◌∷◌, if◌then◌else◌}
use Rattle.std.specs.HashSet.{contains}
use Rattle.f_tree.specs.declared.statements.Stmt.{Stmt}
use Rattle.f_tree.specs.Places.{has_label}
use Rattle.f_tree.specs.Transfers.{labelled_text}
use Rattle.f_tree.specs.WellFormed.{is_given}
use Rattle.f_tree.specs.Lines.{format_in, formats_of}
use Rattle.declaration_rows.specs.UnitRows.{may_be_entered}
use Rattle.statements_judge.specs.declared.labels.Labels.{Labels}

-- may a branch go to the first of some statements with a label
unfoldable pub is_entered : List Stmt → ℕ → Bool
is_entered [] l = false
is_entered (s ∷ ss) l = if has_label s.label l then may_be_entered s.body else is_entered ss l

-- is a statement a FORMAT statement with a label
unfoldable pub is_format_label : Stmt → ℕ → Bool
is_format_label s l = is_given (labelled_text (format_in s.label s.body) l)

-- has a FORMAT statement among some a label
unfoldable pub has_format : List Stmt → ℕ → Bool
has_format ss l = is_given (labelled_text (formats_of ss) l)

-- two sets of labels are those of some statements
pub record AreLabels (labels : Labels) (ss : List Stmt) : Type 0 where
  pub branches : (l : ℕ) → contains nat_eq labels.branches l ≡ is_entered ss l
  pub formats : (l : ℕ) → contains nat_eq labels.formats l ≡ has_format ss l
