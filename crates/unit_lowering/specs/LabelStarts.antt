-- Where the steps of labelled statements begin. ANSI X3.9-1978, section 3.4.
use Rattle.std.specs.Prelude.{ℕ, List, Option, Some, None, slice_get, if◌then◌else◌}
use Rattle.f_tree.specs.declared.statements.Stmt.{Stmt}
use Rattle.f_tree.specs.Attributes.{first_of_two}
use Rattle.f_tree.specs.Places.{has_label}
use Rattle.statement_places.specs.declared.places.StatementPlace.{StatementPlace}
use Rattle.unit_lowering.specs.Rows.{joined}

-- where a statement begins, if it has the label
unfoldable pub start_by : ℕ → Option Stmt → Option StatementPlace → Option ℕ
start_by label (Some s) (Some place) = if has_label s.label label then Some place.start else None
start_by label _ _ = None

unfoldable pub start_at : ℕ → List Stmt → List StatementPlace → ℕ → Option ℕ
start_at label ss places i = start_by label (slice_get ss i) (slice_get places i)

-- where the first of the first statements begins that has the label
unfoldable pub label_start : ℕ → List Stmt → List StatementPlace → ℕ → Option ℕ
label_start label ss places n = joined first_of_two None (start_at label ss places) n

unfoldable pub label_starts_opened : Unit {0}
unfolding start_by start_at label_start
label_starts_opened = tt
