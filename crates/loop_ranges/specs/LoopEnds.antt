-- Where the loops of a unit end, by the labels of its statements and by the END DO statements behind each loop that no inner loop has.
use Rattle.std.specs.Prelude.{◌≡◌, ℕ, suc, Bool, false, List, [], ◌∷◌, Option, Some, None, is_some, if◌then◌else◌}
use Rattle.f_tree.specs.declared.statements.Stmt.{Stmt}
use Rattle.f_tree.specs.Places.{has_label}
use Rattle.f_tree.specs.Attributes.{from_all}
use Rattle.f_tree.specs.Lines.{loop_label_in, is_loop_label}
use Rattle.name_table.specs.declared.LabelTable.{LabelTable}
use Rattle.name_table.specs.Named.{labelled}
use Rattle.loop_ranges.specs.declared.forms.LoopForm.{LoopForm}
use Rattle.loop_ranges.specs.declared.forms.LoopForm.TheVariants as form
use Rattle.loop_ranges.specs.declared.labels.Labels.{Labels}
use Rattle.loop_ranges.specs.LoopForms.{form_of}

-- the first of some statements with a label, counted on from a place
unfoldable pub labelled_at : ℕ → List Stmt → ℕ → Option ℕ
labelled_at i [] l = None
labelled_at i (s ∷ ss) l = if has_label s.label l then Some i else labelled_at (suc i) ss l

-- is it a label that loops name
unfoldable pub named_among : LabelTable (Unit {0}) → Option ℕ → Bool
named_among table None = false
named_among table (Some l) = is_some (labelled table l)

unfoldable pub is_named : Labels → Option ℕ → Bool
is_named labels label = named_among labels.named label

pub record AreNamed (table : LabelTable (Unit {0})) (ss : List Stmt) : Type 0 where
  pub has : (label : Option ℕ) → named_among table label ≡ is_loop_label (from_all loop_label_in ss) label

pub record AreLabels (labels : Labels) (ss : List Stmt) : Type 0 where
  pub places : (l : ℕ) → labelled labels.places l ≡ labelled_at 0 ss l
  pub named : AreNamed labels.named ss

-- where a statement's loop ends, given the END DO statements behind it that no loop behind it has, the nearest first
unfoldable pub end_by : (ℕ → Option ℕ) → LoopForm → List ℕ → Option ℕ
end_by places (form.ToLabel label) closers = places label
end_by places form.ToEndDo [] = None
end_by places form.ToEndDo (closer ∷ closers) = Some closer
end_by places form.EndDo closers = None
end_by places form.Other closers = None

-- the END DO statements that are left in front of a statement; one that is the terminal statement of a loop with a label is none of them
unfoldable pub closers_by : LoopForm → Bool → ℕ → List ℕ → List ℕ
closers_by (form.ToLabel label) terminal i closers = closers
closers_by form.ToEndDo terminal i [] = []
closers_by form.ToEndDo terminal i (closer ∷ closers) = closers
closers_by form.EndDo terminal i closers = if terminal then closers else i ∷ closers
closers_by form.Other terminal i closers = closers

unfoldable pub closers_from : (Option ℕ → Bool) → ℕ → List Stmt → List ℕ
closers_from terminal i [] = []
closers_from terminal i (s ∷ ss) = closers_by (form_of s.body) (terminal s.label) i (closers_from terminal (suc i) ss)

unfoldable pub ends_from : (ℕ → Option ℕ) → (Option ℕ → Bool) → ℕ → List Stmt → List (Option ℕ)
ends_from places terminal i [] = []
ends_from places terminal i (s ∷ ss) = end_by places (form_of s.body) (closers_from terminal (suc i) ss) ∷ ends_from places terminal (suc i) ss

-- where the loop of each statement of a unit ends
unfoldable pub unit_ends : List Stmt → List (Option ℕ)
unit_ends ss = ends_from (labelled_at 0 ss) (is_loop_label (from_all loop_label_in ss)) 0 ss
