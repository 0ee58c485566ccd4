-- Where the steps of labels begin, as they are noted.
use Rattle.std.proofs.Common.{◌≡◌, ℕ, ◌+◌, List, Option, Some, None, slice_get, if◌then◌else◌, refl, sym, ap, ◌∙◌}
use Rattle.f_tree.specs.declared.statements.Stmt.{Stmt}
use Rattle.f_tree.specs.Attributes.{first_of_two}
use Rattle.f_tree.specs.Places.{has_label}
use Rattle.statement_places.specs.declared.places.StatementPlace.{StatementPlace}
use Rattle.unit_lowering.specs.LabelStarts.{start_by, start_at, label_start}
use Rattle.unit_lowering.proofs.RowLemmas.{joined_none, joined_more}

pub first_none : {A : Type 0} (o : Option A) → first_of_two o None ≡ o
unfolding first_of_two
first_none None = refl
first_none (Some a) = refl

-- a statement with its place
pub start_at-there : (l : ℕ) (ss : List Stmt) (places : List StatementPlace) (i : ℕ) (s : Stmt) (place : StatementPlace) →
    Some s ≡ slice_get ss i → Some place ≡ slice_get places i → (if has_label s.label l then Some place.start else None) ≡ start_at l ss places i
unfolding start_at start_by
start_at-there l ss places i s place there stands = ap (λ o. start_by l o (Some place)) there ∙ ap (start_by l (slice_get ss i)) stands

none_without : (l : ℕ) (o : Option Stmt) → start_by l o None ≡ None
unfolding start_by
none_without l None = refl
none_without l (Some s) = refl

-- no statement, or no place
pub start_at-no_statement : (l : ℕ) (ss : List Stmt) (places : List StatementPlace) (i : ℕ) (o : Option ℕ) → None ≡ slice_get ss i → o ≡ first_of_two o (start_at l ss places i)
unfolding start_at start_by
start_at-no_statement l ss places i o none = sym (ap (first_of_two o) (ap (λ s. start_by l s (slice_get places i)) (sym none)) ∙ first_none o)

pub start_at-no_place : (l : ℕ) (ss : List Stmt) (places : List StatementPlace) (i : ℕ) (o : Option ℕ) → None ≡ slice_get places i → o ≡ first_of_two o (start_at l ss places i)
unfolding start_at
start_at-no_place l ss places i o none =
    sym (ap (first_of_two o) (ap (start_by l (slice_get ss i)) (sym none) ∙ none_without l (slice_get ss i)) ∙ first_none o)

-- the first statements, and one more
pub label_start-none : (l : ℕ) (ss : List Stmt) (places : List StatementPlace) → label_start l ss places 0 ≡ None
unfolding label_start
label_start-none l ss places = joined_none first_of_two None (start_at l ss places)

pub label_start-more : (l : ℕ) (ss : List Stmt) (places : List StatementPlace) (i : ℕ) →
    label_start l ss places (i + 1) ≡ first_of_two (label_start l ss places i) (start_at l ss places i)
unfolding label_start
label_start-more l ss places i = joined_more first_of_two None (start_at l ss places) i
