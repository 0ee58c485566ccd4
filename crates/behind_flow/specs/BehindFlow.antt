-- What is read off a lowered text that stands behind what keeps the bounds of dummy arrays: the same as off the text as it was, each step being so many places
-- further on. ANSI X3.9-1978, sections 4.1, 5.5.1, 11, 12.9 and 15.5; C89, 3.6.
use Rattle.std.specs.List.{list_any}
use Rattle.std.specs.Prelude.{◌≡◌, ℕ, ◌+◌, ◌<◌, ◌≤◌, nat_eq, false, List, map, position, Some, None, slice_get}
use Rattle.unit_translation.specs.l_core.Steps.{Step, Text}
use Rattle.unit_translation.specs.main_file.MainFile.{Listing}
use Rattle.unit_translation.specs.main_file.MainItems.{stops_from}
use Rattle.unit_translation.specs.main_translation.Flow.{is_target, stage_at}
use Rattle.unit_translation.specs.main_translation.Contents.{listings_from, calls_of, text_at}
use Rattle.unit_translation.specs.main_translation.Outlined.{label_at, opens_loop, opens_once, loop_at}
use Rattle.unit_translation.specs.UnitFlow.{kind_before, are_in_place}
use Rattle.unit_translation.specs.UnitContents.{values_from, temporaries_kept, procedures_in}
use Rattle.behind_bounds.specs.BehindBounds.{behind, GoesBackWithin}

-- each step that goes back goes to one of the text
abbrev pub GoBackWithin : List Step → Type 0
GoBackWithin steps = (n : ℕ) (st : Step) → slice_get steps n ≡ Some st → GoesBackWithin n st

-- what is known before each step
pub record FlowsBehind (first : ℕ) (u : Text) : Type 0 where
  pub targets : (n : ℕ) → is_target (behind first u) (first + n) ≡ is_target u n
  pub targets_before : (n : ℕ) → n < first → is_target (behind first u) n ≡ false
  pub kinds : (n k : ℕ) → kind_before (behind first u) (first + n) k ≡ kind_before u n k
  pub kinds_before : (n k : ℕ) → n ≤ first → kind_before (behind first u) n k ≡ None
  pub stages : (n : ℕ) → stage_at (behind first u) (first + n) ≡ stage_at u n
  pub stages_before : (n : ℕ) → n ≤ first → stage_at (behind first u) n ≡ None
  pub in_place : are_in_place (behind first u) 0 (behind first u).steps ≡ are_in_place u 0 u.steps
  pub values : values_from (behind first u) 0 (behind first u).steps ≡ values_from u 0 u.steps

-- LAW
abbrev pub FlowsAreBehind : Type 0
FlowsAreBehind = (first : ℕ) (u : Text) → GoBackWithin u.steps → FlowsBehind first u

-- labels and loops; a loop begins behind the first step
pub record OutlinedBehind (first : ℕ) (u : Text) : Type 0 where
  pub labels : (n : ℕ) → label_at (behind first u) (first + n) ≡ label_at u n
  pub labels_before : (n : ℕ) → n < first → label_at (behind first u) n ≡ None
  pub loops : (n : ℕ) → loop_at (behind first u) (first + n) ≡ loop_at u n
  pub loops_before : list_any (opens_loop 0) u.marks ≡ false → list_any (opens_once 0) u.marks ≡ false → (n : ℕ) → n < first → loop_at (behind first u) n ≡ None

-- LAW
abbrev pub OutlinesAreBehind : Type 0
OutlinesAreBehind = (first : ℕ) (u : Text) → OutlinedBehind first u

unfoldable pub listing_behind : ℕ → Listing → Listing
listing_behind first l = record { step = first + l.step; unit = l.unit }

-- what a function has
pub record ContentsBehind (first : ℕ) (u : Text) : Type 0 where
  pub lists : listings_from 0 (behind first u).steps ≡ map (listing_behind first) (listings_from 0 u.steps)
  pub list_places : (n : ℕ) →
      position (λ (l : Listing). nat_eq (first + n) l.step) (listings_from 0 (behind first u).steps) ≡ position (λ (l : Listing). nat_eq n l.step) (listings_from 0 u.steps)
  pub strings : stops_from 0 (behind first u).steps ≡ map (λ n. first + n) (stops_from 0 u.steps)
  pub string_places : (n : ℕ) → position (nat_eq (first + n)) (stops_from 0 (behind first u).steps) ≡ position (nat_eq n) (stops_from 0 u.steps)
  pub texts : (n : ℕ) → text_at (slice_get (behind first u).steps (first + n)) ≡ text_at (slice_get u.steps n)
  pub temporaries : temporaries_kept (behind first u).steps ≡ temporaries_kept u.steps
  pub calls : calls_of (behind first u).steps ≡ calls_of u.steps
  pub procedures : procedures_in (behind first u) ≡ procedures_in u

-- LAW
abbrev pub ContentsAreBehind : Type 0
ContentsAreBehind = (first : ℕ) (u : Text) → ContentsBehind first u

unfoldable pub behind_flow_opened : Unit {0}
unfolding listing_behind
behind_flow_opened = tt
