-- What tables say of the positions of a text, whatever else its unit is. ANSI X3.9-1978, sections 4.1 and 11; C89, 3.6.
use Rattle.std.specs.List.{list_any}
use Rattle.std.specs.Option.{option_flatten}
use Rattle.std.specs.Prelude.{◌≡◌, ℕ, suc, ◌<◌, nat_eq, Bool, false, ◌&&◌, List, map, length, drop, position, Option, Some, None, is_none, slice_get, slice_index_or, if◌then◌else◌}
use Rattle.std.specs.HashMap.{get_by}
use Rattle.f_tree.specs.Facts.{Facts}
use Rattle.lowered_tree.specs.l_core.Steps.{Mark, Marked, Text}
use Rattle.lowered_tree.specs.declared.steps.Step.{Step}
use Rattle.lowered_tree.specs.Shapes.{steps_of}
use Rattle.lowered_text.specs.declared.text.LoweredText.{LoweredText}
use Rattle.lowered_text.specs.declared.kept.Kept.{Kept}
use Rattle.lowered_text.specs.Texts.{marked_of, kinds_of}
use Rattle.main_translation.specs.Flow.{is_target}
use Rattle.main_translation.specs.Outlined.{labels_in, label_before, whiles_in, label_at, passes_arms, is_opening, turn_of, is_opening_once, turn_behind, loop_at}
use Rattle.unit_translation.specs.UnitFlow.{kind_before}
use Rattle.name_facts.specs.declared.table.NameFacts.{NameFacts}
use Rattle.named_items.specs.declared.layout.Layout.{Layout}
use Rattle.named_items.specs.Layouts.{layout_of}
use Rattle.unit_contents.specs.ContentsOf.{TellsNames}

-- where the steps of the statement with a label begin
abbrev pub place_in : LoweredText → ℕ → Option ℕ
place_in t label = get_by (nat_eq label) t.labels

-- the text of a unit of which this is known
abbrev pub text_of : LoweredText → Facts → (ℕ → ℕ) → Text
text_of t c begins = record { facts = c; steps = steps_of t.steps.items; begins = begins; position = place_in t; marks = map marked_of t.marks.items }

-- which positions are reached by a branch, up to the one behind the last step
pub record AreTargets (t : LoweredText) (targets : List Bool) : Type 0 where
  pub size : length targets ≡ suc (length t.steps.items)
  pub told : (c : Facts) (begins : ℕ → ℕ) (n : ℕ) → n < length targets → slice_get targets n ≡ Some (is_target (text_of t c begins) n)

-- what is known before each step
pub record AreKinds (table : NameFacts) (t : LoweredText) (kinds : List (Option Kept)) : Type 0 where
  pub size : length kinds ≡ suc (length t.steps.items)
  pub told : (c : Facts) (begins : ℕ → ℕ) → TellsNames table c → (n k : ℕ) → n < length kinds
      → kinds_of (option_flatten (slice_get kinds n)) k ≡ kind_before (text_of t c begins) n k

-- the first of the labels to which steps branch that stands at each position
pub record AreLabels (t : LoweredText) (labels : List (Option ℕ)) : Type 0 where
  pub size : length labels ≡ length t.steps.items
  pub told : (n : ℕ) → n < length labels → slice_index_or labels n None ≡ label_before (place_in t) n (labels_in (steps_of t.steps.items))

-- the first of the loops that go by a condition alone that begins at each position, by its number from 0
pub record AreWhiles (t : LoweredText) (numbers : List (Option ℕ)) : Type 0 where
  pub size : length numbers ≡ length t.steps.items
  pub told : (n : ℕ) → n < length numbers → slice_index_or numbers n None ≡ position (nat_eq n) (whiles_in (map marked_of t.marks.items))

-- the labels of the positions
pub record AreNames (t : LoweredText) (names : List (Option (List ℕ))) : Type 0 where
  pub size : length names ≡ length t.steps.items
  pub told : (c : Facts) (begins : ℕ → ℕ) (n : ℕ) → slice_index_or names n None ≡ label_at (text_of t c begins) n

-- does a mark open a loop that is tested behind each turn alone, or else one that is tested before each
abbrev pub is_opening_by : Bool → Mark → Bool
is_opening_by once mark = if once then is_opening_once mark else is_opening mark

abbrev pub opens_by : Bool → ℕ → Marked → Bool
opens_by once n one = is_opening_by once one.mark && nat_eq one.at n

-- where loops of one of these kinds open
pub record AreOpenings (t : LoweredText) (once : Bool) (openings : List Bool) : Type 0 where
  pub size : length openings ≡ length t.steps.items
  pub told : (n : ℕ) → n < length openings → slice_index_or openings n false ≡ list_any (opens_by once n) (map marked_of t.marks.items)

-- which steps are the jumps at the ends of arms
pub record AreArms (steps : List Step) (names : List (Option (List ℕ))) (arms : List Bool) : Type 0 where
  pub size : length arms ≡ length steps
  pub told : (n : ℕ) → n < length arms → slice_index_or arms n false ≡ passes_arms (slice_get (steps_of steps) n) && is_none (slice_index_or names n None)

-- the turn of a loop that opens at a step with its test, or of one that opens with its turn
abbrev pub turn_by : Bool → Bool → Option ℕ → Option ℕ → Option ℕ
turn_by opens once tested behind = if opens then tested else if once then behind else None

-- how many steps the turn of a loop has that opens at a step
abbrev pub turn_opened : List Step → List Bool → List Bool → ℕ → Option ℕ
turn_opened steps openings onces n =
    turn_by (slice_index_or openings n false) (slice_index_or onces n false) (turn_of (slice_get (steps_of steps) n)) (turn_behind 0 (drop n (steps_of steps)))

-- and by the step before it
pub record AreTurns (steps : List Step) (openings onces : List Bool) (turns : List (Option ℕ)) : Type 0 where
  pub size : length turns ≡ length steps
  pub told : (n : ℕ) → n < length turns → slice_index_or turns n None ≡ turn_opened steps openings onces (suc n)

-- labels, arms and loops
pub record AreLaidOut (t : LoweredText) (layout : Layout) : Type 0 where
  pub labels : (c : Facts) (begins : ℕ → ℕ) (n : ℕ) → (layout_of layout).label n ≡ label_at (text_of t c begins) n
  pub arms : (c : Facts) (begins : ℕ → ℕ) (n : ℕ) → (layout_of layout).ends_arm n ≡ passes_arms (slice_get (steps_of t.steps.items) n) && is_none (label_at (text_of t c begins) n)
  pub loops : (c : Facts) (begins : ℕ → ℕ) (n : ℕ) → (layout_of layout).loop n ≡ loop_at (text_of t c begins) n
