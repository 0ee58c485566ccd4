-- The text of a lowered unit may stand behind others.
use Rattle.std.specs.List.{list_any}
use Rattle.std.specs.Prelude.{◌≡◌, ℕ, suc, ◌≤◌, nat_eq, false, ◌&&◌, ◌||◌, List, [], ◌∷◌, Some, slice_get}
use Rattle.std.proofs.Common.{refl, ap, ◌∙◌, arith}
use Rattle.std.proofs.lemmas.Bool.Decides.{nat_tests}
use Rattle.behind_flow.specs.f_tree.Facts.{Facts}
use Rattle.behind_flow.specs.l_core.Steps.{Mark, OpensLoop, OpensLoopOnce, Marked, Text}
use Rattle.behind_flow.specs.main_translation.Outlined.{is_opening, opens_loop, is_opening_once, opens_once}
use Rattle.ways_back.specs.lowering.Units.{lowered_unit}
use Rattle.ways_back.specs.WaysBack.{OpensBehind}
use Rattle.ways_back.proofs.UnitWays.{ways_back, ways_back_if}
use Rattle.ways_back.proofs.UnitMarks.{loops_open_behind}
use Rattle.behind_flow.proofs.behind_bounds.StepsBehind.{steps_stand_behind}
use Rattle.behind_flow.specs.BehindFlow.{GoBackWithin}
use Rattle.behind_flow.proofs.FlowBehind.{flows_behind}
use Rattle.behind_flow.proofs.OutlineBehind.{outlined_behind}
use Rattle.behind_flow.proofs.ContentBehind.{contents_behind}
use Rattle.behind_units.specs.BehindUnits.{LoweredUnitsStandBehind}

not_first : (n : ℕ) → 1 ≤ n → nat_eq n 0 ≡ false
not_first n late = grind (arith, nat_tests, late)

opens_by : (mark : Mark) (n : ℕ) → (mark ≡ OpensLoop → 1 ≤ n) → (is_opening mark && nat_eq n 0) ≡ false
unfolding is_opening
opens_by OpensLoop n late = not_first n (late refl)
opens_by mark n late = refl

once_by : (mark : Mark) (n : ℕ) → (mark ≡ OpensLoopOnce → 1 ≤ n) → (is_opening_once mark && nat_eq n 0) ≡ false
unfolding is_opening_once
once_by OpensLoopOnce n late = not_first n (late refl)
once_by mark n late = refl

none_opens : (marks : List Marked) → ((k : ℕ) (one : Marked) → slice_get marks k ≡ Some one → OpensBehind one) → list_any (opens_loop 0) marks ≡ false
unfolding opens_loop
none_opens [] late = refl
none_opens (one ∷ later) late = λ i. opens_by one.mark one.at (late 0 one refl).loop i || none_opens later (λ k other at. late (suc k) other at) i

none_once : (marks : List Marked) → ((k : ℕ) (one : Marked) → slice_get marks k ≡ Some one → OpensBehind one) → list_any (opens_once 0) marks ≡ false
unfolding opens_once
none_once [] late = refl
none_once (one ∷ later) late = λ i. once_by one.mark one.at (late 0 one refl).once i || none_once later (λ k other at. late (suc k) other at) i

goes_within : (c : Facts) (u : Text) → lowered_unit c ≡ Some u → GoBackWithin u.steps
goes_within c u lowered n st at = record {
  again = λ m is. ways_back c u lowered n m (at ∙ ap Some is);
  again_if = λ p m is. ways_back_if c u lowered n p m (at ∙ ap Some is);
}

pub units_stand_behind : LoweredUnitsStandBehind
units_stand_behind c u lowered first =
    let within = goes_within c u lowered in
    let outlined = outlined_behind first u in
    let late = loops_open_behind c u lowered in
    record {
      within = within;
      steps = steps_stand_behind first u;
      flows = flows_behind first u within;
      outlined = outlined;
      loops_before = λ n below. outlined.loops_before (none_opens u.marks late) (none_once u.marks late) n below;
      contents = contents_behind first u;
    }
