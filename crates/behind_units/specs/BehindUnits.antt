-- Lowered units behind what keeps the bounds of their dummy arrays. ANSI X3.9-1978, sections 5.5.1 and 11.
use Rattle.std.specs.Prelude.{◌≡◌, ℕ, ◌<◌, Some, None}
use Rattle.behind_flow.specs.f_tree.Facts.{Facts}
use Rattle.behind_flow.specs.l_core.Steps.{Text}
use Rattle.behind_flow.specs.main_translation.Outlined.{loop_at}
use Rattle.ways_back.specs.lowering.Units.{lowered_unit}
use Rattle.behind_flow.specs.behind_bounds.BehindBounds.{behind, StandBehind}
use Rattle.behind_flow.specs.BehindFlow.{GoBackWithin, FlowsBehind, OutlinedBehind, ContentsBehind}

pub record UnitStandsBehind (first : ℕ) (u : Text) : Type 0 where
  pub within : GoBackWithin u.steps
  pub steps : StandBehind first u
  pub flows : FlowsBehind first u
  pub outlined : OutlinedBehind first u
  pub loops_before : (n : ℕ) → n < first → loop_at (behind first u) n ≡ None
  pub contents : ContentsBehind first u

-- LAW
abbrev pub LoweredUnitsStandBehind : Type 0
LoweredUnitsStandBehind = (c : Facts) (u : Text) → lowered_unit c ≡ Some u → (first : ℕ) → UnitStandsBehind first u
