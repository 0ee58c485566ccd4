-- That the ways back of a lowered unit go to a step of the unit: those behind the terminal statement of a loop, to its test, to its range or to the
-- condition of a DO WHILE; and that a loop opens behind the first step, which defines its variable. ANSI X3.9-1978, section 11.10; MIL-STD-1753 for DO WHILE.
use Rattle.std.specs.Prelude.{◌≡◌, ℕ, ◌≤◌, Some, slice_get}
use Rattle.lowering.specs.l_core.f_tree.Facts.{Facts}
use Rattle.lowering.specs.l_core.Pures.{Pure}
use Rattle.lowering.specs.l_core.Steps.{Again, AgainIf, OpensLoop, OpensLoopOnce, Marked, Text}
use Rattle.lowering.specs.Units.{lowered_unit}

-- LAW
abbrev pub WaysBackStayWithin : Type 0
WaysBackStayWithin = (c : Facts) (u : Text) → lowered_unit c ≡ Some u → (n m : ℕ) → slice_get u.steps n ≡ Some (Again m) → m ≤ n

-- LAW
abbrev pub WaysBackIfStayWithin : Type 0
WaysBackIfStayWithin = (c : Facts) (u : Text) → lowered_unit c ≡ Some u → (n : ℕ) (p : Pure) (m : ℕ) → slice_get u.steps n ≡ Some (AgainIf p m) → m ≤ n

-- where a loop opens, its variable is defined by a step before
pub record OpensBehind (one : Marked) : Type 0 where
  pub loop : one.mark ≡ OpensLoop → 1 ≤ one.at
  pub once : one.mark ≡ OpensLoopOnce → 1 ≤ one.at

-- LAW
abbrev pub LoopsOpenBehind : Type 0
LoopsOpenBehind = (c : Facts) (u : Text) → lowered_unit c ≡ Some u → (k : ℕ) (one : Marked) → slice_get u.marks k ≡ Some one → OpensBehind one
