use Rattle.std.proofs.Common.{◌≡◌, ℕ, ◌-◌, ◌<◌, ◌≤◌, false, length}
use Rattle.std.specs.Prelude.{get_or}
use Rattle.program_runner.specs.Stacks.{flags_in}
use Rattle.program_runner.proofs.stack.clear.Given as goal

abbrev pub invariant-loop-number : goal.invariant-loop-number
invariant-loop-number l = record {
  size : length l.room ≡ length l.initial.room;
  few : l.number ≤ length l.room;
  clear : (other : ℕ) → other < l.number → get_or (flags_in l.room) other false ≡ false;
}

abbrev pub decreases-loop-number : goal.decreases-loop-number
decreases-loop-number l = length l.room - l.number
