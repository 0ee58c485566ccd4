use Rattle.std.proofs.Common.{◌≡◌, ◌+◌, ◌^◌, drop}
use Rattle.offset_classes.specs.Standing.{links_of, reach}
use Rattle.placed_numbers.proofs.reaching.is_near.Given as goal

abbrev pub invariant-loop-equation : goal.invariant-loop-equation
invariant-loop-equation l = reach (links_of l.equations) + l.room ≡ 2 ^ 61 + reach (links_of (drop l.equation-index l.equations))
