use Rattle.std.proofs.Common.{◌≡◌, ◌-◌, length, drop}
use Rattle.declaration_rows.specs.Verdicts.{first_of}
use Rattle.found_rows.proofs.first_of.Given as goal

abbrev pub invariant-loop-behind : goal.invariant-loop-behind
invariant-loop-behind l = l.first ≡ first_of (drop (length l.found - l.behind) l.found)
