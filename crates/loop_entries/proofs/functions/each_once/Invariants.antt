use Rattle.std.proofs.Common.{◌≡◌, ℕ, Bool, take}
use Rattle.std.specs.List.{list_all}
use Rattle.loop_entries.proofs.functions.each_once.Given as goal

abbrev pub invariant-loop-label : goal.invariant-loop-label
invariant-loop-label l = (known : ℕ → Bool) → list_all known l.once.items ≡ list_all known (take l.label-index l.labels)
