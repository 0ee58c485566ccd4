use Rattle.std.proofs.Common.{◌≡◌, ◌*◌, ◌≤◌, min}
use Rattle.small_instance.specs.Translation.{sizes_before}
use Rattle.small_instance.proofs.lowering.sizes_before.Given as goal

abbrev pub invariant-loop-i : goal.invariant-loop-i
invariant-loop-i l = (l.total ≡ sizes_before l.body (min l.i l.n)) × (l.total ≤ 5 * l.i)
