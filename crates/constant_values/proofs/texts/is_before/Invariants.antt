use Rattle.std.proofs.Common.{◌≡◌, ◌+◌, length}
use Rattle.f_tree.specs.Valuing.{is_before}
use Rattle.constant_values.proofs.texts.is_before.Given as goal

abbrev pub invariant-compared : goal.invariant-compared
invariant-compared l = is_before l.left l.right ≡ is_before l.one l.other

abbrev pub decreases-compared : goal.decreases-compared
decreases-compared l = length l.left + length l.right
