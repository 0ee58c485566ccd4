use Rattle.std.proofs.Common.{◌≡◌, drop}
use Rattle.f_tree.specs.Attributes.{letter_is_in}
use Rattle.declared_types.proofs.implied.letter_is_in.Given as goal

abbrev pub invariant-loop-range : goal.invariant-loop-range
invariant-loop-range l = letter_is_in l.letter l.ranges ≡ letter_is_in l.letter (drop l.range-index l.ranges)
