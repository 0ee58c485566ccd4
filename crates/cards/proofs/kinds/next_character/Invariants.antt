use Rattle.std.proofs.Common.{◌≡◌, length}
use Rattle.cards.specs.Squeezed.{squeezed}
use Rattle.cards.proofs.kinds.next_character.Given as goal

abbrev pub invariant-loop-rest : goal.invariant-loop-rest
invariant-loop-rest l = squeezed l.fn.text ≡ squeezed l.rest

abbrev pub decreases-loop-rest : goal.decreases-loop-rest
decreases-loop-rest l = length l.rest
