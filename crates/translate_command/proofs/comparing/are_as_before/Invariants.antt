use Rattle.std.proofs.Common.{◌-◌, take, length}
use Rattle.translate_command.proofs.OldLemmas.{AreStill}
use Rattle.translate_command.proofs.comparing.are_as_before.Given as goal

-- the files up to here have their prototypes
abbrev pub invariant-loop-number : goal.invariant-loop-number
invariant-loop-number g l = AreStill (take l.number l.olds) (take l.number l.lists) (g.H.Shelf.state l.initial.shelf) (g.H.Shelf.state l.shelf)

abbrev pub decreases-loop-number : goal.decreases-loop-number
decreases-loop-number g l = length l.olds - l.number
