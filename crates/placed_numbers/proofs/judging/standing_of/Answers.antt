use Rattle.placed_numbers.specs.Owned.{HavePlaces}
use Rattle.placed_numbers.proofs.Told.{sound_told, unsound_told}
use Rattle.placed_numbers.proofs.judging.standing_of.Goals as goal

pub returns-then-branch : goal.returns-then-branch
unfolding HavePlaces
returns-then-branch c = sound_told c.args.places.items c.as_slice.result.now c.args.firsts.now _ c.as_slice.ensures.value c.in_ok-are_clear.ensures c.if-branch.true

pub returns : goal.returns
unfolding HavePlaces
returns c = unsound_told c.args.places.items c.as_slice.result.now c.args.firsts.now _ c.as_slice.ensures.value c.in_ok-are_clear.ensures c.if-branch.false
