use Rattle.stmt_lex.proofs.PlaceLemmas.{within_at}
use Rattle.stmt_lex.proofs.places.places_of.Goals as goal

pub place_of-requires-clause-within : goal.place_of-requires-clause-within
place_of-requires-clause-within c = (within_at c.args.places.now c.args.extents.now c.loop-extent.extent-index _ c.requires c.loop-extent-test.true).sum

pub place_of-requires-clause-rises : goal.place_of-requires-clause-rises
place_of-requires-clause-rises c = (within_at c.args.places.now c.args.extents.now c.loop-extent.extent-index _ c.requires c.loop-extent-test.true).last
