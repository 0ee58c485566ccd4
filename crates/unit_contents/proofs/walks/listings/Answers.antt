use Rattle.std.proofs.Common.{arith}
use Rattle.unit_contents.proofs.WalkLaws.{listing_more, listings_whole}
use Rattle.unit_contents.proofs.walks.listings.Goals as goal

pub loop-position-preserved : goal.loop-position-preserved
loop-position-preserved c =
    listing_more c.args.steps.now c.loop-position.position c.index-steps-position.result c.begun_unit.result _ _ _ c.loop-position-test.true c.index-steps-position.is c.begun_unit.ensures
    c.in_ok-add_listing.ensures c.loop-position.invariant

pub returns : goal.returns
returns c = listings_whole c.args.steps.now c.loop-position.position c.loop-position.lists.items _ (omega arith) c.loop-position.invariant
