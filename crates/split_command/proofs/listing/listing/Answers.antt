use Rattle.split_command.proofs.ListingLemmas.{listing_on, listing_ends}
use Rattle.split_command.proofs.listing.listing.Goals as goal

pub loop-name-preserved : goal.loop-name-preserved
loop-name-preserved c =
    listing_on c.args.names.now c.loop-name.name-index c.name-item.result c.as_bytes.result.now c.loop-name.text.items c.extend_from_slice.new.self.items
    c.push.new.self.items c.loop-name-test.true c.name-item.is c.as_bytes.ensures.value c.in_ok-extend_from_slice.ensures.items c.in_ok-push.ensures.items
    c.loop-name.invariant

pub returns : goal.returns
returns c = listing_ends c.args.names.now c.loop-name.name-index c.loop-name.text.items c.loop-name-test.false c.loop-name.invariant
