use Rattle.unit_writer.proofs.BoundLaws.{not-known, all-known}
use Rattle.unit_writer.proofs.locals.known_count.Goals as goal

pub returns-then-not-all_closed : goal.returns-then-not-all_closed
returns-then-not-all_closed c = not-known c.args.bounds.now c.all_closed.result c.all_closed.ensures c.if-not-all_closed.true

pub returns : goal.returns
returns c =
    all-known c.args.bounds.now c.all_closed.result c.in_ok-elements.field-0 c.in_ok-length_of.field-0 c.all_closed.ensures c.if-not-all_closed.false c.in_ok-elements.ensures
    c.in_ok-length_of.ensures
