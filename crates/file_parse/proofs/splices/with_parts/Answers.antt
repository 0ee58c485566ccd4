use Rattle.file_parse.specs.Splices.{cards_named}
use Rattle.file_parse.proofs.SpliceLemmas.{splicing_goes_on, splicing_ends}
use Rattle.file_parse.proofs.splices.with_parts.Goals as goal

pub loop-statement-preserved : goal.loop-statement-preserved
loop-statement-preserved c =
    splicing_goes_on (cards_named c.args.places.now) c.args.statements c.loop-statement.waiting c.pop.new.self c.loop-statement.done c.in-Some.statement c.in-Ok.more
    c.loop-statement.invariant c.in-Some.ensures c.in-Ok.ensures

pub returns : goal.returns
returns c =
    splicing_ends (cards_named c.args.places.now) c.args.statements c.loop-statement.waiting c.loop-statement.done c.loop-statement.invariant c.in_default.ensures.0
