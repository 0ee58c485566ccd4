use Rattle.file_parse.specs.Splices.{cards_named}
use Rattle.file_parse.proofs.SpliceLemmas.{units_go_on, units_end}
use Rattle.file_parse.proofs.splices.units_with_parts.Goals as goal

pub loop-unit-preserved : goal.loop-unit-preserved
loop-unit-preserved c =
    units_go_on (cards_named c.args.places.now) c.args.units c.loop-unit.waiting c.pop.new.self c.loop-unit.done c.in-Some.unit c.in-Ok.more
    c.loop-unit.invariant c.in-Some.ensures c.in-Ok.ensures

pub returns : goal.returns
returns c =
    units_end (cards_named c.args.places.now) c.args.units c.loop-unit.waiting c.loop-unit.done c.loop-unit.invariant c.in_default.ensures.0
