use Rattle.std.proofs.lemmas.Result.{IfOk-weaker}
use Rattle.open_loops.proofs.UnitLemmas.{places_found}
use Rattle.open_loops.proofs.places.loop_places.Goals as goal

pub returns-in-Ok-clause-places : goal.returns-in-Ok-clause-places
returns-in-Ok-clause-places c =
    IfOk-weaker c.places_between.result _ _
    (λ places found.
    places_found c.args.table.now c.args.once c.args.unit.now c.in-Ok.ends.items c.as_slice.result.now c.as_slice-in-Ok.result.now places.items c.as_slice.ensures c.as_slice-in-Ok.ensures.value
    (record { count = c.in-Ok.ensures.count; ranges = c.in-Ok.ensures.ranges }) found)
    c.places_between.ensures.places
