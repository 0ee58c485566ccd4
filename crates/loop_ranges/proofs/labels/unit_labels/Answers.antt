use Rattle.loop_ranges.proofs.labels.unit_labels.Goals as goal

pub returns : goal.returns
returns c = record { places = c.in_ok-places.ensures; named = c.in_ok-named.ensures }
