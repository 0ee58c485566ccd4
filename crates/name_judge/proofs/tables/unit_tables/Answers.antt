use Rattle.name_judge.proofs.tables.unit_tables.Goals as goal

pub returns : goal.returns
returns c = record { types = c.in_ok-types.ensures; shapes = c.in_ok-shapes.ensures; places = c.in_ok-places.ensures }
