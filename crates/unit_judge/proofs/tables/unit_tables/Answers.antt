use Rattle.unit_judge.proofs.tables.unit_tables.Goals as goal

pub returns : goal.returns
returns c = record { signs = c.in_ok-signs.ensures; types = c.in_ok-types.ensures; facts = c.in_ok-facts.ensures }
