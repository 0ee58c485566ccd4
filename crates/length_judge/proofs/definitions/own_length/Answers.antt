use Rattle.length_judge.proofs.KnownLaws.{own_fact_known}
use Rattle.length_judge.proofs.definitions.own_length.Goals as goal

pub returns : goal.returns
returns c = own_fact_known c.args.unit.now c.args.name.now _ _ c.in_ok-fact.ensures c.fact_length.ensures
