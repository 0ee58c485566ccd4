use Rattle.std.proofs.Common.{option_map, ap}
use Rattle.name_facts.specs.declared.fact.NameFact.{NameFact}
use Rattle.std.specs.Borrow.{Bor}
use Rattle.name_judge.proofs.KindLemmas.{fact_there, fact_missing}
use Rattle.name_judge.proofs.judge.add_name_rows.Goals as goal

pub add_fact_rows-requires-clause-fact : goal.add_fact_rows-requires-clause-fact
add_fact_rows-requires-clause-fact c =
    fact_there c.args.unit.now c.args.facts.now c.args.name.now _ _ c.requires.facts c.get.ensures (ap (option_map (λ (f : Bor NameFact). f.now)) c.in-Some.is)

pub add_fact_rows-requires-in-None-clause-fact : goal.add_fact_rows-requires-in-None-clause-fact
add_fact_rows-requires-in-None-clause-fact c =
    fact_missing c.args.unit.now c.args.facts.now c.args.name.now _ _ c.requires.facts c.get.ensures (ap (option_map (λ (f : Bor NameFact). f.now)) c.in-None.is) c.requires.nothing
