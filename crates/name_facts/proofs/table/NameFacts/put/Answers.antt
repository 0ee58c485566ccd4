use Rattle.std.proofs.Common.{◌≡◌, Bool, true, false, Option, Some, if◌then◌else◌, refl, ap, ◌∙◌, bytes_eq}
use Rattle.std.specs.HashMap.{get_by}
use Rattle.std.proofs.lemmas.Map.Text.{hash_map_updates_str}
use Rattle.name_facts.specs.declared.fact.NameFact.{NameFact}
use Rattle.name_facts.specs.GivenFacts.{fact_in, fact_or}
use Rattle.name_facts.proofs.table.NameFacts.put.Goals as goal

fact_by : (b : Bool) (fact : NameFact) (found : Option NameFact) → fact_or (if b then Some fact else found) ≡ (if b then fact else fact_or found)
unfolding fact_or
fact_by true fact found = refl
fact_by false fact found = refl

pub returns-in-Ok : goal.returns-in-Ok
unfolding fact_in
returns-in-Ok c = λ x.
    ap fact_or (hash_map_updates_str c.args.name.now c.args.self.now.facts c.insert.new.self (Some c.args.fact) c.in-Ok.ensures.updates x)
    ∙ fact_by (bytes_eq c.args.name.now x) c.args.fact (get_by (λ k. bytes_eq x k.now) c.args.self.now.facts)
