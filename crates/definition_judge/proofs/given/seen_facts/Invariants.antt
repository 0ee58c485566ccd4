use Rattle.std.proofs.Common.{◌≡◌, List, ℕ, Some, bytes_eq, drop, if◌then◌else◌}
use Rattle.std.specs.HashMap.{get_by}
use Rattle.f_tree.specs.Uses.{is_among}
use Rattle.name_facts.specs.GivenFacts.{fact_in}
use Rattle.name_table.specs.Named.{texts}
use Rattle.definition_judge.specs.KnownFunctions.{seen_of, seen_among}
use Rattle.definition_judge.proofs.given.seen_facts.Given as goal

abbrev pub invariant-loop-name : goal.invariant-loop-name
invariant-loop-name l =
    (x : List ℕ) → seen_among l.facts (texts l.names) x
    ≡ (if is_among x (texts (drop l.name-index l.names)) then Some (seen_of (fact_in l.facts x)) else get_by (λ k. bytes_eq x k.now) l.table)
