use Rattle.std.proofs.Common.{◌≡◌, List, ℕ, Some, bytes_eq, drop, option_map, if◌then◌else◌}
use Rattle.std.specs.HashMap.{get_by}
use Rattle.std.specs.List.{list_any}
use Rattle.name_facts.specs.GivenFacts.{fact_in}
use Rattle.unit_writer.specs.Told.{seen_among, seen_by, seen_of}
use Rattle.unit_writer.proofs.TableLemmas.{texts}
use Rattle.unit_writer.proofs.telling.variables.Given as goal

abbrev pub invariant-loop-name : goal.invariant-loop-name
invariant-loop-name l =
    (x : List ℕ) → seen_among l.table l.kept (texts l.names) x
    ≡ (if list_any (bytes_eq x) (texts (drop l.name-index l.names)) then Some (seen_by l.kept x (fact_in l.table x)) else option_map seen_of (get_by (λ k. bytes_eq x k.now) l.found))
