use Rattle.std.proofs.Common.{◌≡◌, ◌*◌, drop}
use Rattle.name_facts.specs.Dimensions.{elements_in}
use Rattle.unit_writer.proofs.bounds.elements.Given as goal

abbrev pub invariant-loop-bound : goal.invariant-loop-bound
invariant-loop-bound l = elements_in l.bounds ≡ l.count * elements_in (drop l.bound-index l.bounds)
