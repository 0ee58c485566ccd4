use Rattle.std.proofs.Common.{◌≡◌, ◌*◌, ◌≤◌, ◌-◌, ◌^◌, min, drop}
use Rattle.name_facts.specs.Dimensions.{elements_in}
use Rattle.plain_names.proofs.bounds.elements.Given as goal

abbrev pub invariant-loop-bound : goal.invariant-loop-bound
invariant-loop-bound l = record {
  counted : min (elements_in l.bounds) (2 ^ 64 - 1) ≡ min (l.count * elements_in (drop l.bound-index l.bounds)) (2 ^ 64 - 1);
  fits : l.count ≤ 2 ^ 64 - 1;
}
