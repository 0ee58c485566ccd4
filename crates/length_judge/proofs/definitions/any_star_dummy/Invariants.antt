use Rattle.std.proofs.Common.{◌≡◌, drop}
use Rattle.std.specs.List.{list_any}
use Rattle.name_table.specs.Named.{texts}
use Rattle.length_judge.specs.KnownNames.{is_star_dummy}
use Rattle.length_judge.proofs.definitions.any_star_dummy.Given as goal

abbrev pub invariant-loop-dummy : goal.invariant-loop-dummy
invariant-loop-dummy l = list_any (is_star_dummy l.unit) (texts l.dummies) ≡ list_any (is_star_dummy l.unit) (texts (drop l.dummy-index l.dummies))
