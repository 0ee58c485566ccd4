use Rattle.std.proofs.Common.{◌≡◌, drop}
use Rattle.f_tree.specs.Attributes.{by_letter}
use Rattle.declared_types.specs.TypeTables.{groups_in}
use Rattle.declared_types.proofs.implied.by_letter.Given as goal

abbrev pub invariant-loop-group : goal.invariant-loop-group
invariant-loop-group l = by_letter l.letter (groups_in l.groups) ≡ by_letter l.letter (groups_in (drop l.group-index l.groups))
