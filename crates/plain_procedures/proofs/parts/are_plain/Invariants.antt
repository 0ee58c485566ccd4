use Rattle.std.proofs.Common.{◌≡◌, drop}
use Rattle.std.specs.List.{list_all}
use Rattle.plain_procedures.specs.ToldNames.{plain_in}
use Rattle.plain_procedures.proofs.parts.are_plain.Given as goal

abbrev pub invariant-loop-name : goal.invariant-loop-name
invariant-loop-name l = list_all (plain_in l.unit l.table l.function) l.names ≡ list_all (plain_in l.unit l.table l.function) (drop l.name-index l.names)
