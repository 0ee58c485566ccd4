use Rattle.std.proofs.Common.{◌≡◌, drop}
use Rattle.name_table.specs.Named.{names_in}
use Rattle.constant_values.specs.Folded.{all_some}
use Rattle.constant_values.specs.KnownConstants.{known_by}
use Rattle.constant_values.specs.Operands.{data_of, each_folded}
use Rattle.constant_values.proofs.ListLemmas.{behind}
use Rattle.constant_values.proofs.valuing.+value.Given as goal

abbrev pub invariant-values_in-loop-e : goal.invariant-values_in-loop-e
invariant-values_in-loop-e l =
    all_some (each_folded (known_by l.constants (names_in l.functions)) l.es (data_of l.arguments))
    ≡ behind (data_of l.values) (all_some (each_folded (known_by l.constants (names_in l.functions)) (drop l.e-index l.es) (data_of l.arguments)))
