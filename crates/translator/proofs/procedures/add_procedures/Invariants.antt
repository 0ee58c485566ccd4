use Rattle.std.proofs.Common.{◌≡◌, ◌++◌, drop}
use Rattle.name_table.specs.Named.{names_in, IsNameSet}
use Rattle.translated_files.specs.TranslatedFiles.{procedure_names}
use Rattle.translator.proofs.procedures.add_procedures.Given as goal

abbrev pub invariant-loop-unit : goal.invariant-loop-unit
invariant-loop-unit l = (names_in l.names ++ procedure_names (drop l.unit-index l.units) ≡ names_in l.initial.names ++ procedure_names l.units) × IsNameSet l.names
