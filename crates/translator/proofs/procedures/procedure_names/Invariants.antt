use Rattle.std.proofs.Common.{◌≡◌, ◌++◌, drop}
use Rattle.name_table.specs.Named.{names_in, IsNameSet}
use Rattle.declaration_rows.specs.GlobalRows.{all_units}
use Rattle.translated_files.specs.TranslatedFiles.{procedure_names}
use Rattle.translator.proofs.procedures.procedure_names.Given as goal

abbrev pub invariant-loop-file : goal.invariant-loop-file
invariant-loop-file l = (names_in l.names ++ procedure_names (all_units (drop l.file-index l.files)) ≡ procedure_names (all_units l.files)) × IsNameSet l.names
