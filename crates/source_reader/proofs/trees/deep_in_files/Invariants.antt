use Rattle.std.proofs.Common.{take}
use Rattle.source_acceptance.specs.declaration_rows.GlobalRows.{all_units}
use Rattle.file_parse.specs.FirstRefusals.{IsFirstAmong}
use Rattle.source_acceptance.specs.Acceptance.{deep_rows_of}
use Rattle.source_reader.proofs.trees.deep_in_files.Given as goal

abbrev pub invariant-loop-file : goal.invariant-loop-file
invariant-loop-file l = IsFirstAmong (deep_rows_of (all_units (take l.file-index l.files))) l.found
