use Rattle.std.proofs.Common.{ap, ◌++◌}
use Rattle.declaration_rows.specs.GlobalRows.{all_units}
use Rattle.translated_files.specs.TranslatedFiles.{procedure_names}
use Rattle.translator.proofs.NameLemmas.{more_file_names, all_procedures}
use Rattle.translator.proofs.procedures.procedure_names.Goals as goal

pub loop-file-init : goal.loop-file-init
loop-file-init c = (ap (λ xs. xs ++ procedure_names (all_units c.args.files.now)) c.new-names.ensures.names, c.new-names.ensures.is_set)

pub loop-file-preserved : goal.loop-file-preserved
loop-file-preserved c = (
  more_file_names c.args.files.now c.loop-file.file-index c.file-item.result _ c.as_slice.result.now _ _ _ c.loop-file-test.true c.file-item.is c.as_slice.ensures c.in_ok-add_procedures.ensures
      c.loop-file.invariant.0,
  c.in_ok-add_procedures.ensures.is_set,
)

pub returns-clause-names : goal.returns-clause-names
returns-clause-names c = all_procedures c.args.files.now c.loop-file.file-index c.loop-file.names c.loop-file-test.false c.loop-file.invariant.0
