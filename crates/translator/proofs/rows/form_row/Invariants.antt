use Rattle.std.proofs.Common.{◌≡◌, drop}
use Rattle.translated_files.specs.TranslatedFiles.{form_row}
use Rattle.translator.proofs.rows.form_row.Given as goal

abbrev pub invariant-loop-statement : goal.invariant-loop-statement
invariant-loop-statement l = form_row l.unit l.unit.statements ≡ form_row l.unit (drop l.statement-index l.statements)
