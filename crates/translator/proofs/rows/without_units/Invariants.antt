use Rattle.std.proofs.Common.{◌≡◌, drop}
use Rattle.declaration_rows.specs.Verdicts.{first_of}
use Rattle.refusal_order.specs.Earliest.{earliest}
use Rattle.translated_files.specs.TranslatedFiles.{files_without_units}
use Rattle.translator.proofs.rows.without_units.Given as goal

abbrev pub invariant-loop-number : goal.invariant-loop-number
invariant-loop-number l = first_of (files_without_units 0 l.files) ≡ earliest l.refusal (first_of (files_without_units l.number (drop l.number l.files)))
