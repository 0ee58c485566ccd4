use Rattle.std.proofs.Common.{◌≡◌, drop}
use Rattle.name_facts.specs.declaration_rows.SetRows.{files_rows}
use Rattle.name_facts.specs.declaration_rows.Verdicts.{first_of}
use Rattle.refusal_order.specs.Earliest.{earliest}
use Rattle.unit_judge.proofs.set.set_fault.Given as goal

abbrev pub invariant-loop-file : goal.invariant-loop-file
invariant-loop-file l = first_of (files_rows l.options l.files) ≡ earliest l.first (first_of (files_rows l.options (drop l.file-index l.files)))
