use Rattle.std.proofs.Common.{◌≡◌, drop}
use Rattle.declaration_rows.specs.StatementRows.{any_word, is_unit_word}
use Rattle.statement_judge.proofs.controls.has_unit.Given as goal

abbrev pub invariant-loop-one : goal.invariant-loop-one
invariant-loop-one l = any_word is_unit_word (drop l.one-index l.list) ≡ any_word is_unit_word l.list
