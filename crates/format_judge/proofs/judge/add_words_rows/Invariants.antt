use Rattle.std.proofs.Common.{◌≡◌, ◌++◌, drop}
use Rattle.declaration_rows.specs.NameRows.{stood}
use Rattle.format_judge.specs.FormatsFound.{words_found}
use Rattle.format_judge.proofs.judge.add_words_rows.Given as goal

abbrev pub invariant-loop-control : goal.invariant-loop-control
invariant-loop-control l =
    l.initial.found.items ++ stood l.statement (words_found l.names l.controls) ≡ l.found.items ++ stood l.statement (words_found l.names (drop l.control-index l.controls))
