use Rattle.std.proofs.Common.{◌≡◌, ◌-◌, ◌≤◌, suc, length, Some}
use Rattle.fortran_lexemes.specs.PiecesOfStatements.{is_format}
use Rattle.stmt_lex.proofs.steps.is_format.Given as goal

abbrev pub invariant-loop : goal.invariant-loop
invariant-loop l = record {
  start : is_format (suc (length l.fn.text)) 1 (Some l.fn.text) ≡ is_format (suc (length l.fn.text) - l.counter) l.depth (Some l.rest);
  low : l.depth ≤ 65;
}
