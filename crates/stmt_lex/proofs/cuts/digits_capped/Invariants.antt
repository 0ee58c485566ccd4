use Rattle.std.proofs.Common.{◌≡◌, ◌≤◌, length}
use Rattle.stmt_lex.specs.DigitValues.{digits_capped}
use Rattle.stmt_lex.proofs.cuts.digits_capped.Given as goal

abbrev pub invariant-loop-rest : goal.invariant-loop-rest
invariant-loop-rest l = record {
  start : digits_capped l.fn.before l.fn.text ≡ digits_capped l.value l.rest;
  small : l.value ≤ 2147483648;
}

abbrev pub decreases-loop-rest : goal.decreases-loop-rest
decreases-loop-rest l = length l.rest
