use Rattle.std.proofs.Common.{ap, sym, ◌∙◌, arith, length}
use Rattle.fortran_lexemes.specs.KindsOfStatements.{after_parentheses}
use Rattle.stmt_lex.specs.CursorWalks.{left}
use Rattle.stmt_lex.proofs.KindLemmas.{closed_none, closed_on, closed_found}
use Rattle.stmt_lex.proofs.kinds.after_parentheses.Goals as goal

pub returns-in_default : goal.returns-in_default
returns-in_default c =
    closed_none c.loop-depth.depth (left c.loop-depth.rest) c.loop-depth-test.true c.in_default.ensures ∙ sym c.loop-depth.invariant.start

pub loop-depth-preserved : goal.loop-depth-preserved
loop-depth-preserved c = record {
  start = c.loop-depth.invariant.start
      ∙ closed_on c.loop-depth.depth c.in-Some.c (left c.in-Some.behind) (left c.loop-depth.rest) c.loop-depth-test.true c.in-Some.ensures
      ∙ ap (λ d. after_parentheses d (left c.in-Some.behind)) (sym c.nesting_behind-depth.ensures.value);
  low = omega (arith, c.loop-depth.invariant.low, ap length c.in-Some.ensures, c.nesting_behind-depth.ensures.within);
}

pub returns : goal.returns
returns c = closed_found c.loop-depth.depth (left c.loop-depth.rest) c.loop-depth-test.false ∙ sym c.loop-depth.invariant.start
