use Rattle.std.proofs.Common.{ap, sym, ◌∙◌, arith, length}
use Rattle.stmt_lex.specs.CursorWalks.{left}
use Rattle.stmt_lex.proofs.KindLemmas.{marks_none, marks_past, marks_found}
use Rattle.stmt_lex.proofs.kinds.next_outside.Goals as goal

pub returns-then-stands_outside : goal.returns-then-stands_outside
returns-then-stands_outside c =
    marks_found c.loop-c.depth c.in-Some.c (left c.in-Some.behind) (left c.loop-c.rest) c.in-Some.ensures (sym c.stands_outside.ensures ∙ c.if-stands_outside.true)
    ∙ sym c.loop-c.invariant.start

pub loop-c-preserved : goal.loop-c-preserved
loop-c-preserved c = record {
  start = c.loop-c.invariant.start
      ∙ marks_past c.loop-c.depth c.nesting_behind-depth.result c.in-Some.c (left c.in-Some.behind) (left c.loop-c.rest) c.in-Some.ensures
      (sym c.stands_outside.ensures ∙ c.if-stands_outside.false) c.nesting_behind-depth.ensures.value;
  low = omega (arith, c.loop-c.invariant.low, ap length c.in-Some.ensures, c.nesting_behind-depth.ensures.within);
}

pub returns : goal.returns
returns c = marks_none c.loop-c.depth (left c.loop-c.rest) c.in_default.ensures ∙ sym c.loop-c.invariant.start
