use Rattle.std.proofs.Common.{sym, ap, ◌∙◌, arith, length}
use Rattle.std.proofs.lemmas.List.{take_rest, length-drop}
use Rattle.fsplit.proofs.TextLemmas.{function_none, function_found, function_past}
use Rattle.fsplit.proofs.texts.behind_function.Goals as goal

pub returns-then-begins_function : goal.returns-then-begins_function
returns-then-begins_function c =
    c.behind.ensures
    ∙ sym (c.loop-rest.invariant.start
    ∙ function_found c.loop-rest.depth c.loop-rest.rest.now c.in-len1-up.len_at_least (sym c.begins_function.ensures ∙ c.if-begins_function.true))

pub loop-rest-preserved : goal.loop-rest-preserved
loop-rest-preserved c = record {
  start = c.loop-rest.invariant.start
      ∙ function_past c.loop-rest.depth c.nesting_behind-depth.result c.loop-rest.rest.now _ _ c.in-len1-up.len_at_least
      (sym c.begins_function.ensures ∙ c.if-begins_function.false) c.nesting_behind-depth.ensures.value (take_rest c.loop-rest.rest.now 1);
  low = omega (
    arith,
    c.loop-rest.invariant.low,
    c.nesting_behind-depth.ensures.within,
    c.in-len1-up.len_at_least,
    ap length (take_rest c.loop-rest.rest.now 1),
    length-drop 1 c.loop-rest.rest.now,
  );
}

pub returns : goal.returns
returns c = sym (c.loop-rest.invariant.start ∙ function_none c.loop-rest.depth c.loop-rest.rest.now c.in_default.len_below)
