use Rattle.std.proofs.Common.{◌≡◌, ◌+◌, ◌-◌, suc, length, ap, sym, ◌∙◌, arith, Some}
use Rattle.std.proofs.lemmas.List.{take_rest}
use Rattle.fortran_lexemes.specs.PiecesOfStatements.{is_format}
use Rattle.stmt_lex.proofs.StepLemmas.{format_end, format_closed, format_deep, format_stuck, format_on, format_zero}
use Rattle.stmt_lex.proofs.steps.is_format.Goals as goal

pub returns-in_default : goal.returns-in_default
returns-in_default c =
    format_end (suc (length c.args.text.now) - c.loop.counter) c.loop.depth c.loop.rest.now (omega arith) c.in_default.len_below ∙ sym c.loop.invariant.start

pub returns-then-depth-eq0 : goal.returns-then-depth-eq0
returns-then-depth-eq0 c =
    format_closed (suc (length c.args.text.now) - c.loop.counter) c.loop.depth c.loop.rest.now (omega arith) c.in-len1-up.len_at_least c.if-depth-eq0.true
    ∙ sym c.loop.invariant.start

pub returns-then-depth-gt-DEEPEST : goal.returns-then-depth-gt-DEEPEST
returns-then-depth-gt-DEEPEST c =
    format_deep (suc (length c.args.text.now) - c.loop.counter) c.loop.depth c.loop.rest.now (omega arith) c.in-len1-up.len_at_least c.if-depth-gt-DEEPEST.true
    ∙ sym c.loop.invariant.start

pub returns-in_default-behind_part : goal.returns-in_default-behind_part
returns-in_default-behind_part c =
    format_stuck (suc (length c.args.text.now) - c.loop.counter) c.loop.depth _ c.loop.rest.now _ (omega arith) c.in-len1-up.len_at_least
    (take_rest c.loop.rest.now 1) c.in_default-behind_part.ensures
    ∙ sym c.loop.invariant.start

pub loop-preserved : goal.loop-preserved
loop-preserved c =
    let fuel = suc (length c.args.text.now) - c.loop.counter in
    let less : fuel - 1 ≡ suc (length c.args.text.now) - (c.loop.counter + 1) = omega arith in
    record {
      start = c.loop.invariant.start
          ∙ format_on fuel c.loop.depth _ c.loop.rest.now _ c.in-Some.left.now (omega arith) c.in-len1-up.len_at_least c.if-depth-eq0.false
          c.if-depth-gt-DEEPEST.false (take_rest c.loop.rest.now 1) c.in-Some.ensures
          ∙ ap (λ d. is_format (fuel - 1) d (Some c.in-Some.left.now)) (sym c.depth_behind-depth.ensures.value)
          ∙ ap (λ n. is_format n c.depth_behind-depth.result (Some c.in-Some.left.now)) less;
      low = omega (arith, c.depth_behind-depth.ensures.within);
    }

pub returns : goal.returns
returns c =
    format_zero (suc (length c.args.text.now) - c.loop.counter) c.loop.depth (Some c.loop.rest.now) (omega arith) ∙ sym c.loop.invariant.start
