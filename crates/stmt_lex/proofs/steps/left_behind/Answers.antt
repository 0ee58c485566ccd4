use Rattle.std.proofs.Common.{ap, sym, ◌∙◌, arith, length, drop}
use Rattle.std.proofs.lemmas.List.{take_rest, length-drop}
use Rattle.fortran_lexemes.specs.PiecesOfStatements.{left_behind}
use Rattle.stmt_lex.proofs.StepLemmas.{left_none, left_on, left_found}
use Rattle.stmt_lex.proofs.steps.left_behind.Goals as goal

pub returns-in_default : goal.returns-in_default
returns-in_default c =
    left_none c.loop-depth.depth c.loop-depth.rest.now c.loop-depth-test.true c.in_default.len_below ∙ sym c.loop-depth.invariant.start

pub loop-depth-preserved : goal.loop-depth-preserved
loop-depth-preserved c =
    let rest = c.loop-depth.rest.now in
    record {
      start = c.loop-depth.invariant.start ∙ left_on c.loop-depth.depth _ rest c.loop-depth-test.true c.in-len1-up.len_at_least
          ∙ ap (λ d. left_behind d (drop 1 rest)) (sym c.depth_behind-depth.ensures.value) ∙ ap (λ l. left_behind c.depth_behind-depth.result l) (sym (take_rest rest 1));
      low = omega (arith, ap length (take_rest rest 1), length-drop 1 rest, c.depth_behind-depth.ensures.within);
    }

pub returns : goal.returns
returns c = left_found c.loop-depth.depth c.loop-depth.rest.now c.loop-depth-test.false ∙ sym c.loop-depth.invariant.start
