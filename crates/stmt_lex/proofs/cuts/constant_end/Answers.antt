use Rattle.std.proofs.Common.{◌+◌, ◌-◌, ap, sym, ◌∙◌, arith, length, take, drop}
use Rattle.std.proofs.lemmas.List.{take_rest, length-drop}
use Rattle.fortran_lexemes.specs.PiecesOfText.{constant_end}
use Rattle.stmt_lex.proofs.CutLemmas.{plain_on, both_on}
use Rattle.stmt_lex.proofs.cuts.constant_end.Goals as goal

pub loop-rest-preserved-then-not-is_mark : goal.loop-rest-preserved-then-not-is_mark
loop-rest-preserved-then-not-is_mark c =
    let rest = c.loop-rest.rest.now in
    record {
      start = c.loop-rest.invariant.start ∙ plain_on c.loop-rest.passed _ rest c.in-len1-up.len_at_least (sym c.is_mark.ensures ∙ c.if-not-is_mark.true)
          ∙ ap (λ l. constant_end (c.loop-rest.passed + 1) l) (sym (take_rest rest 1));
      counted = omega (arith, ap length (take_rest rest 1), length-drop 1 rest);
    }

pub loop-rest-preserved : goal.loop-rest-preserved
loop-rest-preserved c =
    let rest = c.loop-rest.rest.now in
    let behind = take (length rest - 1) (drop 1 rest) in
    record {
      start = c.loop-rest.invariant.start
          ∙ both_on c.loop-rest.passed _ rest behind (take_rest rest 1) c.in-len1-up.len_at_least c.in-len1-up-behind.len_at_least
          (sym c.is_mark.ensures ∙ c.if-not-is_mark.false) (sym c.is_mark-in-len1-up.ensures ∙ c.if-not-is_mark-2.false)
          ∙ ap (λ l. constant_end (c.loop-rest.passed + 2) l) (sym (take_rest behind 1));
      counted = omega (arith, ap length (take_rest rest 1), length-drop 1 rest, ap length (take_rest behind 1), length-drop 1 behind);
    }
