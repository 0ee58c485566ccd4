use Rattle.std.proofs.Common.{ap, sym, ◌∙◌, arith, length}
use Rattle.std.proofs.lemmas.List.{take_rest, length-drop}
use Rattle.stmt_lex.proofs.CursorLemmas.{written_on, written_found, written_end}
use Rattle.stmt_lex.proofs.cursor.first_written.Goals as goal

pub returns-in-Some : goal.returns-in-Some
returns-in-Some c =
    written_found c.args.counts c.loop-rest.standing c.loop-rest.rest.now _ c.in-Some.code _ c.in-len1-up.len_at_least c.in-Some.ensures
    (take_rest c.loop-rest.rest.now 1) c.behind_code.ensures
    ∙ sym c.loop-rest.invariant.start

pub loop-rest-preserved : goal.loop-rest-preserved
loop-rest-preserved c =
    let rest = c.loop-rest.rest.now in
    record {
      start = c.loop-rest.invariant.start
          ∙ written_on c.args.counts c.loop-rest.standing c.after-standing.result rest _ c.in-len1-up.len_at_least (omega (arith, c.loop-rest.invariant.fits))
          c.in_default-shown_code.ensures c.after-standing.ensures (take_rest rest 1);
      fits = omega (arith, ap length (take_rest rest 1), length-drop 1 rest, c.loop-rest.invariant.fits);
    }

pub returns : goal.returns
returns c = written_end c.args.counts c.loop-rest.standing c.loop-rest.rest.now c.in_default.len_below ∙ sym c.loop-rest.invariant.start
