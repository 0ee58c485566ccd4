use Rattle.std.proofs.Common.{sym, ◌∙◌}
use Rattle.std.proofs.lemmas.List.{take_rest}
use Rattle.stmt_lex.specs.Cursors.{left_in}
use Rattle.stmt_lex.proofs.CursorLemmas.{squeezed_past, squeezed_found, squeezed_end}
use Rattle.stmt_lex.proofs.cursor.first_squeezed.Goals as goal

pub returns-then-not-c : goal.returns-then-not-c
unfolding left_in
returns-then-not-c c =
    squeezed_found c.loop-rest.rest.now _ _ c.in-len1-up.len_at_least c.if-not-c.true (take_rest c.loop-rest.rest.now 1) ∙ sym c.loop-rest.invariant

pub loop-rest-preserved : goal.loop-rest-preserved
loop-rest-preserved c =
    c.loop-rest.invariant ∙ squeezed_past c.loop-rest.rest.now _ _ c.in-len1-up.len_at_least c.if-not-c.false (take_rest c.loop-rest.rest.now 1)

pub returns : goal.returns
returns c = squeezed_end c.loop-rest.rest.now c.in_default.len_below ∙ sym c.loop-rest.invariant
