use Rattle.std.proofs.Common.{◌+◌, ◌-◌, sym, ◌∙◌, refl, length, take, drop}
use Rattle.std.proofs.lemmas.List.{take_rest}
use Rattle.c_lexer.proofs.PartLemmas.{comment_goes_here, comment_ends_here}
use Rattle.c_lexer.proofs.spans.comment_end.Goals as goal

pub returns-then-ends_comment-clause-value : goal.returns-then-ends_comment-clause-value
returns-then-ends_comment-clause-value c =
    let rest = c.loop-rest.rest.now in
    let ends = comment_ends_here c.args.text.now c.loop-rest.passed (c.loop-rest.passed + 2) _ rest (take (length rest - 1) (drop 1 rest)) c.loop-rest.invariant
    c.in-len1-up.len_at_least (take_rest rest 1) refl (sym c.ends_comment.ensures ∙ c.if-ends_comment.true) in
    ends.0

pub loop-rest-preserved : goal.loop-rest-preserved
loop-rest-preserved c =
    let rest = c.loop-rest.rest.now in
    comment_goes_here c.args.text.now c.loop-rest.passed (c.loop-rest.passed + 1) _ rest (take (length rest - 1) (drop 1 rest)) c.loop-rest.invariant
    c.in-len1-up.len_at_least (take_rest rest 1) refl (sym c.ends_comment.ensures ∙ c.if-ends_comment.false)
