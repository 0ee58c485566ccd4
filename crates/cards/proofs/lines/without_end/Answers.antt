use Rattle.std.proofs.Common.{refl, sym, ◌∙◌}
use Rattle.cards.proofs.LineLemmas.{ends_with-some, end_missing, end_feed, end_both}
use Rattle.cards.proofs.lines.without_end.Goals as goal

pub returns-then-not-ends_with : goal.returns-then-not-ends_with
returns-then-not-ends_with c = end_missing c.args.line.now (sym c.ends_with.ensures ∙ c.if-not-ends_with.true)

pub slice_bounds-front-count : goal.slice_bounds-front-count
slice_bounds-front-count c = ends_with-some 10 c.args.line.now (sym c.ends_with.ensures ∙ c.if-not-ends_with.false)

pub slice_bounds-result-count : goal.slice_bounds-result-count
slice_bounds-result-count c = ends_with-some 13 _ (sym c.ends_with-2.ensures ∙ c.if-ends_with.true)

pub returns-then-ends_with : goal.returns-then-ends_with
returns-then-ends_with c =
    end_both c.args.line.now _ _ (sym c.ends_with.ensures ∙ c.if-not-ends_with.false) refl (sym c.ends_with-2.ensures ∙ c.if-ends_with.true) refl

pub returns-else-ends_with : goal.returns-else-ends_with
returns-else-ends_with c =
    end_feed c.args.line.now _ (sym c.ends_with.ensures ∙ c.if-not-ends_with.false) refl (sym c.ends_with-2.ensures ∙ c.if-ends_with.false)
