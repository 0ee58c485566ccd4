use Rattle.std.proofs.Common.{ℕ, get_or, refl, sym, ap, ◌∙◌, arith}
use Rattle.f_tree.specs.declared.statements.Stmt.{Stmt}
use Rattle.f_tree.specs.Lines.{mark_of}
use Rattle.lowering_laws.specs.Layout.{is_whole_by}
use Rattle.loop_entries.proofs.LineLemmas.{blocks_is}
use Rattle.loop_entries.proofs.Tests.{test_more, test_fails, test_end}
use Rattle.loop_entries.proofs.blocks.blocks_are_whole.Goals as goal

pub loop-place-init : goal.loop-place-init
loop-place-init c = λ p are arms. refl

pub returns-then-not-is_whole : goal.returns-then-not-is_whole
returns-then-not-is_whole c = λ p names reads are arms.
    let ss = c.args.statements.now in
    let i = c.loop-place.place in
    let d = c.index-statements-place.result in
    test_fails (λ (k : ℕ) (s : Stmt). is_whole_by p k (mark_of s.body)) ss i (get_or ss i d) d _ c.loop-place-test.true refl (c.loop-place.invariant p are arms)
    (sym c.if-not-is_whole.true ∙ c.is_whole.ensures p are (arms i c.loop-place-test.true) ∙ ap (is_whole_by p i) c.mark_of-mark.ensures)
    ∙ sym (blocks_is p names ss reads)

pub loop-place-preserved : goal.loop-place-preserved
loop-place-preserved c = λ p are arms.
    let ss = c.args.statements.now in
    let i = c.loop-place.place in
    let d = c.index-statements-place.result in
    test_more (λ (k : ℕ) (s : Stmt). is_whole_by p k (mark_of s.body)) ss i (get_or ss i d) d _ c.loop-place-test.true refl (c.loop-place.invariant p are arms)
    (sym c.if-not-is_whole.false ∙ c.is_whole.ensures p are (arms i c.loop-place-test.true) ∙ ap (is_whole_by p i) c.mark_of-mark.ensures)

pub returns : goal.returns
returns c = λ p names reads are arms.
    test_end (λ (k : ℕ) (s : Stmt). is_whole_by p k (mark_of s.body)) c.args.statements.now c.loop-place.place _ (omega arith) (c.loop-place.invariant p are arms)
    ∙ sym (blocks_is p names c.args.statements.now reads)
