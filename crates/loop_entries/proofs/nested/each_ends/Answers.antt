use Rattle.std.proofs.Common.{ℕ, get_or, refl, sym, ◌∙◌, arith}
use Rattle.f_tree.specs.declared.statements.Stmt.{Stmt}
use Rattle.f_tree.specs.Nests.{ends_by}
use Rattle.loop_entries.specs.ReadLines.{loop_in}
use Rattle.loop_entries.proofs.LineLemmas.{each_ends_is, ends_there}
use Rattle.loop_entries.proofs.Tests.{test_more, test_fails, test_end}
use Rattle.loop_entries.proofs.nested.each_ends.Goals as goal

pub loop-place-init : goal.loop-place-init
loop-place-init c = λ p names reads ends. refl

pub returns-then-not-ends_well : goal.returns-then-not-ends_well
returns-then-not-ends_well c = λ p names reads ends.
    let ss = c.args.statements.now in
    let i = c.loop-place.place in
    let d = c.index-statements-place.result in
    test_fails (λ (k : ℕ) (s : Stmt). ends_by p k (loop_in s.body)) ss i (get_or ss i d) d _ c.loop-place-test.true refl (c.loop-place.invariant p names reads ends)
    (sym c.if-not-ends_well.true ∙ c.ends_well.ensures p names reads (ends_there p names ss c.args.ends.now i d reads ends c.loop-place-test.true))
    ∙ sym (each_ends_is p names ss reads)

pub loop-place-preserved : goal.loop-place-preserved
loop-place-preserved c = λ p names reads ends.
    let ss = c.args.statements.now in
    let i = c.loop-place.place in
    let d = c.index-statements-place.result in
    test_more (λ (k : ℕ) (s : Stmt). ends_by p k (loop_in s.body)) ss i (get_or ss i d) d _ c.loop-place-test.true refl (c.loop-place.invariant p names reads ends)
    (sym c.if-not-ends_well.false ∙ c.ends_well.ensures p names reads (ends_there p names ss c.args.ends.now i d reads ends c.loop-place-test.true))

pub returns : goal.returns
returns c = λ p names reads ends.
    test_end (λ (k : ℕ) (s : Stmt). ends_by p k (loop_in s.body)) c.args.statements.now c.loop-place.place _ (omega arith) (c.loop-place.invariant p names reads ends)
    ∙ sym (each_ends_is p names c.args.statements.now reads)
