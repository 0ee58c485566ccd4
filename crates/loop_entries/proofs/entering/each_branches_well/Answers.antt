use Rattle.std.proofs.Common.{ℕ, List, get_or, refl, sym, ap, ◌∙◌, arith}
use Rattle.std.specs.List.{list_all}
use Rattle.f_tree.specs.declared.statements.Stmt.{Stmt}
use Rattle.f_tree.specs.Lines.{form_of}
use Rattle.lowering_laws.specs.Layout.{may_branch, branches_well}
use Rattle.loop_entries.specs.PassedLabels.{told_by}
use Rattle.loop_entries.proofs.BranchLaws.{form_well}
use Rattle.loop_entries.proofs.LineLemmas.{branches_is}
use Rattle.loop_entries.proofs.Tests.{test_more, test_fails, test_end}
use Rattle.loop_entries.proofs.entering.each_branches_well.Goals as goal

pub loop-place-init : goal.loop-place-init
loop-place-init c = λ p names are at tells. refl

pub returns-then-not-may_branch_to_each : goal.returns-then-not-may_branch_to_each
returns-then-not-may_branch_to_each c = λ p names reads are at tells.
    let ss = c.args.statements.now in
    let i = c.loop-place.place in
    let d = c.index-statements-place.result in
    test_fails (λ (k : ℕ) (s : Stmt). branches_well p k (form_of names s.body)) ss i (get_or ss i d) d _ c.loop-place-test.true refl (c.loop-place.invariant p names are at tells)
    (sym c.if-not-may_branch_to_each.true ∙ c.may_branch_to_each.ensures p are at ∙ ap (λ (ls : List ℕ). list_all (may_branch p i) ls) (c.as_slice.ensures.value ∙ c.in_ok-labels.ensures)
    ∙ sym (form_well p i names (told_by c.args.scope.now) (get_or ss i d).body tells))
    ∙ sym (branches_is p names ss reads)

pub loop-place-preserved : goal.loop-place-preserved
loop-place-preserved c = λ p names are at tells.
    let ss = c.args.statements.now in
    let i = c.loop-place.place in
    let d = c.index-statements-place.result in
    test_more (λ (k : ℕ) (s : Stmt). branches_well p k (form_of names s.body)) ss i (get_or ss i d) d _ c.loop-place-test.true refl (c.loop-place.invariant p names are at tells)
    (sym c.if-not-may_branch_to_each.false ∙ c.may_branch_to_each.ensures p are at ∙ ap (λ (ls : List ℕ). list_all (may_branch p i) ls) (c.as_slice.ensures.value ∙ c.in_ok-labels.ensures)
    ∙ sym (form_well p i names (told_by c.args.scope.now) (get_or ss i d).body tells))

pub returns : goal.returns
returns c = λ p names reads are at tells.
    test_end (λ (k : ℕ) (s : Stmt). branches_well p k (form_of names s.body)) c.args.statements.now c.loop-place.place _ (omega arith) (c.loop-place.invariant p names are at tells)
    ∙ sym (branches_is p names c.args.statements.now reads)
