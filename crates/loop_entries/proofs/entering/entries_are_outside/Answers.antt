use Rattle.std.proofs.Common.{ℕ, add-one, get_or, refl, sym, ◌∙◌, arith}
use Rattle.std.specs.List.{list_all}
use Rattle.f_tree.specs.declared.statements.Stmt.{Stmt}
use Rattle.f_tree.specs.Lines.{entry_in}
use Rattle.lowering_laws.specs.Layout.{enters_outside}
use Rattle.loop_entries.proofs.EntryLemmas.{entries_are}
use Rattle.loop_entries.proofs.Tests.{test_more, test_fails, test_end}
use Rattle.loop_entries.proofs.entering.entries_are_outside.Goals as goal

pub loop-place-init : goal.loop-place-init
loop-place-init c = λ p are. refl

pub returns-then-not-entry_is_outside : goal.returns-then-not-entry_is_outside
returns-then-not-entry_is_outside c = λ p are.
    let ss = c.args.statements.now in
    let i = c.loop-place.place in
    let d = c.index-statements-place.result in
    test_fails (λ (k : ℕ) (s : Stmt). list_all (enters_outside p) (entry_in k s.body)) ss i (get_or ss i d) d _ c.loop-place-test.true refl (c.loop-place.invariant p are)
    (sym c.if-not-entry_is_outside.true ∙ c.entry_is_outside.ensures p i are (add-one i))
    ∙ sym (entries_are p ss)

pub loop-place-preserved : goal.loop-place-preserved
loop-place-preserved c = λ p are.
    let ss = c.args.statements.now in
    let i = c.loop-place.place in
    let d = c.index-statements-place.result in
    test_more (λ (k : ℕ) (s : Stmt). list_all (enters_outside p) (entry_in k s.body)) ss i (get_or ss i d) d _ c.loop-place-test.true refl (c.loop-place.invariant p are)
    (sym c.if-not-entry_is_outside.false ∙ c.entry_is_outside.ensures p i are (add-one i))

pub returns : goal.returns
returns c = λ p are.
    test_end (λ (k : ℕ) (s : Stmt). list_all (enters_outside p) (entry_in k s.body)) c.args.statements.now c.loop-place.place _ (omega arith) (c.loop-place.invariant p are)
    ∙ sym (entries_are p c.args.statements.now)
