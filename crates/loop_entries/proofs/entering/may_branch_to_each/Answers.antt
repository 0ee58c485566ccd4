use Rattle.std.proofs.Common.{get_or, refl, sym, ◌∙◌, arith}
use Rattle.lowering_laws.specs.Layout.{may_branch}
use Rattle.loop_entries.proofs.Tests.{each_more, each_fails, each_end}
use Rattle.loop_entries.proofs.entering.may_branch_to_each.Goals as goal

pub loop-label-init : goal.loop-label-init
loop-label-init c = λ p are at. refl

pub returns-then-not-may_branch : goal.returns-then-not-may_branch
returns-then-not-may_branch c = λ p are at.
    each_fails (may_branch p c.args.from) c.args.labels.now c.loop-label.label-index (get_or c.args.labels.now c.loop-label.label-index 0) 0 _ c.loop-label-test.true refl (c.loop-label.invariant p are at)
    (sym c.if-not-may_branch.true ∙ c.may_branch.ensures p are at)

pub loop-label-preserved : goal.loop-label-preserved
loop-label-preserved c = λ p are at.
    each_more (may_branch p c.args.from) c.args.labels.now c.loop-label.label-index (get_or c.args.labels.now c.loop-label.label-index 0) 0 _ c.loop-label-test.true refl (c.loop-label.invariant p are at)
    (sym c.if-not-may_branch.false ∙ c.may_branch.ensures p are at)

pub returns : goal.returns
returns c = λ p are at. each_end (may_branch p c.args.from) c.args.labels.now c.loop-label.label-index _ (omega arith) (c.loop-label.invariant p are at)
