use Rattle.std.proofs.Common.{sym, ◌∙◌, arith}
use Rattle.loop_entries.proofs.BranchForms.{among_found, among_more, among_end}
use Rattle.loop_entries.proofs.branches.label_among.Goals as goal

pub returns-then-is_some : goal.returns-then-is_some
returns-then-is_some c =
    among_found c.args.at_end c.args.controls.now c.loop-control.control-index c.control-item.result _ c.label_for-label.result _ c.loop-control-test.true c.control-item.is
    c.loop-control.invariant c.label_for-label.ensures (sym c.is_some.ensures ∙ c.if-is_some.true)

pub loop-control-preserved : goal.loop-control-preserved
loop-control-preserved c =
    among_more c.args.at_end c.args.controls.now c.loop-control.control-index c.control-item.result _ c.label_for-label.result _ c.loop-control-test.true c.control-item.is
    c.loop-control.invariant c.label_for-label.ensures (sym c.is_some.ensures ∙ c.if-is_some.false)

pub returns : goal.returns
returns c = among_end c.args.at_end c.args.controls.now c.loop-control.control-index _ (omega arith) c.loop-control.invariant
