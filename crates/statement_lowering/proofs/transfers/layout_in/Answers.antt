use Rattle.std.proofs.Common.{sym, ◌∙◌}
use Rattle.f_tree.specs.Lines.{controls_written}
use Rattle.lowered_tree.specs.Shapes.{layout_of}
use Rattle.statement_lowering.proofs.ControlWords.{layout-skip, layout-found, layout-ended, written-found, written-none}
use Rattle.statement_lowering.proofs.transfers.layout_in.Goals as goal

pub loop-control-preserved : goal.loop-control-preserved
loop-control-preserved c = λ way names.
    sym (layout-skip way names c.args.controls.now c.loop-control.control-index c.control-item.result c.loop-control-test.true c.control-item.is (sym c.in-None.ensures))
    ∙ c.loop-control.invariant way names

pub returns-in-Some : goal.returns-in-Some
returns-in-Some c = λ way names.
    written-found (controls_written way names c.args.controls.now).layout (layout_of c.in-Some.layout)
    (sym (c.loop-control.invariant way names)
    ∙ layout-found way names c.args.controls.now c.loop-control.control-index c.control-item.result (layout_of c.in-Some.layout) c.loop-control-test.true c.control-item.is (sym c.in-Some.ensures))

pub returns : goal.returns
returns c = λ way names.
    written-none (controls_written way names c.args.controls.now).layout
    (sym (c.loop-control.invariant way names) ∙ layout-ended way names c.args.controls.now c.loop-control.control-index c.loop-control-test.false)
