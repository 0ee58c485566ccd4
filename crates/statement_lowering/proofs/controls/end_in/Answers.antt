use Rattle.std.proofs.Common.{sym, ◌∙◌}
use Rattle.statement_lowering.proofs.ControlWords.{end-skip, end-found, end-ended}
use Rattle.statement_lowering.proofs.controls.end_in.Goals as goal

pub loop-control-preserved : goal.loop-control-preserved
loop-control-preserved c = λ way names.
    sym (end-skip way names c.args.controls.now c.loop-control.control-index c.control-item.result c.loop-control-test.true c.control-item.is (sym c.in-None.ensures))
    ∙ c.loop-control.invariant way names

pub returns-in-Some : goal.returns-in-Some
returns-in-Some c = λ way names.
    sym (end-found way names c.args.controls.now c.loop-control.control-index c.control-item.result c.in-Some.label c.loop-control-test.true c.control-item.is (sym c.in-Some.ensures))
    ∙ c.loop-control.invariant way names

pub returns : goal.returns
returns c = λ way names.
    sym (end-ended way names c.args.controls.now c.loop-control.control-index c.loop-control-test.false) ∙ c.loop-control.invariant way names
