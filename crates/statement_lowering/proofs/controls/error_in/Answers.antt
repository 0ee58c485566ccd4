use Rattle.std.proofs.Common.{sym, ◌∙◌}
use Rattle.statement_lowering.proofs.ControlWords.{error-skip, error-found, error-ended}
use Rattle.statement_lowering.proofs.controls.error_in.Goals as goal

pub loop-control-preserved : goal.loop-control-preserved
loop-control-preserved c = λ way names.
    sym (error-skip way names c.args.controls.now c.loop-control.control-index c.control-item.result c.loop-control-test.true c.control-item.is (sym c.in-None.ensures))
    ∙ c.loop-control.invariant way names

pub returns-in-Some : goal.returns-in-Some
returns-in-Some c = λ way names.
    sym (error-found way names c.args.controls.now c.loop-control.control-index c.control-item.result c.in-Some.label c.loop-control-test.true c.control-item.is (sym c.in-Some.ensures))
    ∙ c.loop-control.invariant way names

pub returns : goal.returns
returns c = λ way names.
    sym (error-ended way names c.args.controls.now c.loop-control.control-index c.loop-control-test.false) ∙ c.loop-control.invariant way names
