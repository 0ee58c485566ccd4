use Rattle.std.proofs.lemmas.Result.{IfOk-weaker}
use Rattle.loop_entries.proofs.FitLemmas.{fit_without, fit_with}
use Rattle.loop_entries.proofs.entries.do_loops_fit.Goals as goal

pub returns-then-not-has_loops : goal.returns-then-not-has_loops
returns-then-not-has_loops c = λ options. fit_without options c.args.unit.now c.as_slice.result.now c.has_loops.result c.as_slice.ensures c.has_loops.ensures c.if-not-has_loops.true

pub returns : goal.returns
returns c =
    IfOk-weaker c.are_nested_and_entered.result _ _
    (λ well told options. fit_with options c.args.unit.now c.as_slice.result.now c.has_loops.result well c.as_slice.ensures c.has_loops.ensures c.if-not-has_loops.false (told options)) c.are_nested_and_entered.ensures
