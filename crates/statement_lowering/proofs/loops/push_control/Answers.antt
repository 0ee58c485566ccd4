use Rattle.std.proofs.Common.{ap, ◌∙◌}
use Rattle.lowering.specs.Expressions as low
use Rattle.statement_lowering.specs.LoweredStatements.{control_lowers}
use Rattle.statement_lowering.proofs.LoopLaws.{control-done, limit-covered, step-of-covered}
use Rattle.statement_lowering.proofs.loops.push_control.Goals as goal

pub bounds_refer-requires-clause-limit : goal.bounds_refer-requires-clause-limit
bounds_refer-requires-clause-limit c = limit-covered c.args.table.now c.args.control.now c.requires

pub bounds_refer-requires-clause-step : goal.bounds_refer-requires-clause-step
bounds_refer-requires-clause-step c = step-of-covered c.args.table.now c.args.control.now c.requires

pub returns : goal.returns
returns c =
    let T = c.args.table.now in
    control-done T c.args.around c.ahead-purpose.result c.args.control.now (control_lowers T c.args.control.now) c.args.steps.now.items _ _ _ c.push_loop.new.steps.items
    c.in_ok-first.first c.in_ok-limit.limit c.in_ok-by.by c.as_slice.result.now c.push_loop.result c.requires
    (λ names told. c.ahead-purpose.ensures ∙ ap (low.ahead low.ForUse) (c.bounds_refer.ensures names told))
    c.in_ok-first.ensures c.in_ok-limit.ensures c.in_ok-by.ensures c.as_slice.ensures c.push_loop.ensures
