use Rattle.std.proofs.Common.{ap, sym, ◌∙◌}
use Rattle.lowering.specs.Expressions as low
use Rattle.lowered_tree.specs.Shapes.{pure_of}
use Rattle.statement_lowering.proofs.LoopLaws.{limit-covered, step-of-covered}
use Rattle.statement_lowering.proofs.TurnLaws.{bounds-had}
use Rattle.statement_lowering.proofs.turns.lower_bounds.Goals as goal

pub bounds_refer-requires-clause-limit : goal.bounds_refer-requires-clause-limit
bounds_refer-requires-clause-limit c = limit-covered c.args.table.now c.args.control.now c.requires

pub bounds_refer-requires-clause-step : goal.bounds_refer-requires-clause-step
bounds_refer-requires-clause-step c = step-of-covered c.args.table.now c.args.control.now c.requires

pub returns : goal.returns
returns c =
    let had =
    bounds-had c.args.table.now c.ahead-purpose.result c.args.free c.args.control.now _ _ _ _ c.in_ok-first.first c.in_ok-limit.limit c.in_ok-by.by
    (λ names told. c.ahead-purpose.ensures ∙ ap (low.ahead low.ForUse) (c.bounds_refer.ensures names told))
    c.in_ok-first.ensures c.in_ok-limit.ensures c.in_ok-by.ensures
    in
    record {
      values = λ names told. (pure_of c.in_ok-first.first.value, (had names told).values);
      free = λ names told. sym (had names told).free;
    }
