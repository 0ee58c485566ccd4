use Rattle.unit_lowering.proofs.Appending.{then_ok}
use Rattle.unit_lowering.proofs.LineLemmas.{line_added}
use Rattle.unit_lowering.proofs.lines.lower_line.Goals as goal

pub returns-clause-added : goal.returns-clause-added
returns-clause-added c =
    then_ok _ _ c.add_turns.result
    (λ put names told.
    line_added c.args.once c.args.assigned.now names c.args.statements.now c.args.places.now c.args.statement.now c.args.place.now c.as_slice.result.now c.args.steps.now.items
    c.add_skip.new.steps.items c.lower_own.new.steps.items c.add_turns.new.steps.items c.in_ok-add_skip.ensures.added (c.in_ok-lower_own.ensures.added names told)
    c.as_slice.ensures.value (put names told))
    c.add_turns.ensures.added
