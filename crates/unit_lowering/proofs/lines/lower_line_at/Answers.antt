use Rattle.unit_lowering.proofs.Appending.{then_ok}
use Rattle.unit_lowering.proofs.TurnLemmas.{lowers_with}
use Rattle.unit_lowering.proofs.LineLemmas.{line_at-there, line_at-no_statement, line_at-no_place}
use Rattle.unit_lowering.proofs.lines.lower_line_at.Goals as goal

pub returns-in-Some-Some-clause-added : goal.returns-in-Some-Some-clause-added
returns-in-Some-Some-clause-added c =
    then_ok _ _ c.lower_line.result
    (λ put names told.
    line_at-there c.args.once c.args.assigned.now names c.args.statements.now c.args.places.now c.args.at c.in-Some-Some.statement.now c.in-Some-Some.place.now c.args.steps.now.items
    c.lower_line.new.steps.items c.in-Some-Some.ensures c.in-Some-Some.ensures' (put names told))
    c.lower_line.ensures.added

pub returns-in-Some-Some-clause-refused : goal.returns-in-Some-Some-clause-refused
returns-in-Some-Some-clause-refused c = λ none.
    lowers_with c.args.table.now c.args.statements.now c.args.at c.in-Some-Some.statement.now c.in-Some-Some.ensures (c.lower_line.ensures.refused none)

pub returns-in-Some-None-clause-added : goal.returns-in-Some-None-clause-added
returns-in-Some-None-clause-added c = λ names told.
    line_at-no_place c.args.once c.args.assigned.now names c.args.statements.now c.args.places.now c.args.at c.args.steps.now.items c.in-Some-None.ensures'

pub returns-in-None-default-clause-added : goal.returns-in-None-default-clause-added
returns-in-None-default-clause-added c = λ names told.
    line_at-no_statement c.args.once c.args.assigned.now names c.args.statements.now c.args.places.now c.args.at c.args.steps.now.items c.in-None-default.ensures
