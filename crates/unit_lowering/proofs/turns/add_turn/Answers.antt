use Rattle.std.proofs.Common.{◌++◌, ap, ◌∙◌}
use Rattle.lowered_tree.specs.Shapes.{steps_of}
use Rattle.unit_lowering.proofs.Appending.{then_ok}
use Rattle.unit_lowering.proofs.TurnLemmas.{turn_added, turn_refused, turn-uncounted, turn-unplaced}
use Rattle.unit_lowering.proofs.turns.add_turn.Goals as goal

pub returns-in-Some-Some-clause-added : goal.returns-in-Some-Some-clause-added
returns-in-Some-Some-clause-added c =
    turn_added c.args.table.now c.args.once c.args.statements.now c.args.places.now c.args.turn c.in-Some-Some.control.now c.in-Some-Some.place.now c.args.steps.now.items
    c.lower_turn.new.steps.items c.lower_turn.result c.in-Some-Some.ensures c.in-Some-Some.ensures' c.lower_turn.ensures

pub returns-in-Some-Some-clause-refused : goal.returns-in-Some-Some-clause-refused
returns-in-Some-Some-clause-refused c =
    turn_refused c.args.table.now c.args.once c.in-Some-Some.place.now.free c.args.turn.back c.args.statements.now c.args.turn.first c.in-Some-Some.control.now
    c.args.steps.now.items c.lower_turn.new.steps.items c.lower_turn.result c.in-Some-Some.ensures c.lower_turn.ensures

pub returns-in-Some-None-clause-added : goal.returns-in-Some-None-clause-added
returns-in-Some-None-clause-added c =
    then_ok _ _ c.add_step.result
    (λ put names told. put
    ∙ ap (λ xs. steps_of c.args.steps.now.items ++ xs) (turn-unplaced c.args.once names c.args.statements.now c.args.places.now c.args.turn c.in-Some-None.ensures'))
    c.add_step.ensures.added

pub returns-in-None-default-clause-added : goal.returns-in-None-default-clause-added
returns-in-None-default-clause-added c =
    then_ok _ _ c.add_step-in-None-default.result
    (λ put names told. put
    ∙ ap (λ xs. steps_of c.args.steps.now.items ++ xs) (turn-uncounted c.args.once names c.args.statements.now c.args.places.now c.args.turn c.in-None-default.ensures))
    c.add_step-in-None-default.ensures.added
