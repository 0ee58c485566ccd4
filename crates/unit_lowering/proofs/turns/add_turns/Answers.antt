use Rattle.std.proofs.Common.{refl, arith}
use Rattle.unit_lowering.specs.LineSteps.{turn_steps, turns_steps}
use Rattle.unit_lowering.proofs.Appending.{each_more, each_end}
use Rattle.unit_lowering.proofs.TurnLemmas.{turns_steps-none, turns_steps-more}
use Rattle.unit_lowering.proofs.turns.add_turns.Goals as goal

pub loop-turn-preserved : goal.loop-turn-preserved
loop-turn-preserved c = λ names told.
    let once = c.args.once in
    let ss = c.args.statements.now in
    let places = c.args.places.now in
    each_more (turns_steps once names ss places) (turn_steps once names ss places) (turns_steps-more once names ss places) c.args.turns.now c.loop-turn.turn-index _ _ _ _ _
    c.loop-turn-test.true refl
    (c.loop-turn.invariant names told) (c.in_ok-add_turn.ensures.added names told)

pub returns-clause-added : goal.returns-clause-added
returns-clause-added c = λ names told.
    let once = c.args.once in
    let ss = c.args.statements.now in
    let places = c.args.places.now in
    each_end (turns_steps once names ss places) (turn_steps once names ss places) (turns_steps-none once names ss places) c.args.turns.now c.loop-turn.turn-index _ _
    (omega arith) (c.loop-turn.invariant names told)
