use Rattle.std.proofs.Common.{◌≡◌, Some, length, sym, ap, ◌∙◌, arith}
use Rattle.lowered_tree.specs.Shapes.{steps_of}
use Rattle.unit_lowering.specs.LineSteps.{lines_steps}
use Rattle.unit_lowering.proofs.LineLemmas.{lines_steps-none, lines_added}
use Rattle.unit_lowering.proofs.lines.lower_lines.Goals as goal

pub loop-at-init : goal.loop-at-init
loop-at-init c = λ names told.
    lines_steps-none c.args.once c.args.assigned.now names c.args.statements.now c.args.places.now ∙ ap (λ xs. Some (steps_of xs)) (sym c.new-steps.ensures.items)

pub loop-at-preserved : goal.loop-at-preserved
loop-at-preserved c = λ names told.
    lines_added c.args.once c.args.assigned.now names c.args.statements.now c.args.places.now c.loop-at.at c.loop-at.steps.items c.lower_line_at.new.steps.items
    (c.loop-at.invariant names told) (c.in_ok-lower_line_at.ensures.added names told)

pub returns-clause-lowered : goal.returns-clause-lowered
returns-clause-lowered c = λ names told.
    ap (lines_steps c.args.once c.args.assigned.now names c.args.statements.now c.args.places.now) (let e : length c.args.statements.now ≡ c.loop-at.at = omega arith in e)
    ∙ c.loop-at.invariant names told
