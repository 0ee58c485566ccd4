use Rattle.std.proofs.Common.{◌<◌, ◌≤◌, arith}
use mir.Syntax.{w64}
use mir.Val.{to_z}
use Rattle.offset_classes.specs.Forest.{node_at}
use Rattle.offset_classes.proofs.Rising.{step_up, came}
use Rattle.offset_classes.proofs.solving.find.Goals as goal

pub overflow_add-offset : goal.overflow_add-offset
overflow_add-offset c =
    let step = step_up c.args.nodes.now c.args.height c.requires.forest c.requires.spread c.args.number c.loop-root.root (to_z w64 c.loop-root.offset-bits)
    c.requires.inside c.loop-root.invariant.inside c.loop-root-test.true c.loop-root.invariant.way in
    step.fits

pub loop-root-smaller : goal.loop-root-smaller
loop-root-smaller c =
    let ns = c.args.nodes.now in
    let x = c.loop-root.root in
    let up = (node_at ns x).parent in
    let rising : (node_at ns x).rank < (node_at ns up).rank = c.requires.forest.rising x c.loop-root.invariant.inside c.loop-root-test.true in
    let low : (node_at ns up).rank ≤ c.args.height = c.requires.forest.low up (c.requires.forest.inside x c.loop-root.invariant.inside) in
    omega arith

pub loop-root-preserved : goal.loop-root-preserved
loop-root-preserved c =
    let step = step_up c.args.nodes.now c.args.height c.requires.forest c.requires.spread c.args.number c.loop-root.root (to_z w64 c.loop-root.offset-bits)
    c.requires.inside c.loop-root.invariant.inside c.loop-root-test.true c.loop-root.invariant.way in
    record { inside = c.requires.forest.inside c.loop-root.root c.loop-root.invariant.inside; near = step.near; way = step.way }

pub returns-clause-place : goal.returns-clause-place
returns-clause-place c = came c.args.nodes.now c.args.number c.loop-root.root (to_z w64 c.loop-root.offset-bits) c.loop-root-test.false c.loop-root.invariant.way
