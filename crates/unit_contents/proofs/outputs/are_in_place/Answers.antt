use Rattle.std.proofs.Common.{◌+◌, false, length, get_or, sym, ap, ◌∙◌, arith}
use Rattle.unit_contents.proofs.OutputLaws.{target_read, place_begin, kept_read, place_more, not_in_place, place_end}
use Rattle.unit_contents.proofs.outputs.are_in_place.Goals as goal

pub loop-position-init : goal.loop-position-init
loop-position-init c = place_begin c.args.table.now c.args.text.now

pub returns-then-not-is_in_place : goal.returns-then-not-is_in_place
returns-then-not-is_in_place c =
    let t = c.args.text.now in
    let ss = c.as_slice-steps.result.now in
    let i = c.loop-position.position in
    not_in_place c.args.table.now t ss i c.index-steps-position.result c.kept_before.result c.loop-position.stage c.as_slice-steps.ensures.value c.loop-position-test.true c.index-steps-position.is
    (kept_read c.args.table.now t ss c.args.kinds.now i c.kept_before.result c.as_slice-steps.ensures.value c.loop-position-test.true c.requires.kinds c.kept_before.ensures)
    (λ facts tells. sym (c.is_in_place.ensures facts tells) ∙ c.if-not-is_in_place.true) c.loop-position.invariant

pub loop-position-preserved : goal.loop-position-preserved
loop-position-preserved c =
    let t = c.args.text.now in
    let ss = c.as_slice-steps.result.now in
    let i = c.loop-position.position in
    place_more c.args.table.now t ss i c.index-steps-position.result (get_or c.args.targets.now (i + 1) false) c.kept_before.result c.loop-position.stage c.stage_behind-stage.result
    c.as_slice-steps.ensures.value c.loop-position-test.true c.index-steps-position.is
    (λ facts begins. target_read t c.args.targets.now (i + 1) false facts begins c.requires.targets (omega (arith, c.requires.targets.size, ap length c.as_slice-steps.ensures.value)))
    (kept_read c.args.table.now t ss c.args.kinds.now i c.kept_before.result c.as_slice-steps.ensures.value c.loop-position-test.true c.requires.kinds c.kept_before.ensures)
    (λ facts tells. sym (c.is_in_place.ensures facts tells) ∙ c.if-not-is_in_place.false) c.stage_behind-stage.ensures c.loop-position.invariant

pub returns : goal.returns
returns c = place_end c.args.table.now c.args.text.now c.loop-position.position c.loop-position.stage (omega arith) c.loop-position.invariant
