use Rattle.std.specs.Option.{option_flatten}
use Rattle.std.proofs.Common.{slice_get, ap, ◌∙◌, arith}
use Rattle.unit_contents.proofs.ConstantLaws.{added_begin, constants_more, added_end}
use Rattle.unit_contents.proofs.constants.add_constants.Goals as goal

pub loop-position-init : goal.loop-position-init
loop-position-init c = added_begin c.args.table.now c.args.text.now c.args.constants.now.keys

pub loop-position-preserved : goal.loop-position-preserved
loop-position-preserved c =
    constants_more c.args.table.now c.args.text.now c.args.contents.now c.deref-step-items.result.now c.args.constants.now.keys c.loop-position.position c.step-item.result c.kept_before.result
    c.loop-position.constants.keys _ c.deref-step-items.ensures.value c.loop-position-test.true c.step-item.is c.requires
    (c.kept_before.ensures ∙ ap (λ ks. option_flatten (slice_get ks c.loop-position.position)) c.as_slice-kinds.ensures.value) c.in_ok-add_step.ensures c.loop-position.invariant

pub returns : goal.returns
returns c = added_end c.args.table.now c.args.text.now c.args.constants.now.keys c.loop-position.position c.loop-position.constants.keys (omega arith) c.loop-position.invariant
