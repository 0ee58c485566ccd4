use Rattle.std.proofs.Common.{◌+◌, false, [], ◌∷◌, ◌++◌, None, length, get_or, ap, ◌∙◌, arith}
use Rattle.unit_contents.proofs.KindLaws.{kinds_begin, kinds_more, kinds_end}
use Rattle.unit_contents.proofs.OutputLaws.{target_read}
use Rattle.unit_contents.proofs.kinds.kinds.Goals as goal

pub loop-position-init : goal.loop-position-init
loop-position-init c = kinds_begin c.args.table.now c.args.text.now c.push.new.self.items (c.in_ok-push.ensures.items ∙ ap (λ ks. ks ++ None ∷ []) c.new-kinds.ensures.items)

pub loop-position-preserved : goal.loop-position-preserved
loop-position-preserved c =
    let t = c.args.text.now in
    let i = c.loop-position.position in
    kinds_more c.args.table.now t c.as_slice-steps.result.now i c.index-steps-position.result (get_or c.args.targets.now (i + 1) false) c.kept_behind.result c.loop-position.kinds.items _
    c.as_slice-steps.ensures.value c.loop-position-test.true c.index-steps-position.is
    (λ facts begins. target_read t c.args.targets.now (i + 1) false facts begins c.requires (omega (arith, c.requires.size, ap length c.as_slice-steps.ensures.value)))
    c.kept_behind.ensures c.in_ok-push-2.ensures.items c.loop-position.invariant

pub returns : goal.returns
returns c = kinds_end c.args.table.now c.args.text.now c.loop-position.position c.loop-position.kinds.items (omega arith) c.loop-position.invariant
