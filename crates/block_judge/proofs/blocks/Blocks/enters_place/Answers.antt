use Rattle.std.proofs.Common.{◌||◌, sym, ap, subst, ◌∙◌}
use Rattle.declaration_rows.specs.BlockRows.{enters_range_of}
use Rattle.loop_ranges.specs.OpenRanges.{ranges_at}
use Rattle.block_judge.specs.Arms.{AreArms}
use Rattle.block_judge.proofs.BlockLemmas.{place_entered}
use Rattle.block_judge.proofs.blocks.Blocks.enters_place.Goals as goal

pub returns-then-into_arm : goal.returns-then-into_arm
returns-then-into_arm c = λ ss known.
    c.if-into_arm.true ∙ ap (λ b. b || c.enters_range-into_range.result) (sym c.if-into_arm.true)
    ∙ place_entered ss c.args.self.now c.args.from c.args.to c.enters_arm-into_arm.result c.enters_range-into_range.result known
    (c.enters_arm-into_arm.ensures ss (subst (AreArms ss) (sym c.as_slice.ensures.value) known.arms))
    (c.enters_range-into_range.ensures ∙ ap (λ ends. enters_range_of (ranges_at 0 ends) c.args.from c.args.to) c.as_slice-2.ensures.value)

pub returns-else-into_arm : goal.returns-else-into_arm
returns-else-into_arm c = λ ss known.
    ap (λ b. b || c.enters_range-into_range.result) (sym c.if-into_arm.false)
    ∙ place_entered ss c.args.self.now c.args.from c.args.to c.enters_arm-into_arm.result c.enters_range-into_range.result known
    (c.enters_arm-into_arm.ensures ss (subst (AreArms ss) (sym c.as_slice.ensures.value) known.arms))
    (c.enters_range-into_range.ensures ∙ ap (λ ends. enters_range_of (ranges_at 0 ends) c.args.from c.args.to) c.as_slice-2.ensures.value)
