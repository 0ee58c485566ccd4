use Rattle.std.proofs.Common.{◌&&◌, not, sym, ap, subst, ◌∙◌}
use Rattle.std.specs.List.{list_any}
use Rattle.declaration_rows.specs.BlockRows.{is_in_range}
use Rattle.loop_ranges.specs.OpenRanges.{ranges_at}
use Rattle.block_judge.specs.Arms.{AreArms}
use Rattle.block_judge.proofs.BlockLemmas.{place_outside}
use Rattle.block_judge.proofs.blocks.Blocks.is_outside.Goals as goal

pub returns-then-outside_arms : goal.returns-then-outside_arms
returns-then-outside_arms c = λ ss known.
    ap (λ b. b && c.is_outside_ranges-outside_ranges.result) (sym c.if-outside_arms.true)
    ∙ place_outside ss c.args.self.now c.args.place c.is_outside_arms-outside_arms.result c.is_outside_ranges-outside_ranges.result known
    (c.is_outside_arms-outside_arms.ensures ss (subst (AreArms ss) (sym c.as_slice.ensures.value) known.arms))
    (c.is_outside_ranges-outside_ranges.ensures ∙ ap (λ ends. not (list_any (is_in_range c.args.place) (ranges_at 0 ends))) c.as_slice-2.ensures.value)

pub returns-else-outside_arms : goal.returns-else-outside_arms
returns-else-outside_arms c = λ ss known.
    c.if-outside_arms.false ∙ ap (λ b. b && c.is_outside_ranges-outside_ranges.result) (sym c.if-outside_arms.false)
    ∙ place_outside ss c.args.self.now c.args.place c.is_outside_arms-outside_arms.result c.is_outside_ranges-outside_ranges.result known
    (c.is_outside_arms-outside_arms.ensures ss (subst (AreArms ss) (sym c.as_slice.ensures.value) known.arms))
    (c.is_outside_ranges-outside_ranges.ensures ∙ ap (λ ends. not (list_any (is_in_range c.args.place) (ranges_at 0 ends))) c.as_slice-2.ensures.value)
