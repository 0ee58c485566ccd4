use Rattle.std.proofs.Common.{length, sym, ap, subst, ◌∙◌}
use Rattle.loop_ranges.proofs.EndLemmas.{length_unit_ends}
use Rattle.block_judge.specs.Ranges.{AreAround}
use Rattle.block_judge.proofs.RowLemmas.{label_within}
use Rattle.block_judge.proofs.blocks.unit_blocks.Goals as goal

pub returns-clause-sound : goal.returns-clause-sound
returns-clause-sound c =
    let ends = c.as_slice.ensures.value in
    let ranges = c.in_ok-around.ensures.count ∙ ap length ends in
    let arms = c.in_ok-arms.ensures.count in
    record {
      numbered = c.in_ok-arms.ensures.numbered;
      ranges = ranges;
      statements = ranges ∙ ap length c.in_ok-ends.ensures ∙ length_unit_ends c.args.statements.now ∙ sym arms;
      around = subst (λ es. AreAround es c.in_ok-around.around.items) ends c.in_ok-around.ensures.around;
      within = λ l. label_within c.args.statements.now l _ _ (c.in_ok-places.ensures l) arms;
    }

pub returns-clause-blocks : goal.returns-clause-blocks
returns-clause-blocks c = record {
  arms = c.in_ok-arms.ensures.arms;
  ends = c.in_ok-ends.ensures;
  places = c.in_ok-places.ensures;
}
