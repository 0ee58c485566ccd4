use Rattle.std.proofs.Common.{ℕ, Option, List, None, ◌+◌, refl, arith}
use Rattle.loop_ranges.proofs.found_rows.Walks.{walk_more, walk_end}
use Rattle.f_tree.specs.Nests.{range_to}
use Rattle.loop_entries.specs.LoopRanges.{ranges_to}
use Rattle.loop_entries.proofs.RangeLemmas.{to_step, to_none}
use Rattle.loop_entries.proofs.ranges.ranges_between.Goals as goal

pub loop-place-preserved : goal.loop-place-preserved
loop-place-preserved c =
    walk_more (λ (n : ℕ) (es : List (Option ℕ)). ranges_to n es) (λ (n : ℕ) (e : Option ℕ). range_to n e) (λ (n : ℕ) (e : Option ℕ). n + 1) to_step
    c.args.ends.now c.loop-place.place _ None c.loop-place.place _ _ _ _ c.loop-place-test.true refl c.loop-place.invariant c.in_ok-add_range.ensures refl

pub returns : goal.returns
returns c =
    walk_end (λ (n : ℕ) (es : List (Option ℕ)). ranges_to n es) (λ (n : ℕ) (e : Option ℕ). range_to n e) (λ (n : ℕ) (e : Option ℕ). n + 1) to_none
    c.args.ends.now c.loop-place.place c.loop-place.place _ _ (omega arith) c.loop-place.invariant
