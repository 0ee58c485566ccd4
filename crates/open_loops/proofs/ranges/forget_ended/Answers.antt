use Rattle.std.proofs.Common.{nat_le, ap, sym, ◌∙◌}
use Rattle.std.specs.List.{list_any}
use Rattle.open_loops.specs.declared.ranges.OpenLoop.{OpenLoop}
use Rattle.open_loops.specs.OpenRanges.{innermost_first}
use Rattle.open_loops.proofs.WalkLemmas.{kept_behind, none_forgotten}
use Rattle.open_loops.proofs.ranges.forget_ended.Goals as goal

pub returns-then-not-has_ended-clause-kept : goal.returns-then-not-has_ended-clause-kept
returns-then-not-has_ended-clause-kept c =
    none_forgotten c.args.place c.args.loops.now.items (ap (list_any (λ (l : OpenLoop). nat_le l.last c.args.place)) (sym c.as_slice.ensures.value) ∙ sym c.has_ended.ensures ∙ c.if-not-has_ended.true)

pub returns-clause-kept : goal.returns-clause-kept
returns-clause-kept c = ap innermost_first c.keep_behind.ensures ∙ kept_behind c.args.place c.args.loops.now.items
