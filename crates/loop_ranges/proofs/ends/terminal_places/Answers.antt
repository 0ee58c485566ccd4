use Rattle.std.proofs.Common.{length, get_or, None, ap, ◌∙◌}
use Rattle.std.proofs.lemmas.Result.{IfOk-weaker}
use Rattle.found_rows.specs.declaration_rows.UnitRows.{range_to}
use Rattle.loop_ranges.specs.LoopEnds.{unit_ends}
use Rattle.loop_ranges.proofs.EndLemmas.{length_unit_ends, terminal_at}
use Rattle.loop_ranges.proofs.ends.terminal_places.Goals as goal

pub returns-clause-count : goal.returns-clause-count
returns-clause-count c =
    IfOk-weaker c.loop_ends.result _ _ (λ ends is. ap length (is ∙ ap unit_ends c.as_slice.ensures) ∙ length_unit_ends c.args.unit.now.statements) c.loop_ends.ensures

pub returns-clause-ranges : goal.returns-clause-ranges
returns-clause-ranges c =
    IfOk-weaker c.loop_ends.result _ _
    (λ ends is options place s h.
    ap (λ es. range_to place (get_or es place None)) (is ∙ ap unit_ends c.as_slice.ensures) ∙ terminal_at options c.args.unit.now place s h)
    c.loop_ends.ensures
