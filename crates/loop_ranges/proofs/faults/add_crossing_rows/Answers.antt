use Rattle.std.proofs.Common.{◌++◌, length, sym, ap, ◌∙◌}
use Rattle.found_rows.proofs.Walks.{then_ok}
use Rattle.found_rows.specs.declaration_rows.UnitRows.{crossing_rows}
use Rattle.loop_ranges.specs.LoopEnds.{unit_ends}
use Rattle.loop_ranges.specs.OpenRanges.{ranges_at}
use Rattle.loop_ranges.proofs.EndLemmas.{length_unit_ends, ranges_of_unit}
use Rattle.loop_ranges.proofs.faults.add_crossing_rows.Goals as goal

pub add_range_rows-requires : goal.add_range_rows-requires
add_range_rows-requires c =
    ap length (c.as_slice.ensures.value ∙ c.in_ok-ends.ensures) ∙ length_unit_ends c.as_slice-statements.result.now

pub returns : goal.returns
returns c =
    let u = c.args.unit.now in
    let found = c.args.found.now.items in
    let ss = c.as_slice-statements.ensures in
    then_ok _ _ c.add_range_rows.result
    (λ put options.
    put ∙ ap (λ es. found ++ crossing_rows (ranges_at 0 es) 0 c.as_slice-statements.result.now) (c.as_slice.ensures.value ∙ c.in_ok-ends.ensures)
    ∙ ap (λ ts. found ++ crossing_rows (ranges_at 0 (unit_ends ts)) 0 ts) ss ∙ ap (λ rs. found ++ crossing_rows rs 0 u.statements) (sym (ranges_of_unit options u)))
    c.add_range_rows.ensures
