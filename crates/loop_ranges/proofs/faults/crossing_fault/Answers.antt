use Rattle.std.proofs.Common.{◌++◌, ap, ◌∙◌}
use Rattle.f_tree.specs.Lines.{unit_read}
use Rattle.found_rows.specs.declaration_rows.Verdicts.{first_of}
use Rattle.found_rows.specs.declaration_rows.UnitRows.{ranges_from, crossing_rows}
use Rattle.loop_ranges.proofs.faults.crossing_fault.Goals as goal

pub returns : goal.returns
returns c = λ options.
    let u = c.args.unit.now in
    c.first_of.ensures
    ∙ ap first_of
    (c.as_slice.ensures.value ∙ c.in_ok-add_crossing_rows.ensures options
    ∙ ap (λ rs. rs ++ crossing_rows (ranges_from (unit_read options u) 0 u.statements) 0 u.statements) c.new-found.ensures.items)
