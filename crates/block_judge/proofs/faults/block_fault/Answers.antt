use Rattle.std.proofs.Common.{◌++◌, ap, ◌∙◌}
use Rattle.f_tree.specs.Lines.{unit_read}
use Rattle.declaration_rows.specs.Verdicts.{first_of}
use Rattle.declaration_rows.specs.BlockRows.{unit_block_rows}
use Rattle.block_judge.proofs.faults.block_fault.Goals as goal

pub returns : goal.returns
returns c = λ options.
    let u = c.args.unit.now in
    c.first_of.ensures
    ∙ ap first_of
    (c.as_slice.ensures.value ∙ c.in_ok-add_block_rows.ensures options ∙ ap (λ rs. rs ++ unit_block_rows u (unit_read options u)) c.new-found.ensures.items)
