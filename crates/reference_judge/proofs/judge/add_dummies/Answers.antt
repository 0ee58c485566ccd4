use Rattle.std.proofs.Common.{ap, ◌∙◌}
use Rattle.found_rows.proofs.Walks.{put_as}
use Rattle.declaration_rows.specs.ReferenceRows.{dummy_procedure_rows}
use Rattle.name_table.specs.Named.{texts}
use Rattle.reference_judge.proofs.judge.add_dummies.Goals as goal

pub returns : goal.returns
returns c =
    put_as c.add_dummy_rows.result _ _ (dummy_procedure_rows c.args.unit.now (texts c.as_slice.result.now)) _
    (ap (dummy_procedure_rows c.args.unit.now) (ap texts c.as_slice.ensures.value ∙ c.in_ok-listed.ensures)) c.add_dummy_rows.ensures
