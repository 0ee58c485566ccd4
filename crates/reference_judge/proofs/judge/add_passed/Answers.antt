use Rattle.std.proofs.Common.{ap, ◌∙◌}
use Rattle.found_rows.proofs.Walks.{put_as}
use Rattle.reference_judge.specs.PassedFunctions.{passed_from}
use Rattle.reference_judge.proofs.PassedLaws.{passed_are}
use Rattle.reference_judge.proofs.judge.add_passed.Goals as goal

pub returns : goal.returns
returns c =
    let signs = c.args.signs.now in
    let names = c.args.names.now in
    put_as c.add_passed_rows.result _ _ (passed_from signs names c.as_slice.result.now) _
    (ap (passed_from signs names) c.as_slice.ensures ∙ passed_are c.args.unit.now signs names c.requires.signs c.requires.names _) c.add_passed_rows.ensures
