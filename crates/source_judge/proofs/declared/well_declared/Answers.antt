use Rattle.source_judge.proofs.SourceAnswers.{well_declared_by}
use Rattle.source_judge.proofs.declared.well_declared.Goals as goal

pub returns : goal.returns
returns c =
    well_declared_by c.args.options c.args.set c.as_slice.result.now c.in_ok-refused.refused c.unless.result c.in_ok-refused.ensures c.as_slice.ensures c.unless.ensures
