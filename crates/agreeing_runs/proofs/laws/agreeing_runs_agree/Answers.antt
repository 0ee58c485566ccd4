use Rattle.agreeing_runs.proofs.MismatchLemmas.{runs_agree}
use Rattle.agreeing_runs.proofs.laws.agreeing_runs_agree.Goals as goal

pub returns : goal.returns
returns c =
    runs_agree c.well_typed_expressions_are_meant.ensures.lists c.well_formed_statements_are_meant.ensures.steps
    c.well_formed_statements_are_meant.ensures.starts c.well_formed_statements_are_meant.ensures.answers
