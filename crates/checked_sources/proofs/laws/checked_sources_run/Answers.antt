use Rattle.checked_sources.proofs.SourceRuns.{source_runs}
use Rattle.checked_sources.proofs.laws.checked_sources_run.Goals as goal

pub returns : goal.returns
returns c = source_runs c.checked_runs_agree.ensures c.each_card_has_one_statement.ensures
