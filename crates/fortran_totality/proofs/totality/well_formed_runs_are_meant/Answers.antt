use Rattle.fortran_totality.proofs.AnswerLemmas.{each_answer}
use Rattle.fortran_totality.proofs.RunLemmas.{each_run, each_ending}
use Rattle.fortran_totality.proofs.StartLemmas.{each_start}
use Rattle.fortran_totality.proofs.StepLemmas.{each_step}
use Rattle.fortran_totality.proofs.totality.well_formed_runs_are_meant.Goals as goal

pub returns-clause-runs : goal.returns-clause-runs
returns-clause-runs c = each_run each_step each_start each_answer

pub returns-clause-endings : goal.returns-clause-endings
returns-clause-endings c = each_ending each_step each_start each_answer
