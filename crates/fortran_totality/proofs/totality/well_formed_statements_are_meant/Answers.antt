use Rattle.fortran_totality.proofs.AnswerLemmas.{each_answer}
use Rattle.fortran_totality.proofs.StartLemmas.{each_start}
use Rattle.fortran_totality.proofs.StepLemmas.{each_step}
use Rattle.fortran_totality.proofs.totality.well_formed_statements_are_meant.Goals as goal

pub returns-clause-steps : goal.returns-clause-steps
returns-clause-steps c = each_step

pub returns-clause-starts : goal.returns-clause-starts
returns-clause-starts c = each_start

pub returns-clause-answers : goal.returns-clause-answers
returns-clause-answers c = each_answer
