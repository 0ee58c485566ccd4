use Rattle.std.proofs.Common.{refl}
use Rattle.length_judge.proofs.FaultForms.{faults_given}
use Rattle.length_judge.proofs.KnownLaws.{names_known}
use Rattle.length_judge.proofs.judge.body_faults.Goals as goal

pub statement_faults-requires : goal.statement_faults-requires
statement_faults-requires c = names_known _ _ c.in_ok-dummy_lengths.ensures c.requires.table c.requires.declared.constants.constants

pub returns : goal.returns
returns c = faults_given c.statement_faults.result c.args.unit.now _ _ c.args.body.now refl c.in_ok-dummy_lengths.ensures c.statement_faults.ensures
