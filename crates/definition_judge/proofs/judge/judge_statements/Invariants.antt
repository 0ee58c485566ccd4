use Rattle.definition_judge.proofs.DefinitionLaws.{Comes}
use Rattle.definition_judge.proofs.judge.judge_statements.Given as goal

abbrev pub invariant-loop-statement : goal.invariant-loop-statement
invariant-loop-statement l = Comes l.unit l.statements l.statement-index l.names l.found
