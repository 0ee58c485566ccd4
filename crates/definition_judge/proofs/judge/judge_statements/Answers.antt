use Rattle.std.proofs.Common.{ap, ◌∙◌, arith}
use Rattle.refusal_order.specs.Earliest.{earliest}
use Rattle.definition_judge.proofs.DefinitionLaws.{comes_first, comes_on, comes_last}
use Rattle.definition_judge.proofs.judge.judge_statements.Goals as goal

pub loop-statement-init : goal.loop-statement-init
loop-statement-init c = comes_first c.args.unit.now c.args.statements.now c.args.names.now c.requires.names c.requires.functions

pub judge_statement-requires-clause-names : goal.judge_statement-requires-clause-names
judge_statement-requires-clause-names c = c.loop-statement.invariant.given

pub loop-statement-preserved : goal.loop-statement-preserved
loop-statement-preserved c =
    comes_on c.args.unit.now c.args.statements.now c.loop-statement.statement-index c.statement-item.result _ _ _ _ _ _ c.loop-statement-test.true c.statement-item.is c.loop-statement.invariant
    c.in_ok-fault.ensures (c.earlier_of-found.ensures ∙ ap (earliest c.loop-statement.found) c.refused_at.ensures)

pub returns : goal.returns
returns c = comes_last c.args.unit.now c.args.statements.now c.loop-statement.statement-index _ _ (omega arith) c.loop-statement.invariant
