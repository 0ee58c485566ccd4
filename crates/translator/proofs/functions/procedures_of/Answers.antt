use Rattle.translator.proofs.ProcedureLemmas.{no_callee_yet, more_callees, all_callees}
use Rattle.translator.proofs.functions.procedures_of.Goals as goal

pub loop-unit-init : goal.loop-unit-init
loop-unit-init c us x told = no_callee_yet us x _ (c.no_procedures-procedures.ensures x)

pub loop-unit-preserved : goal.loop-unit-preserved
loop-unit-preserved c us x told =
    more_callees us c.args.units.now c.loop-unit.unit-index c.unit-item.result _ x _ _ _ told c.loop-unit-test.true c.unit-item.is (c.in_ok-add_procedure.ensures x) (c.loop-unit.invariant us x told)

pub returns : goal.returns
returns c us told = record { told = λ x. all_callees us c.args.units.now c.loop-unit.unit-index x _ told c.loop-unit-test.false (c.loop-unit.invariant us x told) }
