use Rattle.unit_judge.proofs.PartLemmas.{own_first}
use Rattle.unit_judge.proofs.parts.own_fault.Goals as goal

pub returns-clause-fault : goal.returns-clause-fault
returns-clause-fault c = λ options.
    own_first options c.args.unit.now _ _ _ c.in_ok-declared.ensures.fault (c.in_ok-executed.ensures options) c.earlier_of.ensures
