use Rattle.unit_judge.specs.UnitParts.{declared_rows}
use Rattle.unit_judge.proofs.PartLemmas.{first_two}
use Rattle.unit_judge.proofs.parts.declared_fault.Goals as goal

pub returns-clause-fault : goal.returns-clause-fault
unfolding declared_rows
returns-clause-fault c = first_two _ _ _ _ _ c.in_ok-named.ensures c.in_ok-defined.ensures.fault c.earlier_of.ensures
