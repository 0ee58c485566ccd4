use Rattle.unit_judge.specs.UnitParts.{used_rows}
use Rattle.unit_judge.proofs.PartLemmas.{first_three}
use Rattle.unit_judge.proofs.parts.used_fault.Goals as goal

pub returns-clause-fault : goal.returns-clause-fault
unfolding used_rows
returns-clause-fault c =
    first_three _ _ _ _ _ _ _ _ c.in_ok-format.ensures c.in_ok-reference.ensures.fault c.in_ok-length.ensures c.earlier_of-later.ensures c.earlier_of.ensures
