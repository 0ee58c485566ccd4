use Rattle.unit_judge.specs.UnitParts.{further_rows}
use Rattle.unit_judge.proofs.PartLemmas.{first_three}
use Rattle.unit_judge.proofs.parts.further_fault.Goals as goal

pub returns : goal.returns
unfolding further_rows
returns c =
    first_three _ _ _ _ _ _ _ _ c.in_ok-placed.ensures c.in_ok-used.ensures.fault c.in_ok-expanded.ensures c.earlier_of-later.ensures c.earlier_of.ensures
