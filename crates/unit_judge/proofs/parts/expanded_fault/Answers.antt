use Rattle.unit_judge.specs.UnitParts.{expanded_rows}
use Rattle.unit_judge.proofs.PartLemmas.{first_two}
use Rattle.unit_judge.proofs.parts.expanded_fault.Goals as goal

pub returns : goal.returns
unfolding expanded_rows
returns c = first_two _ _ _ _ _ c.in_ok-expansion.ensures c.in_ok-given.ensures c.earlier_of.ensures
