use Rattle.unit_judge.specs.UnitParts.{executed_rows}
use Rattle.unit_judge.proofs.PartLemmas.{first_two}
use Rattle.unit_judge.proofs.parts.executed_fault.Goals as goal

pub returns : goal.returns
unfolding executed_rows
returns c = λ options. first_two _ _ _ _ _ (c.in_ok-statements.ensures options) (c.in_ok-control.ensures options) c.earlier_of.ensures
