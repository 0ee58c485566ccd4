use Rattle.f_tree.specs.Lines.{unit_read}
use Rattle.unit_judge.proofs.PartLemmas.{control_first}
use Rattle.unit_judge.proofs.parts.control_fault.Goals as goal

pub returns : goal.returns
returns c = λ options.
    let u = c.args.unit.now in
    control_first u (unit_read options u) _ _ _ c.in_ok-structure.ensures (c.in_ok-crossing.ensures options) c.earlier_of.ensures
