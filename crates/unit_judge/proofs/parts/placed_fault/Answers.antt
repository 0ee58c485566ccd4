use Rattle.unit_judge.specs.UnitParts.{placed_rows}
use Rattle.unit_judge.proofs.PartLemmas.{first_three}
use Rattle.unit_judge.proofs.parts.placed_fault.Goals as goal

pub returns : goal.returns
unfolding placed_rows
returns c =
    first_three _ _ _ _ _ _ _ _ c.in_ok-undeclared.ensures c.in_ok-order.ensures (c.in_ok-blocks.ensures c.args.options) c.earlier_of-later.ensures c.earlier_of.ensures
