use Rattle.unit_judge.proofs.PartLemmas.{unit_first}
use Rattle.unit_judge.proofs.unit.fault_by_names.Goals as goal

pub returns : goal.returns
returns c =
    unit_first c.args.options c.args.unit.now _ _ _ (c.in_ok-own.ensures.fault c.args.options) c.in_ok-further.ensures c.earlier_of.ensures
