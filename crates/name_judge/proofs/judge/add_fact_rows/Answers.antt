use Rattle.name_judge.proofs.KindLemmas.{all_rows, given_is}
use Rattle.name_judge.proofs.judge.add_fact_rows.Goals as goal

pub returns : goal.returns
returns c =
    all_rows c.add_constant.result _ _ _ _ _ _ _ _ _ _ _ _ c.in_ok-add_mention_rows.ensures c.in_ok-add_conflicts.ensures c.in_ok-add_bounds.ensures c.in_ok-add_elements.ensures
    (given_is c.args.unit.now c.args.name.now) c.add_constant.ensures
