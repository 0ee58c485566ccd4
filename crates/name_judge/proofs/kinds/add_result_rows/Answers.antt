use Rattle.found_rows.proofs.Walks.{put_three}
use Rattle.name_judge.proofs.KindLemmas.{result_by}
use Rattle.name_judge.proofs.kinds.add_result_rows.Goals as goal

pub returns : goal.returns
returns c =
    put_three c.add_at-3.result _ _ _ _ _ _ _ _ c.in_ok-add_at.ensures c.in_ok-add_at-2.ensures c.add_at-3.ensures
    (result_by c.args.place c.args.is_function c.args.fact.now c.len.result c.len.ensures)
