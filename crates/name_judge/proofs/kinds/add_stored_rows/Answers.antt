use Rattle.std.specs.List.{list_all}
use Rattle.std.proofs.Common.{ap, ◌∙◌}
use Rattle.found_rows.proofs.Walks.{put_three}
use Rattle.name_facts.specs.Dimensions.{is_closed}
use Rattle.name_judge.proofs.KindLemmas.{stored_by}
use Rattle.name_judge.proofs.kinds.add_stored_rows.Goals as goal

pub returns : goal.returns
returns c =
    put_three c.add_at-3.result _ _ _ _ _ _ _ _ c.in_ok-add_at.ensures c.in_ok-add_at-2.ensures c.add_at-3.ensures
    (stored_by c.args.place c.args.row c.args.fact.now c.is_some.result c.len.result c.all_closed-are_closed.result c.is_some.ensures c.len.ensures
    (c.all_closed-are_closed.ensures ∙ ap (list_all is_closed) c.as_slice.ensures))
