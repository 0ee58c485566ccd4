use Rattle.std.proofs.Common.{refl}
use Rattle.found_rows.proofs.Walks.{put_two}
use Rattle.given_judge.proofs.statements.add_commons.Goals as goal

pub returns : goal.returns
returns c = put_two c.add_groups.result _ _ _ _ _ _ c.in_ok-add_shaped_groups.ensures c.add_groups.ensures refl
