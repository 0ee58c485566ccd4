use Rattle.std.proofs.Common.{refl}
use Rattle.found_rows.proofs.Walks.{put_two}
use Rattle.given_judge.proofs.statements.add_declared.Goals as goal

pub returns : goal.returns
returns c = put_two c.add_shaped_typed.result _ _ _ _ _ _ c.in_ok-add_typed.ensures c.add_shaped_typed.ensures refl
