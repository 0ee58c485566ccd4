use Rattle.std.proofs.Common.{arith}
use Rattle.std.proofs.lemmas.List.{nil_from_length}
use Rattle.found_rows.proofs.Walks.{then_ok}
use Rattle.order_judge.proofs.NestLemmas.{arm_nests_none, arm_nests_some}
use Rattle.order_judge.proofs.nest.add_arm_row.Goals as goal

pub returns-then-is_empty : goal.returns-then-is_empty
returns-then-is_empty c =
    then_ok _ _ c.add_row.result (λ put. arm_nests_none c.args.statement.now _ _ c.args.open_blocks.now (nil_from_length c.args.open_blocks.now (grind arith)) put) c.add_row.ensures

pub returns : goal.returns
returns c = arm_nests_some c.args.statement.now _ c.args.open_blocks.now (grind arith)
