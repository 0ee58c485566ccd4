use Rattle.std.proofs.Common.{◌∙◌}
use Rattle.loop_entries.proofs.ArmLemmas.{next_count, next_is}
use Rattle.loop_entries.proofs.arms.next_arms.Goals as goal

pub returns-clause-count : goal.returns-clause-count
returns-clause-count c = next_count c.args.statements.now _ (c.reverse.ensures.items ∙ c.in_ok-all.ensures)

pub returns-clause-arms : goal.returns-clause-arms
returns-clause-arms c = λ p names reads i h. next_is p names c.args.statements.now _ i (c.reverse.ensures.items ∙ c.in_ok-all.ensures) reads h
