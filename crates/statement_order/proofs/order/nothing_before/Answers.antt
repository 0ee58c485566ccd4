use Rattle.std.proofs.Common.{refl}
use Rattle.statement_order.proofs.OrderLemmas.{nothing_known}
use Rattle.statement_order.proofs.order.nothing_before.Goals as goal

pub returns : goal.returns
returns c = λ arrays. nothing_known arrays _ refl refl c.new.ensures.names c.new.ensures.is_set c.new-2.ensures.items c.new-3.ensures.names c.new-3.ensures.is_set
