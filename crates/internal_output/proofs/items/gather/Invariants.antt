use Rattle.listed_output.specs.Kinds.{kind_shown}
use Rattle.internal_output.proofs.ItemLaws.{Gathering}
use Rattle.internal_output.proofs.items.gather.Given as goal

-- the items so far stand in the buffer
abbrev pub invariant-loop : goal.invariant-loop
invariant-loop l = Gathering (kind_shown l.list.kind) l.run l.list.size l.fn.first l.list.count l.counter l.pointer l.used l.buffer
