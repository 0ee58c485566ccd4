use Rattle.std.proofs.Common.{◌-◌}
use Rattle.internal_formatted.proofs.PutLaws.{Putting}
use Rattle.internal_formatted.proofs.items.put_items.Given as goal

-- the items so far are put
abbrev pub invariant-items : goal.invariant-items
invariant-items l = Putting l.format l.fn.output l.output l.list.count l.list.size l.fn.first (l.list.count - l.counter) l.pointer l.fn.run l.run
