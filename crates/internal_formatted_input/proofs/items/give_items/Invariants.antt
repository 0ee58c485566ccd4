use Rattle.std.proofs.Common.{◌-◌}
use Rattle.internal_formatted_input.proofs.GiveLaws.{Giving}
use Rattle.internal_formatted_input.proofs.items.give_items.Given as goal

-- the items so far have their values
abbrev pub invariant-items : goal.invariant-items
invariant-items l = Giving l.format l.fn.input l.input l.list.count l.list.size l.fn.first (l.list.count - l.counter) l.pointer l.fn.run l.run
