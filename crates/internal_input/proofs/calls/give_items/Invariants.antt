use Rattle.std.proofs.Common.{◌-◌}
use Rattle.item_deeds.specs.Forms.{SameForms}
use Rattle.internal_input.proofs.GiveLaws.{Giving}
use Rattle.internal_input.proofs.calls.give_items.Given as goal

-- the items so far have their values
abbrev pub invariant-loop : goal.invariant-loop
invariant-loop l = SameForms l.fn.run l.run × Giving l.list l.fn.first l.fn.input l.input l.fn.run l.run l.pointer (l.list.count - l.counter)
