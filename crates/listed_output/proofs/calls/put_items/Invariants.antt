use Rattle.std.proofs.Common.{List, ◌-◌}
use Rattle.f2c_outside.specs.Rows.{rows_of}
use Rattle.c_tree.specs.edit_meaning.Listed.{ListedValue}
use Rattle.listed_output.specs.Kinds.{kind_shown}
use Rattle.listed_output.proofs.ItemLaws.{Reading}
use Rattle.listed_output.proofs.PutLaws.{PuttingItems}
use Rattle.listed_output.proofs.calls.put_items.Given as goal

-- the items so far are put
abbrev pub invariant-loop : goal.invariant-loop
invariant-loop g l =
    (read : List ListedValue) × Reading (kind_shown l.list.kind) l.run l.list.size l.fn.first l.list.count l.pointer (l.list.count - l.counter) read
    × PuttingItems l.unit read l.fn.making.writer l.fn.making.line l.making.writer l.making.line
    (rows_of (λ b. (goal.Device-dyn g (b.vtable, b.value)).device_state b.value) l.fn.units)
    (rows_of (λ b. (goal.Device-dyn g (b.vtable, b.value)).device_state b.value) l.units)
