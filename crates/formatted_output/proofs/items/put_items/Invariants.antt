use Rattle.std.proofs.Common.{◌-◌}
use Rattle.f2c_outside.specs.Rows.{rows_of}
use Rattle.formatted_output.proofs.PutLaws.{Putting}
use Rattle.formatted_output.proofs.items.put_items.Given as goal

-- the items so far are put
abbrev pub invariant-items : goal.invariant-items
invariant-items g l =
    Putting l.format l.fn.output l.output l.run l.list.count l.list.size l.fn.first (l.list.count - l.counter) l.pointer
    (rows_of (λ b. (goal.Device-dyn g (b.vtable, b.value)).device_state b.value) l.fn.units)
    (rows_of (λ b. (goal.Device-dyn g (b.vtable, b.value)).device_state b.value) l.units)
