use Rattle.f2c_outside.specs.Rows.{rows_of}
use Rattle.formatted_output.proofs.PlaceLaws.{edits_ahead}
use Rattle.formatted_input.proofs.ReachLaws.{Going}
use Rattle.formatted_input.proofs.items.next_field.Given as goal

abbrev pub invariant-edits : goal.invariant-edits
invariant-edits g l =
    Going l.format l.fn.walk l.walk l.unit l.fn.record l.record
    (rows_of (λ b. (goal.Device-dyn g (b.vtable, b.value)).device_state b.value) l.fn.units)
    (rows_of (λ b. (goal.Device-dyn g (b.vtable, b.value)).device_state b.value) l.units)

abbrev pub decreases-edits : goal.decreases-edits
decreases-edits g l = edits_ahead l.format l.walk
