use Rattle.std.proofs.Common.{◌+◌, length, drop}
use Rattle.f2c_outside.specs.Rows.{rows_of}
use Rattle.edit_rules.specs.edit_meaning.Listed.{shown}
use Rattle.edit_rules.specs.Writer.{used_by, done_by, value_of}
use Rattle.listed_output.proofs.PutLaws.{Putting}
use Rattle.listed_output.proofs.records.put_value.Given as goal

-- the lines so far are written
abbrev pub invariant-loop-used : goal.invariant-loop-used
invariant-loop-used g l =
    Putting l.unit (value_of l.value) l.fn.making.writer l.fn.making.line l.writer l.line
    (rows_of (λ b. (goal.Device-dyn g (b.vtable, b.value)).device_state b.value) l.fn.units)
    (rows_of (λ b. (goal.Device-dyn g (b.vtable, b.value)).device_state b.value) l.units)

-- what is left of the text of the item, and of the record
abbrev pub decreases-loop-used : goal.decreases-loop-used
decreases-loop-used g l = used_by l.writer + length (drop (done_by l.writer) (shown (value_of l.value)))
