use Rattle.std.proofs.Common.{◌+◌, length, drop}
use Rattle.edit_rules.specs.edit_meaning.Listed.{shown}
use Rattle.edit_rules.specs.Writer.{used_by, done_by, value_of}
use Rattle.internal_output.proofs.PutLaws.{Putting}
use Rattle.internal_output.proofs.puts.put_value.Given as goal

-- the lines so far are stored
abbrev pub invariant-loop-used : goal.invariant-loop-used
invariant-loop-used l = Putting (value_of l.value) l.fn.making.writer l.fn.making.line l.writer l.line l.fn.file l.fn.run l.file l.run

-- what is left of the text of the item, and of the record
abbrev pub decreases-loop-used : goal.decreases-loop-used
decreases-loop-used l = used_by l.writer + length (drop (done_by l.writer) (shown (value_of l.value)))
