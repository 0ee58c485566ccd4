-- How a call that reads items ends (ANSI X3.9-1978, 12.6 and 12.8).
use Rattle.std.specs.Prelude.{ℤ, Result, Err}
use Rattle.unit_answers.specs.declared.ends.CallEnd.{CallEnd}
use Rattle.unit_answers.specs.declared.ends.CallEnd.TheVariants as calls
use Rattle.unit_answers.specs.Answers.{numbered_answer}
use Rattle.listed_output.specs.declared.calls.Passage.{Passage}
use Rattle.listed_output.specs.Transferring.{over_by}
use Rattle.internal_input.specs.declared.ends.ItemEnd.{ItemEnd}
use Rattle.internal_input.specs.declared.ends.ItemEnd.TheVariants.{Fault, Number}

abbrev pub end_of : ℤ → ℤ → ItemEnd → Result Passage CallEnd
end_of on_error on_end (Fault fault) = Err (calls.Fault fault)
end_of on_error on_end (Number number) = over_by (numbered_answer number on_error on_end)
