-- How a call that reads items ends (ANSI X3.9-1978, 12.6 and 12.8).
use Rattle.std.specs.Prelude.{ℤ, Result, Ok, Err}
use Rattle.unit_answers.specs.declared.ends.CallEnd.{CallEnd}
use Rattle.unit_answers.specs.declared.ends.CallEnd.TheVariants as calls
use Rattle.unit_answers.specs.Answers.{numbered_answer}
use Rattle.listed_output.specs.declared.calls.Passage.{Passage}
use Rattle.listed_output.specs.declared.calls.Passage.TheVariants.{Over}
use Rattle.listed_input.specs.declared.ends.ItemEnd.{ItemEnd}
use Rattle.listed_input.specs.declared.ends.ItemEnd.TheVariants as items
use Rattle.listed_input.specs.declared.ends.InputEnd.{InputEnd}
use Rattle.listed_input.specs.declared.ends.InputEnd.TheVariants.{Call, Uncounted}

abbrev pub passage_of : Result ℤ CallEnd → Result Passage InputEnd
passage_of (Ok number) = Ok (Over number)
passage_of (Err end) = Err (Call end)

abbrev pub end_of : ℤ → ℤ → ℤ → ItemEnd → Result Passage InputEnd
end_of unit on_error on_end (items.Fault fault) = Err (Call (calls.Fault fault))
end_of unit on_error on_end (items.Number number) = passage_of (numbered_answer number on_error on_end)
end_of unit on_error on_end items.Device = Err (Call (calls.Device unit))
end_of unit on_error on_end items.Uncounted = Err Uncounted
