-- The errors of fields by their numbers.
use Rattle.std.specs.Prelude.{ℕ, Result, Ok, Err}
use Rattle.edit_rules.specs.declared.take.TakeError.{TakeError}
use Rattle.edit_rules.specs.declared.take.TakeError.TheVariants.{BadInteger, BadLogical, TooLarge}

abbrev pub error_number : TakeError → ℕ
error_number BadInteger = 1
error_number BadLogical = 2
error_number TooLarge = 3

-- an answer with its error by number
abbrev pub numbered : {A : Type 0} → Result A TakeError → Result A ℕ
numbered (Ok value) = Ok value
numbered (Err error) = Err (error_number error)
