-- What calls of the library leave of the devices of its external units where one fails, and where none does (ANSI X3.9-1978, section 12).
use Rattle.std.specs.Prelude.{ℤ, Result, Ok, Err}
use Rattle.run_library.specs.declared.library.LibraryReply.{LibraryReply}
use Rattle.run_library.specs.declared.library.CallBreak.{CallBreak}
use Rattle.run_library.specs.declared.library.CallBreak.TheVariants as broken

-- in a call no device failed, or that of a unit failed and no other
abbrev pub ToldOfCall : {L E : Type 0} → (L → L → Type 0) → (ℤ → L → L → Type 0) → L → L → Result (LibraryReply E) CallBreak → Type 0
ToldOfCall none_failed failed_on old new (Ok given) = none_failed old new
ToldOfCall none_failed failed_on old new (Err (broken.Break why)) = none_failed old new
ToldOfCall none_failed failed_on old new (Err (broken.Device unit)) = failed_on unit old new
ToldOfCall none_failed failed_on old new (Err broken.Uncounted) = none_failed old new

-- calls one after the other, in none of which a device failed
pub data NoFailure {L : Type 0} (none_failed : L → L → Type 0) (first : L) : L → Type 0 where
  no_call : NoFailure none_failed first first
  one_more : (before after : L) → NoFailure none_failed first before → none_failed before after → NoFailure none_failed first after

-- calls one after the other, in the last of which the device of a unit failed, and in none before it
pub record FailsAtLast {L : Type 0} (none_failed : L → L → Type 0) (failed_on : ℤ → L → L → Type 0) (unit : ℤ) (first last : L) : Type 0 where
  pub before : L
  pub none : NoFailure none_failed first before
  pub failed : failed_on unit before last
