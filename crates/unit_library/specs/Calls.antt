-- What a call of a function of the library does to the objects, the transfer in progress and the rows of the units, as the meaning of
-- C texts has it (CSTR 149, appendix on the run time library).
use Rattle.std.specs.Prelude.{◌≡◌, List, Option, Ok, Err}
use Rattle.c_tree.specs.run_state.Units.{Units}
use Rattle.c_tree.specs.declared.outcome.CValue.{CValue}
use Rattle.c_tree.specs.Objects.{Object}
use Rattle.c_tree.specs.World.{World, Transfer}
use Rattle.c_tree.specs.Builtins.{Builtin}
use Rattle.c_tree.specs.Library.{library}
use Rattle.item_deeds.specs.Deeds.{world_of}
use Rattle.item_deeds.specs.Forms.{SameForms}
use Rattle.f2c_outside.specs.Table.{Row}
use Rattle.unit_answers.specs.Failing.{FailedOn, NoneFailed}
use Rattle.run_library.specs.declared.library.CallBreak.TheVariants as broken
use Rattle.run_library.specs.Kept.{OthersStand}
use Rattle.run_library.specs.UnitsCalled.{is_on}
use Rattle.run_library.specs.Replies.{StandsIn, KeepsUnits, UncountedIf, CountsOn, break_of, reply_of}
use Rattle.unit_library.specs.declared.transfers.TransferInProgress.{TransferInProgress}
use Rattle.unit_library.specs.Endings.{ending_of}
use Rattle.unit_library.specs.Replies.{CallResult}
use Rattle.unit_library.specs.Transfers.{Standing}
use Rattle.unit_library.specs.Uncounted.{IsFarBehind}

-- a call in a world replies what its function gives; where it breaks, the units are kept as such a call keeps them; where a device failed, it is that of the
-- unit of the call, and all other units are as they were; where 64 bits do not tell what is to be counted, nothing is said of the reply
abbrev pub AnswersCall : Builtin → List CValue → World → (Units → Option Transfer → Type 0) → List Object → CallResult → Type 0
AnswersCall builtin arguments before stands objects (Ok given) =
    StandsIn stands objects (λ behind. library builtin before arguments ≡ Ok (reply_of ending_of behind given))
AnswersCall builtin arguments before stands objects (Err (broken.Break why)) =
    StandsIn stands objects (λ behind. (library builtin before arguments ≡ Err (break_of why)) × KeepsUnits builtin before behind)
AnswersCall builtin arguments before stands objects (Err (broken.Device unit)) =
    StandsIn stands objects (λ behind. is_on builtin before arguments unit × OthersStand unit before.units behind.units)
AnswersCall builtin arguments before stands objects (Err broken.Uncounted) = Unit {0}

-- the device of a unit failed, and no other, or none did
abbrev pub DevicesTold : List Row → List Row → CallResult → Type 0
DevicesTold old new (Ok given) = NoneFailed old new
DevicesTold old new (Err (broken.Break why)) = NoneFailed old new
DevicesTold old new (Err (broken.Device unit)) = FailedOn unit old new
DevicesTold old new (Err broken.Uncounted) = NoneFailed old new

-- a call of a function: for all units and transfers for which the library stood it replies what its meaning gives; a device fails where it is answered, and
-- nowhere else; more is to be counted than 64 bits tell only of the unit of the call, where it stands far behind; and the objects keep their forms
pub record Calls (builtin : Builtin) (arguments : List CValue) (objects objects' : List Object) (held held' : Option TransferInProgress) (rows rows' : List Row) (result : CallResult) : Type 0 where
  pub meaning : (units : Units) → (transfer : Option Transfer) → Standing rows held units transfer →
      AnswersCall builtin arguments (world_of objects units transfer) (Standing rows' held') objects' result
  pub counted : UncountedIf result (CountsOn (λ world unit. is_on builtin world arguments unit) objects (Standing rows held) (λ unit. IsFarBehind unit rows'))
  pub devices : DevicesTold rows rows' result
  pub forms : SameForms objects objects'
