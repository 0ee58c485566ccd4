-- What a call of the library answers, as the meaning of C texts has it (CSTR 149, appendix on the run time library).
use Rattle.std.specs.Prelude.{◌≡◌, ℕ, ℤ, List, Option, Some, Result, Ok, Err, slice_get}
use Rattle.c_tree.specs.run_state.Endings.{Ending}
use Rattle.c_tree.specs.run_state.Units.{Units}
use Rattle.c_tree.specs.declared.outcome.CValue.{CValue}
use Rattle.c_tree.specs.Faults as faults
use Rattle.c_tree.specs.Faults.{Or, Break}
use Rattle.c_tree.specs.Objects.{Object}
use Rattle.c_tree.specs.World as world
use Rattle.c_tree.specs.World.{World, Transfer, Reply}
use Rattle.c_tree.specs.Builtins.{Builtin, Signature, signatures}
use Rattle.c_tree.specs.Library.{library}
use Rattle.item_deeds.specs.Deeds.{world_of}
use Rattle.run_library.specs.declared.library.RunBreak.{RunBreak}
use Rattle.run_library.specs.declared.library.RunBreak.TheVariants as reason
use Rattle.run_library.specs.declared.library.LibraryReply.{LibraryReply}
use Rattle.run_library.specs.declared.library.LibraryReply.TheVariants as reply
use Rattle.run_library.specs.declared.library.CallBreak.{CallBreak}
use Rattle.run_library.specs.declared.library.CallBreak.TheVariants as broken
use Rattle.run_library.specs.Kept.{OthersStand, KeepsIn}
use Rattle.run_library.specs.UnitsCalled.{is_on, transfer_of_call}

abbrev pub break_of : RunBreak → Break
break_of (reason.Fault fault) = faults.Faults fault
break_of reason.Meaningless = faults.NoMeaning

abbrev pub reply_of : {E : Type 0} → (List Object → E → Ending) → World → LibraryReply E → Reply
reply_of ending after (reply.Gives number) = world.Gives number after
reply_of ending after reply.Void = world.Void after
reply_of ending after (reply.Stops how) = world.Stops (ending after.objects how) after

abbrev pub reply_or : {E : Type 0} → (List Object → E → Ending) → World → Result (LibraryReply E) RunBreak → Or Reply
reply_or ending after (Ok given) = Ok (reply_of ending after given)
reply_or ending after (Err why) = Err (break_of why)

-- the function of a number gives this reply, and leaves this world
abbrev pub Replies : {E : Type 0} → (List Object → E → Ending) → ℕ → List CValue → World → World → Result (LibraryReply E) RunBreak → Type 0
Replies ending number values before after result =
    (signature : Signature) → slice_get signatures number ≡ Some signature → library signature.builtin before values ≡ reply_or ending after result

-- there are units and a transfer in progress for which a library stands, which make such a world with the objects
pub record StandsIn (stands : Units → Option Transfer → Type 0) (objects : List Object) (Holds : World → Type 0) : Type 0 where
  pub units : Units
  pub transfer : Option Transfer
  pub stood : stands units transfer
  pub holds : Holds (world_of objects units transfer)

-- behind a call of a function that breaks the units are as they were; where it is a call of the transfer in progress, all but its unit, unless that transfer
-- keeps it too
abbrev pub KeepsUnits : Builtin → World → World → Type 0
KeepsUnits builtin before after = KeepsIn (transfer_of_call builtin before.transfer) before.units after.units

-- the same of a call of the function of a number
abbrev pub Keeps : ℕ → World → World → Type 0
Keeps number before after = (signature : Signature) → slice_get signatures number ≡ Some signature → KeepsUnits signature.builtin before after

-- the function of a number is called on this unit
abbrev pub IsOn : ℕ → List CValue → World → ℤ → Type 0
IsOn number values before unit = (signature : Signature) → slice_get signatures number ≡ Some signature → is_on signature.builtin before values unit

-- a call in a world replies what its function gives, and leaves objects and a library that stands for such units and such a transfer; where it breaks, the
-- units are kept as such a call keeps them; where a device failed, it is that of the unit of the call, and all other units are as they were; where 64 bits do
-- not tell what is to be counted, nothing is said of the reply
abbrev pub Answers : {E : Type 0} → (List Object → E → Ending) → ℕ → List CValue → World → (Units → Option Transfer → Type 0) → List Object → Result (LibraryReply E) CallBreak → Type 0
Answers ending number values before stands objects (Ok given) = StandsIn stands objects (λ after. Replies ending number values before after (Ok given))
Answers ending number values before stands objects (Err (broken.Break why)) = StandsIn stands objects (λ after. Replies ending number values before after (Err why) × Keeps number before after)
Answers ending number values before stands objects (Err (broken.Device unit)) = StandsIn stands objects (λ after. IsOn number values before unit × OthersStand unit before.units after.units)
Answers ending number values before stands objects (Err broken.Uncounted) = Unit {0}

-- what holds where more is to be counted than 64 bits tell
abbrev pub UncountedIf : {E : Type 0} → Result (LibraryReply E) CallBreak → Type 0 → Type 0
UncountedIf (Ok given) P = Unit {0}
UncountedIf (Err (broken.Break why)) P = Unit {0}
UncountedIf (Err (broken.Device unit)) P = Unit {0}
UncountedIf (Err broken.Uncounted) P = P

-- a unit, of which this holds, is that of a call over some objects, whichever the units and the transfer are of those for which a library stood before it
pub record CountsOn (On : World → ℤ → Type 0) (objects : List Object) (stood : Units → Option Transfer → Type 0) (IsFar : ℤ → Type 0) : Type 0 where
  pub unit : ℤ
  pub on : (units : Units) → (transfer : Option Transfer) → stood units transfer → On (world_of objects units transfer) unit
  pub far : IsFar unit
