-- A call by the number of its function (CSTR 149, appendix on the run time library).
use Rattle.std.proofs.Common.{◌≡◌, ℕ, ℤ, List, Option, Some, None, refl, ap, sym, ◌∙◌, subst}
use Rattle.std.specs.Prelude.{slice_get, option_map, Ok, Err}
use Rattle.c_tree.specs.run_state.Units.{Units}
use Rattle.c_tree.specs.declared.outcome.CValue.{CValue}
use Rattle.c_tree.specs.declared.outcome.CFault.{CFault}
use Rattle.c_tree.specs.Objects.{Object}
use Rattle.c_tree.specs.World.{World, Transfer}
use Rattle.c_tree.specs.Builtins.{Builtin, Signature, signatures}
use Rattle.c_tree.specs.Library.{library}
use Rattle.item_deeds.specs.Deeds.{world_of}
use Rattle.f2c_outside.specs.Table.{Row}
use Rattle.run_library.specs.declared.library.CallBreak.TheVariants as broken
use Rattle.run_library.specs.Signatures.{IsCall}
use Rattle.run_library.specs.Replies as replies
use Rattle.run_library.specs.UnitsCalled.{unit_of_call, is_on}
use Rattle.run_library.proofs.CountLaws.{counts-as}
use Rattle.unit_library.specs.declared.functions.LibraryFunction.{LibraryFunction}
use Rattle.unit_library.specs.declared.transfers.TransferInProgress.{TransferInProgress}
use Rattle.unit_library.specs.Endings.{ending_of}
use Rattle.unit_library.specs.Functions.{form_of, listed_form, builtin_of, argument_count}
use Rattle.unit_library.specs.Arguments.{front}
use Rattle.unit_library.specs.Transfers.{Standing}
use Rattle.unit_library.specs.Replies.{CallResult, broken_by}
use Rattle.unit_library.specs.Calls.{AnswersCall}
use Rattle.unit_library.proofs.ArgumentLaws.{same-call, none-known}

same-library : (builtin builtin' : Builtin) (arguments arguments' : List CValue) (world : World) → (builtin ≡ builtin') × (arguments ≡ arguments') →
    library builtin' world arguments' ≡ library builtin world arguments
same-library builtin builtin' arguments arguments' world same =
    sym (ap (λ (b : Builtin). library b world arguments) same.0 ∙ ap (λ (all : List CValue). library builtin' world all) same.1)

-- and it is on the same unit
same-unit : (number : ℕ) (values : List CValue) (function : LibraryFunction) → IsCall number values → Some (form_of function) ≡ option_map listed_form (slice_get signatures number) →
    (before : World) (unit : ℤ) (signature : Signature) → slice_get signatures number ≡ Some signature → is_on (builtin_of function) before (front (argument_count function) 0 values) unit →
    is_on signature.builtin before values unit
same-unit number values function call is before unit signature known on =
    let same = same-call number values function call is signature known in
    sym (ap (λ (b : Builtin). unit_of_call b before.objects before.transfer (front (argument_count function) 0 values)) same.0
    ∙ ap (λ (all : List CValue). unit_of_call signature.builtin before.objects before.transfer all) same.1)
    ∙ on

-- a call of the function of a number answers what its signature says
pub answered : (number : ℕ) (values : List CValue) (function : LibraryFunction) → IsCall number values → Some (form_of function) ≡ option_map listed_form (slice_get signatures number) →
    (before : World) (stands : Units → Option Transfer → Type 0) (objects : List Object) (result : CallResult) →
    AnswersCall (builtin_of function) (front (argument_count function) 0 values) before stands objects result → replies.Answers ending_of number values before stands objects result
answered number values function call is before stands objects (Ok given) answers = record {
  units = answers.units;
  transfer = answers.transfer;
  stood = answers.stood;
  holds = λ signature known.
      same-library (builtin_of function) signature.builtin (front (argument_count function) 0 values) values before (same-call number values function call is signature known) ∙ answers.holds;
}
answered number values function call is before stands objects (Err (broken.Break why)) answers = record {
  units = answers.units;
  transfer = answers.transfer;
  stood = answers.stood;
  holds = (
    λ signature known.
        same-library (builtin_of function) signature.builtin (front (argument_count function) 0 values) values before (same-call number values function call is signature known) ∙ answers.holds.0,
    λ signature known.
        subst (λ (b : Builtin). replies.KeepsUnits b before (world_of objects answers.units answers.transfer)) (same-call number values function call is signature known).0 answers.holds.1,
  );
}
answered number values function call is before stands objects (Err (broken.Device unit)) answers = record {
  units = answers.units;
  transfer = answers.transfer;
  stood = answers.stood;
  holds = (λ signature known. same-unit number values function call is before unit signature known answers.holds.0, answers.holds.1);
}
answered number values function call is before stands objects (Err broken.Uncounted) answers = tt

-- there is no function of the number
pub none-answered : (number : ℕ) (values : List CValue) (why : CFault) → None ≡ option_map listed_form (slice_get signatures number) →
    (rows : List Row) (held : Option TransferInProgress) (objects : List Object) (units : Units) (transfer : Option Transfer) → Standing rows held units transfer →
    replies.Answers ending_of number values (world_of objects units transfer) (Standing rows held) objects (broken_by why)
none-answered number values why is rows held objects units transfer standing = record {
  units = units;
  transfer = transfer;
  stood = standing;
  holds = (λ signature known. absurd (none-known number is signature known), λ signature known. absurd (none-known number is signature known));
}

-- and counts on the same unit
pub counted-so : (number : ℕ) (values : List CValue) (function : LibraryFunction) → IsCall number values → Some (form_of function) ≡ option_map listed_form (slice_get signatures number) →
    (objects : List Object) (stood : Units → Option Transfer → Type 0) (IsFar : ℤ → Type 0) (result : CallResult) →
    replies.UncountedIf result (replies.CountsOn (λ world unit. is_on (builtin_of function) world (front (argument_count function) 0 values) unit) objects stood IsFar) →
    replies.UncountedIf result (replies.CountsOn (replies.IsOn number values) objects stood IsFar)
counted-so number values function call is objects stood IsFar (Ok given) counted = tt
counted-so number values function call is objects stood IsFar (Err (broken.Break why)) counted = tt
counted-so number values function call is objects stood IsFar (Err (broken.Device unit)) counted = tt
counted-so number values function call is objects stood IsFar (Err broken.Uncounted) counted =
    counts-as objects objects refl (λ units transfer unit on signature known. same-unit number values function call is (world_of objects units transfer) unit signature known on) counted
