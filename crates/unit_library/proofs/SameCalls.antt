-- A call with the same arguments and the same result, and a call that has a fault.
use Rattle.std.proofs.Common.{◌≡◌, List, Option, sym, subst}
use Rattle.c_tree.specs.run_state.Units.{Units}
use Rattle.c_tree.specs.declared.outcome.CValue.{CValue}
use Rattle.c_tree.specs.declared.outcome.CFault.{CFault}
use Rattle.c_tree.specs.Faults.{failing}
use Rattle.c_tree.specs.Objects.{Object}
use Rattle.c_tree.specs.World.{Transfer}
use Rattle.c_tree.specs.Builtins.{Builtin}
use Rattle.c_tree.specs.Library.{library}
use Rattle.item_deeds.specs.Deeds.{world_of}
use Rattle.item_deeds.proofs.FormLaws.{same-objects}
use Rattle.f2c_outside.specs.Table.{Row}
use Rattle.unit_answers.proofs.FailureLaws.{none-failed}
use Rattle.unit_library.specs.declared.transfers.TransferInProgress.{TransferInProgress}
use Rattle.unit_library.specs.declared.functions.LibraryFunction.{LibraryFunction}
use Rattle.unit_library.specs.Functions.{builtin_of, argument_count}
use Rattle.unit_library.specs.Arguments.{front}
use Rattle.unit_library.specs.Replies.{CallResult, broken_by}
use Rattle.unit_library.specs.Calls.{Calls}
use Rattle.unit_library.proofs.GivenCalls.{anywhere}

pub arguments-same : (builtin : Builtin) (arguments arguments' : List CValue) (objects objects' : List Object) (held held' : Option TransferInProgress) (rows rows' : List Row)
    (result result' : CallResult) → arguments ≡ arguments' → result' ≡ result → Calls builtin arguments objects objects' held held' rows rows' result →
    Calls builtin arguments' objects objects' held held' rows rows' result'
arguments-same builtin arguments arguments' objects objects' held held' rows rows' result result' same is calls =
    subst (λ (all : List CValue). Calls builtin all objects objects' held held' rows rows' result') same
    (subst (λ (r : CallResult). Calls builtin arguments objects objects' held held' rows rows' r) (sym is) calls)

-- what is known of the arguments, of the transfer in progress before and behind, and of the result
pub calls-as : {builtin : Builtin} {objects objects' : List Object} {rows rows' : List Row} (arguments arguments' : List CValue) (held known held' known' : Option TransferInProgress)
    (result' result : CallResult) → arguments ≡ arguments' → held ≡ known → held' ≡ known' → result' ≡ result → Calls builtin arguments objects objects' known known' rows rows' result →
    Calls builtin arguments' objects objects' held held' rows rows' result'
calls-as {builtin} {objects} {objects'} {rows} {rows'} arguments arguments' held known held' known' result' result same holds behind is calls =
    subst (λ (h : Option TransferInProgress). Calls builtin arguments' objects objects' h held' rows rows' result') (sym holds)
    (subst (λ (h : Option TransferInProgress). Calls builtin arguments' objects objects' known h rows rows' result') (sym behind)
    (arguments-same builtin arguments arguments' objects objects' known known' rows rows' result result' same is calls))

-- a call that has a fault, whatever the units are and whichever transfer is in progress
pub fault-call : (builtin : Builtin) (arguments arguments' : List CValue) (objects : List Object) (fault : CFault) (result : CallResult) →
    arguments ≡ arguments' → result ≡ broken_by fault →
    ((units : Units) → (transfer : Option Transfer) → library builtin (world_of objects units transfer) arguments ≡ failing fault) →
    (held : Option TransferInProgress) → (rows : List Row) → Calls builtin arguments' objects objects held held rows rows result
fault-call builtin arguments arguments' objects fault result same is fails held rows =
    arguments-same builtin arguments arguments' objects objects held held rows rows (broken_by fault) result same is
    (anywhere (broken_by fault) fails (none-failed rows) (same-objects objects))

-- what is known of the transfer in progress
pub held-as : (builtin : Builtin) (arguments : List CValue) (objects objects' : List Object) (held known : Option TransferInProgress) (rows rows' : List Row) (result : CallResult) →
    held ≡ known → Calls builtin arguments objects objects' known known rows rows' result → Calls builtin arguments objects objects' held held rows rows' result
held-as builtin arguments objects objects' held known rows rows' result is calls =
    subst (λ (h : Option TransferInProgress). Calls builtin arguments objects objects' h h rows rows' result) (sym is) calls

-- what is known of the function
pub function-as : (function known : LibraryFunction) (values : List CValue) (objects objects' : List Object) (held held' : Option TransferInProgress) (rows rows' : List Row)
    (result : CallResult) → function ≡ known → Calls (builtin_of known) (front (argument_count known) 0 values) objects objects' held held' rows rows' result →
    Calls (builtin_of function) (front (argument_count function) 0 values) objects objects' held held' rows rows' result
function-as function known values objects objects' held held' rows rows' result is calls =
    subst (λ (f : LibraryFunction). Calls (builtin_of f) (front (argument_count f) 0 values) objects objects' held held' rows rows' result) (sym is) calls
