-- Calls that read and change the objects alone.
use Rattle.std.proofs.Common.{◌≡◌, ℤ, List, Option}
use Rattle.std.specs.Prelude.{Result, Ok, Err}
use Rattle.c_tree.specs.declared.outcome.CValue.{CValue}
use Rattle.c_tree.specs.declared.outcome.CFault.{CFault}
use Rattle.c_tree.specs.Objects.{Object}
use Rattle.c_tree.specs.World.{Gives, Void}
use Rattle.c_tree.specs.Builtins.{Builtin}
use Rattle.item_deeds.specs.Forms.{SameForms}
use Rattle.item_deeds.proofs.FormLaws.{same-objects}
use Rattle.f2c_outside.specs.Table.{Row}
use Rattle.unit_answers.proofs.FailureLaws.{none-failed}
use Rattle.library_calls.specs.Answers.{Answers}
use Rattle.unit_library.specs.declared.transfers.TransferInProgress.{TransferInProgress}
use Rattle.unit_library.specs.Replies.{CallResult, given_by, done_by}
use Rattle.unit_library.specs.Calls.{Calls}
use Rattle.unit_library.proofs.GivenCalls.{anywhere}
use Rattle.unit_library.proofs.SameCalls.{arguments-same}

number-called : (builtin : Builtin) (arguments : List CValue) (objects : List Object) (held : Option TransferInProgress) (rows : List Row) (answer : Result ℤ CFault) →
    Answers Gives builtin arguments objects objects answer → Calls builtin arguments objects objects held held rows rows (given_by answer)
number-called builtin arguments objects held rows (Ok number) answers = anywhere (given_by (Ok number)) answers (none-failed rows) (same-objects objects)
number-called builtin arguments objects held rows (Err fault) answers = anywhere (given_by (Err fault)) answers.0 (none-failed rows) (same-objects objects)

pub number-call : (builtin : Builtin) (arguments arguments' : List CValue) (objects : List Object) (answer : Result ℤ CFault) (result : CallResult) →
    arguments ≡ arguments' → result ≡ given_by answer → Answers Gives builtin arguments objects objects answer →
    (held : Option TransferInProgress) → (rows : List Row) → Calls builtin arguments' objects objects held held rows rows result
number-call builtin arguments arguments' objects answer result same is answers held rows =
    arguments-same builtin arguments arguments' objects objects held held rows rows (given_by answer) result same is
    (number-called builtin arguments objects held rows answer answers)

copy-called : (builtin : Builtin) (arguments : List CValue) (old new : List Object) (held : Option TransferInProgress) (rows : List Row) (answer : Result (Unit {0}) CFault) →
    SameForms old new → Answers (λ done. Void) builtin arguments old new answer → Calls builtin arguments old new held held rows rows (done_by answer)
copy-called builtin arguments old new held rows (Ok done) kept answers = anywhere (done_by (Ok done)) answers (none-failed rows) kept
copy-called builtin arguments old new held rows (Err fault) kept answers = anywhere (done_by (Err fault)) answers.0 (none-failed rows) kept

pub copy-call : (builtin : Builtin) (arguments arguments' : List CValue) (old new : List Object) (answer : Result (Unit {0}) CFault) (result : CallResult) →
    arguments ≡ arguments' → result ≡ done_by answer → SameForms old new → Answers (λ done. Void) builtin arguments old new answer →
    (held : Option TransferInProgress) → (rows : List Row) → Calls builtin arguments' old new held held rows rows result
copy-call builtin arguments arguments' old new answer result same is kept answers held rows =
    arguments-same builtin arguments arguments' old new held held rows rows (done_by answer) result same is
    (copy-called builtin arguments old new held rows answer kept answers)
