-- Statements on units, outside transfers and in them (ANSI X3.9-1978, 12.10).
use Rattle.std.proofs.Common.{◌≡◌, ℤ, List, [], ◌∷◌, Some, None, refl}
use Rattle.std.specs.Prelude.{Result}
use Rattle.c_tree.specs.run_state.Units.{Units}
use Rattle.c_tree.specs.declared.outcome.CValue.{CValue}
use Rattle.c_tree.specs.declared.outcome.CFault.TheVariants as fault
use Rattle.c_tree.specs.Faults.{failing}
use Rattle.c_tree.specs.Objects.{Object}
use Rattle.c_tree.specs.World.{Transfer}
use Rattle.c_tree.specs.Library.{library}
use Rattle.c_tree.specs.LibraryUnits.{opens, closes, positions}
use Rattle.item_deeds.specs.Deeds.{world_of}
use Rattle.item_deeds.proofs.FormLaws.{same-objects}
use Rattle.f2c_outside.specs.Table.{Row}
use Rattle.unit_answers.specs.declared.ends.CallEnd.{CallEnd}
use Rattle.unit_answers.specs.Answers.{IfDevice}
use Rattle.run_library.specs.UnitsCalled.{unit_of_call}
use Rattle.unit_statements.specs.Statements.{AnswersStatement}
use Rattle.unit_library.specs.declared.functions.UnitStatement.{UnitStatement}
use Rattle.unit_library.specs.declared.functions.UnitStatement.TheVariants as stating
use Rattle.unit_library.specs.declared.transfers.TransferInProgress.{TransferInProgress}
use Rattle.unit_library.specs.Functions.{statement_builtin}
use Rattle.unit_library.specs.Replies.{CallResult, broken_by, ended_by}
use Rattle.unit_library.specs.Calls.{Calls}
use Rattle.unit_library.proofs.GivenCalls.{fault-inside, ended-outside, ends-so}
use Rattle.unit_library.proofs.SameCalls.{arguments-same}

stated-inside : (function : UnitStatement) (objects : List Object) (pointer : CValue) (units : Units) (transfer : Transfer) →
    library (statement_builtin function) (world_of objects units (Some transfer)) (pointer ∷ []) ≡ failing fault.Library
unfolding library opens closes positions
stated-inside stating.Open objects pointer units transfer = refl
stated-inside stating.Close objects pointer units transfer = refl
stated-inside stating.Back objects pointer units transfer = refl
stated-inside stating.Rewind objects pointer units transfer = refl
stated-inside stating.End objects pointer units transfer = refl

pub statement-inside : (function : UnitStatement) (arguments' : List CValue) (objects : List Object) (pointer : CValue) (held : TransferInProgress) (rows : List Row) (result : CallResult) →
    pointer ∷ [] ≡ arguments' → result ≡ broken_by fault.Library →
    Calls (statement_builtin function) arguments' objects objects (Some held) (Some held) rows rows result
statement-inside function arguments' objects pointer held rows result same is =
    arguments-same (statement_builtin function) (pointer ∷ []) arguments' objects objects (Some held) (Some held) rows rows (broken_by fault.Library) result same is
    (fault-inside (statement_builtin function) (pointer ∷ []) objects held rows fault.Library (stated-inside function objects pointer))

pub statement-outside : (function : UnitStatement) (arguments' : List CValue) (objects : List Object) (pointer : CValue) (old new : List Row) (answer : Result ℤ CallEnd) (result : CallResult) →
    pointer ∷ [] ≡ arguments' → result ≡ ended_by answer → AnswersStatement (statement_builtin function) objects pointer old new answer →
    IfDevice answer (λ unit. unit_of_call (statement_builtin function) objects None (pointer ∷ []) ≡ Some unit) (Unit {0}) →
    Calls (statement_builtin function) arguments' objects objects None None old new result
statement-outside function arguments' objects pointer old new answer result same is on named =
    arguments-same (statement_builtin function) (pointer ∷ []) arguments' objects objects None None old new (ended_by answer) result same is
    (ended-outside answer on.tells on.replies (ends-so (statement_builtin function) (pointer ∷ []) objects old new answer on.devices on.kept named) (same-objects objects))
