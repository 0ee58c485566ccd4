-- What OPEN, CLOSE, BACKSPACE, REWIND and ENDFILE answer outside every transfer, as the meaning of C texts has it
-- (ANSI X3.9-1978, 12.10).
use Rattle.std.specs.Prelude.{◌≡◌, ℤ, pos, List, [], ◌∷◌, None, Result, Ok, Err}
use Rattle.c_tree.specs.declared.outcome.CValue.{CValue}
use Rattle.c_tree.specs.Faults.{Or}
use Rattle.c_tree.specs.Objects.{Object}
use Rattle.c_tree.specs.Builtins.{Builtin}
use Rattle.c_tree.specs.Library.{library}
use Rattle.f2c_outside.specs.Table.{Row}
use Rattle.f2c_outside.specs.declared.unit_table.Closed.{Closed}
use Rattle.run_state.specs.declared.refusals.UnitRefusal.{UnitRefusal}
use Rattle.run_state.specs.declared.refusals.UnitRefusal.TheVariants.{NotConnected}
use Rattle.control_lists.specs.Files.{Naming}
use Rattle.unit_answers.specs.declared.ends.CallEnd.{CallEnd}
use Rattle.unit_answers.specs.Answers.{refused_answer, world_with, AnswersOn}

-- 0, or what its refusal gives
abbrev pub answer_of : {T : Type 0} → ℤ → ℤ → Result T UnitRefusal → Result ℤ CallEnd
answer_of unit on_error (Ok done) = Ok (pos 0)
answer_of unit on_error (Err refusal) = refused_answer unit refusal on_error (pos 0)

-- a unit that is not connected is closed already
abbrev pub closed_answer : ℤ → ℤ → Result Closed UnitRefusal → Result ℤ CallEnd
closed_answer unit on_error (Ok done) = Ok (pos 0)
closed_answer unit on_error (Err NotConnected) = Ok (pos 0)
closed_answer unit on_error (Err refusal) = refused_answer unit refusal on_error (pos 0)

-- a statement that is called outside every transfer, with a pointer to its list
abbrev pub AnswersStatement : Builtin → List Object → CValue → List Row → List Row → Result ℤ CallEnd → Type 0
AnswersStatement builtin objects pointer old new result =
    AnswersOn (λ units. library builtin (world_with objects None units) (pointer ∷ [])) (λ units. world_with objects None units) old new result

-- a list names this unit
abbrev pub NamesUnit : Or Naming → ℤ → Type 0
NamesUnit (Ok list) unit = list.unit ≡ unit
NamesUnit (Err reason) unit = ⊥
