-- A statement on a unit, once its list is read.
use Rattle.std.proofs.Common.{◌≡◌, ℤ, pos, Bool, List, [], ◌∷◌, Some, None, refl, ap, sym, ◌∙◌, subst}
use Rattle.std.specs.Prelude.{Result, Ok, Err, codes}
use Rattle.c_tree.specs.run_state.Units.{Units, back_unit, rewind_unit, end_unit}
use Rattle.run_state.specs.declared.refusals.UnitRefusal.{UnitRefusal}
use Rattle.run_state.specs.declared.refusals.UnitRefusal.TheVariants.{NotConnected, NotOffered, Taken, PastEnd, Failed}
use Rattle.c_tree.specs.declared.outcome.CValue.{CValue}
use Rattle.c_tree.specs.declared.outcome.CFault.{CFault}
use Rattle.c_tree.specs.declared.outcome.CFault.TheVariants.{Library}
use Rattle.c_tree.specs.declared.types.ListType.TheVariants as list_type
use Rattle.c_tree.specs.Faults.{Or, after, failing}
use Rattle.c_tree.specs.Objects.{Object}
use Rattle.c_tree.specs.World.{World, Transfer, Reply}
use Rattle.c_tree.specs.LibraryArguments.{list_at, field_number}
use Rattle.c_tree.specs.LibraryUnits.{changed_units, positions, opens, closes}
use Rattle.c_tree.specs.Builtins.{Builtin, f_open, f_clos, f_back, f_rew, f_end}
use Rattle.c_tree.specs.Library.{library}
use Rattle.f2c_outside.specs.Table.{Row, OnUnit}
use Rattle.f2c_outside.specs.Device.{DeviceState}
use Rattle.f2c_outside.specs.Meaning.{Tells, units_of, Means}
use Rattle.control_lists.specs.Files.{Naming, positioning}
use Rattle.unit_answers.specs.declared.ends.CallEnd.{CallEnd}
use Rattle.unit_answers.specs.declared.ends.CallEnd.TheVariants.{Fault}
use Rattle.unit_answers.specs.Failing.{FailedOn, NoneFailed}
use Rattle.unit_answers.specs.Answers.{world_with, refused_answer, Replies, IfDevice, IfFault}
use Rattle.unit_answers.proofs.OrLemmas.{known, faulty, behind, same-rest}
use Rattle.unit_answers.proofs.FailureLaws.{none-failed}
use Rattle.unit_answers.proofs.AnswerLaws.{Agrees, refused-replies, refused-no-fault}
use Rattle.unit_answers.proofs.CallLaws.{Fair, fair-agrees, fair-failed, fair-quiet, refused-device}
use Rattle.unit_statements.specs.Statements.{answer_of, AnswersStatement, NamesUnit}

refused-so :
    (unit on_error : ℤ) (objects : List Object) (refusal : UnitRefusal) (meaning : Result Units UnitRefusal) (b a : List Row) → meaning ≡ Err refusal → a ≡ b →
    Replies (changed_units on_error (world_with objects None (units_of b)) meaning) (world_with objects None (units_of a)) (refused_answer unit refusal on_error (pos 0))
refused-so unit on_error objects refusal meaning b a is same =
    subst
    (λ (given : Result Units UnitRefusal). Replies (changed_units on_error (world_with objects None (units_of b)) given) (world_with objects None (units_of a)) (refused_answer unit refusal on_error (pos 0)))
    (sym is)
    (subst
    (λ (rows : List Row). Replies (changed_units on_error (world_with objects None (units_of b)) (Err refusal)) (world_with objects None (units_of rows)) (refused_answer unit refusal on_error (pos 0)))
    (sym same) (refused-replies unit refusal on_error (pos 0) (world_with objects None (units_of b))))

-- a statement that did what it means replies so
pub changed-replies :
    {T : Type 0} (unit on_error : ℤ) (objects : List Object) (done : Result T UnitRefusal) (meaning : Result Units UnitRefusal) (b a : List Row) →
    Agrees done meaning b a →
    Replies (changed_units on_error (world_with objects None (units_of b)) meaning) (world_with objects None (units_of a)) (answer_of unit on_error done)
changed-replies unit on_error objects (Ok done) meaning b a agrees = ap (changed_units on_error (world_with objects None (units_of b))) agrees
changed-replies unit on_error objects (Err Failed) meaning b a agrees = tt
changed-replies unit on_error objects (Err NotConnected) meaning b a agrees = refused-so unit on_error objects NotConnected meaning b a agrees.0 agrees.1
changed-replies unit on_error objects (Err NotOffered) meaning b a agrees = refused-so unit on_error objects NotOffered meaning b a agrees.0 agrees.1
changed-replies unit on_error objects (Err Taken) meaning b a agrees = refused-so unit on_error objects Taken meaning b a agrees.0 agrees.1
changed-replies unit on_error objects (Err PastEnd) meaning b a agrees = refused-so unit on_error objects PastEnd meaning b a agrees.0 agrees.1

-- a statement that names its unit alone, once its list is read
positioned :
    (statement : ℤ → Units → Result Units UnitRefusal) (objects : List Object) (pointer : CValue) (units : Units) →
    positions statement (world_with objects None units) pointer
    ≡ after (positioning objects pointer) (λ list. changed_units list.on_error (world_with objects None units) (statement list.unit units))
unfolding positions
positioned statement objects pointer units =
    sym (behind (list_at objects list_type.Position pointer) _ _
    ∙ same-rest (list_at objects list_type.Position pointer) _ _ (λ list. behind (field_number objects list (codes "aerr")) _ _
    ∙ same-rest (field_number objects list (codes "aerr")) _ _ (λ on_error. behind (field_number objects list (codes "aunit")) _ _)))

-- what its call is
pub record Positions (builtin : Builtin) (statement : ℤ → Units → Result Units UnitRefusal) : Type 0 where
  pub called : (world : World) → (pointer : CValue) → library builtin world (pointer ∷ []) ≡ positions statement world pointer

pub back-positions : Positions f_back back_unit
unfolding library
back-positions = record { called = λ world pointer. refl }

pub rewind-positions : Positions f_rew rewind_unit
unfolding library
rewind-positions = record { called = λ world pointer. refl }

pub end-positions : Positions f_end end_unit
unfolding library
end-positions = record { called = λ world pointer. refl }

-- what a fair statement on the unit of its list answers
pub position-answers :
    {T : Type 0} (builtin : Builtin) (statement : ℤ → Units → Result Units UnitRefusal) (objects : List Object) (pointer : CValue) (list : Naming) (unit on_error : ℤ)
    (b a : List Row) (done : Result T UnitRefusal) (R : DeviceState → Bool → DeviceState → Bool → Type 0) →
    Positions builtin statement → Ok list ≡ positioning objects pointer → unit ≡ list.unit → on_error ≡ list.on_error → Fair done R → OnUnit unit b a done R →
    (Tells b → Means done (statement unit (units_of b)) a) → AnswersStatement builtin objects pointer b a (answer_of unit on_error done)
position-answers {T = T} builtin statement objects pointer list unit on_error b a done R positions is same_unit same_error fair on means = record {
  tells = λ tells. (means tells).tells;
  replies = λ tells.
      subst (λ (meaning : Or Reply). Replies meaning (world_with objects None (units_of a)) (answer_of unit on_error done)) (sym (by-list (units_of b)))
      (changed-replies unit on_error objects done (statement unit (units_of b)) b a (fair-agrees unit b a done R (statement unit (units_of b)) fair on (means tells)));
  devices = by-device done fair on;
  kept = by-fault done;
}
  where
    by-list : (units : Units) → library builtin (world_with objects None units) (pointer ∷ []) ≡ changed_units on_error (world_with objects None units) (statement unit units)
    by-list units =
        positions.called (world_with objects None units) pointer ∙ positioned statement objects pointer units
        ∙ known (positioning objects pointer) list _ is
        ∙ ap (λ (number : ℤ). changed_units number (world_with objects None units) (statement list.unit units)) (sym same_error)
        ∙ ap (λ (number : ℤ). changed_units on_error (world_with objects None units) (statement number units)) (sym same_unit)

    by-device : (given : Result T UnitRefusal) → Fair given R → OnUnit unit b a given R → IfDevice (answer_of unit on_error given) (λ failed. FailedOn failed b a) (NoneFailed b a)
    by-device (Ok value) fair on = fair-quiet unit b a (Ok value) R fair on (λ wrong. cc)
    by-device (Err refusal) fair on =
        refused-device unit refusal on_error (pos 0) (λ failed. FailedOn failed b a) (NoneFailed b a)
        (λ failed. fair-failed unit b a (Err refusal) R fair on (ap Err failed))
        (λ other. fair-quiet unit b a (Err refusal) R fair on (λ wrong. other cc))

    by-fault : (given : Result T UnitRefusal) → IfFault (answer_of unit on_error given) (a ≡ b)
    by-fault (Ok value) = tt
    by-fault (Err refusal) = refused-no-fault unit refusal on_error (pos 0) (a ≡ b)

-- a fault of the list
pub position-faulty :
    (builtin : Builtin) (statement : ℤ → Units → Result Units UnitRefusal) (objects : List Object) (pointer : CValue) (fault : CFault) (b : List Row) →
    Positions builtin statement → failing fault ≡ positioning objects pointer → AnswersStatement builtin objects pointer b b (Err (Fault fault))
position-faulty builtin statement objects pointer fault b positions is = record {
  tells = λ tells. tells;
  replies = λ tells.
      positions.called (world_with objects None (units_of b)) pointer ∙ positioned statement objects pointer (units_of b)
      ∙ faulty (positioning objects pointer) fault _ is;
  devices = none-failed b;
  kept = refl;
}

-- the unit of an answer where a device failed is that of the list
pub names-unit :
    {T : Type 0} (found : Or Naming) (list : Naming) (unit on_error : ℤ) (done : Result T UnitRefusal) → Ok list ≡ found → unit ≡ list.unit →
    IfDevice (answer_of unit on_error done) (λ failed. NamesUnit found failed) (Unit {0})
names-unit found list unit on_error (Ok value) is same = tt
names-unit found list unit on_error (Err refusal) is same =
    refused-device unit refusal on_error (pos 0) (λ failed. NamesUnit found failed) (Unit {0})
    (λ failed. subst (λ (given : Or Naming). NamesUnit given unit) is (sym same)) (λ other. tt)

-- the same of the answer of the code
pub position-answered :
    {T : Type 0} (builtin : Builtin) (statement : ℤ → Units → Result Units UnitRefusal) (objects : List Object) (pointer : CValue) (list : Naming) (unit on_error : ℤ)
    (b a : List Row) (done : Result T UnitRefusal) (R : DeviceState → Bool → DeviceState → Bool → Type 0) (result : Result ℤ CallEnd) →
    result ≡ answer_of unit on_error done → Positions builtin statement → Ok list ≡ positioning objects pointer → unit ≡ list.unit → on_error ≡ list.on_error →
    Fair done R → OnUnit unit b a done R → (Tells b → Means done (statement unit (units_of b)) a) → AnswersStatement builtin objects pointer b a result
position-answered builtin statement objects pointer list unit on_error b a done R result given positions is same_unit same_error fair on means =
    subst (λ (answer : Result ℤ CallEnd). AnswersStatement builtin objects pointer b a answer) (sym given)
    (position-answers builtin statement objects pointer list unit on_error b a done R positions is same_unit same_error fair on means)

-- in a transfer each is the fault `Library`
pub inside-a-transfer : (objects : List Object) (units : Units) (transfer : Transfer) (pointer : CValue) →
    (library f_open (world_with objects (Some transfer) units) (pointer ∷ []) ≡ failing Library)
    × (library f_clos (world_with objects (Some transfer) units) (pointer ∷ []) ≡ failing Library)
    × (library f_back (world_with objects (Some transfer) units) (pointer ∷ []) ≡ failing Library)
    × (library f_rew (world_with objects (Some transfer) units) (pointer ∷ []) ≡ failing Library)
    × (library f_end (world_with objects (Some transfer) units) (pointer ∷ []) ≡ failing Library)
unfolding library opens closes positions
inside-a-transfer objects units transfer pointer = (refl, refl, refl, refl, refl)
