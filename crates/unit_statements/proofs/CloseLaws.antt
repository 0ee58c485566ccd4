-- CLOSE, once its list is read.
use Rattle.std.proofs.Common.{◌≡◌, ℕ, ℤ, pos, List, [], ◌∷◌, ◌++◌, None, refl, ap, sym, ◌∙◌, subst}
use Rattle.std.specs.Prelude.{Result, Ok, Err, codes}
use Rattle.c_tree.specs.run_state.Units.{Units, Closing, close_unit}
use Rattle.run_state.specs.declared.refusals.UnitRefusal.{UnitRefusal}
use Rattle.run_state.specs.declared.refusals.UnitRefusal.TheVariants.{NotConnected, NotOffered, Taken, PastEnd, Failed}
use Rattle.c_tree.specs.declared.outcome.CValue.{CValue}
use Rattle.c_tree.specs.declared.outcome.CFault.{CFault}
use Rattle.c_tree.specs.declared.types.ListType.TheVariants as list_type
use Rattle.c_tree.specs.Faults.{Or, after, failing}
use Rattle.c_tree.specs.Objects.{Object}
use Rattle.c_tree.specs.World.{World, Reply, Gives}
use Rattle.c_tree.specs.LibraryArguments.{list_at, field_number}
use Rattle.c_tree.specs.LibraryUnits.{changed_units, closed, closes}
use Rattle.c_tree.specs.Builtins.{f_clos}
use Rattle.c_tree.specs.Library.{library}
use Rattle.f2c_outside.specs.Table.{Row, Connects, AtUnit, IsClosed, ClosedUnit, FinishedOn, counted}
use Rattle.f2c_outside.specs.Table as table
use Rattle.f2c_outside.specs.Meaning.{Tells, units_of, MeansClosing}
use Rattle.f2c_outside.specs.declared.unit_table.Closed.{Closed}
use Rattle.control_lists.specs.Files.{Naming, closing}
use Rattle.unit_answers.specs.declared.ends.CallEnd.{CallEnd}
use Rattle.unit_answers.specs.declared.ends.CallEnd.TheVariants.{Fault}
use Rattle.unit_answers.specs.Failing.{FailedOn, NoneFailed}
use Rattle.unit_answers.specs.Answers.{world_with, Replies, IfDevice, IfFault}
use Rattle.unit_answers.proofs.OrLemmas.{known, faulty, behind, same-rest}
use Rattle.unit_answers.proofs.FailureLaws.{none-failed, quiet-around, failed-at}
use Rattle.unit_statements.specs.Statements.{closed_answer, AnswersStatement, NamesUnit}

closed-by :
    (objects : List Object) (pointer : CValue) (units : Units) →
    closes (world_with objects None units) pointer
    ≡ after (closing objects pointer)
    (λ list. changed_units list.on_error (world_with objects None units) (closed (world_with objects None units) (close_unit list.unit units)))
unfolding closes
closed-by objects pointer units =
    sym (behind (list_at objects list_type.Close pointer) _ _
    ∙ same-rest (list_at objects list_type.Close pointer) _ _ (λ list. behind (field_number objects list (codes "cerr")) _ _
    ∙ same-rest (field_number objects list (codes "cerr")) _ _ (λ on_error. behind (field_number objects list (codes "cunit")) _ _)))

called : (world : World) (pointer : CValue) → library f_clos world (pointer ∷ []) ≡ closes world pointer
unfolding library
called world pointer = refl

closed-replies :
    (unit on_error : ℤ) (objects : List Object) (done : Result Closed UnitRefusal) (b a : List Row) → ClosedUnit unit b a done →
    MeansClosing done (close_unit unit (units_of b)) a →
    Replies
    (changed_units on_error (world_with objects None (units_of b)) (closed (world_with objects None (units_of b)) (close_unit unit (units_of b))))
    (world_with objects None (units_of a)) (closed_answer unit on_error done)
closed-replies unit on_error objects (Ok value) b a did means =
    ap (λ (closing : Result Closing UnitRefusal). changed_units on_error (world_with objects None (units_of b)) (closed (world_with objects None (units_of b)) closing)) means.done
closed-replies unit on_error objects (Err NotConnected) b a did means =
    ap (λ (closing : Result Closing UnitRefusal). changed_units on_error (world_with objects None (units_of b)) (closed (world_with objects None (units_of b)) closing)) (means.missing refl)
    ∙ ap (λ (rows : List Row). Ok (Gives (pos 0) (world_with objects None (units_of rows)))) (sym (did.missing refl))
closed-replies unit on_error objects (Err Failed) b a did means = tt
closed-replies unit on_error objects (Err NotOffered) b a did means = absurd did.other
closed-replies unit on_error objects (Err Taken) b a did means = absurd did.other
closed-replies unit on_error objects (Err PastEnd) b a did means = absurd did.other

closes-quietly : (unit : ℤ) (b a : List Row) (records : ℕ) → IsClosed unit b a records → NoneFailed b a
closes-quietly unit b a records is =
    subst (λ (rows : List Row). NoneFailed rows a) (sym is.was)
    (subst (λ (rows : List Row). NoneFailed (is.front ++ Connects unit is.device is.end_mark is.zero_blanks ∷ is.back) rows) (sym is.now)
    (quiet-around is.front is.back (Connects unit is.device is.end_mark is.zero_blanks) table.Closed tt))

fails-closing : (unit : ℤ) (b a : List Row) → ClosedUnit unit b a (Err Failed) → FailedOn unit b a
fails-closing unit b a did =
    let at : AtUnit unit b a (λ d m d' m'. FinishedOn d m d' m' (counted (Err Failed))) = did.failed refl in
    failed-at unit b a (λ d m d' m'. FinishedOn d m d' m' (counted (Err Failed))) at (at.did.called.cause.failed refl) at.did.mark

closed-devices :
    (unit on_error : ℤ) (done : Result Closed UnitRefusal) (b a : List Row) → ClosedUnit unit b a done →
    IfDevice (closed_answer unit on_error done) (λ failed. FailedOn failed b a) (NoneFailed b a)
closed-devices unit on_error (Ok value) b a did = closes-quietly unit b a value.records did.closed
closed-devices unit on_error (Err NotConnected) b a did = subst (λ (rows : List Row). NoneFailed b rows) (sym (did.missing refl)) (none-failed b)
closed-devices unit on_error (Err Failed) b a did = fails-closing unit b a did
closed-devices unit on_error (Err NotOffered) b a did = absurd did.other
closed-devices unit on_error (Err Taken) b a did = absurd did.other
closed-devices unit on_error (Err PastEnd) b a did = absurd did.other

closed-fault : (unit on_error : ℤ) (done : Result Closed UnitRefusal) (b a : List Row) → ClosedUnit unit b a done → IfFault (closed_answer unit on_error done) (a ≡ b)
closed-fault unit on_error (Ok value) b a did = tt
closed-fault unit on_error (Err NotConnected) b a did = tt
closed-fault unit on_error (Err Failed) b a did = tt
closed-fault unit on_error (Err NotOffered) b a did = absurd did.other
closed-fault unit on_error (Err Taken) b a did = absurd did.other
closed-fault unit on_error (Err PastEnd) b a did = absurd did.other

pub close-answers :
    (objects : List Object) (pointer : CValue) (list : Naming) (unit on_error : ℤ) (b a : List Row) (done : Result Closed UnitRefusal) →
    Ok list ≡ closing objects pointer → unit ≡ list.unit → on_error ≡ list.on_error → ClosedUnit unit b a done →
    (Tells b → MeansClosing done (close_unit unit (units_of b)) a) → AnswersStatement f_clos objects pointer b a (closed_answer unit on_error done)
close-answers objects pointer list unit on_error b a done is same_unit same_error did means = record {
  tells = λ tells. (means tells).tells;
  replies = λ tells.
      subst (λ (meaning : Or Reply). Replies meaning (world_with objects None (units_of a)) (closed_answer unit on_error done)) (sym (by-list (units_of b)))
      (closed-replies unit on_error objects done b a did (means tells));
  devices = closed-devices unit on_error done b a did;
  kept = closed-fault unit on_error done b a did;
}
  where
    by-list : (units : Units) → library f_clos (world_with objects None units) (pointer ∷ [])
        ≡ changed_units on_error (world_with objects None units) (closed (world_with objects None units) (close_unit unit units))
    by-list units =
        called (world_with objects None units) pointer ∙ closed-by objects pointer units ∙ known (closing objects pointer) list _ is
        ∙ ap (λ (number : ℤ). changed_units number (world_with objects None units) (closed (world_with objects None units) (close_unit list.unit units))) (sym same_error)
        ∙ ap (λ (number : ℤ). changed_units on_error (world_with objects None units) (closed (world_with objects None units) (close_unit number units))) (sym same_unit)

pub close-faulty :
    (objects : List Object) (pointer : CValue) (fault : CFault) (b : List Row) → failing fault ≡ closing objects pointer →
    AnswersStatement f_clos objects pointer b b (Err (Fault fault))
close-faulty objects pointer fault b is = record {
  tells = λ tells. tells;
  replies = λ tells. called (world_with objects None (units_of b)) pointer ∙ closed-by objects pointer (units_of b) ∙ faulty (closing objects pointer) fault _ is;
  devices = none-failed b;
  kept = refl;
}

pub close-names :
    (found : Or Naming) (list : Naming) (unit on_error : ℤ) (done : Result Closed UnitRefusal) (b a : List Row) → ClosedUnit unit b a done → Ok list ≡ found → unit ≡ list.unit →
    IfDevice (closed_answer unit on_error done) (λ failed. NamesUnit found failed) (Unit {0})
close-names found list unit on_error (Ok value) b a did is same = tt
close-names found list unit on_error (Err NotConnected) b a did is same = tt
close-names found list unit on_error (Err Failed) b a did is same = subst (λ (given : Or Naming). NamesUnit given unit) is (sym same)
close-names found list unit on_error (Err NotOffered) b a did is same = absurd did.other
close-names found list unit on_error (Err Taken) b a did is same = absurd did.other
close-names found list unit on_error (Err PastEnd) b a did is same = absurd did.other

-- the same of the answer of the code
pub close-answered :
    (objects : List Object) (pointer : CValue) (list : Naming) (unit on_error : ℤ) (b a : List Row) (done : Result Closed UnitRefusal) (result : Result ℤ CallEnd) →
    result ≡ closed_answer unit on_error done → Ok list ≡ closing objects pointer → unit ≡ list.unit → on_error ≡ list.on_error → ClosedUnit unit b a done →
    (Tells b → MeansClosing done (close_unit unit (units_of b)) a) → AnswersStatement f_clos objects pointer b a result
close-answered objects pointer list unit on_error b a done result given is same_unit same_error did means =
    subst (λ (answer : Result ℤ CallEnd). AnswersStatement f_clos objects pointer b a answer) (sym given)
    (close-answers objects pointer list unit on_error b a done is same_unit same_error did means)

pub close-named :
    (found : Or Naming) (list : Naming) (unit on_error : ℤ) (done : Result Closed UnitRefusal) (b a : List Row) (result : Result ℤ CallEnd) →
    result ≡ closed_answer unit on_error done → ClosedUnit unit b a done → Ok list ≡ found → unit ≡ list.unit →
    IfDevice result (λ failed. NamesUnit found failed) (Unit {0})
close-named found list unit on_error done b a result given did is same =
    subst (λ (answer : Result ℤ CallEnd). IfDevice answer (λ failed. NamesUnit found failed) (Unit {0})) (sym given)
    (close-names found list unit on_error done b a did is same)
