-- OPEN, once its list is read.
use Rattle.std.proofs.Common.{◌≡◌, ℕ, ℤ, pos, Bool, true, false, List, [], ◌∷◌, ◌++◌, None, refl, ap, sym, ◌∙◌, subst}
use Rattle.std.specs.Prelude.{Result, Ok, Err, IsOk, codes}
use Rattle.c_tree.specs.run_state.Units.{Units, open_unit}
use Rattle.run_state.specs.declared.refusals.UnitRefusal.{UnitRefusal}
use Rattle.run_state.specs.declared.refusals.UnitRefusal.TheVariants.{NotConnected, NotOffered, Taken, PastEnd, Failed}
use Rattle.c_tree.specs.declared.outcome.CValue.{CValue}
use Rattle.c_tree.specs.declared.outcome.CFault.{CFault}
use Rattle.c_tree.specs.declared.types.ListType.TheVariants as list_type
use Rattle.c_tree.specs.Faults.{Or, after, failing}
use Rattle.c_tree.specs.Objects.{Object}
use Rattle.c_tree.specs.World.{World, Reply}
use Rattle.c_tree.specs.LibraryArguments.{list_at, field_number, field_value}
use Rattle.c_tree.specs.LibraryUnits.{changed_units, name_given, zero_blanks_given, opens}
use Rattle.c_tree.specs.Builtins.{f_open}
use Rattle.c_tree.specs.Library.{library}
use Rattle.f2c_outside.specs.Table.{Row, Offers, Connects, IsOpened, OpenedUnit, is_connected, is_offered}
use Rattle.f2c_outside.specs.Meaning.{units_of, MeansOpening}
use Rattle.control_lists.specs.Files.{Opening, opening}
use Rattle.unit_answers.specs.declared.ends.CallEnd.{CallEnd}
use Rattle.unit_answers.specs.declared.ends.CallEnd.TheVariants.{Fault}
use Rattle.unit_answers.specs.Failing.{FailedOn, NoneFailed}
use Rattle.unit_answers.specs.Answers.{world_with, Replies, IfDevice, IfFault}
use Rattle.unit_answers.proofs.OrLemmas.{known, faulty, behind, same-rest}
use Rattle.unit_answers.proofs.FailureLaws.{none-failed, quiet-around}
use Rattle.unit_answers.proofs.AnswerLaws.{Agrees, refused-no-fault}
use Rattle.unit_answers.proofs.CallLaws.{refused-device}
use Rattle.unit_statements.specs.Statements.{answer_of, AnswersStatement}
use Rattle.unit_statements.proofs.StatementLaws.{changed-replies}

opened-by :
    (objects : List Object) (pointer : CValue) (units : Units) →
    opens (world_with objects None units) pointer
    ≡ after (opening objects pointer)
    (λ list. changed_units list.on_error (world_with objects None units) (open_unit list.unit list.file list.zero_blanks units))
unfolding opens
opened-by objects pointer units =
    sym (behind (list_at objects list_type.Open pointer) _ _
    ∙ same-rest (list_at objects list_type.Open pointer) _ _ (λ list. behind (field_number objects list (codes "oerr")) _ _
    ∙ same-rest (field_number objects list (codes "oerr")) _ _ (λ on_error. behind (field_number objects list (codes "ounit")) _ _
    ∙ same-rest (field_number objects list (codes "ounit")) _ _ (λ unit. behind (field_value objects list (codes "ofnm")) _ _
    ∙ same-rest (field_value objects list (codes "ofnm")) _ _ (λ name. behind (field_value objects list (codes "ofnmlen")) _ _
    ∙ same-rest (field_value objects list (codes "ofnmlen")) _ _ (λ size. behind (name_given objects unit name size) _ _
    ∙ same-rest (name_given objects unit name size) _ _ (λ file. behind (field_value objects list (codes "oblnk")) _ _
    ∙ same-rest (field_value objects list (codes "oblnk")) _ _ (λ blanks. behind (zero_blanks_given objects blanks) _ _))))))))

called : (world : World) (pointer : CValue) → library f_open world (pointer ∷ []) ≡ opens world pointer
unfolding library
called world pointer = refl

-- OPEN calls no device
not-failed : (unit : ℤ) (name : List ℕ) (zero_blanks : Bool) (b a : List Row) → OpenedUnit unit name zero_blanks b a (let r : Result (Unit {0}) UnitRefusal = Err Failed in r) → ⊥
not-failed unit name zero_blanks b a did = by (is_connected unit b) (is_offered name b) refl refl
  where
    wrong : (refusal : UnitRefusal) → (refusal ≡ Failed → ⊥) → (let r : Result (Unit {0}) UnitRefusal = Err Failed in r) ≡ Err refusal → ⊥
    wrong refusal other is = other cc

    by : (there offered : Bool) → is_connected unit b ≡ there → is_offered name b ≡ offered → ⊥
    by true offered is given = wrong Taken (λ same. cc) (did.taken.1 is)
    by false false is given = wrong NotOffered (λ same. cc) (did.not_offered.1 (is, given))
    by false true is given = let ok : IsOk (let r : Result (Unit {0}) UnitRefusal = Err Failed in r) = did.done.1 (is, given) in cc

agrees : (unit : ℤ) (name : List ℕ) (zero_blanks : Bool) (b a : List Row) (done : Result (Unit {0}) UnitRefusal) → OpenedUnit unit name zero_blanks b a done →
    MeansOpening done (open_unit unit name zero_blanks (units_of b)) b a → Agrees done (open_unit unit name zero_blanks (units_of b)) b a
agrees unit name zero_blanks b a (Ok value) did means = means.done
agrees unit name zero_blanks b a (Err Failed) did means = tt
agrees unit name zero_blanks b a (Err NotConnected) did means = (means.refused, did.kept)
agrees unit name zero_blanks b a (Err NotOffered) did means = (means.refused, did.kept)
agrees unit name zero_blanks b a (Err Taken) did means = (means.refused, did.kept)
agrees unit name zero_blanks b a (Err PastEnd) did means = (means.refused, did.kept)

opens-quietly : (unit : ℤ) (name : List ℕ) (zero_blanks : Bool) (b a : List Row) → IsOpened unit name zero_blanks b a → NoneFailed b a
opens-quietly unit name zero_blanks b a is =
    subst (λ (rows : List Row). NoneFailed rows a) (sym is.was)
    (subst (λ (rows : List Row). NoneFailed (is.front ++ Offers name is.device ∷ is.back) rows) (sym is.now)
    (quiet-around is.front is.back (Offers name is.device) (Connects unit is.device false zero_blanks) refl))

refused-failed :
    (unit : ℤ) (name : List ℕ) (zero_blanks : Bool) (b a : List Row) (refusal : UnitRefusal) → OpenedUnit unit name zero_blanks b a (let r : Result (Unit {0}) UnitRefusal = Err refusal in r) →
    refusal ≡ Failed → ⊥
refused-failed unit name zero_blanks b a refusal did is =
    not-failed unit name zero_blanks b a (subst (λ (given : UnitRefusal). OpenedUnit unit name zero_blanks b a (let r : Result (Unit {0}) UnitRefusal = Err given in r)) is did)

opened-devices :
    (unit on_error : ℤ) (name : List ℕ) (zero_blanks : Bool) (b a : List Row) (done : Result (Unit {0}) UnitRefusal) (P : ℤ → Type 0) (Q : Type 0) →
    OpenedUnit unit name zero_blanks b a done → (NoneFailed b a → Q) → IfDevice (answer_of unit on_error done) P Q
opened-devices unit on_error name zero_blanks b a (Ok value) P Q did holds = holds (opens-quietly unit name zero_blanks b a did.opened)
opened-devices unit on_error name zero_blanks b a (Err refusal) P Q did holds =
    refused-device unit refusal on_error (pos 0) P Q (λ failed. absurd (refused-failed unit name zero_blanks b a refusal did failed))
    (λ other. holds (subst (λ (rows : List Row). NoneFailed b rows) (sym did.kept) (none-failed b)))

opened-fault : (unit on_error : ℤ) (done : Result (Unit {0}) UnitRefusal) (P : Type 0) → IfFault (answer_of unit on_error done) P
opened-fault unit on_error (Ok value) P = tt
opened-fault unit on_error (Err refusal) P = refused-no-fault unit refusal on_error (pos 0) P

pub open-answers :
    (objects : List Object) (pointer : CValue) (list : Opening) (unit on_error : ℤ) (name : List ℕ) (zero_blanks : Bool) (b a : List Row) (done : Result (Unit {0}) UnitRefusal) →
    Ok list ≡ opening objects pointer → list ≡ record { on_error = on_error; unit = unit; file = name; zero_blanks = zero_blanks } →
    OpenedUnit unit name zero_blanks b a done → MeansOpening done (open_unit unit name zero_blanks (units_of b)) b a →
    AnswersStatement f_open objects pointer b a (answer_of unit on_error done)
open-answers objects pointer list unit on_error name zero_blanks b a done is same did means = record {
  tells = means.tells;
  replies = λ tells.
      subst (λ (meaning : Or Reply). Replies meaning (world_with objects None (units_of a)) (answer_of unit on_error done)) (sym (by-list (units_of b)))
      (changed-replies unit on_error objects done (open_unit unit name zero_blanks (units_of b)) b a (agrees unit name zero_blanks b a done did means));
  devices = opened-devices unit on_error name zero_blanks b a done (λ failed. FailedOn failed b a) (NoneFailed b a) did (λ none. none);
  kept = opened-fault unit on_error done (a ≡ b);
}
  where
    by-list : (units : Units) → library f_open (world_with objects None units) (pointer ∷ [])
        ≡ changed_units on_error (world_with objects None units) (open_unit unit name zero_blanks units)
    by-list units =
        called (world_with objects None units) pointer ∙ opened-by objects pointer units ∙ known (opening objects pointer) list _ is
        ∙ ap (λ (given : Opening). changed_units given.on_error (world_with objects None units) (open_unit given.unit given.file given.zero_blanks units)) same

pub open-faulty :
    (objects : List Object) (pointer : CValue) (fault : CFault) (b : List Row) → failing fault ≡ opening objects pointer →
    AnswersStatement f_open objects pointer b b (Err (Fault fault))
open-faulty objects pointer fault b is = record {
  tells = λ tells. tells;
  replies = λ tells. called (world_with objects None (units_of b)) pointer ∙ opened-by objects pointer (units_of b) ∙ faulty (opening objects pointer) fault _ is;
  devices = none-failed b;
  kept = refl;
}

pub open-calls-none :
    (unit on_error : ℤ) (name : List ℕ) (zero_blanks : Bool) (b a : List Row) (done : Result (Unit {0}) UnitRefusal) → OpenedUnit unit name zero_blanks b a done →
    IfDevice (answer_of unit on_error done) (λ failed. ⊥) (Unit {0})
open-calls-none unit on_error name zero_blanks b a done did = opened-devices unit on_error name zero_blanks b a done (λ failed. ⊥) (Unit {0}) did (λ none. tt)

same-opening : (list : Opening) (unit on_error : ℤ) (name : List ℕ) (zero_blanks : Bool) → unit ≡ list.unit → on_error ≡ list.on_error → name ≡ list.file → zero_blanks ≡ list.zero_blanks →
    list ≡ record { on_error = on_error; unit = unit; file = name; zero_blanks = zero_blanks }
same-opening list unit on_error name zero_blanks same_unit same_error same_name same_blanks =
    sym (ap (λ (number : ℤ). record { on_error = on_error; unit = number; file = name; zero_blanks = zero_blanks }) same_unit
    ∙ ap (λ (number : ℤ). record { on_error = number; unit = list.unit; file = name; zero_blanks = zero_blanks }) same_error
    ∙ ap (λ (file : List ℕ). record { on_error = list.on_error; unit = list.unit; file = file; zero_blanks = zero_blanks }) same_name
    ∙ ap (λ (zeros : Bool). record { on_error = list.on_error; unit = list.unit; file = list.file; zero_blanks = zeros }) same_blanks)

-- the same of the answer of the code
pub open-answered :
    (objects : List Object) (pointer : CValue) (list : Opening) (unit on_error : ℤ) (name : List ℕ) (zero_blanks : Bool) (b a : List Row) (done : Result (Unit {0}) UnitRefusal)
    (result : Result ℤ CallEnd) → result ≡ answer_of unit on_error done → Ok list ≡ opening objects pointer →
    unit ≡ list.unit → on_error ≡ list.on_error → name ≡ list.file → zero_blanks ≡ list.zero_blanks →
    OpenedUnit unit name zero_blanks b a done → MeansOpening done (open_unit unit name zero_blanks (units_of b)) b a → AnswersStatement f_open objects pointer b a result
open-answered objects pointer list unit on_error name zero_blanks b a done result given is same_unit same_error same_name same_blanks did means =
    subst (λ (answer : Result ℤ CallEnd). AnswersStatement f_open objects pointer b a answer) (sym given)
    (open-answers objects pointer list unit on_error name zero_blanks b a done is (same-opening list unit on_error name zero_blanks same_unit same_error same_name same_blanks) did means)

pub open-called-none :
    (unit on_error : ℤ) (name : List ℕ) (zero_blanks : Bool) (b a : List Row) (done : Result (Unit {0}) UnitRefusal) (result : Result ℤ CallEnd) →
    result ≡ answer_of unit on_error done → OpenedUnit unit name zero_blanks b a done → IfDevice result (λ failed. ⊥) (Unit {0})
open-called-none unit on_error name zero_blanks b a done result given did =
    subst (λ (answer : Result ℤ CallEnd). IfDevice answer (λ failed. ⊥) (Unit {0})) (sym given) (open-calls-none unit on_error name zero_blanks b a done did)
