-- What a run of well-formed units holds to at each of its steps, and what each of its parts comes to: a step, the
-- beginning of a procedure and an answer to a call. Of none of them is there no meaning.
-- ANSI X3.9-1978, sections 11.10 (active loops), 12.9 (transfers) and 15 (procedures).
use Rattle.std.specs.Prelude.{◌≡◌, ℕ, suc, ◌<◌, ◌≤◌, ℤ, List, [], ◌∷◌, length, Option, Some, None, slice_get, IsTrue}
use Rattle.simulation.specs.Machine.{Goes, Ends, Calls, Answers, Breaks, Entry, Enters, Refused, Frame as Active, Has, Runs, Over, Broken}
use Rattle.edit_meaning.specs.ListInput.{Place, Inside}
use Rattle.run_state.specs.Units.{Units}
use Rattle.run_state.specs.Endings as ending
use Rattle.f_tree.specs.declared.names.Basic.{Basic}
use Rattle.f_tree.specs.declared.names.Basic.TheVariants.{Integer, Logical, Character}
use Rattle.f_tree.specs.declared.names.Options.{Options}
use Rattle.f_tree.specs.declared.units.File.{File}
use Rattle.f_tree.specs.Values.{Spot, Datum, IsSpot, IsLabel, Nothing, Act, NoMeaning}
use Rattle.f_tree.specs.Terms.{Wanted, AsSubroutine, AsFunction, NoMore}
use Rattle.f_tree.specs.Facts.{UnitKind, MainProgram, SubroutineUnit, FunctionUnit, Direction, Head, ToEnd, Form, On, Line, ProgramUnit, Facts, Frame}
use Rattle.f_tree.specs.World.{Medium, External, Internal, Transfer, World, View, Counted, While, RoundKind, Round, Now, Doing, Turning, Waits, Returning, Called, Passed, Ending, fortran_sorts, Happening}
use Rattle.f_tree.specs.Association.{start, resume}
use Rattle.f_tree.specs.Step.{step, deed}
use Rattle.f_tree.specs.Setting.{Setting, IsSetting, IsIn}
use Rattle.f_tree.specs.Meaning.{RunState, units_of, ftn, act_of, answers_to}
use Rattle.f_tree.specs.WellTyped.{Sort, ValueOf, PlaceOf, IsOf, AreOf, is_named, IsAnswer, IsValued, Sound}
use Rattle.f_tree.specs.WellFormed.{HasStatement, takes_step, MayStand, Takes, IsFormed, IsWellFormed, AreWellFormed}

-- a statement with a place behind it, and END
pub data HasRoom (u : ProgramUnit) (at : ℕ) : Form → Type 0 where
  at_end : HasRoom u at (On ToEnd NoMore)
  before_end : (form : Form) → suc at < length u.lines → HasRoom u at form

-- what an active loop goes on by: a variable, or the test at its statement
pub data GoesBy (u : ProgramUnit) (count : ℕ) (first : ℕ) : RoundKind → Type 0 where
  by_count : (variable : Spot) (left : ℕ) (by given : ℤ) → IsOf count (PlaceOf Integer) (IsSpot variable) → GoesBy u count first (Counted variable left by given)
  by_test : (line : Line) → slice_get u.lines first ≡ Some line → IsTrue (takes_step line.form) → GoesBy u count first While

-- active loops: their statements, and what they go on by
pub record IsRound (u : ProgramUnit) (count : ℕ) (round : Round) : Type 0 where
  pub first_room : suc round.first < length u.lines
  pub last_room : suc round.last < length u.lines
  pub goes_by : GoesBy u count round.first round.kind

pub data AreRounds (u : ProgramUnit) (count : ℕ) : List Round → Type 0 where
  no_rounds : AreRounds u count []
  more_rounds : (round : Round) (rounds : List Round) → IsRound u count round → AreRounds u count rounds → AreRounds u count (round ∷ rounds)

-- as what a procedure was called, by its unit and its result
pub data Serves (kind : UnitKind) (f : Frame) (count : ℕ) : Wanted → Type 0 where
  as_main : kind ≡ MainProgram → Serves kind f count AsSubroutine
  as_subroutine : kind ≡ SubroutineUnit → Serves kind f count AsSubroutine
  as_function : (basic : Basic) (width : ℕ) (p : Spot) → kind ≡ FunctionUnit → IsValued basic → f.result ≡ Some p → IsOf count (PlaceOf basic) (IsSpot p) →
      Serves kind f count (AsFunction basic width)

-- an active procedure, called as is wanted, with so many sequences in storage now and `least` before the run
pub record IsHolding (c : Facts) (least : ℕ) (want : Wanted) (count : ℕ) (v : View) : Type 0 where
  pub sound : Sound c v.frame count
  pub rounds : AreRounds c.program count v.loops
  pub serves : Serves c.program.kind v.frame count want
  pub low : least ≤ v.frame.base
  pub high : v.frame.base ≤ count

-- what it does next
pub data IsNext (c : Facts) (count : ℕ) (v : View) : Option Direction → Now → Type 0 where
  doing : (stage : Option Direction) (form : Form) → IsFormed c count v.at stage form → HasRoom c.program v.at form → IsNext c count v stage (Doing form)
  turning : (first last : ℕ) (variable : Spot) (left : ℕ) (by given : ℤ) (rounds : List Round) →
      v.loops ≡ record { first = first; last = last; kind = Counted variable left by given } ∷ rounds → IsNext c count v None Turning

pub record IsActive (c : Facts) (least : ℕ) (want : Wanted) (count : ℕ) (stage : Option Direction) (v : View) : Type 0 where
  pub holding : IsHolding c least want count v
  pub next : IsNext c count v stage v.now

-- a transfer that has begun
pub data IsMedium (count : ℕ) : Medium → Type 0 where
  on_unit : (unit : ℤ) → IsMedium count (External unit)
  in_file : (p : Spot) → IsOf count (PlaceOf Character) (IsSpot p) → IsMedium count (Internal p)

pub data IsStatus (count : ℕ) : Option Spot → Type 0 where
  no_status : IsStatus count None
  a_status : (p : Spot) → IsOf count (PlaceOf Integer) (IsSpot p) → IsStatus count (Some p)

-- a list-directed input between two of its items does not stand inside a text
unfoldable pub IsOutside : Place → Type 0
IsOutside (Inside more constant rest) = ⊥
IsOutside _ = Unit {0}

pub record IsTransfer (u : ProgramUnit) (count : ℕ) (way : Direction) (t : Transfer) : Type 0 where
  pub direction_is : t.direction ≡ way
  pub medium : IsMedium count t.medium
  pub status : IsStatus count t.status
  pub on_error : MayStand u t.controls.on_error
  pub on_end : MayStand u t.controls.on_end
  pub outside : IsOutside t.place

pub data IsStaged (u : ProgramUnit) (count : ℕ) : Option Direction → Option Transfer → Type 0 where
  not_in_one : (transfer : Option Transfer) → IsStaged u count None transfer
  in_one : (way : Direction) (t : Transfer) → IsTransfer u count way t → IsStaged u count (Some way) (Some t)

-- the transfer of the procedures below: the one that is in progress, unless it is the procedure's own
unfoldable pub of_others : Option Direction → Option Transfer → Option Transfer
of_others None transfer = transfer
of_others (Some way) transfer = None

-- a procedure that waits for the answer to a call, which passes these actual arguments
pub data IsWaiting (c : Facts) (count : ℕ) (actuals : List Datum) (v : View) : Option Direction → Wanted → Now → Type 0 where
  for_value : (stage : Option Direction) (want : Wanted) (rest : Datum → Form) →
      ((d : Datum) → IsAnswer count want d → IsNext c count v stage (Doing (rest d))) → IsWaiting c count actuals v stage want (Waits count rest)
  for_return : suc v.at < length c.program.lines → ((label : ℕ) → IsIn (IsLabel label) actuals → HasStatement c.program label) →
      IsWaiting c count actuals v None AsSubroutine (Returning count)

-- what a call passes: operands of some sorts, and a place for the result of a character function alone
pub data HasPlace (count : ℕ) : Wanted → Option Spot → Type 0 where
  for_subroutine : HasPlace count AsSubroutine None
  for_integer : (width : ℕ) → HasPlace count (AsFunction Integer width) None
  for_logical : (width : ℕ) → HasPlace count (AsFunction Logical width) None
  for_text : (width : ℕ) (p : Spot) → IsOf count (PlaceOf Character) (IsSpot p) → HasPlace count (AsFunction Character width) (Some p)
  for_none : (basic : Basic) (width : ℕ) (result : Option Spot) → (IsValued basic → ⊥) → HasPlace count (AsFunction basic width) result

pub record IsPassed (count : ℕ) (passed : Passed) : Type 0 where
  pub sorts : List Sort
  pub operands : AreOf count sorts passed.actuals
  pub place : HasPlace count passed.want passed.result

-- what a procedure answers: a function its value, a subroutine nothing, or the label of an alternate return
pub data IsReply (labels : ℕ → Type 0) : Wanted → Datum → Type 0 where
  no_reply : IsReply labels AsSubroutine Nothing
  a_label : (label : ℕ) → labels label → IsReply labels AsSubroutine (IsLabel label)
  a_value : (basic : Basic) (width : ℕ) (d : Datum) → IsOf 0 (ValueOf basic) d → IsReply labels (AsFunction basic width) d

-- how a run ends: at END or STOP, or by the number of an input or output statement. A place outside its declared bounds ends none: it is an act
pub data IsEnding : Ending → Type 0 where
  plainly : IsEnding ending.Plain
  by_text : (text : List ℕ) → IsEnding (ending.Stop text)
  by_number : (number : ℤ) → IsEnding (ending.Io number)

-- WHAT A STEP COMES TO: the procedure goes on, the run ends, a procedure is called, it answers, or an act that is named stands in its way
pub data Happens (c : Facts) (least : ℕ) (want : Wanted) (stage : Option Direction) (v : View) (w : World) : Happening → Type 0 where
  it_goes : (later : Option Direction) (v' : View) (w' : World) → v'.frame ≡ v.frame → length w'.store ≡ length w.store →
      IsActive c least want (length w.store) later v' → IsStaged c.program (length w.store) later w'.transfer →
      of_others later w'.transfer ≡ of_others stage w.transfer → Happens c least want stage v w (Goes v' w')
  it_ends : (e : Ending) (v' : View) (w' : World) → IsEnding e → Happens c least want stage v w (Ends e v' w')
  it_calls : (v' : View) (w' : World) (name : Called) (passed : Passed) → v'.frame ≡ v.frame → length w.store ≤ length w'.store → w'.transfer ≡ w.transfer →
      IsHolding c least want (length w.store) v' → IsWaiting c (length w.store) passed.actuals v' stage passed.want v'.now → IsPassed (length w'.store) passed →
      Happens c least want stage v w (Calls v' w' name passed)
  it_answers : (w' : World) (d : Datum) → stage ≡ None → v.frame.base ≤ length w'.store → w'.transfer ≡ w.transfer →
      IsReply (λ label. IsIn label v.frame.alternates) want d → Happens c least want stage v w (Answers w' d)
  it_breaks : (act : Act) → IsTrue (is_named act) → Happens c least want stage v w (Breaks act)

-- what stands before a step: a unit, its active procedure, and its transfer, if it has one
pub record IsReady (c : Facts) (least : ℕ) (want : Wanted) (stage : Option Direction) (v : View) (w : World) : Type 0 where
  pub formed : IsWellFormed c least
  pub holding : IsHolding c least want (length w.store) v
  pub staged : IsStaged c.program (length w.store) stage w.transfer

-- each statement form over its operands
abbrev pub DeedHappens : Facts → ℕ → Wanted → Option Direction → View → World → Head → Type 0
DeedHappens c least want stage v w head = (sorts : List Sort) (ds : List Datum) → suc v.at < length c.program.lines → Takes c (length w.store) v.at stage head sorts →
    AreOf (length w.store) sorts ds → Happens c least want stage v w (deed c v w head ds)

-- each step of an active procedure
abbrev pub EachStepIsMeant : Type 0
EachStepIsMeant = (c : Facts) (least : ℕ) (want : Wanted) (stage : Option Direction) (v : View) (w : World) → IsReady c least want stage v w →
    IsNext c (length w.store) v stage v.now → Happens c least want stage v w (step c v w)

-- HOW A PROCEDURE BEGINS
pub data Begins (c : Facts) (least : ℕ) (passed : Passed) (w : World) : Entry fortran_sorts → Type 0 where
  it_enters : (v : View) (w' : World) → length w.store ≤ length w'.store → w'.transfer ≡ w.transfer → v.frame.base ≡ length w.store →
      IsActive c least passed.want (length w'.store) None v → ((label : ℕ) → IsIn label v.frame.alternates → IsIn (IsLabel label) passed.actuals) →
      Begins c least passed w (Enters v w')
  it_refuses : (act : Act) → IsTrue (is_named act) → Begins c least passed w (Refused act)

abbrev pub EachStartIsMeant : Type 0
EachStartIsMeant = (c : Facts) (least : ℕ) (name : Called) (passed : Passed) (w : World) → IsWellFormed c least → IsTrue (answers_to name c.program) →
    least ≤ length w.store → IsPassed (length w.store) passed → Begins c least passed w (start c name passed w)

-- HOW IT GOES ON WITH AN ANSWER: with as many sequences as at the call
pub data Resumes (c : Facts) (least : ℕ) (want : Wanted) (count : ℕ) (stage : Option Direction) (v : View) (w : World) : Entry fortran_sorts → Type 0 where
  it_resumes : (v' : View) (w' : World) → v'.frame ≡ v.frame → length w'.store ≡ count → w'.transfer ≡ w.transfer → IsActive c least want count stage v' →
      Resumes c least want count stage v w (Enters v' w')
  it_is_refused : (act : Act) → IsTrue (is_named act) → Resumes c least want count stage v w (Refused act)

abbrev pub EachAnswerIsMeant : Type 0
EachAnswerIsMeant = (c : Facts) (least : ℕ) (want asked : Wanted) (count : ℕ) (stage : Option Direction) (actuals : List Datum) (v : View) (d : Datum) (w : World) →
    IsWellFormed c least → IsHolding c least want count v → IsWaiting c count actuals v stage asked v.now → count ≤ length w.store →
    IsReply (λ label. IsIn (IsLabel label) actuals) asked d → Resumes c least want count stage v w (resume c v d w)

-- A WHOLE RUN. The procedures that wait below an active one, which was called as is asked with these actual arguments over so many sequences
pub data AreWaiting (text : ℕ → Facts) (least : ℕ) : Wanted → List Datum → ℕ → Option Transfer → List (Active fortran_sorts) → Type 0 where
  none_waits : (actuals : List Datum) (base : ℕ) → AreWaiting text least AsSubroutine actuals base None []
  one_waits : (k : ℕ) (v : View) (below : List (Active fortran_sorts)) (want asked : Wanted) (stage : Option Direction) (count base : ℕ)
      (actuals others : List Datum) (transfer : Option Transfer) → IsWellFormed (text k) least → IsHolding (text k) least want count v →
      IsWaiting (text k) count actuals v stage asked v.now → count ≤ base → IsStaged (text k).program count stage transfer →
      ((label : ℕ) → IsIn label v.frame.alternates → IsIn (IsLabel label) others) →
      AreWaiting text least want others v.frame.base (of_others stage transfer) below → AreWaiting text least asked actuals base transfer (Has k v ∷ below)

pub data StateHolds (text : ℕ → Facts) (least : ℕ) : RunState → Type 0 where
  it_runs : (k : ℕ) (v : View) (below : List (Active fortran_sorts)) (w : World) (want : Wanted) (stage : Option Direction) (actuals : List Datum) →
      IsReady (text k) least want stage v w → IsNext (text k) (length w.store) v stage v.now →
      ((label : ℕ) → IsIn label v.frame.alternates → IsIn (IsLabel label) actuals) →
      AreWaiting text least want actuals v.frame.base (of_others stage w.transfer) below → StateHolds text least (Runs k v below w)
  it_is_over : (e : Ending) (frames : List (Active fortran_sorts)) (w : World) → IsEnding e → StateHolds text least (Over e frames w)
  it_is_broken : (act : Act) (ks : List ℕ) → IsTrue (is_named act) → StateHolds text least (Broken act ks)

-- no run of well-formed units comes to a form without meaning
abbrev pub EachRunIsMeant : Type 0
EachRunIsMeant = (g : Setting) (S : List ProgramUnit) (units : Units) (n : ℕ) → AreWellFormed g S → act_of (ftn g S units n) ≡ Some NoMeaning → ⊥

-- and each run that is over has ended at END or STOP, or by a number
abbrev pub EachEndingIsMeant : Type 0
EachEndingIsMeant = (g : Setting) (S : List ProgramUnit) (units : Units) (n : ℕ) (e : Ending) (frames : List (Active fortran_sorts)) (w : World) → AreWellFormed g S →
    ftn g S units n ≡ Over e frames w → IsEnding e
