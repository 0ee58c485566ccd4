-- What a step comes to, where the statements of its unit agree with the procedures of the set: a statement that agrees, or a call with whose answer the
-- statement agrees again.
use Rattle.std.specs.Prelude.{◌≡◌, ℕ, zero, suc, ◌-◌, ℤ, pos, Bool, true, false, ◌&&◌, not, bytes_eq, List, [], ◌∷◌, length, Option, Some, None, slice_get, if◌then◌else◌}
use Rattle.std.specs.Ordering.{int_eq}
use Rattle.std.proofs.Common.{refl, subst}
use Rattle.fortran_totality.specs.f_tree.declared.names.Basic.TheVariants.{Integer, Logical, Character, Untyped}
use Rattle.fortran_totality.specs.f_tree.simulation.Machine.{Goes, Calls, Breaks}
use Rattle.fortran_totality.specs.f_tree.Values.{Bytes, Spot, Datum, IsInt, IsLog, IsSpot, Nothing, ZeroStep, BadAssignedLabel, NoMeaning, Checked, Gives, Fails}
use Rattle.fortran_totality.specs.f_tree.Terms.{Wanted, AsSubroutine, AsFunction, Callee, Terms}
use Rattle.fortran_totality.specs.f_tree.Store.{Store, Whole, Label, define, define_label, fetch, label_at}
use Rattle.fortran_totality.specs.f_tree.Facts.{Item, Repeated, Turn, Work, Done, Before, Head, ToSet, ToSetText, ToSetLabel, ToGo, ToPick, ToGoAssigned, ToGoBySign, ToGuard, ToEnterArm, ToLoop, ToTestLoop, ToCall, ToReturn, ToStop, ToBegin, ToTransfer, ToRepeat, ToTurn, ToFinish, ToAuxiliary, ToEnd, Form, Passes, On, Mark, LoopMark, Line, UnitKind, MainProgram, SubroutineUnit, FunctionUnit, BlockDataUnit, ProgramUnit, Facts, Frame}
use Rattle.fortran_totality.specs.f_tree.Courses.{Course, Further, IsDone, Branches, StopsWith, NotSaid}
use Rattle.fortran_totality.specs.f_tree.World.{World, View, Round, RoundKind, Counted, While, Now, Doing, Turning, Waits, Returning, Called, Procedure, Happening, proceeding}
use Rattle.fortran_totality.specs.f_tree.Places.{terminal_of, arm_after, place_of_label, arrived, passed, gone_to}
use Rattle.fortran_totality.specs.f_tree.Transfers.{next_of, followed_by, begins, item_done, finished}
use Rattle.fortran_totality.specs.f_tree.UnitStatements.{auxiliary}
use Rattle.fortran_totality.specs.f_tree.Valuing.{Red, Valued, Bad, Asks, reduce_all}
use Rattle.fortran_totality.specs.f_tree.Association.{Passing, passing, ready_for, procedure_named, called_as, call, alternate_of, result_given, result_from, answer}
use Rattle.fortran_totality.specs.f_tree.Step.{onward, go, coursed, onward_with, text_set, picked, nth_label, contains, labels_to_go, enters_block, name_of, gone_by, by_sign, guarded, at_arm, next_arm, arm_entered, at_least_once, turns, looped, loop_stored, loop_begun, loop_tested, Grown, grown, turned_with, turned, work_after, repeated, repeat_begun, item_turned, deed, valued, doing, step}
use Rattle.fortran_totality.specs.f_tree.WellTyped.{Sort, AreOf, none_of, IsAnswer, Meant, AreTyped, Sound, EachListIsMeant}
use Rattle.agreeing_runs.specs.AgreeingForms.{Suits, TermsAgree, JobAgrees, WorkAgrees, HeadAgrees, FormAgrees}
use Rattle.agreeing_runs.proofs.OperandLemmas.{Kept, terms_kept}
use Rattle.agreeing_runs.proofs.PlaceLemmas.{NowHas, ViewHas, EachHas, arrived_has, passed_has, gone_has}

module _ (S : List ProgramUnit) (c : Facts) (n : ℕ) where
  -- a procedure that waits
  unfoldable pub WaitAgrees : Wanted → Now → Type 0
  WaitAgrees want (Waits height rest) = (d : Datum) → IsAnswer n want d → FormAgrees S c n (rest d)
  WaitAgrees want _ = Unit {0}

  unfoldable pub EventAgrees : Happening → Type 0
  EventAgrees (Goes v w) = NowHas (FormAgrees S c n) v.now
  EventAgrees (Calls v w name passed) = WaitAgrees passed.want v.now
  EventAgrees _ = Unit {0}

module _ (S : List ProgramUnit) (c : Facts) (n : ℕ) where
  abbrev pub Has : Form → Type 0
  Has form = FormAgrees S c n form

  proceeding_agrees : (w : World) (r : Checked View) → ViewHas Has r → EventAgrees S c n (proceeding r w)
  unfolding proceeding EventAgrees ViewHas
  proceeding_agrees w (Gives v) has = has
  proceeding_agrees w (Fails act) has = tt

  event_if : (b : Bool) (x y : Happening) → EventAgrees S c n x → EventAgrees S c n y → EventAgrees S c n (if b then x else y)
  event_if true x y one other = one
  event_if false x y one other = other

  -- LISTS
  next_agrees : (work : Work) → WorkAgrees S c n work → Has (next_of work)
  unfolding next_of FormAgrees HeadAgrees WorkAgrees JobAgrees TermsAgree
  next_agrees Done has = (tt, tt)
  next_agrees (Before (Item t) rest) has = (has.1, (has.0, tt))
  next_agrees (Before (Repeated items control) rest) has = ((has.0.0, has.1), has.0.1)
  next_agrees (Before (Turn items p left by given) rest) has = ((has.0, has.1), tt)

  followed_agrees : (work rest : Work) → WorkAgrees S c n work → WorkAgrees S c n rest → WorkAgrees S c n (followed_by work rest)
  unfolding followed_by WorkAgrees
  followed_agrees Done rest one other = other
  followed_agrees (Before job work) rest one other = (one.0, followed_agrees work rest one.1 other)

  after_agrees : (items rest : Work) (p : Spot) (left : ℕ) (by given : ℤ) → WorkAgrees S c n items → WorkAgrees S c n rest →
      WorkAgrees S c n (work_after items rest p left by given)
  unfolding work_after WorkAgrees JobAgrees
  after_agrees items rest p zero by given one other = other
  after_agrees items rest p (suc left) by given one other = followed_agrees items (Before (Turn items p (suc left) by given) rest) one (one, other)

  repeated_agrees : (v : View) (w : World) (items rest : Work) (p : Spot) (first by : ℤ) (left : ℕ) (r : Checked Store) → WorkAgrees S c n items →
      WorkAgrees S c n rest → EventAgrees S c n (repeated v w items rest p first by left r)
  unfolding repeated EventAgrees NowHas
  repeated_agrees v w items rest p first by left (Fails act) one other = tt
  repeated_agrees v w items rest p first by left (Gives s) one other =
      next_agrees (work_after items rest p left by first) (after_agrees items rest p left by first one other)

  repeat_agrees : (v : View) (w : World) (items rest : Work) (p : Spot) (first limit by : ℤ) → WorkAgrees S c n items → WorkAgrees S c n rest →
      EventAgrees S c n (repeat_begun v w items rest p first limit by)
  unfolding repeat_begun EventAgrees
  repeat_agrees v w items rest p first limit by one other =
      event_if (int_eq by (pos 0)) (Breaks ZeroStep) (repeated v w items rest p first by (turns first limit by) (define w.store p (IsInt first))) tt
      (repeated_agrees v w items rest p first by (turns first limit by) (define w.store p (IsInt first)) one other)

  item_turned_agrees : (v : View) (w : World) (items rest : Work) (p : Spot) (left : ℕ) (by : ℤ) (r : Checked Grown) → WorkAgrees S c n items →
      WorkAgrees S c n rest → EventAgrees S c n (item_turned v w items rest p left by r)
  unfolding item_turned EventAgrees NowHas
  item_turned_agrees v w items rest p left by (Fails act) one other = tt
  item_turned_agrees v w items rest p left by (Gives g) one other =
      next_agrees (work_after items rest p (left - 1) by g.given) (after_agrees items rest p (left - 1) by g.given one other)

  -- CALLS
  ready_agrees : (want : Wanted) (p : Passing) (w : World) (v : View) (name : Called) → WaitAgrees S c n want v.now → EventAgrees S c n (ready_for want p w v name)
  unfolding ready_for EventAgrees
  ready_agrees AsSubroutine p w v name waits = waits
  ready_agrees (AsFunction Character width) p w v name waits = waits
  ready_agrees (AsFunction Integer width) p w v name waits = waits
  ready_agrees (AsFunction Logical width) p w v name waits = waits
  ready_agrees (AsFunction Untyped width) p w v name waits = waits

  called_agrees : (r : Checked Bytes) (want : Wanted) (p : Passing) (w : World) (v : View) → WaitAgrees S c n want v.now → EventAgrees S c n (called_as r want p w v)
  unfolding called_as EventAgrees
  called_agrees (Gives name) want p w v waits = ready_agrees want p w v (Procedure name) waits
  called_agrees (Fails act) want p w v waits = tt

  call_agrees : (v : View) (w : World) (callee : Callee) (ds : List Datum) (now : ℕ → Now) → WaitAgrees S c n callee.want (now (length w.store)) →
      EventAgrees S c n (call c v w callee ds now)
  unfolding call
  call_agrees v w callee ds now waits =
      called_agrees (procedure_named v.frame callee.name (c.program.attribute callee.name)) callee.want (passing w.store ds) w
      (record v { now = now (length w.store) }) waits

  given_agrees : (f : Frame) (w : World) (r : Checked Datum) → EventAgrees S c n (result_given f w r)
  unfolding result_given EventAgrees
  given_agrees f w (Gives d) = tt
  given_agrees f w (Fails act) = tt

  from_agrees : (f : Frame) (w : World) (o : Option Spot) → EventAgrees S c n (result_from f w o)
  unfolding result_from EventAgrees
  from_agrees f w None = tt
  from_agrees f w (Some p) = given_agrees f w (fetch w.store p)

  answer_agrees : (kind : UnitKind) (v : View) (w : World) (d : Datum) → EventAgrees S c n (answer kind v w d)
  unfolding answer EventAgrees
  answer_agrees MainProgram v w d = tt
  answer_agrees SubroutineUnit v w d = tt
  answer_agrees FunctionUnit v w d = from_agrees v.frame w v.frame.result
  answer_agrees BlockDataUnit v w d = tt

  module _ (all : EachHas Has c.program.lines) where
    onward_agrees : (v : View) (w : World) → EventAgrees S c n (onward c v w)
    unfolding onward
    onward_agrees v w = proceeding_agrees w (passed c.program v.frame v.loops v.at) (passed_has Has c.program all v.frame v.loops v.at)

    go_agrees : (v : View) (w : World) (label : ℕ) → EventAgrees S c n (go c v w label)
    unfolding go
    go_agrees v w label = proceeding_agrees w (gone_to c.program v.frame v.loops label) (gone_has Has c.program all v.frame v.loops label)

    coursed_agrees : (v : View) (rest : Work) (course : Course) → WorkAgrees S c n rest → EventAgrees S c n (coursed c v rest course)
    unfolding coursed EventAgrees NowHas
    coursed_agrees v rest (Further w) has = next_agrees rest has
    coursed_agrees v rest (IsDone w) has = onward_agrees v w
    coursed_agrees v rest (Branches label w) has = go_agrees v w label
    coursed_agrees v rest (StopsWith number w) has = tt
    coursed_agrees v rest (NotSaid act) has = tt

    stored_agrees : (v : View) (w : World) (r : Checked Store) → EventAgrees S c n (onward_with c v w r)
    unfolding onward_with EventAgrees
    stored_agrees v w (Gives s) = onward_agrees v (record w { store = s })
    stored_agrees v w (Fails act) = tt

    picked_agrees : (v : View) (w : World) (o : Option ℕ) → EventAgrees S c n (picked c v w o)
    unfolding picked
    picked_agrees v w None = onward_agrees v w
    picked_agrees v w (Some label) = go_agrees v w label

    gone_by_agrees : (v : View) (w : World) (labels : List ℕ) (r : Checked Whole) → EventAgrees S c n (gone_by c v w labels r)
    unfolding gone_by EventAgrees
    gone_by_agrees v w labels (Gives (Label owner l)) =
        event_if ((bytes_eq owner (name_of c.program) && contains (labels_to_go c.program labels) l) && not (enters_block c.program v.at (place_of_label c.program l))) (go c v w l)
        (Breaks BadAssignedLabel) (go_agrees v w l) tt
    gone_by_agrees v w labels (Gives _) = tt
    gone_by_agrees v w labels (Fails act) = tt

    guarded_agrees : (v : View) (w : World) (form : Form) (b : Bool) → Has form → EventAgrees S c n (guarded c v w form b)
    unfolding guarded EventAgrees NowHas
    guarded_agrees v w form false has = onward_agrees v w
    guarded_agrees v w Passes true has = onward_agrees v w
    guarded_agrees v w (On head operands) true has = has

    arm_parts : (v : View) (i : ℕ) (label : Option ℕ) (mark : Mark) (loop : LoopMark) (card : ℕ) (form : Form) → Has form →
        ViewHas Has (at_arm c v i (Some (record { label = label; mark = mark; loop = loop; card = card; form = form })))
    unfolding at_arm ViewHas NowHas
    arm_parts v i label mark loop card Passes has = arrived_has Has c.program all v.frame v.loops (suc i)
    arm_parts v i label mark loop card (On head operands) has = has

    at_arm_agrees : (v : View) (i : ℕ) (o : Option Line) → ((line : Line) → o ≡ Some line → Has line.form) → ViewHas Has (at_arm c v i o)
    unfolding at_arm ViewHas
    at_arm_agrees v i None has = refl
    at_arm_agrees v i (Some line) has = arm_parts v i line.label line.mark line.loop line.card line.form (has line refl)

    next_arm_agrees : ((i : ℕ) (line : Line) → slice_get c.program.lines i ≡ Some line → Has line.form) → (v : View) (o : Option ℕ) → ViewHas Has (next_arm c v o)
    unfolding next_arm ViewHas
    next_arm_agrees each v None = refl
    next_arm_agrees each v (Some i) = at_arm_agrees v i (slice_get c.program.lines i) (each i)

    module _ (each : (i : ℕ) (line : Line) → slice_get c.program.lines i ≡ Some line → Has line.form) where
      arm_agrees : (v : View) (w : World) (b : Bool) → EventAgrees S c n (arm_entered c v w b)
      unfolding arm_entered
      arm_agrees v w true = proceeding_agrees w (arrived c.program v.frame v.loops (suc v.at)) (arrived_has Has c.program all v.frame v.loops (suc v.at))
      arm_agrees v w false = proceeding_agrees w (next_arm c v (arm_after c.program v.at)) (next_arm_agrees each v (arm_after c.program v.at))

      looped_agrees : (v : View) (w : World) (last : ℕ) (p : Spot) (first by : ℤ) (left : ℕ) → EventAgrees S c n (looped c v w last p first by left)
      unfolding looped
      looped_agrees v w last p first by zero = proceeding_agrees w (passed c.program v.frame v.loops last) (passed_has Has c.program all v.frame v.loops last)
      looped_agrees v w last p first by (suc left) =
          let rounds : List Round = record { first = v.at; last = last; kind = Counted p (suc left) by first } ∷ v.loops in
          proceeding_agrees w (arrived c.program v.frame rounds (suc v.at)) (arrived_has Has c.program all v.frame rounds (suc v.at))

      loop_stored_agrees : (v : View) (w : World) (last : ℕ) (p : Spot) (first by : ℤ) (left : ℕ) (r : Checked Store) →
          EventAgrees S c n (loop_stored c v w last p first by left r)
      unfolding loop_stored EventAgrees
      loop_stored_agrees v w last p first by left (Fails act) = tt
      loop_stored_agrees v w last p first by left (Gives s) = looped_agrees v (record w { store = s }) last p first by left

      loop_agrees : (v : View) (w : World) (o : Option ℕ) (p : Spot) (first limit by : ℤ) → EventAgrees S c n (loop_begun c v w o p first limit by)
      unfolding loop_begun EventAgrees
      loop_agrees v w None p first limit by = tt
      loop_agrees v w (Some last) p first limit by =
          let left : ℕ = at_least_once c.program.onetrip (turns first limit by) in
          event_if (int_eq by (pos 0)) (Breaks ZeroStep) (loop_stored c v w last p first by left (define w.store p (IsInt first))) tt
          (loop_stored_agrees v w last p first by left (define w.store p (IsInt first)))

      tested_agrees : (v : View) (w : World) (o : Option ℕ) (b : Bool) → EventAgrees S c n (loop_tested c v w o b)
      unfolding loop_tested EventAgrees
      tested_agrees v w None b = tt
      tested_agrees v w (Some last) false = proceeding_agrees w (passed c.program v.frame v.loops last) (passed_has Has c.program all v.frame v.loops last)
      tested_agrees v w (Some last) true =
          let rounds : List Round = record { first = v.at; last = last; kind = While } ∷ v.loops in
          proceeding_agrees w (arrived c.program v.frame rounds (suc v.at)) (arrived_has Has c.program all v.frame rounds (suc v.at))

      turned_with_agrees : (v : View) (w : World) (round : Round) (rounds : List Round) (p : Spot) (left : ℕ) (by : ℤ) (r : Checked Grown) →
          EventAgrees S c n (turned_with c v w round rounds p left by r)
      unfolding turned_with EventAgrees
      turned_with_agrees v w round rounds p left by (Fails act) = tt
      turned_with_agrees v w round rounds p (suc (suc left)) by (Gives g) =
          let more : List Round = record round { kind = Counted p (suc left) by g.given } ∷ rounds in
          proceeding_agrees (record w { store = g.store }) (arrived c.program v.frame more (suc round.first)) (arrived_has Has c.program all v.frame more (suc round.first))
      turned_with_agrees v w round rounds p (suc zero) by (Gives g) =
          proceeding_agrees (record w { store = g.store }) (passed c.program v.frame rounds round.last) (passed_has Has c.program all v.frame rounds round.last)
      turned_with_agrees v w round rounds p zero by (Gives g) =
          proceeding_agrees (record w { store = g.store }) (passed c.program v.frame rounds round.last) (passed_has Has c.program all v.frame rounds round.last)

      turned_by : (v : View) (w : World) (first last : ℕ) (kind : RoundKind) (rounds : List Round) →
          EventAgrees S c n (turned c v w (record { first = first; last = last; kind = kind } ∷ rounds))
      unfolding turned EventAgrees
      turned_by v w first last While rounds = tt
      turned_by v w first last (Counted p left by given) rounds =
          turned_with_agrees v w (record { first = first; last = last; kind = Counted p left by given }) rounds p left by (grown w.store p by given)

      turned_agrees : (v : View) (w : World) (rounds : List Round) → EventAgrees S c n (turned c v w rounds)
      unfolding turned EventAgrees
      turned_agrees v w [] = tt
      turned_agrees v w (round ∷ rounds) = turned_by v w round.first round.last round.kind rounds

      -- EACH STATEMENT FORM
      deed_agrees : (v : View) (w : World) (head : Head) (operands : Terms) (ds : List Datum) → HeadAgrees S c n head operands → EventAgrees S c n (deed c v w head ds)
      unfolding deed EventAgrees HeadAgrees WaitAgrees WorkAgrees
      deed_agrees v w ToSet ts (d ∷ IsSpot p ∷ []) has = stored_agrees v w (define w.store p d)
      deed_agrees v w ToSetText ts ds has = stored_agrees v w (text_set w.store [] ds)
      deed_agrees v w (ToSetLabel label) ts (IsSpot p ∷ []) has = stored_agrees v w (define_label w.store p (name_of c.program) label)
      deed_agrees v w (ToGo label) ts [] has = go_agrees v w label
      deed_agrees v w (ToPick labels) ts (IsInt z ∷ []) has = picked_agrees v w (nth_label labels z)
      deed_agrees v w (ToGoAssigned labels) ts (IsSpot p ∷ []) has = gone_by_agrees v w labels (label_at w.store p)
      deed_agrees v w (ToGoBySign below at above) ts (IsInt z ∷ []) has = go_agrees v w (by_sign z below at above)
      deed_agrees v w (ToGuard form) ts (IsLog b ∷ []) has = guarded_agrees v w form b has
      deed_agrees v w ToEnterArm ts (IsLog b ∷ []) has = arm_agrees v w b
      deed_agrees v w (ToLoop label) ts (IsSpot p ∷ IsInt first ∷ IsInt limit ∷ IsInt by ∷ []) has =
          loop_agrees v w (terminal_of c.program v.at label) p first limit by
      deed_agrees v w (ToTestLoop label) ts (IsLog b ∷ []) has = tested_agrees v w (terminal_of c.program v.at label) b
      deed_agrees v w (ToCall x) ts ds has = call_agrees v w (record { name = x; want = AsSubroutine }) ds Returning tt
      deed_agrees v w ToReturn ts [] has = answer_agrees c.program.kind v w Nothing
      deed_agrees v w ToReturn ts (IsInt z ∷ []) has = answer_agrees c.program.kind v w (alternate_of v.frame.alternates z)
      deed_agrees v w (ToStop text) ts [] has = tt
      deed_agrees v w (ToBegin way layout controls work) ts ds has =
          coursed_agrees v work (begins c.program.formats w way layout controls ds w.transfer) has
      deed_agrees v w (ToTransfer rest) ts (d ∷ []) has = coursed_agrees v rest (item_done w d w.transfer) has
      deed_agrees v w (ToRepeat items rest) ts (IsSpot p ∷ IsInt first ∷ IsInt limit ∷ IsInt by ∷ []) has =
          repeat_agrees v w items rest p first limit by has.0 has.1
      deed_agrees v w (ToTurn items p left by given rest) ts [] has =
          item_turned_agrees v w items rest p left by (grown w.store p by given) has.0 has.1
      deed_agrees v w (ToAuxiliary which controls) ts ds has = coursed_agrees v Done (auxiliary w which controls ds w.transfer) tt
      deed_agrees v w ToFinish ts [] has = coursed_agrees v Done (finished w w.transfer) tt
      deed_agrees v w ToEnd ts [] has = answer_agrees c.program.kind v w Nothing
      deed_agrees v w _ ts _ has = tt

-- A STEP
module _ (lists : EachListIsMeant) (S : List ProgramUnit) (c : Facts) where
  suits_after : (n : ℕ) (callee : Callee) (operands rest : Terms) → Suits S c n [] callee operands →
      ((sorts : List Sort) → AreTyped c n [] operands sorts → AreTyped c n [] rest sorts) → Suits S c n [] callee rest
  suits_after n callee operands rest suits kept = record { sorts = suits.sorts; typed = kept suits.sorts suits.typed; agrees = suits.agrees }

  head_after : (n : ℕ) (head : Head) (operands rest : Terms) → HeadAgrees S c n head operands →
      ((sorts : List Sort) → AreTyped c n [] operands sorts → AreTyped c n [] rest sorts) → HeadAgrees S c n head rest
  unfolding HeadAgrees
  head_after n (ToGuard form) operands rest has kept = has
  head_after n (ToCall x) operands rest has kept = suits_after n (record { name = x; want = AsSubroutine }) operands rest has kept
  head_after n (ToBegin way layout controls work) operands rest has kept = has
  head_after n (ToTransfer work) operands rest has kept = has
  head_after n (ToRepeat items work) operands rest has kept = has
  head_after n (ToTurn items p left by given work) operands rest has kept = has
  head_after n _ operands rest has kept = tt

  module _ (v : View) (w : World) (sound : Sound c v.frame (length w.store)) (all : EachHas (Has S c (length w.store)) c.program.lines)
      (each : (i : ℕ) (line : Line) → slice_get c.program.lines i ≡ Some line → Has S c (length w.store) line.form) where
    asked_typed : (r : Red (List Datum) Terms) (operands : Terms) (callee : Callee) (ds : List Datum) (rest : Datum → Terms) → reduce_all c v.frame w.store [] operands ≡ r →
        r ≡ Asks callee ds rest → (d : Datum) → IsAnswer (length w.store) callee.want d → (sorts : List Sort) → AreTyped c (length w.store) [] operands sorts →
        AreTyped c (length w.store) [] (rest d) sorts
    unfolding Meant
    asked_typed r operands callee ds rest is asks d answer sorts typed =
        let meant : Meant c (length w.store) (AreOf (length w.store) sorts) (λ later. AreTyped c (length w.store) [] later sorts) (Asks callee ds rest) =
        subst (λ z. Meant c (length w.store) (AreOf (length w.store) sorts) (λ later. AreTyped c (length w.store) [] later sorts) z) asks
        (subst (λ z. Meant c (length w.store) (AreOf (length w.store) sorts) (λ later. AreTyped c (length w.store) [] later sorts) z) is
        (lists c v.frame w.store sound [] [] none_of operands sorts typed)) in
        meant.1 d answer

    valued_agrees : (head : Head) (operands : Terms) (r : Red (List Datum) Terms) → reduce_all c v.frame w.store [] operands ≡ r → HeadAgrees S c (length w.store) head operands →
        Kept S c (length w.store) (TermsAgree S c (length w.store) []) r → EventAgrees S c (length w.store) (valued c v w head r)
    unfolding valued Kept EventAgrees WaitAgrees FormAgrees
    valued_agrees head operands (Valued ds) is has kept = deed_agrees S c (length w.store) all each v w head operands ds has
    valued_agrees head operands (Bad act) is has kept = tt
    valued_agrees head operands (Asks callee ds rest) is has kept =
        call_agrees S c (length w.store) v w callee ds (λ height. Waits height (λ d. On head (rest d)))
        (λ d answer. (
          head_after (length w.store) head operands (rest d) has
              (asked_typed (Asks callee ds rest) operands callee ds rest is refl d answer),
          kept.1 d answer,
        ))

    doing_agrees : (form : Form) → Has S c (length w.store) form → EventAgrees S c (length w.store) (doing c v w form)
    unfolding doing FormAgrees
    doing_agrees Passes has = onward_agrees S c (length w.store) all v w
    doing_agrees (On head operands) has =
        valued_agrees head operands (reduce_all c v.frame w.store [] operands) refl has.0
        (terms_kept lists S c v.frame w.store sound [] [] none_of operands has.1)

    step_by : (now : Now) → NowHas (Has S c (length w.store)) now →
        EventAgrees S c (length w.store) (elim now [ Doing form ↦ doing c v w form | Turning ↦ turned c v w v.loops | _ ↦ Breaks NoMeaning ])
    unfolding NowHas EventAgrees
    step_by (Doing form) has = doing_agrees form has
    step_by Turning has = turned_agrees S c (length w.store) all each v w v.loops
    step_by (Waits height rest) has = tt
    step_by (Returning height) has = tt

    pub step_agrees : NowHas (Has S c (length w.store)) v.now → EventAgrees S c (length w.store) (step c v w)
    unfolding step
    step_agrees has = step_by v.now has
