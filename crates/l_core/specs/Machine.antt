-- What the steps of a lowered unit do, as a framed machine over the world of FORTRAN: its storage, its units and the transfer in progress.
-- ANSI X3.9-1978, sections 10, 11, 12 and 15.
use Rattle.std.specs.Prelude.{ℕ, ℤ, pos, suc, nat_eq, nat_lt, ◌+◌, ◌-◌, true, false, bytes_eq, ◌&&◌, List, [], ◌∷◌, length, Option, Some, None, slice_get, if◌then◌else◌}
use Rattle.f_tree.specs.simulation.Machine.{Sorts, Event, Goes, Ends, Calls, Answers, Breaks, Entry, Enters, Refused, Lang}
use Rattle.f_tree.specs.Values.{Datum, IsInt, IsLog, IsSpot, Nothing, Act, ActiveProcedure, BadAssignedLabel, MissingProcedure, NoMeaning, Checked, Gives, Fails, given_that}
use Rattle.f_tree.specs.Terms.{AsSubroutine, Callee}
use Rattle.f_tree.specs.Store.{Store, Whole, Label, define, define_label, label_at}
use Rattle.f_tree.specs.Facts.{Frame, UnitKind, MainProgram, SubroutineUnit, FunctionUnit, BlockDataUnit}
use Rattle.f_tree.specs.Valuing.{applied}
use Rattle.f_tree.specs.World as fortran
use Rattle.f_tree.specs.World.{World, Returning, Called, Passed, fortran_sorts, Happening, Ending, Io}
use Rattle.f_tree.specs.Courses.{Course, Further, IsDone, Branches, StopsWith, NotSaid}
use Rattle.f_tree.specs.Association.{call, cut_to}
use Rattle.f_tree.specs.Association as association
use Rattle.f_tree.specs.Transfers.{begins, item_done, finished}
use Rattle.f_tree.specs.UnitStatements.{auxiliary}
use Rattle.f_tree.specs.Step.{text_set, contains, name_of, stop_ending}
use Rattle.l_core.specs.Pures.{Temporary, Temporaries, none_kept, with_kept, meant, all_meant}
use Rattle.l_core.specs.Steps.{Acting, Starts, Takes, Finishes, Auxiliary, Step, Keep, Put, PutText, PutLabel, Compute, Unless, Skip, Again, AgainIf, Jump, Select, JumpBy, Pass, CallFor, CallSub, Branch, Way, Back, BackBy, Halt, Acts, Text}

-- one active procedure: its frame, the step that is next, its temporaries, and how high the store was when it called
pub record View : Type 0 where
  pub frame : Frame
  pub at : ℕ
  pub kept : Temporaries
  pub height : ℕ

abbrev pub lowered_sorts : Sorts
lowered_sorts = record { Code = Text; View = View; Shared = World; Name = Called; Arg = Passed; Ans = Datum; Fault = Act }

abbrev pub Doing : Type 0
Doing = Event Ending lowered_sorts

-- to a step, and to the one behind the present one
unfoldable pub to : ℕ → View → World → Doing
to n v w = Goes (record v { at = n }) w

unfoldable pub onward : View → World → Doing
onward v w = to (suc v.at) v w

unfoldable pub past : ℕ → View → World → Doing
past n v w = to (suc v.at + n) v w

unfoldable pub keeping : ℕ → View → World → Checked Datum → Doing
keeping k v w (Gives d) = onward (record v { kept = with_kept k d v.kept }) w
keeping k v w (Fails act) = Breaks act

unfoldable pub storing : View → World → Checked Store → Doing
storing v w (Gives s) = onward v (record w { store = s })
storing v w (Fails act) = Breaks act

unfoldable pub put_at : Store → Datum → Datum → Checked Store
put_at s (IsSpot p) d = define s p d
put_at s _ d = Fails NoMeaning

unfoldable pub put_text_at : Store → Datum → List Datum → Checked Store
put_text_at s (IsSpot p) ds = text_set s ds (IsSpot p ∷ [])
put_text_at s _ ds = Fails NoMeaning

unfoldable pub put_label_at : Text → Store → ℕ → Datum → Checked Store
put_label_at u s label (IsSpot p) = define_label s p (name_of u.facts.program) label
put_label_at u s label _ = Fails NoMeaning

-- a condition, with the step where it goes if it holds and if it does not
unfoldable pub testing : ℕ → ℕ → View → World → Checked Datum → Doing
testing on off v w (Gives (IsLog true)) = to on v w
testing on off v w (Gives (IsLog false)) = to off v w
testing on off v w (Gives _) = Breaks NoMeaning
testing on off v w (Fails act) = Breaks act

-- to a label
unfoldable pub to_place : Option ℕ → View → World → Doing
to_place None v w = Breaks NoMeaning
to_place (Some n) v w = to n v w

unfoldable pub jump : Text → ℕ → View → World → Doing
jump u label v w = to_place (u.position label) v w

-- how many steps are passed, of so many that stand behind, before the one that a number picks; all of them where it picks none
unfoldable pub passed_by : ℕ → ℤ → ℕ
passed_by count (pos (suc n)) = if nat_lt n count then n else count
passed_by count _ = count

unfoldable pub selecting : ℕ → View → World → Checked Datum → Doing
selecting count v w (Gives (IsInt z)) = past (passed_by count z) v w
selecting count v w (Gives _) = Breaks NoMeaning
selecting count v w (Fails act) = Breaks act

unfoldable pub label_held : Store → Datum → Checked Whole
label_held s (IsSpot p) = label_at s p
label_held s _ = Fails NoMeaning

-- how many steps are passed, of those that stand behind for each of some labels, before that of a label
unfoldable pub passed_before : List ℕ → ℕ → ℕ
passed_before [] l = 0
passed_before (k ∷ ks) l = if nat_eq k l then 0 else suc (passed_before ks l)

unfoldable pub jumping : Text → List ℕ → View → World → Checked Whole → Doing
jumping u labels v w (Gives (Label owner l)) = if bytes_eq owner (name_of u.facts.program) && contains labels l then past (passed_before labels l) v w else Breaks BadAssignedLabel
jumping u labels v w (Gives _) = Breaks NoMeaning
jumping u labels v w (Fails act) = Breaks act

-- Calls are FORTRAN's, which look at the frame of the procedure alone, and so are the answers of functions.
unfoldable pub resting : Frame → fortran.View
resting f = record { frame = f; at = 0; now = Returning 0; loops = [] }

unfoldable pub waiting : View → Happening → Doing
waiting v (Calls _ w n a) = Calls v w n a
waiting v (Breaks act) = Breaks act
waiting v _ = Breaks NoMeaning

unfoldable pub calling : Text → View → World → Callee → Checked (List Datum) → Doing
calling u v w callee (Gives ds) = waiting (record v { height = length w.store }) (call u.facts (resting v.frame) w callee ds Returning)
calling u v w callee (Fails act) = Breaks act

unfoldable pub answering : Happening → Doing
answering (Answers w d) = Answers w d
answering (Breaks act) = Breaks act
answering _ = Breaks NoMeaning

-- a function answers by its result; a subroutine by the number of its alternate return, which is none of them where it goes on behind the call; the
-- main program by that of none
unfoldable pub answer : UnitKind → Frame → World → ℤ → Happening
answer MainProgram f w z = Answers w (IsInt (pos 0))
answer SubroutineUnit f w z = Answers w (IsInt z)
answer FunctionUnit f w z = association.answer FunctionUnit (resting f) w Nothing
answer BlockDataUnit f w z = Breaks NoMeaning

unfoldable pub answering_by : Text → View → World → Checked Datum → Doing
answering_by u v w (Gives (IsInt z)) = answering (answer u.facts.program.kind v.frame w z)
answering_by u v w (Gives _) = Breaks NoMeaning
answering_by u v w (Fails act) = Breaks act

-- what an act of a transfer, or of OPEN and its kin, comes to
unfoldable pub course_of : Text → World → Acting → List Datum → Course
course_of u w (Starts direction layout controls) ds = begins u.facts.program.formats w direction layout controls ds w.transfer
course_of u w Takes (d ∷ []) = item_done w d w.transfer
course_of u w Finishes [] = finished w w.transfer
course_of u w (Auxiliary which controls) ds = auxiliary w which controls ds w.transfer
course_of u w _ ds = NotSaid NoMeaning

unfoldable pub coursing : Text → ℕ → View → Course → Doing
coursing u n v (Further w) = onward v w
coursing u n v (IsDone w) = past n v w
coursing u n v (Branches label w) = jump u label v w
coursing u n v (StopsWith number w) = Ends (Io number) v w
coursing u n v (NotSaid act) = Breaks act

unfoldable pub acting : Text → ℕ → View → World → Acting → Checked (List Datum) → Doing
acting u n v w act' (Gives ds) = coursing u n v (course_of u w act' ds)
acting u n v w act' (Fails act) = Breaks act

-- what the store of a world is after a value is put at a place: the place is settled behind the value
unfoldable pub done : Text → View → World → Option Step → Doing
done u v w None = Breaks NoMeaning
done u v w (Some (Keep k p)) = keeping k v w (meant u.facts v.frame v.kept w.store p)
done u v w (Some (Put place p)) =
    storing v w (given_that (meant u.facts v.frame v.kept w.store p) (λ d. given_that (meant u.facts v.frame v.kept w.store place) (λ r. put_at w.store r d)))
done u v w (Some (PutText place ps)) =
    storing v w (given_that (all_meant u.facts v.frame v.kept w.store ps) (λ ds. given_that (meant u.facts v.frame v.kept w.store place) (λ r. put_text_at w.store r ds)))
done u v w (Some (PutLabel place label)) = storing v w (given_that (meant u.facts v.frame v.kept w.store place) (put_label_at u w.store label))
done u v w (Some (Compute k function ps)) = keeping k v w (given_that (all_meant u.facts v.frame v.kept w.store ps) (applied function))
done u v w (Some (Unless p n)) = testing (suc v.at) (suc v.at + n) v w (meant u.facts v.frame v.kept w.store p)
done u v w (Some (Skip n)) = past n v w
done u v w (Some (Again n)) = to (v.at - n) v w
done u v w (Some (AgainIf p n)) = testing (v.at - n) (suc v.at) v w (meant u.facts v.frame v.kept w.store p)
done u v w (Some (Jump label)) = jump u label v w
done u v w (Some (Select p count)) = selecting count v w (meant u.facts v.frame v.kept w.store p)
done u v w (Some (JumpBy p labels)) = jumping u labels v w (given_that (meant u.facts v.frame v.kept w.store p) (label_held w.store))
done u v w (Some Pass) = onward v w
done u v w (Some (CallFor k callee ps)) = calling u v w callee (all_meant u.facts v.frame v.kept w.store ps)
done u v w (Some (CallSub k name ps)) = calling u v w (record { name = name; want = AsSubroutine }) (all_meant u.facts v.frame v.kept w.store ps)
done u v w (Some (Branch k count)) = selecting count v w (meant u.facts v.frame v.kept w.store (Temporary k))
done u v w (Some (Way label)) = jump u label v w
done u v w (Some Back) = answering (answer u.facts.program.kind v.frame w (pos 0))
done u v w (Some (BackBy p)) = answering_by u v w (meant u.facts v.frame v.kept w.store p)
done u v w (Some (Halt text)) = Ends (stop_ending text) v w
done u v w (Some (Acts act ps n)) = acting u n v w act (all_meant u.facts v.frame v.kept w.store ps)

-- one step
unfoldable pub step : Text → View → World → Doing
step u v w = done u v w (slice_get u.steps v.at)

-- a unit that is called begins at the statement of its entry
unfoldable pub begun : Text → Entry fortran_sorts → Entry lowered_sorts
begun u (Enters v w) = Enters (record { frame = v.frame; at = u.begins v.frame.called.start; kept = none_kept; height = 0 }) w
begun u (Refused act) = Refused act

unfoldable pub start : Text → Called → Passed → World → Entry lowered_sorts
start u name p w = begun u (association.start u.facts name p w)

-- the answer is kept, of a subroutine to which no label was passed nothing; the store is as high as it was, and the step behind the call is next
unfoldable pub gone_on : ℕ → View → Datum → World → Entry lowered_sorts
gone_on k v d w = Enters (record v { at = suc v.at; kept = with_kept k d v.kept }) (cut_to v.height w)

unfoldable pub resumed_at : Option Step → View → Datum → World → Entry lowered_sorts
resumed_at (Some (CallFor k callee ps)) v d w = gone_on k v d w
resumed_at (Some (CallSub k name ps)) v d w = gone_on k v Nothing w
resumed_at _ v d w = Refused NoMeaning

unfoldable pub resume : Text → View → Datum → World → Entry lowered_sorts
resume u v d w = resumed_at (slice_get u.steps v.at) v d w

-- the lowered language as a framed machine
abbrev pub lowered : Lang Ending
lowered = record { sorts = lowered_sorts; step = step; start = start; resume = resume; missing = MissingProcedure; busy = ActiveProcedure; plain = fortran.Plain }

unfoldable pub lowered_opened : Unit {0}
unfolding to onward past keeping storing put_at put_text_at put_label_at testing to_place jump passed_by selecting label_held passed_before jumping resting waiting calling answering answer answering_by course_of coursing acting done step begun start gone_on resumed_at resume
lowered_opened = tt
