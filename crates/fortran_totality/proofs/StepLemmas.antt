-- A step of an active procedure: its statement over its operands, a call for one of them, or the increment of a loop.
use Rattle.std.specs.Prelude.{◌≡◌, ℕ, suc, ◌<◌, List, [], length, Option}
use Rattle.std.proofs.Common.{refl, subst}
use Rattle.f_tree.specs.simulation.Machine.{Breaks}
use Rattle.f_tree.specs.Values.{Datum, NoMeaning}
use Rattle.f_tree.specs.Terms.{Wanted, Terms}
use Rattle.f_tree.specs.Facts.{Direction, Head, Form, On, Facts}
use Rattle.f_tree.specs.World.{World, View, Now, Doing, Turning}
use Rattle.f_tree.specs.Association.{answer}
use Rattle.f_tree.specs.Valuing.{Red, Valued, Bad, Asks, reduce_all}
use Rattle.f_tree.specs.Step.{turned, deed, valued, doing, step}
use Rattle.f_tree.specs.WellTyped.{Sort, AreOf, none_of, AreTyped, Meant}
use Rattle.f_tree.specs.WellFormed as formed
use Rattle.f_tree.specs.WellFormed.{Takes}
use Rattle.f_tree.specs.Holding as holding
use Rattle.f_tree.specs.Holding.{IsNext, IsReady, DeedHappens, Happens, HasRoom, EachStepIsMeant}
use Rattle.fortran_totality.proofs.MeantLemmas.{each_list}
use Rattle.fortran_totality.proofs.StatementLemmas.{onward_happens, set_happens, text_set_happens, label_set_happens, branch_happens, choice_happens, assigned_branch_happens, sign_happens, guard_happens, arm_happens, loop_happens, test_happens, stop_happens, turned_happens}
use Rattle.fortran_totality.proofs.BeginLemmas.{begin_happens, auxiliary_happens}
use Rattle.fortran_totality.proofs.ItemLemmas.{transfer_happens, repeat_happens, item_turn_happens, finish_happens}
use Rattle.fortran_totality.proofs.AnswerLemmas.{return_happens, end_happens, ended_happens}
use Rattle.fortran_totality.proofs.CallLemmas.{call_happens, reference_happens}

-- each statement form
pub deed_happens : (c : Facts) (least : ℕ) (want : Wanted) (stage : Option Direction) (v : View) (w : World) → IsReady c least want stage v w → (head : Head) → DeedHappens c least want stage v w head
deed_happens c least want stage v w ready head sorts ds room (formed.sets basic valued) are = set_happens c least want v w ready _ ds room (formed.sets basic valued) are
deed_happens c least want stage v w ready head sorts ds room (formed.sets_text _ pieces) are = text_set_happens c least want v w ready sorts ds room (formed.sets_text sorts pieces) are
deed_happens c least want stage v w ready head sorts ds room (formed.sets_label label) are = label_set_happens c least want v w ready label _ ds room (formed.sets_label label) are
deed_happens c least want stage v w ready head sorts ds room (formed.goes label there) are = branch_happens c least want v w ready label _ ds room (formed.goes label there) are
deed_happens c least want stage v w ready head sorts ds room (formed.picks labels there) are = choice_happens c least want v w ready labels _ ds room (formed.picks labels there) are
deed_happens c least want stage v w ready head sorts ds room (formed.goes_assigned labels) are = assigned_branch_happens c least want v w ready labels _ ds room (formed.goes_assigned labels) are
deed_happens c least want stage v w ready head sorts ds room (formed.goes_by_sign below even above one other third) are =
    sign_happens c least want v w ready below even above _ ds room (formed.goes_by_sign below even above one other third) are
deed_happens c least want stage v w ready head sorts ds room (formed.guards form is) are = guard_happens c least want v w ready form _ ds room (formed.guards form is) are
deed_happens c least want stage v w ready head sorts ds room (formed.enters_arm line there marked) are = arm_happens c least want v w ready _ ds room (formed.enters_arm line there marked) are
deed_happens c least want stage v w ready head sorts ds room (formed.loops label there) are = loop_happens c least want v w ready label _ ds room (formed.loops label there) are
deed_happens c least want stage v w ready head sorts ds room (formed.tests_loop label line there takes terminal) are =
    test_happens c least want v w ready label _ ds room (formed.tests_loop label line there takes terminal) are
deed_happens c least want stage v w ready head sorts ds room (formed.calls x _ is passed) are = call_happens c least want v w ready x sorts ds room (formed.calls x sorts is passed) are
deed_happens c least want stage v w ready head sorts ds room formed.returns are = return_happens c least want v w ready _ ds room formed.returns are
deed_happens c least want stage v w ready head sorts ds room formed.returns_by are = return_happens c least want v w ready _ ds room formed.returns_by are
deed_happens c least want stage v w ready head sorts ds room (formed.stops text) are = stop_happens c least want v w ready text _ ds room (formed.stops text) are
deed_happens c least want stage v w ready head sorts ds room formed.ends are = end_happens c least want v w ready _ ds room formed.ends are
deed_happens c least want stage v w ready head sorts ds room (formed.begins way layout controls work _ sort words unit laid error end is) are =
    begin_happens c least want v w ready way layout controls work sorts ds room (formed.begins way layout controls work sorts sort words unit laid error end is) are
deed_happens c least want stage v w ready head sorts ds room (formed.uses_unit which controls _ words unit error end) are =
    auxiliary_happens c least want v w ready which controls sorts ds room (formed.uses_unit which controls sorts words unit error end) are
deed_happens c least want stage v w ready head sorts ds room (formed.transfers way rest sort listed is) are = transfer_happens c least want way v w ready rest _ ds room (formed.transfers way rest sort listed is) are
deed_happens c least want stage v w ready head sorts ds room (formed.repeats way items rest one other) are = repeat_happens c least want way v w ready items rest _ ds room (formed.repeats way items rest one other) are
deed_happens c least want stage v w ready head sorts ds room (formed.turns way items p left by given rest one placed other) are =
    item_turn_happens c least want way v w ready items p left by given rest _ ds room (formed.turns way items p left by given rest one placed other) are
deed_happens c least want stage v w ready head sorts ds room (formed.finishes way) are = finish_happens c least want way v w ready _ ds room (formed.finishes way) are

-- a statement whose operands come to values, to an act, or to a call
valued_happens : (c : Facts) (least : ℕ) (want : Wanted) (stage : Option Direction) (v : View) (w : World) → IsReady c least want stage v w → suc v.at < length c.program.lines →
    (head : Head) (sorts : List Sort) → Takes c (length w.store) v.at stage head sorts → (r : Red (List Datum) Terms) →
    Meant c (length w.store) (AreOf (length w.store) sorts) (λ rest. AreTyped c (length w.store) [] rest sorts) r → Happens c least want stage v w (valued c v w head r)
unfolding valued Meant
valued_happens c least want stage v w ready room head sorts takes (Valued ds) are = deed_happens c least want stage v w ready head sorts ds room takes are
valued_happens c least want stage v w ready room head sorts takes (Bad reason) named = holding.it_breaks reason named
valued_happens c least want stage v w ready room head sorts takes (Asks callee ds rest) (reference, typed) =
    reference_happens c least want stage v w ready head callee ds rest reference
    (λ d is. holding.doing stage (On head (rest d)) (formed.on stage head (rest d) sorts takes (typed d is)) (holding.before_end (On head (rest d)) room))

-- what is done next, in its own words
stepped_by : (c : Facts) (least : ℕ) (want : Wanted) (stage : Option Direction) (v : View) (w : World) → IsReady c least want stage v w →
    (form : Form) → formed.IsFormed c (length w.store) v.at stage form → HasRoom c.program v.at form → Happens c least want stage v w (doing c v w form)
unfolding doing valued deed reduce_all answer
stepped_by c least want stage v w ready form formed.passes (holding.before_end _ room) = onward_happens c least want v w ready room
stepped_by c least want stage v w ready form (formed.on _ head operands sorts takes typed) (holding.before_end _ room) =
    valued_happens c least want stage v w ready room head sorts takes (reduce_all c v.frame w.store [] operands)
    (each_list c v.frame w.store ready.holding.sound [] [] none_of operands sorts typed)
stepped_by c least want stage v w ready form (formed.on _ head operands sorts formed.ends typed) holding.at_end = ended_happens c least want v w ready

step_now : (c : Facts) (least : ℕ) (want : Wanted) (stage : Option Direction) (v : View) (w : World) → IsReady c least want stage v w →
    (now : Now) → IsNext c (length w.store) v stage now → now ≡ v.now → Happens c least want stage v w (step c v w)
unfolding step
step_now c least want stage v w ready now (holding.doing _ form is room) same =
    subst (λ n. Happens c least want stage v w (elim n [ Doing f ↦ doing c v w f | Turning ↦ turned c v w v.loops | _ ↦ Breaks NoMeaning ])) same
    (stepped_by c least want stage v w ready form is room)
step_now c least want stage v w ready now (holding.turning first last p left by given rounds loops) same =
    subst (λ n. Happens c least want stage v w (elim n [ Doing f ↦ doing c v w f | Turning ↦ turned c v w v.loops | _ ↦ Breaks NoMeaning ])) same
    (turned_happens c least want v w ready first last p left by given rounds loops)

pub each_step : EachStepIsMeant
each_step c least want stage v w ready next = step_now c least want stage v w ready v.now next refl
