-- A procedure answers, by RETURN or by END, and its caller goes on with the answer, with storage as high as at the call.
use Rattle.std.specs.Prelude.{◌≡◌, ℕ, zero, suc, ◌<◌, ◌≤◌, ℤ, pos, negsuc, List, [], ◌∷◌, length, Option, Some, None, slice_get}
use Rattle.std.proofs.Common.{refl, sym, subst, arith, le_of_eq}
use Rattle.std.proofs.lemmas.List.{length-take-le}
use Rattle.f_tree.specs.simulation.Machine.{Enters}
use Rattle.f_tree.specs.declared.names.Basic.{Basic}
use Rattle.f_tree.specs.Values.{Spot, Datum, IsSpot, IsLabel, Nothing, NoResult, Checked, Gives, Fails}
use Rattle.f_tree.specs.Terms.{Wanted, AsSubroutine, AsFunction}
use Rattle.f_tree.specs.Store.{fetch}
use Rattle.f_tree.specs.Facts.{UnitKind, Direction, ToReturn, ToEnd, Form, Facts}
use Rattle.f_tree.specs.World.{World, View, Now, Doing, entered}
use Rattle.f_tree.specs.Places.{passed, gone_to}
use Rattle.f_tree.specs.Association.{cut_to, alternate_of, result_given, result_from, answer, returned, resumed_by, resume}
use Rattle.f_tree.specs.Step.{deed}
use Rattle.f_tree.specs.Setting.{IsIn, first_in, later_in}
use Rattle.f_tree.specs.WellTyped as typed
use Rattle.f_tree.specs.WellTyped.{ValueOf, PlaceOf, IsOf, AreOf, Answers, is_named, IsAnswer, IsValued}
use Rattle.f_tree.specs.WellFormed as formed
use Rattle.f_tree.specs.WellFormed.{HasStatement, Takes, IsWellFormed}
use Rattle.f_tree.specs.Holding as holding
use Rattle.f_tree.specs.Holding.{Serves, IsHolding, IsNext, IsActive, IsWaiting, IsReply, Happens, IsReady, DeedHappens, Resumes, EachAnswerIsMeant}
use Rattle.fortran_totality.proofs.MeantLemmas.{fetch_meant}
use Rattle.fortran_totality.proofs.ReachLemmas.{IsActiveIn, passed_active, gone_active}
use Rattle.fortran_totality.proofs.ScaleLemmas.{of_more}

-- what a list has at a place is in it
pub in_list : {A : Type 0} (xs : List A) (n : ℕ) (x : A) → slice_get xs n ≡ Some x → IsIn x xs
in_list [] n x is = absurd (cc)
in_list (y ∷ ys) zero x is = let same : y ≡ x = cc in subst (λ z. IsIn z (y ∷ ys)) same first_in
in_list (y ∷ ys) (suc n) x is = later_in (in_list ys n x is)

-- the label of an alternate return is one of the frame's, or there is none
pub label_reply : (labels : List ℕ) (found : Option ℕ) → ((label : ℕ) → found ≡ Some label → IsIn label labels) →
    IsReply (λ label. IsIn label labels) AsSubroutine (elim found [ None ↦ Nothing | Some l ↦ IsLabel l ])
label_reply labels None within = holding.no_reply
label_reply labels (Some label) within = holding.a_label label (within label refl)

pub alternate_reply : (labels : List ℕ) (z : ℤ) → IsReply (λ label. IsIn label labels) AsSubroutine (alternate_of labels z)
unfolding alternate_of
alternate_reply labels (pos zero) = holding.no_reply
alternate_reply labels (pos (suc n)) = label_reply labels (slice_get labels n) (λ label is. in_list labels n label is)
alternate_reply labels (negsuc n) = holding.no_reply

-- a function answers the value of its result, if it has one
pub result_happens : (c : Facts) (least : ℕ) (v : View) (w : World) (basic : Basic) (width : ℕ) (r : Checked Datum) → Answers (IsOf 0 (ValueOf basic)) r →
    v.frame.base ≤ length w.store → Happens c least (AsFunction basic width) None v w (result_given v.frame w r)
unfolding result_given Answers is_named cut_to
result_happens c least v w basic width (Gives d) of high =
    holding.it_answers (cut_to v.frame.base w) d refl (le_of_eq (sym (length-take-le v.frame.base w.store high))) refl (holding.a_value basic width d of)
result_happens c least v w basic width (Fails act) of high = holding.it_breaks NoResult refl

pub from_result : (c : Facts) (least : ℕ) (v : View) (w : World) (basic : Basic) (width : ℕ) (p : Spot) → IsValued basic → IsOf (length w.store) (PlaceOf basic) (IsSpot p) →
    v.frame.base ≤ length w.store → Happens c least (AsFunction basic width) None v w (result_from v.frame w (Some p))
unfolding result_from
from_result c least v w basic width p valued (typed.place _ _ is within) high =
    result_happens c least v w basic width (fetch w.store p) (fetch_meant w.store 0 p basic valued is within) high

-- a procedure that serves as it was called answers as is wanted
pub answer_happens : (c : Facts) (least : ℕ) (want : Wanted) (v : View) (w : World) (kind : UnitKind) (d : Datum) → Serves kind v.frame (length w.store) want →
    v.frame.base ≤ length w.store → IsReply (λ label. IsIn label v.frame.alternates) AsSubroutine d → Happens c least want None v w (answer kind v w d)
unfolding answer
answer_happens c least want v w kind d (holding.as_main is) high reply =
    subst (λ k. Happens c least AsSubroutine None v w (answer k v w d)) (sym is) (holding.it_answers w Nothing refl high refl holding.no_reply)
answer_happens c least want v w kind d (holding.as_subroutine is) high reply =
    subst (λ k. Happens c least AsSubroutine None v w (answer k v w d)) (sym is) (holding.it_answers w d refl high refl reply)
answer_happens c least want v w kind d (holding.as_function basic width p is valued result placed) high reply =
    subst (λ k. Happens c least (AsFunction basic width) None v w (answer k v w d)) (sym is)
    (subst (λ o. Happens c least (AsFunction basic width) None v w (result_from v.frame w o)) (sym result) (from_result c least v w basic width p valued placed high))

pub ready_answer : (c : Facts) (least : ℕ) (want : Wanted) (v : View) (w : World) → IsReady c least want None v w → (d : Datum) →
    IsReply (λ label. IsIn label v.frame.alternates) AsSubroutine d → Happens c least want None v w (answer c.program.kind v w d)
ready_answer c least want v w ready d reply = answer_happens c least want v w c.program.kind d ready.holding.serves ready.holding.high reply

-- RETURN, with the number of an alternate return and without it, and END
pub return_happens : (c : Facts) (least : ℕ) (want : Wanted) (v : View) (w : World) → IsReady c least want None v w → DeedHappens c least want None v w ToReturn
unfolding deed
return_happens c least want v w ready sorts ds room formed.returns typed.none_of = ready_answer c least want v w ready Nothing holding.no_reply
return_happens c least want v w ready sorts ds room formed.returns_by (typed.more_of _ _ _ _ (typed.integer z) typed.none_of) =
    ready_answer c least want v w ready (alternate_of v.frame.alternates z) (alternate_reply v.frame.alternates z)

pub ended_happens : (c : Facts) (least : ℕ) (want : Wanted) (v : View) (w : World) → IsReady c least want None v w → Happens c least want None v w (deed c v w ToEnd [])
unfolding deed
ended_happens c least want v w ready = ready_answer c least want v w ready Nothing holding.no_reply

pub end_happens : (c : Facts) (least : ℕ) (want : Wanted) (v : View) (w : World) → IsReady c least want None v w → DeedHappens c least want None v w ToEnd
end_happens c least want v w ready sorts ds room formed.ends typed.none_of = ended_happens c least want v w ready

-- a reply is what the reference asks for
pub reply_answers : (labels : ℕ → Type 0) (count : ℕ) (asked : Wanted) (d : Datum) → IsReply labels asked d → IsAnswer count asked d
unfolding IsAnswer
reply_answers labels count asked d holding.no_reply = tt
reply_answers labels count asked d (holding.a_label label is) = tt
reply_answers labels count asked d (holding.a_value basic width _ of) = of_more 0 count (omega arith) (ValueOf basic) d of

-- what comes next does not hang on what came before it
pub next_kept : (c : Facts) (count : ℕ) (v : View) (stage : Option Direction) (next now : Now) → IsNext c count v stage next →
    IsNext c count (record v { now = now }) stage next
next_kept c count v stage next now (holding.doing _ form is room) = holding.doing stage form is room
next_kept c count v stage next now (holding.turning first last p left by given rounds is) = holding.turning first last p left by given rounds is

pub held_with : (c : Facts) (least : ℕ) (want : Wanted) (count : ℕ) (v : View) (now : Now) → IsHolding c least want count v →
    IsHolding c least want count (record v { now = now })
held_with c least want count v now h = record { sound = h.sound; rounds = h.rounds; serves = h.serves; low = h.low; high = h.high }

-- a statement goes on with the value of its reference
pub value_resumes : (c : Facts) (least : ℕ) (want : Wanted) (count : ℕ) (stage : Option Direction) (v : View) (form : Form) (w : World) → IsHolding c least want count v →
    IsNext c count v stage (Doing form) → count ≤ length w.store →
    Resumes c least want count stage v w (Enters (record v { now = Doing form }) (cut_to count w))
unfolding cut_to
value_resumes c least want count stage v form w held next upto =
    holding.it_resumes (record v { now = Doing form }) (cut_to count w) refl (length-take-le count w.store upto) refl
    (record { holding = held_with c least want count v (Doing form) held; next = next_kept c count v stage (Doing form) (Doing form) next })

-- a CALL is behind, or its alternate return is taken
pub entered_resumes : (c : Facts) (least : ℕ) (want : Wanted) (count : ℕ) (v : View) (w : World) (r : Checked View) → Answers (IsActiveIn c least want count v.frame) r →
    count ≤ length w.store → Resumes c least want count None v w (entered r (cut_to count w))
unfolding entered Answers cut_to
entered_resumes c least want count v w (Gives v') reached upto = holding.it_resumes v' (cut_to count w) reached.0 (length-take-le count w.store upto) refl reached.1
entered_resumes c least want count v w (Fails act) reached upto = holding.it_is_refused act reached

pub return_resumes : (c : Facts) (least : ℕ) (want asked : Wanted) (count : ℕ) (actuals : List Datum) (v : View) (d : Datum) (w : World) → IsWellFormed c least →
    IsHolding c least want count v → asked ≡ AsSubroutine → suc v.at < length c.program.lines →
    ((label : ℕ) → IsIn (IsLabel label) actuals → HasStatement c.program label) → count ≤ length w.store →
    IsReply (λ label. IsIn (IsLabel label) actuals) asked d → Resumes c least want count None v w (returned c v d (cut_to count w))
unfolding returned
return_resumes c least want asked count actuals v d w formed held is room stands upto holding.no_reply =
    entered_resumes c least want count v w (passed c.program v.frame v.loops v.at) (passed_active c least want count v v.at formed held room) upto
return_resumes c least want asked count actuals v d w formed held is room stands upto (holding.a_label label among) =
    entered_resumes c least want count v w (gone_to c.program v.frame v.loops label) (gone_active c least want count v label formed held (stands label among)) upto
return_resumes c least want asked count actuals v d w formed held is room stands upto (holding.a_value basic width _ of) = absurd (cc)

pub waiting_resumes : (c : Facts) (least : ℕ) (want asked : Wanted) (count : ℕ) (stage : Option Direction) (actuals : List Datum) (v : View) (now : Now) (d : Datum) (w : World) →
    IsWellFormed c least → IsHolding c least want count v → IsWaiting c count actuals v stage asked now → count ≤ length w.store →
    IsReply (λ label. IsIn (IsLabel label) actuals) asked d → Resumes c least want count stage v w (resumed_by c v now d w)
unfolding resumed_by
waiting_resumes c least want asked count stage actuals v now d w formed held (holding.for_value _ _ rest next) upto reply =
    value_resumes c least want count stage v (rest d) w held (next d (reply_answers (λ label. IsIn (IsLabel label) actuals) count asked d reply)) upto
waiting_resumes c least want asked count stage actuals v now d w formed held (holding.for_return room stands) upto reply =
    return_resumes c least want AsSubroutine count actuals v d w formed held refl room stands upto reply

-- HOW A PROCEDURE GOES ON WITH AN ANSWER
pub each_answer : EachAnswerIsMeant
unfolding resume
each_answer c least want asked count stage actuals v d w formed held waiting upto reply =
    waiting_resumes c least want asked count stage actuals v v.now d w formed held waiting upto reply
