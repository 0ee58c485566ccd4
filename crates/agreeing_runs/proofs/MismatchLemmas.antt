-- No state of a run of units whose statements agree with the procedures of the set is mismatched.
use Rattle.std.specs.Prelude.{◌≡◌, ℕ, true, false, List, [], length, Some, None}
use Rattle.std.proofs.Common.{refl, sym, ap, ◌∙◌, subst}
use Rattle.fortran_totality.specs.f_tree.declared.names.Basic.TheVariants.{Integer, Logical, Character, Untyped}
use Rattle.fortran_totality.specs.f_tree.declared.names.Class.TheVariants as class
use Rattle.fortran_totality.specs.f_tree.simulation.Machine.{Calls, Breaks}
use Rattle.fortran_totality.specs.f_tree.Values.{Bytes, Datum, NoMeaning, Checked, Gives, Fails}
use Rattle.fortran_totality.specs.f_tree.Terms.{Wanted, AsSubroutine, AsFunction, Terms}
use Rattle.fortran_totality.specs.f_tree.Facts.{Head, ToCall, Form, Passes, On, ProgramUnit, Facts}
use Rattle.fortran_totality.specs.f_tree.World.{World, View, Now, Doing, Turning, Waits, Returning, Called, Procedure, Passed, Happening}
use Rattle.fortran_totality.specs.f_tree.Valuing.{Red, Valued, Bad, Asks, reduce_all}
use Rattle.fortran_totality.specs.f_tree.Association.{Passing, passing, ready_for, procedure_named, called_as, call}
use Rattle.fortran_totality.specs.f_tree.Step.{deed, valued, doing, turned, step}
use Rattle.fortran_totality.specs.f_tree.Setting.{Setting}
use Rattle.fortran_totality.specs.f_tree.Meaning.{RunState, ftn}
use Rattle.fortran_totality.specs.f_tree.WellTyped.{Sort, AreOf, none_of, Meant, AreTyped, Sound, EachListIsMeant}
use Rattle.fortran_totality.specs.f_tree.Holding.{EachStepIsMeant, EachStartIsMeant, EachAnswerIsMeant}
use Rattle.fortran_totality.proofs.RunLemmas.{texts}
use Rattle.agreeing_runs.specs.Mismatches.{differs, IsProcedure, name_of_call, name_called, CallsAmiss, IsMismatched, at_call}
use Rattle.agreeing_runs.specs.AgreeingForms.{TermsAgree, HeadAgrees, FormAgrees, EachAgreeingRunAgrees}
use Rattle.agreeing_runs.proofs.OperandLemmas.{AsksWell, Kept, terms_kept}
use Rattle.agreeing_runs.proofs.PlaceLemmas.{NowHas}
use Rattle.agreeing_runs.proofs.RunLemmas.{RunAgrees, it_runs, it_is_over, it_is_broken, each_state}

-- WHAT IS PASSED
record PassesAs (want : Wanted) (p : Passing) (q : Passed) : Type 0 where
  want_is : q.want ≡ want
  actuals_are : q.actuals ≡ p.actuals

abbrev SameEvent : Happening → Happening → Type 0
SameEvent one other = one ≡ other

passed_is : (a b : View) (w x : World) (name other : Called) (p q : Passed) → SameEvent (Calls a w name p) (Calls b x other q) → p ≡ q
passed_is a b w x name other p q is = cc

as_passed : (want : Wanted) (p : Passing) (r q : Passed) → r.want ≡ want → r.actuals ≡ p.actuals → r ≡ q → PassesAs want p q
as_passed want p r q of_want of_actuals same = record { want_is = ap (λ (z : Passed). z.want) (sym same) ∙ of_want; actuals_are = ap (λ (z : Passed). z.actuals) (sym same) ∙ of_actuals }

ready_passes : (want : Wanted) (p : Passing) (w ready : World) (v waiting : View) (name other : Called) (q : Passed) →
    SameEvent (ready_for want p w v name) (Calls waiting ready other q) → PassesAs want p q
unfolding ready_for
ready_passes AsSubroutine p w ready v waiting name other q is = as_passed AsSubroutine p _ q refl refl (passed_is v waiting _ ready name other _ q is)
ready_passes (AsFunction Character width) p w ready v waiting name other q is =
    as_passed (AsFunction Character width) p _ q refl refl (passed_is v waiting _ ready name other _ q is)
ready_passes (AsFunction Integer width) p w ready v waiting name other q is =
    as_passed (AsFunction Integer width) p _ q refl refl (passed_is v waiting _ ready name other _ q is)
ready_passes (AsFunction Logical width) p w ready v waiting name other q is =
    as_passed (AsFunction Logical width) p _ q refl refl (passed_is v waiting _ ready name other _ q is)
ready_passes (AsFunction Untyped width) p w ready v waiting name other q is =
    as_passed (AsFunction Untyped width) p _ q refl refl (passed_is v waiting _ ready name other _ q is)

called_passes : (r : Checked Bytes) (want : Wanted) (p : Passing) (w ready : World) (v waiting : View) (other : Called) (q : Passed) →
    SameEvent (called_as r want p w v) (Calls waiting ready other q) → PassesAs want p q
unfolding called_as
called_passes (Gives name) want p w ready v waiting other q is = ready_passes want p w ready v waiting (Procedure name) other q is
called_passes (Fails act) want p w ready v waiting other q is = absurd (cc)

-- WHAT A STEP CALLS
record CallsWell (S : List ProgramUnit) (c : Facts) (v : View) (w : World) (name : Bytes) : Type 0 where
  want : Wanted
  actuals : List Datum
  waits : ℕ → Now
  step_is : step c v w ≡ call c v w (record { name = name; want = want }) actuals waits
  well : AsksWell S c (length w.store) (record { name = name; want = want }) actuals

named_so : (x name : Bytes) → Some x ≡ Some name → x ≡ name
named_so x name is = cc

module _ (lists : EachListIsMeant) (S : List ProgramUnit) (c : Facts) (v : View) (w : World) (sound : Sound c v.frame (length w.store)) where
  calls_by : (x name : Bytes) (want : Wanted) (ds : List Datum) (waits : ℕ → Now) → x ≡ name → step c v w ≡ call c v w (record { name = x; want = want }) ds waits →
      AsksWell S c (length w.store) (record { name = x; want = want }) ds → CallsWell S c v w name
  calls_by x name want ds waits same is well =
      subst (λ z. CallsWell S c v w z) same (record { want = want; actuals = ds; waits = waits; step_is = is; well = well })

  operands_are : (operands : Terms) (ds : List Datum) (sorts : List Sort) → reduce_all c v.frame w.store [] operands ≡ Valued ds →
      AreTyped c (length w.store) [] operands sorts → AreOf (length w.store) sorts ds
  unfolding Meant
  operands_are operands ds sorts is typed =
      subst (λ z. Meant c (length w.store) (AreOf (length w.store) sorts) (λ rest. AreTyped c (length w.store) [] rest sorts) z) is
      (lists c v.frame w.store sound [] [] none_of operands sorts typed)

  head_calls : (head : Head) (operands : Terms) (ds : List Datum) (name : Bytes) → reduce_all c v.frame w.store [] operands ≡ Valued ds →
      HeadAgrees S c (length w.store) head operands → name_of_call head (Valued ds) ≡ Some name → step c v w ≡ deed c v w head ds → CallsWell S c v w name
  unfolding name_of_call deed HeadAgrees
  head_calls (ToCall x) operands ds name is suits named steps =
      calls_by x name AsSubroutine ds Returning (named_so x name named) steps
      (record { sorts = suits.sorts; operands = operands_are operands ds suits.sorts is suits.typed; agrees = suits.agrees })
  head_calls _ operands ds name is suits named steps = absurd (cc)

  red_calls : (head : Head) (operands : Terms) (r : Red (List Datum) Terms) (name : Bytes) → reduce_all c v.frame w.store [] operands ≡ r →
      HeadAgrees S c (length w.store) head operands → Kept S c (length w.store) (TermsAgree S c (length w.store) []) r → name_of_call head r ≡ Some name →
      step c v w ≡ valued c v w head r → CallsWell S c v w name
  unfolding name_of_call valued Kept
  red_calls head operands (Valued ds) name is has kept named steps = head_calls head operands ds name is has named steps
  red_calls (ToCall x) operands (Bad act) name is has kept named steps = absurd (cc)
  red_calls _ operands (Bad act) name is has kept named steps = absurd (cc)
  red_calls head operands (Asks callee ds rest) name is has kept named steps =
      calls_by callee.name name callee.want ds (λ height. Waits height (λ d. On head (rest d))) (named_so callee.name name named) steps kept.0

  form_calls : (form : Form) (name : Bytes) → FormAgrees S c (length w.store) form → v.now ≡ Doing form → name_called c v w ≡ Some name → CallsWell S c v w name
  unfolding name_called FormAgrees step doing
  form_calls Passes name has is named =
      absurd (let bad : None ≡ Some name = sym (ap (λ now. elim now [
        | Doing form ↦ (elim form [ On head operands ↦ name_of_call head (reduce_all c v.frame w.store [] operands) | Passes ↦ None ])
        | _ ↦ None
      ]) is) ∙ named in cc)
  form_calls (On head operands) name has is named =
      red_calls head operands (reduce_all c v.frame w.store [] operands) name refl has.0 (terms_kept lists S c v.frame w.store sound [] [] none_of operands has.1)
      (sym (ap (λ now. elim now [
        | Doing form ↦ (elim form [ On head operands ↦ name_of_call head (reduce_all c v.frame w.store [] operands) | Passes ↦ None ])
        | _ ↦ None
      ]) is) ∙ named)
      (ap (λ now. elim now [ Doing form ↦ doing c v w form | Turning ↦ turned c v w v.loops | _ ↦ Breaks NoMeaning ]) is)

  now_calls : (now : Now) (name : Bytes) → NowHas (FormAgrees S c (length w.store)) now → v.now ≡ now → name_called c v w ≡ Some name → CallsWell S c v w name
  unfolding name_called NowHas
  now_calls (Doing form) name has is named = form_calls form name has is named
  now_calls Turning name has is named =
      absurd (let bad : None ≡ Some name = sym (ap (λ now. elim now [
        | Doing form ↦ (elim form [ On head operands ↦ name_of_call head (reduce_all c v.frame w.store [] operands) | Passes ↦ None ])
        | _ ↦ None
      ]) is) ∙ named in cc)
  now_calls (Waits height rest) name has is named =
      absurd (let bad : None ≡ Some name = sym (ap (λ now. elim now [
        | Doing form ↦ (elim form [ On head operands ↦ name_of_call head (reduce_all c v.frame w.store [] operands) | Passes ↦ None ])
        | _ ↦ None
      ]) is) ∙ named in cc)
  now_calls (Returning height) name has is named =
      absurd (let bad : None ≡ Some name = sym (ap (λ now. elim now [
        | Doing form ↦ (elim form [ On head operands ↦ name_of_call head (reduce_all c v.frame w.store [] operands) | Passes ↦ None ])
        | _ ↦ None
      ]) is) ∙ named in cc)

  -- a step that calls by a direct name agrees with the procedure
  well_called : (name : Bytes) → CallsWell S c v w name → ((c.program.attribute name).class ≡ class.DummyProcedure → ⊥) → (p : IsProcedure S name) →
      (waiting : View) (ready : World) (q : Passed) → step c v w ≡ Calls waiting ready (Procedure name) q → differs p.unit p.entry q.want q.actuals ≡ false
  unfolding call
  well_called name well direct p waiting ready q calls =
      let passes : PassesAs well.want (passing w.store well.actuals) q =
      called_passes (procedure_named v.frame name (c.program.attribute name)) well.want (passing w.store well.actuals) w ready
      (record v { now = well.waits (length w.store) }) waiting (Procedure name) q (sym well.step_is ∙ calls) in
      subst (λ z. differs p.unit p.entry z q.actuals ≡ false) (sym passes.want_is)
      (subst (λ ds. differs p.unit p.entry well.want ds ≡ false) (sym passes.actuals_are)
      (well.well.agrees direct p (length w.store) w.store well.actuals well.well.operands))

  pub never_amiss : NowHas (FormAgrees S c (length w.store)) v.now → CallsAmiss S c v w → ⊥
  never_amiss has amiss =
      absurd (let bad : true ≡ false = sym amiss.amiss ∙
      well_called amiss.name (now_calls v.now amiss.name has refl amiss.named) amiss.direct amiss.procedure amiss.waiting amiss.ready amiss.passed amiss.calls in cc)

never_mismatched : EachListIsMeant → (g : Setting) (S : List ProgramUnit) (least : ℕ) (x : RunState) → RunAgrees S (texts g S) least x → IsMismatched g S x → ⊥
never_mismatched lists g S least x (it_runs k v below w want stage actuals ready is_next knows waiting has) (at_call _ _ _ _ amiss) =
    never_amiss lists S (texts g S k) v w ready.holding.sound has amiss
never_mismatched lists g S least x (it_is_over e frames w) mismatched = elim mismatched [ ]
never_mismatched lists g S least x (it_is_broken reason ks) mismatched = elim mismatched [ ]

pub runs_agree : EachListIsMeant → EachStepIsMeant → EachStartIsMeant → EachAnswerIsMeant → EachAgreeingRunAgrees
runs_agree lists steps starts answers g S units n formed agree mismatched =
    never_mismatched lists g S (length g.sizes) (ftn g S units n) (each_state lists steps starts answers g S formed agree units n) mismatched
