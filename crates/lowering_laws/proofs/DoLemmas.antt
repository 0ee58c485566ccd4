-- The start of a DO and its turns: each is one step of FORTRAN, and two or three of the text.
use Rattle.std.specs.Prelude.{◌≡◌, ℕ, zero, suc, ◌+◌, ◌-◌, ◌≤◌, max, ℤ, pos, ◌+ℤ◌, ◌-ℤ◌, int_div, Bool, true, false, List, [], ◌∷◌, Option, Some, None, slice_get, if◌then◌else◌}
use Rattle.std.specs.Ordering.{int_eq}
use Rattle.std.proofs.Common.{refl, sym, ap, ◌∙◌, subst, arith, true≢false}
use Rattle.fortran_laws.specs.simulation.Machine.{Goes, Breaks}
use Rattle.fortran_laws.specs.simulation.LocalSimulation.{last, more}
use Rattle.fortran_laws.specs.f_tree.Values as value
use Rattle.fortran_laws.specs.f_tree.Values.{Spot, Datum, IsInt, IsLog, IsSpot, Checked, Gives, Fails, given_that, checked}
use Rattle.fortran_laws.specs.f_tree.Terms.{Add, Terms}
use Rattle.fortran_laws.specs.f_tree.Store.{Store, fetch, define}
use Rattle.fortran_laws.specs.f_tree.Facts.{ToLoop, Form, On, Line, Facts, Frame, Passes}
use Rattle.fortran_laws.specs.f_tree.Nests.{Range, open_at}
use Rattle.fortran_laws.specs.f_tree.World as fortran
use Rattle.fortran_laws.specs.f_tree.World.{World, Round, RoundKind, While, Counted, Ending, Happening, proceeding}
use Rattle.fortran_laws.specs.f_tree.Places.{terminal_of, arrived, passed}
use Rattle.fortran_laws.specs.f_tree.Step.{turns_of, turns, at_least_once, looped, loop_stored, loop_begun, deed, Grown, grown, turned_with}
use Rattle.lowering.specs.l_core.Pures.{Pure, Load, Operated, Pures, NoPure, AndPure, Temporaries, meant, all_meant}
use Rattle.lowering.specs.l_core.Steps.{Step, Put, Unless, Again, AgainIf, Text}
use Rattle.lowering.specs.l_core.Machine.{Doing, step, done, storing, put_at, testing, to, onward}
use Rattle.lowering.specs.l_core.Costs.{cost}
use Rattle.lowering.specs.Expressions.{Lowered}
use Rattle.lowering.specs.Statements.{loop_operands, test_by, loop_test, turn_code, back_by}
use Rattle.lowering.specs.Units.{free_at, is_counted, loop_lowered, turn_size, turn_of, way_back, own_end, loop_exit, own_start}
use Rattle.lowering_laws.specs.Walks.{Spans, at_step, Keeps, SameBelow}
use Rattle.lowering_laws.specs.Midway.{LoopLast, LoopComes}
use Rattle.lowering_laws.specs.Layer.{Found, IsCalled, Leads, there, Arrives, plainly, ends_of, IsCounted, IsRound, AreRounds, IsLoop, IsLaidOut}
use Rattle.lowering_laws.proofs.WalkLemmas.{spans_one, spans_first, ordinary_by, same_refl, choose_true}
use Rattle.lowering_laws.proofs.CostLemmas.{Begins, WayOn, way_one, way_on, way_turn, leads_keep, begins_by, leads_up}
use Rattle.lowering_laws.proofs.PlaceLemmas.{Alike, lowered_is, arrives, passes_behind}
use Rattle.lowering_laws.proofs.TurnLemmas.{allows, turns_at, next_value}
use Rattle.lowering_laws.proofs.LoopLemmas.{put_fetched, grown_is, test_meant, sum_meant}

-- ## Four values

record FourValues (c : Facts) (f : Frame) (m : Temporaries) (s : Store) (p q r t : Pure) (ds : List Datum) : Type 0 where
  first : Datum
  second : Datum
  third : Datum
  fourth : Datum
  first_is : meant c f m s p ≡ Gives first
  second_is : meant c f m s q ≡ Gives second
  are : ds ≡ first ∷ second ∷ third ∷ fourth ∷ []

four_by : (c : Facts) (f : Frame) (m : Temporaries) (s : Store) (p q r t : Pure) (ds : List Datum) (x y z w : Checked Datum) → meant c f m s p ≡ x → meant c f m s q ≡ y →
    given_that x (λ d. given_that (given_that y (λ d. given_that (given_that z (λ d. given_that (given_that w (λ d. given_that (Gives []) (λ es. Gives (d ∷ es)))) (λ es. Gives (d ∷ es)))) (λ es. Gives (d ∷ es)))) (λ es. Gives (d ∷ es))) ≡ Gives ds →
    FourValues c f m s p q r t ds
unfolding given_that
four_by c f m s p q r t ds (Gives a) (Gives b) (Gives d) (Gives e) is is' all = record { first = a; second = b; third = d; fourth = e; first_is = is; second_is = is'; are = (let same : ds ≡ a ∷ b ∷ d ∷ e ∷ [] = cc in same) }
four_by c f m s p q r t ds (Gives a) (Gives b) (Gives d) (Fails act) is is' all = absurd (cc)
four_by c f m s p q r t ds (Gives a) (Gives b) (Fails act) w is is' all = absurd (cc)
four_by c f m s p q r t ds (Gives a) (Fails act) z w is is' all = absurd (cc)
four_by c f m s p q r t ds (Fails act) y z w is is' all = absurd (cc)

four_values : (c : Facts) (f : Frame) (m : Temporaries) (s : Store) (p q r t : Pure) (ds : List Datum) → all_meant c f m s (AndPure p (AndPure q (AndPure r (AndPure t NoPure)))) ≡ Gives ds → FourValues c f m s p q r t ds
unfolding all_meant
four_values c f m s p q r t ds is = four_by c f m s p q r t ds (meant c f m s p) (meant c f m s q) (meant c f m s r) (meant c f m s t) refl refl is

-- ## Steps

module _ (u : Text) (f : Frame) (h : ℕ) where
  put_step : (q : ℕ) (m : Temporaries) (w : World) (x p : Pure) (place : Spot) (d : Datum) (s : Store) → slice_get u.steps q ≡ Some (Put x p) → meant u.facts f m w.store p ≡ Gives d → meant u.facts f m w.store x ≡ Gives (IsSpot place) →
      define w.store place d ≡ Gives s → step u (at_step f h q m) w ≡ Goes (at_step f h (suc q) m) (record w { store = s })
  unfolding step done storing put_at given_that onward to
  put_step q m w x p place d s e is at put =
      ap (done u (at_step f h q m) w) e
      ∙ ap (λ y. storing (at_step f h q m) w (given_that y (λ d. given_that (meant u.facts f m w.store x) (λ r. put_at w.store r d)))) is
      ∙ ap (λ y. storing (at_step f h q m) w (given_that y (λ r. put_at w.store r d))) at
      ∙ ap (storing (at_step f h q m) w) put

  unless_step : (q n : ℕ) (m : Temporaries) (w : World) (p : Pure) (t : Bool) → slice_get u.steps q ≡ Some (Unless p n) → meant u.facts f m w.store p ≡ Gives (IsLog t) →
      step u (at_step f h q m) w ≡ Goes (at_step f h (if t then suc q else suc q + n) m) w
  unfolding step done testing to
  unless_step q n m w p true e is = ap (done u (at_step f h q m) w) e ∙ ap (testing (suc q) (suc q + n) (at_step f h q m) w) is
  unless_step q n m w p false e is = ap (done u (at_step f h q m) w) e ∙ ap (testing (suc q) (suc q + n) (at_step f h q m) w) is

  again_step : (q n b : ℕ) (m : Temporaries) (w : World) → slice_get u.steps q ≡ Some (Again n) → q - n ≡ b → step u (at_step f h q m) w ≡ Goes (at_step f h b m) w
  unfolding step done to
  again_step q n b m w e is = ap (done u (at_step f h q m) w) e ∙ ap (λ z. Goes (at_step f h z m) w) is

  again_if_step : (q n : ℕ) (m : Temporaries) (w : World) (p : Pure) (t : Bool) → slice_get u.steps q ≡ Some (AgainIf p n) → meant u.facts f m w.store p ≡ Gives (IsLog t) →
      step u (at_step f h q m) w ≡ Goes (at_step f h (if t then q - n else suc q) m) w
  unfolding step done testing to
  again_if_step q n m w p true e is = ap (done u (at_step f h q m) w) e ∙ ap (testing (q - n) (suc q) (at_step f h q m) w) is
  again_if_step q n m w p false e is = ap (done u (at_step f h q m) w) e ∙ ap (testing (q - n) (suc q) (at_step f h q m) w) is

-- ## The start of a DO

abbrev pub LoopStands : Text → ℕ → Option ℕ → ℕ → Type 0
LoopStands u i label n = (last : ℕ) → terminal_of u.facts.program i label ≡ Some last → IsLoop u i last × (ends_of u i + n ≡ loop_exit u.facts.program (record { first = i; last = last }))

-- what the text comes to behind any way to the start
pub record IsDone (u : Text) (f : Frame) (h : ℕ) (w : World) (cs : List ℕ) (q : ℕ) (m : Temporaries) (μ : Found) (ev : Happening) : Type 0 where
  pub event : Doing
  pub reach : (p r : ℕ) (m0 : Temporaries) → Begins u f h w cs p m0 r → Keeps u f h w r m0 q m → WayOn u f h w cs p m0 event
  pub alike : Alike u μ ⊥ ev event

module _ (u : Text) (laid : IsLaidOut u) (cs : List ℕ) (f : Frame) (h : ℕ) (μ : Found) (w : World) (same : w.transfer ≡ μ.transfer) (called : IsCalled u.facts.program.kind f μ) (i q : ℕ) (m : Temporaries) (now : fortran.Now)
    (rounds : List Round) (stand : AreRounds u f m (open_at u.facts.program i) rounds) (line : Line) (place : slice_get u.facts.program.lines i ≡ Some line) (low : u.begins i ≤ q)
    (label : Option ℕ) (operands : Terms) (form : line.form ≡ On (ToLoop label) operands) (x first limit by : Pure) (n : ℕ)
    (value' : (loop_operands (free_at u.facts.program i) operands).value ≡ AndPure x (AndPure first (AndPure limit (AndPure by NoPure))))
    (spans : Spans u q (Put x first ∷ loop_test u.facts.program.onetrip (test_by x limit by) n) (ends_of u i)) (stands : LoopStands u i label n) where
  by_one : (ev : Happening) → Alike u μ ⊥ ev (step u (at_step f h q m) w) → IsDone u f h w cs q m μ ev
  by_one ev alike =
      let one = spans_first u spans in
      record {
        event = step u (at_step f h q m) w;
        reach = λ p r m0 begins way. way_one u f h w cs (cost cs q) (step u (at_step f h q m) w) begins way (last refl refl) refl (ordinary_by u q (Put x first) one.0 tt);
        alike = alike;
      }

  -- the loop is entered, or left out
  entered : (w' : World) → w'.transfer ≡ μ.transfer → (last' : ℕ) → terminal_of u.facts.program i label ≡ Some last' → (p : Spot) (z l b : ℤ) (left at : ℕ) → int_eq b (pos 0) ≡ false → left ≡ suc (turns_of (int_div (l -ℤ z) b)) →
      LoopLast u.facts f (loop_operands (free_at u.facts.program i) operands).free m (loop_operands (free_at u.facts.program i) operands).value (IsSpot p ∷ IsInt z ∷ IsInt l ∷ IsInt b ∷ []) → at ≡ ends_of u i →
      Alike u μ ⊥ (proceeding (arrived u.facts.program f (record { first = i; last = last'; kind = Counted p left b z } ∷ rounds) (suc i)) w') (Goes (at_step f h at m) w')
  entered w' same' last' e p z l b left at some is lasts end =
      let loop' = stands last' e in
      let round : Round = record { first = i; last = last'; kind = Counted p left b z } in
      arrives u laid f h μ w' m same' called ⊥ (round ∷ rounds) (u.begins (suc i)) (suc i) at
      (subst (λ y. AreRounds u f m y (round ∷ rounds)) (sym loop'.0.open')
      (record { first = refl; last = refl; runs = record { line = line; label = label; operands = operands; there = place; is = form; ends = e; first = IsInt z; limit = l; lasts = lasts; steps_left = is; some_step = some } }, stand))
      (laid.before (suc i))
      (subst (λ y. Arrives u m y at (u.begins (suc i))) (end ∙ loop'.0.end) (plainly (omega arith) (subst (λ y. Leads u at y) (end ∙ loop'.0.end) there)))

  left_out : (w' : World) → w'.transfer ≡ μ.transfer → (last' at : ℕ) → terminal_of u.facts.program i label ≡ Some last' → at ≡ ends_of u i + n → u.begins i ≤ at →
      Alike u μ ⊥ (proceeding (passed u.facts.program f rounds last') w') (Goes (at_step f h at m) w')
  left_out w' same' last' at e end up =
      let loop' = stands last' e in
      passes_behind u laid f h μ w' m same' called ⊥ (open_at u.facts.program i) rounds (u.begins i) last' (loop_exit u.facts.program (record { first = i; last = last' })) at loop'.0.exit (laid.chain i) stand (laid.before i)
      (plainly up (subst (λ y. Leads u at y) (end ∙ loop'.1) there))

  max_one : (k : ℕ) → max (suc k) 1 ≡ suc k
  max_one k = omega arith

  module _ (p : Spot) (z l b : ℤ) (some : int_eq b (pos 0) ≡ false) (last' : ℕ) (e : terminal_of u.facts.program i label ≡ Some last') (s : Store) (put : define w.store p (IsInt z) ≡ Gives s)
      (first_is : meant u.facts f m w.store first ≡ Gives (IsInt z)) (x_is : meant u.facts f m w.store x ≡ Gives (IsSpot p))
      (lasts : LoopLast u.facts f (loop_operands (free_at u.facts.program i) operands).free m (loop_operands (free_at u.facts.program i) operands).value (IsSpot p ∷ IsInt z ∷ IsInt l ∷ IsInt b ∷ [])) where
    after : World
    after = record w { store = s }

    looped_to : ℕ → Happening
    looped_to k = looped u.facts (record { frame = f; at = i; now = now; loops = rounds }) (record w { store = s }) last' p z b k

    entered_at : (at k : ℕ) → k ≡ suc (turns_of (int_div (l -ℤ z) b)) → at ≡ ends_of u i → Alike u μ ⊥ (looped_to k) (Goes (at_step f h at m) (record w { store = s }))
    unfolding looped looped_to
    entered_at at k is end =
        subst (λ y. Alike u μ ⊥ (looped u.facts (record { frame = f; at = i; now = now; loops = rounds }) (record w { store = s }) last' p z b y) (Goes (at_step f h at m) (record w { store = s }))) (sym is)
        (entered (record w { store = s }) same last' e p z l b (suc (turns_of (int_div (l -ℤ z) b))) at some refl lasts end)

    left_at : (at k : ℕ) → k ≡ 0 → at ≡ ends_of u i + n → u.begins i ≤ at → Alike u μ ⊥ (looped_to k) (Goes (at_step f h at m) (record w { store = s }))
    unfolding looped looped_to
    left_at at k is end up =
        subst (λ y. Alike u μ ⊥ (looped u.facts (record { frame = f; at = i; now = now; loops = rounds }) (record w { store = s }) last' p z b y) (Goes (at_step f h at m) (record w { store = s }))) (sym is)
        (left_out (record w { store = s }) same last' at e end up)

    -- the limit, the step and the variable behind the first value
    tested : meant u.facts f m s (test_by x limit by) ≡ Gives (IsLog (allows z l b))
    tested =
        let lasts' = subst (λ ps. LoopLast u.facts f (loop_operands (free_at u.facts.program i) operands).free m ps (IsSpot p ∷ IsInt z ∷ IsInt l ∷ IsInt b ∷ [])) value' lasts in
        let here : SameBelow (loop_operands (free_at u.facts.program i) operands).free m m = same_refl (loop_operands (free_at u.facts.program i) operands).free m in
        test_meant u.facts f m s x limit p z l (lasts'.0 m s here) (put_fetched w.store p z s put) (lasts'.1.0 m s here) by b (lasts'.1.1.0 m s here)

    count_is : (once t : Bool) → allows z l b ≡ t → (t ≡ true → at_least_once once (turns z l b) ≡ suc (turns_of (int_div (l -ℤ z) b))) × (once ≡ true → at_least_once once (turns z l b) ≡ suc (turns_of (int_div (l -ℤ z) b))) ×
        (once ≡ false → t ≡ false → at_least_once once (turns z l b) ≡ 0)
    unfolding at_least_once turns
    count_is true true is =
        let count = turns_at z l b some in
        let one : max (turns_of (int_div ((l -ℤ z) +ℤ b) b)) 1 ≡ suc (turns_of (int_div (l -ℤ z) b)) = ap (λ k. max k 1) (count.some is) ∙ max_one (turns_of (int_div (l -ℤ z) b)) in
        (λ t. one, λ o. one, λ o. absurd (true≢false o))
    count_is true false is =
        let count = turns_at z l b some in
        let one : max (turns_of (int_div ((l -ℤ z) +ℤ b) b)) 1 ≡ suc (turns_of (int_div (l -ℤ z) b)) = ap (λ k. max k 1) (count.none is) ∙ ap suc (sym (count.rest is)) in
        (λ t. absurd (true≢false (sym t)), λ o. one, λ o. absurd (true≢false o))
    count_is false true is = let count = turns_at z l b some in (λ t. count.some is, λ o. absurd (true≢false (sym o)), λ o t. absurd (true≢false t))
    count_is false false is = let count = turns_at z l b some in (λ t. absurd (true≢false (sym t)), λ o. absurd (true≢false (sym o)), λ o t. count.none is)

    begun_once : (once : Bool) → once ≡ true → Spans u q (Put x first ∷ loop_test once (test_by x limit by) n) (ends_of u i) → IsDone u f h w cs q m μ (looped_to (at_least_once once (turns z l b)))
    unfolding loop_test
    begun_once false is spans' = absurd (true≢false (sym is))
    begun_once true is spans' =
        let one = spans_one u spans' in
        let put' = put_step u f h q m w x first p (IsInt z) s one.0 first_is x_is put in
        record {
          event = Goes (at_step f h (suc q) m) (record w { store = s });
          reach = λ p' r m0 begins way. way_one u f h w cs (cost cs q) (Goes (at_step f h (suc q) m) (record w { store = s })) begins way (last put' refl) refl (ordinary_by u q (Put x first) one.0 tt);
          alike = entered_at (suc q) (at_least_once true (turns z l b)) ((count_is true (allows z l b) refl).1 refl) (sym one.1);
        }

    begun_tested : (once : Bool) → once ≡ false → Spans u q (Put x first ∷ loop_test once (test_by x limit by) n) (ends_of u i) → (t : Bool) → allows z l b ≡ t → IsDone u f h w cs q m μ (looped_to (at_least_once once (turns z l b)))
    unfolding loop_test
    begun_tested true is spans' t allowed = absurd (true≢false is)
    begun_tested false is spans' t allowed =
        let one = spans_first u spans' in
        let two = spans_one u one.1 in
        let put' = put_step u f h q m w x first p (IsInt z) s one.0 first_is x_is put in
        let test' = unless_step u f h (suc q) n m (record w { store = s }) (test_by x limit by) t two.0 (tested ∙ ap (λ y. Gives (IsLog y)) allowed) in
        record {
          event = Goes (at_step f h (if t then suc (suc q) else suc (suc q) + n) m) (record w { store = s });
          reach = λ p' r m0 begins way.
              way_on u f h w cs (cost cs q + cost cs (suc q)) (Goes (at_step f h (if t then suc (suc q) else suc (suc q) + n) m) (record w { store = s })) begins way (more put' (last test' refl) refl) refl
              (ordinary_by u q (Put x first) one.0 tt) (ordinary_by u (suc q) (Unless (test_by x limit by) n) two.0 tt);
          alike = alike_by t allowed (sym two.1);
        }
      where
        alike_by : (t : Bool) → allows z l b ≡ t → suc (suc q) ≡ ends_of u i → Alike u μ ⊥ (looped_to (at_least_once false (turns z l b))) (Goes (at_step f h (if t then suc (suc q) else suc (suc q) + n) m) (record w { store = s }))
        alike_by true allowed' end = entered_at (suc (suc q)) (at_least_once false (turns z l b)) ((count_is false true allowed').0 refl) end
        alike_by false allowed' end = left_at (suc (suc q) + n) (at_least_once false (turns z l b)) ((count_is false false allowed').2 refl refl) (ap (λ y. y + n) end) (omega (arith, low))

    begun : (once : Bool) → u.facts.program.onetrip ≡ once → IsDone u f h w cs q m μ (looped_to (at_least_once u.facts.program.onetrip (turns z l b)))
    begun true is = begun_once u.facts.program.onetrip is spans
    begun false is = begun_tested u.facts.program.onetrip is spans (allows z l b) refl

  stored_to : (p : Spot) (z l b : ℤ) → int_eq b (pos 0) ≡ false → (last' : ℕ) → terminal_of u.facts.program i label ≡ Some last' → meant u.facts f m w.store first ≡ Gives (IsInt z) → meant u.facts f m w.store x ≡ Gives (IsSpot p) →
      LoopLast u.facts f (loop_operands (free_at u.facts.program i) operands).free m (loop_operands (free_at u.facts.program i) operands).value (IsSpot p ∷ IsInt z ∷ IsInt l ∷ IsInt b ∷ []) → (y : Checked Store) → define w.store p (IsInt z) ≡ y →
      IsDone u f h w cs q m μ (loop_stored u.facts (record { frame = f; at = i; now = now; loops = rounds }) w last' p z b (at_least_once u.facts.program.onetrip (turns z l b)) y)
  unfolding loop_stored looped_to
  stored_to p z l b some last' e first_is x_is lasts (Fails act) put = by_one (Breaks act) tt
  stored_to p z l b some last' e first_is x_is lasts (Gives s) put = begun p z l b some last' e s put first_is x_is lasts u.facts.program.onetrip refl

  step_some : (p : Spot) (z l b : ℤ) (t : Bool) → int_eq b (pos 0) ≡ t → (last' : ℕ) → terminal_of u.facts.program i label ≡ Some last' → meant u.facts f m w.store first ≡ Gives (IsInt z) → meant u.facts f m w.store x ≡ Gives (IsSpot p) →
      LoopLast u.facts f (loop_operands (free_at u.facts.program i) operands).free m (loop_operands (free_at u.facts.program i) operands).value (IsSpot p ∷ IsInt z ∷ IsInt l ∷ IsInt b ∷ []) →
      IsDone u f h w cs q m μ (if t then Breaks value.ZeroStep
      else loop_stored u.facts (record { frame = f; at = i; now = now; loops = rounds }) w last' p z b (at_least_once u.facts.program.onetrip (turns z l b)) (define w.store p (IsInt z)))
  step_some p z l b true is last' e first_is x_is lasts = by_one (Breaks value.ZeroStep) tt
  step_some p z l b false is last' e first_is x_is lasts = stored_to p z l b is last' e first_is x_is lasts (define w.store p (IsInt z)) refl

  begun_by : (p : Spot) (z l b : ℤ) (y : Option ℕ) → terminal_of u.facts.program i label ≡ y → meant u.facts f m w.store first ≡ Gives (IsInt z) → meant u.facts f m w.store x ≡ Gives (IsSpot p) →
      LoopLast u.facts f (loop_operands (free_at u.facts.program i) operands).free m (loop_operands (free_at u.facts.program i) operands).value (IsSpot p ∷ IsInt z ∷ IsInt l ∷ IsInt b ∷ []) →
      IsDone u f h w cs q m μ (loop_begun u.facts (record { frame = f; at = i; now = now; loops = rounds }) w y p z l b)
  unfolding loop_begun
  begun_by p z l b None e first_is x_is lasts = by_one (Breaks value.NoMeaning) tt
  begun_by p z l b (Some last') e first_is x_is lasts = step_some p z l b (int_eq b (pos 0)) refl last' e first_is x_is lasts

  by_values : (d e l b : Datum) → meant u.facts f m w.store x ≡ Gives d → meant u.facts f m w.store first ≡ Gives e →
      LoopLast u.facts f (loop_operands (free_at u.facts.program i) operands).free m (loop_operands (free_at u.facts.program i) operands).value (d ∷ e ∷ l ∷ b ∷ []) →
      IsDone u f h w cs q m μ (deed u.facts (record { frame = f; at = i; now = now; loops = rounds }) w (ToLoop label) (d ∷ e ∷ l ∷ b ∷ []))
  unfolding deed
  by_values (IsSpot p) (IsInt z) (IsInt l) (IsInt b) x_is first_is lasts = begun_by p z l b (terminal_of u.facts.program i label) refl first_is x_is lasts
  by_values (IsSpot p) (IsInt z) (IsInt l) (IsLog b) x_is first_is lasts = by_one (Breaks value.NoMeaning) tt
  by_values (IsSpot p) (IsInt z) (IsInt l) (value.IsText b) x_is first_is lasts = by_one (Breaks value.NoMeaning) tt
  by_values (IsSpot p) (IsInt z) (IsInt l) (IsSpot b) x_is first_is lasts = by_one (Breaks value.NoMeaning) tt
  by_values (IsSpot p) (IsInt z) (IsInt l) (value.IsProc b) x_is first_is lasts = by_one (Breaks value.NoMeaning) tt
  by_values (IsSpot p) (IsInt z) (IsInt l) (value.IsLabel b) x_is first_is lasts = by_one (Breaks value.NoMeaning) tt
  by_values (IsSpot p) (IsInt z) (IsInt l) value.Nothing x_is first_is lasts = by_one (Breaks value.NoMeaning) tt
  by_values (IsSpot p) (IsInt z) (IsLog l) b x_is first_is lasts = by_one (Breaks value.NoMeaning) tt
  by_values (IsSpot p) (IsInt z) (value.IsText l) b x_is first_is lasts = by_one (Breaks value.NoMeaning) tt
  by_values (IsSpot p) (IsInt z) (IsSpot l) b x_is first_is lasts = by_one (Breaks value.NoMeaning) tt
  by_values (IsSpot p) (IsInt z) (value.IsProc l) b x_is first_is lasts = by_one (Breaks value.NoMeaning) tt
  by_values (IsSpot p) (IsInt z) (value.IsLabel l) b x_is first_is lasts = by_one (Breaks value.NoMeaning) tt
  by_values (IsSpot p) (IsInt z) value.Nothing b x_is first_is lasts = by_one (Breaks value.NoMeaning) tt
  by_values (IsSpot p) (IsLog e) l b x_is first_is lasts = by_one (Breaks value.NoMeaning) tt
  by_values (IsSpot p) (value.IsText e) l b x_is first_is lasts = by_one (Breaks value.NoMeaning) tt
  by_values (IsSpot p) (IsSpot e) l b x_is first_is lasts = by_one (Breaks value.NoMeaning) tt
  by_values (IsSpot p) (value.IsProc e) l b x_is first_is lasts = by_one (Breaks value.NoMeaning) tt
  by_values (IsSpot p) (value.IsLabel e) l b x_is first_is lasts = by_one (Breaks value.NoMeaning) tt
  by_values (IsSpot p) value.Nothing l b x_is first_is lasts = by_one (Breaks value.NoMeaning) tt
  by_values (IsInt d) e l b x_is first_is lasts = by_one (Breaks value.NoMeaning) tt
  by_values (IsLog d) e l b x_is first_is lasts = by_one (Breaks value.NoMeaning) tt
  by_values (value.IsText d) e l b x_is first_is lasts = by_one (Breaks value.NoMeaning) tt
  by_values (value.IsProc d) e l b x_is first_is lasts = by_one (Breaks value.NoMeaning) tt
  by_values (value.IsLabel d) e l b x_is first_is lasts = by_one (Breaks value.NoMeaning) tt
  by_values value.Nothing e l b x_is first_is lasts = by_one (Breaks value.NoMeaning) tt

  pub do_alike : (ds : List Datum) → LoopComes u.facts f w.store (loop_operands (free_at u.facts.program i) operands).free m (loop_operands (free_at u.facts.program i) operands).value ds →
      IsDone u f h w cs q m μ (deed u.facts (record { frame = f; at = i; now = now; loops = rounds }) w (ToLoop label) ds)
  do_alike ds come =
      let all = subst (λ ps. all_meant u.facts f m w.store ps ≡ Gives ds) value' (come.now m (same_refl (loop_operands (free_at u.facts.program i) operands).free m)) in
      let v = four_values u.facts f m w.store x first limit by ds all in
      subst (λ y. IsDone u f h w cs q m μ (deed u.facts (record { frame = f; at = i; now = now; loops = rounds }) w (ToLoop label) y)) (sym v.are)
      (by_values v.first v.second v.third v.fourth v.first_is v.second_is
      (subst (λ y. LoopLast u.facts f (loop_operands (free_at u.facts.program i) operands).free m (loop_operands (free_at u.facts.program i) operands).value y) v.are come.last))

-- ## A turn

-- the code of a DO, as far as a turn sees it
pub record LoopCode (u : Text) (i : ℕ) (label : Option ℕ) (operands : Terms) : Type 0 where
  pub x : Pure
  pub first : Pure
  pub limit : Pure
  pub by : Pure
  pub n : ℕ
  pub upto : ℕ
  pub value : (loop_operands (free_at u.facts.program i) operands).value ≡ AndPure x (AndPure first (AndPure limit (AndPure by NoPure)))
  pub behind : Spans u upto (Put x first ∷ loop_test u.facts.program.onetrip (test_by x limit by) n) (ends_of u i)
  pub stands : LoopStands u i label n

counted_is : (line : Line) (y : Option Line) (label : Option ℕ) (ts : Terms) → y ≡ Some line → line.form ≡ On (ToLoop label) ts → is_counted y ≡ true
unfolding is_counted
counted_is line y label ts there' is = ap is_counted there' ∙ ap (λ (z : Form). elim z [ Passes ↦ false | On head operands ↦ elim head [ ToLoop l ↦ true | _ ↦ false ] ]) is

either_same : (t : Bool) {a b c d : ℕ} → a ≡ c → b ≡ d → (if t then a else b) ≡ (if t then c else d)
either_same true e e' = e
either_same false e e' = e'

either_above : (t : Bool) {a b c : ℕ} → c ≤ a → c ≤ b → c ≤ (if t then a else b)
either_above true le le' = le
either_above false le le' = le'

module _ (u : Text) (laid : IsLaidOut u) (cs : List ℕ) (f : Frame) (h : ℕ) (μ : Found) (w : World) (same : w.transfer ≡ μ.transfer) (called : IsCalled u.facts.program.kind f μ) (i p from : ℕ) (m : Temporaries)
    (r : Range) (round : Round) (rest : List Round) (is : IsRound u f m r round) (stand : AreRounds u f m (open_at u.facts.program r.first) rest) (arr : Arrives u m (ends_of u r.first) p from)
    (spans : Spans u from (turn_of u.facts.program from r) (from + turn_size u.facts.program r)) (exit : from + turn_size u.facts.program r ≡ loop_exit u.facts.program r)
    (spot : Spot) (left : ℕ) (by given : ℤ) (counted : IsCounted u f m r spot left by given) (code : LoopCode u r.first counted.label counted.operands) where
  free : ℕ
  free = (loop_operands (free_at u.facts.program r.first) counted.operands).free

  lasts' : LoopLast u.facts f (loop_operands (free_at u.facts.program r.first) counted.operands).free m (AndPure code.x (AndPure code.first (AndPure code.limit (AndPure code.by NoPure)))) (IsSpot spot ∷ counted.first ∷ IsInt counted.limit ∷ IsInt by ∷ [])
  lasts' = subst (λ ps. LoopLast u.facts f (loop_operands (free_at u.facts.program r.first) counted.operands).free m ps (IsSpot spot ∷ counted.first ∷ IsInt counted.limit ∷ IsInt by ∷ [])) code.value counted.lasts

  here : SameBelow (loop_operands (free_at u.facts.program r.first) counted.operands).free m m
  here = same_refl (loop_operands (free_at u.facts.program r.first) counted.operands).free m

  own_counted : is_counted (slice_get u.facts.program.lines r.first) ≡ true
  own_counted = counted_is counted.line (slice_get u.facts.program.lines r.first) counted.label counted.operands counted.there counted.is

  abbrev TurnSteps : List Step
  TurnSteps =
      Put code.x (Operated Add (Load code.x) code.by)
      ∷ back_by u.facts.program.onetrip (test_by code.x code.limit code.by) (if u.facts.program.onetrip then (from + 1) - own_end u.facts.program r.first else (from + 1) - own_end u.facts.program r.first + 1) ∷ []

  turn_is : turn_of u.facts.program from r ≡ TurnSteps
  unfolding turn_of way_back turn_code
  turn_is =
      choose_true (is_counted (slice_get u.facts.program.lines r.first)) (turn_code u.facts.program.onetrip (way_back u.facts.program r (from + 1)) (loop_lowered u.facts.program (free_at u.facts.program r.first) r).value) _ own_counted
      ∙ ap (λ k. turn_code u.facts.program.onetrip k (loop_lowered u.facts.program (free_at u.facts.program r.first) r).value) (choose_true (is_counted (slice_get u.facts.program.lines r.first)) _ (from + 1 - own_start u.facts.program r.first) own_counted)
      ∙ ap (turn_code u.facts.program.onetrip (if u.facts.program.onetrip then (from + 1) - own_end u.facts.program r.first else (from + 1) - own_end u.facts.program r.first + 1))
      (ap (λ (z : Lowered Pures). z.value) (lowered_is u.facts.program (free_at u.facts.program r.first) r counted.line counted.label counted.operands counted.there counted.is) ∙ code.value)

  size_is : turn_size u.facts.program r ≡ 2
  unfolding turn_size
  size_is = choose_true (is_counted (slice_get u.facts.program.lines r.first)) 2 1 own_counted

  loop' : IsLoop u r.first r.last × (ends_of u r.first + code.n ≡ loop_exit u.facts.program (record { first = r.first; last = r.last }))
  loop' = code.stands r.last counted.ends

  -- into the range again, or behind the loop
  again : (s : Store) (given' : ℤ) (k at : ℕ) → suc k ≡ suc (turns_of (int_div (counted.limit -ℤ given') by)) → at ≡ ends_of u r.first →
      Alike u μ ⊥ (proceeding (arrived u.facts.program f (record round { kind = Counted spot (suc k) by given' } ∷ rest) (suc round.first)) (record w { store = s })) (Goes (at_step f h at m) (record w { store = s }))
  again s given' k at left_is end =
      let round' : Round = record round { kind = Counted spot (suc k) by given' } in
      subst (λ y. Alike u μ ⊥ (proceeding (arrived u.facts.program f (round' ∷ rest) (suc y)) (record w { store = s })) (Goes (at_step f h at m) (record w { store = s }))) (sym is.first)
      (arrives u laid f h μ (record w { store = s }) m same called ⊥ (round' ∷ rest) (u.begins (suc r.first)) (suc r.first) at
      (subst (λ y. AreRounds u f m y (round' ∷ rest)) (sym loop'.0.open') (
        record {
          first = is.first;
          last = is.last;
          runs = record { line = counted.line; label = counted.label; operands = counted.operands; there = counted.there; is = counted.is; ends = counted.ends; first = counted.first; limit = counted.limit; lasts = counted.lasts; steps_left = left_is; some_step = counted.some_step };
        },
        stand,
      ))
      (laid.before (suc r.first))
      (subst (λ y. Arrives u m y at (u.begins (suc r.first))) (end ∙ loop'.0.end) (plainly (omega arith) (subst (λ y. Leads u at y) (end ∙ loop'.0.end) there))))

  leaves : (s : Store) (at : ℕ) → at ≡ loop_exit u.facts.program r → u.begins r.first ≤ at → Alike u μ ⊥ (proceeding (passed u.facts.program f rest round.last) (record w { store = s })) (Goes (at_step f h at m) (record w { store = s }))
  leaves s at end up =
      subst (λ y. Alike u μ ⊥ (proceeding (passed u.facts.program f rest y) (record w { store = s })) (Goes (at_step f h at m) (record w { store = s }))) (sym is.last)
      (passes_behind u laid f h μ (record w { store = s }) m same called ⊥ (open_at u.facts.program r.first) rest (u.begins r.first) r.last (loop_exit u.facts.program r) at loop'.0.exit (laid.chain r.first) stand (laid.before r.first)
      (plainly up (subst (λ y. Leads u at y) end there)))

  turned_to : (s : Store) (given' : ℤ) (t : Bool) (at : ℕ) → given' ≡ given +ℤ by → allows (given +ℤ by) counted.limit by ≡ t → at ≡ (if t then ends_of u r.first else loop_exit u.facts.program r) → u.begins r.first ≤ at →
      Alike u μ ⊥ (turned_with u.facts (record { frame = f; at = i; now = fortran.Turning; loops = round ∷ rest }) w round rest spot left by (Gives (record { store = s; given = given' }))) (Goes (at_step f h at m) (record w { store = s }))
  unfolding turned_with
  turned_to s given' true at value' allowed end up =
      let count = turns_at (given +ℤ by) counted.limit by counted.some_step in
      let left_is : left ≡ suc (suc (turns_of (int_div (counted.limit -ℤ (given +ℤ by)) by))) =
      counted.steps_left ∙ ap (λ y. suc (turns_of (int_div y by))) (sym (next_value given counted.limit by)) ∙ ap suc (count.some allowed) in
      subst (λ y. Alike u μ ⊥ (turned_with u.facts (record { frame = f; at = i; now = fortran.Turning; loops = round ∷ rest }) w round rest spot y by (Gives (record { store = s; given = given' }))) (Goes (at_step f h at m) (record w { store = s }))) (sym left_is)
      (again s given' (turns_of (int_div (counted.limit -ℤ (given +ℤ by)) by)) at (ap (λ y. suc (turns_of (int_div (counted.limit -ℤ y) by))) (sym value')) end)
  turned_to s given' false at value' allowed end up =
      let count = turns_at (given +ℤ by) counted.limit by counted.some_step in
      let left_is : left ≡ suc zero = counted.steps_left ∙ ap (λ y. suc (turns_of (int_div y by))) (sym (next_value given counted.limit by)) ∙ ap suc (count.none allowed) in
      subst (λ y. Alike u μ ⊥ (turned_with u.facts (record { frame = f; at = i; now = fortran.Turning; loops = round ∷ rest }) w round rest spot y by (Gives (record { store = s; given = given' }))) (Goes (at_step f h at m) (record w { store = s }))) (sym left_is)
      (leaves s at end up)

  pub record TurnDone (ev : Happening) : Type 0 where
    pub event : Doing
    pub reach : WayOn u f h w cs p m event
    pub alike : Alike u μ ⊥ ev event

  module _ (s : Store) (given' : ℤ) (value' : given' ≡ given +ℤ by) (held : fetch w.store spot ≡ Gives (IsInt given)) (sum : checked (given +ℤ by) ≡ Gives (IsInt (given +ℤ by))) (put : define w.store spot (IsInt (given +ℤ by)) ≡ Gives s) where
    put_is : slice_get u.steps from ≡ Some (Put code.x (Operated Add (Load code.x) code.by)) → step u (at_step f h from m) w ≡ Goes (at_step f h (suc from) m) (record w { store = s })
    put_is at =
        put_step u f h from m w code.x (Operated Add (Load code.x) code.by) spot (IsInt (given +ℤ by)) s at
        (sum_meant u.facts f m w.store code.x code.by spot given by (lasts'.0 m w.store here) held (lasts'.1.1.0 m w.store here) sum) (lasts'.0 m w.store here) put

    test_is : meant u.facts f m s (test_by code.x code.limit code.by) ≡ Gives (IsLog (allows (given +ℤ by) counted.limit by))
    test_is = test_meant u.facts f m s code.x code.limit spot (given +ℤ by) counted.limit (lasts'.0 m s here) (put_fetched w.store spot (given +ℤ by) s put) (lasts'.1.0 m s here) code.by by (lasts'.1.1.0 m s here)

    -- the text of the turn, tested at the DO or behind the turn
    done_by : (o : Bool) → u.facts.program.onetrip ≡ o → Spans u from TurnSteps (from + turn_size u.facts.program r) →
        Spans u code.upto (Put code.x code.first ∷ loop_test u.facts.program.onetrip (test_by code.x code.limit code.by) code.n) (ends_of u r.first) → (t : Bool) → allows (given +ℤ by) counted.limit by ≡ t →
        TurnDone (turned_with u.facts (record { frame = f; at = i; now = fortran.Turning; loops = round ∷ rest }) w round rest spot left by (Gives (record { store = s; given = given' })))
    unfolding back_by loop_test
    done_by true once spans' behind t allowed =
        let steps = subst (λ (o : Bool). Spans u from (Put code.x (Operated Add (Load code.x) code.by) ∷ back_by o (test_by code.x code.limit code.by) (if o then (from + 1) - own_end u.facts.program r.first else (from + 1) - own_end u.facts.program r.first + 1) ∷ []) (from + turn_size u.facts.program r)) once spans' in
        let one = spans_first u steps in
        let two = spans_one u one.1 in
        let first = begins_by u f h w cs arr in
        let put' = put_is one.0 in
        let test' = again_if_step u f h (suc from) ((from + 1) - own_end u.facts.program r.first) m (record w { store = s }) (test_by code.x code.limit code.by) t two.0 (test_is ∙ ap (λ y. Gives (IsLog y)) allowed) in
        let up = leads_up first.2 in
        let low = first.3 in
        let room = laid.rises r.first in
        let size = size_is in
        let head : (if t then suc from - ((from + 1) - own_end u.facts.program r.first) else suc (suc from)) ≡ (if t then ends_of u r.first else loop_exit u.facts.program r) = either_same t (omega (arith, up, low)) (omega (arith, exit, size)) in
        record {
          event = Goes (at_step f h (if t then suc from - ((from + 1) - own_end u.facts.program r.first) else suc (suc from)) m) (record w { store = s });
          reach =
              way_on u f h w cs (cost cs from + cost cs (suc from)) _ first.1 (leads_keep u f h w cs m first.2) (more put' (last test' refl) refl) refl
              (ordinary_by u from (Put code.x (Operated Add (Load code.x) code.by)) one.0 tt) (ordinary_by u (suc from) (AgainIf (test_by code.x code.limit code.by) ((from + 1) - own_end u.facts.program r.first)) two.0 tt);
          alike = turned_to s given' t (if t then suc from - ((from + 1) - own_end u.facts.program r.first) else suc (suc from)) value' allowed head (either_above t (omega (arith, room, up, low)) (omega (arith, room, up, low)));
        }
    done_by false once spans' behind t allowed =
        let steps = subst (λ (o : Bool). Spans u from (Put code.x (Operated Add (Load code.x) code.by) ∷ back_by o (test_by code.x code.limit code.by) (if o then (from + 1) - own_end u.facts.program r.first else (from + 1) - own_end u.facts.program r.first + 1) ∷ []) (from + turn_size u.facts.program r)) once spans' in
        let head = subst (λ (o : Bool). Spans u code.upto (Put code.x code.first ∷ loop_test o (test_by code.x code.limit code.by) code.n) (ends_of u r.first)) once behind in
        let one = spans_first u steps in
        let two = spans_one u one.1 in
        let front = spans_first u head in
        let three = spans_one u front.1 in
        let first = begins_by u f h w cs arr in
        let up = leads_up first.2 in
        let low = first.3 in
        let end = three.1 in
        let room = laid.rises r.first in
        let put' = put_is one.0 in
        let back' = again_step u f h (suc from) ((from + 1) - own_end u.facts.program r.first + 1) (suc code.upto) m (record w { store = s }) two.0 (omega (arith, up, low, end)) in
        let test' = unless_step u f h (suc code.upto) code.n m (record w { store = s }) (test_by code.x code.limit code.by) t three.0 (test_is ∙ ap (λ y. Gives (IsLog y)) allowed) in
        let out = loop'.1 in
        let to' : (if t then suc (suc code.upto) else suc (suc code.upto) + code.n) ≡ (if t then ends_of u r.first else loop_exit u.facts.program r) = either_same t (sym end) (omega (arith, end, out)) in
        record {
          event = Goes (at_step f h (if t then suc (suc code.upto) else suc (suc code.upto) + code.n) m) (record w { store = s });
          reach =
              way_turn u f h w cs (cost cs from + (cost cs (suc from) + cost cs (suc code.upto))) (Goes (at_step f h (if t then suc (suc code.upto) else suc (suc code.upto) + code.n) m) (record w { store = s })) first.1 (leads_keep u f h w cs m first.2)
              (more put' (more back' (last test' refl) refl) refl) refl (omega (arith, low, end))
              (ordinary_by u from (Put code.x (Operated Add (Load code.x) code.by)) one.0 tt) (ordinary_by u (suc from) (Again ((from + 1) - own_end u.facts.program r.first + 1)) two.0 tt)
              (ordinary_by u (suc code.upto) (Unless (test_by code.x code.limit code.by) code.n) three.0 tt);
          alike = turned_to s given' t (if t then suc (suc code.upto) else suc (suc code.upto) + code.n) value' allowed to' (either_above t (omega (arith, room, end)) (omega (arith, room, end)));
        }

  turn_by : (y : Checked Grown) → grown w.store spot by given ≡ y → TurnDone (turned_with u.facts (record { frame = f; at = i; now = fortran.Turning; loops = round ∷ rest }) w round rest spot left by y)
  unfolding turned_with
  turn_by (Fails act) e =
      let one = spans_first u (subst (λ z. Spans u from z (from + turn_size u.facts.program r)) turn_is spans) in
      let first = begins_by u f h w cs arr in
      record {
        event = step u (at_step f h from m) w;
        reach = way_one u f h w cs (cost cs from) (step u (at_step f h from m) w) first.1 (leads_keep u f h w cs m first.2) (last refl refl) refl (ordinary_by u from (Put code.x (Operated Add (Load code.x) code.by)) one.0 tt);
        alike = tt;
      }
  turn_by (Gives g) e =
      let is' = grown_is w.store spot by given g e in
      done_by g.store g.given is'.value is'.held is'.sum is'.put u.facts.program.onetrip refl (subst (λ z. Spans u from z (from + turn_size u.facts.program r)) turn_is spans) code.behind (allows (given +ℤ by) counted.limit by) refl

  pub turn_alike : TurnDone (turned_with u.facts (record { frame = f; at = i; now = fortran.Turning; loops = round ∷ rest }) w round rest spot left by (grown w.store spot by given))
  turn_alike = turn_by (grown w.store spot by given) refl
