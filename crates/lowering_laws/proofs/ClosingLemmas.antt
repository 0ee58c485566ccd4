-- What stands behind the operands of a form does what the form comes to.
use Rattle.std.specs.Prelude.{◌≡◌, ℕ, suc, Bool, true, false, List, [], ◌∷◌, Some, slice_get}
use Rattle.std.proofs.Common.{refl, sym, ap, ◌∙◌, subst, arith}
use Rattle.fortran_laws.specs.simulation.Machine.{Goes}
use Rattle.fortran_laws.specs.f_tree.Values.{Bytes, Datum, Checked, Gives, Fails, given_that}
use Rattle.fortran_laws.specs.f_tree.Terms.{Operator, Function, Callee, Term, Val, Terms}
use Rattle.fortran_laws.specs.f_tree.Facts.{Facts, Frame}
use Rattle.fortran_laws.specs.f_tree.Store.{Store}
use Rattle.fortran_laws.specs.f_tree.Valuing.{Red, Valued, Asks, at_once, prefixed, operated, left_of, applied, element, alone, part, pieces, joined, fetched}
use Rattle.fortran_laws.specs.f_tree.World.{World}
use Rattle.lowering.specs.l_core.Pures.{Pure, Temporary, Pures, NoPure, AndPure, Temporaries, with_kept, where_wanted, meant, all_meant}
use Rattle.lowering.specs.l_core.Steps.{Keep, Compute, CallFor, Text}
use Rattle.lowering.specs.l_core.Machine.{to, onward, keeping, done, step}
use Rattle.lowering.specs.Expressions.{Purpose, ForUse, ForCall, ForReading, ForLater, Shape, AsFetch, AsElement, AsAlone, AsPart, AsJoined, AsBefore, AsBetween, AsFunction, AsReference, is_library, for_place, for_fetch, operand_purpose, pure_of, kept_steps, kept_value, kept_free, function_steps, function_value, function_free, closing, closed_value, closed_free, may_decide, and_then, no_operand, plain, lower_all}
use Rattle.lowering_laws.specs.Walks.{Spans, at_step, IsOrdinary, stays, goes, SameBelow, Lasts, Comes, AllCome, Met}
use Rattle.lowering_laws.specs.Midway.{finish, Fits, of_fetch, of_element, of_alone, of_part, of_joined, of_before, of_between, of_function, of_reference}
use Rattle.lowering_laws.proofs.WalkLemmas.{spans_nothing, spans_one, ordinary_by, same_refl, kept_above, kept_there, all_last_now, temporary_lasts, said, at_its_end}
use Rattle.lowering_laws.proofs.ShapeLemmas.{wants}

-- ## The pure value of a form

-- as many pure values as a form takes
pub data Suits : Shape → Pures → Type 0 where
  one_place : {p : Pure} → Suits AsFetch (AndPure p NoPure)
  subscripts : {x : Bytes} {ps : Pures} → Suits (AsElement x) ps
  one_alone : {p : Pure} → Suits AsAlone (AndPure p NoPure)
  with_bounds : {x : Bytes} {p from to : Pure} → Suits (AsPart x) (AndPure p (AndPure from (AndPure to NoPure)))
  some_pieces : {ps : Pures} → Suits AsJoined ps
  one_behind : {op : _} {p : Pure} → Suits (AsBefore op) (AndPure p NoPure)
  two_values : {op : Operator} {p q : Pure} → may_decide op ≡ false → Suits (AsBetween op) (AndPure p (AndPure q NoPure))
  some_values : {function : _} {ps : Pures} → Suits (AsFunction function) ps
  some_actuals : {callee : _} {ps : Pures} → Suits (AsReference callee) ps

pub suits : (env : Pures) (purpose : Purpose) (k : ℕ) (shape : Shape) (ts : Terms) → Fits shape ts → Suits shape (lower_all env purpose k ts).value
unfolding lower_all and_then no_operand plain
suits env purpose k AsFetch _ of_fetch = one_place
suits env purpose k (AsElement x) _ of_element = subscripts
suits env purpose k AsAlone _ of_alone = one_alone
suits env purpose k (AsPart x) _ of_part = with_bounds
suits env purpose k AsJoined _ of_joined = some_pieces
suits env purpose k (AsBefore op) _ of_before = one_behind
suits env purpose k (AsBetween op) _ (of_between values_both) = two_values values_both
suits env purpose k (AsFunction function) _ of_function = some_values
suits env purpose k (AsReference callee) _ of_reference = some_actuals

-- the forms that are no references
abbrev pub IsPure : Shape → Type 0
IsPure (AsReference callee) = ⊥
IsPure shape = Unit {0}

one_meant : (x : Checked Datum) (go : List Datum → Red Datum Term) (back : Datum → Checked Datum) → ((d : Datum) → go (d ∷ []) ≡ at_once (back d)) → (ds : List Datum) →
    given_that x (λ d. given_that (Gives []) (λ es. Gives (d ∷ es))) ≡ Gives ds → go ds ≡ at_once (given_that x back)
unfolding given_that
one_meant (Gives d) go back same ds e = let is : ds ≡ d ∷ [] = cc in ap go is ∙ same d
one_meant (Fails act) go back same ds e = absurd (cc)

two_meant : (op : Operator) → may_decide op ≡ false → (x y : Checked Datum) (go : List Datum → Red Datum Term) → ((a b : Datum) → go (a ∷ b ∷ []) ≡ at_once (operated op a b)) → (ds : List Datum) →
    given_that x (λ d. given_that (given_that y (λ d. given_that (Gives []) (λ es. Gives (d ∷ es)))) (λ es. Gives (d ∷ es))) ≡ Gives ds →
    go ds ≡ at_once (given_that x (λ a. where_wanted (left_of op a) (given_that y (operated op a))))
unfolding given_that where_wanted
two_meant op values_both (Gives a) (Gives b) go same ds e =
    let is : ds ≡ a ∷ b ∷ [] = cc in ap go is ∙ same a b ∙ ap (λ l. at_once (where_wanted l (operated op a b))) (sym (wants op a values_both))
two_meant op values_both (Gives a) (Fails act) go same ds e = absurd (cc)
two_meant op values_both (Fails act) y go same ds e = absurd (cc)

three_meant : (back : Datum → Datum → Datum → Checked Datum) (x y z : Checked Datum) (go : List Datum → Red Datum Term) → ((a b d : Datum) → go (a ∷ b ∷ d ∷ []) ≡ at_once (back a b d)) → (ds : List Datum) →
    given_that x (λ d. given_that (given_that y (λ d. given_that (given_that z (λ d. given_that (Gives []) (λ es. Gives (d ∷ es)))) (λ es. Gives (d ∷ es)))) (λ es. Gives (d ∷ es))) ≡ Gives ds →
    go ds ≡ at_once (given_that x (λ a. given_that y (λ b. given_that z (back a b))))
unfolding given_that
three_meant back (Gives a) (Gives b) (Gives d) go same ds e = let is : ds ≡ a ∷ b ∷ d ∷ [] = cc in ap go is ∙ same a b d
three_meant back (Gives a) (Gives b) (Fails act) go same ds e = absurd (cc)
three_meant back (Gives a) (Fails act) z go same ds e = absurd (cc)
three_meant back (Fails act) y z go same ds e = absurd (cc)

pub shape_meant : (c : Facts) (f : Frame) (m : Temporaries) (s : Store) (shape : Shape) (ps : Pures) (ds : List Datum) → Suits shape ps → IsPure shape → all_meant c f m s ps ≡ Gives ds →
    finish c f s shape ds ≡ at_once (meant c f m s (pure_of shape ps))
unfolding all_meant meant pure_of given_that
shape_meant c f m s AsFetch _ ds (one_place {p = p}) pure e = one_meant (meant c f m s p) (finish c f s AsFetch) (fetched s) (λ d. refl) ds e
shape_meant c f m s (AsElement x) ps ds subscripts pure e = ap (λ z. at_once (given_that z (element c f x))) (sym e)
shape_meant c f m s AsAlone _ ds (one_alone {p = p}) pure e = one_meant (meant c f m s p) (finish c f s AsAlone) alone (λ d. refl) ds e
shape_meant c f m s (AsPart x) _ ds (with_bounds {p = p} {from = from} {to = to}) pure e =
    three_meant (part x) (meant c f m s p) (meant c f m s from) (meant c f m s to) (finish c f s (AsPart x)) (λ a b d. refl) ds e
shape_meant c f m s AsJoined ps ds some_pieces pure e = ap (λ z. at_once (given_that z (λ es. joined (pieces s es)))) (sym e)
shape_meant c f m s (AsBefore op) _ ds (one_behind {p = p}) pure e = one_meant (meant c f m s p) (finish c f s (AsBefore op)) (prefixed op) (λ d. refl) ds e
shape_meant c f m s (AsBetween op) _ ds (two_values {p = p} {q = q} values_both) pure e =
    two_meant op values_both (meant c f m s p) (meant c f m s q) (finish c f s (AsBetween op)) (λ a b. refl) ds e
shape_meant c f m s (AsFunction function) ps ds some_values pure e = ap (λ z. at_once (given_that z (applied function))) (sym e)
shape_meant c f m s (AsReference callee) ps ds some_actuals pure e = absurd pure

once_gives : (x : Checked Datum) (d : Datum) → at_once {T = Term} x ≡ Valued d → x ≡ Gives d
unfolding at_once
once_gives (Gives a) d e = let is : a ≡ d = cc in ap Gives is
once_gives (Fails act) d e = absurd (cc)

-- places are settled without the store
alone_alike : (c : Facts) (f : Frame) (s s' : Store) (ds : List Datum) → finish c f s AsAlone ds ≡ finish c f s' AsAlone ds
alone_alike c f s s' [] = refl
alone_alike c f s s' (d ∷ []) = refl
alone_alike c f s s' (d ∷ e ∷ ds) = refl

part_alike : (c : Facts) (f : Frame) (s s' : Store) (x : Bytes) (ds : List Datum) → finish c f s (AsPart x) ds ≡ finish c f s' (AsPart x) ds
part_alike c f s s' x [] = refl
part_alike c f s s' x (d ∷ []) = refl
part_alike c f s s' x (d ∷ e ∷ []) = refl
part_alike c f s s' x (d ∷ e ∷ g ∷ []) = refl
part_alike c f s s' x (d ∷ e ∷ g ∷ i ∷ ds) = refl

-- ## The steps behind the operands

module _ (u : Text) (f : Frame) (h : ℕ) (w : World) where
  pub kept_step : (k q : ℕ) (m : Temporaries) (p : Pure) (d : Datum) → slice_get u.steps q ≡ Some (Keep k p) → meant u.facts f m w.store p ≡ Gives d →
      step u (at_step f h q m) w ≡ Goes (at_step f h (suc q) (with_kept k d m)) w
  unfolding step done keeping onward to
  kept_step k q m p d there e = ap (done u (at_step f h q m) w) there ∙ ap (keeping k (at_step f h q m) w) e

  computed_step : (k q : ℕ) (m : Temporaries) (function : Function) (ps : Pures) (ds : List Datum) (d : Datum) → slice_get u.steps q ≡ Some (Compute k function ps) → all_meant u.facts f m w.store ps ≡ Gives ds → applied function ds ≡ Gives d →
      step u (at_step f h q m) w ≡ Goes (at_step f h (suc q) (with_kept k d m)) w
  unfolding step done keeping onward to given_that
  computed_step k q m function ps ds d there e e' =
      ap (done u (at_step f h q m) w) there ∙ ap (λ z. keeping k (at_step f h q m) w (given_that z (applied function))) e ∙ ap (keeping k (at_step f h q m) w) e'

  -- one step that keeps a value, where there is one
  pub keeps_one : {Good : Datum → Temporaries → Type 0} {Left : Term → ℕ → Temporaries → Type 0} (k q : ℕ) (m : Temporaries) (x : Checked Datum) → IsOrdinary u q →
      ((d : Datum) → x ≡ Gives d → step u (at_step f h q m) w ≡ Goes (at_step f h (suc q) (with_kept k d m)) w) → ((d : Datum) → x ≡ Gives d → Good d (with_kept k d m)) →
      Met u f h w k q m (suc q) Good Left (at_once x)
  unfolding at_once
  keeps_one k q m (Gives d) ordinary st good = record { met = record { kept = with_kept k d m; way = goes ordinary (st d refl) (omega arith) stays; same = kept_above k k d m (omega arith); good = good d refl } }
  keeps_one k q m (Fails act) ordinary st good = record { met = tt }

  -- a value that is kept in a temporary lasts
  pub kept_comes : (purpose : Purpose) (k : ℕ) (d : Datum) (m : Temporaries) → Comes u.facts f w.store purpose (suc k) (with_kept k d m) (Temporary k) d
  kept_comes purpose k d m =
      let lasts = temporary_lasts u.facts f k d (with_kept k d m) (kept_there k d m) in
      record { now = λ m' same. lasts m' w.store same; later = λ is. lasts }

  kept_at : {Left : Term → ℕ → Temporaries → Type 0} (purpose : Purpose) (k q : ℕ) (m : Temporaries) (p : Pure) → slice_get u.steps q ≡ Some (Keep k p) →
      Met u f h w k q m (suc q) (λ d m'. Comes u.facts f w.store purpose (suc k) m' (Temporary k) d) Left (at_once (meant u.facts f m w.store p))
  kept_at purpose k q m p there = keeps_one k q m (meant u.facts f m w.store p) (ordinary_by u q (Keep k p) there tt) (λ d e. kept_step k q m p d there e) (λ d e. kept_comes purpose k d m)

  -- a pure value that is what it is whatever becomes of the temporaries from n on
  abbrev pub Stays : ℕ → Temporaries → Pure → Type 0
  Stays n m p = (d : Datum) → meant u.facts f m w.store p ≡ Gives d → (m' : Temporaries) → SameBelow n m m' → meant u.facts f m' w.store p ≡ Gives d

  pub value_met : {Left : Term → ℕ → Temporaries → Type 0} (purpose : Purpose) (k n q q' : ℕ) (m : Temporaries) (p : Pure) → Stays n m p → Spans u q (kept_steps purpose k p) q' →
      Met u f h w k q m q' (λ d m'. Comes u.facts f w.store purpose (kept_free purpose k n) m' (kept_value purpose k p) d) Left (at_once (meant u.facts f m w.store p))
  unfolding kept_steps kept_free kept_value
  value_met {Left = Left} ForUse k n q q' m p remains spans =
      subst (λ z. Met u f h w k q m z (λ d m'. Comes u.facts f w.store ForUse n m' p d) Left (at_once (meant u.facts f m w.store p))) (sym (spans_nothing u spans))
      (at_its_end u f h w (meant u.facts f m w.store p) (λ d e. record { now = remains d e; later = λ is. absurd (cc) }))
  value_met {Left = Left} ForCall k n q q' m p remains spans =
      let one = spans_one u spans in
      subst (λ z. Met u f h w k q m z (λ d m'. Comes u.facts f w.store ForCall (suc k) m' (Temporary k) d) Left (at_once (meant u.facts f m w.store p))) (sym one.1) (kept_at ForCall k q m p one.0)
  value_met {Left = Left} ForReading k n q q' m p remains spans =
      let one = spans_one u spans in
      subst (λ z. Met u f h w k q m z (λ d m'. Comes u.facts f w.store ForReading (suc k) m' (Temporary k) d) Left (at_once (meant u.facts f m w.store p))) (sym one.1) (kept_at ForReading k q m p one.0)
  value_met {Left = Left} ForLater k n q q' m p remains spans =
      let one = spans_one u spans in
      subst (λ z. Met u f h w k q m z (λ d m'. Comes u.facts f w.store ForLater (suc k) m' (Temporary k) d) Left (at_once (meant u.facts f m w.store p))) (sym one.1) (kept_at ForLater k q m p one.0)

  -- the operands are what they are
  abbrev pub AllStay : ℕ → Temporaries → Pures → List Datum → Type 0
  AllStay n m ps ds = (m' : Temporaries) → SameBelow n m m' → all_meant u.facts f m' w.store ps ≡ Gives ds

  shape_stays : (shape : Shape) (n : ℕ) (m : Temporaries) (ps : Pures) (ds : List Datum) → Suits shape ps → IsPure shape → AllStay n m ps ds → Stays n m (pure_of shape ps)
  unfolding at_once
  shape_stays shape n m ps ds suit pure now d e m' same =
      once_gives (meant u.facts f m' w.store (pure_of shape ps)) d
      (sym (shape_meant u.facts f m' w.store shape ps ds suit pure (now m' same)) ∙ shape_meant u.facts f m w.store shape ps ds suit pure (now m (same_refl n m)) ∙ ap at_once e)

  value_of_shape : {Left : Term → ℕ → Temporaries → Type 0} (shape : Shape) (purpose : Purpose) (k n q q' : ℕ) (m : Temporaries) (ps : Pures) (ds : List Datum) → Suits shape ps → IsPure shape →
      AllStay n m ps ds → Spans u q (kept_steps purpose k (pure_of shape ps)) q' →
      Met u f h w k q m q' (λ d m'. Comes u.facts f w.store purpose (kept_free purpose k n) m' (kept_value purpose k (pure_of shape ps)) d) Left (finish u.facts f w.store shape ds)
  value_of_shape {Left = Left} shape purpose k n q q' m ps ds suit pure now spans =
      subst (λ x. Met u f h w k q m q' (λ d m'. Comes u.facts f w.store purpose (kept_free purpose k n) m' (kept_value purpose k (pure_of shape ps)) d) Left x)
      (sym (shape_meant u.facts f m w.store shape ps ds suit pure (now m (same_refl n m)))) (value_met purpose k n q q' m (pure_of shape ps) (shape_stays shape n m ps ds suit pure now) spans)

  function_met : {Left : Term → ℕ → Temporaries → Type 0} (library : Bool) (function : Function) (purpose : Purpose) (k n q q' : ℕ) (m : Temporaries) (ps : Pures) (ds : List Datum) →
      AllStay n m ps ds → Spans u q (function_steps library function purpose k ps) q' →
      Met u f h w k q m q' (λ d m'. Comes u.facts f w.store purpose (function_free library purpose k n) m' (function_value library function purpose k ps) d) Left (at_once (applied function ds))
  unfolding function_steps function_free function_value pure_of
  function_met {Left = Left} true function purpose k n q q' m ps ds now spans =
      let one = spans_one u spans in
      subst (λ z. Met u f h w k q m z (λ d m'. Comes u.facts f w.store purpose (suc k) m' (Temporary k) d) Left (at_once (applied function ds))) (sym one.1)
      (keeps_one k q m (applied function ds) (ordinary_by u q (Compute k function ps) one.0 tt) (λ d e'. computed_step k q m function ps ds d one.0 (now m (same_refl n m)) e') (λ d e'. kept_comes purpose k d m))
  function_met false function purpose k n q q' m ps ds now spans = value_of_shape (AsFunction function) purpose k n q q' m ps ds some_values tt now spans

  -- a place, whose operands last as long as it
  same_place : (shape : Shape) (purpose : Purpose) (k n q q' : ℕ) (m : Temporaries) (ps : Pures) (ds : List Datum) {Left : Term → ℕ → Temporaries → Type 0} → Suits shape ps → IsPure shape →
      ((s : Store) → finish u.facts f s shape ds ≡ finish u.facts f w.store shape ds) → AllCome u.facts f w.store (for_place purpose) n m ps ds → q' ≡ q →
      Met u f h w k q m q' (λ d m'. Comes u.facts f w.store purpose n m' (pure_of shape ps) d) Left (finish u.facts f w.store shape ds)
  unfolding for_place at_once
  same_place shape purpose k n q q' m ps ds {Left = Left} suit pure alike operands end =
      let here = shape_meant u.facts f m w.store shape ps ds suit pure (operands.now m (same_refl n m)) in
      subst (λ z. Met u f h w k q m z (λ d m'. Comes u.facts f w.store purpose n m' (pure_of shape ps) d) Left (finish u.facts f w.store shape ds)) (sym end)
      (subst (λ x. Met u f h w k q m q (λ d m'. Comes u.facts f w.store purpose n m' (pure_of shape ps) d) Left x) (sym here)
      (at_its_end u f h w (meant u.facts f m w.store (pure_of shape ps)) (λ d e. record {
        now = shape_stays shape n m ps ds suit pure operands.now d e;
        later = λ is. λ m' s after.
            once_gives (meant u.facts f m' s (pure_of shape ps)) d
            (sym (shape_meant u.facts f m' s shape ps ds suit pure (all_last_now u.facts f n m m' s ps ds after (operands.later (ap for_place is)))) ∙ alike s ∙ here ∙ ap at_once e);
      })))

  -- a reference: the call
  called_met : {Good : Datum → Temporaries → Type 0} {Left : Term → ℕ → Temporaries → Type 0} (callee : Callee) (k q : ℕ) (m : Temporaries) (ps : Pures) (ds : List Datum) → all_meant u.facts f m w.store ps ≡ Gives ds →
      slice_get u.steps q ≡ Some (CallFor k callee ps) → ((d : Datum) (m' : Temporaries) → Lasts u.facts f (suc k) m' (Temporary k) d → Left (Val d) (suc q) m') →
      Met u f h w k q m (suc q) Good Left (Asks callee ds Val)
  called_met callee k q m ps ds e there lefts = record {
    met = record {
      kept = m;
      at = q;
      into = k;
      operands = ps;
      way = stays;
      inside = omega arith;
      same = same_refl k m;
      there = there;
      values = e;
      above = omega arith;
      left = λ d. lefts d (with_kept k d m) (temporary_lasts u.facts f k d (with_kept k d m) (kept_there k d m));
    };
  }

  pub closing_met : {Left : Term → ℕ → Temporaries → Type 0} (shape : Shape) (purpose : Purpose) (k n q q' : ℕ) (m : Temporaries) (ps : Pures) (ds : List Datum) → Suits shape ps →
      AllCome u.facts f w.store (operand_purpose shape purpose) n m ps ds → Spans u q (closing shape purpose k ps) q' →
      ((d : Datum) (m' : Temporaries) → Lasts u.facts f (closed_free shape purpose k n) m' (closed_value shape purpose k ps) d → Left (Val d) q' m') →
      Met u f h w k q m q' (λ d m'. Comes u.facts f w.store purpose (closed_free shape purpose k n) m' (closed_value shape purpose k ps) d) Left (finish u.facts f w.store shape ds)
  unfolding closing closed_free closed_value operand_purpose pure_of for_fetch
  closing_met AsFetch purpose k n q q' m ps ds suit operands spans lefts =
      said u f h w (λ d m' same come. record { now = come.now; later = λ is. come.later (ap for_fetch is) }) (λ r q'' m' left. left) (value_of_shape AsFetch (for_fetch purpose) k n q q' m ps ds suit tt operands.now spans)
  closing_met (AsElement x) purpose k n q q' m ps ds suit operands spans lefts = same_place (AsElement x) purpose k n q q' m ps ds suit tt (λ s. refl) operands (spans_nothing u spans)
  closing_met AsAlone purpose k n q q' m ps ds suit operands spans lefts = same_place AsAlone purpose k n q q' m ps ds suit tt (λ s. alone_alike u.facts f s w.store ds) operands (spans_nothing u spans)
  closing_met (AsPart x) purpose k n q q' m ps ds suit operands spans lefts = same_place (AsPart x) purpose k n q q' m ps ds suit tt (λ s. part_alike u.facts f s w.store x ds) operands (spans_nothing u spans)
  closing_met AsJoined purpose k n q q' m ps ds suit operands spans lefts = value_of_shape AsJoined purpose k n q q' m ps ds suit tt operands.now spans
  closing_met (AsBefore op) purpose k n q q' m ps ds suit operands spans lefts = value_of_shape (AsBefore op) purpose k n q q' m ps ds suit tt operands.now spans
  closing_met (AsBetween op) purpose k n q q' m ps ds suit operands spans lefts = value_of_shape (AsBetween op) purpose k n q q' m ps ds suit tt operands.now spans
  closing_met (AsFunction function) purpose k n q q' m ps ds suit operands spans lefts = function_met (is_library function) function purpose k n q q' m ps ds operands.now spans
  closing_met {Left = Left} (AsReference callee) purpose k n q q' m ps ds suit operands spans lefts =
      let one = spans_one u spans in
      subst (λ z. Met u f h w k q m z (λ d m'. Comes u.facts f w.store purpose (suc k) m' (Temporary k) d) Left (Asks callee ds Val)) (sym one.1)
      (called_met callee k q m ps ds (operands.now m (same_refl n m)) one.0 (λ d m' lasts. subst (λ z. Left (Val d) z m') one.1 (lefts d m' lasts)))
