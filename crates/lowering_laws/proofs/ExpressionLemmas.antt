-- The steps of an expression, from their start and from each place in their midst, do what valuing the expression does.
use Rattle.std.specs.Prelude.{◌≡◌, ℕ, zero, suc, ◌+◌, ◌<◌, ◌≤◌, Bool, true, false, ◌&&◌, ◌||◌, List, [], ◌∷◌, ◌++◌, length, Some, slice_get}
use Rattle.std.proofs.Common.{refl, sym, ap, ◌∙◌, subst, arith, true≢false}
use Rattle.fortran_laws.specs.simulation.Machine.{Goes}
use Rattle.fortran_laws.specs.f_tree.Values as value
use Rattle.fortran_laws.specs.f_tree.Terms as operator
use Rattle.fortran_laws.specs.f_tree.Values.{Bytes, Datum, IsLog, Checked, Gives, Fails, Act, given_that}
use Rattle.fortran_laws.specs.f_tree.Terms.{Operator, Both, Either, Complement, Term, Val, Fetch, At, All, Element, Alone, Part, Joined, Before, Between, Intrinsically, Refer, Bind, Bound, Terms, NoMore, More, refers, any_refers, valued_then}
use Rattle.fortran_laws.specs.f_tree.Facts.{Facts, Frame}
use Rattle.fortran_laws.specs.f_tree.Store.{Store}
use Rattle.fortran_laws.specs.f_tree.Valuing.{Valued, then_by, at_once, prefixed, operated, on_logicals, Left, Decided, Wants, Wrong, left_of, right_after, whole, array_whole, bound_to, reduce, reduce_all}
use Rattle.fortran_laws.specs.f_tree.World.{World}
use Rattle.lowering.specs.l_core.Pures.{Pure, Constant, Temporary, Name, AllOf, Operated, Pures, NoPure, AndPure, Temporaries, with_kept, if_kept, where_wanted, meant, all_meant}
use Rattle.lowering.specs.l_core.Steps.{Step, Keep, Unless, Text}
use Rattle.lowering.specs.l_core.Machine.{to, testing, done, step}
use Rattle.lowering.specs.Expressions.{Purpose, ForUse, ForCall, ForLater, Lowered, plain, and_then, no_operand, ahead, Shape, AsFetch, AsElement, AsAlone, AsPart, AsJoined, AsBefore, AsBetween, AsFunction, AsReference, is_library, for_place, for_function, operand_purpose, pure_of, kept_steps, kept_value, kept_free, closing, closed_value, closed_free, shaped, takes_steps, may_decide, wanted_where, guarded, lowered_between, argument, in_order, lower, lower_all}
use Rattle.lowering_laws.specs.Walks.{Spans, nothing, at_step, IsOrdinary, Keeps, stays, goes, SameBelow, Lasts, AllLast, Comes, AllCome, Met}
use Rattle.lowering_laws.specs.Midway.{formed, finish, Fits, of_fetch, of_element, of_alone, of_part, of_joined, of_before, of_between, of_function, of_reference, first_of, both_of, guard_of, IsMidway, at_start, at_end, in_operands, in_deciding, in_left, in_right, in_arguments, in_expansion, AreMidway, none_left, at_first, at_later}
use Rattle.lowering_laws.proofs.WalkLemmas.{split, ordinary_by, spans_up, spans_length, spans_nothing, spans_one, spans_first, same_refl, same_trans, same_less, kept_above, kept_there, lasts_same, lasts_more, all_last_same, all_last_more, behind, with_less, then_met, then_at_once, without_steps, at_its_end}
use Rattle.lowering_laws.proofs.ShapeLemmas.{and_false, no_reference, none_call, no_steps, free_grows, all_grow, lower_formed, reduce_formed}
use Rattle.lowering_laws.proofs.ClosingLemmas.{suits, keeps_one, kept_comes, kept_step, value_met, closing_met}

-- ## Residual operands

-- operands that are as many
AsMany : Terms → Terms → Type 0
AsMany NoMore NoMore = Unit {0}
AsMany (More t ts) (More r rs) = AsMany ts rs
AsMany NoMore (More r rs) = ⊥
AsMany (More t ts) NoMore = ⊥

as_many_refl : (ts : Terms) → AsMany ts ts
unfolding AsMany
as_many_refl NoMore = tt
as_many_refl (More t ts) = as_many_refl ts

still_as_many : {u : Text} {f : Frame} {env : Pures} {es : List Datum} {purpose : Purpose} {k : ℕ} {ts rs : Terms} {p : ℕ} {m : Temporaries} {q : ℕ} → AreMidway u f env es purpose k ts rs p m q → AsMany ts rs
unfolding AsMany
still_as_many none_left = tt
still_as_many (at_first {ts = ts} one spans) = as_many_refl ts
still_as_many (at_later d lasts more) = still_as_many more

still_fits : (shape : Shape) (ts rs : Terms) → Fits shape ts → AsMany ts rs → Fits shape rs
unfolding AsMany
still_fits AsFetch _ NoMore of_fetch many = absurd many
still_fits AsFetch _ (More r NoMore) of_fetch many = of_fetch
still_fits AsFetch _ (More r (More r' rs)) of_fetch many = absurd many
still_fits (AsElement x) ts rs of_element many = of_element
still_fits AsAlone _ NoMore of_alone many = absurd many
still_fits AsAlone _ (More r NoMore) of_alone many = of_alone
still_fits AsAlone _ (More r (More r' rs)) of_alone many = absurd many
still_fits (AsPart x) _ NoMore of_part many = absurd many
still_fits (AsPart x) _ (More r NoMore) of_part many = absurd many
still_fits (AsPart x) _ (More r (More r' NoMore)) of_part many = absurd many
still_fits (AsPart x) _ (More r (More r' (More r'' NoMore))) of_part many = of_part
still_fits (AsPart x) _ (More r (More r' (More r'' (More r''' rs)))) of_part many = absurd many
still_fits AsJoined ts rs of_joined many = of_joined
still_fits (AsBefore op) _ NoMore of_before many = absurd many
still_fits (AsBefore op) _ (More r NoMore) of_before many = of_before
still_fits (AsBefore op) _ (More r (More r' rs)) of_before many = absurd many
still_fits (AsBetween op) _ NoMore (of_between e) many = absurd many
still_fits (AsBetween op) _ (More r NoMore) (of_between e) many = absurd many
still_fits (AsBetween op) _ (More r (More r' NoMore)) (of_between e) many = of_between e
still_fits (AsBetween op) _ (More r (More r' (More r'' rs))) (of_between e) many = absurd many
still_fits (AsFunction function) ts rs of_function many = of_function
still_fits (AsReference callee) ts rs of_reference many = of_reference

valued_all : (c : Facts) (f : Frame) (s : Store) (es ds : List Datum) → reduce_all c f s es (valued_then ds NoMore) ≡ Valued ds
unfolding reduce_all reduce valued_then then_by
valued_all c f s es [] = refl
valued_all c f s es (d ∷ ds) = ap (λ x. then_by x (More (Val d)) (λ ds. Valued (d ∷ ds))) (valued_all c f s es ds)

-- ## .AND. and .OR.

lower_deciding : (env : Pures) (purpose : Purpose) (k : ℕ) (op : Operator) (t b : Term) → takes_steps ForUse b ≡ false →
    lower env purpose k (Between op t b) ≡ shaped (AsBetween op) purpose k (and_then (lower env ForUse k t) (λ n. and_then (lower env ForUse n b) no_operand))
unfolding lower lowered_between ahead
lower_deciding env purpose k op t b e =
    ap (λ x. lowered_between (may_decide op && x) (refers b || false) op purpose k (λ p. lower env p k t) (λ n. lower env ForUse n b)) e
    ∙ ap (λ y. lowered_between y (refers b || false) op purpose k (λ p. lower env p k t) (λ n. lower env ForUse n b)) (and_false (may_decide op))
    ∙ ap (λ y. lowered_between false (y || false) op purpose k (λ p. lower env p k t) (λ n. lower env ForUse n b)) (no_reference ForUse b e)

lower_guarded : (env : Pures) (purpose : Purpose) (k : ℕ) (op : Operator) (t b : Term) → may_decide op ≡ true → takes_steps ForUse b ≡ true →
    lower env purpose k (Between op t b) ≡ guarded op k (lower env ForUse k t) (lower env ForUse k b)
unfolding lower lowered_between
lower_guarded env purpose k op t b may e =
    ap (λ x. lowered_between (may_decide op && x) (refers b || false) op purpose k (λ p. lower env p k t) (λ n. lower env ForUse n b)) e
    ∙ ap (λ y. lowered_between (y && true) (refers b || false) op purpose k (λ p. lower env p k t) (λ n. lower env ForUse n b)) may

data Decides : Operator → Type 0 where
  by_both : Decides Both
  by_either : Decides Either

decides : (op : Operator) → may_decide op ≡ true → Decides op
unfolding may_decide
decides Both may = by_both
decides Either may = by_either
decides operator.Add may = absurd (true≢false (sym may))
decides operator.Subtract may = absurd (true≢false (sym may))
decides operator.Multiply may = absurd (true≢false (sym may))
decides operator.Divide may = absurd (true≢false (sym may))
decides operator.IsLess may = absurd (true≢false (sym may))
decides operator.IsLessOrEqual may = absurd (true≢false (sym may))
decides operator.IsEqual may = absurd (true≢false (sym may))
decides operator.IsNotEqual may = absurd (true≢false (sym may))
decides operator.IsGreater may = absurd (true≢false (sym may))
decides operator.IsGreaterOrEqual may = absurd (true≢false (sym may))
decides operator.Same may = absurd (true≢false (sym may))
decides operator.Different may = absurd (true≢false (sym may))

wanted_both : (a : Datum) → left_of Both a ≡ Wants → a ≡ IsLog true
unfolding left_of
wanted_both (IsLog true) e = refl
wanted_both (IsLog false) e = absurd (cc)
wanted_both (value.IsInt z) e = absurd (cc)
wanted_both (value.IsText cs) e = absurd (cc)
wanted_both (value.IsSpot r) e = absurd (cc)
wanted_both (value.IsProc x) e = absurd (cc)
wanted_both (value.IsLabel l) e = absurd (cc)
wanted_both value.Nothing e = absurd (cc)

decided_both : (a d : Datum) → left_of Both a ≡ Decided d → (a ≡ IsLog false) × (d ≡ IsLog false)
unfolding left_of
decided_both (IsLog true) d e = absurd (cc)
decided_both (IsLog false) d e = (refl, (let is : d ≡ IsLog false = cc in is))
decided_both (value.IsInt z) d e = absurd (cc)
decided_both (value.IsText cs) d e = absurd (cc)
decided_both (value.IsSpot r) d e = absurd (cc)
decided_both (value.IsProc x) d e = absurd (cc)
decided_both (value.IsLabel l) d e = absurd (cc)
decided_both value.Nothing d e = absurd (cc)

right_both : (d d' : Datum) → operated Both (IsLog true) d ≡ Gives d' → d ≡ d'
unfolding operated on_logicals
right_both (IsLog b) d' e = (let is : IsLog b ≡ d' = cc in is)
right_both (value.IsInt z) d' e = absurd (cc)
right_both (value.IsText cs) d' e = absurd (cc)
right_both (value.IsSpot r) d' e = absurd (cc)
right_both (value.IsProc x) d' e = absurd (cc)
right_both (value.IsLabel l) d' e = absurd (cc)
right_both value.Nothing d' e = absurd (cc)

wanted_either : (a : Datum) → left_of Either a ≡ Wants → a ≡ IsLog false
unfolding left_of
wanted_either (IsLog false) e = refl
wanted_either (IsLog true) e = absurd (cc)
wanted_either (value.IsInt z) e = absurd (cc)
wanted_either (value.IsText cs) e = absurd (cc)
wanted_either (value.IsSpot r) e = absurd (cc)
wanted_either (value.IsProc x) e = absurd (cc)
wanted_either (value.IsLabel l) e = absurd (cc)
wanted_either value.Nothing e = absurd (cc)

decided_either : (a d : Datum) → left_of Either a ≡ Decided d → (a ≡ IsLog true) × (d ≡ IsLog true)
unfolding left_of
decided_either (IsLog false) d e = absurd (cc)
decided_either (IsLog true) d e = (refl, (let is : d ≡ IsLog true = cc in is))
decided_either (value.IsInt z) d e = absurd (cc)
decided_either (value.IsText cs) d e = absurd (cc)
decided_either (value.IsSpot r) d e = absurd (cc)
decided_either (value.IsProc x) d e = absurd (cc)
decided_either (value.IsLabel l) d e = absurd (cc)
decided_either value.Nothing d e = absurd (cc)

right_either : (d d' : Datum) → operated Either (IsLog false) d ≡ Gives d' → d ≡ d'
unfolding operated on_logicals
right_either (IsLog b) d' e = (let is : IsLog b ≡ d' = cc in is)
right_either (value.IsInt z) d' e = absurd (cc)
right_either (value.IsText cs) d' e = absurd (cc)
right_either (value.IsSpot r) d' e = absurd (cc)
right_either (value.IsProc x) d' e = absurd (cc)
right_either (value.IsLabel l) d' e = absurd (cc)
right_either value.Nothing d' e = absurd (cc)

-- the value of a right operand that is wanted is that of the operator
right_value : (op : Operator) (a d d' : Datum) → Decides op → left_of op a ≡ Wants → operated op a d ≡ Gives d' → d ≡ d'
right_value _ a d d' by_both wants e = right_both d d' (subst (λ z. operated Both z d ≡ Gives d') (wanted_both a wants) e)
right_value _ a d d' by_either wants e = right_either d d' (subst (λ z. operated Either z d ≡ Gives d') (wanted_either a wants) e)

-- the guard holds where the right operand is wanted, and not where the left one decides, with its own value
guard_holds : (c : Facts) (f : Frame) (s : Store) (op : Operator) (k : ℕ) (a : Datum) (m : Temporaries) → Decides op → left_of op a ≡ Wants → m k ≡ Some a → meant c f m s (wanted_where op k) ≡ Gives (IsLog true)
unfolding wanted_where meant if_kept given_that prefixed
guard_holds c f s _ k a m by_both wants there = ap if_kept there ∙ ap Gives (wanted_both a wants)
guard_holds c f s _ k a m by_either wants there = ap (λ x. given_that (if_kept x) (prefixed Complement)) there ∙ ap (prefixed Complement) (wanted_either a wants)

guard_fails : (c : Facts) (f : Frame) (s : Store) (op : Operator) (k : ℕ) (a d : Datum) (m : Temporaries) → Decides op → left_of op a ≡ Decided d → m k ≡ Some a → meant c f m s (wanted_where op k) ≡ Gives (IsLog false)
unfolding wanted_where meant if_kept given_that prefixed
guard_fails c f s _ k a d m by_both decided there = ap if_kept there ∙ ap Gives (decided_both a d decided).0
guard_fails c f s _ k a d m by_either decided there = ap (λ x. given_that (if_kept x) (prefixed Complement)) there ∙ ap (prefixed Complement) (decided_either a d decided).0

decided_value : (op : Operator) (a d : Datum) → Decides op → left_of op a ≡ Decided d → a ≡ d
decided_value _ a d by_both decided = let e = decided_both a d decided in e.0 ∙ sym e.1
decided_value _ a d by_either decided = let e = decided_either a d decided in e.0 ∙ sym e.1

-- ## What is proved of an expression

module _ (u : Text) (f : Frame) (h : ℕ) (w : World) where
  -- an expression, or what is left of it, from a position to the end of its code
  unfoldable pub TermMet : Pures → List Datum → Purpose → ℕ → Term → Term → ℕ → Temporaries → ℕ → Type 0
  TermMet env es purpose k t r p m q =
      Met u f h w k p m q (λ d m'. Comes u.facts f w.store purpose (lower env purpose k t).free m' (lower env purpose k t).value d) (λ r' p' m'. IsMidway u f env es purpose k t r' p' m' q) (reduce u.facts f w.store es r)

  unfoldable pub TermsMet : Pures → List Datum → Purpose → ℕ → Terms → Terms → ℕ → Temporaries → ℕ → Type 0
  TermsMet env es purpose k ts rs p m q =
      Met u f h w k p m q (λ ds m'. AllCome u.facts f w.store purpose (lower_all env purpose k ts).free m' (lower_all env purpose k ts).value ds) (λ rs' p' m'. AreMidway u f env es purpose k ts rs' p' m' q) (reduce_all u.facts f w.store es rs)

  unfoldable pub Begins : Pures → List Datum → Purpose → ℕ → Term → Type 0
  Begins env es purpose k t = (p q : ℕ) (m : Temporaries) → Spans u p (lower env purpose k t).steps q → AllLast u.facts f k m env es → TermMet env es purpose k t t p m q

  unfoldable pub AllBegin : Pures → List Datum → Purpose → ℕ → Terms → Type 0
  AllBegin env es purpose k ts = (p q : ℕ) (m : Temporaries) → Spans u p (lower_all env purpose k ts).steps q → AllLast u.facts f k m env es → TermsMet env es purpose k ts ts p m q

  -- ## Forms over operands

  close_shape : (env : Pures) (es : List Datum) (purpose : Purpose) (k : ℕ) (shape : Shape) (ts rs : Terms) (p q q' : ℕ) (m : Temporaries) → Fits shape ts → Fits shape rs →
      TermsMet env es (operand_purpose shape purpose) k ts rs p m q → Spans u q (closing shape purpose k (lower_all env (operand_purpose shape purpose) k ts).value) q' →
      TermMet env es purpose k (formed shape ts) (formed shape rs) p m q'
  unfolding TermMet TermsMet shaped
  close_shape env es purpose k shape ts rs p q q' m fits fits' operands spans =
      let l = lower_all env (operand_purpose shape purpose) k ts in
      subst (λ x. Met u f h w k p m q' (λ d m'. Comes u.facts f w.store purpose (lower env purpose k (formed shape ts)).free m' (lower env purpose k (formed shape ts)).value d) (λ r' p' m'. IsMidway u f env es purpose k (formed shape ts) r' p' m' q') x)
      (sym (reduce_formed u.facts f w.store es shape rs fits'))
      (then_met u f h w (formed shape) (finish u.facts f w.store shape) (spans_up u spans) operands
      (λ rs' n m' same mid. in_operands fits mid spans)
      (λ ds m' come same.
      subst (λ (z : Lowered Pure). Met u f h w k q m' q' (λ d m''. Comes u.facts f w.store purpose z.free m'' z.value d) (λ r' p' m''. IsMidway u f env es purpose k (formed shape ts) r' p' m'' q') (finish u.facts f w.store shape ds))
      (sym (lower_formed env purpose k shape ts fits))
      (closing_met u f h w shape purpose k l.free q q' m' l.value ds (suits env (operand_purpose shape purpose) k shape ts fits) come spans
      (λ d m'' lasts. at_end (subst (λ (z : Lowered Pure). Lasts u.facts f z.free m'' z.value d) (sym (lower_formed env purpose k shape ts fits)) lasts)))))

  begin_shape : (env : Pures) (es : List Datum) (purpose : Purpose) (k : ℕ) (shape : Shape) (ts : Terms) → Fits shape ts → AllBegin env es (operand_purpose shape purpose) k ts → Begins env es purpose k (formed shape ts)
  unfolding Begins AllBegin shaped
  begin_shape env es purpose k shape ts fits operands p q m spans argued =
      let l = lower_all env (operand_purpose shape purpose) k ts in
      let parts = split u l.steps (subst (λ (z : Lowered Pure). Spans u p z.steps q) (lower_formed env purpose k shape ts fits) spans) in
      close_shape env es purpose k shape ts ts p parts.0 q m fits fits (operands p parts.0 m parts.1 argued) parts.2

  -- ## Operands from left to right

  begin_none : (env : Pures) (es : List Datum) (purpose : Purpose) (k : ℕ) → AllBegin env es purpose k NoMore
  unfolding AllBegin TermsMet lower_all no_operand plain reduce_all all_meant
  begin_none env es purpose k p q m spans argued =
      let end = spans_nothing u spans in
      record { met = record { kept = m; way = subst (λ z. Keeps u f h w p m z m) (sym end) stays; same = same_refl k m; good = record { now = λ m' same. refl; later = λ is. tt } } }

  later_ahead : (purpose : Purpose) (b : Bool) → purpose ≡ ForLater → ahead purpose b ≡ ForLater
  unfolding ahead
  later_ahead purpose true is = refl
  later_ahead purpose false is = is

  -- a first operand that has come, and the others behind it
  come_on : (env : Pures) (purpose : Purpose) (k : ℕ) (t : Term) (ts : Terms) (m m' : Temporaries) (d : Datum) (ds : List Datum) →
      Comes u.facts f w.store (ahead purpose (any_refers ts)) (first_of env purpose k t ts).free m (first_of env purpose k t ts).value d → SameBelow (first_of env purpose k t ts).free m m' →
      AllCome u.facts f w.store purpose (lower_all env purpose (first_of env purpose k t ts).free ts).free m' (lower_all env purpose (first_of env purpose k t ts).free ts).value ds →
      AllCome u.facts f w.store purpose (lower_all env purpose k (More t ts)).free m' (lower_all env purpose k (More t ts)).value (d ∷ ds)
  unfolding lower_all and_then all_meant given_that
  come_on env purpose k t ts m m' d ds one same more =
      let n = (first_of env purpose k t ts).free in
      let n' = (lower_all env purpose n ts).free in
      let grows : n ≤ n' = all_grow env purpose n ts in
      record {
        now = λ m'' after.
            ap (λ x. given_that x (λ d. given_that (all_meant u.facts f m'' w.store (lower_all env purpose n ts).value) (λ ds. Gives (d ∷ ds)))) (one.now m'' (same_trans n m m' m'' same (same_less n n' m' m'' grows after)))
            ∙ ap (λ x. given_that x (λ ds. Gives (d ∷ ds))) (more.now m'' after);
        later = λ is. (
          lasts_more u.facts f n n' m' (first_of env purpose k t ts).value d grows
              (lasts_same u.facts f n m m' (first_of env purpose k t ts).value d same (one.later (later_ahead purpose (any_refers ts) is))),
          more.later is,
        );
      }

  -- a value at the end of the code
  valued_here : {A T : Type 0} {Good : A → Temporaries → Type 0} {Left : T → ℕ → Temporaries → Type 0} {k p q : ℕ} {m : Temporaries} (a : A) → q ≡ p → Good a m → Met u f h w k p m q Good Left (Valued a)
  valued_here {k = k} {p = p} {q = q} {m = m} a end good = record { met = record { kept = m; way = subst (λ z. Keeps u f h w p m z m) (sym end) stays; same = same_refl k m; good = good } }

  -- the first operand has come, and lasts; the others follow
  close_first : (env : Pures) (es : List Datum) (purpose : Purpose) (k : ℕ) (t : Term) (ts rs : Terms) (p q : ℕ) (m : Temporaries) (d : Datum) →
      Lasts u.facts f (first_of env purpose k t ts).free m (first_of env purpose k t ts).value d →
      TermsMet env es purpose (first_of env purpose k t ts).free ts rs p m q → TermsMet env es purpose k (More t ts) (More (Val d) rs) p m q
  unfolding TermsMet reduce_all reduce then_by
  close_first env es purpose k t ts rs p q m d lasts more =
      let n = (first_of env purpose k t ts).free in
      with_less u f h w (free_grows env (ahead purpose (any_refers ts)) k t)
      (then_met u f h w (More (Val d)) (λ ds. Valued (d ∷ ds)) (omega arith) more
      (λ rs' p' m' same mid. at_later d (lasts_same u.facts f n m m' (first_of env purpose k t ts).value d same lasts) mid)
      (λ ds m' come same. valued_here (d ∷ ds) refl
      (come_on env purpose k t ts m m' d ds (record { now = λ m'' after. lasts m'' w.store after; later = λ is. lasts }) same come)))

  -- the first operand, or what is left of it; the others are at their start
  close_head : (env : Pures) (es : List Datum) (purpose : Purpose) (k : ℕ) (t r : Term) (ts : Terms) (p q q' : ℕ) (m : Temporaries) → TermMet env es (ahead purpose (any_refers ts)) k t r p m q →
      AllBegin env es purpose (first_of env purpose k t ts).free ts → Spans u q (lower_all env purpose (first_of env purpose k t ts).free ts).steps q' → AllLast u.facts f k m env es → TermsMet env es purpose k (More t ts) (More r ts) p m q'
  unfolding AllBegin TermsMet TermMet reduce_all lower_all and_then ahead then_by
  close_head env es purpose k t r ts p q q' m one more spans argued =
      then_met u f h w (λ r'. More r' ts) (λ d. then_by (reduce_all u.facts f w.store es ts) (More (Val d)) (λ ds. Valued (d ∷ ds))) (spans_up u spans) one
      (λ r' p' m' same mid. at_first mid spans)
      (λ d m' come same. others (any_refers ts) refl d m' come (more q q' m' spans (all_last_more u.facts f k n m' env es grows (all_last_same u.facts f k m m' env es same argued))))
    where
      n : ℕ
      n = (first_of env purpose k t ts).free

      grows : k ≤ n
      grows = free_grows env (ahead purpose (any_refers ts)) k t

      others : (b : Bool) → any_refers ts ≡ b → (d : Datum) (m' : Temporaries) → Comes u.facts f w.store (ahead purpose (any_refers ts)) n m' (first_of env purpose k t ts).value d →
          TermsMet env es purpose n ts ts q m' q' →
          Met u f h w k q m' q' (λ ds m''. AllCome u.facts f w.store purpose (lower_all env purpose k (More t ts)).free m'' (lower_all env purpose k (More t ts)).value ds) (λ rs' p'' m''. AreMidway u f env es purpose k (More t ts) rs' p'' m'' q')
          (then_by (reduce_all u.facts f w.store es ts) (More (Val d)) (λ ds. Valued (d ∷ ds)))
      others true refer d m' come tail = close_first env es purpose k t ts ts q q' m' d (come.later (ap (ahead purpose) refer)) tail
      others false refer d m' come tail =
          with_less u f h w grows
          (then_at_once u f h w (More (Val d)) (λ ds. Valued (d ∷ ds)) (none_call u.facts f w.store es ts refer) tail
          (λ ds m'' come' same. valued_here (d ∷ ds) refl (come_on env purpose k t ts m' m'' d ds come same come')))

  begin_more : (env : Pures) (es : List Datum) (purpose : Purpose) (k : ℕ) (t : Term) (ts : Terms) → Begins env es (ahead purpose (any_refers ts)) k t → AllBegin env es purpose (first_of env purpose k t ts).free ts → AllBegin env es purpose k (More t ts)
  unfolding AllBegin Begins lower_all and_then
  begin_more env es purpose k t ts one more p q m spans argued =
      let parts = split u (first_of env purpose k t ts).steps spans in
      close_head env es purpose k t t ts p parts.0 q m (one p parts.0 m parts.1 argued) more parts.2 argued

  -- ## The right operand, where it takes no steps

  deciding_value : (op : Operator) (a : Datum) (m : Temporaries) (left right : Pure) → meant u.facts f m w.store left ≡ Gives a →
      meant u.facts f m w.store (Operated op left right) ≡ where_wanted (left_of op a) (given_that (meant u.facts f m w.store right) (operated op a))
  unfolding meant given_that
  deciding_value op a m left right e = ap (λ x. given_that x (λ a. where_wanted (left_of op a) (given_that (meant u.facts f m w.store right) (operated op a)))) e

  -- behind the left operand: the right one takes no steps, and its value is a part of the whole
  deciding_met : (env : Pures) (es : List Datum) (purpose : Purpose) (k : ℕ) (op : Operator) (t b : Term) (q q' : ℕ) (m : Temporaries) (Left' : Term → ℕ → Temporaries → Type 0) → takes_steps ForUse b ≡ false →
      Begins env es ForUse (lower env ForUse k t).free b → Spans u q (kept_steps purpose k (Operated op (lower env ForUse k t).value (lower env ForUse (lower env ForUse k t).free b).value)) q' → AllLast u.facts f k m env es →
      (a : Datum) → Comes u.facts f w.store ForUse (lower env ForUse k t).free m (lower env ForUse k t).value a → (l : Left) → left_of op a ≡ l →
      Met u f h w k q m q'
      (λ d m'. Comes u.facts f w.store purpose (kept_free purpose k (lower env ForUse (lower env ForUse k t).free b).free) m' (kept_value purpose k (Operated op (lower env ForUse k t).value (lower env ForUse (lower env ForUse k t).free b).value)) d) Left'
      (right_after l (then_by (reduce u.facts f w.store es b) (Between op (Val a)) (λ d. at_once (operated op a d))))
  unfolding Begins TermMet right_after at_once where_wanted given_that
  deciding_met env es purpose k op t b q q' m Left' takes right spans argued a left (Decided d) e =
      let n = (lower env ForUse k t).free in
      let n' = (lower env ForUse n b).free in
      let l = (lower env ForUse k t).value in
      let r = (lower env ForUse n b).value in
      let pure = Operated op l r in
      let is : (m' : Temporaries) → SameBelow n' m m' → meant u.facts f m' w.store pure ≡ Gives d =
      λ m' same. deciding_value op a m' l r (left.now m' (same_less n n' m m' (free_grows env ForUse n b) same)) ∙ ap (λ z. where_wanted z (given_that (meant u.facts f m' w.store r) (operated op a))) e in
      subst (λ x. Met u f h w k q m q' (λ d m'. Comes u.facts f w.store purpose (kept_free purpose k n') m' (kept_value purpose k pure) d) Left' x) (ap at_once (is m (same_refl n' m)))
      (value_met u f h w purpose k n' q q' m pure (λ d' e' m' same. is m' same ∙ sym (is m (same_refl n' m)) ∙ e') spans)
  deciding_met env es purpose k op t b q q' m Left' takes right spans argued a left Wants e =
      let n = (lower env ForUse k t).free in
      let n' = (lower env ForUse n b).free in
      let l = (lower env ForUse k t).value in
      let r = (lower env ForUse n b).value in
      let pure = Operated op l r in
      without_steps u f h w (Between op (Val a)) (λ d. at_once (operated op a d)) refl
      (right q q m (subst (λ z. Spans u q z q) (sym (no_steps env ForUse n b takes)) nothing) (all_last_more u.facts f k n m env es (free_grows env ForUse k t) argued))
      (λ d come.
      let is : (m' : Temporaries) → SameBelow n' m m' → meant u.facts f m' w.store pure ≡ operated op a d =
      λ m' same. deciding_value op a m' l r (left.now m' (same_less n n' m m' (free_grows env ForUse n b) same)) ∙ ap (λ z. where_wanted z (given_that (meant u.facts f m' w.store r) (operated op a))) e
      ∙ ap (λ z. given_that z (operated op a)) (come.now m' same) in
      subst (λ x. Met u f h w k q m q' (λ d m'. Comes u.facts f w.store purpose (kept_free purpose k n') m' (kept_value purpose k pure) d) Left' x) (ap at_once (is m (same_refl n' m)))
      (value_met u f h w purpose k n' q q' m pure (λ d' e' m' same. is m' same ∙ sym (is m (same_refl n' m)) ∙ e') spans))
  deciding_met env es purpose k op t b q q' m Left' takes right spans argued a left Wrong e = record { met = tt }

  close_deciding : (env : Pures) (es : List Datum) (purpose : Purpose) (k : ℕ) (op : Operator) (t b r : Term) (p q q' : ℕ) (m : Temporaries) → may_decide op ≡ true → takes_steps ForUse b ≡ false →
      TermMet env es ForUse k t r p m q → Begins env es ForUse (lower env ForUse k t).free b → Spans u q (closing (AsBetween op) purpose k (both_of env k t b)) q' → AllLast u.facts f k m env es →
      TermMet env es purpose k (Between op t b) (Between op r b) p m q'
  unfolding TermMet reduce shaped and_then no_operand plain closing closed_value closed_free pure_of
  close_deciding env es purpose k op t b r p q q' m may takes left right spans argued =
      subst (λ (z : Lowered Pure). Met u f h w k p m q' (λ d m'. Comes u.facts f w.store purpose z.free m' z.value d) (λ r' p' m'. IsMidway u f env es purpose k (Between op t b) r' p' m' q') (reduce u.facts f w.store es (Between op r b)))
      (sym (lower_deciding env purpose k op t b takes))
      (then_met u f h w (λ r'. Between op r' b) (λ a. right_after (left_of op a) (then_by (reduce u.facts f w.store es b) (Between op (Val a)) (λ d. at_once (operated op a d)))) (spans_up u spans) left
      (λ r' p' m' same mid. in_deciding may takes mid spans)
      (λ a m' come same.
      deciding_met env es purpose k op t b q q' m' _ takes right spans (all_last_same u.facts f k m m' env es same argued) a come (left_of op a) refl))

  begin_deciding : (env : Pures) (es : List Datum) (purpose : Purpose) (k : ℕ) (op : Operator) (t b : Term) → may_decide op ≡ true → takes_steps ForUse b ≡ false → Begins env es ForUse k t → Begins env es ForUse (lower env ForUse k t).free b →
      Begins env es purpose k (Between op t b)
  unfolding Begins shaped and_then no_operand plain
  begin_deciding env es purpose k op t b may takes left right p q m spans argued =
      let n = (lower env ForUse k t).free in
      let code = subst (λ (z : Lowered Pure). Spans u p z.steps q) (lower_deciding env purpose k op t b takes) spans in
      let outer = split u ((lower env ForUse k t).steps ++ ((lower env ForUse n b).steps ++ [])) code in
      let inner = split u (lower env ForUse k t).steps outer.1 in
      let none : (lower env ForUse n b).steps ++ [] ≡ [] = ap (λ z. z ++ []) (no_steps env ForUse n b takes) in
      let end : outer.0 ≡ inner.0 = spans_nothing u (subst (λ z. Spans u inner.0 z outer.0) none inner.2) in
      close_deciding env es purpose k op t b t p inner.0 q m may takes (left p inner.0 m inner.1 argued) right (subst (λ z. Spans u z (closing (AsBetween op) purpose k (both_of env k t b)) q) end outer.2) argued

  -- ## The guarded right operand

  unless_step : (q n : ℕ) (m : Temporaries) (p : Pure) (b : Bool) → slice_get u.steps q ≡ Some (Unless p n) → meant u.facts f m w.store p ≡ Gives (IsLog b) →
      step u (at_step f h q m) w ≡ testing (suc q) (suc q + n) (at_step f h q m) w (Gives (IsLog b))
  unfolding step done
  unless_step q n m p b there e = ap (done u (at_step f h q m) w) there ∙ ap (testing (suc q) (suc q + n) (at_step f h q m) w) e

  close_right : (env : Pures) (es : List Datum) (purpose : Purpose) (k : ℕ) (op : Operator) (t b r : Term) (a : Datum) (p q q' : ℕ) (m : Temporaries) → may_decide op ≡ true → takes_steps ForUse b ≡ true → left_of op a ≡ Wants →
      TermMet env es ForUse k b r p m q → Spans u q (Keep k (lower env ForUse k b).value ∷ []) q' → TermMet env es purpose k (Between op t b) (Between op (Val a) r) p m q'
  unfolding TermMet reduce then_by guarded right_after
  close_right env es purpose k op t b r a p q q' m may takes wants right spans =
      let one = spans_one u spans in
      subst (λ (z : Lowered Pure). Met u f h w k p m q' (λ d m'. Comes u.facts f w.store purpose z.free m' z.value d) (λ r' p' m'. IsMidway u f env es purpose k (Between op t b) r' p' m' q') (reduce u.facts f w.store es (Between op (Val a) r)))
      (sym (lower_guarded env purpose k op t b may takes))
      (subst (λ l. Met u f h w k p m q' (λ d m'. Comes u.facts f w.store purpose (suc k) m' (Temporary k) d) (λ r' p' m'. IsMidway u f env es purpose k (Between op t b) r' p' m' q')
      (right_after l (then_by (reduce u.facts f w.store es r) (Between op (Val a)) (λ d. at_once (operated op a d))))) (sym wants)
      (then_met u f h w (Between op (Val a)) (λ d. at_once (operated op a d)) (spans_up u spans) right
      (λ r' p' m' same mid. in_right a may takes wants mid spans)
      (λ d m' come same.
      subst (λ z. Met u f h w k q m' z (λ d m''. Comes u.facts f w.store purpose (suc k) m'' (Temporary k) d) (λ r' p' m''. IsMidway u f env es purpose k (Between op t b) r' p' m'' q') (at_once (operated op a d))) (sym one.1)
      (keeps_one u f h w k q m' (operated op a d) (ordinary_by u q (Keep k (lower env ForUse k b).value) one.0 tt)
      (λ d' e. kept_step u f h w k q m' (lower env ForUse k b).value d' one.0 (come.now m' (same_refl (lower env ForUse k b).free m') ∙ ap Gives (right_value op a d d' (decides op may) wants e)))
      (λ d' e. kept_comes u f h w purpose k d' m')))))

  -- a forward way of two steps
  two_steps : {q q' : ℕ} {m m' : Temporaries} → IsOrdinary u q → IsOrdinary u (suc q) → step u (at_step f h q m) w ≡ Goes (at_step f h (suc q) m') w → step u (at_step f h (suc q) m') w ≡ Goes (at_step f h q' m') w → suc q < q' → Keeps u f h w q m q' m'
  two_steps ordinary ordinary' one two forward = goes ordinary one (omega arith) (goes ordinary' two forward stays)

  length_with_one : (xs : List Step) (x : Step) → length (xs ++ x ∷ []) ≡ suc (length xs)
  length_with_one [] x = refl
  length_with_one (y ∷ xs) x = ap suc (length_with_one xs x)

  guarded_met : (env : Pures) (es : List Datum) (purpose : Purpose) (k : ℕ) (op : Operator) (t b : Term) (q q' : ℕ) (m : Temporaries) → may_decide op ≡ true → takes_steps ForUse b ≡ true → Begins env es ForUse k b →
      Spans u q (guard_of op k (lower env ForUse k t).value (lower env ForUse k b)) q' → AllLast u.facts f k m env es → (a : Datum) → meant u.facts f m w.store (lower env ForUse k t).value ≡ Gives a → (l : Left) → left_of op a ≡ l →
      Met u f h w k q m q' (λ d m'. Comes u.facts f w.store purpose (lower env purpose k (Between op t b)).free m' (lower env purpose k (Between op t b)).value d) (λ r' p' m'. IsMidway u f env es purpose k (Between op t b) r' p' m' q')
      (right_after l (then_by (reduce u.facts f w.store es b) (Between op (Val a)) (λ d. at_once (operated op a d))))
  unfolding Begins TermMet reduce then_by right_after guarded testing to
  guarded_met env es purpose k op t b q q' m may takes right spans argued a now (Decided d) e =
      let first = spans_first u spans in
      let second = spans_first u first.1 in
      let m1 = with_kept k a m in
      let n = suc (length (lower env ForUse k b).steps) in
      let long = spans_length u second.1 in
      let counted = length_with_one (lower env ForUse k b).steps (Keep k (lower env ForUse k b).value) in
      let end : suc (suc q) + n ≡ q' = sym (long ∙ ap (λ z. suc (suc q) + z) counted) in
      let one = kept_step u f h w k q m (lower env ForUse k t).value a first.0 now in
      let two = unless_step (suc q) n m1 (wanted_where op k) false second.0 (guard_fails u.facts f w.store op k a d m1 (decides op may) e (kept_there k a m)) ∙ ap (λ z. Goes (at_step f h z m1) w) end in
      record {
        met = record {
          kept = m1;
          way = two_steps (ordinary_by u q (Keep k (lower env ForUse k t).value) first.0 tt) (ordinary_by u (suc q) (Unless (wanted_where op k) (suc (length (lower env ForUse k b).steps))) second.0 tt) one two (omega (arith, end));
          same = kept_above k k a m (omega arith);
          good =
              subst (λ (z : Lowered Pure). Comes u.facts f w.store purpose z.free m1 z.value d) (sym (lower_guarded env purpose k op t b may takes))
              (subst (λ x. Comes u.facts f w.store purpose (suc k) m1 (Temporary k) x) (decided_value op a d (decides op may) e) (kept_comes u f h w purpose k a m));
        };
      }
  guarded_met env es purpose k op t b q q' m may takes right spans argued a now Wants e =
      let first = spans_first u spans in
      let second = spans_first u first.1 in
      let m1 = with_kept k a m in
      let n = suc (length (lower env ForUse k b).steps) in
      let one = kept_step u f h w k q m (lower env ForUse k t).value a first.0 now in
      let two = unless_step (suc q) n m1 (wanted_where op k) true second.0 (guard_holds u.facts f w.store op k a m1 (decides op may) e (kept_there k a m)) in
      let parts = split u (lower env ForUse k b).steps second.1 in
      let same = kept_above k k a m (omega arith) in
      subst (λ l. Met u f h w k q m q' (λ d m'. Comes u.facts f w.store purpose (lower env purpose k (Between op t b)).free m' (lower env purpose k (Between op t b)).value d) (λ r' p' m'. IsMidway u f env es purpose k (Between op t b) r' p' m' q')
      (right_after l (then_by (reduce u.facts f w.store es b) (Between op (Val a)) (λ d. at_once (operated op a d))))) e
      (behind u f h w (two_steps (ordinary_by u q (Keep k (lower env ForUse k t).value) first.0 tt) (ordinary_by u (suc q) (Unless (wanted_where op k) (suc (length (lower env ForUse k b).steps))) second.0 tt) one two (omega arith)) same
      (close_right env es purpose k op t b b a (suc (suc q)) parts.0 q' m1 may takes e (right (suc (suc q)) parts.0 m1 parts.1 (all_last_same u.facts f k m m1 env es same argued)) parts.2))
  guarded_met env es purpose k op t b q q' m may takes right spans argued a now Wrong e = record { met = tt }

  close_left : (env : Pures) (es : List Datum) (purpose : Purpose) (k : ℕ) (op : Operator) (t b r : Term) (p q q' : ℕ) (m : Temporaries) → may_decide op ≡ true → takes_steps ForUse b ≡ true →
      TermMet env es ForUse k t r p m q → Begins env es ForUse k b → Spans u q (guard_of op k (lower env ForUse k t).value (lower env ForUse k b)) q' → AllLast u.facts f k m env es →
      TermMet env es purpose k (Between op t b) (Between op r b) p m q'
  unfolding TermMet reduce
  close_left env es purpose k op t b r p q q' m may takes left right spans argued =
      then_met u f h w (λ r'. Between op r' b) (λ a. right_after (left_of op a) (then_by (reduce u.facts f w.store es b) (Between op (Val a)) (λ d. at_once (operated op a d)))) (spans_up u spans) left
      (λ r' p' m' same mid. in_left may takes mid spans)
      (λ a m' come same. guarded_met env es purpose k op t b q q' m' may takes right spans (all_last_same u.facts f k m m' env es same argued) a (come.now m' (same_refl (lower env ForUse k t).free m')) (left_of op a) refl)

  begin_guarded : (env : Pures) (es : List Datum) (purpose : Purpose) (k : ℕ) (op : Operator) (t b : Term) → may_decide op ≡ true → takes_steps ForUse b ≡ true → Begins env es ForUse k t → Begins env es ForUse k b → Begins env es purpose k (Between op t b)
  unfolding Begins guarded
  begin_guarded env es purpose k op t b may takes left right p q m spans argued =
      let code = subst (λ (z : Lowered Pure). Spans u p z.steps q) (lower_guarded env purpose k op t b may takes) spans in
      let parts = split u (lower env ForUse k t).steps code in
      close_left env es purpose k op t b t p parts.0 q m may takes (left p parts.0 m parts.1 argued) right parts.2 argued

  begin_between : (env : Pures) (es : List Datum) (purpose : Purpose) (k : ℕ) (op : Operator) (t b : Term) → ((purpose' : Purpose) → Begins env es purpose' k t) → ((n : ℕ) → Begins env es ForUse n b) →
      (may takes : Bool) → may_decide op ≡ may → takes_steps ForUse b ≡ takes → Begins env es purpose k (Between op t b)
  unfolding any_refers ahead operand_purpose
  begin_between env es purpose k op t b left right false takes may' takes' =
      begin_shape env es purpose k (AsBetween op) (More t (More b NoMore)) (of_between may')
      (begin_more env es ForUse k t (More b NoMore) (left (ahead ForUse (any_refers (More b NoMore))))
      (begin_more env es ForUse (first_of env ForUse k t (More b NoMore)).free b NoMore (right (first_of env ForUse k t (More b NoMore)).free)
      (begin_none env es ForUse (first_of env ForUse (first_of env ForUse k t (More b NoMore)).free b NoMore).free)))
  begin_between env es purpose k op t b left right true false may' takes' = begin_deciding env es purpose k op t b may' takes' (left ForUse) (right (lower env ForUse k t).free)
  begin_between env es purpose k op t b left right true true may' takes' = begin_guarded env es purpose k op t b may' takes' (left ForUse) (right k)

  -- ## Statement functions

  close_expansion : (env : Pures) (es : List Datum) (purpose : Purpose) (k : ℕ) (ts : Terms) (t r : Term) (p q : ℕ) (m : Temporaries) (ds : List Datum) →
      AllLast u.facts f (lower_all env ForLater k ts).free m (lower_all env ForLater k ts).value ds →
      TermMet (lower_all env ForLater k ts).value ds purpose (lower_all env ForLater k ts).free t r p m q → TermMet env es purpose k (Bind ts t) (Bind (valued_then ds NoMore) r) p m q
  unfolding TermMet reduce then_by lower in_order
  close_expansion env es purpose k ts t r p q m ds lasts body =
      let args = lower_all env ForLater k ts in
      subst (λ x. Met u f h w k p m q (λ d m'. Comes u.facts f w.store purpose (lower args.value purpose args.free t).free m' (lower args.value purpose args.free t).value d) (λ r' p' m'. IsMidway u f env es purpose k (Bind ts t) r' p' m' q)
      (then_by x (λ rs. Bind rs r) (λ ds'. then_by (reduce u.facts f w.store ds' r) (Bind (valued_then ds' NoMore)) Valued))) (sym (valued_all u.facts f w.store es ds))
      (with_less u f h w (all_grow env ForLater k ts)
      (then_met u f h w (Bind (valued_then ds NoMore)) Valued (omega arith) body
      (λ r' p' m' same mid. in_expansion ds (all_last_same u.facts f args.free m m' args.value ds same lasts) mid)
      (λ d m' come same. valued_here d refl come)))

  close_arguments : (env : Pures) (es : List Datum) (purpose : Purpose) (k : ℕ) (ts rs : Terms) (t : Term) (p q q' : ℕ) (m : Temporaries) → TermsMet env es ForLater k ts rs p m q →
      ((ds : List Datum) → Begins (lower_all env ForLater k ts).value ds purpose (lower_all env ForLater k ts).free t) → Spans u q (lower (lower_all env ForLater k ts).value purpose (lower_all env ForLater k ts).free t).steps q' →
      TermMet env es purpose k (Bind ts t) (Bind rs t) p m q'
  unfolding TermMet TermsMet Begins reduce lower in_order
  close_arguments env es purpose k ts rs t p q q' m arguments body spans =
      let args = lower_all env ForLater k ts in
      then_met u f h w (λ rs'. Bind rs' t) (λ ds. then_by (reduce u.facts f w.store ds t) (Bind (valued_then ds NoMore)) Valued) (spans_up u spans) arguments
      (λ rs' p' m' same mid. in_arguments mid spans)
      (λ ds m' come same.
      with_less u f h w (all_grow env ForLater k ts)
      (then_met u f h w (Bind (valued_then ds NoMore)) Valued (omega arith) (body ds q q' m' spans (come.later refl))
      (λ r' p' m'' same' mid. in_expansion ds (all_last_same u.facts f args.free m' m'' args.value ds same' (come.later refl)) mid)
      (λ d m'' come' same'. valued_here d refl come')))

  begin_bind : (env : Pures) (es : List Datum) (purpose : Purpose) (k : ℕ) (ts : Terms) (t : Term) → AllBegin env es ForLater k ts → ((ds : List Datum) → Begins (lower_all env ForLater k ts).value ds purpose (lower_all env ForLater k ts).free t) →
      Begins env es purpose k (Bind ts t)
  unfolding Begins AllBegin lower in_order
  begin_bind env es purpose k ts t arguments body p q m spans argued =
      let parts = split u (lower_all env ForLater k ts).steps spans in
      close_arguments env es purpose k ts ts t p parts.0 q m (arguments p parts.0 m parts.1 argued) body parts.2

  -- ## Names, constants and arguments

  begin_atom : (purpose : Purpose) (k p q : ℕ) (m : Temporaries) (x : Checked Datum) (pure : Pure) {Left' : Term → ℕ → Temporaries → Type 0} → ((d : Datum) → x ≡ Gives d → Lasts u.facts f k m pure d) → Spans u p [] q →
      Met u f h w k p m q (λ d m'. Comes u.facts f w.store purpose k m' pure d) Left' (at_once x)
  begin_atom purpose k p q m x pure {Left' = Left'} lasts spans =
      subst (λ z. Met u f h w k p m z (λ d m'. Comes u.facts f w.store purpose k m' pure d) Left' (at_once x)) (sym (spans_nothing u spans))
      (at_its_end u f h w x (λ d e. record { now = λ m' same. lasts d e m' w.store same; later = λ is. lasts d e }))

  argument_lasts : (k : ℕ) (m : Temporaries) (env : Pures) (es : List Datum) (i : ℕ) (d : Datum) → AllLast u.facts f k m env es → bound_to es i ≡ Gives d → Lasts u.facts f k m (argument env i) d
  unfolding argument bound_to
  argument_lasts k m NoPure [] i d all e = absurd (cc)
  argument_lasts k m NoPure (x ∷ es) i d all e = absurd all
  argument_lasts k m (AndPure p ps) [] i d all e = absurd all
  argument_lasts k m (AndPure p ps) (x ∷ es) zero d all e = let is : x ≡ d = cc in subst (λ z. Lasts u.facts f k m p z) is all.0
  argument_lasts k m (AndPure p ps) (x ∷ es) (suc i) d all e = argument_lasts k m ps es i d all.1 e

  -- ## The whole

  mutual
    unfolding Begins AllBegin TermMet lower lower_all plain reduce any_refers ahead operand_purpose meant at_once

    pub begin : (env : Pures) (es : List Datum) (purpose : Purpose) (k : ℕ) (t : Term) → Begins env es purpose k t
    begin env es purpose k (Val d) = λ p q m spans argued. begin_atom purpose k p q m (Gives d) (Constant d) (λ d' e. λ m' s same. e) spans
    begin env es purpose k (Fetch t) = begin_shape env es purpose k AsFetch (More t NoMore) of_fetch (begin_more env es ForUse k t NoMore (begin env es ForUse k t) (begin_none env es ForUse _))
    begin env es purpose k (At x) = λ p q m spans argued. begin_atom purpose k p q m (whole u.facts f x) (Name x) (λ d e. λ m' s same. e) spans
    begin env es purpose k (All x) = λ p q m spans argued. begin_atom purpose k p q m (array_whole u.facts f x) (AllOf x) (λ d e. λ m' s same. e) spans
    begin env es purpose k (Element x ts) = begin_shape env es purpose k (AsElement x) ts of_element (begin_all env es (for_place purpose) k ts)
    begin env es purpose k (Alone t) = begin_shape env es purpose k AsAlone (More t NoMore) of_alone (begin_more env es (for_place purpose) k t NoMore (begin env es (for_place purpose) k t) (begin_none env es (for_place purpose) _))
    begin env es purpose k (Part x t from upto) =
        begin_shape env es purpose k (AsPart x) (More t (More from (More upto NoMore))) of_part
        (begin_more env es (for_place purpose) k t (More from (More upto NoMore)) (begin env es _ k t)
        (begin_more env es (for_place purpose) _ from (More upto NoMore) (begin env es _ _ from)
        (begin_more env es (for_place purpose) _ upto NoMore (begin env es _ _ upto) (begin_none env es (for_place purpose) _))))
    begin env es purpose k (Joined ts) = begin_shape env es purpose k AsJoined ts of_joined (begin_all env es ForUse k ts)
    begin env es purpose k (Before op t) = begin_shape env es purpose k (AsBefore op) (More t NoMore) of_before (begin_more env es ForUse k t NoMore (begin env es ForUse k t) (begin_none env es ForUse _))
    begin env es purpose k (Between op t b) = begin_between env es purpose k op t b (λ purpose'. begin env es purpose' k t) (λ n. begin env es ForUse n b) (may_decide op) (takes_steps ForUse b) refl refl
    begin env es purpose k (Intrinsically function ts) = begin_shape env es purpose k (AsFunction function) ts of_function (begin_all env es (for_function (is_library function)) k ts)
    begin env es purpose k (Refer callee ts) = begin_shape env es purpose k (AsReference callee) ts of_reference (begin_all env es ForCall k ts)
    begin env es purpose k (Bind ts t) = begin_bind env es purpose k ts t (begin_all env es ForLater k ts) (λ ds. begin (lower_all env ForLater k ts).value ds purpose (lower_all env ForLater k ts).free t)
    begin env es purpose k (Bound i) = λ p q m spans argued. begin_atom purpose k p q m (bound_to es i) (argument env i) (λ d e. argument_lasts k m env es i d argued e) spans

    pub begin_all : (env : Pures) (es : List Datum) (purpose : Purpose) (k : ℕ) (ts : Terms) → AllBegin env es purpose k ts
    begin_all env es purpose k NoMore = begin_none env es purpose k
    begin_all env es purpose k (More t ts) = begin_more env es purpose k t ts (begin env es (ahead purpose (any_refers ts)) k t) (begin_all env es purpose (first_of env purpose k t ts).free ts)

  start_met : (env : Pures) (es : List Datum) (purpose : Purpose) (k : ℕ) (t : Term) (p q : ℕ) (m : Temporaries) → Spans u p (lower env purpose k t).steps q → AllLast u.facts f k m env es → TermMet env es purpose k t t p m q
  unfolding Begins
  start_met env es purpose k t p q m spans argued = begin env es purpose k t p q m spans argued

  end_met : (env : Pures) (es : List Datum) (purpose : Purpose) (k : ℕ) (t : Term) (q : ℕ) (m : Temporaries) (d : Datum) → Lasts u.facts f (lower env purpose k t).free m (lower env purpose k t).value d → TermMet env es purpose k t (Val d) q m q
  unfolding TermMet reduce
  end_met env es purpose k t q m d lasts = valued_here d refl (record { now = λ m' same. lasts m' w.store same; later = λ is. lasts })

  none_met : (env : Pures) (es : List Datum) (purpose : Purpose) (k p : ℕ) (m : Temporaries) → AllLast u.facts f k m env es → TermsMet env es purpose k NoMore NoMore p m p
  unfolding AllBegin lower_all no_operand plain
  none_met env es purpose k p m argued = begin_none env es purpose k p p m nothing argued

  mutual
    pub progress : {env : Pures} {es : List Datum} {purpose : Purpose} {k : ℕ} {t r : Term} {p : ℕ} {m : Temporaries} {q : ℕ} → IsMidway u f env es purpose k t r p m q → AllLast u.facts f k m env es → TermMet env es purpose k t r p m q
    progress {env = env} {es = es} {purpose = purpose} {k = k} {t = t} {p = p} {m = m} {q = q} (at_start spans) argued = start_met env es purpose k t p q m spans argued
    progress {env = env} {es = es} {purpose = purpose} {k = k} {t = t} {m = m} {q = q} (at_end {d = d} lasts) argued = end_met env es purpose k t q m d lasts
    progress {env = env} {es = es} {purpose = purpose} {k = k} {p = p} {m = m} {q = q'} (in_operands {shape = shape} {ts = ts} {rs = rs} {q = q} fits mid spans) argued =
        close_shape env es purpose k shape ts rs p q q' m fits (still_fits shape ts rs fits (still_as_many mid)) (progress_all mid argued) spans
    progress {env = env} {es = es} {purpose = purpose} {k = k} {p = p} {m = m} {q = q'} (in_deciding {op = op} {t = t} {b = b} {r = r} {q = q} may takes mid spans) argued =
        close_deciding env es purpose k op t b r p q q' m may takes (progress mid argued) (begin env es ForUse (lower env ForUse k t).free b) spans argued
    progress {env = env} {es = es} {purpose = purpose} {k = k} {p = p} {m = m} {q = q'} (in_left {op = op} {t = t} {b = b} {r = r} {q = q} may takes mid spans) argued =
        close_left env es purpose k op t b r p q q' m may takes (progress mid argued) (begin env es ForUse k b) spans argued
    progress {env = env} {es = es} {purpose = purpose} {k = k} {p = p} {m = m} {q = q'} (in_right {op = op} {t = t} {b = b} {r = r} {q = q} a may takes wants mid spans) argued =
        close_right env es purpose k op t b r a p q q' m may takes wants (progress mid argued) spans
    progress {env = env} {es = es} {purpose = purpose} {k = k} {p = p} {m = m} {q = q'} (in_arguments {ts = ts} {rs = rs} {t = t} {q = q} mid spans) argued =
        close_arguments env es purpose k ts rs t p q q' m (progress_all mid argued) (λ ds. begin (lower_all env ForLater k ts).value ds purpose (lower_all env ForLater k ts).free t) spans
    progress {env = env} {es = es} {purpose = purpose} {k = k} {p = p} {m = m} {q = q} (in_expansion {ts = ts} {t = t} {r = r} ds lasts mid) argued =
        close_expansion env es purpose k ts t r p q m ds lasts (progress mid lasts)

    pub progress_all : {env : Pures} {es : List Datum} {purpose : Purpose} {k : ℕ} {ts rs : Terms} {p : ℕ} {m : Temporaries} {q : ℕ} → AreMidway u f env es purpose k ts rs p m q → AllLast u.facts f k m env es → TermsMet env es purpose k ts rs p m q
    progress_all {env = env} {es = es} {purpose = purpose} {k = k} {p = p} {m = m} none_left argued = none_met env es purpose k p m argued
    progress_all {env = env} {es = es} {purpose = purpose} {k = k} {p = p} {m = m} {q = q'} (at_first {t = t} {r = r} {ts = ts} {q = q} mid spans) argued =
        close_head env es purpose k t r ts p q q' m (progress mid argued) (begin_all env es purpose (first_of env purpose k t ts).free ts) spans argued
    progress_all {env = env} {es = es} {purpose = purpose} {k = k} {p = p} {m = m} {q = q} (at_later {t = t} {ts = ts} {rs = rs} d lasts mid) argued =
        close_first env es purpose k t ts rs p q m d lasts (progress_all mid (all_last_more u.facts f k (first_of env purpose k t ts).free m env es (free_grows env (ahead purpose (any_refers ts)) k t) argued))
