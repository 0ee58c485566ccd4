-- The operands of a DO: the steps come to their values, and the variable, the limit and the step last.
use Rattle.std.specs.Prelude.{◌≡◌, ℕ, ◌≤◌, Bool, true, false, List, [], ◌∷◌}
use Rattle.std.proofs.Common.{refl, sym, ap, ◌∙◌, subst, arith}
use Rattle.fortran_laws.specs.f_tree.Values.{Datum, Gives, given_that}
use Rattle.fortran_laws.specs.f_tree.Terms.{Term, Val, Terms, NoMore, More, any_refers}
use Rattle.fortran_laws.specs.f_tree.Facts.{Facts, Frame}
use Rattle.fortran_laws.specs.f_tree.Store.{Store}
use Rattle.fortran_laws.specs.f_tree.Valuing.{Valued, then_by, reduce, reduce_all}
use Rattle.fortran_laws.specs.f_tree.World.{World}
use Rattle.lowering.specs.l_core.Pures.{Pure, Pures, NoPure, AndPure, Temporaries, all_meant}
use Rattle.lowering.specs.l_core.Steps.{Text}
use Rattle.lowering.specs.Expressions.{ForUse, ForLater, and_then, ahead, lower, lower_all}
use Rattle.lowering.specs.Statements.{loop_operands}
use Rattle.lowering_laws.specs.Walks.{Spans, Keeps, stays, SameBelow, Lasts, AllLast, Comes, AllCome, Met}
use Rattle.lowering_laws.specs.Midway.{at_start, first_value, tail_of, AreInTail, in_first, in_bounds, AreInLoop, in_variable, in_tail, LoopLast, LoopComes}
use Rattle.lowering_laws.proofs.WalkLemmas.{split, spans_up, same_refl, same_less, same_trans, lasts_same, lasts_more, with_less, then_met, then_at_once}
use Rattle.lowering_laws.proofs.ShapeLemmas.{free_grows, all_grow, none_call}
use Rattle.lowering_laws.proofs.ExpressionLemmas.{TermMet, TermsMet, AllBegin, begin_all, progress, progress_all}

-- the limit and the step behind the first value last
abbrev TailLast : Facts → Frame → ℕ → Temporaries → Pures → List Datum → Type 0
TailLast c f k m (AndPure first bounds) (e ∷ es) = AllLast c f k m bounds es
TailLast c f k m ps ds = ⊥

record TailComes (c : Facts) (f : Frame) (s : Store) (k : ℕ) (m : Temporaries) (ps : Pures) (ds : List Datum) : Type 0 where
  now : (m' : Temporaries) → SameBelow k m m' → all_meant c f m' s ps ≡ Gives ds
  last : TailLast c f k m ps ds

loop_last : (c : Facts) (f : Frame) (k n : ℕ) (m : Temporaries) (x : Pure) (ps : Pures) (d : Datum) (ds : List Datum) → Lasts c f k m x d → TailLast c f k m ps ds → LoopLast c f k m (AndPure x ps) (d ∷ ds)
loop_last c f k n m x NoPure d ds lasts tail = absurd tail
loop_last c f k n m x (AndPure first bounds) d [] lasts tail = absurd tail
loop_last c f k n m x (AndPure first bounds) d (e ∷ es) lasts tail = (lasts, tail)

module _ (u : Text) (f : Frame) (h : ℕ) (w : World) where
  valued_at : {A T : Type 0} {Good : A → Temporaries → Type 0} {Left : T → ℕ → Temporaries → Type 0} {k p q : ℕ} {m : Temporaries} (a : A) → q ≡ p → Good a m → Met u f h w k p m q Good Left (Valued a)
  valued_at {k = k} {p = p} {q = q} {m = m} a end good = record { met = record { kept = m; way = subst (λ z. Keeps u f h w p m z m) (sym end) stays; same = same_refl k m; good = good } }

  abbrev TailMet : ℕ → Term → Terms → Terms → ℕ → Temporaries → ℕ → Type 0
  TailMet n first bounds rs p m q =
      Met u f h w n p m q (λ ds m'. TailComes u.facts f w.store (tail_of n first bounds).free m' (tail_of n first bounds).value ds) (λ rs' p' m'. AreInTail u f n first bounds rs' p' m' q) (reduce_all u.facts f w.store [] rs)

  tail_on : (n : ℕ) (first : Term) (bounds : Terms) (m m' : Temporaries) (e : Datum) (es : List Datum) →
      Comes u.facts f w.store (ahead ForUse (any_refers bounds)) (first_value n first bounds).free m (first_value n first bounds).value e → SameBelow (first_value n first bounds).free m m' →
      AllCome u.facts f w.store ForLater (lower_all NoPure ForLater (first_value n first bounds).free bounds).free m' (lower_all NoPure ForLater (first_value n first bounds).free bounds).value es →
      TailComes u.facts f w.store (tail_of n first bounds).free m' (tail_of n first bounds).value (e ∷ es)
  unfolding and_then all_meant given_that
  tail_on n first bounds m m' e es one same more =
      let n1 = (first_value n first bounds).free in
      let n2 = (lower_all NoPure ForLater n1 bounds).free in
      let grows : n1 ≤ n2 = all_grow NoPure ForLater n1 bounds in
      record {
        now = λ m'' after.
            ap (λ x. given_that x (λ d. given_that (all_meant u.facts f m'' w.store (lower_all NoPure ForLater n1 bounds).value) (λ ds. Gives (d ∷ ds)))) (one.now m'' (same_trans n1 m m' m'' same (same_less n1 n2 m' m'' grows after)))
            ∙ ap (λ x. given_that x (λ ds. Gives (e ∷ ds))) (more.now m'' after);
        last = more.later refl;
      }

  close_bounds : (n : ℕ) (first : Term) (bounds rs : Terms) (p q : ℕ) (m : Temporaries) (e : Datum) → Lasts u.facts f (first_value n first bounds).free m (first_value n first bounds).value e →
      TermsMet u f h w NoPure [] ForLater (first_value n first bounds).free bounds rs p m q → TailMet n first bounds (More (Val e) rs) p m q
  unfolding TermsMet reduce_all reduce then_by
  close_bounds n first bounds rs p q m e lasts more =
      let n1 = (first_value n first bounds).free in
      with_less u f h w (free_grows NoPure (ahead ForUse (any_refers bounds)) n first)
      (then_met u f h w (More (Val e)) (λ ds. Valued (e ∷ ds)) (omega arith) more
      (λ rs' p' m' same mid. in_bounds e (lasts_same u.facts f n1 m m' (first_value n first bounds).value e same lasts) mid)
      (λ ds m' come same. valued_at (e ∷ ds) refl
      (tail_on n first bounds m m' e ds (record { now = λ m'' after. lasts m'' w.store after; later = λ is. lasts }) same come)))

  bounds_by : (n : ℕ) (first : Term) (bounds : Terms) (q q' : ℕ) (b : Bool) → any_refers bounds ≡ b → (d : Datum) (m' : Temporaries) → Comes u.facts f w.store (ahead ForUse (any_refers bounds)) (first_value n first bounds).free m' (first_value n first bounds).value d →
      TermsMet u f h w NoPure [] ForLater (first_value n first bounds).free bounds bounds q m' q' →
      Met u f h w n q m' q' (λ ds m''. TailComes u.facts f w.store (tail_of n first bounds).free m'' (tail_of n first bounds).value ds) (λ rs' p'' m''. AreInTail u f n first bounds rs' p'' m'' q')
      (then_by (reduce_all u.facts f w.store [] bounds) (More (Val d)) (λ ds. Valued (d ∷ ds)))
  unfolding TermsMet reduce_all reduce then_by ahead
  bounds_by n first bounds q q' true refer d m' come tail = close_bounds n first bounds bounds q q' m' d (come.later (ap (ahead ForUse) refer)) tail
  bounds_by n first bounds q q' false refer d m' come tail =
      with_less u f h w (free_grows NoPure (ahead ForUse (any_refers bounds)) n first)
      (then_at_once u f h w (More (Val d)) (λ ds. Valued (d ∷ ds)) (none_call u.facts f w.store [] bounds refer) tail
      (λ ds m'' come' same. valued_at (d ∷ ds) refl (tail_on n first bounds m' m'' d ds come same come')))

  close_first_value : (n : ℕ) (first r : Term) (bounds : Terms) (p q q' : ℕ) (m : Temporaries) → TermMet u f h w NoPure [] (ahead ForUse (any_refers bounds)) n first r p m q →
      Spans u q (lower_all NoPure ForLater (first_value n first bounds).free bounds).steps q' → TailMet n first bounds (More r bounds) p m q'
  unfolding AllBegin TermsMet TermMet reduce_all then_by
  close_first_value n first r bounds p q q' m one spans =
      then_met u f h w (λ r'. More r' bounds) (λ d. then_by (reduce_all u.facts f w.store [] bounds) (More (Val d)) (λ ds. Valued (d ∷ ds))) (spans_up u spans) one
      (λ r' p' m' same mid. in_first mid spans)
      (λ d m' come same. bounds_by n first bounds q q' (any_refers bounds) refl d m' come (begin_all u f h w NoPure [] ForLater (first_value n first bounds).free bounds q q' m' spans tt))

  tail_progress : {n : ℕ} {first : Term} {bounds rs : Terms} {p : ℕ} {m : Temporaries} {q : ℕ} → AreInTail u f n first bounds rs p m q → TailMet n first bounds rs p m q
  tail_progress {n = n} {p = p} {m = m} {q = q'} (in_first {first = first} {r = r} {bounds = bounds} {q = q} mid spans) = close_first_value n first r bounds p q q' m (progress u f h w mid tt) spans
  tail_progress {n = n} {p = p} {m = m} {q = q} (in_bounds {first = first} {bounds = bounds} {rs = rs} e lasts mid) = close_bounds n first bounds rs p q m e lasts (progress_all u f h w mid tt)

  tail_start : (n : ℕ) (first : Term) (bounds : Terms) (p q : ℕ) (m : Temporaries) → Spans u p (tail_of n first bounds).steps q → AreInTail u f n first bounds (More first bounds) p m q
  unfolding and_then
  tail_start n first bounds p q m spans = let parts = split u (first_value n first bounds).steps spans in in_first (at_start parts.1) parts.2

  tail_grows : (n : ℕ) (first : Term) (bounds : Terms) → n ≤ (tail_of n first bounds).free
  unfolding and_then
  tail_grows n first bounds =
      let one = free_grows NoPure (ahead ForUse (any_refers bounds)) n first in
      let more = all_grow NoPure ForLater (first_value n first bounds).free bounds in
      omega (arith, one, more)

  -- ## The variable

  abbrev pub LoopMet : ℕ → Terms → Terms → ℕ → Temporaries → ℕ → Type 0
  LoopMet k ts rs p m q =
      Met u f h w k p m q (λ ds m'. LoopComes u.facts f w.store (loop_operands k ts).free m' (loop_operands k ts).value ds) (λ rs' p' m'. AreInLoop u f k ts rs' p' m' q) (reduce_all u.facts f w.store [] rs)

  variable_on : (k : ℕ) (x first : Term) (bounds : Terms) (m m' : Temporaries) (d : Datum) (ds : List Datum) → Lasts u.facts f (lower NoPure ForLater k x).free m (lower NoPure ForLater k x).value d →
      SameBelow (lower NoPure ForLater k x).free m m' →
      TailComes u.facts f w.store (tail_of (lower NoPure ForLater k x).free first bounds).free m' (tail_of (lower NoPure ForLater k x).free first bounds).value ds →
      LoopComes u.facts f w.store (loop_operands k (More x (More first bounds))).free m' (loop_operands k (More x (More first bounds))).value (d ∷ ds)
  unfolding loop_operands and_then all_meant given_that
  variable_on k x first bounds m m' d ds lasts same more =
      let n = (lower NoPure ForLater k x).free in
      let tail = tail_of n first bounds in
      let grows : n ≤ tail.free = tail_grows n first bounds in
      let still : Lasts u.facts f n m' (lower NoPure ForLater k x).value d = lasts_same u.facts f n m m' (lower NoPure ForLater k x).value d same lasts in
      record {
        now = λ m'' after.
            ap (λ y. given_that y (λ d. given_that (all_meant u.facts f m'' w.store tail.value) (λ ds. Gives (d ∷ ds)))) (still m'' w.store (same_less n tail.free m' m'' grows after))
            ∙ ap (λ y. given_that y (λ ds. Gives (d ∷ ds))) (more.now m'' after);
        last = loop_last u.facts f tail.free n m' (lower NoPure ForLater k x).value tail.value d ds (lasts_more u.facts f n tail.free m' (lower NoPure ForLater k x).value d grows still) more.last;
      }

  close_tail : (k : ℕ) (x first : Term) (bounds rs : Terms) (p q : ℕ) (m : Temporaries) (d : Datum) → Lasts u.facts f (lower NoPure ForLater k x).free m (lower NoPure ForLater k x).value d →
      TailMet (lower NoPure ForLater k x).free first bounds rs p m q → LoopMet k (More x (More first bounds)) (More (Val d) rs) p m q
  unfolding reduce_all reduce then_by
  close_tail k x first bounds rs p q m d lasts more =
      let n = (lower NoPure ForLater k x).free in
      with_less u f h w (free_grows NoPure ForLater k x)
      (then_met u f h w (More (Val d)) (λ ds. Valued (d ∷ ds)) (omega arith) more
      (λ rs' p' m' same mid. in_tail d (lasts_same u.facts f n m m' (lower NoPure ForLater k x).value d same lasts) mid)
      (λ ds m' come same. valued_at (d ∷ ds) refl (variable_on k x first bounds m m' d ds lasts same come)))

  close_variable : (k : ℕ) (x r first : Term) (bounds : Terms) (p q q' : ℕ) (m : Temporaries) → TermMet u f h w NoPure [] ForLater k x r p m q → Spans u q (tail_of (lower NoPure ForLater k x).free first bounds).steps q' →
      LoopMet k (More x (More first bounds)) (More r (More first bounds)) p m q'
  unfolding TermMet reduce_all reduce then_by
  close_variable k x r first bounds p q q' m one spans =
      then_met u f h w (λ r'. More r' (More first bounds)) (λ d. then_by (reduce_all u.facts f w.store [] (More first bounds)) (More (Val d)) (λ ds. Valued (d ∷ ds))) (spans_up u spans) one
      (λ r' p' m' same mid. in_variable mid spans)
      (λ d m' come same.
      close_tail k x first bounds (More first bounds) q q' m' d (come.later refl) (tail_progress (tail_start (lower NoPure ForLater k x).free first bounds q q' m' spans)))

  pub loop_progress : {k : ℕ} {ts rs : Terms} {p : ℕ} {m : Temporaries} {q : ℕ} → AreInLoop u f k ts rs p m q → LoopMet k ts rs p m q
  loop_progress {k = k} {p = p} {m = m} {q = q'} (in_variable {x = x} {r = r} {first = first} {bounds = bounds} {q = q} mid spans) = close_variable k x r first bounds p q q' m (progress u f h w mid tt) spans
  loop_progress {k = k} {p = p} {m = m} {q = q} (in_tail {x = x} {first = first} {bounds = bounds} {rs = rs} d lasts mid) = close_tail k x first bounds rs p q m d lasts (tail_progress mid)

pub loop_start : (u : Text) (f : Frame) (k : ℕ) (x first : Term) (bounds : Terms) (p q : ℕ) (m : Temporaries) → Spans u p (loop_operands k (More x (More first bounds))).steps q →
    AreInLoop u f k (More x (More first bounds)) (More x (More first bounds)) p m q
unfolding loop_operands and_then
loop_start u f k x first bounds p q m spans = let parts = split u (lower NoPure ForLater k x).steps spans in in_variable (at_start parts.1) parts.2

-- the first free temporary behind the operands of a DO is not below the one before them
pub loop_grows : (k : ℕ) (ts : Terms) → k ≤ (loop_operands k ts).free
unfolding loop_operands and_then
loop_grows k NoMore = omega arith
loop_grows k (More x NoMore) = omega arith
loop_grows k (More x (More first bounds)) =
    let zero' = free_grows NoPure ForLater k x in
    let one = free_grows NoPure (ahead ForUse (any_refers bounds)) (lower NoPure ForLater k x).free first in
    let more = all_grow NoPure ForLater (first_value (lower NoPure ForLater k x).free first bounds).free bounds in
    omega (arith, zero', one, more)
