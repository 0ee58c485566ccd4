-- The distances of subscripts from their lower bounds, and the sizes of dimensions, as the C expressions have them.
use Rattle.std.specs.Prelude.{◌≡◌, ℕ, suc, ◌+◌, ◌*◌, ◌<◌, ℤ, ◌-ℤ◌, nat_abs, Bool, true, false, List, [], ◌∷◌, length, Some, slice_get, if◌then◌else◌}
use Rattle.std.proofs.Common.{refl, ap, ◌∙◌, arith}
use Rattle.c_emit.specs.f_tree.Values.{Bytes, Datum, IsInt, Checked, Gives, Fails, OutOfBounds, given_that}
use Rattle.c_emit.specs.f_tree.Values as fortran
use Rattle.c_emit.specs.f_tree.Store.{Store}
use Rattle.c_emit.specs.f_tree.Facts.{Bounds, Frame}
use Rattle.c_emit.specs.f_tree.Valuing.{bounds_of, is_within, size_of_dimension, elements_before}
use Rattle.c_emit.specs.l_core.Pures.{Temporaries}
use Rattle.c_emit.specs.c_tree.Objects.{Object}
use Rattle.c_emit.specs.c_tree.Terms.{Term}
use Rattle.c_emit.specs.c_image.World.{World}
use Rattle.c_emit.specs.c_image.Standing.{Stands}
use Rattle.c_emit.specs.c_image.Elements.{quantity_term, step_for}
use Rattle.c_image_laws.specs.Meanings.{Means, AllMean, none_mean, more_mean, IsDistance, AreSteps, no_steps, last_step, one_step}
use Rattle.c_image_laws.proofs.FoundElements.{quantities_are_meant, distances_are_meant}
use Rattle.c_image_laws.proofs.OperatorValues.{counts_integer}
use Rattle.c_emit.specs.Numbers.{Writing, steps_from}
use Rattle.c_emit_laws.specs.EmittedNumbers.{IsKnown}
use Rattle.c_emit_laws.proofs.Choices.{got}

-- the elements before one, by its first subscript
record IsCounted (x : Bytes) (stride : ℕ) (bs : List Bounds) (ds : List Datum) : Type 0 where
  count : ℕ
  is : elements_before x stride bs ds ≡ Gives count

counted_behind : (x : Bytes) (stride : ℕ) (b : Bounds) (bs : List Bounds) (z : ℤ) (ds : List Datum) (n : ℕ) → elements_before x stride (b ∷ bs) (IsInt z ∷ ds) ≡ Gives n →
    IsCounted x (stride * size_of_dimension b) bs ds
unfolding elements_before
counted_behind x stride b bs z ds n gives = by (is_within z b) gives
  where
    by : (test : Bool)
        → (if test then given_that (elements_before x (stride * size_of_dimension b) bs ds) (λ m. Gives (nat_abs (z -ℤ b.lower) * stride + m)) else Fails (OutOfBounds x z)) ≡ Gives n
        → IsCounted x (stride * size_of_dimension b) bs ds
    by true h = let g = got (elements_before x (stride * size_of_dimension b) bs ds) (λ m. Gives (nat_abs (z -ℤ b.lower) * stride + m)) n h in record { count = g.value; is = g.is }
    by false h = absurd (cc)

no_more : (x : Bytes) (stride n : ℕ) (d : Datum) (ds : List Datum) → elements_before x stride [] (d ∷ ds) ≡ Gives n → ⊥
unfolding elements_before
no_more x stride n d ds gives = cc

too_few : (x : Bytes) (stride n : ℕ) (b : Bounds) (bs : List Bounds) → elements_before x stride (b ∷ bs) [] ≡ Gives n → ⊥
unfolding elements_before
too_few x stride n b bs gives = cc

no_integer : (x : Bytes) (stride n : ℕ) (b : Bounds) (bs : List Bounds) (d : Datum) (ds : List Datum) → ((z : ℤ) → d ≡ IsInt z → ⊥) → elements_before x stride (b ∷ bs) (d ∷ ds) ≡ Gives n → ⊥
unfolding elements_before
no_integer x stride n b bs (IsInt z) ds not gives = not z refl
no_integer x stride n b bs (fortran.IsLog t) ds not gives = cc
no_integer x stride n b bs (fortran.IsText cs) ds not gives = cc
no_integer x stride n b bs (fortran.IsSpot p) ds not gives = cc
no_integer x stride n b bs (fortran.IsProc y) ds not gives = cc
no_integer x stride n b bs (fortran.IsLabel l) ds not gives = cc
no_integer x stride n b bs fortran.Nothing ds not gives = cc

module _ (μ : World) (s : Store) (objects : List Object) (w : Writing) (frame : Frame) (temporaries : Temporaries) (stands : Stands μ s objects) (known : IsKnown μ w frame temporaries) (x : Bytes) where
  -- bounds from a dimension on
  pub record IsBehind (k : ℕ) (bs : List Bounds) : Type 0 where
    pub each : (i : ℕ) (b : Bounds) → slice_get bs i ≡ Some b → slice_get (bounds_of w.facts frame x) (k + i) ≡ Some b
    pub longer : (i : ℕ) → i < length bs → k + i < length (bounds_of w.facts frame x)

  next_behind : (k : ℕ) (b : Bounds) (bs : List Bounds) → IsBehind k (b ∷ bs) → IsBehind (suc k) bs
  next_behind k b bs is = record {
    each = λ i c at. ap (λ n. slice_get (bounds_of w.facts frame x) n) (let e : suc k + i ≡ k + suc i = omega arith in e) ∙ is.each (suc i) c at;
    longer = λ i low. let h = is.longer (suc i) (omega (arith, low)) in omega (arith, h);
  }

  at_first : (k : ℕ) (b : Bounds) (bs : List Bounds) → IsBehind k (b ∷ bs) → slice_get (bounds_of w.facts frame x) k ≡ Some b
  at_first k b bs is = ap (λ n. slice_get (bounds_of w.facts frame x) n) (let e : k ≡ k + 0 = omega arith in e) ∙ is.each 0 b refl

  distance : (k : ℕ) (b : Bounds) (bs : List Bounds) (z : ℤ) (t : Term) → IsBehind k (b ∷ bs) → Means objects t (IsInt z) → IsDistance objects b z (step_for (w.naming.lower x k) (w.naming.size x k) t).distance
  distance k b bs z t is means =
      let at = at_first k b bs is in
      distances_are_meant objects b z t (quantity_term (w.naming.lower x k)) (counts_integer objects t z means)
      (quantities_are_meant μ s objects (w.naming.lower x k) b.lower stands (known.knows.lowers x k b at) (known.bounds x k b at).lower)

  pub are_steps : (k stride n : ℕ) (bs : List Bounds) (ts : List Term) (ds : List Datum) → IsBehind k bs → AllMean objects ts ds → elements_before x stride bs ds ≡ Gives n →
      AreSteps objects bs ds (steps_from w.naming x k ts)
  unfolding steps_from
  are_steps k stride n [] [] [] is none_mean gives = no_steps
  are_steps k stride n [] (t ∷ ts) (d ∷ ds) is (more_mean _ _ _ _ means more) gives = absurd (no_more x stride n d ds gives)
  are_steps k stride n (b ∷ bs) [] [] is none_mean gives = absurd (too_few x stride n b bs gives)
  are_steps k stride n [] [] (d ∷ ds) is all gives = elim all [ ]
  are_steps k stride n [] (t ∷ ts) [] is all gives = elim all [ ]
  are_steps k stride n (b ∷ bs) [] (d ∷ ds) is all gives = elim all [ ]
  are_steps k stride n (b ∷ bs) (t ∷ ts) [] is all gives = elim all [ ]
  are_steps k stride n (b ∷ []) (t ∷ []) (IsInt z ∷ d ∷ ds) is (more_mean _ _ _ _ means all) gives = elim all [ ]
  are_steps k stride n (b ∷ []) (t ∷ u ∷ ts) (IsInt z ∷ []) is (more_mean _ _ _ _ means all) gives = elim all [ ]
  are_steps k stride n (b ∷ next ∷ bs) (t ∷ []) (IsInt z ∷ d ∷ ds) is (more_mean _ _ _ _ means all) gives = elim all [ ]
  are_steps k stride n (b ∷ next ∷ bs) (t ∷ u ∷ ts) (IsInt z ∷ []) is (more_mean _ _ _ _ means all) gives = elim all [ ]
  are_steps k stride n (b ∷ []) (t ∷ []) (IsInt z ∷ []) is (more_mean _ _ _ _ means none_mean) gives =
      last_step b z _ (distance k b [] z t is means)
  are_steps k stride n (b ∷ []) (t ∷ u ∷ ts) (IsInt z ∷ d ∷ ds) is (more_mean _ _ _ _ means more) gives =
      let behind = counted_behind x stride b [] z (d ∷ ds) n gives in absurd (no_more x (stride * size_of_dimension b) behind.count d ds behind.is)
  are_steps k stride n (b ∷ next ∷ bs) (t ∷ []) (IsInt z ∷ []) is (more_mean _ _ _ _ means none_mean) gives =
      let behind = counted_behind x stride b (next ∷ bs) z [] n gives in absurd (too_few x (stride * size_of_dimension b) behind.count next bs behind.is)
  are_steps k stride n (b ∷ next ∷ bs) (t ∷ u ∷ ts) (IsInt z ∷ d ∷ ds) is (more_mean _ _ _ _ means more) gives =
      let at = at_first k b (next ∷ bs) is in
      let long = is.longer 1 (omega arith) in
      let upper = known.closed x k b at (omega (arith, long)) in
      let behind = counted_behind x stride b (next ∷ bs) z (d ∷ ds) n gives in
      one_step b next upper.0 z bs (d ∷ ds) _ _ _ upper.1 (distance k b (next ∷ bs) z t is means)
      (quantities_are_meant μ s objects (w.naming.size x k) _ stands (known.knows.sizes x k b upper.0 at upper.1) ((known.bounds x k b at).size upper.0 upper.1))
      (are_steps (suc k) (stride * size_of_dimension b) behind.count (next ∷ bs) (u ∷ ts) (d ∷ ds) (next_behind k b (next ∷ bs) is) more behind.is)
  are_steps k stride n (b ∷ bs) (t ∷ ts) (fortran.IsLog v ∷ ds) is (more_mean _ _ _ _ means more) gives = absurd (no_integer x stride n b bs _ ds (λ z h. absurd (cc)) gives)
  are_steps k stride n (b ∷ bs) (t ∷ ts) (fortran.IsText cs ∷ ds) is (more_mean _ _ _ _ means more) gives = absurd (no_integer x stride n b bs _ ds (λ z h. absurd (cc)) gives)
  are_steps k stride n (b ∷ bs) (t ∷ ts) (fortran.IsSpot p ∷ ds) is (more_mean _ _ _ _ means more) gives = absurd (no_integer x stride n b bs _ ds (λ z h. absurd (cc)) gives)
  are_steps k stride n (b ∷ bs) (t ∷ ts) (fortran.IsProc y ∷ ds) is (more_mean _ _ _ _ means more) gives = absurd (no_integer x stride n b bs _ ds (λ z h. absurd (cc)) gives)
  are_steps k stride n (b ∷ bs) (t ∷ ts) (fortran.IsLabel l ∷ ds) is (more_mean _ _ _ _ means more) gives = absurd (no_integer x stride n b bs _ ds (λ z h. absurd (cc)) gives)
  are_steps k stride n (b ∷ bs) (t ∷ ts) (fortran.Nothing ∷ ds) is (more_mean _ _ _ _ means more) gives = absurd (no_integer x stride n b bs _ ds (λ z h. absurd (cc)) gives)

  pub all_behind : IsBehind 0 (bounds_of w.facts frame x)
  all_behind = record {
    each = λ i b at. ap (λ n. slice_get (bounds_of w.facts frame x) n) (let e : 0 + i ≡ i = omega arith in e) ∙ at;
    longer = λ i low. omega (arith, low);
  }
