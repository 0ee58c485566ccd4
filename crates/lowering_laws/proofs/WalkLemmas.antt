-- Ways over lowered steps: joined, split, and what valuing in order asks of them.
use Rattle.std.specs.Prelude.{◌≡◌, ℕ, suc, ◌+◌, length, ◌<◌, ◌≤◌, nat_eq, Bool, true, false, List, [], ◌∷◌, ◌++◌, Option, Some, slice_get, if◌then◌else◌}
use Rattle.std.proofs.Common.{refl, sym, ap, ◌∙◌, subst, arith, true≢false}
use Rattle.std.proofs.lemmas.Bool.{eqb-true, eq-eqb}
use Rattle.fortran_laws.specs.f_tree.Values.{Datum, Checked, Gives, Fails, given_that}
use Rattle.fortran_laws.specs.f_tree.Facts.{Facts, Frame}
use Rattle.fortran_laws.specs.f_tree.Store.{Store}
use Rattle.fortran_laws.specs.f_tree.Valuing.{Red, Valued, Bad, Asks, then_by, at_once}
use Rattle.fortran_laws.specs.f_tree.World.{World}
use Rattle.lowering.specs.l_core.Pures.{Pure, Temporary, Pures, NoPure, AndPure, Temporaries, with_kept, if_kept, meant, all_meant}
use Rattle.lowering.specs.l_core.Steps.{Step, Text}
use Rattle.lowering_laws.specs.Walks.{Spans, nothing, further, IsNoBranch, IsOrdinary, Keeps, stays, goes, SameBelow, Lasts, AllLast, Follows, Met}

-- valuing comes to no call
unfoldable pub IsAtOnce : {A T : Type 0} → Red A T → Type 0
IsAtOnce (Valued a) = Unit {0}
IsAtOnce (Bad act) = Unit {0}
IsAtOnce (Asks callee ds rest) = ⊥

-- ## Code that stands in a unit

pub split : (u : Text) {p q : ℕ} (xs : List Step) {ys : List Step} → Spans u p (xs ++ ys) q → (r : ℕ) × Spans u p xs r × Spans u r ys q
split u [] s = (_, nothing, s)
split u (x ∷ xs) (further e s) = let r = split u xs s in (r.0, further e r.1, r.2)

pub spans_up : (u : Text) {p q : ℕ} {xs : List Step} → Spans u p xs q → p ≤ q
spans_up u nothing = omega arith
spans_up u (further e s) = let more = spans_up u s in omega (arith, more)

pub spans_length : (u : Text) {p q : ℕ} {xs : List Step} → Spans u p xs q → q ≡ p + length xs
spans_length u {p = p} nothing = let e : p ≡ p + 0 = omega arith in e
spans_length u {p = p} (further {sts = sts} e s) = let more = spans_length u s in let one : suc p + length sts ≡ p + suc (length sts) = omega arith in more ∙ one

pub spans_nothing : (u : Text) {p q : ℕ} → Spans u p [] q → q ≡ p
spans_nothing u nothing = refl

-- the one step of a code of one, and its end
pub spans_one : (u : Text) {p q : ℕ} {st : Step} → Spans u p (st ∷ []) q → (slice_get u.steps p ≡ Some st) × (q ≡ suc p)
spans_one u (further e nothing) = (e, refl)

pub spans_first : (u : Text) {p q : ℕ} {st : Step} {sts : List Step} → Spans u p (st ∷ sts) q → (slice_get u.steps p ≡ Some st) × Spans u (suc p) sts q
spans_first u (further e s) = (e, s)

-- ## Steps that are no branches behind a CALL

pub ordinary_by : (u : Text) (p : ℕ) (st : Step) → slice_get u.steps p ≡ Some st → IsNoBranch st → IsOrdinary u p
ordinary_by u p st e no_branch st' e' = let same : st ≡ st' = cc in subst IsNoBranch same no_branch

-- ## Temporaries

pub same_refl : (k : ℕ) (m : Temporaries) → SameBelow k m m
same_refl k m j below = refl

pub same_trans : (k : ℕ) (m m' m'' : Temporaries) → SameBelow k m m' → SameBelow k m' m'' → SameBelow k m m''
same_trans k m m' m'' a b j below = b j below ∙ a j below

pub same_less : (k n : ℕ) (m m' : Temporaries) → k ≤ n → SameBelow n m m' → SameBelow k m m'
same_less k n m m' le a j below = a j (omega (arith, le, below))

kept_other : (b : Bool) (k j : ℕ) (x y : Option Datum) → k ≤ j → nat_eq j k ≡ b → (j ≡ k → ⊥) → (if b then x else y) ≡ y
kept_other true k j x y le e apart = absurd (apart (eqb-true j k e))
kept_other false k j x y le e apart = refl

pub choose_false : {A : Type 0} (b : Bool) (x y : A) → b ≡ false → (if b then x else y) ≡ y
choose_false true x y e = absurd (true≢false e)
choose_false false x y e = refl

pub choose_true : {A : Type 0} (b : Bool) (x y : A) → b ≡ true → (if b then x else y) ≡ x
choose_true true x y e = refl
choose_true false x y e = absurd (true≢false (sym e))

differs : (b : Bool) (j k : ℕ) → nat_eq j k ≡ b → j < k → b ≡ false
differs false j k e below = refl
differs true j k e below = let same : j ≡ k = eqb-true j k e in absurd (omega (arith, same, below))

-- a value that is kept from k on changes none below
pub kept_above : (k into : ℕ) (d : Datum) (m : Temporaries) → k ≤ into → SameBelow k m (with_kept into d m)
unfolding with_kept
kept_above k into d m le j below = choose_false (nat_eq j into) (Some d) (m j) (differs (nat_eq j into) j into refl (omega (arith, le, below)))

pub kept_there : (k : ℕ) (d : Datum) (m : Temporaries) → with_kept k d m k ≡ Some d
unfolding with_kept
kept_there k d m = choose_true (nat_eq k k) (Some d) (m k) (eq-eqb k k refl)

-- ## Values that last

pub lasts_same : (c : Facts) (f : Frame) (k : ℕ) (m m' : Temporaries) (p : Pure) (d : Datum) → SameBelow k m m' → Lasts c f k m p d → Lasts c f k m' p d
lasts_same c f k m m' p d same lasts m'' s after = lasts m'' s (same_trans k m m' m'' same after)

pub lasts_more : (c : Facts) (f : Frame) (k n : ℕ) (m : Temporaries) (p : Pure) (d : Datum) → k ≤ n → Lasts c f k m p d → Lasts c f n m p d
lasts_more c f k n m p d le lasts m' s after = lasts m' s (same_less k n m m' le after)

pub all_last_same : (c : Facts) (f : Frame) (k : ℕ) (m m' : Temporaries) (ps : Pures) (ds : List Datum) → SameBelow k m m' → AllLast c f k m ps ds → AllLast c f k m' ps ds
all_last_same c f k m m' NoPure [] same all = tt
all_last_same c f k m m' NoPure (d ∷ ds) same all = all
all_last_same c f k m m' (AndPure p ps) [] same all = all
all_last_same c f k m m' (AndPure p ps) (d ∷ ds) same all = (lasts_same c f k m m' p d same all.0, all_last_same c f k m m' ps ds same all.1)

pub all_last_more : (c : Facts) (f : Frame) (k n : ℕ) (m : Temporaries) (ps : Pures) (ds : List Datum) → k ≤ n → AllLast c f k m ps ds → AllLast c f n m ps ds
all_last_more c f k n m NoPure [] le all = tt
all_last_more c f k n m NoPure (d ∷ ds) le all = all
all_last_more c f k n m (AndPure p ps) [] le all = all
all_last_more c f k n m (AndPure p ps) (d ∷ ds) le all = (lasts_more c f k n m p d le all.0, all_last_more c f k n m ps ds le all.1)

pub all_last_now : (c : Facts) (f : Frame) (k : ℕ) (m m' : Temporaries) (s : Store) (ps : Pures) (ds : List Datum) → SameBelow k m m' → AllLast c f k m ps ds → all_meant c f m' s ps ≡ Gives ds
unfolding all_meant given_that
all_last_now c f k m m' s NoPure [] same all = refl
all_last_now c f k m m' s NoPure (d ∷ ds) same all = absurd all
all_last_now c f k m m' s (AndPure p ps) [] same all = absurd all
all_last_now c f k m m' s (AndPure p ps) (d ∷ ds) same all =
    ap (λ x. given_that x (λ d. given_that (all_meant c f m' s ps) (λ ds. Gives (d ∷ ds)))) (all.0 m' s same)
    ∙ ap (λ x. given_that x (λ ds. Gives (d ∷ ds))) (all_last_now c f k m m' s ps ds same all.1)

-- what a temporary below holds lasts
pub temporary_lasts : (c : Facts) (f : Frame) (k : ℕ) (d : Datum) (m : Temporaries) → m k ≡ Some d → Lasts c f (suc k) m (Temporary k) d
unfolding meant if_kept
temporary_lasts c f k d m there m' s after = ap if_kept (after k (omega arith) ∙ there)

-- ## Ways

module _ (u : Text) (f : Frame) (h : ℕ) (w : World) where
  pub join : {p q r : ℕ} {m m' m'' : Temporaries} → Keeps u f h w p m q m' → Keeps u f h w q m' r m'' → Keeps u f h w p m r m''
  join stays after = after
  join (goes ordinary st forward way) after = goes ordinary st forward (join way after)

  pub onward : {p q : ℕ} {m m' : Temporaries} → Keeps u f h w p m q m' → p ≤ q
  onward stays = omega arith
  onward (goes ordinary st forward way) = let later = onward way in omega (arith, forward, later)

  pub still : {p q : ℕ} {m m' : Temporaries} → Keeps u f h w p m q m' → q ≡ p → m' ≡ m
  still stays same = refl
  still (goes ordinary st forward way) same = let later = onward way in absurd (omega (arith, forward, later, same))

  -- behind a way, what follows is what follows from its start
  behind_way : {A T : Type 0} (Good : A → Temporaries → Type 0) (Left : T → ℕ → Temporaries → Type 0) (k p q r : ℕ) (m m' : Temporaries) (x : Red A T) →
      Keeps u f h w p m q m' → SameBelow k m m' → Follows u f h w k q m' r Good Left x → Follows u f h w k p m r Good Left x
  behind_way Good Left k p q r m m' (Valued a) way same after =
      record { kept = after.kept; way = join way after.way; same = same_trans k m m' after.kept same after.same; good = after.good }
  behind_way Good Left k p q r m m' (Bad act) way same after = tt
  behind_way Good Left k p q r m m' (Asks callee ds rest) way same after = record {
    kept = after.kept;
    at = after.at;
    into = after.into;
    operands = after.operands;
    way = join way after.way;
    inside = after.inside;
    same = same_trans k m m' after.kept same after.same;
    there = after.there;
    values = after.values;
    above = after.above;
    left = after.left;
  }

  pub behind : {A T : Type 0} {Good : A → Temporaries → Type 0} {Left : T → ℕ → Temporaries → Type 0} {k p q r : ℕ} {m m' : Temporaries} {x : Red A T} →
      Keeps u f h w p m q m' → SameBelow k m m' → Met u f h w k q m' r Good Left x → Met u f h w k p m r Good Left x
  behind {Good = Good} {Left = Left} {k = k} {p = p} {q = q} {r = r} {m = m} {m' = m'} {x = x} way same after = record { met = behind_way Good Left k p q r m m' x way same after.met }

  -- fewer temporaries are the same
  less_kept : {A T : Type 0} (Good : A → Temporaries → Type 0) (Left : T → ℕ → Temporaries → Type 0) (k n p q : ℕ) (m : Temporaries) (x : Red A T) →
      k ≤ n → Follows u f h w n p m q Good Left x → Follows u f h w k p m q Good Left x
  less_kept Good Left k n p q m (Valued a) le after = record { kept = after.kept; way = after.way; same = same_less k n m after.kept le after.same; good = after.good }
  less_kept Good Left k n p q m (Bad act) le after = tt
  less_kept Good Left k n p q m (Asks callee ds rest) le after = record {
    kept = after.kept;
    at = after.at;
    into = after.into;
    operands = after.operands;
    way = after.way;
    inside = after.inside;
    same = same_less k n m after.kept le after.same;
    there = after.there;
    values = after.values;
    above = (let b = after.above in omega (arith, le, b));
    left = after.left;
  }

  pub with_less : {A T : Type 0} {Good : A → Temporaries → Type 0} {Left : T → ℕ → Temporaries → Type 0} {k n p q : ℕ} {m : Temporaries} {x : Red A T} →
      k ≤ n → Met u f h w n p m q Good Left x → Met u f h w k p m q Good Left x
  with_less {Good = Good} {Left = Left} {k = k} {n = n} {p = p} {q = q} {m = m} {x = x} le after = record { met = less_kept Good Left k n p q m x le after.met }

  -- valuing goes on behind a value, in code that begins where that of the value ends
  goes_on : {A B S T : Type 0} (Good : A → Temporaries → Type 0) (Left : S → ℕ → Temporaries → Type 0) (Good' : B → Temporaries → Type 0) (Left' : T → ℕ → Temporaries → Type 0)
      (k p q r : ℕ) (m : Temporaries) (x : Red A S) (back : S → T) (go : A → Red B T) →
      q ≤ r → Follows u f h w k p m q Good Left x →
      ((s : S) (n : ℕ) (m' : Temporaries) → SameBelow k m m' → Left s n m' → Left' (back s) n m') →
      ((a : A) (m' : Temporaries) → Good a m' → SameBelow k m m' → Met u f h w k q m' r Good' Left' (go a)) →
      Follows u f h w k p m r Good' Left' (then_by x back go)
  unfolding then_by
  goes_on Good Left Good' Left' k p q r m (Valued a) back go le one lefts goods =
      behind_way Good' Left' k p q r m one.kept (go a) one.way one.same (goods a one.kept one.good one.same).met
  goes_on Good Left Good' Left' k p q r m (Bad act) back go le one lefts goods = tt
  goes_on Good Left Good' Left' k p q r m (Asks callee ds rest) back go le one lefts goods = record {
    kept = one.kept;
    at = one.at;
    into = one.into;
    operands = one.operands;
    way = one.way;
    inside = (let b = one.inside in omega (arith, le, b));
    same = one.same;
    there = one.there;
    values = one.values;
    above = one.above;
    left = λ d. lefts (rest d) (suc one.at) (with_kept one.into d one.kept) (same_trans k m one.kept (with_kept one.into d one.kept) one.same (kept_above k one.into d one.kept one.above)) (one.left d);
  }

  pub then_met : {A B S T : Type 0} {Good : A → Temporaries → Type 0} {Left : S → ℕ → Temporaries → Type 0} {Good' : B → Temporaries → Type 0} {Left' : T → ℕ → Temporaries → Type 0}
      {k p q r : ℕ} {m : Temporaries} {x : Red A S} (back : S → T) (go : A → Red B T) →
      q ≤ r → Met u f h w k p m q Good Left x →
      ((s : S) (n : ℕ) (m' : Temporaries) → SameBelow k m m' → Left s n m' → Left' (back s) n m') →
      ((a : A) (m' : Temporaries) → Good a m' → SameBelow k m m' → Met u f h w k q m' r Good' Left' (go a)) →
      Met u f h w k p m r Good' Left' (then_by x back go)
  then_met {Good = Good} {Left = Left} {Good' = Good'} {Left' = Left'} {k = k} {p = p} {q = q} {r = r} {m = m} {x = x} back go le one lefts goods =
      record { met = goes_on Good Left Good' Left' k p q r m x back go le one.met lefts goods }

  -- where valuing comes to no call, nothing is left
  at_once_then : {A B S T : Type 0} (Good : A → Temporaries → Type 0) (Left : S → ℕ → Temporaries → Type 0) (Good' : B → Temporaries → Type 0) (Left' : T → ℕ → Temporaries → Type 0)
      (k p q r : ℕ) (m : Temporaries) (x : Red A S) (back : S → T) (go : A → Red B T) → IsAtOnce x → Follows u f h w k p m q Good Left x →
      ((a : A) (m' : Temporaries) → Good a m' → SameBelow k m m' → Met u f h w k q m' r Good' Left' (go a)) → Follows u f h w k p m r Good' Left' (then_by x back go)
  unfolding then_by IsAtOnce
  at_once_then Good Left Good' Left' k p q r m (Valued a) back go once one goods = behind_way Good' Left' k p q r m one.kept (go a) one.way one.same (goods a one.kept one.good one.same).met
  at_once_then Good Left Good' Left' k p q r m (Bad act) back go once one goods = tt
  at_once_then Good Left Good' Left' k p q r m (Asks callee ds rest) back go once one goods = absurd once

  pub then_at_once : {A B S T : Type 0} {Good : A → Temporaries → Type 0} {Left : S → ℕ → Temporaries → Type 0} {Good' : B → Temporaries → Type 0} {Left' : T → ℕ → Temporaries → Type 0}
      {k p q r : ℕ} {m : Temporaries} {x : Red A S} (back : S → T) (go : A → Red B T) → IsAtOnce x → Met u f h w k p m q Good Left x →
      ((a : A) (m' : Temporaries) → Good a m' → SameBelow k m m' → Met u f h w k q m' r Good' Left' (go a)) → Met u f h w k p m r Good' Left' (then_by x back go)
  then_at_once {Good = Good} {Left = Left} {Good' = Good'} {Left' = Left'} {k = k} {p = p} {q = q} {r = r} {m = m} {x = x} back go once one goods =
      record { met = at_once_then Good Left Good' Left' k p q r m x back go once one.met goods }

  -- what is good and what is left may be said otherwise
  said_so : {A T : Type 0} (Good : A → Temporaries → Type 0) (Left : T → ℕ → Temporaries → Type 0) (Good' : A → Temporaries → Type 0) (Left' : T → ℕ → Temporaries → Type 0) (k p q : ℕ) (m : Temporaries) (x : Red A T) →
      ((a : A) (m' : Temporaries) → SameBelow k m m' → Good a m' → Good' a m') → ((t : T) (n : ℕ) (m' : Temporaries) → Left t n m' → Left' t n m') →
      Follows u f h w k p m q Good Left x → Follows u f h w k p m q Good' Left' x
  said_so Good Left Good' Left' k p q m (Valued a) goods lefts one = record { kept = one.kept; way = one.way; same = one.same; good = goods a one.kept one.same one.good }
  said_so Good Left Good' Left' k p q m (Bad act) goods lefts one = tt
  said_so Good Left Good' Left' k p q m (Asks callee ds rest) goods lefts one = record {
    kept = one.kept;
    at = one.at;
    into = one.into;
    operands = one.operands;
    way = one.way;
    inside = one.inside;
    same = one.same;
    there = one.there;
    values = one.values;
    above = one.above;
    left = λ d. lefts (rest d) (suc one.at) (with_kept one.into d one.kept) (one.left d);
  }

  pub said : {A T : Type 0} {Good : A → Temporaries → Type 0} {Left : T → ℕ → Temporaries → Type 0} {Good' : A → Temporaries → Type 0} {Left' : T → ℕ → Temporaries → Type 0} {k p q : ℕ} {m : Temporaries} {x : Red A T} →
      ((a : A) (m' : Temporaries) → SameBelow k m m' → Good a m' → Good' a m') → ((t : T) (n : ℕ) (m' : Temporaries) → Left t n m' → Left' t n m') →
      Met u f h w k p m q Good Left x → Met u f h w k p m q Good' Left' x
  said {Good = Good} {Left = Left} {Good' = Good'} {Left' = Left'} {k = k} {p = p} {q = q} {m = m} {x = x} goods lefts one =
      record { met = said_so Good Left Good' Left' k p q m x goods lefts one.met }

  -- code of no steps calls nothing and changes no temporary
  of_no_steps : {A B S T : Type 0} (Good : A → Temporaries → Type 0) (Left : S → ℕ → Temporaries → Type 0) (Good' : B → Temporaries → Type 0) (Left' : T → ℕ → Temporaries → Type 0)
      (k n p q r : ℕ) (m : Temporaries) (x : Red A S) (back : S → T) (go : A → Red B T) →
      q ≡ p → Follows u f h w n p m q Good Left x → ((a : A) → Good a m → Met u f h w k p m r Good' Left' (go a)) → Follows u f h w k p m r Good' Left' (then_by x back go)
  unfolding then_by
  of_no_steps Good Left Good' Left' k n p q r m (Valued a) back go same one goods = (goods a (subst (Good a) (still one.way same) one.good)).met
  of_no_steps Good Left Good' Left' k n p q r m (Bad act) back go same one goods = tt
  of_no_steps Good Left Good' Left' k n p q r m (Asks callee ds rest) back go same one goods =
      let up : p ≤ one.at = onward one.way in let down : one.at < q = one.inside in absurd (omega (arith, up, down, same))

  pub without_steps : {A B S T : Type 0} {Good : A → Temporaries → Type 0} {Left : S → ℕ → Temporaries → Type 0} {Good' : B → Temporaries → Type 0} {Left' : T → ℕ → Temporaries → Type 0}
      {k n p q r : ℕ} {m : Temporaries} {x : Red A S} (back : S → T) (go : A → Red B T) →
      q ≡ p → Met u f h w n p m q Good Left x → ((a : A) → Good a m → Met u f h w k p m r Good' Left' (go a)) → Met u f h w k p m r Good' Left' (then_by x back go)
  without_steps {Good = Good} {Left = Left} {Good' = Good'} {Left' = Left'} {k = k} {n = n} {p = p} {q = q} {r = r} {m = m} {x = x} back go same one goods =
      record { met = of_no_steps Good Left Good' Left' k n p q r m x back go same one.met goods }

  -- a value or an act at once, at the end of the code
  pub at_its_end : {A T : Type 0} {Good : A → Temporaries → Type 0} {Left : T → ℕ → Temporaries → Type 0} {k p : ℕ} {m : Temporaries} (x : Checked A) →
      ((a : A) → x ≡ Gives a → Good a m) → Met u f h w k p m p Good Left (at_once x)
  unfolding at_once
  at_its_end {k = k} {m = m} (Gives a) goods = record { met = record { kept = m; way = stays; same = same_refl k m; good = goods a refl } }
  at_its_end (Fails act) goods = record { met = tt }
