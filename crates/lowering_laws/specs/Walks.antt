-- How lowered steps are followed from one to the next: code that stands in a unit, ways that only keep values, values that last.
use Rattle.std.specs.Prelude.{◌≡◌, ℕ, suc, ◌<◌, ◌≤◌, List, [], ◌∷◌, Some, slice_get}
use Rattle.fortran_laws.specs.simulation.Machine.{Goes}
use Rattle.fortran_laws.specs.f_tree.Values.{Datum, Gives}
use Rattle.fortran_laws.specs.f_tree.Terms.{Callee}
use Rattle.fortran_laws.specs.f_tree.Store.{Store}
use Rattle.fortran_laws.specs.f_tree.Facts.{Facts, Frame}
use Rattle.fortran_laws.specs.f_tree.Valuing.{Red, Valued, Bad, Asks}
use Rattle.fortran_laws.specs.f_tree.World.{World}
use Rattle.lowering.specs.l_core.Pures.{Pure, Pures, NoPure, AndPure, Temporaries, with_kept, meant, all_meant}
use Rattle.lowering.specs.l_core.Steps.{Step, CallFor, Branch, Way, Text}
use Rattle.lowering.specs.l_core.Machine.{View, step}
use Rattle.lowering.specs.Expressions.{Purpose, ForLater}

-- these steps stand in a unit from a position up to another
pub data Spans (u : Text) : ℕ → List Step → ℕ → Type 0 where
  nothing : {p : ℕ} → Spans u p [] p
  further : {p q : ℕ} {st : Step} {sts : List Step} → slice_get u.steps p ≡ Some st → Spans u (suc p) sts q → Spans u p (st ∷ sts) q

-- the view of a procedure at a position
abbrev pub at_step : Frame → ℕ → ℕ → Temporaries → View
at_step f h p m = record { frame = f; at = p; kept = m; height = h }

-- a step that is no branch behind a CALL and none of its ways
abbrev pub IsNoBranch : Step → Type 0
IsNoBranch (Branch k count) = ⊥
IsNoBranch (Way label) = ⊥
IsNoBranch st = Unit {0}

-- where such a step stands it may be taken on a way, before which a branch may be taken
abbrev pub IsOrdinary : Text → ℕ → Type 0
IsOrdinary u p = (st : Step) → slice_get u.steps p ≡ Some st → IsNoBranch st

-- a way forward that only keeps values
pub data Keeps (u : Text) (f : Frame) (h : ℕ) (w : World) : ℕ → Temporaries → ℕ → Temporaries → Type 0 where
  stays : {p : ℕ} {m : Temporaries} → Keeps u f h w p m p m
  goes : {p p' q : ℕ} {m m' m'' : Temporaries} → IsOrdinary u p → step u (at_step f h p m) w ≡ Goes (at_step f h p' m') w → p < p' → Keeps u f h w p' m' q m'' → Keeps u f h w p m q m''

-- the temporaries below one are the same
abbrev pub SameBelow : ℕ → Temporaries → Temporaries → Type 0
SameBelow k m m' = (j : ℕ) → j < k → m' j ≡ m j

-- a value that lasts, whatever becomes of the store and of the temporaries from one on
abbrev pub Lasts : Facts → Frame → ℕ → Temporaries → Pure → Datum → Type 0
Lasts c f k m p d = (m' : Temporaries) (s : Store) → SameBelow k m m' → meant c f m' s p ≡ Gives d

abbrev pub AllLast : Facts → Frame → ℕ → Temporaries → Pures → List Datum → Type 0
AllLast c f k m NoPure [] = Unit {0}
AllLast c f k m (AndPure p ps) (d ∷ ds) = Lasts c f k m p d × AllLast c f k m ps ds
AllLast c f k m NoPure (d ∷ ds) = ⊥
AllLast c f k m (AndPure p ps) [] = ⊥

-- a pure value is what it is for: this value now, whatever becomes of the temporaries from one on, and one that lasts where it is for later
pub record Comes (c : Facts) (f : Frame) (s : Store) (purpose : Purpose) (k : ℕ) (m : Temporaries) (p : Pure) (d : Datum) : Type 0 where
  pub now : (m' : Temporaries) → SameBelow k m m' → meant c f m' s p ≡ Gives d
  pub later : purpose ≡ ForLater → Lasts c f k m p d

pub record AllCome (c : Facts) (f : Frame) (s : Store) (purpose : Purpose) (k : ℕ) (m : Temporaries) (ps : Pures) (ds : List Datum) : Type 0 where
  pub now : (m' : Temporaries) → SameBelow k m m' → all_meant c f m' s ps ≡ Gives ds
  pub later : purpose ≡ ForLater → AllLast c f k m ps ds

-- from a position the code comes to its end, where this holds of the temporaries
pub record Ends (u : Text) (f : Frame) (h : ℕ) (w : World) (k p : ℕ) (m : Temporaries) (q : ℕ) (Good : Temporaries → Type 0) : Type 0 where
  pub kept : Temporaries
  pub way : Keeps u f h w p m q kept
  pub same : SameBelow k m kept
  pub good : Good kept

-- from a position the code comes to the call of a procedure with these arguments; behind each answer the rest stands as it should
pub record CallsFor (u : Text) (f : Frame) (h : ℕ) (w : World) (k p : ℕ) (m : Temporaries) (q : ℕ) (callee : Callee) (ds : List Datum) (Left : Datum → ℕ → Temporaries → Type 0) : Type 0 where
  pub kept : Temporaries
  pub at : ℕ
  pub into : ℕ
  pub operands : Pures
  pub way : Keeps u f h w p m at kept
  pub inside : at < q
  pub same : SameBelow k m kept
  pub there : slice_get u.steps at ≡ Some (CallFor into callee operands)
  pub values : all_meant u.facts f kept w.store operands ≡ Gives ds
  pub above : k ≤ into
  pub left : (d : Datum) → Left d (suc at) (with_kept into d kept)

-- what the code does where valuing comes to this; where it comes to an act nothing is asked
abbrev pub Follows : {A T : Type 0} (u : Text) (f : Frame) (h : ℕ) (w : World) (k p : ℕ) (m : Temporaries) (q : ℕ) (Good : A → Temporaries → Type 0) (Left : T → ℕ → Temporaries → Type 0) → Red A T → Type 0
Follows u f h w k p m q Good Left (Valued a) = Ends u f h w k p m q (Good a)
Follows u f h w k p m q Good Left (Bad act) = Unit {0}
Follows u f h w k p m q Good Left (Asks callee ds rest) = CallsFor u f h w k p m q callee ds (λ d. Left (rest d))

-- the same as a record
pub record Met {A T : Type 0} (u : Text) (f : Frame) (h : ℕ) (w : World) (k p : ℕ) (m : Temporaries) (q : ℕ) (Good : A → Temporaries → Type 0) (Left : T → ℕ → Temporaries → Type 0) (x : Red A T) : Type 0 where
  pub met : Follows u f h w k p m q Good Left x
