-- Whole programs: how the texts of a source program are linked with those of a target program, when
-- two whole states are alike, and what it means that a target's runs are faithful to a source's.
use Rattle.std.specs.Prelude.{◌≡◌, ℕ, suc, ◌*◌, ◌≤◌, Bool, true, false, nat_eq, List, [], ◌∷◌, Option, Some, option_map, unwrap_or, map}
use Rattle.simulation.specs.Machine.{Sorts, Lang, Program, Frame, Has, State, Runs, Over, Broken, numbers, active, run}
use Rattle.simulation.specs.LocalSimulation.{Kit, Pairing, Couple, Resumed, HandedOn, Local}

-- which target text stands for which source text
pub record Linking {E : Type 0} {A B : Lang E} (K : Kit A B) (P : Program A.sorts) (Q : Program B.sorts) : Type 1 where
  -- the numbers that texts of the source have
  pub Known : ℕ → Type 0
  pub pairing : ℕ → Pairing K
  pub image : ℕ → ℕ
  -- what one step of a source text may cost
  pub width : ℕ → ℕ
  -- the number of the wrapper of a source text under a target name, if it has one there
  pub wrapper : ℕ → B.sorts.Name → Option ℕ
  -- the name by which the wrappers of a source text call its target text
  pub inner : ℕ → B.sorts.Name
  -- of each target text: is it a wrapper, and whose is it
  pub outer : ℕ → Bool
  pub owner : ℕ → ℕ

-- source text i with its target text; each step of the target weighs 1, and a call leaves room for
-- the step of a wrapper
abbrev pub couple : {E : Type 0} {A B : Lang E} {K : Kit A B} {P : Program A.sorts} {Q : Program B.sorts} → Linking K P Q → ℕ → Couple K
couple {P = P} {Q = Q} L i = record {
  number = i;
  pairing = L.pairing i;
  source = P.text i;
  target = Q.text (L.image i);
  weight = λ w. 1;
  most = λ v. L.width i;
  spare = 1;
  wrapper = λ n. option_map Q.text (L.wrapper i n);
  inner = L.inner i;
}

-- Each source text is simulated by its target text, a step costs at most W, and names are found.
pub record Linked {E : Type 0} {A B : Lang E} {K : Kit A B} {P : Program A.sorts} {Q : Program B.sorts} (L : Linking K P Q) (W : ℕ) : Type 0 where
  pub known : (n : A.sorts.Name) (i : ℕ) → P.find n ≡ Some i → L.Known i
  pub simulated : (i : ℕ) → L.Known i → Local (couple L i)
  -- the factor counts the step by which a wrapper hands an answer on
  pub narrow : (i : ℕ) → L.Known i → L.width i ≤ W
  pub narrow_wrapped : (i : ℕ) (n : B.sorts.Name) (g : ℕ) → L.Known i → L.wrapper i n ≡ Some g → suc (L.width i) ≤ W
  pub some_step : 1 ≤ W
  -- calls that are passed on find the text or its wrapper
  pub finds : (μ : K.World) (s : A.sorts.Shared) (n : A.sorts.Name) (a : A.sorts.Arg) (t : B.sorts.Shared) (n' : B.sorts.Name) (a' : B.sorts.Arg) (i : ℕ) → K.Passed μ s n a t n' a' → P.find n ≡ Some i → Q.find n' ≡ Some (unwrap_or (L.wrapper i n') (L.image i))
  pub finds_inner : (i : ℕ) → L.Known i → Q.find (L.inner i) ≡ Some (L.image i)
  -- a world that grows still houses every text, and no frame but the grower's is used by it
  pub grows_houses : (i j : ℕ) (μ μ' : K.World) → L.Known j → K.Grows i μ μ' → (L.pairing j).Houses μ → (L.pairing j).Houses μ'
  pub grows_idle : (i j : ℕ) (μ μ' : K.World) → L.Known j → nat_eq j i ≡ false → K.Grows i μ μ' → (L.pairing j).Idle μ → (L.pairing j).Idle μ'
  pub image_inner : (i : ℕ) → L.outer (L.image i) ≡ false
  pub image_owner : (i : ℕ) → L.owner (L.image i) ≡ i
  pub wrapper_outer : (i : ℕ) (n : B.sorts.Name) (g : ℕ) → L.wrapper i n ≡ Some g → L.outer g ≡ true
  pub wrapper_owner : (i : ℕ) (n : B.sorts.Name) (g : ℕ) → L.wrapper i n ≡ Some g → L.owner g ≡ i
  pub same_plain : A.plain ≡ B.plain
  -- only the step of a text breaks by a claimed fault
  pub missing_unclaimed : ¬ K.Claimed A.missing
  pub busy_unclaimed : ¬ K.Claimed A.busy

-- The world houses every text, and the frames of the texts that are not active are nobody's.
pub record Home {E : Type 0} {A B : Lang E} {K : Kit A B} {P : Program A.sorts} {Q : Program B.sorts} (L : Linking K P Q) (μ : K.World) (frames : List (Frame A.sorts)) : Type 0 where
  pub houses : (j : ℕ) → L.Known j → (L.pairing j).Houses μ
  pub idle : (j : ℕ) → L.Known j → active j frames ≡ false → (L.pairing j).Idle μ

-- What stands below the frame of source text i, on both sides, where its world is μ; the Boolean
-- says whether a wrapper stands directly below. What a caller or a wrapper put into the world is
-- told by the growth from its own world to that of the text it called.
pub data Below {E : Type 0} {A B : Lang E} {K : Kit A B} {P : Program A.sorts} {Q : Program B.sorts} (L : Linking K P Q) : Bool → K.World → ℕ → List (Frame A.sorts) → List (Frame B.sorts) → Type 0 where
  bottom : {μ : K.World} {i : ℕ} → ((j : ℕ) → L.Known j → (L.pairing j).Houses μ) → Below L false μ i [] []
  caller : {μ₀ μ : K.World} {i j : ℕ} {v : A.sorts.View} {w : B.sorts.View} {us : List (Frame A.sorts)} {fs : List (Frame B.sorts)} {b : Bool} →
      L.Known j →
      Home L μ₀ (Has j v ∷ us) →
      K.Grows j μ₀ μ →
      (L.pairing j).Waits μ₀ μ v w →
      ((s : A.sorts.Shared) (r : A.sorts.Ans) (t : B.sorts.Shared) (r' : B.sorts.Ans) → K.Given μ s r t r' → Resumed (couple L j) μ₀ (A.resume (P.text j) v r s) w r' t) →
      Below L b μ₀ j us fs →
      Below L false μ i (Has j v ∷ us) (Has (L.image j) w ∷ fs)
  wrapped : {μ₀ μ : K.World} {i g : ℕ} {n : B.sorts.Name} {w : B.sorts.View} {us : List (Frame A.sorts)} {fs : List (Frame B.sorts)} →
      L.wrapper i n ≡ Some g →
      K.Grows i μ₀ μ →
      ((s : A.sorts.Shared) (r : A.sorts.Ans) (t : B.sorts.Shared) (r' : B.sorts.Ans) → K.Given μ s r t r' → HandedOn (couple L i) μ₀ (Q.text g) w s r t r') →
      Below L false μ₀ i us fs →
      Below L true μ i us (Has g w ∷ fs)

-- a world that texts have grown, one after another
pub data Grown {E : Type 0} {A B : Lang E} (K : Kit A B) : K.World → K.World → Type 0 where
  unchanged : {μ : K.World} → Grown K μ μ
  by : {μ μ' μ'' : K.World} (i : ℕ) → K.Grows i μ μ' → Grown K μ' μ'' → Grown K μ μ''

-- The frames that wait, on both sides, where the present world is μ: each source text waits beside
-- its target text in a world of its own, from which the present one has grown; wrappers stand between.
pub data WaitingFrames {E : Type 0} {A B : Lang E} {K : Kit A B} {P : Program A.sorts} {Q : Program B.sorts} (L : Linking K P Q) (μ : K.World) : List (Frame A.sorts) → List (Frame B.sorts) → Type 0 where
  none : WaitingFrames L μ [] []
  text : {μ₀ μ' : K.World} {j : ℕ} {v : A.sorts.View} {w : B.sorts.View} {us : List (Frame A.sorts)} {fs : List (Frame B.sorts)} →
      L.Known j →
      Home L μ₀ (Has j v ∷ us) →
      K.Grows j μ₀ μ' →
      (L.pairing j).Waits μ₀ μ' v w →
      Grown K μ' μ →
      WaitingFrames L μ us fs →
      WaitingFrames L μ (Has j v ∷ us) (Has (L.image j) w ∷ fs)
  wrapper : {i g : ℕ} {n : B.sorts.Name} {w : B.sorts.View} {us : List (Frame A.sorts)} {fs : List (Frame B.sorts)} →
      L.wrapper i n ≡ Some g →
      WaitingFrames L μ us fs →
      WaitingFrames L μ us (Has g w ∷ fs)

-- Two whole states are alike; a state in which the source is broken says nothing of the target.
pub data Alike {E : Type 0} {A B : Lang E} {K : Kit A B} {P : Program A.sorts} {Q : Program B.sorts} (L : Linking K P Q) : State E A.sorts → State E B.sorts → Type 0 where
  running : {μ : K.World} {i : ℕ} {v : A.sorts.View} {s : A.sorts.Shared} {w : B.sorts.View} {t : B.sorts.Shared} {us : List (Frame A.sorts)} {fs : List (Frame B.sorts)} {b : Bool} →
      L.Known i →
      Home L μ (Has i v ∷ us) →
      (L.pairing i).Matched μ v s w t →
      Below L b μ i us fs →
      Alike L (Runs i v us s) (Runs (L.image i) w fs t)
  over : {μ : K.World} {i : ℕ} {e : E} {v : A.sorts.View} {s : A.sorts.Shared} {w : B.sorts.View} {t : B.sorts.Shared} {us : List (Frame A.sorts)} {fs : List (Frame B.sorts)} {b : Bool} →
      L.Known i →
      Home L μ (Has i v ∷ us) →
      (L.pairing i).Halted μ v s w t →
      Below L b μ i us fs →
      Alike L (Over e (Has i v ∷ us) s) (Over e (Has (L.image i) w ∷ fs) t)
  finished : {μ : K.World} {e : E} {s : A.sorts.Shared} {r : A.sorts.Ans} {t : B.sorts.Shared} {r' : B.sorts.Ans} →
      ((j : ℕ) → L.Known j → (L.pairing j).Houses μ) →
      K.Given μ s r t r' →
      Alike L (Over e [] s) (Over e [] t)
  undefined : {x : A.sorts.Fault} {ks : List ℕ} {y : State E B.sorts} → Alike L (Broken x ks) y

-- After n steps of the source the target has a moment, of n to W · n steps, at which it is alike.
abbrev pub Faithful : {E : Type 0} {A B : Lang E} {K : Kit A B} {P : Program A.sorts} {Q : Program B.sorts} → Linking K P Q → ℕ → State E A.sorts → State E B.sorts → Type 0
Faithful {A = A} {B = B} {P = P} {Q = Q} L W x y =
    (n : ℕ) → (m : ℕ) × (n ≤ m) × (m ≤ W * n) × Alike L (run A P n x) (run B Q m y)

-- A source that has ended after n steps: the target has ended alike from W · n steps on.
abbrev pub EndsAlike : {E : Type 0} {A B : Lang E} {K : Kit A B} {P : Program A.sorts} {Q : Program B.sorts} → Linking K P Q → ℕ → State E A.sorts → State E B.sorts → Type 0
EndsAlike {E = E} {A = A} {B = B} {P = P} {Q = Q} L W x y =
    (n m : ℕ) (e : E) (us : List (Frame A.sorts)) (s : A.sorts.Shared) → run A P n x ≡ Over e us s → W * n ≤ m →
    (fs : List (Frame B.sorts)) × (t : B.sorts.Shared) × (run B Q m y ≡ Over e fs t) × Alike L (Over e us s) (Over e fs t)

-- A target that has broken after m steps: the source has broken by then.
abbrev pub BreaksLater : {E : Type 0} (A B : Lang E) (P : Program A.sorts) (Q : Program B.sorts) → State E A.sorts → State E B.sorts → Type 0
BreaksLater A B P Q x y =
    (m : ℕ) (f : B.sorts.Fault) (ks : List ℕ) → run B Q m y ≡ Broken f ks →
    (g : A.sorts.Fault) × (js : List ℕ) × (run A P m x ≡ Broken g js)

-- the next step of the target tells the source's fault
pub data Tells {E : Type 0} {A B : Lang E} (K : Kit A B) (Q : Program B.sorts) (f : A.sorts.Fault) : State E B.sorts → Type 0 where
  tells : {j : ℕ} {w : B.sorts.View} {fs : List (Frame B.sorts)} {t : B.sorts.Shared} → K.Told f (B.step (Q.text j) w t) → Tells K Q f (Runs j w fs t)

-- A source that breaks by a claimed fault at step n + 1: the target tells it by step W · (n + 1).
abbrev pub Reports : {E : Type 0} {A B : Lang E} (K : Kit A B) (P : Program A.sorts) (Q : Program B.sorts) → ℕ → State E A.sorts → State E B.sorts → Type 0
Reports {A = A} {B = B} K P Q W x y =
    (n : ℕ) (i : ℕ) (v : A.sorts.View) (us : List (Frame A.sorts)) (s : A.sorts.Shared) (f : A.sorts.Fault) (ks : List ℕ) →
    run A P n x ≡ Runs i v us s → run A P (suc n) x ≡ Broken f ks → K.Claimed f →
    (m : ℕ) × (n ≤ m) × (suc m ≤ W * suc n) × Tells K Q f (run B Q m y)

-- the texts of a state, the last called first
abbrev pub texts : {E : Type 0} {L : Sorts} → State E L → List ℕ
texts (Runs k v us s) = k ∷ numbers us
texts (Over e us s) = numbers us
texts (Broken f ks) = ks

-- a list without the numbers that meet a test
abbrev pub unless_so : Bool → ℕ → List ℕ → List ℕ
unless_so true k ks = ks
unless_so false k ks = k ∷ ks

abbrev pub without : (ℕ → Bool) → List ℕ → List ℕ
without test [] = []
without test (k ∷ ks) = unless_so (test k) k (without test ks)

-- The target's texts, wrappers left out, are the images of the source's in their order; nothing is
-- said where the source is broken.
abbrev pub SameTexts : {E : Type 0} {A B : Lang E} {K : Kit A B} {P : Program A.sorts} {Q : Program B.sorts} → Linking K P Q → State E A.sorts → State E B.sorts → Type 0
SameTexts L (Runs k v us s) y = without L.outer (texts y) ≡ map L.image (k ∷ numbers us)
SameTexts L (Over e us s) y = without L.outer (texts y) ≡ map L.image (numbers us)
SameTexts L (Broken f ks) y = Unit {0}
