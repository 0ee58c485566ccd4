-- Two layers one above the other. A step of the middle language weighs, in the first layer, what the
-- second layer may spend on it; so the factor is that of the last layer's text and no product.
use Rattle.std.specs.Prelude.{◌≡◌, ℕ, ◌+◌, None}
use Rattle.simulation.specs.Machine.{Event, Breaks, Lang}
use Rattle.simulation.specs.LocalSimulation.{Kit, Pairing, Couple}

-- A world is a pair of worlds; calls, answers and claimed faults are related through the middle.
abbrev pub composite_kit : {E : Type 0} {A B C : Lang E} → Kit A B → Kit B C → Kit A C
composite_kit {A = A} {B = B} {C = C} K J = record {
  World = K.World × J.World;
  Grows = λ i μ μ'. K.Grows i μ.0 μ'.0 × J.Grows i μ.1 μ'.1;
  Passed = λ μ s n a t n' a'. (m : B.sorts.Shared) × (k : B.sorts.Name) × (b : B.sorts.Arg) × K.Passed μ.0 s n a m k b × J.Passed μ.1 m k b t n' a';
  Given = λ μ s r t r'. (m : B.sorts.Shared) × (q : B.sorts.Ans) × K.Given μ.0 s r m q × J.Given μ.1 m q t r';
  Claimed = K.Claimed;
  Told = λ x e. (y : B.sorts.Fault) × K.Told x (Breaks y) × J.Told y e;
}

-- two views are matched through a view of the middle language
abbrev pub composite_pairing : {E : Type 0} {A B C : Lang E} {K : Kit A B} {J : Kit B C} → Pairing K → Pairing J → Pairing (composite_kit K J)
composite_pairing {B = B} S T = record {
  Houses = λ μ. S.Houses μ.0 × T.Houses μ.1;
  Idle = λ μ. S.Idle μ.0 × T.Idle μ.1;
  Matched = λ μ v s w t. (x : B.sorts.View) × (m : B.sorts.Shared) × S.Matched μ.0 v s x m × T.Matched μ.1 x m w t;
  Halted = λ μ v s w t. (x : B.sorts.View) × (m : B.sorts.Shared) × S.Halted μ.0 v s x m × T.Halted μ.1 x m w t;
  Waits = λ μ μ' v w. (x : B.sorts.View) × S.Waits μ.0 μ'.0 v x × T.Waits μ.1 μ'.1 x w;
}

-- The first layer's couple above the second's. Wrappers are those of the second layer.
abbrev pub composite_couple : {E : Type 0} {A B C : Lang E} {K : Kit A B} {J : Kit B C} → Couple K → Couple J → Couple (composite_kit K J)
composite_couple c d = record {
  number = c.number;
  pairing = composite_pairing c.pairing d.pairing;
  source = c.source;
  target = d.target;
  weight = d.weight;
  most = c.most;
  spare = c.spare + d.spare;
  wrapper = d.wrapper;
  inner = d.inner;
}

-- The second layer's couple, of the first layer's text: it may spend on a step what that weighs there.
abbrev pub below_of : {E : Type 0} {A B C : Lang E} {K : Kit A B} {J : Kit B C} → Couple K → Couple J → Couple J
below_of c d = record d { number = c.number; source = c.target; most = c.weight }

-- What composition asks of the first layer: no wrappers; a world that may stay as it is; and a claimed
-- fault of the source is told by a claimed fault of the middle.
pub record Composable {E : Type 0} {A B C : Lang E} {K : Kit A B} (J : Kit B C) (c : Couple K) : Type 0 where
  pub bare : (n : B.sorts.Name) → c.wrapper n ≡ None
  pub stays : (i : ℕ) (μ : K.World) → K.Grows i μ μ
  pub tells : (f : A.sorts.Fault) (e : Event E B.sorts) → K.Told f e → (y : B.sorts.Fault) × (e ≡ Breaks y) × J.Claimed y
