-- Texts whose target text takes steps of its own between its start and the first step of the source, as a C function keeps the
-- bounds of its dummy arrays before its first statement. ANSI X3.9-1978, section 5.5.1.
use Rattle.std.specs.Prelude.{ℕ, ◌+◌, ◌≤◌}
use Rattle.simulation.specs.Machine.{Goes, Lang}
use Rattle.simulation.specs.LocalSimulation.{Does, Kit, Pairing, Couple, Meets}

-- The views are matched; or the target is still in its own steps, is as is said of it there, and comes by them to a view that is matched,
-- within what the next step of the source may cost then.
pub data IsLate {E : Type 0} {A B : Lang E} {K : Kit A B} (C : Couple K) (Early : K.World → A.sorts.View → A.sorts.Shared → B.sorts.View → B.sorts.Shared → Type 0) (most : A.sorts.View → ℕ)
    (μ : K.World) (v : A.sorts.View) (s : A.sorts.Shared) (w : B.sorts.View) (t : B.sorts.Shared) : Type 0 where
  ready : C.pairing.Matched μ v s w t → IsLate C Early most μ v s w t
  early : (count : ℕ) (view : B.sorts.View) (shared : B.sorts.Shared) → Early μ v s w t → Does B C.weight C.target w t count (Goes view shared) → count + C.most v ≤ most v →
      C.pairing.Matched μ v s view shared → IsLate C Early most μ v s w t

abbrev pub late_pairing : {E : Type 0} {A B : Lang E} {K : Kit A B} (C : Couple K) → (K.World → A.sorts.View → A.sorts.Shared → B.sorts.View → B.sorts.Shared → Type 0) → (A.sorts.View → ℕ) → Pairing K
late_pairing C Early most = record C.pairing { Matched = IsLate C Early most }

-- the same texts, where the target may be late, and a step of the source may cost so much
abbrev pub late : {E : Type 0} {A B : Lang E} {K : Kit A B} (C : Couple K) → (K.World → A.sorts.View → A.sorts.Shared → B.sorts.View → B.sorts.Shared → Type 0) → (A.sorts.View → ℕ) → Couple K
late C Early most = record C { pairing = late_pairing C Early most; most = most }

-- the target follows each step of the source from a view that is matched
abbrev pub Follows : {E : Type 0} {A B : Lang E} {K : Kit A B} → Couple K → Type 0
Follows {A = A} {B = B} {K = K} C =
    (μ : K.World) (v : A.sorts.View) (s : A.sorts.Shared) (w : B.sorts.View) (t : B.sorts.Shared) → C.pairing.Matched μ v s w t → Meets C μ w t (C.most v) (A.step C.source v s)
