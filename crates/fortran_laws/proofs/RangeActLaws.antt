-- A run has one first range act at most, and it is the one that is computed.
use Rattle.std.specs.Prelude.{◌≡◌, ℕ, zero, suc, ◌<◌, ◌≤◌, ◌⊎◌, List, Option, Some, None}
use Rattle.std.proofs.Common.{refl, sym, ap, ◌∙◌, subst, arith, inl, inr}
use Rattle.std.proofs.lemmas.Bool.{cases_lt}
use Rattle.f_tree.specs.simulation.Machine.{Runs, Over, Broken, next, run, machine_opened}
use Rattle.f_tree.specs.run_state.Endings.{Report}
use Rattle.f_tree.specs.run_state.Units.{Units}
use Rattle.f_tree.specs.Values.{Act}
use Rattle.f_tree.specs.Facts.{ProgramUnit}
use Rattle.f_tree.specs.Setting.{Setting}
use Rattle.f_tree.specs.Step.{fortran}
use Rattle.f_tree.specs.Meaning.{RunState, program, started, ftn}
use Rattle.f_tree.specs.RangeActs.{reported_between, IsFirstRangeAct, or_later, range_from, range}
use Rattle.fortran_laws.specs.RangeActStatements.{FirstRangeActIsOne, ComputedIsFirst, FirstIsComputed}

-- a state that is broken
record IsBroken (x : RunState) : Type 0 where
  act : Act
  texts : List ℕ
  is : x ≡ Broken act texts

-- what is reported is reported where a run breaks
breaks : (g : Setting) (S : List ProgramUnit) (x y : RunState) (r : Report) → reported_between g S x y ≡ Some r → IsBroken y
unfolding reported_between
breaks g S (Runs k v rest w) (Runs k' v' rest' w') r h = absurd (cc)
breaks g S (Runs k v rest w) (Over e frames w') r h = absurd (cc)
breaks g S (Runs k v rest w) (Broken act ks) r h = record { act = act; texts = ks; is = refl }
breaks g S (Over e frames w) y r h = absurd (cc)
breaks g S (Broken act ks) y r h = absurd (cc)

-- one that is broken stays, and nothing is reported of it
stays : (g : Setting) (S : List ProgramUnit) (x : RunState) → IsBroken x → IsBroken (next fortran (program g S) x)
unfolding next
stays g S x h = subst (λ y. IsBroken (next fortran (program g S) y)) (sym h.is) (record { act = h.act; texts = h.texts; is = refl })

stays_on : (g : Setting) (S : List ProgramUnit) (x : RunState) → IsBroken x → (k : ℕ) → IsBroken (run fortran (program g S) k x)
unfolding run
stays_on g S x h zero = h
stays_on g S x h (suc k) = stays g S (run fortran (program g S) k x) (stays_on g S x h k)

nothing_more : (g : Setting) (S : List ProgramUnit) (x y : RunState) → IsBroken x → reported_between g S x y ≡ None
unfolding reported_between
nothing_more g S x y h = subst (λ z. reported_between g S z y ≡ None) (sym h.is) refl

-- a run of a step more, the step first
step_first : (g : Setting) (S : List ProgramUnit) (n : ℕ) (x : RunState) → run fortran (program g S) n (next fortran (program g S) x) ≡ run fortran (program g S) (suc n) x
unfolding run
step_first g S zero x = refl
step_first g S (suc n) x = ap (next fortran (program g S)) (step_first g S n x)

-- what is reported behind so many steps from a state
abbrev behind : Setting → List ProgramUnit → RunState → ℕ → Option Report
behind g S x n = reported_between g S (run fortran (program g S) n x) (run fortran (program g S) (suc n) x)

behind_first : (g : Setting) (S : List ProgramUnit) (x : RunState) (n : ℕ) → behind g S (next fortran (program g S) x) n ≡ behind g S x (suc n)
behind_first g S x n =
    ap (λ y. reported_between g S y (run fortran (program g S) (suc n) (next fortran (program g S) x))) (step_first g S n x)
    ∙ ap (λ y. reported_between g S (run fortran (program g S) (suc n) x) y) (step_first g S (suc n) x)

none_or_some : (o : Option Report) → (o ≡ None) ⊎ ((q : Report) × (o ≡ Some q))
none_or_some None = inl refl
none_or_some (Some q) = inr (q, refl)

-- where one is reported at once, none is behind
once : (g : Setting) (S : List ProgramUnit) (x : RunState) (q : Report) → reported_between g S x (next fortran (program g S) x) ≡ Some q → (n : ℕ) →
    behind g S x (suc n) ≡ None
once g S x q h n =
    let broken = stays_on g S (next fortran (program g S) x) (breaks g S x (next fortran (program g S) x) q h) n in
    sym (behind_first g S x n)
    ∙ nothing_more g S (run fortran (program g S) n (next fortran (program g S) x)) (run fortran (program g S) (suc n) (next fortran (program g S) x)) broken

-- WHAT IS COMPUTED
found_by : (g : Setting) (S : List ProgramUnit) (m : ℕ) (x : RunState) (r : Report) → range_from g S x m ≡ Some r → (n : ℕ) × (n < m) × (behind g S x n ≡ Some r)
unfolding range_from or_later run
found_by g S zero x r h = absurd (cc)
found_by g S (suc m) x r h =
    either (found_by g S m (next fortran (program g S) x) r) (none_or_some (reported_between g S x (next fortran (program g S) x)))
  where
    later : Option Report
    later = range_from g S (next fortran (program g S) x) m

    either : (later ≡ Some r → (n : ℕ) × (n < m) × (behind g S (next fortran (program g S) x) n ≡ Some r)) →
        (reported_between g S x (next fortran (program g S) x) ≡ None) ⊎ ((q : Report) × (reported_between g S x (next fortran (program g S) x) ≡ Some q)) →
        (n : ℕ) × (n < suc m) × (behind g S x n ≡ Some r)
    either more (inl none) =
        let rest = more (sym (ap (λ o. or_later o later) none) ∙ h) in
        (suc rest.0, omega (arith, rest.1), sym (behind_first g S x rest.0) ∙ rest.2)
    either more (inr found) =
        let same : Some found.0 ≡ Some r = sym (ap (λ o. or_later o later) found.1) ∙ h in
        (0, omega arith, found.1 ∙ same)

computes : (g : Setting) (S : List ProgramUnit) (n m : ℕ) (x : RunState) (r : Report) → behind g S x n ≡ Some r → n < m → range_from g S x m ≡ Some r
unfolding range_from or_later run
computes g S n zero x r h low = absurd (omega arith)
computes g S zero (suc m) x r h low = ap (λ o. or_later o (range_from g S (next fortran (program g S) x) m)) h
computes g S (suc n) (suc m) x r h low =
    ap (λ o. or_later o (range_from g S (next fortran (program g S) x) m)) (not_yet (none_or_some (reported_between g S x (next fortran (program g S) x))))
    ∙ computes g S n m (next fortran (program g S) x) r (behind_first g S x n ∙ h) (omega arith)
  where
    not_yet : (reported_between g S x (next fortran (program g S) x) ≡ None) ⊎ ((q : Report) × (reported_between g S x (next fortran (program g S) x) ≡ Some q)) →
        reported_between g S x (next fortran (program g S) x) ≡ None
    not_yet (inl none) = none
    not_yet (inr found) = let none : Some r ≡ None = sym h ∙ once g S x found.0 found.1 n in absurd (cc)

pub computed_is_first : ComputedIsFirst
unfolding range ftn
computed_is_first g S units m r h =
    let found = found_by g S m (started g S units) r h in
    (found.0, found.1, record { meets = found.2 })

pub first_is_computed : FirstIsComputed
unfolding range ftn
first_is_computed g S units n m r h low = computes g S n m (started g S units) r h.meets low

-- the later of two would come behind a broken state
not_before : (g : Setting) (S : List ProgramUnit) (n m : ℕ) (x : RunState) (r q : Report) → behind g S x n ≡ Some r → behind g S x m ≡ Some q → n < m → ⊥
unfolding run
not_before g S n zero x r q h k low = omega arith
not_before g S zero (suc m) x r q h k low = let none : Some q ≡ None = sym k ∙ once g S x r h m in cc
not_before g S (suc n) (suc m) x r q h k low =
    not_before g S n m (next fortran (program g S) x) r q (behind_first g S x n ∙ h) (behind_first g S x m ∙ k) (omega arith)

pub first_is_one : FirstRangeActIsOne
unfolding ftn
first_is_one g S units n m r q h k = either (cases_lt n m) (cases_lt m n)
  where
    x : RunState
    x = started g S units

    at_one : n ≡ m → (n ≡ m) × (r ≡ q)
    at_one same =
        let reports : Some r ≡ Some q = sym h.meets ∙ ap (λ j. behind g S x j) same ∙ k.meets in
        (same, cc)

    either : (n < m) ⊎ (m ≤ n) → (m < n) ⊎ (n ≤ m) → (n ≡ m) × (r ≡ q)
    either (inl low) other = absurd (not_before g S n m x r q h.meets k.meets low)
    either (inr a) (inl low) = absurd (not_before g S m n x q r k.meets h.meets low)
    either (inr a) (inr b) = at_one (omega arith)
