-- Each label of a list once: which labels these are, and which of the jumps behind an assigned GO TO is that to a label.
use Rattle.std.specs.Prelude.{◌≡◌, ℕ, suc, nat_eq, Bool, true, false, ◌||◌, List, [], ◌∷◌, Some, slice_get, if◌then◌else◌}
use Rattle.std.proofs.Common.{refl, sym, ap, ◌∙◌, subst, true≢false}
use Rattle.std.proofs.lemmas.Bool.{eqb-true}
use Rattle.fortran_laws.specs.f_tree.Step.{contains}
use Rattle.lowering.specs.l_core.Machine.{passed_before}
use Rattle.lowering.specs.Statements.{each_once}

-- a label that stands again is there without its first place
again_there : (ks : List ℕ) (k l : ℕ) (test : Bool) → nat_eq k l ≡ test → contains ks k ≡ true → (test || contains ks l) ≡ contains ks l
again_there ks k l false e again = refl
again_there ks k l true e again = sym (subst (λ z. contains ks z ≡ true) (eqb-true k l e) again)

once_by : (ks : List ℕ) (k l : ℕ) (test : Bool) → contains ks k ≡ test → contains (each_once ks) l ≡ contains ks l → contains (if test then each_once ks else k ∷ each_once ks) l ≡ (nat_eq k l || contains ks l)
unfolding contains
once_by ks k l false apart same = ap (λ b. nat_eq k l || b) same
once_by ks k l true again same = same ∙ sym (again_there ks k l (nat_eq k l) refl again)

pub contains_once : (labels : List ℕ) (l : ℕ) → contains (each_once labels) l ≡ contains labels l
unfolding contains each_once
contains_once [] l = refl
contains_once (k ∷ ks) l = once_by ks k l (contains ks k) refl (contains_once ks l)

held_by : (k l : ℕ) (ks : List ℕ) (test : Bool) → nat_eq k l ≡ test → (test || contains ks l) ≡ true → (contains ks l ≡ true → slice_get ks (passed_before ks l) ≡ Some l) →
    slice_get (k ∷ ks) (if test then 0 else suc (passed_before ks l)) ≡ Some l
held_by k l ks true e h later = ap Some (eqb-true k l e)
held_by k l ks false e h later = later h

-- as many are passed as stand before that of the label
pub held_there : (labels : List ℕ) (l : ℕ) → contains labels l ≡ true → slice_get labels (passed_before labels l) ≡ Some l
unfolding contains passed_before
held_there [] l h = absurd (true≢false (sym h))
held_there (k ∷ ks) l h = held_by k l ks (nat_eq k l) refl h (held_there ks l)
