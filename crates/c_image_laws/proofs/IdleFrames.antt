-- A frame that is idle stays idle while the world grows elsewhere, and is idle again when the world is cut.
use Rattle.std.specs.Prelude.{◌≡◌, ℕ, suc, ◌+◌, ◌<◌, ◌≤◌, Option, Some, None}
use Rattle.std.proofs.Common.{refl, sym, ◌∙◌, subst, arith}
use Rattle.c_laws.specs.c_tree.Objects.{Object}
use Rattle.c_image.specs.World.{changed}
use Rattle.c_image_laws.specs.Statements.{IdleBesideSequence, IdleBesideFrame, IdleBesideObject, IdleBefore}
use Rattle.c_image_laws.proofs.ListLaws.{one_there, none_there, by_equal}
use Rattle.c_image_laws.proofs.Growing.{changed_there, changed_elsewhere, held_outside}

pub idle_beside_sequence : IdleBesideSequence
idle_beside_sequence μ first count object q idle outside = record { no_home = no_home; not_held = idle.not_held }
  where
    no_home : (n k : ℕ) → n < suc μ.height → changed μ.homes μ.height (Some object) n ≡ Some k → first ≤ k → k < first + count → ⊥
    no_home n k low home at under =
        by_equal ⊥ n μ.height
        (λ same.
        let there : changed μ.homes μ.height (Some object) n ≡ Some object = subst (λ i. changed μ.homes μ.height (Some object) i ≡ Some object) (sym same) (changed_there μ.homes μ.height (Some object)) in
        let k_is : k ≡ object = one_there (changed μ.homes μ.height (Some object) n) k object home there in
        outside (subst (λ i. first ≤ i) k_is at) (subst (λ i. i < first + count) k_is under))
        (λ apart. idle.no_home n k (omega (arith, low, apart)) (sym (changed_elsewhere μ.homes μ.height n (Some object) apart) ∙ home) at under)

pub idle_beside_frame : IdleBesideFrame
idle_beside_frame μ first count other new idle apart = record {
  no_home = idle.no_home;
  not_held = λ k at under. held_outside other k new μ.frozen (apart k at under) ∙ idle.not_held k at under;
}

pub idle_beside_object : IdleBesideObject
idle_beside_object μ first count object held idle outside = record {
  no_home = idle.no_home;
  not_held = λ k at under.
      changed_elsewhere μ.frozen object k held (λ same. outside (subst (λ i. first ≤ i) same at) (subst (λ i. i < first + count) same under)) ∙ idle.not_held k at under;
}

pub idle_before : IdleBefore
idle_before μ ν first count extends idle = record {
  no_home = λ n k low home. idle.no_home n k (let higher = extends.higher in omega (arith, low, higher)) (extends.homes n low ∙ home);
  not_held = λ k at under. by k (μ.frozen k) refl (idle.not_held k at under);
}
  where
    by : (k : ℕ) (found : Option Object) → μ.frozen k ≡ found → ν.frozen k ≡ None → μ.frozen k ≡ None
    by k None is none = is
    by k (Some object) is none = absurd (none_there (ν.frozen k) object none (extends.frozen k object is))
