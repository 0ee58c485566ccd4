-- The laws of sources, from those of files, of verdicts and of runs.
use Rattle.std.specs.Prelude.{◌≡◌, ℕ, zero, suc}
use Rattle.std.proofs.Common.{refl, sym, ap, ◌∙◌, subst}
use Rattle.fortran_totality.specs.f_tree.declared.names.Options.{Options}
use Rattle.fortran_totality.specs.f_tree.declared.refusals.Refusal.{Refusal}
use Rattle.fortran_totality.specs.f_tree.declared.units.FileSet.{FileSet}
use Rattle.fortran_totality.specs.f_tree.Setting.{IsIn}
use Rattle.fortran_totality.specs.f_tree.Meaning.{units_of}
use Rattle.fortran_totality.specs.f_tree.WellFormed.{AreWellFormed}
use Rattle.declaration_laws.specs.declaration_rows.SetRows.{set_faults}
use Rattle.source_verdict.specs.source_acceptance.SourceFiles.{Source}
use Rattle.source_verdict.specs.source_acceptance.Acceptance.{Phase, Cards, Syntax, Nesting, Declarations, Storage, Sharing, place_of, tree_faults, Fault, of_trees, IsFirstRefusal, IsAccepted}
use Rattle.source_laws.specs.SourceStatements.{EachSourceSpellsOneSet, OneFirstRefusal, NoAcceptedSourceIsRefused, EachAcceptedSourceIsMeant}
use Rattle.source_verdict.proofs.OneSet.{one_set}
use Rattle.source_verdict.proofs.OneRefusal.{Compared, lower, higher, equal, compared, SamePlace, both_ways}
use Rattle.declaration_laws.proofs.SetFits.{sets_formed}
use Rattle.fortran_totality.proofs.AnswerLemmas.{each_answer}
use Rattle.fortran_totality.proofs.RunLemmas.{each_run}
use Rattle.fortran_totality.proofs.StartLemmas.{each_start}
use Rattle.fortran_totality.proofs.StepLemmas.{each_step}

-- ONE FIRST REFUSAL
phase_at : ℕ → Phase
phase_at zero = Cards
phase_at (suc zero) = Syntax
phase_at (suc (suc zero)) = Nesting
phase_at (suc (suc (suc zero))) = Declarations
phase_at (suc (suc (suc (suc zero)))) = Storage
phase_at (suc (suc (suc (suc (suc n))))) = Sharing

phase_back : (p : Phase) → phase_at (place_of p) ≡ p
unfolding phase_at place_of
phase_back Cards = refl
phase_back Syntax = refl
phase_back Nesting = refl
phase_back Declarations = refl
phase_back Storage = refl
phase_back Sharing = refl

same_phase : (p q : Phase) → place_of p ≡ place_of q → p ≡ q
same_phase p q same = sym (phase_back p) ∙ (ap phase_at same ∙ phase_back q)

in_one_phase : (options : Options) (source : Source) (r q : Refusal) (one : IsFirstRefusal options source r) (other : IsFirstRefusal options source q) →
    one.phase ≡ other.phase → SamePlace r q
in_one_phase options source r q one other same =
    both_ways r q (one.least q (subst (λ p. Fault options source p q) (sym same) other.holds)) (other.least r (subst (λ p. Fault options source p r) same one.holds))

by_phases : (options : Options) (source : Source) (r q : Refusal) (one : IsFirstRefusal options source r) (other : IsFirstRefusal options source q) →
    Compared (place_of one.phase) (place_of other.phase) → SamePlace r q
by_phases options source r q one other (lower less) = absurd (other.read one.phase r less one.holds)
by_phases options source r q one other (higher less) = absurd (one.read other.phase q less other.holds)
by_phases options source r q one other (equal same) = in_one_phase options source r q one other (same_phase one.phase other.phase same)

pub one_refusal : OneFirstRefusal
one_refusal options source r q one other =
    let same : SamePlace r q = by_phases options source r q one other (compared (place_of one.phase) (place_of other.phase)) in
    (same.file, same.card, same.number)

-- ONE SET
pub one_source_set : EachSourceSpellsOneSet
one_source_set = one_set

-- WHAT IS ACCEPTED
pub not_refused : NoAcceptedSourceIsRefused
not_refused options source set r accepted first = accepted.sound first.phase r first.holds

no_fault : (options : Options) (source : Source) (set : FileSet) → IsAccepted options source set → (r : Refusal) → IsIn r (set_faults options set) → ⊥
unfolding tree_faults
no_fault options source set accepted r among = accepted.sound Declarations r (of_trees Declarations set r accepted.spelled among)

pub meant : EachAcceptedSourceIsMeant
meant options source set g accepted setting =
    let formed : AreWellFormed g (units_of options set) = sets_formed options set g setting (no_fault options source set accepted) in
    record { formed = formed; runs = λ units n. each_run each_step each_start each_answer g (units_of options set) units n formed }
