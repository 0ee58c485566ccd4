-- A source has one first refusal at most, by its file, its card and its number.
use Rattle.std.specs.Prelude.{◌≡◌, ℕ, zero, suc, nat_lt, Bool, true, false, ◌<◌, ◌≤◌}
use Rattle.std.proofs.lemmas.Bool.{ltb-true, ltb-false}
use Rattle.std.proofs.Common.{refl, sym, ap, ◌∙◌, subst, arith}
use Rattle.refusal_order.specs.f_tree.declared.names.Options.{Options}
use Rattle.refusal_order.specs.f_tree.declared.refusals.Refusal.{Refusal}
use Rattle.refusal_order.specs.f_tree.RefusalRows.{number_of, IsNotAfter}
use Rattle.source_acceptance.specs.SourceFiles.{Source}
use Rattle.source_verdict.specs.SourceRows.{Phase, Cards, Syntax, Nesting, Declarations, Forms, Sharing, place_of, Purpose, Translation, Checking, FaultFor, of_cards, of_syntax, of_nests, of_declarations, of_forms, of_sharing, IsFirstRefusalFor, AcceptedIsNotRefused, OneSetIsAccepted, OneFirstRefusal, TranslatedIsChecked}
use Rattle.source_verdict.proofs.OneSet.{one_set}

-- two numbers, compared
pub data Compared (p q : ℕ) : Type 0 where
  lower : p < q → Compared p q
  higher : q < p → Compared p q
  equal : p ≡ q → Compared p q

compared_by : (p q : ℕ) (b c : Bool) → nat_lt p q ≡ b → nat_lt q p ≡ c → Compared p q
compared_by p q true c is other = lower (ltb-true p q is)
compared_by p q false true is other = higher (ltb-true q p other)
compared_by p q false false is other =
    let a : q ≤ p = ltb-false p q is in
    let b : p ≤ q = ltb-false q p other in
    equal (omega arith)

pub compared : (p q : ℕ) → Compared p q
compared p q = compared_by p q (nat_lt p q) (nat_lt q p) refl refl

-- two refusals at one place, of one row
pub record SamePlace (r q : Refusal) : Type 0 where
  pub file : r.file ≡ q.file
  pub card : r.card ≡ q.card
  pub number : number_of r.kind ≡ number_of q.kind

pub both_ways : (r q : Refusal) → IsNotAfter r q → IsNotAfter q r → SamePlace r q
both_ways r q one other =
    let a : r.file ≤ q.file = one.file in
    let b : q.file ≤ r.file = other.file in
    let file : r.file ≡ q.file = omega arith in
    let c : r.card ≤ q.card = one.card (sym file) in
    let d : q.card ≤ r.card = other.card file in
    let card : r.card ≡ q.card = omega arith in
    let e : number_of r.kind ≤ number_of q.kind = one.number (sym file) (sym card) in
    let f : number_of q.kind ≤ number_of r.kind = other.number file card in
    let number : number_of r.kind ≡ number_of q.kind = omega arith in
    record { file = file; card = card; number = number }

phase_at : ℕ → Phase
phase_at zero = Cards
phase_at (suc zero) = Syntax
phase_at (suc (suc zero)) = Nesting
phase_at (suc (suc (suc zero))) = Declarations
phase_at (suc (suc (suc (suc zero)))) = Forms
phase_at (suc (suc (suc (suc (suc n))))) = Sharing

phase_back : (p : Phase) → phase_at (place_of p) ≡ p
unfolding phase_at place_of
phase_back Cards = refl
phase_back Syntax = refl
phase_back Nesting = refl
phase_back Declarations = refl
phase_back Forms = refl
phase_back Sharing = refl

same_phase : (p q : Phase) → place_of p ≡ place_of q → p ≡ q
same_phase p q same = sym (phase_back p) ∙ (ap phase_at same ∙ phase_back q)

in_one_phase : (purpose : Purpose) (options : Options) (source : Source) (r q : Refusal) (one : IsFirstRefusalFor purpose options source r) (other : IsFirstRefusalFor purpose options source q) →
    one.phase ≡ other.phase → SamePlace r q
in_one_phase purpose options source r q one other same =
    both_ways r q (one.least q (subst (λ p. FaultFor purpose options source p q) (sym same) other.holds)) (other.least r (subst (λ p. FaultFor purpose options source p r) same one.holds))

by_phases : (purpose : Purpose) (options : Options) (source : Source) (r q : Refusal) (one : IsFirstRefusalFor purpose options source r) (other : IsFirstRefusalFor purpose options source q) →
    Compared (place_of one.phase) (place_of other.phase) → SamePlace r q
by_phases purpose options source r q one other (lower less) = absurd (other.read one.phase r less one.holds)
by_phases purpose options source r q one other (higher less) = absurd (one.read other.phase q less other.holds)
by_phases purpose options source r q one other (equal same) = in_one_phase purpose options source r q one other (same_phase one.phase other.phase same)

pub one_refusal : OneFirstRefusal
one_refusal purpose options source r q one other =
    let same : SamePlace r q = by_phases purpose options source r q one other (compared (place_of one.phase) (place_of other.phase)) in
    (same.file, same.card, same.number)

pub not_refused : AcceptedIsNotRefused
not_refused purpose options source set r accepted first = accepted.sound first.phase r first.holds

pub one_accepted : OneSetIsAccepted
one_accepted purpose options source one other a b = one_set source one other a.spelled b.spelled

-- WHAT IS ACCEPTED FOR A TRANSLATION is accepted for checking: fewer rows are judged for that
for_translation : (options : Options) (source : Source) (phase : Phase) (r : Refusal) → FaultFor Checking options source phase r →
    FaultFor Translation options source phase r
for_translation options source _ _ (of_cards r h) = of_cards r h
for_translation options source _ _ (of_syntax r h) = of_syntax r h
for_translation options source _ _ (of_nests set file unit r spells is has row) = of_nests set file unit r spells is has row
for_translation options source _ _ (of_declarations set r spells among) = of_declarations set r spells among
for_translation options source _ _ (of_forms translated set r spells among) = absurd (cc)
for_translation options source _ _ (of_sharing set r spells among) = of_sharing set r spells among

pub translated_checked : TranslatedIsChecked
translated_checked options source set accepted = record {
  whole = accepted.whole;
  spelled = accepted.spelled;
  sound = λ phase r h. accepted.sound phase r (for_translation options source phase r h);
}
