-- Operands of control words, one after the other.
use Rattle.std.specs.Prelude.{◌≡◌, ℕ, ◌+◌, ◌<◌, ◌≤◌, Bool, true, false, ◌||◌, List, [], ◌∷◌, ◌++◌, map, length, Option, Some, None, option_to_list}
use Rattle.std.proofs.Common.{refl, ap, sym, subst, ◌∙◌, append_assoc, drop, get_or}
use Rattle.std.proofs.lemmas.List.{append-nil, drop_all}
use Rattle.f_tree.specs.declared.statements.Control.{Control}
use Rattle.f_tree.specs.Facts as fact
use Rattle.f_tree.specs.Terms.{Term, Terms, NoMore, More, terms, refers, any_refers}
use Rattle.f_tree.specs.Lines.{Naming, controls_written, nothing_written}
use Rattle.lowered_tree.specs.l_core.Pures as core
use Rattle.lowering.specs.Expressions as low
use Rattle.lowered_tree.specs.declared.pures.Pure.{Pure}
use Rattle.lowered_tree.specs.declared.steps.Step.{Step}
use Rattle.lowered_tree.specs.Shapes.{pure_of, pures_of, steps_of}
use Rattle.name_facts.specs.declared.table.NameFacts.{NameFacts}
use Rattle.expression_lowering.specs.declared.answers.Lowered.{Lowered}
use Rattle.expression_lowering.specs.TableNames.{AreFactsOf, all_lower}
use Rattle.expression_lowering.specs.Outcomes.{IsLowered}
use Rattle.expression_lowering.proofs.CoveredForms.{and-left, and-right}
use Rattle.expression_lowering.proofs.Walks.{with_more, IsOnward}
use Rattle.statement_lowering.specs.TransferForms.{operand_of, operands_in}
use Rattle.statement_lowering.specs.LoweredTransfers.{value_lowers, controls_lower, AreLoweredOperands, IsLoweredIf, IsAddedIf}
use Rattle.statement_lowering.proofs.ControlWords.{operands-more, split-at}

-- ONE OPERAND MORE
or-joined : (a b c : Bool) → a || (b || c) ≡ (a || b) || c
or-joined true b c = refl
or-joined false b c = refl

pub terms-join : (ts us : List Term) → any_refers (terms (ts ++ us)) ≡ any_refers (terms ts) || any_refers (terms us)
unfolding terms any_refers
terms-join [] us = refl
terms-join (t ∷ ts) us = ap (λ b. refers t || b) (terms-join ts us) ∙ or-joined (refers t) (any_refers (terms ts)) (any_refers (terms us))

-- the first term of a list
pub listed-more : (q : low.Purpose) (k : ℕ) (t : Term) (ts : List Term) →
    low.lower_all core.NoPure q k (terms (t ∷ ts)) ≡ low.and_then (low.lower core.NoPure (low.ahead q (any_refers (terms ts))) k t) (λ n. low.lower_all core.NoPure q n (terms ts))
unfolding low.lower_all terms
listed-more q k t ts = refl

pub listed-none : (q : low.Purpose) (k : ℕ) → low.lower_all core.NoPure q k (terms []) ≡ low.plain core.NoPure k
unfolding low.lower_all low.no_operand terms
listed-none q k = refl

with_more-last : (vs : List Pure) (v : Pure) (ps : core.Pures) → with_more (vs ++ v ∷ []) ps ≡ with_more vs (core.AndPure (pure_of v) ps)
unfolding with_more
with_more-last [] v ps = refl
with_more-last (w ∷ vs) v ps = ap (core.AndPure (pure_of w)) (with_more-last vs v ps)

with_more-none : (vs : List Pure) → with_more vs core.NoPure ≡ pures_of vs
unfolding with_more pures_of
with_more-none [] = refl
with_more-none (v ∷ vs) = ap (core.AndPure (pure_of v)) (with_more-none vs)

one-more : (whole : low.Lowered core.Pures) (one : low.Lowered core.Pure) (more : ℕ → low.Lowered core.Pures) (before now after : List Step) (vs : List Pure) (l : Lowered) →
    IsOnward whole (low.and_then one more) before now vs → IsLowered one now after l → IsOnward whole (more l.free) before after (vs ++ l.value ∷ [])
unfolding low.and_then
one-more whole one more before now after vs l so_far is = record {
  steps =
      ap (λ ss. ss ++ (more l.free).steps) is.steps ∙ ap (λ n. (steps_of now ++ one.steps) ++ (more n).steps) is.free
      ∙ append_assoc (steps_of now) one.steps (more one.free).steps ∙ so_far.steps;
  values =
      with_more-last vs l.value (more l.free).value ∙ ap (λ v. with_more vs (core.AndPure v (more l.free).value)) is.value
      ∙ ap (λ n. with_more vs (core.AndPure one.value (more n).value)) is.free ∙ so_far.values;
  free = ap (λ n. (more n).free) is.free ∙ so_far.free;
}

-- an operand, and those behind it
pub walk-one : (q wanted : low.Purpose) (k : ℕ) (t : Term) (ts : List Term) (whole : low.Lowered core.Pures) (before now after : List Step) (vs : List Pure) (l : Lowered) →
    wanted ≡ low.ahead q (any_refers (terms ts)) → IsOnward whole (low.lower_all core.NoPure q k (terms (t ∷ ts))) before now vs →
    IsLowered (low.lower core.NoPure wanted k t) now after l → IsOnward whole (low.lower_all core.NoPure q l.free (terms ts)) before after (vs ++ l.value ∷ [])
walk-one q wanted k t ts whole before now after vs l as_wanted so_far one =
    one-more whole (low.lower core.NoPure (low.ahead q (any_refers (terms ts))) k t) (λ n. low.lower_all core.NoPure q n (terms ts)) before now after vs l
    (subst (λ (x : low.Lowered core.Pures). IsOnward whole x before now vs) (listed-more q k t ts) so_far)
    (subst (λ (p : low.Purpose). IsLowered (low.lower core.NoPure p k t) now after l) as_wanted one)

-- the operand of a control word, where it has one
walk-if : (q wanted : low.Purpose) (k n : ℕ) (o : Option Term) (ts : List Term) (whole : low.Lowered core.Pures) (before now after : List Step) (vs ws : List Pure) (one : Option Lowered) →
    wanted ≡ low.ahead q (any_refers (terms ts)) → IsOnward whole (low.lower_all core.NoPure q k (terms (option_to_list o ++ ts))) before now vs →
    IsLoweredIf o wanted k now after one → IsAddedIf one k vs ws n → IsOnward whole (low.lower_all core.NoPure q n (terms ts)) before after ws
unfolding IsLoweredIf IsAddedIf
walk-if q wanted k n None ts whole before now after vs ws None as_wanted so_far is added =
    subst (λ (n : ℕ). IsOnward whole (low.lower_all core.NoPure q n (terms ts)) before after ws) (sym added.1)
    (subst (λ (ws : List Pure). IsOnward whole (low.lower_all core.NoPure q k (terms ts)) before after ws) (sym added.0)
    (subst (λ (ss : List Step). IsOnward whole (low.lower_all core.NoPure q k (terms ts)) before ss vs) (sym is) so_far))
walk-if q wanted k n None ts whole before now after vs ws (Some l) as_wanted so_far is added = absurd is
walk-if q wanted k n (Some t) ts whole before now after vs ws None as_wanted so_far is added = absurd is
walk-if q wanted k n (Some t) ts whole before now after vs ws (Some l) as_wanted so_far is added =
    subst (λ (n : ℕ). IsOnward whole (low.lower_all core.NoPure q n (terms ts)) before after ws) (sym added.1)
    (subst (λ (ws : List Pure). IsOnward whole (low.lower_all core.NoPure q l.free (terms ts)) before after ws) (sym added.0)
    (walk-one q wanted k t ts whole before now after vs l as_wanted so_far is))

operands-split : (way : fact.Direction) (names : Naming) (cs : List Control) (i : ℕ) (c : Control) → i < length cs → c ≡ get_or cs i c →
    operands_in way (drop i cs) names ≡ option_to_list (operand_of way names c.word c.value) ++ operands_in way (drop (i + 1) cs) names
unfolding operands_in
operands-split way names cs i c h is = ap (λ cs. (controls_written way names cs).operands) (split-at cs i c h is) ∙ operands-more way names c (drop (i + 1) cs)

pub walk-control : (way : fact.Direction) (names : Naming) (wanted : low.Purpose) (k n : ℕ) (cs : List Control) (i : ℕ) (c : Control) (later : List Control) (whole : low.Lowered core.Pures)
    (before now after : List Step) (vs ws : List Pure) (one : Option Lowered) → i < length cs → c ≡ get_or cs i c → later ≡ drop (i + 1) cs →
    wanted ≡ low.ahead low.ForUse (any_refers (terms (operands_in way later names))) →
    IsOnward whole (low.lower_all core.NoPure low.ForUse k (terms (operands_in way (drop i cs) names))) before now vs →
    IsLoweredIf (operand_of way names c.word c.value) wanted k now after one → IsAddedIf one k vs ws n →
    IsOnward whole (low.lower_all core.NoPure low.ForUse n (terms (operands_in way (drop (i + 1) cs) names))) before after ws
walk-control way names wanted k n cs i c later whole before now after vs ws one h is rest as_wanted so_far lowered added =
    walk-if low.ForUse wanted k n (operand_of way names c.word c.value) (operands_in way (drop (i + 1) cs) names) whole before now after vs ws one
    (as_wanted ∙ ap (λ cs. low.ahead low.ForUse (any_refers (terms (operands_in way cs names)))) rest)
    (subst (λ (ts : List Term). IsOnward whole (low.lower_all core.NoPure low.ForUse k (terms ts)) before now vs) (operands-split way names cs i c h is) so_far) lowered added

pub walk-ended : (whole : low.Lowered core.Pures) (k : ℕ) (before now : List Step) (vs : List Pure) → IsOnward whole (low.plain core.NoPure k) before now vs → AreLoweredOperands whole before now vs
unfolding low.plain
walk-ended whole k before now vs so_far = record {
  steps = sym (append-nil (steps_of now)) ∙ so_far.steps;
  values = sym (with_more-none vs) ∙ so_far.values;
}

operands-ended : (way : fact.Direction) (names : Naming) → operands_in way [] names ≡ []
unfolding operands_in controls_written nothing_written
operands-ended way names = refl

pub walk-done : (way : fact.Direction) (names : Naming) (k : ℕ) (cs : List Control) (i : ℕ) (whole : low.Lowered core.Pures) (before now : List Step) (vs : List Pure) → length cs ≤ i →
    IsOnward whole (low.lower_all core.NoPure low.ForUse k (terms (operands_in way (drop i cs) names))) before now vs → AreLoweredOperands whole before now vs
walk-done way names k cs i whole before now vs h so_far =
    walk-ended whole k before now vs
    (subst (λ (x : low.Lowered core.Pures). IsOnward whole x before now vs)
    (ap (λ cs. low.lower_all core.NoPure low.ForUse k (terms (operands_in way cs names))) (drop_all i cs h)
    ∙ ap (λ ts. low.lower_all core.NoPure low.ForUse k (terms ts)) (operands-ended way names) ∙ listed-none low.ForUse k) so_far)

-- WHAT IS LOWERED
pub covered-control : (table : NameFacts) (cs : List Control) (i : ℕ) (c : Control) → i < length cs → c ≡ get_or cs i c → controls_lower table (drop i cs) ≡ true →
    value_lowers table c.value ≡ true
unfolding controls_lower all_lower
covered-control table cs i c h is covered =
    and-left (value_lowers table c.value) (controls_lower table (drop (i + 1) cs)) (ap (controls_lower table) (sym (split-at cs i c h is)) ∙ covered)

pub covered-later : (table : NameFacts) (cs : List Control) (i : ℕ) (c : Control) → i < length cs → c ≡ get_or cs i c → controls_lower table (drop i cs) ≡ true →
    controls_lower table (drop (i + 1) cs) ≡ true
unfolding controls_lower all_lower
covered-later table cs i c h is covered =
    and-right (value_lowers table c.value) (controls_lower table (drop (i + 1) cs)) (ap (controls_lower table) (sym (split-at cs i c h is)) ∙ covered)

-- REFERENCES
refers-control : (way : fact.Direction) (names : Naming) (cs : List Control) (i : ℕ) (c : Control) → i < length cs → c ≡ get_or cs i c →
    any_refers (terms (operands_in way (drop i cs) names))
    ≡ any_refers (terms (option_to_list (operand_of way names c.word c.value))) || any_refers (terms (operands_in way (drop (i + 1) cs) names))
refers-control way names cs i c h is =
    ap (λ ts. any_refers (terms ts)) (operands-split way names cs i c h is)
    ∙ terms-join (option_to_list (operand_of way names c.word c.value)) (operands_in way (drop (i + 1) cs) names)

pub refers-ended : (way : fact.Direction) (names : Naming) (cs : List Control) (i : ℕ) → length cs ≤ i → any_refers (terms (operands_in way (drop i cs) names)) ≡ false
unfolding terms any_refers
refers-ended way names cs i h =
    ap (λ cs. any_refers (terms (operands_in way cs names))) (drop_all i cs h) ∙ ap (λ ts. any_refers (terms ts)) (operands-ended way names)

pub refers-found : (way : fact.Direction) (names : Naming) (cs : List Control) (i : ℕ) (c : Control) (b : Bool) → i < length cs → c ≡ get_or cs i c →
    b ≡ any_refers (terms (option_to_list (operand_of way names c.word c.value))) → b ≡ true → any_refers (terms (operands_in way (drop i cs) names)) ≡ true
refers-found way names cs i c b h is said found =
    refers-control way names cs i c h is ∙ ap (λ b. b || any_refers (terms (operands_in way (drop (i + 1) cs) names))) (sym said ∙ found)

pub refers-skip : (way : fact.Direction) (names : Naming) (cs : List Control) (i : ℕ) (c : Control) (b : Bool) → i < length cs → c ≡ get_or cs i c →
    b ≡ any_refers (terms (option_to_list (operand_of way names c.word c.value))) → b ≡ false →
    any_refers (terms (operands_in way (drop i cs) names)) ≡ any_refers (terms (operands_in way (drop (i + 1) cs) names))
refers-skip way names cs i c b h is said none =
    refers-control way names cs i c h is ∙ ap (λ b. b || any_refers (terms (operands_in way (drop (i + 1) cs) names))) (sym said ∙ none)
