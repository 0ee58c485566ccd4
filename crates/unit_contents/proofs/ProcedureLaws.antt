-- Procedures that are called or passed: one more.
use Rattle.std.specs.Prelude.{◌≡◌, ℕ, ◌+◌, ◌<◌, ◌≤◌, true, false, List, [], ◌∷◌, ◌++◌, fold, length, bytes_eq, slice_index_or, if◌then◌else◌}
use Rattle.std.specs.List.{list_any, flat_map}
use Rattle.std.proofs.Common.{refl, ap, sym, ◌∙◌, drop}
use Rattle.std.proofs.lemmas.Grind.{fold-append}
use Rattle.std.proofs.lemmas.List.{at_drop_more, at_drop_all}
use Rattle.f_tree.specs.declared.names.Class.{Class}
use Rattle.f_tree.specs.Values.{Bytes}
use Rattle.f_tree.specs.Facts.{Facts}
use Rattle.lowered_tree.specs.l_core.Pures as core
use Rattle.lowered_tree.specs.declared.pures.Pure.{Pure}
use Rattle.lowered_tree.specs.declared.pures.Pure as tree
use Rattle.lowered_tree.specs.declared.steps.Callee.{Callee}
use Rattle.lowered_tree.specs.declared.steps.Step.{Step}
use Rattle.lowered_tree.specs.declared.steps.Step.TheVariants as step
use Rattle.lowered_tree.specs.Shapes.{pure_of, pures_of, step_of, steps_of, shapes_opened}
use Rattle.unit_file.specs.UnitItems.{procedure_called, procedure_passed, procedures_passed, procedures_named}
use Rattle.unit_translation.specs.UnitContents.{with_name, procedures_by}
use Rattle.name_facts.specs.declared.table.NameFacts.{NameFacts}
use Rattle.name_facts.specs.GivenFacts.{fact_in}
use Rattle.unit_contents.specs.ContentsOf.{TellsNames}
use Rattle.unit_contents.specs.Parts.{passed_by}
use Rattle.unit_contents.proofs.WalkLaws.{next_step, no_step}

-- ## Names

pub name_put : (seen after : List Bytes) (x copy : Bytes) → list_any (bytes_eq x) seen ≡ false → copy ≡ x → after ≡ seen ++ copy ∷ [] → after ≡ with_name seen x
unfolding with_name
name_put seen after x copy new is put = put ∙ ap (λ y. seen ++ y ∷ []) is ∙ sym (ap (λ b. if b then seen else seen ++ x ∷ []) new)

pub name_kept : (seen : List Bytes) (x : Bytes) → list_any (bytes_eq x) seen ≡ true → seen ≡ with_name seen x
unfolding with_name
name_kept seen x listed = sym (ap (λ b. if b then seen else seen ++ x ∷ []) listed)

-- ## Operands

pub passed-Name : (c : Facts) (x : List ℕ) → procedure_passed (c.program.attribute x).class x ≡ passed_by c (pure_of (tree.Name x))
unfolding shapes_opened passed_by
passed-Name c x = refl

pub passed-other : (c : Facts) (p : Pure) → ((x : List ℕ) → p ≡ tree.Name x → ⊥) → [] ≡ passed_by c (pure_of p)
unfolding shapes_opened passed_by
passed-other c (tree.Name x) other = absurd (other x refl)
passed-other c (tree.Load' s (tree.more_of-Pure p r)) other = refl
passed-other c (tree.FirstOf' s (tree.more_of-Pure p r)) other = refl
passed-other c (tree.Substring' x s (tree.more_of-Pure p r) t (tree.more_of-Pure a q) u (tree.more_of-Pure b o)) other = refl
passed-other c (tree.Prefixed' op s (tree.more_of-Pure p r)) other = refl
passed-other c (tree.Operated' op s (tree.more_of-Pure p r) t (tree.more_of-Pure q o)) other = refl
passed-other c (tree.Chosen' s (tree.more_of-Pure p r) t (tree.more_of-Pure a q) u (tree.more_of-Pure b o)) other = refl
passed-other c _ other = refl

pub ruleset passed_forms = (passed-Name, passed-other)

passed-split : (c : Facts) (p : core.Pure) (ps : core.Pures) → procedures_passed c (core.AndPure p ps) ≡ passed_by c p ++ procedures_passed c ps
unfolding procedures_passed passed_by
passed-split c (core.Name x) ps = refl
passed-split c p ps = refl

-- the procedures that the operands from a position on pass are not yet among those that are there
pub record ArePassedTo (table : NameFacts) (ps : List Pure) (first : List Bytes) (i : ℕ) (names : List Bytes) : Type 0 where
  pub rest : (c : Facts) → TellsNames table c → fold with_name names (procedures_passed c (pures_of (drop i ps))) ≡ fold with_name first (procedures_passed c (pures_of ps))

pub passed_begin : (table : NameFacts) (ps : List Pure) (first : List Bytes) → ArePassedTo table ps first 0 first
passed_begin table ps first = record { rest = λ c tells. refl }

pub passed_more : (table : NameFacts) (ps : List Pure) (first : List Bytes) (i : ℕ) (p : Pure) (before after : List Bytes) → i < length ps → p ≡ slice_index_or ps i p
    → ((c : Facts) → TellsNames table c → after ≡ fold with_name before (passed_by c (pure_of p))) → ArePassedTo table ps first i before → ArePassedTo table ps first (i + 1) after
unfolding pures_of
passed_more table ps first i p before after inside is put known = record {
  rest = λ c tells.
      let later = procedures_passed c (pures_of (drop (i + 1) ps)) in
      ap (λ xs. fold with_name xs later) (put c tells) ∙ sym (fold-append with_name before (passed_by c (pure_of p)) later)
      ∙ ap (fold with_name before) (sym (passed-split c (pure_of p) (pures_of (drop (i + 1) ps))))
      ∙ sym
      (at_drop_more (λ qs. fold with_name before (procedures_passed c (pures_of qs))) ps i p inside
      ∙ ap (λ q. fold with_name before (procedures_passed c (core.AndPure (pure_of q) (pures_of (drop (i + 1) ps))))) (sym is))
      ∙ known.rest c tells;
}

pub passed_end : (table : NameFacts) (ps : List Pure) (first : List Bytes) (i : ℕ) (names : List Bytes) → length ps ≤ i → ArePassedTo table ps first i names → (c : Facts) → TellsNames table c
    → names ≡ fold with_name first (procedures_passed c (pures_of ps))
unfolding pures_of procedures_passed
passed_end table ps first i names past known c tells =
    sym (at_drop_all (λ qs. fold with_name names (procedures_passed c (pures_of qs))) ps i past) ∙ known.rest c tells

-- ## Calls

pub named_added : (c : Facts) (table : NameFacts) (x : List ℕ) (class : Class) (ps : core.Pures) (first second third : List Bytes) → TellsNames table c → class ≡ (fact_in table x).class
    → second ≡ fold with_name first (procedure_called class x) → third ≡ fold with_name second (procedures_passed c ps) → third ≡ fold with_name first (procedures_named c x ps)
unfolding procedures_named
named_added c table x class ps first second third tells told one two =
    two ∙ ap (λ xs. fold with_name xs (procedures_passed c ps)) (one ∙ ap (λ k. fold with_name first (procedure_called k x)) (told ∙ sym (tells.class x)))
    ∙ sym (fold-append with_name first (procedure_called (c.program.attribute x).class x) (procedures_passed c ps))

pub step-CallFor : (c : Facts) (s : Step) (k : ℕ) (callee : Callee) (ps : List Pure) → s ≡ step.CallFor k callee ps → procedures_named c callee.name (pures_of ps) ≡ procedures_by c (step_of s)
unfolding procedures_by
step-CallFor c s k callee ps is = sym (ap (λ r. procedures_by c (step_of r)) is)

pub step-CallSub : (c : Facts) (s : Step) (k : ℕ) (x : List ℕ) (ps : List Pure) → s ≡ step.CallSub k x ps → procedures_named c x (pures_of ps) ≡ procedures_by c (step_of s)
unfolding procedures_by
step-CallSub c s k x ps is = sym (ap (λ r. procedures_by c (step_of r)) is)

pub step-other : (c : Facts) (s : Step) (names : List Bytes) → ((k : ℕ) (callee : Callee) (ps : List Pure) → s ≡ step.CallFor k callee ps → ⊥)
    → ((k : ℕ) (x : List ℕ) (ps : List Pure) → s ≡ step.CallSub k x ps → ⊥) → names ≡ fold with_name names (procedures_by c (step_of s))
unfolding procedures_by
step-other c (step.CallFor k callee ps) names calls does = absurd (calls k callee ps refl)
step-other c (step.CallSub k x ps) names calls does = absurd (does k x ps refl)
step-other c s names calls does = refl

-- ## One step more

-- the procedures that the steps from a position on call or pass are not yet among those that are there
pub record AreListedTo (table : NameFacts) (steps : List Step) (i : ℕ) (names : List Bytes) : Type 0 where
  pub rest : (c : Facts) → TellsNames table c
      → fold with_name names (flat_map (procedures_by c) (steps_of (drop i steps))) ≡ fold with_name [] (flat_map (procedures_by c) (steps_of steps))

pub listed_begin : (table : NameFacts) (steps : List Step) (names : List Bytes) → names ≡ [] → AreListedTo table steps 0 names
listed_begin table steps names none = record { rest = λ c tells. ap (λ xs. fold with_name xs (flat_map (procedures_by c) (steps_of steps))) none }

pub listed_more : (table : NameFacts) (steps : List Step) (i : ℕ) (s : Step) (before after : List Bytes) → i < length steps → s ≡ slice_index_or steps i s
    → ((c : Facts) → TellsNames table c → after ≡ fold with_name before (procedures_by c (step_of s))) → AreListedTo table steps i before → AreListedTo table steps (i + 1) after
listed_more table steps i s before after inside is put known = record {
  rest = λ c tells.
      let later = flat_map (procedures_by c) (steps_of (drop (i + 1) steps)) in
      ap (λ xs. fold with_name xs later) (put c tells) ∙ sym (fold-append with_name before (procedures_by c (step_of s)) later)
      ∙ sym (next_step (λ sts. fold with_name before (flat_map (procedures_by c) sts)) steps i s inside is) ∙ known.rest c tells;
}

pub listed_end : (table : NameFacts) (steps : List Step) (i : ℕ) (names : List Bytes) → length steps ≤ i → AreListedTo table steps i names → (c : Facts) → TellsNames table c
    → names ≡ fold with_name [] (flat_map (procedures_by c) (steps_of steps))
listed_end table steps i names past known c tells =
    sym (no_step (λ sts. fold with_name names (flat_map (procedures_by c) sts)) steps i past) ∙ known.rest c tells
