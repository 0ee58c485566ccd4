-- Operands in a list, one after the other.
use Rattle.std.specs.Prelude.{◌≡◌, ℕ, suc, ◌+◌, ◌<◌, ◌≤◌, true, List, [], ◌∷◌, ◌++◌, map, length}
use Rattle.std.proofs.Common.{refl, ap, sym, subst, ◌∙◌, append_assoc, drop, get_or, drop-cons, add-one}
use Rattle.std.proofs.lemmas.List.{append-nil, drop_all}
use Rattle.f_tree.specs.declared.expressions.Expr.{Expr}
use Rattle.lowered_tree.specs.l_core.Pures as core
use Rattle.lowering.specs.Expressions as low
use Rattle.lowering.specs.Expressions.{expressions_opened}
use Rattle.lowered_tree.specs.declared.pures.Pure.{Pure}
use Rattle.lowered_tree.specs.declared.steps.Step.{Step}
use Rattle.lowered_tree.specs.Shapes.{pure_of, pures_of, steps_of}
use Rattle.name_facts.specs.declared.table.NameFacts.{NameFacts}
use Rattle.expression_lowering.specs.declared.purpose.Aspect.{Aspect}
use Rattle.expression_lowering.specs.declared.answers.Lowered.{Lowered}
use Rattle.expression_lowering.specs.declared.answers.Operands.{Operands}
use Rattle.expression_lowering.specs.TableNames.{all_lower, is_lowered_value}
use Rattle.expression_lowering.specs.LoweredForms.{lowered, lowered_list, any_reference}
use Rattle.expression_lowering.specs.Outcomes.{IsLowered, AreLowered}
use Rattle.expression_lowering.proofs.CoveredForms.{and-left, and-right}
use Rattle.expression_lowering.proofs.LoweredForms.{list-none, list-more}

-- values before others
unfoldable pub with_more : List Pure → core.Pures → core.Pures
with_more [] ps = ps
with_more (v ∷ vs) ps = core.AndPure (pure_of v) (with_more vs ps)

with_more-last : (vs : List Pure) (v : Pure) (ps : core.Pures) → with_more (vs ++ v ∷ []) ps ≡ with_more vs (core.AndPure (pure_of v) ps)
unfolding with_more
with_more-last [] v ps = refl
with_more-last (w ∷ vs) v ps = ap (core.AndPure (pure_of w)) (with_more-last vs v ps)

with_more-none : (vs : List Pure) → with_more vs core.NoPure ≡ pures_of vs
unfolding with_more pures_of
with_more-none [] = refl
with_more-none (v ∷ vs) = ap (core.AndPure (pure_of v)) (with_more-none vs)

-- what is lowered so far, with what is lowered of the rest, is the whole
pub record IsOnward (whole rest : low.Lowered core.Pures) (before now : List Step) (vs : List Pure) : Type 0 where
  pub steps : steps_of now ++ rest.steps ≡ steps_of before ++ whole.steps
  pub values : with_more vs rest.value ≡ whole.value
  pub free : rest.free ≡ whole.free

pub onward-start : (whole : low.Lowered core.Pures) (before : List Step) → IsOnward whole whole before before []
unfolding with_more
onward-start whole before = record { steps = refl; values = refl; free = refl }

onward-one : (whole : low.Lowered core.Pures) (one : low.Lowered core.Pure) (more : ℕ → low.Lowered core.Pures) (before now after : List Step) (values : List Pure) (l : Lowered) →
    IsOnward whole (low.and_then one more) before now values → IsLowered one now after l → IsOnward whole (more l.free) before after (values ++ l.value ∷ [])
unfolding low.and_then
onward-one whole one more before now after values l so_far is = record {
  steps =
      ap (λ ss. ss ++ (more l.free).steps) is.steps ∙ ap (λ n. (steps_of now ++ one.steps) ++ (more n).steps) is.free
      ∙ append_assoc (steps_of now) one.steps (more one.free).steps ∙ so_far.steps;
  values =
      with_more-last values l.value (more l.free).value ∙ ap (λ v. with_more values (core.AndPure v (more l.free).value)) is.value
      ∙ ap (λ n. with_more values (core.AndPure one.value (more n).value)) is.free ∙ so_far.values;
  free = ap (λ n. (more n).free) is.free ∙ so_far.free;
}

pub onward-more : (table : NameFacts) (a : Aspect) (q wanted : low.Purpose) (k : ℕ) (es : List Expr) (i : ℕ) (e : Expr) (later : List Expr) (whole : low.Lowered core.Pures)
    (before now after : List Step) (values : List Pure) (l : Lowered) → i < length es → e ≡ get_or es i e → later ≡ drop (i + 1) es →
    wanted ≡ low.ahead q (any_reference table later) →
    IsOnward whole (lowered_list table a q k (drop i es)) before now values → IsLowered (lowered table a wanted k e) now after l →
    IsOnward whole (lowered_list table a q l.free (drop (i + 1) es)) before after (values ++ l.value ∷ [])
onward-more table a q wanted k es i e later whole before now after values l h is rest as_wanted so_far one =
    let split : drop i es ≡ e ∷ drop (i + 1) es = drop-cons es i e h ∙ ap (λ y. y ∷ drop (suc i) es) (sym is) ∙ ap (λ n. e ∷ drop n es) (sym (add-one i)) in
    let form = ap (lowered_list table a q k) split ∙ list-more table a q k e (drop (i + 1) es) in
    let purpose : wanted ≡ low.ahead q (any_reference table (drop (i + 1) es)) = as_wanted ∙ ap (λ r. low.ahead q (any_reference table r)) rest in
    onward-one whole (lowered table a (low.ahead q (any_reference table (drop (i + 1) es))) k e) (λ n. lowered_list table a q n (drop (i + 1) es)) before now after values l
    (subst (λ (x : low.Lowered core.Pures). IsOnward whole x before now values) form so_far)
    (subst (λ (p : low.Purpose). IsLowered (lowered table a p k e) now after l) purpose one)

onward-ended : (whole : low.Lowered core.Pures) (before now : List Step) (l : Operands) → IsOnward whole (low.plain core.NoPure l.free) before now l.values → AreLowered whole before now l
unfolding low.plain
onward-ended whole before now l so_far = record {
  steps = sym (append-nil (steps_of now)) ∙ so_far.steps;
  values = sym (with_more-none l.values) ∙ so_far.values;
  free = so_far.free;
}

pub onward-done : (table : NameFacts) (a : Aspect) (q : low.Purpose) (es : List Expr) (i : ℕ) (whole : low.Lowered core.Pures) (before now : List Step) (l : Operands) → length es ≤ i →
    IsOnward whole (lowered_list table a q l.free (drop i es)) before now l.values → AreLowered whole before now l
onward-done table a q es i whole before now l h so_far =
    let form = ap (lowered_list table a q l.free) (drop_all i es h) ∙ list-none table a q l.free in
    onward-ended whole before now l (subst (λ (x : low.Lowered core.Pures). IsOnward whole x before now l.values) form so_far)

-- the elements that are left are lowered
pub covered-first : (table : NameFacts) (es : List Expr) (i : ℕ) (e : Expr) → i < length es → e ≡ get_or es i e → all_lower (map (is_lowered_value table) (drop i es)) ≡ true →
    is_lowered_value table e ≡ true
unfolding all_lower
covered-first table es i e h is covered =
    let split : drop i es ≡ e ∷ drop (suc i) es = drop-cons es i e h ∙ ap (λ y. y ∷ drop (suc i) es) (sym is) in
    and-left (is_lowered_value table e) (all_lower (map (is_lowered_value table) (drop (suc i) es))) (ap (λ xs. all_lower (map (is_lowered_value table) xs)) (sym split) ∙ covered)

pub covered-rest : (table : NameFacts) (es : List Expr) (i : ℕ) (e : Expr) (later : List Expr) → i < length es → e ≡ get_or es i e → later ≡ drop (i + 1) es →
    all_lower (map (is_lowered_value table) (drop i es)) ≡ true → all_lower (map (is_lowered_value table) later) ≡ true
unfolding all_lower
covered-rest table es i e later h is rest covered =
    let split : drop i es ≡ e ∷ drop (suc i) es = drop-cons es i e h ∙ ap (λ y. y ∷ drop (suc i) es) (sym is) in
    ap (λ xs. all_lower (map (is_lowered_value table) xs)) (rest ∙ ap (λ n. drop n es) (add-one i))
    ∙ and-right (is_lowered_value table e) (all_lower (map (is_lowered_value table) (drop (suc i) es))) (ap (λ xs. all_lower (map (is_lowered_value table) xs)) (sym split) ∙ covered)
