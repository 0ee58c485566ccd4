-- The steps of a CALL.
use Rattle.std.specs.Prelude.{◌≡◌, ℕ, suc, ◌+◌, ◌<◌, ◌≤◌, Bool, true, false, ◌||◌, List, [], ◌∷◌, ◌++◌, ◌==◌, map, length, Option, Some, None, Result, Ok, Err, OnOk, if◌then◌else◌}
use Rattle.std.specs.declared.alloc.AllocError.{AllocError}
use Rattle.std.proofs.Common.{refl, ap, sym, subst, ◌∙◌, drop, get_or, drop-cons, add-one, eqb-true, arith}
use Rattle.std.proofs.lemmas.List.{drop_all}
use Rattle.f_tree.specs.declared.expressions.Expr.{Expr}
use Rattle.f_tree.specs.Values.{Bytes}
use Rattle.f_tree.specs.Terms.{AsSubroutine, Term, Terms, terms, refers, any_refers}
use Rattle.f_tree.specs.Reading.{read}
use Rattle.f_tree.specs.Lines.{Naming, place_of, arguments_of}
use Rattle.lowered_tree.specs.l_core.Pures as core
use Rattle.lowered_tree.specs.l_core.Steps as act
use Rattle.lowering.specs.Expressions as low
use Rattle.lowering.specs.Statements.{labels_written, call_steps, call_code, with_operands, form_code, head_code}
use Rattle.lowered_tree.specs.declared.pures.Pure.{Pure}
use Rattle.lowered_tree.specs.declared.steps.Step.{Step}
use Rattle.lowered_tree.specs.Shapes.{pures_of, steps_of}
use Rattle.name_facts.specs.declared.table.NameFacts.{NameFacts}
use Rattle.expression_lowering.specs.declared.purpose.Purpose.{Purpose}
use Rattle.expression_lowering.specs.declared.purpose.Aspect.TheVariants.{Actual}
use Rattle.expression_lowering.specs.declared.answers.Lowered.{Lowered}
use Rattle.expression_lowering.specs.Purposes.{purpose_of, aspect_term}
use Rattle.expression_lowering.specs.TableNames.{AreFactsOf, all_lower, is_lowered_value}
use Rattle.expression_lowering.specs.Outcomes.{IsLoweredFor}
use Rattle.expression_lowering.proofs.CoveredForms.{and-left, and-right}
use Rattle.expression_lowering.proofs.Walks.{IsOnward}
use Rattle.statement_lowering.specs.declared.around.Around.{Around}
use Rattle.statement_lowering.specs.StatementOutcomes.{AreAdded, IsLoweredForm}
use Rattle.statement_lowering.specs.TransferForms.{calling, arguments_in}
use Rattle.statement_lowering.specs.LoweredTransfers.{call_lowers, labels_passed, AreLoweredOperands, AreLoweredTerms}
use Rattle.statement_lowering.proofs.Additions.{operands-closed}
use Rattle.statement_lowering.proofs.CallLabels.{AreWritten, labels-agree}
use Rattle.statement_lowering.proofs.ControlWalks.{walk-one, walk-ended, listed-none}
use Rattle.statement_lowering.proofs.TargetForms.{refers-alike}

-- WHAT IS LEFT
split-at : (es : List Expr) (i : ℕ) (e : Expr) → i < length es → e ≡ get_or es i e → drop i es ≡ e ∷ drop (i + 1) es
split-at es i e h is = drop-cons es i e h ∙ ap (λ y. y ∷ drop (suc i) es) (sym is) ∙ ap (λ n. e ∷ drop n es) (sym (add-one i))

arguments-more : (names : Naming) (e : Expr) (es : List Expr) → arguments_in (e ∷ es) names ≡ (read names e).actual ∷ arguments_in es names
unfolding arguments_in arguments_of place_of
arguments-more names e es = refl

arguments-ended : (names : Naming) → arguments_in [] names ≡ []
unfolding arguments_in arguments_of
arguments-ended names = refl

pub walk-argument : (names : Naming) (table : NameFacts) (wanted : Purpose) (k : ℕ) (es : List Expr) (i : ℕ) (e : Expr) (later : List Expr) (whole : low.Lowered core.Pures)
    (before now after : List Step) (vs : List Pure) (l : Lowered) → AreFactsOf names table → i < length es → e ≡ get_or es i e → later ≡ drop (i + 1) es →
    purpose_of wanted ≡ low.ahead low.ForCall (any_refers (terms (arguments_in later names))) →
    IsOnward whole (low.lower_all core.NoPure low.ForCall k (terms (arguments_in (drop i es) names))) before now vs →
    IsLoweredFor table Actual wanted k e now after l →
    IsOnward whole (low.lower_all core.NoPure low.ForCall l.free (terms (arguments_in (drop (i + 1) es) names))) before after (vs ++ l.value ∷ [])
unfolding aspect_term
walk-argument names table wanted k es i e later whole before now after vs l told h is rest as_wanted so_far one =
    walk-one low.ForCall (purpose_of wanted) k (read names e).actual (arguments_in (drop (i + 1) es) names) whole before now after vs l
    (as_wanted ∙ ap (λ es. low.ahead low.ForCall (any_refers (terms (arguments_in es names)))) rest)
    (subst (λ (ts : List Term). IsOnward whole (low.lower_all core.NoPure low.ForCall k (terms ts)) before now vs)
    (ap (λ es. arguments_in es names) (split-at es i e h is) ∙ arguments-more names e (drop (i + 1) es)) so_far)
    (one.meant names told)

pub arguments-done : (names : Naming) (k : ℕ) (es : List Expr) (i : ℕ) (whole : low.Lowered core.Pures) (before now : List Step) (vs : List Pure) → length es ≤ i →
    IsOnward whole (low.lower_all core.NoPure low.ForCall k (terms (arguments_in (drop i es) names))) before now vs → AreLoweredOperands whole before now vs
arguments-done names k es i whole before now vs h so_far =
    walk-ended whole k before now vs
    (subst (λ (x : low.Lowered core.Pures). IsOnward whole x before now vs)
    (ap (λ es. low.lower_all core.NoPure low.ForCall k (terms (arguments_in es names))) (drop_all i es h)
    ∙ ap (λ ts. low.lower_all core.NoPure low.ForCall k (terms ts)) (arguments-ended names) ∙ listed-none low.ForCall k) so_far)

pub covered-argument : (table : NameFacts) (es : List Expr) (i : ℕ) (e : Expr) → i < length es → e ≡ get_or es i e → call_lowers table (drop i es) ≡ true → is_lowered_value table e ≡ true
unfolding call_lowers all_lower
covered-argument table es i e h is covered =
    and-left (is_lowered_value table e) (call_lowers table (drop (i + 1) es)) (ap (call_lowers table) (sym (split-at es i e h is)) ∙ covered)

pub covered-behind : (table : NameFacts) (es : List Expr) (i : ℕ) (e : Expr) → i < length es → e ≡ get_or es i e → call_lowers table (drop i es) ≡ true →
    call_lowers table (drop (i + 1) es) ≡ true
unfolding call_lowers all_lower
covered-behind table es i e h is covered =
    and-right (is_lowered_value table e) (call_lowers table (drop (i + 1) es)) (ap (call_lowers table) (sym (split-at es i e h is)) ∙ covered)

any-more : (t : Term) (ts : List Term) → any_refers (terms (t ∷ ts)) ≡ refers t || any_refers (terms ts)
unfolding terms any_refers
any-more t ts = refl

any-none : any_refers (terms []) ≡ false
unfolding terms any_refers
any-none = refl

refers-argument : (names : Naming) (es : List Expr) (i : ℕ) (e : Expr) → i < length es → e ≡ get_or es i e →
    any_refers (terms (arguments_of names (drop i es))) ≡ refers (read names e).value || any_refers (terms (arguments_of names (drop (i + 1) es)))
unfolding arguments_of place_of
refers-argument names es i e h is =
    ap (λ es. any_refers (terms (arguments_of names es))) (split-at es i e h is) ∙ any-more (read names e).actual (arguments_of names (drop (i + 1) es))
    ∙ ap (λ b. b || any_refers (terms (arguments_of names (drop (i + 1) es)))) (sym (refers-alike names e))

pub refers-found : (names : Naming) (es : List Expr) (i : ℕ) (e : Expr) (b : Bool) → i < length es → e ≡ get_or es i e → b ≡ refers (read names e).value → b ≡ true →
    any_refers (terms (arguments_of names (drop i es))) ≡ true
refers-found names es i e b h is said found =
    refers-argument names es i e h is ∙ ap (λ b. b || any_refers (terms (arguments_of names (drop (i + 1) es)))) (sym said ∙ found)

pub refers-skip : (names : Naming) (es : List Expr) (i : ℕ) (e : Expr) (b : Bool) → i < length es → e ≡ get_or es i e → b ≡ refers (read names e).value → b ≡ false →
    any_refers (terms (arguments_of names (drop i es))) ≡ any_refers (terms (arguments_of names (drop (i + 1) es)))
refers-skip names es i e b h is said none =
    refers-argument names es i e h is ∙ ap (λ b. b || any_refers (terms (arguments_of names (drop (i + 1) es)))) (sym said ∙ none)

pub refers-behind : (names : Naming) (es : List Expr) (i : ℕ) → length es ≤ i → any_refers (terms (arguments_of names (drop i es))) ≡ false
unfolding arguments_of
refers-behind names es i h = ap (λ es. any_refers (terms (arguments_of names es))) (drop_all i es h) ∙ any-none

pub arguments-are : (names : Naming) (es : List Expr) → arguments_of names es ≡ arguments_in es names
unfolding arguments_in
arguments-are names es = refl

-- BY THE LABELS
none-passed : (labels : List ℕ) (b : Bool) → b ≡ (length labels == 0) → b ≡ true → labels ≡ []
none-passed [] b is none = refl
none-passed (l ∷ ls) b is none = let same : length (l ∷ ls) ≡ 0 = eqb-true (length (l ∷ ls)) 0 (sym is ∙ none) in absurd (omega (arith, same))

pub call-alone : (k : ℕ) (x y : Bytes) (labels : List ℕ) (ps : core.Pures) (b : Bool) (r : Result (Unit {0}) AllocError) (before after : List Step) → y ≡ x →
    b ≡ (length labels == 0) → b ≡ true → OnOk r (steps_of after ≡ steps_of before ++ act.CallSub k y ps ∷ []) → OnOk r (steps_of after ≡ steps_of before ++ call_steps k x labels ps)
unfolding call_steps
call-alone k x y labels ps b (Err e) before after same is none appended = appended
call-alone k x y labels ps b (Ok u) before after same is none appended =
    appended ∙ ap (λ z. steps_of before ++ act.CallSub k z ps ∷ []) same ∙ sym (ap (λ ls. steps_of before ++ call_steps k x ls ps) (none-passed labels b is none))

some-passed : (k : ℕ) (x : Bytes) (labels : List ℕ) (ps : core.Pures) (b : Bool) → b ≡ (length labels == 0) → b ≡ false →
    act.CallFor k (record { name = x; want = AsSubroutine }) ps ∷ act.Branch k (length labels) ∷ map act.Way labels ≡ call_steps k x labels ps
unfolding call_steps
some-passed k x [] ps b is some = absurd (cc)
some-passed k x (l ∷ ls) ps b is some = refl

pub call-by : (k : ℕ) (x y : Bytes) (labels : List ℕ) (ps : core.Pures) (b : Bool) (r : Result (Unit {0}) AllocError) (before after : List Step) → y ≡ x →
    b ≡ (length labels == 0) → b ≡ false →
    OnOk r (steps_of after ≡ steps_of before ++ act.CallFor k (record { name = y; want = AsSubroutine }) ps ∷ act.Branch k (length labels) ∷ map act.Way labels) →
    OnOk r (steps_of after ≡ steps_of before ++ call_steps k x labels ps)
call-by k x y labels ps b (Err e) before after same is some appended = appended
call-by k x y labels ps b (Ok u) before after same is some appended =
    appended ∙ ap (λ ss. steps_of before ++ ss) (some-passed k y labels ps b is some) ∙ ap (λ z. steps_of before ++ call_steps k z labels ps) same

-- THE WHOLE CALL
code-calling : (once : Bool) (k n : ℕ) (x : Bytes) (es : List Expr) (names : Naming) →
    form_code once k n (calling x es names)
    ≡ with_operands (low.lower_all core.NoPure low.ForCall k (terms (arguments_in es names))) (call_code k x (terms (arguments_of names es)))
unfolding form_code head_code calling arguments_in
code-calling once k n x es names = refl

closes-call : (k : ℕ) (x : Bytes) (labels : List ℕ) (ts : Terms) (ps : core.Pures) → AreWritten ts labels → call_code k x ts ps ≡ Some (call_steps k x labels ps)
unfolding call_code
closes-call k x labels ts ps are =
    ap (λ b. if b then None else Some (call_steps k x (labels_written ts) ps)) are.hides ∙ ap (λ ls. Some (call_steps k x ls ps)) are.written

call-lowered : (table : NameFacts) (around : Around) (x : Bytes) (es : List Expr) (before mid after : List Step) (vs : List Pure) (labels : List ℕ) → call_lowers table es ≡ true →
    labels ≡ labels_passed table es → AreLoweredTerms table (arguments_in es) low.ForCall around.free before mid vs →
    steps_of after ≡ steps_of mid ++ call_steps around.free x labels (pures_of vs) → IsLoweredForm table around (call_lowers table es) (calling x es) before after
call-lowered table around x es before mid after vs labels lowers passed operands appended = record {
  built = lowers;
  meant = λ names told.
      let are = operands.are names told in
      let ts = terms (arguments_of names es) in
      subst (λ (c : Option (List act.Step)). AreAdded c before after) (sym (code-calling around.once around.free around.room x es names))
      (operands-closed (low.lower_all core.NoPure low.ForCall around.free (terms (arguments_in es names))) (call_code around.free x ts)
      (call_steps around.free x labels (pures_of vs)) before mid after (pures_of vs) (record { steps = are.steps; values = are.values })
      (closes-call around.free x labels ts (pures_of vs) (subst (AreWritten ts) (sym passed) (labels-agree names table told es lowers))) appended);
}

pub call-done : (table : NameFacts) (around : Around) (x : Bytes) (es : List Expr) (before mid after : List Step) (vs : List Pure) (labels : List ℕ) (r : Result (Unit {0}) AllocError) →
    call_lowers table es ≡ true → labels ≡ labels_passed table es → AreLoweredTerms table (arguments_in es) low.ForCall around.free before mid vs →
    OnOk r (steps_of after ≡ steps_of mid ++ call_steps around.free x labels (pures_of vs)) →
    OnOk r (IsLoweredForm table around (call_lowers table es) (calling x es) before after)
call-done table around x es before mid after vs labels (Err e) lowers passed operands appended = appended
call-done table around x es before mid after vs labels (Ok u) lowers passed operands appended =
    call-lowered table around x es before mid after vs labels lowers passed operands appended
