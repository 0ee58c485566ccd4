-- What is lowered of an operand.
use Rattle.std.specs.Prelude.{◌≡◌, ℕ, Bool, true, false, ◌||◌, List, [], ◌++◌, Option, Some, None, option_to_list, Result, Ok, Err, IfOk}
use Rattle.std.specs.declared.alloc.AllocError.{AllocError}
use Rattle.std.proofs.Common.{refl, ap, sym, subst, ◌∙◌}
use Rattle.std.proofs.lemmas.List.{append-nil}
use Rattle.f_tree.specs.declared.expressions.Expr.{Expr}
use Rattle.f_tree.specs.declared.statements.ControlValue.{ControlValue}
use Rattle.f_tree.specs.declared.statements.ControlValue.TheVariants as value
use Rattle.f_tree.specs.declared.statements.ControlWord.{ControlWord}
use Rattle.f_tree.specs.Values.{IsInt}
use Rattle.f_tree.specs.Facts as fact
use Rattle.f_tree.specs.Terms.{Term, Val, All, Alone, Terms, NoMore, More, terms, refers, any_refers}
use Rattle.f_tree.specs.Uses.{heading_of}
use Rattle.f_tree.specs.Reading.{read, name_or_none}
use Rattle.f_tree.specs.Lines.{Naming, standard_unit, settled}
use Rattle.lowered_tree.specs.l_core.Pures as core
use Rattle.lowering.specs.Expressions as low
use Rattle.lowered_tree.specs.declared.steps.Step.{Step}
use Rattle.lowered_tree.specs.Shapes.{pure_of, steps_of}
use Rattle.name_facts.specs.declared.table.NameFacts.{NameFacts}
use Rattle.expression_lowering.specs.declared.purpose.Purpose.{Purpose}
use Rattle.expression_lowering.specs.declared.purpose.Aspect.TheVariants.{Value, Actual}
use Rattle.expression_lowering.specs.declared.answers.Lowered.{Lowered}
use Rattle.expression_lowering.specs.Purposes.{purpose_of, aspect_term}
use Rattle.expression_lowering.specs.TableNames.{AreFactsOf, is_lowered_value}
use Rattle.expression_lowering.specs.Outcomes.{IsLowered, IsLoweredFor, IsPlain}
use Rattle.statement_lowering.specs.declared.controls.Taken.{Taken}
use Rattle.statement_lowering.specs.declared.controls.Taken.TheVariants as taken
use Rattle.statement_lowering.specs.declared.controls.Manner.{Manner}
use Rattle.statement_lowering.specs.declared.controls.Manner.TheVariants as manner
use Rattle.statement_lowering.specs.TransferForms.{Meant, taking, by_manner, taking_by, manner_of, is_unit, star_operand, operand_after, operand_of}
use Rattle.statement_lowering.specs.LoweredTransfers.{value_lowers, IsLoweredTerm, IsLoweredIf}
use Rattle.statement_lowering.proofs.ControlLaws.{refers-mannered}

-- A PLACE ALONE
alone-form : (q : low.Purpose) (k : ℕ) (t : Term) (before after : List Step) (place l : Lowered) → IsLowered (low.lower core.NoPure (low.for_place q) k t) before after place →
    IsPlain (core.FirstOf (pure_of place.value)) place.free l → IsLowered (low.lower core.NoPure q k (Alone t)) before after l
unfolding low.lower low.shaped low.and_then low.no_operand low.plain low.closing low.closed_value low.closed_free low.pure_of
alone-form q k t before after place l is plain = record {
  steps =
      is.steps
      ∙ ap (λ ss. steps_of before ++ ss)
      (sym (append-nil ((low.lower core.NoPure (low.for_place q) k t).steps ++ []) ∙ append-nil (low.lower core.NoPure (low.for_place q) k t).steps));
  value = plain.value ∙ ap core.FirstOf is.value;
  free = plain.free ∙ is.free;
}

alone-lowered : (table : NameFacts) (inner q : Purpose) (k : ℕ) (e : Expr) (before after : List Step) (place l : Lowered) → purpose_of inner ≡ low.for_place (purpose_of q) →
    IsLoweredFor table Actual inner k e before after place → IsPlain (core.FirstOf (pure_of place.value)) place.free l →
    IsLoweredTerm table (taking taken.Alone e) (purpose_of q) k before after l
unfolding taking aspect_term
alone-lowered table inner q k e before after place l within is plain = record {
  is = λ names told.
      alone-form (purpose_of q) k (read names e).actual before after place l
      (subst (λ (p : low.Purpose). IsLowered (low.lower core.NoPure p k (read names e).actual) before after place) within (is.meant names told)) plain;
}

pub alone-done : (table : NameFacts) (inner q : Purpose) (k : ℕ) (e : Expr) (before after : List Step) (place : Lowered) (r : Result Lowered AllocError) →
    purpose_of inner ≡ low.for_place (purpose_of q) → IsLoweredFor table Actual inner k e before after place →
    IfOk r (IsPlain (core.FirstOf (pure_of place.value)) place.free) → IfOk r (IsLoweredTerm table (taking taken.Alone e) (purpose_of q) k before after)
alone-done table inner q k e before after place (Err x) within is plain = plain
alone-done table inner q k e before after place (Ok l) within is plain = alone-lowered table inner q k e before after place l within is plain

-- WHAT IS TAKEN
value-term : (table : NameFacts) (q : Purpose) (k : ℕ) (e : Expr) (before after : List Step) (l : Lowered) → IsLoweredFor table Value q k e before after l →
    IsLoweredTerm table (taking taken.Value e) (purpose_of q) k before after l
unfolding taking aspect_term
value-term table q k e before after l h = record { is = h.meant }

pub taken-value : (table : NameFacts) (t : Taken) (q : Purpose) (k : ℕ) (e : Expr) (before after : List Step) (r : Result Lowered AllocError) → t ≡ taken.Value →
    IfOk r (IsLoweredFor table Value q k e before after) → IfOk r (IsLoweredTerm table (taking t e) (purpose_of q) k before after)
taken-value table t q k e before after (Err x) is h = h
taken-value table t q k e before after (Ok l) is h =
    subst (λ (t : Taken). IsLoweredTerm table (taking t e) (purpose_of q) k before after l) (sym is) (value-term table q k e before after l h)

pub taken-alone : (table : NameFacts) (t : Taken) (q : Purpose) (k : ℕ) (e : Expr) (before after : List Step) (r : Result Lowered AllocError) → t ≡ taken.Alone →
    IfOk r (IsLoweredTerm table (taking taken.Alone e) (purpose_of q) k before after) → IfOk r (IsLoweredTerm table (taking t e) (purpose_of q) k before after)
taken-alone table t q k e before after r is h =
    subst (λ (t : Taken). IfOk r (IsLoweredTerm table (taking t e) (purpose_of q) k before after)) (sym is) h

whole-term : (table : NameFacts) (q : low.Purpose) (k : ℕ) (e : Expr) (before : List Step) (l : Lowered) → IsPlain (core.AllOf (name_or_none (heading_of e).alone)) k l →
    IsLoweredTerm table (taking taken.Whole e) q k before before l
unfolding taking low.lower low.plain
whole-term table q k e before l h = record { is = λ names told. record { steps = sym (append-nil (steps_of before)); value = h.value; free = h.free } }

pub taken-whole : (table : NameFacts) (t : Taken) (q : Purpose) (k : ℕ) (e : Expr) (before : List Step) (r : Result Lowered AllocError) → t ≡ taken.Whole →
    IfOk r (IsPlain (core.AllOf (name_or_none (heading_of e).alone)) k) → IfOk r (IsLoweredTerm table (taking t e) (purpose_of q) k before before)
taken-whole table t q k e before (Err x) is h = h
taken-whole table t q k e before (Ok l) is h =
    subst (λ (t : Taken). IsLoweredTerm table (taking t e) (purpose_of q) k before before l) (sym is) (whole-term table (purpose_of q) k e before l h)

-- THE EXPRESSION AFTER A CONTROL WORD
mannered-value : (table : NameFacts) (q : Purpose) (k : ℕ) (e : Expr) (before after : List Step) (l : Lowered) → IsLoweredFor table Value q k e before after l →
    IsLoweredTerm table (taking_by manner.Value e) (purpose_of q) k before after l
unfolding taking_by by_manner aspect_term
mannered-value table q k e before after l h = record { is = h.meant }

mannered-place : (table : NameFacts) (q : Purpose) (k : ℕ) (e : Expr) (before after : List Step) (l : Lowered) → IsLoweredFor table Actual q k e before after l →
    IsLoweredTerm table (taking_by manner.Place e) (purpose_of q) k before after l
unfolding taking_by by_manner aspect_term
mannered-place table q k e before after l h = record { is = h.meant }

pub by-value : (table : NameFacts) (m : Manner) (q : Purpose) (k : ℕ) (e : Expr) (before after : List Step) (r : Result Lowered AllocError) → m ≡ manner.Value →
    IfOk r (IsLoweredFor table Value q k e before after) → IfOk r (IsLoweredTerm table (taking_by m e) (purpose_of q) k before after)
by-value table m q k e before after (Err x) is h = h
by-value table m q k e before after (Ok l) is h =
    subst (λ (m : Manner). IsLoweredTerm table (taking_by m e) (purpose_of q) k before after l) (sym is) (mannered-value table q k e before after l h)

pub by-place : (table : NameFacts) (m : Manner) (q : Purpose) (k : ℕ) (e : Expr) (before after : List Step) (r : Result Lowered AllocError) → m ≡ manner.Place →
    IfOk r (IsLoweredFor table Actual q k e before after) → IfOk r (IsLoweredTerm table (taking_by m e) (purpose_of q) k before after)
by-place table m q k e before after (Err x) is h = h
by-place table m q k e before after (Ok l) is h =
    subst (λ (m : Manner). IsLoweredTerm table (taking_by m e) (purpose_of q) k before after l) (sym is) (mannered-place table q k e before after l h)

-- a term by another
pub by-term : (table : NameFacts) (m n : Meant) (q : low.Purpose) (k : ℕ) (before after : List Step) (l : Lowered) → ((names : Naming) → AreFactsOf names table → m names ≡ n names) →
    IsLoweredTerm table m q k before after l → IsLoweredTerm table n q k before after l
by-term table m n q k before after l same h = record {
  is = λ names told. subst (λ (t : Term). IsLowered (low.lower core.NoPure q k t) before after l) (same names told) (h.is names told);
}

pub by-taken : (table : NameFacts) (m n : Manner) (t : Taken) (q : low.Purpose) (k : ℕ) (e : Expr) (before after : List Step) (r : Result Lowered AllocError) → m ≡ n →
    ((names : Naming) → AreFactsOf names table → taking t e names ≡ taking_by n e names) →
    IfOk r (IsLoweredTerm table (taking t e) q k before after) → IfOk r (IsLoweredTerm table (taking_by m e) q k before after)
by-taken table m n t q k e before after (Err x) is same h = h
by-taken table m n t q k e before after (Ok l) is same h =
    subst (λ (m : Manner). IsLoweredTerm table (taking_by m e) q k before after l) (sym is) (by-term table (taking t e) (taking_by n e) q k before after l same h)

pub settled-same : (names : Naming) (e : Expr) → settled names (read names e) ≡ taking_by manner.Settled e names
unfolding taking_by by_manner
settled-same names e = refl

-- THE OPERAND OF A CONTROL WORD
pub after-none : (way : fact.Direction) (names : Naming) (w : ControlWord) (e : Expr) (q : low.Purpose) (k : ℕ) (before : List Step) → None ≡ manner_of w →
    IsLoweredIf (operand_of way names w (value.Value e)) q k before before None
unfolding IsLoweredIf operand_of operand_after
after-none way names w e q k before is = subst (λ (m : Option Manner). IsLoweredIf (operand_after names m e) q k before before None) is refl

pub after-some : (way : fact.Direction) (table : NameFacts) (w : ControlWord) (m : Manner) (e : Expr) (q : low.Purpose) (k : ℕ) (before after : List Step) (l : Lowered) → Some m ≡ manner_of w →
    IsLoweredTerm table (taking_by m e) q k before after l → (names : Naming) → AreFactsOf names table →
    IsLoweredIf (operand_of way names w (value.Value e)) q k before after (Some l)
unfolding IsLoweredIf operand_of operand_after
after-some way table w m e q k before after l is h names told =
    subst (λ (m : Option Manner). IsLoweredIf (operand_after names m e) q k before after (Some l)) is (h.is names told)

star-term : (way : fact.Direction) (q : low.Purpose) (k : ℕ) (steps : List Step) (l : Lowered) → IsPlain (core.Constant (IsInt (standard_unit way))) k l →
    IsLoweredIf (star_operand way true) q k steps steps (Some l)
unfolding IsLoweredIf star_operand low.lower low.plain
star-term way q k steps l is = record { steps = sym (append-nil (steps_of steps)); value = is.value; free = is.free }

pub star-unit : (way : fact.Direction) (names : Naming) (w : ControlWord) (q : low.Purpose) (k : ℕ) (steps : List Step) (l : Lowered) → is_unit w ≡ true →
    IsPlain (core.Constant (IsInt (standard_unit way))) k l → IsLoweredIf (operand_of way names w value.Star) q k steps steps (Some l)
unfolding operand_of
star-unit way names w q k steps l unit is =
    subst (λ (b : Bool). IsLoweredIf (star_operand way b) q k steps steps (Some l)) (sym unit) (star-term way q k steps l is)

pub star-other : (way : fact.Direction) (names : Naming) (w : ControlWord) (q : low.Purpose) (k : ℕ) (steps : List Step) → is_unit w ≡ false →
    IsLoweredIf (operand_of way names w value.Star) q k steps steps None
unfolding operand_of star_operand IsLoweredIf
star-other way names w q k steps unit = subst (λ (b : Bool). IsLoweredIf (star_operand way b) q k steps steps None) (sym unit) refl

pub as-value : (way : fact.Direction) (names : Naming) (w : ControlWord) (v u : ControlValue) (q : low.Purpose) (k : ℕ) (before after : List Step) (o : Option Lowered) → v ≡ u →
    IsLoweredIf (operand_of way names w u) q k before after o → IsLoweredIf (operand_of way names w v) q k before after o
as-value way names w v u q k before after o is h = subst (λ (v : ControlValue). IsLoweredIf (operand_of way names w v) q k before after o) (sym is) h

pub after-done : (way : fact.Direction) (table : NameFacts) (w : ControlWord) (v u : ControlValue) (q : low.Purpose) (k : ℕ) (before after : List Step) (r : Result (Option Lowered) AllocError) → v ≡ u →
    IfOk r (λ o. (names : Naming) → AreFactsOf names table → IsLoweredIf (operand_of way names w u) q k before after o) →
    IfOk r (λ o. (names : Naming) → AreFactsOf names table → IsLoweredIf (operand_of way names w v) q k before after o)
after-done way table w v u q k before after (Err e) is h = h
after-done way table w v u q k before after (Ok o) is h = λ names told. as-value way names w v u q k before after o is (h names told)

pub label-none : (way : fact.Direction) (names : Naming) (w : ControlWord) (v : ControlValue) (label : ℕ) (q : low.Purpose) (k : ℕ) (steps : List Step) → v ≡ value.Label label →
    IsLoweredIf (operand_of way names w v) q k steps steps None
unfolding operand_of IsLoweredIf
label-none way names w v label q k steps is = subst (λ (v : ControlValue). IsLoweredIf (operand_of way names w v) q k steps steps None) (sym is) refl

-- what stands after a control word is lowered
pub covered-after : (table : NameFacts) (v : ControlValue) (e : Expr) → v ≡ value.Value e → value_lowers table v ≡ true → is_lowered_value table e ≡ true
unfolding value_lowers
covered-after table v e is h = ap (value_lowers table) (sym is) ∙ h

-- REFERENCES
or-false : (b : Bool) → b || false ≡ b
or-false true = refl
or-false false = refl

pub refers-none : (way : fact.Direction) (names : Naming) (w : ControlWord) (e : Expr) → None ≡ manner_of w → false ≡ any_refers (terms (option_to_list (operand_of way names w (value.Value e))))
unfolding operand_of operand_after terms any_refers
refers-none way names w e is = ap (λ m. any_refers (terms (option_to_list (operand_after names m e)))) is

pub refers-some : (way : fact.Direction) (names : Naming) (w : ControlWord) (m : Manner) (e : Expr) (b : Bool) → Some m ≡ manner_of w → b ≡ refers (read names e).value →
    b ≡ any_refers (terms (option_to_list (operand_of way names w (value.Value e))))
unfolding operand_of operand_after terms any_refers
refers-some way names w m e b is h =
    h ∙ sym (refers-mannered m names e) ∙ sym (or-false (refers (taking_by m e names))) ∙ ap (λ m. any_refers (terms (option_to_list (operand_after names m e)))) is

star-refers : (way : fact.Direction) (b : Bool) → false ≡ any_refers (terms (option_to_list (star_operand way b)))
unfolding star_operand terms any_refers refers
star-refers way true = refl
star-refers way false = refl

pub refers-star : (way : fact.Direction) (names : Naming) (w : ControlWord) (v : ControlValue) → v ≡ value.Star → false ≡ any_refers (terms (option_to_list (operand_of way names w v)))
unfolding operand_of
refers-star way names w v is = star-refers way (is_unit w) ∙ sym (ap (λ v. any_refers (terms (option_to_list (operand_of way names w v)))) is)

pub refers-label : (way : fact.Direction) (names : Naming) (w : ControlWord) (v : ControlValue) (l : ℕ) → v ≡ value.Label l →
    false ≡ any_refers (terms (option_to_list (operand_of way names w v)))
unfolding operand_of terms any_refers
refers-label way names w v l is = sym (ap (λ v. any_refers (terms (option_to_list (operand_of way names w v)))) is)

pub refers-value : (way : fact.Direction) (names : Naming) (w : ControlWord) (v : ControlValue) (e : Expr) (b : Bool) → v ≡ value.Value e →
    b ≡ any_refers (terms (option_to_list (operand_of way names w (value.Value e)))) → b ≡ any_refers (terms (option_to_list (operand_of way names w v)))
refers-value way names w v e b is h = h ∙ sym (ap (λ v. any_refers (terms (option_to_list (operand_of way names w v)))) is)
