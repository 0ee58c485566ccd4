use Rattle.std.proofs.Common.{◌≡◌, ℕ, ◌⊎◌, Option, inl, inr, ap, sym, ◌∙◌, option_map}
use Rattle.f_tree.specs.declared.names.Class.{Class}
use Rattle.f_tree.specs.declared.names.Class.TheVariants as class
use Rattle.f_tree.specs.Values.{Bytes, Datum}
use Rattle.lowered_tree.specs.l_core.Pures as core
use Rattle.lowering.specs.Expressions as low
use Rattle.name_facts.specs.GivenFacts.{fact_in, datum_of}
use Rattle.expression_lowering.specs.declared.purpose.Aspect.{Aspect}
use Rattle.expression_lowering.specs.Purposes.{purpose_of}
use Rattle.expression_lowering.specs.LoweredForms.{name_form, constant_pure}
use Rattle.expression_lowering.proofs.Closings.{plain-lowered, as-lowered}
use Rattle.expression_lowering.proofs.leaves.lower_name.Goals as goal

pub returns-in-Constant : goal.returns-in-Constant
unfolding name_form
returns-in-Constant c =
    let q = purpose_of c.args.purpose in
    let k = c.args.free in
    let x = c.args.name.now in
    let d = option_map datum_of (fact_in c.args.table.now x).constant in
    let before = c.args.steps.now.items in
    as-lowered (low.plain (constant_pure x d) k) (name_form c.args.aspect q k x (fact_in c.args.table.now x).class d) before before c.named_constant.result
    (ap (λ cl. name_form c.args.aspect q k x cl d) c.in-Constant.ensures)
    (plain-lowered (constant_pure x d) k before c.named_constant.result c.named_constant.ensures)

whole-form : (a : Aspect) (q : low.Purpose) (k : ℕ) (x : Bytes) (d : Option Datum) (c : Class) →
    (c ≡ class.Procedure) ⊎ ((c ≡ class.DummyProcedure) ⊎ (c ≡ class.Intrinsic)) → low.plain (core.Name x) k ≡ name_form a q k x c d
unfolding name_form
whole-form a q k x d c (inl e) = ap (λ c. name_form a q k x c d) (sym e)
whole-form a q k x d c (inr (inl e)) = ap (λ c. name_form a q k x c d) (sym e)
whole-form a q k x d c (inr (inr e)) = ap (λ c. name_form a q k x c d) (sym e)

pub returns-in-Procedure : goal.returns-in-Procedure
returns-in-Procedure c =
    let q = purpose_of c.args.purpose in
    let k = c.args.free in
    let x = c.args.name.now in
    let d = option_map datum_of (fact_in c.args.table.now x).constant in
    let before = c.args.steps.now.items in
    as-lowered (low.plain (core.Name x) k) (name_form c.args.aspect q k x (fact_in c.args.table.now x).class d) before before c.whole.result
    (whole-form c.args.aspect q k x d c.class.result c.in-Procedure.is ∙ ap (λ cl. name_form c.args.aspect q k x cl d) c.class.ensures)
    (plain-lowered (core.Name x) k before c.whole.result c.whole.ensures)
