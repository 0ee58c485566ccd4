use Rattle.std.proofs.Common.{ℤ, SFits, rules, ap, sym, subst, ◌∙◌}
use Rattle.std.specs.Int.{w32}
use Rattle.std.proofs.lemmas.Int.{to_z-of_z}
use Rattle.name_facts.specs.declared.fact.ConstantValue.TheVariants as value
use Rattle.decl_table.specs.UnitFacts.{IsFitted}
use Rattle.f_tree.specs.Store as store
use Rattle.decl_table.proofs.ConstantLemmas.{fitted-text, fitted-free, fitted-integer, fitted-logical, fitted-label}
use Rattle.decl_table.proofs.constants.fitted_value.Goals as goal

pub returns-in_ok-fitted-in-Some : goal.returns-in_ok-fitted-in-Some
returns-in_ok-fitted-in-Some c =
    fitted-text c.args.width c.args.value c.in-Text.text c.in_ok-fitted-in-Some.field-0 c.in-Some.size c.in-Text.is c.in-Some.is
    (c.in_ok-fitted-in-Some.ensures ∙ ap (store.fitted c.in-Some.size) c.as_slice.ensures)

pub returns-in-None : goal.returns-in-None
returns-in-None c = fitted-free c.args.width c.args.value _ c.in-Text.is c.in-None.is

pub returns-in-Integer : goal.returns-in-Integer
returns-in-Integer c =
    let fits : SFits w32 c.in-Integer.number = search rules in
    subst (λ (z : ℤ). IsFitted c.args.width c.args.value (value.Integer z)) (sym (to_z-of_z w32 c.in-Integer.number fits))
    (fitted-integer c.args.width c.args.value c.in-Integer.number c.in-Integer.is)

pub returns-in-Logical : goal.returns-in-Logical
returns-in-Logical c = fitted-logical c.args.width c.args.value c.in-Logical.truth c.in-Logical.is

pub returns-in-Label : goal.returns-in-Label
returns-in-Label c = fitted-label c.args.width c.args.value c.in-Label.label c.in-Label.is
