use Rattle.std.proofs.Common.{◌||◌, map, sym, ap, ◌∙◌}
use Rattle.std.specs.List.{list_any}
use Rattle.found_rows.proofs.Walks.{then_ok}
use Rattle.f_tree.specs.declared.statements.ConstantDefinition.{ConstantDefinition}
use Rattle.name_uses.proofs.ArrayLemmas.{adds_same, adds_none}
use Rattle.statement_order.specs.BeforeSteps.{constant_names, first_passes}
use Rattle.statement_order.proofs.BeforeForms.{names-Parameter, names-other}
use Rattle.statement_order.proofs.UseSets.{letters_same}
use Rattle.statement_order.proofs.before.note_statement_constants.Goals as goal

pub returns-in-Parameter-clause-names : goal.returns-in-Parameter-clause-names
returns-in-Parameter-clause-names c =
    adds_same c.note_constants.result _ _ _ _
    (ap (map (λ (d : ConstantDefinition). d.name)) c.as_slice.ensures ∙ sym (names-Parameter c.in-Parameter.items) ∙ ap constant_names (sym c.in-Parameter.is))
    c.note_constants.ensures.names

pub returns-in-Parameter-clause-letters : goal.returns-in-Parameter-clause-letters
returns-in-Parameter-clause-letters c =
    then_ok _ _ c.note_constants.result
    (λ noted p.
    noted p
    ∙ ap (λ (xs : _). list_any p c.args.letters.now.items || list_any (first_passes p) xs)
    (ap (map (λ (d : ConstantDefinition). d.name)) c.as_slice.ensures ∙ sym (names-Parameter c.in-Parameter.items) ∙ ap constant_names (sym c.in-Parameter.is)))
    c.note_constants.ensures.letters

pub returns-in_default : goal.returns-in_default
returns-in_default c = record {
  names = adds_none c.args.constants.now _ c.requires (sym (names-other c.args.body.now c.in_default.not-Parameter));
  letters = λ p. letters_same p c.args.letters.now.items (constant_names c.args.body.now) (sym (names-other c.args.body.now c.in_default.not-Parameter));
}
