use Rattle.std.proofs.Common.{map, sym, ap, ◌∙◌}
use Rattle.f_tree.specs.declared.statements.ConstantDefinition.{ConstantDefinition}
use Rattle.name_classes.specs.StatedNames.{constant_names}
use Rattle.name_uses.proofs.ArrayLemmas.{adds_none, adds_same}
use Rattle.name_classes.proofs.StatementForms.{constants-Parameter, constants-other}
use Rattle.name_classes.proofs.statements.add_constants_in.Goals as goal

pub returns-in-Parameter : goal.returns-in-Parameter
returns-in-Parameter c = adds_same c.add_constants.result _ _ _ _ (ap (map (λ (d : ConstantDefinition). d.name)) c.as_slice.ensures ∙ sym (constants-Parameter c.in-Parameter.items) ∙ ap constant_names (sym c.in-Parameter.is)) c.add_constants.ensures

pub returns-in_default : goal.returns-in_default
returns-in_default c = adds_none c.args.names.now _ c.requires (constants-other c.args.body.now c.in_default.not-Parameter)
