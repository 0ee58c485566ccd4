use Rattle.std.proofs.Common.{map, sym, ap, ◌∙◌}
use Rattle.f_tree.specs.declared.statements.Declarator.{Declarator}
use Rattle.name_classes.specs.StatedNames.{typed_names}
use Rattle.name_uses.proofs.ArrayLemmas.{adds_none, adds_same}
use Rattle.name_classes.proofs.StatementForms.{typed-Declare, typed-other}
use Rattle.name_classes.proofs.statements.add_typed_in.Goals as goal

pub returns-in-Declare : goal.returns-in-Declare
returns-in-Declare c = adds_same c.add_declarators.result _ _ _ _ (ap (map (λ (d : Declarator). d.name)) c.as_slice.ensures ∙ sym (typed-Declare c.in-Declare.field-0 c.in-Declare.items) ∙ ap typed_names (sym c.in-Declare.is)) c.add_declarators.ensures

pub returns-in_default : goal.returns-in_default
returns-in_default c = adds_none c.args.names.now _ c.requires (typed-other c.args.body.now c.in_default.not-Declare)
