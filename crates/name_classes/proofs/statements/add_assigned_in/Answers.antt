use Rattle.std.proofs.Common.{map, sym, ap, ◌∙◌}
use Rattle.f_tree.specs.Attributes.{option_list, assigned_with_list_in}
use Rattle.name_uses.proofs.ArrayLemmas.{adds_none, adds_same}
use Rattle.name_classes.proofs.StatementForms.{assigned-Assign, assigned-other}
use Rattle.name_classes.proofs.statements.add_assigned_in.Goals as goal

pub returns-in-Assign : goal.returns-in-Assign
returns-in-Assign c = adds_same c.add_option.result _ _ _ _ (ap option_list c.applied_name.ensures ∙ sym (assigned-Assign c.in-Assign.target c.in-Assign.field-1) ∙ ap assigned_with_list_in (sym c.in-Assign.is)) c.add_option.ensures

pub returns-in_default : goal.returns-in_default
returns-in_default c = adds_none c.args.names.now _ c.requires (assigned-other c.args.body.now c.in_default.not-Assign)
