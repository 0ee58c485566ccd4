use Rattle.std.proofs.Common.{map, sym, ap, ◌∙◌}
use Rattle.f_tree.specs.Attributes.{external_in}
use Rattle.name_uses.proofs.ArrayLemmas.{adds_none, adds_same}
use Rattle.name_classes.proofs.StatementForms.{external-External, external-other}
use Rattle.name_classes.proofs.statements.add_externals_in.Goals as goal

pub returns-in-External : goal.returns-in-External
returns-in-External c = adds_same c.add_texts.result _ _ _ _ (c.as_slice.ensures ∙ sym (external-External c.in-External.items) ∙ ap external_in (sym c.in-External.is)) c.add_texts.ensures

pub returns-in_default : goal.returns-in_default
returns-in_default c = adds_none c.args.names.now _ c.requires (external-other c.args.body.now c.in_default.not-External)
