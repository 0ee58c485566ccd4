use Rattle.std.proofs.Common.{map, sym, ap, ◌∙◌}
use Rattle.f_tree.specs.Attributes.{named_dummies, entry_dummies_in}
use Rattle.name_uses.proofs.ArrayLemmas.{adds_none, adds_same}
use Rattle.name_classes.proofs.StatementForms.{dummies-Entry, dummies-other}
use Rattle.name_classes.proofs.statements.add_entry_dummies_in.Goals as goal

pub returns-in-Entry : goal.returns-in-Entry
returns-in-Entry c = adds_same c.add_dummies.result _ _ _ _ (ap named_dummies c.as_slice.ensures ∙ sym (dummies-Entry c.in-Entry.field-0 c.in-Entry.dummies) ∙ ap entry_dummies_in (sym c.in-Entry.is)) c.add_dummies.ensures

pub returns-in_default : goal.returns-in_default
returns-in_default c = adds_none c.args.names.now _ c.requires (dummies-other c.args.body.now c.in_default.not-Entry)
