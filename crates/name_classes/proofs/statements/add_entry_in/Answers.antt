use Rattle.std.proofs.Common.{◌∷◌, [], sym, ap, ◌∙◌}
use Rattle.f_tree.specs.Values.{Bytes}
use Rattle.f_tree.specs.Attributes.{entry_names_in}
use Rattle.name_uses.proofs.ArrayLemmas.{adds_none, adds_one}
use Rattle.name_classes.proofs.StatementForms.{entry-Entry, entry-other}
use Rattle.name_classes.proofs.statements.add_entry_in.Goals as goal

pub returns-in-Entry : goal.returns-in-Entry
returns-in-Entry c =
    adds_one c.add.result c.args.names.now c.add.new.self _ _
    (ap (λ (x : Bytes). x ∷ []) c.as_slice.ensures ∙ sym (entry-Entry c.in-Entry.name c.in-Entry.field-1) ∙ ap entry_names_in (sym c.in-Entry.is)) c.add.ensures.names c.add.ensures.is_set

pub returns-in_default : goal.returns-in_default
returns-in_default c = adds_none c.args.names.now _ c.requires (entry-other c.args.body.now c.in_default.not-Entry)
