use Rattle.std.proofs.Common.{sym, ◌∙◌}
use Rattle.declared_types.proofs.TypeLemmas.{notes_old, notes_new, item_typed}
use Rattle.declared_types.proofs.types.note_item.Goals as goal

pub returns-in-Some : goal.returns-in-Some
returns-in-Some c =
    notes_old c.args.types.now (record { spec = c.args.written.now; item = c.args.item.now }) c.as_slice-name.result.now _ c.as_slice-name.ensures (sym c.get.ensures ∙ c.in-Some.is)

pub returns-in-None : goal.returns-in-None
returns-in-None c =
    notes_new c.put.result _ _ (record { spec = c.args.written.now; item = c.args.item.now }) c.as_slice-name.result.now c.item_type.result c.as_slice-name.ensures
    (sym c.get.ensures ∙ c.in-None.is) (item_typed c.args.written.now c.args.item.now c.item_type.result c.item_type.ensures) c.put.ensures
