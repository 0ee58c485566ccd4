use Rattle.std.proofs.Common.{sym, ap, ◌∙◌}
use Rattle.f_tree.specs.Attributes.{external_in}
use Rattle.name_places.proofs.NoteLemmas.{notes_none, notes_as, then_as}
use Rattle.name_places.proofs.NoteForms.{external-External, external_other}
use Rattle.name_places.proofs.notes.note_externals_in.Goals as goal

pub returns-in-External : goal.returns-in-External
returns-in-External c =
    then_as c.note_texts.result c.args.at _ _ _ _ (c.as_slice.ensures ∙ external-External c.in-External.items ∙ ap external_in (sym c.in-External.is)) c.note_texts.ensures

pub returns-in_default : goal.returns-in_default
returns-in_default c = notes_as c.args.at _ _ _ _ (external_other c.args.body.now c.in_default.not-External) (notes_none c.args.at c.args.places.now)
