use Rattle.name_places.proofs.NoteLemmas.{notes_none, notes_as, then_as}
use Rattle.name_places.proofs.NoteForms.{call-Called, call_neither}
use Rattle.name_places.proofs.notes.note_call.Goals as goal

pub returns-in-Called : goal.returns-in-Called
returns-in-Called c = then_as c.note.result c.args.at _ _ _ _ (call-Called c.args.one c.in-Called.is) c.note.ensures

pub returns-in-Alone : goal.returns-in-Alone
returns-in-Alone c = notes_as c.args.at _ _ _ _ (call_neither c.args.one c.in-Alone.is) (notes_none c.args.at c.args.places.now)
