use Rattle.std.proofs.Common.{sym, ◌∙◌, arith}
use Rattle.declared_types.proofs.ShapeLemmas.{notes_old, notes_new, no_items}
use Rattle.declared_types.proofs.shapes.note_shape.Goals as goal

pub returns-in-empty : goal.returns-in-empty
returns-in-empty c = notes_new c.put.result _ _ c.args.name.now c.args.dimensions (sym c.noted.ensures ∙ no_items c.noted.result.now (omega arith)) c.put.ensures

pub returns-in-len1-up : goal.returns-in-len1-up
returns-in-len1-up c = notes_old c.args.shapes.now c.args.name.now c.args.dimensions.now c.noted.result.now c.noted.ensures (omega arith)
