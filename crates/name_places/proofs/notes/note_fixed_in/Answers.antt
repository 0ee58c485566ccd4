use Rattle.std.proofs.Common.{map, sym, ap, ◌∙◌}
use Rattle.f_tree.specs.declared.statements.ConstantDefinition.{ConstantDefinition}
use Rattle.name_places.specs.FirstPlaces.{fixed_in}
use Rattle.name_places.proofs.NoteLemmas.{notes_none, notes_as, then_as}
use Rattle.name_places.proofs.NoteForms.{fixed-Parameter, fixed_other}
use Rattle.name_places.proofs.notes.note_fixed_in.Goals as goal

pub returns-in-Parameter : goal.returns-in-Parameter
returns-in-Parameter c =
    then_as c.note_constants.result c.args.at _ _ _ _
    (ap (map (λ (d : ConstantDefinition). d.name)) c.as_slice.ensures ∙ fixed-Parameter c.in-Parameter.items ∙ ap fixed_in (sym c.in-Parameter.is)) c.note_constants.ensures

pub returns-in_default : goal.returns-in_default
returns-in_default c = notes_as c.args.at _ _ _ _ (fixed_other c.args.body.now c.in_default.not-Parameter) (notes_none c.args.at c.args.places.now)
