use Rattle.std.proofs.Common.{map, sym, ap, ◌∙◌}
use Rattle.f_tree.specs.declared.statements.Declarator.{Declarator}
use Rattle.f_tree.specs.declared.statements.ArrayDeclarator.{ArrayDeclarator}
use Rattle.f_tree.specs.declared.statements.CommonGroup.{CommonGroup}
use Rattle.std.proofs.Common.{List}
use Rattle.f_tree.specs.Attributes.{members_of}
use Rattle.name_places.specs.FirstPlaces.{declared_in}
use Rattle.name_places.proofs.NoteLemmas.{notes_none, notes_as, then_as}
use Rattle.name_places.proofs.NoteForms.{declared-Declare, declared-Dimension, declared-Common, declared_other}
use Rattle.name_places.proofs.notes.note_declared_in.Goals as goal

pub returns-in-Declare : goal.returns-in-Declare
returns-in-Declare c =
    then_as c.note_declarators.result c.args.at _ _ _ _
    (ap (map (λ (d : Declarator). d.name)) c.as_slice.ensures ∙ declared-Declare c.in-Declare.field-0 c.in-Declare.items ∙ ap declared_in (sym c.in-Declare.is)) c.note_declarators.ensures

pub returns-in-Dimension : goal.returns-in-Dimension
returns-in-Dimension c =
    then_as c.note_members.result c.args.at _ _ _ _
    (ap (map (λ (d : ArrayDeclarator). d.name)) c.as_slice-in-Dimension.ensures ∙ declared-Dimension c.in-Dimension.items ∙ ap declared_in (sym c.in-Dimension.is)) c.note_members.ensures

pub returns-in-Common : goal.returns-in-Common
returns-in-Common c =
    then_as c.note_groups.result c.args.at _ _ _ _
    (ap (λ (gs : List CommonGroup). map (λ (d : ArrayDeclarator). d.name) (members_of gs)) c.as_slice-in-Common.ensures ∙ declared-Common c.in-Common.groups ∙ ap declared_in (sym c.in-Common.is)) c.note_groups.ensures

pub returns-in_default : goal.returns-in_default
returns-in_default c =
    notes_as c.args.at _ _ _ _ (declared_other c.args.body.now c.in_default.not-Declare c.in_default.not-Dimension c.in_default.not-Common) (notes_none c.args.at c.args.places.now)
