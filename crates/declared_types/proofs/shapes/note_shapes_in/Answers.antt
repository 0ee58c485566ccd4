use Rattle.std.proofs.Common.{List, map, sym, ap, ◌∙◌}
use Rattle.f_tree.specs.declared.statements.CommonGroup.{CommonGroup}
use Rattle.f_tree.specs.Attributes.{shaped_in, shape_of_array, members_of}
use Rattle.name_uses.specs.UsesSeen.{shape_of}
use Rattle.name_uses.proofs.ArrayLemmas.{shaped-Declare, shaped-Dimension, shaped-Common}
use Rattle.declared_types.proofs.ShapeLemmas.{notes_none, notes_as, shapes_as}
use Rattle.declared_types.proofs.TypeForms.{shaped_other}
use Rattle.declared_types.proofs.shapes.note_shapes_in.Goals as goal

pub returns-in-Declare : goal.returns-in-Declare
returns-in-Declare c =
    notes_as c.note_declarators.result _ _ _ _ (ap (map shape_of) c.as_slice.ensures ∙ sym (shaped-Declare c.in-Declare.field-0 c.in-Declare.items) ∙ ap shaped_in (sym c.in-Declare.is)) c.note_declarators.ensures

pub returns-in-Dimension : goal.returns-in-Dimension
returns-in-Dimension c =
    notes_as c.note_members.result _ _ _ _ (ap (map shape_of_array) c.as_slice-in-Dimension.ensures ∙ sym (shaped-Dimension c.in-Dimension.items) ∙ ap shaped_in (sym c.in-Dimension.is)) c.note_members.ensures

pub returns-in-Common : goal.returns-in-Common
returns-in-Common c =
    notes_as c.note_groups.result _ _ _ _
    (ap (λ (gs : List CommonGroup). map shape_of_array (members_of gs)) c.as_slice-in-Common.ensures ∙ sym (shaped-Common c.in-Common.groups) ∙ ap shaped_in (sym c.in-Common.is)) c.note_groups.ensures

pub returns-in_default : goal.returns-in_default
returns-in_default c =
    shapes_as _ _ _ _ (shaped_other c.args.body.now c.in_default.not-Declare c.in_default.not-Dimension c.in_default.not-Common) (notes_none c.args.shapes.now)
