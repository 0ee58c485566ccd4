use Rattle.std.proofs.Common.{map, sym, ap, ◌∙◌}
use Rattle.f_tree.specs.Attributes.{array_names, shape_of_array, members_of, shaped_in}
use Rattle.name_uses.specs.UsesSeen.{shape_of}
use Rattle.name_uses.proofs.ArrayLemmas.{adds_none, adds_same, shaped-Declare, shaped-Dimension, shaped-Common, shaped_other}
use Rattle.name_uses.proofs.arrays.add_statement_arrays.Goals as goal

pub returns-in-Declare : goal.returns-in-Declare
returns-in-Declare c =
    adds_same c.add_declarators.result _ _ _ _
    (ap (λ ds. array_names (map shape_of ds)) c.as_slice.ensures ∙ ap array_names (sym (shaped-Declare c.in-Declare.field-0 c.in-Declare.items) ∙ ap shaped_in (sym c.in-Declare.is)))
    c.add_declarators.ensures

pub returns-in-Dimension : goal.returns-in-Dimension
returns-in-Dimension c =
    adds_same c.add_members.result _ _ _ _
    (ap (λ ds. array_names (map shape_of_array ds)) c.as_slice-in-Dimension.ensures ∙ ap array_names (sym (shaped-Dimension c.in-Dimension.items) ∙ ap shaped_in (sym c.in-Dimension.is)))
    c.add_members.ensures

pub returns-in-Common : goal.returns-in-Common
returns-in-Common c =
    adds_same c.add_groups.result _ _ _ _
    (ap (λ gs. array_names (map shape_of_array (members_of gs))) c.as_slice-in-Common.ensures ∙ ap array_names (sym (shaped-Common c.in-Common.groups) ∙ ap shaped_in (sym c.in-Common.is)))
    c.add_groups.ensures

pub returns-in_default : goal.returns-in_default
returns-in_default c =
    adds_none c.args.arrays.now _ c.requires (shaped_other c.args.body.now c.in_default.not-Declare c.in_default.not-Dimension c.in_default.not-Common)
