use Rattle.std.proofs.Common.{List, ◌∷◌, [], map, refl, sym, ap, ◌∙◌, arith}
use Rattle.f_tree.specs.Values.{Bytes}
use Rattle.f_tree.specs.declared.statements.ArrayDeclarator.{ArrayDeclarator}
use Rattle.f_tree.specs.declared.statements.CommonGroup.{CommonGroup}
use Rattle.f_tree.specs.Attributes.{members_of}
use Rattle.name_places.proofs.NoteForms.{groups_step, groups_none}
use Rattle.name_places.proofs.NoteLemmas.{notes_more, notes_end, notes_as}
use Rattle.name_places.proofs.notes.note_groups.Goals as goal

pub loop-group-preserved : goal.loop-group-preserved
loop-group-preserved c =
    notes_more (λ (gs : List CommonGroup). map (λ (d : ArrayDeclarator). d.name) (members_of gs)) (λ (g : CommonGroup). map (λ (d : ArrayDeclarator). d.name) g.items) groups_step c.args.at c.args.groups.now c.loop-group.group-index c.group-item.result _ _ _ _ c.loop-group-test.true c.group-item.is
    c.loop-group.invariant (notes_as c.args.at _ _ _ _ (ap (map (λ (d : ArrayDeclarator). d.name)) c.as_slice.ensures) c.in_ok-note_members.ensures)

pub returns : goal.returns
returns c = notes_end (λ (gs : List CommonGroup). map (λ (d : ArrayDeclarator). d.name) (members_of gs)) (λ (g : CommonGroup). map (λ (d : ArrayDeclarator). d.name) g.items) groups_none c.args.at c.args.groups.now c.loop-group.group-index _ _ (omega arith) c.loop-group.invariant
