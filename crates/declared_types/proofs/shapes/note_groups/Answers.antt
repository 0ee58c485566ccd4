use Rattle.std.proofs.Common.{List, map, ap, arith}
use Rattle.f_tree.specs.declared.statements.CommonGroup.{CommonGroup}
use Rattle.f_tree.specs.Attributes.{shape_of_array, members_of}
use Rattle.declared_types.specs.TypeTables.{shape_at}
use Rattle.declared_types.proofs.ShapeLemmas.{notes_more, notes_end, shapes_as, groups_step, groups_none}
use Rattle.declared_types.proofs.shapes.note_groups.Goals as goal

pub loop-group-preserved : goal.loop-group-preserved
loop-group-preserved c =
    notes_more (λ (xs : List CommonGroup). map shape_of_array (members_of xs)) (λ (g : CommonGroup). map shape_of_array g.items) groups_step c.args.groups.now c.loop-group.group-index c.group-item.result _ (shape_at c.args.shapes.now) _ _
    c.loop-group-test.true c.group-item.is c.loop-group.invariant (shapes_as _ _ _ _ (ap (map shape_of_array) c.as_slice.ensures) c.in_ok-note_members.ensures)

pub returns : goal.returns
returns c = record {
  has = notes_end (λ (xs : List CommonGroup). map shape_of_array (members_of xs)) (λ (g : CommonGroup). map shape_of_array g.items) groups_none c.args.groups.now c.loop-group.group-index (shape_at c.args.shapes.now) _ (omega arith) c.loop-group.invariant;
}
