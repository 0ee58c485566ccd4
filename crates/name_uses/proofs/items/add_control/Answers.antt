use Rattle.found_rows.proofs.Walks.{put_two}
use Rattle.f_tree.specs.Uses.{Alone, used}
use Rattle.name_uses.specs.UsesSeen.{manner_in}
use Rattle.name_uses.proofs.ItemForms.{bounds, control_is}
use Rattle.name_uses.proofs.items.add_control.Goals as goal

pub returns : goal.returns
unfolding manner_in
returns c =
    put_two c.add_bounds.result _ _ _ (used c.as_slice.result.now Alone) (bounds c.args.control.now) _ c.in_ok-add_use.ensures c.add_bounds.ensures
    (control_is c.as_slice.result.now c.args.control.now c.as_slice.ensures)
