use Rattle.std.proofs.Common.{ap}
use Rattle.f_tree.specs.Lines.{way_of}
use Rattle.lowered_tree.specs.l_core.Steps as act
use Rattle.lowered_tree.specs.Shapes.{layout_of, controls_of}
use Rattle.statement_lowering.proofs.TransferLaws.{transfer-done, controls-covered, items-covered}
use Rattle.statement_lowering.proofs.transfers.push_transfer.Goals as goal

pub lower_controls-requires : goal.lower_controls-requires
lower_controls-requires c = controls-covered c.args.table.now c.args.way c.args.controls.now c.args.items.now c.requires

pub lower_items-requires : goal.lower_items-requires
lower_items-requires c = items-covered c.args.table.now c.args.way c.args.controls.now c.args.items.now c.requires

pub returns : goal.returns
returns c =
    transfer-done c.args.table.now c.args.around c.args.way c.args.controls.now c.args.items.now c.args.steps.now.items c.lower_controls.new.steps.items
    c.push_listed.new.steps.items c.in_ok-listed.listed.items c.in_ok-values.values _ (layout_of c.layout_in-how.result) (controls_of c.in_ok-words.words) c.push_listed.result
    c.requires (ap (λ d. act.Starts d (layout_of c.layout_in-how.result) (controls_of c.in_ok-words.words)) c.direction_of.ensures) c.layout_in-how.ensures c.in_ok-words.ensures
    c.in_ok-values.ensures c.in_ok-listed.ensures c.push_listed.ensures
