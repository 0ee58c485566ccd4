use Rattle.std.proofs.Common.{◌≡◌, suc, ◌-◌, ◌<◌, Some, length, drop, ap, sym, ◌∙◌, arith}
use Rattle.f_tree.specs.Lines.{way_of, jobs_of}
use Rattle.lowered_tree.specs.Shapes.{layout_of, steps_of}
use Rattle.statement_lowering.specs.LoweredTransfers.{item_lowers}
use Rattle.statement_lowering.proofs.TransferLaws.{work-ended, work-more, work-whole, covered-at}
use Rattle.statement_lowering.proofs.transfers.lower_items.Goals as goal

pub put_item-requires : goal.put_item-requires
put_item-requires c =
    let within : c.loop-at.at - 1 < length c.args.items.now = omega arith in
    ap (item_lowers c.args.table.now) c.index-items-at.is ∙ covered-at c.args.table.now c.args.items.now (c.loop-at.at - 1) c.index-items-at.result within c.requires

pub loop-at-init : goal.loop-at-init
loop-at-init c = record {
  within = omega arith;
  worked = λ names told.
      work-ended names (way_of c.args.way) (layout_of c.args.how) c.args.free c.args.items.now (length c.args.items.now) (omega arith) ∙ ap Some (sym c.in_ok-behind.ensures);
}

pub loop-at-preserved : goal.loop-at-preserved
loop-at-preserved c = record {
  within = omega arith;
  worked = λ names told.
      let next : suc (c.loop-at.at - 1) ≡ c.loop-at.at = omega arith in
      let within : c.loop-at.at - 1 < length c.args.items.now = omega arith in
      work-more names (way_of c.args.way) (layout_of c.args.how) c.args.free c.args.items.now (c.loop-at.at - 1) c.loop-at.at c.index-items-at.result _ next within c.index-items-at.is
      (c.in_ok-put_item.ensures names (jobs_of (way_of c.args.way) (layout_of c.args.how) names (drop c.loop-at.at c.args.items.now)) told (c.loop-at.invariant.worked names told));
}

pub returns : goal.returns
returns c = λ names told.
    work-whole names (way_of c.args.way) (layout_of c.args.how) c.args.free c.args.items.now c.loop-at.at _ (omega arith)
    (c.loop-at.invariant.worked names told ∙ ap Some (sym (ap steps_of c.reverse.ensures.items)))
