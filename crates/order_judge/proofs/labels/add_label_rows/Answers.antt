use Rattle.std.proofs.Common.{[], ◌∷◌, refl, arith}
use Rattle.found_rows.proofs.Walks.{walk_more, walk_end}
use Rattle.declaration_rows.specs.UnitRows.{labels_rows}
use Rattle.order_judge.specs.LabelSteps.{label_rows}
use Rattle.order_judge.proofs.LabelLemmas.{labels_step, labels_none, labels_begin}
use Rattle.order_judge.proofs.labels.add_label_rows.Goals as goal

pub loop-statement-init : goal.loop-statement-init
loop-statement-init c = record { before = []; seen = labels_begin c.new-seen.result c.new-seen.ensures; rows = refl }

pub loop-statement-preserved : goal.loop-statement-preserved
loop-statement-preserved c =
    let s = c.statement-item.result in
    let inv = c.loop-statement.invariant in
    record {
      before = s ∷ inv.before;
      seen = c.in_ok-add_label_row.ensures.noted inv.before inv.seen;
      rows = walk_more labels_rows label_rows (λ before t. t ∷ before) labels_step c.args.statements.now c.loop-statement.statement-index s _ inv.before _ _ _ _
          c.loop-statement-test.true c.statement-item.is inv.rows (c.in_ok-add_label_row.ensures.rows inv.before inv.seen) refl;
    }

pub returns : goal.returns
returns c =
    walk_end labels_rows label_rows (λ before t. t ∷ before) labels_none c.args.statements.now c.loop-statement.statement-index c.loop-statement.invariant.before _ _
    (omega arith) c.loop-statement.invariant.rows
