use Rattle.std.proofs.Common.{◌++◌, ap, ◌∙◌}
use Rattle.lowering.specs.Units.{label_in}
use Rattle.statement_lowering.proofs.CallLabels.{labels-more, labels-done}
use Rattle.statement_lowering.proofs.passed_labels.add_labels_passed.Goals as goal

pub loop-e-preserved : goal.loop-e-preserved
loop-e-preserved c =
    labels-more c.args.table.now c.args.es.now c.loop-e.e-index c.e-item.result c.args.labels.now.items c.loop-e.labels.items c.add_label.new.labels.items c.loop-e-test.true
    c.e-item.is c.loop-e.invariant (c.in_ok-add_label.ensures ∙ ap (λ o. c.loop-e.labels.items ++ label_in o) c.label_passed.ensures)

pub returns : goal.returns
returns c =
    labels-done c.args.table.now c.args.es.now c.loop-e.e-index c.args.labels.now.items c.loop-e.labels.items c.loop-e-test.false c.loop-e.invariant
