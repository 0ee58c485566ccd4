use Rattle.std.proofs.Common.{◌++◌, ap, ◌∙◌}
use Rattle.statement_lowering.specs.LoweredTransfers.{labels_passed}
use Rattle.statement_lowering.proofs.CallLaws.{call-done}
use Rattle.statement_lowering.proofs.calls.push_call.Goals as goal

pub returns : goal.returns
returns c =
    call-done c.args.table.now c.args.around c.args.name.now c.args.es.now c.args.steps.now.items c.lower_arguments.new.steps.items c.push_sub.new.steps.items
    c.in_ok-values.values c.as_slice.result.now c.push_sub.result c.requires
    (c.as_slice.ensures.value ∙ c.in_ok-add_labels_passed.ensures ∙ ap (λ ls. ls ++ labels_passed c.args.table.now c.args.es.now) c.new-labels.ensures.items)
    c.in_ok-values.ensures c.push_sub.ensures
