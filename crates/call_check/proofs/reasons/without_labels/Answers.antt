use Rattle.std.proofs.Common.{◌∷◌, [], refl, arith}
use Rattle.statement_parts.proofs.found_rows.Walks.{each_more, each_end}
use Rattle.call_shapes.specs.declared.shapes.Argument.{Argument}
use Rattle.call_shapes.specs.Disagreements.{without_labels}
use Rattle.call_check.proofs.ReasonLemmas.{labels_step, labels_none}
use Rattle.call_check.proofs.reasons.without_labels.Goals as goal

pub loop-argument-preserved : goal.loop-argument-preserved
loop-argument-preserved c =
    each_more without_labels (λ (a : Argument). without_labels (a ∷ [])) labels_step c.args.arguments.now c.loop-argument.argument-index _ _
    _ _ _ c.loop-argument-test.true refl c.loop-argument.invariant c.in_ok-add_unless_label.ensures

pub returns : goal.returns
returns c =
    each_end without_labels (λ (a : Argument). without_labels (a ∷ [])) labels_none c.args.arguments.now c.loop-argument.argument-index _ _ (omega arith)
    c.loop-argument.invariant
