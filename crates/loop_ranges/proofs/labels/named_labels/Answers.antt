use Rattle.std.proofs.Common.{◌||◌, ap, ◌∙◌, is_some, nat_eq, arith}
use Rattle.std.specs.List.{list_any}
use Rattle.f_tree.specs.Attributes.{from_all}
use Rattle.f_tree.specs.Lines.{loop_label_in}
use Rattle.name_table.specs.Named.{labelled}
use Rattle.loop_ranges.specs.LoopForms.{named_label}
use Rattle.loop_ranges.proofs.LabelLemmas.{named_begin, named_more, named_end, are_named}
use Rattle.loop_ranges.proofs.labels.named_labels.Goals as goal

pub loop-statement-init : goal.loop-statement-init
loop-statement-init c = λ q. named_begin q (labelled c.new-named.result q) (list_any (nat_eq q) (from_all loop_label_in c.args.statements.now)) (c.new-named.ensures q)

pub loop-statement-preserved : goal.loop-statement-preserved
loop-statement-preserved c = λ q.
    named_more c.args.statements.now c.loop-statement.statement-index q c.statement-item.result c.statement-item.result _ _ _ c.loop-statement-test.true c.statement-item.is
    (c.loop-statement.invariant q)
    (c.in_ok-note_named.ensures q
    ∙ ap (λ ls. is_some (labelled c.loop-statement.named q) || list_any (nat_eq q) ls) (c.named_label-label.ensures ∙ ap named_label c.loop_form.ensures))

pub returns : goal.returns
returns c =
    are_named c.loop-statement.named c.args.statements.now
    (λ q. named_end c.args.statements.now c.loop-statement.statement-index q (is_some (labelled c.loop-statement.named q)) _ (omega arith) (c.loop-statement.invariant q))
