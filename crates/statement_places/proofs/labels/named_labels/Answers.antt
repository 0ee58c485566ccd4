use Rattle.std.proofs.Common.{arith}
use Rattle.f_tree.specs.declared.statements.Stmt.{Stmt}
use Rattle.f_tree.specs.Attributes.{from_all}
use Rattle.loop_ranges.proofs.found_rows.Walks.{each_more, each_end}
use Rattle.statement_places.specs.NamedLabels.{labels_of}
use Rattle.statement_places.proofs.LabelLemmas.{labels_step, labels_none}
use Rattle.statement_places.proofs.labels.named_labels.Goals as goal

pub loop-statement-preserved : goal.loop-statement-preserved
loop-statement-preserved c =
    each_more (from_all (labels_of c.args.table.now)) (λ (s : Stmt). labels_of c.args.table.now s.body) (labels_step c.args.table.now) c.args.statements.now c.loop-statement.statement-index c.statement-item.result _ _ _ _ c.loop-statement-test.true
    c.statement-item.is c.loop-statement.invariant c.in_ok-add_named.ensures

pub returns : goal.returns
returns c =
    each_end (from_all (labels_of c.args.table.now)) (λ (s : Stmt). labels_of c.args.table.now s.body) (labels_none c.args.table.now) c.args.statements.now c.loop-statement.statement-index _ _ (omega arith) c.loop-statement.invariant
