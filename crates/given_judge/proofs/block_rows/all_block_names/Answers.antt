use Rattle.std.proofs.Common.{◌++◌, List, sym, ap, arith}
use Rattle.found_rows.proofs.Walks.{each_more, each_end}
use Rattle.f_tree.specs.Lines.{common_in}
use Rattle.name_table.specs.Named.{texts}
use Rattle.declaration_rows.specs.GlobalRows.{block_names}
use Rattle.declaration_rows.specs.GivenRows.{all_block_names}
use Rattle.f_tree.specs.declared.statements.Stmt.{Stmt}
use Rattle.given_judge.proofs.RowForms.{statements_step, statements_end}
use Rattle.given_judge.proofs.block_rows.all_block_names.Goals as goal

pub loop-statement-init : goal.loop-statement-init
loop-statement-init c = ap (λ rs. texts rs ++ all_block_names c.args.statements.now) (sym c.new-names.ensures.items)

pub loop-statement-preserved : goal.loop-statement-preserved
loop-statement-preserved c =
    each_more (λ (xs : List Stmt). all_block_names xs) (λ (x : Stmt). block_names (common_in x.body)) statements_step c.args.statements.now c.loop-statement.statement-index c.statement-item.result _ _ _ _ c.loop-statement-test.true c.statement-item.is
    c.loop-statement.invariant c.in_ok-add_block_names.ensures

pub returns : goal.returns
returns c = each_end (λ (xs : List Stmt). all_block_names xs) (λ (x : Stmt). block_names (common_in x.body)) statements_end c.args.statements.now c.loop-statement.statement-index _ _ (omega arith) c.loop-statement.invariant
