use Rattle.std.proofs.Common.{arith}
use Rattle.statement_parts.proofs.found_rows.Walks.{each_more, each_end}
use Rattle.f_tree.specs.declared.statements.Stmt.{Stmt}
use Rattle.f_tree.specs.Attributes.{from_all}
use Rattle.call_check.specs.ProceduresSeen.{seen_entry}
use Rattle.call_check.proofs.ProcedureLaws.{entries_step, entries_end}
use Rattle.call_check.proofs.procedures.add_entries.Goals as goal

pub loop-statement-preserved : goal.loop-statement-preserved
loop-statement-preserved c =
    let entry = seen_entry c.args.names.now c.args.kind.now in
    each_more (from_all entry) (λ (s : Stmt). entry s.body) (entries_step entry) c.args.statements.now c.loop-statement.statement-index c.statement-item.result
    _ _ _ _ c.loop-statement-test.true c.statement-item.is c.loop-statement.invariant c.in_ok-add_entry.ensures

pub returns : goal.returns
returns c =
    let entry = seen_entry c.args.names.now c.args.kind.now in
    each_end (from_all entry) (λ (s : Stmt). entry s.body) (entries_end entry) c.args.statements.now c.loop-statement.statement-index _ _ (omega arith)
    c.loop-statement.invariant
