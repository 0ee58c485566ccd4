use Rattle.std.proofs.Common.{◌++◌, sym, ap, arith}
use Rattle.found_rows.proofs.Walks.{each_more, each_end}
use Rattle.f_tree.specs.Attributes.{array_names, from_all, shaped_in}
use Rattle.f_tree.specs.declared.statements.Stmt.{Stmt}
use Rattle.name_uses.proofs.ArrayLemmas.{statements_step, statements_none}
use Rattle.name_uses.proofs.arrays.arrays_among.Goals as goal

pub loop-statement-preserved : goal.loop-statement-preserved
loop-statement-preserved c = record {
  is_set = c.in_ok-add_statement_arrays.ensures.is_set;
  names = each_more (λ ss. array_names (from_all shaped_in ss)) (λ (s : Stmt). array_names (shaped_in s.body)) statements_step c.args.statements.now c.loop-statement.statement-index c.statement-item.result _ _ _ _ c.loop-statement-test.true c.statement-item.is
      c.loop-statement.invariant.names (c.in_ok-add_statement_arrays.ensures.put);
}

pub loop-statement-init : goal.loop-statement-init
loop-statement-init c = record {
  is_set = c.new-arrays.ensures.is_set;
  names = ap (λ xs. xs ++ array_names (from_all shaped_in c.args.statements.now)) (sym c.new-arrays.ensures.names);
}

pub returns-clause-names : goal.returns-clause-names
returns-clause-names c =
    each_end (λ ss. array_names (from_all shaped_in ss)) (λ (s : Stmt). array_names (shaped_in s.body)) statements_none c.args.statements.now
    c.loop-statement.statement-index _ _ (omega arith) c.loop-statement.invariant.names

pub returns-clause-is_set : goal.returns-clause-is_set
returns-clause-is_set c = c.loop-statement.invariant.is_set
