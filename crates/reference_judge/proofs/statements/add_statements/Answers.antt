use Rattle.std.proofs.Common.{refl, arith}
use Rattle.found_rows.proofs.Walks.{each_more, each_end}
use Rattle.f_tree.specs.declared.statements.Stmt.{Stmt}
use Rattle.declaration_rows.specs.ReferenceRows.{references_of_statement}
use Rattle.reference_judge.specs.ReferencesSeen.{at, located_from}
use Rattle.reference_judge.proofs.BindingLaws.{located_step, located_end}
use Rattle.reference_judge.proofs.statements.add_statements.Goals as goal

pub loop-statement-init : goal.loop-statement-init
loop-statement-init c = record { names = c.requires.names; rest = refl }

pub loop-statement-preserved : goal.loop-statement-preserved
loop-statement-preserved c =
    let u = c.args.unit.now in
    record {
      names = c.in_ok-add_statement.ensures.names;
      rest = each_more (located_from u) (λ (s : Stmt). at s (references_of_statement u s.body)) (located_step u) c.args.statements.now c.loop-statement.statement-index c.statement-item.result
          _ _ _ _ c.loop-statement-test.true c.statement-item.is c.loop-statement.invariant.rest c.in_ok-add_statement.ensures.references;
    }

pub returns-clause-references : goal.returns-clause-references
returns-clause-references c =
    let u = c.args.unit.now in
    each_end (located_from u) (λ (s : Stmt). at s (references_of_statement u s.body)) (located_end u) c.args.statements.now c.loop-statement.statement-index _ _ (omega arith)
    c.loop-statement.invariant.rest

pub returns-clause-names : goal.returns-clause-names
returns-clause-names c = c.loop-statement.invariant.names
