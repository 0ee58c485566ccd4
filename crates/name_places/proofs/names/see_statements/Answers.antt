use Rattle.std.proofs.Common.{List, ◌∷◌, [], get_or, refl, arith}
use Rattle.f_tree.specs.Values.{Bytes}
use Rattle.f_tree.specs.declared.statements.Stmt.{Stmt}
use Rattle.f_tree.specs.Uses.{uses_of_body, uses_of_statements}
use Rattle.name_table.specs.Named.{names_in}
use Rattle.name_places.specs.FirstPlaces.{use_names}
use Rattle.name_places.proofs.SeenLemmas.{seen_on, seen_end, statements_step, statements_none}
use Rattle.name_places.proofs.names.see_statements.Goals as goal

pub loop-statement-preserved : goal.loop-statement-preserved
loop-statement-preserved c = record {
  names = seen_on (λ (ss : List Stmt). use_names (uses_of_statements (names_in c.args.arrays.now) ss)) (λ (s : Stmt). use_names (uses_of_body (names_in c.args.arrays.now) s.body)) (statements_step (names_in c.args.arrays.now)) c.args.statements.now c.loop-statement.statement-index c.statement-item.result _ _ _ _ c.loop-statement-test.true c.statement-item.is c.loop-statement.invariant.names c.in_ok-see_statement.ensures.names;
  seen = c.in_ok-see_statement.ensures.seen;
}

pub returns : goal.returns
returns c = seen_end (λ (ss : List Stmt). use_names (uses_of_statements (names_in c.args.arrays.now) ss)) (λ (s : Stmt). use_names (uses_of_body (names_in c.args.arrays.now) s.body)) (statements_none (names_in c.args.arrays.now)) c.args.statements.now c.loop-statement.statement-index _ _ (omega arith) c.loop-statement.invariant.names
