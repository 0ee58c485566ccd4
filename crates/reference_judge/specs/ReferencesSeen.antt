-- References with the statements in which they stand.
use Rattle.std.specs.Prelude.{List, [], ◌∷◌, ◌++◌, map, Option, Some, None}
use Rattle.f_tree.specs.declared.expressions.Expr.{Expr}
use Rattle.f_tree.specs.declared.statements.Body.{Body}
use Rattle.f_tree.specs.declared.statements.Stmt.{Stmt}
use Rattle.f_tree.specs.declared.units.Unit.{Unit as WrittenUnit}
use Rattle.f_tree.specs.Values.{Bytes}
use Rattle.declaration_rows.specs.ReferenceRows as rows
use Rattle.declaration_rows.specs.ReferenceRows.{parts_of, references_of_statement}
use Rattle.expression_judge.specs.declared.names.Names.{Names}
use Rattle.reference_judge.specs.declared.references.Reference.{Reference}
use Rattle.reference_judge.specs.ArgumentsSeen.{kind_in, all_references, reference_by, sight_by}

-- a reference in a statement
pub record Located : Type 0 where
  pub statement : Stmt
  pub reference : rows.Reference

unfoldable pub located_of : Reference → Located
located_of r = record { statement = r.statement.now; reference = record { name = r.name.now; arguments = map kind_in r.arguments.items } }

abbrev pub located : List Reference → List Located
located rs = map located_of rs

unfoldable pub at : Stmt → List rows.Reference → List Located
at s rs = map (λ (r : rows.Reference). record { statement = s; reference = r }) rs

-- the references of a statement, by what a table has of the names
unfoldable pub call_references : Names → Option (Bytes × List Expr) → List rows.Reference
call_references names None = []
call_references names (Some c) = reference_by c.0 (map (sight_by names) c.1) ∷ []

unfoldable pub references_by : Names → Body → List rows.Reference
references_by names b = all_references (map (sight_by names) (parts_of b).expressions) ++ call_references names (parts_of b).call

-- the references of statements, in their order
unfoldable pub located_from : WrittenUnit → List Stmt → List Located
located_from u [] = []
located_from u (s ∷ ss) = at s (references_of_statement u s.body) ++ located_from u ss
