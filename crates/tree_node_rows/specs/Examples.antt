-- A unit with a statement function, and how many nodes it has:
--     F(I)=I*I+1
--     GO TO (10,20),F(2)
--  10 J=F(F(3))
--  20 CONTINUE
--     END
-- ANSI X3.9-1978, sections 11.2 and 15.4.
use Rattle.std.specs.Prelude.{◌≡◌, ℕ, pos, List, [], ◌∷◌, codes, Option, Some, None}
use Rattle.tree_nodes.specs.f_tree.declared.expressions.Expr.{Expr}
use Rattle.tree_nodes.specs.f_tree.declared.expressions.Expr as expr
use Rattle.tree_nodes.specs.f_tree.declared.expressions.BinaryOp.TheVariants as op
use Rattle.tree_nodes.specs.f_tree.declared.statements.Body.{Body}
use Rattle.tree_nodes.specs.f_tree.declared.statements.Body as body
use Rattle.tree_nodes.specs.f_tree.declared.statements.Stmt.{Stmt}
use Rattle.tree_nodes.specs.f_tree.declared.statements.UnitKind.TheVariants as kind
use Rattle.tree_nodes.specs.f_tree.declared.units.Unit.{Unit as GivenUnit}
use Rattle.tree_nodes.specs.declaration_rows.ExpansionRows.{functions_of}
use Rattle.tree_nodes.specs.TreeNodes.{body_nodes, unit_nodes, greatest_nodes}

-- a statement on a card
abbrev pub on_card : Option ℕ → ℕ → Body → Stmt
on_card label n b = record { label = label; file = 0; card = n; body = b }

abbrev pub number : ℕ → Expr
number n = expr.Int (pos n)

abbrev pub variable : List ℕ → Expr
variable x = expr.Name x

-- `F(..)`
abbrev pub reference : Expr → Expr
reference e = expr.Apply (codes "f") (e ∷ [])

abbrev pub definition : Body
definition =
    body.Assign (reference (variable (codes "i"))) (expr.Binary op.Plus (expr.Binary op.Times (variable (codes "i")) (variable (codes "i"))) (number 1))

abbrev pub choice : Body
choice = body.GotoList (10 ∷ 20 ∷ []) (reference (number 2))

abbrev pub nested : Body
nested = body.Assign (variable (codes "j")) (reference (reference (number 3)))

unfoldable pub unit : GivenUnit
unit = record {
  file = 0;
  card = 1;
  kind = kind.Main;
  name = None;
  dummies = [];
  statements = on_card None 1 definition ∷ on_card None 2 choice ∷ on_card (Some 10) 3 nested ∷ on_card (Some 20) 4 body.Continue ∷ on_card None 5 body.End ∷ [];
}

pub record ExampleIsCounted : Type 0 where
  -- the expression of the function
  pub function : functions_of unit ≡ record { name = codes "f"; nodes = 5 } ∷ []
  -- the heading is no reference
  pub defined : body_nodes (functions_of unit) definition ≡ 8
  -- the statement, its labels, the reference and its argument, and the expression
  pub chosen : body_nodes (functions_of unit) choice ≡ 10
  -- each of the two references is expanded
  pub within : body_nodes (functions_of unit) nested ≡ 15
  pub whole : unit_nodes unit ≡ 42
  pub greatest : greatest_nodes (record { units = unit ∷ [] } ∷ []) ≡ 42

unfoldable pub examples_opened : Unit {0}
unfolding unit
examples_opened = tt
