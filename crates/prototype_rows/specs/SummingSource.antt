-- A subroutine that sums the elements of a common block, as a tree, and its prototype.
use Rattle.std.specs.Prelude.{ℕ, pos, List, [], ◌∷◌, codes, Some, None}
use Rattle.prototypes.specs.f_tree.declared.names.Basic.TheVariants.{Integer}
use Rattle.prototypes.specs.f_tree.declared.expressions.BinaryOp.TheVariants as op
use Rattle.prototypes.specs.f_tree.declared.expressions.Expr.{Expr}
use Rattle.prototypes.specs.f_tree.declared.expressions.Expr as expr
use Rattle.prototypes.specs.f_tree.declared.statements.Body.{Body}
use Rattle.prototypes.specs.f_tree.declared.statements.Body as body
use Rattle.prototypes.specs.f_tree.declared.statements.Declarator.{Declarator}
use Rattle.prototypes.specs.f_tree.declared.statements.DummyArgument.TheVariants as dummy
use Rattle.prototypes.specs.f_tree.declared.statements.Stmt.{Stmt}
use Rattle.prototypes.specs.f_tree.declared.statements.UnitKind.TheVariants as kind
use Rattle.prototypes.specs.f_tree.declared.statements.UpperBound.TheVariants as upper
use Rattle.prototypes.specs.f_tree.declared.units.File.{File}
use Rattle.prototypes.specs.c_tree.declared.types.ParameterType.TheVariants.{Integers}
use Rattle.prototypes.specs.c_tree.declared.types.ResultType.TheVariants.{Int}
use Rattle.prototypes.specs.declared.prototype.Prototype.{Prototype}

abbrev pub on_card : ℕ → Body → Stmt
on_card card b = record { label = None; file = 0; card = card; body = b }

abbrev pub declared : List ℕ → Declarator
declared x = record { name = x; dimensions = []; length = None }

-- SUBROUTINE ADD(N, S); INTEGER N, S, I; COMMON /B/ IA(3); DO 10 I = 1, N; 10 S = S + IA(I); END
unfoldable pub summing : File
summing = record {
  units =
      record {
        file = 0;
        card = 1;
        kind = kind.Subroutine;
        name = Some (codes "add");
        dummies = dummy.Named (codes "n") ∷ dummy.Named (codes "s") ∷ [];
        statements =
            on_card 2 (body.Declare (record { basic = Integer; length = None }) (declared (codes "n") ∷ declared (codes "s") ∷ declared (codes "i") ∷ [])) ∷
            on_card 3 (body.Common (record { block = Some (codes "b"); items = record { name = codes "ia"; dimensions = record { lower = None; upper = upper.Value (expr.Int (pos 3)) } ∷ [] } ∷ [] } ∷ [])) ∷
            on_card 4 (body.Do (Some 10) (record { variable = codes "i"; first = expr.Int (pos 1); limit = expr.Name (codes "n"); step = None })) ∷
            record { label = Some 10; file = 0; card = 5; body = body.Assign (expr.Name (codes "s")) (expr.Binary op.Plus (expr.Name (codes "s")) (expr.Apply (codes "ia") (expr.Name (codes "i") ∷ []))) } ∷
            on_card 6 body.End ∷ [];
      } ∷ [];
}

-- `extern int add_(integer *n, integer *s);`
unfoldable pub add : Prototype
add = record {
  result = Int;
  name = codes "add_";
  params = record { of = Integers; name = codes "n" } ∷ record { of = Integers; name = codes "s" } ∷ [];
}

unfoldable pub summing_opened : Unit {0}
unfolding summing add
summing_opened = tt
