-- A main program and a subroutine, each in a file of its own, and what bounds the bytes of their objects:
--     INTEGER A(3)
--     LOGICAL L
--     A(2)=1
--     IF (L) STOP 'OFF'
--     END
-- and
--     SUBROUTINE S(N)
--     K=N
--     STOP 12
--     END
-- ANSI X3.9-1978, sections 11.12, 15.9.3 and 17.1.
use Rattle.std.specs.Prelude.{◌≡◌, ℕ, pos, List, [], ◌∷◌, codes, Some, None}
use Rattle.object_bytes.specs.f_tree.declared.expressions.Expr.{Expr}
use Rattle.object_bytes.specs.f_tree.declared.expressions.Expr as expr
use Rattle.object_bytes.specs.f_tree.declared.names.Basic.TheVariants.{Integer, Logical}
use Rattle.object_bytes.specs.f_tree.declared.names.Options.{Options}
use Rattle.object_bytes.specs.f_tree.declared.statements.Body.{Body}
use Rattle.object_bytes.specs.f_tree.declared.statements.Body as body
use Rattle.object_bytes.specs.f_tree.declared.statements.DummyArgument.TheVariants as dummy
use Rattle.object_bytes.specs.f_tree.declared.statements.Stmt.{Stmt}
use Rattle.object_bytes.specs.f_tree.declared.statements.UnitKind.TheVariants as kind
use Rattle.object_bytes.specs.f_tree.declared.statements.UpperBound.TheVariants as upper
use Rattle.object_bytes.specs.f_tree.declared.units.File.{File}
use Rattle.object_bytes.specs.f_tree.declared.units.Unit.{Unit as GivenUnit}
use Rattle.object_bytes.specs.ObjectBytes.{stored_bytes, all_nodes, all_stops}

-- a statement on a card of a file
abbrev pub on_card : ℕ → ℕ → Body → Stmt
on_card file n b = record { label = None; file = file; card = n; body = b }

abbrev pub variable : List ℕ → Expr
variable x = expr.Name x

unfoldable pub main : GivenUnit
main = record {
  file = 0;
  card = 1;
  kind = kind.Main;
  name = None;
  dummies = [];
  statements =
      on_card 0 1 (body.Declare (record { basic = Integer; length = None }) (record { name = codes "a"; dimensions = record { lower = None; upper = upper.Value (expr.Int (pos 3)) } ∷ []; length = None } ∷ []))
      ∷ on_card 0 2 (body.Declare (record { basic = Logical; length = None }) (record { name = codes "l"; dimensions = []; length = None } ∷ []))
      ∷ on_card 0 3 (body.Assign (expr.Apply (codes "a") (expr.Int (pos 2) ∷ [])) (expr.Int (pos 1)))
      ∷ on_card 0 4 (body.IfOne (variable (codes "l")) (body.Stop (codes "OFF")))
      ∷ on_card 0 5 body.End
      ∷ [];
}

unfoldable pub subroutine : GivenUnit
subroutine = record {
  file = 1;
  card = 1;
  kind = kind.Subroutine;
  name = Some (codes "s");
  dummies = dummy.Named (codes "n") ∷ [];
  statements = on_card 1 2 (body.Assign (variable (codes "k")) (variable (codes "n"))) ∷ on_card 1 3 (body.Stop (codes "12")) ∷ on_card 1 4 body.End ∷ [];
}

unfoldable pub files : List File
files = record { units = main ∷ [] } ∷ record { units = subroutine ∷ [] } ∷ []

pub record ExampleIsCounted : Type 0 where
  -- three integers, a logical and an integer
  pub stored : (options : Options) → stored_bytes options files ≡ 20
  -- 24 of the main program, and 11 of the subroutine
  pub nodes : all_nodes files ≡ 35
  pub stops : all_stops files ≡ 5

unfoldable pub examples_opened : Unit {0}
unfolding main subroutine files
examples_opened = tt
