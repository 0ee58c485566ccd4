-- Small sets of units with calls, as trees, and what is found of their calls.
use Rattle.std.specs.Prelude.{ℕ, suc, pos, true, List, [], ◌∷◌, codes, Option, Some, None}
use Rattle.call_shapes.specs.f_tree.declared.names.Basic.{Basic}
use Rattle.call_shapes.specs.f_tree.declared.names.Basic.TheVariants as type
use Rattle.call_shapes.specs.f_tree.declared.expressions.BinaryOp.TheVariants as op
use Rattle.call_shapes.specs.f_tree.declared.expressions.Expr.{Expr}
use Rattle.call_shapes.specs.f_tree.declared.expressions.Expr as expr
use Rattle.call_shapes.specs.f_tree.declared.statements.Body.{Body}
use Rattle.call_shapes.specs.f_tree.declared.statements.Body as body
use Rattle.call_shapes.specs.f_tree.declared.statements.DummyArgument.{DummyArgument}
use Rattle.call_shapes.specs.f_tree.declared.statements.DummyArgument.TheVariants as dummy
use Rattle.call_shapes.specs.f_tree.declared.statements.Stmt.{Stmt}
use Rattle.call_shapes.specs.f_tree.declared.statements.UnitKind.{UnitKind}
use Rattle.call_shapes.specs.f_tree.declared.statements.UnitKind.TheVariants as kind
use Rattle.call_shapes.specs.f_tree.declared.units.Unit.{Unit as WrittenUnit}
use Rattle.call_shapes.specs.f_tree.declared.units.File.{File}
use Rattle.call_shapes.specs.declared.findings.Finding.{Finding}
use Rattle.call_shapes.specs.declared.findings.Reason.{Reason}
use Rattle.call_shapes.specs.declared.shapes.Argument.{Argument}
use Rattle.call_shapes.specs.declared.shapes.Argument.TheVariants as argument
use Rattle.call_shapes.specs.declared.shapes.NamedShape.{NamedShape}
use Rattle.call_shapes.specs.declared.shapes.ShapeResult.TheVariants.{Subroutine}
use Rattle.call_shapes.specs.Disagreements.{disagreeing}

-- WORDS. A statement on a card of a file, and statements on cards of the first file, one after the other
abbrev pub on : ℕ → ℕ → Body → Stmt
on file card b = record { label = None; file = file; card = card; body = b }

unfoldable pub from_card : ℕ → List Body → List Stmt
from_card card [] = []
from_card card (b ∷ bs) = on 0 card b ∷ from_card (suc card) bs

abbrev pub main : List Body → WrittenUnit
main bs = record { file = 0; card = 1; kind = kind.Main; name = None; dummies = []; statements = from_card 1 bs }

-- a procedure of one dummy argument whose heading stands on a card, with END on the next one
abbrev pub procedure : ℕ → UnitKind → List ℕ → WrittenUnit
procedure card k x = record { file = 0; card = card; kind = k; name = Some x; dummies = dummy.Named (codes "i") ∷ []; statements = from_card (suc card) (body.End ∷ []) }

abbrev pub subroutine : ℕ → List ℕ → WrittenUnit
subroutine card x = procedure card kind.Subroutine x

abbrev pub integer_function : ℕ → List ℕ → WrittenUnit
integer_function card x = procedure card (kind.Function (record { basic = type.Integer; length = None })) x

abbrev pub num : ℕ → Expr
num n = expr.Int (pos n)

abbrev pub logical : List ℕ → Body
logical x = body.Declare (record { basic = type.Logical; length = None }) (record { name = x; dimensions = []; length = None } ∷ [])

-- what is found of the units of one file, and a call that is found in it
unfoldable pub found_in : List WrittenUnit → List NamedShape → List Finding
found_in us lines = disagreeing (record { units = us } ∷ []) lines

abbrev pub found : ℕ → ℕ → List ℕ → Reason → Finding
found file card x why = record { file = file; card = card; name = x; reason = why }

-- a line of prototypes
abbrev pub line : List ℕ → List Argument → NamedShape
line x arguments = record { name = x; shape = record { result = Subroutine; arguments = arguments } }

-- SETS. `CALL S(..)`, `END`, `SUBROUTINE S(I)`, `END`
unfoldable pub calling_s : List Expr → List WrittenUnit
calling_s es = main (body.Call (codes "s") es ∷ body.End ∷ []) ∷ subroutine 3 (codes "s") ∷ []

-- `LOGICAL L`, `L=.TRUE.`, `CALL S(L)`, `END`, `SUBROUTINE S(I)`, `END`
unfoldable pub calling_with_logical : List WrittenUnit
calling_with_logical =
    main (logical (codes "l") ∷ body.Assign (expr.Name (codes "l")) (expr.Logical true) ∷ body.Call (codes "s") (expr.Name (codes "l") ∷ []) ∷ body.End ∷ [])
    ∷ subroutine 5 (codes "s") ∷ []

-- `CALL T(..)`, `END`
unfoldable pub calling_t : List Expr → List WrittenUnit
calling_t es = main (body.Call (codes "t") es ∷ body.End ∷ []) ∷ []

-- `CALL N(1)`, `END`, `INTEGER FUNCTION N(I)`, `END`
unfoldable pub calling_a_function : List WrittenUnit
calling_a_function = main (body.Call (codes "n") (num 1 ∷ []) ∷ body.End ∷ []) ∷ integer_function 3 (codes "n") ∷ []

-- `K=N(1)`, `END`, `SUBROUTINE N(I)`, `END`
unfoldable pub referring_to_a_subroutine : List WrittenUnit
referring_to_a_subroutine =
    main (body.Assign (expr.Name (codes "k")) (expr.Apply (codes "n") (num 1 ∷ [])) ∷ body.End ∷ []) ∷ subroutine 3 (codes "n") ∷ []

-- `LOGICAL N`, `IF (N(1)) STOP`, `END`, `INTEGER FUNCTION N(I)`, `END`
unfoldable pub wanting_a_logical : List WrittenUnit
wanting_a_logical =
    main (logical (codes "n") ∷ body.IfOne (expr.Apply (codes "n") (num 1 ∷ [])) (body.Stop []) ∷ body.End ∷ []) ∷ integer_function 4 (codes "n") ∷ []

-- `CALL S(N(1,2),3)`, `END`, `SUBROUTINE S(I)`, `END`, `INTEGER FUNCTION N(I)`, `END`
unfoldable pub calling_within_a_call : List WrittenUnit
calling_within_a_call =
    main (body.Call (codes "s") (expr.Apply (codes "n") (num 1 ∷ num 2 ∷ []) ∷ num 3 ∷ []) ∷ body.End ∷ [])
    ∷ subroutine 3 (codes "s") ∷ integer_function 5 (codes "n") ∷ []

-- `M(J)=N(J,J)`, `K=M(1)+M(2)`, `END`, `INTEGER FUNCTION N(I)`, `END`
unfoldable pub calling_in_a_definition : List WrittenUnit
calling_in_a_definition =
    main (
    body.Assign (expr.Apply (codes "m") (expr.Name (codes "j") ∷ [])) (expr.Apply (codes "n") (expr.Name (codes "j") ∷ expr.Name (codes "j") ∷ [])) ∷
    body.Assign (expr.Name (codes "k")) (expr.Binary op.Plus (expr.Apply (codes "m") (num 1 ∷ [])) (expr.Apply (codes "m") (num 2 ∷ []))) ∷ body.End ∷ [])
    ∷ integer_function 4 (codes "n") ∷ []

-- a main program that includes `CALL S` twice, on the first card of a second file, before `CALL S(1,2)`, and a subroutine that includes it too
abbrev included : Stmt
included = on 1 1 (body.Call (codes "s") [])

unfoldable pub including_a_call : List WrittenUnit
including_a_call =
    record {
      file = 0;
      card = 1;
      kind = kind.Main;
      name = None;
      dummies = [];
      statements = included ∷ included ∷ on 0 3 (body.Call (codes "s") (num 1 ∷ num 2 ∷ [])) ∷ on 0 4 body.End ∷ [];
    }
    ∷ record {
      file = 0;
      card = 5;
      kind = kind.Subroutine;
      name = Some (codes "s");
      dummies = dummy.Named (codes "i") ∷ [];
      statements = included ∷ on 0 7 body.End ∷ [];
    }
    ∷ []

unfoldable pub call_sources_opened : Unit {0}
unfolding from_card found_in calling_s calling_with_logical calling_t calling_a_function referring_to_a_subroutine wanting_a_logical calling_within_a_call calling_in_a_definition including_a_call
call_sources_opened = tt
