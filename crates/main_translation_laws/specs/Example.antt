-- A main program, the text that it is lowered to, and the statements that are made for it:
--     K = 0; DO 10 I = 1, 3; 10 K = K + I; IF (K .GT. 2) THEN; PRINT *, K + 1; GO TO 20; ELSE; K = 5; END IF; 20 CONTINUE; END
-- ANSI X3.9-1978, sections 10.1, 11 and 12.8; C89, 3.6.
use Rattle.std.specs.Prelude.{ℕ, pos, false, ◌||◌, List, [], ◌∷◌, Some, None, option_map, codes, bytes_eq, if◌then◌else◌}
use Rattle.main_programs.specs.f_tree.declared.names.Class.TheVariants as class
use Rattle.main_programs.specs.f_tree.Values.{Bytes, IsInt}
use Rattle.main_programs.specs.f_tree.Terms.{Add, IsGreater, IsLessOrEqual, Val, At, Between, NoMore, More}
use Rattle.main_programs.specs.f_tree.Facts.{Attribute, Output, Listed, Item, Done, Before, MainProgram, ToSet, ToGo, ToEnterArm, ToLoop, ToBegin, ToEnd, Passes, On, Plain, Opens, Arm, Closes, Line, ProgramUnit}
use Rattle.main_programs.specs.f_tree.Attributes.{bare}
use Rattle.main_programs.specs.f_tree.Places.{place_of_label}
use Rattle.main_programs.specs.l_core.Pures.{Constant, Temporary, Load, Operated, NoPure, AndPure}
use Rattle.main_programs.specs.l_core.Steps.{Starts, Takes, Finishes, Text, Step, Keep, Put, Unless, Skip, Again, Jump, Pass, Back, Acts}
use Rattle.main_programs.specs.lowering.Units.{start_of, lines_marks}
use Rattle.lowered_rows.specs.Examples.{letter, variable, an_integer, line, name, printing}
use Rattle.main_programs.specs.c_tree.declared.expression.BinaryOp.TheVariants as op
use Rattle.main_programs.specs.c_tree.declared.expression.UnaryOp.TheVariants as prefix
use Rattle.main_programs.specs.c_tree.declared.expression.CExpr.{CExpr}
use Rattle.main_programs.specs.c_tree.declared.expression.CExpr.TheVariants as expr
use Rattle.main_programs.specs.c_tree.declared.statement.CNext.TheVariants as next
use Rattle.main_programs.specs.c_tree.declared.statement.CStmt.{CStmt}
use Rattle.main_programs.specs.c_tree.declared.statement.CStmt.TheVariants as stmt
use Rattle.main_programs.specs.c_tree.declared.types.CastType.TheVariants as to
use Rattle.main_programs.specs.MainRuns.{plain_facts}

-- K and I are its names
abbrev pub attribute_of : Bytes → Attribute
attribute_of x = if bytes_eq (letter 107) x || bytes_eq (letter 105) x then an_integer else bare class.Unit None

abbrev pub its_lines : List Line
its_lines =
    line None Plain (On ToSet (More (Val (IsInt (pos 0))) (More (At (letter 107)) NoMore)))
    ∷ line None Plain (On (ToLoop (Some 10)) (More (At (letter 105)) (More (Val (IsInt (pos 1))) (More (Val (IsInt (pos 3))) (More (Val (IsInt (pos 1))) NoMore)))))
    ∷ line (Some 10) Plain (On ToSet (More (Between Add (variable 107) (variable 105)) (More (At (letter 107)) NoMore)))
    ∷ line None Opens (On ToEnterArm (More (Between IsGreater (variable 107) (Val (IsInt (pos 2)))) NoMore))
    ∷ line None Plain (On (ToBegin Output Listed printing (Before (Item (Between Add (variable 107) (Val (IsInt (pos 1))))) Done)) (More (Val (IsInt (pos 6))) NoMore))
    ∷ line None Plain (On (ToGo 20) NoMore)
    ∷ line None Arm Passes
    ∷ line None Plain (On ToSet (More (Val (IsInt (pos 5))) (More (At (letter 107)) NoMore)))
    ∷ line None Closes Passes
    ∷ line (Some 20) Plain Passes
    ∷ line None Plain (On ToEnd NoMore)
    ∷ []

abbrev pub its_unit : ProgramUnit
its_unit = record {
  kind = MainProgram;
  entries = record { name = []; formals = []; start = 0 } ∷ [];
  lines = its_lines;
  attribute = attribute_of;
  formats = [];
  blocks = [];
  ties = [];
  images = [];
  references = [];
  stored = record { name = letter 107; size = 4 } ∷ record { name = letter 105; size = 4 } ∷ [];
  onetrip = false;
}

abbrev pub its_steps : List Step
its_steps =
    Put (name 107) (Constant (IsInt (pos 0)))
    ∷ Put (name 105) (Constant (IsInt (pos 1)))
    ∷ Unless (Operated IsLessOrEqual (Load (name 105)) (Constant (IsInt (pos 3)))) 3
    ∷ Put (name 107) (Operated Add (Load (name 107)) (Load (name 105)))
    ∷ Put (name 105) (Operated Add (Load (name 105)) (Constant (IsInt (pos 1))))
    ∷ Again 3
    ∷ Unless (Operated IsGreater (Load (name 107)) (Constant (IsInt (pos 2)))) 6
    ∷ Acts (Starts Output Listed printing) (AndPure (Constant (IsInt (pos 6))) NoPure) 3
    ∷ Keep 0 (Operated Add (Load (name 107)) (Constant (IsInt (pos 1))))
    ∷ Acts Takes (AndPure (Temporary 0) NoPure) 1
    ∷ Acts Finishes NoPure 0
    ∷ Jump 20
    ∷ Skip 1
    ∷ Put (name 107) (Constant (IsInt (pos 5)))
    ∷ Pass
    ∷ Back
    ∷ []

abbrev pub its_text : Text
its_text = record {
  facts = plain_facts its_unit;
  steps = its_steps;
  begins = start_of its_unit;
  position = λ label. option_map (start_of its_unit) (place_of_label its_unit label);
  marks = lines_marks its_unit 0 its_lines;
}

abbrev pub address : List ℕ → CExpr
address called = expr.Unary prefix.Address (expr.Name called)

abbrev pub call : List ℕ → List CExpr → CStmt
call called arguments = stmt.Call (record { through = false; name = called; arguments = arguments })

-- k = 0; for (i__ = 1; i__ <= 3; ++i__) { k = k + i__; } if (k > 2) { s_wsle(&io___1); i__1 = k + 1; do_lio(&c__3, &c__1, (char *)&i__1,
-- (ftnlen)sizeof(integer)); e_wsle(); goto L20; } else { k = 5; } L20: ; return 0;
abbrev pub its_statements : List CStmt
its_statements =
    stmt.Set (expr.Name (codes "k")) (expr.Number (pos 0))
    ∷ stmt.For (expr.Name (codes "i__")) (expr.Number (pos 1)) (expr.Binary op.LessOrEqual (expr.Name (codes "i__")) (expr.Number (pos 3))) (next.Up (expr.Name (codes "i__")))
    (stmt.Set (expr.Name (codes "k")) (expr.Binary op.Add (expr.Name (codes "k")) (expr.Name (codes "i__"))) ∷ [])
    ∷ stmt.If (expr.Binary op.Greater (expr.Name (codes "k")) (expr.Number (pos 2)))
    (call (codes "s_wsle") (address (codes "io___1") ∷ [])
    ∷ stmt.Set (expr.Name (codes "i__1")) (expr.Binary op.Add (expr.Name (codes "k")) (expr.Number (pos 1)))
    ∷ call (codes "do_lio") (address (codes "c__3") ∷ address (codes "c__1") ∷ expr.Cast to.Chars (address (codes "i__1")) ∷ expr.Cast to.Length expr.SizeInt ∷ [])
    ∷ call (codes "e_wsle") []
    ∷ stmt.Goto (codes "L20")
    ∷ [])
    (Some (stmt.Set (expr.Name (codes "k")) (expr.Number (pos 5)) ∷ []))
    ∷ stmt.Label (codes "L20") stmt.Empty
    ∷ stmt.Return (Some (expr.Number (pos 0)))
    ∷ []
