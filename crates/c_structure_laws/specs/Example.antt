-- A loop whose turn has a label, one that is tested behind its turn, and a switch, as items and as C statements:
--     k = 0; for (i__ = 1; i__ <= 3; ++i__) { L10: k = k + i__; } return 0;
--     L20: { i__ = 1; do { L10: k = k + i__; i__ = i__ + 1; } while (i__ <= 3); } return 0;
--     switch (k) { case 1: goto L10; case 2: goto L20; } return 1; L20: k = 0; L10: return 0;
use Rattle.std.specs.Prelude.{nat_eq, pos, false, List, [], ◌∷◌, Some, None, codes, if◌then◌else◌}
use Rattle.c_laws.specs.c_tree.declared.expression.BinaryOp.TheVariants as op
use Rattle.c_laws.specs.c_tree.declared.expression.CExpr.TheVariants as expr
use Rattle.c_laws.specs.c_tree.declared.statement.CNext.TheVariants as next
use Rattle.c_laws.specs.c_tree.declared.statement.CStmt.{CStmt}
use Rattle.c_laws.specs.c_tree.declared.statement.CStmt.TheVariants as stmt
use Rattle.c_laws.specs.c_tree.Access.{ToNumber}
use Rattle.c_laws.specs.c_tree.Terms.{Constant, Variable, Between}
use Rattle.c_laws.specs.c_tree.Flat.{Flat, Assign, Branch, Select, Jump, Return}
use Rattle.c_structure.specs.Statements.{Outline}

abbrev pub its_items : List Flat
its_items =
    Assign (Variable 0 ToNumber) (Constant (pos 0))
    ∷ Assign (Variable 1 ToNumber) (Constant (pos 1))
    ∷ Branch (Between op.LessOrEqual (Variable 1 ToNumber) (Constant (pos 3))) 3 6
    ∷ Assign (Variable 0 ToNumber) (Between op.Add (Variable 0 ToNumber) (Variable 1 ToNumber))
    ∷ Assign (Variable 1 ToNumber) (Between op.Add (Variable 1 ToNumber) (Constant (pos 1)))
    ∷ Jump 2
    ∷ Return (Some (Constant (pos 0)))
    ∷ []

abbrev pub its_outline : Outline
its_outline = record {
  names = record { object = λ k. if nat_eq k 0 then codes "k" else codes "i__"; string = λ k. None; routine = λ k. [] };
  label = λ n. if nat_eq n 3 then Some (codes "L10") else None;
  ends_arm = λ n. false;
  loop = λ n. if nat_eq n 1 then Some 1 else None;
}

abbrev pub its_statements : List CStmt
its_statements =
    stmt.Set (expr.Name (codes "k")) (expr.Number (pos 0))
    ∷ stmt.For (expr.Name (codes "i__")) (expr.Number (pos 1)) (expr.Binary op.LessOrEqual (expr.Name (codes "i__")) (expr.Number (pos 3))) (next.Up (expr.Name (codes "i__")))
    (stmt.Label (codes "L10") (stmt.Set (expr.Name (codes "k")) (expr.Binary op.Add (expr.Name (codes "k")) (expr.Name (codes "i__")))) ∷ [])
    ∷ stmt.Return (Some (expr.Number (pos 0)))
    ∷ []

abbrev pub items_of_do : List Flat
items_of_do =
    Assign (Variable 1 ToNumber) (Constant (pos 1))
    ∷ Assign (Variable 0 ToNumber) (Between op.Add (Variable 0 ToNumber) (Variable 1 ToNumber))
    ∷ Assign (Variable 1 ToNumber) (Between op.Add (Variable 1 ToNumber) (Constant (pos 1)))
    ∷ Branch (Between op.LessOrEqual (Variable 1 ToNumber) (Constant (pos 3))) 1 4
    ∷ Return (Some (Constant (pos 0)))
    ∷ []

abbrev pub outline_of_do : Outline
outline_of_do = record {
  names = record { object = λ k. if nat_eq k 0 then codes "k" else codes "i__"; string = λ k. None; routine = λ k. [] };
  label = λ n. if nat_eq n 1 then Some (codes "L10") else if nat_eq n 0 then Some (codes "L20") else None;
  ends_arm = λ n. false;
  loop = λ n. if nat_eq n 0 then Some 2 else None;
}

abbrev pub statements_of_do : List CStmt
statements_of_do =
    stmt.Label (codes "L20")
    (stmt.Block
    (stmt.Set (expr.Name (codes "i__")) (expr.Number (pos 1))
    ∷ stmt.DoWhile
    (stmt.Label (codes "L10") (stmt.Set (expr.Name (codes "k")) (expr.Binary op.Add (expr.Name (codes "k")) (expr.Name (codes "i__"))))
    ∷ stmt.Set (expr.Name (codes "i__")) (expr.Binary op.Add (expr.Name (codes "i__")) (expr.Number (pos 1)))
    ∷ [])
    (expr.Binary op.LessOrEqual (expr.Name (codes "i__")) (expr.Number (pos 3)))
    ∷ []))
    ∷ stmt.Return (Some (expr.Number (pos 0)))
    ∷ []

abbrev pub items_of_switch : List Flat
items_of_switch =
    Select (Variable 0 ToNumber) (record { number = pos 1; position = 1 } ∷ record { number = pos 2; position = 2 } ∷ []) 3
    ∷ Jump 5
    ∷ Jump 4
    ∷ Return (Some (Constant (pos 1)))
    ∷ Assign (Variable 0 ToNumber) (Constant (pos 0))
    ∷ Return (Some (Constant (pos 0)))
    ∷ []

abbrev pub outline_of_switch : Outline
outline_of_switch = record {
  names = record { object = λ k. codes "k"; string = λ k. None; routine = λ k. [] };
  label = λ n. if nat_eq n 5 then Some (codes "L10") else if nat_eq n 4 then Some (codes "L20") else None;
  ends_arm = λ n. false;
  loop = λ n. None;
}

abbrev pub statements_of_switch : List CStmt
statements_of_switch =
    stmt.Switch (expr.Name (codes "k")) (record { number = pos 1; label = codes "L10" } ∷ record { number = pos 2; label = codes "L20" } ∷ [])
    ∷ stmt.Return (Some (expr.Number (pos 1)))
    ∷ stmt.Label (codes "L20") (stmt.Set (expr.Name (codes "k")) (expr.Number (pos 0)))
    ∷ stmt.Label (codes "L10") (stmt.Return (Some (expr.Number (pos 0))))
    ∷ []
