-- A unit with two loops that end with one statement, a DO WHILE and a GO TO, and what is counted in it and in its C function:
--     DO 10 I=1,3
--     DO 10 J=1,I
--  10 K=K+J
--     DO WHILE (K.GT.4)
--     K=K-1
--     END DO
--     IF (K.EQ.2) GO TO 20
--     K=0
--  20 CONTINUE
--     END
-- And jumps to labels, ahead and back. ANSI X3.9-1978, sections 11.1, 11.5, 11.10, 11.11 and 12.8; MIL-STD-1753 for DO WHILE; C89, 3.6.1, 3.6.4.2, 3.6.5 and 3.6.6.1.
use Rattle.std.specs.List.{list_all}
use Rattle.std.specs.Prelude.{◌≡◌, ℕ, pos, Bool, true, false, List, [], ◌∷◌, map, codes, Option, Some, None, option_map}
use Rattle.translated_files.specs.f_tree.declared.expressions.Expr.{Expr}
use Rattle.translated_files.specs.f_tree.declared.expressions.Expr as expr
use Rattle.translated_files.specs.f_tree.declared.expressions.BinaryOp.TheVariants as op
use Rattle.translated_files.specs.f_tree.declared.names.Options.{Options}
use Rattle.translated_files.specs.f_tree.declared.statements.Body.{Body}
use Rattle.translated_files.specs.f_tree.declared.statements.Body as body
use Rattle.translated_files.specs.f_tree.declared.statements.ControlValue.TheVariants as value
use Rattle.translated_files.specs.f_tree.declared.statements.ControlWord.TheVariants as word
use Rattle.translated_files.specs.f_tree.declared.statements.Direction.TheVariants as way
use Rattle.translated_files.specs.f_tree.declared.statements.Stmt.{Stmt}
use Rattle.translated_files.specs.f_tree.declared.statements.UnitKind.TheVariants as kind
use Rattle.translated_files.specs.f_tree.declared.units.Unit.{Unit as GivenUnit}
use Rattle.translated_files.specs.f_tree.CNames.{is_among}
use Rattle.translated_files.specs.declaration_rows.NameRows.{given_names}
use Rattle.translated_files.specs.c_tree.CLabels.{labels_of_all}
use Rattle.translated_files.specs.c_tree.declared.expression.BinaryOp.TheVariants as c_op
use Rattle.translated_files.specs.c_tree.declared.expression.CExpr.TheVariants as c_expr
use Rattle.translated_files.specs.c_tree.declared.statement.CStmt.{CStmt}
use Rattle.translated_files.specs.c_tree.declared.statement.CStmt.TheVariants as stmt
use Rattle.translated_files.specs.c_tree.declared.file.CFile.{CFile}
use Rattle.translated_files.specs.c_tree.declared.file.CFunction.{CFunction}
use Rattle.translated_files.specs.TranslatedFiles.{files_of}
use Rattle.loop_marks.specs.c_loops.Loops.{Loops, loops_of_all}
use Rattle.kept_loops.specs.KeptFunctions.{ForwardJumps}
use Rattle.kept_loops.specs.NamedAhead.{Mention, Stands, IsNamed, mentions_of_all, named_ahead}
use Rattle.kept_loops.specs.SourceLoops.{do_statements, do_whiles, transfers, implied_dos, labels_named, labels_allowed}

-- a statement on a card, and with a label
abbrev pub on_card : ℕ → Body → Stmt
on_card n b = record { label = None; file = 0; card = n; body = b }

abbrev pub labelled : ℕ → ℕ → Body → Stmt
labelled label n b = record { label = Some label; file = 0; card = n; body = b }

abbrev pub number : ℕ → Expr
number n = expr.Int (pos n)

abbrev pub variable : List ℕ → Expr
variable x = expr.Name x

-- `DO 10 X=1,LIMIT`
abbrev pub counted : List ℕ → Expr → Body
counted x limit = body.Do (Some 10) (record { variable = x; first = number 1; limit = limit; step = None })

unfoldable pub looped : GivenUnit
looped = record {
  file = 0;
  card = 1;
  kind = kind.Main;
  name = None;
  dummies = [];
  statements =
      on_card 1 (counted (codes "i") (number 3)) ∷ on_card 2 (counted (codes "j") (variable (codes "i")))
      ∷ labelled 10 3 (body.Assign (variable (codes "k")) (expr.Binary op.Plus (variable (codes "k")) (variable (codes "j"))))
      ∷ on_card 4 (body.DoWhile None (expr.Binary op.Greater (variable (codes "k")) (number 4)))
      ∷ on_card 5 (body.Assign (variable (codes "k")) (expr.Binary op.Minus (variable (codes "k")) (number 1))) ∷ on_card 6 body.EndDo
      ∷ on_card 7 (body.IfOne (expr.Binary op.Equal (variable (codes "k")) (number 2)) (body.Goto 20)) ∷ on_card 8 (body.Assign (variable (codes "k")) (number 0))
      ∷ labelled 20 9 body.Continue ∷ on_card 10 body.End ∷ [];
}

-- with `-onetrip` and without
abbrev pub run_once : Bool → Options
run_once once = record { undeclared = false; onetrip = once; long_cards = false; checks = false }

-- the loops of its function, the labels that are named there, and all labels in the order of the text
abbrev pub Counts : Type 0
Counts = Loops × List (List ℕ) × List Mention

abbrev pub counts_of : CFile → List Counts
counts_of c = map (λ (f : CFunction). (loops_of_all f.body, (labels_of_all f.body).named, mentions_of_all f.body)) c.functions

abbrev pub translated : Bool → Option (List (List Counts))
translated once = option_map (map counts_of) (files_of (run_once once) (record { units = looped ∷ [] } ∷ []))

-- the DO WHILE goes back to its label, and the GO TO passes ahead to its own
abbrev pub in_order : List Mention
in_order = Stands (codes "L__1") ∷ IsNamed (codes "L__1") ∷ IsNamed (codes "L20") ∷ Stands (codes "L20") ∷ []

-- a unit with a transfer and no DO WHILE:
--     PRINT *
--     END
unfoldable pub printing : GivenUnit
printing = record {
  file = 0;
  card = 1;
  kind = kind.Main;
  name = None;
  dummies = [];
  statements = on_card 1 (body.Transfer way.Write (record { word = word.Unit; value = value.Star } ∷ record { word = word.Format; value = value.Star } ∷ []) []) ∷ on_card 2 body.End ∷ [];
}

-- a loop that is written with jumps to a label: i = 1; L: if (i <= 3) { i = i + 1; goto L; } return 0;
unfoldable pub jumping : List ℕ → List CStmt
jumping label =
    stmt.Set (c_expr.Name (codes "i")) (c_expr.Number (pos 1))
    ∷ stmt.Label label
    (stmt.If (c_expr.Binary c_op.LessOrEqual (c_expr.Name (codes "i")) (c_expr.Number (pos 3)))
    (stmt.Set (c_expr.Name (codes "i")) (c_expr.Binary c_op.Add (c_expr.Name (codes "i")) (c_expr.Number (pos 1))) ∷ stmt.Goto label ∷ []) None)
    ∷ stmt.Return (Some (c_expr.Number (pos 0))) ∷ []

-- jumps to a label ahead, by a case and out of an arm: switch (i) { case 1: goto L; } if (i == 2) { goto L; } i = 0; L: return 0;
unfoldable pub passing : List ℕ → List CStmt
passing label =
    stmt.Switch (c_expr.Name (codes "i")) (record { number = pos 1; label = label } ∷ [])
    ∷ stmt.If (c_expr.Binary c_op.Equal (c_expr.Name (codes "i")) (c_expr.Number (pos 2))) (stmt.Goto label ∷ []) None ∷ stmt.Set (c_expr.Name (codes "i")) (c_expr.Number (pos 0))
    ∷ stmt.Label label (stmt.Return (Some (c_expr.Number (pos 0)))) ∷ []

-- each label that statements name is one of those that the function of a unit may name
abbrev pub are_allowed : GivenUnit → List CStmt → Bool
are_allowed u body = list_all (is_among (labels_allowed u)) (labels_of_all body).named

pub record ExampleIsCounted : Type 0 where
  pub dos : do_statements looped ≡ 2
  pub whiles : do_whiles looped ≡ 1
  pub no_transfers : transfers looped ≡ 0
  pub no_implied : implied_dos looped ≡ 0
  pub labels : labels_named (given_names looped) looped.statements ≡ 20 ∷ []
  pub allowed : labels_allowed looped ≡ codes "L20" ∷ codes "L__1" ∷ []
  -- it is translated; where loops are run at least once, with a `do` for each DO
  pub loops : translated false ≡ Some (((record { fors = 2; dos = 0 }, codes "L__1" ∷ codes "L20" ∷ [], in_order) ∷ []) ∷ [])
  pub once : translated true ≡ Some (((record { fors = 0; dos = 2 }, codes "L__1" ∷ codes "L20" ∷ [], in_order) ∷ []) ∷ [])
  -- its made label alone is named from behind
  pub behind : named_ahead (is_among (codes "L20" ∷ [])) in_order ≡ false
  pub ahead : named_ahead (is_among (codes "L__1" ∷ [])) in_order ≡ true
  -- jumps are no loop, and a second made label is none of those that its function may name
  pub no_loop : (loops_of_all (jumping (codes "L__2"))).fors ≡ 0
  pub other_label : are_allowed looped (jumping (codes "L__2")) ≡ false
  -- a `goto` in the statement before which its label stands comes from behind
  pub back : (label : List ℕ) → named_ahead (λ name. false) (mentions_of_all (jumping label)) ≡ false
  -- where there is a transfer and no DO WHILE, a made label may be named, yet from before alone
  pub may_be_named : are_allowed printing (jumping (codes "L__1")) ≡ true
  pub refused : ForwardJumps printing (jumping (codes "L__1")) → ⊥
  pub accepted : ForwardJumps printing (passing (codes "L__1"))

unfoldable pub examples_opened : Unit {0}
unfolding looped printing jumping passing
examples_opened = tt
