-- DO WHILE, END DO and IMPLICIT NONE (MIL-STD-1753): small programs as trees, most of them one for one those in examples/fortran.
use Rattle.std.specs.Prelude.{true, [], ◌∷◌, codes, List, Some, None}
use Rattle.fortran_checks.specs.f_tree.declared.expressions.Expr.{Expr}
use Rattle.fortran_checks.specs.f_tree.declared.expressions.Expr as expr
use Rattle.fortran_checks.specs.f_tree.declared.expressions.BinaryOp.TheVariants as op
use Rattle.fortran_checks.specs.f_tree.declared.statements.Body.{Body}
use Rattle.fortran_checks.specs.f_tree.declared.statements.Body as body
use Rattle.fortran_checks.specs.f_tree.declared.statements.ControlValue.TheVariants as value
use Rattle.fortran_checks.specs.f_tree.declared.statements.ControlWord.TheVariants as word
use Rattle.fortran_checks.specs.f_tree.declared.statements.Direction.TheVariants as way
use Rattle.fortran_checks.specs.f_tree.declared.units.FileSet.{FileSet}
use Rattle.fortran_checks.specs.f_tree.Values.{Bytes}
use Rattle.fortran_rows.specs.WorkedSources.{on_card, labelled, items, print, main_program, one_file, integer_function, integer_type, logical_type, num, up_to, scalar, array, from_to, I, J, K, M, N, plus, minus, times, text}

-- WRITE on the standard unit by a format, and a list
abbrev pub written : Bytes → List Expr → Body
written format es =
    body.Transfer way.Write (record { word = word.Unit; value = value.Star } ∷ record { word = word.Format; value = value.Value (text format) } ∷ []) (items es)

abbrev pub less : Expr → Expr → Expr
less = expr.Binary op.Less

abbrev pub greater : Expr → Expr → Expr
greater = expr.Binary op.Greater

-- `J=0`, `DO WHILE (J.LT.3)`, `J=J+1`, `END DO`, `PRINT *,J`, `END`
unfoldable pub counted_while : FileSet
counted_while = one_file (main_program (
    on_card 1 (body.Assign (expr.Name J) (num 0)) ∷
    on_card 2 (body.DoWhile None (less (expr.Name J) (num 3))) ∷
    on_card 3 (body.Assign (expr.Name J) (plus (expr.Name J) (num 1))) ∷
    on_card 4 body.EndDo ∷
    on_card 5 (print (expr.Name J ∷ [])) ∷
    on_card 6 body.End ∷ []) ∷ [])

-- examples/fortran/while_without_label.f
unfoldable pub while_without_label : FileSet
while_without_label = one_file (main_program (
    on_card 1 (body.Assign (expr.Name J) (num 0)) ∷
    on_card 2 (body.DoWhile None (less (expr.Name J) (num 3))) ∷
    on_card 3 (body.Assign (expr.Name J) (plus (expr.Name J) (num 1))) ∷
    on_card 4 body.EndDo ∷
    on_card 5 (written (codes "(I3)") (expr.Name J ∷ [])) ∷
    on_card 6 (body.DoWhile None (less (expr.Name J) (num 3))) ∷
    on_card 7 (body.Assign (expr.Name J) (num 0)) ∷
    on_card 8 body.EndDo ∷
    on_card 9 (written (codes "(I3)") (expr.Name J ∷ [])) ∷
    on_card 10 body.End ∷ []) ∷ [])

-- examples/fortran/while_with_label.f
unfoldable pub while_with_label : FileSet
while_with_label = one_file (main_program (
    on_card 1 (body.Assign (expr.Name N) (num 1)) ∷
    on_card 2 (body.Assign (expr.Name K) (num 0)) ∷
    on_card 3 (body.DoWhile (Some 10) (less (expr.Name N) (num 100))) ∷
    on_card 4 (body.Assign (expr.Name N) (times (expr.Name N) (num 3))) ∷
    labelled 10 5 (body.Assign (expr.Name K) (plus (expr.Name K) (num 1))) ∷
    on_card 6 (written (codes "(2I4)") (expr.Name N ∷ expr.Name K ∷ [])) ∷
    on_card 7 (body.DoWhile (Some 20) (greater (expr.Name K) (num 0))) ∷
    on_card 8 (body.Assign (expr.Name K) (minus (expr.Name K) (num 2))) ∷
    labelled 20 9 body.Continue ∷
    on_card 10 (written (codes "(2I4)") (expr.Name N ∷ expr.Name K ∷ [])) ∷
    on_card 11 (body.DoWhile (Some 30) (less (expr.Name K) (num 3))) ∷
    on_card 12 (body.Assign (expr.Name K) (plus (expr.Name K) (num 1))) ∷
    labelled 30 13 body.EndDo ∷
    on_card 14 (written (codes "(2I4)") (expr.Name N ∷ expr.Name K ∷ [])) ∷
    on_card 15 (body.DoWhile (Some 40) (less (expr.Name K) (num 3))) ∷
    labelled 40 16 (body.Assign (expr.Name K) (num 0)) ∷
    on_card 17 (written (codes "(2I4)") (expr.Name N ∷ expr.Name K ∷ [])) ∷
    on_card 18 body.End ∷ []) ∷ [])

-- examples/fortran/while_with_a_function.f
unfoldable pub while_with_a_function : FileSet
while_with_a_function = one_file (
    main_program (
    on_card 1 (body.Assign (expr.Name K) (num 3)) ∷
    on_card 2 (body.Assign (expr.Name N) (num 0)) ∷
    on_card 3 (body.DoWhile None (greater (expr.Apply (codes "next") (expr.Name K ∷ [])) (num 0))) ∷
    on_card 4 (body.Assign (expr.Name N) (plus (times (expr.Name N) (num 10)) (expr.Name K))) ∷
    on_card 5 body.EndDo ∷
    on_card 6 (written (codes "(2I5)") (expr.Name K ∷ expr.Name N ∷ [])) ∷
    on_card 7 body.End ∷ []) ∷
    integer_function (codes "next") (M ∷ []) (
    on_card 9 (body.Assign (expr.Name M) (minus (expr.Name M) (num 1))) ∷
    on_card 10 (body.Assign (expr.Name (codes "next")) (expr.Name M)) ∷
    on_card 11 body.End ∷ []) ∷ [])

-- examples/fortran/while_left_by_a_branch.f
unfoldable pub while_left_by_a_branch : FileSet
while_left_by_a_branch = one_file (main_program (
    on_card 1 (body.Assign (expr.Name N) (num 0)) ∷
    on_card 2 (body.DoWhile None (expr.Logical true)) ∷
    on_card 3 (body.Assign (expr.Name N) (plus (expr.Name N) (num 1))) ∷
    on_card 4 (body.IfOne (greater (times (expr.Name N) (expr.Name N)) (num 50)) (body.Goto 10)) ∷
    on_card 5 body.EndDo ∷
    labelled 10 6 (written (codes "(I3)") (expr.Name N ∷ [])) ∷
    on_card 7 (body.Do (Some 30) (from_to I (num 1) (num 3))) ∷
    on_card 8 (body.Assign (expr.Name K) (num 0)) ∷
    on_card 9 (body.DoWhile None (less (expr.Name K) (num 5))) ∷
    on_card 10 (body.Assign (expr.Name K) (plus (expr.Name K) (expr.Name I))) ∷
    on_card 11 (body.IfOne (expr.Binary op.Equal (expr.Name K) (num 4)) (body.Goto 30)) ∷
    on_card 12 body.EndDo ∷
    on_card 13 (body.Assign (expr.Name N) (plus (expr.Name N) (times (expr.Name K) (num 10)))) ∷
    labelled 30 14 (body.Assign (expr.Name N) (plus (expr.Name N) (num 100))) ∷
    on_card 15 (written (codes "(3I5)") (expr.Name I ∷ expr.Name K ∷ expr.Name N ∷ [])) ∷
    on_card 16 body.End ∷ []) ∷ [])

-- examples/fortran/while_that_shares_its_end.f
unfoldable pub while_that_shares_its_end : FileSet
while_that_shares_its_end = one_file (main_program (
    on_card 1 (body.Assign (expr.Name N) (num 0)) ∷
    on_card 2 (body.Do (Some 10) (from_to I (num 1) (num 3))) ∷
    on_card 3 (body.Assign (expr.Name J) (num 0)) ∷
    on_card 4 (body.DoWhile (Some 10) (less (expr.Name J) (expr.Name I))) ∷
    on_card 5 (body.Assign (expr.Name J) (plus (expr.Name J) (num 1))) ∷
    labelled 10 6 (body.Assign (expr.Name N) (plus (expr.Name N) (expr.Name J))) ∷
    on_card 7 (written (codes "(3I4)") (expr.Name I ∷ expr.Name J ∷ expr.Name N ∷ [])) ∷
    on_card 8 (body.Assign (expr.Name K) (num 0)) ∷
    on_card 9 (body.DoWhile (Some 20) (less (expr.Name K) (num 2))) ∷
    on_card 10 (body.Assign (expr.Name K) (plus (expr.Name K) (num 1))) ∷
    on_card 11 (body.Do (Some 20) (from_to J (num 1) (num 2))) ∷
    labelled 20 12 (body.Assign (expr.Name N) (plus (expr.Name N) (times (num 100) (expr.Name K)))) ∷
    on_card 13 (written (codes "(3I4)") (expr.Name K ∷ expr.Name J ∷ expr.Name N ∷ [])) ∷
    on_card 14 body.End ∷ []) ∷ [])

-- examples/fortran/loops_by_end_do.f
unfoldable pub loops_by_end_do : FileSet
loops_by_end_do = one_file (main_program (
    on_card 1 (body.Assign (expr.Name N) (num 0)) ∷
    on_card 2 (body.Do None (from_to I (num 1) (num 3))) ∷
    on_card 3 (body.Do None (from_to J (expr.Name I) (num 3))) ∷
    on_card 4 (body.Assign (expr.Name N) (plus (expr.Name N) (num 1))) ∷
    on_card 5 body.EndDo ∷
    on_card 6 (body.Assign (expr.Name N) (plus (expr.Name N) (num 10))) ∷
    on_card 7 body.EndDo ∷
    on_card 8 (written (codes "(3I5)") (expr.Name I ∷ expr.Name J ∷ expr.Name N ∷ [])) ∷
    on_card 9 (body.Do (Some 10) (record { variable = K; first = num 1; limit = num 5; step = Some (num 2) })) ∷
    on_card 10 (body.Assign (expr.Name N) (plus (expr.Name N) (expr.Name K))) ∷
    labelled 10 11 body.EndDo ∷
    on_card 12 (written (codes "(2I5)") (expr.Name K ∷ expr.Name N ∷ [])) ∷
    on_card 13 (body.Do (Some 20) (from_to I (num 1) (num 2))) ∷
    on_card 14 (body.Do None (from_to J (num 1) (num 2))) ∷
    on_card 15 (body.IfOne (expr.Binary op.Equal (expr.Name J) (num 2)) (body.Goto 15)) ∷
    on_card 16 (body.Assign (expr.Name N) (plus (expr.Name N) (num 100))) ∷
    labelled 15 17 body.EndDo ∷
    on_card 18 (body.Assign (expr.Name N) (plus (expr.Name N) (num 1000))) ∷
    labelled 20 19 body.EndDo ∷
    on_card 20 (written (codes "(3I5)") (expr.Name I ∷ expr.Name J ∷ expr.Name N ∷ [])) ∷
    on_card 21 (body.Do None (from_to K (num 2) (num 1))) ∷
    on_card 22 (body.Assign (expr.Name N) (num 0)) ∷
    on_card 23 body.EndDo ∷
    on_card 24 (written (codes "(2I5)") (expr.Name K ∷ expr.Name N ∷ [])) ∷
    on_card 25 body.End ∷ []) ∷ [])

-- examples/fortran/every_name_declared.f
unfoldable pub every_name_declared : FileSet
every_name_declared =
    let a : Bytes = codes "a" in
    let l : Bytes = codes "l" in
    one_file (main_program (
    on_card 1 body.ImplicitNone ∷
    on_card 2 (body.Declare integer_type (scalar I ∷ array a (up_to 3 ∷ []) ∷ [])) ∷
    on_card 3 (body.Declare logical_type (scalar l ∷ [])) ∷
    on_card 4 (body.Assign (expr.Name l) (expr.Logical true)) ∷
    on_card 5 (body.Do None (from_to I (num 1) (num 3))) ∷
    on_card 6 (body.Assign (expr.Apply a (expr.Name I ∷ [])) (times (expr.Name I) (expr.Name I))) ∷
    on_card 7 body.EndDo ∷
    on_card 8 (written (codes "(3I3,L2)") (expr.Name a ∷ expr.Name l ∷ [])) ∷
    on_card 9 body.End ∷ []) ∷ [])

unfoldable pub loops_sources_opened : Unit {0}
unfolding counted_while while_without_label while_with_label while_with_a_function while_left_by_a_branch while_that_shares_its_end loops_by_end_do every_name_declared
loops_sources_opened = tt
