-- Loops, branches and blocks: small programs as trees, one for one those in examples/fortran.
use Rattle.std.specs.Prelude.{[], ◌∷◌, codes, Some}
use Rattle.fortran_checks.specs.f_tree.declared.expressions.Expr.{Expr}
use Rattle.fortran_checks.specs.f_tree.declared.expressions.Expr as expr
use Rattle.fortran_checks.specs.f_tree.declared.expressions.BinaryOp.TheVariants as op
use Rattle.fortran_checks.specs.f_tree.declared.statements.Body as body
use Rattle.fortran_checks.specs.f_tree.declared.statements.ListItem as item
use Rattle.fortran_checks.specs.f_tree.declared.statements.ControlValue.TheVariants as value
use Rattle.fortran_checks.specs.f_tree.declared.statements.ControlWord.TheVariants as word
use Rattle.fortran_checks.specs.f_tree.declared.statements.Direction.TheVariants as way
use Rattle.fortran_checks.specs.f_tree.declared.statements.UnitKind.TheVariants as kind
use Rattle.fortran_checks.specs.f_tree.declared.statements.DummyArgument.TheVariants as dummy
use Rattle.fortran_checks.specs.f_tree.declared.units.FileSet.{FileSet}
use Rattle.fortran_rows.specs.WorkedSources.{on_card, labelled, main_program, one_file, num, from_to, I, J, K, N, plus, minus, times, text}

-- examples/fortran/loops_that_share_their_end.f
unfoldable pub loops_that_share_their_end : FileSet
loops_that_share_their_end = one_file (
    main_program (
    on_card 1 (body.Assign (expr.Name N) (num 0)) ∷
    on_card 2 (body.Do (Some 10) (from_to I (num 1) (num 3))) ∷
    on_card 3 (body.Do (Some 10) (from_to J (num 1) (num 3))) ∷
    on_card 4 (body.IfOne (expr.Binary op.Equal (expr.Name J) (num 2)) (body.Goto 10)) ∷
    on_card 5 (body.Assign (expr.Name N) (plus (plus (expr.Name N) (times (num 10) (expr.Name I))) (expr.Name J))) ∷
    labelled 10 6 body.Continue ∷
    on_card 7 (body.Transfer way.Write (record { word = word.Unit; value = value.Star } ∷ record { word = word.Format; value = value.Value (text (codes "(3I5)")) } ∷ []) ((item.Item (expr.Name I)) ∷ (item.Item (expr.Name J)) ∷ (item.Item (expr.Name N)) ∷ [])) ∷
    on_card 8 body.End ∷ []) ∷
    [])

-- examples/fortran/jumps_out_of_loops.f
unfoldable pub jumps_out_of_loops : FileSet
jumps_out_of_loops = one_file (
    main_program (
    on_card 1 (body.Do (Some 20) (from_to I (num 1) (num 5))) ∷
    on_card 2 (body.Do (Some 10) (from_to J (num 1) (num 5))) ∷
    on_card 3 (body.IfOne (expr.Binary op.Equal (times (expr.Name I) (expr.Name J)) (num 12)) (body.Goto 30)) ∷
    labelled 10 4 body.Continue ∷
    labelled 20 5 body.Continue ∷
    labelled 30 6 (body.Transfer way.Write (record { word = word.Unit; value = value.Star } ∷ record { word = word.Format; value = value.Value (text (codes "(2I3)")) } ∷ []) ((item.Item (expr.Name I)) ∷ (item.Item (expr.Name J)) ∷ [])) ∷
    on_card 7 (body.Assign (expr.Name K) (num 0)) ∷
    on_card 8 (body.Do (Some 40) (from_to I (num 1) (num 4))) ∷
    on_card 9 (body.IfOne (expr.Binary op.Equal (expr.Name I) (num 3)) (body.Goto 50)) ∷
    labelled 40 10 (body.Assign (expr.Name K) (plus (expr.Name K) (expr.Name I))) ∷
    labelled 50 11 (body.Do (Some 60) (from_to I (expr.Name I) (plus (expr.Name I) (num 1)))) ∷
    labelled 60 12 (body.Assign (expr.Name K) (plus (expr.Name K) (times (num 100) (expr.Name I)))) ∷
    on_card 13 (body.Transfer way.Write (record { word = word.Unit; value = value.Star } ∷ record { word = word.Format; value = value.Value (text (codes "(2I5)")) } ∷ []) ((item.Item (expr.Name I)) ∷ (item.Item (expr.Name K)) ∷ [])) ∷
    on_card 14 body.End ∷ []) ∷
    [])

-- examples/fortran/limits_valued_once.f
unfoldable pub limits_valued_once : FileSet
limits_valued_once = one_file (
    main_program (
    on_card 1 (body.Assign (expr.Name N) (num 3)) ∷
    on_card 2 (body.Assign (expr.Name K) (num 0)) ∷
    on_card 3 (body.Do (Some 10) (from_to I (num 1) (expr.Name N))) ∷
    on_card 4 (body.Assign (expr.Name N) (num 10)) ∷
    labelled 10 5 (body.Assign (expr.Name K) (plus (expr.Name K) (expr.Name I))) ∷
    on_card 6 (body.Transfer way.Write (record { word = word.Unit; value = value.Star } ∷ record { word = word.Format; value = value.Value (text (codes "(3I4)")) } ∷ []) ((item.Item (expr.Name I)) ∷ (item.Item (expr.Name N)) ∷ (item.Item (expr.Name K)) ∷ [])) ∷
    on_card 7 (body.Do (Some 20) (record { variable = I; first = (num 10); limit = (num 1); step = Some (expr.Minus (num 4)) })) ∷
    labelled 20 8 (body.Assign (expr.Name K) (plus (expr.Name K) (expr.Name I))) ∷
    on_card 9 (body.Transfer way.Write (record { word = word.Unit; value = value.Star } ∷ record { word = word.Format; value = value.Value (text (codes "(2I4)")) } ∷ []) ((item.Item (expr.Name I)) ∷ (item.Item (expr.Name K)) ∷ [])) ∷
    on_card 10 (body.Do (Some 30) (from_to I (num 2) (num 1))) ∷
    labelled 30 11 (body.Assign (expr.Name K) (num 0)) ∷
    on_card 12 (body.Transfer way.Write (record { word = word.Unit; value = value.Star } ∷ record { word = word.Format; value = value.Value (text (codes "(2I4)")) } ∷ []) ((item.Item (expr.Name I)) ∷ (item.Item (expr.Name K)) ∷ [])) ∷
    on_card 13 body.End ∷ []) ∷
    [])

-- examples/fortran/branches_by_number.f
unfoldable pub branches_by_number : FileSet
branches_by_number = one_file (
    main_program (
    on_card 1 (body.Do (Some 50) (from_to I (num 0) (num 4))) ∷
    on_card 2 (body.GotoList (10 ∷ 20 ∷ 30 ∷ []) (expr.Name I)) ∷
    on_card 3 (body.Assign (expr.Name K) (num 0)) ∷
    on_card 4 (body.Goto 40) ∷
    labelled 10 5 (body.Assign (expr.Name K) (num 1)) ∷
    on_card 6 (body.Goto 40) ∷
    labelled 20 7 (body.Assign (expr.Name K) (num 2)) ∷
    on_card 8 (body.Goto 40) ∷
    labelled 30 9 (body.Assign (expr.Name K) (num 3)) ∷
    labelled 40 10 (body.IfSign (minus (expr.Name K) (num 1)) 41 42 43) ∷
    labelled 41 11 (body.Assign (expr.Name (codes "l")) (expr.Minus (num 1))) ∷
    on_card 12 (body.Goto 50) ∷
    labelled 42 13 (body.Assign (expr.Name (codes "l")) (num 0)) ∷
    on_card 14 (body.Goto 50) ∷
    labelled 43 15 (body.Assign (expr.Name (codes "l")) (num 1)) ∷
    labelled 50 16 (body.Transfer way.Write (record { word = word.Unit; value = value.Star } ∷ record { word = word.Format; value = value.Value (text (codes "(3I3)")) } ∷ []) ((item.Item (expr.Name I)) ∷ (item.Item (expr.Name K)) ∷ (item.Item (expr.Name (codes "l"))) ∷ [])) ∷
    on_card 17 body.End ∷ []) ∷
    [])

-- examples/fortran/assigned_branches.f
unfoldable pub assigned_branches : FileSet
assigned_branches = one_file (
    main_program (
    on_card 1 (body.AssignLabel 10 K) ∷
    on_card 2 (body.Assign (expr.Name N) (num 0)) ∷
    labelled 10 3 (body.Assign (expr.Name N) (plus (expr.Name N) (num 1))) ∷
    on_card 4 (body.IfOne (expr.Binary op.Equal (expr.Name N) (num 2)) (body.AssignLabel 20 K)) ∷
    on_card 5 (body.IfOne (expr.Binary op.Equal (expr.Name N) (num 3)) (body.AssignLabel 30 K)) ∷
    on_card 6 (body.GotoName K (10 ∷ 20 ∷ 30 ∷ [])) ∷
    labelled 20 7 (body.Assign (expr.Name N) (times (expr.Name N) (num 10))) ∷
    on_card 8 (body.AssignLabel 30 K) ∷
    on_card 9 (body.GotoName K []) ∷
    labelled 30 10 (body.Transfer way.Write (record { word = word.Unit; value = value.Star } ∷ record { word = word.Format; value = value.Value (text (codes "(I4)")) } ∷ []) ((item.Item (expr.Name N)) ∷ [])) ∷
    on_card 11 body.End ∷ []) ∷
    [])

-- examples/fortran/goto_without_labels.f
unfoldable pub goto_without_labels : FileSet
goto_without_labels = one_file (
    main_program (
    on_card 1 (body.Goto 40) ∷
    labelled 10 2 (body.Assign (expr.Name N) (expr.Name I)) ∷
    on_card 3 (body.Goto 30) ∷
    labelled 20 4 (body.Assign (expr.Name N) (expr.Minus (expr.Name I))) ∷
    labelled 30 5 (body.Transfer way.Write (record { word = word.Unit; value = value.Star } ∷ record { word = word.Format; value = value.Value (text (codes "(2I4)")) } ∷ []) ((item.Item (expr.Name I)) ∷ (item.Item (expr.Name N)) ∷ [])) ∷
    on_card 6 (body.Assign (expr.Name I) (plus (expr.Name I) (num 1))) ∷
    on_card 7 (body.IfOne (expr.Binary op.Greater (expr.Name I) (num 4)) (body.AssignLabel 60 K)) ∷
    on_card 8 (body.GotoName K []) ∷
    labelled 40 9 (body.Assign (expr.Name I) (num 1)) ∷
    on_card 10 (body.AssignLabel 50 K) ∷
    on_card 11 (body.GotoName K []) ∷
    labelled 50 12 (body.IfOne (expr.Binary op.Less (expr.Name I) (num 3)) (body.AssignLabel 10 (codes "l"))) ∷
    on_card 13 (body.IfOne (expr.Binary op.Equal (expr.Name I) (num 3)) (body.AssignLabel 20 (codes "l"))) ∷
    on_card 14 (body.IfOne (expr.Binary op.Greater (expr.Name I) (num 0)) (body.GotoName (codes "l") [])) ∷
    labelled 60 15 body.Continue ∷
    on_card 16 body.End ∷ []) ∷
    [])

-- examples/fortran/blocks_in_blocks.f
unfoldable pub blocks_in_blocks : FileSet
blocks_in_blocks = one_file (
    main_program (
    on_card 1 (body.Do (Some 10) (from_to I (num 1) (num 4))) ∷
    on_card 2 (body.IfThen (expr.Binary op.LessOrEqual (expr.Name I) (num 2))) ∷
    on_card 3 (body.IfThen (expr.Binary op.Equal (expr.Name I) (num 1))) ∷
    on_card 4 (body.Assign (expr.Name K) (num 1)) ∷
    on_card 5 body.Else ∷
    on_card 6 (body.Assign (expr.Name K) (num 2)) ∷
    on_card 7 body.EndIf ∷
    on_card 8 (body.ElseIf (expr.Binary op.Equal (expr.Name I) (num 3))) ∷
    on_card 9 (body.Assign (expr.Name K) (num 3)) ∷
    on_card 10 body.Else ∷
    on_card 11 (body.Do (Some 5) (from_to J (num 1) (num 3))) ∷
    labelled 5 12 (body.Assign (expr.Name K) (plus (expr.Name K) (expr.Name J))) ∷
    on_card 13 body.EndIf ∷
    labelled 10 14 (body.Transfer way.Write (record { word = word.Unit; value = value.Star } ∷ record { word = word.Format; value = value.Value (text (codes "(2I3)")) } ∷ []) ((item.Item (expr.Name I)) ∷ (item.Item (expr.Name K)) ∷ [])) ∷
    on_card 15 body.End ∷ []) ∷
    [])

-- examples/fortran/jumps_to_the_outer_loop.f
unfoldable pub jumps_to_the_outer_loop : FileSet
jumps_to_the_outer_loop = one_file (
    main_program (
    on_card 1 (body.Assign (expr.Name N) (num 0)) ∷
    on_card 2 (body.Do (Some 20) (from_to I (num 1) (num 3))) ∷
    on_card 3 (body.Do (Some 10) (from_to J (num 1) (num 3))) ∷
    on_card 4 (body.IfOne (expr.Binary op.Equal (expr.Name J) (expr.Name I)) (body.Goto 15)) ∷
    labelled 10 5 (body.Assign (expr.Name N) (plus (expr.Name N) (num 1))) ∷
    labelled 15 6 (body.Assign (expr.Name N) (plus (expr.Name N) (times (num 10) (expr.Name J)))) ∷
    labelled 20 7 body.Continue ∷
    on_card 8 (body.Transfer way.Write (record { word = word.Unit; value = value.Star } ∷ record { word = word.Format; value = value.Value (text (codes "(3I4)")) } ∷ []) ((item.Item (expr.Name I)) ∷ (item.Item (expr.Name J)) ∷ (item.Item (expr.Name N)) ∷ [])) ∷
    on_card 9 body.End ∷ []) ∷
    [])

-- examples/fortran/returns_into_a_loop.f
unfoldable pub returns_into_a_loop : FileSet
returns_into_a_loop = one_file (
    main_program (
    on_card 1 (body.Assign (expr.Name K) (num 0)) ∷
    on_card 2 (body.Do (Some 30) (from_to I (num 1) (num 3))) ∷
    on_card 3 (body.IfThen (expr.Binary op.Equal (expr.Name I) (num 2))) ∷
    on_card 4 (body.Do (Some 10) (from_to J (num 1) (num 2))) ∷
    on_card 5 (body.IfOne (expr.Binary op.Equal (expr.Name J) (num 2)) (body.Goto 20)) ∷
    labelled 10 6 (body.Assign (expr.Name K) (plus (expr.Name K) (num 1))) ∷
    labelled 20 7 (body.Assign (expr.Name K) (plus (expr.Name K) (num 10))) ∷
    on_card 8 (body.ElseIf (expr.Binary op.Equal (expr.Name I) (num 3))) ∷
    on_card 9 (body.Call (codes "s") ((expr.Name I) ∷ (expr.AltReturn 30) ∷ (expr.AltReturn 40) ∷ [])) ∷
    on_card 10 (body.Assign (expr.Name K) (plus (expr.Name K) (num 100))) ∷
    on_card 11 body.EndIf ∷
    on_card 12 (body.Assign (expr.Name K) (plus (expr.Name K) (num 1000))) ∷
    labelled 30 13 body.Continue ∷
    on_card 14 (body.Assign (expr.Name K) (plus (expr.Name K) (num 10000))) ∷
    labelled 40 15 (body.Transfer way.Write (record { word = word.Unit; value = value.Star } ∷ record { word = word.Format; value = value.Value (text (codes "(2I6)")) } ∷ []) ((item.Item (expr.Name I)) ∷ (item.Item (expr.Name K)) ∷ [])) ∷
    on_card 16 (body.IfOne (expr.Binary op.Equal (expr.Name I) (num 4)) (body.Call (codes "s") ((expr.Name I) ∷ (expr.AltReturn 40) ∷ (expr.AltReturn 50) ∷ []))) ∷
    on_card 17 (body.Assign (expr.Name K) (num 0)) ∷
    labelled 50 18 (body.Transfer way.Write (record { word = word.Unit; value = value.Star } ∷ record { word = word.Format; value = value.Value (text (codes "(2I6)")) } ∷ []) ((item.Item (expr.Name I)) ∷ (item.Item (expr.Name K)) ∷ [])) ∷
    on_card 19 body.End ∷ []) ∷
    record {
      file = 0;
      card = 20;
      kind = kind.Subroutine;
      name = Some (codes "s");
      dummies = (dummy.Named N ∷ dummy.AlternateReturn ∷ dummy.AlternateReturn ∷ []);
      statements =
          on_card 21 (body.Do (Some 10) (from_to I (num 1) (expr.Name N))) ∷
          labelled 10 22 (body.IfOne (expr.Binary op.Equal (expr.Name I) (minus (expr.Name N) (num 2))) (body.Return (Some (minus (expr.Name N) (num 2))))) ∷
          on_card 23 body.End ∷ [];
    } ∷
    [])

unfoldable pub control_sources_opened : Unit {0}
unfolding loops_that_share_their_end jumps_out_of_loops limits_valued_once branches_by_number assigned_branches goto_without_labels blocks_in_blocks jumps_to_the_outer_loop returns_into_a_loop
control_sources_opened = tt
