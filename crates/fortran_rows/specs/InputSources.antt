-- READ: small programs as trees, one for one those in examples/fortran.
use Rattle.std.specs.Prelude.{[], ◌∷◌, codes, Some, None}
use Rattle.fortran_checks.specs.f_tree.declared.expressions.Expr.{Expr}
use Rattle.fortran_checks.specs.f_tree.declared.expressions.Expr as expr
use Rattle.fortran_checks.specs.f_tree.declared.expressions.BinaryOp.TheVariants as op
use Rattle.fortran_checks.specs.f_tree.declared.statements.Body as body
use Rattle.fortran_checks.specs.f_tree.declared.statements.ListItem as item
use Rattle.fortran_checks.specs.f_tree.declared.statements.ControlValue.TheVariants as value
use Rattle.fortran_checks.specs.f_tree.declared.statements.ControlWord.TheVariants as word
use Rattle.fortran_checks.specs.f_tree.declared.statements.Direction.TheVariants as way
use Rattle.fortran_checks.specs.f_tree.declared.units.FileSet.{FileSet}
use Rattle.fortran_checks.specs.f_tree.declared.statements.UpperBound.TheVariants as upper
use Rattle.fortran_checks.specs.f_tree.declared.statements.LengthSpec.TheVariants as length'
use Rattle.fortran_checks.specs.f_tree.declared.names.Basic.TheVariants.{Integer, Logical, Character}
use Rattle.fortran_rows.specs.WorkedSources.{on_card, labelled, main_program, one_file, num, from_to, I, J, K, M, N, plus, minus, text}

-- examples/fortran/fields_with_blanks.f
unfoldable pub fields_with_blanks : FileSet
fields_with_blanks = one_file (
    main_program (
    on_card 1 (body.Declare (record { basic = Character; length = Some (length'.Value (num 3)) }) (record { name = (codes "a"); dimensions = []; length = None } ∷ record { name = (codes "b"); dimensions = []; length = None } ∷ [])) ∷
    on_card 2 (body.Declare (record { basic = Character; length = Some (length'.Value (num 5)) }) (record { name = (codes "c"); dimensions = []; length = None } ∷ [])) ∷
    on_card 3 (body.Declare (record { basic = Logical; length = None }) (record { name = (codes "p"); dimensions = []; length = None } ∷ record { name = (codes "q"); dimensions = []; length = None } ∷ [])) ∷
    on_card 4 (body.Transfer way.Read (record { word = word.Unit; value = value.Star } ∷ record { word = word.Format; value = value.Label 10 } ∷ []) ((item.Item (expr.Name I)) ∷ (item.Item (expr.Name J)) ∷ (item.Item (expr.Name K)) ∷ (item.Item (expr.Name (codes "l"))) ∷ [])) ∷
    labelled 10 5 (body.Format (codes "(I4,BZ,I4,BN,I4,I2)")) ∷
    on_card 6 (body.Transfer way.Write (record { word = word.Unit; value = value.Star } ∷ record { word = word.Format; value = value.Value (text (codes "(4I6)")) } ∷ []) ((item.Item (expr.Name I)) ∷ (item.Item (expr.Name J)) ∷ (item.Item (expr.Name K)) ∷ (item.Item (expr.Name (codes "l"))) ∷ [])) ∷
    on_card 7 (body.Transfer way.Read (record { word = word.Unit; value = value.Star } ∷ record { word = word.Format; value = value.Label 20 } ∷ []) ((item.Item (expr.Name (codes "a"))) ∷ (item.Item (expr.Name (codes "b"))) ∷ (item.Item (expr.Name (codes "c"))) ∷ [])) ∷
    labelled 20 8 (body.Format (codes "(A2,A5,A)")) ∷
    on_card 9 (body.Transfer way.Write (record { word = word.Unit; value = value.Star } ∷ record { word = word.Format; value = value.Value (text (codes "(A,1X,A,1X,A)")) } ∷ []) ((item.Item (expr.Name (codes "a"))) ∷ (item.Item (expr.Name (codes "b"))) ∷ (item.Item (expr.Name (codes "c"))) ∷ [])) ∷
    on_card 10 (body.Transfer way.Read (record { word = word.Unit; value = value.Star } ∷ record { word = word.Format; value = value.Value (text (codes "(L4,L2,I3)")) } ∷ []) ((item.Item (expr.Name (codes "p"))) ∷ (item.Item (expr.Name (codes "q"))) ∷ (item.Item (expr.Name I)) ∷ [])) ∷
    on_card 11 (body.Transfer way.Write (record { word = word.Unit; value = value.Star } ∷ record { word = word.Format; value = value.Value (text (codes "(2L2,I3)")) } ∷ []) ((item.Item (expr.Name (codes "p"))) ∷ (item.Item (expr.Name (codes "q"))) ∷ (item.Item (expr.Name I)) ∷ [])) ∷
    on_card 12 body.End ∷ []) ∷
    [])

-- examples/fortran/records_and_columns.f
unfoldable pub records_and_columns : FileSet
records_and_columns = one_file (
    main_program (
    on_card 1 (body.Transfer way.Read (record { word = word.Unit; value = value.Star } ∷ record { word = word.Format; value = value.Label 10 } ∷ []) ((item.Item (expr.Name I)) ∷ (item.Item (expr.Name J)) ∷ (item.Item (expr.Name K)) ∷ (item.Item (expr.Name (codes "l"))) ∷ [])) ∷
    labelled 10 2 (body.Format (codes "(2X,I2,T1,I2/I3,TL2,I1)")) ∷
    on_card 3 (body.Transfer way.Write (record { word = word.Unit; value = value.Star } ∷ record { word = word.Format; value = value.Value (text (codes "(4I4)")) } ∷ []) ((item.Item (expr.Name I)) ∷ (item.Item (expr.Name J)) ∷ (item.Item (expr.Name K)) ∷ (item.Item (expr.Name (codes "l"))) ∷ [])) ∷
    on_card 4 (body.Transfer way.Read (record { word = word.Unit; value = value.Star } ∷ record { word = word.Format; value = value.Value (text (codes "(I2)")) } ∷ []) ((item.Item (expr.Name I)) ∷ (item.Item (expr.Name J)) ∷ [])) ∷
    on_card 5 (body.Transfer way.Read (record { word = word.Unit; value = value.Star } ∷ record { word = word.Format; value = value.Star } ∷ []) ((item.Item (expr.Name K)) ∷ [])) ∷
    on_card 6 (body.Transfer way.Write (record { word = word.Unit; value = value.Star } ∷ record { word = word.Format; value = value.Value (text (codes "(3I4)")) } ∷ []) ((item.Item (expr.Name I)) ∷ (item.Item (expr.Name J)) ∷ (item.Item (expr.Name K)) ∷ [])) ∷
    on_card 7 body.End ∷ []) ∷
    [])

-- examples/fortran/values_by_lists.f
unfoldable pub values_by_lists : FileSet
values_by_lists = one_file (
    main_program (
    on_card 1 (body.Declare (record { basic = Integer; length = None }) (record { name = (codes "a"); dimensions = (record { lower = None; upper = upper.Value (num 4) } ∷ []); length = None } ∷ [])) ∷
    on_card 2 (body.Declare (record { basic = Character; length = Some (length'.Value (num 4)) }) (record { name = (codes "s"); dimensions = []; length = None } ∷ record { name = (codes "t"); dimensions = []; length = None } ∷ [])) ∷
    on_card 3 (body.Declare (record { basic = Logical; length = None }) (record { name = (codes "p"); dimensions = []; length = None } ∷ [])) ∷
    on_card 4 (body.Init (record { places = ((item.Item (expr.Name (codes "a"))) ∷ []); values = (record { count = Some (num 4); value = (expr.Minus (num 1)) } ∷ []) } ∷ record { places = ((item.Item (expr.Name J)) ∷ (item.Item (expr.Name K)) ∷ (item.Item (expr.Name M)) ∷ []); values = (record { count = Some (num 3); value = (num 0) } ∷ []) } ∷ [])) ∷
    on_card 5 (body.Transfer way.Read (record { word = word.Unit; value = value.Star } ∷ record { word = word.Format; value = value.Star } ∷ []) ((item.Item (expr.Name I)) ∷ (item.Item (expr.Name J)) ∷ (item.Item (expr.Name K)) ∷ (item.Item (expr.Name (codes "a"))) ∷ [])) ∷
    on_card 6 (body.Transfer way.Write (record { word = word.Unit; value = value.Star } ∷ record { word = word.Format; value = value.Value (text (codes "(7I3)")) } ∷ []) ((item.Item (expr.Name I)) ∷ (item.Item (expr.Name J)) ∷ (item.Item (expr.Name K)) ∷ (item.Item (expr.Name (codes "a"))) ∷ [])) ∷
    on_card 7 (body.Transfer way.Read (record { word = word.Unit; value = value.Star } ∷ record { word = word.Format; value = value.Star } ∷ []) ((item.Item (expr.Name (codes "s"))) ∷ (item.Item (expr.Name (codes "p"))) ∷ (item.Item (expr.Name (codes "t"))) ∷ (item.Item (expr.Name M)) ∷ [])) ∷
    on_card 8 (body.Transfer way.Write (record { word = word.Unit; value = value.Star } ∷ record { word = word.Format; value = value.Value (text (codes "(A,L2,1X,A,I3)")) } ∷ []) ((item.Item (expr.Name (codes "s"))) ∷ (item.Item (expr.Name (codes "p"))) ∷ (item.Item (expr.Name (codes "t"))) ∷ (item.Item (expr.Name M)) ∷ [])) ∷
    on_card 9 (body.Transfer way.Read (record { word = word.Unit; value = value.Star } ∷ record { word = word.Format; value = value.Star } ∷ []) ((item.Loop ((item.Item (expr.Apply (codes "a") ((expr.Name I) ∷ []))) ∷ []) (from_to I (num 1) (num 4))) ∷ [])) ∷
    on_card 10 (body.Transfer way.Write (record { word = word.Unit; value = value.Star } ∷ record { word = word.Format; value = value.Value (text (codes "(4I3)")) } ∷ []) ((item.Item (expr.Name (codes "a"))) ∷ [])) ∷
    on_card 11 body.End ∷ []) ∷
    [])

-- examples/fortran/ends_and_errors.f
unfoldable pub ends_and_errors : FileSet
ends_and_errors = one_file (
    main_program (
    on_card 1 (body.Declare (record { basic = Character; length = Some (length'.Value (num 2)) }) (record { name = (codes "c"); dimensions = []; length = None } ∷ [])) ∷
    on_card 2 (body.Assign (expr.Name N) (num 0)) ∷
    labelled 10 3 (body.Transfer way.Read (record { word = word.Unit; value = value.Star } ∷ record { word = word.Format; value = value.Value (text (codes "(I2)")) } ∷ record { word = word.OnEnd; value = value.Label 20 } ∷ []) ((item.Item (expr.Name K)) ∷ [])) ∷
    on_card 4 (body.Assign (expr.Name N) (plus (expr.Name N) (expr.Name K))) ∷
    on_card 5 (body.Goto 10) ∷
    labelled 20 6 (body.Transfer way.Write (record { word = word.Unit; value = value.Star } ∷ record { word = word.Format; value = value.Value (text (codes "(I4)")) } ∷ []) ((item.Item (expr.Name N)) ∷ [])) ∷
    on_card 7 (body.Assign (expr.Name (codes "c")) (text (codes "1x"))) ∷
    on_card 8 (body.Transfer way.Read (record { word = word.Unit; value = value.Value (expr.Name (codes "c")) } ∷ record { word = word.Format; value = value.Value (text (codes "(I2)")) } ∷ record { word = word.Status; value = value.Value (expr.Name K) } ∷ record { word = word.OnError; value = value.Label 30 } ∷ []) ((item.Item (expr.Name M)) ∷ [])) ∷
    on_card 9 (body.Assign (expr.Name N) (num 0)) ∷
    labelled 30 10 (body.Transfer way.Write (record { word = word.Unit; value = value.Star } ∷ record { word = word.Format; value = value.Value (text (codes "(I4,L2)")) } ∷ []) ((item.Item (expr.Name N)) ∷ (item.Item (expr.Binary op.Greater (expr.Name K) (num 0))) ∷ [])) ∷
    on_card 11 body.End ∷ []) ∷
    [])

-- examples/fortran/sorted_names.f
unfoldable pub sorted_names : FileSet
sorted_names = one_file (
    main_program (
    on_card 1 (body.Declare (record { basic = Character; length = Some (length'.Value (num 8)) }) (record { name = (codes "name"); dimensions = (record { lower = None; upper = upper.Value (num 10) } ∷ []); length = None } ∷ record { name = (codes "t"); dimensions = []; length = None } ∷ [])) ∷
    on_card 2 (body.Declare (record { basic = Integer; length = None }) (record { name = (codes "count"); dimensions = (record { lower = None; upper = upper.Value (num 10) } ∷ []); length = None } ∷ [])) ∷
    on_card 3 (body.Assign (expr.Name (codes "num")) (num 0)) ∷
    labelled 10 4 (body.Transfer way.Read (record { word = word.Unit; value = value.Value (num 5) } ∷ record { word = word.Format; value = value.Label 100 } ∷ record { word = word.OnEnd; value = value.Label 20 } ∷ []) ((item.Item (expr.Apply (codes "name") ((plus (expr.Name (codes "num")) (num 1)) ∷ []))) ∷ (item.Item (expr.Apply (codes "count") ((plus (expr.Name (codes "num")) (num 1)) ∷ []))) ∷ [])) ∷
    on_card 5 (body.Assign (expr.Name (codes "num")) (plus (expr.Name (codes "num")) (num 1))) ∷
    on_card 6 (body.Goto 10) ∷
    labelled 20 7 (body.Do (Some 40) (from_to I (num 1) (minus (expr.Name (codes "num")) (num 1)))) ∷
    on_card 8 (body.Do (Some 30) (from_to J (plus (expr.Name I) (num 1)) (expr.Name (codes "num")))) ∷
    on_card 9 (body.IfOne (expr.Binary op.GreaterOrEqual (expr.Apply (codes "name") ((expr.Name J) ∷ [])) (expr.Apply (codes "name") ((expr.Name I) ∷ []))) (body.Goto 30)) ∷
    on_card 10 (body.Assign (expr.Name (codes "t")) (expr.Apply (codes "name") ((expr.Name I) ∷ []))) ∷
    on_card 11 (body.Assign (expr.Apply (codes "name") ((expr.Name I) ∷ [])) (expr.Apply (codes "name") ((expr.Name J) ∷ []))) ∷
    on_card 12 (body.Assign (expr.Apply (codes "name") ((expr.Name J) ∷ [])) (expr.Name (codes "t"))) ∷
    on_card 13 (body.Assign (expr.Name K) (expr.Apply (codes "count") ((expr.Name I) ∷ []))) ∷
    on_card 14 (body.Assign (expr.Apply (codes "count") ((expr.Name I) ∷ [])) (expr.Apply (codes "count") ((expr.Name J) ∷ []))) ∷
    on_card 15 (body.Assign (expr.Apply (codes "count") ((expr.Name J) ∷ [])) (expr.Name K)) ∷
    labelled 30 16 body.Continue ∷
    labelled 40 17 body.Continue ∷
    on_card 18 (body.Transfer way.Write (record { word = word.Unit; value = value.Value (num 6) } ∷ record { word = word.Format; value = value.Label 110 } ∷ []) ((item.Loop ((item.Item (expr.Apply (codes "name") ((expr.Name I) ∷ []))) ∷ (item.Item (expr.Apply (codes "count") ((expr.Name I) ∷ []))) ∷ []) (from_to I (num 1) (expr.Name (codes "num")))) ∷ [])) ∷
    labelled 100 19 (body.Format (codes "(A8,I4)")) ∷
    labelled 110 20 (body.Format (codes "(1X,A8,I6)")) ∷
    on_card 21 body.End ∷ []) ∷
    [])

unfoldable pub input_sources_opened : Unit {0}
unfolding fields_with_blanks records_and_columns values_by_lists ends_and_errors sorted_names
input_sources_opened = tt
