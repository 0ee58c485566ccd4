-- Transfers, storage and texts: small programs as trees, each for one worked run.
use Rattle.std.specs.Prelude.{false, [], ◌∷◌, codes, Some, None}
use Rattle.fortran_checks.specs.f_tree.declared.expressions.Expr.{Expr}
use Rattle.fortran_checks.specs.f_tree.declared.expressions.Expr as expr
use Rattle.fortran_checks.specs.f_tree.declared.expressions.BinaryOp.TheVariants as op
use Rattle.fortran_checks.specs.f_tree.declared.statements.Body as body
use Rattle.fortran_checks.specs.f_tree.declared.statements.ListItem as item
use Rattle.fortran_checks.specs.f_tree.declared.statements.ControlValue.TheVariants as value
use Rattle.fortran_checks.specs.f_tree.declared.statements.ControlWord.TheVariants as word
use Rattle.fortran_checks.specs.f_tree.declared.statements.Direction.TheVariants as way
use Rattle.fortran_checks.specs.f_tree.declared.statements.UnitKind.TheVariants as kind
use Rattle.fortran_checks.specs.f_tree.declared.units.FileSet.{FileSet}
use Rattle.fortran_checks.specs.f_tree.declared.statements.UpperBound.TheVariants as upper
use Rattle.fortran_checks.specs.f_tree.declared.statements.AuxiliaryKind.TheVariants as auxiliary
use Rattle.fortran_checks.specs.f_tree.declared.statements.LengthSpec.TheVariants as length'
use Rattle.fortran_checks.specs.f_tree.declared.names.Basic.TheVariants.{Integer, Logical, Character}
use Rattle.fortran_checks.specs.f_tree.Setting.{Setting}
use Rattle.fortran_rows.specs.WorkedSources.{on_card, labelled, print, main_program, one_file, num, from_to, I, J, K, M, N, plus, minus, times, text}

-- `PRINT *,'AB                                                       CD'`, `END`
unfoldable pub text_continued : FileSet
text_continued = one_file (
    main_program (
    on_card 1 (print ((text (codes "AB                                                       CD")) ∷ [])) ∷
    on_card 2 body.End ∷ []) ∷
    [])

-- `I=1`, `I=I+1+1+1+1+1+1+1+1+1+1+1+1+1+1+1+1+1+1+1`, `PRINT *,I`, `END`
unfoldable pub many_continuations : FileSet
many_continuations = one_file (
    main_program (
    on_card 1 (body.Assign (expr.Name I) (num 1)) ∷
    on_card 2 (body.Assign (expr.Name I) (plus (plus (plus (plus (plus (plus (plus (plus (plus (plus (plus (plus (plus (plus (plus (plus (plus (plus (plus (expr.Name I) (num 1)) (num 1)) (num 1)) (num 1)) (num 1)) (num 1)) (num 1)) (num 1)) (num 1)) (num 1)) (num 1)) (num 1)) (num 1)) (num 1)) (num 1)) (num 1)) (num 1)) (num 1)) (num 1))) ∷
    on_card 3 (print ((expr.Name I) ∷ [])) ∷
    on_card 4 body.End ∷ []) ∷
    [])

-- `WRITE (6,10) 1,2,3,4,5,6,7,8,9`, label 10 `FORMAT (I3,2(1X,I2.2)/)`, `WRITE (6,'(I3)') 1234`, `WRITE (6,'(A5)') 'ABC','ABCDEFGH'`, `END`
unfoldable pub reversion_and_fields : FileSet
reversion_and_fields = one_file (
    main_program (
    on_card 1 (body.Transfer way.Write (record { word = word.Unit; value = value.Value (num 6) } ∷ record { word = word.Format; value = value.Label 10 } ∷ []) ((item.Item (num 1)) ∷ (item.Item (num 2)) ∷ (item.Item (num 3)) ∷ (item.Item (num 4)) ∷ (item.Item (num 5)) ∷ (item.Item (num 6)) ∷ (item.Item (num 7)) ∷ (item.Item (num 8)) ∷ (item.Item (num 9)) ∷ [])) ∷
    labelled 10 2 (body.Format (codes "(I3,2(1X,I2.2)/)")) ∷
    on_card 3 (body.Transfer way.Write (record { word = word.Unit; value = value.Value (num 6) } ∷ record { word = word.Format; value = value.Value (text (codes "(I3)")) } ∷ []) ((item.Item (num 1234)) ∷ [])) ∷
    on_card 4 (body.Transfer way.Write (record { word = word.Unit; value = value.Value (num 6) } ∷ record { word = word.Format; value = value.Value (text (codes "(A5)")) } ∷ []) ((item.Item (text (codes "ABC"))) ∷ (item.Item (text (codes "ABCDEFGH"))) ∷ [])) ∷
    on_card 5 body.End ∷ []) ∷
    [])

-- `L=8`, `M=9`, `READ *,I,J,K,L,M`, `PRINT *,I,J,K,L,M`, `READ (5,*,IOSTAT=N,END=10) I`, label 10 `PRINT *,N`, `CLOSE (5)`, `READ (5,*,IOSTAT=N) I`, `PRINT *,N`, `END`
unfoldable pub nulls_and_a_slash : FileSet
nulls_and_a_slash = one_file (
    main_program (
    on_card 1 (body.Assign (expr.Name (codes "l")) (num 8)) ∷
    on_card 2 (body.Assign (expr.Name M) (num 9)) ∷
    on_card 3 (body.Transfer way.Read (record { word = word.Unit; value = value.Star } ∷ record { word = word.Format; value = value.Star } ∷ []) ((item.Item (expr.Name I)) ∷ (item.Item (expr.Name J)) ∷ (item.Item (expr.Name K)) ∷ (item.Item (expr.Name (codes "l"))) ∷ (item.Item (expr.Name M)) ∷ [])) ∷
    on_card 4 (print ((expr.Name I) ∷ (expr.Name J) ∷ (expr.Name K) ∷ (expr.Name (codes "l")) ∷ (expr.Name M) ∷ [])) ∷
    on_card 5 (body.Transfer way.Read (record { word = word.Unit; value = value.Value (num 5) } ∷ record { word = word.Format; value = value.Star } ∷ record { word = word.Status; value = value.Value (expr.Name N) } ∷ record { word = word.OnEnd; value = value.Label 10 } ∷ []) ((item.Item (expr.Name I)) ∷ [])) ∷
    labelled 10 6 (print ((expr.Name N) ∷ [])) ∷
    on_card 7 (body.Auxiliary auxiliary.CloseUnit (record { word = word.Unit; value = value.Value (num 5) } ∷ [])) ∷
    on_card 8 (body.Transfer way.Read (record { word = word.Unit; value = value.Value (num 5) } ∷ record { word = word.Format; value = value.Star } ∷ record { word = word.Status; value = value.Value (expr.Name N) } ∷ []) ((item.Item (expr.Name I)) ∷ [])) ∷
    on_card 9 (print ((expr.Name N) ∷ [])) ∷
    on_card 10 body.End ∷ []) ∷
    [])

-- a report on a stock: names are read, ordered and written
unfoldable pub stock_report : FileSet
stock_report = one_file (
    record {
      file = 0;
      card = 2;
      kind = kind.Main;
      name = Some (codes "stock");
      dummies = [];
      statements =
          on_card 3 (body.Declare (record { basic = Character; length = Some (length'.Value (num 8)) }) (record { name = (codes "name"); dimensions = []; length = None } ∷ [])) ∷
          on_card 4 (body.Declare (record { basic = Integer; length = None }) (record { name = (codes "count"); dimensions = []; length = None } ∷ record { name = (codes "total"); dimensions = []; length = None } ∷ [])) ∷
          on_card 5 (body.Common (record { block = Some (codes "names"); items = (record { name = (codes "name"); dimensions = (record { lower = None; upper = upper.Value (num 50) } ∷ []) } ∷ []) } ∷ [])) ∷
          on_card 6 (body.Common (record { block = Some (codes "tab"); items = (record { name = (codes "count"); dimensions = (record { lower = None; upper = upper.Value (num 50) } ∷ []) } ∷ record { name = (codes "num"); dimensions = [] } ∷ []) } ∷ [])) ∷
          on_card 7 (body.Assign (expr.Name (codes "num")) (num 0)) ∷
          labelled 10 8 (body.Transfer way.Read (record { word = word.Unit; value = value.Value (num 5) } ∷ record { word = word.Format; value = value.Label 100 } ∷ record { word = word.OnEnd; value = value.Label 20 } ∷ []) ((item.Item (expr.Apply (codes "name") ((plus (expr.Name (codes "num")) (num 1)) ∷ []))) ∷ (item.Item (expr.Apply (codes "count") ((plus (expr.Name (codes "num")) (num 1)) ∷ []))) ∷ [])) ∷
          on_card 9 (body.Assign (expr.Name (codes "num")) (plus (expr.Name (codes "num")) (num 1))) ∷
          on_card 10 (body.Goto 10) ∷
          labelled 20 11 (body.Call (codes "order") []) ∷
          on_card 12 (body.Assign (expr.Name (codes "total")) (num 0)) ∷
          on_card 13 (body.Do (Some 30) (from_to I (num 1) (expr.Name (codes "num")))) ∷
          on_card 14 (body.Transfer way.Write (record { word = word.Unit; value = value.Value (num 6) } ∷ record { word = word.Format; value = value.Label 110 } ∷ []) ((item.Item (expr.Apply (codes "name") ((expr.Name I) ∷ []))) ∷ (item.Item (expr.Apply (codes "count") ((expr.Name I) ∷ []))) ∷ [])) ∷
          labelled 30 15 (body.Assign (expr.Name (codes "total")) (plus (expr.Name (codes "total")) (expr.Apply (codes "count") ((expr.Name I) ∷ [])))) ∷
          on_card 16 (body.Transfer way.Write (record { word = word.Unit; value = value.Value (num 6) } ∷ record { word = word.Format; value = value.Label 120 } ∷ []) ((item.Item (expr.Name (codes "total"))) ∷ [])) ∷
          on_card 17 (body.Stop []) ∷
          labelled 100 18 (body.Format (codes "(A8,I4)")) ∷
          labelled 110 19 (body.Format (codes "(1X,A8,I6)")) ∷
          labelled 120 20 (body.Format (codes "(' TOTAL',T10,I6)")) ∷
          on_card 21 body.End ∷ [];
    } ∷
    record {
      file = 0;
      card = 22;
      kind = kind.Subroutine;
      name = Some (codes "order");
      dummies = [];
      statements =
          on_card 23 (body.Declare (record { basic = Character; length = Some (length'.Value (num 8)) }) (record { name = (codes "name"); dimensions = []; length = None } ∷ record { name = (codes "t"); dimensions = []; length = None } ∷ [])) ∷
          on_card 24 (body.Declare (record { basic = Integer; length = None }) (record { name = (codes "count"); dimensions = []; length = None } ∷ [])) ∷
          on_card 25 (body.Common (record { block = Some (codes "names"); items = (record { name = (codes "name"); dimensions = (record { lower = None; upper = upper.Value (num 50) } ∷ []) } ∷ []) } ∷ [])) ∷
          on_card 26 (body.Common (record { block = Some (codes "tab"); items = (record { name = (codes "count"); dimensions = (record { lower = None; upper = upper.Value (num 50) } ∷ []) } ∷ record { name = (codes "num"); dimensions = [] } ∷ []) } ∷ [])) ∷
          on_card 27 (body.Do (Some 20) (from_to I (num 1) (minus (expr.Name (codes "num")) (num 1)))) ∷
          on_card 28 (body.Do (Some 10) (from_to J (plus (expr.Name I) (num 1)) (expr.Name (codes "num")))) ∷
          on_card 29 (body.IfOne (expr.Binary op.GreaterOrEqual (expr.Apply (codes "name") ((expr.Name J) ∷ [])) (expr.Apply (codes "name") ((expr.Name I) ∷ []))) (body.Goto 10)) ∷
          on_card 30 (body.Assign (expr.Name (codes "t")) (expr.Apply (codes "name") ((expr.Name I) ∷ []))) ∷
          on_card 31 (body.Assign (expr.Apply (codes "name") ((expr.Name I) ∷ [])) (expr.Apply (codes "name") ((expr.Name J) ∷ []))) ∷
          on_card 32 (body.Assign (expr.Apply (codes "name") ((expr.Name J) ∷ [])) (expr.Name (codes "t"))) ∷
          on_card 33 (body.Assign (expr.Name K) (expr.Apply (codes "count") ((expr.Name I) ∷ []))) ∷
          on_card 34 (body.Assign (expr.Apply (codes "count") ((expr.Name I) ∷ [])) (expr.Apply (codes "count") ((expr.Name J) ∷ []))) ∷
          on_card 35 (body.Assign (expr.Apply (codes "count") ((expr.Name J) ∷ [])) (expr.Name K)) ∷
          labelled 10 36 body.Continue ∷
          labelled 20 37 body.Continue ∷
          on_card 38 body.End ∷ [];
    } ∷
    [])

unfoldable pub stock_report_setting : Setting
stock_report_setting = record {
  homes = ((record { sequence = 0; first = 0 } ∷ record { sequence = 1; first = 0 } ∷ record { sequence = 2; first = 0 } ∷ record { sequence = 1; first = 200 } ∷ record { sequence = 3; first = 0 } ∷ []) ∷ (record { sequence = 0; first = 0 } ∷ record { sequence = 4; first = 0 } ∷ record { sequence = 1; first = 0 } ∷ record { sequence = 1; first = 200 } ∷ record { sequence = 5; first = 0 } ∷ record { sequence = 6; first = 0 } ∷ record { sequence = 7; first = 0 } ∷ []) ∷ []);
  sizes = (400 ∷ 204 ∷ 4 ∷ 4 ∷ 8 ∷ 4 ∷ 4 ∷ 4 ∷ []);
}

-- `CHARACTER*3 S`, `NSQ(K)=K*K`, `WRITE (S,'(I3.3)') NSQ(5)`, `PRINT *,S//'!',INDEX(S,'5'),S(2:3).LT.'3'`, `END`
unfoldable pub digits_of_a_square : FileSet
digits_of_a_square = one_file (
    main_program (
    on_card 1 (body.Declare (record { basic = Character; length = Some (length'.Value (num 3)) }) (record { name = (codes "s"); dimensions = []; length = None } ∷ [])) ∷
    on_card 2 (body.Assign (expr.Apply (codes "nsq") ((expr.Name K) ∷ [])) (times (expr.Name K) (expr.Name K))) ∷
    on_card 3 (body.Transfer way.Write (record { word = word.Unit; value = value.Value (expr.Name (codes "s")) } ∷ record { word = word.Format; value = value.Value (text (codes "(I3.3)")) } ∷ []) ((item.Item (expr.Apply (codes "nsq") ((num 5) ∷ []))) ∷ [])) ∷
    on_card 4 (print ((expr.Binary op.Concatenate (expr.Name (codes "s")) (text (codes "!"))) ∷ (expr.Apply (codes "index") ((expr.Name (codes "s")) ∷ (text (codes "5")) ∷ [])) ∷ (expr.Binary op.Less (expr.Part (expr.Name (codes "s")) (Some (num 2)) (Some (num 3))) (text (codes "3"))) ∷ [])) ∷
    on_card 5 body.End ∷ []) ∷
    [])

-- `READ *,I`, `END`
unfoldable pub nothing_to_read : FileSet
nothing_to_read = one_file (
    main_program (
    on_card 1 (body.Transfer way.Read (record { word = word.Unit; value = value.Star } ∷ record { word = word.Format; value = value.Star } ∷ []) ((item.Item (expr.Name I)) ∷ [])) ∷
    on_card 2 body.End ∷ []) ∷
    [])

-- `LOGICAL L`, `INTEGER A(2,0:1)`, `A(2,1)=MOD(-7,3)`, `L=A(2,1).LT.0.AND..NOT..FALSE.`, `PRINT *,A(2,1),L,MAX(3,9,4)`, `END`
unfoldable pub bounds_from_zero : FileSet
bounds_from_zero = one_file (
    main_program (
    on_card 1 (body.Declare (record { basic = Logical; length = None }) (record { name = (codes "l"); dimensions = []; length = None } ∷ [])) ∷
    on_card 2 (body.Declare (record { basic = Integer; length = None }) (record { name = (codes "a"); dimensions = (record { lower = None; upper = upper.Value (num 2) } ∷ record { lower = Some (num 0); upper = upper.Value (num 1) } ∷ []); length = None } ∷ [])) ∷
    on_card 3 (body.Assign (expr.Apply (codes "a") ((num 2) ∷ (num 1) ∷ [])) (expr.Apply (codes "mod") ((expr.Minus (num 7)) ∷ (num 3) ∷ []))) ∷
    on_card 4 (body.Assign (expr.Name (codes "l")) (expr.Binary op.And (expr.Binary op.Less (expr.Apply (codes "a") ((num 2) ∷ (num 1) ∷ [])) (num 0)) (expr.Not (expr.Logical false)))) ∷
    on_card 5 (print ((expr.Apply (codes "a") ((num 2) ∷ (num 1) ∷ [])) ∷ (expr.Name (codes "l")) ∷ (expr.Apply (codes "max") ((num 3) ∷ (num 9) ∷ (num 4) ∷ [])) ∷ [])) ∷
    on_card 6 body.End ∷ []) ∷
    [])

-- `OPEN (9,FILE='D')`, `WRITE (9,'(A)') 'HI'`, `CLOSE (9)`, `OPEN (9,FILE='D',IOSTAT=N)`, `PRINT *,N`, `END`
unfoldable pub file_opened_twice : FileSet
file_opened_twice = one_file (
    main_program (
    on_card 1 (body.Auxiliary auxiliary.OpenUnit (record { word = word.Unit; value = value.Value (num 9) } ∷ record { word = word.File; value = value.Value (text (codes "D")) } ∷ [])) ∷
    on_card 2 (body.Transfer way.Write (record { word = word.Unit; value = value.Value (num 9) } ∷ record { word = word.Format; value = value.Value (text (codes "(A)")) } ∷ []) ((item.Item (text (codes "HI"))) ∷ [])) ∷
    on_card 3 (body.Auxiliary auxiliary.CloseUnit (record { word = word.Unit; value = value.Value (num 9) } ∷ [])) ∷
    on_card 4 (body.Auxiliary auxiliary.OpenUnit (record { word = word.Unit; value = value.Value (num 9) } ∷ record { word = word.File; value = value.Value (text (codes "D")) } ∷ record { word = word.Status; value = value.Value (expr.Name N) } ∷ [])) ∷
    on_card 5 (print ((expr.Name N) ∷ [])) ∷
    on_card 6 body.End ∷ []) ∷
    [])

unfoldable pub transfer_sources_opened : Unit {0}
unfolding file_opened_twice text_continued many_continuations reversion_and_fields nulls_and_a_slash stock_report stock_report_setting digits_of_a_square nothing_to_read bounds_from_zero
transfer_sources_opened = tt
