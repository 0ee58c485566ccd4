-- Transfers, storage and texts: small programs as trees, each for one worked run.
use Rattle.std.specs.Prelude.{[], ◌∷◌, codes, Some, None}
use Rattle.fortran_checks.specs.f_tree.declared.expressions.Expr.{Expr}
use Rattle.fortran_checks.specs.f_tree.declared.expressions.Expr as expr
use Rattle.fortran_checks.specs.f_tree.declared.expressions.BinaryOp.TheVariants as op
use Rattle.fortran_checks.specs.f_tree.declared.statements.Body as body
use Rattle.fortran_checks.specs.f_tree.declared.statements.ListItem as item
use Rattle.fortran_checks.specs.f_tree.declared.statements.ControlValue.TheVariants as value
use Rattle.fortran_checks.specs.f_tree.declared.statements.ControlWord.TheVariants as word
use Rattle.fortran_checks.specs.f_tree.declared.statements.Direction.TheVariants as way
use Rattle.fortran_checks.specs.f_tree.declared.statements.UnitKind.TheVariants as kind
use Rattle.fortran_checks.specs.f_tree.declared.units.FileSet.{FileSet}
use Rattle.fortran_checks.specs.f_tree.declared.statements.DummyArgument.TheVariants as dummy
use Rattle.fortran_checks.specs.f_tree.declared.statements.UpperBound.TheVariants as upper
use Rattle.fortran_checks.specs.f_tree.declared.statements.AuxiliaryKind.TheVariants as auxiliary
use Rattle.fortran_checks.specs.f_tree.declared.statements.LengthSpec.TheVariants as length'
use Rattle.fortran_checks.specs.f_tree.declared.names.Basic.TheVariants.{Integer, Character}
use Rattle.fortran_checks.specs.f_tree.Setting.{Setting}
use Rattle.fortran_rows.specs.WorkedSources.{on_card, labelled, print, main_program, one_file, num, from_to, I, J, K, M, N, plus, times, text}

-- `ASSIGN 20 TO K`, `GO TO K,(10,20)`, label 10 `PRINT *,1`, label 20 `PRINT *,2`, `END`
unfoldable pub branch_with_a_list : FileSet
branch_with_a_list = one_file (
    main_program (
    on_card 1 (body.AssignLabel 20 K) ∷
    on_card 2 (body.GotoName K (10 ∷ 20 ∷ [])) ∷
    labelled 10 3 (print ((num 1) ∷ [])) ∷
    labelled 20 4 (print ((num 2) ∷ [])) ∷
    on_card 5 body.End ∷ []) ∷
    [])

-- `DO 10 I=1,3`, `DO 10 J=1,2`, label 10 `K=I*10+J`, `PRINT *,I,J,K`, `END`
unfoldable pub loops_with_one_end : FileSet
loops_with_one_end = one_file (
    main_program (
    on_card 1 (body.Do (Some 10) (from_to I (num 1) (num 3))) ∷
    on_card 2 (body.Do (Some 10) (from_to J (num 1) (num 2))) ∷
    labelled 10 3 (body.Assign (expr.Name K) (plus (times (expr.Name I) (num 10)) (expr.Name J))) ∷
    on_card 4 (print ((expr.Name I) ∷ (expr.Name J) ∷ (expr.Name K) ∷ [])) ∷
    on_card 5 body.End ∷ []) ∷
    [])

-- `INTEGER A(6)`, `DO 10 I=1,6`, label 10 `A(I)=I`, `CALL S(A,2,3)`, `END`, `SUBROUTINE S(B,M,N)`, `INTEGER B(M,N)`, `PRINT *,B(2,3),2**3**2,(-2)**(-1)`, `END`
unfoldable pub matrix_of_a_dummy : FileSet
matrix_of_a_dummy = one_file (
    main_program (
    on_card 1 (body.Declare (record { basic = Integer; length = None }) (record { name = (codes "a"); dimensions = (record { lower = None; upper = upper.Value (num 6) } ∷ []); length = None } ∷ [])) ∷
    on_card 2 (body.Do (Some 10) (from_to I (num 1) (num 6))) ∷
    labelled 10 3 (body.Assign (expr.Apply (codes "a") ((expr.Name I) ∷ [])) (expr.Name I)) ∷
    on_card 4 (body.Call (codes "s") ((expr.Name (codes "a")) ∷ (num 2) ∷ (num 3) ∷ [])) ∷
    on_card 5 body.End ∷ []) ∷
    record {
      file = 0;
      card = 6;
      kind = kind.Subroutine;
      name = Some (codes "s");
      dummies = (dummy.Named (codes "b") ∷ dummy.Named M ∷ dummy.Named N ∷ []);
      statements =
          on_card 7 (body.Declare (record { basic = Integer; length = None }) (record { name = (codes "b"); dimensions = (record { lower = None; upper = upper.Value (expr.Name M) } ∷ record { lower = None; upper = upper.Value (expr.Name N) } ∷ []); length = None } ∷ [])) ∷
          on_card 8 (print ((expr.Apply (codes "b") ((num 2) ∷ (num 3) ∷ [])) ∷ (expr.Binary op.Power (num 2) (expr.Binary op.Power (num 3) (num 2))) ∷ (expr.Binary op.Power (expr.Paren (expr.Minus (num 2))) (expr.Paren (expr.Minus (num 1)))) ∷ [])) ∷
          on_card 9 body.End ∷ [];
    } ∷
    [])

-- `I=1`, `CALL S((I),I)`, `PRINT *,I`, `END`, `SUBROUTINE S(J,K)`, `K=5`, `PRINT *,J`, `END`
unfoldable pub argument_in_parentheses : FileSet
argument_in_parentheses = one_file (
    main_program (
    on_card 1 (body.Assign (expr.Name I) (num 1)) ∷
    on_card 2 (body.Call (codes "s") ((expr.Paren (expr.Name I)) ∷ (expr.Name I) ∷ [])) ∷
    on_card 3 (print ((expr.Name I) ∷ [])) ∷
    on_card 4 body.End ∷ []) ∷
    record {
      file = 0;
      card = 5;
      kind = kind.Subroutine;
      name = Some (codes "s");
      dummies = (dummy.Named J ∷ dummy.Named K ∷ []);
      statements =
          on_card 6 (body.Assign (expr.Name K) (num 5)) ∷
          on_card 7 (print ((expr.Name J) ∷ [])) ∷
          on_card 8 body.End ∷ [];
    } ∷
    [])

-- `BLOCK DATA`, `COMMON /T/ I(5)`, `DATA I/2*4,3*9/`, `END`, `COMMON /T/ J(5)`, `PRINT *,J(2),J(3)`, `END`
unfoldable pub block_with_values : FileSet
block_with_values = one_file (
    record {
      file = 0;
      card = 1;
      kind = kind.BlockData;
      name = None;
      dummies = [];
      statements =
          on_card 2 (body.Common (record { block = Some (codes "t"); items = (record { name = I; dimensions = (record { lower = None; upper = upper.Value (num 5) } ∷ []) } ∷ []) } ∷ [])) ∷
          on_card 3 (body.Init (record { places = ((item.Item (expr.Name I)) ∷ []); values = (record { count = Some (num 2); value = (num 4) } ∷ record { count = Some (num 3); value = (num 9) } ∷ []) } ∷ [])) ∷
          on_card 4 body.End ∷ [];
    } ∷
    record {
      file = 0;
      card = 5;
      kind = kind.Main;
      name = None;
      dummies = [];
      statements =
          on_card 5 (body.Common (record { block = Some (codes "t"); items = (record { name = J; dimensions = (record { lower = None; upper = upper.Value (num 5) } ∷ []) } ∷ []) } ∷ [])) ∷
          on_card 6 (print ((expr.Apply J ((num 2) ∷ [])) ∷ (expr.Apply J ((num 3) ∷ [])) ∷ [])) ∷
          on_card 7 body.End ∷ [];
    } ∷
    [])

unfoldable pub block_with_values_setting : Setting
block_with_values_setting = record {
  homes = ((record { sequence = 0; first = 0 } ∷ []) ∷ (record { sequence = 0; first = 0 } ∷ []) ∷ []);
  sizes = (20 ∷ []);
}

-- `CHARACTER*3 S`, `S='AB'//'CDE'`, `PRINT *,S,LEN(S),INDEX('HELLO','L')`, `END`
unfoldable pub text_cut : FileSet
text_cut = one_file (
    main_program (
    on_card 1 (body.Declare (record { basic = Character; length = Some (length'.Value (num 3)) }) (record { name = (codes "s"); dimensions = []; length = None } ∷ [])) ∷
    on_card 2 (body.Assign (expr.Name (codes "s")) (expr.Binary op.Concatenate (text (codes "AB")) (text (codes "CDE")))) ∷
    on_card 3 (print ((expr.Name (codes "s")) ∷ (expr.Apply (codes "len") ((expr.Name (codes "s")) ∷ [])) ∷ (expr.Apply (codes "index") ((text (codes "HELLO")) ∷ (text (codes "L")) ∷ [])) ∷ [])) ∷
    on_card 4 body.End ∷ []) ∷
    [])

-- `CHARACTER*2 S,F`, `S=F('Q')`, `PRINT *,S//'!'`, `END`, `CHARACTER*(*) FUNCTION F(T)`, `CHARACTER*(*) T`, `F=T//T//T`, `END`
unfoldable pub text_repeated : FileSet
text_repeated = one_file (
    main_program (
    on_card 1 (body.Declare (record { basic = Character; length = Some (length'.Value (num 2)) }) (record { name = (codes "s"); dimensions = []; length = None } ∷ record { name = (codes "f"); dimensions = []; length = None } ∷ [])) ∷
    on_card 2 (body.Assign (expr.Name (codes "s")) (expr.Apply (codes "f") ((text (codes "Q")) ∷ []))) ∷
    on_card 3 (print ((expr.Binary op.Concatenate (expr.Name (codes "s")) (text (codes "!"))) ∷ [])) ∷
    on_card 4 body.End ∷ []) ∷
    record {
      file = 0;
      card = 5;
      kind = kind.Function (record { basic = Character; length = Some (length'.Star) });
      name = Some (codes "f");
      dummies = (dummy.Named (codes "t") ∷ []);
      statements =
          on_card 6 (body.Declare (record { basic = Character; length = Some (length'.Star) }) (record { name = (codes "t"); dimensions = []; length = None } ∷ [])) ∷
          on_card 7 (body.Assign (expr.Name (codes "f")) (expr.Binary op.Concatenate (expr.Binary op.Concatenate (expr.Name (codes "t")) (expr.Name (codes "t"))) (expr.Name (codes "t")))) ∷
          on_card 8 body.End ∷ [];
    } ∷
    [])

-- `NSQ(K)=K*K`, `NP(K)=NSQ(K)+K`, `PRINT *,NP(3)`, `END`
unfoldable pub sum_of_a_square : FileSet
sum_of_a_square = one_file (
    main_program (
    on_card 1 (body.Assign (expr.Apply (codes "nsq") ((expr.Name K) ∷ [])) (times (expr.Name K) (expr.Name K))) ∷
    on_card 2 (body.Assign (expr.Apply (codes "np") ((expr.Name K) ∷ [])) (plus (expr.Apply (codes "nsq") ((expr.Name K) ∷ [])) (expr.Name K))) ∷
    on_card 3 (print ((expr.Apply (codes "np") ((num 3) ∷ [])) ∷ [])) ∷
    on_card 4 body.End ∷ []) ∷
    [])

-- `WRITE (6,'(3I2)') (J,J=1,4)`, `END`
unfoldable pub format_gone_on_with : FileSet
format_gone_on_with = one_file (
    main_program (
    on_card 1 (body.Transfer way.Write (record { word = word.Unit; value = value.Value (num 6) } ∷ record { word = word.Format; value = value.Value (text (codes "(3I2)")) } ∷ []) ((item.Loop ((item.Item (expr.Name J)) ∷ []) (from_to J (num 1) (num 4))) ∷ [])) ∷
    on_card 2 body.End ∷ []) ∷
    [])

-- `READ (5,'(I2)',IOSTAT=N) I`, `PRINT *,N`, `END`
unfoldable pub integer_with_a_letter : FileSet
integer_with_a_letter = one_file (
    main_program (
    on_card 1 (body.Transfer way.Read (record { word = word.Unit; value = value.Value (num 5) } ∷ record { word = word.Format; value = value.Value (text (codes "(I2)")) } ∷ record { word = word.Status; value = value.Value (expr.Name N) } ∷ []) ((item.Item (expr.Name I)) ∷ [])) ∷
    on_card 2 (print ((expr.Name N) ∷ [])) ∷
    on_card 3 body.End ∷ []) ∷
    [])

-- `OPEN (9,FILE='D')`, `WRITE (9,'(I1)') 4`, `BACKSPACE 9`, `READ (9,'(I1)') I`, `PRINT *,I`, `END`
unfoldable pub record_read_back : FileSet
record_read_back = one_file (
    main_program (
    on_card 1 (body.Auxiliary auxiliary.OpenUnit (record { word = word.Unit; value = value.Value (num 9) } ∷ record { word = word.File; value = value.Value (text (codes "D")) } ∷ [])) ∷
    on_card 2 (body.Transfer way.Write (record { word = word.Unit; value = value.Value (num 9) } ∷ record { word = word.Format; value = value.Value (text (codes "(I1)")) } ∷ []) ((item.Item (num 4)) ∷ [])) ∷
    on_card 3 (body.Auxiliary auxiliary.Backspace (record { word = word.Unit; value = value.Value (num 9) } ∷ [])) ∷
    on_card 4 (body.Transfer way.Read (record { word = word.Unit; value = value.Value (num 9) } ∷ record { word = word.Format; value = value.Value (text (codes "(I1)")) } ∷ []) ((item.Item (expr.Name I)) ∷ [])) ∷
    on_card 5 (print ((expr.Name I) ∷ [])) ∷
    on_card 6 body.End ∷ []) ∷
    [])

unfoldable pub further_sources_opened : Unit {0}
unfolding branch_with_a_list loops_with_one_end matrix_of_a_dummy argument_in_parentheses block_with_values block_with_values_setting text_cut text_repeated sum_of_a_square format_gone_on_with integer_with_a_letter record_read_back
further_sources_opened = tt
