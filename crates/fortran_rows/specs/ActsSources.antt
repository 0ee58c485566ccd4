-- Programs that meet an act of which nothing is said: small programs as trees, each for one worked run.
use Rattle.std.specs.Prelude.{true, [], ◌∷◌, codes, Some, None}
use Rattle.fortran_checks.specs.f_tree.declared.expressions.Expr.{Expr}
use Rattle.fortran_checks.specs.f_tree.declared.expressions.Expr as expr
use Rattle.fortran_checks.specs.f_tree.declared.expressions.BinaryOp.TheVariants as op
use Rattle.fortran_checks.specs.f_tree.declared.statements.Body as body
use Rattle.fortran_checks.specs.f_tree.declared.statements.ListItem as item
use Rattle.fortran_checks.specs.f_tree.declared.statements.ControlValue.TheVariants as value
use Rattle.fortran_checks.specs.f_tree.declared.statements.ControlWord.TheVariants as word
use Rattle.fortran_checks.specs.f_tree.declared.statements.Direction.TheVariants as way
use Rattle.fortran_checks.specs.f_tree.declared.statements.UnitKind.TheVariants as kind
use Rattle.fortran_checks.specs.f_tree.declared.units.FileSet.{FileSet}
use Rattle.fortran_checks.specs.f_tree.declared.statements.DummyArgument.TheVariants as dummy
use Rattle.fortran_checks.specs.f_tree.declared.statements.UpperBound.TheVariants as upper
use Rattle.fortran_checks.specs.f_tree.declared.statements.AuxiliaryKind.TheVariants as auxiliary
use Rattle.fortran_checks.specs.f_tree.declared.statements.LengthSpec.TheVariants as length'
use Rattle.fortran_checks.specs.f_tree.declared.names.Basic.TheVariants.{Integer, Logical, Character}
use Rattle.fortran_rows.specs.WorkedSources.{on_card, labelled, print, main_program, one_file, num, I, J, K, N, minus, text}

-- `WRITE (*,'(L2)') 1`, `END`
unfoldable pub descriptor_of_another_type : FileSet
descriptor_of_another_type = one_file (
    main_program (
    on_card 1 (body.Transfer way.Write (record { word = word.Unit; value = value.Star } ∷ record { word = word.Format; value = value.Value (text (codes "(L2)")) } ∷ []) ((item.Item (num 1)) ∷ [])) ∷
    on_card 2 body.End ∷ []) ∷
    [])

-- `READ (*,'(A)') I`, `END`
unfoldable pub item_of_another_type : FileSet
item_of_another_type = one_file (
    main_program (
    on_card 1 (body.Transfer way.Read (record { word = word.Unit; value = value.Star } ∷ record { word = word.Format; value = value.Value (text (codes "(A)")) } ∷ []) ((item.Item (expr.Name I)) ∷ [])) ∷
    on_card 2 body.End ∷ []) ∷
    [])

-- `CHARACTER*6 F`, `F='(I3'`, `WRITE (*,F) 1`, `END`
unfoldable pub format_that_ends_early : FileSet
format_that_ends_early = one_file (
    main_program (
    on_card 1 (body.Declare (record { basic = Character; length = Some (length'.Value (num 6)) }) (record { name = (codes "f"); dimensions = []; length = None } ∷ [])) ∷
    on_card 2 (body.Assign (expr.Name (codes "f")) (text (codes "(I3"))) ∷
    on_card 3 (body.Transfer way.Write (record { word = word.Unit; value = value.Star } ∷ record { word = word.Format; value = value.Value (expr.Name (codes "f")) } ∷ []) ((item.Item (num 1)) ∷ [])) ∷
    on_card 4 body.End ∷ []) ∷
    [])

-- `CHARACTER*3 S`, `READ (S,'(I3)') I`, `END`
unfoldable pub record_without_value : FileSet
record_without_value = one_file (
    main_program (
    on_card 1 (body.Declare (record { basic = Character; length = Some (length'.Value (num 3)) }) (record { name = (codes "s"); dimensions = []; length = None } ∷ [])) ∷
    on_card 2 (body.Transfer way.Read (record { word = word.Unit; value = value.Value (expr.Name (codes "s")) } ∷ record { word = word.Format; value = value.Value (text (codes "(I3)")) } ∷ []) ((item.Item (expr.Name I)) ∷ [])) ∷
    on_card 3 body.End ∷ []) ∷
    [])

-- `I=MOD(-2147483647-1,-1)`, `END`
unfoldable pub remainder_past_32_bits : FileSet
remainder_past_32_bits = one_file (
    main_program (
    on_card 1 (body.Assign (expr.Name I) (expr.Apply (codes "mod") ((minus (expr.Minus (num 2147483647)) (num 1)) ∷ (expr.Minus (num 1)) ∷ []))) ∷
    on_card 2 body.End ∷ []) ∷
    [])

-- `I=0**(-1)`, `END`
unfoldable pub zero_to_a_negative_power : FileSet
zero_to_a_negative_power = one_file (
    main_program (
    on_card 1 (body.Assign (expr.Name I) (expr.Binary op.Power (num 0) (expr.Paren (expr.Minus (num 1))))) ∷
    on_card 2 body.End ∷ []) ∷
    [])

-- `CHARACTER*3 S`, `S(2:4)='x'`, `END`
unfoldable pub part_past_its_text : FileSet
part_past_its_text = one_file (
    main_program (
    on_card 1 (body.Declare (record { basic = Character; length = Some (length'.Value (num 3)) }) (record { name = (codes "s"); dimensions = []; length = None } ∷ [])) ∷
    on_card 2 (body.Assign (expr.Part (expr.Name (codes "s")) (Some (num 2)) (Some (num 4))) (text (codes "x"))) ∷
    on_card 3 body.End ∷ []) ∷
    [])

-- `LOGICAL L`, `ASSIGN 10 TO K`, `GO TO K`, `IF (L) THEN`, label 10 `CONTINUE`, `END IF`, `END`
unfoldable pub label_in_a_block : FileSet
label_in_a_block = one_file (
    main_program (
    on_card 1 (body.Declare (record { basic = Logical; length = None }) (record { name = (codes "l"); dimensions = []; length = None } ∷ [])) ∷
    on_card 2 (body.AssignLabel 10 K) ∷
    on_card 3 (body.GotoName K []) ∷
    on_card 4 (body.IfThen (expr.Name (codes "l"))) ∷
    labelled 10 5 body.Continue ∷
    on_card 6 body.EndIf ∷
    on_card 7 body.End ∷ []) ∷
    [])

-- `CALL S(K)`, `GO TO K`, label 10 `CONTINUE`, `END`, `SUBROUTINE S(K)`, `ASSIGN 10 TO K`, label 10 `CONTINUE`, `END`
unfoldable pub label_of_another_unit : FileSet
label_of_another_unit = one_file (
    main_program (
    on_card 1 (body.Call (codes "s") ((expr.Name K) ∷ [])) ∷
    on_card 2 (body.GotoName K []) ∷
    labelled 10 3 body.Continue ∷
    on_card 4 body.End ∷ []) ∷
    record {
      file = 0;
      card = 5;
      kind = kind.Subroutine;
      name = Some (codes "s");
      dummies = (dummy.Named K ∷ []);
      statements =
          on_card 6 (body.AssignLabel 10 K) ∷
          labelled 10 7 body.Continue ∷
          on_card 8 body.End ∷ [];
    } ∷
    [])

-- `CALL S('A')`, `END`, `SUBROUTINE S(T)`, `CHARACTER*2 T`, `END`
unfoldable pub text_too_short_for_its_dummy : FileSet
text_too_short_for_its_dummy = one_file (
    main_program (
    on_card 1 (body.Call (codes "s") ((text (codes "A")) ∷ [])) ∷
    on_card 2 body.End ∷ []) ∷
    record {
      file = 0;
      card = 3;
      kind = kind.Subroutine;
      name = Some (codes "s");
      dummies = (dummy.Named (codes "t") ∷ []);
      statements =
          on_card 4 (body.Declare (record { basic = Character; length = Some (length'.Value (num 2)) }) (record { name = (codes "t"); dimensions = []; length = None } ∷ [])) ∷
          on_card 5 body.End ∷ [];
    } ∷
    [])

-- `CALL S(1)`, `END`, `SUBROUTINE S(L)`, `LOGICAL L`, `END`
unfoldable pub argument_of_another_type : FileSet
argument_of_another_type = one_file (
    main_program (
    on_card 1 (body.Call (codes "s") ((num 1) ∷ [])) ∷
    on_card 2 body.End ∷ []) ∷
    record {
      file = 0;
      card = 3;
      kind = kind.Subroutine;
      name = Some (codes "s");
      dummies = (dummy.Named (codes "l") ∷ []);
      statements =
          on_card 4 (body.Declare (record { basic = Logical; length = None }) (record { name = (codes "l"); dimensions = []; length = None } ∷ [])) ∷
          on_card 5 body.End ∷ [];
    } ∷
    [])

-- `PRINT *,NF(1)`, `END`, `LOGICAL FUNCTION NF(K)`, `NF=.TRUE.`, `END`
unfoldable pub function_of_another_type : FileSet
function_of_another_type = one_file (
    main_program (
    on_card 1 (print ((expr.Apply (codes "nf") ((num 1) ∷ [])) ∷ [])) ∷
    on_card 2 body.End ∷ []) ∷
    record {
      file = 0;
      card = 3;
      kind = kind.Function (record { basic = Logical; length = None });
      name = Some (codes "nf");
      dummies = (dummy.Named K ∷ []);
      statements =
          on_card 4 (body.Assign (expr.Name (codes "nf")) (expr.Logical true)) ∷
          on_card 5 body.End ∷ [];
    } ∷
    [])

-- `PRINT *,NF(1)`, `END`, `INTEGER FUNCTION NF(K)`, `CLOSE (9)`, `NF=K`, `END`
unfoldable pub close_in_a_transfer : FileSet
close_in_a_transfer = one_file (
    main_program (
    on_card 1 (print ((expr.Apply (codes "nf") ((num 1) ∷ [])) ∷ [])) ∷
    on_card 2 body.End ∷ []) ∷
    record {
      file = 0;
      card = 3;
      kind = kind.Function (record { basic = Integer; length = None });
      name = Some (codes "nf");
      dummies = (dummy.Named K ∷ []);
      statements =
          on_card 4 (body.Auxiliary auxiliary.CloseUnit (record { word = word.Unit; value = value.Value (num 9) } ∷ [])) ∷
          on_card 5 (body.Assign (expr.Name (codes "nf")) (expr.Name K)) ∷
          on_card 6 body.End ∷ [];
    } ∷
    [])

-- `CALL S(J,-2147483647)`, `END`, `SUBROUTINE S(A,N)`, `INTEGER A(N:2)`, `END`
unfoldable pub dimension_past_32_bits : FileSet
dimension_past_32_bits = one_file (
    main_program (
    on_card 1 (body.Call (codes "s") ((expr.Name J) ∷ (expr.Minus (num 2147483647)) ∷ [])) ∷
    on_card 2 body.End ∷ []) ∷
    record {
      file = 0;
      card = 3;
      kind = kind.Subroutine;
      name = Some (codes "s");
      dummies = (dummy.Named (codes "a") ∷ dummy.Named N ∷ []);
      statements =
          on_card 4 (body.Declare (record { basic = Integer; length = None }) (record { name = (codes "a"); dimensions = (record { lower = Some (expr.Name N); upper = upper.Value (num 2) } ∷ []); length = None } ∷ [])) ∷
          on_card 5 body.End ∷ [];
    } ∷
    [])

unfoldable pub acts_sources_opened : Unit {0}
unfolding descriptor_of_another_type item_of_another_type format_that_ends_early record_without_value remainder_past_32_bits zero_to_a_negative_power part_past_its_text label_in_a_block label_of_another_unit text_too_short_for_its_dummy argument_of_another_type function_of_another_type close_in_a_transfer dimension_past_32_bits
acts_sources_opened = tt
