-- Calls, arguments, entries and returns: small programs as trees, one for one those in examples/fortran.
use Rattle.std.specs.Prelude.{[], ◌∷◌, codes, Some, None}
use Rattle.fortran_checks.specs.f_tree.declared.expressions.Expr.{Expr}
use Rattle.fortran_checks.specs.f_tree.declared.expressions.Expr as expr
use Rattle.fortran_checks.specs.f_tree.declared.expressions.BinaryOp.TheVariants as op
use Rattle.fortran_checks.specs.f_tree.declared.statements.Body as body
use Rattle.fortran_checks.specs.f_tree.declared.statements.ListItem as item
use Rattle.fortran_checks.specs.f_tree.declared.statements.ControlValue.TheVariants as value
use Rattle.fortran_checks.specs.f_tree.declared.statements.ControlWord.TheVariants as word
use Rattle.fortran_checks.specs.f_tree.declared.statements.Direction.TheVariants as way
use Rattle.fortran_checks.specs.f_tree.declared.statements.UnitKind.TheVariants as kind
use Rattle.fortran_checks.specs.f_tree.declared.units.FileSet.{FileSet}
use Rattle.fortran_checks.specs.f_tree.declared.statements.DummyArgument.TheVariants as dummy
use Rattle.fortran_checks.specs.f_tree.declared.statements.UpperBound.TheVariants as upper
use Rattle.fortran_checks.specs.f_tree.declared.names.Basic.TheVariants.{Integer, Logical}
use Rattle.fortran_checks.specs.f_tree.Setting.{Setting}
use Rattle.fortran_rows.specs.WorkedSources.{on_card, labelled, main_program, one_file, num, from_to, I, J, K, M, N, plus, minus, times, text}

-- examples/fortran/two_names_of_one_place.f
unfoldable pub two_names_of_one_place : FileSet
two_names_of_one_place = one_file (
    main_program (
    on_card 1 (body.Assign (expr.Name I) (num 1)) ∷
    on_card 2 (body.Call (codes "s") ((expr.Name I) ∷ (expr.Name I) ∷ [])) ∷
    on_card 3 (body.Transfer way.Write (record { word = word.Unit; value = value.Star } ∷ record { word = word.Format; value = value.Value (text (codes "(I3)")) } ∷ []) ((item.Item (expr.Name I)) ∷ [])) ∷
    on_card 4 body.End ∷ []) ∷
    record {
      file = 0;
      card = 5;
      kind = kind.Subroutine;
      name = Some (codes "s");
      dummies = (dummy.Named J ∷ dummy.Named K ∷ []);
      statements =
          on_card 6 (body.Assign (expr.Name J) (plus (expr.Name J) (num 1))) ∷
          on_card 7 (body.Assign (expr.Name K) (times (expr.Name K) (num 10))) ∷
          on_card 8 (body.Assign (expr.Name J) (plus (expr.Name J) (expr.Name K))) ∷
          on_card 9 body.End ∷ [];
    } ∷
    [])

-- examples/fortran/parts_of_one_array.f
unfoldable pub parts_of_one_array : FileSet
parts_of_one_array = one_file (
    main_program (
    on_card 1 (body.Declare (record { basic = Integer; length = None }) (record { name = (codes "a"); dimensions = (record { lower = None; upper = upper.Value (num 6) } ∷ []); length = None } ∷ [])) ∷
    on_card 2 (body.Do (Some 10) (from_to I (num 1) (num 6))) ∷
    labelled 10 3 (body.Assign (expr.Apply (codes "a") ((expr.Name I) ∷ [])) (expr.Name I)) ∷
    on_card 4 (body.Call (codes "s") ((expr.Apply (codes "a") ((num 2) ∷ [])) ∷ (expr.Name (codes "a")) ∷ (num 4) ∷ [])) ∷
    on_card 5 (body.Transfer way.Write (record { word = word.Unit; value = value.Star } ∷ record { word = word.Format; value = value.Value (text (codes "(6I5)")) } ∷ []) ((item.Item (expr.Name (codes "a"))) ∷ [])) ∷
    on_card 6 body.End ∷ []) ∷
    record {
      file = 0;
      card = 7;
      kind = kind.Subroutine;
      name = Some (codes "s");
      dummies = (dummy.Named (codes "p") ∷ dummy.Named (codes "q") ∷ dummy.Named N ∷ []);
      statements =
          on_card 8 (body.Declare (record { basic = Integer; length = None }) (record { name = (codes "p"); dimensions = (record { lower = None; upper = upper.Value (expr.Name N) } ∷ []); length = None } ∷ record { name = (codes "q"); dimensions = (record { lower = None; upper = upper.Star } ∷ []); length = None } ∷ [])) ∷
          on_card 9 (body.Do (Some 20) (from_to J (num 1) (expr.Name N))) ∷
          labelled 20 10 (body.Assign (expr.Apply (codes "p") ((expr.Name J) ∷ [])) (plus (times (expr.Apply (codes "q") ((expr.Name J) ∷ [])) (num 10)) (expr.Apply (codes "p") ((expr.Name J) ∷ [])))) ∷
          on_card 11 body.End ∷ [];
    } ∷
    [])

-- examples/fortran/common_that_is_passed.f
unfoldable pub common_that_is_passed : FileSet
common_that_is_passed = one_file (
    main_program (
    on_card 1 (body.Common (record { block = None; items = (record { name = N; dimensions = [] } ∷ []) } ∷ [])) ∷
    on_card 2 (body.Assign (expr.Name N) (num 1)) ∷
    on_card 3 (body.Call (codes "s") ((expr.Name N) ∷ [])) ∷
    on_card 4 (body.Transfer way.Write (record { word = word.Unit; value = value.Star } ∷ record { word = word.Format; value = value.Value (text (codes "(I4)")) } ∷ []) ((item.Item (expr.Name N)) ∷ [])) ∷
    on_card 5 body.End ∷ []) ∷
    record {
      file = 0;
      card = 6;
      kind = kind.Subroutine;
      name = Some (codes "s");
      dummies = (dummy.Named K ∷ []);
      statements =
          on_card 7 (body.Common (record { block = None; items = (record { name = N; dimensions = [] } ∷ []) } ∷ [])) ∷
          on_card 8 (body.Assign (expr.Name N) (plus (expr.Name N) (num 10))) ∷
          on_card 9 (body.Assign (expr.Name K) (times (expr.Name K) (num 2))) ∷
          on_card 10 (body.Assign (expr.Name N) (plus (expr.Name N) (num 1))) ∷
          on_card 11 body.End ∷ [];
    } ∷
    [])

unfoldable pub common_that_is_passed_setting : Setting
common_that_is_passed_setting = record {
  homes = ((record { sequence = 0; first = 0 } ∷ []) ∷ (record { sequence = 0; first = 0 } ∷ []) ∷ []);
  sizes = (4 ∷ []);
}

-- examples/fortran/entries_with_one_result.f
unfoldable pub entries_with_one_result : FileSet
entries_with_one_result = one_file (
    main_program (
    on_card 1 (body.Transfer way.Write (record { word = word.Unit; value = value.Star } ∷ record { word = word.Format; value = value.Value (text (codes "(4I4)")) } ∷ []) ((item.Item (expr.Apply (codes "na") ((num 3) ∷ []))) ∷ (item.Item (expr.Apply (codes "nb") ((num 4) ∷ []))) ∷ (item.Item (expr.Apply (codes "nc") ((num 5) ∷ []))) ∷ (item.Item (expr.Apply (codes "na") ((num 0) ∷ []))) ∷ [])) ∷
    on_card 2 body.End ∷ []) ∷
    record {
      file = 0;
      card = 3;
      kind = kind.Function (record { basic = Integer; length = None });
      name = Some (codes "na");
      dummies = (dummy.Named K ∷ []);
      statements =
          on_card 4 (body.Assign (expr.Name (codes "na")) (plus (expr.Name K) (num 1))) ∷
          on_card 5 (body.Goto 10) ∷
          on_card 6 (body.Entry (codes "nb") (dummy.Named K ∷ [])) ∷
          on_card 7 (body.Assign (expr.Name (codes "na")) (times (expr.Name K) (num 2))) ∷
          on_card 8 (body.Goto 10) ∷
          on_card 9 (body.Entry (codes "nc") (dummy.Named (codes "l") ∷ [])) ∷
          on_card 10 (body.Assign (expr.Name (codes "nb")) (minus (expr.Name (codes "l")) (num 1))) ∷
          labelled 10 11 (body.IfOne (expr.Binary op.Greater (expr.Name (codes "nc")) (num 3)) (body.Assign (expr.Name (codes "nc")) (plus (expr.Name (codes "nc")) (num 100)))) ∷
          on_card 12 body.End ∷ [];
    } ∷
    [])

-- examples/fortran/entry_of_another_type.f
unfoldable pub entry_of_another_type : FileSet
entry_of_another_type = one_file (
    main_program (
    on_card 1 (body.Declare (record { basic = Logical; length = None }) (record { name = (codes "ig"); dimensions = []; length = None } ∷ [])) ∷
    on_card 2 (body.Transfer way.Write (record { word = word.Unit; value = value.Star } ∷ record { word = word.Format; value = value.Value (text (codes "(I4,L2)")) } ∷ []) ((item.Item (expr.Apply (codes "if1") ((num 3) ∷ []))) ∷ (item.Item (expr.Apply (codes "ig") ((num 0) ∷ []))) ∷ [])) ∷
    on_card 3 body.End ∷ []) ∷
    record {
      file = 0;
      card = 4;
      kind = kind.Function (record { basic = Integer; length = None });
      name = Some (codes "if1");
      dummies = (dummy.Named K ∷ []);
      statements =
          on_card 5 (body.Declare (record { basic = Logical; length = None }) (record { name = (codes "ig"); dimensions = []; length = None } ∷ [])) ∷
          on_card 6 (body.Entry (codes "ig") (dummy.Named K ∷ [])) ∷
          on_card 7 (body.Assign (expr.Name (codes "ig")) (expr.Binary op.Greater (expr.Name K) (num 0))) ∷
          on_card 8 (body.IfOne (expr.Name (codes "ig")) (body.Assign (expr.Name (codes "if1")) (plus (expr.Name K) (num 1)))) ∷
          on_card 9 (body.Return None) ∷
          on_card 10 body.End ∷ [];
    } ∷
    [])

-- examples/fortran/entries_with_their_dummies.f
unfoldable pub entries_with_their_dummies : FileSet
entries_with_their_dummies = one_file (
    main_program (
    on_card 1 (body.Call (codes "set") ((num 5) ∷ [])) ∷
    on_card 2 (body.Call (codes "add") ((num 3) ∷ (expr.Name K) ∷ [])) ∷
    on_card 3 (body.Call (codes "add") ((num 4) ∷ (expr.Name (codes "l")) ∷ [])) ∷
    on_card 4 (body.Transfer way.Write (record { word = word.Unit; value = value.Star } ∷ record { word = word.Format; value = value.Value (text (codes "(2I4)")) } ∷ []) ((item.Item (expr.Name K)) ∷ (item.Item (expr.Name (codes "l"))) ∷ [])) ∷
    on_card 5 body.End ∷ []) ∷
    record {
      file = 0;
      card = 6;
      kind = kind.Subroutine;
      name = Some (codes "set");
      dummies = (dummy.Named N ∷ []);
      statements =
          on_card 7 (body.Assign (expr.Name M) (expr.Name N)) ∷
          on_card 8 (body.Return None) ∷
          on_card 9 (body.Entry (codes "add") (dummy.Named J ∷ dummy.Named I ∷ [])) ∷
          on_card 10 (body.Assign (expr.Name M) (plus (expr.Name M) (expr.Name J))) ∷
          on_card 11 (body.Assign (expr.Name I) (expr.Name M)) ∷
          on_card 12 body.End ∷ [];
    } ∷
    [])

-- examples/fortran/returns_to_labels.f
unfoldable pub returns_to_labels : FileSet
returns_to_labels = one_file (
    main_program (
    on_card 1 (body.Do (Some 30) (from_to I (num 0) (num 3))) ∷
    on_card 2 (body.Call (codes "t") ((expr.Name I) ∷ (expr.AltReturn 10) ∷ (expr.AltReturn 20) ∷ [])) ∷
    on_card 3 (body.Assign (expr.Name K) (num 0)) ∷
    on_card 4 (body.Goto 30) ∷
    labelled 10 5 (body.Assign (expr.Name K) (num 1)) ∷
    on_card 6 (body.Goto 30) ∷
    labelled 20 7 (body.Assign (expr.Name K) (num 2)) ∷
    labelled 30 8 (body.Transfer way.Write (record { word = word.Unit; value = value.Star } ∷ record { word = word.Format; value = value.Value (text (codes "(2I3)")) } ∷ []) ((item.Item (expr.Name I)) ∷ (item.Item (expr.Name K)) ∷ [])) ∷
    on_card 9 body.End ∷ []) ∷
    record {
      file = 0;
      card = 10;
      kind = kind.Subroutine;
      name = Some (codes "t");
      dummies = (dummy.Named K ∷ dummy.AlternateReturn ∷ dummy.AlternateReturn ∷ []);
      statements =
          on_card 11 (body.Return (Some (expr.Name K))) ∷
          on_card 12 body.End ∷ [];
    } ∷
    [])

-- examples/fortran/functions_of_statements.f
unfoldable pub functions_of_statements : FileSet
functions_of_statements = one_file (
    main_program (
    on_card 1 (body.Assign (expr.Apply (codes "nsq") ((expr.Name K) ∷ [])) (times (expr.Name K) (expr.Name K))) ∷
    on_card 2 (body.Assign (expr.Apply (codes "np") ((expr.Name K) ∷ (expr.Name (codes "l")) ∷ [])) (plus (expr.Apply (codes "nsq") ((expr.Name K) ∷ [])) (times (expr.Name (codes "l")) (expr.Name I)))) ∷
    on_card 3 (body.Assign (expr.Name I) (num 2)) ∷
    on_card 4 (body.Assign (expr.Name K) (num 7)) ∷
    on_card 5 (body.Transfer way.Write (record { word = word.Unit; value = value.Star } ∷ record { word = word.Format; value = value.Value (text (codes "(3I4)")) } ∷ []) ((item.Item (expr.Apply (codes "np") ((num 3) ∷ (num 4) ∷ []))) ∷ (item.Item (expr.Apply (codes "nsq") ((expr.Apply (codes "np") ((num 1) ∷ (num 1) ∷ [])) ∷ []))) ∷ (item.Item (expr.Name K)) ∷ [])) ∷
    on_card 6 body.End ∷ []) ∷
    [])

-- examples/fortran/procedures_that_are_passed.f
unfoldable pub procedures_that_are_passed : FileSet
procedures_that_are_passed = one_file (
    main_program (
    on_card 1 (body.External ((codes "na") ∷ (codes "nb") ∷ (codes "s") ∷ [])) ∷
    on_card 2 (body.Call (codes "t") ((expr.Name (codes "na")) ∷ (expr.Name (codes "s")) ∷ (expr.Name K) ∷ [])) ∷
    on_card 3 (body.Call (codes "t") ((expr.Name (codes "nb")) ∷ (expr.Name (codes "s")) ∷ (expr.Name (codes "l")) ∷ [])) ∷
    on_card 4 (body.Transfer way.Write (record { word = word.Unit; value = value.Star } ∷ record { word = word.Format; value = value.Value (text (codes "(2I4)")) } ∷ []) ((item.Item (expr.Name K)) ∷ (item.Item (expr.Name (codes "l"))) ∷ [])) ∷
    on_card 5 body.End ∷ []) ∷
    record {
      file = 0;
      card = 6;
      kind = kind.Subroutine;
      name = Some (codes "t");
      dummies = (dummy.Named (codes "nf") ∷ dummy.Named (codes "sub") ∷ dummy.Named M ∷ []);
      statements =
          on_card 7 (body.External ((codes "sub") ∷ [])) ∷
          on_card 8 (body.Call (codes "sub") ((expr.Apply (codes "nf") ((num 5) ∷ [])) ∷ (expr.Name M) ∷ [])) ∷
          on_card 9 body.End ∷ [];
    } ∷
    record {
      file = 0;
      card = 10;
      kind = kind.Subroutine;
      name = Some (codes "s");
      dummies = (dummy.Named I ∷ dummy.Named M ∷ []);
      statements =
          on_card 11 (body.Assign (expr.Name M) (times (expr.Name I) (num 2))) ∷
          on_card 12 body.End ∷ [];
    } ∷
    record {
      file = 0;
      card = 13;
      kind = kind.Function (record { basic = Integer; length = None });
      name = Some (codes "na");
      dummies = (dummy.Named I ∷ []);
      statements =
          on_card 14 (body.Assign (expr.Name (codes "na")) (plus (expr.Name I) (num 1))) ∷
          on_card 15 body.End ∷ [];
    } ∷
    record {
      file = 0;
      card = 16;
      kind = kind.Function (record { basic = Integer; length = None });
      name = Some (codes "nb");
      dummies = (dummy.Named I ∷ []);
      statements =
          on_card 17 (body.Assign (expr.Name (codes "nb")) (times (expr.Name I) (expr.Name I))) ∷
          on_card 18 body.End ∷ [];
    } ∷
    [])

-- examples/fortran/dimensions_by_the_call.f
unfoldable pub dimensions_by_the_call : FileSet
dimensions_by_the_call = one_file (
    main_program (
    on_card 1 (body.Declare (record { basic = Integer; length = None }) (record { name = (codes "a"); dimensions = (record { lower = None; upper = upper.Value (num 6) } ∷ []); length = None } ∷ [])) ∷
    on_card 2 (body.Init (record { places = ((item.Item (expr.Name (codes "a"))) ∷ []); values = (record { count = None; value = (num 1) } ∷ record { count = None; value = (num 2) } ∷ record { count = None; value = (num 3) } ∷ record { count = None; value = (num 4) } ∷ record { count = None; value = (num 5) } ∷ record { count = None; value = (num 6) } ∷ []) } ∷ [])) ∷
    on_card 3 (body.Call (codes "s") ((expr.Name (codes "a")) ∷ (num 2) ∷ (num 3) ∷ [])) ∷
    on_card 4 (body.Call (codes "s") ((expr.Name (codes "a")) ∷ (num 3) ∷ (num 2) ∷ [])) ∷
    on_card 5 (body.Call (codes "t") ((expr.Name (codes "a")) ∷ (num 0) ∷ [])) ∷
    on_card 6 body.End ∷ []) ∷
    record {
      file = 0;
      card = 7;
      kind = kind.Subroutine;
      name = Some (codes "s");
      dummies = (dummy.Named (codes "b") ∷ dummy.Named M ∷ dummy.Named N ∷ []);
      statements =
          on_card 8 (body.Declare (record { basic = Integer; length = None }) (record { name = (codes "b"); dimensions = (record { lower = None; upper = upper.Value (expr.Name M) } ∷ record { lower = None; upper = upper.Value (expr.Name N) } ∷ []); length = None } ∷ [])) ∷
          on_card 9 (body.Transfer way.Write (record { word = word.Unit; value = value.Star } ∷ record { word = word.Format; value = value.Value (text (codes "(6I3)")) } ∷ []) ((item.Loop ((item.Loop ((item.Item (expr.Apply (codes "b") ((expr.Name I) ∷ (expr.Name J) ∷ []))) ∷ []) (from_to J (num 1) (expr.Name N))) ∷ []) (from_to I (num 1) (expr.Name M))) ∷ [])) ∷
          on_card 10 body.End ∷ [];
    } ∷
    record {
      file = 0;
      card = 11;
      kind = kind.Subroutine;
      name = Some (codes "t");
      dummies = (dummy.Named (codes "c") ∷ dummy.Named K ∷ []);
      statements =
          on_card 12 (body.Declare (record { basic = Integer; length = None }) (record { name = (codes "c"); dimensions = (record { lower = Some (expr.Name K); upper = upper.Value (plus (expr.Name K) (num 1)) } ∷ record { lower = Some (expr.Name K); upper = upper.Star } ∷ []); length = None } ∷ [])) ∷
          on_card 13 (body.Transfer way.Write (record { word = word.Unit; value = value.Star } ∷ record { word = word.Format; value = value.Value (text (codes "(6I3)")) } ∷ []) ((item.Item (expr.Apply (codes "c") ((num 0) ∷ (num 0) ∷ []))) ∷ (item.Item (expr.Apply (codes "c") ((num 1) ∷ (num 2) ∷ []))) ∷ [])) ∷
          on_card 14 body.End ∷ [];
    } ∷
    [])

-- examples/fortran/values_that_are_passed.f
unfoldable pub values_that_are_passed : FileSet
values_that_are_passed = one_file (
    main_program (
    on_card 1 (body.Assign (expr.Name I) (num 1)) ∷
    on_card 2 (body.Call (codes "s") ((expr.Paren (expr.Name I)) ∷ (expr.Name I) ∷ [])) ∷
    on_card 3 (body.Transfer way.Write (record { word = word.Unit; value = value.Star } ∷ record { word = word.Format; value = value.Value (text (codes "(I3)")) } ∷ []) ((item.Item (expr.Name I)) ∷ [])) ∷
    on_card 4 (body.Call (codes "s") ((plus (expr.Name I) (num 1)) ∷ (expr.Name K) ∷ [])) ∷
    on_card 5 (body.Transfer way.Write (record { word = word.Unit; value = value.Star } ∷ record { word = word.Format; value = value.Value (text (codes "(I3)")) } ∷ []) ((item.Item (expr.Name K)) ∷ [])) ∷
    on_card 6 body.End ∷ []) ∷
    record {
      file = 0;
      card = 7;
      kind = kind.Subroutine;
      name = Some (codes "s");
      dummies = (dummy.Named J ∷ dummy.Named K ∷ []);
      statements =
          on_card 8 (body.Assign (expr.Name K) (num 5)) ∷
          on_card 9 (body.Transfer way.Write (record { word = word.Unit; value = value.Star } ∷ record { word = word.Format; value = value.Value (text (codes "(I3)")) } ∷ []) ((item.Item (expr.Name J)) ∷ [])) ∷
          on_card 10 body.End ∷ [];
    } ∷
    [])

unfoldable pub procedures_sources_opened : Unit {0}
unfolding two_names_of_one_place parts_of_one_array common_that_is_passed common_that_is_passed_setting entries_with_one_result entry_of_another_type entries_with_their_dummies returns_to_labels functions_of_statements procedures_that_are_passed dimensions_by_the_call values_that_are_passed
procedures_sources_opened = tt
