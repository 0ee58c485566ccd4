-- COMMON, EQUIVALENCE, DATA and what stays between calls: small programs as trees, one for one those in examples/fortran.
use Rattle.std.specs.Prelude.{true, [], ◌∷◌, codes, Some, None}
use Rattle.fortran_checks.specs.f_tree.declared.expressions.Expr.{Expr}
use Rattle.fortran_checks.specs.f_tree.declared.expressions.Expr as expr
use Rattle.fortran_checks.specs.f_tree.declared.statements.Body as body
use Rattle.fortran_checks.specs.f_tree.declared.statements.ListItem as item
use Rattle.fortran_checks.specs.f_tree.declared.statements.ControlValue.TheVariants as value
use Rattle.fortran_checks.specs.f_tree.declared.statements.ControlWord.TheVariants as word
use Rattle.fortran_checks.specs.f_tree.declared.statements.Direction.TheVariants as way
use Rattle.fortran_checks.specs.f_tree.declared.statements.UnitKind.TheVariants as kind
use Rattle.fortran_checks.specs.f_tree.declared.units.FileSet.{FileSet}
use Rattle.fortran_checks.specs.f_tree.declared.statements.DummyArgument.TheVariants as dummy
use Rattle.fortran_checks.specs.f_tree.declared.statements.UpperBound.TheVariants as upper
use Rattle.fortran_checks.specs.f_tree.declared.statements.LengthSpec.TheVariants as length'
use Rattle.fortran_checks.specs.f_tree.declared.names.Basic.TheVariants.{Integer, Logical, Character}
use Rattle.fortran_checks.specs.f_tree.Setting.{Setting}
use Rattle.fortran_rows.specs.WorkedSources.{on_card, labelled, main_program, one_file, num, from_to, I, J, K, M, N, plus, times, text}

-- examples/fortran/overlay_of_a_matrix.f
unfoldable pub overlay_of_a_matrix : FileSet
overlay_of_a_matrix = one_file (
    main_program (
    on_card 1 (body.Declare (record { basic = Integer; length = None }) (record { name = (codes "a"); dimensions = (record { lower = None; upper = upper.Value (num 2) } ∷ record { lower = None; upper = upper.Value (num 3) } ∷ []); length = None } ∷ record { name = (codes "b"); dimensions = (record { lower = None; upper = upper.Value (num 6) } ∷ []); length = None } ∷ [])) ∷
    on_card 2 (body.Equivalence (record { places = ((expr.Apply (codes "a") ((num 1) ∷ (num 1) ∷ [])) ∷ (expr.Apply (codes "b") ((num 1) ∷ [])) ∷ []) } ∷ [])) ∷
    on_card 3 (body.Do (Some 10) (from_to I (num 1) (num 6))) ∷
    labelled 10 4 (body.Assign (expr.Apply (codes "b") ((expr.Name I) ∷ [])) (times (expr.Name I) (expr.Name I))) ∷
    on_card 5 (body.Transfer way.Write (record { word = word.Unit; value = value.Star } ∷ record { word = word.Format; value = value.Label 20 } ∷ []) ((item.Item (expr.Name (codes "a"))) ∷ [])) ∷
    on_card 6 (body.Transfer way.Write (record { word = word.Unit; value = value.Star } ∷ record { word = word.Format; value = value.Label 20 } ∷ []) ((item.Loop ((item.Loop ((item.Item (expr.Apply (codes "a") ((expr.Name I) ∷ (expr.Name J) ∷ []))) ∷ []) (from_to J (num 1) (num 3))) ∷ []) (from_to I (num 1) (num 2))) ∷ [])) ∷
    labelled 20 7 (body.Format (codes "(6I4)")) ∷
    on_card 8 body.End ∷ []) ∷
    [])

unfoldable pub overlay_of_a_matrix_setting : Setting
overlay_of_a_matrix_setting = record {
  homes = ((record { sequence = 0; first = 0 } ∷ record { sequence = 0; first = 0 } ∷ record { sequence = 1; first = 0 } ∷ record { sequence = 2; first = 0 } ∷ []) ∷ []);
  sizes = (24 ∷ 4 ∷ 4 ∷ []);
}

-- examples/fortran/overlay_in_a_chain.f
unfoldable pub overlay_in_a_chain : FileSet
overlay_in_a_chain = one_file (
    main_program (
    on_card 1 (body.Declare (record { basic = Integer; length = None }) (record { name = (codes "a"); dimensions = (record { lower = None; upper = upper.Value (num 4) } ∷ []); length = None } ∷ record { name = (codes "b"); dimensions = (record { lower = None; upper = upper.Value (num 4) } ∷ []); length = None } ∷ record { name = (codes "c"); dimensions = (record { lower = None; upper = upper.Value (num 4) } ∷ []); length = None } ∷ [])) ∷
    on_card 2 (body.Equivalence (record { places = ((expr.Apply (codes "a") ((num 1) ∷ [])) ∷ (expr.Apply (codes "b") ((num 3) ∷ [])) ∷ []) } ∷ record { places = ((expr.Apply (codes "b") ((num 1) ∷ [])) ∷ (expr.Apply (codes "c") ((num 2) ∷ [])) ∷ []) } ∷ [])) ∷
    on_card 3 (body.Do (Some 10) (from_to I (num 1) (num 4))) ∷
    on_card 4 (body.Assign (expr.Apply (codes "c") ((expr.Name I) ∷ [])) (expr.Name I)) ∷
    labelled 10 5 (body.Assign (expr.Apply (codes "a") ((expr.Name I) ∷ [])) (times (num 10) (expr.Name I))) ∷
    on_card 6 (body.Assign (expr.Apply (codes "b") ((num 2) ∷ [])) (num 7)) ∷
    on_card 7 (body.Transfer way.Write (record { word = word.Unit; value = value.Star } ∷ record { word = word.Format; value = value.Value (text (codes "(5I4)")) } ∷ []) ((item.Item (expr.Apply (codes "b") ((num 1) ∷ []))) ∷ (item.Item (expr.Apply (codes "b") ((num 2) ∷ []))) ∷ (item.Item (expr.Apply (codes "b") ((num 3) ∷ []))) ∷ (item.Item (expr.Apply (codes "c") ((num 3) ∷ []))) ∷ (item.Item (expr.Apply (codes "c") ((num 4) ∷ []))) ∷ [])) ∷
    on_card 8 body.End ∷ []) ∷
    [])

unfoldable pub overlay_in_a_chain_setting : Setting
overlay_in_a_chain_setting = record {
  homes = ((record { sequence = 0; first = 12 } ∷ record { sequence = 0; first = 4 } ∷ record { sequence = 0; first = 0 } ∷ record { sequence = 1; first = 0 } ∷ []) ∷ []);
  sizes = (28 ∷ 4 ∷ []);
}

-- examples/fortran/common_that_differs_by_unit.f
unfoldable pub common_that_differs_by_unit : FileSet
common_that_differs_by_unit = one_file (
    main_program (
    on_card 1 (body.Common (record { block = Some (codes "b"); items = (record { name = I; dimensions = [] } ∷ record { name = J; dimensions = (record { lower = None; upper = upper.Value (num 2) } ∷ []) } ∷ record { name = K; dimensions = [] } ∷ []) } ∷ [])) ∷
    on_card 2 (body.Common (record { block = None; items = (record { name = M; dimensions = [] } ∷ []) } ∷ [])) ∷
    on_card 3 (body.Assign (expr.Name I) (num 1)) ∷
    on_card 4 (body.Assign (expr.Apply J ((num 1) ∷ [])) (num 2)) ∷
    on_card 5 (body.Assign (expr.Apply J ((num 2) ∷ [])) (num 3)) ∷
    on_card 6 (body.Assign (expr.Name K) (num 4)) ∷
    on_card 7 (body.Assign (expr.Name M) (num 5)) ∷
    on_card 8 (body.Call (codes "s") []) ∷
    on_card 9 (body.Transfer way.Write (record { word = word.Unit; value = value.Star } ∷ record { word = word.Format; value = value.Value (text (codes "(5I3)")) } ∷ []) ((item.Item (expr.Name I)) ∷ (item.Item (expr.Name J)) ∷ (item.Item (expr.Name K)) ∷ (item.Item (expr.Name M)) ∷ [])) ∷
    on_card 10 body.End ∷ []) ∷
    record {
      file = 0;
      card = 11;
      kind = kind.Subroutine;
      name = Some (codes "s");
      dummies = [];
      statements =
          on_card 12 (body.Common (record { block = None; items = (record { name = (codes "l"); dimensions = [] } ∷ []) } ∷ record { block = Some (codes "b"); items = (record { name = N; dimensions = (record { lower = None; upper = upper.Value (num 2) } ∷ record { lower = None; upper = upper.Value (num 2) } ∷ []) } ∷ []) } ∷ [])) ∷
          on_card 13 (body.Common (record { block = None; items = (record { name = (codes "new"); dimensions = [] } ∷ []) } ∷ [])) ∷
          on_card 14 (body.Assign (expr.Name (codes "new")) (num 6)) ∷
          on_card 15 (body.Assign (expr.Apply N ((num 2) ∷ (num 1) ∷ [])) (plus (plus (expr.Apply N ((num 1) ∷ (num 2) ∷ [])) (expr.Name (codes "l"))) (expr.Name (codes "new")))) ∷
          on_card 16 (body.Assign (expr.Apply N ((num 1) ∷ (num 2) ∷ [])) (num 0)) ∷
          on_card 17 body.End ∷ [];
    } ∷
    [])

unfoldable pub common_that_differs_by_unit_setting : Setting
common_that_differs_by_unit_setting = record {
  homes = ((record { sequence = 0; first = 0 } ∷ record { sequence = 0; first = 4 } ∷ record { sequence = 0; first = 12 } ∷ record { sequence = 1; first = 0 } ∷ []) ∷ (record { sequence = 1; first = 0 } ∷ record { sequence = 0; first = 0 } ∷ record { sequence = 1; first = 4 } ∷ []) ∷ []);
  sizes = (16 ∷ 8 ∷ []);
}

-- examples/fortran/common_made_longer.f
unfoldable pub common_made_longer : FileSet
common_made_longer = one_file (
    main_program (
    on_card 1 (body.Common (record { block = None; items = (record { name = I; dimensions = [] } ∷ []) } ∷ [])) ∷
    on_card 2 (body.Declare (record { basic = Integer; length = None }) (record { name = (codes "a"); dimensions = (record { lower = None; upper = upper.Value (num 3) } ∷ []); length = None } ∷ [])) ∷
    on_card 3 (body.Equivalence (record { places = ((expr.Name I) ∷ (expr.Apply (codes "a") ((num 1) ∷ [])) ∷ []) } ∷ [])) ∷
    on_card 4 (body.Call (codes "s") []) ∷
    on_card 5 (body.Transfer way.Write (record { word = word.Unit; value = value.Star } ∷ record { word = word.Format; value = value.Value (text (codes "(3I3)")) } ∷ []) ((item.Item (expr.Name (codes "a"))) ∷ [])) ∷
    on_card 6 body.End ∷ []) ∷
    record {
      file = 0;
      card = 7;
      kind = kind.Subroutine;
      name = Some (codes "s");
      dummies = [];
      statements =
          on_card 8 (body.Common (record { block = None; items = (record { name = J; dimensions = [] } ∷ record { name = K; dimensions = [] } ∷ record { name = (codes "l"); dimensions = [] } ∷ []) } ∷ [])) ∷
          on_card 9 (body.Assign (expr.Name J) (num 1)) ∷
          on_card 10 (body.Assign (expr.Name K) (num 2)) ∷
          on_card 11 (body.Assign (expr.Name (codes "l")) (plus (expr.Name J) (expr.Name K))) ∷
          on_card 12 body.End ∷ [];
    } ∷
    [])

unfoldable pub common_made_longer_setting : Setting
common_made_longer_setting = record {
  homes = ((record { sequence = 0; first = 0 } ∷ record { sequence = 0; first = 0 } ∷ []) ∷ (record { sequence = 0; first = 0 } ∷ record { sequence = 0; first = 4 } ∷ record { sequence = 0; first = 8 } ∷ []) ∷ []);
  sizes = (12 ∷ []);
}

-- examples/fortran/texts_that_overlap.f
unfoldable pub texts_that_overlap : FileSet
texts_that_overlap = one_file (
    main_program (
    on_card 1 (body.Declare (record { basic = Character; length = Some (length'.Value (num 4)) }) (record { name = (codes "a"); dimensions = []; length = None } ∷ [])) ∷
    on_card 2 (body.Declare (record { basic = Character; length = Some (length'.Value (num 3)) }) (record { name = (codes "b"); dimensions = (record { lower = None; upper = upper.Value (num 2) } ∷ []); length = None } ∷ [])) ∷
    on_card 3 (body.Equivalence (record { places = ((expr.Part (expr.Name (codes "a")) (Some (num 3)) (Some (num 3))) ∷ (expr.Part (expr.Apply (codes "b") ((num 1) ∷ [])) (Some (num 2)) (Some (num 2))) ∷ []) } ∷ [])) ∷
    on_card 4 (body.Assign (expr.Apply (codes "b") ((num 1) ∷ [])) (text (codes "abc"))) ∷
    on_card 5 (body.Assign (expr.Apply (codes "b") ((num 2) ∷ [])) (text (codes "xyz"))) ∷
    on_card 6 (body.Assign (expr.Part (expr.Name (codes "a")) (Some (num 1)) (Some (num 2))) (text (codes "PQ"))) ∷
    on_card 7 (body.Transfer way.Write (record { word = word.Unit; value = value.Star } ∷ record { word = word.Format; value = value.Value (text (codes "(3A)")) } ∷ []) ((item.Item (expr.Name (codes "a"))) ∷ (item.Item (expr.Name (codes "b"))) ∷ [])) ∷
    on_card 8 body.End ∷ []) ∷
    [])

unfoldable pub texts_that_overlap_setting : Setting
texts_that_overlap_setting = record {
  homes = ((record { sequence = 0; first = 0 } ∷ record { sequence = 0; first = 1 } ∷ []) ∷ []);
  sizes = (7 ∷ []);
}

-- examples/fortran/arrays_over_their_file.f
unfoldable pub arrays_over_their_file : FileSet
arrays_over_their_file = one_file (
    main_program (
    on_card 1 (body.Declare (record { basic = Character; length = Some (length'.Value (num 2)) }) (record { name = (codes "s"); dimensions = (record { lower = None; upper = upper.Value (num 3) } ∷ []); length = None } ∷ record { name = (codes "t"); dimensions = (record { lower = None; upper = upper.Value (num 3) } ∷ []); length = None } ∷ record { name = (codes "u"); dimensions = (record { lower = None; upper = upper.Value (num 3) } ∷ []); length = None } ∷ record { name = (codes "v"); dimensions = (record { lower = None; upper = upper.Value (num 3) } ∷ []); length = None } ∷ [])) ∷
    on_card 2 (body.Equivalence (record { places = ((expr.Apply (codes "s") ((num 2) ∷ [])) ∷ (expr.Apply (codes "t") ((num 1) ∷ [])) ∷ []) } ∷ record { places = ((expr.Apply (codes "u") ((num 1) ∷ [])) ∷ (expr.Apply (codes "v") ((num 3) ∷ [])) ∷ []) } ∷ [])) ∷
    on_card 3 (body.Assign (expr.Apply (codes "s") ((num 1) ∷ [])) (text (codes "ab"))) ∷
    on_card 4 (body.Assign (expr.Apply (codes "s") ((num 2) ∷ [])) (text (codes "cd"))) ∷
    on_card 5 (body.Assign (expr.Apply (codes "s") ((num 3) ∷ [])) (text (codes "ef"))) ∷
    on_card 6 (body.Transfer way.Read (record { word = word.Unit; value = value.Value (expr.Name (codes "s")) } ∷ record { word = word.Format; value = value.Value (text (codes "(A2)")) } ∷ []) ((item.Item (expr.Name (codes "t"))) ∷ [])) ∷
    on_card 7 (body.Transfer way.Write (record { word = word.Unit; value = value.Star } ∷ record { word = word.Format; value = value.Value (text (codes "(3A)")) } ∷ []) ((item.Item (expr.Name (codes "t"))) ∷ [])) ∷
    on_card 8 (body.Assign (expr.Apply (codes "s") ((num 1) ∷ [])) (text (codes "gh"))) ∷
    on_card 9 (body.Transfer way.Read (record { word = word.Unit; value = value.Value (expr.Name (codes "s")) } ∷ record { word = word.Format; value = value.Star } ∷ []) ((item.Item (expr.Name (codes "t"))) ∷ [])) ∷
    on_card 10 (body.Transfer way.Write (record { word = word.Unit; value = value.Star } ∷ record { word = word.Format; value = value.Value (text (codes "(3A)")) } ∷ []) ((item.Item (expr.Name (codes "t"))) ∷ [])) ∷
    on_card 11 (body.Assign (expr.Apply (codes "v") ((num 1) ∷ [])) (text (codes "uv"))) ∷
    on_card 12 (body.Assign (expr.Apply (codes "v") ((num 2) ∷ [])) (text (codes "wx"))) ∷
    on_card 13 (body.Assign (expr.Apply (codes "v") ((num 3) ∷ [])) (text (codes "yz"))) ∷
    on_card 14 (body.Transfer way.Write (record { word = word.Unit; value = value.Value (expr.Name (codes "u")) } ∷ record { word = word.Format; value = value.Value (text (codes "(A2)")) } ∷ []) ((item.Item (expr.Name (codes "v"))) ∷ [])) ∷
    on_card 15 (body.Transfer way.Write (record { word = word.Unit; value = value.Star } ∷ record { word = word.Format; value = value.Value (text (codes "(3A)")) } ∷ []) ((item.Item (expr.Name (codes "u"))) ∷ [])) ∷
    on_card 16 body.End ∷ []) ∷
    [])

unfoldable pub arrays_over_their_file_setting : Setting
arrays_over_their_file_setting = record {
  homes = ((record { sequence = 0; first = 0 } ∷ record { sequence = 0; first = 2 } ∷ record { sequence = 1; first = 4 } ∷ record { sequence = 1; first = 0 } ∷ []) ∷ []);
  sizes = (8 ∷ 10 ∷ []);
}

-- examples/fortran/values_of_a_block.f
unfoldable pub values_of_a_block : FileSet
values_of_a_block = one_file (
    main_program (
    on_card 1 (body.Common (record { block = Some (codes "t"); items = (record { name = I; dimensions = (record { lower = None; upper = upper.Value (num 5) } ∷ []) } ∷ []) } ∷ [])) ∷
    on_card 2 (body.Common (record { block = Some (codes "u"); items = (record { name = (codes "c"); dimensions = [] } ∷ []) } ∷ [])) ∷
    on_card 3 (body.Declare (record { basic = Character; length = Some (length'.Value (num 3)) }) (record { name = (codes "c"); dimensions = []; length = None } ∷ [])) ∷
    on_card 4 (body.Transfer way.Write (record { word = word.Unit; value = value.Star } ∷ record { word = word.Format; value = value.Value (text (codes "(5I3,1X,A)")) } ∷ []) ((item.Item (expr.Name I)) ∷ (item.Item (expr.Name (codes "c"))) ∷ [])) ∷
    on_card 5 body.End ∷ []) ∷
    record {
      file = 0;
      card = 6;
      kind = kind.BlockData;
      name = None;
      dummies = [];
      statements =
          on_card 7 (body.Common (record { block = Some (codes "t"); items = (record { name = J; dimensions = (record { lower = None; upper = upper.Value (num 2) } ∷ []) } ∷ record { name = K; dimensions = (record { lower = None; upper = upper.Value (num 3) } ∷ []) } ∷ []) } ∷ [])) ∷
          on_card 8 (body.Common (record { block = Some (codes "u"); items = (record { name = (codes "c"); dimensions = [] } ∷ []) } ∷ [])) ∷
          on_card 9 (body.Declare (record { basic = Character; length = Some (length'.Value (num 3)) }) (record { name = (codes "c"); dimensions = []; length = None } ∷ [])) ∷
          on_card 10 (body.Init (record { places = ((item.Item (expr.Name J)) ∷ []); values = (record { count = Some (num 2); value = (num 4) } ∷ []) } ∷ record { places = ((item.Item (expr.Name K)) ∷ []); values = (record { count = None; value = (num 1) } ∷ record { count = Some (num 2); value = (num 9) } ∷ []) } ∷ record { places = ((item.Item (expr.Name (codes "c"))) ∷ []); values = (record { count = None; value = (text (codes "ab")) } ∷ []) } ∷ [])) ∷
          on_card 11 body.End ∷ [];
    } ∷
    [])

unfoldable pub values_of_a_block_setting : Setting
values_of_a_block_setting = record {
  homes = ((record { sequence = 0; first = 0 } ∷ record { sequence = 1; first = 0 } ∷ []) ∷ (record { sequence = 0; first = 0 } ∷ record { sequence = 0; first = 8 } ∷ record { sequence = 1; first = 0 } ∷ []) ∷ []);
  sizes = (20 ∷ 3 ∷ []);
}

-- examples/fortran/block_named_external.f
unfoldable pub block_named_external : FileSet
block_named_external = one_file (
    main_program (
    on_card 1 (body.External ((codes "bd") ∷ [])) ∷
    on_card 2 (body.Common (record { block = Some (codes "t"); items = (record { name = I; dimensions = [] } ∷ []) } ∷ [])) ∷
    on_card 3 (body.Transfer way.Write (record { word = word.Unit; value = value.Star } ∷ record { word = word.Format; value = value.Value (text (codes "(I3)")) } ∷ []) ((item.Item (expr.Name I)) ∷ [])) ∷
    on_card 4 body.End ∷ []) ∷
    record {
      file = 0;
      card = 5;
      kind = kind.BlockData;
      name = Some (codes "bd");
      dummies = [];
      statements =
          on_card 6 (body.Common (record { block = Some (codes "t"); items = (record { name = I; dimensions = [] } ∷ []) } ∷ [])) ∷
          on_card 7 (body.Init (record { places = ((item.Item (expr.Name I)) ∷ []); values = (record { count = None; value = (num 7) } ∷ []) } ∷ [])) ∷
          on_card 8 body.End ∷ [];
    } ∷
    [])

unfoldable pub block_named_external_setting : Setting
block_named_external_setting = record {
  homes = ((record { sequence = 0; first = 0 } ∷ []) ∷ (record { sequence = 0; first = 0 } ∷ []) ∷ []);
  sizes = (4 ∷ []);
}

-- examples/fortran/values_before_the_run.f
unfoldable pub values_before_the_run : FileSet
values_before_the_run = one_file (
    main_program (
    on_card 1 (body.Declare (record { basic = Integer; length = None }) (record { name = (codes "a"); dimensions = (record { lower = None; upper = upper.Value (num 3) } ∷ record { lower = None; upper = upper.Value (num 2) } ∷ []); length = None } ∷ record { name = (codes "b"); dimensions = (record { lower = None; upper = upper.Value (num 4) } ∷ []); length = None } ∷ [])) ∷
    on_card 2 (body.Declare (record { basic = Character; length = Some (length'.Value (num 2)) }) (record { name = (codes "c"); dimensions = (record { lower = None; upper = upper.Value (num 3) } ∷ []); length = None } ∷ [])) ∷
    on_card 3 (body.Declare (record { basic = Logical; length = None }) (record { name = (codes "l"); dimensions = []; length = None } ∷ [])) ∷
    on_card 4 (body.Init (record { places = ((item.Loop ((item.Loop ((item.Item (expr.Apply (codes "a") ((expr.Name I) ∷ (expr.Name J) ∷ []))) ∷ []) (from_to J (num 1) (num 2))) ∷ []) (from_to I (num 1) (num 3))) ∷ []); values = (record { count = None; value = (num 1) } ∷ record { count = None; value = (num 2) } ∷ record { count = None; value = (num 3) } ∷ record { count = None; value = (num 4) } ∷ record { count = None; value = (num 5) } ∷ record { count = None; value = (num 6) } ∷ []) } ∷ record { places = ((item.Item (expr.Name (codes "b"))) ∷ []); values = (record { count = Some (num 4); value = (expr.Minus (num 1)) } ∷ []) } ∷ [])) ∷
    on_card 5 (body.Init (record { places = ((item.Item (expr.Apply (codes "c") ((num 1) ∷ []))) ∷ (item.Item (expr.Part (expr.Apply (codes "c") ((num 3) ∷ [])) (Some (num 2)) (Some (num 2)))) ∷ []); values = (record { count = None; value = (text (codes "xyz")) } ∷ record { count = None; value = (text (codes "w")) } ∷ []) } ∷ record { places = ((item.Item (expr.Name (codes "l"))) ∷ []); values = (record { count = None; value = (expr.Logical true) } ∷ []) } ∷ [])) ∷
    on_card 6 (body.Init (record { places = ((item.Item (expr.Apply (codes "c") ((num 2) ∷ []))) ∷ (item.Item (expr.Part (expr.Apply (codes "c") ((num 3) ∷ [])) (Some (num 1)) (Some (num 1)))) ∷ []); values = (record { count = None; value = (text (codes "q")) } ∷ record { count = None; value = (text (codes "v")) } ∷ []) } ∷ [])) ∷
    on_card 7 (body.Transfer way.Write (record { word = word.Unit; value = value.Star } ∷ record { word = word.Format; value = value.Value (text (codes "(10I3)")) } ∷ []) ((item.Item (expr.Name (codes "a"))) ∷ (item.Item (expr.Name (codes "b"))) ∷ [])) ∷
    on_card 8 (body.Transfer way.Write (record { word = word.Unit; value = value.Star } ∷ record { word = word.Format; value = value.Value (text (codes "(3A,L2)")) } ∷ []) ((item.Item (expr.Name (codes "c"))) ∷ (item.Item (expr.Name (codes "l"))) ∷ [])) ∷
    on_card 9 body.End ∷ []) ∷
    [])

-- examples/fortran/locals_that_stay.f
unfoldable pub locals_that_stay : FileSet
locals_that_stay = one_file (
    main_program (
    on_card 1 (body.Do (Some 10) (from_to I (num 1) (num 3))) ∷
    labelled 10 2 (body.Transfer way.Write (record { word = word.Unit; value = value.Star } ∷ record { word = word.Format; value = value.Value (text (codes "(I4)")) } ∷ []) ((item.Item (expr.Apply (codes "next") ((expr.Name I) ∷ []))) ∷ [])) ∷
    on_card 3 body.End ∷ []) ∷
    record {
      file = 0;
      card = 4;
      kind = kind.Function (record { basic = Integer; length = None });
      name = Some (codes "next");
      dummies = (dummy.Named K ∷ []);
      statements =
          on_card 5 (body.Init (record { places = ((item.Item (expr.Name N)) ∷ []); values = (record { count = None; value = (num 100) } ∷ []) } ∷ [])) ∷
          on_card 6 (body.Assign (expr.Name N) (plus (expr.Name N) (expr.Name K))) ∷
          on_card 7 (body.Assign (expr.Name (codes "next")) (expr.Name N)) ∷
          on_card 8 body.End ∷ [];
    } ∷
    [])

unfoldable pub storage_sources_opened : Unit {0}
unfolding overlay_of_a_matrix overlay_of_a_matrix_setting overlay_in_a_chain overlay_in_a_chain_setting common_that_differs_by_unit common_that_differs_by_unit_setting common_made_longer common_made_longer_setting texts_that_overlap texts_that_overlap_setting arrays_over_their_file arrays_over_their_file_setting values_of_a_block values_of_a_block_setting block_named_external block_named_external_setting values_before_the_run locals_that_stay
storage_sources_opened = tt
