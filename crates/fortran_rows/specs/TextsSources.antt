-- Characters: small programs as trees, one for one those in examples/fortran.
use Rattle.std.specs.Prelude.{[], ◌∷◌, codes, Some, None}
use Rattle.fortran_checks.specs.f_tree.declared.expressions.Expr.{Expr}
use Rattle.fortran_checks.specs.f_tree.declared.expressions.Expr as expr
use Rattle.fortran_checks.specs.f_tree.declared.expressions.BinaryOp.TheVariants as op
use Rattle.fortran_checks.specs.f_tree.declared.statements.Body as body
use Rattle.fortran_checks.specs.f_tree.declared.statements.ListItem as item
use Rattle.fortran_checks.specs.f_tree.declared.statements.ControlValue.TheVariants as value
use Rattle.fortran_checks.specs.f_tree.declared.statements.ControlWord.TheVariants as word
use Rattle.fortran_checks.specs.f_tree.declared.statements.Direction.TheVariants as way
use Rattle.fortran_checks.specs.f_tree.declared.statements.UnitKind.TheVariants as kind
use Rattle.fortran_checks.specs.f_tree.declared.units.FileSet.{FileSet}
use Rattle.fortran_checks.specs.f_tree.declared.statements.DummyArgument.TheVariants as dummy
use Rattle.fortran_checks.specs.f_tree.declared.statements.UpperBound.TheVariants as upper
use Rattle.fortran_checks.specs.f_tree.declared.statements.LengthSpec.TheVariants as length'
use Rattle.fortran_checks.specs.f_tree.declared.names.Basic.TheVariants.{Logical, Character}
use Rattle.fortran_rows.specs.WorkedSources.{on_card, labelled, main_program, one_file, num, from_to, I, N, plus, text}

-- examples/fortran/functions_of_any_length.f
unfoldable pub functions_of_any_length : FileSet
functions_of_any_length = one_file (
    main_program (
    on_card 1 (body.Declare (record { basic = Character; length = Some (length'.Value (num 2)) }) (record { name = (codes "f"); dimensions = []; length = None } ∷ record { name = (codes "s"); dimensions = []; length = None } ∷ [])) ∷
    on_card 2 (body.Declare (record { basic = Character; length = Some (length'.Value (num 5)) }) (record { name = (codes "g"); dimensions = []; length = None } ∷ [])) ∷
    on_card 3 (body.Assign (expr.Name (codes "s")) (expr.Apply (codes "f") ((text (codes "Q")) ∷ []))) ∷
    on_card 4 (body.Transfer way.Write (record { word = word.Unit; value = value.Star } ∷ record { word = word.Format; value = value.Value (text (codes "(3A)")) } ∷ []) ((item.Item (expr.Name (codes "s"))) ∷ (item.Item (text (codes "!"))) ∷ (item.Item (expr.Apply (codes "g") ((text (codes "xy")) ∷ (text (codes "z")) ∷ []))) ∷ [])) ∷
    on_card 5 body.End ∷ []) ∷
    record {
      file = 0;
      card = 6;
      kind = kind.Function (record { basic = Character; length = Some (length'.Star) });
      name = Some (codes "f");
      dummies = (dummy.Named (codes "t") ∷ []);
      statements =
          on_card 7 (body.Declare (record { basic = Character; length = Some (length'.Star) }) (record { name = (codes "t"); dimensions = []; length = None } ∷ [])) ∷
          on_card 8 (body.Assign (expr.Name (codes "f")) (expr.Binary op.Concatenate (expr.Binary op.Concatenate (expr.Name (codes "t")) (expr.Name (codes "t"))) (expr.Name (codes "t")))) ∷
          on_card 9 body.End ∷ [];
    } ∷
    record {
      file = 0;
      card = 10;
      kind = kind.Function (record { basic = Character; length = Some (length'.Star) });
      name = Some (codes "g");
      dummies = (dummy.Named (codes "t") ∷ dummy.Named (codes "u") ∷ []);
      statements =
          on_card 11 (body.Declare (record { basic = Character; length = Some (length'.Star) }) (record { name = (codes "t"); dimensions = []; length = None } ∷ record { name = (codes "u"); dimensions = []; length = None } ∷ [])) ∷
          on_card 12 (body.Assign (expr.Name (codes "g")) (expr.Binary op.Concatenate (expr.Name (codes "t")) (expr.Name (codes "u")))) ∷
          on_card 13 (body.Assign (expr.Part (expr.Name (codes "g")) (Some (num 5)) (Some (num 5))) (text (codes "."))) ∷
          on_card 14 (body.IfOne (expr.Binary op.And (expr.Binary op.Equal (expr.Apply (codes "len") ((expr.Name (codes "t")) ∷ [])) (num 2)) (expr.Binary op.Equal (expr.Apply (codes "len") ((expr.Name (codes "g")) ∷ [])) (num 5))) (body.Assign (expr.Part (expr.Name (codes "g")) (Some (num 4)) (Some (num 4))) (text (codes "+")))) ∷
          on_card 15 body.End ∷ [];
    } ∷
    [])

-- examples/fortran/texts_cut_and_filled.f
unfoldable pub texts_cut_and_filled : FileSet
texts_cut_and_filled = one_file (
    main_program (
    on_card 1 (body.Declare (record { basic = Character; length = Some (length'.Value (num 3)) }) (record { name = (codes "s"); dimensions = []; length = None } ∷ [])) ∷
    on_card 2 (body.Declare (record { basic = Character; length = Some (length'.Value (num 6)) }) (record { name = (codes "t"); dimensions = []; length = None } ∷ [])) ∷
    on_card 3 (body.Assign (expr.Name (codes "s")) (expr.Binary op.Concatenate (text (codes "AB")) (text (codes "CDE")))) ∷
    on_card 4 (body.Assign (expr.Name (codes "t")) (expr.Binary op.Concatenate (expr.Name (codes "s")) (text (codes "!")))) ∷
    on_card 5 (body.Transfer way.Write (record { word = word.Unit; value = value.Star } ∷ record { word = word.Format; value = value.Value (text (codes "(4A)")) } ∷ []) ((item.Item (expr.Name (codes "s"))) ∷ (item.Item (expr.Name (codes "t"))) ∷ (item.Item (text (codes "|"))) ∷ [])) ∷
    on_card 6 (body.Assign (expr.Part (expr.Name (codes "t")) (Some (num 2)) (Some (num 3))) (text (codes "xyz"))) ∷
    on_card 7 (body.Assign (expr.Part (expr.Name (codes "t")) (Some (num 5)) None) (text (codes "0"))) ∷
    on_card 8 (body.Assign (expr.Part (expr.Name (codes "s")) (Some (num 1)) (Some (num 1))) (expr.Part (expr.Name (codes "t")) (Some (num 3)) (Some (num 3)))) ∷
    on_card 9 (body.Transfer way.Write (record { word = word.Unit; value = value.Star } ∷ record { word = word.Format; value = value.Value (text (codes "(4A)")) } ∷ []) ((item.Item (expr.Name (codes "s"))) ∷ (item.Item (expr.Name (codes "t"))) ∷ (item.Item (text (codes "|"))) ∷ [])) ∷
    on_card 10 body.End ∷ []) ∷
    [])

-- examples/fortran/texts_compared.f
unfoldable pub texts_compared : FileSet
texts_compared = one_file (
    main_program (
    on_card 1 (body.Declare (record { basic = Logical; length = None }) (record { name = (codes "l"); dimensions = (record { lower = None; upper = upper.Value (num 6) } ∷ []); length = None } ∷ [])) ∷
    on_card 2 (body.Declare (record { basic = Character; length = Some (length'.Value (num 3)) }) (record { name = (codes "a"); dimensions = []; length = None } ∷ record { name = (codes "b"); dimensions = []; length = None } ∷ [])) ∷
    on_card 3 (body.Assign (expr.Name (codes "a")) (text (codes "AB"))) ∷
    on_card 4 (body.Assign (expr.Name (codes "b")) (text (codes "AB "))) ∷
    on_card 5 (body.Assign (expr.Apply (codes "l") ((num 1) ∷ [])) (expr.Binary op.Equal (expr.Name (codes "a")) (expr.Name (codes "b")))) ∷
    on_card 6 (body.Assign (expr.Apply (codes "l") ((num 2) ∷ [])) (expr.Binary op.Less (expr.Name (codes "a")) (text (codes "ABC")))) ∷
    on_card 7 (body.Assign (expr.Apply (codes "l") ((num 3) ∷ [])) (expr.Binary op.Greater (text (codes "b")) (text (codes "ab")))) ∷
    on_card 8 (body.Assign (expr.Apply (codes "l") ((num 4) ∷ [])) (expr.Apply (codes "lge") ((expr.Name (codes "a")) ∷ (text (codes "AB  ")) ∷ []))) ∷
    on_card 9 (body.Assign (expr.Apply (codes "l") ((num 5) ∷ [])) (expr.Apply (codes "llt") ((text (codes "B")) ∷ (text (codes "A")) ∷ []))) ∷
    on_card 10 (body.Assign (expr.Apply (codes "l") ((num 6) ∷ [])) (expr.Binary op.NotEqual (expr.Binary op.Concatenate (expr.Name (codes "a")) (expr.Name (codes "b"))) (text (codes "AB AB")))) ∷
    on_card 11 (body.Transfer way.Write (record { word = word.Unit; value = value.Star } ∷ record { word = word.Format; value = value.Value (text (codes "(6L2)")) } ∷ []) ((item.Item (expr.Name (codes "l"))) ∷ [])) ∷
    on_card 12 body.End ∷ []) ∷
    [])

-- examples/fortran/functions_of_texts.f
unfoldable pub functions_of_texts : FileSet
functions_of_texts = one_file (
    main_program (
    on_card 1 (body.Declare (record { basic = Character; length = Some (length'.Value (num 6)) }) (record { name = (codes "s"); dimensions = []; length = None } ∷ [])) ∷
    on_card 2 (body.Assign (expr.Name (codes "s")) (text (codes "HELLO"))) ∷
    on_card 3 (body.Transfer way.Write (record { word = word.Unit; value = value.Star } ∷ record { word = word.Format; value = value.Value (text (codes "(3I4)")) } ∷ []) ((item.Item (expr.Apply (codes "len") ((expr.Name (codes "s")) ∷ []))) ∷ (item.Item (expr.Apply (codes "index") ((expr.Name (codes "s")) ∷ (text (codes "L")) ∷ []))) ∷ (item.Item (expr.Apply (codes "index") ((expr.Name (codes "s")) ∷ (text (codes "X")) ∷ []))) ∷ [])) ∷
    on_card 4 (body.Transfer way.Write (record { word = word.Unit; value = value.Star } ∷ record { word = word.Format; value = value.Value (text (codes "(3I4)")) } ∷ []) ((item.Item (expr.Apply (codes "ichar") ((expr.Part (expr.Name (codes "s")) (Some (num 1)) (Some (num 1))) ∷ []))) ∷ (item.Item (expr.Apply (codes "index") ((expr.Name (codes "s")) ∷ (text (codes "LO")) ∷ []))) ∷ (item.Item (expr.Apply (codes "ichar") ((expr.Apply (codes "char") ((num 200) ∷ [])) ∷ []))) ∷ [])) ∷
    on_card 5 (body.Transfer way.Write (record { word = word.Unit; value = value.Star } ∷ record { word = word.Format; value = value.Value (text (codes "(2A)")) } ∷ []) ((item.Item (expr.Apply (codes "char") ((num 72) ∷ []))) ∷ (item.Item (expr.Apply (codes "char") ((plus (expr.Apply (codes "ichar") ((text (codes "h")) ∷ [])) (num 1)) ∷ []))) ∷ [])) ∷
    on_card 6 body.End ∷ []) ∷
    [])

-- examples/fortran/parts_of_elements.f
unfoldable pub parts_of_elements : FileSet
parts_of_elements = one_file (
    main_program (
    on_card 1 (body.Declare (record { basic = Character; length = Some (length'.Value (num 4)) }) (record { name = (codes "a"); dimensions = (record { lower = None; upper = upper.Value (num 3) } ∷ []); length = None } ∷ [])) ∷
    on_card 2 (body.Init (record { places = ((item.Item (expr.Name (codes "a"))) ∷ []); values = (record { count = None; value = (text (codes "abcd")) } ∷ record { count = None; value = (text (codes "efgh")) } ∷ record { count = None; value = (text (codes "ijkl")) } ∷ []) } ∷ [])) ∷
    on_card 3 (body.Do (Some 10) (from_to I (num 1) (num 3))) ∷
    labelled 10 4 (body.Assign (expr.Part (expr.Apply (codes "a") ((expr.Name I) ∷ [])) (Some (expr.Name I)) (Some (plus (expr.Name I) (num 1)))) (expr.Part (expr.Apply (codes "a") ((plus (expr.Apply (codes "mod") ((expr.Name I) ∷ (num 3) ∷ [])) (num 1)) ∷ [])) (Some (num 1)) (Some (num 2)))) ∷
    on_card 5 (body.Transfer way.Write (record { word = word.Unit; value = value.Star } ∷ record { word = word.Format; value = value.Value (text (codes "(3(1X,A))")) } ∷ []) ((item.Item (expr.Name (codes "a"))) ∷ [])) ∷
    on_card 6 (body.Call (codes "s") ((expr.Part (expr.Apply (codes "a") ((num 2) ∷ [])) (Some (num 2)) (Some (num 3))) ∷ (expr.Name (codes "a")) ∷ [])) ∷
    on_card 7 (body.Transfer way.Write (record { word = word.Unit; value = value.Star } ∷ record { word = word.Format; value = value.Value (text (codes "(3(1X,A))")) } ∷ []) ((item.Item (expr.Name (codes "a"))) ∷ [])) ∷
    on_card 8 body.End ∷ []) ∷
    record {
      file = 0;
      card = 9;
      kind = kind.Subroutine;
      name = Some (codes "s");
      dummies = (dummy.Named (codes "t") ∷ dummy.Named (codes "b") ∷ []);
      statements =
          on_card 10 (body.Declare (record { basic = Character; length = Some (length'.Star) }) (record { name = (codes "t"); dimensions = []; length = None } ∷ record { name = (codes "b"); dimensions = (record { lower = None; upper = upper.Value (num 2) } ∷ []); length = None } ∷ [])) ∷
          on_card 11 (body.Assign (expr.Name (codes "t")) (text (codes "?"))) ∷
          on_card 12 (body.Assign (expr.Apply (codes "b") ((num 1) ∷ [])) (expr.Binary op.Concatenate (expr.Name (codes "t")) (expr.Part (expr.Apply (codes "b") ((num 2) ∷ [])) (Some (num 1)) (Some (num 1))))) ∷
          on_card 13 body.End ∷ [];
    } ∷
    [])

-- examples/fortran/entries_of_texts.f
unfoldable pub entries_of_texts : FileSet
entries_of_texts = one_file (
    main_program (
    on_card 1 (body.Declare (record { basic = Character; length = Some (length'.Value (num 3)) }) (record { name = (codes "fa"); dimensions = []; length = None } ∷ record { name = (codes "fb"); dimensions = []; length = None } ∷ [])) ∷
    on_card 2 (body.Transfer way.Write (record { word = word.Unit; value = value.Star } ∷ record { word = word.Format; value = value.Value (text (codes "(4A)")) } ∷ []) ((item.Item (expr.Apply (codes "fa") ((text (codes "x")) ∷ []))) ∷ (item.Item (expr.Apply (codes "fb") ((num 2) ∷ []))) ∷ (item.Item (text (codes "|"))) ∷ [])) ∷
    on_card 3 body.End ∷ []) ∷
    record {
      file = 0;
      card = 4;
      kind = kind.Function (record { basic = Character; length = Some (length'.Value (num 3)) });
      name = Some (codes "fa");
      dummies = (dummy.Named (codes "t") ∷ []);
      statements =
          on_card 5 (body.Declare (record { basic = Character; length = Some (length'.Star) }) (record { name = (codes "t"); dimensions = []; length = None } ∷ [])) ∷
          on_card 6 (body.Declare (record { basic = Character; length = Some (length'.Value (num 3)) }) (record { name = (codes "fb"); dimensions = []; length = None } ∷ [])) ∷
          on_card 7 (body.Assign (expr.Name (codes "fa")) (expr.Binary op.Concatenate (expr.Name (codes "t")) (expr.Name (codes "t")))) ∷
          on_card 8 (body.Return None) ∷
          on_card 9 (body.Entry (codes "fb") (dummy.Named N ∷ [])) ∷
          on_card 10 (body.Assign (expr.Name (codes "fa")) (text (codes "abc"))) ∷
          on_card 11 (body.Assign (expr.Part (expr.Name (codes "fb")) (Some (expr.Name N)) (Some (expr.Name N))) (text (codes "-"))) ∷
          on_card 12 body.End ∷ [];
    } ∷
    [])

unfoldable pub texts_sources_opened : Unit {0}
unfolding functions_of_any_length texts_cut_and_filled texts_compared functions_of_texts parts_of_elements entries_of_texts
texts_sources_opened = tt
