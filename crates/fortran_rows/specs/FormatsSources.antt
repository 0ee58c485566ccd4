-- Formats and internal files: small programs as trees, one for one those in examples/fortran.
use Rattle.std.specs.Prelude.{true, false, [], ◌∷◌, codes, Some, None}
use Rattle.fortran_checks.specs.f_tree.declared.expressions.Expr.{Expr}
use Rattle.fortran_checks.specs.f_tree.declared.expressions.Expr as expr
use Rattle.fortran_checks.specs.f_tree.declared.statements.Body as body
use Rattle.fortran_checks.specs.f_tree.declared.statements.ListItem as item
use Rattle.fortran_checks.specs.f_tree.declared.statements.ControlValue.TheVariants as value
use Rattle.fortran_checks.specs.f_tree.declared.statements.ControlWord.TheVariants as word
use Rattle.fortran_checks.specs.f_tree.declared.statements.Direction.TheVariants as way
use Rattle.fortran_checks.specs.f_tree.declared.units.FileSet.{FileSet}
use Rattle.fortran_checks.specs.f_tree.declared.statements.UpperBound.TheVariants as upper
use Rattle.fortran_checks.specs.f_tree.declared.statements.LengthSpec.TheVariants as length'
use Rattle.fortran_checks.specs.f_tree.declared.names.Basic.TheVariants.{Integer, Logical, Character}
use Rattle.fortran_rows.specs.WorkedSources.{on_card, labelled, main_program, one_file, num, from_to, I, J, K, M, N, plus, times, text}

-- examples/fortran/reversion_to_the_last_group.f
unfoldable pub reversion_to_the_last_group : FileSet
reversion_to_the_last_group = one_file (
    main_program (
    on_card 1 (body.Transfer way.Write (record { word = word.Unit; value = value.Value (num 6) } ∷ record { word = word.Format; value = value.Label 10 } ∷ []) ((item.Item (num 1)) ∷ (item.Item (num 2)) ∷ (item.Item (num 3)) ∷ (item.Item (num 4)) ∷ (item.Item (num 5)) ∷ (item.Item (num 6)) ∷ (item.Item (num 7)) ∷ (item.Item (num 8)) ∷ (item.Item (num 9)) ∷ [])) ∷
    labelled 10 2 (body.Format (codes "(I3,2(1X,I2.2)/)")) ∷
    on_card 3 (body.Transfer way.Write (record { word = word.Unit; value = value.Value (num 6) } ∷ record { word = word.Format; value = value.Label 20 } ∷ []) ((item.Loop ((item.Item (expr.Name I)) ∷ []) (from_to I (num 1) (num 7))) ∷ [])) ∷
    labelled 20 4 (body.Format (codes "('a',I2,2('b',I2,('c',I2)))")) ∷
    on_card 5 body.End ∷ []) ∷
    [])

-- examples/fortran/lists_in_lists.f
unfoldable pub lists_in_lists : FileSet
lists_in_lists = one_file (
    main_program (
    on_card 1 (body.Declare (record { basic = Integer; length = None }) (record { name = (codes "a"); dimensions = (record { lower = None; upper = upper.Value (num 3) } ∷ record { lower = None; upper = upper.Value (num 2) } ∷ []); length = None } ∷ [])) ∷
    on_card 2 (body.Transfer way.Write (record { word = word.Unit; value = value.Star } ∷ record { word = word.Format; value = value.Value (text (codes "(1X,I2,'=',3I3)")) } ∷ []) ((item.Loop ((item.Item (expr.Name J)) ∷ (item.Loop ((item.Item (times (expr.Name I) (expr.Name J))) ∷ []) (from_to I (num 1) (num 3))) ∷ []) (from_to J (num 1) (num 2))) ∷ [])) ∷
    on_card 3 (body.Transfer way.Read (record { word = word.Unit; value = value.Star } ∷ record { word = word.Format; value = value.Value (text (codes "(3I2)")) } ∷ []) ((item.Loop ((item.Loop ((item.Item (expr.Apply (codes "a") ((expr.Name I) ∷ (expr.Name J) ∷ []))) ∷ []) (from_to I (num 1) (num 3))) ∷ []) (from_to J (num 1) (num 2))) ∷ [])) ∷
    on_card 4 (body.Transfer way.Write (record { word = word.Unit; value = value.Star } ∷ record { word = word.Format; value = value.Value (text (codes "(2I3)")) } ∷ []) ((item.Loop ((item.Loop ((item.Item (expr.Apply (codes "a") ((expr.Name I) ∷ (expr.Name J) ∷ []))) ∷ []) (from_to J (num 1) (num 2))) ∷ []) (record { variable = I; first = (num 3); limit = (num 1); step = Some (expr.Minus (num 2)) })) ∷ (item.Item (expr.Apply (codes "a") ((num 2) ∷ (num 2) ∷ []))) ∷ [])) ∷
    on_card 5 body.End ∷ []) ∷
    [])

-- examples/fortran/fields_of_each_kind.f
unfoldable pub fields_of_each_kind : FileSet
fields_of_each_kind = one_file (
    main_program (
    on_card 1 (body.Declare (record { basic = Character; length = Some (length'.Value (num 3)) }) (record { name = (codes "s"); dimensions = []; length = None } ∷ [])) ∷
    on_card 2 (body.Assign (expr.Name (codes "s")) (text (codes "ABC"))) ∷
    on_card 3 (body.Transfer way.Write (record { word = word.Unit; value = value.Star } ∷ record { word = word.Format; value = value.Label 10 } ∷ []) ((item.Item (num 7)) ∷ (item.Item (expr.Minus (num 7))) ∷ (item.Item (num 1234)) ∷ (item.Item (num 0)) ∷ (item.Item (num 5)) ∷ (item.Item (expr.Logical true)) ∷ (item.Item (expr.Logical false)) ∷ [])) ∷
    labelled 10 4 (body.Format (codes "(I3,I3,I3,I3.0,I5.3,L1,L4)")) ∷
    on_card 5 (body.Transfer way.Write (record { word = word.Unit; value = value.Star } ∷ record { word = word.Format; value = value.Label 20 } ∷ []) ((item.Item (expr.Name (codes "s"))) ∷ (item.Item (expr.Name (codes "s"))) ∷ (item.Item (expr.Name (codes "s"))) ∷ (item.Item (text (codes "ABCDEFGH"))) ∷ [])) ∷
    labelled 20 6 (body.Format (codes "(A,A5,A2,A5)")) ∷
    on_card 7 (body.Transfer way.Write (record { word = word.Unit; value = value.Star } ∷ record { word = word.Format; value = value.Label 30 } ∷ []) ((item.Item (num 5)) ∷ (item.Item (num 5)) ∷ (item.Item (expr.Minus (num 5))) ∷ (item.Item (num 0)) ∷ [])) ∷
    labelled 30 8 (body.Format (codes "(SP,I4,S,I4,SP,I4,I3)")) ∷
    on_card 9 body.End ∷ []) ∷
    [])

-- examples/fortran/columns_of_a_record.f
unfoldable pub columns_of_a_record : FileSet
columns_of_a_record = one_file (
    main_program (
    on_card 1 (body.Transfer way.Write (record { word = word.Unit; value = value.Star } ∷ record { word = word.Format; value = value.Label 10 } ∷ []) ((item.Item (num 1)) ∷ (item.Item (num 2)) ∷ (item.Item (num 3)) ∷ (item.Item (num 4)) ∷ [])) ∷
    labelled 10 2 (body.Format (codes "(T10,I2,T3,I2,TR3,'x',TL5,I1,5X,I2)")) ∷
    on_card 3 (body.Transfer way.Write (record { word = word.Unit; value = value.Star } ∷ record { word = word.Format; value = value.Label 20 } ∷ []) []) ∷
    labelled 20 4 (body.Format (codes "(3HABC,2X,'d''e',//,'f')")) ∷
    on_card 5 (body.Transfer way.Write (record { word = word.Unit; value = value.Star } ∷ record { word = word.Format; value = value.Label 30 } ∷ []) ((item.Item (num 1)) ∷ (item.Item (num 2)) ∷ [])) ∷
    labelled 30 6 (body.Format (codes "(I2,:,' of',I2,:,' end')")) ∷
    on_card 7 (body.Transfer way.Write (record { word = word.Unit; value = value.Star } ∷ record { word = word.Format; value = value.Label 30 } ∷ []) ((item.Item (num 1)) ∷ [])) ∷
    on_card 8 body.End ∷ []) ∷
    [])

-- examples/fortran/formats_that_are_texts.f
unfoldable pub formats_that_are_texts : FileSet
formats_that_are_texts = one_file (
    main_program (
    on_card 1 (body.Declare (record { basic = Character; length = Some (length'.Value (num 9)) }) (record { name = (codes "f"); dimensions = []; length = None } ∷ [])) ∷
    on_card 2 (body.Declare (record { basic = Character; length = Some (length'.Value (num 4)) }) (record { name = (codes "g"); dimensions = (record { lower = None; upper = upper.Value (num 3) } ∷ []); length = None } ∷ [])) ∷
    on_card 3 (body.Assign (expr.Name (codes "f")) (text (codes "(2I"))) ∷
    on_card 4 (body.Transfer way.Write (record { word = word.Unit; value = value.Value (expr.Part (expr.Name (codes "f")) (Some (num 4)) (Some (num 6))) } ∷ record { word = word.Format; value = value.Value (text (codes "(I1,A)")) } ∷ []) ((item.Item (num 4)) ∷ (item.Item (text (codes ")"))) ∷ [])) ∷
    on_card 5 (body.Transfer way.Write (record { word = word.Unit; value = value.Star } ∷ record { word = word.Format; value = value.Value (expr.Name (codes "f")) } ∷ []) ((item.Item (num 1)) ∷ (item.Item (num 2)) ∷ [])) ∷
    on_card 6 (body.Assign (expr.Apply (codes "g") ((num 1) ∷ [])) (text (codes "(I2,"))) ∷
    on_card 7 (body.Assign (expr.Apply (codes "g") ((num 2) ∷ [])) (text (codes "'x',"))) ∷
    on_card 8 (body.Assign (expr.Apply (codes "g") ((num 3) ∷ [])) (text (codes "I3)"))) ∷
    on_card 9 (body.Transfer way.Write (record { word = word.Unit; value = value.Star } ∷ record { word = word.Format; value = value.Value (expr.Name (codes "g")) } ∷ []) ((item.Item (num 1)) ∷ (item.Item (num 2)) ∷ [])) ∷
    on_card 10 (body.Transfer way.Write (record { word = word.Unit; value = value.Star } ∷ record { word = word.Format; value = value.Value (expr.Part (expr.Name (codes "f")) (Some (num 1)) (Some (num 5))) } ∷ []) ((item.Item (num 3)) ∷ (item.Item (num 4)) ∷ (item.Item (num 5)) ∷ [])) ∷
    on_card 11 body.End ∷ []) ∷
    [])

-- examples/fortran/texts_as_files.f
unfoldable pub texts_as_files : FileSet
texts_as_files = one_file (
    main_program (
    on_card 1 (body.Declare (record { basic = Character; length = Some (length'.Value (num 8)) }) (record { name = (codes "l"); dimensions = (record { lower = None; upper = upper.Value (num 3) } ∷ []); length = None } ∷ [])) ∷
    on_card 2 (body.Declare (record { basic = Character; length = Some (length'.Value (num 30)) }) (record { name = (codes "s"); dimensions = []; length = None } ∷ [])) ∷
    on_card 3 (body.Declare (record { basic = Logical; length = None }) (record { name = (codes "p"); dimensions = []; length = None } ∷ [])) ∷
    on_card 4 (body.Transfer way.Write (record { word = word.Unit; value = value.Value (expr.Name (codes "l")) } ∷ record { word = word.Format; value = value.Value (text (codes "(I3,I4)")) } ∷ []) ((item.Item (num 1)) ∷ (item.Item (num 2)) ∷ (item.Item (num 3)) ∷ (item.Item (num 4)) ∷ [])) ∷
    on_card 5 (body.Assign (expr.Apply (codes "l") ((num 3) ∷ [])) (text (codes "  -12 34"))) ∷
    on_card 6 (body.Transfer way.Read (record { word = word.Unit; value = value.Value (expr.Name (codes "l")) } ∷ record { word = word.Format; value = value.Value (text (codes "(2I4)")) } ∷ []) ((item.Item (expr.Name I)) ∷ (item.Item (expr.Name J)) ∷ (item.Item (expr.Name K)) ∷ (item.Item (expr.Name M)) ∷ [])) ∷
    on_card 7 (body.Transfer way.Read (record { word = word.Unit; value = value.Value (expr.Apply (codes "l") ((num 3) ∷ [])) } ∷ record { word = word.Format; value = value.Value (text (codes "(I5,I3)")) } ∷ []) ((item.Item (expr.Name N)) ∷ (item.Item (expr.Name I)) ∷ [])) ∷
    on_card 8 (body.Transfer way.Write (record { word = word.Unit; value = value.Value (expr.Name (codes "s")) } ∷ record { word = word.Format; value = value.Star } ∷ []) ((item.Item (expr.Logical true)) ∷ (item.Item (plus (expr.Name I) (expr.Name N))) ∷ [])) ∷
    on_card 9 (body.Transfer way.Read (record { word = word.Unit; value = value.Value (expr.Name (codes "s")) } ∷ record { word = word.Format; value = value.Star } ∷ []) ((item.Item (expr.Name (codes "p"))) ∷ (item.Item (expr.Name (codes "new"))) ∷ [])) ∷
    on_card 10 (body.Transfer way.Write (record { word = word.Unit; value = value.Star } ∷ record { word = word.Format; value = value.Value (text (codes "(6I5,L2)")) } ∷ []) ((item.Item (expr.Name I)) ∷ (item.Item (expr.Name J)) ∷ (item.Item (expr.Name K)) ∷ (item.Item (expr.Name M)) ∷ (item.Item (expr.Name N)) ∷ (item.Item (expr.Name (codes "new"))) ∷ (item.Item (expr.Name (codes "p"))) ∷ [])) ∷
    on_card 11 (body.Transfer way.Write (record { word = word.Unit; value = value.Star } ∷ record { word = word.Format; value = value.Value (text (codes "(3A)")) } ∷ []) ((item.Item (expr.Name (codes "l"))) ∷ [])) ∷
    on_card 12 (body.Transfer way.Read (record { word = word.Unit; value = value.Value (expr.Part (expr.Apply (codes "l") ((num 2) ∷ [])) (Some (num 3)) (Some (num 7))) } ∷ record { word = word.Format; value = value.Star } ∷ record { word = word.OnEnd; value = value.Label 10 } ∷ []) ((item.Item (expr.Name I)) ∷ (item.Item (expr.Name J)) ∷ [])) ∷
    labelled 10 13 (body.Transfer way.Write (record { word = word.Unit; value = value.Star } ∷ record { word = word.Format; value = value.Value (text (codes "(2I5)")) } ∷ []) ((item.Item (expr.Name I)) ∷ (item.Item (expr.Name J)) ∷ [])) ∷
    on_card 14 body.End ∷ []) ∷
    [])

unfoldable pub formats_sources_opened : Unit {0}
unfolding reversion_to_the_last_group lists_in_lists fields_of_each_kind columns_of_a_record formats_that_are_texts texts_as_files
formats_sources_opened = tt
