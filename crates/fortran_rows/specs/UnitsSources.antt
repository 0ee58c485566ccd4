-- Statements on units: small programs as trees, one for one those in examples/fortran.
use Rattle.std.specs.Prelude.{[], ◌∷◌, codes, Some}
use Rattle.fortran_checks.specs.f_tree.declared.expressions.Expr.{Expr}
use Rattle.fortran_checks.specs.f_tree.declared.expressions.Expr as expr
use Rattle.fortran_checks.specs.f_tree.declared.statements.Body as body
use Rattle.fortran_checks.specs.f_tree.declared.statements.ListItem as item
use Rattle.fortran_checks.specs.f_tree.declared.statements.ControlValue.TheVariants as value
use Rattle.fortran_checks.specs.f_tree.declared.statements.ControlWord.TheVariants as word
use Rattle.fortran_checks.specs.f_tree.declared.statements.Direction.TheVariants as way
use Rattle.fortran_checks.specs.f_tree.declared.units.FileSet.{FileSet}
use Rattle.fortran_checks.specs.f_tree.declared.statements.AuxiliaryKind.TheVariants as auxiliary
use Rattle.fortran_rows.specs.WorkedSources.{on_card, labelled, main_program, one_file, num, from_to, I, J, K, M, N, plus, times, text}

-- examples/fortran/records_read_again.f
unfoldable pub records_read_again : FileSet
records_read_again = one_file (
    main_program (
    on_card 1 (body.Auxiliary auxiliary.OpenUnit (record { word = word.Unit; value = value.Value (num 9) } ∷ record { word = word.File; value = value.Value (text (codes "d")) } ∷ [])) ∷
    on_card 2 (body.Do (Some 10) (from_to I (num 1) (num 3))) ∷
    labelled 10 3 (body.Transfer way.Write (record { word = word.Unit; value = value.Value (num 9) } ∷ record { word = word.Format; value = value.Value (text (codes "(I2)")) } ∷ []) ((item.Item (times (expr.Name I) (expr.Name I))) ∷ [])) ∷
    on_card 4 (body.Auxiliary auxiliary.Rewind (record { word = word.Unit; value = value.Value (num 9) } ∷ [])) ∷
    on_card 5 (body.Transfer way.Read (record { word = word.Unit; value = value.Value (num 9) } ∷ record { word = word.Format; value = value.Value (text (codes "(I2)")) } ∷ []) ((item.Item (expr.Name I)) ∷ (item.Item (expr.Name J)) ∷ [])) ∷
    on_card 6 (body.Auxiliary auxiliary.Backspace (record { word = word.Unit; value = value.Value (num 9) } ∷ [])) ∷
    on_card 7 (body.Transfer way.Read (record { word = word.Unit; value = value.Value (num 9) } ∷ record { word = word.Format; value = value.Value (text (codes "(I2)")) } ∷ []) ((item.Item (expr.Name K)) ∷ [])) ∷
    on_card 8 (body.Auxiliary auxiliary.Backspace (record { word = word.Unit; value = value.Value (num 9) } ∷ [])) ∷
    on_card 9 (body.Transfer way.Write (record { word = word.Unit; value = value.Value (num 9) } ∷ record { word = word.Format; value = value.Value (text (codes "(I2)")) } ∷ []) ((item.Item (num 77)) ∷ [])) ∷
    on_card 10 (body.Auxiliary auxiliary.EndFile (record { word = word.Unit; value = value.Value (num 9) } ∷ [])) ∷
    on_card 11 (body.Auxiliary auxiliary.Rewind (record { word = word.Unit; value = value.Value (num 9) } ∷ [])) ∷
    on_card 12 (body.Assign (expr.Name N) (num 0)) ∷
    labelled 20 13 (body.Transfer way.Read (record { word = word.Unit; value = value.Value (num 9) } ∷ record { word = word.Format; value = value.Value (text (codes "(I2)")) } ∷ record { word = word.OnEnd; value = value.Label 30 } ∷ []) ((item.Item (expr.Name (codes "l"))) ∷ [])) ∷
    on_card 14 (body.Assign (expr.Name N) (plus (expr.Name N) (expr.Name (codes "l")))) ∷
    on_card 15 (body.Goto 20) ∷
    labelled 30 16 (body.Transfer way.Write (record { word = word.Unit; value = value.Star } ∷ record { word = word.Format; value = value.Value (text (codes "(4I4)")) } ∷ []) ((item.Item (expr.Name I)) ∷ (item.Item (expr.Name J)) ∷ (item.Item (expr.Name K)) ∷ (item.Item (expr.Name N)) ∷ [])) ∷
    on_card 17 (body.Auxiliary auxiliary.CloseUnit (record { word = word.Unit; value = value.Value (num 9) } ∷ [])) ∷
    on_card 18 body.End ∷ []) ∷
    [])

-- examples/fortran/statuses_of_units.f
unfoldable pub statuses_of_units : FileSet
statuses_of_units = one_file (
    main_program (
    on_card 1 (body.Auxiliary auxiliary.OpenUnit (record { word = word.Unit; value = value.Value (num 8) } ∷ record { word = word.File; value = value.Value (text (codes "d")) } ∷ record { word = word.FileStatus; value = value.Value (text (codes "UNKNOWN")) } ∷ record { word = word.Status; value = value.Value (expr.Name N) } ∷ [])) ∷
    on_card 2 (body.Transfer way.Write (record { word = word.Unit; value = value.Value (num 8) } ∷ record { word = word.Format; value = value.Value (text (codes "(I1)")) } ∷ []) ((item.Item (num 5)) ∷ [])) ∷
    on_card 3 (body.Auxiliary auxiliary.EndFile (record { word = word.Unit; value = value.Value (num 8) } ∷ [])) ∷
    on_card 4 (body.Auxiliary auxiliary.Rewind (record { word = word.Unit; value = value.Value (num 8) } ∷ record { word = word.Status; value = value.Value (expr.Name I) } ∷ [])) ∷
    on_card 5 (body.Transfer way.Read (record { word = word.Unit; value = value.Value (num 8) } ∷ record { word = word.Format; value = value.Value (text (codes "(I1)")) } ∷ record { word = word.Status; value = value.Value (expr.Name J) } ∷ []) ((item.Item (expr.Name M)) ∷ [])) ∷
    on_card 6 (body.Transfer way.Read (record { word = word.Unit; value = value.Value (num 8) } ∷ record { word = word.Format; value = value.Value (text (codes "(I1)")) } ∷ record { word = word.Status; value = value.Value (expr.Name K) } ∷ []) ((item.Item (expr.Name (codes "l"))) ∷ [])) ∷
    on_card 7 (body.Transfer way.Write (record { word = word.Unit; value = value.Star } ∷ record { word = word.Format; value = value.Value (text (codes "(5I3)")) } ∷ []) ((item.Item (expr.Name N)) ∷ (item.Item (expr.Name I)) ∷ (item.Item (expr.Name J)) ∷ (item.Item (expr.Name M)) ∷ (item.Item (expr.Name K)) ∷ [])) ∷
    on_card 8 (body.Auxiliary auxiliary.CloseUnit (record { word = word.Unit; value = value.Value (num 8) } ∷ record { word = word.FileStatus; value = value.Value (text (codes "KEEP")) } ∷ [])) ∷
    on_card 9 (body.Auxiliary auxiliary.CloseUnit (record { word = word.Unit; value = value.Value (num 8) } ∷ record { word = word.Status; value = value.Value (expr.Name N) } ∷ [])) ∷
    on_card 10 (body.Transfer way.Write (record { word = word.Unit; value = value.Star } ∷ record { word = word.Format; value = value.Value (text (codes "(I3)")) } ∷ []) ((item.Item (expr.Name N)) ∷ [])) ∷
    on_card 11 body.End ∷ []) ∷
    [])

-- examples/fortran/blanks_as_zeros.f
unfoldable pub blanks_as_zeros : FileSet
blanks_as_zeros = one_file (
    main_program (
    on_card 1 (body.Auxiliary auxiliary.OpenUnit (record { word = word.Unit; value = value.Value (num 9) } ∷ record { word = word.File; value = value.Value (text (codes "d")) } ∷ record { word = word.Blank; value = value.Value (text (codes "ZERO")) } ∷ [])) ∷
    on_card 2 (body.Transfer way.Write (record { word = word.Unit; value = value.Value (num 9) } ∷ record { word = word.Format; value = value.Value (text (codes "(A)")) } ∷ []) ((item.Item (text (codes "1 2 "))) ∷ [])) ∷
    on_card 3 (body.Auxiliary auxiliary.Rewind (record { word = word.Unit; value = value.Value (num 9) } ∷ [])) ∷
    on_card 4 (body.Transfer way.Read (record { word = word.Unit; value = value.Value (num 9) } ∷ record { word = word.Format; value = value.Value (text (codes "(I4)")) } ∷ []) ((item.Item (expr.Name I)) ∷ [])) ∷
    on_card 5 (body.Auxiliary auxiliary.Rewind (record { word = word.Unit; value = value.Value (num 9) } ∷ [])) ∷
    on_card 6 (body.Transfer way.Read (record { word = word.Unit; value = value.Value (num 9) } ∷ record { word = word.Format; value = value.Value (text (codes "(BN,I4)")) } ∷ []) ((item.Item (expr.Name J)) ∷ [])) ∷
    on_card 7 (body.Transfer way.Write (record { word = word.Unit; value = value.Star } ∷ record { word = word.Format; value = value.Value (text (codes "(2I6)")) } ∷ []) ((item.Item (expr.Name I)) ∷ (item.Item (expr.Name J)) ∷ [])) ∷
    on_card 8 body.End ∷ []) ∷
    [])

unfoldable pub units_sources_opened : Unit {0}
unfolding records_read_again statuses_of_units blanks_as_zeros
units_sources_opened = tt
