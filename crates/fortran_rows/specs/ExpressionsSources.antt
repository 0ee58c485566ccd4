-- Expressions: small programs as trees, one for one those in examples/fortran.
use Rattle.std.specs.Prelude.{true, false, [], ◌∷◌, codes, Some, None}
use Rattle.fortran_checks.specs.f_tree.declared.expressions.Expr.{Expr}
use Rattle.fortran_checks.specs.f_tree.declared.expressions.Expr as expr
use Rattle.fortran_checks.specs.f_tree.declared.expressions.BinaryOp.TheVariants as op
use Rattle.fortran_checks.specs.f_tree.declared.statements.Body as body
use Rattle.fortran_checks.specs.f_tree.declared.statements.ListItem as item
use Rattle.fortran_checks.specs.f_tree.declared.statements.ControlValue.TheVariants as value
use Rattle.fortran_checks.specs.f_tree.declared.statements.ControlWord.TheVariants as word
use Rattle.fortran_checks.specs.f_tree.declared.statements.Direction.TheVariants as way
use Rattle.fortran_checks.specs.f_tree.declared.statements.UnitKind.TheVariants as kind
use Rattle.fortran_checks.specs.f_tree.declared.units.FileSet.{FileSet}
use Rattle.fortran_checks.specs.f_tree.declared.statements.UpperBound.TheVariants as upper
use Rattle.fortran_checks.specs.f_tree.declared.statements.LengthSpec.TheVariants as length'
use Rattle.fortran_checks.specs.f_tree.declared.names.Basic.TheVariants.{Integer, Logical, Character}
use Rattle.fortran_rows.specs.WorkedSources.{on_card, labelled, print, main_program, one_file, num, from_to, I, M, N, plus, minus, times, text}

-- examples/fortran/powers_and_quotients.f
unfoldable pub powers_and_quotients : FileSet
powers_and_quotients = one_file (
    main_program (
    on_card 1 (body.Transfer way.Write (record { word = word.Unit; value = value.Star } ∷ record { word = word.Format; value = value.Value (text (codes "(4I5)")) } ∷ []) ((item.Item (expr.Binary op.Power (num 2) (expr.Binary op.Power (num 3) (num 2)))) ∷ (item.Item (expr.Binary op.Power (expr.Paren (expr.Minus (num 2))) (expr.Paren (expr.Minus (num 1))))) ∷ (item.Item (expr.Binary op.Power (num 1) (expr.Paren (expr.Minus (num 5))))) ∷ (item.Item (expr.Binary op.Power (expr.Paren (expr.Minus (num 1))) (num 3))) ∷ [])) ∷
    on_card 2 (body.Transfer way.Write (record { word = word.Unit; value = value.Star } ∷ record { word = word.Format; value = value.Value (text (codes "(4I5)")) } ∷ []) ((item.Item (expr.Minus (expr.Binary op.Power (num 2) (num 2)))) ∷ (item.Item (expr.Binary op.Divide (num 7) (num 2))) ∷ (item.Item (expr.Minus (expr.Binary op.Divide (num 7) (num 2)))) ∷ (item.Item (expr.Binary op.Power (num 5) (num 0))) ∷ [])) ∷
    on_card 3 (body.Transfer way.Write (record { word = word.Unit; value = value.Star } ∷ record { word = word.Format; value = value.Value (text (codes "(4I5)")) } ∷ []) ((item.Item (expr.Apply (codes "mod") ((expr.Minus (num 7)) ∷ (num 3) ∷ []))) ∷ (item.Item (expr.Apply (codes "mod") ((num 7) ∷ (expr.Minus (num 3)) ∷ []))) ∷ (item.Item (expr.Apply (codes "sign") ((num 3) ∷ (expr.Minus (num 2)) ∷ []))) ∷ (item.Item (expr.Apply (codes "sign") ((expr.Minus (num 3)) ∷ (num 0) ∷ []))) ∷ [])) ∷
    on_card 4 (body.Transfer way.Write (record { word = word.Unit; value = value.Star } ∷ record { word = word.Format; value = value.Value (text (codes "(4I5)")) } ∷ []) ((item.Item (expr.Apply (codes "dim") ((num 5) ∷ (num 3) ∷ []))) ∷ (item.Item (expr.Apply (codes "dim") ((num 3) ∷ (num 5) ∷ []))) ∷ (item.Item (expr.Apply (codes "iabs") ((expr.Minus (num 4)) ∷ []))) ∷ (item.Item (expr.Apply (codes "max") ((num 3) ∷ (num 9) ∷ (num 4) ∷ []))) ∷ [])) ∷
    on_card 5 (body.Transfer way.Write (record { word = word.Unit; value = value.Star } ∷ record { word = word.Format; value = value.Value (text (codes "(4I5)")) } ∷ []) ((item.Item (expr.Apply (codes "min0") ((num 3) ∷ (expr.Minus (num 1)) ∷ (num 2) ∷ []))) ∷ (item.Item (expr.Apply (codes "int") ((num 6) ∷ []))) ∷ (item.Item (minus (plus (num 2) (times (num 3) (num 4))) (expr.Binary op.Divide (num 6) (num 4)))) ∷ (item.Item (times (num 2) (expr.Paren (plus (num 3) (num 4))))) ∷ [])) ∷
    on_card 6 body.End ∷ []) ∷
    [])

-- examples/fortran/constants_by_name.f
unfoldable pub constants_by_name : FileSet
constants_by_name = one_file (
    main_program (
    on_card 1 (body.Implicit (record { spec = record { basic = Logical; length = None }; letters = (record { first = 97; last = 99 } ∷ []) } ∷ record { spec = record { basic = Character; length = Some (length'.Value (num 3)) }; letters = (record { first = 120; last = 122 } ∷ []) } ∷ [])) ∷
    on_card 2 (body.Parameter (record { name = N; value = (num 4) } ∷ record { name = M; value = (minus (times (expr.Name N) (expr.Name N)) (num 1)) } ∷ record { name = (codes "x"); value = (text (codes "abcd")) } ∷ record { name = (codes "a"); value = (expr.Logical true) } ∷ [])) ∷
    on_card 3 (body.Declare (record { basic = Integer; length = None }) (record { name = (codes "t"); dimensions = (record { lower = Some (expr.Name N); upper = upper.Value (expr.Name M) } ∷ []); length = None } ∷ [])) ∷
    on_card 4 (body.Do (Some 10) (from_to I (expr.Name N) (expr.Name M))) ∷
    labelled 10 5 (body.Assign (expr.Apply (codes "t") ((expr.Name I) ∷ [])) (expr.Name I)) ∷
    on_card 6 (body.Assign (expr.Name (codes "b")) (expr.Binary op.And (expr.Name (codes "a")) (expr.Binary op.Equal (expr.Apply (codes "t") ((expr.Name M) ∷ [])) (num 15)))) ∷
    on_card 7 (body.Assign (expr.Name (codes "y")) (expr.Name (codes "x"))) ∷
    on_card 8 (body.Transfer way.Write (record { word = word.Unit; value = value.Star } ∷ record { word = word.Format; value = value.Value (text (codes "(I3,2L2,2A)")) } ∷ []) ((item.Item (plus (expr.Apply (codes "t") ((expr.Name N) ∷ [])) (expr.Name M))) ∷ (item.Item (expr.Name (codes "a"))) ∷ (item.Item (expr.Name (codes "b"))) ∷ (item.Item (expr.Name (codes "x"))) ∷ (item.Item (expr.Part (expr.Name (codes "y")) (Some (num 2)) None)) ∷ [])) ∷
    on_card 9 body.End ∷ []) ∷
    [])

-- examples/fortran/operands_of_logicals.f
unfoldable pub operands_of_logicals : FileSet
operands_of_logicals = one_file (
    main_program (
    on_card 1 (body.Declare (record { basic = Logical; length = None }) (record { name = (codes "t"); dimensions = []; length = None } ∷ record { name = (codes "f"); dimensions = []; length = None } ∷ [])) ∷
    on_card 2 (body.Assign (expr.Name (codes "t")) (expr.Logical true)) ∷
    on_card 3 (body.Assign (expr.Name (codes "f")) (expr.Logical false)) ∷
    on_card 4 (body.Transfer way.Write (record { word = word.Unit; value = value.Star } ∷ record { word = word.Format; value = value.Value (text (codes "(4L2)")) } ∷ []) ((item.Item (expr.Binary op.And (expr.Name (codes "t")) (expr.Not (expr.Name (codes "f"))))) ∷ (item.Item (expr.Binary op.Or (expr.Name (codes "t")) (expr.Binary op.And (expr.Name (codes "f")) (expr.Name (codes "f"))))) ∷ (item.Item (expr.Binary op.Equivalent (expr.Name (codes "t")) (expr.Name (codes "f")))) ∷ (item.Item (expr.Binary op.NotEquivalent (expr.Name (codes "t")) (expr.Name (codes "f")))) ∷ [])) ∷
    on_card 5 (body.Transfer way.Write (record { word = word.Unit; value = value.Star } ∷ record { word = word.Format; value = value.Value (text (codes "(4L2)")) } ∷ []) ((item.Item (expr.Binary op.Or (expr.Not (expr.Name (codes "t"))) (expr.Name (codes "t")))) ∷ (item.Item (expr.Binary op.Equivalent (expr.Name (codes "f")) (expr.Binary op.Or (expr.Name (codes "f")) (expr.Name (codes "t"))))) ∷ (item.Item (expr.Binary op.LessOrEqual (num 3) (num 3))) ∷ (item.Item (expr.Binary op.And (expr.Binary op.Greater (num 1) (num 1)) (expr.Name (codes "t")))) ∷ [])) ∷
    on_card 6 body.End ∷ []) ∷
    [])

-- examples/fortran/lists_by_value.f
unfoldable pub lists_by_value : FileSet
lists_by_value = one_file (
    record {
      file = 0;
      card = 2;
      kind = kind.Main;
      name = None;
      dummies = [];
      statements =
          on_card 2 (body.Declare (record { basic = Logical; length = None }) (record { name = (codes "l"); dimensions = []; length = None } ∷ [])) ∷
          on_card 3 (body.Declare (record { basic = Integer; length = None }) (record { name = (codes "a"); dimensions = (record { lower = None; upper = upper.Value (num 2) } ∷ record { lower = Some (num 0); upper = upper.Value (num 1) } ∷ []); length = None } ∷ [])) ∷
          on_card 4 (body.Assign (expr.Apply (codes "a") ((num 2) ∷ (num 1) ∷ [])) (expr.Apply (codes "mod") ((expr.Minus (num 7)) ∷ (num 3) ∷ []))) ∷
          on_card 5 (body.Assign (expr.Name (codes "l")) (expr.Binary op.And (expr.Binary op.Less (expr.Apply (codes "a") ((num 2) ∷ (num 1) ∷ [])) (num 0)) (expr.Not (expr.Logical false)))) ∷
          on_card 6 (print ((expr.Apply (codes "a") ((num 2) ∷ (num 1) ∷ [])) ∷ (expr.Name (codes "l")) ∷ (expr.Apply (codes "max") ((num 3) ∷ (num 9) ∷ (num 4) ∷ [])) ∷ [])) ∷
          on_card 7 (body.Transfer way.Write (record { word = word.Unit; value = value.Star } ∷ record { word = word.Format; value = value.Star } ∷ []) ((item.Loop ((item.Item (times (expr.Name I) (expr.Name I))) ∷ []) (from_to I (num 1) (num 12))) ∷ [])) ∷
          on_card 8 body.End ∷ [];
    } ∷
    [])

unfoldable pub expressions_sources_opened : Unit {0}
unfolding powers_and_quotients constants_by_name operands_of_logicals lists_by_value
expressions_sources_opened = tt
