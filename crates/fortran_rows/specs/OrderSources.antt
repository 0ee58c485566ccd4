-- The order in which operands are valued, where the standard leaves it open: small programs as trees, each for one worked run.
use Rattle.std.specs.Prelude.{[], ◌∷◌, codes, Some, None}
use Rattle.fortran_checks.specs.f_tree.declared.expressions.Expr.{Expr}
use Rattle.fortran_checks.specs.f_tree.declared.expressions.Expr as expr
use Rattle.fortran_checks.specs.f_tree.declared.expressions.BinaryOp.TheVariants as op
use Rattle.fortran_checks.specs.f_tree.declared.statements.Body as body
use Rattle.fortran_checks.specs.f_tree.declared.statements.ListItem as item
use Rattle.fortran_checks.specs.f_tree.declared.statements.ControlValue.TheVariants as value
use Rattle.fortran_checks.specs.f_tree.declared.statements.ControlWord.TheVariants as word
use Rattle.fortran_checks.specs.f_tree.declared.statements.Direction.TheVariants as way
use Rattle.fortran_checks.specs.f_tree.declared.statements.UnitKind.TheVariants as kind
use Rattle.fortran_checks.specs.f_tree.declared.statements.DummyArgument.TheVariants as dummy
use Rattle.fortran_checks.specs.f_tree.declared.statements.LengthSpec.TheVariants as length'
use Rattle.fortran_checks.specs.f_tree.declared.statements.TypeSpec.{TypeSpec}
use Rattle.fortran_checks.specs.f_tree.declared.statements.UpperBound.TheVariants as upper
use Rattle.fortran_checks.specs.f_tree.declared.names.Basic.TheVariants.{Character}
use Rattle.fortran_checks.specs.f_tree.declared.units.FileSet.{FileSet}
use Rattle.fortran_rows.specs.WorkedSources.{on_card, labelled, items, print, main_program, one_file, unit_of, integer_type, integer_function, subroutine, num, up_to, scalar, array, from_to, I, K, M, N, text}

abbrev text_type : TypeSpec
text_type = record { basic = Character; length = Some (length'.Value (num 2)) }

abbrev text_of_any_length : TypeSpec
text_of_any_length = record { basic = Character; length = Some length'.Star }

-- `INTEGER L(2)`, `K=1`, `L(NF(K))=K`, `PRINT *,L(1),K`, `END`, `INTEGER FUNCTION NF(M)`, `M=5`, `NF=1`, `END`
unfoldable pub right_side_first : FileSet
right_side_first =
    let l : Expr → Expr = λ e. expr.Apply (codes "l") (e ∷ []) in
    one_file (
    main_program (
    on_card 1 (body.Declare integer_type (array (codes "l") (up_to 2 ∷ []) ∷ [])) ∷
    on_card 2 (body.Assign (expr.Name K) (num 1)) ∷
    on_card 3 (body.Assign (l (expr.Apply (codes "nf") (expr.Name K ∷ []))) (expr.Name K)) ∷
    on_card 4 (print (l (num 1) ∷ expr.Name K ∷ [])) ∷
    on_card 5 body.End ∷ []) ∷
    integer_function (codes "nf") (M ∷ []) (
    on_card 7 (body.Assign (expr.Name M) (num 5)) ∷
    on_card 8 (body.Assign (expr.Name (codes "nf")) (num 1)) ∷
    on_card 9 body.End ∷ []) ∷ [])

-- `CHARACTER*2 T,F`, `T='AB'`, `PRINT *,T//F(T)`, `T='AB'`, `PRINT *,T.EQ.F(T)`, `END`,
-- `CHARACTER*2 FUNCTION F(S)`, `CHARACTER*2 S`, `S='CD'`, `F='AB'`, `END`
unfoldable pub pieces_fetched_last : FileSet
pieces_fetched_last =
    let t : Expr = expr.Name (codes "t") in
    let f_of_t : Expr = expr.Apply (codes "f") (expr.Name (codes "t") ∷ []) in
    one_file (
    main_program (
    on_card 1 (body.Declare text_type (scalar (codes "t") ∷ scalar (codes "f") ∷ [])) ∷
    on_card 2 (body.Assign t (text (codes "AB"))) ∷
    on_card 3 (print (expr.Binary op.Concatenate t f_of_t ∷ [])) ∷
    on_card 4 (body.Assign t (text (codes "AB"))) ∷
    on_card 5 (print (expr.Binary op.Equal t f_of_t ∷ [])) ∷
    on_card 6 body.End ∷ []) ∷
    unit_of (kind.Function text_type) (codes "f") (codes "s" ∷ []) (
    on_card 8 (body.Declare text_type (scalar (codes "s") ∷ [])) ∷
    on_card 9 (body.Assign (expr.Name (codes "s")) (text (codes "CD"))) ∷
    on_card 10 (body.Assign (expr.Name (codes "f")) (text (codes "AB"))) ∷
    on_card 11 body.End ∷ []) ∷ [])

-- `CHARACTER*4 F`, `F='(I3)'`, `WRITE (FMT=F,UNIT=NF(F)) 7`, `END`, `INTEGER FUNCTION NF(G)`, `CHARACTER*(*) G`, `G='(I5)'`, `NF=6`, `END`
unfoldable pub format_fetched_last : FileSet
format_fetched_last = one_file (
    main_program (
    on_card 1 (body.Declare (record { basic = Character; length = Some (length'.Value (num 4)) }) (scalar (codes "f") ∷ [])) ∷
    on_card 2 (body.Assign (expr.Name (codes "f")) (text (codes "(I3)"))) ∷
    on_card 3 (body.Transfer way.Write (
    record { word = word.Format; value = value.Value (expr.Name (codes "f")) } ∷
    record { word = word.Unit; value = value.Value (expr.Apply (codes "nf") (expr.Name (codes "f") ∷ [])) } ∷ []) (items (num 7 ∷ []))) ∷
    on_card 4 body.End ∷ []) ∷
    integer_function (codes "nf") (codes "g" ∷ []) (
    on_card 6 (body.Declare text_of_any_length (scalar (codes "g") ∷ [])) ∷
    on_card 7 (body.Assign (expr.Name (codes "g")) (text (codes "(I5)"))) ∷
    on_card 8 (body.Assign (expr.Name (codes "nf")) (num 6)) ∷
    on_card 9 body.End ∷ []) ∷ [])

-- `PRINT *,(I,I=1,0),I`, `END`
unfoldable pub items_of_no_turn : FileSet
items_of_no_turn = one_file (main_program (
    on_card 1 (body.Transfer way.Write (record { word = word.Unit; value = value.Star } ∷ record { word = word.Format; value = value.Star } ∷ [])
    (item.Loop (item.Item (expr.Name I) ∷ []) (from_to I (num 1) (num 0)) ∷ item.Item (expr.Name I) ∷ [])) ∷
    on_card 2 body.End ∷ []) ∷ [])

-- `CALL T(4)`, `END`, `SUBROUTINE S(L,N)`, `INTEGER L(N)`, `L(1)=0`, `RETURN`, `ENTRY T(K)`, `PRINT *,K`, `END`
unfoldable pub dimension_of_another_entry : FileSet
dimension_of_another_entry = one_file (
    main_program (on_card 1 (body.Call (codes "t") (num 4 ∷ [])) ∷ on_card 2 body.End ∷ []) ∷
    subroutine (codes "s") (codes "l" ∷ N ∷ []) (
    on_card 4 (body.Declare integer_type (array (codes "l") (record { lower = None; upper = upper.Value (expr.Name N) } ∷ []) ∷ [])) ∷
    on_card 5 (body.Assign (expr.Apply (codes "l") (num 1 ∷ [])) (num 0)) ∷
    on_card 6 (body.Return None) ∷
    on_card 7 (body.Entry (codes "t") (dummy.Named K ∷ [])) ∷
    on_card 8 (print (expr.Name K ∷ [])) ∷
    on_card 9 body.End ∷ []) ∷ [])

-- `CALL S(*10)`, label 10 `END`, `SUBROUTINE S(K)`, `END`
unfoldable pub label_for_a_variable : FileSet
label_for_a_variable = one_file (
    main_program (on_card 1 (body.Call (codes "s") (expr.AltReturn 10 ∷ [])) ∷ labelled 10 2 body.End ∷ []) ∷
    subroutine (codes "s") (K ∷ []) (on_card 4 body.End ∷ []) ∷ [])

-- `EXTERNAL S`, `CALL S(S)`, `END`, `SUBROUTINE S(K)`, `END`
unfoldable pub procedure_for_a_variable : FileSet
procedure_for_a_variable = one_file (
    main_program (
    on_card 1 (body.External (codes "s" ∷ [])) ∷
    on_card 2 (body.Call (codes "s") (expr.Name (codes "s") ∷ [])) ∷
    on_card 3 body.End ∷ []) ∷
    subroutine (codes "s") (K ∷ []) (on_card 5 body.End ∷ []) ∷ [])

unfoldable pub order_sources_opened : Unit {0}
unfolding right_side_first pieces_fetched_last format_fetched_last items_of_no_turn dimension_of_another_entry label_for_a_variable procedure_for_a_variable
order_sources_opened = tt
