-- A main program that is plain, and three that are not, each for one reason. ANSI X3.9-1978, sections 4.1, 5.1, 8.2, 11.1, 11.6 and 11.10.
use Rattle.std.specs.Prelude.{◌≡◌, ℕ, false, true, List, [], ◌∷◌, ◌++◌, codes, Some, None, pos}
use Rattle.main_translation_laws.specs.f_tree.declared.expressions.Expr.{Expr}
use Rattle.main_translation_laws.specs.f_tree.declared.expressions.Expr as expr
use Rattle.main_translation_laws.specs.f_tree.declared.expressions.BinaryOp.TheVariants as op
use Rattle.main_translation_laws.specs.f_tree.declared.names.Basic.TheVariants.{Integer}
use Rattle.main_translation_laws.specs.f_tree.declared.names.Options.{Options}
use Rattle.main_translation_laws.specs.f_tree.declared.statements.Body.{Body}
use Rattle.main_translation_laws.specs.f_tree.declared.statements.Body as body
use Rattle.main_translation_laws.specs.f_tree.declared.statements.ControlValue.TheVariants as value
use Rattle.main_translation_laws.specs.f_tree.declared.statements.ControlWord.TheVariants as word
use Rattle.main_translation_laws.specs.f_tree.declared.statements.Direction.TheVariants as way
use Rattle.main_translation_laws.specs.f_tree.declared.statements.ListItem.{ListItem}
use Rattle.main_translation_laws.specs.f_tree.declared.statements.ListItem as item
use Rattle.main_translation_laws.specs.f_tree.declared.statements.Stmt.{Stmt}
use Rattle.main_translation_laws.specs.f_tree.declared.statements.UnitKind.TheVariants as kind
use Rattle.main_translation_laws.specs.f_tree.declared.statements.UpperBound.TheVariants as upper
use Rattle.main_translation_laws.specs.f_tree.declared.units.Unit.{Unit as WrittenUnit}
use Rattle.main_translation_laws.specs.plain_forms.PlainUnits.{is_plain_main}

-- a statement on a card
abbrev pub on_card : ℕ → Body → Stmt
on_card n b = record { label = None; file = 0; card = n; body = b }

-- the same with a label
abbrev pub labelled : ℕ → ℕ → Body → Stmt
labelled label n b = record { label = Some label; file = 0; card = n; body = b }

-- a constant
abbrev pub number : ℕ → Expr
number n = expr.Int (pos n)

-- an element of the array A
abbrev pub element : Expr → Expr
element e = expr.Apply (codes "a") (e ∷ [])

-- the items of an output list
abbrev pub items : List Expr → List ListItem
items [] = []
items (e ∷ es) = item.Item e ∷ items es

-- PRINT with the format `*`
abbrev pub print : List Expr → Body
print es = body.Transfer way.Write (record { word = word.Unit; value = value.Star } ∷ record { word = word.Format; value = value.Star } ∷ []) (items es)

-- INTEGER of the array A with an upper bound
abbrev pub array_up_to : Expr → Stmt
array_up_to last =
    on_card 1 (body.Declare (record { basic = Integer; length = None }) (record { name = codes "a"; dimensions = record { lower = None; upper = upper.Value last } ∷ []; length = None } ∷ []))

-- `DO 10 I=1,3`, label 10 `A(I)=I`
abbrev pub filled : List Stmt
filled =
    on_card 3 (body.Do (Some 10) (record { variable = codes "i"; first = number 1; limit = number 3; step = None })) ∷
    labelled 10 4 (body.Assign (element (expr.Name (codes "i"))) (expr.Name (codes "i"))) ∷ []

-- `IF (A(3).GT.A(1)) THEN`, `PRINT *,A(2)`, `END IF`, `END`
abbrev pub printed : List Stmt
printed =
    on_card 5 (body.IfThen (expr.Binary op.Greater (element (number 3)) (element (number 1)))) ∷
    on_card 6 (print (element (number 2) ∷ [])) ∷
    on_card 7 body.EndIf ∷
    on_card 8 body.End ∷ []

-- `PROGRAM FILL` with some statements
abbrev pub main_of : List Stmt → WrittenUnit
main_of statements = record { file = 0; card = 1; kind = kind.Main; name = Some (codes "fill"); dummies = []; statements = statements }

-- `INTEGER A(3)`: an array that is filled by a loop, and printed in an IF block
unfoldable pub array_filled_and_printed : WrittenUnit
array_filled_and_printed = main_of (array_up_to (number 3) ∷ (filled ++ printed))

-- the same with `EQUIVALENCE (A(1),K)` before the loop
unfoldable pub array_tied_to_a_variable : WrittenUnit
array_tied_to_a_variable =
    main_of (array_up_to (number 3) ∷ on_card 2 (body.Equivalence (record { places = element (number 1) ∷ expr.Name (codes "k") ∷ [] } ∷ [])) ∷ (filled ++ printed))

-- the same with `GO TO 10` before the loop: a branch into its range
unfoldable pub loop_entered_by_a_branch : WrittenUnit
loop_entered_by_a_branch = main_of (array_up_to (number 3) ∷ on_card 2 (body.Goto 10) ∷ (filled ++ printed))

-- the same with `INTEGER A(N)`: a bound that is no constant
unfoldable pub array_up_to_a_variable : WrittenUnit
array_up_to_a_variable = main_of (array_up_to (expr.Name (codes "n")) ∷ (filled ++ printed))

-- the first is plain, and the others are not
pub record ExamplesAreTold : Type 0 where
  pub plain : (options : Options) → is_plain_main options array_filled_and_printed ≡ true
  pub tied : (options : Options) → is_plain_main options array_tied_to_a_variable ≡ false
  pub entered : (options : Options) → is_plain_main options loop_entered_by_a_branch ≡ false
  pub unbounded : (options : Options) → is_plain_main options array_up_to_a_variable ≡ false

unfoldable pub examples_opened : Unit {0}
unfolding array_filled_and_printed array_tied_to_a_variable loop_entered_by_a_branch array_up_to_a_variable
examples_opened = tt
