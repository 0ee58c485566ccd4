-- Functions and a subroutine that are plain, and the function with one thing more or another, by which it is not. ANSI X3.9-1978, sections 4.1, 5.1.1.1,
-- 5.1.2.2, 5.5, 8.6, 15.5.1, 15.6, 15.7 and 15.9.2.
use Rattle.std.specs.Prelude.{◌≡◌, pos, false, true, List, [], ◌∷◌, ◌++◌, codes, Some, None}
use Rattle.plain_mains.specs.f_tree.declared.expressions.Expr as expr
use Rattle.plain_mains.specs.f_tree.declared.expressions.BinaryOp.TheVariants as op
use Rattle.plain_mains.specs.f_tree.declared.names.Basic.TheVariants.{Integer, Character}
use Rattle.plain_mains.specs.f_tree.declared.names.Options.{Options}
use Rattle.plain_mains.specs.f_tree.declared.statements.Body as body
use Rattle.plain_mains.specs.f_tree.declared.statements.Dimension.{Dimension as WrittenDimension}
use Rattle.plain_mains.specs.f_tree.declared.statements.DummyArgument.{DummyArgument}
use Rattle.plain_mains.specs.f_tree.declared.statements.DummyArgument.TheVariants as dummy
use Rattle.plain_mains.specs.f_tree.declared.statements.Stmt.{Stmt}
use Rattle.plain_mains.specs.f_tree.declared.statements.UnitKind.TheVariants as kind
use Rattle.plain_mains.specs.f_tree.declared.statements.UpperBound.TheVariants as upper
use Rattle.plain_mains.specs.f_tree.declared.units.Unit.{Unit as WrittenUnit}
use Rattle.plain_mains.specs.f_tree.Terms.{Add, Subtract}
use Rattle.plain_mains.specs.f_tree.Values.{IsInt}
use Rattle.plain_mains.specs.f_tree.Lines.{unit_read}
use Rattle.unit_translation_laws.specs.unit_translation.l_core.Pures.{Constant, Load, Name, Operated}
use Rattle.unit_translation_laws.specs.unit_file.UnitFile.{LowerOf, SizeOf, KeptBound}
use Rattle.unit_translation_laws.specs.unit_translation.UnitBounds.{bounds_kept}
use Rattle.plain_mains.specs.Examples.{on_card, number, element, array_up_to}
use Rattle.unit_translation_laws.specs.unit_forms.PlainProcedures.{is_plain_unit}

-- `INTEGER FUNCTION LAST` with a list of dummies and some statements
abbrev pub function_of : List DummyArgument → List Stmt → WrittenUnit
function_of dummies statements =
    record { file = 0; card = 1; kind = kind.Function (record { basic = Integer; length = None }); name = Some (codes "last"); dummies = dummies; statements = statements }

-- `INTEGER A(3)`, `EXTERNAL K`
abbrev pub declared : List Stmt
declared = array_up_to (number 3) ∷ on_card 2 (body.External (codes "k" ∷ [])) ∷ []

-- `LAST=A(N)+K(N)`, `END`
abbrev pub valued : List Stmt
valued =
    on_card 5 (body.Assign (expr.Name (codes "last")) (expr.Binary op.Plus (element (expr.Name (codes "n"))) (expr.Apply (codes "k") (expr.Name (codes "n") ∷ [])))) ∷
    on_card 6 body.End ∷ []

-- `(A,K,N)`
abbrev pub its_dummies : List DummyArgument
its_dummies = dummy.Named (codes "a") ∷ dummy.Named (codes "k") ∷ dummy.Named (codes "n") ∷ []

-- a function of an array, a function and a variable
unfoldable pub element_and_function : WrittenUnit
element_and_function = function_of its_dummies (declared ++ valued)

-- `SUBROUTINE STEP(N)`, `N=N+1`, `END`
unfoldable pub variable_stepped : WrittenUnit
variable_stepped = record {
  file = 0;
  card = 1;
  kind = kind.Subroutine;
  name = Some (codes "step");
  dummies = dummy.Named (codes "n") ∷ [];
  statements = on_card 2 (body.Assign (expr.Name (codes "n")) (expr.Binary op.Plus (expr.Name (codes "n")) (number 1))) ∷ on_card 3 body.End ∷ [];
}

-- the function with `CHARACTER N`
unfoldable pub dummy_of_text : WrittenUnit
dummy_of_text =
    function_of its_dummies (declared ++ on_card 3 (body.Declare (record { basic = Character; length = None }) (record { name = codes "n"; dimensions = []; length = None } ∷ [])) ∷ valued)

-- with `DIMENSION LAST(2)`
unfoldable pub result_of_many : WrittenUnit
result_of_many =
    function_of its_dummies (declared ++ on_card 3 (body.Dimension (record { name = codes "last"; dimensions = record { lower = None; upper = upper.Value (number 2) } ∷ [] } ∷ [])) ∷ valued)

-- with `(A,K,N,N)`
unfoldable pub dummy_twice : WrittenUnit
dummy_twice = function_of (its_dummies ++ dummy.Named (codes "n") ∷ []) (declared ++ valued)

-- with `ENTRY M(N)`
unfoldable pub entered_twice : WrittenUnit
entered_twice = function_of its_dummies (declared ++ on_card 3 (body.Entry (codes "m") (dummy.Named (codes "n") ∷ [])) ∷ valued)

-- with `PARAMETER (N=1)`
unfoldable pub constant_as_dummy : WrittenUnit
constant_as_dummy = function_of its_dummies (declared ++ on_card 3 (body.Parameter (record { name = codes "n"; value = number 1 } ∷ [])) ∷ valued)

-- with `(A,K,N,LAST)`
unfoldable pub result_as_dummy : WrittenUnit
result_as_dummy = function_of (its_dummies ++ dummy.Named (codes "last") ∷ []) (declared ++ valued)

-- a dimension from 1 up to a bound that is not written, but `*`
abbrev pub assumed : WrittenDimension
assumed = record { lower = None; upper = upper.Star }

-- the function with `INTEGER A` of some dimensions, and `EXTERNAL K`
abbrev pub with_dimensions : List WrittenDimension → WrittenUnit
with_dimensions ds =
    function_of its_dummies
    (on_card 1 (body.Declare (record { basic = Integer; length = None }) (record { name = codes "a"; dimensions = ds; length = None } ∷ [])) ∷ on_card 2 (body.External (codes "k" ∷ [])) ∷ valued)

-- with `INTEGER A(*)`
unfoldable pub array_of_any_length : WrittenUnit
array_of_any_length = with_dimensions (assumed ∷ [])

-- with `INTEGER A(*,2)`
unfoldable pub first_bound_assumed : WrittenUnit
first_bound_assumed = with_dimensions (assumed ∷ record { lower = None; upper = upper.Value (number 2) } ∷ [])

-- from 1 up to a bound that is written
abbrev pub up_to : expr.Expr → WrittenDimension
up_to e = record { lower = None; upper = upper.Value e }

-- with `INTEGER A(N)`
unfoldable pub array_of_given_length : WrittenUnit
array_of_given_length = with_dimensions (up_to (expr.Name (codes "n")) ∷ [])

-- with `INTEGER A(0:N+1,*)`
unfoldable pub array_of_given_columns : WrittenUnit
array_of_given_columns =
    with_dimensions (record { lower = Some (number 0); upper = upper.Value (expr.Binary op.Plus (expr.Name (codes "n")) (number 1)) } ∷ assumed ∷ [])

-- with `INTEGER A(N**2)`
unfoldable pub bound_with_power : WrittenUnit
bound_with_power = with_dimensions (up_to (expr.Binary op.Power (expr.Name (codes "n")) (number 2)) ∷ [])

-- with `DIMENSION B(N)`, which is no dummy
unfoldable pub stored_of_given_length : WrittenUnit
stored_of_given_length =
    function_of its_dummies (declared ++ on_card 3 (body.Dimension (record { name = codes "b"; dimensions = up_to (expr.Name (codes "n")) ∷ [] } ∷ [])) ∷ valued)

-- with `DIMENSION B(*)`, which is no dummy
unfoldable pub stored_of_any_length : WrittenUnit
stored_of_any_length =
    function_of its_dummies (declared ++ on_card 3 (body.Dimension (record { name = codes "b"; dimensions = assumed ∷ [] } ∷ [])) ∷ valued)

-- what is kept of `A(0:N+1,*)`: the lower bound of each dimension, and the size of the first
abbrev pub kept_of_columns : List KeptBound
kept_of_columns =
    record { dummy = codes "a"; place = 0; kind = LowerOf; value = Constant (IsInt (pos 0)) }
    ∷ record {
      dummy = codes "a";
      place = 0;
      kind = SizeOf;
      value = Operated Add (Operated Subtract (Operated Add (Load (Name (codes "n"))) (Constant (IsInt (pos 1)))) (Constant (IsInt (pos 0)))) (Constant (IsInt (pos 1)));
    }
    ∷ record { dummy = codes "a"; place = 1; kind = LowerOf; value = Constant (IsInt (pos 1)) }
    ∷ []

-- the first five are plain, and the others are not; of arrays whose bounds are constant or assumed nothing is kept
pub record ExamplesAreTold : Type 0 where
  pub function : (options : Options) → is_plain_unit options element_and_function ≡ true
  pub subroutine : (options : Options) → is_plain_unit options variable_stepped ≡ true
  pub any_length : (options : Options) → is_plain_unit options array_of_any_length ≡ true
  pub given_length : (options : Options) → is_plain_unit options array_of_given_length ≡ true
  pub given_columns : (options : Options) → is_plain_unit options array_of_given_columns ≡ true
  pub text : (options : Options) → is_plain_unit options dummy_of_text ≡ false
  pub many : (options : Options) → is_plain_unit options result_of_many ≡ false
  pub twice : (options : Options) → is_plain_unit options dummy_twice ≡ false
  pub entered : (options : Options) → is_plain_unit options entered_twice ≡ false
  pub constant : (options : Options) → is_plain_unit options constant_as_dummy ≡ false
  pub result : (options : Options) → is_plain_unit options result_as_dummy ≡ false
  pub first_assumed : (options : Options) → is_plain_unit options first_bound_assumed ≡ false
  pub stored_assumed : (options : Options) → is_plain_unit options stored_of_any_length ≡ false
  pub power : (options : Options) → is_plain_unit options bound_with_power ≡ false
  pub stored_given : (options : Options) → is_plain_unit options stored_of_given_length ≡ false
  pub nothing_kept : (options : Options) → bounds_kept (unit_read options array_of_any_length) ≡ []
  pub columns_kept : (options : Options) → bounds_kept (unit_read options array_of_given_columns) ≡ kept_of_columns

unfoldable pub examples_opened : Unit {0}
unfolding element_and_function variable_stepped dummy_of_text result_of_many dummy_twice entered_twice constant_as_dummy result_as_dummy array_of_any_length first_bound_assumed array_of_given_length array_of_given_columns bound_with_power stored_of_given_length stored_of_any_length
examples_opened = tt
