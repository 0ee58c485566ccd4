-- Small programs that break rows of storage, and others that do not quite.
use Rattle.std.specs.Prelude.{ℕ, List, [], ◌∷◌, codes, Option, Some, None}
use Rattle.declaration_rows.specs.f_tree.declared.expressions.Expr.{Expr}
use Rattle.declaration_rows.specs.f_tree.declared.expressions.Expr as expr
use Rattle.declaration_rows.specs.f_tree.declared.expressions.BinaryOp.TheVariants as op
use Rattle.declaration_rows.specs.f_tree.declared.statements.ArrayDeclarator.{ArrayDeclarator}
use Rattle.declaration_rows.specs.f_tree.declared.statements.Body.{Body}
use Rattle.declaration_rows.specs.f_tree.declared.statements.Body as body
use Rattle.declaration_rows.specs.f_tree.declared.statements.DataGroup.{DataGroup}
use Rattle.declaration_rows.specs.f_tree.declared.statements.DataValue.{DataValue}
use Rattle.declaration_rows.specs.f_tree.declared.statements.LengthSpec.TheVariants as length'
use Rattle.declaration_rows.specs.f_tree.declared.statements.ListItem as item
use Rattle.declaration_rows.specs.f_tree.declared.statements.UnitKind.TheVariants as kind
use Rattle.declaration_rows.specs.f_tree.declared.names.Basic.TheVariants.{Character}
use Rattle.declaration_rows.specs.f_tree.declared.units.Unit.{Unit as WrittenUnit}
use Rattle.declaration_rows.specs.f_tree.declared.units.FileSet.{FileSet}
use Rattle.fortran_rows.specs.WorkedSources.{on_card, one_file, unit_of, integer_type, num, up_to, scalar, array, text, I, J}
use Rattle.declaration_samples.specs.OrderSources.{main_of, two_units}

abbrev array_a : ℕ → Body
array_a n = body.Declare integer_type (array (codes "a") (up_to n ∷ []) ∷ [])

abbrev a : ℕ → Expr
a n = expr.Apply (codes "a") (num n ∷ [])

abbrev tied : Expr → Expr → Body
tied one other = body.Equivalence (record { places = one ∷ other ∷ [] } ∷ [])

abbrev bare : List ℕ → ArrayDeclarator
bare x = record { name = x; dimensions = [] }

abbrev common : Option (List ℕ) → List ArrayDeclarator → Body
common block names = body.Common (record { block = block; items = names } ∷ [])

unfoldable pub each_once : List Expr → List DataValue
each_once [] = []
each_once (e ∷ es) = record { count = None; value = e } ∷ each_once es

abbrev group : List ℕ → List Expr → DataGroup
group x values = record { places = item.Item (expr.Name x) ∷ []; values = each_once values }

-- `INTEGER A(2)`, `EQUIVALENCE (A(1),I)`, `EQUIVALENCE (A(n),I)`, `END`
unfoldable pub tied_twice : ℕ → FileSet
tied_twice n = main_of (array_a 2 ∷ tied (a 1) (expr.Name I) ∷ tied (a n) (expr.Name I) ∷ body.End ∷ [])

-- `COMMON /B/ I`, `COMMON /C/ J`, `EQUIVALENCE (I,J)`, `END`
unfoldable pub blocks_joined : FileSet
blocks_joined =
    main_of (common (Some (codes "b")) (bare I ∷ []) ∷ common (Some (codes "c")) (bare J ∷ []) ∷ tied (expr.Name I) (expr.Name J) ∷ body.End ∷ [])

-- `INTEGER A(2)`, `COMMON /B/ I`, `EQUIVALENCE (I,A(n))`, `END`
unfoldable pub block_extended : ℕ → FileSet
block_extended n = main_of (array_a 2 ∷ common (Some (codes "b")) (bare I ∷ []) ∷ tied (expr.Name I) (a n) ∷ body.End ∷ [])

-- `CHARACTER*n C`, `COMMON /M/ C,I`, `END`
unfoldable pub number_behind_a_text : ℕ → FileSet
number_behind_a_text n = main_of (
    body.Declare (record { basic = Character; length = Some (length'.Value (num n)) }) (scalar (codes "c") ∷ []) ∷
    common (Some (codes "m")) (bare (codes "c") ∷ bare I ∷ []) ∷ body.End ∷ [])

-- `DATA I/../`, `END`
unfoldable pub values_of_i : List Expr → FileSet
values_of_i values = main_of (body.Init (group I values ∷ []) ∷ body.End ∷ [])

-- `DATA I/1/`, `DATA I/2/`, `END`
unfoldable pub value_given_twice : FileSet
value_given_twice = main_of (body.Init (group I (num 1 ∷ []) ∷ []) ∷ body.Init (group I (num 2 ∷ []) ∷ []) ∷ body.End ∷ [])

-- `COMMON ..I`, `DATA I/1/`, `END`
unfoldable pub common_filled : Option (List ℕ) → FileSet
common_filled block = main_of (common block (bare I ∷ []) ∷ body.Init (group I (num 1 ∷ []) ∷ []) ∷ body.End ∷ [])

-- `BLOCK DATA`, `COMMON /B/ I`, `DATA I/1/`, `END`, on the cards from one on
unfoldable pub block_data_of_b : List ℕ → ℕ → ℕ → WrittenUnit
block_data_of_b x first second = unit_of kind.BlockData x []
    (on_card first (common (Some (codes "b")) (bare I ∷ [])) ∷ on_card second (body.Init (group I (num 1 ∷ []) ∷ [])) ∷ on_card 9 body.End ∷ [])

-- `SUBROUTINE`, `COMMON ..`, `END`
unfoldable pub with_common : List ℕ → ℕ → Option (List ℕ) → List ArrayDeclarator → WrittenUnit
with_common x card block names = unit_of kind.Subroutine x [] (on_card card (common block names) ∷ on_card 9 body.End ∷ [])

unfoldable pub lengths_that_differ : Option (List ℕ) → FileSet
lengths_that_differ block = two_units (with_common (codes "s") 2 block (bare I ∷ [])) (with_common (codes "t") 5 block (bare I ∷ bare J ∷ []))

-- `INTEGER A(n)`, `END`
unfoldable pub array_of : ℕ → FileSet
array_of n = main_of (array_a n ∷ body.End ∷ [])

-- `SUBROUTINE S(C)`, `CHARACTER*(*) C`, `CHARACTER*4 D`, a statement, `END`
abbrev pub C : Expr
C = expr.Name (codes "c")

unfoldable pub with_any_length : Body → FileSet
with_any_length b = one_file (unit_of kind.Subroutine (codes "s") (codes "c" ∷ []) (
    on_card 2 (body.Declare (record { basic = Character; length = Some length'.Star }) (scalar (codes "c") ∷ [])) ∷
    on_card 3 (body.Declare (record { basic = Character; length = Some (length'.Value (num 4)) }) (scalar (codes "d") ∷ [])) ∷
    on_card 4 b ∷ on_card 5 body.End ∷ []) ∷ [])

unfoldable pub joined_to : Expr → Expr
joined_to e = expr.Binary op.Concatenate e (text (codes "x"))

unfoldable pub calling_with : Expr → FileSet
calling_with e = with_any_length (body.Call (codes "t") (e ∷ []))

unfoldable pub setting_d : Expr → FileSet
setting_d e = with_any_length (body.Assign (expr.Name (codes "d")) e)

unfoldable pub compared_to : Expr → FileSet
compared_to e = with_any_length (body.IfOne (expr.Binary op.Equal C e) (body.Return None))

unfoldable pub storage_strays_opened : Unit {0}
unfolding each_once tied_twice blocks_joined block_extended number_behind_a_text values_of_i value_given_twice common_filled block_data_of_b with_common lengths_that_differ array_of with_any_length joined_to calling_with setting_d compared_to
storage_strays_opened = tt
