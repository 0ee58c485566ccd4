-- Which statements of a unit stand out of order (F25), which definitions of statement functions come too late (F40), and which ENTRY
-- statements stand where none may (F41). ANSI X3.9-1978, sections 3.5 (order of statements), 8.5 and 8.6 (IMPLICIT, PARAMETER), 15.4
-- (statement functions), 15.7 (ENTRY), 15.8 (RETURN) and 16 (block data); MIL-STD-1753 for IMPLICIT NONE.
use Rattle.std.specs.Prelude.{Bool, true, false, not, ◌&&◌, ◌||◌, List, [], ◌∷◌, ◌++◌, map}
use Rattle.std.specs.List.{list_any}
use Rattle.fortran_text.specs.f_tree.declared.refusals.Kind.{Kind}
use Rattle.fortran_text.specs.f_tree.declared.refusals.Kind.TheVariants.{StatementOutOfOrder, BadStatementFunction}
use Rattle.fortran_text.specs.f_tree.declared.refusals.Refusal.{Refusal}
use Rattle.fortran_text.specs.f_tree.declared.statements.Body.{Body}
use Rattle.fortran_text.specs.f_tree.declared.statements.Body.TheOpen as body
use Rattle.fortran_text.specs.f_tree.declared.statements.Declarator.{Declarator}
use Rattle.fortran_text.specs.f_tree.declared.statements.ImplicitGroup.{ImplicitGroup}
use Rattle.fortran_text.specs.f_tree.declared.statements.UnitKind.{UnitKind}
use Rattle.fortran_text.specs.f_tree.declared.statements.UnitKind.TheVariants as kind
use Rattle.fortran_text.specs.f_tree.declared.statements.Stmt.{Stmt}
use Rattle.fortran_text.specs.f_tree.declared.units.Unit.{Unit as WrittenUnit}
use Rattle.fortran_text.specs.f_tree.Values.{Bytes}
use Rattle.fortran_text.specs.f_tree.Folds.{fold_body, layer_of}
use Rattle.fortran_text.specs.f_tree.Uses.{Use, Manner, Declared, is_among, uses_of_body}
use Rattle.fortran_text.specs.f_tree.Attributes.{constants_in, definitions_in, arrays_of, letter_is_in, is_not_empty}
use Rattle.declaration_rows.specs.Judgement.{unless}
use Rattle.declaration_rows.specs.NameRows.{stood}

-- THE ORDER OF STATEMENTS (3.5). What a statement is there
pub data Rank : Type 0 where
  -- FORMAT, ENTRY and END, which may stand anywhere
  Anywhere : Rank
  Implicit : Rank
  Parameter : Rank
  Specification : Rank
  -- DATA
  Initial : Rank
  -- the definition of a statement function
  Definition : Rank
  Executable : Rank
  -- a PROGRAM, SUBROUTINE, FUNCTION or BLOCK DATA statement that does not begin its unit
  Heading : Rank

unfoldable pub assigned_rank : Bool → Rank
assigned_rank true = Definition
assigned_rank false = Executable

-- the names of the unit's arrays are given
unfoldable pub rank_of : List Bytes → Body → Rank
rank_of arrays b = elim (layer_of b) [
  | body.Header kind name dummies ↦ Heading
  | body.Declare type items ↦ Specification
  | body.Dimension items ↦ Specification
  | body.Common groups ↦ Specification
  | body.Equivalence groups ↦ Specification
  | body.Implicit groups ↦ Implicit
  | body.ImplicitNone ↦ Implicit
  | body.Parameter items ↦ Parameter
  | body.External xs ↦ Specification
  | body.Intrinsic xs ↦ Specification
  | body.Save items ↦ Specification
  | body.Init groups ↦ Initial
  | body.Format text ↦ Anywhere
  | body.Entry name dummies ↦ Anywhere
  | body.Assign target e ↦ assigned_rank (is_not_empty (definitions_in arrays b))
  | body.Include name ↦ Anywhere
  | body.End ↦ Anywhere
  | _ ↦ Executable
]

-- how far the statements before have come: to none but IMPLICIT and PARAMETER, to specifications, to DATA and definitions of statement
-- functions, or to executable statements
pub data Stage : Type 0 where
  AtImplicits : Stage
  AtSpecifications : Stage
  AtDefinitions : Stage
  AtExecutables : Stage

unfoldable pub is_before_definitions : Stage → Bool
is_before_definitions AtImplicits = true
is_before_definitions AtSpecifications = true
is_before_definitions _ = false

unfoldable pub is_at_implicits : Stage → Bool
is_at_implicits AtImplicits = true
is_at_implicits _ = false

unfoldable pub is_at_executables : Stage → Bool
is_at_executables AtExecutables = true
is_at_executables _ = false

unfoldable pub order_rows : Stage → Rank → List Kind
order_rows stage Implicit = unless (is_at_implicits stage) StatementOutOfOrder
order_rows stage Parameter = unless (is_before_definitions stage) StatementOutOfOrder
order_rows stage Specification = unless (is_before_definitions stage) StatementOutOfOrder
order_rows stage Definition = unless (not (is_at_executables stage)) BadStatementFunction
order_rows stage Heading = StatementOutOfOrder ∷ []
order_rows stage _ = []

-- what stands out of order leaves the stage as it is
unfoldable pub stage_behind : Stage → Rank → Stage
stage_behind AtImplicits Specification = AtSpecifications
stage_behind AtImplicits Initial = AtDefinitions
stage_behind AtImplicits Definition = AtDefinitions
stage_behind AtSpecifications Initial = AtDefinitions
stage_behind AtSpecifications Definition = AtDefinitions
stage_behind stage Executable = AtExecutables
stage_behind stage _ = stage

-- IMPLICIT NONE is the unit's only IMPLICIT statement
unfoldable pub is_implicit_none : Body → Bool
is_implicit_none b = elim (layer_of b) [ body.ImplicitNone ↦ true | _ ↦ false ]

unfoldable pub is_implicit : Body → Bool
is_implicit b = elim (layer_of b) [ body.ImplicitNone ↦ true | body.Implicit groups ↦ true | _ ↦ false ]

unfoldable pub is_second_implicit : List Stmt → Body → Bool
is_second_implicit before b =
    is_implicit b && (list_any (λ s. is_implicit_none s.body) before || (is_implicit_none b && list_any (λ s. is_implicit s.body) before))

-- CONSTANTS (3.5, 8.6). What types the name of a constant stands before the PARAMETER statement that defines it, and what uses the name
-- behind it
unfoldable pub is_typed_by_letter : Bytes → List ImplicitGroup → Bool
is_typed_by_letter [] groups = false
is_typed_by_letter (c ∷ cs) groups = list_any (λ (g : ImplicitGroup). letter_is_in c g.letters) groups

unfoldable pub types_name : Body → Bytes → Bool
types_name b x = elim (layer_of b) [
  | body.Declare spec items ↦ is_among x (map (λ (d : Declarator). d.name) items)
  | body.Implicit groups ↦ is_typed_by_letter x groups
  | _ ↦ false
]

unfoldable pub constants_before : List Stmt → List Bytes
constants_before [] = []
constants_before (s ∷ before) = map (λ d. d.name) (constants_in s.body) ++ constants_before before

unfoldable pub is_use : Manner → Bool
is_use Declared = false
is_use _ = true

unfoldable pub uses_name : List Bytes → Bytes → Stmt → Bool
uses_name arrays x s = list_any (λ (u : Use). is_use u.manner && is_among u.name (x ∷ [])) (uses_of_body arrays s.body)

unfoldable pub is_used_before : List Bytes → List Stmt → Bytes → Bool
is_used_before arrays before x = list_any (uses_name arrays x) before

unfoldable pub constant_order_rows : List Bytes → List Stmt → Body → List Kind
constant_order_rows arrays before b =
    unless (not (list_any (types_name b) (constants_before before))) StatementOutOfOrder ++
    unless (not (list_any (is_used_before arrays before) (map (λ d. d.name) (constants_in b)))) StatementOutOfOrder

-- RETURN has no meaning in a main program (15.8), also as the statement of a logical IF
unfoldable pub layer_returns : body.Body-F Bool → Bool
layer_returns (body.Return e) = true
layer_returns (body.IfOne e b) = b
layer_returns _ = false

unfoldable pub returns : Body → Bool
returns b = fold_body layer_returns b

-- the statements of a block data subprogram (16.2); an ENTRY there is told as such
unfoldable pub stands_in_block_data : Body → Bool
stands_in_block_data b = elim (layer_of b) [
  | body.Declare type items ↦ true
  | body.Dimension items ↦ true
  | body.Common groups ↦ true
  | body.Equivalence groups ↦ true
  | body.Implicit groups ↦ true
  | body.ImplicitNone ↦ true
  | body.Parameter items ↦ true
  | body.Save items ↦ true
  | body.Init groups ↦ true
  | body.Entry name dummies ↦ true
  | body.Include name ↦ true
  | body.End ↦ true
  | _ ↦ false
]

unfoldable pub kind_rows : UnitKind → Body → List Kind
kind_rows kind.Main b = unless (not (returns b)) StatementOutOfOrder
kind_rows kind.BlockData b = unless (stands_in_block_data b) StatementOutOfOrder
kind_rows _ b = []

-- each statement behind those before it, the last first
unfoldable pub ordered_rows : WrittenUnit → Stage → List Stmt → List Stmt → List Refusal
ordered_rows u stage before [] = []
ordered_rows u stage before (s ∷ ss) =
    stood s (order_rows stage (rank_of (arrays_of u) s.body) ++
    (unless (not (is_second_implicit before s.body)) StatementOutOfOrder ++ (constant_order_rows (arrays_of u) before s.body ++ kind_rows u.kind s.body))) ++
    ordered_rows u (stage_behind stage (rank_of (arrays_of u) s.body)) (s ∷ before) ss

unfoldable pub unit_order_rows : WrittenUnit → List Refusal
unit_order_rows u = ordered_rows u AtImplicits [] u.statements

unfoldable pub order_rows_opened : Unit {0}
unfolding assigned_rank rank_of is_before_definitions is_at_implicits is_at_executables order_rows stage_behind is_implicit_none is_implicit is_second_implicit is_typed_by_letter types_name constants_before is_use uses_name is_used_before constant_order_rows layer_returns returns stands_in_block_data kind_rows ordered_rows unit_order_rows
order_rows_opened = tt
