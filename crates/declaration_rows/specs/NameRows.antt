-- Which rows of the table of refusals the names of a unit break: their types (F20), what they are (F22), their lengths and bounds (F23, F24), the values
-- of constants (F26), and the definitions of statement functions (F31, F32, F22, F40), given the attributes that all statements of the unit give.
-- ANSI X3.9-1978, sections 4.1 (types), 5.1 (arrays), 8 (specification statements), 15.4 (statement functions) and 18.
use Rattle.std.specs.Prelude.{nat_eq, ℤ, int_le, Bool, true, false, not, ◌&&◌, ◌||◌, List, [], ◌∷◌, ◌++◌, map, length, bytes_eq, Option, Some, None, is_some, if◌then◌else◌}
use Rattle.fortran_text.specs.f_tree.declared.names.Basic.{Basic}
use Rattle.fortran_text.specs.f_tree.declared.names.Basic.TheVariants.{Integer, Logical, Character}
use Rattle.fortran_text.specs.f_tree.declared.names.Class.TheVariants as class
use Rattle.fortran_text.specs.f_tree.declared.refusals.Kind.{Kind}
use Rattle.fortran_text.specs.f_tree.declared.refusals.Kind.TheVariants.{NameHasTypeReal, ConflictingAttributes, BoundNotConstant, ArrayOfNoElement, BadParameterValue, UseOfAssumedLength, BadStatementFunction}
use Rattle.fortran_text.specs.f_tree.declared.refusals.Refusal.{Refusal}
use Rattle.fortran_text.specs.f_tree.declared.expressions.BinaryOp.{BinaryOp}
use Rattle.fortran_text.specs.f_tree.declared.expressions.BinaryOp.TheVariants as op
use Rattle.fortran_text.specs.f_tree.declared.expressions.Expr.{Expr}
use Rattle.fortran_text.specs.f_tree.declared.expressions.Expr.TheOpen as expr
use Rattle.fortran_text.specs.f_tree.declared.statements.Body.{Body}
use Rattle.fortran_text.specs.f_tree.declared.statements.Dimension.{Dimension as WrittenDimension}
use Rattle.fortran_text.specs.f_tree.declared.statements.LengthSpec.{LengthSpec}
use Rattle.fortran_text.specs.f_tree.declared.statements.LengthSpec.TheVariants as length'
use Rattle.fortran_text.specs.f_tree.declared.statements.UpperBound.{UpperBound}
use Rattle.fortran_text.specs.f_tree.declared.statements.UpperBound.TheVariants as upper
use Rattle.fortran_text.specs.f_tree.declared.statements.UnitKind.TheVariants as kind
use Rattle.fortran_text.specs.f_tree.declared.statements.Stmt.{Stmt}
use Rattle.fortran_text.specs.f_tree.declared.units.Unit.{Unit as WrittenUnit}
use Rattle.fortran_text.specs.f_tree.Folds.{fold_expr}
use Rattle.fortran_text.specs.f_tree.Values.{Bytes, Datum, IsInt, IsLog, IsText}
use Rattle.fortran_text.specs.f_tree.Terms.{Term}
use Rattle.fortran_text.specs.f_tree.Facts.{Bounds, Attribute}
use Rattle.fortran_text.specs.f_tree.Valuing.{elements_of}
use Rattle.fortran_text.specs.f_tree.Uses.{is_among, uses_of_body, uses_of_statements}
use Rattle.fortran_text.specs.f_tree.Attributes.{from_all, Shaped, shaped_in, typed_name, constants_in, dimensions_among, constants_of, Expansion, dummy_among, expanded_as, with_expansions, without_expansion, Definition, definitions_in, expansion_of, expansions_from, arrays_of, all_described, attribute_in, names_of, own_names, all_dummies, external_in, called, is_used_as, with_list}
use Rattle.fortran_text.specs.f_tree.Lines.{Naming}
use Rattle.declaration_rows.specs.Judgement.{Known, unless, judge}
use Rattle.declaration_rows.specs.StatementRows.{is_typed, value_rows}

-- THE NAMES OF A UNIT with the attributes that the unit gives them, and, of any name, those that it would have
unfoldable pub given_names : WrittenUnit → Naming
given_names u = attribute_in (all_described u)

unfoldable pub own_attributes : WrittenUnit → Naming
own_attributes u = without_expansion u (uses_of_statements (arrays_of u) u.statements) (constants_of u)

unfoldable pub all_names : WrittenUnit → List Bytes
all_names u = names_of u (uses_of_statements (arrays_of u) u.statements)

-- STATEMENT FUNCTIONS (15.4). The types of the dummy arguments of a definition
pub record Signature : Type 0 where
  pub name : Bytes
  pub basics : List Basic

unfoldable pub signature_of : Naming → Definition → Signature
signature_of own d = record { name = d.name; basics = map (λ y. (own y).basic) d.dummies }

unfoldable pub signature_among : Bytes → List Signature → Option (List Basic)
signature_among x [] = None
signature_among x (s ∷ ss) = if bytes_eq s.name x then Some s.basics else signature_among x ss

unfoldable pub definitions_of : WrittenUnit → List Definition
definitions_of u = from_all (definitions_in (arrays_of u)) u.statements

unfoldable pub signatures_of : WrittenUnit → List Signature
signatures_of u = map (signature_of (own_attributes u)) (definitions_of u)

-- what is known in a statement of a unit: all its statement functions
unfoldable pub known_in : WrittenUnit → Known
known_in u = record { attribute = given_names u; dummies = λ x. signature_among x (signatures_of u); is_bound = λ x. false }

-- what is known in a definition: its dummy arguments, and the statement functions before it; the names of the unit as they are given
unfoldable pub dummy_or : Attribute → Attribute → Option Term → Attribute
dummy_or given own None = given
dummy_or given own (Some t) = expanded_as own (Some t)

unfoldable pub unless_dummy : Option (List Basic) → Option Term → Option (List Basic)
unless_dummy basics None = basics
unless_dummy basics (Some t) = None

unfoldable pub known_within : Naming → Naming → List Signature → Definition → Known
known_within given own signatures d = record {
  attribute = λ x. dummy_or (given x) (own x) (dummy_among own 0 d.dummies x);
  dummies = λ x. unless_dummy (signature_among x signatures) (dummy_among own 0 d.dummies x);
  is_bound = λ x. is_some (dummy_among own 0 d.dummies x);
}

-- a dummy argument has a type that has values (F20), and stands once (F40)
unfoldable pub dummies_rows : Naming → List Bytes → List Kind
dummies_rows own [] = []
dummies_rows own (x ∷ xs) = unless (is_typed (own x).basic) NameHasTypeReal ++ (unless (not (is_among x xs)) BadStatementFunction ++ dummies_rows own xs)

-- the expression is one value of the function's type
unfoldable pub definition_rows : Naming → Naming → List Signature → Definition → List Kind
definition_rows given own signatures d =
    value_rows (own d.name).basic (judge (known_within given own signatures d) d.body) ++ dummies_rows own d.dummies

unfoldable pub definitions_rows : Naming → Naming → List Expansion → List Signature → List Definition → List Kind
definitions_rows given own es signatures [] = []
definitions_rows given own es signatures (d ∷ ds) =
    definition_rows (with_expansions given es) (with_expansions own es) signatures d ++
    definitions_rows given own (es ++ expansion_of (with_expansions own es) d ∷ []) (signatures ++ signature_of own d ∷ []) ds

-- rows at a statement
unfoldable pub stood : Stmt → List Kind → List Refusal
stood s kinds = map (λ k. record { file = s.file; card = s.card; kind = k }) kinds

-- the definitions, statement by statement
unfoldable pub defined_rows : Naming → Naming → List Bytes → List Expansion → List Signature → List Stmt → List Refusal
defined_rows given own arrays es signatures [] = []
defined_rows given own arrays es signatures (s ∷ ss) =
    stood s (definitions_rows given own es signatures (definitions_in arrays s.body)) ++
    defined_rows given own arrays (expansions_from own es (definitions_in arrays s.body)) (signatures ++ map (signature_of own) (definitions_in arrays s.body)) ss

-- BOUNDS OF DUMMY ARRAYS (5.1.1): integers, integer constants and integer variables that are dummy arguments or stored, and sums,
-- products and powers of them
unfoldable pub is_integer_value : Option Datum → Bool
is_integer_value (Some (IsInt z)) = true
is_integer_value _ = false

unfoldable pub same_integer : Basic → Bool
same_integer Integer = true
same_integer _ = false

unfoldable pub is_integer_name : Attribute → Bool
is_integer_name a = elim a.class [
  | class.Constant ↦ is_integer_value a.constant
  | class.Dummy ↦ same_integer a.basic
  | class.Stored ↦ same_integer a.basic
  | _ ↦ false
]

unfoldable pub is_arithmetic : BinaryOp → Bool
is_arithmetic op.Power = true
is_arithmetic op.Times = true
is_arithmetic op.Divide = true
is_arithmetic op.Plus = true
is_arithmetic op.Minus = true
is_arithmetic _ = false

unfoldable pub layer_bound : Naming → expr.Expr-F Bool → Bool
layer_bound given (expr.Int z) = true
layer_bound given (expr.Name x) = is_integer_name (given x)
layer_bound given (expr.Minus b) = b
layer_bound given (expr.Plus b) = b
layer_bound given (expr.Paren b) = b
layer_bound given (expr.Binary op a b) = is_arithmetic op && (a && b)
layer_bound given _ = false

unfoldable pub is_bound_expression : Naming → Expr → Bool
is_bound_expression given e = fold_expr (layer_bound given) e

unfoldable pub is_lower : Naming → Option Expr → Bool
is_lower given None = true
is_lower given (Some e) = is_bound_expression given e

unfoldable pub is_upper : Naming → UpperBound → Bool
is_upper given (upper.Value e) = is_bound_expression given e
is_upper given upper.Star = true

unfoldable pub are_dummy_bounds : Naming → List WrittenDimension → Bool
are_dummy_bounds given [] = true
are_dummy_bounds given (d ∷ ds) = is_lower given d.lower && (is_upper given d.upper && are_dummy_bounds given ds)

unfoldable pub shape_in : WrittenUnit → Bytes → List WrittenDimension
shape_in u x = dimensions_among x (from_all shaped_in u.statements)

-- EACH NAME by its class
unfoldable pub has_value : Basic → Option Datum → Bool
has_value Integer (Some (IsInt z)) = true
has_value Logical (Some (IsLog b)) = true
has_value Character (Some (IsText cs)) = true
has_value _ _ = false

unfoldable pub is_empty : {A : Type 0} → List A → Bool
is_empty [] = true
is_empty (a ∷ more) = false

unfoldable pub is_function : WrittenUnit → Bool
is_function u = elim u.kind [ kind.Function spec ↦ true | _ ↦ false ]

-- a variable, an array, a result or a statement function has a type that has values (F20)
unfoldable pub type_rows : Attribute → List Kind
type_rows a = elim a.class [
  | class.Stored ↦ unless (is_typed a.basic) NameHasTypeReal
  | class.Dummy ↦ unless (is_typed a.basic) NameHasTypeReal
  | class.Result ↦ unless (is_typed a.basic) NameHasTypeReal
  | class.StatementFunction ↦ unless (is_typed a.basic) NameHasTypeReal
  | _ ↦ []
]

-- and so has a procedure that is referenced as a function (F20)
unfoldable pub function_rows : Bool → Attribute → List Kind
function_rows false a = []
function_rows true a = elim a.class [
  | class.Procedure ↦ unless (is_typed a.basic) NameHasTypeReal
  | class.DummyProcedure ↦ unless (is_typed a.basic) NameHasTypeReal
  | _ ↦ []
]

unfoldable pub is_referenced : WrittenUnit → Bytes → Bool
is_referenced u x = is_used_as with_list x (uses_of_statements (arrays_of u) u.statements)

-- a constant, a dummy procedure and a result are no arrays, and only a function has a result (F22)
unfoldable pub conflict_rows : WrittenUnit → Attribute → List Kind
conflict_rows u a = elim a.class [
  | class.Constant ↦ unless (is_empty a.dimensions) ConflictingAttributes
  | class.DummyProcedure ↦ unless (is_empty a.dimensions) ConflictingAttributes
  | class.Result ↦ unless (is_empty a.dimensions) ConflictingAttributes ++ (unless (is_empty a.bounds) ConflictingAttributes ++ unless (is_function u) ConflictingAttributes)
  | _ ↦ []
]

-- the row of a stored name without a constant length: F39 where its length is `(*)`
unfoldable pub is_star : Option LengthSpec → Bool
is_star (Some length'.Star) = true
is_star _ = false

unfoldable pub unmeasured : WrittenUnit → Bytes → Kind
unmeasured u x = if is_star (typed_name u x).length then UseOfAssumedLength else BoundNotConstant

-- what is stored has a length and constant bounds; a dummy array has bounds that the call fixes (F23)
unfoldable pub bound_rows : Naming → List WrittenDimension → Kind → Attribute → List Kind
bound_rows given shape row a = elim a.class [
  | class.Stored ↦
      unless (is_some a.width) row ++
      (unless (nat_eq (length a.bounds) (length a.dimensions)) BoundNotConstant ++ unless (is_some (elements_of a.bounds)) BoundNotConstant)
  | class.Dummy ↦ unless (are_dummy_bounds given shape) BoundNotConstant
  | _ ↦ []
]

unfoldable pub constant_rows : Attribute → List Kind
constant_rows a = elim a.class [ class.Constant ↦ unless (has_value a.basic a.constant) BadParameterValue | _ ↦ [] ]

-- a constant upper bound is not below its lower bound (F24)
unfoldable pub reaches : ℤ → Option ℤ → Bool
reaches lower None = true
reaches lower (Some last) = int_le lower last

unfoldable pub have_elements : List Bounds → Bool
have_elements [] = true
have_elements (b ∷ bs) = reaches b.lower b.upper && have_elements bs

unfoldable pub element_rows : Attribute → List Kind
element_rows a = unless (have_elements a.bounds) ArrayOfNoElement

-- where a row of a name stands: at the first statement of some sort, else at the beginning of the unit
unfoldable pub at_first : WrittenUnit → (Body → Bool) → List Stmt → List Kind → List Refusal
at_first u test [] kinds = map (λ k. record { file = u.file; card = u.card; kind = k }) kinds
at_first u test (s ∷ ss) kinds = if test s.body then stood s kinds else at_first u test ss kinds

-- or at the first statement at which statements of two sorts have stood
unfoldable pub at_both : WrittenUnit → (Body → Bool) → (Body → Bool) → List Stmt → List Kind → List Refusal
at_both u one other [] kinds = map (λ k. record { file = u.file; card = u.card; kind = k }) kinds
at_both u one other (s ∷ ss) kinds =
    if one s.body then at_first u other (s ∷ ss) kinds
    else if other s.body then at_first u one ss kinds
    else at_both u one other ss kinds

unfoldable pub mentions : WrittenUnit → Bytes → Body → Bool
mentions u x b = is_among x (map (λ v. v.name) (uses_of_body (arrays_of u) b))

unfoldable pub shapes_name : Bytes → List Shaped → Bool
shapes_name x [] = false
shapes_name x (s ∷ ss) = (bytes_eq s.name x) || shapes_name x ss

unfoldable pub declares : Bytes → Body → Bool
declares x b = shapes_name x (shaped_in b)

unfoldable pub fixes : Bytes → Body → Bool
fixes x b = is_among x (map (λ d. d.name) (constants_in b))

-- what makes a name that has dimensions something that has none
unfoldable pub makes : WrittenUnit → Bytes → Attribute → Body → Bool
makes u x a b = elim a.class [
  | class.Constant ↦ fixes x b
  | class.DummyProcedure ↦ is_among x (external_in b) || is_used_as called x (uses_of_body (arrays_of u) b)
  | _ ↦ true
]

-- the unit's own name and its dummy arguments stand in its first statement
unfoldable pub first_statements : WrittenUnit → Bytes → List Stmt
first_statements u x = if is_among x (own_names u ++ all_dummies u) then [] else u.statements

unfoldable pub name_rows : WrittenUnit → Bytes → Attribute → List Refusal
name_rows u x a =
    at_first u (mentions u x) (first_statements u x) (type_rows a ++ function_rows (is_referenced u x) a) ++
    (at_both u (makes u x a) (declares x) u.statements (conflict_rows u a) ++
    (at_first u (declares x) u.statements (bound_rows (given_names u) (shape_in u x) (unmeasured u x) a) ++
    (at_first u (declares x) u.statements (element_rows a) ++ at_first u (fixes x) u.statements (constant_rows a))))

unfoldable pub names_rows : WrittenUnit → List Bytes → List Refusal
names_rows u [] = []
names_rows u (x ∷ xs) = name_rows u x (given_names u x) ++ names_rows u xs

unfoldable pub name_rows_opened : Unit {0}
unfolding given_names own_attributes all_names signature_of signature_among definitions_of signatures_of known_in dummy_or unless_dummy known_within dummies_rows definition_rows definitions_rows stood defined_rows same_integer is_integer_value is_integer_name is_arithmetic layer_bound is_bound_expression is_lower is_upper are_dummy_bounds shape_in has_value is_empty is_function type_rows function_rows is_referenced conflict_rows is_star unmeasured bound_rows constant_rows reaches have_elements element_rows at_first at_both mentions shapes_name declares fixes makes first_statements name_rows names_rows
name_rows_opened = tt
