-- What each name of a program unit is: its type, its class, its length and its dimensions, from all the
-- specification statements of the unit and from how the name is used.
-- ANSI X3.9-1978, sections 4.1 (types by the first letter), 5.1 (arrays), 8 (specification statements) and 18.
use Rattle.std.specs.Prelude.{suc, ℕ, nat_le, ℤ, pos, nat_abs, Bool, true, false, ◌&&◌, ◌||◌, not, List, [], ◌∷◌, ◌++◌, map, bytes_eq, Option, Some, None, option_map, if◌then◌else◌}
use Rattle.f_tree.specs.declared.names.Basic.{Basic}
use Rattle.f_tree.specs.declared.names.Basic.TheVariants.{Integer, Character, Untyped}
use Rattle.f_tree.specs.declared.names.Class.{Class}
use Rattle.f_tree.specs.declared.names.Class.TheVariants as class
use Rattle.f_tree.specs.declared.expressions.Expr.{Expr}
use Rattle.f_tree.specs.declared.statements.Body.{Body}
use Rattle.f_tree.specs.declared.statements.Body.TheOpen as body
use Rattle.f_tree.specs.declared.statements.LengthSpec.{LengthSpec}
use Rattle.f_tree.specs.declared.statements.LengthSpec.TheVariants as length'
use Rattle.f_tree.specs.declared.statements.UpperBound.{UpperBound}
use Rattle.f_tree.specs.declared.statements.UpperBound.TheVariants as upper
use Rattle.f_tree.specs.declared.statements.Dimension.{Dimension as WrittenDimension}
use Rattle.f_tree.specs.declared.statements.TypeSpec.{TypeSpec}
use Rattle.f_tree.specs.declared.statements.Declarator.{Declarator}
use Rattle.f_tree.specs.declared.statements.ArrayDeclarator.{ArrayDeclarator}
use Rattle.f_tree.specs.declared.statements.CommonGroup.{CommonGroup}
use Rattle.f_tree.specs.declared.statements.ImplicitGroup.{ImplicitGroup}
use Rattle.f_tree.specs.declared.statements.LetterRange.{LetterRange}
use Rattle.f_tree.specs.declared.statements.ConstantDefinition.{ConstantDefinition}
use Rattle.f_tree.specs.declared.statements.DummyArgument.{DummyArgument}
use Rattle.f_tree.specs.declared.statements.DummyArgument.TheVariants as dummy
use Rattle.f_tree.specs.declared.statements.UnitKind.TheVariants as kind
use Rattle.f_tree.specs.declared.statements.Stmt.{Stmt}
use Rattle.f_tree.specs.declared.units.Unit.{Unit as WrittenUnit}
use Rattle.f_tree.specs.Folds.{layer_of}
use Rattle.f_tree.specs.Values.{Bytes, Datum, IsInt, IsText}
use Rattle.f_tree.specs.Terms.{Term, Val, Bound, Intrinsically, Front, Fitted, NoMore, More}
use Rattle.f_tree.specs.Store.{fitted}
use Rattle.f_tree.specs.Facts.{Dimension, Bounds, Attribute, MainProgram, EntryPoint, ProgramUnit, Facts, Frame}
use Rattle.f_tree.specs.Valuing.{Red, Valued, reduce}
use Rattle.f_tree.specs.Reading.{read, function_named}
use Rattle.f_tree.specs.Uses.{Use, Manner, WithList, Called, Declared, is_among, first_seen, uses_of_statements, Heading, heading_of, defines_function}

-- what the statements declare, all of one kind, in their order
unfoldable pub from_all : {A : Type 0} → (Body → List A) → List Stmt → List A
from_all f [] = []
from_all f (s ∷ ss) = f s.body ++ from_all f ss

-- a name in a type statement, with the type that stands before it (8.4)
pub record TypedName : Type 0 where
  pub spec : TypeSpec
  pub item : Declarator

unfoldable pub typed_in : Body → List TypedName
typed_in b = elim (layer_of b) [ body.Declare spec items ↦ map (λ i. record { spec = spec; item = i }) items | _ ↦ [] ]

-- a name with dimensions, in whatever statement
pub record Shaped : Type 0 where
  pub name : Bytes
  pub dimensions : List WrittenDimension

unfoldable pub shape_of_array : ArrayDeclarator → Shaped
shape_of_array d = record { name = d.name; dimensions = d.dimensions }

unfoldable pub members_of : List CommonGroup → List ArrayDeclarator
members_of [] = []
members_of (g ∷ gs) = g.items ++ members_of gs

unfoldable pub shaped_in : Body → List Shaped
shaped_in b = elim (layer_of b) [
  | body.Declare spec items ↦ map (λ d. record { name = d.name; dimensions = d.dimensions }) items
  | body.Dimension items ↦ map shape_of_array items
  | body.Common groups ↦ map shape_of_array (members_of groups)
  | _ ↦ []
]

unfoldable pub constants_in : Body → List ConstantDefinition
constants_in b = elim (layer_of b) [ body.Parameter items ↦ items | _ ↦ [] ]

unfoldable pub implicit_in : Body → List ImplicitGroup
implicit_in b = elim (layer_of b) [ body.Implicit groups ↦ groups | _ ↦ [] ]

unfoldable pub external_in : Body → List Bytes
external_in b = elim (layer_of b) [ body.External xs ↦ xs | _ ↦ [] ]

unfoldable pub intrinsic_in : Body → List Bytes
intrinsic_in b = elim (layer_of b) [ body.Intrinsic xs ↦ xs | _ ↦ [] ]

unfoldable pub named_dummies : List DummyArgument → List Bytes
named_dummies [] = []
named_dummies (dummy.Named x ∷ ds) = x ∷ named_dummies ds
named_dummies (dummy.AlternateReturn ∷ ds) = named_dummies ds

unfoldable pub entry_names_in : Body → List Bytes
entry_names_in b = elim (layer_of b) [ body.Entry x dummies ↦ x ∷ [] | _ ↦ [] ]

unfoldable pub entry_dummies_in : Body → List Bytes
entry_dummies_in b = elim (layer_of b) [ body.Entry x dummies ↦ named_dummies dummies | _ ↦ [] ]

-- the first declaration of a name
unfoldable pub type_among : Bytes → List TypedName → Option TypedName
type_among x [] = None
type_among x (t ∷ ts) = if bytes_eq t.item.name x then Some t else type_among x ts

unfoldable pub dimensions_among : Bytes → List Shaped → List WrittenDimension
dimensions_among x [] = []
dimensions_among x (d ∷ ds) = elim d.dimensions [
  | [] ↦ dimensions_among x ds
  | first ∷ rest ↦ if bytes_eq d.name x then first ∷ rest else dimensions_among x ds
]

-- implied types (4.1.2, 8.5): letters from I to N are INTEGER, others would be REAL, which has no meaning here
unfoldable pub letter_is_in : ℕ → List LetterRange → Bool
letter_is_in c [] = false
letter_is_in c (r ∷ rs) = (nat_le r.first c && nat_le c r.last) || letter_is_in c rs

unfoldable pub by_default : ℕ → Option TypeSpec
by_default c = if nat_le 105 c && nat_le c 110 then Some (record { basic = Integer; length = None }) else None

unfoldable pub by_letter : ℕ → List ImplicitGroup → Option TypeSpec
by_letter c [] = by_default c
by_letter c (g ∷ gs) = if letter_is_in c g.letters then Some g.spec else by_letter c gs

unfoldable pub implied : Bytes → List ImplicitGroup → Option TypeSpec
implied [] groups = None
implied (c ∷ cs) groups = by_letter c groups

-- a type with the length that counts
pub record Typed : Type 0 where
  pub basic : Basic
  pub length : Option LengthSpec

unfoldable pub typed_by : TypeSpec → Option LengthSpec → Typed
typed_by spec None = record { basic = spec.basic; length = spec.length }
typed_by spec (Some l) = record { basic = spec.basic; length = Some l }

unfoldable pub typed_or_implied : Option TypedName → Option TypeSpec → Typed
typed_or_implied (Some t) spec = typed_by t.spec t.item.length
typed_or_implied None (Some spec) = typed_by spec None
typed_or_implied None None = record { basic = Untyped; length = None }

-- the type that the FUNCTION statement writes, for the name of the function
unfoldable pub heading_type : WrittenUnit → Bytes → Option TypedName → Option TypeSpec
heading_type u x (Some t) = None
heading_type u x None = elim u.kind [
  | kind.Function spec ↦ (elim u.name [ Some y ↦ (if bytes_eq x y then (elim spec.basic [ Untyped ↦ None | _ ↦ Some spec ]) else None) | None ↦ None ])
  | _ ↦ None
]

unfoldable pub first_of_two : {A : Type 0} → Option A → Option A → Option A
first_of_two (Some a) other = Some a
first_of_two None other = other

unfoldable pub typed_name : WrittenUnit → Bytes → Typed
typed_name u x =
    let t = type_among x (from_all typed_in u.statements) in
    typed_or_implied t (first_of_two (heading_type u x t) (implied x (from_all implicit_in u.statements)))

-- classes (18)
unfoldable pub option_list : {A : Type 0} → Option A → List A
option_list None = []
option_list (Some a) = a ∷ []

-- the names to whose elements or functions something is assigned
unfoldable pub assigned_with_list_in : Body → List Bytes
assigned_with_list_in b = elim (layer_of b) [ body.Assign target e ↦ option_list (heading_of target).applied | _ ↦ [] ]

unfoldable pub is_used_as : (Manner → Bool) → Bytes → List Use → Bool
is_used_as test x [] = false
is_used_as test x (u ∷ us) = (bytes_eq u.name x && test u.manner) || is_used_as test x us

unfoldable pub with_list : Manner → Bool
with_list WithList = true
with_list _ = false

unfoldable pub called : Manner → Bool
called Called = true
called _ = false

unfoldable pub has_function : Bytes → Bool
has_function x = elim (function_named x) [ Some f ↦ true | None ↦ false ]

-- what decides the class of a name, one question after the other
pub record Signs : Type 0 where
  pub is_constant : Bool
  pub is_dummy : Bool
  pub is_own_name : Bool
  pub is_array : Bool
  pub is_external : Bool
  pub is_intrinsic : Bool
  pub has_list : Bool
  pub is_called : Bool
  pub is_assigned_with_list : Bool
  pub is_known_function : Bool

-- the name of the unit itself or of one of its entries
unfoldable pub own_class : WrittenUnit → Class
own_class u = elim u.kind [ kind.Function spec ↦ class.Result | _ ↦ class.Unit ]

unfoldable pub class_by : Class → Signs → Class
class_by own g =
    if g.is_constant then class.Constant
    else if g.is_dummy then
    (if g.is_external || (g.is_called || (g.has_list && not g.is_array)) then class.DummyProcedure else class.Dummy)
    else if g.is_own_name then own
    else if g.is_array then class.Stored
    else if g.is_external || g.is_called then class.Procedure
    else if g.is_assigned_with_list then class.StatementFunction
    else if g.is_intrinsic || (g.has_list && g.is_known_function) then class.Intrinsic
    else if g.has_list then class.Procedure
    else class.Stored

unfoldable pub is_not_empty : {A : Type 0} → List A → Bool
is_not_empty [] = false
is_not_empty (a ∷ as') = true

unfoldable pub own_names : WrittenUnit → List Bytes
own_names u = option_list u.name ++ from_all entry_names_in u.statements

unfoldable pub all_dummies : WrittenUnit → List Bytes
all_dummies u = named_dummies u.dummies ++ from_all entry_dummies_in u.statements

unfoldable pub signs_of : WrittenUnit → List Use → Bytes → Signs
signs_of u uses x = record {
  is_constant = is_among x (map (λ d. d.name) (from_all constants_in u.statements));
  is_dummy = is_among x (all_dummies u);
  is_own_name = is_among x (own_names u);
  is_array = is_not_empty (dimensions_among x (from_all shaped_in u.statements));
  is_external = is_among x (from_all external_in u.statements);
  is_intrinsic = is_among x (from_all intrinsic_in u.statements);
  has_list = is_used_as with_list x uses;
  is_called = is_used_as called x uses;
  is_assigned_with_list = is_among x (from_all assigned_with_list_in u.statements);
  is_known_function = has_function x;
}

unfoldable pub class_of : WrittenUnit → List Use → Bytes → Class
class_of u uses x = class_by (own_class u) (signs_of u uses x)

-- constants (8.6): each value over the constants before it
pub record Constant : Type 0 where
  pub name : Bytes
  pub value : Option Datum

unfoldable pub constant_among : Bytes → List Constant → Option Datum
constant_among x [] = None
constant_among x (c ∷ cs) = if bytes_eq c.name x then c.value else constant_among x cs

unfoldable pub bare : Class → Option Datum → Attribute
bare class value = record { basic = Untyped; class = class; width = None; dimensions = []; bounds = []; constant = value; expansion = None }

unfoldable pub constant_or_stored : Option Datum → Attribute
constant_or_stored None = bare class.Stored None
constant_or_stored (Some d) = bare class.Constant (Some d)

-- names in an expression that is constant but for what is known at the call
unfoldable pub over_constants : List Constant → Bytes → Attribute
over_constants cs x = constant_or_stored (constant_among x cs)

unfoldable pub no_entry : EntryPoint
no_entry = record { name = []; formals = []; start = 0 }

unfoldable pub no_program : ProgramUnit
no_program = record {
  kind = MainProgram;
  entries = [];
  lines = [];
  attribute = λ x. bare class.Unit None;
  formats = [];
  blocks = [];
  ties = [];
  images = [];
  references = [];
  stored = [];
  onetrip = false;
}

unfoldable pub no_facts : Facts
no_facts = record { program = no_program; home = λ x. None }

unfoldable pub no_frame : Frame
no_frame = record { called = no_entry; bound = λ x. None; lengths = λ x. None; alternates = []; dimensions = λ x. None; result = None; base = 0 }

unfoldable pub value_if_valued : Red Datum Term → Option Datum
value_if_valued (Valued d) = Some d
value_if_valued _ = None

unfoldable pub constant_value : List Constant → Expr → Option Datum
constant_value cs e = value_if_valued (reduce no_facts no_frame [] [] (read (over_constants cs) e).value)

unfoldable pub width_by : List Constant → Typed → Option ℕ
width_by cs t = elim t.basic [
  | Character ↦ elim t.length [
    | None ↦ Some 1
    | Some l ↦ elim l [
      | length'.Star ↦ None
      | length'.Value e ↦ elim (constant_value cs e) [ Some d ↦ (elim d [ IsInt z ↦ Some (nat_abs z) | _ ↦ None ]) | None ↦ None ]
    ]
  ]
  | _ ↦ Some 4
]

-- a text constant has the length of its name
unfoldable pub fitted_to : Option ℕ → Option Datum → Option Datum
fitted_to (Some n) (Some (IsText cs)) = Some (IsText (fitted n cs))
fitted_to width value = value

unfoldable pub constants_from : WrittenUnit → List Constant → List ConstantDefinition → List Constant
constants_from u cs [] = cs
constants_from u cs (d ∷ ds) =
    constants_from u (cs ++ record { name = d.name; value = fitted_to (width_by cs (typed_name u d.name)) (constant_value cs d.value) } ∷ []) ds

unfoldable pub constants_of : WrittenUnit → List Constant
constants_of u = constants_from u [] (from_all constants_in u.statements)

-- dimensions (5.1)
unfoldable pub lower_read : (Bytes → Attribute) → Option Expr → Term
lower_read names None = Val (IsInt (pos 1))
lower_read names (Some e) = (read names e).value

unfoldable pub upper_read : (Bytes → Attribute) → UpperBound → Option Term
upper_read names (upper.Value e) = Some (read names e).value
upper_read names upper.Star = None

unfoldable pub dimension_read : (Bytes → Attribute) → WrittenDimension → Dimension
dimension_read names d = record { lower = lower_read names d.lower; upper = upper_read names d.upper }

unfoldable pub integer_if_valued : Red Datum Term → Option ℤ
integer_if_valued (Valued (IsInt z)) = Some z
integer_if_valued _ = None

unfoldable pub constant_term : Term → Option ℤ
constant_term t = integer_if_valued (reduce no_facts no_frame [] [] t)

unfoldable pub bounds_between : Option ℤ → Option (Option ℤ) → List Bounds
bounds_between (Some a) (Some upper) = record { lower = a; upper = upper } ∷ []
bounds_between _ _ = []

-- an upper bound that is not written is assumed at the call (5.1.2.2); one that is written is constant, or has no value
unfoldable pub constant_upper : Option Term → Option (Option ℤ)
constant_upper None = Some None
constant_upper (Some t) = option_map Some (constant_term t)

unfoldable pub constant_bounds : List Dimension → List Bounds
constant_bounds [] = []
constant_bounds (d ∷ ds) = bounds_between (constant_term d.lower) (constant_upper d.upper) ++ constant_bounds ds

-- the names of an expression that the call fixes: constants, dummies and common
unfoldable pub with_class : WrittenUnit → List Use → List Constant → Bytes → Attribute
with_class u uses cs x =
    let t = typed_name u x in
    record { basic = t.basic; class = class_of u uses x; width = width_by cs t; dimensions = []; bounds = []; constant = constant_among x cs; expansion = None }

unfoldable pub with_dimensions : List Dimension → Attribute → Attribute
with_dimensions ds a = record a { dimensions = ds; bounds = constant_bounds ds }

unfoldable pub without_expansion : WrittenUnit → List Use → List Constant → Bytes → Attribute
without_expansion u uses cs x =
    with_dimensions (map (dimension_read (with_class u uses cs)) (dimensions_among x (from_all shaped_in u.statements))) (with_class u uses cs x)

-- statement functions (15.4): each expression over those before it, its dummy arguments being bound
pub record Expansion : Type 0 where
  pub name : Bytes
  pub term : Term

unfoldable pub expansion_among : Bytes → List Expansion → Option Term
expansion_among x [] = None
expansion_among x (e ∷ es) = if bytes_eq e.name x then Some e.term else expansion_among x es

-- a dummy argument takes the first characters of a text
unfoldable pub bound_term : Attribute → ℕ → Term
bound_term a k = elim a.basic [
  | Character ↦ elim a.width [ None ↦ Bound k | Some n ↦ Intrinsically (Front n) (More (Bound k) NoMore) ]
  | _ ↦ Bound k
]

-- a dummy argument by its place in the list
unfoldable pub dummy_among : (Bytes → Attribute) → ℕ → List Bytes → Bytes → Option Term
dummy_among names k [] x = None
dummy_among names k (y ∷ ys) x = if bytes_eq y x then Some (bound_term (names y) k) else dummy_among names (suc k) ys x

unfoldable pub expanded_as : Attribute → Option Term → Attribute
expanded_as a None = a
expanded_as a (Some t) = record a { class = class.StatementFunction; expansion = Some t }

unfoldable pub within_function : (Bytes → Attribute) → List Bytes → Bytes → Attribute
within_function names dummies x = expanded_as (names x) (dummy_among names 0 dummies x)

unfoldable pub with_expansions : (Bytes → Attribute) → List Expansion → Bytes → Attribute
with_expansions names es x = record (names x) { expansion = expansion_among x es }

-- the value has the length of the function's name
unfoldable pub result_term : Attribute → Term → Term
result_term a t = elim a.basic [
  | Character ↦ elim a.width [ None ↦ t | Some n ↦ Intrinsically (Fitted n) (More t NoMore) ]
  | _ ↦ t
]

pub record Definition : Type 0 where
  pub name : Bytes
  pub dummies : List Bytes
  pub body : Expr

unfoldable pub definition_by : Heading → Expr → List Definition
definition_by h e = elim h.applied [ None ↦ [] | Some x ↦ record { name = x; dummies = h.arguments; body = e } ∷ [] ]

unfoldable pub definitions_in : List Bytes → Body → List Definition
definitions_in arrays b = elim (layer_of b) [
  | body.Assign target e ↦ if defines_function arrays (heading_of target) then definition_by (heading_of target) e else []
  | _ ↦ []
]

unfoldable pub expansion_of : (Bytes → Attribute) → Definition → Expansion
expansion_of names d = record { name = d.name; term = result_term (names d.name) (read (within_function names d.dummies) d.body).value }

unfoldable pub expansions_from : (Bytes → Attribute) → List Expansion → List Definition → List Expansion
expansions_from names es [] = es
expansions_from names es (d ∷ ds) = expansions_from names (es ++ expansion_of (with_expansions names es) d ∷ []) ds

unfoldable pub array_names : List Shaped → List Bytes
array_names [] = []
array_names (d ∷ ds) = elim d.dimensions [ [] ↦ array_names ds | first ∷ rest ↦ d.name ∷ array_names ds ]

unfoldable pub arrays_of : WrittenUnit → List Bytes
arrays_of u = array_names (from_all shaped_in u.statements)

unfoldable pub attribute_of : WrittenUnit → List Use → List Constant → List Expansion → Bytes → Attribute
attribute_of u uses cs es x = with_expansions (without_expansion u uses cs) es x

-- all names of a unit with their attributes
pub record Described : Type 0 where
  pub name : Bytes
  pub attribute : Attribute

unfoldable pub described : WrittenUnit → List Use → List Constant → List Expansion → List Bytes → List Described
described u uses cs es [] = []
described u uses cs es (x ∷ xs) = record { name = x; attribute = attribute_of u uses cs es x } ∷ described u uses cs es xs

unfoldable pub attribute_in : List Described → Bytes → Attribute
attribute_in [] x = bare class.Unit None
attribute_in (d ∷ ds) x = if bytes_eq d.name x then d.attribute else attribute_in ds x

-- the unit's own name, its dummies, and the names of its statements, in first-seen order
unfoldable pub names_of : WrittenUnit → List Use → List Bytes
names_of u uses = option_list u.name ++ first_seen (map (λ x. record { name = x; manner = Declared }) (named_dummies u.dummies) ++ uses)

unfoldable pub all_described : WrittenUnit → List Described
all_described u =
    let uses = uses_of_statements (arrays_of u) u.statements in
    let cs = constants_of u in
    let es = expansions_from (without_expansion u uses cs) [] (from_all (definitions_in (arrays_of u)) u.statements) in
    described u uses cs es (names_of u uses)

unfoldable pub attributes_opened : Unit {0}
unfolding from_all typed_in shape_of_array members_of shaped_in constants_in implicit_in external_in intrinsic_in named_dummies entry_names_in entry_dummies_in type_among dimensions_among letter_is_in by_default by_letter implied typed_by typed_or_implied heading_type first_of_two typed_name option_list assigned_with_list_in is_used_as with_list called has_function own_class class_by is_not_empty own_names all_dummies signs_of class_of constant_among bare constant_or_stored over_constants no_entry no_program no_facts no_frame value_if_valued constant_value width_by fitted_to constants_from constants_of lower_read upper_read dimension_read integer_if_valued constant_term bounds_between constant_upper constant_bounds with_class with_dimensions without_expansion expansion_among bound_term dummy_among expanded_as within_function with_expansions result_term definition_by definitions_in expansion_of expansions_from array_names arrays_of attribute_of described attribute_in names_of all_described
attributes_opened = tt
