-- The names of a unit that breaks no row are what its statements are judged by; they are stored, bounded and typed as a well-formed unit has them.
use Rattle.std.specs.Prelude.{◌≡◌, ℕ, nat_eq, Bool, true, false, ◌&&◌, List, [], ◌∷◌, ◌++◌, map, length, bytes_eq, Option, Some, None, is_some, IsTrue, if◌then◌else◌}
use Rattle.std.proofs.Common.{refl, sym, ap, ◌∙◌, subst}
use Rattle.std.proofs.lemmas.Bool.{eqb-true}
use Rattle.std.proofs.lemmas.Slice.Eq.{bytes_eq-Decides}
use Rattle.fortran_laws.specs.f_tree.declared.names.Basic.{Basic}
use Rattle.fortran_laws.specs.f_tree.declared.names.Basic.TheVariants.{Integer, Logical, Character}
use Rattle.fortran_laws.specs.f_tree.declared.names.Class.{Class}
use Rattle.fortran_laws.specs.f_tree.declared.names.Class.TheVariants as class
use Rattle.fortran_laws.specs.f_tree.declared.refusals.Kind.{Kind}
use Rattle.fortran_laws.specs.f_tree.declared.refusals.Kind.TheVariants.{NameHasTypeReal, ConflictingAttributes, BoundNotConstant, BadParameterValue}
use Rattle.fortran_laws.specs.f_tree.declared.refusals.Refusal.{Refusal}
use Rattle.fortran_laws.specs.f_tree.declared.expressions.BinaryOp.{BinaryOp}
use Rattle.fortran_laws.specs.f_tree.declared.expressions.BinaryOp.TheVariants as op
use Rattle.fortran_laws.specs.f_tree.declared.expressions.Expr.{Expr, Int, Logical as TruthValue, Text, Name, Apply', Part', Minus', Plus', Not', Paren', Binary', AltReturn, Bind', Bound as BoundValue, more_of-Expr}
use Rattle.fortran_laws.specs.f_tree.declared.statements.Body.{Body}
use Rattle.fortran_laws.specs.f_tree.declared.statements.Dimension.{Dimension as WrittenDimension}
use Rattle.fortran_laws.specs.f_tree.declared.statements.UpperBound.{UpperBound}
use Rattle.fortran_laws.specs.f_tree.declared.statements.UpperBound.TheVariants as upper
use Rattle.fortran_laws.specs.f_tree.declared.statements.UnitKind.{UnitKind}
use Rattle.fortran_laws.specs.f_tree.declared.statements.UnitKind.TheVariants as kind
use Rattle.fortran_laws.specs.f_tree.declared.statements.Stmt.{Stmt}
use Rattle.fortran_laws.specs.f_tree.declared.units.Unit.{Unit as WrittenUnit}
use Rattle.fortran_laws.specs.f_tree.Folds.{fold_expr}
use Rattle.fortran_laws.specs.f_tree.Values.{Bytes, Datum, IsInt, IsLog, IsText}
use Rattle.fortran_laws.specs.f_tree.Terms.{Add, Subtract, Multiply, Divide}
use Rattle.fortran_laws.specs.f_tree.Facts.{Attribute, FunctionUnit, Facts}
use Rattle.fortran_laws.specs.f_tree.Valuing.{elements_of}
use Rattle.fortran_laws.specs.f_tree.Setting.{IsIn, first_in, later_in}
use Rattle.fortran_laws.specs.f_tree.Reading.{Read, valued_only, placed, name_read, binary_read, layer_read, read}
use Rattle.fortran_laws.specs.f_tree.Uses.{Use, uses_of_statements}
use Rattle.fortran_laws.specs.f_tree.Attributes.{bare, Constant, constants_of, Expansion, expansions_from, arrays_of, lower_read, upper_read, dimension_read, with_class, with_dimensions, without_expansion, with_expansions, attribute_of, described, all_described, attribute_in}
use Rattle.fortran_laws.specs.f_tree.Lines.{Naming, unit_kind}
use Rattle.fortran_laws.specs.f_tree.WellTyped as typed
use Rattle.fortran_laws.specs.f_tree.WellTyped.{ValueOf, IsOf, IsValued, IsVariable, is_variable, is_procedure_name, is_callee, has_size}
use Rattle.fortran_laws.specs.f_tree.WellFormed as formed
use Rattle.fortran_laws.specs.f_tree.WellFormed.{IsStored, IsOfVariables, IsUpper, AreDimensions, IsResult, is_dummy}
use Rattle.refusal_order.specs.declaration_rows.Judgement.{unless}
use Rattle.refusal_order.specs.declaration_rows.Fits.{IsConstant}
use Rattle.refusal_order.specs.declaration_rows.StatementRows.{is_typed}
use Rattle.refusal_order.specs.declaration_rows.NameRows.{given_names, own_attributes, all_names, definitions_of, stood, is_integer_value, same_integer, is_integer_name, is_arithmetic, layer_bound, is_bound_expression, is_lower, is_upper, are_dummy_bounds, shape_in, has_value, is_empty, is_function, type_rows, function_rows, is_referenced, conflict_rows, bound_rows, unmeasured, constant_rows, element_rows, at_first, at_both, mentions, declares, fixes, makes, first_statements, name_rows, names_rows}
use Rattle.declaration_laws.proofs.ExpressionFits.{none_of_both, unless_holds, is_flat}
use Rattle.declaration_laws.proofs.StatementFits.{typed_well}
use Rattle.declaration_laws.proofs.UnitFits.{none_mapped, none_stood, both_true}

-- ROWS OF NAMES
pub none_if : (u : WrittenUnit) (s : Stmt) (kinds : List Kind) (b : Bool) (later : List Refusal) → (later ≡ [] → kinds ≡ []) →
    (if b then stood s kinds else later) ≡ [] → kinds ≡ []
none_if u s kinds true later more none = none_stood s kinds none
none_if u s kinds false later more none = more none

pub none_at_first : (u : WrittenUnit) (test : Body → Bool) (ss : List Stmt) (kinds : List Kind) → at_first u test ss kinds ≡ [] → kinds ≡ []
unfolding at_first
none_at_first u test [] kinds none = none_mapped _ kinds none
none_at_first u test (s ∷ ss) kinds none = none_if u s kinds (test s.body) (at_first u test ss kinds) (λ more. none_at_first u test ss kinds more) none

none_later : (kinds : List Kind) (b : Bool) (one other : List Refusal) → (one ≡ [] → kinds ≡ []) → (other ≡ [] → kinds ≡ []) →
    (if b then one else other) ≡ [] → kinds ≡ []
none_later kinds true one other f g none = f none
none_later kinds false one other f g none = g none

pub none_at_both : (u : WrittenUnit) (one other : Body → Bool) (ss : List Stmt) (kinds : List Kind) → at_both u one other ss kinds ≡ [] → kinds ≡ []
unfolding at_both
none_at_both u one other [] kinds none = none_mapped _ kinds none
none_at_both u one other (s ∷ ss) kinds none =
    none_later kinds (one s.body) (at_first u other (s ∷ ss) kinds) (if other s.body then at_first u one ss kinds else at_both u one other ss kinds)
    (λ first. none_at_first u other (s ∷ ss) kinds first)
    (λ more. none_later kinds (other s.body) (at_first u one ss kinds) (at_both u one other ss kinds)
    (λ first. none_at_first u one ss kinds first) (λ rest. none_at_both u one other ss kinds rest) more) none

-- a name breaks none of its rows
pub record IsFaultless (u : WrittenUnit) (x : Bytes) (a : Attribute) : Type 0 where
  pub no_type : type_rows a ≡ []
  pub no_conflict : conflict_rows u a ≡ []
  pub no_bound : bound_rows (given_names u) (shape_in u x) (unmeasured u x) a ≡ []
  pub no_constant : constant_rows a ≡ []

pub faultless_name : (u : WrittenUnit) (x : Bytes) (a : Attribute) → name_rows u x a ≡ [] → IsFaultless u x a
unfolding name_rows
faultless_name u x a none =
    let types : List Refusal = at_first u (mentions u x) (first_statements u x) (type_rows a ++ function_rows (is_referenced u x) a) in
    let conflicts : List Refusal = at_both u (makes u x a) (declares x) u.statements (conflict_rows u a) in
    let bounds : List Refusal = at_first u (declares x) u.statements (bound_rows (given_names u) (shape_in u x) (unmeasured u x) a) in
    let elements : List Refusal = at_first u (declares x) u.statements (element_rows a) in
    let constants : List Refusal = at_first u (fixes x) u.statements (constant_rows a) in
    let h : (types ≡ []) × ((conflicts ++ (bounds ++ (elements ++ constants))) ≡ []) = none_of_both types (conflicts ++ (bounds ++ (elements ++ constants))) none in
    let k : (conflicts ≡ []) × ((bounds ++ (elements ++ constants)) ≡ []) = none_of_both conflicts (bounds ++ (elements ++ constants)) h.1 in
    let l : (bounds ≡ []) × ((elements ++ constants) ≡ []) = none_of_both bounds (elements ++ constants) k.1 in
    let m : (elements ≡ []) × (constants ≡ []) = none_of_both elements constants l.1 in
    record {
      no_type = (none_of_both (type_rows a) (function_rows (is_referenced u x) a)
          (none_at_first u (mentions u x) (first_statements u x) (type_rows a ++ function_rows (is_referenced u x) a) h.0)).0;
      no_conflict = none_at_both u (makes u x a) (declares x) u.statements (conflict_rows u a) k.0;
      no_bound = none_at_first u (declares x) u.statements (bound_rows (given_names u) (shape_in u x) (unmeasured u x) a) l.0;
      no_constant = none_at_first u (fixes x) u.statements (constant_rows a) m.1;
    }

pub faultless_in : (u : WrittenUnit) (xs : List Bytes) (x : Bytes) → names_rows u xs ≡ [] → IsIn x xs → IsFaultless u x (given_names u x)
unfolding names_rows
faultless_in u [] x none is = elim is [ ]
faultless_in u (y ∷ xs) x none first_in = faultless_name u x (given_names u x) (none_of_both (name_rows u y (given_names u y)) (names_rows u xs) none).0
faultless_in u (y ∷ xs) x none (later_in is) = faultless_in u xs x (none_of_both (name_rows u y (given_names u y)) (names_rows u xs) none).1 is

-- a name is described in the unit, or is none of its names
pub data IsGiven (u : WrittenUnit) (uses : List Use) (cs : List Constant) (es : List Expansion) (xs : List Bytes) (x : Bytes) : Type 0 where
  is_described : IsIn x xs → attribute_in (described u uses cs es xs) x ≡ attribute_of u uses cs es x → IsGiven u uses cs es xs x
  is_no_name : attribute_in (described u uses cs es xs) x ≡ bare class.Unit None → IsGiven u uses cs es xs x

pub given_if : (u : WrittenUnit) (uses : List Use) (cs : List Constant) (es : List Expansion) (y : Bytes) (xs : List Bytes) (x : Bytes) (b : Bool) → bytes_eq y x ≡ b →
    IsGiven u uses cs es xs x → IsGiven u uses cs es (y ∷ xs) x
unfolding attribute_in described
given_if u uses cs es y xs x true is more =
    let same : y ≡ x = (bytes_eq-Decides y x).0 is in
    is_described (subst (λ z. IsIn z (y ∷ xs)) same first_in)
    (subst (λ b. (if b then attribute_of u uses cs es y else attribute_in (described u uses cs es xs) x) ≡ attribute_of u uses cs es x) (sym is)
    (ap (λ z. attribute_of u uses cs es z) same))
given_if u uses cs es y xs x false is (is_described among as') =
    is_described (later_in among)
    (subst (λ b. (if b then attribute_of u uses cs es y else attribute_in (described u uses cs es xs) x) ≡ attribute_of u uses cs es x) (sym is) as')
given_if u uses cs es y xs x false is (is_no_name as') =
    is_no_name (subst (λ b. (if b then attribute_of u uses cs es y else attribute_in (described u uses cs es xs) x) ≡ bare class.Unit None) (sym is) as')

pub each_given : (u : WrittenUnit) (uses : List Use) (cs : List Constant) (es : List Expansion) (xs : List Bytes) (x : Bytes) → IsGiven u uses cs es xs x
unfolding attribute_in described
each_given u uses cs es [] x = is_no_name refl
each_given u uses cs es (y ∷ xs) x = given_if u uses cs es y xs x (bytes_eq y x) refl (each_given u uses cs es xs x)

-- the expansions of all statement functions of a unit
abbrev pub all_expansions : WrittenUnit → List Expansion
all_expansions u = expansions_from (own_attributes u) [] (definitions_of u)

pub data IsNamed (u : WrittenUnit) (x : Bytes) : Type 0 where
  a_name : IsIn x (all_names u) → given_names u x ≡ with_expansions (own_attributes u) (all_expansions u) x → IsNamed u x
  no_name : given_names u x ≡ bare class.Unit None → IsNamed u x

pub named_from : (u : WrittenUnit) (x : Bytes) →
    IsGiven u (uses_of_statements (arrays_of u) u.statements) (constants_of u) (all_expansions u) (all_names u) x → IsNamed u x
unfolding given_names own_attributes all_names definitions_of all_described attribute_of
named_from u x (is_described among as') = a_name among as'
named_from u x (is_no_name as') = no_name as'

pub each_named : (u : WrittenUnit) (x : Bytes) → IsNamed u x
each_named u x =
    named_from u x (each_given u (uses_of_statements (arrays_of u) u.statements) (constants_of u) (all_expansions u) (all_names u) x)

pub bare_faultless : (u : WrittenUnit) (x : Bytes) → IsFaultless u x (bare class.Unit None)
unfolding bare type_rows conflict_rows bound_rows constant_rows
bare_faultless u x = record { no_type = refl; no_conflict = refl; no_bound = refl; no_constant = refl }

pub faultless_by : (u : WrittenUnit) (x : Bytes) → names_rows u (all_names u) ≡ [] → IsNamed u x → IsFaultless u x (given_names u x)
faultless_by u x none (a_name among is) = faultless_in u (all_names u) x none among
faultless_by u x none (no_name is) = subst (λ a. IsFaultless u x a) (sym is) (bare_faultless u x)

pub each_faultless : (u : WrittenUnit) → names_rows u (all_names u) ≡ [] → (x : Bytes) → IsFaultless u x (given_names u x)
each_faultless u none x = faultless_by u x none (each_named u x)

-- WHAT THE ROWS SAY, class by class
pub empty_list : {A : Type 0} (xs : List A) → IsTrue (is_empty xs) → xs ≡ []
unfolding is_empty
empty_list [] empty = refl
empty_list (x ∷ xs) empty = absurd (cc)

pub valued_by : (k : Class) (a : Attribute) → IsTrue (is_variable k) → type_rows (record a { class = k }) ≡ [] → IsValued a.basic
unfolding is_variable type_rows
valued_by class.Stored a variable none = typed_well a.basic (unless_holds (is_typed a.basic) NameHasTypeReal none)
valued_by class.Dummy a variable none = typed_well a.basic (unless_holds (is_typed a.basic) NameHasTypeReal none)
valued_by class.Result a variable none = typed_well a.basic (unless_holds (is_typed a.basic) NameHasTypeReal none)
valued_by class.Constant a variable none = absurd (cc)
valued_by class.Procedure a variable none = absurd (cc)
valued_by class.DummyProcedure a variable none = absurd (cc)
valued_by class.StatementFunction a variable none = absurd (cc)
valued_by class.Intrinsic a variable none = absurd (cc)
valued_by class.Unit a variable none = absurd (cc)

pub record HasValue (count : ℕ) (basic : Basic) (o : Option Datum) : Type 0 where
  pub value : Datum
  pub value_is : o ≡ Some value
  pub typed : IsOf count (ValueOf basic) value

pub value_found : (count : ℕ) (basic : Basic) (o : Option Datum) → IsTrue (has_value basic o) → HasValue count basic o
unfolding has_value
value_found count Integer (Some (IsInt z)) has = record { value = IsInt z; value_is = refl; typed = typed.integer z }
value_found count Logical (Some (IsLog b)) has = record { value = IsLog b; value_is = refl; typed = typed.logical b }
value_found count Character (Some (IsText cs)) has = record { value = IsText cs; value_is = refl; typed = typed.text cs }
value_found count _ _ has = absurd (cc)

pub constant_by : (count : ℕ) (u : WrittenUnit) (k : Class) (a : Attribute) → k ≡ class.Constant → constant_rows (record a { class = k }) ≡ [] →
    conflict_rows u (record a { class = k }) ≡ [] → IsConstant count (record a { class = k })
unfolding constant_rows conflict_rows
constant_by count u class.Constant a is none flat =
    let v : HasValue count a.basic a.constant = value_found count a.basic a.constant (unless_holds (has_value a.basic a.constant) BadParameterValue none) in
    record {
      value = v.value;
      value_is = v.value_is;
      typed = v.typed;
      no_array = is_flat (record a { class = class.Constant }) (empty_list a.dimensions (unless_holds (is_empty a.dimensions) ConflictingAttributes flat));
    }
constant_by count u class.Stored a is none flat = absurd (let bad : class.Stored ≡ class.Constant = is in cc)
constant_by count u class.Dummy a is none flat = absurd (let bad : class.Dummy ≡ class.Constant = is in cc)
constant_by count u class.Result a is none flat = absurd (let bad : class.Result ≡ class.Constant = is in cc)
constant_by count u class.Procedure a is none flat = absurd (let bad : class.Procedure ≡ class.Constant = is in cc)
constant_by count u class.DummyProcedure a is none flat = absurd (let bad : class.DummyProcedure ≡ class.Constant = is in cc)
constant_by count u class.StatementFunction a is none flat = absurd (let bad : class.StatementFunction ≡ class.Constant = is in cc)
constant_by count u class.Intrinsic a is none flat = absurd (let bad : class.Intrinsic ≡ class.Constant = is in cc)
constant_by count u class.Unit a is none flat = absurd (let bad : class.Unit ≡ class.Constant = is in cc)

-- WHAT IS STORED
pub record HasWidth (o : Option ℕ) : Type 0 where
  pub width : ℕ
  pub is : o ≡ Some width

pub width_found : (o : Option ℕ) → IsTrue (is_some o) → HasWidth o
width_found None has = absurd (cc)
width_found (Some n) has = record { width = n; is = refl }

pub record HasStorage (a : Attribute) : Type 0 where
  pub has_width : HasWidth a.width
  pub ranked : length a.bounds ≡ length a.dimensions
  pub sized : IsTrue (is_some (elements_of a.bounds))

pub stored_rows : (given : Naming) (shape : List WrittenDimension) (row : Kind) (a : Attribute) → bound_rows given shape row (record a { class = class.Stored }) ≡ [] → HasStorage a
unfolding bound_rows
stored_rows given shape row a none =
    let w : List Kind = unless (is_some a.width) row in
    let r : List Kind = unless (nat_eq (length a.bounds) (length a.dimensions)) BoundNotConstant in
    let s : List Kind = unless (is_some (elements_of a.bounds)) BoundNotConstant in
    let h : (w ≡ []) × ((r ++ s) ≡ []) = none_of_both w (r ++ s) none in
    let k : (r ≡ []) × (s ≡ []) = none_of_both r s h.1 in
    record {
      has_width = width_found a.width (unless_holds (is_some a.width) row h.0);
      ranked = eqb-true (length a.bounds) (length a.dimensions) (unless_holds (nat_eq (length a.bounds) (length a.dimensions)) BoundNotConstant k.0);
      sized = unless_holds (is_some (elements_of a.bounds)) BoundNotConstant k.1;
    }

pub stored_by : (given : Naming) (shape : List WrittenDimension) (row : Kind) (a : Attribute) → a.class ≡ class.Stored → bound_rows given shape row a ≡ [] → HasStorage a
stored_by given shape row a is none =
    stored_rows given shape row a (subst (λ k. bound_rows given shape row (record a { class = k }) ≡ []) is none)

-- BOUNDS OF DUMMY ARRAYS
pub never : IsTrue false → ⊥
never is = absurd (cc)

pub integer_value : (o : Option Datum) → IsTrue (is_integer_value o) → (z : _) × (o ≡ Some (IsInt z))
unfolding is_integer_value
integer_value (Some (IsInt z)) is = (z, refl)
integer_value _ is = absurd (cc)

pub integer_is : (basic : Basic) → IsTrue (same_integer basic) → basic ≡ Integer
unfolding same_integer
integer_is Integer is = refl
integer_is _ is = absurd (cc)

-- a name as it is written in a bound, by its class, its type and its value as a constant
pub bound_name : (c : Facts) (k : Class) (x : Bytes) (a : Attribute) → IsTrue (is_integer_name (record a { class = k })) →
    (IsTrue (is_variable k) → IsTrue (is_variable (c.program.attribute x).class)) → (c.program.attribute x).basic ≡ a.basic →
    IsOfVariables c (name_read x (record a { class = k })).value
unfolding is_integer_name name_read valued_only placed is_variable
bound_name c class.Constant x a integer variable basic =
    let v = integer_value a.constant integer in
    subst (λ o. IsOfVariables c (name_read x (record a { class = class.Constant; constant = o })).value) (sym v.1) (formed.a_constant v.0)
bound_name c class.Dummy x a integer variable basic =
    formed.a_variable x (record { class_is = variable refl; basic_is = basic ∙ integer_is a.basic integer })
bound_name c class.Stored x a integer variable basic =
    formed.a_variable x (record { class_is = variable refl; basic_is = basic ∙ integer_is a.basic integer })
bound_name c class.Result x a integer variable basic = absurd (cc)
bound_name c class.Procedure x a integer variable basic = absurd (cc)
bound_name c class.DummyProcedure x a integer variable basic = absurd (cc)
bound_name c class.StatementFunction x a integer variable basic = absurd (cc)
bound_name c class.Intrinsic x a integer variable basic = absurd (cc)
bound_name c class.Unit x a integer variable basic = absurd (cc)

pub arithmetic_bound : (c : Facts) (o : BinaryOp) (a b : Read) → IsTrue (is_arithmetic o) → IsOfVariables c a.value → IsOfVariables c b.value →
    IsOfVariables c (binary_read o a b).value
unfolding is_arithmetic binary_read valued_only
arithmetic_bound c op.Power a b arithmetic one other = formed.raised a.value b.value one other
arithmetic_bound c op.Times a b arithmetic one other = formed.combined Multiply a.value b.value typed.multiplies one other
arithmetic_bound c op.Divide a b arithmetic one other = formed.combined Divide a.value b.value typed.divides one other
arithmetic_bound c op.Plus a b arithmetic one other = formed.combined Add a.value b.value typed.adds one other
arithmetic_bound c op.Minus a b arithmetic one other = formed.combined Subtract a.value b.value typed.subtracts one other
arithmetic_bound c op.Concatenate a b arithmetic one other = absurd (cc)
arithmetic_bound c op.Less a b arithmetic one other = absurd (cc)
arithmetic_bound c op.LessOrEqual a b arithmetic one other = absurd (cc)
arithmetic_bound c op.Equal a b arithmetic one other = absurd (cc)
arithmetic_bound c op.NotEqual a b arithmetic one other = absurd (cc)
arithmetic_bound c op.Greater a b arithmetic one other = absurd (cc)
arithmetic_bound c op.GreaterOrEqual a b arithmetic one other = absurd (cc)
arithmetic_bound c op.And a b arithmetic one other = absurd (cc)
arithmetic_bound c op.Or a b arithmetic one other = absurd (cc)
arithmetic_bound c op.Equivalent a b arithmetic one other = absurd (cc)
arithmetic_bound c op.NotEquivalent a b arithmetic one other = absurd (cc)

module _ (c : Facts) (given names : Naming) (reads : (x : Bytes) → IsTrue (is_integer_name (given x)) → IsOfVariables c (name_read x (names x)).value) where
  pub bound_fits : (e : Expr) → IsTrue (fold_expr (layer_bound given) e) → IsOfVariables c (fold_expr (layer_read names) e).value
  unfolding fold_expr layer_bound layer_read valued_only
  bound_fits (Int z) is = formed.a_constant z
  bound_fits (Name x) is = reads x is
  bound_fits (Minus' s (more_of-Expr e r)) is = formed.negated (fold_expr (layer_read names) e).value (bound_fits e is)
  bound_fits (Plus' s (more_of-Expr e r)) is = bound_fits e is
  bound_fits (Paren' s (more_of-Expr e r)) is = bound_fits e is
  bound_fits (Binary' o s (more_of-Expr a r) t (more_of-Expr b q)) is =
      let one : Bool = fold_expr (layer_bound given) a in
      let other : Bool = fold_expr (layer_bound given) b in
      let h : IsTrue (is_arithmetic o) × IsTrue (one && other) = both_true (is_arithmetic o) (one && other) is in
      let k : IsTrue one × IsTrue other = both_true one other h.1 in
      arithmetic_bound c o (fold_expr (layer_read names) a) (fold_expr (layer_read names) b) h.0 (bound_fits a k.0) (bound_fits b k.1)
  bound_fits (TruthValue b) is = absurd (never is)
  bound_fits (Text cs) is = absurd (never is)
  bound_fits (Apply' x s row) is = absurd (never is)
  bound_fits (Part' s (more_of-Expr e r) from to) is = absurd (never is)
  bound_fits (Not' s (more_of-Expr e r)) is = absurd (never is)
  bound_fits (AltReturn l) is = absurd (never is)
  bound_fits (Bind' s row t (more_of-Expr e q)) is = absurd (never is)
  bound_fits (BoundValue k) is = absurd (never is)

  pub lower_fits : (o : Option Expr) → IsTrue (is_lower given o) → IsOfVariables c (lower_read names o)
  unfolding is_lower lower_read is_bound_expression read
  lower_fits None is = formed.a_constant _
  lower_fits (Some e) is = bound_fits e is

  pub upper_fits : (b : UpperBound) → IsTrue (is_upper given b) → IsUpper c (upper_read names b)
  unfolding is_upper upper_read is_bound_expression read
  upper_fits (upper.Value e) is = formed.written (fold_expr (layer_read names) e).value (bound_fits e is)
  upper_fits upper.Star is = formed.assumed

  pub dimensions_fit : (ds : List WrittenDimension) → IsTrue (are_dummy_bounds given ds) → AreDimensions c (map (dimension_read names) ds)
  unfolding are_dummy_bounds dimension_read
  dimensions_fit [] is = formed.no_dimensions
  dimensions_fit (d ∷ ds) is =
      let h : IsTrue (is_lower given d.lower) × IsTrue (is_upper given d.upper && are_dummy_bounds given ds) =
      both_true (is_lower given d.lower) (is_upper given d.upper && are_dummy_bounds given ds) is in
      let k : IsTrue (is_upper given d.upper) × IsTrue (are_dummy_bounds given ds) = both_true (is_upper given d.upper) (are_dummy_bounds given ds) h.1 in
      formed.more_dimensions (dimension_read names d) (map (dimension_read names) ds) (lower_fits d.lower h.0) (upper_fits d.upper k.0) (dimensions_fit ds k.1)

-- a name in a bound of a unit
abbrev pub unit_names : WrittenUnit → Naming
unit_names u = with_class u (uses_of_statements (arrays_of u) u.statements) (constants_of u)

pub no_integer : (a : Attribute) → a ≡ bare class.Unit None → IsTrue (is_integer_name a) → ⊥
unfolding is_integer_name bare
no_integer a is integer =
    let bad : IsTrue (is_integer_name (bare class.Unit None)) = subst (λ z. IsTrue (is_integer_name z)) is integer in
    absurd (cc)

pub bound_named : (c : Facts) (u : WrittenUnit) (x : Bytes) → c.program.attribute x ≡ given_names u x → IsNamed u x → IsTrue (is_integer_name (given_names u x)) →
    IsOfVariables c (name_read x (unit_names u x)).value
unfolding with_expansions own_attributes without_expansion with_dimensions is_integer_name
bound_named c u x program (a_name among is) integer =
    let same : c.program.attribute x ≡ with_expansions (own_attributes u) (all_expansions u) x = program ∙ is in
    bound_name c (unit_names u x).class x (unit_names u x) (subst (λ z. IsTrue (is_integer_name z)) is integer)
    (λ variable. subst (λ z. IsTrue (is_variable z.class)) (sym same) variable) (ap (λ z. z.basic) same)
bound_named c u x program (no_name is) integer = absurd (no_integer (given_names u x) is integer)

-- DUMMY ARGUMENTS
pub no_shape : (a : Attribute) → a.dimensions ≡ [] → (c : Facts) → AreDimensions c a.dimensions
no_shape a none c = subst (λ ds. AreDimensions c ds) (sym none) formed.no_dimensions

pub dummy_by : (c : Facts) (u : WrittenUnit) (shape : List WrittenDimension) (row : Kind) (k : Class) (a : Attribute) → IsTrue (is_dummy k) →
    bound_rows (given_names u) shape row (record a { class = k }) ≡ [] → conflict_rows u (record a { class = k }) ≡ [] →
    (IsTrue (are_dummy_bounds (given_names u) shape) → AreDimensions c a.dimensions) → AreDimensions c a.dimensions
unfolding is_dummy bound_rows conflict_rows
dummy_by c u shape row class.Dummy a dummy bounds flat fits = fits (unless_holds (are_dummy_bounds (given_names u) shape) BoundNotConstant bounds)
dummy_by c u shape row class.DummyProcedure a dummy bounds flat fits = no_shape a (empty_list a.dimensions (unless_holds (is_empty a.dimensions) ConflictingAttributes flat)) c
dummy_by c u shape row class.Constant a dummy bounds flat fits = absurd (cc)
dummy_by c u shape row class.Stored a dummy bounds flat fits = absurd (cc)
dummy_by c u shape row class.Result a dummy bounds flat fits = absurd (cc)
dummy_by c u shape row class.Procedure a dummy bounds flat fits = absurd (cc)
dummy_by c u shape row class.StatementFunction a dummy bounds flat fits = absurd (cc)
dummy_by c u shape row class.Intrinsic a dummy bounds flat fits = absurd (cc)
dummy_by c u shape row class.Unit a dummy bounds flat fits = absurd (cc)

pub shape_fits : (c : Facts) (u : WrittenUnit) → ((x : Bytes) → c.program.attribute x ≡ given_names u x) → (x : Bytes) → IsNamed u x →
    IsTrue (are_dummy_bounds (given_names u) (shape_in u x)) → AreDimensions c (given_names u x).dimensions
unfolding with_expansions own_attributes without_expansion with_dimensions shape_in bare
shape_fits c u program x (a_name among is) bounds =
    subst (λ a. AreDimensions c a.dimensions) (sym is)
    (dimensions_fit c (given_names u) (unit_names u) (λ y integer. bound_named c u y (program y) (each_named u y) integer) (shape_in u x) bounds)
shape_fits c u program x (no_name is) bounds = subst (λ a. AreDimensions c a.dimensions) (sym is) formed.no_dimensions

pub dummy_fits : (c : Facts) (u : WrittenUnit) → ((x : Bytes) → c.program.attribute x ≡ given_names u x) → (x : Bytes) → IsFaultless u x (given_names u x) →
    IsTrue (is_dummy (given_names u x).class) → AreDimensions c (given_names u x).dimensions
dummy_fits c u program x faultless dummy =
    dummy_by c u (shape_in u x) (unmeasured u x) (given_names u x).class (given_names u x) dummy faultless.no_bound faultless.no_conflict
    (λ bounds. shape_fits c u program x (each_named u x) bounds)

-- RESULTS
pub function_kind : (k : UnitKind) (u : WrittenUnit) → IsTrue (is_function (record u { kind = k })) → unit_kind (record u { kind = k }) ≡ FunctionUnit
unfolding is_function unit_kind
function_kind kind.Main u is = absurd (cc)
function_kind kind.Subroutine u is = absurd (cc)
function_kind (kind.Function spec) u is = refl
function_kind kind.BlockData u is = absurd (cc)

pub record HasResult (u : WrittenUnit) (a : Attribute) : Type 0 where
  pub no_dimensions : a.dimensions ≡ []
  pub no_bounds : a.bounds ≡ []
  pub of_function : unit_kind u ≡ FunctionUnit

pub result_rows : (u : WrittenUnit) (a : Attribute) → conflict_rows u (record a { class = class.Result }) ≡ [] → HasResult u a
unfolding conflict_rows
result_rows u a none =
    let d : List Kind = unless (is_empty a.dimensions) ConflictingAttributes in
    let b : List Kind = unless (is_empty a.bounds) ConflictingAttributes in
    let f : List Kind = unless (is_function u) ConflictingAttributes in
    let h : (d ≡ []) × ((b ++ f) ≡ []) = none_of_both d (b ++ f) none in
    let k : (b ≡ []) × (f ≡ []) = none_of_both b f h.1 in
    record {
      no_dimensions = empty_list a.dimensions (unless_holds (is_empty a.dimensions) ConflictingAttributes h.0);
      no_bounds = empty_list a.bounds (unless_holds (is_empty a.bounds) ConflictingAttributes k.0);
      of_function = function_kind u.kind u (unless_holds (is_function u) ConflictingAttributes k.1);
    }

pub result_by : (u : WrittenUnit) (a : Attribute) → a.class ≡ class.Result → conflict_rows u a ≡ [] → HasResult u a
result_by u a is none = result_rows u a (subst (λ k. conflict_rows u (record a { class = k }) ≡ []) is none)
