-- The rows of one name are those of its attributes.
use Rattle.std.specs.List.{list_all}
use Rattle.std.specs.Prelude.{◌≡◌, ℕ, suc, nat_eq, Bool, true, false, not, ◌&&◌, ◌||◌, List, [], ◌∷◌, ◌++◌, map, length, Option, Some, None, option_map, is_some, if◌then◌else◌}
use Rattle.std.proofs.Common.{◌⊎◌, inl, inr, Result, Ok, Err, OnOk, refl, sym, ap, subst, ◌∙◌, arith}
use Rattle.std.proofs.lemmas.List.{append-nil, append_assoc, length-map, map-append}
use Rattle.std.proofs.lemmas.Bool.Decides.{nat_tests}
use Rattle.f_tree.specs.declared.names.Basic.{Basic}
use Rattle.f_tree.specs.declared.names.Basic.TheVariants.{Integer, Logical, Character, Untyped}
use Rattle.f_tree.specs.declared.names.Class.{Class}
use Rattle.f_tree.specs.declared.names.Class.TheVariants as class
use Rattle.f_tree.specs.declared.refusals.Kind.{Kind}
use Rattle.f_tree.specs.declared.refusals.Kind.TheVariants.{NameHasTypeReal, ConflictingAttributes, BoundNotConstant, ArrayOfNoElement, BadParameterValue, UseOfAssumedLength}
use Rattle.f_tree.specs.declared.refusals.Refusal.{Refusal}
use Rattle.f_tree.specs.declared.statements.Body.{Body}
use Rattle.f_tree.specs.declared.statements.Dimension.{Dimension as WrittenDimension}
use Rattle.f_tree.specs.declared.statements.Stmt.{Stmt}
use Rattle.f_tree.specs.declared.units.Unit.{Unit as WrittenUnit}
use Rattle.f_tree.specs.Values.{Bytes}
use Rattle.f_tree.specs.Facts.{Bounds, Attribute}
use Rattle.f_tree.specs.Lines.{Naming}
use Rattle.f_tree.specs.Valuing.{elements_of}
use Rattle.f_tree.specs.Attributes.{Typed, with_list, is_used_as, typed_name}
use Rattle.f_tree.specs.declared.statements.LengthSpec.{LengthSpec}
use Rattle.std.specs.Borrow.{Bor}
use Rattle.declared_types.specs.declared.types.DeclaredType.{DeclaredType}
use Rattle.declared_types.specs.TypeTables.{typed_of}
use Rattle.declaration_rows.specs.Judgement.{unless}
use Rattle.declaration_rows.specs.StatementRows.{is_typed}
use Rattle.declaration_rows.specs.NameRows as rows
use Rattle.declaration_rows.specs.NameRows.{given_names, type_rows, function_rows, conflict_rows, bound_rows, element_rows, constant_rows, is_empty, is_function, is_referenced, are_dummy_bounds, is_star, unmeasured, at_both, at_first, makes, declares, mentions, fixes, first_statements, shape_in, name_rows, names_rows}
use Rattle.name_facts.specs.declared.fact.Bound.{Bound}
use Rattle.name_facts.specs.declared.fact.ConstantValue.{ConstantValue}
use Rattle.name_facts.specs.declared.fact.ConstantValue.TheVariants as value
use Rattle.name_facts.specs.declared.fact.NameFact.{NameFact}
use Rattle.name_facts.specs.declared.table.NameFacts.{NameFacts}
use Rattle.name_facts.specs.Dimensions.{is_closed}
use Rattle.name_facts.proofs.ElementLaws.{closed_elements}
use Rattle.name_facts.specs.GivenFacts.{datum_of, bounds_of, IsNameFact, AreNameFacts, fact_in, fact_or, no_fact}
use Rattle.name_classes.specs.KnownSigns.{unit_uses}
use Rattle.name_places.specs.declared.place.Place.{Place}
use Rattle.name_places.specs.FirstPlaces.{rows_at, makes_by}
use Rattle.name_places.proofs.PlaceLemmas.{makes_is}
use Rattle.name_judge.specs.FactRows.{class_has_type, type_kinds, result_kinds, conflict_by, stored_kinds, bound_by, reaches, have_elements, element_kinds, has_value, constant_by, given_rows}

-- ROWS AT A PLACE
rows_both : (place : Place) (ks ls : List Kind) → rows_at place (ks ++ ls) ≡ rows_at place ks ++ rows_at place ls
unfolding rows_at
rows_both place ks ls = map-append (λ (k : Kind). record { file = place.file; card = place.card; kind = k }) ks ls

pub nothing_at : (place : Place) (found : List Refusal) (kinds : List Kind) → kinds ≡ [] → found ≡ found ++ rows_at place kinds
unfolding rows_at
nothing_at place found kinds none = sym (ap (λ ks. found ++ rows_at place ks) none ∙ append-nil found)

-- classes that break no row of some sort
pub of_two : (kinds : Class → List Kind) (k a b : Class) → kinds a ≡ [] → kinds b ≡ [] → k ≡ a ⊎ k ≡ b → kinds k ≡ []
of_two kinds k a b one two (inl is) = ap kinds is ∙ one
of_two kinds k a b one two (inr is) = ap kinds is ∙ two

pub of_three : (kinds : Class → List Kind) (k a b c : Class) → kinds a ≡ [] → kinds b ≡ [] → kinds c ≡ [] → k ≡ a ⊎ (k ≡ b ⊎ k ≡ c) → kinds k ≡ []
of_three kinds k a b c one two three (inl is) = ap kinds is ∙ one
of_three kinds k a b c one two three (inr more) = of_two kinds k b c two three more

pub of_four : (kinds : Class → List Kind) (k a b c d : Class) → kinds a ≡ [] → kinds b ≡ [] → kinds c ≡ [] → kinds d ≡ [] → k ≡ a ⊎ (k ≡ b ⊎ (k ≡ c ⊎ k ≡ d)) → kinds k ≡ []
of_four kinds k a b c d one two three four (inl is) = ap kinds is ∙ one
of_four kinds k a b c d one two three four (inr more) = of_three kinds k b c d two three four more

-- TYPES
type_by : (k : Class) (r : Bool) (b : Bool) → unless (not (class_has_type r k) || b) NameHasTypeReal
    ≡ (elim k [
      | class.Stored ↦ unless b NameHasTypeReal
      | class.Dummy ↦ unless b NameHasTypeReal
      | class.Result ↦ unless b NameHasTypeReal
      | class.StatementFunction ↦ unless b NameHasTypeReal
      | _ ↦ []
    ]) ++ (if r then (elim k [ class.Procedure ↦ unless b NameHasTypeReal | class.DummyProcedure ↦ unless b NameHasTypeReal | _ ↦ [] ]) else [])
unfolding class_has_type unless
type_by class.Stored true b = sym (append-nil (unless b NameHasTypeReal))
type_by class.Stored false b = sym (append-nil (unless b NameHasTypeReal))
type_by class.Dummy true b = sym (append-nil (unless b NameHasTypeReal))
type_by class.Dummy false b = sym (append-nil (unless b NameHasTypeReal))
type_by class.Result true b = sym (append-nil (unless b NameHasTypeReal))
type_by class.Result false b = sym (append-nil (unless b NameHasTypeReal))
type_by class.StatementFunction true b = sym (append-nil (unless b NameHasTypeReal))
type_by class.StatementFunction false b = sym (append-nil (unless b NameHasTypeReal))
type_by class.Procedure true b = refl
type_by class.Procedure false b = refl
type_by class.DummyProcedure true b = refl
type_by class.DummyProcedure false b = refl
type_by class.Constant true b = refl
type_by class.Constant false b = refl
type_by class.Intrinsic true b = refl
type_by class.Intrinsic false b = refl
type_by class.Unit true b = refl
type_by class.Unit false b = refl

function_by : (r : Bool) (a : Attribute)
    → (if r then (elim a.class [ class.Procedure ↦ unless (is_typed a.basic) NameHasTypeReal | class.DummyProcedure ↦ unless (is_typed a.basic) NameHasTypeReal | _ ↦ [] ]) else []) ≡ function_rows r a
unfolding function_rows
function_by true a = refl
function_by false a = refl

type_of : (a : Attribute) (r : Bool) → unless (not (class_has_type r a.class) || is_typed a.basic) NameHasTypeReal ≡ type_rows a ++ function_rows r a
unfolding type_rows
type_of a r = type_by a.class r (is_typed a.basic) ∙ ap (λ ks. type_rows a ++ ks) (function_by r a)

pub type_is : (a : Attribute) (f : NameFact) (r : Bool) → IsNameFact a f → type_kinds r f ≡ type_rows a ++ function_rows r a
unfolding type_kinds
type_is a f r known =
    ap (λ k. unless (not (class_has_type r k) || is_typed f.basic) NameHasTypeReal) known.class
    ∙ ap (λ t. unless (not (class_has_type r a.class) || is_typed t) NameHasTypeReal) known.basic ∙ type_of a r

pub referenced_is : (u : WrittenUnit) (x : Bytes) → is_used_as with_list x (unit_uses u) ≡ is_referenced u x
unfolding is_referenced
referenced_is u x = refl

-- WHAT HAS NO DIMENSIONS
not_none : (n m : ℕ) → n ≡ suc m → nat_eq n 0 ≡ false
not_none n m is = grind (arith, nat_tests)

empty_is : {A : Type 0} (n : ℕ) (as' : List A) → n ≡ length as' → nat_eq n 0 ≡ is_empty as'
unfolding is_empty
empty_is n [] is = ap (λ m. nat_eq m 0) is
empty_is n (a ∷ more) is = not_none n (length more) is

bound_count : (a : Attribute) (f : NameFact) → IsNameFact a f → length f.bounds ≡ length a.bounds
bound_count a f known = sym (length-map f.bounds bounds_of) ∙ ap length known.bounds

conflict_of : (u : WrittenUnit) (a : Attribute) (f : NameFact) (k : Class) → IsNameFact a f → conflict_by k (is_function u) f
    ≡ (elim k [
      | class.Constant ↦ unless (is_empty a.dimensions) ConflictingAttributes
      | class.DummyProcedure ↦ unless (is_empty a.dimensions) ConflictingAttributes
      | class.Result ↦ unless (is_empty a.dimensions) ConflictingAttributes ++ (unless (is_empty a.bounds) ConflictingAttributes ++ unless (is_function u) ConflictingAttributes)
      | _ ↦ []
    ])
unfolding conflict_by result_kinds
conflict_of u a f class.Constant known = ap (λ b. unless b ConflictingAttributes) (empty_is f.rank a.dimensions known.rank)
conflict_of u a f class.DummyProcedure known = ap (λ b. unless b ConflictingAttributes) (empty_is f.rank a.dimensions known.rank)
conflict_of u a f class.Result known =
    ap (λ b. unless b ConflictingAttributes ++ (unless (nat_eq (length f.bounds) 0) ConflictingAttributes ++ unless (is_function u) ConflictingAttributes)) (empty_is f.rank a.dimensions known.rank)
    ∙ ap (λ b. unless (is_empty a.dimensions) ConflictingAttributes ++ (unless b ConflictingAttributes ++ unless (is_function u) ConflictingAttributes))
    (empty_is (length f.bounds) a.bounds (bound_count a f known))
conflict_of u a f class.Stored known = refl
conflict_of u a f class.Dummy known = refl
conflict_of u a f class.Procedure known = refl
conflict_of u a f class.StatementFunction known = refl
conflict_of u a f class.Intrinsic known = refl
conflict_of u a f class.Unit known = refl

pub conflict_is : (u : WrittenUnit) (a : Attribute) (f : NameFact) → IsNameFact a f → conflict_by f.class (is_function u) f ≡ conflict_rows u a
unfolding conflict_rows
conflict_is u a f known = ap (λ k. conflict_by k (is_function u) f) known.class ∙ conflict_of u a f a.class known

-- LENGTHS AND BOUNDS
stored_is : (a : Attribute) (f : NameFact) (row : Kind) → IsNameFact a f → stored_kinds row f
    ≡ unless (is_some a.width) row ++ (unless (nat_eq (length a.bounds) (length a.dimensions)) BoundNotConstant ++ unless (is_some (elements_of a.bounds)) BoundNotConstant)
unfolding stored_kinds
stored_is a f row known =
    let closed : List Kind = unless (list_all is_closed f.bounds) BoundNotConstant in
    ap (λ (o : Option ℕ). unless (is_some o) row ++ (unless (nat_eq (length f.bounds) f.rank) BoundNotConstant ++ closed)) known.width
    ∙ ap (λ n. unless (is_some a.width) row ++ (unless (nat_eq n f.rank) BoundNotConstant ++ closed)) (bound_count a f known)
    ∙ ap (λ n. unless (is_some a.width) row ++ (unless (nat_eq (length a.bounds) n) BoundNotConstant ++ closed)) known.rank
    ∙ ap (λ b. unless (is_some a.width) row ++ (unless (nat_eq (length a.bounds) (length a.dimensions)) BoundNotConstant ++ unless b BoundNotConstant))
    (closed_elements f.bounds ∙ ap (λ (bs : List Bounds). is_some (elements_of bs)) known.bounds)

bound_of : (given : Naming) (shape : List WrittenDimension) (row : Kind) (a : Attribute) (f : NameFact) (k : Class) (are : Bool) → IsNameFact a f → are ≡ are_dummy_bounds given shape
    → bound_by k row are f
    ≡ (elim k [
      | class.Stored ↦
          unless (is_some a.width) row ++
          (unless (nat_eq (length a.bounds) (length a.dimensions)) BoundNotConstant ++ unless (is_some (elements_of a.bounds)) BoundNotConstant)
      | class.Dummy ↦ unless (are_dummy_bounds given shape) BoundNotConstant
      | _ ↦ []
    ])
unfolding bound_by
bound_of given shape row a f class.Stored are known is = stored_is a f row known
bound_of given shape row a f class.Dummy are known is = ap (λ b. unless b BoundNotConstant) is
bound_of given shape row a f class.Constant are known is = refl
bound_of given shape row a f class.Result are known is = refl
bound_of given shape row a f class.Procedure are known is = refl
bound_of given shape row a f class.DummyProcedure are known is = refl
bound_of given shape row a f class.StatementFunction are known is = refl
bound_of given shape row a f class.Intrinsic are known is = refl
bound_of given shape row a f class.Unit are known is = refl

pub bound_is : (given : Naming) (shape : List WrittenDimension) (row : Kind) (a : Attribute) (f : NameFact) (are : Bool) → IsNameFact a f → are ≡ are_dummy_bounds given shape
    → bound_by f.class row are f ≡ bound_rows given shape row a
unfolding bound_rows
bound_is given shape row a f are known is = ap (λ k. bound_by k row are f) known.class ∙ bound_of given shape row a f a.class are known is

-- ELEMENTS
reach_is : (b : Bound) → reaches b ≡ rows.reaches b.lower b.upper
unfolding reaches rows.reaches
reach_is b = refl

elements_are : (bs : List Bound) → have_elements bs ≡ rows.have_elements (map bounds_of bs)
unfolding have_elements rows.have_elements bounds_of
elements_are [] = refl
elements_are (b ∷ bs) = ap (λ c. c && have_elements bs) (reach_is b) ∙ ap (λ c. rows.reaches b.lower b.upper && c) (elements_are bs)

pub element_is : (a : Attribute) (f : NameFact) → IsNameFact a f → element_kinds f ≡ element_rows a
unfolding element_kinds element_rows
element_is a f known = ap (λ b. unless b ArrayOfNoElement) (elements_are f.bounds ∙ ap rows.have_elements known.bounds)

-- CONSTANTS
value_by : (basic : Basic) (o : Option ConstantValue) → has_value basic o ≡ rows.has_value basic (option_map datum_of o)
unfolding has_value rows.has_value datum_of
value_by Integer None = refl
value_by Integer (Some (value.Integer z)) = refl
value_by Integer (Some (value.Logical b)) = refl
value_by Integer (Some (value.Text cs)) = refl
value_by Integer (Some (value.Label l)) = refl
value_by Logical None = refl
value_by Logical (Some (value.Integer z)) = refl
value_by Logical (Some (value.Logical b)) = refl
value_by Logical (Some (value.Text cs)) = refl
value_by Logical (Some (value.Label l)) = refl
value_by Character None = refl
value_by Character (Some (value.Integer z)) = refl
value_by Character (Some (value.Logical b)) = refl
value_by Character (Some (value.Text cs)) = refl
value_by Character (Some (value.Label l)) = refl
value_by Untyped None = refl
value_by Untyped (Some (value.Integer z)) = refl
value_by Untyped (Some (value.Logical b)) = refl
value_by Untyped (Some (value.Text cs)) = refl
value_by Untyped (Some (value.Label l)) = refl

value_is : (a : Attribute) (f : NameFact) → IsNameFact a f → has_value f.basic f.constant ≡ rows.has_value a.basic a.constant
value_is a f known = value_by f.basic f.constant ∙ ap (λ t. rows.has_value t (option_map datum_of f.constant)) known.basic ∙ ap (rows.has_value a.basic) known.constant

constant_of : (a : Attribute) (f : NameFact) (k : Class) → IsNameFact a f → constant_by k f ≡ (elim k [ class.Constant ↦ unless (rows.has_value a.basic a.constant) BadParameterValue | _ ↦ [] ])
unfolding constant_by
constant_of a f class.Constant known = ap (λ b. unless b BadParameterValue) (value_is a f known)
constant_of a f class.Stored known = refl
constant_of a f class.Dummy known = refl
constant_of a f class.Result known = refl
constant_of a f class.Procedure known = refl
constant_of a f class.DummyProcedure known = refl
constant_of a f class.StatementFunction known = refl
constant_of a f class.Intrinsic known = refl
constant_of a f class.Unit known = refl

pub constant_is : (a : Attribute) (f : NameFact) → IsNameFact a f → constant_by f.class f ≡ constant_rows a
unfolding constant_rows
constant_is a f known = ap (λ k. constant_by k f) known.class ∙ constant_of a f a.class known

-- WHERE CONFLICTS STAND
pub makes_alike : (u : WrittenUnit) (x : Bytes) (a : Attribute) (k : Class) (ss : List Stmt) (kinds : List Kind) → k ≡ a.class
    → at_both u (makes_by u x k) (declares x) ss kinds ≡ at_both u (makes u x a) (declares x) ss kinds
makes_alike u x a k ss kinds is =
    ap (λ c. at_both u (makes_by u x c) (declares x) ss kinds) is ∙ ap (λ (test : Body → Bool). at_both u test (declares x) ss kinds) (λ i b. sym (makes_is u x a b) i)

-- the row of a length that is not known
pub measured : (u : WrittenUnit) (x : Bytes) (b : Bool) → b ≡ is_star (typed_name u x).length → (if b then UseOfAssumedLength else BoundNotConstant) ≡ unmeasured u x
unfolding unmeasured
measured u x b is = ap (λ c. if c then UseOfAssumedLength else BoundNotConstant) is

pub row_star : (u : WrittenUnit) (x : Bytes) (b : Bool) → b ≡ is_star (typed_name u x).length → b ≡ true → UseOfAssumedLength ≡ unmeasured u x
row_star u x b is so = ap (λ c. if c then UseOfAssumedLength else BoundNotConstant) (sym so) ∙ measured u x b is

pub row_other : (u : WrittenUnit) (x : Bytes) (b : Bool) → b ≡ is_star (typed_name u x).length → b ≡ false → BoundNotConstant ≡ unmeasured u x
row_other u x b is so = ap (λ c. if c then UseOfAssumedLength else BoundNotConstant) (sym so) ∙ measured u x b is

-- ALL ROWS OF A NAME, one sort after the other
pub all_rows : {A E : Type 0} (r : Result A E) (start one two three four five : List Refusal) (a b c d e whole : List Refusal) → one ≡ start ++ a → two ≡ one ++ b → three ≡ two ++ c → four ≡ three ++ d
    → a ++ (b ++ (c ++ (d ++ e))) ≡ whole → OnOk r (five ≡ four ++ e) → OnOk r (five ≡ start ++ whole)
all_rows (Ok x) start one two three four five a b c d e whole first second third fourth is last =
    last ∙ ap (λ rs. rs ++ e) (fourth ∙ ap (λ rs. rs ++ d) (third ∙ ap (λ rs. rs ++ c) (second ∙ ap (λ rs. rs ++ b) first)))
    ∙ append_assoc (((start ++ a) ++ b) ++ c) d e ∙ append_assoc ((start ++ a) ++ b) c (d ++ e) ∙ append_assoc (start ++ a) b (c ++ (d ++ e)) ∙ append_assoc start a (b ++ (c ++ (d ++ e)))
    ∙ ap (λ rs. start ++ rs) is
all_rows (Err x) start one two three four five a b c d e whole first second third fourth is last = last

pub given_is : (u : WrittenUnit) (x : Bytes) → at_first u (mentions u x) (first_statements u x) (type_rows (given_names u x) ++ function_rows (is_referenced u x) (given_names u x))
    ++ (at_both u (makes u x (given_names u x)) (declares x) u.statements (conflict_rows u (given_names u x))
    ++ (at_first u (declares x) u.statements (bound_rows (given_names u) (shape_in u x) (unmeasured u x) (given_names u x))
    ++ (at_first u (declares x) u.statements (element_rows (given_names u x)) ++ at_first u (fixes x) u.statements (constant_rows (given_names u x)))))
    ≡ given_rows u x
unfolding given_rows name_rows
given_is u x = refl

-- names one after the other
pub names_step : (u : WrittenUnit) (x : Bytes) (xs : List Bytes) → names_rows u (x ∷ xs) ≡ given_rows u x ++ names_rows u xs
unfolding names_rows given_rows
names_step u x xs = refl

pub names_none : (u : WrittenUnit) → names_rows u [] ≡ []
unfolding names_rows
names_none u = refl

-- what a table says of a name
pub fact_there : (u : WrittenUnit) (table : NameFacts) (x : Bytes) (o : Option NameFact) (f : NameFact) → AreNameFacts u table → fact_or o ≡ fact_in table x → o ≡ Some f → IsNameFact (given_names u x) f
unfolding fact_or
fact_there u table x o f known is there = subst (λ g. IsNameFact (given_names u x) g) (sym is ∙ ap fact_or there) (known.facts x)

pub fact_missing : (u : WrittenUnit) (table : NameFacts) (x : Bytes) (o : Option NameFact) (f : NameFact) → AreNameFacts u table → fact_or o ≡ fact_in table x → o ≡ None → f ≡ no_fact
    → IsNameFact (given_names u x) f
unfolding fact_or
fact_missing u table x o f known is none nothing = subst (λ g. IsNameFact (given_names u x) g) (sym is ∙ ap fact_or none ∙ sym nothing) (known.facts x)

-- rows of results and of stored names
three_rows : (place : Place) (a b c : List Kind) → (rows_at place a ++ rows_at place b) ++ rows_at place c ≡ rows_at place (a ++ (b ++ c))
three_rows place a b c =
    append_assoc (rows_at place a) (rows_at place b) (rows_at place c) ∙ ap (λ rs. rows_at place a ++ rs) (sym (rows_both place b c)) ∙ sym (rows_both place a (b ++ c))

pub stored_by : (place : Place) (row : Kind) (f : NameFact) (some : Bool) (count : ℕ) (closed : Bool) → some ≡ is_some f.width → count ≡ length f.bounds
    → closed ≡ list_all is_closed f.bounds
    → (rows_at place (unless some row) ++ rows_at place (unless (nat_eq count f.rank) BoundNotConstant)) ++ rows_at place (unless closed BoundNotConstant)
    ≡ rows_at place (stored_kinds row f)
unfolding stored_kinds
stored_by place row f some count closed is counts told =
    three_rows place (unless some row) (unless (nat_eq count f.rank) BoundNotConstant) (unless closed BoundNotConstant)
    ∙ ap (λ b. rows_at place (unless b row ++ (unless (nat_eq count f.rank) BoundNotConstant ++ unless closed BoundNotConstant))) is
    ∙ ap (λ n. rows_at place (unless (is_some f.width) row ++ (unless (nat_eq n f.rank) BoundNotConstant ++ unless closed BoundNotConstant))) counts
    ∙ ap (λ b. rows_at place (unless (is_some f.width) row ++ (unless (nat_eq (length f.bounds) f.rank) BoundNotConstant ++ unless b BoundNotConstant))) told

pub result_by : (place : Place) (function : Bool) (f : NameFact) (count : ℕ) → count ≡ length f.bounds
    → (rows_at place (unless (nat_eq f.rank 0) ConflictingAttributes) ++ rows_at place (unless (nat_eq count 0) ConflictingAttributes)) ++ rows_at place (unless function ConflictingAttributes)
    ≡ rows_at place (result_kinds function f)
unfolding result_kinds
result_by place function f count counts =
    three_rows place (unless (nat_eq f.rank 0) ConflictingAttributes) (unless (nat_eq count 0) ConflictingAttributes) (unless function ConflictingAttributes)
    ∙ ap (λ n. rows_at place (unless (nat_eq f.rank 0) ConflictingAttributes ++ (unless (nat_eq n 0) ConflictingAttributes ++ unless function ConflictingAttributes))) counts

length_is : (d : DeclaredType) → option_map (λ (l : Bor LengthSpec). l.now) d.length ≡ (typed_of d).length
unfolding typed_of
length_is d = refl

pub star_typed : (u : WrittenUnit) (x : Bytes) (d : DeclaredType) → typed_of d ≡ typed_name u x → is_star (option_map (λ (l : Bor LengthSpec). l.now) d.length) ≡ is_star (typed_name u x).length
star_typed u x d is = ap is_star (length_is d ∙ ap (λ (t : Typed). t.length) is)

abbrev pub no_name : Bor (List ℕ)
no_name = record { ref_ptr = (0, 0); now = [] }
