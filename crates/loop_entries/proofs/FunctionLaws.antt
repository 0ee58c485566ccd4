-- The labels that are told of statement functions are those that their terms may be.
use Rattle.std.proofs.Common.{◌≡◌, ℕ, suc, Bool, true, false, not, ◌||◌, ◌&&◌, List, [], ◌∷◌, ◌++◌, bytes_eq, nat_eq, Option, Some, None, is_some, option_map, Result, Ok, Err, OnOk, if◌then◌else◌, refl, sym, ap, subst, ◌∙◌, true≢false, arith}
use Rattle.std.specs.Borrow.{Bor}
use Rattle.std.specs.List.{list_all, list_any}
use Rattle.std.proofs.lemmas.Bool.Decides.{nat_tests}
use Rattle.std.proofs.lemmas.Slice.Eq.{bytes_eq-Decides}
use Rattle.f_tree.specs.declared.names.Basic.{Basic}
use Rattle.f_tree.specs.declared.names.Basic.TheVariants.{Character}
use Rattle.f_tree.specs.declared.names.Class.TheVariants as class
use Rattle.f_tree.specs.declared.expressions.Expr.{Expr}
use Rattle.f_tree.specs.declared.statements.Body.{Body, IfOne', more_of-Body}
use Rattle.f_tree.specs.declared.statements.Body as whole
use Rattle.f_tree.specs.declared.statements.Body.TheVariants as body
use Rattle.f_tree.specs.declared.statements.Stmt.{Stmt}
use Rattle.f_tree.specs.declared.units.Unit.{Unit as WrittenUnit}
use Rattle.f_tree.specs.Folds.{layer_of}
use Rattle.f_tree.specs.Values.{Bytes}
use Rattle.f_tree.specs.Terms.{Term, Intrinsically, Bound, Front, Fitted, NoMore, More}
use Rattle.f_tree.specs.Facts.{Attribute}
use Rattle.f_tree.specs.Reading.{read}
use Rattle.f_tree.specs.Uses.{Use, Heading, is_among, heading_of, defines_function, uses_of, uses_of_statements}
use Rattle.f_tree.specs.Lines.{Naming}
use Rattle.f_tree.specs.Attributes.{first_of_two, from_all, bare, Constant, Expansion, expansion_among, bound_term, dummy_among, expanded_as, within_function, with_expansions, without_expansion, result_term, Definition, definition_by, definitions_in, expansion_of, expansions_from, arrays_of, attribute_of, described, attribute_in, all_described, constants_of, names_of}
use Rattle.name_facts.specs.declaration_rows.NameRows.{given_names, own_attributes, all_names, definitions_of}
use Rattle.lowering_laws.specs.Layer.{may_be_other}
use Rattle.name_facts.specs.declared.table.NameFacts.{NameFacts}
use Rattle.name_facts.specs.GivenFacts.{AreNameFacts, datum_of, fact_in}
use Rattle.name_table.proofs.Texts.{bytes_eq_flip}
use Rattle.loop_entries.specs.declared.labels.FunctionLabels.{FunctionLabels}
use Rattle.loop_entries.specs.PassedLabels.{MayBe, labels_at, Told, labels_of, TellsName, TellsNames, is_fitted, value_labels, IsToldAs, AreFunctionLabels, NotesFunction, is_there, is_put, NotesFunctions, IsStatementOf, use_names, all_expansions}
use Rattle.loop_entries.proofs.PassedLaws.{expression_passed}
use Rattle.loop_entries.proofs.TellsLemmas.{told_name, told_dummy}
use Rattle.loop_entries.proofs.UseLemmas.{body_named}

-- THE NAMES OF A UNIT, with the statement functions
attribute_by : (b c : Bool) (x y : Bytes) (f : Bytes → Attribute) (rest : Attribute) → bytes_eq y x ≡ b → rest ≡ (if c then f x else bare class.Unit None) →
    (if b then f y else rest) ≡ (if b || c then f x else bare class.Unit None)
attribute_by true c x y f rest e h = ap f ((bytes_eq-Decides y x).0 e)
attribute_by false c x y f rest e h = h

attribute_among : (u : WrittenUnit) (uses : List Use) (cs : List Constant) (es : List Expansion) (xs : List Bytes) (x : Bytes) →
    attribute_in (described u uses cs es xs) x ≡ (if is_among x xs then attribute_of u uses cs es x else bare class.Unit None)
unfolding attribute_in described is_among
attribute_among u uses cs es [] x = refl
attribute_among u uses cs es (y ∷ ys) x =
    attribute_by (bytes_eq y x) (is_among x ys) x y (attribute_of u uses cs es) (attribute_in (described u uses cs es ys) x) refl (attribute_among u uses cs es ys x)
    ∙ ap (λ b. if b || is_among x ys then attribute_of u uses cs es x else bare class.Unit None) (bytes_eq_flip y x)

given_by : (u : WrittenUnit) (x : Bytes) → given_names u x ≡ (if is_among x (all_names u) then with_expansions (own_attributes u) (all_expansions u) x else bare class.Unit None)
unfolding given_names all_described all_names own_attributes all_expansions definitions_of attribute_of
given_by u x =
    attribute_among u (uses_of_statements (arrays_of u) u.statements) (constants_of u)
    (expansions_from (without_expansion u (uses_of_statements (arrays_of u) u.statements) (constants_of u)) [] (from_all (definitions_in (arrays_of u)) u.statements))
    (names_of u (uses_of_statements (arrays_of u) u.statements)) x

pub given_named : (u : WrittenUnit) (x : Bytes) → is_among x (all_names u) ≡ true → given_names u x ≡ with_expansions (own_attributes u) (all_expansions u) x
given_named u x named = given_by u x ∙ ap (λ b. if b then with_expansions (own_attributes u) (all_expansions u) x else bare class.Unit None) named

given_unnamed : (u : WrittenUnit) (x : Bytes) → is_among x (all_names u) ≡ false → given_names u x ≡ bare class.Unit None
given_unnamed u x other = given_by u x ∙ ap (λ b. if b then with_expansions (own_attributes u) (all_expansions u) x else bare class.Unit None) other

-- what the table tells of a name of the unit is what its declarations give it
own_class : (u : WrittenUnit) (table : NameFacts) (x : Bytes) → AreNameFacts u table → is_among x (all_names u) ≡ true → (fact_in table x).class ≡ (own_attributes u x).class
unfolding with_expansions
own_class u table x are named = (are.facts x).class ∙ ap (λ (a : Attribute). a.class) (given_named u x named)

own_constant : (u : WrittenUnit) (table : NameFacts) (x : Bytes) → AreNameFacts u table → is_among x (all_names u) ≡ true → option_map datum_of (fact_in table x).constant ≡ (own_attributes u x).constant
unfolding with_expansions
own_constant u table x are named = (are.facts x).constant ∙ ap (λ (a : Attribute). a.constant) (given_named u x named)

own_basic : (u : WrittenUnit) (table : NameFacts) (x : Bytes) → AreNameFacts u table → is_among x (all_names u) ≡ true → (fact_in table x).basic ≡ (own_attributes u x).basic
unfolding with_expansions
own_basic u table x are named = (are.facts x).basic ∙ ap (λ (a : Attribute). a.basic) (given_named u x named)

own_width : (u : WrittenUnit) (table : NameFacts) (x : Bytes) → AreNameFacts u table → is_among x (all_names u) ≡ true → (fact_in table x).width ≡ (own_attributes u x).width
unfolding with_expansions
own_width u table x are named = (are.facts x).width ∙ ap (λ (a : Attribute). a.width) (given_named u x named)

-- WHERE A STATEMENT STANDS all statement functions are told
none_among : (x : Bytes) → is_among x [] ≡ false
unfolding is_among
none_among x = refl

no_function : (u : WrittenUnit) (x : Bytes) → is_among x (all_names u) ≡ false → (given_names u x).class ≡ class.StatementFunction → ⊥
unfolding bare
no_function u x other is = let no : class.Unit ≡ class.StatementFunction = sym (ap (λ (a : Attribute). a.class) (given_unnamed u x other)) ∙ is in cc

expansion_told : (u : WrittenUnit) (functions : FunctionLabels) (x : Bytes) (b : Bool) → is_among x (all_names u) ≡ b → AreFunctionLabels u (all_expansions u) functions
    → (given_names u x).class ≡ class.StatementFunction → IsToldAs (given_names u x).expansion (labels_at functions x)
unfolding with_expansions
expansion_told u functions x true named are is = subst (λ (a : Attribute). IsToldAs a.expansion (labels_at functions x)) (sym (given_named u x named)) (are.of x named)
expansion_told u functions x false other are is = absurd (no_function u x other is)

pub unit_told : (u : WrittenUnit) (table : NameFacts) (functions : FunctionLabels) → AreNameFacts u table → AreFunctionLabels u (all_expansions u) functions
    → TellsNames (given_names u) (record { table = table; functions = functions; dummies = [] })
unit_told u table functions are told = record {
  each = λ x.
      told_name (record { table = table; functions = functions; dummies = [] }) x (given_names u x) (none_among x) (are.facts x).class (are.facts x).constant
      (expansion_told u functions x (is_among x (all_names u)) refl told);
}

-- IN THE EXPRESSION OF A STATEMENT FUNCTION its dummy arguments are no labels
IsBoundAs : Bool → Option Term → Type 0
IsBoundAs true None = ⊥
IsBoundAs true (Some t) = MayBe t []
IsBoundAs false None = Unit {0}
IsBoundAs false (Some t) = ⊥

abbrev bound_as : Basic → Option ℕ → ℕ → Term
bound_as basic width k = elim basic [
  | Character ↦ elim width [ None ↦ Bound k | Some n ↦ Intrinsically (Front n) (More (Bound k) NoMore) ]
  | _ ↦ Bound k
]

bound_as_none : (basic : Basic) (width : Option ℕ) (k : ℕ) → MayBe (bound_as basic width k) []
unfolding may_be_other
bound_as_none Character None k = record { tells = λ known. refl }
bound_as_none Character (Some n) k = record { tells = λ known. refl }
bound_as_none _ width k = record { tells = λ known. refl }

bound_none : (a : Attribute) (k : ℕ) → MayBe (bound_term a k) []
unfolding bound_term
bound_none a k = bound_as_none a.basic a.width k

bound_by : (b c : Bool) (t : Term) (o : Option Term) → MayBe t [] → IsBoundAs c o → IsBoundAs (b || c) (if b then Some t else o)
unfolding IsBoundAs
bound_by true c t o none rest = none
bound_by false c t o none rest = rest

dummies_bound : (names : Naming) (k : ℕ) (ys : List Bytes) (x : Bytes) → IsBoundAs (is_among x ys) (dummy_among names k ys x)
unfolding dummy_among is_among IsBoundAs
dummies_bound names k [] x = tt
dummies_bound names k (y ∷ ys) x =
    subst (λ b. IsBoundAs (b || is_among x ys) (if bytes_eq y x then Some (bound_term (names y) k) else dummy_among names (suc k) ys x)) (bytes_eq_flip y x)
    (bound_by (bytes_eq y x) (is_among x ys) (bound_term (names y) k) (dummy_among names (suc k) ys x) (bound_none (names y) k) (dummies_bound names (suc k) ys x))

-- a name there that is no dummy argument
module _ (u : WrittenUnit) (table : NameFacts) (functions : FunctionLabels) (es : List Expansion) (dummies : List Bytes) (are : AreNameFacts u table) (known : AreFunctionLabels u es functions) where
  abbrev told_there : Told
  told_there = record { table = table; functions = functions; dummies = dummies }

  abbrev names_there : Naming
  names_there = with_expansions (own_attributes u) es

  free_told : (x : Bytes) → is_among x dummies ≡ false → is_among x (all_names u) ≡ true → TellsName (names_there x) told_there x
  unfolding with_expansions
  free_told x free named = told_name told_there x (names_there x) free (own_class u table x are named) (own_constant u table x are named) (λ is. known.of x named)

  within_told : (x : Bytes) (b : Bool) (o : Option Term) → is_among x dummies ≡ b → IsBoundAs b o → (is_among x dummies ≡ false → is_among x (all_names u) ≡ true) → TellsName (expanded_as (names_there x) o) told_there x
  unfolding expanded_as IsBoundAs
  within_told x true (Some t) is bound named = told_dummy told_there x (names_there x) t is bound
  within_told x false None is bound named = free_told x is (named is)
  within_told x true None is bound named = absurd bound
  within_told x false (Some t) is bound named = absurd bound

  name_told : (x : Bytes) → (is_among x dummies ≡ false → is_among x (all_names u) ≡ true) → TellsName (within_function names_there dummies x) told_there x
  unfolding within_function
  name_told x named = within_told x (is_among x dummies) (dummy_among names_there 0 dummies x) refl (dummies_bound names_there 0 dummies x) named

  expression_told : (e : Expr) → ((x : Bytes) → is_among x (use_names (uses_of e)) ≡ true → is_among x dummies ≡ false → is_among x (all_names u) ≡ true)
      → MayBe (read (within_function names_there dummies) e).value (labels_of told_there e)
  expression_told e named = (expression_passed (within_function names_there dummies) told_there e (λ x h. name_told x (named x h))).value

-- THE TERM OF A FUNCTION
abbrev result_by : Basic → Option ℕ → Term → Term
result_by basic width t = elim basic [
  | Character ↦ elim width [ None ↦ t | Some n ↦ Intrinsically (Fitted n) (More t NoMore) ]
  | _ ↦ t
]

fitted_by : (basic : Basic) (width : Option ℕ) (t : Term) (labels : List ℕ) → MayBe t labels → MayBe (result_by basic width t) (if is_fitted basic width then [] else labels)
unfolding may_be_other is_fitted
fitted_by Character None t labels told = told
fitted_by Character (Some n) t labels told = record { tells = λ known. refl }
fitted_by _ width t labels told = told

fitted_told : (a : Attribute) (basic : Basic) (width : Option ℕ) (t : Term) (labels : List ℕ) → basic ≡ a.basic → width ≡ a.width → MayBe t labels
    → MayBe (result_term a t) (if is_fitted basic width then [] else labels)
unfolding result_term
fitted_told a basic width t labels typed wide told =
    subst (λ w. MayBe (result_by a.basic a.width t) (if is_fitted basic w then [] else labels)) (sym wide)
    (subst (λ b. MayBe (result_by a.basic a.width t) (if is_fitted b a.width then [] else labels)) (sym typed) (fitted_by a.basic a.width t labels told))

alike : (t : Term) (labels others : List ℕ) → ((known : ℕ → Bool) → list_all known others ≡ list_all known labels) → MayBe t labels → MayBe t others
alike t labels others same told = record { tells = λ known. told.tells known ∙ ap not (sym (same known)) }

abbrev definition : Bytes → List Bytes → Expr → Definition
definition x dummies e = record { name = x; dummies = dummies; body = e }

value_told : (u : WrittenUnit) (table : NameFacts) (functions : FunctionLabels) (es : List Expansion) (x : Bytes) (dummies : List Bytes) (e : Expr) (labels : List ℕ) → AreNameFacts u table
    → AreFunctionLabels u es functions → is_among x (all_names u) ≡ true
    → ((y : Bytes) → is_among y (use_names (uses_of e)) ≡ true → is_among y dummies ≡ false → is_among y (all_names u) ≡ true)
    → ((known : ℕ → Bool) → list_all known labels ≡ list_all known (value_labels (record { table = table; functions = functions; dummies = dummies }) x e))
    → MayBe (expansion_of (with_expansions (own_attributes u) es) (definition x dummies e)).term labels
unfolding expansion_of value_labels with_expansions
value_told u table functions es x dummies e labels are known named inside same =
    let told : Told = record { table = table; functions = functions; dummies = dummies } in
    alike _ (value_labels told x e) labels same
    (fitted_told (with_expansions (own_attributes u) es x) (fact_in table x).basic (fact_in table x).width _ (labels_of told e) (own_basic u table x are named) (own_width u table x are named)
    (expression_told u table functions es dummies are known e inside))

-- ONE FUNCTION MORE, unless there is one of its name
expansion_more : (y : Bytes) (es : List Expansion) (e : Expansion) → expansion_among y (es ++ e ∷ []) ≡ first_of_two (expansion_among y es) (if bytes_eq e.name y then Some e.term else None)
unfolding expansion_among first_of_two
expansion_more y [] e = refl
expansion_more y (d ∷ es) e = step (bytes_eq d.name y) d.term (expansion_among y (es ++ e ∷ [])) (expansion_among y es) (if bytes_eq e.name y then Some e.term else None) (expansion_more y es e)
  where
    step : (b : Bool) (t : Term) (o p q : Option Term) → o ≡ first_of_two p q → (if b then Some t else o) ≡ first_of_two (if b then Some t else p) q
    step true t o p q is = refl
    step false t o p q is = is

again_by : (o : Option Term) (own : Option (List ℕ)) (b : Bool) (t : Term) → IsToldAs o own → (b ≡ true → is_some own ≡ true) → IsToldAs (first_of_two o (if b then Some t else None)) own
unfolding IsToldAs first_of_two
again_by None None true t told there = absurd (let no : false ≡ true = there refl in cc)
again_by None None false t told there = told
again_by (Some s) (Some labels) b t told there = told
again_by None (Some labels) b t told there = absurd told
again_by (Some s) None b t told there = absurd told

put_by : (o : Option Term) (own : Option (List ℕ)) (b : Bool) (t : Term) (labels : List ℕ) → IsToldAs o own → (b ≡ true → is_some own ≡ false) → (b ≡ true → MayBe t labels)
    → IsToldAs (first_of_two o (if b then Some t else None)) (if b then Some labels else own)
unfolding IsToldAs first_of_two
put_by None None true t labels told free one = one refl
put_by None None false t labels told free one = told
put_by (Some s) (Some more) true t labels told free one = absurd (let no : true ≡ false = free refl in cc)
put_by (Some s) (Some more) false t labels told free one = told
put_by None (Some more) b t labels told free one = absurd told
put_by (Some s) None b t labels told free one = absurd told

one_expansion : (u : WrittenUnit) (es : List Expansion) (d : Definition) → expansions_from (own_attributes u) es (d ∷ []) ≡ es ++ expansion_of (with_expansions (own_attributes u) es) d ∷ []
unfolding expansions_from
one_expansion u es d = refl

expansion_name : (names : Naming) (x : Bytes) (dummies : List Bytes) (e : Expr) → (expansion_of names (definition x dummies e)).name ≡ x
unfolding expansion_of
expansion_name names x dummies e = refl

same_at : (functions : FunctionLabels) (x y : Bytes) (b : Bool) → is_some (labels_at functions x) ≡ b → bytes_eq x y ≡ true → is_some (labels_at functions y) ≡ b
same_at functions x y b is same = ap (λ z. is_some (labels_at functions z)) (sym ((bytes_eq-Decides x y).0 same)) ∙ is

pub function_noted : (u : WrittenUnit) (table : NameFacts) (before after : FunctionLabels) (x : Bytes) (dummies : List Bytes) (e : Expr) → AreNameFacts u table
    → ((y : Bytes) → is_among y (use_names (uses_of e)) ≡ true → is_among y dummies ≡ false → is_among y (all_names u) ≡ true) → NotesFunction table before after x dummies e
    → NotesFunctions u before after (definition x dummies e ∷ [])
function_noted u table before after x dummies e are inside (is_there there same) = record {
  noted = λ es known. record {
    of = λ y named.
        let term = (expansion_of (with_expansions (own_attributes u) es) (definition x dummies e)).term in
        subst (λ (functions : FunctionLabels). IsToldAs (expansion_among y (expansions_from (own_attributes u) es (definition x dummies e ∷ []))) (labels_at functions y)) (sym same)
        (subst (λ (fs : List Expansion). IsToldAs (expansion_among y fs) (labels_at before y)) (sym (one_expansion u es (definition x dummies e)))
        (subst (λ (o : Option Term). IsToldAs o (labels_at before y)) (sym (expansion_more y es (expansion_of (with_expansions (own_attributes u) es) (definition x dummies e))))
        (subst (λ (z : Bytes). IsToldAs (first_of_two (expansion_among y es) (if bytes_eq z y then Some term else None)) (labels_at before y))
        (sym (expansion_name (with_expansions (own_attributes u) es) x dummies e))
        (again_by (expansion_among y es) (labels_at before y) (bytes_eq x y) term (known.of y named) (λ here. same_at before x y true there here)))));
  };
}
function_noted u table before after x dummies e are inside (is_put free labels same put) = record {
  noted = λ es known. record {
    of = λ y named.
        let term = (expansion_of (with_expansions (own_attributes u) es) (definition x dummies e)).term in
        subst (IsToldAs (expansion_among y (expansions_from (own_attributes u) es (definition x dummies e ∷ [])))) (sym (put y))
        (subst (λ (fs : List Expansion). IsToldAs (expansion_among y fs) (if bytes_eq x y then Some labels else labels_at before y)) (sym (one_expansion u es (definition x dummies e)))
        (subst (λ (o : Option Term). IsToldAs o (if bytes_eq x y then Some labels else labels_at before y)) (sym (expansion_more y es (expansion_of (with_expansions (own_attributes u) es) (definition x dummies e))))
        (subst (λ (z : Bytes). IsToldAs (first_of_two (expansion_among y es) (if bytes_eq z y then Some term else None)) (if bytes_eq x y then Some labels else labels_at before y))
        (sym (expansion_name (with_expansions (own_attributes u) es) x dummies e))
        (put_by (expansion_among y es) (labels_at before y) (bytes_eq x y) term labels (known.of y named) (λ here. same_at before x y false free here)
        (λ here. value_told u table before es x dummies e labels are known (ap (λ z. is_among z (all_names u)) ((bytes_eq-Decides x y).0 here) ∙ named) inside same)))));
  };
}

-- DEFINITIONS
pub notes_none : (u : WrittenUnit) (functions : FunctionLabels) (ds : List Definition) → ds ≡ [] → NotesFunctions u functions functions ds
unfolding expansions_from
notes_none u functions ds is = record {
  noted = λ es known. subst (λ (fs : List Definition). AreFunctionLabels u (expansions_from (own_attributes u) es fs) functions) (sym is) known;
}

notes_as : (u : WrittenUnit) (before after : FunctionLabels) (ds fs : List Definition) → ds ≡ fs → NotesFunctions u before after ds → NotesFunctions u before after fs
notes_as u before after ds fs is notes = subst (NotesFunctions u before after) is notes

defined_not : (b : Bool) (h : Heading) (e : Expr) → b ≡ false → (if b then definition_by h e else []) ≡ []
defined_not b h e is = ap (λ c. if c then definition_by h e else []) is

pub defines_not : (arrays : List Bytes) (target e : Expr) → defines_function arrays (heading_of target) ≡ false → definitions_in arrays (body.Assign target e) ≡ []
unfolding definitions_in layer_of
defines_not arrays target e is = defined_not (defines_function arrays (heading_of target)) (heading_of target) e is

unnamed : (h : Heading) (e : Expr) → h.applied ≡ None → definition_by h e ≡ []
unfolding definition_by
unnamed h e is = ap (λ o. elim o [ None ↦ [] | Some x ↦ record { name = x; dummies = h.arguments; body = e } ∷ [] ]) is

either_none : (b : Bool) (ds : List Definition) → ds ≡ [] → (if b then ds else []) ≡ []
either_none true ds is = is
either_none false ds is = refl

pub defines_none : (arrays : List Bytes) (target e : Expr) → (heading_of target).applied ≡ None → definitions_in arrays (body.Assign target e) ≡ []
unfolding definitions_in layer_of
defines_none arrays target e is = either_none (defines_function arrays (heading_of target)) (definition_by (heading_of target) e) (unnamed (heading_of target) e is)

defined_is : (b : Bool) (o : Option Bytes) (x : Bytes) (xs : List Bytes) (e : Expr) → b ≡ true → o ≡ Some x
    → (if b then (elim o [ None ↦ [] | Some y ↦ record { name = y; dummies = xs; body = e } ∷ [] ]) else []) ≡ definition x xs e ∷ []
defined_is b o x xs e is named =
    ap (λ c. if c then (elim o [ None ↦ [] | Some y ↦ record { name = y; dummies = xs; body = e } ∷ [] ]) else []) is
    ∙ ap (λ (p : Option Bytes). elim p [ None ↦ [] | Some y ↦ record { name = y; dummies = xs; body = e } ∷ [] ]) named

defines_one : (arrays : List Bytes) (x : Bytes) (target e : Expr) → defines_function arrays (heading_of target) ≡ true → (heading_of target).applied ≡ Some x
    → definitions_in arrays (body.Assign target e) ≡ definition x (heading_of target).arguments e ∷ []
unfolding definitions_in layer_of definition_by
defines_one arrays x target e is named = defined_is (defines_function arrays (heading_of target)) (heading_of target).applied x (heading_of target).arguments e is named

pub definition_noted : (u : WrittenUnit) (table : NameFacts) (before after : FunctionLabels) (x : Bytes) (dummies : List Bytes) (target e : Expr) → AreNameFacts u table
    → IsStatementOf u (body.Assign target e) → defines_function (arrays_of u) (heading_of target) ≡ true → (heading_of target).applied ≡ Some x → dummies ≡ (heading_of target).arguments
    → NotesFunction table before after x dummies e → NotesFunctions u before after (definitions_in (arrays_of u) (body.Assign target e))
definition_noted u table before after x dummies target e are stands defines named listed notes =
    notes_as u before after (definition x (heading_of target).arguments e ∷ []) (definitions_in (arrays_of u) (body.Assign target e)) (sym (defines_one (arrays_of u) x target e defines named))
    (function_noted u table before after x (heading_of target).arguments e are (λ y h free. body_named u target e y stands defines free h)
    (subst (λ ds. NotesFunction table before after x ds e) listed notes))

pub defines_other : (arrays : List Bytes) (b : Body) → ((target e : Expr) → b ≡ body.Assign target e → ⊥) → definitions_in arrays b ≡ []
unfolding definitions_in layer_of
defines_other arrays (whole.Assign target e) other = absurd (other target e refl)
defines_other arrays (IfOne' e s (more_of-Body b r)) other = refl
defines_other arrays _ other = refl

-- STATEMENTS
expansions_both : (own : Naming) (es : List Expansion) (ds fs : List Definition) → expansions_from own es (ds ++ fs) ≡ expansions_from own (expansions_from own es ds) fs
unfolding expansions_from
expansions_both own es [] fs = refl
expansions_both own es (d ∷ ds) fs = expansions_both own (es ++ expansion_of (with_expansions own es) d ∷ []) ds fs

pub expansions_step : (u : WrittenUnit) (es : List Expansion) (s : Stmt) (ss : List Stmt)
    → expansions_from (own_attributes u) es (from_all (definitions_in (arrays_of u)) (s ∷ ss))
    ≡ expansions_from (own_attributes u) (expansions_from (own_attributes u) es (definitions_in (arrays_of u) s.body)) (from_all (definitions_in (arrays_of u)) ss)
unfolding from_all
expansions_step u es s ss = expansions_both (own_attributes u) es (definitions_in (arrays_of u) s.body) (from_all (definitions_in (arrays_of u)) ss)

pub expansions_end : (u : WrittenUnit) (es : List Expansion) → expansions_from (own_attributes u) es (from_all (definitions_in (arrays_of u)) []) ≡ es
unfolding from_all expansions_from
expansions_end u es = refl

pub none_told : (u : WrittenUnit) (functions : FunctionLabels) → ((x : Bytes) → labels_at functions x ≡ None) → AreFunctionLabels u [] functions
unfolding expansion_among IsToldAs
none_told u functions none = record { of = λ x named. subst (IsToldAs None) (sym (none x)) tt }

pub all_told : (u : WrittenUnit) (ss : List Stmt) (functions : FunctionLabels) (es : List Expansion) → ss ≡ u.statements
    → expansions_from (own_attributes u) [] (from_all (definitions_in (arrays_of u)) ss) ≡ es → AreFunctionLabels u es functions → AreFunctionLabels u (all_expansions u) functions
unfolding all_expansions definitions_of
all_told u ss functions es same is told =
    subst (λ (fs : List Expansion). AreFunctionLabels u fs functions) (sym is ∙ ap (λ (ts : List Stmt). expansions_from (own_attributes u) [] (from_all (definitions_in (arrays_of u)) ts)) same) told

-- LABELS, each of them once
and_along : (a b c : Bool) → ((a && b) && c) ≡ (a && (b && c))
and_along true b c = refl
and_along false b c = refl

equal_by : (k l : ℕ) → nat_eq k l ≡ true → k ≡ l
equal_by k l h = grind (arith, nat_tests)

turned : (a b : Bool) → (a && b) ≡ (b && a)
turned true true = refl
turned true false = refl
turned false true = refl
turned false false = refl

last_same : (a b c : Bool) → a ≡ c → (a && b) ≡ ((a && b) && c)
last_same true b true is = turned true b
last_same false b c is = refl
last_same true b false is = absurd (true≢false is)

once_by : (known : ℕ → Bool) (k : ℕ) (labels : List ℕ) (l : ℕ) (b : Bool) → nat_eq k l ≡ b → (list_any (λ j. nat_eq j l) labels ≡ true → list_all known labels ≡ (list_all known labels && known l))
    → (b || list_any (λ j. nat_eq j l) labels) ≡ true → (known k && list_all known labels) ≡ ((known k && list_all known labels) && known l)
once_by known k labels l true same later there = last_same (known k) (list_all known labels) (known l) (ap known (equal_by k l same))
once_by known k labels l false other later there = ap (λ b. known k && b) (later there) ∙ sym (and_along (known k) (list_all known labels) (known l))

pub once_there : (known : ℕ → Bool) (labels : List ℕ) (l : ℕ) → list_any (λ k. nat_eq k l) labels ≡ true → list_all known labels ≡ (list_all known labels && known l)
once_there known [] l there = absurd (true≢false (sym there))
once_there known (k ∷ labels) l there = once_by known k labels l (nat_eq k l) refl (once_there known labels l) there

-- THE LABELS OF ONE FUNCTION
pub fitted_labels : (told : Told) (x : Bytes) (e : Expr) (fitted : Bool) → fitted ≡ is_fitted (fact_in told.table x).basic (fact_in told.table x).width → fitted ≡ true → [] ≡ value_labels told x e
unfolding value_labels
fitted_labels told x e fitted is there = sym (ap (λ b. if b then [] else labels_of told e) (sym is ∙ there))

pub free_labels : (told : Told) (x : Bytes) (e : Expr) (fitted : Bool) → fitted ≡ is_fitted (fact_in told.table x).basic (fact_in told.table x).width → fitted ≡ false → labels_of told e ≡ value_labels told x e
unfolding value_labels
free_labels told x e fitted is other = sym (ap (λ b. if b then [] else labels_of told e) (sym is ∙ other))

some_mapped : {X : Type 0} (o : Option (Bor X)) → is_some (option_map (λ (v : Bor X). v.now) o) ≡ is_some o
some_mapped None = refl
some_mapped (Some v) = refl

some_there : (functions : FunctionLabels) (x : Bytes) (o : Option (Bor (List ℕ))) (b : Bool) → option_map (λ (v : Bor (List ℕ)). v.now) o ≡ labels_at functions x → b ≡ is_some o → is_some (labels_at functions x) ≡ b
some_there functions x o b is there = ap is_some (sym is) ∙ some_mapped o ∙ sym there

pub noted_already : (table : NameFacts) (functions : FunctionLabels) (x : Bytes) (dummies : List Bytes) (e : Expr) (o : Option (Bor (List ℕ))) (b : Bool)
    → option_map (λ (v : Bor (List ℕ)). v.now) o ≡ labels_at functions x → b ≡ is_some o → b ≡ true → NotesFunction table functions functions x dummies e
noted_already table functions x dummies e o b is there yes' = is_there (some_there functions x o b is there ∙ yes') refl

pub noted_first : {A E : Type 0} (r : Result A E) (table : NameFacts) (before after : FunctionLabels) (x : Bytes) (dummies : List Bytes) (e : Expr) (o : Option (Bor (List ℕ))) (b : Bool) (labels : List ℕ)
    → option_map (λ (v : Bor (List ℕ)). v.now) o ≡ labels_at before x → b ≡ is_some o → b ≡ false
    → ((known : ℕ → Bool) → list_all known labels ≡ list_all known (value_labels (record { table = table; functions = before; dummies = dummies }) x e))
    → OnOk r ((q : Bytes) → labels_at after q ≡ (if bytes_eq x q then Some labels else labels_at before q)) → OnOk r (NotesFunction table before after x dummies e)
noted_first (Ok v) table before after x dummies e o b labels is there no' same put = is_put (some_there before x o b is there ∙ no') labels same put
noted_first (Err v) table before after x dummies e o b labels is there no' same put = put
