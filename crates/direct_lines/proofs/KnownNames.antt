-- What the table tells of names is what they are.
use Rattle.std.proofs.Common.{◌≡◌, ℕ, suc, Bool, true, false, not, ◌&&◌, ◌||◌, List, [], ◌∷◌, ◌++◌, map, Option, Some, None, bytes_eq, if◌then◌else◌, refl, sym, ap, ◌∙◌, subst}
use Rattle.std.specs.List.{list_any}
use Rattle.std.proofs.lemmas.Slice.Eq.{bytes_eq-Decides}
use Rattle.f_tree.specs.declared.names.Basic.TheVariants.{Character}
use Rattle.f_tree.specs.declared.names.Class.{Class}
use Rattle.f_tree.specs.declared.names.Class.TheVariants as class
use Rattle.f_tree.specs.declared.expressions.Expr.{Expr}
use Rattle.f_tree.specs.declared.statements.Body.{Body, Assign}
use Rattle.f_tree.specs.declared.statements.UnitKind.{UnitKind}
use Rattle.f_tree.specs.declared.statements.UnitKind.TheVariants as kind
use Rattle.f_tree.specs.declared.statements.Dimension.{Dimension as WrittenDimension}
use Rattle.f_tree.specs.declared.statements.Stmt.{Stmt}
use Rattle.f_tree.specs.declared.units.Unit.{Unit as WrittenUnit}
use Rattle.f_tree.specs.Folds.{fold_body}
use Rattle.f_tree.specs.Setting.{IsIn, first_in, later_in}
use Rattle.f_tree.specs.Values.{Bytes}
use Rattle.f_tree.specs.Terms.{Term, refers, terms_opened}
use Rattle.f_tree.specs.Facts.{Attribute}
use Rattle.f_tree.specs.Reading.{read}
use Rattle.f_tree.specs.Uses.{Use, Declared, heading_of, is_among, without, defines_function, uses_of, uses_of_assignment, layer_uses_of_body, uses_of_body, all_of, uses_of_statements, first_seen, seen_from}
use Rattle.f_tree.specs.Attributes.{from_all, Shaped, shaped_in, dimensions_among, array_names, is_not_empty, own_class, Signs, class_by, class_of, signs_of, option_list, named_dummies, Constant, Expansion, expansion_among, bound_term, dummy_among, expanded_as, within_function, with_expansions, with_dimensions, with_class, without_expansion, arrays_of, attribute_of, described, attribute_in, bare, names_of, all_described}
use Rattle.f_tree.specs.Lines.{Naming}
use Rattle.name_facts.specs.declaration_rows.NameRows.{given_names, own_attributes, all_names}
use Rattle.lowering_laws.proofs.fortran_laws.SimpleAttributes.{described_name, used_is_seen}
use Rattle.name_facts.specs.declared.table.NameFacts.{NameFacts}
use Rattle.name_facts.specs.GivenFacts.{AreNameFacts, fact_in}
use Rattle.name_uses.proofs.name_table.Texts.{bytes_eq_flip}
use Rattle.direct_lines.specs.Definitions.{is_same, is_name, names_alone, assigns_with_list, expansions_in}
use Rattle.direct_lines.specs.References.{has_reference, is_function_class, term_refers, expansion_refers, class_in, stands_for_reference, known_by}
use Rattle.direct_lines.proofs.ArgumentForms.{among-alone}
use Rattle.direct_lines.proofs.ReadReferences.{known_of, reads-refer}
use Rattle.direct_lines.proofs.UsedNames.{IsSame, each-used, same-reference}
use Rattle.direct_lines.proofs.Expansions.{defined-here, result-refers, assigns-Assign}

same-name : (x y : Bytes) → bytes_eq x y ≡ true → x ≡ y
same-name x y h = (bytes_eq-Decides x y).0 h

-- ## What a unit gives a name

given-by : (P : Attribute → Type 0) (b : Bool) (x y : Bytes) (f : Bytes → Attribute) (rest : Attribute) → bytes_eq y x ≡ b → P (f x) → P rest → P (if b then f y else rest)
given-by P true x y f rest e own other = subst (λ z. P (f z)) (sym (same-name y x e)) own
given-by P false x y f rest e own other = other

-- a name is what it is described as, or nothing
given-either : (P : Attribute → Type 0) (u : WrittenUnit) (us : List Use) (cs : List Constant) (es : List Expansion) (xs : List Bytes) (x : Bytes) → P (bare class.Unit None) →
    P (attribute_of u us cs es x) → P (attribute_in (described u us cs es xs) x)
unfolding described attribute_in
given-either P u us cs es [] x none own = none
given-either P u us cs es (y ∷ xs) x none own =
    given-by P (bytes_eq y x) x y (attribute_of u us cs es) (attribute_in (described u us cs es xs) x) refl own (given-either P u us cs es xs x none own)

-- a name of the unit is what all statements make of it, with the expressions of all statement functions
given-in : (u : WrittenUnit) (x : Bytes) → IsIn x (all_names u) → with_expansions (own_attributes u) (expansions_in u u.statements) x ≡ given_names u x
unfolding given_names all_described all_names own_attributes expansions_in attribute_of
given-in u x among = described_name (λ a. with_expansions (own_attributes u) (expansions_in u u.statements) x ≡ a) u _ _ _ _ x among refl

own-class-in : (u : WrittenUnit) (x : Bytes) → IsIn x (all_names u) → (own_attributes u x).class ≡ (given_names u x).class
unfolding with_expansions
own-class-in u x among = ap (λ (a : Attribute). a.class) (given-in u x among)

-- what it stands for is known, if it is a statement function
known-expansion : (u : WrittenUnit) (x : Bytes) →
    is_function_class (given_names u x).class && term_refers (given_names u x).expansion ≡ is_function_class (given_names u x).class && expansion_refers u u.statements x
unfolding given_names all_described own_attributes expansions_in expansion_refers attribute_of with_expansions bare is_function_class
known-expansion u x =
    given-either (λ a. is_function_class a.class && term_refers a.expansion ≡ is_function_class a.class && term_refers (expansion_among x (expansions_in u u.statements))) u _ _ _ _ x refl refl

-- ## In a statement

told-same : (u : WrittenUnit) (table : NameFacts) → AreNameFacts u table → (x : Bytes) → IsSame (known_of (given_names u)) (known_by u table u.statements []) x
unfolding known_of known_by class_in stands_for_reference
told-same u table are x = record {
  class = sym (are.facts x).class;
  stands = known-expansion u x ∙ ap (λ c. is_function_class c && expansion_refers u u.statements x) (sym (are.facts x).class);
}

-- an expression in a statement has a reference by what the table tells where what is read of it has one
pub told-reference : (u : WrittenUnit) (table : NameFacts) → AreNameFacts u table → (e : Expr) → has_reference (known_by u table u.statements []) e ≡ refers (read (given_names u) e).actual
told-reference u table are e =
    sym ((reads-refer (given_names u) e).actual
    ∙ same-reference (known_of (given_names u)) (known_by u table u.statements []) e (each-used (IsSame (known_of (given_names u)) (known_by u table u.statements [])) (uses_of e) (λ v o. told-same u table are v.name)))

-- ## The names in the definition of a statement function

in-left : {A : Type 0} (x : A) (xs ys : List A) → IsIn x xs → IsIn x (xs ++ ys)
in-left x [] ys among = elim among [ ]
in-left x (y ∷ xs) ys first_in = first_in
in-left x (y ∷ xs) ys (later_in among) = later_in (in-left x xs ys among)

in-right : {A : Type 0} (x : A) (xs ys : List A) → IsIn x ys → IsIn x (xs ++ ys)
in-right x [] ys among = among
in-right x (y ∷ xs) ys among = later_in (in-right x xs ys among)

kept-by : (u v : Use) (b : Bool) (us : List Use) → IsIn u us → IsIn u (if b then us else v ∷ us)
kept-by u v true us among = among
kept-by u v false us among = later_in among

first-kept : (u : Use) (b : Bool) (us : List Use) → b ≡ false → IsIn u (if b then us else u ∷ us)
first-kept u true us is = absurd (cc)
first-kept u false us is = first_in

in-without : (xs : List Bytes) (us : List Use) (u : Use) → IsIn u us → is_among u.name xs ≡ false → IsIn u (without xs us)
unfolding without
in-without xs [] u among other = elim among [ ]
in-without xs (v ∷ us) _ first_in other = first-kept v (is_among v.name xs) (without xs us) other
in-without xs (v ∷ us) u (later_in among) other = kept-by u v (is_among v.name xs) (without xs us) (in-without xs us u among other)

in-statements : (f : Stmt → List Use) (before later : List Stmt) (s : Stmt) (u : Use) → IsIn u (f s) → IsIn u (all_of f (before ++ s ∷ later))
unfolding all_of
in-statements f [] later s u among = in-left u (f s) (all_of f later) among
in-statements f (t ∷ before) later s u among = in-right u (f t) (all_of f (before ++ s ∷ later)) (in-statements f before later s u among)

defining : (arrays : List Bytes) (target e : Expr) (y : Bytes) → (heading_of target).applied ≡ Some y → is_among y arrays ≡ false → defines_function arrays (heading_of target) ≡ true
unfolding defines_function
defining arrays target e y applied other =
    ap (λ (o : Option Bytes). elim o [ None ↦ false | Some x ↦ not (is_among x arrays) ]) applied ∙ ap not other

used-defining : (arrays : List Bytes) (target e : Expr) (b : Body) → b ≡ Assign target e → defines_function arrays (heading_of target) ≡ true →
    uses_of_body arrays b ≡ without (heading_of target).arguments (uses_of target ++ uses_of e)
unfolding uses_of_body layer_uses_of_body uses_of_assignment fold_body
used-defining arrays target e b is defines =
    ap (uses_of_body arrays) is
    ∙ ap (λ t. if t then without (heading_of target).arguments (uses_of target ++ uses_of e) else uses_of target ++ uses_of e) defines

-- a name in a definition that is no dummy argument is a name of the unit
defined-name : (u : WrittenUnit) (before later : List Stmt) (s : Stmt) (target e : Expr) (y : Bytes) → u.statements ≡ before ++ s ∷ later → s.body ≡ Assign target e →
    (heading_of target).applied ≡ Some y → is_among y (arrays_of u) ≡ false → (v : Use) → IsIn v (uses_of e) → is_among v.name (heading_of target).arguments ≡ false → IsIn v.name (all_names u)
unfolding all_names names_of first_seen uses_of_statements is_among
defined-name u before later s target e y split is applied other v among free =
    let arrays = arrays_of u in
    let here : IsIn v (uses_of_body arrays s.body) =
    subst (IsIn v) (sym (used-defining arrays target e s.body is (defining arrays target e y applied other)))
    (in-without (heading_of target).arguments (uses_of target ++ uses_of e) v (in-right v (uses_of target) (uses_of e) among) free) in
    let stated : IsIn v (all_of (λ t. uses_of_body arrays t.body) u.statements) =
    subst (λ ss. IsIn v (all_of (λ t. uses_of_body arrays t.body) ss)) (sym split) (in-statements (λ t. uses_of_body arrays t.body) before later s v here) in
    let dummies = map (λ x. record { name = x; manner = Declared }) (named_dummies u.dummies) in
    in-right v.name (option_list u.name) (seen_from [] (dummies ++ all_of (λ t. uses_of_body arrays t.body) u.statements))
    (used_is_seen [] (dummies ++ all_of (λ t. uses_of_body arrays t.body) u.statements) v
    (in-right v dummies (all_of (λ t. uses_of_body arrays t.body) u.statements) stated) refl)

-- ## Dummy arguments

bound-by : (basic : _) (width : Option ℕ) (a : Attribute) (k : ℕ) → refers (bound_term (record a { basic = basic; width = width }) k) ≡ false
unfolding bound_term terms_opened
bound-by Character None a k = refl
bound-by Character (Some n) a k = refl
bound-by _ width a k = refl

bound-free : (a : Attribute) (k : ℕ) → refers (bound_term a k) ≡ false
bound-free a k = bound-by a.basic a.width a k

-- a name among the dummy arguments is expanded to what has no reference
record IsBound (a : Attribute) (o : Option Term) : Type 0 where
  pub class : (expanded_as a o).class ≡ class.StatementFunction
  pub free : term_refers (expanded_as a o).expansion ≡ false

bound-some : (a b : Attribute) (k : ℕ) → IsBound a (Some (bound_term b k))
unfolding expanded_as term_refers
bound-some a b k = record { class = refl; free = bound-free b k }

bound-in : (t : Bool) (a b : Attribute) (k : ℕ) (rest : Option Term) → (t ≡ false → IsBound a rest) → IsBound a (if t then Some (bound_term b k) else rest)
bound-in true a b k rest other = bound-some a b k
bound-in false a b k rest other = other refl

or-right : (a b : Bool) → a || b ≡ true → a ≡ false → b ≡ true
or-right true b h other = absurd (cc)
or-right false b h other = h

bound-among : (names : Naming) (k : ℕ) (ys : List Bytes) (x : Bytes) (a : Attribute) → is_among x ys ≡ true → IsBound a (dummy_among names k ys x)
unfolding dummy_among is_among
bound-among names k [] x a among = absurd (cc)
bound-among names k (y ∷ ys) x a among =
    bound-in (bytes_eq y x) a (names y) k (dummy_among names (suc k) ys x)
    (λ apart. bound-among names (suc k) ys x a (or-right (bytes_eq x y) (is_among x ys) among (bytes_eq_flip x y ∙ apart)))

or-left-false : (a b : Bool) → a || b ≡ false → a ≡ false
or-left-false true b h = absurd (cc)
or-left-false false b h = refl

or-right-false : (a b : Bool) → a || b ≡ false → b ≡ false
or-right-false true b h = absurd (cc)
or-right-false false b h = h

free-among : (names : Naming) (k : ℕ) (ys : List Bytes) (x : Bytes) → is_among x ys ≡ false → dummy_among names k ys x ≡ None
unfolding dummy_among is_among
free-among names k [] x other = refl
free-among names k (y ∷ ys) x other =
    ap (λ t. if t then Some (bound_term (names y) k) else dummy_among names (suc k) ys x) (bytes_eq_flip y x ∙ or-left-false (bytes_eq x y) (is_among x ys) other)
    ∙ free-among names (suc k) ys x (or-right-false (bytes_eq x y) (is_among x ys) other)

-- ## In a definition

bound-same : (u : WrittenUnit) (table : NameFacts) (before : List Stmt) (names : Naming) (dummies : List Bytes) (args : List Expr) (x : Bytes) → names_alone args ≡ dummies →
    is_among x dummies ≡ true → IsSame (known_of (within_function names dummies)) (known_by u table before args) x
unfolding known_of known_by class_in stands_for_reference within_function
bound-same u table before names dummies args x alone among =
    let is : list_any (is_name x) args ≡ true = sym (among-alone x args) ∙ ap (is_among x) alone ∙ among in
    let bound = bound-among names 0 dummies x (names x) among in
    record {
      class = bound.class ∙ ap (λ t. if t then class.StatementFunction else (fact_in table x).class) (sym is);
      stands =
          ap (λ t. is_function_class (expanded_as (names x) (dummy_among names 0 dummies x)).class && t) bound.free
          ∙ and-false (is_function_class (expanded_as (names x) (dummy_among names 0 dummies x)).class)
          ∙ ap (λ t. not t && (is_function_class (fact_in table x).class && expansion_refers u before x)) (sym is);
    }
  where
    and-false : (b : Bool) → b && false ≡ false
    and-false true = refl
    and-false false = refl

free-same : (u : WrittenUnit) (table : NameFacts) (before : List Stmt) (dummies : List Bytes) (args : List Expr) (x : Bytes) → AreNameFacts u table → names_alone args ≡ dummies →
    is_among x dummies ≡ false → IsIn x (all_names u) →
    IsSame (known_of (within_function (with_expansions (own_attributes u) (expansions_in u before)) dummies)) (known_by u table before args) x
unfolding known_of known_by class_in stands_for_reference within_function expanded_as with_expansions expansion_refers
free-same u table before dummies args x are alone free among =
    let names = with_expansions (own_attributes u) (expansions_in u before) in
    let is : list_any (is_name x) args ≡ false = sym (among-alone x args) ∙ ap (is_among x) alone ∙ free in
    let none = free-among names 0 dummies x free in
    let told : (own_attributes u x).class ≡ (fact_in table x).class = own-class-in u x among ∙ sym (are.facts x).class in
    record {
      class = ap (λ (o : Option Term). (expanded_as (names x) o).class) none ∙ told ∙ ap (λ t. if t then class.StatementFunction else (fact_in table x).class) (sym is);
      stands =
          ap (λ (o : Option Term). is_function_class (expanded_as (names x) o).class && term_refers (expanded_as (names x) o).expansion) none
          ∙ ap (λ c. is_function_class c && term_refers (expansion_among x (expansions_in u before))) told
          ∙ ap (λ t. not t && (is_function_class (fact_in table x).class && expansion_refers u before x)) (sym is);
    }

-- ## The class of a statement function

no-function-by : (k : UnitKind) → (elim k [ kind.Function spec ↦ class.Result | _ ↦ class.Unit ]) ≡ class.StatementFunction → ⊥
no-function-by (kind.Function spec) h = absurd (cc)
no-function-by _ h = absurd (cc)

not-result : (u : WrittenUnit) → own_class u ≡ class.StatementFunction → ⊥
unfolding own_class
not-result u is = no-function-by u.kind is

function-no-array : (own : Class) (g : Signs) (constant dummy named array : Bool) → (own ≡ class.StatementFunction → ⊥) →
    class_by own (record g { is_constant = constant; is_dummy = dummy; is_own_name = named; is_array = array }) ≡ class.StatementFunction → array ≡ false
unfolding class_by
function-no-array own g true dummy named array other is = absurd (cc)
function-no-array own g false true named array other is = absurd (procedure (g.is_external || (g.is_called || (g.has_list && not array))) is)
  where
    procedure : (t : Bool) → (if t then class.DummyProcedure else class.Dummy) ≡ class.StatementFunction → ⊥
    procedure true h = absurd (cc)
    procedure false h = absurd (cc)
function-no-array own g false false true array other is = absurd (other is)
function-no-array own g false false false true other is = absurd (cc)
function-no-array own g false false false false other is = refl

no-shape-by : (x y : Bytes) (dims found : List WrittenDimension) (names : List Bytes) (t : Bool) → bytes_eq y x ≡ t → (is_not_empty found ≡ false → is_among x names ≡ false) →
    is_not_empty (elim dims [ [] ↦ found | first ∷ rest ↦ if t then first ∷ rest else found ]) ≡ false → is_among x (elim dims [ [] ↦ names | first ∷ rest ↦ y ∷ names ]) ≡ false
unfolding is_not_empty is_among
no-shape-by x y [] found names t same step h = step h
no-shape-by x y (first ∷ rest) found names true same step h = absurd (cc)
no-shape-by x y (first ∷ rest) found names false same step h = ap (λ b. b || is_among x names) (bytes_eq_flip x y ∙ same) ∙ step h

no-shape : (x : Bytes) (ds : List Shaped) → is_not_empty (dimensions_among x ds) ≡ false → is_among x (array_names ds) ≡ false
unfolding dimensions_among array_names is_among
no-shape x [] none = refl
no-shape x (d ∷ ds) none = no-shape-by x d.name d.dimensions (dimensions_among x ds) (array_names ds) (bytes_eq d.name x) refl (no-shape x ds) none

attribute-no-array : (u : WrittenUnit) (us : List Use) (cs : List Constant) (es : List Expansion) (x : Bytes) → (attribute_of u us cs es x).class ≡ class.StatementFunction →
    is_among x (arrays_of u) ≡ false
unfolding attribute_of with_expansions without_expansion with_dimensions with_class class_of signs_of arrays_of
attribute-no-array u us cs es x is =
    let g = signs_of u us x in
    no-shape x (from_all shaped_in u.statements) (function-no-array (own_class u) g g.is_constant g.is_dummy g.is_own_name g.is_array (not-result u) is)

unit-no-function : (x : Bytes) (arrays : List Bytes) → (bare class.Unit None).class ≡ class.StatementFunction → is_among x arrays ≡ false
unfolding bare
unit-no-function x arrays is = absurd (cc)

-- a statement function is no array
no-array : (u : WrittenUnit) (table : NameFacts) (x : Bytes) → AreNameFacts u table → (fact_in table x).class ≡ class.StatementFunction → is_among x (arrays_of u) ≡ false
unfolding given_names all_described
no-array u table x are is =
    given-either (λ a. a.class ≡ class.StatementFunction → is_among x (arrays_of u) ≡ false) u _ _ _ _ x (unit-no-function x (arrays_of u)) (attribute-no-array u _ _ _ x) (sym (are.facts x).class ∙ is)

pub function-class : (c : Class) → is_function_class c ≡ true → c ≡ class.StatementFunction
unfolding is_function_class
function-class class.StatementFunction h = refl
function-class _ h = absurd (cc)

-- ## The expression of a statement function

same-applied : (x : Bytes) (o : Option Bytes) → is_same x o ≡ true → o ≡ Some x
unfolding is_same
same-applied x None h = absurd (cc)
same-applied x (Some y) h = ap Some (same-name y x h)

same-itself : (x : Bytes) → bytes_eq x x ≡ true
same-itself x = (bytes_eq-Decides x x).1 refl

definition-same : (u : WrittenUnit) (table : NameFacts) (before later : List Stmt) (s : Stmt) (target e : Expr) (x : Bytes) (args : List Expr) (v : Use) (t : Bool) → AreNameFacts u table →
    u.statements ≡ before ++ s ∷ later → s.body ≡ Assign target e → (heading_of target).applied ≡ Some x → is_among x (arrays_of u) ≡ false →
    names_alone args ≡ (heading_of target).arguments → IsIn v (uses_of e) → is_among v.name (heading_of target).arguments ≡ t →
    IsSame (known_of (within_function (with_expansions (own_attributes u) (expansions_in u before)) (heading_of target).arguments)) (known_by u table before args) v.name
definition-same u table before later s target e x args v true are split is applied other alone among is_dummy =
    bound-same u table before (with_expansions (own_attributes u) (expansions_in u before)) (heading_of target).arguments args v.name alone is_dummy
definition-same u table before later s target e x args v false are split is applied other alone among is_dummy =
    free-same u table before (heading_of target).arguments args v.name are alone is_dummy (defined-name u before later s target e x split is applied other v among is_dummy)

-- a statement function stands for an expression with a reference where the expression of its first definition has one
pub defined-reference : (u : WrittenUnit) (table : NameFacts) (before later all : List Stmt) (s : Stmt) (target e : Expr) (x : Bytes) (args : List Expr) → AreNameFacts u table →
    u.statements ≡ before ++ s ∷ all → s.body ≡ Assign target e → assigns_with_list x s ≡ true → list_any (assigns_with_list x) before ≡ false →
    is_function_class (fact_in table x).class ≡ true → names_alone args ≡ (heading_of target).arguments →
    has_reference (known_by u table before args) e ≡ expansion_refers u (before ++ s ∷ later) x
unfolding expansion_refers term_refers
defined-reference u table before later all s target e x args are split is assigns none function alone =
    let names = within_function (with_expansions (own_attributes u) (expansions_in u before)) (heading_of target).arguments in
    let applied : (heading_of target).applied ≡ Some x = same-applied x (heading_of target).applied (sym (assigns-Assign x s target e is) ∙ assigns) in
    let other : is_among x (arrays_of u) ≡ false = no-array u table x are (function-class (fact_in table x).class function) in
    sym (ap term_refers (defined-here u x before later s target e is applied other (same-itself x) none)
    ∙ result-refers (own_attributes u x) (read names e).value
    ∙ (reads-refer names e).value
    ∙ same-reference (known_of names) (known_by u table before args) e
    (each-used (IsSame (known_of names) (known_by u table before args)) (uses_of e)
    (λ v among. definition-same u table before all s target e x args v (is_among v.name (heading_of target).arguments) are split is applied other alone among refl)))
