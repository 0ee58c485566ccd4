-- The expression of a statement function is that of its first definition.
use Rattle.std.proofs.Common.{◌≡◌, Bool, true, false, not, ◌||◌, List, [], ◌∷◌, ◌++◌, Option, Some, None, bytes_eq, if◌then◌else◌, refl, sym, ap, ◌∙◌, append_assoc}
use Rattle.std.specs.List.{list_any}
use Rattle.f_tree.specs.declared.expressions.Expr.{Expr}
use Rattle.f_tree.specs.declared.statements.Body.{Body, Assign, IfOne', more_of-Body}
use Rattle.f_tree.specs.declared.statements.Body.TheOpen as open-body
use Rattle.f_tree.specs.declared.names.Basic.TheVariants.{Character}
use Rattle.f_tree.specs.declared.statements.Stmt.{Stmt}
use Rattle.f_tree.specs.declared.units.Unit.{Unit as WrittenUnit}
use Rattle.f_tree.specs.Folds.{layer_of}
use Rattle.f_tree.specs.Values.{Bytes}
use Rattle.f_tree.specs.Terms.{Term, refers, terms_opened}
use Rattle.f_tree.specs.Facts.{Attribute}
use Rattle.f_tree.specs.Reading.{read}
use Rattle.f_tree.specs.Uses.{heading_of, is_among, defines_function}
use Rattle.f_tree.specs.Attributes.{from_all, Expansion, expansion_among, within_function, with_expansions, result_term, Definition, definition_by, definitions_in, expansion_of, expansions_from, arrays_of}
use Rattle.f_tree.specs.Lines.{Naming}
use Rattle.name_facts.specs.declaration_rows.NameRows.{own_attributes}
use Rattle.direct_lines.specs.Definitions.{is_same, assigns_with_list, expansions_in}

-- ## Expansions of several definitions

from-both : {A : Type 0} (f : Body → List A) (ss ts : List Stmt) → from_all f (ss ++ ts) ≡ from_all f ss ++ from_all f ts
unfolding from_all
from-both f [] ts = refl
from-both f (s ∷ ss) ts = ap (λ more. f s.body ++ more) (from-both f ss ts) ∙ sym (append_assoc (f s.body) (from_all f ss) (from_all f ts))

expansions-both : (own : Naming) (es : List Expansion) (ds ds' : List Definition) → expansions_from own es (ds ++ ds') ≡ expansions_from own (expansions_from own es ds) ds'
unfolding expansions_from
expansions-both own es [] ds' = refl
expansions-both own es (d ∷ ds) ds' = expansions-both own (es ++ expansion_of (with_expansions own es) d ∷ []) ds ds'

first-by : (b : Bool) (here : Term) (rest more : Option Term) (t : Term) → (rest ≡ Some t → more ≡ Some t) → (if b then Some here else rest) ≡ Some t → (if b then Some here else more) ≡ Some t
first-by true here rest more t step is = is
first-by false here rest more t step is = step is

found-first : (x : Bytes) (es more : List Expansion) (t : Term) → expansion_among x es ≡ Some t → expansion_among x (es ++ more) ≡ Some t
unfolding expansion_among
found-first x [] more t is = absurd (cc)
found-first x (e ∷ es) more t is = first-by (bytes_eq e.name x) e.term (expansion_among x es) (expansion_among x (es ++ more)) t (found-first x es more t) is

found-still : (own : Naming) (x : Bytes) (es : List Expansion) (ds : List Definition) (t : Term) → expansion_among x es ≡ Some t → expansion_among x (expansions_from own es ds) ≡ Some t
unfolding expansions_from
found-still own x es [] t is = is
found-still own x es (d ∷ ds) t is =
    found-still own x (es ++ expansion_of (with_expansions own es) d ∷ []) ds t (found-first x es (expansion_of (with_expansions own es) d ∷ []) t is)

last-by : (b : Bool) (here : Term) (rest more last : Option Term) → (rest ≡ None → more ≡ last) → (if b then Some here else rest) ≡ None → (if b then Some here else more) ≡ last
last-by true here rest more last step is = absurd (cc)
last-by false here rest more last step is = step is

found-last : (x : Bytes) (es : List Expansion) (e : Expansion) → expansion_among x es ≡ None → expansion_among x (es ++ e ∷ []) ≡ (if bytes_eq e.name x then Some e.term else None)
unfolding expansion_among
found-last x [] e is = refl
found-last x (d ∷ es) e is =
    last-by (bytes_eq d.name x) d.term (expansion_among x es) (expansion_among x (es ++ e ∷ [])) (if bytes_eq e.name x then Some e.term else None) (found-last x es e) is

-- ## The definitions in a statement

-- a statement defines nothing, or one function, to whose name with a list it assigns
data Defines (arrays : List Bytes) (x : Bytes) (b : Body) (assigns : Bool) : Type 0 where
  defines_none : definitions_in arrays b ≡ [] → Defines arrays x b assigns
  defines_one : (d : Definition) → definitions_in arrays b ≡ d ∷ [] → assigns ≡ bytes_eq d.name x → Defines arrays x b assigns

heading-definitions : (arrays : List Bytes) (x : Bytes) (b : Body) (e : Expr) (alone applied : Option Bytes) (arguments : List Bytes) →
    definitions_in arrays b ≡ (if defines_function arrays (record { alone = alone; applied = applied; arguments = arguments }) then definition_by (record { alone = alone; applied = applied; arguments = arguments }) e else []) →
    Defines arrays x b (is_same x applied)
unfolding defines_function definition_by is_same
heading-definitions arrays x b e alone None arguments is = defines_none is
heading-definitions arrays x b e alone (Some y) arguments is = by (is_among y arrays) is
  where
    by : (among : Bool) → definitions_in arrays b ≡ (if not among then record { name = y; dummies = arguments; body = e } ∷ [] else []) → Defines arrays x b (bytes_eq y x)
    by true h = defines_none h
    by false h = defines_one (record { name = y; dummies = arguments; body = e }) h refl

definitions : (arrays : List Bytes) (x : Bytes) (s : Stmt) (b : Body) → s.body ≡ b → Defines arrays x b (assigns_with_list x s)
unfolding definitions_in layer_of assigns_with_list
definitions arrays x s (Assign target e) is =
    elim (heading-definitions arrays x (Assign target e) e (heading_of target).alone (heading_of target).applied (heading_of target).arguments refl) [
      | defines_none h ↦ defines_none h
      | defines_one d h same ↦ defines_one d h (ap (λ (b : Body). elim (layer_of b) [ open-body.Assign t v ↦ is_same x (heading_of t).applied | _ ↦ false ]) is ∙ same)
    ]
definitions arrays x s (IfOne' e t (more_of-Body b r)) is = defines_none refl
definitions arrays x s _ is = defines_none refl

-- ## The first definition of a name

left-false : (a b : Bool) → a || b ≡ false → a ≡ false
left-false true b is = absurd (cc)
left-false false b is = refl

right-false : (a b : Bool) → a || b ≡ false → b ≡ false
right-false true b is = absurd (cc)
right-false false b is = is

expansion-name : (names : Naming) (d : Definition) → (expansion_of names d).name ≡ d.name
unfolding expansion_of
expansion-name names d = refl

still-none : (own : Naming) (x : Bytes) (es : List Expansion) (d : Definition) → expansion_among x es ≡ None → bytes_eq d.name x ≡ false →
    expansion_among x (es ++ expansion_of (with_expansions own es) d ∷ []) ≡ None
still-none own x es d none other =
    found-last x es (expansion_of (with_expansions own es) d) none
    ∙ ap (λ y. if bytes_eq y x then Some (expansion_of (with_expansions own es) d).term else None) (expansion-name (with_expansions own es) d)
    ∙ ap (λ b. if b then Some (expansion_of (with_expansions own es) d).term else None) other

none-behind : (own : Naming) (arrays : List Bytes) (x : Bytes) (es : List Expansion) (b : Body) (assigns : Bool) (later : List Definition) → Defines arrays x b assigns → assigns ≡ false →
    expansion_among x es ≡ None → ((es' : List Expansion) → expansion_among x es' ≡ None → expansion_among x (expansions_from own es' later) ≡ None) →
    expansion_among x (expansions_from own es (definitions_in arrays b ++ later)) ≡ None
unfolding expansions_from
none-behind own arrays x es b assigns later (defines_none is) not' none step =
    ap (λ ds. expansion_among x (expansions_from own es (ds ++ later))) is ∙ step es none
none-behind own arrays x es b assigns later (defines_one d is same) not' none step =
    ap (λ ds. expansion_among x (expansions_from own es (ds ++ later))) is
    ∙ step (es ++ expansion_of (with_expansions own es) d ∷ []) (still-none own x es d none (sym same ∙ not'))

none-yet : (u : WrittenUnit) (x : Bytes) (es : List Expansion) (ss : List Stmt) → expansion_among x es ≡ None → list_any (assigns_with_list x) ss ≡ false →
    expansion_among x (expansions_from (own_attributes u) es (from_all (definitions_in (arrays_of u)) ss)) ≡ None
unfolding from_all expansions_from
none-yet u x es [] none all = none
none-yet u x es (s ∷ ss) none all =
    none-behind (own_attributes u) (arrays_of u) x es s.body (assigns_with_list x s) (from_all (definitions_in (arrays_of u)) ss) (definitions (arrays_of u) x s s.body refl)
    (left-false (assigns_with_list x s) (list_any (assigns_with_list x) ss) all) none
    (λ es' none'. none-yet u x es' ss none' (right-false (assigns_with_list x s) (list_any (assigns_with_list x) ss) all))

-- statements that assign to no such name with a list do not define it
pub not-defined : (u : WrittenUnit) (x : Bytes) (ss : List Stmt) → list_any (assigns_with_list x) ss ≡ false → expansion_among x (expansions_in u ss) ≡ None
unfolding expansions_in expansion_among
not-defined u x ss all = none-yet u x [] ss refl all

-- the definition in a statement
pub definition-in : (arrays : List Bytes) (y : Bytes) (target e : Expr) (b : Body) → b ≡ Assign target e → (heading_of target).applied ≡ Some y → is_among y arrays ≡ false →
    definitions_in arrays b ≡ record { name = y; dummies = (heading_of target).arguments; body = e } ∷ []
unfolding definitions_in layer_of defines_function definition_by
definition-in arrays y target e b is applied other =
    ap (definitions_in arrays) is
    ∙ ap (λ (o : Option Bytes). if (elim o [ None ↦ false | Some x ↦ not (is_among x arrays) ]) then (elim o [ None ↦ [] | Some x ↦ record { name = x; dummies = (heading_of target).arguments; body = e } ∷ [] ]) else []) applied
    ∙ ap (λ b. if not b then record { name = y; dummies = (heading_of target).arguments; body = e } ∷ [] else []) other

-- the expression of a name that a statement defines, and no earlier one
pub defined-here : (u : WrittenUnit) (y : Bytes) (before later : List Stmt) (s : Stmt) (target e : Expr) → s.body ≡ Assign target e → (heading_of target).applied ≡ Some y →
    is_among y (arrays_of u) ≡ false → bytes_eq y y ≡ true → list_any (assigns_with_list y) before ≡ false →
    expansion_among y (expansions_in u (before ++ s ∷ later))
    ≡ Some (result_term (own_attributes u y) (read (within_function (with_expansions (own_attributes u) (expansions_in u before)) (heading_of target).arguments) e).value)
unfolding expansions_in expansions_from from_all expansion_of with_expansions own_attributes expansion_among result_term
defined-here u y before later s target e is applied other same none =
    let own = own_attributes u in
    let defs = definitions_in (arrays_of u) in
    let es = expansions_in u before in
    let d : Definition = record { name = y; dummies = (heading_of target).arguments; body = e } in
    let t : Term = result_term (own_attributes u y) (read (within_function (with_expansions (own_attributes u) (expansions_in u before)) (heading_of target).arguments) e).value in
    ap (λ ds. expansion_among y (expansions_from own [] ds)) (from-both defs before (s ∷ later))
    ∙ ap (expansion_among y) (expansions-both own [] (from_all defs before) (defs s.body ++ from_all defs later))
    ∙ ap (λ ds. expansion_among y (expansions_from own es (ds ++ from_all defs later))) (definition-in (arrays_of u) y target e s.body is applied other)
    ∙ found-still own y (es ++ expansion_of (with_expansions own es) d ∷ []) (from_all defs later) t
    (found-last y es (expansion_of (with_expansions own es) d) (not-defined u y before none) ∙ ap (λ b. if b then Some t else None) same)

-- the value of a statement function has a reference where its expression has one
pub result-refers : (a : Attribute) (t : Term) → refers (result_term a t) ≡ refers t
unfolding result_term terms_opened
result-refers a t = by a.basic a.width
  where
    open-false : (b : Bool) → b || false ≡ b
    open-false true = refl
    open-false false = refl

    by : (basic : _) (width : _) → refers (result_term (record a { basic = basic; width = width }) t) ≡ refers t
    by Character None = refl
    by Character (Some n) = open-false (refers t)
    by _ width = refl

-- ## Which statements assign to a name with a list

pub assigns-Assign : (x : Bytes) (s : Stmt) (target e : Expr) → s.body ≡ Assign target e → assigns_with_list x s ≡ is_same x (heading_of target).applied
unfolding assigns_with_list layer_of
assigns-Assign x s target e is = ap (λ (b : Body). elim (layer_of b) [ open-body.Assign t v ↦ is_same x (heading_of t).applied | _ ↦ false ]) is

pub assigns-other : (x : Bytes) (s : Stmt) → ((target e : Expr) → s.body ≡ Assign target e → ⊥) → assigns_with_list x s ≡ false
unfolding assigns_with_list layer_of
assigns-other x s other = by s.body other
  where
    by : (b : Body) → ((target e : Expr) → b ≡ Assign target e → ⊥) → (elim (layer_of b) [ open-body.Assign t v ↦ is_same x (heading_of t).applied | _ ↦ false ]) ≡ false
    by (Assign target e) not' = absurd (not' target e refl)
    by (IfOne' e t (more_of-Body b r)) not' = refl
    by _ not' = refl
