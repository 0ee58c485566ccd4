-- What a table tells of a name is what the unit says, and the dummy arguments of a definition are names of their own.
use Rattle.std.specs.Prelude.{◌≡◌, ℕ, suc, ◌+◌, Bool, true, false, not, ◌&&◌, ◌||◌, List, [], ◌∷◌, bytes_eq, Option, Some, None, option_map, is_some, if◌then◌else◌}
use Rattle.std.proofs.Common.{Result, Ok, Err, IfOk, ◌<◌, ◌≤◌, length, get_or, drop, drop-cons, refl, sym, ap, ◌∙◌, arith}
use Rattle.std.proofs.lemmas.List.{drop_all}
use Rattle.std.proofs.lemmas.Slice.Eq.{bytes_eq-Decides}
use Rattle.std.specs.Borrow.{Bor}
use Rattle.std.specs.Global.{Vec}
use Rattle.std.specs.List.{list_any}
use mathlib.Core.Path.{fun_ext}
use Rattle.f_tree.specs.declared.expressions.Expr.{Expr}
use Rattle.f_tree.specs.declared.statements.Body.{Body, Assign, IfOne', more_of-Body}
use Rattle.f_tree.specs.declared.statements.Body.TheVariants as body
use Rattle.f_tree.specs.declared.units.Unit.{Unit as WrittenUnit}
use Rattle.f_tree.specs.Values.{Bytes}
use Rattle.f_tree.specs.Facts.{Attribute}
use Rattle.f_tree.specs.Folds.{layer_of}
use Rattle.f_tree.specs.Lines.{is_character}
use Rattle.f_tree.specs.Uses.{is_among, Heading, heading_of, defines_function}
use Rattle.declared_types.specs.declared.types.DeclaredType.{DeclaredType}
use Rattle.declared_types.specs.TypeTables.{typed_of}
use Rattle.f_tree.specs.Attributes.{Definition, Typed, definitions_in, definition_by, typed_name, with_class, with_dimensions, without_expansion, constants_of}
use Rattle.declaration_rows.specs.LengthRows.{names_for, dummies_star}
use Rattle.declaration_rows.specs.NameRows.{given_names, own_attributes, is_star}
use Rattle.name_facts.specs.declared.fact.NameFact.{NameFact}
use Rattle.name_facts.specs.GivenFacts.{IsNameFact, AreNameFacts, IsOwnFact, fact_in}
use Rattle.name_table.specs.Named.{value_of, texts}
use Rattle.name_table.proofs.Texts.{bytes_eq_flip}
use Rattle.constant_values.specs.KnownConstants.{AreConstants}
use Rattle.length_judge.specs.declared.names.NameLength.{NameLength}
use Rattle.length_judge.specs.declared.names.Names.{Names}
use Rattle.length_judge.specs.KnownNames.{measured, length_of, fact_length, naming_in, AreKnown, target_dummies, dummies_in, naming_with, AreOwn, is_star_dummy}

-- A NAME
pub fact_known : (a : Attribute) (f : NameFact) → IsNameFact a f → fact_length f ≡ length_of a
unfolding fact_length length_of
fact_known a f is = λ i. measured (is.class i) (is.basic i) (is.width i)

pub own_known : (n : Names) (x : Bytes) (own : NameLength) → AreKnown n → Some own ≡ value_of n.dummies x → own ≡ length_of (naming_in n x)
unfolding naming_in
own_known n x own known is =
    known.own x own (sym is) ∙ ap (λ (o : Option NameLength). length_of (if is_some o then own_attributes n.unit.now x else given_names n.unit.now x)) is

pub unit_known : (n : Names) (x : Bytes) (r : NameLength) → AreKnown n → None ≡ value_of n.dummies x → r ≡ fact_length (fact_in n.table.now x) → r ≡ length_of (naming_in n x)
unfolding naming_in
unit_known n x r known none is =
    is ∙ fact_known (given_names n.unit.now x) (fact_in n.table.now x) (known.given.facts x)
    ∙ ap (λ (o : Option NameLength). length_of (if is_some o then own_attributes n.unit.now x else given_names n.unit.now x)) none

pub own_fact_known : (u : WrittenUnit) (x : Bytes) (f : NameFact) (r : NameLength) → IsOwnFact u x f → r ≡ fact_length f → r ≡ length_of (own_attributes u x)
own_fact_known u x f r own is = is ∙ fact_known (own_attributes u x) f own.is

-- the type of a name of its own
own_basic : (u : WrittenUnit) (x : Bytes) → (typed_name u x).basic ≡ (own_attributes u x).basic
unfolding own_attributes without_expansion with_dimensions with_class
own_basic u x = refl

typed_basic : (d : DeclaredType) → d.basic ≡ (typed_of d).basic
unfolding typed_of
typed_basic d = refl

pub basic_is : (u : WrittenUnit) (x : Bytes) (d : DeclaredType) → typed_of d ≡ typed_name u x → d.basic ≡ (own_attributes u x).basic
basic_is u x d is = typed_basic d ∙ ap (λ (t : Typed). t.basic) is ∙ own_basic u x

pub length_is : (u : WrittenUnit) (x : Bytes) (d : DeclaredType) → typed_of d ≡ typed_name u x → is_star (option_map (λ length. length.now) d.length) ≡ is_star (typed_name u x).length
unfolding typed_of
length_is u x d is = ap (λ (t : Typed). is_star t.length) is

-- THE TABLE of dummy arguments, one after the other
abbrev pub no_name : Bor (List ℕ)
no_name = record { ref_ptr = (0, 0); now = [] }

among_step : (q x : Bytes) (xs : List Bytes) → is_among q (x ∷ xs) ≡ (bytes_eq q x || is_among q xs)
unfolding is_among
among_step q x xs = refl

among_none : (q : Bytes) → is_among q [] ≡ false
unfolding is_among
among_none q = refl

rest_is : {X : Type 0} (xs : List X) (i : ℕ) (x d : X) → i < length xs → x ≡ get_or xs i d → drop i xs ≡ x ∷ drop (i + 1) xs
rest_is xs i x d h is = drop-cons xs i d h ∙ ap (λ y. y ∷ drop (suc i) xs) (sym is) ∙ ap (λ n. x ∷ drop n xs) (let e : suc i ≡ i + 1 = omega arith in e)

chosen_by : {A : Type 0} (b r : Bool) (s t old : A) → (b ≡ true → t ≡ s) → (if b || r then s else old) ≡ (if r then s else (if b then t else old))
chosen_by true true s t old is = refl
chosen_by true false s t old is = sym (is refl)
chosen_by false r s t old is = refl

module _ (own : Bytes → NameLength) where
  pub own_more : (ds : List (Bor (List ℕ))) (i : ℕ) (d : Bor (List ℕ)) (x : Bytes) (n : NameLength) (whole old new : Option NameLength) → i < length ds → d ≡ get_or ds i no_name
      → whole ≡ (if is_among x (texts (drop i ds)) then Some (own x) else old) → n ≡ own d.now → new ≡ (if bytes_eq d.now x then Some n else old)
      → whole ≡ (if is_among x (texts (drop (i + 1) ds)) then Some (own x) else new)
  own_more ds i d x n whole old new h is so_far length put =
      so_far ∙ ap (λ (rs : List (Bor (List ℕ))). if is_among x (texts rs) then Some (own x) else old) (rest_is ds i d no_name h is)
      ∙ ap (λ b. if b then Some (own x) else old) (among_step x d.now (texts (drop (i + 1) ds)))
      ∙ chosen_by (bytes_eq x d.now) (is_among x (texts (drop (i + 1) ds))) (Some (own x)) (Some (own d.now)) old
      (λ same. ap (λ y. Some (own y)) (sym ((bytes_eq-Decides x d.now).0 same)))
      ∙ ap (λ o. if is_among x (texts (drop (i + 1) ds)) then Some (own x) else o)
      (ap (λ b. if b then Some (own d.now) else old) (bytes_eq_flip x d.now) ∙ ap (λ m. if bytes_eq d.now x then Some m else old) (sym length) ∙ sym put)

  pub own_end : (ds : List (Bor (List ℕ))) (i : ℕ) (x : Bytes) (whole old : Option NameLength) → length ds ≤ i
      → whole ≡ (if is_among x (texts (drop i ds)) then Some (own x) else old) → old ≡ whole
  own_end ds i x whole old h so_far =
      sym (so_far ∙ ap (λ (rs : List (Bor (List ℕ))). if is_among x (texts rs) then Some (own x) else old) (drop_all i ds h) ∙ ap (λ b. if b then Some (own x) else old) (among_none x))

-- WHAT IS KNOWN in a definition
some_if : (b : Bool) (n : NameLength) → is_some (if b then Some n else None) ≡ b
some_if true n = refl
some_if false n = refl

length_if : (b : Bool) (n m : NameLength) → Some n ≡ (if b then Some m else None) → n ≡ m
length_if true n m is = cc
length_if false n m is = absurd (cc)

module _ (ds : List Bytes) (n : Names) (own : AreOwn n.unit.now ds n.dummies) where
  pub names_known : AreNameFacts n.unit.now n.table.now → AreConstants (constants_of n.unit.now) n.constants.now → AreKnown n
  names_known given constants = record {
    given = given;
    constants = constants;
    own = λ x m is. length_if (is_among x ds) m (length_of (own_attributes n.unit.now x)) (sym is ∙ own.has x);
  }

  naming_at : (x : Bytes) → naming_in n x ≡ naming_with n.unit.now ds x
  unfolding naming_in naming_with
  naming_at x =
      ap (λ b. if b then own_attributes n.unit.now x else given_names n.unit.now x) (ap is_some (own.has x) ∙ some_if (is_among x ds) (length_of (own_attributes n.unit.now x)))

  pub naming_is : naming_in n ≡ naming_with n.unit.now ds
  naming_is = fun_ext naming_at

-- DEFINITIONS of statements
or_none : (b : Bool) → (b || false) ≡ b
or_none true = refl
or_none false = refl

assigned : (arrays : List Bytes) (target e : Expr) → dummies_in arrays (body.Assign target e) ≡ target_dummies arrays target
unfolding dummies_in layer_of
assigned arrays target e = refl

pub dummies_Assign : (arrays : List Bytes) (b : Body) (target e : Expr) → b ≡ body.Assign target e → target_dummies arrays target ≡ dummies_in arrays b
dummies_Assign arrays b target e is = sym (ap (dummies_in arrays) is ∙ assigned arrays target e)

pub dummies_other : (arrays : List Bytes) (b : Body) → ((target e : Expr) → b ≡ body.Assign target e → ⊥) → [] ≡ dummies_in arrays b
unfolding dummies_in layer_of
dummies_other arrays (Assign target e) other = absurd (other target e refl)
dummies_other arrays (IfOne' e s (more_of-Body b r)) other = refl
dummies_other arrays _ other = refl

pub dummies_as : {E : Type 0} (r : Result (Vec (Bor (List ℕ))) E) (xs ys : List Bytes) → xs ≡ ys → IfOk r (λ names. texts names.items ≡ xs) → IfOk r (λ names. texts names.items ≡ ys)
dummies_as (Ok names) xs ys is found = found ∙ is
dummies_as (Err e) xs ys is found = found

pub no_dummies : (ds : List (Bor (List ℕ))) (ys : List Bytes) → ds ≡ [] → [] ≡ ys → texts ds ≡ ys
no_dummies ds ys none is = ap texts none ∙ is

abbrev has_definition : Option Bytes → List Bytes → Bool
has_definition o arrays = elim o [ None ↦ false | Some x ↦ not (is_among x arrays) ]

abbrev definition_named : Option Bytes → List Bytes → Expr → List Definition
definition_named o ds e = elim o [ None ↦ [] | Some x ↦ record { name = x; dummies = ds; body = e } ∷ [] ]

module _ (u : WrittenUnit) where
  naming_named : (o : Option Bytes) (ds : List Bytes) (e : Expr) (arrays : List Bytes) → has_definition o arrays ≡ true → names_for u (definition_named o ds e) ≡ naming_with u ds
  unfolding names_for naming_with
  naming_named None ds e arrays h = absurd (cc)
  naming_named (Some x) ds e arrays h = refl

  naming_if : (h : Heading) (e : Expr) (arrays : List Bytes) (b : Bool) → b ≡ defines_function arrays h → names_for u (if b then definition_by h e else []) ≡ naming_with u (if b then h.arguments else [])
  unfolding names_for naming_with definition_by defines_function is_among
  naming_if h e arrays true is = naming_named h.applied h.arguments e arrays (sym is)
  naming_if h e arrays false is = refl

  no_naming : names_for u [] ≡ naming_with u []
  unfolding names_for naming_with is_among
  no_naming = refl

  pub naming_defined : (arrays : List Bytes) (b : Body) → names_for u (definitions_in arrays b) ≡ naming_with u (dummies_in arrays b)
  unfolding definitions_in dummies_in target_dummies layer_of
  naming_defined arrays (Assign target e) = naming_if (heading_of target) e arrays (defines_function arrays (heading_of target)) refl
  naming_defined arrays (IfOne' e s (more_of-Body b r)) = no_naming
  naming_defined arrays _ = no_naming

  star_named : (o : Option Bytes) (ds : List Bytes) (e : Expr) (arrays : List Bytes) → has_definition o arrays ≡ true → dummies_star u (definition_named o ds e) ≡ list_any (is_star_dummy u) ds
  unfolding dummies_star is_star_dummy
  star_named None ds e arrays h = absurd (cc)
  star_named (Some x) ds e arrays h = or_none (list_any (λ y. is_character (own_attributes u y).basic && is_star (typed_name u y).length) ds)

  star_if : (h : Heading) (e : Expr) (arrays : List Bytes) (b : Bool) → b ≡ defines_function arrays h
      → dummies_star u (if b then definition_by h e else []) ≡ list_any (is_star_dummy u) (if b then h.arguments else [])
  unfolding dummies_star definition_by defines_function
  star_if h e arrays true is = star_named h.applied h.arguments e arrays (sym is)
  star_if h e arrays false is = refl

  no_star : dummies_star u [] ≡ list_any (is_star_dummy u) []
  unfolding dummies_star
  no_star = refl

  pub star_defined : (arrays : List Bytes) (b : Body) → dummies_star u (definitions_in arrays b) ≡ list_any (is_star_dummy u) (dummies_in arrays b)
  unfolding definitions_in dummies_in target_dummies layer_of
  star_defined arrays (Assign target e) = star_if (heading_of target) e arrays (defines_function arrays (heading_of target)) refl
  star_defined arrays (IfOne' e s (more_of-Body b r)) = no_star
  star_defined arrays _ = no_star
