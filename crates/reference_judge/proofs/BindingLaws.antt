-- What is known of the names in a statement, and in the definition of a statement function.
use Rattle.std.specs.Prelude.{◌≡◌, ℕ, suc, Bool, true, false, not, ◌||◌, List, [], ◌∷◌, ◌++◌, map, length, bytes_eq, Option, Some, None, is_some, if◌then◌else◌}
use Rattle.std.specs.Borrow.{Bor}
use Rattle.std.proofs.Common.{Result, Ok, Err, OnOk, ◌+◌, ◌<◌, ◌≤◌, drop, drop-cons, get_or, arith, refl, sym, ap, subst, ◌∙◌}
use Rattle.std.proofs.lemmas.List.{drop_all}
use Rattle.std.proofs.lemmas.Slice.Eq.{bytes_eq-Decides}
use Rattle.f_tree.specs.declared.names.Basic.{Basic}
use Rattle.f_tree.specs.declared.expressions.Expr.{Expr}
use Rattle.f_tree.specs.declared.statements.Body.{Body, Assign, IfOne', more_of-Body}
use Rattle.f_tree.specs.declared.statements.Body.TheVariants as body
use Rattle.f_tree.specs.declared.statements.Stmt.{Stmt}
use Rattle.f_tree.specs.declared.units.Unit.{Unit as WrittenUnit}
use Rattle.f_tree.specs.Folds.{layer_of}
use Rattle.f_tree.specs.Values.{Bytes}
use Rattle.f_tree.specs.Terms.{Term}
use Rattle.f_tree.specs.Facts.{Attribute}
use Rattle.f_tree.specs.Lines.{Naming}
use Rattle.f_tree.specs.Uses.{is_among, heading_of, defines_function}
use Rattle.f_tree.specs.Attributes.{Definition, dummy_among, expanded_as, bound_term, definitions_in, definition_by, arrays_of, typed_name, without_expansion, with_dimensions, with_class, Typed}
use Rattle.declaration_rows.specs.Judgement.{Known}
use Rattle.declaration_rows.specs.NameRows.{given_names, own_attributes, signatures_of, signature_among, known_in, known_within, dummy_or, unless_dummy}
use Rattle.declaration_rows.specs.ReferenceRows.{known_for, parts_of, references_of_statement}
use Rattle.declared_types.specs.declared.types.DeclaredType.{DeclaredType}
use Rattle.declared_types.specs.TypeTables.{typed_of}
use Rattle.expression_judge.specs.declared.names.Fact.{Fact}
use Rattle.expression_judge.specs.declared.names.Names.{Names}
use Rattle.expression_judge.specs.SeenNames.{unit_fact, fact_in, function_in, dummy_in, is_bound_in, bound_or, bound_fact, has_place, IsFact, AreSeen}
use Rattle.name_table.specs.Named.{texts}
use Rattle.name_table.proofs.Texts.{bytes_eq_flip}
use Rattle.reference_judge.specs.KnownBindings.{bound_basic, known_with, references_known, defined_target}
use Rattle.reference_judge.specs.ArgumentsSeen.{all_references, sight_by}
use Rattle.reference_judge.specs.ReferencesSeen.{at, call_references, references_by, located_from}
use Rattle.reference_judge.proofs.SightForms.{at_append}
use Rattle.reference_judge.proofs.SightLaws.{statement_seen}

-- what holds anyway holds where a call succeeded
pub held : {A E : Type 0} (P : Type 0) (r : Result A E) → P → OnOk r P
held P (Ok x) p = p
held P (Err e) p = tt

-- THE TYPE of a name of its own
own_is : (u : WrittenUnit) (x : Bytes) → (typed_name u x).basic ≡ (own_attributes u x).basic
unfolding own_attributes without_expansion with_dimensions with_class
own_is u x = refl

typed_basic : (d : DeclaredType) → d.basic ≡ (typed_of d).basic
unfolding typed_of
typed_basic d = refl

pub basic_is : (u : WrittenUnit) (x : Bytes) (d : DeclaredType) → typed_of d ≡ typed_name u x → d.basic ≡ (own_attributes u x).basic
basic_is u x d is = typed_basic d ∙ ap (λ (t : Typed). t.basic) is ∙ own_is u x

-- THE TABLE of dummy arguments, one after the other
abbrev pub no_name : Bor (List ℕ)
no_name = record { ref_ptr = (0, 0); now = [] }

among_step : (q x : Bytes) (xs : List Bytes) → is_among q (x ∷ xs) ≡ (bytes_eq q x || is_among q xs)
unfolding is_among
among_step q x xs = refl

among_none : (q : Bytes) → is_among q [] ≡ false
unfolding is_among
among_none q = refl

rest_is : {X : Type 0} (xs : List X) (i : ℕ) (x d : X) → i < length xs → x ≡ get_or xs i d → drop i xs ≡ x ∷ drop (i + 1) xs
rest_is xs i x d h is = drop-cons xs i d h ∙ ap (λ y. y ∷ drop (suc i) xs) (sym is) ∙ ap (λ n. x ∷ drop n xs) (let e : suc i ≡ i + 1 = omega arith in e)

chosen_by : {A : Type 0} (b r : Bool) (s t old : A) → (b ≡ true → t ≡ s) → (if b || r then s else old) ≡ (if r then s else (if b then t else old))
chosen_by true true s t old is = refl
chosen_by true false s t old is = sym (is refl)
chosen_by false r s t old is = refl

pub bound_more : (own : Naming) (ds : List (Bor (List ℕ))) (i : ℕ) (d : Bor (List ℕ)) (x : Bytes) (whole old new : Option Basic) → i < length ds → d ≡ get_or ds i no_name
    → whole ≡ (if is_among x (texts (drop i ds)) then Some (own x).basic else old) → new ≡ (if bytes_eq d.now x then Some (own d.now).basic else old)
    → whole ≡ (if is_among x (texts (drop (i + 1) ds)) then Some (own x).basic else new)
bound_more own ds i d x whole old new h is so_far put =
    so_far ∙ ap (λ (rs : List (Bor (List ℕ))). if is_among x (texts rs) then Some (own x).basic else old) (rest_is ds i d no_name h is)
    ∙ ap (λ b. if b then Some (own x).basic else old) (among_step x d.now (texts (drop (i + 1) ds)))
    ∙ chosen_by (bytes_eq x d.now) (is_among x (texts (drop (i + 1) ds))) (Some (own x).basic) (Some (own d.now).basic) old
    (λ same. ap (λ y. Some (own y).basic) (sym ((bytes_eq-Decides x d.now).0 same)))
    ∙ ap (λ o. if is_among x (texts (drop (i + 1) ds)) then Some (own x).basic else o)
    (ap (λ b. if b then Some (own d.now).basic else old) (bytes_eq_flip x d.now) ∙ sym put)

pub bound_end : (own : Naming) (ds : List (Bor (List ℕ))) (i : ℕ) (x : Bytes) (whole old : Option Basic) → length ds ≤ i
    → whole ≡ (if is_among x (texts (drop i ds)) then Some (own x).basic else old) → old ≡ whole
bound_end own ds i x whole old h so_far =
    sym (so_far ∙ ap (λ (rs : List (Bor (List ℕ))). if is_among x (texts rs) then Some (own x).basic else old) (drop_all i ds h) ∙ ap (λ b. if b then Some (own x).basic else old) (among_none x))

pub bound_start : (own : Naming) (ds : List Bytes) (x : Bytes) (old : Option Basic) → old ≡ None → bound_basic own ds x ≡ (if is_among x ds then Some (own x).basic else old)
unfolding bound_basic
bound_start own ds x old none = ap (λ o. if is_among x ds then Some (own x).basic else o) (sym none)

-- WHAT IS SEEN in a definition
some_by : (b : Bool) (t : Term) (o : Option Term) (r : Bool) → is_some o ≡ r → is_some (if b then Some t else o) ≡ (b || r)
some_by true t o r is = refl
some_by false t o r is = is

dummy_some : (own : Naming) (k : ℕ) (ds : List Bytes) (x : Bytes) → is_some (dummy_among own k ds x) ≡ is_among x ds
unfolding dummy_among is_among
dummy_some own k [] x = refl
dummy_some own k (y ∷ ds) x =
    some_by (bytes_eq y x) (bound_term (own y) k) (dummy_among own (suc k) ds x) (is_among x ds) (dummy_some own (suc k) ds x) ∙ ap (λ b. b || is_among x ds) (bytes_eq_flip y x)

fact_by : (g o : Attribute) (t : Option Term) (f : Fact) → IsFact g f → IsFact (dummy_or g o t) (bound_or (if is_some t then Some o.basic else None) f)
unfolding dummy_or expanded_as bound_or bound_fact has_place
fact_by g o None f known = known
fact_by g o (Some t) f known = record { class = refl; basic = refl; rank = λ h. absurd (cc); sized = λ h. absurd (cc) }

function_by : (b : Option (List Basic)) (t : Option Term) (o : Option (List Basic)) → is_some t ≡ false → o ≡ b → o ≡ unless_dummy b t
unfolding unless_dummy
function_by b None o none is = is
function_by b (Some t) o none is = absurd (cc)

unbound_by : (o : Option Basic) (f : Fact) → is_some o ≡ false → bound_or o f ≡ f
unfolding bound_or
unbound_by None f none = refl
unbound_by (Some basic) f none = absurd (cc)

none_of : (o : Option Basic) → is_some o ≡ false → o ≡ None
none_of None none = refl
none_of (Some basic) none = absurd (cc)

-- in a statement that is no definition nothing is bound
pub unbound_none : (u : WrittenUnit) (names : Names) → AreSeen (known_in u) names → (x : Bytes) → dummy_in names x ≡ None
unfolding known_in is_bound_in
unbound_none u names known x = none_of (dummy_in names x) (known.bound x)

if_some : (b : Bool) (basic : Basic) → is_some (if b then Some basic else None) ≡ b
if_some true basic = refl
if_some false basic = refl

module _ (u : WrittenUnit) (old new : Names) (known : AreSeen (known_in u) old) (facts : (x : Bytes) → unit_fact new x ≡ unit_fact old x)
    (functions : (x : Bytes) → function_in new x ≡ function_in old x) where
  given_is : (x : Bytes) → IsFact (given_names u x) (unit_fact new x)
  unfolding known_in fact_in is_bound_in
  given_is x = subst (λ f. IsFact (given_names u x) f) (unbound_by (dummy_in old x) (unit_fact old x) (known.bound x) ∙ sym (facts x)) (known.facts x)

  function_is : (x : Bytes) → function_in new x ≡ signature_among x (signatures_of u)
  unfolding known_in
  function_is x = functions x ∙ known.functions x refl

  pub seen_again : ((x : Bytes) → dummy_in new x ≡ None) → AreSeen (known_in u) new
  unfolding known_in fact_in is_bound_in bound_or
  seen_again none = record {
    facts = λ x. subst (λ o. IsFact (given_names u x) (bound_or o (unit_fact new x))) (sym (none x)) (given_is x);
    functions = λ x h. function_is x;
    bound = λ x. ap is_some (none x);
  }

module _ (u : WrittenUnit) (old new : Names) (known : AreSeen (known_in u) old) (facts : (x : Bytes) → unit_fact new x ≡ unit_fact old x)
    (functions : (x : Bytes) → function_in new x ≡ function_in old x) (ds : List Bytes) (bound : (x : Bytes) → dummy_in new x ≡ bound_basic (own_attributes u) ds x) where
  abbrev dummy : Bytes → Option Term
  dummy x = dummy_among (own_attributes u) 0 ds x

  bound_is : (x : Bytes) → dummy_in new x ≡ (if is_some (dummy x) then Some (own_attributes u x).basic else None)
  unfolding bound_basic
  bound_is x = bound x ∙ ap (λ b. if b then Some (own_attributes u x).basic else None) (sym (dummy_some (own_attributes u) 0 ds x))

  fact_is : (x : Bytes) → IsFact (dummy_or (given_names u x) (own_attributes u x) (dummy x)) (fact_in new x)
  unfolding fact_in
  fact_is x =
      subst (λ o. IsFact (dummy_or (given_names u x) (own_attributes u x) (dummy x)) (bound_or o (unit_fact new x))) (sym (bound_is x))
      (fact_by (given_names u x) (own_attributes u x) (dummy x) (unit_fact new x) (given_is u old new known facts functions x))

  bound_so : (x : Bytes) → is_bound_in new x ≡ is_some (dummy x)
  unfolding is_bound_in
  bound_so x = ap is_some (bound_is x) ∙ if_some (is_some (dummy x)) (own_attributes u x).basic

  pub seen_within : AreSeen (known_with u ds) new
  unfolding known_with
  seen_within = record {
    facts = fact_is;
    functions = λ x none. function_by (signature_among x (signatures_of u)) (dummy x) (function_in new x) none (function_is u old new known facts functions x);
    bound = bound_so;
  }

-- the references of a statement are those in its expressions and that of CALL
pub whole_statement : (names : Names) (s : Stmt) (es : List Expr) → es ≡ (parts_of s.body).expressions
    → at s (all_references (map (sight_by names) es)) ++ at s (call_references names (parts_of s.body).call) ≡ at s (references_by names s.body)
unfolding references_by
whole_statement names s es is =
    ap (λ (fs : List Expr). at s (all_references (map (sight_by names) fs)) ++ at s (call_references names (parts_of s.body).call)) is
    ∙ sym (at_append s (all_references (map (sight_by names) (parts_of s.body).expressions)) (call_references names (parts_of s.body).call))

-- the references in a definition, by a table of the names with its dummy arguments
pub references_within : (u : WrittenUnit) (old new : Names) (b : Body) (ds ys : List Bytes) → AreSeen (known_in u) old → ((x : Bytes) → unit_fact new x ≡ unit_fact old x)
    → ((x : Bytes) → function_in new x ≡ function_in old x) → ((x : Bytes) → dummy_in new x ≡ bound_basic (own_attributes u) ds x) → ds ≡ ys
    → references_by new b ≡ references_known (known_with u ys) b
references_within u old new b ds ys known facts functions bound is =
    statement_seen (known_with u ds) new (seen_within u old new known facts functions ds bound) b ∙ ap (λ (zs : List Bytes). references_known (known_with u zs) b) is

-- WHAT A STATEMENT DEFINES
abbrev has_definition : Option Bytes → List Bytes → Bool
has_definition o arrays = elim o [ None ↦ false | Some x ↦ not (is_among x arrays) ]

abbrev definition_named : Option Bytes → List Bytes → Expr → List Definition
definition_named o ds e = elim o [ None ↦ [] | Some x ↦ record { name = x; dummies = ds; body = e } ∷ [] ]

unfoldable pub known_by : WrittenUnit → Option Expr → Known
known_by u None = known_in u
known_by u (Some target) = known_with u (heading_of target).arguments

known_named : (u : WrittenUnit) (o : Option Bytes) (ds : List Bytes) (e : Expr) (arrays : List Bytes) → has_definition o arrays ≡ true
    → known_for u (definition_named o ds e) ≡ known_with u ds
unfolding known_for known_with known_within
known_named u None ds e arrays h = absurd (cc)
known_named u (Some x) ds e arrays h = refl

known_if : (u : WrittenUnit) (target e : Expr) (arrays : List Bytes) (b : Bool) → b ≡ defines_function arrays (heading_of target)
    → known_for u (if b then definition_by (heading_of target) e else []) ≡ known_by u (if b then Some target else None)
unfolding known_by known_for definition_by defines_function
known_if u target e arrays true is = known_named u (heading_of target).applied (heading_of target).arguments e arrays (sym is)
known_if u target e arrays false is = refl

known_is : (u : WrittenUnit) (b : Body) → known_for u (definitions_in (arrays_of u) b) ≡ known_by u (defined_target (arrays_of u) b)
unfolding definitions_in defined_target layer_of known_for known_by
known_is u (Assign target e) = known_if u target e (arrays_of u) (defines_function (arrays_of u) (heading_of target)) refl
known_is u (IfOne' e s (more_of-Body b r)) = refl
known_is u _ = refl

references_are : (u : WrittenUnit) (b : Body) → references_known (known_for u (definitions_in (arrays_of u) b)) b ≡ references_of_statement u b
unfolding references_known references_of_statement
references_are u b = refl

-- the references of a statement by its target, if it defines a statement function
pub defined_references : (u : WrittenUnit) (b : Body) (arrays : List Bytes) (o : Option Expr) → arrays ≡ arrays_of u → o ≡ defined_target arrays b
    → references_known (known_by u o) b ≡ references_of_statement u b
defined_references u b arrays o named is =
    ap (λ (p : Option Expr). references_known (known_by u p) b) (is ∙ ap (λ (xs : List Bytes). defined_target xs b) named)
    ∙ ap (λ (known : Known). references_known known b) (sym (known_is u b)) ∙ references_are u b

pub known_none : (u : WrittenUnit) → known_by u None ≡ known_in u
unfolding known_by
known_none u = refl

pub known_some : (u : WrittenUnit) (target : Expr) → known_by u (Some target) ≡ known_with u (heading_of target).arguments
unfolding known_by
known_some u target = refl

target_Assign : (arrays : List Bytes) (target e : Expr) → defined_target arrays (body.Assign target e) ≡ (if defines_function arrays (heading_of target) then Some target else None)
unfolding defined_target layer_of
target_Assign arrays target e = refl

pub target_is : (arrays : List Bytes) (b : Body) (target e : Expr) → b ≡ body.Assign target e → defines_function arrays (heading_of target) ≡ true → Some target ≡ defined_target arrays b
target_is arrays b target e is so =
    sym (ap (defined_target arrays) is ∙ target_Assign arrays target e ∙ ap (λ (c : Bool). if c then Some target else None) so)

pub target_none : (arrays : List Bytes) (b : Body) (target e : Expr) → b ≡ body.Assign target e → defines_function arrays (heading_of target) ≡ false → None ≡ defined_target arrays b
target_none arrays b target e is so =
    sym (ap (defined_target arrays) is ∙ target_Assign arrays target e ∙ ap (λ (c : Bool). if c then Some target else None) so)

pub target_other : (arrays : List Bytes) (b : Body) → ((target e : Expr) → b ≡ body.Assign target e → ⊥) → defined_target arrays b ≡ None
unfolding defined_target layer_of
target_other arrays (Assign target e) other = absurd (other target e refl)
target_other arrays (IfOne' e s (more_of-Body b r)) other = refl
target_other arrays _ other = refl

-- THE STATEMENTS of a unit
pub located_step : (u : WrittenUnit) (s : Stmt) (ss : List Stmt) → located_from u (s ∷ ss) ≡ at s (references_of_statement u s.body) ++ located_from u ss
unfolding located_from
located_step u s ss = refl

pub located_end : (u : WrittenUnit) → located_from u [] ≡ []
unfolding located_from
located_end u = refl
