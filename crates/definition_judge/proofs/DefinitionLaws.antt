-- Definitions are judged one after the other, and their functions are noted.
use Rattle.std.specs.Prelude.{◌≡◌, ℕ, Bool, true, false, not, List, [], ◌∷◌, ◌++◌, map, bytes_eq, Option, Some, None, is_some, if◌then◌else◌}
use Rattle.std.proofs.Common.{Result, Ok, Err, IfOk, ◌+◌, ◌<◌, ◌≤◌, drop, get_or, length, refl, sym, ap, subst, ◌∙◌}
use Rattle.std.proofs.lemmas.List.{append-nil, append_assoc, map-append, drop_all}
use Rattle.f_tree.specs.declared.names.Basic.{Basic}
use Rattle.f_tree.specs.declared.expressions.Expr.{Expr}
use Rattle.f_tree.specs.declared.refusals.Kind.{Kind}
use Rattle.f_tree.specs.declared.refusals.Kind.TheVariants.{NameHasTypeReal, BadStatementFunction}
use Rattle.f_tree.specs.declared.refusals.Refusal.{Refusal}
use Rattle.f_tree.specs.declared.statements.Body.{Body, IfOne', more_of-Body}
use Rattle.f_tree.specs.declared.statements.Body as whole
use Rattle.f_tree.specs.declared.statements.Body.TheVariants as body
use Rattle.f_tree.specs.declared.statements.Stmt.{Stmt}
use Rattle.f_tree.specs.declared.units.Unit.{Unit as WrittenUnit}
use Rattle.f_tree.specs.Folds.{layer_of}
use Rattle.f_tree.specs.Values.{Bytes}
use Rattle.f_tree.specs.Lines.{Naming}
use Rattle.f_tree.specs.Uses.{Heading, is_among, heading_of, defines_function}
use Rattle.f_tree.specs.Attributes.{Definition, Expansion, arrays_of, definition_by, definitions_in, from_all, with_expansions, expansions_from}
use Rattle.declaration_rows.specs.Judgement.{Known, unless, judge}
use Rattle.declaration_rows.specs.StatementRows.{is_typed, value_rows}
use Rattle.declaration_rows.specs.NameRows.{given_names, own_attributes, stood, Signature, signature_of, signature_among, signatures_of, definitions_of, known_in, known_within, dummies_rows, definition_rows, definitions_rows, defined_rows}
use Rattle.declaration_rows.specs.Verdicts.{first_of}
use Rattle.kind_order.proofs.LeastLemmas.{two-least}
use Rattle.refusal_order.specs.Earliest.{earliest, least as lesser, least_of, refusal_of}
use Rattle.refusal_order.proofs.FirstOfBoth.{first_of_both, first_stood, earliest_along, earliest_none}
use Rattle.expression_judge.specs.declared.names.Names.{Names}
use Rattle.expression_judge.specs.FoundSteps.{with_wanted as wanted, judged_by}
use Rattle.expression_judge.specs.SeenNames.{unit_fact, fact_in, function_in, dummy_in, is_bound_in, bound_or, IsFact, AreSeen}
use Rattle.expression_judge.proofs.FoundLaws.{with-wanted, expression-found}
use Rattle.definition_judge.specs.KnownFunctions.{AreGiven, AreFunctions, KeepsNames, bound_basic, basics_or, JudgesDefinition, JudgesStatement, JudgesStatements, definitions_by}
use Rattle.definition_judge.proofs.SeenLaws.{seen_within}
use Rattle.definition_judge.proofs.TableLemmas.{rest_is}

-- ONE DEFINITION
dummies_alike : (own : Naming) (es : List Expansion) (ds : List Bytes) → dummies_rows (with_expansions own es) ds ≡ dummies_rows own ds
unfolding dummies_rows with_expansions
dummies_alike own es [] = refl
dummies_alike own es (x ∷ ds) =
    ap (λ ks. unless (is_typed (own x).basic) NameHasTypeReal ++ (unless (not (is_among x ds)) BadStatementFunction ++ ks)) (dummies_alike own es ds)

value_of : (basic : Basic) (e : Expr) (known : Known) (names : Names) → AreSeen known names → least_of (value_rows basic (judge known e)) ≡ wanted basic (judged_by names e)
unfolding value_rows
value_of basic e known names seen = with-wanted basic (judge known e) ∙ ap (wanted basic) (expression-found known names seen e)

own_basic : (own : Naming) (es : List Expansion) (x : Bytes) → (with_expansions own es x).basic ≡ (own x).basic
unfolding with_expansions
own_basic own es x = refl

rows_are : (given own : Naming) (signatures : List Signature) (d : Definition) → definition_rows given own signatures d ≡ value_rows (own d.name).basic (judge (known_within given own signatures d) d.body) ++ dummies_rows own d.dummies
unfolding definition_rows
rows_are given own signatures d = refl

pub definition_judged : (u : WrittenUnit) (old names : Names) (d : Definition) (expression arguments found : Option Kind) → AreGiven u old → KeepsNames old names
    → ((x : Bytes) → dummy_in names x ≡ bound_basic (own_attributes u) d.dummies x) → expression ≡ wanted (own_attributes u d.name).basic (judged_by names d.body)
    → arguments ≡ least_of (dummies_rows (own_attributes u) d.dummies) → found ≡ lesser expression arguments → JudgesDefinition u old d found
unfolding with_expansions own_attributes
definition_judged u old names d expression arguments found given keeps bound one two is = record {
  fault = λ es signatures functions.
      let own = own_attributes u in
      let known = known_within (with_expansions (given_names u) es) (with_expansions own es) signatures d in
      let given' : AreGiven u names = record { facts = λ x. subst (λ f. IsFact (given_names u x) f) (sym (keeps.facts x)) (given.facts x) } in
      let functions' : AreFunctions names signatures = record { functions = λ x. keeps.functions x ∙ functions.functions x } in
      is ∙ ap (λ o. lesser o arguments) one ∙ ap (lesser (wanted (own d.name).basic (judged_by names d.body))) two
      ∙ sym (ap least_of (rows_are (with_expansions (given_names u) es) (with_expansions own es) signatures d)
      ∙ two-least (value_rows (with_expansions own es d.name).basic (judge known d.body)) (dummies_rows (with_expansions own es) d.dummies)
      (wanted (own d.name).basic (judged_by names d.body)) (least_of (dummies_rows own d.dummies))
      (value_of (own d.name).basic d.body known names (seen_within u names es signatures d given' functions' bound)) (ap least_of (dummies_alike own es d.dummies)));
}

-- ONE STATEMENT
one_rows : (given own : Naming) (es : List Expansion) (signatures : List Signature) (d : Definition)
    → definitions_rows given own es signatures (d ∷ []) ≡ definition_rows (with_expansions given es) (with_expansions own es) signatures d
unfolding definitions_rows
one_rows given own es signatures d = append-nil (definition_rows (with_expansions given es) (with_expansions own es) signatures d)

no_rows : (given own : Naming) (es : List Expansion) (signatures : List Signature) → definitions_rows given own es signatures [] ≡ []
unfolding definitions_rows
no_rows given own es signatures = refl

none_least : None ≡ least_of []
unfolding least_of
none_least = refl

signature_by : (b : Bool) (s : Signature) (here more : Option (List Basic)) (c : Bool) (basics : List Basic) → more ≡ basics_or here c basics
    → (if b then Some s.basics else more) ≡ basics_or (if b then Some s.basics else here) c basics
unfolding basics_or
signature_by true s here more c basics is = refl
signature_by false s here more c basics is = is

last_by : (b : Bool) (basics : List Basic) → (if b then Some basics else None) ≡ basics_or None b basics
unfolding basics_or
last_by true basics = refl
last_by false basics = refl

signature_more : (x : Bytes) (ss : List Signature) (s : Signature) → signature_among x (ss ++ s ∷ []) ≡ basics_or (signature_among x ss) (bytes_eq s.name x) s.basics
unfolding signature_among
signature_more x [] s = last_by (bytes_eq s.name x) s.basics
signature_more x (t ∷ ss) s =
    signature_by (bytes_eq t.name x) t (signature_among x ss) (signature_among x (ss ++ s ∷ [])) (bytes_eq s.name x) s.basics (signature_more x ss s)

named : (own : Naming) (d : Definition) → signature_of own d ≡ record { name = d.name; basics = map (λ y. (own y).basic) d.dummies }
unfolding signature_of
named own d = refl

pub statement_judged : (u : WrittenUnit) (old mid new : Names) (d : Definition) (found : Option Kind) (basics : List Basic) → JudgesDefinition u old d found → KeepsNames old mid
    → basics ≡ map (λ y. (own_attributes u y).basic) d.dummies → ((x : Bytes) → unit_fact new x ≡ unit_fact mid x)
    → ((x : Bytes) → function_in new x ≡ basics_or (function_in mid x) (bytes_eq d.name x) basics) → JudgesStatement u old new (d ∷ []) found
statement_judged u old mid new d found basics judged keeps typed facts notes = record {
  fault = λ es signatures functions. judged.fault es signatures functions ∙ ap least_of (sym (one_rows (given_names u) (own_attributes u) es signatures d));
  functions = λ signatures functions. record {
    functions = λ x.
        notes x ∙ ap (λ o. basics_or o (bytes_eq d.name x) basics) (keeps.functions x ∙ functions.functions x) ∙ ap (basics_or (signature_among x signatures) (bytes_eq d.name x)) typed
        ∙ ap (λ (s : Signature). basics_or (signature_among x signatures) (bytes_eq s.name x) s.basics) (sym (named (own_attributes u) d))
        ∙ sym (signature_more x signatures (signature_of (own_attributes u) d));
  };
  facts = λ x. facts x ∙ keeps.facts x;
}

pub nothing_judged : (u : WrittenUnit) (names : Names) (ds : List Definition) → ds ≡ [] → JudgesStatement u names names ds None
nothing_judged u names ds none = record {
  fault = λ es signatures functions. none_least ∙ ap least_of (sym (ap (definitions_rows (given_names u) (own_attributes u) es signatures) none ∙ no_rows (given_names u) (own_attributes u) es signatures));
  functions = λ signatures functions.
      subst (AreFunctions names) (sym (ap (λ es. signatures ++ map (signature_of (own_attributes u)) es) none ∙ append-nil signatures)) functions;
  facts = λ x. refl;
}

pub judged_as : (u : WrittenUnit) (old new : Names) (ds es : List Definition) (found : Option Kind) → ds ≡ es → JudgesStatement u old new ds found → JudgesStatement u old new es found
judged_as u old new ds es found is judged = subst (λ fs. JudgesStatement u old new fs found) is judged

pub judged_ok : {E : Type 0} (r : Result (Option Kind) E) (u : WrittenUnit) (old new : Names) (ds es : List Definition) → ds ≡ es → IfOk r (λ fault. JudgesStatement u old new ds fault)
    → IfOk r (λ fault. JudgesStatement u old new es fault)
judged_ok (Ok found) u old new ds es is judged = judged_as u old new ds es found is judged
judged_ok (Err e) u old new ds es is judged = judged

-- what a statement defines
pub defines-Assign : (u : WrittenUnit) (target value : Expr) → definitions_by u target value ≡ definitions_in (arrays_of u) (body.Assign target value)
unfolding definitions_by definitions_in layer_of
defines-Assign u target value = refl

pub defines_other : (arrays : List Bytes) (b : Body) → ((target value : Expr) → b ≡ body.Assign target value → ⊥) → definitions_in arrays b ≡ []
unfolding definitions_in layer_of
defines_other arrays (whole.Assign target value) h = absurd (h target value refl)
defines_other arrays (IfOne' e s (more_of-Body b r)) h = refl
defines_other arrays _ h = refl

defined_by : (b : Bool) (ds : List Definition) → b ≡ false → (if b then ds else []) ≡ []
defined_by false ds is = refl
defined_by true ds is = absurd (cc)

pub defines_none : (u : WrittenUnit) (target value : Expr) (arrays : List Bytes) (b : Bool) → arrays ≡ arrays_of u → b ≡ defines_function arrays (heading_of target) → b ≡ false → definitions_by u target value ≡ []
unfolding definitions_by
defines_none u target value arrays b is test so =
    defined_by (defines_function (arrays_of u) (heading_of target)) (definition_by (heading_of target) value) (sym (test ∙ ap (λ xs. defines_function xs (heading_of target)) is) ∙ so)

definition_named : (h : Heading) (value : Expr) (x : Bytes) (ys : List Bytes) → h.applied ≡ Some x → ys ≡ h.arguments → record { name = x; dummies = ys; body = value } ∷ [] ≡ definition_by h value
unfolding definition_by
definition_named h value x ys is arguments =
    ap (λ zs. record { name = x; dummies = zs; body = value } ∷ []) arguments
    ∙ ap (λ o. elim o [ None ↦ [] | Some y ↦ record { name = y; dummies = h.arguments; body = value } ∷ [] ]) (sym is)

if_true : (b : Bool) (ds : List Definition) → b ≡ true → ds ≡ (if b then ds else [])
if_true true ds is = refl
if_true false ds is = absurd (cc)

pub defines_one : (u : WrittenUnit) (target value : Expr) (arrays : List Bytes) (b : Bool) (x : Bytes) (ys : List Bytes) → arrays ≡ arrays_of u → b ≡ defines_function arrays (heading_of target)
    → b ≡ true → (heading_of target).applied ≡ Some x → ys ≡ (heading_of target).arguments → record { name = x; dummies = ys; body = value } ∷ [] ≡ definitions_by u target value
unfolding definitions_by
defines_one u target value arrays b x ys is test so named arguments =
    definition_named (heading_of target) value x ys named arguments
    ∙ if_true (defines_function (arrays_of u) (heading_of target)) (definition_by (heading_of target) value) (sym (test ∙ ap (λ xs. defines_function xs (heading_of target)) is) ∙ so)

definition_missing : (h : Heading) (value : Expr) → h.applied ≡ None → definition_by h value ≡ []
unfolding definition_by
definition_missing h value is = ap (λ o. elim o [ None ↦ [] | Some y ↦ record { name = y; dummies = h.arguments; body = value } ∷ [] ]) is

either_none : (b : Bool) (ds : List Definition) → ds ≡ [] → (if b then ds else []) ≡ []
either_none true ds is = is
either_none false ds is = refl

pub defines_unnamed : (u : WrittenUnit) (target value : Expr) → (heading_of target).applied ≡ None → definitions_by u target value ≡ []
unfolding definitions_by
defines_unnamed u target value is =
    either_none (defines_function (arrays_of u) (heading_of target)) (definition_by (heading_of target) value) (definition_missing (heading_of target) value is)

-- ALL STATEMENTS: what has been come to
pub record Comes (u : WrittenUnit) (ss : List Stmt) (i : ℕ) (names : Names) (found : Option Refusal) : Type 0 where
  pub es : List Expansion
  pub signatures : List Signature
  pub given : AreGiven u names
  pub known : AreFunctions names signatures
  pub all : map (signature_of (own_attributes u)) (from_all (definitions_in (arrays_of u)) ss) ≡ signatures ++ map (signature_of (own_attributes u)) (from_all (definitions_in (arrays_of u)) (drop i ss))
  pub rows : first_of (defined_rows (given_names u) (own_attributes u) (arrays_of u) [] [] ss)
      ≡ earliest found (first_of (defined_rows (given_names u) (own_attributes u) (arrays_of u) es signatures (drop i ss)))

none_earliest : (o : Option Refusal) → o ≡ earliest None o
unfolding earliest
none_earliest o = refl

pub comes_first : (u : WrittenUnit) (ss : List Stmt) (names : Names) → AreGiven u names → AreFunctions names [] → Comes u ss 0 names None
comes_first u ss names given known = record {
  es = [];
  signatures = [];
  given = given;
  known = known;
  all = refl;
  rows = none_earliest (first_of (defined_rows (given_names u) (own_attributes u) (arrays_of u) [] [] ss));
}

from_step : (f : Body → List Definition) (s : Stmt) (ss : List Stmt) → from_all f (s ∷ ss) ≡ f s.body ++ from_all f ss
unfolding from_all
from_step f s ss = refl

rows_step : (given own : Naming) (arrays : List Bytes) (es : List Expansion) (signatures : List Signature) (s : Stmt) (ss : List Stmt)
    → defined_rows given own arrays es signatures (s ∷ ss) ≡ stood s (definitions_rows given own es signatures (definitions_in arrays s.body))
    ++ defined_rows given own arrays (expansions_from own es (definitions_in arrays s.body)) (signatures ++ map (signature_of own) (definitions_in arrays s.body)) ss
unfolding defined_rows
rows_step given own arrays es signatures s ss = refl

pub comes_on : (u : WrittenUnit) (ss : List Stmt) (i : ℕ) (s d : Stmt) (old new : Names) (found next : Option Refusal) (fault : Option Kind) → i < length ss → s ≡ get_or ss i d
    → Comes u ss i old found → JudgesStatement u old new (definitions_in (arrays_of u) s.body) fault → next ≡ earliest found (refusal_of s.file s.card fault) → Comes u ss (i + 1) new next
comes_on u ss i s d old new found next fault h is so_far judged put =
    let given = given_names u in
    let own = own_attributes u in
    let arrays = arrays_of u in
    let ds = definitions_in arrays s.body in
    let rest = drop (i + 1) ss in
    record {
      es = expansions_from own so_far.es ds;
      signatures = so_far.signatures ++ map (signature_of own) ds;
      given = record { facts = λ x. subst (λ f. IsFact (given x) f) (sym (judged.facts x)) (so_far.given.facts x) };
      known = judged.functions so_far.signatures so_far.known;
      all =
          so_far.all ∙ ap (λ ts. so_far.signatures ++ map (signature_of own) (from_all (definitions_in arrays) ts)) (rest_is ss i s d h is)
          ∙ ap (λ fs. so_far.signatures ++ map (signature_of own) fs) (from_step (definitions_in arrays) s rest)
          ∙ ap (λ fs. so_far.signatures ++ fs) (map-append (signature_of own) ds (from_all (definitions_in arrays) rest))
          ∙ sym (append_assoc so_far.signatures (map (signature_of own) ds) (map (signature_of own) (from_all (definitions_in arrays) rest)));
      rows =
          so_far.rows ∙ ap (λ ts. earliest found (first_of (defined_rows given own arrays so_far.es so_far.signatures ts))) (rest_is ss i s d h is)
          ∙ ap (λ rs. earliest found (first_of rs)) (rows_step given own arrays so_far.es so_far.signatures s rest)
          ∙ ap (earliest found)
          (first_of_both (stood s (definitions_rows given own so_far.es so_far.signatures ds)) (defined_rows given own arrays (expansions_from own so_far.es ds) (so_far.signatures ++ map (signature_of own) ds) rest)
          ∙ ap (λ o. earliest o (first_of (defined_rows given own arrays (expansions_from own so_far.es ds) (so_far.signatures ++ map (signature_of own) ds) rest)))
          (first_stood s (definitions_rows given own so_far.es so_far.signatures ds) ∙ ap (refusal_of s.file s.card) (sym (judged.fault so_far.es so_far.signatures so_far.known))))
          ∙ sym (earliest_along found (refusal_of s.file s.card fault) (first_of (defined_rows given own arrays (expansions_from own so_far.es ds) (so_far.signatures ++ map (signature_of own) ds) rest)))
          ∙ ap (λ o. earliest o (first_of (defined_rows given own arrays (expansions_from own so_far.es ds) (so_far.signatures ++ map (signature_of own) ds) rest))) (sym put);
    }

nothing_more : (given own : Naming) (arrays : List Bytes) (es : List Expansion) (signatures : List Signature) → first_of (defined_rows given own arrays es signatures []) ≡ None
unfolding defined_rows first_of
nothing_more given own arrays es signatures = refl

no_more : (own : Naming) (arrays : List Bytes) → map (signature_of own) (from_all (definitions_in arrays) []) ≡ []
unfolding from_all
no_more own arrays = refl

pub comes_last : (u : WrittenUnit) (ss : List Stmt) (i : ℕ) (names : Names) (found : Option Refusal) → length ss ≤ i → Comes u ss i names found → JudgesStatements u ss names found
comes_last u ss i names found h so_far = record {
  fault =
      sym (so_far.rows ∙ ap (λ ts. earliest found (first_of (defined_rows (given_names u) (own_attributes u) (arrays_of u) so_far.es so_far.signatures ts))) (drop_all i ss h)
      ∙ ap (earliest found) (nothing_more (given_names u) (own_attributes u) (arrays_of u) so_far.es so_far.signatures) ∙ earliest_none found);
  functions =
      subst (AreFunctions names)
      (sym (so_far.all ∙ ap (λ ts. so_far.signatures ++ map (signature_of (own_attributes u)) (from_all (definitions_in (arrays_of u)) ts)) (drop_all i ss h)
      ∙ ap (λ fs. so_far.signatures ++ fs) (no_more (own_attributes u) (arrays_of u)) ∙ append-nil so_far.signatures)) so_far.known;
  facts = so_far.given;
}

-- ALL OF A UNIT
no_bound : (names : Names) (x : Bytes) → dummy_in names x ≡ None → fact_in names x ≡ unit_fact names x
unfolding fact_in bound_or
no_bound names x none = ap (λ o. bound_or o (unit_fact names x)) none

not_bound : (names : Names) (x : Bytes) → dummy_in names x ≡ None → is_bound_in names x ≡ false
unfolding is_bound_in
not_bound names x none = ap is_some none

pub judged_in : (u : WrittenUnit) (ss ts : List Stmt) (names : Names) (found : Option Refusal) → ss ≡ ts → JudgesStatements u ss names found → JudgesStatements u ts names found
judged_in u ss ts names found is judged = subst (λ rs. JudgesStatements u rs names found) is judged

pub seen_in : (u : WrittenUnit) (old names : Names) (found : Option Refusal) → JudgesStatements u u.statements old found → KeepsNames old names → ((x : Bytes) → dummy_in names x ≡ None)
    → AreSeen (known_in u) names
unfolding known_in signatures_of definitions_of
seen_in u old names found judged keeps none = record {
  facts = λ x. subst (λ f. IsFact (given_names u x) f) (sym (no_bound names x (none x) ∙ keeps.facts x)) (judged.facts.facts x);
  functions = λ x free. keeps.functions x ∙ judged.functions.functions x;
  bound = λ x. not_bound names x (none x);
}
