-- What is seen of the names in a definition is what is known of them there.
use Rattle.std.specs.Prelude.{◌≡◌, ℕ, suc, Bool, true, false, ◌||◌, List, [], ◌∷◌, bytes_eq, Option, Some, None, is_some, if◌then◌else◌}
use Rattle.std.proofs.Common.{refl, sym, ap, subst, ◌∙◌}
use Rattle.f_tree.specs.declared.names.Basic.{Basic}
use Rattle.f_tree.specs.declared.units.Unit.{Unit as WrittenUnit}
use Rattle.f_tree.specs.Values.{Bytes}
use Rattle.f_tree.specs.Terms.{Term}
use Rattle.f_tree.specs.Facts.{Attribute}
use Rattle.f_tree.specs.Lines.{Naming}
use Rattle.f_tree.specs.Uses.{is_among}
use Rattle.f_tree.specs.Attributes.{Definition, Expansion, dummy_among, expanded_as, with_expansions, bound_term, expansion_among}
use Rattle.declaration_rows.specs.NameRows.{given_names, own_attributes, Signature, signature_among, dummy_or, unless_dummy, known_within}
use Rattle.expression_judge.specs.declared.names.Fact.{Fact}
use Rattle.expression_judge.specs.declared.names.Names.{Names}
use Rattle.expression_judge.specs.SeenNames.{unit_fact, fact_in, function_in, dummy_in, is_bound_in, bound_or, bound_fact, has_place, IsFact, AreSeen}
use Rattle.name_table.proofs.Texts.{bytes_eq_flip}
use Rattle.definition_judge.specs.KnownFunctions.{AreGiven, AreFunctions, bound_basic}

some_by : (b : Bool) (t : Term) (o : Option Term) (r : Bool) → is_some o ≡ r → is_some (if b then Some t else o) ≡ (b || r)
some_by true t o r is = refl
some_by false t o r is = is

-- a dummy argument is among those of the definition
dummy_some : (own : Naming) (k : ℕ) (ds : List Bytes) (x : Bytes) → is_some (dummy_among own k ds x) ≡ is_among x ds
unfolding dummy_among is_among
dummy_some own k [] x = refl
dummy_some own k (y ∷ ds) x =
    some_by (bytes_eq y x) (bound_term (own y) k) (dummy_among own (suc k) ds x) (is_among x ds) (dummy_some own (suc k) ds x) ∙ ap (λ b. b || is_among x ds) (bytes_eq_flip y x)

fact_by : (g o : Attribute) (p q : Option Term) (t : Option Term) (f : Fact) → IsFact g f
    → IsFact (dummy_or (record g { expansion = p }) (record o { expansion = q }) t) (bound_or (if is_some t then Some o.basic else None) f)
unfolding dummy_or expanded_as bound_or bound_fact has_place
fact_by g o p q None f known = record { class = known.class; basic = known.basic; rank = known.rank; sized = known.sized }
fact_by g o p q (Some t) f known = record { class = refl; basic = refl; rank = λ h. absurd (cc); sized = λ h. absurd (cc) }

function_by : (b : Option (List Basic)) (t : Option Term) (o : Option (List Basic)) → is_some t ≡ false → o ≡ b → o ≡ unless_dummy b t
unfolding unless_dummy
function_by b None o none is = is
function_by b (Some t) o none is = absurd (cc)

module _ (u : WrittenUnit) (names : Names) (es : List Expansion) (signatures : List Signature) (d : Definition) (given : AreGiven u names) (functions : AreFunctions names signatures)
    (bound : (x : Bytes) → dummy_in names x ≡ bound_basic (own_attributes u) d.dummies x) where
  abbrev dummy : Bytes → Option Term
  dummy x = dummy_among (with_expansions (own_attributes u) es) 0 d.dummies x

  bound_is : (x : Bytes) → dummy_in names x ≡ (if is_some (dummy x) then Some (own_attributes u x).basic else None)
  unfolding bound_basic
  bound_is x = bound x ∙ ap (λ b. if b then Some (own_attributes u x).basic else None) (sym (dummy_some (with_expansions (own_attributes u) es) 0 d.dummies x))

  if_some : (b : Bool) (basic : Basic) → is_some (if b then Some basic else None) ≡ b
  if_some true basic = refl
  if_some false basic = refl

  fact_is : (x : Bytes) → IsFact (dummy_or (with_expansions (given_names u) es x) (with_expansions (own_attributes u) es x) (dummy x)) (fact_in names x)
  unfolding with_expansions fact_in
  fact_is x =
      subst (λ o. IsFact (dummy_or (with_expansions (given_names u) es x) (with_expansions (own_attributes u) es x) (dummy x)) (bound_or o (unit_fact names x))) (sym (bound_is x))
      (fact_by (given_names u x) (own_attributes u x) (expansion_among x es) (expansion_among x es) (dummy x) (unit_fact names x) (given.facts x))

  function_is : (x : Bytes) → is_some (dummy x) ≡ false → function_in names x ≡ unless_dummy (signature_among x signatures) (dummy x)
  function_is x none = function_by (signature_among x signatures) (dummy x) (function_in names x) none (functions.functions x)

  bound_so : (x : Bytes) → is_bound_in names x ≡ is_some (dummy x)
  unfolding is_bound_in
  bound_so x = ap is_some (bound_is x) ∙ if_some (is_some (dummy x)) (own_attributes u x).basic

  pub seen_within : AreSeen (known_within (with_expansions (given_names u) es) (with_expansions (own_attributes u) es) signatures d) names
  unfolding known_within
  seen_within = record { facts = fact_is; functions = function_is; bound = bound_so }
