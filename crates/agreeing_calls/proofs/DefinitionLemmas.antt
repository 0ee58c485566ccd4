-- The calls in the statement functions of a unit agree with the procedures of the set, wherever none is found to disagree.
use Rattle.std.specs.Prelude.{◌≡◌, ℕ, ◌+◌, Bool, true, false, is_some, List, [], ◌∷◌, ◌++◌, map, bytes_eq, Option, Some, None, if◌then◌else◌}
use Rattle.std.proofs.Common.{refl, sym, ap, ◌∙◌, subst}
use Rattle.std.proofs.lemmas.List.{append_assoc, append-nil, map-append}
use Rattle.call_shapes.specs.f_tree.declared.names.Basic.{Basic}
use Rattle.call_shapes.specs.f_tree.declared.names.Basic.TheVariants.{Integer, Logical, Character, Untyped}
use Rattle.call_shapes.specs.f_tree.declared.names.Class.TheVariants as class
use Rattle.call_shapes.specs.f_tree.declared.refusals.Kind.{Kind}
use Rattle.call_shapes.specs.f_tree.declared.refusals.Refusal.{Refusal}
use Rattle.call_shapes.specs.f_tree.declared.expressions.Expr.{Expr}
use Rattle.call_shapes.specs.f_tree.declared.statements.Body as whole
use Rattle.call_shapes.specs.f_tree.declared.statements.Body.{Body, more_of-Body, IfOne'}
use Rattle.call_shapes.specs.f_tree.declared.statements.Stmt.{Stmt}
use Rattle.call_shapes.specs.f_tree.declared.units.Unit.{Unit as WrittenUnit}
use Rattle.call_shapes.specs.f_tree.Folds.{fold_body, layer_of}
use Rattle.call_shapes.specs.f_tree.Values.{Bytes}
use Rattle.call_shapes.specs.f_tree.Terms.{Term}
use Rattle.call_shapes.specs.f_tree.Facts.{Attribute, ProgramUnit, Facts}
use Rattle.call_shapes.specs.f_tree.Reading.{read}
use Rattle.call_shapes.specs.f_tree.Uses.{Heading, heading_of, defines_function}
use Rattle.call_shapes.specs.f_tree.Attributes.{from_all, Expansion, expansion_among, bound_term, within_function, with_expansions, result_term, Definition, definition_by, definitions_in, expansion_of, expansions_from, arrays_of}
use Rattle.call_shapes.specs.f_tree.Lines.{Naming}
use Rattle.call_shapes.specs.f_tree.WellTyped.{Sort, ValueOf}
use Rattle.call_shapes.specs.declaration_rows.Judgement.{Known, judge}
use Rattle.call_shapes.specs.declaration_rows.StatementRows.{value_rows}
use Rattle.call_shapes.specs.declaration_rows.NameRows.{given_names, own_attributes, Signature, signature_of, signature_among, definitions_of, signatures_of, known_in, unless_dummy, known_within, dummies_rows, definition_rows, definitions_rows, stood, defined_rows}
use Rattle.call_shapes.specs.declaration_rows.ReferenceRows.{known_for}
use Rattle.call_shapes.specs.declared.shapes.NamedShape.{NamedShape}
use Rattle.call_shapes.specs.CallsMade.{function_call, calls_within, calls_among, layer_calls, calls_of_body, calls_known, calls_of_statement}
use Rattle.agreeing_runs.specs.AgreeingForms.{TermAgrees, TermsAgree}
use Rattle.declaration_laws.proofs.ExpressionFits.{none_of_both}
use Rattle.declaration_laws.proofs.UnitFits.{none_stood}
use Rattle.declaration_laws.proofs.NameFits.{all_expansions, IsNamed, a_name, no_name, each_named, IsFaultless, never}
use Rattle.declaration_laws.proofs.DefinitionFits.{unit_of, IsDummy, dummy_found, AreExpanded, none_expanded, expanded_more, IsWithin, is_dummy_of, is_outside, each_within, here, sorts_here, dummy_is, outside_is, agrees_within, reads_within, definition_typed, expansions_after}
use Rattle.agreeing_calls.proofs.ReadLemmas.{ReadAgrees, wanted_safe, value_of_read}
use Rattle.agreeing_calls.proofs.TreeLemmas.{AllClear, clear_both, EachClearAgrees, NamesSuit, expression_safe}
use Rattle.agreeing_calls.proofs.SeenLemmas.{alike_seen, within_alike}

-- EXPANSIONS WITH THEIR SIGNATURES
unfoldable pub AreSuited : List ProgramUnit → Facts → ℕ → List Expansion → List Signature → Type 0
AreSuited S c n [] [] = Unit {0}
AreSuited S c n (e ∷ es) (s ∷ ss) = (e.name ≡ s.name) × (TermAgrees S c n (map ValueOf s.basics) e.term × AreSuited S c n es ss)
AreSuited S c n _ _ = ⊥

module _ (S : List ProgramUnit) (c : Facts) (n : ℕ) where
  suited_more : (es : List Expansion) (ss : List Signature) (e : Expansion) (s : Signature) → AreSuited S c n es ss → e.name ≡ s.name →
      TermAgrees S c n (map ValueOf s.basics) e.term → AreSuited S c n (es ++ (e ∷ [])) (ss ++ (s ∷ []))
  unfolding AreSuited
  suited_more [] [] e s suited name of = (name, (of, tt))
  suited_more [] (r ∷ ss) e s suited name of = absurd suited
  suited_more (d ∷ es) [] e s suited name of = absurd suited
  suited_more (d ∷ es) (r ∷ ss) e s suited name of = (suited.0, (suited.1.0, suited_more es ss e s suited.1.1 name of))

  found_if : (e : Expansion) (es : List Expansion) (s : Signature) (ss : List Signature) (x : Bytes) (basics : List Basic) (t : Term) (b : Bool) →
      TermAgrees S c n (map ValueOf s.basics) e.term → (if b then Some s.basics else signature_among x ss) ≡ Some basics →
      (if b then Some e.term else expansion_among x es) ≡ Some t →
      (signature_among x ss ≡ Some basics → expansion_among x es ≡ Some t → TermAgrees S c n (map ValueOf basics) t) → TermAgrees S c n (map ValueOf basics) t
  found_if e es s ss x basics t true of signed expands later =
      let same : s.basics ≡ basics = cc in
      let also : e.term ≡ t = cc in
      subst (λ z. TermAgrees S c n (map ValueOf basics) z) also (subst (λ bs. TermAgrees S c n (map ValueOf bs) e.term) same of)
  found_if e es s ss x basics t false of signed expands later = later signed expands

  pub suited_found : (es : List Expansion) (ss : List Signature) (x : Bytes) (basics : List Basic) (t : Term) → AreSuited S c n es ss →
      signature_among x ss ≡ Some basics → expansion_among x es ≡ Some t → TermAgrees S c n (map ValueOf basics) t
  unfolding AreSuited signature_among expansion_among
  suited_found [] [] x basics t suited signed expands = absurd (cc)
  suited_found [] (s ∷ ss) x basics t suited signed expands = absurd suited
  suited_found (e ∷ es) [] x basics t suited signed expands = absurd suited
  suited_found (e ∷ es) (s ∷ ss) x basics t suited signed expands =
      found_if e es s ss x basics t (bytes_eq s.name x) suited.1.0 signed
      (subst (λ y. (if bytes_eq y x then Some e.term else expansion_among x es) ≡ Some t) suited.0 expands)
      (λ signed' expands'. suited_found es ss x basics t suited.1.1 signed' expands')

  bound_agrees : (env : List Sort) (a : Attribute) (k : ℕ) (basic : Basic) (width : Option ℕ) → TermAgrees S c n env (bound_term (record a { basic = basic; width = width }) k)
  unfolding bound_term TermAgrees TermsAgree
  bound_agrees env a k Integer width = tt
  bound_agrees env a k Logical width = tt
  bound_agrees env a k Untyped width = tt
  bound_agrees env a k Character None = tt
  bound_agrees env a k Character (Some size) = (tt, tt)

  result_by : (env : List Sort) (a : Attribute) (t : Term) (basic : Basic) (width : Option ℕ) → TermAgrees S c n env t →
      TermAgrees S c n env (result_term (record a { basic = basic; width = width }) t)
  unfolding result_term TermAgrees TermsAgree
  result_by env a t Integer width of = of
  result_by env a t Logical width of = of
  result_by env a t Untyped width of = of
  result_by env a t Character None of = of
  result_by env a t Character (Some size) of = (of, tt)

-- THE DEFINITIONS OF A STATEMENT, of which there is one at most
unfoldable pub DefinitionsClear : List NamedShape → List NamedShape → WrittenUnit → List Definition → Type 0
DefinitionsClear procedures lines u [] = Unit {0}
DefinitionsClear procedures lines u (d ∷ ds) =
    AllClear procedures lines (calls_within (function_call (known_for u (d ∷ []))) d.body) × DefinitionsClear procedures lines u ds

applied_clear : (procedures lines : List NamedShape) (u : WrittenUnit) (target e : Expr) (arguments : List Bytes) (o : Option Bytes) (ds : List Definition) →
    (elim o [ None ↦ [] | Some x ↦ record { name = x; dummies = arguments; body = e } ∷ [] ]) ≡ ds →
    AllClear procedures lines (calls_known (known_for u ds) (whole.Assign target e)) → DefinitionsClear procedures lines u ds
unfolding DefinitionsClear calls_known calls_of_body fold_body layer_calls calls_among
applied_clear procedures lines u target e arguments None ds is clear = subst (DefinitionsClear procedures lines u) is tt
applied_clear procedures lines u target e arguments (Some x) ds is clear =
    let d : Definition = record { name = x; dummies = arguments; body = e } in
    let here : AllClear procedures lines (calls_known (known_for u (d ∷ [])) (whole.Assign target e)) =
    subst (λ z. AllClear procedures lines (calls_known (known_for u z) (whole.Assign target e))) (sym is) clear in
    let call = function_call (known_for u (d ∷ [])) in
    let behind = (clear_both procedures lines (calls_within call target) (calls_within call e ++ []) here).1 in
    subst (DefinitionsClear procedures lines u) is ((clear_both procedures lines (calls_within call e) [] behind).0, tt)

defines_clear : (procedures lines : List NamedShape) (u : WrittenUnit) (target e : Expr) (h : Heading) (b : Bool) (ds : List Definition) →
    (if b then definition_by h e else []) ≡ ds →
    AllClear procedures lines (calls_known (known_for u ds) (whole.Assign target e)) → DefinitionsClear procedures lines u ds
unfolding definition_by DefinitionsClear
defines_clear procedures lines u target e h true ds is clear = applied_clear procedures lines u target e h.arguments h.applied ds is clear
defines_clear procedures lines u target e h false ds is clear = subst (DefinitionsClear procedures lines u) is tt

body_clear : (procedures lines : List NamedShape) (u : WrittenUnit) (b : Body) (ds : List Definition) → definitions_in (arrays_of u) b ≡ ds →
    AllClear procedures lines (calls_known (known_for u ds) b) → DefinitionsClear procedures lines u ds
unfolding definitions_in layer_of DefinitionsClear
body_clear procedures lines u (whole.Assign target e) ds is clear =
    defines_clear procedures lines u target e (heading_of target) (defines_function (arrays_of u) (heading_of target)) ds is clear
body_clear procedures lines u (IfOne' e s (more_of-Body b r)) ds is clear = subst (DefinitionsClear procedures lines u) is tt
body_clear procedures lines u _ ds is clear = subst (DefinitionsClear procedures lines u) is tt

pub statement_clear : (procedures lines : List NamedShape) (u : WrittenUnit) (b : Body) → AllClear procedures lines (calls_of_statement u b) →
    DefinitionsClear procedures lines u (definitions_in (arrays_of u) b)
unfolding calls_of_statement
statement_clear procedures lines u b clear = body_clear procedures lines u b (definitions_in (arrays_of u) b) refl clear

-- each of some statements has calls that are not found to disagree
unfoldable pub StatementsClear : List NamedShape → List NamedShape → WrittenUnit → List Stmt → Type 0
StatementsClear procedures lines u [] = Unit {0}
StatementsClear procedures lines u (s ∷ ss) = AllClear procedures lines (calls_of_statement u s.body) × StatementsClear procedures lines u ss

-- DEFINITIONS IN THEIR ORDER
module _ (S : List ProgramUnit) (procedures lines : List NamedShape) (c : Facts) (clear_agrees : EachClearAgrees S procedures lines c) (n : ℕ) (u : WrittenUnit)
    (program : (x : Bytes) → c.program.attribute x ≡ given_names u x) (faultless : (x : Bytes) → IsFaultless u x (given_names u x)) where
  abbrev own : Naming
  own = own_attributes u

  abbrev sign : Definition → Signature
  sign = signature_of (own_attributes u)

  module _ (es : List Expansion) (ss : List Signature) (expanded : AreExpanded c n (own_attributes u) es ss) (suited : AreSuited S c n es ss) (d : Definition) where
    abbrev known : Known
    known = here c n u program faultless es ss expanded d

    abbrev env : List Sort
    env = sorts_here c n u program faultless es ss expanded d

    function_suits : (x : Bytes) (basics : List Basic) (t : Term) → IsWithin c n u program faultless (with_expansions (own_attributes u) es) d x →
        known.dummies x ≡ Some basics → (known.attribute x).expansion ≡ Some t → TermAgrees S c n (map ValueOf basics) t
    unfolding with_expansions known_within unless_dummy
    function_suits x basics t (is_dummy_of z is) dummies expands =
        absurd (let bad : None ≡ Some basics = sym (ap (λ o. unless_dummy (signature_among x ss) o) is) ∙ dummies in cc)
    function_suits x basics t (is_outside is) dummies expands =
        suited_found S c n es ss x basics t suited (sym (ap (λ o. unless_dummy (signature_among x ss) o) is) ∙ dummies)
        (sym (ap (λ a. a.expansion) (outside_is c n u program faultless es ss expanded d x is)) ∙ expands)

    dummy_suits : (x : Bytes) (t : Term) → IsWithin c n u program faultless (with_expansions (own_attributes u) es) d x → known.is_bound x ≡ true →
        (known.attribute x).expansion ≡ Some t → TermAgrees S c n env t
    unfolding with_expansions known_within
    dummy_suits x t (is_dummy_of z is) bound expands =
        let f : IsDummy (with_expansions (own_attributes u) es) 0 d.dummies x z = dummy_found (with_expansions (own_attributes u) es) 0 d.dummies x z is in
        let same : Some z ≡ Some t = sym (ap (λ a. a.expansion) (dummy_is c n u program faultless es ss expanded d x z is)) ∙ expands in
        let eq : z ≡ t = cc in
        subst (λ y. TermAgrees S c n env y) (sym f.is ∙ eq)
        (bound_agrees S c n env (with_expansions (own_attributes u) es x) (0 + f.place) (own_attributes u x).basic (own_attributes u x).width)
    dummy_suits x t (is_outside is) bound expands = absurd (never (sym (ap is_some is) ∙ bound))

    procedure_suits : (x : Bytes) → IsWithin c n u program faultless (with_expansions (own_attributes u) es) d x → (known.attribute x).class ≡ class.DummyProcedure →
        (c.program.attribute x).class ≡ class.DummyProcedure
    unfolding with_expansions
    procedure_suits x (is_dummy_of t is) of =
        absurd (let bad : class.StatementFunction ≡ class.DummyProcedure = sym (ap (λ a. a.class) (dummy_is c n u program faultless es ss expanded d x t is)) ∙ of in cc)
    procedure_suits x (is_outside is) of =
        ap (λ a. a.class) (program x) ∙ (sym (ap (λ a. a.class) (outside_is c n u program faultless es ss expanded d x is)) ∙ of)

    names_suit : NamesSuit S c n env known
    names_suit = record {
      functions = λ x basics t of dummies expands. function_suits x basics t (each_within c n u program faultless (with_expansions (own_attributes u) es) d x) dummies expands;
      dummies = λ x t of bound expands. dummy_suits x t (each_within c n u program faultless (with_expansions (own_attributes u) es) d x) bound expands;
      procedures = λ x of. procedure_suits x (each_within c n u program faultless (with_expansions (own_attributes u) es) d x) of;
    }

    definition_suits : (more : List Signature) → ss ++ more ≡ signatures_of u → AllClear procedures lines (calls_within (function_call (known_for u (d ∷ []))) d.body) →
        definition_rows (with_expansions (given_names u) es) (with_expansions (own_attributes u) es) ss d ≡ [] →
        TermAgrees S c n env (expansion_of (with_expansions (own_attributes u) es) d).term
    unfolding definition_rows value_rows expansion_of with_expansions known_for
    definition_suits more all clear none =
        let inner = within_function (with_expansions (own_attributes u) es) d.dummies in
        let v = none_of_both (value_rows (own_attributes u d.name).basic (judge known d.body)) (dummies_rows (with_expansions (own_attributes u) es) d.dummies) none in
        let j = none_of_both (judge known d.body).faults _ v.0 in
        let agrees : ReadAgrees S c n env (read inner d.body) =
        wanted_safe S c n env (own_attributes u d.name).basic (judge known d.body) (read inner d.body)
        (expression_safe S procedures lines c clear_agrees n env known (known_within (given_names u) (own_attributes u) (signatures_of u) d)
        (agrees_within c n u program faultless es ss expanded d) names_suit
        (alike_seen known (known_within (given_names u) (own_attributes u) (signatures_of u) d)
        (within_alike (given_names u) (own_attributes u) es ss more (signatures_of u) d all))
        inner (λ x. reads_within c n u program faultless es ss expanded d x (each_within c n u program faultless (with_expansions (own_attributes u) es) d x)) d.body clear) j.0 j.1 in
        result_by S c n env (with_expansions (own_attributes u) es d.name) (read inner d.body).value (own_attributes u d.name).basic (own_attributes u d.name).width
        (value_of_read S c n env (read inner d.body) agrees)

  -- what has been defined so far
  record IsDefined (es : List Expansion) (ss : List Signature) : Type 0 where
    expanded : AreExpanded c n (own_attributes u) es ss
    suited : AreSuited S c n es ss

  definitions_suit : (es : List Expansion) (ss : List Signature) (ds : List Definition) (more : List Signature) → IsDefined es ss →
      ss ++ (map sign ds ++ more) ≡ signatures_of u → DefinitionsClear procedures lines u ds → definitions_rows (given_names u) (own_attributes u) es ss ds ≡ [] →
      IsDefined (expansions_from (own_attributes u) es ds) (ss ++ map sign ds)
  unfolding definitions_rows expansions_from signature_of expansion_of DefinitionsClear
  definitions_suit es ss [] more defined all clear none = subst (λ z. IsDefined es z) (sym (append-nil ss)) defined
  definitions_suit es ss (d ∷ ds) more defined all clear none =
      let e : Expansion = expansion_of (with_expansions (own_attributes u) es) d in
      let first : List Kind = definition_rows (with_expansions (given_names u) es) (with_expansions (own_attributes u) es) ss d in
      let later : List Kind = definitions_rows (given_names u) (own_attributes u) (es ++ (e ∷ [])) (ss ++ (sign d ∷ [])) ds in
      let h : (first ≡ []) × (later ≡ []) = none_of_both first later none in
      let next : IsDefined (es ++ (e ∷ [])) (ss ++ (sign d ∷ [])) = record {
        expanded = expanded_more c n (own_attributes u) es ss e (sign d) defined.expanded refl (definition_typed c n u program faultless es ss defined.expanded d h.0);
        suited = suited_more S c n es ss e (sign d) defined.suited refl
            (definition_suits es ss defined.expanded defined.suited d (sign d ∷ (map sign ds ++ more)) all clear.0 h.0);
      } in
      subst (λ z. IsDefined (expansions_from (own_attributes u) (es ++ (e ∷ [])) ds) z) (append_assoc ss (sign d ∷ []) (map sign ds))
      (definitions_suit (es ++ (e ∷ [])) (ss ++ (sign d ∷ [])) ds more next (append_assoc ss (sign d ∷ []) (map sign ds ++ more) ∙ all) clear.1 h.1)

  statements_suit : (es : List Expansion) (ss : List Signature) (stmts : List Stmt) → IsDefined es ss →
      ss ++ map sign (from_all (definitions_in (arrays_of u)) stmts) ≡ signatures_of u → StatementsClear procedures lines u stmts →
      defined_rows (given_names u) (own_attributes u) (arrays_of u) es ss stmts ≡ [] →
      IsDefined (expansions_from (own_attributes u) es (from_all (definitions_in (arrays_of u)) stmts)) (ss ++ map sign (from_all (definitions_in (arrays_of u)) stmts))
  unfolding defined_rows from_all expansions_from StatementsClear
  statements_suit es ss [] defined all clear none = subst (λ z. IsDefined es z) (sym (append-nil ss)) defined
  statements_suit es ss (s ∷ stmts) defined all clear none =
      let ds : List Definition = definitions_in (arrays_of u) s.body in
      let more : List Definition = from_all (definitions_in (arrays_of u)) stmts in
      let rows : List Kind = definitions_rows (given_names u) (own_attributes u) es ss ds in
      let later : List Refusal = defined_rows (given_names u) (own_attributes u) (arrays_of u) (expansions_from (own_attributes u) es ds) (ss ++ map sign ds) stmts in
      let h : (stood s rows ≡ []) × (later ≡ []) = none_of_both (stood s rows) later none in
      let parted : ss ++ (map sign ds ++ map sign more) ≡ signatures_of u = ap (λ z. ss ++ z) (sym (map-append sign ds more)) ∙ all in
      let next : IsDefined (expansions_from (own_attributes u) es ds) (ss ++ map sign ds) =
      definitions_suit es ss ds (map sign more) defined parted (statement_clear procedures lines u s.body clear.0) (none_stood s rows h.0) in
      let rest : IsDefined (expansions_from (own_attributes u) (expansions_from (own_attributes u) es ds) more) ((ss ++ map sign ds) ++ map sign more) =
      statements_suit (expansions_from (own_attributes u) es ds) (ss ++ map sign ds) stmts next (append_assoc ss (map sign ds) (map sign more) ∙ parted) clear.1 h.1 in
      subst (λ z. IsDefined z (ss ++ map sign (ds ++ more))) (expansions_after c n u program faultless (own_attributes u) es ds more)
      (subst (λ z. IsDefined (expansions_from (own_attributes u) (expansions_from (own_attributes u) es ds) more) z)
      (append_assoc ss (map sign ds) (map sign more) ∙ ap (λ z. ss ++ z) (sym (map-append sign ds more))) rest)

  function_in : (x : Bytes) (basics : List Basic) (t : Term) → AreSuited S c n (all_expansions u) (signatures_of u) → IsNamed u x →
      (given_names u x).class ≡ class.StatementFunction → signature_among x (signatures_of u) ≡ Some basics → (given_names u x).expansion ≡ Some t →
      TermAgrees S c n (map ValueOf basics) t
  unfolding with_expansions
  function_in x basics t suited (a_name among is) of signed expands =
      suited_found S c n (all_expansions u) (signatures_of u) x basics t suited signed (sym (ap (λ a. a.expansion) is) ∙ expands)
  function_in x basics t suited (no_name is) of signed expands =
      absurd (let bad : class.Unit ≡ class.StatementFunction = sym (unit_of (given_names u x) is) ∙ of in cc)

  pub names_in : StatementsClear procedures lines u u.statements → defined_rows (given_names u) (own_attributes u) (arrays_of u) [] [] u.statements ≡ [] →
      NamesSuit S c n [] (known_in u)
  unfolding known_in signatures_of definitions_of AreSuited
  names_in clear none =
      let defined : IsDefined (all_expansions u) (signatures_of u) =
      statements_suit [] [] u.statements (record { expanded = none_expanded; suited = tt }) refl clear none in
      record {
        functions = λ x basics t of signed expands. function_in x basics t defined.suited (each_named u x) of signed expands;
        dummies = λ x t of bound expands. absurd (never bound);
        procedures = λ x of. ap (λ a. a.class) (program x) ∙ of;
      }
