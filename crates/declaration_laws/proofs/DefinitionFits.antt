-- The definitions of statement functions that break no row are expansions of their types; and what is known in the statements of a unit is so.
use Rattle.std.specs.Prelude.{◌≡◌, ℕ, suc, ◌+◌, Bool, true, false, List, [], ◌∷◌, ◌++◌, map, length, bytes_eq, Option, Some, None, is_some, IsTrue, if◌then◌else◌}
use Rattle.std.proofs.Common.{refl, sym, ap, ◌∙◌, subst, arith}
use Rattle.std.proofs.lemmas.List.{append_assoc, append-nil, map-append}
use Rattle.std.proofs.lemmas.Slice.Eq.{bytes_eq-Decides}
use Rattle.fortran_laws.specs.f_tree.declared.names.Basic.{Basic}
use Rattle.fortran_laws.specs.f_tree.declared.names.Basic.TheVariants.{Integer, Logical, Character, Untyped}
use Rattle.fortran_laws.specs.f_tree.declared.names.Class.TheVariants as class
use Rattle.fortran_laws.specs.f_tree.declared.refusals.Kind.{Kind}
use Rattle.fortran_laws.specs.f_tree.declared.refusals.Refusal.{Refusal}
use Rattle.fortran_laws.specs.f_tree.declared.statements.Stmt.{Stmt}
use Rattle.fortran_laws.specs.f_tree.declared.units.Unit.{Unit as WrittenUnit}
use Rattle.fortran_laws.specs.f_tree.Values.{Bytes}
use Rattle.fortran_laws.specs.f_tree.Terms.{Front, Fitted, Term, Bound, NoMore, More}
use Rattle.fortran_laws.specs.f_tree.Facts.{Attribute, Facts}
use Rattle.fortran_laws.specs.f_tree.Reading.{read}
use Rattle.fortran_laws.specs.f_tree.Attributes.{from_all, bare, Expansion, expansion_among, bound_term, dummy_among, expanded_as, within_function, with_expansions, result_term, Definition, definitions_in, expansion_of, expansions_from, arrays_of}
use Rattle.fortran_laws.specs.f_tree.Lines.{Naming, is_array}
use Rattle.fortran_laws.specs.f_tree.WellTyped as typed
use Rattle.fortran_laws.specs.f_tree.WellTyped.{Sort, ValueOf, IsOf, IsNth, is_variable, is_procedure_name, is_callee, has_size, rank_of, Typed, AreTyped}
use Rattle.refusal_order.specs.declaration_rows.Judgement.{Known, judge}
use Rattle.refusal_order.specs.declaration_rows.Fits.{FitsOne, AgreesOnVariable, IsConstant, IsReplaced, Agrees, IsReadAs, read_alike, never_read}
use Rattle.refusal_order.specs.declaration_rows.StatementRows.{value_rows}
use Rattle.refusal_order.specs.declaration_rows.NameRows.{given_names, own_attributes, Signature, signature_of, signature_among, definitions_of, signatures_of, known_in, dummy_or, unless_dummy, known_within, dummies_rows, definition_rows, definitions_rows, stood, defined_rows}
use Rattle.declaration_laws.proofs.ExpressionFits.{none_of_both, same_some, wanted_in, expressions_fit}
use Rattle.declaration_laws.proofs.UnitFits.{none_stood}
use Rattle.declaration_laws.proofs.NameFits.{all_expansions, IsNamed, a_name, no_name, each_named, IsFaultless, valued_by, constant_by, never}

pub unit_of : (a : Attribute) → a ≡ bare class.Unit None → a.class ≡ class.Unit
unfolding bare
unit_of a is = ap (λ z. z.class) is

-- DUMMY ARGUMENTS, each by its place in the list
pub record IsDummy (own : Naming) (k : ℕ) (xs : List Bytes) (x : Bytes) (t : Term) : Type 0 where
  pub place : ℕ
  pub nth : IsNth (map ValueOf (map (λ y. (own y).basic) xs)) place (ValueOf (own x).basic)
  pub is : t ≡ bound_term (own x) (k + place)

pub dummy_if : (own : Naming) (k : ℕ) (y : Bytes) (ys : List Bytes) (x : Bytes) (t : Term) (b : Bool) → bytes_eq y x ≡ b →
    (if b then Some (bound_term (own y) k) else dummy_among own (suc k) ys x) ≡ Some t → (dummy_among own (suc k) ys x ≡ Some t → IsDummy own (suc k) ys x t) →
    IsDummy own k (y ∷ ys) x t
dummy_if own k y ys x t true same is later =
    let eq : y ≡ x = (bytes_eq-Decides y x).0 same in
    record {
      place = 0;
      nth = subst (λ z. IsNth (ValueOf (own y).basic ∷ map ValueOf (map (λ y. (own y).basic) ys)) 0 (ValueOf (own z).basic)) eq
          (typed.first_one (ValueOf (own y).basic) (map ValueOf (map (λ y. (own y).basic) ys)));
      is = sym (same_some (bound_term (own y) k) t is) ∙ (ap (λ z. bound_term (own z) k) eq ∙ ap (λ n. bound_term (own x) n) (let q : k ≡ k + 0 = omega arith in q));
    }
dummy_if own k y ys x t false same is later =
    let d : IsDummy own (suc k) ys x t = later is in
    record {
      place = suc d.place;
      nth = typed.later_one (ValueOf (own y).basic) (map ValueOf (map (λ y. (own y).basic) ys)) d.place (ValueOf (own x).basic) d.nth;
      is = d.is ∙ ap (λ n. bound_term (own x) n) (let q : suc k + d.place ≡ k + suc d.place = omega arith in q);
    }

pub dummy_found : (own : Naming) (k : ℕ) (xs : List Bytes) (x : Bytes) (t : Term) → dummy_among own k xs x ≡ Some t → IsDummy own k xs x t
unfolding dummy_among
dummy_found own k [] x t is = absurd (cc)
dummy_found own k (y ∷ ys) x t is = dummy_if own k y ys x t (bytes_eq y x) refl is (λ later. dummy_found own (suc k) ys x t later)

module _ (c : Facts) (count : ℕ) where
  pub one_term : (env : List Sort) (t : Term) (sort : Sort) → Typed c count env t sort → AreTyped c count env (More t NoMore) (sort ∷ [])
  one_term env t sort of = typed.more_terms env t NoMore sort [] of (typed.no_terms env)

  pub bound_by : (env : List Sort) (a : Attribute) (k : ℕ) (basic : Basic) (width : Option ℕ) → Typed c count env (Bound k) (ValueOf basic) →
      Typed c count env (bound_term (record a { basic = basic; width = width }) k) (ValueOf basic)
  unfolding bound_term
  bound_by env a k Integer width of = of
  bound_by env a k Logical width of = of
  bound_by env a k Untyped width of = of
  bound_by env a k Character None of = of
  bound_by env a k Character (Some n) of =
      typed.is_intrinsic env (Front n) (More (Bound k) NoMore) (ValueOf Character ∷ []) Character (typed.front n) (one_term env (Bound k) (ValueOf Character) of)

  pub dummy_typed : (own : Naming) (xs : List Bytes) (x : Bytes) (t : Term) → dummy_among own 0 xs x ≡ Some t →
      Typed c count (map ValueOf (map (λ y. (own y).basic) xs)) t (ValueOf (own x).basic)
  dummy_typed own xs x t is =
      let d : IsDummy own 0 xs x t = dummy_found own 0 xs x t is in
      let env : List Sort = map ValueOf (map (λ y. (own y).basic) xs) in
      subst (λ z. Typed c count env z (ValueOf (own x).basic)) (sym (d.is ∙ ap (λ n. bound_term (own x) n) (let q : 0 + d.place ≡ d.place = omega arith in q)))
      (bound_by env (own x) d.place (own x).basic (own x).width (typed.is_bound env d.place (ValueOf (own x).basic) d.nth))

  pub result_by_type : (env : List Sort) (a : Attribute) (t : Term) (basic : Basic) (width : Option ℕ) → Typed c count env t (ValueOf basic) →
      Typed c count env (result_term (record a { basic = basic; width = width }) t) (ValueOf basic)
  unfolding result_term
  result_by_type env a t Integer width of = of
  result_by_type env a t Logical width of = of
  result_by_type env a t Untyped width of = of
  result_by_type env a t Character None of = of
  result_by_type env a t Character (Some n) of =
      typed.is_intrinsic env (Fitted n) (More t NoMore) (ValueOf Character ∷ []) Character (typed.fitted n) (one_term env t (ValueOf Character) of)

  pub result_typed : (env : List Sort) (a : Attribute) (t : Term) → Typed c count env t (ValueOf a.basic) → Typed c count env (result_term a t) (ValueOf a.basic)
  result_typed env a t of = result_by_type env a t a.basic a.width of

  -- EXPANSIONS WITH THEIR SIGNATURES
  pub data AreExpanded (own : Naming) : List Expansion → List Signature → Type 0 where
    none_expanded : AreExpanded own [] []
    one_expanded : (e : Expansion) (es : List Expansion) (s : Signature) (ss : List Signature) → e.name ≡ s.name →
        Typed c count (map ValueOf s.basics) e.term (ValueOf (own s.name).basic) → AreExpanded own es ss → AreExpanded own (e ∷ es) (s ∷ ss)

  pub expanded_more : (own : Naming) (es : List Expansion) (ss : List Signature) (e : Expansion) (s : Signature) → AreExpanded own es ss → e.name ≡ s.name →
      Typed c count (map ValueOf s.basics) e.term (ValueOf (own s.name).basic) → AreExpanded own (es ++ (e ∷ [])) (ss ++ (s ∷ []))
  expanded_more own es ss e s none_expanded name of = one_expanded e [] s [] name of none_expanded
  expanded_more own es ss e s (one_expanded d ds r rs other first more) name of =
      one_expanded d (ds ++ (e ∷ [])) r (rs ++ (s ∷ [])) other first (expanded_more own ds rs e s more name of)

  pub record IsExpanded (own : Naming) (es : List Expansion) (x : Bytes) (basics : List Basic) : Type 0 where
    pub term : Term
    pub is : expansion_among x es ≡ Some term
    pub typed : Typed c count (map ValueOf basics) term (ValueOf (own x).basic)

  pub expanded_if : (own : Naming) (e : Expansion) (es : List Expansion) (s : Signature) (ss : List Signature) (x : Bytes) (basics : List Basic) (b : Bool) →
      bytes_eq s.name x ≡ b → e.name ≡ s.name → Typed c count (map ValueOf s.basics) e.term (ValueOf (own s.name).basic) →
      (if b then Some s.basics else signature_among x ss) ≡ Some basics → (signature_among x ss ≡ Some basics → IsExpanded own es x basics) →
      IsExpanded own (e ∷ es) x basics
  unfolding expansion_among
  expanded_if own e es s ss x basics true eq name of is later =
      let same : s.name ≡ x = (bytes_eq-Decides s.name x).0 eq in
      record {
        term = e.term;
        is = subst (λ b. (if b then Some e.term else expansion_among x es) ≡ Some e.term) (sym (ap (λ n. bytes_eq n x) name ∙ eq)) refl;
        typed = subst (λ z. Typed c count (map ValueOf basics) e.term (ValueOf (own z).basic)) same
            (subst (λ bs. Typed c count (map ValueOf bs) e.term (ValueOf (own s.name).basic)) (same_some s.basics basics is) of);
      }
  expanded_if own e es s ss x basics false eq name of is later =
      let l : IsExpanded own es x basics = later is in
      record {
        term = l.term;
        is = subst (λ b. (if b then Some e.term else expansion_among x es) ≡ Some l.term) (sym (ap (λ n. bytes_eq n x) name ∙ eq)) l.is;
        typed = l.typed;
      }

  pub expansion_found : (own : Naming) (es : List Expansion) (ss : List Signature) (x : Bytes) (basics : List Basic) → AreExpanded own es ss →
      signature_among x ss ≡ Some basics → IsExpanded own es x basics
  unfolding signature_among
  expansion_found own es ss x basics none_expanded is = absurd (cc)
  expansion_found own es ss x basics (one_expanded e rest s more name of others) is =
      expanded_if own e rest s more x basics (bytes_eq s.name x) refl name of is (λ later. expansion_found own rest more x basics others later)

-- WHAT IS KNOWN OF THE NAMES OF A UNIT
module _ (c : Facts) (count : ℕ) (u : WrittenUnit) (program : (x : Bytes) → c.program.attribute x ≡ given_names u x)
    (faultless : (x : Bytes) → IsFaultless u x (given_names u x)) where
  pub known_variable_is : (known : Known) (x : Bytes) (a : Attribute) → known.attribute x ≡ a → a.class ≡ (given_names u x).class → a.basic ≡ (given_names u x).basic →
      a.dimensions ≡ (given_names u x).dimensions → IsTrue (is_variable a.class) → AgreesOnVariable c known x
  known_variable_is known x a is of_class of_basic of_shape variable =
      let given : IsTrue (is_variable (given_names u x).class) = subst (λ k. IsTrue (is_variable k)) of_class variable in
      let basic : (given_names u x).basic ≡ (known.attribute x).basic = sym (ap (λ z. z.basic) is ∙ of_basic) in
      let shape : (given_names u x).dimensions ≡ (known.attribute x).dimensions = sym (ap (λ z. z.dimensions) is ∙ of_shape) in
      record {
        class_is = subst (λ z. IsTrue (is_variable z.class)) (sym (program x)) given;
        basic_is = ap (λ z. z.basic) (program x) ∙ basic;
        rank_is = ap (λ z. length z.dimensions) (program x) ∙ ap length shape;
        size_is = λ sized. subst (λ ds. IsTrue (has_size ds)) (sym (ap (λ z. z.dimensions) (program x) ∙ shape)) sized;
        has_values = subst (λ b. typed.IsValued b) basic (valued_by (given_names u x).class (given_names u x) given (faultless x).no_type);
      }

  pub given_constant : (x : Bytes) → (given_names u x).class ≡ class.Constant → IsConstant count (given_names u x)
  given_constant x is = constant_by count u (given_names u x).class (given_names u x) is (faultless x).no_constant (faultless x).no_conflict

  pub given_basic : (x : Bytes) → IsNamed u x → (given_names u x).class ≡ class.StatementFunction → (given_names u x).basic ≡ (own_attributes u x).basic
  unfolding with_expansions
  given_basic x (a_name among is) of = ap (λ z. z.basic) is
  given_basic x (no_name is) of = absurd (let bad : class.Unit ≡ class.StatementFunction = sym (unit_of (given_names u x) is) ∙ of in cc)

  -- a name in a definition: a dummy argument, or what it is in the unit
  pub data IsWithin (own : Naming) (d : Definition) (x : Bytes) : Type 0 where
    is_dummy_of : (t : Term) → dummy_among own 0 d.dummies x ≡ Some t → IsWithin own d x
    is_outside : dummy_among own 0 d.dummies x ≡ None → IsWithin own d x

  pub within_by : (own : Naming) (d : Definition) (x : Bytes) (o : Option Term) → dummy_among own 0 d.dummies x ≡ o → IsWithin own d x
  within_by own d x None is = is_outside is
  within_by own d x (Some t) is = is_dummy_of t is

  pub each_within : (own : Naming) (d : Definition) (x : Bytes) → IsWithin own d x
  each_within own d x = within_by own d x (dummy_among own 0 d.dummies x) refl

  module _ (es : List Expansion) (ss : List Signature) (expanded : AreExpanded c count (own_attributes u) es ss) (d : Definition) where
    abbrev pub own_here : Naming
    own_here = with_expansions (own_attributes u) es

    abbrev pub given_here : Naming
    given_here = with_expansions (given_names u) es

    abbrev pub here : Known
    here = known_within (with_expansions (given_names u) es) (with_expansions (own_attributes u) es) ss d

    abbrev pub sorts_here : List Sort
    sorts_here = map ValueOf (map (λ y. (own_attributes u y).basic) d.dummies)

    pub dummy_is : (x : Bytes) (t : Term) → dummy_among own_here 0 d.dummies x ≡ Some t →
        here.attribute x ≡ record (own_here x) { class = class.StatementFunction; expansion = Some t }
    unfolding known_within dummy_or expanded_as
    dummy_is x t is = ap (λ o. dummy_or (given_here x) (own_here x) o) is

    pub outside_is : (x : Bytes) → dummy_among own_here 0 d.dummies x ≡ None → here.attribute x ≡ given_here x
    unfolding known_within dummy_or
    outside_is x is = ap (λ o. dummy_or (given_here x) (own_here x) o) is

    pub variable_within : (x : Bytes) → IsWithin own_here d x → IsTrue (is_variable (here.attribute x).class) → AgreesOnVariable c here x
    unfolding with_expansions is_variable
    variable_within x (is_dummy_of t is) variable = absurd (never (subst (λ a. IsTrue (is_variable a.class)) (dummy_is x t is) variable))
    variable_within x (is_outside is) variable =
        known_variable_is here x (given_here x) (outside_is x is) refl refl refl (subst (λ a. IsTrue (is_variable a.class)) (outside_is x is) variable)

    pub constant_within : (x : Bytes) → IsWithin own_here d x → (here.attribute x).class ≡ class.Constant → IsConstant count (here.attribute x)
    unfolding with_expansions is_array
    constant_within x (is_dummy_of t is) of =
        absurd (let bad : class.StatementFunction ≡ class.Constant = sym (ap (λ a. a.class) (dummy_is x t is)) ∙ of in cc)
    constant_within x (is_outside is) of =
        let k : IsConstant count (given_names u x) = given_constant x (sym (ap (λ a. a.class) (outside_is x is)) ∙ of) in
        subst (λ a. IsConstant count a) (sym (outside_is x is))
        (record { value = k.value; value_is = k.value_is; typed = k.typed; no_array = k.no_array })

    pub procedure_within : (x : Bytes) → IsWithin own_here d x → IsTrue (is_procedure_name (here.attribute x).class) →
        IsTrue (is_procedure_name (c.program.attribute x).class)
    unfolding with_expansions is_procedure_name
    procedure_within x (is_dummy_of t is) of = absurd (never (subst (λ a. IsTrue (is_procedure_name a.class)) (dummy_is x t is) of))
    procedure_within x (is_outside is) of =
        subst (λ a. IsTrue (is_procedure_name a.class)) (sym (program x)) (subst (λ a. IsTrue (is_procedure_name a.class)) (outside_is x is) of)

    pub callee_within : (x : Bytes) → IsWithin own_here d x → IsTrue (is_callee (here.attribute x).class) → IsTrue (is_callee (c.program.attribute x).class)
    unfolding with_expansions is_callee
    callee_within x (is_dummy_of t is) of = absurd (never (subst (λ a. IsTrue (is_callee a.class)) (dummy_is x t is) of))
    callee_within x (is_outside is) of =
        subst (λ a. IsTrue (is_callee a.class)) (sym (program x)) (subst (λ a. IsTrue (is_callee a.class)) (outside_is x is) of)

    pub function_within : (x : Bytes) (basics : List Basic) → IsWithin own_here d x → (here.attribute x).class ≡ class.StatementFunction → here.dummies x ≡ Some basics →
        IsReplaced c count (map ValueOf basics) (here.attribute x)
    unfolding with_expansions known_within unless_dummy
    function_within x basics (is_dummy_of t is) of dummies =
        absurd (let bad : None ≡ Some basics = sym (ap (λ o. unless_dummy (signature_among x ss) o) is) ∙ dummies in cc)
    function_within x basics (is_outside is) of dummies =
        let known : signature_among x ss ≡ Some basics = sym (ap (λ o. unless_dummy (signature_among x ss) o) is) ∙ dummies in
        let e : IsExpanded c count (own_attributes u) es x basics = expansion_found c count (own_attributes u) es ss x basics expanded known in
        let basic : (given_names u x).basic ≡ (own_attributes u x).basic = given_basic x (each_named u x) (sym (ap (λ a. a.class) (outside_is x is)) ∙ of) in
        subst (λ a. IsReplaced c count (map ValueOf basics) a) (sym (outside_is x is))
        (record { term = e.term; term_is = e.is; typed = subst (λ b. Typed c count (map ValueOf basics) e.term (ValueOf b)) (sym basic) e.typed })

    pub dummy_within : (x : Bytes) → IsWithin own_here d x → here.is_bound x ≡ true → IsReplaced c count sorts_here (here.attribute x)
    unfolding with_expansions known_within
    dummy_within x (is_dummy_of t is) bound =
        subst (λ a. IsReplaced c count sorts_here a) (sym (dummy_is x t is))
        (record { term = t; term_is = refl; typed = dummy_typed c count own_here d.dummies x t is })
    dummy_within x (is_outside is) bound = absurd (never (sym (ap (λ o. is_some o) is) ∙ bound))

    pub agrees_within : Agrees c count sorts_here here
    agrees_within = record {
      variables = λ x variable. variable_within x (each_within own_here d x) variable;
      constants = λ x of. constant_within x (each_within own_here d x) of;
      procedures = λ x of. procedure_within x (each_within own_here d x) of;
      callees = λ x of. callee_within x (each_within own_here d x) of;
      functions = λ x basics of dummies. function_within x basics (each_within own_here d x) of dummies;
      dummies = λ x of bound. dummy_within x (each_within own_here d x) bound;
    }

    -- a name is read as it is known there
    pub outside_alike : (x : Bytes) → IsNamed u x → (own_here x ≡ given_here x → IsReadAs here (within_function own_here d.dummies) x) →
        ((given_names u x).class ≡ class.Unit → IsReadAs here (within_function own_here d.dummies) x) → IsReadAs here (within_function own_here d.dummies) x
    unfolding with_expansions
    outside_alike x (a_name among is) alike never_there = alike (ap (λ a. with_expansions (λ y. a) es x) (sym is))
    outside_alike x (no_name is) alike never_there = never_there (unit_of (given_names u x) is)

    pub reads_within : (x : Bytes) → IsWithin own_here d x → IsReadAs here (within_function own_here d.dummies) x
    unfolding within_function expanded_as with_expansions
    reads_within x (is_dummy_of t is) = read_alike (ap (λ o. expanded_as (own_here x) o) is ∙ sym (dummy_is x t is))
    reads_within x (is_outside is) =
        outside_alike x (each_named u x) (λ same. read_alike (ap (λ o. expanded_as (own_here x) o) is ∙ (same ∙ sym (outside_is x is))))
        (λ none. never_read (ap (λ a. a.class) (outside_is x is) ∙ none))

    pub definition_typed : definition_rows given_here own_here ss d ≡ [] →
        Typed c count sorts_here (expansion_of own_here d).term (ValueOf (own_attributes u d.name).basic)
    unfolding definition_rows value_rows expansion_of with_expansions
    definition_typed none =
        let one : FitsOne c count sorts_here (own_here d.name).basic (read (within_function own_here d.dummies) d.body) =
        wanted_in c count sorts_here here (own_here d.name).basic (judge here d.body) (read (within_function own_here d.dummies) d.body)
        (λ free. expressions_fit c count sorts_here here (within_function own_here d.dummies) d.body agrees_within (λ x. reads_within x (each_within own_here d x)) free)
        (none_of_both (value_rows (own_here d.name).basic (judge here d.body)) (dummies_rows own_here d.dummies) none).0 in
        result_typed c count sorts_here (own_here d.name) (read (within_function own_here d.dummies) d.body).value one.valued

  -- DEFINITIONS IN THEIR ORDER
  pub definitions_expanded : (es : List Expansion) (ss : List Signature) (ds : List Definition) → AreExpanded c count (own_attributes u) es ss →
      definitions_rows (given_names u) (own_attributes u) es ss ds ≡ [] →
      AreExpanded c count (own_attributes u) (expansions_from (own_attributes u) es ds) (ss ++ map (signature_of (own_attributes u)) ds)
  unfolding definitions_rows expansions_from signature_of expansion_of
  definitions_expanded es ss [] expanded none = subst (λ z. AreExpanded c count (own_attributes u) es z) (sym (append-nil ss)) expanded
  definitions_expanded es ss (d ∷ ds) expanded none =
      let first : List Kind = definition_rows (with_expansions (given_names u) es) (with_expansions (own_attributes u) es) ss d in
      let later : List Kind = definitions_rows (given_names u) (own_attributes u) (es ++ (expansion_of (with_expansions (own_attributes u) es) d ∷ []))
      (ss ++ (signature_of (own_attributes u) d ∷ [])) ds in
      let h : (first ≡ []) × (later ≡ []) = none_of_both first later none in
      let next : AreExpanded c count (own_attributes u) (es ++ (expansion_of (with_expansions (own_attributes u) es) d ∷ [])) (ss ++ (signature_of (own_attributes u) d ∷ [])) =
      expanded_more c count (own_attributes u) es ss (expansion_of (with_expansions (own_attributes u) es) d) (signature_of (own_attributes u) d) expanded refl
      (definition_typed es ss expanded d h.0) in
      subst (λ z. AreExpanded c count (own_attributes u) (expansions_from (own_attributes u) (es ++ (expansion_of (with_expansions (own_attributes u) es) d ∷ [])) ds) z)
      (append_assoc ss (signature_of (own_attributes u) d ∷ []) (map (signature_of (own_attributes u)) ds))
      (definitions_expanded (es ++ (expansion_of (with_expansions (own_attributes u) es) d ∷ [])) (ss ++ (signature_of (own_attributes u) d ∷ [])) ds next h.1)

  pub expansions_after : (own : Naming) (es : List Expansion) (ds more : List Definition) →
      expansions_from own (expansions_from own es ds) more ≡ expansions_from own es (ds ++ more)
  unfolding expansions_from
  expansions_after own es [] more = refl
  expansions_after own es (d ∷ ds) more = expansions_after own (es ++ (expansion_of (with_expansions own es) d ∷ [])) ds more

  pub statements_expanded : (es : List Expansion) (ss : List Signature) (stmts : List Stmt) → AreExpanded c count (own_attributes u) es ss →
      defined_rows (given_names u) (own_attributes u) (arrays_of u) es ss stmts ≡ [] →
      AreExpanded c count (own_attributes u) (expansions_from (own_attributes u) es (from_all (definitions_in (arrays_of u)) stmts))
      (ss ++ map (signature_of (own_attributes u)) (from_all (definitions_in (arrays_of u)) stmts))
  unfolding defined_rows from_all expansions_from
  statements_expanded es ss [] expanded none = subst (λ z. AreExpanded c count (own_attributes u) es z) (sym (append-nil ss)) expanded
  statements_expanded es ss (s ∷ stmts) expanded none =
      let ds : List Definition = definitions_in (arrays_of u) s.body in
      let more : List Definition = from_all (definitions_in (arrays_of u)) stmts in
      let sign : Definition → Signature = signature_of (own_attributes u) in
      let rows : List Kind = definitions_rows (given_names u) (own_attributes u) es ss ds in
      let later : List Refusal = defined_rows (given_names u) (own_attributes u) (arrays_of u) (expansions_from (own_attributes u) es ds) (ss ++ map sign ds) stmts in
      let h : (stood s rows ≡ []) × (later ≡ []) = none_of_both (stood s rows) later none in
      let next : AreExpanded c count (own_attributes u) (expansions_from (own_attributes u) es ds) (ss ++ map sign ds) =
      definitions_expanded es ss ds expanded (none_stood s rows h.0) in
      let all : AreExpanded c count (own_attributes u) (expansions_from (own_attributes u) (expansions_from (own_attributes u) es ds) more) ((ss ++ map sign ds) ++ map sign more) =
      statements_expanded (expansions_from (own_attributes u) es ds) (ss ++ map sign ds) stmts next h.1 in
      subst (λ z. AreExpanded c count (own_attributes u) z (ss ++ map sign (ds ++ more))) (expansions_after (own_attributes u) es ds more)
      (subst (λ z. AreExpanded c count (own_attributes u) (expansions_from (own_attributes u) (expansions_from (own_attributes u) es ds) more) z)
      (append_assoc ss (map sign ds) (map sign more) ∙ ap (λ z. ss ++ z) (sym (map-append sign ds more))) all)

  -- WHAT IS KNOWN IN THE STATEMENTS
  pub function_in : (x : Bytes) (basics : List Basic) → AreExpanded c count (own_attributes u) (all_expansions u) (signatures_of u) → IsNamed u x →
      (given_names u x).class ≡ class.StatementFunction → signature_among x (signatures_of u) ≡ Some basics → IsReplaced c count (map ValueOf basics) (given_names u x)
  unfolding with_expansions
  function_in x basics expanded (a_name among is) of known =
      let e : IsExpanded c count (own_attributes u) (all_expansions u) x basics =
      expansion_found c count (own_attributes u) (all_expansions u) (signatures_of u) x basics expanded known in
      subst (λ a. IsReplaced c count (map ValueOf basics) a) (sym is) (record { term = e.term; term_is = e.is; typed = e.typed })
  function_in x basics expanded (no_name is) of known = absurd (let bad : class.Unit ≡ class.StatementFunction = sym (unit_of (given_names u x) is) ∙ of in cc)

  pub agrees_in : defined_rows (given_names u) (own_attributes u) (arrays_of u) [] [] u.statements ≡ [] → Agrees c count [] (known_in u)
  unfolding known_in signatures_of definitions_of
  agrees_in none =
      let expanded : AreExpanded c count (own_attributes u) (all_expansions u) (signatures_of u) = statements_expanded [] [] u.statements none_expanded none in
      record {
        variables = λ x variable. known_variable_is (known_in u) x (given_names u x) refl refl refl refl variable;
        constants = λ x of. given_constant x of;
        procedures = λ x of. subst (λ a. IsTrue (is_procedure_name a.class)) (sym (program x)) of;
        callees = λ x of. subst (λ a. IsTrue (is_callee a.class)) (sym (program x)) of;
        functions = λ x basics of known. function_in x basics expanded (each_named u x) of known;
        dummies = λ x of bound. absurd (never bound);
      }
