-- An expression that breaks no row, and none of whose calls is found to disagree, is read as one whose calls agree with the procedures of the set.
use Rattle.std.specs.Prelude.{◌≡◌, ℕ, nat_eq, Bool, true, false, List, [], ◌∷◌, ◌++◌, length, map, replicate, Option, Some, None, if◌then◌else◌}
use Rattle.std.proofs.Common.{refl, sym, ap, ◌∙◌, subst}
use Rattle.call_shapes.specs.f_tree.declared.names.Basic.{Basic}
use Rattle.call_shapes.specs.f_tree.declared.names.Basic.TheVariants.{Integer, Logical}
use Rattle.call_shapes.specs.f_tree.declared.names.Class.{Class}
use Rattle.call_shapes.specs.f_tree.declared.names.Class.TheVariants as class
use Rattle.call_shapes.specs.f_tree.declared.refusals.Kind.{Kind}
use Rattle.call_shapes.specs.f_tree.declared.refusals.Kind.TheVariants.{NumberOfSubscripts}
use Rattle.call_shapes.specs.f_tree.declared.expressions.Expr.{Expr, Int, Logical as TruthValue, Text, Name, Apply', Part', Minus', Plus', Not', Paren', Binary', AltReturn, Bind', Bound as BoundValue, Row_of-Expr, end_of-Expr, more_of-Expr, None', Some', Held-Expr-Part-1}
use Rattle.call_shapes.specs.f_tree.Folds.{fold_expr, fold_exprs, fold_held}
use Rattle.call_shapes.specs.f_tree.Values.{Bytes, IsInt, IsLog, IsText, IsLabel, Datum}
use Rattle.call_shapes.specs.f_tree.Terms.{Function, Wanted, AsFunction, Term, Val, At, Element, Before, Negate, Complement, Intrinsically, Refer, Bind, terms}
use Rattle.call_shapes.specs.f_tree.Facts.{Attribute, ProgramUnit, Facts}
use Rattle.call_shapes.specs.f_tree.Reading.{Read, valued_only, placed, function_named, name_read, operands_of, width_or_zero, function_read, intrinsic_read, expanded_read, applied_read, layer_read, read}
use Rattle.call_shapes.specs.f_tree.WellTyped.{Sort, ValueOf}
use Rattle.call_shapes.specs.declaration_rows.Judgement.{AFunctionName, Judged, Known, a_value, a_place, no_operand, wants_one, unless, wants, all_faults, all_passed, all_wanted, function_name, bound_judged, name_judged, wanted_by, intrinsic_judged, expanded_judged, defined_judged, reference_judged, element_judged, applied_judged, layer_judged, judge}
use Rattle.call_shapes.specs.declaration_rows.Fits.{IsReplaced, Agrees as NamesAgree, IsReadAs, read_alike, never_read}
use Rattle.call_shapes.specs.declared.shapes.NamedShape.{NamedShape}
use Rattle.call_shapes.specs.declared.shapes.ShapeResult.{ShapeResult}
use Rattle.call_shapes.specs.declared.shapes.ShapeResult.TheVariants.{Function as FunctionShape}
use Rattle.call_shapes.specs.CallsMade.{actual_argument, is_procedure_class, call_as, function_call, listed, calls_within, calls_in_row, calls_in_held}
use Rattle.call_shapes.specs.Disagreements.{reason_of}
use Rattle.agreeing_runs.specs.AgreeingForms.{Agrees, TermAgrees, TermsAgree}
use Rattle.declaration_laws.proofs.ExpressionFits.{none_of_both, same_some, unknown_name, unknown_applied, AllRelated, wanted_all, row_fits}
use Rattle.agreeing_calls.proofs.AgreementLemmas.{AreSorts, argument_of_judged, IsWant, a_reference}
use Rattle.agreeing_calls.proofs.ReadLemmas.{ReadAgrees, EachRead, Safe, AllSafe, HeldSafe, NoFunctions, passed_no_functions, valued_agrees, placed_agrees, actuals_agree, values_agree, operands_agree, one_safe, wanted_safe, all_wanted_safe, all_passed_safe, part_safe, binary_safe, value_of_read, pieces_of, AllSorted, all_sorted}

-- CALLS that are not found to disagree
unfoldable pub AllClear : List NamedShape → List NamedShape → List NamedShape → Type 0
AllClear procedures lines [] = Unit {0}
AllClear procedures lines (call ∷ calls) = (reason_of procedures lines call ≡ None) × AllClear procedures lines calls

pub clear_both : (procedures lines xs ys : List NamedShape) → AllClear procedures lines (xs ++ ys) → AllClear procedures lines xs × AllClear procedures lines ys
unfolding AllClear
clear_both procedures lines [] ys clear = (tt, clear)
clear_both procedures lines (x ∷ xs) ys clear =
    let h = clear_both procedures lines xs ys clear.1 in ((clear.0, h.0), h.1)

-- what is known of names where calls are seen is what is known where they are typed
pub record IsSeen (known seen : Known) : Type 0 where
  pub classes : (x : Bytes) → (seen.attribute x).class ≡ (known.attribute x).class
  pub basics : (x : Bytes) → (seen.attribute x).basic ≡ (known.attribute x).basic
  pub judged : (e : Expr) → (judge known e).faults ≡ [] → actual_argument seen e ≡ argument_of_judged (judge known e)

-- a call that is not found to disagree agrees with the procedures of a set
abbrev pub EachClearAgrees : List ProgramUnit → List NamedShape → List NamedShape → Facts → Type 0
EachClearAgrees S procedures lines c = (x : Bytes) (result : ShapeResult) (want : Wanted) (js : List Judged) (sorts : List Sort) → IsWant result want →
    reason_of procedures lines (record { name = x; shape = record { result = result; arguments = map argument_of_judged js } }) ≡ None →
    AreSorts js sorts → Agrees S c (record { name = x; want = want }) sorts

-- what is known of the names of a unit, and of its statement functions: the calls in them agree
pub record NamesSuit (S : List ProgramUnit) (c : Facts) (n : ℕ) (env : List Sort) (known : Known) : Type 0 where
  pub functions : (x : Bytes) (basics : List Basic) (t : Term) → (known.attribute x).class ≡ class.StatementFunction → known.dummies x ≡ Some basics →
      (known.attribute x).expansion ≡ Some t → TermAgrees S c n (map ValueOf basics) t
  pub dummies : (x : Bytes) (t : Term) → (known.attribute x).class ≡ class.StatementFunction → known.is_bound x ≡ true →
      (known.attribute x).expansion ≡ Some t → TermAgrees S c n env t
  pub procedures : (x : Bytes) → (known.attribute x).class ≡ class.DummyProcedure → (c.program.attribute x).class ≡ class.DummyProcedure

arguments_seen : (known seen : Known) → IsSeen known seen → {m : _} (row : Row_of-Expr m) → all_faults (fold_exprs (layer_judged known) row) ≡ [] →
    map (actual_argument seen) (listed row) ≡ map argument_of_judged (fold_exprs (layer_judged known) row)
unfolding listed fold_exprs all_faults judge
arguments_seen known seen is end_of-Expr none = refl
arguments_seen known seen is (more_of-Expr e row) none =
    let f = none_of_both (fold_expr (layer_judged known) e).faults (all_faults (fold_exprs (layer_judged known) row)) none in
    ap (λ a. a ∷ map (actual_argument seen) (listed row)) (is.judged e f.0) ∙
    ap (λ as'. argument_of_judged (fold_expr (layer_judged known) e) ∷ as') (arguments_seen known seen is row f.1)

pub call_clear : (procedures lines : List NamedShape) (result : ShapeResult) (seen : Known) (x : Bytes) (es : List Expr) (b : Bool) → b ≡ true →
    AllClear procedures lines (if b then record { name = x; shape = record { result = result; arguments = map (actual_argument seen) es } } ∷ [] else []) →
    reason_of procedures lines (record { name = x; shape = record { result = result; arguments = map (actual_argument seen) es } }) ≡ None
unfolding AllClear
call_clear procedures lines result seen x es true is clear = clear.0
call_clear procedures lines result seen x es false is clear = absurd (cc)

module _ (S : List ProgramUnit) (procedures lines : List NamedShape) (c : Facts) (clear_agrees : EachClearAgrees S procedures lines c) (n : ℕ) (env : List Sort)
    (known seen : Known) (agrees : NamesAgree c n env known) (suit : NamesSuit S c n env known) (is_seen : IsSeen known seen) where
  -- NAMES ALONE
  bound_name : (x : Bytes) (a : Attribute) (b : Bool) (o : Option Term) → known.attribute x ≡ record a { class = class.StatementFunction } → known.is_bound x ≡ b →
      a.expansion ≡ o → ((bound_judged (record a { class = class.StatementFunction }) b).what ≡ AFunctionName → ⊥) →
      ReadAgrees S c n env (elim o [ Some t ↦ valued_only t | None ↦ valued_only (At x) ])
  unfolding bound_judged function_name TermAgrees
  bound_name x a false o is bound expands unlike = absurd (unlike refl)
  bound_name x a true None is bound expands unlike = valued_agrees S c n env (At x) tt
  bound_name x a true (Some t) is bound expands unlike =
      valued_agrees S c n env t (suit.dummies x t (ap (λ z. z.class) is) bound (ap (λ z. z.expansion) is ∙ expands))

  constant_name : (x : Bytes) (o : Option Datum) → ReadAgrees S c n env (elim o [
    | Some d ↦ record (valued_only (Val d)) { named = Some x }
    | None ↦ record (valued_only (At x)) { named = Some x }
  ])
  unfolding ReadAgrees valued_only TermAgrees TermsAgree terms
  constant_name x None = (tt, (tt, (tt, tt)))
  constant_name x (Some d) = (tt, (tt, (tt, tt)))

  name_by : (k : Class) (x : Bytes) (a : Attribute) → known.attribute x ≡ record a { class = k } →
      ((name_judged known x (record a { class = k })).what ≡ AFunctionName → ⊥) → ReadAgrees S c n env (name_read x (record a { class = k }))
  unfolding name_judged name_read function_name ReadAgrees valued_only placed TermAgrees TermsAgree terms
  name_by class.Constant x a is unlike = constant_name x a.constant
  name_by class.Procedure x a is unlike = (tt, (tt, (tt, tt)))
  name_by class.DummyProcedure x a is unlike = (tt, (tt, (tt, tt)))
  name_by class.Intrinsic x a is unlike = (tt, (tt, (tt, tt)))
  name_by class.StatementFunction x a is unlike = bound_name x a (known.is_bound x) a.expansion is refl refl unlike
  name_by class.Stored x a is unlike = (tt, (tt, (tt, tt)))
  name_by class.Dummy x a is unlike = (tt, (tt, (tt, tt)))
  name_by class.Result x a is unlike = (tt, (tt, (tt, tt)))
  name_by class.Unit x a is unlike = (tt, (tt, (tt, tt)))

  name_safe : (names : Bytes → Attribute) (x : Bytes) → IsReadAs known names x → Safe S c n env (name_judged known x (known.attribute x)) (name_read x (names x))
  name_safe names x (read_alike same) none unlike =
      subst (λ a. ReadAgrees S c n env (name_read x a)) (sym same) (name_by (known.attribute x).class x (known.attribute x) refl unlike)
  name_safe names x (never_read is) none unlike = absurd (unknown_name c n env known agrees (known.attribute x).class x (known.attribute x) is none)

  -- NAMES WITH A LIST
  function_suits : (x : Bytes) (basic : Basic) (width : Option ℕ) (rs : List Read) (js : List Judged) → EachRead S c n env rs →
      AllSorted c n env js (terms (map (λ r. r.actual) rs)) →
      ((sorts : List Sort) → AreSorts js sorts → Agrees S c (record { name = x; want = AsFunction basic (width_or_zero width) }) sorts) →
      ReadAgrees S c n env (valued_only (Refer (record { name = x; want = AsFunction basic (width_or_zero width) }) (terms (map (λ r. r.actual) rs))))
  unfolding TermAgrees
  function_suits x basic width rs js each sorted suits =
      valued_agrees S c n env (Refer (record { name = x; want = AsFunction basic (width_or_zero width) }) (terms (map (λ r. r.actual) rs)))
      (actuals_agree S c n env rs each, record { sorts = sorted.sorts; typed = sorted.typed; agrees = suits sorted.sorts sorted.sorted })

  -- a reference by a direct name is among the calls; one by a dummy procedure has no procedure of the set
  direct_agrees : (k : Class) (x : Bytes) (a : Attribute) (width : ℕ) {m : _} (row : Row_of-Expr m) (sorts : List Sort) → known.attribute x ≡ record a { class = k } →
      is_procedure_class k ≡ true → all_faults (fold_exprs (layer_judged known) row) ≡ [] →
      AllClear procedures lines (function_call seen x (listed row)) → AreSorts (fold_exprs (layer_judged known) row) sorts →
      Agrees S c (record { name = x; want = AsFunction a.basic width }) sorts
  unfolding function_call call_as
  direct_agrees k x a width row sorts is direct faultless clear sorted =
      let of_class : (seen.attribute x).class ≡ k = is_seen.classes x ∙ ap (λ z. z.class) is in
      let of_basic : (seen.attribute x).basic ≡ a.basic = is_seen.basics x ∙ ap (λ z. z.basic) is in
      clear_agrees x (FunctionShape a.basic) (AsFunction a.basic width) (fold_exprs (layer_judged known) row) sorts (a_reference a.basic width)
      (subst (λ b. reason_of procedures lines (record { name = x; shape = record { result = FunctionShape b; arguments = map argument_of_judged (fold_exprs (layer_judged known) row) } }) ≡ None) of_basic
      (subst (λ as'. reason_of procedures lines (record { name = x; shape = record { result = FunctionShape (seen.attribute x).basic; arguments = as' } }) ≡ None)
      (arguments_seen known seen is_seen row faultless)
      (call_clear procedures lines (FunctionShape (seen.attribute x).basic) seen x (listed row) (is_procedure_class (seen.attribute x).class)
      (ap is_procedure_class of_class ∙ direct) clear))) sorted

  module _ {m : _} (row : Row_of-Expr m) (rs : List Read) (safe : AllSafe S c n env rs (fold_exprs (layer_judged known) row))
      (related : AllRelated c n env known rs (fold_exprs (layer_judged known) row)) where
    abbrev js : List Judged
    js = fold_exprs (layer_judged known) row

    reference_safe : (x : Bytes) (a : Attribute) → ((width : ℕ) (sorts : List Sort) → all_faults js ≡ [] → AreSorts js sorts →
        Agrees S c (record { name = x; want = AsFunction a.basic width }) sorts) → (reference_judged a js).faults ≡ [] → ReadAgrees S c n env (function_read x a rs)
    unfolding reference_judged a_value function_read
    reference_safe x a suits none =
        let h : (all_faults js ≡ []) × (all_passed js ≡ []) = none_of_both (all_faults js) (all_passed js) none in
        let unlike : NoFunctions js = passed_no_functions js h.1 in
        function_suits x a.basic a.width rs js (all_passed_safe S c n env rs js safe h.0 unlike) (all_sorted c n env known rs js related h.0 unlike)
        (λ sorts sorted. suits (width_or_zero a.width) sorts h.0 sorted)

    element_safe : (x : Bytes) (a : Attribute) → (element_judged a js).faults ≡ [] →
        ReadAgrees S c n env (record (placed (Element x (terms (map (λ r. r.value) rs)))) { base = Some x })
    unfolding element_judged a_place TermAgrees
    element_safe x a none =
        let wanted : List Kind = all_wanted (replicate (length js) Integer) js in
        let last : List Kind = unless (nat_eq (length js) (length a.dimensions)) NumberOfSubscripts in
        let h : (all_faults js ≡ []) × ((wanted ++ last) ≡ []) = none_of_both (all_faults js) (wanted ++ last) none in
        let w : (wanted ≡ []) × (last ≡ []) = none_of_both wanted last h.1 in
        placed_agrees S c n env (Element x (terms (map (λ r. r.value) rs))) (Some x)
        (values_agree S c n env rs (all_wanted_safe S c n env (replicate (length js) Integer) rs js safe h.0 w.0))

    intrinsic_safe : (x : Bytes) (a : Attribute) (o : Option Function) → (intrinsic_judged o js).faults ≡ [] → ReadAgrees S c n env (intrinsic_read x a rs o)
    unfolding intrinsic_judged intrinsic_read a_value no_operand TermAgrees
    intrinsic_safe x a None none = absurd (cc)
    intrinsic_safe x a (Some f) none =
        let h : (all_faults js ≡ []) × (all_wanted (wanted_by f (length js)) js ≡ []) = none_of_both (all_faults js) (all_wanted (wanted_by f (length js)) js) none in
        valued_agrees S c n env (Intrinsically f (terms (operands_of f rs)))
        (operands_agree S c n env f rs (all_wanted_safe S c n env (wanted_by f (length js)) rs js safe h.0 h.1))

    expanded_safe : (x : Bytes) (a : Attribute) (o : Option Term) (basics : List Basic) (t : Term) → o ≡ Some t → TermAgrees S c n (map ValueOf basics) t →
        all_faults js ≡ [] → all_wanted basics js ≡ [] → ReadAgrees S c n env (expanded_read x a rs o)
    unfolding expanded_read TermAgrees
    expanded_safe x a None basics t is of faultless none = absurd (cc)
    expanded_safe x a (Some other) basics t is of faultless none =
        valued_agrees S c n env (Bind (terms (map (λ r. r.value) rs)) other) (
          values_agree S c n env rs (all_wanted_safe S c n env basics rs js safe faultless none),
          (
            map ValueOf basics,
            (
              wanted_all c n env known basics rs js related faultless none,
              subst (λ z. TermAgrees S c n (map ValueOf basics) z) (sym (same_some other t is)) of,
            ),
          ),
        )

    known_safe : (x : Bytes) (a : Attribute) (o : Option (List Basic)) → known.attribute x ≡ record a { class = class.StatementFunction } → known.dummies x ≡ o →
        (expanded_judged (record a { class = class.StatementFunction }) o js).faults ≡ [] →
        ReadAgrees S c n env (expanded_read x (record a { class = class.StatementFunction }) rs a.expansion)
    unfolding expanded_judged a_value no_operand
    known_safe x a None is dummies none = absurd (cc)
    known_safe x a (Some basics) is dummies none =
        let h : (all_faults js ≡ []) × (all_wanted basics js ≡ []) = none_of_both (all_faults js) (all_wanted basics js) none in
        let r : IsReplaced c n (map ValueOf basics) (record a { class = class.StatementFunction }) =
        subst (λ z. IsReplaced c n (map ValueOf basics) z) is (agrees.functions x basics (ap (λ z. z.class) is) dummies) in
        expanded_safe x (record a { class = class.StatementFunction }) a.expansion basics r.term r.term_is
        (suit.functions x basics r.term (ap (λ z. z.class) is) dummies (ap (λ z. z.expansion) is ∙ r.term_is)) h.0 h.1

    defined_safe : (x : Bytes) (a : Attribute) (b : Bool) → known.attribute x ≡ record a { class = class.StatementFunction } →
        (defined_judged known x (record a { class = class.StatementFunction }) b js).faults ≡ [] →
        ReadAgrees S c n env (expanded_read x (record a { class = class.StatementFunction }) rs a.expansion)
    unfolding defined_judged no_operand
    defined_safe x a true is none = absurd (cc)
    defined_safe x a false is none = known_safe x a (known.dummies x) is refl none

    applied_by : (k : Class) (x : Bytes) (a : Attribute) → known.attribute x ≡ record a { class = k } → AllClear procedures lines (function_call seen x (listed row)) →
        (applied_judged known x (record a { class = k }) js).faults ≡ [] → ReadAgrees S c n env (applied_read x (record a { class = k }) rs)
    unfolding applied_judged applied_read no_operand is_procedure_class
    applied_by class.Constant x a is clear none = absurd (cc)
    applied_by class.Unit x a is clear none = absurd (cc)
    applied_by class.Stored x a is clear none = element_safe x (record a { class = class.Stored }) none
    applied_by class.Dummy x a is clear none = element_safe x (record a { class = class.Dummy }) none
    applied_by class.Result x a is clear none =
        reference_safe x (record a { class = class.Result })
        (λ width sorts faultless sorted. direct_agrees class.Result x a width row sorts is refl faultless clear sorted) none
    applied_by class.Procedure x a is clear none =
        reference_safe x (record a { class = class.Procedure })
        (λ width sorts faultless sorted. direct_agrees class.Procedure x a width row sorts is refl faultless clear sorted) none
    applied_by class.DummyProcedure x a is clear none =
        reference_safe x (record a { class = class.DummyProcedure })
        (λ width sorts faultless sorted direct. absurd (direct (suit.procedures x (ap (λ z. z.class) is)))) none
    applied_by class.StatementFunction x a is clear none = defined_safe x a (known.is_bound x) is none
    applied_by class.Intrinsic x a is clear none = intrinsic_safe x (record a { class = class.Intrinsic }) (function_named x) none

    applied_safe : (names : Bytes → Attribute) (x : Bytes) → IsReadAs known names x → AllClear procedures lines (function_call seen x (listed row)) →
        (applied_judged known x (known.attribute x) js).faults ≡ [] → ReadAgrees S c n env (applied_read x (names x) rs)
    applied_safe names x (read_alike same) clear none =
        subst (λ a. ReadAgrees S c n env (applied_read x a rs)) (sym same) (applied_by (known.attribute x).class x (known.attribute x) refl clear none)
    applied_safe names x (never_read is) clear none =
        absurd (unknown_applied c n env known agrees (known.attribute x).class x (known.attribute x) js is none)

  -- THE WHOLE EXPRESSION
  module _ (names : Bytes → Attribute) (reads : (x : Bytes) → IsReadAs known names x) where
    one_faultless : (basic : Basic) (j : Judged) → (j.faults ++ wants basic j) ≡ [] → (j.faults ≡ []) × (wants basic j ≡ [])
    one_faultless basic j none = none_of_both j.faults (wants basic j) none

    paren_agrees : (j : Judged) (r : Read) → Safe S c n env j r → (j.faults ++ wants_one j.what) ≡ [] → ReadAgrees S c n env (record (valued_only r.value) { pieces = r.pieces })
    unfolding ReadAgrees valued_only
    paren_agrees j r safe none =
        let f : (j.faults ≡ []) × (wants_one j.what ≡ []) = none_of_both j.faults (wants_one j.what) none in
        let whole : ReadAgrees S c n env r = one_safe S c n env j r safe f.0 f.1 in
        (value_of_read S c n env r whole, (value_of_read S c n env r whole, pieces_of S c n env r whole))

    mutual
      unfolding fold_expr fold_exprs fold_held layer_judged layer_read calls_within calls_in_row calls_in_held a_value no_operand TermAgrees AllSafe HeldSafe

      pub tree_safe : (e : Expr) → AllClear procedures lines (calls_within (function_call seen) e) →
          Safe S c n env (fold_expr (layer_judged known) e) (fold_expr (layer_read names) e)
      tree_safe (Int z) clear none unlike = valued_agrees S c n env (Val (IsInt z)) tt
      tree_safe (TruthValue b) clear none unlike = valued_agrees S c n env (Val (IsLog b)) tt
      tree_safe (Text cs) clear none unlike = valued_agrees S c n env (Val (IsText cs)) tt
      tree_safe (Name x) clear none unlike = name_safe names x (reads x) none unlike
      tree_safe (Apply' x s row) clear none unlike =
          let h = clear_both procedures lines (function_call seen x (listed row)) (calls_in_row (function_call seen) row) clear in
          applied_safe row (fold_exprs (layer_read names) row) (row_safe row h.1) (row_fits c n env known agrees names reads row) names x (reads x) h.0 none
      tree_safe (Part' s (more_of-Expr e r) from to) clear none unlike =
          let h = clear_both procedures lines (calls_within (function_call seen) e) (calls_in_held (function_call seen) from ++ calls_in_held (function_call seen) to) clear in
          let k = clear_both procedures lines (calls_in_held (function_call seen) from) (calls_in_held (function_call seen) to) h.1 in
          part_safe S c n env (fold_expr (layer_judged known) e) (fold_expr (layer_read names) e) (fold_held (layer_read names) from) (fold_held (layer_read names) to)
          (fold_held (layer_judged known) from) (fold_held (layer_judged known) to) (tree_safe e h.0) (held_safe from k.0) (held_safe to k.1) none
      tree_safe (Minus' s (more_of-Expr e r)) clear none unlike =
          let f = one_faultless Integer (fold_expr (layer_judged known) e) none in
          valued_agrees S c n env (Before Negate (fold_expr (layer_read names) e).value)
          (value_of_read S c n env (fold_expr (layer_read names) e)
          (wanted_safe S c n env Integer (fold_expr (layer_judged known) e) (fold_expr (layer_read names) e) (tree_safe e clear) f.0 f.1))
      tree_safe (Plus' s (more_of-Expr e r)) clear none unlike =
          let f = one_faultless Integer (fold_expr (layer_judged known) e) none in
          valued_agrees S c n env (fold_expr (layer_read names) e).value
          (value_of_read S c n env (fold_expr (layer_read names) e)
          (wanted_safe S c n env Integer (fold_expr (layer_judged known) e) (fold_expr (layer_read names) e) (tree_safe e clear) f.0 f.1))
      tree_safe (Not' s (more_of-Expr e r)) clear none unlike =
          let f = one_faultless Logical (fold_expr (layer_judged known) e) none in
          valued_agrees S c n env (Before Complement (fold_expr (layer_read names) e).value)
          (value_of_read S c n env (fold_expr (layer_read names) e)
          (wanted_safe S c n env Logical (fold_expr (layer_judged known) e) (fold_expr (layer_read names) e) (tree_safe e clear) f.0 f.1))
      tree_safe (Paren' s (more_of-Expr e r)) clear none unlike =
          paren_agrees (fold_expr (layer_judged known) e) (fold_expr (layer_read names) e) (tree_safe e clear) none
      tree_safe (Binary' op s (more_of-Expr a r) t (more_of-Expr b q)) clear none unlike =
          let h = clear_both procedures lines (calls_within (function_call seen) a) (calls_within (function_call seen) b) clear in
          binary_safe S c n env op (fold_expr (layer_judged known) a) (fold_expr (layer_judged known) b) (fold_expr (layer_read names) a) (fold_expr (layer_read names) b)
          (tree_safe a h.0) (tree_safe b h.1) none
      tree_safe (AltReturn l) clear none unlike = valued_agrees S c n env (Val (IsLabel l)) tt
      tree_safe (Bind' s row t (more_of-Expr e q)) clear none unlike = absurd (cc)
      tree_safe (BoundValue k) clear none unlike = absurd (cc)

      pub row_safe : {m : _} (row : Row_of-Expr m) → AllClear procedures lines (calls_in_row (function_call seen) row) →
          AllSafe S c n env (fold_exprs (layer_read names) row) (fold_exprs (layer_judged known) row)
      row_safe end_of-Expr clear = tt
      row_safe (more_of-Expr e row) clear =
          let h = clear_both procedures lines (calls_within (function_call seen) e) (calls_in_row (function_call seen) row) clear in
          (tree_safe e h.0, row_safe row h.1)

      pub held_safe : (h : Held-Expr-Part-1) → AllClear procedures lines (calls_in_held (function_call seen) h) →
          HeldSafe S c n env (fold_held (layer_read names) h) (fold_held (layer_judged known) h)
      held_safe None' clear = tt
      held_safe (Some' p (more_of-Expr e r)) clear = tree_safe e clear

    pub expression_safe : (e : Expr) → AllClear procedures lines (calls_within (function_call seen) e) → Safe S c n env (judge known e) (read names e)
    unfolding judge read
    expression_safe e clear = tree_safe e clear
