-- What is read of operands whose calls agree: their calls agree as values, as actual arguments and by their pieces.
use Rattle.std.specs.Prelude.{◌≡◌, ℕ, pos, List, [], ◌∷◌, ◌++◌, map, Option, Some, None}
use Rattle.std.proofs.Common.{refl}
use Rattle.call_shapes.specs.f_tree.declared.names.Basic.{Basic}
use Rattle.call_shapes.specs.f_tree.declared.names.Basic.TheVariants.{Integer, Logical, Character}
use Rattle.call_shapes.specs.f_tree.declared.refusals.Kind.{Kind}
use Rattle.call_shapes.specs.f_tree.declared.refusals.Kind.TheVariants.{OperandTypes}
use Rattle.call_shapes.specs.f_tree.declared.expressions.BinaryOp.{BinaryOp}
use Rattle.call_shapes.specs.f_tree.declared.expressions.BinaryOp.TheVariants as op
use Rattle.call_shapes.specs.f_tree.Values.{Bytes, Datum, IsInt, Nothing}
use Rattle.call_shapes.specs.f_tree.Terms.{Function, TextLength, Term, Part, Terms, terms}
use Rattle.call_shapes.specs.f_tree.Facts.{ProgramUnit, Facts}
use Rattle.call_shapes.specs.f_tree.Association.{same_basic}
use Rattle.call_shapes.specs.f_tree.Reading.{Read, valued_only, placed, pieces_asked, operands_of, end_read, name_or_none, joined_read, binary_read}
use Rattle.call_shapes.specs.f_tree.WellTyped as typed
use Rattle.call_shapes.specs.f_tree.WellTyped.{Sort, ValueOf, PlaceOf, AProcedure, ALabel, Typed, AreTyped}
use Rattle.call_shapes.specs.declaration_rows.Judgement.{What, AValue, APlace, AnArray, AProcedureName, AFunctionName, AnExit, NoOperand, Judged, Known, a_value, a_place, wants_one, unless, wants, are_comparable, passed, all_faults, all_passed, all_wanted, wants_place, end_faults, part_judged, both_wanted, compared, binary_judged}
use Rattle.call_shapes.specs.declaration_rows.Fits.{FitsAs, Fits}
use Rattle.agreeing_runs.specs.AgreeingForms.{TermAgrees, TermsAgree}
use Rattle.declaration_laws.proofs.ExpressionFits.{none_of_both, Related, AllRelated, none_related, one_related}
use Rattle.agreeing_calls.proofs.AgreementLemmas.{IsSort, AreSorts}

-- an expression by its value, as an actual argument and by its pieces
unfoldable pub ReadAgrees : List ProgramUnit → Facts → ℕ → List Sort → Read → Type 0
ReadAgrees S c n env r = TermAgrees S c n env r.value × (TermAgrees S c n env r.actual × TermsAgree S c n env (terms r.pieces))

unfoldable pub EachRead : List ProgramUnit → Facts → ℕ → List Sort → List Read → Type 0
EachRead S c n env [] = Unit {0}
EachRead S c n env (r ∷ rs) = ReadAgrees S c n env r × EachRead S c n env rs

-- an operand that breaks no row, unless it is a function's name alone
abbrev pub Safe : List ProgramUnit → Facts → ℕ → List Sort → Judged → Read → Type 0
Safe S c n env j r = j.faults ≡ [] → (j.what ≡ AFunctionName → ⊥) → ReadAgrees S c n env r

unfoldable pub AllSafe : List ProgramUnit → Facts → ℕ → List Sort → List Read → List Judged → Type 0
AllSafe S c n env [] [] = Unit {0}
AllSafe S c n env (r ∷ rs) (j ∷ js) = Safe S c n env j r × AllSafe S c n env rs js
AllSafe S c n env _ _ = ⊥

unfoldable pub HeldSafe : List ProgramUnit → Facts → ℕ → List Sort → Option Read → Option Judged → Type 0
HeldSafe S c n env None None = Unit {0}
HeldSafe S c n env (Some r) (Some j) = Safe S c n env j r
HeldSafe S c n env _ _ = ⊥

pub wants_no_function : (w : What) → wants_one w ≡ [] → w ≡ AFunctionName → ⊥
unfolding wants_one
wants_no_function AFunctionName none is = absurd (cc)
wants_no_function AValue none is = absurd (cc)
wants_no_function APlace none is = absurd (cc)
wants_no_function (AnArray sized) none is = absurd (cc)
wants_no_function AProcedureName none is = absurd (cc)
wants_no_function (AnExit label) none is = absurd (cc)
wants_no_function NoOperand none is = absurd (cc)

pub place_no_function : (w : What) → wants_place w ≡ [] → w ≡ AFunctionName → ⊥
unfolding wants_place
place_no_function AFunctionName none is = absurd (cc)
place_no_function AValue none is = absurd (cc)
place_no_function APlace none is = absurd (cc)
place_no_function (AnArray sized) none is = absurd (cc)
place_no_function AProcedureName none is = absurd (cc)
place_no_function (AnExit label) none is = absurd (cc)
place_no_function NoOperand none is = absurd (cc)

pub passed_no_function : (w : What) → passed w ≡ [] → w ≡ AFunctionName → ⊥
unfolding passed
passed_no_function AFunctionName none is = absurd (cc)
passed_no_function AValue none is = absurd (cc)
passed_no_function APlace none is = absurd (cc)
passed_no_function (AnArray sized) none is = absurd (cc)
passed_no_function AProcedureName none is = absurd (cc)
passed_no_function (AnExit label) none is = absurd (cc)
passed_no_function NoOperand none is = absurd (cc)

-- each actual argument is no function's name alone
unfoldable pub NoFunctions : List Judged → Type 0
NoFunctions [] = Unit {0}
NoFunctions (j ∷ js) = (j.what ≡ AFunctionName → ⊥) × NoFunctions js

pub passed_no_functions : (js : List Judged) → all_passed js ≡ [] → NoFunctions js
unfolding all_passed NoFunctions
passed_no_functions [] none = tt
passed_no_functions (j ∷ js) none =
    let w : (passed j.what ≡ []) × (all_passed js ≡ []) = none_of_both (passed j.what) (all_passed js) none in
    (passed_no_function j.what w.0, passed_no_functions js w.1)

module _ (S : List ProgramUnit) (c : Facts) (n : ℕ) (env : List Sort) where
  pub valued_agrees : (t : Term) → TermAgrees S c n env t → ReadAgrees S c n env (valued_only t)
  unfolding ReadAgrees valued_only TermsAgree terms
  valued_agrees t agrees = (agrees, (agrees, (agrees, tt)))

  pub placed_agrees : (t : Term) (base : Option Bytes) → TermAgrees S c n env t → ReadAgrees S c n env (record (placed t) { base = base })
  unfolding ReadAgrees placed TermsAgree TermAgrees terms
  placed_agrees t base agrees = (agrees, (agrees, (agrees, tt)))

  pub both_agree : (ts us : List Term) → TermsAgree S c n env (terms ts) → TermsAgree S c n env (terms us) → TermsAgree S c n env (terms (ts ++ us))
  unfolding TermsAgree terms
  both_agree [] us one other = other
  both_agree (t ∷ ts) us one other = (one.0, both_agree ts us one.1 other)

  pub values_agree : (rs : List Read) → EachRead S c n env rs → TermsAgree S c n env (terms (map (λ r. r.value) rs))
  unfolding TermsAgree EachRead ReadAgrees terms
  values_agree [] each = tt
  values_agree (r ∷ rs) each = (each.0.0, values_agree rs each.1)

  pub actuals_agree : (rs : List Read) → EachRead S c n env rs → TermsAgree S c n env (terms (map (λ r. r.actual) rs))
  unfolding TermsAgree EachRead ReadAgrees terms
  actuals_agree [] each = tt
  actuals_agree (r ∷ rs) each = (each.0.1.0, actuals_agree rs each.1)

  pub pieces_agree : (rs : List Read) → EachRead S c n env rs → TermsAgree S c n env (terms (pieces_asked rs))
  unfolding TermsAgree EachRead ReadAgrees pieces_asked terms
  pieces_agree [] each = tt
  pieces_agree (r ∷ []) each = each.0.1.1
  pieces_agree (r ∷ q ∷ rs) each = tt

  pub operands_agree : (f : Function) (rs : List Read) → EachRead S c n env rs → TermsAgree S c n env (terms (operands_of f rs))
  unfolding operands_of
  operands_agree TextLength rs each = pieces_agree rs each
  operands_agree _ rs each = values_agree rs each

  -- WHAT IS WANTED
  pub one_safe : (j : Judged) (r : Read) → Safe S c n env j r → j.faults ≡ [] → wants_one j.what ≡ [] → ReadAgrees S c n env r
  one_safe j r safe faultless none = safe faultless (wants_no_function j.what none)

  pub wanted_safe : (basic : Basic) (j : Judged) (r : Read) → Safe S c n env j r → j.faults ≡ [] → wants basic j ≡ [] → ReadAgrees S c n env r
  unfolding wants
  wanted_safe basic j r safe faultless none =
      one_safe j r safe faultless (none_of_both (wants_one j.what) (unless (same_basic j.basic basic) OperandTypes) none).0

  pub all_wanted_safe : (basics : List Basic) (rs : List Read) (js : List Judged) → AllSafe S c n env rs js → all_faults js ≡ [] → all_wanted basics js ≡ [] →
      EachRead S c n env rs
  unfolding AllSafe EachRead all_faults all_wanted
  all_wanted_safe basics [] [] all faultless none = tt
  all_wanted_safe basics [] (j ∷ js) all faultless none = absurd all
  all_wanted_safe basics (r ∷ rs) [] all faultless none = absurd all
  all_wanted_safe [] (r ∷ rs) (j ∷ js) all faultless none = absurd (cc)
  all_wanted_safe (basic ∷ basics) (r ∷ rs) (j ∷ js) all faultless none =
      let f : (j.faults ≡ []) × (all_faults js ≡ []) = none_of_both j.faults (all_faults js) faultless in
      let w : (wants basic j ≡ []) × (all_wanted basics js ≡ []) = none_of_both (wants basic j) (all_wanted basics js) none in
      (wanted_safe basic j r all.0 f.0 w.0, all_wanted_safe basics rs js all.1 f.1 w.1)

  pub all_passed_safe : (rs : List Read) (js : List Judged) → AllSafe S c n env rs js → all_faults js ≡ [] → NoFunctions js → EachRead S c n env rs
  unfolding AllSafe EachRead all_faults NoFunctions
  all_passed_safe [] [] all faultless none = tt
  all_passed_safe [] (j ∷ js) all faultless none = absurd all
  all_passed_safe (r ∷ rs) [] all faultless none = absurd all
  all_passed_safe (r ∷ rs) (j ∷ js) all faultless none =
      let f : (j.faults ≡ []) × (all_faults js ≡ []) = none_of_both j.faults (all_faults js) faultless in
      (all.0 f.0 none.0, all_passed_safe rs js all.1 f.1 none.1)

  pub actual_of : (r : Read) → ReadAgrees S c n env r → TermAgrees S c n env r.actual
  unfolding ReadAgrees
  actual_of r agrees = agrees.1.0

  pub pieces_of : (r : Read) → ReadAgrees S c n env r → TermsAgree S c n env (terms r.pieces)
  unfolding ReadAgrees
  pieces_of r agrees = agrees.1.1

  -- OPERATORS
  pub end_safe : (o : Option Read) (p : Option Judged) (d : Datum) → HeldSafe S c n env o p → end_faults p ≡ [] → TermAgrees S c n env (end_read o d)
  unfolding HeldSafe end_faults end_read TermAgrees ReadAgrees
  end_safe None None d safe none = tt
  end_safe None (Some j) d safe none = absurd safe
  end_safe (Some r) None d safe none = absurd safe
  end_safe (Some r) (Some j) d safe none =
      let f : (j.faults ≡ []) × (wants Integer j ≡ []) = none_of_both j.faults (wants Integer j) none in (wanted_safe Integer j r safe f.0 f.1).0

  pub part_safe : (j : Judged) (r : Read) (from to : Option Read) (p q : Option Judged) → Safe S c n env j r → HeldSafe S c n env from p → HeldSafe S c n env to q →
      (part_judged j p q).faults ≡ [] →
      ReadAgrees S c n env (record (placed (Part (name_or_none r.base) r.actual (end_read from (IsInt (pos 1))) (end_read to Nothing))) { base = r.base })
  unfolding part_judged a_place TermAgrees
  part_safe j r from to p q safe one other none =
      let ends : List Kind = end_faults p ++ end_faults q in
      let kinds : List Kind = unless (same_basic j.basic Character) OperandTypes in
      let f : (j.faults ≡ []) × ((wants_place j.what ++ (kinds ++ ends)) ≡ []) = none_of_both j.faults (wants_place j.what ++ (kinds ++ ends)) none in
      let w : (wants_place j.what ≡ []) × ((kinds ++ ends) ≡ []) = none_of_both (wants_place j.what) (kinds ++ ends) f.1 in
      let e : (end_faults p ≡ []) × (end_faults q ≡ []) = none_of_both (end_faults p) (end_faults q) (none_of_both kinds ends w.1).1 in
      let whole : ReadAgrees S c n env r = safe f.0 (place_no_function j.what w.0) in
      placed_agrees (Part (name_or_none r.base) r.actual (end_read from (IsInt (pos 1))) (end_read to Nothing)) r.base
      (actual_of r whole, (end_safe from p (IsInt (pos 1)) one e.0, end_safe to q Nothing other e.1))

  pub value_of_read : (r : Read) → ReadAgrees S c n env r → TermAgrees S c n env r.value
  unfolding ReadAgrees
  value_of_read r agrees = agrees.0

  pub both_safe : (basic result : Basic) (i j : Judged) (a b : Read) → Safe S c n env i a → Safe S c n env j b → (both_wanted basic result i j).faults ≡ [] →
      ReadAgrees S c n env a × ReadAgrees S c n env b
  unfolding both_wanted a_value
  both_safe basic result i j a b one other none =
      let h : (i.faults ≡ []) × ((wants basic i ++ (j.faults ++ wants basic j)) ≡ []) = none_of_both i.faults (wants basic i ++ (j.faults ++ wants basic j)) none in
      let k : (wants basic i ≡ []) × ((j.faults ++ wants basic j) ≡ []) = none_of_both (wants basic i) (j.faults ++ wants basic j) h.1 in
      let l : (j.faults ≡ []) × (wants basic j ≡ []) = none_of_both j.faults (wants basic j) k.1 in
      (wanted_safe basic i a one h.0 k.0, wanted_safe basic j b other l.0 l.1)

  pub compared_safe : (i j : Judged) (a b : Read) → Safe S c n env i a → Safe S c n env j b → (compared i j).faults ≡ [] →
      ReadAgrees S c n env a × ReadAgrees S c n env b
  unfolding compared a_value
  compared_safe i j a b one other none =
      let last : List Kind = unless (are_comparable i.basic j.basic) OperandTypes in
      let h : (i.faults ≡ []) × ((wants_one i.what ++ (j.faults ++ (wants_one j.what ++ last))) ≡ []) =
      none_of_both i.faults (wants_one i.what ++ (j.faults ++ (wants_one j.what ++ last))) none in
      let k : (wants_one i.what ≡ []) × ((j.faults ++ (wants_one j.what ++ last)) ≡ []) =
      none_of_both (wants_one i.what) (j.faults ++ (wants_one j.what ++ last)) h.1 in
      let l : (j.faults ≡ []) × ((wants_one j.what ++ last) ≡ []) = none_of_both j.faults (wants_one j.what ++ last) k.1 in
      (one_safe i a one h.0 k.0, one_safe j b other l.0 (none_of_both (wants_one j.what) last l.1).0)

  joined_agrees : (ts : List Term) → TermsAgree S c n env (terms ts) → ReadAgrees S c n env (joined_read ts)
  unfolding ReadAgrees joined_read TermAgrees
  joined_agrees ts agrees = (agrees, (agrees, agrees))

  between : (a b : Read) → ReadAgrees S c n env a × ReadAgrees S c n env b → TermAgrees S c n env a.value × TermAgrees S c n env b.value
  unfolding ReadAgrees
  between a b both = (both.0.0, both.1.0)

  pub binary_safe : (o : BinaryOp) (i j : Judged) (a b : Read) → Safe S c n env i a → Safe S c n env j b → (binary_judged o i j).faults ≡ [] →
      ReadAgrees S c n env (binary_read o a b)
  unfolding binary_judged binary_read TermAgrees TermsAgree
  binary_safe op.Power i j a b one other none =
      let v = between a b (both_safe Integer Integer i j a b one other none) in valued_agrees _ (v.0, (v.1, tt))
  binary_safe op.Times i j a b one other none = valued_agrees _ (between a b (both_safe Integer Integer i j a b one other none))
  binary_safe op.Divide i j a b one other none = valued_agrees _ (between a b (both_safe Integer Integer i j a b one other none))
  binary_safe op.Plus i j a b one other none = valued_agrees _ (between a b (both_safe Integer Integer i j a b one other none))
  binary_safe op.Minus i j a b one other none = valued_agrees _ (between a b (both_safe Integer Integer i j a b one other none))
  binary_safe op.Concatenate i j a b one other none =
      let v = both_safe Character Character i j a b one other none in joined_agrees (a.pieces ++ b.pieces) (both_agree a.pieces b.pieces (pieces_of a v.0) (pieces_of b v.1))
  binary_safe op.Less i j a b one other none = valued_agrees _ (between a b (compared_safe i j a b one other none))
  binary_safe op.LessOrEqual i j a b one other none = valued_agrees _ (between a b (compared_safe i j a b one other none))
  binary_safe op.Equal i j a b one other none = valued_agrees _ (between a b (compared_safe i j a b one other none))
  binary_safe op.NotEqual i j a b one other none = valued_agrees _ (between a b (compared_safe i j a b one other none))
  binary_safe op.Greater i j a b one other none = valued_agrees _ (between a b (compared_safe i j a b one other none))
  binary_safe op.GreaterOrEqual i j a b one other none = valued_agrees _ (between a b (compared_safe i j a b one other none))
  binary_safe op.And i j a b one other none = valued_agrees _ (between a b (both_safe Logical Logical i j a b one other none))
  binary_safe op.Or i j a b one other none = valued_agrees _ (between a b (both_safe Logical Logical i j a b one other none))
  binary_safe op.Equivalent i j a b one other none = valued_agrees _ (between a b (both_safe Logical Logical i j a b one other none))
  binary_safe op.NotEquivalent i j a b one other none = valued_agrees _ (between a b (both_safe Logical Logical i j a b one other none))

-- ACTUAL ARGUMENTS with their sorts
pub record IsSorted (c : Facts) (n : ℕ) (env : List Sort) (w : What) (basic : Basic) (t : Term) : Type 0 where
  pub sort : Sort
  pub typed : Typed c n env t sort
  pub sorted : IsSort w basic sort

pub record AllSorted (c : Facts) (n : ℕ) (env : List Sort) (js : List Judged) (ts : Terms) : Type 0 where
  pub sorts : List Sort
  pub typed : AreTyped c n env ts sorts
  pub sorted : AreSorts js sorts

module _ (c : Facts) (n : ℕ) (env : List Sort) (known : Known) where
  pub sorted_as : (w : What) (basic : Basic) (r : Read) → FitsAs c n env known w basic r → (w ≡ AFunctionName → ⊥) → IsSorted c n env w basic r.actual
  unfolding FitsAs IsSort
  sorted_as AValue basic r fits unlike = record { sort = ValueOf basic; typed = fits.passes; sorted = refl }
  sorted_as APlace basic r fits unlike = record { sort = PlaceOf basic; typed = fits.passes; sorted = (refl, fits.has_values) }
  sorted_as (AnArray sized) basic r fits unlike = record { sort = PlaceOf basic; typed = fits.passes; sorted = (refl, fits.has_values) }
  sorted_as AProcedureName basic r fits unlike = record { sort = AProcedure; typed = fits; sorted = refl }
  sorted_as AFunctionName basic r fits unlike = absurd (unlike refl)
  sorted_as (AnExit label) basic r fits unlike = record { sort = ALabel label; typed = fits; sorted = refl }
  sorted_as NoOperand basic r fits unlike = absurd fits

  sorted_of : (j : Judged) (r : Read) → Related c n env known j r → j.faults ≡ [] → (j.what ≡ AFunctionName → ⊥) → IsSorted c n env j.what j.basic r.actual
  unfolding Fits
  sorted_of j r related faultless unlike = sorted_as j.what j.basic r (related faultless) unlike

  pub all_sorted : (rs : List Read) (js : List Judged) → AllRelated c n env known rs js → all_faults js ≡ [] → NoFunctions js →
      AllSorted c n env js (terms (map (λ r. r.actual) rs))
  unfolding all_faults NoFunctions AreSorts terms
  all_sorted rs js none_related faultless none = record { sorts = []; typed = typed.no_terms env; sorted = tt }
  all_sorted rs js (one_related r more j others one all) faultless none =
      let f : (j.faults ≡ []) × (all_faults others ≡ []) = none_of_both j.faults (all_faults others) faultless in
      let first : IsSorted c n env j.what j.basic r.actual = sorted_of j r one f.0 none.0 in
      let rest : AllSorted c n env others (terms (map (λ r. r.actual) more)) = all_sorted more others all f.1 none.1 in
      record {
        sorts = first.sort ∷ rest.sorts;
        typed = typed.more_terms env r.actual (terms (map (λ r. r.actual) more)) first.sort rest.sorts first.typed rest.typed;
        sorted = (first.sorted, rest.sorted);
      }
