-- The constants, the procedures and the functions of units that are lowered, one after the other.
use Rattle.std.specs.Borrow.{Bor}
use Rattle.std.specs.Global.{Vec}
use Rattle.std.specs.Prelude.{◌≡◌, ℕ, zero, suc, ◌+◌, ◌<◌, ◌≤◌, ℤ, List, [], ◌∷◌, ◌++◌, map, fold, flat_map, length, drop, Option, Some, None, option_map, Result, Ok, Err}
use Rattle.std.proofs.Common.{refl, sym, ap, subst, ◌∙◌, arith, get_or}
use Rattle.std.proofs.lemmas.List.{drop_all, append-nil, append_assoc}
use Rattle.std.proofs.lemmas.Grind.{fold-append}
use Rattle.f_tree.specs.declared.refusals.Fail.{Fail}
use Rattle.f_tree.specs.declared.refusals.Fail.TheVariants as fail
use Rattle.f_tree.specs.declared.refusals.Refusal.{Refusal}
use Rattle.f_tree.specs.Values.{Bytes}
use Rattle.declaration_rows.specs.Verdicts.{first_of}
use Rattle.refusal_order.specs.Earliest.{earliest}
use Rattle.refusal_order.proofs.FirstOfBoth.{earliest_along, earliest_none}
use Rattle.c_tree.specs.declared.statement.CStmt.{CStmt}
use Rattle.c_tree.specs.declared.file.CFunction.{CFunction}
use Rattle.unit_forms.specs.main_translation.Contents.{with_new}
use Rattle.unit_contents.specs.ContentsOf.{TellsNames, AreContentsOf, AreMoreConstants}
use Rattle.unit_translation.specs.unit_file.UnitFile.{WrittenUnit, unit_function}
use Rattle.unit_translation.specs.UnitContents.{LoweredUnit, whole_text, values_from, constants_passed, inventory_of}
use Rattle.unit_translation.specs.UnitBodies.{written_before}
use Rattle.unit_writer.specs.named_units.NamedUnits.{named_body_of, named_from}
use Rattle.unit_writer.specs.declared.heading.Procedure.{Procedure}
use Rattle.unit_writer.specs.ToldUnits.{TellsProcedures, IsWrittenUnit}
use Rattle.translated_files.specs.TranslatedFiles.{form_row, row_unless, rows_of_bodies}
use Rattle.translator.specs.declared.unit.PlainUnit.{PlainUnit}
use Rattle.translator.specs.UnitFiles.{IsToldAs}
use Rattle.translator.specs.LoweredFiles.{AreTold, none_told, more_told, EachIsKnown, units_given, IsAnswer, IsFunctionOf, AddsFunction, functions_for, list_of, AreFunctionsOf}
use Rattle.translator.proofs.NameLemmas.{rest_is}
use Rattle.translator.proofs.FileLemmas.{some_along}

-- ## The unit at a place

pub record ToldAt (us : List LoweredUnit) (i : ℕ) (plain : PlainUnit) : Type 0 where
  pub one : LoweredUnit
  pub told : IsToldAs one plain
  pub rest : drop i us ≡ one ∷ drop (i + 1) us

cut : {A : Type 0} (x : A) (xs : List A) (n : ℕ) (m : ℕ) → m ≡ suc n → drop m (x ∷ xs) ≡ drop n xs
cut x xs n m is = ap (λ k. drop k (x ∷ xs)) is

pub told_at : (us : List LoweredUnit) (plains : List PlainUnit) (i : ℕ) (plain d : PlainUnit) → AreTold us plains → i < length plains → plain ≡ get_or plains i d → ToldAt us i plain
told_at _ _ i plain d none_told h is = absurd (omega (arith, h))
told_at _ _ zero plain d (more_told u first us plains one later) h is =
    record { one = u; told = subst (IsToldAs u) (sym is) one; rest = refl }
told_at _ _ (suc i) plain d (more_told u first us plains one later) h is =
    let at : ToldAt us i plain = told_at us plains i plain d later (let small : i < length plains = omega (arith, h) in small) is in
    record { one = at.one; told = at.told; rest = at.rest ∙ ap (λ vs. at.one ∷ vs) (sym (cut u us (i + 1) (suc i + 1) (let e : suc i + 1 ≡ suc (i + 1) = omega arith in e))) }

-- as many on either side
pub as_long : (us : List LoweredUnit) (plains : List PlainUnit) → AreTold us plains → length us ≡ length plains
as_long _ _ none_told = refl
as_long _ _ (more_told u plain us plains one later) = ap suc (as_long us plains later)

-- ## What the names of a unit are

names_told : (u : LoweredUnit) (plain : PlainUnit) → IsToldAs u plain → TellsNames plain.table u.text.facts
names_told u plain told = record {
  basic = λ x. ap (λ p. (p.attribute x).basic) told.program ∙ sym (told.told.facts x).basic;
  class = λ x. ap (λ p. (p.attribute x).class) told.program ∙ sym (told.told.facts x).class;
}

pub contents_known : (plains : List PlainUnit) (i : ℕ) (plain d : PlainUnit) → EachIsKnown plains → i < length plains → plain ≡ get_or plains i d → AreContentsOf plain.table plain.text plain.contents
contents_known plains i plain d known h is = (told_at known.units plains i plain d known.told h is).told.contents

-- ## Constants

abbrev pub values_passed_by : List LoweredUnit → List ℤ
values_passed_by us = flat_map (λ (u : LoweredUnit). values_from (whole_text u) 0 (whole_text u).steps) us

pub more_constants : (us : List LoweredUnit) (plains : List PlainUnit) (i : ℕ) (plain d : PlainUnit) (before after all : List ℤ) → AreTold us plains → i < length plains → plain ≡ get_or plains i d
    → AreMoreConstants plain.table plain.text before after → all ≡ fold with_new before (values_passed_by (drop i us)) → all ≡ fold with_new after (values_passed_by (drop (i + 1) us))
more_constants us plains i plain d before after all told h is more so_far =
    let at : ToldAt us i plain = told_at us plains i plain d told h is in
    so_far ∙ ap (λ vs. fold with_new before (values_passed_by vs)) at.rest
    ∙ fold-append with_new before (values_from (whole_text at.one) 0 (whole_text at.one).steps) (values_passed_by (drop (i + 1) us))
    ∙ ap (λ zs. fold with_new zs (values_passed_by (drop (i + 1) us))) (sym (more.meant (whole_text at.one) at.told.text (names_told at.one plain at.told)))

pub no_constants_yet : (us : List LoweredUnit) (keys : List ℤ) → keys ≡ [] → constants_passed us ≡ fold with_new keys (values_passed_by us)
unfolding constants_passed
no_constants_yet us keys none = ap (λ ks. fold with_new ks (values_passed_by us)) (sym none)

pub all_constants : (us : List LoweredUnit) (plains : List PlainUnit) (i : ℕ) (keys : List ℤ) → AreTold us plains → length plains ≤ i
    → constants_passed us ≡ fold with_new keys (values_passed_by (drop i us)) → keys ≡ constants_passed us
all_constants us plains i keys told h so_far =
    sym (so_far ∙ ap (λ vs. fold with_new keys (values_passed_by vs)) (drop_all i us (let same : length us ≡ length plains = as_long us plains told in omega (arith, same, h))))

-- ## Functions

-- what is written for a unit is its function
pub is_function : (plain : PlainUnit) (procedures : Bytes → Option Procedure) (constants : List ℤ) (function : Option CFunction)
    → IsWrittenUnit plain.table (map (λ name. name.now) plain.names.items) plain.heading procedures constants plain.text plain.contents function → IsFunctionOf plain procedures constants function
is_function plain procedures constants function written = record {
  meant = λ all u told tells. written.meant all u told.program told.told tells told.text (told.contents.meant (whole_text u) told.text (names_told u plain told));
}

abbrev made_of : List LoweredUnit → LoweredUnit → List CStmt → CFunction
made_of all u body = unit_function (record { inventory = inventory_of all u; body = body })

-- up to a place: the first of the rows, and where there is none the functions
pub record AreMade (constants : List ℤ) (all us : List LoweredUnit) (plains : List PlainUnit) (i : ℕ) (functions : List CFunction) (refusal : Option Refusal) : Type 0 where
  rows : first_of (rows_of_bodies constants all us (units_given plains)) ≡ earliest refusal (first_of (rows_of_bodies constants all (drop i us) (units_given (drop i plains))))
  made : refusal ≡ None → (later : List CFunction) → functions_for constants all (drop i us) ≡ Some later → functions_for constants all us ≡ Some (functions ++ later)

made_yet : (constants : List ℤ) (all us : List LoweredUnit) (plains : List PlainUnit) → AreMade constants all us plains 0 [] None
unfolding earliest
made_yet constants all us plains = record { rows = refl; made = λ none later is. is }

pub none_made : (constants : List ℤ) (all us : List LoweredUnit) (plains : List PlainUnit) (functions : List CFunction) → functions ≡ [] → AreMade constants all us plains 0 functions None
none_made constants all us plains functions none = subst (λ fs. AreMade constants all us plains 0 fs None) (sym none) (made_yet constants all us plains)

body_there : (all : List LoweredUnit) (u : LoweredUnit) (function : CFunction) (o : Option (List CStmt)) → Some function ≡ option_map (made_of all u) o
    → (body : List CStmt) × (o ≡ Some body) × (function ≡ made_of all u body)
body_there all u function None is = absurd (cc)
body_there all u function (Some body) is = (body, refl, cc)

no_body : (all : List LoweredUnit) (u : LoweredUnit) (o : Option (List CStmt)) → None ≡ option_map (made_of all u) o → o ≡ None
no_body all u None is = refl
no_body all u (Some body) is = absurd (cc)

put_first : (all : List LoweredUnit) (u : LoweredUnit) (body : List CStmt) (rest : Option (List WrittenUnit)) (later : List CFunction) → option_map (map unit_function) rest ≡ Some later
    → option_map (map unit_function) (written_before (inventory_of all u) (Some body) rest) ≡ Some (made_of all u body ∷ later)
unfolding written_before
put_first all u body None later is = absurd (cc)
put_first all u body (Some ws) later is = ap (λ o. o) (let same : map unit_function ws ≡ later = cc in ap (λ fs. Some (made_of all u body ∷ fs)) same)

module _ (constants : List ℤ) (all us : List LoweredUnit) (plains : List PlainUnit) (i : ℕ) (plain d : PlainUnit) (told : AreTold us plains) (h : i < length plains) (is : plain ≡ get_or plains i d) where
  at : ToldAt us i plain
  at = told_at us plains i plain d told h is

  abbrev behind : List LoweredUnit
  behind = drop (i + 1) us

  abbrev row : Refusal
  row = form_row plain.unit.now plain.unit.now.statements

  abbrev later_rows : List Refusal
  later_rows = rows_of_bodies constants all behind (units_given (drop (i + 1) plains))

  rows_at : (o : Option (List CStmt)) → named_body_of constants all at.one ≡ o
      → first_of (rows_of_bodies constants all (drop i us) (units_given (drop i plains))) ≡ first_of (row_unless o row ++ later_rows)
  unfolding rows_of_bodies
  rows_at o body =
      ap (λ vs. first_of (rows_of_bodies constants all vs (units_given (drop i plains)))) at.rest
      ∙ ap (λ ps. first_of (rows_of_bodies constants all (at.one ∷ behind) (units_given ps))) (rest_is plains i plain d h is)
      ∙ ap (λ p. first_of (row_unless p row ++ later_rows)) body

  functions_at : (body : List CStmt) (later : List CFunction) → named_body_of constants all at.one ≡ Some body → functions_for constants all behind ≡ Some later
      → functions_for constants all (drop i us) ≡ Some (made_of all at.one body ∷ later)
  unfolding named_from functions_for
  functions_at body later there rest =
      ap (λ vs. option_map (map unit_function) (named_from constants all vs)) at.rest
      ∙ ap (λ o. option_map (map unit_function) (written_before (inventory_of all at.one) o (named_from constants all behind))) there
      ∙ put_first all at.one body (named_from constants all behind) later rest

  pub function_added : (procedures : Bytes → Option Procedure) (functions new : List CFunction) (found refusal now : Option Refusal) → TellsProcedures all procedures
      → AddsFunction plain procedures constants functions new found → now ≡ earliest refusal found → AreMade constants all us plains i functions refusal
      → AreMade constants all us plains (i + 1) new now
  unfolding AddsFunction row_unless first_of earliest
  function_added procedures functions new None refusal now procedures_are adds made so_far =
      let there = body_there all at.one adds.function (named_body_of constants all at.one) (adds.is.meant all at.one at.told procedures_are) in
      let same : now ≡ refusal = made ∙ earliest_none refusal in
      record {
        rows = so_far.rows ∙ ap (earliest refusal) (rows_at (Some there.0) there.1) ∙ ap (λ q. earliest q (first_of later_rows)) (sym same);
        made = λ none later rest.
            so_far.made (sym same ∙ none) (made_of all at.one there.0 ∷ later) (functions_at there.0 later there.1 rest)
            ∙ ap Some (ap (λ f. functions ++ f ∷ later) (sym there.2) ∙ sym (append_assoc functions (adds.function ∷ []) later) ∙ ap (λ fs. fs ++ later) (sym adds.put));
      }
  function_added procedures functions new (Some r) refusal now procedures_are adds made so_far = record {
    rows =
        so_far.rows ∙ ap (earliest refusal) (rows_at None (no_body all at.one (named_body_of constants all at.one) (adds.is.meant all at.one at.told procedures_are)))
        ∙ ap (λ q. earliest refusal (earliest (Some q) (first_of later_rows))) (sym adds.row) ∙ sym (earliest_along refusal (Some r) (first_of later_rows))
        ∙ ap (λ q. earliest q (first_of later_rows)) (sym made);
    made = λ none. absurd (some_along refusal r (sym made ∙ none));
  }

module _ (plains : List PlainUnit) (procedures : Bytes → Option Procedure) (constants : List ℤ) (i : ℕ) (h : length plains ≤ i) where
  past : (us : List LoweredUnit) → AreTold us plains → drop i us ≡ []
  past us told = drop_all i us (let same : length us ≡ length plains = as_long us plains told in omega (arith, same, h))

  module _ (all us : List LoweredUnit) (functions : List CFunction) (told : AreTold us plains) where
    rows_so : (refusal : Option Refusal) → AreMade constants all us plains i functions refusal → first_of (rows_of_bodies constants all us (units_given plains)) ≡ refusal
    unfolding rows_of_bodies first_of
    rows_so refusal so_far =
        so_far.rows ∙ ap (λ vs. earliest refusal (first_of (rows_of_bodies constants all vs (units_given (drop i plains))))) (past us told) ∙ earliest_none refusal

    functions_so : AreMade constants all us plains i functions None → functions_for constants all us ≡ Some functions
    unfolding named_from functions_for
    functions_so so_far = so_far.made refl [] (ap (λ vs. option_map (map unit_function) (named_from constants all vs)) (past us told)) ∙ ap Some (append-nil functions)

    answer_so : (found : Vec CFunction) (refusal : Option Refusal) (result : Result (Vec CFunction) Fail) → found.items ≡ functions → AreMade constants all us plains i functions refusal
        → (refusal ≡ None → result ≡ Ok found) → ((row : Refusal) → refusal ≡ Some row → result ≡ Err (fail.Refused row))
        → IsAnswer (List CFunction) (rows_of_bodies constants all us (units_given plains)) (functions_for constants all us) (list_of result)
    unfolding IsAnswer list_of
    answer_so found None result same so_far kept refused =
        subst (λ r. IsAnswer (List CFunction) (rows_of_bodies constants all us (units_given plains)) (functions_for constants all us) (list_of r)) (sym (kept refl))
        (record { made = functions_so so_far ∙ ap Some (sym same); no_row = rows_so None so_far })
    answer_so found (Some r) result same so_far kept refused =
        subst (λ q. IsAnswer (List CFunction) (rows_of_bodies constants all us (units_given plains)) (functions_for constants all us) (list_of q)) (sym (refused r refl)) (rows_so (Some r) so_far)

  pub functions_end : (found : Vec CFunction) (refusal : Option Refusal) (result : Result (Vec CFunction) Fail)
      → ((all us : List LoweredUnit) → AreTold us plains → TellsProcedures all procedures → AreMade constants all us plains i found.items refusal)
      → (refusal ≡ None → result ≡ Ok found) → ((row : Refusal) → refusal ≡ Some row → result ≡ Err (fail.Refused row)) → AreFunctionsOf plains procedures constants result
  functions_end found refusal result so_far kept refused = record {
    meant = λ all us told tells. answer_so all us found.items told found refusal result refl (so_far all us told tells) kept refused;
  }

-- want of memory
pub no_functions : (plains : List PlainUnit) (procedures : Bytes → Option Procedure) (constants : List ℤ) (result : Result (Vec CFunction) Fail) → result ≡ Err fail.NoMemory
    → AreFunctionsOf plains procedures constants result
unfolding IsAnswer list_of
no_functions plains procedures constants result none = subst (AreFunctionsOf plains procedures constants) (sym none) (record { meant = λ all us told tells. tt })

-- ## One function

module _ (plain : PlainUnit) (procedures : Bytes → Option Procedure) (constants : List ℤ) (before after : List CFunction) (o : Option CFunction) (names : List (Bor Bytes))
    (same : names ≡ plain.names.items) (given : IsWrittenUnit plain.table (map (λ name. name.now) names) plain.heading procedures constants plain.text plain.contents o) where
  written : IsWrittenUnit plain.table (map (λ name. name.now) plain.names.items) plain.heading procedures constants plain.text plain.contents o
  written = subst (λ (ns : List (Bor Bytes)). IsWrittenUnit plain.table (map (λ name. name.now) ns) plain.heading procedures constants plain.text plain.contents o) same given

  pub function_put : (function : CFunction) → o ≡ Some function → after ≡ before ++ function ∷ [] → AddsFunction plain procedures constants before after None
  unfolding AddsFunction
  function_put function some put = record { function = function; put = put; is = subst (IsFunctionOf plain procedures constants) some (is_function plain procedures constants o written) }

  pub function_refused : (r : Refusal) → o ≡ None → r ≡ form_row plain.unit.now plain.unit.now.statements → AddsFunction plain procedures constants before after (Some r)
  unfolding AddsFunction
  function_refused r none row = record { row = row; is = subst (IsFunctionOf plain procedures constants) none (is_function plain procedures constants o written) }
