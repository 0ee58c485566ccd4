-- A set that breaks no row, and none of whose calls is found to disagree, has units whose statements agree with its procedures.
use Rattle.std.specs.Prelude.{◌≡◌, ℕ, zero, suc, nat_eq, Bool, true, false, ◌&&◌, ◌||◌, List, [], ◌∷◌, ◌++◌, map, reverse, Option, Some, None, slice_get, IsTrue, if◌then◌else◌}
use Rattle.std.specs.List.{list_any}
use Rattle.std.proofs.Common.{refl, sym, ap, ◌∙◌, subst}
use Rattle.std.proofs.lemmas.Bool.{eqb-true}
use Rattle.std.proofs.lemmas.List.{reverse-reverse}
use Rattle.call_shapes.specs.f_tree.declared.names.Class.TheVariants as class
use Rattle.call_shapes.specs.f_tree.declared.names.Options.{Options}
use Rattle.call_shapes.specs.f_tree.declared.refusals.Refusal.{Refusal}
use Rattle.call_shapes.specs.f_tree.declared.statements.Stmt.{Stmt}
use Rattle.call_shapes.specs.f_tree.declared.units.File.{File}
use Rattle.call_shapes.specs.f_tree.declared.units.Unit.{Unit as WrittenUnit}
use Rattle.call_shapes.specs.f_tree.Values.{Bytes}
use Rattle.call_shapes.specs.f_tree.Facts.{ProgramUnit, Facts}
use Rattle.call_shapes.specs.f_tree.Attributes.{arrays_of, no_program, no_facts}
use Rattle.call_shapes.specs.f_tree.Lines.{unit_read}
use Rattle.call_shapes.specs.f_tree.Setting.{Setting, IsIn, first_in, later_in, unit_home}
use Rattle.call_shapes.specs.f_tree.Meaning.{units_of, facts_at}
use Rattle.call_shapes.specs.f_tree.WellTyped.{IsValued, is_variable}
use Rattle.call_shapes.specs.f_tree.WellFormed.{AreWellFormed}
use Rattle.call_shapes.specs.declaration_rows.GlobalRows.{all_units}
use Rattle.call_shapes.specs.declaration_rows.NameRows.{given_names, own_attributes, all_names, defined_rows, names_rows}
use Rattle.call_shapes.specs.declaration_rows.UnitRows.{statements_rows, labels_rows, ranges_from, crossing_rows, nest_rows, ends_by_end, end_rows, unit_rows_as, unit_rows}
use Rattle.call_shapes.specs.declaration_rows.SetRows.{all_unit_rows, units_rows, files_rows, set_faults}
use Rattle.call_shapes.specs.declared.findings.Finding.{Finding}
use Rattle.call_shapes.specs.declared.findings.Reason.{Reason}
use Rattle.call_shapes.specs.declared.shapes.NamedShape.{NamedShape}
use Rattle.call_shapes.specs.ProcedureShapes.{procedures_of}
use Rattle.call_shapes.specs.CallsMade.{calls_of_statement}
use Rattle.call_shapes.specs.Disagreements.{reason_of, found_at, call_findings, is_at, statement_findings, unit_findings, units_findings, is_before, placed, all_placed, in_order, disagreeing}
use Rattle.agreeing_runs.specs.AgreeingForms.{LinesAgree, EachAgreeingRunAgrees}
use Rattle.declaration_laws.proofs.ExpressionFits.{none_of_both}
use Rattle.declaration_laws.proofs.NameFits.{IsFaultless, each_faultless, valued_by}
use Rattle.declaration_laws.proofs.UnitFits.{in_either}
use Rattle.declaration_laws.proofs.SetFits.{IsReadFrom, read_from, unit_none, sets_formed}
use Rattle.agreeing_calls.specs.CheckedCalls.{EachCheckedRunAgrees}
use Rattle.agreeing_calls.proofs.ShapeLemmas.{units_alike}
use Rattle.agreeing_calls.proofs.AgreementLemmas.{call_agrees}
use Rattle.agreeing_calls.proofs.TreeLemmas.{AllClear, EachClearAgrees}
use Rattle.agreeing_calls.proofs.DefinitionLemmas.{StatementsClear}
use Rattle.agreeing_calls.proofs.UnitLemmas.{line_agrees}

-- FINDINGS. Where there are none in order, there are none
if_placed_none : (f g : Finding) (gs hs : List Finding) (b : Bool) → (if b then g ∷ gs else f ∷ hs) ≡ [] → ⊥
if_placed_none f g gs hs true none = absurd (let bad : g ∷ gs ≡ [] = none in cc)
if_placed_none f g gs hs false none = absurd (let bad : f ∷ hs ≡ [] = none in cc)

never_placed : (f : Finding) (done : List Finding) → placed f done ≡ [] → ⊥
unfolding placed
never_placed f [] none = absurd (let bad : f ∷ [] ≡ [] = none in cc)
never_placed f (g ∷ gs) none = if_placed_none f g (placed f gs) (g ∷ gs) (is_before f g) none

nothing_placed : (done fs : List Finding) → all_placed done fs ≡ [] → fs ≡ []
unfolding all_placed
nothing_placed done [] none = refl
nothing_placed done (f ∷ fs) none =
    let rest : fs ≡ [] = nothing_placed (placed f done) fs none in
    absurd (never_placed f done (subst (λ gs. all_placed (placed f done) gs ≡ []) rest none))

none_ordered : (fs : List Finding) → in_order fs ≡ [] → fs ≡ []
unfolding in_order
none_ordered fs none = nothing_placed [] fs (sym (reverse-reverse (all_placed [] fs)) ∙ ap reverse none)

found_none : (s : Stmt) (x : Bytes) (o : Option Reason) → found_at s x o ≡ [] → o ≡ None
unfolding found_at
found_none s x None none = refl
found_none s x (Some why) none = absurd (cc)

clear_found : (procedures lines : List NamedShape) (s : Stmt) (calls : List NamedShape) → call_findings procedures lines s calls ≡ [] → AllClear procedures lines calls
unfolding call_findings AllClear
clear_found procedures lines s [] none = tt
clear_found procedures lines s (call ∷ calls) none =
    let h = none_of_both (found_at s call.name (reason_of procedures lines call)) (call_findings procedures lines s calls) none in
    (found_none s call.name (reason_of procedures lines call) h.0, clear_found procedures lines s calls h.1)

-- a statement that stood before is the same statement
record StoodBefore (s : Stmt) (before : List Stmt) : Type 0 where
  statement : Stmt
  among : IsIn statement before
  is_there : is_at s statement ≡ true

stood_if : (s t : Stmt) (before : List Stmt) (b : Bool) → is_at s t ≡ b → (b || list_any (is_at s) before) ≡ true →
    (list_any (is_at s) before ≡ true → StoodBefore s before) → StoodBefore s (t ∷ before)
stood_if s t before true here any later = record { statement = t; among = first_in; is_there = here }
stood_if s t before false here any later = let l : StoodBefore s before = later any in record { statement = l.statement; among = later_in l.among; is_there = l.is_there }

stood_before : (s : Stmt) (before : List Stmt) → list_any (is_at s) before ≡ true → StoodBefore s before
stood_before s [] any = absurd (cc)
stood_before s (t ∷ before) any = stood_if s t before (is_at s t) refl any (λ later. stood_before s before later)

both_of : (a b : Bool) → (a && b) ≡ true → (a ≡ true) × (b ≡ true)
both_of true b both = (refl, both)
both_of false b both = absurd (cc)

module _ (procedures lines : List NamedShape) (u : WrittenUnit)
    (one_card : (s t : Stmt) → IsIn s u.statements → IsIn t u.statements → s.file ≡ t.file → s.card ≡ t.card → s.body ≡ t.body) where
  abbrev StandsClear : Stmt → Type 0
  StandsClear s = IsIn s u.statements × AllClear procedures lines (calls_of_statement u s.body)

  same_clear : (s t : Stmt) → IsIn s u.statements → StandsClear t → is_at s t ≡ true → AllClear procedures lines (calls_of_statement u s.body)
  unfolding is_at
  same_clear s t among clear is =
      let h = both_of (nat_eq t.file s.file) (nat_eq t.card s.card) is in
      subst (λ b. AllClear procedures lines (calls_of_statement u b))
      (one_card t s clear.0 among (eqb-true t.file s.file h.0) (eqb-true t.card s.card h.1)) clear.1

  statement_if : (s : Stmt) (before : List Stmt) (b : Bool) → list_any (is_at s) before ≡ b → IsIn s u.statements → ((t : Stmt) → IsIn t before → StandsClear t) →
      (if b then [] else call_findings procedures lines s (calls_of_statement u s.body)) ≡ [] → AllClear procedures lines (calls_of_statement u s.body)
  statement_if s before true any among clear none =
      let t : StoodBefore s before = stood_before s before any in same_clear s t.statement among (clear t.statement t.among) t.is_there
  statement_if s before false any among clear none = clear_found procedures lines s (calls_of_statement u s.body) none

  clear_behind : (before : List Stmt) (s : Stmt) → StandsClear s → ((t : Stmt) → IsIn t before → StandsClear t) → (t : Stmt) → IsIn t (before ++ s ∷ []) → StandsClear t
  clear_behind [] s here clear t first_in = here
  clear_behind [] s here clear t (later_in among) = elim among [ ]
  clear_behind (b ∷ before) s here clear t first_in = clear t first_in
  clear_behind (b ∷ before) s here clear t (later_in among) = clear_behind before s here (λ z is. clear z (later_in is)) t among

  clear_from : (before ss : List Stmt) → ((t : Stmt) → IsIn t before → StandsClear t) → ((t : Stmt) → IsIn t ss → IsIn t u.statements) →
      unit_findings procedures lines u before ss ≡ [] → StatementsClear procedures lines u ss
  unfolding unit_findings statement_findings StatementsClear
  clear_from before [] clear among none = tt
  clear_from before (s ∷ ss) clear among none =
      let h = none_of_both (statement_findings procedures lines u before s) (unit_findings procedures lines u (before ++ s ∷ []) ss) none in
      let here : AllClear procedures lines (calls_of_statement u s.body) =
      statement_if s before (list_any (is_at s) before) refl (among s first_in) clear h.0 in
      (here, clear_from (before ++ s ∷ []) ss (clear_behind before s (among s first_in, here) clear) (λ t is. among t (later_in is)) h.1)

  unit_clear : unit_findings procedures lines u [] u.statements ≡ [] → StatementsClear procedures lines u u.statements
  unit_clear none = clear_from [] u.statements (λ t is. elim is [ ]) (λ t is. is) none

unit_found : (procedures lines : List NamedShape) (us : List WrittenUnit) (u : WrittenUnit) → units_findings procedures lines us ≡ [] → IsIn u us →
    unit_findings procedures lines u [] u.statements ≡ []
unfolding units_findings
unit_found procedures lines [] u none is = elim is [ ]
unit_found procedures lines (u ∷ us) _ none first_in = (none_of_both (unit_findings procedures lines u [] u.statements) (units_findings procedures lines us) none).0
unit_found procedures lines (v ∷ us) u none (later_in is) =
    unit_found procedures lines us u (none_of_both (unit_findings procedures lines v [] v.statements) (units_findings procedures lines us) none).1 is

-- ROWS
unit_among : (options : Options) (us : List WrittenUnit) (u : WrittenUnit) → units_rows options us ≡ [] → IsIn u us → unit_rows options u ≡ []
unfolding units_rows
unit_among options [] u none is = elim is [ ]
unit_among options (v ∷ us) _ none first_in = unit_none options v (none_of_both (all_unit_rows options v) (units_rows options us) none).0
unit_among options (v ∷ us) u none (later_in is) = unit_among options us u (none_of_both (all_unit_rows options v) (units_rows options us) none).1 is

unit_of_files : (options : Options) (fs : List File) (u : WrittenUnit) → files_rows options fs ≡ [] → IsIn u (all_units fs) → unit_rows options u ≡ []
unfolding files_rows all_units
unit_of_files options [] u none is = elim is [ ]
unit_of_files options (f ∷ fs) u none is =
    let h = none_of_both (units_rows options f.units) (files_rows options fs) none in
    in_either u f.units (all_units fs) (unit_rows options u ≡ []) is (λ among. unit_among options f.units u h.0 among) (λ among. unit_of_files options fs u h.1 among)

record IsClean (u : WrittenUnit) (p : ProgramUnit) : Type 0 where
  names : names_rows u (all_names u) ≡ []
  defined : defined_rows (given_names u) (own_attributes u) (arrays_of u) [] [] u.statements ≡ []
  statements : statements_rows u p 0 u.statements ≡ []

clean : (u : WrittenUnit) (p : ProgramUnit) → unit_rows_as u p ≡ [] → IsClean u p
unfolding unit_rows_as
clean u p none =
    let ns : List Refusal = names_rows u (all_names u) in
    let ds : List Refusal = defined_rows (given_names u) (own_attributes u) (arrays_of u) [] [] u.statements in
    let ss : List Refusal = statements_rows u p 0 u.statements in
    let more : List Refusal = labels_rows [] u.statements ++ (nest_rows [] u.statements ++ (end_rows u (ends_by_end u.statements) ++ crossing_rows (ranges_from p 0 u.statements) 0 u.statements)) in
    let h = none_of_both ns (ds ++ (ss ++ more)) none in
    let k = none_of_both ds (ss ++ more) h.1 in
    record { names = h.0; defined = k.0; statements = (none_of_both ss more k.1).0 }

-- A UNIT OF A SET, with what it is read as
pub record IsUnitOf (options : Options) (us : List WrittenUnit) (p : ProgramUnit) : Type 0 where
  pub written : WrittenUnit
  pub among : IsIn written us
  pub is : p ≡ unit_read options written

pub unit_at : (options : Options) (us : List WrittenUnit) (k : ℕ) (p : ProgramUnit) → slice_get (map (unit_read options) us) k ≡ Some p → IsUnitOf options us p
unit_at options [] k p there = absurd (cc)
unit_at options (u ∷ us) zero p there = let same : unit_read options u ≡ p = cc in record { written = u; among = first_in; is = sym same }
unit_at options (u ∷ us) (suc k) p there =
    let l : IsUnitOf options us p = unit_at options us k p there in record { written = l.written; among = later_in l.among; is = l.is }

dummy_valued : (u : WrittenUnit) (x : Bytes) → IsFaultless u x (given_names u x) → (given_names u x).class ≡ class.Dummy → IsValued (given_names u x).basic
unfolding is_variable
dummy_valued u x faultless is = valued_by (given_names u x).class (given_names u x) (subst (λ k. IsTrue (is_variable k)) (sym is) refl) faultless.no_type

module _ (options : Options) (us : List WrittenUnit) (lines : List NamedShape) (rows : (u : WrittenUnit) → IsIn u us → unit_rows options u ≡ [])
    (one_card : (u : WrittenUnit) → IsIn u us → (s t : Stmt) → IsIn s u.statements → IsIn t u.statements → s.file ≡ t.file → s.card ≡ t.card → s.body ≡ t.body)
    (found : units_findings (procedures_of us) lines us ≡ []) where
  unit_clean : (u : WrittenUnit) → IsIn u us → IsClean u (unit_read options u)
  unfolding unit_rows
  unit_clean u among = clean u (unit_read options u) (rows u among)

  clear_agrees : (c : Facts) → EachClearAgrees (map (unit_read options) us) (procedures_of us) lines c
  clear_agrees c x result want js sorts wants none sorted direct p n s ds are =
      call_agrees options us lines (λ u among y is. dummy_valued u y (each_faultless u (unit_clean u among).names y) is) x result want js sorts wants none sorted p n s ds are

  unit_lines : (c : Facts) (u : WrittenUnit) → IsIn u us → c.program ≡ unit_read options u → LinesAgree (map (unit_read options) us) c
  unit_lines c u among is n i line there =
      let read : IsClean u c.program = subst (λ p. IsClean u p) (sym is) (unit_clean u among) in
      line_agrees (map (unit_read options) us) (procedures_of us) lines c (clear_agrees c) n u (subst (λ p. IsReadFrom u p) (sym is) (read_from options u))
      (each_faultless u read.names) read.defined read.statements
      (unit_clear (procedures_of us) lines u (one_card u among) (unit_found (procedures_of us) lines us u found among)) i line there

  lines_at : (g : Setting) (k : ℕ) (o : Option ProgramUnit) → slice_get (map (unit_read options) us) k ≡ o → LinesAgree (map (unit_read options) us) (facts_at g k o)
  unfolding facts_at no_facts no_program
  lines_at g k None is n i line there = absurd (cc)
  lines_at g k (Some p) is n i line there =
      let at : IsUnitOf options us p = unit_at options us k p is in
      unit_lines (record { program = p; home = unit_home g k p }) at.written at.among at.is n i line there

  all_lines : (g : Setting) (k : ℕ) → LinesAgree (map (unit_read options) us) (facts_at g k (slice_get (map (unit_read options) us) k))
  all_lines g k = lines_at g k (slice_get (map (unit_read options) us) k) refl

pub no_refusal : (r : Refusal) (rs : List Refusal) → rs ≡ [] → IsIn r rs → ⊥
no_refusal r [] none is = elim is [ ]
no_refusal r (q ∷ rs) none is = absurd (let bad : q ∷ rs ≡ [] = none in cc)

pub checked_runs : EachAgreeingRunAgrees → EachCheckedRunAgrees
unfolding set_faults disagreeing units_of
checked_runs runs options set lines g units n faults one_card found setting mismatched =
    let us : List WrittenUnit = all_units set.files in
    let formed : AreWellFormed g (units_of options set) = sets_formed options set g setting (λ r is. no_refusal r (files_rows options set.files) faults is) in
    runs g (units_of options set) units n formed
    (subst (λ S. (k : ℕ) → LinesAgree S (facts_at g k (slice_get S k))) (sym (units_alike options set.files))
    (all_lines options us lines (λ u among. unit_of_files options set.files u faults among) one_card
    (none_ordered (units_findings (procedures_of us) lines us) found) g))
    mismatched
