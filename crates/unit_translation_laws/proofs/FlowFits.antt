-- What is said of types and outputs fits the steps of a text that calls others, wherever they lead.
use Rattle.std.specs.Prelude.{◌≡◌, ℕ, zero, suc, ◌+◌, nat_eq, ℤ, Bool, true, false, List, [], ◌∷◌, Option, Some, None, is_some, is_none, slice_get, if◌then◌else◌}
use Rattle.std.proofs.Common.{refl, sym, ap, ◌∙◌, subst, arith}
use Rattle.unit_translation.specs.f_tree.declared.names.Basic.{Basic}
use Rattle.unit_translation.specs.f_tree.Terms.{Callee}
use Rattle.unit_translation.specs.f_tree.Facts.{EntryPoint, Facts}
use Rattle.unit_translation.specs.f_tree.Setting.{IsIn, first_in, later_in}
use Rattle.unit_translation.specs.l_core.Pures.{Pure, Temporary, Pures}
use Rattle.unit_translation.specs.l_core.Steps.{Takes, Finishes, Step, Keep, Compute, Unless, Skip, Again, AgainIf, Jump, Select, JumpBy, CallFor, Branch, Way, Back, BackBy, Halt, Acts, Text}
use Rattle.unit_translation.specs.main_translation.c_image.Knowing.{Naming}
use Rattle.unit_translation.specs.c_emit.Numbers.{Library, Writing}
use Rattle.unit_translation.specs.c_emit.LibraryFunctions.{library_type}
use Rattle.unit_translation.specs.c_emit.Types.{type_of}
use Rattle.unit_translation.proofs.c_laws.TokenSpellings.{and-first, and-second}
use Rattle.unit_translation.specs.emitted_texts.Emitted.{leads, is_of_output}
use Rattle.main_translation_laws.proofs.linking_laws.Places.{some_same}
use Rattle.unit_translation.specs.procedure_emission.ProcedureItems.{basic_wanted}
use Rattle.unit_translation.specs.procedure_emission.Reading.{kind_after}
use Rattle.unit_translation.specs.procedure_emission.EmittedUnits.{leads_on, is_return}
use Rattle.unit_translation.specs.main_translation.Flow as flow
use Rattle.unit_translation.specs.main_translation.Flow.{is_target, stage_after, stage_at, is_on}
use Rattle.main_translation_laws.proofs.FlowLaws.{only_behind, kept_types, IsKept, by_keep, by_compute, kept_by, kept_nowhere, same_stage, at_stage, goes_on}
use Rattle.unit_translation.specs.UnitFlow.{kept_behind, kind_before, item_kind, is_in_place, are_in_place}
use Rattle.unit_programs.specs.TranslatedUnits.{Flows}
use Rattle.unit_translation.specs.behind_bounds.BehindBounds.{behind, writing_behind}
use Rattle.behind_units.specs.behind_flow.BehindFlow.{FlowsBehind}

-- ## Where steps lead

unfoldable pub is_branch : Step → Bool
is_branch (Unless p m) = true
is_branch (AgainIf p m) = true
is_branch (Skip m) = true
is_branch (Again m) = true
is_branch (Jump label) = true
is_branch (Select p count) = true
is_branch (JumpBy p labels) = true
is_branch (Branch k count) = true
is_branch (Way label) = true
is_branch st = false

leads_too : (u : Text) (n : ℕ) (st : Step) (m : ℕ) → IsIn m (leads_on u n st) → IsIn m (leads u n st)
unfolding leads_on
leads_too u n (BackBy p) m o = elim o [ ]
leads_too u n st m o = o

only_next : (n m : ℕ) → IsIn m (suc n ∷ []) → m ≡ suc n
only_next n _ first_in = refl
only_next n m (later_in o) = elim o [ ]

-- what is no branch leads to the step behind it alone
unbranched : (u : Text) (n : ℕ) (st : Step) (m : ℕ) → is_branch st ≡ false → IsIn m (leads u n st) → m ≡ suc n
unfolding is_branch leads
unbranched u n (Unless p k) m h o = absurd (cc)
unbranched u n (AgainIf p k) m h o = absurd (cc)
unbranched u n (Skip k) m h o = absurd (cc)
unbranched u n (Again k) m h o = absurd (cc)
unbranched u n (Jump label) m h o = absurd (cc)
unbranched u n (Select p count) m h o = absurd (cc)
unbranched u n (JumpBy p labels) m h o = absurd (cc)
unbranched u n (Branch k count) m h o = absurd (cc)
unbranched u n (Way label) m h o = absurd (cc)
unbranched u n Back m h o = elim o [ ]
unbranched u n (Halt text) m h o = elim o [ ]
unbranched u n st m h o = only_next n m o

-- ## Steps in their places

pub placed_at : (u : Text) (n : ℕ) (steps : List Step) (i k : ℕ) (st : Step) → k ≡ n + i → are_in_place u n steps ≡ true → slice_get steps i ≡ Some st → is_in_place u k st (stage_at u k) ≡ true
unfolding are_in_place
placed_at u n [] i k st at are stands = absurd (cc)
placed_at u n (first ∷ later) zero k st at are stands =
    let same : n ≡ k = omega (arith, at) in
    subst (λ j. is_in_place u j st (stage_at u j) ≡ true) same
    (subst (λ s. is_in_place u n s (stage_at u n) ≡ true) (some_same first st stands) (and-first (is_in_place u n first (stage_at u n)) (are_in_place u (suc n) later) are))
placed_at u n (first ∷ later) (suc i) k st at are stands = placed_at u (suc n) later i k st (omega (arith, at)) (and-second (is_in_place u n first (stage_at u n)) (are_in_place u (suc n) later) are) stands

is_nothing : {A : Type 0} (found : Option A) → is_none found ≡ true → found ≡ None
is_nothing None h = refl
is_nothing (Some a) h = absurd (cc)

is_something : {A : Type 0} (found : Option A) → is_some found ≡ true → (a : A) × (found ≡ Some a)
is_something (Some a) h = (a, refl)
is_something None h = absurd (cc)

on_by : (u : Text) (n : ℕ) (st : Step) (stage : Option ℤ) → is_of_output st ≡ true → is_in_place u n st stage ≡ true → is_on st stage ≡ true
unfolding is_of_output is_in_place
on_by u n (Acts Takes ps m) stage is in_place = in_place
on_by u n (Acts Finishes ps m) stage is in_place = in_place
on_by u n st stage is in_place = absurd (cc)

none_by : (u : Text) (n : ℕ) (st : Step) (stage : Option ℤ) → is_return st ≡ true → is_in_place u n st stage ≡ true → stage ≡ None
unfolding is_return is_in_place
none_by u n Back stage is in_place = is_nothing stage in_place
none_by u n (BackBy p) stage is in_place = is_nothing stage in_place
none_by u n st stage is in_place = absurd (cc)

-- where an output goes on behind a step, it is no branch, and the next step is reached from there alone
pub data IsAlone (u : Text) (n : ℕ) (st : Step) : Type 0 where
  is_over : stage_after (stage_at u n) st ≡ None → IsAlone u n st
  is_alone : is_branch st ≡ false → is_target u (suc n) ≡ false → IsAlone u n st

-- ## Outputs

nothing_reached : (now : Option ℤ) (found : Option Step) → flow.stage_behind true now found ≡ None
unfolding flow.stage_behind
nothing_reached now found = refl

pub none_at_target : (u : Text) (m : ℕ) → is_target u m ≡ true → stage_at u m ≡ None
unfolding stage_at
none_at_target u zero is = refl
none_at_target u (suc m) is = ap (λ t. flow.stage_behind t (stage_at u m) (slice_get u.steps m)) is ∙ nothing_reached (stage_at u m) (slice_get u.steps m)

pub next_stage : (u : Text) (n : ℕ) (st : Step) → slice_get u.steps n ≡ Some st → is_target u (suc n) ≡ false → stage_at u (suc n) ≡ stage_after (stage_at u n) st
unfolding stage_at
next_stage u n st stands alone =
    ap (λ t. flow.stage_behind t (stage_at u n) (slice_get u.steps n)) alone ∙ ap (flow.stage_behind false (stage_at u n)) stands ∙ at_stage (stage_at u n) st

stages_by : (u : Text) (n : ℕ) (st : Step) (m : ℕ) → slice_get u.steps n ≡ Some st → IsIn m (leads u n st) → IsAlone u n st → stage_at u m ≡ stage_after (stage_at u n) st
stages_by u n st m stands o (is_alone branch target) =
    let next = unbranched u n st m branch o in
    ap (stage_at u) next ∙ next_stage u n st stands target
stages_by u n st m stands o (is_over over) = by (is_target u m) refl
  where
    by : (t : Bool) → is_target u m ≡ t → stage_at u m ≡ stage_after (stage_at u n) st
    by true is = none_at_target u m is ∙ sym over
    by false is = let next = only_behind u n st m stands o is in ap (stage_at u) next ∙ next_stage u n st stands (ap (is_target u) (sym next) ∙ is)

-- ## Types

data IsGiven (c : Facts) (k : ℕ) (found : Option Step) (basic : Basic) : Type 0 where
  by_call : (j : ℕ) (callee : Callee) (ps : Pures) → found ≡ Some (CallFor j callee ps) → nat_eq k j ≡ true → basic_wanted callee.want ≡ Some basic → IsGiven c k found basic
  by_value : IsKept c k found basic → IsGiven c k found basic

given_by : (c : Facts) (k : ℕ) (found : Option Step) (basic : Basic) → kept_behind c false k found ≡ Some basic → IsGiven c k found basic
unfolding kept_behind
given_by c k (Some (CallFor j callee ps)) basic h = by (nat_eq k j) refl h
  where
    by : (b : Bool) → nat_eq k j ≡ b → (if b then basic_wanted callee.want else None) ≡ Some basic → IsGiven c k (Some (CallFor j callee ps)) basic
    by true same g = by_call j callee ps refl same g
    by false same g = absurd (cc)
given_by c k found basic h = by_value (kept_by c k found basic h)

given_nowhere : (c : Facts) (k : ℕ) (found : Option Step) (basic : Basic) → kept_behind c true k found ≡ Some basic → ⊥
unfolding kept_behind
given_nowhere c k found basic h = kept_nowhere c k found basic h

module _ (naming : Naming) (is_number : ℕ → Bool) (library : Library) (u : Text) where
  -- whatever is known of names and of what the library takes
  abbrev w : Writing
  w = record { naming = naming; facts = u.facts; is_number = is_number; kind = kind_before u; library = library }

  by_step : {found : Option Step} (n : ℕ) (st : Step) (k : ℕ) (basic : Basic) → ((it : Step) → found ≡ Some it → st ≡ it) → IsGiven u.facts k found basic → kind_after w n st k ≡ Some basic
  unfolding kind_after
  by_step n st k basic same (by_call j callee ps is equal typed) =
      subst (λ s. kind_after w n s k ≡ Some basic) (sym (same (CallFor j callee ps) is))
      (ap (λ t. if t then basic_wanted callee.want else kind_before u n k) equal ∙ typed)
  by_step n st k basic same (by_value (by_keep j p is equal typed)) =
      subst (λ s. kind_after w n s k ≡ Some basic) (sym (same (Keep j p) is))
      (ap (λ t. if t then type_of w n p else kind_before u n k) equal ∙ kept_types w n p basic typed)
  by_step n st k basic same (by_value (by_compute j f ps is equal typed)) =
      subst (λ s. kind_after w n s k ≡ Some basic) (sym (same (Compute j f ps) is)) (ap (λ t. if t then library_type f else kind_before u n k) equal ∙ typed)

  kinds : (n : ℕ) (st : Step) (m : ℕ) → slice_get u.steps n ≡ Some st → IsIn m (leads u n st) → (k : ℕ) (basic : Basic) → kind_before u m k ≡ Some basic → kind_after w n st k ≡ Some basic
  unfolding kind_before
  kinds n st zero stands o k basic h = absurd (cc)
  kinds n st (suc m) stands o k basic h = by (is_target u (suc m)) refl h
    where
      by : (t : Bool) → is_target u (suc m) ≡ t → kept_behind u.facts t k (slice_get u.steps m) ≡ Some basic → kind_after w n st k ≡ Some basic
      by true is g = absurd (given_nowhere u.facts k (slice_get u.steps m) basic g)
      by false is g =
          let same : suc m ≡ suc n = only_behind u n st (suc m) stands o is in
          let here : m ≡ n = omega (arith, same) in
          by_step n st k basic (λ found is. some_same st found (sym stands ∙ ap (slice_get u.steps) (sym here) ∙ is)) (given_by u.facts k (slice_get u.steps m) basic g)

  -- the type of what is kept
  item_types : (n : ℕ) (p : Pure) (basic : Basic) → item_kind u n p ≡ Some basic → type_of w n p ≡ Some basic
  unfolding item_kind type_of
  item_types n (Temporary k) basic h = h
  item_types n p basic h = kept_types w n p basic h

  keeps_by : (n k : ℕ) (p : Pure) (stage : Option ℤ) → is_in_place u n (Keep k p) stage ≡ true → (basic : Basic) × (type_of w n p ≡ Some basic)
  unfolding is_in_place
  keeps_by n k p stage h = let kind = is_something (item_kind u n p) h in (kind.0, item_types n p kind.0 kind.1)

  pub flows_fit : (entry : EntryPoint) → are_in_place u 0 u.steps ≡ true → ((n : ℕ) (st : Step) → slice_get u.steps n ≡ Some st → IsAlone u n st) → u.begins entry.start ≡ 0 → Flows w u (stage_at u) entry
  unfolding stage_at
  flows_fit entry are alone first = record {
    kinds = λ n st m stands o. kinds n st m stands (leads_too u n st m o);
    keeps = λ n k p stands. keeps_by n k p (stage_at u n) (placed_at u 0 u.steps n n (Keep k p) (omega arith) are stands);
    stages = λ n st m stands o. stages_by u n st m stands (leads_too u n st m o) (alone n st stands) ∙ same_stage (stage_at u n) st;
    outputs = λ n st stands is. goes_on st (stage_at u n) is (on_by u n st (stage_at u n) is (placed_at u 0 u.steps n n st (omega arith) are stands));
    returns = λ n st stands is. none_by u n st (stage_at u n) is (placed_at u 0 u.steps n n st (omega arith) are stands);
    none_at_first = ap (stage_at u) first;
  }

-- ## Behind what is kept

-- what is said of a text behind others is said of the text, each step so many places further on
pub flows_behind : (first : ℕ) (w : Writing) (u : Text) (entry : EntryPoint) → w.facts ≡ u.facts → w.kind ≡ kind_before (behind first u) → FlowsBehind first u → are_in_place (behind first u) 0 (behind first u).steps ≡ true
    → ((n : ℕ) (st : Step) → slice_get u.steps n ≡ Some st → IsAlone u n st) → u.begins entry.start ≡ 0 → Flows (writing_behind first w) u (λ n. stage_at (behind first u) (first + n)) entry
flows_behind first w u entry facts kind flows are alone begins =
    let its_library = record w.library { list = λ n. w.library.list (first + n); text = λ n. w.library.text (first + n) } in
    let stages : stage_at u ≡ (λ n. stage_at (behind first u) (first + n)) = λ i n. sym (flows.stages n) i in
    let kinds : kind_before u ≡ (λ n k. w.kind (first + n) k) = λ i n k. sym (ap (λ f. f (first + n) k) kind ∙ flows.kinds n k) i in
    subst (λ s. Flows (writing_behind first w) u s entry) stages
    (subst (λ ks. Flows (record { naming = w.naming; facts = w.facts; is_number = w.is_number; kind = ks; library = its_library }) u (stage_at u) entry) kinds
    (subst (λ c. Flows (record { naming = w.naming; facts = c; is_number = w.is_number; kind = kind_before u; library = its_library }) u (stage_at u) entry) (sym facts)
    (flows_fit w.naming w.is_number its_library u entry (sym flows.in_place ∙ are) alone begins)))
