-- What is said of types and outputs fits the steps of every text, wherever they lead.
use Rattle.std.specs.List.{list_any}
use Rattle.std.specs.Prelude.{◌≡◌, ℕ, zero, suc, ◌+◌, nat_eq, ℤ, Bool, true, false, ◌||◌, List, [], ◌∷◌, ◌++◌, length, Option, Some, None, is_some, slice_get, if◌then◌else◌}
use Rattle.std.proofs.Common.{refl, sym, ap, ◌∙◌, subst, arith}
use Rattle.std.proofs.lemmas.Bool.{eq-eqb}
use Rattle.main_programs.specs.f_tree.declared.names.Basic.{Basic}
use Rattle.main_programs.specs.f_tree.Terms.{Function}
use Rattle.main_programs.specs.f_tree.Facts.{Facts}
use Rattle.main_programs.specs.f_tree.Setting.{IsIn, first_in, later_in}
use Rattle.main_programs.specs.l_core.Pures.{Pure, Constant, Temporary, Load, Name, AllOf, ElementOf, FirstOf, Substring, Concatenated, Prefixed, Operated, Applied, Chosen, Pures}
use Rattle.main_programs.specs.l_core.Steps.{Starts, Takes, Finishes, Auxiliary, Step, Keep, Put, PutText, PutLabel, Compute, Unless, Skip, Again, AgainIf, Jump, Select, JumpBy, Pass, CallFor, CallSub, Branch, Way, Back, BackBy, Halt, Acts, Text}
use Rattle.main_programs.specs.c_emit.Numbers.{Writing}
use Rattle.main_programs.specs.c_emit.LibraryFunctions.{library_type}
use Rattle.main_programs.specs.c_emit.Types.{type_of, type_at}
use Rattle.main_programs.specs.emitted_texts.Emitted.{labelled, places_from, leads, kind_behind, stage_behind, is_of_output}
use Rattle.main_programs.proofs.linking_laws.Places.{some_same}
use Rattle.main_programs.specs.main_file.MainFile.{Inventory, Bases, writing_of}
use Rattle.main_programs.specs.main_translation.Flow as flow
use Rattle.main_programs.specs.main_translation.Flow.{target_in, targets_on, targets_of, targets_from, is_target, kept_type, kept_at, kind_at, stage_after, stage_at, is_on, are_on}
use Rattle.main_programs.specs.EmittedMain.{StepsFit}
use Rattle.main_programs.proofs.c_laws.TokenSpellings.{and-first, and-second}

-- ## Where steps lead

pub data Led (u : Text) (n : ℕ) (st : Step) (m : ℕ) : Type 0 where
  to_next : m ≡ suc n → Led u n st m
  to_target : IsIn m (targets_of u n st) → Led u n st m

only_next : (u : Text) (n : ℕ) (st : Step) (m : ℕ) → IsIn m (suc n ∷ []) → Led u n st m
only_next u n st _ first_in = to_next refl
only_next u n st m (later_in o) = elim o [ ]

same_targets : (u : Text) (n : ℕ) (st : Step) (m : ℕ) (ms : List ℕ) → targets_of u n st ≡ ms → IsIn m ms → Led u n st m
same_targets u n st m ms same among = to_target (subst (IsIn m) (sym same) among)

same_label : (found : Option ℕ) → target_in found ≡ labelled found
unfolding target_in labelled
same_label None = refl
same_label (Some n) = refl

same_places : (n count : ℕ) → targets_on n count ≡ places_from n count
unfolding targets_on places_from
same_places n zero = refl
same_places n (suc count) = ap (λ ms. n ∷ ms) (same_places (suc n) count)

pub leads_to : (u : Text) (n : ℕ) (st : Step) (m : ℕ) → IsIn m (leads u n st) → Led u n st m
unfolding leads targets_of
leads_to u n (Unless p k) _ first_in = to_next refl
leads_to u n (Unless p k) m (later_in o) = to_target o
leads_to u n (AgainIf p k) _ first_in = to_target first_in
leads_to u n (AgainIf p k) m (later_in o) = only_next u n (AgainIf p k) m o
leads_to u n (Skip k) m o = to_target o
leads_to u n (Again k) m o = to_target o
leads_to u n (Jump label) m o = to_target (subst (IsIn m) (sym (same_label (u.position label))) o)
leads_to u n Back m o = elim o [ ]
leads_to u n (Halt text) m o = elim o [ ]
leads_to u n (Keep k p) m o = only_next u n (Keep k p) m o
leads_to u n (Put place p) m o = only_next u n (Put place p) m o
leads_to u n (PutText place ps) m o = only_next u n (PutText place ps) m o
leads_to u n (PutLabel place l) m o = only_next u n (PutLabel place l) m o
leads_to u n (Compute k f ps) m o = only_next u n (Compute k f ps) m o
leads_to u n (Select p count) _ first_in = to_next refl
leads_to u n (Select p count) m (later_in o) = to_target (subst (IsIn m) (sym (same_places (suc (suc n)) count)) o)
leads_to u n (JumpBy p labels) _ first_in = to_next refl
leads_to u n (JumpBy p labels) m (later_in o) = to_target (subst (IsIn m) (sym (same_places (suc (suc n)) (length labels))) o)
leads_to u n Pass m o = only_next u n Pass m o
leads_to u n (CallFor k callee ps) m o = only_next u n (CallFor k callee ps) m o
leads_to u n (CallSub k x ps) m o = only_next u n (CallSub k x ps) m o
leads_to u n (Branch k count) _ first_in = to_next refl
leads_to u n (Branch k count) m (later_in o) = to_target (subst (IsIn m) (sym (same_places (suc (suc n)) count)) o)
leads_to u n (Way label) m o = to_target (subst (IsIn m) (sym (same_label (u.position label))) o)
leads_to u n (BackBy p) m o = only_next u n (BackBy p) m o
leads_to u n (Acts what ps k) m o = only_next u n (Acts what ps k) m o

pub in_front : {A : Type 0} (x : A) (xs ys : List A) → IsIn x xs → IsIn x (xs ++ ys)
in_front x _ ys first_in = first_in
in_front x _ ys (later_in o) = later_in (in_front x _ ys o)

pub in_back : {A : Type 0} (x : A) (xs ys : List A) → IsIn x ys → IsIn x (xs ++ ys)
in_back x [] ys o = o
in_back x (y ∷ xs) ys o = later_in (in_back x xs ys o)

target_among : (u : Text) (n : ℕ) (steps : List Step) (i k : ℕ) (st : Step) (m : ℕ) → k ≡ n + i → slice_get steps i ≡ Some st → IsIn m (targets_of u k st) → IsIn m (targets_from u n steps)
unfolding targets_from
target_among u n [] i k st m at stands o = absurd (cc)
target_among u n (first ∷ later) zero k st m at stands o =
    let same : k ≡ n = omega (arith, at) in
    let it : first ≡ st = some_same first st stands in
    in_front m (targets_of u n first) (targets_from u (suc n) later) (subst (λ s. IsIn m (targets_of u n s)) (sym it) (subst (λ j. IsIn m (targets_of u j st)) same o))
target_among u n (first ∷ later) (suc i) k st m at stands o =
    in_back m (targets_of u n first) (targets_from u (suc n) later) (target_among u (suc n) later i k st m (omega (arith, at)) stands o)

or_true : (a b : Bool) → b ≡ true → (a || b) ≡ true
or_true true b h = refl
or_true false b h = h

any_in : (m : ℕ) (ms : List ℕ) → IsIn m ms → list_any (nat_eq m) ms ≡ true
any_in m _ (first_in {as' = ms}) = ap (λ b. b || list_any (nat_eq m) ms) (eq-eqb m m refl)
any_in m _ (later_in {b = k} {as' = ms} o) = or_true (nat_eq m k) (list_any (nat_eq m) ms) (any_in m ms o)

pub reached : (u : Text) (n : ℕ) (st : Step) (m : ℕ) → slice_get u.steps n ≡ Some st → IsIn m (targets_of u n st) → is_target u m ≡ true
unfolding is_target
reached u n st m stands o = any_in m (targets_from u 0 u.steps) (target_among u 0 u.steps n n st m (omega arith) stands o)

-- a step that is not reached by a branch is led to by the step before alone
pub only_behind : (u : Text) (n : ℕ) (st : Step) (m : ℕ) → slice_get u.steps n ≡ Some st → IsIn m (leads u n st) → is_target u m ≡ false → m ≡ suc n
only_behind u n st m stands o alone = by (leads_to u n st m o)
  where
    by : Led u n st m → m ≡ suc n
    by (to_next same) = same
    by (to_target among) = absurd (let no : true ≡ false = sym (reached u n st m stands among) ∙ alone in cc)

-- ## Types

pub kept_types : (w : Writing) (n : ℕ) (p : Pure) (basic : Basic) → kept_type w.facts p ≡ Some basic → type_of w n p ≡ Some basic
unfolding kept_type type_of type_at
kept_types w n (Constant d) basic h = h
kept_types w n (Temporary k) basic h = absurd (cc)
kept_types w n (Load (Name x)) basic h = h
kept_types w n (Load (ElementOf x ps)) basic h = h
kept_types w n (Load (Constant d)) basic h = absurd (cc)
kept_types w n (Load (Temporary k)) basic h = absurd (cc)
kept_types w n (Load (Load p)) basic h = absurd (cc)
kept_types w n (Load (AllOf x)) basic h = absurd (cc)
kept_types w n (Load (FirstOf p)) basic h = absurd (cc)
kept_types w n (Load (Substring x p a b)) basic h = absurd (cc)
kept_types w n (Load (Concatenated ps)) basic h = absurd (cc)
kept_types w n (Load (Prefixed op p)) basic h = absurd (cc)
kept_types w n (Load (Operated op p q)) basic h = absurd (cc)
kept_types w n (Load (Applied f ps)) basic h = absurd (cc)
kept_types w n (Load (Chosen p a b)) basic h = absurd (cc)
kept_types w n (Name x) basic h = absurd (cc)
kept_types w n (AllOf x) basic h = absurd (cc)
kept_types w n (ElementOf x ps) basic h = absurd (cc)
kept_types w n (FirstOf p) basic h = absurd (cc)
kept_types w n (Substring x p a b) basic h = absurd (cc)
kept_types w n (Concatenated ps) basic h = absurd (cc)
kept_types w n (Prefixed op p) basic h = h
kept_types w n (Operated op p q) basic h = h
kept_types w n (Applied f ps) basic h = h
kept_types w n (Chosen p a b) basic h = absurd (cc)

-- what is said behind a step that is reached from there alone
pub data IsKept (c : Facts) (k : ℕ) (found : Option Step) (basic : Basic) : Type 0 where
  by_keep : (j : ℕ) (p : Pure) → found ≡ Some (Keep j p) → nat_eq k j ≡ true → kept_type c p ≡ Some basic → IsKept c k found basic
  by_compute : (j : ℕ) (f : Function) (ps : Pures) → found ≡ Some (Compute j f ps) → nat_eq k j ≡ true → library_type f ≡ Some basic → IsKept c k found basic

pub kept_by : (c : Facts) (k : ℕ) (found : Option Step) (basic : Basic) → kept_at c false k found ≡ Some basic → IsKept c k found basic
unfolding kept_at
kept_by c k (Some (Keep j p)) basic h = by (nat_eq k j) refl h
  where
    by : (b : Bool) → nat_eq k j ≡ b → (if b then kept_type c p else None) ≡ Some basic → IsKept c k (Some (Keep j p)) basic
    by true same g = by_keep j p refl same g
    by false same g = absurd (cc)
kept_by c k (Some (Compute j f ps)) basic h = by (nat_eq k j) refl h
  where
    by : (b : Bool) → nat_eq k j ≡ b → (if b then library_type f else None) ≡ Some basic → IsKept c k (Some (Compute j f ps)) basic
    by true same g = by_compute j f ps refl same g
    by false same g = absurd (cc)
kept_by c k found basic h = absurd (cc)

pub kept_nowhere : (c : Facts) (k : ℕ) (found : Option Step) (basic : Basic) → kept_at c true k found ≡ Some basic → ⊥
unfolding kept_at
kept_nowhere c k found basic h = cc

-- ## Outputs

pub same_stage : (now : Option ℤ) (st : Step) → stage_after now st ≡ stage_behind now st
unfolding stage_after stage_behind
same_stage now (Acts (Starts way layout controls) ps m) = refl
same_stage now (Acts Finishes ps m) = refl
same_stage now (Acts Takes ps m) = refl
same_stage now (Acts (Auxiliary which controls) ps m) = refl
same_stage now (Keep k p) = refl
same_stage now (Put place p) = refl
same_stage now (PutText place ps) = refl
same_stage now (PutLabel place l) = refl
same_stage now (Compute k f ps) = refl
same_stage now (Unless p m) = refl
same_stage now (Skip m) = refl
same_stage now (Again m) = refl
same_stage now (AgainIf p m) = refl
same_stage now (Jump l) = refl
same_stage now (Select p ls) = refl
same_stage now (JumpBy p ls) = refl
same_stage now Pass = refl
same_stage now (CallFor k callee ps) = refl
same_stage now (CallSub k x ps) = refl
same_stage now (Branch k count) = refl
same_stage now (Way label) = refl
same_stage now Back = refl
same_stage now (BackBy p) = refl
same_stage now (Halt text) = refl

pub none_reached : (now : Option ℤ) (found : Option Step) (unit : ℤ) → flow.stage_behind true now found ≡ Some unit → ⊥
unfolding flow.stage_behind
none_reached now found unit h = cc

pub at_stage : (now : Option ℤ) (st : Step) → flow.stage_behind false now (Some st) ≡ stage_after now st
unfolding flow.stage_behind
at_stage now st = refl

some_unit : (stage : Option ℤ) → is_some stage ≡ true → (unit : ℤ) × (stage ≡ Some unit)
some_unit (Some unit) h = (unit, refl)
some_unit None h = absurd (cc)

pub goes_on : (st : Step) (stage : Option ℤ) → is_of_output st ≡ true → is_on st stage ≡ true → (unit : ℤ) × (stage ≡ Some unit)
unfolding is_of_output is_on
goes_on (Acts Takes ps m) stage is on = some_unit stage on
goes_on (Acts Finishes ps m) stage is on = some_unit stage on
goes_on st stage is on = absurd (cc)

-- ## A text and its file

module _ (v : Inventory) (b : Bases) (u : Text) where
  by_step : {found : Option Step} (n : ℕ) (st : Step) (k : ℕ) (basic : Basic) → ((it : Step) → found ≡ Some it → st ≡ it) → IsKept u.facts k found basic → kind_behind (writing_of v b u.facts (kind_at u)) n st k ≡ Some basic
  unfolding kind_behind
  by_step n st k basic same (by_keep j p is equal typed) =
      subst (λ s. kind_behind (writing_of v b u.facts (kind_at u)) n s k ≡ Some basic) (sym (same (Keep j p) is))
      (ap (λ t. if t then type_of (writing_of v b u.facts (kind_at u)) n p else kind_at u n k) equal ∙ kept_types (writing_of v b u.facts (kind_at u)) n p basic typed)
  by_step n st k basic same (by_compute j f ps is equal typed) =
      subst (λ s. kind_behind (writing_of v b u.facts (kind_at u)) n s k ≡ Some basic) (sym (same (Compute j f ps) is)) (ap (λ t. if t then library_type f else kind_at u n k) equal ∙ typed)

  kinds : (n : ℕ) (st : Step) (m : ℕ) → slice_get u.steps n ≡ Some st → IsIn m (leads u n st) → (k : ℕ) (basic : Basic) → kind_at u m k ≡ Some basic → kind_behind (writing_of v b u.facts (kind_at u)) n st k ≡ Some basic
  unfolding kind_at kind_behind
  kinds n st zero stands o k basic h = absurd (cc)
  kinds n st (suc m) stands o k basic h = by (is_target u (suc m)) refl h
    where
      by : (t : Bool) → is_target u (suc m) ≡ t → kept_at u.facts t k (slice_get u.steps m) ≡ Some basic → kind_behind (writing_of v b u.facts (kind_at u)) n st k ≡ Some basic
      by true is g = absurd (kept_nowhere u.facts k (slice_get u.steps m) basic g)
      by false is g =
          let same : suc m ≡ suc n = only_behind u n st (suc m) stands o is in
          let here : m ≡ n = omega (arith, same) in
          by_step n st k basic (λ found is. some_same st found (sym stands ∙ ap (slice_get u.steps) (sym here) ∙ is)) (kept_by u.facts k (slice_get u.steps m) basic g)

  stages : (n : ℕ) (st : Step) (m : ℕ) → slice_get u.steps n ≡ Some st → IsIn m (leads u n st) → (unit : ℤ) → stage_at u m ≡ Some unit → stage_behind (stage_at u n) st ≡ Some unit
  unfolding stage_at
  stages n st zero stands o unit h = absurd (cc)
  stages n st (suc m) stands o unit h = by (is_target u (suc m)) refl h
    where
      by : (t : Bool) → is_target u (suc m) ≡ t → flow.stage_behind t (stage_at u m) (slice_get u.steps m) ≡ Some unit → stage_behind (stage_at u n) st ≡ Some unit
      by true is g = absurd (none_reached (stage_at u m) (slice_get u.steps m) unit g)
      by false is g =
          let same : suc m ≡ suc n = only_behind u n st (suc m) stands o is in
          let here : m ≡ n = omega (arith, same) in
          let there : slice_get u.steps m ≡ Some st = ap (slice_get u.steps) here ∙ stands in
          sym (same_stage (stage_at u n) st) ∙ sym (at_stage (stage_at u n) st) ∙ ap (λ j. flow.stage_behind false (stage_at u j) (Some st)) (sym here) ∙ ap (flow.stage_behind false (stage_at u m)) (sym there) ∙ g

  on_at : (n : ℕ) (steps : List Step) (i k : ℕ) (st : Step) → k ≡ n + i → are_on u n steps ≡ true → slice_get steps i ≡ Some st → is_on st (stage_at u k) ≡ true
  unfolding are_on
  on_at n [] i k st at on stands = absurd (cc)
  on_at n (first ∷ later) zero k st at on stands =
      let same : k ≡ n = omega (arith, at) in
      let it : first ≡ st = some_same first st stands in
      subst (λ s. is_on s (stage_at u k) ≡ true) it (subst (λ j. is_on first (stage_at u j) ≡ true) (sym same) (and-first (is_on first (stage_at u n)) (are_on u (suc n) later) on))
  on_at n (first ∷ later) (suc i) k st at on stands = on_at (suc n) later i k st (omega (arith, at)) (and-second (is_on first (stage_at u n)) (are_on u (suc n) later) on) stands

  pub steps_fit : are_on u 0 u.steps ≡ true → u.begins 0 ≡ 0 → StepsFit v b u (kind_at u) (stage_at u)
  unfolding stage_at
  steps_fit on first = record {
    kinds = kinds;
    stages = stages;
    outputs = λ n st stands is. goes_on st (stage_at u n) is (on_at 0 u.steps n n st (omega arith) on stands);
    none_at_first = ap (stage_at u) first;
  }
