-- A unit is simulated by its text.
use Rattle.std.specs.Prelude.{◌≡◌, ℕ, suc, ◌+◌, ◌<◌, ◌≤◌, Bool, true, false, List, [], ◌∷◌, ◌++◌, length, Option, Some, None, slice_get, if◌then◌else◌}
use Rattle.std.proofs.Common.{refl, sym, ap, ◌∙◌, subst, arith, true≢false}
use Rattle.fortran_laws.specs.simulation.Machine.{Goes, Ends, Calls, Answers, Breaks, Entry, Enters, Refused}
use Rattle.fortran_laws.specs.simulation.LocalSimulation.{Does, Meets, Resumed, Opened, Local}
use Rattle.fortran_laws.specs.f_tree.Values.{Bytes, Datum, Checked, Gives, Fails}
use Rattle.fortran_laws.specs.f_tree.Values as value
use Rattle.fortran_laws.specs.f_tree.Terms.{Wanted, AsSubroutine, AsFunction, Callee, Terms}
use Rattle.fortran_laws.specs.f_tree.Store.{Store}
use Rattle.fortran_laws.specs.f_tree.Facts as head
use Rattle.fortran_laws.specs.f_tree.Facts.{Head, ToCall, ToTestLoop, Form, On, Line, ProgramUnit, UnitKind, MainProgram, SubroutineUnit, FunctionUnit, BlockDataUnit, Attribute, EntryPoint, Facts, Frame, Bounds, ToLoop}
use Rattle.fortran_laws.specs.f_tree.Valuing.{Red, Valued, Bad, Asks, reduce_all}
use Rattle.fortran_laws.specs.f_tree.World as fortran
use Rattle.fortran_laws.specs.f_tree.World.{World, Transfer, Round, Called, Passed, Happening, entered, RoundKind, While, Counted}
use Rattle.fortran_laws.specs.f_tree.Places.{terminal_of, arrived}
use Rattle.fortran_laws.specs.f_tree.Nests.{open_at, Range}
use Rattle.fortran_laws.specs.f_tree.Association.{call, cut_to, Bindings, begun_with, begun_bound, begun_at, entry_of, serves, bind_all, frame_of, result_of, with_result}
use Rattle.fortran_laws.specs.f_tree.Association as association
use Rattle.fortran_laws.specs.f_tree.Step.{contains, valued, doing, deed}
use Rattle.fortran_laws.specs.f_tree.Step as source
use Rattle.lowering.specs.l_core.Pures.{Pure, Pures, NoPure, AndPure, Temporaries, none_kept, with_kept, all_meant}
use Rattle.lowering.specs.l_core.Steps.{Step, Unless, CallFor, Text, Put}
use Rattle.lowering.specs.l_core.Machine.{View, lowered, testing, step, done, calling, resumed_at, gone_on, begun}
use Rattle.lowering.specs.l_core.Machine as target
use Rattle.lowering.specs.l_core.Costs.{cost, rest}
use Rattle.lowering.specs.Expressions.{Purpose, lower_all}
use Rattle.lowering.specs.Statements.{labels_written, hides_labels, loop_operands, test_by, loop_test}
use Rattle.lowering.specs.Units.{free_at, loop_exit, turn_size, turn_of}
use Rattle.lowering_laws.specs.Walks.{Spans, at_step, IsOrdinary, Keeps, SameBelow, AllCome, CallsFor, Follows}
use Rattle.lowering_laws.specs.Midway.{AreMidway, Mode, InOrder, OfLoop, lowered_as, AreIn, AreInLoop, LoopComes}
use Rattle.lowering_laws.specs.Layer.{IsNoLabel, IsGiven, labels_in, labels_for, Found, KnowsCall, IsCalled, BranchesBehind, CallsFunctions, AreWritten, Leads, there, plainly, own_of, ends_of, AreRounds, Reaches, IsSafe, by_all, by_those, BranchesNow, HasTransfer, FormTransfer, TransferNow, IsLoop, IsFollowed, IsFollowedBelow, IsClosing, for_set, for_set_label, for_go, for_pick, for_go_assigned, for_go_by_sign, for_guard, for_arm, for_test, for_call, for_return, for_return_by, for_stop, for_end, for_begin, for_item, for_finish, for_auxiliary, Stands, no_step, some_steps, IsLaidOut, IsPart, is_whole, IsAt, GoesBack, IsPlaced, is_doing, is_testing, IsMatched, lower_couple, IsPositive, Arrives, IsRound, Runs, IsModeOf, for_loop, is_under, is_turning}
use Rattle.lowering_laws.proofs.WalkLemmas.{split, spans_one, ordinary_by, same_less, same_trans, kept_above, join, onward as walked_on}
use Rattle.lowering_laws.proofs.ExpressionLemmas.{progress_all, TermsMet}
use Rattle.lowering_laws.proofs.OperandLemmas.{loop_progress}
use Rattle.lowering_laws.proofs.DoLemmas.{LoopStands, do_alike, LoopCode, turn_alike}
use Rattle.lowering_laws.proofs.CostLemmas.{Begins, way_to, way_back_to, leads_keep, begins_by, WayOn}
use Rattle.lowering_laws.proofs.PlaceLemmas.{all_start, GoesOn, Alike, own_low, rounds_same, own_place, arrives}
use Rattle.lowering_laws.proofs.LabelLemmas.{Suited, AllFine, all_fine, AllWritten, all_written, known_among, binds_well, bound_values}
use Rattle.lowering_laws.proofs.ReferenceLemmas.{first_of_closing, calls_functions}
use Rattle.lowering_laws.proofs.CallLemmas.{went, goes_same, function_given, suited_by, call_alike}
use Rattle.lowering_laws.proofs.StatementLemmas.{one_value, whole_form, test_alike, deed_met}

at_least : {a b : ℕ} → a ≡ b → a ≤ b
at_least e = omega (arith, e)

loop_form : (form : Form) (x : Option ℕ) (head : Head) (ts : Terms) (label : Option ℕ) (i : ℕ) → IsPart form x head ts → head ≡ ToLoop label → x ≡ Some i → form ≡ On (ToLoop label) ts
loop_form form x head ts label i (is_whole e) is place = e ∙ ap (λ z. On z ts) is
loop_form form _ head ts label i (is_under quiet) is place = absurd (cc)

-- what stands behind the condition of a DO WHILE
record TestClosing (u : Text) (i : ℕ) (label : Option ℕ) (ps : Pures) (closing : List Step) : Type 0 where
  test : Pure
  n : ℕ
  value : ps ≡ AndPure test NoPure
  all : closing ≡ Unless test n ∷ []
  stands : (last : ℕ) → terminal_of u.facts.program i label ≡ Some last → IsLoop u i last × (ends_of u i + n ≡ loop_exit u.facts.program (record { first = i; last = last }))

test_closing : (u : Text) (k : ℕ) (x : Option ℕ) (i : ℕ) (head : Head) (label : Option ℕ) (ts : Terms) (ps : Pures) (closing : List Step) → IsClosing u k x head ts ps closing → x ≡ Some i → head ≡ ToTestLoop label → TestClosing u i label ps closing
test_closing u k x i _ label _ _ _ for_set place is = absurd (cc)
test_closing u k x i _ label _ _ _ for_set_label place is = absurd (cc)
test_closing u k x i _ label _ _ _ for_go place is = absurd (cc)
test_closing u k x i _ label _ _ _ for_pick place is = absurd (cc)
test_closing u k x i _ label _ _ _ (for_go_assigned covers) place is = absurd (cc)
test_closing u k x i _ label _ _ _ for_go_by_sign place is = absurd (cc)
test_closing u k x i _ label _ _ _ (for_guard code) place is = absurd (cc)
test_closing u k x i _ label _ _ _ (for_arm flat room) place is = absurd (cc)
test_closing u k x i _ label _ _ _ (for_test {i = j} {n = n} {label = label'} {p = p} stands) place is =
    let at_place : j ≡ i = cc in
    let same_label : label' ≡ label = cc in
    record {
      test = p;
      n = n;
      value = refl;
      all = refl;
      stands =
          subst (λ z. (last : ℕ) → terminal_of u.facts.program z label ≡ Some last → IsLoop u z last × (ends_of u z + n ≡ loop_exit u.facts.program (record { first = z; last = last }))) at_place
          (subst (λ z. (last : ℕ) → terminal_of u.facts.program j z ≡ Some last → IsLoop u j last × (ends_of u j + n ≡ loop_exit u.facts.program (record { first = j; last = last }))) same_label stands);
    }
test_closing u k x i _ label _ _ _ (for_loop n stands) place is = absurd (cc)
test_closing u k x i _ label _ _ _ (for_call hides) place is = absurd (cc)
test_closing u k x i _ label _ _ _ for_return place is = absurd (cc)
test_closing u k x i _ label _ _ _ for_return_by place is = absurd (cc)
test_closing u k x i _ label _ _ _ for_stop place is = absurd (cc)
test_closing u k x i _ label _ _ _ for_end place is = absurd (cc)
test_closing u k x i _ label _ _ _ (for_begin code) place is = absurd (cc)
test_closing u k x i _ label _ _ _ (for_item code) place is = absurd (cc)
test_closing u k x i _ label _ _ _ for_finish place is = absurd (cc)
test_closing u k x i _ label _ _ _ for_auxiliary place is = absurd (cc)

-- the code of a DO WHILE
record WhileCode (u : Text) (k i : ℕ) (label : Option ℕ) (operands : Terms) (p q : ℕ) : Type 0 where
  purpose : Purpose
  test : Pure
  n : ℕ
  upto : ℕ
  value : (lower_all NoPure purpose k operands).value ≡ AndPure test NoPure
  before : Spans u p (lower_all NoPure purpose k operands).steps upto
  behind : Spans u upto (Unless test n ∷ []) q
  closes : IsClosing u k (Some i) (ToTestLoop label) operands (lower_all NoPure purpose k operands).value (Unless test n ∷ [])
  functions : CallsFunctions u p upto
  stands : (last : ℕ) → terminal_of u.facts.program i label ≡ Some last → IsLoop u i last × (ends_of u i + n ≡ loop_exit u.facts.program (record { first = i; last = last }))

while_from : (u : Text) (returns : BranchesBehind u) (k i : ℕ) (label : Option ℕ) (operands : Terms) (p q : ℕ) (mode : Mode) → IsModeOf mode (ToTestLoop label) → (closing : List Step) → IsClosing u k (Some i) (ToTestLoop label) operands (lowered_as mode k operands).value closing →
    Spans u p ((lowered_as mode k operands).steps ++ closing) q → WhileCode u k i label operands p q
while_from u returns k i label operands p q OfLoop modes closing closes spans = absurd modes
while_from u returns k i label operands p q (InOrder purpose) modes closing closes spans =
    let found = test_closing u k (Some i) i (ToTestLoop label) label operands (lower_all NoPure purpose k operands).value closing closes refl refl in
    let parts = split u (lower_all NoPure purpose k operands).steps spans in
    record {
      purpose = purpose;
      test = found.test;
      n = found.n;
      upto = parts.0;
      value = found.value;
      before = parts.1;
      behind = subst (λ z. Spans u parts.0 z q) found.all parts.2;
      closes = subst (λ z. IsClosing u k (Some i) (ToTestLoop label) operands (lower_all NoPure purpose k operands).value z) found.all closes;
      functions = calls_functions u returns k (Some i) (InOrder purpose) (ToTestLoop label) operands closing p parts.0 q closes parts.1 parts.2;
      stands = found.stands;
    }

while_code : (u : Text) (returns : BranchesBehind u) (k i : ℕ) (label : Option ℕ) (operands : Terms) (p q : ℕ) (form : Form) → Stands u k (Some i) form p q → form ≡ On (ToTestLoop label) operands → WhileCode u k i label operands p q
while_code u returns k i label operands p q _ (no_step leads) e = absurd (cc)
while_code u returns k i label operands p q _ (some_steps {head = head'} {ts = ts'} mode modes closing closes spans) e =
    let same_head : head' ≡ ToTestLoop label = cc in
    let same_operands : ts' ≡ operands = cc in
    while_from u returns k i label operands p q mode (subst (IsModeOf mode) same_head modes) closing
    (subst (λ z. IsClosing u k (Some i) (ToTestLoop label) z (lowered_as mode k z).value closing) same_operands (subst (λ z. IsClosing u k (Some i) z ts' (lowered_as mode k ts').value closing) same_head closes))
    (subst (λ z. Spans u p ((lowered_as mode k z).steps ++ closing) q) same_operands spans)

-- what stands behind the operands of a DO
record LoopClosing (u : Text) (x : Option ℕ) (head : Head) (ps : Pures) (closing : List Step) : Type 0 where
  label : Option ℕ
  i : ℕ
  is : head ≡ ToLoop label
  place : x ≡ Some i
  variable : Pure
  first : Pure
  limit : Pure
  by : Pure
  n : ℕ
  value : ps ≡ AndPure variable (AndPure first (AndPure limit (AndPure by NoPure)))
  all : closing ≡ Put variable first ∷ loop_test u.facts.program.onetrip (test_by variable limit by) n
  stands : LoopStands u i label n

loop_closing : (u : Text) (k : ℕ) (x : Option ℕ) (head : Head) (ts : Terms) (ps : Pures) (closing : List Step) → IsClosing u k x head ts ps closing → IsModeOf OfLoop head → LoopClosing u x head ps closing
loop_closing u k x _ _ _ _ for_set modes = absurd modes
loop_closing u k x _ _ _ _ for_set_label modes = absurd modes
loop_closing u k x _ _ _ _ for_go modes = absurd modes
loop_closing u k x _ _ _ _ for_pick modes = absurd modes
loop_closing u k x _ _ _ _ (for_go_assigned covers) modes = absurd modes
loop_closing u k x _ _ _ _ for_go_by_sign modes = absurd modes
loop_closing u k x _ _ _ _ (for_guard code) modes = absurd modes
loop_closing u k x _ _ _ _ (for_arm flat room) modes = absurd modes
loop_closing u k x _ _ _ _ (for_test stands) modes = absurd modes
loop_closing u k _ _ _ _ _ (for_loop {i = i} {label = label} {x = x} {first = first} {limit = limit} {by = by} n stands) modes =
    record { label = label; i = i; is = refl; place = refl; variable = x; first = first; limit = limit; by = by; n = n; value = refl; all = refl; stands = stands }
loop_closing u k x _ _ _ _ (for_call hides) modes = absurd modes
loop_closing u k x _ _ _ _ for_return modes = absurd modes
loop_closing u k x _ _ _ _ for_return_by modes = absurd modes
loop_closing u k x _ _ _ _ for_stop modes = absurd modes
loop_closing u k x _ _ _ _ for_end modes = absurd modes
loop_closing u k x _ _ _ _ (for_begin code) modes = absurd modes
loop_closing u k x _ _ _ _ (for_item code) modes = absurd modes
loop_closing u k x _ _ _ _ for_finish modes = absurd modes
loop_closing u k x _ _ _ _ for_auxiliary modes = absurd modes

-- the code of a DO
loop_from : (u : Text) (i : ℕ) (label : Option ℕ) (operands : Terms) (p : ℕ) (mode : Mode) → mode ≡ OfLoop → (closing : List Step) → IsClosing u (free_at u.facts.program i) (Some i) (ToLoop label) operands (lowered_as mode (free_at u.facts.program i) operands).value closing →
    Spans u p ((lowered_as mode (free_at u.facts.program i) operands).steps ++ closing) (ends_of u i) → LoopCode u i label operands
loop_from u i label operands p (InOrder purpose) modes closing closes spans = absurd (cc)
loop_from u i label operands p OfLoop modes closing closes spans =
    let found = loop_closing u (free_at u.facts.program i) (Some i) (ToLoop label) operands (loop_operands (free_at u.facts.program i) operands).value closing closes refl in
    let parts = split u (loop_operands (free_at u.facts.program i) operands).steps spans in
    let place : found.i ≡ i = (let e = found.place in cc) in
    let same_label : found.label ≡ label = (let e = found.is in cc) in
    record {
      x = found.variable;
      first = found.first;
      limit = found.limit;
      by = found.by;
      n = found.n;
      upto = parts.0;
      value = found.value;
      behind = subst (λ z. Spans u parts.0 z (ends_of u i)) found.all parts.2;
      stands = subst (λ z. LoopStands u z label found.n) place (subst (λ z. LoopStands u found.i z found.n) same_label found.stands);
    }

loop_code : (u : Text) (i : ℕ) (label : Option ℕ) (operands : Terms) (p : ℕ) (form : Form) → Stands u (free_at u.facts.program i) (Some i) form p (ends_of u i) → form ≡ On (ToLoop label) operands → LoopCode u i label operands
loop_code u i label operands p _ (no_step leads) e = absurd (cc)
loop_code u i label operands p _ (some_steps {head = head'} {ts = ts'} mode modes closing closes spans) e =
    let same_head : head' ≡ ToLoop label = cc in
    let same_operands : ts' ≡ operands = cc in
    loop_from u i label operands p mode (subst (IsModeOf mode) same_head modes) closing
    (subst (λ z. IsClosing u (free_at u.facts.program i) (Some i) (ToLoop label) z (lowered_as mode (free_at u.facts.program i) z).value closing) same_operands
    (subst (λ z. IsClosing u (free_at u.facts.program i) (Some i) z ts' (lowered_as mode (free_at u.facts.program i) ts').value closing) same_head closes))
    (subst (λ z. Spans u p ((lowered_as mode (free_at u.facts.program i) z).steps ++ closing) (ends_of u i)) same_operands spans)

no_do : (purpose : Purpose) (head : Head) (label : Option ℕ) → IsModeOf (InOrder purpose) head → head ≡ ToLoop label → ⊥
no_do purpose head label modes is = absurd (let bad : InOrder purpose ≡ OfLoop = subst (IsModeOf (InOrder purpose)) is modes in cc)

-- the branches of a statement of which operands are valued
branches_on : (p : ProgramUnit) (i : ℕ) (head : Head) (ts rs : Terms) → ((name : Bytes) → head ≡ ToCall name → IsSafe p i rs) → BranchesNow p i head ts → BranchesNow p i head rs
branches_on p i (head.ToGo label) ts rs safe well = well
branches_on p i (head.ToPick labels) ts rs safe well = well
branches_on p i (head.ToGoBySign below at above) ts rs safe well = well
branches_on p i (head.ToGuard form) ts rs safe well = well
branches_on p i (head.ToCall name) ts rs safe well = safe name refl
branches_on p i head.ToSet ts rs safe well = tt
branches_on p i head.ToSetText ts rs safe well = tt
branches_on p i (head.ToSetLabel label) ts rs safe well = tt
branches_on p i (head.ToGoAssigned labels) ts rs safe well = tt
branches_on p i head.ToEnterArm ts rs safe well = tt
branches_on p i (head.ToLoop label) ts rs safe well = tt
branches_on p i (head.ToTestLoop label) ts rs safe well = tt
branches_on p i head.ToReturn ts rs safe well = tt
branches_on p i (head.ToStop text) ts rs safe well = tt
branches_on p i (head.ToBegin way layout controls work) ts rs safe well = well
branches_on p i (head.ToTransfer rest') ts rs safe well = tt
branches_on p i (head.ToRepeat items rest') ts rs safe well = tt
branches_on p i (head.ToTurn items q left by given rest') ts rs safe well = tt
branches_on p i head.ToFinish ts rs safe well = tt
branches_on p i (head.ToAuxiliary which controls) ts rs safe well = well
branches_on p i head.ToEnd ts rs safe well = tt

call_branches : (p : ProgramUnit) (i : ℕ) (head : Head) (ts : Terms) (name : Bytes) → head ≡ ToCall name → BranchesNow p i head ts → IsSafe p i ts
call_branches p i head ts name e well = subst (λ z. BranchesNow p i z ts) e well

-- the labels to which the valuing of a CALL's operands comes may be branched to
data SafeRed (p : ProgramUnit) (i : ℕ) (x : Red (List Datum) Terms) : Type 0 where
  red_all : ((label : ℕ) → Reaches p i label) → SafeRed p i x
  red_those : (known : ℕ → Bool) → AllFine known x → ((label : ℕ) → known label ≡ true → Reaches p i label) → SafeRed p i x

safe_red : (c : Facts) (f : Frame) (s : Store) (holds : (x : Bytes) (d : Datum) → f.bound x ≡ Some d → IsNoLabel d) (i : ℕ) (ts : Terms) → IsSafe c.program i ts → SafeRed c.program i (reduce_all c f s [] ts)
safe_red c f s holds i ts (by_all reach) = red_all reach
safe_red c f s holds i ts (by_those known e reach) = red_those known (all_fine known c f s holds [] ts tt e) reach

safe_values : (p : ProgramUnit) (i : ℕ) (ds : List Datum) → SafeRed p i (Valued ds) → (l : ℕ) → contains (labels_in ds) l ≡ true → Reaches p i l
safe_values p i ds (red_all reach) l found = reach l
safe_values p i ds (red_those known all reach) l found = reach l (known_among known ds l all found)

safe_rest : (p : ProgramUnit) (i : ℕ) (callee : Callee) (ds : List Datum) (rest' : Datum → Terms) → SafeRed p i (Asks callee ds rest') → (d : Datum) → Suited callee.want d → IsSafe p i (rest' d)
safe_rest p i callee ds rest' (red_all reach) d suited = by_all reach
safe_rest p i callee ds rest' (red_those known all reach) d suited = by_those known (all d suited) reach

module _ (number : ℕ) (u : Text) (cs : List ℕ) (laid : IsLaidOut u) (positive : IsPositive u cs) where
  -- what the text comes to from a position, what that costs, and that a step more may be paid where that is said
  record IsReached (o : Type 0) (f : Frame) (h : ℕ) (w : World) (p : ℕ) (m : Temporaries) (e : target.Doing) : Type 0 where
    count : ℕ
    does : Does lowered (λ x. cost cs x.at) u (at_step f h p m) w count e
    few : count ≤ rest cs 0
    spare : o → 1 + count ≤ rest cs 0

  reached_on : (f : Frame) (h : ℕ) (w : World) (p r q : ℕ) (m m' : Temporaries) → Begins u f h w cs p m r → Keeps u f h w r m q m' → IsOrdinary u q → IsReached (IsFollowed u q) f h w p m (step u (at_step f h q m') w)
  reached_on f h w p r q m m' begins way ordinary =
      let all = way_to u f h w cs (step u (at_step f h q m') w) begins way ordinary refl in
      record {
        count = all.count;
        does = all.does;
        few = all.few;
        spare = λ followed.
            let more = all.spare followed.at followed.behind followed.ordinary in
            let some = positive followed.at followed.step followed.is in
            omega (arith, more, some);
      }

  -- from the end of a range the text goes back first
  reached_back : (f : Frame) (h : ℕ) (w : World) (p low q' q : ℕ) (m m' : Temporaries) → GoesBack u m low p q' → Keeps u f h w q' m q m' → IsOrdinary u q → q < low → IsReached (IsFollowedBelow u q low) f h w p m (step u (at_step f h q m') w)
  reached_back f h w p low q' q m m' back way ordinary inside =
      let first = begins_by u f h w cs back.arrives in
      let all = way_back_to u f h w cs (step u (at_step f h q m') w) first.1 (leads_keep u f h w cs m first.2) back.there back.is way ordinary refl first.3 inside in
      record {
        count = all.count;
        does = all.does;
        few = all.few;
        spare = λ followed.
            let more = all.spare followed.is.at followed.is.behind followed.below followed.is.ordinary in
            let some = positive followed.is.at followed.is.step followed.is.is in
            omega (arith, more, some);
      }

  -- what is alike behind a way is met
  met_by : (f : Frame) (h : ℕ) (μ : Found) (w : World) (p : ℕ) (m : Temporaries) (o : Type 0) (ev : Happening) (e : target.Doing) → IsReached o f h w p m e → Alike u μ o ev e → Meets (lower_couple number u cs) μ (at_step f h p m) w (rest cs 0) ev
  met_by f h μ w p m o (Goes v w') e all alike =
      record { count = all.count; view = alike.view; shared = w'; does = subst (Does lowered (λ x. cost cs x.at) u (at_step f h p m) w all.count) alike.is all.does; few = all.few; matched = alike.matched }
  met_by f h μ w p m o (Ends z v w') e all alike =
      record { count = all.count; view = alike.view; shared = w'; does = subst (Does lowered (λ x. cost cs x.at) u (at_step f h p m) w all.count) alike.is all.does; few = all.few; halted = (refl, alike.frame) }
  met_by f h μ w p m o (Calls v w' name a) e all alike =
      record {
        count = all.count;
        view = alike.view;
        shared = w';
        name = name;
        arg = a;
        does = subst (Does lowered (λ x. cost cs x.at) u (at_step f h p m) w all.count) alike.is all.does;
        few = all.spare alike.followed;
        world = record { transfer = w'.transfer; wanted = a.want; labels = alike.labels };
        grows = tt;
        passed = (refl, refl, refl, refl, refl, alike.passed);
        waits = alike.frame;
        resumes = λ s x t x' given. resumed_by (association.resume u.facts v x s) alike.view x' t (alike.goes_on s x t x' given);
      }
    where
      resumed_by : (y : Entry fortran.fortran_sorts) (z : View) (x : Datum) (t : World) → GoesOn u μ y z x t → Resumed (lower_couple number u cs) μ y z x t
      resumed_by (Enters v' s') z x t on = on
      resumed_by (Refused act) z x t on = λ claimed. claimed
  met_by f h μ w p m o (Answers w' d) e all alike =
      record { count = all.count; shared = w'; ans = alike.answer; does = subst (Does lowered (λ x. cost cs x.at) u (at_step f h p m) w all.count) alike.is all.does; few = all.few; given = (refl, alike.transfer, alike.given) }
  met_by f h μ w p m o (Breaks act) e all alike = λ claimed. absurd claimed

  -- ## References to functions

  -- what is known of a statement in the midst of its operands
  record IsMidst (k : ℕ) (place : Option ℕ) (f : Frame) (μ : Found) (i from upto : ℕ) (m : Temporaries) (rounds : List Round) (head : Head) (operands left : Terms) (mode : Mode) (closing : List Step) : Type 0 where
    called : IsCalled u.facts.program.kind f μ
    whole : (j : ℕ) → place ≡ Some j → j ≡ i
    stand : AreRounds u f m (open_at u.facts.program i) rounds
    modes : IsModeOf mode head
    enough : free_at u.facts.program i ≡ k
    line : Line
    at_line : slice_get u.facts.program.lines i ≡ Some line
    part : IsPart line.form place head operands
    closes : IsClosing u k place head operands (lowered_as mode k operands).value closing
    behind : Spans u upto closing (ends_of u i)
    functions : CallsFunctions u from upto
    branches : BranchesNow u.facts.program i head left

  -- in the midst of operands, the text goes on behind each answer
  resumed_alike : (k : ℕ) (place : Option ℕ) (f : Frame) (μ : Found) (x : Option Transfer) (i from at into height upto : ℕ) (m kept : Temporaries) (rounds : List Round) (head : Head) (operands left : Terms) (mode : Mode) (closing : List Step) (callee : Callee) (es : List Datum) (ps : Pures) (rest' : Datum → Terms) →
      HasTransfer u.facts.program μ i head x → IsMidst k place f μ i from upto m rounds head operands left mode closing → u.begins i ≤ from → from ≤ at → SameBelow k m kept → k ≤ into → slice_get u.steps at ≡ Some (CallFor into callee ps) →
      ((d : Datum) → AreIn u f mode k operands (rest' d) (suc at) (with_kept into d kept) upto) →
      (callee.want ≡ AsSubroutine → ⊥) → ((name : Bytes) → head ≡ ToCall name → hides_labels operands ≡ false → (d : Datum) → Suited callee.want d → AreWritten (labels_written operands) (rest' d)) →
      ((name : Bytes) → head ≡ ToCall name → (d : Datum) → Suited callee.want d → IsSafe u.facts.program i (rest' d)) →
      (s : World) (r : Datum) (t : World) (r' : Datum) → (s ≡ t) × (s.transfer ≡ x) × IsGiven callee.want (labels_for callee.want es) r r' →
      GoesOn u μ (association.resume u.facts (record { frame = f; at = i; now = fortran.Waits height (λ d. On head (rest' d)); loops = rounds }) r s) (at_step f height at kept) r' t
  unfolding association.resume association.resumed_by target.resume resumed_at gone_on cut_to
  resumed_alike k place f μ x i from at into height upto m kept rounds head operands left mode closing callee es ps rest' has midst low up same above there' mid function written safe s r t r' given = let answer = function_given callee.want (labels_for callee.want es) r r' function given.2 in (
    at_step f height (suc at) (with_kept into r' kept),
    cut_to height t,
    ap (λ st. resumed_at st (at_step f height at kept) r' t) there',
    record {
      same = ap (cut_to height) given.0;
      transfer = subst (HasTransfer u.facts.program μ i head) (sym given.1) has;
      called = midst.called;
      position = suc at;
      kept = with_kept into r' kept;
      height = height;
      seen = refl;
      open' = open_at u.facts.program i;
      rounds =
          rounds_same u laid f m (with_kept into r' kept) i rounds
          (same_less (free_at u.facts.program i) k m (with_kept into r' kept) (at_least midst.enough) (same_trans k m kept (with_kept into r' kept) same (kept_above k into r' kept above))) midst.stand;
      placed = is_doing refl (record {
        head = head;
        operands = operands;
        left = rest' r;
        is = refl;
        mode = mode;
        modes = midst.modes;
        closing = closing;
        free = k;
        enough = midst.enough;
        place = place;
        at_place = midst.whole;
        line = midst.line;
        there = midst.at_line;
        from = suc at;
        upto = upto;
        low = omega (arith, low, up);
        arrives = plainly (omega arith) there;
        midway = subst (λ d. AreIn u f mode k operands (rest' r) (suc at) (with_kept into d kept) upto) answer.0 (mid r);
        closes = midst.closes;
        behind = midst.behind;
        functions = λ at' k' callee' ps' later inside. midst.functions at' k' callee' ps' (omega (arith, up, later)) inside;
        written = λ name is hides. written name is hides r (suited_by callee.want r answer.1);
        part = midst.part;
        branches = branches_on u.facts.program i head left (rest' r) (λ name is. safe name is r (suited_by callee.want r answer.1)) midst.branches;
      });
    },
  )

  called_step : (f : Frame) (h : ℕ) (w : World) (at into : ℕ) (kept : Temporaries) (callee : Callee) (ps : Pures) (ds : List Datum) → slice_get u.steps at ≡ Some (CallFor into callee ps) → all_meant u.facts f kept w.store ps ≡ Gives ds →
      step u (at_step f h at kept) w ≡ calling u (at_step f h at kept) w callee (Gives ds)
  unfolding step done
  called_step f h w at into kept callee ps ds place e = ap (done u (at_step f h at kept) w) place ∙ ap (calling u (at_step f h at kept) w callee) e

  -- a reference in the midst of operands
  asked_alike : (o : Type 0) (k : ℕ) (place : Option ℕ) (f : Frame) (h : ℕ) (μ : Found) (w : World) (i from upto : ℕ) (m : Temporaries) (rounds : List Round) (head : Head) → HasTransfer u.facts.program μ i head w.transfer → (operands left : Terms) (mode : Mode) (closing : List Step) (now : fortran.Now)
      (callee : Callee) (ds : List Datum) (rest' : Datum → Terms) →
      IsMidst k place f μ i from upto m rounds head operands left mode closing → u.begins i ≤ from →
      (calls : CallsFor u f h w k from m upto callee ds (λ d p' m'. AreIn u f mode k operands (rest' d) p' m' upto)) → o →
      ((name : Bytes) → head ≡ ToCall name → hides_labels operands ≡ false → AllWritten (labels_written operands) (Asks callee ds rest')) →
      ((name : Bytes) → head ≡ ToCall name → SafeRed u.facts.program i (Asks callee ds rest')) →
      Alike u μ o (call u.facts (record { frame = f; at = i; now = now; loops = rounds }) w callee ds (λ height. fortran.Waits height (λ d. On head (rest' d)))) (step u (at_step f h calls.at calls.kept) w)
  asked_alike o k place f h μ w i from upto m rounds head has operands left mode closing now callee ds rest' midst low calls followed fine safe =
      let up = walked_on u f h w calls.way in
      call_alike u f h μ w i calls.at calls.kept rounds o followed callee ds (λ height. fortran.Waits height (λ d. On head (rest' d))) now
      (λ s x t x' given.
      resumed_alike k place f μ w.transfer i from calls.at calls.into (length w.store) upto m calls.kept rounds head operands left mode closing callee ds calls.operands rest' has midst low up calls.same calls.above calls.there calls.left
      (midst.functions calls.at calls.into callee calls.operands up calls.inside calls.there) fine
      (λ name is. safe_rest u.facts.program i callee ds rest' (safe name is)) s x t x' given)
      (step u (at_step f h calls.at calls.kept) w) (called_step f h w calls.at calls.into calls.kept callee calls.operands ds calls.there calls.values)

  followed_up : (k : ℕ) (place : Option ℕ) (f : Frame) (μ : Found) (i from upto at : ℕ) (m : Temporaries) (rounds : List Round) (head : Head) (operands left : Terms) (mode : Mode) (closing : List Step) →
      IsMidst k place f μ i from upto m rounds head operands left mode closing → at < upto → IsFollowed u at
  followed_up k place f μ i from upto at m rounds head operands left mode closing midst inside =
      let first = first_of_closing u k place head operands (lowered_as mode k operands).value closing upto (ends_of u i) midst.closes midst.behind in
      record { at = upto; step = first.0; behind = inside; is = first.1; ordinary = ordinary_by u upto first.0 first.1 first.2 }

  -- ## A step

  valued_met : (k : ℕ) (place : Option ℕ) (f : Frame) (h : ℕ) (μ : Found) (w : World) (i p r from upto : ℕ) (m : Temporaries) (rounds : List Round) (head : Head) → HasTransfer u.facts.program μ i head w.transfer → (operands left : Terms) (purpose : Purpose) (closing : List Step) (now : fortran.Now) →
      IsMidst k place f μ i from upto m rounds head operands left (InOrder purpose) closing → u.begins i ≤ from → Begins u f h w cs p m r → Leads u r from → (x : Red (List Datum) Terms) →
      Follows u f h w k from m upto (λ ds m'. AllCome u.facts f w.store purpose (lower_all NoPure purpose k operands).free m' (lower_all NoPure purpose k operands).value ds) (λ rs' p' m'. AreMidway u f NoPure [] purpose k operands rs' p' m' upto) x →
      ((name : Bytes) → head ≡ ToCall name → hides_labels operands ≡ false → AllWritten (labels_written operands) x) → ((name : Bytes) → head ≡ ToCall name → SafeRed u.facts.program i x) →
      Meets (lower_couple number u cs) μ (at_step f h p m) w (rest cs 0) (valued u.facts (record { frame = f; at = i; now = now; loops = rounds }) w head x)
  unfolding valued
  valued_met k place f h μ w i p r from upto m rounds head has operands left purpose closing now midst low begins leads (Valued ds) ends fine safe =
      let up = walked_on u f h w ends.way in
      let stand = rounds_same u laid f m ends.kept i rounds (same_less (free_at u.facts.program i) k m ends.kept (at_least midst.enough) ends.same) midst.stand in
      let led = deed_met u laid f h μ w i upto ends.kept now midst.called rounds stand midst.line midst.at_line (omega (arith, up, low)) k place midst.whole head has operands left (lower_all NoPure purpose k operands).value closing ds (λ label is. no_do purpose head label midst.modes is) midst.enough midst.part midst.branches
      midst.closes midst.behind (ends.good.now ends.kept (λ j below. refl)) fine (λ name is. safe_values u.facts.program i ds (safe name is)) in
      met_by f h μ w p m (IsFollowed u led.upto) (deed u.facts (record { frame = f; at = i; now = now; loops = rounds }) w head ds) (step u (at_step f h led.upto led.kept) w)
      (reached_on f h w p r led.upto m led.kept begins (join u f h w (join u f h w (leads_keep u f h w cs m leads) ends.way) led.way) led.ordinary) led.alike
  valued_met k place f h μ w i p r from upto m rounds head has operands left purpose closing now midst low begins leads (Bad act) tt fine safe = λ claimed. absurd claimed
  valued_met k place f h μ w i p r from upto m rounds head has operands left purpose closing now midst low begins leads (Asks callee ds rest') calls fine safe =
      met_by f h μ w p m (IsFollowed u calls.at) (call u.facts (record { frame = f; at = i; now = now; loops = rounds }) w callee ds (λ height. fortran.Waits height (λ d. On head (rest' d)))) (step u (at_step f h calls.at calls.kept) w)
      (reached_on f h w p r calls.at m calls.kept begins (join u f h w (leads_keep u f h w cs m leads) calls.way) (ordinary_by u calls.at (CallFor calls.into callee calls.operands) calls.there tt))
      (asked_alike (IsFollowed u calls.at) k place f h μ w i from upto m rounds head has operands left (InOrder purpose) closing now callee ds rest' midst low calls
      (followed_up k place f μ i from upto calls.at m rounds head operands left (InOrder purpose) closing midst calls.inside) fine safe)

  -- the start of a DO
  reached_so : (f : Frame) (h : ℕ) (w : World) (p : ℕ) (m : Temporaries) (e : target.Doing) → WayOn u f h w cs p m e → IsReached ⊥ f h w p m e
  reached_so f h w p m e way = record { count = way.count; does = way.does; few = way.few; spare = λ none. absurd none }

  loop_met : (k : ℕ) (place : Option ℕ) (f : Frame) (h : ℕ) (μ : Found) (w : World) (i p r from upto : ℕ) (m : Temporaries) (rounds : List Round) (head : Head) → HasTransfer u.facts.program μ i head w.transfer → (operands left : Terms) (closing : List Step) (now : fortran.Now) →
      IsMidst k place f μ i from upto m rounds head operands left OfLoop closing → u.begins i ≤ from → Begins u f h w cs p m r → Leads u r from → (x : Red (List Datum) Terms) →
      Follows u f h w k from m upto (λ ds m'. LoopComes u.facts f w.store (loop_operands k operands).free m' (loop_operands k operands).value ds) (λ rs' p' m'. AreInLoop u f k operands rs' p' m' upto) x →
      ((name : Bytes) → head ≡ ToCall name → hides_labels operands ≡ false → AllWritten (labels_written operands) x) → ((name : Bytes) → head ≡ ToCall name → SafeRed u.facts.program i x) →
      Meets (lower_couple number u cs) μ (at_step f h p m) w (rest cs 0) (valued u.facts (record { frame = f; at = i; now = now; loops = rounds }) w head x)
  unfolding valued
  loop_met k place f h μ w i p r from upto m rounds head has operands left closing now midst low begins leads (Valued ds) ends fine safe =
      let up = walked_on u f h w ends.way in
      let stand = rounds_same u laid f m ends.kept i rounds (same_less (free_at u.facts.program i) k m ends.kept (at_least midst.enough) ends.same) midst.stand in
      let c = loop_closing u k place head operands (loop_operands k operands).value closing midst.closes midst.modes in
      let at : c.i ≡ i = midst.whole c.i c.place in
      let whole = loop_form midst.line.form place head operands c.label c.i midst.part c.is c.place in
      let spans = subst (λ z. Spans u upto z (ends_of u i)) c.all midst.behind in
      let k_is : k ≡ free_at u.facts.program i = sym midst.enough in
      let done' =
      do_alike u laid cs f h μ w (subst (λ z. HasTransfer u.facts.program μ i z w.transfer) c.is has) midst.called i upto ends.kept now rounds stand midst.line midst.at_line (omega (arith, up, low)) c.label operands whole c.variable c.first c.limit c.by c.n
      (subst (λ z. (loop_operands z operands).value ≡ AndPure c.variable (AndPure c.first (AndPure c.limit (AndPure c.by NoPure)))) k_is c.value) spans (subst (λ z. LoopStands u z c.label c.n) at c.stands) ds
      (subst (λ z. LoopComes u.facts f w.store (loop_operands z operands).free ends.kept (loop_operands z operands).value ds) k_is ends.good) in
      subst (λ z. Meets (lower_couple number u cs) μ (at_step f h p m) w (rest cs 0) (deed u.facts (record { frame = f; at = i; now = now; loops = rounds }) w z ds)) (sym c.is)
      (met_by f h μ w p m ⊥ (deed u.facts (record { frame = f; at = i; now = now; loops = rounds }) w (ToLoop c.label) ds) done'.event
      (reached_so f h w p m done'.event (done'.reach p r m begins (join u f h w (leads_keep u f h w cs m leads) ends.way))) done'.alike)
  loop_met k place f h μ w i p r from upto m rounds head has operands left closing now midst low begins leads (Bad act) tt fine safe = λ claimed. absurd claimed
  loop_met k place f h μ w i p r from upto m rounds head has operands left closing now midst low begins leads (Asks callee ds rest') calls fine safe =
      met_by f h μ w p m (IsFollowed u calls.at) (call u.facts (record { frame = f; at = i; now = now; loops = rounds }) w callee ds (λ height. fortran.Waits height (λ d. On head (rest' d)))) (step u (at_step f h calls.at calls.kept) w)
      (reached_on f h w p r calls.at m calls.kept begins (join u f h w (leads_keep u f h w cs m leads) calls.way) (ordinary_by u calls.at (CallFor calls.into callee calls.operands) calls.there tt))
      (asked_alike (IsFollowed u calls.at) k place f h μ w i from upto m rounds head has operands left OfLoop closing now callee ds rest' midst low calls
      (followed_up k place f μ i from upto calls.at m rounds head operands left OfLoop closing midst calls.inside) fine safe)

  -- by how the operands are lowered
  mode_met : (mode : Mode) (k : ℕ) (place : Option ℕ) (f : Frame) (h : ℕ) (μ : Found) (w : World) (i p r from upto : ℕ) (m : Temporaries) (rounds : List Round) (head : Head) → HasTransfer u.facts.program μ i head w.transfer → (operands left : Terms) (closing : List Step) (now : fortran.Now) →
      IsMidst k place f μ i from upto m rounds head operands left mode closing → u.begins i ≤ from → Begins u f h w cs p m r → Leads u r from → AreIn u f mode k operands left from m upto →
      ((name : Bytes) → head ≡ ToCall name → hides_labels operands ≡ false → AllWritten (labels_written operands) (reduce_all u.facts f w.store [] left)) → ((name : Bytes) → head ≡ ToCall name → SafeRed u.facts.program i (reduce_all u.facts f w.store [] left)) →
      Meets (lower_couple number u cs) μ (at_step f h p m) w (rest cs 0) (valued u.facts (record { frame = f; at = i; now = now; loops = rounds }) w head (reduce_all u.facts f w.store [] left))
  unfolding TermsMet
  mode_met (InOrder purpose) k place f h μ w i p r from upto m rounds head has operands left closing now midst low begins leads mid fine safe =
      valued_met k place f h μ w i p r from upto m rounds head has operands left purpose closing now midst low begins leads (reduce_all u.facts f w.store [] left) (progress_all u f h w mid tt).met fine safe
  mode_met OfLoop k place f h μ w i p r from upto m rounds head has operands left closing now midst low begins leads mid fine safe =
      loop_met k place f h μ w i p r from upto m rounds head has operands left closing now midst low begins leads (reduce_all u.facts f w.store [] left) (loop_progress u f h w mid).met fine safe

  at_met : (f : Frame) (h : ℕ) (μ : Found) (w : World) → IsCalled u.facts.program.kind f μ → (i p : ℕ) (m : Temporaries) (rounds : List Round) → AreRounds u f m (open_at u.facts.program i) rounds → (form : Form) → FormTransfer u.facts.program μ i form w.transfer → IsAt u f i form p m →
      Meets (lower_couple number u cs) μ (at_step f h p m) w (rest cs 0) (doing u.facts (record { frame = f; at = i; now = fortran.Doing form; loops = rounds }) w form)
  unfolding doing
  at_met f h μ w called i p m rounds stand form has is =
      let first = begins_by u f h w cs is.arrives in
      subst (λ z. Meets (lower_couple number u cs) μ (at_step f h p m) w (rest cs 0) (doing u.facts (record { frame = f; at = i; now = fortran.Doing z; loops = rounds }) w z)) (sym is.is)
      (mode_met is.mode is.free is.place f h μ w i p first.0 is.from is.upto m rounds is.head (subst (λ z. FormTransfer u.facts.program μ i z w.transfer) is.is has) is.operands is.left is.closing (fortran.Doing (On is.head is.left))
      (record { called = called; whole = is.at_place; stand = stand; modes = is.modes; enough = is.enough; line = is.line; at_line = is.there; part = is.part; closes = is.closes; behind = is.behind; functions = is.functions; branches = is.branches })
      is.low first.1 first.2 is.midway
      (λ name e hides. let written = is.written name e hides in subst (λ z. AllWritten z (reduce_all u.facts f w.store [] is.left)) written.1 (all_written u.facts f w.store called.none is.left written.0))
      (λ name e. safe_red u.facts f w.store called.none i is.left (call_branches u.facts.program i is.head is.left name e is.branches)))

  -- ## The condition of a DO WHILE, behind its range

  tested_met : (k : ℕ) (f : Frame) (h : ℕ) (μ : Found) (w : World) → w.transfer ≡ μ.transfer → (i p upto n : ℕ) (m : Temporaries) (rounds : List Round) (label : Option ℕ) (operands : Terms) (purpose : Purpose) (test : Pure) (now : fortran.Now) →
      IsMidst k (Some i) f μ i (own_of u i) upto m rounds (ToTestLoop label) operands operands (InOrder purpose) (Unless test n ∷ []) → (lower_all NoPure purpose k operands).value ≡ AndPure test NoPure →
      ((last : ℕ) → terminal_of u.facts.program i label ≡ Some last → IsLoop u i last × (ends_of u i + n ≡ loop_exit u.facts.program (record { first = i; last = last }))) →
      GoesBack u m (ends_of u i) p (own_of u i) → (x : Red (List Datum) Terms) →
      Follows u f h w k (own_of u i) m upto (λ ds m'. AllCome u.facts f w.store purpose (lower_all NoPure purpose k operands).free m' (lower_all NoPure purpose k operands).value ds) (λ rs' p' m'. AreMidway u f NoPure [] purpose k operands rs' p' m' upto) x →
      Meets (lower_couple number u cs) μ (at_step f h p m) w (rest cs 0) (valued u.facts (record { frame = f; at = i; now = now; loops = rounds }) w (ToTestLoop label) x)
  unfolding valued step done testing
  tested_met k f h μ w same i p upto n m rounds label operands purpose test now midst value stands back (Valued ds) ends =
      let one = spans_one u midst.behind in
      let low = own_low u i in
      let up = walked_on u f h w ends.way in
      let now' = subst (λ z. all_meant u.facts f ends.kept w.store z ≡ Gives ds) value (ends.good.now ends.kept (λ j below. refl)) in
      let v = one_value u.facts f ends.kept w.store test ds now' in
      let stand = rounds_same u laid f m ends.kept i rounds (same_less (free_at u.facts.program i) k m ends.kept (at_least midst.enough) ends.same) midst.stand in
      let e : step u (at_step f h upto ends.kept) w ≡ testing (suc upto) (suc upto + n) (at_step f h upto ends.kept) w (Gives v.first) =
      ap (done u (at_step f h upto ends.kept) w) one.0 ∙ ap (testing (suc upto) (suc upto + n) (at_step f h upto ends.kept) w) v.first_is in
      met_by f h μ w p m (IsFollowedBelow u upto (ends_of u i)) (deed u.facts (record { frame = f; at = i; now = now; loops = rounds }) w (ToTestLoop label) ds) (step u (at_step f h upto ends.kept) w)
      (reached_back f h w p (ends_of u i) (own_of u i) upto m ends.kept back ends.way (ordinary_by u upto (Unless test n) one.0 tt) (let end = one.1 in omega (arith, end)))
      (subst (λ z. Alike u μ (IsFollowedBelow u upto (ends_of u i)) (deed u.facts (record { frame = f; at = i; now = now; loops = rounds }) w (ToTestLoop label) ds) z) (sym e)
      (subst (λ z. Alike u μ (IsFollowedBelow u upto (ends_of u i)) (deed u.facts (record { frame = f; at = i; now = now; loops = rounds }) w (ToTestLoop label) z) (testing (suc upto) (suc upto + n) (at_step f h upto ends.kept) w (Gives v.first))) (sym v.are)
      (test_alike u laid f h μ w i upto ends.kept now same midst.called rounds stand midst.line midst.at_line (omega (arith, low, up)) (IsFollowedBelow u upto (ends_of u i)) label operands n v.first (sym one.1)
      (whole_form midst.line.form i (ToTestLoop label) operands midst.part) stands)))
  tested_met k f h μ w same i p upto n m rounds label operands purpose test now midst value stands back (Bad act) tt = λ claimed. absurd claimed
  tested_met k f h μ w same i p upto n m rounds label operands purpose test now midst value stands back (Asks callee ds rest') calls =
      let one = spans_one u midst.behind in
      met_by f h μ w p m (IsFollowedBelow u calls.at (ends_of u i)) (call u.facts (record { frame = f; at = i; now = now; loops = rounds }) w callee ds (λ height. fortran.Waits height (λ d. On (ToTestLoop label) (rest' d)))) (step u (at_step f h calls.at calls.kept) w)
      (reached_back f h w p (ends_of u i) (own_of u i) calls.at m calls.kept back calls.way (ordinary_by u calls.at (CallFor calls.into callee calls.operands) calls.there tt) (let end = one.1 in let inside = calls.inside in omega (arith, end, inside)))
      (asked_alike (IsFollowedBelow u calls.at (ends_of u i)) k (Some i) f h μ w i (own_of u i) upto m rounds (ToTestLoop label) same operands operands (InOrder purpose) (Unless test n ∷ []) now callee ds rest' midst (own_low u i) calls
      (record { is = record { at = upto; step = Unless test n; behind = calls.inside; is = one.0; ordinary = ordinary_by u upto (Unless test n) one.0 tt }; below = (let end = one.1 in omega (arith, end)) }) (λ name is. absurd (cc)) (λ name is. absurd (cc)))

  -- a DO WHILE that stands
  again_met : (f : Frame) (h : ℕ) (μ : Found) (w : World) → w.transfer ≡ μ.transfer → IsCalled u.facts.program.kind f μ → (i p : ℕ) (m : Temporaries) (rounds : List Round) → AreRounds u f m (open_at u.facts.program i) rounds →
      (label : Option ℕ) (operands : Terms) (line : Line) → slice_get u.facts.program.lines i ≡ Some line → line.form ≡ On (ToTestLoop label) operands → GoesBack u m (ends_of u i) p (own_of u i) →
      WhileCode u (free_at u.facts.program i) i label operands (own_of u i) (ends_of u i) →
      Meets (lower_couple number u cs) μ (at_step f h p m) w (rest cs 0) (doing u.facts (record { frame = f; at = i; now = fortran.Doing (On (ToTestLoop label) operands); loops = rounds }) w (On (ToTestLoop label) operands))
  unfolding TermsMet doing
  again_met f h μ w same called i p m rounds stand label operands line place is back code =
      tested_met (free_at u.facts.program i) f h μ w same i p code.upto code.n m rounds label operands code.purpose code.test (fortran.Doing (On (ToTestLoop label) operands))
      (record { called = called; whole = own_place u laid f h μ w m same called (Unit {0}) i; stand = stand; modes = tt; enough = refl; line = line; at_line = place; part = is_whole is; closes = code.closes; behind = code.behind; functions = code.functions; branches = tt })
      code.value code.stands back (reduce_all u.facts f w.store [] operands)
      (progress_all u f h w (all_start u f NoPure [] code.purpose (free_at u.facts.program i) operands (own_of u i) code.upto m code.before) tt).met

  -- behind the terminal statement of a DO
  round_met : (f : Frame) (h : ℕ) (μ : Found) (w : World) → w.transfer ≡ μ.transfer → IsCalled u.facts.program.kind f μ → (i p from : ℕ) (m : Temporaries) (r : Range) (round : Round) (rest' : List Round) → IsRound u f m r round → AreRounds u f m (open_at u.facts.program r.first) rest' →
      Arrives u m (ends_of u r.first) p from → Spans u from (turn_of u.facts.program from r) (from + turn_size u.facts.program r) → from + turn_size u.facts.program r ≡ loop_exit u.facts.program r → (kind : RoundKind) → round.kind ≡ kind → Runs u f m r kind →
      Meets (lower_couple number u cs) μ (at_step f h p m) w (rest cs 0) (elim kind [
        | While ↦ Breaks value.NoMeaning
        | Counted q left by given ↦ source.turned_with u.facts (record { frame = f; at = i; now = fortran.Turning; loops = round ∷ rest' }) w round rest' q left by (source.grown w.store q by given)
      ])
  round_met f h μ w same called i p from m r round rest' is stand arr spans exit While kind runs = λ claimed. absurd claimed
  round_met f h μ w same called i p from m r round rest' is stand arr spans exit (Counted q left by given) kind counted =
      let code = loop_code u r.first counted.label counted.operands (own_of u r.first) counted.line.form (laid.stands r.first counted.line counted.there) counted.is in
      let turn = turn_alike u laid cs f h μ w same called i p from m r round rest' is stand arr spans exit q left by given counted code in
      met_by f h μ w p m ⊥ (source.turned_with u.facts (record { frame = f; at = i; now = fortran.Turning; loops = round ∷ rest' }) w round rest' q left by (source.grown w.store q by given)) turn.event (reached_so f h w p m turn.event turn.reach) turn.alike

  turning_met : (f : Frame) (h : ℕ) (μ : Found) (w : World) → w.transfer ≡ μ.transfer → IsCalled u.facts.program.kind f μ → (i p from : ℕ) (m : Temporaries) (r : Range) (outer : List Range) (rounds : List Round) → AreRounds u f m (r ∷ outer) rounds → open_at u.facts.program r.first ≡ outer →
      Arrives u m (ends_of u r.first) p from → Spans u from (turn_of u.facts.program from r) (from + turn_size u.facts.program r) → from + turn_size u.facts.program r ≡ loop_exit u.facts.program r →
      Meets (lower_couple number u cs) μ (at_step f h p m) w (rest cs 0) (source.turned u.facts (record { frame = f; at = i; now = fortran.Turning; loops = rounds }) w rounds)
  unfolding source.turned
  turning_met f h μ w same called i p from m r outer [] stand chain arr spans exit = absurd stand
  turning_met f h μ w same called i p from m r outer (round ∷ rest') stand chain arr spans exit =
      round_met f h μ w same called i p from m r round rest' stand.0 (subst (λ z. AreRounds u f m z rest') (sym chain) stand.1) arr spans exit round.kind refl stand.0.runs

  placed_met : (f : Frame) (h : ℕ) (μ : Found) (w : World) → IsCalled u.facts.program.kind f μ → (open' : List Range) (i p : ℕ) (m : Temporaries) (rounds : List Round) → AreRounds u f m open' rounds → (now : fortran.Now) → TransferNow u.facts.program μ i now w.transfer → IsPlaced u f open' i now p m →
      Meets (lower_couple number u cs) μ (at_step f h p m) w (rest cs 0) (source.step u.facts (record { frame = f; at = i; now = now; loops = rounds }) w)
  unfolding source.step
  placed_met f h μ w called open' i p m rounds stand _ has (is_doing {form = form} all is) = at_met f h μ w called i p m rounds (subst (λ z. AreRounds u f m z rounds) all stand) form has is
  placed_met f h μ w called open' i p m rounds stand _ same (is_testing {label = label} {operands = operands} all line place is back) =
      again_met f h μ w same called i p m rounds (subst (λ z. AreRounds u f m z rounds) all stand) label operands line place is back (while_code u laid.returns (free_at u.facts.program i) i label operands (own_of u i) (ends_of u i) line.form (laid.stands i line place) is)
  placed_met f h μ w called open' i p m rounds stand _ same (is_turning r outer from all chain arr spans exit) =
      turning_met f h μ w same called i p from m r outer rounds (subst (λ z. AreRounds u f m z rounds) all stand) chain arr spans exit

  -- what is matched is met
  pub follows : (μ : Found) (v : fortran.View) (s : World) (x : View) (t : World) → IsMatched u μ v s x t → Meets (lower_couple number u cs) μ x t (rest cs 0) (source.step u.facts v s)
  follows μ v s x t is =
      subst (λ z. Meets (lower_couple number u cs) μ x z (rest cs 0) (source.step u.facts v s)) is.same
      (subst (λ z. Meets (lower_couple number u cs) μ z s (rest cs 0) (source.step u.facts v s)) (sym is.seen)
      (placed_met v.frame is.height μ s is.called is.open' v.at is.position is.kept v.loops is.rounds v.now is.transfer is.placed))

  -- ## The start

  Fresh : Found → Entry fortran.fortran_sorts → Type 0
  Fresh μ (Enters v w) = IsMatched u μ v w (record { frame = v.frame; at = u.begins v.frame.called.start; kept = none_kept; height = 0 }) w
  Fresh μ (Refused act) = Unit {0}

  fresh_by : (f : Frame) (μ : Found) (w : World) (x : Checked fortran.View) → Alike u μ (Unit {0}) (fortran.proceeding x w) (Goes (at_step f 0 (u.begins f.called.start) none_kept) w) → Fresh μ (entered x w)
  unfolding Fresh entered fortran.proceeding went
  fresh_by f μ w (Gives v) alike =
      let seen : at_step f 0 (u.begins f.called.start) none_kept ≡ alike.view = goes_same (at_step f 0 (u.begins f.called.start) none_kept) alike.view w alike.is in
      let frame : f ≡ v.frame = ap (λ (x : View). x.frame) (seen ∙ alike.matched.seen) in
      subst (λ (z : Frame). IsMatched u μ v w (record { frame = z; at = u.begins z.called.start; kept = none_kept; height = 0 }) w) frame (subst (λ x. IsMatched u μ v w x w) (sym seen) alike.matched)
  fresh_by f μ w (Fails act) alike = tt

  fresh_with : (μ : Found) (w : World) (f : Frame) (names : List Bytes) (x : Checked (List (List Bounds))) → w.transfer ≡ μ.transfer → IsCalled u.facts.program.kind f μ → open_at u.facts.program f.called.start ≡ [] → Fresh μ (begun_with u.facts w f names x)
  unfolding begun_with Fresh
  fresh_with μ w f names (Gives bs) same called none =
      let f' = record f { dimensions = λ x. association.bounds_for x names bs } in
      fresh_by f' μ w (arrived u.facts.program f' [] f.called.start)
      (arrives u laid f' 0 μ w none_kept same (record { knows = knows u.facts.program.kind called.knows; none = called.none }) (Unit {0}) [] (u.begins f.called.start) f.called.start (u.begins f.called.start) (subst (λ z. AreRounds u f' none_kept z []) (sym none) tt)
      (laid.before f.called.start) (plainly (omega arith) there))
    where
      knows : (kind : UnitKind) → KnowsCall kind f μ.wanted μ.labels → KnowsCall kind (record f { dimensions = λ x. association.bounds_for x names bs }) μ.wanted μ.labels
      knows MainProgram is = is
      knows SubroutineUnit is = is
      knows FunctionUnit is = is
      knows BlockDataUnit is = is
  fresh_with μ w f names (Fails act) same called none = tt

  -- what a unit that serves knows of its call
  knows_by : (kind : UnitKind) (a : Attribute) (want wanted : Wanted) (ds : List Datum) (labels : List ℕ) (f : Frame) → serves kind a want ≡ true → f.alternates ≡ labels_in ds → want ≡ wanted → labels_for want ds ≡ labels → KnowsCall kind f wanted labels
  unfolding serves
  knows_by MainProgram a AsSubroutine wanted ds labels f served is same passed = sym same
  knows_by MainProgram a (AsFunction basic width) wanted ds labels f served is same passed = absurd (true≢false (sym served))
  knows_by SubroutineUnit a AsSubroutine wanted ds labels f served is same passed = (sym same, is ∙ passed)
  knows_by SubroutineUnit a (AsFunction basic width) wanted ds labels f served is same passed = absurd (true≢false (sym served))
  knows_by FunctionUnit a AsSubroutine wanted ds labels f served is same passed = absurd (true≢false (sym served))
  knows_by FunctionUnit a (AsFunction basic width) wanted ds labels f served is same passed = λ other. absurd (let bad : AsFunction basic width ≡ AsSubroutine = same ∙ other in cc)
  knows_by BlockDataUnit a want wanted ds labels f served is same passed = tt

  fresh_bound : (μ : Found) (w : World) (e : EntryPoint) (a : Passed) (x : Checked Bindings) → bind_all u.facts.program e.formals a.actuals ≡ x → serves u.facts.program.kind (u.facts.program.attribute e.name) a.want ≡ true →
      w.transfer ≡ μ.transfer → a.want ≡ μ.wanted → labels_for a.want a.actuals ≡ μ.labels → open_at u.facts.program e.start ≡ [] → Fresh μ (begun_bound u.facts w e a.result x)
  unfolding begun_bound Fresh frame_of
  fresh_bound μ w e a (Gives bs) is served same want passed quiet =
      let well = binds_well u.facts.program e.formals a.actuals bs is in
      let f = frame_of e bs (result_of u.facts.program.kind (u.facts.program.attribute e.name) a.result w.store) (length w.store) in
      fresh_with μ (record w { store = with_result u.facts.program.kind a.result w.store }) f bs.names _ same (record {
        knows = knows_by u.facts.program.kind (u.facts.program.attribute e.name) a.want μ.wanted a.actuals μ.labels f served (sym well.0) want passed;
        none = λ x d is'. bound_values x bs.names bs.values d well.1 is';
      }) quiet
  fresh_bound μ w e a (Fails act) is served same want passed quiet = tt

  fresh_if : (μ : Found) (b : Bool) (x y : Entry fortran.fortran_sorts) → (b ≡ true → Fresh μ x) → Fresh μ y → Fresh μ (if b then x else y)
  fresh_if μ true x y one other = one refl
  fresh_if μ false x y one other = other

  fresh_at : (μ : Found) (a : Passed) (w : World) (x : Option EntryPoint) → w.transfer ≡ μ.transfer → a.want ≡ μ.wanted → labels_for a.want a.actuals ≡ μ.labels → ((e : EntryPoint) → x ≡ Some e → open_at u.facts.program e.start ≡ []) → Fresh μ (begun_at u.facts a w x)
  unfolding begun_at Fresh
  fresh_at μ a w None same want passed quiet = tt
  fresh_at μ a w (Some e) same want passed quiet =
      fresh_if μ (serves u.facts.program.kind (u.facts.program.attribute e.name) a.want) (begun_bound u.facts w e a.result (bind_all u.facts.program e.formals a.actuals)) _
      (λ served. fresh_bound μ w e a (bind_all u.facts.program e.formals a.actuals) refl served same want passed (quiet e refl)) tt

  opened_by : (μ : Found) (n : Called) (a : Passed) (w : World) (y : Entry fortran.fortran_sorts) → association.start u.facts n a w ≡ y → Fresh μ y → Opened (lower_couple number u cs) μ y w n a
  unfolding Fresh target.start begun
  opened_by μ n a w (Enters v w') e fresh =
      record { view = record { frame = v.frame; at = u.begins v.frame.called.start; kept = none_kept; height = 0 }; shared = w'; starts = ap (begun u) e; matched = fresh }
  opened_by μ n a w (Refused act) e fresh = tt

  started : (μ : Found) (n : Called) (a : Passed) (w : World) → w.transfer ≡ μ.transfer → a.want ≡ μ.wanted → labels_for a.want a.actuals ≡ μ.labels → Opened (lower_couple number u cs) μ (association.start u.facts n a w) w n a
  unfolding association.start
  started μ n a w same want labels = opened_by μ n a w (association.start u.facts n a w) refl (fresh_at μ a w (entry_of u.facts.program.kind u.facts.program.entries n) same want labels (λ e is. laid.entries n e is))

  pub simulates : Local (lower_couple number u cs)
  simulates = record {
    starts = λ μ s n a t n' a' houses idle passed.
        subst (λ z. Opened (lower_couple number u cs) μ (association.start u.facts n a s) t n' z) passed.2
        (subst (λ z. Opened (lower_couple number u cs) μ (association.start u.facts n a s) t z a) passed.1
        (subst (λ z. Opened (lower_couple number u cs) μ (association.start u.facts n a s) z n a) passed.0 (started μ n a s passed.3 passed.4 passed.5)));
    refuses = λ n a s x e claimed. claimed;
    follows = follows;
  }
