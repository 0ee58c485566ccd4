-- In a lowered text each output stands in one piece: no step leads into it or out of it, and behind a test in it control stays there.
use Rattle.std.specs.Prelude.{◌≡◌, ℕ, suc, ◌+◌, ◌≤◌, Bool, true, false, ◌&&◌, ◌||◌, List, [], ◌∷◌, ◌++◌, length, map, Option, Some, None, slice_get, if◌then◌else◌}
use Rattle.std.proofs.Common.{refl, sym, ap, ◌∙◌, subst, arith}
use Rattle.std.proofs.lemmas.List.{append_assoc, length-append}
use Rattle.unit_translation.specs.f_tree.Terms.{Operator, Term, Val, Fetch, At, All, Element, Alone, Part, Joined, Before, Between, Intrinsically, Refer, Bind, Bound, Terms, NoMore, More, Function, refers, any_refers}
use Rattle.unit_translation.specs.f_tree.Values.{Bytes}
use Rattle.unit_translation.specs.f_tree.Facts.{Direction, Layout, Controls, AuxiliaryKind, Item, Repeated, Turn, Work, Done, Before as Before', Head, ToSet, ToSetLabel, ToGo, ToPick, ToGoAssigned, ToGoBySign, ToGuard, ToEnterArm, ToLoop, ToTestLoop, ToCall, ToReturn, ToStop, ToBegin, ToAuxiliary, ToEnd, Form, Passes, On, Mark, Arm, Line, ProgramUnit, Facts}
use Rattle.unit_translation.specs.f_tree.Nests.{Range}
use Rattle.unit_translation.specs.f_tree.Step.{assigned_in}
use Rattle.unit_translation.specs.l_core.Pures.{Pure, Pures, NoPure, AndPure}
use Rattle.unit_translation.specs.l_core.Steps.{Starts, Takes, Finishes, Step, Keep, Put, Unless, Skip, Again, AgainIf, Jump, Select, JumpBy, Branch, Way, Acts, Text}
use Rattle.main_translation_laws.specs.lowering.Expressions.{Purpose, ForUse, ForCall, ForReading, ForLater, Lowered, and_then, no_operand, ahead, Shape, AsFetch, AsElement, AsAlone, AsPart, AsJoined, AsBefore, AsBetween, AsFunction, AsReference, is_library, for_fetch, kept_steps, function_steps, closing, shaped, guarded, lowered_between, in_order, lower, lower_all, plain, may_decide, takes_steps, for_place, for_function}
use Rattle.main_translation_laws.specs.lowering.Statements.{behind_operands, with_operands, put_code, put_label_code, select_code, each_once, jump_by_code, sign_code, unless_code, guard_code, loop_operands, test_by, loop_test, loop_code, back_by, turn_code, labels_written, hides_labels, call_steps, call_code, back_code, item_purpose, item_code, work_code, begin_code, auxiliary_code, form_code, head_code}
use Rattle.main_translation_laws.specs.lowering.Units.{loop_lowered, free_at, all_named, is_named, pass_code, listed, statement_code, is_counted, turn_size, ended_at, own_end, room_of, way_back, turn_of, turns_of, skip_code, line_code, both_codes, lines_code, text_with, calls_well, if_called_well, lowered_unit}
use Rattle.main_translation_laws.proofs.c_structure_laws.DrawnExpressions.{mapped_by}
use Rattle.main_translation_laws.proofs.linking_laws.Places.{some_same}

-- ## Steps within an output

-- a step within an output, given how many steps of the output stand behind it and before its end
abbrev pub IsInner : ℕ → Step → Type 0
IsInner k (Unless p m) = m ≤ k
IsInner k (Skip m) = ⊥
IsInner k (Again m) = ⊥
IsInner k (AgainIf p m) = ⊥
IsInner k (Jump label) = ⊥
IsInner k (Select p count) = ⊥
IsInner k (JumpBy p labels) = ⊥
IsInner k (Branch j count) = ⊥
IsInner k (Way label) = ⊥
IsInner k (Acts (Starts way layout controls) ps m) = ⊥
IsInner k (Acts Finishes ps m) = ⊥
IsInner k st = Unit {0}

abbrev pub AreInner : List Step → Type 0
AreInner [] = Unit {0}
AreInner (st ∷ later) = IsInner (length later) st × AreInner later

inner_more : (k n : ℕ) (st : Step) → k ≤ n → IsInner k st → IsInner n st
inner_more k n (Unless p m) less is = omega (arith, less, is)
inner_more k n (Skip m) less is = is
inner_more k n (Again m) less is = is
inner_more k n (AgainIf p m) less is = is
inner_more k n (Jump label) less is = is
inner_more k n (Select p count) less is = is
inner_more k n (JumpBy p labels) less is = is
inner_more k n (Branch j count) less is = is
inner_more k n (Way label) less is = is
inner_more k n (Acts (Starts way layout controls) ps m) less is = is
inner_more k n (Acts Finishes ps m) less is = is
inner_more k n st less is = tt

pub inner_both : (xs ys : List Step) → AreInner xs → AreInner ys → AreInner (xs ++ ys)
inner_both [] ys one other = other
inner_both (st ∷ xs) ys one other =
    let longer = length-append xs ys in
    (inner_more (length xs) (length (xs ++ ys)) st (omega (arith, longer)) one.0, inner_both xs ys one.1 other)

-- ## Expressions

kept_inner : (purpose : Purpose) (k : ℕ) (p : Pure) → AreInner (kept_steps purpose k p)
unfolding kept_steps
kept_inner ForUse k p = tt
kept_inner ForCall k p = (tt, tt)
kept_inner ForReading k p = (tt, tt)
kept_inner ForLater k p = (tt, tt)

function_inner : (b : Bool) (f : Function) (purpose : Purpose) (k : ℕ) (ps : Pures) → AreInner (function_steps b f purpose k ps)
unfolding function_steps
function_inner true f purpose k ps = (tt, tt)
function_inner false f purpose k ps = kept_inner purpose k _

closing_inner : (shape : Shape) (purpose : Purpose) (k : ℕ) (ps : Pures) → AreInner (closing shape purpose k ps)
unfolding closing
closing_inner AsFetch purpose k ps = kept_inner (for_fetch purpose) k _
closing_inner (AsElement x) purpose k ps = tt
closing_inner AsAlone purpose k ps = tt
closing_inner (AsPart x) purpose k ps = tt
closing_inner (AsFunction f) purpose k ps = function_inner (is_library f) f purpose k ps
closing_inner (AsReference callee) purpose k ps = (tt, tt)
closing_inner AsJoined purpose k ps = kept_inner purpose k _
closing_inner (AsBefore op) purpose k ps = kept_inner purpose k _
closing_inner (AsBetween op) purpose k ps = kept_inner purpose k _

shaped_inner : (shape : Shape) (purpose : Purpose) (k : ℕ) (l : Lowered Pures) → AreInner l.steps → AreInner (shaped shape purpose k l).steps
unfolding shaped
shaped_inner shape purpose k l inner = inner_both l.steps (closing shape purpose k l.value) inner (closing_inner shape purpose k l.value)

then_inner : (one : Lowered Pure) (more : ℕ → Lowered Pures) → AreInner one.steps → ((n : ℕ) → AreInner (more n).steps) → AreInner (and_then one more).steps
unfolding and_then
then_inner one more first rest = inner_both one.steps (more one.free).steps first (rest one.free)

none_inner : (n : ℕ) → AreInner (no_operand n).steps
unfolding no_operand plain
none_inner n = tt

guarded_inner : (op : Operator) (k : ℕ) (left right : Lowered Pure) → AreInner left.steps → AreInner right.steps → AreInner (guarded op k left right).steps
unfolding guarded
guarded_inner op k left right one other =
    let longer = length-append right.steps (Keep k right.value ∷ []) in
    inner_both left.steps _ one (tt, (omega (arith, longer), inner_both right.steps (Keep k right.value ∷ []) other (tt, tt)))

between_inner : (b r : Bool) (op : Operator) (purpose : Purpose) (k : ℕ) (left : Purpose → Lowered Pure) (right : ℕ → Lowered Pure) → ((p : Purpose) → AreInner (left p).steps) → ((n : ℕ) → AreInner (right n).steps)
    → AreInner (lowered_between b r op purpose k left right).steps
unfolding lowered_between
between_inner true r op purpose k left right one other = guarded_inner op k (left ForUse) (right k) (one ForUse) (other k)
between_inner false r op purpose k left right one other =
    shaped_inner (AsBetween op) purpose k _ (then_inner (left (ahead ForUse r)) _ (one (ahead ForUse r)) (λ n. then_inner (right n) no_operand (other n) none_inner))

in_order_inner : (first : Lowered Pures) (then' : Pures → ℕ → Lowered Pure) → AreInner first.steps → ((ps : Pures) (n : ℕ) → AreInner (then' ps n).steps) → AreInner (in_order first then').steps
unfolding in_order
in_order_inner first then' one other = inner_both first.steps _ one (other first.value first.free)

mutual
  unfolding lower plain lower_all

  pub inner : (env : Pures) (purpose : Purpose) (k : ℕ) (t : Term) → AreInner (lower env purpose k t).steps
  inner env purpose k (Val d) = tt
  inner env purpose k (Fetch t) = shaped_inner AsFetch purpose k _ (then_inner (lower env ForUse k t) no_operand (inner env ForUse k t) none_inner)
  inner env purpose k (At x) = tt
  inner env purpose k (All x) = tt
  inner env purpose k (Element x ts) = shaped_inner (AsElement x) purpose k _ (all_inner env (for_place purpose) k ts)
  inner env purpose k (Alone t) = shaped_inner AsAlone purpose k _ (then_inner (lower env (for_place purpose) k t) no_operand (inner env (for_place purpose) k t) none_inner)
  inner env purpose k (Part x t from to) =
      shaped_inner (AsPart x) purpose k _
      (then_inner _ _ (inner env (ahead (for_place purpose) (refers from || (refers to || false))) k t)
      (λ n. then_inner _ _ (inner env (ahead (for_place purpose) (refers to || false)) n from) (λ n'. then_inner _ _ (inner env (for_place purpose) n' to) none_inner)))
  inner env purpose k (Joined ts) = shaped_inner AsJoined purpose k _ (all_inner env ForUse k ts)
  inner env purpose k (Before op t) = shaped_inner (AsBefore op) purpose k _ (then_inner (lower env ForUse k t) no_operand (inner env ForUse k t) none_inner)
  inner env purpose k (Between op t u) =
      between_inner (may_decide op && takes_steps ForUse u) (refers u || false) op purpose k _ _ (λ p. inner env p k t) (λ n. inner env ForUse n u)
  inner env purpose k (Intrinsically function ts) = shaped_inner (AsFunction function) purpose k _ (all_inner env (for_function (is_library function)) k ts)
  inner env purpose k (Refer callee ts) = shaped_inner (AsReference callee) purpose k _ (all_inner env ForCall k ts)
  inner env purpose k (Bind ts t) = in_order_inner (lower_all env ForLater k ts) _ (all_inner env ForLater k ts) (λ ps n. inner ps purpose n t)
  inner env purpose k (Bound i) = tt

  pub all_inner : (env : Pures) (purpose : Purpose) (k : ℕ) (ts : Terms) → AreInner (lower_all env purpose k ts).steps
  all_inner env purpose k NoMore = none_inner k
  all_inner env purpose k (More t ts) = then_inner (lower env (ahead purpose (any_refers ts)) k t) _ (inner env (ahead purpose (any_refers ts)) k t) (λ n. all_inner env purpose n ts)

-- ## Statements

-- a step that begins no output
abbrev pub IsOpen : Step → Type 0
IsOpen (Acts (Starts way layout controls) ps m) = ⊥
IsOpen st = Unit {0}

abbrev AreOpen : List Step → Type 0
AreOpen [] = Unit {0}
AreOpen (st ∷ later) = IsOpen st × AreOpen later

-- each output that begins comes to its end, behind steps within it
pub data AreWhole : List Step → Type 0 where
  no_steps : AreWhole []
  other_step : (st : Step) (later : List Step) → IsOpen st → AreWhole later → AreWhole (st ∷ later)
  whole_output : (way : Direction) (layout : Layout) (controls : Controls) (ps : Pures) (m : ℕ) (inside : List Step) (qs : Pures) (k : ℕ) (later : List Step) → AreInner inside → AreWhole later
      → AreWhole (Acts (Starts way layout controls) ps m ∷ (inside ++ Acts Finishes qs k ∷ later))

whole_both : (xs ys : List Step) → AreWhole xs → AreWhole ys → AreWhole (xs ++ ys)
whole_both _ ys no_steps other = other
whole_both _ ys (other_step st later opens rest) other = other_step st (later ++ ys) opens (whole_both later ys rest other)
whole_both _ ys (whole_output way layout controls ps m inside qs k later within rest) other =
    subst (λ zs. AreWhole (Acts (Starts way layout controls) ps m ∷ zs)) (sym (append_assoc inside (Acts Finishes qs k ∷ later) ys))
    (whole_output way layout controls ps m inside qs k (later ++ ys) within (whole_both later ys rest other))

open_whole : (xs : List Step) → AreOpen xs → AreWhole xs
open_whole [] opens = no_steps
open_whole (st ∷ later) opens = other_step st later opens.0 (open_whole later opens.1)

inner_open : (k : ℕ) (st : Step) → IsInner k st → IsOpen st
inner_open k (Acts (Starts way layout controls) ps m) is = is
inner_open k st is = tt

inner_whole : (xs : List Step) → AreInner xs → AreWhole xs
inner_whole [] is = no_steps
inner_whole (st ∷ later) is = other_step st later (inner_open (length later) st is.0) (inner_whole later is.1)

with_whole : (l : Lowered Pures) (close : Pures → Option (List Step)) (steps : List Step) → AreInner l.steps → ((more : List Step) → close l.value ≡ Some more → AreWhole more) → with_operands l close ≡ Some steps → AreWhole steps
unfolding with_operands behind_operands
with_whole l close steps within closed h = by (close l.value) refl h
  where
    by : (found : Option (List Step)) → close l.value ≡ found → behind_operands l.steps found ≡ Some steps → AreWhole steps
    by (Some more) is g = subst AreWhole (some_same (l.steps ++ more) steps g) (whole_both l.steps more (inner_whole l.steps within) (closed more is))
    by None is g = absurd (cc)

open_code : (xs : List Step) (more : List Step) → AreOpen xs → Some xs ≡ Some more → AreWhole more
open_code xs more opens h = subst AreWhole (some_same xs more h) (open_whole xs opens)

put_whole : (ps : Pures) (more : List Step) → put_code ps ≡ Some more → AreWhole more
unfolding put_code
put_whole (AndPure p (AndPure place NoPure)) more h = open_code _ more (tt, tt) h
put_whole ps more h = absurd (cc)

put_label_whole : (label : ℕ) (ps : Pures) (more : List Step) → put_label_code label ps ≡ Some more → AreWhole more
unfolding put_label_code
put_label_whole label (AndPure place NoPure) more h = open_code _ more (tt, tt) h
put_label_whole label ps more h = absurd (cc)

-- jumps to labels
jumps_open : (labels : List ℕ) → AreOpen (map Jump labels)
jumps_open [] = tt
jumps_open (label ∷ labels) = (tt, jumps_open labels)

select_whole : (labels : List ℕ) (ps : Pures) (more : List Step) → select_code labels ps ≡ Some more → AreWhole more
unfolding select_code
select_whole labels (AndPure p NoPure) more h = open_code _ more (tt, jumps_open labels) h
select_whole labels ps more h = absurd (cc)

jump_by_whole : (labels : List ℕ) (ps : Pures) (more : List Step) → jump_by_code labels ps ≡ Some more → AreWhole more
unfolding jump_by_code
jump_by_whole labels (AndPure p NoPure) more h = open_code _ more (tt, jumps_open (each_once labels)) h
jump_by_whole labels ps more h = absurd (cc)

sign_whole : (below at above : ℕ) (ps : Pures) (more : List Step) → sign_code below at above ps ≡ Some more → AreWhole more
unfolding sign_code
sign_whole below at above (AndPure p NoPure) more h = open_code _ more (tt, (tt, (tt, (tt, (tt, tt))))) h
sign_whole below at above ps more h = absurd (cc)

unless_whole : (n : ℕ) (under : List Step) → AreWhole under → (ps : Pures) (more : List Step) → unless_code n under ps ≡ Some more → AreWhole more
unfolding unless_code
unless_whole n under whole (AndPure p NoPure) more h = subst AreWhole (some_same (Unless p n ∷ under) more h) (other_step (Unless p n) under tt whole)
unless_whole n under whole ps more h = absurd (cc)

guard_whole : (l : Lowered Pures) (found : Option (List Step)) (steps : List Step) → AreInner l.steps → ((under : List Step) → found ≡ Some under → AreWhole under) → guard_code l found ≡ Some steps → AreWhole steps
unfolding guard_code
guard_whole l (Some under) steps within whole h = with_whole l (unless_code (length under) under) steps within (unless_whole (length under) under (whole under refl) l.value) h
guard_whole l None steps within whole h = absurd (cc)

test_whole : (once : Bool) (x first test : Pure) (n : ℕ) → AreWhole (Put x first ∷ loop_test once test n)
unfolding loop_test
test_whole true x first test n = open_whole _ (tt, tt)
test_whole false x first test n = open_whole _ (tt, (tt, tt))

loop_whole : (once : Bool) (n : ℕ) (ps : Pures) (more : List Step) → loop_code once n ps ≡ Some more → AreWhole more
unfolding loop_code
loop_whole once n (AndPure x (AndPure first (AndPure limit (AndPure by NoPure)))) more h = subst AreWhole (some_same _ more h) (test_whole once x first (test_by x limit by) n)
loop_whole once n ps more h = absurd (cc)

loop_inner : (k : ℕ) (ts : Terms) → AreInner (loop_operands k ts).steps
unfolding loop_operands
loop_inner k (More x (More first bounds)) =
    then_inner _ _ (inner NoPure ForLater k x) (λ n. then_inner _ _ (inner NoPure (ahead ForUse (any_refers bounds)) n first) (λ n'. all_inner NoPure ForLater n' bounds))
loop_inner k ts = tt

-- ways to labels
ways_open : (labels : List ℕ) → AreOpen (map Way labels)
ways_open [] = tt
ways_open (label ∷ labels) = (tt, ways_open labels)

calls_open : (k : ℕ) (name : Bytes) (labels : List ℕ) (ps : Pures) → AreOpen (call_steps k name labels ps)
unfolding call_steps
calls_open k name [] ps = (tt, tt)
calls_open k name (label ∷ labels) ps = (tt, (tt, (tt, ways_open labels)))

call_whole : (k : ℕ) (name : Bytes) (operands : Terms) (ps : Pures) (more : List Step) → call_code k name operands ps ≡ Some more → AreWhole more
unfolding call_code
call_whole k name operands ps more h = by (hides_labels operands) h
  where
    by : (hidden : Bool) → (if hidden then None else Some (call_steps k name (labels_written operands) ps)) ≡ Some more → AreWhole more
    by true g = absurd (cc)
    by false g = open_code (call_steps k name (labels_written operands) ps) more (calls_open k name (labels_written operands) ps) g

back_whole : (ps : Pures) (more : List Step) → back_code ps ≡ Some more → AreWhole more
unfolding back_code
back_whole NoPure more h = open_code _ more (tt, tt) h
back_whole (AndPure p NoPure) more h = open_code _ more (tt, tt) h
back_whole ps more h = absurd (cc)

auxiliary_whole : (which : AuxiliaryKind) (controls : Controls) (ps : Pures) (more : List Step) → auxiliary_code which controls ps ≡ Some more → AreWhole more
unfolding auxiliary_code
auxiliary_whole which controls ps more h = open_code _ more (tt, tt) h

-- the items of an output, and its end
record IsFinished (items : List Step) : Type 0 where
  inside : List Step
  is : items ≡ inside ++ Acts Finishes NoPure 0 ∷ []
  within : AreInner inside

work_finished : (k : ℕ) (work : Work) (items : List Step) → work_code k work ≡ Some items → IsFinished items
unfolding work_code item_code
work_finished k Done items h = record { inside = []; is = sym (some_same _ items h); within = tt }
work_finished k (Before' (Item t) rest) items h = by (work_code k rest) refl h (work_finished k rest)
  where
    operands : List Step
    operands = (lower_all NoPure (item_purpose t) k (More t NoMore)).steps

    by : (found : Option (List Step)) → work_code k rest ≡ found → item_code k t found ≡ Some items → ((more : List Step) → work_code k rest ≡ Some more → IsFinished more) → IsFinished items
    by None is g later = absurd (cc)
    by (Some more) is g later =
        let f = later more is in
        let taking = Acts Takes (lower_all NoPure (item_purpose t) k (More t NoMore)).value (length more) in
        record {
          inside = operands ++ taking ∷ f.inside;
          is = sym (some_same (operands ++ taking ∷ more) items g) ∙ ap (λ xs. operands ++ taking ∷ xs) f.is ∙ sym (append_assoc operands (taking ∷ f.inside) (Acts Finishes NoPure 0 ∷ []));
          within = inner_both operands (taking ∷ f.inside) (all_inner NoPure (item_purpose t) k (More t NoMore)) (tt, f.within);
        }
work_finished k (Before' (Repeated items' control) rest) items h = absurd (cc)
work_finished k (Before' (Turn items' p left by given) rest) items h = absurd (cc)

begin_whole : (way : Direction) (layout : Layout) (controls : Controls) (found : Option (List Step)) → ((items : List Step) → found ≡ Some items → IsFinished items) → (ps : Pures) (more : List Step) → begin_code way layout controls found ps ≡ Some more → AreWhole more
unfolding begin_code
begin_whole way layout controls None finished ps more h = absurd (cc)
begin_whole way layout controls (Some items) finished ps more h =
    let f = finished items refl in
    subst AreWhole (ap (λ xs. Acts (Starts way layout controls) ps (length items) ∷ xs) (sym f.is) ∙ some_same (Acts (Starts way layout controls) ps (length items) ∷ items) more h)
    (whole_output way layout controls ps (length items) f.inside NoPure 0 [] f.within no_steps)

mutual
  unfolding form_code head_code

  form_whole : (once : Bool) (k n : ℕ) (f : Form) (steps : List Step) → form_code once k n f ≡ Some steps → AreWhole steps
  form_whole once k n Passes steps h = open_code [] steps tt h
  form_whole once k n (On head operands) steps h = head_whole once k n head operands steps h

  head_whole : (once : Bool) (k n : ℕ) (h : Head) (ts : Terms) (steps : List Step) → head_code once k n h ts ≡ Some steps → AreWhole steps
  head_whole once k n ToSet ts steps h = with_whole _ put_code steps (all_inner NoPure ForUse k ts) (put_whole _) h
  head_whole once k n (ToSetLabel label) ts steps h = with_whole _ (put_label_code label) steps (all_inner NoPure ForUse k ts) (put_label_whole label _) h
  head_whole once k n (ToGo label) NoMore steps h = open_code _ steps (tt, tt) h
  head_whole once k n (ToPick labels) ts steps h = with_whole _ (select_code labels) steps (all_inner NoPure ForUse k ts) (select_whole labels _) h
  head_whole once k n (ToGoAssigned labels) ts steps h = with_whole _ (jump_by_code labels) steps (all_inner NoPure ForUse k ts) (jump_by_whole labels _) h
  head_whole once k n (ToGoBySign below at above) ts steps h = with_whole _ (sign_code below at above) steps (all_inner NoPure ForLater k ts) (sign_whole below at above _) h
  head_whole once k n (ToGuard f) ts steps h = guard_whole _ (form_code once k 0 f) steps (all_inner NoPure ForUse k ts) (λ under is. form_whole once k 0 f under is) h
  head_whole once k n ToEnterArm ts steps h = with_whole _ (unless_code n []) steps (all_inner NoPure ForUse k ts) (unless_whole n [] no_steps _) h
  head_whole once k n (ToLoop label) ts steps h = with_whole _ (loop_code once n) steps (loop_inner k ts) (loop_whole once n _) h
  head_whole once k n (ToTestLoop label) ts steps h = with_whole _ (unless_code n []) steps (all_inner NoPure ForUse k ts) (unless_whole n [] no_steps _) h
  head_whole once k n (ToCall name) ts steps h = with_whole _ (call_code k name ts) steps (all_inner NoPure ForCall k ts) (call_whole k name ts _) h
  head_whole once k n ToReturn ts steps h = with_whole _ back_code steps (all_inner NoPure ForUse k ts) (back_whole _) h
  head_whole once k n (ToStop text) NoMore steps h = open_code _ steps (tt, tt) h
  head_whole once k n (ToBegin way layout controls work) ts steps h =
      with_whole _ (begin_code way layout controls (work_code k work)) steps (all_inner NoPure ForUse k ts) (begin_whole way layout controls (work_code k work) (work_finished k work) _) h
  head_whole once k n (ToAuxiliary which controls) ts steps h = with_whole _ (auxiliary_code which controls) steps (all_inner NoPure ForUse k ts) (auxiliary_whole which controls _) h
  head_whole once k n ToEnd NoMore steps h = open_code _ steps (tt, tt) h
  head_whole once k n head ts steps h = absurd (cc)

-- ## Lines

skip_whole : (u : ProgramUnit) (i : ℕ) (mark : Mark) → AreWhole (skip_code u i mark)
unfolding skip_code
skip_whole u i Arm = open_whole _ (tt, tt)
skip_whole u i mark = no_steps

pass_whole : (named : Bool) (f : Form) → AreWhole (pass_code named f)
unfolding pass_code
pass_whole true Passes = open_whole _ (tt, tt)
pass_whole named f = no_steps

back_by_open : (once : Bool) (test : Pure) (n : ℕ) → IsOpen (back_by once test n)
unfolding back_by
back_by_open true test n = tt
back_by_open false test n = tt

turn_code_whole : (once : Bool) (n : ℕ) (ps : Pures) → AreWhole (turn_code once n ps)
unfolding turn_code
turn_code_whole once n (AndPure x (AndPure first (AndPure limit (AndPure by NoPure)))) = open_whole _ (tt, (back_by_open once (test_by x limit by) n, tt))
turn_code_whole once n ps = no_steps

turn_whole : (u : ProgramUnit) (from : ℕ) (r : Range) → AreWhole (turn_of u from r)
unfolding turn_of
turn_whole u from r = by (is_counted (slice_get u.lines r.first))
  where
    by : (b : Bool) → AreWhole (if b then turn_code u.onetrip (way_back u r (from + 1)) (loop_lowered u (free_at u r.first) r).value else Again (way_back u r from) ∷ [])
    by true = turn_code_whole u.onetrip (way_back u r (from + 1)) (loop_lowered u (free_at u r.first) r).value
    by false = open_whole _ (tt, tt)

turns_whole : (u : ProgramUnit) (from : ℕ) (rs : List Range) → AreWhole (turns_of u from rs)
unfolding turns_of
turns_whole u from [] = no_steps
turns_whole u from (r ∷ rs) = whole_both _ _ (turn_whole u from r) (turns_whole u (from + turn_size u r) rs)

line_whole : (u : ProgramUnit) (i : ℕ) (line : Line) (steps : List Step) → line_code u i line ≡ Some steps → AreWhole steps
unfolding line_code statement_code
line_whole u i line steps h =
    let form = listed (assigned_in u.lines) line.form in
    let m = mapped_by _ (form_code u.onetrip (free_at u i) (room_of u i line) form) steps h in
    subst AreWhole m.is
    (whole_both _ _
    (whole_both _ _ (whole_both _ m.one (skip_whole u i line.mark) (form_whole u.onetrip (free_at u i) (room_of u i line) form m.one m.one_is)) (pass_whole (is_named (all_named u.lines) line.label) line.form))
    (turns_whole u (own_end u i) (ended_at u i)))

both_whole : (one other : Option (List Step)) (steps : List Step) → ((xs : List Step) → one ≡ Some xs → AreWhole xs) → ((ys : List Step) → other ≡ Some ys → AreWhole ys) → both_codes one other ≡ Some steps → AreWhole steps
unfolding both_codes
both_whole (Some xs) (Some ys) steps first later h = subst AreWhole (some_same (xs ++ ys) steps h) (whole_both xs ys (first xs refl) (later ys refl))
both_whole (Some xs) None steps first later h = absurd (cc)
both_whole None other steps first later h = absurd (cc)

lines_whole : (u : ProgramUnit) (i : ℕ) (lines : List Line) (steps : List Step) → lines_code u i lines ≡ Some steps → AreWhole steps
unfolding lines_code
lines_whole u i [] steps h = open_code [] steps tt h
lines_whole u i (line ∷ lines) steps h = both_whole (line_code u i line) (lines_code u (suc i) lines) steps (line_whole u i line) (lines_whole u (suc i) lines) h

text_whole : (c : Facts) (u : Text) (found : Option (List Step)) → ((steps : List Step) → found ≡ Some steps → AreWhole steps) → text_with c found ≡ Some u → AreWhole u.steps
unfolding text_with
text_whole c u (Some steps) whole h = subst AreWhole (ap (λ (t : Text). t.steps) (some_same _ u h)) (whole steps refl)
text_whole c u None whole h = absurd (cc)

-- where each subroutine is called well the steps are those of the statements
called_well : (found : Option (List Step)) (steps : List Step) → if_called_well found ≡ Some steps → found ≡ Some steps
unfolding if_called_well
called_well None steps h = absurd (cc)
called_well (Some found) steps h = by (calls_well found) h
  where
    by : (well : Bool) → (if well then Some found else None) ≡ Some steps → Some found ≡ Some steps
    by true g = g
    by false g = absurd (cc)

pub outputs_are_whole : (c : Facts) (u : Text) → lowered_unit c ≡ Some u → AreWhole u.steps
unfolding lowered_unit
outputs_are_whole c u h =
    text_whole c u (if_called_well (lines_code c.program 0 c.program.lines))
    (λ steps is. lines_whole c.program 0 c.program.lines steps (called_well (lines_code c.program 0 c.program.lines) steps is)) h
