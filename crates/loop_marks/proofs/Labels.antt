-- The steps of a statement branch to the labels that it names, and none of them tests and goes back.
use Rattle.std.specs.List.{list_any, list_all}
use Rattle.std.specs.Prelude.{◌≡◌, ℕ, suc, ◌+◌, Bool, true, false, ◌||◌, ◌&&◌, List, [], ◌∷◌, ◌++◌, length, map, Option, Some, None, slice_get, if◌then◌else◌}
use Rattle.std.proofs.Common.{refl, ap, ◌∙◌, subst}
use Rattle.std.proofs.lemmas.Bool.{and_from, and_parts}
use Rattle.lowering.specs.l_core.f_tree.Terms.{Operator, Function, Term, Val, Fetch, At, All, Element, Alone, Part, Joined, Before, Between, Intrinsically, Refer, Bind, Bound, Terms, NoMore, More, refers, any_refers}
use Rattle.lowering.specs.l_core.f_tree.Facts as head
use Rattle.lowering.specs.l_core.f_tree.Facts.{Direction, Layout, Controls, Item, Repeated, Turn, Work, Done, Before as Ahead, Form, Passes, On, Mark, Plain, Opens, Arm, Closes, Line, ProgramUnit}
use Rattle.lowering.specs.l_core.f_tree.Nests.{Range}
use Rattle.lowering.specs.l_core.f_tree.Step.{assigned_by, assigned_in, contains}
use Rattle.lowering.specs.l_core.f_tree.Setting.{IsIn, first_in, later_in}
use Rattle.lowering.specs.l_core.Pures.{Pure, Pures, NoPure, AndPure}
use Rattle.lowering.specs.l_core.Steps.{Step, Keep, Jump, Way, Again, AgainIf}
use Rattle.lowering.specs.Expressions.{Purpose, ForUse, ForCall, ForReading, ForLater, Lowered, plain, and_then, no_operand, ahead, is_library, for_place, for_function, for_fetch, Shape, AsFetch, AsElement, AsAlone, AsPart, AsJoined, AsBefore, AsBetween, AsFunction, AsReference, pure_of, kept_steps, function_steps, closing, shaped, may_decide, takes_steps, guarded, lowered_between, in_order, lower, lower_all}
use Rattle.lowering.specs.Statements.{behind_operands, with_operands, put_code, put_label_code, select_code, each_once, jump_by_code, sign_code, unless_code, guard_code, loop_operands, test_by, loop_test, loop_code, back_by, turn_code, labels_written, hides_labels, call_steps, call_code, back_code, item_purpose, item_code, work_code, begin_code, auxiliary_code, form_code, head_code}
use Rattle.lowering.specs.Units.{free_at, label_in, named_by, named_by_head, all_named, is_named, pass_code, listed, statement_code, is_counted, turn_size, own_end, ended_at, room_of, way_back, turn_of, turns_of, skip_code, line_code, lines_code, loop_lowered}
use Rattle.main_translation.specs.Outlined.{labels_in}
use Rattle.loop_marks.proofs.Codes.{tests_back}
use Rattle.loop_marks.proofs.Placed.{line_parts, both_by}
use Rattle.loop_marks.proofs.Ranges.{in_front, in_back}

-- ## Steps that branch to some labels alone

labels_both : (xs ys : List Step) → labels_in (xs ++ ys) ≡ labels_in xs ++ labels_in ys
unfolding labels_in
labels_both [] ys = refl
labels_both (Jump label ∷ xs) ys = ap (λ ls. label ∷ ls) (labels_both xs ys)
labels_both (Way label ∷ xs) ys = ap (λ ls. label ∷ ls) (labels_both xs ys)
labels_both (st ∷ xs) ys = labels_both xs ys

record Within (labels : List ℕ) (xs : List Step) : Type 0 where
  at : (label : ℕ) → IsIn label (labels_in xs) → IsIn label labels

no_label_in : (label : ℕ) (labels : List ℕ) → IsIn label [] → IsIn label labels
no_label_in label labels among = elim among [ ]

none_within : (labels : List ℕ) (xs : List Step) → labels_in xs ≡ [] → Within labels xs
none_within labels xs none = record { at = λ label among. no_label_in label labels (subst (IsIn label) none among) }

from_both : {A : Type 0} → (x : A) (xs ys zs : List A) → IsIn x (xs ++ ys) → (IsIn x xs → IsIn x zs) → (IsIn x ys → IsIn x zs) → IsIn x zs
from_both x [] ys zs among one other = other among
from_both x (_ ∷ xs) ys zs first_in one other = one first_in
from_both x (y ∷ xs) ys zs (later_in among) one other = from_both x xs ys zs among (λ more. one (later_in more)) other

within_both : (labels : List ℕ) (xs ys : List Step) → Within labels xs → Within labels ys → Within labels (xs ++ ys)
within_both labels xs ys one other = record { at = λ label among. from_both label (labels_in xs) (labels_in ys) labels (subst (IsIn label) (labels_both xs ys) among) (one.at label) (other.at label) }

-- ## Steps that go on behind them

-- neither a branch to a label, nor a way to one, nor a test that goes back
abbrev pub is_quiet : Step → Bool
is_quiet (Jump label) = false
is_quiet (Way label) = false
is_quiet (AgainIf test size) = false
is_quiet st = true

abbrev pub are_quiet : List Step → Bool
are_quiet xs = list_all is_quiet xs

quiet_both : (xs ys : List Step) → are_quiet xs ≡ true → are_quiet ys ≡ true → are_quiet (xs ++ ys) ≡ true
quiet_both [] ys one other = other
quiet_both (x ∷ xs) ys one other = let parts = and_parts (is_quiet x) (are_quiet xs) one in and_from (is_quiet x) (are_quiet (xs ++ ys)) parts.0 (quiet_both xs ys parts.1 other)

quiet_labels : (xs : List Step) → are_quiet xs ≡ true → labels_in xs ≡ []
unfolding labels_in
quiet_labels [] quiet = refl
quiet_labels (Jump label ∷ xs) quiet = absurd (cc)
quiet_labels (Way label ∷ xs) quiet = absurd (cc)
quiet_labels (st ∷ xs) quiet = quiet_labels xs (and_parts (is_quiet st) (are_quiet xs) quiet).1

still_one : (st : Step) → is_quiet st ≡ true → tests_back st ≡ false
still_one (AgainIf test size) quiet = absurd (cc)
still_one st quiet = refl

quiet_still : (xs : List Step) → are_quiet xs ≡ true → list_any tests_back xs ≡ false
quiet_still [] quiet = refl
quiet_still (x ∷ xs) quiet = let parts = and_parts (is_quiet x) (are_quiet xs) quiet in (λ k. still_one x parts.0 k || quiet_still xs parts.1 k)

pub still_both : (xs ys : List Step) → list_any tests_back xs ≡ false → list_any tests_back ys ≡ false → list_any tests_back (xs ++ ys) ≡ false
still_both [] ys one other = other
still_both (x ∷ xs) ys one other = by (tests_back x) (list_any tests_back xs) one (still_both xs ys)
  where
    by : (a b : Bool) → a || b ≡ false → (b ≡ false → list_any tests_back ys ≡ false → list_any tests_back (xs ++ ys) ≡ false) → a || list_any tests_back (xs ++ ys) ≡ false
    by true b is more = absurd (cc)
    by false b is more = more is other

-- steps that branch to some labels alone, and do not test and go back
record Onward (labels : List ℕ) (xs : List Step) : Type 0 where
  within : Within labels xs
  still : list_any tests_back xs ≡ false

quiet : (labels : List ℕ) (xs : List Step) → are_quiet xs ≡ true → Onward labels xs
quiet labels xs none = record { within = none_within labels xs (quiet_labels xs none); still = quiet_still xs none }

onward_both : (labels : List ℕ) (xs ys : List Step) → Onward labels xs → Onward labels ys → Onward labels (xs ++ ys)
onward_both labels xs ys one other = record { within = within_both labels xs ys one.within other.within; still = still_both xs ys one.still other.still }

-- ## Expressions

kept_quiet : (purpose : Purpose) (k : ℕ) (p : Pure) → are_quiet (kept_steps purpose k p) ≡ true
unfolding kept_steps
kept_quiet ForUse k p = refl
kept_quiet ForCall k p = refl
kept_quiet ForReading k p = refl
kept_quiet ForLater k p = refl

function_quiet : (library : Bool) (function : Function) (purpose : Purpose) (k : ℕ) (ps : Pures) → are_quiet (function_steps library function purpose k ps) ≡ true
unfolding function_steps
function_quiet true function purpose k ps = refl
function_quiet false function purpose k ps = kept_quiet purpose k _

closing_quiet : (shape : Shape) (purpose : Purpose) (k : ℕ) (ps : Pures) → are_quiet (closing shape purpose k ps) ≡ true
unfolding closing
closing_quiet AsFetch purpose k ps = kept_quiet (for_fetch purpose) k (pure_of AsFetch ps)
closing_quiet (AsElement x) purpose k ps = refl
closing_quiet AsAlone purpose k ps = refl
closing_quiet (AsPart x) purpose k ps = refl
closing_quiet AsJoined purpose k ps = kept_quiet purpose k (pure_of AsJoined ps)
closing_quiet (AsBefore op) purpose k ps = kept_quiet purpose k (pure_of (AsBefore op) ps)
closing_quiet (AsBetween op) purpose k ps = kept_quiet purpose k (pure_of (AsBetween op) ps)
closing_quiet (AsFunction function) purpose k ps = function_quiet (is_library function) function purpose k ps
closing_quiet (AsReference callee) purpose k ps = refl

shaped_quiet : (shape : Shape) (purpose : Purpose) (k : ℕ) (l : Lowered Pures) → are_quiet l.steps ≡ true → are_quiet (shaped shape purpose k l).steps ≡ true
unfolding shaped
shaped_quiet shape purpose k l none = quiet_both l.steps (closing shape purpose k l.value) none (closing_quiet shape purpose k l.value)

then_quiet : (one : Lowered Pure) (more : ℕ → Lowered Pures) → are_quiet one.steps ≡ true → ((n : ℕ) → are_quiet (more n).steps ≡ true) → are_quiet (and_then one more).steps ≡ true
unfolding and_then
then_quiet one more none each = quiet_both one.steps (more one.free).steps none (each one.free)

operand_quiet : (k : ℕ) → are_quiet (no_operand k).steps ≡ true
unfolding no_operand plain
operand_quiet k = refl

guarded_quiet : (op : Operator) (k : ℕ) (left right : Lowered Pure) → are_quiet left.steps ≡ true → are_quiet right.steps ≡ true → are_quiet (guarded op k left right).steps ≡ true
unfolding guarded
guarded_quiet op k left right one other = quiet_both left.steps _ one (quiet_both right.steps (Keep k right.value ∷ []) other refl)

between_quiet : (guards refers' : Bool) (op : Operator) (purpose : Purpose) (k : ℕ) (left : Purpose → Lowered Pure) (right : ℕ → Lowered Pure) → ((p : Purpose) → are_quiet (left p).steps ≡ true) → ((n : ℕ) → are_quiet (right n).steps ≡ true)
    → are_quiet (lowered_between guards refers' op purpose k left right).steps ≡ true
unfolding lowered_between
between_quiet true refers' op purpose k left right one other = guarded_quiet op k (left ForUse) (right k) (one ForUse) (other k)
between_quiet false refers' op purpose k left right one other =
    shaped_quiet (AsBetween op) purpose k (and_then (left (ahead ForUse refers')) (λ n. and_then (right n) no_operand))
    (then_quiet (left (ahead ForUse refers')) (λ n. and_then (right n) no_operand) (one (ahead ForUse refers')) (λ n. then_quiet (right n) no_operand (other n) operand_quiet))

order_quiet : (first : Lowered Pures) (more : Pures → ℕ → Lowered Pure) → are_quiet first.steps ≡ true → ((ps : Pures) (n : ℕ) → are_quiet (more ps n).steps ≡ true) → are_quiet (in_order first more).steps ≡ true
unfolding in_order
order_quiet first more one each = quiet_both first.steps (more first.value first.free).steps one (each first.value first.free)

mutual
  unfolding lower lower_all plain

  lower_quiet : (env : Pures) (purpose : Purpose) (k : ℕ) (t : Term) → are_quiet (lower env purpose k t).steps ≡ true
  lower_quiet env purpose k (Val d) = refl
  lower_quiet env purpose k (Fetch t) = shaped_quiet AsFetch purpose k _ (then_quiet _ no_operand (lower_quiet env ForUse k t) operand_quiet)
  lower_quiet env purpose k (At x) = refl
  lower_quiet env purpose k (All x) = refl
  lower_quiet env purpose k (Element x ts) = shaped_quiet (AsElement x) purpose k _ (lower_all_quiet env (for_place purpose) k ts)
  lower_quiet env purpose k (Alone t) = shaped_quiet AsAlone purpose k _ (then_quiet _ no_operand (lower_quiet env (for_place purpose) k t) operand_quiet)
  lower_quiet env purpose k (Part x t from to) =
      shaped_quiet (AsPart x) purpose k _
      (then_quiet _ _ (lower_quiet env (ahead (for_place purpose) (refers from || (refers to || false))) k t)
      (λ n. then_quiet _ _ (lower_quiet env (ahead (for_place purpose) (refers to || false)) n from)
      (λ n'. then_quiet _ no_operand (lower_quiet env (for_place purpose) n' to) operand_quiet)))
  lower_quiet env purpose k (Joined ts) = shaped_quiet AsJoined purpose k _ (lower_all_quiet env ForUse k ts)
  lower_quiet env purpose k (Before op t) = shaped_quiet (AsBefore op) purpose k _ (then_quiet _ no_operand (lower_quiet env ForUse k t) operand_quiet)
  lower_quiet env purpose k (Between op t u) =
      between_quiet (may_decide op && takes_steps ForUse u) (refers u || false) op purpose k (λ p. lower env p k t) (λ n. lower env ForUse n u) (λ p. lower_quiet env p k t) (λ n. lower_quiet env ForUse n u)
  lower_quiet env purpose k (Intrinsically function ts) = shaped_quiet (AsFunction function) purpose k _ (lower_all_quiet env (for_function (is_library function)) k ts)
  lower_quiet env purpose k (Refer callee ts) = shaped_quiet (AsReference callee) purpose k _ (lower_all_quiet env ForCall k ts)
  lower_quiet env purpose k (Bind ts t) = order_quiet (lower_all env ForLater k ts) (λ ps n. lower ps purpose n t) (lower_all_quiet env ForLater k ts) (λ ps n. lower_quiet ps purpose n t)
  lower_quiet env purpose k (Bound i) = refl

  lower_all_quiet : (env : Pures) (purpose : Purpose) (k : ℕ) (ts : Terms) → are_quiet (lower_all env purpose k ts).steps ≡ true
  lower_all_quiet env purpose k NoMore = operand_quiet k
  lower_all_quiet env purpose k (More t ts) = then_quiet _ _ (lower_quiet env (ahead purpose (any_refers ts)) k t) (λ n. lower_all_quiet env purpose n ts)

loop_quiet : (k : ℕ) (ts : Terms) → are_quiet (loop_operands k ts).steps ≡ true
unfolding loop_operands
loop_quiet k (More x (More first bounds)) =
    then_quiet _ _ (lower_quiet NoPure ForLater k x) (λ n. then_quiet _ _ (lower_quiet NoPure (ahead ForUse (any_refers bounds)) n first) (λ n'. lower_all_quiet NoPure ForLater n' bounds))
loop_quiet k NoMore = refl
loop_quiet k (More x NoMore) = refl

-- ## Statements

behind_within : (labels : List ℕ) (xs : List Step) (more : Option (List Step)) (own : List Step) → are_quiet xs ≡ true → ((later : List Step) → more ≡ Some later → Onward labels later) → behind_operands xs more ≡ Some own → Onward labels own
unfolding behind_operands
behind_within labels xs None own none each h = absurd (cc)
behind_within labels xs (Some later) own none each h = subst (Onward labels) (let same : xs ++ later ≡ own = cc in same) (onward_both labels xs later (quiet labels xs none) (each later refl))

with_within : (labels : List ℕ) (l : Lowered Pures) (close : Pures → Option (List Step)) (own : List Step) → are_quiet l.steps ≡ true → ((ps : Pures) (later : List Step) → close ps ≡ Some later → Onward labels later)
    → with_operands l close ≡ Some own → Onward labels own
unfolding with_operands
with_within labels l close own none each h = behind_within labels l.steps (close l.value) own none (λ later is. each l.value later is) h

same_quiet : (code own : List Step) → Some code ≡ Some own → are_quiet code ≡ true → are_quiet own ≡ true
same_quiet code own h none = ap are_quiet (let same : own ≡ code = cc in same) ∙ none

given : (labels : List ℕ) (code later : List Step) → are_quiet code ≡ true → Some code ≡ Some later → Onward labels later
given labels code later none h = quiet labels later (ap are_quiet (let same : later ≡ code = cc in same) ∙ none)

put_within : (labels : List ℕ) (ps : Pures) (later : List Step) → put_code ps ≡ Some later → Onward labels later
unfolding put_code labels_in
put_within labels (AndPure p (AndPure place NoPure)) later h = given labels _ later refl h
put_within labels ps later h = absurd (cc)

put_label_within : (labels : List ℕ) (label : ℕ) (ps : Pures) (later : List Step) → put_label_code label ps ≡ Some later → Onward labels later
unfolding put_label_code labels_in
put_label_within labels label (AndPure place NoPure) later h = given labels _ later refl h
put_label_within labels label ps later h = absurd (cc)

jumps_are : (labels : List ℕ) → labels_in (map Jump labels) ≡ labels
unfolding labels_in
jumps_are [] = refl
jumps_are (label ∷ labels) = ap (λ ls. label ∷ ls) (jumps_are labels)

jumps_still : (labels : List ℕ) → list_any tests_back (map Jump labels) ≡ false
jumps_still [] = refl
jumps_still (label ∷ labels) = jumps_still labels

is_within : (labels : List ℕ) (code later : List Step) → ((label : ℕ) → IsIn label (labels_in code) → IsIn label labels) → list_any tests_back code ≡ false → Some code ≡ Some later → Onward labels later
is_within labels code later each still h = subst (Onward labels) (let same : code ≡ later = cc in same) (record { within = record { at = each }; still = still })

select_within : (labels : List ℕ) (ps : Pures) (later : List Step) → select_code labels ps ≡ Some later → Onward labels later
unfolding select_code labels_in
select_within labels (AndPure p NoPure) later h = is_within labels _ later (λ label among. subst (IsIn label) (jumps_are labels) among) (jumps_still labels) h
select_within labels ps later h = absurd (cc)

once_by : (label l : ℕ) (ls : List ℕ) (b : Bool) → IsIn label (if b then each_once ls else l ∷ each_once ls) → (IsIn label (each_once ls) → IsIn label ls) → IsIn label (l ∷ ls)
once_by label l ls true among more = later_in (more among)
once_by _ l ls false first_in more = first_in
once_by label l ls false (later_in among) more = later_in (more among)

once_within : (label : ℕ) (labels : List ℕ) → IsIn label (each_once labels) → IsIn label labels
unfolding each_once
once_within label [] among = among
once_within label (l ∷ ls) among = once_by label l ls (contains ls l) among (once_within label ls)

jump_by_within : (labels : List ℕ) (ps : Pures) (later : List Step) → jump_by_code labels ps ≡ Some later → Onward labels later
unfolding jump_by_code labels_in
jump_by_within labels (AndPure p NoPure) later h = is_within labels _ later (λ label among. once_within label labels (subst (IsIn label) (jumps_are (each_once labels)) among)) (jumps_still (each_once labels)) h
jump_by_within labels ps later h = absurd (cc)

sign_within : (below at above : ℕ) (ps : Pures) (later : List Step) → sign_code below at above ps ≡ Some later → Onward (below ∷ at ∷ above ∷ []) later
unfolding sign_code labels_in
sign_within below at above (AndPure p NoPure) later h = is_within (below ∷ at ∷ above ∷ []) _ later (λ label among. among) refl h
sign_within below at above ps later h = absurd (cc)

unless_within : (labels : List ℕ) (n : ℕ) (under : List Step) (ps : Pures) (later : List Step) → Onward labels under → unless_code n under ps ≡ Some later → Onward labels later
unfolding unless_code labels_in
unless_within labels n under (AndPure p NoPure) later within h = is_within labels _ later within.within.at within.still h
unless_within labels n under ps later within h = absurd (cc)

guard_within : (labels : List ℕ) (l : Lowered Pures) (under : Option (List Step)) (own : List Step) → are_quiet l.steps ≡ true → ((code : List Step) → under ≡ Some code → Onward labels code) → guard_code l under ≡ Some own → Onward labels own
unfolding guard_code
guard_within labels l None own none each h = absurd (cc)
guard_within labels l (Some under) own none each h = with_within labels l (unless_code (length under) under) own none (λ ps later is. unless_within labels (length under) under ps later (each under refl) is) h

test_quiet : (once : Bool) (test : Pure) (n : ℕ) → are_quiet (loop_test once test n) ≡ true
unfolding loop_test labels_in
test_quiet true test n = refl
test_quiet false test n = refl

loop_within : (labels : List ℕ) (once : Bool) (n : ℕ) (ps : Pures) (later : List Step) → loop_code once n ps ≡ Some later → Onward labels later
unfolding loop_code labels_in
loop_within labels once n (AndPure x (AndPure first (AndPure limit (AndPure by NoPure)))) later h = given labels _ later (test_quiet once (test_by x limit by) n) h
loop_within labels once n ps later h = absurd (cc)

ways_are : (labels : List ℕ) → labels_in (map Way labels) ≡ labels
unfolding labels_in
ways_are [] = refl
ways_are (label ∷ labels) = ap (λ ls. label ∷ ls) (ways_are labels)

ways_still : (labels : List ℕ) → list_any tests_back (map Way labels) ≡ false
ways_still [] = refl
ways_still (label ∷ labels) = ways_still labels

-- a CALL branches to the labels that are written among its operands
call_labels : (k : ℕ) (name : _) (labels : List ℕ) (ps : Pures) → labels_in (call_steps k name labels ps) ≡ labels
unfolding call_steps labels_in
call_labels k name [] ps = refl
call_labels k name (label ∷ labels) ps = ways_are (label ∷ labels)

call_still : (k : ℕ) (name : _) (labels : List ℕ) (ps : Pures) → list_any tests_back (call_steps k name labels ps) ≡ false
unfolding call_steps
call_still k name [] ps = refl
call_still k name (label ∷ labels) ps = ways_still (label ∷ labels)

shown_within : (hidden : Bool) (labels : List ℕ) (code later : List Step) → ((label : ℕ) → IsIn label (labels_in code) → IsIn label labels) → list_any tests_back code ≡ false → (if hidden then None else Some code) ≡ Some later
    → Onward labels later
shown_within true labels code later each still h = absurd (cc)
shown_within false labels code later each still h = is_within labels code later each still h

call_within : (k : ℕ) (name : _) (operands : Terms) (ps : Pures) (later : List Step) → call_code k name operands ps ≡ Some later → Onward (labels_written operands) later
unfolding call_code
call_within k name operands ps later h =
    let labels = labels_written operands in
    shown_within (hides_labels operands) labels (call_steps k name labels ps) later (λ label among. subst (IsIn label) (call_labels k name labels ps) among) (call_still k name labels ps) h

back_within : (labels : List ℕ) (ps : Pures) (later : List Step) → back_code ps ≡ Some later → Onward labels later
unfolding back_code labels_in
back_within labels NoPure later h = given labels _ later refl h
back_within labels (AndPure p NoPure) later h = given labels _ later refl h
back_within labels (AndPure p (AndPure q ps)) later h = absurd (cc)

item_within : (k : ℕ) (t : Term) (more : Option (List Step)) (own : List Step) → ((later : List Step) → more ≡ Some later → are_quiet later ≡ true) → item_code k t more ≡ Some own → are_quiet own ≡ true
unfolding item_code labels_in
item_within k t None own each h = absurd (cc)
item_within k t (Some later) own each h =
    same_quiet _ own h (quiet_both (lower_all NoPure (item_purpose t) k (More t NoMore)).steps _ (lower_all_quiet NoPure (item_purpose t) k (More t NoMore)) (each later refl))

work_within : (k : ℕ) (work : Work) (own : List Step) → work_code k work ≡ Some own → are_quiet own ≡ true
unfolding work_code labels_in
work_within k Done own h = same_quiet _ own h refl
work_within k (Ahead (Item t) rest) own h = item_within k t (work_code k rest) own (λ later is. work_within k rest later is) h
work_within k (Ahead (Repeated items control) rest) own h = absurd (cc)
work_within k (Ahead (Turn items p left by given') rest) own h = absurd (cc)

begin_within : (labels : List ℕ) (way : Direction) (layout : Layout) (controls : Controls) (items : Option (List Step)) (ps : Pures) (later : List Step) → ((code : List Step) → items ≡ Some code → are_quiet code ≡ true) → begin_code way layout controls items ps ≡ Some later
    → Onward labels later
unfolding begin_code labels_in
begin_within labels way layout controls None ps later each h = absurd (cc)
begin_within labels way layout controls (Some items) ps later each h = given labels _ later (each items refl) h

auxiliary_within : (labels : List ℕ) (which : _) (controls : Controls) (ps : Pures) (later : List Step) → auxiliary_code which controls ps ≡ Some later → Onward labels later
unfolding auxiliary_code labels_in
auxiliary_within labels which controls ps later h = given labels _ later refl h

form_within : (once : Bool) (k n : ℕ) (form : Form) (own : List Step) → form_code once k n form ≡ Some own → Onward (named_by form) own
unfolding form_code head_code named_by named_by_head labels_in
form_within once k n Passes own h = given [] [] own refl h
form_within once k n (On head.ToSet ts) own h = with_within [] _ put_code own (lower_all_quiet NoPure ForUse k ts) (λ ps later is. put_within [] ps later is) h
form_within once k n (On head.ToSetText ts) own h = absurd (cc)
form_within once k n (On (head.ToSetLabel label) ts) own h = with_within (label ∷ []) _ (put_label_code label) own (lower_all_quiet NoPure ForUse k ts) (λ ps later is. put_label_within (label ∷ []) label ps later is) h
form_within once k n (On (head.ToGo label) NoMore) own h = is_within (label ∷ []) (Jump label ∷ []) own (λ l among. among) refl h
form_within once k n (On (head.ToGo label) (More t ts)) own h = absurd (cc)
form_within once k n (On (head.ToPick labels) ts) own h = with_within labels _ (select_code labels) own (lower_all_quiet NoPure ForUse k ts) (λ ps later is. select_within labels ps later is) h
form_within once k n (On (head.ToGoAssigned labels) ts) own h = with_within labels _ (jump_by_code labels) own (lower_all_quiet NoPure ForUse k ts) (λ ps later is. jump_by_within labels ps later is) h
form_within once k n (On (head.ToGoBySign below at above) ts) own h =
    with_within (below ∷ at ∷ above ∷ []) _ (sign_code below at above) own (lower_all_quiet NoPure ForLater k ts) (λ ps later is. sign_within below at above ps later is) h
form_within once k n (On (head.ToGuard form) ts) own h = guard_within (named_by form) _ (form_code once k 0 form) own (lower_all_quiet NoPure ForUse k ts) (λ code is. form_within once k 0 form code is) h
form_within once k n (On head.ToEnterArm ts) own h = with_within [] _ (unless_code n []) own (lower_all_quiet NoPure ForUse k ts) (λ ps later is. unless_within [] n [] ps later (quiet [] [] refl) is) h
form_within once k n (On (head.ToLoop label) ts) own h = with_within [] _ (loop_code once n) own (loop_quiet k ts) (λ ps later is. loop_within [] once n ps later is) h
form_within once k n (On (head.ToTestLoop label) ts) own h = with_within [] _ (unless_code n []) own (lower_all_quiet NoPure ForUse k ts) (λ ps later is. unless_within [] n [] ps later (quiet [] [] refl) is) h
form_within once k n (On (head.ToCall name) ts) own h = with_within (labels_written ts) _ (call_code k name ts) own (lower_all_quiet NoPure ForCall k ts) (λ ps later is. call_within k name ts ps later is) h
form_within once k n (On head.ToReturn ts) own h = with_within [] _ back_code own (lower_all_quiet NoPure ForUse k ts) (λ ps later is. back_within [] ps later is) h
form_within once k n (On (head.ToStop text) NoMore) own h = given [] _ own refl h
form_within once k n (On (head.ToStop text) (More t ts)) own h = absurd (cc)
form_within once k n (On (head.ToBegin way layout controls work) ts) own h =
    with_within (label_in controls.on_error ++ label_in controls.on_end) _ (begin_code way layout controls (work_code k work)) own (lower_all_quiet NoPure ForUse k ts)
    (λ ps later is. begin_within (label_in controls.on_error ++ label_in controls.on_end) way layout controls (work_code k work) ps later (λ code is'. work_within k work code is') is) h
form_within once k n (On (head.ToTransfer rest) ts) own h = absurd (cc)
form_within once k n (On (head.ToRepeat items rest) ts) own h = absurd (cc)
form_within once k n (On (head.ToTurn items q left by given' rest) ts) own h = absurd (cc)
form_within once k n (On head.ToFinish ts) own h = absurd (cc)
form_within once k n (On (head.ToAuxiliary which controls) ts) own h =
    with_within (label_in controls.on_error ++ label_in controls.on_end) _ (auxiliary_code which controls) own (lower_all_quiet NoPure ForUse k ts) (λ ps later is. auxiliary_within (label_in controls.on_error ++ label_in controls.on_end) which controls ps later is) h
form_within once k n (On head.ToEnd NoMore) own h = given [] _ own refl h
form_within once k n (On head.ToEnd (More t ts)) own h = absurd (cc)

-- ## Lines

pub skip_quiet : (p : ProgramUnit) (i : ℕ) (mark : Mark) → are_quiet (skip_code p i mark) ≡ true
unfolding skip_code
skip_quiet p i Plain = refl
skip_quiet p i Opens = refl
skip_quiet p i Arm = refl
skip_quiet p i Closes = refl

pub pass_quiet : (named : Bool) (form : Form) → are_quiet (pass_code named form) ≡ true
unfolding pass_code
pass_quiet true Passes = refl
pass_quiet true (On h operands) = refl
pass_quiet false form = refl

-- what a statement names, or where it goes by a variable without labels, the labels that ASSIGN statements of its unit name
abbrev may_name : ProgramUnit → Form → List ℕ
may_name p form = named_by form ++ assigned_in p.lines

wider : (labels more : List ℕ) (xs : List Step) → ((label : ℕ) → IsIn label labels → IsIn label more) → Within labels xs → Within more xs
wider labels more xs each within = record { at = λ label among. each label (within.at label among) }

to_go : (labels assigned : List ℕ) (ts : Terms) (label : ℕ) → IsIn label (named_by (listed assigned (On (head.ToGoAssigned labels) ts))) → IsIn label (labels ++ assigned)
unfolding named_by named_by_head listed
to_go [] assigned ts label among = among
to_go (l ∷ ls) assigned ts label among = in_front (l ∷ ls) assigned label among

listed_names : (assigned : List ℕ) (form : Form) (label : ℕ) → IsIn label (named_by (listed assigned form)) → IsIn label (named_by form ++ assigned)
unfolding named_by named_by_head listed
listed_names assigned (On (head.ToGoAssigned labels) ts) label among = to_go labels assigned ts label among
listed_names assigned (On (head.ToGuard form) ts) label among = listed_names assigned form label among
listed_names assigned form label among = in_front (named_by form) assigned label among

code_onward : (p : ProgramUnit) (k n : ℕ) (form : Form) (own : List Step) → statement_code p k n form ≡ Some own → Onward (may_name p form) own
unfolding statement_code
code_onward p k n form own is =
    let code = form_within p.onetrip k n (listed (assigned_in p.lines) form) own is in
    record { within = wider (named_by (listed (assigned_in p.lines) form)) (may_name p form) own (listed_names (assigned_in p.lines) form) code.within; still = code.still }

-- what a statement has before the steps that turn loops
own_onward : (p : ProgramUnit) (i : ℕ) (line : Line) (own : List Step) → statement_code p (free_at p i) (room_of p i line) line.form ≡ Some own
    → Onward (may_name p line.form) ((skip_code p i line.mark ++ own) ++ pass_code (is_named (all_named p.lines) line.label) line.form)
own_onward p i line own is =
    let pass = pass_code (is_named (all_named p.lines) line.label) line.form in
    let labels = may_name p line.form in
    onward_both labels (skip_code p i line.mark ++ own) pass
    (onward_both labels (skip_code p i line.mark) own (quiet labels (skip_code p i line.mark) (skip_quiet p i line.mark)) (code_onward p (free_at p i) (room_of p i line) line.form own is))
    (quiet labels pass (pass_quiet (is_named (all_named p.lines) line.label) line.form))

pub own_still : (p : ProgramUnit) (i : ℕ) (line : Line) (own : List Step) → statement_code p (free_at p i) (room_of p i line) line.form ≡ Some own
    → list_any tests_back ((skip_code p i line.mark ++ own) ++ pass_code (is_named (all_named p.lines) line.label) line.form) ≡ false
own_still p i line own is = (own_onward p i line own is).still

back_quiet : (once : Bool) (test : Pure) (n : ℕ) → labels_in (back_by once test n ∷ []) ≡ []
unfolding back_by labels_in
back_quiet true test n = refl
back_quiet false test n = refl

turn_quiet : (once : Bool) (n : ℕ) (ps : Pures) → labels_in (turn_code once n ps) ≡ []
unfolding turn_code labels_in
turn_quiet once n (AndPure x (AndPure first (AndPure limit (AndPure by NoPure)))) = back_quiet once (test_by x limit by) n
turn_quiet once n NoPure = refl
turn_quiet once n (AndPure x NoPure) = refl
turn_quiet once n (AndPure x (AndPure first NoPure)) = refl
turn_quiet once n (AndPure x (AndPure first (AndPure limit NoPure))) = refl
turn_quiet once n (AndPure x (AndPure first (AndPure limit (AndPure by (AndPure q ps))))) = refl

turns_quiet : (p : ProgramUnit) (from : ℕ) (rs : List Range) → labels_in (turns_of p from rs) ≡ []
unfolding turns_of turn_of labels_in
turns_quiet p from [] = refl
turns_quiet p from (r ∷ rs) = labels_both (turn_of p from r) (turns_of p (from + turn_size p r) rs) ∙ (λ k. by (is_counted (slice_get p.lines r.first)) k ++ turns_quiet p (from + turn_size p r) rs k)
  where
    by : (b : Bool) → labels_in (if b then turn_code p.onetrip (way_back p r (from + 1)) (loop_lowered p (free_at p r.first) r).value else Again (way_back p r from) ∷ []) ≡ []
    by true = turn_quiet p.onetrip (way_back p r (from + 1)) (loop_lowered p (free_at p r.first) r).value
    by false = refl

line_within : (p : ProgramUnit) (i : ℕ) (line : Line) (code : List Step) → line_code p i line ≡ Some code → Within (may_name p line.form) code
line_within p i line code h =
    let parts = line_parts p i line code h in
    let turns = turns_of p (own_end p i) (ended_at p i) in
    let labels = may_name p line.form in
    let before = (skip_code p i line.mark ++ parts.own) ++ pass_code (is_named (all_named p.lines) line.label) line.form in
    subst (Within labels) parts.all (within_both labels before turns (own_onward p i line parts.own parts.is).within (none_within labels turns (turns_quiet p (own_end p i) (ended_at p i))))

-- the labels that ASSIGN statements name are named
assigned_names : (form : Form) (label : ℕ) → IsIn label (assigned_by form) → IsIn label (named_by form)
unfolding assigned_by named_by named_by_head
assigned_names (On (head.ToSetLabel l) ts) label among = among
assigned_names (On (head.ToGuard form) ts) label among = assigned_names form label among
assigned_names form label among = no_label_in label (named_by form) among

all_assigned : (lines : List Line) (label : ℕ) → IsIn label (assigned_in lines) → IsIn label (all_named lines)
unfolding assigned_in all_named
all_assigned [] label among = among
all_assigned (line ∷ lines) label among =
    from_both label (assigned_by line.form) (assigned_in lines) (named_by line.form ++ all_named lines) among
    (λ one. in_front (named_by line.form) (all_named lines) label (assigned_names line.form label one)) (λ other. in_back (named_by line.form) (all_named lines) label (all_assigned lines label other))

-- what one statement may name is named in its unit
one_named : (p : ProgramUnit) (form : Form) → ((label : ℕ) → IsIn label (named_by form) → IsIn label (all_named p.lines)) → (label : ℕ) → IsIn label (may_name p form) → IsIn label (all_named p.lines)
one_named p form each label among = from_both label (named_by form) (assigned_in p.lines) (all_named p.lines) among (each label) (all_assigned p.lines label)

all_within : (p : ProgramUnit) (i : ℕ) (lines : List Line) (steps : List Step) → ((label : ℕ) → IsIn label (all_named lines) → IsIn label (all_named p.lines)) → lines_code p i lines ≡ Some steps
    → Within (all_named p.lines) steps
unfolding lines_code all_named labels_in
all_within p i [] steps each h = none_within (all_named p.lines) steps (ap labels_in (let same : steps ≡ [] = cc in same))
all_within p i (line ∷ lines) steps each h =
    let both = both_by (line_code p i line) (lines_code p (suc i) lines) steps h in
    subst (Within (all_named p.lines)) both.all
    (within_both (all_named p.lines) both.first both.later
    (wider (may_name p line.form) (all_named p.lines) both.first (one_named p line.form (λ label among. each label (in_front (named_by line.form) (all_named lines) label among)))
    (line_within p i line both.first both.first_is))
    (all_within p (suc i) lines both.later (λ label among. each label (in_back (named_by line.form) (all_named lines) label among)) both.later_is))

pub lines_within : (p : ProgramUnit) (steps : List Step) → lines_code p 0 p.lines ≡ Some steps → (label : ℕ) → IsIn label (labels_in steps) → IsIn label (all_named p.lines)
lines_within p steps h = (all_within p 0 p.lines steps (λ label among. among) h).at
