-- In the operands of a statement stands no branch behind a CALL, so that no subroutine is called there.
use Rattle.std.specs.Prelude.{◌≡◌, ℕ, zero, suc, ◌+◌, ◌-◌, ◌≤◌, Bool, true, false, ◌&&◌, ◌||◌, List, [], ◌∷◌, ◌++◌, length, Option, Some, slice_get}
use Rattle.std.proofs.Common.{subst, arith}
use Rattle.fortran_laws.specs.f_tree.Values.{Bytes}
use Rattle.fortran_laws.specs.f_tree.Terms.{Operator, Function, Term, Val, Fetch, At, All, Element, Alone, Part, Joined, Before, Between, Intrinsically, Refer, Bind, Bound, Terms, NoMore, More, refers, any_refers}
use Rattle.fortran_laws.specs.f_tree.Facts.{Head}
use Rattle.lowering.specs.l_core.Pures.{Pure, Applied, Pures, NoPure}
use Rattle.lowering.specs.l_core.Steps.{Step, Keep, Unless, Branch, Text}
use Rattle.lowering.specs.Expressions.{Purpose, ForUse, ForCall, ForReading, ForLater, Lowered, plain, and_then, no_operand, ahead, Shape, AsFetch, AsElement, AsAlone, AsPart, AsJoined, AsBefore, AsBetween, AsFunction, AsReference, is_library, for_place, for_function, for_fetch, pure_of, kept_steps, function_steps, closing, shaped, takes_steps, may_decide, wanted_where, guarded, lowered_between, in_order, lower, lower_all}
use Rattle.lowering.specs.Statements.{loop_operands, call_steps, labels_written}
use Rattle.lowering_laws.specs.Walks.{Spans, nothing, further, IsNoBranch, IsOrdinary}
use Rattle.lowering_laws.specs.Midway.{Mode, InOrder, OfLoop, lowered_as}
use Rattle.lowering_laws.specs.Layer.{BranchesBehind, CallsFunctions, IsClosing, for_set, for_set_label, for_go, for_pick, for_go_assigned, for_go_by_sign, for_guard, for_arm, for_test, for_loop, for_call, for_return, for_return_by, for_stop, for_end, for_begin, for_item, for_finish, for_auxiliary}
use Rattle.lowering_laws.proofs.WalkLemmas.{ordinary_by}

abbrev AreQuiet : List Step → Type 0
AreQuiet [] = Unit {0}
AreQuiet (st ∷ steps) = IsNoBranch st × AreQuiet steps

quiet_both : (xs ys : List Step) → AreQuiet xs → AreQuiet ys → AreQuiet (xs ++ ys)
quiet_both [] ys first later = later
quiet_both (x ∷ xs) ys first later = (first.0, quiet_both xs ys first.1 later)

-- ## Expressions

kept_quiet : (purpose : Purpose) (k : ℕ) (p : Pure) → AreQuiet (kept_steps purpose k p)
unfolding kept_steps
kept_quiet ForUse k p = tt
kept_quiet ForCall k p = (tt, tt)
kept_quiet ForReading k p = (tt, tt)
kept_quiet ForLater k p = (tt, tt)

function_quiet : (library : Bool) (function : Function) (purpose : Purpose) (k : ℕ) (ps : Pures) → AreQuiet (function_steps library function purpose k ps)
unfolding function_steps
function_quiet true function purpose k ps = (tt, tt)
function_quiet false function purpose k ps = kept_quiet purpose k (Applied function ps)

closing_quiet : (shape : Shape) (purpose : Purpose) (k : ℕ) (ps : Pures) → AreQuiet (closing shape purpose k ps)
unfolding closing
closing_quiet AsFetch purpose k ps = kept_quiet (for_fetch purpose) k (pure_of AsFetch ps)
closing_quiet (AsElement x) purpose k ps = tt
closing_quiet AsAlone purpose k ps = tt
closing_quiet (AsPart x) purpose k ps = tt
closing_quiet (AsFunction function) purpose k ps = function_quiet (is_library function) function purpose k ps
closing_quiet (AsReference callee) purpose k ps = (tt, tt)
closing_quiet AsJoined purpose k ps = kept_quiet purpose k (pure_of AsJoined ps)
closing_quiet (AsBefore op) purpose k ps = kept_quiet purpose k (pure_of (AsBefore op) ps)
closing_quiet (AsBetween op) purpose k ps = kept_quiet purpose k (pure_of (AsBetween op) ps)

shaped_quiet : (shape : Shape) (purpose : Purpose) (k : ℕ) (l : Lowered Pures) → AreQuiet l.steps → AreQuiet (shaped shape purpose k l).steps
unfolding shaped
shaped_quiet shape purpose k l quiet = quiet_both l.steps (closing shape purpose k l.value) quiet (closing_quiet shape purpose k l.value)

then_quiet : (one : Lowered Pure) (more : ℕ → Lowered Pures) → AreQuiet one.steps → ((n : ℕ) → AreQuiet (more n).steps) → AreQuiet (and_then one more).steps
unfolding and_then
then_quiet one more first later = quiet_both one.steps (more one.free).steps first (later one.free)

none_quiet : (k : ℕ) → AreQuiet (no_operand k).steps
unfolding no_operand plain
none_quiet k = tt

guarded_quiet : (op : Operator) (k : ℕ) (left right : Lowered Pure) → AreQuiet left.steps → AreQuiet right.steps → AreQuiet (guarded op k left right).steps
unfolding guarded
guarded_quiet op k left right first later =
    quiet_both left.steps (Keep k left.value ∷ Unless (wanted_where op k) (suc (length right.steps)) ∷ (right.steps ++ Keep k right.value ∷ [])) first
    (tt, (tt, quiet_both right.steps (Keep k right.value ∷ []) later (tt, tt)))

between_quiet : (guards refers' : Bool) (op : Operator) (purpose : Purpose) (k : ℕ) (left : Purpose → Lowered Pure) (right : ℕ → Lowered Pure) → ((p : Purpose) → AreQuiet (left p).steps) → ((n : ℕ) → AreQuiet (right n).steps) →
    AreQuiet (lowered_between guards refers' op purpose k left right).steps
unfolding lowered_between
between_quiet true refers' op purpose k left right first later = guarded_quiet op k (left ForUse) (right k) (first ForUse) (later k)
between_quiet false refers' op purpose k left right first later =
    shaped_quiet (AsBetween op) purpose k (and_then (left (ahead ForUse refers')) (λ n. and_then (right n) no_operand))
    (then_quiet (left (ahead ForUse refers')) (λ n. and_then (right n) no_operand) (first (ahead ForUse refers')) (λ n. then_quiet (right n) no_operand (later n) none_quiet))

ordered_quiet : (first : Lowered Pures) (then' : Pures → ℕ → Lowered Pure) → AreQuiet first.steps → ((ps : Pures) (n : ℕ) → AreQuiet (then' ps n).steps) → AreQuiet (in_order first then').steps
unfolding in_order
ordered_quiet first then' one later = quiet_both first.steps (then' first.value first.free).steps one (later first.value first.free)

mutual
  unfolding lower lower_all plain

  lower_quiet : (env : Pures) (purpose : Purpose) (k : ℕ) (t : Term) → AreQuiet (lower env purpose k t).steps
  lower_quiet env purpose k (Val d) = tt
  lower_quiet env purpose k (Fetch t) = shaped_quiet AsFetch purpose k (and_then (lower env ForUse k t) no_operand) (then_quiet (lower env ForUse k t) no_operand (lower_quiet env ForUse k t) none_quiet)
  lower_quiet env purpose k (At x) = tt
  lower_quiet env purpose k (All x) = tt
  lower_quiet env purpose k (Element x ts) = shaped_quiet (AsElement x) purpose k (lower_all env (for_place purpose) k ts) (all_quiet env (for_place purpose) k ts)
  lower_quiet env purpose k (Alone t) =
      shaped_quiet AsAlone purpose k (and_then (lower env (for_place purpose) k t) no_operand) (then_quiet (lower env (for_place purpose) k t) no_operand (lower_quiet env (for_place purpose) k t) none_quiet)
  lower_quiet env purpose k (Part x t from to) =
      shaped_quiet (AsPart x) purpose k
      (and_then (lower env (ahead (for_place purpose) (refers from || (refers to || false))) k t)
      (λ n. and_then (lower env (ahead (for_place purpose) (refers to || false)) n from)
      (λ n'. and_then (lower env (for_place purpose) n' to) no_operand)))
      (then_quiet (lower env (ahead (for_place purpose) (refers from || (refers to || false))) k t) (λ n. and_then (lower env (ahead (for_place purpose) (refers to || false)) n from) (λ n'. and_then (lower env (for_place purpose) n' to) no_operand))
      (lower_quiet env (ahead (for_place purpose) (refers from || (refers to || false))) k t)
      (λ n. then_quiet (lower env (ahead (for_place purpose) (refers to || false)) n from) (λ n'. and_then (lower env (for_place purpose) n' to) no_operand)
      (lower_quiet env (ahead (for_place purpose) (refers to || false)) n from)
      (λ n'. then_quiet (lower env (for_place purpose) n' to) no_operand (lower_quiet env (for_place purpose) n' to) none_quiet)))
  lower_quiet env purpose k (Joined ts) = shaped_quiet AsJoined purpose k (lower_all env ForUse k ts) (all_quiet env ForUse k ts)
  lower_quiet env purpose k (Before op t) = shaped_quiet (AsBefore op) purpose k (and_then (lower env ForUse k t) no_operand) (then_quiet (lower env ForUse k t) no_operand (lower_quiet env ForUse k t) none_quiet)
  lower_quiet env purpose k (Between op t u) =
      between_quiet (may_decide op && takes_steps ForUse u) (refers u || false) op purpose k (λ p. lower env p k t) (λ n. lower env ForUse n u) (λ p. lower_quiet env p k t) (λ n. lower_quiet env ForUse n u)
  lower_quiet env purpose k (Intrinsically function ts) =
      shaped_quiet (AsFunction function) purpose k (lower_all env (for_function (is_library function)) k ts) (all_quiet env (for_function (is_library function)) k ts)
  lower_quiet env purpose k (Refer callee ts) = shaped_quiet (AsReference callee) purpose k (lower_all env ForCall k ts) (all_quiet env ForCall k ts)
  lower_quiet env purpose k (Bind ts t) = ordered_quiet (lower_all env ForLater k ts) (λ ps n. lower ps purpose n t) (all_quiet env ForLater k ts) (λ ps n. lower_quiet ps purpose n t)
  lower_quiet env purpose k (Bound i) = tt

  all_quiet : (env : Pures) (purpose : Purpose) (k : ℕ) (ts : Terms) → AreQuiet (lower_all env purpose k ts).steps
  all_quiet env purpose k NoMore = none_quiet k
  all_quiet env purpose k (More t ts) =
      then_quiet (lower env (ahead purpose (any_refers ts)) k t) (λ n. lower_all env purpose n ts) (lower_quiet env (ahead purpose (any_refers ts)) k t) (λ n. all_quiet env purpose n ts)

loop_quiet : (k : ℕ) (ts : Terms) → AreQuiet (loop_operands k ts).steps
unfolding loop_operands
loop_quiet k NoMore = tt
loop_quiet k (More x NoMore) = tt
loop_quiet k (More x (More first bounds)) =
    then_quiet (lower NoPure ForLater k x) (λ n. and_then (lower NoPure (ahead ForUse (any_refers bounds)) n first) (λ n'. lower_all NoPure ForLater n' bounds)) (lower_quiet NoPure ForLater k x)
    (λ n. then_quiet (lower NoPure (ahead ForUse (any_refers bounds)) n first) (λ n'. lower_all NoPure ForLater n' bounds) (lower_quiet NoPure (ahead ForUse (any_refers bounds)) n first) (λ n'. all_quiet NoPure ForLater n' bounds))

operands_quiet : (mode : Mode) (k : ℕ) (ts : Terms) → AreQuiet (lowered_as mode k ts).steps
operands_quiet (InOrder purpose) k ts = all_quiet NoPure purpose k ts
operands_quiet OfLoop k ts = loop_quiet k ts

-- ## The first step behind the operands of a statement

first_of_call : (u : Text) (k : ℕ) (name : Bytes) (labels : List ℕ) (ps : Pures) (p q : ℕ) → Spans u p (call_steps k name labels ps) q → (st : Step) × (slice_get u.steps p ≡ Some st) × IsNoBranch st
unfolding call_steps
first_of_call u k name [] ps p q (further e spans) = (_, e, tt)
first_of_call u k name (l ∷ ls) ps p q (further e spans) = (_, e, tt)

pub first_of_closing : (u : Text) (k : ℕ) (x : Option ℕ) (head : Head) (ts : Terms) (ps : Pures) (closing : List Step) (p q : ℕ) → IsClosing u k x head ts ps closing → Spans u p closing q →
    (st : Step) × (slice_get u.steps p ≡ Some st) × IsNoBranch st
first_of_closing u k x _ _ _ _ p q for_set (further e spans) = (_, e, tt)
first_of_closing u k x _ _ _ _ p q for_set_label (further e spans) = (_, e, tt)
first_of_closing u k x _ _ _ _ p q for_go (further e spans) = (_, e, tt)
first_of_closing u k x _ _ _ _ p q for_pick (further e spans) = (_, e, tt)
first_of_closing u k x _ _ _ _ p q (for_go_assigned covers) (further e spans) = (_, e, tt)
first_of_closing u k x _ _ _ _ p q for_go_by_sign (further e spans) = (_, e, tt)
first_of_closing u k x _ _ _ _ p q (for_guard code) (further e spans) = (_, e, tt)
first_of_closing u k x _ _ _ _ p q (for_arm flat room) (further e spans) = (_, e, tt)
first_of_closing u k x _ _ _ _ p q (for_test stands) (further e spans) = (_, e, tt)
first_of_closing u k x _ _ _ _ p q (for_loop n stands) (further e spans) = (_, e, tt)
first_of_closing u k x _ ts ps _ p q (for_call {name = name} hides) spans = first_of_call u k name (labels_written ts) ps p q spans
first_of_closing u k x _ _ _ _ p q for_return (further e spans) = (_, e, tt)
first_of_closing u k x _ _ _ _ p q for_return_by (further e spans) = (_, e, tt)
first_of_closing u k x _ _ _ _ p q for_stop (further e spans) = (_, e, tt)
first_of_closing u k x _ _ _ _ p q for_end (further e spans) = (_, e, tt)
first_of_closing u k x _ _ _ _ p q (for_begin code) (further e spans) = (_, e, tt)
first_of_closing u k x _ _ _ _ p q (for_item code) (further e spans) = (_, e, tt)
first_of_closing u k x _ _ _ _ p q for_finish (further e spans) = (_, e, tt)
first_of_closing u k x _ _ _ _ p q for_auxiliary (further e spans) = (_, e, tt)

-- ## Calls in operands

-- a step of such code, or the one behind it
quiet_at : (u : Text) {p q : ℕ} {xs : List Step} → Spans u p xs q → AreQuiet xs → IsOrdinary u q → (d : ℕ) → p + d ≤ q → IsOrdinary u (p + d)
quiet_at u {p = p} nothing quiet ordinary d le = let same : p ≡ p + d = omega (arith, le) in subst (IsOrdinary u) same ordinary
quiet_at u {p = p} (further {st = st} e spans) quiet ordinary zero le = let same : p ≡ p + 0 = omega arith in subst (IsOrdinary u) same (ordinary_by u p st e quiet.0)
quiet_at u {p = p} (further e spans) quiet ordinary (suc d) le =
    let same : suc p + d ≡ p + suc d = omega arith in
    subst (IsOrdinary u) same (quiet_at u spans quiet.1 ordinary d (omega (arith, le)))

pub calls_functions : (u : Text) → BranchesBehind u → (k : ℕ) (x : Option ℕ) (mode : Mode) (head : Head) (ts : Terms) (closing : List Step) (p upto q : ℕ) → IsClosing u k x head ts (lowered_as mode k ts).value closing →
    Spans u p (lowered_as mode k ts).steps upto → Spans u upto closing q → CallsFunctions u p upto
calls_functions u behind k x mode head ts closing p upto q closes spans more at k' callee ps up inside call wants =
    let branch = behind at k' callee ps call wants in
    let first = first_of_closing u k x head ts (lowered_as mode k ts).value closing upto q closes more in
    let same : p + (suc at - p) ≡ suc at = omega (arith, up) in
    let ordinary = subst (IsOrdinary u) same (quiet_at u spans (operands_quiet mode k ts) (ordinary_by u upto first.0 first.1 first.2) (suc at - p) (omega (arith, up, inside))) in
    ordinary (Branch branch.0 branch.1) branch.2
