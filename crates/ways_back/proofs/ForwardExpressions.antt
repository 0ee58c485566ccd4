-- The steps of an expression go forward.
use Rattle.std.specs.Prelude.{ℕ, suc, Bool, true, false, ◌&&◌, ◌||◌, [], ◌∷◌, ◌++◌, length}
use Rattle.std.proofs.Common.{refl}
use Rattle.lowering.specs.l_core.f_tree.Terms.{Operator, Function, Term, Val, Fetch, At, All, Element, Alone, Part, Joined, Before, Between, Intrinsically, Refer, Bind, Bound, Terms, NoMore, More, refers, any_refers}
use Rattle.lowering.specs.l_core.Pures.{Pure, Applied, Pures}
use Rattle.lowering.specs.l_core.Steps.{Keep, Unless}
use Rattle.lowering.specs.Expressions.{Purpose, ForUse, ForCall, ForReading, ForLater, Lowered, plain, and_then, no_operand, ahead, Shape, AsFetch, AsElement, AsAlone, AsPart, AsJoined, AsBefore, AsBetween, AsFunction, AsReference, is_library, for_place, for_function, for_fetch, pure_of, kept_steps, function_steps, closing, shaped, takes_steps, may_decide, wanted_where, guarded, lowered_between, in_order, lower, lower_all}
use Rattle.ways_back.proofs.Ways.{back_of, AreForward, forward_both}

kept_forward : (purpose : Purpose) (k : ℕ) (p : Pure) → AreForward (kept_steps purpose k p)
unfolding kept_steps AreForward back_of
kept_forward ForUse k p = tt
kept_forward ForCall k p = (refl, tt)
kept_forward ForReading k p = (refl, tt)
kept_forward ForLater k p = (refl, tt)

function_forward : (library : Bool) (function : Function) (purpose : Purpose) (k : ℕ) (ps : Pures) → AreForward (function_steps library function purpose k ps)
unfolding function_steps AreForward back_of
function_forward true function purpose k ps = (refl, tt)
function_forward false function purpose k ps = kept_forward purpose k (Applied function ps)

closing_forward : (shape : Shape) (purpose : Purpose) (k : ℕ) (ps : Pures) → AreForward (closing shape purpose k ps)
unfolding closing AreForward back_of
closing_forward AsFetch purpose k ps = kept_forward (for_fetch purpose) k (pure_of AsFetch ps)
closing_forward (AsElement x) purpose k ps = tt
closing_forward AsAlone purpose k ps = tt
closing_forward (AsPart x) purpose k ps = tt
closing_forward (AsFunction function) purpose k ps = function_forward (is_library function) function purpose k ps
closing_forward (AsReference callee) purpose k ps = (refl, tt)
closing_forward AsJoined purpose k ps = kept_forward purpose k (pure_of AsJoined ps)
closing_forward (AsBefore op) purpose k ps = kept_forward purpose k (pure_of (AsBefore op) ps)
closing_forward (AsBetween op) purpose k ps = kept_forward purpose k (pure_of (AsBetween op) ps)

shaped_forward : (shape : Shape) (purpose : Purpose) (k : ℕ) (l : Lowered Pures) → AreForward l.steps → AreForward (shaped shape purpose k l).steps
unfolding shaped
shaped_forward shape purpose k l forward = forward_both l.steps (closing shape purpose k l.value) forward (closing_forward shape purpose k l.value)

pub then_forward : (one : Lowered Pure) (more : ℕ → Lowered Pures) → AreForward one.steps → ((n : ℕ) → AreForward (more n).steps) → AreForward (and_then one more).steps
unfolding and_then
then_forward one more first later = forward_both one.steps (more one.free).steps first (later one.free)

none_forward : (k : ℕ) → AreForward (no_operand k).steps
unfolding no_operand plain AreForward
none_forward k = tt

guarded_forward : (op : Operator) (k : ℕ) (left right : Lowered Pure) → AreForward left.steps → AreForward right.steps → AreForward (guarded op k left right).steps
unfolding guarded AreForward back_of
guarded_forward op k left right first later =
    forward_both left.steps (Keep k left.value ∷ Unless (wanted_where op k) (suc (length right.steps)) ∷ (right.steps ++ Keep k right.value ∷ [])) first
    (refl, (refl, forward_both right.steps (Keep k right.value ∷ []) later (refl, tt)))

between_forward : (guards refers' : Bool) (op : Operator) (purpose : Purpose) (k : ℕ) (left : Purpose → Lowered Pure) (right : ℕ → Lowered Pure)
    → ((p : Purpose) → AreForward (left p).steps) → ((n : ℕ) → AreForward (right n).steps) → AreForward (lowered_between guards refers' op purpose k left right).steps
unfolding lowered_between
between_forward true refers' op purpose k left right first later = guarded_forward op k (left ForUse) (right k) (first ForUse) (later k)
between_forward false refers' op purpose k left right first later =
    shaped_forward (AsBetween op) purpose k (and_then (left (ahead ForUse refers')) (λ n. and_then (right n) no_operand))
    (then_forward (left (ahead ForUse refers')) (λ n. and_then (right n) no_operand) (first (ahead ForUse refers')) (λ n. then_forward (right n) no_operand (later n) none_forward))

ordered_forward : (first : Lowered Pures) (then' : Pures → ℕ → Lowered Pure) → AreForward first.steps → ((ps : Pures) (n : ℕ) → AreForward (then' ps n).steps) → AreForward (in_order first then').steps
unfolding in_order
ordered_forward first then' one later = forward_both first.steps (then' first.value first.free).steps one (later first.value first.free)

mutual
  unfolding lower lower_all plain AreForward

  pub lower_forward : (env : Pures) (purpose : Purpose) (k : ℕ) (t : Term) → AreForward (lower env purpose k t).steps
  lower_forward env purpose k (Val d) = tt
  lower_forward env purpose k (Fetch t) = shaped_forward AsFetch purpose k (and_then (lower env ForUse k t) no_operand) (then_forward (lower env ForUse k t) no_operand (lower_forward env ForUse k t) none_forward)
  lower_forward env purpose k (At x) = tt
  lower_forward env purpose k (All x) = tt
  lower_forward env purpose k (Element x ts) = shaped_forward (AsElement x) purpose k (lower_all env (for_place purpose) k ts) (all_forward env (for_place purpose) k ts)
  lower_forward env purpose k (Alone t) =
      shaped_forward AsAlone purpose k (and_then (lower env (for_place purpose) k t) no_operand) (then_forward (lower env (for_place purpose) k t) no_operand (lower_forward env (for_place purpose) k t) none_forward)
  lower_forward env purpose k (Part x t from to) =
      shaped_forward (AsPart x) purpose k
      (and_then (lower env (ahead (for_place purpose) (refers from || (refers to || false))) k t)
      (λ n. and_then (lower env (ahead (for_place purpose) (refers to || false)) n from)
      (λ n'. and_then (lower env (for_place purpose) n' to) no_operand)))
      (then_forward (lower env (ahead (for_place purpose) (refers from || (refers to || false))) k t) (λ n. and_then (lower env (ahead (for_place purpose) (refers to || false)) n from) (λ n'. and_then (lower env (for_place purpose) n' to) no_operand))
      (lower_forward env (ahead (for_place purpose) (refers from || (refers to || false))) k t)
      (λ n. then_forward (lower env (ahead (for_place purpose) (refers to || false)) n from) (λ n'. and_then (lower env (for_place purpose) n' to) no_operand)
      (lower_forward env (ahead (for_place purpose) (refers to || false)) n from)
      (λ n'. then_forward (lower env (for_place purpose) n' to) no_operand (lower_forward env (for_place purpose) n' to) none_forward)))
  lower_forward env purpose k (Joined ts) = shaped_forward AsJoined purpose k (lower_all env ForUse k ts) (all_forward env ForUse k ts)
  lower_forward env purpose k (Before op t) = shaped_forward (AsBefore op) purpose k (and_then (lower env ForUse k t) no_operand) (then_forward (lower env ForUse k t) no_operand (lower_forward env ForUse k t) none_forward)
  lower_forward env purpose k (Between op t u) =
      between_forward (may_decide op && takes_steps ForUse u) (refers u || false) op purpose k (λ p. lower env p k t) (λ n. lower env ForUse n u) (λ p. lower_forward env p k t) (λ n. lower_forward env ForUse n u)
  lower_forward env purpose k (Intrinsically function ts) =
      shaped_forward (AsFunction function) purpose k (lower_all env (for_function (is_library function)) k ts) (all_forward env (for_function (is_library function)) k ts)
  lower_forward env purpose k (Refer callee ts) = shaped_forward (AsReference callee) purpose k (lower_all env ForCall k ts) (all_forward env ForCall k ts)
  lower_forward env purpose k (Bind ts t) = ordered_forward (lower_all env ForLater k ts) (λ ps n. lower ps purpose n t) (all_forward env ForLater k ts) (λ ps n. lower_forward ps purpose n t)
  lower_forward env purpose k (Bound i) = tt

  pub all_forward : (env : Pures) (purpose : Purpose) (k : ℕ) (ts : Terms) → AreForward (lower_all env purpose k ts).steps
  all_forward env purpose k NoMore = none_forward k
  all_forward env purpose k (More t ts) =
      then_forward (lower env (ahead purpose (any_refers ts)) k t) (λ n. lower_all env purpose n ts) (lower_forward env (ahead purpose (any_refers ts)) k t) (λ n. all_forward env purpose n ts)
