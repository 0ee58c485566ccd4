-- Each node of an expression takes three steps at most.
use Rattle.std.specs.Prelude.{ℕ, suc, ◌+◌, ◌*◌, ◌≤◌, Bool, true, false, ◌&&◌, ◌||◌, [], ◌∷◌, ◌++◌, length}
use Rattle.std.proofs.Common.{arith}
use Rattle.std.proofs.lemmas.List.{length-append}
use Rattle.lowering.specs.l_core.f_tree.Terms.{Operator, Function, Term, Val, Fetch, At, All, Element, Alone, Part, Joined, Before, Between, Intrinsically, Refer, Bind, Bound, Terms, NoMore, More, refers, any_refers}
use Rattle.lowering.specs.l_core.Pures.{Pure, Pures}
use Rattle.lowering.specs.l_core.Steps.{Keep, Unless}
use Rattle.lowering.specs.Expressions.{Purpose, ForUse, ForCall, ForLater, Lowered, plain, and_then, no_operand, ahead, Shape, AsFetch, AsElement, AsAlone, AsPart, AsJoined, AsBefore, AsBetween, AsFunction, AsReference, is_library, for_place, for_function, for_fetch, kept_steps, function_steps, closing, shaped, takes_steps, may_decide, wanted_where, guarded, lowered_between, in_order, lower, lower_all}
use Rattle.lowered_sizes.specs.ReadNodes.{term_nodes, terms_nodes}

-- ## One form

kept_size : (purpose : Purpose) (k : ℕ) (p : Pure) → length (kept_steps purpose k p) ≤ 1
unfolding kept_steps
kept_size ForUse k p = omega arith
kept_size purpose k p = omega arith

function_size : (b : Bool) (function : Function) (purpose : Purpose) (k : ℕ) (ps : Pures) → length (function_steps b function purpose k ps) ≤ 1
unfolding function_steps
function_size true function purpose k ps = omega arith
function_size false function purpose k ps = kept_size purpose k _

closing_size : (shape : Shape) (purpose : Purpose) (k : ℕ) (ps : Pures) → length (closing shape purpose k ps) ≤ 1
unfolding closing
closing_size AsFetch purpose k ps = kept_size (for_fetch purpose) k _
closing_size (AsElement x) purpose k ps = omega arith
closing_size AsAlone purpose k ps = omega arith
closing_size (AsPart x) purpose k ps = omega arith
closing_size (AsFunction function) purpose k ps = function_size (is_library function) function purpose k ps
closing_size (AsReference callee) purpose k ps = omega arith
closing_size shape purpose k ps = kept_size purpose k _

shaped_size : (shape : Shape) (purpose : Purpose) (k : ℕ) (l : Lowered Pures) (n : ℕ) → length l.steps ≤ 3 * n → length (shaped shape purpose k l).steps ≤ 3 * suc n
unfolding shaped
shaped_size shape purpose k l n h =
    let whole = length-append l.steps (closing shape purpose k l.value) in
    let last = closing_size shape purpose k l.value in
    omega (arith, whole, last, h)

pub and_size : (one : Lowered Pure) (more : ℕ → Lowered Pures) (m n : ℕ) → length one.steps ≤ 3 * m → ((k : ℕ) → length (more k).steps ≤ 3 * n) → length (and_then one more).steps ≤ 3 * (m + n)
unfolding and_then
and_size one more m n h each =
    let whole = length-append one.steps (more one.free).steps in
    let last = each one.free in
    omega (arith, whole, last, h)

none_size : (k : ℕ) → length (no_operand k).steps ≤ 3 * 0
unfolding no_operand plain
none_size k = omega arith

one_size : (one : Lowered Pure) (n : ℕ) → length one.steps ≤ 3 * n → length (and_then one no_operand).steps ≤ 3 * n
one_size one n h = let all = and_size one no_operand n 0 h none_size in omega (arith, all)

order_size : (first : Lowered Pures) (then' : Pures → ℕ → Lowered Pure) (m n : ℕ) → length first.steps ≤ 3 * m → ((ps : Pures) (k : ℕ) → length (then' ps k).steps ≤ 3 * n) → length (in_order first then').steps ≤ 3 * suc (m + n)
unfolding in_order
order_size first then' m n h each =
    let whole = length-append first.steps (then' first.value first.free).steps in
    let last = each first.value first.free in
    omega (arith, whole, last, h)

guarded_size : (op : Operator) (k : ℕ) (left right : Lowered Pure) (m n : ℕ) → length left.steps ≤ 3 * m → length right.steps ≤ 3 * n → length (guarded op k left right).steps ≤ 3 * suc (m + n)
unfolding guarded
guarded_size op k left right m n h g =
    let whole = length-append left.steps (Keep k left.value ∷ (Unless (wanted_where op k) (suc (length right.steps)) ∷ (right.steps ++ (Keep k right.value ∷ [])))) in
    let behind = length-append right.steps (Keep k right.value ∷ []) in
    omega (arith, whole, behind, h, g)

between_size : (b r : Bool) (op : Operator) (purpose : Purpose) (k : ℕ) (left : Purpose → Lowered Pure) (right : ℕ → Lowered Pure) (m n : ℕ) → ((p : Purpose) → length (left p).steps ≤ 3 * m) → ((i : ℕ) → length (right i).steps ≤ 3 * n)
    → length (lowered_between b r op purpose k left right).steps ≤ 3 * suc (m + n)
unfolding lowered_between
between_size true r op purpose k left right m n h g = guarded_size op k (left ForUse) (right k) m n (h ForUse) (g k)
between_size false r op purpose k left right m n h g =
    shaped_size (AsBetween op) purpose k (and_then (left (ahead ForUse r)) (λ i. and_then (right i) no_operand)) (m + n)
    (and_size (left (ahead ForUse r)) (λ i. and_then (right i) no_operand) m n (h (ahead ForUse r)) (λ i. one_size (right i) n (g i)))

-- ## Expressions

mutual
  unfolding plain lower lower_all term_nodes terms_nodes

  pub lower_size : (env : Pures) (purpose : Purpose) (k : ℕ) (t : Term) → length (lower env purpose k t).steps ≤ 3 * term_nodes t
  lower_size env purpose k (Val d) = omega arith
  lower_size env purpose k (Fetch t) = shaped_size AsFetch purpose k _ (term_nodes t) (one_size (lower env ForUse k t) (term_nodes t) (lower_size env ForUse k t))
  lower_size env purpose k (At x) = omega arith
  lower_size env purpose k (All x) = omega arith
  lower_size env purpose k (Element x ts) = shaped_size (AsElement x) purpose k _ (terms_nodes ts) (all_size env (for_place purpose) k ts)
  lower_size env purpose k (Alone t) = shaped_size AsAlone purpose k _ (term_nodes t) (one_size (lower env (for_place purpose) k t) (term_nodes t) (lower_size env (for_place purpose) k t))
  lower_size env purpose k (Part x t from to) =
      shaped_size (AsPart x) purpose k _ (term_nodes t + (term_nodes from + term_nodes to))
      (and_size (lower env (ahead (for_place purpose) (refers from || (refers to || false))) k t) _ (term_nodes t) (term_nodes from + term_nodes to) (lower_size env _ k t)
      (λ n. and_size (lower env (ahead (for_place purpose) (refers to || false)) n from) _ (term_nodes from) (term_nodes to) (lower_size env _ n from)
      (λ n'. one_size (lower env (for_place purpose) n' to) (term_nodes to) (lower_size env (for_place purpose) n' to))))
  lower_size env purpose k (Joined ts) = shaped_size AsJoined purpose k _ (terms_nodes ts) (all_size env ForUse k ts)
  lower_size env purpose k (Before op t) = shaped_size (AsBefore op) purpose k _ (term_nodes t) (one_size (lower env ForUse k t) (term_nodes t) (lower_size env ForUse k t))
  lower_size env purpose k (Between op t u) =
      between_size (may_decide op && takes_steps ForUse u) (refers u || false) op purpose k (λ p. lower env p k t) (λ n. lower env ForUse n u) (term_nodes t) (term_nodes u) (λ p. lower_size env p k t) (λ n. lower_size env ForUse n u)
  lower_size env purpose k (Intrinsically function ts) = shaped_size (AsFunction function) purpose k _ (terms_nodes ts) (all_size env (for_function (is_library function)) k ts)
  lower_size env purpose k (Refer callee ts) = shaped_size (AsReference callee) purpose k _ (terms_nodes ts) (all_size env ForCall k ts)
  lower_size env purpose k (Bind ts t) = order_size (lower_all env ForLater k ts) (λ ps n. lower ps purpose n t) (terms_nodes ts) (term_nodes t) (all_size env ForLater k ts) (λ ps n. lower_size ps purpose n t)
  lower_size env purpose k (Bound i) = omega arith

  pub all_size : (env : Pures) (purpose : Purpose) (k : ℕ) (ts : Terms) → length (lower_all env purpose k ts).steps ≤ 3 * terms_nodes ts
  all_size env purpose k NoMore = none_size k
  all_size env purpose k (More t ts) = and_size (lower env (ahead purpose (any_refers ts)) k t) _ (term_nodes t) (terms_nodes ts) (lower_size env (ahead purpose (any_refers ts)) k t) (λ n. all_size env purpose n ts)
