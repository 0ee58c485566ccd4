-- Each node of an expression keeps one temporary at most, and passes two values at most.
use Rattle.std.specs.Prelude.{ℕ, suc, ◌+◌, ◌*◌, ◌≤◌, Bool, true, false, ◌&&◌, ◌||◌, List, [], ◌∷◌, ◌++◌, length}
use Rattle.std.proofs.Common.{arith}
use Rattle.lowered_sizes.specs.l_core.f_tree.Terms.{Operator, Function, Term, Val, Fetch, At, All, Element, Alone, Part, Joined, Before, Between, Intrinsically, Refer, Bind, Bound, Terms, NoMore, More, refers, any_refers}
use Rattle.lowered_sizes.specs.l_core.Pures.{Pure, Pures, NoPure, AndPure}
use Rattle.lowered_sizes.specs.l_core.Steps.{Takes, Step, Keep, Compute, Unless, CallFor, CallSub, Acts}
use Rattle.lowered_sizes.specs.lowering.Expressions.{Purpose, ForUse, ForCall, ForLater, Lowered, plain, and_then, no_operand, ahead, Shape, AsFetch, AsElement, AsAlone, AsPart, AsJoined, AsBefore, AsBetween, AsFunction, AsReference, is_library, for_place, for_function, for_fetch, kept_steps, kept_free, function_steps, function_free, closing, closed_free, shaped, takes_steps, may_decide, wanted_where, guarded, lowered_between, in_order, lower, lower_all}
use Rattle.lowered_sizes.specs.ReadNodes.{term_nodes, terms_nodes}
use Rattle.unit_translation.specs.UnitContents.{temporaries_kept}
use Rattle.lowered_objects.specs.FewObjects.{string_bytes, strings_bytes}

-- ## Steps

unfoldable pub count : Pures → ℕ
count NoPure = 0
count (AndPure p ps) = suc (count ps)

-- at most so many values are passed by a step
unfoldable pub passed : Step → ℕ
passed (Acts Takes ps m) = 3
passed (Compute k f ps) = count ps
passed (CallFor k callee ps) = count ps
passed (CallSub k x ps) = count ps
passed st = 0

unfoldable pub all_passed : List Step → ℕ
all_passed [] = 0
all_passed (st ∷ later) = passed st + all_passed later

-- temporaries below a number, so many values at most, and so many bytes of strings
pub record Has (top most long : ℕ) (steps : List Step) : Type 0 where
  pub kept : temporaries_kept steps ≤ top
  pub values : all_passed steps ≤ most
  pub bytes : strings_bytes steps ≤ long

pub has_none : (kept : ℕ) → Has kept 0 0 []
unfolding temporaries_kept all_passed strings_bytes
has_none kept = record { kept = omega arith; values = omega arith; bytes = omega arith }

pub has_more : (k l v w b c : ℕ) (steps : List Step) → k ≤ l → v ≤ w → b ≤ c → Has k v b steps → Has l w c steps
has_more k l v w b c steps one two three h =
    let kept = h.kept in
    let values = h.values in
    let bytes = h.bytes in
    record { kept = omega (arith, kept, one); values = omega (arith, values, two); bytes = omega (arith, bytes, three) }

kept_both : (n : ℕ) (xs ys : List Step) → temporaries_kept xs ≤ n → temporaries_kept ys ≤ n → temporaries_kept (xs ++ ys) ≤ n
unfolding temporaries_kept
kept_both n [] ys one other = other
kept_both n (Keep k p ∷ xs) ys one other = let more = kept_both n xs ys (omega (arith, one)) other in omega (arith, one, more)
kept_both n (Compute k f ps ∷ xs) ys one other = let more = kept_both n xs ys (omega (arith, one)) other in omega (arith, one, more)
kept_both n (CallFor k callee ps ∷ xs) ys one other = let more = kept_both n xs ys (omega (arith, one)) other in omega (arith, one, more)
kept_both n (st ∷ xs) ys one other = kept_both n xs ys one other

passed_both : (xs ys : List Step) → all_passed (xs ++ ys) ≤ all_passed xs + all_passed ys
unfolding all_passed
passed_both [] ys = omega arith
passed_both (st ∷ xs) ys = let more = passed_both xs ys in omega (arith, more)

bytes_both : (xs ys : List Step) → strings_bytes (xs ++ ys) ≤ strings_bytes xs + strings_bytes ys
unfolding strings_bytes
bytes_both [] ys = omega arith
bytes_both (st ∷ xs) ys = let more = bytes_both xs ys in omega (arith, more)

pub has_both : (n v w b c : ℕ) (xs ys : List Step) → Has n v b xs → Has n w c ys → Has n (v + w) (b + c) (xs ++ ys)
has_both n v w b c xs ys one other =
    let values = passed_both xs ys in
    let bytes = bytes_both xs ys in
    let v1 = one.values in
    let v2 = other.values in
    let b1 = one.bytes in
    let b2 = other.bytes in
    record { kept = kept_both n xs ys one.kept other.kept; values = omega (arith, values, v1, v2); bytes = omega (arith, bytes, b1, b2) }

-- ## One form

kept_has : (purpose : Purpose) (k : ℕ) (p : Pure) → Has (suc k) 0 0 (kept_steps purpose k p)
unfolding kept_steps temporaries_kept all_passed passed strings_bytes string_bytes
kept_has ForUse k p = record { kept = omega arith; values = omega arith; bytes = omega arith }
kept_has purpose k p = record { kept = omega arith; values = omega arith; bytes = omega arith }

function_has : (b : Bool) (function : Function) (purpose : Purpose) (k : ℕ) (ps : Pures) → Has (suc k) (count ps) 0 (function_steps b function purpose k ps)
unfolding function_steps temporaries_kept all_passed passed strings_bytes string_bytes
function_has true function purpose k ps = record { kept = omega arith; values = omega arith; bytes = omega arith }
function_has false function purpose k ps = has_more (suc k) (suc k) 0 (count ps) 0 0 _ (omega arith) (omega arith) (omega arith) (kept_has purpose k _)

closing_has : (shape : Shape) (purpose : Purpose) (k : ℕ) (ps : Pures) → Has (suc k) (count ps) 0 (closing shape purpose k ps)
unfolding closing temporaries_kept all_passed passed strings_bytes string_bytes
closing_has AsFetch purpose k ps = has_more (suc k) (suc k) 0 (count ps) 0 0 _ (omega arith) (omega arith) (omega arith) (kept_has (for_fetch purpose) k _)
closing_has (AsElement x) purpose k ps = record { kept = omega arith; values = omega arith; bytes = omega arith }
closing_has AsAlone purpose k ps = record { kept = omega arith; values = omega arith; bytes = omega arith }
closing_has (AsPart x) purpose k ps = record { kept = omega arith; values = omega arith; bytes = omega arith }
closing_has (AsFunction function) purpose k ps = function_has (is_library function) function purpose k ps
closing_has (AsReference callee) purpose k ps = record { kept = omega arith; values = omega arith; bytes = omega arith }
closing_has shape purpose k ps = has_more (suc k) (suc k) 0 (count ps) 0 0 _ (omega arith) (omega arith) (omega arith) (kept_has purpose k _)

kept_next : (purpose : Purpose) (k n m : ℕ) → n ≤ k + m → kept_free purpose k n ≤ k + suc m
unfolding kept_free
kept_next ForUse k n m h = omega (arith, h)
kept_next purpose k n m h = omega (arith, h)

function_next : (b : Bool) (purpose : Purpose) (k n m : ℕ) → n ≤ k + m → function_free b purpose k n ≤ k + suc m
unfolding function_free
function_next true purpose k n m h = omega arith
function_next false purpose k n m h = kept_next purpose k n m h

closed_next : (shape : Shape) (purpose : Purpose) (k n m : ℕ) → n ≤ k + m → closed_free shape purpose k n ≤ k + suc m
unfolding closed_free
closed_next AsFetch purpose k n m h = kept_next (for_fetch purpose) k n m h
closed_next (AsElement x) purpose k n m h = omega (arith, h)
closed_next AsAlone purpose k n m h = omega (arith, h)
closed_next (AsPart x) purpose k n m h = omega (arith, h)
closed_next (AsFunction function) purpose k n m h = function_next (is_library function) purpose k n m h
closed_next (AsReference callee) purpose k n m h = omega arith
closed_next shape purpose k n m h = kept_next purpose k n m h

-- ## What is lowered

-- one value, of so many nodes
pub record Few (k n : ℕ) (l : Lowered Pure) : Type 0 where
  pub kept : temporaries_kept l.steps ≤ k + n
  pub free : l.free ≤ k + n
  pub values : all_passed l.steps + 1 ≤ 2 * n
  pub bytes : strings_bytes l.steps ≤ 0

-- values one after the other
pub record FewAll (k n : ℕ) (l : Lowered Pures) : Type 0 where
  pub kept : temporaries_kept l.steps ≤ k + n
  pub free : l.free ≤ k + n
  pub values : all_passed l.steps + count l.value ≤ 2 * n
  pub bytes : strings_bytes l.steps ≤ 0

shaped_few : (shape : Shape) (purpose : Purpose) (k : ℕ) (l : Lowered Pures) (n : ℕ) → FewAll k n l → Few k (suc n) (shaped shape purpose k l)
unfolding shaped
shaped_few shape purpose k l n h =
    let last = closing_has shape purpose k l.value in
    let k1 = h.kept in
    let k2 = last.kept in
    let v0 = passed_both l.steps (closing shape purpose k l.value) in
    let v1 = h.values in
    let v2 = last.values in
    let b0 = bytes_both l.steps (closing shape purpose k l.value) in
    let b1 = h.bytes in
    let b2 = last.bytes in
    record {
      kept = kept_both (k + suc n) l.steps (closing shape purpose k l.value) (omega (arith, k1)) (omega (arith, k2));
      free = closed_next shape purpose k l.free n h.free;
      values = omega (arith, v0, v1, v2);
      bytes = omega (arith, b0, b1, b2);
    }

pub and_few : (k : ℕ) (one : Lowered Pure) (more : ℕ → Lowered Pures) (m n : ℕ) → Few k m one → ((j : ℕ) → FewAll j n (more j)) → FewAll k (m + n) (and_then one more)
unfolding and_then count
and_few k one more m n h each =
    let last = each one.free in
    let free = h.free in
    let k1 = h.kept in
    let k2 = last.kept in
    let f2 = last.free in
    let v0 = passed_both one.steps (more one.free).steps in
    let v1 = h.values in
    let v2 = last.values in
    let b0 = bytes_both one.steps (more one.free).steps in
    let b1 = h.bytes in
    let b2 = last.bytes in
    record {
      kept = kept_both (k + (m + n)) one.steps (more one.free).steps (omega (arith, k1)) (omega (arith, free, k2));
      free = omega (arith, free, f2);
      values = omega (arith, v0, v1, v2);
      bytes = omega (arith, b0, b1, b2);
    }

pub none_few : (k : ℕ) → FewAll k 0 (no_operand k)
unfolding no_operand plain count temporaries_kept all_passed strings_bytes
none_few k = record { kept = omega arith; free = omega arith; values = omega arith; bytes = omega arith }

one_few : (k : ℕ) (one : Lowered Pure) (n : ℕ) → Few k n one → FewAll k n (and_then one no_operand)
one_few k one n h =
    let all = and_few k one no_operand n 0 h none_few in
    let kept = all.kept in
    let free = all.free in
    let values = all.values in
    record { kept = omega (arith, kept); free = omega (arith, free); values = omega (arith, values); bytes = all.bytes }

plain_few : (p : Pure) (k : ℕ) → Few k 1 (plain p k)
unfolding plain temporaries_kept all_passed strings_bytes
plain_few p k = record { kept = omega arith; free = omega arith; values = omega arith; bytes = omega arith }

order_few : (k : ℕ) (first : Lowered Pures) (then' : Pures → ℕ → Lowered Pure) (m n : ℕ) → FewAll k m first → ((ps : Pures) (j : ℕ) → Few j n (then' ps j)) → Few k (suc (m + n)) (in_order first then')
unfolding in_order
order_few k first then' m n h each =
    let last = each first.value first.free in
    let free = h.free in
    let k1 = h.kept in
    let k2 = last.kept in
    let f2 = last.free in
    let v0 = passed_both first.steps (then' first.value first.free).steps in
    let v1 = h.values in
    let v2 = last.values in
    let b0 = bytes_both first.steps (then' first.value first.free).steps in
    let b1 = h.bytes in
    let b2 = last.bytes in
    record {
      kept = kept_both (k + suc (m + n)) first.steps (then' first.value first.free).steps (omega (arith, k1)) (omega (arith, free, k2));
      free = omega (arith, free, f2);
      values = omega (arith, v0, v1, v2);
      bytes = omega (arith, b0, b1, b2);
    }

keep_has : (k : ℕ) (p : Pure) → Has (suc k) 0 0 (Keep k p ∷ [])
unfolding temporaries_kept all_passed passed strings_bytes string_bytes
keep_has k p = record { kept = omega arith; values = omega arith; bytes = omega arith }

guard_has : (k : ℕ) (p q : Pure) (m : ℕ) → Has (suc k) 0 0 (Keep k p ∷ Unless q m ∷ [])
unfolding temporaries_kept all_passed passed strings_bytes string_bytes
guard_has k p q m = record { kept = omega arith; values = omega arith; bytes = omega arith }

guarded_few : (op : Operator) (k : ℕ) (left right : Lowered Pure) (m n : ℕ) → Few k m left → Few k n right → Few k (suc (m + n)) (guarded op k left right)
unfolding guarded
guarded_few op k left right m n h g =
    let top = k + suc (m + n) in
    let k1 = h.kept in
    let k2 = g.kept in
    let v1 = h.values in
    let v2 = g.values in
    let one : Has top (all_passed left.steps) 0 left.steps = record { kept = omega (arith, k1); values = omega arith; bytes = h.bytes } in
    let two : Has top (all_passed right.steps) 0 right.steps = record { kept = omega (arith, k2); values = omega arith; bytes = g.bytes } in
    let test = has_more (suc k) top 0 0 0 0 _ (omega arith) (omega arith) (omega arith) (guard_has k left.value (wanted_where op k) (suc (length right.steps))) in
    let last = has_more (suc k) top 0 0 0 0 _ (omega arith) (omega arith) (omega arith) (keep_has k right.value) in
    let behind = has_both top (all_passed right.steps) 0 0 0 right.steps (Keep k right.value ∷ []) two last in
    let later = has_both top 0 (all_passed right.steps + 0) 0 0 (Keep k left.value ∷ Unless (wanted_where op k) (suc (length right.steps)) ∷ []) (right.steps ++ Keep k right.value ∷ []) test behind in
    let all = has_both top (all_passed left.steps) (0 + (all_passed right.steps + 0)) 0 0 left.steps (Keep k left.value ∷ Unless (wanted_where op k) (suc (length right.steps)) ∷ (right.steps ++ Keep k right.value ∷ [])) one later in
    let v3 = all.values in
    record { kept = all.kept; free = omega arith; values = omega (arith, v1, v2, v3); bytes = all.bytes }

between_few : (b r : Bool) (op : Operator) (purpose : Purpose) (k : ℕ) (left : Purpose → Lowered Pure) (right : ℕ → Lowered Pure) (m n : ℕ) → ((p : Purpose) → Few k m (left p)) → ((i : ℕ) → Few i n (right i))
    → Few k (suc (m + n)) (lowered_between b r op purpose k left right)
unfolding lowered_between
between_few true r op purpose k left right m n h g = guarded_few op k (left ForUse) (right k) m n (h ForUse) (g k)
between_few false r op purpose k left right m n h g =
    shaped_few (AsBetween op) purpose k (and_then (left (ahead ForUse r)) (λ i. and_then (right i) no_operand)) (m + n)
    (and_few k (left (ahead ForUse r)) (λ i. and_then (right i) no_operand) m n (h (ahead ForUse r)) (λ i. one_few i (right i) n (g i)))

-- ## Expressions

mutual
  unfolding lower lower_all term_nodes terms_nodes

  pub lower_few : (env : Pures) (purpose : Purpose) (k : ℕ) (t : Term) → Few k (term_nodes t) (lower env purpose k t)
  lower_few env purpose k (Val d) = plain_few _ k
  lower_few env purpose k (Fetch t) = shaped_few AsFetch purpose k _ (term_nodes t) (one_few k (lower env ForUse k t) (term_nodes t) (lower_few env ForUse k t))
  lower_few env purpose k (At x) = plain_few _ k
  lower_few env purpose k (All x) = plain_few _ k
  lower_few env purpose k (Element x ts) = shaped_few (AsElement x) purpose k _ (terms_nodes ts) (all_few env (for_place purpose) k ts)
  lower_few env purpose k (Alone t) = shaped_few AsAlone purpose k _ (term_nodes t) (one_few k (lower env (for_place purpose) k t) (term_nodes t) (lower_few env (for_place purpose) k t))
  lower_few env purpose k (Part x t from to) =
      shaped_few (AsPart x) purpose k _ (term_nodes t + (term_nodes from + term_nodes to))
      (and_few k (lower env (ahead (for_place purpose) (refers from || (refers to || false))) k t) _ (term_nodes t) (term_nodes from + term_nodes to) (lower_few env _ k t)
      (λ n. and_few n (lower env (ahead (for_place purpose) (refers to || false)) n from) _ (term_nodes from) (term_nodes to) (lower_few env _ n from)
      (λ n'. one_few n' (lower env (for_place purpose) n' to) (term_nodes to) (lower_few env (for_place purpose) n' to))))
  lower_few env purpose k (Joined ts) = shaped_few AsJoined purpose k _ (terms_nodes ts) (all_few env ForUse k ts)
  lower_few env purpose k (Before op t) = shaped_few (AsBefore op) purpose k _ (term_nodes t) (one_few k (lower env ForUse k t) (term_nodes t) (lower_few env ForUse k t))
  lower_few env purpose k (Between op t u) =
      between_few (may_decide op && takes_steps ForUse u) (refers u || false) op purpose k (λ p. lower env p k t) (λ n. lower env ForUse n u) (term_nodes t) (term_nodes u) (λ p. lower_few env p k t) (λ n. lower_few env ForUse n u)
  lower_few env purpose k (Intrinsically function ts) = shaped_few (AsFunction function) purpose k _ (terms_nodes ts) (all_few env (for_function (is_library function)) k ts)
  lower_few env purpose k (Refer callee ts) = shaped_few (AsReference callee) purpose k _ (terms_nodes ts) (all_few env ForCall k ts)
  lower_few env purpose k (Bind ts t) = order_few k (lower_all env ForLater k ts) (λ ps n. lower ps purpose n t) (terms_nodes ts) (term_nodes t) (all_few env ForLater k ts) (λ ps n. lower_few ps purpose n t)
  lower_few env purpose k (Bound i) = plain_few _ k

  pub all_few : (env : Pures) (purpose : Purpose) (k : ℕ) (ts : Terms) → FewAll k (terms_nodes ts) (lower_all env purpose k ts)
  all_few env purpose k NoMore = none_few k
  all_few env purpose k (More t ts) = and_few k (lower env (ahead purpose (any_refers ts)) k t) _ (term_nodes t) (terms_nodes ts) (lower_few env (ahead purpose (any_refers ts)) k t) (λ n. all_few env purpose n ts)
