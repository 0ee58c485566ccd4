-- Forms over operands: their lowering and their valuing, each by the operands; expressions that take no steps; temporaries that grow.
use Rattle.std.specs.Prelude.{◌≡◌, ℕ, ◌≤◌, Bool, true, false, ◌&&◌, ◌||◌, List, [], ◌∷◌, ◌++◌}
use Rattle.std.proofs.Common.{refl, sym, ap, ◌∙◌, arith, true≢false}
use Rattle.fortran_laws.specs.f_tree.Values.{Bytes, Datum, Checked, Gives, Fails}
use Rattle.fortran_laws.specs.f_tree.Terms.{Operator, Add, Subtract, Multiply, Divide, IsLess, IsLessOrEqual, IsEqual, IsNotEqual, IsGreater, IsGreaterOrEqual, Both, Either, Same, Different, Function, Term, Val, Fetch, At, All, Element, Alone, Part, Joined, Before, Between, Intrinsically, Refer, Bind, Bound, Terms, NoMore, More, refers, any_refers}
use Rattle.fortran_laws.specs.f_tree.Facts.{Facts, Frame}
use Rattle.fortran_laws.specs.f_tree.Store.{Store}
use Rattle.fortran_laws.specs.f_tree.Valuing.{Red, Valued, Bad, Asks, then_by, at_once, prefixed, operated, Left, Decided, Wants, Wrong, left_of, right_after, applied, element, alone, part, pieces, joined, fetched, bound_to, whole, array_whole, reduce, reduce_all}
use Rattle.lowering.specs.l_core.Pures.{Pure, Temporary, Pures, NoPure}
use Rattle.lowering.specs.l_core.Steps.{Step}
use Rattle.lowering.specs.Expressions.{Purpose, ForUse, ForCall, ForReading, ForLater, Lowered, plain, and_then, no_operand, ahead, Shape, AsFetch, AsElement, AsAlone, AsPart, AsJoined, AsBefore, AsBetween, AsFunction, AsReference, is_library, for_place, for_function, for_fetch, operand_purpose, kept_steps, kept_free, function_steps, function_free, closing, closed_free, shaped, is_kept, shape_takes, takes_steps, any_takes, may_decide, guarded, lowered_between, in_order, lower, lower_all}
use Rattle.lowering_laws.proofs.WalkLemmas.{IsAtOnce}
use Rattle.lowering_laws.specs.Midway.{formed, finish, Fits, of_fetch, of_element, of_alone, of_part, of_joined, of_before, of_between, of_function, of_reference}

-- ## Booleans and lists

pub neither : (a b : Bool) → (a || b) ≡ false → (a ≡ false) × (b ≡ false)
neither true b h = absurd (true≢false h)
neither false b h = (refl, h)

pub and_false : (b : Bool) → (b && false) ≡ false
and_false true = refl
and_false false = refl

pub both_none : (xs ys : List Step) → xs ≡ [] → ys ≡ [] → xs ++ ys ≡ []
both_none xs ys e e' = ap (λ z. z ++ ys) e ∙ e'

-- ## Expressions that take no steps

kept_none : (purpose : Purpose) (o : Bool) (k : ℕ) (p : Pure) → (is_kept purpose || o) ≡ false → (kept_steps purpose k p ≡ []) × (o ≡ false)
unfolding is_kept kept_steps
kept_none ForUse o k p h = (refl, h)
kept_none ForCall o k p h = absurd (true≢false h)
kept_none ForReading o k p h = absurd (true≢false h)
kept_none ForLater o k p h = absurd (true≢false h)

function_none : (library : Bool) (function : Function) (purpose : Purpose) (o : Bool) (k : ℕ) (ps : Pures) (p : Pure) → (library || (is_kept purpose || o)) ≡ false → (function_steps library function purpose k ps ≡ []) × (o ≡ false)
unfolding function_steps
function_none true function purpose o k ps p h = absurd (true≢false h)
function_none false function purpose o k ps p h = kept_none purpose o k _ h

pub closing_none : (shape : Shape) (purpose : Purpose) (o : Bool) (k : ℕ) (ps : Pures) → shape_takes shape purpose o ≡ false → (closing shape purpose k ps ≡ []) × (o ≡ false)
unfolding shape_takes closing
closing_none AsFetch purpose o k ps h = kept_none (for_fetch purpose) o k _ h
closing_none (AsElement x) purpose o k ps h = (refl, h)
closing_none AsAlone purpose o k ps h = (refl, h)
closing_none (AsPart x) purpose o k ps h = (refl, h)
closing_none AsJoined purpose o k ps h = kept_none purpose o k _ h
closing_none (AsBefore op) purpose o k ps h = kept_none purpose o k _ h
closing_none (AsBetween op) purpose o k ps h = kept_none purpose o k _ h
closing_none (AsFunction function) purpose o k ps h = function_none (is_library function) function purpose o k ps (Temporary 0) h
closing_none (AsReference callee) purpose o k ps h = absurd (true≢false h)

shaped_none : (shape : Shape) (purpose : Purpose) (o : Bool) (k : ℕ) (l : Lowered Pures) → shape_takes shape purpose o ≡ false → (o ≡ false → l.steps ≡ []) → (shaped shape purpose k l).steps ≡ []
unfolding shaped
shaped_none shape purpose o k l h steps = let c = closing_none shape purpose o k l.value h in both_none l.steps (closing shape purpose k l.value) (steps c.1) c.0

one_none : (one : Lowered Pure) → one.steps ≡ [] → (and_then one no_operand).steps ≡ []
unfolding and_then no_operand plain
one_none one e = both_none one.steps [] e refl

then_none : (one : Lowered Pure) (more : ℕ → Lowered Pures) → one.steps ≡ [] → (more one.free).steps ≡ [] → (and_then one more).steps ≡ []
unfolding and_then
then_none one more e e' = both_none one.steps (more one.free).steps e e'

three_none : (one : Lowered Pure) (two three : ℕ → Lowered Pure) → one.steps ≡ [] → ((n : ℕ) → (two n).steps ≡ []) → ((n : ℕ) → (three n).steps ≡ []) →
    (and_then one (λ n. and_then (two n) (λ n'. and_then (three n') no_operand))).steps ≡ []
three_none one two three e e' e'' =
    then_none one (λ n. and_then (two n) (λ n'. and_then (three n') no_operand)) e
    (then_none (two one.free) (λ n'. and_then (three n') no_operand) (e' one.free) (one_none (three (two one.free).free) (e'' (two one.free).free)))

between_none : (d x y : Bool) (op : Operator) (purpose : Purpose) (k : ℕ) (left : Purpose → Lowered Pure) (right : ℕ → Lowered Pure) → x ≡ false → y ≡ false →
    (closing (AsBetween op) purpose k (and_then (left ForUse) (λ n. and_then (right n) no_operand)).value ≡ []) → (left ForUse).steps ≡ [] → ((n : ℕ) → (right n).steps ≡ []) →
    (lowered_between (d && x) y op purpose k left right).steps ≡ []
unfolding lowered_between shaped ahead
between_none d true y op purpose k left right e e' c l r = absurd (true≢false e)
between_none d false true op purpose k left right e e' c l r = absurd (true≢false e')
between_none true false false op purpose k left right e e' c l r =
    both_none (and_then (left ForUse) (λ n. and_then (right n) no_operand)).steps _ (then_none (left ForUse) (λ n. and_then (right n) no_operand) l (one_none (right (left ForUse).free) (r (left ForUse).free))) c
between_none false false false op purpose k left right e e' c l r =
    both_none (and_then (left ForUse) (λ n. and_then (right n) no_operand)).steps _ (then_none (left ForUse) (λ n. and_then (right n) no_operand) l (one_none (right (left ForUse).free) (r (left ForUse).free))) c

ahead_none : (purpose : Purpose) (b : Bool) → b ≡ false → ahead purpose b ≡ purpose
unfolding ahead
ahead_none purpose true e = absurd (true≢false e)
ahead_none purpose false e = refl

-- what takes no steps has no reference
takes_operands : (shape : Shape) (purpose : Purpose) (o : Bool) → shape_takes shape purpose o ≡ false → o ≡ false
takes_operands shape purpose o h = (closing_none shape purpose o 0 NoPure h).1

none_of_both : (a b : Bool) → a ≡ false → b ≡ false → (a || b) ≡ false
none_of_both a b e e' = ap (λ x. x || b) e ∙ e'

mutual
  unfolding takes_steps any_takes refers any_refers

  pub no_reference : (purpose : Purpose) (t : Term) → takes_steps purpose t ≡ false → refers t ≡ false
  no_reference purpose (Val d) h = refl
  no_reference purpose (Fetch t) h = no_reference ForUse t (takes_operands AsFetch purpose (takes_steps ForUse t) h)
  no_reference purpose (At x) h = refl
  no_reference purpose (All x) h = refl
  no_reference purpose (Element x ts) h = none_refer (for_place purpose) ts (takes_operands (AsElement x) purpose (any_takes (for_place purpose) ts) h)
  no_reference purpose (Alone t) h = no_reference (for_place purpose) t (takes_operands AsAlone purpose (takes_steps (for_place purpose) t) h)
  no_reference purpose (Part x t from to) h =
      let all = takes_operands (AsPart x) purpose ((takes_steps (for_place purpose) to || takes_steps (for_place purpose) from) || takes_steps (for_place purpose) t) h in
      let apart = neither (takes_steps (for_place purpose) to || takes_steps (for_place purpose) from) (takes_steps (for_place purpose) t) all in
      let more = neither (takes_steps (for_place purpose) to) (takes_steps (for_place purpose) from) apart.0 in
      none_of_both (refers t) (refers from || refers to) (no_reference (for_place purpose) t apart.1) (none_of_both (refers from) (refers to) (no_reference (for_place purpose) from more.1) (no_reference (for_place purpose) to more.0))
  no_reference purpose (Joined ts) h = none_refer ForUse ts (takes_operands AsJoined purpose (any_takes ForUse ts) h)
  no_reference purpose (Before op t) h = no_reference ForUse t (takes_operands (AsBefore op) purpose (takes_steps ForUse t) h)
  no_reference purpose (Between op t b) h =
      let apart = neither (takes_steps ForUse b) (takes_steps ForUse t) (takes_operands (AsBetween op) purpose (takes_steps ForUse b || takes_steps ForUse t) h) in
      none_of_both (refers t) (refers b) (no_reference ForUse t apart.1) (no_reference ForUse b apart.0)
  no_reference purpose (Intrinsically function ts) h =
      none_refer (for_function (is_library function)) ts (takes_operands (AsFunction function) purpose (any_takes (for_function (is_library function)) ts) h)
  no_reference purpose (Refer callee ts) h = absurd (true≢false h)
  no_reference purpose (Bind ts t) h = absurd (true≢false h)
  no_reference purpose (Bound i) h = refl

  pub none_refer : (purpose : Purpose) (ts : Terms) → any_takes purpose ts ≡ false → any_refers ts ≡ false
  none_refer purpose NoMore h = refl
  none_refer purpose (More t ts) h =
      let apart = neither (any_takes purpose ts) (takes_steps purpose t) h in
      none_of_both (refers t) (any_refers ts) (no_reference purpose t apart.1) (none_refer purpose ts apart.0)

-- valuing what has no reference comes to no call
once_then : {A B S T : Type 0} (x : Red A S) (back : S → T) (go : A → Red B T) → IsAtOnce x → ((a : A) → IsAtOnce (go a)) → IsAtOnce (then_by x back go)
unfolding IsAtOnce then_by
once_then (Valued a) back go one more = more a
once_then (Bad act) back go one more = tt
once_then (Asks callee ds rest) back go one more = absurd one

once_checked : {A : Type 0} (T : Type 0) (x : Checked A) → IsAtOnce {T = T} (at_once x)
unfolding IsAtOnce at_once
once_checked T (Gives a) = tt
once_checked T (Fails act) = tt

once_right : {T : Type 0} (l : Left) (x : Red Datum T) → IsAtOnce x → IsAtOnce (right_after l x)
unfolding IsAtOnce right_after
once_right (Decided d) x one = tt
once_right Wants x one = one
once_right Wrong x one = tt

once_valued : {A : Type 0} (T : Type 0) (a : A) → IsAtOnce {T = T} (Valued a)
unfolding IsAtOnce
once_valued T a = tt

mutual
  unfolding reduce reduce_all refers any_refers

  pub calls_nothing : (c : Facts) (f : Frame) (s : Store) (es : List Datum) (t : Term) → refers t ≡ false → IsAtOnce (reduce c f s es t)
  calls_nothing c f s es (Val d) h = once_valued Term d
  calls_nothing c f s es (Fetch t) h = once_then (reduce c f s es t) Fetch _ (calls_nothing c f s es t h) (λ d. once_checked Term (fetched s d))
  calls_nothing c f s es (At x) h = once_checked Term (whole c f x)
  calls_nothing c f s es (All x) h = once_checked Term (array_whole c f x)
  calls_nothing c f s es (Element x ts) h = once_then (reduce_all c f s es ts) (Element x) _ (none_call c f s es ts h) (λ ds. once_checked Term (element c f x ds))
  calls_nothing c f s es (Alone t) h = once_then (reduce c f s es t) Alone _ (calls_nothing c f s es t h) (λ d. once_checked Term (alone d))
  calls_nothing c f s es (Part x t from to) h =
      let apart = neither (refers t) (refers from || refers to) h in
      let more = neither (refers from) (refers to) apart.1 in
      once_then (reduce c f s es t) _ _ (calls_nothing c f s es t apart.0)
      (λ p. once_then (reduce c f s es from) _ _ (calls_nothing c f s es from more.0)
      (λ a. once_then (reduce c f s es to) _ _ (calls_nothing c f s es to more.1) (λ b. once_checked Term (part x p a b))))
  calls_nothing c f s es (Joined ts) h = once_then (reduce_all c f s es ts) Joined _ (none_call c f s es ts h) (λ ds. once_checked Term (joined (pieces s ds)))
  calls_nothing c f s es (Before op t) h = once_then (reduce c f s es t) (Before op) _ (calls_nothing c f s es t h) (λ d. once_checked Term (prefixed op d))
  calls_nothing c f s es (Between op t b) h =
      let apart = neither (refers t) (refers b) h in
      once_then (reduce c f s es t) _ _ (calls_nothing c f s es t apart.0)
      (λ a. once_right (left_of op a) _ (once_then (reduce c f s es b) (Between op (Val a)) _ (calls_nothing c f s es b apart.1) (λ d. once_checked Term (operated op a d))))
  calls_nothing c f s es (Intrinsically function ts) h = once_then (reduce_all c f s es ts) (Intrinsically function) _ (none_call c f s es ts h) (λ ds. once_checked Term (applied function ds))
  calls_nothing c f s es (Refer callee ts) h = absurd (true≢false h)
  calls_nothing c f s es (Bind ts t) h = absurd (true≢false h)
  calls_nothing c f s es (Bound i) h = once_checked Term (bound_to es i)

  pub none_call : (c : Facts) (f : Frame) (s : Store) (es : List Datum) (ts : Terms) → any_refers ts ≡ false → IsAtOnce (reduce_all c f s es ts)
  none_call c f s es NoMore h = once_valued Terms []
  none_call c f s es (More t ts) h =
      let apart = neither (refers t) (any_refers ts) h in
      once_then (reduce c f s es t) _ _ (calls_nothing c f s es t apart.0) (λ d. once_then (reduce_all c f s es ts) (More (Val d)) _ (none_call c f s es ts apart.1) (λ ds. once_valued Terms (d ∷ ds)))

mutual
  unfolding lower lower_all takes_steps any_takes plain no_operand in_order

  pub no_steps : (env : Pures) (purpose : Purpose) (k : ℕ) (t : Term) → takes_steps purpose t ≡ false → (lower env purpose k t).steps ≡ []
  no_steps env purpose k (Val d) h = refl
  no_steps env purpose k (Fetch t) h = shaped_none AsFetch purpose (takes_steps ForUse t) k _ h (λ e. one_none (lower env ForUse k t) (no_steps env ForUse k t e))
  no_steps env purpose k (At x) h = refl
  no_steps env purpose k (All x) h = refl
  no_steps env purpose k (Element x ts) h = shaped_none (AsElement x) purpose (any_takes (for_place purpose) ts) k _ h (λ e. none_take env (for_place purpose) k ts e)
  no_steps env purpose k (Alone t) h = shaped_none AsAlone purpose (takes_steps (for_place purpose) t) k _ h (λ e. one_none (lower env (for_place purpose) k t) (no_steps env (for_place purpose) k t e))
  no_steps env purpose k (Part x t from to) h =
      shaped_none (AsPart x) purpose ((takes_steps (for_place purpose) to || takes_steps (for_place purpose) from) || takes_steps (for_place purpose) t) k _ h (λ e.
      let apart = neither (takes_steps (for_place purpose) to || takes_steps (for_place purpose) from) (takes_steps (for_place purpose) t) e in
      let more = neither (takes_steps (for_place purpose) to) (takes_steps (for_place purpose) from) apart.0 in
      let none = none_of_both (refers to) false (no_reference (for_place purpose) to more.0) refl in
      let none' = none_of_both (refers from) (refers to || false) (no_reference (for_place purpose) from more.1) none in
      three_none (lower env (ahead (for_place purpose) (refers from || (refers to || false))) k t)
      (λ n. lower env (ahead (for_place purpose) (refers to || false)) n from) (λ n. lower env (for_place purpose) n to)
      (ap (λ p. (lower env p k t).steps) (ahead_none (for_place purpose) (refers from || (refers to || false)) none') ∙ no_steps env (for_place purpose) k t apart.1)
      (λ n. ap (λ p. (lower env p n from).steps) (ahead_none (for_place purpose) (refers to || false) none) ∙ no_steps env (for_place purpose) n from more.1)
      (λ n. no_steps env (for_place purpose) n to more.0))
  no_steps env purpose k (Joined ts) h = shaped_none AsJoined purpose (any_takes ForUse ts) k _ h (λ e. none_take env ForUse k ts e)
  no_steps env purpose k (Before op t) h = shaped_none (AsBefore op) purpose (takes_steps ForUse t) k _ h (λ e. one_none (lower env ForUse k t) (no_steps env ForUse k t e))
  no_steps env purpose k (Between op t b) h =
      let c = closing_none (AsBetween op) purpose (takes_steps ForUse b || takes_steps ForUse t) k (and_then (lower env ForUse k t) (λ n. and_then (lower env ForUse n b) no_operand)).value h in
      let apart = neither (takes_steps ForUse b) (takes_steps ForUse t) c.1 in
      between_none (may_decide op) (takes_steps ForUse b) (refers b || false) op purpose k (λ p. lower env p k t) (λ n. lower env ForUse n b) apart.0 (none_of_both (refers b) false (no_reference ForUse b apart.0) refl) c.0 (no_steps env ForUse k t apart.1) (λ n. no_steps env ForUse n b apart.0)
  no_steps env purpose k (Intrinsically function ts) h =
      shaped_none (AsFunction function) purpose (any_takes (for_function (is_library function)) ts) k _ h (λ e. none_take env (for_function (is_library function)) k ts e)
  no_steps env purpose k (Refer callee ts) h = absurd (true≢false h)
  no_steps env purpose k (Bind ts t) h = absurd (true≢false h)
  no_steps env purpose k (Bound i) h = refl

  pub none_take : (env : Pures) (purpose : Purpose) (k : ℕ) (ts : Terms) → any_takes purpose ts ≡ false → (lower_all env purpose k ts).steps ≡ []
  none_take env purpose k NoMore h = refl
  none_take env purpose k (More t ts) h =
      let apart = neither (any_takes purpose ts) (takes_steps purpose t) h in
      then_none (lower env (ahead purpose (any_refers ts)) k t) _
      (ap (λ p. (lower env p k t).steps) (ahead_none purpose (any_refers ts) (none_refer purpose ts apart.0)) ∙ no_steps env purpose k t apart.1)
      (none_take env purpose _ ts apart.0)

-- ## Temporaries are a stack

kept_grows : (purpose : Purpose) (k n : ℕ) → k ≤ n → k ≤ kept_free purpose k n
unfolding kept_free
kept_grows ForUse k n le = le
kept_grows ForCall k n le = omega arith
kept_grows ForReading k n le = omega arith
kept_grows ForLater k n le = omega arith

function_grows : (library : Bool) (purpose : Purpose) (k n : ℕ) → k ≤ n → k ≤ function_free library purpose k n
unfolding function_free
function_grows true purpose k n le = omega arith
function_grows false purpose k n le = kept_grows purpose k n le

pub closed_grows : (shape : Shape) (purpose : Purpose) (k n : ℕ) → k ≤ n → k ≤ closed_free shape purpose k n
unfolding closed_free
closed_grows AsFetch purpose k n le = kept_grows (for_fetch purpose) k n le
closed_grows (AsElement x) purpose k n le = le
closed_grows AsAlone purpose k n le = le
closed_grows (AsPart x) purpose k n le = le
closed_grows AsJoined purpose k n le = kept_grows purpose k n le
closed_grows (AsBefore op) purpose k n le = kept_grows purpose k n le
closed_grows (AsBetween op) purpose k n le = kept_grows purpose k n le
closed_grows (AsFunction function) purpose k n le = function_grows (is_library function) purpose k n le
closed_grows (AsReference callee) purpose k n le = omega arith

shaped_grows : (shape : Shape) (purpose : Purpose) (k : ℕ) (l : Lowered Pures) → k ≤ l.free → k ≤ (shaped shape purpose k l).free
unfolding shaped
shaped_grows shape purpose k l le = closed_grows shape purpose k l.free le

one_grows : (k : ℕ) (one : Lowered Pure) → k ≤ one.free → k ≤ (and_then one no_operand).free
unfolding and_then no_operand plain
one_grows k one le = le

then_grows : (k : ℕ) (one : Lowered Pure) (more : ℕ → Lowered Pures) → k ≤ one.free → ((n : ℕ) → n ≤ (more n).free) → k ≤ (and_then one more).free
unfolding and_then
then_grows k one more le later = let l : one.free ≤ (more one.free).free = later one.free in omega (arith, le, l)

between_grows : (d x : Bool) (op : Operator) (purpose : Purpose) (k : ℕ) (left : Purpose → Lowered Pure) (right : ℕ → Lowered Pure) → ((p : Purpose) → k ≤ (left p).free) → ((n : ℕ) → n ≤ (right n).free) →
    k ≤ (lowered_between d x op purpose k left right).free
unfolding lowered_between guarded
between_grows true x op purpose k left right l r = omega arith
between_grows false x op purpose k left right l r =
    shaped_grows (AsBetween op) purpose k _ (then_grows k (left (ahead ForUse x)) (λ n. and_then (right n) no_operand) (l (ahead ForUse x)) (λ n. one_grows n (right n) (r n)))

mutual
  unfolding lower lower_all plain no_operand in_order

  pub free_grows : (env : Pures) (purpose : Purpose) (k : ℕ) (t : Term) → k ≤ (lower env purpose k t).free
  free_grows env purpose k (Val d) = omega arith
  free_grows env purpose k (Fetch t) = shaped_grows AsFetch purpose k _ (one_grows k (lower env ForUse k t) (free_grows env ForUse k t))
  free_grows env purpose k (At x) = omega arith
  free_grows env purpose k (All x) = omega arith
  free_grows env purpose k (Element x ts) = shaped_grows (AsElement x) purpose k _ (all_grow env (for_place purpose) k ts)
  free_grows env purpose k (Alone t) = shaped_grows AsAlone purpose k _ (one_grows k (lower env (for_place purpose) k t) (free_grows env (for_place purpose) k t))
  free_grows env purpose k (Part x t from to) =
      shaped_grows (AsPart x) purpose k _
      (then_grows k (lower env (ahead (for_place purpose) (refers from || (refers to || false))) k t) _
      (free_grows env (ahead (for_place purpose) (refers from || (refers to || false))) k t)
      (λ n. then_grows n (lower env (ahead (for_place purpose) (refers to || false)) n from) _
      (free_grows env (ahead (for_place purpose) (refers to || false)) n from)
      (λ n'. one_grows n' (lower env (for_place purpose) n' to) (free_grows env (for_place purpose) n' to))))
  free_grows env purpose k (Joined ts) = shaped_grows AsJoined purpose k _ (all_grow env ForUse k ts)
  free_grows env purpose k (Before op t) = shaped_grows (AsBefore op) purpose k _ (one_grows k (lower env ForUse k t) (free_grows env ForUse k t))
  free_grows env purpose k (Between op t b) =
      between_grows (may_decide op && takes_steps ForUse b) (refers b || false) op purpose k (λ p. lower env p k t) (λ n. lower env ForUse n b) (λ p. free_grows env p k t) (λ n. free_grows env ForUse n b)
  free_grows env purpose k (Intrinsically function ts) = shaped_grows (AsFunction function) purpose k _ (all_grow env (for_function (is_library function)) k ts)
  free_grows env purpose k (Refer callee ts) = shaped_grows (AsReference callee) purpose k _ (all_grow env ForCall k ts)
  free_grows env purpose k (Bind ts t) =
      let first : k ≤ (lower_all env ForLater k ts).free = all_grow env ForLater k ts in
      let later : (lower_all env ForLater k ts).free ≤ (lower (lower_all env ForLater k ts).value purpose (lower_all env ForLater k ts).free t).free = free_grows (lower_all env ForLater k ts).value purpose (lower_all env ForLater k ts).free t in
      omega (arith, first, later)
  free_grows env purpose k (Bound i) = omega arith

  pub all_grow : (env : Pures) (purpose : Purpose) (k : ℕ) (ts : Terms) → k ≤ (lower_all env purpose k ts).free
  all_grow env purpose k NoMore = omega arith
  all_grow env purpose k (More t ts) =
      then_grows k (lower env (ahead purpose (any_refers ts)) k t) (λ n. lower_all env purpose n ts) (free_grows env (ahead purpose (any_refers ts)) k t) (λ n. all_grow env purpose n ts)

-- ## A form by its operands

pub lower_formed : (env : Pures) (purpose : Purpose) (k : ℕ) (shape : Shape) (ts : Terms) → Fits shape ts →
    lower env purpose k (formed shape ts) ≡ shaped shape purpose k (lower_all env (operand_purpose shape purpose) k ts)
unfolding lower lower_all operand_purpose any_refers ahead lowered_between
lower_formed env purpose k AsFetch _ of_fetch = refl
lower_formed env purpose k (AsElement x) _ of_element = refl
lower_formed env purpose k AsAlone _ of_alone = refl
lower_formed env purpose k (AsPart x) _ of_part = refl
lower_formed env purpose k AsJoined _ of_joined = refl
lower_formed env purpose k (AsBefore op) _ of_before = refl
lower_formed env purpose k (AsBetween op) _ (of_between {t = t} {u = b} values_both) =
    ap (λ d. lowered_between (d && takes_steps ForUse b) (refers b || false) op purpose k (λ p. lower env p k t) (λ n. lower env ForUse n b)) values_both
lower_formed env purpose k (AsFunction function) _ of_function = refl
lower_formed env purpose k (AsReference callee) _ of_reference = refl

one_by_one : (back : Term → Term) (back' : Terms → Term) → ((r : Term) → back' (More r NoMore) ≡ back r) → (go : Datum → Red Datum Term) (go' : List Datum → Red Datum Term) → ((d : Datum) → go' (d ∷ []) ≡ go d) →
    (x : Red Datum Term) → then_by x back go ≡ then_by (then_by x (λ r. More r NoMore) (λ d. then_by (Valued []) (More (Val d)) (λ ds. Valued (d ∷ ds)))) back' go'
unfolding then_by
one_by_one back back' same go go' same' (Valued a) = sym (same' a)
one_by_one back back' same go go' same' (Bad act) = refl
one_by_one back back' same go go' same' (Asks callee ds rest) = λ i. Asks callee ds (λ d. sym (same (rest d)) i)

pub wants : (op : Operator) (a : Datum) → may_decide op ≡ false → left_of op a ≡ Wants
unfolding may_decide left_of
wants Add a e = refl
wants Subtract a e = refl
wants Multiply a e = refl
wants Divide a e = refl
wants IsLess a e = refl
wants IsLessOrEqual a e = refl
wants IsEqual a e = refl
wants IsNotEqual a e = refl
wants IsGreater a e = refl
wants IsGreaterOrEqual a e = refl
wants Both a e = absurd (true≢false e)
wants Either a e = absurd (true≢false e)
wants Same a e = refl
wants Different a e = refl

right_wanted : (op : Operator) (a : Datum) (b : Term) → may_decide op ≡ false → (go : List Datum → Red Datum Term) → ((d : Datum) → go (a ∷ d ∷ []) ≡ at_once (operated op a d)) → (y : Red Datum Term) →
    right_after Wants (then_by y (Between op (Val a)) (λ d. at_once (operated op a d)))
    ≡ then_by (then_by (then_by y (λ r. More r NoMore) (λ d. then_by (Valued []) (More (Val d)) (λ ds. Valued (d ∷ ds)))) (More (Val a)) (λ ds. Valued (a ∷ ds))) (formed (AsBetween op)) go
unfolding then_by right_after
right_wanted op a b e go same (Valued d) = sym (same d)
right_wanted op a b e go same (Bad act) = refl
right_wanted op a b e go same (Asks callee ds rest) = refl

two_by_two : (op : Operator) (b : Term) → may_decide op ≡ false → (go : List Datum → Red Datum Term) → ((a d : Datum) → go (a ∷ d ∷ []) ≡ at_once (operated op a d)) → (x y : Red Datum Term) →
    then_by x (λ r. Between op r b) (λ a. right_after (left_of op a) (then_by y (Between op (Val a)) (λ d. at_once (operated op a d))))
    ≡ then_by (then_by x (λ r. More r (More b NoMore)) (λ a. then_by (then_by y (λ r. More r NoMore) (λ d. then_by (Valued []) (More (Val d)) (λ ds. Valued (d ∷ ds)))) (More (Val a)) (λ ds. Valued (a ∷ ds)))) (formed (AsBetween op)) go
unfolding then_by
two_by_two op b e go same (Valued a) y =
    ap (λ l. right_after l (then_by y (Between op (Val a)) (λ d. at_once (operated op a d)))) (wants op a e) ∙ right_wanted op a b e go (same a) y
two_by_two op b e go same (Bad act) y = refl
two_by_two op b e go same (Asks callee ds rest) y = refl

last_of_three : (x : Bytes) (p a : Datum) (go : List Datum → Red Datum Term) → ((b : Datum) → go (p ∷ a ∷ b ∷ []) ≡ at_once (part x p a b)) → (z : Red Datum Term) →
    then_by z (Part x (Val p) (Val a)) (λ b. at_once (part x p a b))
    ≡ then_by (then_by (then_by (then_by z (λ r. More r NoMore) (λ d. then_by (Valued []) (More (Val d)) (λ ds. Valued (d ∷ ds)))) (More (Val a)) (λ ds. Valued (a ∷ ds))) (More (Val p)) (λ ds. Valued (p ∷ ds))) (formed (AsPart x)) go
unfolding then_by
last_of_three x p a go same (Valued b) = sym (same b)
last_of_three x p a go same (Bad act) = refl
last_of_three x p a go same (Asks callee ds rest) = refl

later_of_three : (x : Bytes) (p : Datum) (to : Term) (go : List Datum → Red Datum Term) → ((a b : Datum) → go (p ∷ a ∷ b ∷ []) ≡ at_once (part x p a b)) → (y z : Red Datum Term) →
    then_by y (λ r. Part x (Val p) r to) (λ a. then_by z (Part x (Val p) (Val a)) (λ b. at_once (part x p a b)))
    ≡ then_by (then_by (then_by y (λ r. More r (More to NoMore)) (λ a. then_by (then_by z (λ r. More r NoMore) (λ d. then_by (Valued []) (More (Val d)) (λ ds. Valued (d ∷ ds)))) (More (Val a)) (λ ds. Valued (a ∷ ds)))) (More (Val p)) (λ ds. Valued (p ∷ ds))) (formed (AsPart x)) go
unfolding then_by
later_of_three x p to go same (Valued a) z = last_of_three x p a go (same a) z
later_of_three x p to go same (Bad act) z = refl
later_of_three x p to go same (Asks callee ds rest) z = refl

three_by_three : (x : Bytes) (from to : Term) (go : List Datum → Red Datum Term) → ((p a b : Datum) → go (p ∷ a ∷ b ∷ []) ≡ at_once (part x p a b)) → (v y z : Red Datum Term) →
    then_by v (λ r. Part x r from to) (λ p. then_by y (λ r. Part x (Val p) r to) (λ a. then_by z (Part x (Val p) (Val a)) (λ b. at_once (part x p a b))))
    ≡ then_by (then_by v (λ r. More r (More from (More to NoMore))) (λ p. then_by (then_by y (λ r. More r (More to NoMore)) (λ a. then_by (then_by z (λ r. More r NoMore) (λ d. then_by (Valued []) (More (Val d)) (λ ds. Valued (d ∷ ds)))) (More (Val a)) (λ ds. Valued (a ∷ ds)))) (More (Val p)) (λ ds. Valued (p ∷ ds)))) (formed (AsPart x)) go
unfolding then_by
three_by_three x from to go same (Valued p) y z = later_of_three x p to go (same p) y z
three_by_three x from to go same (Bad act) y z = refl
three_by_three x from to go same (Asks callee ds rest) y z = refl

pub reduce_formed : (c : Facts) (f : Frame) (s : Store) (es : List Datum) (shape : Shape) (ts : Terms) → Fits shape ts →
    reduce c f s es (formed shape ts) ≡ then_by (reduce_all c f s es ts) (formed shape) (finish c f s shape)
unfolding reduce reduce_all
reduce_formed c f s es AsFetch _ (of_fetch {t = t}) = one_by_one Fetch (formed AsFetch) (λ r. refl) (λ d. at_once (fetched s d)) (finish c f s AsFetch) (λ d. refl) (reduce c f s es t)
reduce_formed c f s es (AsElement x) _ of_element = refl
reduce_formed c f s es AsAlone _ (of_alone {t = t}) = one_by_one Alone (formed AsAlone) (λ r. refl) (λ d. at_once (alone d)) (finish c f s AsAlone) (λ d. refl) (reduce c f s es t)
reduce_formed c f s es (AsPart x) _ (of_part {t = t} {from = from} {to = to}) =
    three_by_three x from to (finish c f s (AsPart x)) (λ p a b. refl) (reduce c f s es t) (reduce c f s es from) (reduce c f s es to)
reduce_formed c f s es AsJoined _ of_joined = refl
reduce_formed c f s es (AsBefore op) _ (of_before {t = t}) = one_by_one (Before op) (formed (AsBefore op)) (λ r. refl) (λ d. at_once (prefixed op d)) (finish c f s (AsBefore op)) (λ d. refl) (reduce c f s es t)
reduce_formed c f s es (AsBetween op) _ (of_between {t = t} {u = b} values_both) =
    two_by_two op b values_both (finish c f s (AsBetween op)) (λ a d. refl) (reduce c f s es t) (reduce c f s es b)
reduce_formed c f s es (AsFunction function) _ of_function = refl
reduce_formed c f s es (AsReference callee) _ of_reference = refl
