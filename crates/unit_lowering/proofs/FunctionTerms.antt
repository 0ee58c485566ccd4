-- Terms in which functions alone are referred to: no step of such a term keeps by which alternate return a subroutine comes back.
use Rattle.std.proofs.Common.{◌≡◌, ℕ, suc, Bool, true, false, ◌&&◌, ◌||◌, List, [], ◌∷◌, ◌++◌, length, refl}
use Rattle.f_tree.specs.Terms.{Operator, Function, Term, Val, Fetch, At, All, Element, Alone, Part, Joined, Before, Between, Intrinsically, Refer, Bind, Bound, Terms, NoMore, More, refers, any_refers}
use Rattle.lowered_tree.specs.l_core.Pures.{Pure, Applied, Pures, NoPure}
use Rattle.lowered_tree.specs.l_core.Steps.{Step, Keep, Unless}
use Rattle.lowering.specs.Expressions.{Purpose, ForUse, ForCall, ForReading, ForLater, Lowered, plain, and_then, no_operand, ahead, Shape, AsFetch, AsElement, AsAlone, AsPart, AsJoined, AsBefore, AsBetween, AsFunction, AsReference, is_library, for_place, for_function, for_fetch, pure_of, kept_steps, function_steps, closing, shaped, takes_steps, may_decide, wanted_where, guarded, lowered_between, in_order, lower, lower_all}
use Rattle.lowering.specs.Statements.{wants_no_value, loop_operands}
use Rattle.lowering.specs.Units.{keeps_return}

-- TERMS
unfoldable mutual
  pub RefersToFunctions : Term → Type 0
  RefersToFunctions (Val d) = Unit {0}
  RefersToFunctions (Fetch t) = RefersToFunctions t
  RefersToFunctions (At x) = Unit {0}
  RefersToFunctions (All x) = Unit {0}
  RefersToFunctions (Element x ts) = ReferToFunctions ts
  RefersToFunctions (Alone t) = RefersToFunctions t
  RefersToFunctions (Part x t from to) = RefersToFunctions t × RefersToFunctions from × RefersToFunctions to
  RefersToFunctions (Joined ts) = ReferToFunctions ts
  RefersToFunctions (Before op t) = RefersToFunctions t
  RefersToFunctions (Between op t u) = RefersToFunctions t × RefersToFunctions u
  RefersToFunctions (Intrinsically function ts) = ReferToFunctions ts
  RefersToFunctions (Refer callee ts) = (wants_no_value callee.want ≡ false) × ReferToFunctions ts
  RefersToFunctions (Bind ts t) = ReferToFunctions ts × RefersToFunctions t
  RefersToFunctions (Bound i) = Unit {0}

  pub ReferToFunctions : Terms → Type 0
  ReferToFunctions NoMore = Unit {0}
  ReferToFunctions (More t ts) = RefersToFunctions t × ReferToFunctions ts

-- STEPS
abbrev pub KeepNone : List Step → Type 0
KeepNone [] = Unit {0}
KeepNone (st ∷ steps) = (keeps_return st ≡ false) × KeepNone steps

pub none_both : (xs ys : List Step) → KeepNone xs → KeepNone ys → KeepNone (xs ++ ys)
none_both [] ys first later = later
none_both (x ∷ xs) ys first later = (first.0, none_both xs ys first.1 later)

kept_none : (purpose : Purpose) (k : ℕ) (p : Pure) → KeepNone (kept_steps purpose k p)
unfolding kept_steps keeps_return
kept_none ForUse k p = tt
kept_none ForCall k p = (refl, tt)
kept_none ForReading k p = (refl, tt)
kept_none ForLater k p = (refl, tt)

function_none : (library : Bool) (function : Function) (purpose : Purpose) (k : ℕ) (ps : Pures) → KeepNone (function_steps library function purpose k ps)
unfolding function_steps keeps_return
function_none true function purpose k ps = (refl, tt)
function_none false function purpose k ps = kept_none purpose k (Applied function ps)

-- a form that is no reference of a subroutine
abbrev WantsValue : Shape → Type 0
WantsValue (AsReference callee) = wants_no_value callee.want ≡ false
WantsValue shape = Unit {0}

closing_none : (shape : Shape) (purpose : Purpose) (k : ℕ) (ps : Pures) → WantsValue shape → KeepNone (closing shape purpose k ps)
unfolding closing keeps_return
closing_none AsFetch purpose k ps wants = kept_none (for_fetch purpose) k (pure_of AsFetch ps)
closing_none (AsElement x) purpose k ps wants = tt
closing_none AsAlone purpose k ps wants = tt
closing_none (AsPart x) purpose k ps wants = tt
closing_none (AsFunction function) purpose k ps wants = function_none (is_library function) function purpose k ps
closing_none (AsReference callee) purpose k ps wants = (wants, tt)
closing_none AsJoined purpose k ps wants = kept_none purpose k (pure_of AsJoined ps)
closing_none (AsBefore op) purpose k ps wants = kept_none purpose k (pure_of (AsBefore op) ps)
closing_none (AsBetween op) purpose k ps wants = kept_none purpose k (pure_of (AsBetween op) ps)

shaped_none : (shape : Shape) (purpose : Purpose) (k : ℕ) (l : Lowered Pures) → WantsValue shape → KeepNone l.steps → KeepNone (shaped shape purpose k l).steps
unfolding shaped
shaped_none shape purpose k l wants none = none_both l.steps (closing shape purpose k l.value) none (closing_none shape purpose k l.value wants)

pub then_none : (one : Lowered Pure) (more : ℕ → Lowered Pures) → KeepNone one.steps → ((n : ℕ) → KeepNone (more n).steps) → KeepNone (and_then one more).steps
unfolding and_then
then_none one more first later = none_both one.steps (more one.free).steps first (later one.free)

no_operand_none : (k : ℕ) → KeepNone (no_operand k).steps
unfolding no_operand plain
no_operand_none k = tt

guarded_none : (op : Operator) (k : ℕ) (left right : Lowered Pure) → KeepNone left.steps → KeepNone right.steps → KeepNone (guarded op k left right).steps
unfolding guarded keeps_return
guarded_none op k left right first later =
    none_both left.steps (Keep k left.value ∷ Unless (wanted_where op k) (suc (length right.steps)) ∷ (right.steps ++ Keep k right.value ∷ [])) first
    (refl, (refl, none_both right.steps (Keep k right.value ∷ []) later (refl, tt)))

between_none : (guards refers' : Bool) (op : Operator) (purpose : Purpose) (k : ℕ) (left : Purpose → Lowered Pure) (right : ℕ → Lowered Pure) → ((p : Purpose) → KeepNone (left p).steps) → ((n : ℕ) → KeepNone (right n).steps) →
    KeepNone (lowered_between guards refers' op purpose k left right).steps
unfolding lowered_between
between_none true refers' op purpose k left right first later = guarded_none op k (left ForUse) (right k) (first ForUse) (later k)
between_none false refers' op purpose k left right first later =
    shaped_none (AsBetween op) purpose k (and_then (left (ahead ForUse refers')) (λ n. and_then (right n) no_operand)) tt
    (then_none (left (ahead ForUse refers')) (λ n. and_then (right n) no_operand) (first (ahead ForUse refers')) (λ n. then_none (right n) no_operand (later n) no_operand_none))

ordered_none : (first : Lowered Pures) (then' : Pures → ℕ → Lowered Pure) → KeepNone first.steps → ((ps : Pures) (n : ℕ) → KeepNone (then' ps n).steps) → KeepNone (in_order first then').steps
unfolding in_order
ordered_none first then' one later = none_both first.steps (then' first.value first.free).steps one (later first.value first.free)

mutual
  unfolding lower lower_all plain RefersToFunctions ReferToFunctions

  pub lower_none : (env : Pures) (purpose : Purpose) (k : ℕ) (t : Term) → RefersToFunctions t → KeepNone (lower env purpose k t).steps
  lower_none env purpose k (Val d) only = tt
  lower_none env purpose k (Fetch t) only = shaped_none AsFetch purpose k (and_then (lower env ForUse k t) no_operand) tt (then_none (lower env ForUse k t) no_operand (lower_none env ForUse k t only) no_operand_none)
  lower_none env purpose k (At x) only = tt
  lower_none env purpose k (All x) only = tt
  lower_none env purpose k (Element x ts) only = shaped_none (AsElement x) purpose k (lower_all env (for_place purpose) k ts) tt (all_none env (for_place purpose) k ts only)
  lower_none env purpose k (Alone t) only =
      shaped_none AsAlone purpose k (and_then (lower env (for_place purpose) k t) no_operand) tt (then_none (lower env (for_place purpose) k t) no_operand (lower_none env (for_place purpose) k t only) no_operand_none)
  lower_none env purpose k (Part x t from to) only =
      shaped_none (AsPart x) purpose k
      (and_then (lower env (ahead (for_place purpose) (refers from || (refers to || false))) k t)
      (λ n. and_then (lower env (ahead (for_place purpose) (refers to || false)) n from)
      (λ n'. and_then (lower env (for_place purpose) n' to) no_operand)))
      tt
      (then_none (lower env (ahead (for_place purpose) (refers from || (refers to || false))) k t) (λ n. and_then (lower env (ahead (for_place purpose) (refers to || false)) n from) (λ n'. and_then (lower env (for_place purpose) n' to) no_operand))
      (lower_none env (ahead (for_place purpose) (refers from || (refers to || false))) k t only.0)
      (λ n. then_none (lower env (ahead (for_place purpose) (refers to || false)) n from) (λ n'. and_then (lower env (for_place purpose) n' to) no_operand)
      (lower_none env (ahead (for_place purpose) (refers to || false)) n from only.1)
      (λ n'. then_none (lower env (for_place purpose) n' to) no_operand (lower_none env (for_place purpose) n' to only.2) no_operand_none)))
  lower_none env purpose k (Joined ts) only = shaped_none AsJoined purpose k (lower_all env ForUse k ts) tt (all_none env ForUse k ts only)
  lower_none env purpose k (Before op t) only = shaped_none (AsBefore op) purpose k (and_then (lower env ForUse k t) no_operand) tt (then_none (lower env ForUse k t) no_operand (lower_none env ForUse k t only) no_operand_none)
  lower_none env purpose k (Between op t u) only =
      between_none (may_decide op && takes_steps ForUse u) (refers u || false) op purpose k (λ p. lower env p k t) (λ n. lower env ForUse n u) (λ p. lower_none env p k t only.0) (λ n. lower_none env ForUse n u only.1)
  lower_none env purpose k (Intrinsically function ts) only =
      shaped_none (AsFunction function) purpose k (lower_all env (for_function (is_library function)) k ts) tt (all_none env (for_function (is_library function)) k ts only)
  lower_none env purpose k (Refer callee ts) only = shaped_none (AsReference callee) purpose k (lower_all env ForCall k ts) only.0 (all_none env ForCall k ts only.1)
  lower_none env purpose k (Bind ts t) only = ordered_none (lower_all env ForLater k ts) (λ ps n. lower ps purpose n t) (all_none env ForLater k ts only.0) (λ ps n. lower_none ps purpose n t only.1)
  lower_none env purpose k (Bound i) only = tt

  pub all_none : (env : Pures) (purpose : Purpose) (k : ℕ) (ts : Terms) → ReferToFunctions ts → KeepNone (lower_all env purpose k ts).steps
  all_none env purpose k NoMore only = no_operand_none k
  all_none env purpose k (More t ts) only =
      then_none (lower env (ahead purpose (any_refers ts)) k t) (λ n. lower_all env purpose n ts) (lower_none env (ahead purpose (any_refers ts)) k t only.0) (λ n. all_none env purpose n ts only.1)

pub loop_none : (k : ℕ) (ts : Terms) → ReferToFunctions ts → KeepNone (loop_operands k ts).steps
unfolding loop_operands ReferToFunctions
loop_none k NoMore only = tt
loop_none k (More x NoMore) only = tt
loop_none k (More x (More first bounds)) only =
    then_none (lower NoPure ForLater k x) (λ n. and_then (lower NoPure (ahead ForUse (any_refers bounds)) n first) (λ n'. lower_all NoPure ForLater n' bounds)) (lower_none NoPure ForLater k x only.0)
    (λ n. then_none (lower NoPure (ahead ForUse (any_refers bounds)) n first) (λ n'. lower_all NoPure ForLater n' bounds) (lower_none NoPure (ahead ForUse (any_refers bounds)) n first only.1.0) (λ n'. all_none NoPure ForLater n' bounds only.1.1))
