-- The steps of an expression and its value behind them. Operands go from left to right; one is kept in a temporary where a later one has a
-- reference to a function, and the right operand of .AND. and .OR. that takes steps is passed where the left one decides.
-- ANSI X3.9-1978, sections 5.4, 6, 15.2 to 15.5 and 15.10; MIL-STD-1753 for the bit functions.
use Rattle.std.specs.Prelude.{ℕ, zero, suc, Bool, true, false, ◌&&◌, ◌||◌, List, [], ◌∷◌, ◌++◌, length}
use Rattle.l_core.specs.f_tree.Values.{Bytes, Nothing}
use Rattle.l_core.specs.f_tree.Terms.{Prefix, Complement, Operator, Both, Either, Function, Power, SignTransfer, PositiveDifference, IndexOf, LexicallyGreaterOrEqual, LexicallyGreater, LexicallyLessOrEqual, LexicallyLess, InclusiveOr, LogicalProduct, ExclusiveOr, BitComplement, BitShift, BitTest, BitSet, BitClear, Callee, Term, Val, Fetch, At, All, Element, Alone, Part, Joined, Before, Between, Intrinsically, Refer, Bind, Bound, Terms, NoMore, More, refers, any_refers}
use Rattle.l_core.specs.Pures.{Pure, Constant, Temporary, Load, Name, AllOf, ElementOf, FirstOf, Substring, Concatenated, Prefixed, Operated, Applied, Pures, NoPure, AndPure}
use Rattle.l_core.specs.Steps.{Step, Keep, Compute, Unless, CallFor}

-- what a value is for
pub data Purpose : Type 0 where
  -- it is used where it stands
  ForUse : Purpose
  -- it is handed on by its address: of what is no place and no constant there is one once it is kept
  ForCall : Purpose
  -- it is read through its address: a constant has one, and what stands at a place; of what is neither there is one once it is kept
  ForReading : Purpose
  -- it is used behind further steps
  ForLater : Purpose

-- steps, what is had behind them, and the first temporary that is free then
pub record Lowered (A : Type 0) : Type 0 where
  pub steps : List Step
  pub value : A
  pub free : ℕ

unfoldable pub plain : {A : Type 0} → A → ℕ → Lowered A
plain a k = record { steps = []; value = a; free = k }

-- an operand, and those behind it
unfoldable pub and_then : Lowered Pure → (ℕ → Lowered Pures) → Lowered Pures
and_then one more = record { steps = one.steps ++ (more one.free).steps; value = AndPure one.value (more one.free).value; free = (more one.free).free }

unfoldable pub no_operand : ℕ → Lowered Pures
no_operand k = plain NoPure k

-- what an operand is for, given whether one behind it has a reference to a function: a call may change the store
unfoldable pub ahead : Purpose → Bool → Purpose
ahead purpose true = ForLater
ahead purpose false = purpose

-- the forms over operands that are all valued before the form itself
pub data Shape : Type 0 where
  AsFetch : Shape
  AsElement : Bytes → Shape
  AsAlone : Shape
  AsPart : Bytes → Shape
  AsJoined : Shape
  AsBefore : Prefix → Shape
  AsBetween : Operator → Shape
  AsFunction : Function → Shape
  AsReference : Callee → Shape

-- functions that C has in its library, which reads their operands by address (15.10, 6.1; the bit functions)
unfoldable pub is_library : Function → Bool
is_library Power = true
is_library SignTransfer = true
is_library PositiveDifference = true
is_library IndexOf = true
is_library LexicallyGreaterOrEqual = true
is_library LexicallyGreater = true
is_library LexicallyLessOrEqual = true
is_library LexicallyLess = true
is_library InclusiveOr = true
is_library LogicalProduct = true
is_library ExclusiveOr = true
is_library BitComplement = true
is_library BitShift = true
is_library BitTest = true
is_library BitSet = true
is_library BitClear = true
is_library _ = false

-- the operands of a place are used when it is
unfoldable pub for_place : Purpose → Purpose
for_place ForLater = ForLater
for_place _ = ForUse

unfoldable pub for_function : Bool → Purpose
for_function true = ForReading
for_function false = ForUse

-- what stands at a place may be read there
unfoldable pub for_fetch : Purpose → Purpose
for_fetch ForReading = ForUse
for_fetch purpose = purpose

unfoldable pub operand_purpose : Shape → Purpose → Purpose
operand_purpose (AsElement x) purpose = for_place purpose
operand_purpose AsAlone purpose = for_place purpose
operand_purpose (AsPart x) purpose = for_place purpose
operand_purpose (AsFunction function) purpose = for_function (is_library function)
operand_purpose (AsReference callee) purpose = ForCall
operand_purpose shape purpose = ForUse

unfoldable pub pure_of : Shape → Pures → Pure
pure_of AsFetch (AndPure p NoPure) = Load p
pure_of (AsElement x) ps = ElementOf x ps
pure_of AsAlone (AndPure p NoPure) = FirstOf p
pure_of (AsPart x) (AndPure p (AndPure from (AndPure to NoPure))) = Substring x p from to
pure_of AsJoined ps = Concatenated ps
pure_of (AsBefore op) (AndPure p NoPure) = Prefixed op p
pure_of (AsBetween op) (AndPure p (AndPure q NoPure)) = Operated op p q
pure_of (AsFunction function) ps = Applied function ps
pure_of shape ps = Constant Nothing

-- A value that is for more than use is kept, in the first temporary that its operands could take: the steps, the value then, and what is free.
unfoldable pub kept_steps : Purpose → ℕ → Pure → List Step
kept_steps ForUse k p = []
kept_steps purpose k p = Keep k p ∷ []

unfoldable pub kept_value : Purpose → ℕ → Pure → Pure
kept_value ForUse k p = p
kept_value purpose k p = Temporary k

unfoldable pub kept_free : Purpose → ℕ → ℕ → ℕ
kept_free ForUse k n = n
kept_free purpose k n = suc k

unfoldable pub function_steps : Bool → Function → Purpose → ℕ → Pures → List Step
function_steps true function purpose k ps = Compute k function ps ∷ []
function_steps false function purpose k ps = kept_steps purpose k (Applied function ps)

unfoldable pub function_value : Bool → Function → Purpose → ℕ → Pures → Pure
function_value true function purpose k ps = Temporary k
function_value false function purpose k ps = kept_value purpose k (Applied function ps)

unfoldable pub function_free : Bool → Purpose → ℕ → ℕ → ℕ
function_free true purpose k n = suc k
function_free false purpose k n = kept_free purpose k n

-- what stands behind the operands of a form: places are settled where they are used, and their operands last as long as they do
unfoldable pub closing : Shape → Purpose → ℕ → Pures → List Step
closing AsFetch purpose k ps = kept_steps (for_fetch purpose) k (pure_of AsFetch ps)
closing (AsElement x) purpose k ps = []
closing AsAlone purpose k ps = []
closing (AsPart x) purpose k ps = []
closing (AsFunction function) purpose k ps = function_steps (is_library function) function purpose k ps
closing (AsReference callee) purpose k ps = CallFor k callee ps ∷ []
closing shape purpose k ps = kept_steps purpose k (pure_of shape ps)

unfoldable pub closed_value : Shape → Purpose → ℕ → Pures → Pure
closed_value AsFetch purpose k ps = kept_value (for_fetch purpose) k (pure_of AsFetch ps)
closed_value (AsElement x) purpose k ps = ElementOf x ps
closed_value AsAlone purpose k ps = pure_of AsAlone ps
closed_value (AsPart x) purpose k ps = pure_of (AsPart x) ps
closed_value (AsFunction function) purpose k ps = function_value (is_library function) function purpose k ps
closed_value (AsReference callee) purpose k ps = Temporary k
closed_value shape purpose k ps = kept_value purpose k (pure_of shape ps)

unfoldable pub closed_free : Shape → Purpose → ℕ → ℕ → ℕ
closed_free AsFetch purpose k n = kept_free (for_fetch purpose) k n
closed_free (AsElement x) purpose k n = n
closed_free AsAlone purpose k n = n
closed_free (AsPart x) purpose k n = n
closed_free (AsFunction function) purpose k n = function_free (is_library function) purpose k n
closed_free (AsReference callee) purpose k n = suc k
closed_free shape purpose k n = kept_free purpose k n

-- a form over its operands
unfoldable pub shaped : Shape → Purpose → ℕ → Lowered Pures → Lowered Pure
shaped shape purpose k l = record {
  steps = l.steps ++ closing shape purpose k l.value;
  value = closed_value shape purpose k l.value;
  free = closed_free shape purpose k l.free;
}

unfoldable pub is_kept : Purpose → Bool
is_kept ForUse = false
is_kept _ = true

-- does a form take steps, given whether its operands do
unfoldable pub shape_takes : Shape → Purpose → Bool → Bool
shape_takes AsFetch purpose operands = is_kept (for_fetch purpose) || operands
shape_takes (AsElement x) purpose operands = operands
shape_takes AsAlone purpose operands = operands
shape_takes (AsPart x) purpose operands = operands
shape_takes (AsFunction function) purpose operands = is_library function || (is_kept purpose || operands)
shape_takes (AsReference callee) purpose operands = true
shape_takes shape purpose operands = is_kept purpose || operands

-- does an expression take steps
unfoldable mutual
  pub takes_steps : Purpose → Term → Bool
  takes_steps purpose (Val d) = false
  takes_steps purpose (Fetch t) = shape_takes AsFetch purpose (takes_steps ForUse t)
  takes_steps purpose (At x) = false
  takes_steps purpose (All x) = false
  takes_steps purpose (Element x ts) = shape_takes (AsElement x) purpose (any_takes (for_place purpose) ts)
  takes_steps purpose (Alone t) = shape_takes AsAlone purpose (takes_steps (for_place purpose) t)
  takes_steps purpose (Part x t from to) =
      shape_takes (AsPart x) purpose ((takes_steps (for_place purpose) to || takes_steps (for_place purpose) from) || takes_steps (for_place purpose) t)
  takes_steps purpose (Joined ts) = shape_takes AsJoined purpose (any_takes ForUse ts)
  takes_steps purpose (Before op t) = shape_takes (AsBefore op) purpose (takes_steps ForUse t)
  takes_steps purpose (Between op t u) = shape_takes (AsBetween op) purpose (takes_steps ForUse u || takes_steps ForUse t)
  takes_steps purpose (Intrinsically function ts) = shape_takes (AsFunction function) purpose (any_takes (for_function (is_library function)) ts)
  takes_steps purpose (Refer callee ts) = true
  takes_steps purpose (Bind ts t) = true
  takes_steps purpose (Bound i) = false

  pub any_takes : Purpose → Terms → Bool
  any_takes purpose NoMore = false
  any_takes purpose (More t ts) = any_takes purpose ts || takes_steps purpose t

-- is the right operand one that the left one may leave out (6.4.2)
unfoldable pub may_decide : Operator → Bool
may_decide Both = true
may_decide Either = true
may_decide _ = false

-- the condition on which the right operand is wanted, the left one being kept
unfoldable pub wanted_where : Operator → ℕ → Pure
wanted_where Either k = Prefixed Complement (Temporary k)
wanted_where _ k = Temporary k

unfoldable pub guarded : Operator → ℕ → Lowered Pure → Lowered Pure → Lowered Pure
guarded op k left right = record {
  steps = left.steps ++ Keep k left.value ∷ Unless (wanted_where op k) (suc (length right.steps)) ∷ (right.steps ++ Keep k right.value ∷ []);
  value = Temporary k;
  free = suc k;
}

-- two operands, given whether the right one is guarded and whether it has a reference
unfoldable pub lowered_between : Bool → Bool → Operator → Purpose → ℕ → (Purpose → Lowered Pure) → (ℕ → Lowered Pure) → Lowered Pure
lowered_between true refers' op purpose k left right = guarded op k (left ForUse) (right k)
lowered_between false refers' op purpose k left right =
    shaped (AsBetween op) purpose k (and_then (left (ahead ForUse refers')) (λ n. and_then (right n) no_operand))

-- the value of an argument of a statement function
unfoldable pub argument : Pures → ℕ → Pure
argument NoPure i = Constant Nothing
argument (AndPure p ps) zero = p
argument (AndPure p ps) (suc i) = argument ps i

unfoldable pub in_order : Lowered Pures → (Pures → ℕ → Lowered Pure) → Lowered Pure
in_order first then' = record {
  steps = first.steps ++ (then' first.value first.free).steps;
  value = (then' first.value first.free).value;
  free = (then' first.value first.free).free;
}

-- An expression, given the arguments of the statement function in whose expression it stands, what it is for, and the first temporary
-- that is free.
unfoldable mutual
  pub lower : Pures → Purpose → ℕ → Term → Lowered Pure
  lower env purpose k (Val d) = plain (Constant d) k
  lower env purpose k (Fetch t) = shaped AsFetch purpose k (and_then (lower env ForUse k t) no_operand)
  lower env purpose k (At x) = plain (Name x) k
  lower env purpose k (All x) = plain (AllOf x) k
  lower env purpose k (Element x ts) = shaped (AsElement x) purpose k (lower_all env (for_place purpose) k ts)
  lower env purpose k (Alone t) = shaped AsAlone purpose k (and_then (lower env (for_place purpose) k t) no_operand)
  lower env purpose k (Part x t from to) =
      shaped (AsPart x) purpose k
      (and_then (lower env (ahead (for_place purpose) (refers from || (refers to || false))) k t)
      (λ n. and_then (lower env (ahead (for_place purpose) (refers to || false)) n from)
      (λ n'. and_then (lower env (for_place purpose) n' to) no_operand)))
  lower env purpose k (Joined ts) = shaped AsJoined purpose k (lower_all env ForUse k ts)
  lower env purpose k (Before op t) = shaped (AsBefore op) purpose k (and_then (lower env ForUse k t) no_operand)
  lower env purpose k (Between op t u) =
      lowered_between (may_decide op && takes_steps ForUse u) (refers u || false) op purpose k (λ p. lower env p k t) (λ n. lower env ForUse n u)
  lower env purpose k (Intrinsically function ts) = shaped (AsFunction function) purpose k (lower_all env (for_function (is_library function)) k ts)
  lower env purpose k (Refer callee ts) = shaped (AsReference callee) purpose k (lower_all env ForCall k ts)
  lower env purpose k (Bind ts t) = in_order (lower_all env ForLater k ts) (λ ps n. lower ps purpose n t)
  lower env purpose k (Bound i) = plain (argument env i) k

  -- operands from left to right
  pub lower_all : Pures → Purpose → ℕ → Terms → Lowered Pures
  lower_all env purpose k NoMore = no_operand k
  lower_all env purpose k (More t ts) = and_then (lower env (ahead purpose (any_refers ts)) k t) (λ n. lower_all env purpose n ts)

unfoldable pub expressions_opened : Unit {0}
unfolding plain and_then no_operand ahead is_library for_place for_function for_fetch operand_purpose pure_of kept_steps kept_value kept_free function_steps function_value function_free closing closed_value closed_free shaped is_kept shape_takes takes_steps any_takes may_decide wanted_where guarded lowered_between argument in_order lower lower_all
expressions_opened = tt
