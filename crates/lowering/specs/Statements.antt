-- The steps of a statement. What a statement needs to know of what stands around it are the first free temporary and how many steps are passed
-- where its condition does not hold. ANSI X3.9-1978, sections 10, 11, 12.8 and 15; MIL-STD-1753 for DO WHILE.
use Rattle.std.specs.Prelude.{ℕ, pos, int_lt, Bool, true, false, ◌||◌, List, [], ◌∷◌, ◌++◌, length, map, Option, Some, None, if◌then◌else◌}
use Rattle.l_core.specs.f_tree.Values.{Bytes, IsInt, IsLabel}
use Rattle.l_core.specs.f_tree.Terms.{Add, IsLess, IsLessOrEqual, IsEqual, IsGreaterOrEqual, Wanted, AsSubroutine, AsFunction, Term, Val, Fetch, Refer, Bind, Terms, NoMore, More, any_refers}
use Rattle.l_core.specs.f_tree.Facts.{Direction, Layout, Controls, AuxiliaryKind, Item, Repeated, Turn, Work, Done, Before, Head, ToSet, ToSetLabel, ToGo, ToPick, ToGoAssigned, ToGoBySign, ToGuard, ToEnterArm, ToLoop, ToTestLoop, ToCall, ToReturn, ToStop, ToBegin, ToAuxiliary, ToEnd, Form, Passes, On}
use Rattle.l_core.specs.f_tree.Step.{contains}
use Rattle.l_core.specs.Pures.{Pure, Constant, Load, Operated, Chosen, Pures, NoPure, AndPure}
use Rattle.l_core.specs.Steps.{Starts, Takes, Finishes, Auxiliary, Step, Put, PutLabel, Unless, Again, AgainIf, Jump, Select, JumpBy, CallFor, CallSub, Branch, Way, Back, BackBy, Halt, Acts}
use Rattle.lowering.specs.Expressions.{Purpose, ForUse, ForCall, ForLater, Lowered, and_then, ahead, lower, lower_all}

-- operands, and what is done with them; none where there are other operands than the statement takes
unfoldable pub behind_operands : List Step → Option (List Step) → Option (List Step)
behind_operands steps None = None
behind_operands steps (Some more) = Some (steps ++ more)

unfoldable pub with_operands : Lowered Pures → (Pures → Option (List Step)) → Option (List Step)
with_operands l close = behind_operands l.steps (close l.value)

-- the value, and the place that gets it (10.1, 10.2)
unfoldable pub put_code : Pures → Option (List Step)
put_code (AndPure p (AndPure place NoPure)) = Some (Put place p ∷ [])
put_code ps = None

unfoldable pub put_label_code : ℕ → Pures → Option (List Step)
put_label_code label (AndPure place NoPure) = Some (PutLabel place label ∷ [])
put_label_code label ps = None

-- the number picks one of the jumps behind, or passes them all (11.2)
unfoldable pub select_code : List ℕ → Pures → Option (List Step)
select_code labels (AndPure p NoPure) = Some (Select p (length labels) ∷ map Jump labels)
select_code labels ps = None

-- each label of a list once
unfoldable pub each_once : List ℕ → List ℕ
each_once [] = []
each_once (l ∷ ls) = if contains ls l then each_once ls else l ∷ each_once ls

-- the label that the place holds picks one of the jumps behind (11.3)
unfoldable pub jump_by_code : List ℕ → Pures → Option (List Step)
jump_by_code labels (AndPure place NoPure) = Some (JumpBy place (each_once labels) ∷ map Jump (each_once labels))
jump_by_code labels ps = None

-- an arithmetic IF (11.4): its value is kept
unfoldable pub sign_code : ℕ → ℕ → ℕ → Pures → Option (List Step)
sign_code below at above (AndPure p NoPure) =
    Some (Unless (Operated IsLess p (Constant (IsInt (pos 0)))) 1 ∷ Jump below ∷ Unless (Operated IsEqual p (Constant (IsInt (pos 0)))) 1 ∷ Jump at ∷ Jump above ∷ [])
sign_code below at above ps = None

-- a condition, and what stands under it
unfoldable pub unless_code : ℕ → List Step → Pures → Option (List Step)
unless_code n under (AndPure p NoPure) = Some (Unless p n ∷ under)
unless_code n under ps = None

unfoldable pub guard_code : Lowered Pures → Option (List Step) → Option (List Step)
guard_code l None = None
guard_code l (Some under) = with_operands l (unless_code (length under) under)

-- DO (11.10): the limit and the step are kept while the loop is open, the first value where they have a reference
unfoldable pub loop_operands : ℕ → Terms → Lowered Pures
loop_operands k (More x (More first bounds)) =
    and_then (lower NoPure ForLater k x) (λ n. and_then (lower NoPure (ahead ForUse (any_refers bounds)) n first) (λ n'. lower_all NoPure ForLater n' bounds))
loop_operands k ts = record { steps = []; value = NoPure; free = k }

-- the test of a loop: by a step of a known sign, or by the sign that the step has
unfoldable pub test_by : Pure → Pure → Pure → Pure
test_by x limit (Constant (IsInt z)) =
    if int_lt z (pos 0) then Operated IsGreaterOrEqual (Load x) limit else Operated IsLessOrEqual (Load x) limit
test_by x limit by =
    Chosen (Operated IsLess by (Constant (IsInt (pos 0)))) (Operated IsGreaterOrEqual (Load x) limit) (Operated IsLessOrEqual (Load x) limit)

-- the variable gets its first value; unless the loop is run at least once, it is tested
unfoldable pub loop_test : Bool → Pure → ℕ → List Step
loop_test true test n = []
loop_test false test n = Unless test n ∷ []

unfoldable pub loop_code : Bool → ℕ → Pures → Option (List Step)
loop_code once n (AndPure x (AndPure first (AndPure limit (AndPure by NoPure)))) = Some (Put x first ∷ loop_test once (test_by x limit by) n)
loop_code once n ps = None

-- behind the terminal statement: the variable gets its next value, and control goes back so many steps to the test, or to the range while the test holds
unfoldable pub back_by : Bool → Pure → ℕ → Step
back_by true test n = AgainIf test n
back_by false test n = Again n

unfoldable pub turn_code : Bool → ℕ → Pures → List Step
turn_code once n (AndPure x (AndPure first (AndPure limit (AndPure by NoPure)))) = Put x (Operated Add (Load x) by) ∷ back_by once (test_by x limit by) n ∷ []
turn_code once n ps = []

-- is a subroutine called, which has no value (15.6)
unfoldable pub wants_no_value : Wanted → Bool
wants_no_value AsSubroutine = true
wants_no_value (AsFunction basic width) = false

unfoldable mutual
  -- may the value of an operand be a label: a label that is written, or what a subroutine answers
  pub may_be_label : Term → Bool
  may_be_label (Val (IsLabel l)) = true
  may_be_label (Refer callee ts) = wants_no_value callee.want
  may_be_label (Bind ts t) = passes_label ts || may_be_label t
  may_be_label t = false

  -- may one of the values that are passed be a label (15.6.2.3)
  pub passes_label : Terms → Bool
  passes_label NoMore = false
  passes_label (More t ts) = may_be_label t || passes_label ts

-- the labels that are written among the operands of a CALL, in their order
unfoldable pub label_written : Term → List ℕ
label_written (Val (IsLabel l)) = l ∷ []
label_written t = []

unfoldable pub labels_written : Terms → List ℕ
labels_written NoMore = []
labels_written (More t ts) = label_written t ++ labels_written ts

-- a label is passed that is not written
unfoldable pub hides_label : Term → Bool
hides_label (Val (IsLabel l)) = false
hides_label t = may_be_label t

unfoldable pub hides_labels : Terms → Bool
hides_labels NoMore = false
hides_labels (More t ts) = hides_label t || hides_labels ts

-- a CALL, given the labels that are passed: where there are some, what the subroutine answers picks one of the ways behind (15.6.2.3)
unfoldable pub call_steps : ℕ → Bytes → List ℕ → Pures → List Step
call_steps k name [] ps = CallSub k name ps ∷ []
call_steps k name (l ∷ ls) ps = CallFor k (record { name = name; want = AsSubroutine }) ps ∷ Branch k (length (l ∷ ls)) ∷ map Way (l ∷ ls)

unfoldable pub call_code : ℕ → Bytes → Terms → Pures → Option (List Step)
call_code k name operands ps = if hides_labels operands then None else Some (call_steps k name (labels_written operands) ps)

unfoldable pub back_code : Pures → Option (List Step)
back_code NoPure = Some (Back ∷ [])
back_code (AndPure p NoPure) = Some (BackBy p ∷ [])
back_code ps = None

-- the value of a variable or of an array element is handed on where it stands; another is kept, so that it has an address
unfoldable pub item_purpose : Term → Purpose
item_purpose (Fetch t) = ForUse
item_purpose t = ForCall

-- the items of a list, each with its act, and behind them the end of the transfer (12.8); an implied DO is not lowered yet
unfoldable pub item_code : ℕ → Term → Option (List Step) → Option (List Step)
item_code k t None = None
item_code k t (Some more) =
    Some ((lower_all NoPure (item_purpose t) k (More t NoMore)).steps ++ Acts Takes (lower_all NoPure (item_purpose t) k (More t NoMore)).value (length more) ∷ more)

unfoldable pub work_code : ℕ → Work → Option (List Step)
work_code k Done = Some (Acts Finishes NoPure 0 ∷ [])
work_code k (Before (Item t) rest) = item_code k t (work_code k rest)
work_code k (Before (Repeated items control) rest) = None
work_code k (Before (Turn items p left by given) rest) = None

unfoldable pub begin_code : Direction → Layout → Controls → Option (List Step) → Pures → Option (List Step)
begin_code way layout controls None ps = None
begin_code way layout controls (Some items) ps = Some (Acts (Starts way layout controls) ps (length items) ∷ items)

-- OPEN and its kin (12.10)
unfoldable pub auxiliary_code : AuxiliaryKind → Controls → Pures → Option (List Step)
auxiliary_code which controls ps = Some (Acts (Auxiliary which controls) ps 0 ∷ [])

-- A form, given whether the ranges of DO loops are run at least once, the first free temporary, and how many steps are passed where its
-- condition does not hold. None where the form is not lowered yet.
unfoldable mutual
  pub form_code : Bool → ℕ → ℕ → Form → Option (List Step)
  form_code once k n Passes = Some []
  form_code once k n (On head operands) = head_code once k n head operands

  pub head_code : Bool → ℕ → ℕ → Head → Terms → Option (List Step)
  head_code once k n ToSet operands = with_operands (lower_all NoPure ForUse k operands) put_code
  head_code once k n (ToSetLabel label) operands = with_operands (lower_all NoPure ForUse k operands) (put_label_code label)
  head_code once k n (ToGo label) NoMore = Some (Jump label ∷ [])
  head_code once k n (ToPick labels) operands = with_operands (lower_all NoPure ForUse k operands) (select_code labels)
  head_code once k n (ToGoAssigned labels) operands = with_operands (lower_all NoPure ForUse k operands) (jump_by_code labels)
  head_code once k n (ToGoBySign below at above) operands = with_operands (lower_all NoPure ForLater k operands) (sign_code below at above)
  head_code once k n (ToGuard form) operands = guard_code (lower_all NoPure ForUse k operands) (form_code once k 0 form)
  head_code once k n ToEnterArm operands = with_operands (lower_all NoPure ForUse k operands) (unless_code n [])
  head_code once k n (ToLoop label) operands = with_operands (loop_operands k operands) (loop_code once n)
  head_code once k n (ToTestLoop label) operands = with_operands (lower_all NoPure ForUse k operands) (unless_code n [])
  head_code once k n (ToCall name) operands = with_operands (lower_all NoPure ForCall k operands) (call_code k name operands)
  head_code once k n ToReturn operands = with_operands (lower_all NoPure ForUse k operands) back_code
  head_code once k n (ToStop text) NoMore = Some (Halt text ∷ [])
  head_code once k n (ToBegin way layout controls work) operands = with_operands (lower_all NoPure ForUse k operands) (begin_code way layout controls (work_code k work))
  head_code once k n (ToAuxiliary which controls) operands = with_operands (lower_all NoPure ForUse k operands) (auxiliary_code which controls)
  head_code once k n ToEnd NoMore = Some (Back ∷ [])
  head_code once k n head operands = None

unfoldable pub statements_opened : Unit {0}
unfolding behind_operands with_operands put_code put_label_code select_code each_once jump_by_code sign_code unless_code guard_code loop_operands test_by loop_test loop_code back_by turn_code wants_no_value may_be_label passes_label label_written labels_written hides_label hides_labels call_steps call_code back_code item_purpose item_code work_code begin_code auxiliary_code form_code head_code
statements_opened = tt
