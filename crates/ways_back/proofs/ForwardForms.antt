-- The own steps of a statement go forward.
use Rattle.std.specs.Prelude.{ℕ, Bool, true, false, List, [], ◌∷◌, length, map, Option, Some, None, if◌then◌else◌}
use Rattle.std.proofs.Common.{refl}
use Rattle.lowering.specs.l_core.f_tree.Values.{Bytes}
use Rattle.lowering.specs.l_core.f_tree.Terms.{Term, Terms, NoMore, More, any_refers}
use Rattle.lowering.specs.l_core.f_tree.Facts as head
use Rattle.lowering.specs.l_core.f_tree.Facts.{Direction, Layout, Controls, AuxiliaryKind, Item, Repeated, Turn, Work, Done, Before, Head, Form, Passes, On}
use Rattle.lowering.specs.l_core.Pures.{Pures, NoPure, AndPure}
use Rattle.lowering.specs.l_core.Steps.{Step, Takes, Way, Acts}
use Rattle.lowering.specs.Expressions.{ForUse, ForCall, ForLater, Lowered, and_then, ahead, lower, lower_all}
use Rattle.lowering.specs.Statements.{behind_operands, with_operands, put_code, put_label_code, select_code, each_once, jump_by_code, sign_code, unless_code, guard_code, loop_operands, loop_test, loop_code, labels_written, hides_labels, call_steps, call_code, back_code, item_purpose, item_code, work_code, begin_code, auxiliary_code, form_code, head_code}
use Rattle.ways_back.proofs.Ways.{back_of, AreForward, AreForwardIf, forward_both, jumps_forward}
use Rattle.ways_back.proofs.ForwardExpressions.{then_forward, lower_forward, all_forward}

behind_forward : (steps : List Step) (x : Option (List Step)) → AreForward steps → AreForwardIf x → AreForwardIf (behind_operands steps x)
unfolding behind_operands AreForwardIf
behind_forward steps None first later = tt
behind_forward steps (Some more) first later = forward_both steps more first later

-- ## What closes the operands

put_forward : (ps : Pures) → AreForwardIf (put_code ps)
unfolding put_code AreForwardIf AreForward back_of
put_forward NoPure = tt
put_forward (AndPure p NoPure) = tt
put_forward (AndPure p (AndPure place NoPure)) = (refl, tt)
put_forward (AndPure p (AndPure place (AndPure q ps))) = tt

label_forward : (label : ℕ) (ps : Pures) → AreForwardIf (put_label_code label ps)
unfolding put_label_code AreForwardIf AreForward back_of
label_forward label NoPure = tt
label_forward label (AndPure p NoPure) = (refl, tt)
label_forward label (AndPure p (AndPure q ps)) = tt

select_forward : (labels : List ℕ) (ps : Pures) → AreForwardIf (select_code labels ps)
unfolding select_code AreForwardIf AreForward back_of
select_forward labels NoPure = tt
select_forward labels (AndPure p NoPure) = (refl, jumps_forward labels)
select_forward labels (AndPure p (AndPure q ps)) = tt

jump_by_forward : (labels : List ℕ) (ps : Pures) → AreForwardIf (jump_by_code labels ps)
unfolding jump_by_code AreForwardIf AreForward back_of
jump_by_forward labels NoPure = tt
jump_by_forward labels (AndPure p NoPure) = (refl, jumps_forward (each_once labels))
jump_by_forward labels (AndPure p (AndPure q ps)) = tt

sign_forward : (below at above : ℕ) (ps : Pures) → AreForwardIf (sign_code below at above ps)
unfolding sign_code AreForwardIf AreForward back_of
sign_forward below at above NoPure = tt
sign_forward below at above (AndPure p NoPure) = (refl, (refl, (refl, (refl, (refl, tt)))))
sign_forward below at above (AndPure p (AndPure q ps)) = tt

unless_forward : (n : ℕ) (under : List Step) (ps : Pures) → AreForward under → AreForwardIf (unless_code n under ps)
unfolding unless_code AreForwardIf AreForward back_of
unless_forward n under NoPure forward = tt
unless_forward n under (AndPure p NoPure) forward = (refl, forward)
unless_forward n under (AndPure p (AndPure q ps)) forward = tt

pub nothing_forward : AreForward []
unfolding AreForward
nothing_forward = tt

guard_forward : (l : Lowered Pures) (x : Option (List Step)) → AreForward l.steps → AreForwardIf x → AreForwardIf (guard_code l x)
unfolding guard_code with_operands AreForwardIf
guard_forward l None first later = tt
guard_forward l (Some under) first later = behind_forward l.steps (unless_code (length under) under l.value) first (unless_forward (length under) under l.value later)

loop_forward : (once : Bool) (n : ℕ) (ps : Pures) → AreForwardIf (loop_code once n ps)
unfolding loop_code loop_test AreForwardIf AreForward back_of
loop_forward once n NoPure = tt
loop_forward once n (AndPure x NoPure) = tt
loop_forward once n (AndPure x (AndPure first NoPure)) = tt
loop_forward once n (AndPure x (AndPure first (AndPure limit NoPure))) = tt
loop_forward true n (AndPure x (AndPure first (AndPure limit (AndPure by NoPure)))) = (refl, tt)
loop_forward false n (AndPure x (AndPure first (AndPure limit (AndPure by NoPure)))) = (refl, (refl, tt))
loop_forward once n (AndPure x (AndPure first (AndPure limit (AndPure by (AndPure p ps))))) = tt

operands_forward : (k : ℕ) (ts : Terms) → AreForward (loop_operands k ts).steps
unfolding loop_operands AreForward
operands_forward k NoMore = tt
operands_forward k (More x NoMore) = tt
operands_forward k (More x (More first bounds)) =
    then_forward (lower NoPure ForLater k x) (λ n. and_then (lower NoPure (ahead ForUse (any_refers bounds)) n first) (λ n'. lower_all NoPure ForLater n' bounds)) (lower_forward NoPure ForLater k x)
    (λ n. then_forward (lower NoPure (ahead ForUse (any_refers bounds)) n first) (λ n'. lower_all NoPure ForLater n' bounds) (lower_forward NoPure (ahead ForUse (any_refers bounds)) n first) (λ n'. all_forward NoPure ForLater n' bounds))

ways_forward : (labels : List ℕ) → AreForward (map Way labels)
unfolding AreForward back_of
ways_forward [] = tt
ways_forward (l ∷ labels) = (refl, ways_forward labels)

calls_forward : (k : ℕ) (name : Bytes) (labels : List ℕ) (ps : Pures) → AreForward (call_steps k name labels ps)
unfolding call_steps AreForward back_of
calls_forward k name [] ps = (refl, tt)
calls_forward k name (l ∷ labels) ps = (refl, (refl, ways_forward (l ∷ labels)))

forward_unless : (hidden : Bool) (steps : List Step) → AreForward steps → AreForwardIf (if hidden then None else Some steps)
unfolding AreForwardIf
forward_unless true steps forward = tt
forward_unless false steps forward = forward

call_forward : (k : ℕ) (name : Bytes) (operands : Terms) (ps : Pures) → AreForwardIf (call_code k name operands ps)
unfolding call_code
call_forward k name operands ps = forward_unless (hides_labels operands) (call_steps k name (labels_written operands) ps) (calls_forward k name (labels_written operands) ps)

back_forward : (ps : Pures) → AreForwardIf (back_code ps)
unfolding back_code AreForwardIf AreForward back_of
back_forward NoPure = (refl, tt)
back_forward (AndPure p NoPure) = (refl, tt)
back_forward (AndPure p (AndPure q ps)) = tt

item_forward : (k : ℕ) (t : Term) (x : Option (List Step)) → AreForwardIf x → AreForwardIf (item_code k t x)
unfolding item_code AreForwardIf AreForward back_of
item_forward k t None later = tt
item_forward k t (Some more) later =
    forward_both (lower_all NoPure (item_purpose t) k (More t NoMore)).steps (Acts Takes (lower_all NoPure (item_purpose t) k (More t NoMore)).value (length more) ∷ more)
    (all_forward NoPure (item_purpose t) k (More t NoMore)) (refl, later)

work_forward : (k : ℕ) (work : Work) → AreForwardIf (work_code k work)
unfolding work_code AreForwardIf AreForward back_of
work_forward k Done = (refl, tt)
work_forward k (Before (Item t) rest) = item_forward k t (work_code k rest) (work_forward k rest)
work_forward k (Before (Repeated items control) rest) = tt
work_forward k (Before (Turn items p left by given) rest) = tt

begin_forward : (way : Direction) (layout : Layout) (controls : Controls) (x : Option (List Step)) (ps : Pures) → AreForwardIf x → AreForwardIf (begin_code way layout controls x ps)
unfolding begin_code AreForwardIf AreForward back_of
begin_forward way layout controls None ps later = tt
begin_forward way layout controls (Some items) ps later = (refl, later)

auxiliary_forward : (which : AuxiliaryKind) (controls : Controls) (ps : Pures) → AreForwardIf (auxiliary_code which controls ps)
unfolding auxiliary_code AreForwardIf AreForward back_of
auxiliary_forward which controls ps = (refl, tt)

-- ## Forms

with_forward : (l : Lowered Pures) (close : Pures → Option (List Step)) → AreForward l.steps → AreForwardIf (close l.value) → AreForwardIf (with_operands l close)
unfolding with_operands
with_forward l close first later = behind_forward l.steps (close l.value) first later

mutual
  unfolding form_code head_code AreForwardIf AreForward back_of

  pub form_forward : (once : Bool) (k n : ℕ) (form : Form) → AreForwardIf (form_code once k n form)
  form_forward once k n Passes = tt
  form_forward once k n (On h ts) = head_forward once k n h ts

  head_forward : (once : Bool) (k n : ℕ) (h : Head) (ts : Terms) → AreForwardIf (head_code once k n h ts)
  head_forward once k n head.ToSet ts = with_forward (lower_all NoPure ForUse k ts) put_code (all_forward NoPure ForUse k ts) (put_forward (lower_all NoPure ForUse k ts).value)
  head_forward once k n head.ToSetText ts = tt
  head_forward once k n (head.ToSetLabel label) ts = with_forward (lower_all NoPure ForUse k ts) (put_label_code label) (all_forward NoPure ForUse k ts) (label_forward label (lower_all NoPure ForUse k ts).value)
  head_forward once k n (head.ToGo label) NoMore = (refl, tt)
  head_forward once k n (head.ToGo label) (More t ts) = tt
  head_forward once k n (head.ToPick labels) ts = with_forward (lower_all NoPure ForUse k ts) (select_code labels) (all_forward NoPure ForUse k ts) (select_forward labels (lower_all NoPure ForUse k ts).value)
  head_forward once k n (head.ToGoAssigned labels) ts = with_forward (lower_all NoPure ForUse k ts) (jump_by_code labels) (all_forward NoPure ForUse k ts) (jump_by_forward labels (lower_all NoPure ForUse k ts).value)
  head_forward once k n (head.ToGoBySign below at above) ts =
      with_forward (lower_all NoPure ForLater k ts) (sign_code below at above) (all_forward NoPure ForLater k ts) (sign_forward below at above (lower_all NoPure ForLater k ts).value)
  head_forward once k n (head.ToGuard form) ts = guard_forward (lower_all NoPure ForUse k ts) (form_code once k 0 form) (all_forward NoPure ForUse k ts) (form_forward once k 0 form)
  head_forward once k n head.ToEnterArm ts = with_forward (lower_all NoPure ForUse k ts) (unless_code n []) (all_forward NoPure ForUse k ts) (unless_forward n [] (lower_all NoPure ForUse k ts).value nothing_forward)
  head_forward once k n (head.ToLoop label) ts = with_forward (loop_operands k ts) (loop_code once n) (operands_forward k ts) (loop_forward once n (loop_operands k ts).value)
  head_forward once k n (head.ToTestLoop label) ts =
      with_forward (lower_all NoPure ForUse k ts) (unless_code n []) (all_forward NoPure ForUse k ts) (unless_forward n [] (lower_all NoPure ForUse k ts).value nothing_forward)
  head_forward once k n (head.ToCall name) ts =
      with_forward (lower_all NoPure ForCall k ts) (call_code k name ts) (all_forward NoPure ForCall k ts) (call_forward k name ts (lower_all NoPure ForCall k ts).value)
  head_forward once k n head.ToReturn ts = with_forward (lower_all NoPure ForUse k ts) back_code (all_forward NoPure ForUse k ts) (back_forward (lower_all NoPure ForUse k ts).value)
  head_forward once k n (head.ToStop text) NoMore = (refl, tt)
  head_forward once k n (head.ToStop text) (More t ts) = tt
  head_forward once k n (head.ToBegin way layout controls work) ts =
      with_forward (lower_all NoPure ForUse k ts) (begin_code way layout controls (work_code k work)) (all_forward NoPure ForUse k ts)
      (begin_forward way layout controls (work_code k work) (lower_all NoPure ForUse k ts).value (work_forward k work))
  head_forward once k n (head.ToTransfer rest) ts = tt
  head_forward once k n (head.ToRepeat items rest) ts = tt
  head_forward once k n (head.ToTurn items p left by given rest) ts = tt
  head_forward once k n head.ToFinish ts = tt
  head_forward once k n (head.ToAuxiliary which controls) ts =
      with_forward (lower_all NoPure ForUse k ts) (auxiliary_code which controls) (all_forward NoPure ForUse k ts) (auxiliary_forward which controls (lower_all NoPure ForUse k ts).value)
  head_forward once k n head.ToEnd NoMore = (refl, tt)
  head_forward once k n head.ToEnd (More t ts) = tt
