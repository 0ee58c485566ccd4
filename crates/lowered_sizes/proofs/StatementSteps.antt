-- Each node of a statement as it is read takes five steps at most.
use Rattle.std.specs.Prelude.{ℕ, suc, ◌+◌, ◌*◌, ◌≤◌, Bool, true, false, List, [], ◌∷◌, length, Option, Some, None, if◌then◌else◌}
use Rattle.std.proofs.Common.{arith}
use Rattle.std.proofs.lemmas.List.{length-append, length-map}
use Rattle.lowering.specs.l_core.f_tree.Values.{Bytes, IsLabel}
use Rattle.lowering.specs.l_core.f_tree.Terms.{Term, Val, Terms, NoMore, More, any_refers}
use Rattle.lowering.specs.l_core.f_tree.Facts as work
use Rattle.lowering.specs.l_core.f_tree.Facts.{Direction, Layout, Controls, AuxiliaryKind, Work, Done, Head, ToSet, ToSetLabel, ToGo, ToPick, ToGoAssigned, ToGoBySign, ToGuard, ToEnterArm, ToLoop, ToTestLoop, ToCall, ToReturn, ToStop, ToBegin, ToAuxiliary, ToEnd, Form, Passes, On}
use Rattle.lowering.specs.l_core.f_tree.Step.{contains}
use Rattle.lowering.specs.l_core.Pures.{Pure, Pures, NoPure, AndPure}
use Rattle.lowering.specs.l_core.Steps.{Takes, Step, Jump, Way, Acts}
use Rattle.lowering.specs.Expressions.{Purpose, ForUse, ForCall, ForLater, Lowered, ahead, lower, lower_all}
use Rattle.lowering.specs.Statements.{behind_operands, with_operands, put_code, put_label_code, select_code, each_once, jump_by_code, sign_code, unless_code, guard_code, loop_operands, test_by, loop_test, loop_code, label_written, labels_written, hides_labels, call_steps, call_code, back_code, item_purpose, item_code, work_code, begin_code, auxiliary_code, form_code, head_code}
use Rattle.lowering.specs.Units.{listed, steps_of}
use Rattle.lowered_sizes.specs.ReadNodes.{term_nodes, terms_nodes, job_nodes, work_nodes, form_nodes, head_nodes}
use Rattle.lowered_sizes.proofs.ExpressionSteps.{and_size, lower_size, all_size}

-- how many steps there are, if any
abbrev count : Option (List Step) → ℕ
count x = length (steps_of x)

-- ## What is done with operands

behind_size : (steps : List Step) (more : Option (List Step)) → count (behind_operands steps more) ≤ length steps + count more
unfolding behind_operands steps_of
behind_size steps None = omega arith
behind_size steps (Some more) = let whole = length-append steps more in omega (arith, whole)

with_size : (l : Lowered Pures) (close : Pures → Option (List Step)) (t m : ℕ) → length l.steps ≤ 3 * t → ((ps : Pures) → count (close ps) ≤ m) → count (with_operands l close) ≤ 3 * t + m
unfolding with_operands
with_size l close t m h each =
    let whole = behind_size l.steps (close l.value) in
    let last = each l.value in
    omega (arith, whole, last, h)

put_size : (ps : Pures) → count (put_code ps) ≤ 1
unfolding put_code steps_of
put_size (AndPure p (AndPure place NoPure)) = omega arith
put_size ps = omega arith

put_label_size : (label : ℕ) (ps : Pures) → count (put_label_code label ps) ≤ 1
unfolding put_label_code steps_of
put_label_size label (AndPure place NoPure) = omega arith
put_label_size label ps = omega arith

select_size : (labels : List ℕ) (ps : Pures) → count (select_code labels ps) ≤ 1 + length labels
unfolding select_code steps_of
select_size labels (AndPure p NoPure) = let many = length-map labels Jump in omega (arith, many)
select_size labels ps = omega arith

once_size : (labels : List ℕ) → length (each_once labels) ≤ length labels
unfolding each_once
once_size [] = omega arith
once_size (l ∷ ls) = by (contains ls l) (once_size ls)
  where
    by : (b : Bool) → length (each_once ls) ≤ length ls → length (if b then each_once ls else l ∷ each_once ls) ≤ suc (length ls)
    by true more = omega (arith, more)
    by false more = omega (arith, more)

jump_by_size : (labels : List ℕ) (ps : Pures) → count (jump_by_code labels ps) ≤ 1 + length labels
unfolding jump_by_code steps_of
jump_by_size labels (AndPure place NoPure) =
    let many = length-map (each_once labels) Jump in
    let fewer = once_size labels in
    omega (arith, many, fewer)
jump_by_size labels ps = omega arith

sign_size : (below even above : ℕ) (ps : Pures) → count (sign_code below even above ps) ≤ 5
unfolding sign_code steps_of
sign_size below even above (AndPure p NoPure) = omega arith
sign_size below even above ps = omega arith

unless_size : (n : ℕ) (under : List Step) (ps : Pures) → count (unless_code n under ps) ≤ suc (length under)
unfolding unless_code steps_of
unless_size n under (AndPure p NoPure) = omega arith
unless_size n under ps = omega arith

guard_size : (l : Lowered Pures) (under : Option (List Step)) (t : ℕ) → length l.steps ≤ 3 * t → count (guard_code l under) ≤ 3 * t + suc (count under)
unfolding guard_code steps_of
guard_size l None t h = omega arith
guard_size l (Some under) t h = with_size l (unless_code (length under) under) t (suc (length under)) h (unless_size (length under) under)

test_size : (once : Bool) (test : Pure) (n : ℕ) → length (loop_test once test n) ≤ 1
unfolding loop_test
test_size true test n = omega arith
test_size false test n = omega arith

loop_size : (once : Bool) (n : ℕ) (ps : Pures) → count (loop_code once n ps) ≤ 2
unfolding loop_code steps_of
loop_size once n (AndPure x (AndPure first (AndPure limit (AndPure by NoPure)))) = let test = test_size once (test_by x limit by) n in omega (arith, test)
loop_size once n ps = omega arith

label_size : (t : Term) → length (label_written t) ≤ term_nodes t
unfolding label_written term_nodes
label_size (Val (IsLabel l)) = omega arith
label_size t = omega arith

labels_size : (ts : Terms) → length (labels_written ts) ≤ terms_nodes ts
unfolding labels_written terms_nodes
labels_size NoMore = omega arith
labels_size (More t ts) =
    let whole = length-append (label_written t) (labels_written ts) in
    let one = label_size t in
    let more = labels_size ts in
    omega (arith, whole, one, more)

-- a way for each label that is written
steps_size : (k : ℕ) (name : Bytes) (labels : List ℕ) (ps : Pures) → length (call_steps k name labels ps) ≤ 2 + length labels
unfolding call_steps
steps_size k name [] ps = omega arith
steps_size k name (l ∷ labels) ps = let many = length-map (l ∷ labels) Way in omega (arith, many)

unless_hidden : (hidden : Bool) (steps : List Step) (m : ℕ) → length steps ≤ m → count (if hidden then None else Some steps) ≤ m
unfolding steps_of
unless_hidden true steps m le = omega arith
unless_hidden false steps m le = le

call_size : (k : ℕ) (name : Bytes) (operands : Terms) (ps : Pures) → count (call_code k name operands ps) ≤ 2 + terms_nodes operands
unfolding call_code
call_size k name operands ps =
    let steps = steps_size k name (labels_written operands) ps in
    let labels = labels_size operands in
    unless_hidden (hides_labels operands) (call_steps k name (labels_written operands) ps) (2 + terms_nodes operands) (omega (arith, steps, labels))

back_size : (ps : Pures) → count (back_code ps) ≤ 1
unfolding back_code steps_of
back_size NoPure = omega arith
back_size (AndPure p NoPure) = omega arith
back_size ps = omega arith

auxiliary_size : (which : AuxiliaryKind) (controls : Controls) (ps : Pures) → count (auxiliary_code which controls ps) ≤ 1
unfolding auxiliary_code steps_of
auxiliary_size which controls ps = omega arith

-- ## Loops

operands_size : (k : ℕ) (ts : Terms) → length (loop_operands k ts).steps ≤ 3 * terms_nodes ts
unfolding loop_operands terms_nodes
operands_size k (More x (More first bounds)) =
    and_size (lower NoPure ForLater k x) _ (term_nodes x) (term_nodes first + terms_nodes bounds) (lower_size NoPure ForLater k x)
    (λ n. and_size (lower NoPure (ahead ForUse (any_refers bounds)) n first) _ (term_nodes first) (terms_nodes bounds) (lower_size NoPure (ahead ForUse (any_refers bounds)) n first) (λ n'. all_size NoPure ForLater n' bounds))
operands_size k ts = omega arith

-- ## Items

item_size : (k : ℕ) (t : Term) (more : Option (List Step)) (n : ℕ) → count more ≤ 5 * n → count (item_code k t more) ≤ 5 * (suc (term_nodes t) + n)
unfolding item_code steps_of terms_nodes
item_size k t None n h = omega arith
item_size k t (Some more) n h =
    let own = all_size NoPure (item_purpose t) k (More t NoMore) in
    let taken = Acts Takes (lower_all NoPure (item_purpose t) k (More t NoMore)).value (length more) ∷ more in
    let whole = length-append (lower_all NoPure (item_purpose t) k (More t NoMore)).steps taken in
    omega (arith, own, whole, h)

work_size : (k : ℕ) (w : Work) → count (work_code k w) ≤ 5 * work_nodes w
unfolding work_code steps_of work_nodes job_nodes
work_size k Done = omega arith
work_size k (work.Before (work.Item t) later) = item_size k t (work_code k later) (work_nodes later) (work_size k later)
work_size k (work.Before (work.Repeated items control) later) = omega arith
work_size k (work.Before (work.Turn items p left by given) later) = omega arith

begin_size : (way : Direction) (layout : Layout) (controls : Controls) (items : Option (List Step)) (ps : Pures) → count (begin_code way layout controls items ps) ≤ suc (count items)
unfolding begin_code steps_of
begin_size way layout controls None ps = omega arith
begin_size way layout controls (Some items) ps = omega arith

-- ## Forms

-- operands, each taken once
used : (k : ℕ) (purpose : Purpose) (ts : Terms) (close : Pures → Option (List Step)) (m : ℕ) → ((ps : Pures) → count (close ps) ≤ m) → count (with_operands (lower_all NoPure purpose k ts) close) ≤ 3 * terms_nodes ts + m
used k purpose ts close m each = with_size (lower_all NoPure purpose k ts) close (terms_nodes ts) m (all_size NoPure purpose k ts) each

within : (x t m h : ℕ) → x ≤ 3 * t + m → m ≤ 5 * suc h → x ≤ 5 * suc (h + t)
within x t m h one two = omega (arith, one, two)

-- where the operands have steps of their own once more, at most one for each node
within_more : (x t m h : ℕ) → x ≤ 3 * t + (m + t) → m ≤ 5 * suc h → x ≤ 5 * suc (h + t)
within_more x t m h one two = omega (arith, one, two)

mutual
  unfolding form_code head_code form_nodes head_nodes steps_of terms_nodes

  pub form_size : (once : Bool) (k n : ℕ) (form : Form) → count (form_code once k n form) ≤ 5 * form_nodes form
  form_size once k n Passes = omega arith
  form_size once k n (On head operands) = head_size once k n head operands

  head_size : (once : Bool) (k n : ℕ) (head : Head) (ts : Terms) → count (head_code once k n head ts) ≤ 5 * suc (head_nodes head + terms_nodes ts)
  head_size once k n ToSet ts = within _ (terms_nodes ts) 1 0 (used k ForUse ts put_code 1 put_size) (omega arith)
  head_size once k n (ToSetLabel label) ts = within _ (terms_nodes ts) 1 0 (used k ForUse ts (put_label_code label) 1 (put_label_size label)) (omega arith)
  head_size once k n (ToGo label) NoMore = omega arith
  head_size once k n (ToPick labels) ts = within _ (terms_nodes ts) (1 + length labels) (length labels) (used k ForUse ts (select_code labels) (1 + length labels) (select_size labels)) (omega arith)
  head_size once k n (ToGoAssigned labels) ts = within _ (terms_nodes ts) (1 + length labels) (length labels) (used k ForUse ts (jump_by_code labels) (1 + length labels) (jump_by_size labels)) (omega arith)
  head_size once k n (ToGoBySign below even above) ts = within _ (terms_nodes ts) 5 0 (used k ForLater ts (sign_code below even above) 5 (sign_size below even above)) (omega arith)
  head_size once k n (ToGuard form) ts =
      let under = form_size once k 0 form in
      within _ (terms_nodes ts) (suc (count (form_code once k 0 form))) (form_nodes form) (guard_size (lower_all NoPure ForUse k ts) (form_code once k 0 form) (terms_nodes ts) (all_size NoPure ForUse k ts)) (omega (arith, under))
  head_size once k n ToEnterArm ts = within _ (terms_nodes ts) 1 0 (used k ForUse ts (unless_code n []) 1 (unless_size n [])) (omega arith)
  head_size once k n (ToLoop label) ts = within _ (terms_nodes ts) 2 0 (with_size (loop_operands k ts) (loop_code once n) (terms_nodes ts) 2 (operands_size k ts) (loop_size once n)) (omega arith)
  head_size once k n (ToTestLoop label) ts = within _ (terms_nodes ts) 1 0 (used k ForUse ts (unless_code n []) 1 (unless_size n [])) (omega arith)
  head_size once k n (ToCall name) ts = within_more _ (terms_nodes ts) 2 0 (used k ForCall ts (call_code k name ts) (2 + terms_nodes ts) (call_size k name ts)) (omega arith)
  head_size once k n ToReturn ts = within _ (terms_nodes ts) 1 0 (used k ForUse ts back_code 1 back_size) (omega arith)
  head_size once k n (ToStop text) NoMore = omega arith
  head_size once k n (ToBegin way layout controls items) ts =
      let listed = work_size k items in
      within _ (terms_nodes ts) (suc (count (work_code k items))) (work_nodes items)
      (used k ForUse ts (begin_code way layout controls (work_code k items)) (suc (count (work_code k items))) (begin_size way layout controls (work_code k items))) (omega (arith, listed))
  head_size once k n (ToAuxiliary which controls) ts = within _ (terms_nodes ts) 1 0 (used k ForUse ts (auxiliary_code which controls) 1 (auxiliary_size which controls)) (omega arith)
  head_size once k n ToEnd NoMore = omega arith
  head_size once k n head ts = omega arith

-- ## GO TO by a variable without its labels

more : (x n m : ℕ) → x ≤ n → x ≤ n + m
more x n m h = omega (arith, h)

-- it takes a step for each label to which it may go, and all else as many as are written
pub listed_size : (once : Bool) (k n : ℕ) (labels : List ℕ) (form : Form) → count (form_code once k n (listed labels form)) ≤ 5 * form_nodes form + length labels
unfolding listed form_code head_code form_nodes head_nodes
listed_size once k n labels (On (ToGoAssigned []) ts) = let own = used k ForUse ts (jump_by_code labels) (1 + length labels) (jump_by_size labels) in omega (arith, own)
listed_size once k n labels (On (ToGuard form) ts) =
    let under = listed_size once k 0 labels form in
    let whole = guard_size (lower_all NoPure ForUse k ts) (form_code once k 0 (listed labels form)) (terms_nodes ts) (all_size NoPure ForUse k ts) in
    omega (arith, under, whole)
listed_size once k n labels form = more (count (form_code once k n form)) (5 * form_nodes form) (length labels) (form_size once k n form)
