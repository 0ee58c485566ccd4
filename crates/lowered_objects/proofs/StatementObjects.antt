-- Each node of a statement as it is read keeps one temporary at most, and passes three values at most.
use Rattle.std.specs.Prelude.{ℕ, suc, ◌+◌, ◌*◌, ◌≤◌, Bool, true, false, List, [], ◌∷◌, ◌++◌, length, map, Option, Some, None, if◌then◌else◌}
use Rattle.std.proofs.Common.{arith}
use Rattle.lowered_sizes.specs.l_core.f_tree.Values.{Bytes}
use Rattle.lowered_sizes.specs.l_core.f_tree.Terms.{Term, Terms, NoMore, More, any_refers}
use Rattle.lowered_sizes.specs.l_core.f_tree.Facts as work
use Rattle.lowered_sizes.specs.l_core.f_tree.Facts.{Direction, Layout, Controls, AuxiliaryKind, Work, Done, Head, ToSet, ToSetLabel, ToGo, ToPick, ToGoAssigned, ToGoBySign, ToGuard, ToEnterArm, ToLoop, ToTestLoop, ToCall, ToReturn, ToStop, ToBegin, ToAuxiliary, ToEnd, Form, Passes, On}
use Rattle.lowered_sizes.specs.l_core.Pures.{Pure, Pures, NoPure, AndPure}
use Rattle.lowered_sizes.specs.l_core.Steps.{Takes, Step, Put, Jump, Way, Back, Halt, Acts}
use Rattle.lowered_sizes.specs.lowering.Expressions.{ForUse, ForCall, ForLater, Lowered, ahead, lower, lower_all}
use Rattle.lowered_sizes.specs.lowering.Statements.{behind_operands, with_operands, put_code, put_label_code, select_code, each_once, jump_by_code, sign_code, unless_code, guard_code, loop_operands, test_by, loop_test, loop_code, labels_written, hides_labels, call_steps, call_code, back_code, item_purpose, item_code, work_code, begin_code, auxiliary_code, form_code, head_code}
use Rattle.lowered_sizes.specs.lowering.Units.{listed, steps_of}
use Rattle.lowered_sizes.specs.ReadNodes.{term_nodes, terms_nodes, job_nodes, work_nodes, form_nodes, head_nodes}
use Rattle.unit_translation.specs.UnitContents.{temporaries_kept}
use Rattle.lowered_objects.specs.FewObjects.{form_text, head_text, string_bytes, strings_bytes}
use Rattle.lowered_objects.proofs.ExpressionObjects.{count, passed, all_passed, Has, has_none, has_more, has_both, FewAll, and_few, lower_few, all_few}

-- what so many nodes and a text of such a length need, above the temporaries that are kept already
abbrev pub Needs : ℕ → ℕ → ℕ → Option (List Step) → Type 0
Needs k n t x = Has (k + n) (3 * n) (n + t) (steps_of x)

-- steps that keep nothing and pass nothing
abbrev IsIdle : Option (List Step) → Type 0
IsIdle x = Has 0 0 0 (steps_of x)

nothing_needed : (k n t : ℕ) → Needs k n t None
unfolding steps_of
nothing_needed k n t = has_more 0 (k + n) 0 (3 * n) 0 (n + t) [] (omega arith) (omega arith) (omega arith) (has_none 0)

none_needed : (k : ℕ) → Needs k 0 0 (Some [])
unfolding steps_of
none_needed k = has_more 0 (k + 0) 0 (3 * 0) 0 (0 + 0) [] (omega arith) (omega arith) (omega arith) (has_none 0)

-- ## What is done with operands

operands_has : (k n : ℕ) (l : Lowered Pures) → FewAll k n l → Has (k + n) (all_passed l.steps) 0 l.steps
operands_has k n l h = let bytes = h.bytes in record { kept = h.kept; values = omega arith; bytes = bytes }

behind_needs : (k n m t : ℕ) (l : Lowered Pures) (more : Option (List Step)) → FewAll k n l → Has (k + (n + m)) (count l.value + 3 * m) (m + t) (steps_of more) → Needs k (n + m) t (behind_operands l.steps more)
unfolding behind_operands steps_of
behind_needs k n m t l None h g = has_more 0 (k + (n + m)) 0 (3 * (n + m)) 0 (n + m + t) [] (omega arith) (omega arith) (omega arith) (has_none 0)
behind_needs k n m t l (Some more) h g =
    let values = h.values in
    has_more (k + (n + m)) (k + (n + m)) (all_passed l.steps + (count l.value + 3 * m)) (3 * (n + m)) (0 + (m + t)) (n + m + t) (l.steps ++ more) (omega arith) (omega (arith, values)) (omega arith)
    (has_both (k + (n + m)) (all_passed l.steps) (count l.value + 3 * m) 0 (m + t) l.steps more
    (has_more (k + n) (k + (n + m)) (all_passed l.steps) (all_passed l.steps) 0 0 l.steps (omega arith) (omega arith) (omega arith) (operands_has k n l h)) g)

with_needs : (k n m t : ℕ) (l : Lowered Pures) (close : Pures → Option (List Step)) → FewAll k n l → ((ps : Pures) → Has (k + (n + m)) (count ps + 3 * m) (m + t) (steps_of (close ps))) → Needs k (n + m) t (with_operands l close)
unfolding with_operands
with_needs k n m t l close h each = behind_needs k n m t l (close l.value) h (each l.value)

-- where what is done keeps nothing and passes nothing
idly : (k n h : ℕ) (l : Lowered Pures) (close : Pures → Option (List Step)) → FewAll k n l → ((ps : Pures) → IsIdle (close ps)) → Needs k (suc (h + n)) 0 (with_operands l close)
idly k n h l close few each =
    has_more (k + (n + 0)) (k + suc (h + n)) (3 * (n + 0)) (3 * suc (h + n)) (n + 0 + 0) (suc (h + n) + 0) (steps_of (with_operands l close)) (omega arith) (omega arith) (omega arith)
    (with_needs k n 0 0 l close few (λ ps. has_more 0 (k + (n + 0)) 0 (count ps + 3 * 0) 0 (0 + 0) (steps_of (close ps)) (omega arith) (omega arith) (omega arith) (each ps)))

idle_ahead : (st : Step) (steps : List Step) → Has 0 0 0 (st ∷ []) → Has 0 0 0 steps → Has 0 0 0 (st ∷ steps)
idle_ahead st steps one more = has_both 0 0 0 0 0 (st ∷ []) steps one more

jumps_idle : (labels : List ℕ) → Has 0 0 0 (map Jump labels)
unfolding temporaries_kept all_passed passed strings_bytes string_bytes
jumps_idle [] = has_none 0
jumps_idle (l ∷ ls) = idle_ahead (Jump l) (map Jump ls) (record { kept = omega arith; values = omega arith; bytes = omega arith }) (jumps_idle ls)

put_idle : (ps : Pures) → IsIdle (put_code ps)
unfolding put_code steps_of temporaries_kept all_passed passed strings_bytes string_bytes
put_idle (AndPure p (AndPure place NoPure)) = record { kept = omega arith; values = omega arith; bytes = omega arith }
put_idle ps = has_none 0

put_label_idle : (label : ℕ) (ps : Pures) → IsIdle (put_label_code label ps)
unfolding put_label_code steps_of temporaries_kept all_passed passed strings_bytes string_bytes
put_label_idle label (AndPure place NoPure) = record { kept = omega arith; values = omega arith; bytes = omega arith }
put_label_idle label ps = has_none 0

select_idle : (labels : List ℕ) (ps : Pures) → IsIdle (select_code labels ps)
unfolding select_code steps_of temporaries_kept all_passed passed strings_bytes string_bytes
select_idle labels (AndPure p NoPure) = idle_ahead _ (map Jump labels) (record { kept = omega arith; values = omega arith; bytes = omega arith }) (jumps_idle labels)
select_idle labels ps = has_none 0

jump_by_idle : (labels : List ℕ) (ps : Pures) → IsIdle (jump_by_code labels ps)
unfolding jump_by_code steps_of temporaries_kept all_passed passed strings_bytes string_bytes
jump_by_idle labels (AndPure place NoPure) = idle_ahead _ (map Jump (each_once labels)) (record { kept = omega arith; values = omega arith; bytes = omega arith }) (jumps_idle (each_once labels))
jump_by_idle labels ps = has_none 0

sign_idle : (below even above : ℕ) (ps : Pures) → IsIdle (sign_code below even above ps)
unfolding sign_code steps_of temporaries_kept all_passed passed strings_bytes string_bytes
sign_idle below even above (AndPure p NoPure) = record { kept = omega arith; values = omega arith; bytes = omega arith }
sign_idle below even above ps = has_none 0

unless_idle : (n : ℕ) (ps : Pures) → IsIdle (unless_code n [] ps)
unfolding unless_code steps_of temporaries_kept all_passed passed strings_bytes string_bytes
unless_idle n (AndPure p NoPure) = record { kept = omega arith; values = omega arith; bytes = omega arith }
unless_idle n ps = has_none 0

test_idle : (once : Bool) (p q test : Pure) (n : ℕ) → Has 0 0 0 (Put p q ∷ loop_test once test n)
unfolding loop_test temporaries_kept all_passed passed strings_bytes string_bytes
test_idle true p q test n = record { kept = omega arith; values = omega arith; bytes = omega arith }
test_idle false p q test n = record { kept = omega arith; values = omega arith; bytes = omega arith }

loop_idle : (once : Bool) (n : ℕ) (ps : Pures) → IsIdle (loop_code once n ps)
unfolding loop_code steps_of
loop_idle once n (AndPure x (AndPure first (AndPure limit (AndPure by NoPure)))) = test_idle once x first (test_by x limit by) n
loop_idle once n ps = has_none 0

back_idle : (ps : Pures) → IsIdle (back_code ps)
unfolding back_code steps_of temporaries_kept all_passed passed strings_bytes string_bytes
back_idle NoPure = record { kept = omega arith; values = omega arith; bytes = omega arith }
back_idle (AndPure p NoPure) = record { kept = omega arith; values = omega arith; bytes = omega arith }
back_idle ps = has_none 0

auxiliary_idle : (which : AuxiliaryKind) (controls : Controls) (ps : Pures) → IsIdle (auxiliary_code which controls ps)
unfolding auxiliary_code steps_of temporaries_kept all_passed passed strings_bytes string_bytes
auxiliary_idle which controls ps = record { kept = omega arith; values = omega arith; bytes = omega arith }

-- ## Calls, conditions and loops

ways_idle : (labels : List ℕ) → Has 0 0 0 (map Way labels)
unfolding temporaries_kept all_passed passed strings_bytes string_bytes
ways_idle [] = has_none 0
ways_idle (label ∷ labels) = idle_ahead (Way label) (map Way labels) (record { kept = omega arith; values = omega arith; bytes = omega arith }) (ways_idle labels)

-- the call of a subroutine to which labels are passed keeps the number of its alternate return
steps_have : (k : ℕ) (name : Bytes) (labels : List ℕ) (ps : Pures) → Has (suc k) (count ps) 0 (call_steps k name labels ps)
unfolding call_steps temporaries_kept all_passed passed strings_bytes string_bytes
steps_have k name [] ps = record { kept = omega arith; values = omega arith; bytes = omega arith }
steps_have k name (label ∷ labels) ps =
    let ways = ways_idle (label ∷ labels) in
    let kept = ways.kept in
    let values = ways.values in
    let bytes = ways.bytes in
    record { kept = omega (arith, kept); values = omega (arith, values); bytes = omega (arith, bytes) }

shown_has : (hidden : Bool) (top most : ℕ) (steps : List Step) → Has top most 0 steps → Has top most 0 (steps_of (if hidden then None else Some steps))
unfolding steps_of
shown_has true top most steps h = has_more 0 top 0 most 0 0 [] (omega arith) (omega arith) (omega arith) (has_none 0)
shown_has false top most steps h = h

call_has : (k : ℕ) (name : Bytes) (operands : Terms) (ps : Pures) → Has (suc k) (count ps) 0 (steps_of (call_code k name operands ps))
unfolding call_code
call_has k name operands ps = shown_has (hides_labels operands) (suc k) (count ps) (call_steps k name (labels_written operands) ps) (steps_have k name (labels_written operands) ps)

called : (k n : ℕ) (name : Bytes) (operands : Terms) (l : Lowered Pures) → FewAll k n l → Needs k (suc (0 + n)) 0 (with_operands l (call_code k name operands))
called k n name operands l few =
    has_more (k + (n + 1)) (k + suc (0 + n)) (3 * (n + 1)) (3 * suc (0 + n)) (n + 1 + 0) (suc (0 + n) + 0) (steps_of (with_operands l (call_code k name operands))) (omega arith) (omega arith) (omega arith)
    (with_needs k n 1 0 l (call_code k name operands) few
    (λ ps. has_more (suc k) (k + (n + 1)) (count ps) (count ps + 3 * 1) 0 (1 + 0) (steps_of (call_code k name operands ps)) (omega arith) (omega arith) (omega arith) (call_has k name operands ps)))

unless_has : (top most long n : ℕ) (under : List Step) (ps : Pures) → Has top most long under → Has top most long (steps_of (unless_code n under ps))
unfolding unless_code steps_of temporaries_kept all_passed passed strings_bytes string_bytes
unless_has top most long n under (AndPure p NoPure) h = let values = h.values in let bytes = h.bytes in record { kept = h.kept; values = omega (arith, values); bytes = omega (arith, bytes) }
unless_has top most long n under ps h = has_more 0 top 0 most 0 long [] (omega arith) (omega arith) (omega arith) (has_none 0)

guard_needs : (k n m t : ℕ) (l : Lowered Pures) (under : Option (List Step)) → FewAll k n l → Needs k m t under → Needs k (suc (m + n)) t (guard_code l under)
unfolding guard_code steps_of
guard_needs k n m t l None few h = nothing_needed k (suc (m + n)) t
guard_needs k n m t l (Some under) few h =
    has_more (k + (n + m)) (k + suc (m + n)) (3 * (n + m)) (3 * suc (m + n)) (n + m + t) (suc (m + n) + t) (steps_of (with_operands l (unless_code (length under) under))) (omega arith) (omega arith) (omega arith)
    (with_needs k n m t l (unless_code (length under) under) few
    (λ ps. has_more (k + m) (k + (n + m)) (3 * m) (count ps + 3 * m) (m + t) (m + t) (steps_of (unless_code (length under) under ps)) (omega arith) (omega arith) (omega arith)
    (unless_has (k + m) (3 * m) (m + t) (length under) under ps h)))

pub loop_few : (k : ℕ) (ts : Terms) → FewAll k (terms_nodes ts) (loop_operands k ts)
unfolding loop_operands terms_nodes count temporaries_kept all_passed strings_bytes
loop_few k (More x (More first bounds)) =
    and_few k (lower NoPure ForLater k x) _ (term_nodes x) (term_nodes first + terms_nodes bounds) (lower_few NoPure ForLater k x)
    (λ n. and_few n (lower NoPure (ahead ForUse (any_refers bounds)) n first) _ (term_nodes first) (terms_nodes bounds) (lower_few NoPure (ahead ForUse (any_refers bounds)) n first) (λ n'. all_few NoPure ForLater n' bounds))
loop_few k ts = record { kept = omega arith; free = omega arith; values = omega arith; bytes = omega arith }

-- ## Items

takes_has : (ps : Pures) (m : ℕ) → Has 0 3 0 (Acts Takes ps m ∷ [])
unfolding temporaries_kept all_passed passed strings_bytes string_bytes
takes_has ps m = record { kept = omega arith; values = omega arith; bytes = omega arith }

item_needs : (k : ℕ) (t : Term) (more : Option (List Step)) (n : ℕ) → Needs k n 0 more → Needs k (suc (term_nodes t) + n) 0 (item_code k t more)
unfolding item_code steps_of terms_nodes
item_needs k t None n h = nothing_needed k (suc (term_nodes t) + n) 0
item_needs k t (Some more) n h =
    let few = all_few NoPure (item_purpose t) k (More t NoMore) in
    let l = lower_all NoPure (item_purpose t) k (More t NoMore) in
    let top = k + (suc (term_nodes t) + n) in
    let kept : temporaries_kept l.steps ≤ k + (term_nodes t + 0) = few.kept in
    let values : all_passed l.steps + count l.value ≤ 2 * (term_nodes t + 0) = few.values in
    let own : Has top (2 * term_nodes t) 0 l.steps = record { kept = omega (arith, kept); values = omega (arith, values); bytes = few.bytes } in
    let taken : Has top 3 0 (Acts Takes l.value (length more) ∷ []) = has_more 0 top 3 3 0 0 (Acts Takes l.value (length more) ∷ []) (omega arith) (omega arith) (omega arith) (takes_has l.value (length more)) in
    let later : Has top (3 * n) (n + 0) more = has_more (k + n) top (3 * n) (3 * n) (n + 0) (n + 0) more (omega arith) (omega arith) (omega arith) h in
    has_more top top (2 * term_nodes t + (3 + 3 * n)) (3 * (suc (term_nodes t) + n)) (0 + (0 + (n + 0))) (suc (term_nodes t) + n + 0) (l.steps ++ Acts Takes l.value (length more) ∷ more) (omega arith) (omega arith) (omega arith)
    (has_both top (2 * term_nodes t) (3 + 3 * n) 0 (0 + (n + 0)) l.steps (Acts Takes l.value (length more) ∷ more) own
    (has_both top 3 (3 * n) 0 (n + 0) (Acts Takes l.value (length more) ∷ []) more taken later))

finishes_has : (k : ℕ) → Needs k 1 0 (work_code k Done)
unfolding work_code steps_of temporaries_kept all_passed passed strings_bytes string_bytes
finishes_has k = record { kept = omega arith; values = omega arith; bytes = omega arith }

work_needs : (k : ℕ) (items : Work) → Needs k (work_nodes items) 0 (work_code k items)
unfolding work_code work_nodes job_nodes
work_needs k Done = finishes_has k
work_needs k (work.Before (work.Item t) later) = item_needs k t (work_code k later) (work_nodes later) (work_needs k later)
work_needs k (work.Before (work.Repeated items control) later) = nothing_needed k _ 0
work_needs k (work.Before (work.Turn items p left by given) later) = nothing_needed k _ 0

begin_has : (top most long : ℕ) (way : Direction) (layout : Layout) (controls : Controls) (items : Option (List Step)) (ps : Pures) → Has top most long (steps_of items) → Has top most long (steps_of (begin_code way layout controls items ps))
unfolding begin_code steps_of temporaries_kept all_passed passed strings_bytes string_bytes
begin_has top most long way layout controls None ps h = h
begin_has top most long way layout controls (Some items) ps h = let values = h.values in let bytes = h.bytes in record { kept = h.kept; values = omega (arith, values); bytes = omega (arith, bytes) }

begun : (k n : ℕ) (way : Direction) (layout : Layout) (controls : Controls) (items : Work) (l : Lowered Pures) → FewAll k n l → Needs k (suc (work_nodes items + n)) 0 (with_operands l (begin_code way layout controls (work_code k items)))
begun k n way layout controls items l few =
    let m = work_nodes items in
    has_more (k + (n + m)) (k + suc (m + n)) (3 * (n + m)) (3 * suc (m + n)) (n + m + 0) (suc (m + n) + 0) (steps_of (with_operands l (begin_code way layout controls (work_code k items)))) (omega arith) (omega arith) (omega arith)
    (with_needs k n m 0 l (begin_code way layout controls (work_code k items)) few
    (λ ps. has_more (k + m) (k + (n + m)) (3 * m) (count ps + 3 * m) (m + 0) (m + 0) (steps_of (begin_code way layout controls (work_code k items) ps)) (omega arith) (omega arith) (omega arith)
    (begin_has (k + m) (3 * m) (m + 0) way layout controls (work_code k items) ps (work_needs k items))))

-- ## Forms

step_needs : (k h t : ℕ) (st : Step) → Has 0 0 (suc t) (st ∷ []) → Needs k (suc h) t (Some (st ∷ []))
unfolding steps_of
step_needs k h t st one = has_more 0 (k + suc h) 0 (3 * suc h) (suc t) (suc h + t) (st ∷ []) (omega arith) (omega arith) (omega arith) one

mutual
  unfolding form_code head_code form_nodes head_nodes form_text head_text terms_nodes temporaries_kept all_passed passed strings_bytes string_bytes

  pub form_needs : (once : Bool) (k n : ℕ) (form : Form) → Needs k (form_nodes form) (form_text form) (form_code once k n form)
  form_needs once k n Passes = none_needed k
  form_needs once k n (On head operands) = head_needs once k n head operands

  head_needs : (once : Bool) (k n : ℕ) (head : Head) (ts : Terms) → Needs k (suc (head_nodes head + terms_nodes ts)) (head_text head) (head_code once k n head ts)
  head_needs once k n ToSet ts = idly k (terms_nodes ts) 0 _ put_code (all_few NoPure ForUse k ts) put_idle
  head_needs once k n (ToSetLabel label) ts = idly k (terms_nodes ts) 0 _ (put_label_code label) (all_few NoPure ForUse k ts) (put_label_idle label)
  head_needs once k n (ToGo label) NoMore = step_needs k 0 0 (Jump label) (record { kept = omega arith; values = omega arith; bytes = omega arith })
  head_needs once k n (ToPick labels) ts = idly k (terms_nodes ts) (length labels) _ (select_code labels) (all_few NoPure ForUse k ts) (select_idle labels)
  head_needs once k n (ToGoAssigned labels) ts = idly k (terms_nodes ts) (length labels) _ (jump_by_code labels) (all_few NoPure ForUse k ts) (jump_by_idle labels)
  head_needs once k n (ToGoBySign below even above) ts = idly k (terms_nodes ts) 0 _ (sign_code below even above) (all_few NoPure ForLater k ts) (sign_idle below even above)
  head_needs once k n (ToGuard form) ts = guard_needs k (terms_nodes ts) (form_nodes form) (form_text form) _ (form_code once k 0 form) (all_few NoPure ForUse k ts) (form_needs once k 0 form)
  head_needs once k n ToEnterArm ts = idly k (terms_nodes ts) 0 _ (unless_code n []) (all_few NoPure ForUse k ts) (unless_idle n)
  head_needs once k n (ToLoop label) ts = idly k (terms_nodes ts) 0 _ (loop_code once n) (loop_few k ts) (loop_idle once n)
  head_needs once k n (ToTestLoop label) ts = idly k (terms_nodes ts) 0 _ (unless_code n []) (all_few NoPure ForUse k ts) (unless_idle n)
  head_needs once k n (ToCall name) ts = called k (terms_nodes ts) name ts _ (all_few NoPure ForCall k ts)
  head_needs once k n ToReturn ts = idly k (terms_nodes ts) 0 _ back_code (all_few NoPure ForUse k ts) back_idle
  head_needs once k n (ToStop text) NoMore = step_needs k 0 (length text) (Halt text) (record { kept = omega arith; values = omega arith; bytes = omega arith })
  head_needs once k n (ToBegin way layout controls items) ts = begun k (terms_nodes ts) way layout controls items _ (all_few NoPure ForUse k ts)
  head_needs once k n (ToAuxiliary which controls) ts = idly k (terms_nodes ts) 0 _ (auxiliary_code which controls) (all_few NoPure ForUse k ts) (auxiliary_idle which controls)
  head_needs once k n ToEnd NoMore = step_needs k 0 0 Back (record { kept = omega arith; values = omega arith; bytes = omega arith })
  head_needs once k n head ts = nothing_needed k _ _

-- with labels for a GO TO by a variable that has none
pub listed_needs : (once : Bool) (k n : ℕ) (labels : List ℕ) (form : Form) → Needs k (form_nodes form) (form_text form) (form_code once k n (listed labels form))
unfolding form_code head_code form_nodes head_nodes form_text head_text terms_nodes listed
listed_needs once k n labels (On (ToGoAssigned []) ts) = idly k (terms_nodes ts) 0 _ (jump_by_code labels) (all_few NoPure ForUse k ts) (jump_by_idle labels)
listed_needs once k n labels (On (ToGuard form) ts) =
    guard_needs k (terms_nodes ts) (form_nodes form) (form_text form) _ (form_code once k 0 (listed labels form)) (all_few NoPure ForUse k ts) (listed_needs once k 0 labels form)
listed_needs once k n labels form = form_needs once k n form
