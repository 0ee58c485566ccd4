-- The code of a statement is its operands' steps and what closes them.
use Rattle.std.specs.Prelude.{◌≡◌, ℕ, suc, ◌+◌, Bool, true, false, List, [], ◌∷◌, ◌++◌, length, map, Option, Some, None, if◌then◌else◌}
use Rattle.std.proofs.Common.{refl, sym, ap, subst, true≢false, ◌∙◌}
use Rattle.fortran_laws.specs.f_tree.Values.{Bytes}
use Rattle.fortran_laws.specs.f_tree.Terms.{Term, Terms, NoMore, More}
use Rattle.fortran_laws.specs.f_tree.Facts as head
use Rattle.fortran_laws.specs.f_tree.Facts.{Direction, Layout, Controls, AuxiliaryKind, Item, Repeated, Turn, Work, Done, Before, Head, Form, Passes, On}
use Rattle.fortran_laws.specs.f_tree.Transfers.{next_of}
use Rattle.fortran_laws.specs.f_tree.Places.{terminal_of, arm_after}
use Rattle.fortran_laws.specs.f_tree.Step.{contains, assigned_in, labels_to_go}
use Rattle.lowering.specs.l_core.Pures.{Pures, NoPure, AndPure, Pure}
use Rattle.lowering.specs.l_core.Steps.{Starts, Takes, Finishes, Auxiliary, Step, Put, PutLabel, Unless, Jump, Select, JumpBy, Back, BackBy, Halt, Acts, Text}
use Rattle.lowering.specs.Expressions.{Purpose, ForUse, ForCall, ForLater, Lowered, plain, no_operand, lower_all}
use Rattle.lowering.specs.Statements.{behind_operands, with_operands, put_code, put_label_code, select_code, each_once, jump_by_code, sign_code, unless_code, guard_code, loop_operands, test_by, loop_test, loop_code, labels_written, hides_labels, call_steps, call_code, back_code, item_purpose, item_code, work_code, begin_code, auxiliary_code, form_code, head_code}
use Rattle.lowering.specs.Units.{loop_exit, listed, steps_of}
use Rattle.lowering_laws.specs.Midway.{InOrder, OfLoop}
use Rattle.lowering_laws.specs.Layer.{ends_of, IsFlat, IsNextArm, IsLoop, by_sign_steps, IsClosing, for_set, for_set_label, for_go, for_pick, for_go_assigned, for_go_by_sign, for_guard, for_arm, for_test, for_call, for_return, for_return_by, for_stop, for_end, for_begin, for_item, for_finish, for_auxiliary, IsCode, no_code, some_code, IsModeOf, for_loop}
use Rattle.lowering_laws.specs.Layout.{is_direct, is_direct_head, enters_arm}
use Rattle.lowering_laws.proofs.HeldLabels.{contains_once}

-- ## How long code is does not depend on how many steps a condition passes

same_length : (xs : List Step) (a b : Step) → length (xs ++ a ∷ []) ≡ length (xs ++ b ∷ [])
same_length [] a b = refl
same_length (x ∷ xs) a b = ap suc (same_length xs a b)

as_long : (xs : List Step) (c a b : Step) → length (xs ++ c ∷ a ∷ []) ≡ length (xs ++ c ∷ b ∷ [])
as_long [] c a b = refl
as_long (x ∷ xs) c a b = ap suc (as_long xs c a b)

unless_length : (steps : List Step) (n : ℕ) (ps : Pures) → length (steps_of (behind_operands steps (unless_code n [] ps))) ≡ length (steps_of (behind_operands steps (unless_code 0 [] ps)))
unfolding steps_of behind_operands unless_code
unless_length steps n NoPure = refl
unless_length steps n (AndPure p NoPure) = same_length steps (Unless p n) (Unless p 0)
unless_length steps n (AndPure p (AndPure q ps)) = refl

loop_length : (once : Bool) (steps : List Step) (n : ℕ) (ps : Pures) → length (steps_of (behind_operands steps (loop_code once n ps))) ≡ length (steps_of (behind_operands steps (loop_code once 0 ps)))
unfolding steps_of behind_operands loop_code loop_test
loop_length once steps n NoPure = refl
loop_length once steps n (AndPure x NoPure) = refl
loop_length once steps n (AndPure x (AndPure first NoPure)) = refl
loop_length once steps n (AndPure x (AndPure first (AndPure limit NoPure))) = refl
loop_length true steps n (AndPure x (AndPure first (AndPure limit (AndPure by NoPure)))) = refl
loop_length false steps n (AndPure x (AndPure first (AndPure limit (AndPure by NoPure)))) = as_long steps (Put x first) (Unless (test_by x limit by) n) (Unless (test_by x limit by) 0)
loop_length once steps n (AndPure x (AndPure first (AndPure limit (AndPure by (AndPure p ps))))) = refl

pub form_length : (once : Bool) (k n : ℕ) (form : Form) → length (steps_of (form_code once k n form)) ≡ length (steps_of (form_code once k 0 form))
unfolding form_code head_code with_operands
form_length once k n Passes = refl
form_length once k n (On head.ToSet ts) = refl
form_length once k n (On head.ToSetText ts) = refl
form_length once k n (On (head.ToSetLabel label) ts) = refl
form_length once k n (On (head.ToGo label) NoMore) = refl
form_length once k n (On (head.ToGo label) (More t ts)) = refl
form_length once k n (On (head.ToPick labels) ts) = refl
form_length once k n (On (head.ToGoAssigned labels) ts) = refl
form_length once k n (On (head.ToGoBySign below at above) ts) = refl
form_length once k n (On (head.ToGuard form) ts) = refl
form_length once k n (On head.ToEnterArm ts) = unless_length (lower_all NoPure ForUse k ts).steps n (lower_all NoPure ForUse k ts).value
form_length once k n (On (head.ToLoop label) ts) = loop_length once (loop_operands k ts).steps n (loop_operands k ts).value
form_length once k n (On (head.ToTestLoop label) ts) = unless_length (lower_all NoPure ForUse k ts).steps n (lower_all NoPure ForUse k ts).value
form_length once k n (On (head.ToCall name) ts) = refl
form_length once k n (On head.ToReturn ts) = refl
form_length once k n (On (head.ToStop text) NoMore) = refl
form_length once k n (On (head.ToStop text) (More t ts)) = refl
form_length once k n (On (head.ToBegin way layout controls work) ts) = refl
form_length once k n (On (head.ToTransfer rest) ts) = refl
form_length once k n (On (head.ToRepeat items rest) ts) = refl
form_length once k n (On (head.ToTurn items p left by given rest) ts) = refl
form_length once k n (On head.ToFinish ts) = refl
form_length once k n (On (head.ToAuxiliary which controls) ts) = refl
form_length once k n (On head.ToEnd NoMore) = refl
form_length once k n (On head.ToEnd (More t ts)) = refl

-- ## What closes the operands

-- the steps of operands, and what is behind them
record IsBehind (l : Lowered Pures) (closing : Option (List Step)) (code : List Step) : Type 0 where
  more : List Step
  is : closing ≡ Some more
  all : l.steps ++ more ≡ code

behind_by : (l : Lowered Pures) (x : Option (List Step)) (code : List Step) → behind_operands l.steps x ≡ Some code → IsBehind l x code
unfolding behind_operands
behind_by l None code e = absurd (cc)
behind_by l (Some more) code e = record { more = more; is = refl; all = (let all : l.steps ++ more ≡ code = cc in all) }

module _ (u : Text) (k : ℕ) (o : Option ℕ) where
  made : (head : Head) (ts : Terms) (purpose : Purpose) (closing code : List Step) → IsModeOf (InOrder purpose) head → IsClosing u k o head ts (lower_all NoPure purpose k ts).value closing → (lower_all NoPure purpose k ts).steps ++ closing ≡ code →
      IsCode u k o (On head ts) code
  made head ts purpose closing code modes closes all = subst (λ z. IsCode u k o (On head ts) z) all (some_code (InOrder purpose) modes closing closes)

  set_closes : (ts : Terms) (ps : Pures) (more : List Step) → put_code ps ≡ Some more → IsClosing u k o head.ToSet ts ps more
  unfolding put_code
  set_closes ts NoPure more e = absurd (cc)
  set_closes ts (AndPure p NoPure) more e = absurd (cc)
  set_closes ts (AndPure p (AndPure place NoPure)) more e = subst (λ z. IsClosing u k o head.ToSet ts (AndPure p (AndPure place NoPure)) z) (let all : Put place p ∷ [] ≡ more = cc in all) for_set
  set_closes ts (AndPure p (AndPure place (AndPure q ps))) more e = absurd (cc)

  set_label_closes : (label : ℕ) (ts : Terms) (ps : Pures) (more : List Step) → put_label_code label ps ≡ Some more → IsClosing u k o (head.ToSetLabel label) ts ps more
  unfolding put_label_code
  set_label_closes label ts NoPure more e = absurd (cc)
  set_label_closes label ts (AndPure p NoPure) more e = subst (λ z. IsClosing u k o (head.ToSetLabel label) ts (AndPure p NoPure) z) (let all : PutLabel p label ∷ [] ≡ more = cc in all) for_set_label
  set_label_closes label ts (AndPure p (AndPure q ps)) more e = absurd (cc)

  pick_closes : (labels : List ℕ) (ts : Terms) (ps : Pures) (more : List Step) → select_code labels ps ≡ Some more → IsClosing u k o (head.ToPick labels) ts ps more
  unfolding select_code
  pick_closes labels ts NoPure more e = absurd (cc)
  pick_closes labels ts (AndPure p NoPure) more e = subst (λ z. IsClosing u k o (head.ToPick labels) ts (AndPure p NoPure) z) (let all : Select p (length labels) ∷ map Jump labels ≡ more = cc in all) for_pick
  pick_closes labels ts (AndPure p (AndPure q ps)) more e = absurd (cc)

  go_assigned_closes : (labels among : List ℕ) (ts : Terms) (ps : Pures) (more : List Step) → ((l : ℕ) → contains (labels_to_go u.facts.program labels) l ≡ true → contains among l ≡ true) → jump_by_code among ps ≡ Some more →
      IsClosing u k o (head.ToGoAssigned labels) ts ps more
  unfolding jump_by_code
  go_assigned_closes labels among ts NoPure more covers e = absurd (cc)
  go_assigned_closes labels among ts (AndPure p NoPure) more covers e =
      subst (λ z. IsClosing u k o (head.ToGoAssigned labels) ts (AndPure p NoPure) z) (let all : JumpBy p (each_once among) ∷ map Jump (each_once among) ≡ more = cc in all)
      (for_go_assigned (λ l h. contains_once among l ∙ covers l h))
  go_assigned_closes labels among ts (AndPure p (AndPure q ps)) more covers e = absurd (cc)

  go_by_sign_closes : (below at above : ℕ) (ts : Terms) (ps : Pures) (more : List Step) → sign_code below at above ps ≡ Some more → IsClosing u k o (head.ToGoBySign below at above) ts ps more
  unfolding sign_code
  go_by_sign_closes below at above ts NoPure more e = absurd (cc)
  go_by_sign_closes below at above ts (AndPure p NoPure) more e = subst (λ z. IsClosing u k o (head.ToGoBySign below at above) ts (AndPure p NoPure) z) (let all : by_sign_steps below at above p ≡ more = cc in all) for_go_by_sign
  go_by_sign_closes below at above ts (AndPure p (AndPure q ps)) more e = absurd (cc)

  guard_closes : (form : Form) (under : List Step) (ts : Terms) (ps : Pures) (more : List Step) → IsCode u k None form under → unless_code (length under) under ps ≡ Some more → IsClosing u k o (head.ToGuard form) ts ps more
  unfolding unless_code
  guard_closes form under ts NoPure more code e = absurd (cc)
  guard_closes form under ts (AndPure p NoPure) more code e = subst (λ z. IsClosing u k o (head.ToGuard form) ts (AndPure p NoPure) z) (let all : Unless p (length under) ∷ under ≡ more = cc in all) (for_guard code)
  guard_closes form under ts (AndPure p (AndPure q ps)) more code e = absurd (cc)

  call_by : (name : Bytes) (ts : Terms) (ps : Pures) (more : List Step) (b : Bool) → hides_labels ts ≡ b → (if b then None else Some (call_steps k name (labels_written ts) ps)) ≡ Some more → IsClosing u k o (head.ToCall name) ts ps more
  call_by name ts ps more true hides e = absurd (cc)
  call_by name ts ps more false hides e = subst (λ z. IsClosing u k o (head.ToCall name) ts ps z) (let all : call_steps k name (labels_written ts) ps ≡ more = cc in all) (for_call hides)

  call_closes : (name : Bytes) (ts : Terms) (ps : Pures) (more : List Step) → call_code k name ts ps ≡ Some more → IsClosing u k o (head.ToCall name) ts ps more
  unfolding call_code
  call_closes name ts ps more e = call_by name ts ps more (hides_labels ts) refl e

  return_closes : (ts : Terms) (ps : Pures) (more : List Step) → back_code ps ≡ Some more → IsClosing u k o head.ToReturn ts ps more
  unfolding back_code
  return_closes ts NoPure more e = subst (λ z. IsClosing u k o head.ToReturn ts NoPure z) (let all : Back ∷ [] ≡ more = cc in all) for_return
  return_closes ts (AndPure p NoPure) more e = subst (λ z. IsClosing u k o head.ToReturn ts (AndPure p NoPure) z) (let all : BackBy p ∷ [] ≡ more = cc in all) for_return_by
  return_closes ts (AndPure p (AndPure q ps)) more e = absurd (cc)

-- ## Transfers

module _ (u : Text) (k : ℕ) where
  finish_stands : (items : List Step) → Some (Acts Finishes NoPure 0 ∷ []) ≡ Some items → IsCode u k None (On head.ToFinish NoMore) items
  unfolding lower_all no_operand plain
  finish_stands items e = subst (λ z. IsCode u k None (On head.ToFinish NoMore) z) (let all : Acts Finishes NoPure 0 ∷ [] ≡ items = cc in all) (some_code (InOrder ForUse) tt (Acts Finishes NoPure 0 ∷ []) for_finish)

  item_stands : (t : Term) (others : Work) (x : Option (List Step)) → ((items : List Step) → x ≡ Some items → IsCode u k None (next_of others) items) → (items : List Step) → item_code k t x ≡ Some items → IsCode u k None (On (head.ToTransfer others) (More t NoMore)) items
  unfolding item_code
  item_stands t others None behind items e = absurd (cc)
  item_stands t others (Some more) behind items e =
      let l = lower_all NoPure (item_purpose t) k (More t NoMore) in
      let all : l.steps ++ Acts Takes l.value (length more) ∷ more ≡ items = cc in
      subst (λ z. IsCode u k None (On (head.ToTransfer others) (More t NoMore)) z) all (some_code (InOrder (item_purpose t)) tt (Acts Takes l.value (length more) ∷ more) (for_item (behind more refl)))

  -- the code of a list of items
  work_stands : (work : Work) (items : List Step) → work_code k work ≡ Some items → IsCode u k None (next_of work) items
  unfolding next_of work_code
  work_stands Done items e = finish_stands items e
  work_stands (Before (Item t) others) items e = item_stands t others (work_code k others) (λ items' e'. work_stands others items' e') items e
  work_stands (Before (Repeated inner control) others) items e = absurd (cc)
  work_stands (Before (Turn inner p left by given) others) items e = absurd (cc)

  begin_closes : (way : Direction) (layout : Layout) (controls : Controls) (work : Work) (x : Option (List Step)) → work_code k work ≡ x → (o : Option ℕ) (ts : Terms) (ps : Pures) (more : List Step) → begin_code way layout controls x ps ≡ Some more →
      IsClosing u k o (head.ToBegin way layout controls work) ts ps more
  unfolding begin_code
  begin_closes way layout controls work None is o ts ps more e = absurd (cc)
  begin_closes way layout controls work (Some items) is o ts ps more e =
      subst (λ z. IsClosing u k o (head.ToBegin way layout controls work) ts ps z) (let all : Acts (Starts way layout controls) ps (length items) ∷ items ≡ more = cc in all) (for_begin (work_stands work items is))

  auxiliary_closes : (which : AuxiliaryKind) (controls : Controls) (o : Option ℕ) (ts : Terms) (ps : Pures) (more : List Step) → auxiliary_code which controls ps ≡ Some more → IsClosing u k o (head.ToAuxiliary which controls) ts ps more
  unfolding auxiliary_code
  auxiliary_closes which controls o ts ps more e =
      subst (λ z. IsClosing u k o (head.ToAuxiliary which controls) ts ps z) (let all : Acts (Auxiliary which controls) ps 0 ∷ [] ≡ more = cc in all) for_auxiliary

-- a guarded statement and the condition before it
record IsGuarded (l : Lowered Pures) (form : Option (List Step)) (code : List Step) : Type 0 where
  under : List Step
  is : form ≡ Some under
  all : behind_operands l.steps (unless_code (length under) under l.value) ≡ Some code

guarded_by : (l : Lowered Pures) (x : Option (List Step)) (code : List Step) → guard_code l x ≡ Some code → IsGuarded l x code
unfolding guard_code with_operands
guarded_by l None code e = absurd (cc)
guarded_by l (Some under) code e = record { under = under; is = refl; all = e }

module _ (u : Text) (k : ℕ) (once : Bool) where
  -- the labels that ASSIGN statements of the unit name
  abbrev assigned : List ℕ
  assigned = assigned_in u.facts.program.lines

  mutual
    unfolding is_direct is_direct_head form_code head_code with_operands lower_all no_operand plain listed labels_to_go

    pub direct_code : (o : Option ℕ) (n : ℕ) (form : Form) (code : List Step) → is_direct form ≡ true → form_code once k n (listed assigned form) ≡ Some code → IsCode u k o form code
    direct_code o n Passes code direct e = subst (λ z. IsCode u k o Passes z) (let all : [] ≡ code = cc in all) no_code
    direct_code o n (On h ts) code direct e = direct_head o n h ts code direct e

    direct_head : (o : Option ℕ) (n : ℕ) (h : Head) (ts : Terms) (code : List Step) → is_direct_head h ≡ true → form_code once k n (listed assigned (On h ts)) ≡ Some code → IsCode u k o (On h ts) code
    direct_head o n head.ToSet ts code direct e =
        let b = behind_by (lower_all NoPure ForUse k ts) _ code e in made u k o head.ToSet ts ForUse b.more code tt (set_closes u k o ts (lower_all NoPure ForUse k ts).value b.more b.is) b.all
    direct_head o n (head.ToSetLabel label) ts code direct e =
        let b = behind_by (lower_all NoPure ForUse k ts) _ code e in made u k o (head.ToSetLabel label) ts ForUse b.more code tt (set_label_closes u k o label ts (lower_all NoPure ForUse k ts).value b.more b.is) b.all
    direct_head o n (head.ToGo label) NoMore code direct e = made u k o (head.ToGo label) NoMore ForUse (Jump label ∷ []) code tt for_go (let all : Jump label ∷ [] ≡ code = cc in all)
    direct_head o n (head.ToGo label) (More t ts) code direct e = absurd (cc)
    direct_head o n (head.ToPick labels) ts code direct e =
        let b = behind_by (lower_all NoPure ForUse k ts) _ code e in made u k o (head.ToPick labels) ts ForUse b.more code tt (pick_closes u k o labels ts (lower_all NoPure ForUse k ts).value b.more b.is) b.all
    direct_head o n (head.ToGoAssigned []) ts code direct e =
        let b = behind_by (lower_all NoPure ForUse k ts) _ code e in
        made u k o (head.ToGoAssigned []) ts ForUse b.more code tt (go_assigned_closes u k o [] assigned ts (lower_all NoPure ForUse k ts).value b.more (λ l h. h) b.is) b.all
    direct_head o n (head.ToGoAssigned (first ∷ others)) ts code direct e =
        let b = behind_by (lower_all NoPure ForUse k ts) _ code e in
        made u k o (head.ToGoAssigned (first ∷ others)) ts ForUse b.more code tt (go_assigned_closes u k o (first ∷ others) (first ∷ others) ts (lower_all NoPure ForUse k ts).value b.more (λ l h. h) b.is) b.all
    direct_head o n (head.ToGoBySign below at above) ts code direct e =
        let b = behind_by (lower_all NoPure ForLater k ts) _ code e in
        made u k o (head.ToGoBySign below at above) ts ForLater b.more code tt (go_by_sign_closes u k o below at above ts (lower_all NoPure ForLater k ts).value b.more b.is) b.all
    direct_head o n (head.ToGuard form) ts code direct e =
        let g = guarded_by (lower_all NoPure ForUse k ts) (form_code once k 0 (listed assigned form)) code e in
        let b = behind_by (lower_all NoPure ForUse k ts) _ code g.all in
        made u k o (head.ToGuard form) ts ForUse b.more code tt (guard_closes u k o form g.under ts (lower_all NoPure ForUse k ts).value b.more (direct_code None 0 form g.under direct g.is) b.is) b.all
    direct_head o n (head.ToCall name) ts code direct e =
        let b = behind_by (lower_all NoPure ForCall k ts) _ code e in made u k o (head.ToCall name) ts ForCall b.more code tt (call_closes u k o name ts (lower_all NoPure ForCall k ts).value b.more b.is) b.all
    direct_head o n head.ToReturn ts code direct e =
        let b = behind_by (lower_all NoPure ForUse k ts) _ code e in made u k o head.ToReturn ts ForUse b.more code tt (return_closes u k o ts (lower_all NoPure ForUse k ts).value b.more b.is) b.all
    direct_head o n (head.ToStop text) NoMore code direct e = made u k o (head.ToStop text) NoMore ForUse (Halt text ∷ []) code tt for_stop (let all : Halt text ∷ [] ≡ code = cc in all)
    direct_head o n (head.ToStop text) (More t ts) code direct e = absurd (cc)
    direct_head o n head.ToEnd NoMore code direct e = made u k o head.ToEnd NoMore ForUse (Back ∷ []) code tt for_end (let all : Back ∷ [] ≡ code = cc in all)
    direct_head o n head.ToEnd (More t ts) code direct e = absurd (cc)
    direct_head o n head.ToSetText ts code direct e = absurd (true≢false (sym direct))
    direct_head o n head.ToEnterArm ts code direct e = absurd (true≢false (sym direct))
    direct_head o n (head.ToLoop label) ts code direct e = absurd (true≢false (sym direct))
    direct_head o n (head.ToTestLoop label) ts code direct e = absurd (true≢false (sym direct))
    direct_head o n (head.ToBegin way layout controls work) ts code direct e =
        let b = behind_by (lower_all NoPure ForUse k ts) _ code e in
        made u k o (head.ToBegin way layout controls work) ts ForUse b.more code tt (begin_closes u k way layout controls work (work_code k work) refl o ts (lower_all NoPure ForUse k ts).value b.more b.is) b.all
    direct_head o n (head.ToTransfer rest) ts code direct e = absurd (true≢false (sym direct))
    direct_head o n (head.ToRepeat items rest) ts code direct e = absurd (true≢false (sym direct))
    direct_head o n (head.ToTurn items p left by given rest) ts code direct e = absurd (true≢false (sym direct))
    direct_head o n head.ToFinish ts code direct e = absurd (true≢false (sym direct))
    direct_head o n (head.ToAuxiliary which controls) ts code direct e =
        let b = behind_by (lower_all NoPure ForUse k ts) _ code e in
        made u k o (head.ToAuxiliary which controls) ts ForUse b.more code tt (auxiliary_closes u k which controls o ts (lower_all NoPure ForUse k ts).value b.more b.is) b.all

  arm_closes : (i n : ℕ) (ts : Terms) (ps : Pures) (more : List Step) → IsFlat u i × ((j : ℕ) → arm_after u.facts.program i ≡ Some j → IsNextArm u i n j) → unless_code n [] ps ≡ Some more → IsClosing u k (Some i) head.ToEnterArm ts ps more
  unfolding unless_code
  arm_closes i n ts NoPure more room e = absurd (cc)
  arm_closes i n ts (AndPure p NoPure) more room e = subst (λ z. IsClosing u k (Some i) head.ToEnterArm ts (AndPure p NoPure) z) (let all : Unless p n ∷ [] ≡ more = cc in all) (for_arm room.0 room.1)
  arm_closes i n ts (AndPure p (AndPure q ps)) more room e = absurd (cc)

  arm_head : (i n : ℕ) (h : Head) (ts : Terms) (code : List Step) → enters_arm (On h ts) ≡ true → IsFlat u i × ((j : ℕ) → arm_after u.facts.program i ≡ Some j → IsNextArm u i n j) → form_code once k n (listed assigned (On h ts)) ≡ Some code →
      IsCode u k (Some i) (On h ts) code
  unfolding enters_arm form_code head_code with_operands listed
  arm_head i n head.ToEnterArm ts code enters room e =
      let b = behind_by (lower_all NoPure ForUse k ts) _ code e in
      made u k (Some i) head.ToEnterArm ts ForUse b.more code tt (arm_closes i n ts (lower_all NoPure ForUse k ts).value b.more room b.is) b.all
  arm_head i n head.ToSet ts code enters room e = absurd (true≢false (sym enters))
  arm_head i n head.ToSetText ts code enters room e = absurd (true≢false (sym enters))
  arm_head i n (head.ToSetLabel label) ts code enters room e = absurd (true≢false (sym enters))
  arm_head i n (head.ToGo label) ts code enters room e = absurd (true≢false (sym enters))
  arm_head i n (head.ToPick labels) ts code enters room e = absurd (true≢false (sym enters))
  arm_head i n (head.ToGoAssigned labels) ts code enters room e = absurd (true≢false (sym enters))
  arm_head i n (head.ToGoBySign below at above) ts code enters room e = absurd (true≢false (sym enters))
  arm_head i n (head.ToGuard form) ts code enters room e = absurd (true≢false (sym enters))
  arm_head i n (head.ToLoop label) ts code enters room e = absurd (true≢false (sym enters))
  arm_head i n (head.ToTestLoop label) ts code enters room e = absurd (true≢false (sym enters))
  arm_head i n (head.ToCall name) ts code enters room e = absurd (true≢false (sym enters))
  arm_head i n head.ToReturn ts code enters room e = absurd (true≢false (sym enters))
  arm_head i n (head.ToStop text) ts code enters room e = absurd (true≢false (sym enters))
  arm_head i n (head.ToBegin way layout controls work) ts code enters room e = absurd (true≢false (sym enters))
  arm_head i n (head.ToTransfer rest) ts code enters room e = absurd (true≢false (sym enters))
  arm_head i n (head.ToRepeat items rest) ts code enters room e = absurd (true≢false (sym enters))
  arm_head i n (head.ToTurn items p left by given rest) ts code enters room e = absurd (true≢false (sym enters))
  arm_head i n head.ToFinish ts code enters room e = absurd (true≢false (sym enters))
  arm_head i n (head.ToAuxiliary which controls) ts code enters room e = absurd (true≢false (sym enters))
  arm_head i n head.ToEnd ts code enters room e = absurd (true≢false (sym enters))

  pub arm_code : (i n : ℕ) (form : Form) (code : List Step) → enters_arm form ≡ true → IsFlat u i × ((j : ℕ) → arm_after u.facts.program i ≡ Some j → IsNextArm u i n j) → form_code once k n (listed assigned form) ≡ Some code → IsCode u k (Some i) form code
  unfolding enters_arm
  arm_code i n Passes code enters room e = absurd (true≢false (sym enters))
  arm_code i n (On h ts) code enters room e = arm_head i n h ts code enters room e

  -- the condition of a DO WHILE
  abbrev LoopRoom : ℕ → ℕ → Option ℕ → Type 0
  LoopRoom i n label = (last : ℕ) → terminal_of u.facts.program i label ≡ Some last → IsLoop u i last × (ends_of u i + n ≡ loop_exit u.facts.program (record { first = i; last = last }))

  test_closes : (i n : ℕ) (label : Option ℕ) (ts : Terms) (ps : Pures) (more : List Step) → LoopRoom i n label → unless_code n [] ps ≡ Some more → IsClosing u k (Some i) (head.ToTestLoop label) ts ps more
  unfolding unless_code
  test_closes i n label ts NoPure more room e = absurd (cc)
  test_closes i n label ts (AndPure p NoPure) more room e = subst (λ z. IsClosing u k (Some i) (head.ToTestLoop label) ts (AndPure p NoPure) z) (let all : Unless p n ∷ [] ≡ more = cc in all) (for_test room)
  test_closes i n label ts (AndPure p (AndPure q ps)) more room e = absurd (cc)

  pub test_code : (i n : ℕ) (label : Option ℕ) (ts : Terms) (code : List Step) → LoopRoom i n label → form_code once k n (On (head.ToTestLoop label) ts) ≡ Some code → IsCode u k (Some i) (On (head.ToTestLoop label) ts) code
  unfolding form_code head_code with_operands
  test_code i n label ts code room e =
      let b = behind_by (lower_all NoPure ForUse k ts) _ code e in
      made u k (Some i) (head.ToTestLoop label) ts ForUse b.more code tt (test_closes i n label ts (lower_all NoPure ForUse k ts).value b.more room b.is) b.all

  loop_closes : (i n : ℕ) (label : Option ℕ) (ts : Terms) (ps : Pures) (more : List Step) → once ≡ u.facts.program.onetrip → LoopRoom i n label → loop_code once n ps ≡ Some more → IsClosing u k (Some i) (head.ToLoop label) ts ps more
  unfolding loop_code
  loop_closes i n label ts NoPure more same room e = absurd (cc)
  loop_closes i n label ts (AndPure x NoPure) more same room e = absurd (cc)
  loop_closes i n label ts (AndPure x (AndPure first NoPure)) more same room e = absurd (cc)
  loop_closes i n label ts (AndPure x (AndPure first (AndPure limit NoPure))) more same room e = absurd (cc)
  loop_closes i n label ts (AndPure x (AndPure first (AndPure limit (AndPure by NoPure)))) more same room e =
      subst (λ z. IsClosing u k (Some i) (head.ToLoop label) ts (AndPure x (AndPure first (AndPure limit (AndPure by NoPure)))) z)
      (ap (λ o. Put x first ∷ loop_test o (test_by x limit by) n) (sym same) ∙ (let all : Put x first ∷ loop_test once (test_by x limit by) n ≡ more = cc in all)) (for_loop n room)
  loop_closes i n label ts (AndPure x (AndPure first (AndPure limit (AndPure by (AndPure q ps))))) more same room e = absurd (cc)

  pub do_code : (i n : ℕ) (label : Option ℕ) (ts : Terms) (code : List Step) → once ≡ u.facts.program.onetrip → LoopRoom i n label → form_code once k n (On (head.ToLoop label) ts) ≡ Some code → IsCode u k (Some i) (On (head.ToLoop label) ts) code
  unfolding form_code head_code with_operands
  do_code i n label ts code same room e =
      let b = behind_by (loop_operands k ts) _ code e in
      subst (λ z. IsCode u k (Some i) (On (head.ToLoop label) ts) z) b.all (some_code OfLoop refl b.more (loop_closes i n label ts (loop_operands k ts).value b.more same room b.is))

-- a DO that is lowered has its four operands
pub record HasFour (ps : Pures) : Type 0 where
  pub x : Pure
  pub first : Pure
  pub limit : Pure
  pub by : Pure
  pub is : ps ≡ AndPure x (AndPure first (AndPure limit (AndPure by NoPure)))

four_of : (once : Bool) (n : ℕ) (ps : Pures) (more : List Step) → loop_code once n ps ≡ Some more → HasFour ps
unfolding loop_code
four_of once n NoPure more e = absurd (cc)
four_of once n (AndPure x NoPure) more e = absurd (cc)
four_of once n (AndPure x (AndPure first NoPure)) more e = absurd (cc)
four_of once n (AndPure x (AndPure first (AndPure limit NoPure))) more e = absurd (cc)
four_of once n (AndPure x (AndPure first (AndPure limit (AndPure by NoPure)))) more e = record { x = x; first = first; limit = limit; by = by; is = refl }
four_of once n (AndPure x (AndPure first (AndPure limit (AndPure by (AndPure q ps))))) more e = absurd (cc)

pub loop_four : (once : Bool) (k n : ℕ) (label : Option ℕ) (ts : Terms) (code : List Step) → form_code once k n (On (head.ToLoop label) ts) ≡ Some code → HasFour (loop_operands k ts).value
unfolding form_code head_code with_operands
loop_four once k n label ts code e = let b = behind_by (loop_operands k ts) _ code e in four_of once n (loop_operands k ts).value b.more b.is
