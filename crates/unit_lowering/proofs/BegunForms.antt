-- A statement that is lowered and does something takes a step.
use Rattle.std.proofs.Common.{◌≡◌, ℕ, Bool, true, false, List, [], ◌∷◌, Option, Some, None, if◌then◌else◌, subst}
use Rattle.f_tree.specs.Values.{Bytes}
use Rattle.f_tree.specs.Terms.{Terms, NoMore, More}
use Rattle.f_tree.specs.Facts.{Direction, Layout, Controls, AuxiliaryKind, Head, ToSet, ToSetLabel, ToGo, ToPick, ToGoAssigned, ToGoBySign, ToGuard, ToEnterArm, ToLoop, ToTestLoop, ToCall, ToReturn, ToStop, ToBegin, ToAuxiliary, ToEnd, On}
use Rattle.lowered_tree.specs.l_core.Pures.{Pures, NoPure, AndPure}
use Rattle.lowered_tree.specs.l_core.Steps.{Step}
use Rattle.lowering.specs.Expressions.{Lowered}
use Rattle.lowering.specs.Statements.{behind_operands, with_operands, put_code, put_label_code, select_code, jump_by_code, sign_code, unless_code, guard_code, loop_code, labels_written, hides_labels, call_steps, call_code, back_code, begin_code, auxiliary_code, form_code, head_code}

-- there is a step, if there are steps
abbrev pub IsBegun : Option (List Step) → Type 0
IsBegun None = Unit {0}
IsBegun (Some []) = ⊥
IsBegun (Some (step ∷ steps)) = Unit {0}

begun_behind : (steps : List Step) (more : Option (List Step)) → IsBegun more → IsBegun (behind_operands steps more)
unfolding behind_operands
begun_behind steps None begun = tt
begun_behind steps (Some []) begun = absurd begun
begun_behind [] (Some (x ∷ xs)) begun = tt
begun_behind (y ∷ ys) (Some (x ∷ xs)) begun = tt

begun_with : (l : Lowered Pures) (close : Pures → Option (List Step)) → ((ps : Pures) → IsBegun (close ps)) → IsBegun (with_operands l close)
unfolding with_operands
begun_with l close begun = begun_behind l.steps (close l.value) (begun l.value)

begun_put : (ps : Pures) → IsBegun (put_code ps)
unfolding put_code
begun_put NoPure = tt
begun_put (AndPure p NoPure) = tt
begun_put (AndPure p (AndPure q NoPure)) = tt
begun_put (AndPure p (AndPure q (AndPure r ps))) = tt

begun_label : (label : ℕ) (ps : Pures) → IsBegun (put_label_code label ps)
unfolding put_label_code
begun_label label NoPure = tt
begun_label label (AndPure p NoPure) = tt
begun_label label (AndPure p (AndPure q ps)) = tt

begun_select : (labels : List ℕ) (ps : Pures) → IsBegun (select_code labels ps)
unfolding select_code
begun_select labels NoPure = tt
begun_select labels (AndPure p NoPure) = tt
begun_select labels (AndPure p (AndPure q ps)) = tt

begun_jump : (labels : List ℕ) (ps : Pures) → IsBegun (jump_by_code labels ps)
unfolding jump_by_code
begun_jump labels NoPure = tt
begun_jump labels (AndPure p NoPure) = tt
begun_jump labels (AndPure p (AndPure q ps)) = tt

begun_sign : (below at above : ℕ) (ps : Pures) → IsBegun (sign_code below at above ps)
unfolding sign_code
begun_sign below at above NoPure = tt
begun_sign below at above (AndPure p NoPure) = tt
begun_sign below at above (AndPure p (AndPure q ps)) = tt

begun_unless : (n : ℕ) (under : List Step) (ps : Pures) → IsBegun (unless_code n under ps)
unfolding unless_code
begun_unless n under NoPure = tt
begun_unless n under (AndPure p NoPure) = tt
begun_unless n under (AndPure p (AndPure q ps)) = tt

begun_guard : (l : Lowered Pures) (under : Option (List Step)) → IsBegun (guard_code l under)
unfolding guard_code
begun_guard l None = tt
begun_guard l (Some under) = begun_with l (unless_code _ under) (begun_unless _ under)

begun_loop : (once : Bool) (n : ℕ) (ps : Pures) → IsBegun (loop_code once n ps)
unfolding loop_code
begun_loop once n NoPure = tt
begun_loop once n (AndPure x NoPure) = tt
begun_loop once n (AndPure x (AndPure first NoPure)) = tt
begun_loop once n (AndPure x (AndPure first (AndPure limit NoPure))) = tt
begun_loop once n (AndPure x (AndPure first (AndPure limit (AndPure by NoPure)))) = tt
begun_loop once n (AndPure x (AndPure first (AndPure limit (AndPure by (AndPure p ps))))) = tt

begun_labels : (k : ℕ) (name : Bytes) (labels : List ℕ) (ps : Pures) → IsBegun (Some (call_steps k name labels ps))
unfolding call_steps
begun_labels k name [] ps = tt
begun_labels k name (l ∷ ls) ps = tt

unless_hidden : (hides : Bool) (k : ℕ) (name : Bytes) (labels : List ℕ) (ps : Pures) → IsBegun (if hides then None else Some (call_steps k name labels ps))
unless_hidden true k name labels ps = tt
unless_hidden false k name labels ps = begun_labels k name labels ps

begun_call : (k : ℕ) (name : Bytes) (ts : Terms) (ps : Pures) → IsBegun (call_code k name ts ps)
unfolding call_code
begun_call k name ts ps = unless_hidden (hides_labels ts) k name (labels_written ts) ps

begun_back : (ps : Pures) → IsBegun (back_code ps)
unfolding back_code
begun_back NoPure = tt
begun_back (AndPure p NoPure) = tt
begun_back (AndPure p (AndPure q ps)) = tt

begun_begin : (way : Direction) (layout : Layout) (controls : Controls) (items : Option (List Step)) (ps : Pures) → IsBegun (begin_code way layout controls items ps)
unfolding begin_code
begun_begin way layout controls None ps = tt
begun_begin way layout controls (Some items) ps = tt

begun_auxiliary : (which : AuxiliaryKind) (controls : Controls) (ps : Pures) → IsBegun (auxiliary_code which controls ps)
unfolding auxiliary_code
begun_auxiliary which controls ps = tt

begun_head : (once : Bool) (k n : ℕ) (head : Head) (operands : Terms) → IsBegun (head_code once k n head operands)
unfolding head_code form_code
begun_head once k n ToSet operands = begun_with _ put_code begun_put
begun_head once k n (ToSetLabel label) operands = begun_with _ (put_label_code label) (begun_label label)
begun_head once k n (ToGo label) NoMore = tt
begun_head once k n (ToGo label) (More t ts) = tt
begun_head once k n (ToPick labels) operands = begun_with _ (select_code labels) (begun_select labels)
begun_head once k n (ToGoAssigned labels) operands = begun_with _ (jump_by_code labels) (begun_jump labels)
begun_head once k n (ToGoBySign below at above) operands = begun_with _ (sign_code below at above) (begun_sign below at above)
begun_head once k n (ToGuard form) operands = begun_guard _ (form_code once k 0 form)
begun_head once k n ToEnterArm operands = begun_with _ (unless_code n []) (begun_unless n [])
begun_head once k n (ToLoop label) operands = begun_with _ (loop_code once n) (begun_loop once n)
begun_head once k n (ToTestLoop label) operands = begun_with _ (unless_code n []) (begun_unless n [])
begun_head once k n (ToCall name) operands = begun_with _ (call_code k name operands) (begun_call k name operands)
begun_head once k n ToReturn operands = begun_with _ back_code begun_back
begun_head once k n (ToStop text) NoMore = tt
begun_head once k n (ToStop text) (More t ts) = tt
begun_head once k n (ToBegin way layout controls work) operands = begun_with _ _ (begun_begin way layout controls _)
begun_head once k n (ToAuxiliary which controls) operands = begun_with _ (auxiliary_code which controls) (begun_auxiliary which controls)
begun_head once k n ToEnd NoMore = tt
begun_head once k n ToEnd (More t ts) = tt
begun_head once k n _ operands = tt

pub form_begun : (once : Bool) (k n : ℕ) (head : Head) (operands : Terms) → form_code once k n (On head operands) ≡ Some [] → ⊥
unfolding form_code
form_begun once k n head operands none = subst IsBegun none (begun_head once k n head operands)
