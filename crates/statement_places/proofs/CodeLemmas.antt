-- A form that takes no step is one that passes.
use Rattle.std.proofs.Common.{◌≡◌, ℕ, zero, suc, ◌+◌, ◌<◌, Bool, true, false, List, [], ◌∷◌, ◌++◌, length, nat_eq, Option, Some, None, if◌then◌else◌, refl, sym, ap, subst, ◌∙◌, arith}
use Rattle.std.proofs.lemmas.Bool.Decides.{nat_tests}
use Rattle.f_tree.specs.Values.{Bytes}
use Rattle.f_tree.specs.Terms.{Terms, NoMore, More}
use Rattle.f_tree.specs.Facts as head
use Rattle.f_tree.specs.Facts.{Direction, Layout, Controls, AuxiliaryKind, Head, Form, Passes, On}
use Rattle.lowering.specs.l_core.Pures.{Pures, NoPure, AndPure}
use Rattle.lowering.specs.l_core.Steps.{Step}
use Rattle.lowering.specs.Expressions.{Lowered}
use Rattle.lowering.specs.Statements.{behind_operands, with_operands, put_code, put_label_code, select_code, jump_by_code, sign_code, unless_code, guard_code, loop_code, labels_written, hides_labels, call_steps, call_code, back_code, begin_code, auxiliary_code, form_code, head_code}
use Rattle.lowering.specs.Units.{pass_code}
use Rattle.statement_places.specs.StatementSizes.{with_pass}

-- code that is not empty, where there is any
abbrev TakesSteps : Option (List Step) → Type 0
TakesSteps code = (added : List Step) → code ≡ Some added → 0 < length added

one_more : (x : Step) (xs : List Step) → TakesSteps (Some (x ∷ xs))
one_more x xs added is = let e : x ∷ xs ≡ added = cc in subst (λ z. 0 < length z) e (let h : 0 < suc (length xs) = omega arith in h)

no_code : TakesSteps None
no_code added is = absurd (cc)

length_more : (xs ys : List Step) → 0 < length ys → 0 < length (xs ++ ys)
length_more [] ys h = h
length_more (x ∷ xs) ys h = let e : 0 < suc (length (xs ++ ys)) = omega arith in e

behind_more : (steps : List Step) (code : Option (List Step)) → TakesSteps code → TakesSteps (behind_operands steps code)
unfolding behind_operands
behind_more steps None takes added is = absurd (cc)
behind_more steps (Some more) takes added is = let e : steps ++ more ≡ added = cc in subst (λ z. 0 < length z) e (length_more steps more (takes more refl))

put_more : (ps : Pures) → TakesSteps (put_code ps)
unfolding put_code
put_more NoPure = no_code
put_more (AndPure p NoPure) = no_code
put_more (AndPure p (AndPure place NoPure)) = one_more _ _
put_more (AndPure p (AndPure place (AndPure q ps))) = no_code

put_label_more : (label : ℕ) (ps : Pures) → TakesSteps (put_label_code label ps)
unfolding put_label_code
put_label_more label NoPure = no_code
put_label_more label (AndPure place NoPure) = one_more _ _
put_label_more label (AndPure place (AndPure q ps)) = no_code

select_more : (labels : List ℕ) (ps : Pures) → TakesSteps (select_code labels ps)
unfolding select_code
select_more labels NoPure = no_code
select_more labels (AndPure p NoPure) = one_more _ _
select_more labels (AndPure p (AndPure q ps)) = no_code

jump_by_more : (labels : List ℕ) (ps : Pures) → TakesSteps (jump_by_code labels ps)
unfolding jump_by_code
jump_by_more labels NoPure = no_code
jump_by_more labels (AndPure p NoPure) = one_more _ _
jump_by_more labels (AndPure p (AndPure q ps)) = no_code

sign_more : (below at above : ℕ) (ps : Pures) → TakesSteps (sign_code below at above ps)
unfolding sign_code
sign_more below at above NoPure = no_code
sign_more below at above (AndPure p NoPure) = one_more _ _
sign_more below at above (AndPure p (AndPure q ps)) = no_code

unless_more : (n : ℕ) (under : List Step) (ps : Pures) → TakesSteps (unless_code n under ps)
unfolding unless_code
unless_more n under NoPure = no_code
unless_more n under (AndPure p NoPure) = one_more _ _
unless_more n under (AndPure p (AndPure q ps)) = no_code

loop_more : (once : Bool) (n : ℕ) (ps : Pures) → TakesSteps (loop_code once n ps)
unfolding loop_code
loop_more once n NoPure = no_code
loop_more once n (AndPure x NoPure) = no_code
loop_more once n (AndPure x (AndPure first NoPure)) = no_code
loop_more once n (AndPure x (AndPure first (AndPure limit NoPure))) = no_code
loop_more once n (AndPure x (AndPure first (AndPure limit (AndPure by NoPure)))) = one_more _ _
loop_more once n (AndPure x (AndPure first (AndPure limit (AndPure by (AndPure p ps))))) = no_code

labels_more : (k : ℕ) (name : Bytes) (labels : List ℕ) (ps : Pures) → TakesSteps (Some (call_steps k name labels ps))
unfolding call_steps
labels_more k name [] ps = one_more _ _
labels_more k name (l ∷ ls) ps = one_more _ _

unless_hidden : (hides : Bool) (k : ℕ) (name : Bytes) (labels : List ℕ) (ps : Pures) → TakesSteps (if hides then None else Some (call_steps k name labels ps))
unless_hidden true k name labels ps = no_code
unless_hidden false k name labels ps = labels_more k name labels ps

call_more : (k : ℕ) (name : Bytes) (ts : Terms) (ps : Pures) → TakesSteps (call_code k name ts ps)
unfolding call_code
call_more k name ts ps = unless_hidden (hides_labels ts) k name (labels_written ts) ps

back_more : (ps : Pures) → TakesSteps (back_code ps)
unfolding back_code
back_more NoPure = one_more _ _
back_more (AndPure p NoPure) = one_more _ _
back_more (AndPure p (AndPure q ps)) = no_code

begin_more : (way : Direction) (layout : Layout) (controls : Controls) (items : Option (List Step)) (ps : Pures) → TakesSteps (begin_code way layout controls items ps)
unfolding begin_code
begin_more way layout controls None ps = no_code
begin_more way layout controls (Some items) ps = one_more _ _

auxiliary_more : (which : AuxiliaryKind) (controls : Controls) (ps : Pures) → TakesSteps (auxiliary_code which controls ps)
unfolding auxiliary_code
auxiliary_more which controls ps = one_more _ _

with_more : (l : Lowered Pures) (close : Pures → Option (List Step)) → ((ps : Pures) → TakesSteps (close ps)) → TakesSteps (with_operands l close)
unfolding with_operands
with_more l close takes = behind_more l.steps (close l.value) (takes l.value)

guard_more : (l : Lowered Pures) (under : Option (List Step)) → TakesSteps (guard_code l under)
unfolding guard_code
guard_more l None = no_code
guard_more l (Some under) = with_more l (unless_code (length under) under) (unless_more (length under) under)

head_more : (once : Bool) (k n : ℕ) (h : Head) (ts : Terms) → TakesSteps (head_code once k n h ts)
unfolding head_code
head_more once k n head.ToSet ts = with_more _ put_code put_more
head_more once k n head.ToSetText ts = no_code
head_more once k n (head.ToSetLabel label) ts = with_more _ (put_label_code label) (put_label_more label)
head_more once k n (head.ToGo label) NoMore = one_more _ _
head_more once k n (head.ToGo label) (More t ts) = no_code
head_more once k n (head.ToPick labels) ts = with_more _ (select_code labels) (select_more labels)
head_more once k n (head.ToGoAssigned labels) ts = with_more _ (jump_by_code labels) (jump_by_more labels)
head_more once k n (head.ToGoBySign below at above) ts = with_more _ (sign_code below at above) (sign_more below at above)
head_more once k n (head.ToGuard form) ts = guard_more _ (form_code once k 0 form)
head_more once k n head.ToEnterArm ts = with_more _ (unless_code n []) (unless_more n [])
head_more once k n (head.ToLoop label) ts = with_more _ (loop_code once n) (loop_more once n)
head_more once k n (head.ToTestLoop label) ts = with_more _ (unless_code n []) (unless_more n [])
head_more once k n (head.ToCall name) ts = with_more _ (call_code k name ts) (call_more k name ts)
head_more once k n head.ToReturn ts = with_more _ back_code back_more
head_more once k n (head.ToStop text) NoMore = one_more _ _
head_more once k n (head.ToStop text) (More t ts) = no_code
head_more once k n (head.ToBegin way layout controls work) ts = with_more _ (begin_code way layout controls _) (begin_more way layout controls _)
head_more once k n (head.ToTransfer rest) ts = no_code
head_more once k n (head.ToRepeat items rest) ts = no_code
head_more once k n (head.ToTurn items p left by given rest) ts = no_code
head_more once k n head.ToFinish ts = no_code
head_more once k n (head.ToAuxiliary which controls) ts = with_more _ (auxiliary_code which controls) (auxiliary_more which controls)
head_more once k n head.ToEnd NoMore = one_more _ _
head_more once k n head.ToEnd (More t ts) = no_code

-- with the step that a branch goes to
with_none : (named : Bool) (form : Form) → form ≡ Passes → length (pass_code named form) ≡ with_pass named 0
unfolding pass_code with_pass
with_none true form is = ap (λ f. length (pass_code true f)) is
with_none false form is = ap (λ f. length (pass_code false f)) is

some_apart : (n : ℕ) → nat_eq (suc n) 0 ≡ false
some_apart n = grind (arith, nat_tests)

with_some : (named : Bool) (h : Head) (ts : Terms) (n : ℕ) → 0 < n → n + length (pass_code named (On h ts)) ≡ with_pass named n
unfolding pass_code with_pass
with_some named h ts zero some = absurd (omega (arith, some))
with_some true h ts (suc n) some = (let e : suc n + 0 ≡ suc n = omega arith in e) ∙ ap (λ b. if b then 1 else suc n) (sym (some_apart n))
with_some false h ts (suc n) some = let e : suc n + 0 ≡ suc n = omega arith in e

pub pass_size : (once : Bool) (k : ℕ) (form : Form) (named : Bool) (added : List Step) → form_code once k 0 form ≡ Some added → length added + length (pass_code named form) ≡ with_pass named (length added)
unfolding form_code
pass_size once k Passes named added is =
    let e : [] ≡ added = cc in
    subst (λ z. length z + length (pass_code named Passes) ≡ with_pass named (length z)) e
    (let zero_less : 0 + length (pass_code named Passes) ≡ length (pass_code named Passes) = omega arith in zero_less ∙ with_none named Passes refl)
pass_size once k (On h ts) named added is = with_some named h ts (length added) (head_more once k 0 h ts added is)
