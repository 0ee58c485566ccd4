-- The next arms, as one walk from the last statement to the first finds them.
use Rattle.std.proofs.Common.{◌≡◌, ℕ, suc, ◌+◌, ◌-◌, ◌<◌, ◌≤◌, List, [], ◌∷◌, ◌++◌, drop, drop-cons, get_or, length, reverse, Option, Some, None, refl, sym, ap, ◌∙◌, arith}
use Rattle.std.specs.Prelude.{option_to_list}
use Rattle.std.proofs.lemmas.List.{append-nil, reverse-append, drop_all}
use Rattle.f_tree.specs.declared.statements.Stmt.{Stmt}
use Rattle.f_tree.specs.Facts.{Mark}
use Rattle.f_tree.specs.Lines.{mark_of}
use Rattle.statement_places.specs.declared.arms.NextArm.{NextArm}
use Rattle.statement_places.specs.NextArms.{first_arm, arms_around, arms_before, arms_from, next_from}

-- the innermost is forgotten
none_popped : (xs : List NextArm) (n : ℕ) (at : NextArm → NextArm) (popped : Option NextArm) → popped ≡ None → n ≡ length xs → ((d : NextArm) → 0 < n → popped ≡ Some (at d)) → xs ≡ []
none_popped [] n at popped is same last = refl
none_popped (x ∷ xs) n at popped is same last = absurd (let e = last x (omega (arith, same)) in cc)

pub arms_popped : (xs after : List NextArm) (n : ℕ) (at : NextArm → NextArm) (popped : Option NextArm) → xs ≡ after ++ option_to_list popped → n ≡ length xs
    → ((d : NextArm) → 0 < n → popped ≡ Some (at d)) → reverse after ≡ arms_around (reverse xs)
unfolding arms_around
arms_popped xs after n at None put same last =
    let none = none_popped xs n at None refl same last in
    ap reverse (sym (append-nil after) ∙ sym put ∙ none) ∙ sym (ap (λ ys. arms_around (reverse ys)) none)
arms_popped xs after n at (Some arm) put same last = sym (ap arms_around (ap reverse put ∙ reverse-append after (arm ∷ [])))

-- none yet
pub next_begin : (ss : List Stmt) (all : List (Option NextArm)) → all ≡ [] → reverse all ≡ next_from (length ss - 0) (drop (length ss - 0) ss)
unfolding next_from
next_begin ss all none = ap reverse none ∙ sym (ap (next_from (length ss - 0)) (drop_all (length ss - 0) ss (omega arith)))

pub arms_begin : (ss : List Stmt) (arms : List NextArm) → arms ≡ [] → reverse arms ≡ arms_from (length ss - 0) (drop (length ss - 0) ss)
unfolding arms_from
arms_begin ss arms none = ap reverse none ∙ sym (ap (arms_from (length ss - 0)) (drop_all (length ss - 0) ss (omega arith)))

-- one statement more in front
next_step : (i : ℕ) (s : Stmt) (ss : List Stmt) → next_from i (s ∷ ss) ≡ first_arm (arms_from (suc i) ss) ∷ next_from (suc i) ss
unfolding next_from
next_step i s ss = refl

arms_step : (i : ℕ) (s : Stmt) (ss : List Stmt) → arms_from i (s ∷ ss) ≡ arms_before (mark_of s.body) i (arms_from (suc i) ss)
unfolding arms_from
arms_step i s ss = refl

rest_from : (ss : List Stmt) (i : ℕ) (s d : Stmt) → i < length ss → s ≡ get_or ss (length ss - 1 - i) d → drop (length ss - (i + 1)) ss ≡ s ∷ drop (length ss - i) ss
rest_from ss i s d h is =
    let same : length ss - 1 - i ≡ length ss - (i + 1) = omega arith in
    let next : suc (length ss - (i + 1)) ≡ length ss - i = omega (arith, h) in
    drop-cons ss (length ss - (i + 1)) d (omega (arith, h)) ∙ ap (λ n. get_or ss (length ss - (i + 1)) d ∷ drop n ss) next
    ∙ ap (λ (t : Stmt). t ∷ drop (length ss - i) ss) (sym (is ∙ ap (λ n. get_or ss n d) same))

pub next_more : (ss : List Stmt) (i : ℕ) (s d : Stmt) (all after : List (Option NextArm)) (next : Option NextArm) (arms : List NextArm) → i < length ss
    → s ≡ get_or ss (length ss - 1 - i) d → reverse all ≡ next_from (length ss - i) (drop (length ss - i) ss) → arms ≡ arms_from (length ss - i) (drop (length ss - i) ss)
    → next ≡ first_arm arms → after ≡ all ++ next ∷ [] → reverse after ≡ next_from (length ss - (i + 1)) (drop (length ss - (i + 1)) ss)
next_more ss i s d all after next arms h is so_far known now put =
    let step : suc (length ss - (i + 1)) ≡ length ss - i = omega (arith, h) in
    ap reverse put ∙ reverse-append all (next ∷ []) ∙ ap (λ o. o ∷ reverse all) (now ∙ ap first_arm known)
    ∙ ap (λ os. first_arm (arms_from (length ss - i) (drop (length ss - i) ss)) ∷ os) so_far
    ∙ ap (λ n. first_arm (arms_from n (drop (length ss - i) ss)) ∷ next_from n (drop (length ss - i) ss)) (sym step)
    ∙ sym (next_step (length ss - (i + 1)) s (drop (length ss - i) ss)) ∙ ap (next_from (length ss - (i + 1))) (sym (rest_from ss i s d h is))

pub arms_more : (ss : List Stmt) (i : ℕ) (s d : Stmt) (mark : Mark) (arms after : List NextArm) → i < length ss → s ≡ get_or ss (length ss - 1 - i) d
    → arms ≡ arms_from (length ss - i) (drop (length ss - i) ss) → mark ≡ mark_of s.body → after ≡ arms_before mark (length ss - 1 - i) arms
    → after ≡ arms_from (length ss - (i + 1)) (drop (length ss - (i + 1)) ss)
arms_more ss i s d mark arms after h is known is_mark put =
    let same : length ss - 1 - i ≡ length ss - (i + 1) = omega arith in
    let step : suc (length ss - (i + 1)) ≡ length ss - i = omega (arith, h) in
    put ∙ ap (λ m. arms_before m (length ss - 1 - i) arms) is_mark ∙ ap (λ n. arms_before (mark_of s.body) n arms) same
    ∙ ap (arms_before (mark_of s.body) (length ss - (i + 1))) (known ∙ ap (λ n. arms_from n (drop (length ss - i) ss)) (sym step))
    ∙ sym (arms_step (length ss - (i + 1)) s (drop (length ss - i) ss)) ∙ ap (arms_from (length ss - (i + 1))) (sym (rest_from ss i s d h is))

pub next_whole : (ss : List Stmt) (i : ℕ) (all : List (Option NextArm)) → length ss ≤ i → reverse all ≡ next_from (length ss - i) (drop (length ss - i) ss) → reverse all ≡ next_from 0 ss
next_whole ss i all h so_far = so_far ∙ ap (λ n. next_from n (drop n ss)) (let e : length ss - i ≡ 0 = omega (arith, h) in e)
