-- The next arms that one walk from the last statement to the first finds are those of the meaning.
use Rattle.std.proofs.Common.{◌≡◌, ℕ, zero, suc, ◌+◌, ◌-◌, ◌<◌, ◌≤◌, false, List, [], ◌∷◌, ◌++◌, map, drop, drop-cons, get_or, length, reverse, nat_eq, Option, Some, None, slice_get, if◌then◌else◌, refl, sym, ap, ◌∙◌, arith}
use Rattle.std.specs.Prelude.{option_to_list}
use Rattle.std.proofs.lemmas.Bool.Decides.{nat_tests}
use Rattle.std.proofs.lemmas.List.{append-nil, reverse-append, drop_all, drop-map}
use Rattle.f_tree.specs.declared.statements.Stmt.{Stmt}
use Rattle.f_tree.specs.Attributes.{from_all}
use Rattle.f_tree.specs.Facts.{Mark, Plain, Opens, Arm, Closes, Line, ProgramUnit}
use Rattle.f_tree.specs.Places.{arm_from, arm_after}
use Rattle.f_tree.specs.Lines.{Naming, loop_label_in, mark_of, line_of}
use Rattle.loop_entries.specs.NextArms.{first_arm, arms_around, arms_before, arms_from, next_from}
use Rattle.loop_entries.specs.ReadLines.{IsReadAs}

-- the innermost is forgotten
none_popped : (xs : List ℕ) (n : ℕ) (at : ℕ → ℕ) (popped : Option ℕ) → popped ≡ None → n ≡ length xs → ((d : ℕ) → 0 < n → popped ≡ Some (at d)) → xs ≡ []
none_popped [] n at popped is same last = refl
none_popped (x ∷ xs) n at popped is same last = absurd (let e = last x (omega (arith, same)) in cc)

pub arms_popped : (xs after : List ℕ) (n : ℕ) (at : ℕ → ℕ) (popped : Option ℕ) → xs ≡ after ++ option_to_list popped → n ≡ length xs
    → ((d : ℕ) → 0 < n → popped ≡ Some (at d)) → reverse after ≡ arms_around (reverse xs)
unfolding arms_around
arms_popped xs after n at None put same last =
    let none = none_popped xs n at None refl same last in
    ap reverse (sym (append-nil after) ∙ sym put ∙ none) ∙ sym (ap (λ ys. arms_around (reverse ys)) none)
arms_popped xs after n at (Some arm) put same last = sym (ap arms_around (ap reverse put ∙ reverse-append after (arm ∷ [])))

-- none yet
pub next_begin : (ss : List Stmt) (all : List (Option ℕ)) → all ≡ [] → reverse all ≡ next_from (length ss - 0) (drop (length ss - 0) ss)
unfolding next_from
next_begin ss all none = ap reverse none ∙ sym (ap (next_from (length ss - 0)) (drop_all (length ss - 0) ss (omega arith)))

pub arms_begin : (ss : List Stmt) (arms : List ℕ) → arms ≡ [] → reverse arms ≡ arms_from (length ss - 0) (drop (length ss - 0) ss)
unfolding arms_from
arms_begin ss arms none = ap reverse none ∙ sym (ap (arms_from (length ss - 0)) (drop_all (length ss - 0) ss (omega arith)))

-- one statement more in front
next_step : (i : ℕ) (s : Stmt) (ss : List Stmt) → next_from i (s ∷ ss) ≡ first_arm (arms_from (suc i) ss) ∷ next_from (suc i) ss
unfolding next_from
next_step i s ss = refl

arms_step : (i : ℕ) (s : Stmt) (ss : List Stmt) → arms_from i (s ∷ ss) ≡ arms_before (mark_of s.body) i (arms_from (suc i) ss)
unfolding arms_from
arms_step i s ss = refl

rest_from : (ss : List Stmt) (i : ℕ) (s d : Stmt) → i < length ss → s ≡ get_or ss (length ss - 1 - i) d → drop (length ss - (i + 1)) ss ≡ s ∷ drop (length ss - i) ss
rest_from ss i s d h is =
    let same : length ss - 1 - i ≡ length ss - (i + 1) = omega arith in
    let next : suc (length ss - (i + 1)) ≡ length ss - i = omega (arith, h) in
    drop-cons ss (length ss - (i + 1)) d (omega (arith, h)) ∙ ap (λ n. get_or ss (length ss - (i + 1)) d ∷ drop n ss) next
    ∙ ap (λ (t : Stmt). t ∷ drop (length ss - i) ss) (sym (is ∙ ap (λ n. get_or ss n d) same))

pub next_more : (ss : List Stmt) (i : ℕ) (s d : Stmt) (all after : List (Option ℕ)) (next : Option ℕ) (arms : List ℕ) → i < length ss
    → s ≡ get_or ss (length ss - 1 - i) d → reverse all ≡ next_from (length ss - i) (drop (length ss - i) ss) → arms ≡ arms_from (length ss - i) (drop (length ss - i) ss)
    → next ≡ first_arm arms → after ≡ all ++ next ∷ [] → reverse after ≡ next_from (length ss - (i + 1)) (drop (length ss - (i + 1)) ss)
next_more ss i s d all after next arms h is so_far known now put =
    let step : suc (length ss - (i + 1)) ≡ length ss - i = omega (arith, h) in
    ap reverse put ∙ reverse-append all (next ∷ []) ∙ ap (λ o. o ∷ reverse all) (now ∙ ap first_arm known)
    ∙ ap (λ os. first_arm (arms_from (length ss - i) (drop (length ss - i) ss)) ∷ os) so_far
    ∙ ap (λ n. first_arm (arms_from n (drop (length ss - i) ss)) ∷ next_from n (drop (length ss - i) ss)) (sym step)
    ∙ sym (next_step (length ss - (i + 1)) s (drop (length ss - i) ss)) ∙ ap (next_from (length ss - (i + 1))) (sym (rest_from ss i s d h is))

pub arms_more : (ss : List Stmt) (i : ℕ) (s d : Stmt) (mark : Mark) (arms after : List ℕ) → i < length ss → s ≡ get_or ss (length ss - 1 - i) d
    → arms ≡ arms_from (length ss - i) (drop (length ss - i) ss) → mark ≡ mark_of s.body → after ≡ arms_before mark (length ss - 1 - i) arms
    → after ≡ arms_from (length ss - (i + 1)) (drop (length ss - (i + 1)) ss)
arms_more ss i s d mark arms after h is known is_mark put =
    let same : length ss - 1 - i ≡ length ss - (i + 1) = omega arith in
    let step : suc (length ss - (i + 1)) ≡ length ss - i = omega (arith, h) in
    put ∙ ap (λ m. arms_before m (length ss - 1 - i) arms) is_mark ∙ ap (λ n. arms_before (mark_of s.body) n arms) same
    ∙ ap (arms_before (mark_of s.body) (length ss - (i + 1))) (known ∙ ap (λ n. arms_from n (drop (length ss - i) ss)) (sym step))
    ∙ sym (arms_step (length ss - (i + 1)) s (drop (length ss - i) ss)) ∙ ap (arms_from (length ss - (i + 1))) (sym (rest_from ss i s d h is))

pub next_whole : (ss : List Stmt) (i : ℕ) (all : List (Option ℕ)) → length ss ≤ i → reverse all ≡ next_from (length ss - i) (drop (length ss - i) ss) → reverse all ≡ next_from 0 ss
next_whole ss i all h so_far = so_far ∙ ap (λ n. next_from n (drop n ss)) (let e : length ss - i ≡ 0 = omega (arith, h) in e)

-- THE NEXT ARM, with so many blocks open
deeper : (d : ℕ) (arms : List ℕ) → slice_get (arms_around arms) d ≡ slice_get arms (suc d)
unfolding arms_around
deeper d [] = refl
deeper d (arm ∷ arms) = refl

apart : (d : ℕ) → nat_eq (suc d) 0 ≡ false
apart d = grind (arith, nat_tests)

here : (i : ℕ) (o : Option ℕ) → (if nat_eq 0 0 then Some i else o) ≡ Some i
here i o = refl

before_mark : (mark : Mark) (i depth : ℕ) (lines : List Line) (arms : List ℕ) → ((d : ℕ) → arm_from (suc i) d lines ≡ slice_get arms d) →
    elim mark [
      | Plain ↦ arm_from (suc i) depth lines
      | Opens ↦ arm_from (suc i) (suc depth) lines
      | Arm ↦ if nat_eq depth 0 then Some i else arm_from (suc i) depth lines
      | Closes ↦ elim depth [ zero ↦ Some i | suc d ↦ arm_from (suc i) d lines ]
    ] ≡ slice_get (arms_before mark i arms) depth
unfolding arms_before
before_mark Plain i depth lines arms known = known depth
before_mark Opens i depth lines arms known = known (suc depth) ∙ sym (deeper depth arms)
before_mark Arm i zero lines arms known = here i (arm_from (suc i) 0 lines)
before_mark Arm i (suc d) lines arms known =
    ap (λ b. if b then Some i else arm_from (suc i) (suc d) lines) (apart d) ∙ known (suc d) ∙ sym (deeper d arms)
before_mark Closes i zero lines arms known = refl
before_mark Closes i (suc d) lines arms known = known d

arm_same : (names : Naming) (labels : List ℕ) (i depth : ℕ) (ss : List Stmt) → arm_from i depth (map (line_of names labels) ss) ≡ slice_get (arms_from i ss) depth
unfolding arm_from arms_from line_of
arm_same names labels i depth [] = refl
arm_same names labels i depth (s ∷ ss) =
    before_mark (mark_of s.body) i depth (map (line_of names labels) ss) (arms_from (suc i) ss) (λ d. arm_same names labels (suc i) d ss)

first_there : (arms : List ℕ) → slice_get arms 0 ≡ first_arm arms
unfolding first_arm
first_there [] = refl
first_there (arm ∷ arms) = refl

after_same : (p : ProgramUnit) (names : Naming) (ss : List Stmt) (i : ℕ) → IsReadAs p names ss → arm_after p i ≡ first_arm (arms_from (suc i) (drop (suc i) ss))
unfolding arm_after
after_same p names ss i reads =
    ap (λ (ls : List Line). arm_from (suc i) 0 (drop (suc i) ls)) reads.lines ∙ ap (arm_from (suc i) 0) (drop-map (line_of names (from_all loop_label_in ss)) (suc i) ss)
    ∙ arm_same names (from_all loop_label_in ss) (suc i) 0 (drop (suc i) ss) ∙ first_there (arms_from (suc i) (drop (suc i) ss))

next_there : (i : ℕ) (ss : List Stmt) (k : ℕ) → k < length ss → get_or (next_from i ss) k None ≡ first_arm (arms_from (suc (i + k)) (drop (suc k) ss))
unfolding next_from
next_there i [] k h = absurd (omega (arith, h))
next_there i (s ∷ ss) zero h = ap (λ n. first_arm (arms_from (suc n) ss)) (let e : i ≡ i + 0 = omega arith in e)
next_there i (s ∷ ss) (suc k) h =
    next_there (suc i) ss k (let e : suc k < suc (length ss) = h in omega (arith, e)) ∙ ap (λ n. first_arm (arms_from (suc n) (drop (suc k) ss))) (let e : suc i + k ≡ i + suc k = omega arith in e)

length_next : (i : ℕ) (ss : List Stmt) → length (next_from i ss) ≡ length ss
unfolding next_from
length_next i [] = refl
length_next i (s ∷ ss) = ap suc (length_next (suc i) ss)

pub next_count : (ss : List Stmt) (next : List (Option ℕ)) → next ≡ next_from 0 ss → length next ≡ length ss
next_count ss next is = ap length is ∙ length_next 0 ss

pub next_is : (p : ProgramUnit) (names : Naming) (ss : List Stmt) (next : List (Option ℕ)) (i : ℕ) → next ≡ next_from 0 ss → IsReadAs p names ss → i < length ss → get_or next i None ≡ arm_after p i
next_is p names ss next i is reads h =
    ap (λ ns. get_or ns i None) is ∙ next_there 0 ss i h ∙ ap (λ n. first_arm (arms_from (suc n) (drop (suc i) ss))) (let e : 0 + i ≡ i = omega arith in e)
    ∙ sym (after_same p names ss i reads)
