-- The arms that statements stand in, by the innermost of each.
use Rattle.std.proofs.Common.{◌≡◌, ℕ, zero, suc, ◌+◌, ◌<◌, ◌≤◌, Bool, true, false, not, ◌||◌, List, [], ◌∷◌, ◌++◌, drop, drop-cons, get_or, length, nat_eq, Option, Some, None, is_some, if◌then◌else◌, refl, sym, ap, subst, ◌∙◌, arith}
use Rattle.std.specs.List.{list_any}
use Rattle.std.proofs.lemmas.Bool.Decides.{nat_tests}
use Rattle.std.proofs.lemmas.List.{get_or_append_left, get_or_default}
use Rattle.std.proofs.Math.Seq.{get_or-append_seam}
use Rattle.f_tree.specs.declared.statements.Stmt.{Stmt}
use Rattle.f_tree.specs.Facts.{Mark, Plain, Opens, Arm, Closes}
use Rattle.f_tree.specs.Lines.{mark_of}
use Rattle.declaration_rows.specs.BlockRows.{arms_at, arms_behind, arms_from, is_outside_arms}
use Rattle.block_judge.specs.Arms.{arms_in, enters_arm, with_arm, IsWithin, AreNumbered, AreArms, places_to, arm_around, arm_at, arm_instead, arm_behind}
use Rattle.loop_ranges.proofs.Conditions.{by_bool, equal_by, length_more}

same_place : (n : ℕ) → nat_eq n n ≡ true
same_place n = grind (arith, nat_tests)

other_place : (n m : ℕ) → m < n → nat_eq n m ≡ false
other_place n m h = grind (arith, nat_tests)

pub same_arm : (a b : ℕ) → a ≡ b → nat_eq a b ≡ true
same_arm a b is = ap (nat_eq a) (sym is) ∙ same_place a

pub other_arm : (a b : ℕ) → (a ≡ b → ⊥) → nat_eq a b ≡ false
other_arm a b differ = by_bool (nat_eq a b ≡ false) (nat_eq a b) (λ yes'. absurd (differ (equal_by a b yes'))) (λ no'. no')

-- PLACES OF INNERMOST ARMS
pub within_some : (o : Option ℕ) (n arm : ℕ) → IsWithin o n → o ≡ Some arm → arm < n
unfolding IsWithin
within_some o n arm within is = subst (λ p. IsWithin p n) is within

pub within_later : (o : Option ℕ) (n m : ℕ) → n ≤ m → IsWithin o n → IsWithin o m
unfolding IsWithin
within_later None n m h within = tt
within_later (Some arm) n m h within = omega (arith, within)

pub within_none : (n : ℕ) → IsWithin None n
unfolding IsWithin
within_none n = tt

within_of : (arm n : ℕ) → arm < n → IsWithin (Some arm) n
unfolding IsWithin
within_of arm n h = h

pub around_within : (arms : List (Option ℕ)) (o : Option ℕ) (n : ℕ) → length arms ≡ n → AreNumbered arms → IsWithin o n → IsWithin (arm_around arms o) n
unfolding arm_around
around_within arms None n same numbered within = within
around_within arms (Some arm) n same numbered within =
    let h : arm < n = within_some (Some arm) n arm within refl in
    within_later (get_or arms arm None) arm n (omega arith) (numbered.within arm (omega arith))

pub at_within : (arms : List (Option ℕ)) (mark : Mark) (o : Option ℕ) (n : ℕ) → length arms ≡ n → AreNumbered arms → IsWithin o n → IsWithin (arm_at arms mark o) n
unfolding arm_at
at_within arms Plain o n same numbered within = within
at_within arms Opens o n same numbered within = within
at_within arms Arm o n same numbered within = around_within arms o n same numbered within
at_within arms Closes o n same numbered within = around_within arms o n same numbered within

instead_within : (place : ℕ) (o : Option ℕ) → IsWithin (arm_instead place o) (place + 1)
unfolding arm_instead IsWithin
instead_within place None = tt
instead_within place (Some arm) = omega arith

pub behind_within : (mark : Mark) (place : ℕ) (o stands : Option ℕ) → IsWithin o place → IsWithin stands place → IsWithin (arm_behind mark place o stands) (place + 1)
unfolding arm_behind
behind_within Plain place o stands within at_it = within_later o place (place + 1) (omega arith) within
behind_within Opens place o stands within at_it = within_of place (place + 1) (omega arith)
behind_within Arm place o stands within at_it = instead_within place o
behind_within Closes place o stands within at_it = within_later stands place (place + 1) (omega arith) at_it

pub read_within : (arms : List (Option ℕ)) (i n : ℕ) (o d : Option ℕ) → AreNumbered arms → i < length arms → i ≤ n → o ≡ get_or arms i d → IsWithin o n
read_within arms i n o d numbered h low is = subst (λ p. IsWithin p n) (get_or_default arms i None d h ∙ sym is) (within_later (get_or arms i None) i n low (numbered.within i h))

-- THE ARMS AT A STATEMENT AND BEHIND IT
around_is : (ss : List Stmt) (arms : List (Option ℕ)) (o : Option ℕ) (n : ℕ) → length arms ≡ n → AreArms ss arms → IsWithin o n → arms_at Closes (with_arm ss o) ≡ with_arm ss (arm_around arms o)
unfolding with_arm arm_around arms_at
around_is ss arms None n same known within = refl
around_is ss arms (Some arm) n same known within =
    let h : arm < n = within_some (Some arm) n arm within refl in
    known.chain arm (omega arith)

arm_as_closes : (arms : List ℕ) → arms_at Arm arms ≡ arms_at Closes arms
unfolding arms_at
arm_as_closes [] = refl
arm_as_closes (arm ∷ arms) = refl

at_is : (ss : List Stmt) (arms : List (Option ℕ)) (mark : Mark) (o : Option ℕ) (n : ℕ) → length arms ≡ n → AreArms ss arms → IsWithin o n
    → arms_at mark (with_arm ss o) ≡ with_arm ss (arm_at arms mark o)
unfolding arm_at arms_at
at_is ss arms Plain o n same known within = refl
at_is ss arms Opens o n same known within = refl
at_is ss arms Arm o n same known within = arm_as_closes (with_arm ss o) ∙ around_is ss arms o n same known within
at_is ss arms Closes o n same known within = around_is ss arms o n same known within

instead_is : (ss : List Stmt) (place : ℕ) (o : Option ℕ) → arms_in ss place ≡ arms_at Arm (with_arm ss o) → arms_behind Arm place (with_arm ss o) ≡ with_arm ss (arm_instead place o)
unfolding with_arm arm_instead arms_behind arms_at
instead_is ss place None here = refl
instead_is ss place (Some arm) here = ap (λ arms. place ∷ arms) (sym here)

plain_behind : (place : ℕ) (arms : List ℕ) → arms_behind Plain place arms ≡ arms
unfolding arms_behind arms_at
plain_behind place arms = refl

opens_behind : (place : ℕ) (arms : List ℕ) → arms_behind Opens place arms ≡ place ∷ arms
unfolding arms_behind
opens_behind place arms = refl

opens_at : (arms : List ℕ) → arms_at Opens arms ≡ arms
unfolding arms_at
opens_at arms = refl

closes_behind : (place : ℕ) (arms : List ℕ) → arms_behind Closes place arms ≡ arms_at Closes arms
unfolding arms_behind
closes_behind place arms = refl

with_some : (ss : List Stmt) (arm : ℕ) → with_arm ss (Some arm) ≡ arm ∷ arms_in ss arm
unfolding with_arm
with_some ss arm = refl

behind_is : (ss : List Stmt) (mark : Mark) (place : ℕ) (o stands : Option ℕ) → arms_in ss place ≡ arms_at mark (with_arm ss o) → arms_in ss place ≡ with_arm ss stands
    → arms_behind mark place (with_arm ss o) ≡ with_arm ss (arm_behind mark place o stands)
unfolding arm_behind
behind_is ss Plain place o stands here is = plain_behind place (with_arm ss o)
behind_is ss Opens place o stands here is = opens_behind place (with_arm ss o) ∙ ap (λ arms. place ∷ arms) (sym (here ∙ opens_at (with_arm ss o))) ∙ sym (with_some ss place)
behind_is ss Arm place o stands here is = instead_is ss place o here
behind_is ss Closes place o stands here is = closes_behind place (with_arm ss o) ∙ sym here ∙ is

-- A WALK OVER THE STATEMENTS: the arms at the statements from a place on, by those that are open there
pub record Reaches (ss : List Stmt) (place : ℕ) (inner : Option ℕ) : Type 0 where
  pub on : (p : ℕ) → place ≤ p → arms_in ss p ≡ arms_from p place (with_arm ss inner) (drop place ss)

pub reaches_first : (ss : List Stmt) → Reaches ss 0 None
unfolding arms_in with_arm
reaches_first ss = record { on = λ p h. refl }

from_here : (place : ℕ) (arms : List ℕ) (s : Stmt) (ss : List Stmt) → arms_from place place arms (s ∷ ss) ≡ arms_at (mark_of s.body) arms
unfolding arms_from
from_here place arms s ss = ap (λ b. if b then arms_at (mark_of s.body) arms else arms_from place (suc place) (arms_behind (mark_of s.body) place arms) ss) (same_place place)

from_later : (p place : ℕ) (arms : List ℕ) (s : Stmt) (ss : List Stmt) → place < p → arms_from p place arms (s ∷ ss) ≡ arms_from p (suc place) (arms_behind (mark_of s.body) place arms) ss
unfolding arms_from
from_later p place arms s ss h = ap (λ b. if b then arms_at (mark_of s.body) arms else arms_from p (suc place) (arms_behind (mark_of s.body) place arms) ss) (other_place p place h)

here_is : (ss : List Stmt) (place : ℕ) (s : Stmt) (inner : Option ℕ) (mark : Mark) → place < length ss → s ≡ get_or ss place s → mark ≡ mark_of s.body → Reaches ss place inner
    → arms_in ss place ≡ arms_at mark (with_arm ss inner)
here_is ss place s inner mark h is reads reaches =
    reaches.on place (omega arith) ∙ ap (arms_from place place (with_arm ss inner)) (drop-cons ss place s h)
    ∙ from_here place (with_arm ss inner) (get_or ss place s) (drop (suc place) ss)
    ∙ ap (λ (t : Stmt). arms_at (mark_of t.body) (with_arm ss inner)) (sym is) ∙ ap (λ m. arms_at m (with_arm ss inner)) (sym reads)

pub reaches_more : (ss : List Stmt) (arms : List (Option ℕ)) (place : ℕ) (s : Stmt) (inner stands after : Option ℕ) (mark : Mark) → place < length ss → s ≡ get_or ss place s
    → mark ≡ mark_of s.body → length arms ≡ place → AreArms ss arms → IsWithin inner place → stands ≡ arm_at arms mark inner → after ≡ arm_behind mark place inner stands
    → Reaches ss place inner → Reaches ss (place + 1) after
reaches_more ss arms place s inner stands after mark h is reads same known within stands_is after_is reaches =
    let here : arms_in ss place ≡ arms_at mark (with_arm ss inner) = here_is ss place s inner mark h is reads reaches in
    let next : arms_behind mark place (with_arm ss inner) ≡ with_arm ss after =
    behind_is ss mark place inner stands here (here ∙ at_is ss arms mark inner place same known within ∙ ap (with_arm ss) (sym stands_is)) ∙ ap (with_arm ss) (sym after_is) in
    let one : suc place ≡ place + 1 = omega arith in
    record {
      on = λ p later.
          reaches.on p (omega arith) ∙ ap (arms_from p place (with_arm ss inner)) (drop-cons ss place s h)
          ∙ from_later p place (with_arm ss inner) (get_or ss place s) (drop (suc place) ss) (omega arith)
          ∙ ap (λ (t : Stmt). arms_from p (suc place) (arms_behind (mark_of t.body) place (with_arm ss inner)) (drop (suc place) ss)) (sym is)
          ∙ ap (λ m. arms_from p (suc place) (arms_behind m place (with_arm ss inner)) (drop (suc place) ss)) (sym reads)
          ∙ ap (λ ars. arms_from p (suc place) ars (drop (suc place) ss)) next ∙ ap (λ n. arms_from p n (with_arm ss after) (drop n ss)) one;
    }

-- one statement more is numbered
put_at : (arms : List (Option ℕ)) (stands d : Option ℕ) → get_or (arms ++ stands ∷ []) (length arms) d ≡ stands
put_at arms stands d = get_or-append_seam arms stands [] d

-- what holds of each of some, and of one more, holds of each with that one more
each_more : (P : ℕ → Option ℕ → Type 0) (arms after : List (Option ℕ)) (stands : Option ℕ) → after ≡ arms ++ stands ∷ [] → ((i : ℕ) → i < length arms → P i (get_or arms i None)) → P (length arms) stands
    → (i : ℕ) → i < length after → P i (get_or after i None)
each_more P arms after stands put each here i h =
    let within : i < suc (length arms) = let e = ap length put in let f = length_more arms stands in omega (arith, e, f, h) in
    by_bool (P i (get_or after i None)) (nat_eq i (length arms))
    (λ yes'. subst (λ xs. P i (get_or xs i None)) (sym put)
    (subst (λ n. P n (get_or (arms ++ stands ∷ []) n None)) (sym (equal_by i (length arms) yes')) (subst (P (length arms)) (sym (put_at arms stands None)) here)))
    (λ no'. let less : i < length arms = grind (arith, nat_tests) in
    subst (λ xs. P i (get_or xs i None)) (sym put) (subst (P i) (sym (get_or_append_left arms (stands ∷ []) None i less)) (each i less)))

pub numbered_none : (arms : List (Option ℕ)) → arms ≡ [] → AreNumbered arms
numbered_none arms none = record { within = λ i h. absurd (let e = ap length none in omega (arith, e, h)) }

pub known_none : (ss : List Stmt) (arms : List (Option ℕ)) → arms ≡ [] → AreArms ss arms
known_none ss arms none = record { chain = λ i h. absurd (let e = ap length none in omega (arith, e, h)) }

pub numbered_more : (arms after : List (Option ℕ)) (stands : Option ℕ) → after ≡ arms ++ stands ∷ [] → AreNumbered arms → IsWithin stands (length arms) → AreNumbered after
numbered_more arms after stands put numbered here = record { within = each_more (λ i o. IsWithin o i) arms after stands put numbered.within here }

pub known_more : (ss : List Stmt) (arms after : List (Option ℕ)) (place : ℕ) (s : Stmt) (inner stands : Option ℕ) (mark : Mark) → place < length ss → s ≡ get_or ss place s
    → mark ≡ mark_of s.body → length arms ≡ place → AreArms ss arms → IsWithin inner place → stands ≡ arm_at arms mark inner → after ≡ arms ++ stands ∷ []
    → Reaches ss place inner → AreArms ss after
known_more ss arms after place s inner stands mark h is reads same known within stands_is put reaches = record {
  chain = each_more (λ i o. arms_in ss i ≡ with_arm ss o) arms after stands put known.chain
      (subst (λ n. arms_in ss n ≡ with_arm ss stands) (sym same)
      (here_is ss place s inner mark h is reads reaches ∙ at_is ss arms mark inner place same known within ∙ ap (with_arm ss) (sym stands_is)));
}

pub count_more : (arms after : List (Option ℕ)) (stands : Option ℕ) (place : ℕ) → length arms ≡ place → after ≡ arms ++ stands ∷ [] → length after ≡ place + 1
count_more arms after stands place same put = ap length put ∙ length_more arms stands ∙ (let e : suc (length arms) ≡ place + 1 = omega arith in e)

-- ONE ARM AMONG THOSE AROUND A STATEMENT
pub among_here : (ss : List Stmt) (arms : List (Option ℕ)) (place arm : ℕ) (o d : Option ℕ) → AreArms ss arms → place < length arms → o ≡ get_or arms place d
    → list_any (nat_eq arm) (arms_in ss place) ≡ list_any (nat_eq arm) (with_arm ss o)
among_here ss arms place arm o d known h is =
    ap (list_any (nat_eq arm)) (known.chain place h ∙ ap (with_arm ss) (get_or_default arms place None d h ∙ sym is))

pub among_some : (ss : List Stmt) (arm other : ℕ) (o : Option ℕ) → o ≡ Some other → list_any (nat_eq arm) (with_arm ss o) ≡ (nat_eq arm other || list_any (nat_eq arm) (arms_in ss other))
unfolding with_arm
among_some ss arm other o is = ap (λ p. list_any (nat_eq arm) (with_arm ss p)) is

pub to_of : (o : Option ℕ) (arm : ℕ) → o ≡ Some arm → places_to o ≡ suc arm
unfolding places_to
to_of o arm is = ap places_to is

pub to_within : (o : Option ℕ) (n : ℕ) → IsWithin o n → places_to o ≤ n
unfolding places_to IsWithin
to_within None n within = omega arith
to_within (Some arm) n within = omega (arith, within)

pub among_none : (ss : List Stmt) (arm : ℕ) (o : Option ℕ) → o ≡ None → list_any (nat_eq arm) (with_arm ss o) ≡ false
unfolding with_arm
among_none ss arm o is = ap (λ p. list_any (nat_eq arm) (with_arm ss p)) is

or_right : (b c : Bool) → c ≡ true → (b || c) ≡ true
or_right true c is = refl
or_right false c is = is

-- what stands in an arm stands in those around the arm
covers_by : (ss : List Stmt) (arms : List (Option ℕ)) (i a b : ℕ) (o : Option ℕ) → AreNumbered arms → AreArms ss arms → i < length arms → get_or arms i None ≡ o
    → list_any (nat_eq a) (arms_in ss i) ≡ true → list_any (nat_eq b) (arms_in ss a) ≡ true
    → ((c : ℕ) → c < i → list_any (nat_eq a) (arms_in ss c) ≡ true → list_any (nat_eq b) (arms_in ss c) ≡ true) → list_any (nat_eq b) (arms_in ss i) ≡ true
covers_by ss arms i a b None numbered known h is stands around further =
    absurd (let e = sym (among_here ss arms i a None None known h (sym is) ∙ among_none ss a None refl) ∙ stands in cc)
covers_by ss arms i a b (Some c) numbered known h is stands around further =
    let less : c < i = within_some (get_or arms i None) i c (numbered.within i h) is in
    let have : (nat_eq a c || list_any (nat_eq a) (arms_in ss c)) ≡ true =
    sym (among_some ss a c (Some c) refl) ∙ sym (among_here ss arms i a (Some c) None known h (sym is)) ∙ stands in
    among_here ss arms i b (Some c) None known h (sym is) ∙ among_some ss b c (Some c) refl
    ∙ or_right (nat_eq b c) (list_any (nat_eq b) (arms_in ss c))
    (by_bool (list_any (nat_eq b) (arms_in ss c) ≡ true) (nat_eq a c)
    (λ yes'. subst (λ m. list_any (nat_eq b) (arms_in ss m) ≡ true) (equal_by a c yes') around)
    (λ no'. further c less (sym (ap (λ d. d || list_any (nat_eq a) (arms_in ss c)) no') ∙ have)))

covers : (ss : List Stmt) (arms : List (Option ℕ)) → AreNumbered arms → AreArms ss arms → (n i a b : ℕ) → i < n → i < length arms → list_any (nat_eq a) (arms_in ss i) ≡ true
    → list_any (nat_eq b) (arms_in ss a) ≡ true → list_any (nat_eq b) (arms_in ss i) ≡ true
covers ss arms numbered known zero i a b below h stands around = absurd (omega (arith, below))
covers ss arms numbered known (suc n) i a b below h stands around =
    covers_by ss arms i a b (get_or arms i None) numbered known h refl stands around
    (λ c less still. covers ss arms numbered known n c a b (omega (arith, below, less)) (omega (arith, less, h)) still around)

none_outside : (xs ys : List ℕ) → ((b : ℕ) → list_any (nat_eq b) xs ≡ true → list_any (nat_eq b) ys ≡ true) → list_any (λ b. not (list_any (nat_eq b) ys)) xs ≡ false
none_outside [] ys within = refl
none_outside (x ∷ xs) ys within =
    ap (λ b. not b || list_any (λ y. not (list_any (nat_eq y) ys)) xs) (within x (ap (λ b. b || list_any (nat_eq x) xs) (same_place x)))
    ∙ none_outside xs ys (λ b h. within b (or_right (nat_eq b x) (list_any (nat_eq b) xs) h))

enters_by : (ss : List Stmt) (arms : List (Option ℕ)) (from to arm : ℕ) → AreNumbered arms → AreArms ss arms → from < length arms → to < length arms → get_or arms to None ≡ Some arm
    → enters_arm ss from to ≡ (not (list_any (nat_eq arm) (arms_in ss from)) || list_any (λ b. not (list_any (nat_eq b) (arms_in ss from))) (arms_in ss arm))
unfolding enters_arm with_arm
enters_by ss arms from to arm numbered known h k is = ap (list_any (λ b. not (list_any (nat_eq b) (arms_in ss from)))) (known.chain to k ∙ ap (with_arm ss) is)

pub enters_some : (ss : List Stmt) (arms : List (Option ℕ)) (from to arm : ℕ) (o d : Option ℕ) (stands : Bool) → AreNumbered arms → AreArms ss arms → from < length arms → to < length arms
    → o ≡ get_or arms to d → o ≡ Some arm → stands ≡ list_any (nat_eq arm) (arms_in ss from) → not stands ≡ enters_arm ss from to
enters_some ss arms from to arm o d stands numbered known h k read is stands_is =
    ap not stands_is
    ∙ sym
    (enters_by ss arms from to arm numbered known h k (get_or_default arms to None d k ∙ sym read ∙ is)
    ∙ by_bool
    ((not (list_any (nat_eq arm) (arms_in ss from)) || list_any (λ b. not (list_any (nat_eq b) (arms_in ss from))) (arms_in ss arm)) ≡ not (list_any (nat_eq arm) (arms_in ss from)))
    (list_any (nat_eq arm) (arms_in ss from))
    (λ yes'. ap (λ c. not c || list_any (λ b. not (list_any (nat_eq b) (arms_in ss from))) (arms_in ss arm)) yes'
    ∙ none_outside (arms_in ss arm) (arms_in ss from) (λ b. covers ss arms numbered known (suc from) from arm b (omega arith) h yes') ∙ ap not (sym yes'))
    (λ no'. ap (λ c. not c || list_any (λ b. not (list_any (nat_eq b) (arms_in ss from))) (arms_in ss arm)) no' ∙ ap not (sym no')))

pub enters_none : (ss : List Stmt) (arms : List (Option ℕ)) (from to : ℕ) (o d : Option ℕ) → AreArms ss arms → to < length arms → o ≡ get_or arms to d → o ≡ None → false ≡ enters_arm ss from to
unfolding enters_arm with_arm
enters_none ss arms from to o d known k read is =
    sym (ap (list_any (λ b. not (list_any (nat_eq b) (arms_in ss from)))) (known.chain to k ∙ ap (with_arm ss) (get_or_default arms to None d k ∙ sym read ∙ is)))

-- no arm around a statement
pub turned : (b c : Bool) → b ≡ not c → c ≡ not b
turned true true is = absurd (cc)
turned true false is = refl
turned false true is = refl
turned false false is = absurd (cc)

outside_by : (ss : List Stmt) (o : Option ℕ) → is_outside_arms (with_arm ss o) ≡ not (is_some o)
unfolding is_outside_arms with_arm
outside_by ss None = refl
outside_by ss (Some arm) = refl

pub outside_arms : (ss : List Stmt) (arms : List (Option ℕ)) (place : ℕ) (o d : Option ℕ) (result : Bool) → AreArms ss arms → place < length arms → o ≡ get_or arms place d
    → is_some o ≡ not result → result ≡ is_outside_arms (arms_in ss place)
outside_arms ss arms place o d result known h is some =
    turned (is_some o) result some ∙ sym (outside_by ss o) ∙ ap (λ p. is_outside_arms (with_arm ss p)) (is ∙ get_or_default arms place d None h)
    ∙ ap is_outside_arms (sym (known.chain place h))
