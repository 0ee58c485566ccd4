-- There is a number that does not stand yet while fewer stand than there are, and no more stand than there are where none stands twice.
use Rattle.std.proofs.Common.{◌≡◌, refl, sym, ap, ◌∙◌, subst, ℕ, zero, suc, ◌≤◌, ◌<◌, ℤ, pos, Bool, true, false, not, ◌||◌, List, [], ◌∷◌, ◌++◌, length, filter, if◌then◌else◌, arith}
use Rattle.std.specs.List.{list_any}
use Rattle.std.specs.Ordering.{int_eq}
use Rattle.std.proofs.lemmas.Bool.{or_parts, or_from}
use Rattle.std.proofs.lemmas.Bool.Decides.{Decides-int_eq}
use Rattle.std.proofs.lemmas.List.Folds.{list_any-append}
use Rattle.c_grammar_laws.specs.c_tree.CStatementText.{has_twice}

pub same-number : (a b : ℤ) → int_eq a b ≡ true → a ≡ b
same-number a b h = (Decides-int_eq a b).0 h

pub own-number : (a : ℤ) → int_eq a a ≡ true
own-number a = (Decides-int_eq a a).1 refl

other-by : (a b : ℤ) (does : Bool) → int_eq a b ≡ does → (a ≡ b → ⊥) → does ≡ false
other-by a b false h apart = refl
other-by a b true h apart = absurd (apart (same-number a b h))

pub other-number : (a b : ℤ) → (a ≡ b → ⊥) → int_eq a b ≡ false
other-number a b apart = other-by a b (int_eq a b) refl apart

apart-by : (a b : ℤ) → int_eq a b ≡ false → a ≡ b → ⊥
apart-by a b h is = let e : true ≡ false = sym (subst (λ z. int_eq a z ≡ true) is (own-number a)) ∙ h in absurd (cc)

pub turned : (a b : ℤ) → int_eq a b ≡ false → int_eq b a ≡ false
turned a b h = other-number b a (λ is. apart-by a b h (sym is))

-- whether a number stands
abbrev pub among : ℤ → List ℤ → Bool
among n numbers = list_any (int_eq n) numbers

-- the other numbers
abbrev others : ℤ → List ℤ → List ℤ
others n numbers = filter (λ m. not (int_eq n m)) numbers

others-kept : (n first : ℤ) (more : List ℤ) → int_eq n first ≡ false → others n (first ∷ more) ≡ first ∷ others n more
others-kept n first more h = ap (λ (t : Bool). if not t then first ∷ others n more else others n more) h

others-left : (n first : ℤ) (more : List ℤ) → int_eq n first ≡ true → others n (first ∷ more) ≡ others n more
others-left n first more h = ap (λ (t : Bool). if not t then first ∷ others n more else others n more) h

-- another number stands among the others where it stands
others-same : (k n : ℤ) (numbers : List ℤ) → (k ≡ n → ⊥) → among k (others n numbers) ≡ among k numbers
others-same k n [] apart = refl
others-same k n (first ∷ more) apart = by (int_eq n first) refl (others-same k n more apart)
  where
    by : (same : Bool) → int_eq n first ≡ same → among k (others n more) ≡ among k more → among k (others n (first ∷ more)) ≡ among k (first ∷ more)
    by true h later =
        ap (among k) (others-left n first more h)
        ∙ (later ∙ sym (ap (λ z. z || among k more) (other-number k first (λ is. apart (is ∙ sym (same-number n first h))))))
    by false h later = ap (among k) (others-kept n first more h) ∙ ap (λ z. int_eq k first || z) later

others-fewer : (n : ℤ) (numbers : List ℤ) → length (others n numbers) ≤ length numbers
others-fewer n [] = omega arith
others-fewer n (first ∷ more) = by (int_eq n first) refl (others-fewer n more)
  where
    by : (same : Bool) → int_eq n first ≡ same → length (others n more) ≤ length more → length (others n (first ∷ more)) ≤ suc (length more)
    by true h later = subst (λ z. length z ≤ suc (length more)) (sym (others-left n first more h)) (omega (arith, later))
    by false h later = subst (λ z. length z ≤ suc (length more)) (sym (others-kept n first more h)) (omega (arith, later))

-- they are fewer where it stands
others-less : (n : ℤ) (numbers : List ℤ) → among n numbers ≡ true → suc (length (others n numbers)) ≤ length numbers
others-less n [] h = absurd (let e : false ≡ true = h in cc)
others-less n (first ∷ more) h = by (int_eq n first) refl (λ g. others-less n more g)
  where
    by : (same : Bool) → int_eq n first ≡ same → (among n more ≡ true → suc (length (others n more)) ≤ length more) → suc (length (others n (first ∷ more))) ≤ suc (length more)
    by true k later =
        let few = others-fewer n more in subst (λ z. suc (length z) ≤ suc (length more)) (sym (others-left n first more k)) (omega (arith, few))
    by false k later =
        let less = later (sym (ap (λ z. z || among n more) k) ∙ h) in
        subst (λ z. suc (length z) ≤ suc (length more)) (sym (others-kept n first more k)) (omega (arith, less))

-- A number that is not too great and does not stand.
pub record Absent (most : ℕ) (numbers : List ℤ) : Type 0 where
  pub n : ℕ
  pub small : n ≤ most
  pub new : among (pos n) numbers ≡ false

pos-same : (m n : ℕ) → pos m ≡ pos n → m ≡ n
pos-same m n h = cc

pub absent : (most : ℕ) (numbers : List ℤ) → length numbers ≤ most → Absent most numbers
absent zero [] few = record { n = 0; small = omega arith; new = refl }
absent zero (first ∷ more) few = absurd (let h : suc (length more) ≤ 0 = few in omega (arith, h))
absent (suc most) numbers few = by (among (pos (suc most)) numbers) refl (λ less. absent most (others (pos (suc most)) numbers) less)
  where
    by : (there : Bool) → among (pos (suc most)) numbers ≡ there → (length (others (pos (suc most)) numbers) ≤ most → Absent most (others (pos (suc most)) numbers))
        → Absent (suc most) numbers
    by false h later = record { n = suc most; small = omega arith; new = h }
    by true h later =
        let less = others-less (pos (suc most)) numbers h in
        let a = later (omega (arith, less, few)) in
        let low = a.small in
        record {
          n = a.n;
          small = omega (arith, low);
          new = sym (others-same (pos a.n) (pos (suc most)) numbers (λ is. let e = pos-same a.n (suc most) is in omega (arith, e, low))) ∙ a.new;
        }

-- ## Numbers of which none stands twice

pub twice-push : (numbers : List ℤ) (n : ℤ) → has_twice numbers ≡ false → among n numbers ≡ false → has_twice (numbers ++ (n ∷ [])) ≡ false
twice-push [] n h g = refl
twice-push (first ∷ more) n h g =
    let k = or_parts (among first more) (has_twice more) h in
    let l = or_parts (int_eq n first) (among n more) g in
    or_from (among first (more ++ (n ∷ []))) (has_twice (more ++ (n ∷ [])))
    (list_any-append (int_eq first) more (n ∷ []) ∙ or_from (among first more) (int_eq first n || false) k.0 (or_from (int_eq first n) false (turned n first l.0) refl))
    (twice-push more n k.1 l.1)

-- and the other way round
pub twice-front : (numbers later : List ℤ) → has_twice (numbers ++ later) ≡ false → has_twice numbers ≡ false
twice-front [] later h = refl
twice-front (first ∷ more) later h =
    let k = or_parts (among first (more ++ later)) (has_twice (more ++ later)) h in
    let l = or_parts (among first more) (among first later) (sym (list_any-append (int_eq first) more later) ∙ k.0) in
    or_from (among first more) (has_twice more) l.0 (twice-front more later k.1)

pub twice-new : (numbers later : List ℤ) (n : ℤ) → has_twice (numbers ++ (n ∷ later)) ≡ false → among n numbers ≡ false
twice-new [] later n h = refl
twice-new (first ∷ more) later n h =
    let k = or_parts (among first (more ++ (n ∷ later))) (has_twice (more ++ (n ∷ later))) h in
    let l = or_parts (among first more) (among first (n ∷ later)) (sym (list_any-append (int_eq first) more (n ∷ later)) ∙ k.0) in
    let m = or_parts (int_eq first n) (among first later) l.1 in
    or_from (int_eq n first) (among n more) (turned first n m.0) (twice-new more later n k.1)

-- numbers below a limit
pub data Below (limit : ℕ) : List ℤ → Type 0 where
  none : Below limit []
  one : (n : ℕ) {numbers : List ℤ} → n < limit → Below limit numbers → Below limit (pos n ∷ numbers)

others-below : (limit : ℕ) (numbers : List ℤ) → Below (suc limit) numbers → Below limit (others (pos limit) numbers)
others-below limit _ none = none
others-below limit _ (one n {numbers = more} low all) = by (int_eq (pos limit) (pos n)) refl (others-below limit more all)
  where
    by : (same : Bool) → int_eq (pos limit) (pos n) ≡ same → Below limit (others (pos limit) more) → Below limit (others (pos limit) (pos n ∷ more))
    by true h later = subst (Below limit) (sym (others-left (pos limit) (pos n) more h)) later
    by false h later =
        subst (Below limit) (sym (others-kept (pos limit) (pos n) more h))
        (one n (below limit n low (λ is. apart-by (pos limit) (pos n) h (ap pos (sym is)))) later)
      where
        below : (limit n : ℕ) → n < suc limit → (n ≡ limit → ⊥) → n < limit
        below limit n h apart = omega (arith, h, apart)

others-absent : (k n : ℤ) (numbers : List ℤ) → among k numbers ≡ false → among k (others n numbers) ≡ false
others-absent k n [] h = refl
others-absent k n (first ∷ more) h = by (int_eq n first) refl (others-absent k n more (or_parts (int_eq k first) (among k more) h).1)
  where
    by : (same : Bool) → int_eq n first ≡ same → among k (others n more) ≡ false → among k (others n (first ∷ more)) ≡ false
    by true g later = ap (among k) (others-left n first more g) ∙ later
    by false g later =
        ap (among k) (others-kept n first more g) ∙ or_from (int_eq k first) (among k (others n more)) (or_parts (int_eq k first) (among k more) h).0 later

others-all : (n : ℤ) (numbers : List ℤ) → among n numbers ≡ false → others n numbers ≡ numbers
others-all n [] h = refl
others-all n (first ∷ more) h =
    let k = or_parts (int_eq n first) (among n more) h in others-kept n first more k.0 ∙ ap (λ z. first ∷ z) (others-all n more k.1)

others-twice : (n : ℤ) (numbers : List ℤ) → has_twice numbers ≡ false → has_twice (others n numbers) ≡ false
others-twice n [] h = refl
others-twice n (first ∷ more) h = by (int_eq n first) refl (others-twice n more (or_parts (among first more) (has_twice more) h).1)
  where
    by : (same : Bool) → int_eq n first ≡ same → has_twice (others n more) ≡ false → has_twice (others n (first ∷ more)) ≡ false
    by true g later = ap has_twice (others-left n first more g) ∙ later
    by false g later =
        ap has_twice (others-kept n first more g)
        ∙ or_from (among first (others n more)) (has_twice (others n more)) (others-absent first n more (or_parts (among first more) (has_twice more) h).0) later

-- where none stands twice, one number stands once at most
others-once : (n : ℤ) (numbers : List ℤ) → has_twice numbers ≡ false → length numbers ≤ suc (length (others n numbers))
others-once n [] h = omega arith
others-once n (first ∷ more) h = by (int_eq n first) refl (others-once n more (or_parts (among first more) (has_twice more) h).1)
  where
    by : (same : Bool) → int_eq n first ≡ same → length more ≤ suc (length (others n more)) → suc (length more) ≤ suc (length (others n (first ∷ more)))
    by true g later =
        let all : others n more ≡ more =
        others-all n more (subst (λ z. among z more ≡ false) (sym (same-number n first g)) (or_parts (among first more) (has_twice more) h).0) in
        let long : length (others n (first ∷ more)) ≡ length more = ap length (others-left n first more g ∙ all) in
        omega (arith, long)
    by false g later =
        let long : length (others n (first ∷ more)) ≡ suc (length (others n more)) = ap length (others-kept n first more g) in omega (arith, long, later)

pub within-limit : (limit : ℕ) (numbers : List ℤ) → Below limit numbers → has_twice numbers ≡ false → length numbers ≤ limit
within-limit zero _ none h = omega arith
within-limit zero _ (one n low all) h = absurd (let k : n < 0 = low in omega (arith, k))
within-limit (suc limit) numbers all h =
    let once = others-once (pos limit) numbers h in
    let fewer = within-limit limit (others (pos limit) numbers) (others-below limit numbers all) (others-twice (pos limit) numbers h) in
    omega (arith, once, fewer)
