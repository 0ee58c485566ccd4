-- The steps of the first statements, counted one after the other.
use Rattle.std.specs.Prelude.{◌≡◌, ℕ, zero, suc, ◌+◌, ◌*◌, ◌<◌, ◌≤◌, min, Bool, true, false, nat_lt, List, [], ◌∷◌, length, refl}
use Rattle.std.proofs.Common.{sym, ap, ◌∙◌, arith, get_or, true≢false}
use Rattle.std.proofs.lemmas.Bool.{ltb-true, lt-ltb}
use Rattle.small_instance.specs.declared.source.Statement.{Statement}
use Rattle.small_instance.specs.declared.source.Statement.TheVariants.{Set, SetCalling, Unless, GoTo, Give, Stop}
use Rattle.small_instance.specs.Translation.{size_of, sizes_before}

pub size-five : (st : Statement) → size_of st ≤ 5
size-five (Set p l r) = omega arith
size-five (SetCalling p l unit by_second a b) = omega arith
size-five (Unless p n) = omega arith
size-five (GoTo n) = omega arith
size-five (Give o) = omega arith
size-five Stop = omega arith

none_before : (body : List Statement) → sizes_before body 0 ≡ 0
none_before [] = refl
none_before (x ∷ body) = refl

pub begun : (body : List Statement) (n : ℕ) → 0 ≡ sizes_before body (min 0 n)
begun body n = let e : min 0 n ≡ 0 = omega arith in sym (ap (sizes_before body) e ∙ none_before body)

-- one more statement
one_more : (body : List Statement) (i : ℕ) (d : Statement) → i < length body → sizes_before body (i + 1) ≡ sizes_before body i + size_of (get_or body i d)
one_more body i d h = let e : i + 1 ≡ suc i = omega arith in ap (sizes_before body) e ∙ go body i h
  where
    go : (body : List Statement) (i : ℕ) → i < length body → sizes_before body (suc i) ≡ sizes_before body i + size_of (get_or body i d)
    go [] i h = absurd (omega arith)
    go (x ∷ body) zero h = let z : sizes_before body 0 ≡ 0 = none_before body in omega arith
    go (x ∷ body) (suc i) h = let rest : sizes_before body (suc i) ≡ sizes_before body i + size_of (get_or body i d) = go body i (omega arith) in omega arith

pub counted : (body : List Statement) (n i total : ℕ) (d : Statement) → i < length body → i < n → total ≡ sizes_before body (min i n) → total + size_of (get_or body i d) ≡ sizes_before body (min (i + 1) n)
counted body n i total d h less e =
    let a : min i n ≡ i = omega arith in
    let b : min (i + 1) n ≡ i + 1 = omega arith in
    let e' : total ≡ sizes_before body i = e ∙ ap (sizes_before body) a in
    let m : sizes_before body (min (i + 1) n) ≡ sizes_before body (i + 1) = ap (sizes_before body) b in
    let s : sizes_before body (i + 1) ≡ sizes_before body i + size_of (get_or body i d) = one_more body i d h in
    omega arith

pub one_counted : (body : List Statement) (n i total size total' : ℕ) (d : Statement) → i < length body → i < n → total ≡ sizes_before body (min i n) → total ≤ 5 * i → size ≡ size_of (get_or body i d) → total' ≡ total + size →
    (total' ≡ sizes_before body (min (i + 1) n)) × (total' ≤ 5 * (i + 1))
one_counted body n i total size total' d h less e small is is' =
    let c : total + size_of (get_or body i d) ≡ sizes_before body (min (i + 1) n) = counted body n i total d h less e in
    let five : size_of (get_or body i d) ≤ 5 = size-five (get_or body i d) in
    (omega arith, omega arith)

pub not_counted : (body : List Statement) (n i total : ℕ) → n ≤ i → total ≡ sizes_before body (min i n) → total ≡ sizes_before body (min (i + 1) n)
not_counted body n i total h e = let a : min i n ≡ min (i + 1) n = omega arith in e ∙ ap (sizes_before body) a

-- past the end nothing is counted
pub all_counted : (body : List Statement) (n i total : ℕ) → length body ≤ i → total ≡ sizes_before body (min i n) → total ≡ sizes_before body n
all_counted body n i total h e = e ∙ go body n i h
  where
    past : (body : List Statement) (k k' : ℕ) → length body ≤ k → length body ≤ k' → sizes_before body k ≡ sizes_before body k'
    past [] k k' h h' = refl
    past (x ∷ body) zero k' h h' = absurd (omega arith)
    past (x ∷ body) (suc k) zero h h' = absurd (omega arith)
    past (x ∷ body) (suc k) (suc k') h h' = ap (λ s. size_of x + s) (past body k k' (omega arith) (omega arith))

    go : (body : List Statement) (n i : ℕ) → length body ≤ i → sizes_before body (min i n) ≡ sizes_before body n
    go body n i h = by (nat_lt i n) refl
      where
        by : (q : Bool) → nat_lt i n ≡ q → sizes_before body (min i n) ≡ sizes_before body n
        by true e =
            let less : i < n = ltb-true i n e in
            let m : min i n ≡ i = omega arith in
            ap (sizes_before body) m ∙ past body i n h (omega arith)
        by false e =
            let not_less : i < n → ⊥ = λ less. true≢false (sym (lt-ltb i n less) ∙ e) in
            let m : min i n ≡ n = omega arith in
            ap (sizes_before body) m
