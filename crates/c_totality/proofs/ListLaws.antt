-- What holds of each of a list, and names among others.
use Rattle.std.specs.Prelude.{◌≡◌, ℕ, ◌+◌, ◌<◌, nat_lt, Bool, true, false, not, cond, ◌&&◌, ◌||◌, List, [], ◌∷◌, ◌++◌, length, filter, position, Some, None, bytes_eq}
use Rattle.std.specs.List.{list_any, position_or_len}
use Rattle.std.proofs.Common.{refl, sym, subst, ap, ◌∙◌, lt-ltb}
use Rattle.std.proofs.lemmas.Slice.Eq.{bytes_eq-Decides}
use native.Mathlib.Omega.{arith}
use Rattle.c_laws.specs.c_tree.CWords.{is_among}
use Rattle.c_totality.specs.Sound.{Each}

-- ## Each

pub each-left : {A : Type 0} (P : A → Type 0) (xs ys : List A) → Each P (xs ++ ys) → Each P xs
each-left P [] ys each = tt
each-left P (x ∷ xs) ys each = (each.0, each-left P xs ys each.1)

pub each-right : {A : Type 0} (P : A → Type 0) (xs ys : List A) → Each P (xs ++ ys) → Each P ys
each-right P [] ys each = each
each-right P (x ∷ xs) ys each = each-right P xs ys each.1

pub each-both : {A : Type 0} (P : A → Type 0) (xs ys : List A) → Each P xs → Each P ys → Each P (xs ++ ys)
each-both P [] ys one two = two
each-both P (x ∷ xs) ys one two = (one.0, each-both P xs ys one.1 two)

pub each-map : {A : Type 0} {P Q : A → Type 0} (xs : List A) → ((x : A) → P x → Q x) → Each P xs → Each Q xs
each-map [] makes each = tt
each-map (x ∷ xs) makes each = (makes x each.0, each-map xs makes each.1)

-- ## Tests

pub both-ways : (b : Bool) {P : Type 0} → b ≡ true → b ≡ false → P
both-ways b one two = absurd (cc)

pub and-left : (a b : Bool) → (a && b) ≡ true → a ≡ true
and-left true b is = refl
and-left false b is = is

pub and-right : (a b : Bool) → (a && b) ≡ true → b ≡ true
and-right true b is = is
and-right false b is = absurd (cc)

pub or-left : (a b : Bool) → (a || b) ≡ false → a ≡ false
or-left true b is = is
or-left false b is = refl

pub or-right : (a b : Bool) → (a || b) ≡ false → b ≡ false
or-right true b is = absurd (cc)
or-right false b is = is

pub or-of-left : (a b : Bool) → a ≡ true → (a || b) ≡ true
or-of-left true b is = refl
or-of-left false b is = absurd (cc)

pub or-of-right : (a b : Bool) → b ≡ true → (a || b) ≡ true
or-of-right true b is = refl
or-of-right false b is = is

pub or-false : (a b : Bool) → a ≡ false → b ≡ false → (a || b) ≡ false
or-false true b one two = absurd (cc)
or-false false b one two = two

pub same-names : (name other : List ℕ) → bytes_eq name other ≡ true → name ≡ other
same-names name other is = (bytes_eq-Decides name other).0 is

pub name-itself : (name : List ℕ) → bytes_eq name name ≡ true
name-itself name = (bytes_eq-Decides name name).1 refl

-- names that are other in one order are so in the other
pub other-names : (name other : List ℕ) (b : Bool) → bytes_eq name other ≡ b → bytes_eq other name ≡ false → b ≡ false
other-names name other false is apart = refl
other-names name other true is apart =
    let same : name ≡ other = same-names name other is in
    let itself : bytes_eq other name ≡ true = subst (λ n. bytes_eq other n ≡ true) (sym same) (name-itself other) in
    absurd (cc)

-- ## Names among others

-- a name among those without another is another one, and is among them
pub record IsOther (name removed : List ℕ) (names : List (List ℕ)) : Type 0 where
  pub apart : bytes_eq name removed ≡ false
  pub among : is_among name names ≡ true

other-first : (name removed first : List ℕ) (later : List (List ℕ)) (b : Bool) → bytes_eq removed first ≡ b →
    is_among name (cond (not b) (first ∷ filter (λ other. not (bytes_eq removed other)) later) (filter (λ other. not (bytes_eq removed other)) later)) ≡ true →
    (is_among name (filter (λ other. not (bytes_eq removed other)) later) ≡ true → IsOther name removed later) → IsOther name removed (first ∷ later)
other-first name removed first later true at among rest =
    let it : IsOther name removed later = rest among in
    record { apart = it.apart; among = or-of-right (bytes_eq name first) (is_among name later) it.among }
other-first name removed first later false at among rest = other-head name removed first later (bytes_eq name first) refl at among rest
  where
    other-head : (name removed first : List ℕ) (later : List (List ℕ)) (b : Bool) → bytes_eq name first ≡ b → bytes_eq removed first ≡ false →
        (bytes_eq name first || is_among name (filter (λ other. not (bytes_eq removed other)) later)) ≡ true →
        (is_among name (filter (λ other. not (bytes_eq removed other)) later) ≡ true → IsOther name removed later) → IsOther name removed (first ∷ later)
    other-head name removed first later true is at among rest =
        let same : name ≡ first = same-names name first is in
        record {
          apart = other-names name removed (bytes_eq name removed) refl (subst (λ n. bytes_eq removed n ≡ false) (sym same) at);
          among = or-of-left (bytes_eq name first) (is_among name later) is;
        }
    other-head name removed first later false is at among rest =
        let it : IsOther name removed later = rest (subst (λ b. (b || is_among name (filter (λ other. not (bytes_eq removed other)) later)) ≡ true) is among) in
        record { apart = it.apart; among = or-of-right (bytes_eq name first) (is_among name later) it.among }

pub is-other : (name removed : List ℕ) (names : List (List ℕ)) → is_among name (filter (λ other. not (bytes_eq removed other)) names) ≡ true → IsOther name removed names
is-other name removed [] among = absurd (cc)
is-other name removed (first ∷ later) among =
    other-first name removed first later (bytes_eq removed first) refl among (is-other name removed later)

pub among-without : (name own : List ℕ) (names : List (List ℕ)) → is_among name (filter (λ other. not (bytes_eq own other)) names) ≡ true → is_among name names ≡ true
among-without name own names among = let other = is-other name own names among in other.among

-- a name is the first, or among the later ones
pub among-or : {P : Type 0} (name first : List ℕ) (later : List (List ℕ)) → is_among name (first ∷ later) ≡ true → (bytes_eq name first ≡ true → P) → (is_among name later ≡ true → P) → P
among-or {P = P} name first later among one two = by (bytes_eq name first) refl among
  where
    by : (b : Bool) → bytes_eq name first ≡ b → (b || is_among name later) ≡ true → P
    by true is among = one is
    by false is among = two among

-- ## Places

-- the first place at which a test passes
pub record FoundAt {A : Type 0} (test : A → Bool) (list : List A) : Type 0 where
  pub number : ℕ
  pub first : number ≡ position_or_len test list
  pub is : position test list ≡ Some number
  pub within : number < length list

position-within : {A : Type 0} (test : A → Bool) (list : List A) (number : ℕ) → position_or_len test list ≡ number → number < length list → FoundAt test list
position-within test list number is within =
    record {
      number = number;
      first = sym is;
      is = ap (λ n. cond (nat_lt n (length list)) (Some n) None) is ∙ ap (λ b. cond b (Some number) None) (lt-ltb number (length list) within);
      within = within;
    }

place-first : {A : Type 0} (test : A → Bool) (first : A) (later : List A) (b : Bool) → test first ≡ b → (b || list_any test later) ≡ true →
    (list_any test later ≡ true → position_or_len test later < length later) → position_or_len test (first ∷ later) < length (first ∷ later)
place-first test first later true is any rest =
    subst (λ b. cond (not b) (1 + position_or_len test later) 0 < length (first ∷ later)) (sym is) (omega arith)
place-first test first later false is any rest =
    let behind : position_or_len test later < length later = rest any in
    subst (λ b. cond (not b) (1 + position_or_len test later) 0 < length (first ∷ later)) (sym is) (omega (arith, behind))

place-within : {A : Type 0} (test : A → Bool) (list : List A) → list_any test list ≡ true → position_or_len test list < length list
place-within test [] any = absurd (cc)
place-within test (first ∷ later) any = place-first test first later (test first) refl any (place-within test later)

pub found-at : {A : Type 0} (test : A → Bool) (list : List A) → list_any test list ≡ true → FoundAt test list
found-at test list any = position-within test list (position_or_len test list) refl (place-within test list any)
