-- Names that stand apart: each of a unit in a sequence of its own.
use Rattle.std.proofs.Common.{◌≡◌, ℕ, zero, suc, ◌+◌, Bool, true, false, List, [], ◌∷◌, length, Option, Some, refl, sym, ap, ◌∙◌, subst, arith, cond}
use Rattle.std.specs.Prelude.{◌++◌, slice_get, bytes_eq}
use Rattle.std.proofs.lemmas.Slice.Eq.{bytes_eq-Decides}
use Rattle.f_tree.specs.Values.{Bytes}
use Rattle.f_tree.specs.Facts.{Home, Member}
use Rattle.f_tree.specs.Setting.{IsIn, first_in, later_in, IsMember, here, there, AreDistinct, another_name, home_among, IsNumbered, is_next}
use Rattle.f_tree.specs.Runs.{homes_apart}

-- a home that is found is that of the name, or is found later
home_found_if : (P : Bytes → Home → Type 0) (y x : Bytes) (i h : Home) (rest : Option Home) (b : Bool) → bytes_eq y x ≡ b →
    cond b (Some i) rest ≡ Some h → P y i → (rest ≡ Some h → P x h) → P x h
home_found_if P y x i h rest true t e own later =
    let q : i ≡ h = cc in
    subst (λ z. P x z) q (subst (λ z. P z i) ((bytes_eq-Decides y x).0 t) own)
home_found_if P y x i h rest false t e own later = later e

pub home_found : (P : Bytes → Home → Type 0) (y x : Bytes) (i h : Home) (rest : Option Home) → cond (bytes_eq y x) (Some i) rest ≡ Some h →
    P y i → (rest ≡ Some h → P x h) → P x h
home_found P y x i h rest e own later = home_found_if P y x i h rest (bytes_eq y x) refl e own later

unfoldable pub home_at : ℕ → Home
home_at n = record { sequence = n; first = 0 }

-- what a home found among homes apart is
pub record Found (n : ℕ) (ms : List Member) (x : Bytes) (h : Home) : Type 0 where
  pub place : ℕ
  pub member : Member
  pub is_at : slice_get ms place ≡ Some member
  pub named : member.name ≡ x
  pub stands : h ≡ home_at (n + place)

pub some_inj : {A : Type 0} {a b : A} → Some a ≡ Some b → a ≡ b
some_inj e = cc

found_later : (n : ℕ) (m : Member) (ms : List Member) (x : Bytes) (h : Home) → Found (suc n) ms x h → Found n (m ∷ ms) x h
unfolding home_at
found_later n m ms x h f = record {
  place = suc f.place;
  member = f.member;
  is_at = f.is_at;
  named = f.named;
  stands = f.stands ∙ ap home_at (let e : suc n + f.place ≡ n + suc f.place = omega arith in e);
}

found_if : (n : ℕ) (m : Member) (ms : List Member) (x : Bytes) (h : Home) (b : Bool) → bytes_eq m.name x ≡ b →
    cond b (Some (home_at n)) (home_among x ms (homes_apart (suc n) ms)) ≡ Some h →
    (home_among x ms (homes_apart (suc n) ms) ≡ Some h → Found (suc n) ms x h) → Found n (m ∷ ms) x h
found_if n m ms x h true t e later = record {
  place = 0;
  member = m;
  is_at = refl;
  named = (bytes_eq-Decides m.name x).0 t;
  stands = sym (some_inj e) ∙ ap home_at (let q : n ≡ n + 0 = omega arith in q);
}
found_if n m ms x h false t e later = found_later n m ms x h (later e)

pub found : (n : ℕ) (ms : List Member) (x : Bytes) (h : Home) → home_among x ms (homes_apart n ms) ≡ Some h → Found n ms x h
unfolding home_among homes_apart home_at
found n [] x h e = absurd (cc)
found n (m ∷ ms) x h e = found_if n m ms x h (bytes_eq m.name x) refl e (found (suc n) ms x h)

-- each member has the home of its place
home_if : (x : Bytes) (a b : Home) (rest : Option Home) (t : Bool) → t ≡ false → rest ≡ Some b → cond t (Some a) rest ≡ Some b
home_if x a b rest true e r = absurd (cc)
home_if x a b rest false e r = r

pub at_is_in : (ms : List Member) (k : ℕ) (m : Member) → slice_get ms k ≡ Some m → IsIn m ms
at_is_in [] k m e = absurd (cc)
at_is_in (a ∷ ms) zero m e = subst (λ z. IsIn z (a ∷ ms)) (some_inj e) first_in
at_is_in (a ∷ ms) (suc k) m e = later_in (at_is_in ms k m e)

own_name : (x : Bytes) → bytes_eq x x ≡ true
own_name x = (bytes_eq-Decides x x).1 refl

home_of_own : (a b : Home) (rest : Option Home) (t : Bool) → t ≡ true → a ≡ b → cond t (Some a) rest ≡ Some b
home_of_own a b rest true e r = ap Some r
home_of_own a b rest false e r = absurd (cc)

-- a name that stands once is not that of a later one
member_of : (m : Member) (ms : List Member) → IsIn m ms → IsMember m.name ms
member_of m [] i = elim i [ ]
member_of m (a ∷ ms) first_in = here
member_of m (a ∷ ms) (later_in i) = there (member_of m ms i)

apart_if : (x : Bytes) (m : Member) (ms : List Member) → (IsMember x ms → ⊥) → IsIn m ms → (b : Bool) → bytes_eq x m.name ≡ b → b ≡ false
apart_if x m ms once i true e = absurd (once (subst (λ y. IsMember y ms) (sym ((bytes_eq-Decides x m.name).0 e)) (member_of m ms i)))
apart_if x m ms once i false e = refl

apart_of : (x : Bytes) (m : Member) (ms : List Member) → (IsMember x ms → ⊥) → IsIn m ms → bytes_eq x m.name ≡ false
apart_of x m ms once i = apart_if x m ms once i (bytes_eq x m.name) refl

pub home_of : (n : ℕ) (ms : List Member) → AreDistinct ms → (k : ℕ) (m : Member) → slice_get ms k ≡ Some m →
    home_among m.name ms (homes_apart n ms) ≡ Some (home_at (n + k))
unfolding home_among homes_apart home_at
home_of n [] d k m e = absurd (cc)
home_of n (a ∷ ms) (another_name once d) zero m e =
    home_of_own (home_at n) (home_at (n + 0)) _ (bytes_eq a.name m.name) (ap (λ z. bytes_eq a.name z.name) (sym (some_inj e)) ∙ own_name a.name)
    (ap home_at (let q : n ≡ n + 0 = omega arith in q))
home_of n (a ∷ ms) (another_name once d) (suc k) m e =
    home_if m.name (home_at n) (home_at (n + suc k)) _ (bytes_eq a.name m.name) (apart_of a.name m ms once (at_is_in ms k m e))
    (home_of (suc n) ms d k m e ∙ ap (λ z. Some (home_at z)) (let q : suc n + k ≡ n + suc k = omega arith in q))

-- sequences go by first-seen order
pub numbered_with : (n : ℕ) (ms : List Member) (rest : List Home) → IsNumbered (n + length ms) rest → IsNumbered n (homes_apart n ms ++ rest)
unfolding homes_apart
numbered_with n [] rest more = subst (λ z. IsNumbered z rest) (let q : n + 0 ≡ n = omega arith in q) more
numbered_with n (m ∷ ms) rest more =
    is_next refl (numbered_with (suc n) ms rest (subst (λ z. IsNumbered z rest) (let q : n + suc (length ms) ≡ suc n + length ms = omega arith in q) more))

pub lengths_apart : (n : ℕ) (ms : List Member) → length (homes_apart n ms) ≡ length ms
unfolding homes_apart
lengths_apart n [] = refl
lengths_apart n (m ∷ ms) = ap suc (lengths_apart (suc n) ms)

-- the place of a member in a list
pub record PlaceOf (m : Member) (ms : List Member) : Type 0 where
  pub place : ℕ
  pub is_at : slice_get ms place ≡ Some m

pub place_of : (m : Member) (ms : List Member) → IsIn m ms → PlaceOf m ms
place_of m [] i = elim i [ ]
place_of m (a ∷ ms) first_in = record { place = 0; is_at = refl }
place_of m (a ∷ ms) (later_in i) = let r = place_of m ms i in record { place = suc r.place; is_at = r.is_at }
