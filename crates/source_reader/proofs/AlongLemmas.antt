-- Two lists whose elements go together.
use Rattle.std.specs.Prelude.{◌≡◌, ◌<◌, ◌≤◌, ◌+◌, ℕ, zero, suc, List, [], ◌∷◌, ◌++◌, length, take, slice_get, Some, None}
use Rattle.std.proofs.Common.{refl, sym, ap, ◌∙◌, subst, arith, get_or, length-take}
use Rattle.std.proofs.lemmas.List.{take_more, take_all}
use Rattle.source_reader.specs.Along.{Along, no_pair, one_pair}

some_once : {C : Type 0} (a b : C) → Some a ≡ Some b → a ≡ b
some_once a b same = cc

none_some : {C : Type 0} (a : C) → None ≡ Some a → ⊥
none_some a same = absurd (cc)

module _ {A B : Type 0} (Pair : ℕ → A → B → Type 0) where
  pub along_length : (n : ℕ) (xs : List A) (ys : List B) → Along Pair n xs ys → length xs ≡ length ys
  along_length n _ _ (no_pair _) = refl
  along_length n _ _ (one_pair _ x y xs ys is more) = ap suc (along_length (suc n) xs ys more)

  at_number : (n k : ℕ) (x : A) (y : B) → n + 0 ≡ k → Pair k x y → Pair n x y
  at_number n k x y same is = subst (λ m. Pair m x y) (let e : k ≡ n = omega arith in e) is

  pub along_push : (n : ℕ) (xs : List A) (ys : List B) (x : A) (y : B) → Along Pair n xs ys → Pair (n + length xs) x y → Along Pair n (xs ++ x ∷ []) (ys ++ y ∷ [])
  along_push n _ _ x y (no_pair _) is = one_pair n x y [] [] (at_number n (n + 0) x y refl is) (no_pair (suc n))
  along_push n _ _ x y (one_pair _ a b xs ys first more) is =
      one_pair n a b (xs ++ x ∷ []) (ys ++ y ∷ []) first
      (along_push (suc n) xs ys x y more (subst (λ m. Pair m x y) (let e : n + suc (length xs) ≡ suc n + length xs = omega arith in e) is))

  pub along_start : (xs : List A) (ys : List B) → ys ≡ [] → Along Pair 0 (take 0 xs) ys
  along_start xs ys none = subst (λ l. Along Pair 0 (take 0 xs) l) (sym none) (no_pair 0)

  -- the element that goes with another
  pub record Partner (n j : ℕ) (x : A) (ys : List B) : Type 0 where
    pub other : B
    pub is : slice_get ys j ≡ Some other
    pub pair : Pair (n + j) x other

  partner_more : (n j : ℕ) (x : A) (b : B) (ys : List B) → Partner (suc n) j x ys → Partner n (suc j) x (b ∷ ys)
  partner_more n j x b ys p = record {
    other = p.other;
    is = p.is;
    pair = subst (λ m. Pair m x p.other) (let e : suc n + j ≡ n + suc j = omega arith in e) p.pair;
  }

  pub along_at : (n : ℕ) (xs : List A) (ys : List B) → Along Pair n xs ys → (j : ℕ) (x : A) → slice_get xs j ≡ Some x → Partner n j x ys
  along_at n _ _ (no_pair _) j x is = absurd (none_some x is)
  along_at n _ _ (one_pair _ a b xs ys first more) zero x is = record {
    other = b;
    is = refl;
    pair = subst (λ y. Pair (n + 0) y b) (some_once a x is) (subst (λ m. Pair m a b) (let e : n ≡ n + 0 = omega arith in e) first);
  }
  along_at n _ _ (one_pair _ a b xs ys first more) (suc j) x is = partner_more n j x b ys (along_at (suc n) xs ys more j x is)

  -- in a loop over a list
  pub along_step : (xs : List A) (ys : List B) (i : ℕ) (x : A) (y : B) → i < length xs → x ≡ get_or xs i x → Along Pair 0 (take i xs) ys → Pair i x y →
      Along Pair 0 (take (i + 1) xs) (ys ++ y ∷ [])
  along_step xs ys i x y within is so_far pair =
      subst (λ l. Along Pair 0 l (ys ++ y ∷ [])) (sym (take_more xs i x within ∙ ap (λ z. take i xs ++ z ∷ []) (sym is)))
      (along_push 0 (take i xs) ys x y so_far
      (subst (λ m. Pair m x y) (let e : i ≡ 0 + length (take i xs) = omega (arith, length-take i xs) in e) pair))

  pub along_all : (xs : List A) (ys : List B) (i : ℕ) → length xs ≤ i → Along Pair 0 (take i xs) ys → Along Pair 0 xs ys
  along_all xs ys i past so_far = subst (λ l. Along Pair 0 l ys) (take_all i xs past) so_far

  -- the element that goes with another, the other way
  pub record Origin (n j : ℕ) (xs : List A) (y : B) : Type 0 where
    pub origin : A
    pub is : slice_get xs j ≡ Some origin
    pub pair : Pair (n + j) origin y

  origin_more : (n j : ℕ) (a : A) (xs : List A) (y : B) → Origin (suc n) j xs y → Origin n (suc j) (a ∷ xs) y
  origin_more n j a xs y p = record {
    origin = p.origin;
    is = p.is;
    pair = subst (λ m. Pair m p.origin y) (let e : suc n + j ≡ n + suc j = omega arith in e) p.pair;
  }

  pub along_back : (n : ℕ) (xs : List A) (ys : List B) → Along Pair n xs ys → (j : ℕ) (y : B) → slice_get ys j ≡ Some y → Origin n j xs y
  along_back n _ _ (no_pair _) j y is = absurd (none_some y is)
  along_back n _ _ (one_pair _ a b xs ys first more) zero y is = record {
    origin = a;
    is = refl;
    pair = subst (λ z. Pair (n + 0) a z) (some_once b y is) (subst (λ m. Pair m a b) (let e : n ≡ n + 0 = omega arith in e) first);
  }
  along_back n _ _ (one_pair _ a b xs ys first more) (suc j) y is = origin_more n j a xs y (along_back (suc n) xs ys more j y is)

-- places in lists
pub get_front : {A : Type 0} (xs ys : List A) (j : ℕ) (x : A) → slice_get xs j ≡ Some x → slice_get (xs ++ ys) j ≡ Some x
get_front [] ys j x is = absurd (none_some x is)
get_front (z ∷ xs) ys zero x is = is
get_front (z ∷ xs) ys (suc j) x is = get_front xs ys j x is

pub get_within : {A : Type 0} (xs ys : List A) (j : ℕ) → j < length xs → slice_get (xs ++ ys) j ≡ slice_get xs j
get_within [] ys j low = absurd (omega arith)
get_within (z ∷ xs) ys zero low = refl
get_within (z ∷ xs) ys (suc j) low = get_within xs ys j (omega arith)

pub get_last : {A : Type 0} (xs : List A) (x : A) → slice_get (xs ++ x ∷ []) (length xs) ≡ Some x
get_last [] x = refl
get_last (z ∷ xs) x = get_last xs x

pub get_some : {A : Type 0} (xs : List A) (j : ℕ) → j < length xs → (x : A) × (slice_get xs j ≡ Some x)
get_some [] j low = absurd (omega arith)
get_some (x ∷ xs) zero low = (x, refl)
get_some (x ∷ xs) (suc j) low = get_some xs j (omega arith)

pub get_take : {A : Type 0} (xs : List A) (k j : ℕ) → j < k → slice_get (take k xs) j ≡ slice_get xs j
get_take [] zero j low = absurd (omega arith)
get_take [] (suc k) j low = refl
get_take (x ∷ xs) zero j low = absurd (omega arith)
get_take (x ∷ xs) (suc k) zero low = refl
get_take (x ∷ xs) (suc k) (suc j) low = get_take xs k j (omega arith)
