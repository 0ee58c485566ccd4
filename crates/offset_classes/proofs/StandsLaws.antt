-- Laws of what begins how far behind what.
use Rattle.std.proofs.Common.{◌≡◌, ℤ, pos, ◌+ℤ◌, neg_ℤ, List, [], ◌∷◌, ◌++◌, arith, refl, sym, subst, ◌⊎◌, inl, inr}
use Rattle.std.proofs.lemmas.Int.{ints}
use Rattle.f_tree.specs.Setting.{IsIn, first_in, later_in}
use Rattle.offset_classes.specs.Standing.{Link, Stands, itself, onward, backward}

module _ {N : Type 0} where
  -- the same, under other names
  pub stands_at : (ls : List (Link N)) (x y z : N) (d e : ℤ) → Stands ls x y d → z ≡ y → e ≡ d → Stands ls x z e
  stands_at ls x y z d e h zy ed = subst (λ w. Stands ls x w e) (sym zy) (subst (λ w. Stands ls x y w) (sym ed) h)

  pub stands_self : (ls : List (Link N)) (x : N) → Stands ls x x (pos 0)
  stands_self ls x = itself x (pos 0) refl refl

  -- one way after another
  pub stands_along : (ls : List (Link N)) (x y z : N) (c d e : ℤ) → Stands ls x y c → Stands ls y z d → e ≡ c +ℤ d → Stands ls x z e
  stands_along ls x y z c d e h (itself _ _ zy d0) eq = stands_at ls x y z c e h zy (let k : e ≡ c +ℤ d = eq in let j : d ≡ pos 0 = d0 in omega (arith, ints))
  stands_along ls x y z c d e h (onward w _ b _ l in_ls way one other by) eq =
      onward w z (c +ℤ b) e l in_ls (stands_along ls x y w c b (c +ℤ b) h way refl) one other (let k : e ≡ c +ℤ d = eq in let j : d ≡ b +ℤ l.by = by in omega (arith, ints))
  stands_along ls x y z c d e h (backward w _ b _ l in_ls way one other by) eq =
      backward w z (c +ℤ b) e l in_ls (stands_along ls x y w c b (c +ℤ b) h way refl) one other
      (let k : e ≡ c +ℤ d = eq in let j : d ≡ b +ℤ neg_ℤ l.by = by in omega (arith, ints))

  -- one equation
  pub stands_by : (ls : List (Link N)) (l : Link N) → IsIn l ls → Stands ls l.one l.other l.by
  stands_by ls l in_ls = onward l.one l.other (pos 0) l.by l in_ls (stands_self ls l.one) refl refl (omega (arith, ints))

  pub stands_back_by : (ls : List (Link N)) (l : Link N) → IsIn l ls → Stands ls l.other l.one (neg_ℤ l.by)
  stands_back_by ls l in_ls = backward l.other l.one (pos 0) (neg_ℤ l.by) l in_ls (stands_self ls l.other) refl refl (omega (arith, ints))

  -- the other way
  pub stands_back : (ls : List (Link N)) (x y : N) (d e : ℤ) → Stands ls x y d → e ≡ neg_ℤ d → Stands ls y x e
  stands_back ls x y d e (itself _ _ yx d0) eq =
      itself x e (sym yx) (let k : e ≡ neg_ℤ d = eq in let j : d ≡ pos 0 = d0 in omega (arith, ints))
  stands_back ls x y d e (onward w _ b _ l in_ls way one other by) eq =
      stands_along ls y w x (neg_ℤ l.by) (neg_ℤ b) e
      (backward y w (pos 0) (neg_ℤ l.by) l in_ls (stands_self ls y) other one (omega (arith, ints)))
      (stands_back ls x w b (neg_ℤ b) way refl) (let k : e ≡ neg_ℤ d = eq in let j : d ≡ b +ℤ l.by = by in omega (arith, ints))
  stands_back ls x y d e (backward w _ b _ l in_ls way one other by) eq =
      stands_along ls y w x l.by (neg_ℤ b) e
      (onward y w (pos 0) l.by l in_ls (stands_self ls y) other one (omega (arith, ints)))
      (stands_back ls x w b (neg_ℤ b) way refl) (let k : e ≡ neg_ℤ d = eq in let j : d ≡ b +ℤ neg_ℤ l.by = by in omega (arith, ints))

  -- with more equations
  pub stands_more : (ls ms : List (Link N)) (x y : N) (d : ℤ) → ((l : Link N) → IsIn l ls → IsIn l ms) → Stands ls x y d → Stands ms x y d
  stands_more ls ms x y d more (itself _ _ yx d0) = itself y d yx d0
  stands_more ls ms x y d more (onward w _ b _ l in_ls way one other by) =
      onward w y b d l (more l in_ls) (stands_more ls ms x w b more way) one other by
  stands_more ls ms x y d more (backward w _ b _ l in_ls way one other by) =
      backward w y b d l (more l in_ls) (stands_more ls ms x w b more way) one other by

  -- in lists of equations
  pub in_front : (l : Link N) (ls ms : List (Link N)) → IsIn l ls → IsIn l (ls ++ ms)
  in_front l [] ms h = elim h [ ]
  in_front l (k ∷ ls) ms first_in = first_in
  in_front l (k ∷ ls) ms (later_in h) = later_in (in_front l ls ms h)

  pub in_back : (l : Link N) (ls ms : List (Link N)) → IsIn l ms → IsIn l (ls ++ ms)
  in_back l [] ms h = h
  in_back l (k ∷ ls) ms h = later_in (in_back l ls ms h)

  pub in_either : (l : Link N) (ls ms : List (Link N)) → IsIn l (ls ++ ms) → IsIn l ls ⊎ IsIn l ms
  in_either l [] ms h = inr h
  in_either l (k ∷ ls) ms first_in = inl first_in
  in_either l (k ∷ ls) ms (later_in h) = elim (in_either l ls ms h) [ inl g ↦ inl (later_in g) | inr g ↦ inr g ]

  -- a relation that holds of each step holds of each way
  pub by_ways : (ls : List (Link N)) (P : N → N → ℤ → Type 0) → ((x : N) → P x x (pos 0))
      → ((x y z : N) (c d : ℤ) (l : Link N) → IsIn l ls → P x y c → l.one ≡ y → l.other ≡ z → d ≡ c +ℤ l.by → P x z d)
      → ((x y z : N) (c d : ℤ) (l : Link N) → IsIn l ls → P x y c → l.other ≡ y → l.one ≡ z → d ≡ c +ℤ neg_ℤ l.by → P x z d)
      → (x y : N) (d : ℤ) → Stands ls x y d → P x y d
  by_ways ls P at on back x y d (itself _ _ yx d0) = subst (λ w. P x w d) (sym yx) (subst (λ w. P x x w) (sym d0) (at x))
  by_ways ls P at on back x y d (onward w _ b _ l in_ls way one other by) = on x w y b d l in_ls (by_ways ls P at on back x w b way) one other by
  by_ways ls P at on back x y d (backward w _ b _ l in_ls way one other by) = back x w y b d l in_ls (by_ways ls P at on back x w b way) one other by
