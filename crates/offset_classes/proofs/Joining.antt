-- One tree is put under the root of another one by an equation between their numbers.
use Rattle.std.proofs.Common.{◌≡◌, ℕ, zero, suc, ◌+◌, ◌≤◌, ◌<◌, ℤ, pos, ◌+ℤ◌, neg_ℤ, nat_abs, Bool, true, false, nat_eq, List, [], ◌∷◌, ◌++◌, length, get_or, set, replicate, arith, refl, sym, ap, subst, ◌∙◌, inl, inr, get_or-set_other, get_or-set_same}
use borrow.Author.Tests.{eqb-true, eqb-false}
use Rattle.std.proofs.Math.ListN.{length-set}
use Rattle.std.proofs.lemmas.Int.{ints}
use Rattle.f_tree.specs.Setting.{IsIn, first_in, later_in}
use Rattle.offset_classes.specs.declared.nodes.Node.{Node}
use Rattle.offset_classes.specs.Standing.{Link, Stands, AreBelow, reach}
use Rattle.offset_classes.specs.Forest.{node_at, Rises, stays, climbs, IsForest, IsSpread, IsSolving, IsAttached, widths}
use Rattle.offset_classes.proofs.StandsLaws.{stands_along, stands_back, stands_more, in_front, in_either}
use Rattle.offset_classes.proofs.Rising.{rises_at, rises_from, rises_once, IsPlaced, is_placed}

-- WIDTHS
widths_set : (ws : List ℕ) (i v : ℕ) → i < length ws → widths (set ws i v) + get_or ws i 0 ≡ widths ws + v
unfolding widths
widths_set [] i v h = absurd (let k : i < 0 = h in omega arith)
widths_set (w ∷ ws) zero v h = omega arith
widths_set (w ∷ ws) (suc i) v h = let k = widths_set ws i v (let g : suc i < suc (length ws) = h in omega arith) in omega arith

pub widths_none : (k : ℕ) → widths (replicate k 0) ≡ 0
unfolding widths
widths_none zero = refl
widths_none (suc k) = let h = widths_none k in omega arith

-- the trees `ns` become `ms`: that of `a` is put under `b`
pub record IsJoin (ns ms : List Node) (a b : ℕ) (s : ℤ) (height : ℕ) : Type 0 where
  pub forest : IsForest ns height
  pub attached : IsAttached ns ms a b s height
  pub low_root : (node_at ns a).parent ≡ a
  pub high_root : (node_at ns b).parent ≡ b
  pub low_in : a < length ns
  pub high_in : b < length ns
  pub apart : b ≡ a → ⊥

module _ (ns ms : List Node) (a b : ℕ) (s : ℤ) (height : ℕ) (join : IsJoin ns ms a b s height) where
  pub keeps : (x r : ℕ) (d : ℤ) → (r ≡ a → ⊥) → Rises ns x d r → Rises ms x d r
  keeps x r d other (stays _ _ _ at d0 rx) =
      stays x d r (join.attached.other_parents x (λ e. other (rx ∙ e)) ∙ at) d0 rx
  keeps x r d other (climbs _ y _ c _ up apart way by) =
      let not_low : x ≡ a → ⊥ = λ e. apart (sym up ∙ ap (λ w. (node_at ns w).parent) e ∙ join.low_root ∙ sym e) in
      climbs x y d c r (join.attached.other_parents x not_low ∙ up) apart (keeps y r c other way) (by ∙ ap (λ z. c +ℤ z) (sym (join.attached.other_offsets x not_low)))

  high_stays : Rises ms b (pos 0) b
  high_stays = stays b (pos 0) b (join.attached.other_parents b join.apart ∙ join.high_root) refl refl

  pub moves : (x r : ℕ) (d : ℤ) → r ≡ a → Rises ns x d r → Rises ms x (d +ℤ s) b
  moves x r d is (stays _ _ _ at d0 rx) =
      rises_from ms a x b (d +ℤ s)
      (climbs a b (d +ℤ s) (pos 0) b join.attached.parent join.apart high_stays
      (let e : d ≡ pos 0 = d0 in let o : (node_at ms a).offset ≡ s = join.attached.offset in omega (arith, ints)))
      (sym rx ∙ is)
  moves x r d is (climbs _ y _ c _ up apart way by) =
      let not_low : x ≡ a → ⊥ = λ e. apart (sym up ∙ ap (λ w. (node_at ns w).parent) e ∙ join.low_root ∙ sym e) in
      let same : (node_at ms x).offset ≡ (node_at ns x).offset = join.attached.other_offsets x not_low in
      let e : d ≡ c +ℤ (node_at ns x).offset = by in
      climbs x y (d +ℤ s) (c +ℤ s) b (join.attached.other_parents x not_low ∙ up) apart (moves y r c is way) (omega (arith, ints))

  -- where a place in the new trees comes from
  pub data Comes (x : ℕ) (e : ℤ) (t : ℕ) : Type 0 where
    stayed : (t ≡ a → ⊥) → Rises ns x e t → Comes x e t
    moved : (d : ℤ) → Rises ns x d a → e ≡ d +ℤ s → t ≡ b → Comes x e t

  comes_by : (x t : ℕ) (e : ℤ) → Rises ms x e t → (p : IsPlaced ns x) → (test : Bool) → nat_eq p.root a ≡ test → Comes x e t
  comes_by x t e h p true is =
      let r : p.root ≡ a = eqb-true _ _ is in
      let once = rises_once ms x t b e (p.by +ℤ s) h (moves x p.root p.by r p.rises) in
      moved p.by (rises_at ns x p.root a p.by p.by p.rises (sym r) refl) once.offset once.root
  comes_by x t e h p false is =
      let r : p.root ≡ a → ⊥ = eqb-false _ _ is in
      let once = rises_once ms x t p.root e p.by h (keeps x p.root p.by r p.rises) in
      stayed (λ g. r (sym once.root ∙ g)) (rises_at ns x p.root t p.by e p.rises once.root once.offset)

  pub comes : (x t : ℕ) (e : ℤ) → x < length ns → Rises ms x e t → Comes x e t
  comes x t e within h = let p = is_placed ns height join.forest x within in comes_by x t e h p (nat_eq p.root a) refl

  joined_forest : IsForest ms (height + 1)
  joined_forest = record {
    inside = λ x h. inside_by x h (nat_eq x a) refl;
    rising = λ x h apart. rising_by x h apart (nat_eq x a) refl;
    low = λ x h. low_by x h (nat_eq x b) refl;
  }
    where
      same_length : length ms ≡ length ns
      same_length = join.attached.same_length

      inside_by : (x : ℕ) → x < length ms → (test : Bool) → nat_eq x a ≡ test → (node_at ms x).parent < length ms
      inside_by x h true is =
          let r : x ≡ a = eqb-true _ _ is in
          let up : (node_at ms x).parent ≡ b = ap (λ w. (node_at ms w).parent) r ∙ join.attached.parent in
          let high : b < length ns = join.high_in in
          let same : length ms ≡ length ns = same_length in
          omega arith
      inside_by x h false is =
          let up : (node_at ms x).parent ≡ (node_at ns x).parent = join.attached.other_parents x (eqb-false _ _ is) in
          let same : length ms ≡ length ns = same_length in
          let old_in : (node_at ns x).parent < length ns = join.forest.inside x (omega arith) in
          omega arith

      no_less : (x : ℕ) → (test : Bool) → nat_eq x b ≡ test → (node_at ns x).rank ≤ (node_at ms x).rank
      no_less x true is =
          let r : x ≡ b = eqb-true _ _ is in
          subst (λ w. (node_at ns w).rank ≤ (node_at ms w).rank) (sym r) join.attached.no_lower
      no_less x false is = let e : (node_at ms x).rank ≡ (node_at ns x).rank = join.attached.ranks x (eqb-false _ _ is) in omega arith

      rising_by : (x : ℕ) → x < length ms → ((node_at ms x).parent ≡ x → ⊥) → (test : Bool) → nat_eq x a ≡ test
          → (node_at ms x).rank < (node_at ms ((node_at ms x).parent)).rank
      rising_by x h apart true is =
          let r : x ≡ a = eqb-true _ _ is in
          let at_a : (node_at ms a).rank ≡ (node_at ns a).rank = join.attached.ranks a (λ e. join.apart (sym e)) in
          let up : (node_at ms ((node_at ms a).parent)).rank ≡ (node_at ms b).rank = ap (λ w. (node_at ms w).rank) join.attached.parent in
          let above : (node_at ns a).rank < (node_at ms b).rank = join.attached.above in
          subst (λ w. (node_at ms w).rank < (node_at ms ((node_at ms w).parent)).rank) (sym r) (omega arith)
      rising_by x h apart false is =
          let not_low : x ≡ a → ⊥ = eqb-false _ _ is in
          let same : length ms ≡ length ns = same_length in
          let up : (node_at ms x).parent ≡ (node_at ns x).parent = join.attached.other_parents x not_low in
          let rising : (node_at ns x).rank < (node_at ns ((node_at ns x).parent)).rank = join.forest.rising x (omega arith) (λ e. apart (up ∙ e)) in
          let more : (node_at ns ((node_at ns x).parent)).rank ≤ (node_at ms ((node_at ns x).parent)).rank =
          no_less ((node_at ns x).parent) (nat_eq ((node_at ns x).parent) b) refl in
          let along : (node_at ms ((node_at ms x).parent)).rank ≡ (node_at ms ((node_at ns x).parent)).rank = ap (λ w. (node_at ms w).rank) up in
          let not_root : (node_at ns x).parent ≡ x → ⊥ = λ e. apart (up ∙ e) in
          let not_high : x ≡ b → ⊥ = λ e. not_root (ap (λ w. (node_at ns w).parent) e ∙ join.high_root ∙ sym e) in
          let at_x : (node_at ms x).rank ≡ (node_at ns x).rank = join.attached.ranks x not_high in
          omega arith

      low_by : (x : ℕ) → x < length ms → (test : Bool) → nat_eq x b ≡ test → (node_at ms x).rank ≤ height + 1
      low_by x h true is =
          let r : x ≡ b = eqb-true _ _ is in subst (λ w. (node_at ms w).rank ≤ height + 1) (sym r) join.attached.within
      low_by x h false is =
          let at_x : (node_at ms x).rank ≡ (node_at ns x).rank = join.attached.ranks x (eqb-false _ _ is) in
          let same : length ms ≡ length ns = same_length in
          let low : (node_at ns x).rank ≤ height = join.forest.low x (omega arith) in
          omega arith

-- THE EQUATION by which trees are joined: `x` is in the lower tree, `y` in the higher one, and `x` begins `t` units behind `y`
pub record IsJoined (ls : List (Link ℕ)) (l : Link ℕ) (ns ms : List Node) (a b : ℕ) (s : ℤ) (height : ℕ) : Type 0 where
  pub join : IsJoin ns ms a b s height
  pub solving : IsSolving ls ns height
  pub below : AreBelow (length ns) ls
  pub x : ℕ
  pub y : ℕ
  pub x_by : ℤ
  pub y_by : ℤ
  pub t : ℤ
  pub x_in : x < length ns
  pub y_in : y < length ns
  pub x_rises : Rises ns x x_by a
  pub y_rises : Rises ns y y_by b
  pub stands : Stands (ls ++ l ∷ []) y x t
  pub equal : x_by +ℤ s ≡ y_by +ℤ t
  pub no_more : nat_abs t ≤ nat_abs l.by

module _ (ls : List (Link ℕ)) (l : Link ℕ) (ns ms : List Node) (a b : ℕ) (s : ℤ) (height : ℕ) (is : IsJoined ls l ns ms a b s height) where
  more : (x y : ℕ) (d : ℤ) → Stands ls x y d → Stands (ls ++ l ∷ []) x y d
  more x y d h = stands_more ls (ls ++ l ∷ []) x y d (λ k g. in_front k ls (l ∷ []) g) h

  low_stands : Stands (ls ++ l ∷ []) b a s
  low_stands =
      let to_y = more b is.y is.y_by (is.solving.holds.sound is.y is.y_by b is.y_in is.y_rises) in
      let from_x = stands_back (ls ++ l ∷ []) a is.x is.x_by (neg_ℤ is.x_by) (more a is.x is.x_by (is.solving.holds.sound is.x is.x_by a is.x_in is.x_rises)) refl in
      let e : is.x_by +ℤ s ≡ is.y_by +ℤ is.t = is.equal in
      stands_along (ls ++ l ∷ []) b is.x a (is.y_by +ℤ is.t) (neg_ℤ is.x_by) s
      (stands_along (ls ++ l ∷ []) b is.y is.x is.y_by is.t (is.y_by +ℤ is.t) to_y is.stands refl) from_x (omega (arith, ints))

  sound_by : (x r : ℕ) (d : ℤ) → x < length ns → Comes ns ms a b s height is.join x d r → Stands (ls ++ l ∷ []) r x d
  sound_by x r d within (stayed other h) = more r x d (is.solving.holds.sound x d r within h)
  sound_by x r d within (moved e h eq rb) =
      subst (λ w. Stands (ls ++ l ∷ []) w x d) (sym rb)
      (stands_along (ls ++ l ∷ []) b a x s e d low_stands (more a x e (is.solving.holds.sound x e a within h)) (let k : d ≡ e +ℤ s = eq in omega (arith, ints)))

  held_old_by : (k : Link ℕ) → IsIn k ls → (d : ℤ) (r : ℕ) → Comes ns ms a b s height is.join k.one d r → Rises ms k.other (d +ℤ k.by) r
  held_old_by k in_ls d r (stayed other h) = keeps ns ms a b s height is.join k.other r (d +ℤ k.by) other (is.solving.holds.held k in_ls d r h)
  held_old_by k in_ls d r (moved e h eq rb) =
      rises_at ms k.other b r ((e +ℤ k.by) +ℤ s) (d +ℤ k.by)
      (moves ns ms a b s height is.join k.other a (e +ℤ k.by) refl (is.solving.holds.held k in_ls e a h)) rb (let g : d ≡ e +ℤ s = eq in omega (arith, ints))

  pub held_old : (k : Link ℕ) → IsIn k ls → (d : ℤ) (r : ℕ) → Rises ms k.one d r → Rises ms k.other (d +ℤ k.by) r
  held_old k in_ls d r h =
      held_old_by k in_ls d r (comes ns ms a b s height is.join k.one r d (is.below.each k in_ls).0 h)

  -- the widths
  wide : List ℕ
  wide = set (set is.solving.spread.width b (get_or is.solving.spread.width a 0 + nat_abs l.by + get_or is.solving.spread.width b 0)) a 0

  pub joined_spread : IsSpread ms (reach ls + nat_abs l.by)
  unfolding wide
  joined_spread = record {
    width = wide;
    each = length-set (set ws b v) a 0 ∙ length-set ws b v ∙ is.solving.spread.each ∙ sym is.join.attached.same_length;
    sum = sum_is;
    near = λ x y r d c x_in y_in h g.
        let same : length ms ≡ length ns = is.join.attached.same_length in
        near_by x y r d c (omega arith) (omega arith)
        (comes ns ms a b s height is.join x r d (omega arith) h) (comes ns ms a b s height is.join y r c (omega arith) g);
  }
    where
      ws : List ℕ
      ws = is.solving.spread.width

      v : ℕ
      v = get_or ws a 0 + nat_abs l.by + get_or ws b 0

      sum_is : widths (set (set ws b v) a 0) ≤ reach ls + nat_abs l.by
      sum_is =
          let len : length ws ≡ length ns = is.solving.spread.each in
          let a_in : a < length ns = is.join.low_in in
          let b_in : b < length ns = is.join.high_in in
          let len_set : length (set ws b v) ≡ length ws = length-set ws b v in
          let first = widths_set ws b v (omega arith) in
          let second = widths_set (set ws b v) a 0 (omega arith) in
          let kept : get_or (set ws b v) a 0 ≡ get_or ws a 0 = get_or-set_other ws b a v 0 (λ e. is.join.apart (sym e)) in
          let sum : widths ws ≤ reach ls = is.solving.spread.sum in
          omega arith

      at_high : get_or (set (set ws b v) a 0) b 0 ≡ v
      at_high =
          let len : length ws ≡ length ns = is.solving.spread.each in
          let b_in : b < length ns = is.join.high_in in
          get_or-set_other (set ws b v) a b 0 0 is.join.apart ∙ get_or-set_same ws b v 0 (omega arith)

      elsewhere : (r : ℕ) → (r ≡ a → ⊥) → (r ≡ b → ⊥) → get_or (set (set ws b v) a 0) r 0 ≡ get_or ws r 0
      elsewhere r not_a not_b = get_or-set_other (set ws b v) a r 0 0 not_a ∙ get_or-set_other ws b r v 0 not_b

      no_less : (r : ℕ) → (r ≡ a → ⊥) → (test : Bool) → nat_eq r b ≡ test → get_or ws r 0 ≤ get_or (set (set ws b v) a 0) r 0
      no_less r not_a true e =
          let at : r ≡ b = eqb-true _ _ e in
          subst (λ w. get_or ws w 0 ≤ get_or (set (set ws b v) a 0) w 0) (sym at) (let h : get_or (set (set ws b v) a 0) b 0 ≡ v = at_high in omega arith)
      no_less r not_a false e = let h = elsewhere r not_a (eqb-false _ _ e) in omega arith

      -- one of each tree
      between : (x y : ℕ) (d c : ℤ) → x < length ns → y < length ns → Rises ns x d a → Rises ns y c b → nat_abs ((d +ℤ s) +ℤ neg_ℤ c) ≤ v
      between x y d c x_in y_in h g =
          let in_low : nat_abs (d +ℤ neg_ℤ is.x_by) ≤ get_or ws a 0 = is.solving.spread.near x is.x a d is.x_by x_in is.x_in h is.x_rises in
          let in_high : nat_abs (is.y_by +ℤ neg_ℤ c) ≤ get_or ws b 0 = is.solving.spread.near is.y y b is.y_by c is.y_in y_in is.y_rises g in
          let e : is.x_by +ℤ s ≡ is.y_by +ℤ is.t = is.equal in
          let no_more : nat_abs is.t ≤ nat_abs l.by = is.no_more in
          omega (arith, ints)

      near_by : (x y r : ℕ) (d c : ℤ) → x < length ns → y < length ns → Comes ns ms a b s height is.join x d r → Comes ns ms a b s height is.join y c r
          → nat_abs (d +ℤ neg_ℤ c) ≤ get_or (set (set ws b v) a 0) r 0
      near_by x y r d c x_in y_in (stayed other h) (stayed _ g) =
          let old_near : nat_abs (d +ℤ neg_ℤ c) ≤ get_or ws r 0 = is.solving.spread.near x y r d c x_in y_in h g in
          let more_now = no_less r other (nat_eq r b) refl in
          omega arith
      near_by x y r d c x_in y_in (stayed other h) (moved e g eq rb) =
          let near = between y x e d y_in x_in g (rises_at ns x r b d d h (sym rb) refl) in
          let k : c ≡ e +ℤ s = eq in
          subst (λ w. nat_abs (d +ℤ neg_ℤ c) ≤ get_or (set (set ws b v) a 0) w 0) (sym rb)
          (let at : get_or (set (set ws b v) a 0) b 0 ≡ v = at_high in omega (arith, ints))
      near_by x y r d c x_in y_in (moved e h eq rb) (stayed other g) =
          let near = between x y e c x_in y_in h (rises_at ns y r b c c g (sym rb) refl) in
          let k : d ≡ e +ℤ s = eq in
          subst (λ w. nat_abs (d +ℤ neg_ℤ c) ≤ get_or (set (set ws b v) a 0) w 0) (sym rb)
          (let at : get_or (set (set ws b v) a 0) b 0 ≡ v = at_high in omega (arith, ints))
      near_by x y r d c x_in y_in (moved e h eq rb) (moved f g eq' rb') =
          let old_near : nat_abs (e +ℤ neg_ℤ f) ≤ get_or ws a 0 = is.solving.spread.near x y a e f x_in y_in h g in
          let k : d ≡ e +ℤ s = eq in
          let m : c ≡ f +ℤ s = eq' in
          subst (λ w. nat_abs (d +ℤ neg_ℤ c) ≤ get_or (set (set ws b v) a 0) w 0) (sym rb)
          (let at : get_or (set (set ws b v) a 0) b 0 ≡ v = at_high in omega (arith, ints))

-- the sum of distances with one more
pub reach_more : (ls : List (Link ℕ)) (l : Link ℕ) → reach (ls ++ l ∷ []) ≡ reach ls + nat_abs l.by
unfolding reach
reach_more [] l = omega arith
reach_more (k ∷ ls) l = let h = reach_more ls l in omega arith

spread_at : (ms : List Node) (m n : ℕ) → m ≤ n → IsSpread ms m → IsSpread ms n
spread_at ms m n h spread = record {
  width = spread.width;
  each = spread.each;
  sum = let k : widths spread.width ≤ m = spread.sum in omega arith;
  near = spread.near;
}

pub spread_within : (ms : List Node) (m n : ℕ) → m ≤ n → IsSpread ms m → IsSpread ms n
spread_within = spread_at

-- what all links say, the new one among them
held_all : (ls : List (Link ℕ)) (l : Link ℕ) (ms : List Node)
    → ((k : Link ℕ) → IsIn k ls → (d : ℤ) (r : ℕ) → Rises ms k.one d r → Rises ms k.other (d +ℤ k.by) r)
    → ((d : ℤ) (r : ℕ) → Rises ms l.one d r → Rises ms l.other (d +ℤ l.by) r)
    → (k : Link ℕ) → IsIn k (ls ++ l ∷ []) → (d : ℤ) (r : ℕ) → Rises ms k.one d r → Rises ms k.other (d +ℤ k.by) r
held_all ls l ms old_held new_held k in_all d r h =
    elim (in_either k ls (l ∷ []) in_all) [ inl g ↦ old_held k g d r h | inr g ↦ last_held k g d r h ]
  where
    last_held : (k : Link ℕ) → IsIn k (l ∷ []) → (d : ℤ) (r : ℕ) → Rises ms k.one d r → Rises ms k.other (d +ℤ k.by) r
    last_held _ first_in d r h = new_held d r h
    last_held k (later_in g) d r h = elim g [ ]

-- a link holds where it holds at one place
pub held_at : (ms : List Node) (l : Link ℕ) (c e : ℤ) (t : ℕ) → Rises ms l.one c t → Rises ms l.other e t → e ≡ c +ℤ l.by
    → (d : ℤ) (r : ℕ) → Rises ms l.one d r → Rises ms l.other (d +ℤ l.by) r
held_at ms l c e t one other is d r h =
    let same = rises_once ms l.one r t d c h one in
    rises_at ms l.other t r e (d +ℤ l.by) other same.root (let g : d ≡ c = same.offset in let k : e ≡ c +ℤ l.by = is in omega (arith, ints))

pub joined : (ls : List (Link ℕ)) (l : Link ℕ) (ns ms : List Node) (a b : ℕ) (s : ℤ) (height : ℕ) → IsJoined ls l ns ms a b s height
    → ((d : ℤ) (r : ℕ) → Rises ms l.one d r → Rises ms l.other (d +ℤ l.by) r) → IsSolving (ls ++ l ∷ []) ms (height + 1)
joined ls l ns ms a b s height is new_held = record {
  forest = joined_forest ns ms a b s height is.join;
  holds = record {
    sound = λ x d r within h.
        let same : length ms ≡ length ns = is.join.attached.same_length in
        sound_by ls l ns ms a b s height is x r d (omega arith) (comes ns ms a b s height is.join x r d (omega arith) h);
    held = held_all ls l ms (held_old ls l ns ms a b s height is) new_held;
  };
  spread = spread_at ms (reach ls + nat_abs l.by) (reach (ls ++ l ∷ [])) (let e = reach_more ls l in omega arith) (joined_spread ls l ns ms a b s height is);
}

-- an equation that is known already
pub known : (ls : List (Link ℕ)) (l : Link ℕ) (ns : List Node) (height : ℕ) → IsSolving ls ns height
    → ((d : ℤ) (r : ℕ) → Rises ns l.one d r → Rises ns l.other (d +ℤ l.by) r) → IsSolving (ls ++ l ∷ []) ns (height + 1)
known ls l ns height is new_held = record {
  forest = record {
    inside = is.forest.inside;
    rising = is.forest.rising;
    low = λ x h. let low : (node_at ns x).rank ≤ height = is.forest.low x h in omega arith;
  };
  holds = record {
    sound = λ x d r within h. stands_more ls (ls ++ l ∷ []) r x d (λ k g. in_front k ls (l ∷ []) g) (is.holds.sound x d r within h);
    held = held_all ls l ns is.holds.held new_held;
  };
  spread = spread_at ns (reach ls) (reach (ls ++ l ∷ [])) (let e = reach_more ls l in omega arith) is.spread;
}
