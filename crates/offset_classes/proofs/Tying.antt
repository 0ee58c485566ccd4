-- What one equation makes of trees.
use Rattle.std.proofs.Common.{◌≡◌, ℕ, zero, suc, ◌+◌, ◌≤◌, ◌<◌, ℤ, pos, ◌+ℤ◌, neg_ℤ, nat_abs, Bool, true, false, nat_eq, nat_lt, take, replicate, List, [], ◌∷◌, ◌++◌, length, get_or, set, arith, refl, sym, ap, subst, ◌∙◌, get_or-set_other, get_or-set_same}
use borrow.Author.Tests.{eqb-true, eqb-false, ltb-true, ltb-false}
use Rattle.std.proofs.Math.ListN.{length-set, length-replicate}
use Rattle.std.proofs.lemmas.List.{take_all}
use Rattle.std.proofs.lemmas.Int.{ints}
use Rattle.f_tree.specs.Setting.{IsIn, first_in, later_in}
use Rattle.offset_classes.specs.declared.nodes.Node.{Node}
use Rattle.offset_classes.specs.declared.nodes.Place.{Place}
use Rattle.offset_classes.specs.declared.nodes.Equation.{Equation}
use Rattle.std.specs.Bool.{OnTrue, OnFalse}
use Rattle.offset_classes.specs.Standing.{Link, Stands, itself, AreContradictory, AreConsistent, AreBelow, reach, link_of, links_of}
use Rattle.offset_classes.specs.Forest.{node_at, Rises, stays, IsSpread, IsSolving, IsAttached, widths, AreSingle, ArePlaces, AreClasses, IsFirstToContradict, place_at}
use Rattle.offset_classes.proofs.StandsLaws.{stands_along, stands_back, stands_by, stands_back_by, stands_more, in_front, in_back, by_ways}
use Rattle.offset_classes.proofs.Rising.{rises_at, rises_from, at_root, root_within, IsOnePlace, rises_once, is_placed, place_near}
use Rattle.offset_classes.proofs.Joining.{IsJoin, moves, keeps, joined, known, held_at, widths_none, spread_within}

-- a tree that was put under another one by two writes
module _ (ns : List Node) (low high : ℕ) (lower upper : Node) (low_in : low < length ns) (high_in : high < length ns) (apart : low ≡ high → ⊥) where
  first : List Node
  first = set ns low lower

  put_low : node_at (set (set ns low lower) high upper) low ≡ lower
  put_low = get_or-set_other (set ns low lower) high low upper _ apart ∙ get_or-set_same ns low lower _ low_in

  put_high : node_at (set (set ns low lower) high upper) high ≡ upper
  put_high = get_or-set_same (set ns low lower) high upper _ (let e : length (set ns low lower) ≡ length ns = length-set ns low lower in omega arith)

  put_other : (x : ℕ) → (x ≡ low → ⊥) → (x ≡ high → ⊥) → node_at (set (set ns low lower) high upper) x ≡ node_at ns x
  put_other x not_low not_high = get_or-set_other (set ns low lower) high x upper _ not_high ∙ get_or-set_other ns low x lower _ not_low

  put_same : {A : Type 0} (f : Node → A) → f upper ≡ f (node_at ns high) → (x : ℕ) → (x ≡ low → ⊥) → (test : Bool) → nat_eq x high ≡ test
      → f (node_at (set (set ns low lower) high upper) x) ≡ f (node_at ns x)
  put_same f same x not_low true is =
      let e : x ≡ high = eqb-true _ _ is in
      subst (λ w. f (node_at (set (set ns low lower) high upper) w) ≡ f (node_at ns w)) (sym e) (ap f put_high ∙ same)
  put_same f same x not_low false is = ap f (put_other x not_low (eqb-false _ _ is))

  put_ranks : lower.rank ≡ (node_at ns low).rank → (x : ℕ) → (x ≡ high → ⊥) → (test : Bool) → nat_eq x low ≡ test
      → (node_at (set (set ns low lower) high upper) x).rank ≡ (node_at ns x).rank
  put_ranks same x not_high true is =
      let e : x ≡ low = eqb-true _ _ is in
      subst (λ w. (node_at (set (set ns low lower) high upper) w).rank ≡ (node_at ns w).rank) (sym e) (ap (λ n. n.rank) put_low ∙ same)
  put_ranks same x not_high false is = ap (λ n. n.rank) (put_other x (eqb-false _ _ is) not_high)

pub put_attached : (ns ms : List Node) (low high rank height : ℕ) (s : ℤ) → low < length ns → high < length ns → (low ≡ high → ⊥)
    → ms ≡ set (set ns low (record { parent = high; offset = s; rank = (node_at ns low).rank })) high (record (node_at ns high) { rank = rank })
    → (node_at ns high).rank ≤ rank → (node_at ns low).rank < rank → rank ≤ height + 1 → IsAttached ns ms low high s height
put_attached ns ms low high rank height s low_in high_in apart is no_lower above within =
    let lower : Node = record { parent = high; offset = s; rank = (node_at ns low).rank } in
    let upper : Node = record (node_at ns high) { rank = rank } in
    let high_is : (node_at (set (set ns low lower) high upper) high).rank ≡ rank = ap (λ n. n.rank) (put_high ns low high lower upper low_in high_in apart) in
    subst (λ ks. IsAttached ns ks low high s height) (sym is)
    (record {
      same_length = length-set (set ns low lower) high upper ∙ length-set ns low lower;
      parent = ap (λ n. n.parent) (put_low ns low high lower upper low_in high_in apart);
      offset = ap (λ n. n.offset) (put_low ns low high lower upper low_in high_in apart);
      other_parents = λ x h. put_same ns low high lower upper low_in high_in apart (λ n. n.parent) refl x h (nat_eq x high) refl;
      other_offsets = λ x h. put_same ns low high lower upper low_in high_in apart (λ n. n.offset) refl x h (nat_eq x high) refl;
      ranks = λ x h. put_ranks ns low high lower upper low_in high_in apart refl x h (nat_eq x low) refl;
      no_lower = omega arith;
      above = omega arith;
      within = omega arith;
    })

-- the two trees are one already
pub tied_known : (ls : List (Link ℕ)) (l : Link ℕ) (ns : List Node) (height r q : ℕ) (c d : ℤ) → IsSolving ls ns height → Rises ns l.one c r → Rises ns l.other d q
    → r ≡ q → (c +ℤ l.by) +ℤ neg_ℤ d ≡ pos 0 → IsSolving (ls ++ l ∷ []) ns (height + 1)
tied_known ls l ns height r q c d is one other same none =
    known ls l ns height is (held_at ns l c d r one (rises_at ns l.other q r d d other same refl) (let k : (c +ℤ l.by) +ℤ neg_ℤ d ≡ pos 0 = none in omega (arith, ints)))

pub tied_wrongly : (ls : List (Link ℕ)) (l : Link ℕ) (ns : List Node) (height r q : ℕ) (c d : ℤ) → IsSolving ls ns height → l.one < length ns → l.other < length ns
    → Rises ns l.one c r → Rises ns l.other d q → r ≡ q → ((c +ℤ l.by) +ℤ neg_ℤ d ≡ pos 0 → ⊥) → AreContradictory (ls ++ l ∷ [])
tied_wrongly ls l ns height r q c d is one_in other_in one other same some = record {
  at = l.one;
  by = (l.by +ℤ neg_ℤ d) +ℤ c;
  is =
      let all = ls ++ l ∷ [] in
      let more : (x y : ℕ) (e : ℤ) → Stands ls x y e → Stands all x y e = λ x y e h. stands_more ls all x y e (λ k g. in_front k ls (l ∷ []) g) h in
      let to_root = stands_back all r l.other d (neg_ℤ d)
      (more r l.other d (is.holds.sound l.other d r other_in (rises_at ns l.other q r d d other same refl))) refl in
      stands_along all l.one r l.one (l.by +ℤ neg_ℤ d) c ((l.by +ℤ neg_ℤ d) +ℤ c)
      (stands_along all l.one l.other r l.by (neg_ℤ d) (l.by +ℤ neg_ℤ d) (stands_by all l (in_back l ls (l ∷ []) first_in)) to_root refl)
      (more r l.one c (is.holds.sound l.one c r one_in one)) refl;
  elsewhere = λ e. some (let k : (l.by +ℤ neg_ℤ d) +ℤ c ≡ pos 0 = e in omega (arith, ints));
}

-- the tree of the first number is put under that of the other one, or the other way round
pub tied_low : (ls : List (Link ℕ)) (l : Link ℕ) (ns ms : List Node) (height r q : ℕ) (c d s : ℤ) → IsSolving ls ns height → AreBelow (length ns) ls
    → l.one < length ns → l.other < length ns → Rises ns l.one c r → Rises ns l.other d q → (r ≡ q → ⊥) → s ≡ neg_ℤ ((c +ℤ l.by) +ℤ neg_ℤ d)
    → IsAttached ns ms r q s height → IsSolving (ls ++ l ∷ []) ms (height + 1)
tied_low ls l ns ms height r q c d s is below one_in other_in one other apart by att =
    let join : IsJoin ns ms r q s height = record {
      forest = is.forest;
      attached = att;
      low_root = at_root ns l.one r c one;
      high_root = at_root ns l.other q d other;
      low_in = root_within ns height l.one r c is.forest one_in one;
      high_in = root_within ns height l.other q d is.forest other_in other;
      apart = λ e. apart (sym e);
    } in
    joined ls l ns ms r q s height
    (record {
      join = join;
      solving = is;
      below = below;
      x = l.one;
      y = l.other;
      x_by = c;
      y_by = d;
      t = neg_ℤ l.by;
      x_in = one_in;
      y_in = other_in;
      x_rises = one;
      y_rises = other;
      stands = stands_back_by (ls ++ l ∷ []) l (in_back l ls (l ∷ []) first_in);
      equal = let k : s ≡ neg_ℤ ((c +ℤ l.by) +ℤ neg_ℤ d) = by in omega (arith, ints);
      no_more = omega (arith, ints);
    })
    (held_at ms l (c +ℤ s) d q (moves ns ms r q s height join l.one r c refl one) (keeps ns ms r q s height join l.other q d (λ e. apart (sym e)) other)
    (let k : s ≡ neg_ℤ ((c +ℤ l.by) +ℤ neg_ℤ d) = by in omega (arith, ints)))

pub tied_high : (ls : List (Link ℕ)) (l : Link ℕ) (ns ms : List Node) (height r q : ℕ) (c d s : ℤ) → IsSolving ls ns height → AreBelow (length ns) ls
    → l.one < length ns → l.other < length ns → Rises ns l.one c r → Rises ns l.other d q → (r ≡ q → ⊥) → s ≡ (c +ℤ l.by) +ℤ neg_ℤ d
    → IsAttached ns ms q r s height → IsSolving (ls ++ l ∷ []) ms (height + 1)
tied_high ls l ns ms height r q c d s is below one_in other_in one other apart by att =
    let join : IsJoin ns ms q r s height = record {
      forest = is.forest;
      attached = att;
      low_root = at_root ns l.other q d other;
      high_root = at_root ns l.one r c one;
      low_in = root_within ns height l.other q d is.forest other_in other;
      high_in = root_within ns height l.one r c is.forest one_in one;
      apart = apart;
    } in
    joined ls l ns ms q r s height
    (record {
      join = join;
      solving = is;
      below = below;
      x = l.other;
      y = l.one;
      x_by = d;
      y_by = c;
      t = l.by;
      x_in = other_in;
      y_in = one_in;
      x_rises = other;
      y_rises = one;
      stands = stands_by (ls ++ l ∷ []) l (in_back l ls (l ∷ []) first_in);
      equal = let k : s ≡ (c +ℤ l.by) +ℤ neg_ℤ d = by in omega (arith, ints);
      no_more = omega arith;
    })
    (held_at ms l c (d +ℤ s) r (keeps ns ms q r s height join l.one r c apart one) (moves ns ms q r s height join l.other q d refl other)
    (let k : s ≡ (c +ℤ l.by) +ℤ neg_ℤ d = by in omega (arith, ints)))

-- what is known where a test holds, and where it does not
pub on_true : (P Q : Type 0) (test : Bool) → OnTrue test P → (P → Q) → OnTrue test Q
on_true P Q true h step = step h
on_true P Q false h step = tt

pub on_false : (P Q : Type 0) (test : Bool) → OnFalse test P → (P → Q) → OnFalse test Q
on_false P Q true h step = tt
on_false P Q false h step = step h

pub told_true : (P : Type 0) (test : Bool) → test ≡ true → OnTrue test P → P
told_true P test is h = subst (λ b. OnTrue b P) is h

pub told_false : (P : Type 0) (test : Bool) → test ≡ false → OnFalse test P → P
told_false P test is h = subst (λ b. OnFalse b P) is h

-- THE PLACES of all numbers are those of the equations
pub single_solving : (n : ℕ) (ns : List Node) → AreSingle n ns → IsSolving [] ns 0
unfolding reach
single_solving n ns is = record {
  forest = record {
    inside = λ x h. let e : (node_at ns x).parent ≡ x = own x h in omega arith;
    rising = λ x h apart. absurd (apart (own x h));
    low = λ x h. let e : (node_at ns x).rank ≡ 0 = is.lowest x (within x h) in omega arith;
  };
  holds = record {
    sound = λ x d r h way. let at = alone x r d h way in itself x d (sym at.root) at.offset;
    held = λ l h. elim h [ ];
  };
  spread = record {
    width = replicate (length ns) 0;
    each = length-replicate (length ns) 0;
    sum = let e = no_widths (length ns) in omega arith;
    near = λ x y r d c h g way way'.
        let at = alone x r d h way in
        let other = alone y r c g way' in
        let e : d ≡ pos 0 = at.offset in
        let k : c ≡ pos 0 = other.offset in
        omega (arith, ints);
  };
}
  where
    within : (x : ℕ) → x < length ns → x < n
    within x h = let e : length ns ≡ n = is.each in omega arith

    own : (x : ℕ) → x < length ns → (node_at ns x).parent ≡ x
    own x h = is.root x (within x h)

    alone : (x r : ℕ) (d : ℤ) → x < length ns → Rises ns x d r → IsOnePlace d (pos 0) r x
    alone x r d h way = rises_once ns x r x d (pos 0) way (stays x (pos 0) x (own x h) refl refl)

    no_widths : (k : ℕ) → widths (replicate k 0) ≡ 0
    no_widths k = widths_none k

-- each way along the equations is kept
module _ (ls : List (Link ℕ)) (ns : List Node) (height : ℕ) (is : IsSolving ls ns height) (below : AreBelow (length ns) ls) where
  keeps_way : (x y : ℕ) (d : ℤ) → Stands ls x y d → (c : ℤ) (r : ℕ) → Rises ns x c r → Rises ns y (c +ℤ d) r
  keeps_way x y d h =
      by_ways ls (λ x y d. (c : ℤ) (r : ℕ) → Rises ns x c r → Rises ns y (c +ℤ d) r)
      (λ x c r h. rises_at ns x r r c (c +ℤ pos 0) h refl (omega (arith, ints)))
      (λ x y z b d l in_ls way one other by c r h.
      rises_from ns l.other z r (c +ℤ d)
      (rises_at ns l.other r r ((c +ℤ b) +ℤ l.by) (c +ℤ d) (is.holds.held l in_ls (c +ℤ b) r (rises_from ns y l.one r (c +ℤ b) (way c r h) one)) refl
      (let e : d ≡ b +ℤ l.by = by in omega (arith, ints))) (sym other))
      (λ x y z b d l in_ls way other one by c r h.
      let p = is_placed ns height is.forest l.one (below.each l in_ls).0 in
      let there = is.holds.held l in_ls p.by p.root p.rises in
      let same = rises_once ns l.other r p.root (c +ℤ b) (p.by +ℤ l.by) (rises_from ns y l.other r (c +ℤ b) (way c r h) other) there in
      rises_from ns l.one z r (c +ℤ d)
      (rises_at ns l.one p.root r p.by (c +ℤ d) p.rises same.root
      (let e : d ≡ b +ℤ neg_ℤ l.by = by in let k : c +ℤ b ≡ p.by +ℤ l.by = same.offset in omega (arith, ints))) (sym one))
      x y d h

  -- nothing begins elsewhere than where it begins
  outside : (x y : ℕ) (d : ℤ) → Stands ls x y d → length ns ≤ x → (y ≡ x) × (d ≡ pos 0)
  outside x y d h = by_ways ls (λ x y d. length ns ≤ x → (y ≡ x) × (d ≡ pos 0)) (λ x h. (refl, refl))
      (λ x y z b d l in_ls way one other by h.
      let e : y ≡ x = (way h).0 in let k : l.one ≡ y = one in let m : l.one < length ns = (below.each l in_ls).0 in absurd (omega arith))
      (λ x y z b d l in_ls way other one by h.
      let e : y ≡ x = (way h).0 in let k : l.other ≡ y = other in let m : l.other < length ns = (below.each l in_ls).1 in absurd (omega arith))
      x y d h

  consistent_by : (x : ℕ) (d : ℤ) → Stands ls x x d → (test : Bool) → nat_lt x (length ns) ≡ test → d ≡ pos 0
  consistent_by x d h true t =
      let p = is_placed ns height is.forest x (ltb-true _ _ t) in
      let once = rises_once ns x p.root p.root (p.by +ℤ d) p.by (keeps_way x x d h p.by p.root p.rises) p.rises in
      let e : p.by +ℤ d ≡ p.by = once.offset in
      omega (arith, ints)
  consistent_by x d h false t = (outside x x d h (ltb-false _ _ t)).1

  pub consistent : AreConsistent ls
  consistent = record { nowhere_else = λ x d h. consistent_by x d h (nat_lt x (length ns)) refl }

  pub solved : (n : ℕ) (ps : List Place) → n ≡ length ns → ArePlaces n ns ps → AreClasses n ls ps
  solved n ps same at = record {
    each = at.each;
    within = λ x h. let e : n ≡ length ns = same in
        let k : (place_at ps x).root < length ns = root_within ns height x (place_at ps x).root (place_at ps x).offset is.forest (omega arith) (at.rises x h) in omega arith;
    consistent = consistent;
    near = λ x h. let e : n ≡ length ns = same in
        place_near ns height (reach ls) is.forest is.spread x (place_at ps x).root (place_at ps x).offset (omega arith) (at.rises x h);
    rooted = λ x h.
        let e : n ≡ length ns = same in
        is.holds.sound x (place_at ps x).offset (place_at ps x).root (omega arith) (at.rises x h);
    placed = λ x y d h g way.
        let once = rises_once ns y (place_at ps x).root (place_at ps y).root ((place_at ps x).offset +ℤ d) (place_at ps y).offset
        (keeps_way x y d way (place_at ps x).offset (place_at ps x).root (at.rises x h)) (at.rises y g) in
        record { together = once.root; apart = sym once.offset };
    stands = λ x y d h g apart.
        let e : n ≡ length ns = same in
        let r = (place_at ps x).root in
        let to_x = is.holds.sound x (place_at ps x).offset r (omega arith) (at.rises x h) in
        let to_y = is.holds.sound y (place_at ps y).offset (place_at ps y).root (omega arith) (at.rises y g) in
        let to_y' = subst (λ w. Stands ls w y (place_at ps y).offset) (sym apart.together) to_y in
        stands_along ls x r y (neg_ℤ (place_at ps x).offset) (place_at ps y).offset d (stands_back ls r x (place_at ps x).offset (neg_ℤ (place_at ps x).offset) to_x refl) to_y'
        (let k : (place_at ps y).offset ≡ (place_at ps x).offset +ℤ d = apart.apart in omega (arith, ints));
  }

-- FRONTS of a list of equations
pub links_take : (es : List Equation) (i : ℕ) → links_of (take i es) ≡ take i (links_of es)
unfolding links_of
links_take [] zero = refl
links_take [] (suc i) = refl
links_take (e ∷ es) zero = refl
links_take (e ∷ es) (suc i) = ap (λ ls. link_of e ∷ ls) (links_take es i)

pub links_more : (es : List Equation) (i : ℕ) (e d : Equation) → i < length es → e ≡ get_or es i d
    → links_of (take (i + 1) es) ≡ links_of (take i es) ++ link_of e ∷ []
unfolding links_of
links_more [] i e d h is = absurd (let k : i < 0 = h in omega arith)
links_more (f ∷ es) zero e d h is = ap (λ g. link_of g ∷ []) (sym is)
links_more (f ∷ es) (suc i) e d h is =
    let m : suc i + 1 ≡ suc (i + 1) = omega arith in
    ap (λ k. links_of (take k (f ∷ es))) m ∙ ap (λ ls. link_of f ∷ ls) (links_more es i e d (let k : suc i < suc (length es) = h in omega arith) is)

pub links_length : (es : List Equation) → length (links_of es) ≡ length es
unfolding links_of
links_length [] = refl
links_length (e ∷ es) = ap suc (links_length es)

pub reach_take : (es : List Equation) (i : ℕ) → reach (links_of (take i es)) ≤ reach (links_of es)
unfolding links_of reach
reach_take [] zero = omega arith
reach_take [] (suc i) = omega arith
reach_take (e ∷ es) zero = omega arith
reach_take (e ∷ es) (suc i) = let h = reach_take es i in omega arith

pub links_in : (es : List Equation) (i : ℕ) (e d : Equation) → i < length es → e ≡ get_or es i d → IsIn (link_of e) (links_of es)
unfolding links_of
links_in [] i e d h is = absurd (let k : i < 0 = h in omega arith)
links_in (f ∷ es) zero e d h is = subst (λ g. IsIn (link_of g) (links_of (f ∷ es))) (sym is) first_in
links_in (f ∷ es) (suc i) e d h is = later_in (links_in es i e d (let k : suc i < suc (length es) = h in omega arith) is)

in_front_of : (es : List Equation) (i : ℕ) (l : Link ℕ) → IsIn l (links_of (take i es)) → IsIn l (links_of es)
unfolding links_of
in_front_of [] zero l h = h
in_front_of [] (suc i) l h = h
in_front_of (e ∷ es) zero l h = elim h [ ]
in_front_of (e ∷ es) (suc i) _ first_in = first_in
in_front_of (e ∷ es) (suc i) l (later_in h) = later_in (in_front_of es i l h)

pub below_take : (n : ℕ) (es : List Equation) (i : ℕ) → AreBelow n (links_of es) → AreBelow n (links_of (take i es))
below_take n es i below = record { each = λ l h. below.each l (in_front_of es i l h) }

near_in : (ls : List (Link ℕ)) (l : Link ℕ) → IsIn l ls → nat_abs l.by ≤ reach ls
unfolding reach
near_in (k ∷ ls) _ first_in = omega arith
near_in (k ∷ ls) l (later_in h) = let m = near_in ls l h in omega arith
near_in [] l h = elim h [ ]

pub equation_near : (es : List Equation) (i : ℕ) (e d : Equation) → i < length es → e ≡ get_or es i d → nat_abs e.by ≤ reach (links_of es)
equation_near es i e d h is = near_in (links_of es) (link_of e) (links_in es i e d h is)

-- THE WALK over the equations
pub record IsOn (es : List Equation) (ns : List Node) (i : ℕ) : Type 0 where
  pub solving : IsSolving (links_of (take i es)) ns i

pub walk_start : (es : List Equation) (ns : List Node) → AreSingle (length ns) ns → IsSolving (links_of (take 0 es)) ns 0
unfolding links_of
walk_start [] ns is = single_solving (length ns) ns is
walk_start (e ∷ es) ns is = single_solving (length ns) ns is

pub walk_spread : (es : List Equation) (ns : List Node) (i most : ℕ) → IsSolving (links_of (take i es)) ns i → reach (links_of es) ≤ most → IsSpread ns most
walk_spread es ns i most is near = spread_within ns (reach (links_of (take i es))) most (let k = reach_take es i in omega arith) is.spread

pub walk_more : (es : List Equation) (ns ms : List Node) (i : ℕ) (e d : Equation) → i < length es → e ≡ get_or es i d
    → IsSolving (links_of (take i es) ++ link_of e ∷ []) ms (i + 1) → IsSolving (links_of (take (i + 1) es)) ms (i + 1)
walk_more es ns ms i e d h is now = subst (λ ls. IsSolving ls ms (i + 1)) (sym (links_more es i e d h is)) now

pub walk_end : (es : List Equation) (ns : List Node) (i : ℕ) → i ≡ length es → IsSolving (links_of (take i es)) ns i → IsSolving (links_of es) ns (length es)
walk_end es ns i is now =
    subst (λ k. IsSolving (links_of es) ns k) is (subst (λ xs. IsSolving (links_of xs) ns i) (take_all i es (let e : i ≡ length es = is in omega arith)) now)

pub walk_stops : (n : ℕ) (es : List Equation) (ns : List Node) (i : ℕ) (e d : Equation) → i < length es → e ≡ get_or es i d → n ≡ length ns
    → AreBelow n (links_of es) → IsSolving (links_of (take i es)) ns i → AreContradictory (links_of (take i es) ++ link_of e ∷ [])
    → IsFirstToContradict (links_of es) i
walk_stops n es ns i e d h is same below solving wrong = record {
  within = let k = links_length es in omega arith;
  before = subst (λ ls. AreConsistent ls) (links_take es i)
      (consistent (links_of (take i es)) ns i solving (subst (λ m. AreBelow m (links_of (take i es))) same (below_take n es i below)));
  now = subst (λ ls. AreContradictory ls) (sym (links_more es i e d h is) ∙ links_take es (i + 1)) wrong;
}

pub known_places : (es : List Equation) (n : ℕ) (ns : List Node) (ps : List Place) → n ≡ length ns → AreBelow n (links_of es)
    → IsSolving (links_of es) ns (length es) → ArePlaces (length ns) ns ps → AreClasses n (links_of es) ps
known_places es n ns ps same below solving at =
    solved (links_of es) ns (length es) solving (subst (λ m. AreBelow m (links_of es)) same below) n ps same (subst (λ m. ArePlaces m ns ps) (sym same) at)
