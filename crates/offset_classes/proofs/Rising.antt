-- Laws of trees.
use Rattle.std.proofs.Common.{◌≡◌, ℕ, zero, suc, ◌+◌, ◌≤◌, ◌<◌, ◌^◌, ℤ, pos, negsuc, ◌+ℤ◌, neg_ℤ, nat_abs, Bool, true, false, nat_eq, List, [], ◌∷◌, length, get_or, arith, refl, sym, ap, subst, ◌∙◌}
use borrow.Author.Tests.{eqb-true, eqb-false}
use Rattle.std.proofs.lemmas.Int.{ints, to_z-of_z, fits_signed_from_abs}
use Rattle.std.specs.Int.RustNames.{FitsSigned, unsigned_abs}
use mir.Syntax.{w64}
use mir.Val.{to_z, of_z}
use Rattle.offset_classes.specs.declared.nodes.Node.{Node}
use Rattle.offset_classes.specs.Forest.{node_at, Rises, stays, climbs, IsForest, IsSpread, widths}

pub rises_at : (ns : List Node) (x r s : ℕ) (d e : ℤ) → Rises ns x d r → s ≡ r → e ≡ d → Rises ns x e s
rises_at ns x r s d e h sr ed = subst (λ w. Rises ns x e w) (sym sr) (subst (λ w. Rises ns x w r) (sym ed) h)

pub rises_from : (ns : List Node) (x y r : ℕ) (d : ℤ) → Rises ns x d r → y ≡ x → Rises ns y d r
rises_from ns x y r d h yx = subst (λ w. Rises ns w d r) (sym yx) h

-- a number has one place
pub record IsOnePlace (d c : ℤ) (r s : ℕ) : Type 0 where
  pub offset : d ≡ c
  pub root : r ≡ s

pub rises_once : (ns : List Node) (x r s : ℕ) (d c : ℤ) → Rises ns x d r → Rises ns x c s → IsOnePlace d c r s
rises_once ns x r s d c (stays _ _ _ at d0 rx) (stays _ _ _ at' c0 sx) = record { offset = d0 ∙ sym c0; root = rx ∙ sym sx }
rises_once ns x r s d c (stays _ _ _ at d0 rx) (climbs _ y _ b _ up apart way by) = absurd (apart (sym up ∙ at))
rises_once ns x r s d c (climbs _ y _ b _ up apart way by) (stays _ _ _ at d0 rx) = absurd (apart (sym up ∙ at))
rises_once ns x r s d c (climbs _ y _ b _ up apart way by) (climbs _ z _ e _ up' apart' way' by') =
    let same = rises_once ns y r s b e way (rises_from ns z y s e way' (sym up ∙ up')) in
    record { offset = by ∙ ap (λ w. w +ℤ (node_at ns x).offset) same.offset ∙ sym by'; root = same.root }

-- a root is its own parent
pub at_root : (ns : List Node) (x r : ℕ) (d : ℤ) → Rises ns x d r → (node_at ns r).parent ≡ r
at_root ns x r d (stays _ _ _ at d0 rx) = subst (λ w. (node_at ns w).parent ≡ w) (sym rx) at
at_root ns x r d (climbs _ y _ b _ up apart way by) = at_root ns y r b way

pub root_within : (ns : List Node) (height x r : ℕ) (d : ℤ) → IsForest ns height → x < length ns → Rises ns x d r → r < length ns
root_within ns height x r d forest within (stays _ _ _ at d0 rx) = let e : r ≡ x = rx in omega arith
root_within ns height x r d forest within (climbs _ y _ b _ up apart way by) =
    root_within ns height y r b forest (subst (λ w. w < length ns) up (forest.inside x within)) way

-- each number has a place
pub record IsPlaced (ns : List Node) (x : ℕ) : Type 0 where
  pub by : ℤ
  pub root : ℕ
  pub rises : Rises ns x by root

placed_by : (ns : List Node) (height : ℕ) → IsForest ns height → (k x : ℕ) → x < length ns → height < (node_at ns x).rank + suc k
    → (((node_at ns x).parent ≡ x → ⊥) → height < (node_at ns (node_at ns x).parent).rank + k → IsPlaced ns (node_at ns x).parent)
    → (test : Bool) → nat_eq (node_at ns x).parent x ≡ test → IsPlaced ns x
placed_by ns height forest k x within short above true is = record { by = pos 0; root = x; rises = stays x (pos 0) x (eqb-true _ _ is) refl refl }
placed_by ns height forest k x within short above false is =
    let up = (node_at ns x).parent in
    let apart : up ≡ x → ⊥ = eqb-false _ _ is in
    let rising = forest.rising x within apart in
    let next = above apart (omega arith) in
    record { by = next.by +ℤ (node_at ns x).offset; root = next.root; rises = climbs x up _ next.by next.root refl apart next.rises refl }

placed_below : (ns : List Node) (height : ℕ) → IsForest ns height → (k x : ℕ) → x < length ns → height < (node_at ns x).rank + k → IsPlaced ns x
placed_below ns height forest zero x within short = let low = forest.low x within in absurd (omega arith)
placed_below ns height forest (suc k) x within short =
    placed_by ns height forest k x within short
    (λ apart above. placed_below ns height forest k (node_at ns x).parent (forest.inside x within) above)
    (nat_eq (node_at ns x).parent x) refl

pub is_placed : (ns : List Node) (height : ℕ) → IsForest ns height → (x : ℕ) → x < length ns → IsPlaced ns x
is_placed ns height forest x within = placed_below ns height forest (suc height) x within (omega arith)

-- WIDTHS
pub width_within : (ws : List ℕ) (k : ℕ) → get_or ws k 0 ≤ widths ws
unfolding widths
width_within [] k = omega arith
width_within (w ∷ ws) zero = omega arith
width_within (w ∷ ws) (suc k) = let h = width_within ws k in omega arith

-- as far as a way goes up
pub way_near : (ns : List Node) (height most : ℕ) → IsForest ns height → IsSpread ns most → (x y : ℕ) (o : ℤ) → x < length ns → y < length ns
    → ((c : ℤ) (r : ℕ) → Rises ns y c r → Rises ns x (c +ℤ o) r) → nat_abs o ≤ most
way_near ns height most forest spread x y o in_x in_y way =
    let p = is_placed ns height forest y in_y in
    let near : nat_abs ((p.by +ℤ o) +ℤ neg_ℤ p.by) ≤ get_or spread.width p.root 0 = spread.near x y p.root (p.by +ℤ o) p.by in_x in_y (way p.by p.root p.rises) p.rises in
    let least : get_or spread.width p.root 0 ≤ widths spread.width = width_within spread.width p.root in
    let sum : widths spread.width ≤ most = spread.sum in
    omega (arith, ints)

pub up_near : (ns : List Node) (height most : ℕ) → IsForest ns height → IsSpread ns most → (x : ℕ) → x < length ns
    → ((node_at ns x).parent ≡ x → ⊥) → nat_abs (node_at ns x).offset ≤ most
up_near ns height most forest spread x within apart =
    way_near ns height most forest spread x (node_at ns x).parent (node_at ns x).offset within (forest.inside x within)
    (λ c r way. climbs x _ _ c r refl apart way refl)

-- a place is near its root
pub place_near : (ns : List Node) (height most : ℕ) → IsForest ns height → IsSpread ns most → (x r : ℕ) (d : ℤ) → x < length ns → Rises ns x d r → nat_abs d ≤ most
place_near ns height most forest spread x r d within way =
    let near : nat_abs (d +ℤ neg_ℤ (pos 0)) ≤ get_or spread.width r 0 =
    spread.near x r r d (pos 0) within (root_within ns height x r d forest within way) way (stays r (pos 0) r (at_root ns x r d way) refl refl) in
    let least : get_or spread.width r 0 ≤ widths spread.width = width_within spread.width r in
    let sum : widths spread.width ≤ most = spread.sum in
    omega (arith, ints)

-- a way goes one parent further
pub way_up : (ns : List Node) (x y z : ℕ) (o p q : ℤ) → (node_at ns y).parent ≡ z → (z ≡ y → ⊥) → p ≡ (node_at ns y).offset → q ≡ o +ℤ p
    → ((c : ℤ) (r : ℕ) → Rises ns y c r → Rises ns x (c +ℤ o) r) → (c : ℤ) (r : ℕ) → Rises ns z c r → Rises ns x (c +ℤ q) r
way_up ns x y z o p q up apart is eq way c r h =
    rises_at ns x r r ((c +ℤ (node_at ns y).offset) +ℤ o) (c +ℤ q) (way (c +ℤ (node_at ns y).offset) r (climbs y z _ c r up apart h refl)) refl (omega (arith, ints))

-- SIGNED NUMBERS as the code has them
same_magnitude : (z : ℤ) → unsigned_abs z ≡ nat_abs z
same_magnitude (pos n) = refl
same_magnitude (negsuc n) = refl

pub fits_within : (z : ℤ) (most : ℕ) → nat_abs z ≤ most → most < 2 ^ 63 → FitsSigned w64 z
fits_within z most h low = fits_signed_from_abs w64 z (let e : unsigned_abs z ≡ nat_abs z = same_magnitude z in omega arith)

pub fits_near : (z : ℤ) → nat_abs z ≤ 2 ^ 61 → FitsSigned w64 z
fits_near z h = fits_within z (2 ^ 61) h (omega arith)

pub read_back : (z : ℤ) → nat_abs z ≤ 2 ^ 61 → to_z w64 (of_z w64 z) ≡ z
read_back z h = to_z-of_z w64 z (fits_near z h)

pub passed_on : (r z : ℤ) → r ≡ z → nat_abs r < 2 ^ 63 → to_z w64 (of_z w64 r) ≡ z
passed_on r z is low = to_z-of_z w64 r (fits_within r (nat_abs r) (omega arith) low) ∙ is

pub passed_three : (r a b d : ℤ) → nat_abs a ≤ 2 ^ 61 → nat_abs b ≤ 2 ^ 61 → nat_abs d ≤ 2 ^ 61
    → r ≡ (to_z w64 (of_z w64 a) +ℤ to_z w64 (of_z w64 b)) +ℤ neg_ℤ (to_z w64 (of_z w64 d)) → nat_abs r < 2 ^ 63 → to_z w64 (of_z w64 r) ≡ (a +ℤ b) +ℤ neg_ℤ d
passed_three r a b d near_a near_b near_d is low =
    passed_on r _ is low
    ∙ ap (λ z. (z +ℤ to_z w64 (of_z w64 b)) +ℤ neg_ℤ (to_z w64 (of_z w64 d))) (read_back a near_a)
    ∙ ap (λ z. (a +ℤ z) +ℤ neg_ℤ (to_z w64 (of_z w64 d))) (read_back b near_b)
    ∙ ap (λ z. (a +ℤ b) +ℤ neg_ℤ z) (read_back d near_d)

-- ONE STEP UP from a number that a way has come to
pub record IsStep (ns : List Node) (number x : ℕ) (o : ℤ) : Type 0 where
  pub fits : FitsSigned w64 (o +ℤ to_z w64 (of_z w64 (node_at ns x).offset))
  pub near : nat_abs (to_z w64 (of_z w64 (o +ℤ to_z w64 (of_z w64 (node_at ns x).offset)))) ≤ 2 ^ 61
  pub way : (c : ℤ) (r : ℕ) → Rises ns (node_at ns x).parent c r
      → Rises ns number (c +ℤ to_z w64 (of_z w64 (o +ℤ to_z w64 (of_z w64 (node_at ns x).offset)))) r

pub step_up : (ns : List Node) (height : ℕ) → IsForest ns height → IsSpread ns (2 ^ 61) → (number x : ℕ) (o : ℤ) → number < length ns → x < length ns
    → ((node_at ns x).parent ≡ x → ⊥) → ((c : ℤ) (r : ℕ) → Rises ns x c r → Rises ns number (c +ℤ o) r) → IsStep ns number x o
step_up ns height forest spread number x o in_number in_x apart way =
    let up = (node_at ns x).parent in
    let by = (node_at ns x).offset in
    let higher : ((c : ℤ) (r : ℕ) → Rises ns up c r → Rises ns number (c +ℤ (o +ℤ by)) r) = way_up ns number x up o by (o +ℤ by) refl apart refl refl way in
    let near_up : nat_abs by ≤ 2 ^ 61 = up_near ns height (2 ^ 61) forest spread x in_x apart in
    let near_sum : nat_abs (o +ℤ by) ≤ 2 ^ 61 = way_near ns height (2 ^ 61) forest spread number up (o +ℤ by) in_number (forest.inside x in_x) higher in
    let inner : to_z w64 (of_z w64 by) ≡ by = read_back by near_up in
    let whole : to_z w64 (of_z w64 (o +ℤ to_z w64 (of_z w64 by))) ≡ o +ℤ by = ap (λ z. to_z w64 (of_z w64 (o +ℤ z))) inner ∙ read_back (o +ℤ by) near_sum in
    record {
      fits = subst (λ z. FitsSigned w64 (o +ℤ z)) (sym inner) (fits_near (o +ℤ by) near_sum);
      near = subst (λ z. nat_abs z ≤ 2 ^ 61) (sym whole) near_sum;
      way = λ c r h. subst (λ z. Rises ns number (c +ℤ z) r) (sym whole) (higher c r h);
    }

pub came : (ns : List Node) (number x : ℕ) (o : ℤ) → (node_at ns x).parent ≡ x → ((c : ℤ) (r : ℕ) → Rises ns x c r → Rises ns number (c +ℤ o) r)
    → Rises ns number o x
came ns number x o at way = rises_at ns number x x (pos 0 +ℤ o) o (way (pos 0) x (stays x (pos 0) x at refl refl)) refl (omega (arith, ints))
