-- Tests of the premises of equations.
use Rattle.std.proofs.Common.{◌≡◌, ℕ, ◌<◌, Bool, true, false, ◌&&◌, nat_lt, List, [], ◌∷◌, true≢false, sym, refl}
use borrow.Author.Tests.{ltb-true}
use Rattle.f_tree.specs.Setting.{IsIn, first_in, later_in}
use Rattle.offset_classes.specs.declared.nodes.Equation.{Equation}
use Rattle.offset_classes.specs.Standing.{Link, AreBelow, links_of}

abbrev pub are_below : ℕ → List Equation → Bool
are_below n [] = true
are_below n (e ∷ es) = nat_lt e.one n && (nat_lt e.other n && are_below n es)

left_true : (a b : Bool) → (a && b) ≡ true → a ≡ true
left_true true b h = refl
left_true false b h = absurd (true≢false (sym h))

right_true : (a b : Bool) → (a && b) ≡ true → b ≡ true
right_true true b h = h
right_true false b h = absurd (true≢false (sym h))

each_below : (n : ℕ) (es : List Equation) → are_below n es ≡ true → (l : Link ℕ) → IsIn l (links_of es) → (l.one < n) × (l.other < n)
unfolding links_of
each_below n [] h l is_in = elim is_in [ ]
each_below n (e ∷ es) h _ first_in =
    let rest = right_true (nat_lt e.one n) _ h in
    (ltb-true _ _ (left_true (nat_lt e.one n) _ h), ltb-true _ _ (left_true (nat_lt e.other n) _ rest))
each_below n (e ∷ es) h l (later_in is_in) = each_below n es (right_true (nat_lt e.other n) _ (right_true (nat_lt e.one n) _ h)) l is_in

pub below_checked : (n : ℕ) (es : List Equation) → are_below n es ≡ true → AreBelow n (links_of es)
below_checked n es h = record { each = each_below n es h }
