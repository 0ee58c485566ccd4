-- The next arms that one backward walk finds are those of the meaning, and so are the ends of blocks.
use Rattle.std.proofs.Common.{◌≡◌, ℕ, zero, suc, ◌+◌, ◌-◌, ◌<◌, ◌≤◌, false, List, [], ◌∷◌, map, drop, length, nat_eq, Option, Some, None, if◌then◌else◌, refl, sym, ap, subst, ◌∙◌, arith}
use Rattle.std.specs.Prelude.{slice_get, option_map, slice_index_or}
use Rattle.std.proofs.lemmas.Bool.Decides.{nat_tests}
use Rattle.f_tree.specs.declared.statements.Stmt.{Stmt}
use Rattle.f_tree.specs.Facts.{Mark, Plain, Opens, Arm, Closes, Line, ProgramUnit}
use Rattle.f_tree.specs.Places.{arm_from, arm_after}
use Rattle.f_tree.specs.Lines.{Naming, mark_of, line_of}
use Rattle.lowering.specs.Units.{skip_size, mark_at, block_end_from, block_end_of}
use Rattle.statement_places.specs.declared.arms.NextArm.{NextArm}
use Rattle.statement_places.specs.NextArms.{first_arm, arms_around, end_behind, arms_before, arms_from, next_from}
use Rattle.statement_places.proofs.ListLemmas.{mapped_length}

abbrev pub at_of : NextArm → ℕ
at_of arm = arm.at

-- THE NEXT ARM, with so many blocks open
deeper : (d : ℕ) (arms : List NextArm) → slice_get (arms_around arms) d ≡ slice_get arms (suc d)
unfolding arms_around
deeper d [] = refl
deeper d (arm ∷ arms) = refl

apart : (d : ℕ) → nat_eq (suc d) 0 ≡ false
apart d = grind (arith, nat_tests)

here : (i : ℕ) (o : Option ℕ) → (if nat_eq 0 0 then Some i else o) ≡ Some i
here i o = refl

before_mark : (mark : Mark) (i depth : ℕ) (lines : List Line) (arms : List NextArm) → ((d : ℕ) → arm_from (suc i) d lines ≡ option_map at_of (slice_get arms d)) →
    elim mark [
      | Plain ↦ arm_from (suc i) depth lines
      | Opens ↦ arm_from (suc i) (suc depth) lines
      | Arm ↦ if nat_eq depth 0 then Some i else arm_from (suc i) depth lines
      | Closes ↦ elim depth [ zero ↦ Some i | suc d ↦ arm_from (suc i) d lines ]
    ] ≡ option_map at_of (slice_get (arms_before mark i arms) depth)
unfolding arms_before
before_mark Plain i depth lines arms known = known depth
before_mark Opens i depth lines arms known = known (suc depth) ∙ ap (option_map at_of) (sym (deeper depth arms))
before_mark Arm i zero lines arms known = here i (arm_from (suc i) 0 lines)
before_mark Arm i (suc d) lines arms known =
    ap (λ b. if b then Some i else arm_from (suc i) (suc d) lines) (apart d) ∙ known (suc d) ∙ ap (option_map at_of) (sym (deeper d arms))
before_mark Closes i zero lines arms known = refl
before_mark Closes i (suc d) lines arms known = known d

arm_same : (names : Naming) (labels : List ℕ) (i depth : ℕ) (ss : List Stmt) → arm_from i depth (map (line_of names labels) ss) ≡ option_map at_of (slice_get (arms_from i ss) depth)
unfolding arm_from arms_from line_of
arm_same names labels i depth [] = refl
arm_same names labels i depth (s ∷ ss) =
    before_mark (mark_of s.body) i depth (map (line_of names labels) ss) (arms_from (suc i) ss) (λ d. arm_same names labels (suc i) d ss)

first_there : (arms : List NextArm) → slice_get arms 0 ≡ first_arm arms
unfolding first_arm
first_there [] = refl
first_there (arm ∷ arms) = refl

drop_map : {X Y : Type 0} (f : X → Y) (n : ℕ) (xs : List X) → drop n (map f xs) ≡ map f (drop n xs)
drop_map f zero xs = refl
drop_map f (suc n) [] = refl
drop_map f (suc n) (x ∷ xs) = drop_map f n xs

-- THE END OF A BLOCK
-- with enough left to go on, from an arm behind a place
record IsEnd (p : ProgramUnit) (i : ℕ) (arm : NextArm) : Type 0 where
  behind : i ≤ arm.at
  within : arm.at < length p.lines
  ends : (fuel from : ℕ) → length p.lines ≤ arm.at + fuel → block_end_from p fuel from (Some arm.at) ≡ arm.end

AreEnds : ProgramUnit → ℕ → List NextArm → Type 0
AreEnds p i arms = (d : ℕ) (arm : NextArm) → slice_get arms d ≡ Some arm → IsEnd p i arm

earlier : (p : ProgramUnit) (i j : ℕ) (arm : NextArm) → j ≤ i → IsEnd p i arm → IsEnd p j arm
earlier p i j arm h known = record { behind = (let b = known.behind in omega (arith, b, h)); within = known.within; ends = known.ends }

-- on from a place whose next arm is known
on_none : (p : ProgramUnit) (fuel i : ℕ) → block_end_from p fuel i None ≡ i
unfolding block_end_from
on_none p zero i = refl
on_none p (suc fuel) i = refl

on_from : (p : ProgramUnit) (i fuel : ℕ) (o : Option NextArm) → ((arm : NextArm) → o ≡ Some arm → IsEnd p (suc i) arm) → length p.lines ≤ suc i + fuel
    → block_end_from p fuel i (option_map at_of o) ≡ end_behind i o
unfolding end_behind
on_from p i fuel None known enough = on_none p fuel i
on_from p i fuel (Some arm) known enough =
    let b = (known arm refl).behind in
    (known arm refl).ends fuel i (omega (arith, b, enough))

end_at_closes : (p : ProgramUnit) (i fuel from : ℕ) → mark_at (slice_get p.lines i) ≡ 0 → 0 < fuel → block_end_from p fuel from (Some i) ≡ i
unfolding block_end_from
end_at_closes p i zero from mark some = absurd (omega (arith, some))
end_at_closes p i (suc fuel) from mark some = ap (λ n. if nat_eq n 1 then block_end_from p fuel i (arm_after p i) else i) mark

end_at_arm : (p : ProgramUnit) (i fuel from : ℕ) → mark_at (slice_get p.lines i) ≡ 1 → 0 < fuel → block_end_from p fuel from (Some i) ≡ block_end_from p (fuel - 1) i (arm_after p i)
unfolding block_end_from
end_at_arm p i zero from mark some = absurd (omega (arith, some))
end_at_arm p i (suc fuel) from mark some =
    ap (λ n. if nat_eq n 1 then block_end_from p fuel i (arm_after p i) else i) mark ∙ ap (λ n. block_end_from p n i (arm_after p i)) (let e : fuel ≡ suc fuel - 1 = omega arith in e)

closes_here : (p : ProgramUnit) (i : ℕ) → mark_at (slice_get p.lines i) ≡ 0 → i < length p.lines → IsEnd p i (record { at = i; end = i })
closes_here p i mark h = record {
  behind = omega arith;
  within = h;
  ends = λ fuel from enough. end_at_closes p i fuel from mark (omega (arith, h, enough));
}

arm_here : (p : ProgramUnit) (i : ℕ) (o : Option NextArm) → mark_at (slice_get p.lines i) ≡ 1 → i < length p.lines → arm_after p i ≡ option_map at_of o
    → ((arm : NextArm) → o ≡ Some arm → IsEnd p (suc i) arm) → IsEnd p i (record { at = i; end = end_behind i o })
arm_here p i o mark h after known = record {
  behind = omega arith;
  within = h;
  ends = λ fuel from enough.
      end_at_arm p i fuel from mark (omega (arith, h, enough)) ∙ ap (block_end_from p (fuel - 1) i) after ∙ on_from p i (fuel - 1) o known (omega (arith, enough));
}

first_of_ends : (p : ProgramUnit) (i : ℕ) (arms : List NextArm) → AreEnds p i arms → (arm : NextArm) → first_arm arms ≡ Some arm → IsEnd p i arm
unfolding AreEnds
first_of_ends p i arms known arm is = known 0 arm (first_there arms ∙ is)

around_ends : (p : ProgramUnit) (i : ℕ) (arms : List NextArm) → AreEnds p i arms → AreEnds p i (arms_around arms)
unfolding AreEnds
around_ends p i arms known = λ d arm is. known (suc d) arm (sym (deeper d arms) ∙ is)

earlier_ends : (p : ProgramUnit) (i j : ℕ) (arms : List NextArm) → j ≤ i → AreEnds p i arms → AreEnds p j arms
unfolding AreEnds
earlier_ends p i j arms h known = λ d arm is. earlier p i j arm h (known d arm is)

one_more : (p : ProgramUnit) (i : ℕ) (arm : NextArm) (arms : List NextArm) → IsEnd p i arm → AreEnds p i arms → AreEnds p i (arm ∷ arms)
unfolding AreEnds
one_more p i arm arms first known zero other is = subst (IsEnd p i) (let e : arm ≡ other = cc in e) first
one_more p i arm arms first known (suc d) other is = known d other is

before_ends : (p : ProgramUnit) (mark : Mark) (i : ℕ) (arms : List NextArm) → mark_at (slice_get p.lines i) ≡ skip_size mark → i < length p.lines
    → arm_after p i ≡ option_map at_of (first_arm arms) → AreEnds p (suc i) arms → AreEnds p i (arms_before mark i arms)
unfolding arms_before skip_size
before_ends p Plain i arms mark h after known = earlier_ends p (suc i) i arms (omega arith) known
before_ends p Opens i arms mark h after known = earlier_ends p (suc i) i (arms_around arms) (omega arith) (around_ends p (suc i) arms known)
before_ends p Arm i arms mark h after known =
    one_more p i (record { at = i; end = end_behind i (first_arm arms) }) (arms_around arms) (arm_here p i (first_arm arms) mark h after (first_of_ends p (suc i) arms known))
    (earlier_ends p (suc i) i (arms_around arms) (omega arith) (around_ends p (suc i) arms known))
before_ends p Closes i arms mark h after known =
    one_more p i (record { at = i; end = i }) arms (closes_here p i mark h) (earlier_ends p (suc i) i arms (omega arith) known)

-- LISTS FROM A PLACE ON
empty_drop : (i : ℕ) (s : Stmt) (rest : List Stmt) → drop i [] ≡ s ∷ rest → ⊥
empty_drop zero s rest is = cc
empty_drop (suc i) s rest is = cc

next_drop : (i : ℕ) (all : List Stmt) (s : Stmt) (rest : List Stmt) → drop i all ≡ s ∷ rest → drop (suc i) all ≡ rest
next_drop i [] s rest is = absurd (empty_drop i s rest is)
next_drop zero (t ∷ all) s rest is = cc
next_drop (suc i) (t ∷ all) s rest is = next_drop i all s rest is

in_drop : (i : ℕ) (all : List Stmt) (s : Stmt) (rest : List Stmt) → drop i all ≡ s ∷ rest → i < length all
in_drop i [] s rest is = absurd (empty_drop i s rest is)
in_drop zero (t ∷ all) s rest is = let e : 0 < suc (length all) = omega arith in e
in_drop (suc i) (t ∷ all) s rest is = let more = in_drop i all s rest is in let e : suc i < suc (length all) = omega (arith, more) in e

mark_there : (names : Naming) (labels : List ℕ) (i : ℕ) (all : List Stmt) (s : Stmt) (rest : List Stmt) → drop i all ≡ s ∷ rest → mark_at (slice_get (map (line_of names labels) all) i) ≡ skip_size (mark_of s.body)
unfolding mark_at line_of
mark_there names labels i [] s rest is = absurd (empty_drop i s rest is)
mark_there names labels zero (t ∷ all) s rest is = ap (λ (x : Stmt). skip_size (mark_of x.body)) (let e : t ≡ s = cc in e)
mark_there names labels (suc i) (t ∷ all) s rest is = mark_there names labels i all s rest is

module _ (names : Naming) (labels : List ℕ) (ss : List Stmt) (p : ProgramUnit) (lines : p.lines ≡ map (line_of names labels) ss) where
  pub after_same : (i : ℕ) → arm_after p i ≡ option_map at_of (first_arm (arms_from (suc i) (drop (suc i) ss)))
  unfolding arm_after
  after_same i =
      ap (λ (ls : List Line). arm_from (suc i) 0 (drop (suc i) ls)) lines ∙ ap (arm_from (suc i) 0) (drop_map (line_of names labels) (suc i) ss)
      ∙ arm_same names labels (suc i) 0 (drop (suc i) ss) ∙ ap (option_map at_of) (first_there (arms_from (suc i) (drop (suc i) ss)))

  length_lines : length p.lines ≡ length ss
  length_lines = ap length lines ∙ mapped_length (line_of names labels) ss

  all_end : (i : ℕ) (rest : List Stmt) → drop i ss ≡ rest → AreEnds p i (arms_from i rest)
  unfolding arms_from AreEnds
  all_end i [] is = λ d arm none. absurd (cc)
  all_end i (s ∷ rest) is =
      let next = next_drop i ss s rest is in
      let h = in_drop i ss s rest is in
      before_ends p (mark_of s.body) i (arms_from (suc i) rest) (ap (λ (ls : List Line). mark_at (slice_get ls i)) lines ∙ mark_there names labels i ss s rest is) (omega (arith, h, length_lines))
      (after_same i ∙ ap (λ r. option_map at_of (first_arm (arms_from (suc i) r))) next) (all_end (suc i) rest next)

  pub end_same : (i : ℕ) → block_end_of p i ≡ end_behind i (first_arm (arms_from (suc i) (drop (suc i) ss)))
  unfolding block_end_of
  end_same i =
      ap (block_end_from p (length p.lines) i) (after_same i)
      ∙ on_from p i (length p.lines) (first_arm (arms_from (suc i) (drop (suc i) ss)))
      (first_of_ends p (suc i) (arms_from (suc i) (drop (suc i) ss)) (all_end (suc i) (drop (suc i) ss) refl)) (omega arith)

-- THE WALK
pub next_there : (i : ℕ) (ss : List Stmt) (k : ℕ) → k < length ss → slice_index_or (next_from i ss) k None ≡ first_arm (arms_from (suc (i + k)) (drop (suc k) ss))
unfolding next_from
next_there i [] k h = absurd (omega (arith, h))
next_there i (s ∷ ss) zero h = ap (λ n. first_arm (arms_from (suc n) ss)) (let e : i ≡ i + 0 = omega arith in e)
next_there i (s ∷ ss) (suc k) h =
    next_there (suc i) ss k (let e : suc k < suc (length ss) = h in omega (arith, e)) ∙ ap (λ n. first_arm (arms_from (suc n) (drop (suc k) ss))) (let e : suc i + k ≡ i + suc k = omega arith in e)
