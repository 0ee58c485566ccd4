-- What is said of numbers is said of the names that they stand for.
use Rattle.std.proofs.Common.{◌≡◌, ℕ, ◌<◌, ℤ, Bool, true, false, true≢false, List, length, Result, Ok, Err, IfOk, refl, sym, ap, subst, ◌∙◌}
use Rattle.std.specs.Bool.{OnTrue, OnFalse}
use Rattle.offset_classes.specs.f_tree.Values.{Bytes}
use Rattle.offset_classes.specs.f_tree.Setting.{IsIn}
use Rattle.offset_classes.specs.Standing.{Link}
use Rattle.offset_classes.specs.Forest.{AreClasses, IsFirstToContradict, IsSolution, place_at}
use Rattle.offset_classes.specs.declared.nodes.Place.{Place}
use Rattle.offset_classes.specs.declared.nodes.Solution.{Solution}
use Rattle.offset_classes.specs.declared.nodes.Solution.TheVariants.{Solved, Contradicts}
use Rattle.std.specs.Global.{Vec}
use Rattle.declaration_rows.specs.PlacingRows.{Placing, is_joined_or_extended}
use Rattle.placing_orders.specs.Numbered.{AreClear}
use Rattle.placing_orders.proofs.NumberLaws.{none_contradict, first_contradicts, clear_none, extended_some, joined_some}
use Rattle.placed_numbers.specs.declared.judging.Standing.{Standing}
use Rattle.placed_numbers.specs.declared.judging.Standing.TheVariants.{Sound, JoinedOrExtended, Contradicted}
use Rattle.placed_numbers.specs.Owned.{AreWithin, AreRooted, IsUnclear, runs_before, meets_other, IsClear, HavePlaces, IsPlacing, IsSound, AreTests, tests_of, places_of, SayOf}

-- WHAT PLACES ARE
pub rooted : (n : ℕ) (ls : List (Link ℕ)) (ps : List Place) → AreClasses n ls ps → AreRooted ps
rooted n ls ps classes = record {
  each = λ x h. subst (λ k. (place_at ps x).root < k) (sym classes.each) (classes.within x (subst (λ k. x < k) classes.each h));
}

pub within_places : (n : ℕ) (ls : List (Link ℕ)) (ps : List Place) (fs : List ℕ) → AreClasses n ls ps → AreWithin n fs → AreWithin (length ps) fs
within_places n ls ps fs classes within = subst (λ k. AreWithin k fs) (sym classes.each) within

-- WHAT THEY MAKE OF BLOCKS
pub sound_told : (ps qs : List Place) (fs : List ℕ) (test : Bool) → qs ≡ ps → IsClear qs fs test → test ≡ true → (ps ≡ ps) × AreClear (length ps) ps fs
sound_told ps qs fs true same is h = (refl, subst (λ rs. AreClear (length rs) rs fs) same is.clear)
sound_told ps qs fs false same is h = absurd (true≢false (sym h))

pub unsound_told : (ps qs : List Place) (fs : List ℕ) (test : Bool) → qs ≡ ps → IsClear qs fs test → test ≡ false → IsUnclear ps fs
unsound_told ps qs fs true same is h = absurd (true≢false h)
unsound_told ps qs fs false same is h = subst (λ rs. IsUnclear rs fs) same is.unclear

-- WHAT SOLVING SAYS
pub solved_classes : (n : ℕ) (ls : List (Link ℕ)) (s : Solution) (ps : Vec Place) → s ≡ Solved ps → IsSolution n ls s → AreClasses n ls ps.items
unfolding IsSolution
solved_classes n ls s ps is solution = subst (λ t. IsSolution n ls t) is solution

pub first_contradiction : (n : ℕ) (ls : List (Link ℕ)) (s : Solution) (at : ℕ) → s ≡ Contradicts at → IsSolution n ls s → IsFirstToContradict ls at
unfolding IsSolution
first_contradiction n ls s at is solution = subst (λ t. IsSolution n ls t) is solution

-- WHAT IS SAID of names
module _ (n : ℕ) (ls : List (Link ℕ)) (fs : List ℕ) where
  tests_sound : (ps : List Place) → AreClasses n ls ps → AreClear n ps fs → (name : ℕ → Bytes) (p : Placing) → IsPlacing n ls fs name p → AreTests p false false
  tests_sound ps classes clear name p is = record {
    wrong = none_contradict n name ls p.equations is.numbered classes.consistent;
    joined = λ right. clear_none n name ls p is.numbered ps classes fs is.firsts clear;
  }

  unclear_joined : (ps : List Place) → AreClasses n ls ps → IsUnclear ps fs → (name : ℕ → Bytes) (p : Placing) → IsPlacing n ls fs name p
      → is_joined_or_extended p ≡ true
  unclear_joined ps classes (runs_before f y d h within apart before) name p is =
      extended_some n name ls p is.numbered ps classes fs is.firsts f y d h (subst (λ k. y < k) classes.each within) apart before
  unclear_joined ps classes (meets_other f y d h g apart other) name p is =
      joined_some n name ls p is.numbered ps classes fs is.firsts f y d h g apart other

  tests_joined : (ps : List Place) → AreClasses n ls ps → IsUnclear ps fs → (name : ℕ → Bytes) (p : Placing) → IsPlacing n ls fs name p → AreTests p false true
  tests_joined ps classes unclear name p is = record {
    wrong = none_contradict n name ls p.equations is.numbered classes.consistent;
    joined = λ right. unclear_joined ps classes unclear name p is;
  }

  pub say_contradicted : (at : ℕ) → IsFirstToContradict ls at → SayOf n ls fs Contradicted
  unfolding tests_of places_of
  say_contradicted at first = record {
    tests = λ name p is. record { wrong = first_contradicts n name ls p.equations is.numbered at first; joined = λ right. absurd (true≢false right) };
    places = tt;
  }

  say_by : (ps : List Place) (s : Standing) → AreClasses n ls ps → HavePlaces ps fs s → SayOf n ls fs s
  unfolding HavePlaces tests_of places_of
  say_by ps (Sound qs) classes have =
      let here : AreClasses n ls qs.items = subst (λ rs. AreClasses n ls rs) (sym have.0) classes in
      let clear : AreClear n qs.items fs = subst (λ rs. AreClear n rs fs) (sym have.0) (subst (λ k. AreClear k ps fs) classes.each have.1) in
      record { tests = tests_sound qs.items here clear; places = record { classes = here; clear = clear } }
  say_by ps JoinedOrExtended classes have = record { tests = tests_joined ps classes have; places = tt }
  say_by ps Contradicted classes have = absurd have

  pub say : {E : Type 0} (ps : List Place) (r : Result Standing E) → AreClasses n ls ps → IfOk r (HavePlaces ps fs) → IfOk r (SayOf n ls fs)
  say ps (Ok s) classes have = say_by ps s classes have
  say ps (Err e) classes have = tt
