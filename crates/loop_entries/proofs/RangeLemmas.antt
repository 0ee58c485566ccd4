-- The ranges of the loops of a unit, in the order of their DO statements, and in the order of the meaning.
use Rattle.std.proofs.Common.{◌≡◌, ℕ, suc, ◌+◌, Bool, true, false, ◌&&◌, ◌||◌, List, [], ◌∷◌, ◌++◌, map, Option, Some, None, refl, sym, ap, ◌∙◌, arith}
use Rattle.std.specs.List.{list_all, list_any}
use Rattle.std.proofs.lemmas.List.Folds.{list_all-append, list_any-append, list_all-map}
use Rattle.f_tree.specs.Facts.{Line, ProgramUnit}
use Rattle.f_tree.specs.Nests.{Range, loop_of, range_to, range_by, ranges_from, ranges_of}
use Rattle.loop_entries.specs.declared.ranges.LoopRange.{LoopRange}
use Rattle.loop_entries.specs.LoopRanges.{range_of, terminal_by, terminals_from, terminals_of, ranges_to, AreRanges}

-- ONE RANGE MORE
pub to_step : (i : ℕ) (end : Option ℕ) (ends : List (Option ℕ)) → ranges_to i (end ∷ ends) ≡ range_to i end ++ ranges_to (i + 1) ends
unfolding ranges_to
to_step i end ends = ap (λ n. range_to i end ++ ranges_to n ends) (let e : suc i ≡ i + 1 = omega arith in e)

pub to_none : (i : ℕ) → ranges_to i [] ≡ []
unfolding ranges_to
to_none i = refl

-- THE ORDER of the ranges does not count
turned_and : (a b : Bool) → (a && b) ≡ (b && a)
turned_and true true = refl
turned_and true false = refl
turned_and false true = refl
turned_and false false = refl

turned_or : (a b : Bool) → (a || b) ≡ (b || a)
turned_or true true = refl
turned_or true false = refl
turned_or false true = refl
turned_or false false = refl

by_terminal : (p : ProgramUnit) (i : ℕ) (o : Option (Option ℕ)) → range_by p i o ≡ range_to i (terminal_by p i o)
unfolding range_by range_to terminal_by
by_terminal p i None = refl
by_terminal p i (Some label) = refl

pub any-map : {X Y : Type 0} (test : Y → Bool) (f : X → Y) (xs : List X) → list_any test (map f xs) ≡ list_any (λ x. test (f x)) xs
any-map test f [] = refl
any-map test f (x ∷ xs) = ap (λ b. test (f x) || b) (any-map test f xs)

module _ (test : Range → Bool) (p : ProgramUnit) where
  all_from_line : (i : ℕ) (lines : List Line) → list_all test (ranges_from p i lines) ≡ list_all test (ranges_to i (terminals_from p i lines))
  unfolding ranges_from ranges_to terminals_from
  all_from_line i [] = refl
  all_from_line i (line ∷ lines) =
      list_all-append test (ranges_from p (suc i) lines) (range_by p i (loop_of line.form))
      ∙ turned_and (list_all test (ranges_from p (suc i) lines)) (list_all test (range_by p i (loop_of line.form)))
      ∙ ap (λ rs. list_all test rs && list_all test (ranges_from p (suc i) lines)) (by_terminal p i (loop_of line.form))
      ∙ ap (λ b. list_all test (range_to i (terminal_by p i (loop_of line.form))) && b) (all_from_line (suc i) lines)
      ∙ sym (list_all-append test (range_to i (terminal_by p i (loop_of line.form))) (ranges_to (suc i) (terminals_from p (suc i) lines)))

  any_from_line : (i : ℕ) (lines : List Line) → list_any test (ranges_from p i lines) ≡ list_any test (ranges_to i (terminals_from p i lines))
  unfolding ranges_from ranges_to terminals_from
  any_from_line i [] = refl
  any_from_line i (line ∷ lines) =
      list_any-append test (ranges_from p (suc i) lines) (range_by p i (loop_of line.form))
      ∙ turned_or (list_any test (ranges_from p (suc i) lines)) (list_any test (range_by p i (loop_of line.form)))
      ∙ ap (λ rs. list_any test rs || list_any test (ranges_from p (suc i) lines)) (by_terminal p i (loop_of line.form))
      ∙ ap (λ b. list_any test (range_to i (terminal_by p i (loop_of line.form))) || b) (any_from_line (suc i) lines)
      ∙ sym (list_any-append test (range_to i (terminal_by p i (loop_of line.form))) (ranges_to (suc i) (terminals_from p (suc i) lines)))

pub all_of_ranges : (test : Range → Bool) (p : ProgramUnit) (ends : List (Option ℕ)) → ends ≡ terminals_of p → list_all test (ranges_of p) ≡ list_all test (ranges_to 0 ends)
unfolding ranges_of terminals_of
all_of_ranges test p ends is = all_from_line test p 0 p.lines ∙ ap (λ es. list_all test (ranges_to 0 es)) (sym is)

pub any_of_ranges : (test : Range → Bool) (p : ProgramUnit) (ends : List (Option ℕ)) → ends ≡ terminals_of p → list_any test (ranges_of p) ≡ list_any test (ranges_to 0 ends)
unfolding ranges_of terminals_of
any_of_ranges test p ends is = any_from_line test p 0 p.lines ∙ ap (λ es. list_any test (ranges_to 0 es)) (sym is)

pub ranges_found : (p : ProgramUnit) (ends : List (Option ℕ)) (rs : List LoopRange) → map range_of rs ≡ ranges_to 0 ends → ends ≡ terminals_of p → AreRanges p rs
ranges_found p ends rs found is = record {
  all = λ test. all_of_ranges test p ends is ∙ ap (list_all test) (sym found) ∙ list_all-map test range_of rs;
  any = λ test. any_of_ranges test p ends is ∙ ap (list_any test) (sym found) ∙ any-map test range_of rs;
}
