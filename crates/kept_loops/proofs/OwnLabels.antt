-- A label that has a place in the text of a unit is that of a statement of the unit.
use Rattle.std.specs.Prelude.{◌≡◌, ℕ, suc, Bool, true, false, ◌||◌, List, [], ◌∷◌, map, filter, Option, Some, None, cond, option_map, if◌then◌else◌}
use Rattle.std.proofs.Common.{refl, sym, ap, ◌∙◌, subst}
use Rattle.translated_files.specs.f_tree.declared.statements.Stmt.{Stmt}
use Rattle.translated_files.specs.f_tree.Facts.{ProgramUnit}
use Rattle.translated_files.specs.f_tree.Lines.{Naming, line_of}
use Rattle.translated_files.specs.f_tree.Places.{has_label, label_from, place_of_label}
use Rattle.translated_files.specs.f_tree.Setting.{IsIn, first_in, later_in}
use Rattle.translated_files.specs.main_translation.Outlined.{stands_at}
use Rattle.kept_loops.specs.SourceLoops.{is_label_of}

pub in_filter : {A : Type 0} → (test : A → Bool) (x : A) (xs : List A) → IsIn x xs → test x ≡ true → IsIn x (filter test xs)
in_filter test x [] among passes = elim among [ ]
in_filter test x (_ ∷ xs) first_in passes = subst (λ b. IsIn x (cond b (x ∷ filter test xs) (filter test xs))) (sym passes) first_in
in_filter test x (y ∷ xs) (later_in among) passes = by (test y) (in_filter test x xs among passes)
  where
    by : (b : Bool) → IsIn x (filter test xs) → IsIn x (cond b (y ∷ filter test xs) (filter test xs))
    by true more = later_in more
    by false more = more

-- the label of one of some lines is that of one of their statements
of_lines : (names : Naming) (loops : List ℕ) (i label place : ℕ) (ss : List Stmt) → label_from i (map (line_of names loops) ss) label ≡ Some place → is_label_of ss label ≡ true
unfolding label_from is_label_of line_of
of_lines names loops i label place [] h = absurd (cc)
of_lines names loops i label place (s ∷ ss) h = by (has_label s.label label) h (of_lines names loops (suc i) label place ss)
  where
    by : (b : Bool) → (if b then Some i else label_from (suc i) (map (line_of names loops) ss) label) ≡ Some place → (label_from (suc i) (map (line_of names loops) ss) label ≡ Some place → is_label_of ss label ≡ true) → b || is_label_of ss label ≡ true
    by true g more = refl
    by false g more = more g

placed : (found : Option ℕ) (n : ℕ) → stands_at found n ≡ true → (place : ℕ) × (found ≡ Some place)
unfolding stands_at
placed (Some place) n h = (place, refl)
placed None n h = absurd (cc)

from_place : (start : ℕ → ℕ) (found : Option ℕ) (n : ℕ) → option_map start found ≡ Some n → (place : ℕ) × (found ≡ Some place)
from_place start (Some place) n h = (place, refl)
from_place start None n h = absurd (cc)

-- a label whose place has a step, in the lines of statements
pub of_statements : (p : ProgramUnit) (start : ℕ → ℕ) (names : Naming) (loops : List ℕ) (ss : List Stmt) (label n : ℕ) → p.lines ≡ map (line_of names loops) ss → stands_at (option_map start (place_of_label p label)) n ≡ true → is_label_of ss label ≡ true
unfolding place_of_label
of_statements p start names loops ss label n lines stands =
    let found = placed (option_map start (place_of_label p label)) n stands in
    let place = from_place start (place_of_label p label) found.0 found.1 in
    of_lines names loops 0 label place.0 ss (ap (λ ls. label_from 0 ls label) (sym lines) ∙ place.1)
