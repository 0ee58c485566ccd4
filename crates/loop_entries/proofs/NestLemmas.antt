-- Loops that have their terminal statements.
use Rattle.std.proofs.Common.{◌≡◌, ℕ, ◌<◌, ◌≤◌, Bool, true, false, not, ◌&&◌, List, nat_lt, Option, Some, None, slice_get, refl, sym, ap, ◌∙◌}
use Rattle.std.proofs.lemmas.Bool.{lt-ltb, le-ltb}
use Rattle.f_tree.specs.declared.statements.Stmt.{Stmt}
use Rattle.f_tree.specs.Facts.{ProgramUnit}
use Rattle.f_tree.specs.Lines.{Naming}
use Rattle.f_tree.specs.Nests.{loop_at, is_no_loop, ends_at, ends_by, each_ends, each_contained, ranges_of}
use Rattle.plain_forms.specs.PlainUnits.{loops_are_nested}
use Rattle.loop_entries.specs.LoopRanges.{terminal_by}
use Rattle.loop_entries.specs.ReadLines.{IsReadAs, loop_there}
use Rattle.loop_entries.proofs.LineLemmas.{loop_at_is}

twice : (b : Bool) → not (not b) ≡ b
twice true = refl
twice false = refl

ends_some : (p : ProgramUnit) (names : Naming) (ss : List Stmt) (i last : ℕ) (b : Bool) → IsReadAs p names ss → b ≡ not (is_no_loop (loop_there (slice_get ss last)))
    → (nat_lt i last && not b) ≡ ends_at p i (Some last)
unfolding ends_at
ends_some p names ss i last b reads is =
    ap (λ c. nat_lt i last && not c) is ∙ ap (λ c. nat_lt i last && c) (twice (is_no_loop (loop_there (slice_get ss last))))
    ∙ ap (λ o. nat_lt i last && is_no_loop o) (sym (loop_at_is p names ss last reads))

pub ends_behind : (p : ProgramUnit) (names : Naming) (ss : List Stmt) (i last : ℕ) (end : Option ℕ) (b : Bool) → IsReadAs p names ss → end ≡ Some last → i < last
    → b ≡ not (is_no_loop (loop_there (slice_get ss last))) → not b ≡ ends_at p i end
ends_behind p names ss i last end b reads is h begins =
    sym (ap (λ c. c && not b) (lt-ltb i last h)) ∙ ends_some p names ss i last b reads begins ∙ ap (ends_at p i) (sym is)

pub ends_before : (p : ProgramUnit) (i last : ℕ) (end : Option ℕ) → end ≡ Some last → last ≤ i → nat_lt i last ≡ ends_at p i end
unfolding ends_at
ends_before p i last end is h =
    le-ltb i last h ∙ sym (ap (λ c. c && is_no_loop (loop_at (slice_get p.lines last))) (le-ltb i last h)) ∙ ap (ends_at p i) (sym is)

pub ends_none : (p : ProgramUnit) (i : ℕ) (end : Option ℕ) → end ≡ None → false ≡ ends_at p i end
unfolding ends_at
ends_none p i end is = ap (ends_at p i) (sym is)

pub ends_if_none : (p : ProgramUnit) (i : ℕ) (o : Option (Option ℕ)) (begins : Bool) → begins ≡ not (is_no_loop o) → begins ≡ false → not begins ≡ ends_by p i o
unfolding ends_by is_no_loop
ends_if_none p i None begins is none = ap not is
ends_if_none p i (Some label) begins is none = absurd (let no : true ≡ false = sym is ∙ none in cc)

pub ends_if_some : (p : ProgramUnit) (i : ℕ) (o : Option (Option ℕ)) (begins ends : Bool) (end : Option ℕ) → begins ≡ not (is_no_loop o) → begins ≡ true → end ≡ terminal_by p i o
    → ends ≡ ends_at p i end → ends ≡ ends_by p i o
unfolding ends_by is_no_loop terminal_by
ends_if_some p i None begins ends end is some there told = absurd (let no : false ≡ true = sym is ∙ some in cc)
ends_if_some p i (Some label) begins ends end is some there told = told ∙ ap (ends_at p i) there

-- both conditions of a nest
pub nested_both : (p : ProgramUnit) (one other : Bool) → one ≡ each_ends p 0 p.lines → one ≡ true → other ≡ each_contained (ranges_of p) → other ≡ loops_are_nested p
unfolding loops_are_nested
nested_both p one other ends is contained = contained ∙ sym (ap (λ b. b && each_contained (ranges_of p)) (sym ends ∙ is))

pub nested_not : (p : ProgramUnit) (one : Bool) → one ≡ each_ends p 0 p.lines → one ≡ false → false ≡ loops_are_nested p
unfolding loops_are_nested
nested_not p one ends is = sym (ap (λ b. b && each_contained (ranges_of p)) (sym ends ∙ is))
