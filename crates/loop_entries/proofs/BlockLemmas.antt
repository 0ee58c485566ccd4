-- Ranges that stand in one arm of a block, or around the whole of it.
use Rattle.std.proofs.Common.{◌≡◌, ℕ, Bool, true, false, not, ◌&&◌, List, nat_eq, Option, Some, None, sym, ap, ◌∙◌}
use Rattle.std.specs.List.{list_all}
use Rattle.f_tree.specs.Facts.{ProgramUnit}
use Rattle.f_tree.specs.Places.{arm_after}
use Rattle.f_tree.specs.Nests.{is_within}
use Rattle.lowering_laws.specs.Layout.{same_truth, are_alike, none_ends_at}
use Rattle.loop_entries.specs.declared.ranges.LoopRange.{LoopRange}
use Rattle.loop_entries.specs.LoopRanges.{range_of, AreRanges}

abbrev in_both : ℕ → ℕ → List LoopRange → Bool
in_both i j rs = list_all (λ (r : LoopRange). same_truth (is_within i (range_of r)) (is_within j (range_of r))) rs

pub alike_some : (p : ProgramUnit) (rs : List LoopRange) (i j : ℕ) (next : Option ℕ) (same : Bool) → AreRanges p rs → next ≡ Some j → same ≡ in_both i j rs → same ≡ are_alike p i next
unfolding are_alike
alike_some p rs i j next same are there is = is ∙ sym (are.all (λ r. same_truth (is_within i r) (is_within j r))) ∙ ap (are_alike p i) (sym there)

pub alike_none : (p : ProgramUnit) (i : ℕ) (next : Option ℕ) → next ≡ None → true ≡ are_alike p i next
unfolding are_alike
alike_none p i next there = ap (are_alike p i) (sym there)

abbrev no_end_at : ℕ → List LoopRange → Bool
no_end_at i rs = list_all (λ (r : LoopRange). not (nat_eq r.last i)) rs

no_end : (p : ProgramUnit) (rs : List LoopRange) (i : ℕ) → AreRanges p rs → no_end_at i rs ≡ none_ends_at p i
unfolding none_ends_at range_of
no_end p rs i are = sym (are.all (λ r. not (nat_eq r.last i)))

pub arm_then : (p : ProgramUnit) (rs : List LoopRange) (i : ℕ) (next : Option ℕ) (free alike : Bool) → AreRanges p rs → next ≡ arm_after p i → free ≡ no_end_at i rs → free ≡ true
    → alike ≡ are_alike p i next → alike ≡ (none_ends_at p i && are_alike p i (arm_after p i))
arm_then p rs i next free alike are is one there other =
    other ∙ ap (are_alike p i) is ∙ sym (ap (λ b. b && are_alike p i (arm_after p i)) (sym (no_end p rs i are) ∙ sym one ∙ there))

pub arm_else : (p : ProgramUnit) (rs : List LoopRange) (i : ℕ) (free : Bool) → AreRanges p rs → free ≡ no_end_at i rs → free ≡ false
    → free ≡ (none_ends_at p i && are_alike p i (arm_after p i))
arm_else p rs i free are one there = there ∙ sym (ap (λ b. b && are_alike p i (arm_after p i)) (sym (no_end p rs i are) ∙ sym one ∙ there))

pub end_is : (p : ProgramUnit) (rs : List LoopRange) (i : ℕ) (free : Bool) → AreRanges p rs → free ≡ no_end_at i rs → free ≡ none_ends_at p i
end_is p rs i free are one = one ∙ no_end p rs i are
