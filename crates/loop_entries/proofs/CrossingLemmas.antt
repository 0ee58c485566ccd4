-- Ranges are contained in one another where none crosses another.
use Rattle.std.proofs.Common.{◌≡◌, ℕ, zero, suc, ◌+◌, ◌<◌, ◌≤◌, Bool, true, false, not, ◌&&◌, ◌||◌, List, [], ◌∷◌, ◌++◌, map, drop, length, length-drop, nat_eq, nat_lt, nat_le, Option, Some, None, if◌then◌else◌, refl, sym, ap, subst, ◌∙◌, arith}
use Rattle.std.specs.List.{list_all}
use Rattle.std.proofs.lemmas.Bool.Decides.{nat_tests}
use Rattle.std.proofs.lemmas.List.{map-append}
use Rattle.std.proofs.lemmas.List.Folds.{list_all-map}
use Rattle.f_tree.specs.declared.refusals.Kind.TheVariants.{BadDoNest}
use Rattle.f_tree.specs.declared.refusals.Refusal.{Refusal}
use Rattle.f_tree.specs.declared.statements.Stmt.{Stmt}
use Rattle.f_tree.specs.Facts.{LoopMark, NoLoop, OpensLoop, ClosesLoop, Line, ProgramUnit}
use Rattle.f_tree.specs.Nests.{Range, loop_of, is_within, is_contained, each_contained, ranges_of}
use Rattle.f_tree.specs.Nests as nest
use Rattle.f_tree.specs.Places.{has_label, label_from, place_of_label, loop_end_from, terminal_of}
use Rattle.name_facts.specs.declaration_rows.Judgement.{unless}
use Rattle.name_facts.specs.declaration_rows.NameRows.{stood}
use Rattle.name_facts.specs.declaration_rows.UnitRows as written
use Rattle.name_facts.specs.declaration_rows.UnitRows.{crosses, crosses_any, crosses_at, crossing_rows}
use Rattle.loop_ranges.specs.OpenRanges.{ranges_at}
use Rattle.loop_entries.specs.LoopRanges.{terminal_by, terminals_from, terminals_of, ranges_to}
use Rattle.loop_entries.specs.Walks.{all_from}
use Rattle.loop_entries.proofs.RangeLemmas.{all_of_ranges}

-- ALL OF SOME
pub all-alike : {X : Type 0} (f g : X → Bool) → ((x : X) → f x ≡ g x) → (xs : List X) → list_all f xs ≡ list_all g xs
all-alike f g same [] = refl
all-alike f g same (x ∷ xs) = ap (λ b. b && list_all f xs) (same x) ∙ ap (λ b. g x && b) (all-alike f g same xs)

four : (a b c d : Bool) → ((a && b) && (c && d)) ≡ ((a && c) && (b && d))
four true true c d = refl
four true false true d = refl
four true false false d = refl
four false b c d = refl

all-both : {X : Type 0} (f g : X → Bool) (xs : List X) → (list_all f xs && list_all g xs) ≡ list_all (λ x. f x && g x) xs
all-both f g [] = refl
all-both f g (x ∷ xs) = four (f x) (list_all f xs) (g x) (list_all g xs) ∙ ap (λ b. (f x && g x) && b) (all-both f g xs)

all-true : {X : Type 0} (xs : List X) → list_all (λ x. true) xs ≡ true
all-true [] = refl
all-true (x ∷ xs) = all-true xs

all-turned : {X Y : Type 0} (f : X → Y → Bool) (xs : List X) (ys : List Y) → list_all (λ x. list_all (f x) ys) xs ≡ list_all (λ y. list_all (λ x. f x y) xs) ys
all-turned f [] ys = sym (all-true ys)
all-turned f (x ∷ xs) ys = ap (λ b. list_all (f x) ys && b) (all-turned f xs ys) ∙ all-both (f x) (λ y. list_all (λ x. f x y) xs) ys

-- ONE RANGE AND ANOTHER
abbrev range_of : written.Range → Range
range_of r = record { first = r.first; last = r.last }

not_less : (a b : ℕ) → not (nat_lt a b) ≡ nat_le b a
not_less a b = grind (arith, nat_tests)

contained_by : (a b c : Bool) → not (a && (b && c)) ≡ (not (a && b) || not c)
contained_by true true c = refl
contained_by true false c = refl
contained_by false b c = refl

contained_is : (r q : written.Range) → not (crosses r q) ≡ is_contained (range_of q) (range_of r)
unfolding crosses is_contained is_within
contained_is r q =
    contained_by (nat_lt r.first q.first) (not (nat_lt r.last q.first)) (nat_lt r.last q.last)
    ∙ ap (λ b. not (nat_lt r.first q.first && b) || not (nat_lt r.last q.last)) (not_less r.last q.first)
    ∙ ap (λ b. not (nat_lt r.first q.first && nat_le q.first r.last) || b) (not_less r.last q.last)

not_either : (a b : Bool) → not (a || b) ≡ (not a && not b)
not_either true b = refl
not_either false b = refl

crosses_none : (r : written.Range) (qs : List written.Range) → not (crosses_any r qs) ≡ list_all (λ (q : written.Range). is_contained (range_of q) (range_of r)) qs
unfolding crosses_any
crosses_none r [] = refl
crosses_none r (q ∷ qs) =
    not_either (crosses r q) (crosses_any r qs) ∙ ap (λ b. b && not (crosses_any r qs)) (contained_is r q) ∙ ap (λ b. is_contained (range_of q) (range_of r) && b) (crosses_none r qs)

-- ROWS of the statements at which ranges end that cross others
abbrev is_none : List Refusal → Bool
is_none rs = elim rs [ [] ↦ true | r ∷ more ↦ false ]

row_none : (b : Bool) (s : Stmt) (rs : List Refusal) → is_none (stood s (unless (not b) BadDoNest) ++ rs) ≡ (not b && is_none rs)
unfolding stood unless
row_none true s rs = refl
row_none false s rs = refl

rows_none : (ranges : List written.Range) (i : ℕ) (ss : List Stmt) → is_none (crossing_rows ranges i ss) ≡ all_from (λ (k : ℕ) (s : Stmt). not (crosses_at k ranges ranges)) i ss
unfolding crossing_rows all_from
rows_none ranges i [] = refl
rows_none ranges i (s ∷ ss) = row_none (crosses_at i ranges ranges) s (crossing_rows ranges (suc i) ss) ∙ ap (λ b. not (crosses_at i ranges ranges) && b) (rows_none ranges (suc i) ss)

-- one range ends at one statement
abbrev at_one : ℕ → Bool → ℕ → Stmt → Bool
at_one last b k s = not (nat_eq last k && b)

others : (last i : ℕ) → last < i → nat_eq last i ≡ false
others last i h = grind (arith, nat_tests)

same_place : (last i : ℕ) → nat_eq last i ≡ true → last ≡ i
same_place last i h = grind (arith, nat_tests)

further : (last i : ℕ) → nat_eq last i ≡ false → i ≤ last → suc i ≤ last
further last i h within = grind (arith, nat_tests)

passed : (last : ℕ) (b : Bool) (i : ℕ) (ss : List Stmt) → last < i → all_from (at_one last b) i ss ≡ true
unfolding all_from
passed last b i [] h = refl
passed last b i (s ∷ ss) h = ap (λ c. not (c && b) && all_from (at_one last b) (suc i) ss) (others last i h) ∙ passed last b (suc i) ss (omega (arith, h))

and_true : (c d : Bool) → d ≡ true → (c && d) ≡ c
and_true true d h = h
and_true false d h = refl

ahead : (last : ℕ) (b : Bool) (i : ℕ) (s : Stmt) (ss : List Stmt) (c : Bool) → nat_eq last i ≡ c → i ≤ last → (suc i ≤ last → all_from (at_one last b) (suc i) ss ≡ not b)
    → all_from (at_one last b) i (s ∷ ss) ≡ not b
unfolding all_from
ahead last b i s ss true same h later =
    ap (λ c. not (c && b) && all_from (at_one last b) (suc i) ss) same
    ∙ and_true (not b) (all_from (at_one last b) (suc i) ss) (passed last b (suc i) ss (let e = same_place last i same in omega (arith, e)))
ahead last b i s ss false same h later = ap (λ c. not (c && b) && all_from (at_one last b) (suc i) ss) same ∙ later (further last i same h)

ends_once : (last : ℕ) (b : Bool) (i : ℕ) (ss : List Stmt) → i ≤ last → last < i + length ss → all_from (at_one last b) i ss ≡ not b
ends_once last b i [] h within = absurd (omega (arith, h, within))
ends_once last b i (s ∷ ss) h within =
    ahead last b i s ss (nat_eq last i) refl h (λ more. ends_once last b (suc i) ss more (let e : last < i + suc (length ss) = within in omega (arith, e)))

all_split : (f g : ℕ → Bool) (i : ℕ) (ss : List Stmt)
    → all_from (λ (k : ℕ) (s : Stmt). not (f k || g k)) i ss ≡ (all_from (λ (k : ℕ) (s : Stmt). not (f k)) i ss && all_from (λ (k : ℕ) (s : Stmt). not (g k)) i ss)
unfolding all_from
all_split f g i [] = refl
all_split f g i (s ∷ ss) =
    ap (λ b. b && all_from (λ (k : ℕ) (t : Stmt). not (f k || g k)) (suc i) ss) (not_either (f i) (g i)) ∙ ap (λ b. (not (f i) && not (g i)) && b) (all_split f g (suc i) ss)
    ∙ four (not (f i)) (not (g i)) (all_from (λ (k : ℕ) (t : Stmt). not (f k)) (suc i) ss) (all_from (λ (k : ℕ) (t : Stmt). not (g k)) (suc i) ss)

all_pass : (i : ℕ) (ss : List Stmt) → all_from (λ (k : ℕ) (s : Stmt). true) i ss ≡ true
unfolding all_from
all_pass i [] = refl
all_pass i (s ∷ ss) = all_pass (suc i) ss

EndWithin : ℕ → List written.Range → Type 0
EndWithin n [] = Unit {0}
EndWithin n (r ∷ rs) = (r.last < n) × EndWithin n rs

none_at_all : (ss : List Stmt) (all rs : List written.Range) → EndWithin (length ss) rs
    → all_from (λ (k : ℕ) (s : Stmt). not (crosses_at k all rs)) 0 ss ≡ list_all (λ (r : written.Range). not (crosses_any r all)) rs
unfolding crosses_at EndWithin
none_at_all ss all [] within = all_pass 0 ss
none_at_all ss all (r ∷ rs) within =
    all_split (λ k. nat_eq r.last k && crosses_any r all) (λ k. crosses_at k all rs) 0 ss
    ∙ ap (λ b. b && all_from (λ (k : ℕ) (s : Stmt). not (crosses_at k all rs)) 0 ss)
    (ends_once r.last (crosses_any r all) 0 ss (omega arith) (let h = within.0 in omega (arith, h)))
    ∙ ap (λ b. not (crosses_any r all) && b) (none_at_all ss all rs within.1)

-- TERMINAL STATEMENTS stand in their unit
IsWithin : ℕ → Option ℕ → Type 0
IsWithin n None = Unit {0}
IsWithin n (Some k) = k < n

found_or : (n i : ℕ) (b : Bool) (o : Option ℕ) → i < n → IsWithin n o → IsWithin n (if b then Some i else o)
unfolding IsWithin
found_or n i true o h rest = h
found_or n i false o h rest = rest

label_within : (n i : ℕ) (lines : List Line) (l : ℕ) → i + length lines ≤ n → IsWithin n (label_from i lines l)
unfolding label_from IsWithin
label_within n i [] l h = tt
label_within n i (line ∷ lines) l h =
    let room : i + suc (length lines) ≤ n = h in
    found_or n i (has_label line.label l) (label_from (suc i) lines l) (omega (arith, room)) (label_within n (suc i) lines l (omega (arith, room)))

end_by_mark : (n i depth : ℕ) (mark : LoopMark) (lines : List Line) → i < n → ((d : ℕ) → IsWithin n (loop_end_from (suc i) d lines)) →
    IsWithin n (elim mark [
      | NoLoop ↦ loop_end_from (suc i) depth lines
      | OpensLoop ↦ loop_end_from (suc i) (suc depth) lines
      | ClosesLoop ↦ elim depth [ zero ↦ Some i | suc d ↦ loop_end_from (suc i) d lines ]
    ])
unfolding IsWithin
end_by_mark n i depth NoLoop lines h rest = rest depth
end_by_mark n i depth OpensLoop lines h rest = rest (suc depth)
end_by_mark n i zero ClosesLoop lines h rest = h
end_by_mark n i (suc d) ClosesLoop lines h rest = rest d

end_within : (n i depth : ℕ) (lines : List Line) → (0 < length lines → i + length lines ≤ n) → IsWithin n (loop_end_from i depth lines)
unfolding loop_end_from IsWithin
end_within n i depth [] h = tt
end_within n i depth (line ∷ lines) h =
    let room : i + suc (length lines) ≤ n = h (omega arith) in
    end_by_mark n i depth line.loop lines (omega (arith, room)) (λ d. end_within n (suc i) d lines (λ some. omega (arith, room)))

terminal_within : (p : ProgramUnit) (i : ℕ) (label : Option ℕ) → IsWithin (length p.lines) (terminal_of p i label)
unfolding terminal_of place_of_label
terminal_within p i (Some l) = label_within (length p.lines) 0 p.lines l (omega arith)
terminal_within p i None =
    end_within (length p.lines) (suc i) 0 (drop (suc i) p.lines)
    (λ some. let left = length-drop (suc i) p.lines in omega (arith, some, left))

by_terminal : (p : ProgramUnit) (i : ℕ) (o : Option (Option ℕ)) → IsWithin (length p.lines) (terminal_by p i o)
unfolding terminal_by IsWithin
by_terminal p i None = tt
by_terminal p i (Some label) = terminal_within p i label

ends_within : (n i : ℕ) (end : Option ℕ) (rs : List written.Range) → IsWithin n end → EndWithin n rs → EndWithin n (written.range_to i end ++ rs)
unfolding written.range_to IsWithin EndWithin
ends_within n i None rs one more = more
ends_within n i (Some k) rs one more = (one, more)

all_within : (p : ProgramUnit) (i : ℕ) (lines : List Line) → EndWithin (length p.lines) (ranges_at i (terminals_from p i lines))
unfolding ranges_at terminals_from EndWithin
all_within p i [] = tt
all_within p i (line ∷ lines) =
    ends_within (length p.lines) i (terminal_by p i (loop_of line.form)) (ranges_at (suc i) (terminals_from p (suc i) lines)) (by_terminal p i (loop_of line.form)) (all_within p (suc i) lines)

-- THE WHOLE
one_range : (i : ℕ) (end : Option ℕ) → nest.range_to i end ≡ map range_of (written.range_to i end)
unfolding nest.range_to written.range_to
one_range i None = refl
one_range i (Some k) = refl

ranges_are : (i : ℕ) (ends : List (Option ℕ)) → ranges_to i ends ≡ map range_of (ranges_at i ends)
unfolding ranges_to ranges_at
ranges_are i [] = refl
ranges_are i (end ∷ ends) =
    ap (λ rs. rs ++ ranges_to (suc i) ends) (one_range i end) ∙ ap (λ rs. map range_of (written.range_to i end) ++ rs) (ranges_are (suc i) ends)
    ∙ sym (map-append range_of (written.range_to i end) (ranges_at (suc i) ends))

each_is : (p : ProgramUnit) (ends : List (Option ℕ)) → ends ≡ terminals_of p → each_contained (ranges_of p) ≡ each_contained (map range_of (ranges_at 0 ends))
unfolding each_contained
each_is p ends is =
    all_of_ranges (λ r. list_all (is_contained r) (ranges_of p)) p ends is
    ∙ all-alike (λ r. list_all (is_contained r) (ranges_of p)) (λ r. list_all (is_contained r) (ranges_to 0 ends)) (λ r. all_of_ranges (is_contained r) p ends is) (ranges_to 0 ends)
    ∙ ap (λ rs. list_all (λ r. list_all (is_contained r) rs) rs) (ranges_are 0 ends)

pairs : (rs : List written.Range) → each_contained (map range_of rs) ≡ list_all (λ (r : written.Range). not (crosses_any r rs)) rs
unfolding each_contained
pairs rs =
    list_all-map (λ q. list_all (is_contained q) (map range_of rs)) range_of rs
    ∙ all-alike (λ (q : written.Range). list_all (is_contained (range_of q)) (map range_of rs)) (λ (q : written.Range). list_all (λ (r : written.Range). is_contained (range_of q) (range_of r)) rs)
    (λ q. list_all-map (is_contained (range_of q)) range_of rs) rs
    ∙ all-turned (λ (q r : written.Range). is_contained (range_of q) (range_of r)) rs rs
    ∙ sym (all-alike (λ (r : written.Range). not (crosses_any r rs)) (λ (r : written.Range). list_all (λ (q : written.Range). is_contained (range_of q) (range_of r)) rs) (λ r. crosses_none r rs) rs)

within_unit : (p : ProgramUnit) (ends : List (Option ℕ)) (n : ℕ) → ends ≡ terminals_of p → n ≡ length p.lines → EndWithin n (ranges_at 0 ends)
unfolding terminals_of
within_unit p ends n is count = subst (λ es. EndWithin n (ranges_at 0 es)) (sym is) (subst (λ m. EndWithin m (ranges_at 0 (terminals_from p 0 p.lines))) (sym count) (all_within p 0 p.lines))

pub contained_where_none : (p : ProgramUnit) (ss : List Stmt) (ends : List (Option ℕ)) (found : List Refusal) → length ss ≡ length p.lines → ends ≡ terminals_of p
    → found ≡ crossing_rows (ranges_at 0 ends) 0 ss → is_none found ≡ each_contained (ranges_of p)
contained_where_none p ss ends found count is rows =
    ap (λ (rs : List Refusal). is_none rs) rows ∙ rows_none (ranges_at 0 ends) 0 ss
    ∙ none_at_all ss (ranges_at 0 ends) (ranges_at 0 ends) (within_unit p ends (length ss) is count)
    ∙ sym (pairs (ranges_at 0 ends)) ∙ sym (each_is p ends is)

pub none_by_length : (found : List Refusal) (b : Bool) (n : ℕ) → n ≡ length found → b ≡ nat_eq n 0 → b ≡ is_none found
none_by_length [] b n count is = is ∙ ap (λ m. nat_eq m 0) count
none_by_length (r ∷ rs) b n count is = is ∙ others_than n (length rs) count
  where
    others_than : (m k : ℕ) → m ≡ suc k → nat_eq m 0 ≡ false
    others_than m k e = grind (arith, nat_tests)
