-- What the simulation asks of the ranges of a unit's loops.
use Rattle.std.specs.Prelude.{◌≡◌, ℕ, zero, suc, ◌+◌, ◌<◌, ◌≤◌, nat_eq, nat_lt, nat_le, cond, Bool, true, false, not, ◌&&◌, ◌||◌, ◌⊎◌, List, [], ◌∷◌, ◌++◌, filter, find, drop, Option, Some, None, slice_get, bytes_eq, if◌then◌else◌}
use Rattle.std.specs.List.{list_all, list_any}
use Rattle.std.proofs.Common.{refl, sym, ap, ◌∙◌, subst, arith, inl, inr, true≢false}
use Rattle.std.proofs.lemmas.Bool.{cases_Bool, and_parts, eqb-true, eq-eqb, ltb-true, ltb-false, leb-true, lt-ltb, le-leb}
use Rattle.fortran_laws.specs.f_tree.Terms.{Terms}
use Rattle.fortran_laws.specs.f_tree.Facts as head
use Rattle.fortran_laws.specs.f_tree.Facts.{Controls, Head, Form, Passes, On, Mark, Plain, Opens, Arm, Closes, NoLoop, OpensLoop, ClosesLoop, LoopMark, Line, EntryPoint, UnitKind, MainProgram, SubroutineUnit, FunctionUnit, BlockDataUnit, ProgramUnit}
use Rattle.fortran_laws.specs.f_tree.World.{Called, TheMain, Procedure}
use Rattle.fortran_laws.specs.f_tree.Places.{has_label, label_from, place_of_label, loop_end_from, terminal_of, arm_after}
use Rattle.fortran_laws.specs.f_tree.Setting.{IsIn, first_in, later_in}
use Rattle.fortran_laws.specs.f_tree.Nests.{Range, loop_of, loop_at, range_to, range_by, ranges_from, ranges_of, is_within, open_at, goes_past, each_contained, is_no_loop, ends_at, ends_by, each_ends, AreNested, enters_range}
use Rattle.fortran_laws.specs.f_tree.Association.{entry_of}
use Rattle.fortran_laws.specs.f_tree.Step.{contains, block_is_entered, behind_terminal, block_end, enters_from, enters_block}
use Rattle.fortran_laws.proofs.NestLaws.{range_of_loop, none_at_first, open_is_within, within_is_open, known_behind, innermost_first}
use Rattle.lowering.specs.Units.{ended_at}
use Rattle.lowering_laws.specs.Layer.{AllEnd, NoneEnds, IsChain, SameOpen, Reaches, passes_other, by_all, by_those, LabelReaches, ControlsReach, BranchesWell, HeadBranches}
use Rattle.lowering_laws.proofs.PlaceLemmas.{first_dropped}
use Rattle.lowering_laws.specs.Layout.{has_loops, same_truth, are_alike, none_ends_at, is_whole_by, blocks_are_whole, stays_outside, may_branch, label_branches, controls_branch, branches_well, head_branches, each_branches_well, enters_outside, LoopsFit, without_loops, with_loops}

-- ## Tested lists

kept : {A : Type 0} (p : A → Bool) (x : A) (xs : List A) → p x ≡ true → filter p (x ∷ xs) ≡ x ∷ filter p xs
kept p x xs h = ap (λ b. cond b (x ∷ filter p xs) (filter p xs)) h

left_out : {A : Type 0} (p : A → Bool) (x : A) (xs : List A) → p x ≡ false → filter p (x ∷ xs) ≡ filter p xs
left_out p x xs h = ap (λ b. cond b (x ∷ filter p xs) (filter p xs)) h

filter_none : {A : Type 0} (p : A → Bool) (xs : List A) → ((x : A) → IsIn x xs → p x ≡ false) → filter p xs ≡ []
filter_none p [] h = refl
filter_none p (x ∷ xs) h = left_out p x xs (h x first_in) ∙ filter_none p xs (λ y among. h y (later_in among))

filter_all : {A : Type 0} (p : A → Bool) (xs : List A) → ((x : A) → IsIn x xs → p x ≡ true) → filter p xs ≡ xs
filter_all p [] h = refl
filter_all p (x ∷ xs) h = kept p x xs (h x first_in) ∙ ap (λ ys. x ∷ ys) (filter_all p xs (λ y among. h y (later_in among)))

filter_alike : {A : Type 0} (p q : A → Bool) (xs : List A) → ((x : A) → IsIn x xs → p x ≡ q x) → filter p xs ≡ filter q xs
filter_alike p q [] h = refl
filter_alike p q (x ∷ xs) h =
    ap (λ b. cond b (x ∷ filter p xs) (filter p xs)) (h x first_in) ∙ ap (λ ys. cond (q x) (x ∷ ys) ys) (filter_alike p q xs (λ y among. h y (later_in among)))

twice_more : {A : Type 0} (p q : A → Bool) (x : A) (xs : List A) (b : Bool) → filter p (filter q xs) ≡ filter (λ y. q y && p y) xs →
    filter p (cond b (x ∷ filter q xs) (filter q xs)) ≡ cond (b && p x) (x ∷ filter (λ y. q y && p y) xs) (filter (λ y. q y && p y) xs)
twice_more p q x xs true h = ap (λ ys. cond (p x) (x ∷ ys) ys) h
twice_more p q x xs false h = h

filter_twice : {A : Type 0} (p q : A → Bool) (xs : List A) → filter p (filter q xs) ≡ filter (λ x. q x && p x) xs
filter_twice p q [] = refl
filter_twice p q (x ∷ xs) = twice_more p q x xs (q x) (filter_twice p q xs)

-- what is among those that are kept passes the test
passes_test : {A : Type 0} (p : A → Bool) (x y : A) (xs : List A) (b : Bool) → p y ≡ b → IsIn x (cond b (y ∷ filter p xs) (filter p xs)) → (IsIn x (filter p xs) → p x ≡ true) → p x ≡ true
passes_test p _ y xs true e first_in later = e
passes_test p x y xs true e (later_in among) later = later among
passes_test p x y xs false e among later = later among

of_filter : {A : Type 0} (p : A → Bool) (xs : List A) (x : A) → IsIn x (filter p xs) → p x ≡ true
of_filter p [] x among = elim among [ ]
of_filter p (y ∷ xs) x among = passes_test p x y xs (p y) refl among (λ later. of_filter p xs x later)

in_rest : {A : Type 0} (p : A → Bool) (x y : A) (xs : List A) (b : Bool) → IsIn x (cond b (y ∷ filter p xs) (filter p xs)) → (IsIn x (filter p xs) → IsIn x xs) → IsIn x (y ∷ xs)
in_rest p _ y xs true first_in later = first_in
in_rest p x y xs true (later_in among) later = later_in (later among)
in_rest p x y xs false among later = later_in (later among)

pub from_filter : {A : Type 0} (p : A → Bool) (xs : List A) (x : A) → IsIn x (filter p xs) → IsIn x xs
from_filter p [] x among = elim among [ ]
from_filter p (y ∷ xs) x among = in_rest p x y xs (p y) among (λ later. from_filter p xs x later)

all_in : {A : Type 0} (p : A → Bool) (xs : List A) (x : A) → list_all p xs ≡ true → IsIn x xs → p x ≡ true
all_in p [] x h among = elim among [ ]
all_in p (x ∷ xs) _ h first_in = (and_parts (p x) (list_all p xs) h).0
all_in p (y ∷ xs) x h (later_in among) = all_in p xs x (and_parts (p y) (list_all p xs) h).1 among

any_false : {A : Type 0} (p : A → Bool) (xs : List A) (x : A) → list_any p xs ≡ false → IsIn x xs → p x ≡ false
any_false p [] x h among = elim among [ ]
any_false p (x ∷ xs) _ h first_in = (neither (p x) (list_any p xs) h).0
  where
    neither : (a b : Bool) → (a || b) ≡ false → (a ≡ false) × (b ≡ false)
    neither true b h = absurd (true≢false h)
    neither false b h = (refl, h)
any_false p (y ∷ xs) x h (later_in among) = any_false p xs x (neither (p y) (list_any p xs) h).1 among
  where
    neither : (a b : Bool) → (a || b) ≡ false → (a ≡ false) × (b ≡ false)
    neither true b h = absurd (true≢false h)
    neither false b h = (refl, h)

neither_of : (a b : Bool) → (a || b) ≡ false → (a ≡ false) × (b ≡ false)
neither_of true b h = absurd (true≢false h)
neither_of false b h = (refl, h)

not_true : (b : Bool) → not b ≡ true → b ≡ false
not_true false h = refl
not_true true h = absurd (true≢false (sym h))

not_false : (b : Bool) → not b ≡ false → b ≡ true
not_false true h = refl
not_false false h = absurd (true≢false h)

-- ## What is at a place

record IsThere (all : List Line) (j : ℕ) : Type 0 where
  line : Line
  is : slice_get all j ≡ Some line

there_by : (all : List Line) (i j : ℕ) (line : Line) → slice_get all i ≡ Some line → i ≡ j → IsThere all j
there_by all i j line e same = record { line = line; is = ap (slice_get all) (sym same) ∙ e }

label_by : (all : List Line) (i j : ℕ) (line : Line) (b : Bool) (found : Option ℕ) → slice_get all i ≡ Some line → (found ≡ Some j → IsThere all j) → (if b then Some i else found) ≡ Some j → IsThere all j
label_by all i j line true found e later is = there_by all i j line e (let same : i ≡ j = cc in same)
label_by all i j line false found e later is = later is

label_there : (all : List Line) (i : ℕ) (lines : List Line) (l j : ℕ) → lines ≡ drop i all → label_from i lines l ≡ Some j → IsThere all j
unfolding label_from
label_there all i [] l j same e = absurd (cc)
label_there all i (line ∷ lines) l j same e =
    let here = first_dropped all i line lines same in
    label_by all i j line (has_label line.label l) (label_from (suc i) lines l) here.0 (λ later. label_there all (suc i) lines l j here.1 later) e

loop_end_by : (all : List Line) (i depth j : ℕ) (line : Line) (lines : List Line) (mark : LoopMark) → slice_get all i ≡ Some line → ((d : ℕ) → loop_end_from (suc i) d lines ≡ Some j → IsThere all j) → elim mark [
  | NoLoop ↦ loop_end_from (suc i) depth lines
  | OpensLoop ↦ loop_end_from (suc i) (suc depth) lines
  | ClosesLoop ↦ elim depth [ zero ↦ Some i | suc d ↦ loop_end_from (suc i) d lines ]
] ≡ Some j → IsThere all j
loop_end_by all i depth j line lines NoLoop here later e = later depth e
loop_end_by all i depth j line lines OpensLoop here later e = later (suc depth) e
loop_end_by all i zero j line lines ClosesLoop here later e = there_by all i j line here (let same : i ≡ j = cc in same)
loop_end_by all i (suc d) j line lines ClosesLoop here later e = later d e

loop_end_there : (all : List Line) (i depth : ℕ) (lines : List Line) (j : ℕ) → lines ≡ drop i all → loop_end_from i depth lines ≡ Some j → IsThere all j
unfolding loop_end_from
loop_end_there all i depth [] j same e = absurd (cc)
loop_end_there all i depth (line ∷ lines) j same e =
    let here = first_dropped all i line lines same in
    loop_end_by all i depth j line lines line.loop here.0 (λ d later. loop_end_there all (suc i) d lines j here.1 later) e

terminal_there : (p : ProgramUnit) (i : ℕ) (label : Option ℕ) (last : ℕ) → terminal_of p i label ≡ Some last → IsThere p.lines last
unfolding terminal_of place_of_label
terminal_there p i None last e = loop_end_there p.lines (suc i) 0 (drop (suc i) p.lines) last refl e
terminal_there p i (Some l) last e = label_there p.lines 0 p.lines l last refl e

-- ## Units without loops

no_loop_by : (x : Option (Option ℕ)) → not (is_no_loop x) ≡ false → x ≡ None
unfolding is_no_loop
no_loop_by None e = refl
no_loop_by (Some label) e = absurd (true≢false e)

without_ranges : (p : ProgramUnit) (i : ℕ) (lines : List Line) → has_loops lines ≡ false → ranges_from p i lines ≡ []
unfolding has_loops ranges_from range_by
without_ranges p i [] none = refl
without_ranges p i (line ∷ lines) none =
    let parts = neither_of (not (is_no_loop (loop_of line.form))) (has_loops lines) none in
    ap (λ rs. rs ++ range_by p i (loop_of line.form)) (without_ranges p (suc i) lines parts.1) ∙ ap (range_by p i) (no_loop_by (loop_of line.form) parts.0)

without_ends : (p : ProgramUnit) (i : ℕ) (lines : List Line) → has_loops lines ≡ false → each_ends p i lines ≡ true
unfolding has_loops each_ends ends_by
without_ends p i [] none = refl
without_ends p i (line ∷ lines) none =
    let parts = neither_of (not (is_no_loop (loop_of line.form))) (has_loops lines) none in
    ap (λ x. ends_by p i x && each_ends p (suc i) lines) (no_loop_by (loop_of line.form) parts.0) ∙ without_ends p (suc i) lines parts.1

none_of_unit : (p : ProgramUnit) → has_loops p.lines ≡ false → ranges_of p ≡ []
unfolding ranges_of
none_of_unit p none = without_ranges p 0 p.lines none

contained_none : (p : ProgramUnit) → has_loops p.lines ≡ false → each_contained (ranges_of p) ≡ true
unfolding each_contained
contained_none p none = ap each_contained (none_of_unit p none)

pub are_nested : (p : ProgramUnit) → LoopsFit p → AreNested p
are_nested p (without_loops none) = record { ended = without_ends p 0 p.lines none; contained = contained_none p none }
are_nested p (with_loops well) = well.nested

none_open : (p : ProgramUnit) → has_loops p.lines ≡ false → (i : ℕ) → open_at p i ≡ []
unfolding open_at
none_open p none i = ap (filter (is_within i)) (none_of_unit p none)

-- ## Chains

chain_behind : (p : ProgramUnit) (xs ys : List Range) → IsChain p (xs ++ ys) → IsChain p ys
chain_behind p [] ys chain = chain
chain_behind p (x ∷ xs) ys chain = chain_behind p xs ys chain.1

pub in_back : {A : Type 0} (xs ys : List A) (x : A) → IsIn x ys → IsIn x (xs ++ ys)
in_back [] ys x among = among
in_back (z ∷ xs) ys x among = later_in (in_back xs ys x among)

in_front : {A : Type 0} (xs ys : List A) (x : A) → IsIn x xs → IsIn x (xs ++ ys)
in_front [] ys x among = elim among [ ]
in_front (_ ∷ xs) ys x first_in = first_in
in_front (z ∷ xs) ys x (later_in among) = later_in (in_front xs ys x among)

past_last : (i : ℕ) (r : Range) → i ≤ r.last → (r.last ≡ i → ⊥) → goes_past i r ≡ true
unfolding goes_past
past_last i r le apart = lt-ltb i r.last (below i r.last le apart)
  where
    below : (a b : ℕ) → a ≤ b → (b ≡ a → ⊥) → a < b
    below a b le' apart' = cases (cases_Bool (nat_lt a b))
      where
        cases : (nat_lt a b ≡ true) ⊎ (nat_lt a b ≡ false) → a < b
        cases (inl e) = ltb-true a b e
        cases (inr e) = let back = ltb-false a b e in absurd (apart' (omega (arith, back, le')))

is_past : (i : ℕ) (r : Range) → goes_past i r ≡ true → i < r.last
unfolding goes_past
is_past i r e = ltb-true i r.last e

not_past : (i : ℕ) (r : Range) → goes_past i r ≡ false → r.last ≤ i
unfolding goes_past
not_past i r e = ltb-false i r.last e

module _ (p : ProgramUnit) (nested : AreNested p) where
  -- a terminal statement is behind its DO, and is no loop
  ends_parts : (i : ℕ) (x : Option ℕ) (last : ℕ) → x ≡ Some last → ends_at p i x ≡ true → (i < last) × (is_no_loop (loop_at (slice_get p.lines last)) ≡ true)
  unfolding ends_at
  ends_parts i None last is e = absurd (cc)
  ends_parts i (Some last') last is e =
      let same : last' ≡ last = cc in
      let parts = and_parts (nat_lt i last') (is_no_loop (loop_at (slice_get p.lines last'))) e in
      (let low = ltb-true i last' parts.0 in omega (arith, low, same), subst (λ n. is_no_loop (loop_at (slice_get p.lines n)) ≡ true) same parts.1)

  by_loop : (i : ℕ) (label : Option ℕ) (x : Option (Option ℕ)) (last : ℕ) → x ≡ Some label → terminal_of p i label ≡ Some last → ends_by p i x ≡ true → (i < last) × (is_no_loop (loop_at (slice_get p.lines last)) ≡ true)
  unfolding ends_by
  by_loop i label None last is ends e = absurd (cc)
  by_loop i label (Some label') last is ends e = let same : label' ≡ label = cc in ends_parts i (terminal_of p i label') last (ap (terminal_of p i) same ∙ ends) e

  each_at : (k i n : ℕ) (lines : List Line) (line : Line) → i ≡ n + k → each_ends p k lines ≡ true → slice_get lines n ≡ Some line → ends_by p i (loop_of line.form) ≡ true
  unfolding each_ends
  each_at k i n [] line at ends e = absurd (cc)
  each_at k i zero (x ∷ lines) line at ends e =
      let same : x ≡ line = cc in
      let place : i ≡ k = omega (arith, at) in
      subst (λ z. ends_by p z (loop_of line.form) ≡ true) (sym place) (subst (λ (z : Line). ends_by p k (loop_of z.form) ≡ true) same (and_parts (ends_by p k (loop_of x.form)) (each_ends p (suc k) lines) ends).0)
  each_at k i (suc n) (x ∷ lines) line at ends e = each_at (suc k) i n lines line (omega (arith, at)) (and_parts (ends_by p k (loop_of x.form)) (each_ends p (suc k) lines) ends).1 e

  no_loop_at : (x : Option Line) (line : Line) → x ≡ Some line → is_no_loop (loop_at x) ≡ true → loop_of line.form ≡ None
  unfolding loop_at is_no_loop
  no_loop_at x line is e = no_loop_of (loop_of line.form) (ap (λ z. is_no_loop (loop_at z)) (sym is) ∙ e)
    where
      no_loop_of : (y : Option (Option ℕ)) → is_no_loop y ≡ true → y ≡ None
      no_loop_of None e' = refl
      no_loop_of (Some label) e' = absurd (true≢false (sym e'))

  -- the terminal statement of a loop
  pub record EndsLoop (i last : ℕ) : Type 0 where
    pub behind : i < last
    pub line : Line
    pub there : slice_get p.lines last ≡ Some line
    pub quiet : loop_of line.form ≡ None

  pub loop_ends : (i : ℕ) (line : Line) (label : Option ℕ) (last : ℕ) → slice_get p.lines i ≡ Some line → loop_of line.form ≡ Some label → terminal_of p i label ≡ Some last → EndsLoop i last
  loop_ends i line label last is loops ends =
      let parts = by_loop i label (loop_of line.form) last loops ends (each_at 0 i i p.lines line (omega arith) nested.ended is) in
      let found = terminal_there p i label last ends in
      record { behind = parts.0; line = found.line; there = found.is; quiet = no_loop_at (slice_get p.lines last) found.line found.is parts.1 }

  range_ends : (r : Range) → IsIn r (ranges_of p) → EndsLoop r.first r.last
  range_ends r among = let loop' = range_of_loop p r among in loop_ends r.first loop'.line loop'.label r.last loop'.there loop'.loops loop'.ends

  -- no loop ends with a DO
  goes_on : (i : ℕ) (line : Line) (label : Option ℕ) → slice_get p.lines i ≡ Some line → loop_of line.form ≡ Some label → filter (goes_past i) (open_at p i) ≡ open_at p i
  goes_on i line label is loops =
      filter_all (goes_past i) (open_at p i) (λ r among.
      let open' = open_is_within p i r among in
      let ends = range_ends r open'.of_unit in
      past_last i r open'.not_behind (λ e. absurd (
      let there' : slice_get p.lines i ≡ Some ends.line = ap (slice_get p.lines) (sym e) ∙ ends.there in
      let same : ends.line ≡ line = cc in
      let bad : None ≡ Some label = sym ends.quiet ∙ ap (λ (z : Line). loop_of z.form) same ∙ loops in cc)))

  -- no loop ends with a DO
  pub loop_quiet : (i : ℕ) (line : Line) (label : Option ℕ) → slice_get p.lines i ≡ Some line → loop_of line.form ≡ Some label → (r : Range) → IsIn r (open_at p i) → r.last ≡ i → ⊥
  loop_quiet i line label is loops r among e =
      let ends = range_ends r (open_is_within p i r among).of_unit in
      let there' : slice_get p.lines i ≡ Some ends.line = ap (slice_get p.lines) (sym e) ∙ ends.there in
      let same : ends.line ≡ line = cc in
      let bad : None ≡ Some label = sym ends.quiet ∙ ap (λ (z : Line). loop_of z.form) same ∙ loops in
      absurd (cc)

  pub quiet_ended : (i : ℕ) → ((r : Range) → IsIn r (open_at p i) → r.last ≡ i → ⊥) → ended_at p i ≡ []
  unfolding ended_at
  quiet_ended i none =
      filter_none (λ r. not (goes_past i r)) (open_at p i) (λ r among. ap not (past_last i r (open_is_within p i r among).not_behind (none r among)))

  -- behind a statement where no loop ends or begins
  pub still_open : (i : ℕ) (line : Line) → slice_get p.lines i ≡ Some line → loop_of line.form ≡ None → ((r : Range) → IsIn r (open_at p i) → r.last ≡ i → ⊥) → open_at p (suc i) ≡ open_at p i
  unfolding range_by
  still_open i line is quiet none =
      known_behind p i line nested is ∙ ap (λ x. range_by p i x ++ filter (goes_past i) (open_at p i)) quiet
      ∙ filter_all (goes_past i) (open_at p i) (λ r among. let open' = open_is_within p i r among in past_last i r open'.not_behind (none r among))

  pub next_open : (i : ℕ) (line : Line) → slice_get p.lines i ≡ Some line → loop_of line.form ≡ None → open_at p (suc i) ≡ filter (goes_past i) (open_at p i)
  unfolding range_by
  next_open i line is quiet = known_behind p i line nested is ∙ ap (λ x. range_by p i x ++ filter (goes_past i) (open_at p i)) quiet

  pub range_open : (i : ℕ) (line : Line) (label : Option ℕ) (last : ℕ) → slice_get p.lines i ≡ Some line → loop_of line.form ≡ Some label → terminal_of p i label ≡ Some last →
      open_at p (suc i) ≡ record { first = i; last = last } ∷ open_at p i
  unfolding range_by range_to
  range_open i line label last is loops ends =
      known_behind p i line nested is ∙ ap (λ x. range_by p i x ++ filter (goes_past i) (open_at p i)) loops
      ∙ ap (λ x. range_to i x ++ filter (goes_past i) (open_at p i)) ends ∙ ap (λ rs. record { first = i; last = last } ∷ rs) (goes_on i line label is loops)

  -- the range of a loop is open at its end
  pub open_at_end : (i : ℕ) (line : Line) (label : Option ℕ) (last : ℕ) → slice_get p.lines i ≡ Some line → loop_of line.form ≡ Some label → terminal_of p i label ≡ Some last → IsIn (record { first = i; last = last }) (open_at p last)
  open_at_end i line label last is loops ends =
      let among : IsIn (record { first = i; last = last }) (open_at p (suc i)) = subst (IsIn (record { first = i; last = last })) (sym (range_open i line label last is loops ends)) first_in in
      within_is_open p last (record { first = i; last = last }) (record { of_unit = (open_is_within p (suc i) (record { first = i; last = last }) among).of_unit; behind = (loop_ends i line label last is loops ends).behind; not_behind = omega arith })

  pub parts_open : (i : ℕ) → open_at p i ≡ ended_at p i ++ filter (goes_past i) (open_at p i)
  unfolding ended_at
  parts_open i = innermost_first p i nested

  past_chain : (i : ℕ) → IsChain p (open_at p i) → IsChain p (filter (goes_past i) (open_at p i))
  past_chain i chain = chain_behind p (ended_at p i) (filter (goes_past i) (open_at p i)) (subst (IsChain p) (parts_open i) chain)

  -- behind the last statement none is open
  none_behind_all : (i : ℕ) → slice_get p.lines i ≡ None → open_at p (suc i) ≡ []
  none_behind_all i none = empty (open_at p (suc i)) (λ r among.
      let open' = open_is_within p (suc i) r among in
      let ends = range_ends r open'.of_unit in
      absurd (let bad : None ≡ Some ends.line = sym (none_further p.lines i r.last none (let le = open'.not_behind in omega (arith, le))) ∙ ends.there in cc))
    where
      empty : (rs : List Range) → ((r : Range) → IsIn r rs → ⊥) → rs ≡ []
      empty [] none' = refl
      empty (r ∷ rs) none' = absurd (none' r first_in)

      none_further : (xs : List Line) (i j : ℕ) → slice_get xs i ≡ None → i ≤ j → slice_get xs j ≡ None
      none_further [] zero zero e le = refl
      none_further [] zero (suc j) e le = refl
      none_further [] (suc i) zero e le = refl
      none_further [] (suc i) (suc j) e le = refl
      none_further (x ∷ xs) zero j e le = absurd (cc)
      none_further (x ∷ xs) (suc i) zero e le = absurd (omega (arith, le))
      none_further (x ∷ xs) (suc i) (suc j) e le = none_further xs i j e (omega (arith, le))

  chain_to : (i : ℕ) (x : Option ℕ) → IsChain p (filter (goes_past i) (open_at p i)) → open_at p i ≡ filter (goes_past i) (open_at p i) → IsChain p (range_to i x ++ filter (goes_past i) (open_at p i))
  unfolding range_to
  chain_to i None chain e = chain
  chain_to i (Some last) chain e = (e, chain)

  chain_by : (i : ℕ) (line : Line) (x : Option (Option ℕ)) → slice_get p.lines i ≡ Some line → loop_of line.form ≡ x → IsChain p (filter (goes_past i) (open_at p i)) → IsChain p (range_by p i x ++ filter (goes_past i) (open_at p i))
  unfolding range_by
  chain_by i line None is loops chain = chain
  chain_by i line (Some label) is loops chain = chain_to i (terminal_of p i label) chain (sym (goes_on i line label is loops))

  chain_next : (i : ℕ) (x : Option Line) → slice_get p.lines i ≡ x → IsChain p (open_at p i) → IsChain p (open_at p (suc i))
  chain_next i None is chain = subst (IsChain p) (sym (none_behind_all i is)) tt
  chain_next i (Some line) is chain = subst (IsChain p) (sym (known_behind p i line nested is)) (chain_by i line (loop_of line.form) is refl (past_chain i chain))

  pub chain_at : (i : ℕ) → IsChain p (open_at p i)
  chain_at zero = subst (IsChain p) (sym (none_at_first p)) tt
  chain_at (suc i) = chain_next i (slice_get p.lines i) refl (chain_at i)

  -- those that end with a statement, and those that go on
  all_end : (i : ℕ) (rs : List Range) → ((r : Range) → IsIn r rs → r.last ≡ i) → AllEnd i rs
  all_end i [] ends = tt
  all_end i (r ∷ rs) ends = (ends r first_in, all_end i rs (λ q among. ends q (later_in among)))

  none_ends : (i : ℕ) (rs : List Range) → ((r : Range) → IsIn r rs → i < r.last) → NoneEnds i rs
  none_ends i [] goes' = tt
  none_ends i (r ∷ rs) goes' = ((λ e. let up = goes' r first_in in absurd (omega (arith, up, e))), none_ends i rs (λ q among. goes' q (later_in among)))

  pub ended_end : (i : ℕ) → AllEnd i (ended_at p i)
  unfolding ended_at
  ended_end i =
      all_end i (filter (λ r. not (goes_past i r)) (open_at p i)) (λ r among.
      let open' = open_is_within p i r (from_filter (λ q. not (goes_past i q)) (open_at p i) r among) in
      let down = not_past i r (not_true (goes_past i r) (of_filter (λ q. not (goes_past i q)) (open_at p i) r among)) in
      let up = open'.not_behind in omega (arith, down, up))

  pub past_goes : (i : ℕ) → NoneEnds i (filter (goes_past i) (open_at p i))
  past_goes i = none_ends i (filter (goes_past i) (open_at p i)) (λ r among. is_past i r (of_filter (goes_past i) (open_at p i) r among))

-- ## Branches

within_both : (a b : Bool) → (b ≡ true → a ≡ true) → (a && b) ≡ b
within_both true b h = refl
within_both false true h = h refl
within_both false false h = refl

reaches_by : (p : ProgramUnit) (i j : ℕ) → ((r : Range) → IsIn r (ranges_of p) → is_within j r ≡ true → is_within i r ≡ true) → open_at p j ≡ filter (is_within j) (open_at p i)
unfolding open_at
reaches_by p i j within =
    sym (filter_twice (is_within j) (is_within i) (ranges_of p) ∙ filter_alike (λ r. is_within i r && is_within j r) (is_within j) (ranges_of p) (λ r among. within_both (is_within i r) (is_within j r) (within r among)))

inside_by : (a b : Bool) → (a && not b) ≡ false → a ≡ true → b ≡ true
inside_by true true e is = refl
inside_by true false e is = absurd (true≢false e)
inside_by false b e is = absurd (true≢false (sym is))

outside_reaches : (p : ProgramUnit) (i j : ℕ) → not (enters_range p i j) ≡ true → open_at p j ≡ filter (is_within j) (open_at p i)
unfolding enters_range
outside_reaches p i j e =
    reaches_by p i j (λ r among is.
    inside_by (is_within j r) (is_within i r) (any_false (λ q. is_within j q && not (is_within i q)) (ranges_of p) r (not_true (enters_range p i j) e) among) is)

may_reach_by : (p : ProgramUnit) (i : ℕ) (x : Option ℕ) → stays_outside p i x ≡ true → (j : ℕ) → x ≡ Some j → open_at p j ≡ filter (is_within j) (open_at p i)
unfolding stays_outside
may_reach_by p i None e j is = absurd (cc)
may_reach_by p i (Some j') e j is = let same : j' ≡ j = cc in subst (λ z. open_at p z ≡ filter (is_within z) (open_at p i)) same (outside_reaches p i j' e)

may_reach : (p : ProgramUnit) (i label : ℕ) → may_branch p i label ≡ true → Reaches p i label
unfolding may_branch
may_reach p i label e = may_reach_by p i (place_of_label p label) e

list_reaches : (p : ProgramUnit) (i : ℕ) (labels : List ℕ) → list_all (may_branch p i) labels ≡ true → (label : ℕ) → contains labels label ≡ true → Reaches p i label
unfolding contains
list_reaches p i [] all label found = absurd (true≢false (sym found))
list_reaches p i (k ∷ labels) all label found =
    let parts = and_parts (may_branch p i k) (list_all (may_branch p i) labels) all in
    by_first (nat_eq k label) refl found (may_reach p i k parts.0) (λ later. list_reaches p i labels parts.1 label later)
  where
    by_first : (b : Bool) → nat_eq k label ≡ b → (b || contains labels label) ≡ true → Reaches p i k → (contains labels label ≡ true → Reaches p i label) → Reaches p i label
    by_first true e found' here later = subst (Reaches p i) (eqb-true k label e) here
    by_first false e found' here later = later found'

-- ## Labels of ERR and END

label_reaches : (p : ProgramUnit) (i : ℕ) (x : Option ℕ) → label_branches p i x ≡ true → LabelReaches p i x
unfolding label_branches
label_reaches p i None e = tt
label_reaches p i (Some label) e = may_reach p i label e

controls_reach : (p : ProgramUnit) (i : ℕ) (controls : Controls) → controls_branch p i controls ≡ true → ControlsReach p i controls
unfolding controls_branch
controls_reach p i controls e =
    let parts = and_parts (label_branches p i controls.on_error) (label_branches p i controls.on_end) e in
    (label_reaches p i controls.on_error parts.0, label_reaches p i controls.on_end parts.1)

free_label : (p : ProgramUnit) (i : ℕ) (x : Option ℕ) → ((label : ℕ) → Reaches p i label) → LabelReaches p i x
free_label p i None all = tt
free_label p i (Some label) all = all label

-- a statement that begins in the midst of no list
unfoldable mutual
  pub is_start : Form → Bool
  is_start Passes = true
  is_start (On h ts) = is_start_head h

  pub is_start_head : Head → Bool
  is_start_head (head.ToGuard form) = is_start form
  is_start_head (head.ToTransfer rest') = false
  is_start_head (head.ToRepeat items rest') = false
  is_start_head (head.ToTurn items q left by given rest') = false
  is_start_head head.ToFinish = false
  is_start_head h = true

mutual
  unfolding branches_well head_branches is_start is_start_head

  form_reaches : (p : ProgramUnit) (i : ℕ) (form : Form) → is_start form ≡ true → branches_well p i form ≡ true → BranchesWell p i form
  form_reaches p i Passes start e = tt
  form_reaches p i (On h ts) start e = head_reaches p i h ts start e

  head_reaches : (p : ProgramUnit) (i : ℕ) (h : Head) (ts : Terms) → is_start_head h ≡ true → head_branches p i h ts ≡ true → HeadBranches p i h ts
  head_reaches p i (head.ToGo label) ts start e = may_reach p i label e
  head_reaches p i (head.ToPick labels) ts start e = list_reaches p i labels e
  head_reaches p i (head.ToGoBySign below at above) ts start e =
      let one = and_parts (may_branch p i below) (may_branch p i at && may_branch p i above) e in
      let two = and_parts (may_branch p i at) (may_branch p i above) one.1 in
      (may_reach p i below one.0, may_reach p i at two.0, may_reach p i above two.1)
  head_reaches p i (head.ToGuard form) ts start e = form_reaches p i form start e
  head_reaches p i (head.ToCall name) ts start e = by_those (may_branch p i) (not_true (passes_other (may_branch p i) ts) e) (λ label is. may_reach p i label is)
  head_reaches p i head.ToSet ts start e = tt
  head_reaches p i head.ToSetText ts start e = tt
  head_reaches p i (head.ToSetLabel label) ts start e = tt
  head_reaches p i (head.ToGoAssigned labels) ts start e = tt
  head_reaches p i head.ToEnterArm ts start e = tt
  head_reaches p i (head.ToLoop label) ts start e = tt
  head_reaches p i (head.ToTestLoop label) ts start e = tt
  head_reaches p i head.ToReturn ts start e = tt
  head_reaches p i (head.ToStop text) ts start e = tt
  head_reaches p i (head.ToBegin way layout controls work) ts start e = controls_reach p i controls e
  head_reaches p i (head.ToTransfer rest') ts start e = absurd (true≢false (sym start))
  head_reaches p i (head.ToRepeat items rest') ts start e = absurd (true≢false (sym start))
  head_reaches p i (head.ToTurn items q left by given rest') ts start e = absurd (true≢false (sym start))
  head_reaches p i head.ToFinish ts start e = absurd (true≢false (sym start))
  head_reaches p i (head.ToAuxiliary which controls) ts start e = controls_reach p i controls e
  head_reaches p i head.ToEnd ts start e = tt

mutual
  unfolding is_start is_start_head

  free_form : (p : ProgramUnit) (i : ℕ) (form : Form) → is_start form ≡ true → ((label : ℕ) → Reaches p i label) → BranchesWell p i form
  free_form p i Passes start all = tt
  free_form p i (On h ts) start all = free_head p i h ts start all

  free_head : (p : ProgramUnit) (i : ℕ) (h : Head) (ts : Terms) → is_start_head h ≡ true → ((label : ℕ) → Reaches p i label) → HeadBranches p i h ts
  free_head p i (head.ToGo label) ts start all = all label
  free_head p i (head.ToPick labels) ts start all = λ label found. all label
  free_head p i (head.ToGoBySign below at above) ts start all = (all below, all at, all above)
  free_head p i (head.ToGuard form) ts start all = free_form p i form start all
  free_head p i (head.ToCall name) ts start all = by_all all
  free_head p i head.ToSet ts start all = tt
  free_head p i head.ToSetText ts start all = tt
  free_head p i (head.ToSetLabel label) ts start all = tt
  free_head p i (head.ToGoAssigned labels) ts start all = tt
  free_head p i head.ToEnterArm ts start all = tt
  free_head p i (head.ToLoop label) ts start all = tt
  free_head p i (head.ToTestLoop label) ts start all = tt
  free_head p i head.ToReturn ts start all = tt
  free_head p i (head.ToStop text) ts start all = tt
  free_head p i (head.ToBegin way layout controls work) ts start all = (free_label p i controls.on_error all, free_label p i controls.on_end all)
  free_head p i (head.ToTransfer rest') ts start all = absurd (true≢false (sym start))
  free_head p i (head.ToRepeat items rest') ts start all = absurd (true≢false (sym start))
  free_head p i (head.ToTurn items q left by given rest') ts start all = absurd (true≢false (sym start))
  free_head p i head.ToFinish ts start all = absurd (true≢false (sym start))
  free_head p i (head.ToAuxiliary which controls) ts start all = (free_label p i controls.on_error all, free_label p i controls.on_end all)
  free_head p i head.ToEnd ts start all = tt

each_reaches : (p : ProgramUnit) (k i n : ℕ) (lines : List Line) (line : Line) → i ≡ n + k → is_start line.form ≡ true → each_branches_well p k lines ≡ true → slice_get lines n ≡ Some line → BranchesWell p i line.form
unfolding each_branches_well
each_reaches p k i n [] line at start all e = absurd (cc)
each_reaches p k i zero (x ∷ lines) line at start all e =
    let same : x ≡ line = cc in
    let place : i ≡ k = omega (arith, at) in
    subst (λ z. BranchesWell p z line.form) (sym place) (subst (λ (z : Line). BranchesWell p k z.form) same (form_reaches p k x.form (subst (λ (z : Line). is_start z.form ≡ true) (sym same) start) (and_parts (branches_well p k x.form) (each_branches_well p (suc k) lines) all).0))
each_reaches p k i (suc n) (x ∷ lines) line at start all e = each_reaches p (suc k) i n lines line (omega (arith, at)) start (and_parts (branches_well p k x.form) (each_branches_well p (suc k) lines) all).1 e

none_reaches : (p : ProgramUnit) → has_loops p.lines ≡ false → (i label : ℕ) → Reaches p i label
none_reaches p none i label j e = none_open p none j ∙ sym (ap (filter (is_within j)) (none_open p none i))

pub branches_fit : (p : ProgramUnit) → LoopsFit p → (i : ℕ) (line : Line) → slice_get p.lines i ≡ Some line → is_start line.form ≡ true → BranchesWell p i line.form
branches_fit p (without_loops none) i line is start = free_form p i line.form start (none_reaches p none i)
branches_fit p (with_loops well) i line is start = each_reaches p 0 i i p.lines line (omega arith) start well.branches is

-- ## Entries

no_open : (rs : List Range) → elim rs [ [] ↦ true | r ∷ rs' ↦ false ] ≡ true → rs ≡ []
no_open [] e = refl
no_open (r ∷ rs) e = absurd (true≢false (sym e))

found_by : (p : ProgramUnit) (x e : EntryPoint) (b : Bool) (found : Option EntryPoint) → enters_outside p x ≡ true → (found ≡ Some e → enters_outside p e ≡ true) → cond b (Some x) found ≡ Some e → enters_outside p e ≡ true
found_by p x e true found here later is = let same : x ≡ e = cc in subst (λ z. enters_outside p z ≡ true) same here
found_by p x e false found here later is = later is

found_fits : (p : ProgramUnit) (test : EntryPoint → Bool) (es : List EntryPoint) (e : EntryPoint) → list_all (enters_outside p) es ≡ true → find test es ≡ Some e → enters_outside p e ≡ true
found_fits p test [] e all found = absurd (cc)
found_fits p test (x ∷ es) e all found =
    let parts = and_parts (enters_outside p x) (list_all (enters_outside p) es) all in
    found_by p x e (test x) (find test es) parts.0 (λ later. found_fits p test es e parts.1 later) found

entry_fits : (p : ProgramUnit) (kind : UnitKind) (es : List EntryPoint) (name : Called) (e : EntryPoint) → list_all (enters_outside p) es ≡ true → entry_of kind es name ≡ Some e → enters_outside p e ≡ true
unfolding entry_of
entry_fits p MainProgram [] TheMain e all found = absurd (cc)
entry_fits p MainProgram (x ∷ es) TheMain e all found = let same : x ≡ e = cc in subst (λ z. enters_outside p z ≡ true) same (and_parts (enters_outside p x) (list_all (enters_outside p) es) all).0
entry_fits p SubroutineUnit es TheMain e all found = absurd (cc)
entry_fits p FunctionUnit es TheMain e all found = absurd (cc)
entry_fits p BlockDataUnit es TheMain e all found = absurd (cc)
entry_fits p kind es (Procedure name) e all found = found_fits p (λ x. bytes_eq x.name name) es e all found

pub entries_fit : (p : ProgramUnit) → LoopsFit p → (name : Called) (e : EntryPoint) → entry_of p.kind p.entries name ≡ Some e → open_at p e.start ≡ []
unfolding enters_outside
entries_fit p (without_loops none) name e found = none_open p none e.start
entries_fit p (with_loops well) name e found = no_open (open_at p e.start) (entry_fits p p.kind p.entries name e well.entries found)

-- ## Blocks

whole_at : (p : ProgramUnit) (k i n : ℕ) (lines : List Line) (line : Line) → i ≡ n + k → blocks_are_whole p k lines ≡ true → slice_get lines n ≡ Some line → is_whole_by p i line.mark ≡ true
unfolding blocks_are_whole
whole_at p k i n [] line at all e = absurd (cc)
whole_at p k i zero (x ∷ lines) line at all e =
    let same : x ≡ line = cc in
    let place : i ≡ k = omega (arith, at) in
    subst (λ z. is_whole_by p z line.mark ≡ true) (sym place) (subst (λ (z : Line). is_whole_by p k z.mark ≡ true) same (and_parts (is_whole_by p k x.mark) (blocks_are_whole p (suc k) lines) all).0)
whole_at p k i (suc n) (x ∷ lines) line at all e = whole_at p (suc k) i n lines line (omega (arith, at)) (and_parts (is_whole_by p k x.mark) (blocks_are_whole p (suc k) lines) all).1 e

none_ends_by : (p : ProgramUnit) (i : ℕ) (mark : Mark) → (mark ≡ Plain → ⊥) → is_whole_by p i mark ≡ true → none_ends_at p i ≡ true
unfolding is_whole_by
none_ends_by p i Plain marked e = absurd (marked refl)
none_ends_by p i Opens marked e = (and_parts (none_ends_at p i) (are_alike p i (arm_after p i)) e).0
none_ends_by p i Arm marked e = (and_parts (none_ends_at p i) (are_alike p i (arm_after p i)) e).0
none_ends_by p i Closes marked e = e

no_end : (p : ProgramUnit) (i : ℕ) → none_ends_at p i ≡ true → (r : Range) → IsIn r (ranges_of p) → r.last ≡ i → ⊥
unfolding none_ends_at
no_end p i all r among e = true≢false (sym (eq-eqb r.last i e) ∙ not_true (nat_eq r.last i) (all_in (λ q. not (nat_eq q.last i)) (ranges_of p) r all among))

-- no loop ends with a statement of a block
pub block_quiet : (p : ProgramUnit) → LoopsFit p → (i : ℕ) (line : Line) → slice_get p.lines i ≡ Some line → (line.mark ≡ Plain → ⊥) → (r : Range) → IsIn r (open_at p i) → r.last ≡ i → ⊥
block_quiet p (without_loops none) i line is marked r among e = none_among (open_at p i) (none_open p none i) among
  where
    none_among : (rs : List Range) → rs ≡ [] → IsIn r rs → ⊥
    none_among [] is' among' = elim among' [ ]
    none_among (x ∷ rs) is' among' = absurd (cc)
block_quiet p (with_loops well) i line is marked r among e =
    no_end p i (none_ends_by p i line.mark marked (whole_at p 0 i i p.lines line (omega arith) well.blocks is)) r (open_is_within p i r among).of_unit e

truth_is : (a b : Bool) → same_truth a b ≡ true → b ≡ a
unfolding same_truth
truth_is true b e = e
truth_is false b e = not_true b e

alike_at : (p : ProgramUnit) (i j : ℕ) (x : Option ℕ) → x ≡ Some j → are_alike p i x ≡ true → SameOpen p j i
unfolding are_alike open_at
alike_at p i j None is e = absurd (cc)
alike_at p i j (Some j') is e =
    let same : j' ≡ j = cc in
    subst (λ z. filter (is_within z) (ranges_of p) ≡ filter (is_within i) (ranges_of p)) same
    (filter_alike (is_within j') (is_within i) (ranges_of p) (λ r among. truth_is (is_within i r) (is_within j' r) (all_in (λ q. same_truth (is_within i q) (is_within j' q)) (ranges_of p) r e among)))

alike_by : (p : ProgramUnit) (i : ℕ) (mark : Mark) → (mark ≡ Plain → ⊥) → (mark ≡ Closes → ⊥) → is_whole_by p i mark ≡ true → are_alike p i (arm_after p i) ≡ true
unfolding is_whole_by
alike_by p i Plain marked open' e = absurd (marked refl)
alike_by p i Opens marked open' e = (and_parts (none_ends_at p i) (are_alike p i (arm_after p i)) e).1
alike_by p i Arm marked open' e = (and_parts (none_ends_at p i) (are_alike p i (arm_after p i)) e).1
alike_by p i Closes marked open' e = absurd (open' refl)

-- the arms of a block are in the same ranges
pub arms_alike : (p : ProgramUnit) → LoopsFit p → (i : ℕ) (line : Line) → slice_get p.lines i ≡ Some line → (line.mark ≡ Plain → ⊥) → (line.mark ≡ Closes → ⊥) → (j : ℕ) → arm_after p i ≡ Some j → SameOpen p j i
arms_alike p (without_loops none) i line is marked open' j arm = none_open p none j ∙ sym (none_open p none i)
arms_alike p (with_loops well) i line is marked open' j arm =
    alike_at p i j (arm_after p i) arm (alike_by p i line.mark marked open' (whole_at p 0 i i p.lines line (omega arith) well.blocks is))

-- ## Assigned GO TO

-- a loop begins no arm
abbrev pub LoopsArePlain : ProgramUnit → Type 0
LoopsArePlain p = (i : ℕ) (line : Line) (label : Option ℕ) → slice_get p.lines i ≡ Some line → loop_of line.form ≡ Some label → line.mark ≡ Plain

block_of_loop : (p : ProgramUnit) (i : ℕ) (mark : Mark) (form : Form) (label : Option ℕ) → mark ≡ Plain → loop_of form ≡ Some label → elim mark [
  | Opens ↦ arm_after p i
  | Arm ↦ arm_after p i
  | _ ↦ elim form [
    | On h operands ↦ elim h [
      | head.ToLoop l ↦ behind_terminal (terminal_of p i l)
      | head.ToTestLoop l ↦ behind_terminal (terminal_of p i l)
      | _ ↦ None
    ]
    | Passes ↦ None
  ]
] ≡ behind_terminal (terminal_of p i label)
unfolding loop_of
block_of_loop p i Plain form label marked loops = grind arith
block_of_loop p i Opens form label marked loops = absurd (cc)
block_of_loop p i Arm form label marked loops = absurd (cc)
block_of_loop p i Closes form label marked loops = absurd (cc)

entered_at : (p : ProgramUnit) (k i n : ℕ) (lines : List Line) (line : Line) (from to : ℕ) → i ≡ n + k → enters_from p k lines from to ≡ false → slice_get lines n ≡ Some line → block_is_entered i (block_end p i line) from to ≡ false
unfolding enters_from
entered_at p k i n [] line from to at none e = absurd (cc)
entered_at p k i zero (x ∷ lines) line from to at none e =
    let same : x ≡ line = cc in
    let place : i ≡ k = omega (arith, at) in
    subst (λ z. block_is_entered z (block_end p z line) from to ≡ false) (sym place)
    (subst (λ (z : Line). block_is_entered k (block_end p k z) from to ≡ false) same (neither_of (block_is_entered k (block_end p k x) from to) (enters_from p (suc k) lines from to) none).0)
entered_at p k i (suc n) (x ∷ lines) line from to at none e =
    entered_at p (suc k) i n lines line from to (omega (arith, at)) (neither_of (block_is_entered k (block_end p k x) from to) (enters_from p (suc k) lines from to) none).1 e

less_next : (a b : ℕ) → nat_le a b ≡ true → nat_lt a (suc b) ≡ true
less_next a b e = let le = leb-true a b e in lt-ltb a (suc b) (omega (arith, le))

next_less : (a b : ℕ) → nat_lt a (suc b) ≡ true → nat_le a b ≡ true
next_less a b e = let le = ltb-true a (suc b) e in le-leb a b (omega (arith, le))

both_true : (a b : Bool) → a ≡ true → b ≡ true → (a && b) ≡ true
both_true true b e e' = e'
both_true false b e e' = absurd (true≢false (sym e))

within_from : (first last from to : ℕ) → block_is_entered first (Some (suc last)) from to ≡ false → is_within to (record { first = first; last = last }) ≡ true → is_within from (record { first = first; last = last }) ≡ true
unfolding block_is_entered is_within
within_from first last from to none e =
    let parts = and_parts (nat_lt first to) (nat_le to last) e in
    let inside : (nat_lt first to && nat_lt to (suc last)) ≡ true = both_true (nat_lt first to) (nat_lt to (suc last)) parts.0 (less_next to last parts.1) in
    let found = inside_by (nat_lt first to && nat_lt to (suc last)) (nat_lt first from && nat_lt from (suc last)) none inside in
    let parts' = and_parts (nat_lt first from) (nat_lt from (suc last)) found in
    both_true (nat_lt first from) (nat_le from last) parts'.0 (next_less from last parts'.1)

assigned_within : (p : ProgramUnit) → LoopsArePlain p → (from to : ℕ) → enters_from p 0 p.lines from to ≡ false → (r : Range) → IsIn r (ranges_of p) → is_within to r ≡ true → is_within from r ≡ true
unfolding block_end behind_terminal
assigned_within p plain from to none r among within =
    let loop' = range_of_loop p r among in
    let marked = plain r.first loop'.line loop'.label loop'.there loop'.loops in
    let entered = entered_at p 0 r.first r.first p.lines loop'.line from to (omega arith) none loop'.there in
    let end = block_of_loop p r.first loop'.line.mark loop'.line.form loop'.label marked loop'.loops ∙ ap behind_terminal loop'.ends in
    within_from r.first r.last from to (ap (λ z. block_is_entered r.first z from to) (sym end) ∙ entered) within

assigned_by : (p : ProgramUnit) → LoopsArePlain p → (i label : ℕ) (x : Option ℕ) → enters_block p i x ≡ false → (j : ℕ) → x ≡ Some j → open_at p j ≡ filter (is_within j) (open_at p i)
unfolding enters_block
assigned_by p plain i label None none j e = absurd (cc)
assigned_by p plain i label (Some j') none j e =
    let same : j' ≡ j = cc in
    subst (λ z. open_at p z ≡ filter (is_within z) (open_at p i)) same (reaches_by p i j' (λ r among within. assigned_within p plain i j' none r among within))

pub assigned_reaches : (p : ProgramUnit) → LoopsArePlain p → (i label : ℕ) → enters_block p i (place_of_label p label) ≡ false → Reaches p i label
assigned_reaches p plain i label none j e = assigned_by p plain i label (place_of_label p label) none j e
