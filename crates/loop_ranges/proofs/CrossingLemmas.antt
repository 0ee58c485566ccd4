-- The ranges that are kept while statements are passed.
use Rattle.std.proofs.Common.{◌≡◌, ℕ, suc, ◌+◌, ◌-◌, ◌<◌, ◌≤◌, Bool, true, false, not, ◌||◌, List, [], ◌∷◌, ◌++◌, take, drop, drop-cons, get_or, length, map, reverse, nat_eq, nat_le, Option, Some, None, if◌then◌else◌, refl, sym, ap, subst, ◌∙◌, arith}
use Rattle.std.specs.Prelude.{option_to_list}
use Rattle.std.proofs.lemmas.List.{append-nil, append_assoc, drop_more, reverse-append, map-append, take-append-drop, take_more}
use Rattle.f_tree.specs.declared.refusals.Kind.TheVariants.{BadDoNest}
use Rattle.f_tree.specs.declared.refusals.Refusal.{Refusal}
use Rattle.f_tree.specs.declared.statements.Stmt.{Stmt}
use Rattle.f_tree.specs.Attributes.{first_of_two}
use Rattle.found_rows.specs.declaration_rows.Judgement.{unless}
use Rattle.found_rows.specs.declaration_rows.NameRows.{stood}
use Rattle.found_rows.specs.declaration_rows.UnitRows as written
use Rattle.found_rows.specs.declaration_rows.UnitRows.{range_to, crosses_at, crossing_rows}
use Rattle.loop_ranges.specs.declared.crossing.Range.{Range}
use Rattle.loop_ranges.specs.declared.crossing.Ranges.{Ranges}
use Rattle.loop_ranges.specs.FirstLoops.{first_at}
use Rattle.loop_ranges.specs.OpenRanges.{ranges_at, range_of, innermost_first, first_ending, is_open_behind, without_ended, has_ended, first_of_innermost, begins_before, AreNestedBefore, AreRanges, Passes}
use Rattle.loop_ranges.proofs.RangeLemmas.{ranges_push, ranges_none, first_both, open_turned, open_both, forgotten_not_open, nested_more, nested_none, nested_kept, forgotten_ends, crosses_told}
use Rattle.loop_ranges.proofs.Conditions.{length_more}

-- one range more is the innermost
pub pushed : (rs : List Range) (r : Range) → innermost_first (rs ++ r ∷ []) ≡ range_of r ∷ innermost_first rs
pushed rs r = ap reverse (map-append range_of rs (r ∷ [])) ∙ reverse-append (map range_of rs) (range_of r ∷ [])

-- the last of the list is the innermost
past : (xs : List Range) → drop (length xs) xs ≡ []
past [] = refl
past (x ∷ xs) = past xs

pub last_pushed : (rs : List Range) (d : Range) → 0 < length rs → rs ≡ take (length rs - 1) rs ++ get_or rs (length rs - 1) d ∷ []
last_pushed rs d h =
    let one : suc (length rs - 1) ≡ length rs = omega arith in
    sym (take-append-drop (length rs - 1) rs) ∙ ap (λ xs. take (length rs - 1) rs ++ xs) (drop-cons rs (length rs - 1) d (omega arith) ∙ ap (λ xs. get_or rs (length rs - 1) d ∷ xs) (ap (λ n. drop n rs) one ∙ past rs))

pub innermost_is : (rs : List Range) (d r : Range) → 0 < length rs → r ≡ get_or rs (length rs - 1) d → innermost_first rs ≡ range_of r ∷ innermost_first (take (length rs - 1) rs)
innermost_is rs d r h is =
    ap (λ (xs : List Range). innermost_first xs) (last_pushed rs d h) ∙ pushed (take (length rs - 1) rs) (get_or rs (length rs - 1) d)
    ∙ ap (λ (x : Range). range_of x ∷ innermost_first (take (length rs - 1) rs)) (sym is)

pub ended_by : (k : ℕ) (rs : List Range) (d r : Range) → 0 < length rs → r ≡ get_or rs (length rs - 1) d → has_ended k (innermost_first rs) ≡ nat_le r.last k
unfolding has_ended range_of
ended_by k rs d r h is = ap (has_ended k) (innermost_is rs d r h is)

pub ended_none : (k : ℕ) (rs : List Range) → length rs ≡ 0 → has_ended k (innermost_first rs) ≡ false
unfolding has_ended
ended_none k [] h = refl
ended_none k (r ∷ rs) h = absurd (omega arith)

pub first_by : (rs : List Range) (d r : Range) → 0 < length rs → r ≡ get_or rs (length rs - 1) d → first_of_innermost (innermost_first rs) ≡ Some r.first
unfolding first_of_innermost range_of
first_by rs d r h is = ap first_of_innermost (innermost_is rs d r h is)

pub first_none : (rs : List Range) → length rs ≡ 0 → first_of_innermost (innermost_first rs) ≡ None
unfolding first_of_innermost
first_none [] h = refl
first_none (r ∷ rs) h = absurd (omega arith)

-- ranges that have ended are forgotten one by one
without_step : (k : ℕ) (r : written.Range) (rs : List written.Range) → nat_le r.last k ≡ true → without_ended k (r ∷ rs) ≡ without_ended k rs
unfolding without_ended
without_step k r rs h = ap (λ b. if b then without_ended k rs else r ∷ rs) h

without_stop : (k : ℕ) (rs : List written.Range) → has_ended k rs ≡ false → without_ended k rs ≡ rs
unfolding without_ended has_ended
without_stop k [] h = refl
without_stop k (r ∷ rs) h = ap (λ b. if b then without_ended k rs else r ∷ rs) h

ended_some : (k : ℕ) (rs : List written.Range) (r : written.Range) (qs : List written.Range) → rs ≡ r ∷ qs → has_ended k rs ≡ true → without_ended k rs ≡ without_ended k qs
unfolding has_ended
ended_some k rs r qs is ended = ap (without_ended k) is ∙ without_step k r qs (sym (ap (has_ended k) is) ∙ ended)

pub forgets_more : (k : ℕ) (rs after : List Range) (popped : Option Range) (whole : List written.Range) → has_ended k (innermost_first rs) ≡ true → rs ≡ after ++ option_to_list popped
    → without_ended k (innermost_first rs) ≡ whole → without_ended k (innermost_first after) ≡ whole
forgets_more k rs after None whole ended put so_far = ap (λ (xs : List Range). without_ended k (innermost_first xs)) (sym (put ∙ append-nil after)) ∙ so_far
forgets_more k rs after (Some r) whole ended put so_far =
    sym (ended_some k (innermost_first rs) (range_of r) (innermost_first after) (ap (λ (xs : List Range). innermost_first xs) put ∙ pushed after r) ended) ∙ so_far

pub forgets_end : (k : ℕ) (rs : List Range) (whole : List written.Range) → has_ended k (innermost_first rs) ≡ false → without_ended k (innermost_first rs) ≡ whole → innermost_first rs ≡ whole
forgets_end k rs whole ended so_far = sym (without_stop k (innermost_first rs) ended) ∙ so_far

pub some_ended : (k : ℕ) (rs : List Range) → has_ended k (innermost_first rs) ≡ true → 0 < length rs
some_ended k [] h = absurd (let e = ended_none k [] refl in cc)
some_ended k (r ∷ rs) h = omega arith

-- NO STATEMENT IS PASSED
pub begin_ranges : (ranges : Ranges) → ((k : ℕ) → first_at ranges.firsts k ≡ None) → ranges.open_ranges.items ≡ [] → AreRanges [] 0 ranges
unfolding first_ending is_open_behind
begin_ranges ranges none empty = record {
  firsts = λ k. none k ∙ sym (ap (first_ending k) ranges_none);
  behind = λ f k h. ap (λ (rs : List Range). is_open_behind f k (innermost_first rs)) empty ∙ sym (ap (is_open_behind f k) ranges_none);
  nested = subst (λ (rs : List Range). AreNestedBefore 0 (innermost_first rs)) (sym empty) (nested_none 0);
}

-- A STATEMENT IS PASSED
firsts_more : (ends : List (Option ℕ)) (end : Option ℕ) (place k : ℕ) (old after : Option ℕ) → length ends ≡ place → old ≡ first_ending k (ranges_at 0 ends)
    → after ≡ first_of_two old (first_ending k (range_to place end)) → after ≡ first_ending k (ranges_at 0 (ends ++ end ∷ []))
firsts_more ends end place k old after same known put =
    put ∙ ap (λ n. first_of_two old (first_ending k (range_to n end))) (sym same) ∙ ap (λ o. first_of_two o (first_ending k (range_to (length ends) end))) known
    ∙ sym (ap (first_ending k) (ranges_push ends end) ∙ first_both k (ranges_at 0 ends) (range_to (length ends) end))

kept : (f k : ℕ) (rs qs more : List written.Range) → is_open_behind f k rs ≡ is_open_behind f k qs → is_open_behind f k (rs ++ more) ≡ is_open_behind f k (qs ++ more)
kept f k rs qs more is = open_both f k rs more ∙ ap (λ b. b || is_open_behind f k more) is ∙ sym (open_both f k qs more)

open_more : (ends : List (Option ℕ)) (end : Option ℕ) (place f k : ℕ) (stack between after : List written.Range) → length ends ≡ place → place ≤ k
    → is_open_behind f k stack ≡ is_open_behind f k (ranges_at 0 ends) → between ≡ range_to place end ++ stack → after ≡ without_ended place between
    → is_open_behind f k after ≡ is_open_behind f k (ranges_at 0 (ends ++ end ∷ []))
open_more ends end place f k stack between after same h known put left =
    ap (is_open_behind f k) left ∙ forgotten_not_open f place k between h ∙ ap (is_open_behind f k) (put ∙ ap (λ n. range_to n end ++ stack) (sym same))
    ∙ open_turned f k (range_to (length ends) end) stack ∙ kept f k stack (ranges_at 0 ends) (range_to (length ends) end) known ∙ sym (ap (is_open_behind f k) (ranges_push ends end))

nest_more : (ends : List (Option ℕ)) (end : Option ℕ) (place : ℕ) (stack between after : List written.Range) → length ends ≡ place → AreNestedBefore (length ends) stack
    → between ≡ range_to place end ++ stack → after ≡ without_ended place between → AreNestedBefore (length (ends ++ end ∷ [])) after
nest_more ends end place stack between after same nested put left =
    subst (λ n. AreNestedBefore n after) (sym (length_more ends end))
    (subst (AreNestedBefore (suc (length ends))) (sym left)
    (nested_kept (suc (length ends)) place between
    (subst (AreNestedBefore (suc (length ends))) (sym (put ∙ ap (λ n. range_to n end ++ stack) (sym same))) (nested_more (length ends) end stack nested))))

pub passes : (place : ℕ) (end : Option ℕ) (before after : Ranges) (between : List written.Range) (crosses : Bool)
    → ((k : ℕ) → first_at after.firsts k ≡ first_of_two (first_at before.firsts k) (first_ending k (range_to place end)))
    → between ≡ range_to place end ++ innermost_first before.open_ranges.items → innermost_first after.open_ranges.items ≡ without_ended place between
    → crosses ≡ begins_before (first_at after.firsts place) (first_of_innermost (innermost_first after.open_ranges.items)) → Passes place end before after crosses
passes place end before after between crosses noted put left is = record {
  kept = λ ends same known. record {
    firsts = λ k. firsts_more ends end place k (first_at before.firsts k) (first_at after.firsts k) same (known.firsts k) (noted k);
    behind = λ f k h. open_more ends end place f k (innermost_first before.open_ranges.items) between (innermost_first after.open_ranges.items) same (omega arith) (known.behind f k (omega arith)) put left;
    nested = nest_more ends end place (innermost_first before.open_ranges.items) between (innermost_first after.open_ranges.items) same known.nested put left;
  };
  tells = λ ends later same known.
      is
      ∙ ap (λ o. begins_before o (first_of_innermost (innermost_first after.open_ranges.items)))
      (firsts_more ends end place place (first_at before.firsts place) (first_at after.firsts place) same (known.firsts place) (noted place))
      ∙ crosses_told place (ends ++ end ∷ []) later (innermost_first after.open_ranges.items) (length_more ends end ∙ ap suc same)
      (nest_more ends end place (innermost_first before.open_ranges.items) between (innermost_first after.open_ranges.items) same known.nested put left)
      (ap (has_ended place) left ∙ forgotten_ends place between)
      (λ f. open_more ends end place f place (innermost_first before.open_ranges.items) between (innermost_first after.open_ranges.items) same (omega arith) (known.behind f place (omega arith)) put left)
      ∙ ap (λ es. crosses_at place (ranges_at 0 es) (ranges_at 0 es)) (append_assoc ends (end ∷ []) later);
}

-- THE RANGE OF A LOOP IS NOTED
pub first_noted : (old after : Option ℕ) (end : Option ℕ) (first last k : ℕ) → end ≡ Some last → after ≡ first_of_two old (if nat_eq last k then Some first else None)
    → after ≡ first_of_two old (first_ending k (range_to first end))
unfolding range_to first_ending
first_noted old after end first last k is put = put ∙ ap (λ e. first_of_two old (first_ending k (range_to first e))) (sym is)

first_none_ending : (old : Option ℕ) → first_of_two old None ≡ old
unfolding first_of_two
first_none_ending None = refl
first_none_ending (Some a) = refl

pub first_kept : (old end : Option ℕ) (first k : ℕ) → end ≡ None → old ≡ first_of_two old (first_ending k (range_to first end))
unfolding range_to first_ending
first_kept old end first k is = sym (ap (λ e. first_of_two old (first_ending k (range_to first e))) is ∙ first_none_ending old)

pub open_noted : (end : Option ℕ) (first last : ℕ) (rs after : List Range) → end ≡ Some last → after ≡ rs ++ record { first = first; last = last } ∷ []
    → innermost_first after ≡ range_to first end ++ innermost_first rs
unfolding range_to range_of
open_noted end first last rs after is put =
    ap (λ (xs : List Range). innermost_first xs) put ∙ pushed rs (record { first = first; last = last }) ∙ ap (λ e. range_to first e ++ innermost_first rs) (sym is)

pub open_kept : (end : Option ℕ) (first : ℕ) (rs : List written.Range) → end ≡ None → rs ≡ range_to first end ++ rs
unfolding range_to
open_kept end first rs is = sym (ap (λ e. range_to first e ++ rs) is)

-- THE ROWS
abbrev pub row_at : List written.Range → ℕ → Stmt → List Refusal
row_at ranges i s = stood s (unless (not (crosses_at i ranges ranges)) BadDoNest)

pub crossing_step : (ranges : List written.Range) (i : ℕ) (s : Stmt) (ss : List Stmt) → crossing_rows ranges i (s ∷ ss) ≡ row_at ranges i s ++ crossing_rows ranges (i + 1) ss
unfolding crossing_rows
crossing_step ranges i s ss = ap (λ n. row_at ranges i s ++ crossing_rows ranges n ss) (let e : suc i ≡ i + 1 = omega arith in e)

pub crossing_none : (ranges : List written.Range) (i : ℕ) → crossing_rows ranges i [] ≡ []
unfolding crossing_rows
crossing_none ranges i = refl

pub whole_ends : (ends : List (Option ℕ)) (i : ℕ) (end d : Option ℕ) → i < length ends → end ≡ get_or ends i d → take i ends ++ end ∷ drop (i + 1) ends ≡ ends
whole_ends ends i end d h is = ap (λ e. take i ends ++ e ∷ drop (i + 1) ends) is ∙ ap (λ es. take i ends ++ es) (sym (drop_more ends i d h)) ∙ take-append-drop i ends

pub row_put : (ends : List (Option ℕ)) (i : ℕ) (end d : Option ℕ) (s : Stmt) (crosses : Bool) (found after : List Refusal) → i < length ends → end ≡ get_or ends i d
    → crosses ≡ crosses_at i (ranges_at 0 (take i ends ++ end ∷ drop (i + 1) ends)) (ranges_at 0 (take i ends ++ end ∷ drop (i + 1) ends))
    → after ≡ found ++ stood s (unless (not crosses) BadDoNest) → after ≡ found ++ row_at (ranges_at 0 ends) i s
row_put ends i end d s crosses found after h is tells put =
    put ∙ ap (λ c. found ++ stood s (unless (not c) BadDoNest)) (tells ∙ ap (λ es. crosses_at i (ranges_at 0 es) (ranges_at 0 es)) (whole_ends ends i end d h is))

pub ranges_more : (ends : List (Option ℕ)) (i : ℕ) (end d : Option ℕ) (ranges : Ranges) → i < length ends → end ≡ get_or ends i d → AreRanges (take i ends ++ end ∷ []) (suc i) ranges
    → AreRanges (take (i + 1) ends) (i + 1) ranges
ranges_more ends i end d ranges h is known =
    subst (λ es. AreRanges es (i + 1) ranges) (ap (λ e. take i ends ++ e ∷ []) is ∙ sym (take_more ends i d h))
    (subst (λ n. AreRanges (take i ends ++ end ∷ []) n ranges) (let e : suc i ≡ i + 1 = omega arith in e) known)
