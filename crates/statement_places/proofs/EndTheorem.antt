-- The ranges that loops have, by where the loop of each statement ends.
use Rattle.std.proofs.Common.{◌≡◌, ℕ, zero, suc, ◌+◌, ◌<◌, Bool, true, false, ◌&&◌, List, [], ◌∷◌, ◌++◌, map, drop, length, length-drop, filter, nat_eq, nat_lt, nat_le, Option, Some, None, if◌then◌else◌, refl, sym, ap, subst, ◌∙◌, arith}
use Rattle.std.specs.Prelude.{slice_get, slice_index_or}
use Rattle.std.proofs.lemmas.Bool.Decides.{nat_tests}
use Rattle.f_tree.specs.declared.names.Options.{Options}
use Rattle.f_tree.specs.declared.statements.Body as whole
use Rattle.f_tree.specs.declared.statements.Body.{Body, IfOne', more_of-Body}
use Rattle.f_tree.specs.declared.statements.Stmt.{Stmt}
use Rattle.f_tree.specs.declared.units.Unit.{Unit as WrittenUnit}
use Rattle.f_tree.specs.Folds.{layer_of}
use Rattle.f_tree.specs.Attributes.{from_all, all_described, attribute_in, first_of_two}
use Rattle.f_tree.specs.Facts.{LoopMark, NoLoop, OpensLoop, ClosesLoop, Line, ProgramUnit}
use Rattle.f_tree.specs.Places.{has_label, label_from, place_of_label, loop_end_from, terminal_of}
use Rattle.f_tree.specs.Nests.{Range, loop_of, range_to, range_by, ranges_from, ranges_of, is_within, open_at}
use Rattle.f_tree.specs.Lines.{Naming, loop_label_in, loop_mark_of, form_of, line_of, program_of, with_ties, unit_read}
use Rattle.name_facts.specs.declaration_rows.UnitRows as written
use Rattle.lowering.specs.Units.{range_of}
use Rattle.statement_places.specs.LaidOut.{AreEnds}
use Rattle.statement_places.proofs.BodyForms.{loop_in, loop_of_form}
use Rattle.statement_places.proofs.ListLemmas.{mapped_length}

-- LINES OF OTHER NAMES
label_alike : (names others : Naming) (labels : List ℕ) (i : ℕ) (ss : List Stmt) (l : ℕ) → label_from i (map (line_of names labels) ss) l ≡ label_from i (map (line_of others labels) ss) l
unfolding label_from line_of
label_alike names others labels i [] l = refl
label_alike names others labels i (s ∷ ss) l = ap (λ o. if has_label s.label l then Some i else o) (label_alike names others labels (suc i) ss l)

by_mark : (mark : LoopMark) (i depth : ℕ) (lines others : List Line) → ((j d : ℕ) → loop_end_from j d lines ≡ loop_end_from j d others) → ◌≡◌ {A = Option ℕ}
    (elim mark [
      | NoLoop ↦ loop_end_from (suc i) depth lines
      | OpensLoop ↦ loop_end_from (suc i) (suc depth) lines
      | ClosesLoop ↦ elim depth [ zero ↦ Some i | suc d ↦ loop_end_from (suc i) d lines ]
    ])
    (elim mark [
      | NoLoop ↦ loop_end_from (suc i) depth others
      | OpensLoop ↦ loop_end_from (suc i) (suc depth) others
      | ClosesLoop ↦ elim depth [ zero ↦ Some i | suc d ↦ loop_end_from (suc i) d others ]
    ])
by_mark NoLoop i depth lines others same = same (suc i) depth
by_mark OpensLoop i depth lines others same = same (suc i) (suc depth)
by_mark ClosesLoop i zero lines others same = refl
by_mark ClosesLoop i (suc d) lines others same = same (suc i) d

end_alike : (names others : Naming) (labels : List ℕ) (i depth : ℕ) (ss : List Stmt) → loop_end_from i depth (map (line_of names labels) ss) ≡ loop_end_from i depth (map (line_of others labels) ss)
unfolding loop_end_from line_of
end_alike names others labels i depth [] = refl
end_alike names others labels i depth (s ∷ ss) =
    by_mark (loop_mark_of labels s.label s.body) i depth (map (line_of names labels) ss) (map (line_of others labels) ss) (λ j d. end_alike names others labels j d ss)

behind_alike : (names others : Naming) (labels : List ℕ) (i n : ℕ) (ss : List Stmt) → loop_end_from i 0 (drop n (map (line_of names labels) ss)) ≡ loop_end_from i 0 (drop n (map (line_of others labels) ss))
behind_alike names others labels i zero ss = end_alike names others labels i 0 ss
behind_alike names others labels i (suc n) [] = refl
behind_alike names others labels i (suc n) (s ∷ ss) = behind_alike names others labels i n ss

terminal_alike : (names others : Naming) (labels : List ℕ) (ss : List Stmt) (p q : ProgramUnit) → p.lines ≡ map (line_of names labels) ss → q.lines ≡ map (line_of others labels) ss
    → (i : ℕ) (label : Option ℕ) → terminal_of p i label ≡ terminal_of q i label
unfolding terminal_of place_of_label
terminal_alike names others labels ss p q these those i (Some label) =
    ap (λ lines. label_from 0 lines label) these ∙ label_alike names others labels 0 ss label ∙ sym (ap (λ lines. label_from 0 lines label) those)
terminal_alike names others labels ss p q these those i None =
    ap (λ (lines : List Line). loop_end_from (suc i) 0 (drop (suc i) lines)) these ∙ behind_alike names others labels (suc i) (suc i) ss
    ∙ sym (ap (λ (lines : List Line). loop_end_from (suc i) 0 (drop (suc i) lines)) those)

lines_read : (options : Options) (u : WrittenUnit) → (unit_read options u).lines ≡ map (line_of (attribute_in (all_described u)) (from_all loop_label_in u.statements)) u.statements
unfolding unit_read with_ties program_of
lines_read options u = refl

-- WHERE LOOPS END
-- the end of the loop that a statement begins
end_of : ProgramUnit → ℕ → Option (Option ℕ) → Option ℕ
end_of p i None = None
end_of p i (Some label) = terminal_of p i label

range_written : (p : ProgramUnit) (i : ℕ) (b : Body) → written.range_in p i b ≡ written.range_to i (end_of p i (loop_in b))
unfolding written.range_in written.range_to end_of layer_of
range_written p i (whole.Do label control) = refl
range_written p i (whole.DoWhile label e) = refl
range_written p i (IfOne' e s (more_of-Body b r)) = refl
range_written p i _ = refl

last_of : List written.Range → Option ℕ
last_of [] = None
last_of (r ∷ rs) = Some r.last

last_to : (i : ℕ) (o : Option ℕ) → last_of (written.range_to i o) ≡ o
unfolding last_of written.range_to
last_to i None = refl
last_to i (Some k) = refl

same_end : (i : ℕ) (a b : Option ℕ) → written.range_to i a ≡ written.range_to i b → a ≡ b
same_end i a b is = sym (last_to i a) ∙ ap last_of is ∙ last_to i b

range_meant : (p : ProgramUnit) (i : ℕ) (loop : Option (Option ℕ)) → range_by p i loop ≡ range_to i (end_of p i loop)
unfolding range_by range_to end_of
range_meant p i None = refl
range_meant p i (Some label) = refl

end_alike_of : (names others : Naming) (labels : List ℕ) (ss : List Stmt) (p q : ProgramUnit) → p.lines ≡ map (line_of names labels) ss → q.lines ≡ map (line_of others labels) ss
    → (i : ℕ) (loop : Option (Option ℕ)) → end_of p i loop ≡ end_of q i loop
unfolding end_of
end_alike_of names others labels ss p q these those i None = refl
end_alike_of names others labels ss p q these those i (Some label) = terminal_alike names others labels ss p q these those i label

read_at : (xs : List Stmt) (i : ℕ) (s : Stmt) → slice_get xs i ≡ Some s → (i < length xs) × (slice_index_or xs i s ≡ s)
read_at [] i s is = absurd (cc)
read_at (x ∷ xs) zero s is = ((let e : 0 < suc (length xs) = omega arith in e), cc)
read_at (x ∷ xs) (suc i) s is = let more = read_at xs i s is in ((let m = more.0 in let e : suc i < suc (length xs) = omega (arith, m) in e), more.1)

-- TERMINAL STATEMENTS stand among the others
label_within_by : (b : Bool) (lines : List Line) (i l k : ℕ) → (label_from (suc i) lines l ≡ Some k → k < suc i + length lines) → (if b then Some i else label_from (suc i) lines l) ≡ Some k
    → k < i + suc (length lines)
label_within_by true lines i l k later is = let e : i ≡ k = cc in omega (arith, e)
label_within_by false lines i l k later is = let h = later is in omega (arith, h)

label_within : (lines : List Line) (i l k : ℕ) → label_from i lines l ≡ Some k → k < i + length lines
unfolding label_from
label_within [] i l k is = absurd (cc)
label_within (line ∷ lines) i l k is = label_within_by (has_label line.label l) lines i l k (label_within lines (suc i) l k) is

behind_within_by : (mark : LoopMark) (lines : List Line) (i depth k : ℕ) → ((d : ℕ) → loop_end_from (suc i) d lines ≡ Some k → k < suc i + length lines) →
    elim mark [
      | NoLoop ↦ loop_end_from (suc i) depth lines
      | OpensLoop ↦ loop_end_from (suc i) (suc depth) lines
      | ClosesLoop ↦ elim depth [ zero ↦ Some i | suc d ↦ loop_end_from (suc i) d lines ]
    ] ≡ Some k → k < i + suc (length lines)
behind_within_by NoLoop lines i depth k later is = let h = later depth is in omega (arith, h)
behind_within_by OpensLoop lines i depth k later is = let h = later (suc depth) is in omega (arith, h)
behind_within_by ClosesLoop lines i zero k later is = let e : i ≡ k = cc in omega (arith, e)
behind_within_by ClosesLoop lines i (suc d) k later is = let h = later d is in omega (arith, h)

behind_within : (lines : List Line) (i depth k : ℕ) → loop_end_from i depth lines ≡ Some k → k < i + length lines
unfolding loop_end_from
behind_within [] i depth k is = absurd (cc)
behind_within (line ∷ lines) i depth k is = behind_within_by line.loop lines i depth k (λ d. behind_within lines (suc i) d k) is

end_of_within : (p : ProgramUnit) (i : ℕ) (loop : Option (Option ℕ)) (k : ℕ) → i < length p.lines → end_of p i loop ≡ Some k → k < length p.lines
unfolding end_of terminal_of place_of_label
end_of_within p i None k h is = absurd (cc)
end_of_within p i (Some (Some label)) k h is = let e = label_within p.lines 0 label k is in omega (arith, e)
end_of_within p i (Some None) k h is =
    let e = behind_within (drop (suc i) p.lines) (suc i) 0 k is in
    let len = length-drop (suc i) p.lines in
    omega (arith, e, len, h)

no_options : Options
no_options = record { undeclared = false; onetrip = false; long_cards = false; checks = false }

module _ (names : Naming) (u : WrittenUnit) (p : ProgramUnit) (lines : p.lines ≡ map (line_of names (from_all loop_label_in u.statements)) u.statements)
    (ends : List (Option ℕ)) (are : AreEnds u ends) where
  end_found : (i : ℕ) (s : Stmt) → slice_get u.statements i ≡ Some s → slice_index_or ends i None ≡ end_of p i (loop_in s.body)
  end_found i s at =
      let here = read_at u.statements i s at in
      same_end i (slice_index_or ends i None) (end_of p i (loop_in s.body))
      (are.ranges no_options i s here.0 ∙ ap (λ (x : Stmt). written.range_in (unit_read no_options u) i x.body) here.1 ∙ range_written (unit_read no_options u) i s.body
      ∙ ap (written.range_to i)
      (sym (end_alike_of names (attribute_in (all_described u)) (from_all loop_label_in u.statements) u.statements p (unit_read no_options u) lines (lines_read no_options u) i (loop_in s.body))))

  pub range_found : (i : ℕ) (s : Stmt) → slice_get u.statements i ≡ Some s → range_by p i (loop_of (form_of names s.body)) ≡ range_to i (slice_index_or ends i None)
  range_found i s at =
      ap (range_by p i) (loop_of_form names s.body) ∙ range_meant p i (loop_in s.body) ∙ ap (range_to i) (sym (end_found i s at))

  -- a terminal statement is among the statements
  pub end_within : (i last : ℕ) (s : Stmt) → slice_get u.statements i ≡ Some s → slice_index_or ends i None ≡ Some last → last < length p.lines
  end_within i last s at is =
      let h = (read_at u.statements i s at).0 in
      let e = ap length lines ∙ mapped_length (line_of names (from_all loop_label_in u.statements)) u.statements in
      end_of_within p i (loop_in s.body) last (omega (arith, h, e)) (sym (end_found i s at) ∙ is)

-- THE RANGE THAT BEGINS AT A STATEMENT
if_first : (b : Bool) (r : Range) (both one other : Option Range) → both ≡ first_of_two one other → (if b then Some r else both) ≡ first_of_two (if b then Some r else one) other
unfolding first_of_two
if_first true r both one other is = refl
if_first false r both one other is = is

range_of_both : (xs ys : List Range) (i : ℕ) → range_of (xs ++ ys) i ≡ first_of_two (range_of xs i) (range_of ys i)
unfolding range_of first_of_two
range_of_both [] ys i = refl
range_of_both (r ∷ xs) ys i = if_first (nat_eq r.first i) r (range_of (xs ++ ys) i) (range_of xs i) (range_of ys i) (range_of_both xs ys i)

filter_by : (b : Bool) (r : Range) (xs ys zs : List Range) → zs ≡ xs ++ ys → (if b then r ∷ zs else zs) ≡ (if b then r ∷ xs else xs) ++ ys
filter_by true r xs ys zs is = ap (λ rs. r ∷ rs) is
filter_by false r xs ys zs is = is

filter_both : (f : Range → Bool) (xs ys : List Range) → filter f (xs ++ ys) ≡ filter f xs ++ filter f ys
filter_both f [] ys = refl
filter_both f (r ∷ xs) ys = filter_by (f r) r (filter f xs) (filter f ys) (filter f (xs ++ ys)) (filter_both f xs ys)

-- the ranges of one statement
none_range : (i : ℕ) → range_of [] i ≡ None
unfolding range_of
none_range i = refl

others_by : (b : Bool) (r : Range) (i : ℕ) → nat_eq r.first i ≡ false → range_of (if b then r ∷ [] else []) i ≡ None
unfolding range_of
others_by true r i apart = ap (λ c. if c then Some r else None) apart
others_by false r i apart = refl

others_of : (f : Range → Bool) (j i : ℕ) (end : Option ℕ) → nat_eq j i ≡ false → range_of (filter f (range_to j end)) i ≡ None
unfolding range_to
others_of f j i None apart = none_range i
others_of f j i (Some last) apart = others_by (f (record { first = j; last = last })) (record { first = j; last = last }) i apart

apart_by : (j i : ℕ) → (j ≡ i → ⊥) → nat_eq j i ≡ false
apart_by j i apart = grind (arith, nat_tests)

others_at : (f : Range → Bool) (p : ProgramUnit) (j i : ℕ) (loop : Option (Option ℕ)) → (j ≡ i → ⊥) → range_of (filter f (range_by p j loop)) i ≡ None
others_at f p j i loop apart = ap (λ rs. range_of (filter f rs) i) (range_meant p j loop) ∙ others_of f j i (end_of p j loop) (apart_by j i apart)

both_none : {o q : Option Range} → o ≡ None → q ≡ None → first_of_two o q ≡ None
unfolding first_of_two
both_none {o} {q} first second = ap (λ x. first_of_two x q) first ∙ second

behind_none : (f : Range → Bool) (p : ProgramUnit) (j i : ℕ) (lines : List Line) → i < j → range_of (filter f (ranges_from p j lines)) i ≡ None
unfolding ranges_from
behind_none f p j i [] h = none_range i
behind_none f p j i (line ∷ lines) h =
    ap (λ rs. range_of rs i) (filter_both f (ranges_from p (suc j) lines) (range_by p j (loop_of line.form)))
    ∙ range_of_both (filter f (ranges_from p (suc j) lines)) (filter f (range_by p j (loop_of line.form))) i
    ∙ both_none (behind_none f p (suc j) i lines (omega (arith, h))) (others_at f p j i (loop_of line.form) (λ same. omega (arith, h, same)))

first_none : (o q : Option Range) → o ≡ None → first_of_two o q ≡ q
unfolding first_of_two
first_none o q first = ap (λ x. first_of_two x q) first

last_none : (o q : Option Range) → q ≡ None → first_of_two o q ≡ o
unfolding first_of_two
last_none None q none = none
last_none (Some r) q none = refl

-- of all, the range that begins at a statement is that of its loop
one_range : (f : Range → Bool) (p : ProgramUnit) (j k : ℕ) (lines : List Line) (line : Line) → slice_get lines k ≡ Some line
    → range_of (filter f (ranges_from p j lines)) (j + k) ≡ range_of (filter f (range_by p (j + k) (loop_of line.form))) (j + k)
unfolding ranges_from
one_range f p j k [] line at = absurd (cc)
one_range f p j zero (x ∷ lines) line at =
    let here : j ≡ j + 0 = omega arith in
    ap (λ rs. range_of rs (j + 0)) (filter_both f (ranges_from p (suc j) lines) (range_by p j (loop_of x.form)))
    ∙ range_of_both (filter f (ranges_from p (suc j) lines)) (filter f (range_by p j (loop_of x.form))) (j + 0)
    ∙ first_none (range_of (filter f (ranges_from p (suc j) lines)) (j + 0)) (range_of (filter f (range_by p j (loop_of x.form))) (j + 0)) (behind_none f p (suc j) (j + 0) lines (omega arith))
    ∙ ap (λ n. range_of (filter f (range_by p n (loop_of x.form))) (j + 0)) here
    ∙ ap (λ (y : Line). range_of (filter f (range_by p (j + 0) (loop_of y.form))) (j + 0)) (let e : x ≡ line = cc in e)
one_range f p j (suc k) (x ∷ lines) line at =
    let here : suc j + k ≡ j + suc k = omega arith in
    ap (λ rs. range_of rs (j + suc k)) (filter_both f (ranges_from p (suc j) lines) (range_by p j (loop_of x.form)))
    ∙ range_of_both (filter f (ranges_from p (suc j) lines)) (filter f (range_by p j (loop_of x.form))) (j + suc k)
    ∙ last_none (range_of (filter f (ranges_from p (suc j) lines)) (j + suc k)) (range_of (filter f (range_by p j (loop_of x.form))) (j + suc k))
    (others_at f p j (j + suc k) (loop_of x.form) (λ same. omega (arith, same)))
    ∙ subst (λ n. range_of (filter f (ranges_from p (suc j) lines)) n ≡ range_of (filter f (range_by p n (loop_of line.form))) n) here (one_range f p (suc j) k lines line at)

-- the range of a loop whose terminal statement stands behind it
unfoldable pub range_behind : ℕ → Option ℕ → Option Range
range_behind i None = None
range_behind i (Some last) = if nat_lt i last then Some (record { first = i; last = last }) else None

same_by : (b : Bool) (r : Range) (i : ℕ) → nat_eq r.first i ≡ true → range_of (if b then r ∷ [] else []) i ≡ (if b then Some r else None)
unfolding range_of
same_by true r i same = ap (λ c. if c then Some r else None) same
same_by false r i same = refl

open_by : (i last : ℕ) → (nat_lt i (suc i) && nat_le (suc i) last) ≡ nat_lt i last
open_by i last = grind (arith, nat_tests)

itself : (i : ℕ) → nat_eq i i ≡ true
itself i = grind (arith, nat_tests)

own_range : (i : ℕ) (end : Option ℕ) → range_of (filter (is_within (suc i)) (range_to i end)) i ≡ range_behind i end
unfolding range_to range_behind is_within
own_range i None = none_range i
own_range i (Some last) =
    same_by (nat_lt i (suc i) && nat_le (suc i) last) (record { first = i; last = last }) i (itself i)
    ∙ ap (λ b. if b then Some (record { first = i; last = last }) else None) (open_by i last)

pub range_at : (p : ProgramUnit) (i : ℕ) (line : Line) (end : Option ℕ) → slice_get p.lines i ≡ Some line → range_by p i (loop_of line.form) ≡ range_to i end
    → range_of (open_at p (suc i)) i ≡ range_behind i end
unfolding open_at ranges_of
range_at p i line end at is =
    subst (λ n. range_of (filter (is_within (suc i)) (ranges_from p 0 p.lines)) n ≡ range_of (filter (is_within (suc i)) (range_by p n (loop_of line.form))) n) (let e : 0 + i ≡ i = omega arith in e)
    (one_range (is_within (suc i)) p 0 i p.lines line at)
    ∙ ap (λ rs. range_of (filter (is_within (suc i)) rs) i) is ∙ own_range i end
