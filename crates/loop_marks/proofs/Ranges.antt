-- The range of a DO loop, and the steps that turn it.
use Rattle.std.specs.Prelude.{◌≡◌, ℕ, zero, suc, ◌+◌, ◌≤◌, ◌<◌, nat_eq, nat_lt, nat_le, Bool, true, false, not, cond, List, [], ◌∷◌, ◌++◌, length, drop, filter, Option, Some, None, slice_get, if◌then◌else◌}
use Rattle.std.proofs.Common.{refl, sym, ap, ◌∙◌, subst, arith}
use Rattle.std.proofs.lemmas.Bool.{and_from, and_parts, eqb-true, eq-eqb, ltb-true, lt-ltb, le-ltb, le-leb, leb-true}
use Rattle.std.proofs.lemmas.List.{length-drop}
use Rattle.lowering.specs.l_core.f_tree.Facts.{ToLoop, Form, On, NoLoop, OpensLoop, ClosesLoop, LoopMark, Line, ProgramUnit}
use Rattle.lowering.specs.l_core.f_tree.Nests.{Range, loop_of, range_to, range_by, ranges_from, ranges_of, is_within, open_at, goes_past, is_no_loop, loop_at, ends_at, ends_by, each_ends}
use Rattle.lowering.specs.l_core.f_tree.Places.{has_label, label_from, place_of_label, loop_end_from, terminal_of}
use Rattle.lowering.specs.l_core.f_tree.Setting.{IsIn, first_in, later_in}
use Rattle.lowering.specs.Units.{is_counted, turn_size, ended_at, turns_up_to, range_of}

-- ## Lists

pub in_front : {A : Type 0} → (xs ys : List A) (x : A) → IsIn x xs → IsIn x (xs ++ ys)
in_front [] ys x among = elim among [ ]
in_front (_ ∷ xs) ys x first_in = first_in
in_front (y ∷ xs) ys x (later_in among) = later_in (in_front xs ys x among)

pub in_back : {A : Type 0} → (xs ys : List A) (x : A) → IsIn x ys → IsIn x (xs ++ ys)
in_back [] ys x among = among
in_back (y ∷ xs) ys x among = later_in (in_back xs ys x among)

in_filter : (f : Range → Bool) (xs : List Range) (x : Range) → IsIn x xs → f x ≡ true → IsIn x (filter f xs)
in_filter f [] x among is = elim among [ ]
in_filter f (_ ∷ xs) x first_in is = subst (λ b. IsIn x (cond b (x ∷ filter f xs) (filter f xs))) (sym is) first_in
in_filter f (y ∷ xs) x (later_in among) is = by (f y) (in_filter f xs x among is)
  where
    by : (b : Bool) → IsIn x (filter f xs) → IsIn x (cond b (y ∷ filter f xs) (filter f xs))
    by true more = later_in more
    by false more = more

filter_by : (f : Range → Bool) (xs zs : List Range) (y x : Range) (b : Bool) → f y ≡ b → IsIn x (cond b (y ∷ zs) zs) → (IsIn x zs → IsIn x xs × (f x ≡ true)) → IsIn x (y ∷ xs) × (f x ≡ true)
filter_by f xs zs y _ true is first_in more = (first_in, is)
filter_by f xs zs y x true is (later_in among) more = let m = more among in (later_in m.0, m.1)
filter_by f xs zs y x false is among more = let m = more among in (later_in m.0, m.1)

from_filter : (f : Range → Bool) (xs : List Range) (x : Range) → IsIn x (filter f xs) → IsIn x xs × (f x ≡ true)
from_filter f [] x among = elim among [ ]
from_filter f (y ∷ xs) x among = filter_by f xs (filter f xs) y x (f y) refl among (from_filter f xs x)

get_some : {A : Type 0} → (xs : List A) (k : ℕ) → k < length xs → (x : A) × (slice_get xs k ≡ Some x)
get_some [] k less = absurd (omega arith)
get_some (x ∷ xs) zero less = (x, refl)
get_some (x ∷ xs) (suc k) less = get_some xs k (omega arith)

pub get_below : {A : Type 0} → (xs : List A) (k : ℕ) (x : A) → slice_get xs k ≡ Some x → k < length xs
get_below [] k x is = absurd (cc)
get_below (y ∷ xs) zero x is = omega arith
get_below (y ∷ xs) (suc k) x is = let more = get_below xs k x is in omega (arith, more)

-- ## Terminal statements

label_below : (i : ℕ) (lines : List Line) (l k : ℕ) → label_from i lines l ≡ Some k → k < i + length lines
unfolding label_from
label_below i [] l k is = absurd (cc)
label_below i (line ∷ lines) l k is = by (has_label line.label l) (label_below (suc i) lines l k) is
  where
    by : (b : Bool) → (label_from (suc i) lines l ≡ Some k → k < suc i + length lines) → (if b then Some i else label_from (suc i) lines l) ≡ Some k → k < i + suc (length lines)
    by true each h = let same : i ≡ k = cc in omega (arith, same)
    by false each h = let more = each h in omega (arith, more)

end_below_by : (i depth : ℕ) (mark : LoopMark) (lines : List Line) (k : ℕ) → ((d : ℕ) → loop_end_from (suc i) d lines ≡ Some k → k < suc i + length lines)
    → elim mark [ NoLoop ↦ loop_end_from (suc i) depth lines | OpensLoop ↦ loop_end_from (suc i) (suc depth) lines | ClosesLoop ↦ elim depth [ zero ↦ Some i | suc d ↦ loop_end_from (suc i) d lines ] ] ≡ Some k → k < i + suc (length lines)
end_below_by i depth NoLoop lines k each h = let more = each depth h in omega (arith, more)
end_below_by i depth OpensLoop lines k each h = let more = each (suc depth) h in omega (arith, more)
end_below_by i zero ClosesLoop lines k each h = let same : i ≡ k = cc in omega (arith, same)
end_below_by i (suc depth) ClosesLoop lines k each h = let more = each depth h in omega (arith, more)

end_below : (i depth : ℕ) (lines : List Line) (k : ℕ) → loop_end_from i depth lines ≡ Some k → k < i + length lines
unfolding loop_end_from
end_below i depth [] k is = absurd (cc)
end_below i depth (line ∷ lines) k is = end_below_by i depth line.loop lines k (λ d h. end_below (suc i) d lines k h) is

terminal_below : (p : ProgramUnit) (i : ℕ) (label : Option ℕ) (last : ℕ) → i < length p.lines → terminal_of p i label ≡ Some last → last < length p.lines
unfolding terminal_of place_of_label
terminal_below p i (Some label) last inside is = let low = label_below 0 p.lines label last is in omega (arith, low)
terminal_below p i None last inside is =
    let low = end_below (suc i) 0 (drop (suc i) p.lines) last is in
    let left = length-drop (suc i) p.lines in
    omega (arith, low, left)

-- ## The range of a DO

do_loops : (form : Form) (label : Option ℕ) (operands : _) → form ≡ On (ToLoop label) operands → loop_of form ≡ Some label
unfolding loop_of
do_loops form label operands is = ap loop_of is

ends_among : (p : ProgramUnit) (i n j : ℕ) (lines : List Line) (line : Line) → j ≡ i + n → each_ends p i lines ≡ true → slice_get lines n ≡ Some line → ends_by p j (loop_of line.form) ≡ true
unfolding each_ends
ends_among p i n j [] line from ends is = absurd (cc)
ends_among p i zero j (x ∷ lines) line from ends is =
    let same : x ≡ line = cc in
    let place : i ≡ j = omega arith in
    sym (λ k. ends_by p (place k) (loop_of (same k).form)) ∙ (and_parts (ends_by p i (loop_of x.form)) (each_ends p (suc i) lines) ends).0
ends_among p i (suc n) j (x ∷ lines) line from ends is = ends_among p (suc i) n j lines line (omega arith) (and_parts (ends_by p i (loop_of x.form)) (each_ends p (suc i) lines) ends).1 is

range_among : (p : ProgramUnit) (i n j : ℕ) (lines : List Line) (line : Line) (r : Range) → j ≡ i + n → slice_get lines n ≡ Some line → range_by p j (loop_of line.form) ≡ r ∷ [] → IsIn r (ranges_from p i lines)
unfolding ranges_from
range_among p i n j [] line r from is one = absurd (cc)
range_among p i zero j (x ∷ lines) line r from is one =
    let same : x ≡ line = cc in
    let place : i ≡ j = omega arith in
    in_back (ranges_from p (suc i) lines) (range_by p i (loop_of x.form)) r (subst (IsIn r) (sym ((λ k. range_by p (place k) (loop_of (same k).form)) ∙ one)) first_in)
range_among p i (suc n) j (x ∷ lines) line r from is one = in_front (ranges_from p (suc i) lines) (range_by p i (loop_of x.form)) r (range_among p (suc i) n j lines line r (omega arith) is one)

-- a terminal statement, behind its DO
pub record IsTerminal (p : ProgramUnit) (i : ℕ) (found : Option ℕ) : Type 0 where
  pub last : ℕ
  pub is : found ≡ Some last
  pub less : i < last

terminal_by : (p : ProgramUnit) (i : ℕ) (found : Option ℕ) → ends_at p i found ≡ true → IsTerminal p i found
unfolding ends_at
terminal_by p i None h = absurd (cc)
terminal_by p i (Some last) h = record { last = last; is = refl; less = ltb-true i last (and_parts (nat_lt i last) (is_no_loop (loop_at (slice_get p.lines last))) h).0 }

open_among : (p : ProgramUnit) (i : ℕ) (r : Range) → IsIn r (ranges_of p) → r.first < i → i ≤ r.last → IsIn r (open_at p i)
unfolding open_at is_within
open_among p i r among low high = in_filter (is_within i) (ranges_of p) r among (and_from (nat_lt r.first i) (nat_le i r.last) (lt-ltb r.first i low) (le-leb i r.last high))

stays_by : (b : Bool) → b ≡ false → not b ≡ true
stays_by b is = ap not is

ended_among : (p : ProgramUnit) (r : Range) → IsIn r (ranges_of p) → r.first < r.last → IsIn r (ended_at p r.last)
unfolding ended_at goes_past
ended_among p r among less =
    in_filter (λ q. not (goes_past r.last q)) (open_at p r.last) r (open_among p r.last r among less (omega arith)) (stays_by (nat_lt r.last r.last) (le-ltb r.last r.last (omega arith)))

-- what is open at a statement
pub record IsOpen (p : ProgramUnit) (i : ℕ) (r : Range) : Type 0 where
  pub among : IsIn r (ranges_of p)
  pub low : r.first < i
  pub high : i ≤ r.last

open_is : (p : ProgramUnit) (i : ℕ) (r : Range) → IsIn r (open_at p i) → IsOpen p i r
unfolding open_at is_within
open_is p i r among =
    let parts = from_filter (is_within i) (ranges_of p) r among in
    let within = and_parts (nat_lt r.first i) (nat_le i r.last) parts.1 in
    record { among = parts.0; low = ltb-true r.first i within.0; high = leb-true i r.last within.1 }

record IsFound (rs : List Range) (i : ℕ) : Type 0 where
  range : Range
  is : range_of rs i ≡ Some range
  among : IsIn range rs
  first : range.first ≡ i

found_by : (x r : Range) (rs : List Range) (i : ℕ) (b : Bool) → nat_eq x.first i ≡ b → IsIn r (x ∷ rs) → r.first ≡ i → (IsIn r rs → IsFound rs i) → IsFound (x ∷ rs) i
unfolding range_of
found_by x r rs i true is among first more = record { range = x; is = ap (λ c. if c then Some x else range_of rs i) is; among = first_in; first = eqb-true x.first i is }
found_by x _ rs i false is first_in first more = absurd (let clash : true ≡ false = sym (eq-eqb x.first i first) ∙ is in cc)
found_by x r rs i false is (later_in among) first more =
    let m = more among in record { range = m.range; is = ap (λ c. if c then Some x else range_of rs i) is ∙ m.is; among = later_in m.among; first = m.first }

range_found : (rs : List Range) (i : ℕ) (r : Range) → IsIn r rs → r.first ≡ i → IsFound rs i
range_found [] i r among first = elim among [ ]
range_found (x ∷ rs) i r among first = found_by x r rs i (nat_eq x.first i) refl among first (λ later. range_found rs i r later first)

-- the range of the DO statement at a place
pub record HasRange (p : ProgramUnit) (i : ℕ) : Type 0 where
  pub range : Range
  pub is : range_of (open_at p (suc i)) i ≡ Some range
  pub first : range.first ≡ i
  pub less : i < range.last
  pub ended : IsIn range (ended_at p range.last)

-- and the one that its own terminal statement ends
pub record EndsIn (p : ProgramUnit) (i : ℕ) : Type 0 where
  pub range : Range
  pub first : range.first ≡ i
  pub among : IsIn range (ranges_of p)
  pub less : i < range.last
  pub line : Line
  pub there : slice_get p.lines range.last ≡ Some line

pub ends_in : (p : ProgramUnit) (i : ℕ) (line : Line) (label : Option ℕ) (operands : _) → each_ends p 0 p.lines ≡ true → slice_get p.lines i ≡ Some line → line.form ≡ On (ToLoop label) operands → EndsIn p i
unfolding ends_by range_by range_to ranges_of
ends_in p i line label operands ends is form =
    let loops = do_loops line.form label operands form in
    let one : ends_at p i (terminal_of p i label) ≡ true = sym (ap (ends_by p i) loops) ∙ ends_among p 0 i i p.lines line (omega arith) ends is in
    let t = terminal_by p i (terminal_of p i label) one in
    let range : Range = record { first = i; last = t.last } in
    let alone : range_by p i (loop_of line.form) ≡ range ∷ [] = ap (range_by p i) loops ∙ ap (range_to i) t.is in
    let inside = get_below p.lines i line is in
    let found = get_some p.lines t.last (terminal_below p i label t.last inside t.is) in
    record { range = range; first = refl; among = range_among p 0 i i p.lines line range (omega arith) is alone; less = t.less; line = found.0; there = found.1 }

pub has_range : (p : ProgramUnit) (i : ℕ) → EndsIn p i → HasRange p i
has_range p i e =
    let first = e.first in
    let less = e.less in
    let open' = open_among p (suc i) e.range e.among (omega (arith, first)) (omega (arith, less)) in
    let found = range_found (open_at p (suc i)) i e.range open' first in
    let opens = open_is p (suc i) found.range found.among in
    let same = found.first in
    let high = opens.high in
    record { range = found.range; is = found.is; first = same; less = omega (arith, high); ended = ended_among p found.range opens.among (omega (arith, same, high)) }

pub ends_among_ended : (p : ProgramUnit) (i : ℕ) (e : EndsIn p i) → IsIn e.range (ended_at p e.range.last)
ends_among_ended p i e = let first = e.first in let less = e.less in ended_among p e.range e.among (omega (arith, first, less))

-- ## The steps behind a loop

two_by : (p : ProgramUnit) (first : ℕ) (x r : Range) (rs : List Range) (b : Bool) → nat_eq x.first first ≡ b → IsIn r (x ∷ rs) → r.first ≡ first → is_counted (slice_get p.lines first) ≡ true → (IsIn r rs → 2 ≤ turns_up_to p first rs)
    → 2 ≤ turns_up_to p first (x ∷ rs)
unfolding turns_up_to turn_size
two_by p first x r rs true is among at counted more =
    let same : x.first ≡ first = eqb-true x.first first is in
    let two : turn_size p x ≡ 2 = ap (λ c. if c then 2 else 1) (ap (λ k. is_counted (slice_get p.lines k)) same ∙ counted) in
    let e : turns_up_to p first (x ∷ rs) ≡ 2 = ap (λ c. if c then turn_size p x else turn_size p x + turns_up_to p first rs) is ∙ two in
    omega (arith, e)
two_by p first x _ rs false is first_in at counted more = absurd (let clash : true ≡ false = sym (eq-eqb x.first first at) ∙ is in cc)
two_by p first x r rs false is (later_in among) at counted more =
    let m = more among in
    let e : turns_up_to p first (x ∷ rs) ≡ turn_size p x + turns_up_to p first rs = ap (λ c. if c then turn_size p x else turn_size p x + turns_up_to p first rs) is in
    omega (arith, e, m)

pub turns_two : (p : ProgramUnit) (first : ℕ) (r : Range) (rs : List Range) → IsIn r rs → r.first ≡ first → is_counted (slice_get p.lines first) ≡ true → 2 ≤ turns_up_to p first rs
turns_two p first r [] among at counted = elim among [ ]
turns_two p first r (x ∷ rs) among at counted = two_by p first x r rs (nat_eq x.first first) refl among at counted (λ later. turns_two p first r rs later at counted)
