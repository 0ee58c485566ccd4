-- Where the loops of a lowered unit begin, and which marks say so.
use Rattle.std.specs.List.{list_any}
use Rattle.std.specs.Prelude.{◌≡◌, ℕ, zero, suc, ◌+◌, ◌-◌, ◌≤◌, ◌<◌, nat_eq, Bool, true, false, not, ◌&&◌, ◌||◌, List, [], ◌∷◌, ◌++◌, length, drop, Option, Some, None, slice_get, is_some, option_map, if◌then◌else◌}
use Rattle.std.proofs.Common.{refl, sym, ap, ◌∙◌, subst, arith}
use Rattle.std.proofs.lemmas.Bool.{and_parts, eqb-true, eq-eqb, eqb-false}
use Rattle.lowering.specs.l_core.f_tree.Facts as head
use Rattle.lowering.specs.l_core.f_tree.Facts.{Form, Passes, On, Mark, Plain, Opens, Arm, Closes, Line, ProgramUnit, Facts}
use Rattle.lowering.specs.l_core.f_tree.Nests.{Range, each_ends}
use Rattle.lowering.specs.l_core.f_tree.Places.{place_of_label}
use Rattle.lowering.specs.l_core.Pures.{Pure}
use Rattle.lowering.specs.l_core.Steps as step
use Rattle.lowering.specs.l_core.Steps.{Step, AgainIf, OpensLoop, OpensLoopOnce, ClosesLoop, OpensWhile, ClosesWhile, Card, Marked, Text}
use Rattle.lowering.specs.Units.{is_counted, turn_size, ended_at, form_size, start_of, own_start, own_end, lines_code, marked, card_mark, arm_marks, loop_marks, turn_marks, line_marks, lines_marks}
use Rattle.main_translation.specs.Outlined.{opens_while, whiles_in, is_opening, opens_loop, turn_of, is_opening_once, opens_once, goes_back_by, turn_behind, loop_at}
use Rattle.c_loops.specs.KeptLayouts.{one_if, loops_from}
use Rattle.loop_marks.specs.DoStatements.{dos_of, whiles_of, dos_among, whiles_among}
use Rattle.loop_marks.specs.MarkedLoops.{is_plain_mark, plain_if, dos_are_plain, SetsAndTests, SetsAndTestsBehind, LoopsAreMarked}
use Rattle.loop_marks.proofs.Codes.{tests_back, IsDo, do_found, ends_before, ends_low}
use Rattle.loop_marks.proofs.Ranges.{get_below}
use Rattle.loop_marks.proofs.Backs.{IsBehind, own_apart, back_behind, unlabelled}
use Rattle.loop_marks.proofs.Loops.{set_before, IsTested, HasLoop, has_loop}

-- ## Counting

-- ascending numbers, from one on and below another
pub data Ascends : ℕ → List ℕ → ℕ → Type 0 where
  no_more : (a b : ℕ) → Ascends a [] b
  one_more : (a b n : ℕ) (ns : List ℕ) → a ≤ n → n < b → Ascends (suc n) ns b → Ascends a (n ∷ ns) b

from_lower : (a c b : ℕ) (ns : List ℕ) → c ≤ a → Ascends a ns b → Ascends c ns b
from_lower a c b [] le up = no_more c b
from_lower a c b (n ∷ ns) le (one_more _ _ _ _ low high later) = one_more c b n ns (omega arith) high later

same_tests : (a b c d : ℕ) → (a ≡ b → c ≡ d) → (c ≡ d → a ≡ b) → nat_eq a b ≡ nat_eq c d
same_tests a b c d to from = by (nat_eq a b) (nat_eq c d) refl refl
  where
    by : (s t : Bool) → nat_eq a b ≡ s → nat_eq c d ≡ t → nat_eq a b ≡ nat_eq c d
    by true t one two = one ∙ sym (eq-eqb c d (to (eqb-true a b one)))
    by false true one two = absurd (let clash : true ≡ false = sym (eq-eqb a b (from (eqb-true c d two))) ∙ one in cc)
    by false false one two = one ∙ sym two

apart : (a b : ℕ) → (a ≡ b → ⊥) → nat_eq a b ≡ false
apart a b other = by (nat_eq a b) refl
  where
    by : (t : Bool) → nat_eq a b ≡ t → nat_eq a b ≡ false
    by true is = absurd (other (eqb-true a b is))
    by false is = is

none_below : (a n b : ℕ) (ns : List ℕ) → Ascends a ns b → n < a → list_any (nat_eq n) ns ≡ false
none_below a n b [] up less = refl
none_below a n b (m ∷ ns) (one_more _ _ _ _ low high later) less =
    let more = none_below (suc m) n b ns later (omega arith) in
    ap (λ t. t || list_any (nat_eq n) ns) (apart n m (λ same. absurd (omega arith))) ∙ more

one_if_some : (x : Option ℕ) (t : Bool) → is_some x ≡ t → one_if x ≡ (if t then 1 else 0)
unfolding one_if
one_if_some None true h = absurd (cc)
one_if_some None false h = refl
one_if_some (Some n) true h = refl
one_if_some (Some n) false h = absurd (cc)

-- a function that has a value at each of ascending numbers, and at no other, has so many
pub counted_by : (f : ℕ → Option ℕ) (a size b : ℕ) (ns : List ℕ) → Ascends a ns b → b ≡ a + size → ((n : ℕ) → a ≤ n → is_some (f n) ≡ list_any (nat_eq n) ns) → loops_from f a size ≡ length ns
unfolding loops_from
counted_by f a zero b [] up sum each = refl
counted_by f a zero b (n ∷ ns) (one_more _ _ _ _ low high later) sum each = absurd (omega arith)
counted_by f a (suc size) b [] up sum each =
    let one : one_if (f a) ≡ 0 = one_if_some (f a) false (each a (omega arith)) in
    let more = counted_by f (suc a) size b [] (no_more (suc a) b) (omega arith) (λ n le. each n (omega arith)) in
    let e : one_if (f a) + loops_from f (suc a) size ≡ 0 = omega (arith, one, more) in
    e
counted_by f a (suc size) b (n ∷ ns) (one_more _ _ _ _ low high later) sum each = by (nat_eq a n) refl
    (λ same. counted_by f (suc a) size b ns (from_lower (suc n) (suc a) b ns (omega (arith, same)) later) (omega arith)
    (λ m le. each m (omega arith) ∙ ap (λ t. t || list_any (nat_eq m) ns) (apart m n (λ is. absurd (omega (arith, same))))))
    (λ other. counted_by f (suc a) size b (n ∷ ns) (one_more (suc a) b n ns (above a n low other) high later) (omega arith) (λ m le. each m (omega arith)))
  where
    above : (c d : ℕ) → c ≤ d → (c ≡ d → ⊥) → suc c ≤ d
    above c d le other = by' (nat_eq c d) refl
      where
        by' : (t : Bool) → nat_eq c d ≡ t → suc c ≤ d
        by' true is = absurd (other (eqb-true c d is))
        by' false is = let no = eqb-false c d is in omega (arith, no)

    by : (t : Bool) → nat_eq a n ≡ t → (a ≡ n → loops_from f (suc a) size ≡ length ns) → ((a ≡ n → ⊥) → loops_from f (suc a) size ≡ suc (length ns)) → one_if (f a) + loops_from f (suc a) size ≡ suc (length ns)
    by true is first other =
        let more = first (eqb-true a n is) in
        let one : one_if (f a) ≡ 1 = one_if_some (f a) true (each a (omega arith) ∙ ap (λ t. t || list_any (nat_eq a) ns) is) in
        omega (arith, one, more)
    by false is first other =
        let more = other (eqb-false a n is) in
        let one : one_if (f a) ≡ 0 = one_if_some (f a) false (each a (omega arith) ∙ ap (λ t. t || list_any (nat_eq a) ns) is ∙ none_below (suc n) a b ns later (omega arith)) in
        omega (arith, one, more)

-- ## Marks

any_both : {A : Type 0} → (f : A → Bool) (xs ys : List A) → list_any f (xs ++ ys) ≡ list_any f xs || list_any f ys
any_both f [] ys = refl
any_both f (x ∷ xs) ys = ap (λ t. f x || t) (any_both f xs ys) ∙ or_over (f x) (list_any f xs) (list_any f ys)
  where
    or_over : (a b c : Bool) → a || (b || c) ≡ (a || b) || c
    or_over true b c = refl
    or_over false b c = refl

-- where marks of some kind stand
abbrev opens_of : (step.Mark → Bool) → ℕ → Marked → Bool
opens_of kind m one = kind one.mark && nat_eq one.at m

-- marks that no arm, no card and no end of a loop has
record IsOpening (kind : step.Mark → Bool) : Type 0 where
  card : (n : ℕ) → kind (Card n) ≡ false
  first : kind step.OpensArm ≡ false
  next : kind step.NextArm ≡ false
  last : kind step.ClosesArm ≡ false
  loop : kind ClosesLoop ≡ false
  while : kind ClosesWhile ≡ false

-- the kind that opens the loops of a unit, and the other
abbrev opening_by : Bool → step.Mark → Bool
opening_by true mark = is_opening_once mark
opening_by false mark = is_opening mark

opening_is : (once : Bool) → IsOpening (opening_by once)
unfolding is_opening is_opening_once
opening_is true = record { card = λ n. refl; first = refl; next = refl; last = refl; loop = refl; while = refl }
opening_is false = record { card = λ n. refl; first = refl; next = refl; last = refl; loop = refl; while = refl }

while_is : IsOpening opens_while
unfolding opens_while
while_is = record { card = λ n. refl; first = refl; next = refl; last = refl; loop = refl; while = refl }

other_mark : (t s : Bool) (rest : Bool) → t ≡ false → (t && s) || rest ≡ rest
other_mark true s rest is = absurd (cc)
other_mark false s rest is = refl

module _ (kind : step.Mark → Bool) (opening : IsOpening kind) where
  arm_any : (p : ProgramUnit) (i m : ℕ) (mark : Mark) → list_any (opens_of kind m) (arm_marks p i mark) ≡ false
  unfolding arm_marks marked
  arm_any p i m Plain = refl
  arm_any p i m Opens = other_mark (kind step.OpensArm) (nat_eq (own_end p i) m) false opening.first
  arm_any p i m Arm = other_mark (kind step.NextArm) (nat_eq (own_start p i) m) false opening.next
  arm_any p i m Closes = other_mark (kind step.ClosesArm) (nat_eq (start_of p i) m) false opening.last

  card_any : (p : ProgramUnit) (i m : ℕ) (line : Line) → list_any (opens_of kind m) (card_mark p i line) ≡ false
  unfolding card_mark marked
  card_any p i m line = by (nat_eq (form_size p i line) 0)
    where
      by : (t : Bool) → list_any (opens_of kind m) (if t then [] else record { at = own_start p i; mark = Card line.card } ∷ []) ≡ false
      by true = refl
      by false = other_mark (kind (Card line.card)) (nat_eq (own_start p i) m) false (opening.card line.card)

  turn_any : (p : ProgramUnit) (from m : ℕ) (rs : List Range) → list_any (opens_of kind m) (turn_marks p from rs) ≡ false
  unfolding turn_marks marked
  turn_any p from m [] = refl
  turn_any p from m (r ∷ rs) = by (is_counted (slice_get p.lines r.first)) (turn_any p (from + turn_size p r) m rs)
    where
      by : (t : Bool) → list_any (opens_of kind m) (turn_marks p (from + turn_size p r) rs) ≡ false
          → list_any (opens_of kind m) (record { at = from; mark = if t then ClosesLoop else ClosesWhile } ∷ turn_marks p (from + turn_size p r) rs) ≡ false
      by true more = other_mark (kind ClosesLoop) (nat_eq from m) (list_any (opens_of kind m) (turn_marks p (from + turn_size p r) rs)) opening.loop ∙ more
      by false more = other_mark (kind ClosesWhile) (nat_eq from m) (list_any (opens_of kind m) (turn_marks p (from + turn_size p r) rs)) opening.while ∙ more

  line_any : (p : ProgramUnit) (i m : ℕ) (line : Line) → list_any (opens_of kind m) (line_marks p i line) ≡ list_any (opens_of kind m) (loop_marks p i line)
  unfolding line_marks
  line_any p i m line =
      any_both (opens_of kind m) ((arm_marks p i line.mark ++ card_mark p i line) ++ loop_marks p i line) (turn_marks p (own_end p i) (ended_at p i))
      ∙ (λ k. any_both (opens_of kind m) (arm_marks p i line.mark ++ card_mark p i line) (loop_marks p i line) k || turn_any p (own_end p i) m (ended_at p i) k)
      ∙ (λ k. (any_both (opens_of kind m) (arm_marks p i line.mark) (card_mark p i line) k || list_any (opens_of kind m) (loop_marks p i line)) || false)
      ∙ (λ k. ((arm_any p i m line.mark k || card_any p i m line k) || list_any (opens_of kind m) (loop_marks p i line)) || false)
      ∙ or_none (list_any (opens_of kind m) (loop_marks p i line))
    where
      or_none : (t : Bool) → t || false ≡ t
      or_none true = refl
      or_none false = refl

  marks_any : (p : ProgramUnit) (i m : ℕ) (line : Line) (lines : List Line)
      → list_any (opens_of kind m) (lines_marks p i (line ∷ lines)) ≡ list_any (opens_of kind m) (loop_marks p i line) || list_any (opens_of kind m) (lines_marks p (suc i) lines)
  unfolding lines_marks
  marks_any p i m line lines =
      any_both (opens_of kind m) (line_marks p i line) (lines_marks p (suc i) lines) ∙ ap (λ t. t || list_any (opens_of kind m) (lines_marks p (suc i) lines)) (line_any p i m line)

-- ## Where loops begin

abbrev start_if : Bool → ℕ → List ℕ → List ℕ
start_if true n ns = n ∷ ns
start_if false n ns = ns

-- the positions of the items that set the variables of DO statements
abbrev starts : ProgramUnit → ℕ → List Line → List ℕ
starts p i [] = []
starts p i (line ∷ lines) = start_if (is_counted (Some line)) (own_end p i - set_before p.onetrip) (starts p (suc i) lines)

dos_by : (form : Form) (t : Bool) → elim form [ Passes ↦ false | On h operands ↦ elim h [ head.ToLoop label ↦ true | _ ↦ false ] ] ≡ t → dos_of form ≡ (if t then 1 else 0)
unfolding dos_of
dos_by Passes true h = absurd (cc)
dos_by Passes false h = refl
dos_by (On (head.ToLoop label) operands) true h = refl
dos_by (On (head.ToLoop label) operands) false h = absurd (cc)
dos_by (On other operands) true h = absurd (cc)
dos_by (On other operands) false h = refl

dos_counted : (line : Line) (t : Bool) → is_counted (Some line) ≡ t → dos_of line.form ≡ (if t then 1 else 0)
unfolding is_counted
dos_counted line t h = dos_by line.form t h

starts_long : (p : ProgramUnit) (i : ℕ) (lines : List Line) → length (starts p i lines) ≡ dos_among lines
unfolding dos_among
starts_long p i [] = refl
starts_long p i (line ∷ lines) = by (is_counted (Some line)) (dos_counted line (is_counted (Some line)) refl) (starts_long p (suc i) lines)
  where
    by : (t : Bool) → dos_of line.form ≡ (if t then 1 else 0) → length (starts p (suc i) lines) ≡ dos_among lines → length (start_if t (own_end p i - set_before p.onetrip) (starts p (suc i) lines)) ≡ dos_of line.form + dos_among lines
    by true one more = let e : suc (length (starts p (suc i) lines)) ≡ dos_of line.form + dos_among lines = omega (arith, one, more) in e
    by false one more = let e : length (starts p (suc i) lines) ≡ dos_of line.form + dos_among lines = omega (arith, one, more) in e

plain_by : (mark : Mark) → is_plain_mark mark ≡ true → mark ≡ Plain
unfolding is_plain_mark
plain_by Plain h = refl
plain_by Opens h = absurd (cc)
plain_by Arm h = absurd (cc)
plain_by Closes h = absurd (cc)

plain_first : (t : Bool) (mark : Mark) → plain_if t mark ≡ true → t ≡ true → is_plain_mark mark ≡ true
unfolding plain_if
plain_first true mark h is = h
plain_first false mark h is = absurd (cc)

plain_among : (lines : List Line) (n : ℕ) (line : Line) → dos_are_plain lines ≡ true → slice_get lines n ≡ Some line → is_counted (Some line) ≡ true → line.mark ≡ Plain
unfolding dos_are_plain
plain_among [] n line plain is counted = absurd (cc)
plain_among (x ∷ lines) zero line plain is counted =
    let same : x ≡ line = cc in
    let one = (and_parts (plain_if (is_counted (Some x)) x.mark) (dos_are_plain lines) plain).0 in
    plain_by line.mark (plain_first (is_counted (Some line)) line.mark (ap (λ (l : Line). plain_if (is_counted (Some l)) l.mark) (sym same) ∙ one) counted)
plain_among (x ∷ lines) (suc n) line plain is counted = plain_among lines n line (and_parts (plain_if (is_counted (Some x)) x.mark) (dos_are_plain lines) plain).1 is counted

do_of_line : (line : Line) → is_counted (Some line) ≡ true → IsDo line.form
do_of_line line counted = let found = do_found (Some line) counted in let same : found.line ≡ line = (let there = found.there in cc) in subst (λ (l : Line). IsDo l.form) same found.loops

-- the loops of which marks say that they begin behind a position, of a statement that is no DO
other_by : (p : ProgramUnit) (i m : ℕ) (kind : Bool) (form : Form) → elim form [ Passes ↦ false | On h operands ↦ elim h [ head.ToLoop label ↦ true | _ ↦ false ] ] ≡ false
    → list_any (opens_of (opening_by kind) m) (elim form [
      | Passes ↦ []
      | On h operands ↦ elim h [
        | head.ToLoop label ↦ if p.onetrip then marked (own_end p i) (OpensLoopOnce ∷ []) else marked (own_end p i - 1) (OpensLoop ∷ [])
        | head.ToTestLoop label ↦ marked (own_start p i) (OpensWhile ∷ [])
        | _ ↦ []
      ]
    ]) ≡ false
unfolding marked is_opening is_opening_once
other_by p i m kind Passes h = refl
other_by p i m kind (On (head.ToLoop label) operands) h = absurd (cc)
other_by p i m true (On (head.ToTestLoop label) operands) h = refl
other_by p i m false (On (head.ToTestLoop label) operands) h = refl
other_by p i m kind (On other operands) h = refl

other_any : (p : ProgramUnit) (i m : ℕ) (kind : Bool) (line : Line) → is_counted (Some line) ≡ false → list_any (opens_of (opening_by kind) m) (loop_marks p i line) ≡ false
unfolding is_counted loop_marks
other_any p i m kind line h = other_by p i m kind line.form h

-- and of a DO
do_marks : (p : ProgramUnit) (i : ℕ) (line : Line) → IsDo line.form → loop_marks p i line ≡ (if p.onetrip then marked (own_end p i) (OpensLoopOnce ∷ []) else marked (own_end p i - 1) (OpensLoop ∷ []))
unfolding loop_marks
do_marks p i line do' =
    ap (λ (form : Form). elim form [
      | Passes ↦ []
      | On h operands ↦ elim h [
        | head.ToLoop label ↦ if p.onetrip then marked (own_end p i) (OpensLoopOnce ∷ []) else marked (own_end p i - 1) (OpensLoop ∷ [])
        | head.ToTestLoop label ↦ marked (own_start p i) (OpensWhile ∷ [])
        | _ ↦ []
      ]
    ]) do'.is

-- the mark of a DO is not of the other kind
do_other : (p : ProgramUnit) (i m : ℕ) (line : Line) → IsDo line.form → list_any (opens_of (opening_by (not p.onetrip)) m) (loop_marks p i line) ≡ false
unfolding marked is_opening is_opening_once
do_other p i m line do' = ap (list_any (opens_of (opening_by (not p.onetrip)) m)) (do_marks p i line do') ∙ by p.onetrip
  where
    by : (t : Bool) → list_any (opens_of (opening_by (not t)) m) (if t then marked (own_end p i) (OpensLoopOnce ∷ []) else marked (own_end p i - 1) (OpensLoop ∷ [])) ≡ false
    by true = refl
    by false = refl

do_any : (p : ProgramUnit) (i n k : ℕ) (line : Line) → IsDo line.form → own_end p i ≡ k + set_before p.onetrip → list_any (opens_of (opening_by p.onetrip) (suc n)) (loop_marks p i line) ≡ nat_eq n k
unfolding marked is_opening is_opening_once
do_any p i n k line do' end = ap (list_any (opens_of (opening_by p.onetrip) (suc n))) (do_marks p i line do') ∙ by p.onetrip end
  where
    or_none : (t : Bool) → t || false ≡ t
    or_none true = refl
    or_none false = refl

    by : (t : Bool) → own_end p i ≡ k + set_before t
        → list_any (opens_of (opening_by t) (suc n)) (if t then marked (own_end p i) (OpensLoopOnce ∷ []) else marked (own_end p i - 1) (OpensLoop ∷ [])) ≡ nat_eq n k
    by true end' = ap (λ s. s || false) (same_tests (own_end p i) (suc n) n k (λ same. omega (arith, same, end')) (λ same. omega (arith, same, end'))) ∙ or_none (nat_eq n k)
    by false end' = ap (λ s. s || false) (same_tests (own_end p i - 1) (suc n) n k (λ same. omega (arith, same, end')) (λ same. omega (arith, same, end'))) ∙ or_none (nat_eq n k)

none_other : (p : ProgramUnit) (i m : ℕ) (lines : List Line) → list_any (opens_of (opening_by (not p.onetrip)) m) (lines_marks p i lines) ≡ false
unfolding lines_marks
none_other p i m [] = refl
none_other p i m (line ∷ lines) =
    marks_any (opening_by (not p.onetrip)) (opening_is (not p.onetrip)) p i m line lines ∙ ap (λ t. t || list_any (opens_of (opening_by (not p.onetrip)) m) (lines_marks p (suc i) lines)) (by (is_counted (Some line)) refl) ∙ none_other p (suc i) m lines
  where
    by : (t : Bool) → is_counted (Some line) ≡ t → list_any (opens_of (opening_by (not p.onetrip)) m) (loop_marks p i line) ≡ false
    by true is = do_other p i m line (do_of_line line is)
    by false is = other_any p i m (not p.onetrip) line is

-- ## The loops of a unit

-- the rest of the statements of a unit, from one on
record AreRest (p : ProgramUnit) (i : ℕ) (lines : List Line) : Type 0 where
  each : (n j : ℕ) (line : Line) → j ≡ i + n → slice_get lines n ≡ Some line → slice_get p.lines j ≡ Some line

rest_later : (p : ProgramUnit) (i : ℕ) (line : Line) (lines : List Line) → AreRest p i (line ∷ lines) → AreRest p (suc i) lines
rest_later p i line lines rest = record { each = λ n j l from is. rest.each (suc n) j l (omega arith) is }

module _ (p : ProgramUnit) (steps : List Step) (lowered : lines_code p 0 p.lines ≡ Some steps) (ends : each_ends p 0 p.lines ≡ true) (plain : dos_are_plain p.lines ≡ true) where
  loop_there : (i : ℕ) (line : Line) → slice_get p.lines i ≡ Some line → is_counted (Some line) ≡ true → HasLoop p steps i (own_end p i - set_before p.onetrip)
  loop_there i line is counted = has_loop p steps lowered ends i line is (plain_among p.lines i line plain is counted) (do_of_line line counted)

  before_low : (once : Bool) → 1 ≤ set_before once
  before_low true = omega arith
  before_low false = omega arith

  ascends : (i : ℕ) (lines : List Line) → AreRest p i lines → Ascends (start_of p i) (starts p i lines) (length steps)
  ascends i [] rest = no_more (start_of p i) (length steps)
  ascends i (line ∷ lines) rest = by (is_counted (Some line)) refl (ascends (suc i) lines (rest_later p i line lines rest)) (rest.each 0 i line (omega arith) refl)
    where
      by : (t : Bool) → is_counted (Some line) ≡ t → Ascends (start_of p (suc i)) (starts p (suc i) lines) (length steps) → slice_get p.lines i ≡ Some line
          → Ascends (start_of p i) (start_if t (own_end p i - set_before p.onetrip) (starts p (suc i) lines)) (length steps)
      by true counted more is =
          let loop' = loop_there i line is counted in
          let next = ends_before p i line is in
          let low = loop'.starts in
          let end = loop'.ends in
          let some = before_low p.onetrip in
          let high = get_below steps (own_end p i - set_before p.onetrip) _ loop'.sets in
          one_more (start_of p i) (length steps) (own_end p i - set_before p.onetrip) (starts p (suc i) lines) low high
          (from_lower (start_of p (suc i)) (suc (own_end p i - set_before p.onetrip)) (length steps) (starts p (suc i) lines) (omega (arith, next, end, some)) more)
      by false counted more is =
          let next = ends_before p i line is in
          let low = ends_low p i in
          from_lower (start_of p (suc i)) (start_of p i) (length steps) (starts p (suc i) lines) (omega (arith, next, low)) more

  marks_start : (i n : ℕ) (lines : List Line) → AreRest p i lines → list_any (opens_of (opening_by p.onetrip) (suc n)) (lines_marks p i lines) ≡ list_any (nat_eq n) (starts p i lines)
  unfolding lines_marks
  marks_start i n [] rest = refl
  marks_start i n (line ∷ lines) rest =
      marks_any (opening_by p.onetrip) (opening_is p.onetrip) p i (suc n) line lines ∙ by (is_counted (Some line)) refl (marks_start (suc i) n lines (rest_later p i line lines rest)) (rest.each 0 i line (omega arith) refl)
    where
      by : (t : Bool) → is_counted (Some line) ≡ t → list_any (opens_of (opening_by p.onetrip) (suc n)) (lines_marks p (suc i) lines) ≡ list_any (nat_eq n) (starts p (suc i) lines) → slice_get p.lines i ≡ Some line
          → list_any (opens_of (opening_by p.onetrip) (suc n)) (loop_marks p i line) || list_any (opens_of (opening_by p.onetrip) (suc n)) (lines_marks p (suc i) lines)
          ≡ list_any (nat_eq n) (start_if t (own_end p i - set_before p.onetrip) (starts p (suc i) lines))
      by true counted more is = (λ k. do_any p i n (own_end p i - set_before p.onetrip) line (do_of_line line counted) (loop_there i line is counted).ends k || more k)
      by false counted more is = (λ k. other_any p i (suc n) p.onetrip line counted k || more k)

  -- a number among those where loops begin is where one does
  begun : (i n : ℕ) (lines : List Line) → AreRest p i lines → list_any (nat_eq n) (starts p i lines) ≡ true → (j : ℕ) × HasLoop p steps j n
  begun i n [] rest h = absurd (cc)
  begun i n (line ∷ lines) rest h = by (is_counted (Some line)) refl (begun (suc i) n lines (rest_later p i line lines rest)) (rest.each 0 i line (omega arith) refl) h
    where
      here_by : (t : Bool) → nat_eq n (own_end p i - set_before p.onetrip) ≡ t → (list_any (nat_eq n) (starts p (suc i) lines) ≡ true → (j : ℕ) × HasLoop p steps j n) → HasLoop p steps i (own_end p i - set_before p.onetrip)
          → t || list_any (nat_eq n) (starts p (suc i) lines) ≡ true → (j : ℕ) × HasLoop p steps j n
      here_by true same more loop' g = (i, subst (HasLoop p steps i) (sym (eqb-true n (own_end p i - set_before p.onetrip) same)) loop')
      here_by false same more loop' g = more g

      by : (t : Bool) → is_counted (Some line) ≡ t → (list_any (nat_eq n) (starts p (suc i) lines) ≡ true → (j : ℕ) × HasLoop p steps j n) → slice_get p.lines i ≡ Some line
          → list_any (nat_eq n) (start_if t (own_end p i - set_before p.onetrip) (starts p (suc i) lines)) ≡ true → (j : ℕ) × HasLoop p steps j n
      by true counted more is g = here_by (nat_eq n (own_end p i - set_before p.onetrip)) refl more (loop_there i line is counted) g
      by false counted more is g = more g

  -- no DO WHILE begins where a test goes back
  while_by : (i k : ℕ) (t : Bool) (line : Line) → IsBehind p k → slice_get p.lines i ≡ Some line → (form : Form) → list_any (opens_of opens_while k) (elim form [
    | Passes ↦ []
    | On h operands ↦ elim h [
      | head.ToLoop label ↦ if t then marked (own_end p i) (OpensLoopOnce ∷ []) else marked (own_end p i - 1) (OpensLoop ∷ [])
      | head.ToTestLoop label ↦ marked (own_start p i) (OpensWhile ∷ [])
      | _ ↦ []
    ]
  ]) ≡ false
  unfolding marked opens_while
  while_by i k t line behind is Passes = refl
  while_by i k true line behind is (On (head.ToLoop label) operands) = refl
  while_by i k false line behind is (On (head.ToLoop label) operands) = refl
  while_by i k t line behind is (On (head.ToTestLoop label) operands) = ap (λ s. s || false) (apart (own_start p i) k (λ same. own_apart p k i line behind is same))
  while_by i k t line behind is (On other operands) = refl

  no_while : (i k : ℕ) (lines : List Line) → AreRest p i lines → IsBehind p k → list_any (opens_of opens_while k) (lines_marks p i lines) ≡ false
  unfolding lines_marks loop_marks
  no_while i k [] rest behind = refl
  no_while i k (line ∷ lines) rest behind =
      marks_any opens_while while_is p i k line lines
      ∙ (λ j. while_by i k p.onetrip line behind (rest.each 0 i line (omega arith) refl) line.form j || no_while (suc i) k lines (rest_later p i line lines rest) behind j)

-- ## DO WHILE

whiles_both : (xs ys : List Marked) → length (whiles_in (xs ++ ys)) ≡ length (whiles_in xs) + length (whiles_in ys)
unfolding whiles_in
whiles_both [] ys = let e : length (whiles_in ys) ≡ 0 + length (whiles_in ys) = omega arith in e
whiles_both (x ∷ xs) ys = by (opens_while x.mark) (whiles_both xs ys)
  where
    by : (t : Bool) → length (whiles_in (xs ++ ys)) ≡ length (whiles_in xs) + length (whiles_in ys)
        → length (if t then x.at ∷ whiles_in (xs ++ ys) else whiles_in (xs ++ ys)) ≡ length (if t then x.at ∷ whiles_in xs else whiles_in xs) + length (whiles_in ys)
    by true more = let e : suc (length (whiles_in (xs ++ ys))) ≡ suc (length (whiles_in xs)) + length (whiles_in ys) = omega (arith, more) in e
    by false more = more

arm_whiles : (p : ProgramUnit) (i : ℕ) (mark : Mark) → length (whiles_in (arm_marks p i mark)) ≡ 0
unfolding arm_marks marked whiles_in opens_while
arm_whiles p i Plain = refl
arm_whiles p i Opens = refl
arm_whiles p i Arm = refl
arm_whiles p i Closes = refl

card_whiles : (p : ProgramUnit) (i : ℕ) (line : Line) → length (whiles_in (card_mark p i line)) ≡ 0
unfolding card_mark marked whiles_in opens_while
card_whiles p i line = by (nat_eq (form_size p i line) 0)
  where
    by : (t : Bool) → length (whiles_in (if t then [] else record { at = own_start p i; mark = Card line.card } ∷ [])) ≡ 0
    by true = refl
    by false = refl

turn_whiles : (p : ProgramUnit) (from : ℕ) (rs : List Range) → length (whiles_in (turn_marks p from rs)) ≡ 0
unfolding turn_marks marked whiles_in opens_while
turn_whiles p from [] = refl
turn_whiles p from (r ∷ rs) = by (is_counted (slice_get p.lines r.first)) (turn_whiles p (from + turn_size p r) rs)
  where
    by : (t : Bool) → length (whiles_in (turn_marks p (from + turn_size p r) rs)) ≡ 0 → length (whiles_in (record { at = from; mark = if t then ClosesLoop else ClosesWhile } ∷ turn_marks p (from + turn_size p r) rs)) ≡ 0
    by true more = more
    by false more = more

loop_whiles_by : (p : ProgramUnit) (i : ℕ) (t : Bool) (form : Form) → length (whiles_in (elim form [
  | Passes ↦ []
  | On h operands ↦ elim h [
    | head.ToLoop label ↦ if t then marked (own_end p i) (OpensLoopOnce ∷ []) else marked (own_end p i - 1) (OpensLoop ∷ [])
    | head.ToTestLoop label ↦ marked (own_start p i) (OpensWhile ∷ [])
    | _ ↦ []
  ]
])) ≡ whiles_of form
unfolding marked whiles_in opens_while whiles_of
loop_whiles_by p i t Passes = refl
loop_whiles_by p i true (On (head.ToLoop label) operands) = refl
loop_whiles_by p i false (On (head.ToLoop label) operands) = refl
loop_whiles_by p i t (On (head.ToTestLoop label) operands) = refl
loop_whiles_by p i t (On other operands) = refl

loop_whiles : (p : ProgramUnit) (i : ℕ) (line : Line) → length (whiles_in (loop_marks p i line)) ≡ whiles_of line.form
unfolding loop_marks
loop_whiles p i line = loop_whiles_by p i p.onetrip line.form

whiles_counted : (p : ProgramUnit) (i : ℕ) (lines : List Line) → length (whiles_in (lines_marks p i lines)) ≡ whiles_among lines
unfolding lines_marks line_marks whiles_among whiles_in
whiles_counted p i [] = refl
whiles_counted p i (line ∷ lines) =
    let arm = arm_marks p i line.mark in
    let card = card_mark p i line in
    let loops = loop_marks p i line in
    let turns = turn_marks p (own_end p i) (ended_at p i) in
    let one = whiles_both (((arm ++ card) ++ loops) ++ turns) (lines_marks p (suc i) lines) in
    let two = whiles_both ((arm ++ card) ++ loops) turns in
    let three = whiles_both (arm ++ card) loops in
    let four = whiles_both arm card in
    let a = arm_whiles p i line.mark in
    let b = card_whiles p i line in
    let c = loop_whiles p i line in
    let d = turn_whiles p (own_end p i) (ended_at p i) in
    let more = whiles_counted p (suc i) lines in
    omega (arith, one, two, three, four, a, b, c, d, more)

-- the places at which DO WHILEs begin are those of their marks
whiles_any : (k : ℕ) (xs : List Marked) → list_any (opens_of opens_while k) xs ≡ false → list_any (nat_eq k) (whiles_in xs) ≡ false
unfolding whiles_in
whiles_any k [] none = refl
whiles_any k (x ∷ xs) none = by (opens_while x.mark) (whiles_any k xs) none
  where
    by : (t : Bool) → (list_any (opens_of opens_while k) xs ≡ false → list_any (nat_eq k) (whiles_in xs) ≡ false) → (t && nat_eq x.at k) || list_any (opens_of opens_while k) xs ≡ false
        → list_any (nat_eq k) (if t then x.at ∷ whiles_in xs else whiles_in xs) ≡ false
    by true more g =
        let parts = neither (nat_eq x.at k) (list_any (opens_of opens_while k) xs) g in
        (λ j. (same_tests k x.at x.at k sym sym ∙ parts.0) j || more parts.1 j)
      where
        neither : (a b : Bool) → a || b ≡ false → (a ≡ false) × (b ≡ false)
        neither true b h = absurd (cc)
        neither false b h = (refl, h)
    by false more g = more g

-- ## Turns that are tested behind them

record FoundBehind (count : ℕ) (steps : List Step) (size : ℕ) : Type 0 where
  index : ℕ
  test : Pure
  is : size ≡ count + index
  at : slice_get steps index ≡ Some (AgainIf test size)

back_by_is : (count : ℕ) (st : Step) → goes_back_by count st ≡ true → (test : Pure) × (st ≡ AgainIf test count)
unfolding goes_back_by
back_by_is count (AgainIf test m) h = (test, ap (AgainIf test) (eqb-true m count h))
back_by_is count st h = absurd (cc)

found_behind : (count : ℕ) (steps : List Step) (size : ℕ) → turn_behind count steps ≡ Some size → FoundBehind count steps size
unfolding turn_behind
found_behind count [] size h = absurd (cc)
found_behind count (st ∷ later) size h = by (goes_back_by count st) refl (found_behind (suc count) later size) h
  where
    by : (t : Bool) → goes_back_by count st ≡ t → (turn_behind (suc count) later ≡ Some size → FoundBehind (suc count) later size) → (if t then Some count else turn_behind (suc count) later) ≡ Some size → FoundBehind count (st ∷ later) size
    by true goes more g =
        let same : count ≡ size = cc in
        let back = back_by_is count st goes in
        record { index = 0; test = back.0; is = (let e : size ≡ count + 0 = omega (arith, same) in e); at = ap Some (back.1 ∙ ap (AgainIf back.0) same) }
    by false goes more g =
        let m = more g in
        let far = m.is in
        record { index = suc m.index; test = m.test; is = omega (arith, far); at = m.at }

is_behind : (count k size : ℕ) (steps : List Step) (test : Pure) → size ≡ count + k → slice_get steps k ≡ Some (AgainIf test size) → is_some (turn_behind count steps) ≡ true
unfolding turn_behind goes_back_by
is_behind count k size [] test far is = absurd (cc)
is_behind count zero size (st ∷ later) test far is =
    let same : st ≡ AgainIf test size = cc in
    let place : size ≡ count = omega (arith, far) in
    ap (λ t. is_some (if t then Some count else turn_behind (suc count) later)) (ap (goes_back_by count) same ∙ eq-eqb size count place)
is_behind count (suc k) size (st ∷ later) test far is = by (goes_back_by count st) (is_behind (suc count) k size later test (omega (arith, far)) is)
  where
    by : (t : Bool) → is_some (turn_behind (suc count) later) ≡ true → is_some (if t then Some count else turn_behind (suc count) later) ≡ true
    by true more = refl
    by false more = more

get_dropped : (m k j : ℕ) (steps : List Step) → j ≡ m + k → slice_get (drop m steps) k ≡ slice_get steps j
get_dropped zero k j steps from = ap (slice_get steps) (let same : k ≡ j = omega (arith, from) in same)
get_dropped (suc m) k j [] from = refl
get_dropped (suc m) k zero (st ∷ steps) from = absurd (omega (arith, from))
get_dropped (suc m) k (suc j) (st ∷ steps) from = get_dropped m k j steps (omega (arith, from))

-- ## The whole

turn_some : (test : Pure) (size : ℕ) → turn_of (Some (step.Unless test (suc (suc size)))) ≡ Some size
unfolding turn_of
turn_some test size = refl

-- how many steps the turn of a loop has that begins at a position
abbrev size_of : Bool → List Step → ℕ → Option ℕ
size_of true steps n = turn_behind 0 (drop (suc n) steps)
size_of false steps n = turn_of (slice_get steps (suc n))

-- where a loop is said to begin
loop_by : (u : Text) (n : ℕ) (once t : Bool) → list_any (opens_of (opening_by once) (suc n)) u.marks ≡ t → list_any (opens_of (opening_by (not once)) (suc n)) u.marks ≡ false → loop_at u n ≡ (if t then size_of once u.steps n else None)
unfolding loop_at opens_loop opens_once
loop_by u n true t is none = (λ k. if none k then turn_of (slice_get u.steps (suc n)) else if is k then turn_behind 0 (drop (suc n) u.steps) else None)
loop_by u n false t is none =
    (λ k. if is k then turn_of (slice_get u.steps (suc n)) else if none k then turn_behind 0 (drop (suc n) u.steps) else None)

size_some : (once : Bool) (steps : List Step) (n : ℕ) → IsTested once steps n → is_some (size_of once steps n) ≡ true
size_some true steps n tested = is_behind 0 tested.size tested.size (drop (suc n) steps) tested.test (omega arith) (get_dropped (suc n) tested.size (suc n + tested.size) steps refl ∙ tested.is)
size_some false steps n tested = ap (λ x. is_some (turn_of x)) tested.is ∙ ap is_some (turn_some tested.test tested.size)

is_rest : (p : ProgramUnit) → AreRest p 0 p.lines
is_rest p = record { each = λ n j line from is. ap (slice_get p.lines) (let e : j ≡ n = omega arith in e) ∙ is }

back_test : (test : Pure) (size : ℕ) → tests_back (AgainIf test size) ≡ true
back_test test size = refl

module _ (u : Text) (lowered : lines_code u.facts.program 0 u.facts.program.lines ≡ Some u.steps) (places : u.position ≡ (λ label. option_map (start_of u.facts.program) (place_of_label u.facts.program label)))
    (marks : u.marks ≡ lines_marks u.facts.program 0 u.facts.program.lines) (ends : each_ends u.facts.program 0 u.facts.program.lines ≡ true) (plain : dos_are_plain u.facts.program.lines ≡ true) where
  own_marked : (n : ℕ) → list_any (opens_of (opening_by u.facts.program.onetrip) (suc n)) u.marks ≡ list_any (nat_eq n) (starts u.facts.program 0 u.facts.program.lines)
  own_marked n = ap (list_any (opens_of (opening_by u.facts.program.onetrip) (suc n))) marks ∙ marks_start u.facts.program u.steps lowered ends plain 0 n u.facts.program.lines (is_rest u.facts.program)

  others_unmarked : (n : ℕ) → list_any (opens_of (opening_by (not u.facts.program.onetrip)) (suc n)) u.marks ≡ false
  others_unmarked n = ap (list_any (opens_of (opening_by (not u.facts.program.onetrip)) (suc n))) marks ∙ none_other u.facts.program 0 (suc n) u.facts.program.lines

  loop_is : (n : ℕ) → loop_at u n ≡ (if list_any (nat_eq n) (starts u.facts.program 0 u.facts.program.lines) then size_of u.facts.program.onetrip u.steps n else None)
  loop_is n = loop_by u n u.facts.program.onetrip (list_any (nat_eq n) (starts u.facts.program 0 u.facts.program.lines)) (own_marked n) (others_unmarked n)

  begun_at : (n : ℕ) → list_any (nat_eq n) (starts u.facts.program 0 u.facts.program.lines) ≡ true → (j : ℕ) × HasLoop u.facts.program u.steps j n
  begun_at n is = begun u.facts.program u.steps lowered ends plain 0 n u.facts.program.lines (is_rest u.facts.program) is

  found_at : (n : ℕ) → is_some (loop_at u n) ≡ list_any (nat_eq n) (starts u.facts.program 0 u.facts.program.lines)
  found_at n = ap is_some (loop_is n) ∙ by (list_any (nat_eq n) (starts u.facts.program 0 u.facts.program.lines)) refl
    where
      by : (t : Bool) → list_any (nat_eq n) (starts u.facts.program 0 u.facts.program.lines) ≡ t → is_some (if t then size_of u.facts.program.onetrip u.steps n else None) ≡ t
      by true is = size_some u.facts.program.onetrip u.steps n (begun_at n is).1.tested
      by false is = refl

  number : loops_from (loop_at u) 0 (length u.steps) ≡ dos_among u.facts.program.lines
  number =
      counted_by (loop_at u) 0 (length u.steps) (length u.steps) (starts u.facts.program 0 u.facts.program.lines)
      (from_lower (start_of u.facts.program 0) 0 (length u.steps) (starts u.facts.program 0 u.facts.program.lines) (omega arith) (ascends u.facts.program u.steps lowered ends plain 0 u.facts.program.lines (is_rest u.facts.program)))
      (omega arith) (λ n le. found_at n)
      ∙ starts_long u.facts.program 0 u.facts.program.lines

  -- a loop that is said to begin has its size, and is one of a DO
  record Begins (once : Bool) (n size : ℕ) : Type 0 where
    place : Pure
    value : Pure
    sets : slice_get u.steps n ≡ Some (step.Put place value)
    tested : IsTested once u.steps n
    found : size_of once u.steps n ≡ Some size

  begins : (n size : ℕ) → loop_at u n ≡ Some size → Begins u.facts.program.onetrip n size
  begins n size is = by (list_any (nat_eq n) (starts u.facts.program 0 u.facts.program.lines)) refl (sym (loop_is n) ∙ is)
    where
      by : (t : Bool) → list_any (nat_eq n) (starts u.facts.program 0 u.facts.program.lines) ≡ t → (if t then size_of u.facts.program.onetrip u.steps n else None) ≡ Some size → Begins u.facts.program.onetrip n size
      by true there g = let loop' = (begun_at n there).1 in record { place = loop'.place; value = loop'.first; sets = loop'.sets; tested = loop'.tested; found = g }
      by false there g = absurd (cc)

  before_is : (n size : ℕ) → Begins false n size → SetsAndTests u.steps n size
  before_is n size b =
      let same : b.tested.size ≡ size = (let e : Some b.tested.size ≡ Some size = sym (turn_some b.tested.test b.tested.size) ∙ ap turn_of (sym b.tested.is) ∙ b.found in cc) in
      record { place = b.place; value = b.value; test = b.tested.test; sets = b.sets; tests = b.tested.is ∙ ap (λ k. Some (step.Unless b.tested.test (suc (suc k)))) same }

  behind_is : (n size : ℕ) → Begins true n size → SetsAndTestsBehind u n size
  behind_is n size b =
      let f = found_behind 0 (drop (suc n) u.steps) size b.found in
      let far = f.is in
      let there : slice_get u.steps (suc n + size) ≡ Some (AgainIf f.test size) = sym (get_dropped (suc n) f.index (suc n + size) u.steps (omega (arith, far))) ∙ f.at in
      let behind = back_behind u.facts.program u.steps lowered (suc n + size) (AgainIf f.test size) there (back_test f.test size) in
      let whiles = whiles_any (suc n + size) u.marks (ap (list_any (opens_of opens_while (suc n + size))) marks ∙ no_while u.facts.program u.steps lowered ends plain 0 (suc n + size) u.facts.program.lines (is_rest u.facts.program) behind) in
      record { place = b.place; value = b.value; test = f.test; sets = b.sets; tests = there; unlabelled = unlabelled u (suc n + size) places behind whiles }

  pub loops_are_marked : LoopsAreMarked u
  loops_are_marked = record {
    number = number;
    before = λ once n size is. before_is n size (subst (λ b. Begins b n size) once (begins n size is));
    behind = λ once n size is. behind_is n size (subst (λ b. Begins b n size) once (begins n size is));
    whiles = ap (λ ms. length (whiles_in ms)) marks ∙ whiles_counted u.facts.program 0 u.facts.program.lines;
  }
