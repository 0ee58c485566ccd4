-- The ways back of a lowered unit go to a step of the unit.
use Rattle.std.specs.Prelude.{◌≡◌, ℕ, zero, suc, ◌+◌, ◌-◌, ◌≤◌, Bool, true, false, List, [], ◌∷◌, ◌++◌, length, Option, Some, None, slice_get, option_map, if◌then◌else◌}
use Rattle.std.proofs.Common.{refl, sym, ap, ◌∙◌, subst, arith, true≢false}
use Rattle.lowering.specs.l_core.f_tree.Terms.{Terms, NoMore}
use Rattle.lowering.specs.l_core.f_tree.Facts as head
use Rattle.lowering.specs.l_core.f_tree.Facts.{Head, Form, Passes, On, Mark, Plain, Opens, Arm, Closes, Line, ProgramUnit, Facts}
use Rattle.lowering.specs.l_core.f_tree.Nests.{Range}
use Rattle.lowering.specs.l_core.f_tree.Step.{assigned_in}
use Rattle.lowering.specs.l_core.Pures.{Pure, Pures, NoPure, AndPure}
use Rattle.lowering.specs.l_core.Steps.{Step, Again, AgainIf, Text}
use Rattle.lowering.specs.Expressions.{Lowered}
use Rattle.lowering.specs.Statements.{back_by, turn_code, loop_operands}
use Rattle.lowering.specs.Units.{loop_at_line, loop_lowered, free_at, all_named, is_named, pass_code, listed, statement_code, steps_of, is_counted, turn_size, ended_at, turn_sizes, skip_size, form_size, line_size, size_before, start_of, mark_at, own_start, form_size_at, own_end, room_of, way_back, turn_of, turns_of, skip_code, line_code, both_codes, lines_code, text_with, lowered_unit}
use Rattle.ways_back.specs.WaysBack.{WaysBackStayWithin, WaysBackIfStayWithin}
use Rattle.ways_back.proofs.Ways.{back_of, AreForward, AreForwardIf, AreWithin, forward_both, forward_within, within_both, within_at}
use Rattle.ways_back.proofs.ForwardForms.{nothing_forward, form_forward}
use Rattle.ways_back.proofs.LoweredTexts.{text_lowered}
use Rattle.ways_back.proofs.CodeLengths.{length_both, form_length, HasFour, loop_four, size_next}

-- ## The parts of the code of a statement

record LineParts (p : ProgramUnit) (i : ℕ) (line : Line) (code : List Step) : Type 0 where
  own : List Step
  is : statement_code p (free_at p i) (room_of p i line) line.form ≡ Some own
  all : ((skip_code p i line.mark ++ own) ++ pass_code (is_named (all_named p.lines) line.label) line.form) ++ turns_of p (own_end p i) (ended_at p i) ≡ code

parts_by : (p : ProgramUnit) (i : ℕ) (line : Line) (code : List Step) (x : Option (List Step)) → statement_code p (free_at p i) (room_of p i line) line.form ≡ x →
    option_map (λ own. ((skip_code p i line.mark ++ own) ++ pass_code (is_named (all_named p.lines) line.label) line.form) ++ turns_of p (own_end p i) (ended_at p i)) x ≡ Some code → LineParts p i line code
parts_by p i line code None is e = absurd (cc)
parts_by p i line code (Some own) is e =
    let all : ((skip_code p i line.mark ++ own) ++ pass_code (is_named (all_named p.lines) line.label) line.form) ++ turns_of p (own_end p i) (ended_at p i) ≡ code = cc in
    record { own = own; is = is; all = all }

line_parts : (p : ProgramUnit) (i : ℕ) (line : Line) (code : List Step) → line_code p i line ≡ Some code → LineParts p i line code
unfolding line_code
line_parts p i line code e = parts_by p i line code (statement_code p (free_at p i) (room_of p i line) line.form) refl e

record Both (one more : Option (List Step)) (steps : List Step) : Type 0 where
  first : List Step
  later : List Step
  first_is : one ≡ Some first
  later_is : more ≡ Some later
  all : first ++ later ≡ steps

both_by : (one more : Option (List Step)) (steps : List Step) → both_codes one more ≡ Some steps → Both one more steps
unfolding both_codes
both_by None more steps e = absurd (cc)
both_by (Some first) None steps e = absurd (cc)
both_by (Some first) (Some later) steps e = record { first = first; later = later; first_is = refl; later_is = refl; all = (let all : first ++ later ≡ steps = cc in all) }

-- each statement of a unit that is lowered has its code
record IsCoded (p : ProgramUnit) (i : ℕ) (line : Line) : Type 0 where
  code : List Step
  is : line_code p i line ≡ Some code

coded_at : (p : ProgramUnit) (k i n : ℕ) (lines : List Line) (steps : List Step) (line : Line) → i ≡ n + k → lines_code p k lines ≡ Some steps → slice_get lines n ≡ Some line → IsCoded p i line
unfolding lines_code
coded_at p k i n [] steps line at e is = absurd (cc)
coded_at p k i zero (x ∷ lines) steps line at e is =
    let both = both_by (line_code p k x) (lines_code p (suc k) lines) steps e in
    let same : x ≡ line = cc in
    let place : k ≡ i = omega (arith, at) in
    subst (λ z. IsCoded p z line) place (subst (IsCoded p k) same (record { code = both.first; is = both.first_is }))
coded_at p k i (suc n) (x ∷ lines) steps line at e is =
    let both = both_by (line_code p k x) (lines_code p (suc k) lines) steps e in
    coded_at p (suc k) i n lines both.later line (omega (arith, at)) both.later_is is

-- ## Statements that begin a DO

pub record IsDo (p : ProgramUnit) (i : ℕ) (x : Option Line) : Type 0 where
  pub line : Line
  pub label : Option ℕ
  pub operands : Terms
  pub there : x ≡ Some line
  pub form : line.form ≡ On (head.ToLoop label) operands

head_counted : (p : ProgramUnit) (i : ℕ) (line : Line) (h : Head) (ts : Terms) → line.form ≡ On h ts → (elim h [ head.ToLoop label ↦ true | _ ↦ false ]) ≡ true → IsDo p i (Some line)
head_counted p i line (head.ToLoop label) ts form is = record { line = line; label = label; operands = ts; there = refl; form = form }
head_counted p i line h ts form is = absurd (true≢false (sym is))

form_counted : (p : ProgramUnit) (i : ℕ) (line : Line) (form : Form) → line.form ≡ form → (elim form [ Passes ↦ false | On h operands ↦ elim h [ head.ToLoop label ↦ true | _ ↦ false ] ]) ≡ true → IsDo p i (Some line)
form_counted p i line Passes is counted = absurd (true≢false (sym counted))
form_counted p i line (On h ts) is counted = head_counted p i line h ts is counted

counted_is : (p : ProgramUnit) (i : ℕ) (x : Option Line) → is_counted x ≡ true → IsDo p i x
unfolding is_counted
counted_is p i None counted = absurd (true≢false (sym counted))
counted_is p i (Some line) counted = form_counted p i line line.form refl counted

-- ## The whole

choose_true : {A : Type 0} (b : Bool) (x y : A) → b ≡ true → (if b then x else y) ≡ x
choose_true true x y is = refl
choose_true false x y is = absurd (true≢false (sym is))

choose_false : {A : Type 0} (b : Bool) (x y : A) → b ≡ false → (if b then x else y) ≡ y
choose_false true x y is = absurd (true≢false is)
choose_false false x y is = refl

back_by_within : (once : Bool) (test : Pure) (m n : ℕ) → m ≤ n → back_of (back_by once test m) ≤ n
unfolding back_by back_of
back_by_within true test m n le = le
back_by_within false test m n le = le

turn_within : (once : Bool) (m q : ℕ) (ps : Pures) → m ≤ suc q → AreWithin q (turn_code once m ps)
unfolding turn_code AreWithin back_of
turn_within once m q NoPure le = tt
turn_within once m q (AndPure x NoPure) le = tt
turn_within once m q (AndPure x (AndPure first NoPure)) le = tt
turn_within once m q (AndPure x (AndPure first (AndPure limit NoPure))) le = tt
turn_within once m q (AndPure x (AndPure first (AndPure limit (AndPure by NoPure)))) le = (omega arith, (back_by_within once _ m (suc q) le, tt))
turn_within once m q (AndPure x (AndPure first (AndPure limit (AndPure by (AndPure p ps))))) le = tt

two_steps : (once : Bool) (n : ℕ) (ps : Pures) → HasFour ps → length (turn_code once n ps) ≡ 2
unfolding turn_code
two_steps once n ps four = ap (λ z. length (turn_code once n z)) four.is

onetrip_within : (once : Bool) (from own : ℕ) → 1 ≤ own → 1 ≤ from → (if once then from - own else from - own + 1) ≤ from
onetrip_within true from own some far = omega arith
onetrip_within false from own some far = omega (arith, some, far)

skip_forward : (p : ProgramUnit) (i : ℕ) (mark : Mark) → AreForward (skip_code p i mark)
unfolding skip_code AreForward back_of
skip_forward p i Plain = tt
skip_forward p i Opens = tt
skip_forward p i Arm = (refl, tt)
skip_forward p i Closes = tt

pass_forward : (named : Bool) (form : Form) → AreForward (pass_code named form)
unfolding pass_code AreForward back_of
pass_forward true Passes = (refl, tt)
pass_forward true (On h ts) = tt
pass_forward false form = tt

own_forward : (p : ProgramUnit) (k n : ℕ) (form : Form) (own : List Step) → statement_code p k n form ≡ Some own → AreForward own
unfolding AreForwardIf statement_code
own_forward p k n form own is = subst AreForwardIf is (form_forward p.onetrip k n (listed (assigned_in p.lines) form))

skip_length : (p : ProgramUnit) (i : ℕ) (mark : Mark) → length (skip_code p i mark) ≡ skip_size mark
unfolding skip_code skip_size
skip_length p i Plain = refl
skip_length p i Opens = refl
skip_length p i Arm = refl
skip_length p i Closes = refl

module _ (p : ProgramUnit) (steps : List Step) (lowered : lines_code p 0 p.lines ≡ Some steps) where
  -- a DO that is lowered
  pub record IsFullDo (i : ℕ) : Type 0 where
    pub four : HasFour (loop_at_line (free_at p i) (slice_get p.lines i)).value
    pub some : 1 ≤ own_end p i
    pub tested : p.onetrip ≡ false → 2 ≤ own_end p i

  do_value : (k : ℕ) (x : Option Line) (line : Line) (label : Option ℕ) (ts : Terms) → x ≡ Some line → line.form ≡ On (head.ToLoop label) ts → loop_at_line k x ≡ loop_operands k ts
  unfolding loop_at_line
  do_value k x line label ts is form =
      ap (loop_at_line k) is
      ∙ ap (λ (z : Form). elim z as (λ w. Lowered Pures) [ Passes ↦ loop_operands k NoMore | On h operands ↦ elim h [ head.ToLoop l ↦ loop_operands k operands | _ ↦ loop_operands k NoMore ] ]) form

  own_length : (i : ℕ) (line : Line) (own : List Step) → statement_code p (free_at p i) (room_of p i line) line.form ≡ Some own
      → length own + length (pass_code (is_named (all_named p.lines) line.label) line.form) ≡ form_size p i line
  unfolding form_size steps_of statement_code
  own_length i line own is =
      ap (λ z. z + length (pass_code (is_named (all_named p.lines) line.label) line.form)) (ap (λ x. length (steps_of x)) (sym is) ∙ form_length p.onetrip (free_at p i) (room_of p i line) (listed (assigned_in p.lines) line.form))

  -- where the own steps of a statement end
  ends_is : (i : ℕ) (line : Line) → slice_get p.lines i ≡ Some line → own_end p i ≡ start_of p i + skip_size line.mark + form_size p i line
  unfolding own_end own_start form_size_at mark_at
  ends_is i line is =
      let size : form_size_at p i (slice_get p.lines i) ≡ form_size p i line = ap (form_size_at p i) is in
      let mark : mark_at (slice_get p.lines i) ≡ skip_size line.mark = ap mark_at is in
      let sum : start_of p i + mark_at (slice_get p.lines i) + form_size_at p i (slice_get p.lines i) ≡ start_of p i + skip_size line.mark + form_size p i line = omega (arith, size, mark) in
      sum

  pub full_do : (i : ℕ) → IsDo p i (slice_get p.lines i) → IsFullDo i
  unfolding statement_code listed
  full_do i found =
      let coded = coded_at p 0 i i p.lines steps found.line (omega arith) lowered found.there in
      let parts = line_parts p i found.line coded.code coded.is in
      let own = loop_four p.onetrip (free_at p i) (room_of p i found.line) found.label found.operands parts.own (ap (statement_code p (free_at p i) (room_of p i found.line)) (sym found.form) ∙ parts.is) in
      let some = own.some in
      let size = own_length i found.line parts.own parts.is in
      let end = ends_is i found.line found.there in
      record {
        four = subst (λ (z : Lowered Pures). HasFour z.value) (sym (do_value (free_at p i) (slice_get p.lines i) found.line found.label found.operands found.there found.form)) own.four;
        some = omega (arith, some, size, end);
        tested = λ off. let two = own.tested off in omega (arith, two, size, end);
      }

  -- ## The steps behind the terminal statement of a loop

  IsTurn : ℕ → Range → Type 0
  IsTurn q r = (length (turn_of p q r) ≡ turn_size p r) × AreWithin q (turn_of p q r)

  turn_is : (b : Bool) (q : ℕ) (r : Range) → is_counted (slice_get p.lines r.first) ≡ b → IsTurn q r
  unfolding IsTurn turn_of turn_size way_back loop_lowered AreWithin back_of
  turn_is true q r counted =
      let full = full_do r.first (counted_is p r.first (slice_get p.lines r.first) counted) in
      let some = full.some in
      let turn : List Step = turn_code p.onetrip (if p.onetrip then (q + 1) - own_end p r.first else (q + 1) - own_end p r.first + 1) (loop_at_line (free_at p r.first) (slice_get p.lines r.first)).value in
      let back : ℕ = if is_counted (slice_get p.lines r.first) then (if p.onetrip then (q + 1) - own_end p r.first else (q + 1) - own_end p r.first + 1) else (q + 1) - own_start p r.first in
      let back_is : back ≡ (if p.onetrip then (q + 1) - own_end p r.first else (q + 1) - own_end p r.first + 1) = choose_true (is_counted (slice_get p.lines r.first)) _ _ counted in
      let far = onetrip_within p.onetrip (q + 1) (own_end p r.first) some (omega arith) in
      let same : turn_of p q r ≡ turn_code p.onetrip back (loop_at_line (free_at p r.first) (slice_get p.lines r.first)).value = choose_true (is_counted (slice_get p.lines r.first)) _ _ counted in (
        ap length same ∙ two_steps p.onetrip back (loop_at_line (free_at p r.first) (slice_get p.lines r.first)).value full.four ∙ sym (choose_true (is_counted (slice_get p.lines r.first)) 2 1 counted),
        subst (AreWithin q) (sym same) (turn_within p.onetrip back q (loop_at_line (free_at p r.first) (slice_get p.lines r.first)).value (omega (arith, back_is, far))),
      )
  turn_is false q r counted =
      let back : ℕ = if is_counted (slice_get p.lines r.first) then (if p.onetrip then q - own_end p r.first else q - own_end p r.first + 1) else q - own_start p r.first in
      let back_is : back ≡ q - own_start p r.first = choose_false (is_counted (slice_get p.lines r.first)) _ _ counted in
      let same : turn_of p q r ≡ Again back ∷ [] = choose_false (is_counted (slice_get p.lines r.first)) _ _ counted in
      (ap length same ∙ sym (choose_false (is_counted (slice_get p.lines r.first)) 2 1 counted), subst (AreWithin q) (sym same) (omega (arith, back_is), tt))

  turns_length : (rs : List Range) (q : ℕ) → length (turns_of p q rs) ≡ turn_sizes p rs
  unfolding turns_of turn_sizes IsTurn
  turns_length [] q = refl
  turns_length (r ∷ rs) q =
      let one = (turn_is (is_counted (slice_get p.lines r.first)) q r refl).0 in
      let later = turns_length rs (q + turn_size p r) in
      let both = length_both (turn_of p q r) (turns_of p (q + turn_size p r) rs) in
      omega (arith, one, later, both)

  turns_within : (rs : List Range) (q : ℕ) → AreWithin q (turns_of p q rs)
  unfolding turns_of IsTurn AreWithin
  turns_within [] q = tt
  turns_within (r ∷ rs) q =
      let turn = turn_is (is_counted (slice_get p.lines r.first)) q r refl in
      let long = turn.0 in
      within_both (turn_of p q r) (turns_of p (q + turn_size p r) rs) q (q + turn_size p r) (omega (arith, long)) turn.1 (turns_within rs (q + turn_size p r))

  -- ## Statements

  record IsLineCode (i : ℕ) (line : Line) (code : List Step) : Type 0 where
    long : length code ≡ line_size p i line
    within : AreWithin (start_of p i) code

  line_within : (i : ℕ) (line : Line) (code : List Step) → slice_get p.lines i ≡ Some line → line_code p i line ≡ Some code → IsLineCode i line code
  unfolding line_size
  line_within i line code there e =
      let parts = line_parts p i line code e in
      let passing : List Step = pass_code (is_named (all_named p.lines) line.label) line.form in
      let front : List Step = (skip_code p i line.mark ++ parts.own) ++ passing in
      let forward : AreForward front =
      forward_both (skip_code p i line.mark ++ parts.own) passing
      (forward_both (skip_code p i line.mark) parts.own (skip_forward p i line.mark) (own_forward p (free_at p i) (room_of p i line) line.form parts.own parts.is)) (pass_forward (is_named (all_named p.lines) line.label) line.form) in
      let own = own_length i line parts.own parts.is in
      let skip = skip_length p i line.mark in
      let first = length_both (skip_code p i line.mark) parts.own in
      let second = length_both (skip_code p i line.mark ++ parts.own) passing in
      let all = length_both front (turns_of p (own_end p i) (ended_at p i)) in
      let turns = turns_length (ended_at p i) (own_end p i) in
      let whole : length (front ++ turns_of p (own_end p i) (ended_at p i)) ≡ skip_size line.mark + form_size p i line + turn_sizes p (ended_at p i) = omega (arith, own, skip, first, second, all, turns) in
      let end = ends_is i line there in
      record {
        long = ap length (sym parts.all) ∙ whole;
        within =
            subst (AreWithin (start_of p i)) parts.all
            (within_both front (turns_of p (own_end p i) (ended_at p i)) (start_of p i) (own_end p i) (omega (arith, own, skip, first, second, end)) (forward_within front (start_of p i) forward) (turns_within (ended_at p i) (own_end p i)));
      }

  start_next : (i : ℕ) (line : Line) → slice_get p.lines i ≡ Some line → start_of p (suc i) ≡ start_of p i + line_size p i line
  unfolding start_of
  start_next i line is = size_next p 0 i i p.lines line (let e : i ≡ 0 + i = omega arith in e) is

  lines_within : (lines : List Line) (i : ℕ) (code : List Step) → ((n : ℕ) (line : Line) → slice_get lines n ≡ Some line → slice_get p.lines (i + n) ≡ Some line) → lines_code p i lines ≡ Some code
      → AreWithin (start_of p i) code
  unfolding lines_code
  lines_within [] i code stand e = subst (AreWithin (start_of p i)) (let none : [] ≡ code = cc in none) (forward_within [] (start_of p i) nothing_forward)
  lines_within (line ∷ lines) i code stand e =
      let both = both_by (line_code p i line) (lines_code p (suc i) lines) code e in
      let here : slice_get p.lines i ≡ Some line = subst (λ n. slice_get p.lines n ≡ Some line) (let at : i + 0 ≡ i = omega arith in at) (stand 0 line refl) in
      let one = line_within i line both.first here both.first_is in
      let long = one.long in
      let next = start_next i line here in
      subst (AreWithin (start_of p i)) both.all
      (within_both both.first both.later (start_of p i) (start_of p (suc i)) (omega (arith, long, next)) one.within
      (lines_within lines (suc i) both.later (λ n other at. subst (λ k. slice_get p.lines k ≡ Some other) (let sum : i + suc n ≡ suc i + n = omega arith in sum) (stand (suc n) other at)) both.later_is))

  start_none : (lines : List Line) (i : ℕ) → size_before p i lines 0 ≡ 0
  unfolding size_before
  start_none [] i = refl
  start_none (line ∷ lines) i = refl

  all_within : AreWithin 0 steps
  unfolding start_of
  all_within =
      subst (λ n. AreWithin n steps) (start_none p.lines 0)
      (lines_within p.lines 0 steps (λ n line at. subst (λ k. slice_get p.lines k ≡ Some line) (let sum : n ≡ 0 + n = omega arith in sum) at) lowered)

unit_within : (c : Facts) (x : Option (List Step)) (u : Text) → lines_code c.program 0 c.program.lines ≡ x → text_with c x ≡ Some u → AreWithin 0 u.steps
unfolding text_with
unit_within c None u lowered e = absurd (cc)
unit_within c (Some steps) u lowered e =
    let same : steps ≡ u.steps = ap (λ (o : Option Text). steps_in o) e in
    subst (AreWithin 0) same (all_within c.program steps lowered)
  where
    steps_in : Option Text → List Step
    steps_in None = []
    steps_in (Some t) = t.steps

back_at : (c : Facts) (u : Text) → lowered_unit c ≡ Some u → (n : ℕ) (st : Step) → slice_get u.steps n ≡ Some st → back_of st ≤ n
back_at c u lowered n st at =
    let le = within_at u.steps 0 n st (unit_within c (lines_code c.program 0 c.program.lines) u refl (text_lowered c u lowered)) at in
    omega (arith, le)

pub ways_back : WaysBackStayWithin
unfolding back_of
ways_back c u lowered n m at = back_at c u lowered n (Again m) at

pub ways_back_if : WaysBackIfStayWithin
unfolding back_of
ways_back_if c u lowered n p m at = back_at c u lowered n (AgainIf p m) at
