-- What the text of a lowered unit has for each of its DO statements.
use Rattle.std.specs.Prelude.{◌≡◌, ℕ, zero, suc, ◌+◌, ◌-◌, ◌≤◌, Bool, true, false, List, [], ◌∷◌, ◌++◌, length, Some, slice_get, if◌then◌else◌}
use Rattle.std.proofs.Common.{refl, sym, ap, ◌∙◌, subst, arith}
use Rattle.std.proofs.lemmas.List.{length-append}
use Rattle.lowering.specs.l_core.f_tree.Facts.{Form, Mark, Plain, Opens, Arm, Line, ProgramUnit}
use Rattle.lowering.specs.l_core.f_tree.Nests.{Range, open_at, each_ends}
use Rattle.lowering.specs.l_core.f_tree.Places.{arm_after}
use Rattle.lowering.specs.l_core.f_tree.Setting.{IsIn, first_in, later_in}
use Rattle.lowering.specs.l_core.Pures.{Pure}
use Rattle.lowering.specs.l_core.Steps.{Step, Put, Unless, AgainIf}
use Rattle.lowering.specs.Statements.{loop_operands, test_by, loop_test, back_by}
use Rattle.lowering.specs.Units.{all_named, is_named, pass_code, is_counted, turn_size, ended_at, turns_up_to, start_of, own_start, own_end, arm_room, loop_exit, range_of, loop_room, room_of, way_back, turn_of, turns_of, skip_code, free_at, lines_code}
use Rattle.loop_marks.proofs.Codes.{StandsAt, stands_front, stands_back, IsDo, do_counts, do_coded, ends_at_line, ends_up}
use Rattle.loop_marks.proofs.Placed.{line_parts, skip_long, own_long, placed_at, turns_at, turn_long, turn_is}
use Rattle.loop_marks.proofs.Ranges.{ends_in, has_range, ends_among_ended, turns_two}

-- ## How many steps its test passes

room_is : (p : ProgramUnit) (i : ℕ) (line : Line) → line.mark ≡ Plain → room_of p i line ≡ loop_room p i (range_of (open_at p (suc i)) i)
unfolding room_of
room_is p i line plain =
    ap (λ (m : Mark). elim m [ Opens ↦ arm_room p i (arm_after p i) | Arm ↦ arm_room p i (arm_after p i) | _ ↦ loop_room p i (range_of (open_at p (suc i)) i) ]) plain

pub room_two : (p : ProgramUnit) (i : ℕ) (line : Line) → each_ends p 0 p.lines ≡ true → slice_get p.lines i ≡ Some line → line.mark ≡ Plain → (do' : IsDo line.form) → 2 ≤ room_of p i line
unfolding loop_room loop_exit
room_two p i line ends is plain do' =
    let e = ends_in p i line do'.label do'.operands ends is do'.is in
    let found = has_range p i e in
    let room : room_of p i line ≡ own_end p found.range.last + turns_up_to p found.range.first (ended_at p found.range.last) - own_end p i = room_is p i line plain ∙ ap (loop_room p i) found.is in
    let first = found.first in
    let counted : is_counted (slice_get p.lines found.range.first) ≡ true = ap (λ k. is_counted (slice_get p.lines k)) first ∙ do_counts (slice_get p.lines i) line do'.label do'.operands is do'.is in
    let two = turns_two p found.range.first found.range (ended_at p found.range.last) found.ended refl counted in
    let up = ends_up p i found.range.last line is found.less in
    omega (arith, room, two, up)

no_pass : (named : Bool) (form : Form) → IsDo form → pass_code named form ≡ []
unfolding pass_code
no_pass true form do' = ap (pass_code true) do'.is
no_pass false form do' = refl

-- ## Its steps

-- how many steps before the end of a DO statement stands the one that sets the variable
abbrev pub set_before : Bool → ℕ
set_before true = 1
set_before false = 2

-- the test of a loop at once behind the step that sets its variable, or behind its turn
pub record TestedBefore (steps : List Step) (n : ℕ) : Type 0 where
  pub test : Pure
  pub size : ℕ
  pub is : slice_get steps (suc n) ≡ Some (Unless test (suc (suc size)))

pub record TestedBehind (steps : List Step) (n : ℕ) : Type 0 where
  pub test : Pure
  pub size : ℕ
  pub is : slice_get steps (suc n + size) ≡ Some (AgainIf test size)

abbrev pub IsTested : Bool → List Step → ℕ → Type 0
IsTested true steps n = TestedBehind steps n
IsTested false steps n = TestedBefore steps n

pub record HasLoop (p : ProgramUnit) (steps : List Step) (i n : ℕ) : Type 0 where
  pub place : Pure
  pub first : Pure
  pub ends : own_end p i ≡ n + set_before p.onetrip
  pub starts : start_of p i ≤ n
  pub sets : slice_get steps n ≡ Some (Put place first)
  pub tested : IsTested p.onetrip steps n

record IsMore (n : ℕ) : Type 0 where
  less : ℕ
  is : n ≡ suc (suc less)

two_more : (n : ℕ) → 2 ≤ n → IsMore n
two_more zero le = absurd (omega arith)
two_more (suc zero) le = absurd (omega arith)
two_more (suc (suc n)) le = record { less = n; is = refl }

test_size : (once : Bool) (test : Pure) (n : ℕ) → suc (length (loop_test once test n)) ≡ set_before once
unfolding loop_test
test_size true test n = refl
test_size false test n = refl

test_second : (once : Bool) (place first test : Pure) (n : ℕ) → once ≡ false → slice_get (Put place first ∷ loop_test once test n) 1 ≡ Some (Unless test n)
unfolding loop_test
test_second true place first test n is = absurd (cc)
test_second false place first test n is = refl

back_is : (once : Bool) (test : Pure) (n : ℕ) → once ≡ true → back_by once test n ≡ AgainIf test n
unfolding back_by
back_is once test n is = ap (λ b. back_by b test n) is

-- where the ranges of loops are run at least once, the way back leads to the range
way_once : (p : ProgramUnit) (r : Range) (from : ℕ) → is_counted (slice_get p.lines r.first) ≡ true → p.onetrip ≡ true → way_back p r from ≡ from - own_end p r.first
unfolding way_back
way_once p r from counted once = (λ k. if counted k then (if once k then from - own_end p r.first else from - own_end p r.first + 1) else from - own_start p r.first)

module _ (p : ProgramUnit) (steps : List Step) (lowered : lines_code p 0 p.lines ≡ Some steps) (ends : each_ends p 0 p.lines ≡ true) where
  -- where the steps that turn a loop stand, among those that turn several
  record TurnAmong (from : ℕ) (r : Range) : Type 0 where
    at : ℕ
    low : from ≤ at
    stands : StandsAt steps at (turn_of p at r)

  turn_among : (from : ℕ) (rs : List Range) (r : Range) → IsIn r rs → StandsAt steps from (turns_of p from rs) → TurnAmong from r
  unfolding turns_of
  turn_among from [] r among stands = elim among [ ]
  turn_among from (_ ∷ rs) r first_in stands = record { at = from; low = omega arith; stands = stands_front steps from (turn_of p from r) (turns_of p (from + turn_size p r) rs) stands }
  turn_among from (x ∷ rs) r (later_in among) stands =
      let more = turn_among (from + turn_size p x) rs r among
      (stands_back steps from (from + turn_size p x) (turn_of p from x) (turns_of p (from + turn_size p x) rs) (ap (λ m. from + m) (sym (turn_long p steps lowered from x))) stands) in
      let low = more.low in
      record { at = more.at; low = omega (arith, low); stands = more.stands }

  -- the test of a DO whose range is run at least once
  tested_behind : (i n : ℕ) (line : Line) → slice_get p.lines i ≡ Some line → p.onetrip ≡ true → IsDo line.form → own_end p i ≡ suc n → TestedBehind steps n
  tested_behind i n line is once do' end =
      let e = ends_in p i line do'.label do'.operands ends is do'.is in
      let turn = turn_among (own_end p e.range.last) (ended_at p e.range.last) e.range (ends_among_ended p i e) (turns_at p steps lowered e.range.last e.line e.there) in
      let counted : is_counted (slice_get p.lines e.range.first) ≡ true = ap (λ k. is_counted (slice_get p.lines k)) e.first ∙ do_counts (slice_get p.lines i) line do'.label do'.operands is do'.is in
      let two = turn_is p steps lowered turn.at e.range counted in
      let stands = subst (StandsAt steps turn.at) two.is turn.stands in
      let way : way_back p e.range (turn.at + 1) ≡ turn.at + 1 - own_end p i = way_once p e.range (turn.at + 1) counted once ∙ ap (λ k. turn.at + 1 - own_end p k) e.first in
      let low = turn.low in
      let up = ends_up p i e.range.last line is e.less in
      record {
        test = two.test;
        size = turn.at + 1 - own_end p i;
        is = ap (slice_get steps) (let place : suc n + (turn.at + 1 - own_end p i) ≡ turn.at + 1 = omega (arith, low, up, end) in place)
            ∙ stands.at 1 (back_by p.onetrip two.test (way_back p e.range (turn.at + 1))) refl ∙ ap Some (back_is p.onetrip two.test (way_back p e.range (turn.at + 1)) once ∙ ap (AgainIf two.test) way);
      }

  pub has_loop : (i : ℕ) (line : Line) → slice_get p.lines i ≡ Some line → line.mark ≡ Plain → (do' : IsDo line.form) → HasLoop p steps i (own_end p i - set_before p.onetrip)
  has_loop i line is plain do' =
      let placed = placed_at p steps lowered i line is in
      let parts = line_parts p i line placed.code placed.is in
      let code = do_coded p (free_at p i) (room_of p i line) line.form do' parts.own parts.is in
      let kind = code.kind in
      let test = test_by kind.variable kind.limit kind.by in
      let two = Put kind.variable kind.first ∷ loop_test p.onetrip test (room_of p i line) in
      let pass = pass_code (is_named (all_named p.lines) line.label) line.form in
      let none : pass ≡ [] = no_pass (is_named (all_named p.lines) line.label) line.form do' in
      let operands = (loop_operands (free_at p i) do'.operands).steps in
      let own_is : operands ++ two ≡ parts.own = ap (λ xs. operands ++ xs) kind.is ∙ code.is in
      let long = length-append operands two in
      let count : length two ≡ set_before p.onetrip = test_size p.onetrip test (room_of p i line) in
      let same = ap length own_is in
      let size = own_long p i line parts.own parts.is in
      let no_more = ap length none in
      let skip = skip_long p i line.mark in
      let end = ends_at_line p i line is in
      let last : own_end p i ≡ start_of p i + length (skip_code p i line.mark) + length operands + set_before p.onetrip = omega (arith, long, count, same, size, no_more, skip, end) in
      let all = subst (StandsAt steps (start_of p i)) (sym parts.all) placed.stands in
      let front = stands_front steps (start_of p i) (skip_code p i line.mark ++ parts.own) pass (stands_front steps (start_of p i) ((skip_code p i line.mark ++ parts.own) ++ pass) (turns_of p (own_end p i) (ended_at p i)) all) in
      let own = stands_back steps (start_of p i) (start_of p i + length (skip_code p i line.mark)) (skip_code p i line.mark) parts.own refl front in
      let tail = stands_back steps (start_of p i + length (skip_code p i line.mark)) (own_end p i - set_before p.onetrip) operands two (omega (arith, last))
      (subst (StandsAt steps (start_of p i + length (skip_code p i line.mark))) (sym own_is) own) in
      let at : own_end p i - set_before p.onetrip + 0 ≡ own_end p i - set_before p.onetrip = omega arith in
      record {
        place = kind.variable;
        first = kind.first;
        ends = omega (arith, last);
        starts = omega (arith, last);
        sets = ap (slice_get steps) (sym at) ∙ tail.at 0 (Put kind.variable kind.first) refl;
        tested = tested_by i line is plain do' kind.variable kind.first test (own_end p i - set_before p.onetrip) p.onetrip refl tail.at (omega (arith, last));
      }
    where
      tested_by : (i : ℕ) (line : Line) → slice_get p.lines i ≡ Some line → line.mark ≡ Plain → IsDo line.form → (place first test : Pure) (n : ℕ) (once : Bool) → p.onetrip ≡ once
          → ((k : ℕ) (st : Step) → slice_get (Put place first ∷ loop_test p.onetrip test (room_of p i line)) k ≡ Some st → slice_get steps (n + k) ≡ Some st) → own_end p i ≡ n + set_before p.onetrip → IsTested once steps n
      tested_by i line is plain do' place first test n true once each end = tested_behind i n line is once do' (let one : n + set_before p.onetrip ≡ n + 1 = ap (λ b. n + set_before b) once in omega (arith, one, end))
      tested_by i line is plain do' place first test n false once each end =
          let more = two_more (room_of p i line) (room_two p i line ends is plain do') in
          let behind : suc n ≡ n + 1 = omega arith in
          record {
            test = test;
            size = more.less;
            is = ap (slice_get steps) behind ∙ each 1 (Unless test (room_of p i line)) (test_second p.onetrip place first test (room_of p i line) once) ∙ ap (λ m. Some (Unless test m)) more.is;
          }
