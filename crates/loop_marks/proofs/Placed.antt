-- The code of each statement of a lowered unit stands where `start_of` says.
use Rattle.std.specs.Prelude.{◌≡◌, ℕ, zero, suc, ◌+◌, Bool, true, false, List, [], ◌∷◌, ◌++◌, length, Option, Some, None, slice_get, option_map, if◌then◌else◌}
use Rattle.std.proofs.Common.{refl, sym, ap, ◌∙◌, subst, arith}
use Rattle.std.proofs.lemmas.List.{length-append}
use Rattle.lowering.specs.l_core.f_tree.Terms.{Terms, NoMore}
use Rattle.lowering.specs.l_core.f_tree.Facts as head
use Rattle.lowering.specs.l_core.f_tree.Facts.{Form, Passes, On, Mark, Plain, Opens, Arm, Closes, Line, ProgramUnit}
use Rattle.lowering.specs.l_core.f_tree.Nests.{Range}
use Rattle.lowering.specs.l_core.f_tree.Step.{assigned_in}
use Rattle.lowering.specs.l_core.Pures.{Pure, Pures, NoPure, AndPure}
use Rattle.lowering.specs.l_core.Steps.{Step, Put, Again}
use Rattle.lowering.specs.Expressions.{Lowered}
use Rattle.lowering.specs.Statements.{loop_operands, test_by, back_by, turn_code}
use Rattle.lowering.specs.Units.{loop_at_line, loop_lowered, free_at, all_named, is_named, pass_code, listed, statement_code, steps_of, is_counted, turn_size, ended_at, turn_sizes, skip_size, form_size, line_size, size_before, start_of, own_end, room_of, way_back, turn_of, turns_of, skip_code, line_code, both_codes, lines_code}
use Rattle.loop_marks.proofs.Codes.{StandsAt, stands_whole, stands_front, stands_back, IsDo, do_found, HasDoCode, do_coded, form_long, ends_at_line}

if_true : {A : Type 0} → (b : Bool) (x y : A) → b ≡ true → (if b then x else y) ≡ x
if_true b x y is = ap (λ c. if c then x else y) is

if_false : {A : Type 0} → (b : Bool) (x y : A) → b ≡ false → (if b then x else y) ≡ y
if_false b x y is = ap (λ c. if c then x else y) is

-- ## The parts of a statement's code

pub record LineParts (p : ProgramUnit) (i : ℕ) (line : Line) (code : List Step) : Type 0 where
  pub own : List Step
  pub is : statement_code p (free_at p i) (room_of p i line) line.form ≡ Some own
  pub all : ((skip_code p i line.mark ++ own) ++ pass_code (is_named (all_named p.lines) line.label) line.form) ++ turns_of p (own_end p i) (ended_at p i) ≡ code

parts_by : (p : ProgramUnit) (i : ℕ) (line : Line) (code : List Step) (x : Option (List Step)) → statement_code p (free_at p i) (room_of p i line) line.form ≡ x
    → option_map (λ own. ((skip_code p i line.mark ++ own) ++ pass_code (is_named (all_named p.lines) line.label) line.form) ++ turns_of p (own_end p i) (ended_at p i)) x ≡ Some code → LineParts p i line code
parts_by p i line code None is e = absurd (cc)
parts_by p i line code (Some own) is e =
    let all : ((skip_code p i line.mark ++ own) ++ pass_code (is_named (all_named p.lines) line.label) line.form) ++ turns_of p (own_end p i) (ended_at p i) ≡ code = cc in
    record { own = own; is = is; all = all }

pub line_parts : (p : ProgramUnit) (i : ℕ) (line : Line) (code : List Step) → line_code p i line ≡ Some code → LineParts p i line code
unfolding line_code
line_parts p i line code e = parts_by p i line code (statement_code p (free_at p i) (room_of p i line) line.form) refl e

pub skip_long : (p : ProgramUnit) (i : ℕ) (mark : Mark) → length (skip_code p i mark) ≡ skip_size mark
unfolding skip_code skip_size
skip_long p i Plain = refl
skip_long p i Opens = refl
skip_long p i Arm = refl
skip_long p i Closes = refl

pub own_long : (p : ProgramUnit) (i : ℕ) (line : Line) (own : List Step) → statement_code p (free_at p i) (room_of p i line) line.form ≡ Some own
    → form_size p i line ≡ length own + length (pass_code (is_named (all_named p.lines) line.label) line.form)
unfolding form_size statement_code steps_of
own_long p i line own is =
    ap (λ z. z + length (pass_code (is_named (all_named p.lines) line.label) line.form)) (sym (form_long p.onetrip (free_at p i) (room_of p i line) (listed (assigned_in p.lines) line.form)) ∙ ap (λ x. length (steps_of x)) is)

-- ## Both codes

pub record Both (one more : Option (List Step)) (steps : List Step) : Type 0 where
  pub first : List Step
  pub later : List Step
  pub first_is : one ≡ Some first
  pub later_is : more ≡ Some later
  pub all : first ++ later ≡ steps

pub both_by : (one more : Option (List Step)) (steps : List Step) → both_codes one more ≡ Some steps → Both one more steps
unfolding both_codes
both_by None more steps e = absurd (cc)
both_by (Some first) None steps e = absurd (cc)
both_by (Some first) (Some later) steps e = record { first = first; later = later; first_is = refl; later_is = refl; all = (let all : first ++ later ≡ steps = cc in all) }

-- each statement has its code
record IsCoded (p : ProgramUnit) (i : ℕ) (line : Line) : Type 0 where
  code : List Step
  is : line_code p i line ≡ Some code

coded_among : (p : ProgramUnit) (i n j : ℕ) (lines : List Line) (steps : List Step) (line : Line) → j ≡ i + n → lines_code p i lines ≡ Some steps → slice_get lines n ≡ Some line → IsCoded p j line
unfolding lines_code
coded_among p i n j [] steps line from e is = absurd (cc)
coded_among p i zero j (x ∷ lines) steps line from e is =
    let both = both_by (line_code p i x) (lines_code p (suc i) lines) steps e in
    let same : x ≡ line = cc in
    let place : i ≡ j = omega arith in
    subst (λ z. IsCoded p z line) place (subst (IsCoded p i) same (record { code = both.first; is = both.first_is }))
coded_among p i (suc n) j (x ∷ lines) steps line from e is =
    let both = both_by (line_code p i x) (lines_code p (suc i) lines) steps e in
    coded_among p (suc i) n j lines both.later line (omega arith) both.later_is is

lowered_is : (k : ℕ) (found : Option Line) (line : Line) (label : Option ℕ) (operands : Terms) → found ≡ Some line → line.form ≡ On (head.ToLoop label) operands → loop_at_line k found ≡ loop_operands k operands
unfolding loop_at_line
lowered_is k found line label operands there form =
    ap (loop_at_line k) there
    ∙ ap (λ (z : Form). elim z as (λ y. Lowered Pures) [ Passes ↦ loop_operands k NoMore | On h ts ↦ elim h [ head.ToLoop l ↦ loop_operands k ts | _ ↦ loop_operands k NoMore ] ]) form

-- what stands behind the terminal statement of a DO
pub record IsTurn (p : ProgramUnit) (from : ℕ) (r : Range) : Type 0 where
  pub test : Pure
  pub place : Pure
  pub value : Pure
  pub is : turn_of p from r ≡ Put place value ∷ back_by p.onetrip test (way_back p r (from + 1)) ∷ []

turn_steps : (once : Bool) (n : ℕ) (ps : Pures) (x first limit by : Pure) → ps ≡ AndPure x (AndPure first (AndPure limit (AndPure by NoPure)))
    → (place value : Pure) × (turn_code once n ps ≡ Put place value ∷ back_by once (test_by x limit by) n ∷ [])
unfolding turn_code
turn_steps once n ps x first limit by four = (_, _, ap (turn_code once n) four)

counted_turn : (p : ProgramUnit) (from : ℕ) (r : Range) → is_counted (slice_get p.lines r.first) ≡ true → turn_of p from r ≡ turn_code p.onetrip (way_back p r (from + 1)) (loop_lowered p (free_at p r.first) r).value
unfolding turn_of
counted_turn p from r counted = if_true (is_counted (slice_get p.lines r.first)) (turn_code p.onetrip (way_back p r (from + 1)) (loop_lowered p (free_at p r.first) r).value) (Again (way_back p r from) ∷ []) counted

pub while_turn : (p : ProgramUnit) (from : ℕ) (r : Range) → is_counted (slice_get p.lines r.first) ≡ false → turn_of p from r ≡ Again (way_back p r from) ∷ []
unfolding turn_of
while_turn p from r other = if_false (is_counted (slice_get p.lines r.first)) (turn_code p.onetrip (way_back p r (from + 1)) (loop_lowered p (free_at p r.first) r).value) (Again (way_back p r from) ∷ []) other

module _ (p : ProgramUnit) (steps : List Step) (lowered : lines_code p 0 p.lines ≡ Some steps) where
  pub parts_at : (i : ℕ) (line : Line) → slice_get p.lines i ≡ Some line → (code : List Step) × LineParts p i line code
  parts_at i line is =
      let coded = coded_among p 0 i i p.lines steps line (let e : i ≡ 0 + i = omega arith in e) lowered is in
      (coded.code, line_parts p i line coded.code coded.is)

  pub do_code_at : (i : ℕ) (line : Line) → slice_get p.lines i ≡ Some line → (do' : IsDo line.form) → (own : List Step) × HasDoCode p.onetrip (free_at p i) (room_of p i line) do'.operands own
  do_code_at i line is do' =
      let parts = parts_at i line is in
      (parts.1.own, do_coded p (free_at p i) (room_of p i line) line.form do' parts.1.own parts.1.is)

  pub turn_is : (from : ℕ) (r : Range) → is_counted (slice_get p.lines r.first) ≡ true → IsTurn p from r
  unfolding loop_lowered
  turn_is from r counted =
      let found = do_found (slice_get p.lines r.first) counted in
      let coded = do_code_at r.first found.line found.there found.loops in
      let kind = coded.1.kind in
      let value : (loop_lowered p (free_at p r.first) r).value ≡ (loop_operands (free_at p r.first) found.loops.operands).value =
      ap (λ (z : Lowered Pures). z.value) (lowered_is (free_at p r.first) (slice_get p.lines r.first) found.line found.loops.label found.loops.operands found.there found.loops.is) in
      let two = turn_steps p.onetrip (way_back p r (from + 1)) (loop_lowered p (free_at p r.first) r).value kind.variable kind.first kind.limit kind.by (value ∙ kind.four) in
      record {
        test = test_by kind.variable kind.limit kind.by;
        place = two.0;
        value = two.1;
        is = counted_turn p from r counted ∙ two.2;
      }

  pub turn_long : (from : ℕ) (r : Range) → length (turn_of p from r) ≡ turn_size p r
  unfolding turn_size turn_of
  turn_long from r = by (is_counted (slice_get p.lines r.first)) refl
    where
      by : (b : Bool) → is_counted (slice_get p.lines r.first) ≡ b → length (turn_of p from r) ≡ turn_size p r
      by true is = ap length (turn_is from r is).is ∙ sym (if_true (is_counted (slice_get p.lines r.first)) 2 1 is)
      by false is =
          ap length (if_false (is_counted (slice_get p.lines r.first)) (turn_code p.onetrip (way_back p r (from + 1)) (loop_lowered p (free_at p r.first) r).value) (Again (way_back p r from) ∷ []) is)
          ∙ sym (if_false (is_counted (slice_get p.lines r.first)) 2 1 is)

  turns_long : (from : ℕ) (rs : List Range) → length (turns_of p from rs) ≡ turn_sizes p rs
  unfolding turns_of turn_sizes
  turns_long from [] = refl
  turns_long from (r ∷ rs) =
      let both = length-append (turn_of p from r) (turns_of p (from + turn_size p r) rs) in
      let one = turn_long from r in
      let more = turns_long (from + turn_size p r) rs in
      let sum : length (turn_of p from r) + length (turns_of p (from + turn_size p r) rs) ≡ turn_size p r + turn_sizes p rs = omega (arith, one, more) in
      both ∙ sum

  pub line_long : (i : ℕ) (line : Line) (code : List Step) → line_code p i line ≡ Some code → length code ≡ line_size p i line
  unfolding line_size
  line_long i line code e =
      let parts = line_parts p i line code e in
      let pass = pass_code (is_named (all_named p.lines) line.label) line.form in
      let turns = turns_of p (own_end p i) (ended_at p i) in
      let all = length-append ((skip_code p i line.mark ++ parts.own) ++ pass) turns in
      let passed = length-append (skip_code p i line.mark ++ parts.own) pass in
      let whole = length-append (skip_code p i line.mark) parts.own in
      let size = own_long p i line parts.own parts.is in
      let skip = skip_long p i line.mark in
      let ended = turns_long (own_end p i) (ended_at p i) in
      let sum : length (((skip_code p i line.mark ++ parts.own) ++ pass) ++ turns) ≡ skip_size line.mark + form_size p i line + turn_sizes p (ended_at p i) = omega (arith, all, passed, whole, size, skip, ended) in
      ap length (sym parts.all) ∙ sum

  -- the code of a statement, from a position on
  pub record IsPlaced (i a : ℕ) (line : Line) : Type 0 where
    pub code : List Step
    pub is : line_code p i line ≡ Some code
    pub stands : StandsAt steps a code

  placed : (i a n j b : ℕ) (lines : List Line) (code : List Step) (line : Line) → lines_code p i lines ≡ Some code → StandsAt steps a code → slice_get lines n ≡ Some line → j ≡ i + n → b ≡ a + size_before p i lines n → IsPlaced j b line
  unfolding lines_code size_before
  placed i a n j b [] code line e stands is from at = absurd (cc)
  placed i a zero j b (x ∷ lines) code line e stands is from at =
      let both = both_by (line_code p i x) (lines_code p (suc i) lines) code e in
      let same : x ≡ line = cc in
      let place : i ≡ j = omega arith in
      let start : b ≡ a + 0 = at in
      let there : a ≡ b = omega (arith, start) in
      subst (λ z. IsPlaced z b line) place
      (subst (λ z. IsPlaced i z line) there
      (subst (IsPlaced i a) same (record { code = both.first; is = both.first_is; stands = stands_front steps a both.first both.later (subst (StandsAt steps a) (sym both.all) stands) })))
  placed i a (suc n) j b (x ∷ lines) code line e stands is from at =
      let both = both_by (line_code p i x) (lines_code p (suc i) lines) code e in
      let long = line_long i x both.first both.first_is in
      let start : b ≡ a + (line_size p i x + size_before p (suc i) lines n) = at in
      placed (suc i) (a + line_size p i x) n j b lines both.later line both.later_is
      (stands_back steps a (a + line_size p i x) both.first both.later (ap (λ z. a + z) (sym long)) (subst (StandsAt steps a) (sym both.all) stands)) is (omega arith) (omega (arith, start))

  pub placed_at : (i : ℕ) (line : Line) → slice_get p.lines i ≡ Some line → IsPlaced i (start_of p i) line
  unfolding start_of
  placed_at i line is =
      placed 0 0 i i (size_before p 0 p.lines i) p.lines steps line lowered (stands_whole steps) is (let e : i ≡ 0 + i = omega arith in e)
      (let e : size_before p 0 p.lines i ≡ 0 + size_before p 0 p.lines i = omega arith in e)

  -- where the steps that turn the loops stand, behind those of their terminal statement
  pub turns_at : (i : ℕ) (line : Line) → slice_get p.lines i ≡ Some line → StandsAt steps (own_end p i) (turns_of p (own_end p i) (ended_at p i))
  unfolding line_size
  turns_at i line is =
      let placed' = placed_at i line is in
      let parts = line_parts p i line placed'.code placed'.is in
      let pass = pass_code (is_named (all_named p.lines) line.label) line.form in
      let turns = turns_of p (own_end p i) (ended_at p i) in
      let long = line_long i line placed'.code placed'.is in
      let all = length-append ((skip_code p i line.mark ++ parts.own) ++ pass) turns in
      let same = ap length parts.all in
      let ended = turns_long (own_end p i) (ended_at p i) in
      let size : line_size p i line ≡ skip_size line.mark + form_size p i line + turn_sizes p (ended_at p i) = refl in
      let end = ends_at_line p i line is in
      stands_back steps (start_of p i) (own_end p i) ((skip_code p i line.mark ++ parts.own) ++ pass) turns (omega (arith, long, all, same, ended, size, end)) (subst (StandsAt steps (start_of p i)) (sym parts.all) placed'.stands)
