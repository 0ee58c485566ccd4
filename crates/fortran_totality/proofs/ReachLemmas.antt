-- In a well-formed unit control has where to go, and what comes there is well formed.
use Rattle.std.specs.Prelude.{◌≡◌, ℕ, zero, suc, ◌+◌, ◌<◌, ◌≤◌, Bool, true, false, cond, List, [], ◌∷◌, length, drop, filter, Option, Some, None, slice_get, IsTrue, if◌then◌else◌}
use Rattle.std.proofs.Common.{refl, sym, subst, arith}
use Rattle.f_tree.specs.Values.{Checked, Gives, Fails}
use Rattle.f_tree.specs.Terms.{Wanted, NoMore}
use Rattle.f_tree.specs.Facts.{Direction, ToEnd, Form, Passes, On, Mark, Plain, Opens, Arm, Closes, LoopMark, Line, ProgramUnit, Facts, Frame}
use Rattle.f_tree.specs.World.{World, View, RoundKind, Counted, Round, Now, Doing, Turning, proceeding}
use Rattle.f_tree.specs.Places.{has_label, label_from, place_of_label, is_place, Landing, settle, innermost_last, tested_at, at_range_end, landed, arrived, passed, is_in_range, branched, gone_to}
use Rattle.f_tree.specs.WellTyped.{Answers, Sound}
use Rattle.f_tree.specs.WellFormed as formed
use Rattle.f_tree.specs.WellFormed.{HasStatement, takes_step, IsFormed, IsNest, IsWellFormed}
use Rattle.f_tree.specs.Holding as holding
use Rattle.f_tree.specs.Holding.{HasRoom, GoesBy, IsRound, AreRounds, Serves, IsHolding, IsActive, Happens, of_others}
use Rattle.fortran_totality.proofs.ScaleLemmas.{formed_more}

-- the procedure of a frame is active
abbrev pub IsActiveIn : Facts → ℕ → Wanted → ℕ → Frame → View → Type 0
IsActiveIn c least want count f v = (v.frame ≡ f) × IsActive c least want count None v

-- the statements from a place on: the first of them stands at that place, and the others behind it
abbrev pub StandsFirst : List Line → ℕ → Line → List Line → Type 0
StandsFirst all i line lines = (slice_get all i ≡ Some line) × (lines ≡ drop (suc i) all) × (i < length all)

pub first_from : (all : List Line) (i : ℕ) (line : Line) (lines : List Line) → line ∷ lines ≡ drop i all → StandsFirst all i line lines
first_from [] zero line lines is = absurd (cc)
first_from [] (suc i) line lines is = absurd (cc)
first_from (x ∷ all) zero line lines is = (cc, cc, omega arith)
first_from (x ∷ all) (suc i) line lines is = let behind : StandsFirst all i line lines = first_from all i line lines is in
    (behind.0, behind.1, omega (arith, behind.2))

-- a nest of statements has a first one
pub nest_within : (all : List Line) (i depth : ℕ) (lines : List Line) → IsNest depth lines → lines ≡ drop i all → i < length all
nest_within all i depth lines (formed.the_end line _ _) is = (first_from all i line [] is).2
nest_within all i depth lines (formed.plain _ line rest _ _) is = (first_from all i line rest is).2
nest_within all i depth lines (formed.opens _ line rest _ _) is = (first_from all i line rest is).2
nest_within all i depth lines (formed.arm _ line rest _ _) is = (first_from all i line rest is).2
nest_within all i depth lines (formed.closes _ line rest _ _) is = (first_from all i line rest is).2

-- from each place on the statements are a nest
pub nest_from : (depth : ℕ) (lines : List Line) (i : ℕ) → IsNest depth lines → i < length lines → (n : ℕ) × IsNest n (drop i lines)
nest_from depth lines zero nest within = (depth, nest)
nest_from depth lines (suc i) (formed.the_end line _ _) within = absurd (omega (arith, within))
nest_from depth lines (suc i) (formed.plain n line rest _ nest) within = nest_from n rest i nest (omega (arith, within))
nest_from depth lines (suc i) (formed.opens n line rest _ nest) within = nest_from (suc n) rest i nest (omega (arith, within))
nest_from depth lines (suc i) (formed.arm n line rest _ nest) within = nest_from (suc n) rest i nest (omega (arith, within))
nest_from depth lines (suc i) (formed.closes n line rest _ nest) within = nest_from n rest i nest (omega (arith, within))

-- what comes at a place is well formed, or it is the increment of a loop
pub data IsLanding (c : Facts) (count : ℕ) (rounds : List Round) : Landing → Type 0 where
  at_statement : (i : ℕ) (form : Form) → IsFormed c count i None form → HasRoom c.program i form → IsLanding c count rounds (record { at = i; now = Doing form })
  at_turn : (i : ℕ) (round : Round) (more : List Round) → rounds ≡ round ∷ more → IsLanding c count rounds (record { at = i; now = Turning })

-- a terminal statement is the terminal statement of a loop
pub turn_landing : (c : Facts) (count i : ℕ) (rounds : List Round) → is_place (innermost_last rounds) i ≡ true →
    IsLanding c count rounds (record { at = i; now = Turning })
unfolding innermost_last is_place
turn_landing c count i [] is = absurd (cc)
turn_landing c count i (round ∷ more) is = at_turn i round more refl

-- a choice with what is known in each of its two cases
pub answers_where : {A : Type 0} (P : A → Type 0) (b : Bool) (x y : Checked A) → (b ≡ true → Answers P x) → Answers P y → Answers P (if b then x else y)
answers_where P true x y one other = one refl
answers_where P false x y one other = other

-- one statement that control comes to: behind an arm, at a statement that takes no step, at one that takes a step
pub settled_parts : (P : Landing → Type 0) (i : ℕ) (terminal label : Option ℕ) (loop : LoopMark) (card : ℕ) (mark : Mark) (form : Form) (lines : List Line) →
    (mark ≡ Arm → Answers P (settle (suc i) (Some 0) terminal lines)) → (is_place terminal i ≡ true → P (record { at = i; now = Turning })) →
    (form ≡ Passes → Answers P (settle (suc i) None terminal lines)) → P (record { at = i; now = Doing form }) →
    Answers P (settle i None terminal (record { label = label; mark = mark; loop = loop; card = card; form = form } ∷ lines))
unfolding settle Answers
settled_parts P i terminal label loop card Arm form lines arm turn behind here = arm refl
settled_parts P i terminal label loop card Plain Passes lines arm turn behind here =
    answers_where P (is_place terminal i) (Gives (record { at = i; now = Turning })) (settle (suc i) None terminal lines) turn (behind refl)
settled_parts P i terminal label loop card Plain (On head operands) lines arm turn behind here = here
settled_parts P i terminal label loop card Opens Passes lines arm turn behind here =
    answers_where P (is_place terminal i) (Gives (record { at = i; now = Turning })) (settle (suc i) None terminal lines) turn (behind refl)
settled_parts P i terminal label loop card Opens (On head operands) lines arm turn behind here = here
settled_parts P i terminal label loop card Closes Passes lines arm turn behind here =
    answers_where P (is_place terminal i) (Gives (record { at = i; now = Turning })) (settle (suc i) None terminal lines) turn (behind refl)
settled_parts P i terminal label loop card Closes (On head operands) lines arm turn behind here = here

pub settled_at : (P : Landing → Type 0) (i : ℕ) (terminal : Option ℕ) (line : Line) (lines : List Line) →
    (line.mark ≡ Arm → Answers P (settle (suc i) (Some 0) terminal lines)) → (is_place terminal i ≡ true → P (record { at = i; now = Turning })) →
    (line.form ≡ Passes → Answers P (settle (suc i) None terminal lines)) → P (record { at = i; now = Doing line.form }) →
    Answers P (settle i None terminal (line ∷ lines))
settled_at P i terminal line lines arm turn behind here = settled_parts P i terminal line.label line.loop line.card line.mark line.form lines arm turn behind here

-- one statement that is passed behind an arm, so many inner blocks being open
pub skipped_parts : (P : Landing → Type 0) (i depth : ℕ) (terminal label : Option ℕ) (loop : LoopMark) (card : ℕ) (mark : Mark) (form : Form) (lines : List Line) →
    (mark ≡ Plain → Answers P (settle (suc i) (Some depth) terminal lines)) → (mark ≡ Opens → Answers P (settle (suc i) (Some (suc depth)) terminal lines)) →
    (mark ≡ Arm → Answers P (settle (suc i) (Some depth) terminal lines)) → (mark ≡ Closes → depth ≡ 0 → Answers P (settle (suc i) None terminal lines)) →
    ((d : ℕ) → mark ≡ Closes → depth ≡ suc d → Answers P (settle (suc i) (Some d) terminal lines)) →
    Answers P (settle i (Some depth) terminal (record { label = label; mark = mark; loop = loop; card = card; form = form } ∷ lines))
unfolding settle
skipped_parts P i depth terminal label loop card Plain form lines plain opens arm last inner = plain refl
skipped_parts P i depth terminal label loop card Opens form lines plain opens arm last inner = opens refl
skipped_parts P i depth terminal label loop card Arm form lines plain opens arm last inner = arm refl
skipped_parts P i zero terminal label loop card Closes form lines plain opens arm last inner = last refl refl
skipped_parts P i (suc d) terminal label loop card Closes form lines plain opens arm last inner = inner d refl refl

pub skipped_at : (P : Landing → Type 0) (i depth : ℕ) (terminal : Option ℕ) (line : Line) (lines : List Line) →
    (line.mark ≡ Plain → Answers P (settle (suc i) (Some depth) terminal lines)) → (line.mark ≡ Opens → Answers P (settle (suc i) (Some (suc depth)) terminal lines)) →
    (line.mark ≡ Arm → Answers P (settle (suc i) (Some depth) terminal lines)) → (line.mark ≡ Closes → depth ≡ 0 → Answers P (settle (suc i) None terminal lines)) →
    ((d : ℕ) → line.mark ≡ Closes → depth ≡ suc d → Answers P (settle (suc i) (Some d) terminal lines)) →
    Answers P (settle i (Some depth) terminal (line ∷ lines))
skipped_at P i depth terminal line lines plain opens arm last inner =
    skipped_parts P i depth terminal line.label line.loop line.card line.mark line.form lines plain opens arm last inner

-- what stands at a place, with a place behind it
pub statement_landing : (c : Facts) (least count : ℕ) (rounds : List Round) (i : ℕ) (line : Line) → IsWellFormed c least → least ≤ count →
    slice_get c.program.lines i ≡ Some line → suc i < length c.program.lines → IsLanding c count rounds (record { at = i; now = Doing line.form })
statement_landing c least count rounds i line w upto there room =
    at_statement i line.form (formed_more c least count upto i None line.form (w.statements i line there)) (holding.before_end line.form room)

-- END
pub end_landing : (c : Facts) (least count : ℕ) (rounds : List Round) (i : ℕ) (line : Line) → IsWellFormed c least → least ≤ count →
    slice_get c.program.lines i ≡ Some line → line.form ≡ On ToEnd NoMore → IsLanding c count rounds (record { at = i; now = Doing line.form })
end_landing c least count rounds i line w upto there is =
    at_statement i line.form (formed_more c least count upto i None line.form (w.statements i line there)) (subst (λ form. HasRoom c.program i form) (sym is) holding.at_end)

-- so many blocks are open as are passed behind an arm
pub data MaySkip (depth : ℕ) : Option ℕ → Type 0 where
  skips_none : MaySkip depth None
  skips_inner : (k : ℕ) → k < depth → MaySkip depth (Some k)

-- control comes to a statement or to an increment, whatever is passed
pub settled : (c : Facts) (least count : ℕ) (rounds : List Round) → IsWellFormed c least → least ≤ count → (depth : ℕ) (skipping : Option ℕ) (i : ℕ) (lines : List Line) →
    IsNest depth lines → MaySkip depth skipping → lines ≡ drop i c.program.lines → Answers (IsLanding c count rounds) (settle i skipping (innermost_last rounds) lines)
settled c least count rounds w upto depth skipping i lines (formed.the_end line mark form) skips_none is =
    settled_at (IsLanding c count rounds) i (innermost_last rounds) line [] (λ arm. absurd (cc)) (turn_landing c count i rounds) (λ passes. absurd (cc))
    (end_landing c least count rounds i line w upto (first_from c.program.lines i line [] is).0 form)
settled c least count rounds w upto depth skipping i lines (formed.plain n line rest mark nest) skips_none is =
    let from : StandsFirst c.program.lines i line rest = first_from c.program.lines i line rest is in
    settled_at (IsLanding c count rounds) i (innermost_last rounds) line rest (λ arm. absurd (cc)) (turn_landing c count i rounds)
    (λ passes. settled c least count rounds w upto n None (suc i) rest nest skips_none from.1)
    (statement_landing c least count rounds i line w upto from.0 (nest_within c.program.lines (suc i) n rest nest from.1))
settled c least count rounds w upto depth skipping i lines (formed.opens n line rest mark nest) skips_none is =
    let from : StandsFirst c.program.lines i line rest = first_from c.program.lines i line rest is in
    settled_at (IsLanding c count rounds) i (innermost_last rounds) line rest (λ arm. absurd (cc)) (turn_landing c count i rounds)
    (λ passes. settled c least count rounds w upto (suc n) None (suc i) rest nest skips_none from.1)
    (statement_landing c least count rounds i line w upto from.0 (nest_within c.program.lines (suc i) (suc n) rest nest from.1))
settled c least count rounds w upto depth skipping i lines (formed.arm n line rest mark nest) skips_none is =
    let from : StandsFirst c.program.lines i line rest = first_from c.program.lines i line rest is in
    settled_at (IsLanding c count rounds) i (innermost_last rounds) line rest
    (λ arm. settled c least count rounds w upto (suc n) (Some 0) (suc i) rest nest (skips_inner 0 (omega arith)) from.1) (turn_landing c count i rounds)
    (λ passes. settled c least count rounds w upto (suc n) None (suc i) rest nest skips_none from.1)
    (statement_landing c least count rounds i line w upto from.0 (nest_within c.program.lines (suc i) (suc n) rest nest from.1))
settled c least count rounds w upto depth skipping i lines (formed.closes n line rest mark nest) skips_none is =
    let from : StandsFirst c.program.lines i line rest = first_from c.program.lines i line rest is in
    settled_at (IsLanding c count rounds) i (innermost_last rounds) line rest (λ arm. absurd (cc)) (turn_landing c count i rounds)
    (λ passes. settled c least count rounds w upto n None (suc i) rest nest skips_none from.1)
    (statement_landing c least count rounds i line w upto from.0 (nest_within c.program.lines (suc i) n rest nest from.1))
settled c least count rounds w upto depth skipping i lines (formed.the_end line mark form) (skips_inner k below) is = absurd (omega (arith, below))
settled c least count rounds w upto depth skipping i lines (formed.plain n line rest mark nest) (skips_inner k below) is =
    let from : StandsFirst c.program.lines i line rest = first_from c.program.lines i line rest is in
    skipped_at (IsLanding c count rounds) i k (innermost_last rounds) line rest
    (λ plain. settled c least count rounds w upto n (Some k) (suc i) rest nest (skips_inner k below) from.1)
    (λ opens. absurd (cc)) (λ arm. absurd (cc)) (λ closes none. absurd (cc)) (λ d closes some. absurd (cc))
settled c least count rounds w upto depth skipping i lines (formed.opens n line rest mark nest) (skips_inner k below) is =
    let from : StandsFirst c.program.lines i line rest = first_from c.program.lines i line rest is in
    skipped_at (IsLanding c count rounds) i k (innermost_last rounds) line rest (λ plain. absurd (cc))
    (λ opens. settled c least count rounds w upto (suc n) (Some (suc k)) (suc i) rest nest (skips_inner (suc k) (omega (arith, below))) from.1)
    (λ arm. absurd (cc)) (λ closes none. absurd (cc)) (λ d closes some. absurd (cc))
settled c least count rounds w upto depth skipping i lines (formed.arm n line rest mark nest) (skips_inner k below) is =
    let from : StandsFirst c.program.lines i line rest = first_from c.program.lines i line rest is in
    skipped_at (IsLanding c count rounds) i k (innermost_last rounds) line rest (λ plain. absurd (cc)) (λ opens. absurd (cc))
    (λ arm. settled c least count rounds w upto (suc n) (Some k) (suc i) rest nest (skips_inner k below) from.1)
    (λ closes none. absurd (cc)) (λ d closes some. absurd (cc))
settled c least count rounds w upto depth skipping i lines (formed.closes n line rest mark nest) (skips_inner k below) is =
    let from : StandsFirst c.program.lines i line rest = first_from c.program.lines i line rest is in
    skipped_at (IsLanding c count rounds) i k (innermost_last rounds) line rest (λ plain. absurd (cc)) (λ opens. absurd (cc)) (λ arm. absurd (cc))
    (λ closes none. settled c least count rounds w upto n None (suc i) rest nest skips_none from.1)
    (λ d closes some. settled c least count rounds w upto n (Some d) (suc i) rest nest (skips_inner d (omega (arith, below, some))) from.1)

-- a procedure at a place holds to what its frame and its loops hold to
pub held_at : (c : Facts) (least : ℕ) (want : Wanted) (count : ℕ) (f : Frame) (rounds : List Round) (i : ℕ) (now : Now) → Sound c f count →
    AreRounds c.program count rounds → Serves c.program.kind f count want → least ≤ f.base → f.base ≤ count →
    IsHolding c least want count (record { frame = f; at = i; now = now; loops = rounds })
held_at c least want count f rounds i now sound are serves low high = record { sound = sound; rounds = are; serves = serves; low = low; high = high }

-- a DO WHILE is tested again at its statement, which takes a step
pub tested_parts : (c : Facts) (least : ℕ) (want : Wanted) (count : ℕ) (f : Frame) (rounds : List Round) (i : ℕ) (label : Option ℕ) (loop : LoopMark) (card : ℕ)
    (mark : Mark) (form : Form) → IsTrue (takes_step form) → IsFormed c count i None form → suc i < length c.program.lines → Sound c f count →
    AreRounds c.program count rounds → Serves c.program.kind f count want → least ≤ f.base → f.base ≤ count →
    Answers (IsActiveIn c least want count f) (tested_at f rounds i (Some (record { label = label; mark = mark; loop = loop; card = card; form = form })))
unfolding tested_at takes_step Answers
tested_parts c least want count f rounds i label loop card mark Passes takes is room sound are serves low high = absurd (cc)
tested_parts c least want count f rounds i label loop card mark (On head operands) takes is room sound are serves low high = (
  refl,
  record {
    holding = held_at c least want count f rounds i (Doing (On head operands)) sound are serves low high;
    next = holding.doing None (On head operands) is (holding.before_end (On head operands) room);
  },
)

pub tested_active : (c : Facts) (least : ℕ) (want : Wanted) (count : ℕ) (f : Frame) (rounds : List Round) (i : ℕ) (line : Line) → IsWellFormed c least →
    slice_get c.program.lines i ≡ Some line → IsTrue (takes_step line.form) → suc i < length c.program.lines → Sound c f count → AreRounds c.program count rounds →
    Serves c.program.kind f count want → least ≤ f.base → f.base ≤ count → Answers (IsActiveIn c least want count f) (tested_at f rounds i (slice_get c.program.lines i))
tested_active c least want count f rounds i line w there takes room sound are serves low high =
    subst (λ o. Answers (IsActiveIn c least want count f) (tested_at f rounds i o)) (sym there)
    (tested_parts c least want count f rounds i line.label line.loop line.card line.mark line.form takes
    (formed_more c least count (omega (arith, low, high)) i None line.form (w.statements i line there)) room sound are serves low high)

-- behind the terminal statement of a loop comes its increment or its test
pub kind_active : (c : Facts) (least : ℕ) (want : Wanted) (count : ℕ) (f : Frame) (first last : ℕ) (kind : RoundKind) (rounds : List Round) (i : ℕ) →
    IsWellFormed c least → suc first < length c.program.lines → suc last < length c.program.lines → GoesBy c.program count first kind → Sound c f count →
    AreRounds c.program count rounds → Serves c.program.kind f count want → least ≤ f.base → f.base ≤ count →
    Answers (IsActiveIn c least want count f) (at_range_end c.program f (record { first = first; last = last; kind = kind } ∷ rounds) i)
unfolding at_range_end Answers
kind_active c least want count f first last kind rounds i w room last_room (holding.by_count p left by given placed) sound are serves low high =
    let round : Round = record { first = first; last = last; kind = Counted p left by given } in (
      refl,
      record {
        holding = held_at c least want count f (round ∷ rounds) i Turning sound
            (holding.more_rounds round rounds (record { first_room = room; last_room = last_room; goes_by = holding.by_count p left by given placed }) are)
            serves low high;
        next = holding.turning first last p left by given rounds refl;
      },
    )
kind_active c least want count f first last kind rounds i w room last_room (holding.by_test line there takes) sound are serves low high =
    tested_active c least want count f rounds first line w there takes room sound are serves low high

pub range_end_active : (c : Facts) (least : ℕ) (want : Wanted) (count : ℕ) (f : Frame) (rounds : List Round) (i : ℕ) (round : Round) (more : List Round) →
    IsWellFormed c least → rounds ≡ round ∷ more → Sound c f count → AreRounds c.program count rounds → Serves c.program.kind f count want → least ≤ f.base →
    f.base ≤ count → Answers (IsActiveIn c least want count f) (at_range_end c.program f rounds i)
range_end_active c least want count f rounds i round more w is sound holding.no_rounds serves low high = absurd (cc)
range_end_active c least want count f rounds i round more w is sound (holding.more_rounds one others here are) serves low high =
    kind_active c least want count f one.first one.last one.kind others i w here.first_room here.last_room here.goes_by sound are serves low high

-- what comes there is an active procedure
pub landing_active : (c : Facts) (least : ℕ) (want : Wanted) (count : ℕ) (f : Frame) (rounds : List Round) (l : Landing) → IsWellFormed c least → Sound c f count →
    AreRounds c.program count rounds → Serves c.program.kind f count want → least ≤ f.base → f.base ≤ count → IsLanding c count rounds l →
    Answers (IsActiveIn c least want count f) (landed c.program f rounds (Gives l))
unfolding landed Answers
landing_active c least want count f rounds l w sound are serves low high (at_statement i form is room) =
    (refl, record { holding = held_at c least want count f rounds i (Doing form) sound are serves low high; next = holding.doing None form is room })
landing_active c least want count f rounds l w sound are serves low high (at_turn i round more is) =
    range_end_active c least want count f rounds i round more w is sound are serves low high

pub landed_active : (c : Facts) (least : ℕ) (want : Wanted) (count : ℕ) (f : Frame) (rounds : List Round) (r : Checked Landing) → IsWellFormed c least → Sound c f count →
    AreRounds c.program count rounds → Serves c.program.kind f count want → least ≤ f.base → f.base ≤ count → Answers (IsLanding c count rounds) r →
    Answers (IsActiveIn c least want count f) (landed c.program f rounds r)
unfolding landed Answers
landed_active c least want count f rounds (Gives l) w sound are serves low high is = landing_active c least want count f rounds l w sound are serves low high is
landed_active c least want count f rounds (Fails act) w sound are serves low high is = is

pub arrived_active : (c : Facts) (least : ℕ) (want : Wanted) (count : ℕ) (f : Frame) (rounds : List Round) (i : ℕ) → IsWellFormed c least → Sound c f count →
    AreRounds c.program count rounds → Serves c.program.kind f count want → least ≤ f.base → f.base ≤ count → i < length c.program.lines →
    Answers (IsActiveIn c least want count f) (arrived c.program f rounds i)
unfolding arrived
arrived_active c least want count f rounds i w sound are serves low high within =
    let open_there : (n : ℕ) × IsNest n (drop i c.program.lines) = nest_from 0 c.program.lines i w.nest within in
    landed_active c least want count f rounds (settle i None (innermost_last rounds) (drop i c.program.lines)) w sound are serves low high
    (settled c least count rounds w (omega (arith, low, high)) open_there.0 None i (drop i c.program.lines) open_there.1 skips_none refl)

-- behind a statement comes the increment of its loop, or the next statement
pub passed_active : (c : Facts) (least : ℕ) (want : Wanted) (count : ℕ) (v : View) (i : ℕ) → IsWellFormed c least → IsHolding c least want count v →
    suc i < length c.program.lines → Answers (IsActiveIn c least want count v.frame) (passed c.program v.frame v.loops i)
unfolding passed landed Answers
passed_active c least want count v i w h room =
    let turn : Checked Landing = Gives (record { at = i; now = Turning }) in
    answers_where (IsActiveIn c least want count v.frame) (is_place (innermost_last v.loops) i)
    (landed c.program v.frame v.loops turn) (arrived c.program v.frame v.loops (suc i))
    (λ is. landed_active c least want count v.frame v.loops turn w h.sound h.rounds h.serves h.low h.high (turn_landing c count i v.loops is))
    (arrived_active c least want count v.frame v.loops (suc i) w h.sound h.rounds h.serves h.low h.high room)

-- a label stands at a place of its unit
pub either_within : (b : Bool) (i n at : ℕ) (o : Option ℕ) → (o ≡ Some at → at < suc i + n) → (if b then Some i else o) ≡ Some at → at < i + suc n
either_within true i n at o within is = let same : i ≡ at = cc in omega (arith, same)
either_within false i n at o within is = omega (arith, within is)

pub label_within : (i : ℕ) (lines : List Line) (label at : ℕ) → label_from i lines label ≡ Some at → at < i + length lines
unfolding label_from
label_within i [] label at is = absurd (cc)
label_within i (line ∷ lines) label at is = either_within (has_label line.label label) i (length lines) at (label_from (suc i) lines label) (label_within (suc i) lines label at) is

-- the loops that a branch keeps are active loops
pub kept_round : (u : ProgramUnit) (count : ℕ) (keeps : Bool) (round : Round) (rounds : List Round) → IsRound u count round → AreRounds u count rounds →
    AreRounds u count (cond keeps (round ∷ rounds) rounds)
kept_round u count true round rounds is are = holding.more_rounds round rounds is are
kept_round u count false round rounds is are = are

pub kept_rounds : (u : ProgramUnit) (count : ℕ) (keeps : Round → Bool) (rounds : List Round) → AreRounds u count rounds → AreRounds u count (filter keeps rounds)
kept_rounds u count keeps rounds holding.no_rounds = holding.no_rounds
kept_rounds u count keeps rounds (holding.more_rounds round more is are) = kept_round u count (keeps round) round (filter keeps more) is (kept_rounds u count keeps more are)

pub branched_active : (c : Facts) (least : ℕ) (want : Wanted) (count : ℕ) (v : View) (at : ℕ) → IsWellFormed c least → IsHolding c least want count v →
    at < length c.program.lines → Answers (IsActiveIn c least want count v.frame) (branched c.program v.frame v.loops (Some at))
unfolding branched
branched_active c least want count v at w h within =
    arrived_active c least want count v.frame (filter (is_in_range at) v.loops) at w h.sound (kept_rounds c.program count (is_in_range at) v.loops h.rounds)
    h.serves h.low h.high within

-- a place of a label is a place of its unit
pub place_within : (u : ProgramUnit) (label at : ℕ) → place_of_label u label ≡ Some at → at < length u.lines
unfolding place_of_label
place_within u label at is = omega (arith, label_within 0 u.lines label at is)

pub gone_active : (c : Facts) (least : ℕ) (want : Wanted) (count : ℕ) (v : View) (label : ℕ) → IsWellFormed c least → IsHolding c least want count v →
    HasStatement c.program label → Answers (IsActiveIn c least want count v.frame) (gone_to c.program v.frame v.loops label)
unfolding gone_to
gone_active c least want count v label w h stands =
    subst (λ o. Answers (IsActiveIn c least want count v.frame) (branched c.program v.frame v.loops o)) (sym stands.there)
    (branched_active c least want count v stands.at w h (place_within c.program label stands.at stands.there))

-- a step by which the procedure goes on to a statement that is written
pub proceeding_happens : (c : Facts) (least : ℕ) (want : Wanted) (stage : Option Direction) (v : View) (w after : World) (r : Checked View) →
    Answers (IsActiveIn c least want (length w.store) v.frame) r → length after.store ≡ length w.store → of_others None after.transfer ≡ of_others stage w.transfer →
    Happens c least want stage v w (proceeding r after)
unfolding Answers proceeding
proceeding_happens c least want stage v w after (Gives v') reached same others = holding.it_goes None v' after reached.0 same reached.1 (holding.not_in_one after.transfer) others
proceeding_happens c least want stage v w after (Fails act) reached same others = holding.it_breaks act reached
