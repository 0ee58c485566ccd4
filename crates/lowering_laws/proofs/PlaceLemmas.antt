-- Where control comes to a statement, the text comes to its steps.
use Rattle.std.specs.Prelude.{◌≡◌, ℕ, zero, suc, ◌+◌, ◌-◌, ◌≤◌, nat_eq, nat_lt, nat_le, ◌&&◌, cond, Bool, true, false, List, [], ◌∷◌, ◌++◌, drop, filter, Option, Some, None, slice_get, if◌then◌else◌}
use Rattle.std.proofs.Common.{refl, sym, ap, ◌∙◌, subst, arith}
use Rattle.std.proofs.lemmas.Bool.{eqb-true, eq-eqb}
use Rattle.fortran_laws.specs.simulation.Machine.{Goes, Ends, Calls, Answers, Breaks, Entry, Enters, Refused}
use Rattle.fortran_laws.specs.f_tree.Values.{Datum, NoMeaning, Checked, Gives, Fails, IsInt, IsSpot}
use Rattle.fortran_laws.specs.f_tree.Terms.{Terms, NoMore, More}
use Rattle.fortran_laws.specs.f_tree.Facts as head
use Rattle.fortran_laws.specs.f_tree.Facts.{ToTestLoop, ToLoop, Head, Form, Passes, On, Mark, Plain, Opens, Arm, Closes, LoopMark, Line, ProgramUnit, Frame, Facts}
use Rattle.fortran_laws.specs.f_tree.World as fortran
use Rattle.fortran_laws.specs.f_tree.World.{World, Transfer, Round, RoundKind, While, Counted, Called, Passed, Happening, proceeding}
use Rattle.fortran_laws.specs.f_tree.Nests.{Range, loop_of, is_within, open_at}
use Rattle.fortran_laws.specs.f_tree.Association.{resume as source_resume}
use Rattle.fortran_laws.specs.f_tree.Places.{Landing, settle, is_place, innermost_last, tested_at, at_range_end, landed, arrived, passed, branched, gone_to, place_of_label, is_in_range}
use Rattle.fortran_laws.specs.f_tree.Step.{at_arm, next_arm}
use Rattle.lowering.specs.l_core.Pures.{Pures, NoPure, Temporaries, AndPure}
use Rattle.lowering.specs.l_core.Steps.{Step, Again, Text}
use Rattle.lowering.specs.l_core.Machine.{View, Doing, to, to_place, jump, resume}
use Rattle.lowering.specs.Expressions.{Purpose, and_then, no_operand, plain, lower_all, Lowered}
use Rattle.lowering.specs.Units.{free_at, is_counted, turn_size, own_start, own_end, way_back, turn_of, loop_at_line, loop_lowered, loop_exit}
use Rattle.fortran_laws.specs.f_tree.Setting.{IsIn, first_in, later_in}
use Rattle.lowering.specs.Statements.{loop_operands}
use Rattle.lowering_laws.proofs.OperandLemmas.{loop_start}
use Rattle.lowering_laws.specs.Walks.{Spans, at_step, SameBelow}
use Rattle.lowering_laws.specs.Midway.{first_of, AreMidway, none_left, at_first, at_start, Mode, InOrder, OfLoop, lowered_as, AreIn, LoopLast}
use Rattle.lowering_laws.specs.Layer.{IsGiven, BranchesBehind, labels_for, Found, IsCalled, Leads, there, Arrives, plainly, own_by, own_of, closing_from, ends_of, AllBefore, TurnsStand, no_turn, turn_then, AllEnd, NoneEnds, IsBehind, IsChain, IsTested, Runs, IsRound, AreRounds, Reaches, BranchesWell, HeadBranches, BranchesNow, HasTransfer, SameOpen, IsFlat, IsNextArm, IsCode, no_code, some_code, Stands, no_step, some_steps, IsLaidOut, IsPart, is_whole, is_under, IsAt, GoesBack, is_doing, is_testing, IsMatched, IsModeOf, IsClosing, for_set, for_set_label, for_go, for_pick, for_go_assigned, for_go_by_sign, for_guard, for_arm, for_test, for_loop, for_call, for_return, for_return_by, for_stop, for_end, for_begin, for_item, for_finish, for_auxiliary, is_turning}
use Rattle.lowering_laws.proofs.WalkLemmas.{split, spans_nothing, spans_one, choose_true, choose_false, same_less, lasts_same, all_last_same}
use Rattle.lowering_laws.proofs.CostLemmas.{arrives_on, arrives_low, arrives_up}
use Rattle.lowering_laws.proofs.ReferenceLemmas.{calls_functions}

-- operands at their start
pub all_start : (u : Text) (f : Frame) (env : Pures) (es : List Datum) (purpose : Purpose) (k : ℕ) (ts : Terms) (p q : ℕ) (m : Temporaries) → Spans u p (lower_all env purpose k ts).steps q → AreMidway u f env es purpose k ts ts p m q
unfolding lower_all no_operand plain and_then
all_start u f env es purpose k NoMore p q m spans = subst (λ z. AreMidway u f env es purpose k NoMore NoMore p m z) (sym (spans_nothing u spans)) none_left
all_start u f env es purpose k (More t ts) p q m spans = let parts = split u (first_of env purpose k t ts).steps spans in at_first (at_start parts.1) parts.2

-- code that stands in a text
pub code_stands : (u : Text) (k : ℕ) (x : Option ℕ) (form : Form) (under : List Step) (p r : ℕ) → IsCode u k x form under → Spans u p under r → Stands u k x form p r
code_stands u k x _ _ p r no_code spans = no_step (subst (λ z. Leads u p z) (sym (spans_nothing u spans)) there)
code_stands u k x _ _ p r (some_code mode modes closing closes) spans = some_steps mode modes closing closes spans

-- what stands behind no operands is not that of a DO
no_loop_closing : (u : Text) (k : ℕ) (x : Option ℕ) (head : Head) (ts : Terms) (ps : Pures) (closing : List Step) → IsClosing u k x head ts ps closing → IsModeOf OfLoop head → ps ≡ NoPure → ⊥
no_loop_closing u k x _ ts _ _ for_set modes none = modes
no_loop_closing u k x _ ts _ _ for_set_label modes none = modes
no_loop_closing u k x _ ts _ _ for_go modes none = modes
no_loop_closing u k x _ ts _ _ for_pick modes none = modes
no_loop_closing u k x _ ts _ _ (for_go_assigned covers) modes none = modes
no_loop_closing u k x _ ts _ _ for_go_by_sign modes none = modes
no_loop_closing u k x _ ts _ _ (for_guard code) modes none = modes
no_loop_closing u k x _ ts _ _ (for_arm flat next) modes none = modes
no_loop_closing u k x _ ts _ _ (for_test stands) modes none = modes
no_loop_closing u k x _ ts _ _ (for_loop n stands) modes none = absurd (cc)
no_loop_closing u k x _ ts _ _ (for_call hides) modes none = modes
no_loop_closing u k x _ ts _ _ for_return modes none = modes
no_loop_closing u k x _ ts _ _ for_return_by modes none = modes
no_loop_closing u k x _ ts _ _ for_stop modes none = modes
no_loop_closing u k x _ ts _ _ for_end modes none = modes
no_loop_closing u k x _ ts _ _ (for_begin code) modes none = modes
no_loop_closing u k x _ ts _ _ (for_item code) modes none = modes
no_loop_closing u k x _ ts _ _ for_finish modes none = modes
no_loop_closing u k x _ ts _ _ for_auxiliary modes none = modes

-- operands of a statement at their start
pub mode_start : (u : Text) (f : Frame) (mode : Mode) (k : ℕ) (x : Option ℕ) (head : Head) (ts : Terms) (closing : List Step) (p q : ℕ) (m : Temporaries) → IsModeOf mode head → IsClosing u k x head ts (lowered_as mode k ts).value closing →
    Spans u p (lowered_as mode k ts).steps q → AreIn u f mode k ts ts p m q
unfolding loop_operands
mode_start u f (InOrder purpose) k x head ts closing p q m modes closes spans = all_start u f NoPure [] purpose k ts p q m spans
mode_start u f OfLoop k x head NoMore closing p q m modes closes spans = absurd (no_loop_closing u k x head NoMore NoPure closing closes modes refl)
mode_start u f OfLoop k x head (More t NoMore) closing p q m modes closes spans = absurd (no_loop_closing u k x head (More t NoMore) NoPure closing closes modes refl)
mode_start u f OfLoop k x head (More t (More first bounds)) closing p q m modes closes spans = loop_start u f k t first bounds p q m spans

-- what FORTRAN's step and the text's have in common, the text's standing at a position: nothing is asked behind an act
pub record BothGo (u : Text) (μ : Found) (v : fortran.View) (w : World) (e : Doing) : Type 0 where
  pub view : View
  pub is : e ≡ Goes view w
  pub matched : IsMatched u μ v w view w

pub record BothEnd (v : fortran.View) (w : World) (z : fortran.Ending) (e : Doing) : Type 0 where
  pub view : View
  pub is : e ≡ Ends z view w
  pub frame : v.frame ≡ view.frame

-- the text goes on with an answer as FORTRAN does, if FORTRAN does
abbrev pub GoesOn : Text → Found → Entry fortran.fortran_sorts → View → Datum → World → Type 0
GoesOn u μ (Enters v s) x r t = (x' : View) × (t' : World) × (resume u x r t ≡ Enters x' t') × IsMatched u μ v s x' t'
GoesOn u μ (Refused act) x r t = Unit {0}

pub record BothCall (u : Text) (μ : Found) (o : Type 0) (v : fortran.View) (w : World) (n : Called) (a : Passed) (e : Doing) : Type 0 where
  pub view : View
  pub is : e ≡ Calls view w n a
  pub labels : List ℕ
  pub passed : labels_for a.want a.actuals ≡ labels
  pub frame : v.frame ≡ view.frame
  pub followed : o
  pub goes_on : (s : World) (r : Datum) (t : World) (r' : Datum) → (s ≡ t) × (s.transfer ≡ w.transfer) × IsGiven a.want labels r r' → GoesOn u μ (source_resume u.facts v r s) view r' t

pub record BothAnswer (μ : Found) (w : World) (d : Datum) (e : Doing) : Type 0 where
  pub answer : Datum
  pub is : e ≡ Answers w answer
  pub transfer : w.transfer ≡ μ.transfer
  pub given : IsGiven μ.wanted μ.labels d answer

abbrev pub Alike : Text → Found → Type 0 → Happening → Doing → Type 0
Alike u μ o (Goes v w) e = BothGo u μ v w e
Alike u μ o (Ends z v w) e = BothEnd v w z e
Alike u μ o (Answers w d) e = BothAnswer μ w d e
Alike u μ o (Breaks act) e = Unit {0}
Alike u μ o (Calls v w n a) e = BothCall u μ o v w n a e

pub first_dropped : (all : List Line) (i : ℕ) (line : Line) (lines : List Line) → line ∷ lines ≡ drop i all → (slice_get all i ≡ Some line) × (lines ≡ drop (suc i) all)
first_dropped [] zero line lines is = absurd (cc)
first_dropped [] (suc i) line lines is = absurd (cc)
first_dropped (x ∷ all) zero line lines is = (cc, cc)
first_dropped (x ∷ all) (suc i) line lines is = first_dropped all i line lines is

-- a statement that control comes to, if it is no ELSE IF and no ELSE
by_form : ℕ → Option ℕ → Form → List Line → Checked Landing
by_form i terminal Passes lines = if is_place terminal i then Gives (record { at = i; now = fortran.Turning }) else settle (suc i) None terminal lines
by_form i terminal (On head operands) lines = Gives (record { at = i; now = fortran.Doing (On head operands) })

by_mark : ℕ → Option ℕ → Mark → Form → List Line → Checked Landing
by_mark i terminal Arm form lines = settle (suc i) (Some 0) terminal lines
by_mark i terminal mark form lines = by_form i terminal form lines

settle_parts : (i : ℕ) (terminal : Option ℕ) (label : Option ℕ) (mark : Mark) (loop : LoopMark) (card : ℕ) (form : Form) (lines : List Line) →
    settle i None terminal (record { label = label; mark = mark; loop = loop; card = card; form = form } ∷ lines) ≡ by_mark i terminal mark form lines
unfolding settle by_mark by_form
settle_parts i terminal label Arm loop card form lines = refl
settle_parts i terminal label Plain loop card Passes lines = refl
settle_parts i terminal label Plain loop card (On head operands) lines = refl
settle_parts i terminal label Opens loop card Passes lines = refl
settle_parts i terminal label Opens loop card (On head operands) lines = refl
settle_parts i terminal label Closes loop card Passes lines = refl
settle_parts i terminal label Closes loop card (On head operands) lines = refl

-- a statement in an arm that is passed
in_block : ℕ → Option ℕ → ℕ → Mark → List Line → Checked Landing
in_block i terminal depth Plain lines = settle (suc i) (Some depth) terminal lines
in_block i terminal depth Opens lines = settle (suc i) (Some (suc depth)) terminal lines
in_block i terminal depth Arm lines = settle (suc i) (Some depth) terminal lines
in_block i terminal zero Closes lines = settle (suc i) None terminal lines
in_block i terminal (suc depth) Closes lines = settle (suc i) (Some depth) terminal lines

block_parts : (i : ℕ) (terminal : Option ℕ) (depth : ℕ) (label : Option ℕ) (mark : Mark) (loop : LoopMark) (card : ℕ) (form : Form) (lines : List Line) →
    settle i (Some depth) terminal (record { label = label; mark = mark; loop = loop; card = card; form = form } ∷ lines) ≡ in_block i terminal depth mark lines
unfolding settle in_block
block_parts i terminal depth label Plain loop card form lines = refl
block_parts i terminal depth label Opens loop card form lines = refl
block_parts i terminal depth label Arm loop card form lines = refl
block_parts i terminal zero label Closes loop card form lines = refl
block_parts i terminal (suc depth) label Closes loop card form lines = refl

-- where the END IF is, by the mark of the next statement
closing_by : ℕ → ℕ → Mark → List Line → Option ℕ
closing_by i depth Plain lines = closing_from (suc i) depth lines
closing_by i depth Opens lines = closing_from (suc i) (suc depth) lines
closing_by i depth Arm lines = closing_from (suc i) depth lines
closing_by i zero Closes lines = Some i
closing_by i (suc depth) Closes lines = closing_from (suc i) depth lines

closing_parts : (i depth : ℕ) (label : Option ℕ) (mark : Mark) (loop : LoopMark) (card : ℕ) (form : Form) (lines : List Line) →
    closing_from i depth (record { label = label; mark = mark; loop = loop; card = card; form = form } ∷ lines) ≡ closing_by i depth mark lines
unfolding closing_by
closing_parts i depth label Plain loop card form lines = refl
closing_parts i depth label Opens loop card form lines = refl
closing_parts i depth label Arm loop card form lines = refl
closing_parts i zero label Closes loop card form lines = refl
closing_parts i (suc depth) label Closes loop card form lines = refl

own_marked : (n : ℕ) (line : Line) (mark : Mark) → line.mark ≡ mark → own_by n (Some line) ≡ elim mark [ Arm ↦ suc n | _ ↦ n ]
own_marked n line mark e = ap (λ (x : Mark). elim x [ Arm ↦ suc n | _ ↦ n ]) e

marked_low : (n : ℕ) (mark : Mark) → n ≤ elim mark [ Arm ↦ suc n | _ ↦ n ]
marked_low n Plain = omega arith
marked_low n Opens = omega arith
marked_low n Arm = omega arith
marked_low n Closes = omega arith

own_by_low : (n : ℕ) (x : Option Line) → n ≤ own_by n x
own_by_low n None = omega arith
own_by_low n (Some line) = marked_low n line.mark

-- a statement's own steps do not begin before it
pub own_low : (u : Text) (i : ℕ) → u.begins i ≤ own_of u i
own_low u i = own_by_low (u.begins i) (slice_get u.facts.program.lines i)

-- ## Loops

passes_no_loop : (form : Form) → form ≡ Passes → loop_of form ≡ None
unfolding loop_of
passes_no_loop form is = ap loop_of is

-- a statement begins no loop, if what is in progress begins none
pub part_quiet : (form : Form) (x : Option ℕ) (head : Head) (ts : Terms) → IsPart form x head ts → loop_of (On head ts) ≡ None → loop_of form ≡ None
part_quiet form x head ts (is_whole e) none = ap loop_of e ∙ none
part_quiet form x head ts (is_under e) none = e

loop_last_same : (c : Facts) (f : Frame) (k n : ℕ) (m m' : Temporaries) (ps : Pures) (ds : List Datum) → k ≤ n → SameBelow n m m' → LoopLast c f k m ps ds → LoopLast c f k m' ps ds
loop_last_same c f k n m m' NoPure ds le same last = absurd last
loop_last_same c f k n m m' (AndPure x NoPure) ds le same last = absurd last
loop_last_same c f k n m m' (AndPure x (AndPure first bounds)) [] le same last = absurd last
loop_last_same c f k n m m' (AndPure x (AndPure first bounds)) (d ∷ []) le same last = absurd last
loop_last_same c f k n m m' (AndPure x (AndPure first bounds)) (d ∷ e ∷ es) le same last =
    (lasts_same c f k m m' x d (same_less k n m m' le same) last.0, all_last_same c f k m m' bounds es (same_less k n m m' le same) last.1)

pub lowered_is : (p : ProgramUnit) (k : ℕ) (r : Range) (line : Line) (label : Option ℕ) (ts : Terms) → slice_get p.lines r.first ≡ Some line → line.form ≡ On (ToLoop label) ts → loop_lowered p k r ≡ loop_operands k ts
unfolding loop_lowered loop_at_line
lowered_is p k r line label ts there' is =
    ap (loop_at_line k) there' ∙ ap (λ (z : Form). elim z [ Passes ↦ loop_operands k NoMore | On h operands ↦ elim h [ ToLoop l ↦ loop_operands k operands | _ ↦ loop_operands k NoMore ] ]) is

-- what is changed from the first free temporary on changes no loop
runs_kept : (u : Text) (f : Frame) (n : ℕ) (m m' : Temporaries) (r : Range) (kind : RoundKind) → (loop_lowered u.facts.program (free_at u.facts.program r.first) r).free ≤ n → SameBelow n m m' → Runs u f m r kind → Runs u f m' r kind
runs_kept u f n m m' r While le same tested = tested
runs_kept u f n m m' r (Counted p left by given) le same counted = record {
  line = counted.line;
  label = counted.label;
  operands = counted.operands;
  there = counted.there;
  is = counted.is;
  ends = counted.ends;
  first = counted.first;
  limit = counted.limit;
  lasts =
      loop_last_same u.facts f (loop_operands (free_at u.facts.program r.first) counted.operands).free n m m' (loop_operands (free_at u.facts.program r.first) counted.operands).value (IsSpot p ∷ counted.first ∷ IsInt counted.limit ∷ IsInt by ∷ [])
      (subst (λ (z : Lowered Pures). z.free ≤ n) (lowered_is u.facts.program (free_at u.facts.program r.first) r counted.line counted.label counted.operands counted.there counted.is) le) same counted.lasts;
  steps_left = counted.steps_left;
  some_step = counted.some_step;
}

rounds_kept : (u : Text) (f : Frame) (n : ℕ) (m m' : Temporaries) (rs : List Range) (rounds : List Round) → ((r : Range) → IsIn r rs → (loop_lowered u.facts.program (free_at u.facts.program r.first) r).free ≤ n) → SameBelow n m m' →
    AreRounds u f m rs rounds → AreRounds u f m' rs rounds
rounds_kept u f n m m' [] [] under same all = tt
rounds_kept u f n m m' [] (round ∷ rounds) under same all = absurd all
rounds_kept u f n m m' (r ∷ rs) [] under same all = absurd all
rounds_kept u f n m m' (r ∷ rs) (round ∷ rounds) under same all =
    (record { first = all.0.first; last = all.0.last; runs = runs_kept u f n m m' r round.kind (under r first_in) same all.0.runs }, rounds_kept u f n m m' rs rounds (λ q among. under q (later_in among)) same all.1)

pub rounds_same : (u : Text) (laid : IsLaidOut u) (f : Frame) (m m' : Temporaries) (i : ℕ) (rounds : List Round) → SameBelow (free_at u.facts.program i) m m' → AreRounds u f m (open_at u.facts.program i) rounds →
    AreRounds u f m' (open_at u.facts.program i) rounds
rounds_same u laid f m m' i rounds same all = rounds_kept u f (free_at u.facts.program i) m m' (open_at u.facts.program i) rounds (laid.kept i) same all

pub before_less : (u : Text) (p q : ℕ) (rs : List Range) → p ≤ q → AllBefore u p rs → AllBefore u q rs
before_less u p q [] le all = tt
before_less u p q (r ∷ rs) le all = (let one = all.0 in omega (arith, le, one), before_less u p q rs le all.1)

cond_both : (b : Bool) (u : Text) (f : Frame) (m : Temporaries) (r : Range) (round : Round) (rs : List Range) (rounds : List Round) → IsRound u f m r round → AreRounds u f m rs rounds →
    AreRounds u f m (cond b (r ∷ rs) rs) (cond b (round ∷ rounds) rounds)
cond_both true u f m r round rs rounds one more = (one, more)
cond_both false u f m r round rs rounds one more = more

within_same : (j : ℕ) (r : Range) (round : Round) → round.first ≡ r.first → round.last ≡ r.last → is_in_range j round ≡ is_within j r
unfolding is_in_range is_within
within_same j r round first last = ap (λ n. nat_lt n j && nat_le j round.last) first ∙ ap (λ n. nat_lt r.first j && nat_le j n) last

-- a branch keeps the loops in whose range it goes
pub rounds_filter : (u : Text) (f : Frame) (m : Temporaries) (j : ℕ) (rs : List Range) (rounds : List Round) → AreRounds u f m rs rounds →
    AreRounds u f m (filter (is_within j) rs) (filter (is_in_range j) rounds)
rounds_filter u f m j [] [] all = tt
rounds_filter u f m j [] (round ∷ rounds) all = absurd all
rounds_filter u f m j (r ∷ rs) [] all = absurd all
rounds_filter u f m j (r ∷ rs) (round ∷ rounds) all =
    subst (λ b. AreRounds u f m (filter (is_within j) (r ∷ rs)) (cond b (round ∷ filter (is_in_range j) rounds) (filter (is_in_range j) rounds))) (sym (within_same j r round all.0.first all.0.last))
    (cond_both (is_within j r) u f m r round (filter (is_within j) rs) (filter (is_in_range j) rounds) all.0 (rounds_filter u f m j rs rounds all.1))

apart_eq : (n i : ℕ) (b : Bool) → nat_eq n i ≡ b → (n ≡ i → ⊥) → b ≡ false
apart_eq n i true e apart = absurd (apart (eqb-true n i e))
apart_eq n i false e apart = refl

none_place : (u : Text) (f : Frame) (m : Temporaries) (i : ℕ) (rs : List Range) (rounds : List Round) → AreRounds u f m rs rounds → NoneEnds i rs → is_place (innermost_last rounds) i ≡ false
unfolding is_place innermost_last
none_place u f m i [] [] all none = refl
none_place u f m i [] (round ∷ rounds) all none = absurd all
none_place u f m i (r ∷ rs) [] all none = absurd all
none_place u f m i (r ∷ rs) (round ∷ rounds) all none = apart_eq round.last i (nat_eq round.last i) refl (λ e. none.0 (sym all.0.last ∙ e))

one_place : (round : Round) (rounds : List Round) (i : ℕ) → round.last ≡ i → is_place (innermost_last (round ∷ rounds)) i ≡ true
unfolding is_place innermost_last
one_place round rounds i e = eq-eqb round.last i e

landed_if : (p : ProgramUnit) (f : Frame) (rounds : List Round) (i : ℕ) (b : Bool) (y : Checked Landing) →
    landed p f rounds (if b then Gives (record { at = i; now = fortran.Turning }) else y) ≡ (if b then at_range_end p f rounds i else landed p f rounds y)
unfolding landed
landed_if p f rounds i true y = refl
landed_if p f rounds i false y = refl

-- the steps behind the range of a DO WHILE
tested_is : (line : Line) (x : Option Line) (label : Option ℕ) (ts : Terms) → x ≡ Some line → line.form ≡ On (ToTestLoop label) ts → is_counted x ≡ false
unfolding is_counted
tested_is line x label ts there' is = ap is_counted there' ∙ ap (λ (z : Form). elim z [ Passes ↦ false | On head operands ↦ elim head [ ToLoop l ↦ true | _ ↦ false ] ]) is

back_is : (p : ProgramUnit) (q : ℕ) (r : Range) → is_counted (slice_get p.lines r.first) ≡ false → turn_of p q r ≡ Again (q - own_start p r.first) ∷ []
unfolding turn_of way_back
back_is p q r e =
    choose_false (is_counted (slice_get p.lines r.first)) _ (Again (way_back p r q) ∷ []) e
    ∙ ap (λ n. Again n ∷ []) (choose_false (is_counted (slice_get p.lines r.first)) _ (q - own_start p r.first) e)

own_up : (p : ProgramUnit) (i : ℕ) → own_start p i ≤ own_end p i
unfolding own_end
own_up p i = omega arith

tested_view : (f : Frame) (rest : List Round) (i : ℕ) (x : Option Line) (line : Line) (label : Option ℕ) (ts : Terms) → x ≡ Some line → line.form ≡ On (ToTestLoop label) ts →
    tested_at f rest i x ≡ Gives (record { frame = f; at = i; now = fortran.Doing (On (ToTestLoop label) ts); loops = rest })
unfolding tested_at
tested_view f rest i x line label ts there' is =
    ap (tested_at f rest i) there'
    ∙ ap (λ (z : Form). elim z [ Passes ↦ Fails NoMeaning | On head operands ↦ Gives (record { frame = f; at = i; now = fortran.Doing (On head operands); loops = rest }) ]) is

-- ## Transfers

-- a statement begins in the midst of no list
pub now_branches : (p : ProgramUnit) (i : ℕ) (h : Head) (ts : Terms) → HeadBranches p i h ts → BranchesNow p i h ts
now_branches p i head.ToSet ts well = well
now_branches p i head.ToSetText ts well = well
now_branches p i (head.ToSetLabel label) ts well = well
now_branches p i (head.ToGo label) ts well = well
now_branches p i (head.ToPick labels) ts well = well
now_branches p i (head.ToGoAssigned labels) ts well = well
now_branches p i (head.ToGoBySign below at above) ts well = well
now_branches p i (head.ToGuard form) ts well = well
now_branches p i head.ToEnterArm ts well = well
now_branches p i (head.ToLoop label) ts well = well
now_branches p i (head.ToTestLoop label) ts well = well
now_branches p i (head.ToCall name) ts well = well
now_branches p i head.ToReturn ts well = well
now_branches p i (head.ToStop text) ts well = well
now_branches p i (head.ToBegin way layout controls work) ts well = well
now_branches p i (head.ToTransfer others) ts well = tt
now_branches p i (head.ToRepeat items others) ts well = tt
now_branches p i (head.ToTurn items q left by given others) ts well = tt
now_branches p i head.ToFinish ts well = tt
now_branches p i (head.ToAuxiliary which controls) ts well = well
now_branches p i head.ToEnd ts well = well

abbrev pub FormNow : ProgramUnit → ℕ → Form → Type 0
FormNow p i Passes = Unit {0}
FormNow p i (On h ts) = BranchesNow p i h ts

form_now : (p : ProgramUnit) (i : ℕ) (form : Form) → BranchesWell p i form → FormNow p i form
form_now p i Passes well = tt
form_now p i (On h ts) well = now_branches p i h ts well

-- so the transfer in progress is the one that was found
pub found_transfer : (p : ProgramUnit) (μ : Found) (i : ℕ) (h : Head) (ts : Terms) (x : Option Transfer) → HeadBranches p i h ts → x ≡ μ.transfer → HasTransfer p μ i h x
found_transfer p μ i head.ToSet ts x well same = same
found_transfer p μ i head.ToSetText ts x well same = same
found_transfer p μ i (head.ToSetLabel label) ts x well same = same
found_transfer p μ i (head.ToGo label) ts x well same = same
found_transfer p μ i (head.ToPick labels) ts x well same = same
found_transfer p μ i (head.ToGoAssigned labels) ts x well same = same
found_transfer p μ i (head.ToGoBySign below at above) ts x well same = same
found_transfer p μ i (head.ToGuard form) ts x well same = same
found_transfer p μ i head.ToEnterArm ts x well same = same
found_transfer p μ i (head.ToLoop label) ts x well same = same
found_transfer p μ i (head.ToTestLoop label) ts x well same = same
found_transfer p μ i (head.ToCall name) ts x well same = same
found_transfer p μ i head.ToReturn ts x well same = same
found_transfer p μ i (head.ToStop text) ts x well same = same
found_transfer p μ i (head.ToBegin way layout controls work) ts x well same = same
found_transfer p μ i (head.ToTransfer others) ts x well same = absurd well
found_transfer p μ i (head.ToRepeat items others) ts x well same = absurd well
found_transfer p μ i (head.ToTurn items q left by given others) ts x well same = absurd well
found_transfer p μ i head.ToFinish ts x well same = absurd well
found_transfer p μ i (head.ToAuxiliary which controls) ts x well same = same
found_transfer p μ i head.ToEnd ts x well same = same

-- at a form with steps: a statement's own, one under a logical IF, or one of a list
pub at_form : (u : Text) (behind : BranchesBehind u) (f : Frame) (m : Temporaries) (k : ℕ) (x : Option ℕ) (i p from : ℕ) → free_at u.facts.program i ≡ k → ((j : ℕ) → x ≡ Some j → j ≡ i) → (line : Line) → slice_get u.facts.program.lines i ≡ Some line → u.begins i ≤ from →
    (form : Form) → ((head : Head) (ts : Terms) → form ≡ On head ts → IsPart line.form x head ts) → FormNow u.facts.program i form → Stands u k x form from (ends_of u i) → Arrives u m 0 p from →
    (head : Head) (ts : Terms) → form ≡ On head ts → IsAt u f i (On head ts) p m
at_form u behind f m k x i p from enough whole line there' low _ part well (no_step leads) before head ts is = absurd (cc)
at_form u behind f m k x i p from enough whole line there' low _ part well (some_steps {head = head'} {ts = ts'} mode modes closing closes spans) before head ts is =
    let parts = split u (lowered_as mode k ts').steps spans in
    record {
      head = head';
      operands = ts';
      left = ts';
      is = sym is;
      mode = mode;
      modes = modes;
      closing = closing;
      free = k;
      enough = enough;
      place = x;
      at_place = whole;
      line = line;
      there = there';
      from = from;
      upto = parts.0;
      low = low;
      arrives = before;
      midway = mode_start u f mode k x head' ts' closing from parts.0 m modes closes parts.1;
      closes = closes;
      behind = parts.2;
      functions = calls_functions u behind k x mode head' ts' closing from parts.0 (ends_of u i) closes parts.1 parts.2;
      written = λ name is' hides. (hides, refl);
      part = part head' ts' refl;
      branches = well;
    }

-- FORTRAN is at such a form, and so is the text
pub comes_in : (u : Text) (f : Frame) (h : ℕ) (μ : Found) (w : World) (m : Temporaries) → IsCalled u.facts.program.kind f μ → (rounds : List Round) (i p : ℕ) (head : Head) (ts : Terms) → HasTransfer u.facts.program μ i head w.transfer →
    AreRounds u f m (open_at u.facts.program i) rounds → IsAt u f i (On head ts) p m → BothGo u μ (record { frame = f; at = i; now = fortran.Doing (On head ts); loops = rounds }) w (Goes (at_step f h p m) w)
comes_in u f h μ w m called rounds i p head ts has stand is = record {
  view = at_step f h p m;
  is = refl;
  matched = record { same = refl; transfer = has; called = called; position = p; kept = m; height = h; seen = refl; open' = open_at u.facts.program i; rounds = stand; placed = is_doing refl is };
}

module _ (u : Text) (laid : IsLaidOut u) (f : Frame) (h : ℕ) (μ : Found) (w : World) (m : Temporaries) (same : w.transfer ≡ μ.transfer) (called : IsCalled u.facts.program.kind f μ) (o : Type 0) where
  pub leads_to_end : (k : ℕ) (x : Option ℕ) (from e : ℕ) (form : Form) → Stands u k x form from e → form ≡ Passes → Leads u from e
  leads_to_end k x from e _ (no_step leads) is = leads
  leads_to_end k x from e _ (some_steps mode modes closing closes spans) is = absurd (cc)

  pub comes_to : (rounds : List Round) (i p : ℕ) (head : Head) (ts : Terms) → HeadBranches u.facts.program i head ts → AreRounds u f m (open_at u.facts.program i) rounds → IsAt u f i (On head ts) p m →
      BothGo u μ (record { frame = f; at = i; now = fortran.Doing (On head ts); loops = rounds }) w (Goes (at_step f h p m) w)
  comes_to rounds i p head ts well stand is = comes_in u f h μ w m called rounds i p head ts (found_transfer u.facts.program μ i head ts w.transfer well same) stand is

  -- ## Behind the terminal statement of a loop

  goes_back : (r : Range) (pos b p : ℕ) → IsTested u.facts.program r → ends_of u r.first ≤ b → Arrives u m b p pos → Spans u pos (turn_of u.facts.program pos r) (pos + turn_size u.facts.program r) →
      GoesBack u m (ends_of u r.first) p (own_of u r.first)
  goes_back r pos b p tested before arr spans =
      let back = back_is u.facts.program pos r (tested_is tested.line (slice_get u.facts.program.lines r.first) tested.label tested.operands tested.there tested.is) in
      let one = spans_one u (subst (λ z. Spans u pos z (pos + turn_size u.facts.program r)) back spans) in
      let up = own_up u.facts.program r.first in
      let low = arrives_up arr in
      let own = laid.own r.first in
      record {
        from = pos;
        count = pos - own_start u.facts.program r.first;
        arrives = arrives_low before arr;
        there = one.0;
        is = omega (arith, up, low, before, own);
      }

  range_end_by : (r : Range) (outer : List Range) (round : Round) (rest : List Round) (i pos b p : ℕ) (kind : RoundKind) → round.kind ≡ kind → IsRound u f m r round → Runs u f m r kind → AreRounds u f m outer rest → open_at u.facts.program r.first ≡ outer →
      ends_of u r.first ≤ b → Arrives u m b p pos → Spans u pos (turn_of u.facts.program pos r) (pos + turn_size u.facts.program r) → pos + turn_size u.facts.program r ≡ loop_exit u.facts.program r →
      Alike u μ o (proceeding (elim kind [
        | While ↦ tested_at f rest round.first (slice_get u.facts.program.lines round.first)
        | Counted q left by given ↦ Gives (record { frame = f; at = i; now = fortran.Turning; loops = round ∷ rest })
      ]) w) (Goes (at_step f h p m) w)
  unfolding proceeding
  range_end_by r outer round rest i pos b p While kind is tested stand chain before arr spans exit =
      subst (λ n. Alike u μ o (proceeding (tested_at f rest n (slice_get u.facts.program.lines n)) w) (Goes (at_step f h p m) w)) (sym is.first)
      (subst (λ x. Alike u μ o (proceeding x w) (Goes (at_step f h p m) w))
      (sym (tested_view f rest r.first (slice_get u.facts.program.lines r.first) tested.line tested.label tested.operands tested.there tested.is))
      (record {
        view = at_step f h p m;
        is = refl;
        matched = record {
          same = refl;
          transfer = same;
          called = called;
          position = p;
          kept = m;
          height = h;
          seen = refl;
          open' = outer;
          rounds = stand;
          placed = is_testing (sym chain) tested.line tested.there tested.is (goes_back r pos b p tested before arr spans);
        };
      }))
  range_end_by r outer round rest i pos b p (Counted q left by given) kind is counted stand chain before arr spans exit = record {
    view = at_step f h p m;
    is = refl;
    matched = record {
      same = refl;
      transfer = same;
      called = called;
      position = p;
      kept = m;
      height = h;
      seen = refl;
      open' = r ∷ outer;
      rounds = (is, stand);
      placed = is_turning r outer pos refl chain (arrives_low before arr) spans exit;
    };
  }

  range_end : (r : Range) (outer : List Range) (round : Round) (rest : List Round) (i pos b p : ℕ) → IsRound u f m r round → AreRounds u f m outer rest → open_at u.facts.program r.first ≡ outer →
      ends_of u r.first ≤ b → Arrives u m b p pos → Spans u pos (turn_of u.facts.program pos r) (pos + turn_size u.facts.program r) → pos + turn_size u.facts.program r ≡ loop_exit u.facts.program r →
      Alike u μ o (proceeding (at_range_end u.facts.program f (round ∷ rest) i) w) (Goes (at_step f h p m) w)
  unfolding at_range_end
  range_end r outer round rest i pos b p is stand chain before arr spans exit = range_end_by r outer round rest i pos b p round.kind refl is is.runs stand chain before arr spans exit

  -- behind a statement the loops that end with it are turned, or the next statement follows
  behind_by : (ended past : List Range) (rounds : List Round) (i pos b p : ℕ) (x : Checked fortran.View) → TurnsStand u i pos ended → AllEnd i ended → NoneEnds i past → open_at u.facts.program (suc i) ≡ past →
      IsChain u.facts.program (ended ++ past) → AreRounds u f m (ended ++ past) rounds → AllBefore u b (ended ++ past) → Arrives u m b p pos →
      (AreRounds u f m (open_at u.facts.program (suc i)) rounds → AllBefore u b (open_at u.facts.program (suc i)) → Arrives u m b p (u.begins (suc i)) → Alike u μ o (proceeding x w) (Goes (at_step f h p m) w)) →
      Alike u μ o (proceeding (if is_place (innermost_last rounds) i then at_range_end u.facts.program f rounds i else x) w) (Goes (at_step f h p m) w)
  behind_by [] past rounds i pos b p x (no_turn end) ends goes next chain stand before arr later =
      subst (λ y. Alike u μ o (proceeding y w) (Goes (at_step f h p m) w))
      (sym (choose_false (is_place (innermost_last rounds) i) (at_range_end u.facts.program f rounds i) x (none_place u f m i past rounds stand goes)))
      (later (subst (λ z. AreRounds u f m z rounds) (sym next) stand) (subst (AllBefore u b) (sym next) before) (subst (Arrives u m b p) end arr))
  behind_by (r ∷ ended) past [] i pos b p x turns ends goes next chain stand before arr later = absurd stand
  behind_by (r ∷ ended) past (round ∷ rest) i pos b p x (turn_then spans exit turns) ends goes next chain stand before arr later =
      subst (λ y. Alike u μ o (proceeding y w) (Goes (at_step f h p m) w))
      (sym (choose_true (is_place (innermost_last (round ∷ rest)) i) (at_range_end u.facts.program f (round ∷ rest) i) x (one_place round rest i (stand.0.last ∙ ends.0))))
      (range_end r (ended ++ past) round rest i pos b p stand.0 stand.1 chain.0 before.0 arr spans exit)

  behind_on : (open' : List Range) (rounds : List Round) (i pos b p : ℕ) (x : Checked fortran.View) → IsBehind u i pos open' → IsChain u.facts.program open' → AreRounds u f m open' rounds → AllBefore u b open' → Arrives u m b p pos →
      (AreRounds u f m (open_at u.facts.program (suc i)) rounds → AllBefore u b (open_at u.facts.program (suc i)) → Arrives u m b p (u.begins (suc i)) → Alike u μ o (proceeding x w) (Goes (at_step f h p m) w)) →
      Alike u μ o (proceeding (if is_place (innermost_last rounds) i then at_range_end u.facts.program f rounds i else x) w) (Goes (at_step f h p m) w)
  behind_on open' rounds i pos b p x is chain stand before arr later =
      behind_by is.ended is.past rounds i pos b p x is.turns is.ends is.goes is.next (subst (IsChain u.facts.program) is.all chain) (subst (λ z. AreRounds u f m z rounds) is.all stand) (subst (AllBefore u b) is.all before) arr later

  -- a statement at its own place
  pub own_place : (i : ℕ) (j : ℕ) → Some i ≡ Some j → j ≡ i
  own_place i j e = (let same : j ≡ i = cc in same)

  own_branches : (i : ℕ) (line : Line) → slice_get u.facts.program.lines i ≡ Some line → (head : Head) (ts : Terms) → line.form ≡ On head ts → HeadBranches u.facts.program i head ts
  own_branches i line there' head ts e = subst (BranchesWell u.facts.program i) e (laid.branches i line there')

  at_own : (i p : ℕ) (line : Line) → slice_get u.facts.program.lines i ≡ Some line → Arrives u m 0 p (own_of u i) → (head : Head) (ts : Terms) → line.form ≡ On head ts → IsAt u f i (On head ts) p m
  at_own i p line there' before head ts e =
      at_form u laid.returns f m (free_at u.facts.program i) (Some i) i p (own_of u i) refl (own_place i) line there' (own_low u i) line.form (λ head' ts' e'. is_whole e')
      (form_now u.facts.program i line.form (laid.branches i line there')) (laid.stands i line there') before head ts e

  own_form : (rounds : List Round) (b i p : ℕ) (line : Line) → slice_get u.facts.program.lines i ≡ Some line → AreRounds u f m (open_at u.facts.program i) rounds → AllBefore u b (open_at u.facts.program i) → Arrives u m b p (own_of u i) →
      (form : Form) → line.form ≡ form → (lines : List Line) →
      (AreRounds u f m (open_at u.facts.program (suc i)) rounds → AllBefore u b (open_at u.facts.program (suc i)) → Arrives u m b p (u.begins (suc i)) →
      Alike u μ o (proceeding (landed u.facts.program f rounds (settle (suc i) None (innermost_last rounds) lines)) w) (Goes (at_step f h p m) w)) →
      Alike u μ o (proceeding (landed u.facts.program f rounds (by_form i (innermost_last rounds) form lines)) w) (Goes (at_step f h p m) w)
  unfolding proceeding landed by_form
  own_form rounds b i p line there' stand low before Passes e lines later =
      subst (λ y. Alike u μ o (proceeding y w) (Goes (at_step f h p m) w)) (sym (landed_if u.facts.program f rounds i (is_place (innermost_last rounds) i) (settle (suc i) None (innermost_last rounds) lines)))
      (behind_on (open_at u.facts.program i) rounds i (ends_of u i) b p (landed u.facts.program f rounds (settle (suc i) None (innermost_last rounds) lines)) (laid.behind i line there' (passes_no_loop line.form e)) (laid.chain i) stand low
      (arrives_on before (leads_to_end (free_at u.facts.program i) (Some i) (own_of u i) (ends_of u i) line.form (laid.stands i line there') e)) later)
  own_form rounds b i p line there' stand low before (On head ts) e lines later = comes_to rounds i p head ts (own_branches i line there' head ts e) stand (at_own i p line there' (arrives_low (omega arith) before) head ts e)

  -- the end of the block behind an END IF
  behind_end : (i : ℕ) (line : Line) → slice_get u.facts.program.lines i ≡ Some line → line.mark ≡ Closes → Leads u (u.begins i) (ends_of u i)
  behind_end i line there' e =
      leads_to_end (free_at u.facts.program i) (Some i) (u.begins i) (ends_of u i) line.form
      (subst (λ n. Stands u (free_at u.facts.program i) (Some i) line.form n (ends_of u i)) (ap (own_by (u.begins i)) there' ∙ own_marked (u.begins i) line Closes e) (laid.stands i line there')) (laid.closes i line there' e)

  -- FORTRAN settles on a place among these statements, and the text comes to it
  abbrev Settles : List Round → ℕ → Option ℕ → ℕ → List Line → Type 0
  Settles rounds i skipping p lines = Alike u μ o (proceeding (landed u.facts.program f rounds (settle i skipping (innermost_last rounds) lines)) w) (Goes (at_step f h p m) w)

  -- the loops at a statement, and the text before it
  record IsNear (rounds : List Round) (b i p : ℕ) : Type 0 where
    stand : AreRounds u f m (open_at u.facts.program i) rounds
    before : AllBefore u b (open_at u.facts.program i)
    arrives : Arrives u m b p (u.begins i)

  near_same : (rounds : List Round) (b i j p : ℕ) → SameOpen u.facts.program j i → AreRounds u f m (open_at u.facts.program i) rounds → AllBefore u b (open_at u.facts.program i) → Arrives u m b p (u.begins j) → IsNear rounds b j p
  near_same rounds b i j p alike stand before arr = record { stand = subst (λ z. AreRounds u f m z rounds) (sym alike) stand; before = subst (AllBefore u b) (sym alike) before; arrives = arr }

  -- the end of a block is near, with the loops that are open at its arms
  abbrev NearEnd : List Round → ℕ → ℕ → Option ℕ → Type 0
  NearEnd rounds b p found = (n : ℕ) → found ≡ Some n → IsNear rounds b n p

  settles_by : (rounds : List Round) (b i p : ℕ) (line : Line) (lines : List Line) (mark : Mark) → line.mark ≡ mark → slice_get u.facts.program.lines i ≡ Some line → lines ≡ drop (suc i) u.facts.program.lines → IsNear rounds b i p →
      (IsNear rounds b (suc i) p → Settles rounds (suc i) None p lines) → (NearEnd rounds b p (closing_from (suc i) 0 lines) → Settles rounds (suc i) (Some 0) p lines) →
      Alike u μ o (proceeding (landed u.facts.program f rounds (by_mark i (innermost_last rounds) mark line.form lines)) w) (Goes (at_step f h p m) w)
  unfolding by_mark
  settles_by rounds b i p line lines Arm e there' is near later passes =
      passes (λ n e'.
      let way = laid.skips i n line there' e (ap (closing_from (suc i) 0) (sym is) ∙ e') in
      near_same rounds b i n p way.1 near.stand near.before (arrives_on near.arrives way.0))
  settles_by rounds b i p line lines Plain e there' is near later passes =
      own_form rounds b i p line there' near.stand near.before (subst (Arrives u m b p) (sym (ap (own_by (u.begins i)) there' ∙ own_marked (u.begins i) line Plain e)) near.arrives) line.form refl lines
      (λ stand before arr. later (record { stand = stand; before = before; arrives = arr }))
  settles_by rounds b i p line lines Opens e there' is near later passes =
      own_form rounds b i p line there' near.stand near.before (subst (Arrives u m b p) (sym (ap (own_by (u.begins i)) there' ∙ own_marked (u.begins i) line Opens e)) near.arrives) line.form refl lines
      (λ stand before arr. later (record { stand = stand; before = before; arrives = arr }))
  settles_by rounds b i p line lines Closes e there' is near later passes =
      own_form rounds b i p line there' near.stand near.before (subst (Arrives u m b p) (sym (ap (own_by (u.begins i)) there' ∙ own_marked (u.begins i) line Closes e)) near.arrives) line.form refl lines
      (λ stand before arr. later (record { stand = stand; before = before; arrives = arr }))

  behind_block : (rounds : List Round) (b i p : ℕ) (line : Line) → slice_get u.facts.program.lines i ≡ Some line → line.mark ≡ Closes → IsNear rounds b i p → IsNear rounds b (suc i) p
  behind_block rounds b i p line there' e near =
      let flat = laid.flat i line there' (λ plain. absurd (let bad : Closes ≡ Plain = sym e ∙ plain in cc)) in
      near_same rounds b i (suc i) p flat.same near.stand near.before (subst (Arrives u m b p) flat.end (arrives_on near.arrives (behind_end i line there' e)))

  skips_by : (rounds : List Round) (b depth i p : ℕ) (line : Line) (lines : List Line) (mark : Mark) → line.mark ≡ mark → slice_get u.facts.program.lines i ≡ Some line →
      NearEnd rounds b p (closing_by i depth mark lines) → (IsNear rounds b (suc i) p → Settles rounds (suc i) None p lines) →
      ((d : ℕ) → NearEnd rounds b p (closing_from (suc i) d lines) → Settles rounds (suc i) (Some d) p lines) →
      Alike u μ o (proceeding (landed u.facts.program f rounds (in_block i (innermost_last rounds) depth mark lines)) w) (Goes (at_step f h p m) w)
  unfolding in_block closing_by
  skips_by rounds b depth i p line lines Plain e there' ends later passes = passes depth ends
  skips_by rounds b depth i p line lines Opens e there' ends later passes = passes (suc depth) ends
  skips_by rounds b depth i p line lines Arm e there' ends later passes = passes depth ends
  skips_by rounds b zero i p line lines Closes e there' ends later passes = later (behind_block rounds b i p line there' e (ends i refl))
  skips_by rounds b (suc depth) i p line lines Closes e there' ends later passes = passes depth ends

  mutual
    unfolding proceeding landed settle

    settles : (rounds : List Round) (b i p : ℕ) (lines : List Line) → lines ≡ drop i u.facts.program.lines → IsNear rounds b i p → Settles rounds i None p lines
    settles rounds b i p [] is near = tt
    settles rounds b i p (line ∷ lines) is near =
        let here = first_dropped u.facts.program.lines i line lines is in
        subst (λ x. Alike u μ o (proceeding (landed u.facts.program f rounds x) w) (Goes (at_step f h p m) w)) (sym (settle_parts i (innermost_last rounds) line.label line.mark line.loop line.card line.form lines))
        (settles_by rounds b i p line lines line.mark refl here.0 here.1 near (λ after. settles rounds b (suc i) p lines here.1 after) (λ ends. skips rounds b 0 (suc i) p lines here.1 ends))

    skips : (rounds : List Round) (b depth i p : ℕ) (lines : List Line) → lines ≡ drop i u.facts.program.lines → NearEnd rounds b p (closing_from i depth lines) → Settles rounds i (Some depth) p lines
    skips rounds b depth i p [] is ends = tt
    skips rounds b depth i p (line ∷ lines) is ends =
        let here = first_dropped u.facts.program.lines i line lines is in
        subst (λ x. Alike u μ o (proceeding (landed u.facts.program f rounds x) w) (Goes (at_step f h p m) w)) (sym (block_parts i (innermost_last rounds) depth line.label line.mark line.loop line.card line.form lines))
        (skips_by rounds b depth i p line lines line.mark refl here.0 (λ n e. ends n (closing_parts i depth line.label line.mark line.loop line.card line.form lines ∙ e))
        (λ after. settles rounds b (suc i) p lines here.1 after) (λ d ends'. skips rounds b d (suc i) p lines here.1 ends'))

  pub arrives : (rounds : List Round) (b i p : ℕ) → AreRounds u f m (open_at u.facts.program i) rounds → AllBefore u b (open_at u.facts.program i) → Arrives u m b p (u.begins i) →
      Alike u μ o (proceeding (arrived u.facts.program f rounds i) w) (Goes (at_step f h p m) w)
  unfolding arrived
  arrives rounds b i p stand before arr = settles rounds b i p (drop i u.facts.program.lines) refl (record { stand = stand; before = before; arrives = arr })

  -- behind a statement, also behind the loops that end there
  pub passes_behind : (open' : List Range) (rounds : List Round) (b i pos p : ℕ) → IsBehind u i pos open' → IsChain u.facts.program open' → AreRounds u f m open' rounds → AllBefore u b open' → Arrives u m b p pos →
      Alike u μ o (proceeding (passed u.facts.program f rounds i) w) (Goes (at_step f h p m) w)
  unfolding passed
  passes_behind open' rounds b i pos p is chain stand before arr =
      behind_on open' rounds i pos b p (arrived u.facts.program f rounds (suc i)) is chain stand before arr (λ stand' before' arr'. arrives rounds b (suc i) p stand' before' arr')

  pub passes_on : (rounds : List Round) (i p : ℕ) (line : Line) → slice_get u.facts.program.lines i ≡ Some line → loop_of line.form ≡ None → AreRounds u f m (open_at u.facts.program i) rounds → Arrives u m (u.begins i) p (ends_of u i) →
      Alike u μ o (proceeding (passed u.facts.program f rounds i) w) (Goes (at_step f h p m) w)
  passes_on rounds i p line there' quiet stand arr = passes_behind (open_at u.facts.program i) rounds (u.begins i) i (ends_of u i) p (laid.behind i line there' quiet) (laid.chain i) stand (laid.before i) arr

  -- at the next arm, where the condition before it does not hold
  arm_at : (rounds : List Round) (i p j : ℕ) (x : Option Line) → slice_get u.facts.program.lines j ≡ x → p ≡ own_of u j → IsFlat u j → AreRounds u f m (open_at u.facts.program j) rounds → (now : fortran.Now) →
      Alike u μ o (proceeding (at_arm u.facts (record { frame = f; at = i; now = now; loops = rounds }) j x) w) (Goes (at_step f h p m) w)
  unfolding proceeding at_arm
  arm_at rounds i p j None e at flat stand now = tt
  arm_at rounds i p j (Some line) e at flat stand now = by_line line.form refl
    where
      by_line : (form : Form) → line.form ≡ form → Alike u μ o (proceeding (elim form [
        | Passes ↦ arrived u.facts.program f rounds (suc j)
        | On head operands ↦ Gives (record { frame = f; at = j; now = fortran.Doing (On head operands); loops = rounds })
      ]) w) (Goes (at_step f h p m) w)
      by_line Passes is =
          let low = own_low u j in
          let way = leads_to_end (free_at u.facts.program j) (Some j) (own_of u j) (ends_of u j) line.form (laid.stands j line e) is in
          arrives rounds (u.begins j) (suc j) p (subst (λ z. AreRounds u f m z rounds) (sym flat.same) stand) (subst (AllBefore u (u.begins j)) (sym flat.same) (laid.before j))
          (plainly (omega (arith, at, low)) (subst (λ z. Leads u z (u.begins (suc j))) (sym at) (subst (Leads u (own_of u j)) flat.end way)))
      by_line (On head ts) is = comes_to rounds j p head ts (own_branches j line e head ts is) stand (at_own j p line e (plainly (omega arith) (subst (λ z. Leads u p z) at there)) head ts is)

  pub next_arm_at : (rounds : List Round) (i n p : ℕ) (now : fortran.Now) (x : Option ℕ) → AreRounds u f m (open_at u.facts.program i) rounds → p ≡ ends_of u i + n → ((j : ℕ) → x ≡ Some j → IsNextArm u i n j) →
      Alike u μ o (proceeding (next_arm u.facts (record { frame = f; at = i; now = now; loops = rounds }) x) w) (Goes (at_step f h p m) w)
  unfolding proceeding next_arm
  next_arm_at rounds i n p now None stand at next = tt
  next_arm_at rounds i n p now (Some j) stand at next =
      let arm = next j refl in
      arm_at rounds i p j (slice_get u.facts.program.lines j) refl (at ∙ arm.way) arm.flat (subst (λ z. AreRounds u f m z rounds) (sym arm.same) stand) now

  -- to a label
  at_place : (rounds : List Round) (i label p : ℕ) (x : Option ℕ) → place_of_label u.facts.program label ≡ x → AreRounds u f m (open_at u.facts.program i) rounds → Reaches u.facts.program i label →
      ((j : ℕ) → u.position label ≡ Some (u.begins j) → Arrives u m (u.begins j) p (u.begins j)) →
      Alike u μ o (proceeding (branched u.facts.program f rounds x) w) (Goes (at_step f h p m) w)
  unfolding branched proceeding
  at_place rounds i label p None e stand reaches to' = tt
  at_place rounds i label p (Some j) e stand reaches to' =
      arrives (filter (is_in_range j) rounds) (u.begins j) j p (subst (λ z. AreRounds u f m z (filter (is_in_range j) rounds)) (sym (reaches j e)) (rounds_filter u f m j (open_at u.facts.program i) rounds stand))
      (laid.before j) (to' j (laid.labels label j e))

  -- to the label that a CALL answers
  pub branches_to_label : (rounds : List Round) (i label p : ℕ) → AreRounds u f m (open_at u.facts.program i) rounds → Reaches u.facts.program i label →
      ((j : ℕ) → u.position label ≡ Some (u.begins j) → Arrives u m (u.begins j) p (u.begins j)) → Alike u μ o (proceeding (gone_to u.facts.program f rounds label) w) (Goes (at_step f h p m) w)
  unfolding gone_to
  branches_to_label rounds i label p stand reaches to' = at_place rounds i label p (place_of_label u.facts.program label) refl stand reaches to'

  at_label : (rounds : List Round) (i label p : ℕ) (x : Option ℕ) → place_of_label u.facts.program label ≡ x → AreRounds u f m (open_at u.facts.program i) rounds → Reaches u.facts.program i label →
      Alike u μ o (proceeding (branched u.facts.program f rounds x) w) (jump u label (at_step f h p m) w)
  unfolding branched proceeding jump to_place to
  at_label rounds i label p None e stand reaches = tt
  at_label rounds i label p (Some j) e stand reaches =
      subst (λ z. Alike u μ o (proceeding (arrived u.facts.program f (filter (is_in_range j) rounds) j) w) (to_place z (at_step f h p m) w)) (sym (laid.labels label j e))
      (arrives (filter (is_in_range j) rounds) (u.begins j) j (u.begins j) (subst (λ z. AreRounds u f m z (filter (is_in_range j) rounds)) (sym (reaches j e)) (rounds_filter u f m j (open_at u.facts.program i) rounds stand))
      (laid.before j) (plainly (omega arith) there))

  pub goes_to_label : (rounds : List Round) (i label p : ℕ) → AreRounds u f m (open_at u.facts.program i) rounds → Reaches u.facts.program i label → Alike u μ o (proceeding (gone_to u.facts.program f rounds label) w) (jump u label (at_step f h p m) w)
  unfolding gone_to
  goes_to_label rounds i label p stand reaches = at_label rounds i label p (place_of_label u.facts.program label) refl stand reaches
