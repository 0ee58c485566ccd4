-- The code of each statement stands where `start_of` says, and the text of a unit is laid out.
use Rattle.std.specs.Prelude.{◌≡◌, ℕ, zero, suc, ◌+◌, ◌-◌, ◌<◌, ◌≤◌, nat_eq, Bool, true, false, not, ◌&&◌, ◌||◌, List, [], ◌∷◌, ◌++◌, length, drop, filter, Option, Some, None, slice_get, option_map, if◌then◌else◌}
use Rattle.std.proofs.Common.{refl, sym, ap, ◌∙◌, subst, arith, true≢false}
use Rattle.std.proofs.lemmas.Bool.{eqb-true, eq-eqb}
use Rattle.fortran_laws.specs.f_tree.Terms.{AsSubroutine, Callee, Terms, NoMore}
use Rattle.fortran_laws.specs.f_tree.Facts as head
use Rattle.fortran_laws.specs.f_tree.Facts.{Head, Form, Passes, On, Mark, Plain, Opens, Arm, Closes, LoopMark, Line, ProgramUnit, Facts}
use Rattle.fortran_laws.specs.f_tree.Places.{place_of_label, terminal_of, arm_from, arm_after}
use Rattle.fortran_laws.specs.f_tree.Nests.{Range, loop_of, ranges_of, open_at, goes_past, AreNested}
use Rattle.fortran_laws.specs.f_tree.Setting.{IsIn, first_in, later_in}
use Rattle.fortran_laws.specs.f_tree.Step.{assigned_in}
use Rattle.fortran_laws.proofs.NestLaws.{range_of_loop, open_is_within}
use Rattle.lowering.specs.l_core.Pures.{Pures, NoPure, AndPure}
use Rattle.lowering.specs.l_core.Steps.{Step, Keep, Put, PutText, PutLabel, Compute, Unless, Skip, Again, AgainIf, Jump, Select, JumpBy, Pass, CallFor, CallSub, Branch, Way, Back, BackBy, Halt, Acts, Text}
use Rattle.lowering.specs.Statements.{wants_no_value, test_by, back_by, turn_code, form_code, head_code, loop_operands}
use Rattle.lowering.specs.Units.{listed, statement_code, loop_lowered, free_at, is_counted, turn_size, turns_up_to, loop_exit, way_back, turn_of, all_named, is_named, pass_code, steps_of, ended_at, turn_sizes, skip_size, form_size, line_size, size_before, start_of, mark_at, own_start, form_size_at, own_end, block_end_from, block_end_of, arm_room, range_of, loop_room, room_of, turns_of, skip_code, line_code, both_codes, lines_code, lines_marks, text_with, keeps_return, begins_with_branch, calls_well, if_called_well, lowered_unit, loop_at_line, free_of}
use Rattle.lowering_laws.specs.Walks.{IsNoBranch, Spans, nothing, further}
use Rattle.lowering_laws.specs.Layer.{Leads, there, by_pass, by_skip, own_by, own_of, AllBefore, TurnsStand, no_turn, turn_then, AllEnd, NoneEnds, IsBehind, IsChain, SameOpen, IsFlat, IsNextArm, IsLoop, closing_from, block_ends, IsCode, no_code, Stands, no_step, IsCall, IsFollowed, IsLaidOut}
use Rattle.lowering_laws.specs.Layout.{is_direct, is_direct_head, enters_arm, begins_loop, LoopsFit, takes_no_step, is_direct_as, are_direct, is_end, ends_behind, has_end}
use Rattle.lowering_laws.proofs.WalkLemmas.{split, spans_length, spans_nothing, spans_one, ordinary_by, choose_true, choose_false}
use Rattle.lowering_laws.proofs.PlaceLemmas.{code_stands, first_dropped, lowered_is}
use Rattle.lowering.specs.Expressions.{Lowered}
use Rattle.lowering_laws.proofs.OperandLemmas.{loop_grows}
use Rattle.lowering_laws.proofs.CodeLemmas.{form_length, direct_code, arm_code, test_code, do_code, HasFour, loop_four}
use Rattle.lowering_laws.proofs.RangeLemmas.{from_filter, in_back, are_nested, loop_ends, loop_quiet, quiet_ended, open_at_end, still_open, next_open, range_open, parts_open, chain_at, ended_end, past_goes, is_start, is_start_head, branches_fit, entries_fit, block_quiet, arms_alike, LoopsArePlain, assigned_reaches}

-- ## Lists of steps

nothing_behind : (xs : List Step) → xs ++ [] ≡ xs
nothing_behind [] = refl
nothing_behind (x ∷ xs) = ap (λ ys. x ∷ ys) (nothing_behind xs)

joined_behind : (xs ys zs : List Step) → xs ++ (ys ++ zs) ≡ (xs ++ ys) ++ zs
joined_behind [] ys zs = refl
joined_behind (x ∷ xs) ys zs = ap (λ z. x ∷ z) (joined_behind xs ys zs)

length_both : (xs ys : List Step) → length (xs ++ ys) ≡ length xs + length ys
length_both [] ys = let e : length ys ≡ 0 + length ys = omega arith in e
length_both (x ∷ xs) ys = let one = length_both xs ys in let e : suc (length xs + length ys) ≡ suc (length xs) + length ys = omega arith in ap suc one ∙ e

step_dropped : (xs : List Step) (p : ℕ) (x : Step) (rest : List Step) → drop p xs ≡ x ∷ rest → (slice_get xs p ≡ Some x) × (drop (suc p) xs ≡ rest)
step_dropped [] zero x rest is = absurd (cc)
step_dropped [] (suc p) x rest is = absurd (cc)
step_dropped (y ∷ xs) zero x rest is = (cc, cc)
step_dropped (y ∷ xs) (suc p) x rest is = step_dropped xs p x rest is

-- code that stands in a list, and what is behind it
spans_by : (u : Text) (p : ℕ) (code behind : List Step) → drop p u.steps ≡ code ++ behind → Spans u p code (p + length code) × (drop (p + length code) u.steps ≡ behind)
spans_by u p [] behind is = let e : p + 0 ≡ p = omega arith in (subst (λ z. Spans u p [] z) (sym e) nothing, ap (λ z. drop z u.steps) e ∙ is)
spans_by u p (x ∷ code) behind is =
    let one = step_dropped u.steps p x (code ++ behind) is in
    let more = spans_by u (suc p) code behind one.1 in
    let e : p + suc (length code) ≡ suc p + length code = omega arith in
    (further one.0 (subst (λ z. Spans u (suc p) code z) (sym e) more.0), ap (λ z. drop z u.steps) e ∙ more.1)

-- ## Lines

size_none : (p : ProgramUnit) (i : ℕ) (lines : List Line) → size_before p i lines 0 ≡ 0
unfolding size_before
size_none p i [] = refl
size_none p i (line ∷ lines) = refl

size_next : (p : ProgramUnit) (i n j : ℕ) (lines : List Line) (line : Line) → j ≡ i + n → slice_get lines n ≡ Some line → size_before p i lines (suc n) ≡ size_before p i lines n + line_size p j line
unfolding size_before
size_next p i n j [] line at is = absurd (cc)
size_next p i zero j (x ∷ lines) line at is =
    let same : x ≡ line = cc in
    let none = size_none p (suc i) lines in
    let here : j ≡ i = omega (arith, at) in
    let e : line_size p i x + size_before p (suc i) lines 0 ≡ 0 + line_size p i x = omega (arith, none) in
    e ∙ ap (λ z. 0 + line_size p i z) same ∙ ap (λ z. 0 + line_size p z line) (sym here)
size_next p i (suc n) j (x ∷ lines) line at is =
    let more = size_next p (suc i) n j lines line (omega (arith, at)) is in
    let e : line_size p i x + (size_before p (suc i) lines n + line_size p j line) ≡ line_size p i x + size_before p (suc i) lines n + line_size p j line = omega arith in
    ap (λ z. line_size p i x + z) more ∙ e

size_up : (p : ProgramUnit) (i n m : ℕ) (lines : List Line) → n ≤ m → size_before p i lines n ≤ size_before p i lines m
unfolding size_before
size_up p i n m [] le = let e : 0 ≤ 0 = omega arith in e
size_up p i zero m (x ∷ lines) le = let e : 0 ≤ size_before p i (x ∷ lines) m = omega arith in e
size_up p i (suc n) zero (x ∷ lines) le = absurd (omega (arith, le))
size_up p i (suc n) (suc m) (x ∷ lines) le =
    let more = size_up p (suc i) n m lines (omega (arith, le)) in
    let e : line_size p i x + size_before p (suc i) lines n ≤ line_size p i x + size_before p (suc i) lines m = omega (arith, more) in
    e

start_up : (p : ProgramUnit) (i j : ℕ) → i ≤ j → start_of p i ≤ start_of p j
unfolding start_of
start_up p i j le = size_up p 0 i j p.lines le

-- the end of an arm of a block, and where its own steps begin
own_marked : (n : ℕ) (mark : Mark) → n + skip_size mark ≡ elim mark [ Arm ↦ suc n | _ ↦ n ]
unfolding skip_size
own_marked n Plain = omega arith
own_marked n Opens = omega arith
own_marked n Arm = omega arith
own_marked n Closes = omega arith

own_same : (n : ℕ) (x : Option Line) → n + mark_at x ≡ own_by n x
unfolding mark_at
own_same n None = omega arith
own_same n (Some line) = own_marked n line.mark

-- ## Blocks

record IsArmLine (all : List Line) (j : ℕ) : Type 0 where
  line : Line
  there : slice_get all j ≡ Some line
  marked : line.mark ≡ Plain → ⊥

apart_by : (b : Bool) (d : ℕ) → nat_eq (suc d) 0 ≡ b → b ≡ false
apart_by false d e = refl
apart_by true d e = let same : suc d ≡ 0 = eqb-true (suc d) 0 e in absurd (omega (arith, same))

zero_apart : (d : ℕ) → nat_eq (suc d) 0 ≡ false
zero_apart d = apart_by (nat_eq (suc d) 0) d refl

arm_up_by : (i depth : ℕ) (mark : Mark) (lines : List Line) (j : ℕ) → ((d : ℕ) → arm_from (suc i) d lines ≡ Some j → suc i ≤ j) →
    elim mark [
      | Plain ↦ arm_from (suc i) depth lines
      | Opens ↦ arm_from (suc i) (suc depth) lines
      | Arm ↦ if nat_eq depth 0 then Some i else arm_from (suc i) depth lines
      | Closes ↦ elim depth [ zero ↦ Some i | suc d ↦ arm_from (suc i) d lines ]
    ] ≡ Some j → i ≤ j
arm_up_by i depth Plain lines j more e = let le = more depth e in omega (arith, le)
arm_up_by i depth Opens lines j more e = let le = more (suc depth) e in omega (arith, le)
arm_up_by i zero Arm lines j more e = let same : i ≡ j = cc in omega (arith, same)
arm_up_by i (suc depth) Arm lines j more e =
    let le = more (suc depth) (ap (λ b. if b then Some i else arm_from (suc i) (suc depth) lines) (sym (zero_apart depth)) ∙ e) in
    omega (arith, le)
arm_up_by i zero Closes lines j more e = let same : i ≡ j = cc in omega (arith, same)
arm_up_by i (suc depth) Closes lines j more e = let le = more depth e in omega (arith, le)

arm_up : (i depth : ℕ) (lines : List Line) (j : ℕ) → arm_from i depth lines ≡ Some j → i ≤ j
unfolding arm_from
arm_up i depth [] j e = absurd (cc)
arm_up i depth (line ∷ lines) j e = arm_up_by i depth line.mark lines j (λ d e'. arm_up (suc i) d lines j e') e

-- the next arm begins with a statement of the block
arm_there_by : (all : List Line) (i depth : ℕ) (mark : Mark) (line : Line) (lines : List Line) (j : ℕ) → line.mark ≡ mark → slice_get all i ≡ Some line →
    ((d : ℕ) → arm_from (suc i) d lines ≡ Some j → IsArmLine all j) →
    elim mark [
      | Plain ↦ arm_from (suc i) depth lines
      | Opens ↦ arm_from (suc i) (suc depth) lines
      | Arm ↦ if nat_eq depth 0 then Some i else arm_from (suc i) depth lines
      | Closes ↦ elim depth [ zero ↦ Some i | suc d ↦ arm_from (suc i) d lines ]
    ] ≡ Some j → IsArmLine all j
arm_there_by all i depth Plain line lines j marked there' more e = more depth e
arm_there_by all i depth Opens line lines j marked there' more e = more (suc depth) e
arm_there_by all i zero Arm line lines j marked there' more e =
    let same : i ≡ j = cc in
    subst (IsArmLine all) same (record { line = line; there = there'; marked = λ plain. absurd (let bad : Arm ≡ Plain = sym marked ∙ plain in cc) })
arm_there_by all i (suc depth) Arm line lines j marked there' more e = more (suc depth) (ap (λ b. if b then Some i else arm_from (suc i) (suc depth) lines) (sym (zero_apart depth)) ∙ e)
arm_there_by all i zero Closes line lines j marked there' more e =
    let same : i ≡ j = cc in
    subst (IsArmLine all) same (record { line = line; there = there'; marked = λ plain. absurd (let bad : Closes ≡ Plain = sym marked ∙ plain in cc) })
arm_there_by all i (suc depth) Closes line lines j marked there' more e = more depth e

arm_there : (all : List Line) (i depth : ℕ) (lines : List Line) (j : ℕ) → lines ≡ drop i all → arm_from i depth lines ≡ Some j → IsArmLine all j
unfolding arm_from
arm_there all i depth [] j at e = absurd (cc)
arm_there all i depth (line ∷ lines) j at e =
    let here = first_dropped all i line lines at in
    arm_there_by all i depth line.mark line lines j refl here.0 (λ d e'. arm_there all (suc i) d lines j here.1 e') e

arm_line : (p : ProgramUnit) (i j : ℕ) → arm_after p i ≡ Some j → IsArmLine p.lines j
unfolding arm_after
arm_line p i j e = arm_there p.lines (suc i) 0 (drop (suc i) p.lines) j refl e

-- the next arm of a block, or its end
data NextArm (all : List Line) : Option ℕ → ℕ → Type 0 where
  at_end : {e : ℕ} (line : Line) → slice_get all e ≡ Some line → line.mark ≡ Closes → NextArm all (Some e) e
  at_arm : {j e : ℕ} (line : Line) → slice_get all j ≡ Some line → line.mark ≡ Arm → closing_from (suc j) 0 (drop (suc j) all) ≡ Some e → NextArm all (Some j) e

next_by : (all : List Line) (i depth : ℕ) (mark : Mark) (line : Line) (lines : List Line) (e : ℕ) → line.mark ≡ mark → slice_get all i ≡ Some line → lines ≡ drop (suc i) all →
    ((d : ℕ) → closing_from (suc i) d lines ≡ Some e → NextArm all (arm_from (suc i) d lines) e) →
    elim mark [
      | Opens ↦ closing_from (suc i) (suc depth) lines
      | Closes ↦ elim depth [ zero ↦ Some i | suc d ↦ closing_from (suc i) d lines ]
      | _ ↦ closing_from (suc i) depth lines
    ] ≡ Some e →
    NextArm all (elim mark [
      | Plain ↦ arm_from (suc i) depth lines
      | Opens ↦ arm_from (suc i) (suc depth) lines
      | Arm ↦ if nat_eq depth 0 then Some i else arm_from (suc i) depth lines
      | Closes ↦ elim depth [ zero ↦ Some i | suc d ↦ arm_from (suc i) d lines ]
    ]) e
next_by all i depth Plain line lines e is there' at more closing = more depth closing
next_by all i depth Opens line lines e is there' at more closing = more (suc depth) closing
next_by all i zero Arm line lines e is there' at more closing = at_arm line there' is (ap (closing_from (suc i) 0) (sym at) ∙ closing)
next_by all i (suc depth) Arm line lines e is there' at more closing =
    subst (λ b. NextArm all (if b then Some i else arm_from (suc i) (suc depth) lines) e) (sym (zero_apart depth)) (more (suc depth) closing)
next_by all i zero Closes line lines e is there' at more closing =
    let same : i ≡ e = cc in
    subst (λ z. NextArm all (Some i) z) same (at_end line there' is)
next_by all i (suc depth) Closes line lines e is there' at more closing = more depth closing

next_arm : (all : List Line) (i depth : ℕ) (lines : List Line) (e : ℕ) → lines ≡ drop i all → closing_from i depth lines ≡ Some e → NextArm all (arm_from i depth lines) e
unfolding arm_from
next_arm all i depth [] e at closing = absurd (cc)
next_arm all i depth (line ∷ lines) e at closing =
    let here = first_dropped all i line lines at in
    next_by all i depth line.mark line lines e refl here.0 here.1 (λ d closing'. next_arm all (suc i) d lines e here.1 closing') closing

drop_past : (xs : List Line) (n : ℕ) → length xs ≤ n → drop n xs ≡ []
drop_past [] zero le = refl
drop_past [] (suc n) le = refl
drop_past (x ∷ xs) zero le = absurd (omega (arith, le))
drop_past (x ∷ xs) (suc n) le = drop_past xs n (omega (arith, le))

marked_as : (line : Line) (mark : Mark) → line.mark ≡ mark → mark_at (Some line) ≡ skip_size mark
unfolding mark_at
marked_as line mark e = ap skip_size e

ended_by : (p : ProgramUnit) (fuel i : ℕ) (found : Option ℕ) (e : ℕ) → arm_after p i ≡ found → NextArm p.lines found e →
    ((j : ℕ) → arm_after p i ≡ Some j → closing_from (suc j) 0 (drop (suc j) p.lines) ≡ Some e → block_end_from p fuel j (arm_after p j) ≡ e) → block_end_from p (suc fuel) i found ≡ e
unfolding block_end_from skip_size
ended_by p fuel i _ _ is (at_end {e = e} line there' marked) later =
    ap (λ n. if nat_eq n 1 then block_end_from p fuel e (arm_after p e) else e) (ap mark_at there' ∙ marked_as line Closes marked)
ended_by p fuel i _ e is (at_arm {j = j} line there' marked closing) later =
    ap (λ n. if nat_eq n 1 then block_end_from p fuel j (arm_after p j) else j) (ap mark_at there' ∙ marked_as line Arm marked) ∙ later j is closing

after_next : (p : ProgramUnit) (i e : ℕ) → NextArm p.lines (arm_from (suc i) 0 (drop (suc i) p.lines)) e → NextArm p.lines (arm_after p i) e
unfolding arm_after
after_next p i e next = next

-- an arm begins behind the one before it
after_up : (p : ProgramUnit) (i j : ℕ) → arm_after p i ≡ Some j → suc i ≤ j
unfolding arm_after
after_up p i j is = arm_up (suc i) 0 (drop (suc i) p.lines) j is

block_ended : (p : ProgramUnit) (fuel i e : ℕ) → length p.lines ≤ fuel + i → block_ends p i ≡ Some e → block_end_from p fuel i (arm_after p i) ≡ e
block_ended p zero i e le closing =
    absurd (let none : closing_from (suc i) 0 (drop (suc i) p.lines) ≡ None = ap (closing_from (suc i) 0) (drop_past p.lines (suc i) (omega (arith, le))) in let bad : None ≡ Some e = sym none ∙ closing in cc)
block_ended p (suc fuel) i e le closing =
    ended_by p fuel i (arm_after p i) e refl (after_next p i e (next_arm p.lines (suc i) 0 (drop (suc i) p.lines) e refl closing))
    (λ j is closing'. let up = after_up p i j is in block_ended p fuel j e (omega (arith, le, up)) closing')

-- so does the end of a block
closing_up_by : (i depth : ℕ) (mark : Mark) (lines : List Line) (j : ℕ) → ((d : ℕ) → closing_from (suc i) d lines ≡ Some j → suc i ≤ j) →
    elim mark [
      | Opens ↦ closing_from (suc i) (suc depth) lines
      | Closes ↦ elim depth [ zero ↦ Some i | suc d ↦ closing_from (suc i) d lines ]
      | _ ↦ closing_from (suc i) depth lines
    ] ≡ Some j → i ≤ j
closing_up_by i depth Plain lines j more e = let le = more depth e in omega (arith, le)
closing_up_by i depth Opens lines j more e = let le = more (suc depth) e in omega (arith, le)
closing_up_by i depth Arm lines j more e = let le = more depth e in omega (arith, le)
closing_up_by i zero Closes lines j more e = let same : i ≡ j = cc in omega (arith, same)
closing_up_by i (suc depth) Closes lines j more e = let le = more depth e in omega (arith, le)

closing_up : (i depth : ℕ) (lines : List Line) (j : ℕ) → closing_from i depth lines ≡ Some j → i ≤ j
closing_up i depth [] j e = absurd (cc)
closing_up i depth (line ∷ lines) j e = closing_up_by i depth line.mark lines j (λ d e'. closing_up (suc i) d lines j e') e

-- ## Units without loops

direct_no_loop : (form : Form) → is_direct form ≡ true → loop_of form ≡ None
unfolding is_direct is_direct_head loop_of
direct_no_loop form direct = grind arith

arm_no_loop : (form : Form) → enters_arm form ≡ true → loop_of form ≡ None
unfolding enters_arm loop_of
arm_no_loop form enters = grind arith

end_no_loop : (form : Form) → takes_no_step form ≡ true → loop_of form ≡ None
unfolding takes_no_step loop_of
end_no_loop Passes none = refl
end_no_loop (On h ts) none = absurd (true≢false (sym none))

both_true : (a b : Bool) → (a && b) ≡ true → (a ≡ true) × (b ≡ true)
both_true true b e = (refl, e)
both_true false b e = absurd (true≢false (sym e))

-- a form is one of two kinds
data OneOf (a b : Bool) : Type 0 where
  the_one : a ≡ true → OneOf a b
  the_other : b ≡ true → OneOf a b

one_of : (a b : Bool) → (a || b) ≡ true → OneOf a b
one_of true b e = the_one refl
one_of false b e = the_other e

block_no_loop : (form : Form) → OneOf (enters_arm form) (is_direct form) → loop_of form ≡ None
block_no_loop form (the_one e) = arm_no_loop form e
block_no_loop form (the_other e) = direct_no_loop form e

no_loop : (mark : Mark) (form : Form) → (mark ≡ Plain → ⊥) → is_direct_as mark form ≡ true → loop_of form ≡ None
unfolding is_direct_as
no_loop Plain form marked e = absurd (marked refl)
no_loop Opens form marked e = block_no_loop form (one_of (enters_arm form) (is_direct form) e)
no_loop Arm form marked e = block_no_loop form (one_of (enters_arm form) (is_direct form) e)
no_loop Closes form marked e = end_no_loop form e

-- such a statement begins in the midst of no list
mutual
  unfolding is_direct is_direct_head is_start is_start_head

  direct_start : (form : Form) → is_direct form ≡ true → is_start form ≡ true
  direct_start Passes direct = refl
  direct_start (On h ts) direct = direct_start_head h direct

  direct_start_head : (h : Head) → is_direct_head h ≡ true → is_start_head h ≡ true
  direct_start_head head.ToSet direct = refl
  direct_start_head head.ToSetText direct = refl
  direct_start_head (head.ToSetLabel label) direct = refl
  direct_start_head (head.ToGo label) direct = refl
  direct_start_head (head.ToPick labels) direct = refl
  direct_start_head (head.ToGoAssigned labels) direct = refl
  direct_start_head (head.ToGoBySign below at above) direct = refl
  direct_start_head (head.ToGuard form) direct = direct_start form direct
  direct_start_head head.ToEnterArm direct = refl
  direct_start_head (head.ToLoop label) direct = refl
  direct_start_head (head.ToTestLoop label) direct = refl
  direct_start_head (head.ToCall name) direct = refl
  direct_start_head head.ToReturn direct = refl
  direct_start_head (head.ToStop text) direct = refl
  direct_start_head (head.ToBegin way layout controls work) direct = refl
  direct_start_head (head.ToTransfer rest) direct = absurd (true≢false (sym direct))
  direct_start_head (head.ToRepeat items rest) direct = absurd (true≢false (sym direct))
  direct_start_head (head.ToTurn items q left by given rest) direct = absurd (true≢false (sym direct))
  direct_start_head head.ToFinish direct = absurd (true≢false (sym direct))
  direct_start_head (head.ToAuxiliary which controls) direct = refl
  direct_start_head head.ToEnd direct = refl

arm_start : (form : Form) → enters_arm form ≡ true → is_start form ≡ true
unfolding enters_arm is_start is_start_head
arm_start form enters = grind arith

loop_start : (form : Form) → begins_loop form ≡ true → is_start form ≡ true
unfolding begins_loop is_start is_start_head
loop_start form begins = grind arith

arm_or_direct : (form : Form) → OneOf (enters_arm form) (is_direct form) → is_start form ≡ true
arm_or_direct form (the_one e) = arm_start form e
arm_or_direct form (the_other e) = direct_start form e

loop_or_direct : (form : Form) → OneOf (begins_loop form) (is_direct form) → is_start form ≡ true
loop_or_direct form (the_one e) = loop_start form e
loop_or_direct form (the_other e) = direct_start form e

marked_start : (mark : Mark) (form : Form) → is_direct_as mark form ≡ true → is_start form ≡ true
unfolding is_direct_as takes_no_step is_start
marked_start Plain form e = loop_or_direct form (one_of (begins_loop form) (is_direct form) e)
marked_start Opens form e = arm_or_direct form (one_of (enters_arm form) (is_direct form) e)
marked_start Arm form e = arm_or_direct form (one_of (enters_arm form) (is_direct form) e)
marked_start Closes Passes e = refl
marked_start Closes (On h ts) e = absurd (true≢false (sym e))

-- a loop is a DO WHILE or a counted DO, and begins no arm
data LoopForm (form : Form) (label : Option ℕ) : Type 0 where
  by_test : (operands : Terms) → form ≡ On (head.ToTestLoop label) operands → LoopForm form label
  by_count : (operands : Terms) → form ≡ On (head.ToLoop label) operands → LoopForm form label

record IsLoopLine (line : Line) (label : Option ℕ) : Type 0 where
  marked : line.mark ≡ Plain
  kind : LoopForm line.form label

kind_of_loop : (form : Form) (label : Option ℕ) → begins_loop form ≡ true → loop_of form ≡ Some label → LoopForm form label
unfolding begins_loop loop_of
kind_of_loop Passes label begins e = absurd (true≢false (sym begins))
kind_of_loop (On (head.ToTestLoop label') ts) label begins e = let same : label' ≡ label = cc in by_test ts (ap (λ z. On (head.ToTestLoop z) ts) same)
kind_of_loop (On head.ToSet ts) label begins e = absurd (true≢false (sym begins))
kind_of_loop (On head.ToSetText ts) label begins e = absurd (true≢false (sym begins))
kind_of_loop (On (head.ToSetLabel l) ts) label begins e = absurd (true≢false (sym begins))
kind_of_loop (On (head.ToGo l) ts) label begins e = absurd (true≢false (sym begins))
kind_of_loop (On (head.ToPick ls) ts) label begins e = absurd (true≢false (sym begins))
kind_of_loop (On (head.ToGoAssigned ls) ts) label begins e = absurd (true≢false (sym begins))
kind_of_loop (On (head.ToGoBySign x y z) ts) label begins e = absurd (true≢false (sym begins))
kind_of_loop (On (head.ToGuard form) ts) label begins e = absurd (true≢false (sym begins))
kind_of_loop (On head.ToEnterArm ts) label begins e = absurd (true≢false (sym begins))
kind_of_loop (On (head.ToLoop label') ts) label begins e = let same : label' ≡ label = cc in by_count ts (ap (λ z. On (head.ToLoop z) ts) same)
kind_of_loop (On (head.ToCall name) ts) label begins e = absurd (true≢false (sym begins))
kind_of_loop (On head.ToReturn ts) label begins e = absurd (true≢false (sym begins))
kind_of_loop (On (head.ToStop text) ts) label begins e = absurd (true≢false (sym begins))
kind_of_loop (On (head.ToBegin way layout controls work) ts) label begins e = absurd (true≢false (sym begins))
kind_of_loop (On (head.ToTransfer rest) ts) label begins e = absurd (true≢false (sym begins))
kind_of_loop (On (head.ToRepeat items rest) ts) label begins e = absurd (true≢false (sym begins))
kind_of_loop (On (head.ToTurn items q left by given rest) ts) label begins e = absurd (true≢false (sym begins))
kind_of_loop (On head.ToFinish ts) label begins e = absurd (true≢false (sym begins))
kind_of_loop (On (head.ToAuxiliary which controls) ts) label begins e = absurd (true≢false (sym begins))
kind_of_loop (On head.ToEnd ts) label begins e = absurd (true≢false (sym begins))

loop_line_by : (line : Line) (label : Option ℕ) → line.mark ≡ Plain → OneOf (begins_loop line.form) (is_direct line.form) → loop_of line.form ≡ Some label → IsLoopLine line label
loop_line_by line label marked (the_one begins) e = record { marked = marked; kind = kind_of_loop line.form label begins e }
loop_line_by line label marked (the_other direct) e = absurd (let bad : None ≡ Some label = sym (direct_no_loop line.form direct) ∙ e in cc)

loop_line : (line : Line) (label : Option ℕ) (mark : Mark) → line.mark ≡ mark → is_direct_as mark line.form ≡ true → loop_of line.form ≡ Some label → IsLoopLine line label
unfolding is_direct_as
loop_line line label Plain marked ok e = loop_line_by line label marked (one_of (begins_loop line.form) (is_direct line.form) ok) e
loop_line line label Opens marked ok e = absurd (let bad : None ≡ Some label = sym (no_loop Opens line.form (λ m. absurd (cc)) ok) ∙ e in cc)
loop_line line label Arm marked ok e = absurd (let bad : None ≡ Some label = sym (no_loop Arm line.form (λ m. absurd (cc)) ok) ∙ e in cc)
loop_line line label Closes marked ok e = absurd (let bad : None ≡ Some label = sym (no_loop Closes line.form (λ m. absurd (cc)) ok) ∙ e in cc)

direct_at : (lines : List Line) (n : ℕ) (line : Line) → are_direct lines ≡ true → slice_get lines n ≡ Some line → is_direct_as line.mark line.form ≡ true
unfolding are_direct
direct_at [] n line direct is = absurd (cc)
direct_at (x ∷ lines) zero line direct is =
    let same : x ≡ line = cc in
    subst (λ (z : Line). is_direct_as z.mark z.form ≡ true) same (both_true (is_direct_as x.mark x.form) (are_direct lines) direct).0
direct_at (x ∷ lines) (suc n) line direct is = direct_at lines n line (both_true (is_direct_as x.mark x.form) (are_direct lines) direct).1 is

-- ## Where the code of a statement stands

module _ (p : ProgramUnit) (turned : (i from : ℕ) → length (turns_of p from (ended_at p i)) ≡ turn_sizes p (ended_at p i)) where
  abbrev passing_step : Line → List Step
  passing_step line = pass_code (is_named (all_named p.lines) line.label) line.form

  -- the parts of a statement's code
  record LineParts (i : ℕ) (line : Line) (code : List Step) : Type 0 where
    own : List Step
    is : statement_code p (free_at p i) (room_of p i line) line.form ≡ Some own
    all : (skip_code p i line.mark ++ (own ++ passing_step line)) ++ turns_of p (own_end p i) (ended_at p i) ≡ code

  parts_by : (i : ℕ) (line : Line) (code : List Step) (x : Option (List Step)) → statement_code p (free_at p i) (room_of p i line) line.form ≡ x →
      option_map (λ own. ((skip_code p i line.mark ++ own) ++ passing_step line) ++ turns_of p (own_end p i) (ended_at p i)) x ≡ Some code → LineParts i line code
  parts_by i line code None is e = absurd (cc)
  parts_by i line code (Some own) is e =
      let all : ((skip_code p i line.mark ++ own) ++ passing_step line) ++ turns_of p (own_end p i) (ended_at p i) ≡ code = cc in
      record { own = own; is = is; all = ap (λ z. z ++ turns_of p (own_end p i) (ended_at p i)) (joined_behind (skip_code p i line.mark) own (passing_step line)) ∙ all }

  line_parts : (i : ℕ) (line : Line) (code : List Step) → line_code p i line ≡ Some code → LineParts i line code
  unfolding line_code
  line_parts i line code e = parts_by i line code (statement_code p (free_at p i) (room_of p i line) line.form) refl e

  skip_length : (i : ℕ) (mark : Mark) → length (skip_code p i mark) ≡ skip_size mark
  unfolding skip_code skip_size
  skip_length i Plain = refl
  skip_length i Opens = refl
  skip_length i Arm = refl
  skip_length i Closes = refl

  own_length : (i : ℕ) (line : Line) (own : List Step) → statement_code p (free_at p i) (room_of p i line) line.form ≡ Some own → length own + length (passing_step line) ≡ form_size p i line
  unfolding form_size steps_of statement_code
  own_length i line own is =
      ap (λ z. z + length (passing_step line)) (ap (λ x. length (steps_of x)) (sym is) ∙ form_length p.onetrip (free_at p i) (room_of p i line) (listed (assigned_in p.lines) line.form))

  line_length : (i : ℕ) (line : Line) (code : List Step) → line_code p i line ≡ Some code → length code ≡ line_size p i line
  unfolding line_size
  line_length i line code e =
      let parts = line_parts i line code e in
      let all = length_both (skip_code p i line.mark ++ (parts.own ++ passing_step line)) (turns_of p (own_end p i) (ended_at p i)) in
      let whole = length_both (skip_code p i line.mark) (parts.own ++ passing_step line) in
      let both = length_both parts.own (passing_step line) in
      let size = own_length i line parts.own parts.is in
      let skip = skip_length i line.mark in
      let turns = turned i (own_end p i) in
      let sum : length (skip_code p i line.mark ++ (parts.own ++ passing_step line)) + length (turns_of p (own_end p i) (ended_at p i)) ≡ skip_size line.mark + form_size p i line + turn_sizes p (ended_at p i) = omega (arith, whole, both, size, skip, turns) in
      ap length (sym parts.all) ∙ all ∙ sum

  -- a statement whose code stands from a position
  record Placed (u : Text) (i at : ℕ) (line : Line) : Type 0 where
    code : List Step
    behind : List Step
    is : line_code p i line ≡ Some code
    there' : drop at u.steps ≡ code ++ behind

  record Both (one more : Option (List Step)) (steps : List Step) : Type 0 where
    first : List Step
    later : List Step
    first_is : one ≡ Some first
    later_is : more ≡ Some later
    all : first ++ later ≡ steps

  both_by : (one more : Option (List Step)) (steps : List Step) → both_codes one more ≡ Some steps → Both one more steps
  unfolding both_codes
  both_by None more steps e = absurd (cc)
  both_by (Some first) None steps e = absurd (cc)
  both_by (Some first) (Some later) steps e = record { first = first; later = later; first_is = refl; later_is = refl; all = (let all : first ++ later ≡ steps = cc in all) }

  placed : (u : Text) (lines : List Line) (i s : ℕ) (steps : List Step) → lines_code p i lines ≡ Some steps → drop s u.steps ≡ steps → (n : ℕ) (line : Line) → slice_get lines n ≡ Some line → (j t : ℕ) → j ≡ i + n → t ≡ s + size_before p i lines n →
      Placed u j t line
  unfolding lines_code size_before
  placed u [] i s steps e at n line is j t here where' = absurd (cc)
  placed u (x ∷ lines) i s steps e at zero line is j t here where' =
      let both = both_by (line_code p i x) (lines_code p (suc i) lines) steps e in
      let same : x ≡ line = cc in
      let here' : i ≡ j = omega (arith, here) in
      let place : t ≡ s + 0 = where' in
      let at' : s ≡ t = omega (arith, place) in
      subst (λ z. Placed u z t line) here' (subst (λ z. Placed u i z line) at' (subst (λ z. Placed u i s z) same (record { code = both.first; behind = both.later; is = both.first_is; there' = at ∙ sym both.all })))
  placed u (x ∷ lines) i s steps e at (suc n) line is j t here where' =
      let both = both_by (line_code p i x) (lines_code p (suc i) lines) steps e in
      let more = spans_by u s both.first both.later (at ∙ sym both.all) in
      let long = line_length i x both.first both.first_is in
      let place : t ≡ s + (line_size p i x + size_before p (suc i) lines n) = where' in
      placed u lines (suc i) (s + length both.first) both.later both.later_is more.1 n line is j t (omega (arith, here)) (omega (arith, place, long))

  -- behind a statement the next one begins
  start_next : (i : ℕ) (line : Line) → slice_get p.lines i ≡ Some line → start_of p (suc i) ≡ start_of p i + line_size p i line
  unfolding start_of
  start_next i line is = size_next p 0 i i p.lines line (let e : i ≡ 0 + i = omega arith in e) is

  -- where the own steps of a statement end, and the steps of the loops that end there
  ends_is : (i : ℕ) (line : Line) → slice_get p.lines i ≡ Some line → own_end p i ≡ start_of p i + skip_size line.mark + form_size p i line
  unfolding own_end own_start form_size_at mark_at
  ends_is i line is =
      let size : form_size_at p i (slice_get p.lines i) ≡ form_size p i line = ap (form_size_at p i) is in
      let mark : mark_at (slice_get p.lines i) ≡ skip_size line.mark = ap mark_at is in
      let sum : start_of p i + mark_at (slice_get p.lines i) + form_size_at p i (slice_get p.lines i) ≡ start_of p i + skip_size line.mark + form_size p i line = omega (arith, size, mark) in
      sum

  ends_next : (i : ℕ) (line : Line) → slice_get p.lines i ≡ Some line → own_end p i + turn_sizes p (ended_at p i) ≡ start_of p (suc i)
  unfolding line_size
  ends_next i line is =
      let next = start_next i line is in
      let end = ends_is i line is in
      let sum : own_end p i + turn_sizes p (ended_at p i) ≡ start_of p i + (skip_size line.mark + form_size p i line + turn_sizes p (ended_at p i)) = omega (arith, end) in
      sum ∙ sym next

  ends_none : (i : ℕ) → slice_get p.lines i ≡ None → own_end p i ≡ start_of p i
  unfolding own_end own_start form_size_at mark_at
  ends_none i is =
      let size : form_size_at p i (slice_get p.lines i) ≡ 0 = ap (form_size_at p i) is in
      let mark : mark_at (slice_get p.lines i) ≡ 0 = ap mark_at is in
      let sum : start_of p i + mark_at (slice_get p.lines i) + form_size_at p i (slice_get p.lines i) ≡ start_of p i = omega (arith, size, mark) in
      sum

  ends_before_by : (i : ℕ) (x : Option Line) → slice_get p.lines i ≡ x → own_end p i ≤ start_of p (suc i)
  ends_before_by i None is = let end = ends_none i is in let up = start_up p i (suc i) (omega arith) in omega (arith, end, up)
  ends_before_by i (Some line) is = let end = ends_next i line is in omega (arith, end)

  ends_before : (i : ℕ) → own_end p i ≤ start_of p (suc i)
  ends_before i = ends_before_by i (slice_get p.lines i) refl

-- ## The text

abbrev text_of : Facts → List Step → Text
text_of c steps = record {
  facts = c;
  steps = steps;
  begins = start_of c.program;
  position = λ label. option_map (start_of c.program) (place_of_label c.program label);
  marks = lines_marks c.program 0 c.program.lines;
}

-- ## The steps behind terminal statements

test_not_counted : (line : Line) (x : Option Line) (label : Option ℕ) (ts : Terms) → x ≡ Some line → line.form ≡ On (head.ToTestLoop label) ts → is_counted x ≡ false
unfolding is_counted
test_not_counted line x label ts is form = ap is_counted is ∙ ap (λ (z : Form). elim z [ Passes ↦ false | On h operands ↦ elim h [ head.ToLoop l ↦ true | _ ↦ false ] ]) form

one_turn : (p : ProgramUnit) (q : ℕ) (r : Range) → is_counted (slice_get p.lines r.first) ≡ false → length (turn_of p q r) ≡ turn_size p r
unfolding turn_of turn_size
one_turn p q r e =
    ap length (choose_false (is_counted (slice_get p.lines r.first)) _ (Again (way_back p r q) ∷ []) e) ∙ sym (choose_false (is_counted (slice_get p.lines r.first)) 2 1 e)

turns_long : (p : ProgramUnit) → ((r : Range) → IsIn r (ranges_of p) → (q : ℕ) → length (turn_of p q r) ≡ turn_size p r) → (rs : List Range) → ((r : Range) → IsIn r rs → IsIn r (ranges_of p)) → (q : ℕ) →
    length (turns_of p q rs) ≡ turn_sizes p rs
unfolding turns_of turn_sizes
turns_long p each [] among q = refl
turns_long p each (r ∷ rs) among q =
    let both = length_both (turn_of p q r) (turns_of p (q + turn_size p r) rs) in
    let one = each r (among r first_in) q in
    let more = turns_long p each rs (λ x in'. among x (later_in in')) (q + turn_size p r) in
    let sum : length (turn_of p q r) + length (turns_of p (q + turn_size p r) rs) ≡ turn_size p r + turn_sizes p rs = omega (arith, one, more) in
    both ∙ sum

ended_among : (p : ProgramUnit) (i : ℕ) (r : Range) → IsIn r (ended_at p i) → IsIn r (ranges_of p)
unfolding ended_at
ended_among p i r among = (open_is_within p i r (from_filter (λ q. not (goes_past i q)) (open_at p i) r among)).of_unit

ranges_in_order : (p : ProgramUnit) (i : ℕ) (r : Range) (done rs : List Range) → IsChain p (done ++ r ∷ rs) → (q : Range) → IsIn q done → r.first < q.first
ranges_in_order p i r [] rs chain q among = elim among [ ]
ranges_in_order p i r (x ∷ done) rs chain _ first_in = (open_is_within p x.first r (subst (IsIn r) (sym chain.0) (in_back done (r ∷ rs) r first_in))).behind
ranges_in_order p i r (x ∷ done) rs chain q (later_in among) = ranges_in_order p i r done rs chain.1 q among

turns_to : (p : ProgramUnit) (r : Range) (done rs : List Range) → ((q : Range) → IsIn q done → r.first < q.first) → turns_up_to p r.first (done ++ r ∷ rs) ≡ turn_sizes p done + turn_size p r
unfolding turns_up_to turn_sizes
turns_to p r [] rs order =
    let one : turn_size p r ≡ 0 + turn_size p r = omega arith in
    choose_true (nat_eq r.first r.first) (turn_size p r) _ (eq-eqb r.first r.first refl) ∙ one
turns_to p r (x ∷ done) rs order =
    let more = turns_to p r done rs (λ q among. order q (later_in among)) in
    let apart = order x first_in in
    let sum : turn_size p x + turns_up_to p r.first (done ++ r ∷ rs) ≡ turn_size p x + turn_sizes p done + turn_size p r = omega (arith, more) in
    choose_false (nat_eq x.first r.first) (turn_size p x) (turn_size p x + turns_up_to p r.first (done ++ r ∷ rs)) (other x.first r.first (nat_eq x.first r.first) refl (λ e. absurd (omega (arith, apart, e)))) ∙ sum
  where
    other : (a b : ℕ) (t : Bool) → nat_eq a b ≡ t → (a ≡ b → ⊥) → t ≡ false
    other a b true e apart = absurd (apart (eqb-true a b e))
    other a b false e apart = refl

exit_is : (p : ProgramUnit) (i : ℕ) (r : Range) (done rs : List Range) → r.last ≡ i → ended_at p i ≡ done ++ r ∷ rs → ((q : Range) → IsIn q done → r.first < q.first) → loop_exit p r ≡ own_end p i + (turn_sizes p done + turn_size p r)
unfolding loop_exit
exit_is p i r done rs last all order =
    ap (λ n. own_end p n + turns_up_to p r.first (ended_at p n)) last ∙ ap (λ z. own_end p i + turns_up_to p r.first z) all ∙ ap (λ z. own_end p i + z) (turns_to p r done rs order)

sizes_both : (p : ProgramUnit) (xs : List Range) (r : Range) → turn_sizes p (xs ++ r ∷ []) ≡ turn_sizes p xs + turn_size p r
unfolding turn_sizes
sizes_both p [] r = omega arith
sizes_both p (x ∷ xs) r = let more = sizes_both p xs r in let sum : turn_size p x + turn_sizes p (xs ++ r ∷ []) ≡ turn_size p x + turn_sizes p xs + turn_size p r = omega (arith, more) in sum

ranges_joined : (xs : List Range) (r : Range) (ys : List Range) → xs ++ r ∷ ys ≡ (xs ++ r ∷ []) ++ ys
ranges_joined [] r ys = refl
ranges_joined (x ∷ xs) r ys = ap (λ z. x ∷ z) (ranges_joined xs r ys)

all_end_at : (i : ℕ) (r : Range) (rs : List Range) → AllEnd i rs → IsIn r rs → r.last ≡ i
all_end_at i r [] all among = elim among [ ]
all_end_at i r (_ ∷ rs) all first_in = all.0
all_end_at i r (x ∷ rs) all (later_in among) = all_end_at i r rs all.1 among

module _ (u : Text) (i : ℕ) (chain : IsChain u.facts.program (open_at u.facts.program i)) (open' : open_at u.facts.program i ≡ ended_at u.facts.program i ++ filter (goes_past i) (open_at u.facts.program i))
    (end : AllEnd i (ended_at u.facts.program i)) (long : (r : Range) → IsIn r (ended_at u.facts.program i) → (q : ℕ) → length (turn_of u.facts.program q r) ≡ turn_size u.facts.program r) where
  -- the steps behind a terminal statement stand, those of one loop after those of the other
  turns_stand : (done rs : List Range) (q : ℕ) → ended_at u.facts.program i ≡ done ++ rs → q ≡ own_end u.facts.program i + turn_sizes u.facts.program done → Spans u q (turns_of u.facts.program q rs) (u.begins (suc i)) → TurnsStand u i q rs
  unfolding turns_of
  turns_stand done [] q all at spans = no_turn (sym (spans_nothing u spans))
  turns_stand done (r ∷ rs) q all at spans =
      let parts = split u (turn_of u.facts.program q r) spans in
      let among : IsIn r (ended_at u.facts.program i) = subst (IsIn r) (sym all) (in_back done (r ∷ rs) r first_in) in
      let size = long r among q in
      let short = spans_length u parts.1 in
      let next : parts.0 ≡ q + turn_size u.facts.program r = short ∙ ap (λ z. q + z) size in
      let order = ranges_in_order u.facts.program i r done (rs ++ filter (goes_past i) (open_at u.facts.program i)) (subst (IsChain u.facts.program) (open' ∙ ap (λ z. z ++ filter (goes_past i) (open_at u.facts.program i)) all ∙ behind_back done (r ∷ rs) (filter (goes_past i) (open_at u.facts.program i))) chain) in
      let exit = exit_is u.facts.program i r done rs (all_end_at i r (ended_at u.facts.program i) end among) all order in
      let more = sizes_both u.facts.program done r in
      turn_then (subst (Spans u q (turn_of u.facts.program q r)) next parts.1) (omega (arith, exit, at))
      (turns_stand (done ++ r ∷ []) rs (q + turn_size u.facts.program r) (all ∙ ranges_joined done r rs) (omega (arith, at, more)) (subst (λ z. Spans u z (turns_of u.facts.program (q + turn_size u.facts.program r) rs) (u.begins (suc i))) next parts.2))
    where
      behind_back : (xs ys zs : List Range) → (xs ++ ys) ++ zs ≡ xs ++ (ys ++ zs)
      behind_back [] ys zs = refl
      behind_back (x ∷ xs) ys zs = ap (λ z. x ∷ z) (behind_back xs ys zs)

-- behind a loop that ends with a statement, the other ones that end there are to be turned still
exit_by : (u : Text) (i : ℕ) (r : Range) (q : ℕ) (ended past : List Range) → IsIn r ended → TurnsStand u i q ended → AllEnd i ended → NoneEnds i past → open_at u.facts.program (suc i) ≡ past → IsChain u.facts.program (ended ++ past) →
    IsBehind u i (loop_exit u.facts.program r) (open_at u.facts.program r.first)
exit_by u i r q [] past among turns ends goes next chain = elim among [ ]
exit_by u i _ q (r ∷ ended) past first_in (turn_then spans exit turns) ends goes next chain =
    record { ended = ended; past = past; all = chain.0; turns = subst (λ z. TurnsStand u i z ended) exit turns; ends = ends.1; goes = goes; next = next }
exit_by u i r q (x ∷ ended) past (later_in among) (turn_then spans exit turns) ends goes next chain = exit_by u i r (q + turn_size u.facts.program x) ended past among turns ends.1 goes next chain.1

in_one : (i : ℕ) (r : Range) (ended past : List Range) → IsIn r (ended ++ past) → r.last ≡ i → NoneEnds i past → IsIn r ended
in_one i r [] past among last goes = absurd (not_past_end past among goes)
  where
    not_past_end : (rs : List Range) → IsIn r rs → NoneEnds i rs → ⊥
    not_past_end [] among' none = elim among' [ ]
    not_past_end (_ ∷ rs) first_in none = none.0 last
    not_past_end (x ∷ rs) (later_in among') none = not_past_end rs among' none.1
in_one i r (_ ∷ ended) past first_in last goes = first_in
in_one i r (x ∷ ended) past (later_in among) last goes = later_in (in_one i r ended past among last goes)

-- each statement of a unit that is lowered is
record IsCoded (p : ProgramUnit) (i : ℕ) (line : Line) : Type 0 where
  own : List Step
  is : statement_code p (free_at p i) (room_of p i line) line.form ≡ Some own

mapped_some : (x : Option (List Step)) (f : List Step → List Step) (code : List Step) → option_map f x ≡ Some code → (own : List Step) × (x ≡ Some own)
mapped_some None f code e = absurd (cc)
mapped_some (Some own) f code e = (own, refl)

both_some : (one more : Option (List Step)) (steps : List Step) → both_codes one more ≡ Some steps → ((code : List Step) × (one ≡ Some code)) × ((later : List Step) × (more ≡ Some later))
unfolding both_codes
both_some None more steps e = absurd (cc)
both_some (Some code) None steps e = absurd (cc)
both_some (Some code) (Some later) steps e = ((code, refl), (later, refl))

line_coded : (p : ProgramUnit) (i : ℕ) (line : Line) (code : List Step) → line_code p i line ≡ Some code → IsCoded p i line
unfolding line_code
line_coded p i line code e = let found = mapped_some (statement_code p (free_at p i) (room_of p i line) line.form) _ code e in record { own = found.0; is = found.1 }

coded_at : (p : ProgramUnit) (k i n : ℕ) (lines : List Line) (steps : List Step) (line : Line) → i ≡ n + k → lines_code p k lines ≡ Some steps → slice_get lines n ≡ Some line → IsCoded p i line
unfolding lines_code
coded_at p k i n [] steps line at e is = absurd (cc)
coded_at p k i zero (x ∷ lines) steps line at e is =
    let both = both_some (line_code p k x) (lines_code p (suc k) lines) steps e in
    let same : x ≡ line = cc in
    let place : i ≡ k = omega (arith, at) in
    subst (λ z. IsCoded p z line) (sym place) (subst (IsCoded p k) same (line_coded p k x both.0.0 both.0.1))
coded_at p k i (suc n) (x ∷ lines) steps line at e is =
    let both = both_some (line_code p k x) (lines_code p (suc k) lines) steps e in
    coded_at p (suc k) i n lines both.1.0 line (omega (arith, at)) both.1.1 is

count_is_counted : (line : Line) (x : Option Line) (label : Option ℕ) (ts : Terms) → x ≡ Some line → line.form ≡ On (head.ToLoop label) ts → is_counted x ≡ true
unfolding is_counted
count_is_counted line x label ts is form = ap is_counted is ∙ ap (λ (z : Form). elim z [ Passes ↦ false | On h operands ↦ elim h [ head.ToLoop l ↦ true | _ ↦ false ] ]) form

two_steps : (once : Bool) (n : ℕ) (ps : Pures) → HasFour ps → length (turn_code once n ps) ≡ 2
unfolding turn_code
two_steps once n ps four = ap (λ z. length (turn_code once n z)) four.is

two_turn : (p : ProgramUnit) (q : ℕ) (r : Range) → is_counted (slice_get p.lines r.first) ≡ true → HasFour (loop_lowered p (free_at p r.first) r).value → length (turn_of p q r) ≡ turn_size p r
unfolding turn_of turn_size
two_turn p q r e four =
    ap length (choose_true (is_counted (slice_get p.lines r.first)) (turn_code p.onetrip (way_back p r (q + 1)) (loop_lowered p (free_at p r.first) r).value) _ e)
    ∙ two_steps p.onetrip (way_back p r (q + 1)) (loop_lowered p (free_at p r.first) r).value four ∙ sym (choose_true (is_counted (slice_get p.lines r.first)) 2 1 e)

-- a loop that is open keeps temporaries below those that are free
head_grows : (k : ℕ) (h : Head) (ts : Terms) → k ≤ (elim h as (λ z. Lowered Pures) [ head.ToLoop label ↦ loop_operands k ts | _ ↦ loop_operands k NoMore ]).free
head_grows k (head.ToLoop label) ts = loop_grows k ts
head_grows k (head.ToTestLoop label) ts = loop_grows k NoMore
head_grows k head.ToSet ts = loop_grows k NoMore
head_grows k head.ToSetText ts = loop_grows k NoMore
head_grows k (head.ToSetLabel l) ts = loop_grows k NoMore
head_grows k (head.ToGo l) ts = loop_grows k NoMore
head_grows k (head.ToPick ls) ts = loop_grows k NoMore
head_grows k (head.ToGoAssigned ls) ts = loop_grows k NoMore
head_grows k (head.ToGoBySign x y z) ts = loop_grows k NoMore
head_grows k (head.ToGuard form) ts = loop_grows k NoMore
head_grows k head.ToEnterArm ts = loop_grows k NoMore
head_grows k (head.ToCall name) ts = loop_grows k NoMore
head_grows k head.ToReturn ts = loop_grows k NoMore
head_grows k (head.ToStop text) ts = loop_grows k NoMore
head_grows k (head.ToBegin way layout controls work) ts = loop_grows k NoMore
head_grows k (head.ToTransfer rest) ts = loop_grows k NoMore
head_grows k (head.ToRepeat items rest) ts = loop_grows k NoMore
head_grows k (head.ToTurn items q left by given rest) ts = loop_grows k NoMore
head_grows k head.ToFinish ts = loop_grows k NoMore
head_grows k (head.ToAuxiliary which controls) ts = loop_grows k NoMore
head_grows k head.ToEnd ts = loop_grows k NoMore

form_grows : (k : ℕ) (form : Form) → k ≤ (elim form as (λ z. Lowered Pures) [ Passes ↦ loop_operands k NoMore | On h operands ↦ elim h [ head.ToLoop label ↦ loop_operands k operands | _ ↦ loop_operands k NoMore ] ]).free
form_grows k Passes = loop_grows k NoMore
form_grows k (On h ts) = head_grows k h ts

line_grows : (k : ℕ) (x : Option Line) → k ≤ (loop_at_line k x).free
unfolding loop_at_line
line_grows k None = loop_grows k NoMore
line_grows k (Some line) = form_grows k line.form

range_grows : (p : ProgramUnit) (k : ℕ) (r : Range) → k ≤ (loop_lowered p k r).free
unfolding loop_lowered
range_grows p k r = line_grows k (slice_get p.lines r.first)

kept_below : (p : ProgramUnit) (rs : List Range) (r : Range) → IsChain p rs → IsIn r rs → (loop_lowered p (free_at p r.first) r).free ≤ free_of p rs
unfolding free_of free_at
kept_below p [] r chain among = elim among [ ]
kept_below p (_ ∷ outer) r chain first_in =
    let same : (loop_lowered p (free_of p (open_at p r.first)) r).free ≡ (loop_lowered p (free_of p outer) r).free = ap (λ z. (loop_lowered p (free_of p z) r).free) chain.0 in
    omega (arith, same)
kept_below p (x ∷ outer) r chain (later_in among) =
    let below = kept_below p outer r chain.1 among in
    let grows = range_grows p (free_of p outer) x in
    omega (arith, below, grows)

kept_at : (p : ProgramUnit) (i : ℕ) (r : Range) → IsChain p (open_at p i) → IsIn r (open_at p i) → (loop_lowered p (free_at p r.first) r).free ≤ free_at p i
unfolding free_at
kept_at p i r chain among = kept_below p (open_at p i) r chain among

module _ (c : Facts) (steps : List Step) (lowered : lines_code c.program 0 c.program.lines ≡ Some steps) (direct : are_direct c.program.lines ≡ true) (fits : LoopsFit c.program) where
  program : ProgramUnit
  program = c.program

  nested : AreNested c.program
  nested = are_nested c.program fits

  -- each loop stands at a plain statement
  loop_line_at : (i : ℕ) (line : Line) (label : Option ℕ) → slice_get c.program.lines i ≡ Some line → loop_of line.form ≡ Some label → IsLoopLine line label
  loop_line_at i line label is loops = loop_line line label line.mark refl (direct_at c.program.lines i line direct is) loops

  -- a DO that is lowered has its four operands
  four_at : (i : ℕ) (line : Line) (label : Option ℕ) (ts : Terms) → slice_get c.program.lines i ≡ Some line → line.form ≡ On (head.ToLoop label) ts → HasFour (loop_operands (free_at c.program i) ts).value
  unfolding statement_code listed
  four_at i line label ts is form =
      let coded = coded_at c.program 0 i i c.program.lines steps line (omega arith) lowered is in
      loop_four c.program.onetrip (free_at c.program i) (room_of c.program i line) label ts coded.own (ap (statement_code c.program (free_at c.program i) (room_of c.program i line)) (sym form) ∙ coded.is)

  turn_by : (r : Range) (line : Line) (label : Option ℕ) → slice_get c.program.lines r.first ≡ Some line → LoopForm line.form label → (q : ℕ) → length (turn_of c.program q r) ≡ turn_size c.program r
  turn_by r line label is (by_test ts form) q = one_turn c.program q r (test_not_counted line (slice_get c.program.lines r.first) label ts is form)
  turn_by r line label is (by_count ts form) q =
      two_turn c.program q r (count_is_counted line (slice_get c.program.lines r.first) label ts is form)
      (subst (λ (z : Lowered Pures). HasFour z.value) (sym (lowered_is c.program (free_at c.program r.first) r line label ts is form)) (four_at r.first line label ts is form))

  turn_long : (r : Range) → IsIn r (ranges_of c.program) → (q : ℕ) → length (turn_of c.program q r) ≡ turn_size c.program r
  turn_long r among q =
      let loop' = range_of_loop c.program r among in
      turn_by r loop'.line loop'.label loop'.there (loop_line_at r.first loop'.line loop'.label loop'.there loop'.loops).kind q

  turned : (i from : ℕ) → length (turns_of c.program from (ended_at c.program i)) ≡ turn_sizes c.program (ended_at c.program i)
  turned i from = turns_long c.program turn_long (ended_at c.program i) (λ r among. ended_among c.program i r among) from

  at_line : (i : ℕ) (line : Line) → slice_get c.program.lines i ≡ Some line → Placed c.program turned (text_of c steps) i (start_of c.program i) line
  unfolding start_of
  at_line i line is =
      placed c.program turned (text_of c steps) c.program.lines 0 0 steps lowered refl i line is i (size_before c.program 0 c.program.lines i) (let e : i ≡ 0 + i = omega arith in e)
      (let e : size_before c.program 0 c.program.lines i ≡ 0 + size_before c.program 0 c.program.lines i = omega arith in e)

  -- where no loop ends, the next statement begins
  ends_here : (i : ℕ) (line : Line) → slice_get c.program.lines i ≡ Some line → ended_at c.program i ≡ [] → own_end c.program i ≡ start_of c.program (suc i)
  unfolding turn_sizes
  ends_here i line is none =
      let next = ends_next c.program turned i line is in
      let turns : turn_sizes c.program (ended_at c.program i) ≡ 0 = ap (turn_sizes c.program) none in
      let sum : own_end c.program i ≡ own_end c.program i + turn_sizes c.program (ended_at c.program i) = omega (arith, turns) in
      sum ∙ next

  flat : (i : ℕ) (line : Line) → slice_get c.program.lines i ≡ Some line → (line.mark ≡ Plain → ⊥) → IsFlat (text_of c steps) i
  flat i line is marked = record {
    same = still_open c.program nested i line is (no_loop line.mark line.form marked (direct_at c.program.lines i line direct is)) (block_quiet c.program fits i line is marked);
    end = ends_here i line is (quiet_ended c.program nested i (block_quiet c.program fits i line is marked));
  }

  -- the condition of an arm passes its steps
  room_reaches : (i : ℕ) (line : Line) → slice_get c.program.lines i ≡ Some line → (j : ℕ) → arm_after c.program i ≡ Some j → own_end c.program i + arm_room c.program i (arm_after c.program i) ≡ own_of (text_of c steps) j
  unfolding arm_room own_start
  room_reaches i line is j arm =
      let room : arm_room c.program i (arm_after c.program i) ≡ start_of c.program j + mark_at (slice_get c.program.lines j) - own_end c.program i = ap (arm_room c.program i) arm in
      let next = ends_before c.program turned i in
      let up = start_up c.program (suc i) j (after_up c.program i j arm) in
      let own = own_same (start_of c.program j) (slice_get c.program.lines j) in
      let sum : own_end c.program i + arm_room c.program i (arm_after c.program i) ≡ start_of c.program j + mark_at (slice_get c.program.lines j) = omega (arith, room, next, up) in
      sum ∙ own

  next_arm_is : (i n : ℕ) (line : Line) → slice_get c.program.lines i ≡ Some line → (line.mark ≡ Plain → ⊥) → (line.mark ≡ Closes → ⊥) → n ≡ arm_room c.program i (arm_after c.program i) → (j : ℕ) → arm_after c.program i ≡ Some j → IsNextArm (text_of c steps) i n j
  next_arm_is i n line is marked open' room j arm =
      let next = arm_line c.program i j arm in
      record { way = ap (λ z. own_end c.program i + z) room ∙ room_reaches i line is j arm; same = arms_alike c.program fits i line is marked open' j arm; flat = flat j next.line next.there next.marked }

  -- a statement's own code
  arm_form : (i n : ℕ) (line : Line) (own : List Step) → slice_get c.program.lines i ≡ Some line → (line.mark ≡ Plain → ⊥) → (line.mark ≡ Closes → ⊥) → n ≡ arm_room c.program i (arm_after c.program i) → OneOf (enters_arm line.form) (is_direct line.form) →
      statement_code c.program (free_at c.program i) n line.form ≡ Some own → IsCode (text_of c steps) (free_at c.program i) (Some i) line.form own
  unfolding statement_code
  arm_form i n line own is marked open' room (the_one enters) e =
      arm_code (text_of c steps) (free_at c.program i) c.program.onetrip i n line.form own enters (flat i line is marked, next_arm_is i n line is marked open' room) e
  arm_form i n line own is marked open' room (the_other is_direct') e = direct_code (text_of c steps) (free_at c.program i) c.program.onetrip (Some i) n line.form own is_direct' e

  end_form : (i n : ℕ) (form : Form) (own : List Step) → takes_no_step form ≡ true → statement_code c.program (free_at c.program i) n form ≡ Some own → IsCode (text_of c steps) (free_at c.program i) (Some i) form own
  unfolding takes_no_step is_direct statement_code
  end_form i n Passes own none e = direct_code (text_of c steps) (free_at c.program i) c.program.onetrip (Some i) n Passes own refl e
  end_form i n (On h ts) own none e = absurd (true≢false (sym none))

  -- a statement that takes no step may have one for its label
  none_on : (b : Bool) (h : Head) (ts : Terms) → pass_code b (On h ts) ≡ []
  unfolding pass_code
  none_on true h ts = refl
  none_on false h ts = refl

  label_leads : (i s e : ℕ) (own : List Step) → IsCode (text_of c steps) (free_at c.program i) (Some i) Passes own → Spans (text_of c steps) s (own ++ Pass ∷ []) e → Leads (text_of c steps) s e
  label_leads i s e _ no_code spans = let one = spans_one (text_of c steps) spans in by_pass one.0 (subst (λ z. Leads (text_of c steps) (suc s) z) (sym one.1) there)

  form_stands : (i s e : ℕ) (b : Bool) (form : Form) (own : List Step) → IsCode (text_of c steps) (free_at c.program i) (Some i) form own → Spans (text_of c steps) s (own ++ pass_code b form) e →
      Stands (text_of c steps) (free_at c.program i) (Some i) form s e
  unfolding pass_code
  form_stands i s e true Passes own code spans = no_step (label_leads i s e own code spans)
  form_stands i s e false Passes own code spans = code_stands (text_of c steps) (free_at c.program i) (Some i) Passes own s e code (subst (λ z. Spans (text_of c steps) s z e) (nothing_behind own) spans)
  form_stands i s e b (On h ts) own code spans =
      code_stands (text_of c steps) (free_at c.program i) (Some i) (On h ts) own s e code (subst (λ z. Spans (text_of c steps) s z e) (ap (λ z. own ++ z) (none_on b h ts) ∙ nothing_behind own) spans)

  -- the steps of a statement, in their parts
  record LineStands (i : ℕ) (line : Line) : Type 0 where
    own : List Step
    is : statement_code c.program (free_at c.program i) (room_of c.program i line) line.form ≡ Some own
    from : ℕ
    skips : Spans (text_of c steps) (start_of c.program i) (skip_code c.program i line.mark) from
    rest : Spans (text_of c steps) from (own ++ pass_code (is_named (all_named c.program.lines) line.label) line.form) (own_end c.program i)
    turns : Spans (text_of c steps) (own_end c.program i) (turns_of c.program (own_end c.program i) (ended_at c.program i)) (start_of c.program (suc i))
    at_own : from ≡ own_of (text_of c steps) i

  line_stands : (i : ℕ) (line : Line) → slice_get c.program.lines i ≡ Some line → LineStands i line
  line_stands i line is =
      let at = at_line i line is in
      let parts = line_parts c.program turned i line at.code at.is in
      let whole = (spans_by (text_of c steps) (start_of c.program i) at.code at.behind at.there').0 in
      let long = line_length c.program turned i line at.code at.is in
      let next = start_next c.program turned i line is in
      let end : start_of c.program i + length at.code ≡ start_of c.program (suc i) = ap (λ z. start_of c.program i + z) long ∙ sym next in
      let all = subst (λ z. Spans (text_of c steps) (start_of c.program i) z (start_of c.program (suc i))) (sym parts.all) (subst (λ z. Spans (text_of c steps) (start_of c.program i) at.code z) end whole) in
      let front = skip_code c.program i line.mark ++ (parts.own ++ pass_code (is_named (all_named c.program.lines) line.label) line.form) in
      let both = split (text_of c steps) front all in
      let two = split (text_of c steps) (skip_code c.program i line.mark) both.1 in
      let short = spans_length (text_of c steps) two.1 in
      let far = spans_length (text_of c steps) both.1 in
      let sum = length_both (skip_code c.program i line.mark) (parts.own ++ pass_code (is_named (all_named c.program.lines) line.label) line.form) in
      let own_sum = length_both parts.own (pass_code (is_named (all_named c.program.lines) line.label) line.form) in
      let size = own_length c.program turned i line parts.own parts.is in
      let skip = skip_length c.program turned i line.mark in
      let ends = ends_is c.program turned i line is in
      let end' : both.0 ≡ own_end c.program i = omega (arith, far, sum, own_sum, size, skip, ends) in
      record {
        own = parts.own;
        is = parts.is;
        from = two.0;
        skips = two.1;
        rest = subst (λ z. Spans (text_of c steps) two.0 (parts.own ++ pass_code (is_named (all_named c.program.lines) line.label) line.form) z) end' two.2;
        turns = subst (λ z. Spans (text_of c steps) z (turns_of c.program (own_end c.program i) (ended_at c.program i)) (start_of c.program (suc i))) end' both.2;
        at_own = short ∙ ap (λ z. start_of c.program i + z) (skip_length c.program turned i line.mark) ∙ own_marked (start_of c.program i) line.mark ∙ ap (own_by (start_of c.program i)) (sym is);
      }

  -- behind a statement that begins no loop
  behind : (i : ℕ) (line : Line) → slice_get c.program.lines i ≡ Some line → loop_of line.form ≡ None → IsBehind (text_of c steps) i (own_end c.program i) (open_at c.program i)
  unfolding turn_sizes
  behind i line is quiet = record {
    ended = ended_at c.program i;
    past = filter (goes_past i) (open_at c.program i);
    all = parts_open c.program nested i;
    turns =
        turns_stand (text_of c steps) i (chain_at c.program nested i) (parts_open c.program nested i) (ended_end c.program nested i) (λ r among. turn_long r (ended_among c.program i r among)) [] (ended_at c.program i) (own_end c.program i) refl
        (let e : own_end c.program i ≡ own_end c.program i + 0 = omega arith in e) (line_stands i line is).turns;
    ends = ended_end c.program nested i;
    goes = past_goes c.program nested i;
    next = next_open c.program nested i line is quiet;
  }

  -- the range of a loop
  loop_is : (i : ℕ) (line : Line) (label : Option ℕ) (last : ℕ) → slice_get c.program.lines i ≡ Some line → loop_of line.form ≡ Some label → terminal_of c.program i label ≡ Some last → IsLoop (text_of c steps) i last
  loop_is i line label last is loops ends =
      let end = loop_ends c.program nested i line label last is loops ends in
      let at = behind last end.line end.there end.quiet in
      let among = in_one last (record { first = i; last = last }) at.ended at.past (subst (IsIn (record { first = i; last = last })) at.all (open_at_end c.program nested i line label last is loops ends)) refl at.goes in
      record {
        open' = range_open c.program nested i line label last is loops ends;
        end = ends_here i line is (quiet_ended c.program nested i (loop_quiet c.program nested i line label is loops));
        exit = exit_by (text_of c steps) last (record { first = i; last = last }) (own_end c.program last) at.ended at.past among at.turns at.ends at.goes at.next (subst (IsChain c.program) at.all (chain_at c.program nested last));
      }

  own_up : (i : ℕ) → start_of c.program i ≤ own_end c.program i
  unfolding own_end own_start
  own_up i = let e : start_of c.program i ≤ start_of c.program i + mark_at (slice_get c.program.lines i) + form_size_at c.program i (slice_get c.program.lines i) = omega arith in e

  exit_up : (r : Range) → own_end c.program r.last ≤ loop_exit c.program r
  unfolding loop_exit
  exit_up r = let e : own_end c.program r.last ≤ own_end c.program r.last + turns_up_to c.program r.first (ended_at c.program r.last) = omega arith in e

  found_range : (i last : ℕ) (rs : List Range) → range_of (record { first = i; last = last } ∷ rs) i ≡ Some (record { first = i; last = last })
  unfolding range_of
  found_range i last rs = choose_true (nat_eq i i) (Some (record { first = i; last = last })) (range_of rs i) (eq-eqb i i refl)

  loop_reaches : (i : ℕ) (line : Line) (label : Option ℕ) (last : ℕ) → slice_get c.program.lines i ≡ Some line → loop_of line.form ≡ Some label → terminal_of c.program i label ≡ Some last →
      own_end c.program i + loop_room c.program i (range_of (open_at c.program (suc i)) i) ≡ loop_exit c.program (record { first = i; last = last })
  unfolding loop_room
  loop_reaches i line label last is loops ends =
      let r : Range = record { first = i; last = last } in
      let room : loop_room c.program i (range_of (open_at c.program (suc i)) i) ≡ loop_exit c.program r - own_end c.program i =
      ap (λ z. loop_room c.program i (range_of z i)) (range_open c.program nested i line label last is loops ends) ∙ ap (loop_room c.program i) (found_range i last (open_at c.program i)) in
      let next = ends_before c.program turned i in
      let after = (loop_ends c.program nested i line label last is loops ends).behind in
      let up = start_up c.program (suc i) last (omega (arith, after)) in
      let own = own_up last in
      let out = exit_up r in
      omega (arith, room, next, up, own, out)

  plain_room : (i : ℕ) (line : Line) → line.mark ≡ Plain → room_of c.program i line ≡ loop_room c.program i (range_of (open_at c.program (suc i)) i)
  unfolding room_of
  plain_room i line e = ap (λ (m : Mark). elim m [ Opens ↦ arm_room c.program i (arm_after c.program i) | Arm ↦ arm_room c.program i (arm_after c.program i) | _ ↦ loop_room c.program i (range_of (open_at c.program (suc i)) i) ]) e

  form_loops : (form : Form) (label : Option ℕ) → LoopForm form label → loop_of form ≡ Some label
  unfolding loop_of
  form_loops form label (by_test ts is) = ap loop_of is
  form_loops form label (by_count ts is) = ap loop_of is

  label_of_loop : (form : Form) → begins_loop form ≡ true → (label : Option ℕ) × LoopForm form label
  unfolding begins_loop
  label_of_loop Passes e = absurd (true≢false (sym e))
  label_of_loop (On (head.ToTestLoop label) ts) e = (label, by_test ts refl)
  label_of_loop (On head.ToSet ts) e = absurd (true≢false (sym e))
  label_of_loop (On head.ToSetText ts) e = absurd (true≢false (sym e))
  label_of_loop (On (head.ToSetLabel l) ts) e = absurd (true≢false (sym e))
  label_of_loop (On (head.ToGo l) ts) e = absurd (true≢false (sym e))
  label_of_loop (On (head.ToPick ls) ts) e = absurd (true≢false (sym e))
  label_of_loop (On (head.ToGoAssigned ls) ts) e = absurd (true≢false (sym e))
  label_of_loop (On (head.ToGoBySign x y z) ts) e = absurd (true≢false (sym e))
  label_of_loop (On (head.ToGuard form) ts) e = absurd (true≢false (sym e))
  label_of_loop (On head.ToEnterArm ts) e = absurd (true≢false (sym e))
  label_of_loop (On (head.ToLoop label) ts) e = (label, by_count ts refl)
  label_of_loop (On (head.ToCall name) ts) e = absurd (true≢false (sym e))
  label_of_loop (On head.ToReturn ts) e = absurd (true≢false (sym e))
  label_of_loop (On (head.ToStop text) ts) e = absurd (true≢false (sym e))
  label_of_loop (On (head.ToBegin way layout controls work) ts) e = absurd (true≢false (sym e))
  label_of_loop (On (head.ToTransfer rest) ts) e = absurd (true≢false (sym e))
  label_of_loop (On (head.ToRepeat items rest) ts) e = absurd (true≢false (sym e))
  label_of_loop (On (head.ToTurn items q left by given rest) ts) e = absurd (true≢false (sym e))
  label_of_loop (On head.ToFinish ts) e = absurd (true≢false (sym e))
  label_of_loop (On (head.ToAuxiliary which controls) ts) e = absurd (true≢false (sym e))
  label_of_loop (On head.ToEnd ts) e = absurd (true≢false (sym e))

  begun_form : (i : ℕ) (line : Line) (own : List Step) (label : Option ℕ) → LoopForm line.form label →
      ((last : ℕ) → terminal_of c.program i label ≡ Some last → IsLoop (text_of c steps) i last × (own_end c.program i + room_of c.program i line ≡ loop_exit c.program (record { first = i; last = last }))) →
      statement_code c.program (free_at c.program i) (room_of c.program i line) line.form ≡ Some own → IsCode (text_of c steps) (free_at c.program i) (Some i) line.form own
  unfolding statement_code listed
  begun_form i line own label (by_test ts form) room e =
      subst (λ z. IsCode (text_of c steps) (free_at c.program i) (Some i) z own) (sym form)
      (test_code (text_of c steps) (free_at c.program i) c.program.onetrip i (room_of c.program i line) label ts own room (ap (statement_code c.program (free_at c.program i) (room_of c.program i line)) (sym form) ∙ e))
  begun_form i line own label (by_count ts form) room e =
      subst (λ z. IsCode (text_of c steps) (free_at c.program i) (Some i) z own) (sym form)
      (do_code (text_of c steps) (free_at c.program i) c.program.onetrip i (room_of c.program i line) label ts own refl room (ap (statement_code c.program (free_at c.program i) (room_of c.program i line)) (sym form) ∙ e))

  plain_form : (i : ℕ) (line : Line) (own : List Step) → line.mark ≡ Plain → slice_get c.program.lines i ≡ Some line → OneOf (begins_loop line.form) (is_direct line.form) →
      statement_code c.program (free_at c.program i) (room_of c.program i line) line.form ≡ Some own → IsCode (text_of c steps) (free_at c.program i) (Some i) line.form own
  unfolding statement_code
  plain_form i line own marked is (the_other is_direct') e = direct_code (text_of c steps) (free_at c.program i) c.program.onetrip (Some i) (room_of c.program i line) line.form own is_direct' e
  plain_form i line own marked is (the_one begins) e =
      let found = label_of_loop line.form begins in
      let loops = form_loops line.form found.0 found.1 in
      begun_form i line own found.0 found.1
      (λ last ends. (loop_is i line found.0 last is loops ends, ap (λ z. own_end c.program i + z) (plain_room i line marked) ∙ loop_reaches i line found.0 last is loops ends)) e

  own_code : (i : ℕ) (line : Line) (own : List Step) (mark : Mark) → line.mark ≡ mark → slice_get c.program.lines i ≡ Some line → is_direct_as mark line.form ≡ true →
      statement_code c.program (free_at c.program i) (room_of c.program i line) line.form ≡ Some own → IsCode (text_of c steps) (free_at c.program i) (Some i) line.form own
  unfolding is_direct_as room_of
  own_code i line own Plain e is ok code = plain_form i line own e is (one_of (begins_loop line.form) (is_direct line.form) ok) code
  own_code i line own Opens e is ok code =
      arm_form i (room_of c.program i line) line own is (λ m. absurd (let bad : Opens ≡ Plain = sym e ∙ m in cc)) (λ m. absurd (let bad : Opens ≡ Closes = sym e ∙ m in cc)) (ap (λ (m : Mark). elim m [ Opens ↦ arm_room c.program i (arm_after c.program i) | Arm ↦ arm_room c.program i (arm_after c.program i) | _ ↦ loop_room c.program i (range_of (open_at c.program (suc i)) i) ]) e) (one_of (enters_arm line.form) (is_direct line.form) ok) code
  own_code i line own Arm e is ok code =
      arm_form i (room_of c.program i line) line own is (λ m. absurd (let bad : Arm ≡ Plain = sym e ∙ m in cc)) (λ m. absurd (let bad : Arm ≡ Closes = sym e ∙ m in cc)) (ap (λ (m : Mark). elim m [ Opens ↦ arm_room c.program i (arm_after c.program i) | Arm ↦ arm_room c.program i (arm_after c.program i) | _ ↦ loop_room c.program i (range_of (open_at c.program (suc i)) i) ]) e) (one_of (enters_arm line.form) (is_direct line.form) ok) code
  own_code i line own Closes e is ok code = end_form i (room_of c.program i line) line.form own ok code

  stands : (i : ℕ) (line : Line) → slice_get c.program.lines i ≡ Some line → Stands (text_of c steps) (free_at c.program i) (Some i) line.form (own_of (text_of c steps) i) (own_end c.program i)
  stands i line is =
      let at = line_stands i line is in
      let code = own_code i line at.own line.mark refl is (direct_at c.program.lines i line direct is) at.is in
      subst (λ z. Stands (text_of c steps) (free_at c.program i) (Some i) line.form z (own_end c.program i)) at.at_own
      (form_stands i at.from (own_end c.program i) (is_named (all_named c.program.lines) line.label) line.form at.own code at.rest)

  -- the loops at the end of a block
  same_end_by : (fuel i e : ℕ) (line : Line) (found : Option ℕ) → slice_get c.program.lines i ≡ Some line → line.mark ≡ Arm → arm_after c.program i ≡ found → NextArm c.program.lines found e →
      ((j : ℕ) (next : Line) → arm_after c.program i ≡ Some j → slice_get c.program.lines j ≡ Some next → next.mark ≡ Arm → closing_from (suc j) 0 (drop (suc j) c.program.lines) ≡ Some e → SameOpen c.program e j) → SameOpen c.program e i
  same_end_by fuel i _ line _ is marked arm (at_end {e = e} next there' closes') later =
      arms_alike c.program fits i line is (λ m. absurd (let bad : Arm ≡ Plain = sym marked ∙ m in cc)) (λ m. absurd (let bad : Arm ≡ Closes = sym marked ∙ m in cc)) e arm
  same_end_by fuel i e line _ is marked arm (at_arm {j = j} next there' marked' closing) later =
      later j next arm there' marked' closing
      ∙ arms_alike c.program fits i line is (λ m. absurd (let bad : Arm ≡ Plain = sym marked ∙ m in cc)) (λ m. absurd (let bad : Arm ≡ Closes = sym marked ∙ m in cc)) j arm

  same_end : (fuel i e : ℕ) (line : Line) → length c.program.lines ≤ fuel + i → slice_get c.program.lines i ≡ Some line → line.mark ≡ Arm → block_ends c.program i ≡ Some e → SameOpen c.program e i
  same_end zero i e line le is marked closing =
      absurd (let none : closing_from (suc i) 0 (drop (suc i) c.program.lines) ≡ None = ap (closing_from (suc i) 0) (drop_past c.program.lines (suc i) (omega (arith, le))) in let bad : None ≡ Some e = sym none ∙ closing in cc)
  same_end (suc fuel) i e line le is marked closing =
      same_end_by fuel i e line (arm_after c.program i) is marked refl (after_next c.program i e (next_arm c.program.lines (suc i) 0 (drop (suc i) c.program.lines) e refl closing))
      (λ j next arm there' marked' closing'. let up = after_up c.program i j arm in same_end fuel j e next (omega (arith, le, up)) there' marked' closing')

  -- the loops that are open at a statement begin before it
  all_before : (i : ℕ) (rs : List Range) → ((r : Range) → IsIn r rs → r.first < i) → AllBefore (text_of c steps) (start_of c.program i) rs
  all_before i [] under = tt
  all_before i (r ∷ rs) under =
      (let low = under r first_in in let next = ends_before c.program turned r.first in let up = start_up c.program (suc r.first) i low in omega (arith, next, up), all_before i rs (λ q among. under q (later_in among)))

  before : (i : ℕ) → AllBefore (text_of c steps) (start_of c.program i) (open_at c.program i)
  before i = all_before i (open_at c.program i) (λ r among. (open_is_within c.program i r among).behind)

  own_is : (i : ℕ) → own_start c.program i ≡ own_of (text_of c steps) i
  unfolding own_start
  own_is i = own_same (start_of c.program i) (slice_get c.program.lines i)

  loops_plain : LoopsArePlain c.program
  loops_plain i line label is loops = (loop_line_at i line label is loops).marked

  -- the way to the end of a block
  arm_size : (i : ℕ) (line : Line) → line.mark ≡ Arm → suc (start_of c.program i) ≤ start_of c.program i + line_size c.program i line
  unfolding line_size skip_size
  arm_size i line marked =
      let one : skip_size line.mark ≡ 1 = ap skip_size marked in
      let e : suc (start_of c.program i) ≤ start_of c.program i + (skip_size line.mark + form_size c.program i line + turn_sizes c.program (ended_at c.program i)) = omega (arith, one) in
      e

  own_start_is : (i : ℕ) (line : Line) → slice_get c.program.lines i ≡ Some line → line.mark ≡ Arm → own_start c.program i ≡ suc (start_of c.program i)
  unfolding own_start skip_size
  own_start_is i line is marked =
      let one : mark_at (slice_get c.program.lines i) ≡ 1 = ap mark_at is ∙ marked_as line Arm marked in
      let e : start_of c.program i + mark_at (slice_get c.program.lines i) ≡ suc (start_of c.program i) = omega (arith, one) in
      e

  block_end_is : (i e : ℕ) → block_ends c.program i ≡ Some e → block_end_of c.program i ≡ e
  unfolding block_end_of
  block_end_is i e ends = block_ended c.program (length c.program.lines) i e (omega arith) ends

  skip_span : (i r : ℕ) (line : Line) → line.mark ≡ Arm → Spans (text_of c steps) (start_of c.program i) (skip_code c.program i line.mark) r →
      Spans (text_of c steps) (start_of c.program i) (Skip (start_of c.program (block_end_of c.program i) - own_start c.program i) ∷ []) r
  unfolding skip_code
  skip_span i r line marked spans = subst (λ z. Spans (text_of c steps) (start_of c.program i) z r) (ap (skip_code c.program i) marked) spans

  skips_to_end : (i e : ℕ) (line : Line) → slice_get c.program.lines i ≡ Some line → line.mark ≡ Arm → block_ends c.program i ≡ Some e → Leads (text_of c steps) (start_of c.program i) (start_of c.program e)
  skips_to_end i e line is marked ends =
      let at = line_stands i line is in
      let one = spans_one (text_of c steps) (skip_span i at.from line marked at.skips) in
      let end : start_of c.program (block_end_of c.program i) ≡ start_of c.program e = ap (start_of c.program) (block_end_is i e ends) in
      let own = own_start_is i line is marked in
      let next = start_next c.program turned i line is in
      let size = arm_size i line marked in
      let up = start_up c.program (suc i) e (closing_up (suc i) 0 (drop (suc i) c.program.lines) e ends) in
      let to' : suc (start_of c.program i) + (start_of c.program (block_end_of c.program i) - own_start c.program i) ≡ start_of c.program e = omega (arith, end, own, next, size, up) in
      by_skip one.0 (subst (λ z. Leads (text_of c steps) z (start_of c.program e)) (sym to') there)

  closes_by : (mark : Mark) (form : Form) → mark ≡ Closes → is_direct_as mark form ≡ true → form ≡ Passes
  unfolding is_direct_as takes_no_step
  closes_by Plain form e ok = absurd (cc)
  closes_by Opens form e ok = absurd (cc)
  closes_by Arm form e ok = absurd (cc)
  closes_by Closes Passes e ok = refl
  closes_by Closes (On h ts) e ok = absurd (true≢false (sym ok))

-- ## The last step

last_step : (front : List Step) (st : Step) → slice_get (front ++ st ∷ []) (length front) ≡ Some st
last_step [] st = refl
last_step (x ∷ front) st = last_step front st

before_last : (front : List Step) (q : ℕ) (last st : Step) → slice_get (front ++ last ∷ []) q ≡ Some st → (st ≡ last → ⊥) → q < length front
before_last [] zero last st e other = absurd (other (let same : st ≡ last = cc in same))
before_last [] (suc q) last st e other = absurd (cc)
before_last (x ∷ front) zero last st e other = omega arith
before_last (x ∷ front) (suc q) last st e other = let more = before_last front q last st e other in omega (arith, more)

end_is : (form : Form) → is_end form ≡ true → form ≡ On head.ToEnd NoMore
unfolding is_end
end_is form e = grind arith

end_code : (p : ProgramUnit) (k n : ℕ) (form : Form) (own : List Step) → form ≡ On head.ToEnd NoMore → statement_code p k n form ≡ Some own → Back ∷ [] ≡ own
unfolding statement_code listed form_code head_code
end_code p k n form own is e =
    let code : statement_code p k n (On head.ToEnd NoMore) ≡ Some own = ap (statement_code p k n) (sym is) ∙ e in
    let same : Back ∷ [] ≡ own = cc in same

end_passes : (b : Bool) (form : Form) → form ≡ On head.ToEnd NoMore → pass_code b form ≡ []
unfolding pass_code
end_passes true form is = ap (pass_code true) is
end_passes false form is = refl

-- the last step is no CALL and no branch behind one
record EndsWell (steps : List Step) : Type 0 where
  front : List Step
  last : Step
  all : front ++ last ∷ [] ≡ steps
  no_branch : IsNoBranch last
  no_call : IsCall last → ⊥

ends_more : (xs : List Step) (ys : List Step) (last : Step) → IsNoBranch last → (IsCall last → ⊥) → EndsWell (xs ++ (ys ++ last ∷ []))
ends_more xs ys last no_branch no_call = record { front = xs ++ ys; last = last; all = sym (joined_behind xs ys (last ∷ [])); no_branch = no_branch; no_call = no_call }

ends_same : (xs : List Step) → EndsWell xs → EndsWell (xs ++ [])
ends_same xs ends = subst EndsWell (sym (nothing_behind xs)) ends

turn_ends : (once : Bool) (n : ℕ) (ps : Pures) (xs : List Step) → EndsWell xs → EndsWell (xs ++ turn_code once n ps)
unfolding turn_code back_by
turn_ends once n NoPure xs ends = ends_same xs ends
turn_ends once n (AndPure x NoPure) xs ends = ends_same xs ends
turn_ends once n (AndPure x (AndPure first NoPure)) xs ends = ends_same xs ends
turn_ends once n (AndPure x (AndPure first (AndPure limit NoPure))) xs ends = ends_same xs ends
turn_ends true n (AndPure x (AndPure first (AndPure limit (AndPure by NoPure)))) xs ends = ends_more xs (_ ∷ []) (AgainIf (test_by x limit by) n) tt (λ call'. call')
turn_ends false n (AndPure x (AndPure first (AndPure limit (AndPure by NoPure)))) xs ends = ends_more xs (_ ∷ []) (Again n) tt (λ call'. call')
turn_ends once n (AndPure x (AndPure first (AndPure limit (AndPure by (AndPure q ps))))) xs ends = ends_same xs ends

turn_ends_by : (b : Bool) (turn : List Step) (n : ℕ) (xs : List Step) → EndsWell (xs ++ turn) → EndsWell (xs ++ (if b then turn else Again n ∷ []))
turn_ends_by true turn n xs ends = ends
turn_ends_by false turn n xs ends = ends_more xs [] (Again n) tt (λ call'. call')

turns_end : (p : ProgramUnit) (q : ℕ) (rs : List Range) (xs : List Step) → EndsWell xs → EndsWell (xs ++ turns_of p q rs)
unfolding turns_of turn_of
turns_end p q [] xs ends = ends_same xs ends
turns_end p q (r ∷ rs) xs ends =
    subst EndsWell (sym (joined_behind xs (turn_of p q r) (turns_of p (q + turn_size p r) rs)))
    (turns_end p (q + turn_size p r) rs (xs ++ turn_of p q r)
    (turn_ends_by (is_counted (slice_get p.lines r.first)) (turn_code p.onetrip (way_back p r (q + 1)) (loop_lowered p (free_at p r.first) r).value) (way_back p r q) xs
    (turn_ends p.onetrip (way_back p r (q + 1)) (loop_lowered p (free_at p r.first) r).value xs ends)))

module _ (p : ProgramUnit) (turned : (i from : ℕ) → length (turns_of p from (ended_at p i)) ≡ turn_sizes p (ended_at p i)) where
  line_ends : (i : ℕ) (line : Line) (code : List Step) → line_code p i line ≡ Some code → is_end line.form ≡ true → EndsWell code
  line_ends i line code e end =
      let parts = line_parts p turned i line code e in
      let is = end_is line.form end in
      let own = end_code p (free_at p i) (room_of p i line) line.form parts.own is parts.is in
      let none = end_passes (is_named (all_named p.lines) line.label) line.form is in
      let front = skip_code p i line.mark ++ (parts.own ++ passing_step p turned line) in
      let back : skip_code p i line.mark ++ (Back ∷ []) ≡ front = ap (λ z. skip_code p i line.mark ++ z) (own ∙ sym (nothing_behind parts.own) ∙ ap (λ z. parts.own ++ z) (sym none)) in
      subst EndsWell parts.all (turns_end p (own_end p i) (ended_at p i) front (record { front = skip_code p i line.mark; last = Back; all = back; no_branch = tt; no_call = λ call'. call' }))

  lines_end : (lines : List Line) (i : ℕ) (line : Line) (steps : List Step) → lines_code p i (line ∷ lines) ≡ Some steps → ends_behind line.form lines ≡ true → EndsWell steps
  unfolding lines_code ends_behind
  lines_end [] i line steps e end =
      let both = both_by p turned (line_code p i line) (Some []) steps e in
      let nothing' : both.later ≡ [] = (let later = both.later_is in cc) in
      let last = line_ends i line both.first both.first_is end in
      subst EndsWell both.all (subst (λ z. EndsWell (both.first ++ z)) (sym nothing') (ends_same both.first last))
  lines_end (next ∷ lines) i line steps e end =
      let both = both_by p turned (line_code p i line) (lines_code p (suc i) (next ∷ lines)) steps e in
      let last = lines_end lines (suc i) next both.later both.later_is end in
      record { front = both.first ++ last.front; last = last.last; all = sym (joined_behind both.first last.front (last.last ∷ [])) ∙ ap (λ z. both.first ++ z) last.all ∙ both.all; no_branch = last.no_branch; no_call = last.no_call }

  unit_ends : (lines : List Line) (steps : List Step) → lines_code p 0 lines ≡ Some steps → has_end lines ≡ true → EndsWell steps
  unfolding has_end
  unit_ends [] steps e end = absurd (true≢false (sym end))
  unit_ends (line ∷ lines) steps e end = lines_end lines 0 line steps e end

followed_by : (u : Text) (ends : EndsWell u.steps) (q : ℕ) (st : Step) → slice_get u.steps q ≡ Some st → IsCall st → IsFollowed u q
followed_by u ends q st e call' =
    let last : slice_get u.steps (length ends.front) ≡ Some ends.last = ap (λ z. slice_get z (length ends.front)) (sym ends.all) ∙ last_step ends.front ends.last in
    record {
      at = length ends.front;
      step = ends.last;
      behind = before_last ends.front q ends.last st (ap (λ z. slice_get z q) ends.all ∙ e) (λ same. ends.no_call (subst IsCall same call'));
      is = last;
      ordinary = ordinary_by u (length ends.front) ends.last last ends.no_branch;
    }

-- ## Calls of subroutines

branch_first : (steps : List Step) → begins_with_branch steps ≡ true → (j : ℕ) × (count : ℕ) × (slice_get steps 0 ≡ Some (Branch j count))
unfolding begins_with_branch
branch_first [] e = absurd (true≢false (sym e))
branch_first (Branch j count ∷ steps) e = (j, count, refl)
branch_first (Keep k p ∷ steps) e = absurd (true≢false (sym e))
branch_first (Put place p ∷ steps) e = absurd (true≢false (sym e))
branch_first (PutText place ps ∷ steps) e = absurd (true≢false (sym e))
branch_first (PutLabel place label ∷ steps) e = absurd (true≢false (sym e))
branch_first (Compute k function ps ∷ steps) e = absurd (true≢false (sym e))
branch_first (Unless p n ∷ steps) e = absurd (true≢false (sym e))
branch_first (Skip n ∷ steps) e = absurd (true≢false (sym e))
branch_first (Again n ∷ steps) e = absurd (true≢false (sym e))
branch_first (AgainIf p n ∷ steps) e = absurd (true≢false (sym e))
branch_first (Jump label ∷ steps) e = absurd (true≢false (sym e))
branch_first (Select p count ∷ steps) e = absurd (true≢false (sym e))
branch_first (JumpBy p labels ∷ steps) e = absurd (true≢false (sym e))
branch_first (Pass ∷ steps) e = absurd (true≢false (sym e))
branch_first (CallFor k callee ps ∷ steps) e = absurd (true≢false (sym e))
branch_first (CallSub k name ps ∷ steps) e = absurd (true≢false (sym e))
branch_first (Way label ∷ steps) e = absurd (true≢false (sym e))
branch_first (Back ∷ steps) e = absurd (true≢false (sym e))
branch_first (BackBy p ∷ steps) e = absurd (true≢false (sym e))
branch_first (Halt text ∷ steps) e = absurd (true≢false (sym e))
branch_first (Acts act ps n ∷ steps) e = absurd (true≢false (sym e))

wanted_branch : (a b : Bool) → a ≡ true → (not a || b) ≡ true → b ≡ true
wanted_branch true b is e = e
wanted_branch false b is e = absurd (true≢false (sym is))

branches_behind : (steps : List Step) → calls_well steps ≡ true → (p k : ℕ) (callee : Callee) (ps : Pures) → slice_get steps p ≡ Some (CallFor k callee ps) → callee.want ≡ AsSubroutine →
    (j : ℕ) × (count : ℕ) × (slice_get steps (suc p) ≡ Some (Branch j count))
unfolding calls_well keeps_return wants_no_value
branches_behind [] well p k callee ps e wants = absurd (cc)
branches_behind (st ∷ steps) well zero k callee ps e wants =
    let parts = both_true (not (keeps_return st) || begins_with_branch steps) (calls_well steps) well in
    let same : st ≡ CallFor k callee ps = cc in
    branch_first steps (wanted_branch (keeps_return st) (begins_with_branch steps) (ap keeps_return same ∙ ap wants_no_value wants) parts.0)
branches_behind (st ∷ steps) well (suc p) k callee ps e wants =
    branches_behind steps (both_true (not (keeps_return st) || begins_with_branch steps) (calls_well steps) well).1 p k callee ps e wants

-- a unit that is lowered: the steps of its statements, where each return that is kept is followed by its branch, and the text of these
record IsLowered (c : Facts) (u : Text) : Type 0 where
  steps : List Step
  is : lines_code c.program 0 c.program.lines ≡ Some steps
  well : calls_well steps ≡ true
  text : text_with c (Some steps) ≡ Some u

lowered_if : (c : Facts) (u : Text) (steps : List Step) (b : Bool) → calls_well steps ≡ b → lines_code c.program 0 c.program.lines ≡ Some steps → text_with c (if b then Some steps else None) ≡ Some u → IsLowered c u
unfolding text_with
lowered_if c u steps true well is e = record { steps = steps; is = is; well = well; text = e }
lowered_if c u steps false well is e = absurd (cc)

lowered_by : (c : Facts) (u : Text) (x : Option (List Step)) → lines_code c.program 0 c.program.lines ≡ x → text_with c (if_called_well x) ≡ Some u → IsLowered c u
unfolding text_with if_called_well
lowered_by c u None is e = absurd (cc)
lowered_by c u (Some steps) is e = lowered_if c u steps (calls_well steps) refl is e

lowered_from : (c : Facts) (u : Text) → lowered_unit c ≡ Some u → IsLowered c u
unfolding lowered_unit
lowered_from c u e = lowered_by c u (lines_code c.program 0 c.program.lines) refl e

laid_out_by : (c : Facts) (steps : List Step) (u : Text) → lines_code c.program 0 c.program.lines ≡ Some steps → calls_well steps ≡ true → text_with c (Some steps) ≡ Some u → are_direct c.program.lines ≡ true → has_end c.program.lines ≡ true → LoopsFit c.program → IsLaidOut u
unfolding text_with
laid_out_by c steps u lowered well e direct end fits =
    let same : text_of c steps ≡ u = cc in
    let last = unit_ends c.program (turned c steps lowered direct fits) c.program.lines steps lowered end in
    subst IsLaidOut same (record {
      stands = stands c steps lowered direct fits;
      skips = λ i e' line is marked ends. (skips_to_end c steps lowered direct fits i e' line is marked ends, same_end c steps lowered direct fits (length c.program.lines) i e' line (omega arith) is marked ends);
      closes = λ i line is marked. closes_by c steps lowered direct fits line.mark line.form marked (direct_at c.program.lines i line direct is);
      flat = flat c steps lowered direct fits;
      labels = λ label i e'. ap (option_map (start_of c.program)) e';
      followed = followed_by (text_of c steps) last;
      returns = branches_behind steps well;
      rises = own_up c steps lowered direct fits;
      own = own_is c steps lowered direct fits;
      kept = λ i r among. kept_at c.program i r (chain_at c.program (are_nested c.program fits) i) among;
      behind = behind c steps lowered direct fits;
      chain = chain_at c.program (are_nested c.program fits);
      before = before c steps lowered direct fits;
      entries = entries_fit c.program fits;
      branches = λ i line is. branches_fit c.program fits i line is (marked_start line.mark line.form (direct_at c.program.lines i line direct is));
      assigned = assigned_reaches c.program (loops_plain c steps lowered direct fits);
    })

pub laid_out : (c : Facts) (u : Text) → lowered_unit c ≡ Some u → are_direct c.program.lines ≡ true → has_end c.program.lines ≡ true → LoopsFit c.program → IsLaidOut u
laid_out c u e direct end fits = let l = lowered_from c u e in laid_out_by c l.steps u l.is l.well l.text direct end fits
