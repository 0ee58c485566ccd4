-- Statements in whose operands functions alone are referred to: where the return of a subroutine is kept, the branch by it stands behind.
use Rattle.std.proofs.Common.{◌≡◌, ℕ, suc, ◌+◌, Bool, true, false, not, ◌&&◌, ◌||◌, List, [], ◌∷◌, ◌++◌, length, map, Option, Some, None, option_map, slice_get, if◌then◌else◌, refl, sym, ap, ◌∙◌}
use Rattle.f_tree.specs.Values.{Bytes}
use Rattle.f_tree.specs.Terms.{Term, Terms, NoMore, More}
use Rattle.f_tree.specs.Facts as head
use Rattle.f_tree.specs.Facts.{Direction, Layout, Controls, AuxiliaryKind, Item, Repeated, Turn, Work, Done, Before, Head, Form, Passes, On, Mark, Plain, Opens, Arm, Closes, Line, ProgramUnit}
use Rattle.f_tree.specs.Nests.{Range}
use Rattle.f_tree.specs.Step.{assigned_in}
use Rattle.lowered_tree.specs.l_core.Pures.{Pures, NoPure, AndPure}
use Rattle.lowered_tree.specs.l_core.Steps as act
use Rattle.lowered_tree.specs.l_core.Steps.{Step, Takes, Jump, Way, Again, Acts}
use Rattle.lowering.specs.Expressions.{ForUse, ForCall, ForLater, Lowered, lower_all}
use Rattle.lowering.specs.Statements.{behind_operands, with_operands, put_code, put_label_code, select_code, each_once, jump_by_code, sign_code, unless_code, guard_code, loop_operands, loop_test, loop_code, back_by, turn_code, wants_no_value, labels_written, hides_labels, call_steps, call_code, back_code, item_purpose, item_code, work_code, begin_code, auxiliary_code, form_code, head_code}
use Rattle.lowering.specs.Units.{loop_lowered, free_at, all_named, is_named, pass_code, is_counted, turn_size, ended_at, own_end, room_of, way_back, turn_of, turns_of, skip_code, listed, statement_code, line_code, both_codes, lines_code, keeps_return, begins_with_branch, calls_well}
use Rattle.unit_lowering.proofs.FunctionTerms.{RefersToFunctions, ReferToFunctions, KeepNone, all_none, loop_none}

-- WELL
begins_first : (x : Step) (xs ys : List Step) → begins_with_branch (x ∷ xs) ≡ begins_with_branch (x ∷ ys)
unfolding begins_with_branch
begins_first (act.Branch k count) xs ys = refl
begins_first _ xs ys = refl

both_hold : (a b : Bool) → a ≡ true → b ≡ true → (a && b) ≡ true
both_hold true b one other = other
both_hold false b one other = absurd (cc)

first_holds : (a b : Bool) → (a && b) ≡ true → a ≡ true
first_holds true b both = refl
first_holds false b both = both

second_holds : (a b : Bool) → (a && b) ≡ true → b ≡ true
second_holds true b both = both
second_holds false b both = absurd (cc)

kept_last : (a b : Bool) → (not a || false) ≡ true → (not a || b) ≡ true
kept_last true b none = absurd (cc)
kept_last false b none = refl

abbrev AreWell : List Step → Type 0
AreWell steps = calls_well steps ≡ true

well_both : (xs ys : List Step) → AreWell xs → AreWell ys → AreWell (xs ++ ys)
unfolding calls_well begins_with_branch
well_both [] ys first later = later
well_both (x ∷ []) ys first later =
    both_hold (not (keeps_return x) || begins_with_branch ys) (calls_well ys) (kept_last (keeps_return x) (begins_with_branch ys) (first_holds (not (keeps_return x) || begins_with_branch []) true first)) later
well_both (x ∷ y ∷ xs) ys first later =
    both_hold (not (keeps_return x) || begins_with_branch (y ∷ (xs ++ ys))) (calls_well (y ∷ (xs ++ ys)))
    (ap (λ b. not (keeps_return x) || b) (begins_first y (xs ++ ys) xs) ∙ first_holds (not (keeps_return x) || begins_with_branch (y ∷ xs)) (calls_well (y ∷ xs)) first)
    (well_both (y ∷ xs) ys (second_holds (not (keeps_return x) || begins_with_branch (y ∷ xs)) (calls_well (y ∷ xs)) first) later)

none_well : (steps : List Step) → KeepNone steps → AreWell steps
unfolding calls_well
none_well [] none = refl
none_well (x ∷ xs) none =
    both_hold (not (keeps_return x) || begins_with_branch xs) (calls_well xs) (ap (λ b. not b || begins_with_branch xs) none.0) (none_well xs none.1)

abbrev AreWellIf : Option (List Step) → Type 0
AreWellIf None = Unit {0}
AreWellIf (Some steps) = AreWell steps

behind_well : (steps : List Step) (x : Option (List Step)) → AreWell steps → AreWellIf x → AreWellIf (behind_operands steps x)
unfolding behind_operands
behind_well steps None first later = tt
behind_well steps (Some more) first later = well_both steps more first later

-- WHAT CLOSES THE OPERANDS
put_well : (ps : Pures) → AreWellIf (put_code ps)
unfolding put_code calls_well keeps_return
put_well NoPure = tt
put_well (AndPure p NoPure) = tt
put_well (AndPure p (AndPure place NoPure)) = refl
put_well (AndPure p (AndPure place (AndPure q ps))) = tt

label_well : (label : ℕ) (ps : Pures) → AreWellIf (put_label_code label ps)
unfolding put_label_code calls_well keeps_return
label_well label NoPure = tt
label_well label (AndPure p NoPure) = refl
label_well label (AndPure p (AndPure q ps)) = tt

jumps_well : (labels : List ℕ) → AreWell (map Jump labels)
unfolding calls_well keeps_return
jumps_well [] = refl
jumps_well (l ∷ labels) = jumps_well labels

select_well : (labels : List ℕ) (ps : Pures) → AreWellIf (select_code labels ps)
unfolding select_code calls_well keeps_return
select_well labels NoPure = tt
select_well labels (AndPure p NoPure) = jumps_well labels
select_well labels (AndPure p (AndPure q ps)) = tt

jump_by_well : (labels : List ℕ) (ps : Pures) → AreWellIf (jump_by_code labels ps)
unfolding jump_by_code calls_well keeps_return
jump_by_well labels NoPure = tt
jump_by_well labels (AndPure p NoPure) = jumps_well (each_once labels)
jump_by_well labels (AndPure p (AndPure q ps)) = tt

sign_well : (below at above : ℕ) (ps : Pures) → AreWellIf (sign_code below at above ps)
unfolding sign_code calls_well keeps_return
sign_well below at above NoPure = tt
sign_well below at above (AndPure p NoPure) = refl
sign_well below at above (AndPure p (AndPure q ps)) = tt

unless_well : (n : ℕ) (under : List Step) (ps : Pures) → AreWell under → AreWellIf (unless_code n under ps)
unfolding unless_code calls_well keeps_return
unless_well n under NoPure well = tt
unless_well n under (AndPure p NoPure) well = well
unless_well n under (AndPure p (AndPure q ps)) well = tt

nothing_well : AreWell []
unfolding calls_well
nothing_well = refl

guard_well : (l : Lowered Pures) (x : Option (List Step)) → AreWell l.steps → AreWellIf x → AreWellIf (guard_code l x)
unfolding guard_code with_operands
guard_well l None first later = tt
guard_well l (Some under) first later = behind_well l.steps (unless_code (length under) under l.value) first (unless_well (length under) under l.value later)

loop_well : (once : Bool) (n : ℕ) (ps : Pures) → AreWellIf (loop_code once n ps)
unfolding loop_code loop_test calls_well keeps_return
loop_well once n NoPure = tt
loop_well once n (AndPure x NoPure) = tt
loop_well once n (AndPure x (AndPure first NoPure)) = tt
loop_well once n (AndPure x (AndPure first (AndPure limit NoPure))) = tt
loop_well true n (AndPure x (AndPure first (AndPure limit (AndPure by NoPure)))) = refl
loop_well false n (AndPure x (AndPure first (AndPure limit (AndPure by NoPure)))) = refl
loop_well once n (AndPure x (AndPure first (AndPure limit (AndPure by (AndPure p ps))))) = tt

ways_well : (labels : List ℕ) → AreWell (map Way labels)
unfolding calls_well keeps_return
ways_well [] = refl
ways_well (l ∷ labels) = ways_well labels

-- a CALL with labels has its branch
calls_are_well : (k : ℕ) (name : Bytes) (labels : List ℕ) (ps : Pures) → AreWell (call_steps k name labels ps)
unfolding call_steps calls_well keeps_return wants_no_value begins_with_branch
calls_are_well k name [] ps = refl
calls_are_well k name (l ∷ labels) ps = ways_well labels

well_unless : (hidden : Bool) (steps : List Step) → AreWell steps → AreWellIf (if hidden then None else Some steps)
well_unless true steps well = tt
well_unless false steps well = well

call_well : (k : ℕ) (name : Bytes) (operands : Terms) (ps : Pures) → AreWellIf (call_code k name operands ps)
unfolding call_code
call_well k name operands ps = well_unless (hides_labels operands) (call_steps k name (labels_written operands) ps) (calls_are_well k name (labels_written operands) ps)

back_well : (ps : Pures) → AreWellIf (back_code ps)
unfolding back_code calls_well keeps_return
back_well NoPure = refl
back_well (AndPure p NoPure) = refl
back_well (AndPure p (AndPure q ps)) = tt

-- FORMS
-- in the items of a list, in a statement, and in its head functions alone are referred to
unfoldable pub ItemsReferToFunctions : Work → Type 0
ItemsReferToFunctions Done = Unit {0}
ItemsReferToFunctions (Before (Item t) rest) = RefersToFunctions t × ItemsReferToFunctions rest
ItemsReferToFunctions (Before job rest) = Unit {0}

unfoldable mutual
  pub FormRefersToFunctions : Form → Type 0
  FormRefersToFunctions Passes = Unit {0}
  FormRefersToFunctions (On h ts) = HeadRefersToFunctions h ts

  pub HeadRefersToFunctions : Head → Terms → Type 0
  HeadRefersToFunctions head.ToSetText ts = Unit {0}
  HeadRefersToFunctions (head.ToGuard form) ts = ReferToFunctions ts × FormRefersToFunctions form
  HeadRefersToFunctions (head.ToBegin way layout controls work) ts = ReferToFunctions ts × ItemsReferToFunctions work
  HeadRefersToFunctions h ts = ReferToFunctions ts

item_well : (k : ℕ) (t : Term) (x : Option (List Step)) → RefersToFunctions t → AreWellIf x → AreWellIf (item_code k t x)
unfolding item_code ReferToFunctions calls_well keeps_return
item_well k t None only later = tt
item_well k t (Some more) only later =
    well_both (lower_all NoPure (item_purpose t) k (More t NoMore)).steps (Acts Takes (lower_all NoPure (item_purpose t) k (More t NoMore)).value (length more) ∷ more)
    (none_well (lower_all NoPure (item_purpose t) k (More t NoMore)).steps (all_none NoPure (item_purpose t) k (More t NoMore) (only, tt))) later

work_well : (k : ℕ) (work : Work) → ItemsReferToFunctions work → AreWellIf (work_code k work)
unfolding work_code ItemsReferToFunctions calls_well keeps_return
work_well k Done only = refl
work_well k (Before (Item t) rest) only = item_well k t (work_code k rest) only.0 (work_well k rest only.1)
work_well k (Before (Repeated items control) rest) only = tt
work_well k (Before (Turn items p left by given) rest) only = tt

begin_well : (way : Direction) (layout : Layout) (controls : Controls) (x : Option (List Step)) (ps : Pures) → AreWellIf x → AreWellIf (begin_code way layout controls x ps)
unfolding begin_code calls_well keeps_return
begin_well way layout controls None ps later = tt
begin_well way layout controls (Some items) ps later = later

auxiliary_well : (which : AuxiliaryKind) (controls : Controls) (ps : Pures) → AreWellIf (auxiliary_code which controls ps)
unfolding auxiliary_code calls_well keeps_return
auxiliary_well which controls ps = refl

with_well : (l : Lowered Pures) (close : Pures → Option (List Step)) → KeepNone l.steps → AreWellIf (close l.value) → AreWellIf (with_operands l close)
unfolding with_operands
with_well l close first later = behind_well l.steps (close l.value) (none_well l.steps first) later

mutual
  unfolding form_code head_code FormRefersToFunctions HeadRefersToFunctions calls_well keeps_return

  pub form_well : (once : Bool) (k n : ℕ) (form : Form) → FormRefersToFunctions form → AreWellIf (form_code once k n form)
  form_well once k n Passes only = refl
  form_well once k n (On h ts) only = head_well once k n h ts only

  head_well : (once : Bool) (k n : ℕ) (h : Head) (ts : Terms) → HeadRefersToFunctions h ts → AreWellIf (head_code once k n h ts)
  head_well once k n head.ToSet ts only = with_well (lower_all NoPure ForUse k ts) put_code (all_none NoPure ForUse k ts only) (put_well (lower_all NoPure ForUse k ts).value)
  head_well once k n head.ToSetText ts only = tt
  head_well once k n (head.ToSetLabel label) ts only = with_well (lower_all NoPure ForUse k ts) (put_label_code label) (all_none NoPure ForUse k ts only) (label_well label (lower_all NoPure ForUse k ts).value)
  head_well once k n (head.ToGo label) NoMore only = refl
  head_well once k n (head.ToGo label) (More t ts) only = tt
  head_well once k n (head.ToPick labels) ts only = with_well (lower_all NoPure ForUse k ts) (select_code labels) (all_none NoPure ForUse k ts only) (select_well labels (lower_all NoPure ForUse k ts).value)
  head_well once k n (head.ToGoAssigned labels) ts only = with_well (lower_all NoPure ForUse k ts) (jump_by_code labels) (all_none NoPure ForUse k ts only) (jump_by_well labels (lower_all NoPure ForUse k ts).value)
  head_well once k n (head.ToGoBySign below at above) ts only =
      with_well (lower_all NoPure ForLater k ts) (sign_code below at above) (all_none NoPure ForLater k ts only) (sign_well below at above (lower_all NoPure ForLater k ts).value)
  head_well once k n (head.ToGuard form) ts only =
      guard_well (lower_all NoPure ForUse k ts) (form_code once k 0 form) (none_well (lower_all NoPure ForUse k ts).steps (all_none NoPure ForUse k ts only.0)) (form_well once k 0 form only.1)
  head_well once k n head.ToEnterArm ts only = with_well (lower_all NoPure ForUse k ts) (unless_code n []) (all_none NoPure ForUse k ts only) (unless_well n [] (lower_all NoPure ForUse k ts).value nothing_well)
  head_well once k n (head.ToLoop label) ts only = with_well (loop_operands k ts) (loop_code once n) (loop_none k ts only) (loop_well once n (loop_operands k ts).value)
  head_well once k n (head.ToTestLoop label) ts only =
      with_well (lower_all NoPure ForUse k ts) (unless_code n []) (all_none NoPure ForUse k ts only) (unless_well n [] (lower_all NoPure ForUse k ts).value nothing_well)
  head_well once k n (head.ToCall name) ts only =
      with_well (lower_all NoPure ForCall k ts) (call_code k name ts) (all_none NoPure ForCall k ts only) (call_well k name ts (lower_all NoPure ForCall k ts).value)
  head_well once k n head.ToReturn ts only = with_well (lower_all NoPure ForUse k ts) back_code (all_none NoPure ForUse k ts only) (back_well (lower_all NoPure ForUse k ts).value)
  head_well once k n (head.ToStop text) NoMore only = refl
  head_well once k n (head.ToStop text) (More t ts) only = tt
  head_well once k n (head.ToBegin way layout controls work) ts only =
      with_well (lower_all NoPure ForUse k ts) (begin_code way layout controls (work_code k work)) (all_none NoPure ForUse k ts only.0)
      (begin_well way layout controls (work_code k work) (lower_all NoPure ForUse k ts).value (work_well k work only.1))
  head_well once k n (head.ToTransfer rest) ts only = tt
  head_well once k n (head.ToRepeat items rest) ts only = tt
  head_well once k n (head.ToTurn items p left by given rest) ts only = tt
  head_well once k n head.ToFinish ts only = tt
  head_well once k n (head.ToAuxiliary which controls) ts only =
      with_well (lower_all NoPure ForUse k ts) (auxiliary_code which controls) (all_none NoPure ForUse k ts only) (auxiliary_well which controls (lower_all NoPure ForUse k ts).value)
  head_well once k n head.ToEnd NoMore only = refl
  head_well once k n head.ToEnd (More t ts) only = tt

-- LINES
abbrev pub LinesReferToFunctions : List Line → Type 0
LinesReferToFunctions [] = Unit {0}
LinesReferToFunctions (line ∷ lines) = FormRefersToFunctions line.form × LinesReferToFunctions lines

turn_code_well : (once : Bool) (m : ℕ) (ps : Pures) → AreWell (turn_code once m ps)
unfolding turn_code back_by calls_well keeps_return
turn_code_well once m NoPure = refl
turn_code_well once m (AndPure x NoPure) = refl
turn_code_well once m (AndPure x (AndPure first NoPure)) = refl
turn_code_well once m (AndPure x (AndPure first (AndPure limit NoPure))) = refl
turn_code_well true m (AndPure x (AndPure first (AndPure limit (AndPure by NoPure)))) = refl
turn_code_well false m (AndPure x (AndPure first (AndPure limit (AndPure by NoPure)))) = refl
turn_code_well once m (AndPure x (AndPure first (AndPure limit (AndPure by (AndPure p ps))))) = refl

if_well : (b : Bool) (xs ys : List Step) → AreWell xs → AreWell ys → AreWell (if b then xs else ys)
if_well true xs ys one other = one
if_well false xs ys one other = other

back_is_well : (n : ℕ) → AreWell (Again n ∷ [])
unfolding calls_well keeps_return
back_is_well n = refl

turn_well : (p : ProgramUnit) (from : ℕ) (r : Range) → AreWell (turn_of p from r)
unfolding turn_of
turn_well p from r =
    if_well (is_counted (slice_get p.lines r.first)) (turn_code p.onetrip (way_back p r (from + 1)) (loop_lowered p (free_at p r.first) r).value) (Again (way_back p r from) ∷ [])
    (turn_code_well p.onetrip (way_back p r (from + 1)) (loop_lowered p (free_at p r.first) r).value) (back_is_well (way_back p r from))

turns_well : (p : ProgramUnit) (from : ℕ) (rs : List Range) → AreWell (turns_of p from rs)
unfolding turns_of
turns_well p from [] = nothing_well
turns_well p from (r ∷ rs) = well_both (turn_of p from r) (turns_of p (from + turn_size p r) rs) (turn_well p from r) (turns_well p (from + turn_size p r) rs)

skip_well : (p : ProgramUnit) (i : ℕ) (mark : Mark) → AreWell (skip_code p i mark)
unfolding skip_code calls_well keeps_return
skip_well p i Plain = refl
skip_well p i Opens = refl
skip_well p i Arm = refl
skip_well p i Closes = refl

pass_well : (named : Bool) (form : Form) → AreWell (pass_code named form)
unfolding pass_code calls_well keeps_return
pass_well true Passes = refl
pass_well true (On h ts) = refl
pass_well false form = refl

line_by_well : (skip pass turns : List Step) (x : Option (List Step)) → AreWell skip → AreWell pass → AreWell turns → AreWellIf x → AreWellIf (option_map (λ steps. skip ++ steps ++ pass ++ turns) x)
line_by_well skip pass turns None one two three own = tt
line_by_well skip pass turns (Some steps) one two three own = well_both ((skip ++ steps) ++ pass) turns (well_both (skip ++ steps) pass (well_both skip steps one own) two) three

-- a form that is listed has the same operands
listed_refers : (labels : List ℕ) (form : Form) → FormRefersToFunctions form → FormRefersToFunctions (listed labels form)
unfolding listed FormRefersToFunctions HeadRefersToFunctions
listed_refers labels Passes only = only
listed_refers labels (On (head.ToGoAssigned []) ts) only = only
listed_refers labels (On (head.ToGoAssigned (l ∷ ls)) ts) only = only
listed_refers labels (On (head.ToGuard form) ts) only = (only.0, listed_refers labels form only.1)
listed_refers labels (On h ts) only = only

line_well : (p : ProgramUnit) (i : ℕ) (line : Line) → FormRefersToFunctions line.form → AreWellIf (line_code p i line)
unfolding line_code statement_code
line_well p i line only =
    let own = listed (assigned_in p.lines) line.form in
    line_by_well (skip_code p i line.mark) (pass_code (is_named (all_named p.lines) line.label) line.form) (turns_of p (own_end p i) (ended_at p i)) (form_code p.onetrip (free_at p i) (room_of p i line) own)
    (skip_well p i line.mark) (pass_well (is_named (all_named p.lines) line.label) line.form) (turns_well p (own_end p i) (ended_at p i)) (form_well p.onetrip (free_at p i) (room_of p i line) own (listed_refers (assigned_in p.lines) line.form only))

both_well : (one more : Option (List Step)) → AreWellIf one → AreWellIf more → AreWellIf (both_codes one more)
unfolding both_codes
both_well None more first later = tt
both_well (Some xs) None first later = tt
both_well (Some xs) (Some ys) first later = well_both xs ys first later

lines_well : (p : ProgramUnit) (i : ℕ) (lines : List Line) → LinesReferToFunctions lines → AreWellIf (lines_code p i lines)
unfolding lines_code
lines_well p i [] only = nothing_well
lines_well p i (line ∷ lines) only = both_well (line_code p i line) (lines_code p (suc i) lines) (line_well p i line only.0) (lines_well p (suc i) lines only.1)

-- the calls of a unit are well
well_if : (x : Option (List Step)) (steps : List Step) → x ≡ Some steps → AreWellIf x → calls_well steps ≡ true
well_if None steps is well = absurd (cc)
well_if (Some xs) steps is well = let same : xs ≡ steps = cc in ap calls_well (sym same) ∙ well

pub called_well : (p : ProgramUnit) (steps : List Step) → LinesReferToFunctions p.lines → lines_code p 0 p.lines ≡ Some steps → calls_well steps ≡ true
called_well p steps only is = well_if (lines_code p 0 p.lines) steps is (lines_well p 0 p.lines only)
