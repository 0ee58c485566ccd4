-- The text of a program unit: the steps of its statements in their order, with the ends of the loops and of the arms. How many steps a
-- statement takes does not depend on where it stands. ANSI X3.9-1978, sections 3.5, 11.6 to 11.10 and 15.7.
use Rattle.std.specs.List.{list_any}
use Rattle.std.specs.Prelude.{ℕ, zero, suc, ◌+◌, ◌-◌, nat_eq, Bool, true, false, not, ◌&&◌, ◌||◌, List, [], ◌∷◌, ◌++◌, length, filter, Option, Some, None, slice_get, option_map, if◌then◌else◌}
use Rattle.l_core.specs.f_tree.Terms.{NoMore}
use Rattle.l_core.specs.f_tree.Facts.{ToCall, ToSetLabel, ToGo, ToPick, ToGoAssigned, ToGoBySign, ToGuard, ToLoop, ToTestLoop, ToBegin, ToAuxiliary, Head, Form, Passes, On, Mark, Plain, Opens, Arm, Closes, Line, ProgramUnit, Facts}
use Rattle.l_core.specs.Steps as step
use Rattle.l_core.specs.f_tree.Places.{place_of_label, arm_after}
use Rattle.l_core.specs.f_tree.Step.{assigned_in}
use Rattle.l_core.specs.f_tree.Nests.{Range, open_at, goes_past}
use Rattle.l_core.specs.Pures.{Pures}
use Rattle.l_core.specs.Steps.{Step, Skip, Again, Pass, CallFor, Branch, Card, OpensLoop, OpensLoopOnce, ClosesLoop, OpensWhile, ClosesWhile, OpensArm, NextArm, ClosesArm, Marked, Text}
use Rattle.lowering.specs.Expressions.{Lowered}
use Rattle.lowering.specs.Statements.{loop_operands, wants_no_value, labels_written, turn_code, form_code}

-- ## Temporaries

-- the operands of the DO statement at a place
unfoldable pub loop_at_line : ℕ → Option Line → Lowered Pures
loop_at_line k None = loop_operands k NoMore
loop_at_line k (Some line) = elim line.form [
  | Passes ↦ loop_operands k NoMore
  | On head operands ↦ elim head [ ToLoop label ↦ loop_operands k operands | _ ↦ loop_operands k NoMore ]
]

unfoldable pub loop_lowered : ProgramUnit → ℕ → Range → Lowered Pures
loop_lowered u k r = loop_at_line k (slice_get u.lines r.first)

-- the first temporary that no open loop keeps; the innermost loop stands first
unfoldable pub free_of : ProgramUnit → List Range → ℕ
free_of u [] = 0
free_of u (r ∷ outer) = (loop_lowered u (free_of u outer) r).free

unfoldable pub free_at : ProgramUnit → ℕ → ℕ
free_at u i = free_of u (open_at u i)

-- ## Labels that branches name

unfoldable pub label_in : Option ℕ → List ℕ
label_in None = []
label_in (Some l) = l ∷ []

unfoldable mutual
  pub named_by : Form → List ℕ
  named_by Passes = []
  named_by (On (ToCall name) operands) = labels_written operands
  named_by (On head operands) = named_by_head head

  pub named_by_head : Head → List ℕ
  named_by_head (ToSetLabel label) = label ∷ []
  named_by_head (ToGo label) = label ∷ []
  named_by_head (ToPick labels) = labels
  named_by_head (ToGoAssigned labels) = labels
  named_by_head (ToGoBySign below at above) = below ∷ at ∷ above ∷ []
  named_by_head (ToGuard form) = named_by form
  named_by_head (ToBegin way layout controls work) = label_in controls.on_error ++ label_in controls.on_end
  named_by_head (ToAuxiliary which controls) = label_in controls.on_error ++ label_in controls.on_end
  named_by_head head = []

unfoldable pub all_named : List Line → List ℕ
all_named [] = []
all_named (line ∷ lines) = named_by line.form ++ all_named lines

unfoldable pub is_named : List ℕ → Option ℕ → Bool
is_named labels None = false
is_named labels (Some l) = list_any (nat_eq l) labels

-- a statement that takes no step has one where a branch goes to it, so that its label stands before something
unfoldable pub pass_code : Bool → Form → List Step
pass_code true Passes = Pass ∷ []
pass_code named form = []

-- ## GO TO by a variable without its labels

-- it is lowered as with those that the ASSIGN statements of the unit name (11.3)
unfoldable pub listed : List ℕ → Form → Form
listed labels (On (ToGoAssigned []) operands) = On (ToGoAssigned labels) operands
listed labels (On (ToGuard form) operands) = On (ToGuard (listed labels form)) operands
listed labels form = form

unfoldable pub statement_code : ProgramUnit → ℕ → ℕ → Form → Option (List Step)
statement_code u k n form = form_code u.onetrip k n (listed (assigned_in u.lines) form)

-- ## Sizes

unfoldable pub steps_of : Option (List Step) → List Step
steps_of None = []
steps_of (Some steps) = steps

unfoldable pub is_counted : Option Line → Bool
is_counted None = false
is_counted (Some line) = elim line.form [ Passes ↦ false | On head operands ↦ elim head [ ToLoop label ↦ true | _ ↦ false ] ]

-- the steps behind the terminal statement of a loop: the next value and the way back, or the way back alone
unfoldable pub turn_size : ProgramUnit → Range → ℕ
turn_size u r = if is_counted (slice_get u.lines r.first) then 2 else 1

-- the loops that end at a statement, the innermost first
unfoldable pub ended_at : ProgramUnit → ℕ → List Range
ended_at u i = filter (λ r. not (goes_past i r)) (open_at u i)

unfoldable pub turn_sizes : ProgramUnit → List Range → ℕ
turn_sizes u [] = 0
turn_sizes u (r ∷ rs) = turn_size u r + turn_sizes u rs

-- an arm that comes to its end passes the others
unfoldable pub skip_size : Mark → ℕ
skip_size Arm = 1
skip_size mark = 0

unfoldable pub form_size : ProgramUnit → ℕ → Line → ℕ
form_size u i line = length (steps_of (statement_code u (free_at u i) 0 line.form)) + length (pass_code (is_named (all_named u.lines) line.label) line.form)

unfoldable pub line_size : ProgramUnit → ℕ → Line → ℕ
line_size u i line = skip_size line.mark + form_size u i line + turn_sizes u (ended_at u i)

unfoldable pub size_before : ProgramUnit → ℕ → List Line → ℕ → ℕ
size_before u i [] n = 0
size_before u i (line ∷ lines) zero = 0
size_before u i (line ∷ lines) (suc n) = line_size u i line + size_before u (suc i) lines n

-- where the steps of a statement begin
unfoldable pub start_of : ProgramUnit → ℕ → ℕ
start_of u i = size_before u 0 u.lines i

-- where its own steps begin, and where they end
unfoldable pub mark_at : Option Line → ℕ
mark_at None = 0
mark_at (Some line) = skip_size line.mark

unfoldable pub own_start : ProgramUnit → ℕ → ℕ
own_start u i = start_of u i + mark_at (slice_get u.lines i)

unfoldable pub form_size_at : ProgramUnit → ℕ → Option Line → ℕ
form_size_at u i None = 0
form_size_at u i (Some line) = form_size u i line

unfoldable pub own_end : ProgramUnit → ℕ → ℕ
own_end u i = own_start u i + form_size_at u i (slice_get u.lines i)

-- ## Ways

-- the END IF of the block in which an arm begins
unfoldable pub block_end_from : ProgramUnit → ℕ → ℕ → Option ℕ → ℕ
block_end_from u zero i next = i
block_end_from u (suc fuel) i None = i
block_end_from u (suc fuel) i (Some j) = if nat_eq (mark_at (slice_get u.lines j)) 1 then block_end_from u fuel j (arm_after u j) else j

unfoldable pub block_end_of : ProgramUnit → ℕ → ℕ
block_end_of u i = block_end_from u (length u.lines) i (arm_after u i)

-- how many steps an arm's condition passes where it does not hold: up to the next arm's condition, or to the end of the block
unfoldable pub arm_room : ProgramUnit → ℕ → Option ℕ → ℕ
arm_room u i None = 0
arm_room u i (Some j) = own_start u j - own_end u i

-- the steps that the loops put behind their terminal statement, up to and with those of one of them
unfoldable pub turns_up_to : ProgramUnit → ℕ → List Range → ℕ
turns_up_to u first [] = 0
turns_up_to u first (r ∷ rs) = if nat_eq r.first first then turn_size u r else turn_size u r + turns_up_to u first rs

-- behind a loop
unfoldable pub loop_exit : ProgramUnit → Range → ℕ
loop_exit u r = own_end u r.last + turns_up_to u r.first (ended_at u r.last)

unfoldable pub range_of : List Range → ℕ → Option Range
range_of [] i = None
range_of (r ∷ rs) i = if nat_eq r.first i then Some r else range_of rs i

unfoldable pub loop_room : ProgramUnit → ℕ → Option Range → ℕ
loop_room u i None = 0
loop_room u i (Some r) = loop_exit u r - own_end u i

-- how many steps the condition of a statement passes where it does not hold
unfoldable pub room_of : ProgramUnit → ℕ → Line → ℕ
room_of u i line = elim line.mark [
  | Opens ↦ arm_room u i (arm_after u i)
  | Arm ↦ arm_room u i (arm_after u i)
  | _ ↦ loop_room u i (range_of (open_at u (suc i)) i)
]

-- ## Steps

-- from the last of a loop's steps back to its test, to its range where it is tested behind each turn alone, or to the steps of a DO WHILE
unfoldable pub way_back : ProgramUnit → Range → ℕ → ℕ
way_back u r from =
    if is_counted (slice_get u.lines r.first) then (if u.onetrip then from - own_end u r.first else from - own_end u r.first + 1)
    else from - own_start u r.first

unfoldable pub turn_of : ProgramUnit → ℕ → Range → List Step
turn_of u from r =
    if is_counted (slice_get u.lines r.first) then turn_code u.onetrip (way_back u r (from + 1)) (loop_lowered u (free_at u r.first) r).value
    else Again (way_back u r from) ∷ []

unfoldable pub turns_of : ProgramUnit → ℕ → List Range → List Step
turns_of u from [] = []
turns_of u from (r ∷ rs) = turn_of u from r ++ turns_of u (from + turn_size u r) rs

unfoldable pub skip_code : ProgramUnit → ℕ → Mark → List Step
skip_code u i Arm = Skip (start_of u (block_end_of u i) - own_start u i) ∷ []
skip_code u i mark = []

unfoldable pub line_code : ProgramUnit → ℕ → Line → Option (List Step)
line_code u i line =
    option_map (λ steps. skip_code u i line.mark ++ steps ++ pass_code (is_named (all_named u.lines) line.label) line.form ++ turns_of u (own_end u i) (ended_at u i))
    (statement_code u (free_at u i) (room_of u i line) line.form)

unfoldable pub both_codes : Option (List Step) → Option (List Step) → Option (List Step)
both_codes None later = None
both_codes (Some steps) None = None
both_codes (Some steps) (Some later) = Some (steps ++ later)

unfoldable pub lines_code : ProgramUnit → ℕ → List Line → Option (List Step)
lines_code u i [] = Some []
lines_code u i (line ∷ lines) = both_codes (line_code u i line) (lines_code u (suc i) lines)

-- ## Marks

unfoldable pub marked : ℕ → List step.Mark → List Marked
marked n [] = []
marked n (x ∷ xs) = record { at = n; mark = x } ∷ marked n xs

-- the card of a statement that has steps
unfoldable pub card_mark : ProgramUnit → ℕ → Line → List Marked
card_mark u i line = if nat_eq (form_size u i line) 0 then [] else marked (own_start u i) (Card line.card ∷ [])

unfoldable pub arm_marks : ProgramUnit → ℕ → Mark → List Marked
arm_marks u i Opens = marked (own_end u i) (OpensArm ∷ [])
arm_marks u i Arm = marked (own_start u i) (NextArm ∷ [])
arm_marks u i Closes = marked (start_of u i) (ClosesArm ∷ [])
arm_marks u i Plain = []

unfoldable pub loop_marks : ProgramUnit → ℕ → Line → List Marked
loop_marks u i line = elim line.form [
  | Passes ↦ []
  | On head operands ↦ elim head [
    | ToLoop label ↦ if u.onetrip then marked (own_end u i) (OpensLoopOnce ∷ []) else marked (own_end u i - 1) (OpensLoop ∷ [])
    | ToTestLoop label ↦ marked (own_start u i) (OpensWhile ∷ [])
    | _ ↦ []
  ]
]

unfoldable pub turn_marks : ProgramUnit → ℕ → List Range → List Marked
turn_marks u from [] = []
turn_marks u from (r ∷ rs) =
    marked from ((if is_counted (slice_get u.lines r.first) then ClosesLoop else ClosesWhile) ∷ []) ++ turn_marks u (from + turn_size u r) rs

unfoldable pub line_marks : ProgramUnit → ℕ → Line → List Marked
line_marks u i line = arm_marks u i line.mark ++ card_mark u i line ++ loop_marks u i line ++ turn_marks u (own_end u i) (ended_at u i)

unfoldable pub lines_marks : ProgramUnit → ℕ → List Line → List Marked
lines_marks u i [] = []
lines_marks u i (line ∷ lines) = line_marks u i line ++ lines_marks u (suc i) lines

-- ## The unit

unfoldable pub text_with : Facts → Option (List Step) → Option Text
text_with c None = None
text_with c (Some steps) = Some (record {
  facts = c;
  steps = steps;
  begins = start_of c.program;
  position = λ label. option_map (start_of c.program) (place_of_label c.program label);
  marks = lines_marks c.program 0 c.program.lines;
})

-- is it kept by which alternate return a subroutine comes back (15.8.3)
unfoldable pub keeps_return : Step → Bool
keeps_return (CallFor k callee ps) = wants_no_value callee.want
keeps_return st = false

unfoldable pub begins_with_branch : List Step → Bool
begins_with_branch (Branch k count ∷ steps) = true
begins_with_branch steps = false

-- a subroutine is called by CALL alone, and has no value (15.6): where its return is kept, a branch stands behind
unfoldable pub calls_well : List Step → Bool
calls_well [] = true
calls_well (st ∷ steps) = (not (keeps_return st) || begins_with_branch steps) && calls_well steps

unfoldable pub if_called_well : Option (List Step) → Option (List Step)
if_called_well None = None
if_called_well (Some steps) = if calls_well steps then Some steps else None

-- a unit all of whose statements are lowered; none where a form is not lowered yet
unfoldable pub lowered_unit : Facts → Option Text
lowered_unit c = text_with c (if_called_well (lines_code c.program 0 c.program.lines))

unfoldable pub units_opened : Unit {0}
unfolding loop_at_line loop_lowered free_of free_at label_in named_by named_by_head all_named is_named pass_code listed statement_code steps_of is_counted turn_size ended_at turn_sizes skip_size form_size line_size size_before start_of mark_at own_start form_size_at own_end block_end_from block_end_of arm_room turns_up_to loop_exit range_of loop_room room_of way_back turn_of turns_of skip_code line_code both_codes lines_code marked card_mark arm_marks loop_marks turn_marks line_marks lines_marks text_with keeps_return begins_with_branch calls_well if_called_well lowered_unit
units_opened = tt
