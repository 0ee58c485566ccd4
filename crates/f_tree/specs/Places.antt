-- Where control goes: the place of a label, the arms of a block, what is passed without a step, and
-- the loops that a branch leaves. ANSI X3.9-1978, sections 11.1 to 11.11.
-- All of it is read off the flat list of a unit's statements, counted from 0.
use Rattle.std.specs.Prelude.{ℕ, zero, suc, nat_eq, nat_lt, nat_le, Bool, false, ◌&&◌, List, [], ◌∷◌, drop, filter, Option, Some, None, slice_get, if◌then◌else◌}
use Rattle.f_tree.specs.Values.{NoMeaning, Checked, Gives, Fails}
use Rattle.f_tree.specs.Facts.{Passes, On, Plain, Opens, Arm, Closes, NoLoop, OpensLoop, ClosesLoop, Line, ProgramUnit, Frame}
use Rattle.f_tree.specs.World.{Round, Counted, While, View, Now, Doing, Turning}

unfoldable pub has_label : Option ℕ → ℕ → Bool
has_label None l = false
has_label (Some k) l = nat_eq k l

unfoldable pub label_from : ℕ → List Line → ℕ → Option ℕ
label_from i [] l = None
label_from i (line ∷ lines) l = if has_label line.label l then Some i else label_from (suc i) lines l

-- the statement with a label
unfoldable pub place_of_label : ProgramUnit → ℕ → Option ℕ
place_of_label u l = label_from 0 u.lines l

-- from a place in the range of a DO without a label, with so many inner ones open: its END DO
unfoldable pub loop_end_from : ℕ → ℕ → List Line → Option ℕ
loop_end_from i depth [] = None
loop_end_from i depth (line ∷ lines) = elim line.loop [
  | NoLoop ↦ loop_end_from (suc i) depth lines
  | OpensLoop ↦ loop_end_from (suc i) (suc depth) lines
  | ClosesLoop ↦ elim depth [ zero ↦ Some i | suc d ↦ loop_end_from (suc i) d lines ]
]

-- the terminal statement of the DO at a place: the statement with the label that it names, or its END DO
unfoldable pub terminal_of : ProgramUnit → ℕ → Option ℕ → Option ℕ
terminal_of u at (Some label) = place_of_label u label
terminal_of u at None = loop_end_from (suc at) 0 (drop (suc at) u.lines)

-- from a place in a block, with so many inner blocks open: the next ELSE IF, ELSE or END IF of the block itself
unfoldable pub arm_from : ℕ → ℕ → List Line → Option ℕ
arm_from i depth [] = None
arm_from i depth (line ∷ lines) = elim line.mark [
  | Plain ↦ arm_from (suc i) depth lines
  | Opens ↦ arm_from (suc i) (suc depth) lines
  | Arm ↦ if nat_eq depth 0 then Some i else arm_from (suc i) depth lines
  | Closes ↦ elim depth [ zero ↦ Some i | suc d ↦ arm_from (suc i) d lines ]
]

-- where control goes when the condition at a place does not hold
unfoldable pub arm_after : ProgramUnit → ℕ → Option ℕ
arm_after u at = arm_from (suc at) 0 (drop (suc at) u.lines)

-- what comes at a place, given the terminal statement of the innermost loop: the statements that take no
-- step are passed; behind an arm that is done the rest of its block is, with so many inner blocks open
pub record Landing : Type 0 where
  pub at : ℕ
  pub now : Now

unfoldable pub is_place : Option ℕ → ℕ → Bool
is_place None i = false
is_place (Some k) i = nat_eq k i

unfoldable mutual
  pub settle : ℕ → Option ℕ → Option ℕ → List Line → Checked Landing
  settle i skipping terminal [] = Fails NoMeaning
  settle i None terminal (line ∷ lines) = elim line.mark [
    | Arm ↦ settle (suc i) (Some 0) terminal lines
    | _ ↦ elim line.form [
      | Passes ↦ if is_place terminal i then Gives (record { at = i; now = Turning }) else settle (suc i) None terminal lines
      | On head operands ↦ Gives (record { at = i; now = Doing (On head operands) })
    ]
  ]
  settle i (Some depth) terminal (line ∷ lines) = elim line.mark [
    | Plain ↦ settle (suc i) (Some depth) terminal lines
    | Opens ↦ settle (suc i) (Some (suc depth)) terminal lines
    | Arm ↦ settle (suc i) (Some depth) terminal lines
    | Closes ↦ elim depth [ zero ↦ settle (suc i) None terminal lines | suc d ↦ settle (suc i) (Some d) terminal lines ]
  ]

-- the terminal statement of the innermost loop
unfoldable pub innermost_last : List Round → Option ℕ
innermost_last [] = None
innermost_last (round ∷ rounds) = Some round.last

-- a DO WHILE is tested again at its statement
unfoldable pub tested_at : Frame → List Round → ℕ → Option Line → Checked View
tested_at f rounds i None = Fails NoMeaning
tested_at f rounds i (Some line) = elim line.form [
  | Passes ↦ Fails NoMeaning
  | On head operands ↦ Gives (record { frame = f; at = i; now = Doing (On head operands); loops = rounds })
]

-- behind the terminal statement of the innermost loop comes its increment, or the test of its DO WHILE
unfoldable pub at_range_end : ProgramUnit → Frame → List Round → ℕ → Checked View
at_range_end u f [] i = Fails NoMeaning
at_range_end u f (round ∷ rounds) i = elim round.kind [
  | While ↦ tested_at f rounds round.first (slice_get u.lines round.first)
  | Counted p left by given ↦ Gives (record { frame = f; at = i; now = Turning; loops = round ∷ rounds })
]

unfoldable pub landed : ProgramUnit → Frame → List Round → Checked Landing → Checked View
landed u f rounds (Fails act) = Fails act
landed u f rounds (Gives l) = elim l.now [
  | Turning ↦ at_range_end u f rounds l.at
  | _ ↦ Gives (record { frame = f; at = l.at; now = l.now; loops = rounds })
]

-- a procedure that has come to a place
unfoldable pub arrived : ProgramUnit → Frame → List Round → ℕ → Checked View
arrived u f rounds i = landed u f rounds (settle i None (innermost_last rounds) (drop i u.lines))

-- a procedure that is done with the statement at a place
unfoldable pub passed : ProgramUnit → Frame → List Round → ℕ → Checked View
passed u f rounds i =
    if is_place (innermost_last rounds) i then at_range_end u f rounds i
    else arrived u f rounds (suc i)

-- is a place in the range of a loop
unfoldable pub is_in_range : ℕ → Round → Bool
is_in_range i round = nat_lt round.first i && nat_le i round.last

-- a branch to a place keeps the loops in whose range it is
unfoldable pub branched : ProgramUnit → Frame → List Round → Option ℕ → Checked View
branched u f rounds None = Fails NoMeaning
branched u f rounds (Some i) = arrived u f (filter (is_in_range i) rounds) i

unfoldable pub gone_to : ProgramUnit → Frame → List Round → ℕ → Checked View
gone_to u f rounds label = branched u f rounds (place_of_label u label)

unfoldable pub places_opened : Unit {0}
unfolding has_label label_from place_of_label loop_end_from terminal_of arm_from arm_after is_place settle innermost_last tested_at at_range_end landed arrived passed is_in_range branched gone_to
places_opened = tt
