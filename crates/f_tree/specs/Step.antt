-- One step of one active procedure. ANSI X3.9-1978, sections 10 (assignment), 11 (control), 12.8
-- (transfers) and 15 (procedures).
-- A step is an assignment or ASSIGN; a test of IF, ELSE IF or DO WHILE; a GO TO; the start of a DO or implied DO
-- with its first test; an increment with its test; a CALL or a function reference; the start, an item or the end of
-- a transfer; OPEN and its kin; STOP; RETURN or END. CONTINUE, ELSE, END IF and END DO take no step.
use Rattle.std.specs.Prelude.{ℕ, zero, suc, ◌-◌, nat_eq, nat_lt, max, ℤ, pos, negsuc, ◌+ℤ◌, ◌-ℤ◌, int_lt, int_div, Bool, true, false, ◌&&◌, ◌||◌, not, List, [], ◌∷◌, Option, Some, None, slice_get, bytes_eq, if◌then◌else◌, min, take, length, ◌++◌, ◌+◌}
use Rattle.std.specs.Ordering.{int_eq}
use Rattle.simulation.specs.Machine.{Goes, Ends, Breaks, Lang}
use Rattle.f_tree.specs.Values.{Bytes, Spot, Datum, IsInt, IsLog, IsSpot, Nothing, ZeroStep, LoopVariableChanged, BadAssignedLabel, ActiveProcedure, MissingProcedure, NoMeaning, Checked, Gives, Fails, given_that, checked, IsText, DefinedAndReferenced}
use Rattle.f_tree.specs.Terms.{AsSubroutine, Terms}
use Rattle.f_tree.specs.Store.{Store, Whole, Label, fetch, define, define_label, label_at}
use Rattle.f_tree.specs.Facts.{Head, ToSet, ToSetLabel, ToGo, ToPick, ToGoAssigned, ToGoBySign, ToGuard, ToEnterArm, ToLoop, ToTestLoop, ToCall, ToReturn, ToStop, ToBegin, ToTransfer, ToRepeat, ToTurn, ToFinish, ToEnd, Form, Passes, On, Opens, Arm, Line, Work, Done, Before, Turn, ProgramUnit, Facts, ToSetText, ToAuxiliary}
use Rattle.f_tree.specs.Valuing.{Red, Valued, Bad, Asks, reduce_all}
use Rattle.f_tree.specs.World.{World, View, Now, Doing, Turning, Waits, Returning, Round, RoundKind, Counted, While, Ending, Stop, Io, fortran_sorts, Happening, proceeding}
use Rattle.f_tree.specs.World as world
use Rattle.f_tree.specs.Courses.{Course, Further, IsDone, Branches, StopsWith, NotSaid}
use Rattle.f_tree.specs.Places.{place_of_label, terminal_of, arm_after, arrived, passed, gone_to}
use Rattle.f_tree.specs.Association.{call, answer, alternate_of, start, resume}
use Rattle.f_tree.specs.Records.{text_from}
use Rattle.f_tree.specs.Transfers.{next_of, followed_by, begins, item_done, finished}
use Rattle.f_tree.specs.UnitStatements.{auxiliary}

-- the statement is done
unfoldable pub onward : Facts → View → World → Happening
onward c v w = proceeding (passed c.program v.frame v.loops v.at) w

unfoldable pub go : Facts → View → World → ℕ → Happening
go c v w label = proceeding (gone_to c.program v.frame v.loops label) w

-- what a transfer, or OPEN and its kin, comes to, with what follows of its list
unfoldable pub coursed : Facts → View → Work → Course → Happening
coursed c v rest (Further w) = Goes (record v { now = Doing (next_of rest) }) w
coursed c v rest (IsDone w) = onward c v w
coursed c v rest (Branches label w) = go c v w label
coursed c v rest (StopsWith number w) = Ends (Io number) v w
coursed c v rest (NotSaid act) = Breaks act

unfoldable pub onward_with : Facts → View → World → Checked Store → Happening
onward_with c v w (Gives s) = onward c v (record w { store = s })
onward_with c v w (Fails act) = Breaks act

-- the assignment of a text (10.4): its pieces are fetched as far as the target is long, and none of them may
-- be, so far, a position that is defined
unfoldable pub overlaps : Spot → ℕ → Spot → Bool
overlaps q count p = nat_eq q.sequence p.sequence && (nat_lt 0 count && (nat_lt q.first (p.first + p.width) && nat_lt p.first (q.first + count)))

unfoldable pub piece_from : Store → Spot → ℕ → Spot → Checked Bytes
piece_from s q count p =
    if overlaps q count p then Fails DefinedAndReferenced else text_from (fetch s (record q { width = count }))

unfoldable pub piece_for : Store → Spot → ℕ → Datum → Checked Bytes
piece_for s p room (IsText cs) = Gives (take room cs)
piece_for s p room (IsSpot q) = piece_from s q (min q.width room) p
piece_for s p room _ = Fails NoMeaning

unfoldable pub pieces_for : Store → Spot → ℕ → List Datum → Checked Bytes
pieces_for s p room [] = Gives []
pieces_for s p room (d ∷ ds) =
    given_that (piece_for s p room d) (λ a. given_that (pieces_for s p (room - length a) ds) (λ b. Gives (a ++ b)))

unfoldable pub text_stored : Store → Spot → Checked Bytes → Checked Store
text_stored s p (Gives cs) = define s p (IsText cs)
text_stored s p (Fails act) = Fails act

-- the operands: the pieces, and behind them the target
unfoldable pub text_set : Store → List Datum → List Datum → Checked Store
text_set s ds [] = Fails NoMeaning
text_set s ds (IsSpot p ∷ []) = text_stored s p (pieces_for s p p.width ds)
text_set s ds (d ∷ more) = text_set s (ds ++ d ∷ []) more

-- computed, assigned and arithmetic branches (11.2 to 11.4)
unfoldable pub picked : Facts → View → World → Option ℕ → Happening
picked c v w None = onward c v w
picked c v w (Some label) = go c v w label

unfoldable pub nth_label : List ℕ → ℤ → Option ℕ
nth_label labels (pos (suc n)) = slice_get labels n
nth_label labels _ = None

unfoldable pub contains : List ℕ → ℕ → Bool
contains [] l = false
contains (k ∷ ks) l = nat_eq k l || contains ks l

-- the labels that the ASSIGN statements of a unit name (10.3)
unfoldable pub assigned_by : Form → List ℕ
assigned_by (On (ToSetLabel label) operands) = label ∷ []
assigned_by (On (ToGuard form) operands) = assigned_by form
assigned_by form = []

unfoldable pub assigned_in : List Line → List ℕ
assigned_in [] = []
assigned_in (line ∷ lines) = assigned_by line.form ++ assigned_in lines

-- the labels to which a GO TO by a variable may go: those of its list, or without a list those that may be in a variable of the unit,
-- which are those that its ASSIGN statements name (11.3)
unfoldable pub labels_to_go : ProgramUnit → List ℕ → List ℕ
labels_to_go u [] = assigned_in u.lines
labels_to_go u (k ∷ ks) = k ∷ ks

-- does the block between two statements, both left out, hold the one place and not the other
unfoldable pub block_is_entered : ℕ → Option ℕ → ℕ → ℕ → Bool
block_is_entered first None from to = false
block_is_entered first (Some last) from to =
    (nat_lt first to && nat_lt to last) && not (nat_lt first from && nat_lt from last)

unfoldable pub behind_terminal : Option ℕ → Option ℕ
behind_terminal None = None
behind_terminal (Some last) = Some (suc last)

unfoldable pub block_end : ProgramUnit → ℕ → Line → Option ℕ
block_end u i line = elim line.mark [
  | Opens ↦ arm_after u i
  | Arm ↦ arm_after u i
  | _ ↦ elim line.form [
    | On head operands ↦ elim head [
      | ToLoop label ↦ behind_terminal (terminal_of u i label)
      | ToTestLoop label ↦ behind_terminal (terminal_of u i label)
      | _ ↦ None
    ]
    | Passes ↦ None
  ]
]

-- does a branch enter the range of a DO or an arm of an IF block from outside (11.10.8, 11.6 to 11.8)
unfoldable pub enters_from : ProgramUnit → ℕ → List Line → ℕ → ℕ → Bool
enters_from u i [] from to = false
enters_from u i (line ∷ lines) from to = block_is_entered i (block_end u i line) from to || enters_from u (suc i) lines from to

unfoldable pub enters_block : ProgramUnit → ℕ → Option ℕ → Bool
enters_block u from None = true
enters_block u from (Some to) = enters_from u 0 u.lines from to

unfoldable pub name_of : ProgramUnit → Bytes
name_of u = elim u.entries [ [] ↦ [] | e ∷ es ↦ e.name ]

unfoldable pub gone_by : Facts → View → World → List ℕ → Checked Whole → Happening
gone_by c v w labels (Gives (Label owner l)) =
    if (bytes_eq owner (name_of c.program) && contains (labels_to_go c.program labels) l) && not (enters_block c.program v.at (place_of_label c.program l)) then go c v w l
    else Breaks BadAssignedLabel
gone_by c v w labels (Gives _) = Breaks NoMeaning
gone_by c v w labels (Fails act) = Breaks act

unfoldable pub by_sign : ℤ → ℕ → ℕ → ℕ → ℕ
by_sign z below at above = if int_lt z (pos 0) then below else if int_eq z (pos 0) then at else above

-- IF (11.5 to 11.9)
unfoldable pub guarded : Facts → View → World → Form → Bool → Happening
guarded c v w form false = onward c v w
guarded c v w Passes true = onward c v w
guarded c v w (On head operands) true = Goes (record v { now = Doing (On head operands) }) w

-- control comes to the next arm because the condition before it does not hold
unfoldable pub at_arm : Facts → View → ℕ → Option Line → Checked View
at_arm c v i None = Fails NoMeaning
at_arm c v i (Some line) = elim line.form [
  | Passes ↦ arrived c.program v.frame v.loops (suc i)
  | On head operands ↦ Gives (record v { at = i; now = Doing (On head operands) })
]

unfoldable pub next_arm : Facts → View → Option ℕ → Checked View
next_arm c v None = Fails NoMeaning
next_arm c v (Some i) = at_arm c v i (slice_get c.program.lines i)

unfoldable pub arm_entered : Facts → View → World → Bool → Happening
arm_entered c v w true = proceeding (arrived c.program v.frame v.loops (suc v.at)) w
arm_entered c v w false = proceeding (next_arm c v (arm_after c.program v.at)) w

-- DO (11.10): the turns are max((limit - first + step) / step, 0) in exact numbers
unfoldable pub turns_of : ℤ → ℕ
turns_of (pos n) = n
turns_of (negsuc n) = 0

unfoldable pub turns : ℤ → ℤ → ℤ → ℕ
turns first limit by = turns_of (int_div ((limit -ℤ first) +ℤ by) by)

unfoldable pub at_least_once : Bool → ℕ → ℕ
at_least_once true n = max n 1
at_least_once false n = n

unfoldable pub looped : Facts → View → World → ℕ → Spot → ℤ → ℤ → ℕ → Happening
looped c v w last p first by zero = proceeding (passed c.program v.frame v.loops last) w
looped c v w last p first by (suc n) =
    proceeding (arrived c.program v.frame (record { first = v.at; last = last; kind = Counted p (suc n) by first } ∷ v.loops) (suc v.at)) w

unfoldable pub loop_stored : Facts → View → World → ℕ → Spot → ℤ → ℤ → ℕ → Checked Store → Happening
loop_stored c v w last p first by n (Fails act) = Breaks act
loop_stored c v w last p first by n (Gives s) = looped c v (record w { store = s }) last p first by n

unfoldable pub loop_begun : Facts → View → World → Option ℕ → Spot → ℤ → ℤ → ℤ → Happening
loop_begun c v w None p first limit by = Breaks NoMeaning
loop_begun c v w (Some last) p first limit by =
    if int_eq by (pos 0) then Breaks ZeroStep
    else loop_stored c v w last p first by (at_least_once c.program.onetrip (turns first limit by)) (define w.store p (IsInt first))

-- a test of a DO WHILE (MIL-STD-1753), at its start and after each turn
unfoldable pub loop_tested : Facts → View → World → Option ℕ → Bool → Happening
loop_tested c v w None b = Breaks NoMeaning
loop_tested c v w (Some last) false = proceeding (passed c.program v.frame v.loops last) w
loop_tested c v w (Some last) true =
    proceeding (arrived c.program v.frame (record { first = v.at; last = last; kind = While } ∷ v.loops) (suc v.at)) w

-- an increment: the variable must hold what the loop gave it; the store and the value after it
pub record Grown : Type 0 where
  pub store : Store
  pub given : ℤ

unfoldable pub grown_to : Store → Spot → ℤ → Checked Datum → Checked Grown
grown_to s p z (Gives d) = given_that (define s p d) (λ s'. Gives (record { store = s'; given = z }))
grown_to s p z (Fails act) = Fails act

unfoldable pub grown_from : Store → Spot → ℤ → ℤ → Checked Datum → Checked Grown
grown_from s p by given (Gives (IsInt z)) =
    if int_eq z given then grown_to s p (given +ℤ by) (checked (given +ℤ by)) else Fails LoopVariableChanged
grown_from s p by given _ = Fails LoopVariableChanged

unfoldable pub grown : Store → Spot → ℤ → ℤ → Checked Grown
grown s p by given = grown_from s p by given (fetch s p)

unfoldable pub turned_with : Facts → View → World → Round → List Round → Spot → ℕ → ℤ → Checked Grown → Happening
turned_with c v w round rounds p left by (Fails act) = Breaks act
turned_with c v w round rounds p (suc (suc left)) by (Gives g) =
    proceeding (arrived c.program v.frame (record round { kind = Counted p (suc left) by g.given } ∷ rounds) (suc round.first)) (record w { store = g.store })
turned_with c v w round rounds p _ by (Gives g) = proceeding (passed c.program v.frame rounds round.last) (record w { store = g.store })

unfoldable pub turned : Facts → View → World → List Round → Happening
turned c v w [] = Breaks NoMeaning
turned c v w (round ∷ rounds) = elim round.kind [
  | While ↦ Breaks NoMeaning
  | Counted p left by given ↦ turned_with c v w round rounds p left by (grown w.store p by given)
]

-- an implied DO (12.8.2.3): `-onetrip` does not touch it
unfoldable pub work_after : Work → Work → Spot → ℕ → ℤ → ℤ → Work
work_after items rest p zero by given = rest
work_after items rest p (suc n) by given = followed_by items (Before (Turn items p (suc n) by given) rest)

unfoldable pub repeated : View → World → Work → Work → Spot → ℤ → ℤ → ℕ → Checked Store → Happening
repeated v w items rest p first by n (Fails act) = Breaks act
repeated v w items rest p first by n (Gives s) = Goes (record v { now = Doing (next_of (work_after items rest p n by first)) }) (record w { store = s })

unfoldable pub repeat_begun : View → World → Work → Work → Spot → ℤ → ℤ → ℤ → Happening
repeat_begun v w items rest p first limit by =
    if int_eq by (pos 0) then Breaks ZeroStep
    else repeated v w items rest p first by (turns first limit by) (define w.store p (IsInt first))

unfoldable pub item_turned : View → World → Work → Work → Spot → ℕ → ℤ → Checked Grown → Happening
item_turned v w items rest p left by (Fails act) = Breaks act
item_turned v w items rest p left by (Gives g) =
    Goes (record v { now = Doing (next_of (work_after items rest p (left - 1) by g.given)) }) (record w { store = g.store })

-- STOP (11.12): without a text the run ends as by the END of the main program
unfoldable pub stop_ending : Bytes → Ending
stop_ending [] = world.Plain
stop_ending (c ∷ cs) = Stop (c ∷ cs)

-- what a statement does once its operands are valued
unfoldable pub deed : Facts → View → World → Head → List Datum → Happening
deed c v w ToSet (d ∷ IsSpot p ∷ []) = onward_with c v w (define w.store p d)
deed c v w ToSetText ds = onward_with c v w (text_set w.store [] ds)
deed c v w (ToSetLabel label) (IsSpot p ∷ []) = onward_with c v w (define_label w.store p (name_of c.program) label)
deed c v w (ToGo label) [] = go c v w label
deed c v w (ToPick labels) (IsInt z ∷ []) = picked c v w (nth_label labels z)
deed c v w (ToGoAssigned labels) (IsSpot p ∷ []) = gone_by c v w labels (label_at w.store p)
deed c v w (ToGoBySign below at above) (IsInt z ∷ []) = go c v w (by_sign z below at above)
deed c v w (ToGuard form) (IsLog b ∷ []) = guarded c v w form b
deed c v w ToEnterArm (IsLog b ∷ []) = arm_entered c v w b
deed c v w (ToLoop label) (IsSpot p ∷ IsInt first ∷ IsInt limit ∷ IsInt by ∷ []) = loop_begun c v w (terminal_of c.program v.at label) p first limit by
deed c v w (ToTestLoop label) (IsLog b ∷ []) = loop_tested c v w (terminal_of c.program v.at label) b
deed c v w (ToCall name) ds = call c v w (record { name = name; want = AsSubroutine }) ds Returning
deed c v w ToReturn [] = answer c.program.kind v w Nothing
deed c v w ToReturn (IsInt z ∷ []) = answer c.program.kind v w (alternate_of v.frame.alternates z)
deed c v w (ToStop text) [] = Ends (stop_ending text) v w
deed c v w (ToBegin direction layout controls work) ds = coursed c v work (begins c.program.formats w direction layout controls ds w.transfer)
deed c v w (ToTransfer rest) (d ∷ []) = coursed c v rest (item_done w d w.transfer)
deed c v w (ToRepeat items rest) (IsSpot p ∷ IsInt first ∷ IsInt limit ∷ IsInt by ∷ []) = repeat_begun v w items rest p first limit by
deed c v w (ToTurn items p left by given rest) [] = item_turned v w items rest p left by (grown w.store p by given)
deed c v w (ToAuxiliary which controls) ds = coursed c v Done (auxiliary w which controls ds w.transfer)
deed c v w ToFinish [] = coursed c v Done (finished w w.transfer)
deed c v w ToEnd [] = answer c.program.kind v w Nothing
deed c v w _ _ = Breaks NoMeaning

unfoldable pub valued : Facts → View → World → Head → Red (List Datum) Terms → Happening
valued c v w head (Valued ds) = deed c v w head ds
valued c v w head (Bad act) = Breaks act
valued c v w head (Asks callee ds rest) = call c v w callee ds (λ height. Waits height (λ d. On head (rest d)))

unfoldable pub doing : Facts → View → World → Form → Happening
doing c v w Passes = onward c v w
doing c v w (On head operands) = valued c v w head (reduce_all c v.frame w.store [] operands)

-- one step of an active procedure, over what all procedures share
unfoldable pub step : Facts → View → World → Happening
step c v w = elim v.now [
  | Doing form ↦ doing c v w form
  | Turning ↦ turned c v w v.loops
  | _ ↦ Breaks NoMeaning
]

-- FORTRAN as a framed machine
abbrev pub fortran : Lang Ending
fortran = record { sorts = fortran_sorts; step = step; start = start; resume = resume; missing = MissingProcedure; busy = ActiveProcedure; plain = world.Plain }

unfoldable pub step_opened : Unit {0}
unfolding onward go coursed onward_with overlaps piece_from piece_for pieces_for text_stored text_set picked nth_label contains assigned_by assigned_in labels_to_go block_is_entered behind_terminal block_end enters_from enters_block name_of gone_by by_sign guarded at_arm next_arm arm_entered turns_of turns at_least_once looped loop_stored loop_begun loop_tested grown_to grown_from grown turned_with turned work_after repeated repeat_begun item_turned stop_ending deed valued doing step
step_opened = tt
