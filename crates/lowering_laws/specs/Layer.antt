-- A program unit and its lowered text as a pair of local simulation: the two share one store, and where the unit is at a statement, or in the
-- midst of valuing its operands or of a list of items, the text is at the steps that are left of it.
use Rattle.std.specs.Prelude.{◌≡◌, ℕ, pos, true, false, zero, suc, ◌+◌, ◌-◌, ◌<◌, ◌≤◌, Bool, not, ◌||◌, List, [], ◌∷◌, ◌++◌, length, map, drop, filter, Option, Some, None, slice_get, ℤ, ◌-ℤ◌, int_div}
use Rattle.fortran_laws.specs.simulation.LocalSimulation.{Kit, Pairing, Couple, Local}
use Rattle.fortran_laws.specs.f_tree.Values.{Bytes, Datum, IsInt, IsLabel, Spot, IsSpot}
use Rattle.fortran_laws.specs.f_tree.Terms.{IsLess, IsEqual, Wanted, AsSubroutine, AsFunction, Callee, Term, Val, Refer, Bind, Terms, NoMore, More}
use Rattle.fortran_laws.specs.f_tree.Facts.{Direction, Layout, Controls, AuxiliaryKind, Work, ToSet, ToSetLabel, ToGo, ToPick, ToGoAssigned, ToGoBySign, ToGuard, ToEnterArm, ToTestLoop, ToCall, ToReturn, ToStop, ToBegin, ToTransfer, ToRepeat, ToTurn, ToFinish, ToAuxiliary, ToEnd, Head, Form, Passes, On, Plain, Opens, Arm, Closes, Line, EntryPoint, ProgramUnit, UnitKind, MainProgram, SubroutineUnit, FunctionUnit, BlockDataUnit, Frame, ToLoop}
use Rattle.fortran_laws.specs.f_tree.Places.{place_of_label, terminal_of, arm_after}
use Rattle.std.specs.Ordering.{int_eq}
use Rattle.fortran_laws.specs.f_tree.Setting.{IsIn}
use Rattle.fortran_laws.specs.f_tree.Nests.{Range, loop_of, is_within, open_at}
use Rattle.fortran_laws.specs.f_tree.World as fortran
use Rattle.fortran_laws.specs.f_tree.World.{World, Transfer, Round, RoundKind, While, Counted, Called, Passed}
use Rattle.fortran_laws.specs.f_tree.Association.{entry_of, alternate_of}
use Rattle.fortran_laws.specs.f_tree.Transfers.{next_of}
use Rattle.fortran_laws.specs.f_tree.Step.{contains, labels_to_go, enters_block, fortran as fortran_language, turns_of}
use Rattle.lowering.specs.l_core.Pures.{Pure, Constant, Operated, Pures, NoPure, AndPure, Temporaries}
use Rattle.lowering.specs.l_core.Steps.{Starts, Takes, Finishes, Auxiliary, Step, Put, PutLabel, Unless, Skip, Again, Jump, Select, JumpBy, Pass, CallFor, CallSub, Branch, Way, Back, BackBy, Halt, Acts, Text}
use Rattle.lowering.specs.l_core.Machine.{View, lowered, passed_by}
use Rattle.lowering.specs.l_core.Costs.{cost, rest}
use Rattle.lowering.specs.Statements.{wants_no_value, labels_written, hides_labels, call_steps, loop_operands, test_by, loop_test}
use Rattle.lowering.specs.Units.{free_at, own_start, own_end, loop_exit, turn_size, turn_of, loop_lowered}
use Rattle.lowering_laws.specs.Walks.{Spans, at_step, IsOrdinary}
use Rattle.lowering_laws.specs.Midway.{Mode, InOrder, OfLoop, lowered_as, AreIn, LoopLast}

-- ## What a procedure finds

-- a value that is no label
abbrev pub IsNoLabel : Datum → Type 0
IsNoLabel d = (l : ℕ) → d ≡ IsLabel l → ⊥

-- the labels among values, and those that are passed to a subroutine
abbrev pub labels_in : List Datum → List ℕ
labels_in [] = []
labels_in (IsLabel l ∷ ds) = l ∷ labels_in ds
labels_in (d ∷ ds) = labels_in ds

abbrev pub labels_for : Wanted → List Datum → List ℕ
labels_for AsSubroutine ds = labels_in ds
labels_for (AsFunction basic width) ds = []

-- An answer of a unit, and that of its text: of a subroutine the label of the alternate return that it takes, if it takes one, and the number
-- that picks it among the labels that were passed (15.6.2.3, 15.8.3); of a function the same value, which is no label (15.5.2).
abbrev pub IsGiven : Wanted → List ℕ → Datum → Datum → Type 0
IsGiven AsSubroutine labels r r' = (z : ℤ) × (r' ≡ IsInt z) × (r ≡ alternate_of labels z)
IsGiven (AsFunction basic width) labels r r' = (r ≡ r') × IsNoLabel r

-- a procedure finds a transfer in progress or none, which it gives back, what is wanted of it, and the labels that were passed to it
pub record Found : Type 0 where
  pub transfer : Option Transfer
  pub wanted : Wanted
  pub labels : List ℕ

-- The world is what the procedure that runs has found.
abbrev pub lower_kit : Kit fortran_language lowered
lower_kit = record {
  World = Found;
  Grows = λ i μ μ'. Unit {0};
  Passed = λ μ s n a t n' a'. (s ≡ t) × (n ≡ n') × (a ≡ a') × (s.transfer ≡ μ.transfer) × (a.want ≡ μ.wanted) × (labels_for a.want a.actuals ≡ μ.labels);
  Given = λ μ s r t r'. (s ≡ t) × (s.transfer ≡ μ.transfer) × IsGiven μ.wanted μ.labels r r';
  Claimed = λ x. ⊥;
  Told = λ x e. ⊥;
}

-- a unit serves what was wanted of it, and a subroutine knows the labels that were passed to it
abbrev pub KnowsCall : UnitKind → Frame → Wanted → List ℕ → Type 0
KnowsCall MainProgram f wanted labels = wanted ≡ AsSubroutine
KnowsCall SubroutineUnit f wanted labels = (wanted ≡ AsSubroutine) × (f.alternates ≡ labels)
KnowsCall FunctionUnit f wanted labels = wanted ≡ AsSubroutine → ⊥
KnowsCall BlockDataUnit f wanted labels = Unit {0}

-- the frame of a procedure that has found this
pub record IsCalled (kind : UnitKind) (f : Frame) (μ : Found) : Type 0 where
  pub knows : KnowsCall kind f μ.wanted μ.labels
  pub none : (x : Bytes) (d : Datum) → f.bound x ≡ Some d → IsNoLabel d

-- ## Steps that do nothing but go on

-- from a position the text comes to another by steps that do nothing
pub data Leads (u : Text) : ℕ → ℕ → Type 0 where
  there : {p : ℕ} → Leads u p p
  by_pass : {p q : ℕ} → slice_get u.steps p ≡ Some Pass → Leads u (suc p) q → Leads u p q
  by_skip : {p n q : ℕ} → slice_get u.steps p ≡ Some (Skip n) → Leads u (suc p + n) q → Leads u p q

-- behind the call of a subroutine the number that it answered picks a way
pub record Picks (u : Text) (m : Temporaries) (p q : ℕ) : Type 0 where
  pub kept : ℕ
  pub count : ℕ
  pub number : ℤ
  pub there : slice_get u.steps p ≡ Some (Branch kept count)
  pub holds : m kept ≡ Some (IsInt number)
  pub past : suc p + passed_by count number ≡ q

-- The same from where the text stands, which may be behind a CALL: there it goes past all ways, or by one of them. All but the branch and its
-- way stands from a position on.
pub data Arrives (u : Text) (m : Temporaries) (low : ℕ) : ℕ → ℕ → Type 0 where
  plainly : {p q : ℕ} → low ≤ p → Leads u p q → Arrives u m low p q
  by_branch : {p q r : ℕ} → Picks u m p r → low ≤ r → Leads u r q → Arrives u m low p q
  by_way : {p q r s : ℕ} (label : ℕ) → Picks u m p s → slice_get u.steps s ≡ Some (Way label) → u.position label ≡ Some r → low ≤ r → Leads u r q → Arrives u m low p q

-- ## Loops

-- where the own steps of a statement end
abbrev pub ends_of : Text → ℕ → ℕ
ends_of u i = own_end u.facts.program i

-- each of these loops begins before a position
abbrev pub AllBefore : Text → ℕ → List Range → Type 0
AllBefore u p [] = Unit {0}
AllBefore u p (r ∷ rs) = (ends_of u r.first ≤ p) × AllBefore u p rs

-- the steps behind a terminal statement, those of one loop after those of the other, up to where the next statement begins
pub data TurnsStand (u : Text) (i : ℕ) : ℕ → List Range → Type 0 where
  no_turn : {q : ℕ} → q ≡ u.begins (suc i) → TurnsStand u i q []
  turn_then : {q : ℕ} {r : Range} {rs : List Range} → Spans u q (turn_of u.facts.program q r) (q + turn_size u.facts.program r) → q + turn_size u.facts.program r ≡ loop_exit u.facts.program r →
      TurnsStand u i (q + turn_size u.facts.program r) rs → TurnsStand u i q (r ∷ rs)

abbrev pub AllEnd : ℕ → List Range → Type 0
AllEnd i [] = Unit {0}
AllEnd i (r ∷ rs) = (r.last ≡ i) × AllEnd i rs

abbrev pub NoneEnds : ℕ → List Range → Type 0
NoneEnds i [] = Unit {0}
NoneEnds i (r ∷ rs) = (r.last ≡ i → ⊥) × NoneEnds i rs

-- a position behind a statement, with the loops that are still to be turned or left there: those that end with it, and those that go on
pub record IsBehind (u : Text) (i p : ℕ) (open' : List Range) : Type 0 where
  pub ended : List Range
  pub past : List Range
  pub all : open' ≡ ended ++ past
  pub turns : TurnsStand u i p ended
  pub ends : AllEnd i ended
  pub goes : NoneEnds i past
  pub next : open_at u.facts.program (suc i) ≡ past

-- each loop stands in those that are open at its DO
abbrev pub IsChain : ProgramUnit → List Range → Type 0
IsChain u [] = Unit {0}
IsChain u (r ∷ outer) = (open_at u r.first ≡ outer) × IsChain u outer

-- a DO WHILE, and its terminal statement
pub record IsTested (u : ProgramUnit) (r : Range) : Type 0 where
  pub line : Line
  pub label : Option ℕ
  pub operands : Terms
  pub there : slice_get u.lines r.first ≡ Some line
  pub is : line.form ≡ On (ToTestLoop label) operands
  pub ends : terminal_of u r.first label ≡ Some r.last

-- a counted DO: its variable, limit and step are had in the temporaries that it keeps, and one turn more is left than what is between the
-- value that it gave the variable and the limit has of steps
pub record IsCounted (u : Text) (f : Frame) (m : Temporaries) (r : Range) (p : Spot) (left : ℕ) (by given : ℤ) : Type 0 where
  pub line : Line
  pub label : Option ℕ
  pub operands : Terms
  pub there : slice_get u.facts.program.lines r.first ≡ Some line
  pub is : line.form ≡ On (ToLoop label) operands
  pub ends : terminal_of u.facts.program r.first label ≡ Some r.last
  pub first : Datum
  pub limit : ℤ
  pub lasts : LoopLast u.facts f (loop_operands (free_at u.facts.program r.first) operands).free m (loop_operands (free_at u.facts.program r.first) operands).value (IsSpot p ∷ first ∷ IsInt limit ∷ IsInt by ∷ [])
  pub steps_left : left ≡ suc (turns_of (int_div (limit -ℤ given) by))
  pub some_step : int_eq by (pos 0) ≡ false

-- a loop that runs, beside its range
abbrev pub Runs : Text → Frame → Temporaries → Range → RoundKind → Type 0
Runs u f m r While = IsTested u.facts.program r
Runs u f m r (Counted p left by given) = IsCounted u f m r p left by given

pub record IsRound (u : Text) (f : Frame) (m : Temporaries) (r : Range) (round : Round) : Type 0 where
  pub first : round.first ≡ r.first
  pub last : round.last ≡ r.last
  pub runs : Runs u f m r round.kind

abbrev pub AreRounds : Text → Frame → Temporaries → List Range → List Round → Type 0
AreRounds u f m [] [] = Unit {0}
AreRounds u f m (r ∷ rs) (round ∷ rounds) = IsRound u f m r round × AreRounds u f m rs rounds
AreRounds u f m [] (round ∷ rounds) = ⊥
AreRounds u f m (r ∷ rs) [] = ⊥

-- ## Branches

-- a branch from a statement to a label goes into no range from outside
abbrev pub Reaches : ProgramUnit → ℕ → ℕ → Type 0
Reaches u i label = (j : ℕ) → place_of_label u label ≡ Some j → open_at u j ≡ filter (is_within j) (open_at u i)

-- may the value of an operand be a label that is none of these
unfoldable mutual
  pub may_be_other : (ℕ → Bool) → Term → Bool
  may_be_other known (Val (IsLabel l)) = not (known l)
  may_be_other known (Refer callee ts) = wants_no_value callee.want
  may_be_other known (Bind ts t) = passes_other known ts || may_be_other known t
  may_be_other known t = false

  pub passes_other : (ℕ → Bool) → Terms → Bool
  passes_other known NoMore = false
  passes_other known (More t ts) = may_be_other known t || passes_other known ts

-- the operands of a CALL are no labels but such as may be branched to
pub data IsSafe (u : ProgramUnit) (i : ℕ) (ts : Terms) : Type 0 where
  by_all : ((label : ℕ) → Reaches u i label) → IsSafe u i ts
  by_those : (known : ℕ → Bool) → passes_other known ts ≡ false → ((label : ℕ) → known label ≡ true → Reaches u i label) → IsSafe u i ts

-- so do the labels of ERR and END, where they are written (12.7)
abbrev pub LabelReaches : ProgramUnit → ℕ → Option ℕ → Type 0
LabelReaches u i None = Unit {0}
LabelReaches u i (Some label) = Reaches u i label

abbrev pub ControlsReach : ProgramUnit → ℕ → Controls → Type 0
ControlsReach u i controls = LabelReaches u i controls.on_error × LabelReaches u i controls.on_end

-- the branches of a statement go into no range from outside; no statement begins in the midst of a list of items
abbrev mutual
  pub BranchesWell : ProgramUnit → ℕ → Form → Type 0
  BranchesWell u i Passes = Unit {0}
  BranchesWell u i (On head ts) = HeadBranches u i head ts

  pub HeadBranches : ProgramUnit → ℕ → Head → Terms → Type 0
  HeadBranches u i (ToGo label) ts = Reaches u i label
  HeadBranches u i (ToPick labels) ts = (label : ℕ) → contains labels label ≡ true → Reaches u i label
  HeadBranches u i (ToGoBySign below at above) ts = Reaches u i below × Reaches u i at × Reaches u i above
  HeadBranches u i (ToGuard form) ts = BranchesWell u i form
  HeadBranches u i (ToCall name) ts = IsSafe u i ts
  HeadBranches u i (ToBegin way layout controls work) ts = ControlsReach u i controls
  HeadBranches u i (ToAuxiliary which controls) ts = ControlsReach u i controls
  HeadBranches u i (ToTransfer more) ts = ⊥
  HeadBranches u i (ToRepeat items more) ts = ⊥
  HeadBranches u i (ToTurn items p left by given more) ts = ⊥
  HeadBranches u i ToFinish ts = ⊥
  HeadBranches u i head ts = Unit {0}

-- in the midst of a list the labels are those of the transfer in progress
abbrev pub BranchesNow : ProgramUnit → ℕ → Head → Terms → Type 0
BranchesNow u i (ToTransfer more) ts = Unit {0}
BranchesNow u i (ToRepeat items more) ts = Unit {0}
BranchesNow u i (ToTurn items p left by given more) ts = Unit {0}
BranchesNow u i ToFinish ts = Unit {0}
BranchesNow u i head ts = HeadBranches u i head ts

-- a transfer of this statement, whose labels may be branched to
abbrev pub IsOwn : ProgramUnit → ℕ → Option Transfer → Type 0
IsOwn u i None = Unit {0}
IsOwn u i (Some t) = ControlsReach u i t.controls

-- The transfer in progress is the one that the procedure found; in the midst of a list it is one of its own, begun where it found none.
abbrev pub HasTransfer : ProgramUnit → Found → ℕ → Head → Option Transfer → Type 0
HasTransfer u μ i (ToTransfer more) x = (μ.transfer ≡ None) × IsOwn u i x
HasTransfer u μ i (ToRepeat items more) x = (μ.transfer ≡ None) × IsOwn u i x
HasTransfer u μ i (ToTurn items p left by given more) x = (μ.transfer ≡ None) × IsOwn u i x
HasTransfer u μ i ToFinish x = (μ.transfer ≡ None) × IsOwn u i x
HasTransfer u μ i head x = x ≡ μ.transfer

abbrev pub FormTransfer : ProgramUnit → Found → ℕ → Form → Option Transfer → Type 0
FormTransfer u μ i Passes x = x ≡ μ.transfer
FormTransfer u μ i (On head operands) x = HasTransfer u μ i head x

abbrev pub TransferNow : ProgramUnit → Found → ℕ → fortran.Now → Option Transfer → Type 0
TransferNow u μ i (fortran.Doing form) x = FormTransfer u μ i form x
TransferNow u μ i now x = x ≡ μ.transfer

unfoldable pub others_opened : Unit {0}
unfolding may_be_other passes_other
others_opened = tt

-- ## Statements

-- the ways of an arithmetic IF
abbrev pub by_sign_steps : ℕ → ℕ → ℕ → Pure → List Step
by_sign_steps below at above p =
    Unless (Operated IsLess p (Constant (IsInt (pos 0)))) 1 ∷ Jump below ∷ Unless (Operated IsEqual p (Constant (IsInt (pos 0)))) 1 ∷ Jump at ∷ Jump above ∷ []

-- where the own steps of a statement begin: before those of an ELSE IF or ELSE stands the step that passes the rest of the block
abbrev pub own_by : ℕ → Option Line → ℕ
own_by n None = n
own_by n (Some line) = elim line.mark [ Arm ↦ suc n | _ ↦ n ]

abbrev pub own_of : Text → ℕ → ℕ
own_of u i = own_by (u.begins i) (slice_get u.facts.program.lines i)

-- from a place in a block, with so many inner blocks open: the END IF of the block itself
abbrev pub closing_from : ℕ → ℕ → List Line → Option ℕ
closing_from i depth [] = None
closing_from i depth (line ∷ lines) = elim line.mark [
  | Opens ↦ closing_from (suc i) (suc depth) lines
  | Closes ↦ elim depth [ zero ↦ Some i | suc d ↦ closing_from (suc i) d lines ]
  | _ ↦ closing_from (suc i) depth lines
]

abbrev pub block_ends : ProgramUnit → ℕ → Option ℕ
block_ends u i = closing_from (suc i) 0 (drop (suc i) u.lines)

-- the loops that are open at a statement are those that are open at another
abbrev pub SameOpen : ProgramUnit → ℕ → ℕ → Type 0
SameOpen u i j = open_at u i ≡ open_at u j

-- a statement where no loop begins or ends
pub record IsFlat (u : Text) (i : ℕ) : Type 0 where
  pub same : SameOpen u.facts.program (suc i) i
  pub end : ends_of u i ≡ u.begins (suc i)

-- where the condition before an arm does not hold, control goes to the next arm, or to the end of the block
pub record IsNextArm (u : Text) (i n j : ℕ) : Type 0 where
  pub way : ends_of u i + n ≡ own_of u j
  pub same : SameOpen u.facts.program j i
  pub flat : IsFlat u j

-- the range of a loop stands behind its statement
pub record IsLoop (u : Text) (i last : ℕ) : Type 0 where
  pub open' : open_at u.facts.program (suc i) ≡ record { first = i; last = last } ∷ open_at u.facts.program i
  pub end : ends_of u i ≡ u.begins (suc i)
  pub exit : IsBehind u last (loop_exit u.facts.program (record { first = i; last = last })) (open_at u.facts.program i)

-- a DO has its own way to lower its operands
abbrev pub IsModeOf : Mode → Head → Type 0
IsModeOf mode (ToLoop label) = mode ≡ OfLoop
IsModeOf (InOrder purpose) head = Unit {0}
IsModeOf OfLoop head = ⊥

-- What stands behind the operands of a statement, and the whole code of one that a logical IF guards, given the first free temporary and the
-- place of the statement; none where a logical IF guards it.
mutual
  pub data IsClosing (u : Text) (k : ℕ) : Option ℕ → Head → Terms → Pures → List Step → Type 0 where
    for_set : {o : Option ℕ} {ts : Terms} {p place : Pure} → IsClosing u k o ToSet ts (AndPure p (AndPure place NoPure)) (Put place p ∷ [])
    for_set_label : {o : Option ℕ} {ts : Terms} {label : ℕ} {place : Pure} → IsClosing u k o (ToSetLabel label) ts (AndPure place NoPure) (PutLabel place label ∷ [])
    for_go : {o : Option ℕ} {ts : Terms} {label : ℕ} → IsClosing u k o (ToGo label) ts NoPure (Jump label ∷ [])
    for_pick : {o : Option ℕ} {ts : Terms} {labels : List ℕ} {p : Pure} → IsClosing u k o (ToPick labels) ts (AndPure p NoPure) (Select p (length labels) ∷ map Jump labels)
    -- among the jumps behind stands one for each label to which it may go
    for_go_assigned : {o : Option ℕ} {ts : Terms} {labels choices : List ℕ} {place : Pure} → ((l : ℕ) → contains (labels_to_go u.facts.program labels) l ≡ true → contains choices l ≡ true) →
        IsClosing u k o (ToGoAssigned labels) ts (AndPure place NoPure) (JumpBy place choices ∷ map Jump choices)
    for_go_by_sign : {o : Option ℕ} {ts : Terms} {below at above : ℕ} {p : Pure} → IsClosing u k o (ToGoBySign below at above) ts (AndPure p NoPure) (by_sign_steps below at above p)
    for_guard : {o : Option ℕ} {ts : Terms} {form : Form} {p : Pure} {under : List Step} → IsCode u k None form under → IsClosing u k o (ToGuard form) ts (AndPure p NoPure) (Unless p (length under) ∷ under)
    for_arm : {i n : ℕ} {ts : Terms} {p : Pure} → IsFlat u i → ((j : ℕ) → arm_after u.facts.program i ≡ Some j → IsNextArm u i n j) →
        IsClosing u k (Some i) ToEnterArm ts (AndPure p NoPure) (Unless p n ∷ [])
    -- where the condition does not hold, control goes behind the loop
    for_test : {i n : ℕ} {label : Option ℕ} {ts : Terms} {p : Pure} →
        ((last : ℕ) → terminal_of u.facts.program i label ≡ Some last → IsLoop u i last × (ends_of u i + n ≡ loop_exit u.facts.program (record { first = i; last = last }))) →
        IsClosing u k (Some i) (ToTestLoop label) ts (AndPure p NoPure) (Unless p n ∷ [])
    -- the variable gets its first value, and is tested where the range may be left out
    for_loop : {i : ℕ} {label : Option ℕ} {ts : Terms} {x first limit by : Pure} (n : ℕ) →
        ((last : ℕ) → terminal_of u.facts.program i label ≡ Some last → IsLoop u i last × (ends_of u i + n ≡ loop_exit u.facts.program (record { first = i; last = last }))) →
        IsClosing u k (Some i) (ToLoop label) ts (AndPure x (AndPure first (AndPure limit (AndPure by NoPure)))) (Put x first ∷ loop_test u.facts.program.onetrip (test_by x limit by) n)
    for_call : {o : Option ℕ} {ts : Terms} {ps : Pures} {name : Bytes} → hides_labels ts ≡ false → IsClosing u k o (ToCall name) ts ps (call_steps k name (labels_written ts) ps)
    for_return : {o : Option ℕ} {ts : Terms} → IsClosing u k o ToReturn ts NoPure (Back ∷ [])
    for_return_by : {o : Option ℕ} {ts : Terms} {p : Pure} → IsClosing u k o ToReturn ts (AndPure p NoPure) (BackBy p ∷ [])
    for_stop : {o : Option ℕ} {ts : Terms} {text : Bytes} → IsClosing u k o (ToStop text) ts NoPure (Halt text ∷ [])
    for_end : {o : Option ℕ} {ts : Terms} → IsClosing u k o ToEnd ts NoPure (Back ∷ [])
    -- behind the start of a transfer, and behind an item, stands what is left of the list
    for_begin : {o : Option ℕ} {ts : Terms} {way : Direction} {layout : Layout} {controls : Controls} {work : Work} {ps : Pures} {items : List Step} → IsCode u k None (next_of work) items →
        IsClosing u k o (ToBegin way layout controls work) ts ps (Acts (Starts way layout controls) ps (length items) ∷ items)
    for_item : {o : Option ℕ} {ts : Terms} {left : Work} {ps : Pures} {items : List Step} → IsCode u k None (next_of left) items → IsClosing u k o (ToTransfer left) ts ps (Acts Takes ps (length items) ∷ items)
    for_finish : {o : Option ℕ} {ts : Terms} → IsClosing u k o ToFinish ts NoPure (Acts Finishes NoPure 0 ∷ [])
    for_auxiliary : {o : Option ℕ} {ts : Terms} {which : AuxiliaryKind} {controls : Controls} {ps : Pures} → IsClosing u k o (ToAuxiliary which controls) ts ps (Acts (Auxiliary which controls) ps 0 ∷ [])

  pub data IsCode (u : Text) (k : ℕ) : Option ℕ → Form → List Step → Type 0 where
    no_code : {o : Option ℕ} → IsCode u k o Passes []
    some_code : {o : Option ℕ} {head : Head} {ts : Terms} (mode : Mode) → IsModeOf mode head → (closing : List Step) → IsClosing u k o head ts (lowered_as mode k ts).value closing →
        IsCode u k o (On head ts) ((lowered_as mode k ts).steps ++ closing)

-- a form whose code stands from a position up to another: its operands, and what is behind them
pub data Stands (u : Text) (k : ℕ) (o : Option ℕ) : Form → ℕ → ℕ → Type 0 where
  no_step : {p q : ℕ} → Leads u p q → Stands u k o Passes p q
  some_steps : {head : Head} {ts : Terms} {p q : ℕ} (mode : Mode) → IsModeOf mode head → (closing : List Step) →
      IsClosing u k o head ts (lowered_as mode k ts).value closing → Spans u p ((lowered_as mode k ts).steps ++ closing) q → Stands u k o (On head ts) p q

-- a call
abbrev pub IsCall : Step → Type 0
IsCall (CallFor k callee ps) = Unit {0}
IsCall (CallSub k name ps) = Unit {0}
IsCall st = ⊥

-- behind a position stands a step that is neither a branch behind a CALL nor one of its ways
pub record IsFollowed (u : Text) (p : ℕ) : Type 0 where
  pub at : ℕ
  pub step : Step
  pub behind : p < at
  pub is : slice_get u.steps at ≡ Some step
  pub ordinary : IsOrdinary u at

-- such a step before another position
pub record IsFollowedBelow (u : Text) (p e : ℕ) : Type 0 where
  pub is : IsFollowed u p
  pub below : is.at < e

-- where it is kept by which alternate return a subroutine comes back, a branch stands behind
abbrev pub BranchesBehind : Text → Type 0
BranchesBehind u = (p k : ℕ) (callee : Callee) (ps : Pures) → slice_get u.steps p ≡ Some (CallFor k callee ps) → callee.want ≡ AsSubroutine →
    (j : ℕ) × (count : ℕ) × (slice_get u.steps (suc p) ≡ Some (Branch j count))

-- no subroutine is called from a position up to another
abbrev pub CallsFunctions : Text → ℕ → ℕ → Type 0
CallsFunctions u p q = (at k : ℕ) (callee : Callee) (ps : Pures) → p ≤ at → at < q → slice_get u.steps at ≡ Some (CallFor k callee ps) → callee.want ≡ AsSubroutine → ⊥

-- the labels among the operands of a CALL are written, and are these
abbrev pub AreWritten : List ℕ → Terms → Type 0
AreWritten labels ts = (hides_labels ts ≡ false) × (labels_written ts ≡ labels)

-- Where the text of a unit stands: the own steps of each statement, behind them those of the loops that end there, labels where their
-- statements begin, and before an ELSE IF or ELSE the way to the end of the block.
pub record IsLaidOut (u : Text) : Type 0 where
  pub stands : (i : ℕ) (line : Line) → slice_get u.facts.program.lines i ≡ Some line → Stands u (free_at u.facts.program i) (Some i) line.form (own_of u i) (ends_of u i)
  pub skips : (i e : ℕ) (line : Line) → slice_get u.facts.program.lines i ≡ Some line → line.mark ≡ Arm → block_ends u.facts.program i ≡ Some e →
      Leads u (u.begins i) (u.begins e) × SameOpen u.facts.program e i
  -- END IF takes no step
  pub closes : (i : ℕ) (line : Line) → slice_get u.facts.program.lines i ≡ Some line → line.mark ≡ Closes → line.form ≡ Passes
  -- no loop begins or ends at a statement of an IF block
  pub flat : (i : ℕ) (line : Line) → slice_get u.facts.program.lines i ≡ Some line → (line.mark ≡ Plain → ⊥) → IsFlat u i
  pub labels : (label i : ℕ) → place_of_label u.facts.program label ≡ Some i → u.position label ≡ Some (u.begins i)
  pub followed : (p : ℕ) (st : Step) → slice_get u.steps p ≡ Some st → IsCall st → IsFollowed u p
  -- where the return of a subroutine is kept, a branch stands behind
  pub returns : BranchesBehind u
  pub rises : (i : ℕ) → u.begins i ≤ ends_of u i
  pub own : (i : ℕ) → own_start u.facts.program i ≡ own_of u i
  -- behind a statement that begins no loop stand the steps of those that end there
  pub behind : (i : ℕ) (line : Line) → slice_get u.facts.program.lines i ≡ Some line → loop_of line.form ≡ None → IsBehind u i (ends_of u i) (open_at u.facts.program i)
  pub chain : (i : ℕ) → IsChain u.facts.program (open_at u.facts.program i)
  pub before : (i : ℕ) → AllBefore u (u.begins i) (open_at u.facts.program i)
  -- a loop that is open keeps temporaries below those that are free
  pub kept : (i : ℕ) (r : Range) → IsIn r (open_at u.facts.program i) → (loop_lowered u.facts.program (free_at u.facts.program r.first) r).free ≤ free_at u.facts.program i
  pub entries : (name : Called) (e : EntryPoint) → entry_of u.facts.program.kind u.facts.program.entries name ≡ Some e → open_at u.facts.program e.start ≡ []
  pub branches : (i : ℕ) (line : Line) → slice_get u.facts.program.lines i ≡ Some line → BranchesWell u.facts.program i line.form
  pub assigned : (i label : ℕ) → enters_block u.facts.program i (place_of_label u.facts.program label) ≡ false → Reaches u.facts.program i label

-- a statement, or what stands under its condition or in its list
pub data IsPart (form : Form) : Option ℕ → Head → Terms → Type 0 where
  is_whole : {o : Option ℕ} {head : Head} {ts : Terms} → form ≡ On head ts → IsPart form o head ts
  is_under : {head : Head} {ts : Terms} → loop_of form ≡ None → IsPart form None head ts

-- in the midst of a statement's operands
pub record IsAt (u : Text) (f : Frame) (i : ℕ) (form : Form) (p : ℕ) (m : Temporaries) : Type 0 where
  pub head : Head
  pub operands : Terms
  pub left : Terms
  pub is : form ≡ On head left
  pub mode : Mode
  pub modes : IsModeOf mode head
  pub closing : List Step
  pub free : ℕ
  pub enough : free_at u.facts.program i ≡ free
  pub place : Option ℕ
  pub at_place : (j : ℕ) → place ≡ Some j → j ≡ i
  pub line : Line
  pub there : slice_get u.facts.program.lines i ≡ Some line
  pub from : ℕ
  pub upto : ℕ
  pub low : u.begins i ≤ from
  pub arrives : Arrives u m 0 p from
  pub midway : AreIn u f mode free operands left from m upto
  pub closes : IsClosing u free place head operands (lowered_as mode free operands).value closing
  pub behind : Spans u upto closing (ends_of u i)
  pub functions : CallsFunctions u from upto
  -- the labels among the operands of a CALL are still those that were written
  pub written : (name : Bytes) → head ≡ ToCall name → hides_labels operands ≡ false → AreWritten (labels_written operands) left
  pub part : IsPart line.form place head operands
  pub branches : BranchesNow u.facts.program i head left

-- from the end of a range the text goes back to the condition of its DO WHILE
pub record GoesBack (u : Text) (m : Temporaries) (low p q : ℕ) : Type 0 where
  pub from : ℕ
  pub count : ℕ
  pub arrives : Arrives u m low p from
  pub there : slice_get u.steps from ≡ Some (Again count)
  pub is : from - count ≡ q

-- what comes next, the loops that are open, and where the text stands
pub data IsPlaced (u : Text) (f : Frame) (open' : List Range) (i : ℕ) : fortran.Now → ℕ → Temporaries → Type 0 where
  is_doing : {form : Form} {p : ℕ} {m : Temporaries} → open' ≡ open_at u.facts.program i → IsAt u f i form p m → IsPlaced u f open' i (fortran.Doing form) p m
  is_testing : {label : Option ℕ} {operands : Terms} {p : ℕ} {m : Temporaries} → open' ≡ open_at u.facts.program i → (line : Line) → slice_get u.facts.program.lines i ≡ Some line → line.form ≡ On (ToTestLoop label) operands →
      GoesBack u m (ends_of u i) p (own_of u i) → IsPlaced u f open' i (fortran.Doing (On (ToTestLoop label) operands)) p m
  -- behind the terminal statement of a counted DO
  is_turning : {p : ℕ} {m : Temporaries} (r : Range) (outer : List Range) (from : ℕ) → open' ≡ r ∷ outer → open_at u.facts.program r.first ≡ outer → Arrives u m (ends_of u r.first) p from →
      Spans u from (turn_of u.facts.program from r) (from + turn_size u.facts.program r) → from + turn_size u.facts.program r ≡ loop_exit u.facts.program r → IsPlaced u f open' i fortran.Turning p m

pub record IsMatched (u : Text) (μ : Found) (v : fortran.View) (s : World) (x : View) (t : World) : Type 0 where
  pub same : s ≡ t
  pub transfer : TransferNow u.facts.program μ v.at v.now s.transfer
  pub called : IsCalled u.facts.program.kind v.frame μ
  pub position : ℕ
  pub kept : Temporaries
  pub height : ℕ
  pub seen : x ≡ at_step v.frame height position kept
  pub open' : List Range
  pub rounds : AreRounds u v.frame kept open' v.loops
  pub placed : IsPlaced u v.frame open' v.at v.now position kept

abbrev pub lower_pairing : Text → Pairing lower_kit
lower_pairing u = record {
  Houses = λ μ. Unit {0};
  Idle = λ μ. Unit {0};
  Matched = IsMatched u;
  Halted = λ μ v s x t. (s ≡ t) × (v.frame ≡ x.frame);
  Waits = λ μ μ' v x. v.frame ≡ x.frame;
}

-- the unit of a text and the text, where its steps cost this: a step of the unit may cost as much as the whole text
abbrev pub lower_couple : ℕ → Text → List ℕ → Couple lower_kit
lower_couple number u costs = record {
  number = number;
  pairing = lower_pairing u;
  source = u.facts;
  target = u;
  weight = λ x. cost costs x.at;
  most = λ v. rest costs 0;
  spare = 1;
  wrapper = λ n. None;
  inner = fortran.TheMain;
}

-- each step of a text costs something
abbrev pub IsPositive : Text → List ℕ → Type 0
IsPositive u costs = (p : ℕ) (st : Step) → slice_get u.steps p ≡ Some st → 1 ≤ cost costs p

-- A unit whose text is laid out so is simulated by it, whatever its steps cost, if each costs something.
abbrev pub EachTextSimulates : Type 0
EachTextSimulates = (number : ℕ) (u : Text) (costs : List ℕ) → IsLaidOut u → IsPositive u costs → Local (lower_couple number u costs)
