-- Units whose texts are laid out as the law of simulation asks: assignments, branches, logical IF, IF blocks, DO, DO WHILE, CALL, RETURN,
-- STOP and END, READ, WRITE, PRINT, OPEN and its kin, and statements that take no step. So far without implied DO and the assignment of texts.
use Rattle.std.specs.Prelude.{◌≡◌, ℕ, suc, nat_eq, Bool, true, false, not, ◌&&◌, ◌||◌, List, [], ◌∷◌, Option, Some, None}
use Rattle.std.specs.List.{list_all}
use Rattle.fortran_laws.specs.simulation.LocalSimulation.{Local}
use Rattle.fortran_laws.specs.f_tree.Terms.{Terms, NoMore, More}
use Rattle.fortran_laws.specs.f_tree.Facts.{Controls, Job, Item, Repeated, Turn, Work, Done, Before, ToSet, ToSetLabel, ToGo, ToPick, ToGoAssigned, ToGoBySign, ToGuard, ToEnterArm, ToTestLoop, ToCall, ToReturn, ToStop, ToBegin, ToAuxiliary, ToEnd, Head, Form, Passes, On, Mark, Plain, Opens, Arm, Closes, Line, EntryPoint, ProgramUnit, Facts, ToLoop}
use Rattle.fortran_laws.specs.f_tree.Places.{place_of_label, arm_after}
use Rattle.fortran_laws.specs.f_tree.Nests.{loop_of, is_within, is_no_loop, ranges_of, open_at, enters_range, AreNested}
use Rattle.lowering.specs.l_core.Steps.{Text}
use Rattle.lowering.specs.Units.{lowered_unit}
use Rattle.lowering_laws.specs.Layer.{passes_other, IsLaidOut, lower_couple, IsPositive}

-- a list without an implied DO
unfoldable pub is_item : Job → Bool
is_item (Item t) = true
is_item (Repeated items control) = false
is_item (Turn items p left by given) = false

unfoldable pub are_items : Work → Bool
are_items Done = true
are_items (Before job work) = is_item job && are_items work

-- a statement that a logical IF may guard
unfoldable mutual
  pub is_direct : Form → Bool
  is_direct Passes = true
  is_direct (On head operands) = is_direct_head head

  pub is_direct_head : Head → Bool
  is_direct_head ToSet = true
  is_direct_head (ToSetLabel label) = true
  is_direct_head (ToGo label) = true
  is_direct_head (ToPick labels) = true
  is_direct_head (ToGoAssigned labels) = true
  is_direct_head (ToGoBySign below at above) = true
  is_direct_head (ToGuard form) = is_direct form
  is_direct_head (ToCall name) = true
  is_direct_head ToReturn = true
  is_direct_head (ToStop text) = true
  is_direct_head (ToBegin way layout controls work) = are_items work
  is_direct_head (ToAuxiliary which controls) = true
  is_direct_head ToEnd = true
  is_direct_head head = false

-- the condition of an arm
unfoldable pub enters_arm : Form → Bool
enters_arm Passes = false
enters_arm (On head operands) = elim head [ ToEnterArm ↦ true | _ ↦ false ]

-- a DO or a DO WHILE
unfoldable pub begins_loop : Form → Bool
begins_loop Passes = false
begins_loop (On head operands) = elim head [ ToLoop label ↦ true | ToTestLoop label ↦ true | _ ↦ false ]

unfoldable pub takes_no_step : Form → Bool
takes_no_step Passes = true
takes_no_step (On head operands) = false

-- a statement by its mark: only the statement that begins an arm has its condition, and END IF takes no step
unfoldable pub is_direct_as : Mark → Form → Bool
is_direct_as Plain form = begins_loop form || is_direct form
is_direct_as Opens form = enters_arm form || is_direct form
is_direct_as Arm form = enters_arm form || is_direct form
is_direct_as Closes form = takes_no_step form

unfoldable pub are_direct : List Line → Bool
are_direct [] = true
are_direct (line ∷ lines) = is_direct_as line.mark line.form && are_direct lines

-- the last statement is END
unfoldable pub is_end : Form → Bool
is_end Passes = false
is_end (On head operands) = elim head [ ToEnd ↦ (elim operands [ NoMore ↦ true | More t ts ↦ false ]) | _ ↦ false ]

unfoldable pub ends_behind : Form → List Line → Bool
ends_behind form [] = is_end form
ends_behind form (line ∷ lines) = ends_behind line.form lines

unfoldable pub has_end : List Line → Bool
has_end [] = false
has_end (line ∷ lines) = ends_behind line.form lines

-- ## Ranges of loops

unfoldable pub has_loops : List Line → Bool
has_loops [] = false
has_loops (line ∷ lines) = not (is_no_loop (loop_of line.form)) || has_loops lines

unfoldable pub same_truth : Bool → Bool → Bool
same_truth true b = b
same_truth false b = not b

-- the beginnings of two arms of a block, or its end, are in the same ranges
unfoldable pub are_alike : ProgramUnit → ℕ → Option ℕ → Bool
are_alike u i None = true
are_alike u i (Some j) = list_all (λ r. same_truth (is_within i r) (is_within j r)) (ranges_of u)

-- no loop ends with a statement
unfoldable pub none_ends_at : ProgramUnit → ℕ → Bool
none_ends_at u i = list_all (λ r. not (nat_eq r.last i)) (ranges_of u)

-- a statement of an IF block (11.6 to 11.9): each range is in one arm, or holds the whole block (11.10.1)
unfoldable pub is_whole_by : ProgramUnit → ℕ → Mark → Bool
is_whole_by u i Plain = true
is_whole_by u i Opens = none_ends_at u i && are_alike u i (arm_after u i)
is_whole_by u i Arm = none_ends_at u i && are_alike u i (arm_after u i)
is_whole_by u i Closes = none_ends_at u i

unfoldable pub blocks_are_whole : ProgramUnit → ℕ → List Line → Bool
blocks_are_whole u i [] = true
blocks_are_whole u i (line ∷ lines) = is_whole_by u i line.mark && blocks_are_whole u (suc i) lines

-- a branch to a label goes into no range from outside (11.10.8)
unfoldable pub stays_outside : ProgramUnit → ℕ → Option ℕ → Bool
stays_outside u i None = true
stays_outside u i (Some j) = not (enters_range u i j)

unfoldable pub may_branch : ProgramUnit → ℕ → ℕ → Bool
may_branch u i label = stays_outside u i (place_of_label u label)

-- the labels of ERR and END
unfoldable pub label_branches : ProgramUnit → ℕ → Option ℕ → Bool
label_branches u i None = true
label_branches u i (Some label) = may_branch u i label

unfoldable pub controls_branch : ProgramUnit → ℕ → Controls → Bool
controls_branch u i controls = label_branches u i controls.on_error && label_branches u i controls.on_end

unfoldable mutual
  pub branches_well : ProgramUnit → ℕ → Form → Bool
  branches_well u i Passes = true
  branches_well u i (On head operands) = head_branches u i head operands

  pub head_branches : ProgramUnit → ℕ → Head → Terms → Bool
  head_branches u i (ToGo label) ts = may_branch u i label
  head_branches u i (ToPick labels) ts = list_all (may_branch u i) labels
  head_branches u i (ToGoBySign below at above) ts = may_branch u i below && (may_branch u i at && may_branch u i above)
  head_branches u i (ToGuard form) ts = branches_well u i form
  head_branches u i (ToCall name) ts = not (passes_other (may_branch u i) ts)
  head_branches u i (ToBegin way layout controls work) ts = controls_branch u i controls
  head_branches u i (ToAuxiliary which controls) ts = controls_branch u i controls
  head_branches u i head ts = true

unfoldable pub each_branches_well : ProgramUnit → ℕ → List Line → Bool
each_branches_well u i [] = true
each_branches_well u i (line ∷ lines) = branches_well u i line.form && each_branches_well u (suc i) lines

-- an ENTRY stands in no range (15.7.4)
unfoldable pub enters_outside : ProgramUnit → EntryPoint → Bool
enters_outside u e = elim (open_at u e.start) [ [] ↦ true | r ∷ rs ↦ false ]

-- the ranges of a unit are nested, each in one arm of a block or around the whole of it, and are entered by their DO alone
pub record AreEnteredWell (u : ProgramUnit) : Type 0 where
  pub nested : AreNested u
  pub blocks : blocks_are_whole u 0 u.lines ≡ true
  pub branches : each_branches_well u 0 u.lines ≡ true
  pub entries : list_all (enters_outside u) u.entries ≡ true

pub data LoopsFit (u : ProgramUnit) : Type 0 where
  without_loops : has_loops u.lines ≡ false → LoopsFit u
  with_loops : AreEnteredWell u → LoopsFit u

unfoldable pub layout_opened : Unit {0}
unfolding is_item are_items is_direct is_direct_head enters_arm begins_loop takes_no_step is_direct_as are_direct is_end ends_behind has_end has_loops same_truth are_alike none_ends_at is_whole_by blocks_are_whole stays_outside may_branch label_branches controls_branch branches_well head_branches each_branches_well enters_outside
layout_opened = tt

-- the text of such a unit is laid out
abbrev pub EachTextIsLaidOut : Type 0
EachTextIsLaidOut = (c : Facts) (u : Text) → lowered_unit c ≡ Some u → are_direct c.program.lines ≡ true → has_end c.program.lines ≡ true → LoopsFit c.program → IsLaidOut u

-- so such a unit is simulated by its text, whatever its steps cost, if each costs something
abbrev pub EachUnitSimulates : Type 0
EachUnitSimulates =
    (number : ℕ) (c : Facts) (u : Text) (costs : List ℕ) → lowered_unit c ≡ Some u → are_direct c.program.lines ≡ true → has_end c.program.lines ≡ true → LoopsFit c.program → IsPositive u costs →
    Local (lower_couple number u costs)
