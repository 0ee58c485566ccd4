-- A transfer in a well-formed unit: what comes next of its list is well formed, and its end finds where control goes.
use Rattle.std.specs.Prelude.{◌≡◌, ℕ, suc, ◌<◌, ℤ, pos, negsuc, Bool, true, false, if◌then◌else◌, [], ◌∷◌, length, Option, Some, None, IsTrue}
use Rattle.std.proofs.Common.{refl, sym, subst}
use Rattle.f_tree.specs.simulation.Machine.{Goes}
use Rattle.f_tree.specs.declared.names.Basic.TheVariants.{Integer}
use Rattle.f_tree.specs.Values.{Spot, IsInt, IsSpot, Act, Checked, Gives, Fails}
use Rattle.f_tree.specs.Terms.{Wanted, NoMore, More}
use Rattle.f_tree.specs.Store.{Store, define}
use Rattle.f_tree.specs.Facts.{Direction, Controls, Item, Repeated, Turn, Work, Done, Before, ToTransfer, ToRepeat, ToTurn, ToFinish, On, ProgramUnit, Facts}
use Rattle.f_tree.specs.World.{Transfer, World, View, Doing, Io}
use Rattle.f_tree.specs.Courses.{Course, Further, IsDone, Branches, StopsWith, NotSaid}
use Rattle.f_tree.specs.Places.{passed, gone_to}
use Rattle.f_tree.specs.Statuses.{status_defined, after_error, label_for, failed_with, fails_with, ended_with, ends_well}
use Rattle.f_tree.specs.Transfers.{next_of, going_on}
use Rattle.f_tree.specs.Step.{onward, go, coursed}
use Rattle.f_tree.specs.WellTyped as typed
use Rattle.f_tree.specs.WellTyped.{PlaceOf, IsOf, is_named, Answers}
use Rattle.f_tree.specs.WellFormed as formed
use Rattle.f_tree.specs.WellFormed.{HasStatement, MayStand, loop_sorts, WorkIsFormed, IsWellFormed}
use Rattle.f_tree.specs.Holding as holding
use Rattle.f_tree.specs.Holding.{IsHolding, IsNext, IsStatus, IsTransfer, IsStaged, of_others, Happens}
use Rattle.fortran_totality.proofs.StoreLemmas.{define_held}
use Rattle.fortran_totality.proofs.ReachLemmas.{passed_active, gone_active, proceeding_happens}

-- WHAT COMES NEXT. The next item of a list that is well formed, and the end of it, are well formed
pub next_is_next : (c : Facts) (count : ℕ) (v : View) (way : Direction) (rest : Work) → WorkIsFormed c count way rest → suc v.at < length c.program.lines →
    IsNext c count (record v { now = Doing (next_of rest) }) (Some way) (Doing (next_of rest))
unfolding next_of
next_is_next c count v way Done formed.done room =
    holding.doing (Some way) (On ToFinish NoMore) (formed.on (Some way) ToFinish NoMore [] (formed.finishes way) (typed.no_terms []))
    (holding.before_end (On ToFinish NoMore) room)
next_is_next c count v way (Before (Item t) rest) (formed.before _ _ (formed.item _ sort listed is) are) room =
    holding.doing (Some way) (On (ToTransfer rest) (More t NoMore))
    (formed.on (Some way) (ToTransfer rest) (More t NoMore) (sort ∷ []) (formed.transfers way rest sort listed are)
    (typed.more_terms [] t NoMore sort [] is (typed.no_terms [])))
    (holding.before_end (On (ToTransfer rest) (More t NoMore)) room)
next_is_next c count v way (Before (Repeated items control) rest) (formed.before _ _ (formed.repeated _ _ each is) are) room =
    holding.doing (Some way) (On (ToRepeat items rest) control)
    (formed.on (Some way) (ToRepeat items rest) control loop_sorts (formed.repeats way items rest each are) is)
    (holding.before_end (On (ToRepeat items rest) control) room)
next_is_next c count v way (Before (Turn items p left by given) rest) (formed.before _ _ (formed.turn _ _ _ _ _ each placed) are) room =
    holding.doing (Some way) (On (ToTurn items p left by given rest) NoMore)
    (formed.on (Some way) (ToTurn items p left by given rest) NoMore [] (formed.turns way items p left by given rest each placed are) (typed.no_terms []))
    (holding.before_end (On (ToTurn items p left by given rest) NoMore) room)

-- what an active procedure holds to does not depend on what it does next
pub holding_with : (c : Facts) (least : ℕ) (want : Wanted) (count : ℕ) (v : View) (work : Work) → IsHolding c least want count v →
    IsHolding c least want count (record v { now = Doing (next_of work) })
holding_with c least want count v work h = record { sound = h.sound; rounds = h.rounds; serves = h.serves; low = h.low; high = h.high }

-- the transfer in progress is the procedure's own, or there is none
abbrev pub IsAlone : Option Direction → World → Type 0
IsAlone stage w = of_others stage w.transfer ≡ None

-- an active procedure of a well-formed unit, at a statement before END, and no other's transfer in progress
pub record IsAmid (c : Facts) (least : ℕ) (want : Wanted) (stage : Option Direction) (v : View) (w : World) : Type 0 where
  pub formed : IsWellFormed c least
  pub holding : IsHolding c least want (length w.store) v
  pub room : suc v.at < length c.program.lines
  pub lonely : IsAlone stage w

-- a world with so many sequences
abbrev pub IsLarge : ℕ → World → Type 0
IsLarge n w = length w.store ≡ n

-- WHAT A COURSE COMES TO, in a unit over so many sequences: the transfer goes on in its direction; it is over, and control goes to the
-- next statement, to a label that stands at a statement, or to the end of the run; or an act that is named stands in its way
pub data Fares (u : ProgramUnit) (n : ℕ) (way : Direction) : Course → Type 0 where
  it_goes_on : (w : World) → IsLarge n w → IsStaged u n (Some way) w.transfer → Fares u n way (Further w)
  it_is_done : (w : World) → IsLarge n w → w.transfer ≡ None → Fares u n way (IsDone w)
  it_branches : (label : ℕ) (w : World) → HasStatement u label → IsLarge n w → w.transfer ≡ None → Fares u n way (Branches label w)
  it_stops_with : (number : ℤ) (w : World) → Fares u n way (StopsWith number w)
  it_is_not_said : (act : Act) → IsTrue (is_named act) → Fares u n way (NotSaid act)

-- the procedure goes on with its list
pub next_happens : (c : Facts) (least : ℕ) (want : Wanted) (stage : Option Direction) (v : View) (w after : World) (way : Direction) (rest : Work) →
    IsAmid c least want stage v w → IsLarge (length w.store) after → IsStaged c.program (length w.store) (Some way) after.transfer →
    WorkIsFormed c (length w.store) way rest → Happens c least want stage v w (Goes (record v { now = Doing (next_of rest) }) after)
unfolding of_others
next_happens c least want stage v w after way rest amid same staged are =
    holding.it_goes (Some way) (record v { now = Doing (next_of rest) }) after refl same
    (record {
      holding = holding_with c least want (length w.store) v rest amid.holding;
      next = next_is_next c (length w.store) v way rest are amid.room;
    })
    staged (sym amid.lonely)

-- a statement of a transfer whose course is such a one
pub coursed_happens : (c : Facts) (least : ℕ) (want : Wanted) (stage : Option Direction) (v : View) (w : World) (way : Direction) (rest : Work) (course : Course) →
    IsAmid c least want stage v w → WorkIsFormed c (length w.store) way rest → Fares c.program (length w.store) way course →
    Happens c least want stage v w (coursed c v rest course)
unfolding coursed onward go of_others
coursed_happens c least want stage v w way rest course amid are (it_goes_on after same staged) =
    next_happens c least want stage v w after way rest amid same staged are
coursed_happens c least want stage v w way rest course amid are (it_is_done after same ended) =
    proceeding_happens c least want stage v w after (passed c.program v.frame v.loops v.at)
    (passed_active c least want (length w.store) v v.at amid.formed amid.holding amid.room) same (subst (λ x. after.transfer ≡ x) (sym amid.lonely) ended)
coursed_happens c least want stage v w way rest course amid are (it_branches label after there same ended) =
    proceeding_happens c least want stage v w after (gone_to c.program v.frame v.loops label)
    (gone_active c least want (length w.store) v label amid.formed amid.holding there) same (subst (λ x. after.transfer ≡ x) (sym amid.lonely) ended)
coursed_happens c least want stage v w way rest course amid are (it_stops_with number after) = holding.it_ends (Io number) v after (holding.by_number number)
coursed_happens c least want stage v w way rest course amid are (it_is_not_said act named) = holding.it_breaks act named

pub going_on_fares : (u : ProgramUnit) (n : ℕ) (way : Direction) (w : World) (t : Transfer) → IsLarge n w → IsTransfer u n way t → Fares u n way (going_on w t)
unfolding going_on
going_on_fares u n way w t same is = it_goes_on (record w { transfer = Some t }) same (holding.in_one way t is)

pub fares_if : (u : ProgramUnit) (n : ℕ) (way : Direction) (b : Bool) (one other : Course) → Fares u n way one → Fares u n way other →
    Fares u n way (if b then one else other)
fares_if u n way true one other is are = is
fares_if u n way false one other is are = are

-- HOW IT ENDS. IOSTAT is defined
pub status_held : (count : ℕ) (status : Option Spot) (number : ℤ) (s : Store) → IsStatus count status → length s ≡ count →
    Answers (λ after. length after ≡ count) (status_defined status number s)
unfolding status_defined Answers
status_held count None number s holding.no_status same = same
status_held count (Some p) number s (holding.a_status _ placed) same =
    subst (λ n. Answers (λ after. length after ≡ n) (define s p (IsInt number))) same
    (define_held s count Integer p (IsInt number) typed.integers (subst (λ n. IsOf n (PlaceOf Integer) (IsSpot p)) (sym same) placed) (typed.integer number))

-- where there is a number, control goes to the label of ERR or END, to the next statement, or the run ends
pub after_error_fares : (u : ProgramUnit) (n : ℕ) (way : Direction) (w : World) (number : ℤ) (label : Option ℕ) (status : Option Spot) → IsLarge n w →
    w.transfer ≡ None → MayStand u label → Fares u n way (after_error w number label status)
unfolding after_error
after_error_fares u n way w number (Some label) status same ended (formed.stands _ there) = it_branches label w there same ended
after_error_fares u n way w number None (Some p) same ended formed.left_out = it_is_done w same ended
after_error_fares u n way w number None None same ended formed.left_out = it_stops_with number w

pub label_stands : (u : ProgramUnit) (number : ℤ) (controls : Controls) → MayStand u controls.on_error → MayStand u controls.on_end → MayStand u (label_for number controls)
unfolding label_for
label_stands u (pos n) controls error end = error
label_stands u (negsuc n) controls error end = end

pub failed_fares : (u : ProgramUnit) (n : ℕ) (way : Direction) (w : World) (number : ℤ) (controls : Controls) (status : Option Spot) (r : Checked Store) →
    MayStand u controls.on_error → MayStand u controls.on_end → Answers (λ s. length s ≡ n) r → Fares u n way (failed_with w number controls status r)
unfolding failed_with Answers
failed_fares u n way w number controls status (Gives s) error end same =
    after_error_fares u n way (record w { store = s; transfer = None }) number (label_for number controls) status same refl (label_stands u number controls error end)
failed_fares u n way w number controls status (Fails act) error end is = it_is_not_said act is

pub fails_fares : (u : ProgramUnit) (n : ℕ) (way : Direction) (w : World) (number : ℤ) (controls : Controls) (status : Option Spot) → IsLarge n w →
    IsStatus n status → MayStand u controls.on_error → MayStand u controls.on_end → Fares u n way (fails_with w number controls status)
unfolding fails_with
fails_fares u n way w number controls status same is error end =
    failed_fares u n way w number controls status (status_defined status number w.store) error end (status_held n status number w.store is same)

-- where there is none, to the next statement
pub ended_fares : (u : ProgramUnit) (n : ℕ) (way : Direction) (w : World) (r : Checked Store) → Answers (λ s. length s ≡ n) r → Fares u n way (ended_with w r)
unfolding ended_with Answers
ended_fares u n way w (Gives s) same = it_is_done (record w { store = s; transfer = None }) same refl
ended_fares u n way w (Fails act) is = it_is_not_said act is

pub ends_well_fares : (u : ProgramUnit) (n : ℕ) (way : Direction) (w : World) (status : Option Spot) → IsLarge n w → IsStatus n status → Fares u n way (ends_well w status)
unfolding ends_well
ends_well_fares u n way w status same is = ended_fares u n way w (status_defined status (pos 0) w.store) (status_held n status (pos 0) w.store is same)

-- a transfer ends with a number
pub transfer_fails : (u : ProgramUnit) (n : ℕ) (way : Direction) (w : World) (number : ℤ) (t : Transfer) → IsLarge n w → IsTransfer u n way t →
    Fares u n way (fails_with w number t.controls t.status)
transfer_fails u n way w number t same is = fails_fares u n way w number t.controls t.status same is.status is.on_error is.on_end
