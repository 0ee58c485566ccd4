-- The items of a transfer in a well-formed unit, its implied DOs and its end: each finds what comes next.
use Rattle.std.specs.Prelude.{ℕ, zero, suc, ◌+◌, ◌-◌, ◌/◌, ◌<◌, ℤ, pos, Bool, true, false, List, [], ◌∷◌, length, Option, Some, None, if◌then◌else◌}
use Rattle.std.specs.Ordering.{int_eq}
use Rattle.std.proofs.Common.{refl, sym, subst}
use Rattle.f_tree.specs.simulation.Machine.{Breaks}
use Rattle.f_tree.specs.declared.names.Basic.{Basic}
use Rattle.f_tree.specs.declared.names.Basic.TheVariants.{Integer}
use Rattle.f_tree.specs.Values.{Spot, Datum, IsInt, IsSpot, ZeroStep, Checked, Gives, Fails}
use Rattle.f_tree.specs.Terms.{Wanted}
use Rattle.f_tree.specs.Store.{Store, define, elements_from, elements}
use Rattle.f_tree.specs.Facts.{Direction, Input, Output, Work, Done, Before, Turn, ToTransfer, ToRepeat, ToTurn, ToFinish, ProgramUnit, Facts}
use Rattle.f_tree.specs.World.{Medium, External, Internal, Transfer, World, View, Happening}
use Rattle.f_tree.specs.Courses.{Course}
use Rattle.f_tree.specs.Statuses.{ends_well}
use Rattle.f_tree.specs.Records.{supply, world_after}
use Rattle.f_tree.specs.Transfers.{made_by, item_written, output_ended, Taking, Serves, Numbered, Unsaid, item_taken, counted, taken_then, each_filled, place_filled, closing_taken, input_ended, item_done, finished, followed_by}
use Rattle.f_tree.specs.Step.{Grown, grown, turns, work_after, repeated, repeat_begun, item_turned, deed}
use Rattle.f_tree.specs.WellTyped as typed
use Rattle.f_tree.specs.WellTyped.{Sort, PlaceOf, IsOf, IsValued, more_of, none_of, is_named, Answers}
use Rattle.f_tree.specs.WellFormed as formed
use Rattle.f_tree.specs.WellFormed.{IsListed, WorkIsFormed}
use Rattle.f_tree.specs.Holding as holding
use Rattle.f_tree.specs.Holding.{IsTransfer, IsStaged, of_others, Happens, IsReady, DeedHappens}
use Rattle.fortran_totality.proofs.InputLemmas as input
use Rattle.fortran_totality.proofs.InputLemmas.{TakesWell, ArePlaces, elements_placed, supply_said, item_of_layout, closing_taken_well}
use Rattle.fortran_totality.proofs.StoreLemmas.{AsMany, define_held}
use Rattle.fortran_totality.proofs.TransferLemmas as course
use Rattle.fortran_totality.proofs.TransferLemmas.{IsAmid, IsLarge, Fares, next_happens, coursed_happens, going_on_fares, ends_well_fares, transfer_fails}
use Rattle.fortran_totality.proofs.StatementLemmas.{grown_held}
use Rattle.fortran_totality.proofs.OutputLemmas.{FaresOn, item_written_fares, output_ended_fares}

-- INPUT. Of an internal file the records that are read are counted
pub counted_from : (u : ProgramUnit) (n : ℕ) (way : Direction) (k : ℕ) (t : Transfer) (medium : Medium) → IsTransfer u n way t →
    IsTransfer u n way (elim medium [ External unit ↦ t | Internal p ↦ record t { written = t.written + k } ])
counted_from u n way k t (External unit) is = is
counted_from u n way k t (Internal p) is =
    record { direction_is = is.direction_is; medium = is.medium; status = is.status; on_error = is.on_error; on_end = is.on_end; outside = is.outside }

pub counted_well : (u : ProgramUnit) (n : ℕ) (way : Direction) (k : ℕ) (t : Transfer) → IsTransfer u n way t → IsTransfer u n way (counted k t)
unfolding counted
counted_well u n way k t is = counted_from u n way k t t.medium is

pub taken_then_fares : (u : ProgramUnit) (n : ℕ) (w : World) (t : Transfer) (r : Taking) (next : World → Transfer → Course) → IsTransfer u n Input t →
    TakesWell u n r → FaresOn u n Input next → Fares u n Input (taken_then w t r next)
unfolding taken_then
taken_then_fares u n w t (Serves after k s) next is (input.serves_well _ _ _ served same) fares =
    fares (record (world_after k w t) { store = s }) (counted k after) same (counted_well u n Input k after served)
taken_then_fares u n w t (Numbered number k s) next is (input.numbered_well _ _ _ same) fares =
    transfer_fails u n Input (record (world_after k w t) { store = s }) number t same is
taken_then_fares u n w t (Unsaid act) next is (input.unsaid_well _ named) fares = course.it_is_not_said act named

-- the elements of an item, one after the other
pub each_filled_fares : (u : ProgramUnit) (n : ℕ) (basic : Basic) → IsValued basic → (ps : List Spot) → ArePlaces n basic ps → (w : World) → IsLarge n w →
    (t : Transfer) → IsTransfer u n Input t → Fares u n Input (each_filled w t ps)
unfolding each_filled
each_filled_fares u n basic valued [] none w same t is = going_on_fares u n Input w t same is
each_filled_fares u n basic valued (p ∷ ps) (input.more_places _ _ placed others) w same t is =
    taken_then_fares u n w t (item_taken t.layout t (supply w t) p w.store) (λ after longer. each_filled after longer ps) is
    (item_of_layout u n t (supply w t) basic t.layout is (supply_said u w t (subst (λ k. IsTransfer u k Input t) (sym same) is)) valued p placed w.store same)
    (λ after longer large kept. each_filled_fares u n basic valued ps others after large longer kept)

pub place_filled_fares : (u : ProgramUnit) (n : ℕ) (w : World) (t : Transfer) (sort : Sort) (d : Datum) → IsLarge n w → IsTransfer u n Input t →
    IsListed Input sort → IsOf n sort d → Fares u n Input (place_filled w t d)
unfolding place_filled elements
place_filled_fares u n w t sort d same is (formed.read_place basic valued) (typed.place p _ based within) =
    each_filled_fares u n basic valued (elements_from (p.extent / p.width) p)
    (elements_placed n basic (p.extent / p.width) p (typed.place p basic based within)) w same t is

pub input_ended_fares : (u : ProgramUnit) (n : ℕ) (w : World) (t : Transfer) (r : Taking) → IsTransfer u n Input t → TakesWell u n r →
    Fares u n Input (input_ended w t r)
unfolding input_ended
input_ended_fares u n w t r is well =
    taken_then_fares u n w t r (λ after longer. ends_well after t.status) is well (λ after longer large kept. ends_well_fares u n Input after t.status large is.status)

-- ITEMS
pub item_done_fares : (u : ProgramUnit) (n : ℕ) (w : World) (way : Direction) (sort : Sort) (d : Datum) (transfer : Option Transfer) → IsLarge n w →
    IsStaged u n (Some way) transfer → IsListed way sort → IsOf n sort d → Fares u n way (item_done w d transfer)
unfolding item_done
item_done_fares u n w way sort d None same staged listed of = elim staged [ ]
item_done_fares u n w Output sort d (Some t) same (holding.in_one _ _ is) listed of =
    subst (λ way. Fares u n Output (elim way [ Output ↦ item_written t.layout w t d | Input ↦ place_filled w t d ])) (sym is.direction_is)
    (item_written_fares u n Output w t sort d t.layout same is listed of)
item_done_fares u n w Input sort d (Some t) same (holding.in_one _ _ is) listed of =
    subst (λ way. Fares u n Input (elim way [ Output ↦ item_written t.layout w t d | Input ↦ place_filled w t d ])) (sym is.direction_is)
    (place_filled_fares u n w t sort d same is listed of)

-- what stands before a statement of a transfer that has begun
pub amid_of : (c : Facts) (least : ℕ) (want : Wanted) (way : Direction) (v : View) (w : World) → IsReady c least want (Some way) v w →
    suc v.at < length c.program.lines → IsAmid c least want (Some way) v w
unfolding of_others
amid_of c least want way v w ready room = record { formed = ready.formed; holding = ready.holding; room = room; lonely = refl }

pub transfer_happens : (c : Facts) (least : ℕ) (want : Wanted) (way : Direction) (v : View) (w : World) → IsReady c least want (Some way) v w → (rest : Work) →
    DeedHappens c least want (Some way) v w (ToTransfer rest)
unfolding deed
transfer_happens c least want way v w ready rest sorts ds room (formed.transfers _ _ sort listed are) (more_of _ _ d _ of none_of) =
    coursed_happens c least want (Some way) v w way rest (item_done w d w.transfer) (amid_of c least want way v w ready room) are
    (item_done_fares c.program (length w.store) w way sort d w.transfer refl ready.staged listed of)

-- THE END
pub finished_fares : (u : ProgramUnit) (w : World) (way : Direction) (transfer : Option Transfer) → IsStaged u (length w.store) (Some way) transfer →
    Fares u (length w.store) way (finished w transfer)
unfolding finished
finished_fares u w way None staged = elim staged [ ]
finished_fares u w Output (Some t) (holding.in_one _ _ is) =
    subst
    (λ way. Fares u (length w.store) Output
    (elim way [ Output ↦ output_ended w t (made_by t.layout t true) | Input ↦ input_ended w t (closing_taken t.layout w t (supply w t)) ]))
    (sym is.direction_is) (output_ended_fares u (length w.store) Output w t (made_by t.layout t true) refl is)
finished_fares u w Input (Some t) (holding.in_one _ _ is) =
    subst
    (λ way. Fares u (length w.store) Input
    (elim way [ Output ↦ output_ended w t (made_by t.layout t true) | Input ↦ input_ended w t (closing_taken t.layout w t (supply w t)) ]))
    (sym is.direction_is) (input_ended_fares u (length w.store) w t (closing_taken t.layout w t (supply w t)) is (closing_taken_well u w t is))

pub finish_happens : (c : Facts) (least : ℕ) (want : Wanted) (way : Direction) (v : View) (w : World) → IsReady c least want (Some way) v w →
    DeedHappens c least want (Some way) v w ToFinish
unfolding deed
finish_happens c least want way v w ready sorts ds room (formed.finishes _) none_of =
    coursed_happens c least want (Some way) v w way Done (finished w w.transfer) (amid_of c least want way v w ready room) formed.done
    (finished_fares c.program w way w.transfer ready.staged)

-- IMPLIED DOS. The items of a turn with what follows them
pub followed_formed : (c : Facts) (count : ℕ) (way : Direction) (items rest : Work) → WorkIsFormed c count way items → WorkIsFormed c count way rest →
    WorkIsFormed c count way (followed_by items rest)
unfolding followed_by
followed_formed c count way Done rest formed.done others = others
followed_formed c count way (Before job work) rest (formed.before _ _ is are) others =
    formed.before job (followed_by work rest) is (followed_formed c count way work rest are others)

pub work_after_formed : (c : Facts) (count : ℕ) (way : Direction) (items rest : Work) (p : Spot) (n : ℕ) (by given : ℤ) → WorkIsFormed c count way items →
    WorkIsFormed c count way rest → IsOf count (PlaceOf Integer) (IsSpot p) → WorkIsFormed c count way (work_after items rest p n by given)
unfolding work_after
work_after_formed c count way items rest p zero by given are others placed = others
work_after_formed c count way items rest p (suc n) by given are others placed =
    followed_formed c count way items (Before (Turn items p (suc n) by given) rest) are
    (formed.before (Turn items p (suc n) by given) rest (formed.turn items p (suc n) by given are placed) others)

pub repeated_happens : (c : Facts) (least : ℕ) (want : Wanted) (way : Direction) (v : View) (w : World) (items rest : Work) (p : Spot) (first by : ℤ) (n : ℕ)
    (r : Checked Store) → IsAmid c least want (Some way) v w → IsStaged c.program (length w.store) (Some way) w.transfer →
    WorkIsFormed c (length w.store) way items → WorkIsFormed c (length w.store) way rest → IsOf (length w.store) (PlaceOf Integer) (IsSpot p) →
    Answers (AsMany w.store) r → Happens c least want (Some way) v w (repeated v w items rest p first by n r)
unfolding repeated Answers
repeated_happens c least want way v w items rest p first by n (Gives s) amid staged are others placed same =
    next_happens c least want (Some way) v w (record w { store = s }) way (work_after items rest p n by first) amid same staged
    (work_after_formed c (length w.store) way items rest p n by first are others placed)
repeated_happens c least want way v w items rest p first by n (Fails act) amid staged are others placed named = holding.it_breaks act named

pub happens_if : (c : Facts) (least : ℕ) (want : Wanted) (stage : Option Direction) (v : View) (w : World) (b : Bool) (one other : Happening) →
    Happens c least want stage v w one → Happens c least want stage v w other → Happens c least want stage v w (if b then one else other)
happens_if c least want stage v w true one other is are = is
happens_if c least want stage v w false one other is are = are

pub repeat_begun_happens : (c : Facts) (least : ℕ) (want : Wanted) (way : Direction) (v : View) (w : World) (items rest : Work) (p : Spot) (first limit by : ℤ) →
    IsAmid c least want (Some way) v w → IsStaged c.program (length w.store) (Some way) w.transfer → WorkIsFormed c (length w.store) way items →
    WorkIsFormed c (length w.store) way rest → IsOf (length w.store) (PlaceOf Integer) (IsSpot p) →
    Happens c least want (Some way) v w (repeat_begun v w items rest p first limit by)
unfolding repeat_begun is_named
repeat_begun_happens c least want way v w items rest p first limit by amid staged are others placed =
    happens_if c least want (Some way) v w (int_eq by (pos 0)) (Breaks ZeroStep)
    (repeated v w items rest p first by (turns first limit by) (define w.store p (IsInt first))) (holding.it_breaks ZeroStep refl)
    (repeated_happens c least want way v w items rest p first by (turns first limit by) (define w.store p (IsInt first)) amid staged are others placed
    (define_held w.store (length w.store) Integer p (IsInt first) typed.integers placed (typed.integer first)))

pub repeat_happens : (c : Facts) (least : ℕ) (want : Wanted) (way : Direction) (v : View) (w : World) → IsReady c least want (Some way) v w → (items rest : Work) →
    DeedHappens c least want (Some way) v w (ToRepeat items rest)
unfolding deed
repeat_happens c least want way v w ready items rest sorts ds room (formed.repeats _ _ _ are others)
    (more_of _ _ _ _ (typed.place p basic based within)
    (more_of _ _ _ _ (typed.integer first) (more_of _ _ _ _ (typed.integer limit) (more_of _ _ _ _ (typed.integer by) none_of)))) =
    repeat_begun_happens c least want way v w items rest p first limit by (amid_of c least want way v w ready room) ready.staged are others
    (typed.place p basic based within)

-- the increment of an implied DO
pub turned_item_happens : (c : Facts) (least : ℕ) (want : Wanted) (way : Direction) (v : View) (w : World) (items rest : Work) (p : Spot) (left : ℕ) (by : ℤ)
    (r : Checked Grown) → IsAmid c least want (Some way) v w → IsStaged c.program (length w.store) (Some way) w.transfer →
    WorkIsFormed c (length w.store) way items → WorkIsFormed c (length w.store) way rest → IsOf (length w.store) (PlaceOf Integer) (IsSpot p) →
    Answers (λ g. AsMany w.store g.store) r → Happens c least want (Some way) v w (item_turned v w items rest p left by r)
unfolding item_turned Answers
turned_item_happens c least want way v w items rest p left by (Gives g) amid staged are others placed same =
    next_happens c least want (Some way) v w (record w { store = g.store }) way (work_after items rest p (left - 1) by g.given) amid same staged
    (work_after_formed c (length w.store) way items rest p (left - 1) by g.given are others placed)
turned_item_happens c least want way v w items rest p left by (Fails act) amid staged are others placed named = holding.it_breaks act named

pub item_turn_happens : (c : Facts) (least : ℕ) (want : Wanted) (way : Direction) (v : View) (w : World) → IsReady c least want (Some way) v w → (items : Work)
    (p : Spot) (left : ℕ) (by given : ℤ) (rest : Work) → DeedHappens c least want (Some way) v w (ToTurn items p left by given rest)
unfolding deed
item_turn_happens c least want way v w ready items p left by given rest sorts ds room (formed.turns _ _ _ _ _ _ _ are placed others) none_of =
    turned_item_happens c least want way v w items rest p left by (grown w.store p by given) (amid_of c least want way v w ready room) ready.staged are others
    placed (grown_held w.store p by given placed)
