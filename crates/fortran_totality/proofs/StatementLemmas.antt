-- In a well-formed unit no assignment, ASSIGN, branch, IF, DO or STOP comes to a form without meaning, and the procedure holds to what it held to.
use Rattle.std.specs.Prelude.{◌≡◌, ℕ, zero, suc, ◌-◌, ◌<◌, ◌≤◌, nat_eq, ℤ, pos, negsuc, ◌+ℤ◌, int_lt, Bool, true, false, ◌&&◌, not, bytes_eq, List, [], ◌∷◌, ◌++◌, length, drop, min, Option, Some, None, slice_get, IsTrue, if◌then◌else◌}
use Rattle.std.specs.Ordering.{int_eq}
use Rattle.std.proofs.Common.{refl, sym, ap, subst, arith}
use Rattle.std.proofs.lemmas.Option.{slice_get-get_or}
use Rattle.f_tree.specs.simulation.Machine.{Breaks}
use Rattle.f_tree.specs.declared.names.Basic.TheVariants.{Integer, Character}
use Rattle.f_tree.specs.Values.{Bytes, Spot, Datum, IsInt, IsLog, IsText, IsSpot, IsProc, IsLabel, Nothing, DefinedAndReferenced, BadAssignedLabel, PastExtent, ZeroStep, LoopVariableChanged, Checked, Gives, Fails, given_that, checked}
use Rattle.f_tree.specs.Terms.{Wanted}
use Rattle.f_tree.specs.Store.{Store, Sequence, Whole, Number, Truth, Label, undefined_units, whole_at, fetch, define, define_label, label_of_whole, label_in, label_at}
use Rattle.f_tree.specs.Facts.{ToSet, ToSetText, ToSetLabel, ToGo, ToPick, ToGoAssigned, ToGoBySign, ToGuard, ToEnterArm, ToLoop, ToTestLoop, ToStop, Form, Passes, On, Mark, Plain, Opens, Arm, Closes, LoopMark, Line, ProgramUnit, Facts}
use Rattle.f_tree.specs.World.{World, View, Round, RoundKind, Counted, While, Doing, Happening, proceeding}
use Rattle.f_tree.specs.Places.{place_of_label, arm_from, arm_after, arrived, passed, gone_to}
use Rattle.f_tree.specs.Records.{text_from}
use Rattle.f_tree.specs.Step.{stop_ending, onward, go, onward_with, overlaps, piece_from, piece_for, pieces_for, text_stored, text_set, picked, nth_label, contains, labels_to_go, enters_block, name_of, gone_by, by_sign, guarded, at_arm, next_arm, arm_entered, at_least_once, turns, looped, loop_stored, loop_begun, loop_tested, Grown, grown_to, grown_from, grown, turned_with, turned, deed}
use Rattle.f_tree.specs.WellTyped as typed
use Rattle.f_tree.specs.WellTyped.{Sort, ValueOf, PlaceOf, IsOf, AreOf, none_of, more_of, Answers, is_named, IsPiece, ArePieces, Sound}
use Rattle.f_tree.specs.WellFormed as formed
use Rattle.f_tree.specs.WellFormed.{HasStatement, takes_step, EachStands, ArePiecesAndPlace, IsFormed, IsNest, IsWellFormed, has_arm}
use Rattle.f_tree.specs.Holding as holding
use Rattle.f_tree.specs.Holding.{GoesBy, AreRounds, Serves, IsHolding, of_others, IsEnding, Happens, IsReady, DeedHappens}
use Rattle.fortran_totality.proofs.MeantLemmas.{Any, answers_if, given_meant, checked_meant, fetch_meant}
use Rattle.fortran_totality.proofs.ScaleLemmas.{formed_more}
use Rattle.fortran_totality.proofs.StoreLemmas.{AsMany, define_held, define_label_held}
use Rattle.fortran_totality.proofs.ReachLemmas.{IsActiveIn, StandsFirst, first_from, nest_within, nest_from, arrived_active, passed_active, gone_active, proceeding_happens}

-- a statement that is done, also where it has defined a place
pub passed_happens : (c : Facts) (least : ℕ) (want : Wanted) (v : View) (w after : World) (i : ℕ) → IsReady c least want None v w → suc i < length c.program.lines →
    length after.store ≡ length w.store → after.transfer ≡ w.transfer → Happens c least want None v w (proceeding (passed c.program v.frame v.loops i) after)
passed_happens c least want v w after i ready room same as_before =
    proceeding_happens c least want None v w after (passed c.program v.frame v.loops i) (passed_active c least want (length w.store) v i ready.formed ready.holding room)
    same (ap (of_others None) as_before)

pub onward_happens : (c : Facts) (least : ℕ) (want : Wanted) (v : View) (w : World) → IsReady c least want None v w → suc v.at < length c.program.lines →
    Happens c least want None v w (onward c v w)
unfolding onward
onward_happens c least want v w ready room = passed_happens c least want v w w v.at ready room refl refl

pub stored_happens : (c : Facts) (least : ℕ) (want : Wanted) (v : View) (w : World) (r : Checked Store) → IsReady c least want None v w → suc v.at < length c.program.lines →
    Answers (AsMany w.store) r → Happens c least want None v w (onward_with c v w r)
unfolding onward_with onward Answers
stored_happens c least want v w (Gives s) ready room same = passed_happens c least want v w (record w { store = s }) v.at ready room same refl
stored_happens c least want v w (Fails act) ready room named = holding.it_breaks act named

-- assignments of integers, logical values and single texts
pub set_happens : (c : Facts) (least : ℕ) (want : Wanted) (v : View) (w : World) → IsReady c least want None v w → DeedHappens c least want None v w ToSet
unfolding deed
set_happens c least want v w ready sorts ds room (formed.sets basic valued) (more_of _ _ d _ of (more_of _ _ _ _ (typed.place p _ is within) none_of)) =
    stored_happens c least want v w (define w.store p d) ready room (define_held w.store (length w.store) basic p d valued (typed.place p basic is within) of)

-- ASSIGN
pub label_set_happens : (c : Facts) (least : ℕ) (want : Wanted) (v : View) (w : World) → IsReady c least want None v w → (label : ℕ) →
    DeedHappens c least want None v w (ToSetLabel label)
unfolding deed
label_set_happens c least want v w ready label sorts ds room (formed.sets_label _) (more_of _ _ _ _ (typed.place p _ is within) none_of) =
    stored_happens c least want v w (define_label w.store p (name_of c.program) label) ready room
    (define_label_held w.store p (name_of c.program) label (typed.place p Integer is within))

-- assignments of texts: their pieces are values or places, and the place that gets them stands behind them
pub text_of_value : (n : ℕ) (d : Datum) → IsOf n (ValueOf Character) d → Answers Any (text_from (Gives d))
unfolding text_from Answers
text_of_value n d (typed.text cs) = tt

pub text_of : (n : ℕ) (r : Checked Datum) → Answers (IsOf n (ValueOf Character)) r → Answers Any (text_from r)
unfolding text_from Answers
text_of n (Gives d) of = text_of_value n d of
text_of n (Fails act) named = named

pub piece_fetched : (s : Store) (q : Spot) (count : ℕ) (p : Spot) → q.basic ≡ Character → q.sequence < length s → Answers Any (piece_from s q count p)
unfolding piece_from Answers is_named
piece_fetched s q count p is within =
    answers_if Any (overlaps q count p) (Fails DefinedAndReferenced) (text_from (fetch s (record q { width = count }))) refl
    (text_of (length s) (fetch s (record q { width = count })) (fetch_meant s (length s) (record q { width = count }) Character typed.texts is within))

pub piece_given : (s : Store) (p : Spot) (room : ℕ) (sort : Sort) (d : Datum) → IsPiece sort → IsOf (length s) sort d → Answers Any (piece_for s p room d)
unfolding piece_for Answers
piece_given s p room sort d typed.piece_value (typed.text cs) = tt
piece_given s p room sort d typed.piece_place (typed.place q _ is within) = piece_fetched s q (min q.width room) p is within

pub pieces_given : (s : Store) (p : Spot) (room : ℕ) (sorts : List Sort) (ds : List Datum) → ArePieces sorts → AreOf (length s) sorts ds → Answers Any (pieces_for s p room ds)
unfolding pieces_for Answers
pieces_given s p room sorts ds typed.no_pieces none_of = tt
pieces_given s p room sorts ds (typed.more_pieces one others is are) (more_of _ _ d more of ofs) =
    given_meant Any Any (piece_for s p room d) (λ a. given_that (pieces_for s p (room - length a) more) (λ b. Gives (a ++ b))) (piece_given s p room one d is of)
    (λ a any. given_meant Any Any (pieces_for s p (room - length a) more) (λ b. Gives (a ++ b)) (pieces_given s p (room - length a) others more are ofs) (λ b any. tt))

pub pieces_and_one : (sorts : List Sort) (sort : Sort) → ArePieces sorts → IsPiece sort → ArePieces (sorts ++ sort ∷ [])
pieces_and_one sorts sort typed.no_pieces is = typed.more_pieces sort [] is typed.no_pieces
pieces_and_one sorts sort (typed.more_pieces one others first are) is = typed.more_pieces one (others ++ sort ∷ []) first (pieces_and_one others sort are is)

pub are_and_one : (n : ℕ) (sorts : List Sort) (ds : List Datum) (sort : Sort) (d : Datum) → AreOf n sorts ds → IsOf n sort d → AreOf n (sorts ++ sort ∷ []) (ds ++ d ∷ [])
are_and_one n sorts ds sort d none_of is = more_of sort [] d [] is none_of
are_and_one n sorts ds sort d (more_of one others e more of ofs) is = more_of one (others ++ sort ∷ []) e (more ++ d ∷ []) of (are_and_one n others more sort d ofs is)

pub text_stored_held : (s : Store) (p : Spot) (r : Checked Bytes) → p.basic ≡ Character → p.sequence < length s → Answers Any r → Answers (AsMany s) (text_stored s p r)
unfolding text_stored Answers
text_stored_held s p (Gives cs) is within any = define_held s (length s) Character p (IsText cs) typed.texts (typed.place p Character is within) (typed.text cs)
text_stored_held s p (Fails act) is within named = named

-- what is not last among the operands is a piece
pub behind_piece : (s : Store) (before : List Datum) (d e : Datum) (more : List Datum) → text_set s before (d ∷ e ∷ more) ≡ text_set s (before ++ d ∷ []) (e ∷ more)
unfolding text_set
behind_piece s before (IsInt z) e more = refl
behind_piece s before (IsLog b) e more = refl
behind_piece s before (IsText cs) e more = refl
behind_piece s before (IsSpot p) e more = refl
behind_piece s before (IsProc x) e more = refl
behind_piece s before (IsLabel l) e more = refl
behind_piece s before Nothing e more = refl

pub behind_pieces : (s : Store) (n : ℕ) (before : List Datum) (d : Datum) (sorts : List Sort) (more : List Datum) → ArePiecesAndPlace sorts → AreOf n sorts more →
    text_set s before (d ∷ more) ≡ text_set s (before ++ d ∷ []) more
behind_pieces s n before d sorts more formed.the_place (more_of _ _ e others _ _) = behind_piece s before d e others
behind_pieces s n before d sorts more (formed.a_piece _ _ _ _) (more_of _ _ e others _ _) = behind_piece s before d e others

pub text_held : (s : Store) (pieces sorts : List Sort) (before ds : List Datum) → ArePieces pieces → AreOf (length s) pieces before → ArePiecesAndPlace sorts →
    AreOf (length s) sorts ds → Answers (AsMany s) (text_set s before ds)
unfolding text_set
text_held s pieces sorts before ds are of formed.the_place (more_of _ _ _ _ (typed.place p _ is within) none_of) =
    text_stored_held s p (pieces_for s p p.width before) is within (pieces_given s p p.width pieces before are of)
text_held s pieces sorts before ds are of (formed.a_piece sort others is rest) (more_of _ _ d more one ofs) =
    subst (Answers (AsMany s)) (sym (behind_pieces s (length s) before d others more rest ofs))
    (text_held s (pieces ++ sort ∷ []) others (before ++ d ∷ []) more (pieces_and_one pieces sort are is) (are_and_one (length s) pieces before sort d of one) rest ofs)

pub text_set_happens : (c : Facts) (least : ℕ) (want : Wanted) (v : View) (w : World) → IsReady c least want None v w → DeedHappens c least want None v w ToSetText
unfolding deed
text_set_happens c least want v w ready sorts ds room (formed.sets_text _ are) ofs =
    stored_happens c least want v w (text_set w.store [] ds) ready room (text_held w.store [] sorts [] ds typed.no_pieces none_of are ofs)

-- GO TO, computed, arithmetic and assigned
pub go_happens : (c : Facts) (least : ℕ) (want : Wanted) (v : View) (w : World) (label : ℕ) → IsReady c least want None v w → HasStatement c.program label →
    Happens c least want None v w (go c v w label)
unfolding go
go_happens c least want v w label ready stands =
    proceeding_happens c least want None v w w (gone_to c.program v.frame v.loops label) (gone_active c least want (length w.store) v label ready.formed ready.holding stands)
    refl refl

pub branch_happens : (c : Facts) (least : ℕ) (want : Wanted) (v : View) (w : World) → IsReady c least want None v w → (label : ℕ) →
    DeedHappens c least want None v w (ToGo label)
unfolding deed
branch_happens c least want v w ready label sorts ds room (formed.goes _ stands) none_of = go_happens c least want v w label ready stands

pub nth_stands : (u : ProgramUnit) (labels : List ℕ) (n label : ℕ) → EachStands u labels → slice_get labels n ≡ Some label → HasStatement u label
nth_stands u labels n label formed.none_stands is = absurd (cc)
nth_stands u labels zero label (formed.one_stands first more stands others) is = let same : first ≡ label = cc in subst (HasStatement u) same stands
nth_stands u labels (suc n) label (formed.one_stands first more stands others) is = nth_stands u more n label others is

pub picked_happens : (c : Facts) (least : ℕ) (want : Wanted) (v : View) (w : World) (o : Option ℕ) → IsReady c least want None v w → suc v.at < length c.program.lines →
    ((label : ℕ) → o ≡ Some label → HasStatement c.program label) → Happens c least want None v w (picked c v w o)
unfolding picked
picked_happens c least want v w None ready room stand = onward_happens c least want v w ready room
picked_happens c least want v w (Some label) ready room stand = go_happens c least want v w label ready (stand label refl)

pub chosen_happens : (c : Facts) (least : ℕ) (want : Wanted) (v : View) (w : World) (labels : List ℕ) (z : ℤ) → IsReady c least want None v w →
    suc v.at < length c.program.lines → EachStands c.program labels → Happens c least want None v w (picked c v w (nth_label labels z))
unfolding nth_label
chosen_happens c least want v w labels (pos zero) ready room stand = picked_happens c least want v w None ready room (λ label is. absurd (cc))
chosen_happens c least want v w labels (pos (suc n)) ready room stand =
    picked_happens c least want v w (slice_get labels n) ready room (λ label is. nth_stands c.program labels n label stand is)
chosen_happens c least want v w labels (negsuc n) ready room stand = picked_happens c least want v w None ready room (λ label is. absurd (cc))

pub choice_happens : (c : Facts) (least : ℕ) (want : Wanted) (v : View) (w : World) → IsReady c least want None v w → (labels : List ℕ) →
    DeedHappens c least want None v w (ToPick labels)
unfolding deed
choice_happens c least want v w ready labels sorts ds room (formed.picks _ stand) (more_of _ _ _ _ (typed.integer z) none_of) =
    chosen_happens c least want v w labels z ready room stand

pub one_of_three : (P : ℕ → Type 0) (a b : Bool) (x y z : ℕ) → P x → P y → P z → P (if a then x else if b then y else z)
one_of_three P true b x y z px py pz = px
one_of_three P false true x y z px py pz = py
one_of_three P false false x y z px py pz = pz

pub sign_happens : (c : Facts) (least : ℕ) (want : Wanted) (v : View) (w : World) → IsReady c least want None v w → (below even above : ℕ) →
    DeedHappens c least want None v w (ToGoBySign below even above)
unfolding deed by_sign
sign_happens c least want v w ready below even above sorts ds room (formed.goes_by_sign _ _ _ one other third) (more_of _ _ _ _ (typed.integer z) none_of) =
    one_of_three (λ label. Happens c least want None v w (go c v w label)) (int_lt z (pos 0)) (int_eq z (pos 0)) below even above
    (go_happens c least want v w below ready one) (go_happens c least want v w even ready other) (go_happens c least want v w above ready third)

-- a place from which a label is fetched has a label, or no value
pub data IsLabelled : Whole → Type 0 where
  a_label : (owner : Bytes) (label : ℕ) → IsLabelled (Label owner label)

pub whole_labelled : (o : Option Whole) → Answers IsLabelled (label_of_whole o)
unfolding label_of_whole Answers is_named
whole_labelled None = refl
whole_labelled (Some (Number z)) = refl
whole_labelled (Some (Truth b)) = refl
whole_labelled (Some (Label owner label)) = a_label owner label

pub sequence_labelled : (p : Spot) (q : Sequence) → Answers IsLabelled (label_in p (Some q))
unfolding label_in Answers is_named
sequence_labelled p q = answers_if IsLabelled _ (label_of_whole (whole_at p.first q.cells)) (Fails PastExtent) (whole_labelled (whole_at p.first q.cells)) refl

pub some_labelled : (p : Spot) (o : Option Sequence) (q : Sequence) → o ≡ Some q → Answers IsLabelled (label_in p o)
some_labelled p o q is = subst (λ x. Answers IsLabelled (label_in p x)) (sym is) (sequence_labelled p q)

pub place_labelled : (s : Store) (p : Spot) → p.sequence < length s → Answers IsLabelled (label_at s p)
unfolding label_at
place_labelled s p within = some_labelled p (slice_get s p.sequence) _ (slice_get-get_or s p.sequence (undefined_units 0) within)

pub happens_where : (c : Facts) (least : ℕ) (want : Wanted) (v : View) (w : World) (b : Bool) (x y : Happening) → (b ≡ true → Happens c least want None v w x) →
    Happens c least want None v w y → Happens c least want None v w (if b then x else y)
happens_where c least want v w true x y one other = one refl
happens_where c least want v w false x y one other = other

-- a branch that enters no block goes to a label that stands at a statement
pub allowed_stands : (u : ProgramUnit) (from label : ℕ) (may : Bool) (o : Option ℕ) → place_of_label u label ≡ o → (may && not (enters_block u from o)) ≡ true → HasStatement u label
unfolding enters_block
allowed_stands u from label true None there allowed = absurd (cc)
allowed_stands u from label false None there allowed = absurd (cc)
allowed_stands u from label may (Some at) there allowed = record { at = at; there = there }

pub labelled_happens : (c : Facts) (least : ℕ) (want : Wanted) (v : View) (w : World) (labels : List ℕ) (whole : Whole) → IsReady c least want None v w → IsLabelled whole →
    Happens c least want None v w (gone_by c v w labels (Gives whole))
unfolding gone_by is_named
labelled_happens c least want v w labels whole ready (a_label owner label) =
    happens_where c least want v w
    ((bytes_eq owner (name_of c.program) && contains (labels_to_go c.program labels) label) && not (enters_block c.program v.at (place_of_label c.program label)))
    (go c v w label) (Breaks BadAssignedLabel)
    (λ allowed. go_happens c least want v w label ready
    (allowed_stands c.program v.at label (bytes_eq owner (name_of c.program) && contains (labels_to_go c.program labels) label) (place_of_label c.program label) refl allowed))
    (holding.it_breaks BadAssignedLabel refl)

pub gone_by_happens : (c : Facts) (least : ℕ) (want : Wanted) (v : View) (w : World) (labels : List ℕ) (r : Checked Whole) → IsReady c least want None v w → Answers IsLabelled r →
    Happens c least want None v w (gone_by c v w labels r)
unfolding gone_by Answers
gone_by_happens c least want v w labels (Gives whole) ready is = labelled_happens c least want v w labels whole ready is
gone_by_happens c least want v w labels (Fails act) ready named = holding.it_breaks act named

pub assigned_branch_happens : (c : Facts) (least : ℕ) (want : Wanted) (v : View) (w : World) → IsReady c least want None v w → (labels : List ℕ) →
    DeedHappens c least want None v w (ToGoAssigned labels)
unfolding deed
assigned_branch_happens c least want v w ready labels sorts ds room (formed.goes_assigned _) (more_of _ _ _ _ (typed.place p _ is within) none_of) =
    gone_by_happens c least want v w labels (label_at w.store p) ready (place_labelled w.store p within)

-- STOP
pub stop_ends : (text : Bytes) → IsEnding (stop_ending text)
unfolding stop_ending
stop_ends [] = holding.plainly
stop_ends (c ∷ cs) = holding.by_text (c ∷ cs)

pub stop_happens : (c : Facts) (least : ℕ) (want : Wanted) (v : View) (w : World) → IsReady c least want None v w → (text : Bytes) →
    DeedHappens c least want None v w (ToStop text)
unfolding deed
stop_happens c least want v w ready text sorts ds room (formed.stops _) none_of = holding.it_ends (stop_ending text) v w (stop_ends text)

-- a procedure holds to the same wherever it is, with loops that are active loops
pub same_holding : (c : Facts) (least : ℕ) (want : Wanted) (count : ℕ) (v v' : View) → IsHolding c least want count v → v'.frame ≡ v.frame → AreRounds c.program count v'.loops →
    IsHolding c least want count v'
same_holding c least want count v v' h same are = record {
  sound = subst (λ f. Sound c f count) (sym same) h.sound;
  rounds = are;
  serves = subst (λ f. Serves c.program.kind f count want) (sym same) h.serves;
  low = subst (λ f. least ≤ f.base) (sym same) h.low;
  high = subst (λ f. f.base ≤ count) (sym same) h.high;
}

-- logical IF: its statement stands at its place
pub guarded_happens : (c : Facts) (least : ℕ) (want : Wanted) (v : View) (w : World) (form : Form) (b : Bool) → IsReady c least want None v w → suc v.at < length c.program.lines →
    IsFormed c (length w.store) v.at None form → Happens c least want None v w (guarded c v w form b)
unfolding guarded
guarded_happens c least want v w form false ready room is = onward_happens c least want v w ready room
guarded_happens c least want v w Passes true ready room is = onward_happens c least want v w ready room
guarded_happens c least want v w (On head operands) true ready room is =
    holding.it_goes None (record v { now = Doing (On head operands) }) w refl refl
    (record {
      holding = same_holding c least want (length w.store) v (record v { now = Doing (On head operands) }) ready.holding refl ready.holding.rounds;
      next = holding.doing None (On head operands) is (holding.before_end (On head operands) room);
    })
    (holding.not_in_one w.transfer) refl

pub guard_happens : (c : Facts) (least : ℕ) (want : Wanted) (v : View) (w : World) → IsReady c least want None v w → (form : Form) →
    DeedHappens c least want None v w (ToGuard form)
unfolding deed
guard_happens c least want v w ready form sorts ds room (formed.guards _ is) (more_of _ _ _ _ (typed.logical b) none_of) =
    guarded_happens c least want v w form b ready room is

-- the next arm of a block, ELSE IF, ELSE or END IF, is there, and a place behind it
pub either_place : (P : Option ℕ → Type 0) (b : Bool) (x y : Option ℕ) → P x → P y → P (if b then x else y)
either_place P true x y one other = one
either_place P false x y one other = other

pub armed_parts : (P : Option ℕ → Type 0) (i depth : ℕ) (label : Option ℕ) (loop : LoopMark) (card : ℕ) (mark : Mark) (form : Form) (lines : List Line) → P (Some i) →
    (mark ≡ Plain → P (arm_from (suc i) depth lines)) → (mark ≡ Opens → P (arm_from (suc i) (suc depth) lines)) → (mark ≡ Arm → P (arm_from (suc i) depth lines)) →
    ((d : ℕ) → mark ≡ Closes → depth ≡ suc d → P (arm_from (suc i) d lines)) →
    P (arm_from i depth (record { label = label; mark = mark; loop = loop; card = card; form = form } ∷ lines))
unfolding arm_from
armed_parts P i depth label loop card Plain form lines here plain opens arm inner = plain refl
armed_parts P i depth label loop card Opens form lines here plain opens arm inner = opens refl
armed_parts P i depth label loop card Arm form lines here plain opens arm inner = either_place P (nat_eq depth 0) (Some i) (arm_from (suc i) depth lines) here (arm refl)
armed_parts P i zero label loop card Closes form lines here plain opens arm inner = here
armed_parts P i (suc d) label loop card Closes form lines here plain opens arm inner = inner d refl refl

pub armed_at : (P : Option ℕ → Type 0) (i depth : ℕ) (line : Line) (lines : List Line) → P (Some i) →
    (line.mark ≡ Plain → P (arm_from (suc i) depth lines)) → (line.mark ≡ Opens → P (arm_from (suc i) (suc depth) lines)) →
    (line.mark ≡ Arm → P (arm_from (suc i) depth lines)) → ((d : ℕ) → line.mark ≡ Closes → depth ≡ suc d → P (arm_from (suc i) d lines)) → P (arm_from i depth (line ∷ lines))
armed_at P i depth line lines here plain opens arm inner = armed_parts P i depth line.label line.loop line.card line.mark line.form lines here plain opens arm inner

pub arm_parts : (c : Facts) (least : ℕ) (want : Wanted) (count : ℕ) (v : View) (i : ℕ) (label : Option ℕ) (loop : LoopMark) (card : ℕ) (mark : Mark)
    (form : Form) → IsWellFormed c least → IsHolding c least want count v → IsFormed c count i None form → suc i < length c.program.lines →
    Answers (IsActiveIn c least want count v.frame) (at_arm c v i (Some (record { label = label; mark = mark; loop = loop; card = card; form = form })))
unfolding at_arm Answers
arm_parts c least want count v i label loop card mark Passes w h is room =
    arrived_active c least want count v.frame v.loops (suc i) w h.sound h.rounds h.serves h.low h.high room
arm_parts c least want count v i label loop card mark (On head operands) w h is room = (
  refl,
  record {
    holding = same_holding c least want count v (record v { at = i; now = Doing (On head operands) }) h refl h.rounds;
    next = holding.doing None (On head operands) is (holding.before_end (On head operands) room);
  },
)

pub arm_active : (c : Facts) (least : ℕ) (want : Wanted) (count : ℕ) (v : View) (i : ℕ) (line : Line) → IsWellFormed c least → IsHolding c least want count v →
    slice_get c.program.lines i ≡ Some line → suc i < length c.program.lines → Answers (IsActiveIn c least want count v.frame) (next_arm c v (Some i))
unfolding next_arm
arm_active c least want count v i line w h there room =
    subst (λ o. Answers (IsActiveIn c least want count v.frame) (at_arm c v i o)) (sym there)
    (arm_parts c least want count v i line.label line.loop line.card line.mark line.form w h
    (formed_more c least count (omega (arith, h.low, h.high)) i None line.form (w.statements i line there)) room)

pub arms_active : (c : Facts) (least : ℕ) (want : Wanted) (count : ℕ) (v : View) → IsWellFormed c least → IsHolding c least want count v →
    (depth k i : ℕ) (lines : List Line) → IsNest depth lines → k < depth → lines ≡ drop i c.program.lines →
    Answers (IsActiveIn c least want count v.frame) (next_arm c v (arm_from i k lines))
arms_active c least want count v w h depth k i lines (formed.the_end line mark form) below is = absurd (omega (arith, below))
arms_active c least want count v w h depth k i lines (formed.plain n line rest mark nest) below is =
    let from : StandsFirst c.program.lines i line rest = first_from c.program.lines i line rest is in
    armed_at (λ o. Answers (IsActiveIn c least want count v.frame) (next_arm c v o)) i k line rest
    (arm_active c least want count v i line w h from.0 (nest_within c.program.lines (suc i) n rest nest from.1))
    (λ plain. arms_active c least want count v w h n k (suc i) rest nest below from.1) (λ opens. absurd (cc)) (λ arm. absurd (cc)) (λ d closes some. absurd (cc))
arms_active c least want count v w h depth k i lines (formed.opens n line rest mark nest) below is =
    let from : StandsFirst c.program.lines i line rest = first_from c.program.lines i line rest is in
    armed_at (λ o. Answers (IsActiveIn c least want count v.frame) (next_arm c v o)) i k line rest
    (arm_active c least want count v i line w h from.0 (nest_within c.program.lines (suc i) (suc n) rest nest from.1))
    (λ plain. absurd (cc)) (λ opens. arms_active c least want count v w h (suc n) (suc k) (suc i) rest nest (omega (arith, below)) from.1) (λ arm. absurd (cc))
    (λ d closes some. absurd (cc))
arms_active c least want count v w h depth k i lines (formed.arm n line rest mark nest) below is =
    let from : StandsFirst c.program.lines i line rest = first_from c.program.lines i line rest is in
    armed_at (λ o. Answers (IsActiveIn c least want count v.frame) (next_arm c v o)) i k line rest
    (arm_active c least want count v i line w h from.0 (nest_within c.program.lines (suc i) (suc n) rest nest from.1))
    (λ plain. absurd (cc)) (λ opens. absurd (cc)) (λ arm. arms_active c least want count v w h (suc n) k (suc i) rest nest below from.1) (λ d closes some. absurd (cc))
arms_active c least want count v w h depth k i lines (formed.closes n line rest mark nest) below is =
    let from : StandsFirst c.program.lines i line rest = first_from c.program.lines i line rest is in
    armed_at (λ o. Answers (IsActiveIn c least want count v.frame) (next_arm c v o)) i k line rest
    (arm_active c least want count v i line w h from.0 (nest_within c.program.lines (suc i) n rest nest from.1))
    (λ plain. absurd (cc)) (λ opens. absurd (cc)) (λ arm. absurd (cc))
    (λ d closes some. arms_active c least want count v w h n d (suc i) rest nest (omega (arith, below, some)) from.1)

-- behind IF .. THEN, ELSE IF and ELSE the block is open
pub opens_or_arm : (mark : Mark) → IsTrue (has_arm mark) → (mark ≡ Plain → ⊥) × (mark ≡ Closes → ⊥)
unfolding has_arm
opens_or_arm Plain has = absurd (cc)
opens_or_arm Opens has = ((λ is. absurd (cc)), (λ is. absurd (cc)))
opens_or_arm Arm has = ((λ is. absurd (cc)), (λ is. absurd (cc)))
opens_or_arm Closes has = absurd (cc)

pub same_line : (all : List Line) (i : ℕ) (line other : Line) (lines : List Line) → other ∷ lines ≡ drop i all → slice_get all i ≡ Some line → other ≡ line
same_line all i line other lines is there = let here : slice_get all i ≡ Some other = (first_from all i other lines is).0 in cc

pub behind_arm : (all : List Line) (i depth : ℕ) (line : Line) (lines : List Line) → IsNest depth lines → lines ≡ drop i all → slice_get all i ≡ Some line → IsTrue (has_arm line.mark) →
    (n : ℕ) × IsNest (suc n) (drop (suc i) all)
behind_arm all i depth line lines (formed.the_end other mark form) is there has =
    absurd ((opens_or_arm line.mark has).0 (subst (λ l. l.mark ≡ Plain) (same_line all i line other [] is there) mark))
behind_arm all i depth line lines (formed.plain n other rest mark nest) is there has =
    absurd ((opens_or_arm line.mark has).0 (subst (λ l. l.mark ≡ Plain) (same_line all i line other rest is there) mark))
behind_arm all i depth line lines (formed.opens n other rest mark nest) is there has = (n, subst (IsNest (suc n)) (first_from all i other rest is).1 nest)
behind_arm all i depth line lines (formed.arm n other rest mark nest) is there has = (n, subst (IsNest (suc n)) (first_from all i other rest is).1 nest)
behind_arm all i depth line lines (formed.closes n other rest mark nest) is there has =
    absurd ((opens_or_arm line.mark has).1 (subst (λ l. l.mark ≡ Closes) (same_line all i line other rest is there) mark))

pub entered_happens : (c : Facts) (least : ℕ) (want : Wanted) (v : View) (w : World) (line : Line) (b : Bool) → IsReady c least want None v w → suc v.at < length c.program.lines →
    slice_get c.program.lines v.at ≡ Some line → IsTrue (has_arm line.mark) → Happens c least want None v w (arm_entered c v w b)
unfolding arm_entered arm_after
entered_happens c least want v w line true ready room there has =
    proceeding_happens c least want None v w w (arrived c.program v.frame v.loops (suc v.at))
    (arrived_active c least want (length w.store) v.frame v.loops (suc v.at) ready.formed ready.holding.sound ready.holding.rounds ready.holding.serves ready.holding.low ready.holding.high room)
    refl refl
entered_happens c least want v w line false ready room there has =
    let nest : (n : ℕ) × IsNest n (drop v.at c.program.lines) = nest_from 0 c.program.lines v.at ready.formed.nest (omega (arith, room)) in
    let open_behind : (n : ℕ) × IsNest (suc n) (drop (suc v.at) c.program.lines) = behind_arm c.program.lines v.at nest.0 line (drop v.at c.program.lines) nest.1 refl there has in
    proceeding_happens c least want None v w w (next_arm c v (arm_from (suc v.at) 0 (drop (suc v.at) c.program.lines)))
    (arms_active c least want (length w.store) v ready.formed ready.holding (suc open_behind.0) 0 (suc v.at) (drop (suc v.at) c.program.lines) open_behind.1 (omega arith) refl)
    refl refl

pub arm_happens : (c : Facts) (least : ℕ) (want : Wanted) (v : View) (w : World) → IsReady c least want None v w → DeedHappens c least want None v w ToEnterArm
unfolding deed
arm_happens c least want v w ready sorts ds room (formed.enters_arm line there has) (more_of _ _ _ _ (typed.logical b) none_of) =
    entered_happens c least want v w line b ready room there has

-- DO: a new loop has its variable, and a place behind its DO statement and behind its terminal statement
pub looped_happens : (c : Facts) (least : ℕ) (want : Wanted) (v : View) (w after : World) (last : ℕ) (p : Spot) (first by : ℤ) (n : ℕ) → IsReady c least want None v w →
    suc v.at < length c.program.lines → suc last < length c.program.lines → IsOf (length w.store) (PlaceOf Integer) (IsSpot p) → length after.store ≡ length w.store →
    after.transfer ≡ w.transfer → Happens c least want None v w (looped c v after last p first by n)
unfolding looped
looped_happens c least want v w after last p first by zero ready room last_room placed same as_before = passed_happens c least want v w after last ready last_room same as_before
looped_happens c least want v w after last p first by (suc k) ready room last_room placed same as_before =
    let round : Round = record { first = v.at; last = last; kind = Counted p (suc k) by first } in
    proceeding_happens c least want None v w after (arrived c.program v.frame (round ∷ v.loops) (suc v.at))
    (arrived_active c least want (length w.store) v.frame (round ∷ v.loops) (suc v.at) ready.formed ready.holding.sound
    (holding.more_rounds round v.loops
    (record { first_room = room; last_room = last_room; goes_by = holding.by_count p (suc k) by first placed }) ready.holding.rounds)
    ready.holding.serves ready.holding.low ready.holding.high room)
    same (ap (of_others None) as_before)

pub loop_stored_happens : (c : Facts) (least : ℕ) (want : Wanted) (v : View) (w : World) (last : ℕ) (p : Spot) (first by : ℤ) (n : ℕ) (r : Checked Store) →
    IsReady c least want None v w → suc v.at < length c.program.lines → suc last < length c.program.lines → IsOf (length w.store) (PlaceOf Integer) (IsSpot p) →
    Answers (AsMany w.store) r → Happens c least want None v w (loop_stored c v w last p first by n r)
unfolding loop_stored Answers
loop_stored_happens c least want v w last p first by n (Gives s) ready room last_room placed same =
    looped_happens c least want v w (record w { store = s }) last p first by n ready room last_room placed same refl
loop_stored_happens c least want v w last p first by n (Fails act) ready room last_room placed named = holding.it_breaks act named

pub loop_begun_happens : (c : Facts) (least : ℕ) (want : Wanted) (v : View) (w : World) (last : ℕ) (p : Spot) (first limit by : ℤ) → IsReady c least want None v w →
    suc v.at < length c.program.lines → suc last < length c.program.lines → IsOf (length w.store) (PlaceOf Integer) (IsSpot p) →
    Happens c least want None v w (loop_begun c v w (Some last) p first limit by)
unfolding loop_begun is_named
loop_begun_happens c least want v w last p first limit by ready room last_room placed =
    happens_where c least want v w (int_eq by (pos 0)) (Breaks ZeroStep)
    (loop_stored c v w last p first by (at_least_once c.program.onetrip (turns first limit by)) (define w.store p (IsInt first)))
    (λ is. holding.it_breaks ZeroStep refl)
    (loop_stored_happens c least want v w last p first by (at_least_once c.program.onetrip (turns first limit by)) (define w.store p (IsInt first)) ready room last_room placed
    (define_held w.store (length w.store) Integer p (IsInt first) typed.integers placed (typed.integer first)))

pub loop_happens : (c : Facts) (least : ℕ) (want : Wanted) (v : View) (w : World) → IsReady c least want None v w → (label : Option ℕ) →
    DeedHappens c least want None v w (ToLoop label)
unfolding deed
loop_happens c least want v w ready label sorts ds room (formed.loops _ terminal)
    (more_of _ _ _ _ (typed.place p _ is within) (more_of _ _ _ _ (typed.integer first) (more_of _ _ _ _ (typed.integer limit) (more_of _ _ _ _ (typed.integer by) none_of)))) =
    subst (λ o. Happens c least want None v w (loop_begun c v w o p first limit by)) (sym terminal.there)
    (loop_begun_happens c least want v w terminal.at p first limit by ready room terminal.before_end (typed.place p Integer is within))

-- DO WHILE: a loop whose test holds has a place behind its statement and behind its terminal statement, and is tested there again
pub loop_tested_happens : (c : Facts) (least : ℕ) (want : Wanted) (v : View) (w : World) (last : ℕ) (line : Line) (b : Bool) → IsReady c least want None v w →
    suc v.at < length c.program.lines → suc last < length c.program.lines → slice_get c.program.lines v.at ≡ Some line → IsTrue (takes_step line.form) →
    Happens c least want None v w (loop_tested c v w (Some last) b)
unfolding loop_tested
loop_tested_happens c least want v w last line false ready room last_room there takes = passed_happens c least want v w w last ready last_room refl refl
loop_tested_happens c least want v w last line true ready room last_room there takes =
    let round : Round = record { first = v.at; last = last; kind = While } in
    proceeding_happens c least want None v w w (arrived c.program v.frame (round ∷ v.loops) (suc v.at))
    (arrived_active c least want (length w.store) v.frame (round ∷ v.loops) (suc v.at) ready.formed ready.holding.sound
    (holding.more_rounds round v.loops (record { first_room = room; last_room = last_room; goes_by = holding.by_test line there takes }) ready.holding.rounds)
    ready.holding.serves ready.holding.low ready.holding.high room)
    refl refl

pub test_happens : (c : Facts) (least : ℕ) (want : Wanted) (v : View) (w : World) → IsReady c least want None v w → (label : Option ℕ) →
    DeedHappens c least want None v w (ToTestLoop label)
unfolding deed
test_happens c least want v w ready label sorts ds room (formed.tests_loop _ line there takes terminal) (more_of _ _ _ _ (typed.logical b) none_of) =
    subst (λ o. Happens c least want None v w (loop_tested c v w o b)) (sym terminal.there)
    (loop_tested_happens c least want v w terminal.at line b ready room terminal.before_end there takes)

-- an increment: the variable has a value of its type
pub grown_place : (s : Store) (p : Spot) (z : ℤ) (r : Checked Datum) → IsOf (length s) (PlaceOf Integer) (IsSpot p) → Answers (IsOf (length s) (ValueOf Integer)) r →
    Answers (λ g. AsMany s g.store) (grown_to s p z r)
unfolding grown_to Answers
grown_place s p z (Gives d) placed of =
    given_meant (AsMany s) (λ g. AsMany s g.store) (define s p d) (λ after. Gives (record { store = after; given = z }))
    (define_held s (length s) Integer p d typed.integers placed of) (λ after same. same)
grown_place s p z (Fails act) placed named = named

pub grown_value : (s : Store) (p : Spot) (by given : ℤ) (r : Checked Datum) → IsOf (length s) (PlaceOf Integer) (IsSpot p) →
    Answers (λ g. AsMany s g.store) (grown_from s p by given r)
unfolding grown_from Answers is_named
grown_value s p by given (Gives (IsInt z)) placed =
    answers_if (λ g. AsMany s g.store) (int_eq z given) (grown_to s p (given +ℤ by) (checked (given +ℤ by))) (Fails LoopVariableChanged)
    (grown_place s p (given +ℤ by) (checked (given +ℤ by)) placed (checked_meant (length s) (given +ℤ by))) refl
grown_value s p by given (Gives (IsLog b)) placed = refl
grown_value s p by given (Gives (IsText cs)) placed = refl
grown_value s p by given (Gives (IsSpot q)) placed = refl
grown_value s p by given (Gives (IsProc x)) placed = refl
grown_value s p by given (Gives (IsLabel l)) placed = refl
grown_value s p by given (Gives Nothing) placed = refl
grown_value s p by given (Fails act) placed = refl

pub grown_held : (s : Store) (p : Spot) (by given : ℤ) → IsOf (length s) (PlaceOf Integer) (IsSpot p) → Answers (λ g. AsMany s g.store) (grown s p by given)
unfolding grown
grown_held s p by given placed = grown_value s p by given (fetch s p) placed

-- the loop goes on with its next turn, or is done
pub next_turn_happens : (c : Facts) (least : ℕ) (want : Wanted) (v : View) (w after : World) (round : Round) (rounds : List Round) → IsReady c least want None v w →
    suc round.first < length c.program.lines → AreRounds c.program (length w.store) (round ∷ rounds) → length after.store ≡ length w.store → after.transfer ≡ w.transfer →
    Happens c least want None v w (proceeding (arrived c.program v.frame (round ∷ rounds) (suc round.first)) after)
next_turn_happens c least want v w after round rounds ready room are same as_before =
    proceeding_happens c least want None v w after (arrived c.program v.frame (round ∷ rounds) (suc round.first))
    (arrived_active c least want (length w.store) v.frame (round ∷ rounds) (suc round.first) ready.formed ready.holding.sound are ready.holding.serves ready.holding.low
    ready.holding.high room)
    same (ap (of_others None) as_before)

pub last_turn_happens : (c : Facts) (least : ℕ) (want : Wanted) (v : View) (w after : World) (last : ℕ) (rounds : List Round) → IsReady c least want None v w →
    suc last < length c.program.lines → AreRounds c.program (length w.store) rounds → length after.store ≡ length w.store → after.transfer ≡ w.transfer →
    Happens c least want None v w (proceeding (passed c.program v.frame rounds last) after)
last_turn_happens c least want v w after last rounds ready room are same as_before =
    proceeding_happens c least want None v w after (passed c.program v.frame rounds last)
    (passed_active c least want (length w.store) (record v { loops = rounds }) last ready.formed
    (same_holding c least want (length w.store) v (record v { loops = rounds }) ready.holding refl are) room)
    same (ap (of_others None) as_before)

pub turned_with_happens : (c : Facts) (least : ℕ) (want : Wanted) (v : View) (w : World) (round : Round) (rounds : List Round) (p : Spot) (left : ℕ) (by : ℤ) (r : Checked Grown) →
    IsReady c least want None v w → suc round.first < length c.program.lines → suc round.last < length c.program.lines → IsOf (length w.store) (PlaceOf Integer) (IsSpot p) →
    AreRounds c.program (length w.store) rounds → Answers (λ g. AsMany w.store g.store) r → Happens c least want None v w (turned_with c v w round rounds p left by r)
unfolding turned_with Answers
turned_with_happens c least want v w round rounds p left by (Fails act) ready room last_room placed are named = holding.it_breaks act named
turned_with_happens c least want v w round rounds p zero by (Gives g) ready room last_room placed are same =
    last_turn_happens c least want v w (record w { store = g.store }) round.last rounds ready last_room are same refl
turned_with_happens c least want v w round rounds p (suc zero) by (Gives g) ready room last_room placed are same =
    last_turn_happens c least want v w (record w { store = g.store }) round.last rounds ready last_room are same refl
turned_with_happens c least want v w round rounds p (suc (suc left)) by (Gives g) ready room last_room placed are same =
    next_turn_happens c least want v w (record w { store = g.store }) (record round { kind = Counted p (suc left) by g.given }) rounds ready room
    (holding.more_rounds (record round { kind = Counted p (suc left) by g.given }) rounds
    (record { first_room = room; last_room = last_room; goes_by = holding.by_count p (suc left) by g.given placed }) are)
    same refl

-- what goes on by its variable has a place for it
pub counted_placed : (u : ProgramUnit) (count first : ℕ) (kind : RoundKind) (p : Spot) (left : ℕ) (by given : ℤ) → GoesBy u count first kind →
    kind ≡ Counted p left by given → IsOf count (PlaceOf Integer) (IsSpot p)
counted_placed u count first kind p left by given (holding.by_count q _ _ _ placed) is =
    let same : q ≡ p = cc in subst (λ r. IsOf count (PlaceOf Integer) (IsSpot r)) same placed
counted_placed u count first kind p left by given (holding.by_test line there takes) is = absurd (cc)

pub round_turned : (c : Facts) (least : ℕ) (want : Wanted) (v : View) (w : World) (first last : ℕ) (p : Spot) (left : ℕ) (by given : ℤ) (rounds : List Round) →
    IsReady c least want None v w → suc first < length c.program.lines → suc last < length c.program.lines → IsOf (length w.store) (PlaceOf Integer) (IsSpot p) →
    AreRounds c.program (length w.store) rounds →
    Happens c least want None v w (turned c v w (record { first = first; last = last; kind = Counted p left by given } ∷ rounds))
unfolding turned
round_turned c least want v w first last p left by given rounds ready room last_room placed are =
    turned_with_happens c least want v w (record { first = first; last = last; kind = Counted p left by given }) rounds p left by (grown w.store p by given)
    ready room last_room placed are (grown_held w.store p by given placed)

pub rounds_turned : (c : Facts) (least : ℕ) (want : Wanted) (v : View) (w : World) (first last : ℕ) (p : Spot) (left : ℕ) (by given : ℤ) (rounds loops : List Round) →
    IsReady c least want None v w → loops ≡ record { first = first; last = last; kind = Counted p left by given } ∷ rounds → AreRounds c.program (length w.store) loops →
    Happens c least want None v w (turned c v w (record { first = first; last = last; kind = Counted p left by given } ∷ rounds))
rounds_turned c least want v w first last p left by given rounds loops ready is holding.no_rounds = absurd (cc)
rounds_turned c least want v w first last p left by given rounds loops ready is (holding.more_rounds one others here are) =
    let round : Round = record { first = first; last = last; kind = Counted p left by given } in
    let same : one ≡ round = cc in
    let behind : others ≡ rounds = cc in
    round_turned c least want v w first last p left by given rounds ready (subst (λ r. suc r.first < length c.program.lines) same here.first_room)
    (subst (λ r. suc r.last < length c.program.lines) same here.last_room)
    (counted_placed c.program (length w.store) one.first one.kind p left by given here.goes_by (ap (λ r. r.kind) same))
    (subst (AreRounds c.program (length w.store)) behind are)

pub turned_happens : (c : Facts) (least : ℕ) (want : Wanted) (v : View) (w : World) → IsReady c least want None v w → (first last : ℕ) (p : Spot) (left : ℕ)
    (by given : ℤ) (rounds : List Round) → v.loops ≡ record { first = first; last = last; kind = Counted p left by given } ∷ rounds →
    Happens c least want None v w (turned c v w v.loops)
turned_happens c least want v w ready first last p left by given rounds is =
    subst (λ loops. Happens c least want None v w (turned c v w loops)) (sym is)
    (rounds_turned c least want v w first last p left by given rounds v.loops ready is ready.holding.rounds)
