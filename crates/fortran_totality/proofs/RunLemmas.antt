-- A run of well-formed units holds to what it must at each step, so it never comes to a form without meaning.
use Rattle.std.specs.Prelude.{◌≡◌, ℕ, zero, suc, ◌+◌, ◌≤◌, Bool, true, false, List, [], ◌∷◌, length, Option, Some, None, IsTrue, slice_get, if◌then◌else◌}
use Rattle.std.proofs.Common.{refl, sym, ap, ◌∙◌, subst, arith}
use Rattle.std.proofs.lemmas.List.{length-set, length-map}
use Rattle.f_tree.specs.simulation.Machine.{Entry, Frame as Active, Has, Runs, Over, numbers, active as active_among, entering, unless_active, opening, calling, answering, act, next, run, begun}
use Rattle.f_tree.specs.run_state.Units.{Units}
use Rattle.f_tree.specs.Values.{Spot, Datum, IsLabel, Act, NoMeaning, DefinesReadOnly, PastExtent, MissingProcedure, ActiveProcedure, Checked, Gives, Fails, given_that}
use Rattle.f_tree.specs.Terms.{Wanted, AsSubroutine}
use Rattle.f_tree.specs.Store.{Store, Sequence, Cell, undefined_units, defined_as, stored_in, has_room, define_in, define}
use Rattle.f_tree.specs.Facts.{Direction, Image, ProgramUnit, Facts}
use Rattle.f_tree.specs.World.{World, View, Called, TheMain, Passed, Ending, fortran_sorts, Happening}
use Rattle.f_tree.specs.Association.{start, resume}
use Rattle.f_tree.specs.Step.{fortran, step}
use Rattle.f_tree.specs.Images.{define_each, imaged, images_from, undefined_store, image_store, all_places_in}
use Rattle.f_tree.specs.Setting.{Setting, IsIn, unit_home}
use Rattle.f_tree.specs.Meaning.{RunState, program, facts_at, found_from, answers_to, world_with, start_world, started, call_of_main, ftn, act_of}
use Rattle.f_tree.specs.WellTyped.{is_named, none_of}
use Rattle.f_tree.specs.WellFormed.{IsWellFormed, AreWellFormed}
use Rattle.f_tree.specs.Holding as holding
use Rattle.f_tree.specs.Holding.{IsHolding, IsActive, IsNext, IsStaged, of_others, IsReply, IsEnding, Happens, IsReady, Begins, Resumes, EachStepIsMeant, EachStartIsMeant, EachAnswerIsMeant, EachRunIsMeant, EachEndingIsMeant, AreWaiting, StateHolds, IsPassed}

-- the unit that is found by a name answers to it
pub record FoundUnit (S : List ProgramUnit) (from : ℕ) (name : Called) (j : ℕ) : Type 0 where
  pub place : ℕ
  pub unit : ProgramUnit
  pub counted : j ≡ from + place
  pub there : slice_get S place ≡ Some unit
  pub answers : IsTrue (answers_to name unit)

found_later : (u : ProgramUnit) (S : List ProgramUnit) (from : ℕ) (name : Called) (j : ℕ) → FoundUnit S (suc from) name j → FoundUnit (u ∷ S) from name j
found_later u S from name j f = record { place = suc f.place; unit = f.unit; counted = f.counted ∙ (let e : suc from + f.place ≡ from + suc f.place = omega arith in e); there = f.there; answers = f.answers }

found_if : (u : ProgramUnit) (S : List ProgramUnit) (from : ℕ) (name : Called) (j : ℕ) (b : Bool) → answers_to name u ≡ b → (if b then Some from else found_from (suc from) S name) ≡ Some j →
    (found_from (suc from) S name ≡ Some j → FoundUnit S (suc from) name j) → FoundUnit (u ∷ S) from name j
found_if u S from name j true is found later = record { place = 0; unit = u; counted = (let e : from ≡ j = cc in sym e ∙ (let z : from ≡ from + 0 = omega arith in z)); there = refl; answers = is }
found_if u S from name j false is found later = found_later u S from name j (later found)

pub found_unit : (S : List ProgramUnit) (from : ℕ) (name : Called) (j : ℕ) → found_from from S name ≡ Some j → FoundUnit S from name j
unfolding found_from
found_unit [] from name j found = absurd (cc)
found_unit (u ∷ S) from name j found = found_if u S from name j (answers_to name u) refl found (found_unit S (suc from) name j)

-- the text of a unit of the set
abbrev pub texts : Setting → List ProgramUnit → ℕ → Facts
texts g S k = facts_at g k (slice_get S k)

-- a text that a name finds is well formed, and answers to the name
pub record IsFound (g : Setting) (S : List ProgramUnit) (name : Called) (j : ℕ) : Type 0 where
  pub formed : IsWellFormed (texts g S j) (length g.sizes)
  pub answers : IsTrue (answers_to name (texts g S j).program)

found_at : (g : Setting) (S : List ProgramUnit) (name : Called) (j : ℕ) (u : ProgramUnit) (o : Option ProgramUnit) → o ≡ Some u → slice_get S j ≡ o → AreWellFormed g S → IsTrue (answers_to name u) → IsFound g S name j
unfolding facts_at
found_at g S name j u o is at formed answers =
    let here : slice_get S j ≡ Some u = at ∙ is in
    record {
      formed = subst (λ o'. IsWellFormed (facts_at g j o') (length g.sizes)) (sym here) (formed.each j u here);
      answers = subst (λ o'. IsTrue (answers_to name (facts_at g j o').program)) (sym here) answers;
    }

pub is_found : (g : Setting) (S : List ProgramUnit) (name : Called) (j : ℕ) → AreWellFormed g S → found_from 0 S name ≡ Some j → IsFound g S name j
is_found g S name j formed found =
    let f : FoundUnit S 0 name j = found_unit S 0 name j found in
    let same : j ≡ f.place = f.counted ∙ (let z : 0 + f.place ≡ f.place = omega arith in z) in
    let here : slice_get S j ≡ Some f.unit = ap (slice_get S) same ∙ f.there in
    found_at g S name j f.unit (Some f.unit) refl here formed f.answers

-- a reply that one knows of is a reply that another does
reply_for : (one other : ℕ → Type 0) (want : Wanted) (d : Datum) → ((label : ℕ) → one label → other label) → IsReply one want d → IsReply other want d
reply_for one other want d knows holding.no_reply = holding.no_reply
reply_for one other want d knows (holding.a_label label is) = holding.a_label label (knows label is)
reply_for one other want d knows (holding.a_value basic width _ is) = holding.a_value basic width d is

-- what a whole run holds to
abbrev pub Holds : Setting → List ProgramUnit → RunState → Type 0
Holds g S x = StateHolds (texts g S) (length g.sizes) x

-- the waiting procedure goes on with an answer, or an act that is named stands in its way
answer_entered : (g : Setting) (S : List ProgramUnit) (j : ℕ) (v : View) (below : List (Active fortran_sorts)) (want : Wanted) (stage : Option Direction) (count : ℕ)
    (others : List Datum) (w : World) (entry : Entry fortran_sorts) (from : List ℕ) →
    IsWellFormed (texts g S j) (length g.sizes) → IsStaged (texts g S j).program count stage w.transfer →
    ((label : ℕ) → IsIn label v.frame.alternates → IsIn (IsLabel label) others) →
    AreWaiting (texts g S) (length g.sizes) want others v.frame.base (of_others stage w.transfer) below →
    Resumes (texts g S j) (length g.sizes) want count stage v w entry → Holds g S (entering entry from j below)
unfolding entering
answer_entered g S j v below want stage count others w entry from formed staged knows waiting (holding.it_is_refused reason named) = holding.it_is_broken reason from named
answer_entered g S j v below want stage count others w entry from formed staged knows waiting (holding.it_resumes v' w' frame height transfer active) =
    holding.it_runs j v' below w' want stage others
    (record {
      formed = formed;
      holding = subst (λ n. IsHolding (texts g S j) (length g.sizes) want n v') (sym height) active.holding;
      staged = subst (λ t. IsStaged (texts g S j).program (length w'.store) stage t) (sym transfer) (subst (λ n. IsStaged (texts g S j).program n stage w.transfer) (sym height) staged);
    })
    (subst (λ n. IsNext (texts g S j) n v' stage v'.now) (sym height) active.next)
    (λ label is. knows label (subst (λ f. IsIn label f.alternates) frame is))
    (subst (λ f. AreWaiting (texts g S) (length g.sizes) want others f.base (of_others stage w'.transfer) below) (sym frame)
    (subst (λ t. AreWaiting (texts g S) (length g.sizes) want others v.frame.base (of_others stage t) below) (sym transfer) waiting))

-- an answer goes to the procedure that waits, or ends the run
answered : (g : Setting) (S : List ProgramUnit) → EachAnswerIsMeant → (k : ℕ) (want : Wanted) (actuals : List Datum) (base : ℕ) (below : List (Active fortran_sorts)) (w : World) (d : Datum) (labels : ℕ → Type 0) →
    base ≤ length w.store → ((label : ℕ) → labels label → IsIn (IsLabel label) actuals) → IsReply labels want d →
    AreWaiting (texts g S) (length g.sizes) want actuals base w.transfer below → Holds g S (answering fortran (program g S) k below w d)
unfolding answering program
answered g S each k want actuals base [] w d labels high knows reply waiting = holding.it_is_over _ [] w holding.plainly
answered g S each k want actuals base (Has j v ∷ below) w d labels high knows reply (holding.one_waits _ _ _ wanted _ stage count _ _ others _ formed held waits upto staged known waiting) =
    answer_entered g S j v below wanted stage count others w (resume (texts g S j) v d w) (k ∷ j ∷ numbers below) formed staged known waiting
    (each (texts g S j) (length g.sizes) wanted want count stage actuals v d w formed held waits (omega arith) (reply_for labels (λ label. IsIn (IsLabel label) actuals) want d knows reply))

-- a procedure that is called begins, unless it is active, over those that wait
begun_unless : (g : Setting) (S : List ProgramUnit) (b : Bool) (j : ℕ) (v : View) (w : World) (below : List (Active fortran_sorts)) →
    Holds g S (Runs j v below w) → Holds g S (unless_active b ActiveProcedure v w j below)
unfolding unless_active is_named
begun_unless g S true j v w below holds = holding.it_is_broken ActiveProcedure (numbers below) refl
begun_unless g S false j v w below holds = holds

opened : (g : Setting) (S : List ProgramUnit) (j : ℕ) (passed : Passed) (w : World) (below : List (Active fortran_sorts)) (entry : Entry fortran_sorts) →
    IsWellFormed (texts g S j) (length g.sizes) → ((base : ℕ) → base ≡ length w.store → AreWaiting (texts g S) (length g.sizes) passed.want passed.actuals base w.transfer below) →
    Begins (texts g S j) (length g.sizes) passed w entry → Holds g S (opening fortran entry j below)
unfolding opening of_others
opened g S j passed w below entry formed waiting (holding.it_refuses reason named) = holding.it_is_broken reason (numbers below) named
opened g S j passed w below entry formed waiting (holding.it_enters v w' more transfer base active knows) =
    begun_unless g S (active_among j below) j v w' below
    (holding.it_runs j v below w' passed.want None passed.actuals
    (record { formed = formed; holding = active.holding; staged = holding.not_in_one w'.transfer })
    active.next knows
    (subst (λ t. AreWaiting (texts g S) (length g.sizes) passed.want passed.actuals v.frame.base t below) (sym transfer) (waiting v.frame.base base)))

called : (g : Setting) (S : List ProgramUnit) → AreWellFormed g S → EachStartIsMeant → (name : Called) (passed : Passed) (w : World) (below : List (Active fortran_sorts)) (o : Option ℕ) → found_from 0 S name ≡ o →
    length g.sizes ≤ length w.store → IsPassed (length w.store) passed →
    ((base : ℕ) → base ≡ length w.store → AreWaiting (texts g S) (length g.sizes) passed.want passed.actuals base w.transfer below) →
    Holds g S (calling fortran (program g S) o name passed w below)
unfolding calling program is_named
called g S formed each name passed w below None found high is waiting = holding.it_is_broken MissingProcedure (numbers below) refl
called g S formed each name passed w below (Some j) found high is waiting =
    let it : IsFound g S name j = is_found g S name j formed found in
    opened g S j passed w below (start (texts g S j) name passed w) it.formed waiting (each (texts g S j) (length g.sizes) name passed w it.formed it.answers high is)

-- what one event makes of the run
acted : (g : Setting) (S : List ProgramUnit) → AreWellFormed g S → EachStartIsMeant → EachAnswerIsMeant → (k : ℕ) (v : View) (below : List (Active fortran_sorts)) (w : World) (want : Wanted) (stage : Option Direction)
    (actuals : List Datum) (happening : Happening) → IsReady (texts g S k) (length g.sizes) want stage v w → ((label : ℕ) → IsIn label v.frame.alternates → IsIn (IsLabel label) actuals) →
    AreWaiting (texts g S) (length g.sizes) want actuals v.frame.base (of_others stage w.transfer) below →
    Happens (texts g S k) (length g.sizes) want stage v w happening → Holds g S (act fortran (program g S) happening k below)
unfolding act program of_others
acted g S formed starts answers k v below w want stage actuals happening ready knows waiting (holding.it_goes later v' w' frame height active staged others) =
    holding.it_runs k v' below w' want later actuals
    (record {
      formed = ready.formed;
      holding = subst (λ n. IsHolding (texts g S k) (length g.sizes) want n v') (sym height) active.holding;
      staged = subst (λ n. IsStaged (texts g S k).program n later w'.transfer) (sym height) staged;
    })
    (subst (λ n. IsNext (texts g S k) n v' later v'.now) (sym height) active.next)
    (λ label is. knows label (subst (λ f. IsIn label f.alternates) frame is))
    (subst (λ t. AreWaiting (texts g S) (length g.sizes) want actuals v'.frame.base t below) (sym others)
    (subst (λ f. AreWaiting (texts g S) (length g.sizes) want actuals f.base (of_others stage w.transfer) below) (sym frame) waiting))
acted g S formed starts answers k v below w want stage actuals happening ready knows waiting (holding.it_ends e v' w' ends) =
    holding.it_is_over e (Has k v' ∷ below) w' ends
acted g S formed starts answers k v below w want stage actuals happening ready knows waiting (holding.it_breaks reason named) = holding.it_is_broken reason (k ∷ numbers below) named
acted g S formed starts answers k v below w want stage actuals happening ready knows waiting (holding.it_answers w' d outside high transfer reply) =
    answered g S answers k want actuals v.frame.base below w' d (λ label. IsIn label v.frame.alternates) high knows reply
    (subst (λ t. AreWaiting (texts g S) (length g.sizes) want actuals v.frame.base t below) (sym transfer)
    (subst (λ o. AreWaiting (texts g S) (length g.sizes) want actuals v.frame.base (of_others o w.transfer) below) outside waiting))
acted g S formed starts answers k v below w want stage actuals happening ready knows waiting (holding.it_calls v' w' name passed frame higher transfer held waits is) =
    called g S formed starts name passed w' (Has k v' ∷ below) (found_from 0 S name) refl (omega arith) is
    (λ base at. holding.one_waits k v' below want passed.want stage (length w.store) base passed.actuals actuals w'.transfer ready.formed held waits (omega arith)
    (subst (λ t. IsStaged (texts g S k).program (length w.store) stage t) (sym transfer) ready.staged)
    (λ label in_frame. knows label (subst (λ f. IsIn label f.alternates) frame in_frame))
    (subst (λ t. AreWaiting (texts g S) (length g.sizes) want actuals v'.frame.base (of_others stage t) below) (sym transfer)
    (subst (λ f. AreWaiting (texts g S) (length g.sizes) want actuals f.base (of_others stage w.transfer) below) (sym frame) waiting)))

-- one step of the run, and all of them
pub next_holds : (g : Setting) (S : List ProgramUnit) → AreWellFormed g S → EachStepIsMeant → EachStartIsMeant → EachAnswerIsMeant → (x : RunState) → Holds g S x → Holds g S (next fortran (program g S) x)
unfolding next program
next_holds g S formed steps starts answers x (holding.it_is_over e frames w ends) = holding.it_is_over e frames w ends
next_holds g S formed steps starts answers x (holding.it_is_broken reason ks named) = holding.it_is_broken reason ks named
next_holds g S formed steps starts answers x (holding.it_runs k v below w want stage actuals ready is_next knows waiting) =
    acted g S formed starts answers k v below w want stage actuals (step (texts g S k) v w) ready knows waiting
    (steps (texts g S k) (length g.sizes) want stage v w ready is_next)

pub run_holds : (g : Setting) (S : List ProgramUnit) → AreWellFormed g S → EachStepIsMeant → EachStartIsMeant → EachAnswerIsMeant → (n : ℕ) (x : RunState) → Holds g S x → Holds g S (run fortran (program g S) n x)
unfolding run
run_holds g S formed steps starts answers zero x holds = holds
run_holds g S formed steps starts answers (suc n) x holds =
    next_holds g S formed steps starts answers (run fortran (program g S) n x) (run_holds g S formed steps starts answers n x holds)

-- storage keeps its sequences while DATA statements define it
unfoldable pub Keeps : ℕ → Checked Store → Type 0
Keeps n (Gives s) = length s ≡ n
Keeps n (Fails reason) = Unit {0}

keeps_if : (n : ℕ) (b : Bool) (one other : Checked Store) → Keeps n one → Keeps n other → Keeps n (if b then one else other)
keeps_if n true one other first second = first
keeps_if n false one other first second = second

keeps_stored : (s : Store) (k : ℕ) (r : Checked (List Cell)) → Keeps (length s) (stored_in s k r)
unfolding stored_in Keeps
keeps_stored s k (Gives cells) = length-set s k (record { cells = cells; read_only = false })
keeps_stored s k (Fails reason) = tt

keeps_defined_in : (s : Store) (p : Spot) (d : Datum) (o : Option Sequence) → Keeps (length s) (define_in s p d o)
unfolding define_in Keeps
keeps_defined_in s p d None = tt
keeps_defined_in s p d (Some q) =
    keeps_if (length s) q.read_only (Fails DefinesReadOnly) (if has_room p q.cells then stored_in s p.sequence (defined_as p.basic p d q.cells) else Fails PastExtent) tt
    (keeps_if (length s) (has_room p q.cells) (stored_in s p.sequence (defined_as p.basic p d q.cells)) (Fails PastExtent)
    (keeps_stored s p.sequence (defined_as p.basic p d q.cells)) tt)

keeps_defined : (s : Store) (p : Spot) (d : Datum) → Keeps (length s) (define s p d)
unfolding define
keeps_defined s p d = keeps_defined_in s p d (slice_get s p.sequence)

keeps_given : (n : ℕ) (r : Checked Store) (go : Store → Checked Store) → Keeps n r → ((s : Store) → length s ≡ n → Keeps n (go s)) → Keeps n (given_that r go)
unfolding given_that Keeps
keeps_given n (Gives s) go keeps next = next s keeps
keeps_given n (Fails reason) go keeps next = tt

keeps_each : (s : Store) (n : ℕ) → length s ≡ n → (ps : List Spot) (ds : List Datum) → Keeps n (define_each s ps ds)
unfolding define_each Keeps
keeps_each s n height [] [] = height
keeps_each s n height [] (d ∷ ds) = tt
keeps_each s n height (p ∷ ps) [] = tt
keeps_each s n height (p ∷ ps) (d ∷ ds) =
    keeps_given n (define s p d) (λ after. define_each after ps ds) (subst (λ k. Keeps k (define s p d)) height (keeps_defined s p d)) (λ after same. keeps_each after n same ps ds)

keeps_placed : (n : ℕ) (s : Store) → length s ≡ n → (r : Checked (List Spot)) (ds : List Datum) → Keeps n (given_that r (λ ps. define_each s ps ds))
unfolding given_that Keeps
keeps_placed n s height (Gives ps) ds = keeps_each s n height ps ds
keeps_placed n s height (Fails reason) ds = tt

keeps_imaged : (c : Facts) (n : ℕ) (r : Checked Store) → Keeps n r → (is : List Image) → Keeps n (imaged c r is)
unfolding imaged
keeps_imaged c n r keeps [] = keeps
keeps_imaged c n r keeps (i ∷ is) =
    keeps_imaged c n (given_that r (λ before. given_that (all_places_in c [] i.places) (λ ps. define_each before ps i.values)))
    (keeps_given n r (λ before. given_that (all_places_in c [] i.places) (λ ps. define_each before ps i.values)) keeps (λ s height. keeps_placed n s height (all_places_in c [] i.places) i.values)) is

keeps_images : (g : Setting) (n k : ℕ) (r : Checked Store) → Keeps n r → (us : List ProgramUnit) → Keeps n (images_from g k r us)
unfolding images_from
keeps_images g n k r keeps [] = keeps
keeps_images g n k r keeps (u ∷ us) = keeps_images g n (suc k) (imaged (record { program = u; home = unit_home g k u }) r u.images) (keeps_imaged (record { program = u; home = unit_home g k u }) n r keeps u.images) us

undefined_height : (g : Setting) → length (undefined_store g) ≡ length g.sizes
unfolding undefined_store
undefined_height g = length-map g.sizes undefined_units

given_keeps : (n : ℕ) (s : Store) → length s ≡ n → Keeps n (Gives s)
unfolding Keeps
given_keeps n s height = height

-- what is shared when the run begins
world_begins : (g : Setting) (units : Units) (r : Checked Store) → Keeps (length g.sizes) r → (length (world_with g units r).store ≡ length g.sizes) × ((world_with g units r).transfer ≡ None)
unfolding world_with Keeps
world_begins g units (Gives s) keeps = (keeps, refl)
world_begins g units (Fails reason) keeps = (undefined_height g, refl)

start_begins : (g : Setting) (S : List ProgramUnit) (units : Units) → (length (start_world g S units).store ≡ length g.sizes) × ((start_world g S units).transfer ≡ None)
unfolding start_world image_store
start_begins g S units =
    world_begins g units (images_from g 0 (Gives (undefined_store g)) S) (keeps_images g (length g.sizes) 0 (Gives (undefined_store g)) (given_keeps (length g.sizes) (undefined_store g) (undefined_height g)) S)

-- the run begins
started_holds : (g : Setting) (S : List ProgramUnit) (units : Units) → AreWellFormed g S → EachStartIsMeant → Holds g S (started g S units)
unfolding started begun program call_of_main
started_holds g S units formed starts =
    let begins : (length (start_world g S units).store ≡ length g.sizes) × ((start_world g S units).transfer ≡ None) = start_begins g S units in
    called g S formed starts TheMain call_of_main (start_world g S units) [] (found_from 0 S TheMain) refl (subst (λ n. length g.sizes ≤ n) (sym begins.0) (omega arith))
    (record { sorts = []; operands = none_of; place = holding.for_subroutine })
    (λ base at. subst (λ t. AreWaiting (texts g S) (length g.sizes) AsSubroutine [] base t []) (sym begins.1) (holding.none_waits [] base))

some_injective : {A : Type 0} {a b : A} → Some a ≡ Some b → a ≡ b
some_injective e = cc

not_false : IsTrue false → ⊥
not_false e = absurd (cc)

named_is_other : (reason : Act) → IsTrue (is_named reason) → reason ≡ NoMeaning → ⊥
unfolding is_named
named_is_other reason named is = not_false (subst (λ r. IsTrue (is_named r)) is named)

-- a run that holds to it has met no form without meaning
never_without : (g : Setting) (S : List ProgramUnit) (x : RunState) → Holds g S x → act_of x ≡ Some NoMeaning → ⊥
unfolding act_of is_named
never_without g S x (holding.it_runs k v below w want stage actuals ready is_next knows waiting) meets = absurd (cc)
never_without g S x (holding.it_is_over e frames w ends) meets = absurd (cc)
never_without g S x (holding.it_is_broken reason ks named) meets = named_is_other reason named (some_injective meets)

pub each_run : EachStepIsMeant → EachStartIsMeant → EachAnswerIsMeant → EachRunIsMeant
unfolding ftn
each_run steps starts answers g S units n formed meets =
    never_without g S (ftn g S units n) (run_holds g S formed steps starts answers n (started g S units) (started_holds g S units formed starts)) meets

-- a run that holds to it and is over has ended so
over_so : (g : Setting) (S : List ProgramUnit) (x : RunState) (e : Ending) (frames : List (Active fortran_sorts)) (w : World) → Holds g S x → x ≡ Over e frames w → IsEnding e
over_so g S x e frames w (holding.it_runs k v below w' want stage actuals ready is_next knows waiting) is = absurd (cc)
over_so g S x e frames w (holding.it_is_over other more after ends) is = let same : other ≡ e = cc in subst IsEnding same ends
over_so g S x e frames w (holding.it_is_broken reason ks named) is = absurd (cc)

pub each_ending : EachStepIsMeant → EachStartIsMeant → EachAnswerIsMeant → EachEndingIsMeant
unfolding ftn
each_ending steps starts answers g S units n e frames w formed is =
    over_so g S (ftn g S units n) e frames w (run_holds g S formed steps starts answers n (started g S units) (started_holds g S units formed starts)) is
