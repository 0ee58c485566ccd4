-- Tests by which the image of a computed state is shown: what passes them stands.
use Rattle.std.specs.Prelude.{◌≡◌, ℕ, zero, suc, ◌+◌, nat_eq, Bool, true, false, ◌&&◌, List, [], ◌∷◌, Option, Some, None, slice_get, if◌then◌else◌}
use Rattle.std.proofs.Common.{refl, sym, ap, ◌∙◌, subst, arith}
use Rattle.std.proofs.lemmas.Bool.{eqb-true}
use Rattle.faithful.specs.simulation.Machine as machine
use Rattle.faithful.specs.f_tree.declared.names.Basic.{Basic}
use Rattle.faithful.specs.f_tree.declared.names.Basic.TheVariants.{Integer, Logical, Character, Untyped}
use Rattle.faithful.specs.f_tree.CNames.{variable_name, made_name, LengthOf}
use Rattle.faithful.specs.f_tree.Values.{Datum}
use Rattle.faithful.specs.f_tree.Store.{Store, Sequence, Cell}
use Rattle.faithful.specs.f_tree.Facts.{Home, Member, ProgramUnit, Frame}
use Rattle.faithful.specs.f_tree.Setting.{Setting, HasUnit, IsIn, first_in, later_in, unit_home}
use Rattle.faithful.specs.f_tree.World as fortran
use Rattle.faithful.specs.c_tree.World as c
use Rattle.faithful.specs.c_tree.declared.file.CFile.{CFile}
use Rattle.faithful.specs.c_tree.Objects.{Object}
use Rattle.faithful.specs.StorageImage.{Homes, byte_for, byte_of_object, cell_of, block_of, object_for, takes_part, StandsInItsObject, NamesStand, UnitsStand}
use Rattle.faithful.specs.FrameImage.{Each, StandsFor, HasLength, HasNumber, DummyStands, FrameStands, frame_object}
use Rattle.faithful.specs.SameTransfer.{SameTransfer}
use Rattle.faithful.specs.SameState.{SameWorld}

both_true : (a b : Bool) → (a && b) ≡ true → (a ≡ true) × (b ≡ true)
both_true true b h = (refl, h)
both_true false b h = absurd (cc)

-- ## Units

abbrev follows : Option ℕ → Option ℕ → Bool
follows None found = true
follows (Some byte) None = false
follows (Some byte) (Some found) = nat_eq byte found

follows_sound : (wanted found : Option ℕ) (byte : ℕ) → follows wanted found ≡ true → wanted ≡ Some byte → found ≡ Some byte
follows_sound None found byte passes is = absurd (cc)
follows_sound (Some x) None byte passes is = absurd (cc)
follows_sound (Some x) (Some y) byte passes is = sym (ap Some (eqb-true x y passes)) ∙ is

abbrev cells_stand : Option Object → ℕ → List Cell → Bool
cells_stand object place [] = true
cells_stand object place (cell ∷ later) = follows (byte_for cell) (byte_of_object object place) && cells_stand object (suc place) later

cells_sound : (object : Option Object) (from : ℕ) (cells : List Cell) → cells_stand object from cells ≡ true → (place byte : ℕ) (cell : Cell) →
    slice_get cells place ≡ Some cell → byte_for cell ≡ Some byte → byte_of_object object (from + place) ≡ Some byte
cells_sound object from [] passes place byte cell at is = absurd (cc)
cells_sound object from (one ∷ later) passes zero byte cell at is =
    let same : one ≡ cell = cc in
    let here : from ≡ from + 0 = omega arith in
    subst (λ p. byte_of_object object p ≡ Some byte) here
    (follows_sound (byte_for one) (byte_of_object object from) byte (both_true (follows (byte_for one) (byte_of_object object from)) (cells_stand object (suc from) later) passes).0 (ap byte_for same ∙ is))
cells_sound object from (one ∷ later) passes (suc place) byte cell at is =
    let there : suc from + place ≡ from + suc place = omega arith in
    subst (λ p. byte_of_object object p ≡ Some byte) there
    (cells_sound object (suc from) later (both_true (follows (byte_for one) (byte_of_object object from)) (cells_stand object (suc from) later) passes).1 place byte cell at is)

abbrev sequence_stands : List Object → Option ℕ → Sequence → Bool
sequence_stands objects None sequence = true
sequence_stands objects (Some number) sequence = cells_stand (slice_get objects number) 0 sequence.cells

abbrev pub store_stands : List Object → Homes → ℕ → Store → Bool
store_stands objects homes n [] = true
store_stands objects homes n (sequence ∷ later) = sequence_stands objects (homes n) sequence && store_stands objects homes (suc n) later

sequence_sound : (objects : List Object) (home : Option ℕ) (sequence : Sequence) → sequence_stands objects home sequence ≡ true → (number place byte : ℕ) (cell : Cell) →
    home ≡ Some number → slice_get sequence.cells place ≡ Some cell → byte_for cell ≡ Some byte → byte_of_object (slice_get objects number) place ≡ Some byte
sequence_sound objects None sequence passes number place byte cell home at is = absurd (cc)
sequence_sound objects (Some here) sequence passes number place byte cell home at is =
    let same : here ≡ number = cc in
    let place_is : 0 + place ≡ place = omega arith in
    subst (λ n. byte_of_object (slice_get objects n) place ≡ Some byte) same
    (subst (λ p. byte_of_object (slice_get objects here) p ≡ Some byte) place_is (cells_sound (slice_get objects here) 0 sequence.cells passes place byte cell at is))

store_sound : (objects : List Object) (homes : Homes) (from : ℕ) (store : Store) → store_stands objects homes from store ≡ true → (n number place byte : ℕ) (cell : Cell) →
    homes (from + n) ≡ Some number → cell_of (slice_get store n) place ≡ Some cell → byte_for cell ≡ Some byte → byte_of_object (slice_get objects number) place ≡ Some byte
store_sound objects homes from [] passes n number place byte cell home at is = absurd (cc)
store_sound objects homes from (one ∷ later) passes zero number place byte cell home at is =
    let here : from + 0 ≡ from = omega arith in
    sequence_sound objects (homes from) one (both_true (sequence_stands objects (homes from) one) (store_stands objects homes (suc from) later) passes).0
    number place byte cell (sym (ap homes here) ∙ home) at is
store_sound objects homes from (one ∷ later) passes (suc n) number place byte cell home at is =
    let there : suc from + n ≡ from + suc n = omega arith in
    store_sound objects homes (suc from) later (both_true (sequence_stands objects (homes from) one) (store_stands objects homes (suc from) later) passes).1
    n number place byte cell (ap homes there ∙ home) at is

units_stand : (store : Store) (objects : List Object) (homes : Homes) → store_stands objects homes 0 store ≡ true → UnitsStand store objects homes
units_stand store objects homes passes = λ n number place byte cell home at is.
    let here : 0 + n ≡ n = omega arith in
    store_sound objects homes 0 store passes n number place byte cell (ap homes here ∙ home) at is

-- ## Names

abbrev same_number : Option ℕ → Option ℕ → Bool
same_number (Some a) (Some b) = nat_eq a b
same_number _ _ = false

same_sound : (one other : Option ℕ) → same_number one other ≡ true → (number : ℕ) × (one ≡ Some number) × (other ≡ Some number)
same_sound (Some a) (Some b) passes = (a, refl, sym (ap Some (eqb-true a b passes)))
same_sound (Some a) None passes = absurd (cc)
same_sound None other passes = absurd (cc)

abbrev name_by : List ProgramUnit → Setting → List CFile → Homes → ℕ → ProgramUnit → List ℕ → Option Home → Bool
name_by units setting texts homes k unit name None = false
name_by units setting texts homes k unit name (Some home) =
    if takes_part unit.kind (block_of units setting home.sequence) then same_number (object_for units setting texts k unit name home) (homes home.sequence) else true

name_sound : (units : List ProgramUnit) (setting : Setting) (texts : List CFile) (homes : Homes) (k : ℕ) (unit : ProgramUnit) (name : List ℕ) (home : Option Home) →
    unit_home setting k unit name ≡ home → name_by units setting texts homes k unit name home ≡ true → StandsInItsObject units setting texts homes k unit name
name_sound units setting texts homes k unit name None is passes = absurd (cc)
name_sound units setting texts homes k unit name (Some home) is passes = record {
  home = home;
  is = is;
  object = λ part. same_sound (object_for units setting texts k unit name home) (homes home.sequence)
      (sym (ap (λ t. if t then same_number (object_for units setting texts k unit name home) (homes home.sequence) else true) part) ∙ passes);
}

abbrev members_stand : List ProgramUnit → Setting → List CFile → Homes → ℕ → ProgramUnit → List Member → Bool
members_stand units setting texts homes k unit [] = true
members_stand units setting texts homes k unit (m ∷ ms) =
    name_by units setting texts homes k unit m.name (unit_home setting k unit m.name) && members_stand units setting texts homes k unit ms

members_sound : (units : List ProgramUnit) (setting : Setting) (texts : List CFile) (homes : Homes) (k : ℕ) (unit : ProgramUnit) (ms : List Member) →
    members_stand units setting texts homes k unit ms ≡ true → (m : Member) → IsIn m ms → StandsInItsObject units setting texts homes k unit m.name
members_sound units setting texts homes k unit [] passes m is = elim is [ ]
members_sound units setting texts homes k unit (one ∷ ms) passes m first_in =
    name_sound units setting texts homes k unit one.name (unit_home setting k unit one.name) refl
    (both_true (name_by units setting texts homes k unit one.name (unit_home setting k unit one.name)) (members_stand units setting texts homes k unit ms) passes).0
members_sound units setting texts homes k unit (one ∷ ms) passes m (later_in is) =
    members_sound units setting texts homes k unit ms
    (both_true (name_by units setting texts homes k unit one.name (unit_home setting k unit one.name)) (members_stand units setting texts homes k unit ms) passes).1 m is

abbrev pub names_pass : List ProgramUnit → Setting → List CFile → Homes → ℕ → List ProgramUnit → Bool
names_pass units setting texts homes k [] = true
names_pass units setting texts homes k (unit ∷ later) = members_stand units setting texts homes k unit unit.stored && names_pass units setting texts homes (suc k) later

names_sound : (units : List ProgramUnit) (setting : Setting) (texts : List CFile) (homes : Homes) (from : ℕ) (us : List ProgramUnit) → names_pass units setting texts homes from us ≡ true →
    (k : ℕ) (unit : ProgramUnit) (m : Member) → HasUnit us k unit → IsIn m unit.stored → StandsInItsObject units setting texts homes (from + k) unit m.name
names_sound units setting texts homes from [] passes k unit m has is = absurd (cc)
names_sound units setting texts homes from (one ∷ later) passes zero unit m has is =
    let same : one ≡ unit = cc in
    let here : from ≡ from + 0 = omega arith in
    subst (λ k. StandsInItsObject units setting texts homes k unit m.name) here
    (subst (λ (u : ProgramUnit). IsIn m u.stored → StandsInItsObject units setting texts homes from u m.name) same
    (members_sound units setting texts homes from one one.stored
    (both_true (members_stand units setting texts homes from one one.stored) (names_pass units setting texts homes (suc from) later) passes).0 m) is)
names_sound units setting texts homes from (one ∷ later) passes (suc k) unit m has is =
    let there : suc from + k ≡ from + suc k = omega arith in
    subst (λ k. StandsInItsObject units setting texts homes k unit m.name) there
    (names_sound units setting texts homes (suc from) later
    (both_true (members_stand units setting texts homes from one one.stored) (names_pass units setting texts homes (suc from) later) passes).1 k unit m has is)

names_stand : (units : List ProgramUnit) (setting : Setting) (texts : List CFile) (homes : Homes) → names_pass units setting texts homes 0 units ≡ true →
    NamesStand units setting texts homes
names_stand units setting texts homes passes = λ k unit m has is.
    let here : 0 + k ≡ k = omega arith in
    subst (λ k. StandsInItsObject units setting texts homes k unit m.name) here (names_sound units setting texts homes 0 units passes k unit m has is)

-- ## Worlds

-- two worlds are the same where the tests pass
pub world_by : (units : List ProgramUnit) (setting : Setting) (texts : List CFile) (homes : Homes) (procedures : List (machine.Frame fortran.fortran_sorts)) (w : fortran.World) (z : c.World) →
    w.units ≡ z.units → SameTransfer homes w.transfer z.transfer → names_pass units setting texts homes 0 units ≡ true → store_stands z.objects homes 0 w.store ≡ true →
    Each (FrameStands units texts homes z.objects) procedures → SameWorld units setting texts procedures w z
world_by units setting texts homes procedures w z same transfers names stored active = record {
  homes = homes;
  same_units = same;
  transfers = transfers;
  image = record { names = names_stand units setting texts homes names; stored = units_stand w.store z.objects homes stored; active = active };
}

-- ## Dummies

-- a parameter that stands for a value is that of what is bound to it
stands_of : (texts : List CFile) (homes : Homes) (objects : List Object) (function : ℕ) (bound : Option Datum) (name parameter : List ℕ) (datum : Datum) →
    bound ≡ Some datum → name ≡ parameter → StandsFor texts homes objects (frame_object texts function parameter) datum → (other : Datum) → bound ≡ Some other →
    StandsFor texts homes objects (frame_object texts function name) other
stands_of texts homes objects function bound name parameter datum given named stands other is =
    let found : Some datum ≡ Some other = sym given ∙ is in
    let same : datum ≡ other = cc in
    subst (λ n. StandsFor texts homes objects (frame_object texts function n) other) (sym named)
    (subst (StandsFor texts homes objects (frame_object texts function parameter)) same stands)

abbrev pub is_text : Basic → Bool
is_text Character = true
is_text _ = false

no_text_is_text : (basic : Basic) → is_text basic ≡ false → basic ≡ Character → ⊥
no_text_is_text Character plain is = absurd (cc)
no_text_is_text Integer plain is = absurd (cc)
no_text_is_text Logical plain is = absurd (cc)
no_text_is_text Untyped plain is = absurd (cc)

-- a dummy that is no text has no length
pub plain_dummy : (texts : List CFile) (homes : Homes) (objects : List Object) (function : ℕ) (unit : ProgramUnit) (frame : Frame) (x parameter : List ℕ) (datum : Datum) →
    frame.bound x ≡ Some datum → variable_name x ≡ parameter → StandsFor texts homes objects (frame_object texts function parameter) datum →
    is_text (unit.attribute x).basic ≡ false → DummyStands texts homes objects function unit frame x
unfolding HasLength
plain_dummy texts homes objects function unit frame x parameter datum bound named stands plain = record {
  parameter = stands_of texts homes objects function (frame.bound x) (variable_name x) parameter datum bound named stands;
  length = λ text n is. absurd (no_text_is_text (unit.attribute x).basic plain text.1);
}

-- a text comes with its length
pub text_dummy : (texts : List CFile) (homes : Homes) (objects : List Object) (function : ℕ) (unit : ProgramUnit) (frame : Frame) (x parameter : List ℕ) (datum : Datum) (size : ℕ) →
    frame.bound x ≡ Some datum → variable_name x ≡ parameter → StandsFor texts homes objects (frame_object texts function parameter) datum →
    frame.lengths x ≡ Some size → HasNumber objects (frame_object texts function (made_name (LengthOf (variable_name x)))) size → DummyStands texts homes objects function unit frame x
text_dummy texts homes objects function unit frame x parameter datum size bound named stands sized there = record {
  parameter = stands_of texts homes objects function (frame.bound x) (variable_name x) parameter datum bound named stands;
  length = λ text n is.
      let found : Some size ≡ Some n = sym sized ∙ is in
      let same : size ≡ n = cc in
      subst (HasNumber objects (frame_object texts function (made_name (LengthOf (variable_name x))))) same there;
}
