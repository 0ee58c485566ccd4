-- Two states that are the same have each bullet in common.
use Rattle.std.specs.Prelude.{◌≡◌, ℕ, zero, suc, ◌<◌, ℤ, Bool, true, false, List, [], ◌∷◌, map, length, get_or, Option, Some, None, option_map, option_and_then, bytes_eq, slice_get}
use Rattle.std.proofs.Common.{refl, sym, ap, ◌∙◌, subst, arith}
use Rattle.std.proofs.lemmas.List.Quantifiers.{position-Some}
use Rattle.std.proofs.lemmas.Slice.Eq.{bytes_eq-Decides}
use Rattle.faithful.specs.simulation.Machine.{Frame, Has, numbers}
use Rattle.faithful.specs.edit_meaning.Formats.{Format}
use Rattle.faithful.specs.edit_meaning.EditedRecords as edited
use Rattle.faithful.specs.f_tree.declared.names.Basic.{Basic}
use Rattle.faithful.specs.f_tree.declared.names.Basic.TheVariants.{Integer, Logical, Character, Untyped}
use Rattle.faithful.specs.f_tree.Values.{IsSpot, IsProc, Spot}
use Rattle.faithful.specs.f_tree.Store.{Store}
use Rattle.faithful.specs.f_tree.Facts.{Home, Member, Direction, Input, Output, Layout, Listed, Labelled, Computed, Unformatted, Named, ProgramUnit}
use Rattle.faithful.specs.f_tree.Setting.{Setting, HasUnit, IsIn, first_in, later_in, unit_home}
use Rattle.faithful.specs.f_tree.CNames.{external_name, variable_name, made_name, FunctionResult, ResultLength}
use Rattle.faithful.specs.f_tree.Records.{record_count}
use Rattle.faithful.specs.f_tree.Transfers.{sheet_of, made_by, made_of}
use Rattle.faithful.specs.f_tree.World as fortran
use Rattle.faithful.specs.c_tree.declared.file.CFile.{CFile}
use Rattle.faithful.specs.c_tree.declared.file.CFunction.{CFunction}
use Rattle.faithful.specs.c_tree.Objects.{Object}
use Rattle.faithful.specs.c_tree.Linking as linking
use Rattle.faithful.specs.c_tree.TransferOutput as output
use Rattle.faithful.specs.c_tree.World as c
use Rattle.faithful.specs.c_tree.Meaning.{outcome}
use Rattle.faithful.specs.StorageImage.{Homes, block_of, object_for, takes_part, number_named, function_number, function_name, UnitsStand}
use Rattle.faithful.specs.FrameImage.{Each, none, more, StandsFor, DummyStands, FormalStands, ResultStandsAs, ResultStands, ProcedureStands, FrameStands, Image, HasNumber, frame_object}
use Rattle.faithful.specs.SameTransfer as transfer
use Rattle.faithful.specs.SameTransfer.{SameLayout, SameMedium, SameFile, SameProgress, Agree, SameTransfer}
use Rattle.faithful.specs.SameState.{running, ended, function_of, without_wrappers}
use Rattle.faithful_rows.specs.Bullets.{OutcomesAreEqual, UnitsAreEqual, FunctionsAreThoseOfProcedures, is_output, is_output_in_c, is_listed, is_listed_in_c, SameKind, SameTransfers, TransfersMatch, TransfersAgree, ValuesAreRead, NamesAreRead, PointsToPlace, ProcedureIsRead, ProceduresAreRead}
use Rattle.faithful_rows.proofs.ValueProofs.{values_are_read}

-- ## How they stand, and the units

pub outcomes_are_equal : OutcomesAreEqual
unfolding outcome
outcomes_are_equal units setting texts _ _ (running k v procedures w j x functions z world active) = refl
outcomes_are_equal units setting texts _ _ (ended ending procedures w functions z world active) = refl

pub units_are_equal : UnitsAreEqual
units_are_equal units setting texts _ _ (running k v procedures w j x functions z world active) = world.same_units
units_are_equal units setting texts _ _ (ended ending procedures w functions z world active) = world.same_units

-- ## The active functions

name_at : (functions : List CFunction) (n : ℕ) (d : List ℕ) → n < length (linking.function_names functions) →
    option_map (λ f. f.name) (slice_get functions n) ≡ Some (get_or (linking.function_names functions) n d)
name_at [] n d below = absurd (omega (arith, below))
name_at (f ∷ later) zero d below = refl
name_at (f ∷ later) (suc n) d below = name_at later n d (omega (arith, below))

-- the function of a number has the name by which the number was found
pub found_name : (texts : List CFile) (name : List ℕ) (number : ℕ) → number_named texts name ≡ Some number →
    option_map (λ f. f.name) (slice_get (linking.all_functions texts) number) ≡ Some name
found_name texts name number found =
    let names = linking.function_names (linking.all_functions texts) in
    let at = position-Some (bytes_eq name) names number [] found in
    name_at (linking.all_functions texts) number [] at.0 ∙ ap Some (sym ((bytes_eq-Decides name (get_or names number [])).0 at.1))

unit_named : (texts : List CFile) (found : Option ProgramUnit) (number : ℕ) → option_and_then (function_number texts) found ≡ Some number →
    option_map function_name found ≡ option_map (λ f. f.name) (slice_get (linking.all_functions texts) number)
unit_named texts None number is = absurd (cc)
unit_named texts (Some unit) number is = sym (found_name texts (function_name unit) number is)

all_named : (units : List ProgramUnit) (texts : List CFile) (ks js : List ℕ) → map (function_of units texts) ks ≡ map Some js →
    map (λ k. option_map function_name (slice_get units k)) ks ≡ map (λ j. option_map (λ f. f.name) (slice_get (linking.all_functions texts) j)) js
all_named units texts [] [] same = refl
all_named units texts [] (j ∷ js) same = absurd (cc)
all_named units texts (k ∷ ks) [] same = absurd (cc)
all_named units texts (k ∷ ks) (j ∷ js) same =
    let first : function_of units texts k ≡ Some j = cc in
    let later : map (function_of units texts) ks ≡ map Some js = cc in
    λ i. unit_named texts (slice_get units k) j first i ∷ all_named units texts ks js later i

pub functions_are_those : FunctionsAreThoseOfProcedures
unfolding numbers
functions_are_those units setting texts _ _ (running k v procedures w j x functions z world active) =
    all_named units texts (k ∷ numbers procedures) (without_wrappers texts (j ∷ numbers functions)) active
functions_are_those units setting texts _ _ (ended ending procedures w functions z world active) =
    all_named units texts (numbers procedures) (without_wrappers texts (numbers functions)) active

-- ## The transfers

directions_are : (one : Direction) (other : c.Direction) → transfer.SameDirection one other → is_output_in_c other ≡ is_output one
directions_are _ _ transfer.outputs = refl
directions_are _ _ transfer.inputs = refl

layouts_are : (one : Layout) (format : Format) (other : c.Layout) → SameLayout one format other → is_listed_in_c other ≡ is_listed one
layouts_are _ _ _ (transfer.listed format) = refl
layouts_are _ _ _ (transfer.labelled label format) = refl
layouts_are _ _ _ (transfer.computed format) = refl

formats_are : (one : Layout) (format : Format) (other : c.Layout) → SameLayout one format other → (given : Format) → other ≡ c.Formatted given → given ≡ format
formats_are _ _ _ (transfer.listed format) given is = absurd (cc)
formats_are _ _ _ (transfer.labelled label format) given is = (cc)
formats_are _ _ _ (transfer.computed format) given is = (cc)

units_are : (homes : Homes) (behind : ℕ) (one : fortran.Medium) (other : c.Medium) → SameMedium homes behind one other → (number : ℤ) →
    one ≡ fortran.External number → other ≡ c.Unit number
units_are homes behind _ _ (transfer.on_unit unit) number is = let same : unit ≡ number = cc in ap c.Unit same
units_are homes behind _ _ (transfer.in_file place file stands) number is = absurd (cc)

files_are : (homes : Homes) (behind : ℕ) (one : fortran.Medium) (other : c.Medium) → SameMedium homes behind one other → (place : Spot) → one ≡ fortran.Internal place →
    (file : c.InternalFile) × (other ≡ c.Internal file) × (file.offset ≡ place.first) × (file.size ≡ place.width) × (file.count ≡ record_count place) × (file.position ≡ behind)
files_are homes behind _ _ (transfer.on_unit unit) place is = absurd (cc)
files_are homes behind _ _ (transfer.in_file here file stands) place is =
    let same : here ≡ place = cc in (
      file,
      refl,
      sym stands.offset ∙ ap (λ (p : Spot). p.first) same,
      sym stands.size ∙ ap (λ (p : Spot). p.width) same,
      sym stands.count ∙ ap record_count same,
      sym stands.position,
    )

kinds_are : (homes : Homes) (one : fortran.Transfer) (other : c.Transfer) → Agree homes one other → SameKind one other
kinds_are homes one other agree = record {
  direction = directions_are one.direction other.direction agree.direction;
  listed = layouts_are one.layout one.format other.layout agree.layout;
  format = formats_are one.layout one.format other.layout agree.layout;
  unit = units_are homes one.written one.medium other.medium agree.medium;
  file = files_are homes one.written one.medium other.medium agree.medium;
}

values_of_output : (direction : Direction) (layout : Layout) (one : fortran.Transfer) (other : c.Transfer) → SameProgress direction layout one other → direction ≡ Output → transfer.SameValues one other
values_of_output Output layout one other same is = same
values_of_output Input layout one other same is = absurd (cc)

place_of_input : (direction : Direction) (layout : Layout) (one : fortran.Transfer) (other : c.Transfer) → SameProgress direction layout one other → direction ≡ Input →
    is_listed layout ≡ true → transfer.SamePlace one other
place_of_input Output layout one other same is listed = absurd (cc)
place_of_input Input Listed one other same is listed = same
place_of_input Input (Labelled label) one other same is listed = absurd (cc)
place_of_input Input Computed one other same is listed = absurd (cc)
place_of_input Input Unformatted one other same is listed = absurd (cc)

course_of_input : (direction : Direction) (layout : Layout) (one : fortran.Transfer) (other : c.Transfer) → SameProgress direction layout one other → direction ≡ Input →
    is_listed layout ≡ false → transfer.SameCourse one other
course_of_input Output layout one other same is formatted = absurd (cc)
course_of_input Input Listed one other same is formatted = absurd (cc)
course_of_input Input (Labelled label) one other same is formatted = same
course_of_input Input Computed one other same is formatted = same
course_of_input Input Unformatted one other same is formatted = same

-- the sheets are of one size
sheets_are : (homes : Homes) (behind : ℕ) (one : fortran.Medium) (other : c.Medium) → SameMedium homes behind one other → output.sheet_of other ≡ sheet_of one
unfolding sheet_of
sheets_are homes behind _ _ (transfer.on_unit unit) = refl
sheets_are homes behind _ _ (transfer.in_file place file stands) = λ i. edited.internal_sheet (sym stands.count i) (sym stands.size i)

made_is : (homes : Homes) (behind : ℕ) (layout : Layout) (format : Format) (other : c.Layout) (one : fortran.Medium) (medium : c.Medium) → SameLayout layout format other →
    SameMedium homes behind one medium → (t : fortran.Transfer) → t.format ≡ format → t.medium ≡ one → (closed : Bool) →
    (output.made_in other medium t.values closed).records ≡ (made_by layout t closed).complete
unfolding made_by made_of
made_is homes behind _ _ _ one medium (transfer.listed format) same t form at closed = refl
made_is homes behind _ _ _ one medium (transfer.labelled label format) same t form at closed =
    λ i. (edited.made_on ((sheets_are homes behind one medium same ∙ ap sheet_of (sym at)) i) (sym form i) t.values closed).complete
made_is homes behind _ _ _ one medium (transfer.computed format) same t form at closed =
    λ i. (edited.made_on ((sheets_are homes behind one medium same ∙ ap sheet_of (sym at)) i) (sym form i) t.values closed).complete

transfers_are : (homes : Homes) (one : fortran.Transfer) (other : c.Transfer) → Agree homes one other → SameTransfers one other
transfers_are homes one other agree =
    let values = values_of_output one.direction one.layout one other agree.progress in
    record {
      kind = kinds_are homes one other agree;
      output = λ is. record { values = sym (values is).values; written = sym (values is).written };
      making = λ is closed.
          ap (λ vs. (output.made_in other.layout other.medium vs closed).records) (sym (values is).values)
          ∙ made_is homes one.written one.layout one.format other.layout one.medium other.medium agree.layout agree.medium one refl refl closed;
      listed_input = λ is listed. let same = place_of_input one.direction one.layout one other agree.progress is listed in
          record { values = sym same.values; line = same.line; place = sym same.place; slashed = sym same.slashed };
      formatted_input = λ is formatted. let same = course_of_input one.direction one.layout one other agree.progress is formatted in
          record { values = sym same.values; left = sym same.left; line = sym same.line; before = sym same.before; zeros = sym same.zeros; goes_on = same.goes_on };
    }

transfers_match : (homes : Homes) (one : Option fortran.Transfer) (other : Option c.Transfer) → SameTransfer homes one other → TransfersMatch one other
transfers_match homes _ _ transfer.neither = tt
transfers_match homes _ _ (transfer.both one other agree) = transfers_are homes one other agree

pub transfers_agree : TransfersAgree
transfers_agree units setting texts _ _ (running k v procedures w j x functions z world active) = transfers_match world.homes w.transfer z.transfer world.transfers
transfers_agree units setting texts _ _ (ended ending procedures w functions z world active) = transfers_match world.homes w.transfer z.transfer world.transfers

-- ## What stands in objects

read_at : (store : Store) (objects : List Object) (homes : Homes) → UnitsStand store objects homes → (sequence object : ℕ) → homes sequence ≡ Some object →
    ValuesAreRead store objects sequence object
read_at store objects homes stands sequence object home =
    values_are_read store objects sequence object (λ place byte cell at is. stands sequence object place byte cell home at is)

names_in : (units : List ProgramUnit) (setting : Setting) (texts : List CFile) (homes : Homes) (store : Store) (objects : List Object) (procedures : List (Frame fortran.fortran_sorts)) →
    Image units setting texts homes store objects procedures → (k : ℕ) (unit : ProgramUnit) (member : Member) (home : Home) → HasUnit units k unit → IsIn member unit.stored →
    unit_home setting k unit member.name ≡ Some home → takes_part unit.kind (block_of units setting home.sequence) ≡ true →
    (object : ℕ) × (object_for units setting texts k unit member.name home ≡ Some object) × ValuesAreRead store objects home.sequence object
names_in units setting texts homes store objects procedures image k unit member home has among is part =
    let name = image.names k unit member has among in
    let here : name.home ≡ home = (let both : Some name.home ≡ Some home = sym name.is ∙ is in cc) in
    let found = subst (λ (h : Home). takes_part unit.kind (block_of units setting h.sequence) ≡ true →
    (number : ℕ) × (object_for units setting texts k unit member.name h ≡ Some number) × (homes h.sequence ≡ Some number)) here name.object part in
    (found.0, found.1, read_at store objects homes image.stored home.sequence found.0 found.2)

pub names_are_read : NamesAreRead
names_are_read units setting texts _ _ (running k v procedures w j x functions z world active) =
    names_in units setting texts world.homes w.store z.objects (Has k v ∷ procedures) world.image
names_are_read units setting texts _ _ (ended ending procedures w functions z world active) =
    names_in units setting texts world.homes w.store z.objects procedures world.image

-- ## What belongs to the active procedures

each_in : {A : Type 0} (P : A → Type 0) (xs : List A) → Each P xs → (x : A) → IsIn x xs → P x
each_in P _ none x is = elim is [ ]
each_in P _ (more one later here there) x first_in = here
each_in P _ (more one later here there) x (later_in is) = each_in P later there x is

module _ (texts : List CFile) (homes : Homes) (store : Store) (objects : List Object) (stands : UnitsStand store objects homes) where
  points : (parameter : Option ℕ) (spot : Spot) → StandsFor texts homes objects parameter (IsSpot spot) → PointsToPlace store objects parameter spot
  points parameter spot at = (at.0, at.2, read_at store objects homes stands spot.sequence at.0 at.1)

  text_there : (function : ℕ) (basic : Basic) (spot : Spot) → ResultStandsAs basic texts homes objects function spot → basic ≡ Character →
      PointsToPlace store objects (frame_object texts function (made_name FunctionResult)) spot × HasNumber objects (frame_object texts function (made_name ResultLength)) spot.width
  text_there function Character spot stands is = (points (frame_object texts function (made_name FunctionResult)) spot stands.0, stands.1)
  text_there function Integer spot stands is = absurd (cc)
  text_there function Logical spot stands is = absurd (cc)
  text_there function Untyped spot stands is = absurd (cc)

  number_there : (function : ℕ) (basic : Basic) (spot : Spot) → ResultStandsAs basic texts homes objects function spot → (basic ≡ Character → ⊥) →
      (object : ℕ) × (frame_object texts function (made_name FunctionResult) ≡ Some object) × ValuesAreRead store objects spot.sequence object
  number_there function Character spot at no_text = absurd (no_text refl)
  number_there function Integer spot at no_text = (at.0, at.2, read_at store objects homes stands spot.sequence at.0 at.1)
  number_there function Logical spot at no_text = (at.0, at.2, read_at store objects homes stands spot.sequence at.0 at.1)
  number_there function Untyped spot at no_text = (at.0, at.2, read_at store objects homes stands spot.sequence at.0 at.1)

  result_there : (function : ℕ) (result : Option Spot) → ResultStands texts homes objects function result → (spot : Spot) → result ≡ Some spot → ResultStandsAs spot.basic texts homes objects function spot
  result_there function result at spot is = subst (ResultStands texts homes objects function) is at

  procedure_there : (units : List ProgramUnit) (k : ℕ) (view : fortran.View) → ProcedureStands units texts homes objects k view.frame → ProcedureIsRead units texts store objects k view
  procedure_there units k view at =
      let dummy : (x : List ℕ) → IsIn (Named x) view.frame.called.formals → DummyStands texts homes objects at.function at.unit view.frame x =
      λ x among. each_in (FormalStands texts homes objects at.function at.unit view.frame) view.frame.called.formals at.dummies (Named x) among in
      record {
        unit = at.unit;
        is = at.is;
        function = at.function;
        places = λ x spot among bound. points (frame_object texts at.function (variable_name x)) spot ((dummy x among).parameter (IsSpot spot) bound);
        procedures = λ x name among bound.
            let held = (dummy x among).parameter (IsProc name) bound in (held.0, held.2, found_name texts (external_name name) held.0 held.1);
        lengths = λ x n among text bound. (dummy x among).length text n bound;
        text_result = λ spot is text. text_there at.function spot.basic spot (result_there at.function view.frame.result at.result spot is) text;
        integer_result = λ spot is integer. number_there at.function spot.basic spot (result_there at.function view.frame.result at.result spot is)
            (λ text. let clash : Integer ≡ Character = sym integer ∙ text in absurd (cc));
        logical_result = λ spot is logical. number_there at.function spot.basic spot (result_there at.function view.frame.result at.result spot is)
            (λ text. let clash : Logical ≡ Character = sym logical ∙ text in absurd (cc));
      }

procedures_in : (units : List ProgramUnit) (setting : Setting) (texts : List CFile) (homes : Homes) (store : Store) (objects : List Object) (procedures : List (Frame fortran.fortran_sorts)) →
    Image units setting texts homes store objects procedures → (k : ℕ) (view : fortran.View) → IsIn (Has k view) procedures → ProcedureIsRead units texts store objects k view
procedures_in units setting texts homes store objects procedures image k view among =
    procedure_there texts homes store objects image.stored units k view (each_in (FrameStands units texts homes objects) procedures image.active (Has k view) among)

pub procedures_are_read : ProceduresAreRead
procedures_are_read units setting texts _ _ (running k v procedures w j x functions z world active) =
    procedures_in units setting texts world.homes w.store z.objects (Has k v ∷ procedures) world.image
procedures_are_read units setting texts _ _ (ended ending procedures w functions z world active) =
    procedures_in units setting texts world.homes w.store z.objects procedures world.image
