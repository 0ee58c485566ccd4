-- The store stands while a function begins, while its result has a sequence of its own, and while values are passed.
use Rattle.std.specs.Prelude.{◌≡◌, ℕ, zero, suc, ◌+◌, ◌<◌, ◌≤◌, true, false, List, [], ◌∷◌, ◌++◌, map, length, take, drop, replicate, Option, Some, None, option_map, slice_get}
use Rattle.std.proofs.Common.{refl, sym, ap, ◌∙◌, subst, arith}
use Rattle.std.proofs.lemmas.Option.{slice_get-map}
use Rattle.std.proofs.lemmas.List.{length-replicate, length-map, length-take}
use Rattle.c_image.specs.f_tree.Values.{Datum, IsInt, IsLog, IsText}
use Rattle.c_image.specs.f_tree.Store.{Store, Sequence, Cell, Undefined, Chr, Part, Whole, Truth, undefined_units, with_whole}
use Rattle.c_image.specs.f_tree.Store as store
use Rattle.c_image.specs.f_tree.Association.{sequence_of, passing_one, passing_more, passing, made}
use Rattle.c_laws.specs.c_tree.declared.outcome.CValue.{CValue}
use Rattle.c_laws.specs.c_tree.Objects.{Object, Bytes, bytes_of_number}
use Rattle.c_laws.specs.c_tree.Linking as linking
use Rattle.c_laws.specs.c_tree.Steps.{bound, all_bound, with_frame}
use Rattle.c_image.specs.faithful.StorageImage.{number_for, byte_for}
use Rattle.c_image.specs.World.{World, with_held, with_sequence, framed, IsHomeless, IsIdle, Extends}
use Rattle.c_image.specs.Standing.{IsInRange, AreInRange, Stands}
use Rattle.c_image.specs.Held.{BeginWith, Holds}
use Rattle.c_image.specs.Passing.{Argument, grown_by, with_arguments, AreHeld, value_held, no_value}
use Rattle.c_image_laws.proofs.ListLaws.{one_there, none_there, within_taken}
use Rattle.c_image_laws.proofs.WrittenUnits.{Follows}
use Rattle.c_image_laws.proofs.Growing.{frame_stands, freed_stands, grown_stands, extends_grown, extends_itself, extends_through, changed_there}
use Rattle.c_image_laws.proofs.DefinedPlaces.{is_in}
use Rattle.c_image_laws.proofs.Keeping.{HasNumber, has_number}

-- ## A function begins

pub length-all_bound : (values : List CValue) (fresh : List Object) → length (all_bound values fresh) ≡ length fresh
length-all_bound [] fresh = refl
length-all_bound (value ∷ values) [] = refl
length-all_bound (value ∷ values) (object ∷ later) = ap suc (length-all_bound values later)

-- a parameter holds its argument
pub bound_there : (values : List CValue) (fresh : List Object) (i : ℕ) (value : CValue) (object : Object) → slice_get values i ≡ Some value → slice_get fresh i ≡ Some object →
    slice_get (all_bound values fresh) i ≡ Some (bound value object)
bound_there [] fresh i value object is there = absurd (cc)
bound_there (v ∷ values) [] i value object is there = absurd (cc)
bound_there (v ∷ values) (o ∷ fresh) zero value object is there =
    let same : v ≡ value = one_there (Some v) v value refl is in
    let one : o ≡ object = one_there (Some o) o object refl there in
    ap (λ x. Some (bound x o)) same ∙ ap (λ y. Some (bound value y)) one
bound_there (v ∷ values) (o ∷ fresh) (suc i) value object is there = bound_there values fresh i value object is there

-- and the objects behind the parameters are as they were made
pub fresh_there : (values : List CValue) (fresh : List Object) (i : ℕ) (object : Object) → length values ≤ i → slice_get fresh i ≡ Some object → slice_get (all_bound values fresh) i ≡ Some object
fresh_there [] fresh i object behind there = there
fresh_there (v ∷ values) [] i object behind there = absurd (cc)
fresh_there (v ∷ values) (o ∷ fresh) zero object behind there = absurd (omega (arith, behind))
fresh_there (v ∷ values) (o ∷ fresh) (suc i) object behind there = fresh_there values fresh i object (omega (arith, behind)) there

-- When a function begins whose frame was idle, the store stands as before, and the frame holds its parameters and new temporaries
pub begins_stand : (μ : World) (s : Store) (objects : List Object) (function : linking.Function) (values : List CValue) → Stands μ s objects →
    IsIdle function.frame (length function.fresh) μ → function.frame + length function.fresh ≤ length objects →
    Stands (framed function.frame (all_bound values function.fresh) μ) s (with_frame function values objects)
begins_stand μ s objects function values stands idle fits =
    let size = length-all_bound values function.fresh in
    subst (λ count. Stands (framed function.frame (all_bound values function.fresh) μ) s (take function.frame objects ++ all_bound values function.fresh ++ drop (function.frame + count) objects)) size
    (frame_stands μ s objects function.frame (all_bound values function.fresh) stands (subst (λ count. IsIdle function.frame count μ) (sym size) idle) (omega (arith, size, fits)))

-- ## The result of a function

undefined_at : (count place : ℕ) (cell : Cell) → slice_get (replicate count Undefined) place ≡ Some cell → cell ≡ Undefined
undefined_at zero place cell there = absurd (cc)
undefined_at (suc count) zero cell there = one_there (Some Undefined) cell Undefined there refl
undefined_at (suc count) (suc place) cell there = undefined_at count place cell there

-- an object that is nobody's may be the home of units that are undefined
pub result_stands : (μ : World) (s : Store) (objects : List Object) (k count : ℕ) (bytes : List (Option ℕ)) → Stands μ s objects → μ.frozen k ≡ Some (Bytes bytes) → count ≤ length bytes →
    count < 2147483648 → IsHomeless μ k → Stands (with_sequence (with_held μ k None) (Some k) (undefined_units count)) (s ++ undefined_units count ∷ []) objects
unfolding undefined_units byte_for
result_stands μ s objects k count bytes stands frozen room small homeless =
    let size : length {A = Cell} (replicate count Undefined) ≡ count = length-replicate {A = Cell} count Undefined in
    grown_stands (with_held μ k None) s objects (undefined_units count) k (freed_stands μ s objects k stands)
    (record {
      bytes = bytes;
      is = stands.held k (Bytes bytes) frozen;
      room = omega (arith, size, room);
      follow = λ place byte cell there has. let none : None ≡ Some byte = sym (ap byte_for (undefined_at count place cell there)) ∙ has in absurd (cc);
      in_range = λ place cell there. subst IsInRange (sym (undefined_at count place cell there)) tt;
      small = omega (arith, size, small);
      apart = λ n low free home. homeless n low home;
      alone = λ free. (homeless, changed_there μ.frozen k None);
    })

-- ## Values that are passed

-- the units of a value, with their bytes
pub record HasUnits (q : Sequence) (bytes : List (Option ℕ)) : Type 0 where
  pub room : length q.cells ≤ length bytes
  pub follow : Follows q.cells bytes
  pub in_range : AreInRange q.cells
  pub small : length q.cells < 2147483648
  pub fixed : q.read_only ≡ true

parts_of : (w : Whole) → List Cell
parts_of w = Part w 0 ∷ Part w 1 ∷ Part w 2 ∷ Part w 3 ∷ []

four_parts : (w : Whole) → with_whole w 0 [] ≡ parts_of w
unfolding with_whole parts_of
four_parts w = refl

number_units : (w : Whole) (bytes : List (Option ℕ)) → HasNumber w bytes → HasUnits (record { cells = parts_of w; read_only = true }) bytes
unfolding parts_of byte_for
number_units w bytes has = record {
  room = (let taken = length-take 4 bytes in let same : length (take 4 bytes) ≡ 4 = ap length has.begins in omega (arith, taken, same));
  follow = follow;
  in_range = in_range;
  small = omega arith;
  fixed = refl;
}
  where
    at : (i byte : ℕ) → slice_get (bytes_of_number (number_for w)) i ≡ Some byte → slice_get bytes i ≡ Some (Some byte)
    at i byte there =
        within_taken (map Some (bytes_of_number (number_for w))) bytes 0 4 has.begins i i (Some byte) (omega arith)
        (slice_get-map Some (bytes_of_number (number_for w)) i ∙ ap (option_map Some) there)

    follow : Follows (Part w 0 ∷ Part w 1 ∷ Part w 2 ∷ Part w 3 ∷ []) bytes
    follow zero byte cell there is = at 0 byte (ap byte_for (one_there (Some (Part w 0)) (Part w 0) cell refl there) ∙ is)
    follow (suc zero) byte cell there is = at 1 byte (ap byte_for (one_there (Some (Part w 1)) (Part w 1) cell refl there) ∙ is)
    follow (suc (suc zero)) byte cell there is = at 2 byte (ap byte_for (one_there (Some (Part w 2)) (Part w 2) cell refl there) ∙ is)
    follow (suc (suc (suc zero))) byte cell there is = at 3 byte (ap byte_for (one_there (Some (Part w 3)) (Part w 3) cell refl there) ∙ is)
    follow (suc (suc (suc (suc place)))) byte cell there is = absurd (cc)

    in_range : AreInRange (Part w 0 ∷ Part w 1 ∷ Part w 2 ∷ Part w 3 ∷ [])
    in_range zero cell there = subst IsInRange (one_there (Some (Part w 0)) (Part w 0) cell refl there) has.fits
    in_range (suc zero) cell there = subst IsInRange (one_there (Some (Part w 1)) (Part w 1) cell refl there) has.fits
    in_range (suc (suc zero)) cell there = subst IsInRange (one_there (Some (Part w 2)) (Part w 2) cell refl there) has.fits
    in_range (suc (suc (suc zero))) cell there = subst IsInRange (one_there (Some (Part w 3)) (Part w 3) cell refl there) has.fits
    in_range (suc (suc (suc (suc place)))) cell there = absurd (cc)

-- a character of a text
some_character : (cs : List ℕ) (place : ℕ) (cell : Cell) → slice_get (map Chr cs) place ≡ Some cell → (c : ℕ) × (slice_get cs place ≡ Some c) × (cell ≡ Chr c)
some_character [] place cell there = absurd (cc)
some_character (c ∷ cs) zero cell there = (c, refl, one_there (Some (Chr c)) cell (Chr c) there refl)
some_character (c ∷ cs) (suc place) cell there = some_character cs place cell there

text_units : (cs : List ℕ) (bytes : List (Option ℕ)) → BeginWith (IsText cs) bytes → HasUnits (record { cells = map Chr cs; read_only = true }) bytes
unfolding byte_for
text_units cs bytes begins = record {
  room = (let taken = length-take (length cs) bytes in let same = ap length begins.2 in let count = length-map cs Some in let cells = length-map cs Chr in omega (arith, taken, same, count, cells));
  follow = λ place byte cell there is.
      let found = some_character cs place cell there in
      let same : found.0 ≡ byte = one_there (byte_for cell) found.0 byte (ap byte_for found.2) is in
      within_taken (map Some cs) bytes 0 (length cs) begins.2 place place (Some byte) (omega arith) (slice_get-map Some cs place ∙ ap (option_map Some) (found.1 ∙ ap Some same));
  in_range = λ place cell there.
      let found = some_character cs place cell there in
      subst IsInRange (sym found.2) (begins.1 found.0 (is_in cs place found.0 found.1));
  small = (let cells = length-map cs Chr in let few = begins.0 in omega (arith, cells, few));
  fixed = refl;
}

-- the units of a value whose bytes stand at the start of an object
value_units : (d : Datum) (q : Sequence) (bytes : List (Option ℕ)) → sequence_of d ≡ Some q → BeginWith d bytes → HasUnits q bytes
unfolding sequence_of
value_units (IsInt z) q bytes is begins =
    let same : record { cells = with_whole (store.Number z) 0 []; read_only = true } ≡ q = one_there (Some (record { cells = with_whole (store.Number z) 0 []; read_only = true })) (record { cells = with_whole (store.Number z) 0 []; read_only = true }) q refl is in
    subst (λ r. HasUnits r bytes) same
    (subst (λ cells. HasUnits (record { cells = cells; read_only = true }) bytes) (sym (four_parts (store.Number z)))
    (number_units (store.Number z) bytes (has_number (IsInt z) (store.Number z) bytes refl begins)))
value_units (IsLog b) q bytes is begins =
    let same : record { cells = with_whole (Truth b) 0 []; read_only = true } ≡ q = one_there (Some (record { cells = with_whole (Truth b) 0 []; read_only = true })) (record { cells = with_whole (Truth b) 0 []; read_only = true }) q refl is in
    subst (λ r. HasUnits r bytes) same
    (subst (λ cells. HasUnits (record { cells = cells; read_only = true }) bytes) (sym (four_parts (Truth b)))
    (number_units (Truth b) bytes (has_number (IsLog b) (Truth b) bytes refl begins)))
value_units (IsText cs) q bytes is begins =
    let same : record { cells = map Chr cs; read_only = true } ≡ q = one_there (Some (record { cells = map Chr cs; read_only = true })) (record { cells = map Chr cs; read_only = true }) q refl is in
    subst (λ r. HasUnits r bytes) same (text_units cs bytes begins)
value_units _ q bytes is begins = absurd (cc)

-- a value that an object holds may be passed as a sequence that stands there
pub value_stands : (μ : World) (s : Store) (objects : List Object) (d : Datum) (q : Sequence) (k : ℕ) → Stands μ s objects → Holds (μ.frozen k) d → sequence_of d ≡ Some q →
    Stands (with_sequence μ (Some k) q) (s ++ q ∷ []) objects
value_stands μ s objects d q k stands holds is =
    let units = value_units d q holds.bytes is holds.begins in
    grown_stands μ s objects q k stands
    (record {
      bytes = holds.bytes;
      is = stands.held k (Bytes holds.bytes) holds.is;
      room = units.room;
      follow = units.follow;
      in_range = units.in_range;
      small = units.small;
      apart = λ n low free home. none_there (μ.frozen k) (Bytes holds.bytes) (stands.sane.free n k low free home) holds.is;
      alone = λ free. let wrong : true ≡ false = sym units.fixed ∙ free in absurd (cc);
    })

store_after : (s : Store) (d : Datum) (ds : List Datum) (found : Option Sequence) → sequence_of d ≡ found → (passing s (d ∷ ds)).store ≡ (passing (passing_one s d found).store ds).store
unfolding passing passing_more
store_after s d ds found is = ap (λ q. (passing (passing_one s d q).store ds).store) is

store_at_end : (s : Store) → (passing s []).store ≡ s
unfolding passing
store_at_end s = refl

made_store : (s : Store) (d : Datum) (q : Sequence) → (passing_one s d (Some q)).store ≡ s ++ q ∷ []
unfolding passing_one made
made_store s d q = refl

same_store : (s : Store) (d : Datum) → (passing_one s d None).store ≡ s
unfolding passing_one
same_store s d = refl

-- The store with the sequences of the values that a call passes stands in the same objects
pub passed_stands : (μ : World) (s : Store) (objects : List Object) (arguments : List Argument) → Stands μ s objects → AreHeld μ.frozen arguments →
    Stands (with_arguments μ arguments) (passing s (map (λ argument. argument.datum) arguments)).store objects
passed_stands μ s objects [] stands held = subst (λ t. Stands μ t objects) (sym (store_at_end s)) stands
passed_stands μ s objects (argument ∷ later) stands held =
    subst (λ t. Stands (with_arguments (grown_by μ argument.object (sequence_of argument.datum)) later) t objects)
    (sym (store_after s argument.datum (map (λ a. a.datum) later) (sequence_of argument.datum) refl))
    (by (sequence_of argument.datum) refl (rest held) (passed_stands μ s objects later) (λ q. passed_stands (with_sequence μ (Some argument.object) q) (s ++ q ∷ []) objects later))
  where
    rest : AreHeld μ.frozen (argument ∷ later) → AreHeld μ.frozen later
    rest (value_held _ _ holds more) = more
    rest (no_value _ _ none more) = more

    own : AreHeld μ.frozen (argument ∷ later) → (q : Sequence) → sequence_of argument.datum ≡ Some q → Holds (μ.frozen argument.object) argument.datum
    own (value_held _ _ holds more) q is = holds
    own (no_value _ _ none more) q is = absurd (none_there (sequence_of argument.datum) q none is)

    by : (found : Option Sequence) → sequence_of argument.datum ≡ found → AreHeld μ.frozen later →
        (Stands μ s objects → AreHeld μ.frozen later → Stands (with_arguments μ later) (passing s (map (λ a. a.datum) later)).store objects) →
        ((q : Sequence) → Stands (with_sequence μ (Some argument.object) q) (s ++ q ∷ []) objects → AreHeld μ.frozen later →
        Stands (with_arguments (with_sequence μ (Some argument.object) q) later) (passing (s ++ q ∷ []) (map (λ a. a.datum) later)).store objects) →
        Stands (with_arguments (grown_by μ argument.object found) later) (passing (passing_one s argument.datum found).store (map (λ a. a.datum) later)).store objects
    by None is more none some =
        subst (λ t. Stands (with_arguments μ later) (passing t (map (λ a. a.datum) later)).store objects) (sym (same_store s argument.datum)) (none stands more)
    by (Some q) is more none some =
        subst (λ t. Stands (with_arguments (with_sequence μ (Some argument.object) q) later) (passing t (map (λ a. a.datum) later)).store objects) (sym (made_store s argument.datum q))
        (some q (value_stands μ s objects argument.datum q argument.object stands (own held q is) is) more)

-- and the world has only grown
pub extends_passed : (μ : World) (arguments : List Argument) → Extends μ (with_arguments μ arguments)
extends_passed μ [] = extends_itself μ
extends_passed μ (argument ∷ later) =
    by (sequence_of argument.datum) (extends_passed μ later) (λ q. extends_passed (with_sequence μ (Some argument.object) q) later)
  where
    by : (found : Option Sequence) → Extends μ (with_arguments μ later) →
        ((q : Sequence) → Extends (with_sequence μ (Some argument.object) q) (with_arguments (with_sequence μ (Some argument.object) q) later)) →
        Extends μ (with_arguments (grown_by μ argument.object found) later)
    by None none some = none
    by (Some q) none some =
        extends_through μ (with_sequence μ (Some argument.object) q) (with_arguments (with_sequence μ (Some argument.object) q) later)
        (extends_grown μ (Some argument.object) q) (some q)
