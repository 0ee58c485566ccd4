-- The store still stands once the units of a sequence that may be defined, and the bytes of its object, are others that agree.
use Rattle.std.specs.Prelude.{◌≡◌, ◌≢◌, ℕ, ◌+◌, ◌<◌, ◌≤◌, false, List, length, Option, Some, None, slice_get, slice_set, option_and_then}
use Rattle.std.proofs.Common.{refl, sym, ap, ◌∙◌, subst, arith}
use Rattle.std.proofs.lemmas.Option.{slice_get_within}
use Rattle.c_image.specs.f_tree.Store.{Store, Sequence, Cell}
use Rattle.c_laws.specs.c_tree.Objects.{Object, Bytes, overlaid}
use Rattle.c_laws.proofs.ObjectLaws.{length-overlaid, slice_get-slice_set_same, slice_get-slice_set_other, length-slice_set}
use Rattle.c_image.specs.faithful.StorageImage.{byte_for, byte_of_object, cell_of, UnitsStand}
use Rattle.c_image.specs.World.{World}
use Rattle.c_image.specs.Standing.{AreInRange, HasRoom, IsHoused, Stands}
use Rattle.c_image_laws.proofs.ListLaws.{one_there, none_there, by_equal}
use Rattle.c_image_laws.proofs.WrittenUnits.{Follows, IsWritten, written_byte}

-- ## What stands in one object

pub byte_there : (bytes : List (Option ℕ)) (place byte : ℕ) → slice_get bytes place ≡ Some (Some byte) → byte_of_object (Some (Bytes bytes)) place ≡ Some byte
unfolding byte_of_object
byte_there bytes place byte there = ap (option_and_then (λ b. b)) there

pub there_by_byte : (bytes : List (Option ℕ)) (place byte : ℕ) → byte_of_object (Some (Bytes bytes)) place ≡ Some byte → slice_get bytes place ≡ Some (Some byte)
unfolding byte_of_object
there_by_byte bytes place byte is = by (slice_get bytes place) is
  where
    by : (found : Option (Option ℕ)) → option_and_then (λ b. b) found ≡ Some byte → found ≡ Some (Some byte)
    by None is = absurd (cc)
    by (Some held) is = ap Some is

-- a sequence with its object
pub record StandsAlone (μ : World) (store : Store) (objects : List Object) (n object : ℕ) (sequence : Sequence) : Type 0 where
  pub is : slice_get store n ≡ Some sequence
  pub free : sequence.read_only ≡ false
  pub home : μ.homes n ≡ Some object
  pub bytes : List (Option ℕ)
  pub at : slice_get objects object ≡ Some (Bytes bytes)
  pub room : length sequence.cells ≤ length bytes

pub stands_alone : (μ : World) (store : Store) (objects : List Object) (n object : ℕ) (q : Sequence) → Stands μ store objects → slice_get store n ≡ Some q → q.read_only ≡ false →
    μ.homes n ≡ Some object → StandsAlone μ store objects n object q
stands_alone μ store objects n object q stands is free home =
    let room = (stands.housed n q is).room object home in
    record { is = is; free = free; home = home; bytes = room.bytes; at = room.is; room = room.room }

pub follows : (μ : World) (store : Store) (objects : List Object) (n object : ℕ) (q : Sequence) (bytes : List (Option ℕ)) → Stands μ store objects → slice_get store n ≡ Some q →
    μ.homes n ≡ Some object → slice_get objects object ≡ Some (Bytes bytes) → Follows q.cells bytes
follows μ store objects n object q bytes stands is home at place byte cell there has =
    there_by_byte bytes place byte
    (sym (ap (λ found. byte_of_object found place) at) ∙
    stands.units n object place byte cell home (ap (λ found. cell_of found place) is ∙ there) has)

-- ## Other units and other bytes

-- units that take the place of a sequence's, with bytes for them
pub record Agree (old new : List Cell) (held written : List (Option ℕ)) : Type 0 where
  pub same_length : length new ≡ length old
  pub same_size : length written ≡ length held
  pub in_range : AreInRange new
  pub follow : Follows new written

abbrev pub replaced : List Cell → Sequence
replaced cells = record { cells = cells; read_only = false }

module _ (μ : World) (store : Store) (objects : List Object) (n object : ℕ) (now : Sequence) (cells : List Cell) (written : List (Option ℕ)) (stands : Stands μ store objects)
    (there : StandsAlone μ store objects n object now) (agree : Agree now.cells cells there.bytes written) where
  store' : Store
  store' = slice_set store n (replaced cells)

  objects' : List Object
  objects' = slice_set objects object (Bytes written)

  is_free : μ.fixed n ≡ false
  is_free = sym (stands.housed n now there.is).locked ∙ there.free

  is_there : n < μ.height
  is_there = subst (λ count. n < count) stands.as_high (slice_get_within store n now there.is)

  object_there : slice_get objects' object ≡ Some (Bytes written)
  unfolding objects'
  object_there = slice_get-slice_set_same objects object (Bytes written) (slice_get_within objects object (Bytes there.bytes) there.at)

  object_elsewhere : (k : ℕ) → k ≢ object → slice_get objects' k ≡ slice_get objects k
  unfolding objects'
  object_elsewhere k apart = slice_get-slice_set_other objects object k (Bytes written) apart

  sequence_there : slice_get store' n ≡ Some (replaced cells)
  unfolding store'
  sequence_there = slice_get-slice_set_same store n (replaced cells) (slice_get_within store n now there.is)

  sequence_elsewhere : (m : ℕ) → m ≢ n → slice_get store' m ≡ slice_get store m
  unfolding store'
  sequence_elsewhere m apart = slice_get-slice_set_other store n m (replaced cells) apart

  -- no other sequence stands in the object
  home_elsewhere : (m k : ℕ) (q : Sequence) → m ≢ n → slice_get store m ≡ Some q → μ.homes m ≡ Some k → k ≢ object
  home_elsewhere m k q apart is home same =
      apart (stands.sane.alone n m object is_there (subst (λ count. m < count) stands.as_high (slice_get_within store m q is)) is_free there.home (home ∙ ap Some same))

  housed : (m : ℕ) (q : Sequence) → slice_get store' m ≡ Some q → IsHoused μ objects' m q
  housed m q is = by_equal (IsHoused μ objects' m q) m n own other
    where
      own : m ≡ n → IsHoused μ objects' m q
      own same =
          let new : q ≡ replaced cells = one_there (slice_get store' n) q (replaced cells) (subst (λ k. slice_get store' k ≡ Some q) same is) sequence_there in
          let old = stands.housed n now there.is in
          let at_n : IsHoused μ objects' n (replaced cells) = record {
            sized = agree.same_length ∙ old.sized;
            locked = sym is_free;
            in_range = agree.in_range;
            room = λ k home.
                let k_is : object ≡ k = one_there (μ.homes n) object k there.home home in
                subst (λ k. HasRoom (length cells) (slice_get objects' k)) k_is
                (record { bytes = written; is = object_there; room = (let one = agree.same_length in let other = agree.same_size in let room = there.room in omega (arith, one, other, room)) });
          } in
          subst (λ k. IsHoused μ objects' k q) (sym same) (subst (IsHoused μ objects' n) (sym new) at_n)

      other : m ≢ n → IsHoused μ objects' m q
      other apart =
          let is_old : slice_get store m ≡ Some q = sym (sequence_elsewhere m apart) ∙ is in
          let old = stands.housed m q is_old in
          record {
            sized = old.sized;
            locked = old.locked;
            in_range = old.in_range;
            room = λ k home.
                subst (HasRoom (length q.cells)) (sym (object_elsewhere k (home_elsewhere m k q apart is_old home))) (old.room k home);
          }

  units : UnitsStand store' objects' μ.homes
  units m k place byte cell home found has = by_equal (byte_of_object (slice_get objects' k) place ≡ Some byte) m n own other
    where
      own : m ≡ n → byte_of_object (slice_get objects' k) place ≡ Some byte
      own same =
          let k_is : object ≡ k = one_there (μ.homes n) object k there.home (subst (λ i. μ.homes i ≡ Some k) same home) in
          let cell_is : slice_get cells place ≡ Some cell =
          sym (ap (λ q. cell_of q place) sequence_there) ∙ subst (λ i. cell_of (slice_get store' i) place ≡ Some cell) same found in
          subst (λ i. byte_of_object (slice_get objects' i) place ≡ Some byte) k_is
          (ap (λ o. byte_of_object o place) object_there ∙ byte_there written place byte (agree.follow place byte cell cell_is has))

      other : m ≢ n → byte_of_object (slice_get objects' k) place ≡ Some byte
      other apart =
          let old : cell_of (slice_get store m) place ≡ Some cell = sym (ap (λ q. cell_of q place) (sequence_elsewhere m apart)) ∙ found in
          elsewhere (slice_get store m) refl old
        where
          elsewhere : (q : Option Sequence) → slice_get store m ≡ q → cell_of q place ≡ Some cell → byte_of_object (slice_get objects' k) place ≡ Some byte
          elsewhere None is old = absurd (cc)
          elsewhere (Some q) is old =
              ap (λ o. byte_of_object o place) (object_elsewhere k (home_elsewhere m k q apart is home)) ∙
              stands.units m k place byte cell home (ap (λ q. cell_of q place) is ∙ old) has

  pub replaced_stands : Stands μ (slice_set store n (replaced cells)) (slice_set objects object (Bytes written))
  unfolding store' objects'
  replaced_stands = record {
    sane = stands.sane;
    as_high = length-slice_set store n (replaced cells) ∙ stands.as_high;
    housed = housed;
    units = units;
    held = λ k held frozen.
        object_elsewhere k (λ same. none_there (μ.frozen k) held (subst (λ i. μ.frozen i ≡ None) (sym same) (stands.sane.free n object is_there is_free there.home)) frozen) ∙
        stands.held k held frozen;
  }

-- bytes that are written from a place on
pub written_stands : (μ : World) (store : Store) (objects : List Object) (n object first : ℕ) (now : Sequence) (new : List ℕ) (cells : List Cell) (stands : Stands μ store objects)
    (there : StandsAlone μ store objects n object now) → length cells ≡ length now.cells → AreInRange cells → first + length new ≤ length now.cells →
    ((place byte : ℕ) (cell : Cell) → slice_get cells place ≡ Some cell → byte_for cell ≡ Some byte → IsWritten new first now.cells place byte) →
    Stands μ (slice_set store n (replaced cells)) (slice_set objects object (Bytes (overlaid first new there.bytes)))
written_stands μ store objects n object first now new cells stands there same_length in_range fits each =
    let room = there.room in
    let within : first + length new ≤ length there.bytes = omega (arith, fits, room) in
    replaced_stands μ store objects n object now cells (overlaid first new there.bytes) stands there
    (record {
      same_length = same_length;
      same_size = length-overlaid first new there.bytes within;
      in_range = in_range;
      follow = λ place byte cell at has.
          written_byte new first now.cells there.bytes place byte
          (follows μ store objects n object now there.bytes stands there.is there.home there.at) within (each place byte cell at has);
    })
