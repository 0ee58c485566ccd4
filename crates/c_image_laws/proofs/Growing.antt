-- The store stands while the world grows: temporaries keep values, functions begin, sequences are made for calls and cut at the answer.
use Rattle.std.specs.Prelude.{◌≡◌, ◌≢◌, ℕ, zero, suc, ◌+◌, ◌-◌, ◌<◌, ◌≤◌, nat_eq, nat_lt, Bool, true, false, List, [], ◌∷◌, ◌++◌, length, take, drop, Option, Some, None, slice_get, slice_set, if◌then◌else◌}
use Rattle.std.proofs.Common.{refl, sym, ap, ◌∙◌, subst, arith}
use Rattle.std.proofs.lemmas.Bool.{eqb-true, eq-eqb, ltb-true, lt-ltb}
use Rattle.std.proofs.lemmas.Option.{slice_get_within, slice_get_past}
use Rattle.std.proofs.lemmas.List.{length-append, length-take-le}
use Rattle.c_image.specs.f_tree.Store.{Store, Sequence, Cell}
use Rattle.c_laws.specs.c_tree.Objects.{Object, Bytes}
use Rattle.c_laws.specs.c_tree.Linking.{or_else}
use Rattle.c_laws.proofs.ObjectLaws.{slice_get-slice_set_same, slice_get-slice_set_other}
use Rattle.c_image.specs.faithful.StorageImage.{byte_for, byte_of_object, cell_of, UnitsStand}
use Rattle.c_image.specs.World.{World, Sane, changed, with_held, with_sequence, Extends, held_from, framed, IsHomeless, IsIdle}
use Rattle.c_image.specs.Standing.{AreInRange, HasRoom, IsHoused, Stands}
use Rattle.c_image_laws.proofs.ListLaws.{at_front, at_back, at_taken, at_dropped, one_there, none_there, by_equal, by_less}
use Rattle.c_image_laws.proofs.WrittenUnits.{Follows}
use Rattle.c_image_laws.proofs.Replacing.{byte_there}

-- ## Changed functions

pub changed_there : {A : Type 0} (old : ℕ → A) (number : ℕ) (new : A) → changed old number new number ≡ new
changed_there old number new = ap (λ test. if test then new else old number) (eq-eqb number number refl)

pub not_equal : (k number : ℕ) → k ≢ number → nat_eq k number ≡ false
not_equal k number apart = by (nat_eq k number) refl
  where
    by : (test : Bool) → nat_eq k number ≡ test → nat_eq k number ≡ false
    by true is = absurd (apart (eqb-true k number is))
    by false is = is

pub changed_elsewhere : {A : Type 0} (old : ℕ → A) (number k : ℕ) (new : A) → k ≢ number → changed old number new k ≡ old k
changed_elsewhere old number k new apart = ap (λ test. if test then new else old k) (not_equal k number apart)

-- ## What the world says of the objects alone

-- objects in which all sequences stand as before, with whatever else is held now
pub other_objects : (μ : World) (frozen : ℕ → Option Object) (s : Store) (objects now : List Object) → Stands μ s objects →
    ((n k : ℕ) → n < μ.height → μ.homes n ≡ Some k → slice_get now k ≡ slice_get objects k) →
    ((n k : ℕ) → n < μ.height → μ.fixed n ≡ false → μ.homes n ≡ Some k → frozen k ≡ None) →
    ((k : ℕ) (object : Object) → frozen k ≡ Some object → slice_get now k ≡ Some object) →
    Stands (record μ { frozen = frozen }) s now
other_objects μ frozen s objects now stands same free held = record {
  sane = record { small = stands.sane.small; alone = stands.sane.alone; free = free };
  as_high = stands.as_high;
  housed = λ n q is.
      let old = stands.housed n q is in
      record {
        sized = old.sized;
        locked = old.locked;
        in_range = old.in_range;
        room = λ k home. subst (HasRoom (length q.cells)) (sym (same n k (there n q is) home)) (old.room k home);
      };
  units = λ n k place byte cell home found has. by n k place byte cell home (slice_get s n) refl found has;
  held = held;
}
  where
    there : (n : ℕ) (q : Sequence) → slice_get s n ≡ Some q → n < μ.height
    there n q is = subst (λ count. n < count) stands.as_high (slice_get_within s n q is)

    by : (n k place byte : ℕ) (cell : Cell) → μ.homes n ≡ Some k → (q : Option Sequence) → slice_get s n ≡ q → cell_of (slice_get s n) place ≡ Some cell → byte_for cell ≡ Some byte →
        byte_of_object (slice_get now k) place ≡ Some byte
    by n k place byte cell home None is found has = absurd (none_there (cell_of (slice_get s n) place) cell (ap (λ q. cell_of q place) is) found)
    by n k place byte cell home (Some q) is found has =
        ap (λ object. byte_of_object object place) (same n k (there n q is) home) ∙ stands.units n k place byte cell home found has

-- ## A temporary keeps a value

pub kept_stands : (μ : World) (s : Store) (objects : List Object) (k : ℕ) (new : Object) → Stands μ s objects → IsHomeless μ k → k < length objects →
    Stands (with_held μ k (Some new)) s (slice_set objects k new)
kept_stands μ s objects k new stands homeless there =
    other_objects μ (changed μ.frozen k (Some new)) s objects (slice_set objects k new) stands
    (λ n m low home. slice_get-slice_set_other objects k m new (λ same. homeless n low (home ∙ ap Some same)))
    (λ n m low free home. changed_elsewhere μ.frozen k m (Some new) (λ same. homeless n low (home ∙ ap Some same)) ∙ stands.sane.free n m low free home)
    (λ m object held. by_equal (slice_get (slice_set objects k new) m ≡ Some object) m k
    (λ same. ap (slice_get (slice_set objects k new)) same ∙ slice_get-slice_set_same objects k new there ∙
    sym (subst (λ i. changed μ.frozen k (Some new) i ≡ Some new) (sym same) (changed_there μ.frozen k (Some new))) ∙ held)
    (λ apart. slice_get-slice_set_other objects k m new apart ∙ stands.held m object (sym (changed_elsewhere μ.frozen k m (Some new) apart) ∙ held)))

-- an object of which nothing more is said
pub freed_stands : (μ : World) (s : Store) (objects : List Object) (k : ℕ) → Stands μ s objects → Stands (with_held μ k None) s objects
freed_stands μ s objects k stands =
    other_objects μ (changed μ.frozen k None) s objects objects stands (λ n m low home. refl)
    (λ n m low free home. by_equal (changed μ.frozen k None m ≡ None) m k
    (λ same. subst (λ i. changed μ.frozen k None i ≡ None) (sym same) (changed_there μ.frozen k None))
    (λ apart. changed_elsewhere μ.frozen k m None apart ∙ stands.sane.free n m low free home))
    (λ m object held. by_equal (slice_get objects m ≡ Some object) m k
    (λ same. absurd (none_there (changed μ.frozen k None m) object (subst (λ i. changed μ.frozen k None i ≡ None) (sym same) (changed_there μ.frozen k None)) held))
    (λ apart. stands.held m object (sym (changed_elsewhere μ.frozen k m None apart) ∙ held)))

-- ## A function begins

-- the objects with some of them, from a number on, made anew
abbrev pub with_objects : ℕ → List Object → ℕ → List Object → List Object
with_objects first new count objects = take first objects ++ new ++ drop (first + count) objects

module _ (first count : ℕ) (new objects : List Object) (size : length new ≡ count) (fits : first + count ≤ length objects) where
  front : length (take first objects) ≡ first
  front = length-take-le first objects (omega (arith, fits))

  pub before_frame : (k : ℕ) → k < first → slice_get (with_objects first new count objects) k ≡ slice_get objects k
  before_frame k low =
      let size_of_front = front in
      let both = length-append (take first objects) new in
      at_front (take first objects ++ new) (drop (first + count) objects) k (omega (arith, size_of_front, both, low)) ∙
      at_front (take first objects) new k (omega (arith, size_of_front, low)) ∙
      at_taken first objects k low

  pub in_frame : (k i : ℕ) → k ≡ first + i → i < count → slice_get (with_objects first new count objects) k ≡ slice_get new i
  in_frame k i at low =
      let size_of_front = front in
      let both = length-append (take first objects) new in
      at_front (take first objects ++ new) (drop (first + count) objects) k (omega (arith, size_of_front, both, low, at, size)) ∙
      at_back (take first objects) new i k (omega (arith, size_of_front, at))

  pub behind_frame : (k i : ℕ) → k ≡ first + count + i → slice_get (with_objects first new count objects) k ≡ slice_get objects k
  behind_frame k i at =
      let size_of_front = front in
      let both = length-append (take first objects) new in
      at_back (take first objects ++ new) (drop (first + count) objects) i k (omega (arith, size_of_front, both, at, size)) ∙
      at_dropped (first + count) objects i k at

  -- an object that is not in the frame
  pub not_in_frame : (k : ℕ) → (first ≤ k → k < first + count → ⊥) → slice_get (with_objects first new count objects) k ≡ slice_get objects k
  not_in_frame k outside =
      by_less (slice_get (with_objects first new count objects) k ≡ slice_get objects k) k first (before_frame k)
      (λ i at. by_less (slice_get (with_objects first new count objects) k ≡ slice_get objects k) i count
      (λ low. absurd (outside (omega (arith, at)) (omega (arith, at, low))))
      (λ j more. behind_frame k j (omega (arith, at, more))))

-- what is held in a frame, and elsewhere
pub held_below : (first k : ℕ) (objects : List Object) (elsewhere : ℕ → Option Object) → k < first → held_from first objects elsewhere k ≡ elsewhere k
held_below first k objects elsewhere low = ap (λ test. if test then elsewhere k else or_else (slice_get objects (k - first)) (elsewhere k)) (lt-ltb k first low)

not_below : (k first i : ℕ) → k ≡ first + i → nat_lt k first ≡ false
not_below k first i at = by (nat_lt k first) refl
  where
    by : (test : Bool) → nat_lt k first ≡ test → nat_lt k first ≡ false
    by true is = absurd (let less = ltb-true k first is in omega (arith, less, at))
    by false is = is

pub held_at : (first k i : ℕ) (objects : List Object) (elsewhere : ℕ → Option Object) → k ≡ first + i → held_from first objects elsewhere k ≡ or_else (slice_get objects i) (elsewhere k)
held_at first k i objects elsewhere at =
    let same : k - first ≡ i = omega (arith, at) in
    ap (λ test. if test then elsewhere k else or_else (slice_get objects (k - first)) (elsewhere k)) (not_below k first i at) ∙
    ap (λ j. or_else (slice_get objects j) (elsewhere k)) same

pub held_outside : (first k : ℕ) (objects : List Object) (elsewhere : ℕ → Option Object) → (first ≤ k → k < first + length objects → ⊥) → held_from first objects elsewhere k ≡ elsewhere k
held_outside first k objects elsewhere outside =
    by_less (held_from first objects elsewhere k ≡ elsewhere k) k first (held_below first k objects elsewhere)
    (λ i at. by_less (held_from first objects elsewhere k ≡ elsewhere k) i (length objects)
    (λ low. absurd (outside (omega (arith, at)) (omega (arith, at, low))))
    (λ j more. held_at first k i objects elsewhere at ∙ ap (λ found. or_else found (elsewhere k)) (slice_get_past objects i (omega (arith, more)))))

found_or : (found other : Option Object) (object : Object) → or_else found other ≡ Some object → (P : Type 0) → (found ≡ Some object → P) → (found ≡ None → other ≡ Some object → P) → P
found_or None other object is P there elsewhere = elsewhere refl is
found_or (Some x) other object is P there elsewhere = there is

pub frame_stands : (μ : World) (s : Store) (objects : List Object) (first : ℕ) (new : List Object) → Stands μ s objects → IsIdle first (length new) μ → first + length new ≤ length objects →
    Stands (framed first new μ) s (with_objects first new (length new) objects)
frame_stands μ s objects first new stands idle fits =
    other_objects μ (held_from first new μ.frozen) s objects (with_objects first new (length new) objects) stands
    (λ n k low home. not_in_frame first (length new) new objects refl fits k (idle.no_home n k low home))
    (λ n k low free home. held_outside first k new μ.frozen (idle.no_home n k low home) ∙ stands.sane.free n k low free home)
    (λ k object held. by_less (slice_get (with_objects first new (length new) objects) k ≡ Some object) k first
    (λ low. before_frame first (length new) new objects refl fits k low ∙ stands.held k object (sym (held_below first k new μ.frozen low) ∙ held))
    (λ i at. found_or (slice_get new i) (μ.frozen k) object (sym (held_at first k i new μ.frozen at) ∙ held) (slice_get (with_objects first new (length new) objects) k ≡ Some object)
    (λ there. in_frame first (length new) new objects refl fits k i at (slice_get_within new i object there) ∙ there)
    (λ none frozen. by_less (slice_get (with_objects first new (length new) objects) k ≡ Some object) i (length new)
    (λ low. absurd (none_there (μ.frozen k) object (idle.not_held k (omega (arith, at)) (omega (arith, at, low))) frozen))
    (λ j more. behind_frame first (length new) new objects refl fits k j (omega (arith, at, more)) ∙ stands.held k object frozen))))

-- ## A sequence more

-- where a new sequence may stand: its object has its units, and no sequence that may be defined is there
pub record MayStand (μ : World) (objects : List Object) (q : Sequence) (object : ℕ) : Type 0 where
  pub bytes : List (Option ℕ)
  pub is : slice_get objects object ≡ Some (Bytes bytes)
  pub room : length q.cells ≤ length bytes
  pub follow : Follows q.cells bytes
  pub in_range : AreInRange q.cells
  pub small : length q.cells < 2147483648
  pub apart : (n : ℕ) → n < μ.height → μ.fixed n ≡ false → μ.homes n ≡ Some object → ⊥
  pub alone : q.read_only ≡ false → IsHomeless μ object × (μ.frozen object ≡ None)

module _ (μ : World) (s : Store) (objects : List Object) (q : Sequence) (object : ℕ) (stands : Stands μ s objects) (may : MayStand μ objects q object) where
  ν : World
  ν = with_sequence μ (Some object) q

  below : (n : ℕ) → n < suc μ.height → n ≢ μ.height → n < μ.height
  below n low apart = omega (arith, low, apart)

  home_below : (n : ℕ) (found : Option ℕ) → n ≢ μ.height → changed μ.homes μ.height (Some object) n ≡ found → μ.homes n ≡ found
  home_below n found apart home = sym (changed_elsewhere μ.homes μ.height n (Some object) apart) ∙ home

  home_above : (n k : ℕ) → n ≡ μ.height → changed μ.homes μ.height (Some object) n ≡ Some k → object ≡ k
  home_above n k same home = one_there (changed μ.homes μ.height (Some object) n) object k (subst (λ i. changed μ.homes μ.height (Some object) i ≡ Some object) (sym same) (changed_there μ.homes μ.height (Some object))) home

  fixed_below : (n : ℕ) (found : Bool) → n ≢ μ.height → changed μ.fixed μ.height q.read_only n ≡ found → μ.fixed n ≡ found
  fixed_below n found apart is = sym (changed_elsewhere μ.fixed μ.height n q.read_only apart) ∙ is

  fixed_above : (n : ℕ) (found : Bool) → n ≡ μ.height → changed μ.fixed μ.height q.read_only n ≡ found → q.read_only ≡ found
  fixed_above n found same is = sym (subst (λ i. changed μ.fixed μ.height q.read_only i ≡ q.read_only) (sym same) (changed_there μ.fixed μ.height q.read_only)) ∙ is

  grown_sane : Sane (with_sequence μ (Some object) q)
  grown_sane = record {
    small = λ n low. by_equal (changed μ.size μ.height (length q.cells) n < 2147483648) n μ.height
        (λ same. subst (λ size. size < 2147483648) (sym (subst (λ i. changed μ.size μ.height (length q.cells) i ≡ length q.cells) (sym same) (changed_there μ.size μ.height (length q.cells)))) may.small)
        (λ apart. subst (λ size. size < 2147483648) (sym (changed_elsewhere μ.size μ.height n (length q.cells) apart)) (stands.sane.small n (below n low apart)));
    alone = λ n m k low low' free home home'. by_equal (m ≡ n) n μ.height
        (λ same. by_equal (m ≡ n) m μ.height
        (λ same'. same' ∙ sym same)
        (λ apart'. absurd ((may.alone (fixed_above n false same free)).0 m (below m low' apart') (home_below m (Some k) apart' home' ∙ ap Some (sym (home_above n k same home))))))
        (λ apart. by_equal (m ≡ n) m μ.height
        (λ same'. absurd (may.apart n (below n low apart) (fixed_below n false apart free) (home_below n (Some k) apart home ∙ ap Some (sym (home_above m k same' home')))))
        (λ apart'. stands.sane.alone n m k (below n low apart) (below m low' apart') (fixed_below n false apart free) (home_below n (Some k) apart home) (home_below m (Some k) apart' home')));
    free = λ n k low free home. by_equal (μ.frozen k ≡ None) n μ.height
        (λ same. subst (λ i. μ.frozen i ≡ None) (home_above n k same home) (may.alone (fixed_above n false same free)).1)
        (λ apart. stands.sane.free n k (below n low apart) (fixed_below n false apart free) (home_below n (Some k) apart home));
  }

  -- the sequences: those that were, and the new one
  which : (n : ℕ) (found : Sequence) → slice_get (s ++ q ∷ []) n ≡ Some found → (P : Type 0) → (n ≢ μ.height → slice_get s n ≡ Some found → P) → (n ≡ μ.height → q ≡ found → P) → P
  which n found is P old new =
      by_less P n (length s)
      (λ low. old (λ same. (let high = stands.as_high in omega (arith, low, same, high))) (sym (at_front s (q ∷ []) n low) ∙ is))
      (λ i at. last i at (sym (at_back s (q ∷ []) i n at) ∙ is))
    where
      last : (i : ℕ) → n ≡ length s + i → slice_get (q ∷ []) i ≡ Some found → P
      last zero at there = new (let high = stands.as_high in omega (arith, at, high)) (one_there (Some q) q found refl there)
      last (suc i) at there = absurd (cc)

  grown_housed : (n : ℕ) (found : Sequence) → slice_get (s ++ q ∷ []) n ≡ Some found → IsHoused (with_sequence μ (Some object) q) objects n found
  grown_housed n found is = which n found is (IsHoused (with_sequence μ (Some object) q) objects n found) old new
    where
      old : n ≢ μ.height → slice_get s n ≡ Some found → IsHoused (with_sequence μ (Some object) q) objects n found
      old apart there =
          let was = stands.housed n found there in
          record {
            sized = was.sized ∙ sym (changed_elsewhere μ.size μ.height n (length q.cells) apart);
            locked = was.locked ∙ sym (changed_elsewhere μ.fixed μ.height n q.read_only apart);
            in_range = was.in_range;
            room = λ k home. was.room k (home_below n (Some k) apart home);
          }

      new : n ≡ μ.height → q ≡ found → IsHoused (with_sequence μ (Some object) q) objects n found
      new same there =
          subst (IsHoused (with_sequence μ (Some object) q) objects n) there
          (record {
            sized = sym (subst (λ i. changed μ.size μ.height (length q.cells) i ≡ length q.cells) (sym same) (changed_there μ.size μ.height (length q.cells)));
            locked = sym (subst (λ i. changed μ.fixed μ.height q.read_only i ≡ q.read_only) (sym same) (changed_there μ.fixed μ.height q.read_only));
            in_range = may.in_range;
            room = λ k home. subst (λ i. HasRoom (length q.cells) (slice_get objects i)) (home_above n k same home) (record { bytes = may.bytes; is = may.is; room = may.room });
          })

  grown_units : UnitsStand (s ++ q ∷ []) objects (changed μ.homes μ.height (Some object))
  grown_units n k place byte cell home found has = by (slice_get (s ++ q ∷ []) n) refl found
    where
      by : (there : Option Sequence) → slice_get (s ++ q ∷ []) n ≡ there → cell_of there place ≡ Some cell → byte_of_object (slice_get objects k) place ≡ Some byte
      by None is at = absurd (cc)
      by (Some found) is at = which n found is (byte_of_object (slice_get objects k) place ≡ Some byte)
          (λ apart there. stands.units n k place byte cell (home_below n (Some k) apart home) (ap (λ q. cell_of q place) there ∙ at) has)
          (λ same there. subst (λ i. byte_of_object (slice_get objects i) place ≡ Some byte) (home_above n k same home)
          (ap (λ o. byte_of_object o place) may.is ∙ byte_there may.bytes place byte (may.follow place byte cell (ap (λ r. slice_get r.cells place) there ∙ at) has)))

  pub grown_stands : Stands (with_sequence μ (Some object) q) (s ++ q ∷ []) objects
  grown_stands = record {
    sane = grown_sane;
    as_high = (let high = stands.as_high in let size = length-append s (q ∷ []) in omega (arith, high, size));
    housed = grown_housed;
    units = grown_units;
    held = stands.held;
  }

-- ## Cut at the answer

pub cut_sane : (μ ν : World) → Extends μ ν → Sane ν → Sane μ
cut_sane μ ν extends sane = record {
  small = λ n low. subst (λ size. size < 2147483648) (extends.size n low) (sane.small n (above n low));
  alone = λ n m k low low' free home home'. sane.alone n m k (above n low) (above m low') (extends.fixed n low ∙ free) (extends.homes n low ∙ home) (extends.homes m low' ∙ home');
  free = λ n k low free home. by k (μ.frozen k) refl (sane.free n k (above n low) (extends.fixed n low ∙ free) (extends.homes n low ∙ home));
}
  where
    above : (n : ℕ) → n < μ.height → n < ν.height
    above n low = let higher = extends.higher in omega (arith, low, higher)

    by : (k : ℕ) (found : Option Object) → μ.frozen k ≡ found → ν.frozen k ≡ None → μ.frozen k ≡ None
    by k None is none = is
    by k (Some object) is none = absurd (none_there (ν.frozen k) object none (extends.frozen k object is))

within_cut : {A : Type 0} (h : ℕ) (xs : List A) (n : ℕ) (x : A) → slice_get (take h xs) n ≡ Some x → (n < h) × (slice_get xs n ≡ Some x)
within_cut zero xs n x there = absurd (cc)
within_cut (suc h) [] n x there = absurd (cc)
within_cut (suc h) (y ∷ xs) zero x there = (omega arith, there)
within_cut (suc h) (y ∷ xs) (suc n) x there = let later = within_cut h xs n x there in let low = later.0 in (omega (arith, low), later.1)

-- The store that was there before a call stands again when it is cut
pub cut_stands : (μ ν : World) (s : Store) (objects : List Object) → Extends μ ν → Stands ν s objects → Stands μ (take μ.height s) objects
cut_stands μ ν s objects extends stands = record {
  sane = cut_sane μ ν extends stands.sane;
  as_high = length-take-le μ.height s (let high = stands.as_high in let higher = extends.higher in omega (arith, high, higher));
  housed = λ n q is.
      let at = within_cut μ.height s n q is in
      let was = stands.housed n q at.1 in
      record {
        sized = was.sized ∙ extends.size n at.0;
        locked = was.locked ∙ extends.fixed n at.0;
        in_range = was.in_range;
        room = λ k home. was.room k (extends.homes n at.0 ∙ home);
      };
  units = λ n k place byte cell home found has. by n k place byte cell home (slice_get (take μ.height s) n) refl found has;
  held = λ k object frozen. stands.held k object (extends.frozen k object frozen);
}
  where
    by : (n k place byte : ℕ) (cell : Cell) → μ.homes n ≡ Some k → (q : Option Sequence) → slice_get (take μ.height s) n ≡ q → cell_of (slice_get (take μ.height s) n) place ≡ Some cell →
        byte_for cell ≡ Some byte → byte_of_object (slice_get objects k) place ≡ Some byte
    by n k place byte cell home None is found has = absurd (none_there (cell_of (slice_get (take μ.height s) n) place) cell (ap (λ q. cell_of q place) is) found)
    by n k place byte cell home (Some q) is found has =
        let at = within_cut μ.height s n q is in
        stands.units n k place byte cell (extends.homes n at.0 ∙ home) (ap (λ q. cell_of q place) (at.1 ∙ sym is) ∙ found) has

-- ## Growth

pub extends_itself : (μ : World) → Extends μ μ
extends_itself μ = record { higher = omega arith; homes = λ n low. refl; size = λ n low. refl; fixed = λ n low. refl; frozen = λ k object is. is }

pub extends_through : (μ ν ξ : World) → Extends μ ν → Extends ν ξ → Extends μ ξ
extends_through μ ν ξ one other = record {
  higher = (let a = one.higher in let b = other.higher in omega (arith, a, b));
  homes = λ n low. other.homes n (above n low) ∙ one.homes n low;
  size = λ n low. other.size n (above n low) ∙ one.size n low;
  fixed = λ n low. other.fixed n (above n low) ∙ one.fixed n low;
  frozen = λ k object is. other.frozen k object (one.frozen k object is);
}
  where
    above : (n : ℕ) → n < μ.height → n < ν.height
    above n low = let higher = one.higher in omega (arith, low, higher)

-- a sequence more
pub extends_grown : (μ : World) (home : Option ℕ) (q : Sequence) → Extends μ (with_sequence μ home q)
extends_grown μ home q = record {
  higher = omega arith;
  homes = λ n low. changed_elsewhere μ.homes μ.height n home (λ same. omega (arith, low, same));
  size = λ n low. changed_elsewhere μ.size μ.height n (length q.cells) (λ same. omega (arith, low, same));
  fixed = λ n low. changed_elsewhere μ.fixed μ.height n q.read_only (λ same. omega (arith, low, same));
  frozen = λ k object is. is;
}

-- a frame that was idle
pub extends_framed : (μ : World) (first : ℕ) (new : List Object) → IsIdle first (length new) μ → Extends μ (framed first new μ)
extends_framed μ first new idle = record {
  higher = omega arith;
  homes = λ n low. refl;
  size = λ n low. refl;
  fixed = λ n low. refl;
  frozen = λ k object is. held_outside first k new μ.frozen (λ low high. none_there (μ.frozen k) object (idle.not_held k low high) is) ∙ is;
}

-- an object of which nothing was said
pub extends_held : (μ : World) (k : ℕ) (held : Option Object) → μ.frozen k ≡ None → Extends μ (with_held μ k held)
extends_held μ k held none = record {
  higher = omega arith;
  homes = λ n low. refl;
  size = λ n low. refl;
  fixed = λ n low. refl;
  frozen = λ m object is. changed_elsewhere μ.frozen k m held (λ same. none_there (μ.frozen m) object (subst (λ i. μ.frozen i ≡ None) (sym same) none) is) ∙ is;
}
