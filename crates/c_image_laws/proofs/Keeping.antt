-- What temporaries and parameters hold: how a value comes there, and how it is read.
use Rattle.std.specs.Prelude.{◌≡◌, ℕ, ◌+◌, ◌<◌, ◌≤◌, nat_eq, true, false, Bool, List, [], ◌∷◌, map, length, take, Option, Some, Ok, if◌then◌else◌}
use Rattle.std.proofs.Common.{refl, sym, ap, ◌∙◌, subst, arith}
use Rattle.std.proofs.lemmas.Bool.{eqb-true}
use Rattle.std.proofs.lemmas.Option.{slice_get_within}
use Rattle.std.proofs.lemmas.List.{length-take, length-map}
use Rattle.c_image.specs.f_tree.Values.{Datum, IsInt, IsLog, IsText, in_range}
use Rattle.c_image.specs.f_tree.Store.{Store, Whole, Truth}
use Rattle.c_image.specs.f_tree.Store as store
use Rattle.c_laws.specs.c_tree.declared.outcome.CValue.TheVariants.{Number, Pointer}
use Rattle.c_laws.specs.c_tree.Access.{ToNumber}
use Rattle.c_laws.specs.c_tree.Objects.{Object, Bytes, plain, all_set, bytes_of_number, overlaid, fetched, stored}
use Rattle.c_laws.specs.c_tree.Terms.{Variable}
use Rattle.c_laws.specs.c_tree.LibraryArguments.{text_stored, text_at, text_through, text_in}
use Rattle.c_laws.proofs.ObjectLaws.{all_set-map, bytes_at-within, overlaid-slice, length-overlaid, number_at-aligned, number_from-bytes_of_number, fetched-number, stored-number}
use Rattle.c_laws.proofs.ValueLaws.{Variable-counts}
use Rattle.c_image.specs.faithful.StorageImage.{number_for}
use Rattle.c_image.specs.faithful.UnitsAtStart.{AreBytes}
use Rattle.c_image.specs.World.{World, IsHomeless}
use Rattle.c_image.specs.Standing.{Stands}
use Rattle.c_image.specs.Held.{whole_for, BeginWith, Holds}
use Rattle.c_image_laws.specs.Meanings.{Means, Keeps}
use Rattle.c_image_laws.proofs.ListLaws.{one_there}
use Rattle.c_image_laws.proofs.FetchedPlaces.{range_fits}
use Rattle.c_image_laws.proofs.DefinedPlaces.{text_put}
use Rattle.c_image_laws.proofs.Growing.{kept_stands}

-- ## Values that are held

-- the bytes of a numeric value
pub number_begins : (d : Datum) (w : Whole) (bytes : List (Option ℕ)) → whole_for d ≡ Some w → in_range (number_for w) ≡ true → take 4 bytes ≡ map Some (bytes_of_number (number_for w)) →
    BeginWith d bytes
number_begins (IsInt z) w bytes is fits begins =
    let same : store.Number z ≡ w = one_there (Some (store.Number z)) (store.Number z) w refl is in
    (ap (λ v. in_range (number_for v)) same ∙ fits, begins ∙ ap (λ v. map Some (bytes_of_number (number_for v))) (sym same))
number_begins (IsLog b) w bytes is fits begins =
    let same : Truth b ≡ w = one_there (Some (Truth b)) (Truth b) w refl is in
    begins ∙ ap (λ v. map Some (bytes_of_number (number_for v))) (sym same)
number_begins _ w bytes is fits begins = absurd (cc)

truth_in_range : (b : Bool) → in_range (number_for (Truth b)) ≡ true
unfolding in_range
truth_in_range true = refl
truth_in_range false = refl

-- what begins with a numeric value
pub record HasNumber (w : Whole) (bytes : List (Option ℕ)) : Type 0 where
  pub fits : in_range (number_for w) ≡ true
  pub begins : take 4 bytes ≡ map Some (bytes_of_number (number_for w))

pub has_number : (d : Datum) (w : Whole) (bytes : List (Option ℕ)) → whole_for d ≡ Some w → BeginWith d bytes → HasNumber w bytes
has_number (IsInt z) w bytes is begins =
    let same : store.Number z ≡ w = one_there (Some (store.Number z)) (store.Number z) w refl is in
    subst (λ v. HasNumber v bytes) same (record { fits = begins.0; begins = begins.1 })
has_number (IsLog b) w bytes is begins =
    let same : Truth b ≡ w = one_there (Some (Truth b)) (Truth b) w refl is in
    subst (λ v. HasNumber v bytes) same (record { fits = truth_in_range b; begins = begins })
has_number _ w bytes is begins = absurd (cc)

four_long : (w : Whole) (bytes : List (Option ℕ)) → HasNumber w bytes → 4 ≤ length bytes
four_long w bytes has =
    let taken = length-take 4 bytes in
    let same : length (take 4 bytes) ≡ 4 = ap length has.begins in
    omega (arith, taken, same)

-- A number or a truth value that an object holds is read from it
pub held_number : (μ : World) (s : Store) (objects : List Object) (k : ℕ) (d : Datum) (w : Whole) → Stands μ s objects → Holds (μ.frozen k) d → whole_for d ≡ Some w →
    fetched objects (record { at = Pointer k 0; access = ToNumber }) ≡ Ok (plain (Number (number_for w)))
held_number μ s objects k d w stands holds is =
    let has = has_number d w holds.bytes is holds.begins in
    fetched-number objects k 0 (number_for w) holds.bytes (stands.held k (Bytes holds.bytes) holds.is)
    (number_at-aligned 0 holds.bytes (bytes_of_number (number_for w)) refl
    (bytes_at-within 0 4 holds.bytes (four_long w holds.bytes has) ∙ ap all_set has.begins ∙ all_set-map (bytes_of_number (number_for w))) ∙
    ap Ok (number_from-bytes_of_number (number_for w) (range_fits (number_for w) has.fits)))

pub held_means : (μ : World) (s : Store) (objects : List Object) (k : ℕ) (d : Datum) (w : Whole) → Stands μ s objects → Holds (μ.frozen k) d → whole_for d ≡ Some w →
    Means objects (Variable k ToNumber) d
held_means μ s objects k d w stands holds is =
    record { whole = w; is = is; counts = Variable-counts objects k (number_for w) (held_number μ s objects k d w stands holds is) }

-- ## A temporary keeps a value

pub number_kept : (μ : World) (s : Store) (objects : List Object) (k : ℕ) (old : List (Option ℕ)) (d : Datum) (w : Whole) → Stands μ s objects → μ.frozen k ≡ Some (Bytes old) → 4 ≤ length old →
    IsHomeless μ k → whole_for d ≡ Some w → in_range (number_for w) ≡ true →
    Keeps μ s objects k d (length old) (λ later. stored objects (record { at = Pointer k 0; access = ToNumber }) (Number (number_for w)) ≡ Ok later)
number_kept μ s objects k old d w stands frozen room homeless is fits =
    let there = stands.held k (Bytes old) frozen in
    let new = bytes_of_number (number_for w) in
    record {
      bytes = overlaid 0 new old;
      stored = stored-number objects k 0 (number_for w) old there refl room;
      same_size = length-overlaid 0 new old room;
      begins = number_begins d w (overlaid 0 new old) is fits (overlaid-slice 0 new old (omega arith));
      stands = kept_stands μ s objects k (Bytes (overlaid 0 new old)) stands homeless (slice_get_within objects k (Bytes old) there);
    }

pub text_kept : (μ : World) (s : Store) (objects : List Object) (k : ℕ) (old : List (Option ℕ)) (cs : List ℕ) → Stands μ s objects → μ.frozen k ≡ Some (Bytes old) → 0 < length cs →
    length cs ≤ length old → length cs < 2147483648 → IsHomeless μ k → AreBytes cs →
    Keeps μ s objects k (IsText cs) (length old) (λ later. text_stored objects (Pointer k 0) cs ≡ Ok later)
text_kept μ s objects k old cs stands frozen some room small homeless bytes =
    let there = stands.held k (Bytes old) frozen in
    let fits : 0 + length cs ≤ length old = omega (arith, room) in
    record {
      bytes = overlaid 0 cs old;
      stored = text_put objects k 0 cs old there some fits;
      same_size = length-overlaid 0 cs old fits;
      begins = (small, bytes, overlaid-slice 0 cs old (omega arith));
      stands = kept_stands μ s objects k (Bytes (overlaid 0 cs old)) stands homeless (slice_get_within objects k (Bytes old) there);
    }

-- A text that an object holds is read from it
pub held_text : (μ : World) (s : Store) (objects : List Object) (k : ℕ) (cs : List ℕ) → Stands μ s objects → Holds (μ.frozen k) (IsText cs) → text_at objects (Pointer k 0) (length cs) ≡ Ok cs
held_text μ s objects k cs stands holds = by (nat_eq (length cs) 0) refl
  where
    none : (list : List ℕ) → length list ≡ 0 → [] ≡ list
    none [] size = refl
    none (c ∷ list) size = absurd (omega (arith, size))

    by : (test : Bool) → nat_eq (length cs) 0 ≡ test → (if test then Ok [] else text_through objects (Pointer k 0) (length cs)) ≡ Ok cs
    by true is = ap Ok (none cs (eqb-true (length cs) 0 is))
    by false is =
        let begins = holds.begins.2 in
        let taken = length-take (length cs) holds.bytes in
        let same = ap length begins in
        let count = length-map cs Some in
        ap (λ found. text_in found 0 (length cs)) (stands.held k (Bytes holds.bytes) holds.is) ∙
        bytes_at-within 0 (length cs) holds.bytes (omega (arith, taken, same, count)) ∙
        ap all_set begins ∙ all_set-map cs
