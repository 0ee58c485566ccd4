-- Once a place is defined in FORTRAN and its value is stored in C where the place stands, the whole store stands in the objects.
use Rattle.std.specs.Prelude.{◌≡◌, ℕ, zero, suc, ◌+◌, ◌-◌, ◌%◌, ◌<◌, ◌≤◌, nat_le, Bool, true, false, ◌&&◌, List, [], ◌∷◌, ◌++◌, length, take, replicate, Option, Some, None, Ok, slice_get, slice_set, if◌then◌else◌}
use Rattle.std.proofs.Common.{refl, sym, ap, ◌∙◌, subst, arith}
use Rattle.std.proofs.lemmas.Bool.{leb-true, le-leb}
use Rattle.std.proofs.lemmas.List.{length-append, length-take, length-replicate}
use Rattle.c_image.specs.f_tree.declared.names.Basic.{Basic}
use Rattle.c_image.specs.f_tree.declared.names.Basic.TheVariants.{Integer, Logical, Character}
use Rattle.c_image.specs.f_tree.Values.{Spot, Datum, IsInt, IsLog, IsText, IsSpot, IsProc, IsLabel, Nothing, Checked, Gives, Fails, in_range, NoMeaning, PastExtent, DefinesReadOnly}
use Rattle.c_image.specs.f_tree.Values as fortran
use Rattle.c_image.specs.f_tree.Setting.{IsIn, first_in, later_in}
use Rattle.c_image.specs.f_tree.Store.{Store, Sequence, Cell, Undefined, Chr, Part, Whole, Label, with_whole, with_characters, fitted, defined_as, stored_in, has_room, define_in, define, labelled_in, define_label}
use Rattle.c_image.specs.f_tree.Store as store
use Rattle.c_laws.specs.c_tree.declared.outcome.CValue.TheVariants.{Number, Pointer}
use Rattle.c_laws.specs.c_tree.declared.outcome.CFault.TheVariants.{Outside}
use Rattle.c_laws.specs.c_tree.Faults.{after, failing}
use Rattle.c_laws.specs.c_tree.Access.{ToNumber}
use Rattle.c_laws.specs.c_tree.Objects.{Object, Bytes, bytes_of_number, overlaid, stored}
use Rattle.c_laws.specs.c_tree.LibraryArguments.{text_stored, with_text}
use Rattle.c_laws.specs.c_tree.LibraryArguments as library
use Rattle.c_laws.proofs.ObjectLaws.{length-bytes_of_number, stored-number}
use Rattle.c_image.specs.faithful.StorageImage.{number_for}
use Rattle.c_image.specs.faithful.UnitsAtStart.{AreBytes}
use Rattle.c_image.specs.World.{World}
use Rattle.c_image.specs.Standing.{IsInRange, AreInRange, Stands}
use Rattle.c_image.specs.Addresses.{HasShape, IsSound}
use Rattle.c_image.specs.Held.{whole_for}
use Rattle.c_image_laws.specs.Meanings.{StandsAfter}
use Rattle.c_image_laws.proofs.ListLaws.{one_there}
use Rattle.c_image_laws.proofs.WrittenUnits.{IsWholeUnit, part_of_it, before_it, behind_it, whole_units, whole_written, length-with_whole, IsTextUnit, character_of_it, before_text, behind_text, gone_unit, text_units, text_written, length-with_characters}
use Rattle.c_image_laws.proofs.Replacing.{stands_alone, replaced, written_stands}

-- ## What is in range

whole_in_range : (w : Whole) (first : ℕ) (cells : List Cell) → first + 4 ≤ length cells → in_range (number_for w) ≡ true → AreInRange cells → AreInRange (with_whole w first cells)
whole_in_range w first cells fits holds old place cell there = by (whole_units w first cells place cell fits there)
  where
    by : IsWholeUnit w first cells place cell → IsInRange cell
    by (part_of_it i at inside is) = subst IsInRange (sym is) holds
    by (before_it less was) = old place cell was
    by (behind_it i at was) = old place cell was

pub is_in : {A : Type 0} (xs : List A) (i : ℕ) (x : A) → slice_get xs i ≡ Some x → IsIn x xs
is_in [] i x there = absurd (cc)
is_in (a ∷ xs) zero x there = let same : a ≡ x = one_there (Some a) a x refl there in subst (λ b. IsIn b (a ∷ xs)) same first_in
is_in (a ∷ xs) (suc i) x there = later_in (is_in xs i x there)

text_in_range : (cs : List ℕ) (first : ℕ) (cells : List Cell) → first + length cs ≤ length cells → AreBytes cs → AreInRange cells → AreInRange (with_characters cs first cells)
text_in_range cs first cells fits bytes old place cell there = by (text_units cs first cells place cell fits there)
  where
    by : IsTextUnit cs first cells place cell → IsInRange cell
    by (character_of_it i c at found is) = subst IsInRange (sym is) (bytes c (is_in cs i c found))
    by (before_text less was) = old place cell was
    by (behind_text i at was) = old place cell was
    by (gone_unit is) = subst IsInRange (sym is) tt

-- ## What a definition stores

-- a value in four parts
pub whole_defined : (μ : World) (s : Store) (objects : List Object) (n object first : ℕ) (q : Sequence) (w : Whole) → Stands μ s objects → slice_get s n ≡ Some q → q.read_only ≡ false →
    μ.homes n ≡ Some object → first % 4 ≡ 0 → first + 4 ≤ length q.cells → in_range (number_for w) ≡ true →
    StandsAfter μ (slice_set s n (replaced (with_whole w first q.cells)))
    (λ later. stored objects (record { at = Pointer object first; access = ToNumber }) (Number (number_for w)) ≡ Ok later)
whole_defined μ s objects n object first q w stands is free home aligned fits holds =
    let there = stands_alone μ s objects n object q stands is free home in
    let room = there.room in
    let size = length-bytes_of_number (number_for w) in
    record {
      objects = slice_set objects object (Bytes (overlaid first (bytes_of_number (number_for w)) there.bytes));
      stored = stored-number objects object first (number_for w) there.bytes there.at aligned (omega (arith, fits, room));
      stands = written_stands μ s objects n object first q (bytes_of_number (number_for w)) (with_whole w first q.cells) stands there
          (length-with_whole w first q.cells fits) (whole_in_range w first q.cells fits holds (stands.housed n q is).in_range) (omega (arith, fits, size))
          (λ place byte cell found has. whole_written w first q.cells place byte cell fits found has);
    }

-- the sequence of a place that is defined
pub record IsDefined (s : Store) (p : Spot) (cells : List Cell → Checked (List Cell)) (later : Store) : Type 0 where
  pub sequence : Sequence
  pub is : slice_get s p.sequence ≡ Some sequence
  pub free : sequence.read_only ≡ false
  pub within : p.width ≤ p.extent
  pub fits : p.first + p.width ≤ length sequence.cells
  pub stored : stored_in s p.sequence (cells sequence.cells) ≡ Gives later

both_hold : (a b : Bool) → (a && b) ≡ true → (a ≡ true) × (b ≡ true)
both_hold true b holds = (refl, holds)
both_hold false b holds = absurd (cc)

defined_there : (s : Store) (p : Spot) (cells : List Cell → Checked (List Cell)) (later : Store) (q : Sequence) → slice_get s p.sequence ≡ Some q →
    (locked room : Bool) → q.read_only ≡ locked → has_room p q.cells ≡ room →
    (if locked then Fails DefinesReadOnly else if room then stored_in s p.sequence (cells q.cells) else Fails PastExtent) ≡ Gives later → IsDefined s p cells later
unfolding has_room
defined_there s p cells later q is true room free fits gives = absurd (cc)
defined_there s p cells later q is false false free fits gives = absurd (cc)
defined_there s p cells later q is false true free fits gives =
    let both = both_hold (nat_le p.width p.extent) (nat_le (p.first + p.width) (length q.cells)) fits in
    record {
      sequence = q;
      is = is;
      free = free;
      within = leb-true p.width p.extent both.0;
      fits = leb-true (p.first + p.width) (length q.cells) both.1;
      stored = gives;
    }

defined_by : (s : Store) (p : Spot) (d : Datum) (later : Store) (found : Option Sequence) → slice_get s p.sequence ≡ found → define_in s p d found ≡ Gives later →
    IsDefined s p (defined_as p.basic p d) later
unfolding define_in
defined_by s p d later None is gives = absurd (cc)
defined_by s p d later (Some q) is gives = defined_there s p (defined_as p.basic p d) later q is q.read_only (has_room p q.cells) refl refl gives

pub is_defined : (s : Store) (p : Spot) (d : Datum) (later : Store) → define s p d ≡ Gives later → IsDefined s p (defined_as p.basic p d) later
unfolding define
is_defined s p d later gives = defined_by s p d later (slice_get s p.sequence) refl gives

-- the store after cells were stored
stored_is : (s later : Store) (n : ℕ) (given : Checked (List Cell)) (cells : List Cell) → given ≡ Gives cells → stored_in s n given ≡ Gives later → slice_set s n (replaced cells) ≡ later
unfolding stored_in
stored_is s later n given cells is gives =
    let now : Gives (slice_set s n (replaced cells)) ≡ Gives later = sym (ap (stored_in s n) is) ∙ gives in cc

-- a number or a truth value is defined in four units
number_defined_as : (basic : Basic) (p : Spot) (d : Datum) (w : Whole) (s later : Store) (cells : List Cell) → HasShape basic p → whole_for d ≡ Some w →
    stored_in s p.sequence (defined_as basic p d cells) ≡ Gives later →
    (defined_as basic p d cells ≡ Gives (with_whole w p.first cells)) × (p.first % 4 ≡ 0) × (p.width ≡ 4)
unfolding defined_as stored_in
number_defined_as Integer p (IsInt z) w s later cells shaped is gives =
    let same : store.Number z ≡ w = one_there (Some (store.Number z)) (store.Number z) w refl is in
    (ap (λ v. Gives (with_whole v p.first cells)) same, shaped.0, shaped.1)
number_defined_as Logical p (IsLog b) w s later cells shaped is gives =
    let same : store.Truth b ≡ w = one_there (Some (store.Truth b)) (store.Truth b) w refl is in
    (ap (λ v. Gives (with_whole v p.first cells)) same, shaped.0, shaped.1)
number_defined_as Character p (IsText cs) w s later cells shaped is gives = absurd (cc)
number_defined_as _ p d w s later cells shaped is gives = absurd (cc)

-- Once a number or a truth value is defined at a place and stored where the place stands, the whole store stands
pub number_defined : (μ : World) (s later : Store) (objects : List Object) (p : Spot) (object : ℕ) (d : Datum) (w : Whole) → Stands μ s objects → IsSound μ p → μ.homes p.sequence ≡ Some object →
    define s p d ≡ Gives later → whole_for d ≡ Some w → in_range (number_for w) ≡ true →
    StandsAfter μ later (λ after. stored objects (record { at = Pointer object p.first; access = ToNumber }) (Number (number_for w)) ≡ Ok after)
number_defined μ s later objects p object d w stands sound home gives is holds =
    let place = is_defined s p d later gives in
    let defined = number_defined_as p.basic p d w s later place.sequence.cells sound.shaped is place.stored in
    let fits = place.fits in
    let width = defined.2 in
    subst (λ t. StandsAfter μ t (λ after. stored objects (record { at = Pointer object p.first; access = ToNumber }) (Number (number_for w)) ≡ Ok after))
    (stored_is s later p.sequence (defined_as p.basic p d place.sequence.cells) (with_whole w p.first place.sequence.cells) defined.0 place.stored)
    (whole_defined μ s objects p.sequence object p.first place.sequence w stands place.is place.free home defined.1 (omega (arith, fits, width)) holds)

-- ## Labels

labelled_by : (s : Store) (p : Spot) (owner : fortran.Bytes) (number : ℕ) (later : Store) (found : Option Sequence) → slice_get s p.sequence ≡ found → labelled_in s p owner number found ≡ Gives later →
    IsDefined s p (λ cells. Gives (with_whole (Label owner number) p.first cells)) later
unfolding labelled_in
labelled_by s p owner number later None is gives = absurd (cc)
labelled_by s p owner number later (Some q) is gives =
    defined_there s p (λ cells. Gives (with_whole (Label owner number) p.first cells)) later q is q.read_only (has_room p q.cells) refl refl gives

-- Once a label is assigned to a place and its number stored where the place stands, the whole store stands
pub label_defined : (μ : World) (s later : Store) (objects : List Object) (p : Spot) (object : ℕ) (owner : fortran.Bytes) (number : ℕ) → Stands μ s objects → p.first % 4 ≡ 0 → p.width ≡ 4 →
    μ.homes p.sequence ≡ Some object → define_label s p owner number ≡ Gives later → in_range (number_for (Label owner number)) ≡ true →
    StandsAfter μ later (λ after. stored objects (record { at = Pointer object p.first; access = ToNumber }) (Number (number_for (Label owner number))) ≡ Ok after)
unfolding define_label
label_defined μ s later objects p object owner number stands aligned width home gives holds =
    let place = labelled_by s p owner number later (slice_get s p.sequence) refl gives in
    let fits = place.fits in
    subst (λ t. StandsAfter μ t (λ after. stored objects (record { at = Pointer object p.first; access = ToNumber }) (Number (number_for (Label owner number))) ≡ Ok after))
    (stored_is s later p.sequence (Gives (with_whole (Label owner number) p.first place.sequence.cells)) (with_whole (Label owner number) p.first place.sequence.cells) refl place.stored)
    (whole_defined μ s objects p.sequence object p.first place.sequence (Label owner number) stands place.is place.free home aligned (omega (arith, fits, width)) holds)

-- ## Texts

-- a text is cut or filled in one way
none_taken : (n : ℕ) → take {A = ℕ} n [] ≡ []
none_taken zero = refl
none_taken (suc n) = refl

taken_in_front : (n : ℕ) (xs ys : List ℕ) → take n (xs ++ ys) ≡ take n xs ++ take (n - length xs) ys
taken_in_front n [] ys =
    let same : n - 0 ≡ n = omega arith in
    ap (λ m. take m ys) (sym same) ∙ ap (λ front. front ++ take (n - 0) ys) (sym (none_taken n))
taken_in_front zero (x ∷ xs) ys = let none : 0 ≡ 0 - suc (length xs) = omega arith in ap (λ m. take m ys) none
taken_in_front (suc n) (x ∷ xs) ys =
    let same : n - length xs ≡ suc n - suc (length xs) = omega arith in
    ap (λ list. x ∷ list) (taken_in_front n xs ys) ∙ ap (λ m. x ∷ (take n xs ++ take m ys)) same

all_taken : {A : Type 0} (n : ℕ) (x : A) → take n (replicate n x) ≡ replicate n x
all_taken zero x = refl
all_taken (suc n) x = ap (λ list. x ∷ list) (all_taken n x)

pub fitted_alike : (size : ℕ) (cs : List ℕ) → library.fitted size cs ≡ fitted size cs
unfolding fitted
fitted_alike size cs = taken_in_front size cs (replicate (size - length cs) 32) ∙ ap (λ list. take size cs ++ list) (all_taken (size - length cs) 32)

pub length-fitted : (size : ℕ) (cs : List ℕ) → length (fitted size cs) ≡ size
unfolding fitted
length-fitted size cs =
    let whole = length-append (take size cs) (replicate (size - length cs) 32) in
    let front = length-take size cs in
    let rest : length {A = ℕ} (replicate (size - length cs) 32) ≡ size - length cs = length-replicate {A = ℕ} (size - length cs) 32 in
    omega (arith, whole, front, rest)

none_in : {A : Type 0} {x : A} → IsIn x [] → ⊥
none_in inside = elim inside [ ]

taken_in : (n : ℕ) (cs : List ℕ) (byte : ℕ) → IsIn byte (take n cs) → IsIn byte cs
taken_in zero cs byte inside = absurd (none_in inside)
taken_in (suc n) [] byte inside = inside
taken_in (suc n) (c ∷ cs) byte first_in = first_in
taken_in (suc n) (c ∷ cs) byte (later_in inside) = later_in (taken_in n cs byte inside)

in_both : (P : Type 0) (xs ys : List ℕ) (byte : ℕ) → (IsIn byte xs → P) → (IsIn byte ys → P) → IsIn byte (xs ++ ys) → P
in_both P [] ys byte front back inside = back inside
in_both P (x ∷ xs) ys byte front back first_in = front first_in
in_both P (x ∷ xs) ys byte front back (later_in inside) = in_both P xs ys byte (λ i. front (later_in i)) back inside

of_replicate : (n : ℕ) (byte : ℕ) → IsIn byte (replicate n 32) → byte < 256
of_replicate zero byte inside = absurd (none_in inside)
of_replicate (suc n) byte first_in = omega arith
of_replicate (suc n) byte (later_in inside) = of_replicate n byte inside

pub fitted_bytes : (size : ℕ) (cs : List ℕ) → AreBytes cs → AreBytes (fitted size cs)
unfolding fitted
fitted_bytes size cs bytes byte inside =
    in_both (byte < 256) (take size cs) (replicate (size - length cs) 32) byte (λ front. bytes byte (taken_in size cs byte front)) (of_replicate (size - length cs) byte) inside

-- a text is stored where there is room for it
pub text_put : (objects : List Object) (object first : ℕ) (text : List ℕ) (bytes : List (Option ℕ)) → slice_get objects object ≡ Some (Bytes bytes) → 0 < length text →
    first + length text ≤ length bytes → text_stored objects (Pointer object first) text ≡ Ok (slice_set objects object (Bytes (overlaid first text bytes)))
text_put objects object first [] bytes there some fits = absurd (omega (arith, some))
text_put objects object first (c ∷ cs) bytes there some fits =
    ap (λ found. after (with_text first (c ∷ cs) found) λ changed. Ok (slice_set objects object changed)) there ∙
    ap (λ test. after (if test then Ok (Bytes (overlaid first (c ∷ cs) bytes)) else failing Outside) λ changed. Ok (slice_set objects object changed))
    (le-leb (first + length (c ∷ cs)) (length bytes) fits)

pub characters_defined : (μ : World) (s : Store) (objects : List Object) (n object first : ℕ) (q : Sequence) (text : List ℕ) → Stands μ s objects → slice_get s n ≡ Some q → q.read_only ≡ false →
    μ.homes n ≡ Some object → 0 < length text → first + length text ≤ length q.cells → AreBytes text →
    StandsAfter μ (slice_set s n (replaced (with_characters text first q.cells))) (λ later. text_stored objects (Pointer object first) text ≡ Ok later)
characters_defined μ s objects n object first q text stands is free home some fits bytes =
    let there = stands_alone μ s objects n object q stands is free home in
    let room = there.room in
    record {
      objects = slice_set objects object (Bytes (overlaid first text there.bytes));
      stored = text_put objects object first text there.bytes there.at some (omega (arith, fits, room));
      stands = written_stands μ s objects n object first q text (with_characters text first q.cells) stands there
          (length-with_characters text first q.cells) (text_in_range text first q.cells fits bytes (stands.housed n q is).in_range) fits
          (λ place byte cell found has. text_written text first q.cells place byte cell fits found has);
    }

text_defined_as : (basic : Basic) (p : Spot) (cs : List ℕ) (s later : Store) (cells : List Cell) → HasShape basic p → stored_in s p.sequence (defined_as basic p (IsText cs) cells) ≡ Gives later →
    (defined_as basic p (IsText cs) cells ≡ Gives (with_characters (fitted p.width cs) p.first cells)) × (0 < p.width)
unfolding defined_as stored_in
text_defined_as Character p cs s later cells shaped gives = (refl, shaped)
text_defined_as _ p cs s later cells shaped gives = absurd (cc)

-- Once a text is defined at a place and stored, cut or filled, where the place stands, the whole store stands
pub text_defined : (μ : World) (s later : Store) (objects : List Object) (p : Spot) (object : ℕ) (cs : List ℕ) → Stands μ s objects → IsSound μ p → μ.homes p.sequence ≡ Some object →
    define s p (IsText cs) ≡ Gives later → AreBytes cs → StandsAfter μ later (λ after. text_stored objects (Pointer object p.first) (library.fitted p.width cs) ≡ Ok after)
text_defined μ s later objects p object cs stands sound home gives bytes =
    let place = is_defined s p (IsText cs) later gives in
    let defined = text_defined_as p.basic p cs s later place.sequence.cells sound.shaped place.stored in
    let size = length-fitted p.width cs in
    let fits = place.fits in
    let some = defined.1 in
    subst (λ t. StandsAfter μ t (λ after. text_stored objects (Pointer object p.first) (library.fitted p.width cs) ≡ Ok after))
    (stored_is s later p.sequence (defined_as p.basic p (IsText cs) place.sequence.cells) (with_characters (fitted p.width cs) p.first place.sequence.cells) defined.0 place.stored)
    (subst (λ text. StandsAfter μ (slice_set s p.sequence (replaced (with_characters (fitted p.width cs) p.first place.sequence.cells))) (λ after. text_stored objects (Pointer object p.first) text ≡ Ok after))
    (sym (fitted_alike p.width cs))
    (characters_defined μ s objects p.sequence object p.first place.sequence (fitted p.width cs) stands place.is place.free home (omega (arith, size, some)) (omega (arith, size, fits)) (fitted_bytes p.width cs bytes)))
