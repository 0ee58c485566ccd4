-- A value that is fetched in FORTRAN is the one that C reads where it stands.
use Rattle.std.specs.Prelude.{◌≡◌, ℕ, zero, suc, ◌+◌, ◌%◌, ◌<◌, ◌≤◌, nat_le, nat_eq, ℤ, pos, negsuc, FitsSigned, Bool, true, false, ◌&&◌, bytes_eq, List, [], ◌∷◌, map, length, take, drop, Option, Some, None, Ok, option_map, slice_get, if◌then◌else◌}
use Rattle.std.specs.Int.{w32}
use Rattle.std.proofs.Common.{refl, sym, ap, ◌∙◌, subst, arith}
use Rattle.std.proofs.lemmas.Bool.{leb-true, eqb-true}
use Rattle.std.proofs.lemmas.Bool.Decides.{Decides-int_eq}
use Rattle.std.proofs.lemmas.Option.{slice_get_within, slice_get-map}
use Rattle.std.proofs.lemmas.List.{length-map, length-take-le, length-drop}
use Rattle.c_image.specs.f_tree.declared.names.Basic.{Basic}
use Rattle.c_image.specs.f_tree.declared.names.Basic.TheVariants.{Integer, Logical, Character, Untyped}
use Rattle.c_image.specs.f_tree.Values as fortran
use Rattle.c_image.specs.f_tree.Values.{Spot, Datum, IsInt, IsLog, IsText, IsSpot, IsProc, IsLabel, Nothing, Checked, Gives, Fails}
use Rattle.c_image.specs.f_tree.Store.{Store, Sequence, Cell, Undefined, Chr, Part, Whole, Truth, Label, same_truth, same_whole, whole_of, whole_at, value_of_type, with_first, characters, as_text, fetch_as, fetch_from, fetch_in, fetch, label_of_whole, label_in, label_at, store_opened}
use Rattle.c_image.specs.f_tree.Store as store
use Rattle.c_laws.specs.c_tree.declared.outcome.CValue.TheVariants.{Number, Pointer}
use Rattle.c_laws.specs.c_tree.Faults.{after}
use Rattle.c_laws.specs.c_tree.Access.{ToNumber, ToByte}
use Rattle.c_laws.specs.c_tree.Objects.{Object, Bytes, plain, all_set, bytes_at, bytes_of_number, byte_from, read_object, fetched}
use Rattle.c_laws.specs.c_tree.LibraryArguments.{text_at, text_through, text_in}
use Rattle.c_laws.proofs.ObjectLaws.{all_set-map, bytes_at-within, number_at-aligned, number_from-bytes_of_number, fetched-number, length-bytes_of_number}
use Rattle.c_image.specs.faithful.StorageImage.{number_for, byte_for}
use Rattle.c_image.specs.World.{World}
use Rattle.c_image.specs.Standing.{HasRoom, IsHoused, Stands}
use Rattle.c_image.specs.Addresses.{HasShape, IsSound}
use Rattle.c_image.specs.Held.{whole_for}
use Rattle.c_image_laws.proofs.ListLaws.{one_there, taken_by_each, within_taken}
use Rattle.c_image_laws.proofs.Replacing.{follows}

-- ## Numbers of 32 bits

both_hold : (a b : Bool) → (a && b) ≡ true → (a ≡ true) × (b ≡ true)
both_hold true b holds = (refl, holds)
both_hold false b holds = absurd (cc)

-- a number of 32 bits fits four bytes
pub range_fits : (z : ℤ) → fortran.in_range z ≡ true → FitsSigned w32 z
unfolding fortran.in_range
range_fits (pos n) holds =
    let at_most = leb-true n 2147483647 holds in
    let below : n < 2147483648 = omega (arith, at_most) in
    record { sfits = below }
range_fits (negsuc n) holds =
    let at_most = leb-true n 2147483647 (both_hold (nat_le n 2147483647) true holds).0 in
    let below : n < 2147483648 = omega (arith, at_most) in
    record { sfits = below }

-- ## Bytes that stand from a place on

some_byte : (new : List ℕ) (i : ℕ) (y : Option ℕ) → slice_get (map Some new) i ≡ Some y → (byte : ℕ) × (slice_get new i ≡ Some byte) × (Some byte ≡ y)
some_byte new i y there = by (slice_get new i) refl (sym (slice_get-map Some new i) ∙ there)
  where
    by : (found : Option ℕ) → slice_get new i ≡ found → option_map Some found ≡ Some y → (byte : ℕ) × (slice_get new i ≡ Some byte) × (Some byte ≡ y)
    by None is at = absurd (cc)
    by (Some byte) is at = (byte, is, one_there (Some (Some byte)) (Some byte) y refl at)

pub bytes_laid : (new : List ℕ) (bytes : List (Option ℕ)) (first : ℕ) →
    ((i place byte : ℕ) → place ≡ first + i → slice_get new i ≡ Some byte → slice_get bytes place ≡ Some (Some byte)) → take (length new) (drop first bytes) ≡ map Some new
bytes_laid new bytes first each =
    ap (λ n. take n (drop first bytes)) (sym (length-map new Some)) ∙
    taken_by_each (map Some new) bytes first
    (λ i place y at there. let found = some_byte new i y there in each i place found.0 at found.1 ∙ ap Some found.2)

pub bytes_read : (new : List ℕ) (bytes : List (Option ℕ)) (first count : ℕ) → length new ≡ count → first + count ≤ length bytes →
    ((i place byte : ℕ) → place ≡ first + i → slice_get new i ≡ Some byte → slice_get bytes place ≡ Some (Some byte)) → bytes_at first count bytes ≡ Ok new
bytes_read new bytes first count size within each =
    bytes_at-within first count bytes within ∙
    ap (λ n. all_set (take n (drop first bytes))) (sym size) ∙
    ap all_set (bytes_laid new bytes first each) ∙
    all_set-map new

-- ## The four parts of a value

same_number : (a b : Whole) → same_whole a b ≡ true → number_for b ≡ number_for a
unfolding same_whole same_truth
same_number (store.Number a) (store.Number b) is = sym ((Decides-int_eq a b).0 is)
same_number (Truth true) (Truth true) is = refl
same_number (Truth true) (Truth false) is = absurd (cc)
same_number (Truth false) (Truth true) is = absurd (cc)
same_number (Truth false) (Truth false) is = refl
same_number (Label owner a) (Label other b) is = ap pos (sym (eqb-true a b (both_hold (bytes_eq owner other) (nat_eq a b) is).1))
same_number _ _ is = absurd (cc)

-- four parts of one number, the first of which is the value's
pub record AreParts (cells : List Cell) (w : Whole) : Type 0 where
  pub second : Whole
  pub third : Whole
  pub fourth : Whole
  pub are : cells ≡ Part w 0 ∷ Part second 1 ∷ Part third 2 ∷ Part fourth 3 ∷ []
  pub of_second : number_for second ≡ number_for w
  pub of_third : number_for third ≡ number_for w
  pub of_fourth : number_for fourth ≡ number_for w

parts_by : (a x y z w : Whole) (p q r : Bool) → same_whole a x ≡ p → same_whole a y ≡ q → same_whole a z ≡ r → (if p && (q && r) then Some a else None) ≡ Some w →
    AreParts (Part a 0 ∷ Part x 1 ∷ Part y 2 ∷ Part z 3 ∷ []) w
parts_by a x y z w true true true one other another is =
    let same : a ≡ w = one_there (Some a) a w refl is in
    subst (AreParts (Part a 0 ∷ Part x 1 ∷ Part y 2 ∷ Part z 3 ∷ [])) same
    (record { second = x; third = y; fourth = z; are = refl; of_second = same_number a x one; of_third = same_number a y other; of_fourth = same_number a z another })
parts_by a x y z w true true false one other another is = absurd (cc)
parts_by a x y z w true false r one other another is = absurd (cc)
parts_by a x y z w false q r one other another is = absurd (cc)

whole_parts : (cells : List Cell) (w : Whole) → whole_of cells ≡ Some w → AreParts cells w
unfolding whole_of
whole_parts (Part a zero ∷ Part x (suc zero) ∷ Part y (suc (suc zero)) ∷ Part z (suc (suc (suc zero))) ∷ []) w is =
    parts_by a x y z w (same_whole a x) (same_whole a y) (same_whole a z) refl refl refl is
whole_parts _ w is = absurd (cc)

-- what stands at each of the four places
part_there : (cells : List Cell) (first : ℕ) (w : Whole) → AreParts (take 4 (drop first cells)) w → (i place byte : ℕ) → place ≡ first + i → slice_get (bytes_of_number (number_for w)) i ≡ Some byte →
    (cell : Cell) × (slice_get cells place ≡ Some cell) × (byte_for cell ≡ Some byte)
unfolding byte_for
part_there cells first w parts i place byte at has = by i at has
  where
    there : (i : ℕ) (cell : Cell) → place ≡ first + i → slice_get (Part w 0 ∷ Part parts.second 1 ∷ Part parts.third 2 ∷ Part parts.fourth 3 ∷ []) i ≡ Some cell → slice_get cells place ≡ Some cell
    there i cell at found =
        within_taken (Part w 0 ∷ Part parts.second 1 ∷ Part parts.third 2 ∷ Part parts.fourth 3 ∷ []) cells first 4 parts.are i place cell at found

    by : (i : ℕ) → place ≡ first + i → slice_get (bytes_of_number (number_for w)) i ≡ Some byte → (cell : Cell) × (slice_get cells place ≡ Some cell) × (byte_for cell ≡ Some byte)
    by zero at has = (Part w 0, there 0 (Part w 0) at refl, has)
    by (suc zero) at has = (Part parts.second 1, there 1 (Part parts.second 1) at refl, ap (λ z. slice_get (bytes_of_number z) 1) parts.of_second ∙ has)
    by (suc (suc zero)) at has = (Part parts.third 2, there 2 (Part parts.third 2) at refl, ap (λ z. slice_get (bytes_of_number z) 2) parts.of_third ∙ has)
    by (suc (suc (suc zero))) at has = (Part parts.fourth 3, there 3 (Part parts.fourth 3) at refl, ap (λ z. slice_get (bytes_of_number z) 3) parts.of_fourth ∙ has)
    by (suc (suc (suc (suc i)))) at has = absurd (cc)

-- a value whose parts stand in a sequence is read as its number where the sequence stands
pub whole_read : (μ : World) (s : Store) (objects : List Object) (n object first : ℕ) (q : Sequence) (w : Whole) → Stands μ s objects → slice_get s n ≡ Some q → μ.homes n ≡ Some object →
    first % 4 ≡ 0 → whole_at first q.cells ≡ Some w → fetched objects (record { at = Pointer object first; access = ToNumber }) ≡ Ok (plain (Number (number_for w)))
unfolding whole_at
whole_read μ s objects n object first q w stands is home aligned whole =
    fetched-number objects object first (number_for w) room.bytes room.is
    (number_at-aligned first room.bytes (bytes_of_number (number_for w)) aligned (bytes_read (bytes_of_number (number_for w)) room.bytes first 4 (length-bytes_of_number (number_for w)) within each) ∙
    ap Ok (number_from-bytes_of_number (number_for w) (range_fits (number_for w) fits)))
  where
    parts : AreParts (take 4 (drop first q.cells)) w
    parts = whole_parts (take 4 (drop first q.cells)) w whole

    room : HasRoom (length q.cells) (slice_get objects object)
    room = (stands.housed n q is).room object home

    each : (i place byte : ℕ) → place ≡ first + i → slice_get (bytes_of_number (number_for w)) i ≡ Some byte → slice_get room.bytes place ≡ Some (Some byte)
    each i place byte at has =
        let found = part_there q.cells first w parts i place byte at has in
        follows μ s objects n object q room.bytes stands is home room.is place byte found.0 found.1 found.2

    there : (i : ℕ) (cell : Cell) → slice_get (Part w 0 ∷ Part parts.second 1 ∷ Part parts.third 2 ∷ Part parts.fourth 3 ∷ []) i ≡ Some cell → slice_get q.cells (first + i) ≡ Some cell
    there i cell found =
        within_taken (Part w 0 ∷ Part parts.second 1 ∷ Part parts.third 2 ∷ Part parts.fourth 3 ∷ []) q.cells first 4 parts.are i (first + i) cell refl found

    fits : fortran.in_range (number_for w) ≡ true
    fits = (stands.housed n q is).in_range (first + 0) (Part w 0) (there 0 (Part w 0) refl)

    within : first + 4 ≤ length room.bytes
    within =
        let last = slice_get_within q.cells (first + 3) (Part parts.fourth 3) (there 3 (Part parts.fourth 3) refl) in
        let room_for = room.room in
        omega (arith, last, room_for)

-- ## What a fetch finds

-- the sequence of a place that is fetched
pub record IsFetched (s : Store) (p : Spot) (d : Datum) : Type 0 where
  pub sequence : Sequence
  pub is : slice_get s p.sequence ≡ Some sequence
  pub within : p.width ≤ p.extent
  pub found : fetch_as p.basic p sequence.cells ≡ Gives d

fetched_by : (s : Store) (p : Spot) (d : Datum) (found : Option Sequence) → slice_get s p.sequence ≡ found → fetch_in p found ≡ Gives d → IsFetched s p d
unfolding fetch_in fetch_from
fetched_by s p d None is gives = absurd (cc)
fetched_by s p d (Some q) is gives = by (nat_le p.width p.extent) refl gives
  where
    by : (test : Bool) → nat_le p.width p.extent ≡ test → (if test then fetch_from p q.cells else Fails fortran.PastExtent) ≡ Gives d → IsFetched s p d
    by true holds gives = record { sequence = q; is = is; within = leb-true p.width p.extent holds; found = gives }
    by false holds gives = absurd (cc)

pub is_fetched : (s : Store) (p : Spot) (d : Datum) → fetch s p ≡ Gives d → IsFetched s p d
unfolding fetch
is_fetched s p d gives = fetched_by s p d (slice_get s p.sequence) refl gives

number_found : (basic : Basic) (found : Option Whole) (d : Datum) (w : Whole) → value_of_type basic found ≡ Gives d → whole_for d ≡ Some w → found ≡ Some w
unfolding value_of_type
number_found Integer (Some (store.Number z)) d w gives is = let same : IsInt z ≡ d = cc in ap whole_for same ∙ is
number_found Logical (Some (Truth b)) d w gives is = let same : IsLog b ≡ d = cc in ap whole_for same ∙ is
number_found _ _ d w gives is = absurd (cc)

pub text_is_no_number : (found : Checked fortran.Bytes) (d : Datum) (w : Whole) → as_text found ≡ Gives d → whole_for d ≡ Some w → ⊥
unfolding as_text
text_is_no_number (Gives cs) d w gives is = let same : IsText cs ≡ d = cc in let none : None ≡ Some w = ap whole_for same ∙ is in cc
text_is_no_number (Fails act) d w gives is = cc

whole_found : (basic : Basic) (p : Spot) (cells : List Cell) (d : Datum) (w : Whole) → HasShape basic p → fetch_as basic p cells ≡ Gives d → whole_for d ≡ Some w →
    (whole_at p.first cells ≡ Some w) × (p.first % 4 ≡ 0)
unfolding fetch_as value_of_type
whole_found Integer p cells d w shaped gives is = (number_found Integer (whole_at p.first cells) d w gives is, shaped.0)
whole_found Logical p cells d w shaped gives is = (number_found Logical (whole_at p.first cells) d w gives is, shaped.0)
whole_found Character p cells d w shaped gives is = absurd (text_is_no_number (characters (take p.width (drop p.first cells))) d w gives is)
whole_found Untyped p cells d w shaped gives is = absurd (untyped (whole_at p.first cells) gives)
  where
    untyped : (found : Option Whole) → value_of_type Untyped found ≡ Gives d → ⊥
    untyped None gives = cc
    untyped (Some (store.Number z)) gives = cc
    untyped (Some (Truth b)) gives = cc
    untyped (Some (Label owner l)) gives = cc

-- A number or a truth value that is fetched at a place is read where the place stands
pub number_fetched : (μ : World) (s : Store) (objects : List Object) (p : Spot) (object : ℕ) (d : Datum) (w : Whole) → Stands μ s objects → IsSound μ p → μ.homes p.sequence ≡ Some object →
    fetch s p ≡ Gives d → whole_for d ≡ Some w → fetched objects (record { at = Pointer object p.first; access = ToNumber }) ≡ Ok (plain (Number (number_for w)))
number_fetched μ s objects p object d w stands sound home gives is =
    let place = is_fetched s p d gives in
    let found = whole_found p.basic p place.sequence.cells d w sound.shaped place.found is in
    whole_read μ s objects p.sequence object p.first place.sequence w stands place.is home found.1 found.0

-- ## Labels

label_found : (found : Option Whole) (w : Whole) → label_of_whole found ≡ Gives w → found ≡ Some w
unfolding label_of_whole
label_found (Some (Label owner l)) w gives = let same : Label owner l ≡ w = cc in ap Some same
label_found _ w gives = absurd (cc)

-- A label that was assigned to a place is read as its number
pub label_fetched : (μ : World) (s : Store) (objects : List Object) (p : Spot) (object : ℕ) (w : Whole) → Stands μ s objects → p.first % 4 ≡ 0 → μ.homes p.sequence ≡ Some object →
    label_at s p ≡ Gives w → fetched objects (record { at = Pointer object p.first; access = ToNumber }) ≡ Ok (plain (Number (number_for w)))
unfolding label_at label_in
label_fetched μ s objects p object w stands aligned home gives = by (slice_get s p.sequence) refl gives
  where
    by : (found : Option Sequence) → slice_get s p.sequence ≡ found → label_in p found ≡ Gives w → fetched objects (record { at = Pointer object p.first; access = ToNumber }) ≡ Ok (plain (Number (number_for w)))
    by None is gives = absurd (cc)
    by (Some q) is gives = within (nat_le p.width p.extent) gives
      where
        within : (test : Bool) → (if test then label_of_whole (whole_at p.first q.cells) else Fails fortran.PastExtent) ≡ Gives w →
            fetched objects (record { at = Pointer object p.first; access = ToNumber }) ≡ Ok (plain (Number (number_for w)))
        within true gives = whole_read μ s objects p.sequence object p.first q w stands is home aligned (label_found (whole_at p.first q.cells) w gives)
        within false gives = absurd (cc)

-- ## Texts

-- the units are the characters of a text
pub are_characters : (cells : List Cell) (cs : fortran.Bytes) → characters cells ≡ Gives cs → cells ≡ map Chr cs
unfolding characters with_first
are_characters [] cs gives = let same : [] ≡ cs = cc in ap (map Chr) same
are_characters (Chr c ∷ cells) cs gives = by (characters cells) refl (are_characters cells) gives
  where
    by : (later : Checked fortran.Bytes) → characters cells ≡ later → ((ds : fortran.Bytes) → characters cells ≡ Gives ds → cells ≡ map Chr ds) → with_first c later ≡ Gives cs →
        (Chr c ∷ cells) ≡ map Chr cs
    by (Gives ds) is so gives = let same : (c ∷ ds) ≡ cs = cc in ap (λ list. Chr c ∷ list) (so ds is) ∙ ap (map Chr) same
    by (Fails act) is so gives = absurd (cc)
are_characters (Undefined ∷ cells) cs gives = absurd (cc)
are_characters (Part w i ∷ cells) cs gives = absurd (cc)

pub text_found : (basic : Basic) (p : Spot) (cells : List Cell) (cs : fortran.Bytes) → fetch_as basic p cells ≡ Gives (IsText cs) → take p.width (drop p.first cells) ≡ map Chr cs
unfolding fetch_as value_of_type as_text
text_found Character p cells cs gives = by (characters (take p.width (drop p.first cells))) refl gives
  where
    by : (found : Checked fortran.Bytes) → characters (take p.width (drop p.first cells)) ≡ found → as_text found ≡ Gives (IsText cs) → take p.width (drop p.first cells) ≡ map Chr cs
    by (Gives ds) is gives = let same : ds ≡ cs = cc in are_characters (take p.width (drop p.first cells)) ds is ∙ ap (map Chr) same
    by (Fails act) is gives = absurd (cc)
text_found basic p cells cs gives = absurd (no_text basic (whole_at p.first cells) gives)
  where
    no_text : (basic : Basic) (found : Option Whole) → value_of_type basic found ≡ Gives (IsText cs) → ⊥
    no_text Integer (Some (store.Number z)) gives = cc
    no_text Logical (Some (Truth b)) gives = cc
    no_text _ _ gives = cc

length-taken : (cells : List Cell) (first count : ℕ) → first + count ≤ length cells → length (take count (drop first cells)) ≡ count
length-taken cells first count fits = length-take-le count (drop first cells) (let size = length-drop first cells in omega (arith, size, fits))

-- a text that is fetched, with the bytes where it stands
pub record HasText (s : Store) (objects : List Object) (p : Spot) (object : ℕ) (cs : fortran.Bytes) : Type 0 where
  pub bytes : List (Option ℕ)
  pub is : slice_get objects object ≡ Some (Bytes bytes)
  pub long : length cs ≡ p.width
  pub within : p.first + p.width ≤ length bytes
  pub each : (i place byte : ℕ) → place ≡ p.first + i → slice_get cs i ≡ Some byte → slice_get bytes place ≡ Some (Some byte)

pub has_text : (μ : World) (s : Store) (objects : List Object) (p : Spot) (object : ℕ) (cs : fortran.Bytes) → Stands μ s objects → IsSound μ p → μ.homes p.sequence ≡ Some object →
    fetch s p ≡ Gives (IsText cs) → HasText s objects p object cs
unfolding byte_for
has_text μ s objects p object cs stands sound home gives =
    record { bytes = room.bytes; is = room.is; long = long; within = (let room_for = room.room in omega (arith, fits, room_for)); each = each }
  where
    place : IsFetched s p (IsText cs)
    place = is_fetched s p (IsText cs) gives

    cells : List Cell
    cells = place.sequence.cells

    housed : IsHoused μ objects p.sequence place.sequence
    housed = stands.housed p.sequence place.sequence place.is

    room : HasRoom (length cells) (slice_get objects object)
    room = housed.room object home

    characters_are : take p.width (drop p.first cells) ≡ map Chr cs
    characters_are = text_found p.basic p cells cs place.found

    fits : p.first + p.width ≤ length cells
    fits = let size = housed.sized in let inside = sound.inside in let width = place.within in omega (arith, size, inside, width)

    long : length cs ≡ p.width
    long = sym (length-map cs Chr) ∙ sym (ap length characters_are) ∙ length-taken cells p.first p.width fits

    each : (i at byte : ℕ) → at ≡ p.first + i → slice_get cs i ≡ Some byte → slice_get room.bytes at ≡ Some (Some byte)
    each i at byte is there =
        follows μ s objects p.sequence object place.sequence room.bytes stands place.is home room.is at byte (Chr byte)
        (within_taken (map Chr cs) cells p.first p.width characters_are i at (Chr byte) is (slice_get-map Chr cs i ∙ ap (option_map Chr) there)) refl

-- A text that is fetched at a place is read where the place stands
pub text_fetched : (μ : World) (s : Store) (objects : List Object) (p : Spot) (object : ℕ) (cs : fortran.Bytes) → Stands μ s objects → IsSound μ p → μ.homes p.sequence ≡ Some object →
    fetch s p ≡ Gives (IsText cs) → text_at objects (Pointer object p.first) p.width ≡ Ok cs
text_fetched μ s objects p object cs stands sound home gives = by (nat_eq p.width 0) refl
  where
    text : HasText s objects p object cs
    text = has_text μ s objects p object cs stands sound home gives

    none : (list : fortran.Bytes) → length list ≡ 0 → [] ≡ list
    none [] size = refl
    none (c ∷ list) size = absurd (omega (arith, size))

    by : (test : Bool) → nat_eq p.width 0 ≡ test → (if test then Ok [] else text_through objects (Pointer object p.first) p.width) ≡ Ok cs
    by true holds = ap Ok (none cs (text.long ∙ eqb-true p.width 0 holds))
    by false holds =
        ap (λ found. text_in found p.first p.width) text.is ∙
        bytes_read cs text.bytes p.first p.width text.long text.within text.each

-- The first character of a text is read where the text stands
pub character_fetched : (μ : World) (s : Store) (objects : List Object) (p : Spot) (object c : ℕ) (cs : fortran.Bytes) → Stands μ s objects → IsSound μ p → μ.homes p.sequence ≡ Some object →
    fetch s p ≡ Gives (IsText (c ∷ cs)) → fetched objects (record { at = Pointer object p.first; access = ToByte }) ≡ Ok (plain (Number (pos c)))
unfolding fetched
character_fetched μ s objects p object c cs stands sound home gives =
    ap (read_object ToByte p.first) text.is ∙
    ap (λ got. after got byte_from)
    (bytes_read (c ∷ []) text.bytes p.first 1 refl (let long = text.long in let within = text.within in omega (arith, long, within)) first_of)
  where
    text : HasText s objects p object (c ∷ cs)
    text = has_text μ s objects p object (c ∷ cs) stands sound home gives

    first_of : (i at byte : ℕ) → at ≡ p.first + i → slice_get (c ∷ []) i ≡ Some byte → slice_get text.bytes at ≡ Some (Some byte)
    first_of zero at byte is there = text.each 0 at byte is there
    first_of (suc i) at byte is there = absurd (cc)
