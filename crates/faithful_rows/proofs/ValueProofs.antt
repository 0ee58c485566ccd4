-- What stands in an object by its bytes is read there.
use Rattle.std.specs.Prelude.{◌≡◌, ℕ, zero, suc, ◌+◌, ◌%◌, ◌<◌, ◌≤◌, nat_le, ℤ, pos, negsuc, FitsSigned, Bool, true, false, ◌&&◌, List, [], ◌∷◌, length, get_or, take, drop, Option, Some, None, option_and_then, Ok, slice_get, if◌then◌else◌}
use Rattle.std.specs.Int.{w32, cast_signed, cast_unsigned}
use Rattle.std.proofs.Common.{refl, sym, ap, ◌∙◌, subst, arith}
use Rattle.std.proofs.Math.Facts.{Fits-of_z, Fits-lt-pow}
use Rattle.std.proofs.lemmas.Int.{to_z-of_z}
use Rattle.std.proofs.lemmas.Nat.{from_le_bytes-to_le_bytes_4}
use Rattle.std.proofs.lemmas.Bool.{le-leb, leb-true, eq-eqb}
use Rattle.faithful.specs.f_tree.Values.{in_range}
use Rattle.faithful.specs.f_tree.Store.{Store, Cell, Whole, Number, Truth, Label, Part, Chr}
use Rattle.faithful.specs.c_tree.declared.outcome.CValue.TheVariants as value
use Rattle.faithful.specs.c_tree.declared.outcome.CFault.TheVariants.{Outside}
use Rattle.faithful.specs.c_tree.Faults.{after, failing}
use Rattle.faithful.specs.c_tree.Access.{ToNumber, ToByte}
use Rattle.faithful.specs.c_tree.Objects.{Object, Bytes, Values, plain, all_set, bytes_at, number_from, byte_from, bytes_of_number, read_object, fetched}
use Rattle.faithful.specs.StorageImage.{byte_for, byte_of_object, cell_of, number_for}
use Rattle.faithful_rows.specs.Bullets.{PartsStand, ReadsNumber, ValuesAreRead}

-- ## Bytes that are set

pub record IsSet (object : Option Object) (place byte : ℕ) : Type 0 where
  pub bytes : List (Option ℕ)
  pub stands : object ≡ Some (Bytes bytes)
  pub there : slice_get bytes place ≡ Some (Some byte)

held_byte : (found : Option (Option ℕ)) (byte : ℕ) → option_and_then (λ b. b) found ≡ Some byte → found ≡ Some (Some byte)
held_byte None byte is = absurd (cc)
held_byte (Some b) byte is = ap Some is

set_by : (object : Option Object) (place byte : ℕ) → byte_of_object object place ≡ Some byte → IsSet object place byte
unfolding byte_of_object
set_by None place byte is = absurd (cc)
set_by (Some (Values held)) place byte is = absurd (cc)
set_by (Some (Bytes bytes)) place byte is = record { bytes = bytes; stands = refl; there = held_byte (slice_get bytes place) byte is }

-- ## One byte

pub record OneThere (first : ℕ) (bytes : List (Option ℕ)) (a : Option ℕ) : Type 0 where
  pub is : take 1 (drop first bytes) ≡ a ∷ []
  pub within : first + 1 ≤ length bytes

one_there : (first : ℕ) (bytes : List (Option ℕ)) (a : Option ℕ) → slice_get bytes first ≡ Some a → OneThere first bytes a
one_there zero [] a at = absurd (cc)
one_there zero (x ∷ rest) a at = let same : x ≡ a = cc in record { is = ap (λ y. y ∷ []) same; within = omega arith }
one_there (suc first) [] a at = absurd (cc)
one_there (suc first) (x ∷ rest) a at = let later = one_there first rest a at in let fits : first + 1 ≤ length rest = later.within in record { is = later.is; within = omega arith }

byte_read : (objects : List Object) (object place byte : ℕ) → byte_of_object (slice_get objects object) place ≡ Some byte →
    fetched objects (record { at = value.Pointer object place; access = ToByte }) ≡ Ok (plain (value.Number (pos byte)))
unfolding fetched
byte_read objects object place byte is =
    let set = set_by (slice_get objects object) place byte is in
    let one = one_there place set.bytes (Some byte) set.there in
    ap (read_object ToByte place) set.stands
    ∙ ap (λ test. after (if test then all_set (take 1 (drop place set.bytes)) else failing Outside) byte_from) (le-leb (place + 1) (length set.bytes) one.within)
    ∙ ap (λ some. after (all_set some) byte_from) one.is

-- ## Four bytes

pub record FourThere (first : ℕ) (bytes : List (Option ℕ)) (a b c d : Option ℕ) : Type 0 where
  pub is : take 4 (drop first bytes) ≡ a ∷ b ∷ c ∷ d ∷ []
  pub within : first + 4 ≤ length bytes

four_there : (first : ℕ) (bytes : List (Option ℕ)) (a b c d : Option ℕ) → slice_get bytes first ≡ Some a → slice_get bytes (suc first) ≡ Some b →
    slice_get bytes (suc (suc first)) ≡ Some c → slice_get bytes (suc (suc (suc first))) ≡ Some d → FourThere first bytes a b c d
four_there zero [] a b c d one two three four = absurd (cc)
four_there zero (w ∷ []) a b c d one two three four = absurd (cc)
four_there zero (w ∷ x ∷ []) a b c d one two three four = absurd (cc)
four_there zero (w ∷ x ∷ y ∷ []) a b c d one two three four = absurd (cc)
four_there zero (w ∷ x ∷ y ∷ z ∷ rest) a b c d one two three four =
    let first_is : w ≡ a = cc in
    let second_is : x ≡ b = cc in
    let third_is : y ≡ c = cc in
    let fourth_is : z ≡ d = cc in
    record { is = λ i. first_is i ∷ second_is i ∷ third_is i ∷ fourth_is i ∷ []; within = omega arith }
four_there (suc first) [] a b c d one two three four = absurd (cc)
four_there (suc first) (x ∷ rest) a b c d one two three four =
    let later = four_there first rest a b c d one two three four in
    let fits : first + 4 ≤ length rest = later.within in
    record { is = later.is; within = omega arith }

-- a number of 32 bits fits four bytes
both_hold : (a b : Bool) → (a && b) ≡ true → (a ≡ true) × (b ≡ true)
both_hold true b holds = (refl, holds)
both_hold false b holds = absurd (cc)

range_fits : (z : ℤ) → in_range z ≡ true → FitsSigned w32 z
unfolding in_range
range_fits (pos n) holds =
    let at_most = leb-true n 2147483647 holds in
    let below : n < 2147483648 = omega (arith, at_most) in
    record { sfits = below }
range_fits (negsuc n) holds =
    let at_most = leb-true n 2147483647 (both_hold (nat_le n 2147483647) true holds).0 in
    let below : n < 2147483648 = omega (arith, at_most) in
    record { sfits = below }

number_back : (z : ℤ) → in_range z ≡ true → number_from (bytes_of_number z) ≡ z
number_back z holds =
    ap (cast_signed w32) (from_le_bytes-to_le_bytes_4 (cast_unsigned w32 z) (Fits-lt-pow (Fits-of_z (range_fits z holds)))) ∙ to_z-of_z w32 z (range_fits z holds)

-- the bytes of a number
abbrev Bytewise : Option Object → ℕ → ℤ → Type 0
Bytewise object first z = (i byte : ℕ) → i < 4 → slice_get (bytes_of_number z) i ≡ Some byte → byte_of_object object (first + i) ≡ Some byte

bytes_same : (one other : List (Option ℕ)) (object : Option Object) → object ≡ Some (Bytes one) → object ≡ Some (Bytes other) → other ≡ one
bytes_same one other object is also = let same : Some (Bytes one) ≡ Some (Bytes other) = sym is ∙ also in cc

number_read : (objects : List Object) (object first : ℕ) (z : ℤ) → first % 4 ≡ 0 → in_range z ≡ true → Bytewise (slice_get objects object) first z → ReadsNumber objects object first z
unfolding fetched
number_read objects object first z aligned holds each =
    let there = slice_get objects object in
    let here : first + 0 ≡ first = omega arith in
    let next : first + 1 ≡ suc first = omega arith in
    let third : first + 2 ≡ suc (suc first) = omega arith in
    let last : first + 3 ≡ suc (suc (suc first)) = omega arith in
    let byte : ℕ → ℕ = λ i. get_or (bytes_of_number z) i 0 in
    let one = set_by there first (byte 0) (subst (λ p. byte_of_object there p ≡ Some (byte 0)) here (each 0 (byte 0) (omega arith) refl)) in
    let two = set_by there (suc first) (byte 1) (subst (λ p. byte_of_object there p ≡ Some (byte 1)) next (each 1 (byte 1) (omega arith) refl)) in
    let three = set_by there (suc (suc first)) (byte 2) (subst (λ p. byte_of_object there p ≡ Some (byte 2)) third (each 2 (byte 2) (omega arith) refl)) in
    let four = set_by there (suc (suc (suc first))) (byte 3) (subst (λ p. byte_of_object there p ≡ Some (byte 3)) last (each 3 (byte 3) (omega arith) refl)) in
    let all = four_there first one.bytes (Some (byte 0)) (Some (byte 1)) (Some (byte 2)) (Some (byte 3)) one.there
    (subst (λ bytes. slice_get bytes (suc first) ≡ Some (Some (byte 1))) (bytes_same one.bytes two.bytes there one.stands two.stands) two.there)
    (subst (λ bytes. slice_get bytes (suc (suc first)) ≡ Some (Some (byte 2))) (bytes_same one.bytes three.bytes there one.stands three.stands) three.there)
    (subst (λ bytes. slice_get bytes (suc (suc (suc first))) ≡ Some (Some (byte 3))) (bytes_same one.bytes four.bytes there one.stands four.stands) four.there) in
    ap (read_object ToNumber first) one.stands
    ∙ ap (λ test. after (if test then after (bytes_at first 4 one.bytes) (λ four. Ok (number_from four)) else failing Outside) (λ number. Ok (plain (value.Number number))))
    (eq-eqb (first % 4) 0 aligned)
    ∙ ap (λ test. after (after (if test then all_set (take 4 (drop first one.bytes)) else failing Outside) (λ four. Ok (number_from four))) (λ number. Ok (plain (value.Number number))))
    (le-leb (first + 4) (length one.bytes) all.within)
    ∙ ap (λ some. after (after (all_set some) (λ four. Ok (number_from four))) (λ number. Ok (plain (value.Number number)))) all.is
    ∙ ap (λ number. Ok (plain (value.Number number))) (number_back z holds)

-- ## Values

-- every defined unit of a sequence stands in an object by its byte
abbrev pub StandsIn : Store → List Object → ℕ → ℕ → Type 0
StandsIn store objects sequence object =
    (place byte : ℕ) (cell : Cell) → cell_of (slice_get store sequence) place ≡ Some cell → byte_for cell ≡ Some byte → byte_of_object (slice_get objects object) place ≡ Some byte

parts_read : (store : Store) (objects : List Object) (sequence object first : ℕ) (whole : Whole) → StandsIn store objects sequence object → in_range (number_for whole) ≡ true →
    PartsStand store sequence first whole → ReadsNumber objects object first (number_for whole)
unfolding byte_for
parts_read store objects sequence object first whole stands holds parts =
    number_read objects object first (number_for whole) parts.aligned holds
    (λ i byte below is. stands (first + i) byte (Part whole i) (parts.parts i below) is)

truth_in_range : (b : Bool) → in_range (number_for (Truth b)) ≡ true
unfolding in_range
truth_in_range true = refl
truth_in_range false = refl

truth_number : (b : Bool) → number_for (Truth b) ≡ (if b then pos 1 else pos 0)
truth_number true = refl
truth_number false = refl

pub values_are_read : (store : Store) (objects : List Object) (sequence object : ℕ) → StandsIn store objects sequence object → ValuesAreRead store objects sequence object
unfolding byte_for
values_are_read store objects sequence object stands = record {
  integers = λ first z holds parts. parts_read store objects sequence object first (Number z) stands holds parts;
  truths = λ first b parts.
      subst (ReadsNumber objects object first) (truth_number b) (parts_read store objects sequence object first (Truth b) stands (truth_in_range b) parts);
  labels = λ first number owner holds parts. parts_read store objects sequence object first (Label owner number) stands holds parts;
  characters = λ place character is. byte_read objects object place character (stands place character (Chr character) is refl);
}
