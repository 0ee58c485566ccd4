-- What a store changes and what it keeps: the number that was stored is read back, and no other object changes.
use Rattle.std.specs.Prelude.{nat_le, ◌≡◌, ◌≢◌, refl, ℕ, zero, suc, ◌+◌, ◌%◌, ◌<◌, ◌≤◌, nat_eq, ℤ, FitsSigned, List, [], ◌∷◌, ◌++◌, map, length, take, drop, Option, Some, Ok, slice_get, slice_set, if◌then◌else◌}
use Rattle.std.specs.Int.{w32, cast_signed, cast_unsigned}
use Rattle.std.proofs.Common.{sym, ◌∙◌, ap, subst, arith}
use Rattle.std.proofs.Math.Seq.{drop-append_seam, drop-append-add, take-append_seam}
use Rattle.std.proofs.Math.Facts.{Fits-of_z, Fits-lt-pow}
use Rattle.std.proofs.lemmas.List.{append_assoc, length-take-le, length-map, length-append, take-append-le, take-append-drop, drop-take, length-drop, length-set}
use Rattle.std.proofs.lemmas.Int.{to_z-of_z}
use Rattle.std.proofs.lemmas.Nat.{from_le_bytes-to_le_bytes_4}
use Rattle.std.proofs.lemmas.Bool.{le-leb}
use Rattle.c_tree.specs.declared.outcome.CValue.TheVariants.{Number, Pointer}
use Rattle.c_tree.specs.declared.outcome.CFault.TheVariants.{Outside}
use Rattle.c_tree.specs.Faults.{after, failing}
use Rattle.c_tree.specs.Access.{ToNumber}
use Rattle.c_tree.specs.Objects.{Object, Bytes, plain, all_set, bytes_at, number_from, number_at, bytes_of_number, overlaid, with_bytes, put_object, read_object, fetched, stored}

-- bytes that are all set
pub all_set-map : (bytes : List ℕ) → all_set (map Some bytes) ≡ Ok bytes
all_set-map [] = refl
all_set-map (byte ∷ rest) = ap (λ read. after read λ bytes. Ok (byte ∷ bytes)) (all_set-map rest)

-- the bytes that were laid over others
pub overlaid-slice : (offset : ℕ) (new : List ℕ) (bytes : List (Option ℕ)) → offset ≤ length bytes → take (length new) (drop offset (overlaid offset new bytes)) ≡ map Some new
overlaid-slice offset new bytes within =
    let front = take offset bytes in
    let middle = map Some new in
    let rest = drop (offset + length new) bytes in
    let at_front = length-take-le offset bytes within in
    let behind : drop offset (front ++ (middle ++ rest)) ≡ middle ++ rest =
    subst (λ n. drop n (front ++ (middle ++ rest)) ≡ middle ++ rest) at_front (drop-append_seam front (middle ++ rest)) in
    let cut : take (length new) (middle ++ rest) ≡ middle =
    subst (λ n. take n (middle ++ rest) ≡ middle) (length-map new Some) (take-append_seam middle rest) in
    ap (λ list. take (length new) (drop offset list)) (append_assoc front middle rest)
    ∙ ap (take (length new)) behind
    ∙ cut

-- a number is read back from its four bytes
pub number_from-bytes_of_number : (number : ℤ) → FitsSigned w32 number → number_from (bytes_of_number number) ≡ number
number_from-bytes_of_number number fits =
    ap (cast_signed w32) (from_le_bytes-to_le_bytes_4 (cast_unsigned w32 number) (Fits-lt-pow (Fits-of_z fits)))
    ∙ to_z-of_z w32 number fits

pub length-bytes_of_number : (number : ℤ) → length (bytes_of_number number) ≡ 4
length-bytes_of_number number = refl

pub length-overlaid : (offset : ℕ) (new : List ℕ) (bytes : List (Option ℕ)) → offset + length new ≤ length bytes → length (overlaid offset new bytes) ≡ length bytes
length-overlaid offset new bytes within =
    let front = take offset bytes in
    let middle = map Some new in
    let rest = drop (offset + length new) bytes in
    let whole = length-append (front ++ middle) rest in
    let two = length-append front middle in
    let of_front = length-take-le offset bytes (omega (arith, within)) in
    let of_middle = length-map new Some in
    let of_rest = length-drop (offset + length new) bytes in
    omega (arith, whole, two, of_front, of_middle, of_rest, within)

pub bytes_at-within : (offset count : ℕ) (bytes : List (Option ℕ)) → offset + count ≤ length bytes → bytes_at offset count bytes ≡ all_set (take count (drop offset bytes))
bytes_at-within offset count bytes within =
    ap (λ test. if test then all_set (take count (drop offset bytes)) else failing Outside) (le-leb (offset + count) (length bytes) within)

pub number_at-aligned : (offset : ℕ) (bytes : List (Option ℕ)) (four : List ℕ) → offset % 4 ≡ 0 → bytes_at offset 4 bytes ≡ Ok four → number_at offset bytes ≡ Ok (number_from four)
number_at-aligned offset bytes four aligned read =
    ap (λ at. if nat_eq at 0 then after (bytes_at offset 4 bytes) (λ four. Ok (number_from four)) else failing Outside) aligned
    ∙ ap (λ found. after found λ four. Ok (number_from four)) read

-- the number that was laid over four bytes is read from them
pub number_at-overlaid : (offset : ℕ) (number : ℤ) (bytes : List (Option ℕ)) → FitsSigned w32 number → offset % 4 ≡ 0 → offset + 4 ≤ length bytes → number_at offset (overlaid offset (bytes_of_number number) bytes) ≡ Ok number
number_at-overlaid offset number bytes fits aligned within =
    let new = bytes_of_number number in
    let size = length-overlaid offset new bytes within in
    let read : bytes_at offset 4 (overlaid offset new bytes) ≡ Ok new =
    bytes_at-within offset 4 (overlaid offset new bytes) (subst (λ n. offset + 4 ≤ n) (sym size) within)
    ∙ ap all_set (overlaid-slice offset new bytes (omega (arith, within)))
    ∙ all_set-map new in
    number_at-aligned offset (overlaid offset new bytes) new aligned read
    ∙ ap Ok (number_from-bytes_of_number number fits)

-- a number is stored in an object of bytes
pub stored-number : (objects : List Object) (object offset : ℕ) (number : ℤ) (bytes : List (Option ℕ)) → slice_get objects object ≡ Some (Bytes bytes) → offset % 4 ≡ 0 → offset + 4 ≤ length bytes → stored objects (record { at = Pointer object offset; access = ToNumber }) (Number number) ≡ Ok (slice_set objects object (Bytes (overlaid offset (bytes_of_number number) bytes)))
unfolding stored
stored-number objects object offset number bytes found aligned within =
    ap (λ held. after (put_object ToNumber offset (Number number) held) λ changed. Ok (slice_set objects object changed)) found
    ∙ ap (λ at. after (if nat_eq at 0 then with_bytes offset (bytes_of_number number) bytes else failing Outside) λ changed. Ok (slice_set objects object changed)) aligned
    ∙ ap (λ test. after (if test then Ok (Bytes (overlaid offset (bytes_of_number number) bytes)) else failing Outside) λ changed. Ok (slice_set objects object changed)) (le-leb (offset + 4) (length bytes) within)

-- a number is read from an object of bytes
pub fetched-number : (objects : List Object) (object offset : ℕ) (number : ℤ) (bytes : List (Option ℕ)) → slice_get objects object ≡ Some (Bytes bytes) → number_at offset bytes ≡ Ok number → fetched objects (record { at = Pointer object offset; access = ToNumber }) ≡ Ok (plain (Number number))
unfolding fetched
fetched-number objects object offset number bytes found read =
    ap (read_object ToNumber offset) found
    ∙ ap (λ got. after got λ number. Ok (plain (Number number))) read

-- the object that was set, and the others
pub slice_get-slice_set_same : {A : Type 0} → (list : List A) (index : ℕ) (new : A) → index < length list → slice_get (slice_set list index new) index ≡ Some new
slice_get-slice_set_same [] index new within = absurd (omega (arith, within))
slice_get-slice_set_same (first ∷ rest) zero new within = refl
slice_get-slice_set_same (first ∷ rest) (suc index) new within = slice_get-slice_set_same rest index new (omega (arith, within))

pub slice_get-slice_set_other : {A : Type 0} → (list : List A) (index other : ℕ) (new : A) → other ≢ index → slice_get (slice_set list index new) other ≡ slice_get list other
slice_get-slice_set_other [] index other new apart = refl
slice_get-slice_set_other (first ∷ rest) zero zero new apart = absurd (apart refl)
slice_get-slice_set_other (first ∷ rest) zero (suc other) new apart = refl
slice_get-slice_set_other (first ∷ rest) (suc index) zero new apart = refl
slice_get-slice_set_other (first ∷ rest) (suc index) (suc other) new apart = slice_get-slice_set_other rest index other new (λ same. apart (ap suc same))

pub length-slice_set : {A : Type 0} → (list : List A) (index : ℕ) (new : A) → length (slice_set list index new) ≡ length list
length-slice_set list index new = length-set list index new

-- what stands before the bytes that were laid over others stays
pub overlaid-before : (offset other count : ℕ) (new : List ℕ) (bytes : List (Option ℕ)) → other + count ≤ offset → offset ≤ length bytes → take count (drop other (overlaid offset new bytes)) ≡ take count (drop other bytes)
overlaid-before offset other count new bytes apart within =
    let front = take offset bytes in
    let behind = map Some new ++ drop (offset + length new) bytes in
    let fits : other + count ≤ length front = subst (λ n. other + count ≤ n) (sym (length-take-le offset bytes within)) apart in
    let changed : take (other + count) (overlaid offset new bytes) ≡ take (other + count) front =
    ap (take (other + count)) (append_assoc front (map Some new) (drop (offset + length new) bytes))
    ∙ take-append-le (other + count) front behind fits in
    let kept : take (other + count) bytes ≡ take (other + count) front =
    ap (take (other + count)) (sym (take-append-drop offset bytes))
    ∙ take-append-le (other + count) front (drop offset bytes) fits in
    sym (drop-take other count (overlaid offset new bytes))
    ∙ ap (drop other) (changed ∙ sym kept)
    ∙ drop-take other count bytes

-- what stands behind them stays
pub overlaid-behind : (offset distance : ℕ) (new : List ℕ) (bytes : List (Option ℕ)) → offset + length new ≤ length bytes → drop (offset + length new + distance) (overlaid offset new bytes) ≡ drop (offset + length new + distance) bytes
overlaid-behind offset distance new bytes within =
    let until = offset + length new in
    let front = take offset bytes ++ map Some new in
    let rest = drop until bytes in
    let size : length front ≡ until =
    let two = length-append (take offset bytes) (map Some new) in
    let of_front = length-take-le offset bytes (omega (arith, within)) in
    let of_middle = length-map new Some in
    omega (arith, two, of_front, of_middle) in
    let changed : drop (until + distance) (front ++ rest) ≡ drop distance rest =
    subst (λ n. drop (n + distance) (front ++ rest) ≡ drop distance rest) size (drop-append-add front rest distance) in
    let kept : drop (until + distance) (take until bytes ++ rest) ≡ drop distance rest =
    subst (λ n. drop (n + distance) (take until bytes ++ rest) ≡ drop distance rest) (length-take-le until bytes within) (drop-append-add (take until bytes) rest distance) in
    changed ∙ sym kept ∙ ap (drop (until + distance)) (take-append-drop until bytes)

pub number_at-same : (offset : ℕ) (old new : List (Option ℕ)) → length new ≡ length old → take 4 (drop offset new) ≡ take 4 (drop offset old) → number_at offset new ≡ number_at offset old
number_at-same offset old new size slice =
    let read : bytes_at offset 4 new ≡ bytes_at offset 4 old =
    ap (λ n. if nat_le (offset + 4) n then all_set (take 4 (drop offset new)) else failing Outside) size
    ∙ ap (λ four. if nat_le (offset + 4) (length old) then all_set four else failing Outside) slice in
    ap (λ found. if nat_eq (offset % 4) 0 then after found (λ four. Ok (number_from four)) else failing Outside) read

-- a store of a number keeps the numbers before it and behind it
pub number_at-before : (offset other : ℕ) (number : ℤ) (bytes : List (Option ℕ)) → other + 4 ≤ offset → offset + 4 ≤ length bytes → number_at other (overlaid offset (bytes_of_number number) bytes) ≡ number_at other bytes
number_at-before offset other number bytes apart within =
    number_at-same
    other
    bytes
    (overlaid offset (bytes_of_number number) bytes)
    (length-overlaid offset (bytes_of_number number) bytes within)
    (overlaid-before offset other 4 (bytes_of_number number) bytes apart (omega (arith, within)))

pub number_at-behind : (offset distance : ℕ) (number : ℤ) (bytes : List (Option ℕ)) → offset + 4 ≤ length bytes → number_at (offset + 4 + distance) (overlaid offset (bytes_of_number number) bytes) ≡ number_at (offset + 4 + distance) bytes
number_at-behind offset distance number bytes within =
    number_at-same
    (offset + 4 + distance)
    bytes
    (overlaid offset (bytes_of_number number) bytes)
    (length-overlaid offset (bytes_of_number number) bytes within)
    (ap (take 4) (overlaid-behind offset distance (bytes_of_number number) bytes within))
