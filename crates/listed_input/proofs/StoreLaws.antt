-- A text that is stored in pieces (C89, 3.3.16.1).
use Rattle.std.proofs.Common.{◌≡◌, ℕ, zero, suc, ◌+◌, ◌-◌, ◌≤◌, ◌<◌, Bool, true, false, if◌then◌else◌, List, [], ◌∷◌, ◌++◌, length, map, take, drop, replicate, Option, Some, None, refl, ap, sym, ◌∙◌, subst, arith, append_assoc, append-nil, length-append, length-drop}
use Rattle.std.specs.Prelude.{nat_le, min, slice_set, slice_get, Result, Ok, Err}
use Rattle.std.proofs.lemmas.Bool.Decides.{nat_tests}
use Rattle.std.proofs.lemmas.List.{length-take-le, length-map, map-append, take-replicate}
use Rattle.c_tree.specs.declared.outcome.CValue.{CValue}
use Rattle.c_tree.specs.declared.outcome.CValue.TheVariants.{Number, Pointer, Null, Function}
use Rattle.c_tree.specs.declared.outcome.CFault.{CFault}
use Rattle.c_tree.specs.declared.outcome.CFault.TheVariants.{Outside}
use Rattle.c_tree.specs.Faults.{Or, after, failing}
use Rattle.c_tree.specs.Objects.{Object, Bytes, Values, overlaid, with_bytes}
use Rattle.c_tree.specs.Declarations.{unset}
use Rattle.run_bytes.specs.Layout.{unset_object, Stores}
use Rattle.item_deeds.specs.Forms.{forms, SameForms}
use Rattle.item_deeds.proofs.FormLaws.{one-replaced, unchanged-forms}
use Rattle.listed_input.specs.declared.ends.ItemEnd.{ItemEnd}
use Rattle.listed_input.specs.declared.ends.ItemEnd.TheVariants as ends
use Rattle.listed_input.specs.Texts.{IsPlaceBehind, Written, PutsPiece, Pads}
use Rattle.listed_input.proofs.PastLaws.{text-there}
use Rattle.c_tree.specs.LibraryArguments.{with_text, store_text, text_stored, shifted, fitted}

-- ## Two texts, one behind the other, over the bytes of an object

take-past : (A : Type 0) (xs ys : List A) (n : ℕ) → take (length xs + n) (xs ++ ys) ≡ xs ++ take n ys
take-past A [] ys n = ap (λ (m : ℕ). take m ys) (let e : 0 + n ≡ n = omega arith in e)
take-past A (x ∷ xs) ys n =
    ap (λ (m : ℕ). take m ((x ∷ xs) ++ ys)) (let e : length (x ∷ xs) + n ≡ suc (length xs + n) = omega arith in e)
    ∙ ap (λ (rest : List A). x ∷ rest) (take-past A xs ys n)

drop-past : {A : Type 0} (xs ys : List A) (n : ℕ) → drop (length xs + n) (xs ++ ys) ≡ drop n ys
drop-past [] ys n = ap (λ (m : ℕ). drop m ys) (let e : 0 + n ≡ n = omega arith in e)
drop-past (x ∷ xs) ys n =
    ap (λ (m : ℕ). drop m ((x ∷ xs) ++ ys)) (let e : length (x ∷ xs) + n ≡ suc (length xs + n) = omega arith in e) ∙ drop-past xs ys n

drop-drop : {A : Type 0} (m n : ℕ) (xs : List A) → drop m (drop n xs) ≡ drop (n + m) xs
drop-drop m zero xs = ap (λ (k : ℕ). drop k xs) (let e : m ≡ 0 + m = omega arith in e)
drop-drop m (suc n) [] = by m ∙ ap (λ (k : ℕ). drop k []) (let e : suc (n + m) ≡ suc n + m = omega arith in e)
  where
    by : {A : Type 0} (m : ℕ) → drop {A = A} m [] ≡ drop {A = A} (suc (n + m)) []
    by zero = refl
    by (suc m) = refl
drop-drop m (suc n) (x ∷ xs) = drop-drop m n xs ∙ ap (λ (k : ℕ). drop k (x ∷ xs)) (let e : suc (n + m) ≡ suc n + m = omega arith in e)

-- ## Cutting a text to a length

pub take-none : {A : Type 0} (n : ℕ) → take {A = A} n [] ≡ []
take-none zero = refl
take-none (suc n) = refl

pub take-both : (A : Type 0) (n : ℕ) (xs ys : List A) → take n (xs ++ ys) ≡ take n xs ++ take (n - length xs) ys
take-both A n [] ys =
    ap (λ (m : ℕ). take m ys) (let e : n ≡ n - 0 = omega arith in e) ∙ ap (λ (none : List A). none ++ take (n - 0) ys) (sym (take-none n))
take-both A zero (x ∷ xs) ys = ap (λ (m : ℕ). take m ys) (let e : 0 ≡ 0 - length (x ∷ xs) = omega arith in e)
take-both A (suc n) (x ∷ xs) ys =
    ap (λ (rest : List A). x ∷ rest)
    (take-both A n xs ys ∙ ap (λ (m : ℕ). take n xs ++ take m ys) (let e : n - length xs ≡ suc n - length (x ∷ xs) = omega arith in e))

pub length-taken : {A : Type 0} (n : ℕ) (xs : List A) → n - length (take n xs) ≡ n - length xs
length-taken zero xs = omega arith
length-taken (suc n) [] = refl
length-taken (suc n) (x ∷ xs) = let rest : n - length (take n xs) ≡ n - length xs = length-taken n xs in omega (arith, rest)

-- a text with more behind it, cut to a length
pub take-behind : (A : Type 0) (n : ℕ) (xs ys : List A) → take n (xs ++ ys) ≡ take n xs ++ take (n - length (take n xs)) ys
take-behind A n xs ys = take-both A n xs ys ∙ ap (λ (m : ℕ). take n xs ++ take m ys) (sym (length-taken n xs))

-- what stands in place of some bytes, and in place of those behind them
overlaid-twice : (offset : ℕ) (a b : List ℕ) (bytes : List (Option ℕ)) → offset + length a ≤ length bytes →
    overlaid (offset + length a) b (overlaid offset a bytes) ≡ overlaid offset (a ++ b) bytes
overlaid-twice offset a b bytes within =
    let front : List (Option ℕ) = take offset bytes in
    let middle : List (Option ℕ) = map Some a in
    let rest : List (Option ℕ) = drop (offset + length a) bytes in
    let size : length (front ++ middle) ≡ offset + length a =
    omega (arith, length-append (take offset bytes) (map Some a), length-take-le offset bytes (omega arith), length-map a Some) in
    ap (λ (part : List (Option ℕ)). (part ++ map Some b) ++ drop ((offset + length a) + length b) ((front ++ middle) ++ rest))
    (ap (λ (n : ℕ). take n ((front ++ middle) ++ rest)) (let e : offset + length a ≡ length (front ++ middle) + 0 = omega arith in e)
    ∙ take-past (Option ℕ) (front ++ middle) rest 0 ∙ append-nil (front ++ middle))
    ∙ ap (λ (part : List (Option ℕ)). ((front ++ middle) ++ map Some b) ++ part)
    (ap (λ (n : ℕ). drop n ((front ++ middle) ++ rest)) (let e : (offset + length a) + length b ≡ length (front ++ middle) + length b = omega arith in e)
    ∙ drop-past (front ++ middle) rest (length b) ∙ drop-drop (length b) (offset + length a) bytes
    ∙ ap (λ (n : ℕ). drop n bytes) (let e : (offset + length a) + length b ≡ offset + length (a ++ b) = omega (arith, length-append a b) in e))
    ∙ ap (λ (part : List (Option ℕ)). part ++ drop (offset + length (a ++ b)) bytes)
    (append_assoc front middle (map Some b) ∙ ap (λ (part : List (Option ℕ)). front ++ part) (sym (map-append Some a b)))

length-overlaid : (offset : ℕ) (new : List ℕ) (bytes : List (Option ℕ)) → offset + length new ≤ length bytes → length (overlaid offset new bytes) ≡ length bytes
length-overlaid offset new bytes within =
    omega (
      arith,
      length-append (take offset bytes ++ map Some new) (drop (offset + length new) bytes),
      length-append (take offset bytes) (map Some new),
      length-take-le offset bytes (omega arith),
      length-map new Some,
      length-drop (offset + length new) bytes,
    )

bytes-twice : (offset : ℕ) (a b : List ℕ) (bytes : List (Option ℕ)) → offset + length a ≤ length bytes →
    with_bytes (offset + length a) b (overlaid offset a bytes) ≡ with_bytes offset (a ++ b) bytes
bytes-twice offset a b bytes within =
    ap (λ (placed : List (Option ℕ)). if nat_le ((offset + length a) + length b) (length (overlaid offset a bytes)) then Ok (Bytes placed) else failing Outside)
    (overlaid-twice offset a b bytes within)
    ∙ ap (λ (size : ℕ). if nat_le ((offset + length a) + length b) size then Ok (Bytes (overlaid offset (a ++ b) bytes)) else failing Outside)
    (length-overlaid offset a bytes within)
    ∙ ap (λ (end : ℕ). if nat_le end (length bytes) then Ok (Bytes (overlaid offset (a ++ b) bytes)) else failing Outside)
    (let e : (offset + length a) + length b ≡ offset + length (a ++ b) = omega (arith, length-append a b) in e)

-- ## Over the objects

set-get : (objects : List Object) (i : ℕ) (old new : Object) → slice_get objects i ≡ Some old → slice_get (slice_set objects i new) i ≡ Some new
set-get [] i old new is = absurd (cc)
set-get (first ∷ later) zero old new is = refl
set-get (first ∷ later) (suc i) old new is = set-get later i old new is

set-set : (objects : List Object) (i : ℕ) (middle new : Object) → slice_set (slice_set objects i middle) i new ≡ slice_set objects i new
set-set [] i middle new = refl
set-set (first ∷ later) zero middle new = refl
set-set (first ∷ later) (suc i) middle new = ap (λ (rest : List Object). first ∷ rest) (set-set later i middle new)

-- a store at an object, by what is found there
abbrev pub put_at : List Object → ℕ → ℕ → List ℕ → Option Object → Or (List Object)
put_at objects object offset text found = after (with_text offset text found) λ changed. Ok (slice_set objects object changed)

both-by : (objects middle : List Object) (object offset : ℕ) (a b : List ℕ) (bytes : List (Option ℕ)) (fits : Bool) → slice_get objects object ≡ Some (Bytes bytes) →
    nat_le (offset + length a) (length bytes) ≡ fits →
    after (if fits then Ok (Bytes (overlaid offset a bytes)) else failing Outside) (λ changed. Ok (slice_set objects object changed)) ≡ Ok middle →
    put_at middle object (offset + length a) b (slice_get middle object) ≡ put_at objects object offset (a ++ b) (Some (Bytes bytes))
both-by objects middle object offset a b bytes true there fits is =
    let set : slice_set objects object (Bytes (overlaid offset a bytes)) ≡ middle = cc in
    let within : offset + length a ≤ length bytes = grind (arith, nat_tests) in
    ap (λ (found : Option Object). put_at middle object (offset + length a) b found)
    (ap (λ (all : List Object). slice_get all object) (sym set) ∙ set-get objects object (Bytes bytes) (Bytes (overlaid offset a bytes)) there)
    ∙ ap (λ (all : List Object). put_at all object (offset + length a) b (Some (Bytes (overlaid offset a bytes)))) (sym set)
    ∙ ap (λ (made : Or Object). after made λ changed. Ok (slice_set (slice_set objects object (Bytes (overlaid offset a bytes))) object changed)) (bytes-twice offset a b bytes within)
    ∙ over (with_bytes offset (a ++ b) bytes)
  where
    over : (made : Or Object) → after made (λ changed. Ok (slice_set (slice_set objects object (Bytes (overlaid offset a bytes))) object changed))
        ≡ after made (λ changed. Ok (slice_set objects object changed))
    over (Ok changed) = ap Ok (set-set objects object (Bytes (overlaid offset a bytes)) changed)
    over (Err reason) = refl
both-by objects middle object offset a b bytes false there fits is = absurd (cc)

both-at : (objects middle : List Object) (object offset : ℕ) (a b : List ℕ) (found : Option Object) → slice_get objects object ≡ found →
    put_at objects object offset a found ≡ Ok middle →
    put_at middle object (offset + length a) b (slice_get middle object) ≡ put_at objects object offset (a ++ b) found
both-at objects middle object offset a b None there is = absurd (cc)
both-at objects middle object offset a b (Some (Bytes bytes)) there is = both-by objects middle object offset a b bytes (nat_le (offset + length a) (length bytes)) there refl is
both-at objects middle object offset a b (Some (Values held)) there is = absurd (cc)

both-stored : (objects middle : List Object) (pointer : CValue) (a b : List ℕ) → store_text objects pointer a ≡ Ok middle →
    store_text middle (shifted (length a) pointer) b ≡ store_text objects pointer (a ++ b)
both-stored objects middle (Pointer object offset) a b is =
    both-at objects middle object offset a b (slice_get objects object) refl is
both-stored objects middle (Number number) a b is = absurd (cc)
both-stored objects middle Null a b is = absurd (cc)
both-stored objects middle (Function number) a b is = absurd (cc)

not-moved : (pointer : CValue) → shifted 0 pointer ≡ pointer
not-moved (Pointer object offset) = ap (Pointer object) (let e : offset + 0 ≡ offset = omega arith in e)
not-moved (Number number) = refl
not-moved Null = refl
not-moved (Function number) = refl

-- a text behind another one
pub stored-behind : (objects middle : List Object) (pointer : CValue) (a b : List ℕ) → text_stored objects pointer a ≡ Ok middle →
    text_stored middle (shifted (length a) pointer) b ≡ text_stored objects pointer (a ++ b)
stored-behind objects middle pointer [] b is =
    let same : objects ≡ middle = cc in
    ap (λ (all : List Object). text_stored all (shifted 0 pointer) b) (sym same) ∙ ap (λ (at : CValue). text_stored objects at b) (not-moved pointer)
stored-behind objects middle pointer (x ∷ xs) [] is = sym (ap (text_stored objects pointer) (append-nil (x ∷ xs)) ∙ is)
stored-behind objects middle pointer (x ∷ xs) (y ∷ ys) is = both-stored objects middle pointer (x ∷ xs) (y ∷ ys) is

longer-by : (offset : ℕ) (a b : List ℕ) (bytes : List (Option ℕ)) (fault : CFault) (fits fits' : Bool) →
    nat_le (offset + length a) (length bytes) ≡ fits → nat_le (offset + length (a ++ b)) (length bytes) ≡ fits' →
    (objects : List Object) (object : ℕ) (one other : Object) →
    after (if fits then Ok one else failing Outside) (λ changed. Ok (slice_set objects object changed)) ≡ failing fault →
    after (if fits' then Ok other else failing Outside) (λ changed. Ok (slice_set objects object changed)) ≡ failing fault
longer-by offset a b bytes fault true fits' short long objects object one other is = absurd (cc)
longer-by offset a b bytes fault false false short long objects object one other is = is
longer-by offset a b bytes fault false true short long objects object one other is =
    let past : length bytes < offset + length a = grind (arith, nat_tests) in
    let within : offset + length (a ++ b) ≤ length bytes = grind (arith, nat_tests) in
    absurd (omega (arith, past, within, length-append a b))

longer-at : (objects : List Object) (object offset : ℕ) (a b : List ℕ) (fault : CFault) (found : Option Object) →
    put_at objects object offset a found ≡ failing fault → put_at objects object offset (a ++ b) found ≡ failing fault
longer-at objects object offset a b fault None is = is
longer-at objects object offset a b fault (Some (Bytes bytes)) is =
    longer-by offset a b bytes fault (nat_le (offset + length a) (length bytes)) (nat_le (offset + length (a ++ b)) (length bytes)) refl refl objects object _ _ is
longer-at objects object offset a b fault (Some (Values held)) is = is

longer-stored : (objects : List Object) (pointer : CValue) (a b : List ℕ) (fault : CFault) → store_text objects pointer a ≡ failing fault → store_text objects pointer (a ++ b) ≡ failing fault
longer-stored objects (Pointer object offset) a b fault is = longer-at objects object offset a b fault (slice_get objects object) is
longer-stored objects (Number number) a b fault is = is
longer-stored objects Null a b fault is = is
longer-stored objects (Function number) a b fault is = is

-- where a text has a fault, each longer one has it
pub longer-faulty : (objects : List Object) (pointer : CValue) (a b : List ℕ) (fault : CFault) → text_stored objects pointer a ≡ failing fault →
    text_stored objects pointer (a ++ b) ≡ failing fault
longer-faulty objects pointer [] b fault is = absurd (cc)
longer-faulty objects pointer (x ∷ xs) b fault is = longer-stored objects pointer (x ∷ xs) b fault is

-- ## Pieces of a text

take-least : (n : ℕ) (xs : List ℕ) → take (min n (length xs)) xs ≡ take n xs
take-least zero xs = ap (λ (m : ℕ). take m xs) (let e : min 0 (length xs) ≡ 0 = omega arith in e)
take-least (suc n) [] = take-none (min (suc n) 0)
take-least (suc n) (x ∷ xs) =
    ap (λ (m : ℕ). take m (x ∷ xs)) (let e : min (suc n) (length (x ∷ xs)) ≡ suc (min n (length xs)) = omega arith in e)
    ∙ ap (λ (rest : List ℕ). x ∷ rest) (take-least n xs)

piece-cut : (size done count : ℕ) (text piece : List ℕ) → done ≡ length (take size text) → count ≡ min (size - done) (length piece) →
    take size (text ++ piece) ≡ take size text ++ take count piece
piece-cut size done count text piece is least =
    take-behind ℕ size text piece
    ∙ ap (λ (m : ℕ). take size text ++ take (size - m) piece) (sym is)
    ∙ ap (λ (part : List ℕ). take size text ++ part) (sym (take-least (size - done) piece))
    ∙ ap (λ (m : ℕ). take size text ++ take m piece) (sym least)

piece-stored : (objects old : List Object) (pointer place : CValue) (size done count : ℕ) (text piece : List ℕ) → IsPlaceBehind old done pointer place →
    count ≡ min (size - done) (length piece) → Written objects pointer size text old done →
    text_stored objects pointer (take size (text ++ piece)) ≡ text_stored old place (take count piece)
piece-stored objects old pointer place size done count text piece at least written =
    ap (text_stored objects pointer) (piece-cut size done count text piece written.done_is least)
    ∙ sym (stored-behind objects old pointer (take size text) (take count piece) written.stored)
    ∙ ap (λ (n : ℕ). text_stored old (shifted n pointer) (take count piece)) (sym written.done_is)
    ∙ text-there old done pointer place (take count piece) at

pub piece-put : (objects old new : List Object) (pointer place : CValue) (size done count done' : ℕ) (text piece : List ℕ) → IsPlaceBehind old done pointer place →
    count ≡ min (size - done) (length piece) → done' ≡ done + count → text_stored old place (take count piece) ≡ Ok new → Written objects pointer size text old done →
    Written objects pointer size (text ++ piece) new done'
piece-put objects old new pointer place size done count done' text piece at least sum is written = record {
  stored = piece-stored objects old pointer place size done count text piece at least written ∙ is;
  done_is =
      let taken : length (take count piece) ≡ count = length-take-le count piece (omega (arith, least)) in
      let cut : length (take size (text ++ piece)) ≡ length (take size text) + length (take count piece) =
      ap length (piece-cut size done count text piece written.done_is least) ∙ length-append (take size text) (take count piece) in
      omega (arith, sum, taken, cut, written.done_is);
}

pub piece-faulty : (objects old : List Object) (pointer place : CValue) (size done count : ℕ) (text piece more : List ℕ) (fault : CFault) → IsPlaceBehind old done pointer place →
    count ≡ min (size - done) (length piece) → text_stored old place (take count piece) ≡ failing fault → Written objects pointer size text old done →
    text_stored objects pointer (take size ((text ++ piece) ++ more)) ≡ failing fault
piece-faulty objects old pointer place size done count text piece more fault at least is written =
    ap (text_stored objects pointer) (take-behind ℕ size (text ++ piece) more)
    ∙ longer-faulty objects pointer (take size (text ++ piece)) _ fault (piece-stored objects old pointer place size done count text piece at least written ∙ is)

-- ## Blanks behind a text

short : (n : ℕ) (xs : List ℕ) → length (take n xs) ≤ length xs
short zero xs = omega arith
short (suc n) [] = omega arith
short (suc n) (x ∷ xs) = let rest : length (take n xs) ≤ length xs = short n xs in omega (arith, rest)

abbrev pub spaces : ℕ → List ℕ
spaces n = replicate n 32

length-replicate : (n : ℕ) → length (spaces n) ≡ n
length-replicate zero = refl
length-replicate (suc n) = ap suc (length-replicate n)

fitted-long : (size m : ℕ) (text : List ℕ) → size ≤ length text + m → take size (text ++ spaces m) ≡ fitted size text
fitted-long size m text long =
    take-both ℕ size text (spaces m)
    ∙ ap (λ (part : List ℕ). take size text ++ part)
    (take-replicate (size - length text) m 32 (omega (arith, long)) ∙ sym (take-replicate (size - length text) (size - length text) 32 (omega arith)))
    ∙ sym (take-both ℕ size text (replicate (size - length text) 32))

blanks-both : (n m : ℕ) → spaces n ++ spaces m ≡ spaces (n + m)
blanks-both zero m = ap (λ (k : ℕ). spaces k) (let e : m ≡ 0 + m = omega arith in e)
blanks-both (suc n) m =
    ap (λ (rest : List ℕ). 32 ∷ rest) (blanks-both n m) ∙ ap (λ (k : ℕ). spaces k) (let e : suc (n + m) ≡ suc n + m = omega arith in e)

pub blanks-behind : (n m : ℕ) (text : List ℕ) → (text ++ spaces n) ++ spaces m ≡ text ++ spaces (n + m)
blanks-behind n m text = append_assoc text (spaces n) (spaces m) ∙ ap (λ (part : List ℕ). text ++ part) (blanks-both n m)

-- a text with some blanks behind it
pub record Padded (objects : List Object) (pointer : CValue) (size : ℕ) (text : List ℕ) (now : List Object) (done : ℕ) : Type 0 where
  pub blanks : ℕ
  pub written : Written objects pointer size (text ++ spaces blanks) now done

pub padding-starts : (objects : List Object) (pointer : CValue) (size : ℕ) (text : List ℕ) (now : List Object) (done : ℕ) → Written objects pointer size text now done →
    Padded objects pointer size text now done
padding-starts objects pointer size text now done written =
    record { blanks = 0; written = subst (λ (one : List ℕ). Written objects pointer size one now done) (sym (append-nil text)) written }

pub padding-goes_on : (objects : List Object) (pointer : CValue) (size : ℕ) (text blank : List ℕ) (old new : List Object) (done done' : ℕ) → blank ≡ spaces 64 →
    ((objects : List Object) → (text : List ℕ) → Written objects pointer size text old done → Written objects pointer size (text ++ blank) new done') →
    Padded objects pointer size text old done → Padded objects pointer size text new done'
padding-goes_on objects pointer size text blank old new done done' is puts padded = record {
  blanks = padded.blanks + 64;
  written = subst (λ (one : List ℕ). Written objects pointer size one new done')
      (ap (λ (one : List ℕ). (text ++ spaces padded.blanks) ++ one) is ∙ blanks-behind padded.blanks 64 text)
      (puts objects (text ++ spaces padded.blanks) padded.written);
}

pub padding-ends : (objects : List Object) (pointer : CValue) (size : ℕ) (text : List ℕ) (now : List Object) (done : ℕ) → size ≤ done → Padded objects pointer size text now done →
    text_stored objects pointer (fitted size text) ≡ Ok now
padding-ends objects pointer size text now done all padded =
    ap (text_stored objects pointer) (sym (fitted-long size padded.blanks text long)) ∙ padded.written.stored
  where
    long : size ≤ length text + padded.blanks
    long = omega (arith, all, padded.written.done_is, short size (text ++ spaces padded.blanks), length-append text (spaces padded.blanks), length-replicate padded.blanks)

pub padding-faulty : (objects : List Object) (pointer : CValue) (size : ℕ) (text blank : List ℕ) (old : List Object) (done : ℕ) (fault : CFault) → blank ≡ spaces 64 →
    ((objects : List Object) → (text more : List ℕ) → Written objects pointer size text old done → text_stored objects pointer (take size ((text ++ blank) ++ more)) ≡ failing fault) →
    Padded objects pointer size text old done → text_stored objects pointer (fitted size text) ≡ failing fault
padding-faulty objects pointer size text blank old done fault is fails padded =
    ap (text_stored objects pointer)
    (sym (fitted-long size ((padded.blanks + 64) + size) text (omega arith))
    ∙ ap (take size)
    (sym (ap (λ (one : List ℕ). ((text ++ spaces padded.blanks) ++ one) ++ spaces size) is
    ∙ ap (λ (one : List ℕ). one ++ spaces size) (blanks-behind padded.blanks 64 text) ∙ blanks-behind (padded.blanks + 64) size text)))
    ∙ fails objects (text ++ spaces padded.blanks) (spaces size) padded.written

pub pad-refused : (pointer : CValue) (size done filled : ℕ) (blank : List ℕ) (first old new : List Object) (end : ItemEnd) → blank ≡ spaces 64 →
    PutsPiece pointer size filled blank old new (Err end) →
    ((objects : List Object) → (text : List ℕ) → Written objects pointer size text first done → Padded objects pointer size text old filled) →
    Pads pointer size done first new (Err end)
pad-refused pointer size done filled blank first old new (ends.Fault fault) is puts so_far =
    λ objects text written. padding-faulty objects pointer size text blank old filled fault is puts (so_far objects text written)
pad-refused pointer size done filled blank first old new (ends.Number number) is puts so_far = puts
pad-refused pointer size done filled blank first old new ends.Device is puts so_far = puts
pad-refused pointer size done filled blank first old new ends.Uncounted is puts so_far = puts

-- ## Forms

bytes-tested : (test : Bool) (offset : ℕ) (new : List ℕ) (bytes : List (Option ℕ)) (changed : Object) → nat_le (offset + length new) (length bytes) ≡ test →
    (if test then Ok (Bytes (overlaid offset new bytes)) else failing Outside) ≡ Ok changed → unset_object changed ≡ unset (length bytes)
bytes-tested true offset new bytes changed tested is =
    let made : Bytes (overlaid offset new bytes) ≡ changed = cc in
    let within : offset + length new ≤ length bytes = grind (arith, nat_tests) in
    ap unset_object (sym made) ∙ ap unset (length-overlaid offset new bytes within)
bytes-tested false offset new bytes changed tested is = absurd (cc)

object-kept : (offset : ℕ) (text : List ℕ) (object changed : Object) → with_text offset text (Some object) ≡ Ok changed → unset_object changed ≡ unset_object object
object-kept offset text (Bytes bytes) changed is = bytes-tested (nat_le (offset + length text) (length bytes)) offset text bytes changed refl is
object-kept offset text (Values held) changed is = absurd (cc)

object-set : (objects new : List Object) (i offset : ℕ) (text : List ℕ) (known : Option Object) (made : Or Object) → slice_get objects i ≡ known →
    with_text offset text known ≡ made → after made (λ changed. Ok (slice_set objects i changed)) ≡ Ok new → forms new ≡ forms objects
object-set objects new i offset text None made found is sets = absurd (cc)
object-set objects new i offset text (Some object) (Ok changed) found is sets =
    let set_there : slice_set objects i changed ≡ new = cc in
    ap forms (sym set_there) ∙ one-replaced objects i changed object found (object-kept offset text object changed is)
object-set objects new i offset text (Some object) (Err reason) found is sets = absurd (cc)

store-kept : (objects new : List Object) (at : CValue) (text : List ℕ) → store_text objects at text ≡ Ok new → forms new ≡ forms objects
store-kept objects new (Pointer object offset) text is = object-set objects new object offset text (slice_get objects object) _ refl refl is
store-kept objects new Null text is = absurd (cc)
store-kept objects new (Number number) text is = absurd (cc)
store-kept objects new (Function number) text is = absurd (cc)

text-kept : (objects new : List Object) (at : CValue) (text : List ℕ) → text_stored objects at text ≡ Ok new → forms new ≡ forms objects
text-kept objects new at [] is = let same : objects ≡ new = cc in ap forms (sym same)
text-kept objects new at (first ∷ rest) is = store-kept objects new at (first ∷ rest) is

pub text-stored-forms : (old new : List Object) (at : CValue) (text : List ℕ) → text_stored old at text ≡ Ok new → SameForms old new
text-stored-forms old new at text is = record { same = text-kept old new at text is }

pub text-forms : (at : CValue) (text : List ℕ) (old new : List Object) (result : Result (Unit {0}) CFault) → Stores (λ all. text_stored all at text) old new result → SameForms old new
text-forms at text old new (Ok done) stores = record { same = text-kept old new at text stores }
text-forms at text old new (Err fault) stores = unchanged-forms old new stores.1

pub forms-then : (old middle new : List Object) → SameForms old middle → SameForms middle new → SameForms old new
forms-then old middle new first second = record { same = second.same ∙ first.same }
