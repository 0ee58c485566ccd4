-- The bytes of a name before its zero byte.
use Rattle.std.proofs.Common.{◌≡◌, ℕ, zero, suc, ◌+◌, ◌-◌, ◌≤◌, ◌<◌, List, [], ◌∷◌, length, take, drop, Option, Some, None, refl, ap, sym, ◌∙◌, subst, arith, Bool, true, false}
use Rattle.std.specs.Prelude.{Ok, Err, option_map, MatchOption, nat_le, nat_eq, slice_get, slice_index, if◌then◌else◌}
use Rattle.std.proofs.lemmas.Bool.Decides.{nat_tests}
use Rattle.std.proofs.lemmas.List.{length-drop, take_all, drop-drop}
use Rattle.c_tree.specs.declared.outcome.CFault.{CFault}
use Rattle.c_tree.specs.declared.outcome.CValue.TheVariants.{Pointer}
use Rattle.c_tree.specs.declared.outcome.CFault.TheVariants.{Library, Outside, Unset, Kind}
use Rattle.c_tree.specs.Faults.{Or, after, failing}
use Rattle.c_tree.specs.Objects.{Object, Bytes, Values, all_set, bytes_at}
use Rattle.c_tree.specs.Access.{Access}
use Rattle.run_bytes.specs.Layout.{held_type}
use Rattle.c_tree.specs.LibraryArguments.{name_from, name_in, text_in, text_at}
use Rattle.library_calls.specs.Names.{zero_in, zero_first}

-- a name has the bytes before its zero byte
pub named : (cells : List (Option ℕ)) → MatchOption (zero_in cells) (name_from cells ≡ failing Library) (λ size. (size ≤ length cells) × (all_set (take size cells) ≡ name_from cells))
named [] = refl
named (None ∷ later) = refl
named (Some zero ∷ later) = (omega arith, refl)
named (Some (suc less) ∷ later) = by (zero_in later) (named later)
  where
    by : (size : Option ℕ) → MatchOption size (name_from later ≡ failing Library) (λ size. (size ≤ length later) × (all_set (take size later) ≡ name_from later)) →
        MatchOption (option_map suc size) (name_from (Some (suc less) ∷ later) ≡ failing Library) (λ size. (size ≤ length (Some (suc less) ∷ later)) × (all_set (take size (Some (suc less) ∷ later)) ≡ name_from (Some (suc less) ∷ later)))
    by None is = ap (λ found. after found (λ bytes. Ok (suc less ∷ bytes))) is
    by (Some size) is = (omega (arith, is.0), ap (λ found. after found (λ bytes. Ok (suc less ∷ bytes))) is.1)

-- the first byte, as an access to one byte reads it
one_byte : List (Option ℕ) → Or (List ℕ)
one_byte [] = failing Outside
one_byte (None ∷ later) = failing Unset
one_byte (Some byte ∷ later) = Ok (byte ∷ [])

first-of : (rest : List (Option ℕ)) → 0 < length rest → all_set (take 1 rest) ≡ one_byte rest
unfolding one_byte
first-of [] h = absurd (omega arith)
first-of (None ∷ later) h = refl
first-of (Some byte ∷ later) h = refl

none-of : (rest : List (Option ℕ)) → length rest ≡ 0 → failing Outside ≡ one_byte rest
unfolding one_byte
none-of [] h = refl
none-of (first ∷ later) h = absurd (omega arith)

read-first : (cells : List (Option ℕ)) (place : ℕ) → bytes_at place 1 cells ≡ one_byte (drop place cells)
read-first cells place = by (nat_le (place + 1) (length cells)) refl
  where
    by : (fits : Bool) → nat_le (place + 1) (length cells) ≡ fits →
        (if nat_le (place + 1) (length cells) then all_set (take 1 (drop place cells)) else failing Outside) ≡ one_byte (drop place cells)
    by true is = ap (λ fits. if fits then all_set (take 1 (drop place cells)) else failing Outside) is
        ∙ first-of (drop place cells) (grind (arith, nat_tests, length-drop place cells))
    by false is = ap (λ fits. if fits then all_set (take 1 (drop place cells)) else failing Outside) is
        ∙ none-of (drop place cells) (grind (arith, nat_tests, length-drop place cells))

first-found : (rest : List (Option ℕ)) (byte : ℕ) → Ok (byte ∷ []) ≡ one_byte rest → Some (nat_eq byte 0) ≡ zero_first rest
unfolding one_byte
first-found [] byte is = absurd (cc)
first-found (None ∷ later) byte is = absurd (cc)
first-found (Some found ∷ later) byte is = ap (λ byte. Some (nat_eq byte 0)) (let same : byte ≡ found = cc in same)

first-missing : (rest : List (Option ℕ)) (fault : CFault) → failing fault ≡ one_byte rest → None ≡ zero_first rest
unfolding one_byte
first-missing [] fault is = refl
first-missing (None ∷ later) fault is = refl
first-missing (Some found ∷ later) fault is = absurd (cc)

one-found : (rest : List (Option ℕ)) (text : List ℕ) → Ok text ≡ one_byte rest → length text ≡ 1
unfolding one_byte
one-found [] text is = absurd (cc)
one-found (None ∷ later) text is = absurd (cc)
one-found (Some found ∷ later) text is = ap length (let same : text ≡ found ∷ [] = cc in same)

read-at : (objects : List Object) (object offset : ℕ) (cells : List (Option ℕ)) → slice_get objects object ≡ Some (Bytes cells) →
    text_at objects (Pointer object offset) 1 ≡ one_byte (drop offset cells)
read-at objects object offset cells is = ap (λ found. text_in found offset 1) is ∙ read-first cells offset

single : (byte : ℕ) (text : List ℕ) → Ok text ≡ one_byte (Some byte ∷ []) → text ≡ byte ∷ []
unfolding one_byte
single byte text is = cc

first-read : (rest : List (Option ℕ)) (text : List ℕ) → Ok text ≡ one_byte rest → Some (nat_eq (slice_index text 0) 0) ≡ zero_first rest
unfolding one_byte
first-read [] text is = absurd (cc)
first-read (None ∷ later) text is = absurd (cc)
first-read (Some byte ∷ later) text is = ap (λ text. Some (nat_eq (slice_index text 0) 0)) (single byte text is)

pub zero-read : (objects : List Object) (object offset : ℕ) (cells : List (Option ℕ)) (text : List ℕ) → slice_get objects object ≡ Some (Bytes cells) →
    Ok text ≡ text_at objects (Pointer object offset) 1 → Some (nat_eq (slice_index text 0) 0) ≡ zero_first (drop offset cells)
zero-read objects object offset cells text is read = first-read (drop offset cells) text (read ∙ read-at objects object offset cells is)

pub zero-unread : (objects : List Object) (object offset : ℕ) (cells : List (Option ℕ)) (fault : CFault) → slice_get objects object ≡ Some (Bytes cells) →
    failing fault ≡ text_at objects (Pointer object offset) 1 → None ≡ zero_first (drop offset cells)
zero-unread objects object offset cells fault is read = first-missing (drop offset cells) fault (read ∙ read-at objects object offset cells is)

-- step by step from a place on
zero-nowhere : (rest : List (Option ℕ)) → None ≡ zero_first rest → zero_in rest ≡ None
zero-nowhere [] is = refl
zero-nowhere (None ∷ later) is = refl
zero-nowhere (Some byte ∷ later) is = absurd (cc)

zero-here : (rest : List (Option ℕ)) → Some true ≡ zero_first rest → zero_in rest ≡ Some 0
zero-here [] is = absurd (cc)
zero-here (None ∷ later) is = absurd (cc)
zero-here (Some zero ∷ later) is = refl
zero-here (Some (suc less) ∷ later) is = let other : nat_eq (suc less) 0 ≡ false = grind (arith, nat_tests) in absurd (cc)

zero-later : (rest : List (Option ℕ)) → Some false ≡ zero_first rest → zero_in rest ≡ option_map suc (zero_in (drop 1 rest))
zero-later [] is = absurd (cc)
zero-later (None ∷ later) is = absurd (cc)
zero-later (Some zero ∷ later) is = absurd (cc)
zero-later (Some (suc less) ∷ later) is = refl

-- how far the search has come
pub record Searching (cells : List (Option ℕ)) (start place : ℕ) : Type 0 where
  pub from : start ≤ place
  pub left : zero_in (drop start cells) ≡ option_map (λ size. place - start + size) (zero_in (drop place cells))

mapped-none : (start : ℕ) (found : Option ℕ) → found ≡ option_map (λ size. start - start + size) found
mapped-none start None = refl
mapped-none start (Some size) = ap Some (let same : size ≡ start - start + size = omega arith in same)

pub search-starts : (cells : List (Option ℕ)) (start : ℕ) → Searching cells start start
search-starts cells start = record { from = omega arith; left = mapped-none start (zero_in (drop start cells)) }

farther : (start place : ℕ) → start ≤ place → (found : Option ℕ) → option_map (λ size. place - start + size) (option_map suc found) ≡ option_map (λ size. place + 1 - start + size) found
farther start place from None = refl
farther start place from (Some size) = ap Some (let same : place - start + suc size ≡ place + 1 - start + size = omega arith in same)

pub search-goes_on : (cells : List (Option ℕ)) (start place : ℕ) → Searching cells start place → Some false ≡ zero_first (drop place cells) → Searching cells start (place + 1)
search-goes_on cells start place before is =
    record {
      from = omega (arith, before.from);
      left = before.left
          ∙ ap (option_map (λ size. place - start + size)) (zero-later (drop place cells) is
          ∙ ap (λ rest. option_map suc (zero_in rest)) (drop-drop 1 place cells))
          ∙ farther start place before.from (zero_in (drop (place + 1) cells));
    }

pub search-finds : (cells : List (Option ℕ)) (start place : ℕ) → Searching cells start place → Some true ≡ zero_first (drop place cells) → Some (place - start) ≡ zero_in (drop start cells)
search-finds cells start place before is =
    sym (before.left ∙ ap (option_map (λ size. place - start + size)) (zero-here (drop place cells) is)
    ∙ ap Some (let same : place - start + 0 ≡ place - start = omega arith in same))

pub search-fails : (cells : List (Option ℕ)) (start place : ℕ) → Searching cells start place → None ≡ zero_first (drop place cells) → None ≡ zero_in (drop start cells)
search-fails cells start place before is =
    sym (before.left ∙ ap (option_map (λ size. place - start + size)) (zero-nowhere (drop place cells) is))

nothing-left : (rest : List (Option ℕ)) → length rest ≡ 0 → None ≡ zero_first rest
nothing-left [] h = refl
nothing-left (first ∷ later) h = absurd (omega arith)

pub search-ends : (cells : List (Option ℕ)) (start place : ℕ) → Searching cells start place → length cells ≤ place → None ≡ zero_in (drop start cells)
search-ends cells start place before end =
    search-fails cells start place before (nothing-left (drop place cells) (omega (arith, length-drop place cells)))

held-as : (size : ℕ) (rest : List (Option ℕ)) (found : Option ℕ) → MatchOption found (name_from rest ≡ failing Library) (λ size. (size ≤ length rest) × (all_set (take size rest) ≡ name_from rest)) →
    Some size ≡ found → (size ≤ length rest) × (all_set (take size rest) ≡ name_from rest)
held-as size rest None is same = absurd (cc)
held-as size rest (Some found) is same = subst (λ size. (size ≤ length rest) × (all_set (take size rest) ≡ name_from rest)) (let equal : found ≡ size = cc in equal) is

not-held : (rest : List (Option ℕ)) (found : Option ℕ) → MatchOption found (name_from rest ≡ failing Library) (λ size. (size ≤ length rest) × (all_set (take size rest) ≡ name_from rest)) →
    None ≡ found → name_from rest ≡ failing Library
not-held rest None is same = is
not-held rest (Some found) is same = absurd (cc)

-- so many bytes are read as a text, or none
whole-text : (cells : List (Option ℕ)) (offset size : ℕ) → size ≤ length (drop offset cells) → all_set (take size (drop offset cells)) ≡ (if nat_eq size 0 then Ok [] else bytes_at offset size cells)
whole-text cells offset size fits = by (nat_eq size 0) refl
  where
    inside : (none : Bool) → nat_eq size 0 ≡ none → none ≡ false → bytes_at offset size cells ≡ all_set (take size (drop offset cells))
    inside none is some =
        let test : nat_le (offset + size) (length cells) ≡ true = grind (arith, nat_tests, length-drop offset cells) in
        ap (λ fits. if fits then all_set (take size (drop offset cells)) else failing Outside) test

    by : (none : Bool) → nat_eq size 0 ≡ none → all_set (take size (drop offset cells)) ≡ (if none then Ok [] else bytes_at offset size cells)
    by true is = let nothing : size ≡ 0 = grind (arith, nat_tests) in ap (λ size. all_set (take size (drop offset cells))) nothing
    by false is = sym (inside false is refl)

pub name-found : (objects : List Object) (object offset size : ℕ) (found : Option Object) → slice_get objects object ≡ found → (held : None ≡ held_type found) →
    (found ≡ None → Some size ≡ None) → ((cells : List (Option ℕ)) → found ≡ Some (Bytes cells) → Some size ≡ zero_in (drop offset cells)) →
    text_at objects (Pointer object offset) size ≡ name_in found offset
name-found objects object offset size None is held none some = absurd (let bad : Some size ≡ None = none refl in cc)
name-found objects object offset size (Some (Bytes cells)) is held none some =
    let has : (size ≤ length (drop offset cells)) × (all_set (take size (drop offset cells)) ≡ name_from (drop offset cells)) =
    held-as size (drop offset cells) (zero_in (drop offset cells)) (named (drop offset cells)) (some cells refl) in
    ap (λ found. if nat_eq size 0 then Ok [] else text_in found offset size) is ∙ sym (whole-text cells offset size has.0) ∙ has.1
name-found objects object offset size (Some (Values held)) is bad none some = absurd (cc)

pub name-missing : (offset : ℕ) (found : Option Object) → None ≡ held_type found →
    ((cells : List (Option ℕ)) → found ≡ Some (Bytes cells) → None ≡ zero_in (drop offset cells)) → failing Library ≡ name_in found offset
name-missing offset None held some = refl
name-missing offset (Some (Bytes cells)) held some = sym (not-held (drop offset cells) (zero_in (drop offset cells)) (named (drop offset cells)) (some cells refl))
name-missing offset (Some (Values held)) bad some = absurd (cc)

pub name-kind : (offset : ℕ) (found : Option Object) (type : Access) → Some type ≡ held_type found → failing Kind ≡ name_in found offset
name-kind offset None type held = absurd (cc)
name-kind offset (Some (Bytes cells)) type held = absurd (cc)
name-kind offset (Some (Values held)) type is = refl
