-- How long a text is, and the places in it.
use Rattle.std.proofs.Common.{◌≡◌, ℕ, zero, suc, ◌+◌, ◌≤◌, ◌<◌, ℤ, pos, List, [], ◌∷◌, length, take, drop, Option, Some, None, Bool, true, false, refl, ap, sym, ◌∙◌, subst, arith}
use Rattle.std.specs.Prelude.{Ok, Err, slice_get, nat_le, nat_eq, if◌then◌else◌}
use Rattle.std.specs.List.{starts_with}
use Rattle.std.proofs.lemmas.Bool.Decides.{nat_tests}
use Rattle.std.proofs.lemmas.List.{length-take, length-drop}
use Rattle.c_tree.specs.declared.outcome.CValue.{CValue}
use Rattle.c_tree.specs.declared.outcome.CValue.TheVariants.{Number, Pointer, Null, Function}
use Rattle.c_tree.specs.declared.outcome.CFault.TheVariants.{Outside}
use Rattle.c_tree.specs.Faults.{Or, after, failing}
use Rattle.c_tree.specs.Objects.{Object, Bytes, Values, all_set}
use Rattle.c_tree.specs.LibraryArguments.{text_in, text_through, text_at}
use Rattle.c_tree.specs.LibraryTexts.{found_from, index_of}

one-more : (byte : ℕ) (rest : List (Option ℕ)) (text : List ℕ) (found : Or (List ℕ)) → ((bytes : List ℕ) → all_set rest ≡ Ok bytes → length bytes ≡ length rest) → all_set rest ≡ found →
    after found (λ bytes. Ok (byte ∷ bytes)) ≡ Ok text → length text ≡ suc (length rest)
one-more byte rest text (Ok bytes) later known is = ap length (let same : text ≡ byte ∷ bytes = cc in same) ∙ ap suc (later bytes known)
one-more byte rest text (Err reason) later known is = absurd (cc)

as-many : (cells : List (Option ℕ)) (text : List ℕ) → all_set cells ≡ Ok text → length text ≡ length cells
as-many [] text is = ap length (let same : text ≡ [] = cc in same)
as-many (None ∷ rest) text is = absurd (cc)
as-many (Some byte ∷ rest) text is = one-more byte rest text (all_set rest) (as-many rest) refl is

within-length : (bytes : List (Option ℕ)) (offset count : ℕ) (text : List ℕ) (fits : Bool) → nat_le (offset + count) (length bytes) ≡ fits →
    (if fits then all_set (take count (drop offset bytes)) else failing Outside) ≡ Ok text → length text ≡ count
within-length bytes offset count text true fits is =
    let inside : offset + count ≤ length bytes = grind (arith, nat_tests) in
    as-many (take count (drop offset bytes)) text is ∙ (let size : length (take count (drop offset bytes)) ≡ count = omega (arith, length-take count (drop offset bytes), length-drop offset bytes) in size)
within-length bytes offset count text false fits is = absurd (cc)

in-length : (found : Option Object) (offset count : ℕ) (text : List ℕ) → text_in found offset count ≡ Ok text → length text ≡ count
in-length None offset count text is = absurd (cc)
in-length (Some (Bytes bytes)) offset count text is = within-length bytes offset count text (nat_le (offset + count) (length bytes)) refl is
in-length (Some (Values held)) offset count text is = absurd (cc)

through-length : (objects : List Object) (pointer : CValue) (count : ℕ) (text : List ℕ) → text_through objects pointer count ≡ Ok text → length text ≡ count
through-length objects (Pointer object offset) count text is = in-length (slice_get objects object) offset count text is
through-length objects (Number number) count text is = absurd (cc)
through-length objects Null count text is = absurd (cc)
through-length objects (Function number) count text is = absurd (cc)

pub text-length : (objects : List Object) (pointer : CValue) (count : ℕ) (text : List ℕ) → Ok text ≡ text_at objects pointer count → length text ≡ count
text-length objects pointer count text is = by (nat_eq count 0) refl (sym is)
  where
    by : (none : Bool) → nat_eq count 0 ≡ none → (if none then Ok [] else text_through objects pointer count) ≡ Ok text → length text ≡ count
    by true none is = let zero_count : count ≡ 0 = grind (arith, nat_tests) in ap length (let same : text ≡ [] = cc in same) ∙ sym zero_count
    by false none is = through-length objects pointer count text is

pub text-short : (objects : List Object) (pointer : CValue) (count : ℕ) (text : List ℕ) → Ok text ≡ text_at objects pointer count → count < 2147483648 → length text < 2147483648
text-short objects pointer count text is small = omega (arith, text-length objects pointer count text is)

-- the place of a text with a byte is within the other
same-place : (a b : ℕ) → pos a ≡ pos b → a ≡ b
same-place a b is = cc

farther : (byte : ℕ) (later rest : List ℕ) (first place n : ℕ) (here : Bool) → (found_from (place + 1) later (first ∷ rest) ≡ pos n → n < place + 1 + length later) →
    (if here then pos place else found_from (place + 1) later (first ∷ rest)) ≡ pos n → n < place + length (byte ∷ later)
farther byte later rest first place n true behind is = let at : place ≡ n = same-place place n is in omega arith
farther byte later rest first place n false behind is = omega (arith, behind is)

place-within : (text rest : List ℕ) (first place n : ℕ) → 0 < place → found_from place text (first ∷ rest) ≡ pos n → n < place + length text
place-within [] rest first place n some is = by (nat_eq (length (first ∷ rest)) 0) refl is
  where
    by : (none : Bool) → nat_eq (length (first ∷ rest)) 0 ≡ none → (if none then pos place else pos 0) ≡ pos n → n < place + 0
    by true none is = absurd (let bad : length (first ∷ rest) ≡ 0 = grind (arith, nat_tests) in omega arith)
    by false none is = let zero_place : 0 ≡ n = same-place 0 n is in omega arith
place-within (byte ∷ later) rest first place n some is =
    farther byte later rest first place n (starts_with nat_eq (byte ∷ later) (first ∷ rest)) (place-within later rest first (place + 1) n (omega arith)) is

pub place-small : (text wanted : List ℕ) (n : ℕ) → pos n ≡ index_of text wanted → length text < 2147483648 → n < 2147483648
place-small [] [] n is short = let one : n ≡ 1 = same-place n 1 is in omega arith
place-small (byte ∷ later) [] n is short = let one : n ≡ 1 = same-place n 1 is in omega arith
place-small text (first ∷ rest) n is short = omega (arith, place-within text rest first 1 n (omega arith) (sym is))
