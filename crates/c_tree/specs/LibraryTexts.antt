-- Texts: assignment, comparison, concatenation and search, with blanks behind the shorter one (ANSI X3.9-1978,
-- 6.2.2.2, 6.3.5 and 10.4, and the functions INDEX, LGE, LGT, LLE and LLT of 15.10).
use Rattle.std.specs.Prelude.{ℕ, zero, suc, ◌+◌, nat_lt, ℤ, pos, negsuc, int_lt, int_le, Bool, List, [], ◌∷◌, ◌++◌, length, Ok, nat_eq, if◌then◌else◌}
use Rattle.std.specs.List.{starts_with}
use Rattle.c_tree.specs.declared.outcome.CValue.{CValue}
use Rattle.c_tree.specs.Faults.{Or, after}
use Rattle.c_tree.specs.Access.{ToChar, ToPointer}
use Rattle.c_tree.specs.Objects.{Object, fetched}
use Rattle.c_tree.specs.World.{World, Reply, Gives, Void}
use Rattle.c_tree.specs.LibraryArguments.{number_through, count_from, length_from, text_at, text_stored, shifted, fitted}

abbrev pub put_text : World → CValue → ℕ → List ℕ → Or Reply
put_text world pointer size text =
    after (text_stored world.objects pointer (fitted size text)) λ objects.
    Ok (Void (record world { objects = objects }))

-- `s_copy`: the second text into the first; all bytes are fetched first
unfoldable pub copied : World → CValue → CValue → CValue → CValue → Or Reply
copied world target source target_length source_length =
    after (length_from target_length) λ size.
    after (length_from source_length) λ count.
    after (text_at world.objects source count) λ text.
    put_text world target size text

-- the sign of the first difference, or of the rest
abbrev pub sign_of : ℕ → ℕ → ℤ → ℤ
sign_of left right rest = if nat_lt left right then negsuc 0 else if nat_lt right left then pos 1 else rest

abbrev pub against_blanks : List ℕ → ℤ
against_blanks [] = pos 0
against_blanks (byte ∷ later) = sign_of byte 32 (against_blanks later)

abbrev pub blanks_against : List ℕ → ℤ
blanks_against [] = pos 0
blanks_against (byte ∷ later) = sign_of 32 byte (blanks_against later)

-- -1, 0 or 1, by the values of the bytes, the shorter text with blanks behind it
abbrev pub comparison : List ℕ → List ℕ → ℤ
comparison [] right = blanks_against right
comparison (left ∷ lefts) [] = against_blanks (left ∷ lefts)
comparison (left ∷ lefts) (right ∷ rights) = sign_of left right (comparison lefts rights)

-- a function of two texts that gives a number
unfoldable pub on_texts : (List ℕ → List ℕ → ℤ) → World → CValue → CValue → CValue → CValue → Or Reply
on_texts number world first second first_length second_length =
    after (length_from first_length) λ size.
    after (length_from second_length) λ count.
    after (text_at world.objects first size) λ left.
    after (text_at world.objects second count) λ right.
    Ok (Gives (number left right) world)

abbrev pub one_if : Bool → ℤ
one_if holds = if holds then pos 1 else pos 0

-- LGE, LGT, LLE and LLT
abbrev pub not_below : List ℕ → List ℕ → ℤ
not_below left right = one_if (int_le (pos 0) (comparison left right))

abbrev pub above : List ℕ → List ℕ → ℤ
above left right = one_if (int_lt (pos 0) (comparison left right))

abbrev pub not_above : List ℕ → List ℕ → ℤ
not_above left right = one_if (int_le (comparison left right) (pos 0))

abbrev pub below : List ℕ → List ℕ → ℤ
below left right = one_if (int_lt (comparison left right) (pos 0))

-- the first place, counted from `place` on, at which a text stands, or 0
abbrev pub found_from : ℕ → List ℕ → List ℕ → ℤ
found_from place [] wanted = if nat_eq (length wanted) 0 then pos place else pos 0
found_from place (byte ∷ later) wanted =
    if starts_with nat_eq (byte ∷ later) wanted then pos place else found_from (place + 1) later wanted

-- INDEX
abbrev pub index_of : List ℕ → List ℕ → ℤ
index_of text wanted = found_from 1 text wanted

-- the pieces from an element of the lists of their addresses and lengths on, end to end
abbrev pub pieces : List Object → CValue → CValue → ℕ → Or (List ℕ)
pieces objects addresses lengths zero = Ok []
pieces objects addresses lengths (suc count) =
    after (fetched objects (record { at = addresses; access = ToPointer ToChar })) λ address.
    after (number_through objects lengths) λ number.
    after (count_from number) λ size.
    after (text_at objects address.value size) λ piece.
    after (pieces objects (shifted 1 addresses) (shifted 4 lengths) count) λ later.
    Ok (piece ++ later)

-- `s_cat`: the pieces end to end into the first text; all bytes are fetched first
unfoldable pub concatenated : World → CValue → CValue → CValue → CValue → CValue → Or Reply
concatenated world target addresses lengths count_pointer target_length =
    after (number_through world.objects count_pointer) λ number.
    after (count_from number) λ count.
    after (length_from target_length) λ size.
    after (pieces world.objects addresses lengths count) λ text.
    put_text world target size text
