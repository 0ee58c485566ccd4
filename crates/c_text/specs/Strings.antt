-- Strings of a C text (C89, 3.1.4): the bytes 32 to 126 stand for themselves, a double quote and a
-- backslash behind a backslash, every other byte as a backslash and three octal digits. So does a question mark
-- behind another one, since two of them may begin a trigraph (C89, 2.2.1.1).
use Rattle.std.specs.Prelude.{ℕ, ◌+◌, ◌/◌, ◌%◌, nat_eq, nat_le, ◌||◌, ◌&&◌, if◌then◌else◌, List, [], ◌∷◌, ◌++◌}

-- the three octal digits of a byte
abbrev pub octal : ℕ → List ℕ
octal byte = (48 + byte / 64) ∷ (48 + byte / 8 % 8) ∷ (48 + byte % 8) ∷ []

-- one byte of a string, behind another
abbrev pub escaped : ℕ → ℕ → List ℕ
escaped before byte =
    if nat_eq before 63 && nat_eq byte 63 then 92 ∷ octal byte
    else if nat_eq byte 34 || nat_eq byte 92 then 92 ∷ byte ∷ []
    else (if nat_le 32 byte && nat_le byte 126 then byte ∷ [] else 92 ∷ octal byte)

abbrev pub all_escaped : ℕ → List ℕ → List ℕ
all_escaped before [] = []
all_escaped before (byte ∷ later) = escaped before byte ++ all_escaped byte later

-- a string in double quotes
abbrev pub quoted : List ℕ → List ℕ
quoted bytes = 34 ∷ (all_escaped 0 bytes ++ 34 ∷ [])
