-- The zero byte behind a name (C89, 3.1.4).
use Rattle.std.specs.Prelude.{ℕ, zero, suc, nat_eq, Bool, List, [], ◌∷◌, Option, Some, None, option_map}

-- how many bytes stand before the first zero byte; none where one of them is not set, or where there is no zero byte
abbrev pub zero_in : List (Option ℕ) → Option ℕ
zero_in [] = None
zero_in (None ∷ later) = None
zero_in (Some zero ∷ later) = Some 0
zero_in (Some (suc less) ∷ later) = option_map suc (zero_in later)

-- whether the first byte is zero; nothing where it is not set, or where there is none
abbrev pub zero_first : List (Option ℕ) → Option Bool
zero_first [] = None
zero_first (None ∷ later) = None
zero_first (Some byte ∷ later) = Some (nat_eq byte 0)
