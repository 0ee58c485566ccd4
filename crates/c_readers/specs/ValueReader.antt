-- The readers of values, of strings and of images (C89, 3.5.7).
use Rattle.std.specs.Prelude.{ℕ, zero, suc, nat_eq, nat_le, ℤ, pos, negsuc, Bool, ◌&&◌, List, [], ◌∷◌, ◌++◌, codes, bytes_eq, Option, Some, None, if◌then◌else◌}
use Rattle.c_tree.specs.Tokens.{Word, Digits, Quoted, Sign}
use Rattle.c_readers.specs.Readers.{Tokens, Outcome, Reader, found, refused, ◌>>=◌, lookup, a_sign}
use Rattle.c_readers.specs.ListReader.{Separator, Closes, Neither, separator, by_separator}

-- A number that passes a test.
unfoldable pub a_number : (ℕ → Bool) → Reader ℕ
a_number passes [] = refused []
a_number passes (Digits n ∷ more) = if passes n then found n more else refused (Digits n ∷ more)
a_number passes (token ∷ more) = refused (token ∷ more)

-- A string that passes a test.
unfoldable pub a_quoted : (List ℕ → Bool) → Reader (List ℕ)
a_quoted passes [] = refused []
a_quoted passes (Quoted bytes ∷ more) = if passes bytes then found bytes more else refused (Quoted bytes ∷ more)
a_quoted passes (token ∷ more) = refused (token ∷ more)

abbrev pub by_row : {A : Type 0} → Tokens → Tokens → Option A → Option (Outcome A)
by_row tokens more (Some x) = found x more
by_row tokens more None = refused tokens

-- A word of a table, as what stands beside it.
unfoldable pub a_word_of : {A : Type 0} → List (List ℕ × A) → Reader A
a_word_of table [] = refused []
a_word_of table (Word text ∷ more) = by_row (Word text ∷ more) more (lookup text table)
a_word_of table (token ∷ more) = refused (token ∷ more)

-- A sign of a table, as what stands beside it.
unfoldable pub a_sign_of : {A : Type 0} → List (List ℕ × A) → Reader A
a_sign_of table [] = refused []
a_sign_of table (Sign text ∷ more) = by_row (Sign text ∷ more) more (lookup text table)
a_sign_of table (token ∷ more) = refused (token ∷ more)

-- The numbers of the subset (C89, 3.1.3.2), and the lengths among them.
abbrev pub is_within : ℕ → Bool
is_within n = nat_le n 2147483647

abbrev pub is_length : ℕ → Bool
is_length n = nat_le 1 n && is_within n

abbrev pub negative : ℕ → ℤ
negative zero = pos 0
negative (suc n) = negsuc n

-- Behind a sign: the number.
unfoldable pub negated : Reader ℤ
negated tokens = a_number is_within tokens >>= (λ n. found (negative n))

-- Behind the opening parenthesis of the least value: the rest of it.
unfoldable pub least : Reader ℤ
least tokens =
    a_sign (codes "-") tokens
    >>= (λ u. λ p. a_number (nat_eq 2147483647) p
    >>= (λ m. λ q. a_sign (codes "-") q >>= (λ v. λ r. a_number (nat_eq 1) r >>= (λ n. λ s. a_sign (codes ")") s >>= (λ w. found (negsuc 2147483647))))))

-- What a sign begins, where a value is wanted.
pub data ValueLead : Type 0 where
  Negation : ValueLead
  Least : ValueLead

abbrev pub value_leads : List (List ℕ × ValueLead)
value_leads = (codes "-", Negation) ∷ (codes "(", Least) ∷ []

unfoldable pub by_value_sign : List ℕ → Tokens → Option ValueLead → Option (Outcome ℤ)
by_value_sign text more (Some Negation) = negated more
by_value_sign text more (Some Least) = least more
by_value_sign text more None = refused (Sign text ∷ more)

-- A value.
unfoldable pub value : Reader ℤ
value [] = refused []
value (Digits n ∷ more) = if is_within n then found (pos n) more else refused (Digits n ∷ more)
value (Sign text ∷ more) = by_value_sign text more (lookup text value_leads)
value (token ∷ more) = refused (token ∷ more)

-- What stands behind an item, where so many may still follow.
abbrev pub bounded_separator : ℕ → List ℕ → List ℕ → Separator
bounded_separator zero closing text = if bytes_eq text closing then Closes else Neither
bounded_separator (suc most) closing text = separator closing text

unfoldable pub behind_bounded : {A : Type 0} → Reader (List A) → ℕ → List ℕ → List A → Reader (List A)
behind_bounded again most closing items [] = refused []
behind_bounded again most closing items (Sign text ∷ more) = by_separator again items text more (bounded_separator most closing text)
behind_bounded again most closing items (token ∷ more) = refused (token ∷ more)

-- One item or more, and so many at most, where these ones were read before.
unfoldable pub bounded : {A : Type 0} → Reader A → List ℕ → ℕ → List A → Reader (List A)
bounded item closing zero items tokens = refused tokens
bounded item closing (suc most) items tokens =
    item tokens >>= (λ one. behind_bounded (bounded item closing most (items ++ (one ∷ []))) most closing (items ++ (one ∷ [])))
