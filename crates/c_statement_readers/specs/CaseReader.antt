-- The reader of the cases of a switch (C89, 3.6.4.2), up to its closing brace: no number stands twice.
use Rattle.std.specs.Prelude.{ℕ, zero, suc, nat_le, pos, Bool, not, ◌&&◌, List, [], ◌∷◌, ◌++◌, length, codes, bytes_eq, Option, None, if◌then◌else◌}
use Rattle.std.specs.List.{list_any}
use Rattle.std.specs.Ordering.{int_eq}
use Rattle.c_readers.specs.c_tree.declared.statement.CCase.{CCase}
use Rattle.c_readers.specs.c_tree.Tokens.{Word, Sign}
use Rattle.c_readers.specs.c_tree.CStatementText.{case_numbers}
use Rattle.c_readers.specs.Readers.{Tokens, Outcome, Reader, found, refused, ◌>>=◌, a_sign, a_word, a_name}
use Rattle.c_readers.specs.ValueReader.{is_within, a_number}
use Rattle.c_statement_readers.specs.LabelTests.{may_be_named}

-- A number may stand behind these.
abbrev pub is_new_number : List CCase → ℕ → Bool
is_new_number cases n = is_within n && not (list_any (int_eq (pos n)) (case_numbers cases))

-- Not all numbers stand.
abbrev pub leaves_number : List CCase → Bool
leaves_number cases = nat_le (length cases) 2147483647

abbrev pub case_of : ℕ → List ℕ → CCase
case_of n label = record { number = pos n; label = label }

-- Behind `case`: where these ones were read before, and these labels stand.
unfoldable pub one_case : List (List ℕ) → List CCase → Reader CCase
one_case stand items tokens =
    a_number (is_new_number items) tokens
    >>= (λ n. λ p. a_sign (codes ":") p
    >>= (λ u. λ q. a_word (codes "goto") q
    >>= (λ v. λ r. a_name (may_be_named stand) r
    >>= (λ label. λ s. a_sign (codes ";") s >>= (λ w. found (case_of n label))))))

unfoldable pub cases_by_word : (CCase → Reader (List CCase)) → List (List ℕ) → List CCase → List ℕ → Tokens → Bool → Option (Outcome (List CCase))
cases_by_word again stand items text more does = if does then one_case stand items more >>= again else refused (Word text ∷ more)

unfoldable pub cases_by_sign : List CCase → List ℕ → Tokens → Bool → Option (Outcome (List CCase))
cases_by_sign items text more closes = if closes then found items more else refused (Sign text ∷ more)

-- Cases up to the closing brace, where these ones were read before: so many at most.
unfoldable pub cases : ℕ → List (List ℕ) → List CCase → Reader (List CCase)
cases zero stand items tokens = None
cases (suc count) stand items [] = refused []
cases (suc count) stand items (Word text ∷ more) =
    cases_by_word (λ one. cases count stand (items ++ (one ∷ []))) stand items text more (bytes_eq text (codes "case") && leaves_number items)
cases (suc count) stand items (Sign text ∷ more) = cases_by_sign items text more (bytes_eq text (codes "}"))
cases (suc count) stand items (token ∷ more) = refused (token ∷ more)
