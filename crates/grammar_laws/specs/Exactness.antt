-- When a reader of pieces is exact for a relation of spelling: what it gives is spelled, and what is spelled before pieces that do not go on
-- is what it gives.
use Rattle.std.specs.Prelude.{◌≡◌, ◌≤◌, Bool, true, false, [], ◌∷◌, length, Option, Some}
use Rattle.fortran_grammar.specs.fortran_lexemes.Lexemes.{Lexemes, Infix, Mark}
use Rattle.fortran_grammar.specs.fortran_lexemes.declared.signs.Sign.TheVariants as sign

-- A reader gives what stands first and the pieces that are left.
abbrev pub Reader : Type 0 → Type 0
Reader A = Lexemes → Option (A × Lexemes)

-- What stands between two places in pieces, each told by the pieces that are left there.
abbrev pub Form : Type 0 → Type 1
Form A = A → Lexemes → Lexemes → Type 0

-- The reader is exact for the form, where what follows passes the test.
pub record Exact {A : Type 0} (read : Reader A) (Spelled : A → Lexemes → Lexemes → Type 0) (follows : Lexemes → Bool) : Type 0 where
  pub sound : (x : A) (before after : Lexemes) → read before ≡ Some (x, after) → Spelled x before after
  pub complete : (x : A) (before after : Lexemes) → Spelled x before after → follows after ≡ true → read before ≡ Some (x, after)
  pub no_longer : (x : A) (before after : Lexemes) → Spelled x before after → length after ≤ length before

-- Anything may follow.
unfoldable pub any : Lexemes → Bool
any pieces = true

-- An expression is not gone on with: no operator between operands and no opening parenthesis follows.
unfoldable pub stops : Lexemes → Bool
stops [] = true
stops (Infix operator ∷ more) = false
stops (Mark sign.Open ∷ more) = false
stops (piece ∷ more) = true
