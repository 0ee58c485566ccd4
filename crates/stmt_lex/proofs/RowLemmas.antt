-- Rows of pieces.
use Rattle.std.proofs.Common.{◌≡◌, ℕ, ◌<◌, true, [], ◌∷◌, refl, sym}
use Rattle.std.proofs.lemmas.Bool.{lt-ltb}
use Rattle.fortran_lexemes.specs.Lexemes.{Lexemes}
use Rattle.fortran_lexemes.specs.LexicalRows.{is_deeper}

pub deep_here : (depth : ℕ) (pieces : Lexemes) → 64 < depth → true ≡ is_deeper depth pieces
unfolding is_deeper
deep_here depth [] h = sym (lt-ltb 64 depth h)
deep_here depth (piece ∷ rest) h = rw (lt-ltb 64 depth h) refl
