-- What a piece asks for, by its statements.
use Rattle.std.proofs.Common.{◌≡◌, ℕ, ◌<◌, ◌≤◌, List, [], ◌∷◌, length, get_or, refl, sym, ap, ◌∙◌, arith}
use Rattle.fortran_text.specs.StatementsOfFile.{FileCards, file_cards}
use Rattle.fortran_text.specs.declared.source.Statement.{Statement}
use Rattle.split_pieces.specs.WantedNames.{nameless, wanted_by, wanted_of}
use Rattle.split_pieces.specs.declared.wanted.Wanted.TheVariants.{Unknown}

by_first : (s : Statement) (more : List Statement) → wanted_by (s ∷ more) ≡ wanted_by (s ∷ [])
unfolding wanted_by
by_first s more = refl

pub of_statements : (piece : List ℕ) (cards : FileCards) → cards ≡ file_cards 0 piece → wanted_by cards.statements ≡ wanted_of piece
unfolding file_cards wanted_of
of_statements piece cards is = ap (λ (c : FileCards). wanted_by c.statements) is

pub begun_by : (list : List Statement) (s : Statement) → 1 ≤ length list → s ≡ get_or list 0 s → wanted_by (s ∷ []) ≡ wanted_by list
begun_by [] s some is = absurd (omega arith)
begun_by (t ∷ more) s some is = ap (λ u. wanted_by (u ∷ [])) is ∙ sym (by_first t more)

pub none_of : (list : List Statement) → length list < 1 → nameless Unknown ≡ wanted_by list
unfolding wanted_by
none_of [] none = refl
none_of (t ∷ more) none = absurd (omega arith)
