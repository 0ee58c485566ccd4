-- What stands behind a parameter that points to a function.
use Rattle.std.proofs.Common.{◌≡◌, refl, sym, ℕ, Bool, true, false, ◌&&◌, List, [], ◌∷◌}
use Rattle.c_tree.specs.Tokens.{Word, Digits, Quoted, Sign, Including, Bad}
use Rattle.c_tree.specs.CWords.{is_among}
use Rattle.c_tree.specs.CExpressionText.{Scope}
use Rattle.c_readers.specs.Readers.{Tokens}
use Rattle.c_statement_readers.specs.PartReader.{points_and_opens}
use Rattle.c_statement_reader.specs.Signs.{closes_and_opens}

and-false : (b : Bool) → false ≡ (b && false)
and-false true = refl
and-false false = refl

pub points-by : (scope : Scope) (name : List ℕ) (more : Tokens) → points_and_opens scope (Word name ∷ more) ≡ (is_among name scope.pointers && closes_and_opens more)
points-by scope name [] = and-false (is_among name scope.pointers)
points-by scope name (Sign text ∷ more) = refl
points-by scope name (Word text ∷ more) = and-false (is_among name scope.pointers)
points-by scope name (Digits n ∷ more) = and-false (is_among name scope.pointers)
points-by scope name (Quoted bytes ∷ more) = and-false (is_among name scope.pointers)
points-by scope name (Including ∷ more) = and-false (is_among name scope.pointers)
points-by scope name (Bad ∷ more) = and-false (is_among name scope.pointers)

pub ruleset first_signs = points-by
