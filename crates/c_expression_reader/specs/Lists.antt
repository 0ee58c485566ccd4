-- What stands behind an item of a list (C89, 3.3.2.2 and 3.5.7).
use Rattle.std.specs.Prelude.{ℕ, Bool, true, false, List, [], ◌∷◌, Option}
use Rattle.c_tree.specs.Tokens.{Sign}
use Rattle.c_readers.specs.Readers.{Tokens, Outcome, Reader, found, refused}
use Rattle.c_readers.specs.ListReader.{Separator, Closes, Goes, Neither, separator}

unfoldable pub closing_by : List ℕ → Tokens → Separator → Option (Outcome Bool)
closing_by text more Closes = found true more
closing_by text more Goes = found false more
closing_by text more Neither = refused (Sign text ∷ more)

-- Whether the list is closed there, or goes on behind a comma.
unfoldable pub is_closed : List ℕ → Reader Bool
is_closed closing [] = refused []
is_closed closing (Sign text ∷ more) = closing_by text more (separator closing text)
is_closed closing (token ∷ more) = refused (token ∷ more)
