-- The reader of items with a comma between each two, up to what closes them (C89, 3.3.2.2 and 3.5.7).
use Rattle.std.specs.Prelude.{ℕ, zero, suc, List, [], ◌∷◌, ◌++◌, codes, bytes_eq, Option, None, if◌then◌else◌}
use Rattle.c_tree.specs.Tokens.{Sign}
use Rattle.c_readers.specs.Readers.{Tokens, Outcome, Reader, found, refused, ◌>>=◌}

-- What stands behind an item.
pub data Separator : Type 0 where
  Closes : Separator
  Goes : Separator
  Neither : Separator

abbrev pub separator : List ℕ → List ℕ → Separator
separator closing text = if bytes_eq text closing then Closes else (if bytes_eq text (codes ",") then Goes else Neither)

abbrev pub by_separator : {A : Type 0} → Reader (List A) → List A → List ℕ → Tokens → Separator → Option (Outcome (List A))
by_separator again items text more Closes = found items more
by_separator again items text more Goes = again more
by_separator again items text more Neither = refused (Sign text ∷ more)

-- Behind an item, where these ones were read.
unfoldable pub behind_item : {A : Type 0} → Reader (List A) → List ℕ → List A → Reader (List A)
behind_item again closing items [] = refused []
behind_item again closing items (Sign text ∷ more) = by_separator again items text more (separator closing text)
behind_item again closing items (token ∷ more) = refused (token ∷ more)

-- One item or more, where these ones were read before.
unfoldable pub separated : {A : Type 0} → Reader A → List ℕ → ℕ → List A → Reader (List A)
separated item closing zero items tokens = None
separated item closing (suc nests) items tokens =
    item tokens >>= (λ one. behind_item (separated item closing nests (items ++ (one ∷ []))) closing (items ++ (one ∷ [])))
