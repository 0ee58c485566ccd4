-- Signs that stand first in tokens (C89, 3.3.2.2).
use Rattle.std.specs.Prelude.{Bool, false, ◌&&◌, ◌∷◌, codes, bytes_eq}
use Rattle.c_tree.specs.Tokens.{Sign}
use Rattle.c_readers.specs.Readers.{Tokens}
use Rattle.c_statement_readers.specs.PartReader.{starts_with}

-- A closing parenthesis and an opening one stand first.
abbrev pub closes_and_opens : Tokens → Bool
closes_and_opens (Sign text ∷ more) = bytes_eq text (codes ")") && starts_with (codes "(") more
closes_and_opens other = false
