-- Items of lists in braces, and what stands behind one (C89, 3.5.7).
use Rattle.std.specs.Prelude.{ℕ, zero, suc, Bool, true, List}
use Rattle.c_tree.specs.declared.declaration.CField.{CField}
use Rattle.c_tree.specs.declared.declaration.CField.TheVariants as field
use Rattle.c_readers.specs.Readers.{Reader, found, ◌>>=◌, a_sign}
use Rattle.c_readers.specs.ValueReader.{value}
use Rattle.c_expression_reader.specs.Lists.{is_closed}

-- Whether a list that may have so many items more is closed there, or goes on behind a comma: it is closed where no item may follow.
unfoldable pub is_closed_within : ℕ → List ℕ → Reader Bool
is_closed_within zero closing tokens = a_sign closing tokens >>= (λ u. found true)
is_closed_within (suc left) closing tokens = is_closed closing tokens

-- A field that holds a number.
unfoldable pub number_field : Reader CField
number_field tokens = value tokens >>= (λ v. found (field.Number v))
