-- The readers of external objects and of constants (C89, 3.5.7 and 3.7.2). A name that is declared is new.
use Rattle.std.specs.Prelude.{ℕ, Bool, List, [], ◌∷◌, codes, Option}
use Rattle.c_statement_readers.specs.c_tree.declared.file.CObject.{CObject}
use Rattle.c_statement_readers.specs.c_tree.declared.file.CObject.TheVariants as object
use Rattle.c_statement_readers.specs.c_tree.declared.file.CConstant.{CConstant}
use Rattle.c_statement_readers.specs.c_readers.Readers.{Tokens, Outcome, Reader, found, ◌>>=◌, a_sign, a_word, a_name}
use Rattle.c_statement_readers.specs.c_readers.ValueReader.{a_word_of, value}
use Rattle.c_statement_readers.specs.c_readers.DeclarationReader.{bracketed, numbers, text}

-- ## External objects

-- An external object, with its name.
abbrev pub Named : Type 0
Named = CObject × List ℕ

-- Behind the name of an array of integers: the number of its elements, and the values that it starts with. What is longer than the array is
-- refused at the first value past it.
unfoldable pub integers_behind : List ℕ → Reader Named
integers_behind name tokens = bracketed tokens >>= (λ n. λ p. numbers n p >>= (λ values. found (object.Integers name n values, name)))

-- Behind `integer`.
unfoldable pub integers : (List ℕ → Bool) → Reader Named
integers new tokens = a_name new tokens >>= integers_behind

-- Behind the name of an array of characters: their number, and the string that it starts with. A string that is longer is refused.
unfoldable pub characters_behind : List ℕ → Reader Named
characters_behind name tokens = bracketed tokens >>= (λ n. λ p. text n p >>= (λ bytes. found (object.Chars name n bytes, name)))

-- Behind `char`.
unfoldable pub characters : (List ℕ → Bool) → Reader Named
characters new tokens = a_name new tokens >>= characters_behind

-- What a word begins where an external object is wanted.
pub data ObjectLead : Type 0 where
  OfIntegers : ObjectLead
  OfCharacters : ObjectLead

abbrev pub object_words : List (List ℕ × ObjectLead)
object_words = (codes "integer", OfIntegers) ∷ (codes "char", OfCharacters) ∷ []

unfoldable pub object_by : (List ℕ → Bool) → Tokens → ObjectLead → Option (Outcome Named)
object_by new more OfIntegers = integers new more
object_by new more OfCharacters = characters new more

-- An external object, with the name that it declares.
unfoldable pub an_object : (List ℕ → Bool) → Reader Named
an_object new tokens = a_word_of object_words tokens >>= (λ lead. λ more. object_by new more lead)

-- ## Constants

-- Behind the name of a constant: its value.
unfoldable pub constant_behind : List ℕ → Reader CConstant
constant_behind name tokens =
    a_sign (codes "=") tokens
    >>= (λ u. λ p. value p >>= (λ given. λ q. a_sign (codes ";") q >>= (λ v. found (record { name = name; value = given }))))

-- A constant.
unfoldable pub a_constant : (List ℕ → Bool) → Reader CConstant
a_constant new tokens =
    a_word (codes "static") tokens >>= (λ u. λ p. a_word (codes "integer") p >>= (λ v. λ q. a_name new q >>= constant_behind))
