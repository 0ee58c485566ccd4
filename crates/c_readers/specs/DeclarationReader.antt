-- The readers of declarations (C89, 3.5 and 3.7.2). A name that is declared is new.
use Rattle.std.specs.Prelude.{ℕ, nat_le, ℤ, Bool, true, not, ◌&&◌, List, [], ◌∷◌, ◌++◌, length, codes, bytes_eq, Option, Some, None, if◌then◌else◌}
use Rattle.c_tree.specs.declared.types.NumberType.{NumberType}
use Rattle.c_tree.specs.declared.types.NumberType.TheVariants as number
use Rattle.c_tree.specs.declared.types.ListType.{ListType}
use Rattle.c_tree.specs.declared.types.ListType.TheVariants as list
use Rattle.c_tree.specs.declared.declaration.CField.{CField}
use Rattle.c_tree.specs.declared.declaration.CField.TheVariants as field
use Rattle.c_tree.specs.declared.declaration.CLocal.{CLocal}
use Rattle.c_tree.specs.declared.declaration.CLocal.TheVariants as local
use Rattle.c_tree.specs.Tokens.{Word, Digits, Quoted, Sign, Including, Bad}
use Rattle.c_tree.specs.CWords.{is_among, is_name}
use Rattle.c_tree.specs.Access.{fields_of}
use Rattle.c_tree.specs.CExpressionText.{Scope}
use Rattle.c_readers.specs.Readers.{Tokens, Outcome, Reader, found, refused, ◌>>=◌, a_sign, a_name}
use Rattle.c_readers.specs.ValueReader.{a_number, a_quoted, a_word_of, a_sign_of, is_length, value, bounded}
use Rattle.c_readers.specs.TypeReader.{result_words, argument_types}

-- A name that may be declared, given those that are declared in the same scope.
abbrev pub is_new : List (List ℕ) → List ℕ → Bool
is_new here name = is_name name && not (is_among name here)

-- ## Arrays

-- The number of elements of an array, in brackets.
unfoldable pub bracketed : Reader ℕ
bracketed tokens =
    a_sign (codes "[") tokens >>= (λ u. λ p. a_number is_length p >>= (λ n. λ q. a_sign (codes "]") q >>= (λ v. found n)))

-- What stands behind an array.
pub data ArrayEnd : Type 0 where
  Ends : ArrayEnd
  Starts : ArrayEnd

abbrev pub array_ends : List (List ℕ × ArrayEnd)
array_ends = (codes ";", Ends) ∷ (codes "=", Starts) ∷ []

-- The values that an array of so many numbers starts with, in braces, behind the equals sign.
unfoldable pub image : ℕ → Reader (Option (List ℤ))
image n tokens =
    a_sign (codes "{") tokens
    >>= (λ u. λ p. bounded value (codes "}") n [] p >>= (λ values. λ q. a_sign (codes ";") q >>= (λ v. found (Some values))))

unfoldable pub numbers_by : ℕ → Tokens → ArrayEnd → Option (Outcome (Option (List ℤ)))
numbers_by n more Ends = found None more
numbers_by n more Starts = image n more

-- What stands behind an array of so many numbers.
unfoldable pub numbers : ℕ → Reader (Option (List ℤ))
numbers n tokens = a_sign_of array_ends tokens >>= (λ end. λ more. numbers_by n more end)

-- The string that an array of so many characters starts with, behind the equals sign.
unfoldable pub text_image : ℕ → Reader (Option (List ℕ))
text_image n tokens =
    a_quoted (λ bytes. nat_le (length bytes) n) tokens >>= (λ bytes. λ p. a_sign (codes ";") p >>= (λ u. found (Some bytes)))

unfoldable pub text_by : ℕ → Tokens → ArrayEnd → Option (Outcome (Option (List ℕ)))
text_by n more Ends = found None more
text_by n more Starts = text_image n more

-- What stands behind an array of so many characters.
unfoldable pub text : ℕ → Reader (Option (List ℕ))
text n tokens = a_sign_of array_ends tokens >>= (λ end. λ more. text_by n more end)

-- ## Declarations that last

-- What stands behind the name of a number that lasts.
pub data NumberEnd : Type 0 where
  Bare : NumberEnd
  Valued : NumberEnd
  Many : NumberEnd

abbrev pub number_ends : List (List ℕ × NumberEnd)
number_ends = (codes ";", Bare) ∷ (codes "=", Valued) ∷ (codes "[", Many) ∷ []

-- A declaration, with the name that it declares.
abbrev pub Declared : Type 0
Declared = CLocal × List ℕ

unfoldable pub static_value : NumberType → List ℕ → Reader Declared
static_value of name tokens = value tokens >>= (λ v. λ p. a_sign (codes ";") p >>= (λ u. found (local.StaticNumber of name (Some v), name)))

unfoldable pub static_numbers : NumberType → List ℕ → Reader Declared
static_numbers of name tokens =
    a_number is_length tokens
    >>= (λ n. λ p. a_sign (codes "]") p >>= (λ u. λ q. numbers n q >>= (λ values. found (local.StaticNumbers of name n values, name))))

unfoldable pub static_number_by : NumberType → List ℕ → Tokens → NumberEnd → Option (Outcome Declared)
static_number_by of name more Bare = found (local.StaticNumber of name None, name) more
static_number_by of name more Valued = static_value of name more
static_number_by of name more Many = static_numbers of name more

unfoldable pub static_number : (List ℕ → Bool) → NumberType → Reader Declared
static_number new of tokens =
    a_name new tokens >>= (λ name. λ p. a_sign_of number_ends p >>= (λ end. λ more. static_number_by of name more end))

-- Behind the length of an array of characters that lasts: the closing bracket and the rest.
unfoldable pub static_text : List ℕ → ℕ → Reader Declared
static_text name n tokens = a_sign (codes "]") tokens >>= (λ u. λ p. text n p >>= (λ bytes. found (local.StaticChars name (Some n) bytes, name)))

-- Behind the brackets of an array that is as long as its string.
unfoldable pub own_length : List ℕ → Reader Declared
own_length name tokens =
    a_sign (codes "=") tokens
    >>= (λ u. λ p. a_quoted (λ bytes. true) p >>= (λ bytes. λ q. a_sign (codes ";") q >>= (λ v. found (local.StaticChars name None (Some bytes), name))))

unfoldable pub static_chars_behind : List ℕ → Reader Declared
static_chars_behind name [] = refused []
static_chars_behind name (Digits n ∷ more) = if is_length n then static_text name n more else refused (Digits n ∷ more)
static_chars_behind name (Sign word ∷ more) = if bytes_eq word (codes "]") then own_length name more else refused (Sign word ∷ more)
static_chars_behind name (token ∷ more) = refused (token ∷ more)

unfoldable pub static_chars : (List ℕ → Bool) → Reader Declared
static_chars new tokens = a_name new tokens >>= (λ name. λ p. a_sign (codes "[") p >>= (λ u. static_chars_behind name))

-- A field of a list block.
unfoldable pub a_field : Scope → Reader CField
a_field scope [] = refused []
a_field scope (Word name ∷ more) = if is_among name (scope.arrays ++ scope.functions) then found (field.Name name) more else refused (Word name ∷ more)
a_field scope (Quoted bytes ∷ more) = found (field.Str bytes) more
a_field scope (token ∷ more) = value (token ∷ more) >>= (λ v. found (field.Number v))

unfoldable pub static_list : Scope → (List ℕ → Bool) → ListType → Reader Declared
static_list scope new of tokens =
    a_name new tokens
    >>= (λ name. λ p. a_sign (codes "=") p
    >>= (λ u. λ q. a_sign (codes "{") q
    >>= (λ v. λ r. bounded (a_field scope) (codes "}") (length (fields_of of)) [] r
    >>= (λ fields. λ s. a_sign (codes ";") s >>= (λ w. found (local.StaticList of name fields, name))))))

-- What a word begins behind `static`.
pub data StaticLead : Type 0 where
  OfNumbers : NumberType → StaticLead
  OfChars : StaticLead
  OfList : ListType → StaticLead

abbrev pub static_words : List (List ℕ × StaticLead)
static_words =
    (codes "integer", OfNumbers number.Integer) ∷ (codes "logical", OfNumbers number.Logical) ∷ (codes "char", OfChars)
    ∷ (codes "cilist", OfList list.Transfer) ∷ (codes "icilist", OfList list.Internal) ∷ (codes "olist", OfList list.Open)
    ∷ (codes "cllist", OfList list.Close) ∷ (codes "alist", OfList list.Position) ∷ []

unfoldable pub static_by : Scope → (List ℕ → Bool) → Tokens → StaticLead → Option (Outcome Declared)
static_by scope new more (OfNumbers of) = static_number new of more
static_by scope new more OfChars = static_chars new more
static_by scope new more (OfList of) = static_list scope new of more

-- Behind `static`.
unfoldable pub static : Scope → (List ℕ → Bool) → Reader Declared
static scope new tokens = a_word_of static_words tokens >>= (λ lead. λ more. static_by scope new more lead)

-- ## Other declarations

-- Behind `extern`: so many types at most.
unfoldable pub extern : (List ℕ → Bool) → ℕ → Reader Declared
extern new count tokens =
    a_word_of result_words tokens
    >>= (λ of. λ p. a_name new p
    >>= (λ name. λ q. a_sign (codes "(") q
    >>= (λ u. λ r. argument_types count r >>= (λ types. λ s. a_sign (codes ";") s >>= (λ v. found (local.Extern of name types, name))))))

-- What stands behind the name of a number that does not last.
pub data PlainEnd : Type 0 where
  Alone : PlainEnd
  Several : PlainEnd

abbrev pub plain_ends : List (List ℕ × PlainEnd)
plain_ends = (codes ";", Alone) ∷ (codes "[", Several) ∷ []

unfoldable pub plain_numbers : NumberType → List ℕ → Reader Declared
plain_numbers of name tokens =
    a_number is_length tokens
    >>= (λ n. λ p. a_sign (codes "]") p >>= (λ u. λ q. a_sign (codes ";") q >>= (λ v. found (local.Numbers of name n, name))))

unfoldable pub plain_number_by : NumberType → List ℕ → Tokens → PlainEnd → Option (Outcome Declared)
plain_number_by of name more Alone = found (local.Number of name, name) more
plain_number_by of name more Several = plain_numbers of name more

unfoldable pub plain_number : (List ℕ → Bool) → NumberType → Reader Declared
plain_number new of tokens =
    a_name new tokens >>= (λ name. λ p. a_sign_of plain_ends p >>= (λ end. λ more. plain_number_by of name more end))

-- A name with its number of elements and the end of its declaration.
unfoldable pub an_array : (List ℕ → Bool) → (List ℕ → ℕ → CLocal) → Reader Declared
an_array new made tokens =
    a_name new tokens >>= (λ name. λ p. bracketed p >>= (λ n. λ q. a_sign (codes ";") q >>= (λ u. found (made name n, name))))

-- What a word begins at the head of a function.
pub data LocalLead : Type 0 where
  External : LocalLead
  Lasting : LocalLead
  Numbers : NumberType → LocalLead
  Chars : LocalLead
  Addresses : LocalLead

abbrev pub local_words : List (List ℕ × LocalLead)
local_words =
    (codes "extern", External) ∷ (codes "static", Lasting) ∷ (codes "integer", Numbers number.Integer)
    ∷ (codes "logical", Numbers number.Logical) ∷ (codes "char", Chars) ∷ (codes "address", Addresses) ∷ []

unfoldable pub local_by : Scope → (List ℕ → Bool) → ℕ → Tokens → LocalLead → Option (Outcome Declared)
local_by scope new count more External = extern new count more
local_by scope new count more Lasting = static scope new more
local_by scope new count more (Numbers of) = plain_number new of more
local_by scope new count more Chars = an_array new local.Chars more
local_by scope new count more Addresses = an_array new local.Addresses more

-- A declaration at the head of a function, with the name that it declares: so many types of arguments at most.
unfoldable pub a_local : Scope → (List ℕ → Bool) → ℕ → Reader Declared
a_local scope new count tokens = a_word_of local_words tokens >>= (λ lead. λ more. local_by scope new count more lead)
