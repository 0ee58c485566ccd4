-- Arrays, and the values that objects start with, read as the tokens that spell them.
use Rattle.std.specs.Prelude.{◌≡◌, ℕ, ℤ, true, List, [], ◌∷◌, ◌++◌, codes, decimal, Option}
use Rattle.std.specs.List.{list_all}
use Rattle.std.proofs.Common.{refl}
use Rattle.c_laws.specs.c_tree.Tokens.{Token, Word, Digits, Quoted, Sign}
use Rattle.c_laws.specs.c_tree.CWords.{is_name}
use Rattle.c_laws.specs.c_tree.CDeclarationText.{ReadsValue, ReadsValues, IsLength, ReadsArray, an_array, ReadsNumbers, no_image, an_image, ReadsText, no_text, a_text}
use Rattle.c_text.specs.Types.{printed_value}
use Rattle.c_text.specs.Lists.{between_commas, braced}
use Rattle.c_text.specs.Declarations.{bounds, first_values, first_string}
use Rattle.c_spelling.specs.Spelled.{text_of_bytes}
use Rattle.c_spelling.proofs.Tokens.{ReadsAs, inside, Piece, Whole, word, blank, IsWord, name_word, equals, left_bracket, right_bracket, left_brace, right_brace, number}
use Rattle.c_spelling.proofs.DeclaredStrings.{quoted_reads}
use Rattle.c_spelling.proofs.TokensLists.{Before, separated_piece}
use Rattle.c_spelling.proofs.DeclaredLists.{value_piece}

-- the name of an array with its length
pub array_whole : (name : List ℕ) (n : ℕ) → is_name name ≡ true → IsLength n → Whole (name ++ bounds n) (ReadsArray name n)
array_whole name n is size = let w : IsWord name = name_word name is in record {
  tokens = λ more. Word name ∷ Sign (codes "[") ∷ Digits n ∷ Sign (codes "]") ∷ more;
  reads = λ rest more r.
      inside name (91 ∷ (decimal n ++ 93 ∷ [])) rest (word name w.letter w.bytes refl (left_bracket
      (inside (decimal n) (93 ∷ []) rest (number n size.fits refl (right_bracket r)))));
  spells = λ more. an_array name n size refl refl refl refl;
}

pub length_of : {name : List ℕ} {n : ℕ} {p q : List Token} → ReadsArray name n p q → IsLength n
length_of (an_array name n size a b c d) = size

-- a value in each place of an image
value_in : (value : ℤ) (p q : List Token) → true ≡ true → ReadsValue value p q → Piece (printed_value value) (ReadsValue value)
value_in value p q all reads = value_piece reads

all_values : (values : List ℤ) → list_all (λ value. true) values ≡ true
all_values [] = refl
all_values (value ∷ values) = all_values values

pub values_piece : {values : List ℤ} {p q : List Token} → ReadsValues values p q → Piece (between_commas printed_value values) (Before (codes "}") (ReadsValues values))
values_piece {values = values} reads = separated_piece printed_value (λ value. true) value_in (all_values values) reads

-- a list in braces behind a sign of equality
pub braces_read : {T : Type 0} (text : T → List ℕ) (items : List T) (first : ℕ) (rest : List ℕ) {Spells : List Token → List Token → Type 0} (list : Piece (between_commas text items) Spells) (more : List Token)
    → ReadsAs (first ∷ rest) more
    → ReadsAs ((codes " = " ++ braced text items) ++ first ∷ rest) (Sign (codes "=") ∷ Sign (codes "{") ∷ list.tokens (Sign (codes "}") ∷ more))
unfolding braced
braces_read text items first rest list more r =
    blank (equals (blank (left_brace (blank
    (inside (between_commas text items) (codes " }") (first ∷ rest)
    (list.reads 32 (125 ∷ first ∷ rest) (Sign (codes "}") ∷ more) refl (blank (right_brace r))))))))

-- the values that an array of numbers starts with
pub numbers_piece : {n : ℕ} {image : Option (List ℤ)} {p q : List Token} → ReadsNumbers n image p q → Piece (first_values image) (Before (codes ";") (ReadsNumbers n image))
unfolding first_values
numbers_piece (no_image a) = record {
  tokens = λ more. more;
  reads = λ first rest more clear r. r;
  spells = λ more. λ later end. no_image end;
}
numbers_piece (an_image {values = values} fits a b all c) = let list : Piece (between_commas printed_value values) _ = values_piece all in record {
  tokens = λ more. Sign (codes "=") ∷ Sign (codes "{") ∷ list.tokens (Sign (codes "}") ∷ more);
  reads = λ first rest more clear r. braces_read printed_value values first rest list more r;
  spells = λ more. λ later end. an_image fits refl refl (list.spells (Sign (codes "}") ∷ more) more refl) end;
}

-- the string that an array of characters starts with
pub text_piece : {n : ℕ} {image : Option (List ℕ)} {p q : List Token} → text_of_bytes image ≡ true → ReadsText n image p q → Piece (first_string image) (Before (codes ";") (ReadsText n image))
unfolding first_string
text_piece of_bytes (no_text a) = record {
  tokens = λ more. more;
  reads = λ first rest more clear r. r;
  spells = λ more. λ later end. no_text end;
}
text_piece of_bytes (a_text bytes fits a b c) = record {
  tokens = λ more. Sign (codes "=") ∷ Quoted bytes ∷ more;
  reads = λ first rest more clear r. blank (equals (blank (quoted_reads bytes of_bytes r)));
  spells = λ more. λ later end. a_text bytes fits refl refl end;
}
