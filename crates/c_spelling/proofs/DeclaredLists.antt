-- Words of types and values read as the tokens that spell them.
use Rattle.std.specs.Prelude.{◌≡◌, ℕ, suc, ◌≤◌, ℤ, pos, negsuc, nat_eq, true, false, ◌&&◌, ◌||◌, if◌then◌else◌, List, [], ◌∷◌, ◌++◌, codes, decimal}
use Rattle.std.specs.Char.{is_ascii_digit}
use Rattle.std.specs.Ordering.{int_eq}
use Rattle.std.specs.Fmt.{digits}
use Rattle.std.proofs.Common.{refl, ap, sym, subst, true≢false}
use Rattle.std.proofs.lemmas.Bool.Decides.{nat_tests}
use native.Mathlib.Omega.{arith}
use Rattle.c_laws.specs.c_tree.declared.types.NumberType.{NumberType}
use Rattle.c_laws.specs.c_tree.declared.types.NumberType.TheVariants as number_type
use Rattle.c_laws.specs.c_tree.declared.types.ResultType.{ResultType}
use Rattle.c_laws.specs.c_tree.declared.types.ResultType.TheVariants as gives
use Rattle.c_laws.specs.c_tree.declared.types.FunctionType.TheVariants as pointer
use Rattle.c_laws.specs.c_tree.declared.types.ListType.{ListType}
use Rattle.c_laws.specs.c_tree.declared.types.ListType.TheVariants as block
use Rattle.c_laws.specs.c_tree.declared.types.ParameterType.{ParameterType}
use Rattle.c_laws.specs.c_tree.declared.types.ParameterType.TheVariants as parameter
use Rattle.c_laws.specs.c_tree.declared.types.ArgumentType.{ArgumentType}
use Rattle.c_laws.specs.c_tree.declared.types.ArgumentType.TheVariants as argument
use Rattle.c_laws.specs.c_tree.Tokens.{Token, Word, Digits, Sign, begins_with, is_word_byte, is_sign}
use Rattle.c_laws.specs.c_tree.CWords as words
use Rattle.c_laws.specs.c_tree.CWords.{AWord, ASign, Separated, last_item, one_item, is_name, parameter_tokens, argument_tokens}
use Rattle.c_laws.specs.c_tree.CDeclarationText.{ReadsValue, plain, negative, negative_zero, least, ReadsType}
use Rattle.c_text.specs.Types.{number_word, result_word, block_word, parameter_front, parameter_word, argument_word, printed_value}
use Rattle.c_spelling.proofs.Tokens.{ReadsAs, Piece, word, blank, IsWord, name_word, sign, opening, closing, star, minus, number, decimal_begins}

-- ## Words

pub name_piece : (name : List ℕ) → is_name name ≡ true → Piece name (AWord name)
name_piece name is = let w : IsWord name = name_word name is in record {
  tokens = λ more. Word name ∷ more;
  reads = λ first rest more clear r. word name w.letter w.bytes clear r;
  spells = λ more. refl;
}

fixed_word : (text : List ℕ) → IsWord text → Piece text (AWord text)
fixed_word text w = record {
  tokens = λ more. Word text ∷ more;
  reads = λ first rest more clear r. word text w.letter w.bytes clear r;
  spells = λ more. refl;
}

pub number_word_piece : (of : NumberType) → Piece (number_word of) (AWord (words.number_word of))
number_word_piece number_type.Integer = fixed_word (codes "integer") (record { letter = refl; bytes = refl })
number_word_piece number_type.Logical = fixed_word (codes "logical") (record { letter = refl; bytes = refl })

pub result_word_piece : (of : ResultType) → Piece (result_word of) (AWord (words.result_word of))
result_word_piece gives.Int = fixed_word (codes "int") (record { letter = refl; bytes = refl })
result_word_piece gives.Integer = fixed_word (codes "integer") (record { letter = refl; bytes = refl })
result_word_piece gives.Logical = fixed_word (codes "logical") (record { letter = refl; bytes = refl })
result_word_piece gives.Void = fixed_word (codes "VOID") (record { letter = refl; bytes = refl })

pub list_word_piece : (of : ListType) → Piece (block_word of) (AWord (words.list_word of))
list_word_piece block.Transfer = fixed_word (codes "cilist") (record { letter = refl; bytes = refl })
list_word_piece block.Internal = fixed_word (codes "icilist") (record { letter = refl; bytes = refl })
list_word_piece block.Open = fixed_word (codes "olist") (record { letter = refl; bytes = refl })
list_word_piece block.Close = fixed_word (codes "cllist") (record { letter = refl; bytes = refl })
list_word_piece block.Position = fixed_word (codes "alist") (record { letter = refl; bytes = refl })

-- a parameter's type before its name
pub front_reads : (of : ParameterType) {rest : List ℕ} {tokens : List Token} → ReadsAs rest tokens → ReadsAs (parameter_front of ++ rest) (parameter_tokens of ++ tokens)
front_reads parameter.Integers r = word (codes "integer") refl refl refl (blank (star r))
front_reads parameter.Logicals r = word (codes "logical") refl refl refl (blank (star r))
front_reads parameter.Chars r = word (codes "char") refl refl refl (blank (star r))
front_reads parameter.Length r = word (codes "ftnlen") refl refl refl (blank r)
front_reads parameter.Int r = word (codes "int") refl refl refl (blank r)
front_reads (parameter.Function pointer.Subroutine) r = word (codes "S_fp") refl refl refl (blank r)
front_reads (parameter.Function pointer.Integer) r = word (codes "I_fp") refl refl refl (blank r)
front_reads (parameter.Function pointer.Logical) r = word (codes "L_fp") refl refl refl (blank r)
front_reads (parameter.Function pointer.Unknown) r = word (codes "U_fp") refl refl refl (blank r)

parameter_word_reads : (of : ParameterType) (first : ℕ) (rest : List ℕ) {tokens : List Token} → is_word_byte first ≡ false → ReadsAs (first ∷ rest) tokens → ReadsAs (parameter_word of ++ first ∷ rest) (parameter_tokens of ++ tokens)
parameter_word_reads parameter.Integers first rest clear r = word (codes "integer") refl refl refl (blank (star r))
parameter_word_reads parameter.Logicals first rest clear r = word (codes "logical") refl refl refl (blank (star r))
parameter_word_reads parameter.Chars first rest clear r = word (codes "char") refl refl refl (blank (star r))
parameter_word_reads parameter.Length first rest clear r = word (codes "ftnlen") refl refl clear r
parameter_word_reads parameter.Int first rest clear r = word (codes "int") refl refl clear r
parameter_word_reads (parameter.Function pointer.Subroutine) first rest clear r = word (codes "S_fp") refl refl clear r
parameter_word_reads (parameter.Function pointer.Integer) first rest clear r = word (codes "I_fp") refl refl clear r
parameter_word_reads (parameter.Function pointer.Logical) first rest clear r = word (codes "L_fp") refl refl clear r
parameter_word_reads (parameter.Function pointer.Unknown) first rest clear r = word (codes "U_fp") refl refl clear r

block_reads : (of : ListType) {rest : List ℕ} {tokens : List Token} → ReadsAs rest tokens → ReadsAs ((block_word of ++ codes " *") ++ rest) (argument_tokens (argument.List of) ++ tokens)
block_reads block.Transfer r = word (codes "cilist") refl refl refl (blank (star r))
block_reads block.Internal r = word (codes "icilist") refl refl refl (blank (star r))
block_reads block.Open r = word (codes "olist") refl refl refl (blank (star r))
block_reads block.Close r = word (codes "cllist") refl refl refl (blank (star r))
block_reads block.Position r = word (codes "alist") refl refl refl (blank (star r))

-- the type of an argument
pub type_piece : (of : ArgumentType) → Piece (argument_word of) (ReadsType of)
type_piece (argument.Parameter of) = record {
  tokens = λ more. parameter_tokens of ++ more;
  reads = λ first rest more clear r. parameter_word_reads of first rest clear r;
  spells = λ more. refl;
}
type_piece (argument.List of) = record {
  tokens = λ more. argument_tokens (argument.List of) ++ more;
  reads = λ first rest more clear r. block_reads of r;
  spells = λ more. refl;
}
type_piece argument.Addresses = record {
  tokens = λ more. Word (codes "address") ∷ Sign (codes "*") ∷ more;
  reads = λ first rest more clear r. word (codes "address") refl refl refl (blank (star r));
  spells = λ more. refl;
}

-- ## Values

digit_no_sign : (first : ℕ) → is_ascii_digit first ≡ true → is_sign (45 ∷ first ∷ []) ≡ false
digit_no_sign first is = ap (λ z. z && true || false) (other first is)
  where
    other : (first : ℕ) → is_ascii_digit first ≡ true → nat_eq first 45 ≡ false
    other first is = grind (arith, nat_tests)

-- a minus before a digit
pub minus_before : (text rest : List ℕ) {tokens : List Token} → begins_with is_ascii_digit text ≡ true → ReadsAs (text ++ rest) tokens → ReadsAs (45 ∷ (text ++ rest)) (Sign (codes "-") ∷ tokens)
minus_before [] rest digit more = absurd (true≢false (sym digit))
minus_before (first ∷ text) rest digit more = sign 45 first refl refl refl (digit_no_sign first digit) more

plain_piece : (n : ℕ) → n ≤ 2147483647 → Piece (decimal n) (ReadsValue (pos n))
plain_piece n small = record {
  tokens = λ more. Digits n ∷ more;
  reads = λ first rest more clear r. number n small clear r;
  spells = λ more. plain n small refl;
}

negative_piece : (n : ℕ) → suc n ≤ 2147483647 → Piece (45 ∷ decimal (suc n)) (ReadsValue (negsuc n))
negative_piece n small = record {
  tokens = λ more. Sign (codes "-") ∷ Digits (suc n) ∷ more;
  reads = λ first rest more clear r. minus_before (decimal (suc n)) (first ∷ rest) (decimal_begins (suc n) (omega arith)) (number (suc n) small clear r);
  spells = λ more. negative n small refl refl;
}

least_piece : Piece (codes "(-2147483647 - 1)") (ReadsValue (negsuc 2147483647))
unfolding digits
least_piece = record {
  tokens = λ more. Sign (codes "(") ∷ Sign (codes "-") ∷ Digits 2147483647 ∷ Sign (codes "-") ∷ Digits 1 ∷ Sign (codes ")") ∷ more;
  reads = λ first rest more clear r.
      opening (sign 45 50 refl refl refl refl (number 2147483647 (omega arith) refl (blank (minus (blank (number 1 (omega arith) refl (closing r)))))));
  spells = λ more. least refl refl refl refl refl refl;
}

no_least : (n : ℕ) → suc n ≤ 2147483647 → int_eq (negsuc n) (negsuc 2147483647) ≡ false
no_least n small = grind (arith, nat_tests)

value_of_negative : (n : ℕ) → suc n ≤ 2147483647 → printed_value (negsuc n) ≡ 45 ∷ decimal (suc n)
value_of_negative n small = ap (λ z. if z then codes "(-2147483647 - 1)" else 45 ∷ decimal (suc n)) (no_least n small)

pub value_piece : {value : ℤ} {p q : List Token} → ReadsValue value p q → Piece (printed_value value) (ReadsValue value)
value_piece (plain n small a) = plain_piece n small
value_piece (negative n small a b) = subst (λ z. Piece z (ReadsValue (negsuc n))) (sym (value_of_negative n small)) (negative_piece n small)
value_piece (negative_zero a b) = plain_piece 0 (omega arith)
value_piece (least a b c d e f) = least_piece
