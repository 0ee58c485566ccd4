-- Each form of a declaration at the head of a printed function reads as the tokens that spell it, up to its semicolon.
use Rattle.std.specs.Prelude.{◌≡◌, ℕ, true, List, [], ◌∷◌, ◌++◌, codes}
use Rattle.std.specs.List.{list_all}
use Rattle.std.proofs.Common.{refl, ap, sym, append_assoc}
use Rattle.c_laws.specs.c_tree.declared.types.ArgumentType.{ArgumentType}
use Rattle.c_laws.specs.c_tree.declared.types.NumberType.{NumberType}
use Rattle.c_laws.specs.c_tree.declared.declaration.CField.{CField}
use Rattle.c_laws.specs.c_tree.declared.declaration.CLocal.{CLocal}
use Rattle.c_laws.specs.c_tree.Tokens.{Token, Word, Quoted, Sign}
use Rattle.c_laws.specs.c_tree.CWords.{is_name, Separated, last_item, one_item}
use Rattle.c_laws.specs.c_tree.CExpressionText.{Scope}
use Rattle.c_laws.specs.c_tree.CDeclarationText.{IsLength, ReadsType, ReadsTypes, no_type, some_types, ReadsField, a_value, a_string, a_start, ReadsStatic, a_static, a_static_value, a_static_array, a_static_text, a_text_of_its_length, a_list, ReadsLocal, an_extern, static, a_number, an_array_of_numbers, an_array_of_chars, an_array_of_addresses}
use Rattle.c_text.specs.Phrases.{letters}
use Rattle.c_text.specs.Types.{number_word, result_word, block_word, argument_word, printed_value}
use Rattle.c_text.specs.Strings.{quoted}
use Rattle.c_text.specs.Lists.{between_commas, braced}
use Rattle.c_text.specs.Declarations.{bounds, bounds_or_none, first_value, first_values, first_string, printed_field, printed_types, printed_extern, number_name, printed_static, printed_statics, printed_static_chars, printed_list, printed_local}
use Rattle.c_spelling.specs.Spelled.{field_of_bytes, local_of_bytes}
use Rattle.c_spelling.proofs.Tokens.{ReadsAs, in_words, inside, Piece, Whole, word, blank, IsWord, name_word, opening, closing, equals, left_bracket, right_bracket}
use Rattle.c_spelling.proofs.TokensScope.{NamedScope, named_among, names_append}
use Rattle.c_spelling.proofs.DeclaredStrings.{quoted_reads}
use Rattle.c_spelling.proofs.TokensLists.{Before, separated_piece}
use Rattle.c_spelling.proofs.DeclaredLists.{name_piece, number_word_piece, result_word_piece, list_word_piece, type_piece, value_piece}
use Rattle.c_spelling.proofs.DeclaredImages.{array_whole, length_of, braces_read, numbers_piece, text_piece}

-- ## Parts of declarations

-- a number's type and a name
typed_name : (of : NumberType) (name rest : List ℕ) (tokens : List Token) → ReadsAs (name ++ rest) tokens → ReadsAs (number_name of name ++ rest) ((number_word_piece of).tokens tokens)
typed_name of name rest tokens r = inside (number_word of) (32 ∷ name) rest ((number_word_piece of).reads 32 (name ++ rest) tokens refl (blank r))

-- an array's name and length before what it starts with
sized : (name : List ℕ) (n : ℕ) (is : is_name name ≡ true) (size : IsLength n) (image rest : List ℕ) (tokens : List Token) → ReadsAs (image ++ rest) tokens
    → ReadsAs (name ++ ((bounds n ++ image) ++ rest)) ((array_whole name n is size).tokens tokens)
sized name n is size image rest tokens r =
    in_words (ap (λ z. name ++ z) (append_assoc (bounds n) image rest)) (in_words (sym (append_assoc name (bounds n) (image ++ rest)))
    ((array_whole name n is size).reads (image ++ rest) tokens r))

-- the types of the arguments of a declared function
types_separated : {types : List ArgumentType} {p q : List Token} → Separated ReadsType (codes ")") types p q → printed_types types ≡ between_commas argument_word types
unfolding printed_types
types_separated (last_item x a) = refl
types_separated (one_item x a more) = refl

type_in : (of : ArgumentType) (p q : List Token) → true ≡ true → ReadsType of p q → Piece (argument_word of) (ReadsType of)
type_in of p q all reads = type_piece of

all_types : (types : List ArgumentType) → list_all (λ of. true) types ≡ true
all_types [] = refl
all_types (of ∷ types) = all_types types

pub types_piece : {types : List ArgumentType} {p q : List Token} → ReadsTypes types p q → Piece (printed_types types) (Before (codes ")") (ReadsTypes types))
unfolding printed_types
types_piece (no_type a b) = record {
  tokens = λ more. Word (codes "void") ∷ more;
  reads = λ first rest more clear r. word (codes "void") refl refl clear r;
  spells = λ more. λ later end. no_type refl end;
}
types_piece (some_types {types = types} all) =
    let list : Piece (between_commas argument_word types) _ = separated_piece argument_word (λ of. true) type_in (all_types types) all in
    record {
      tokens = list.tokens;
      reads = λ first rest more clear r. in_words (ap (λ z. z ++ first ∷ rest) (types_separated all)) (list.reads first rest more clear r);
      spells = λ more. λ later end. some_types (list.spells more later end);
    }

-- a field of a list block
pub field_piece : {scope : Scope} → NamedScope scope → (one : CField) (p q : List Token) → field_of_bytes one ≡ true → ReadsField scope one p q → Piece (printed_field one) (ReadsField scope one)
unfolding printed_field
field_piece names one p q of_bytes (a_value {value = value} reads) = let number : Piece (printed_value value) _ = value_piece reads in record {
  tokens = number.tokens;
  reads = number.reads;
  spells = λ more. a_value (number.spells more);
}
field_piece names one p q of_bytes (a_string bytes a) = record {
  tokens = λ more. Quoted bytes ∷ more;
  reads = λ first rest more clear r. quoted_reads bytes of_bytes r;
  spells = λ more. a_string bytes refl;
}
field_piece {scope = scope} names one p q of_bytes (a_start name among a) =
    let start : Piece name _ = name_piece name (named_among name (scope.arrays ++ scope.functions) (names_append scope.arrays scope.functions names.arrays names.functions) among) in
    record { tokens = start.tokens; reads = start.reads; spells = λ more. a_start name among (start.spells more) }

-- ## Declarations behind `static`

abbrev pub LocalPiece : Scope → CLocal → List ℕ → Type 0
LocalPiece scope one name = Piece (printed_local one) (Before (codes ";") (ReadsLocal scope one name))

static_piece : {scope : Scope} {one : CLocal} {name : List ℕ} {p q : List Token} → NamedScope scope → is_name name ≡ true → local_of_bytes one ≡ true → ReadsStatic scope one name p q → LocalPiece scope one name
unfolding printed_local printed_static printed_statics printed_static_chars printed_list letters first_value bounds_or_none first_string
static_piece names named of_bytes (a_static of name a b c) =
    let type : Piece (number_word of) _ = number_word_piece of in
    let w : IsWord name = name_word name named in
    record {
      tokens = λ more. Word (codes "static") ∷ type.tokens (Word name ∷ more);
      reads = λ first rest more clear r.
          word (codes "static") refl refl refl (blank (inside (number_name of name) [] (first ∷ rest)
          (typed_name of name (first ∷ rest) (Word name ∷ more) (word name w.letter w.bytes clear r))));
      spells = λ more. λ later end. static refl (a_static of name (type.spells (Word name ∷ more)) refl end);
    }
static_piece names named of_bytes (a_static_value of name {value = value} a b c reads d) =
    let type : Piece (number_word of) _ = number_word_piece of in
    let w : IsWord name = name_word name named in
    let number : Piece (printed_value value) _ = value_piece reads in
    record {
      tokens = λ more. Word (codes "static") ∷ type.tokens (Word name ∷ Sign (codes "=") ∷ number.tokens more);
      reads = λ first rest more clear r.
          word (codes "static") refl refl refl (blank (inside (number_name of name) (codes " = " ++ printed_value value) (first ∷ rest)
          (typed_name of name ((codes " = " ++ printed_value value) ++ first ∷ rest) (Word name ∷ Sign (codes "=") ∷ number.tokens more)
          (word name w.letter w.bytes refl (blank (equals (blank (number.reads first rest more clear r))))))));
      spells = λ more. λ later end.
          static refl (a_static_value of name (type.spells (Word name ∷ Sign (codes "=") ∷ number.tokens more)) refl refl (number.spells more) end);
    }
static_piece names named of_bytes (a_static_array of name n {image = image} a array numbers) =
    let type : Piece (number_word of) _ = number_word_piece of in
    let size : IsLength n = length_of array in
    let front : Whole (name ++ bounds n) _ = array_whole name n named size in
    let values : Piece (first_values image) _ = numbers_piece numbers in
    record {
      tokens = λ more. Word (codes "static") ∷ type.tokens (front.tokens (values.tokens more));
      reads = λ first rest more clear r.
          word (codes "static") refl refl refl (blank (inside (number_name of name) (bounds n ++ first_values image) (first ∷ rest)
          (typed_name of name ((bounds n ++ first_values image) ++ first ∷ rest) (front.tokens (values.tokens more))
          (sized name n named size (first_values image) (first ∷ rest) (values.tokens more) (values.reads first rest more clear r)))));
      spells = λ more. λ later end.
          static refl (a_static_array of name n (type.spells (front.tokens (values.tokens more))) (front.spells (values.tokens more)) (values.spells more later end));
    }
static_piece names named of_bytes (a_static_text name n {image = image} a array text) =
    let size : IsLength n = length_of array in
    let front : Whole (name ++ bounds n) _ = array_whole name n named size in
    let string : Piece (first_string image) _ = text_piece of_bytes text in
    record {
      tokens = λ more. Word (codes "static") ∷ Word (codes "char") ∷ front.tokens (string.tokens more);
      reads = λ first rest more clear r.
          word (codes "static") refl refl refl (blank (word (codes "char") refl refl refl (blank (inside name (bounds n ++ first_string image) (first ∷ rest)
          (sized name n named size (first_string image) (first ∷ rest) (string.tokens more) (string.reads first rest more clear r))))));
      spells = λ more. λ later end. static refl (a_static_text name n refl (front.spells (string.tokens more)) (string.spells more later end));
    }
static_piece names named of_bytes (a_text_of_its_length name bytes a b c d e f g) =
    let w : IsWord name = name_word name named in
    record {
      tokens = λ more. Word (codes "static") ∷ Word (codes "char") ∷ Word name ∷ Sign (codes "[") ∷ Sign (codes "]") ∷ Sign (codes "=") ∷ Quoted bytes ∷ more;
      reads = λ first rest more clear r.
          word (codes "static") refl refl refl (blank (word (codes "char") refl refl refl (blank (inside name (codes "[]" ++ (codes " = " ++ quoted bytes)) (first ∷ rest)
          (word name w.letter w.bytes refl (left_bracket (right_bracket (blank (equals (blank (quoted_reads bytes of_bytes r)))))))))));
      spells = λ more. λ later end. static refl (a_text_of_its_length name bytes refl refl refl refl refl refl end);
    }
static_piece {scope = scope} names named of_bytes (a_list of name {fields = fields} fits a b c d all e) =
    let type : Piece (block_word of) _ = list_word_piece of in
    let w : IsWord name = name_word name named in
    let list : Piece (between_commas printed_field fields) _ = separated_piece printed_field field_of_bytes (field_piece names) of_bytes all in
    record {
      tokens = λ more. Word (codes "static") ∷ type.tokens (Word name ∷ Sign (codes "=") ∷ Sign (codes "{") ∷ list.tokens (Sign (codes "}") ∷ more));
      reads = λ first rest more clear r.
          word (codes "static") refl refl refl (blank (inside (block_word of) (32 ∷ (name ++ (codes " = " ++ braced printed_field fields))) (first ∷ rest)
          (type.reads 32 ((name ++ (codes " = " ++ braced printed_field fields)) ++ first ∷ rest)
          (Word name ∷ Sign (codes "=") ∷ Sign (codes "{") ∷ list.tokens (Sign (codes "}") ∷ more)) refl
          (blank (inside name (codes " = " ++ braced printed_field fields) (first ∷ rest)
          (word name w.letter w.bytes refl (braces_read printed_field fields first rest list more r)))))));
      spells = λ more. λ later end.
          static refl (a_list of name fits (type.spells (Word name ∷ Sign (codes "=") ∷ Sign (codes "{") ∷ list.tokens (Sign (codes "}") ∷ more))) refl refl refl
          (list.spells (Sign (codes "}") ∷ more) more refl) end);
    }

-- ## All declarations

pub local_piece : {scope : Scope} {one : CLocal} {name : List ℕ} {p q : List Token} → NamedScope scope → is_name name ≡ true → local_of_bytes one ≡ true → ReadsLocal scope one name p q → LocalPiece scope one name
unfolding printed_local printed_extern letters
local_piece names named of_bytes (an_extern of name {types = types} a b c d reads e) =
    let result : Piece (result_word of) _ = result_word_piece of in
    let w : IsWord name = name_word name named in
    let list : Piece (printed_types types) _ = types_piece reads in
    record {
      tokens = λ more. Word (codes "extern") ∷ result.tokens (Word name ∷ Sign (codes "(") ∷ list.tokens (Sign (codes ")") ∷ more));
      reads = λ first rest more clear r.
          word (codes "extern") refl refl refl (blank (inside (result_word of) (32 ∷ (name ++ (40 ∷ (printed_types types ++ 41 ∷ [])))) (first ∷ rest)
          (result.reads 32 ((name ++ (40 ∷ (printed_types types ++ 41 ∷ []))) ++ first ∷ rest) (Word name ∷ Sign (codes "(") ∷ list.tokens (Sign (codes ")") ∷ more)) refl
          (blank (inside name (40 ∷ (printed_types types ++ 41 ∷ [])) (first ∷ rest) (word name w.letter w.bytes refl (opening
          (inside (printed_types types) (41 ∷ []) (first ∷ rest) (list.reads 41 (first ∷ rest) (Sign (codes ")") ∷ more) refl (closing r))))))))));
      spells = λ more. λ later end.
          an_extern of name refl (result.spells (Word name ∷ Sign (codes "(") ∷ list.tokens (Sign (codes ")") ∷ more))) refl refl (list.spells (Sign (codes ")") ∷ more) more refl) end;
    }
local_piece names named of_bytes (static a reads) = static_piece names named of_bytes reads
local_piece names named of_bytes (a_number of name a b c) =
    let type : Piece (number_word of) _ = number_word_piece of in
    let w : IsWord name = name_word name named in
    record {
      tokens = λ more. type.tokens (Word name ∷ more);
      reads = λ first rest more clear r. typed_name of name (first ∷ rest) (Word name ∷ more) (word name w.letter w.bytes clear r);
      spells = λ more. λ later end. a_number of name (type.spells (Word name ∷ more)) refl end;
    }
local_piece names named of_bytes (an_array_of_numbers of name n a array c) =
    let type : Piece (number_word of) _ = number_word_piece of in
    let front : Whole (name ++ bounds n) _ = array_whole name n named (length_of array) in
    record {
      tokens = λ more. type.tokens (front.tokens more);
      reads = λ first rest more clear r. typed_name of (name ++ bounds n) (first ∷ rest) (front.tokens more) (front.reads (first ∷ rest) more r);
      spells = λ more. λ later end. an_array_of_numbers of name n (type.spells (front.tokens more)) (front.spells more) end;
    }
local_piece names named of_bytes (an_array_of_chars name n a array c) =
    let front : Whole (name ++ bounds n) _ = array_whole name n named (length_of array) in
    record {
      tokens = λ more. Word (codes "char") ∷ front.tokens more;
      reads = λ first rest more clear r. word (codes "char") refl refl refl (blank (front.reads (first ∷ rest) more r));
      spells = λ more. λ later end. an_array_of_chars name n refl (front.spells more) end;
    }
local_piece names named of_bytes (an_array_of_addresses name n a array c) =
    let front : Whole (name ++ bounds n) _ = array_whole name n named (length_of array) in
    record {
      tokens = λ more. Word (codes "address") ∷ front.tokens more;
      reads = λ first rest more clear r. word (codes "address") refl refl refl (blank (front.reads (first ∷ rest) more r));
      spells = λ more. λ later end. an_array_of_addresses name n refl (front.spells more) end;
    }
