-- The external objects and the constants of a printed file read as the tokens that spell them.
use Rattle.std.specs.Prelude.{◌≡◌, ℕ, true, List, ◌∷◌, ◌++◌, codes}
use Rattle.std.proofs.Common.{refl}
use Rattle.c_laws.specs.c_tree.declared.file.CObject.{CObject}
use Rattle.c_laws.specs.c_tree.declared.file.CConstant.{CConstant}
use Rattle.c_laws.specs.c_tree.Tokens.{Token, Word, Sign}
use Rattle.c_laws.specs.c_tree.CWords.{is_name}
use Rattle.c_laws.specs.c_tree.CDeclarationText.{ReadsObject, integers, chars}
use Rattle.c_laws.specs.c_tree.CText.{ReadsConstant, a_constant}
use Rattle.c_text.specs.Phrases.{letters}
use Rattle.c_text.specs.Types.{printed_value}
use Rattle.c_text.specs.Declarations.{bounds, first_values, first_string, printed_array, object_line, constant_line}
use Rattle.c_spelling.specs.Spelled.{object_of_bytes}
use Rattle.c_spelling.proofs.Tokens.{ReadsAs, inside, Piece, Whole, word, blank, line_feed, IsWord, name_word, equals, semicolon}
use Rattle.c_spelling.proofs.DeclaredLists.{value_piece}
use Rattle.c_spelling.proofs.DeclaredImages.{array_whole, length_of, numbers_piece, text_piece}

-- the end of a declaration, before anything
line_ends : {rest : List ℕ} {tokens : List Token} → ReadsAs rest tokens → ReadsAs (59 ∷ 10 ∷ rest) (Sign (codes ";") ∷ tokens)
line_ends r = semicolon (line_feed r)

-- an external object
pub object_whole : {one : CObject} {name : List ℕ} {p q : List Token} → ReadsObject one name p q → is_name name ≡ true → object_of_bytes one ≡ true → Whole (object_line one) (ReadsObject one name)
unfolding object_line
object_whole (integers name n {image = image} a array numbers) named of_bytes =
    let front : Whole (name ++ bounds n) _ = array_whole name n named (length_of array) in
    let values : Piece (first_values image) _ = numbers_piece numbers in
    record {
      tokens = λ more. Word (codes "integer") ∷ front.tokens (values.tokens (Sign (codes ";") ∷ more));
      reads = λ rest more r.
          inside (printed_array (codes "integer") name n) (first_values image ++ codes ";\n") rest
          (word (codes "integer") refl refl refl (blank
          (front.reads ((first_values image ++ codes ";\n") ++ rest) (values.tokens (Sign (codes ";") ∷ more))
          (inside (first_values image) (codes ";\n") rest (values.reads 59 (10 ∷ rest) (Sign (codes ";") ∷ more) refl (line_ends r))))));
      spells = λ more. integers name n refl (front.spells (values.tokens (Sign (codes ";") ∷ more))) (values.spells (Sign (codes ";") ∷ more) more refl);
    }
object_whole (chars name n {image = image} a array text) named of_bytes =
    let front : Whole (name ++ bounds n) _ = array_whole name n named (length_of array) in
    let string : Piece (first_string image) _ = text_piece of_bytes text in
    record {
      tokens = λ more. Word (codes "char") ∷ front.tokens (string.tokens (Sign (codes ";") ∷ more));
      reads = λ rest more r.
          inside (printed_array (codes "char") name n) (first_string image ++ codes ";\n") rest
          (word (codes "char") refl refl refl (blank
          (front.reads ((first_string image ++ codes ";\n") ++ rest) (string.tokens (Sign (codes ";") ∷ more))
          (inside (first_string image) (codes ";\n") rest (string.reads 59 (10 ∷ rest) (Sign (codes ";") ∷ more) refl (line_ends r))))));
      spells = λ more. chars name n refl (front.spells (string.tokens (Sign (codes ";") ∷ more))) (string.spells (Sign (codes ";") ∷ more) more refl);
    }

-- a constant
pub constant_whole : {one : CConstant} {p q : List Token} → ReadsConstant one p q → is_name one.name ≡ true → Whole (constant_line one) (ReadsConstant one)
unfolding constant_line letters
constant_whole (a_constant name {value = value} a b c d reads f) named =
    let w : IsWord name = name_word name named in
    let number : Piece (printed_value value) _ = value_piece reads in
    record {
      tokens = λ more. Word (codes "static") ∷ Word (codes "integer") ∷ Word name ∷ Sign (codes "=") ∷ number.tokens (Sign (codes ";") ∷ more);
      reads = λ rest more r.
          word (codes "static") refl refl refl (blank (word (codes "integer") refl refl refl (blank
          (inside name (codes " = " ++ (printed_value value ++ codes ";\n")) rest (word name w.letter w.bytes refl
          (blank (equals (blank (inside (printed_value value) (codes ";\n") rest
          (number.reads 59 (10 ∷ rest) (Sign (codes ";") ∷ more) refl (line_ends r)))))))))));
      spells = λ more. a_constant name refl refl refl refl (number.spells (Sign (codes ";") ∷ more)) refl;
    }
