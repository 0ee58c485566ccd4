-- What stands behind words that Rattle takes for itself.
use Rattle.std.proofs.Common.{◌≡◌, refl, ℕ, Bool, List, codes}
use Rattle.c_tree.specs.declared.declaration.CLocal.TheVariants as local
use Rattle.c_tree.specs.CExpressionText.{Scope}
use Rattle.c_readers.specs.Readers.{Tokens, found, ◌>>=◌, a_sign, a_name}
use Rattle.c_readers.specs.ValueReader.{a_word_of}
use Rattle.c_readers.specs.TypeReader.{result_words, argument_types}
use Rattle.c_readers.specs.DeclarationReader as reader

pub static_is : (scope : Scope) (new : List ℕ → Bool) (tokens : Tokens)
    → reader.static scope new tokens ≡ (a_word_of reader.static_words tokens >>= (λ lead. λ more. reader.static_by scope new more lead))
unfolding reader.static
static_is scope new tokens = refl

pub extern_is : (new : List ℕ → Bool) (count : ℕ) (tokens : Tokens)
    → reader.extern new count tokens
    ≡ (a_word_of result_words tokens
    >>= (λ of. λ p. a_name new p
    >>= (λ name. λ q. a_sign (codes "(") q
    >>= (λ u. λ r. argument_types count r >>= (λ types. λ s. a_sign (codes ";") s >>= (λ v. found (local.Extern of name types, name)))))))
unfolding reader.extern
extern_is new count tokens = refl
