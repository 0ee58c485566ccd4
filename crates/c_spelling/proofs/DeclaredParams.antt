-- The parameters of a printed function read as the tokens that spell them.
use Rattle.std.specs.Prelude.{◌≡◌, ℕ, true, false, List, [], ◌∷◌, ◌++◌, codes}
use Rattle.std.proofs.Common.{refl}
use Rattle.c_laws.specs.c_tree.declared.types.ParameterType.{ParameterType}
use Rattle.c_laws.specs.c_tree.declared.declaration.CParam.{CParam}
use Rattle.c_laws.specs.c_tree.Tokens.{Token, Word, Sign, is_word_byte}
use Rattle.c_laws.specs.c_tree.CWords.{is_name, parameter_tokens}
use Rattle.c_laws.specs.c_tree.CExpressionText.{Scope}
use Rattle.c_laws.specs.c_tree.CDeclarationText.{ReadsParams, no_parameter, last_parameter, one_parameter}
use Rattle.c_text.specs.Types.{parameter_front}
use Rattle.c_text.specs.Lists.{after_commas}
use Rattle.c_text.specs.Declarations.{printed_param, printed_params}
use Rattle.c_spelling.proofs.Tokens.{ReadsAs, inside, Piece, word, blank, IsWord, name_word, comma}
use Rattle.c_spelling.proofs.DeclaredLists.{front_reads}

-- a parameter
param_reads : (of : ParameterType) (name : List ℕ) (first : ℕ) (rest : List ℕ) (tokens : List Token) → is_name name ≡ true → is_word_byte first ≡ false → ReadsAs (first ∷ rest) tokens
    → ReadsAs (printed_param (record { of = of; name = name }) ++ first ∷ rest) (parameter_tokens of ++ (Word name ∷ tokens))
param_reads of name first rest tokens is clear r =
    let w : IsWord name = name_word name is in
    inside (parameter_front of) name (first ∷ rest) (front_reads of (word name w.letter w.bytes clear r))

-- the parameters before the closing parenthesis
pub params_piece : {scope last : Scope} {here names : List (List ℕ)} {params : List CParam} {p q : List Token} → ReadsParams scope here params last names p q
    → Piece (printed_params params) (ReadsParams scope here params last names)
unfolding printed_params
params_piece (no_parameter scope here a) = record {
  tokens = λ more. Word (codes "void") ∷ more;
  reads = λ first rest more clear r. word (codes "void") refl refl clear r;
  spells = λ more. no_parameter scope here refl;
}
params_piece (last_parameter scope here of name a b new) = record {
  tokens = λ more. parameter_tokens of ++ (Word name ∷ more);
  reads = λ first rest more clear r. inside (printed_param (record { of = of; name = name })) [] (first ∷ rest) (param_reads of name first rest more new.named clear r);
  spells = λ more. last_parameter scope here of name refl refl new;
}
params_piece (one_parameter scope last here names of name {next = next} {later = later} a b new c more) =
    let others : Piece (printed_params (next ∷ later)) _ = params_piece more in
    record {
      tokens = λ behind. parameter_tokens of ++ (Word name ∷ Sign (codes ",") ∷ others.tokens behind);
      reads = λ first rest behind clear r.
          inside (printed_param (record { of = of; name = name })) (after_commas printed_param (next ∷ later)) (first ∷ rest)
          (param_reads of name 44 (32 ∷ (printed_params (next ∷ later) ++ first ∷ rest)) (Sign (codes ",") ∷ others.tokens behind) new.named refl
          (comma (blank (others.reads first rest behind clear r))));
      spells = λ behind. one_parameter scope last here names of name refl refl new refl (others.spells behind);
    }
