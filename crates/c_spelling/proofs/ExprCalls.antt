-- The text of each call that some tokens spell reads as the call (C89, 3.3.2.2).
use Rattle.std.specs.Prelude.{◌≡◌, ℕ, true, false, List, [], ◌∷◌, ◌++◌, codes}
use Rattle.std.specs.List.{list_all}
use Rattle.std.proofs.Common.{refl}
use Rattle.c_laws.specs.c_tree.declared.expression.CExpr.{CExpr}
use Rattle.c_laws.specs.c_tree.declared.expression.CCall.{CCall}
use Rattle.c_laws.specs.c_tree.Tokens.{Token, Word, Sign}
use Rattle.c_laws.specs.c_tree.CWords.{is_among, Separated}
use Rattle.c_laws.specs.c_tree.CExpressionText.{Scope, ReadsExpr, ReadsArguments, no_argument, some_arguments, ReadsCall, by_name, through_a_parameter}
use Rattle.c_text.specs.Expressions.{bare, arguments, printed_call}
use Rattle.c_spelling.specs.Spelled.{expression_of_bytes, call_of_bytes}
use Rattle.c_spelling.proofs.Tokens.{inside, Piece, Whole, IsWord, name_word, word, opening, closing, star}
use Rattle.c_spelling.proofs.TokensScope.{NamedScope, named_among}
use Rattle.c_spelling.proofs.TokensLists.{Before, separated_piece}
use Rattle.c_spelling.proofs.ExprPieces.{whole_piece}
use Rattle.c_spelling.proofs.Expr.{expression_printing}

arguments_before : (scope : Scope) (list : List CExpr) → Piece (arguments list) (Before (codes ")") (ReadsArguments scope list)) → Whole (arguments list ++ 41 ∷ []) (ReadsArguments scope list)
arguments_before scope list p = record {
  tokens = λ more. p.tokens (Sign (codes ")") ∷ more);
  reads = λ rest more r. inside (arguments list) (41 ∷ []) rest (p.reads 41 rest (Sign (codes ")") ∷ more) refl (closing r));
  spells = λ more. p.spells (Sign (codes ")") ∷ more) more refl;
}

arguments_whole : {scope : Scope} {list : List CExpr} {p q : List Token} → ReadsArguments scope list p q → NamedScope scope → list_all expression_of_bytes list ≡ true →
    Whole (arguments list ++ 41 ∷ []) (ReadsArguments scope list)
arguments_whole {scope = scope} (no_argument end) s fit =
    arguments_before scope [] (record { tokens = λ more. more; reads = λ first rest more clear r. r; spells = λ more later is. no_argument is })
arguments_whole {scope = scope} (some_arguments {arguments = list} all) s fit =
    let p : Piece (arguments list) (Before (codes ")") (Separated (ReadsExpr scope 0) (codes ")") list)) =
    separated_piece bare expression_of_bytes (λ one p q good x. whole_piece (expression_printing x s good)) fit all in
    arguments_before scope list (record { tokens = p.tokens; reads = p.reads; spells = λ more later is. some_arguments (p.spells more later is) })

direct_call : (scope : Scope) (name : List ℕ) (list : List CExpr) → is_among name scope.functions ≡ true → IsWord name → Whole (arguments list ++ 41 ∷ []) (ReadsArguments scope list) →
    Whole (printed_call (record { through = false; name = name; arguments = list })) (ReadsCall scope (record { through = false; name = name; arguments = list }))
direct_call scope name list is w all = record {
  tokens = λ more. Word name ∷ Sign (codes "(") ∷ all.tokens more;
  reads = λ rest more r. inside name (40 ∷ (arguments list ++ 41 ∷ [])) rest (word name w.letter w.bytes refl (opening (all.reads rest more r)));
  spells = λ more. by_name name is refl refl (all.spells more);
}

call_through : (scope : Scope) (name : List ℕ) (list : List CExpr) → is_among name scope.pointers ≡ true → IsWord name → Whole (arguments list ++ 41 ∷ []) (ReadsArguments scope list) →
    Whole (printed_call (record { through = true; name = name; arguments = list })) (ReadsCall scope (record { through = true; name = name; arguments = list }))
call_through scope name list is w all = record {
  tokens = λ more. Sign (codes "(") ∷ Sign (codes "*") ∷ Word name ∷ Sign (codes ")") ∷ Sign (codes "(") ∷ all.tokens more;
  reads = λ rest more r.
      inside (codes "(*" ++ (name ++ 41 ∷ [])) (40 ∷ (arguments list ++ 41 ∷ [])) rest
      (opening (star (inside name (41 ∷ []) (40 ∷ ((arguments list ++ 41 ∷ []) ++ rest)) (word name w.letter w.bytes refl (closing (opening (all.reads rest more r)))))));
  spells = λ more. through_a_parameter name is refl refl refl refl refl (all.spells more);
}

pub call_whole : {scope : Scope} {call : CCall} {p q : List Token} → ReadsCall scope call p q → NamedScope scope → call_of_bytes call ≡ true → Whole (printed_call call) (ReadsCall scope call)
call_whole {scope = scope} (by_name name {arguments = list} is x y z) s fit =
    direct_call scope name list is (name_word name (named_among name scope.functions s.functions is)) (arguments_whole z s fit)
call_whole {scope = scope} (through_a_parameter name {arguments = list} is x y z w v u) s fit =
    call_through scope name list is (name_word name (named_among name scope.pointers s.pointers is)) (arguments_whole u s fit)
