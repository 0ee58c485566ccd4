-- The functions of a printed file read as the tokens that spell them.
use Rattle.std.specs.Prelude.{◌≡◌, ℕ, Bool, true, false, if◌then◌else◌, List, [], ◌∷◌, ◌++◌, codes, bytes_eq, None}
use Rattle.std.specs.List.{list_all}
use Rattle.std.proofs.Common.{refl, ap, append_assoc}
use Rattle.c_laws.specs.c_tree.declared.types.ResultType.{ResultType}
use Rattle.c_laws.specs.c_tree.declared.types.ResultType.TheVariants as gives
use Rattle.c_laws.specs.c_tree.declared.file.CFunction.{CFunction}
use Rattle.c_laws.specs.c_tree.Tokens.{Token, Word, Sign}
use Rattle.c_laws.specs.c_tree.CWords.{is_name}
use Rattle.c_laws.specs.c_tree.CExpressionText.{Scope}
use Rattle.c_laws.specs.c_tree.CText.{ReadsFunction, a_function, ReadsFunctions, no_function, one_function}
use Rattle.c_text.specs.Types.{result_word}
use Rattle.c_text.specs.Declarations.{printed_params, locals_after}
use Rattle.c_text.specs.Printed.{printed_stmts, kind_of_result, function_kind, function_front, function_head, function_end, printed_function, printed_functions}
use Rattle.c_laws.proofs.TokenSpellings.{and-first, and-second}
use Rattle.c_spelling.specs.Spelled.{local_of_bytes, statements_of_bytes, function_of_bytes}
use Rattle.c_spelling.proofs.Tokens.{ReadsAs, at_the_end, in_words, inside, Piece, Whole, word, IsWord, name_word, word_comment, comment, blank, line_feed, opening, closing, left_brace, right_brace}
use Rattle.c_spelling.proofs.TokensScope.{NamedScope, function_names, locals_names, params_names}
use Rattle.c_spelling.proofs.DeclaredLists.{result_word_piece}
use Rattle.c_spelling.proofs.DeclaredParams.{params_piece}
use Rattle.c_spelling.proofs.DeclaredLocals.{locals_whole}
use Rattle.c_spelling.proofs.StmtTrees.{labels_named}
use Rattle.c_spelling.proofs.Stmt.{statements_lines}

-- a text with its tokens up to the end, which a production spells
pub record Ended (text : List ℕ) (Spells : List Token → Type 0) : Type 0 where
  pub tokens : List Token
  pub reads : ReadsAs text tokens
  pub spells : Spells tokens

-- what a function is of is a comment
kind_reads_by : (main : Bool) (of : ResultType) (rest : List ℕ) {tokens : List Token} → ReadsAs rest tokens → ReadsAs ((if main then codes "/* Main program */ " else kind_of_result of) ++ rest) tokens
unfolding kind_of_result
kind_reads_by true of rest r = comment (codes "/* Main program */") refl refl (blank r)
kind_reads_by false gives.Int rest r = comment (codes "/* Subroutine */") refl refl (blank r)
kind_reads_by false gives.Integer rest r = r
kind_reads_by false gives.Logical rest r = r
kind_reads_by false gives.Void rest r = comment (codes "/* Character */") refl refl (blank r)

kind_reads : (name : List ℕ) (of : ResultType) (rest : List ℕ) {tokens : List Token} → ReadsAs rest tokens → ReadsAs (function_kind name of ++ rest) tokens
unfolding function_kind
kind_reads name of rest r = kind_reads_by (bytes_eq name (codes "MAIN__")) of rest r

-- the last line of a function
end_reads : (function : CFunction) (rest : List ℕ) {tokens : List Token} → is_name function.name ≡ true → ReadsAs rest tokens → ReadsAs (function_end function ++ rest) (Sign (codes "}") ∷ tokens)
unfolding function_end
end_reads function rest named r =
    right_brace (blank (in_words (ap (λ z. codes "/* " ++ z) (append_assoc function.name (codes " */\n") rest))
    (word_comment function.name (name_word function.name named).bytes (line_feed r))))

-- the first line of a function up to the parenthesis behind its parameters, with the tokens of what follows
head_reads : (function : CFunction) {Spells : List Token → List Token → Type 0} (params : Piece (printed_params function.params) Spells) (rest : List ℕ) (tokens : List Token) → is_name function.name ≡ true → ReadsAs rest tokens
    → ReadsAs (function_head function ++ rest) ((result_word_piece function.result).tokens (Word function.name ∷ Sign (codes "(") ∷ params.tokens (Sign (codes ")") ∷ tokens)))
unfolding function_head function_front
head_reads function params rest tokens named r =
    let w : IsWord function.name = name_word function.name named in
    let behind : List ℕ = (function.name ++ (40 ∷ (printed_params function.params ++ 41 ∷ []))) ++ rest in
    inside (function_kind function.name function.result ++ (result_word function.result ++ 32 ∷ [])) (function.name ++ (40 ∷ (printed_params function.params ++ 41 ∷ []))) rest
    (inside (function_kind function.name function.result) (result_word function.result ++ 32 ∷ []) behind
    (kind_reads function.name function.result ((result_word function.result ++ 32 ∷ []) ++ behind)
    (inside (result_word function.result) (32 ∷ []) behind
    ((result_word_piece function.result).reads 32 behind (Word function.name ∷ Sign (codes "(") ∷ params.tokens (Sign (codes ")") ∷ tokens)) refl (blank
    (inside function.name (40 ∷ (printed_params function.params ++ 41 ∷ [])) rest (word function.name w.letter w.bytes refl (opening
    (head_ends params rest tokens r)))))))))
  where
    head_ends : {Spells : List Token → List Token → Type 0} {text : List ℕ} (params : Piece text Spells) (rest : List ℕ) (tokens : List Token) → ReadsAs rest tokens
        → ReadsAs ((text ++ 41 ∷ []) ++ rest) (params.tokens (Sign (codes ")") ∷ tokens))
    head_ends {text = text} params rest tokens r = inside text (41 ∷ []) rest (params.reads 41 rest (Sign (codes ")") ∷ tokens) refl (closing r))

-- a function
pub function_whole : {scope : Scope} {one : CFunction} {p q : List Token} → ReadsFunction scope one p q → NamedScope scope → is_name one.name ≡ true → function_of_bytes one ≡ true
    → Whole (printed_function one) (ReadsFunction scope one)
unfolding printed_function
function_whole {scope = scope} {one = one} (a_function of name {params = params} {locals = locals} {body = body} {outer = outer} {inner = inner} {here = here} meet a b c head d e declared all) names named of_bytes =
    let outside : NamedScope outer = params_names head (function_names name scope named names) in
    let parameters : Piece (printed_params params) _ = params_piece head in
    let declarations : Whole (locals_after None locals) _ = locals_whole declared outside (and-first (list_all local_of_bytes locals) (statements_of_bytes body) of_bytes) None in
    let lines : Whole (printed_stmts body 1) _ =
    statements_lines all (locals_names declared outside) (and-second (list_all local_of_bytes locals) (statements_of_bytes body) of_bytes) (labels_named all meet) 1 in
    let block : List Token → List Token = λ more. declarations.tokens (lines.tokens (Sign (codes "}") ∷ more)) in
    record {
      tokens = λ more. (result_word_piece of).tokens (Word name ∷ Sign (codes "(") ∷ parameters.tokens (Sign (codes ")") ∷ Sign (codes "{") ∷ block more));
      reads = λ rest more r.
          line_feed (inside (function_head one) (codes "\n{\n" ++ (locals_after None locals ++ (printed_stmts body 1 ++ function_end one))) rest
          (head_reads one parameters ((codes "\n{\n" ++ (locals_after None locals ++ (printed_stmts body 1 ++ function_end one))) ++ rest) (Sign (codes "{") ∷ block more) named
          (line_feed (left_brace (line_feed (inside (locals_after None locals) (printed_stmts body 1 ++ function_end one) rest
          (declarations.reads ((printed_stmts body 1 ++ function_end one) ++ rest) (lines.tokens (Sign (codes "}") ∷ more))
          (inside (printed_stmts body 1) (function_end one) rest
          (lines.reads (function_end one ++ rest) (Sign (codes "}") ∷ more) (end_reads one rest named r))))))))));
      spells = λ more.
          a_function of name meet ((result_word_piece of).spells (Word name ∷ Sign (codes "(") ∷ parameters.tokens (Sign (codes ")") ∷ Sign (codes "{") ∷ block more))) refl refl
          (parameters.spells (Sign (codes ")") ∷ Sign (codes "{") ∷ block more)) refl refl (declarations.spells (lines.tokens (Sign (codes "}") ∷ more)))
          (lines.spells (Sign (codes "}") ∷ more) more refl);
    }

-- the functions of a file
pub functions_ended : {scope : Scope} {here : List (List ℕ)} {functions : List CFunction} {p : List Token} → ReadsFunctions scope here functions p → NamedScope scope
    → list_all function_of_bytes functions ≡ true → Ended (printed_functions functions) (ReadsFunctions scope here functions)
functions_ended (no_function scope here) names of_bytes = record { tokens = []; reads = at_the_end; spells = no_function scope here }
functions_ended (one_function scope here {first = first} {later = later} reads new more) names of_bytes =
    let front : Whole (printed_function first) _ =
    function_whole reads names new.named (and-first (function_of_bytes first) (list_all function_of_bytes later) of_bytes) in
    let others : Ended (printed_functions later) _ =
    functions_ended more (function_names first.name scope new.named names) (and-second (function_of_bytes first) (list_all function_of_bytes later) of_bytes) in
    record {
      tokens = front.tokens others.tokens;
      reads = front.reads (printed_functions later) others.tokens others.reads;
      spells = one_function scope here (front.spells others.tokens) new others.spells;
    }
