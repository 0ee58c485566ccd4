-- The reader of the parts of a file at numbers that code counts down.
use Rattle.std.proofs.Common.{◌≡◌, refl, ap, ◌∙◌, ℕ, zero, suc, ◌-◌, ◌<◌, ◌≤◌, length, Bool, true, false, codes, List, [], ◌∷◌, Option, Some, None, Ok, Err, arith}
use Rattle.c_lexer.specs.declared.token.PlacedCToken.{PlacedCToken}
use Rattle.c_tree.specs.declared.file.CConstant.{CConstant}
use Rattle.c_tree.specs.declared.file.CFunction.{CFunction}
use Rattle.c_tree.specs.declared.file.CFile.{CFile}
use Rattle.c_tree.specs.Tokens.{Word, Digits, Quoted, Sign, Including, Bad}
use Rattle.c_tree.specs.CExpressionText.{Scope}
use Rattle.c_tree.specs.CDeclarationText.{with_object, with_array, with_function}
use Rattle.c_file_readers.specs.c_readers.Readers.{Tokens, Outcome, Reader, found, ◌>>=◌}
use Rattle.c_file_readers.specs.c_readers.DeclarationReader.{is_new}
use Rattle.c_file_readers.specs.c_statement_readers.PartReader.{starts_with}
use Rattle.c_file_readers.specs.ObjectReader.{Named, an_object, a_constant}
use Rattle.c_file_readers.specs.FileReader as reader
use Rattle.c_file_readers.specs.FileReader.{Further, names_array, a_function, an_object_and_more, a_constant_and_more, a_function_and_more, by_part, parts, may_be_object, may_be_constant, with_one_object, with_one_constant, with_one_function}
use Rattle.c_expression_reader.specs.Readings.{shown}
use Rattle.c_file_reader.specs.PartsSeen.{Place, object_declared, object_in, constant_declared, constant_in, behind_object, behind_constant, behind_function, object_part, constant_part, function_part, part_by, one_part, is_end}

-- what is read behind a place
abbrev pub on_from : Further → Place → Reader CFile
on_from again place = again place.0 place.1 place.2 place.3

object-step : (again : Further) (scope : Scope) (here : List (List ℕ)) (file : CFile) (given : Option (Outcome Named))
    → (given >>= (λ one. again reader.Objects (with_array one.1 scope) (one.1 ∷ here) (with_one_object one.0 file)))
    ≡ (((given >>= (λ one. found (object_declared scope here one))) >>= (λ one. found (behind_object file one))) >>= on_from again)
object-step again scope here file None = refl
object-step again scope here file (Some (Err rest)) = refl
object-step again scope here file (Some (Ok p)) = refl

constant-step : (again : Further) (scope : Scope) (here : List (List ℕ)) (file : CFile) (given : Option (Outcome CConstant))
    → (given >>= (λ one. again reader.Constants (with_object one.name scope) (one.name ∷ here) (with_one_constant one file)))
    ≡ (((given >>= (λ one. found (constant_declared scope here one))) >>= (λ one. found (behind_constant file one))) >>= on_from again)
constant-step again scope here file None = refl
constant-step again scope here file (Some (Err rest)) = refl
constant-step again scope here file (Some (Ok p)) = refl

function-step : (again : Further) (scope : Scope) (here : List (List ℕ)) (file : CFile) (given : Option (Outcome CFunction))
    → (given >>= (λ one. again reader.Functions (with_function one.name scope) (one.name ∷ here) (with_one_function one file)))
    ≡ ((given >>= (λ one. found (behind_function scope here file one))) >>= on_from again)
function-step again scope here file None = refl
function-step again scope here file (Some (Err rest)) = refl
function-step again scope here file (Some (Ok p)) = refl

by-part : (nests : ℕ) (again : Further) (scope : Scope) (here : List (List ℕ)) (file : CFile) (tokens : Tokens) (object constant : Bool)
    → by_part nests again scope here file tokens object constant ≡ (part_by nests scope here file tokens object constant >>= on_from again)
unfolding by_part an_object_and_more a_constant_and_more a_function_and_more part_by object_part constant_part function_part object_in constant_in
by-part nests again scope here file tokens true constant = object-step again scope here file (an_object (is_new here) tokens)
by-part nests again scope here file tokens false true = constant-step again scope here file (a_constant (is_new here) tokens)
by-part nests again scope here file tokens false false = function-step again scope here file (a_function nests scope (is_new here) tokens)

-- the end, or a part and those behind it
abbrev pub ended_or : ℕ → ℕ → reader.Part → Scope → List (List ℕ) → CFile → Tokens → Bool → Option (Outcome CFile)
ended_or nests count at scope here file tokens true = found file []
ended_or nests count at scope here file tokens false = one_part nests at scope here file tokens >>= on_from (parts nests count)

pub parts-step : (nests count : ℕ) (at : reader.Part) (scope : Scope) (here : List (List ℕ)) (file : CFile) (tokens : Tokens) → 0 < count
    → parts nests count at scope here file tokens ≡ ended_or nests (count - 1) at scope here file tokens (is_end tokens)
unfolding parts one_part
parts-step nests zero at scope here file tokens h = absurd (omega arith)
parts-step nests (suc count) at scope here file [] h = refl
parts-step nests (suc count) at scope here file (token ∷ more) h =
    let e : suc count - 1 ≡ count = omega arith in
    rw e (by-part nests (parts nests count) scope here file (token ∷ more) (may_be_object at (token ∷ more)) (may_be_constant at (token ∷ more)))

-- tokens are left
pub some_left : (tokens : List PlacedCToken) → 1 ≤ length tokens → false ≡ is_end (shown tokens)
unfolding shown
some_left [] h = absurd (omega arith)
some_left (first ∷ more) h = refl

-- a word with an opening bracket behind it
pub array_named : (name : List ℕ) (more : Tokens) → names_array (Word name ∷ more) ≡ starts_with (codes "[") more
array_named name [] = refl
array_named name (Sign text ∷ more) = refl
array_named name (Word text ∷ more) = refl
array_named name (Digits n ∷ more) = refl
array_named name (Quoted bytes ∷ more) = refl
array_named name (Including ∷ more) = refl
array_named name (Bad ∷ more) = refl

pub ruleset part_steps = (parts-step)
