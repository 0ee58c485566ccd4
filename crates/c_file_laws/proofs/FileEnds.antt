-- A file that is found ends where the tokens end.
use Rattle.std.proofs.Common.{◌≡◌, sym, ap, ℕ, zero, suc, Bool, true, false, List, [], ◌∷◌, Option, Some, None, Ok, Err}
use Rattle.c_file_readers.specs.c_tree.declared.file.CFile.{CFile}
use Rattle.c_file_readers.specs.c_tree.Tokens.{Including}
use Rattle.c_file_readers.specs.c_tree.CExpressionText.{Scope}
use Rattle.c_file_readers.specs.c_tree.CDeclarationText.{with_object, with_array, with_function}
use Rattle.c_file_readers.specs.c_tree.CText.{no_names}
use Rattle.c_file_readers.specs.c_readers.Readers.{Tokens, Outcome, Reader, ◌>>=◌}
use Rattle.c_file_readers.specs.c_readers.DeclarationReader.{is_new}
use Rattle.c_file_readers.specs.ObjectReader.{an_object, a_constant}
use Rattle.c_file_readers.specs.FileReader as reader
use Rattle.c_file_readers.specs.FileReader.{a_function, Part, Objects, Constants, Functions, may_be_object, may_be_constant, with_one_object, with_one_constant, with_one_function, no_parts, by_part, parts, a_file}

-- the tokens behind what was found
rest_of : {A : Type 0} → Option (Outcome A) → Tokens
rest_of None = []
rest_of (Some (Ok p)) = p.1
rest_of (Some (Err rest)) = []

then-end : {A B : Type 0} (o : Option (Outcome A)) (next : A → Reader B) (y : B) (rest : Tokens) → ((x : A) (q : Tokens) → next x q ≡ Some (Ok (y, rest)) → rest ≡ [])
    → (o >>= next) ≡ Some (Ok (y, rest)) → rest ≡ []
then-end None next y rest ends h = absurd (let e : None ≡ Some (Ok (y, rest)) = h in cc)
then-end (Some (Err r)) next y rest ends h = absurd (let e : Some (Err r) ≡ Some (Ok (y, rest)) = h in cc)
then-end (Some (Ok p)) next y rest ends h = ends p.0 p.1 h

-- the parts behind what was read end there
abbrev Ends : ℕ → ℕ → CFile → Tokens → Type 0
Ends nests count made rest = (part : Part) (scope : Scope) (here : List (List ℕ)) (before : CFile) (p : Tokens) → parts nests count part scope here before p ≡ Some (Ok (made, rest)) → rest ≡ []

part-end : (nests count : ℕ) (scope : Scope) (here : List (List ℕ)) (before : CFile) (p : Tokens) (made : CFile) (rest : Tokens) (object constant : Bool) → Ends nests count made rest
    → by_part nests (parts nests count) scope here before p object constant ≡ Some (Ok (made, rest)) → rest ≡ []
unfolding by_part reader.an_object_and_more reader.a_constant_and_more reader.a_function_and_more
part-end nests count scope here before p made rest true constant ends h =
    then-end (an_object (is_new here) p) (λ one. parts nests count Objects (with_array one.1 scope) (one.1 ∷ here) (with_one_object one.0 before)) made rest
    (λ one q k. ends Objects (with_array one.1 scope) (one.1 ∷ here) (with_one_object one.0 before) q k) h
part-end nests count scope here before p made rest false true ends h =
    then-end (a_constant (is_new here) p) (λ one. parts nests count Constants (with_object one.name scope) (one.name ∷ here) (with_one_constant one before)) made rest
    (λ one q k. ends Constants (with_object one.name scope) (one.name ∷ here) (with_one_constant one before) q k) h
part-end nests count scope here before p made rest false false ends h =
    then-end (a_function nests scope (is_new here) p) (λ one. parts nests count Functions (with_function one.name scope) (one.name ∷ here) (with_one_function one before)) made rest
    (λ one q k. ends Functions (with_function one.name scope) (one.name ∷ here) (with_one_function one before) q k) h

pub parts-end : (nests count : ℕ) (part : Part) (scope : Scope) (here : List (List ℕ)) (before : CFile) (p : Tokens) (made : CFile) (rest : Tokens)
    → parts nests count part scope here before p ≡ Some (Ok (made, rest)) → rest ≡ []
unfolding parts rest_of
parts-end nests zero part scope here before p made rest h = absurd (let e : None ≡ Some (Ok (made, rest)) = h in cc)
parts-end nests (suc count) part scope here before [] made rest h = sym (ap rest_of h)
parts-end nests (suc count) part scope here before (token ∷ more) made rest h =
    part-end nests count scope here before (token ∷ more) made rest (may_be_object part (token ∷ more)) (may_be_constant part (token ∷ more))
    (λ other s names found q k. parts-end nests count other s names found q made rest k) h

pub file-end : (nests : ℕ) (p : Tokens) (made : CFile) (rest : Tokens) → a_file nests p ≡ Some (Ok (made, rest)) → rest ≡ []
unfolding a_file
file-end nests [] made rest h = absurd (let e : Some (Err []) ≡ Some (Ok (made, rest)) = h in cc)
file-end nests (Including ∷ more) made rest h = parts-end nests nests Objects no_names [] no_parts more made rest h
file-end nests (token ∷ more) made rest h = absurd (let e : Some (Err (token ∷ more)) ≡ Some (Ok (made, rest)) = h in cc)
