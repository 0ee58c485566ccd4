-- The names that declarations give, one declaration behind the other (C89, 3.1.2.1).
use Rattle.std.proofs.Common.{◌≡◌, refl, ap, sym, ◌∙◌, ℕ, suc, ◌+◌, List, [], ◌∷◌, ◌++◌, length, bytes_eq, add-zero, arith, if◌then◌else◌}
use Rattle.c_tree.specs.declared.declaration.CLocal.{CLocal}
use Rattle.c_tree.specs.Terms.{Unknown}
use Rattle.c_tree.specs.Drafts.{Scope}
use Rattle.c_tree.specs.Declarations.{Declared, declared_statics, declared_automatics, declared_externs}
use Rattle.c_tree.specs.Linking.{Routines, routine, known_objects, known_functions}
use Rattle.first_names.specs.FirstNames.{first_of}
use Rattle.first_names.specs.declared.FirstNames.{FirstNames}
use Rattle.expression_linker.specs.NamesInScope.{term_or, scope_of}
use Rattle.expression_linker.specs.declared.scope.NameScope.{NameScope}
use Rattle.expression_linker.specs.declared.things.NamedThing.{NamedThing}
use Rattle.declared_names.specs.Hiding.{Hides}
use Rattle.function_linker.specs.LinkedFunctions.{file_names}
use Rattle.function_linker.specs.NamesBehind.{around, scope_behind, GivesNames}
use Rattle.function_linker.specs.NumbersBehind.{numbers_behind}
use Rattle.function_linker.specs.declared.numbers.NextNumbers.{NextNumbers}
use Rattle.function_linker.proofs.DeclarationLaws.{statics-append, automatics-append, externs-append}
use Rattle.function_linker.proofs.NumberLaws.{lasting-behind, frame-behind}

-- scopes that agree at each name are equal
pub same-scope : (f g : Scope) → ((q : List ℕ) → f q ≡ g q) → f ≡ g
same-scope f g same = λ k q. same q k

next_place : (n m : ℕ) → n + 1 + m ≡ n + suc m
next_place n m = omega arith

pub objects-append : (n : ℕ) (xs ys : List Declared) (outer : Scope) (q : List ℕ) → known_objects n (xs ++ ys) outer q ≡ known_objects n xs (known_objects (n + length xs) ys outer) q
objects-append n [] ys outer q = ap (λ m. known_objects m ys outer q) (sym (add-zero n))
objects-append n (x ∷ xs) ys outer q =
    ap (λ term. if bytes_eq q x.name then x.stands n else term)
    (objects-append (n + 1) xs ys outer q ∙ ap (λ m. known_objects (n + 1) xs (known_objects m ys outer) q) (next_place n (length xs)))

pub functions-append : (numbers : Routines) (xs ys : List (List ℕ)) (outer : Scope) (q : List ℕ) → known_functions numbers (xs ++ ys) outer q ≡ known_functions numbers xs (known_functions numbers ys outer) q
functions-append numbers [] ys outer q = refl
functions-append numbers (x ∷ xs) ys outer q = ap (λ term. if bytes_eq q x then routine (numbers q) else term) (functions-append numbers xs ys outer q)

-- names that hide others, and names that hide these
pub hides-more : (a b c : FirstNames NamedThing) (first second both : Scope → Scope) → Hides a b first → Hides b c second → ((outer : Scope) (q : List ℕ) → both outer q ≡ first (second outer) q) → Hides a c both
hides-more a b c first second both one two split outer q = ap (λ term. term_or (first_of a q) term) (split outer q) ∙ one (second outer) q ∙ two outer q

-- objects behind others
pub objects-more : (a b c : FirstNames NamedThing) (n m : ℕ) (xs ys zs : List Declared) → Hides a b (known_objects n xs) → Hides b c (known_objects m ys) → m ≡ n + length xs → zs ≡ xs ++ ys → Hides a c (known_objects n zs)
objects-more a b c n m xs ys zs one two place whole =
    hides-more a b c (known_objects n xs) (known_objects m ys) (known_objects n zs) one two
    (λ outer q.
    ap (λ ws. known_objects n ws outer q) whole
    ∙ objects-append n xs ys outer q
    ∙ ap (λ k. known_objects n xs (known_objects k ys outer) q) (sym place))

functions-more : (numbers : Routines) (a b c : FirstNames NamedThing) (xs ys zs : List (List ℕ)) → Hides a b (known_functions numbers xs) → Hides b c (known_functions numbers ys) → zs ≡ xs ++ ys → Hides a c (known_functions numbers zs)
functions-more numbers a b c xs ys zs one two whole =
    hides-more a b c (known_functions numbers xs) (known_functions numbers ys) (known_functions numbers zs) one two
    (λ outer q. ap (λ ws. known_functions numbers ws outer q) whole ∙ functions-append numbers xs ys outer q)

-- declarations behind others
pub gives-more : (numbers : Routines) (at : NextNumbers) (xs ys : List CLocal) (a b c : NameScope) → GivesNames numbers at xs a b → GivesNames numbers (numbers_behind at xs) ys b c → GivesNames numbers at (xs ++ ys) a c
gives-more numbers at xs ys a b c one two = record {
  lasting = objects-more a.lasting b.lasting c.lasting at.lasting _ (declared_statics xs) (declared_statics ys) (declared_statics (xs ++ ys)) one.lasting two.lasting (lasting-behind at xs) (statics-append xs ys);
  frame = objects-more a.frame b.frame c.frame at.frame _ (declared_automatics xs) (declared_automatics ys) (declared_automatics (xs ++ ys)) one.frame two.frame (frame-behind at xs) (automatics-append xs ys);
  functions = functions-more numbers a.functions b.functions c.functions (declared_externs xs) (declared_externs ys) (declared_externs (xs ++ ys)) one.functions two.functions (externs-append xs ys);
  file = λ q. two.file q ∙ one.file q;
}

pub gives-none : (numbers : Routines) (at : NextNumbers) (a : NameScope) → GivesNames numbers at [] a a
gives-none numbers at a = record {
  lasting = λ outer q. refl;
  frame = λ outer q. refl;
  functions = λ outer q. refl;
  file = λ q. refl;
}

-- the names in scope behind declarations
pub scope-behind : (numbers : Routines) (at : NextNumbers) (given : List CLocal) (a b : NameScope) → GivesNames numbers at given a b → scope_of b ≡ scope_behind numbers a at given
unfolding scope_of scope_behind
scope-behind numbers at given a b gives =
    same-scope _ _
    (λ q.
    let inside : Scope = around a.functions (known_functions numbers (declared_externs given) (file_names a)) in
    let middle : Scope = around a.frame (known_objects at.frame (declared_automatics given) inside) in
    let names = term_or (first_of b.lasting q) in
    let frame = term_or (first_of b.frame q) in
    let functions = term_or (first_of b.functions q) in
    ap (λ found. names (frame (functions (term_or found Unknown)))) (gives.file q)
    ∙ ap (λ term. names (frame term)) (sym (gives.functions (file_names a) q))
    ∙ ap names (sym (gives.frame inside q))
    ∙ sym (gives.lasting middle q))
