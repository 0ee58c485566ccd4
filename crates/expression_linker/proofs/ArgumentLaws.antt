-- Arguments from the left, as a loop finds them (C89, 3.3.2.2).
use Rattle.std.proofs.Common.{◌≡◌, refl, ap, sym, ◌∙◌, ℕ, ◌+◌, Bool, true, false, ◌||◌, List, [], ◌∷◌, ◌++◌, length, length-append, append_assoc, arith}
use Rattle.c_tree.specs.declared.expression.CExpr.{CExpr}
use Rattle.c_tree.specs.declared.expression.CCall.{CCall}
use Rattle.c_tree.specs.Terms.{Term}
use Rattle.c_tree.specs.Drafts.{Scope}
use Rattle.c_tree.specs.LinkedExpressions.{linked, linked_all, linked_call, called}
use Rattle.linked_terms.specs.declared.terms.LinkedTerm.{LinkedTerm}
use Rattle.linked_terms.specs.LinkedTerms.{term_of, terms_of}
use Rattle.expression_linker.specs.LinkedParts.{is_unknown, some_unknown}

none_more : (n : ℕ) → n + 0 ≡ n
none_more n = omega arith

along : (a b c : ℕ) → a + (b + c) ≡ (a + b) + c
along a b c = omega arith

pub terms-more : (found : List LinkedTerm) (term : LinkedTerm) → terms_of (found ++ term ∷ []) ≡ terms_of found ++ term_of term ∷ []
terms-more [] term = refl
terms-more (one ∷ found) term = ap (λ rest. term_of one ∷ rest) (terms-more found term)

-- the terms that were found, and what the expressions that are left become, whose first string has this number
abbrev pub found_first : Scope → List LinkedTerm → List CExpr → ℕ → List Term
found_first scope found left number = terms_of found ++ (linked_all left).drawn scope number

pub first-one : (scope : Scope) (found : List LinkedTerm) (term : LinkedTerm) (e : CExpr) (left : List CExpr) (n m : ℕ) → term_of term ≡ (linked e).drawn scope n → m ≡ n + length (linked e).strings →
    found_first scope found (e ∷ left) n ≡ found_first scope (found ++ term ∷ []) left m
first-one scope found term e left n m is number =
    ap (λ z. terms_of found ++ z ∷ (linked_all left).drawn scope (n + length (linked e).strings)) (sym is)
    ∙ ap (λ z. terms_of found ++ term_of term ∷ (linked_all left).drawn scope z) (sym number)
    ∙ sym (append_assoc (terms_of found) (term_of term ∷ []) ((linked_all left).drawn scope m))
    ∙ ap (λ z. z ++ (linked_all left).drawn scope m) (sym (terms-more found term))

pub first_or : (a b : Bool) → a ≡ true → (a || b) ≡ true
first_or true b h = refl
first_or false b h = absurd (let e : false ≡ true = h in cc)

pub second_or : (a b : Bool) → b ≡ true → (a || b) ≡ true
second_or true b h = refl
second_or false b h = h

unknown_behind : (terms : List Term) (later : List Term) → some_unknown later ≡ true → some_unknown (terms ++ later) ≡ true
unknown_behind [] later h = h
unknown_behind (term ∷ terms) later h = second_or (is_unknown term) (some_unknown (terms ++ later)) (unknown_behind terms later h)

-- an expression that lacks a name, among those that are left
pub first-unknown : (scope : Scope) (found : List LinkedTerm) (e : CExpr) (left : List CExpr) (n : ℕ) → is_unknown ((linked e).drawn scope n) ≡ true →
    some_unknown (found_first scope found (e ∷ left) n) ≡ true
first-unknown scope found e left n h =
    unknown_behind (terms_of found) ((linked_all (e ∷ left)).drawn scope n)
    (first_or (is_unknown ((linked e).drawn scope n)) (some_unknown ((linked_all left).drawn scope (n + length (linked e).strings))) h)

-- the strings of the expressions that are left
pub strings-one : (bytes : List (List ℕ)) (e : CExpr) (left : List CExpr) → bytes ++ (linked_all (e ∷ left)).strings ≡ (bytes ++ (linked e).strings) ++ (linked_all left).strings
strings-one bytes e left = sym (append_assoc bytes (linked e).strings (linked_all left).strings)

pub count-one : (n : ℕ) (e : CExpr) (left : List CExpr) → n + length (linked_all (e ∷ left)).strings ≡ (n + length (linked e).strings) + length (linked_all left).strings
count-one n e left =
    ap (λ k. n + k) (length-append (linked e).strings (linked_all left).strings) ∙ along n (length (linked e).strings) (length (linked_all left).strings)

pub ruleset argument_laws = (first-one, first-unknown, count-one)

pub ruleset string_laws = (strings-one)

-- a call's function has no strings
pub drawn-call : (call : CCall) (scope : Scope) (n : ℕ) →
    (linked_call call).drawn scope n ≡ record { callee = called call.through (scope call.name); arguments = (linked_all call.arguments).drawn scope n }
drawn-call call scope n = ap (λ m. record { callee = called call.through (scope call.name); arguments = (linked_all call.arguments).drawn scope m }) (none_more n)

pub ruleset call_laws = (drawn-call, first_or, second_or)
