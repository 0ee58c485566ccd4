-- Which names each form of an expression mentions.
use Rattle.std.proofs.Common.{◌≡◌, refl, sym, ap, ◌∙◌, ℕ, Bool, true, false, ◌||◌, List, [], ◌∷◌, ◌++◌}
use Rattle.c_tree.specs.declared.expression.CExpr.{CExpr}
use Rattle.c_tree.specs.Terms.{Term}
use Rattle.c_tree.specs.Drafts.{Draft}
use Rattle.c_tree.specs.Linking.{any_of}
use Rattle.c_tree.specs.LinkedExpressions.{linked, linked_all, name_of}

or_along : (a b c : Bool) → (a || (b || c)) ≡ ((a || b) || c)
or_along true b c = refl
or_along false b c = refl

or_none : (a : Bool) → (a || false) ≡ a
or_none true = refl
or_none false = refl

-- one of two lists
pub any_either : (test : List ℕ → Bool) (xs ys : List (List ℕ)) → any_of test (xs ++ ys) ≡ (any_of test xs || any_of test ys)
any_either test [] ys = refl
any_either test (x ∷ xs) ys = ap (λ b. test x || b) (any_either test xs ys) ∙ or_along (test x) (any_of test xs) (any_of test ys)

-- ## An expression by its parts

pub any-two : (test : List ℕ → Bool) (whole xs ys : List (List ℕ)) (r p q : Bool) → whole ≡ xs ++ ys → p ≡ any_of test xs → q ≡ any_of test ys → r ≡ (p || q) → r ≡ any_of test whole
any-two test whole xs ys r p q is one two both =
    both ∙ (λ i. one i || two i) ∙ sym (any_either test xs ys) ∙ sym (ap (any_of test) is)

pub any-three : (test : List ℕ → Bool) (whole xs ys zs : List (List ℕ)) (r p q s t : Bool) → whole ≡ (xs ++ ys) ++ zs → p ≡ any_of test xs → q ≡ any_of test ys → s ≡ any_of test zs →
    t ≡ (q || s) → r ≡ (p || t) → r ≡ any_of test whole
any-three test whole xs ys zs r p q s t is one two three inner outer =
    outer ∙ (λ i. one i || (inner ∙ (λ j. two j || three j)) i)
    ∙ or_along (any_of test xs) (any_of test ys) (any_of test zs)
    ∙ ap (λ z. z || any_of test zs) (sym (any_either test xs ys))
    ∙ sym (any_either test (xs ++ ys) zs) ∙ sym (ap (any_of test) is)

pub any-name : (test : List ℕ → Bool) (name : List ℕ) (r : Bool) (whole : Draft Term) → whole ≡ name_of name → r ≡ test name → r ≡ any_of test whole.names
any-name test name r whole is one = one ∙ sym (or_none (test name)) ∙ sym (ap (λ d. any_of test d.names) is)

pub any-more : (test : List ℕ → Bool) (first : CExpr) (later : List CExpr) → any_of test (linked_all (first ∷ later)).names ≡ (any_of test (linked first).names || any_of test (linked_all later).names)
any-more test first later = any_either test (linked first).names (linked_all later).names

pub any-none : (test : List ℕ → Bool) → any_of test (linked_all []).names ≡ false
any-none test = refl

pub ruleset list_forms = (any-more, any-none)
