-- The types of names by their first letters.
use Rattle.std.specs.Prelude.{◌≡◌, ℕ, suc, Bool, true, false, List, [], ◌∷◌, ◌++◌, Option, Some, if◌then◌else◌}
use Rattle.std.specs.Borrow.{Bor}
use Rattle.std.proofs.Common.{◌+◌, ◌<◌, ◌≤◌, drop, drop-cons, get_or, length, refl, sym, ap, ◌∙◌, arith}
use Rattle.std.proofs.lemmas.List.{drop_all}
use Rattle.f_tree.specs.declared.statements.ImplicitGroup.{ImplicitGroup}
use Rattle.f_tree.specs.declared.statements.TypeSpec.{TypeSpec}
use Rattle.f_tree.specs.Attributes.{letter_is_in, by_letter, by_default}
use Rattle.declared_types.specs.TypeTables.{groups_in}

rest_is : {X : Type 0} (xs : List X) (i : ℕ) (x d : X) → i < length xs → x ≡ get_or xs i d → drop i xs ≡ x ∷ drop (i + 1) xs
rest_is xs i x d h is = drop-cons xs i d h ∙ ap (λ y. y ∷ drop (suc i) xs) (sym is) ∙ ap (λ n. x ∷ drop n xs) (let e : suc i ≡ i + 1 = omega arith in e)

pub groups_more : (groups : List (Bor ImplicitGroup)) (g : Bor ImplicitGroup) → groups_in (groups ++ g ∷ []) ≡ groups_in groups ++ g.now ∷ []
groups_more [] g = refl
groups_more (h ∷ groups) g = ap (λ gs. h.now ∷ gs) (groups_more groups g)

-- the group of a letter
letter_by : (b : Bool) (g : ImplicitGroup) (rest : Option TypeSpec) → b ≡ true → (if b then Some g.spec else rest) ≡ Some g.spec
letter_by true g rest is = refl
letter_by false g rest is = absurd (cc)

other_by : (b : Bool) (g : ImplicitGroup) (rest : Option TypeSpec) → b ≡ false → (if b then Some g.spec else rest) ≡ rest
other_by false g rest is = refl
other_by true g rest is = absurd (cc)

letter_step : (c : ℕ) (g : ImplicitGroup) (gs : List ImplicitGroup) → by_letter c (g ∷ gs) ≡ (if letter_is_in c g.letters then Some g.spec else by_letter c gs)
unfolding by_letter
letter_step c g gs = refl

pub letter_found : (c : ℕ) (groups : List (Bor ImplicitGroup)) (i : ℕ) (g d : Bor ImplicitGroup) (whole : Option TypeSpec) → i < length groups → g ≡ get_or groups i d
    → whole ≡ by_letter c (groups_in (drop i groups)) → letter_is_in c g.now.letters ≡ true → whole ≡ Some g.now.spec
letter_found c groups i g d whole h is so_far there =
    so_far ∙ ap (λ gs. by_letter c (groups_in gs)) (rest_is groups i g d h is) ∙ letter_step c g.now (groups_in (drop (i + 1) groups))
    ∙ letter_by (letter_is_in c g.now.letters) g.now (by_letter c (groups_in (drop (i + 1) groups))) there

pub letter_on : (c : ℕ) (groups : List (Bor ImplicitGroup)) (i : ℕ) (g d : Bor ImplicitGroup) (whole : Option TypeSpec) → i < length groups → g ≡ get_or groups i d
    → whole ≡ by_letter c (groups_in (drop i groups)) → letter_is_in c g.now.letters ≡ false → whole ≡ by_letter c (groups_in (drop (i + 1) groups))
letter_on c groups i g d whole h is so_far there =
    so_far ∙ ap (λ gs. by_letter c (groups_in gs)) (rest_is groups i g d h is) ∙ letter_step c g.now (groups_in (drop (i + 1) groups))
    ∙ other_by (letter_is_in c g.now.letters) g.now (by_letter c (groups_in (drop (i + 1) groups))) there

pub letter_none : (c : ℕ) → by_letter c [] ≡ by_default c
unfolding by_letter
letter_none c = refl

pub letter_end : (c : ℕ) (groups : List (Bor ImplicitGroup)) (i : ℕ) (whole : Option TypeSpec) → length groups ≤ i → whole ≡ by_letter c (groups_in (drop i groups)) → whole ≡ by_default c
letter_end c groups i whole h so_far = so_far ∙ ap (λ gs. by_letter c (groups_in gs)) (drop_all i groups h) ∙ letter_none c
