-- Where the steps of a statement stand in a lowered text.
use Rattle.std.specs.Prelude.{◌≡◌, ℕ, zero, suc, ◌+◌, ◌<◌, ◌≤◌, List, [], ◌∷◌, ◌++◌, length, slice_get, Some, refl}
use Rattle.std.proofs.Common.{sym, ap, ◌∙◌, subst, arith, length-append}
use Rattle.small_instance.specs.declared.source.Statement.{Statement}
use Rattle.small_instance.specs.declared.source.Statement.TheVariants.{Set, SetCalling, Unless, GoTo, Give, Stop}
use Rattle.small_instance.specs.SourceLanguage.{Text}
use Rattle.small_instance.specs.Translation.{size_of, sizes_before, position_of, lowered_statement, lowered_body, lowered}

pub slice_get-front : {X : Type 0} (xs ys : List X) (i : ℕ) → i < length xs → slice_get (xs ++ ys) i ≡ slice_get xs i
slice_get-front [] ys i h = absurd (omega arith)
slice_get-front (x ∷ xs) ys zero h = refl
slice_get-front (x ∷ xs) ys (suc i) h = slice_get-front xs ys i (omega arith)

pub slice_get-back : {X : Type 0} (xs ys : List X) (i : ℕ) → slice_get (xs ++ ys) (length xs + i) ≡ slice_get ys i
slice_get-back [] ys i = let e : 0 + i ≡ i = omega arith in ap (slice_get ys) e
slice_get-back (x ∷ xs) ys i =
    let e : suc (length xs) + i ≡ suc (length xs + i) = omega arith in
    ap (slice_get (x ∷ (xs ++ ys))) e ∙ slice_get-back xs ys i

pub length-lowered : (body : List Statement) (st : Statement) → length (lowered_statement body st) ≡ size_of st
length-lowered body (Set p l r) = refl
length-lowered body (SetCalling p l unit by_second a b) = refl
length-lowered body (Unless p n) = refl
length-lowered body (GoTo n) = refl
length-lowered body (Give o) = refl
length-lowered body Stop = refl

in_body : (whole body : List Statement) (i k : ℕ) (st : Statement) → slice_get body i ≡ Some st → k < size_of st →
    slice_get (lowered_body whole body) (sizes_before body i + k) ≡ slice_get (lowered_statement whole st) k
in_body whole [] i k st e h = absurd (grind arith)
in_body whole (x ∷ body) zero k st e h =
    let e' : Some x ≡ Some st = e in
    let same : x ≡ st = cc in
    let z : 0 + k ≡ k = omega arith in
    let size : k < size_of x = subst (λ y. k < size_of y) (sym same) h in
    let short : k < length (lowered_statement whole x) = subst (λ n. k < n) (sym (length-lowered whole x)) size in
    ap (slice_get (lowered_statement whole x ++ lowered_body whole body)) z ∙ slice_get-front (lowered_statement whole x) (lowered_body whole body) k short ∙ ap (λ y. slice_get (lowered_statement whole y) k) same
in_body whole (x ∷ body) (suc i) k st e h =
    let size : size_of x + sizes_before body i + k ≡ size_of x + (sizes_before body i + k) = omega arith in
    let long : size_of x + (sizes_before body i + k) ≡ length (lowered_statement whole x) + (sizes_before body i + k) = ap (λ n. n + (sizes_before body i + k)) (sym (length-lowered whole x)) in
    ap (slice_get (lowered_statement whole x ++ lowered_body whole body)) (size ∙ long) ∙ slice_get-back (lowered_statement whole x) (lowered_body whole body) (sizes_before body i + k) ∙ in_body whole body i k st e h

-- step k of statement i
pub step_at : (u : Text) (i k : ℕ) (st : Statement) → slice_get u.body i ≡ Some st → k < size_of st →
    slice_get (lowered u) (position_of u.body i + k) ≡ slice_get (lowered_statement u.body st) k
step_at u i k st e h =
    let n : position_of u.body i + k ≡ suc (sizes_before u.body i + k) = omega arith in
    ap (slice_get (lowered u)) n ∙ in_body u.body u.body i k st e h

-- a statement's steps are among all
pub size_within : (whole body : List Statement) (i : ℕ) (st : Statement) → slice_get body i ≡ Some st → size_of st ≤ length (lowered_body whole body)
size_within whole [] i st e = absurd (grind arith)
size_within whole (x ∷ body) zero st e =
    let e' : Some x ≡ Some st = e in
    let same : size_of x ≡ size_of st = ap size_of cc in
    let long : length (lowered_statement whole x ++ lowered_body whole body) ≡ length (lowered_statement whole x) + length (lowered_body whole body) = length-append (lowered_statement whole x) (lowered_body whole body) in
    let size : length (lowered_statement whole x) ≡ size_of x = length-lowered whole x in
    omega arith
size_within whole (x ∷ body) (suc i) st e =
    let rest : size_of st ≤ length (lowered_body whole body) = size_within whole body i st e in
    let long : length (lowered_statement whole x ++ lowered_body whole body) ≡ length (lowered_statement whole x) + length (lowered_body whole body) = length-append (lowered_statement whole x) (lowered_body whole body) in
    omega arith
