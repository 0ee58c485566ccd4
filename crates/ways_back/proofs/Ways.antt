-- Steps that go forward, and lists of steps whose ways back stay within what is before them.
use Rattle.std.specs.Prelude.{◌≡◌, ℕ, zero, suc, ◌+◌, ◌≤◌, List, [], ◌∷◌, ◌++◌, length, map, Option, Some, None, slice_get}
use Rattle.std.proofs.Common.{refl, subst, arith}
use Rattle.lowering.specs.l_core.Steps.{Step, Again, AgainIf, Jump}

-- how many steps a step goes back at most
unfoldable pub back_of : Step → ℕ
back_of (Again m) = m
back_of (AgainIf p m) = m
back_of st = 0

-- no step goes back
unfoldable pub AreForward : List Step → Type 0
AreForward [] = Unit {0}
AreForward (st ∷ xs) = (back_of st ≡ 0) × AreForward xs

unfoldable pub AreForwardIf : Option (List Step) → Type 0
AreForwardIf None = Unit {0}
AreForwardIf (Some xs) = AreForward xs

-- steps that stand behind so many others, and go back no further than to the first of all
unfoldable pub AreWithin : ℕ → List Step → Type 0
AreWithin n [] = Unit {0}
AreWithin n (st ∷ xs) = (back_of st ≤ n) × AreWithin (suc n) xs

pub forward_both : (xs ys : List Step) → AreForward xs → AreForward ys → AreForward (xs ++ ys)
unfolding AreForward
forward_both [] ys first later = later
forward_both (x ∷ xs) ys first later = (first.0, forward_both xs ys first.1 later)

pub jumps_forward : (labels : List ℕ) → AreForward (map Jump labels)
unfolding AreForward back_of
jumps_forward [] = tt
jumps_forward (l ∷ labels) = (refl, jumps_forward labels)

pub forward_within : (xs : List Step) (n : ℕ) → AreForward xs → AreWithin n xs
unfolding AreForward AreWithin
forward_within [] n forward = tt
forward_within (x ∷ xs) n forward = let none = forward.0 in (omega (arith, none), forward_within xs (suc n) forward.1)

pub within_both : (xs ys : List Step) (n m : ℕ) → m ≡ n + length xs → AreWithin n xs → AreWithin m ys → AreWithin n (xs ++ ys)
unfolding AreWithin
within_both [] ys n m at first later = let e : m ≡ n = omega (arith, at) in subst (λ z. AreWithin z ys) e later
within_both (x ∷ xs) ys n m at first later = (first.0, within_both xs ys (suc n) m (omega (arith, at)) first.1 later)

pub within_at : (xs : List Step) (n i : ℕ) (st : Step) → AreWithin n xs → slice_get xs i ≡ Some st → back_of st ≤ n + i
unfolding AreWithin
within_at [] n i st within at = absurd (cc)
within_at (x ∷ xs) n zero st within at =
    let same : x ≡ st = cc in
    let here = within.0 in
    subst (λ z. back_of z ≤ n + 0) same (let le : back_of x ≤ n + 0 = omega (arith, here) in le)
within_at (x ∷ xs) n (suc i) st within at = let later = within_at xs (suc n) i st within.1 at in omega (arith, later)
