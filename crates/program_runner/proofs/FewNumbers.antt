-- Of the numbers below a limit so many stand apart at most.
use Rattle.std.proofs.Common.{◌≡◌, ℕ, zero, suc, ◌<◌, ◌≤◌, Bool, true, false, ◌||◌, if◌then◌else◌, List, [], ◌∷◌, length, refl, ap, ◌∙◌, arith}
use Rattle.std.specs.Prelude.{nat_eq}
use Rattle.std.proofs.lemmas.Bool.Decides.{nat_tests}
use Rattle.program_runner.specs.Numbers.{has, Apart, Below}

-- all numbers but one
abbrev without : ℕ → List ℕ → List ℕ
without number [] = []
without number (first ∷ later) = if nat_eq number first then without number later else first ∷ without number later

neither : (first later : Bool) → (first || later) ≡ false → (first ≡ false) × (later ≡ false)
neither false later is = (refl, is)
neither true later is = absurd (cc)

has-chosen : (k n first : ℕ) (later : List ℕ) (same : Bool) → (nat_eq k first || has k later) ≡ false → has k (without n later) ≡ false →
    has k (if same then without n later else first ∷ without n later) ≡ false
has-chosen k n first later true is rest = rest
has-chosen k n first later false is rest = ap (λ test. test || has k (without n later)) (neither (nat_eq k first) (has k later) is).0 ∙ rest

has-without : (k n : ℕ) (numbers : List ℕ) → has k numbers ≡ false → has k (without n numbers) ≡ false
has-without k n [] is = refl
has-without k n (first ∷ later) is =
    has-chosen k n first later (nat_eq n first) is (has-without k n later (neither (nat_eq k first) (has k later) is).1)

apart-chosen : (n first : ℕ) (later : List ℕ) (same : Bool) → has first later ≡ false → Apart (without n later) → Apart (if same then without n later else first ∷ without n later)
apart-chosen n first later true is rest = rest
apart-chosen n first later false is rest = (has-without first n later is, rest)

apart-without : (n : ℕ) (numbers : List ℕ) → Apart numbers → Apart (without n numbers)
apart-without n [] apart = tt
apart-without n (first ∷ later) apart = apart-chosen n first later (nat_eq n first) apart.0 (apart-without n later apart.1)

below-chosen : (n first : ℕ) (later : List ℕ) (same : Bool) → nat_eq n first ≡ same → first < suc n → Below n (without n later) → Below n (if same then without n later else first ∷ without n later)
below-chosen n first later true is less rest = rest
below-chosen n first later false is less rest = (grind (arith, nat_tests), rest)

below-without : (n : ℕ) (numbers : List ℕ) → Below (suc n) numbers → Below n (without n numbers)
below-without n [] below = tt
below-without n (first ∷ later) below = below-chosen n first later (nat_eq n first) refl below.0 (below-without n later below.1)

-- one number that is not there
none-without : (n : ℕ) (numbers : List ℕ) → has n numbers ≡ false → without n numbers ≡ numbers
none-without n [] is = refl
none-without n (first ∷ later) is =
    let tests = neither (nat_eq n first) (has n later) is in
    ap (λ same. if same then without n later else first ∷ without n later) tests.0 ∙ ap (λ rest. first ∷ rest) (none-without n later tests.1)

short-chosen : (n first : ℕ) (later : List ℕ) (same : Bool) → nat_eq n first ≡ same → has first later ≡ false → length later ≤ suc (length (without n later)) →
    suc (length later) ≤ suc (length (if same then without n later else first ∷ without n later))
short-chosen n first later true is apart rest =
    let here : n ≡ first = grind (arith, nat_tests) in
    let all : length (without n later) ≡ length later = ap length (none-without n later (ap (λ k. has k later) here ∙ apart)) in
    omega arith
short-chosen n first later false is apart rest = omega arith

short-without : (n : ℕ) (numbers : List ℕ) → Apart numbers → length numbers ≤ suc (length (without n numbers))
short-without n [] apart = omega arith
short-without n (first ∷ later) apart = short-chosen n first later (nat_eq n first) refl apart.0 (short-without n later apart.1)

pub few : (limit : ℕ) (numbers : List ℕ) → Apart numbers → Below limit numbers → length numbers ≤ limit
few zero [] apart below = omega arith
few zero (first ∷ later) apart below = absurd (let less : first < 0 = below.0 in omega arith)
few (suc limit) numbers apart below =
    let rest : length (without limit numbers) ≤ limit = few limit (without limit numbers) (apart-without limit numbers apart) (below-without limit numbers below) in
    omega (arith, short-without limit numbers apart)
