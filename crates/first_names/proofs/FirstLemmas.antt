-- A name that is given a value.
use Rattle.std.proofs.Common.{◌≡◌, ℕ, Bool, true, false, List, Option, Some, None, is_some, bytes_eq, if◌then◌else◌, refl, sym, ap, ◌∙◌, subst, true≢false}
use Rattle.std.proofs.lemmas.Slice.Eq.{bytes_eq-Decides}
use Rattle.first_names.specs.FirstNames.{or_later}

same_tests : (a b : Bool) → (a ≡ true → b ≡ true) → (b ≡ true → a ≡ true) → a ≡ b
same_tests true b one other = sym (one refl)
same_tests false true one other = absurd (true≢false (sym (other refl)))
same_tests false false one other = refl

flipped : (xs ys : List ℕ) → bytes_eq xs ys ≡ true → bytes_eq ys xs ≡ true
flipped xs ys h = (bytes_eq-Decides ys xs).1 (sym ((bytes_eq-Decides xs ys).0 h))

equal_flip : (xs ys : List ℕ) → bytes_eq xs ys ≡ bytes_eq ys xs
equal_flip xs ys = same_tests (bytes_eq xs ys) (bytes_eq ys xs) (flipped xs ys) (flipped ys xs)

kept_by : {V : Type 0} (before : Option V) (test : Bool) (value : V) → (test ≡ true → is_some before ≡ true) → before ≡ or_later before (if test then Some value else None)
kept_by (Some x) test value h = refl
kept_by None true value h = absurd (true≢false (sym (h refl)))
kept_by None false value h = refl

-- a name that has a value keeps it
pub kept : {V : Type 0} (values : List ℕ → Option V) (name : List ℕ) (value : V) → is_some (values name) ≡ true → (q : List ℕ) →
    values q ≡ or_later (values q) (if bytes_eq q name then Some value else None)
kept values name value some q =
    kept_by (values q) (bytes_eq q name) value (λ h. ap (λ z. is_some (values z)) ((bytes_eq-Decides q name).0 h) ∙ some)

added_by : {V : Type 0} (before now : Option V) (test other : Bool) (value : V) → other ≡ test → (test ≡ true → is_some before ≡ false) → now ≡ (if other then Some value else before) →
    now ≡ or_later before (if test then Some value else None)
added_by (Some x) now true other value same none is = absurd (true≢false (none refl))
added_by (Some x) now false other value same none is = is ∙ ap (λ z. if z then Some value else Some x) same
added_by None now true other value same none is = is ∙ ap (λ z. if z then Some value else None) same
added_by None now false other value same none is = is ∙ ap (λ z. if z then Some value else None) same

-- a name that has none gets it
pub added : {V : Type 0} (values now : List ℕ → Option V) (name : List ℕ) (value : V) → is_some (values name) ≡ false →
    ((q : List ℕ) → now q ≡ (if bytes_eq name q then Some value else values q)) → (q : List ℕ) →
    now q ≡ or_later (values q) (if bytes_eq q name then Some value else None)
added values now name value none is q =
    added_by (values q) (now q) (bytes_eq q name) (bytes_eq name q) value (equal_flip name q) (λ h. ap (λ z. is_some (values z)) ((bytes_eq-Decides q name).0 h) ∙ none) (is q)
