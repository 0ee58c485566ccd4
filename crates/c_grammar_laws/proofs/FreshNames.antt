-- There is always a name that is not declared yet.
use Rattle.std.proofs.Common.{◌≡◌, refl, sym, ap, ◌∙◌, ℕ, zero, suc, ◌+◌, ◌<◌, ◌≤◌, Bool, true, false, not, ◌&&◌, ◌||◌, List, [], ◌∷◌, length, bytes_eq, arith}
use Rattle.std.specs.List.{list_all}
use Rattle.c_readers.specs.c_tree.Tokens.{is_word_byte}
use Rattle.c_readers.specs.c_tree.CWords.{is_among, is_name}
use Rattle.c_readers.specs.c_tree.CDeclarationText.{IsNew}
use Rattle.c_readers.specs.DeclarationReader.{is_new}
use Rattle.c_grammar_laws.proofs.TokenGood.{equal-texts}

-- a name of so many letters
letters : ℕ → List ℕ
letters zero = []
letters (suc n) = 120 ∷ letters n

letters-length : (n : ℕ) → length (letters n) ≡ n
unfolding letters
letters-length zero = refl
letters-length (suc n) = ap suc (letters-length n)

letters-fit : (n : ℕ) → list_all is_word_byte (letters n) ≡ true
unfolding letters
letters-fit zero = refl
letters-fit (suc n) = letters-fit n

letters-named : (n : ℕ) → is_name (letters (suc n)) ≡ true
unfolding letters
letters-named n = ap (λ z. z && true) (letters-fit n)

-- the letters of all names together
all_letters : List (List ℕ) → ℕ
all_letters [] = 0
all_letters (name ∷ names) = length name + all_letters names

other-length : (one other : List ℕ) → length other < length one → (does : Bool) → bytes_eq one other ≡ does → does ≡ false
other-length one other longer false h = refl
other-length one other longer true h = absurd (let e : length one ≡ length other = ap length (equal-texts one other h) in omega (arith, e, longer))

longer-absent : (name : List ℕ) (names : List (List ℕ)) → all_letters names < length name → is_among name names ≡ false
unfolding all_letters
longer-absent name [] h = refl
longer-absent name (other ∷ names) h =
    ap (λ z. z || is_among name names) (other-length name other (let k : length other + all_letters names < length name = h in omega (arith, k)) (bytes_eq name other) refl)
    ∙ longer-absent name names (let k : length other + all_letters names < length name = h in omega (arith, k))

pub fresh_name : List (List ℕ) → List ℕ
fresh_name here = letters (suc (all_letters here))

pub fresh-named : (here : List (List ℕ)) → is_name (fresh_name here) ≡ true
unfolding fresh_name
fresh-named here = letters-named (all_letters here)

pub fresh-absent : (here : List (List ℕ)) → is_among (fresh_name here) here ≡ false
unfolding fresh_name
fresh-absent here = longer-absent (fresh_name here) here (let k = letters-length (suc (all_letters here)) in omega (arith, k))

pub fresh-new : (here : List (List ℕ)) → is_new here (fresh_name here) ≡ true
fresh-new here = ap (λ z. z && not (is_among (fresh_name here) here)) (fresh-named here) ∙ ap not (fresh-absent here)

not-true : (b : Bool) → not b ≡ true → b ≡ false
not-true true h = sym h
not-true false h = refl

both-true : (a b : Bool) → (a && b) ≡ true → (a ≡ true) × (b ≡ true)
both-true true b h = (refl, h)
both-true false b h = absurd (let e : false ≡ true = h in cc)

-- a name that passes the test is new
pub new-name : (here : List (List ℕ)) (name : List ℕ) → is_new here name ≡ true → IsNew name here
new-name here name h =
    let k = both-true (is_name name) (not (is_among name here)) h in
    record { named = k.0; fresh = not-true (is_among name here) k.1 }

pub passes-new : (here : List (List ℕ)) (name : List ℕ) → IsNew name here → is_new here name ≡ true
passes-new here name n = ap (λ z. z && not (is_among name here)) n.named ∙ ap not n.fresh
