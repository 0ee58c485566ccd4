-- Ways as they are measured.
use Rattle.std.proofs.Common.{◌≡◌, ℕ, ◌+◌, ◌<◌, ◌≤◌, Bool, true, false, List, [], ◌∷◌, ◌++◌, drop, get_or, length, nat_eq, if◌then◌else◌, refl, sym, ap, ◌∙◌, arith}
use Rattle.std.proofs.lemmas.Bool.Decides.{nat_tests}
use Rattle.std.proofs.lemmas.List.{drop_all}
use Rattle.f_tree.specs.declared.statements.Stmt.{Stmt}
use Rattle.statement_places.specs.declared.places.Turn.{Turn}
use Rattle.statement_places.specs.declared.positions.Positions.{Positions}
use Rattle.statement_places.specs.StatementSizes.{turn_size_in}
use Rattle.statement_places.specs.StepWays.{turns_to, back_in, turns_in}
use Rattle.statement_places.proofs.ListLemmas.{rest_is}

-- UP TO ONE OF THE LOOPS
same_number : (k first : ℕ) → k ≡ first → nat_eq k first ≡ true
same_number k first is = grind (arith, nat_tests)

other_number : (k first : ℕ) → (k ≡ first → ⊥) → nat_eq k first ≡ false
other_number k first apart = grind (arith, nat_tests)

to_step : (ss : List Stmt) (first k : ℕ) (ks : List ℕ) → turns_to ss first (k ∷ ks) ≡ (if nat_eq k first then turn_size_in ss k else turn_size_in ss k + turns_to ss first ks)
unfolding turns_to
to_step ss first k ks = refl

to_here : (ss : List Stmt) (first k d i : ℕ) (ks : List ℕ) (b : Bool) → i < length ks → k ≡ get_or ks i d → nat_eq k first ≡ b
    → turns_to ss first (drop i ks) ≡ (if b then turn_size_in ss k else turn_size_in ss k + turns_to ss first (drop (i + 1) ks))
to_here ss first k d i ks b h is test =
    ap (turns_to ss first) (rest_is ks i k d h is) ∙ to_step ss first k (drop (i + 1) ks)
    ∙ ap (λ c. if c then turn_size_in ss k else turn_size_in ss k + turns_to ss first (drop (i + 1) ks)) test

pub to_found : (ss : List Stmt) (first k d i sum after whole : ℕ) (ks : List ℕ) → i < length ks → k ≡ get_or ks i d → k ≡ first → whole ≡ sum + turns_to ss first (drop i ks)
    → after ≡ sum + turn_size_in ss k → after ≡ whole
to_found ss first k d i sum after whole ks h is same so_far put =
    let here : turns_to ss first (drop i ks) ≡ turn_size_in ss k = to_here ss first k d i ks true h is (same_number k first same) in
    put ∙ ap (λ n. sum + n) (sym here) ∙ sym so_far

pub to_more : (ss : List Stmt) (first k d i sum after whole : ℕ) (ks : List ℕ) → i < length ks → k ≡ get_or ks i d → (k ≡ first → ⊥) → whole ≡ sum + turns_to ss first (drop i ks)
    → after ≡ sum + turn_size_in ss k → whole ≡ after + turns_to ss first (drop (i + 1) ks)
to_more ss first k d i sum after whole ks h is apart so_far put =
    let here : turns_to ss first (drop i ks) ≡ turn_size_in ss k + turns_to ss first (drop (i + 1) ks) = to_here ss first k d i ks false h is (other_number k first apart) in
    omega (arith, so_far, put, here)

to_none : (ss : List Stmt) (first : ℕ) → turns_to ss first [] ≡ 0
unfolding turns_to
to_none ss first = refl

pub to_end : (ss : List Stmt) (first i sum whole : ℕ) (ks : List ℕ) → length ks ≤ i → whole ≡ sum + turns_to ss first (drop i ks) → sum ≡ whole
to_end ss first i sum whole ks h so_far =
    let none = ap (turns_to ss first) (drop_all i ks h) ∙ to_none ss first in
    omega (arith, so_far, none)

-- THE ENDS OF LOOPS
abbrev pub turn_at : Bool → List Stmt → Positions → ℕ → ℕ → Turn
turn_at once ss positions from k = record { first = k; at = from; back = back_in once ss positions k from }

pub turns_step : (once : Bool) (ss : List Stmt) (positions : Positions) (from k : ℕ) (ks : List ℕ)
    → turns_in once ss positions from (k ∷ ks) ≡ (turn_at once ss positions from k ∷ []) ++ turns_in once ss positions (from + turn_size_in ss k) ks
unfolding turns_in
turns_step once ss positions from k ks = refl

pub turns_none : (once : Bool) (ss : List Stmt) (positions : Positions) (from : ℕ) → turns_in once ss positions from [] ≡ []
unfolding turns_in
turns_none once ss positions from = refl

pub turns_begin : (turns whole : List Turn) → turns ≡ [] → whole ≡ turns ++ whole
turns_begin turns whole none = sym (ap (λ xs. xs ++ whole) none)
