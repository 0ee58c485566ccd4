-- A `switch` whose cases are numbered from 1, or by labels, goes on where the lowered choice does (ANSI X3.9-1978, sections 11.2 and 11.3; C89, 3.6.4.2).
use Rattle.std.specs.Ordering.{int_eq}
use Rattle.std.specs.Prelude.{◌≡◌, ℕ, zero, suc, ◌+◌, ◌<◌, ◌≤◌, nat_eq, nat_lt, ℤ, pos, negsuc, Bool, true, false, ◌||◌, List, [], ◌∷◌, length, Ok, if◌then◌else◌}
use Rattle.std.proofs.Common.{refl, sym, ap, ◌∙◌, arith, true≢false}
use Rattle.std.proofs.lemmas.Bool.{eqb-true, eq-eqb, ltb-true, ltb-false}
use Rattle.std.proofs.lemmas.Bool.Decides.{Decides-int_eq}
use Rattle.c_emit.specs.simulation.Machine.{Goes}
use Rattle.c_emit.specs.f_tree.Step.{contains}
use Rattle.c_emit.specs.l_core.Machine.{passed_by, passed_before}
use Rattle.c_emit.specs.c_tree.Terms.{Term}
use Rattle.c_emit.specs.c_tree.Values.{number_of}
use Rattle.c_emit.specs.c_tree.Flat.{Select}
use Rattle.c_emit.specs.c_tree.World.{World}
use Rattle.c_emit.specs.c_tree.Linking as linking
use Rattle.c_emit.specs.c_tree.Steps.{View, deed, given_that, going_to, case_position}
use Rattle.c_emit.specs.Flats.{cases_to, cases_for}

other_number : (z y : ℤ) → (z ≡ y → ⊥) → int_eq z y ≡ false
other_number z y apart = by (int_eq z y) refl
  where
    by : (test : Bool) → int_eq z y ≡ test → int_eq z y ≡ false
    by true is = absurd (apart ((Decides-int_eq z y).0 is))
    by false is = is

further : (n k : ℕ) → pos (n + suc k) ≡ pos n → ⊥
further n k same = let is : n + suc k ≡ n = cc in omega (arith, is)

-- a number that no case has
no_case : (place : ℕ → ℕ) (z : ℤ) (number n count otherwise : ℕ) → ((k : ℕ) → number ≤ k → k < number + count → z ≡ pos k → ⊥) → case_position z (cases_to place number n count) otherwise ≡ otherwise
unfolding cases_to
no_case place z number n zero otherwise none = refl
no_case place z number n (suc count) otherwise none =
    ap (λ b. if b then place n else case_position z (cases_to place (suc number) (suc n) count) otherwise) (other_number z (pos number) (none number (omega arith) (omega arith)))
    ∙ no_case place z (suc number) (suc n) count otherwise (λ k low high. none k (omega (arith, low)) (omega (arith, high)))

-- the number of a case, so many behind the first
a_case : (place : ℕ → ℕ) (k number n count otherwise : ℕ) → k < count → case_position (pos (number + k)) (cases_to place number n count) otherwise ≡ place (n + k)
unfolding cases_to
a_case place k number n zero otherwise below = absurd (omega (arith, below))
a_case place zero number n (suc count) otherwise below =
    let is : number + zero ≡ number = omega arith in
    let there : n ≡ n + zero = omega arith in
    ap (λ b. if b then place n else case_position (pos (number + zero)) (cases_to place (suc number) (suc n) count) otherwise) ((Decides-int_eq (pos (number + zero)) (pos number)).1 (ap pos is))
    ∙ ap place there
a_case place (suc k) number n (suc count) otherwise below =
    let is : number + suc k ≡ suc number + k = omega arith in
    let there : suc n + k ≡ n + suc k = omega arith in
    ap (λ b. if b then place n else case_position (pos (number + suc k)) (cases_to place (suc number) (suc n) count) otherwise) (other_number (pos (number + suc k)) (pos number) (further number k))
    ∙ ap (λ m. case_position (pos m) (cases_to place (suc number) (suc n) count) otherwise) is
    ∙ a_case place k (suc number) (suc n) count otherwise (omega (arith, below))
    ∙ ap place there

pub cases_pick : (place : ℕ → ℕ) (n count : ℕ) (z : ℤ) → case_position z (cases_to place 1 n count) (place (n + count)) ≡ place (n + passed_by count z)
unfolding passed_by
cases_pick place n count (pos zero) = no_case place (pos zero) 1 n count (place (n + count)) none
  where
    none : (k : ℕ) → 1 ≤ k → k < 1 + count → pos zero ≡ pos k → ⊥
    none k low high same = let is : zero ≡ k = cc in omega (arith, low, is)
cases_pick place n count (negsuc m) = no_case place (negsuc m) 1 n count (place (n + count)) none
  where
    none : (k : ℕ) → 1 ≤ k → k < 1 + count → negsuc m ≡ pos k → ⊥
    none k low high same = cc
cases_pick place n count (pos (suc k)) = by (nat_lt k count) refl
  where
    none : nat_lt k count ≡ false → (m : ℕ) → 1 ≤ m → m < 1 + count → pos (suc k) ≡ pos m → ⊥
    none past m low high same = let is : suc k ≡ m = cc in let behind = ltb-false k count past in omega (arith, high, is, behind)

    by : (test : Bool) → nat_lt k count ≡ test → case_position (pos (suc k)) (cases_to place 1 n count) (place (n + count)) ≡ place (n + (if test then k else count))
    by true less =
        let is : suc k ≡ 1 + k = omega arith in
        ap (λ m. case_position (pos m) (cases_to place 1 n count) (place (n + count))) is ∙ a_case place k 1 n count (place (n + count)) (ltb-true k count less)
    by false past = no_case place (pos (suc k)) 1 n count (place (n + count)) (none past)

-- a `switch` whose expression has a number
pub switch_goes : (function : linking.Function) (view : View) (world : World) (value : Term) (place : ℕ → ℕ) (n count : ℕ) (z : ℤ) → number_of world.objects value ≡ Ok z
    → deed function view world (Select value (cases_to place 1 n count) (place (n + count))) ≡ Goes (record view { position = place (n + passed_by count z) }) world
unfolding deed
switch_goes function view world value place n count z holds =
    ap (λ found. given_that found λ number. going_to (case_position number (cases_to place 1 n count) (place (n + count))) view world) holds
    ∙ ap (λ position. Goes (record view { position = position }) world) (cases_pick place n count z)

-- ## Labels

labelled_case : (place : ℕ → ℕ) (k n l otherwise : ℕ) (ks : List ℕ) (test : Bool) → nat_eq k l ≡ test → (test || contains ks l) ≡ true →
    (contains ks l ≡ true → case_position (pos l) (cases_for place (suc n) ks) otherwise ≡ place (suc n + passed_before ks l)) →
    (if int_eq (pos l) (pos k) then place n else case_position (pos l) (cases_for place (suc n) ks) otherwise) ≡ place (n + (if test then 0 else suc (passed_before ks l)))
labelled_case place k n l otherwise ks true e among later =
    let same : k ≡ l = eqb-true k l e in
    let there : n ≡ n + 0 = omega arith in
    ap (λ b. if b then place n else case_position (pos l) (cases_for place (suc n) ks) otherwise) ((Decides-int_eq (pos l) (pos k)).1 (ap pos (sym same))) ∙ ap place there
labelled_case place k n l otherwise ks false e among later =
    let there : suc n + passed_before ks l ≡ n + suc (passed_before ks l) = omega arith in
    ap (λ b. if b then place n else case_position (pos l) (cases_for place (suc n) ks) otherwise) (other_number (pos l) (pos k) (apart e)) ∙ later among ∙ ap place there
  where
    apart : nat_eq k l ≡ false → pos l ≡ pos k → ⊥
    apart e same = let is : k ≡ l = cc in true≢false (sym (eq-eqb k l is) ∙ e)

pub labels_pick : (place : ℕ → ℕ) (n l otherwise : ℕ) (labels : List ℕ) → contains labels l ≡ true → case_position (pos l) (cases_for place n labels) otherwise ≡ place (n + passed_before labels l)
unfolding cases_for contains passed_before
labels_pick place n l otherwise [] among = absurd (true≢false (sym among))
labels_pick place n l otherwise (k ∷ ks) among = labelled_case place k n l otherwise ks (nat_eq k l) refl among (labels_pick place (suc n) l otherwise ks)

-- a `switch` whose expression has the number of a label
pub label_goes : (function : linking.Function) (view : View) (world : World) (value : Term) (place : ℕ → ℕ) (n l : ℕ) (labels : List ℕ) → number_of world.objects value ≡ Ok (pos l) → contains labels l ≡ true
    → deed function view world (Select value (cases_for place n labels) (place (n + length labels))) ≡ Goes (record view { position = place (n + passed_before labels l) }) world
unfolding deed
label_goes function view world value place n l labels holds among =
    ap (λ found. given_that found λ number. going_to (case_position number (cases_for place n labels) (place (n + length labels))) view world) holds
    ∙ ap (λ position. Goes (record view { position = position }) world) (labels_pick place n l (place (n + length labels)) labels among)
