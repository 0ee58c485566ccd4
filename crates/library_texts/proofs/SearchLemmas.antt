-- The first place at which a text stands in another, as the code finds it.
use Rattle.std.proofs.Common.{◌≡◌, ℕ, zero, suc, ◌+◌, ◌<◌, pos, Bool, true, false, ◌&&◌, if◌then◌else◌, List, [], ◌∷◌, length, refl, ap, sym, ◌∙◌, arith, true≢false}
use Rattle.std.specs.Prelude.{nat_eq, slice_index}
use Rattle.std.specs.List.{starts_with}
use Rattle.std.proofs.lemmas.Bool.Decides.{nat_tests}
use Rattle.memchr.specs.Find.{OccursAt, Nowhere}
use Rattle.c_tree.specs.LibraryTexts.{found_from}

-- a text stands at the start of another
occurs-starts : (text wanted : List ℕ) → OccursAt text wanted 0 → starts_with nat_eq text wanted ≡ true
occurs-starts text [] stands = refl
occurs-starts [] (first ∷ rest) stands = absurd (omega (arith, stands.fits))
occurs-starts (byte ∷ later) (first ∷ rest) stands =
    let same : byte ≡ first = stands.reads 0 (omega arith) in
    let alike : nat_eq first byte ≡ true = grind (arith, nat_tests) in
    ap (λ test. test && starts_with nat_eq later rest) alike ∙ occurs-starts later rest (record { fits = omega (arith, stands.fits); reads = further })
  where
    further : (j : ℕ) → j < length rest → slice_index later (0 + j) ≡ slice_index rest j
    further j h = ap (slice_index (byte ∷ later)) (let e : suc (0 + j) ≡ 0 + suc j = omega arith in e) ∙ stands.reads (suc j) (omega arith)

both : (one other : Bool) → (one && other) ≡ true → (one ≡ true) × (other ≡ true)
both true true is = (refl, refl)
both true false is = absurd (true≢false (sym is))
both false other is = absurd (true≢false (sym is))

starts-occurs : (text wanted : List ℕ) → starts_with nat_eq text wanted ≡ true → OccursAt text wanted 0
starts-occurs text [] is = record { fits = omega arith; reads = λ j h. absurd (omega arith) }
starts-occurs [] (first ∷ rest) is = absurd (true≢false (sym is))
starts-occurs (byte ∷ later) (first ∷ rest) is =
    let here : OccursAt later rest 0 = starts-occurs later rest (both (nat_eq first byte) (starts_with nat_eq later rest) is).1 in
    record { fits = omega (arith, here.fits); reads = reading here (both (nat_eq first byte) (starts_with nat_eq later rest) is).0 }
  where
    reading : OccursAt later rest 0 → nat_eq first byte ≡ true → (j : ℕ) → j < length (first ∷ rest) → slice_index (byte ∷ later) (0 + j) ≡ slice_index (first ∷ rest) j
    reading here same zero h = grind (arith, nat_tests)
    reading here same (suc j) h = ap (slice_index (byte ∷ later)) (let e : 0 + suc j ≡ suc (0 + j) = omega arith in e) ∙ here.reads j (omega arith)

apart : (text wanted : List ℕ) → (OccursAt text wanted 0 → ⊥) → starts_with nat_eq text wanted ≡ false
apart text wanted not_here = by (starts_with nat_eq text wanted) refl
  where
    by : (test : Bool) → starts_with nat_eq text wanted ≡ test → test ≡ false
    by true is = absurd (not_here (starts-occurs text wanted is))
    by false is = refl

-- a text stands one place further behind one byte more
nearer : (byte k : ℕ) (later wanted : List ℕ) → OccursAt (byte ∷ later) wanted (suc k) → OccursAt later wanted k
nearer byte k later wanted stands = record { fits = omega (arith, stands.fits); reads = λ j h. ap (slice_index (byte ∷ later)) (let e : suc (k + j) ≡ suc k + j = omega arith in e) ∙ stands.reads j h }

farther : (byte k : ℕ) (later wanted : List ℕ) → OccursAt later wanted k → OccursAt (byte ∷ later) wanted (suc k)
farther byte k later wanted stands = record { fits = omega (arith, stands.fits); reads = λ j h. ap (slice_index (byte ∷ later)) (let e : suc k + j ≡ suc (k + j) = omega arith in e) ∙ stands.reads j h }

empty-at : (wanted : List ℕ) → length wanted ≡ 0 → OccursAt [] wanted 0
empty-at wanted h = record { fits = omega arith; reads = λ j k. absurd (omega arith) }

pub found-at : (text wanted : List ℕ) (place k : ℕ) → Nowhere (OccursAt text wanted) 0 k → OccursAt text wanted k → found_from place text wanted ≡ pos (place + k)
found-at [] wanted place k none stands =
    let none_wanted : nat_eq (length wanted) 0 ≡ true = grind (arith, nat_tests, stands.fits) in
    let same : place ≡ place + k = omega (arith, stands.fits) in
    ap (λ test. if test then pos place else pos 0) none_wanted ∙ ap pos same
found-at (byte ∷ later) wanted place zero none stands =
    ap (λ test. if test then pos place else found_from (place + 1) later wanted) (occurs-starts (byte ∷ later) wanted stands)
    ∙ ap pos (let same : place ≡ place + 0 = omega arith in same)
found-at (byte ∷ later) wanted place (suc k) none stands =
    ap (λ test. if test then pos place else found_from (place + 1) later wanted) (apart (byte ∷ later) wanted (none 0 (omega arith) (omega arith)))
    ∙ found-at later wanted (place + 1) k (λ j low high at. none (suc j) (omega arith) (omega arith) (farther byte j later wanted at)) (nearer byte k later wanted stands)
    ∙ ap pos (let same : place + 1 + k ≡ place + suc k = omega arith in same)

pub found-nowhere : (text wanted : List ℕ) (place : ℕ) → Nowhere (OccursAt text wanted) 0 (length text + 1) → found_from place text wanted ≡ pos 0
found-nowhere [] wanted place none =
    let some_wanted : nat_eq (length wanted) 0 ≡ false = by (nat_eq (length wanted) 0) refl in
    ap (λ test. if test then pos place else pos 0) some_wanted
  where
    by : (test : Bool) → nat_eq (length wanted) 0 ≡ test → test ≡ false
    by true is = absurd (none 0 (omega arith) (omega arith) (empty-at wanted (grind (arith, nat_tests))))
    by false is = refl
found-nowhere (byte ∷ later) wanted place none =
    ap (λ test. if test then pos place else found_from (place + 1) later wanted) (apart (byte ∷ later) wanted (none 0 (omega arith) (omega arith)))
    ∙ found-nowhere later wanted (place + 1) (λ j low high at. none (suc j) (omega arith) (omega arith) (farther byte j later wanted at))
