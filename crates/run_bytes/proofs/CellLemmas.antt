-- Bytes with their marks, as the code reads and stores them.
use Rattle.std.proofs.Common.{◌≡◌, ℕ, zero, suc, ◌+◌, ◌-◌, ◌≤◌, min, Bool, true, false, if◌then◌else◌, List, [], ◌∷◌, ◌++◌, length, take, drop, map, replicate, Some, None, refl, ap, sym, ◌∙◌, arith, append_assoc, length-take, length-drop, true≢false}
use Rattle.std.specs.Prelude.{nat_le, Ok}
use Rattle.std.specs.List.{list_all}
use Rattle.std.proofs.lemmas.Bool.Decides.{nat_tests}
use Rattle.std.proofs.lemmas.List.{length-replicate, drop-drop}
use borrow.Rule.Slice.PartMut.{put_mid}
use Rattle.c_tree.specs.declared.outcome.CFault.TheVariants.{Unset, Outside}
use Rattle.c_tree.specs.Faults.{after, failing}
use Rattle.c_tree.specs.Objects.{Bytes, all_set, bytes_at, with_bytes, overlaid}
use Rattle.run_bytes.specs.Cells.{cell, marked}

pub marked-take : (n : ℕ) (bytes : List ℕ) (marks : List Bool) → length marks ≡ length bytes → marked (take n bytes) (take n marks) ≡ take n (marked bytes marks)
marked-take zero bytes marks h = refl
marked-take (suc n) [] marks h = refl
marked-take (suc n) (byte ∷ later) [] h = absurd (omega arith)
marked-take (suc n) (byte ∷ later) (mark ∷ marks) h = ap (λ cells. cell byte mark ∷ cells) (marked-take n later marks (omega arith))

pub marked-drop : (n : ℕ) (bytes : List ℕ) (marks : List Bool) → length marks ≡ length bytes → marked (drop n bytes) (drop n marks) ≡ drop n (marked bytes marks)
marked-drop zero bytes marks h = refl
marked-drop (suc n) [] marks h = refl
marked-drop (suc n) (byte ∷ later) [] h = absurd (omega arith)
marked-drop (suc n) (byte ∷ later) (mark ∷ marks) h = marked-drop n later marks (omega arith)

pub length-marked : (bytes : List ℕ) (marks : List Bool) → length marks ≡ length bytes → length (marked bytes marks) ≡ length bytes
length-marked [] marks h = refl
length-marked (byte ∷ later) [] h = absurd (omega arith)
length-marked (byte ∷ later) (mark ∷ marks) h = ap suc (length-marked later marks (omega arith))

pub marked-append : (bytes others : List ℕ) (marks further : List Bool) → length marks ≡ length bytes →
    marked (bytes ++ others) (marks ++ further) ≡ marked bytes marks ++ marked others further
marked-append [] others [] further h = refl
marked-append [] others (mark ∷ marks) further h = absurd (omega arith)
marked-append (byte ∷ later) others [] further h = absurd (omega arith)
marked-append (byte ∷ later) others (mark ∷ marks) further h = ap (λ cells. cell byte mark ∷ cells) (marked-append later others marks further (omega arith))

pub marked-set : (bytes : List ℕ) (n : ℕ) → n ≡ length bytes → marked bytes (replicate n true) ≡ map Some bytes
marked-set [] n h = refl
marked-set (byte ∷ later) zero h = absurd (omega arith)
marked-set (byte ∷ later) (suc n) h = ap (λ cells. Some byte ∷ cells) (marked-set later n (omega arith))

pub marked-unset : (bytes : List ℕ) (n : ℕ) → n ≡ length bytes → marked bytes (replicate n false) ≡ replicate n None
marked-unset [] zero h = refl
marked-unset [] (suc n) h = absurd (omega arith)
marked-unset (byte ∷ later) zero h = absurd (omega arith)
marked-unset (byte ∷ later) (suc n) h = ap (λ cells. None ∷ cells) (marked-unset later n (omega arith))

-- READING
whole-set : (bytes : List ℕ) (marks : List Bool) → length marks ≡ length bytes → list_all (λ mark. mark) marks ≡ true → all_set (marked bytes marks) ≡ Ok bytes
whole-set [] marks h is = refl
whole-set (byte ∷ later) [] h is = absurd (omega arith)
whole-set (byte ∷ later) (true ∷ marks) h is = ap (λ found. after found λ bytes. Ok (byte ∷ bytes)) (whole-set later marks (omega arith) is)
whole-set (byte ∷ later) (false ∷ marks) h is = absurd (true≢false (sym is))

one-unset : (bytes : List ℕ) (marks : List Bool) → length marks ≡ length bytes → list_all (λ mark. mark) marks ≡ false → all_set (marked bytes marks) ≡ failing Unset
one-unset bytes [] h is = absurd (true≢false is)
one-unset [] (mark ∷ marks) h is = absurd (omega arith)
one-unset (byte ∷ later) (true ∷ marks) h is = ap (λ found. after found λ bytes. Ok (byte ∷ bytes)) (one-unset later marks (omega arith) is)
one-unset (byte ∷ later) (false ∷ marks) h is = refl

pub marked-part : (bytes : List ℕ) (marks : List Bool) (offset n : ℕ) → length marks ≡ length bytes →
    marked (take n (drop offset bytes)) (take n (drop offset marks)) ≡ take n (drop offset (marked bytes marks))
marked-part bytes marks offset n h =
    marked-take n (drop offset bytes) (drop offset marks) (omega (arith, length-drop offset bytes, length-drop offset marks))
    ∙ ap (take n) (marked-drop offset bytes marks h)

pub part-lengths : (bytes : List ℕ) (marks : List Bool) (offset n : ℕ) → length marks ≡ length bytes →
    length (take n (drop offset marks)) ≡ length (take n (drop offset bytes))
part-lengths bytes marks offset n h =
    length-take n (drop offset marks) ∙ (let e : length (drop offset marks) ≡ length (drop offset bytes) = omega (arith, length-drop offset bytes, length-drop offset marks) in ap (λ k. min n k) e)
    ∙ sym (length-take n (drop offset bytes))

inside : (bytes : List ℕ) (marks : List Bool) (offset count : ℕ) → length marks ≡ length bytes → offset + count ≤ length bytes →
    bytes_at offset count (marked bytes marks) ≡ all_set (marked (take count (drop offset bytes)) (take count (drop offset marks)))
inside bytes marks offset count h fits =
    let size : length (marked bytes marks) ≡ length bytes = length-marked bytes marks h in
    let is : nat_le (offset + count) (length (marked bytes marks)) ≡ true = grind (arith, nat_tests) in
    ap (λ test. if test then all_set (take count (drop offset (marked bytes marks))) else failing Outside) is
    ∙ ap all_set (sym (marked-part bytes marks offset count h))

pub bytes-found : (bytes : List ℕ) (marks : List Bool) (offset count n : ℕ) → length marks ≡ length bytes → offset + count ≤ length bytes → n ≡ count →
    list_all (λ mark. mark) (take n (drop offset marks)) ≡ true → Ok (take n (drop offset bytes)) ≡ bytes_at offset count (marked bytes marks)
bytes-found bytes marks offset count n h fits same is =
    ap (λ k. Ok (take k (drop offset bytes))) same
    ∙ sym (inside bytes marks offset count h fits
    ∙ whole-set (take count (drop offset bytes)) (take count (drop offset marks)) (part-lengths bytes marks offset count h)
    (ap (λ k. list_all (λ mark. mark) (take k (drop offset marks))) (sym same) ∙ is))

pub bytes-unset : (bytes : List ℕ) (marks : List Bool) (offset count n : ℕ) → length marks ≡ length bytes → offset + count ≤ length bytes → n ≡ count →
    list_all (λ mark. mark) (take n (drop offset marks)) ≡ false → failing Unset ≡ bytes_at offset count (marked bytes marks)
bytes-unset bytes marks offset count n h fits same is =
    sym (inside bytes marks offset count h fits
    ∙ one-unset (take count (drop offset bytes)) (take count (drop offset marks)) (part-lengths bytes marks offset count h)
    (ap (λ k. list_all (λ mark. mark) (take k (drop offset marks))) (sym same) ∙ is))

pub bytes-outside : (bytes : List ℕ) (marks : List Bool) (offset count : ℕ) → length marks ≡ length bytes → (offset + count ≤ length bytes → ⊥) →
    failing Outside ≡ bytes_at offset count (marked bytes marks)
bytes-outside bytes marks offset count h past =
    let size : length (marked bytes marks) ≡ length bytes = length-marked bytes marks h in
    let is : nat_le (offset + count) (length (marked bytes marks)) ≡ false = grind (arith, nat_tests) in
    sym (ap (λ test. if test then all_set (take count (drop offset (marked bytes marks))) else failing Outside) is)

pub ruleset reading_laws = (bytes-found, bytes-unset, bytes-outside)

-- STORING
pub put-inside : (bytes new copied : List ℕ) (marks filled : List Bool) (offset n : ℕ) → length marks ≡ length bytes → offset + length new ≤ length bytes →
    n ≡ length new → copied ≡ new → filled ≡ replicate (length (take n (drop offset marks))) true →
    with_bytes offset new (marked bytes marks) ≡ Ok (Bytes (marked (put_mid offset n bytes copied) (put_mid offset n marks filled)))
put-inside bytes new copied marks filled offset n h fits count copy fill =
    let size : length (marked bytes marks) ≡ length bytes = length-marked bytes marks h in
    let is : nat_le (offset + length new) (length (marked bytes marks)) ≡ true = grind (arith, nat_tests) in
    let behind : length (drop offset marks) ≡ length marks - offset = length-drop offset marks in
    let all : length (take n (drop offset marks)) ≡ n = length-take n (drop offset marks) ∙ omega arith in
    let same : filled ≡ replicate n true = fill ∙ ap (λ k. replicate k true) all in
    let copies : n ≡ length copied = count ∙ ap length (sym copy) in
    let fills : length filled ≡ length copied = ap length same ∙ length-replicate n true ∙ copies in
    let later : offset + length new ≡ offset + n = omega arith in
    ap (λ test. if test then Ok (Bytes (overlaid offset new (marked bytes marks))) else failing Outside) is
    ∙ ap (λ cells. Ok (Bytes cells))
    (append_assoc (take offset (marked bytes marks)) (map Some new) (drop (offset + length new) (marked bytes marks))
    ∙ ap (λ front. front ++ (map Some new ++ drop (offset + length new) (marked bytes marks))) (sym (marked-take offset bytes marks h))
    ∙ ap (λ rest. marked (take offset bytes) (take offset marks) ++ rest)
    (ap (λ k. map Some new ++ drop k (marked bytes marks)) later
    ∙ ap (λ cells. map Some new ++ cells) (sym (ap (λ cells. drop n cells) (marked-drop offset bytes marks h) ∙ drop-drop n offset (marked bytes marks)))
    ∙ ap (λ cells. map Some new ++ cells) (sym (marked-drop n (drop offset bytes) (drop offset marks) (omega (arith, length-drop offset bytes, length-drop offset marks))))
    ∙ ap (λ cells. cells ++ marked (drop n (drop offset bytes)) (drop n (drop offset marks)))
    (ap (map Some) (sym copy) ∙ sym (ap (marked copied) same ∙ marked-set copied n copies))
    ∙ sym (marked-append copied (drop n (drop offset bytes)) filled (drop n (drop offset marks)) fills))
    ∙ sym (marked-append (take offset bytes) (copied ++ drop n (drop offset bytes)) (take offset marks) (filled ++ drop n (drop offset marks))
    (length-take offset marks ∙ ap (λ k. min offset k) h ∙ sym (length-take offset bytes))))

pub put-outside : (bytes new : List ℕ) (marks : List Bool) (offset : ℕ) → length marks ≡ length bytes → (offset + length new ≤ length bytes → ⊥) →
    with_bytes offset new (marked bytes marks) ≡ failing Outside
put-outside bytes new marks offset h past =
    let size : length (marked bytes marks) ≡ length bytes = length-marked bytes marks h in
    let is : nat_le (offset + length new) (length (marked bytes marks)) ≡ false = grind (arith, nat_tests) in
    ap (λ test. if test then Ok (Bytes (overlaid offset new (marked bytes marks))) else failing Outside) is
