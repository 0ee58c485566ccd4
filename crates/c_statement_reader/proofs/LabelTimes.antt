-- How often a label is in a list, as the table tells it.
use Rattle.std.proofs.Common.{◌≡◌, refl, sym, ap, ◌∙◌, ℕ, zero, suc, ◌+◌, ◌==◌, nat_le, Bool, true, false, not, ◌&&◌, ◌||◌, List, [], ◌∷◌, ◌++◌, map, length, filter, bytes_eq, Option, Some, None, is_some, if◌then◌else◌, ne_eqb, arith}
use Rattle.std.specs.Borrow.{Bor}
use Rattle.std.specs.List.{list_all}
use Rattle.std.proofs.lemmas.Bool.{lt-leb}
use Rattle.std.proofs.lemmas.Slice.Eq.{bytes_eq-Decides}
use Rattle.c_tree.specs.CWords.{is_among}
use Rattle.c_tree.specs.CLabels.{stands_once}
use Rattle.c_statement_reader.specs.LabelCounts.{texts, times, again}

-- ## What the table tells

some-more : (n : ℕ) → is_some (again (suc n)) ≡ true
some-more zero = refl
some-more (suc n) = refl

among-by : (same : Bool) (label : List ℕ) (later : List (List ℕ)) (first : List ℕ) → is_some (again (length (filter (bytes_eq label) later))) ≡ is_among label later
    → is_some (again (length (if same then first ∷ filter (bytes_eq label) later else filter (bytes_eq label) later))) ≡ (same || is_among label later)
among-by true label later first h = some-more (length (filter (bytes_eq label) later))
among-by false label later first h = h

pub among-told : (label : List ℕ) (labels : List (List ℕ)) → is_some (again (times label labels)) ≡ is_among label labels
among-told label [] = refl
among-told label (first ∷ later) = among-by (bytes_eq label first) label later first (among-told label later)

pub is-among : (label : List ℕ) (labels : List (List ℕ)) (found : Option Bool) → found ≡ again (times label labels) → is_some found ≡ is_among label labels
is-among label labels found h = ap is_some h ∙ among-told label labels

few-by : (n : ℕ) (more : Bool) → Some more ≡ again n → not more ≡ nat_le n 1
few-by zero more h = absurd (cc)
few-by (suc zero) true h = absurd (cc)
few-by (suc zero) false h = refl
few-by (suc (suc n)) true h = sym (lt-leb (suc (suc n)) 1 (omega arith))
few-by (suc (suc n)) false h = absurd (cc)

pub few-told : (label : List ℕ) (labels : List (List ℕ)) (more : Bool) → Some more ≡ again (times label labels) → not more ≡ nat_le (length (filter (bytes_eq label) labels)) 1
few-told label labels more h = few-by (times label labels) more h

few-none : (n : ℕ) → None ≡ again n → true ≡ nat_le n 1
few-none zero h = refl
few-none (suc zero) h = absurd (cc)
few-none (suc (suc n)) h = absurd (cc)

pub few-untold : (label : List ℕ) (labels : List (List ℕ)) → None ≡ again (times label labels) → true ≡ nat_le (length (filter (bytes_eq label) labels)) 1
few-untold label labels h = few-none (times label labels) h

once-by : (n : ℕ) (more : Bool) → Some more ≡ again n → not more ≡ (n == 1)
once-by zero more h = absurd (cc)
once-by (suc zero) true h = absurd (cc)
once-by (suc zero) false h = refl
once-by (suc (suc n)) true h = sym (ne_eqb (suc (suc n)) 1 (λ e. let no : ⊥ = omega (arith, e) in no))
once-by (suc (suc n)) false h = absurd (cc)

pub once-told : (label : List ℕ) (labels : List (List ℕ)) (more : Bool) → Some more ≡ again (times label labels) → not more ≡ stands_once labels label
once-told label labels more h = once-by (times label labels) more h

once-none : (n : ℕ) → None ≡ again n → false ≡ (n == 1)
once-none zero h = refl
once-none (suc zero) h = absurd (cc)
once-none (suc (suc n)) h = absurd (cc)

pub once-untold : (label : List ℕ) (labels : List (List ℕ)) → None ≡ again (times label labels) → false ≡ stands_once labels label
once-untold label labels h = once-none (times label labels) h

pub all-texts : (p : List ℕ → Bool) (keys : List (Bor (List ℕ))) → list_all p (texts keys) ≡ list_all (λ (key : Bor (List ℕ)). p key.now) keys
all-texts p [] = refl
all-texts p (key ∷ keys) = ap (λ b. p key.now && b) (all-texts p keys)

pub ruleset label_times = (among-told, few-told, few-untold, once-told, once-untold)

pub ruleset label_texts = all-texts

-- ## A label more

pub texts-more : (keys : List (Bor (List ℕ))) (key : Bor (List ℕ)) → texts (keys ++ key ∷ []) ≡ texts keys ++ key.now ∷ []
texts-more [] key = refl
texts-more (first ∷ keys) key = ap (λ z. first.now ∷ z) (texts-more keys key)

times-by : (b : Bool) (first : List ℕ) (rest more : List (List ℕ)) (n : ℕ) → length more ≡ length rest + n
    → length (if b then first ∷ more else more) ≡ length (if b then first ∷ rest else rest) + n
times-by true first rest more n h = omega (arith, h)
times-by false first rest more n h = h

pub times-more : (label one : List ℕ) (labels : List (List ℕ)) → times label (labels ++ one ∷ []) ≡ times label labels + times label (one ∷ [])
times-more label one [] = omega arith
times-more label one (first ∷ labels) =
    times-by (bytes_eq label first) first (filter (bytes_eq label) labels) (filter (bytes_eq label) (labels ++ one ∷ [])) (times label (one ∷ [])) (times-more label one labels)

flipped : (a b : List ℕ) → bytes_eq a b ≡ true → bytes_eq b a ≡ true
flipped a b h = (bytes_eq-Decides b a).1 (sym ((bytes_eq-Decides a b).0 h))

same-tests : (a b : Bool) → (a ≡ true → b ≡ true) → (b ≡ true → a ≡ true) → a ≡ b
same-tests true b one other = sym (one refl)
same-tests false true one other = other refl
same-tests false false one other = refl

pub same-flipped : (a b : List ℕ) → bytes_eq a b ≡ bytes_eq b a
same-flipped a b = same-tests (bytes_eq a b) (bytes_eq b a) (flipped a b) (flipped b a)

again-next : (n : ℕ) → again (n + 1) ≡ Some (is_some (again n))
again-next zero = refl
again-next (suc zero) = refl
again-next (suc (suc n)) = let e : suc (suc n) + 1 ≡ suc (suc (suc n)) = omega arith in ap again e

again-same : (n : ℕ) → again (n + 0) ≡ again n
again-same n = let e : n + 0 ≡ n = omega arith in ap again e

-- a table with the label once more tells of the longer list
told-by : (b : Bool) (q label : List ℕ) (before : List (List ℕ)) (old : Option Bool) (there : Bool) → bytes_eq label q ≡ b → old ≡ again (times q before)
    → there ≡ is_some (again (times label before))
    → (if b then Some there else old) ≡ again (times q before + length (if b then label ∷ [] else []))
told-by true q label before old there same told is =
    let e : label ≡ q = (bytes_eq-Decides label q).0 same in
    ap Some is ∙ (ap (λ z. Some (is_some (again (times z before)))) e ∙ sym (again-next (times q before)))
told-by false q label before old there same told is = told ∙ sym (again-same (times q before))

pub told-more : (q label : List ℕ) (before : List (List ℕ)) (old now : Option Bool) (there : Bool) → old ≡ again (times q before)
    → there ≡ is_some (again (times label before)) → now ≡ (if bytes_eq label q then Some there else old)
    → now ≡ again (times q (before ++ label ∷ []))
told-more q label before old now there told is put =
    put ∙ (told-by (bytes_eq label q) q label before old there refl told is
    ∙ (ap (λ (b : Bool). again (times q before + length (if b then label ∷ [] else []))) (same-flipped label q)
    ∙ ap again (sym (times-more q label before))))
