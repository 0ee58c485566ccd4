-- Steps, marks and labels behind so many steps, one after the other.
use Rattle.std.proofs.Common.{◌≡◌, ℕ, zero, suc, ◌+◌, ◌<◌, ◌≤◌, Bool, true, false, List, [], ◌∷◌, ◌++◌, map, length, take, drop, get_or, Option, Some, None, option_map, nat_eq, cond, if◌then◌else◌, slice_get, refl, ap, sym, ◌∙◌, arith}
use Rattle.std.proofs.lemmas.List.{map-append, take_more, take_all, drop_all}
use Rattle.std.specs.Map.{lookup}
use Rattle.lowered_tree.specs.l_core.Steps as core
use Rattle.lowered_tree.specs.declared.steps.Step.{Step}
use Rattle.lowered_tree.specs.declared.steps.Step.TheVariants as step
use Rattle.lowered_tree.specs.Shapes.{steps_of, step_of}
use Rattle.lowered_text.specs.declared.text.Marked.{Marked}
use Rattle.lowered_text.specs.Texts.{marked_of}
use Rattle.behind_bounds.specs.BehindBounds.{steps_behind, position_behind, mark_behind}
use Rattle.text_behind.specs.LabelsBehind.{one_behind, place_behind}

-- ## Steps

one-more : (n : ℕ) → steps_behind n [] ++ core.Pass ∷ [] ≡ steps_behind (suc n) []
unfolding steps_behind
one-more zero = refl
one-more (suc n) = ap (λ ss. core.Pass ∷ ss) (one-more n)

pub passes-none : (steps : List Step) → steps ≡ [] → steps_of steps ≡ steps_behind 0 []
unfolding steps_behind
passes-none steps is = ap steps_of is

pub passes-more : (before after : List Step) (n k : ℕ) → after ≡ before ++ step.Pass ∷ [] → steps_of before ≡ steps_behind n [] → k ≡ n + 1 → steps_of after ≡ steps_behind k []
passes-more before after n k put so_far is =
    ap steps_of put ∙ map-append step_of before (step.Pass ∷ []) ∙ ap (λ ss. ss ++ core.Pass ∷ []) so_far ∙ one-more n
    ∙ ap (λ j. steps_behind j []) (let e : suc n ≡ k = omega (arith, is) in e)

joined : (n : ℕ) (ss : List core.Step) → steps_behind n [] ++ ss ≡ steps_behind n ss
unfolding steps_behind
joined zero ss = refl
joined (suc n) ss = ap (λ rest. core.Pass ∷ rest) (joined n ss)

pub steps-joined : (n : ℕ) (before steps after : List Step) → after ≡ before ++ steps → steps_of before ≡ steps_behind n [] → steps_of after ≡ steps_behind n (steps_of steps)
steps-joined n before steps after put is = ap steps_of put ∙ map-append step_of before steps ∙ ap (λ ss. ss ++ steps_of steps) is ∙ joined n (steps_of steps)

-- ## Marks

pub marks-more : (first : ℕ) (ms : List Marked) (i : ℕ) (m d b : Marked) (before after : List Marked) → i < length ms → m ≡ get_or ms i d → after ≡ before ++ b ∷ [] →
    marked_of b ≡ mark_behind first (marked_of m) → map marked_of before ≡ map (mark_behind first) (map marked_of (take i ms)) →
    map marked_of after ≡ map (mark_behind first) (map marked_of (take (i + 1) ms))
marks-more first ms i m d b before after h is put one so_far =
    let more : take i ms ++ m ∷ [] ≡ take (i + 1) ms = ap (λ y. take i ms ++ y ∷ []) is ∙ sym (take_more ms i d h) in
    ap (map marked_of) put ∙ map-append marked_of before (b ∷ []) ∙ ap (λ xs. xs ++ marked_of b ∷ []) so_far
    ∙ ap (λ x. map (mark_behind first) (map marked_of (take i ms)) ++ x ∷ []) one
    ∙ sym (map-append (mark_behind first) (map marked_of (take i ms)) (marked_of m ∷ []))
    ∙ ap (map (mark_behind first)) (sym (map-append marked_of (take i ms) (m ∷ [])) ∙ ap (map marked_of) more)

pub marks-end : (first : ℕ) (ms : List Marked) (i : ℕ) (behind : List Marked) → length ms ≤ i → map marked_of behind ≡ map (mark_behind first) (map marked_of (take i ms)) →
    map marked_of behind ≡ map (mark_behind first) (map marked_of ms)
marks-end first ms i behind h so_far = so_far ∙ ap (λ xs. map (mark_behind first) (map marked_of xs)) (take_all i ms h)

-- ## Labels

-- what is noted of the entries from one on
unfoldable pub noted : ℕ → ℕ → List (ℕ × ℕ) → Option ℕ
noted first q [] = None
noted first q (e ∷ es) = one_behind first q e (noted first q es)

noted-by : (first q : ℕ) (b : Bool) (n : ℕ) (o : Option ℕ) → (if b then Some (first + n) else option_map (λ n. first + n) o) ≡ option_map (λ n. first + n) (cond b (Some n) o)
noted-by first q true n o = refl
noted-by first q false n o = refl

noted-all : (first q : ℕ) (es : List (ℕ × ℕ)) → noted first q es ≡ option_map (λ n. first + n) (lookup (nat_eq q) es)
unfolding noted one_behind
noted-all first q [] = refl
noted-all first q (e ∷ es) =
    ap (λ o. if nat_eq q e.0 then Some (first + e.1) else o) (noted-all first q es) ∙ noted-by first q (nat_eq q e.0) e.1 (lookup (nat_eq q) es)

pub labels-none : (first q : ℕ) (es : List (ℕ × ℕ)) (i : ℕ) (o : Option ℕ) → length es ≤ i → o ≡ None → o ≡ noted first q (drop i es)
unfolding noted
labels-none first q es i o h none = none ∙ sym (ap (noted first q) (drop_all i es h))

got : (es : List (ℕ × ℕ)) (i : ℕ) → i < length es → (e : ℕ × ℕ) × ((slice_get es i ≡ Some e) × (drop i es ≡ e ∷ drop (suc i) es))
got [] i h = absurd (omega (arith, h))
got (e ∷ es) zero h = (e, (refl, refl))
got (e ∷ es) (suc i) h = got es i (omega (arith, h))

pub labels-more : (first q : ℕ) (es : List (ℕ × ℕ)) (i k : ℕ) (before after : Option ℕ) → i + 1 ≡ k → k ≤ length es → before ≡ noted first q (drop k es) →
    after ≡ place_behind first q (slice_get es i) before → after ≡ noted first q (drop i es)
unfolding noted place_behind
labels-more first q es i k before after next within so_far put =
    let found = got es i (omega (arith, next, within)) in
    put ∙ ap (λ o. place_behind first q o before) found.1.0 ∙ ap (one_behind first q found.0) (so_far ∙ ap (λ j. noted first q (drop j es)) (let e : k ≡ suc i = omega (arith, next) in e))
    ∙ sym (ap (noted first q) found.1.1)

pub labels-end : (first q : ℕ) (es : List (ℕ × ℕ)) (i : ℕ) (o : Option ℕ) → i ≤ 0 → o ≡ noted first q (drop i es) → o ≡ position_behind first (λ n. lookup (nat_eq n) es) q
unfolding position_behind
labels-end first q es i o h so_far = so_far ∙ ap (λ j. noted first q (drop j es)) (let e : i ≡ 0 = omega (arith, h) in e) ∙ noted-all first q es

pub position-same : (first : ℕ) (p q : ℕ → Option ℕ) (label : ℕ) → p label ≡ q label → position_behind first p label ≡ position_behind first q label
unfolding position_behind
position-same first p q label is = ap (option_map (λ n. first + n)) is
