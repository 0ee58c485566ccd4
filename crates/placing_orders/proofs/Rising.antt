-- Contradictions stay, and so do blocks that are joined or extended, where further statements follow. So the statements of a unit whose placing
-- is sound have no row of storage but those of their places.
use Rattle.std.proofs.Common.{◌≡◌, ℤ, pos, Bool, true, false, not, ◌&&◌, ◌||◌, List, [], ◌∷◌, ◌++◌, bytes_eq, true≢false, append_assoc, append-nil, refl, sym, ap, subst, ◌∙◌, if◌then◌else◌}
use Rattle.std.specs.Prelude.{int_lt}
use Rattle.placing_laws.specs.f_tree.declared.refusals.Kind.{Kind}
use Rattle.placing_laws.specs.f_tree.declared.refusals.Kind.TheVariants.{EquivalenceContradiction, CommonJoinedOrExtended}
use Rattle.placing_laws.specs.f_tree.declared.statements.Stmt.{Stmt}
use Rattle.placing_laws.specs.f_tree.Values.{Bytes}
use Rattle.placing_laws.specs.f_tree.Setting.{IsIn, first_in, later_in}
use Rattle.placing_laws.specs.f_tree.Facts.{Facts}
use Rattle.placing_laws.specs.f_tree.Lines.{Naming, equivalence_in}
use Rattle.placing_laws.specs.f_tree.Uses.{is_among}
use Rattle.placing_laws.specs.declaration_rows.Judgement.{unless}
use Rattle.placing_laws.specs.declaration_rows.NameRows.{stood}
use Rattle.placing_laws.specs.declaration_rows.PlacingRows.{Equation, Placing, placing_by, Reached, reached_from, contradicts, first_items, extends_before, joins_other, is_joined_or_extended, is_sound, groups_settled, newly, placing_rows_from}
use Rattle.placing_laws.specs.offset_classes.Standing.{Link, Stands, AreConsistent}
use Rattle.placing_laws.proofs.offset_classes.StandsLaws.{stands_more}
use Rattle.placing_laws.specs.NamedLinks.{links_by}
use Rattle.placing_laws.proofs.Reaching.{link_in, equation_in, reached_stands, both_true, true_both, or_left, or_right, bytes_same, bytes_self}
use Rattle.placing_laws.proofs.Completed.{stands_reached}
use Rattle.placing_laws.proofs.Contradicting.{any_in, in_any, contradiction_stands, stands_contradiction, no_contradiction}
use Rattle.placing_orders.specs.PlaceRows.{place_rows}
use Rattle.placing_orders.proofs.Within.{AreWithin, firsts_within, equations_within}

-- EQUATIONS that are among others
links_within : (es fs : List Equation) → AreWithin es fs → (l : Link Bytes) → IsIn l (links_by es) → IsIn l (links_by fs)
links_within es fs within l h =
    link_in (record { one = l.one; other = l.other; by = l.by }) fs (within.each (record { one = l.one; other = l.other; by = l.by }) (equation_in l es h))

pub still_stands : (es fs : List Equation) → AreWithin es fs → (x y : Bytes) (d : ℤ) → Stands (links_by es) x y d → Stands (links_by fs) x y d
still_stands es fs within x y d h = stands_more (links_by es) (links_by fs) x y d (links_within es fs within) h

-- a contradiction stays
pub still_contradicts : (es fs : List Equation) → AreWithin es fs → contradicts es ≡ true → contradicts fs ≡ true
still_contradicts es fs within h =
    let wrong = contradiction_stands es h in
    stands_contradiction fs (record { at = wrong.at; by = wrong.by; is = still_stands es fs within wrong.at wrong.at wrong.by wrong.is; elsewhere = wrong.elsewhere })

still_reached : (es fs : List Equation) → AreWithin es fs → AreConsistent (links_by fs) → (x : Bytes) (r : Reached) → IsIn r (reached_from es x) → IsIn r (reached_from fs x)
still_reached es fs within consistent x r h =
    stands_reached fs consistent x r.name r.by (still_stands es fs within x r.name r.by (reached_stands es x r h))

still_extends : (es fs : List Equation) → AreWithin es fs → AreConsistent (links_by fs) → (x : Bytes) → extends_before es x ≡ true → extends_before fs x ≡ true
unfolding extends_before
still_extends es fs within consistent x h =
    let found = any_in (λ (r : Reached). int_lt r.by (pos 0)) (reached_from es x) h in
    in_any (λ (r : Reached). int_lt r.by (pos 0)) (reached_from fs x) found.one (still_reached es fs within consistent x found.one found.is_in) found.holds

-- tests
pub not_true : (a : Bool) → not a ≡ true → a ≡ false
not_true true h = absurd (true≢false (sym h))
not_true false h = refl

pub false_not : (a : Bool) → a ≡ false → not a ≡ true
false_not a h = ap not h

-- names in lists
among_by : (x y : Bytes) (ys : List Bytes) (test : Bool) → bytes_eq x y ≡ test → (test || is_among x ys) ≡ true → (is_among x ys ≡ true → IsIn x ys) → IsIn x (y ∷ ys)
among_by x y ys true is h later = subst (λ z. IsIn x (z ∷ ys)) (bytes_same x y is) first_in
among_by x y ys false is h later = later_in (later h)

pub among_in : (x : Bytes) (xs : List Bytes) → is_among x xs ≡ true → IsIn x xs
unfolding is_among
among_in x [] h = absurd (true≢false (sym h))
among_in x (y ∷ ys) h = among_by x y ys (bytes_eq x y) refl h (among_in x ys)

pub in_among : (x : Bytes) (xs : List Bytes) → IsIn x xs → is_among x xs ≡ true
unfolding is_among
in_among x [] h = elim h [ ]
in_among x (_ ∷ ys) first_in = or_left (bytes_eq x x) (is_among x ys) (bytes_self x)
in_among x (y ∷ ys) (later_in h) = or_right (bytes_eq x y) (is_among x ys) (in_among x ys h)

still_joins : (es fs : List Equation) (firsts more : List Bytes) → AreWithin es fs → AreWithin firsts more → AreConsistent (links_by fs) → (x : Bytes)
    → joins_other es firsts x ≡ true → joins_other fs more x ≡ true
unfolding joins_other
still_joins es fs firsts more within further consistent x h =
    let found = any_in (λ (r : Reached). is_among r.name firsts && not (bytes_eq r.name x)) (reached_from es x) h in
    let both = both_true (is_among found.one.name firsts) (not (bytes_eq found.one.name x)) found.holds in
    in_any (λ (r : Reached). is_among r.name more && not (bytes_eq r.name x)) (reached_from fs x) found.one (still_reached es fs within consistent x found.one found.is_in)
    (true_both (is_among found.one.name more) (not (bytes_eq found.one.name x))
    (in_among found.one.name more (further.each found.one.name (among_in found.one.name firsts both.0))) both.1)

either_kept : (a b c d : Bool) → (a ≡ true → c ≡ true) → (b ≡ true → d ≡ true) → (a || b) ≡ true → (c || d) ≡ true
either_kept true b c d one other h = or_left c d (one refl)
either_kept false b c d one other h = or_right c d (other h)

-- blocks that are joined or extended stay so, where nothing contradicts
pub still_joined : (p q : Placing) → AreWithin p.equations q.equations → AreWithin (first_items p.blocks) (first_items q.blocks) → contradicts q.equations ≡ false
    → is_joined_or_extended p ≡ true → is_joined_or_extended q ≡ true
unfolding is_joined_or_extended
still_joined p q within further none h =
    let consistent = no_contradiction q.equations none in
    let test = λ (x : Bytes). extends_before p.equations x || joins_other p.equations (first_items p.blocks) x in
    let found = any_in test (first_items p.blocks) h in
    in_any (λ x. extends_before q.equations x || joins_other q.equations (first_items q.blocks) x) (first_items q.blocks) found.one (further.each found.one found.is_in)
    (either_kept (extends_before p.equations found.one) (joins_other p.equations (first_items p.blocks) found.one)
    (extends_before q.equations found.one) (joins_other q.equations (first_items q.blocks) found.one)
    (still_extends p.equations q.equations within consistent found.one)
    (still_joins p.equations q.equations (first_items p.blocks) (first_items q.blocks) within further consistent found.one) found.holds)

-- WHAT HOLDS OF ALL STATEMENTS holds of those in front
not_before : (a b : Bool) → (a ≡ true → b ≡ true) → b ≡ false → a ≡ false
not_before true b h is = absurd (true≢false (sym (h refl) ∙ is))
not_before false b h is = refl

both_parts : (p : Placing) → is_sound p ≡ true → (contradicts p.equations ≡ false) × (is_joined_or_extended p ≡ false)
unfolding is_sound
both_parts p h =
    let both = both_true (not (contradicts p.equations)) (not (is_joined_or_extended p)) h in
    (not_true (contradicts p.equations) both.0, not_true (is_joined_or_extended p) both.1)

pub consistent_before : (c : Facts) (names : Naming) (ss ts : List Stmt) → contradicts (placing_by c names (ss ++ ts)).equations ≡ false
    → contradicts (placing_by c names ss).equations ≡ false
consistent_before c names ss ts h =
    not_before (contradicts (placing_by c names ss).equations) (contradicts (placing_by c names (ss ++ ts)).equations)
    (still_contradicts (placing_by c names ss).equations (placing_by c names (ss ++ ts)).equations (equations_within c names ss ts)) h

pub sound_before : (c : Facts) (names : Naming) (ss ts : List Stmt) → is_sound (placing_by c names (ss ++ ts)) ≡ true → is_sound (placing_by c names ss) ≡ true
unfolding is_sound
sound_before c names ss ts h =
    let all = both_parts (placing_by c names (ss ++ ts)) h in
    true_both (not (contradicts (placing_by c names ss).equations)) (not (is_joined_or_extended (placing_by c names ss)))
    (false_not (contradicts (placing_by c names ss).equations) (consistent_before c names ss ts all.0))
    (false_not (is_joined_or_extended (placing_by c names ss)) (not_before (is_joined_or_extended (placing_by c names ss)) (is_joined_or_extended (placing_by c names (ss ++ ts)))
    (still_joined (placing_by c names ss) (placing_by c names (ss ++ ts)) (equations_within c names ss ts) (firsts_within c names ss ts) all.0) all.1))

-- THE ROWS where the placing is sound
not_new : (before now : Bool) (kind : Kind) → now ≡ false → newly before now kind ≡ []
unfolding newly
not_new before now kind is = ap (λ t. if t && not before then kind ∷ [] else []) is

first_rows : (c : Facts) (names : Naming) (before : List Stmt) (s : Stmt) → is_sound (placing_by c names (before ++ s ∷ [])) ≡ true
    → (settled : Bool)
    → unless settled EquivalenceContradiction ++
    (newly (contradicts (placing_by c names before).equations) (contradicts (placing_by c names (before ++ s ∷ [])).equations) EquivalenceContradiction ++
    newly (contradicts (placing_by c names (before ++ s ∷ [])).equations || is_joined_or_extended (placing_by c names before))
    (is_joined_or_extended (placing_by c names (before ++ s ∷ []))) CommonJoinedOrExtended)
    ≡ unless settled EquivalenceContradiction
first_rows c names before s sound settled =
    let now = both_parts (placing_by c names (before ++ s ∷ [])) sound in
    ap (λ ks. unless settled EquivalenceContradiction ++ (ks ++
    newly (contradicts (placing_by c names (before ++ s ∷ [])).equations || is_joined_or_extended (placing_by c names before))
    (is_joined_or_extended (placing_by c names (before ++ s ∷ []))) CommonJoinedOrExtended))
    (not_new (contradicts (placing_by c names before).equations) (contradicts (placing_by c names (before ++ s ∷ [])).equations) EquivalenceContradiction now.0)
    ∙ (ap (λ ks. unless settled EquivalenceContradiction ++ ks)
    (not_new (contradicts (placing_by c names (before ++ s ∷ [])).equations || is_joined_or_extended (placing_by c names before))
    (is_joined_or_extended (placing_by c names (before ++ s ∷ []))) CommonJoinedOrExtended now.1)
    ∙ append-nil (unless settled EquivalenceContradiction))

pub sound_rows : (c : Facts) (names : Naming) (before ss : List Stmt) → is_sound (placing_by c names (before ++ ss)) ≡ true
    → placing_rows_from c names before ss ≡ place_rows c names ss
unfolding placing_rows_from place_rows
sound_rows c names before [] h = refl
sound_rows c names before (s ∷ ss) h =
    let split : (before ++ s ∷ []) ++ ss ≡ before ++ s ∷ ss = append_assoc before (s ∷ []) ss in
    let all : is_sound (placing_by c names ((before ++ s ∷ []) ++ ss)) ≡ true = ap (λ us. is_sound (placing_by c names us)) split ∙ h in
    let now = sound_before c names (before ++ s ∷ []) ss all in
    ap (λ ks. stood s ks ++ placing_rows_from c names (before ++ s ∷ []) ss) (first_rows c names before s now (groups_settled c names (equivalence_in s.body)))
    ∙ ap (λ rs. stood s (unless (groups_settled c names (equivalence_in s.body)) EquivalenceContradiction) ++ rs) (sound_rows c names (before ++ s ∷ []) ss all)
