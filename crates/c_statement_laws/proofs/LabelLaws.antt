-- The labels of statements, and how long those that are named can still meet.
use Rattle.std.proofs.Common.{◌≡◌, refl, sym, ap, ◌∙◌, subst, ℕ, ◌+◌, ◌≤◌, nat_le, leb-true, le-leb, Bool, true, false, not, ◌&&◌, ◌||◌, List, [], ◌∷◌, ◌++◌, append_assoc, append-nil, length, length-append, map, filter, bytes_eq, Option, Some, None, if◌then◌else◌, arith}
use Rattle.std.specs.List.{list_all}
use Rattle.std.proofs.lemmas.Bool.{and_from, or_left, or_right}
use Rattle.std.proofs.lemmas.List.Elements.{filter-append}
use Rattle.std.proofs.lemmas.List.Folds.{list_all-append, list_any-append}
use Rattle.c_grammar_laws.specs.c_tree.declared.expression.CExpr.{CExpr}
use Rattle.c_grammar_laws.specs.c_tree.declared.expression.CCall.{CCall}
use Rattle.c_grammar_laws.specs.c_tree.declared.statement.CCase.{CCase}
use Rattle.c_grammar_laws.specs.c_tree.declared.statement.CNext.{CNext}
use Rattle.c_grammar_laws.specs.c_tree.declared.statement.CStmt.{CStmt}
use Rattle.c_grammar_laws.specs.c_tree.declared.statement.CStmt.TheVariants as form
use Rattle.c_grammar_laws.specs.c_tree.CWords.{is_among, is_name}
use Rattle.c_grammar_laws.specs.c_tree.CLabels.{LabelsOf, no_label, both, standing, labels_of, labels_of_all}
use Rattle.c_grammar_laws.specs.c_tree.Opened.{trees_opened}
use Rattle.c_grammar_laws.proofs.TokenGood.{equal-texts, equal-self}
use Rattle.c_statement_readers.specs.LabelTests.{may_be_named, can_meet, may_stand, with_label}

-- ## The labels of each form

pub labels-block : (ss : List CStmt) → labels_of (form.Block ss) ≡ labels_of_all ss
unfolding trees_opened
labels-block [] = refl
labels-block (first ∷ later) = ap (both (labels_of first)) (labels-block later)

pub labels-label : (name : List ℕ) (s : CStmt) → labels_of (form.Label name s) ≡ standing name (labels_of s)
unfolding trees_opened
labels-label name s = refl

pub labels-if : (test : CExpr) (first : List CStmt) → labels_of (form.If test first None) ≡ both (labels_of_all first) no_label
unfolding trees_opened
labels-if test first = ap (λ l. both l no_label) (labels-block first)

pub labels-if-else : (test : CExpr) (first second : List CStmt) → labels_of (form.If test first (Some second)) ≡ both (labels_of_all first) (labels_of_all second)
unfolding trees_opened
labels-if-else test first second = λ i. both (labels-block first i) (labels-block second i)

pub labels-for : (target first test : CExpr) (next : CNext) (inner : List CStmt) → labels_of (form.For target first test next inner) ≡ labels_of_all inner
unfolding trees_opened
labels-for target first test next inner = labels-block inner

pub labels-do : (inner : List CStmt) (test : CExpr) → labels_of (form.DoWhile inner test) ≡ labels_of_all inner
unfolding trees_opened
labels-do inner test = labels-block inner

-- labels that are named
abbrev pub naming : List (List ℕ) → LabelsOf
naming names = record { stand = []; named = names }

pub labels-goto : (label : List ℕ) → labels_of (form.Goto label) ≡ naming (label ∷ [])
unfolding trees_opened
labels-goto label = refl

abbrev pub case_labels : List CCase → List (List ℕ)
case_labels cases = map (λ (case : CCase). case.label) cases

pub labels-switch : (test : CExpr) (cases : List CCase) → labels_of (form.Switch test cases) ≡ naming (case_labels cases)
unfolding trees_opened
labels-switch test cases = refl

-- forms with no label
pub labels-set : (target e : CExpr) → labels_of (form.Set target e) ≡ no_label
unfolding trees_opened
labels-set target e = refl

pub labels-set-call : (target : CExpr) (call : CCall) → labels_of (form.SetCall target call) ≡ no_label
unfolding trees_opened
labels-set-call target call = refl

pub labels-call : (call : CCall) → labels_of (form.Call call) ≡ no_label
unfolding trees_opened
labels-call call = refl

pub labels-empty : labels_of form.Empty ≡ no_label
unfolding trees_opened
labels-empty = refl

pub labels-return : (value : Option CExpr) → labels_of (form.Return value) ≡ no_label
unfolding trees_opened
labels-return value = refl

pub labels-return-call : (call : CCall) → labels_of (form.ReturnCall call) ≡ no_label
unfolding trees_opened
labels-return-call call = refl

-- ## Labels together

pub both-assoc : (a b c : LabelsOf) → both (both a b) c ≡ both a (both b c)
both-assoc a b c = λ i. record { stand = append_assoc a.stand b.stand c.stand i; named = append_assoc a.named b.named c.named i }

pub both-none : (a : LabelsOf) → both a no_label ≡ a
both-none a = λ i. record { stand = append-nil a.stand i; named = append-nil a.named i }

-- ## Tests of lists

pub all-at : (q : List ℕ → Bool) (name : List ℕ) (names : List (List ℕ)) → list_all q names ≡ true → is_among name names ≡ true → q name ≡ true
all-at q name [] h m = absurd (let e : false ≡ true = m in cc)
all-at q name (first ∷ names) h m = by (bytes_eq name first) refl (q first) refl (λ k g. all-at q name names k g)
  where
    by : (same : Bool) → bytes_eq name first ≡ same → (passes : Bool) → q first ≡ passes
        → (list_all q names ≡ true → is_among name names ≡ true → q name ≡ true) → q name ≡ true
    by true e true k later = ap q (equal-texts name first e) ∙ k
    by same e false k later = absurd (let z : false ≡ true = sym (ap (λ t. t && list_all q names) k) ∙ h in cc)
    by false e true k later = later (sym (ap (λ t. t && list_all q names) k) ∙ h) (sym (ap (λ t. t || is_among name names) e) ∙ m)

pub all-each : (q : List ℕ → Bool) (names : List (List ℕ)) → ((name : List ℕ) → is_among name names ≡ true → q name ≡ true) → list_all q names ≡ true
all-each q [] each = refl
all-each q (first ∷ names) each =
    ap (λ z. z && list_all q names) (each first (ap (λ z. z || is_among first names) (equal-self first)))
    ∙ all-each q names (λ name m. each name (or_right (bytes_eq name first) (is_among name names) m))

-- ## How often a label stands

abbrev pub times : List ℕ → List (List ℕ) → ℕ
times label stand = length (filter (bytes_eq label) stand)

pub times-append : (label : List ℕ) (one other : List (List ℕ)) → times label (one ++ other) ≡ times label one + times label other
times-append label one other =
    ap length (filter-append (bytes_eq label) one other) ∙ length-append (filter (bytes_eq label) one) (filter (bytes_eq label) other)

pub absent-times : (label : List ℕ) (stand : List (List ℕ)) → is_among label stand ≡ false → times label stand ≡ 0
absent-times label [] h = refl
absent-times label (first ∷ stand) h = by (bytes_eq label first) refl (λ k. absent-times label stand k)
  where
    by : (same : Bool) → bytes_eq label first ≡ same → (is_among label stand ≡ false → times label stand ≡ 0) → times label (first ∷ stand) ≡ 0
    by true e later = absurd (let z : true ≡ false = sym (ap (λ t. t || is_among label stand) e) ∙ h in cc)
    by false e later =
        ap (λ (t : Bool). length (if t then first ∷ filter (bytes_eq label) stand else filter (bytes_eq label) stand)) e
        ∙ later (sym (ap (λ t. t || is_among label stand) e) ∙ h)

pub among-times : (label : List ℕ) (stand : List (List ℕ)) → is_among label stand ≡ true → 1 ≤ times label stand
among-times label [] h = absurd (let e : false ≡ true = h in cc)
among-times label (first ∷ stand) h = by (bytes_eq label first) refl (λ k. among-times label stand k)
  where
    by : (same : Bool) → bytes_eq label first ≡ same → (is_among label stand ≡ true → 1 ≤ times label stand) → 1 ≤ times label (first ∷ stand)
    by true e later =
        subst (λ n. 1 ≤ n)
        (sym (ap (λ (t : Bool). length (if t then first ∷ filter (bytes_eq label) stand else filter (bytes_eq label) stand)) e)) (omega arith)
    by false e later =
        subst (λ n. 1 ≤ n)
        (sym (ap (λ (t : Bool). length (if t then first ∷ filter (bytes_eq label) stand else filter (bytes_eq label) stand)) e))
        (later (sym (ap (λ t. t || is_among label stand) e) ∙ h))

own-times : (label : List ℕ) → times label (label ∷ []) ≡ 1
own-times label = ap (λ (t : Bool). length (if t then label ∷ [] else [])) (equal-self label)

other-times : (label other : List ℕ) → bytes_eq label other ≡ false → times label (other ∷ []) ≡ 0
other-times label other h = ap (λ (t : Bool). length (if t then other ∷ [] else [])) h

-- ## A label that may be named

pub record Namable (stand : List (List ℕ)) (label : List ℕ) : Type 0 where
  pub named : is_name label ≡ true
  pub few : times label stand ≤ 1

pub both-true : (a b : Bool) → (a && b) ≡ true → (a ≡ true) × (b ≡ true)
both-true true b h = (refl, h)
both-true false b h = absurd (let e : false ≡ true = h in cc)

pub namable : (stand : List (List ℕ)) (label : List ℕ) → may_be_named stand label ≡ true → Namable stand label
namable stand label h =
    let k = both-true (is_name label) (nat_le (times label stand) 1) h in record { named = k.0; few = leb-true (times label stand) 1 k.1 }

pub may-be-named : (stand : List (List ℕ)) (label : List ℕ) → Namable stand label → may_be_named stand label ≡ true
may-be-named stand label n = and_from (is_name label) (nat_le (times label stand) 1) n.named (le-leb (times label stand) 1 n.few)

-- ## Labels that can meet

-- those before can meet where all can
pub can-front : (x y : LabelsOf) → can_meet (both x y) ≡ true → can_meet x ≡ true
can-front x y h =
    all-each (may_be_named x.stand) x.named
    (λ name m.
    let n = namable (x.stand ++ y.stand) name
    (all-at (may_be_named (x.stand ++ y.stand)) name (x.named ++ y.named) h (list_any-append (bytes_eq name) x.named y.named ∙ or_left (is_among name x.named) (is_among name y.named) m)) in
    let few = n.few in
    let sum = times-append name x.stand y.stand in
    may-be-named x.stand name (record { named = n.named; few = omega (arith, few, sum) }))

pub can-naming : (before : LabelsOf) (names : List (List ℕ)) → can_meet (both before (naming names)) ≡ (can_meet before && list_all (may_be_named before.stand) names)
can-naming before names =
    ap (λ z. list_all (may_be_named z) (before.named ++ names)) (append-nil before.stand) ∙ list_all-append (may_be_named before.stand) before.named names

pub can-name : (before : LabelsOf) (names : List (List ℕ)) → can_meet before ≡ true → list_all (may_be_named before.stand) names ≡ true
    → can_meet (both before (naming names)) ≡ true
can-name before names one other = can-naming before names ∙ and_from (can_meet before) (list_all (may_be_named before.stand) names) one other

pub names-can : (before : LabelsOf) (names : List (List ℕ)) → can_meet (both before (naming names)) ≡ true → list_all (may_be_named before.stand) names ≡ true
names-can before names h = (both-true (can_meet before) (list_all (may_be_named before.stand) names) (sym (can-naming before names) ∙ h)).1

-- a statement with no label
pub can-none : (before : LabelsOf) (one : CStmt) → labels_of one ≡ no_label → can_meet before ≡ true → can_meet (both before (labels_of one)) ≡ true
can-none before one none h = ap (λ z. can_meet (both before z)) none ∙ (ap can_meet (both-none before) ∙ h)

-- a label that may stand
pub record Standable (before : LabelsOf) (label : List ℕ) : Type 0 where
  pub named : is_name label ≡ true
  pub once : is_among label before.named ≡ true → is_among label before.stand ≡ false

once-by : (here there : Bool) → not (here && there) ≡ true → here ≡ true → there ≡ false
once-by true true h k = absurd (let e : false ≡ true = h in cc)
once-by true false h k = refl
once-by false there h k = absurd (let e : false ≡ true = k in cc)

pub standable : (before : LabelsOf) (label : List ℕ) → may_stand before label ≡ true → Standable before label
standable before label h =
    let k = both-true (is_name label) (not (is_among label before.named && is_among label before.stand)) h in
    record { named = k.0; once = once-by (is_among label before.named) (is_among label before.stand) k.1 }

by-once : (here there : Bool) → (here ≡ true → there ≡ false) → not (here && there) ≡ true
by-once true there h = ap not (h refl)
by-once false there h = refl

pub may-stand : (before : LabelsOf) (label : List ℕ) → Standable before label → may_stand before label ≡ true
may-stand before label s =
    and_from (is_name label) (not (is_among label before.named && is_among label before.stand)) s.named (by-once (is_among label before.named) (is_among label before.stand) s.once)

-- it can stand
pub can-stand : (before : LabelsOf) (label : List ℕ) → can_meet before ≡ true → Standable before label → can_meet (with_label before label) ≡ true
can-stand before label h s =
    subst (λ z. list_all (may_be_named (before.stand ++ (label ∷ []))) z ≡ true) (sym (append-nil before.named))
    (all-each (may_be_named (before.stand ++ (label ∷ []))) before.named
    (λ name m. may-be-named (before.stand ++ (label ∷ [])) name (each name m (namable before.stand name (all-at (may_be_named before.stand) name before.named h m)))))
  where
    by : (name : List ℕ) → is_among name before.named ≡ true → times name before.stand ≤ 1 → (same : Bool) → bytes_eq name label ≡ same
        → times name before.stand + times name (label ∷ []) ≤ 1
    by name m few true e =
        let is : name ≡ label = equal-texts name label e in
        let none : times name before.stand ≡ 0 = absent-times name before.stand (subst (λ z. is_among z before.stand ≡ false) (sym is) (s.once (subst (λ z. is_among z before.named ≡ true) is m))) in
        let one : times name (label ∷ []) ≡ 1 = subst (λ z. times z (label ∷ []) ≡ 1) (sym is) (own-times label) in
        omega (arith, none, one)
    by name m few false e = let none : times name (label ∷ []) ≡ 0 = other-times name label e in omega (arith, none, few)

    each : (name : List ℕ) → is_among name before.named ≡ true → Namable before.stand name → Namable (before.stand ++ (label ∷ [])) name
    each name m n =
        let sum = times-append name before.stand (label ∷ []) in
        let few = by name m n.few (bytes_eq name label) refl in
        record { named = n.named; few = omega (arith, sum, few) }

-- and what can stand may stand
pub stands-may : (before : LabelsOf) (label : List ℕ) → is_name label ≡ true → can_meet (with_label before label) ≡ true → may_stand before label ≡ true
stands-may before label name h = may-stand before label (record { named = name; once = λ m. by m (is_among label before.stand) refl })
  where
    by : is_among label before.named ≡ true → (there : Bool) → is_among label before.stand ≡ there → there ≡ false
    by m false e = refl
    by m true e =
        let n = namable (before.stand ++ (label ∷ [])) label
        (all-at (may_be_named (before.stand ++ (label ∷ []))) label (before.named ++ []) h (ap (is_among label) (append-nil before.named) ∙ m)) in
        let few = n.few in
        let sum = times-append label before.stand (label ∷ []) in
        let one = own-times label in
        let some = among-times label before.stand e in
        absurd (omega (arith, few, sum, one, some))
