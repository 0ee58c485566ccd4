-- Where labels stand, and which of them loops name, as tables are filled.
use Rattle.std.proofs.Common.{◌≡◌, ℕ, suc, ◌+◌, ◌<◌, ◌≤◌, Bool, true, false, ◌||◌, List, [], ◌∷◌, ◌++◌, drop, get_or, length, nat_eq, Option, Some, None, is_some, if◌then◌else◌, refl, sym, ap, ◌∙◌, arith}
use Rattle.std.specs.List.{list_any}
use Rattle.std.proofs.lemmas.Bool.Decides.{nat_tests}
use Rattle.std.proofs.lemmas.List.{drop_more, drop_all}
use Rattle.std.proofs.lemmas.List.Folds.{list_any-append}
use Rattle.f_tree.specs.declared.statements.Stmt.{Stmt}
use Rattle.f_tree.specs.Places.{has_label}
use Rattle.f_tree.specs.Attributes.{first_of_two, from_all, option_list}
use Rattle.f_tree.specs.Lines.{loop_label_in, is_loop_label}
use Rattle.name_table.specs.declared.LabelTable.{LabelTable}
use Rattle.name_table.specs.Named.{labelled}
use Rattle.loop_ranges.specs.LoopForms.{form_of, named_label}
use Rattle.loop_ranges.specs.LoopEnds.{labelled_at, named_among, AreNamed}
use Rattle.loop_ranges.proofs.FormLemmas.{label_by_form}
use Rattle.loop_ranges.proofs.Conditions.{or_none, or_along, equal_by}

-- PLACES
has_some : (k l : ℕ) → has_label (Some k) l ≡ nat_eq k l
unfolding has_label
has_some k l = refl

has_none : (l : ℕ) → has_label None l ≡ false
unfolding has_label
has_none l = refl

label_is : (label : Option ℕ) (k l : ℕ) → label ≡ Some k → has_label label l ≡ nat_eq k l
label_is label k l is = ap (λ o. has_label o l) is ∙ has_some k l

first_none : {A : Type 0} (o : Option A) → first_of_two o None ≡ o
unfolding first_of_two
first_none None = refl
first_none (Some a) = refl

-- no label, none more
pub place_none : (o : Option ℕ) (label : Option ℕ) (l place : ℕ) → label ≡ None → o ≡ first_of_two o (if has_label label l then Some place else None)
place_none o label l place is = sym (ap (λ b. first_of_two o (if b then Some place else None)) (ap (λ k. has_label k l) is ∙ has_none l) ∙ first_none o)

-- a label that has a place keeps it
kept_by : (b : Bool) (o : Option ℕ) (place : ℕ) → (b ≡ true → is_some o ≡ true) → o ≡ first_of_two o (if b then Some place else None)
unfolding first_of_two
kept_by b (Some old) place there = refl
kept_by false None place there = refl
kept_by true None place there = absurd (let e = there refl in cc)

new_by : (b : Bool) (o : Option ℕ) (place : ℕ) → (b ≡ true → o ≡ None) → (if b then Some place else o) ≡ first_of_two o (if b then Some place else None)
unfolding first_of_two
new_by true None place none = refl
new_by true (Some old) place none = absurd (let e = none refl in cc)
new_by false None place none = refl
new_by false (Some old) place none = refl

pub kept_at : (at : ℕ → Option ℕ) (k q place old : ℕ) → at k ≡ Some old → at q ≡ first_of_two (at q) (if nat_eq k q then Some place else None)
kept_at at k q place old there = kept_by (nat_eq k q) (at q) place (λ h. ap is_some (sym (ap at (equal_by k q h)) ∙ there))

pub put_at : (at after : ℕ → Option ℕ) (k q place : ℕ) → at k ≡ None → ((l : ℕ) → after l ≡ (if nat_eq k l then Some place else at l))
    → after q ≡ first_of_two (at q) (if nat_eq k q then Some place else None)
put_at at after k q place none put = put q ∙ new_by (nat_eq k q) (at q) place (λ h. sym (ap at (equal_by k q h)) ∙ none)

pub place_noted : (old after : Option ℕ) (label : Option ℕ) (k l place : ℕ) → label ≡ Some k → after ≡ first_of_two old (if nat_eq k l then Some place else None)
    → after ≡ first_of_two old (if has_label label l then Some place else None)
place_noted old after label k l place is put = put ∙ ap (λ b. first_of_two old (if b then Some place else None)) (sym (label_is label k l is))

-- what is known so far, before what the statements from a place on tell
pub places_begin : (o : Option ℕ) (rest : Option ℕ) → o ≡ None → first_of_two o rest ≡ rest
unfolding first_of_two
places_begin o rest is = ap (λ p. first_of_two p rest) is

two_first : (o : Option ℕ) (b : Bool) (here rest : Option ℕ) → first_of_two (first_of_two o (if b then here else None)) rest ≡ first_of_two o (if b then first_of_two here rest else rest)
unfolding first_of_two
two_first (Some a) b here rest = refl
two_first None true here rest = refl
two_first None false here rest = refl

labelled_step : (i : ℕ) (s : Stmt) (ss : List Stmt) (l : ℕ) → labelled_at i (s ∷ ss) l ≡ (if has_label s.label l then Some i else labelled_at (i + 1) ss l)
unfolding labelled_at
labelled_step i s ss l = ap (λ n. if has_label s.label l then Some i else labelled_at n ss l) (let e : suc i ≡ i + 1 = omega arith in e)

labelled_end : (i l : ℕ) → labelled_at i [] l ≡ None
unfolding labelled_at
labelled_end i l = refl

some_first : (i : ℕ) (rest : Option ℕ) → first_of_two (Some i) rest ≡ Some i
unfolding first_of_two
some_first i rest = refl

pub places_more : (ss : List Stmt) (i l : ℕ) (label : Option ℕ) (d : Stmt) (old after whole : Option ℕ) → i < length ss → label ≡ (get_or ss i d).label
    → first_of_two old (labelled_at i (drop i ss) l) ≡ whole → after ≡ first_of_two old (if has_label label l then Some i else None)
    → first_of_two after (labelled_at (i + 1) (drop (i + 1) ss) l) ≡ whole
places_more ss i l label d old after whole h is so_far put =
    ap (λ o. first_of_two o (labelled_at (i + 1) (drop (i + 1) ss) l)) put
    ∙ two_first old (has_label label l) (Some i) (labelled_at (i + 1) (drop (i + 1) ss) l)
    ∙ ap (λ o. first_of_two old (if has_label label l then o else labelled_at (i + 1) (drop (i + 1) ss) l)) (some_first i (labelled_at (i + 1) (drop (i + 1) ss) l))
    ∙ ap (λ k. first_of_two old (if has_label k l then Some i else labelled_at (i + 1) (drop (i + 1) ss) l)) is
    ∙ ap (first_of_two old) (sym (labelled_step i (get_or ss i d) (drop (i + 1) ss) l) ∙ ap (λ t. labelled_at i t l) (sym (drop_more ss i d h)))
    ∙ so_far

pub places_end : (ss : List Stmt) (i l : ℕ) (o whole : Option ℕ) → length ss ≤ i → first_of_two o (labelled_at i (drop i ss) l) ≡ whole → o ≡ whole
places_end ss i l o whole h so_far =
    sym (first_none o) ∙ ap (first_of_two o) (sym (ap (λ t. labelled_at i t l) (drop_all i ss h) ∙ labelled_end i l)) ∙ so_far

-- NAMED LABELS
named_by : (b c : Bool) (o : Option (Unit {0})) → b ≡ c → is_some (if b then Some tt else o) ≡ (is_some o || (c || false))
named_by true true None is = refl
named_by true true (Some tt) is = refl
named_by false false None is = refl
named_by false false (Some tt) is = refl
named_by true false o is = absurd (cc)
named_by false true o is = absurd (cc)

turned : (k l : ℕ) → nat_eq k l ≡ nat_eq l k
turned k l = grind (arith, nat_tests)

named_put : (k l : ℕ) (old after : Option (Unit {0})) → after ≡ (if nat_eq k l then Some tt else old) → is_some after ≡ (is_some old || list_any (nat_eq l) (k ∷ []))
named_put k l old after put = ap is_some put ∙ named_by (nat_eq k l) (nat_eq l k) old (turned k l)

pub named_some : (label : Option ℕ) (k l : ℕ) (old after : Option (Unit {0})) → label ≡ Some k → after ≡ (if nat_eq k l then Some tt else old)
    → is_some after ≡ (is_some old || list_any (nat_eq l) (option_list label))
unfolding option_list
named_some label k l old after is put = named_put k l old after put ∙ ap (λ o. is_some old || list_any (nat_eq l) (option_list o)) (sym is)

pub named_none : (label : Option ℕ) (l : ℕ) (b : Bool) → label ≡ None → b ≡ (b || list_any (nat_eq l) (option_list label))
unfolding option_list
named_none label l b is = sym (ap (λ o. b || list_any (nat_eq l) (option_list o)) is ∙ or_none b)

from_step : (s : Stmt) (ss : List Stmt) → from_all loop_label_in (s ∷ ss) ≡ named_label (form_of s.body) ++ from_all loop_label_in ss
unfolding from_all
from_step s ss = ap (λ ls. ls ++ from_all loop_label_in ss) (label_by_form s.body)

from_none : from_all loop_label_in [] ≡ []
unfolding from_all
from_none = refl

pub named_begin : (l : ℕ) (o : Option (Unit {0})) (b : Bool) → o ≡ None → (is_some o || b) ≡ b
named_begin l o b is = ap (λ p. is_some p || b) is

pub named_more : (ss : List Stmt) (i l : ℕ) (s d : Stmt) (old after whole : Bool) → i < length ss → s ≡ get_or ss i d
    → (old || list_any (nat_eq l) (from_all loop_label_in (drop i ss))) ≡ whole → after ≡ (old || list_any (nat_eq l) (named_label (form_of s.body)))
    → (after || list_any (nat_eq l) (from_all loop_label_in (drop (i + 1) ss))) ≡ whole
named_more ss i l s d old after whole h is so_far put =
    ap (λ b. b || list_any (nat_eq l) (from_all loop_label_in (drop (i + 1) ss))) put
    ∙ or_along old (list_any (nat_eq l) (named_label (form_of s.body))) (list_any (nat_eq l) (from_all loop_label_in (drop (i + 1) ss)))
    ∙ ap (λ b. old || b)
    (sym (list_any-append (nat_eq l) (named_label (form_of s.body)) (from_all loop_label_in (drop (i + 1) ss)))
    ∙ ap (list_any (nat_eq l))
    (sym (from_step s (drop (i + 1) ss)) ∙ ap (λ t. from_all loop_label_in (t ∷ drop (i + 1) ss)) is ∙ ap (from_all loop_label_in) (sym (drop_more ss i d h))))
    ∙ so_far

pub named_end : (ss : List Stmt) (i l : ℕ) (b whole : Bool) → length ss ≤ i → (b || list_any (nat_eq l) (from_all loop_label_in (drop i ss))) ≡ whole → b ≡ whole
named_end ss i l b whole h so_far =
    sym (or_none b) ∙ ap (λ c. b || c) (sym (ap (list_any (nat_eq l)) (ap (from_all loop_label_in) (drop_all i ss h) ∙ from_none))) ∙ so_far

named_has : (table : LabelTable (Unit {0})) (ss : List Stmt) → ((l : ℕ) → is_some (labelled table l) ≡ list_any (nat_eq l) (from_all loop_label_in ss)) → (label : Option ℕ)
    → named_among table label ≡ is_loop_label (from_all loop_label_in ss) label
unfolding named_among is_loop_label
named_has table ss known None = refl
named_has table ss known (Some l) = known l

pub are_named : (table : LabelTable (Unit {0})) (ss : List Stmt) → ((l : ℕ) → is_some (labelled table l) ≡ list_any (nat_eq l) (from_all loop_label_in ss)) → AreNamed table ss
are_named table ss known = record { has = named_has table ss known }
