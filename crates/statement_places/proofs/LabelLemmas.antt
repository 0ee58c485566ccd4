-- The labels that branches name, as they are gathered.
use Rattle.std.proofs.Common.{◌≡◌, ℕ, ◌+◌, ◌<◌, ◌≤◌, Bool, true, false, ◌||◌, List, [], ◌∷◌, ◌++◌, drop, get_or, length, nat_eq, Option, Some, None, is_some, if◌then◌else◌, refl, sym, ap, ◌∙◌, arith}
use Rattle.std.specs.List.{list_any}
use Rattle.std.proofs.lemmas.Bool.Decides.{nat_tests}
use Rattle.std.proofs.lemmas.List.{drop_all}
use Rattle.f_tree.specs.declared.statements.Control.{Control}
use Rattle.f_tree.specs.declared.statements.Stmt.{Stmt}
use Rattle.f_tree.specs.Attributes.{from_all, first_of_two}
use Rattle.lowering.specs.Units.{is_named, label_in}
use Rattle.name_facts.specs.declared.table.NameFacts.{NameFacts}
use Rattle.name_table.specs.declared.LabelTable.{LabelTable}
use Rattle.name_table.specs.Named.{labelled}
use Rattle.statement_places.specs.NamedLabels.{label_for, label_among, control_labels, labels_of, IsLabelSet}
use Rattle.statement_places.proofs.ListLemmas.{rest_is}

-- ONE STATEMENT BEHIND ANOTHER
pub labels_step : (table : NameFacts) (s : Stmt) (ss : List Stmt) → from_all (labels_of table) (s ∷ ss) ≡ labels_of table s.body ++ from_all (labels_of table) ss
unfolding from_all
labels_step table s ss = refl

pub labels_none : (table : NameFacts) → from_all (labels_of table) [] ≡ []
unfolding from_all
labels_none table = refl

-- CONTROL WORDS
none_first : (o p : Option ℕ) → is_some o ≡ false → first_of_two o p ≡ p
unfolding first_of_two
none_first None p is = refl
none_first (Some a) p is = absurd (cc)

some_first : (o p : Option ℕ) → is_some o ≡ true → o ≡ first_of_two o p
unfolding first_of_two
some_first (Some a) p is = refl
some_first None p is = absurd (cc)

among_step : (at_end : Bool) (c : Control) (cs : List Control) → label_among at_end (c ∷ cs) ≡ first_of_two (label_for at_end c.word c.value) (label_among at_end cs)
unfolding label_among
among_step at_end c cs = refl

among_here : (at_end : Bool) (cs : List Control) (i : ℕ) (c d : Control) (whole : Option ℕ) → i < length cs → c ≡ get_or cs i d → whole ≡ label_among at_end (drop i cs)
    → whole ≡ first_of_two (label_for at_end c.word c.value) (label_among at_end (drop (i + 1) cs))
among_here at_end cs i c d whole h is so_far = so_far ∙ ap (label_among at_end) (rest_is cs i c d h is) ∙ among_step at_end c (drop (i + 1) cs)

pub among_found : (at_end : Bool) (cs : List Control) (i : ℕ) (c d : Control) (label whole : Option ℕ) → i < length cs → c ≡ get_or cs i d → whole ≡ label_among at_end (drop i cs)
    → label ≡ label_for at_end c.word c.value → is_some label ≡ true → label ≡ whole
among_found at_end cs i c d label whole h is so_far now there =
    some_first label (label_among at_end (drop (i + 1) cs)) there ∙ ap (λ o. first_of_two o (label_among at_end (drop (i + 1) cs))) now ∙ sym (among_here at_end cs i c d whole h is so_far)

pub among_more : (at_end : Bool) (cs : List Control) (i : ℕ) (c d : Control) (label whole : Option ℕ) → i < length cs → c ≡ get_or cs i d → whole ≡ label_among at_end (drop i cs)
    → label ≡ label_for at_end c.word c.value → is_some label ≡ false → whole ≡ label_among at_end (drop (i + 1) cs)
among_more at_end cs i c d label whole h is so_far now none =
    among_here at_end cs i c d whole h is so_far ∙ none_first (label_for at_end c.word c.value) (label_among at_end (drop (i + 1) cs)) (ap is_some (sym now) ∙ none)

among_none : (at_end : Bool) → label_among at_end [] ≡ None
unfolding label_among
among_none at_end = refl

pub among_end : (at_end : Bool) (cs : List Control) (i : ℕ) (whole : Option ℕ) → length cs ≤ i → whole ≡ label_among at_end (drop i cs) → None ≡ whole
among_end at_end cs i whole h so_far = sym (so_far ∙ ap (label_among at_end) (drop_all i cs h) ∙ among_none at_end)

-- A SET OF LABELS
put_by : (b c : Bool) (o : Option (Unit {0})) → b ≡ c → is_some (if b then Some tt else o) ≡ (is_some o || c)
put_by true true None is = refl
put_by true true (Some tt) is = refl
put_by false false None is = refl
put_by false false (Some tt) is = refl
put_by true false o is = absurd (cc)
put_by false true o is = absurd (cc)

turned : (k l : ℕ) → nat_eq k l ≡ nat_eq l k
turned k l = grind (arith, nat_tests)

or_along : (a b c : Bool) → ((a || b) || c) ≡ (a || (b || c))
or_along true b c = refl
or_along false b c = refl

or_none : (b : Bool) → (b || false) ≡ b
or_none true = refl
or_none false = refl

pub set_begin : (labels : List ℕ) (l : ℕ) (o : Option (Unit {0})) → o ≡ None → (is_some o || list_any (nat_eq l) labels) ≡ list_any (nat_eq l) labels
set_begin labels l o is = ap (λ p. is_some p || list_any (nat_eq l) labels) is

pub set_more : (labels : List ℕ) (i l k d : ℕ) (old after : Option (Unit {0})) (whole : Bool) → i < length labels → k ≡ get_or labels i d
    → (is_some old || list_any (nat_eq l) (drop i labels)) ≡ whole → after ≡ (if nat_eq k l then Some tt else old)
    → (is_some after || list_any (nat_eq l) (drop (i + 1) labels)) ≡ whole
set_more labels i l k d old after whole h is so_far put =
    ap (λ b. b || list_any (nat_eq l) (drop (i + 1) labels)) (ap is_some put ∙ put_by (nat_eq k l) (nat_eq l k) old (turned k l))
    ∙ or_along (is_some old) (nat_eq l k) (list_any (nat_eq l) (drop (i + 1) labels)) ∙ ap (λ ls. is_some old || list_any (nat_eq l) ls) (sym (rest_is labels i k d h is)) ∙ so_far

pub set_end : (labels : List ℕ) (i l : ℕ) (b whole : Bool) → length labels ≤ i → (b || list_any (nat_eq l) (drop i labels)) ≡ whole → b ≡ whole
set_end labels i l b whole h so_far = sym (or_none b) ∙ ap (λ ls. b || list_any (nat_eq l) ls) (sym (drop_all i labels h)) ∙ so_far

-- IS A LABEL NAMED
pub named_some : (labels : List ℕ) (set : LabelTable (Unit {0})) (label : Option ℕ) (l : ℕ) → label ≡ Some l → IsLabelSet labels set → is_some (labelled set l) ≡ is_named labels label
unfolding is_named
named_some labels set label l is known = known.has l ∙ ap (is_named labels) (sym is)

pub named_none : (labels : List ℕ) (label : Option ℕ) → label ≡ None → false ≡ is_named labels label
unfolding is_named
named_none labels label is = ap (is_named labels) (sym is)

-- what stands behind ERR and END
pub control_labels_are : (cs : List Control) (one other : Option ℕ) → one ≡ label_among false cs → other ≡ label_among true cs → label_in one ++ label_in other ≡ control_labels cs
unfolding control_labels
control_labels_are cs one other first second = ap (λ o. label_in o ++ label_in other) first ∙ ap (λ o. label_in (label_among false cs) ++ label_in o) second
