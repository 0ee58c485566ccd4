-- The rows of labels by what the judge has of the statements before one; and the last statement of a unit.
use Rattle.std.proofs.Common.{◌≡◌, ℕ, ◌-◌, ◌<◌, Bool, true, false, not, List, [], ◌∷◌, ◌++◌, get_or, length, nat_eq, Option, Some, None, is_some, if◌then◌else◌, refl, sym, ap, ◌∙◌, arith}
use Rattle.std.proofs.lemmas.List.{append-nil}
use Rattle.std.proofs.lemmas.Grind.{get_or_tail}
use Rattle.f_tree.specs.declared.refusals.Kind.TheVariants.{LabelMissingOrTwice}
use Rattle.f_tree.specs.declared.refusals.Refusal.{Refusal}
use Rattle.f_tree.specs.declared.statements.Stmt.{Stmt}
use Rattle.f_tree.specs.Places.{has_label}
use Rattle.declaration_rows.specs.Judgement.{unless}
use Rattle.declaration_rows.specs.NameRows.{stood}
use Rattle.declaration_rows.specs.UnitRows.{is_taken, labels_rows, is_end, ends_by_end}
use Rattle.name_table.specs.declared.LabelTable.{LabelTable}
use Rattle.name_table.specs.Named.{labelled}
use Rattle.order_judge.specs.LabelSteps.{AreLabels, label_rows}

row_by : (s : Stmt) (b : Bool) → stood s (unless (not b) LabelMissingOrTwice) ≡ stood s (if b then LabelMissingOrTwice ∷ [] else [])
unfolding unless
row_by s true = refl
row_by s false = refl

pub label_row : (seen : LabelTable (Unit {0})) (before : List Stmt) (s : Stmt) (l : ℕ) (taken : Bool) (found after : List Refusal) → AreLabels seen before → s.label ≡ Some l
    → taken ≡ is_some (labelled seen l) → after ≡ found ++ stood s (unless (not taken) LabelMissingOrTwice) → after ≡ found ++ label_rows before s
unfolding label_rows
label_row seen before s l taken found after known is now put =
    put ∙ ap (λ rows. found ++ rows) (row_by s taken)
    ∙ ap (λ b. found ++ stood s (if b then LabelMissingOrTwice ∷ [] else [])) (now ∙ known.taken l ∙ ap (is_taken before) (sym is))

taken_none : (before : List Stmt) → is_taken before None ≡ false
unfolding is_taken
taken_none [] = refl
taken_none (s ∷ before) = refl

pub no_label_row : (before : List Stmt) (s : Stmt) (found : List Refusal) → s.label ≡ None → found ≡ found ++ label_rows before s
unfolding label_rows stood
no_label_row before s found is =
    sym (append-nil found) ∙ ap (λ b. found ++ stood s (if b then LabelMissingOrTwice ∷ [] else [])) (sym (ap (is_taken before) is ∙ taken_none before))

noted_by : (b : Bool) (o : Option (Unit {0})) (c : Bool) → is_some o ≡ c → is_some (if b then Some tt else o) ≡ (if b then true else c)
noted_by true o c is = refl
noted_by false o c is = is

taken_cons : (s : Stmt) (before : List Stmt) (l : ℕ) → is_taken (s ∷ before) (Some l) ≡ (if has_label s.label l then true else is_taken before (Some l))
unfolding is_taken
taken_cons s before l = refl

has_some : (k l : ℕ) → has_label (Some k) l ≡ nat_eq k l
unfolding has_label
has_some k l = refl

has_none : (l : ℕ) → has_label None l ≡ false
unfolding has_label
has_none l = refl

pub label_noted : (seen after : LabelTable (Unit {0})) (before : List Stmt) (s : Stmt) (k : ℕ) → AreLabels seen before → s.label ≡ Some k
    → ((q : ℕ) → labelled after q ≡ (if nat_eq k q then Some tt else labelled seen q)) → AreLabels after (s ∷ before)
label_noted seen after before s k known is put = record {
  taken = λ l.
      ap is_some (put l) ∙ noted_by (nat_eq k l) (labelled seen l) (is_taken before (Some l)) (known.taken l)
      ∙ sym (taken_cons s before l ∙ ap (λ b. if b then true else is_taken before (Some l)) (ap (λ o. has_label o l) is ∙ has_some k l));
}

pub no_label_noted : (seen : LabelTable (Unit {0})) (before : List Stmt) (s : Stmt) → AreLabels seen before → s.label ≡ None → AreLabels seen (s ∷ before)
no_label_noted seen before s known is = record {
  taken = λ l. known.taken l ∙ sym (taken_cons s before l ∙ ap (λ b. if b then true else is_taken before (Some l)) (ap (λ o. has_label o l) is ∙ has_none l));
}

pub labels_step : (before : List Stmt) (s : Stmt) (ss : List Stmt) → labels_rows before (s ∷ ss) ≡ label_rows before s ++ labels_rows (s ∷ before) ss
unfolding labels_rows label_rows
labels_step before s ss = refl

pub labels_none : (before : List Stmt) → labels_rows before [] ≡ []
unfolding labels_rows
labels_none before = refl

pub labels_begin : (seen : LabelTable (Unit {0})) → ((q : ℕ) → labelled seen q ≡ None) → AreLabels seen []
unfolding is_taken
labels_begin seen none = record { taken = λ l. ap is_some (none l) }

-- the last statement
pub ends_last : (ss : List Stmt) (d : Stmt) → 0 < length ss → ends_by_end ss ≡ is_end (get_or ss (length ss - 1) d).body
unfolding ends_by_end
ends_last [] d h = absurd (omega arith)
ends_last (s ∷ []) d h = refl
ends_last (s ∷ t ∷ ss) d h =
    let same : length (t ∷ ss) - 1 ≡ length (s ∷ t ∷ ss) - 1 - 1 = omega arith in
    ends_last (t ∷ ss) d (omega arith) ∙ ap (λ n. is_end (get_or (t ∷ ss) n d).body) same
    ∙ ap (λ (x : Stmt). is_end x.body) (sym (get_or_tail s (t ∷ ss) (length (s ∷ t ∷ ss) - 1) d (omega arith)))

pub ends_none : (ss : List Stmt) → length ss ≡ 0 → false ≡ ends_by_end ss
unfolding ends_by_end
ends_none [] h = refl
ends_none (s ∷ ss) h = absurd (omega arith)
