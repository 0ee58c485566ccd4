-- The labels of a unit, gone over from its last statement to its first.
use Rattle.std.proofs.Common.{◌≡◌, ℕ, zero, suc, ◌+◌, ◌-◌, ◌<◌, ◌≤◌, Bool, true, false, ◌||◌, List, [], ◌∷◌, ◌++◌, drop, drop-cons, get_or, length, nat_eq, Option, Some, None, slice_get, if◌then◌else◌, refl, sym, ap, ◌∙◌, arith}
use Rattle.std.proofs.lemmas.List.{drop_all}
use Rattle.f_tree.specs.declared.names.Options.{Options}
use Rattle.f_tree.specs.declared.statements.Stmt.{Stmt}
use Rattle.f_tree.specs.declared.units.Unit.{Unit as WrittenUnit}
use Rattle.f_tree.specs.Facts.{LabelledFormat}
use Rattle.f_tree.specs.Places.{has_label, place_of_label}
use Rattle.f_tree.specs.Transfers.{labelled_text}
use Rattle.f_tree.specs.Values.{Gives}
use Rattle.f_tree.specs.WellFormed.{is_given}
use Rattle.f_tree.specs.Lines.{format_in, formats_of, unit_read}
use Rattle.declaration_rows.specs.UnitRows.{may_be_entered, such_statement, such_at}
use Rattle.loop_ranges.specs.LoopEnds.{labelled_at}
use Rattle.loop_ranges.proofs.EndLemmas.{label_places}
use Rattle.statements_judge.specs.UnitLabels.{is_entered, is_format_label, has_format}

-- A LABEL THAT MAY BE THERE
label_is : (label : Option ℕ) (k l : ℕ) → label ≡ Some k → has_label label l ≡ nat_eq k l
unfolding has_label
label_is label k l is = ap (λ o. has_label o l) is

label_none : (label : Option ℕ) (l : ℕ) → label ≡ None → has_label label l ≡ false
unfolding has_label
label_none label l is = ap (λ o. has_label o l) is

pub added_some : (label : Option ℕ) (k l : ℕ) (old new : Bool) → label ≡ Some k → new ≡ (nat_eq k l || old) → new ≡ (has_label label l || old)
added_some label k l old new is put = put ∙ ap (λ b. b || old) (sym (label_is label k l is))

pub added_none : (label : Option ℕ) (l : ℕ) (old : Bool) → label ≡ None → old ≡ (has_label label l || old)
added_none label l old is = sym (ap (λ b. b || old) (label_none label l is))

pub removed_some : (label : Option ℕ) (k l : ℕ) (old new : Bool) → label ≡ Some k → new ≡ (if nat_eq k l then false else old)
    → new ≡ (if has_label label l then false else old)
removed_some label k l old new is put = put ∙ ap (λ b. if b then false else old) (sym (label_is label k l is))

pub removed_none : (label : Option ℕ) (l : ℕ) (old : Bool) → label ≡ None → old ≡ (if has_label label l then false else old)
removed_none label l old is = sym (ap (λ b. if b then false else old) (label_none label l is))

-- ONE STATEMENT
pub entered_by : (b may : Bool) (old new : Bool) → may ≡ true → new ≡ (b || old) → new ≡ (if b then may else old)
entered_by true may old new is put = put ∙ sym is
entered_by false may old new is put = put

pub passed_by : (b may : Bool) (old new : Bool) → may ≡ false → new ≡ (if b then false else old) → new ≡ (if b then may else old)
passed_by true may old new is put = put ∙ sym is
passed_by false may old new is put = put

-- FROM THE LAST STATEMENT TO THE FIRST
behind_is : (ss : List Stmt) (i : ℕ) (s d : Stmt) → i < length ss → s ≡ get_or ss (length ss - 1 - i) d → drop (length ss - (i + 1)) ss ≡ s ∷ drop (length ss - i) ss
behind_is ss i s d h is =
    let same : length ss - 1 - i ≡ length ss - (i + 1) = omega arith in
    let next : suc (length ss - (i + 1)) ≡ length ss - i = omega arith in
    drop-cons ss (length ss - (i + 1)) d (omega arith) ∙ ap (λ n. get_or ss (length ss - (i + 1)) d ∷ drop n ss) next
    ∙ ap (λ t. t ∷ drop (length ss - i) ss) (sym (is ∙ ap (λ n. get_or ss n d) same))

entered_step : (s : Stmt) (ss : List Stmt) (l : ℕ) → is_entered (s ∷ ss) l ≡ (if has_label s.label l then may_be_entered s.body else is_entered ss l)
unfolding is_entered
entered_step s ss l = refl

pub entered_more : (ss : List Stmt) (i : ℕ) (s d : Stmt) (l : ℕ) (old new : Bool) → i < length ss → s ≡ get_or ss (length ss - 1 - i) d
    → old ≡ is_entered (drop (length ss - i) ss) l → new ≡ (if has_label s.label l then may_be_entered s.body else old)
    → new ≡ is_entered (drop (length ss - (i + 1)) ss) l
entered_more ss i s d l old new h is so_far put =
    put ∙ ap (λ b. if has_label s.label l then may_be_entered s.body else b) so_far ∙ sym (entered_step s (drop (length ss - i) ss) l)
    ∙ ap (λ ts. is_entered ts l) (sym (behind_is ss i s d h is))

text_append : (fs gs : List LabelledFormat) (l : ℕ) → is_given (labelled_text (fs ++ gs) l) ≡ (is_given (labelled_text fs l) || is_given (labelled_text gs l))
unfolding labelled_text is_given
text_append [] gs l = refl
text_append (f ∷ fs) gs l = by (nat_eq f.label l) (text_append fs gs l)
  where
    by : (b : Bool) → is_given (labelled_text (fs ++ gs) l) ≡ (is_given (labelled_text fs l) || is_given (labelled_text gs l))
        → is_given (if b then Gives f.text else labelled_text (fs ++ gs) l) ≡ (is_given (if b then Gives f.text else labelled_text fs l) || is_given (labelled_text gs l))
    by true behind = refl
    by false behind = behind

format_step : (s : Stmt) (ss : List Stmt) (l : ℕ) → has_format (s ∷ ss) l ≡ (is_format_label s l || has_format ss l)
unfolding has_format is_format_label formats_of
format_step s ss l = text_append (format_in s.label s.body) (formats_of ss) l

pub format_more : (ss : List Stmt) (i : ℕ) (s d : Stmt) (l : ℕ) (b old new : Bool) → i < length ss → s ≡ get_or ss (length ss - 1 - i) d
    → old ≡ has_format (drop (length ss - i) ss) l → b ≡ is_format_label s l → new ≡ (b || old) → new ≡ has_format (drop (length ss - (i + 1)) ss) l
format_more ss i s d l b old new h is so_far known put =
    put ∙ ap (λ c. c || old) known ∙ ap (λ c. is_format_label s l || c) so_far ∙ sym (format_step s (drop (length ss - i) ss) l)
    ∙ ap (λ ts. has_format ts l) (sym (behind_is ss i s d h is))

-- before all, and behind all
pub entered_begin : (ss : List Stmt) (l : ℕ) (b : Bool) → b ≡ false → b ≡ is_entered (drop (length ss - 0) ss) l
unfolding is_entered
entered_begin ss l b is = is ∙ sym (ap (λ ts. is_entered ts l) (drop_all (length ss - 0) ss (omega arith)))

pub format_begin : (ss : List Stmt) (l : ℕ) (b : Bool) → b ≡ false → b ≡ has_format (drop (length ss - 0) ss) l
unfolding has_format formats_of labelled_text is_given
format_begin ss l b is = is ∙ sym (ap (λ ts. has_format ts l) (drop_all (length ss - 0) ss (omega arith)))

pub entered_end : (ss : List Stmt) (i l : ℕ) (b : Bool) → length ss ≤ i → b ≡ is_entered (drop (length ss - i) ss) l → b ≡ is_entered ss l
entered_end ss i l b h so_far = so_far ∙ ap (λ n. is_entered (drop n ss) l) (let e : length ss - i ≡ 0 = omega arith in e)

pub format_end : (ss : List Stmt) (i l : ℕ) (b : Bool) → length ss ≤ i → b ≡ has_format (drop (length ss - i) ss) l → b ≡ has_format ss l
format_end ss i l b h so_far = so_far ∙ ap (λ n. has_format (drop n ss) l) (let e : length ss - i ≡ 0 = omega arith in e)

-- THE FIRST STATEMENT WITH A LABEL is that which the label stands for
drop_next : (i : ℕ) (xs : List Stmt) (y : Stmt) (ys : List Stmt) → drop i xs ≡ y ∷ ys → drop (suc i) xs ≡ ys
drop_next zero (x ∷ xs) y ys is = cc
drop_next zero [] y ys is = absurd (cc)
drop_next (suc i) [] y ys is = absurd (cc)
drop_next (suc i) (x ∷ xs) y ys is = drop_next i xs y ys is

got_first : (i : ℕ) (xs : List Stmt) (y : Stmt) (ys : List Stmt) → drop i xs ≡ y ∷ ys → slice_get xs i ≡ Some y
got_first zero (x ∷ xs) y ys is = cc
got_first zero [] y ys is = absurd (cc)
got_first (suc i) [] y ys is = absurd (cc)
got_first (suc i) (x ∷ xs) y ys is = got_first i xs y ys is

entered_at : (all : List Stmt) (i : ℕ) (ss : List Stmt) (l : ℕ) → drop i all ≡ ss → such_at may_be_entered all (labelled_at i ss l) ≡ is_entered ss l
unfolding is_entered labelled_at such_at such_statement
entered_at all i [] l is = refl
entered_at all i (s ∷ ss) l is = by (has_label s.label l) (entered_at all (suc i) ss l (drop_next i all s ss is))
  where
    by : (b : Bool) → such_at may_be_entered all (labelled_at (suc i) ss l) ≡ is_entered ss l
        → such_at may_be_entered all (if b then Some i else labelled_at (suc i) ss l) ≡ (if b then may_be_entered s.body else is_entered ss l)
    by true behind = ap (such_statement may_be_entered) (got_first i all s ss is)
    by false behind = behind

pub branch_enters : (options : Options) (u : WrittenUnit) (l : ℕ) → such_at may_be_entered u.statements (place_of_label (unit_read options u) l) ≡ is_entered u.statements l
branch_enters options u l = ap (such_at may_be_entered u.statements) (label_places options u l) ∙ entered_at u.statements 0 u.statements l refl
