-- One item more of a formatted output: what the format makes before its descriptor, and with it.
use Rattle.std.proofs.Common.{◌≡◌, ℕ, zero, suc, ◌+◌, Bool, true, false, Option, Some, None, List, [], ◌∷◌, ◌++◌, length, refl, sym, ap, ◌∙◌, subst, length-append, append-nil, arith}
use Rattle.edit_rules.specs.edit_meaning.Formats.{Format, Edit, Item, Act, Stop, Served, NextRecord, served, has_item, pass, reverted, before_more, edits_for}
use Rattle.edit_rules.specs.edit_meaning.Halts.{Halt}
use Rattle.edit_rules.specs.edit_meaning.Listed.{ListedValue}
use Rattle.edit_rules.specs.edit_meaning.Transfers.{Direction, edited, unserved_by, served_over, turned, for_next, and_one, behind}
use Rattle.edit_rules.specs.edit_meaning.EditedRecords.{Output, unit_sheet, output, output_start, made_on, made_ahead}
use Rattle.edit_rules.proofs.EditLaws.{edits_one_more, edits_none}
use Rattle.formatted_output.specs.Reaching.{over_next, with_next}

-- how many items edits take
pub items_in : List Edit → ℕ
items_in [] = 0
items_in (Item d ∷ later) = suc (items_in later)
items_in (Act control ∷ later) = items_in later
items_in (Stop ∷ later) = items_in later

items_in-append : (a b : List Edit) → items_in (a ++ b) ≡ items_in a + items_in b
unfolding items_in
items_in-append [] b = omega arith
items_in-append (Item d ∷ a) b = omega (arith, items_in-append a b)
items_in-append (Act control ∷ a) b = items_in-append a b
items_in-append (Stop ∷ a) b = items_in-append a b

served_items : (n : ℕ) (edits : List Edit) → items_in (served n edits).edits + (served n edits).unserved ≡ n
unfolding items_in
served_items zero edits = refl
served_items (suc n) [] = omega arith
served_items (suc n) (Item d ∷ later) = omega (arith, served_items n later)
served_items (suc n) (Act control ∷ later) = served_items (suc n) later
served_items (suc n) (Stop ∷ later) = served_items (suc n) later

act_items : (later : List Edit) → items_in (Act NextRecord ∷ later) ≡ items_in later
unfolding items_in
act_items later = refl

turn_items : (b : Bool) (again : List Edit) (t : Served) (u : ℕ) → t.unserved ≡ u → items_in t.edits + t.unserved ≡ 1
    → items_in (turned b again t).edits + (turned b again t).unserved ≡ 1
turn_items false again t u e h = h
turn_items true again t zero e h = subst (λ (n : ℕ). items_in (before_more n t (served 1 again)).edits + (before_more n t (served 1 again)).unserved ≡ 1) (sym e) h
turn_items true again t (suc u) e h =
    subst (λ (n : ℕ). items_in (before_more n t (served 1 again)).edits + (before_more n t (served 1 again)).unserved ≡ 1) (sym e)
    (omega (arith, items_in-append t.edits (Act NextRecord ∷ (served 1 again).edits), act_items (served 1 again).edits, served_items 1 again))

one_items : (again : List Edit) (s : Served) (u : ℕ) → s.unserved ≡ u → items_in (and_one u again s).edits + (and_one u again s).unserved ≡ suc (items_in s.edits + s.unserved)
one_items again s zero e =
    omega (arith, items_in-append s.edits (for_next again s.left).edits, turn_items (has_item again) again (served 1 s.left) (served 1 s.left).unserved refl (served_items 1 s.left))
one_items again s (suc u) e = omega arith

pub edits_items : (format : Format) (n : ℕ) → items_in (edits_for format n).edits + (edits_for format n).unserved ≡ n
unfolding items_in
edits_items format zero = subst (λ (s : Served). items_in s.edits + s.unserved ≡ 0) (sym (edits_none format)) refl
edits_items format (suc n) =
    subst (λ (s : Served). items_in s.edits + s.unserved ≡ suc n) (sym (edits_one_more format n))
    (one_items (pass (reverted format)) (edits_for format n) (edits_for format n).unserved refl ∙ ap suc (edits_items format n))

module _ {State Thing : Type 0} (d : Direction State Thing) where
  -- edits and then others
  pub edited-append : (h : Option Halt) (e f : List Edit) (v w : List Thing) (s : State) → d.halted s ≡ h → items_in e ≡ length v
      → edited d h (e ++ f) (v ++ w) s ≡ edited d (d.halted (edited d h e v s)) f w (edited d h e v s)
  unfolding items_in
  edited-append (Some halt) e f v w s p b = sym (ap (λ q. edited d q f w s) p)
  edited-append None [] f [] w s p b = sym (ap (λ q. edited d q f w s) p)
  edited-append None [] f (x ∷ v) w s p b = absurd (omega arith)
  edited-append None (Item descriptor ∷ e) f [] w s p b = absurd (omega arith)
  edited-append None (Item descriptor ∷ e) f (x ∷ v) w s p b =
      edited-append (d.halted (d.item descriptor x s)) e f v w (d.item descriptor x s) refl (omega arith)
  edited-append None (Act control ∷ e) f v w s p b = edited-append (d.halted (d.act control s)) e f v w (d.act control s) refl b
  edited-append None (Stop ∷ e) f v w s p b = edited-append None e f v w s p b

-- ## The output of one more item

pub longer-by : (values : List ListedValue) (value : ListedValue) → length (values ++ value ∷ []) ≡ suc (length values)
longer-by values value = simp length-append (omega arith)

-- the edits with one more item, where those before were all served
pub next-served : (format : Format) (items : ℕ) → (edits_for format items).unserved ≡ 0 →
    edits_for format (suc items) ≡ behind (edits_for format items) (for_next (pass (reverted format)) (edits_for format items).left)
next-served format items all =
    edits_one_more format items ∙ ap (λ (unserved : ℕ). and_one unserved (pass (reverted format)) (edits_for format items)) all

-- what is left, and that it got a descriptor
pub next-left : (format : Format) (items : ℕ) → (edits_for format items).unserved ≡ 0 →
    (edits_for format (suc items)).left ≡ (for_next (pass (reverted format)) (edits_for format items).left).left
next-left format items all = ap (λ (one : Served). one.left) (next-served format items all)

pub next-unserved : (format : Format) (items : ℕ) → (edits_for format items).unserved ≡ 0 →
    (edits_for format (suc items)).unserved ≡ (for_next (pass (reverted format)) (edits_for format items).left).unserved
next-unserved format items all = ap (λ (one : Served). one.unserved) (next-served format items all)

-- the output over the edits of one more item
over-more : (format : Format) (values more : List ListedValue) (out : Output) → (edits_for format (length values)).unserved ≡ 0 → out.halted ≡ None →
    served_over (output unit_sheet) (edits_for format (length values)) values (output_start unit_sheet) ≡ out →
    served_over (output unit_sheet) (edits_for format (suc (length values))) (values ++ more) (output_start unit_sheet)
    ≡ with_next (pass (reverted format)) (edits_for format (length values)).left more out
over-more format values more out all runs made =
    let d : Direction Output ListedValue = output unit_sheet in
    let start : Output = output_start unit_sheet in
    let first : Served = edits_for format (length values) in
    let next : Served = for_next (pass (reverted format)) first.left in
    let here : Output = edited d (d.halted start) first.edits values start in
    let whole : Output = edited d (d.halted start) (first.edits ++ next.edits) (values ++ more) start in
    let items : items_in first.edits + first.unserved ≡ length values = edits_items format (length values) in
    let none : first.unserved ≡ 0 = all in
    let count : items_in first.edits ≡ length values = omega arith in
    let is : here ≡ out = sym (ap (λ (u : ℕ). unserved_by d u (d.halted here) here) all) ∙ made in
    let over : whole ≡ over_next (pass (reverted format)) first.left more out =
    edited-append d (d.halted start) first.edits next.edits values more start refl count
    ∙ ap (λ (o : Output). edited d o.halted next.edits more o) is
    ∙ ap (λ (halted : Option Halt). edited d halted next.edits more out) runs in
    ap (λ (one : Served). served_over d one (values ++ more) start) (next-served format (length values) all)
    ∙ ap (λ (o : Output). unserved_by d next.unserved o.halted o) over

-- what the format makes before the descriptor of the next item
pub ahead-of : (format : Format) (values : List ListedValue) (out : Output) → (edits_for format (length values)).unserved ≡ 0 → out.halted ≡ None →
    made_on unit_sheet format values false ≡ out → made_ahead unit_sheet format values ≡ with_next (pass (reverted format)) (edits_for format (length values)).left [] out
unfolding made_on made_ahead
ahead-of format values out all runs made =
    ap (λ (items : List ListedValue). served_over (output unit_sheet) (edits_for format (suc (length values))) items (output_start unit_sheet)) (sym (append-nil values))
    ∙ over-more format values [] out all runs made

-- and with it
pub made-with : (format : Format) (values : List ListedValue) (value : ListedValue) (out : Output) → (edits_for format (length values)).unserved ≡ 0 → out.halted ≡ None →
    made_on unit_sheet format values false ≡ out →
    made_on unit_sheet format (values ++ value ∷ []) false ≡ with_next (pass (reverted format)) (edits_for format (length values)).left (value ∷ []) out
unfolding made_on
made-with format values value out all runs made =
    ap (λ (items : ℕ). served_over (output unit_sheet) (edits_for format items) (values ++ value ∷ []) (output_start unit_sheet)) (longer-by values value)
    ∙ over-more format values (value ∷ []) out all runs made
