-- A formatted transfer whose items come one at a time is the transfer of the whole list.
use Rattle.std.proofs.Common.{◌≡◌, ℕ, zero, suc, ◌+◌, ◌≤◌, Bool, true, false, Option, Some, None, List, [], ◌∷◌, ◌++◌, length, refl, sym, ap, ◌∙◌, subst, append_assoc, length-append, append-nil, arith}
use Rattle.edit_meaning.specs.Formats.{Format, Edit, Item, Act, Stop, Served, NextRecord, served, has_item, pass, reverted, before_more, edits_for, closing}
use Rattle.edit_meaning.specs.Halts.{Halt, Number}
use Rattle.edit_meaning.specs.Transfers.{Direction, edited, unserved_by, served_over, transferred, closed_by, Progress, begun, turned, for_next, with_next, with_each, and_one}
use Rattle.edit_rules.proofs.EditLaws.{edits_one_more, edits_none}

-- how many items edits take
items_in : List Edit → ℕ
items_in [] = 0
items_in (Item d ∷ later) = suc (items_in later)
items_in (Act control ∷ later) = items_in later
items_in (Stop ∷ later) = items_in later

items_in-append : (a b : List Edit) → items_in (a ++ b) ≡ items_in a + items_in b
unfolding items_in
items_in-append [] b = omega arith
items_in-append (Item d ∷ a) b = omega (arith, items_in-append a b)
items_in-append (Act control ∷ a) b = items_in-append a b
items_in-append (Stop ∷ a) b = items_in-append a b

served_items : (n : ℕ) (edits : List Edit) → items_in (served n edits).edits + (served n edits).unserved ≡ n
unfolding items_in
served_items zero edits = refl
served_items (suc n) [] = omega arith
served_items (suc n) (Item d ∷ later) = omega (arith, served_items n later)
served_items (suc n) (Act control ∷ later) = served_items (suc n) later
served_items (suc n) (Stop ∷ later) = served_items (suc n) later

act_items : (later : List Edit) → items_in (Act NextRecord ∷ later) ≡ items_in later
unfolding items_in
act_items later = refl

turn_items : (b : Bool) (again : List Edit) (t : Served) (u : ℕ) → t.unserved ≡ u → items_in t.edits + t.unserved ≡ 1
    → items_in (turned b again t).edits + (turned b again t).unserved ≡ 1
turn_items false again t u e h = h
turn_items true again t zero e h = subst (λ (n : ℕ). items_in (before_more n t (served 1 again)).edits + (before_more n t (served 1 again)).unserved ≡ 1) (sym e) h
turn_items true again t (suc u) e h =
    subst (λ (n : ℕ). items_in (before_more n t (served 1 again)).edits + (before_more n t (served 1 again)).unserved ≡ 1) (sym e)
    (omega (arith, items_in-append t.edits (Act NextRecord ∷ (served 1 again).edits), act_items (served 1 again).edits, served_items 1 again))

one_items : (again : List Edit) (s : Served) (u : ℕ) → s.unserved ≡ u → items_in (and_one u again s).edits + (and_one u again s).unserved ≡ suc (items_in s.edits + s.unserved)
one_items again s zero e =
    omega (arith, items_in-append s.edits (for_next again s.left).edits, turn_items (has_item again) again (served 1 s.left) (served 1 s.left).unserved refl (served_items 1 s.left))
one_items again s (suc u) e = omega arith

edits_items : (format : Format) (n : ℕ) → items_in (edits_for format n).edits + (edits_for format n).unserved ≡ n
unfolding items_in
edits_items format zero = subst (λ (s : Served). items_in s.edits + s.unserved ≡ 0) (sym (edits_none format)) refl
edits_items format (suc n) =
    subst (λ (s : Served). items_in s.edits + s.unserved ≡ suc n) (sym (edits_one_more format n))
    (one_items (pass (reverted format)) (edits_for format n) (edits_for format n).unserved refl ∙ ap suc (edits_items format n))

module _ {State Thing : Type 0} (d : Direction State Thing) where
  -- items past those that the edits take change nothing
  edited-over : (h : Option Halt) (e : List Edit) (v w : List Thing) (s : State) → items_in e ≤ length v → edited d h e (v ++ w) s ≡ edited d h e v s
  unfolding items_in
  edited-over (Some halt) e v w s b = refl
  edited-over None [] v w s b = refl
  edited-over None (Item descriptor ∷ e) [] w s b = absurd (omega arith)
  edited-over None (Item descriptor ∷ e) (x ∷ v) w s b = edited-over (d.halted (d.item descriptor x s)) e v w (d.item descriptor x s) (omega arith)
  edited-over None (Act control ∷ e) v w s b = edited-over (d.halted (d.act control s)) e v w (d.act control s) b
  edited-over None (Stop ∷ e) v w s b = edited-over None e v w s b

  -- edits and then others
  edited-append : (h : Option Halt) (e f : List Edit) (v w : List Thing) (s : State) → d.halted s ≡ h → items_in e ≡ length v
      → edited d h (e ++ f) (v ++ w) s ≡ edited d (d.halted (edited d h e v s)) f w (edited d h e v s)
  unfolding items_in
  edited-append (Some halt) e f v w s p b = sym (ap (λ q. edited d q f w s) p)
  edited-append None [] f [] w s p b = sym (ap (λ q. edited d q f w s) p)
  edited-append None [] f (x ∷ v) w s p b = absurd (omega arith)
  edited-append None (Item descriptor ∷ e) f [] w s p b = absurd (omega arith)
  edited-append None (Item descriptor ∷ e) f (x ∷ v) w s p b =
      edited-append (d.halted (d.item descriptor x s)) e f v w (d.item descriptor x s) refl (omega arith)
  edited-append None (Act control ∷ e) f v w s p b = edited-append (d.halted (d.act control s)) e f v w (d.act control s) refl b
  edited-append None (Stop ∷ e) f v w s p b = edited-append None e f v w s p b

  edited-halted : (h : Halt) (e : List Edit) (v : List Thing) (s : State) → d.halted s ≡ Some h → edited d (d.halted s) e v s ≡ s
  edited-halted h e v s p = ap (λ q. edited d q e v s) p

  edited_none : (q : Option Halt) (s : State) → edited d q [] [] s ≡ s
  edited_none None s = refl
  edited_none (Some h) s = refl

  unserved-halted : (u : ℕ) (h : Halt) (s : State) → unserved_by d u (Some h) s ≡ s
  unserved-halted zero h s = refl
  unserved-halted (suc u) h s = refl

  unserved_same : (u : ℕ) (q : Option Halt) (s : State) → unserved_by d (suc u) q s ≡ unserved_by d (suc (suc u)) q s
  unserved_same u None s = refl
  unserved_same u (Some h) s = refl

  served-halted : (h : Halt) (served : Served) (v : List Thing) (s : State) → d.halted s ≡ Some h → served_over d served v s ≡ s
  served-halted h served v s p =
      ap (λ (o : State). unserved_by d served.unserved (d.halted o) o) (edited-halted h served.edits v s p)
      ∙ ap (λ q. unserved_by d served.unserved q s) p ∙ unserved-halted served.unserved h s

-- a direction that halts where it is told to
abbrev pub Halts : {State Thing : Type 0} → Direction State Thing → Type 0
Halts {State = State} d = (h : Halt) (s : State) → d.halted (d.halt h s) ≡ Some h

module _ {State Thing : Type 0} (d : Direction State Thing) (halts : Halts d) where
  unserved_halts : (u : ℕ) (q : Option Halt) (s : State) → d.halted s ≡ q → (h : Halt) × (d.halted (unserved_by d (suc u) q s) ≡ Some h)
  unserved_halts u None s p = (Number 4, halts (Number 4) s)
  unserved_halts u (Some h) s p = (h, p)

-- how far the transfer has come is what the edits of the items give; where each got a descriptor, what is left is left
record Agrees {State Thing : Type 0} (d : Direction State Thing) (start : State) (served : Served) (things : List Thing) (progress : Progress State) : Type 0 where
  state : progress.state ≡ served_over d served things start
  left : served.unserved ≡ 0 → progress.left ≡ served.left
  stands : (m : ℕ) → served.unserved ≡ suc m → (h : Halt) × (d.halted progress.state ≡ Some h)

module _ {State Thing : Type 0} (d : Direction State Thing) (halts : Halts d) (start : State) (format : Format) where
  with_one : (things : List Thing) (x : Thing) (served : Served) (u : ℕ) (progress : Progress State) → served.unserved ≡ u
      → items_in served.edits + served.unserved ≡ length things → Agrees d start served things progress
      → Agrees d start (and_one u (pass (reverted format)) served) (things ++ x ∷ []) (with_next d format x progress)
  with_one things x served zero progress e items agrees =
      let again : List Edit = pass (reverted format) in
      let next : Served = for_next again served.left in
      let before : State = edited d (d.halted start) served.edits things start in
      let after : State = edited d (d.halted start) (served.edits ++ next.edits) (things ++ x ∷ []) start in
      let left : progress.left ≡ served.left = agrees.left e in
      let here : progress.state ≡ before = agrees.state ∙ ap (λ u. unserved_by d u (d.halted before) before) e in
      let joined : after ≡ edited d (d.halted before) next.edits (x ∷ []) before =
      edited-append d (d.halted start) served.edits next.edits things (x ∷ []) start refl (omega arith) in
      let state : (with_next d format x progress).state ≡ unserved_by d next.unserved (d.halted after) after =
      ap (λ (l : List Edit). served_over d (for_next again l) (x ∷ []) progress.state) left
      ∙ ap (λ (s : State). served_over d next (x ∷ []) s) here
      ∙ sym (ap (λ (s : State). unserved_by d next.unserved (d.halted s) s) joined) in
      record {
        state = state;
        left = λ _. ap (λ (l : List Edit). (for_next again l).left) left;
        stands = λ (m : ℕ) (p : next.unserved ≡ suc m).
            let found : (h : Halt) × (d.halted (unserved_by d (suc m) (d.halted after) after) ≡ Some h) = unserved_halts d halts m (d.halted after) after refl in
            (found.0, ap (λ (s : State). d.halted s) (state ∙ ap (λ u. unserved_by d u (d.halted after) after) p) ∙ found.1);
      }
  with_one things x served (suc u) progress e items agrees =
      let again : List Edit = pass (reverted format) in
      let before : State = edited d (d.halted start) served.edits things start in
      let halted : (h : Halt) × (d.halted progress.state ≡ Some h) = agrees.stands u e in
      let stays : (with_next d format x progress).state ≡ progress.state =
      served-halted d halted.0 (for_next again progress.left) (x ∷ []) progress.state halted.1 in
      record {
        state = stays ∙ agrees.state ∙ ap (λ u. unserved_by d u (d.halted before) before) e ∙ unserved_same d u (d.halted before) before
            ∙ sym (ap (λ (s : State). unserved_by d (suc (suc u)) (d.halted s) s) (edited-over d (d.halted start) served.edits things (x ∷ []) start (omega arith)));
        left = λ (p : suc (suc u) ≡ 0). absurd (cc);
        stands = λ (m : ℕ) _. (halted.0, ap (λ (s : State). d.halted s) stays ∙ halted.1);
      }

  agrees_next : (things : List Thing) (x : Thing) (progress : Progress State) → Agrees d start (edits_for format (length things)) things progress
      → Agrees d start (edits_for format (length (things ++ x ∷ []))) (things ++ x ∷ []) (with_next d format x progress)
  agrees_next things x progress agrees =
      let served : Served = edits_for format (length things) in
      let longer : length (things ++ x ∷ []) ≡ suc (length things) = simp length-append (omega arith) in
      subst (λ (s : Served). Agrees d start s (things ++ x ∷ []) (with_next d format x progress))
      (sym (ap (edits_for format) longer ∙ edits_one_more format (length things)))
      (with_one things x served served.unserved progress refl (edits_items format (length things)) agrees)

  agrees_each : (rest things : List Thing) (progress : Progress State) → Agrees d start (edits_for format (length things)) things progress
      → Agrees d start (edits_for format (length (things ++ rest))) (things ++ rest) (with_each d format rest progress)
  agrees_each [] things progress agrees =
      subst (λ (v : List Thing). Agrees d start (edits_for format (length v)) v progress) (sym (append-nil things)) agrees
  agrees_each (x ∷ rest) things progress agrees =
      subst (λ (v : List Thing). Agrees d start (edits_for format (length v)) v (with_each d format rest (with_next d format x progress))) (append_assoc things (x ∷ []) rest)
      (agrees_each rest (things ++ x ∷ []) (with_next d format x progress) (agrees_next things x progress agrees))

  agrees_begun : Agrees d start (edits_for format 0) [] (begun format start)
  agrees_begun =
      subst (λ (s : Served). Agrees d start s [] (begun format start)) (sym (edits_none format))
      (record {
        state = sym (edited_none d (d.halted start) start);
        left = λ _. refl;
        stands = λ (m : ℕ) (p : 0 ≡ suc m). absurd (cc);
      })

  agrees_all : (things : List Thing) → Agrees d start (edits_for format (length things)) things (with_each d format things (begun format start))
  agrees_all things = agrees_each things [] (begun format start) agrees_begun

  -- the items one by one are the items of the list
  pub one_by_one : (things : List Thing) → (with_each d format things (begun format start)).state ≡ transferred d format things start
  one_by_one things = (agrees_all things).state

  closed_same : (served : Served) (u : ℕ) (things : List Thing) (progress : Progress State) → served.unserved ≡ u → Agrees d start served things progress
      → closed_by d (closing progress.left) progress.state ≡ closed_by d (closing served.left) (served_over d served things start)
  closed_same served zero things progress e agrees =
      ap (λ (l : List Edit). closed_by d (closing l) progress.state) (agrees.left e) ∙ ap (closed_by d (closing served.left)) agrees.state
  closed_same served (suc u) things progress e agrees =
      let halted : (h : Halt) × (d.halted progress.state ≡ Some h) = agrees.stands u e in
      edited-halted d halted.0 (closing progress.left) [] progress.state halted.1
      ∙ sym (edited-halted d halted.0 (closing served.left) [] progress.state halted.1) ∙ ap (closed_by d (closing served.left)) agrees.state

  -- and so with what the format gives behind the last item
  pub one_by_one-closed : (things : List Thing)
      → closed_by d (closing (with_each d format things (begun format start)).left) (with_each d format things (begun format start)).state
      ≡ closed_by d (closing (edits_for format (length things)).left) (transferred d format things start)
  one_by_one-closed things =
      closed_same (edits_for format (length things)) (edits_for format (length things)).unserved things (with_each d format things (begun format start)) refl (agrees_all things)
