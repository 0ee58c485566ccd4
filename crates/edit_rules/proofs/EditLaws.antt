-- The edits that items take, with one more item.
use Rattle.std.proofs.Common.{◌≡◌, ℕ, zero, suc, ◌≤◌, Bool, true, false, List, [], ◌∷◌, refl, sym, ap, ◌∙◌, append_assoc, arith}
use Rattle.edit_meaning.specs.Formats.{Format, Edit, Item, Act, Stop, Served, NextRecord, served, led_by, has_item, pass, reverted, followed, before_more, go_on, if_it_serves, edits_for}
use Rattle.edit_meaning.specs.Transfers.{turned, behind, and_one, one_more}

-- one more item than a pass serves
more_by : ℕ → Served → Served
more_by zero first = behind first (served 1 first.left)
more_by (suc more) first = record first { unserved = suc (suc more) }

more_by-led : (e : Edit) (unserved : ℕ) (s : Served) → more_by unserved (led_by e s) ≡ led_by e (more_by unserved s)
unfolding more_by
more_by-led e zero s = refl
more_by-led e (suc m) s = refl

served_more : (n : ℕ) (edits : List Edit) → served (suc n) edits ≡ more_by (served n edits).unserved (served n edits)
unfolding more_by
served_more zero edits = refl
served_more (suc n) [] = refl
served_more (suc n) (Item d ∷ later) = ap (led_by (Item d)) (served_more n later) ∙ sym (more_by-led (Item d) (served n later).unserved (served n later))
served_more (suc n) (Act control ∷ later) =
    ap (led_by (Act control)) (served_more (suc n) later) ∙ sym (more_by-led (Act control) (served (suc n) later).unserved (served (suc n) later))
served_more (suc n) (Stop ∷ later) = served_more (suc n) later

pub served-le : (n : ℕ) (edits : List Edit) → (served n edits).unserved ≤ n
served-le zero edits = omega arith
served-le (suc n) [] = omega arith
served-le (suc n) (Item d ∷ later) = omega (arith, served-le n later)
served-le (suc n) (Act control ∷ later) = served-le (suc n) later
served-le (suc n) (Stop ∷ later) = served-le (suc n) later

-- a pass with a descriptor serves an item
pub served_some : (n : ℕ) (edits : List Edit) → has_item edits ≡ true → (served (suc n) edits).unserved ≤ n
served_some n [] h = absurd (cc)
served_some n (Item d ∷ later) h = served-le n later
served_some n (Act control ∷ later) h = served_some n later h
served_some n (Stop ∷ later) h = served_some n later h

and_one_with : Bool → ℕ → List Edit → Served → Served
and_one_with b zero again first = behind first (turned b again (served 1 first.left))
and_one_with b (suc more) again first = record first { unserved = suc (suc more) }

and_one_is : (again : List Edit) (u : ℕ) (first : Served) → and_one u again first ≡ and_one_with (has_item again) u again first
unfolding and_one_with
and_one_is again zero first = refl
and_one_is again (suc m) first = refl

without_turns : (again : List Edit) (u : ℕ) (first : Served) → more_by u first ≡ and_one_with false u again first
unfolding more_by and_one_with
without_turns again zero first = refl
without_turns again (suc m) first = refl

and_one-followed : (again : List Edit) (first next : Served) (u : ℕ)
    → and_one_with true u again (record (followed first next) { unserved = u }) ≡ followed first (and_one_with true u again (record next { unserved = u }))
unfolding and_one_with
and_one-followed again first next zero =
    ap (λ (e : List Edit). let s : Served = record (turned true again (served 1 next.left)) { edits = e } in s) (append_assoc first.edits (Act NextRecord ∷ next.edits) (turned true again (served 1 next.left)).edits)
and_one-followed again first next (suc m) = refl

go_on-done : (n : ℕ) (again : List Edit) (s : Served) → s.unserved ≡ 0 → go_on n again s ≡ s
go_on-done zero again s h = refl
go_on-done (suc n) again s h = ap (λ u. before_more u s (go_on n again (served s.unserved again))) h

-- the pass ends before one more item, or serves it
one_turn : (n : ℕ) (again edits : List Edit) (t : Served) (u : ℕ) → t.unserved ≡ u → u ≤ 1 → has_item again ≡ true
    → before_more u (behind (record { edits = edits; unserved = 0; left = t.left }) t) (go_on n again (served u again))
    ≡ behind (record { edits = edits; unserved = 0; left = t.left }) (before_more u t (served 1 again))
one_turn n again edits t zero e b h = refl
one_turn n again edits t (suc zero) e b h =
    let done : go_on n again (served 1 again) ≡ served 1 again = go_on-done n again (served 1 again) (omega (arith, served_some 0 again h)) in
    ap (followed (behind (record { edits = edits; unserved = 0; left = t.left }) t)) done
    ∙ ap (λ (e : List Edit). let s : Served = record (served 1 again) { edits = e } in s) (append_assoc edits t.edits (Act NextRecord ∷ (served 1 again).edits))
one_turn n again edits t (suc (suc u)) e b h = absurd (omega arith)

go_on_more : (n u : ℕ) (edits left again : List Edit) → has_item again ≡ true → u ≤ n
    → go_on (suc n) again (more_by u (record { edits = edits; unserved = u; left = left }))
    ≡ and_one_with true (go_on n again (record { edits = edits; unserved = u; left = left })).unserved again (go_on n again (record { edits = edits; unserved = u; left = left }))
unfolding more_by and_one_with
go_on_more n zero edits left again h b =
    one_turn n again edits (served 1 left) (served 1 left).unserved refl (served-le 1 left) h
    ∙ ap (λ (s : Served). and_one_with true s.unserved again s) (sym (go_on-done n again (record { edits = edits; unserved = 0; left = left }) refl))
go_on_more zero (suc m) edits left again h b = absurd (omega arith)
go_on_more (suc n) (suc m) edits left again h b =
    let first : Served = record { edits = edits; unserved = suc m; left = left } in
    let again_served : Served = served (suc m) again in
    let next : Served = go_on n again again_served in
    ap (λ (s : Served). followed first (go_on (suc n) again s)) (served_more (suc m) again)
    ∙ ap (followed first) (go_on_more n again_served.unserved again_served.edits again_served.left again h (omega (arith, served_some m again h)))
    ∙ sym (and_one-followed again first next next.unserved)

serves_more : (b : Bool) (n : ℕ) (first again : List Edit) → has_item again ≡ b
    → if_it_serves b (suc n) again (served (suc n) first)
    ≡ and_one_with b (if_it_serves b n again (served n first)).unserved again (if_it_serves b n again (served n first))
serves_more true n first again h =
    let s : Served = served n first in
    ap (go_on (suc n) again) (served_more n first) ∙ go_on_more n s.unserved s.edits s.left again h (served-le n first)
serves_more false n first again h = served_more n first ∙ without_turns again (served n first).unserved (served n first)

-- the edits with one more item
pub edits_one_more : (format : Format) (items : ℕ) → edits_for format (suc items) ≡ one_more format (edits_for format items)
unfolding edits_for
edits_one_more format items =
    let again : List Edit = pass (reverted format) in
    serves_more (has_item again) items (pass format) again refl
    ∙ sym (and_one_is again (edits_for format items).unserved (edits_for format items))

pub edits_none : (format : Format) → edits_for format 0 ≡ record { edits = []; unserved = 0; left = pass format }
unfolding edits_for
edits_none format = none_by (has_item (pass (reverted format))) where
  none_by : (b : Bool) → if_it_serves b 0 (pass (reverted format)) (served 0 (pass format)) ≡ record { edits = []; unserved = 0; left = pass format }
  none_by true = refl
  none_by false = refl
