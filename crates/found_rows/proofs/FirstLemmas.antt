-- The first of some refusals, taken from the last one on.
use Rattle.std.proofs.Common.{◌≡◌, ℕ, suc, ◌+◌, ◌-◌, ◌<◌, List, drop, drop-cons, get_or, length, Option, Some, None, sym, ap, ◌∙◌, arith}
use Rattle.std.proofs.lemmas.List.{drop_all}
use Rattle.f_tree.specs.declared.refusals.Refusal.{Refusal}
use Rattle.declaration_rows.specs.Verdicts.{earlier, first_of}

first_of_cons : (rs : List Refusal) (n : ℕ) (r d : Refusal) → n < length rs → r ≡ get_or rs n d → first_of (drop n rs) ≡ Some (earlier r (first_of (drop (suc n) rs)))
unfolding first_of
first_of_cons rs n r d h is = ap first_of (drop-cons rs n d h) ∙ ap (λ x. Some (earlier x (first_of (drop (suc n) rs)))) (sym is)

-- one refusal more from the back
pub first_of_more : (rs : List Refusal) (i : ℕ) (r d : Refusal) (first after : Option Refusal) → i < length rs → r ≡ get_or rs (length rs - 1 - i) d → first ≡ first_of (drop (length rs - i) rs) → after ≡ Some (earlier r first) → after ≡ first_of (drop (length rs - (i + 1)) rs)
first_of_more rs i r d first after h is so_far now =
    let same : length rs - 1 - i ≡ length rs - (i + 1) = omega arith in
    let next : suc (length rs - (i + 1)) ≡ length rs - i = omega arith in
    now ∙ ap (λ f. Some (earlier r f)) (so_far ∙ ap (λ n. first_of (drop n rs)) (sym next))
    ∙ sym (first_of_cons rs (length rs - (i + 1)) r d (omega arith) (is ∙ ap (λ n. get_or rs n d) same))

pub first_of_none : (rs : List Refusal) → None ≡ first_of (drop (length rs - 0) rs)
unfolding first_of
first_of_none rs = sym (ap first_of (drop_all (length rs - 0) rs (omega arith)))
