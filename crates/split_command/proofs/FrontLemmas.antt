-- A file that was read no further than one byte past the most.
use Rattle.std.proofs.Common.{◌≡◌, ℕ, suc, ◌<◌, ◌≤◌, List, length, take, refl, sym, ap, ◌∙◌, arith, Some, None, inl, inr}
use Rattle.std.specs.Prelude.{◌⊎◌, nat_lt, if◌then◌else◌}
use Rattle.std.proofs.lemmas.Bool.{cases_lt, lt-ltb, le-ltb}
use Rattle.std.proofs.lemmas.List.{take-take, take_all, length-take-le}
use Rattle.f_tree.specs.declared.refusals.Kind.{Kind}
use Rattle.fsplit.specs.fortran_text.FirstFault.{most_bytes, most_cards, card_of_byte, lesser, too_long}
use Rattle.fsplit.specs.fortran_text.Lines.{lines}
use Rattle.fsplit.specs.split_pieces.Pieces.{IsPastLimit}
use Rattle.fsplit.proofs.LimitLemmas.{IsShort, short_of_limit, lines_take}

-- the lesser of the card past the limit and one that is not behind the last
least : (most all k : ℕ) → k ≤ all → (most < all) ⊎ (all ≤ most) → (most < k) ⊎ (k ≤ most)
    → lesser (if nat_lt most all then Some (suc most) else None) (Some k) ≡ lesser (if nat_lt most k then Some (suc most) else None) (Some k)
unfolding lesser
least most all k few (inl many) (inl long) =
    ap (λ b. lesser (if b then Some (suc most) else None) (Some k)) (lt-ltb most all many ∙ sym (lt-ltb most k long))
least most all k few (inr small) (inr short) =
    ap (λ b. lesser (if b then Some (suc most) else None) (Some k)) (le-ltb most all small ∙ sym (le-ltb most k short))
least most all k few (inl many) (inr short) =
    ap (λ b. lesser (if b then Some (suc most) else None) (Some k)) (lt-ltb most all many)
    ∙ ap Some (omega (arith, short))
    ∙ sym (ap (λ b. lesser (if b then Some (suc most) else None) (Some k)) (le-ltb most k short))
least most all k few (inr small) (inl long) = absurd (omega (arith, few, small, long))

-- the card of what is too long, by variables for the limits
limit_of_long : (most cards : ℕ) (bytes : List ℕ) → most < length bytes
    → lesser (if nat_lt cards (length (lines bytes)) then Some (suc cards) else None) (if nat_lt most (length bytes) then Some (length (lines (take (suc most) bytes))) else None)
    ≡ lesser (if nat_lt cards (length (lines (take (suc most) bytes))) then Some (suc cards) else None)
    (if nat_lt most (length (take (suc most) bytes)) then Some (length (lines (take (suc most) (take (suc most) bytes)))) else None)
limit_of_long most cards bytes long =
    let front = take (suc most) bytes in
    let front_long : most < length front = omega (arith, length-take-le (suc most) bytes (omega (arith, long))) in
    ap (λ b. lesser (if nat_lt cards (length (lines bytes)) then Some (suc cards) else None) (if b then Some (length (lines front)) else None)) (lt-ltb most (length bytes) long)
    ∙ least cards (length (lines bytes)) (length (lines front)) (lines_take (suc most) bytes) (cases_lt cards (length (lines bytes))) (cases_lt cards (length (lines front)))
    ∙ ap (λ l. lesser (if nat_lt cards (length (lines front)) then Some (suc cards) else None) (Some (length (lines l)))) (sym (take-take (suc most) (suc most) bytes (omega arith)))
    ∙ sym (ap (λ b. lesser (if nat_lt cards (length (lines front)) then Some (suc cards) else None) (if b then Some (length (lines (take (suc most) front))) else None))
    (lt-ltb most (length front) front_long))

long_front : (bytes : List ℕ) → most_bytes < length bytes → too_long bytes ≡ too_long (take (suc most_bytes) bytes)
unfolding too_long card_of_byte
long_front bytes long = limit_of_long most_bytes most_cards bytes long

-- the front tells all
by_length : (bytes : List ℕ) → (most_bytes < length bytes) ⊎ (length bytes ≤ most_bytes) → too_long (take (suc most_bytes) bytes) ≡ too_long bytes
by_length bytes (inl long) = sym (long_front bytes long)
by_length bytes (inr short) = ap too_long (take_all (suc most_bytes) bytes (omega (arith, short)))

front_tells : (most : ℕ) (front bytes : List ℕ) → most ≡ suc most_bytes → front ≡ take most bytes → too_long front ≡ too_long bytes
front_tells most front bytes is front_is =
    ap too_long (front_is ∙ ap (λ n. take n bytes) is) ∙ by_length bytes (cases_lt most_bytes (length bytes))

most_is : 16777217 ≡ suc most_bytes
unfolding most_bytes
most_is = refl

pub whole_where_within : (front bytes : List ℕ) → front ≡ take 16777217 bytes → too_long front ≡ None → front ≡ bytes
whole_where_within front bytes front_is within = by 16777217 most_is front_is
  where
    by : (most : ℕ) → most ≡ suc most_bytes → front ≡ take most bytes → front ≡ bytes
    by most is front_is =
        let short : IsShort bytes = short_of_limit bytes (sym (front_tells most front bytes is front_is) ∙ within) in
        front_is ∙ take_all most bytes (omega (arith, short.bytes, is))

pub past_where_past : (front bytes : List ℕ) (card : ℕ) (kind : Kind) → front ≡ take 16777217 bytes → IsPastLimit front card kind → IsPastLimit bytes card kind
past_where_past front bytes card kind front_is past = (sym (front_tells 16777217 front bytes most_is front_is) ∙ past.0, past.1)
