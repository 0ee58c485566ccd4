-- A file with more bytes than the most: its faults of cards are those of its front with one byte too many.
use Rattle.std.specs.Prelude.{◌≡◌, ℕ, zero, suc, ◌<◌, ◌≤◌, nat_lt, Bool, true, false, ◌==◌, List, [], ◌∷◌, length, take, min, slice_get, Option, Some, None, if◌then◌else◌}
use Rattle.std.proofs.Common.{refl, sym, ap, ◌∙◌, arith}
use Rattle.std.proofs.lemmas.Bool.{ltb-true, ltb-false, lt-ltb}
use Rattle.std.proofs.lemmas.List.{take-take, take_all, length-take-le}
use Rattle.refusal_order.specs.f_tree.declared.refusals.Kind.{Kind}
use Rattle.refusal_order.specs.f_tree.declared.refusals.Kind.TheVariants.{FileTooLong}
use Rattle.refusal_order.specs.fortran_text.Lines.{lines, before_lines}
use Rattle.refusal_order.specs.fortran_text.FirstFault.{most_bytes, most_cards, judged, card_of_byte, lesser, too_long, FaultOfCards, at_card, past_limit, FaultOfFile, of_cards, not_ended, IsSound}
use Rattle.refusal_order.specs.fortran_text.CardRows as card_rows
use Rattle.refusal_order.specs.fortran_text.Cards.{cards_of}
use Rattle.source_verdict.specs.Fronts.{front_of}

-- A FRONT has no more lines
one_more : (b : ℕ) (xs ys : List (List ℕ)) → length xs ≤ length ys → length (before_lines b xs) ≤ length (before_lines b ys)
unfolding before_lines
one_more b [] [] few = omega arith
one_more b [] (y ∷ ys) few = omega arith
one_more b (x ∷ xs) [] few = absurd (omega (arith, few))
one_more b (x ∷ xs) (y ∷ ys) few = few

front_lines : (n : ℕ) (bytes : List ℕ) → length (lines (take n bytes)) ≤ length (lines bytes)
unfolding lines
front_lines zero bytes = omega arith
front_lines (suc n) [] = omega arith
front_lines (suc n) (b ∷ rest) = by (b == 10) (front_lines n rest)
  where
    by : (z : Bool) → length (lines (take n rest)) ≤ length (lines rest) →
        length (if z then (b ∷ []) ∷ lines (take n rest) else before_lines b (lines (take n rest))) ≤ length (if z then (b ∷ []) ∷ lines rest else before_lines b (lines rest))
    by true h = omega (arith, h)
    by false h = one_more b (lines (take n rest)) (lines rest) h

-- THE CARD of what is too long is the same
least_of_two : (n k : ℕ) → k ≤ n → min n k ≡ k
least_of_two n k small = omega (arith, small)

same_lesser : (most all k : ℕ) (a b : Bool) → nat_lt most all ≡ a → nat_lt most k ≡ b → k ≤ all →
    lesser (if a then Some (suc most) else None) (Some k) ≡ lesser (if b then Some (suc most) else None) (Some k)
unfolding lesser
same_lesser most all k true true la lb few = refl
same_lesser most all k false false la lb few = refl
same_lesser most all k true false la lb few =
    let small : k ≤ most = ltb-false most k lb in
    ap Some (least_of_two (suc most) k (omega (arith, small)))
same_lesser most all k false true la lb few =
    let one : all ≤ most = ltb-false most all la in
    let two : most < k = ltb-true most k lb in
    absurd (omega (arith, few))

too_long_by : (most cards : ℕ) (bytes : List ℕ) → most < length bytes →
    lesser (if nat_lt cards (length (lines bytes)) then Some (suc cards) else None) (Some (length (lines (take (suc most) bytes))))
    ≡ lesser (if nat_lt cards (length (lines (take (suc most) bytes))) then Some (suc cards) else None) (Some (length (lines (take (suc most) (take (suc most) bytes)))))
too_long_by most cards bytes long =
    same_lesser cards (length (lines bytes)) (length (lines (take (suc most) bytes))) (nat_lt cards (length (lines bytes))) (nat_lt cards (length (lines (take (suc most) bytes))))
    refl refl (front_lines (suc most) bytes)
    ∙ ap (λ k. lesser (if nat_lt cards (length (lines (take (suc most) bytes))) then Some (suc cards) else None) (Some (length (lines k))))
    (sym (take-take (suc most) (suc most) bytes (omega arith)))

is_long : (most : ℕ) (bytes : List ℕ) → most < length bytes → nat_lt most (length bytes) ≡ true
is_long most bytes long = lt-ltb most (length bytes) long

front_is_long : (most : ℕ) (bytes : List ℕ) → most < length bytes → most < length (take (suc most) bytes)
front_is_long most bytes long = omega (arith, length-take-le (suc most) bytes (omega (arith, long)))

same_too_long : (bytes : List ℕ) → most_bytes < length bytes → too_long bytes ≡ too_long (take (suc most_bytes) bytes)
unfolding too_long card_of_byte
same_too_long bytes long =
    ap (λ b. lesser (if nat_lt most_cards (length (lines bytes)) then Some (suc most_cards) else None) (if b then Some (length (lines (take (suc most_bytes) bytes))) else None))
    (is_long most_bytes bytes long)
    ∙ too_long_by most_bytes most_cards bytes long
    ∙ sym (ap (λ b. lesser (if nat_lt most_cards (length (lines (take (suc most_bytes) bytes))) then Some (suc most_cards) else None)
    (if b then Some (length (lines (take (suc most_bytes) (take (suc most_bytes) bytes)))) else None))
    (is_long most_bytes (take (suc most_bytes) bytes) (front_is_long most_bytes bytes long)))

some_card : (one : Option ℕ) (k : ℕ) → lesser one (Some k) ≡ None → ⊥
unfolding lesser
some_card None k is = absurd (cc)
some_card (Some a) k is = absurd (cc)

long_has_card : (bytes : List ℕ) → most_bytes < length bytes → too_long bytes ≡ None → ⊥
unfolding too_long
long_has_card bytes long is =
    some_card (if nat_lt most_cards (length (lines bytes)) then Some (suc most_cards) else None) (card_of_byte (suc most_bytes) bytes)
    (sym (ap (λ b. lesser (if nat_lt most_cards (length (lines bytes)) then Some (suc most_cards) else None) (if b then Some (card_of_byte (suc most_bytes) bytes) else None))
    (is_long most_bytes bytes long)) ∙ is)

same_judged : (bytes : List ℕ) → judged bytes ≡ judged (take (suc most_bytes) bytes)
unfolding judged
same_judged bytes = ap (λ z. take most_cards (cards_of z)) (sym (take-take most_bytes (suc most_bytes) bytes (omega arith)))

-- THE FAULTS OF CARDS are the same, both ways
faults_by : (refused : Bool) (bytes other : List ℕ) (card : ℕ) (kind : Kind) → judged bytes ≡ judged other → too_long bytes ≡ too_long other →
    FaultOfCards refused bytes card kind → FaultOfCards refused other card kind
faults_by refused bytes other card kind one two (at_card place found is at holds) =
    at_card place found is (sym (ap (λ cs. slice_get cs place) one) ∙ at) (sym (ap (λ cs. card_rows.holds refused (card_rows.open_after None (take place cs)) found kind) one) ∙ holds)
faults_by refused bytes other card kind one two (past_limit long is) = past_limit (sym two ∙ long) is

file_faults_by : (refused : Bool) (bytes other : List ℕ) (card : ℕ) (kind : Kind) → judged bytes ≡ judged other → too_long bytes ≡ too_long other → (too_long bytes ≡ None → ⊥) →
    FaultOfFile refused bytes card kind → FaultOfFile refused other card kind
file_faults_by refused bytes other card kind one two long (of_cards h) = of_cards (faults_by refused bytes other card kind one two h)
file_faults_by refused bytes other card kind one two long (not_ended none last is) = absurd (long none)

-- A FILE AND ITS FRONT
-- two texts that are one, or that both have faults of cards, and the same
pub record SameFaults (refused : Bool) (one other : List ℕ) : Type 0 where
  pub cards : (card : ℕ) (kind : Kind) → FaultOfCards refused one card kind → FaultOfCards refused other card kind
  pub file : (card : ℕ) (kind : Kind) → FaultOfFile refused one card kind → FaultOfFile refused other card kind
  pub card : ℕ
  pub kind : Kind
  pub fault : FaultOfCards refused one card kind

pub data Alike (refused : Bool) (one other : List ℕ) : Type 0 where
  the_same : one ≡ other → Alike refused one other
  both_refused : SameFaults refused one other → SameFaults refused other one → Alike refused one other

pub alike_back : (refused : Bool) (one other : List ℕ) → Alike refused one other → Alike refused other one
alike_back refused one other (the_same is) = the_same (sym is)
alike_back refused one other (both_refused a b) = both_refused b a

pub a_fault : (refused : Bool) (bytes : List ℕ) → most_bytes < length bytes → (card : ℕ) × FaultOfCards refused bytes card FileTooLong
a_fault refused bytes long = by (too_long bytes) refl
  where
    by : (found : Option ℕ) → too_long bytes ≡ found → (card : ℕ) × FaultOfCards refused bytes card FileTooLong
    by None is = absurd (long_has_card bytes long is)
    by (Some card) is = (card, past_limit is refl)

same_by : (refused : Bool) (one other : List ℕ) → judged one ≡ judged other → too_long one ≡ too_long other → most_bytes < length one → SameFaults refused one other
same_by refused one other cards limit long =
    let f = a_fault refused one long in
    record {
      cards = λ card kind h. faults_by refused one other card kind cards limit h;
      file = λ card kind h. file_faults_by refused one other card kind cards limit (long_has_card one long) h;
      card = f.0;
      kind = FileTooLong;
      fault = f.1;
    }

short_is_whole : (most : ℕ) (bytes : List ℕ) → length bytes ≤ most → take (suc most) bytes ≡ bytes
short_is_whole most bytes short = take_all (suc most) bytes (omega (arith, short))

alike_by : (refused : Bool) (bytes : List ℕ) (long : Bool) → nat_lt most_bytes (length bytes) ≡ long → Alike refused (front_of bytes) bytes
alike_by refused bytes true is =
    let long : most_bytes < length bytes = ltb-true most_bytes (length bytes) is in
    let front_long : most_bytes < length (front_of bytes) = front_is_long most_bytes bytes long in
    both_refused (same_by refused (front_of bytes) bytes (sym (same_judged bytes)) (sym (same_too_long bytes long)) front_long)
    (same_by refused bytes (front_of bytes) (same_judged bytes) (same_too_long bytes long) long)
alike_by refused bytes false is = the_same (short_is_whole most_bytes bytes (ltb-false most_bytes (length bytes) is))

pub long_fault : (refused : Bool) (one other : List ℕ) → SameFaults refused one other → IsSound (FaultOfFile refused one) → ⊥
long_fault refused one other same sound = sound same.card same.kind (of_cards same.fault)

pub long_is_unsound : (refused : Bool) (bytes : List ℕ) → most_bytes < length bytes → IsSound (FaultOfFile refused bytes) → ⊥
long_is_unsound refused bytes long sound = let f = a_fault refused bytes long in sound f.0 FileTooLong (of_cards f.1)

pub front_fault : (refused : Bool) (bytes : List ℕ) → most_bytes < length bytes → (card : ℕ) × FaultOfCards refused (front_of bytes) card FileTooLong
front_fault refused bytes long = a_fault refused (front_of bytes) (front_is_long most_bytes bytes long)

pub whole_where_short : (bytes : List ℕ) → length bytes ≤ most_bytes → front_of bytes ≡ bytes
whole_where_short bytes short = short_is_whole most_bytes bytes short

pub front_alike : (refused : Bool) (bytes : List ℕ) → Alike refused (front_of bytes) bytes
front_alike refused bytes = alike_by refused bytes (nat_lt most_bytes (length bytes)) refl
