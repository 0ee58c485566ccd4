-- A pass over the cards of a text: what is known before each card.
use Rattle.std.proofs.Common.{◌≡◌, ℕ, zero, suc, ◌+◌, ◌-◌, ◌<◌, ◌≤◌, Bool, true, false, List, [], ◌∷◌, length, take, map, refl, sym, ap, ◌∙◌, add-one, arith, Option, Some, None, inl, inr}
use Rattle.std.specs.Prelude.{◌==◌, ◌&&◌, not, nat_lt, ◌⊎◌}
use Rattle.std.proofs.lemmas.Bool.{and_parts, cases_Bool, eqb-true, eq-eqb, ne_eqb, ltb-true, ltb-false, lt-ltb, le-ltb, both_ways}
use Rattle.std.proofs.lemmas.List.{nil_from_length, length-take}
use Rattle.fortran_text.specs.CardRows.{open_behind}
use Rattle.fortran_text.specs.Cards.{Card, card_of, cards_of}
use Rattle.fortran_text.specs.FirstFault.{most_cards}
use Rattle.fortran_text.specs.KindsOfCards.{kind_of, text_of}
use Rattle.fortran_text.specs.Lines.{lines}
use Rattle.cards.specs.Passes.{has_next, row_of, placed, fault_or, fault_from, group_after, groups_after, counted, count_of, nothing, IsPass}
use Rattle.cards.specs.declared.faults.Fault.{Fault}
use Rattle.cards.specs.declared.grouping.Group.{Group}
use Rattle.cards.proofs.LineLemmas.{lines-nil, some_line}
use Rattle.cards.proofs.GroupLemmas.{counted_after, count_after}

pub most_cards-is : most_cards ≡ 65536
unfolding most_cards
most_cards-is = refl

-- the cards that are left, where a number of cards were read
pub left : ℕ → List ℕ → List Card
left cards rest = take (most_cards - cards) (cards_of rest)

left_start : (bytes : List ℕ) → left 0 bytes ≡ take most_cards (cards_of bytes)
unfolding left
left_start bytes = let whole : most_cards - 0 ≡ most_cards = omega arith in ap (λ n. take n (cards_of bytes)) whole

left_more : (cards : ℕ) (rest line behind : List ℕ) → cards < most_cards → lines rest ≡ line ∷ lines behind → left cards rest ≡ card_of line ∷ left (suc cards) behind
unfolding left cards_of
left_more cards rest line behind low is =
    let one : most_cards - cards ≡ suc (most_cards - suc cards) = omega arith in
    ap (λ l. take (most_cards - cards) (map card_of l)) is ∙ ap (λ n. take n (card_of line ∷ map card_of (lines behind))) one

left_full : (cards : ℕ) (rest : List ℕ) → most_cards ≤ cards → left cards rest ≡ []
unfolding left
left_full cards rest high = let none : most_cards - cards ≡ 0 = omega arith in ap (λ n. take n (cards_of rest)) none

left_none : (cards : ℕ) (rest : List ℕ) → rest ≡ [] → left cards rest ≡ []
unfolding left cards_of
left_none cards rest is = ap (λ l. take (most_cards - cards) (map card_of l)) (ap lines is ∙ lines-nil) ∙ none (most_cards - cards)
  where
    none : (n : ℕ) → take {A = Card} n [] ≡ []
    none zero = refl
    none (suc n) = refl

or_or : (a b c : Option Fault) → fault_or a (fault_or b c) ≡ fault_or (fault_or a b) c
or_or None b c = refl
or_or (Some fault) b c = refl

or_none : (a : Option Fault) → fault_or a None ≡ a
or_none None = refl
or_none (Some fault) = refl

group_step : (file number : ℕ) (group : Group) (card : Card) (more : List Card)
    → groups_after file number group (card ∷ more) ≡ groups_after file (suc number) (group_after file number group card.columns) more
unfolding groups_after
group_step file number group card more = refl

group_end : (file number : ℕ) (group : Group) → groups_after file number group [] ≡ group
unfolding groups_after
group_end file number group = refl

fault_step : (refused : Bool) (before : Option ℕ) (number : ℕ) (card : Card) (more : List Card)
    → fault_from refused before number (card ∷ more) ≡ fault_or (placed number (row_of refused before card)) (fault_from refused (open_behind (kind_of card.columns)
    (text_of card.columns) before) (suc number) more)
unfolding fault_from
fault_step refused before number card more = refl

fault_end : (refused : Bool) (before : Option ℕ) (number : ℕ) → fault_from refused before number [] ≡ None
unfolding fault_from
fault_end refused before number = refl

-- What is known when a number of cards were read and `rest` is left.
pub record Passing (file : ℕ) (refused : Bool) (bytes : List ℕ) (group : Group) (fault : Option Fault) (cards : ℕ) (rest : List ℕ) : Type 0 where
  pub groups : groups_after file 1 nothing (take most_cards (cards_of bytes)) ≡ groups_after file (suc cards) group (left cards rest)
  pub faults : fault_from refused None 1 (take most_cards (cards_of bytes)) ≡ fault_or fault (fault_from refused (counted group.current) (suc cards) (left cards rest))
  pub lines_left : cards + length (lines rest) ≡ length (lines bytes)
  pub few : cards ≤ most_cards
  pub count : count_of group.current ≤ cards

pub passing_starts : (file : ℕ) (refused : Bool) (bytes : List ℕ) → Passing file refused bytes nothing None 0 bytes
passing_starts file refused bytes = record {
  groups = ap (groups_after file 1 nothing) (sym (left_start bytes));
  faults = ap (fault_from refused None 1) (sym (left_start bytes));
  lines_left = omega arith;
  few = omega arith;
  count = omega arith;
}

-- one card
pub passing_goes_on : (file : ℕ) (refused : Bool) (bytes : List ℕ) (group : Group) (fault : Option Fault) (cards : ℕ) (rest line behind : List ℕ) (card : Card)
    (group' : Group) (fault' : Option Fault)
    → Passing file refused bytes group fault cards rest → cards < most_cards → lines rest ≡ line ∷ lines behind → card ≡ card_of line
    → group' ≡ group_after file (cards + 1) group card.columns → fault' ≡ fault_or fault (placed (cards + 1) (row_of refused (counted group.current) card))
    → Passing file refused bytes group' fault' (cards + 1) behind
passing_goes_on file refused bytes group fault cards rest line behind card group' fault' h low is card_is group_is fault_is =
    let one : cards + 1 ≡ suc cards = add-one cards in
    let here : left cards rest ≡ card ∷ left (suc cards) behind = left_more cards rest line behind low is ∙ ap (λ c. c ∷ left (suc cards) behind) (sym card_is) in
    let here' : left cards rest ≡ card ∷ left (cards + 1) behind = here ∙ ap (λ n. card ∷ left n behind) (sym one) in
    let group_is' : group_after file (suc cards) group card.columns ≡ group' = ap (λ n. group_after file n group card.columns) (sym one) ∙ sym group_is in
    let open_is : open_behind (kind_of card.columns) (text_of card.columns) (counted group.current) ≡ counted group'.current =
    sym (counted_after file (cards + 1) group card.columns) ∙ ap (λ (g : Group). counted g.current) (sym group_is) in
    let fault_is' : fault_or fault (placed (suc cards) (row_of refused (counted group.current) card)) ≡ fault' =
    ap (λ n. fault_or fault (placed n (row_of refused (counted group.current) card))) (sym one) ∙ sym fault_is in
    record {
      groups = h.groups ∙ ap (groups_after file (suc cards) group) here' ∙ group_step file (suc cards) group card (left (cards + 1) behind)
          ∙ ap (λ g. groups_after file (suc (suc cards)) g (left (cards + 1) behind)) group_is'
          ∙ ap (λ n. groups_after file (suc n) group' (left (cards + 1) behind)) (sym one);
      faults = h.faults ∙ ap (λ l. fault_or fault (fault_from refused (counted group.current) (suc cards) l)) here'
          ∙ ap (fault_or fault) (fault_step refused (counted group.current) (suc cards) card (left (cards + 1) behind))
          ∙ or_or fault (placed (suc cards) (row_of refused (counted group.current) card)) (fault_from refused (open_behind (kind_of card.columns) (text_of
          card.columns) (counted group.current)) (suc (suc cards)) (left (cards + 1) behind))
          ∙ ap (λ f. fault_or f (fault_from refused (open_behind (kind_of card.columns) (text_of card.columns) (counted group.current)) (suc (suc cards)) (left
          (cards + 1) behind))) fault_is'
          ∙ ap (λ o. fault_or fault' (fault_from refused o (suc (suc cards)) (left (cards + 1) behind))) open_is
          ∙ ap (λ n. fault_or fault' (fault_from refused (counted group'.current) (suc n) (left (cards + 1) behind))) (sym one);
      lines_left = omega (arith, h.lines_left, ap length is);
      few = omega arith;
      count = omega (arith, h.count, count_after file (cards + 1) group card.columns, ap (λ (g : Group). count_of g.current) group_is);
    }

-- the end of the pass
module _ (file : ℕ) (refused : Bool) (bytes : List ℕ) (group : Group) (fault : Option Fault) (cards : ℕ) (rest : List ℕ) (h : Passing file refused bytes group fault
    cards rest) where
  ended : left cards rest ≡ [] → (more : Bool) → more ≡ nat_lt most_cards (length (lines bytes)) → cards ≡ length (take most_cards (cards_of bytes))
      → IsPass file refused bytes (record { group = group; fault = fault; cards = cards; more = more })
  ended none more more_is cards_is = record {
    group = h.groups ∙ ap (groups_after file (suc cards) group) none ∙ group_end file (suc cards) group;
    fault = h.faults ∙ ap (λ l. fault_or fault (fault_from refused (counted group.current) (suc cards) l)) none
        ∙ ap (fault_or fault) (fault_end refused (counted group.current) (suc cards)) ∙ or_none fault;
    cards = cards_is;
    more = more_is;
  }

  length_cards : length (take most_cards (cards_of bytes)) ≡ length (take most_cards (lines bytes))
  unfolding cards_of
  length_cards = both most_cards (lines bytes)
    where
      both : (n : ℕ) (ls : List (List ℕ)) → length (take n (map card_of ls)) ≡ length (take n ls)
      both zero ls = refl
      both (suc n) [] = refl
      both (suc n) (l ∷ ls) = ap suc (both n ls)

  more_lines : (rest' : List ℕ) → most_cards + length (lines rest') ≡ length (lines bytes) → not (length rest' == 0) ≡ nat_lt most_cards (length (lines bytes))
  more_lines [] is = sym (le-ltb most_cards (length (lines bytes)) (omega (arith, ap length lines-nil)))
  more_lines (b ∷ rest') is =
      ap not (ne_eqb (length (b ∷ rest')) 0 (λ e. omega arith)) ∙ sym (lt-ltb most_cards (length (lines bytes)) (omega (arith, some_line b rest')))

  -- at the limit
  pub pass_full : most_cards ≤ cards → (more : Bool) → more ≡ not (length rest == 0)
      → IsPass file refused bytes (record { group = group; fault = fault; cards = cards; more = more })
  pass_full high more more_is =
      let sum : most_cards + length (lines rest) ≡ length (lines bytes) = omega (arith, h.lines_left, h.few) in
      ended (left_full cards rest high) more (more_is ∙ more_lines rest sum) (omega (arith, length_cards, length-take most_cards (lines bytes), h.few))

  -- at the end of the text
  pub pass_whole : rest ≡ [] → (more : Bool) → more ≡ not (length rest == 0)
      → IsPass file refused bytes (record { group = group; fault = fault; cards = cards; more = more })
  pass_whole none more more_is =
      let sum : cards ≡ length (lines bytes) = omega (arith, h.lines_left, ap length (ap lines none ∙ lines-nil)) in
      let no_more : more ≡ false = more_is ∙ ap not (eq-eqb (length rest) 0 (ap length none)) in
      ended (left_none cards rest none) more (no_more
      ∙ sym (le-ltb most_cards (length (lines bytes)) (omega (arith, h.few)))) (omega (arith, length_cards, length-take most_cards (lines bytes), h.few))

  pub pass_ends : has_next cards rest ≡ false → (more : Bool) → more ≡ not (length rest == 0)
      → IsPass file refused bytes (record { group = group; fault = fault; cards = cards; more = more })
  unfolding has_next
  pass_ends out more more_is = either (cases_Bool (nat_lt cards most_cards)) (cases_Bool (length rest == 0))
    where
      either : (nat_lt cards most_cards ≡ true) ⊎ (nat_lt cards most_cards ≡ false) → (length rest == 0 ≡ true) ⊎ (length rest == 0 ≡ false)
          → IsPass file refused bytes (record { group = group; fault = fault; cards = cards; more = more })
      either (inr full) end = pass_full (ltb-false cards most_cards full) more more_is
      either (inl low) (inl end) = pass_whole (nil_from_length rest (eqb-true (length rest) 0 end)) more more_is
      either (inl low) (inr goes) =
          let held : (nat_lt cards most_cards && not (length rest == 0)) ≡ true = rw (low, goes) in
          absurd (both_ways (nat_lt cards most_cards && not (length rest == 0)) out held)

-- a card that is read
pub next_low : (cards : ℕ) (rest : List ℕ) → has_next cards rest ≡ true → cards < most_cards
unfolding has_next
next_low cards rest h = ltb-true cards most_cards (and_parts (nat_lt cards most_cards) (not (length rest == 0)) h).0

pub next_some : (cards : ℕ) (rest : List ℕ) → has_next cards rest ≡ true → 0 < length rest
unfolding has_next
next_some cards [] h = absurd (both_ways (nat_lt cards most_cards && false) (and_false (nat_lt cards most_cards)) h)
  where
    and_false : (b : Bool) → (b && false) ≡ false
    and_false true = refl
    and_false false = refl
next_some cards (b ∷ rest) h = omega arith
