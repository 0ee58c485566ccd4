-- Files past a limit.
use Rattle.std.proofs.Common.{◌≡◌, ℕ, suc, ◌<◌, ◌≤◌, Bool, true, false, List, [], ◌∷◌, ◌++◌, length, take, drop, get_or, map, max, min, refl, sym, ap, subst, ◌∙◌, arith, Some, None, inl, inr}
use Rattle.std.specs.Prelude.{◌==◌, ◌⊎◌, nat_lt, if◌then◌else◌}
use Rattle.std.proofs.Math.Seq.{take-suc}
use Rattle.std.proofs.lemmas.Bool.{cases_Bool, cases_lt, lt-ltb, le-ltb}
use Rattle.std.proofs.lemmas.List.{take-append-drop, take_all, length-take, length-take-le}
use Rattle.fortran_text.specs.Cards.{Card, card_of, cards_of}
use Rattle.fortran_text.specs.FirstFault.{most_bytes, most_cards, judged, card_of_byte, lesser, too_long}
use Rattle.fortran_text.specs.Lines.{before_lines, lines}
use Rattle.cards.specs.Passes.{ends_with}
use Rattle.cards.proofs.LineLemmas.{lines-nil, lines-end, lines-inner}

pub most_bytes-is : most_bytes ≡ 16777216
unfolding most_bytes
most_bytes-is = refl

-- the number of lines, byte by byte
before_length : (b : ℕ) (ls : List (List ℕ)) → length (before_lines b ls) ≡ max 1 (length ls)
unfolding before_lines
before_length b [] = refl
before_length b (l ∷ ls) = omega arith

count_end : (b : ℕ) (rest : List ℕ) → b == 10 ≡ true → length (lines (b ∷ rest)) ≡ suc (length (lines rest))
count_end b rest h = ap length (lines-end b rest h)

count_inner : (b : ℕ) (rest : List ℕ) → b == 10 ≡ false → length (lines (b ∷ rest)) ≡ max 1 (length (lines rest))
count_inner b rest h = ap length (lines-inner b rest h) ∙ before_length b (lines rest)

grow_step : (b : ℕ) (xs zs : List ℕ) → length (lines xs) ≤ length (lines zs) → (b == 10 ≡ true) ⊎ (b == 10 ≡ false) → length (lines (b ∷ xs)) ≤ length (lines (b ∷ zs))
grow_step b xs zs h (inl e) = omega (arith, count_end b xs e, count_end b zs e)
grow_step b xs zs h (inr e) = omega (arith, count_inner b xs e, count_inner b zs e)

pub lines_grow : (xs ys : List ℕ) → length (lines xs) ≤ length (lines (xs ++ ys))
lines_grow [] ys = omega (arith, ap length lines-nil)
lines_grow (b ∷ xs) ys = grow_step b xs (xs ++ ys) (lines_grow xs ys) (cases_Bool (b == 10))

-- one byte more
count_one : (x : ℕ) → (x == 10 ≡ true) ⊎ (x == 10 ≡ false) → length (lines (x ∷ [])) ≡ 1
count_one x (inl e) = omega (arith, count_end x [] e, ap length lines-nil)
count_one x (inr e) = omega (arith, count_inner x [] e, ap length lines-nil)

push_end_step : (b : ℕ) (xs zs : List ℕ) → length (lines zs) ≡ suc (length (lines xs)) → 0 < length (lines xs) → (b == 10 ≡ true) ⊎ (b == 10 ≡ false)
    → length (lines (b ∷ zs)) ≡ suc (length (lines (b ∷ xs)))
push_end_step b xs zs h some (inl e) = omega (arith, count_end b xs e, count_end b zs e)
push_end_step b xs zs h some (inr e) = omega (arith, count_inner b xs e, count_inner b zs e)

some_lines : (b : ℕ) (rest : List ℕ) → (b == 10 ≡ true) ⊎ (b == 10 ≡ false) → 0 < length (lines (b ∷ rest))
some_lines b rest (inl e) = omega (arith, count_end b rest e)
some_lines b rest (inr e) = omega (arith, count_inner b rest e)

pub push_end : (xs : List ℕ) (x : ℕ) → ends_with 10 xs ≡ true → length (lines (xs ++ x ∷ [])) ≡ suc (length (lines xs))
unfolding ends_with
push_end [] x h = absurd (cc h)
push_end (b ∷ []) x h = omega (arith, count_end b (x ∷ []) h, count_one x (cases_Bool (x == 10)), count_end b [] h, ap length lines-nil)
push_end (b ∷ c ∷ more) x h = push_end_step b (c ∷ more) ((c ∷ more) ++ x ∷ []) (push_end (c ∷ more) x h) (some_lines c more (cases_Bool (c == 10))) (cases_Bool (b == 10))

push_inner_step : (b : ℕ) (xs zs : List ℕ) → length (lines zs) ≡ length (lines xs) → (b == 10 ≡ true) ⊎ (b == 10 ≡ false)
    → length (lines (b ∷ zs)) ≡ length (lines (b ∷ xs))
push_inner_step b xs zs h (inl e) = omega (arith, count_end b xs e, count_end b zs e)
push_inner_step b xs zs h (inr e) = omega (arith, count_inner b xs e, count_inner b zs e)

pub push_inner : (xs : List ℕ) (x : ℕ) → 0 < length xs → ends_with 10 xs ≡ false → length (lines (xs ++ x ∷ [])) ≡ length (lines xs)
unfolding ends_with
push_inner [] x some h = absurd (omega arith)
push_inner (b ∷ []) x some h = omega (arith, count_inner b (x ∷ []) h, count_one x (cases_Bool (x == 10)), count_inner b [] h, ap length lines-nil)
push_inner (b ∷ c ∷ more) x some h = push_inner_step b (c ∷ more) ((c ∷ more) ++ x ∷ []) (push_inner (c ∷ more) x (omega arith) h) (cases_Bool (b == 10))

pub take_least : (n : ℕ) (xs : List ℕ) → take (min (length xs) n) xs ≡ take n xs
take_least n xs = either (cases_lt n (length xs))
  where
    either : (n < length xs) ⊎ (length xs ≤ n) → take (min (length xs) n) xs ≡ take n xs
    either (inl low) = let e : min (length xs) n ≡ n = omega arith in ap (λ m. take m xs) e
    either (inr high) = let e : min (length xs) n ≡ length xs = omega arith in ap (λ m. take m xs) e ∙ take_all (length xs) xs (omega arith) ∙ sym (take_all n xs high)

-- A file, with the number of lines in its front up to the limit on bytes.
module _ (bytes : List ℕ) where
  front : List ℕ
  front = take most_bytes bytes

  unfoldable pub count : ℕ
  count = length (lines (take most_bytes bytes))

  all_lines : count ≤ length (lines bytes)
  unfolding count
  all_lines = subst (λ w. length (lines (take most_bytes bytes)) ≤ length (lines w)) (take-append-drop most_bytes bytes) (lines_grow (take most_bytes bytes) (drop
      most_bytes bytes))

  pushed : most_bytes < length bytes → take (suc most_bytes) bytes ≡ take most_bytes bytes ++ get_or bytes most_bytes 0 ∷ []
  pushed long = take-suc bytes most_bytes 0 long

  pub byte_end : most_bytes < length bytes → ends_with 10 (take most_bytes bytes) ≡ true → card_of_byte (suc most_bytes) bytes ≡ suc count
  unfolding card_of_byte count
  byte_end long h = ap (λ w. length (lines w)) (pushed long) ∙ push_end (take most_bytes bytes) (get_or bytes most_bytes 0) h

  pub byte_inner : most_bytes < length bytes → ends_with 10 (take most_bytes bytes) ≡ false → card_of_byte (suc most_bytes) bytes ≡ count
  unfolding card_of_byte count
  byte_inner long h =
      ap (λ w. length (lines w)) (pushed long)
      ∙ push_inner (take most_bytes bytes) (get_or bytes most_bytes 0) (omega (arith, length-take-le most_bytes bytes (omega arith), most_bytes-is)) h

  byte_low : most_bytes < length bytes → (count ≤ card_of_byte (suc most_bytes) bytes) × (card_of_byte (suc most_bytes) bytes ≤ suc count)
  byte_low long = either (cases_Bool (ends_with 10 (take most_bytes bytes)))
    where
      either : (ends_with 10 (take most_bytes bytes) ≡ true) ⊎ (ends_with 10 (take most_bytes bytes) ≡ false)
          → (count ≤ card_of_byte (suc most_bytes) bytes) × (card_of_byte (suc most_bytes) bytes ≤ suc count)
      either (inl h) = (omega (arith, byte_end long h), omega (arith, byte_end long h))
      either (inr h) = (omega (arith, byte_inner long h), omega (arith, byte_inner long h))

  by_tests : (a b : Bool) → nat_lt most_cards (length (lines bytes)) ≡ a → nat_lt most_bytes (length bytes) ≡ b
      → too_long bytes ≡ lesser (if a then Some (suc most_cards) else None) (if b then Some (card_of_byte (suc most_bytes) bytes) else None)
  unfolding too_long
  by_tests a b ha hb =
      ap (λ x. lesser (if x then Some (suc most_cards) else None) (if nat_lt most_bytes (length bytes) then Some (card_of_byte (suc most_bytes) bytes) else None)) ha
      ∙ ap (λ y. lesser (if a then Some (suc most_cards) else None) (if y then Some (card_of_byte (suc most_bytes) bytes) else None)) hb

  pub limit_many : most_cards < count → too_long bytes ≡ Some (suc most_cards)
  unfolding lesser
  limit_many many = either (cases_lt most_bytes (length bytes))
    where
      lots : nat_lt most_cards (length (lines bytes)) ≡ true
      lots = lt-ltb most_cards (length (lines bytes)) (omega (arith, all_lines))

      either : (most_bytes < length bytes) ⊎ (length bytes ≤ most_bytes) → too_long bytes ≡ Some (suc most_cards)
      either (inl long) =
          let least : min (suc most_cards) (card_of_byte (suc most_bytes) bytes) ≡ suc most_cards = omega (arith, (byte_low long).0) in
          by_tests true true lots (lt-ltb most_bytes (length bytes) long) ∙ ap (λ n. Some n) least
      either (inr short) = by_tests true false lots (le-ltb most_bytes (length bytes) short)

  short_lines : length bytes ≤ most_bytes → count ≡ length (lines bytes)
  unfolding count
  short_lines short = ap (λ w. length (lines w)) (take_all most_bytes bytes short)

  pub limit_none : count ≤ most_cards → length bytes ≤ most_bytes → too_long bytes ≡ None
  unfolding lesser
  limit_none few short =
      by_tests false false (le-ltb most_cards (length (lines bytes)) (omega (arith, short_lines short))) (le-ltb most_bytes (length bytes) short)

  pub limit_byte : count ≤ most_cards → most_bytes < length bytes → too_long bytes ≡ Some (card_of_byte (suc most_bytes) bytes)
  unfolding lesser
  limit_byte few long = either (cases_lt most_cards (length (lines bytes)))
    where
      over : nat_lt most_bytes (length bytes) ≡ true
      over = lt-ltb most_bytes (length bytes) long

      either : (most_cards < length (lines bytes)) ⊎ (length (lines bytes) ≤ most_cards) → too_long bytes ≡ Some (card_of_byte (suc most_bytes) bytes)
      either (inl many) =
          let least : min (suc most_cards) (card_of_byte (suc most_bytes) bytes) ≡ card_of_byte (suc most_bytes) bytes = omega (arith, (byte_low long).1) in
          by_tests true true (lt-ltb most_cards (length (lines bytes)) many) over ∙ ap (λ n. Some n) least
      either (inr fewer) = by_tests false true (le-ltb most_cards (length (lines bytes)) fewer) over

  length_map : (ls : List (List ℕ)) → length (map card_of ls) ≡ length ls
  length_map [] = refl
  length_map (l ∷ ls) = ap suc (length_map ls)

  pub judged_length : length (judged bytes) ≡ min most_cards count
  unfolding judged cards_of count
  judged_length = length-take most_cards (map card_of (lines (take most_bytes bytes))) ∙ ap (min most_cards) (length_map (lines (take most_bytes bytes)))

  -- the limit stands behind the cards that are judged
  pub limit_late : (card : ℕ) → too_long bytes ≡ Some card → length (judged bytes) ≤ card
  limit_late card is = either (cases_lt most_cards count) (cases_lt most_bytes (length bytes))
    where
      either : (most_cards < count) ⊎ (count ≤ most_cards) → (most_bytes < length bytes) ⊎ (length bytes ≤ most_bytes) → length (judged bytes) ≤ card
      either (inl many) b = let same : suc most_cards ≡ card = cc (sym (limit_many many) ∙ is) in omega (arith, judged_length)
      either (inr few) (inl long) = let same : card_of_byte (suc most_bytes) bytes ≡ card = cc (sym (limit_byte few long)
          ∙ is) in omega (arith, judged_length, (byte_low long).0)
      either (inr few) (inr short) = let none : Some card ≡ None = sym is ∙ limit_none few short in absurd (cc none)

  cards_length : length (cards_of bytes) ≡ length (lines bytes)
  unfolding cards_of
  cards_length = length_map (lines bytes)

  -- a file within the limits is judged whole
  pub judged_whole : too_long bytes ≡ None → judged bytes ≡ cards_of bytes
  unfolding judged
  judged_whole is = either (cases_lt most_cards count) (cases_lt most_bytes (length bytes))
    where
      either : (most_cards < count) ⊎ (count ≤ most_cards) → (most_bytes < length bytes) ⊎ (length bytes ≤ most_bytes)
          → take most_cards (cards_of (take most_bytes bytes)) ≡ cards_of bytes
      either (inl many) b = let none : Some (suc most_cards) ≡ None = sym (limit_many many) ∙ is in absurd (cc none)
      either (inr few) (inl long) = let none : Some (card_of_byte (suc most_bytes) bytes) ≡ None = sym (limit_byte few long) ∙ is in absurd (cc none)
      either (inr few) (inr short) =
          ap (λ w. take most_cards (cards_of w)) (take_all most_bytes bytes short) ∙ all (cards_of bytes) refl
        where
          all : (cards : List Card) → cards ≡ cards_of bytes → take most_cards cards ≡ cards
          all cards same = take_all most_cards cards (omega (arith, ap length same, cards_length, short_lines short))
