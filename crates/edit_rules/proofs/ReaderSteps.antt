-- What a reader owes, from what it found in its line.
use Rattle.std.proofs.Common.{◌≡◌, ℕ, ◌+◌, ◌-◌, ◌<◌, ◌≤◌, ◌==◌, Bool, true, false, Some, Result, ℤ, List, [], ◌∷◌, ◌++◌, length, take, drop, get_or, refl, sym, ap, ◌∙◌, arith, length-drop, drop-drop, add-zero, add_assoc}
use Rattle.std.proofs.lemmas.List.{get_or-drop, take_more}
use Rattle.std.proofs.lemmas.List.Sums.{prefix_len-le-length}
use Rattle.std.proofs.lemmas.Bool.{eq-eqb, ne_eqb}
use Rattle.edit_meaning.specs.ListInput.{Kind, Place, Inside, Given, Piece, run_length, word_length, behind_constant, piece_before, piece, text_constant, repeated_as, constant_as, counted_as, value_as, count_before, digit_count, begins_with, given_number, given_truth, int_word, logical_word}
use Rattle.edit_rules.specs.ListPlaces.{int_word_of_blanks}
use Rattle.edit_rules.proofs.ListScans.{int_words, word_characters}
use Rattle.edit_rules.specs.declared.list_reader.ItemKind.{ItemKind}
use Rattle.edit_rules.specs.declared.list_reader.ItemKind.TheVariants as kinds
use Rattle.edit_rules.specs.Reader.{kind_of, place_in, StandsIn}
use Rattle.edit_rules.specs.Answers.{Answers}
use Rattle.edit_rules.specs.declared.list_reader.ListReader.{ListReader}
use Rattle.edit_rules.specs.declared.list_reader.Next.{Next}
use Rattle.edit_rules.specs.declared.list_reader.ListItem.TheVariants as item
use Rattle.edit_rules.specs.declared.list_reader.Doing.TheVariants as doing

piece_two : (more : ℕ) (constant run rest : List ℕ) → 1 < length rest → get_or rest 1 0 ≡ 39
    → piece_before more constant run rest ≡ Piece (run ++ get_or rest 0 0 ∷ []) true (Inside more constant (drop 2 rest))
piece_two more constant run [] h e = absurd (omega arith)
piece_two more constant run (q ∷ []) h e = absurd (omega arith)
piece_two more constant run (q ∷ c ∷ cs) h e = let t : (c == 39) ≡ true = eq-eqb c 39 e in rw t refl

piece_one : (more : ℕ) (constant run rest : List ℕ) → 0 < length rest → (1 < length rest → get_or rest 1 0 ≡ 39 → ⊥)
    → piece_before more constant run rest ≡ Piece run false (behind_constant more constant (drop 1 rest))
piece_one more constant run [] h e = absurd (omega arith)
piece_one more constant run (q ∷ []) h e = refl
piece_one more constant run (q ∷ c ∷ cs) h e = let t : (c == 39) ≡ false = ne_eqb c 39 (e (omega arith)) in rw t refl

piece_open : (more : ℕ) (constant run rest : List ℕ) → length rest ≡ 0 → piece_before more constant run rest ≡ Piece run true (Inside more constant [])
piece_open more constant run [] h = refl
piece_open more constant run (q ∷ cs) h = absurd (omega arith)

empty : (rest : List ℕ) → length rest ≡ 0 → rest ≡ []
empty [] h = refl
empty (c ∷ cs) h = absurd (omega arith)

plus_one : (from r to : ℕ) → to ≡ from + r → from + (r + 1) ≡ to + 1
plus_one from r to t = omega arith

plus_two : (from r to : ℕ) → to ≡ from + r → from + (r + 2) ≡ to + 2
plus_two from r to t = omega arith

count_on : (from r to : ℕ) → to ≡ from + r → to + 1 - from ≡ r + 1
count_on from r to t = omega arith

count_to : (from r to : ℕ) → to ≡ from + r → to - from ≡ r
count_to from r to t = omega arith

-- the text of a doubled apostrophe goes on behind it
pub run_two : (old : ListReader) (line : List ℕ) (from to more constant : ℕ) → from ≤ length line → constant ≤ length line
    → to ≡ from + run_length (drop from line) → to + 1 < length line → get_or line (to + 1) 0 ≡ 39
    → Answers old line
    (piece_before more (drop constant line) (take (run_length (drop from line)) (drop from line)) (drop (run_length (drop from line)) (drop from line)))
    (record { item = item.Text from (to + 1) true; reader = record { place = to + 2; doing = doing.Inside more constant } })
run_two old line from to more constant f k t l q =
    let front : List ℕ = drop from line in
    let r : ℕ = run_length front in
    let n : length front ≡ length line - from = length-drop from line in
    let n' : length (drop r front) ≡ length front - r = length-drop r front in
    let second : get_or (drop r front) 1 0 ≡ 39 =
    get_or-drop r front 1 0 ∙ get_or-drop from line (r + 1) 0 ∙ ap (λ i. get_or line i 0) (plus_one from r to t) ∙ q in
    let first : get_or (drop r front) 0 0 ≡ get_or front r 0 = get_or-drop r front 0 0 ∙ ap (λ i. get_or front i 0) (add-zero r) in
    let text : take (to + 1 - from) front ≡ take r front ++ get_or (drop r front) 0 0 ∷ [] =
    ap (λ i. take i front) (count_on from r to t) ∙ take_more front r 0 (omega arith) ∙ ap (λ z. take r front ++ z ∷ []) (sym first) in
    let tail : drop (to + 2) line ≡ drop 2 (drop r front) = sym (drop-drop 2 r front ∙ drop-drop (r + 2) from line ∙ ap (λ i. drop i line) (plus_two from r to t)) in
    record {
      gives = ap (λ z. Piece z true (Inside more (drop constant line) (drop (to + 2) line))) text
          ∙ ap (λ z. Piece (take r front ++ get_or (drop r front) 0 0 ∷ []) true (Inside more (drop constant line) z)) tail
          ∙ sym (piece_two more (drop constant line) (take r front) (drop r front) (omega arith) second);
      stands = λ s. record { place = omega arith; constant = k };
      within = (omega arith, omega arith, λ h. omega arith);
      keeps = tt;
    }

pub run_one : (old : ListReader) (line : List ℕ) (from to more constant : ℕ) (next : ListReader) → from ≤ length line → constant ≤ length line
    → to ≡ from + run_length (drop from line) → to < length line → (to + 1 < length line → get_or line (to + 1) 0 ≡ 39 → ⊥)
    → place_in line next ≡ behind_constant more (drop constant line) (drop (to + 1) line) → StandsIn next line
    → Answers old line
    (piece_before more (drop constant line) (take (run_length (drop from line)) (drop from line)) (drop (run_length (drop from line)) (drop from line)))
    (record { item = item.Text from to false; reader = next })
run_one old line from to more constant next f k t l q p s =
    let front : List ℕ = drop from line in
    let r : ℕ = run_length front in
    let n : length front ≡ length line - from = length-drop from line in
    let n' : length (drop r front) ≡ length front - r = length-drop r front in
    let second : 1 < length (drop r front) → get_or (drop r front) 1 0 ≡ 39 → ⊥ = λ (h : 1 < length (drop r front)) (e : get_or (drop r front) 1 0 ≡ 39).
    q (omega arith) (sym (get_or-drop r front 1 0 ∙ get_or-drop from line (r + 1) 0 ∙ ap (λ i. get_or line i 0) (plus_one from r to t)) ∙ e) in
    let tail : drop (to + 1) line ≡ drop 1 (drop r front) = sym (drop-drop 1 r front ∙ drop-drop (r + 1) from line ∙ ap (λ i. drop i line) (plus_one from r to t)) in
    record {
      gives = ap (λ i. Piece (take i front) false (place_in line next)) (count_to from r to t)
          ∙ ap (λ z. Piece (take r front) false z) (p ∙ ap (λ z. behind_constant more (drop constant line) z) tail)
          ∙ sym (piece_one more (drop constant line) (take r front) (drop r front) (omega arith) second);
      stands = λ _. s;
      within = (omega arith, omega arith);
      keeps = tt;
    }

pub text_plain : (more : ℕ) (constant rest : List ℕ) → begins_with 39 rest ≡ false
    → text_constant more constant rest ≡ Piece (take (word_length rest) rest) false (behind_constant more constant (drop (word_length rest) rest))
text_plain more constant [] h = refl
text_plain more constant (c ∷ cs) h = rw h refl

pub text_quoted : (more : ℕ) (constant rest : List ℕ) → begins_with 39 rest ≡ true → text_constant more constant rest ≡ piece more constant (drop 1 rest)
text_quoted more constant [] h = absurd (cc)
text_quoted more constant (c ∷ cs) h = rw h refl

pub value_counted : (kind : Kind) (line : List ℕ) (at count : ℕ) → Some count ≡ count_before (drop at line)
    → repeated_as kind (count - 1) (drop (at + digit_count (drop at line) + 1) line) ≡ value_as kind (drop at line)
value_counted kind line at count e =
    ap (repeated_as kind (count - 1)) (sym (drop-drop 1 (digit_count (drop at line)) (drop at line) ∙ drop-drop (digit_count (drop at line) + 1) at line
    ∙ ap (λ i. drop i line) (sym (add_assoc at (digit_count (drop at line)) 1))))
    ∙ ap (λ o. counted_as kind o (drop at line)) e

pub answers-same : (old : ListReader) (line : List ℕ) (wanted wanted' : Given) (next : Next) → wanted ≡ wanted' → Answers old line wanted next → Answers old line wanted' next
answers-same old line wanted wanted' next e a = record { gives = a.gives ∙ e; stands = a.stands; within = a.within; keeps = a.keeps }

word_of : (line : List ℕ) (at w : ℕ) → w ≡ word_length (drop at line) → take (at + w - at) (drop at line) ≡ take (word_length (drop at line)) (drop at line)
word_of line at w e = ap (λ i. take i (drop at line)) (back at w ∙ e)
  where
    back : (at w : ℕ) → at + w - at ≡ w
    back at w = omega arith

behind_word : (line : List ℕ) (at w : ℕ) → w ≡ word_length (drop at line) → drop (at + w) line ≡ drop (word_length (drop at line)) (drop at line)
behind_word line at w e = sym (drop-drop w at line) ∙ ap (λ i. drop i (drop at line)) e

pub int_given : (kind : ItemKind) (line : List ℕ) (at w more : ℕ) (word : Result ℤ ℕ) (place : Place) → kind ≡ kinds.Int → w ≡ word_length (drop at line)
    → word ≡ int_word_of_blanks (take (at + w - at) (drop at line)) → place ≡ behind_constant more (drop at line) (drop (at + w) line)
    → given_number word place ≡ constant_as (kind_of kind) more (drop at line)
int_given kind line at w more word place k e n p =
    ap (λ x. given_number x place) (n ∙ ap int_word_of_blanks (word_of line at w e) ∙ int_words (take (word_length (drop at line)) (drop at line)) (word_characters (drop at line)))
    ∙ ap (given_number (int_word (take (word_length (drop at line)) (drop at line)))) (p ∙ ap (behind_constant more (drop at line)) (behind_word line at w e))
    ∙ ap (λ k. constant_as (kind_of k) more (drop at line)) (sym k)

pub truth_given : (kind : ItemKind) (line : List ℕ) (at w more : ℕ) (word : Result Bool ℕ) (place : Place) → kind ≡ kinds.Logical → w ≡ word_length (drop at line)
    → word ≡ logical_word (take (at + w - at) (drop at line)) → place ≡ behind_constant more (drop at line) (drop (at + w) line)
    → given_truth word place ≡ constant_as (kind_of kind) more (drop at line)
truth_given kind line at w more word place k e n p =
    ap (λ x. given_truth x place) (n ∙ ap logical_word (word_of line at w e))
    ∙ ap (given_truth (logical_word (take (word_length (drop at line)) (drop at line)))) (p ∙ ap (behind_constant more (drop at line)) (behind_word line at w e))
    ∙ ap (λ k. constant_as (kind_of k) more (drop at line)) (sym k)

pub plain_given : (line : List ℕ) (at end more : ℕ) (place : Place) → end ≡ at + word_length (drop at line) → begins_with 39 (drop at line) ≡ false
    → place ≡ behind_constant more (drop at line) (drop end line)
    → Piece (take (end - at) (drop at line)) false place ≡ text_constant more (drop at line) (drop at line)
plain_given line at end more place e b p =
    ap (λ z. Piece z false place) (ap (λ n. take (n - at) (drop at line)) e ∙ word_of line at (word_length (drop at line)) refl)
    ∙ ap (Piece (take (word_length (drop at line)) (drop at line)) false)
    (p ∙ ap (behind_constant more (drop at line)) (ap (λ n. drop n line) e ∙ behind_word line at (word_length (drop at line)) refl))
    ∙ sym (text_plain more (drop at line) (drop at line) b)

pub quoted_given : (line : List ℕ) (at more : ℕ) → begins_with 39 (drop at line) ≡ true
    → piece more (drop at line) (drop (at + 1) line) ≡ text_constant more (drop at line) (drop at line)
quoted_given line at more b = ap (piece more (drop at line)) (sym (drop-drop 1 at line)) ∙ sym (text_quoted more (drop at line) (drop at line) b)

pub word_within : (line : List ℕ) (at end : ℕ) → at ≤ length line → end ≡ at + word_length (drop at line) → end ≤ length line
word_within line at end h e =
    let w : word_length (drop at line) ≤ length (drop at line) = prefix_len-le-length _ (drop at line) in
    let n : length (drop at line) ≡ length line - at = length-drop at line in omega arith
