-- The first fault of a list of cards.
use Rattle.std.proofs.Common.{◌≡◌, ℕ, zero, suc, ◌+◌, ◌<◌, ◌≤◌, Bool, true, false, List, [], ◌∷◌, length, take, refl, sym, ap, subst, ◌∙◌, arith, Option, Some, None, inl, inr}
use Rattle.std.specs.Prelude.{◌⊎◌, slice_get}
use Rattle.f_tree.specs.RefusalRows.{number_of}
use Rattle.f_tree.specs.declared.refusals.Kind.{Kind}
use Rattle.f_tree.specs.declared.refusals.Kind.TheVariants.{CharacterOutsideSet, BadLabelField, TooManyContinuations, ContinuationWithoutStatement, TextPastColumn72}
use Rattle.fortran_text.specs.CardRows.{open_behind, open_after, has_character_outside, has_bad_field, is_twentieth, is_unopened, has_text_past, holds}
use Rattle.fortran_text.specs.Cards.{Card}
use Rattle.fortran_text.specs.FirstFault.{IsFirst, IsSound}
use Rattle.fortran_text.specs.KindsOfCards.{kind_of, text_of}
use Rattle.cards.specs.Passes.{least_row, row_of, placed, fault_or, fault_from}
use Rattle.cards.specs.declared.faults.Fault.{Fault}

-- A fault is the first, or there is none.
abbrev pub IsFound : (ℕ → Kind → Type 0) → Option Fault → Type 0
IsFound Faults None = IsSound Faults
IsFound Faults (Some fault) = IsFirst Faults fault.card fault.kind

-- The five rows of one card, each by its test.
pub data Row (a b c d e : Bool) (kind : Kind) : Type 0 where
  first : a ≡ true → kind ≡ CharacterOutsideSet → Row a b c d e kind
  second : b ≡ true → kind ≡ BadLabelField → Row a b c d e kind
  third : c ≡ true → kind ≡ TooManyContinuations → Row a b c d e kind
  fourth : d ≡ true → kind ≡ ContinuationWithoutStatement → Row a b c d e kind
  fifth : e ≡ true → kind ≡ TextPastColumn72 → Row a b c d e kind

row_number : (a b c d e : Bool) (kind : Kind) → Row a b c d e kind → number_of kind ≤ 5
row_number a b c d e kind (first h is) = omega (arith, ap number_of is)
row_number a b c d e kind (second h is) = omega (arith, ap number_of is)
row_number a b c d e kind (third h is) = omega (arith, ap number_of is)
row_number a b c d e kind (fourth h is) = omega (arith, ap number_of is)
row_number a b c d e kind (fifth h is) = omega (arith, ap number_of is)

abbrev pub IsLeastRow : Bool → Bool → Bool → Bool → Bool → Option Kind → Type 0
IsLeastRow a b c d e None = (k : Kind) → Row a b c d e k → ⊥
IsLeastRow a b c d e (Some kind) = Row a b c d e kind × ((k : Kind) → Row a b c d e k → number_of kind ≤ number_of k)

least_is : (a b c d e : Bool) → IsLeastRow a b c d e (least_row a b c d e)
least_is true b c d e = (first refl refl, go)
  where
    go : (k : Kind) → Row true b c d e k → 1 ≤ number_of k
    go k (first h is) = omega (arith, ap number_of is)
    go k (second h is) = omega (arith, ap number_of is)
    go k (third h is) = omega (arith, ap number_of is)
    go k (fourth h is) = omega (arith, ap number_of is)
    go k (fifth h is) = omega (arith, ap number_of is)
least_is false true c d e = (second refl refl, go)
  where
    go : (k : Kind) → Row false true c d e k → 2 ≤ number_of k
    go k (first h is) = absurd (cc h)
    go k (second h is) = omega (arith, ap number_of is)
    go k (third h is) = omega (arith, ap number_of is)
    go k (fourth h is) = omega (arith, ap number_of is)
    go k (fifth h is) = omega (arith, ap number_of is)
least_is false false true d e = (third refl refl, go)
  where
    go : (k : Kind) → Row false false true d e k → 3 ≤ number_of k
    go k (first h is) = absurd (cc h)
    go k (second h is) = absurd (cc h)
    go k (third h is) = omega (arith, ap number_of is)
    go k (fourth h is) = omega (arith, ap number_of is)
    go k (fifth h is) = omega (arith, ap number_of is)
least_is false false false true e = (fourth refl refl, go)
  where
    go : (k : Kind) → Row false false false true e k → 4 ≤ number_of k
    go k (first h is) = absurd (cc h)
    go k (second h is) = absurd (cc h)
    go k (third h is) = absurd (cc h)
    go k (fourth h is) = omega (arith, ap number_of is)
    go k (fifth h is) = omega (arith, ap number_of is)
least_is false false false false true = (fifth refl refl, go)
  where
    go : (k : Kind) → Row false false false false true k → 5 ≤ number_of k
    go k (first h is) = absurd (cc h)
    go k (second h is) = absurd (cc h)
    go k (third h is) = absurd (cc h)
    go k (fourth h is) = absurd (cc h)
    go k (fifth h is) = omega (arith, ap number_of is)
least_is false false false false false = go
  where
    go : (k : Kind) → Row false false false false false k → ⊥
    go k (first h is) = cc h
    go k (second h is) = cc h
    go k (third h is) = cc h
    go k (fourth h is) = cc h
    go k (fifth h is) = cc h

-- a row that holds at a card is one of these, and the other way round
abbrev pub CardRow : Bool → Option ℕ → Card → Kind → Type 0
CardRow refused before card kind =
    Row (has_character_outside card.columns) (has_bad_field card.columns) (is_twentieth (kind_of card.columns) before) (is_unopened (kind_of card.columns) before)
    (has_text_past refused card) kind

row_from_holds : (refused : Bool) (before : Option ℕ) (card : Card) (kind : Kind) → holds refused before card kind ≡ true → CardRow refused before card kind
unfolding holds
row_from_holds refused before card CharacterOutsideSet h = first h refl
row_from_holds refused before card BadLabelField h = second h refl
row_from_holds refused before card TooManyContinuations h = third h refl
row_from_holds refused before card ContinuationWithoutStatement h = fourth h refl
row_from_holds refused before card TextPastColumn72 h = fifth h refl
row_from_holds refused before card _ h = absurd (cc h)

holds_from_row : (refused : Bool) (before : Option ℕ) (card : Card) (kind : Kind) → CardRow refused before card kind → holds refused before card kind ≡ true
unfolding holds
holds_from_row refused before card kind (first h is) = ap (holds refused before card) is ∙ h
holds_from_row refused before card kind (second h is) = ap (holds refused before card) is ∙ h
holds_from_row refused before card kind (third h is) = ap (holds refused before card) is ∙ h
holds_from_row refused before card kind (fourth h is) = ap (holds refused before card) is ∙ h
holds_from_row refused before card kind (fifth h is) = ap (holds refused before card) is ∙ h

pub holds_number : (refused : Bool) (before : Option ℕ) (card : Card) (kind : Kind) → holds refused before card kind ≡ true → number_of kind ≤ 5
holds_number refused before card kind h = row_number _ _ _ _ _ kind (row_from_holds refused before card kind h)

abbrev pub IsRowOf : Bool → Option ℕ → Card → Option Kind → Type 0
IsRowOf refused before card None = (k : Kind) → holds refused before card k ≡ true → ⊥
IsRowOf refused before card (Some kind) = (holds refused before card kind ≡ true) × ((k : Kind) → holds refused before card k ≡ true → number_of kind ≤ number_of k)

row_of_is : (refused : Bool) (before : Option ℕ) (card : Card) → IsRowOf refused before card (row_of refused before card)
unfolding row_of
row_of_is refused before card = go (least_row a b c d e) (least_is a b c d e)
  where
    a : Bool
    a = has_character_outside card.columns

    b : Bool
    b = has_bad_field card.columns

    c : Bool
    c = is_twentieth (kind_of card.columns) before

    d : Bool
    d = is_unopened (kind_of card.columns) before

    e : Bool
    e = has_text_past refused card

    go : (row : Option Kind)
        → IsLeastRow (has_character_outside card.columns) (has_bad_field card.columns) (is_twentieth (kind_of card.columns) before) (is_unopened (kind_of
        card.columns) before) (has_text_past refused card) row → IsRowOf refused before card row
    go None h = λ k held. h k (row_from_holds refused before card k held)
    go (Some kind) h = (holds_from_row refused before card kind h.0, λ k held. h.1 k (row_from_holds refused before card k held))

-- A row holds at a card of a list, whose first card has a number and before which something stands open.
pub data RowAt (refused : Bool) (before : Option ℕ) (number : ℕ) (cards : List Card) (card : ℕ) (kind : Kind) : Type 0 where
  row_at : (place : ℕ) (found : Card) → card ≡ number + place → slice_get cards place ≡ Some found → holds refused (open_after before (take place cards)) found kind ≡ true
      → RowAt refused before number cards card kind

pub row_in_file : (refused : Bool) (before : Option ℕ) (number : ℕ) (cards : List Card) (card : ℕ) (kind : Kind) → RowAt refused before number cards card kind
    → (number ≤ card) × (number_of kind ≤ 5) × (card < number + length cards)
row_in_file refused before number cards card kind (row_at place found is at h) =
    (omega arith, holds_number refused (open_after before (take place cards)) found kind h, omega (arith, below place cards found at))
  where
    below : (place : ℕ) (cards : List Card) (found : Card) → slice_get cards place ≡ Some found → place < length cards
    below zero [] found h = absurd (cc h)
    below (suc place) [] found h = absurd (cc h)
    below zero (c ∷ cards) found h = omega arith
    below (suc place) (c ∷ cards) found h = let low = below place cards found h in omega (arith, low)

-- a row of more cards stands at the first or behind it
abbrev pub AtFirst : Bool → Option ℕ → ℕ → Card → ℕ → Kind → Type 0
AtFirst refused before number found card kind = (card ≡ number) × (holds refused before found kind ≡ true)

split : (refused : Bool) (before : Option ℕ) (number : ℕ) (found : Card) (more : List Card) (card : ℕ) (kind : Kind) → RowAt refused before number (found ∷ more) card kind
    → AtFirst refused before number found card kind ⊎ RowAt refused (open_behind (kind_of found.columns) (text_of found.columns) before) (suc number) more card kind
unfolding open_after
split refused before number found more card kind (row_at zero other is at h) =
    let same : found ≡ other = cc at in
    inl (omega arith, subst (λ c. holds refused before c kind ≡ true) (sym same) h)
split refused before number found more card kind (row_at (suc place) other is at h) = inr (row_at place other (omega arith) at h)

at_first : (refused : Bool) (before : Option ℕ) (number : ℕ) (found : Card) (more : List Card) (kind : Kind) → holds refused before found kind ≡ true
    → RowAt refused before number (found ∷ more) number kind
unfolding open_after
at_first refused before number found more kind h = row_at 0 found (omega arith) refl h

behind_first : (refused : Bool) (before : Option ℕ) (number : ℕ) (found : Card) (more : List Card) (card : ℕ) (kind : Kind)
    → RowAt refused (open_behind (kind_of found.columns) (text_of found.columns) before) (suc number) more card kind → RowAt refused before number (found ∷ more) card kind
unfolding open_after
behind_first refused before number found more card kind (row_at place other is at h) = row_at (suc place) other (omega arith) at h

-- one card more
module _ (refused : Bool) (before : Option ℕ) (number : ℕ) (found : Card) (more : List Card) where
  next : Option ℕ
  next = open_behind (kind_of found.columns) (text_of found.columns) before

  step_some : (kind : Kind) → IsRowOf refused before found (Some kind) → IsFirst (RowAt refused before number (found ∷ more)) number kind
  step_some kind h = record {
    is = at_first refused before number found more kind h.0;
    least = λ c k row. (row_in_file refused before number (found ∷ more) c k row).0;
    least_number = λ c k row same. here c k same (split refused before number found more c k row);
  }
    where
      here : (c : ℕ) (k : Kind) → c ≡ number
          → AtFirst refused before number found c k ⊎ RowAt refused (open_behind (kind_of found.columns) (text_of found.columns) before) (suc number) more c k
          → number_of kind ≤ number_of k
      here c k same (inl held) = h.1 k held.1
      here c k same (inr row) = absurd (omega (
        arith,
        (row_in_file refused (open_behind (kind_of found.columns) (text_of found.columns) before) (suc number) more c k
            row).0,
      ))

  step_none : IsRowOf refused before found None → (later : Option Fault)
      → IsFound (RowAt refused (open_behind (kind_of found.columns) (text_of found.columns) before) (suc number) more) later
      → IsFound (RowAt refused before number (found ∷ more)) later
  step_none h None sound = λ c k row. go c k (split refused before number found more c k row)
    where
      go : (c : ℕ) (k : Kind)
          → AtFirst refused before number found c k ⊎ RowAt refused (open_behind (kind_of found.columns) (text_of found.columns) before) (suc number) more c k → ⊥
      go c k (inl held) = h k held.1
      go c k (inr row) = sound c k row
  step_none h (Some fault) is_first = record {
    is = behind_first refused before number found more fault.card fault.kind is_first.is;
    least = λ c k row. low c k (split refused before number found more c k row);
    least_number = λ c k row same. low_number c k same (split refused before number found more c k row);
  }
    where
      low : (c : ℕ) (k : Kind)
          → AtFirst refused before number found c k ⊎ RowAt refused (open_behind (kind_of found.columns) (text_of found.columns) before) (suc number) more c k
          → fault.card ≤ c
      low c k (inl held) = absurd (h k held.1)
      low c k (inr row) = is_first.least c k row

      low_number : (c : ℕ) (k : Kind) → c ≡ fault.card
          → AtFirst refused before number found c k ⊎ RowAt refused (open_behind (kind_of found.columns) (text_of found.columns) before) (suc number) more c k
          → number_of fault.kind ≤ number_of k
      low_number c k same (inl held) = absurd (h k held.1)
      low_number c k same (inr row) = is_first.least_number c k row same

  step : (row : Option Kind) → IsRowOf refused before found row → (later : Option Fault)
      → IsFound (RowAt refused (open_behind (kind_of found.columns) (text_of found.columns) before) (suc number) more) later
      → IsFound (RowAt refused before number (found ∷ more)) (fault_or (placed number row) later)
  step None h later is = step_none h later is
  step (Some kind) h later is = step_some kind h

nothing_found : (refused : Bool) (before : Option ℕ) (number card : ℕ) (kind : Kind) → RowAt refused before number [] card kind → ⊥
nothing_found refused before number card kind row = absurd (omega (arith, row_in_file refused before number [] card kind row))

pub found_first : (refused : Bool) (cards : List Card) (before : Option ℕ) (number : ℕ)
    → IsFound (RowAt refused before number cards) (fault_from refused before number cards)
unfolding fault_from
found_first refused [] before number = λ c k row. nothing_found refused before number c k row
found_first refused (card ∷ more) before number =
    step refused before number card more (row_of refused before card) (row_of_is refused before card)
    (fault_from refused (open_behind (kind_of card.columns) (text_of card.columns) before) (suc number) more)
    (found_first refused more (open_behind (kind_of card.columns) (text_of card.columns) before) (suc number))
