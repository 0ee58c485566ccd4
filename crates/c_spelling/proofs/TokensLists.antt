-- Items with a comma between each two, before what closes them (C89, 3.1.6).
use Rattle.std.specs.Prelude.{◌≡◌, ℕ, Bool, true, List, [], ◌∷◌, ◌++◌, codes}
use Rattle.std.specs.List.{list_all}
use Rattle.std.proofs.Common.{refl, ap}
use Rattle.c_laws.specs.c_tree.Tokens.{Token, Sign}
use Rattle.c_laws.specs.c_tree.CWords.{ASign, Separated, last_item, one_item}
use Rattle.c_text.specs.Lists.{after_commas, between_commas}
use Rattle.c_laws.proofs.TokenSpellings.{and-first, and-second}
use Rattle.c_spelling.proofs.Tokens.{inside, in_words, Piece, blank, comma}

-- what stands before a sign
abbrev pub Before : List ℕ → (List Token → List Token → Type 0) → List Token → List Token → Type 0
Before sign Spells here behind = (later : List Token) → ASign sign behind later → Spells here later

-- what stands behind the first of some items is a comma with the others
after_first : {T : Type 0} {Item : T → List Token → List Token → Type 0} {closing : List ℕ} {items : List T} {p q : List Token} → (text : T → List ℕ) → Separated Item closing items p q
    → after_commas text items ≡ 44 ∷ 32 ∷ between_commas text items
after_first text (last_item x a) = refl
after_first text (one_item x a more) = refl

-- items with commas before what closes them, where each is read
pub separated_piece : {T : Type 0} {Item : T → List Token → List Token → Type 0} {closing : List ℕ} {items : List T} {p q : List Token}
    → (text : T → List ℕ) (good : T → Bool) → ((one : T) (p q : List Token) → good one ≡ true → Item one p q → Piece (text one) (Item one))
    → list_all good items ≡ true → Separated Item closing items p q → Piece (between_commas text items) (Before closing (Separated Item closing items))
separated_piece text good each all (last_item {one = one} {p = p} {q = q} x a) =
    let piece : Piece (text one) _ = each one p q (and-first (good one) true all) x in
    record {
      tokens = piece.tokens;
      reads = λ first rest more clear r. inside (text one) [] (first ∷ rest) (piece.reads first rest more clear r);
      spells = λ more. λ later end. last_item (piece.spells more) end;
    }
separated_piece text good each all (one_item {one = one} {later = later} {p = p} {q = q} x a more) =
    let piece : Piece (text one) _ = each one p q (and-first (good one) (list_all good later) all) x in
    let others : Piece (between_commas text later) _ = separated_piece text good each (and-second (good one) (list_all good later) all) more in
    record {
      tokens = λ behind. piece.tokens (Sign (codes ",") ∷ others.tokens behind);
      reads = λ first rest behind clear r.
          inside (text one) (after_commas text later) (first ∷ rest)
          (in_words (ap (λ z. text one ++ (z ++ first ∷ rest)) (after_first text more))
          (piece.reads 44 (32 ∷ (between_commas text later ++ first ∷ rest)) (Sign (codes ",") ∷ others.tokens behind) refl
          (comma (blank (others.reads first rest behind clear r)))));
      spells = λ behind. λ end is. one_item (piece.spells (Sign (codes ",") ∷ others.tokens behind)) refl (others.spells behind end is);
    }
