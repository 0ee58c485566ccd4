-- Numbers before H count up to the greatest number that the code has: no text is longer.
use Rattle.std.proofs.Common.{◌≡◌, ℕ, zero, suc, ◌+◌, ◌*◌, ◌<◌, ◌≤◌, Bool, true, false, List, [], ◌∷◌, ◌++◌, length, drop, get_or, refl, sym, ap, ◌∙◌, Some, None, inl, inr, arith, append_assoc, add-one}
use Rattle.std.specs.Prelude.{◌&&◌, ◌==◌, ◌⊎◌, min, if◌then◌else◌}
use Rattle.std.specs.Char.{is_ascii_digit, digit_value, to_ascii_lowercase}
use Rattle.std.proofs.lemmas.Bool.{cases_lt}
use Rattle.std.proofs.lemmas.List.{length-drop, drop_all, append-nil}
use Rattle.std.proofs.Math.Seq.{drop-cons}
use Rattle.fortran_text.specs.CharactersOfText.{counting, behind, after, shown, characters_from}
use Rattle.fortran_text.specs.declared.characters.Character.{Character}
use Rattle.fortran_text.specs.declared.characters.Standing.{Standing}
use Rattle.fortran_text.specs.declared.characters.Standing.TheVariants.{Outside, Inside, Closed, Parted, Counted}
use Rattle.stmt_lex.specs.PlacesOfTokens.{placed, places_from}
use Rattle.stmt_lex.specs.Standings.{capped}

pub counted_on : (counts : Bool) (n c : ℕ) → counting n ≡ capped (after counts (Counted n) c)
unfolding counting after
counted_on counts zero c = refl
counted_on counts (suc n) c = refl

-- the two choices of what stands behind a character
pick : Bool → Bool → Standing → Standing → Standing
pick d h a b = if d then a else if h then b else Outside None

pick_outside : Bool → Bool → Standing → Standing → Standing
pick_outside blank apostrophe a b = if blank then a else if apostrophe then Inside else b

behind-is : (counts : Bool) (n c : ℕ) → behind counts (Some n) c ≡ pick (is_ascii_digit c) (counts && to_ascii_lowercase c == 104) (Outside (Some (n * 10 + digit_value c))) (counting n)
unfolding behind pick
behind-is counts n c = refl

after-is : (counts : Bool) (n c : ℕ) → after counts (Outside (Some n)) c ≡ pick_outside (c == 32) (c == 39) (Outside (Some n)) (behind counts (Some n) c)
unfolding after pick_outside
after-is counts n c = refl

shown-same : (n m c : ℕ) → shown (Outside (Some n)) c ≡ shown (Outside (Some m)) c
unfolding shown
shown-same n m c = refl

-- one character more
pub from-cons : (counts : Bool) (s : Standing) (c : ℕ) (rest : List ℕ) → characters_from counts s (c ∷ rest) ≡ shown s c ++ characters_from counts (after counts s c) rest
unfolding characters_from
from-cons counts s c rest = refl

-- what is told of a text from one character to the next: its characters, or their places
module _ {A : Type 0} (out : ℕ → List Character → List A) where
  pub walked : Bool → Standing → ℕ → List ℕ → List A
  walked counts s at [] = []
  walked counts s at (c ∷ rest) = out at (shown s c) ++ walked counts (after counts s c) (suc at) rest

  walked-cons : (counts : Bool) (s : Standing) (at c : ℕ) (rest : List ℕ) → walked counts s at (c ∷ rest) ≡ out at (shown s c) ++ walked counts (after counts s c) (suc at) rest
  unfolding walked
  walked-cons counts s at c rest = refl

  picked : (counts : Bool) (at : ℕ) (rest : List ℕ) (d h : Bool) (a b a' b' : Standing) → walked counts a at rest ≡ walked counts a' at rest
      → walked counts b at rest ≡ walked counts b' at rest → walked counts (pick d h a b) at rest ≡ walked counts (pick d h a' b') at rest
  unfolding pick
  picked counts at rest true h a b a' b' p q = p
  picked counts at rest false true a b a' b' p q = q
  picked counts at rest false false a b a' b' p q = refl

  picked_outside : (counts : Bool) (at : ℕ) (rest : List ℕ) (d h : Bool) (a b a' b' : Standing) → walked counts a at rest ≡ walked counts a' at rest
      → walked counts b at rest ≡ walked counts b' at rest → walked counts (pick_outside d h a b) at rest ≡ walked counts (pick_outside d h a' b') at rest
  unfolding pick_outside
  picked_outside counts at rest true h a b a' b' p q = p
  picked_outside counts at rest false true a b a' b' p q = refl
  picked_outside counts at rest false false a b a' b' p q = q

  -- two numbers that no text outlasts
  record Alike (counts : Bool) (n m at : ℕ) (rest : List ℕ) : Type 0 where
    outside : walked counts (Outside (Some n)) at rest ≡ walked counts (Outside (Some m)) at rest
    counted : walked counts (Counted n) at rest ≡ walked counts (Counted m) at rest

  counting_alike : (counts : Bool) (n m at : ℕ) (rest : List ℕ) → suc (length rest) ≤ n → suc (length rest) ≤ m
      → ((p q : ℕ) → length rest ≤ p → length rest ≤ q → Alike counts p q at rest) → walked counts (counting n) at rest ≡ walked counts (counting m) at rest
  unfolding counting
  counting_alike counts zero m at rest h k more = absurd (omega arith)
  counting_alike counts (suc n) zero at rest h k more = absurd (omega arith)
  counting_alike counts (suc n) (suc m) at rest h k more = (more n m (omega arith) (omega arith)).counted

  counted-is : (counts : Bool) (n at c : ℕ) (rest : List ℕ)
      → walked counts (Counted n) at (c ∷ rest) ≡ out at (record { code = c; quoted = true } ∷ []) ++ walked counts (counting n) (suc at) rest
  unfolding walked after shown counting
  counted-is counts zero at c rest = refl
  counted-is counts (suc n) at c rest = refl

  alike : (counts : Bool) (n m at : ℕ) (rest : List ℕ) → length rest ≤ n → length rest ≤ m → Alike counts n m at rest
  unfolding walked
  alike counts n m at [] h k = record { outside = refl; counted = refl }
  alike counts n m at (c ∷ rest) h k =
      let more : (p q : ℕ) → length rest ≤ p → length rest ≤ q → Alike counts p q (suc at) rest = λ p q i j. alike counts p q (suc at) rest i j in
      let counted : walked counts (counting n) (suc at) rest ≡ walked counts (counting m) (suc at) rest = counting_alike counts n m (suc at) rest h k more in
      let grown : length rest ≤ n * 10 + digit_value c = omega arith in
      let grown' : length rest ≤ m * 10 + digit_value c = omega arith in
      let behind_same : walked counts (behind counts (Some n) c) (suc at) rest ≡ walked counts (behind counts (Some m) c) (suc at) rest =
      ap (λ s. walked counts s (suc at) rest) (behind-is counts n c)
      ∙ picked counts (suc at) rest (is_ascii_digit c) (counts && to_ascii_lowercase c == 104) _ (counting n) _ (counting m) (more (n * 10 + digit_value c) (m * 10 + digit_value c) grown grown').outside counted
      ∙ ap (λ s. walked counts s (suc at) rest) (sym (behind-is counts m c)) in
      let after_same : walked counts (after counts (Outside (Some n)) c) (suc at) rest ≡ walked counts (after counts (Outside (Some m)) c) (suc at) rest =
      ap (λ s. walked counts s (suc at) rest) (after-is counts n c)
      ∙ picked_outside counts (suc at) rest (c == 32) (c == 39) _ _ _ _ (more n m (omega arith) (omega arith)).outside behind_same
      ∙ ap (λ s. walked counts s (suc at) rest) (sym (after-is counts m c)) in
      record {
        outside = walked-cons counts (Outside (Some n)) at c rest ∙ ap (λ l. out at l ++ walked counts (after counts (Outside (Some n)) c) (suc at) rest) (shown-same n m c)
            ∙ ap (λ l. out at (shown (Outside (Some m)) c) ++ l) after_same ∙ sym (walked-cons counts (Outside (Some m)) at c rest);
        counted = counted-is counts n at c rest ∙ ap (λ l. out at (record { code = c; quoted = true } ∷ []) ++ l) counted ∙ sym (counted-is counts m at c rest);
      }

  capped_number : (counts : Bool) (n most at : ℕ) (rest : List ℕ) → length rest ≤ most → (n < most) ⊎ (most ≤ n)
      → walked counts (Outside (Some (min n most))) at rest ≡ walked counts (Outside (Some n)) at rest
  capped_number counts n most at rest h (inl below) = let same : min n most ≡ n = omega arith in ap (λ k. walked counts (Outside (Some k)) at rest) same
  capped_number counts n most at rest h (inr above) =
      let same : min n most ≡ most = omega arith in
      ap (λ k. walked counts (Outside (Some k)) at rest) same ∙ (alike counts most n at rest h (omega arith)).outside

  walked_capped : (counts : Bool) (s : Standing) (at : ℕ) (rest : List ℕ) → length rest ≤ 18446744073709551615 → walked counts (capped s) at rest ≡ walked counts s at rest
  walked_capped counts (Outside None) at rest h = refl
  walked_capped counts (Outside (Some n)) at rest h = capped_number counts n 18446744073709551615 at rest h (cases_lt n 18446744073709551615)
  walked_capped counts Inside at rest h = refl
  walked_capped counts Closed at rest h = refl
  walked_capped counts Parted at rest h = refl
  walked_capped counts (Counted n) at rest h = refl

  -- one character more
  pub walked_on : (counts : Bool) (whole : List A) (text : List ℕ) (i : ℕ) (found longer : List A) (s next : Standing)
      → whole ≡ found ++ walked counts s i (drop i text) → i < length text → length text ≤ 18446744073709551615
      → longer ≡ found ++ out i (shown s (get_or text i 0)) → next ≡ capped (after counts s (get_or text i 0)) → whole ≡ longer ++ walked counts next (i + 1) (drop (i + 1) text)
  walked_on counts whole text i found longer s next start low short more is =
      let c = get_or text i 0 in
      let rest = drop (i + 1) text in
      let there : drop i text ≡ c ∷ rest = drop-cons text i 0 low ∙ ap (λ k. get_or text i 0 ∷ drop k text) (sym (add-one i)) in
      let fits : length rest ≤ 18446744073709551615 = omega (arith, length-drop {A = ℕ}) in
      let behind : walked counts next (i + 1) rest ≡ walked counts (after counts s c) (suc i) rest =
      ap (λ q. walked counts q (i + 1) rest) is ∙ walked_capped counts (after counts s c) (i + 1) rest fits ∙ ap (λ k. walked counts (after counts s c) k rest) (add-one i) in
      start ∙ ap (λ l. found ++ walked counts s i l) there ∙ ap (λ l. found ++ l) (walked-cons counts s i c rest)
      ∙ sym (append_assoc found (out i (shown s c)) (walked counts (after counts s c) (suc i) rest))
      ∙ ap (λ l. l ++ walked counts (after counts s c) (suc i) rest) (sym more) ∙ ap (λ l. longer ++ l) (sym behind)

  pub walked_end : (counts : Bool) (whole : List A) (text : List ℕ) (i : ℕ) (found : List A) (s : Standing)
      → whole ≡ found ++ walked counts s i (drop i text) → length text ≤ i → found ≡ whole
  unfolding walked
  walked_end counts whole text i found s start done =
      let there : drop i text ≡ [] = drop_all i text done in
      sym (start ∙ ap (λ l. found ++ walked counts s i l) there ∙ append-nil found)

-- the characters, and their places
characters_walked : (counts : Bool) (s : Standing) (at : ℕ) (text : List ℕ) → walked (λ at l. l) counts s at text ≡ characters_from counts s text
unfolding walked characters_from
characters_walked counts s at [] = refl
characters_walked counts s at (c ∷ rest) = ap (λ l. shown s c ++ l) (characters_walked counts (after counts s c) (suc at) rest)

pub capped-same : (counts : Bool) (s : Standing) (rest : List ℕ) → length rest ≤ 18446744073709551615 → characters_from counts (capped s) rest ≡ characters_from counts s rest
capped-same counts s rest h =
    sym (characters_walked counts (capped s) 0 rest) ∙ walked_capped (λ at l. l) counts s 0 rest h ∙ characters_walked counts s 0 rest

places_walked : (counts : Bool) (s : Standing) (at : ℕ) (text : List ℕ) → walked placed counts s at text ≡ places_from counts s at text
unfolding walked places_from
places_walked counts s at [] = refl
places_walked counts s at (c ∷ rest) = ap (λ l. placed at (shown s c) ++ l) (places_walked counts (after counts s c) (suc at) rest)

-- one character more of what is squeezed
pub squeezed_on : (counts : Bool) (whole : List Character) (text : List ℕ) (i : ℕ) (found longer : List Character) (s next : Standing)
    → whole ≡ found ++ characters_from counts s (drop i text) → i < length text → length text ≤ 18446744073709551615
    → longer ≡ found ++ shown s (get_or text i 0) → next ≡ capped (after counts s (get_or text i 0)) → whole ≡ longer ++ characters_from counts next (drop (i + 1) text)
squeezed_on counts whole text i found longer s next start low short more is =
    walked_on (λ at l. l) counts whole text i found longer s next (start ∙ ap (λ l. found ++ l) (sym (characters_walked counts s i (drop i text)))) low short more is
    ∙ ap (λ l. longer ++ l) (characters_walked counts next (i + 1) (drop (i + 1) text))

pub squeezed_end : (counts : Bool) (whole : List Character) (text : List ℕ) (i : ℕ) (found : List Character) (s : Standing)
    → whole ≡ found ++ characters_from counts s (drop i text) → length text ≤ i → found ≡ whole
squeezed_end counts whole text i found s start done =
    walked_end (λ at l. l) counts whole text i found s (start ∙ ap (λ l. found ++ l) (sym (characters_walked counts s i (drop i text)))) done

pub placed_on : (counts : Bool) (whole : List ℕ) (text : List ℕ) (i : ℕ) (found longer : List ℕ) (s next : Standing)
    → whole ≡ found ++ places_from counts s i (drop i text) → i < length text → length text ≤ 18446744073709551615
    → longer ≡ found ++ placed i (shown s (get_or text i 0)) → next ≡ capped (after counts s (get_or text i 0)) → whole ≡ longer ++ places_from counts next (i + 1) (drop (i + 1) text)
placed_on counts whole text i found longer s next start low short more is =
    walked_on placed counts whole text i found longer s next (start ∙ ap (λ l. found ++ l) (sym (places_walked counts s i (drop i text)))) low short more is
    ∙ ap (λ l. longer ++ l) (places_walked counts next (i + 1) (drop (i + 1) text))

pub placed_end : (counts : Bool) (whole : List ℕ) (text : List ℕ) (i : ℕ) (found : List ℕ) (s : Standing)
    → whole ≡ found ++ places_from counts s i (drop i text) → length text ≤ i → found ≡ whole
placed_end counts whole text i found s start done =
    walked_end placed counts whole text i found s (start ∙ ap (λ l. found ++ l) (sym (places_walked counts s i (drop i text)))) done
