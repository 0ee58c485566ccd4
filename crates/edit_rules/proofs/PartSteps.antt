-- Numbers and characters of formats at places.
use Rattle.std.proofs.Common.{◌≡◌, ◌==◌, ◌⊎◌, inl, inr, Bool, true, false, None, min, [], ◌∷◌, length-drop, ℕ, suc, ◌+◌, ◌-◌, ◌≤◌, List, length, take, drop, refl, sym, ap, ◌∙◌, arith}
use Rattle.edit_meaning.specs.Formats.{IntIn, Literal, ToColumn, LeftBy, RightBy, PlusSigns, Item, Act}
use Rattle.edit_rules.specs.FormatParts.{Counted, Sign, number_from, number_of, next_sign, sign_of, giving, int_least, int_point, plus_by, tab_by, moving, quoted_part, verbatim_part, written_size}
use Rattle.edit_meaning.specs.ListItems.{characters, behind_text}
use Rattle.std.proofs.lemmas.Grind.{common_steps}

pub dropped : (text : List ℕ) (at n : ℕ) → drop n (drop at text) ≡ drop (at + n) text
dropped text at n = grind (arith, common_steps)

pub number_moved : (text : List ℕ) (at number behind : ℕ) (rest : List ℕ) → rest ≡ drop at text
    → ◌≡◌ {A = Counted} (record { number = number; behind = drop behind rest }) (number_from 0 rest rest)
    → ◌≡◌ {A = Counted} (record { number = number; behind = drop (at + behind) text }) (number_of (drop at text))
unfolding number_of
number_moved text at number behind rest e h =
    ap (λ (r : List ℕ). let c : Counted = record { number = number; behind = r } in c) (sym (dropped text at behind) ∙ ap (drop behind) (sym e)) ∙ h
    ∙ ap (λ (r : List ℕ). number_from 0 r r) e

pub sign_moved : (text : List ℕ) (at character behind : ℕ) (rest : List ℕ) → rest ≡ drop at text
    → ◌≡◌ {A = Sign} (record { character = character; behind = drop behind rest }) (next_sign rest)
    → ◌≡◌ {A = Sign} (record { character = character; behind = drop (at + behind) text }) (sign_of (drop at text))
unfolding sign_of
sign_moved text at character behind rest e h =
    ap (λ (r : List ℕ). let c : Sign = record { character = character; behind = r } in c) (sym (dropped text at behind) ∙ ap (drop behind) (sym e)) ∙ h
    ∙ ap next_sign e

capped : (text : List ℕ) (n : ℕ) → drop (min n (length text)) text ≡ drop n text
capped text n = grind (arith, common_steps)

capped-take : (text : List ℕ) (n : ℕ) → take (min n (length text)) text ≡ take n text
capped-take text n = grind (arith, common_steps)

pub unlike : (n k : ℕ) → (n ≡ k → ⊥) → (n == k) ≡ false
unlike n k h = grind arith

pub alike : (n k : ℕ) → n ≡ k → (n == k) ≡ true
alike n k h = grind arith

pub point_least : (times : ℕ) (width least : Counted) (point : Sign) → point.character ≡ 46 → least ≡ number_of point.behind
    → int_least times width.number least ≡ int_point times width point
point_least times width least point h e = rw (alike point.character 46 h) (ap (int_least times width.number) e)

pub point_none : (times : ℕ) (width : Counted) (point : Sign) → (point.character ≡ 46 → ⊥)
    → giving times (Item (IntIn width.number None)) width.behind ≡ int_point times width point
point_none times width point h = rw (unlike point.character 46 h) refl

pub plus_produced : (text : List ℕ) (sign : Sign) → sign.character ≡ 80 → giving 1 (Act (PlusSigns true)) sign.behind ≡ plus_by text sign
plus_produced text sign h = rw (alike sign.character 80 h) refl

pub plus_suppressed : (text : List ℕ) (sign : Sign) → sign.character ≡ 83 → giving 1 (Act (PlusSigns false)) sign.behind ≡ plus_by text sign
plus_suppressed text sign h = rw (alike sign.character 83 h, unlike sign.character 80 (λ e. absurd (omega arith))) refl

pub plus_as_ever : (text : List ℕ) (sign : Sign) → (sign.character ≡ 80 → ⊥) → (sign.character ≡ 83 → ⊥) → giving 1 (Act (PlusSigns false)) text ≡ plus_by text sign
plus_as_ever text sign h g = rw (unlike sign.character 80 h, unlike sign.character 83 g) refl

pub tab_left : (text : List ℕ) (sign : Sign) (columns : Counted) → sign.character ≡ 76 → columns ≡ number_of sign.behind → moving LeftBy columns ≡ tab_by text sign
tab_left text sign columns h e = rw (alike sign.character 76 h) (ap (moving LeftBy) e)

pub tab_right : (text : List ℕ) (sign : Sign) (columns : Counted) → sign.character ≡ 82 → columns ≡ number_of sign.behind → moving RightBy columns ≡ tab_by text sign
tab_right text sign columns h e =
    rw (alike sign.character 82 h, unlike sign.character 76 (λ q. absurd (omega arith))) (ap (moving RightBy) e)

pub tab_to : (text : List ℕ) (sign : Sign) (column : Counted) → (sign.character ≡ 76 → ⊥) → (sign.character ≡ 82 → ⊥) → column ≡ number_of text
    → moving ToColumn column ≡ tab_by text sign
tab_to text sign column h g e = rw (unlike sign.character 76 h, unlike sign.character 82 g) (ap (moving ToColumn) e)

pub bool_is : (b : Bool) → (b ≡ true) ⊎ (b ≡ false)
bool_is true = inl refl
bool_is false = inr refl

-- the characters of a text in apostrophes are those before the one that ends it, and the rest of the text is behind that
record Written (text : List ℕ) : Type 0 where
  shown : characters false (take (written_size false text) text) ≡ characters false text
  behind : drop (suc (written_size false text)) text ≡ behind_text false text

written_other : (c : ℕ) (cs : List ℕ) → (c == 39) ≡ false → Written cs → Written (c ∷ cs)
written_other c cs e w = record { shown = simp e (ap (λ (l : List ℕ). c ∷ l) w.shown); behind = simp e w.behind }

written_last : (c : ℕ) → (c == 39) ≡ true → Written (c ∷ [])
written_last c e = record { shown = simp e; behind = simp e }

written_ended : (c d : ℕ) (ds : List ℕ) → (c == 39) ≡ true → (d == 39) ≡ false → Written (c ∷ d ∷ ds)
written_ended c d ds e f = record { shown = simp (e, f); behind = let p : drop (suc (written_size false (c ∷ d ∷ ds))) (c ∷ d ∷ ds) ≡ behind_text true (d ∷ ds) = simp (e, f) in p ∙ sym (ap (λ q. behind_text q (d ∷ ds)) e) }

written_doubled : (c d : ℕ) (ds : List ℕ) → (c == 39) ≡ true → (d == 39) ≡ true → Written ds → Written (c ∷ d ∷ ds)
written_doubled c d ds e f w = record { shown = simp (e, f) (ap (λ (l : List ℕ). d ∷ l) w.shown); behind = let p : drop (suc (written_size false (c ∷ d ∷ ds))) (c ∷ d ∷ ds) ≡ behind_text true (d ∷ ds) = simp (e, f) w.behind in p ∙ sym (ap (λ q. behind_text q (d ∷ ds)) e) }

written_two : (c d : ℕ) (ds : List ℕ) → Written (d ∷ ds) → Written ds → (c == 39) ≡ true ⊎ (c == 39) ≡ false → (d == 39) ≡ true ⊎ (d == 39) ≡ false → Written (c ∷ d ∷ ds)
written_two c d ds v w (inr e) g = written_other c (d ∷ ds) e v
written_two c d ds v w (inl e) (inl f) = written_doubled c d ds e f w
written_two c d ds v w (inl e) (inr f) = written_ended c d ds e f

written_one : (c : ℕ) → (c == 39) ≡ true ⊎ (c == 39) ≡ false → Written (c ∷ [])
written_one c (inl e) = written_last c e
written_one c (inr e) = written_other c [] e (record { shown = refl; behind = refl })

written : (text : List ℕ) → Written text
written [] = record { shown = refl; behind = refl }
written (c ∷ []) = written_one c (bool_is (c == 39))
written (c ∷ d ∷ ds) = written_two c d ds (written (d ∷ ds)) (written ds) (bool_is (c == 39)) (bool_is (d == 39))

pub quoted_shown : (text : List ℕ) (at to behind : ℕ) → to ≡ at + written_size false (drop at text) → behind ≡ min (to + 1) (length text)
    → giving 1 (Act (Literal (characters false (take (to - at) (drop at text))))) (drop behind text) ≡ quoted_part (drop at text)
unfolding quoted_part
quoted_shown text at to behind e h =
    let size : to - at ≡ written_size false (drop at text) = omega arith in
    let w : Written (drop at text) = written (drop at text) in
    let rest : drop behind text ≡ behind_text false (drop at text) =
    ap (λ n. drop n text) h ∙ capped text (to + 1) ∙ ap (λ n. drop n text) (further at to (written_size false (drop at text)) e)
    ∙ sym (dropped text at (suc (written_size false (drop at text)))) ∙ w.behind in
    ap (λ n. giving 1 (Act (Literal (characters false (take n (drop at text))))) (drop behind text)) size
    ∙ ap (λ (l : List ℕ). giving 1 (Act (Literal l)) (drop behind text)) w.shown ∙ ap (giving 1 (Act (Literal (characters false (drop at text))))) rest
  where
    further : (a t s : ℕ) → t ≡ a + s → t + 1 ≡ a + suc s
    further a t s e = omega arith

pub verbatim_shown : (text : List ℕ) (at to size : ℕ) → at ≤ length text → to ≡ at + min size (length text - at)
    → giving 1 (Act (Literal (take (to - at) (drop at text)))) (drop to text) ≡ verbatim_part size (drop at text)
unfolding verbatim_part
verbatim_shown text at to size b e =
    let rest : drop to text ≡ drop size (drop at text) =
    ap (λ n. drop n text) e ∙ sym (dropped text at (min size (length text - at))) ∙ ap (λ n. drop (min size n) (drop at text)) (sym (length-drop at text)) ∙ capped (drop at text) size in
    let shown : take (to - at) (drop at text) ≡ take size (drop at text) =
    ap (λ n. take n (drop at text)) (less at to (min size (length text - at)) e) ∙ ap (λ n. take (min size n) (drop at text)) (sym (length-drop at text)) ∙ capped-take (drop at text) size in
    ap (λ (l : List ℕ). giving 1 (Act (Literal l)) (drop to text)) shown ∙ ap (giving 1 (Act (Literal (take size (drop at text))))) rest
  where
    less : (a t s : ℕ) → t ≡ a + s → t - a ≡ s
    less a t s e = omega arith
