-- What bytes show outside constants.
use Rattle.std.proofs.Common.{◌≡◌, ℕ, suc, ◌+◌, ◌-◌, ◌*◌, ◌<◌, ◌≤◌, Bool, true, false, List, [], ◌∷◌, ◌++◌, length, drop, get_or, refl, sym, ap, ◌∙◌, Some, None, Option, arith, append_assoc, length-append}
use Rattle.std.specs.Prelude.{◌&&◌, ◌==◌, nat_eq, codes, map, if◌then◌else◌}
use Rattle.std.specs.Char.{is_ascii_digit, digit_value, to_ascii_lowercase}
use Rattle.std.specs.List.{starts_with}
use Rattle.std.proofs.lemmas.Bool.{eqb-true}
use Rattle.std.proofs.lemmas.List.{drop_all, map-append}
use Rattle.fortran_text.specs.CharactersOfText.{behind, after, shown, characters_from, has_counted, is_blank, is_apostrophe}
use Rattle.fortran_text.specs.declared.characters.Character.{Character}
use Rattle.fortran_text.specs.declared.characters.Standing.{Standing}
use Rattle.fortran_text.specs.declared.characters.Standing.TheVariants.{Outside, Inside, Closed, Parted, Counted}
use Rattle.fortran_lexemes.specs.KindsOfStatements.{outside_constants}
use Rattle.stmt_lex.proofs.KindLemmas.{outside-cons}
use Rattle.stmt_lex.proofs.StandingLemmas.{from-cons, capped-same}
use Rattle.stmt_lex.specs.Cursors.{outside_from, shown_code, shows_two}
use Rattle.stmt_lex.specs.Standings.{capped}

outside-append : (a b : List Character) → outside_constants (a ++ b) ≡ outside_constants a ++ outside_constants b
unfolding outside_constants
outside-append [] b = refl
outside-append (c ∷ rest) b =
    let first : List ℕ = if c.quoted then [] else c.code ∷ [] in
    outside-cons c (rest ++ b) ∙ ap (λ l. first ++ l) (outside-append rest b) ∙ sym (append_assoc first (outside_constants rest) (outside_constants b))
    ∙ ap (λ l. l ++ outside_constants b) (sym (outside-cons c rest))

-- one byte more
outside_on : (counts : Bool) (s : Standing) (c : ℕ) (rest : List ℕ)
    → outside_from counts s (c ∷ rest) ≡ outside_constants (shown s c) ++ outside_from counts (after counts s c) rest
unfolding outside_from
outside_on counts s c rest = ap outside_constants (from-cons counts s c rest) ∙ outside-append (shown s c) (characters_from counts (after counts s c) rest)

abbrev code_of : Option ℕ → ℕ
code_of None = 0
code_of (Some c) = c

none_of : (b : Bool) (m : ℕ) → (if b then None else Some m) ≡ None → outside_constants (if b then [] else record { code = m; quoted = false } ∷ []) ≡ []
unfolding outside_constants
none_of true m e = refl
none_of false m e = let no_code : Some m ≡ None = e in absurd (cc)

none_inside : (a : Bool) (m n : ℕ) → (if a then Some m else None) ≡ None
    → outside_constants ((if a then record { code = m; quoted = false } else record { code = n; quoted = true }) ∷ []) ≡ []
unfolding outside_constants
none_inside true m n e = let no_code : Some m ≡ None = e in absurd (cc)
none_inside false m n e = refl

none_parted : (b a : Bool) (m : ℕ) → (if b then None else if a then Some 32 else Some m) ≡ None
    → outside_constants (if b then [] else if a then record { code = 32; quoted = false } ∷ record { code = m; quoted = false } ∷ [] else record { code = m; quoted = false } ∷ []) ≡ []
unfolding outside_constants
none_parted true a m e = refl
none_parted false true m e = let blank : ℕ = 32 in let no_code : Some blank ≡ None = e in absurd (cc)
none_parted false false m e = let no_code : Some m ≡ None = e in absurd (cc)

shown_none : (s : Standing) (c : ℕ) → shown_code s c ≡ None → outside_constants (shown s c) ≡ []
unfolding shown shown_code outside_constants
shown_none (Outside digits) c e = none_of (is_blank c) (to_ascii_lowercase c) e
shown_none Inside c e = none_inside (is_apostrophe c) (to_ascii_lowercase c) c e
shown_none Closed c e = none_of (is_blank c) (to_ascii_lowercase c) e
shown_none Parted c e = none_parted (is_blank c) (is_apostrophe c) (to_ascii_lowercase c) e
shown_none (Counted n) c e = refl

-- a byte that shows nothing outside constants
pub skipped : (counts : Bool) (s : Standing) (c : ℕ) (rest : List ℕ) → None ≡ shown_code s c → outside_from counts s (c ∷ rest) ≡ outside_from counts (after counts s c) rest
skipped counts s c rest e = outside_on counts s c rest ∙ ap (λ l. l ++ outside_from counts (after counts s c) rest) (shown_none s c (sym e))

some_of : (b : Bool) (m x : ℕ) (more : List ℕ) → (if b then None else Some m) ≡ Some x
    → outside_constants (if b then [] else record { code = m; quoted = false } ∷ []) ++ more ≡ x ∷ more
unfolding outside_constants
some_of true m x more e = let no_code : None ≡ Some x = e in absurd (cc)
some_of false m x more e = ap (λ o. code_of o ∷ more) e

some_inside : (a : Bool) (m n x : ℕ) (more : List ℕ) → (if a then Some m else None) ≡ Some x
    → outside_constants ((if a then record { code = m; quoted = false } else record { code = n; quoted = true }) ∷ []) ++ more ≡ x ∷ more
unfolding outside_constants
some_inside true m n x more e = ap (λ o. code_of o ∷ more) e
some_inside false m n x more e = let no_code : None ≡ Some x = e in absurd (cc)

some_parted : (b a : Bool) (m x : ℕ) (more : List ℕ) → (if b then None else if a then Some 32 else Some m) ≡ Some x
    → outside_constants (if b then [] else if a then record { code = 32; quoted = false } ∷ record { code = m; quoted = false } ∷ [] else record { code = m; quoted = false } ∷ []) ++ more
    ≡ x ∷ (if a then outside_constants (if b then [] else record { code = m; quoted = false } ∷ []) ++ more else more)
unfolding outside_constants
some_parted true a m x more e = let no_code : None ≡ Some x = e in absurd (cc)
some_parted false true m x more e = ap (λ o. code_of o ∷ m ∷ more) e
some_parted false false m x more e = ap (λ o. code_of o ∷ more) e

shown_some : (counts : Bool) (s : Standing) (c x : ℕ) (rest : List ℕ) → shown_code s c ≡ Some x
    → outside_constants (shown s c) ++ outside_from counts (after counts s c) rest
    ≡ x ∷ (if shows_two s c then outside_constants (shown Closed c) ++ outside_from counts (after counts Closed c) rest else outside_from counts (after counts s c) rest)
unfolding shown shown_code shows_two after outside_constants
shown_some counts (Outside digits) c x rest e = some_of (is_blank c) (to_ascii_lowercase c) x _ e
shown_some counts Inside c x rest e = some_inside (is_apostrophe c) (to_ascii_lowercase c) c x _ e
shown_some counts Closed c x rest e = some_of (is_blank c) (to_ascii_lowercase c) x _ e
shown_some counts Parted c x rest e = some_parted (is_blank c) (is_apostrophe c) (to_ascii_lowercase c) x _ e
shown_some counts (Counted n) c x rest e = let no_code : None ≡ Some x = e in absurd (cc)

-- a byte that shows a character
pub found : (counts : Bool) (s : Standing) (c x : ℕ) (rest : List ℕ) → Some x ≡ shown_code s c
    → outside_from counts s (c ∷ rest) ≡ x ∷ (if shows_two s c then outside_from counts Closed (c ∷ rest) else outside_from counts (after counts s c) rest)
found counts s c x rest e =
    outside_on counts s c rest ∙ shown_some counts s c x rest (sym e)
    ∙ ap (λ l. x ∷ (if shows_two s c then l else outside_from counts (after counts s c) rest)) (sym (outside_on counts Closed c rest))

-- a standing as the code keeps it
pub capped_from : (counts : Bool) (s next : Standing) (rest : List ℕ) → length rest ≤ 18446744073709551615 → next ≡ capped s
    → outside_from counts next rest ≡ outside_from counts s rest
unfolding outside_from
capped_from counts s next rest fits e = ap (λ t. outside_constants (characters_from counts t rest)) e ∙ ap outside_constants (capped-same counts s rest fits)

pub chosen_two : (b : Bool) (a rest : List ℕ) → b ≡ true → a ≡ (if b then a else rest)
chosen_two b a rest h = ap (λ d. if d then a else rest) (sym h)

pub chosen_one : (b : Bool) (a rest other : List ℕ) → b ≡ false → a ≡ rest → a ≡ (if b then other else rest)
chosen_one b a rest other h e = e ∙ ap (λ d. if d then other else rest) (sym h)

-- steps over bytes
pub written_on : (counts : Bool) (s next : Standing) (rest behind : List ℕ) → 1 ≤ length rest → length rest ≤ 18446744073709551615
    → None ≡ shown_code s (get_or rest 0 0) → next ≡ capped (after counts s (get_or rest 0 0)) → behind ≡ drop 1 rest
    → outside_from counts s rest ≡ outside_from counts next behind
written_on counts s next [] behind low fits no_code is there = absurd (omega arith)
written_on counts s next (c ∷ rest) behind low fits no_code is there =
    skipped counts s c rest no_code ∙ sym (capped_from counts (after counts s c) next rest (omega arith) is) ∙ ap (λ l. outside_from counts next l) (sym there)

pub written_found : (counts : Bool) (s : Standing) (rest behind : List ℕ) (x : ℕ) (more : List ℕ) → 1 ≤ length rest → Some x ≡ shown_code s (get_or rest 0 0)
    → behind ≡ drop 1 rest
    → more ≡ (if shows_two s (get_or rest 0 0) then outside_from counts Closed rest else outside_from counts (after counts s (get_or rest 0 0)) behind)
    → x ∷ more ≡ outside_from counts s rest
written_found counts s [] behind x more low code there is = absurd (omega arith)
written_found counts s (c ∷ rest) behind x more low code there is =
    ap (λ l. x ∷ l) (is ∙ ap (λ l. if shows_two s c then outside_from counts Closed (c ∷ rest) else outside_from counts (after counts s c) l) there)
    ∙ sym (found counts s c x rest code)

pub written_end : (counts : Bool) (s : Standing) (rest : List ℕ) → length rest < 1 → [] ≡ outside_from counts s rest
unfolding outside_from characters_from outside_constants
written_end counts s [] low = refl
written_end counts s (c ∷ rest) low = absurd (omega arith)

-- steps over characters
pub squeezed_past : (rest behind : List Character) (d : Character) → 1 ≤ length rest → (get_or rest 0 d).quoted ≡ true → behind ≡ drop 1 rest
    → outside_constants rest ≡ outside_constants behind
squeezed_past [] behind d low quoted there = absurd (omega arith)
squeezed_past (c ∷ rest) behind d low quoted there =
    outside-cons c rest ∙ ap (λ q. (if q then [] else c.code ∷ []) ++ outside_constants rest) quoted ∙ ap outside_constants (sym there)

pub squeezed_found : (rest behind : List Character) (d : Character) → 1 ≤ length rest → (get_or rest 0 d).quoted ≡ false → behind ≡ drop 1 rest
    → (get_or rest 0 d).code ∷ outside_constants behind ≡ outside_constants rest
squeezed_found [] behind d low quoted there = absurd (omega arith)
squeezed_found (c ∷ rest) behind d low quoted there =
    ap (λ l. c.code ∷ outside_constants l) there ∙ sym (outside-cons c rest ∙ ap (λ q. (if q then [] else c.code ∷ []) ++ outside_constants rest) quoted)

pub squeezed_end : (rest : List Character) → length rest < 1 → [] ≡ outside_constants rest
unfolding outside_constants
squeezed_end [] low = refl
squeezed_end (c ∷ rest) low = absurd (omega arith)

-- what is left is no longer than the code counts
chosen_length : (b : Bool) (c : ℕ) → length (if b then [] else c ∷ []) ≤ 1
chosen_length true c = omega arith
chosen_length false c = omega arith

outside_shorter : (text : List Character) → length (outside_constants text) ≤ length text
unfolding outside_constants
outside_shorter [] = omega arith
outside_shorter (c ∷ rest) =
    omega (arith, ap length (outside-cons c rest), length-append (if c.quoted then [] else c.code ∷ []) (outside_constants rest), chosen_length c.quoted c.code, outside_shorter rest)

chosen_shown : (b : Bool) (l : List Character) → length l ≤ 2 → length (if b then [] else l) ≤ 2
chosen_shown true l h = omega arith
chosen_shown false l h = h

chosen_parted : (b : Bool) (p q r : Character) → length (if b then p ∷ q ∷ [] else r ∷ []) ≤ 2
chosen_parted true p q r = omega arith
chosen_parted false p q r = omega arith

shown_shorter : (s : Standing) (c : ℕ) → length (shown s c) ≤ 2
unfolding shown
shown_shorter (Outside digits) c = chosen_shown (is_blank c) _ (omega arith)
shown_shorter Inside c = omega arith
shown_shorter Closed c = chosen_shown (is_blank c) _ (omega arith)
shown_shorter Parted c = chosen_shown (is_blank c) _ (chosen_parted (is_apostrophe c) _ _ _)
shown_shorter (Counted n) c = omega arith

from_shorter : (counts : Bool) (s : Standing) (text : List ℕ) → length (outside_from counts s text) ≤ length text * 2
unfolding outside_from characters_from outside_constants
from_shorter counts s [] = omega arith
from_shorter counts s (c ∷ rest) =
    omega (
      arith,
      ap length (outside_on counts s c rest),
      length-append (outside_constants (shown s c)) (outside_from counts (after counts s c) rest),
      outside_shorter (shown s c),
      shown_shorter s c,
      from_shorter counts (after counts s c) rest,
    )

pub written_short : (counts : Bool) (s : Standing) (text : List ℕ) → length text < 9223372036854775808 → length (outside_from counts s text) < 18446744073709551615
written_short counts s text fits = omega (arith, from_shorter counts s text)

pub squeezed_short : (text : List Character) → length text < 9223372036854775808 → length (outside_constants text) < 18446744073709551615
squeezed_short text fits = omega (arith, outside_shorter text)

-- places further on
pub dropped_on : (n k : ℕ) (l rest : List ℕ) (c : ℕ) → c ∷ rest ≡ l → k < n → drop (n - k) l ≡ drop (n - (k + 1)) rest
dropped_on n k l rest c is low =
    let less : n - k ≡ suc (n - (k + 1)) = omega arith in ap (λ m. drop m l) less ∙ ap (λ t. drop (suc (n - (k + 1))) t) (sym is)

pub dropped_end : (n : ℕ) (l : List ℕ) → [] ≡ l → l ≡ drop n l
dropped_end n [] is = sym (drop_all n [] (omega arith))
dropped_end n (c ∷ l) is = absurd (cc)

-- whether a word begins a list
prefixed : List ℕ → List ℕ → Bool
prefixed [] text = true
prefixed (w ∷ word) [] = false
prefixed (w ∷ word) (c ∷ text) = nat_eq w c && prefixed word text

prefixed-is : (word text : List ℕ) → starts_with nat_eq text word ≡ prefixed word text
unfolding prefixed
prefixed-is [] [] = refl
prefixed-is [] (c ∷ text) = refl
prefixed-is (w ∷ word) [] = refl
prefixed-is (w ∷ word) (c ∷ text) = ap (λ b. nat_eq w c && b) (prefixed-is word text)

codes_from : Standing → List ℕ → List ℕ
codes_from s text = map (λ (c : Character). c.code) (characters_from false s text)

codes_on : (s : Standing) (c : ℕ) (rest : List ℕ) → codes_from s (c ∷ rest) ≡ map (λ (c : Character). c.code) (shown s c) ++ codes_from (after false s c) rest
unfolding codes_from
codes_on s c rest = ap (map (λ (c : Character). c.code)) (from-cons false s c rest) ∙ map-append (λ (c : Character). c.code) (shown s c) (characters_from false (after false s c) rest)

-- a word without apostrophes
abbrev Plain : List ℕ → Type 0
Plain [] = Unit {0}
Plain (w ∷ word) = ((w == 39) ≡ false) × Plain word

Alike : Standing → List ℕ → Type 0
Alike s text = (word : List ℕ) → Plain word → prefixed word (outside_from false s text) ≡ prefixed word (codes_from s text)

alike_on : (b a : Bool) (m : ℕ) (s next : Standing) (rest : List ℕ) → ((w : ℕ) → (w == 39) ≡ false → a ≡ true → nat_eq w m ≡ false) → Alike s rest → Alike next rest
    → (w : ℕ) (word : List ℕ) → (w == 39) ≡ false → Plain word
    → prefixed (w ∷ word) (outside_constants (if b then [] else record { code = m; quoted = false } ∷ []) ++ outside_from false (if b then s else if a then Inside else next) rest)
    ≡ prefixed (w ∷ word) (map (λ (c : Character). c.code) (if b then [] else record { code = m; quoted = false } ∷ []) ++ codes_from (if b then s else if a then Inside else next) rest)
unfolding Alike prefixed outside_constants
alike_on true a m s next rest other more behind w word p q = more (w ∷ word) (p, q)
alike_on false true m s next rest other more behind w word p q =
    ap (λ t. t && prefixed word (outside_from false Inside rest)) (other w p refl) ∙ sym (ap (λ t. t && prefixed word (codes_from Inside rest)) (other w p refl))
alike_on false false m s next rest other more behind w word p q = ap (λ t. nat_eq w m && t) (behind word q)

apostrophe_differs : (c w : ℕ) → (w == 39) ≡ false → is_apostrophe c ≡ true → nat_eq w (to_ascii_lowercase c) ≡ false
apostrophe_differs c w p q = ap (λ n. nat_eq w (to_ascii_lowercase n)) (eqb-true c 39 q) ∙ p

-- without nH, what stands outside constants is followed by a place outside them, or by an apostrophe
alike_behind : (d : Option ℕ) (c : ℕ) (rest : List ℕ) → ((d : Option ℕ) → Alike (Outside d) rest) → Alike (behind false d c) rest
unfolding behind
alike_behind None c rest more = by_digit (is_ascii_digit c)
  where
    by_digit : (t : Bool) → Alike (if t then Outside (Some (digit_value c)) else Outside None) rest
    by_digit true = more (Some (digit_value c))
    by_digit false = more None
alike_behind (Some n) c rest more = by_digit (is_ascii_digit c)
  where
    by_digit : (t : Bool) → Alike (if t then Outside (Some (n * 10 + digit_value c)) else Outside None) rest
    by_digit true = more (Some (n * 10 + digit_value c))
    by_digit false = more None

alike_cons : (c : ℕ) (rest : List ℕ) (d : Option ℕ) → ((d : Option ℕ) → Alike (Outside d) rest) → (w : ℕ) (word : List ℕ) → (w == 39) ≡ false → Plain word
    → prefixed (w ∷ word) (outside_from false (Outside d) (c ∷ rest)) ≡ prefixed (w ∷ word) (codes_from (Outside d) (c ∷ rest))
unfolding shown after
alike_cons c rest d more w word p q =
    ap (prefixed (w ∷ word)) (outside_on false (Outside d) c rest)
    ∙ alike_on (is_blank c) (is_apostrophe c) (to_ascii_lowercase c) (Outside d) (behind false d c) rest (apostrophe_differs c) (more d) (alike_behind d c rest more) w word p q
    ∙ sym (ap (prefixed (w ∷ word)) (codes_on (Outside d) c rest))

alike_outside : (text : List ℕ) (d : Option ℕ) → Alike (Outside d) text
unfolding Alike prefixed outside_from codes_from characters_from outside_constants
alike_outside [] d word plain = refl
alike_outside (c ∷ rest) d [] plain = refl
alike_outside (c ∷ rest) d (w ∷ word) plain = alike_cons c rest d (alike_outside rest) w word plain.0 plain.1

-- FORMAT( in what stands outside constants, and in all
format_begins : (text : List ℕ)
    → starts_with nat_eq (outside_from false (Outside None) text) (codes "format(")
    ≡ starts_with nat_eq (map (λ (c : Character). c.code) (characters_from false (Outside None) text)) (codes "format(")
unfolding Alike codes_from
format_begins text =
    prefixed-is (codes "format(") (outside_from false (Outside None) text)
    ∙ alike_outside text None (codes "format(") (refl, (refl, (refl, (refl, (refl, (refl, (refl, tt)))))))
    ∙ sym (prefixed-is (codes "format(") (codes_from (Outside None) text))

pub counted_there : (labelled begins : Bool) (whole text : List ℕ) → labelled ≡ true → begins ≡ starts_with nat_eq whole (codes "format(")
    → whole ≡ outside_from false (Outside None) text → begins ≡ has_counted labelled text
unfolding has_counted
counted_there labelled begins whole text is_labelled is there =
    is ∙ ap (λ l. starts_with nat_eq l (codes "format(")) there ∙ format_begins text
    ∙ ap (λ b. b && starts_with nat_eq (map (λ (c : Character). c.code) (characters_from false (Outside None) text)) (codes "format(")) (sym is_labelled)
