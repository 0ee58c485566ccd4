-- The places of the tokens of a text stand in order, and what stands in none of them is a blank or of the word WHILE.
use Rattle.std.proofs.Common.{◌≡◌, ℕ, zero, suc, ◌+◌, ◌-◌, ◌<◌, ◌≤◌, Bool, true, false, List, [], ◌∷◌, ◌++◌, length, map, get_or, refl, sym, ap, subst, ◌∙◌, Option, Some, None, is_some, inl, inr, arith}
use Rattle.std.specs.Prelude.{◌==◌, ◌&&◌, ◌||◌, ◌⊎◌, if◌then◌else◌}
use Rattle.std.specs.Char.{to_ascii_lowercase, is_ascii_digit}
use Rattle.std.specs.Option.{option_to_list}
use Rattle.std.proofs.lemmas.Bool.{cases_lt, eqb-true, lt-ltb, le-leb}
use Rattle.std.proofs.lemmas.List.{get_or-drop, length-drop, length-map}
use Rattle.fortran_text.specs.declared.characters.Character.{Character}
use Rattle.fortran_text.specs.declared.characters.Standing.{Standing}
use Rattle.fortran_text.specs.declared.characters.Standing.TheVariants.{Outside, Inside, Closed, Parted, Counted}
use Rattle.fortran_text.specs.CharactersOfText.{counting, behind, after, shown, mark, characters_from, has_counted, characters}
use Rattle.fortran_lexemes.specs.Lexemes.{Lexeme, Lexemes}
use Rattle.fortran_lexemes.specs.PiecesOfStatements.{Step, step_past_blank, pieces_from, pieces}
use Rattle.fortran_lexemes.specs.declared.kinds.StmtKind.{StmtKind}
use Rattle.fortran_lexemes.specs.declared.modes.Mode.{Mode}
use Rattle.fortran_lexemes.specs.declared.modes.Mode.TheVariants.{Begins}
use Rattle.stmt_lex.specs.declared.token.Span.{Span}
use Rattle.stmt_lex.specs.PlacesOfTokens.{placed, places_from, character_places, extent, extents_from, extents, place_of, token_places, IsInOrder, none_left, one_first, is_placed, is_skipped, is_between, ArePlaces, AreWithin, none_within, one_within}
use Rattle.stmt_lex.proofs.StepLaws.{no_character, IsSkipped, IsTaken, taken}

-- PLACES OF CHARACTERS rise, from a place and below another one
data Rises : ℕ → List ℕ → ℕ → Type 0 where
  at_end : (low stop : ℕ) → low ≤ stop → Rises low [] stop
  one_more : (low stop p : ℕ) (ps : List ℕ) → low ≤ p → Rises (suc p) ps stop → Rises low (p ∷ ps) stop

lower : (low low' stop : ℕ) (ps : List ℕ) → low' ≤ low → Rises low ps stop → Rises low' ps stop
lower low low' stop [] h (at_end _ _ k) = at_end low' stop (omega (arith, h, k))
lower low low' stop (p ∷ ps) h (one_more _ _ _ _ k more) = one_more low' stop p ps (omega (arith, h, k)) more

not_below : (low stop : ℕ) (ps : List ℕ) (j : ℕ) → Rises low ps stop → j < length ps → low ≤ get_or ps j 0
not_below low stop [] j rises h = absurd (omega (arith, h))
not_below low stop (p ∷ ps) zero (one_more _ _ _ _ k more) h = k
not_below low stop (p ∷ ps) (suc j) (one_more _ _ _ _ k more) h = let behind = not_below (suc p) stop ps j more (omega (arith, h)) in omega (arith, k, behind)

below_stop : (low stop : ℕ) (ps : List ℕ) (j : ℕ) → Rises low ps stop → j < length ps → get_or ps j 0 < stop
below_stop low stop [] j rises h = absurd (omega (arith, h))
below_stop low stop (p ∷ []) zero (one_more _ _ _ _ k (at_end _ _ m)) h = omega (arith, m)
below_stop low stop (p ∷ q ∷ ps) zero (one_more _ _ _ _ k (one_more _ _ _ _ m more)) h =
    let last = below_stop (suc p) stop (q ∷ ps) 0 (one_more (suc p) stop q ps m more) (omega arith) in omega (arith, m, last)
below_stop low stop (p ∷ ps) (suc j) (one_more _ _ _ _ k more) h = below_stop (suc p) stop ps j more (omega (arith, h))

rising : (low stop : ℕ) (ps : List ℕ) (i j : ℕ) → Rises low ps stop → i < j → j < length ps → suc (get_or ps i 0) ≤ get_or ps j 0
rising low stop [] i j rises h k = absurd (omega (arith, k))
rising low stop (p ∷ ps) i zero rises h k = absurd (omega (arith, h))
rising low stop (p ∷ ps) zero (suc j) (one_more _ _ _ _ m more) h k = not_below (suc p) stop ps j more (omega (arith, k))
rising low stop (p ∷ ps) (suc i) (suc j) (one_more _ _ _ _ m more) h k = rising (suc p) stop ps i j more (omega (arith, h)) (omega (arith, k))

not_falling : (low stop : ℕ) (ps : List ℕ) (i j : ℕ) → Rises low ps stop → i ≤ j → j < length ps → get_or ps i 0 ≤ get_or ps j 0
not_falling low stop ps i j rises h k = by_order (cases_lt i j)
  where
    by_order : (i < j) ⊎ (j ≤ i) → get_or ps i 0 ≤ get_or ps j 0
    by_order (inl less) = let up = rising low stop ps i j rises less k in omega (arith, up)
    by_order (inr same) = let is : i ≡ j = omega (arith, same, h) in let equal : get_or ps i 0 ≡ get_or ps j 0 = ap (λ n. get_or ps n 0) is in omega (arith, equal)

-- what a text has of a byte, and where the next one stands
abbrev IsParted : Standing → Type 0
IsParted Parted = Unit {0}
IsParted _ = ⊥

abbrev NotParted : Standing → Type 0
NotParted Parted = ⊥
NotParted _ = Unit {0}

abbrev HasCode : ℕ → Character → Type 0
HasCode c ch = ch.quoted ≡ false → ch.code ≡ to_ascii_lowercase c

data Shape (s : Standing) (c : ℕ) : List Character → Standing → Type 0 where
  left_out : (next : Standing) → c ≡ 32 → Shape s c [] next
  shown_once : (ch : Character) (next : Standing) → HasCode c ch → NotParted next → Shape s c (ch ∷ []) next
  shown_twice : (blank ch : Character) (next : Standing) → HasCode c ch → IsParted s → NotParted next → Shape s c (blank ∷ ch ∷ []) next

either : {A : Type 0} (P : A → Type 0) (b : Bool) (x y : A) → P x → P y → P (if b then x else y)
either P true x y p q = p
either P false x y p q = q

counting_goes_on : (n : ℕ) → NotParted (counting n)
unfolding counting
counting_goes_on zero = tt
counting_goes_on (suc n) = tt

behind_goes_on : (counts : Bool) (digits : Option ℕ) (c : ℕ) → NotParted (behind counts digits c)
unfolding behind
behind_goes_on counts None c = either NotParted (is_ascii_digit c) _ _ tt tt
behind_goes_on counts (Some n) c =
    either NotParted (is_ascii_digit c) _ _ tt (either NotParted (counts && to_ascii_lowercase c == 104) _ _ (counting_goes_on n) tt)

apart_goes_on : (counts : Bool) (digits : Option ℕ) (c : ℕ) → NotParted (if c == 39 then Inside else behind counts digits c)
apart_goes_on counts digits c = either NotParted (c == 39) _ _ tt (behind_goes_on counts digits c)

quoted_code : (c : ℕ) → HasCode c (record { code = c; quoted = true })
quoted_code c h = absurd (cc)

marked_code : (c : ℕ) → HasCode c (mark c)
marked_code c h = refl

plain_shape : (s : Standing) (c : ℕ) (blank next : Standing) (b : Bool) → (c == 32) ≡ b → NotParted next → Shape s c (if b then [] else mark c ∷ []) (if b then blank else next)
plain_shape s c blank next true h on = left_out blank (eqb-true c 32 h)
plain_shape s c blank next false h on = shown_once (mark c) next (marked_code c) on

parted_shape : (c : ℕ) (next : Standing) (b a : Bool) → (c == 32) ≡ b → NotParted next
    → Shape Parted c (if b then [] else if a then mark 32 ∷ mark c ∷ [] else mark c ∷ []) (if b then Parted else if a then Inside else next)
parted_shape c next true a h on = left_out Parted (eqb-true c 32 h)
parted_shape c next false true h on = shown_twice (mark 32) (mark c) Inside (marked_code c) tt tt
parted_shape c next false false h on = shown_once (mark c) next (marked_code c) on

shape : (counts : Bool) (s : Standing) (c : ℕ) → Shape s c (shown s c) (after counts s c)
unfolding shown after
shape counts (Outside digits) c = plain_shape (Outside digits) c (Outside digits) _ (c == 32) refl (apart_goes_on counts digits c)
shape counts Inside c =
    shown_once _ _ (either (HasCode c) (c == 39) _ _ (marked_code c) (quoted_code c)) (either NotParted (c == 39) _ _ tt tt)
shape counts Closed c = plain_shape Closed c Parted _ (c == 32) refl (apart_goes_on counts None c)
shape counts Parted c = parted_shape c _ (c == 32) (c == 39) refl (behind_goes_on counts None c)
shape counts (Counted zero) c = shown_once _ _ (quoted_code c) tt
shape counts (Counted (suc n)) c = shown_once _ _ (quoted_code c) tt

-- the least place that may come
abbrev least : Standing → ℕ → ℕ
least Parted at = at - 1
least _ at = at

least_fits : (s : Standing) (at : ℕ) → least s at ≤ at
least_fits (Outside digits) at = omega arith
least_fits Inside at = omega arith
least_fits Closed at = omega arith
least_fits Parted at = omega arith
least_fits (Counted n) at = omega arith

least_behind : (s : Standing) (at : ℕ) → at ≤ least s (suc at)
least_behind (Outside digits) at = omega arith
least_behind Inside at = omega arith
least_behind Closed at = omega arith
least_behind Parted at = omega arith
least_behind (Counted n) at = omega arith

least_next : (s : Standing) (at : ℕ) → NotParted s → suc at ≤ least s (suc at)
least_next (Outside digits) at on = omega arith
least_next Inside at on = omega arith
least_next Closed at on = omega arith
least_next Parted at on = absurd on
least_next (Counted n) at on = omega arith

abbrev MayStand : Standing → ℕ → Type 0
MayStand Parted at = 1 ≤ at
MayStand _ at = Unit {0}

stands_next : (s : Standing) (at : ℕ) → MayStand s (suc at)
stands_next (Outside digits) at = tt
stands_next Inside at = tt
stands_next Closed at = tt
stands_next Parted at = omega arith
stands_next (Counted n) at = tt

rises_by : (s : Standing) (c at stop : ℕ) (sh : List Character) (next : Standing) (more : List ℕ) → MayStand s at → Shape s c sh next
    → Rises (least next (suc at)) more stop → Rises (least s at) (placed at sh ++ more) stop
unfolding placed
rises_by s c at stop _ _ more may (left_out next is) rises =
    let one = least_fits s at in let two = least_behind next at in lower (least next (suc at)) (least s at) stop more (omega (arith, one, two)) rises
rises_by s c at stop _ _ more may (shown_once ch next code on) rises =
    one_more (least s at) stop at more (least_fits s at) (lower (least next (suc at)) (suc at) stop more (least_next next at on) rises)
rises_by Parted c at stop _ _ more may (shown_twice blank ch next code parted on) rises =
    one_more (at - 1) stop (at - 1) (at ∷ more) (omega arith)
    (one_more (suc (at - 1)) stop at more (omega (arith, may)) (lower (least next (suc at)) (suc at) stop more (least_next next at on) rises))
rises_by (Outside digits) c at stop _ _ more may (shown_twice blank ch next code parted on) rises = absurd parted
rises_by Inside c at stop _ _ more may (shown_twice blank ch next code parted on) rises = absurd parted
rises_by Closed c at stop _ _ more may (shown_twice blank ch next code parted on) rises = absurd parted
rises_by (Counted n) c at stop _ _ more may (shown_twice blank ch next code parted on) rises = absurd parted

rises_from : (counts : Bool) (s : Standing) (at stop : ℕ) (text : List ℕ) → MayStand s at → stop ≡ at + length text → Rises (least s at) (places_from counts s at text) stop
unfolding places_from
rises_from counts s at stop [] may is = let fits = least_fits s at in at_end (least s at) stop (omega (arith, is, fits))
rises_from counts s at stop (c ∷ rest) may is =
    rises_by s c at stop (shown s c) (after counts s c) (places_from counts (after counts s c) (suc at) rest) may (shape counts s c)
    (rises_from counts (after counts s c) (suc at) stop rest (stands_next (after counts s c) at) (omega (arith, is)))

-- one place for each character
length_by : (s : Standing) (c at : ℕ) (sh : List Character) (next : Standing) (more : List ℕ) (others : List Character) → Shape s c sh next → length more ≡ length others
    → length (placed at sh ++ more) ≡ length (sh ++ others)
unfolding placed
length_by s c at _ _ more others (left_out next is) same = same
length_by s c at _ _ more others (shown_once ch next code on) same = ap suc same
length_by s c at _ _ more others (shown_twice blank ch next code parted on) same = ap (λ n. suc (suc n)) same

length_same : (counts : Bool) (s : Standing) (at : ℕ) (text : List ℕ) → length (places_from counts s at text) ≡ length (characters_from counts s text)
unfolding places_from characters_from
length_same counts s at [] = refl
length_same counts s at (c ∷ rest) =
    length_by s c at (shown s c) (after counts s c) (places_from counts (after counts s c) (suc at) rest) (characters_from counts (after counts s c) rest) (shape counts s c)
    (length_same counts (after counts s c) (suc at) rest)

-- each byte is a blank, or a character has its place
record IsShown (ps : List ℕ) (cs : List Character) (place byte : ℕ) : Type 0 where
  which : ℕ
  within : which < length ps
  place_is : get_or ps which 0 ≡ place
  code : HasCode byte (get_or cs which no_character)

abbrev BlankOrShown : List ℕ → List Character → ℕ → ℕ → Type 0
BlankOrShown ps cs place byte = (byte ≡ 32) ⊎ IsShown ps cs place byte

first_shown : (s : Standing) (c at : ℕ) (sh : List Character) (next : Standing) (more : List ℕ) (others : List Character) → Shape s c sh next
    → BlankOrShown (placed at sh ++ more) (sh ++ others) at c
unfolding placed
first_shown s c at _ _ more others (left_out next is) = inl is
first_shown s c at _ _ more others (shown_once ch next code on) = inr (record { which = 0; within = omega arith; place_is = refl; code = code })
first_shown s c at _ _ more others (shown_twice blank ch next code parted on) = inr (record { which = 1; within = omega arith; place_is = refl; code = code })

later_shown : (s : Standing) (c at : ℕ) (sh : List Character) (next : Standing) (more : List ℕ) (others : List Character) (place byte : ℕ) → Shape s c sh next
    → BlankOrShown more others place byte → BlankOrShown (placed at sh ++ more) (sh ++ others) place byte
unfolding placed
later_shown s c at _ _ more others place byte sh (inl is) = inl is
later_shown s c at _ _ more others place byte (left_out next is) (inr seen) = inr seen
later_shown s c at _ _ more others place byte (shown_once ch next code on) (inr seen) =
    let low = seen.within in inr (record { which = suc seen.which; within = omega (arith, low); place_is = seen.place_is; code = seen.code })
later_shown s c at _ _ more others place byte (shown_twice blank ch next code parted on) (inr seen) =
    let low = seen.within in inr (record { which = suc (suc seen.which); within = omega (arith, low); place_is = seen.place_is; code = seen.code })

shows : (counts : Bool) (s : Standing) (at place : ℕ) (text : List ℕ) (k : ℕ) → k < length text → place ≡ at + k
    → BlankOrShown (places_from counts s at text) (characters_from counts s text) place (get_or text k 0)
unfolding places_from characters_from
shows counts s at place [] k h is = absurd (omega (arith, h))
shows counts s at place (c ∷ rest) zero h is =
    let same : place ≡ at = omega (arith, is) in
    subst (λ p. BlankOrShown (placed at (shown s c) ++ places_from counts (after counts s c) (suc at) rest) (shown s c ++ characters_from counts (after counts s c) rest) p c) (sym same)
    (first_shown s c at (shown s c) (after counts s c) (places_from counts (after counts s c) (suc at) rest) (characters_from counts (after counts s c) rest) (shape counts s c))
shows counts s at place (c ∷ rest) (suc k) h is =
    later_shown s c at (shown s c) (after counts s c) (places_from counts (after counts s c) (suc at) rest) (characters_from counts (after counts s c) rest) place (get_or rest k 0) (shape counts s c)
    (shows counts (after counts s c) (suc at) place rest k (omega (arith, h)) (omega (arith, is)))

-- TOKENS: one extent for each piece
is_none : {A : Type 0} (o : Option A) → is_some o ≡ false → o ≡ None
is_none None h = refl
is_none (Some a) h = absurd (cc)

extent_length : (o : Option Lexeme) (at n : ℕ) (es : List Span) (ps : Lexemes) → length es ≡ length ps → length (extent (is_some o) at n ++ es) ≡ length (option_to_list o ++ ps)
unfolding extent
extent_length None at n es ps same = same
extent_length (Some a) at n es ps same = ap suc same

one_for_each : (fuel : ℕ) (m : Mode) (at : ℕ) (text : List Character) → length (extents_from fuel m at text) ≡ length (pieces_from fuel m text)
unfolding extents_from pieces_from
one_for_each zero m at text = refl
one_for_each (suc fuel) m at [] = refl
one_for_each (suc fuel) m at (c ∷ rest) =
    let s = step_past_blank m c rest in
    extent_length s.piece at (suc (length rest) - length s.rest) _ _ (one_for_each fuel s.next (at + (suc (length rest) - length s.rest)) s.rest)

left_length : (c : Character) (rest : List Character) (s : Step) (n : ℕ) → IsTaken c rest s n → n + length s.rest ≡ suc (length rest)
left_length c rest s n is = let left = ap length is.left ∙ length-drop n (c ∷ rest) in let fits = is.fits in omega (arith, left, fits)

-- the extents are within the characters
data AreInside (most : ℕ) : List Span → Type 0 where
  none_inside : AreInside most []
  one_inside : (e : Span) (es : List Span) → 1 ≤ e.len → e.from + e.len ≤ most → AreInside most es → AreInside most (e ∷ es)

inside_by : (most at n : ℕ) (b : Bool) (es : List Span) → 1 ≤ n → at + n ≤ most → AreInside most es → AreInside most (extent b at n ++ es)
unfolding extent
inside_by most at n true es some fits more = one_inside _ es some fits more
inside_by most at n false es some fits more = more

inside : (most fuel : ℕ) (m : Mode) (at : ℕ) (text : List Character) → at + length text ≤ most → AreInside most (extents_from fuel m at text)
unfolding extents_from
inside most zero m at text h = none_inside
inside most (suc fuel) m at [] h = none_inside
inside most (suc fuel) m at (c ∷ rest) h =
    let s = step_past_blank m c rest in
    let n = suc (length rest) - length s.rest in
    let is = taken m c rest in
    let sum = left_length c rest s n is in
    let some = is.some in
    inside_by most at n (is_some s.piece) _ some (omega (arith, sum, h)) (inside most fuel s.next (at + n) s.rest (omega (arith, sum, h)))

no_longer : (low stop : ℕ) (ps : List ℕ) → Rises low ps stop → low + length ps ≤ stop
no_longer low stop [] (at_end _ _ h) = omega (arith, h)
no_longer low stop (p ∷ ps) (one_more _ _ _ _ h more) = let rest = no_longer (suc p) stop ps more in omega (arith, h, rest)

within_by : (stop : ℕ) (ps : List ℕ) (es : List Span) → Rises 0 ps stop → AreInside (length ps) es → stop ≤ 18446744073709551615 → AreWithin ps es
within_by stop ps [] rises inner short = none_within
within_by stop ps (e ∷ es) rises (one_inside _ _ some fits more) short =
    let last = below_stop 0 stop ps (e.from + e.len - 1) rises (omega (arith, some, fits)) in
    let few = no_longer 0 stop ps rises in
    one_within e es (omega (arith, fits, short, few)) (omega (arith, last, short)) (within_by stop ps es rises more short)

-- IN ORDER
module _ (ps : List ℕ) (stop : ℕ) (rises : Rises 0 ps stop) where
  NotBefore : ℕ → ℕ → Type 0
  NotBefore start at = (j : ℕ) → at ≤ j → j < length ps → start ≤ get_or ps j 0

  ordered_by : (b : Bool) (at n start : ℕ) (es : List Span) → 1 ≤ n → at + n ≤ length ps → start ≤ stop → NotBefore start at
      → ((next : ℕ) → next ≤ stop → NotBefore next (at + n) → IsInOrder next (map (place_of ps) es) stop) → IsInOrder start (map (place_of ps) (extent b at n ++ es)) stop
  unfolding extent place_of NotBefore
  ordered_by false at n start es some fits low before more = more start low (λ j h k. before j (omega (arith, h)) k)
  ordered_by true at n start es some fits low before more =
      let first = get_or ps at 0 in
      let last = get_or ps (at + n - 1) 0 in
      let up = not_falling 0 stop ps at (at + n - 1) rises (omega (arith, some)) (omega (arith, some, fits)) in
      let below = below_stop 0 stop ps (at + n - 1) rises (omega (arith, some, fits)) in
      let begins = before at (omega arith) (omega (arith, some, fits)) in
      let ends : first + (suc last - first) ≡ suc last = omega (arith, up) in
      one_first start stop (record { from = first; len = suc last - first }) (map (place_of ps) es) begins (omega (arith, up))
      (subst (λ e. IsInOrder e (map (place_of ps) es) stop) (sym ends)
      (more (suc last) (omega (arith, below)) (λ j h k. rising 0 stop ps (at + n - 1) j rises (omega (arith, some, h)) k)))

  ordered : (fuel : ℕ) (m : Mode) (at : ℕ) (text : List Character) (start : ℕ) → at + length text ≤ length ps → start ≤ stop → NotBefore start at
      → IsInOrder start (map (place_of ps) (extents_from fuel m at text)) stop
  unfolding extents_from
  ordered zero m at text start fits low before = none_left start stop low
  ordered (suc fuel) m at [] start fits low before = none_left start stop low
  ordered (suc fuel) m at (c ∷ rest) start fits low before =
      let s = step_past_blank m c rest in
      let n = suc (length rest) - length s.rest in
      let is = taken m c rest in
      let sum = left_length c rest s n is in
      ordered_by (is_some s.piece) at n start (extents_from fuel s.next (at + n) s.rest) is.some (omega (arith, sum, fits)) low before
      (λ next high behind. ordered fuel s.next (at + n) s.rest next (omega (arith, sum, fits)) high behind)

-- EACH CHARACTER is one of a token, or is skipped
data IsCovered (most i : ℕ) : List Span → Type 0 where
  in_first : (e : Span) (es : List Span) → e.from ≤ i → i < e.from + e.len → e.from + e.len ≤ most → IsCovered most i (e ∷ es)
  in_later : (e : Span) (es : List Span) → IsCovered most i es → IsCovered most i (e ∷ es)

covered_by : (b : Bool) (most i at n : ℕ) (es : List Span) → IsCovered most i es → IsCovered most i (extent b at n ++ es)
unfolding extent
covered_by false most i at n es is = is
covered_by true most i at n es is = in_later _ es is

covered_now : (b : Bool) (most i at n : ℕ) (es : List Span) (P : Type 0) → at ≤ i → i < at + n → at + n ≤ most → (b ≡ false → P) → IsCovered most i (extent b at n ++ es) ⊎ P
unfolding extent
covered_now true most i at n es P low high fits skipped = inl (in_first _ es low high fits)
covered_now false most i at n es P low high fits skipped = inr (skipped refl)

covered : (most fuel : ℕ) (m : Mode) (at : ℕ) (text : List Character) (i j : ℕ) → at + length text ≤ most → length text ≤ fuel → j < length text → i ≡ at + j
    → IsCovered most i (extents_from fuel m at text) ⊎ IsSkipped (get_or text j no_character)
unfolding extents_from
covered most zero m at text i j fits enough h is = absurd (omega (arith, enough, h))
covered most (suc fuel) m at [] i j fits enough h is = absurd (omega (arith, h))
covered most (suc fuel) m at (c ∷ rest) i j fits enough h is =
    let s = step_past_blank m c rest in
    let n = suc (length rest) - length s.rest in
    let t = taken m c rest in
    let sum = left_length c rest s n t in
    let some = t.some in
    by_place n (cases_lt j n) (λ below.
    covered_now (is_some s.piece) most i at n (extents_from fuel s.next (at + n) s.rest) (IsSkipped (get_or (c ∷ rest) j no_character)) (omega (arith, is)) (omega (arith, is, below))
    (omega (arith, sum, fits)) (λ none. t.skips (is_none s.piece none) j below))
    (λ above.
    let there : get_or s.rest (j - n) no_character ≡ get_or (c ∷ rest) j no_character =
    ap (λ l. get_or l (j - n) no_character) t.left ∙ get_or-drop n (c ∷ rest) (j - n) no_character
    ∙ ap (λ k. get_or (c ∷ rest) k no_character) (let e : n + (j - n) ≡ j = omega (arith, above) in e) in
    on_left (covered_by (is_some s.piece) most i at n (extents_from fuel s.next (at + n) s.rest)) there
    (covered most fuel s.next (at + n) s.rest i (j - n) (omega (arith, sum, fits)) (omega (arith, sum, enough, some)) (omega (arith, sum, h, above)) (omega (arith, is, above))))
  where
    by_place : {P : Type 0} (n : ℕ) → (j < n) ⊎ (n ≤ j) → (j < n → P) → (n ≤ j → P) → P
    by_place n (inl below) p q = p below
    by_place n (inr above) p q = q above

    on_left : {A B : Type 0} {x y : Character} → (A → B) → x ≡ y → A ⊎ IsSkipped x → B ⊎ IsSkipped y
    on_left f same (inl a) = inl (f a)
    on_left f same (inr skipped) = inr (subst IsSkipped same skipped)

or_true : (a b : Bool) → b ≡ true → (a || b) ≡ true
or_true true b h = refl
or_true false b h = h

true_or : (a b : Bool) → a ≡ true → (a || b) ≡ true
true_or true b h = refl
true_or false b h = absurd (cc)

both_true : (a b : Bool) → a ≡ true → b ≡ true → (a && b) ≡ true
both_true true b h k = k
both_true false b h k = absurd (cc)

placed_by : (ps : List ℕ) (stop i : ℕ) (es : List Span) → Rises 0 ps stop → IsCovered (length ps) i es → is_placed (get_or ps i 0) (map (place_of ps) es) ≡ true
unfolding is_placed place_of
placed_by ps stop i [] rises is = elim is [ ]
placed_by ps stop i (e ∷ es) rises (in_later _ _ is) = or_true _ _ (placed_by ps stop i es rises is)
placed_by ps stop i (e ∷ es) rises (in_first _ _ low high fits) =
    let begins = not_falling 0 stop ps e.from i rises low (omega (arith, high, fits)) in
    let ends = not_falling 0 stop ps i (e.from + e.len - 1) rises (omega (arith, high)) (omega (arith, high, low, fits)) in
    true_or _ _ (both_true _ _ (le-leb _ _ begins) (lt-ltb _ _ (omega (arith, begins, ends))))

blank_between : is_between 32 ≡ true
unfolding is_between is_skipped
blank_between = refl

between_by : (byte : ℕ) (ch : Character) → IsSkipped ch → HasCode byte ch → is_between byte ≡ true
unfolding is_between
between_by byte ch is code = sym (ap is_skipped (code is.plain)) ∙ is.skipped

pub are_places : (k : StmtKind) (labelled : Bool) (text : List ℕ) → ArePlaces k labelled text (token_places k labelled text)
unfolding token_places extents pieces character_places characters NotBefore
are_places k labelled text =
    let counts = has_counted labelled text in
    let cs = characters_from counts (Outside None) text in
    let ps = places_from counts (Outside None) 0 text in
    let rises : Rises 0 ps (length text) = rises_from counts (Outside None) 0 (length text) text tt (omega arith) in
    let same : length ps ≡ length cs = length_same counts (Outside None) 0 text in
    record {
      one_each = length-map (extents_from (length cs) (Begins k) 0 cs) (place_of ps) ∙ one_for_each (length cs) (Begins k) 0 cs;
      in_order = ordered ps (length text) rises (length cs) (Begins k) 0 cs 0 (omega (arith, same)) (omega arith) (λ j h low. omega arith);
      else_between = λ at h. by_shown ps cs text (extents_from (length cs) (Begins k) 0 cs) at rises (shows counts (Outside None) 0 at text at h (omega arith))
          (λ j low. covered (length ps) (length cs) (Begins k) 0 cs j j (omega (arith, same)) (omega arith) (omega (arith, same, low)) (omega arith));
    }
  where
    by_shown : (ps : List ℕ) (cs : List Character) (text : List ℕ) (es : List Span) (at : ℕ) → Rises 0 ps (length text) → BlankOrShown ps cs at (get_or text at 0)
        → ((j : ℕ) → j < length ps → IsCovered (length ps) j es ⊎ IsSkipped (get_or cs j no_character))
        → (is_placed at (map (place_of ps) es) ≡ true) ⊎ (is_between (get_or text at 0) ≡ true)
    by_shown ps cs text es at rises (inl blank) each = inr (ap is_between blank ∙ blank_between)
    by_shown ps cs text es at rises (inr seen) each = by_cover (each seen.which seen.within)
      where
        by_cover : IsCovered (length ps) seen.which es ⊎ IsSkipped (get_or cs seen.which no_character) → (is_placed at (map (place_of ps) es) ≡ true) ⊎ (is_between (get_or text at 0) ≡ true)
        by_cover (inl is) = inl (ap (λ p. is_placed p (map (place_of ps) es)) (sym seen.place_is) ∙ placed_by ps (length text) seen.which es rises is)
        by_cover (inr skipped) = inr (between_by (get_or text at 0) (get_or cs seen.which no_character) skipped seen.code)

pub are_within : (k : StmtKind) (labelled : Bool) (text : List ℕ) → length text ≤ 18446744073709551615 → AreWithin (character_places labelled text) (extents k (characters labelled text))
unfolding extents character_places characters
are_within k labelled text short =
    let counts = has_counted labelled text in
    let cs = characters_from counts (Outside None) text in
    let ps = places_from counts (Outside None) 0 text in
    let rises : Rises 0 ps (length text) = rises_from counts (Outside None) 0 (length text) text tt (omega arith) in
    let same : length ps ≡ length cs = length_same counts (Outside None) 0 text in
    within_by (length text) ps (extents_from (length cs) (Begins k) 0 cs) rises (inside (length ps) (length cs) (Begins k) 0 cs (omega (arith, same))) short
