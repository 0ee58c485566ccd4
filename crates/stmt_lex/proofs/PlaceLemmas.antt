-- Where the tokens of a text stand, one step after another.
use Rattle.std.proofs.Common.{◌≡◌, ℕ, zero, suc, ◌+◌, ◌-◌, ◌<◌, ◌≤◌, List, [], ◌∷◌, ◌++◌, length, drop, get_or, refl, sym, ap, ◌∙◌, Option, Some, None, is_some, arith, append_assoc, inl, inr}
use Rattle.std.specs.Prelude.{option_map, ◌⊎◌}
use Rattle.std.proofs.lemmas.List.{drop-drop, length-drop, append-nil}
use Rattle.fortran_text.specs.declared.characters.Character.{Character}
use Rattle.fortran_lexemes.specs.PiecesOfStatements as statement_pieces
use Rattle.fortran_lexemes.specs.PiecesOfStatements.{step_past_blank}
use Rattle.fortran_lexemes.specs.declared.kinds.StmtKind.{StmtKind}
use Rattle.fortran_lexemes.specs.declared.modes.Mode.{Mode}
use Rattle.fortran_lexemes.specs.declared.modes.Mode.TheVariants.{Begins}
use Rattle.stmt_lex.specs.SeenTokens.{lexeme_of, seen_step, IsStep}
use Rattle.stmt_lex.specs.PlacesOfTokens.{extent, extents_from, extents, AreWithin, one_within}
use Rattle.stmt_lex.specs.declared.token.Span.{Span}
use Rattle.stmt_lex.specs.declared.token.Step.{Step}
use Rattle.stmt_lex.proofs.ReaderLemmas.{front, empty}

pub none_there : (xs : List ℕ) (i : ℕ) → length xs ≤ i → 0 ≡ get_or xs i 0
none_there [] zero h = refl
none_there [] (suc i) h = refl
none_there (x ∷ xs) zero h = absurd (omega arith)
none_there (x ∷ xs) (suc i) h = none_there xs i (omega arith)

-- the numbers of one token
pub record IsWithin (places : List ℕ) (e : Span) : Type 0 where
  pub sum : e.from + e.len < 18446744073709551616
  pub last : get_or places (e.from + e.len - 1) 0 < 18446744073709551615

pub within_at : (places : List ℕ) (es : List Span) (i : ℕ) (d : Span) → AreWithin places es → i < length es → IsWithin places (get_or es i d)
within_at places [] i d all h = absurd (omega (arith, h))
within_at places (e ∷ es) zero d (one_within _ _ sum last more) h = record { sum = sum; last = last }
within_at places (e ∷ es) (suc i) d (one_within _ _ sum last more) h = within_at places es i d more (omega (arith, h))

some_same : {A B : Type 0} (f : A → B) (o : Option A) → is_some (option_map f o) ≡ is_some o
some_same f None = refl
some_same f (Some a) = refl

-- what a step of the definition gives
given_by : (fuel at : ℕ) (c : Character) (rest : List Character) → statement_pieces.Step → List Span
given_by fuel at c rest w =
    extent (is_some w.piece) at (suc (length rest) - length w.rest) ++ extents_from fuel w.next (at + (suc (length rest) - length w.rest)) w.rest

extents_step : (fuel : ℕ) (m : Mode) (at : ℕ) (c : Character) (rest : List Character) (s : Step) → 0 < fuel → IsStep c rest (step_past_blank m c rest) s
    → extents_from fuel m at (c ∷ rest) ≡ extent (is_some s.token) at s.len ++ extents_from (fuel - 1) s.next (at + s.len) (drop s.len (c ∷ rest))
unfolding extents_from seen_step given_by
extents_step zero m at c rest s some is = absurd (omega arith)
extents_step (suc fuel) m at c rest s some is =
    let same : fuel ≡ suc fuel - 1 = omega arith in
    let left : length (drop s.len (c ∷ rest)) ≡ suc (length rest) - s.len = length-drop s.len (c ∷ rest) in
    let fits = is.within in
    let taken : suc (length rest) - length (drop s.len (c ∷ rest)) ≡ s.len = omega (arith, left, fits) in
    sym (ap (given_by fuel at c rest) is.value)
    ∙ ap (λ b. extent b at (suc (length rest) - length (drop s.len (c ∷ rest))) ++ extents_from fuel s.next (at + (suc (length rest) - length (drop s.len (c ∷ rest)))) (drop s.len (c ∷ rest)))
    (some_same (lexeme_of (c ∷ rest)) s.token)
    ∙ ap (λ n. extent (is_some s.token) at n ++ extents_from fuel s.next (at + n) (drop s.len (c ∷ rest))) taken
    ∙ ap (λ n. extent (is_some s.token) at s.len ++ extents_from n s.next (at + s.len) (drop s.len (c ∷ rest))) same

pub extent_at : (whole : List Span) (text slice behind : List Character) (e : Character) (fuel next_fuel : ℕ) (m : Mode) (at : ℕ) (s : Step) (found longer : List Span)
    → slice ≡ drop at text → 1 ≤ length slice → behind ≡ drop 1 slice → IsStep (get_or slice 0 e) behind (step_past_blank m (get_or slice 0 e) behind) s
    → whole ≡ found ++ extents_from fuel m at (drop at text) → 0 < fuel → next_fuel ≡ fuel - 1 → longer ≡ found ++ extent (is_some s.token) at s.len
    → whole ≡ longer ++ extents_from next_fuel s.next (at + s.len) (drop (at + s.len) text)
extent_at whole text slice behind e fuel next_fuel m at s found longer slice_is full behind_is is start some less more =
    let c = get_or slice 0 e in
    let there : drop at text ≡ c ∷ behind = sym slice_is ∙ front slice e full ∙ ap (λ l. c ∷ l) (sym behind_is) in
    let one = extent (is_some s.token) at s.len in
    start ∙ ap (λ l. found ++ extents_from fuel m at l) there ∙ ap (λ l. found ++ l) (extents_step fuel m at c behind s some is)
    ∙ ap (λ l. found ++ (one ++ extents_from (fuel - 1) s.next (at + s.len) (drop s.len l))) (sym there)
    ∙ ap (λ l. found ++ (one ++ extents_from (fuel - 1) s.next (at + s.len) l)) (drop-drop s.len at text)
    ∙ ap (λ n. found ++ (one ++ extents_from n s.next (at + s.len) (drop (at + s.len) text))) (sym less)
    ∙ sym (append_assoc found one (extents_from next_fuel s.next (at + s.len) (drop (at + s.len) text)))
    ∙ ap (λ l. l ++ extents_from next_fuel s.next (at + s.len) (drop (at + s.len) text)) (sym more)

none_behind : (fuel : ℕ) (m : Mode) (at : ℕ) → extents_from fuel m at [] ≡ []
unfolding extents_from
none_behind zero m at = refl
none_behind (suc fuel) m at = refl

no_fuel : (fuel : ℕ) (m : Mode) (at : ℕ) (text : List Character) → fuel ≤ 0 → extents_from fuel m at text ≡ []
unfolding extents_from
no_fuel zero m at text h = refl
no_fuel (suc fuel) m at text h = absurd (omega arith)

pub extents_end : (kind : StmtKind) (text : List Character) (fuel : ℕ) (m : Mode) (at : ℕ) (slice : List Character) (found : List Span)
    → extents_from (length text) (Begins kind) 0 text ≡ found ++ extents_from fuel m at slice → (length slice < 1) ⊎ (fuel ≤ 0) → found ≡ extents kind text
unfolding extents
extents_end kind text fuel m at slice found start (inl short) =
    sym (start ∙ ap (λ l. found ++ extents_from fuel m at l) (empty slice short) ∙ ap (λ l. found ++ l) (none_behind fuel m at) ∙ append-nil found)
extents_end kind text fuel m at slice found start (inr none) =
    sym (start ∙ ap (λ l. found ++ l) (no_fuel fuel m at slice none) ∙ append-nil found)

pub extents_begin : (kind : StmtKind) (text : List Character) (found : List Span) → found ≡ []
    → extents_from (length text) (Begins kind) 0 text ≡ found ++ extents_from (length text - 0) (Begins kind) 0 text
extents_begin kind text found none =
    let same : length text ≡ length text - 0 = omega arith in
    ap (λ n. extents_from n (Begins kind) 0 text) same ∙ ap (λ l. l ++ extents_from (length text - 0) (Begins kind) 0 text) (sym none)
