-- What is cut at a place.
use Rattle.std.proofs.Common.{◌≡◌, ℕ, zero, suc, ◌+◌, ◌<◌, ◌≤◌, Bool, true, false, List, [], ◌∷◌, length, take, drop, get_or, refl, sym, ap, ◌∙◌, Option, Some, None, arith, nat_lt, ◌-◌, add-one}
use Rattle.std.specs.Prelude.{◌==◌, ◌&&◌, not}
use Rattle.fortran_text.specs.declared.characters.Character.{Character}
use Rattle.fortran_lexemes.specs.PiecesOfText as text_pieces
use Rattle.fortran_lexemes.specs.PiecesOfText.{cut_at, constant_end, is_mark, codes_of}
use Rattle.fortran_lexemes.specs.PiecesOfStatements as statement_pieces
use Rattle.fortran_lexemes.specs.PiecesOfStatements.{plain_step, depth_behind, left_behind, is_then, inner_step, behind_if_step, is_format, format_step, part_step, behind_constant, behind_part}
use Rattle.fortran_lexemes.specs.declared.modes.Mode.{Mode}
use Rattle.stmt_lex.specs.SeenTokens.{lexeme_of, seen_cut, seen_step, IsStep}
use Rattle.stmt_lex.specs.declared.token.Step.{Step}
use Rattle.stmt_lex.specs.declared.token.Token.{Token}
use Rattle.stmt_lex.specs.declared.token.Token.TheVariants as token
use Rattle.fortran_lexemes.specs.KindsOfStatements.{kind_of_characters}
use Rattle.fortran_lexemes.specs.Lexemes.{FormatText}
use Rattle.fortran_lexemes.specs.declared.kinds.StmtKind.{StmtKind}
use Rattle.fortran_lexemes.specs.declared.modes.Mode.TheVariants as mode
use Rattle.std.proofs.lemmas.List.{take_all, drop_all, take_rest}
use Rattle.std.proofs.lemmas.Bool.{le-ltb, lt-ltb, ne_eqb}

pub plain_seen : (next : Mode) (c : Character) (rest : List Character) (token : Token) (len : ℕ) → seen_cut (c ∷ rest) (record { token = token; len = len }) ≡ cut_at c rest
    → seen_step (c ∷ rest) (record { token = Some token; len = len; next = next }) ≡ plain_step next c rest
unfolding seen_cut seen_step
plain_seen next c rest token len h = ap {B = statement_pieces.Step} (λ (cut : text_pieces.Cut). record { piece = Some cut.piece; rest = cut.rest; next = next }) h

pub left_none : (depth : ℕ) (rest : List Character) → 0 < depth → length rest < 1 → None ≡ left_behind depth rest
unfolding left_behind
left_none zero rest h k = absurd (omega arith)
left_none (suc depth) [] h k = refl
left_none (suc depth) (c ∷ rest) h k = absurd (omega arith)

pub left_on : (depth : ℕ) (e : Character) (rest : List Character) → 0 < depth → 1 ≤ length rest → left_behind depth rest ≡ left_behind (depth_behind depth (get_or rest 0 e)) (drop 1 rest)
unfolding left_behind
left_on zero e rest h k = absurd (omega arith)
left_on (suc depth) e [] h k = absurd (omega arith)
left_on (suc depth) e (c ∷ rest) h k = refl

pub left_found : (depth : ℕ) (rest : List Character) → depth ≤ 0 → Some (length rest) ≡ left_behind depth rest
unfolding left_behind
left_found zero rest h = refl
left_found (suc depth) rest h = absurd (omega arith)

pub then_behind_if : (c : Character) (rest : List Character) → is_then (c ∷ rest) ≡ true → length rest ≡ 3
    → IsStep c rest (behind_if_step c rest) (record { token = Some token.Then; len = 4; next = mode.Plain })
unfolding behind_if_step seen_step lexeme_of
then_behind_if c rest h alone = record { value = rw h refl; within = omega arith }

pub inner_behind_if : (c : Character) (rest text : List Character) (k : Option StmtKind) (s : Step) → text ≡ c ∷ rest → is_then (c ∷ rest) ≡ false
    → k ≡ kind_of_characters false text → seen_step (c ∷ rest) s ≡ inner_step k c rest → s.len ≤ suc (length rest) → IsStep c rest (behind_if_step c rest) s
unfolding behind_if_step
inner_behind_if c rest text k s is h found value within =
    let same : k ≡ kind_of_characters false (c ∷ rest) = found ∙ ap (λ t. kind_of_characters false t) is in
    record { value = rw h (value ∙ ap (λ o. inner_step o c rest) same); within = within }

pub whole_format : (c : Character) (rest : List Character) → is_mark 40 c ≡ true → is_format (suc (length rest)) 1 (Some rest) ≡ true
    → seen_step (c ∷ rest) (record { token = Some (token.FormatText (record { from = 0; len = length rest + 1 })); len = length rest + 1; next = mode.Plain }) ≡ format_step c rest
unfolding format_step seen_step lexeme_of
whole_format c rest h k =
    let all : take (length rest + 1) (c ∷ rest) ≡ c ∷ rest = take_all (length rest + 1) (c ∷ rest) (omega arith) in
    let none : drop (length rest + 1) (c ∷ rest) ≡ [] = drop_all (length rest + 1) (c ∷ rest) (omega arith) in
    rw (h, k) (ap {B = statement_pieces.Step} (λ l. record { piece = Some (FormatText (codes_of l)); rest = drop (length rest + 1) (c ∷ rest); next = mode.Plain }) all
    ∙ ap {B = statement_pieces.Step} (λ l. record { piece = Some (FormatText (codes_of (c ∷ rest))); rest = l; next = mode.Plain }) none)

pub no_format : (c : Character) (rest : List Character) → is_mark 40 c && is_format (suc (length rest)) 1 (Some rest) ≡ false → part_step c rest ≡ format_step c rest
unfolding format_step
no_format c rest h = rw h refl

-- a format, one character further
pub format_end : (fuel depth : ℕ) (rest : List Character) → 0 < fuel → length rest < 1 → (depth == 0) ≡ is_format fuel depth (Some rest)
unfolding is_format
format_end zero depth rest h k = absurd (omega arith)
format_end (suc fuel) depth [] h k = refl
format_end (suc fuel) depth (c ∷ rest) h k = absurd (omega arith)

format_at : (fuel depth : ℕ) (e : Character) (rest : List Character) → 0 < fuel → 1 ≤ length rest
    → is_format fuel depth (Some rest) ≡ (not (depth == 0) && nat_lt depth 65 && is_format (fuel - 1) (depth_behind depth (get_or rest 0 e)) (behind_part (get_or rest 0 e) (drop 1 rest)))
unfolding is_format
format_at zero depth e rest h k = absurd (omega arith)
format_at (suc fuel) depth e [] h k = absurd (omega arith)
format_at (suc fuel) depth e (c ∷ rest) h k =
    let same : fuel ≡ suc fuel - 1 = omega arith in ap (λ n. not (depth == 0) && nat_lt depth 65 && is_format n (depth_behind depth c) (behind_part c rest)) same

pub format_zero : (fuel : ℕ) (depth : ℕ) (o : Option (List Character)) → fuel ≤ 0 → false ≡ is_format fuel depth o
unfolding is_format
format_zero zero depth o h = refl
format_zero (suc fuel) depth o h = absurd (omega arith)

format-none : (fuel depth : ℕ) → false ≡ is_format fuel depth None
unfolding is_format
format-none zero depth = refl
format-none (suc fuel) depth = refl

and_no : (x y : Bool) → (x && false && y) ≡ false
and_no true y = refl
and_no false y = refl

and_none : (x : Bool) → (x && false) ≡ false
and_none true = refl
and_none false = refl

pub format_closed : (fuel depth : ℕ) (rest : List Character) → 0 < fuel → 1 ≤ length rest → depth ≡ 0 → false ≡ is_format fuel depth (Some rest)
format_closed fuel zero rest h k out = sym (format_at fuel zero (record { code = 0; quoted = false }) rest h k)
format_closed fuel (suc depth) rest h k out = absurd (omega arith)

pub format_deep : (fuel depth : ℕ) (rest : List Character) → 0 < fuel → 1 ≤ length rest → 64 < depth → false ≡ is_format fuel depth (Some rest)
format_deep fuel depth rest h k out =
    let past : nat_lt depth 65 ≡ false = le-ltb depth 65 (omega arith) in
    sym (format_at fuel depth (record { code = 0; quoted = false }) rest h k ∙ rw past (and_no (not (depth == 0)) _))

pub format_stuck : (fuel depth : ℕ) (e : Character) (rest behind : List Character) → 0 < fuel → 1 ≤ length rest → behind ≡ drop 1 rest
    → None ≡ behind_part (get_or rest 0 e) behind → false ≡ is_format fuel depth (Some rest)
format_stuck fuel depth e rest behind h k is none =
    let nothing : behind_part (get_or rest 0 e) (drop 1 rest) ≡ None = ap (λ l. behind_part (get_or rest 0 e) l) (sym is) ∙ sym none in
    let x = not (depth == 0) && nat_lt depth 65 in
    sym (format_at fuel depth e rest h k ∙ ap (λ o. x && is_format (fuel - 1) (depth_behind depth (get_or rest 0 e)) o) nothing
    ∙ ap (λ b. x && b) (sym (format-none (fuel - 1) (depth_behind depth (get_or rest 0 e)))) ∙ and_none x)

pub format_on : (fuel depth : ℕ) (e : Character) (rest behind left : List Character) → 0 < fuel → 1 ≤ length rest → (depth ≡ 0 → ⊥) → depth ≤ 64 → behind ≡ drop 1 rest
    → Some left ≡ behind_part (get_or rest 0 e) behind → is_format fuel depth (Some rest) ≡ is_format (fuel - 1) (depth_behind depth (get_or rest 0 e)) (Some left)
format_on fuel depth e rest behind left h k some within is found =
    let open_here : depth == 0 ≡ false = ne_eqb depth 0 some in
    let not_deep : nat_lt depth 65 ≡ true = lt-ltb depth 65 (omega arith) in
    let there : behind_part (get_or rest 0 e) (drop 1 rest) ≡ Some left = ap (λ l. behind_part (get_or rest 0 e) l) (sym is) ∙ sym found in
    format_at fuel depth e rest h k ∙ ap (λ o. not (depth == 0) && nat_lt depth 65 && is_format (fuel - 1) (depth_behind depth (get_or rest 0 e)) o) there
    ∙ rw (open_here, not_deep) refl

-- behind a constant of a format
pub constant_open : (rest : List Character) (o : Option ℕ) → o ≡ constant_end 0 rest → o ≡ None → None ≡ behind_constant (constant_end 0 rest) rest
unfolding behind_constant
constant_open rest o is none = ap (λ p. behind_constant p rest) (sym none ∙ is)

pub constant_empty : (rest : List Character) (o : Option ℕ) (n : ℕ) → o ≡ constant_end 0 rest → o ≡ Some n → n ≡ 0 → None ≡ behind_constant (constant_end 0 rest) rest
unfolding behind_constant
constant_empty rest o n is some zero_long = ap (λ k. behind_constant (Some k) rest) (sym zero_long) ∙ ap (λ p. behind_constant p rest) (sym some ∙ is)

pub constant_full : (rest : List Character) (o : Option ℕ) (n : ℕ) → o ≡ constant_end 0 rest → o ≡ Some n → (n ≡ 0 → ⊥)
    → Some (take (length rest - (n + 1)) (drop (n + 1) rest)) ≡ behind_constant (constant_end 0 rest) rest
unfolding behind_constant
constant_full rest o zero is some full = absurd (full refl)
constant_full rest o (suc n) is some full =
    ap Some (take_rest rest (suc n + 1)) ∙ ap (λ k. Some (drop k rest)) (add-one (suc n)) ∙ ap (λ p. behind_constant p rest) (sym some ∙ is)
