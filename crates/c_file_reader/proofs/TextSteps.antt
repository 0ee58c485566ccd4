-- The tokens from the offending one on are the last ones of the text, as many as the reader leaves.
use Rattle.std.proofs.Common.{◌≡◌, refl, sym, ap, ◌∙◌, subst, ℕ, suc, ◌+◌, ◌-◌, List, [], ◌∷◌, ◌++◌, map, length, take, drop, Some, Ok, Err, arith}
use Rattle.std.proofs.Math.Seq.{drop-append_seam}
use Rattle.std.proofs.lemmas.List.{length-map, length-append, take_rest, drop-map}
use Rattle.c_lexer.specs.declared.token.PlacedCToken.{PlacedCToken}
use Rattle.c_lexer.specs.SeenTokens.{seen, placed, all_placed}
use Rattle.c_tree.specs.declared.file.CFile.{CFile}
use Rattle.c_tree.specs.Tokens.{Placed, AreTokensOf}
use Rattle.c_tree.specs.CText.{kinds, CText, RefusedLine}
use Rattle.c_file_readers.specs.c_readers.Readers.{Tokens}
use Rattle.c_file_readers.specs.FileReader.{a_file}
use Rattle.c_file_laws.specs.FileLaws.{line_at, CutBefore}
use Rattle.c_file_laws.proofs.FileLaws.{refused_c_lines, c_texts_read}
use Rattle.c_expression_reader.specs.Readings.{shown}

shown-kinds : (tokens : List PlacedCToken) → shown tokens ≡ kinds (all_placed tokens)
unfolding shown placed
shown-kinds [] = refl
shown-kinds (one ∷ more) = ap (λ z. seen one.token ∷ z) (shown-kinds more)

shown-length : (tokens : List PlacedCToken) → length (shown tokens) ≡ length tokens
unfolding shown
shown-length [] = refl
shown-length (one ∷ more) = ap suc (shown-length more)

cut-drop : (tokens front later : List Placed) → tokens ≡ front ++ later → drop (length tokens - length later) tokens ≡ later
cut-drop tokens front later is =
    let sum : length tokens ≡ length front + length later = ap length is ∙ length-append front later in
    let n : length tokens - length later ≡ length front = omega arith in
    subst (λ z. drop z tokens ≡ later) (sym n) (subst (λ z. drop (length front) z ≡ later) (sym is) (drop-append_seam front later))

pub read_text : (bytes : List ℕ) (tokens : List PlacedCToken) (nests : ℕ) (file : CFile) → AreTokensOf bytes (all_placed tokens)
    → a_file nests (shown tokens) ≡ Some (Ok (file, [])) → CText bytes file
read_text bytes tokens nests file lexed h =
    c_texts_read nests bytes (all_placed tokens) file [] lexed (subst (λ z. a_file nests z ≡ Some (Ok (file, []))) (shown-kinds tokens) h)

pub refused_text : (bytes : List ℕ) (tokens rest : List PlacedCToken) (nests : ℕ) → AreTokensOf bytes (all_placed tokens)
    → a_file nests (shown tokens) ≡ Some (Err (shown rest)) → RefusedLine bytes (line_at bytes (drop (length tokens - length rest) (all_placed tokens)))
refused_text bytes tokens rest nests lexed h =
    let all = all_placed tokens in
    let seen_so : a_file nests (kinds all) ≡ Some (Err (shown rest)) = subst (λ z. a_file nests z ≡ Some (Err (shown rest))) (shown-kinds tokens) h in
    let c : CutBefore all (shown rest) = refused_c_lines.cut nests all (shown rest) seen_so in
    let left : length c.later ≡ length rest =
    (sym (length-map c.later (λ (one : Placed). one.token)) ∙ ap length c.is) ∙ shown-length rest in
    let whole : length all ≡ length tokens = length-map tokens placed in
    let at : length all - length c.later ≡ length tokens - length rest = omega arith in
    let same : drop (length tokens - length rest) all ≡ c.later = subst (λ z. drop z all ≡ c.later) at (cut-drop all c.front c.later c.whole) in
    let refused : RefusedLine bytes (line_at bytes c.later) =
    refused_c_lines.refused nests bytes all c.front c.later lexed c.whole (subst (λ z. a_file nests (kinds all) ≡ Some (Err z)) (sym c.is) seen_so) in
    subst (λ z. RefusedLine bytes (line_at bytes z)) (sym same) refused

-- the line of the first of the last tokens
pub line_behind : (bytes : List ℕ) (tokens : List PlacedCToken) (n : ℕ)
    → line_at bytes (all_placed (take (length tokens - n) (drop n tokens))) ≡ line_at bytes (drop n (all_placed tokens))
line_behind bytes tokens n =
    ap (λ z. line_at bytes (all_placed z)) (take_rest tokens n) ∙ ap (line_at bytes) (sym (drop-map placed n tokens))
