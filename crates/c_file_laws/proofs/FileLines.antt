-- The line at which a text is refused is that of the token at which the reader stops, or of the end of the text.
use Rattle.std.proofs.Common.{◌≡◌, refl, sym, ap, ◌∙◌, subst, ℕ, List, [], ◌∷◌, ◌++◌, append-nil}
use Rattle.std.proofs.lemmas.List.{append_cancel_right}
use Rattle.c_file_readers.specs.c_tree.Tokens.{Token, Placed}
use Rattle.c_file_readers.specs.c_tree.CText as text
use Rattle.c_file_readers.specs.c_tree.CText.{ReadsFile, kinds, Begins, IsRefusedAt}
use Rattle.c_file_readers.specs.c_readers.Readers.{Tokens}
use Rattle.c_file_laws.specs.FileLaws.{FileRefused, ExactFiles, line_at, CutBefore, RefusedLines, TextsRead}

tail-same : (one other : Token) (p q : Tokens) → one ∷ p ≡ other ∷ q → p ≡ q
tail-same one other p q h = cc

cut-kinds : (tokens : List Placed) (front rest : Tokens) → kinds tokens ≡ front ++ rest → CutBefore tokens rest
cut-kinds tokens [] rest h = record { front = []; later = tokens; whole = refl; is = h }
cut-kinds [] (token ∷ front) rest h = absurd (let e : [] ≡ token ∷ (front ++ rest) = h in cc)
cut-kinds (first ∷ tokens) (token ∷ front) rest h =
    let c = cut-kinds tokens front rest (tail-same first.token token (kinds tokens) (front ++ rest) h) in
    record { front = first ∷ c.front; later = c.later; whole = ap (λ z. first ∷ z) c.whole; is = c.is }

kinds-append : (front later : List Placed) → kinds (front ++ later) ≡ kinds front ++ kinds later
kinds-append [] later = refl
kinds-append (first ∷ front) later = ap (λ z. first.token ∷ z) (kinds-append front later)

line-of : (bytes : List ℕ) (tokens front later : List Placed) → tokens ≡ front ++ later → FileRefused (kinds tokens) (kinds later) → IsRefusedAt bytes tokens (line_at bytes later)
line-of bytes tokens front [] is r =
    let all : kinds tokens ≡ r.front = r.whole ∙ append-nil r.front in
    text.at_the_end (subst (λ z. Begins z) (sym all) r.begins) (λ file reads. r.none file (subst (λ z. ReadsFile file z) all reads))
line-of bytes tokens front (first ∷ later) is r =
    let same : r.front ≡ kinds front =
    append_cancel_right r.front (kinds front) (first.token ∷ kinds later) (sym r.whole ∙ (ap kinds is ∙ kinds-append front (first ∷ later))) in
    text.at_a_token front first later is (subst (λ z. Begins z) same r.begins) (subst (λ z. Begins (z ++ (first.token ∷ [])) → ⊥) same r.none)

pub refused_lines : ExactFiles → RefusedLines
refused_lines exact = record {
  cut = λ nests tokens rest h. let r = exact.refused nests (kinds tokens) rest h in cut-kinds tokens r.front rest r.whole;
  lines = λ nests bytes tokens front later is h. line-of bytes tokens front later is (exact.refused nests (kinds tokens) (kinds later) h);
  refused = λ nests bytes tokens front later lexed is h. record {
    tokens = tokens;
    lexed = lexed;
    refused = line-of bytes tokens front later is (exact.refused nests (kinds tokens) (kinds later) h);
  };
}

pub texts_read : ExactFiles → TextsRead
texts_read exact nests bytes tokens file rest lexed h = record { tokens = tokens; lexed = lexed; reads = exact.found.sound nests (kinds tokens) file rest h }
