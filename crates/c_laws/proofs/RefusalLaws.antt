-- A text that spells a tree is refused at no line, and a text is refused at one line at most.
use Rattle.std.specs.Prelude.{◌≡◌, ℕ, List, [], ◌∷◌, ◌++◌}
use Rattle.std.proofs.Common.{refl, ap, sym, ◌∙◌, subst, append_assoc}
use Rattle.c_tree.specs.declared.file.CFile.{CFile}
use Rattle.c_tree.specs.Tokens.{Token, Bad, Placed}
use Rattle.c_tree.specs.CText.{ReadsFile, kinds, CText, Begins, IsRefusedAt, at_a_token, at_the_end, RefusedLine}
use Rattle.c_laws.proofs.TokenLaws.{one_token_list}

pub kinds-append : (xs ys : List Placed) → kinds (xs ++ ys) ≡ kinds xs ++ kinds ys
kinds-append [] ys = refl
kinds-append (one ∷ xs) ys = ap (λ z. one.token ∷ z) (kinds-append xs ys)

-- a front of what begins a file begins it too
pub begins-shorter : (front later : List Token) → Begins (front ++ later) → Begins front
begins-shorter front later begun = record {
  later = later ++ begun.later;
  file = begun.file;
  reads = subst (λ z. ReadsFile begun.file z) (append_assoc front later begun.later) begun.reads;
}

pub kinds-split : (tokens front : List Placed) (first : Placed) (later : List Placed) → tokens ≡ front ++ (first ∷ later)
    → kinds tokens ≡ (kinds front ++ (first.token ∷ [])) ++ kinds later
kinds-split tokens front first later h =
    ap kinds h ∙ (kinds-append front (first ∷ later) ∙ sym (append_assoc (kinds front) (first.token ∷ []) (kinds later)))

pub refused-no-file : {bytes : List ℕ} {tokens : List Placed} {line : ℕ} → IsRefusedAt bytes tokens line → (file : CFile) → ReadsFile file (kinds tokens) → ⊥
refused-no-file {tokens = tokens} (at_a_token front first later whole begun not) file reads =
    not (record { later = kinds later; file = file; reads = subst (λ z. ReadsFile file z) (kinds-split tokens front first later whole) reads })
refused-no-file (at_the_end begun not) file reads = not file reads

pub not_both : (bytes : List ℕ) (file : CFile) (line : ℕ) → CText bytes file → RefusedLine bytes line → ⊥
not_both bytes file line spells refused =
    refused-no-file
    refused.refused
    file
    (subst (λ z. ReadsFile file (kinds z)) (one_token_list bytes spells.tokens refused.tokens spells.lexed refused.lexed) spells.reads)

abbrev first_token : List Placed → Token
first_token [] = Bad
first_token (one ∷ later) = one.token

abbrev first_line : List Placed → ℕ
first_line [] = 0
first_line (one ∷ later) = one.line

abbrev later_of : List Placed → List Placed
later_of [] = []
later_of (one ∷ later) = later

-- two tokens that both are the first at which no file goes on are one
pub first-is-one : (before : List Token) (f1 f2 : List Placed) (x1 x2 : Placed) (l1 l2 : List Placed) → f1 ++ (x1 ∷ l1) ≡ f2 ++ (x2 ∷ l2)
    → Begins (before ++ kinds f1) → (Begins (before ++ (kinds f1 ++ (x1.token ∷ []))) → ⊥) → Begins (before ++ kinds f2)
    → (Begins (before ++ (kinds f2 ++ (x2.token ∷ []))) → ⊥) → x1.line ≡ x2.line
first-is-one before [] [] x1 x2 l1 l2 h b1 n1 b2 n2 = ap first_line h
first-is-one before [] (y ∷ f2) x1 x2 l1 l2 h b1 n1 b2 n2 =
    absurd
    (n1
    (subst
    (λ t. Begins (before ++ (t ∷ [])))
    (sym (ap first_token h))
    (begins-shorter (before ++ (y.token ∷ [])) (kinds f2) (subst (λ z. Begins z) (sym (append_assoc before (y.token ∷ []) (kinds f2))) b2))))
first-is-one before (y ∷ f1) [] x1 x2 l1 l2 h b1 n1 b2 n2 =
    absurd
    (n2
    (subst
    (λ t. Begins (before ++ (t ∷ [])))
    (ap first_token h)
    (begins-shorter (before ++ (y.token ∷ [])) (kinds f1) (subst (λ z. Begins z) (sym (append_assoc before (y.token ∷ []) (kinds f1))) b1))))
first-is-one before (y ∷ f1) (z ∷ f2) x1 x2 l1 l2 h b1 n1 b2 n2 =
    first-is-one
    (before ++ (y.token ∷ []))
    f1
    f2
    x1
    x2
    l1
    l2
    (ap later_of h)
    (subst (λ t. Begins t) (sym (append_assoc before (y.token ∷ []) (kinds f1))) b1)
    (λ b. n1 (subst (λ t. Begins t) (append_assoc before (y.token ∷ []) (kinds f1 ++ (x1.token ∷ []))) b))
    (subst
    (λ t. Begins ((before ++ (t ∷ [])) ++ kinds f2))
    (sym (ap first_token h))
    (subst (λ t. Begins t) (sym (append_assoc before (z.token ∷ []) (kinds f2))) b2))
    (λ b.
    n2
    (subst
    (λ t. Begins t)
    (append_assoc before (z.token ∷ []) (kinds f2 ++ (x2.token ∷ [])))
    (subst (λ t. Begins ((before ++ (t ∷ [])) ++ (kinds f2 ++ (x2.token ∷ [])))) (ap first_token h) b)))

pub not-before-the-end : (tokens front : List Placed) (first : Placed) (later : List Placed) → tokens ≡ front ++ (first ∷ later) → Begins (kinds tokens)
    → Begins (kinds front ++ (first.token ∷ []))
not-before-the-end tokens front first later h begun =
    begins-shorter (kinds front ++ (first.token ∷ [])) (kinds later) (subst (λ z. Begins z) (kinds-split tokens front first later h) begun)

pub same-line : {bytes : List ℕ} {tokens : List Placed} {m n : ℕ} → IsRefusedAt bytes tokens m → IsRefusedAt bytes tokens n → m ≡ n
same-line (at_a_token f1 x1 l1 w1 b1 n1) (at_a_token f2 x2 l2 w2 b2 n2) = first-is-one [] f1 f2 x1 x2 l1 l2 (sym w1 ∙ w2) b1 n1 b2 n2
same-line {tokens = tokens} (at_a_token f1 x1 l1 w1 b1 n1) (at_the_end b2 n2) = absurd (n1 (not-before-the-end tokens f1 x1 l1 w1 b2))
same-line {tokens = tokens} (at_the_end b1 n1) (at_a_token f2 x2 l2 w2 b2 n2) = absurd (n2 (not-before-the-end tokens f2 x2 l2 w2 b1))
same-line (at_the_end b1 n1) (at_the_end b2 n2) = refl

pub one_refused_line : (bytes : List ℕ) (m n : ℕ) → RefusedLine bytes m → RefusedLine bytes n → m ≡ n
one_refused_line bytes m n first second =
    same-line
    first.refused
    (subst (λ z. IsRefusedAt bytes z n) (one_token_list bytes second.tokens first.tokens second.lexed first.lexed) second.refused)
