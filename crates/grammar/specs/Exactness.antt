-- When a reader of tokens is exact for a form of the grammar: what it gives is spelled, what is spelled is what it gives, and where it refuses
-- the tokens before the offending one begin the form and those up to it begin none.
use Rattle.std.specs.Prelude.{◌≡◌, ◌≤◌, ℕ, List, [], ◌∷◌, ◌++◌, length, Option, Some, None, Ok, Err}
use Rattle.grammar.specs.Readers.{Outcome, Reader}

-- What stands between two places in tokens, each told by the tokens from it on.
abbrev pub Form : Type 0 → Type 0 → Type 1
Form Token A = A → List Token → List Token → Type 0

-- The token that stands first.
abbrev pub head : {Token : Type 0} → List Token → Option Token
head [] = None
head (token ∷ more) = Some token

-- Tokens that begin a form, with others that complete it, whatever stands behind.
pub record Filled {Token A : Type 0} (Spelled : A → List Token → List Token → Type 0) (front : List Token) : Type 0 where
  pub later : List Token
  pub tree : A
  pub spelled : (behind : List Token) → Spelled tree (front ++ (later ++ behind)) behind

-- Something was found: the tokens that were taken spell it whatever stands behind, and the reader gives it again for all tokens that begin so and
-- go on with the same token.
pub record Took {Token A : Type 0} (Spelled : A → List Token → List Token → Type 0) (read : Reader Token A) (tokens : List Token) (tree : A) (rest : List Token) : Type 0 where
  pub front : List Token
  pub whole : tokens ≡ front ++ rest
  pub spelled : (behind : List Token) → Spelled tree (front ++ behind) behind
  pub local : (behind : List Token) → head behind ≡ head rest → read (front ++ behind) ≡ Some (Ok (tree, behind))

-- Nothing was found: the tokens before the offending one begin the form, and the reader refuses all tokens that begin so and go on with the
-- same token.
pub record Stopped {Token A : Type 0} (Spelled : A → List Token → List Token → Type 0) (read : Reader Token A) (tokens rest : List Token) : Type 0 where
  pub front : List Token
  pub whole : tokens ≡ front ++ rest
  pub filled : Filled Spelled front
  pub local : (behind : List Token) → head behind ≡ head rest → read (front ++ behind) ≡ Some (Err behind)

-- What a reader says of tokens, where it may open so many nests: it gives nothing for long tokens alone.
abbrev pub Judged : {Token A : Type 0} → ℕ → (A → List Token → List Token → Type 0) → Reader Token A → List Token → Option (Outcome Token A) → Type 0
Judged nests Spelled read tokens None = nests ≤ length tokens
Judged nests Spelled read tokens (Some (Ok p)) = Took Spelled read tokens p.0 p.1
Judged nests Spelled read tokens (Some (Err rest)) = Stopped Spelled read tokens rest

-- A reader of a form that may open so many nests, with the same reader where it may open more: what the first says, the other says too.
pub record Good {Token A : Type 0} (nests : ℕ) (Spelled : A → List Token → List Token → Type 0) (read more : Reader Token A) : Type 0 where
  pub able : Filled Spelled []
  pub judged : (tokens : List Token) → Judged nests Spelled more tokens (read tokens)

-- What holds from some number of nests on.
pub record Eventually (P : ℕ → Type 0) : Type 0 where
  pub first : ℕ
  pub holds : (nests : ℕ) → first ≤ nests → P nests

-- No tokens that begin so spell the form.
abbrev pub BeginsNone : {Token A : Type 0} → (A → List Token → List Token → Type 0) → List Token → Type 0
BeginsNone {Token = Token} {A = A} Spelled front = (tree : A) (later : List Token) → Spelled tree (front ++ later) [] → ⊥

-- The tokens up to the offending one begin none, or all tokens are none.
abbrev pub NoneFrom : {Token A : Type 0} → (A → List Token → List Token → Type 0) → List Token → List Token → Type 0
NoneFrom {A = A} Spelled front [] = (tree : A) → Spelled tree front [] → ⊥
NoneFrom Spelled front (token ∷ later) = BeginsNone Spelled (front ++ (token ∷ []))

-- Tokens are refused at the first token such that the tokens up to it begin no such form, or at their end.
pub record RefusedAt {Token A : Type 0} (Spelled : A → List Token → List Token → Type 0) (tokens rest : List Token) : Type 0 where
  pub front : List Token
  pub whole : tokens ≡ front ++ rest
  pub begins : Filled Spelled front
  pub none : NoneFrom Spelled front rest

-- Readers by the number of nests that they may open are exact for a form, where what follows passes a test.
pub record Exact {Token A : Type 0} (Spelled : A → List Token → List Token → Type 0) (Ends : List Token → Type 0) (read : ℕ → Reader Token A) : Type 0 where
  pub sound : (nests : ℕ) (tokens : List Token) (tree : A) (rest : List Token) → read nests tokens ≡ Some (Ok (tree, rest)) → Spelled tree tokens rest
  pub complete : (tree : A) (tokens rest : List Token) → Spelled tree tokens rest → Ends rest → Eventually (λ nests. read nests tokens ≡ Some (Ok (tree, rest)))
  pub refused : (nests : ℕ) (tokens rest : List Token) → read nests tokens ≡ Some (Err rest) → RefusedAt Spelled tokens rest
  pub answered : (nests : ℕ) (tokens : List Token) → read nests tokens ≡ None → nests ≤ length tokens
  pub lasting : (nests more : ℕ) (tokens : List Token) (outcome : Outcome Token A) → nests ≤ more → read nests tokens ≡ Some outcome → read more tokens ≡ Some outcome
