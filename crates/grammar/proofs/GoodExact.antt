-- A good reader that reads what is spelled is exact.
use Rattle.std.proofs.Common.{◌≡◌, refl, sym, ap, ◌∙◌, subst, ℕ, ◌+◌, ◌≤◌, le_refl, [], ◌∷◌, ◌++◌, append_assoc, append-nil, length, List, Option, Some, None, Ok, Err, arith}
use Rattle.std.proofs.lemmas.List.{append_cancel_right}
use Rattle.grammar.specs.Readers.{Outcome, Reader}
use Rattle.grammar.specs.Exactness.{head, Took, Stopped, Judged, Good, Eventually, NoneFrom, RefusedAt, Exact}

-- what a reader says of tokens, where its answer is known
said : {Token A : Type 0} {nests : ℕ} {Spelled : A → List Token → List Token → Type 0} {read more : Reader Token A} (tokens : List Token) (outcome : Option (Outcome Token A)) → read tokens ≡ outcome
    → Good nests Spelled read more → Judged nests Spelled more tokens outcome
said {nests = nests} {Spelled = Spelled} {more = more} tokens outcome h g = subst (λ z. Judged nests Spelled more tokens z) h (g.judged tokens)

-- a good reader that reads what is spelled is exact
module _ {Token A : Type 0} (Spelled : A → List Token → List Token → Type 0) (Ends : List Token → Type 0) (read : ℕ → Reader Token A)
    (good : (nests more : ℕ) → nests ≤ more → Good nests Spelled (read nests) (read more))
    (whole : (tree : A) (tokens rest : List Token) → Spelled tree tokens rest → Ends rest → Eventually (λ nests. read nests tokens ≡ Some (Ok (tree, rest))))
    (at_end : Ends []) where
  sound : (nests : ℕ) (tokens : List Token) (tree : A) (rest : List Token) → read nests tokens ≡ Some (Ok (tree, rest)) → Spelled tree tokens rest
  sound nests tokens tree rest h =
      let t : Took Spelled (read nests) tokens tree rest = said tokens (Some (Ok (tree, rest))) h (good nests nests (le_refl nests)) in
      subst (λ z. Spelled tree z rest) (sym t.whole) (t.spelled rest)

  stopped : (nests : ℕ) (tokens rest : List Token) → read nests tokens ≡ Some (Err rest) → (more : ℕ) → nests ≤ more → Stopped Spelled (read more) tokens rest
  stopped nests tokens rest h more least = said tokens (Some (Err rest)) h (good nests more least)

  -- the tokens before the offending one
  before : (nests : ℕ) (tokens rest : List Token) → read nests tokens ≡ Some (Err rest) → List Token
  before nests tokens rest h = let s : Stopped Spelled (read nests) tokens rest = stopped nests tokens rest h nests (le_refl nests) in s.front

  -- a refusal stands whatever follows the offending token, and however many nests may be open
  refuses-on : (nests : ℕ) (tokens rest front : List Token) (h : read nests tokens ≡ Some (Err rest)) → tokens ≡ front ++ rest → (more : ℕ) → nests ≤ more
      → (behind : List Token) → head behind ≡ head rest → read more (front ++ behind) ≡ Some (Err behind)
  refuses-on nests tokens rest front h is more least behind same =
      let s : Stopped Spelled (read more) tokens rest = stopped nests tokens rest h more least in
      let fronts : s.front ≡ front = append_cancel_right s.front front rest (sym s.whole ∙ is) in
      subst (λ z. read more (z ++ behind) ≡ Some (Err behind)) fronts (s.local behind same)

  spells-none : (nests : ℕ) (tokens rest front : List Token) → read nests tokens ≡ Some (Err rest) → tokens ≡ front ++ rest → (behind : List Token) → head behind ≡ head rest
      → (tree : A) → Spelled tree (front ++ behind) [] → ⊥
  spells-none nests tokens rest front h is behind same tree spelled =
      let e : Eventually (λ more. read more (front ++ behind) ≡ Some (Ok (tree, []))) = whole tree (front ++ behind) [] spelled at_end in
      let one : read (nests + e.first) (front ++ behind) ≡ Some (Err behind) = refuses-on nests tokens rest front h is (nests + e.first) (omega arith) behind same in
      let other : read (nests + e.first) (front ++ behind) ≡ Some (Ok (tree, [])) = e.holds (nests + e.first) (omega arith) in
      absurd (let clash : Some (Err behind) ≡ Some (Ok (tree, [])) = sym one ∙ other in cc)

  none-from : (nests : ℕ) (tokens rest front : List Token) → read nests tokens ≡ Some (Err rest) → tokens ≡ front ++ rest → NoneFrom Spelled front rest
  none-from nests tokens [] front h is =
      λ tree spelled. spells-none nests tokens [] front h is [] refl tree (subst (λ z. Spelled tree z []) (sym (append-nil front)) spelled)
  none-from nests tokens (token ∷ rest) front h is =
      λ tree later spelled.
      spells-none nests tokens (token ∷ rest) front h is (token ∷ later) refl tree (subst (λ z. Spelled tree z []) (append_assoc front (token ∷ []) later) spelled)

  refused : (nests : ℕ) (tokens rest : List Token) → read nests tokens ≡ Some (Err rest) → RefusedAt Spelled tokens rest
  refused nests tokens rest h =
      let s : Stopped Spelled (read nests) tokens rest = stopped nests tokens rest h nests (le_refl nests) in
      record { front = s.front; whole = s.whole; begins = s.filled; none = none-from nests tokens rest s.front h s.whole }

  lasting : (nests more : ℕ) (tokens : List Token) (outcome : Outcome Token A) → nests ≤ more → read nests tokens ≡ Some outcome → read more tokens ≡ Some outcome
  lasting nests more tokens (Ok p) least h =
      let t : Took Spelled (read more) tokens p.0 p.1 = said tokens (Some (Ok p)) h (good nests more least) in
      ap (read more) t.whole ∙ t.local p.1 refl
  lasting nests more tokens (Err rest) least h =
      let s : Stopped Spelled (read more) tokens rest = stopped nests tokens rest h more least in ap (read more) s.whole ∙ s.local rest refl

  answered : (nests : ℕ) (tokens : List Token) → read nests tokens ≡ None → nests ≤ length tokens
  answered nests tokens h = said tokens None h (good nests nests (le_refl nests))

  pub good-exact : Exact Spelled Ends read
  good-exact = record { sound = sound; complete = whole; refused = refused; answered = answered; lasting = lasting }
