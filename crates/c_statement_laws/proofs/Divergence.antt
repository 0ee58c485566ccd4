-- A reader that goes by a test of the tokens, where the test looks further than the token at which either way stops.
use Rattle.std.proofs.Common.{◌≡◌, refl, sym, ap, ◌∙◌, subst, ◌⊎◌, inl, inr, ℕ, Bool, true, false, [], ◌∷◌, ◌++◌, append_assoc, Option, Some, None, Ok, Err}
use Rattle.c_grammar_laws.specs.c_tree.Tokens.{Token}
use Rattle.c_grammar_laws.specs.c_readers.Readers.{Tokens, Outcome, Reader, ◌>>=◌}
use Rattle.c_grammar_laws.specs.grammar.Exactness.{head, Judged}

-- All tokens were taken, whatever was found.
abbrev pub Ends : {A : Type 0} → Option (Outcome A) → Type 0
Ends None = Unit {0}
Ends (Some (Ok x)) = x.1 ≡ []
Ends (Some (Err rest)) = rest ≡ []

pub ends-then : {A B : Type 0} (next : A → Reader B) (first : Option (Outcome A)) → Ends first → ((x : A) → Ends (next x [])) → Ends (first >>= next)
ends-then next None h g = tt
ends-then next (Some (Ok x)) h g = subst (λ z. Ends (next x.0 z)) (sym h) (g x.0)
ends-then next (Some (Err rest)) h g = h

-- Two ways to cut the same tokens.
pub record Longer (long short rest more : Tokens) : Type 0 where
  pub middle : Tokens
  pub is : long ≡ short ++ middle
  pub behind : rest ≡ middle ++ more

pub record Shorter (long short rest more : Tokens) : Type 0 where
  pub token : Token
  pub middle : Tokens
  pub is : short ≡ long ++ (token ∷ middle)
  pub behind : more ≡ token ∷ (middle ++ rest)

later-longer : (token : Token) (long short rest more : Tokens) → Longer long short rest more → Longer (token ∷ long) (token ∷ short) rest more
later-longer token long short rest more l = record { middle = l.middle; is = ap (λ z. token ∷ z) l.is; behind = l.behind }

later-shorter : (token : Token) (long short rest more : Tokens) → Shorter long short rest more → Shorter (token ∷ long) (token ∷ short) rest more
later-shorter token long short rest more s = record { token = s.token; middle = s.middle; is = ap (λ z. token ∷ z) s.is; behind = s.behind }

first-same : (one other : Token) (a b : Tokens) → one ∷ a ≡ other ∷ b → one ≡ other
first-same one other a b h = cc

rest-same : (one other : Token) (a b : Tokens) → one ∷ a ≡ other ∷ b → a ≡ b
rest-same one other a b h = cc

pub cut : (long short rest more : Tokens) → long ++ more ≡ short ++ rest → Longer long short rest more ⊎ Shorter long short rest more
cut long [] rest more h = inl (record { middle = long; is = refl; behind = sym h })
cut [] (token ∷ short) rest more h = inr (record { token = token; middle = short; is = refl; behind = h })
cut (one ∷ long) (other ∷ short) rest more h = by (cut long short rest more (rest-same one other (long ++ more) (short ++ rest) h))
  where
    same : one ≡ other
    same = first-same one other (long ++ more) (short ++ rest) h

    by : Longer long short rest more ⊎ Shorter long short rest more → Longer (one ∷ long) (other ∷ short) rest more ⊎ Shorter (one ∷ long) (other ∷ short) rest more
    by (inl l) = inl (subst (λ z. Longer (one ∷ long) (z ∷ short) rest more) same (later-longer one long short rest more l))
    by (inr s) = inr (subst (λ z. Shorter (one ∷ long) (z ∷ short) rest more) same (later-shorter one long short rest more s))

module _ {A : Type 0} (test : Tokens → Bool) (above : Bool → Reader A) where
  -- Tokens that pass the test begin with others, up to a token with which the test is done; either way takes those others wholly.
  pub record Probe (tokens : Tokens) : Type 0 where
    pub front : Tokens
    pub token : Token
    pub behind : Tokens
    pub whole : tokens ≡ front ++ (token ∷ behind)
    pub again : (p : Tokens) → test (front ++ (token ∷ p)) ≡ true
    pub ends : (way : Bool) → Ends (above way front)

  module _ (probe : (tokens : Tokens) → test tokens ≡ true → Probe tokens) (way : Bool) (front : Tokens) (answer : Tokens → Option (Outcome A))
      (all_taken : (p : Tokens) → Ends (answer p) → p ≡ []) where
    abbrev Local : Tokens → Type 0
    Local rest = (p : Tokens) → head p ≡ head rest → above way (front ++ p) ≡ answer p

    goes-on : (token : Token) (start : Tokens) → ((p : Tokens) → test (start ++ (token ∷ p)) ≡ true) → (middle behind : Tokens) → head (middle ++ behind) ≡ Some token
        → test (start ++ (middle ++ behind)) ≡ true
    goes-on token start again [] [] h = absurd (let e : None ≡ Some token = h in cc)
    goes-on token start again [] (other ∷ behind) h = subst (λ z. test (start ++ (z ∷ behind)) ≡ true) (let e : Some other ≡ Some token = h in cc) (again behind)
    goes-on token start again (other ∷ middle) behind h =
        subst (λ z. test (start ++ (z ∷ (middle ++ behind))) ≡ true) (let e : Some other ≡ Some token = h in cc) (again (middle ++ behind))

    head-same : (middle one other : Tokens) → head one ≡ head other → head (middle ++ one) ≡ head (middle ++ other)
    head-same [] one other h = h
    head-same (token ∷ middle) one other h = refl

    -- the test says the same where the same token stands first behind
    pub passes-too : (rest behind : Tokens) → Local rest → head behind ≡ head rest → test (front ++ rest) ≡ true → test (front ++ behind) ≡ true
    passes-too rest behind says same passes = by (cut front t.front (t.token ∷ t.behind) rest t.whole)
      where
        t : Probe (front ++ rest)
        t = probe (front ++ rest) passes

        by : Longer front t.front (t.token ∷ t.behind) rest ⊎ Shorter front t.front (t.token ∷ t.behind) rest → test (front ++ behind) ≡ true
        by (inl l) =
            subst (λ z. test z ≡ true) (sym (ap (λ z. z ++ behind) l.is ∙ append_assoc t.front l.middle behind))
            (goes-on t.token t.front t.again l.middle behind (head-same l.middle behind rest same ∙ ap head (sym l.behind)))
        by (inr s) =
            let taken : s.token ∷ s.middle ≡ [] =
            all_taken (s.token ∷ s.middle)
            (subst Ends (says (s.token ∷ s.middle) (ap head (sym s.behind))) (subst (λ z. Ends (above way z)) s.is (t.ends way))) in
            absurd (cc)

  module _ (Spelled : A → Tokens → Tokens → Type 0) (probe : (tokens : Tokens) → test tokens ≡ true → Probe tokens) where
    by-test : Reader A
    by-test tokens = above (test tokens) tokens

    stays-so : (way : Bool) (front rest : Tokens) (answer : Tokens → Option (Outcome A)) → ((p : Tokens) → Ends (answer p) → p ≡ [])
        → ((p : Tokens) → head p ≡ head rest → above way (front ++ p) ≡ answer p) → (behind : Tokens) → head behind ≡ head rest
        → (passes : Bool) → test (front ++ rest) ≡ passes → (passes_too : Bool) → test (front ++ behind) ≡ passes_too → passes_too ≡ passes
    stays-so way front rest answer all_taken says behind same true h true k = refl
    stays-so way front rest answer all_taken says behind same true h false k = sym k ∙ passes-too probe way front answer all_taken rest behind says same h
    stays-so way front rest answer all_taken says behind same false h true k =
        sym (passes-too probe way front answer all_taken behind rest (λ p g. says p (g ∙ same)) (sym same) k) ∙ h
    stays-so way front rest answer all_taken says behind same false h false k = refl

    local-too : (way : Bool) (tokens front rest : Tokens) (answer : Tokens → Option (Outcome A)) → ((p : Tokens) → Ends (answer p) → p ≡ [])
        → ((p : Tokens) → head p ≡ head rest → above way (front ++ p) ≡ answer p) → tokens ≡ front ++ rest → test tokens ≡ way
        → (behind : Tokens) → head behind ≡ head rest → above (test (front ++ behind)) (front ++ behind) ≡ answer behind
    local-too way tokens front rest answer all_taken says whole is behind same =
        ap (λ z. above z (front ++ behind))
        (stays-so way front rest answer all_taken says behind same way (ap test (sym whole) ∙ is) (test (front ++ behind)) refl)
        ∙ says behind same

    -- what is said of the way that the test tells is said of the whole
    pub test-judged : (nests : ℕ) (tokens : Tokens) (way : Bool) → test tokens ≡ way → (outcome : Option (Outcome A)) → Judged nests Spelled (above way) tokens outcome
        → Judged nests Spelled (λ ts. above (test ts) ts) tokens outcome
    test-judged nests tokens way is None h = h
    test-judged nests tokens way is (Some (Ok x)) h = record {
      front = h.front;
      whole = h.whole;
      spelled = h.spelled;
      local = local-too way tokens h.front x.1 (λ p. Some (Ok (x.0, p))) (λ p e. e) h.local h.whole is;
    }
    test-judged nests tokens way is (Some (Err rest)) h = record {
      front = h.front;
      whole = h.whole;
      filled = h.filled;
      local = local-too way tokens h.front rest (λ p. Some (Err p)) (λ p e. e) h.local h.whole is;
    }
