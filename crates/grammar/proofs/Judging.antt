-- How what readers say of tokens is put together: one reader behind another, a token before what is read, and what is said at once.
use Rattle.std.proofs.Common.{◌≡◌, refl, sym, ap, ◌∙◌, subst, ℕ, suc, ◌≤◌, le_trans, List, [], ◌∷◌, ◌++◌, length, append_assoc, length-append, Option, Some, None, Ok, Err, arith}
use Rattle.grammar.specs.Readers.{Outcome, Reader, found, refused, ◌>>=◌}
use Rattle.grammar.specs.Exactness.{head, Filled, Took, Stopped, Judged, Good}

-- the same token stands first behind a front
pub head-behind : {Token : Type 0} (front one other : List Token) → head one ≡ head other → head (front ++ one) ≡ head (front ++ other)
head-behind [] one other h = h
head-behind (token ∷ front) one other h = refl

pub length-front : {Token : Type 0} (front rest whole : List Token) → whole ≡ front ++ rest → length rest ≤ length whole
length-front front rest whole h = subst (λ z. length rest ≤ length z) (sym h) (subst (λ z. length rest ≤ z) (sym (length-append front rest)) (omega arith))

-- ## One reader behind another

module _ {Token A B : Type 0} (First : A → List Token → List Token → Type 0) (Next : A → B → List Token → List Token → Type 0) (Whole : B → List Token → List Token → Type 0)
    (joins : (x : A) (y : B) (p q r : List Token) → First x p q → Next x y q r → Whole y p r) where
  pub filled-then : (front : List Token) (f : Filled First front) → Filled (Next f.tree) [] → Filled Whole front
  filled-then front f g = record {
    later = f.later ++ g.later;
    tree = g.tree;
    spelled = λ behind.
        joins f.tree g.tree (front ++ ((f.later ++ g.later) ++ behind)) (g.later ++ behind) behind
        (subst (λ z. First f.tree (front ++ z) (g.later ++ behind)) (sym (append_assoc f.later g.later behind)) (f.spelled (g.later ++ behind)))
        (g.spelled behind);
  }

  behind-none : (nests fewer : ℕ) (tokens mid front : List Token) → tokens ≡ front ++ mid → (length mid ≤ length tokens → fewer ≤ length mid → nests ≤ length tokens)
      → fewer ≤ length mid → nests ≤ length tokens
  behind-none nests fewer tokens mid front whole bound h = bound (length-front front mid tokens whole) h

  behind-found : (x : A) (more : Reader Token A) (next : A → Reader Token B) (tokens mid : List Token) (y : B) (rest : List Token)
      → Took First more tokens x mid → Took (Next x) (next x) mid y rest → Took Whole (λ ts. more ts >>= next) tokens y rest
  behind-found x more next tokens mid y rest one other = record {
    front = one.front ++ other.front;
    whole = one.whole ∙ (ap (λ z. one.front ++ z) other.whole ∙ sym (append_assoc one.front other.front rest));
    spelled = λ behind.
        joins x y ((one.front ++ other.front) ++ behind) (other.front ++ behind) behind
        (subst (λ z. First x z (other.front ++ behind)) (sym (append_assoc one.front other.front behind)) (one.spelled (other.front ++ behind)))
        (other.spelled behind);
    local = λ behind h.
        ap (λ z. more z >>= next) (append_assoc one.front other.front behind)
        ∙ (ap (λ z. z >>= next)
        (one.local (other.front ++ behind) (head-behind other.front behind rest h ∙ ap head (sym other.whole)))
        ∙ other.local behind h);
  }

  behind-stopped : (x : A) (more : Reader Token A) (next : A → Reader Token B) (tokens mid : List Token) (rest : List Token)
      → Took First more tokens x mid → Stopped (Next x) (next x) mid rest → Stopped Whole (λ ts. more ts >>= next) tokens rest
  behind-stopped x more next tokens mid rest one other = let f : Filled (Next x) other.front = other.filled in record {
    front = one.front ++ other.front;
    whole = one.whole ∙ (ap (λ z. one.front ++ z) other.whole ∙ sym (append_assoc one.front other.front rest));
    filled = record {
      later = f.later;
      tree = f.tree;
      spelled = λ behind.
          joins x f.tree ((one.front ++ other.front) ++ (f.later ++ behind)) (other.front ++ (f.later ++ behind)) behind
          (subst (λ z. First x z (other.front ++ (f.later ++ behind))) (sym (append_assoc one.front other.front (f.later ++ behind)))
          (one.spelled (other.front ++ (f.later ++ behind))))
          (f.spelled behind);
    };
    local = λ behind h.
        ap (λ z. more z >>= next) (append_assoc one.front other.front behind)
        ∙ (ap (λ z. z >>= next)
        (one.local (other.front ++ behind) (head-behind other.front behind rest h ∙ ap head (sym other.whole)))
        ∙ other.local behind h);
  }

  behind-judged : (nests fewer : ℕ) (x : A) (more : Reader Token A) (next : A → Reader Token B) (tokens mid : List Token)
      → (length mid ≤ length tokens → fewer ≤ length mid → nests ≤ length tokens) → Took First more tokens x mid
      → (outcome : Option (Outcome Token B)) → Judged fewer (Next x) (next x) mid outcome → Judged nests Whole (λ ts. more ts >>= next) tokens outcome
  behind-judged nests fewer x more next tokens mid bound one None h = behind-none nests fewer tokens mid one.front one.whole bound h
  behind-judged nests fewer x more next tokens mid bound one (Some (Ok p)) h = behind-found x more next tokens mid p.0 p.1 one h
  behind-judged nests fewer x more next tokens mid bound one (Some (Err rest)) h = behind-stopped x more next tokens mid rest one h

  -- what is said of one reader behind another; the first may take what the number of nests falls by
  pub judged-then-by : (nests fewer : ℕ) (more : Reader Token A) (next above : A → Reader Token B) (tokens : List Token)
      → ((x : A) (p q : List Token) → First x p q → Good fewer (Next x) (next x) (above x))
      → ((x : A) (q : List Token) → First x tokens q → length q ≤ length tokens → fewer ≤ length q → nests ≤ length tokens)
      → (outcome : Option (Outcome Token A)) → Judged nests First more tokens outcome → Judged nests Whole (λ ts. more ts >>= above) tokens (outcome >>= next)
  judged-then-by nests fewer more next above tokens good bound None h = h
  judged-then-by nests fewer more next above tokens good bound (Some (Err rest)) h = record {
    front = h.front;
    whole = h.whole;
    filled = filled-then h.front h.filled (good h.filled.tree (h.front ++ (h.filled.later ++ [])) [] (h.filled.spelled [])).able;
    local = λ behind same. ap (λ z. z >>= above) (h.local behind same);
  }
  judged-then-by nests fewer more next above tokens good bound (Some (Ok p)) h =
      let first : First p.0 tokens p.1 = subst (λ z. First p.0 z p.1) (sym h.whole) (h.spelled p.1) in
      behind-judged nests fewer p.0 more above tokens p.1 (λ shorter given. bound p.0 p.1 first shorter given) h (next p.0 p.1)
      ((good p.0 tokens p.1 first).judged p.1)

  -- what is said of one reader behind another that takes a token at least
  pub judged-then-some : (nests fewer : ℕ) (more : Reader Token A) (next above : A → Reader Token B) (tokens : List Token) → nests ≤ suc fewer → ((x : A) → First x [] [] → ⊥)
      → ((x : A) (p q : List Token) → First x p q → Good fewer (Next x) (next x) (above x))
      → (outcome : Option (Outcome Token A)) → Judged nests First more tokens outcome → Judged nests Whole (λ ts. more ts >>= above) tokens (outcome >>= next)
  judged-then-some nests fewer more next above tokens least some good None h = h
  judged-then-some nests fewer more next above tokens least some good (Some (Err rest)) h = record {
    front = h.front;
    whole = h.whole;
    filled = filled-then h.front h.filled (good h.filled.tree (h.front ++ (h.filled.later ++ [])) [] (h.filled.spelled [])).able;
    local = λ behind same. ap (λ z. z >>= above) (h.local behind same);
  }
  judged-then-some nests fewer more next above tokens least some good (Some (Ok p)) h =
      let first : First p.0 tokens p.1 = subst (λ z. First p.0 z p.1) (sym h.whole) (h.spelled p.1) in
      let longer : suc (length p.1) ≤ length tokens = subst (λ z. suc (length p.1) ≤ length z) (sym h.whole) (by h.front p.1 (λ is. some p.0 (subst (λ z. First p.0 (z ++ []) []) is (h.spelled [])))) in
      behind-judged nests fewer p.0 more above tokens p.1 (λ shorter given. omega (arith, least, longer, given)) h (next p.0 p.1)
      ((good p.0 tokens p.1 first).judged p.1)
    where
      by : (front mid : List Token) → (front ≡ [] → ⊥) → suc (length mid) ≤ length (front ++ mid)
      by [] mid apart = absurd (apart refl)
      by (token ∷ front) mid apart = let k = length-append front mid in omega (arith, k)

  pub judged-then : (nests : ℕ) (more : Reader Token A) (next above : A → Reader Token B) (tokens : List Token)
      → ((x : A) (p q : List Token) → First x p q → Good nests (Next x) (next x) (above x))
      → (outcome : Option (Outcome Token A)) → Judged nests First more tokens outcome → Judged nests Whole (λ ts. more ts >>= above) tokens (outcome >>= next)
  judged-then nests more next above tokens good = judged-then-by nests nests more next above tokens good (λ x q first shorter given. le_trans given shorter)

  -- one good reader behind another
  pub good-then : (nests : ℕ) (read more : Reader Token A) (next above : A → Reader Token B) → Good nests First read more
      → ((x : A) (p q : List Token) → First x p q → Good nests (Next x) (next x) (above x))
      → Good nests Whole (λ ts. read ts >>= next) (λ ts. more ts >>= above)
  good-then nests read more next above first good = record {
    able = filled-then [] first.able (good first.able.tree (first.able.later ++ []) [] (first.able.spelled [])).able;
    judged = λ tokens. judged-then nests more next above tokens good (read tokens) (first.judged tokens);
  }

-- What is to be shown of a second reader: what both read is the whole.
abbrev pub Onto : {Token A B : Type 0} → (A → List Token → List Token → Type 0) → (B → List Token → List Token → Type 0) → A → B → List Token → List Token → Type 0
Onto {Token = Token} First Whole x y q r = (p : List Token) → First x p q → Whole y p r

pub in_turn : {Token A B : Type 0} {First : A → List Token → List Token → Type 0} {Whole : B → List Token → List Token → Type 0} {nests : ℕ} {read more : Reader Token A} {next above : A → Reader Token B}
    → Good nests First read more → ((x : A) → Good nests (Onto First Whole x) (next x) (above x))
    → Good nests Whole (λ ts. read ts >>= next) (λ ts. more ts >>= above)
in_turn {First = First} {Whole = Whole} {nests = nests} {read = read} {more = more} {next = next} {above = above} first later =
    good-then First (Onto First Whole) Whole (λ x y p q r f n. n p f) nests read more next above first (λ x p q f. later x)

-- the same, where what the second reader is goes by what the first one read
pub in_turn_of : {Token A B : Type 0} {First : A → List Token → List Token → Type 0} {Whole : B → List Token → List Token → Type 0} {nests : ℕ} {read more : Reader Token A} {next above : A → Reader Token B}
    → Good nests First read more → ((x : A) (p q : List Token) → First x p q → Good nests (Onto First Whole x) (next x) (above x))
    → Good nests Whole (λ ts. read ts >>= next) (λ ts. more ts >>= above)
in_turn_of {First = First} {Whole = Whole} {nests = nests} {read = read} {more = more} {next = next} {above = above} first later =
    good-then First (Onto First Whole) Whole (λ x y p q r f n. n p f) nests read more next above first later

-- a reader of a form reads another that follows from it
pub filled-as : {Token A : Type 0} {Spelled Other : A → List Token → List Token → Type 0} (front : List Token) → ((x : A) (p q : List Token) → Spelled x p q → Other x p q)
    → Filled Spelled front → Filled Other front
filled-as front as_other f = record {
  later = f.later;
  tree = f.tree;
  spelled = λ behind. as_other f.tree (front ++ (f.later ++ behind)) behind (f.spelled behind);
}

pub judged-as : {Token A : Type 0} {Spelled Other : A → List Token → List Token → Type 0} (nests : ℕ) (more : Reader Token A) (tokens : List Token)
    → ((x : A) (p q : List Token) → Spelled x p q → Other x p q) → (outcome : Option (Outcome Token A)) → Judged nests Spelled more tokens outcome
    → Judged nests Other more tokens outcome
judged-as nests more tokens as_other None h = h
judged-as nests more tokens as_other (Some (Ok x)) h = record {
  front = h.front;
  whole = h.whole;
  spelled = λ behind. as_other x.0 (h.front ++ behind) behind (h.spelled behind);
  local = h.local;
}
judged-as nests more tokens as_other (Some (Err rest)) h =
    record { front = h.front; whole = h.whole; filled = filled-as h.front as_other h.filled; local = h.local }

pub good-as : {Token A : Type 0} {Spelled Other : A → List Token → List Token → Type 0} {nests : ℕ} {read more : Reader Token A}
    → ((x : A) (p q : List Token) → Spelled x p q → Other x p q) → Good nests Spelled read more → Good nests Other read more
good-as {nests = nests} {read = read} {more = more} as_other g = record {
  able = record {
    later = g.able.later;
    tree = g.able.tree;
    spelled = λ behind. as_other g.able.tree (g.able.later ++ behind) behind (g.able.spelled behind);
  };
  judged = λ tokens. judged-as nests more tokens as_other (read tokens) (g.judged tokens);
}

-- ## What is said at once

-- what holds where the same token stands first
pub at-the-token : {Token : Type 0} (P : List Token → Type 0) (token : Token) → ((p : List Token) → P (token ∷ p)) → (behind : List Token) → head behind ≡ Some token → P behind
at-the-token P token says [] same = absurd (let h : None ≡ Some token = same in cc)
at-the-token P token says (other ∷ p) same = subst (λ z. P (z ∷ p)) (let h : Some other ≡ Some token = same in cc) (says p)

pub at-the-end : {Token : Type 0} (P : List Token → Type 0) → P [] → (behind : List Token) → head behind ≡ None → P behind
at-the-end P says [] same = says
at-the-end P says (other ∷ p) same = absurd (let h : Some other ≡ None = same in cc)

-- the token that stands first is refused
pub refuses : {Token A : Type 0} {Spelled : A → List Token → List Token → Type 0} {more : Reader Token A} (nests : ℕ) (token : Token) (behind : List Token) → Filled Spelled []
    → ((p : List Token) → more (token ∷ p) ≡ refused (token ∷ p)) → Judged nests Spelled more (token ∷ behind) (refused (token ∷ behind))
refuses {more = more} nests token behind able says =
    record { front = []; whole = refl; filled = able; local = at-the-token (λ ts. more ts ≡ refused ts) token says }

-- no tokens are left
pub refuses-end : {Token A : Type 0} {Spelled : A → List Token → List Token → Type 0} {more : Reader Token A} (nests : ℕ) → Filled Spelled []
    → more [] ≡ refused [] → Judged nests Spelled more [] (refused [])
refuses-end {more = more} nests able says =
    record { front = []; whole = refl; filled = able; local = at-the-end (λ ts. more ts ≡ refused ts) says }

-- the reader stops before the token that stands first
pub stays : {Token A : Type 0} {Spelled : A → List Token → List Token → Type 0} {more : Reader Token A} (nests : ℕ) (x : A) (token : Token) (behind : List Token)
    → ((p : List Token) → Spelled x p p) → ((p : List Token) → more (token ∷ p) ≡ found x (token ∷ p))
    → Judged nests Spelled more (token ∷ behind) (found x (token ∷ behind))
stays {more = more} nests x token behind spells says =
    record { front = []; whole = refl; spelled = spells; local = at-the-token (λ ts. more ts ≡ found x ts) token says }

pub stays-end : {Token A : Type 0} {Spelled : A → List Token → List Token → Type 0} {more : Reader Token A} (nests : ℕ) (x : A)
    → ((p : List Token) → Spelled x p p) → more [] ≡ found x [] → Judged nests Spelled more [] (found x [])
stays-end {more = more} nests x spells says =
    record { front = []; whole = refl; spelled = spells; local = at-the-end (λ ts. more ts ≡ found x ts) says }

-- the reader takes the token that stands first, and no other
pub takes-one : {Token A : Type 0} {Spelled : A → List Token → List Token → Type 0} {more : Reader Token A} (nests : ℕ) (x : A) (token : Token) (behind : List Token)
    → ((p : List Token) → Spelled x (token ∷ p) p) → ((p : List Token) → more (token ∷ p) ≡ found x p)
    → Judged nests Spelled more (token ∷ behind) (found x behind)
takes-one nests x token behind spells says =
    record { front = token ∷ []; whole = refl; spelled = λ p. spells p; local = λ p same. says p }

-- nothing has to be read
pub good-found : {Token A : Type 0} {Spelled : A → List Token → List Token → Type 0} {nests : ℕ} (x : A) → ((p : List Token) → Spelled x p p) → Good nests Spelled (found x) (found x)
good-found x spells = record {
  able = record { later = []; tree = x; spelled = spells };
  judged = λ tokens. record { front = []; whole = refl; spelled = spells; local = λ behind same. refl };
}

-- ## A token before what is read

pub behind-token : {Token A : Type 0} (Inner Spelled : A → List Token → List Token → Type 0) (inner more : Reader Token A) (fewer : ℕ) (token : Token) (tokens : List Token)
    → ((x : A) (p q : List Token) → Inner x p q → Spelled x (token ∷ p) q) → ((p : List Token) → more (token ∷ p) ≡ inner p) → (outcome : Option (Outcome Token A))
    → Judged fewer Inner inner tokens outcome → Judged (suc fewer) Spelled more (token ∷ tokens) outcome
behind-token Inner Spelled inner more fewer token tokens joins says None h = omega (arith, h)
behind-token Inner Spelled inner more fewer token tokens joins says (Some (Ok x)) h = record {
  front = token ∷ h.front;
  whole = ap (λ z. token ∷ z) h.whole;
  spelled = λ behind. joins x.0 (h.front ++ behind) behind (h.spelled behind);
  local = λ behind same. says (h.front ++ behind) ∙ h.local behind same;
}
behind-token Inner Spelled inner more fewer token tokens joins says (Some (Err rest)) h = let f = h.filled in record {
  front = token ∷ h.front;
  whole = ap (λ z. token ∷ z) h.whole;
  filled = record { later = f.later; tree = f.tree; spelled = λ behind. joins f.tree (h.front ++ (f.later ++ behind)) behind (f.spelled behind) };
  local = λ behind same. says (h.front ++ behind) ∙ h.local behind same;
}

-- fewer nests, or another name of the reader
pub judged-fewer : {Token A : Type 0} (Spelled : A → List Token → List Token → Type 0) (more : Reader Token A) (fewer nests : ℕ) (tokens : List Token) → fewer ≤ nests → (outcome : Option (Outcome Token A))
    → Judged nests Spelled more tokens outcome → Judged fewer Spelled more tokens outcome
judged-fewer Spelled more fewer nests tokens least None h = le_trans least h
judged-fewer Spelled more fewer nests tokens least (Some (Ok x)) h = h
judged-fewer Spelled more fewer nests tokens least (Some (Err rest)) h = h

pub good-fewer : {Token A : Type 0} {Spelled : A → List Token → List Token → Type 0} {read more : Reader Token A} (fewer nests : ℕ) → fewer ≤ nests → Good nests Spelled read more
    → Good fewer Spelled read more
good-fewer {Spelled = Spelled} {read = read} {more = more} fewer nests least g =
    record { able = g.able; judged = λ tokens. judged-fewer Spelled more fewer nests tokens least (read tokens) (g.judged tokens) }

-- a reader that reads the same where the same token stands first
pub judged-also : {Token A : Type 0} (Spelled : A → List Token → List Token → Type 0) {more other : Reader Token A} (nests : ℕ) (tokens : List Token)
    → ((p : List Token) → head p ≡ head tokens → other p ≡ more p) → (outcome : Option (Outcome Token A)) → Judged nests Spelled more tokens outcome
    → Judged nests Spelled other tokens outcome
judged-also Spelled nests tokens same None h = h
judged-also Spelled nests tokens same (Some (Ok x)) h = record {
  front = h.front;
  whole = h.whole;
  spelled = h.spelled;
  local = λ behind first. same (h.front ++ behind) (head-behind h.front behind x.1 first ∙ ap head (sym h.whole)) ∙ h.local behind first;
}
judged-also Spelled nests tokens same (Some (Err rest)) h = record {
  front = h.front;
  whole = h.whole;
  filled = h.filled;
  local = λ behind first. same (h.front ++ behind) (head-behind h.front behind rest first ∙ ap head (sym h.whole)) ∙ h.local behind first;
}
