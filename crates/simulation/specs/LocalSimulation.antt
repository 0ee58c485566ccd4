-- Local simulation: one source text and the target text that stands for it, said of these two alone
-- and of no program that holds them. What the rest of a program may rely on, or may not touch, is
-- told by a world; a text keeps the world that it was called in until it answers.
use Rattle.std.specs.Prelude.{◌≡◌, ℕ, ◌+◌, ◌≤◌, Option, Some, None}
use Rattle.simulation.specs.Machine.{Event, Goes, Ends, Calls, Answers, Breaks, Entry, Enters, Refused, Lang}

-- From this view the text goes on, by steps that weigh n together, to a step that does e.
pub data Does {E : Type 0} (B : Lang E) (weight : B.sorts.View → ℕ) (c : B.sorts.Code) : B.sorts.View → B.sorts.Shared → ℕ → Event E B.sorts → Type 0 where
  last : {w : B.sorts.View} {t : B.sorts.Shared} {n : ℕ} {e : Event E B.sorts} → B.step c w t ≡ e → n ≡ weight w → Does B weight c w t n e
  more : {w w' : B.sorts.View} {t t' : B.sorts.Shared} {n m : ℕ} {e : Event E B.sorts} → B.step c w t ≡ Goes w' t' → Does B weight c w' t' m e → n ≡ weight w + m → Does B weight c w t n e

-- what all pairs of texts of two languages agree on
pub record Kit {E : Type 0} (A B : Lang E) : Type 1 where
  -- how the source's things stand in the target's, and what must not change now
  pub World : Type 0
  -- the text of this number, or its wrapper, has put things of its own frame into the world
  pub Grows : ℕ → World → World → Type 0
  -- the two calls are of one text with equal arguments
  pub Passed : World → A.sorts.Shared → A.sorts.Name → A.sorts.Arg → B.sorts.Shared → B.sorts.Name → B.sorts.Arg → Type 0
  -- the two answers are equal, and what is shared stands as the world says
  pub Given : World → A.sorts.Shared → A.sorts.Ans → B.sorts.Shared → B.sorts.Ans → Type 0
  -- the source's faults that the target must tell, and the target's steps that tell each
  pub Claimed : A.sorts.Fault → Type 0
  pub Told : A.sorts.Fault → Event E B.sorts → Type 0

-- how the views of one source text and of its target text are paired
pub record Pairing {E : Type 0} {A B : Lang E} (K : Kit A B) : Type 1 where
  -- what the two texts themselves need to stand in the world
  pub Houses : K.World → Type 0
  -- the target text's frame is nobody's
  pub Idle : K.World → Type 0
  pub Matched : K.World → A.sorts.View → A.sorts.Shared → B.sorts.View → B.sorts.Shared → Type 0
  -- as Matched, where the run has ended
  pub Halted : K.World → A.sorts.View → A.sorts.Shared → B.sorts.View → B.sorts.Shared → Type 0
  -- the views wait; their own world, the world of the text that they called
  pub Waits : K.World → K.World → A.sorts.View → B.sorts.View → Type 0

-- a source text and the target text that stands for it
pub record Couple {E : Type 0} {A B : Lang E} (K : Kit A B) : Type 1 where
  pub number : ℕ
  pub pairing : Pairing K
  pub source : A.sorts.Code
  pub target : B.sorts.Code
  -- what a step of the target weighs, what a step of the source may cost, what a call leaves over
  pub weight : B.sorts.View → ℕ
  pub most : A.sorts.View → ℕ
  pub spare : ℕ
  -- the wrapper of a name, if it has one, and by what name a wrapper calls the target text
  pub wrapper : B.sorts.Name → Option B.sorts.Code
  pub inner : B.sorts.Name

-- the source goes on
pub record StepMet {E : Type 0} {A B : Lang E} {K : Kit A B} (C : Couple K) (μ : K.World) (w : B.sorts.View) (t : B.sorts.Shared) (most : ℕ) (v : A.sorts.View) (s : A.sorts.Shared) : Type 0 where
  pub count : ℕ
  pub view : B.sorts.View
  pub shared : B.sorts.Shared
  pub does : Does B C.weight C.target w t count (Goes view shared)
  pub few : count ≤ most
  pub matched : C.pairing.Matched μ v s view shared

-- the source's run ends
pub record EndMet {E : Type 0} {A B : Lang E} {K : Kit A B} (C : Couple K) (μ : K.World) (w : B.sorts.View) (t : B.sorts.Shared) (most : ℕ) (e : E) (v : A.sorts.View) (s : A.sorts.Shared) : Type 0 where
  pub count : ℕ
  pub view : B.sorts.View
  pub shared : B.sorts.Shared
  pub does : Does B C.weight C.target w t count (Ends e view shared)
  pub few : count ≤ most
  pub halted : C.pairing.Halted μ v s view shared

-- the waiting source view with its answer, and the waiting target view with its own
abbrev pub Resumed : {E : Type 0} {A B : Lang E} {K : Kit A B} (C : Couple K) → K.World → Entry A.sorts → B.sorts.View → B.sorts.Ans → B.sorts.Shared → Type 0
Resumed {A = A} {B = B} {K = K} C μ (Enters v s) w r t =
    (w' : B.sorts.View) × (t' : B.sorts.Shared) × (B.resume C.target w r t ≡ Enters w' t') × C.pairing.Matched μ v s w' t'
Resumed {K = K} C μ (Refused x) w r t = ¬ K.Claimed x

-- the source calls: the target does, in a world that has grown, and every answer is met
pub record CallMet {E : Type 0} {A B : Lang E} {K : Kit A B} (C : Couple K) (μ : K.World) (w : B.sorts.View) (t : B.sorts.Shared) (most : ℕ) (v : A.sorts.View) (s : A.sorts.Shared) (n : A.sorts.Name) (a : A.sorts.Arg) : Type 0 where
  pub count : ℕ
  pub view : B.sorts.View
  pub shared : B.sorts.Shared
  pub name : B.sorts.Name
  pub arg : B.sorts.Arg
  pub does : Does B C.weight C.target w t count (Calls view shared name arg)
  pub few : C.spare + count ≤ most
  pub world : K.World
  pub grows : K.Grows C.number μ world
  pub passed : K.Passed world s n a shared name arg
  pub waits : C.pairing.Waits μ world v view
  pub resumes : (s' : A.sorts.Shared) (r : A.sorts.Ans) (t' : B.sorts.Shared) (r' : B.sorts.Ans) → K.Given world s' r t' r' → Resumed C μ (A.resume C.source v r s') view r' t'

-- the source answers its caller
pub record AnswerMet {E : Type 0} {A B : Lang E} {K : Kit A B} (C : Couple K) (μ : K.World) (w : B.sorts.View) (t : B.sorts.Shared) (most : ℕ) (s : A.sorts.Shared) (r : A.sorts.Ans) : Type 0 where
  pub count : ℕ
  pub shared : B.sorts.Shared
  pub ans : B.sorts.Ans
  pub does : Does B C.weight C.target w t count (Answers shared ans)
  pub few : count ≤ most
  pub given : K.Given μ s r shared ans

-- the source breaks by a claimed fault
pub record BreakMet {E : Type 0} {A B : Lang E} {K : Kit A B} (C : Couple K) (w : B.sorts.View) (t : B.sorts.Shared) (most : ℕ) (x : A.sorts.Fault) : Type 0 where
  pub count : ℕ
  pub event : Event E B.sorts
  pub does : Does B C.weight C.target w t count event
  pub few : count ≤ most
  pub told : K.Told x event

-- what the target does for one step of the source
abbrev pub Meets : {E : Type 0} {A B : Lang E} {K : Kit A B} (C : Couple K) → K.World → B.sorts.View → B.sorts.Shared → ℕ → Event E A.sorts → Type 0
Meets C μ w t most (Goes v s) = StepMet C μ w t most v s
Meets C μ w t most (Ends e v s) = EndMet C μ w t most e v s
Meets C μ w t most (Calls v s n a) = CallMet C μ w t most v s n a
Meets C μ w t most (Answers s r) = AnswerMet C μ w t most s r
Meets {K = K} C μ w t most (Breaks x) = K.Claimed x → BreakMet C w t most x

-- the target text is entered where the source text is
pub record Started {E : Type 0} {A B : Lang E} {K : Kit A B} (C : Couple K) (μ : K.World) (v : A.sorts.View) (s : A.sorts.Shared) (t : B.sorts.Shared) (n : B.sorts.Name) (a : B.sorts.Arg) : Type 0 where
  pub view : B.sorts.View
  pub shared : B.sorts.Shared
  pub starts : B.start C.target n a t ≡ Enters view shared
  pub matched : C.pairing.Matched μ v s view shared

-- a waiting wrapper g hands an answer on by one step
pub record HandedOn {E : Type 0} {A B : Lang E} {K : Kit A B} (C : Couple K) (μ : K.World) (g : B.sorts.Code) (w : B.sorts.View) (s : A.sorts.Shared) (r : A.sorts.Ans) (t : B.sorts.Shared) (r' : B.sorts.Ans) : Type 0 where
  pub view : B.sorts.View
  pub shared : B.sorts.Shared
  pub resumes : B.resume g w r' t ≡ Enters view shared
  pub answered : B.sorts.Shared
  pub ans : B.sorts.Ans
  pub answers : B.step g view shared ≡ Answers answered ans
  pub given : K.Given μ s r answered ans

-- a wrapper g is entered, calls the target text by its one step, and hands every answer on
pub record Wrapped {E : Type 0} {A B : Lang E} {K : Kit A B} (C : Couple K) (μ : K.World) (g : B.sorts.Code) (v : A.sorts.View) (s : A.sorts.Shared) (t : B.sorts.Shared) (n : B.sorts.Name) (a : B.sorts.Arg) : Type 0 where
  pub view : B.sorts.View
  pub shared : B.sorts.Shared
  pub starts : B.start g n a t ≡ Enters view shared
  pub waiting : B.sorts.View
  pub passed : B.sorts.Shared
  pub arg : B.sorts.Arg
  pub calls : B.step g view shared ≡ Calls waiting passed C.inner arg
  pub world : K.World
  pub grows : K.Grows C.number μ world
  pub started : Started C world v s passed C.inner arg
  pub hands_on : (s' : A.sorts.Shared) (r : A.sorts.Ans) (t' : B.sorts.Shared) (r' : B.sorts.Ans) → K.Given world s' r t' r' → HandedOn C μ g waiting s' r t' r'

abbrev pub Entered : {E : Type 0} {A B : Lang E} {K : Kit A B} (C : Couple K) → K.World → Option B.sorts.Code → A.sorts.View → A.sorts.Shared → B.sorts.Shared → B.sorts.Name → B.sorts.Arg → Type 0
Entered C μ None v s t n a = Started C μ v s t n a
Entered C μ (Some g) v s t n a = Wrapped C μ g v s t n a

-- how the target text begins, given how the source text does
abbrev pub Opened : {E : Type 0} {A B : Lang E} {K : Kit A B} (C : Couple K) → K.World → Entry A.sorts → B.sorts.Shared → B.sorts.Name → B.sorts.Arg → Type 0
Opened C μ (Enters v s) t n a = Entered C μ (C.wrapper n) v s t n a
Opened C μ (Refused x) t n a = Unit {0}

-- the target text simulates the source text
pub record Local {E : Type 0} {A B : Lang E} {K : Kit A B} (C : Couple K) : Type 0 where
  pub starts : (μ : K.World) (s : A.sorts.Shared) (n : A.sorts.Name) (a : A.sorts.Arg) (t : B.sorts.Shared) (n' : B.sorts.Name) (a' : B.sorts.Arg) → C.pairing.Houses μ → C.pairing.Idle μ → K.Passed μ s n a t n' a' → Opened C μ (A.start C.source n a s) t n' a'
  -- a refused start is no claimed fault
  pub refuses : (n : A.sorts.Name) (a : A.sorts.Arg) (s : A.sorts.Shared) (x : A.sorts.Fault) → A.start C.source n a s ≡ Refused x → ¬ K.Claimed x
  pub follows : (μ : K.World) (v : A.sorts.View) (s : A.sorts.Shared) (w : B.sorts.View) (t : B.sorts.Shared) → C.pairing.Matched μ v s w t → Meets C μ w t (C.most v) (A.step C.source v s)
