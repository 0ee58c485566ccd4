-- The framed machine. A language says what one step of the view of one active text does; a program
-- finds texts by name; a run is the list of active texts, the shared state and how it stands.
-- ANSI X3.9-1978, section 15 (procedures: one is active from its reference to its RETURN or END) and
-- C89, 3.6.6.4 and 3.3.2.2 (return and call) say this of their own languages, and are instances.
use Rattle.std.specs.Prelude.{ℕ, zero, suc, Bool, true, false, ◌||◌, nat_eq, List, [], ◌∷◌, Option, Some, None}

-- what a language speaks of
pub record Sorts : Type 1 where
  -- the text of one procedure or function
  pub Code : Type 0
  -- what one active text keeps for itself
  pub View : Type 0
  -- what all active texts share
  pub Shared : Type 0
  -- by what a text is called
  pub Name : Type 0
  pub Arg : Type 0
  pub Ans : Type 0
  pub Fault : Type 0

-- what the next step of a view does; E is how a run may end
pub data Event (E : Type 0) (L : Sorts) : Type 0 where
  -- the view goes on
  Goes : L.View → L.Shared → Event E L
  -- the whole run ends here
  Ends : E → L.View → L.Shared → Event E L
  -- a text is called, and the view waits
  Calls : L.View → L.Shared → L.Name → L.Arg → Event E L
  -- the text answers its caller, and its view is gone
  Answers : L.Shared → L.Ans → Event E L
  -- nothing is said of the run from this step on
  Breaks : L.Fault → Event E L

-- how a view begins, at a call or after an answer
pub data Entry (L : Sorts) : Type 0 where
  Enters : L.View → L.Shared → Entry L
  Refused : L.Fault → Entry L

pub record Lang (E : Type 0) : Type 1 where
  pub sorts : Sorts
  pub step : sorts.Code → sorts.View → sorts.Shared → Event E sorts
  -- the view of a text called by this name with these arguments
  pub start : sorts.Code → sorts.Name → sorts.Arg → sorts.Shared → Entry sorts
  -- the waiting view with the answer to its call
  pub resume : sorts.Code → sorts.View → sorts.Ans → sorts.Shared → Entry sorts
  -- a call of a name that no text has
  pub missing : sorts.Fault
  -- a call of a text that is active
  pub busy : sorts.Fault
  -- how a run ends whose only active text answers
  pub plain : E

-- the texts, by number, and the number of each name
pub record Program (L : Sorts) : Type 0 where
  pub find : L.Name → Option ℕ
  pub text : ℕ → L.Code

-- an active text, by its number, with its view
pub data Frame (L : Sorts) : Type 0 where
  Has : ℕ → L.View → Frame L

-- the frames stand last called first
pub data State (E : Type 0) (L : Sorts) : Type 0 where
  -- the last called text, its view, those that wait, and what they share
  Runs : ℕ → L.View → List (Frame L) → L.Shared → State E L
  -- the frames are those of the last step; none where the only active text answered
  Over : E → List (Frame L) → L.Shared → State E L
  -- the numbers are those of the texts that were active at the step, the last called first
  Broken : L.Fault → List ℕ → State E L

unfoldable pub number : {L : Sorts} → Frame L → ℕ
number (Has k v) = k

unfoldable pub numbers : {L : Sorts} → List (Frame L) → List ℕ
numbers [] = []
numbers (Has k v ∷ rest) = k ∷ numbers rest

-- is the text among the active ones
unfoldable pub active : {L : Sorts} → ℕ → List (Frame L) → Bool
active j [] = false
active j (Has k v ∷ rest) = nat_eq j k || active j rest

-- text j takes over from the texts `from`, or breaks in their name
unfoldable pub entering : {E : Type 0} {L : Sorts} → Entry L → List ℕ → ℕ → List (Frame L) → State E L
entering (Enters v s) from j rest = Runs j v rest s
entering (Refused f) from j rest = Broken f from

-- a call that its text accepts, of a text that is active or is not
unfoldable pub unless_active : {E : Type 0} {L : Sorts} → Bool → L.Fault → L.View → L.Shared → ℕ → List (Frame L) → State E L
unless_active true busy v s j rest = Broken busy (numbers rest)
unless_active false busy v s j rest = Runs j v rest s

-- what a call leads to, given how its text would start
unfoldable pub opening : {E : Type 0} (A : Lang E) → Entry A.sorts → ℕ → List (Frame A.sorts) → State E A.sorts
opening A (Enters v s) j rest = unless_active (active j rest) A.busy v s j rest
opening A (Refused f) j rest = Broken f (numbers rest)

-- a call, given the number of its text; the frames have the caller first
unfoldable pub calling : {E : Type 0} (A : Lang E) → Program A.sorts → Option ℕ → A.sorts.Name → A.sorts.Arg → A.sorts.Shared → List (Frame A.sorts) → State E A.sorts
calling A P None n a s rest = Broken A.missing (numbers rest)
calling A P (Some j) n a s rest = opening A (A.start (P.text j) n a s) j rest

-- an answer of text k: its caller goes on; where there is none, the run is over
unfoldable pub answering : {E : Type 0} (A : Lang E) → Program A.sorts → ℕ → List (Frame A.sorts) → A.sorts.Shared → A.sorts.Ans → State E A.sorts
answering A P k [] s r = Over A.plain [] s
answering A P k (Has j v ∷ rest) s r = entering (A.resume (P.text j) v r s) (k ∷ j ∷ numbers rest) j rest

-- what an event of text k makes of the run
unfoldable pub act : {E : Type 0} (A : Lang E) → Program A.sorts → Event E A.sorts → ℕ → List (Frame A.sorts) → State E A.sorts
act A P (Goes v s) k rest = Runs k v rest s
act A P (Ends e v s) k rest = Over e (Has k v ∷ rest) s
act A P (Calls v s n a) k rest = calling A P (P.find n) n a s (Has k v ∷ rest)
act A P (Answers s r) k rest = answering A P k rest s r
act A P (Breaks f) k rest = Broken f (k ∷ numbers rest)

-- one step of a whole run; a run that is over or broken stays as it is
unfoldable pub next : {E : Type 0} (A : Lang E) → Program A.sorts → State E A.sorts → State E A.sorts
next A P (Runs k v rest s) = act A P (A.step (P.text k) v s) k rest
next A P (Over e frames s) = Over e frames s
next A P (Broken f ks) = Broken f ks

-- n steps of a whole run
unfoldable pub run : {E : Type 0} (A : Lang E) → Program A.sorts → ℕ → State E A.sorts → State E A.sorts
run A P zero x = x
run A P (suc n) x = next A P (run A P n x)

-- a run begins as a call with no caller
unfoldable pub begun : {E : Type 0} (A : Lang E) → Program A.sorts → A.sorts.Name → A.sorts.Arg → A.sorts.Shared → State E A.sorts
begun A P n a s = calling A P (P.find n) n a s []

-- unfolding this name opens all of the above
unfoldable pub machine_opened : Unit {0}
unfolding number numbers active entering unless_active opening calling answering act next run begun
machine_opened = tt
