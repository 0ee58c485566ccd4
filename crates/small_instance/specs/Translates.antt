-- What the translation promises, over runs of the two languages.
use Rattle.std.specs.Prelude.{◌≡◌, ℕ, ◌*◌, ◌%◌, ◌<◌, ◌≤◌, false, nat_eq, nat_lt, if◌then◌else◌, List, [], ◌∷◌, map, Option, Some, None}
use Rattle.simulation.specs.Machine.{Frame, Has, State, Runs, Over, Broken, numbers, run, begun}
use Rattle.simulation.specs.Law.{without}
use Rattle.small_instance.specs.Store.{Ending, Fault, block, Store}
use Rattle.small_instance.specs.SourceLanguage.{Text, View, source_sorts, source_language, source_program}
use Rattle.small_instance.specs.Translation.{frame_of}
use Rattle.small_instance.specs.TargetLanguage.{Word, Unset, Number, Pointer, Memory, Code, TargetFault, target_sorts, target_language, target_program}

-- a block at the start: which of its cells are defined, and as what
abbrev pub Start : Type 0
Start = ℕ → Option ℕ

abbrev pub store_of : Start → Store
store_of start = record { cells = λ c. if nat_lt c block then start c else None; height = block }

abbrev pub word_of : Option ℕ → Word
word_of (Some n) = Number n
word_of None = Unset

abbrev pub memory_of : Start → Memory
memory_of start = λ o c. if nat_eq o 0 then word_of (start c) else Unset

-- The source's run after n steps: unit 0 is called by its first name, with its dummies bound to the
-- first two cells of the block.
abbrev pub source_after : List Text → Start → ℕ → State Ending source_sorts
source_after us start n = run source_language (source_program us) n
    (begun source_language (source_program us) (record { unit = 0; by_second = false }) (record { first = 0; second = 1 }) (store_of start))

-- the target's run after n steps: function 0 is called with the addresses of these cells
abbrev pub target_after : List Code → Start → ℕ → State Ending target_sorts
target_after fs start n = run target_language (target_program fs) n
    (begun target_language (target_program fs) 0 (record { first = Pointer 0 0; second = Pointer 0 1; number = Some 0 }) (memory_of start))

-- every defined cell of the block stands in object 0
abbrev pub BlockImage : Store → Memory → Type 0
BlockImage s m = (k n : ℕ) → k < block → s.cells k ≡ Some n → m 0 k ≡ Number n

-- The dummies of each unit among these frames that are cells of the block stand behind the parameters
-- of its function, which are the first two cells of the function's frame.
abbrev pub DummiesStand : List (Frame source_sorts) → Memory → Type 0
DummiesStand [] m = Unit {0}
DummiesStand (Has i v ∷ us) m =
    (v.bound.first < block → m (frame_of i) 0 ≡ Pointer 0 v.bound.first) × (v.bound.second < block → m (frame_of i) 1 ≡ Pointer 0 v.bound.second) × DummiesStand us m

-- the active functions, wrappers left out, are those of the active units in their order
abbrev pub SameActive : List ℕ → List ℕ → Type 0
SameActive units functions = without (λ k. nat_eq (k % 2) 1) functions ≡ map (λ i. 2 * i) units

-- Both run, or both have ended the same way, the block stands in memory, and the dummies of the units
-- that wait stand; nothing is said where the source is broken.
pub data Same : State Ending source_sorts → State Ending target_sorts → Type 0 where
  running : {i k : ℕ} {v : View} {us : List (Frame source_sorts)} {s : Store} {w : ℕ} {fs : List (Frame target_sorts)} {m : Memory} →
      SameActive (i ∷ numbers us) (k ∷ numbers fs) → BlockImage s m → DummiesStand us m → Same (Runs i v us s) (Runs k w fs m)
  over : {e : Ending} {us : List (Frame source_sorts)} {s : Store} {fs : List (Frame target_sorts)} {m : Memory} →
      SameActive (numbers us) (numbers fs) → BlockImage s m → Same (Over e us s) (Over e fs m)
  undefined : {f : Fault} {ks : List ℕ} {y : State Ending target_sorts} → Same (Broken f ks) y

-- THE THEOREM of a translation with step factor W, for every block at the start.
pub record Translates (us : List Text) (fs : List Code) (W : ℕ) : Type 0 where
  -- for every n there is an m from n to W · n at which the states are the same
  pub faithful : (start : Start) (n : ℕ) → (m : ℕ) × (n ≤ m) × (m ≤ W * n) × Same (source_after us start n) (target_after fs start m)
  -- where the source has ended after n steps, the target has ended so from W · n steps on
  pub ends : (start : Start) (n m : ℕ) (e : Ending) (active : List (Frame source_sorts)) (s : Store) → source_after us start n ≡ Over e active s → W * n ≤ m →
      (frames : List (Frame target_sorts)) × (t : Memory) × (target_after fs start m ≡ Over e frames t) × BlockImage s t
  -- a fault of the target comes no earlier than the source breaks
  pub faults : (start : Start) (m : ℕ) (f : TargetFault) (ks : List ℕ) → target_after fs start m ≡ Broken f ks →
      (g : Fault) × (js : List ℕ) × (source_after us start m ≡ Broken g js)
