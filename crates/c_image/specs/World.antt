-- In which objects of the C run the sequences of a FORTRAN run stand, and what the objects hold besides: the world of the second
-- layer of the simulation. It is made anew at calls and grows with them; no assignment changes it.
-- ANSI X3.9-1978, sections 2.13 (storage), 15.9 (arguments) and 17.1; C89, 3.1.2.4 and 3.1.2.5.
use Rattle.std.specs.Prelude.{◌≡◌, ℕ, suc, ◌+◌, ◌-◌, ◌<◌, ◌≤◌, nat_eq, nat_lt, Bool, false, List, length, Option, Some, None, slice_get, if◌then◌else◌}
use Rattle.faithful.specs.f_tree.Store.{Sequence}
use Rattle.faithful.specs.c_tree.Objects.{Object}
use Rattle.faithful.specs.c_tree.Linking.{or_else}
use Rattle.faithful.specs.StorageImage.{Homes}

pub record World : Type 0 where
  -- the object of each sequence, which begins where its object does; none for one that is no part of the run
  pub homes : Homes
  -- how many character units each sequence has
  pub size : ℕ → ℕ
  -- which sequences may only be read
  pub fixed : ℕ → Bool
  -- how many sequences there are
  pub height : ℕ
  -- what objects hold that no FORTRAN statement defines: parameters, temporaries, constants, lists and formats
  pub frozen : ℕ → Option Object

-- A sequence that may be defined stands in an object alone, and nothing else is held there. Each place has a number of 32 bits.
pub record Sane (μ : World) : Type 0 where
  pub small : (n : ℕ) → n < μ.height → μ.size n < 2147483648
  pub alone : (n m object : ℕ) → n < μ.height → m < μ.height → μ.fixed n ≡ false → μ.homes n ≡ Some object → μ.homes m ≡ Some object → m ≡ n
  pub free : (n object : ℕ) → n < μ.height → μ.fixed n ≡ false → μ.homes n ≡ Some object → μ.frozen object ≡ None

-- ## Growth

-- another value at one number
abbrev pub changed : {A : Type 0} → (ℕ → A) → ℕ → A → ℕ → A
changed old number new k = if nat_eq k number then new else old k

-- an object holds something else: a temporary a value, or what is now the home of a sequence nothing
abbrev pub with_held : World → ℕ → Option Object → World
with_held μ object held = record μ { frozen = changed μ.frozen object held }

-- a sequence more: the value of an actual argument, or the result of a function
abbrev pub with_sequence : World → Option ℕ → Sequence → World
with_sequence μ home q = record μ {
  homes = changed μ.homes μ.height home;
  size = changed μ.size μ.height (length q.cells);
  fixed = changed μ.fixed μ.height q.read_only;
  height = suc μ.height;
}

-- the sequences and what is held stay as they are, and more may come
pub record Extends (μ ν : World) : Type 0 where
  pub higher : μ.height ≤ ν.height
  pub homes : (n : ℕ) → n < μ.height → ν.homes n ≡ μ.homes n
  pub size : (n : ℕ) → n < μ.height → ν.size n ≡ μ.size n
  pub fixed : (n : ℕ) → n < μ.height → ν.fixed n ≡ μ.fixed n
  pub frozen : (k : ℕ) (object : Object) → μ.frozen k ≡ Some object → ν.frozen k ≡ Some object

-- ## Frames of functions

-- the objects from a number on, and others elsewhere
abbrev pub held_from : ℕ → List Object → (ℕ → Option Object) → ℕ → Option Object
held_from first objects elsewhere k =
    if nat_lt k first then elsewhere k else or_else (slice_get objects (k - first)) (elsewhere k)

-- the frame of a function holds these objects: its parameters first, then its temporaries
abbrev pub framed : ℕ → List Object → World → World
framed first objects μ = record μ { frozen = held_from first objects μ.frozen }

-- no sequence stands in an object
abbrev pub IsHomeless : World → ℕ → Type 0
IsHomeless μ object = (n : ℕ) → n < μ.height → μ.homes n ≡ Some object → ⊥

-- a frame of a function that is not active: nothing stands or is held there
pub record IsIdle (first count : ℕ) (μ : World) : Type 0 where
  pub no_home : (n object : ℕ) → n < μ.height → μ.homes n ≡ Some object → first ≤ object → object < first + count → ⊥
  pub not_held : (k : ℕ) → first ≤ k → k < first + count → μ.frozen k ≡ None
