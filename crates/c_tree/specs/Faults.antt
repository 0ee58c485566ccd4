-- A value, or what stands in its place where a run can give none: a fault of the subset, or that the
-- definitions give the text no meaning. Nothing that is well formed is without meaning once every form is
-- built, and no fault stands for it.
use Rattle.std.specs.Prelude.{Result, Ok, Err}
use Rattle.c_tree.specs.declared.outcome.CFault.{CFault}

-- why a run cannot go on
pub data Break : Type 0 where
  Faults : CFault → Break
  NoMeaning : Break

abbrev pub Or : Type 0 → Type 0
Or A = Result A Break

-- the rest of a valuing, once its first part has a value
abbrev pub after : {A B : Type 0} → Or A → (A → Or B) → Or B
after (Ok value) rest = rest value
after (Err reason) rest = Err reason

-- a fault in the place of a value
abbrev pub failing : {A : Type 0} → CFault → Or A
failing fault = Err (Faults fault)
