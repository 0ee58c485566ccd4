-- What is asked of the steps of the example's units, of their storage and of their bounds, each part alone.
use Rattle.std.specs.Prelude.{◌≡◌, ℕ, zero, suc, ◌<◌, ◌≤◌, ℤ, true, List, [], ◌∷◌, Option, Some, None, length, position, slice_get}
use Rattle.std.proofs.Common.{refl, sym, ap, ◌∙◌}
use Rattle.emitted_procedures.specs.f_tree.declared.names.Basic.{Basic}
use Rattle.emitted_procedures.specs.f_tree.Values.{Bytes, Gives}
use Rattle.emitted_procedures.specs.f_tree.Facts.{Bounds, Member, EntryPoint, ProgramUnit, Facts}
use Rattle.emitted_procedures.specs.f_tree.Setting.{IsIn, first_in, later_in}
use Rattle.emitted_procedures.specs.f_tree.Association.{dimensions_by}
use Rattle.emitted_procedures.specs.f_tree.Valuing.{elements_of, extent_of}
use Rattle.emitted_procedures.specs.l_core.Steps.{Starts, Step, Keep, Halt, Acts, Text}
use Rattle.emitted_procedures.specs.faithful.UnitsAtStart.{AreBytes}
use Rattle.emitted_procedures.specs.c_emit.Numbers.{Writing, is_numeric}
use Rattle.emitted_procedures.specs.c_emit.Types.{type_of}
use Rattle.emitted_procedures.specs.c_emit.Calls.{unit_of}
use Rattle.emitted_procedures.specs.emitted_texts.Emitted.{stage_behind, is_of_output}
use Rattle.emitted_procedures.specs.procedure_emission.Reading.{kind_after}
use Rattle.emitted_procedures.specs.procedure_emission.EmittedUnits.{leads_on, is_return}
use Rattle.unit_file_laws.specs.unit_file.UnitFile.{Variable, Listing, Inventory, is_bound, place_of_list, place_of_variable}
use Rattle.unit_programs.specs.OwnStorage.{bytes_in, HasOwnStorage}
use Rattle.unit_programs.specs.TranslatedUnits.{AreFixed, BoundsAreWritten, Flows, Passes}
use Rattle.unit_programs.proofs.Told.{EachAt, each_at}

pub none_led : {A : Type 0} (m : ℕ) → IsIn m [] → A
none_led m among = elim among [ ]

pub led_to : (m a : ℕ) → IsIn m (a ∷ []) → a ≡ m
led_to m _ first_in = refl
led_to m a (later_in among) = none_led m among

pub nothing_at_all : {A B : Type 0} (k : ℕ) (b : A) → slice_get [] k ≡ Some b → B
nothing_at_all zero b h = absurd (cc)
nothing_at_all (suc k) b h = absurd (cc)

pub no_some : {A B : Type 0} (a : A) → None ≡ Some a → B
no_some a h = absurd (cc)

-- without bounds
pub bare_bounds : {A : Type 0} (bs : List Bounds) (k : ℕ) (b : Bounds) → bs ≡ [] → slice_get bs k ≡ Some b → A
bare_bounds bs k b none at = nothing_at_all k b (ap (λ xs. slice_get xs k) (sym none) ∙ at)

-- without dimensions none is kept
pub written_by : (c : Facts) (v : Inventory) (x : Bytes) → v.bounds ≡ [] → (c.program.attribute x).bounds ≡ [] → BoundsAreWritten c v x
written_by c v x unkept none = record {
  unkept = λ k kind. ap (position (is_bound x k kind)) unkept;
  fits = λ k b at. bare_bounds (c.program.attribute x).bounds k b none at;
  closed = λ k b at more. bare_bounds (c.program.attribute x).bounds k b none at;
}

-- ## Steps

-- what is asked of each step
abbrev pub KindsFit : Writing → Text → ℕ → Step → Type 0
KindsFit w u n st = (m : ℕ) → IsIn m (leads_on u n st) → (k : ℕ) (basic : Basic) → w.kind m k ≡ Some basic → kind_after w n st k ≡ Some basic

abbrev pub IsKept : Writing → ℕ → Step → Type 0
IsKept w n (Keep k p) = (basic : Basic) × (type_of w n p ≡ Some basic)
IsKept w n st = Unit {0}

abbrev pub StageFits : Text → (ℕ → Option ℤ) → ℕ → Step → Type 0
StageFits u stage n st = (m : ℕ) → IsIn m (leads_on u n st) → stage m ≡ stage_behind (stage n) st

abbrev pub OutputFits : (ℕ → Option ℤ) → ℕ → Step → Type 0
OutputFits stage n st = (is_of_output st ≡ true → (unit : ℤ) × (stage n ≡ Some unit)) × (is_return st ≡ true → stage n ≡ None)

pub flows_by : (w : Writing) (u : Text) (stage : ℕ → Option ℤ) (entry : EntryPoint) → EachAt (KindsFit w u) 0 u.steps → EachAt (IsKept w) 0 u.steps → EachAt (StageFits u stage) 0 u.steps → EachAt (OutputFits stage) 0 u.steps
    → stage (u.begins entry.start) ≡ None → Flows w u stage entry
flows_by w u stage entry kinds keeps stages outputs first = record {
  kinds = λ n st m at among k basic is. each_at (KindsFit w u) u.steps kinds n st at m among k basic is;
  keeps = λ n k p at. each_at (IsKept w) u.steps keeps n (Keep k p) at;
  stages = λ n st m at among. each_at (StageFits u stage) u.steps stages n st at m among;
  outputs = λ n st at of. (each_at (OutputFits stage) u.steps outputs n st at).0 of;
  returns = λ n st at of. (each_at (OutputFits stage) u.steps outputs n st at).1 of;
  none_at_first = first;
}

abbrev pub IsPassed : Inventory → ℕ → Step → Type 0
IsPassed v n (Acts (Starts way layout controls) ps m) = (unit : ℤ) → unit_of ps ≡ Some unit → (i : ℕ) × (l : Listing) × (place_of_list v n ≡ Some i) × (slice_get v.lists i ≡ Some l) × (l.unit ≡ unit)
IsPassed v n (Halt text) = (v.texts n ≡ text) × AreBytes text × (length text < 2147483648)
IsPassed v n st = Unit {0}

pub passes_by : (v : Inventory) (u : Text) → EachAt (IsPassed v) 0 u.steps → Passes v u
passes_by v u each = record {
  units = λ n way layout controls ps m unit at is. each_at (IsPassed v) u.steps each n (Acts (Starts way layout controls) ps m) at unit is;
  texts = λ n text at. (each_at (IsPassed v) u.steps each n (Halt text) at).0;
  short = λ n text at. let p = each_at (IsPassed v) u.steps each n (Halt text) at in (p.1, p.2);
}

-- ## Storage

-- a stored name by its variable
pub record IsOwn (unit : ProgramUnit) (v : Inventory) (i : ℕ) (m : Member) : Type 0 where
  pub one : Variable
  pub at : slice_get v.variables i ≡ Some one
  pub named : one.name ≡ m.name
  pub sized : m.size ≡ bytes_in one.count
  pub small : m.size < 2147483648
  pub first : place_of_variable v m.name ≡ Some i
  pub numeric : is_numeric (unit.attribute m.name).basic ≡ true
  pub wide : (unit.attribute m.name).width ≡ Some 4
  pub within : extent_of (elements_of (unit.attribute m.name).bounds) 4 ≤ m.size

pub storage_by : (unit : ProgramUnit) (v : Inventory) → unit.blocks ≡ [] → unit.ties ≡ [] → unit.images ≡ [] → length v.variables ≡ length unit.stored → EachAt (IsOwn unit v) 0 unit.stored → HasOwnStorage unit v
storage_by unit v blocks ties images many each = record {
  blocks = blocks;
  ties = ties;
  images = images;
  listed = λ i m at. let o = each_at (IsOwn unit v) unit.stored each i m at in (o.one, o.at, o.named, o.sized);
  as_many = many;
  small = λ i m at. (each_at (IsOwn unit v) unit.stored each i m at).small;
  first = λ i m at. (each_at (IsOwn unit v) unit.stored each i m at).first;
  numbers = λ i m at. (each_at (IsOwn unit v) unit.stored each i m at).numeric;
  wide = λ i m at. (each_at (IsOwn unit v) unit.stored each i m at).wide;
  within = λ i m at. (each_at (IsOwn unit v) unit.stored each i m at).within;
}

-- without dimensions
pub fixed_by : (c : Facts) (x : Bytes) → (c.program.attribute x).dimensions ≡ [] → (c.program.attribute x).bounds ≡ [] → AreFixed c x
unfolding dimensions_by
fixed_by c x none bare f store bounds h = gives_same bounds [] (sym h ∙ ap (dimensions_by c f store) none) ∙ sym bare
  where
    gives_same : (a b : List Bounds) → Gives a ≡ Gives b → a ≡ b
    gives_same a b e = cc
