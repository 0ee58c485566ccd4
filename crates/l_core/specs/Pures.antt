-- Pure values: what a lowered step computes from the store, the frame of its procedure and the temporaries, with no call and no other
-- effect. ANSI X3.9-1978, sections 5.4 (subscripts), 5.7 (substrings), 6 (expressions) and 15.10 (intrinsic functions).
use Rattle.std.specs.Prelude.{ℕ, nat_eq, true, false, List, [], ◌∷◌, Option, Some, None, if◌then◌else◌}
use Rattle.f_tree.specs.Values.{Bytes, Datum, IsLog, NoMeaning, Checked, Gives, Fails, given_that}
use Rattle.f_tree.specs.Terms.{Prefix, Operator, Function}
use Rattle.f_tree.specs.Store.{Store}
use Rattle.f_tree.specs.Facts.{Facts, Frame}
use Rattle.f_tree.specs.Valuing.{prefixed, operated, Left, Decided, Wants, Wrong, left_of, applied, whole, element, array_whole, alone, part, pieces, joined, fetched}

mutual
  pub data Pure : Type 0 where
    Constant : Datum → Pure
    -- what a temporary holds
    Temporary : ℕ → Pure
    -- the value at a place
    Load : Pure → Pure
    -- a whole variable or array, or a procedure
    Name : Bytes → Pure
    -- all elements of an array
    AllOf : Bytes → Pure
    -- an element, by its subscripts
    ElementOf : Bytes → Pures → Pure
    -- a place, without the elements behind it
    FirstOf : Pure → Pure
    -- a substring of a place of a variable, by its first character and its last
    Substring : Bytes → Pure → Pure → Pure → Pure
    -- a concatenation of places and values
    Concatenated : Pures → Pure
    Prefixed : Prefix → Pure → Pure
    -- the right one is valued where the left one leaves the operator open
    Operated : Operator → Pure → Pure → Pure
    Applied : Function → Pures → Pure
    -- the second where the first holds, else the third
    Chosen : Pure → Pure → Pure → Pure

  pub data Pures : Type 0 where
    NoPure : Pures
    AndPure : Pure → Pures → Pures

-- the temporaries of one active procedure, by their numbers
abbrev pub Temporaries : Type 0
Temporaries = ℕ → Option Datum

abbrev pub none_kept : Temporaries
none_kept k = None

unfoldable pub with_kept : ℕ → Datum → Temporaries → Temporaries
with_kept k d kept j = if nat_eq j k then Some d else kept j

unfoldable pub if_kept : Option Datum → Checked Datum
if_kept None = Fails NoMeaning
if_kept (Some d) = Gives d

unfoldable pub where_wanted : Left → Checked Datum → Checked Datum
where_wanted (Decided d) right = Gives d
where_wanted Wants right = right
where_wanted Wrong right = Fails NoMeaning

unfoldable pub chosen : Datum → Checked Datum → Checked Datum → Checked Datum
chosen (IsLog true) yes' no' = yes'
chosen (IsLog false) yes' no' = no'
chosen d yes' no' = Fails NoMeaning

-- what a pure value is
unfoldable mutual
  pub meant : Facts → Frame → Temporaries → Store → Pure → Checked Datum
  meant c f m s (Constant d) = Gives d
  meant c f m s (Temporary k) = if_kept (m k)
  meant c f m s (Load p) = given_that (meant c f m s p) (fetched s)
  meant c f m s (Name x) = whole c f x
  meant c f m s (AllOf x) = array_whole c f x
  meant c f m s (ElementOf x ps) = given_that (all_meant c f m s ps) (element c f x)
  meant c f m s (FirstOf p) = given_that (meant c f m s p) alone
  meant c f m s (Substring x p from to) = given_that (meant c f m s p) (λ r. given_that (meant c f m s from) (λ a. given_that (meant c f m s to) (part x r a)))
  meant c f m s (Concatenated ps) = given_that (all_meant c f m s ps) (λ ds. joined (pieces s ds))
  meant c f m s (Prefixed op p) = given_that (meant c f m s p) (prefixed op)
  meant c f m s (Operated op p q) = given_that (meant c f m s p) (λ a. where_wanted (left_of op a) (given_that (meant c f m s q) (operated op a)))
  meant c f m s (Applied function ps) = given_that (all_meant c f m s ps) (applied function)
  meant c f m s (Chosen p q r) = given_that (meant c f m s p) (λ d. chosen d (meant c f m s q) (meant c f m s r))

  pub all_meant : Facts → Frame → Temporaries → Store → Pures → Checked (List Datum)
  all_meant c f m s NoPure = Gives []
  all_meant c f m s (AndPure p ps) = given_that (meant c f m s p) (λ d. given_that (all_meant c f m s ps) (λ ds. Gives (d ∷ ds)))

unfoldable pub pures_opened : Unit {0}
unfolding with_kept if_kept where_wanted chosen meant all_meant
pures_opened = tt
