-- Calls that are to fail, by their numbers.
use Rattle.std.specs.Prelude.{ℕ, ◌+◌, ◌-◌, ◌^◌, min, Bool, ◌&&◌, ◌==◌, nat_lt, List, [], ◌∷◌, ◌++◌, if◌then◌else◌}
use Rattle.std.specs.List.{list_any}

-- the numbers of the calls that are to fail, counted from 1, how many calls there have been, and how many
-- of them have failed because their number is among these
pub record Plan : Type 0 where
  pub fails : List ℕ
  pub calls : ℕ
  pub planned : ℕ

-- whether the next call is to fail; a call past number 18446744073709551615 has no number
abbrev pub next_fails : Plan → Bool
next_fails plan = nat_lt (plan.calls + 1) (2 ^ 64) && list_any (λ number. number == (plan.calls + 1)) plan.fails

-- the plan once that call has been made
abbrev pub after_call : Plan → Plan
after_call plan =
    record plan {
      calls = min (plan.calls + 1) (2 ^ 64 - 1);
      planned = if next_fails plan then plan.planned + 1 else plan.planned;
    }

-- the plan with another call that is to fail
abbrev pub also_failing : ℕ → Plan → Plan
also_failing call plan = record plan { fails = plan.fails ++ call ∷ [] }
