-- A line that is put in two parts.
use Rattle.std.proofs.Common.{◌≡◌, ℕ, ◌<◌, ◌≤◌, List, ◌++◌, option_map, Ok, refl, ap, sym, ◌∙◌, arith, append_assoc}
use Rattle.f2c_outside.specs.declared.shelves.Place.TheVariants.{Fault}
use Rattle.f2c_outside.specs.Shelf.{ShelfState, StartedWrite, added}
use Rattle.f2c_outside.proofs.ShelfLaws.{told-added}
use Rattle.shelf_texts.specs.Messages.{Said}
use Rattle.shelf_texts.specs.ShelfLoops.{HasPut, HasPutFront}
use Rattle.shelf_texts.proofs.Writing.{said_whole, written_whole, written-Fault}

-- BOTH PARTS were put
pub put_both : (x y : List ℕ) (b c d : ShelfState) → HasPut x b c → HasPut y c d → HasPut (x ++ y) b d
put_both x y b c d first second = record {
  active = second.active ∙ first.active;
  later = let one = first.later in let two = second.later in omega arith;
  put = λ place writes.
      second.put place (first.active ∙ writes)
      ∙ ap (option_map (added place y)) (first.put place writes)
      ∙ told-added place x y b.told;
}

-- one of them was not
pub second_failed : (x y : List ℕ) (b c d : ShelfState) → HasPut x b c → HasPutFront y c d → HasPutFront (x ++ y) b d
second_failed x y b c d first second = record {
  part = x ++ second.part;
  front = record { rest = second.front.rest; is = append_assoc x second.part second.front.rest ∙ ap (λ z. x ++ z) second.front.is };
  put = put_both x second.part b c d first second.put;
  rose = λ below. let one = first.later in let less : c.faults < d.faults = second.rose below in omega arith;
}

pub first_failed : (x y : List ℕ) (b c : ShelfState) → HasPutFront x b c → HasPutFront (x ++ y) b c
first_failed x y b c first = record {
  part = first.part;
  front = record { rest = first.front.rest ++ y; is = sym (append_assoc first.part first.front.rest y) ∙ ap (λ z. z ++ y) first.front.is };
  put = first.put;
  rose = first.rose;
}

-- what is said then
pub said_front : (line : List ℕ) (s b c : ShelfState) → StartedWrite {T = Unit {0}} Fault s b (Ok tt) → s.faults ≤ b.faults → HasPutFront line b c → Said line s c
said_front line s b c started first failed = record {
  later = let one = failed.put.later in omega arith;
  part = failed.part;
  front = failed.front;
  put = written_whole Fault failed.part s b c c started failed.put refl ∙ written-Fault failed.part s.told;
  whole = λ quiet. absurd (let less : b.faults < c.faults = failed.rose quiet.below in let same : c.faults ≡ s.faults = quiet.same in omega arith);
}

pub said_two : (x y : List ℕ) (s b c d a : ShelfState) → StartedWrite {T = Unit {0}} Fault s b (Ok tt) → s.faults ≤ b.faults → HasPut x b c → HasPut y c d →
    d.faults ≤ a.faults → a.told ≡ d.told → Said (x ++ y) s a
said_two x y s b c d a started first one two last same = said_whole (x ++ y) s b d a started first (put_both x y b c d one two) last same
