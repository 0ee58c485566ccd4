-- The first fault of a file, from that of its cards.
use Rattle.std.proofs.Common.{◌≡◌, ℕ, suc, ◌<◌, ◌≤◌, Bool, true, false, List, [], ◌∷◌, ◌-◌, get_or, length, take, refl, sym, ap, subst, ◌∙◌, arith, Option, Some, None, Result, Ok, Err, inl, inr}
use Rattle.std.specs.Prelude.{◌⊎◌, nat_lt, IfOk, IfErr, if◌then◌else◌}
use Rattle.std.proofs.lemmas.Bool.{cases_lt, lt-ltb, le-ltb}
use Rattle.f_tree.specs.RefusalRows.{number_of}
use Rattle.f_tree.specs.declared.refusals.Fail.{Fail}
use Rattle.f_tree.specs.declared.refusals.Fail.TheVariants.{NoMemory, Refused}
use Rattle.f_tree.specs.declared.refusals.Kind.{Kind}
use Rattle.f_tree.specs.declared.refusals.Kind.TheVariants.{NoEnd, FileTooLong}
use Rattle.fortran_text.specs.Cards.{Card, cards_of}
use Rattle.fortran_text.specs.CharactersOfText.{is_end}
use Rattle.fortran_text.specs.FirstFault.{most_bytes, most_cards, judged, too_long, unended, FaultOfCards, at_card, past_limit, FaultOfFile, of_cards, not_ended, IsFirst, IsSound, IsFailure}
use Rattle.fortran_text.specs.KindsOfCards.{kind_of}
use Rattle.fortran_text.specs.StatementsOfFile.{FileCards, file_cards, statement, before_statements, statements}
use Rattle.fortran_text.specs.declared.source.CardKind.{CardKind}
use Rattle.fortran_text.specs.declared.source.CardKind.TheVariants.{Comment, Initial, Continuation}
use Rattle.fortran_text.specs.declared.source.Statement.{Statement}
use Rattle.cards.specs.Passes.{fault_or, fault_from, at_limit, first_of_included, sooner, first_of_file, closed, IsPass, IsReading, IsRefusal}
use Rattle.cards.specs.declared.faults.Fault.{Fault}
use Rattle.cards.specs.declared.pass.Pass.{Pass}
use Rattle.cards.specs.declared.reader.Reading.{Reading}
use Rattle.cards.proofs.FaultLemmas.{IsFound, RowAt, row_at, row_in_file, found_first}
use Rattle.cards.proofs.GroupLemmas.{all_statements}
use Rattle.cards.proofs.LimitLemmas.{limit_late, judged_whole}

abbrev pub JudgedRow : Bool → List ℕ → ℕ → Kind → Type 0
JudgedRow refused bytes card kind = RowAt refused None 1 (judged bytes) card kind

from_row : (refused : Bool) (bytes : List ℕ) (card : ℕ) (kind : Kind) → JudgedRow refused bytes card kind → FaultOfCards refused bytes card kind
from_row refused bytes card kind (row_at place found is at h) = at_card place found (omega arith) at h

to_row : (refused : Bool) (bytes : List ℕ) (card : ℕ) (kind : Kind) → FaultOfCards refused bytes card kind
    → JudgedRow refused bytes card kind ⊎ ((too_long bytes ≡ Some card) × (kind ≡ FileTooLong))
to_row refused bytes card kind (at_card place found is at h) = inl (row_at place found (omega arith) at h)
to_row refused bytes card kind (past_limit at is) = inr (at, is)

-- an included file
module _ (refused : Bool) (bytes : List ℕ) where
  included_none : IsSound (JudgedRow refused bytes) → too_long bytes ≡ None → IsSound (FaultOfCards refused bytes)
  included_none sound is card kind fault = go (to_row refused bytes card kind fault)
    where
      go : JudgedRow refused bytes card kind ⊎ ((too_long bytes ≡ Some card) × (kind ≡ FileTooLong)) → ⊥
      go (inl row) = sound card kind row
      go (inr past) = let none : Some card ≡ None = sym past.0 ∙ is in cc none

  included_limit : (limit : ℕ) → IsSound (JudgedRow refused bytes) → too_long bytes ≡ Some limit → IsFirst (FaultOfCards refused bytes) limit FileTooLong
  included_limit limit sound is = record {
    is = past_limit is refl;
    least = λ c k fault. low c k (to_row refused bytes c k fault);
    least_number = λ c k fault same. low_number c k (to_row refused bytes c k fault);
  }
    where
      low : (c : ℕ) (k : Kind) → JudgedRow refused bytes c k ⊎ ((too_long bytes ≡ Some c) × (k ≡ FileTooLong)) → limit ≤ c
      low c k (inl row) = absurd (sound c k row)
      low c k (inr past) = let same : limit ≡ c = cc (sym is ∙ past.0) in omega arith

      low_number : (c : ℕ) (k : Kind) → JudgedRow refused bytes c k ⊎ ((too_long bytes ≡ Some c) × (k ≡ FileTooLong)) → 7 ≤ number_of k
      low_number c k (inl row) = absurd (sound c k row)
      low_number c k (inr past) = omega (arith, ap number_of past.1)

  included_row : (fault : Fault) → IsFirst (JudgedRow refused bytes) fault.card fault.kind → IsFirst (FaultOfCards refused bytes) fault.card fault.kind
  included_row fault h = record {
    is = from_row refused bytes fault.card fault.kind h.is;
    least = λ c k other. low c k (to_row refused bytes c k other);
    least_number = λ c k other same. low_number c k same (to_row refused bytes c k other);
  }
    where
      low : (c : ℕ) (k : Kind) → JudgedRow refused bytes c k ⊎ ((too_long bytes ≡ Some c) × (k ≡ FileTooLong)) → fault.card ≤ c
      low c k (inl row) = h.least c k row
      low c k (inr past) = omega (arith, limit_late bytes c past.0, (row_in_file refused None 1 (judged bytes) fault.card fault.kind h.is).2)

      low_number : (c : ℕ) (k : Kind) → c ≡ fault.card → JudgedRow refused bytes c k ⊎ ((too_long bytes ≡ Some c) × (k ≡ FileTooLong)) → number_of fault.kind ≤ number_of k
      low_number c k same (inl row) = h.least_number c k row same
      low_number c k same (inr past) = omega (arith, ap number_of past.1, (row_in_file refused None 1 (judged bytes) fault.card fault.kind h.is).1)

  pub included_found : (fault : Option Fault) (limit : Option ℕ) → IsFound (JudgedRow refused bytes) fault → too_long bytes ≡ limit
      → IsFound (FaultOfCards refused bytes) (first_of_included fault limit)
  included_found None None rows is = included_none rows is
  included_found None (Some limit) rows is = included_limit limit rows is
  included_found (Some fault) limit rows is = included_row fault rows

  abbrev pub last_open : Option ℕ
  last_open = unended (statements 0 1 (cards_of bytes))

  -- a file that is too long
  past_found : (fault : Option Fault) (limit : ℕ) → too_long bytes ≡ Some limit → IsFound (FaultOfCards refused bytes) fault → IsFound (FaultOfFile refused bytes) fault
  past_found None limit is sound = λ c k fault. go c k fault
    where
      go : (c : ℕ) (k : Kind) → FaultOfFile refused bytes c k → ⊥
      go c k (of_cards fault) = sound c k fault
      go c k (not_ended within at kind) = let none : Some limit ≡ None = sym is ∙ within in cc none
  past_found (Some fault) limit is h = record {
    is = of_cards h.is;
    least = low;
    least_number = low_number;
  }
    where
      low : (c : ℕ) (k : Kind) → FaultOfFile refused bytes c k → fault.card ≤ c
      low c k (of_cards other) = h.least c k other
      low c k (not_ended within at kind) = let none : Some limit ≡ None = sym is ∙ within in absurd (cc none)

      low_number : (c : ℕ) (k : Kind) → FaultOfFile refused bytes c k → c ≡ fault.card → number_of fault.kind ≤ number_of k
      low_number c k (of_cards other) same = h.least_number c k other same
      low_number c k (not_ended within at kind) same = let none : Some limit ≡ None = sym is ∙ within in absurd (cc none)

  -- a file within the limits
  open_first : (card : ℕ) → too_long bytes ≡ None → last_open ≡ Some card → ((c : ℕ) (k : Kind) → FaultOfCards refused bytes c k → card < c)
      → IsFirst (FaultOfFile refused bytes) card NoEnd
  open_first card within is later = record {
    is = not_ended within is refl;
    least = low;
    least_number = low_number;
  }
    where
      low : (c : ℕ) (k : Kind) → FaultOfFile refused bytes c k → card ≤ c
      low c k (of_cards other) = omega (arith, later c k other)
      low c k (not_ended within' at kind) = let same : card ≡ c = cc (sym is ∙ at) in omega arith

      low_number : (c : ℕ) (k : Kind) → FaultOfFile refused bytes c k → c ≡ card → 6 ≤ number_of k
      low_number c k (of_cards other) same = absurd (omega (arith, later c k other))
      low_number c k (not_ended within' at kind) same = omega (arith, ap number_of kind)

  row_first : (fault : Fault) → IsFirst (JudgedRow refused bytes) fault.card fault.kind → ((c : ℕ) → last_open ≡ Some c → fault.card ≤ c)
      → IsFirst (FaultOfFile refused bytes) fault.card fault.kind
  row_first fault rows later = record {
    is = of_cards h.is;
    least = low;
    least_number = low_number;
  }
    where
      h : IsFirst (FaultOfCards refused bytes) fault.card fault.kind
      h = included_row fault rows

      low : (c : ℕ) (k : Kind) → FaultOfFile refused bytes c k → fault.card ≤ c
      low c k (of_cards other) = (included_row fault rows).least c k other
      low c k (not_ended within at kind) = later c at

      low_number : (c : ℕ) (k : Kind) → FaultOfFile refused bytes c k → c ≡ fault.card → number_of fault.kind ≤ number_of k
      low_number c k (of_cards other) same = (included_row fault rows).least_number c k other same
      low_number c k (not_ended within at kind) same = omega (arith, ap number_of kind, (row_in_file refused None 1 (judged bytes) fault.card fault.kind rows.is).1)

  within_found : (fault : Option Fault) (end : Option ℕ) → too_long bytes ≡ None → IsFound (JudgedRow refused bytes) fault → last_open ≡ end
      → IsFound (FaultOfFile refused bytes) (sooner fault end)
  within_found None None within sound is = λ c k fault. go c k fault
    where
      go : (c : ℕ) (k : Kind) → FaultOfFile refused bytes c k → ⊥
      go c k (of_cards fault) = included_none sound within c k fault
      go c k (not_ended within' at kind) = let none : Some c ≡ None = sym at ∙ is in cc none
  within_found None (Some card) within sound is = open_first card within is (λ c k fault. absurd (included_none sound within c k fault))
  within_found (Some fault) None within rows is = row_first fault rows (λ c at. absurd (cc (none c at)))
    where
      none : (c : ℕ) → last_open ≡ Some c → Some c ≡ None
      none c at = sym at ∙ is
  within_found (Some fault) (Some card) within rows is = either (cases_lt card fault.card)
    where
      either : (card < fault.card) ⊎ (fault.card ≤ card)
          → IsFound (FaultOfFile refused bytes) (if nat_lt card fault.card then Some (record { card = card; kind = NoEnd }) else Some fault)
      either (inl low) =
          subst (λ b. IsFound (FaultOfFile refused bytes) (if b then Some (record { card = card; kind = NoEnd }) else Some fault)) (sym (lt-ltb card fault.card low))
          (open_first card within is (λ c k other. omega (arith, (included_row fault rows).least c k other)))
      either (inr high) =
          subst (λ b. IsFound (FaultOfFile refused bytes) (if b then Some (record { card = card; kind = NoEnd }) else Some fault)) (sym (le-ltb card fault.card high))
          (row_first fault rows (λ c at. let same : card ≡ c = cc (sym is ∙ at) in omega arith))

  pub file_found : (fault : Option Fault) (limit end : Option ℕ) → IsFound (JudgedRow refused bytes) fault → too_long bytes ≡ limit
      → (too_long bytes ≡ None → last_open ≡ end)
      → IsFound (FaultOfFile refused bytes) (first_of_file fault limit end)
  file_found fault None end rows is last = within_found fault end is rows (last is)
  file_found fault (Some limit) end rows is last = past_found (fault_or fault (at_limit (Some limit))) limit is (included_found fault (Some limit) rows is)

-- the last statement does not hang on the number of the file
same_last : (kind : CardKind) (s t : Statement) (ls ms : List Statement) → (length ls ≡ length ms) × (unended ls ≡ unended ms) → s.text ≡ t.text → s.card ≡ t.card
    → (length (before_statements kind s ls) ≡ length (before_statements kind t ms)) × (unended (before_statements kind s ls) ≡ unended (before_statements kind t ms))
unfolding before_statements unended
same_last Comment s t ls ms h text card = h
same_last Continuation s t ls ms h text card = h
same_last Initial s t [] [] h text card = (refl, ap (λ w. if is_end w then None else Some s.card) text ∙ ap (λ n. if is_end t.text then None else Some n) card)
same_last Initial s t [] (m ∷ ms) h text card = absurd (omega (arith, h.0))
same_last Initial s t (l ∷ ls) [] h text card = absurd (omega (arith, h.0))
same_last Initial s t (l ∷ ls) (m ∷ ms) h text card = (ap suc h.0, h.1)

any_file : (cards : List Card) (file other number : ℕ)
    → (length (statements file number cards) ≡ length (statements other number cards)) × (unended (statements file number cards) ≡ unended (statements other number cards))
unfolding statements statement
any_file [] file other number = (refl, refl)
any_file (card ∷ more) file other number =
    same_last (kind_of card.columns) (statement file number card more) (statement other number card more) (statements file (suc number) more) (statements other (suc
    number) more)
    (any_file more file other (suc number)) refl refl

pub last_of_file : (file : ℕ) (bytes : List ℕ) (list : List Statement) → list ≡ statements file 1 (judged bytes) → too_long bytes ≡ None
    → unended (statements 0 1 (cards_of bytes)) ≡ unended list
last_of_file file bytes list is within =
    (any_file (cards_of bytes) 0 file 1).1 ∙ ap (λ cards. unended (statements file 1 cards)) (sym (judged_whole bytes within)) ∙ ap unended (sym is)

-- what is read, where nothing is refused
limit_of_included : (fault : Option Fault) (limit : Option ℕ) → first_of_included fault limit ≡ None → limit ≡ None
limit_of_included None None h = refl
limit_of_included None (Some limit) h = absurd (cc h)
limit_of_included (Some fault) limit h = absurd (cc h)

limit_of_file : (fault : Option Fault) (limit end : Option ℕ) → first_of_file fault limit end ≡ None → limit ≡ None
limit_of_file fault None end h = refl
limit_of_file None (Some limit) end h = absurd (cc h)
limit_of_file (Some fault) (Some limit) end h = absurd (cc h)

read_whole : (file : ℕ) (refused : Bool) (bytes : List ℕ) (reading : Reading) → IsReading file refused bytes reading → too_long bytes ≡ None
    → record { statements = reading.statements; cards = reading.cards } ≡ file_cards file bytes
unfolding file_cards
read_whole file refused bytes reading h within =
    let all = judged_whole bytes within in
    let list : reading.statements ≡ statements file 1 (cards_of bytes) = h.statements ∙ ap (statements file 1) all in
    let number : reading.cards ≡ length (cards_of bytes) = h.cards ∙ ap length all in
    λ i. record { statements = list i; cards = number i }

pub rows_of : (file : ℕ) (refused : Bool) (bytes : List ℕ) (reading : Reading) → IsReading file refused bytes reading → IsFound (JudgedRow refused bytes) reading.fault
rows_of file refused bytes reading h = subst (IsFound (JudgedRow refused bytes)) (sym h.fault) (found_first refused (judged bytes) None 1)

pub read_of_included : (file : ℕ) (refused : Bool) (bytes : List ℕ) (reading : Reading) → IsReading file refused bytes reading
    → first_of_included reading.fault reading.too_long ≡ None
    → record { statements = reading.statements; cards = reading.cards } ≡ file_cards file bytes
read_of_included file refused bytes reading h none = read_whole file refused bytes reading h (sym h.too_long ∙ limit_of_included reading.fault reading.too_long none)

pub read_of_file : (file : ℕ) (refused : Bool) (bytes : List ℕ) (reading : Reading) (end : Option ℕ) → IsReading file refused bytes reading
    → first_of_file reading.fault reading.too_long end ≡ None
    → record { statements = reading.statements; cards = reading.cards } ≡ file_cards file bytes
read_of_file file refused bytes reading end h none = read_whole file refused bytes reading h (sym h.too_long ∙ limit_of_file reading.fault reading.too_long end none)

limit_of_unjudged : (limit : Option ℕ) → at_limit limit ≡ None → limit ≡ None
limit_of_unjudged None h = refl
limit_of_unjudged (Some limit) h = absurd (cc h)

pub read_of_unjudged : (file : ℕ) (refused : Bool) (bytes : List ℕ) (reading : Reading) → IsReading file refused bytes reading → at_limit reading.too_long ≡ None
    → record { statements = reading.statements; cards = reading.cards } ≡ file_cards file bytes
read_of_unjudged file refused bytes reading h none = read_whole file refused bytes reading h (sym h.too_long ∙ limit_of_unjudged reading.too_long none)

-- from the fault to the answer
pub answer_sound : (Faults : ℕ → Kind → Type 0) (fault : Option Fault) (value : FileCards) (r : Result FileCards Fail)
    → IfOk r (λ cards. (fault ≡ None) × (cards ≡ value)) → IsFound Faults fault → IfOk r (λ _. IsSound Faults)
answer_sound Faults fault value (Ok cards) h found = subst (IsFound Faults) h.0 found
answer_sound Faults fault value (Err e) h found = tt

pub answer_read : (fault : Option Fault) (value whole : FileCards) (r : Result FileCards Fail) → IfOk r (λ cards. (fault ≡ None) × (cards ≡ value))
    → (fault ≡ None → value ≡ whole) → IfOk r (λ cards. cards ≡ whole)
answer_read fault value whole (Ok cards) h is = h.1 ∙ is h.0
answer_read fault value whole (Err e) h is = tt

refusal_first : (Faults : ℕ → Kind → Type 0) (file : ℕ) (fault : Option Fault) (fail : Fail) → IsRefusal file fault fail → IsFound Faults fault → IsFailure file Faults fail
refusal_first Faults file fault NoMemory h found = tt
refusal_first Faults file fault (Refused r) h found = (h.0, subst (IsFound Faults) h.1 found)

pub answer_failed : (Faults : ℕ → Kind → Type 0) (file : ℕ) (fault : Option Fault) (r : Result FileCards Fail) → IfErr r (IsRefusal file fault)
    → IsFound Faults fault → IfErr r (IsFailure file Faults)
answer_failed Faults file fault (Ok cards) h found = tt
answer_failed Faults file fault (Err fail) h found = refusal_first Faults file fault fail h found

-- from a pass over the front of a file to what is read of it
pub pass_cards : (file : ℕ) (refused : Bool) (bytes front : List ℕ) (pass : Pass) → IsPass file refused front pass → front ≡ take most_bytes bytes
    → pass.cards ≡ length (judged bytes)
unfolding judged
pass_cards file refused bytes front pass h is = h.cards ∙ ap (λ l. length (take most_cards (cards_of l))) is

pub reading_is : (file : ℕ) (refused : Bool) (bytes front : List ℕ) (pass : Pass) (list : List Statement) (limit : Option ℕ) → IsPass file refused front pass
    → front ≡ take most_bytes bytes
    → list ≡ closed pass.group.done pass.group.current → limit ≡ too_long bytes
    → IsReading file refused bytes (record { statements = list; cards = pass.cards; fault = pass.fault; too_long = limit })
unfolding judged
reading_is file refused bytes front pass list limit h is list_is limit_is = record {
  statements = list_is ∙ all_statements (take most_cards (cards_of front)) file pass.group h.group ∙ ap (λ l. statements file 1 (take most_cards (cards_of l))) is;
  cards = h.cards ∙ ap (λ l. length (take most_cards (cards_of l))) is;
  fault = sym h.fault ∙ ap (λ l. fault_from refused None 1 (take most_cards (cards_of l))) is;
  too_long = limit_is;
}

-- the last of some statements
last_by : Statement → Bool → Option ℕ
last_by s ends = if ends then None else Some s.card

unended_last : (list : List Statement) (s : Statement) → 1 ≤ length list → s ≡ get_or list (length list - 1) s → unended list ≡ last_by s (is_end s.text)
unfolding unended last_by
unended_last [] s some is = absurd (omega arith)
unended_last (x ∷ []) s some is = ap (λ (t : Statement). if is_end t.text then None else Some t.card) (sym is)
unended_last (x ∷ y ∷ more) s some is =
    let e : (length (x ∷ y ∷ more) - 1) ≡ suc (length (y ∷ more) - 1) = omega arith in
    unended_last (y ∷ more) s (omega arith) (is ∙ ap (λ n. get_or (x ∷ y ∷ more) n s) e)

pub unended_none : (list : List Statement) → length list < 1 → None ≡ unended list
unfolding unended
unended_none [] low = refl
unended_none (x ∷ list) low = absurd (omega arith)

pub unended_end : (list : List Statement) (s : Statement) (text : List ℕ) (ends : Bool) → 1 ≤ length list → s ≡ get_or list (length list - 1) s → text ≡ s.text
    → ends ≡ is_end text → ends ≡ true → None ≡ unended list
unfolding last_by
unended_end list s text ends some is text_is ends_is h = sym (unended_last list s some is ∙ ap (last_by s) (ap is_end (sym text_is) ∙ sym ends_is ∙ h))

pub unended_card : (list : List Statement) (s : Statement) (text : List ℕ) (ends : Bool) → 1 ≤ length list → s ≡ get_or list (length list - 1) s → text ≡ s.text
    → ends ≡ is_end text → ends ≡ false → Some s.card ≡ unended list
unfolding last_by
unended_card list s text ends some is text_is ends_is h = sym (unended_last list s some is ∙ ap (last_by s) (ap is_end (sym text_is) ∙ sym ends_is ∙ h))

-- The first of some faults is one: one card, and one row.
pub one_first : (Faults : ℕ → Kind → Type 0) (card other : ℕ) (kind row : Kind) → IsFirst Faults card kind → IsFirst Faults other row
    → (card ≡ other) × (number_of kind ≡ number_of row)
one_first Faults card other kind row h g =
    let same : card ≡ other = omega (arith, h.least other row g.is, g.least card kind h.is) in
    (same, omega (arith, h.least_number other row g.is (sym same), g.least_number card kind h.is same))
