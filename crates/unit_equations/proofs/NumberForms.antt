-- Names by numbers, one name after another.
use Rattle.std.proofs.Common.{◌≡◌, ℕ, zero, suc, ◌+◌, ◌<◌, Bool, true, false, true≢false, is_some, List, [], ◌∷◌, ◌++◌, length, slice_index_or, bytes_eq, Option, Some, None, if◌then◌else◌, inl, inr, arith, refl, sym, ap, subst, ◌∙◌}
use Rattle.std.proofs.lemmas.Bool.{cases_lt}
use Rattle.std.proofs.lemmas.Slice.Eq.{bytes_eq-Decides}
use Rattle.std.proofs.lemmas.List.{length-append}
use Rattle.f_tree.specs.Values.{Bytes}
use Rattle.name_table.specs.Named.{value_of, texts}
use Rattle.unit_equations.specs.declared.numbers.Numbers.{Numbers}
use Rattle.unit_equations.specs.NumbersTold.{count_of, name_at, IsNumberOf, AreNumbers, Keeps}

at_front : (xs : List Bytes) (x : Bytes) (i : ℕ) → i < length xs → slice_index_or (xs ++ x ∷ []) i [] ≡ slice_index_or xs i []
at_front [] x i h = absurd (let k : i < 0 = h in omega arith)
at_front (y ∷ xs) x zero h = refl
at_front (y ∷ xs) x (suc i) h = at_front xs x i (let k : suc i < suc (length xs) = h in omega arith)

at_end : (xs : List Bytes) (x : Bytes) → slice_index_or (xs ++ x ∷ []) (length xs) [] ≡ x
at_end [] x = refl
at_end (y ∷ xs) x = at_end xs x

same_some : (i j : ℕ) → Some i ≡ Some j → i ≡ j
same_some i j e = ap (λ (o : Option ℕ). elim o [ None ↦ i | Some k ↦ k ]) e

none_some : (i : ℕ) → None ≡ Some i → ⊥
none_some i e = true≢false (sym (ap is_some e))

pub no_numbers : (t : Numbers) → ((q : Bytes) → value_of t.table q ≡ None) → texts t.names.items ≡ [] → AreNumbers t
no_numbers t none empty = record {
  given = λ x i h. absurd (none_some i (sym (none x) ∙ h));
  known = λ i h. absurd (let e : length (texts t.names.items) ≡ 0 = ap length empty in omega arith);
}

pub keeps_itself : (t : Numbers) → Keeps t t
keeps_itself t = record { no_fewer = omega arith; same = λ i h. refl }

module _ (old new : Numbers) (x : Bytes) (are : AreNumbers old) (missing : value_of old.table x ≡ None) (put : texts new.names.items ≡ texts old.names.items ++ x ∷ [])
    (n : ℕ) (next : n ≡ count_of old) (put_in : (q : Bytes) → value_of new.table q ≡ (if bytes_eq x q then Some n else value_of old.table q)) where
  tabled : (q : Bytes) → value_of new.table q ≡ (if bytes_eq x q then Some (count_of old) else value_of old.table q)
  tabled q = put_in q ∙ ap (λ k. if bytes_eq x q then Some k else value_of old.table q) next

  more : count_of new ≡ count_of old + 1
  more = ap length put ∙ length-append (texts old.names.items) (x ∷ [])

  before : (i : ℕ) → i < count_of old → name_at new i ≡ name_at old i
  before i h = ap (λ xs. slice_index_or xs i []) put ∙ at_front (texts old.names.items) x i h

  last : name_at new (count_of old) ≡ x
  last = ap (λ xs. slice_index_or xs (count_of old) []) put ∙ at_end (texts old.names.items) x

  pub keeps_more : Keeps old new
  keeps_more = record { no_fewer = let e = more in omega arith; same = before }

  last_number : IsNumberOf new x (count_of old)
  last_number = record { within = let e = more in omega arith; is = sym last }

  pub number_new : IsNumberOf new x n
  number_new = subst (λ i. IsNumberOf new x i) (sym next) last_number

  given_by : (q : Bytes) (i : ℕ) (test : Bool) → bytes_eq x q ≡ test → (if test then Some (count_of old) else value_of old.table q) ≡ Some i → IsNumberOf new q i
  given_by q i true is h =
      let e : x ≡ q = (bytes_eq-Decides x q).0 is in
      let at : count_of old ≡ i = same_some (count_of old) i h in
      subst (λ j. IsNumberOf new q j) at (subst (λ y. IsNumberOf new y (count_of old)) e last_number)
  given_by q i false is h =
      let k = are.given q i h in
      record { within = let e = more in let m : i < count_of old = k.within in omega arith; is = k.is ∙ sym (before i k.within) }

  old_value : (y : Bytes) (i : ℕ) (test : Bool) → bytes_eq x y ≡ test → value_of old.table y ≡ Some i → (if test then Some (count_of old) else value_of old.table y) ≡ Some i
  old_value y i true is h =
      let e : x ≡ y = (bytes_eq-Decides x y).0 is in
      absurd (none_some i (sym missing ∙ ap (value_of old.table) e ∙ h))
  old_value y i false is h = h

  known_by : (i : ℕ) → i < count_of new → value_of new.table (name_at new i) ≡ Some i
  known_by i h = elim (cases_lt i (count_of old)) [
    | inl less ↦ ap (value_of new.table) (before i less) ∙ tabled (name_at old i) ∙ old_value (name_at old i) i (bytes_eq x (name_at old i)) refl (are.known i less)
    | inr above ↦
        let e : i ≡ count_of old = (let m = more in omega arith) in
        ap (λ j. value_of new.table (name_at new j)) e ∙ ap (value_of new.table) last ∙ tabled x
        ∙ ap (λ t. if t then Some (count_of old) else value_of old.table x) ((bytes_eq-Decides x x).1 refl) ∙ ap Some (sym e)
  ]

  pub numbers_more : AreNumbers new
  numbers_more = record {
    given = λ q i h. given_by q i (bytes_eq x q) refl (sym (tabled q) ∙ h);
    known = known_by;
  }
