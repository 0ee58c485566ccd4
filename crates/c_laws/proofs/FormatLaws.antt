-- The format that a pointer gives is the one that the text there begins with.
use Rattle.std.specs.Prelude.{◌≡◌, refl, ℕ, ◌+◌, ◌-◌, nat_le, ◌⊎◌, List, [], ◌∷◌, map, length, drop, Option, Some, None, unwrap_or, Ok, slice_get, if◌then◌else◌}
use Rattle.std.proofs.Common.{ap, subst, ◌∙◌, arith, inl, inr}
use Rattle.c_tree.specs.edit_meaning.Formats.{Format}
use Rattle.c_tree.specs.edit_meaning.FormatTexts.{State, Going, Done, Found, Nothing, Front, starting, next_state, found, from_state, tree_of, size_of}
use Rattle.c_tree.specs.declared.outcome.CValue.TheVariants.{Pointer}
use Rattle.c_tree.specs.declared.outcome.CFault.TheVariants.{Outside}
use Rattle.c_tree.specs.Faults.{failing}
use Rattle.c_tree.specs.Objects.{Object, Bytes}
use Rattle.c_tree.specs.FormatsGiven.{FormatRead, Begins, NoFormat, EndsEarly, read_on, format_from, format_read, format_in, format_at}

-- what stands behind so many bytes is what was found
abbrev pub Agrees : ℕ → Found → FormatRead → Type 0
Agrees total (Front format rest) read = read ≡ Begins (total - length rest) format
Agrees total Nothing read = (read ≡ NoFormat) ⊎ (read ≡ EndsEarly)

-- the bytes behind one that leads on
pub goes_on_alike : (size : ℕ) (next : Option State) (c : ℕ) (cs : List ℕ) → ((state : State) → Agrees (size + 1 + length cs) (found cs state) (format_from (size + 1) (map Some cs) state)) → Agrees (size + length (c ∷ cs)) (from_state next (λ state. found cs state)) (read_on next (λ state. format_from (size + 1) (map Some cs) state))
goes_on_alike size None c cs later = inl refl
goes_on_alike size (Some state) c cs later =
    subst (λ n. Agrees n (found cs state) (format_from (size + 1) (map Some cs) state)) (omega arith) (later state)

pub reads_alike : (size : ℕ) (text : List ℕ) (state : State) → Agrees (size + length text) (found text state) (format_from size (map Some text) state)
reads_alike size [] (Done format) = ap (λ n. Begins n format) (omega arith)
reads_alike size (c ∷ cs) (Done format) = ap (λ n. Begins n format) (omega arith)
reads_alike size [] (Going mode made outer) = inr refl
reads_alike size (c ∷ cs) (Going mode made outer) =
    goes_on_alike size (next_state (Going mode made outer) c) c cs (λ state. reads_alike (size + 1) cs state)

-- from the start on
pub reads_alike_from_start : (text : List ℕ) → Agrees (length text) (found text starting) (format_from 0 (map Some text) starting)
reads_alike_from_start text =
    subst (λ n. Agrees n (found text starting) (format_from 0 (map Some text) starting)) (omega arith) (reads_alike 0 text starting)

-- a text that begins with a format
pub begins_by : (total : ℕ) (found : Found) (read : FormatRead) (format : Format) (size : ℕ) → tree_of found ≡ Some format → size_of total found ≡ Some size → Agrees total found read → format_read read ≡ Ok (if nat_le size 2048 then Some format else None)
begins_by total Nothing read format size tree sized alike = absurd (cc)
begins_by total (Front other rest) read format size tree sized alike =
    ap format_read alike
    ∙ ap (λ n. Ok (if nat_le n 2048 then Some other else None)) (ap (λ found. unwrap_or found size) sized)
    ∙ ap (λ f. Ok (if nat_le size 2048 then Some f else None)) (ap (λ found. unwrap_or found format) tree)

-- a text that begins with none
pub begins_with_none : (total : ℕ) (found : Found) (read : FormatRead) → tree_of found ≡ None → Agrees total found read → (format_read read ≡ Ok None) ⊎ (format_read read ≡ failing Outside)
begins_with_none total (Front format rest) read tree alike = absurd (cc)
begins_with_none total Nothing read tree (inl stopped) = inl (ap format_read stopped)
begins_with_none total Nothing read tree (inr early) = inr (ap format_read early)

-- the format at a place in an object
pub read_there : (objects : List Object) (object offset : ℕ) (bytes : List (Option ℕ)) (text : List ℕ) → slice_get objects object ≡ Some (Bytes bytes) → drop offset bytes ≡ map Some text → format_at objects (Pointer object offset) ≡ format_read (format_from 0 (map Some text) starting)
unfolding format_at
read_there objects object offset bytes text found there =
    ap (λ held. format_in held offset) found
    ∙ ap (λ behind. format_read (format_from 0 behind starting)) there
