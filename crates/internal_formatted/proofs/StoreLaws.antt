-- Records that are stored one behind the other, and the file in which they are.
use Rattle.std.proofs.Common.{◌≡◌, ℕ, pos, negsuc, ◌+◌, ◌*◌, Bool, true, false, List, [], ◌∷◌, ◌++◌, length, nat_le, refl, ap, sym, ◌∙◌}
use Rattle.std.specs.Prelude.{Result, Ok, Err, nat_lt, if◌then◌else◌}
use Rattle.c_tree.specs.declared.outcome.CValue.TheVariants.{Pointer}
use Rattle.c_tree.specs.Faults.{Or, after}
use Rattle.c_tree.specs.Objects.{Object}
use Rattle.c_tree.specs.World.{InternalFile}
use Rattle.c_tree.specs.LibraryArguments.{text_stored, fitted}
use Rattle.c_tree.specs.TransferOutput.{Filling, Filled, Stuck, one_filled, fill_one, fill_all}
use Rattle.internal_output.specs.declared.files.RecordRefusal.{RecordRefusal}
use Rattle.internal_output.proofs.FileLaws.{fills-nothing, fills-behind, then_fill}
use Rattle.internal_formatted.specs.Storing.{Held, Stores}
use Rattle.internal_formatted.specs.Transferring.{page_in}

pub stores-nothing : (x : Held) → Stores [] x x (Ok tt)
stores-nothing x = fills-nothing x.file x.objects

pub stores-behind : (front back : List (List ℕ)) (x y z : Held) (result : Result (Unit {0}) RecordRefusal) → Stores front x y (Ok tt) → Stores back y z result → Stores (front ++ back) x z result
stores-behind front back x y z result first second = fills-behind front back x.file y.file z.file x.objects y.objects z.objects result first second

-- ## The sheet of the file stays

same-stored : (file : InternalFile) (changed : Or (List Object)) (next : InternalFile) (objects : List Object) → one_filled file changed ≡ Ok (Filled next objects) → page_in next ≡ page_in file
same-stored file (Ok stored) next objects is =
    let moved : record file { position = file.position + 1 } ≡ next = cc in ap page_in (sym moved)
same-stored file (Err reason) next objects is = absurd (cc)

abbrev filled_where : Bool → Bool → InternalFile → List Object → Or (List Object) → Or Filling
filled_where over long file objects changed = if over then Ok (Stuck (negsuc 0) objects) else if long then Ok (Stuck (pos 5) objects) else one_filled file changed

same-where : (over long : Bool) (file : InternalFile) (here : List Object) (changed : Or (List Object)) (next : InternalFile) (objects : List Object) →
    filled_where over long file here changed ≡ Ok (Filled next objects) → page_in next ≡ page_in file
same-where true long file here changed next objects is = absurd (cc)
same-where false true file here changed next objects is = absurd (cc)
same-where false false file here changed next objects is = same-stored file changed next objects is

same-one : (line : List ℕ) (file : InternalFile) (here : List Object) (next : InternalFile) (objects : List Object) → fill_one line file here ≡ Ok (Filled next objects) → page_in next ≡ page_in file
same-one line file here next objects is =
    same-where (nat_le file.count file.position) (nat_lt file.size (length line)) file here
    (text_stored here (Pointer file.object (file.offset + file.position * file.size)) (fitted file.size line)) next objects is

same-then : (later : List (List ℕ)) (file : InternalFile) (found : Or Filling) (last : InternalFile) (objects : List Object) →
    ((next : InternalFile) → (changed : List Object) → found ≡ Ok (Filled next changed) → page_in next ≡ page_in file) →
    ((next : InternalFile) → (changed : List Object) → fill_all later next changed ≡ Ok (Filled last objects) → page_in last ≡ page_in next) →
    after found (then_fill later) ≡ Ok (Filled last objects) → page_in last ≡ page_in file
same-then later file (Ok (Filled next changed)) last objects one rest is = rest next changed is ∙ one next changed refl
same-then later file (Ok (Stuck number changed)) last objects one rest is = absurd (cc)
same-then later file (Err reason) last objects one rest is = absurd (cc)

pub same-page : (lines : List (List ℕ)) (file : InternalFile) (here : List Object) (last : InternalFile) (objects : List Object) → fill_all lines file here ≡ Ok (Filled last objects) →
    page_in last ≡ page_in file
same-page [] file here last objects is = let same : file ≡ last = cc in ap page_in (sym same)
same-page (line ∷ later) file here last objects is =
    same-then later file (fill_one line file here) last objects (λ next changed one. same-one line file here next changed one)
    (λ next changed rest. same-page later next changed last objects rest) is
