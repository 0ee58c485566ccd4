-- What the reader answers, by the reader that keeps no derivation.
use Rattle.std.proofs.Common.{◌≡◌, ℕ, List, refl}
use Rattle.std.specs.Prelude.{Result, Ok, Err, IfOk, IfErr}
use Rattle.prototypes.specs.declared.prototype.Prototype.{Prototype}
use Rattle.prototypes.specs.PrototypeText.{Spells, IsPrototypeFile, IsFile, RefusedLine}
use Rattle.prototype_laws.specs.Reading.{reading}
use Rattle.prototype_laws.specs.PrototypeLaws.{Verdict, is_file, is_refused}
use Rattle.prototype_laws.proofs.FileLemmas.{one_list}
use Rattle.prototype_laws.proofs.VerdictLemmas.{read_file, read_refusal, verdict}
use Rattle.proto_file.specs.declared.reader.ProtoFail.{ProtoFail}
use Rattle.proto_file.specs.declared.reader.ProtoFail.TheVariants.{NoMemory, NotPrototype}
use Rattle.proto_file.specs.Failures.{IsRefusal, IsErrOfReading}

pub file_read : (bytes : List ℕ) (r : Result (List Prototype) ProtoFail) → IfOk r (λ ps. reading bytes ≡ Ok ps) → IfOk r (IsPrototypeFile bytes)
file_read bytes (Ok ps) h = read_file bytes ps h
file_read bytes (Err fail) h = tt

refusal : (bytes : List ℕ) (fail : ProtoFail) → IsErrOfReading bytes fail → IsRefusal bytes fail
refusal bytes NoMemory h = tt
refusal bytes (NotPrototype line) h = read_refusal bytes line h

-- a file is read as one list of prototypes
pub file_alone : (bytes : List ℕ) (r : Result (List Prototype) ProtoFail) → IfOk r (λ ps. reading bytes ≡ Ok ps)
    → IfOk r (λ ps. (other : List Prototype) → Spells bytes other → other ≡ ps)
file_alone bytes (Ok ps) h = λ other spelled. one_list bytes other ps spelled (read_file bytes ps h).spells
file_alone bytes (Err fail) h = tt

no_file : (bytes : List ℕ) (line : ℕ) → RefusedLine bytes line → IsFile bytes → Verdict bytes → ⊥
no_file bytes line r file (is_file ps is none) = none line r
no_file bytes line r file (is_refused other s none one) = none file

whole : (bytes : List ℕ) (fail : ProtoFail) → IsErrOfReading bytes fail → IsFile bytes → fail ≡ NoMemory
whole bytes NoMemory h file = refl
whole bytes (NotPrototype line) h file = absurd (no_file bytes line (read_refusal bytes line h) file (verdict bytes))

-- a file is refused for want of memory alone
pub file_whole : (bytes : List ℕ) (r : Result (List Prototype) ProtoFail) → IfErr r (IsErrOfReading bytes) → IfErr r (λ fail. IsFile bytes → fail ≡ NoMemory)
file_whole bytes (Ok ps) h = tt
file_whole bytes (Err fail) h = whole bytes fail h

pub file_refused : (bytes : List ℕ) (r : Result (List Prototype) ProtoFail) → IfErr r (IsErrOfReading bytes) → IfErr r (IsRefusal bytes)
file_refused bytes (Ok ps) h = tt
file_refused bytes (Err fail) h = refusal bytes fail h
