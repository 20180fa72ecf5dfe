-- What holds between two turns of the loops that read and write.
use Rattle.std.proofs.Common.{◌≡◌, ℕ, ◌+◌, ◌-◌, ◌<◌, ◌≤◌, List, ◌++◌, length, take, drop, Option, sym, subst, ap, ◌∙◌, arith}
use Rattle.std.proofs.lemmas.List.{length-drop}
use Rattle.std.proofs.lemmas.Slice.{between_to_end}
use Rattle.std.proofs.Math.Seq.{take-add}
use Rattle.std.proofs.KnownBytes.{Appends-trans}
use Rattle.std.specs.List.{between}
use Rattle.std.specs.Io.KnownBytes.{Consumes, Appends}

-- a source has given these bytes, within the limit, in at most as many reads
pub record Reading (left_then left_now : Option (List ℕ)) (faults_then faults_now reads_then reads_now limit : ℕ) (bytes : List ℕ) : Type 0 where
  pub given : Consumes left_then left_now bytes
  pub within : length bytes ≤ limit
  pub never_falls : faults_then ≤ faults_now
  pub reads : reads_now ≤ reads_then + length bytes

-- a sink has taken so many of the bytes, in at most as many writes
pub record Writing (held_then held_now : Option (List ℕ)) (faults_then faults_now writes_then writes_now : ℕ) (bytes : List ℕ) (written : ℕ) : Type 0 where
  pub taken : Appends held_then held_now (take written bytes)
  pub within : written ≤ length bytes
  pub never_falls : faults_then ≤ faults_now
  pub writes : writes_now ≤ writes_then + written

-- the bytes that one more write may take
pub length-rest : (bytes : List ℕ) (written : ℕ) → length (between written (length bytes) bytes) ≡ length bytes - written
length-rest bytes written =
    ap length (between_to_end bytes written (length bytes) (omega arith)) ∙ length-drop written bytes

-- the bytes that were taken, after one more write
pub Appends-more : (held_then held_now held_next : Option (List ℕ)) (bytes : List ℕ) (written n : ℕ)
    → Appends held_then held_now (take written bytes) → Appends held_now held_next (take n (between written (length bytes) bytes))
    → Appends held_then held_next (take (written + n) bytes)
Appends-more held_then held_now held_next bytes written n before now =
    let joined : take written bytes ++ take n (between written (length bytes) bytes) ≡ take (written + n) bytes =
    rw (between_to_end bytes written (length bytes) (omega arith)) (sym (take-add written n bytes)) in
    subst (Appends held_then held_next) joined (Appends-trans held_then held_now held_next _ _ before now)
