-- A run of bytes that pass a test.
use Rattle.std.proofs.Common.{◌≡◌, ℕ, ◌+◌, ◌<◌, Bool, true, false, List, length, get_or, take, refl, arith}
use Rattle.std.specs.List.{list_all}
use Rattle.std.proofs.lemmas.List.Folds.{list_all_more}
use Rattle.word_cut.specs.Fronts.{IsRun}
use Rattle.word_cut.proofs.Gaps.{StopsAt-drop, StopsAt-all}

-- the bytes so far pass
abbrev pub Passed : (ℕ → Bool) → List ℕ → ℕ → Type 0
Passed test bytes i = list_all test (take i bytes) ≡ true

pub passed_more : (test : ℕ → Bool) (bytes : List ℕ) (i : ℕ) → i < length bytes → Passed test bytes i → test (get_or bytes i 0) ≡ true → Passed test bytes (i + 1)
passed_more test bytes i h p e = let m = list_all_more test bytes i 0 h in rw (m, p, e) refl

pub IsRun-here : (test : ℕ → Bool) (bytes : List ℕ) (i : ℕ) → i < length bytes → Passed test bytes i → test (get_or bytes i 0) ≡ false → IsRun test bytes i
IsRun-here test bytes i h p e = record {
  within = omega arith;
  pass = p;
  stops = StopsAt-drop test bytes i h e;
}

pub IsRun-all : (test : ℕ → Bool) (bytes : List ℕ) (i : ℕ) → i ≡ length bytes → Passed test bytes i → IsRun test bytes (length bytes)
IsRun-all test bytes i e p = record {
  within = omega arith;
  pass = rw e at p;
  stops = StopsAt-all test bytes (length bytes) (omega arith);
}
