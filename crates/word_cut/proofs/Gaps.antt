-- A gap, byte by byte.
use Rattle.std.proofs.Common.{◌≡◌, ℕ, ◌+◌, ◌<◌, ◌≤◌, Bool, true, false, not, nat_eq, List, [], ◌∷◌, ◌++◌, length, get_or, take, drop, refl, sym, append_assoc, arith, subst}
use Rattle.std.proofs.lemmas.List.{take_more, drop_all, drop_more, append-nil}
use Rattle.std.proofs.lemmas.Bool.Decides.{nat_tests}
use Rattle.word_cut.specs.Texts.{is_space}
use Rattle.word_cut.specs.Words.{is_gap}
use Rattle.word_cut.specs.Fronts.{StopsAt, goes_on_gap, IsGapFront}

-- what goes on a gap from one state to another goes on the bytes so far
abbrev pub Grows : Bool → List ℕ → ℕ → Type 0
Grows c bytes i = (more rest : List ℕ) → is_gap c more rest ≡ true → is_gap false (take i bytes ++ more) rest ≡ true

abbrev pub Steps : Bool → ℕ → Bool → Type 0
Steps c b d = (more rest : List ℕ) → is_gap d more rest ≡ true → is_gap c (b ∷ more) rest ≡ true

pub grows_more : (bytes : List ℕ) (i : ℕ) (c d : Bool) → i < length bytes → Grows c bytes i → Steps c (get_or bytes i 0) d → Grows d bytes (i + 1)
grows_more bytes i c d h grows steps more rest g =
    let e = take_more bytes i 0 h in
    rw (e, append_assoc) (grows (get_or bytes i 0 ∷ more) rest (steps more rest g))

pub neq : (b k : ℕ) → (b ≡ k → ⊥) → nat_eq b k ≡ false
neq b k n = grind (arith, nat_tests)

pub steps_inside : (c : Bool) (b : ℕ) (d : Bool) → c ≡ true → d ≡ not (nat_eq b 10) → Steps c b d
steps_inside c b d e f more rest g = let h = rw f at g in rw e h

pub steps_hash : (c : Bool) (b : ℕ) (d : Bool) → c ≡ false → b ≡ 35 → d ≡ true → Steps c b d
steps_hash c b d e f k more rest g = let h = rw k at g in rw (e, f) h

pub steps_space : (c : Bool) (b : ℕ) (d : Bool) → c ≡ false → (b ≡ 35 → ⊥) → is_space b ≡ true → d ≡ c → Steps c b d
steps_space c b d e n s k more rest g =
    let h = rw (k, e) at g in
    let m = neq b 35 n in
    rw (e, m, s) h

-- the first byte left fails a test
pub StopsAt-drop : (test : ℕ → Bool) (bytes : List ℕ) (i : ℕ) → i < length bytes → test (get_or bytes i 0) ≡ false → StopsAt test (drop i bytes)
StopsAt-drop test bytes i h e = let P : List ℕ → Type 0 = StopsAt test in subst P (sym (drop_more bytes i 0 h)) e

pub StopsAt-all : (test : ℕ → Bool) (bytes : List ℕ) (i : ℕ) → length bytes ≤ i → StopsAt test (drop i bytes)
StopsAt-all test bytes i h = let P : List ℕ → Type 0 = StopsAt test in subst P (sym (drop_all i bytes h)) tt

-- where white space and comments stop
pub IsGapFront-here : (bytes : List ℕ) (i : ℕ) (c : Bool) → i < length bytes → Grows c bytes i → c ≡ false → (get_or bytes i 0 ≡ 35 → ⊥) → is_space (get_or bytes i 0) ≡ false → IsGapFront bytes i
IsGapFront-here bytes i c h grows closed n s = record {
  within = omega arith;
  gap = let g = grows [] (drop i bytes) (rw closed refl) in rw append-nil at g;
  stops = let m = neq _ 35 n in StopsAt-drop goes_on_gap bytes i h (rw (m, s) refl);
}

pub IsGapFront-all : (bytes : List ℕ) (i : ℕ) (c : Bool) → i ≡ length bytes → Grows c bytes i → IsGapFront bytes (length bytes)
IsGapFront-all bytes i c e grows = record {
  within = omega arith;
  gap =
      let g = grows [] [] (either_way c) in
      let h = rw append-nil at g in
      let d = drop_all (length bytes) bytes (omega arith) in
      let k = rw e at h in
      rw d k;
  stops = StopsAt-all goes_on_gap bytes (length bytes) (omega arith);
}
  where
    either_way : (c : Bool) → is_gap c [] [] ≡ true
    either_way true = refl
    either_way false = refl
