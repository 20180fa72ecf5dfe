-- The source and the sink in memory, as values, and what one call does to them.
use Rattle.std.specs.Prelude.{ℕ, ◌-◌, Bool, ◌||◌, ◌==◌, nat_le, min, if◌then◌else◌, List, ◌++◌, length, take, drop}
use Rattle.std.specs.List.{list_any}
use Rattle.byte_ports.specs.Faults.{one_more}
use Rattle.byte_ports.specs.declared.Failed.{Failed}

-- what a call that fails answers
abbrev pub failure : Failed
failure = record {}

-- a source in memory: the bytes that are left, the most that one call gives, the numbers of the calls that fail, and
-- how many calls and faults there were
pub record MemReader : Type 0 where
  pub left : List ℕ
  pub piece : ℕ
  pub fail_at : List ℕ
  pub calls : ℕ
  pub faults : ℕ

-- a sink in memory: the bytes that it holds, how many it has room for in all, the most that one call takes, the numbers of
-- the calls that fail, and how many calls and faults there were
pub record MemWriter : Type 0 where
  pub held : List ℕ
  pub room : ℕ
  pub piece : ℕ
  pub fail_at : List ℕ
  pub calls : ℕ
  pub faults : ℕ

-- whether a call of this number fails
abbrev pub fails_at : List ℕ → ℕ → Bool
fails_at calls number = list_any (λ call. call == number) calls

-- whether the next read fails
abbrev pub read_fails : MemReader → Bool
read_fails s = fails_at s.fail_at s.calls

-- how many bytes the next read gives to a buffer of this size
abbrev pub read_count : MemReader → ℕ → ℕ
read_count s size = min s.piece (min size (length s.left))

-- the source after a read of this size
abbrev pub after_read : MemReader → ℕ → MemReader
after_read s size =
    if read_fails s then record s { calls = one_more s.calls; faults = one_more s.faults }
    else record s { left = drop (read_count s size) s.left; calls = one_more s.calls }

-- whether the next write fails
abbrev pub write_fails : MemWriter → Bool
write_fails k = fails_at k.fail_at k.calls || nat_le k.room (length k.held)

-- how many of so many bytes the next write takes
abbrev pub write_count : MemWriter → ℕ → ℕ
write_count k size = min k.piece (min size (k.room - length k.held))

-- the sink after a write of these bytes
abbrev pub after_write : MemWriter → List ℕ → MemWriter
after_write k bytes =
    if write_fails k then record k { calls = one_more k.calls; faults = one_more k.faults }
    else record k {
      held = k.held ++ take (write_count k (length bytes)) bytes;
      calls = one_more k.calls;
    }
