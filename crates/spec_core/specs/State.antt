-- States: as they are listed, and as they are read.
use Rattle.std.specs.Prelude.{ℕ, ℤ, pos, Bool, true, false, cond, ◌&&◌, ◌==◌, List, [], ◌∷◌, map, get_or}
use Rattle.std.specs.Ordering.{nat_cmp, is_lt}
use Rattle.std.specs.Cmp.Lexicographic.{slice_cmp}
use Rattle.std.specs.Str.{bytes_eq}
use Rattle.std.specs.List.{list_any, list_all}

-- A state as it is listed: for each relation the tuples that it holds, for each counter keys with their values.
pub record Listing : Type 0 where
  pub relations : List (List (List ℕ))
  pub counters : List (List (List ℕ × ℤ))

-- A state as it is read. Two states are equal where all readings agree.
pub record Reads : Type 0 where
  pub has : ℕ → List ℕ → Bool
  pub count : ℕ → List ℕ → ℤ

-- whether a tuple is listed
abbrev pub is_in : List ℕ → List (List ℕ) → Bool
is_in t ts = list_any (bytes_eq t) ts

-- the value that is listed at a key, else 0
abbrev pub count_in : List (List ℕ × ℤ) → List ℕ → ℤ
count_in [] q = pos 0
count_in (e ∷ es) q = cond (bytes_eq q e.0) e.1 (count_in es q)

-- what isn't listed reads false or 0
abbrev pub reads : Listing → Reads
reads s =
    record {
      has = λ k t. is_in t (get_or s.relations k []);
      count = λ k t. count_in (get_or s.counters k []) t;
    }

-- every reading false or 0
abbrev pub nothing : Reads
nothing = record { has = λ k t. false; count = λ k t. pos 0 }

-- the readings with one of a relation changed, and with one of a counter
abbrev pub with_has : Reads → ℕ → List ℕ → Bool → Reads
with_has r k t b =
    record { has = λ j q. cond ((j == k) && bytes_eq q t) b (r.has j q); count = r.count }

-- the same readings but for one counter's value at one key
abbrev pub with_count : Reads → ℕ → List ℕ → ℤ → Reads
with_count r k t v =
    record { has = r.has; count = λ j q. cond ((j == k) && bytes_eq q t) v (r.count j q) }

-- the keys that are listed
abbrev pub listed_keys : List (List ℕ × ℤ) → List (List ℕ)
listed_keys es = map (λ e. e.0) es

-- whether a counter lists a key
abbrev pub is_listed : Listing → ℕ → List ℕ → Bool
is_listed s k q = is_in q (listed_keys (get_or s.counters k []))

-- each is before those after it, by the first place at which they differ
abbrev pub is_rising : List (List ℕ) → Bool
is_rising [] = true
is_rising (t ∷ ts) = list_all (λ u. is_lt (slice_cmp nat_cmp t u)) ts && is_rising ts
