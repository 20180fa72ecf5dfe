-- Formats: how a value is written as words, and how it is read from the front of words. The format of a line is put together from
-- formats of its parts, and gives the writer and the reader.
use Rattle.std.specs.Prelude.{◌≡◌, ℕ, zero, suc, Bool, true, false, ◌==◌, nat_le, nat_lt, ◌&&◌, if◌then◌else◌, List, [], ◌∷◌, ◌++◌, length, drop, get_or, Option, Some, None, ◌⊎◌, ℤ, unsigned_abs}
use Rattle.std.specs.Fmt.{decimal, signed_decimal}
use Rattle.std.proofs.Common.{inl, inr}
use Rattle.std.specs.List.{list_all, flat_map}
use Rattle.std.specs.Str.{bytes_eq}
use Rattle.word_cut.specs.Whole.{size_read, read_of}
use Rattle.report_lines.specs.Words.{parts, joined, is_part}

infixl 10 ◌>>=◌
-- goes on with what was read, or stops where nothing was
abbrev pub ◌>>=◌ : {A B : Type 0} → Option A → (A → Option B) → Option B
(Some x) >>= f = f x
None >>= f = None

-- a value and the words behind it
abbrev pub Read : Type 0 → Type 0
Read A = Option (A × List (List ℕ))

-- what was read, seen as another value
abbrev pub mapped : {A B : Type 0} → (A → B) → Read A → Read B
mapped to r = r >>= λ x. Some (to x.0, x.1)

-- A format: the writer of a value, its reader, and the values that it holds.
pub record Format (A : Type 0) : Type 0 where
  -- the words of a value
  pub put : A → List (List ℕ)
  -- the value at the front of words
  pub get : List (List ℕ) → Read A
  -- which values the format holds
  pub fits : A → Bool

-- ---- no word, and one word

-- no words
abbrev pub nothing : Format (Unit {0})
nothing = record { put = λ u. []; get = λ ws. Some (tt, ws); fits = λ u. true }

-- reads this word
abbrev pub key_at : List ℕ → List (List ℕ) → Read (Unit {0})
key_at k [] = None
key_at k (w ∷ ws) = if bytes_eq w k then Some (tt, ws) else None

-- this word
abbrev pub key : List ℕ → Format (Unit {0})
key k = record { put = λ u. k ∷ []; get = key_at k; fits = λ u. true }

-- the value of one word, if it is one
abbrev pub word_at : {A : Type 0} → (List ℕ → Option A) → (A → Bool) → List (List ℕ) → Read A
word_at value fits [] = None
word_at value fits (w ∷ ws) = value w >>= λ a. if fits a then Some (a, ws) else None

-- a value that one word spells
abbrev pub word : {A : Type 0} → (A → List ℕ) → (List ℕ → Option A) → (A → Bool) → Format A
word text value fits = record { put = λ a. text a ∷ []; get = word_at value fits; fits = fits }

-- a number up to a bound
abbrev pub number : ℕ → Format ℕ
number most = word decimal size_read (λ n. nat_le n most)

-- a whole number up to a size
abbrev pub whole : ℕ → Format ℤ
whole most = word signed_decimal read_of (λ z. nat_le (unsigned_abs z) most)

-- the place of a word in a list whose first member is counted so
abbrev pub place_from : ℕ → List (List ℕ) → List ℕ → Option ℕ
place_from i [] w = None
place_from i (n ∷ names) w = if bytes_eq w n then Some i else place_from (suc i) names w

-- one of some names, by its place, from a place on
abbrev pub among : ℕ → List (List ℕ) → Format ℕ
among from names =
    word (λ k. get_or names k []) (place_from from (drop from names))
    (λ k. nat_le from k && nat_lt k (length names))

-- ---- words behind one another

-- one, and then one whose format it decides
abbrev pub chain : {A B : Type 0} → Format A → (A → Format B) → Format (A × B)
chain f g = record {
  put = λ x. f.put x.0 ++ (g x.0).put x.1;
  get = λ ws. f.get ws >>= λ x. (g x.0).get x.1 >>= λ y. Some ((x.0, y.0), y.1);
  fits = λ x. f.fits x.0 && (g x.0).fits x.1;
}

-- a value, and then another
abbrev pub both : {A B : Type 0} → Format A → Format B → Format (A × B)
both f g = chain f (λ a. g)

-- a word, and then a value
abbrev pub behind : {A : Type 0} → List ℕ → Format A → Format A
behind k f = record {
  put = λ a. k ∷ f.put a;
  get = λ ws. key_at k ws >>= λ x. f.get x.1;
  fits = f.fits;
}

-- reads these words
abbrev pub these_at : List (List ℕ) → List (List ℕ) → Read (Unit {0})
these_at [] ws = Some (tt, ws)
these_at (k ∷ ks) ws = key_at k ws >>= λ x. these_at ks x.1

-- these words
abbrev pub these : List (List ℕ) → Format (Unit {0})
these ks = record { put = λ u. ks; get = these_at ks; fits = λ u. true }

-- ---- values seen as others

-- a value, seen as another
abbrev pub seen : {A B : Type 0} → (A → B) → (B → A) → Format A → Format B
seen to from f = record {
  put = λ b. f.put (from b);
  get = λ ws. f.get ws >>= λ x. Some (to x.0, x.1);
  fits = λ b. f.fits (from b);
}

-- where a test holds of the value
abbrev pub only : {A : Type 0} → (A → Bool) → Format A → Format A
only test f = record {
  put = f.put;
  get = λ ws. f.get ws >>= λ x. if test x.0 then Some x else None;
  fits = λ a. f.fits a && test a;
}

-- one case of a type, and the value in it
pub record Case (B A : Type 0) : Type 0 where
  pub to : A → B
  pub from : B → Option A

-- the words of a value that is there
abbrev pub put_some : {A : Type 0} → Format A → Option A → List (List ℕ)
put_some f None = []
put_some f (Some a) = f.put a

-- a value is there, and fits
abbrev pub fits_some : {A : Type 0} → Format A → Option A → Bool
fits_some f None = false
fits_some f (Some a) = f.fits a

-- the values of one case
abbrev pub case : {A B : Type 0} → Case B A → Format A → Format B
case c f = record {
  put = λ b. put_some f (c.from b);
  get = λ ws. f.get ws >>= λ x. Some (c.to x.0, x.1);
  fits = λ b. fits_some f (c.from b);
}

-- no value
abbrev pub none : {A : Type 0} → Format A
none = record { put = λ a. []; get = λ ws. None; fits = λ a. false }

-- ---- one or the other

-- reads the one form where this word stands, and else the other
abbrev pub or_at : {A B : Type 0} → List ℕ → Format A → Format B → List (List ℕ) → Read (A ⊎ B)
or_at k f g [] = g.get [] >>= λ x. Some (inr x.0, x.1)
or_at k f g (w ∷ ws) =
    if bytes_eq w k then (f.get ws >>= λ x. Some (inl x.0, x.1))
    else (g.get (w ∷ ws) >>= λ x. Some (inr x.0, x.1))

-- writes either form
abbrev pub or_put : {A B : Type 0} → List ℕ → Format A → Format B → A ⊎ B → List (List ℕ)
or_put k f g (inl a) = k ∷ f.put a
or_put k f g (inr b) = g.put b

-- either form fits
abbrev pub or_fits : {A B : Type 0} → Format A → Format B → A ⊎ B → Bool
or_fits f g (inl a) = f.fits a
or_fits f g (inr b) = g.fits b

-- a value behind a word, or else another
abbrev pub or_else : {A B : Type 0} → List ℕ → Format A → Format B → Format (A ⊎ B)
or_else k f g = record { put = or_put k f g; get = or_at k f g; fits = or_fits f g }

-- ---- lists

-- what is read from words: this many values of a format, one after the other
unfoldable pub times_at : {A : Type 0} → Format A → ℕ → List (List ℕ) → Read (List A)
times_at f zero ws = Some ([], ws)
times_at f (suc n) ws = f.get ws >>= λ x. times_at f n x.1 >>= λ y. Some (x.0 ∷ y.0, y.1)

-- this many values of a format, one after the other
abbrev pub times : {A : Type 0} → Format A → ℕ → Format (List A)
times f n =
    record {
      put = flat_map f.put;
      get = times_at f n;
      fits = λ xs. (length xs == n) && list_all f.fits xs;
    }

-- their number, and then that many
abbrev pub counted : {A : Type 0} → ℕ → Format A → Format (List A)
counted most f = record {
  put = λ xs. decimal (length xs) ∷ flat_map f.put xs;
  get = λ ws. (number most).get ws >>= λ n. times_at f n.0 n.1;
  fits = λ xs. nat_le (length xs) most && list_all f.fits xs;
}

-- one of each of these, in their order
abbrev pub list_put : {K A : Type 0} → (K → Format A) → List K → List A → List (List ℕ)
list_put f [] xs = []
list_put f (k ∷ ks) [] = []
list_put f (k ∷ ks) (x ∷ xs) = (f k).put x ++ list_put f ks xs

-- reads one value for each of a list
abbrev pub list_at : {K A : Type 0} → (K → Format A) → List K → List (List ℕ) → Read (List A)
list_at f [] ws = Some ([], ws)
list_at f (k ∷ ks) ws = (f k).get ws >>= λ x. list_at f ks x.1 >>= λ y. Some (x.0 ∷ y.0, y.1)

-- as many values as the list has, each of which fits
abbrev pub list_fits : {K A : Type 0} → (K → Format A) → List K → List A → Bool
list_fits f [] [] = true
list_fits f [] (x ∷ xs) = false
list_fits f (k ∷ ks) [] = false
list_fits f (k ∷ ks) (x ∷ xs) = (f k).fits x && list_fits f ks xs

-- one value for each of a list
abbrev pub each_of : {K A : Type 0} → (K → Format A) → List K → Format (List A)
each_of f ks = record { put = list_put f ks; get = list_at f ks; fits = list_fits f ks }

-- ---- a line

-- no word is left
abbrev pub is_empty : List (List ℕ) → Bool
is_empty [] = true
is_empty (w ∷ ws) = false

-- the value, where no word is left
abbrev pub whole_of : {A : Type 0} → Read A → Option A
whole_of r = r >>= λ x. if is_empty x.1 then Some x.0 else None

-- the value that words are, all of them
unfoldable pub read : {A : Type 0} → Format A → List (List ℕ) → Option A
read f ws = whole_of (f.get ws)

-- ---- what a format promises

-- What is read is written so, and fits; and what fits is read again, whatever stands behind it.
pub record IsExact {A : Type 0} (f : Format A) : Type 0 where
  pub ok : (ws : List (List ℕ)) (a : A) (rest : List (List ℕ)) → f.get ws ≡ Some (a, rest)
      → (ws ≡ f.put a ++ rest) × (f.fits a ≡ true)
  pub again : (a : A) (rest : List (List ℕ)) → f.fits a ≡ true
      → f.get (f.put a ++ rest) ≡ Some (a, rest)

-- What is written are words without a space and without a line feed.
pub record IsClean {A : Type 0} (f : Format A) : Type 0 where
  pub parts : (a : A) → f.fits a ≡ true → list_all is_part (f.put a) ≡ true

-- A line that fits is read as the value that it was written from, and a line that is read is the one that is written.
pub record IsLine {A : Type 0} (f : Format A) : Type 0 where
  pub written : (a : A) → f.fits a ≡ true → read f (parts (joined (f.put a))) ≡ Some a
  pub only_that : (line : List ℕ) (a : A) → read f (parts line) ≡ Some a
      → (line ≡ joined (f.put a)) × (f.fits a ≡ true)
