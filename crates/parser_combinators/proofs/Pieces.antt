-- Single words, lists with commas, lists in brackets, and what may be missing.
use Rattle.std.proofs.Common.{◌≡◌, ℕ, Bool, true, false, cond, ◌||◌, List, [], ◌∷◌, ◌++◌, Option, Some, None, refl, ap}
use Rattle.std.proofs.lemmas.Bool.{or_from, or_parts}
use Rattle.std.specs.Prelude.{◌==◌}
use Rattle.std.specs.List.{AllByRecursion}
use Rattle.std.specs.Str.{bytes_eq}
use denote.Enum.Bare.{same_true, true_same}
use Rattle.parser_combinators.specs.contracts.token.Key.{the_type}
use Rattle.parser_combinators.specs.declared.token.Key.{Key}
use Rattle.parser_combinators.specs.declared.token.Key.TheVariants as keys
use Rattle.parser_combinators.specs.declared.token.Symbol.{Symbol}
use Rattle.parser_combinators.specs.declared.token.Symbol.TheVariants as symbol
use Rattle.parser_combinators.specs.declared.token.Token.{Token}
use Rattle.parser_combinators.specs.declared.token.Kind.{Kind}
use Rattle.parser_combinators.specs.declared.token.Kind.TheVariants as kind
use Rattle.parser_combinators.specs.declared.token.Version.{Version}
use Rattle.parser_combinators.specs.Words.{next, kind_of, Spelt, plain, Matches, shared_text, exclusive_text, observes_text, name_kind, number_kind, is_key, is_name, is_number, name_of, value_of, key, sign, each, listed, group, AllSame, NotEmpty}
use Rattle.parser_combinators.specs.Read.{Read, mapped, both, second, cons, key_at, sign_at, one_more, listed_at, list_of, between, group_at}
use Rattle.parser_combinators.proofs.Part.{Part, Joins, both_part, then_part, mapped_part}
use Rattle.parser_combinators.proofs.Choice.{word_part, perhaps_part, option_same, option_of}
use Rattle.parser_combinators.proofs.Many.{many_part, list_on, list_on_tail, list_on_false}

-- ---- kinds of words

pub name_kind_cases : (P : Kind → Type 0) (text : List ℕ) → P kind.Shared → P kind.Exclusive → P kind.Observes → P kind.Unnamed → P kind.Name → P (name_kind text)
name_kind_cases P text s e o u n = by (bytes_eq text shared_text) (bytes_eq text exclusive_text) (bytes_eq text observes_text) _
  where
    by : (b c d f : Bool) → P (cond b kind.Shared (cond c kind.Exclusive (cond d kind.Observes (cond f kind.Unnamed kind.Name))))
    by true c d f = s
    by false true d f = e
    by false false true f = o
    by false false false true = u
    by false false false false = n

pub number_kind_cases : (P : Kind → Type 0) (n : ℕ) → P kind.One → P kind.Two → P kind.Number → P (number_kind n)
number_kind_cases P n a b c = by (n == 1) (n == 2)
  where
    by : (x y : Bool) → P (cond x kind.One (cond y kind.Two kind.Number))
    by true y = a
    by false true = b
    by false false = c

pub symbol_key : (k : Key) (s : Symbol) → is_key k (kind_of s) ≡ true → s ≡ symbol.Key k
symbol_key k (symbol.Name text) h = name_kind_cases (λ x. is_key k x ≡ true → symbol.Name text ≡ symbol.Key k) text (λ e. absurd cc) (λ e. absurd cc) (λ e. absurd cc) (λ e. absurd cc) (λ e. absurd cc) h
symbol_key k (symbol.Number n) h = number_kind_cases (λ x. is_key k x ≡ true → symbol.Number n ≡ symbol.Key k) n (λ e. absurd cc) (λ e. absurd cc) (λ e. absurd cc) h
symbol_key k (symbol.Key j) h = ap symbol.Key (same_true the_type tt j k h)

pub symbol_name : (v : Version) (s : Symbol) → is_name v (kind_of s) ≡ true → s ≡ symbol.Name (name_of s)
symbol_name v (symbol.Name text) h = refl
symbol_name v (symbol.Number n) h = number_kind_cases (λ x. is_name v x ≡ true → symbol.Number n ≡ symbol.Name []) n (λ e. absurd cc) (λ e. absurd cc) (λ e. absurd cc) h
symbol_name v (symbol.Key j) h = absurd cc

pub symbol_number : (s : Symbol) → is_number (kind_of s) ≡ true → s ≡ symbol.Number (value_of s)
symbol_number (symbol.Name text) h = name_kind_cases (λ x. is_number x ≡ true → symbol.Name text ≡ symbol.Number 0) text (λ e. absurd cc) (λ e. absurd cc) (λ e. absurd cc) (λ e. absurd cc) (λ e. absurd cc) h
symbol_number (symbol.Number n) h = refl
symbol_number (symbol.Key j) h = absurd cc

pub number_not_key : (k : Key) (n : ℕ) → is_key k (number_kind n) ≡ false
number_not_key k n = number_kind_cases (λ x. is_key k x ≡ false) n refl refl refl

pub name_not_key : (k : Key) (text : List ℕ) → is_key k (name_kind text) ≡ false
name_not_key k text = name_kind_cases (λ x. is_key k x ≡ false) text refl refl refl refl refl

pub name_not_number : (text : List ℕ) → is_number (name_kind text) ≡ false
name_not_number text = name_kind_cases (λ x. is_number x ≡ false) text refl refl refl refl refl

pub number_not_name : (v : Version) (n : ℕ) → is_name v (number_kind n) ≡ false
number_not_name v n = number_kind_cases (λ x. is_name v x ≡ false) n refl refl refl

pub number_is : (n : ℕ) → is_number (number_kind n) ≡ true
number_is n = number_kind_cases (λ x. is_number x ≡ true) n refl refl refl

pub key_itself : (k : Key) → is_key k (kind.Key k) ≡ true
key_itself k = true_same the_type k k refl

-- ---- single words

pub key_part : (k : Key) → Part (λ a b. Unit {0}) (λ w. Unit {0}) (λ w. key k w ∷ []) (key_at k) (λ a j. false)
key_part k = word_part (is_key k) (λ t. t.word) (λ w. symbol.Key k) (λ w. w ∷ []) (record {
  single = λ a f. refl;
  is_right = λ a f. key_itself k;
  symbol = λ t h. symbol_key k t.symbol h;
  claims = λ t. (refl, tt);
  fits = λ t h. tt;
  same = λ a b f g e. tt;
  not_end = refl;
  some = 0;
  some_fits = tt;
  some_word = refl;
})

pub sign_part : (k : Key) → Part (λ (a b : Unit {0}). Unit {0}) (λ w. Unit {0}) (λ w. sign k ∷ []) (sign_at k) (λ a j. false)
sign_part k = word_part (is_key k) (λ t. tt) (λ w. symbol.Key k) (λ w. []) (record {
  single = λ a f. refl;
  is_right = λ a f. key_itself k;
  symbol = λ t h. symbol_key k t.symbol h;
  claims = λ t. tt;
  fits = λ t h. tt;
  same = λ a b f g e. tt;
  not_end = refl;
  some = tt;
  some_fits = tt;
  some_word = refl;
})

-- ---- what may be missing, after something

-- how one and perhaps another may go on
abbrev pub perhaps_on : {A B : Type 0} → (A → Kind → Bool) → (Kind → Bool) → (B → Kind → Bool) → A × Option B → Kind → Bool
perhaps_on oA starts oB (a, None) k = oA a k || starts k
perhaps_on oA starts oB (a, Some b) k = oB b k

pub perhaps_joins : {A B : Type 0} {FA : A → Type 0} {pB : B → List Spelt} {oA : A → Kind → Bool} {FB : B → Type 0} {oB : B → Kind → Bool} (starts : Kind → Bool)
    → ((a : A) (b : B) (u : List Symbol) → FA a → FB b → oA a (next (plain (pB b) ++ u)) ≡ false)
    → Joins FA oA (option_of (Unit {0}) FB) (option_of [] pB) (option_of starts oB) (perhaps_on oA starts oB)
perhaps_joins {A} {B} {FA} {pB} {oA} {FB} {oB} starts apart = record { second = later; first = first; end = end }
  where
    later : (a : A) (b : Option B) (k : Kind) → perhaps_on oA starts oB (a, b) k ≡ false → option_of starts oB b k ≡ false
    later a None k h = (or_parts (oA a k) (starts k) h).1
    later a (Some b) k h = h

    first : (a : A) (b : Option B) (u : List Symbol) → FA a → option_of (Unit {0}) FB b → perhaps_on oA starts oB (a, b) (next u) ≡ false → oA a (next (plain (option_of [] pB b) ++ u)) ≡ false
    first a None u f g h = (or_parts (oA a (next u)) (starts (next u)) h).0
    first a (Some b) u f g h = apart a b u f g

    end : (a : A) (b : Option B) (u : List Symbol) → oA a (next (plain (option_of [] pB b) ++ u)) ≡ false → option_of starts oB b (next u) ≡ false → perhaps_on oA starts oB (a, b) (next u) ≡ false
    end a None u h k = or_from (oA a (next u)) (starts (next u)) h k
    end a (Some b) u h k = k

-- ---- lists with commas

-- how a list in brackets, or none, may go on
abbrev pub group_on : {A : Type 0} → List A → Kind → Bool
group_on [] k = is_key keys.Open k
group_on (x ∷ xs) k = false

pub group_off : {A : Type 0} (xs : List A) (k : Kind) → is_key keys.Open k ≡ false → group_on xs k ≡ false
group_off [] k h = h
group_off (x ∷ xs) k h = refl

module _ {A : Type 0} {SA : A → A → Type 0} {FA : A → Type 0} {pA : A → List Spelt} {rA : List Token → Read A} {oA : A → Kind → Bool} where
  pub one_more_part : Part SA FA pA rA oA → Part SA FA (λ a. sign keys.Comma ∷ pA a) (one_more rA) oA
  one_more_part P = mapped_part second (λ a. (tt, a)) (then_part (sign_part keys.Comma) P (λ a b u f g h. refl)) (record {
    moves = λ a ws rest f h. h;
    words = λ a f. refl;
    fits = λ a f. f.1;
    on_to = λ a k f h. h;
    back_words = λ b f. refl;
    back_fits = λ b f. (tt, f);
    back_on = λ b k f h. h;
    same = λ b c f g h. h.1;
  })

  pub listed_part : Part SA FA pA rA oA → ((a : A) → oA a (kind.Key keys.Comma) ≡ false) → Part (AllSame SA) (λ xs. NotEmpty xs × AllByRecursion FA xs) (listed pA) (listed_at rA) (list_on (is_key keys.Comma) oA)
  listed_part P comma = mapped_part cons back (both_part (λ x. list_on (is_key keys.Comma) oA (x.0 ∷ x.1)) P (many_part (is_key keys.Comma) (one_more_part P) (λ a u f. refl) (λ a b u f g. comma a) refl) (record {
    second = λ a b k h. list_on_tail (is_key keys.Comma) oA a b k h;
    first = first;
    end = end;
  })) (record {
    moves = λ a ws rest f h. h;
    words = λ a f. refl;
    fits = λ a f. (tt, f);
    on_to = λ a k f h. h;
    back_words = back_words;
    back_fits = back_fits;
    back_on = back_on;
    same = same;
  })
    where
      back : List A → A × List A
      back [] = (P.some, [])
      back (x ∷ xs) = (x, xs)

      first : (a : A) (b : List A) (u : List Symbol) → FA a → AllByRecursion FA b → list_on (is_key keys.Comma) oA (a ∷ b) (next u) ≡ false → oA a (next (plain (each (λ y. sign keys.Comma ∷ pA y) b) ++ u)) ≡ false
      first a [] u f g h = (or_parts (oA a (next u)) (is_key keys.Comma (next u)) h).0
      first a (y ∷ ys) u f g h = comma a

      end : (a : A) (b : List A) (u : List Symbol) → oA a (next (plain (each (λ y. sign keys.Comma ∷ pA y) b) ++ u)) ≡ false → list_on (is_key keys.Comma) oA b (next u) ≡ false → list_on (is_key keys.Comma) oA (a ∷ b) (next u) ≡ false
      end a [] u h k = or_from (oA a (next u)) (is_key keys.Comma (next u)) h k
      end a (y ∷ ys) u h k = k

      back_words : (b : List A) → NotEmpty b × AllByRecursion FA b → plain (pA (back b).0 ++ each (λ y. sign keys.Comma ∷ pA y) (back b).1) ≡ plain (listed pA b)
      back_words [] f = absurd f.0
      back_words (x ∷ xs) f = refl

      back_fits : (b : List A) → NotEmpty b × AllByRecursion FA b → FA (back b).0 × AllByRecursion FA (back b).1
      back_fits [] f = absurd f.0
      back_fits (x ∷ xs) f = f.1

      back_on : (b : List A) (k : Kind) → NotEmpty b × AllByRecursion FA b → list_on (is_key keys.Comma) oA b k ≡ false → list_on (is_key keys.Comma) oA ((back b).0 ∷ (back b).1) k ≡ false
      back_on [] k f h = absurd f.0
      back_on (x ∷ xs) k f h = h

      same : (b c : List A) → NotEmpty b × AllByRecursion FA b → NotEmpty c × AllByRecursion FA c → SA (back b).0 (back c).0 × AllSame SA (back b).1 (back c).1 → AllSame SA b c
      same [] c f g h = absurd f.0
      same (x ∷ xs) [] f g h = absurd g.0
      same (x ∷ xs) (y ∷ ys) f g h = h

  -- ---- lists in brackets

  pub group_part : Part SA FA pA rA oA → ((a : A) → oA a (kind.Key keys.Comma) ≡ false) → ((a : A) → oA a (kind.Key keys.Close) ≡ false) → Part (AllSame SA) (AllByRecursion FA) (group pA) (group_at rA) group_on
  group_part P comma close = mapped_part list_of back (perhaps_part (is_key keys.Open) inner (λ a u f. refl)) (record {
    moves = moves;
    words = words;
    fits = fits;
    on_to = on_to;
    back_words = back_words;
    back_fits = back_fits;
    back_on = back_on;
    same = same;
  })
    where
      inner : Part (AllSame SA) (λ ms. NotEmpty ms × AllByRecursion FA ms) (λ ms. sign keys.Open ∷ (listed pA ms ++ sign keys.Close ∷ [])) (mapped between (both (sign_at keys.Open) (both (listed_at rA) (sign_at keys.Close)))) (λ a k. false)
      inner = mapped_part between (λ a. (tt, (a, tt))) (then_part (sign_part keys.Open) (then_part (listed_part P comma) (sign_part keys.Close) (λ a b u f g h. list_on_false (is_key keys.Comma) oA a (kind.Key keys.Close) refl close)) (λ a b u f g h. refl)) (record {
        moves = λ a ws rest f h. h;
        words = λ a f. refl;
        fits = λ a f. f.1.0;
        on_to = λ a k f h. refl;
        back_words = λ b f. refl;
        back_fits = λ b f. (tt, (f, tt));
        back_on = λ b k f h. refl;
        same = λ b c f g h. h.1.0;
      })

      back : List A → Option (List A)
      back [] = None
      back (m ∷ ms) = Some (m ∷ ms)

      moves : (a : Option (List A)) (ws rest : List Token) → option_of (Unit {0}) (λ ms. NotEmpty ms × AllByRecursion FA ms) a → Matches (option_of [] (λ ms. sign keys.Open ∷ (listed pA ms ++ sign keys.Close ∷ [])) a) ws rest → Matches (group pA (list_of a)) ws rest
      moves None ws rest f h = h
      moves (Some []) ws rest f h = absurd f.0
      moves (Some (m ∷ ms)) ws rest f h = h

      words : (a : Option (List A)) → option_of (Unit {0}) (λ ms. NotEmpty ms × AllByRecursion FA ms) a → plain (group pA (list_of a)) ≡ plain (option_of [] (λ ms. sign keys.Open ∷ (listed pA ms ++ sign keys.Close ∷ [])) a)
      words None f = refl
      words (Some []) f = absurd f.0
      words (Some (m ∷ ms)) f = refl

      fits : (a : Option (List A)) → option_of (Unit {0}) (λ ms. NotEmpty ms × AllByRecursion FA ms) a → AllByRecursion FA (list_of a)
      fits None f = tt
      fits (Some ms) f = f.1

      on_to : (a : Option (List A)) (k : Kind) → option_of (Unit {0}) (λ ms. NotEmpty ms × AllByRecursion FA ms) a → option_of (is_key keys.Open) (λ a k. false) a k ≡ false → group_on (list_of a) k ≡ false
      on_to None k f h = h
      on_to (Some []) k f h = absurd f.0
      on_to (Some (m ∷ ms)) k f h = refl

      back_words : (b : List A) → AllByRecursion FA b → plain (option_of [] (λ ms. sign keys.Open ∷ (listed pA ms ++ sign keys.Close ∷ [])) (back b)) ≡ plain (group pA b)
      back_words [] f = refl
      back_words (m ∷ ms) f = refl

      back_fits : (b : List A) → AllByRecursion FA b → option_of (Unit {0}) (λ ms. NotEmpty ms × AllByRecursion FA ms) (back b)
      back_fits [] f = tt
      back_fits (m ∷ ms) f = (tt, f)

      back_on : (b : List A) (k : Kind) → AllByRecursion FA b → group_on b k ≡ false → option_of (is_key keys.Open) (λ a k. false) (back b) k ≡ false
      back_on [] k f h = h
      back_on (m ∷ ms) k f h = refl

      same : (b c : List A) → AllByRecursion FA b → AllByRecursion FA c → option_same (AllSame SA) (back b) (back c) → AllSame SA b c
      same [] [] f g h = tt
      same [] (y ∷ ys) f g h = h
      same (x ∷ xs) [] f g h = h
      same (x ∷ xs) (y ∷ ys) f g h = h
