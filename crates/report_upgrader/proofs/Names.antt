-- The clauses that lines name, and those that a line names last.
use Rattle.std.proofs.Common.{◌≡◌, ℕ, ◌==◌, Bool, true, false, not, cond, ◌&&◌, ◌||◌, List, [], ◌∷◌, ◌++◌, refl, sym, ◌∙◌, ap, arith}
use Rattle.std.specs.Prelude.{nat_lt, filter}
use Rattle.std.specs.List.{list_all}
use Rattle.std.proofs.lemmas.Bool.{and_parts, and_from}
use Rattle.proof_lines.specs.declared.line.Line.{Line}
use Rattle.proof_lines.specs.declared.line.Line.TheVariants.{Resolve, Farkas, Split, Drop}
use Rattle.proof_lines.specs.Numbers.{stands_in, are_different}
use Rattle.report_upgrader.specs.UpgradedLogs.{rising, is_named, last_named, drop_line, upgraded}

-- ---- two numbers in rising order

pub rising-left : (a b : ℕ) → stands_in (rising a b) a ≡ true
rising-left a b = grind arith

pub rising-right : (a b : ℕ) → stands_in (rising a b) b ≡ true
rising-right a b = grind arith

rising-all : (p : ℕ → Bool) (a b : ℕ) → p a ≡ true → p b ≡ true → list_all p (rising a b) ≡ true
rising-all p a b h k = by_case (a == b) (nat_lt a b)
  where
    by_case : (e l : Bool) → list_all p (cond e (a ∷ []) (cond l (a ∷ b ∷ []) (b ∷ a ∷ []))) ≡ true
    by_case true l = and_from (p a) true h refl
    by_case false true = and_from (p a) (p b && true) h (and_from (p b) true k refl)
    by_case false false = and_from (p b) (p a && true) k (and_from (p a) true h refl)

rising-different : (a b : ℕ) → are_different (rising a b) ≡ true
rising-different a b = grind arith

-- ---- some members of a list

filter-all : (p q : ℕ → Bool) (ns : List ℕ) → list_all p ns ≡ true → list_all p (filter q ns) ≡ true
filter-all p q [] h = refl
filter-all p q (n ∷ ns) h =
    let r = and_parts (p n) (list_all p ns) h in
    by_case (q n) r.0 (filter-all p q ns r.1)
  where
    by_case : (b : Bool) → p n ≡ true → list_all p (filter q ns) ≡ true → list_all p (cond b (n ∷ filter q ns) (filter q ns)) ≡ true
    by_case true h k = and_from (p n) (list_all p (filter q ns)) h k
    by_case false h k = k

filter-stands : (q : ℕ → Bool) (ns : List ℕ) (n : ℕ) → stands_in ns n ≡ false → stands_in (filter q ns) n ≡ false
filter-stands q [] n h = refl
filter-stands q (m ∷ ns) n h = by_case (q m) (first (m == n) (stands_in ns n) h) (filter-stands q ns n (behind (m == n) (stands_in ns n) h))
  where
    first : (a b : Bool) → (a || b) ≡ false → a ≡ false
    first a b h = grind arith

    behind : (a b : Bool) → (a || b) ≡ false → b ≡ false
    behind a b h = grind arith

    by_case : (b : Bool) → (m == n) ≡ false → stands_in (filter q ns) n ≡ false → stands_in (cond b (m ∷ filter q ns) (filter q ns)) n ≡ false
    by_case true e k = ap (λ (b : Bool). b || stands_in (filter q ns) n) e ∙ k
    by_case false e k = k

filter-different : (q : ℕ → Bool) (ns : List ℕ) → are_different ns ≡ true → are_different (filter q ns) ≡ true
filter-different q [] h = refl
filter-different q (n ∷ ns) h =
    let r = and_parts (not (stands_in ns n)) (are_different ns) h in
    by_case (q n) r.0 (filter-different q ns r.1)
  where
    not_in : (b : Bool) → not b ≡ true → b ≡ false
    not_in b h = grind arith

    by_case : (b : Bool) → not (stands_in ns n) ≡ true → are_different (filter q ns) ≡ true → are_different (cond b (n ∷ filter q ns) (filter q ns)) ≡ true
    by_case true h k = and_from (not (stands_in (filter q ns) n)) (are_different (filter q ns)) (ap not (filter-stands q ns n (not_in (stands_in ns n) h))) k
    by_case false h k = k

-- a member that fails the test isn't among them
filter-failing : (q : ℕ → Bool) (ns : List ℕ) (n : ℕ) → q n ≡ false → stands_in (filter q ns) n ≡ false
filter-failing q [] n h = refl
filter-failing q (m ∷ ns) n h = by_case (q m) refl (filter-failing q ns n h)
  where
    other : (e : Bool) → (m == n) ≡ e → q m ≡ true → e ≡ false
    other true e k = absurd (let f : m ≡ n = grind (arith, e) in let g : true ≡ false = sym k ∙ ap q f ∙ h in cc)
    other false e k = refl

    by_case : (b : Bool) → q m ≡ b → stands_in (filter q ns) n ≡ false → stands_in (cond b (m ∷ filter q ns) (filter q ns)) n ≡ false
    by_case true e k = let d = other (m == n) refl e in ap (λ (b : Bool). b || stands_in (filter q ns) n) d ∙ k
    by_case false e k = k

-- ---- the clauses that a Resolve line names last

module _ (left right pivot : ℕ) (ls : List Line) where
  pub last-all : (p : ℕ → Bool) → p left ≡ true → p right ≡ true → list_all p (last_named (Resolve left right pivot) ls) ≡ true
  last-all p h k = filter-all p (λ n. not (is_named ls n)) (rising left right) (rising-all p left right h k)

  pub last-different : are_different (last_named (Resolve left right pivot) ls) ≡ true
  last-different = filter-different (λ n. not (is_named ls n)) (rising left right) (rising-different left right)

  -- what is named later isn't among them
  pub last-later : (n : ℕ) → is_named ls n ≡ true → stands_in (last_named (Resolve left right pivot) ls) n ≡ false
  last-later n h = filter-failing (λ m. not (is_named ls m)) (rising left right) n (ap not h)

-- ---- upgrading twice

-- a Drop line names nothing
named-drop_line : (ns : List ℕ) (ls : List Line) (n : ℕ) → is_named (drop_line ns ++ ls) n ≡ is_named ls n
named-drop_line [] ls n = refl
named-drop_line (m ∷ ns) ls n = refl

upgraded-drop_line : (ns : List ℕ) (ls : List Line) → upgraded (drop_line ns ++ ls) ≡ upgraded ls
upgraded-drop_line [] ls = refl
upgraded-drop_line (m ∷ ns) ls = refl

-- the upgraded log names what the log names
pub named-upgraded : (ls : List Line) (n : ℕ) → is_named (upgraded ls) n ≡ is_named ls n
named-upgraded [] n = refl
named-upgraded (Resolve left right pivot ∷ ls) n =
    ap (λ (b : Bool). stands_in (rising left right) n || b) (named-drop_line (last_named (Resolve left right pivot) ls) (upgraded ls) n ∙ named-upgraded ls n)
named-upgraded (Farkas used steps ∷ ls) n = named-upgraded ls n
named-upgraded (Split place at used steps low high values ∷ ls) n = named-upgraded ls n
named-upgraded (Drop clauses ∷ ls) n = named-upgraded ls n

pub upgraded-twice : (ls : List Line) → upgraded (upgraded ls) ≡ upgraded ls
upgraded-twice [] = refl
upgraded-twice (Resolve left right pivot ∷ ls) =
    let l = Resolve left right pivot in
    let ns = last_named l ls in
    let same : (n : ℕ) → is_named (drop_line ns ++ upgraded ls) n ≡ is_named ls n = λ n. named-drop_line ns (upgraded ls) n ∙ named-upgraded ls n in
    let last : last_named l (drop_line ns ++ upgraded ls) ≡ ns = λ i. filter (λ n. not (same n i)) (rising left right) in
    let rest : upgraded (drop_line ns ++ upgraded ls) ≡ upgraded ls = upgraded-drop_line ns (upgraded ls) ∙ upgraded-twice ls in
    λ i. l ∷ (drop_line (last i) ++ rest i)
upgraded-twice (Farkas used steps ∷ ls) = ap (λ (z : List Line). Farkas used steps ∷ z) (upgraded-twice ls)
upgraded-twice (Split place at used steps low high values ∷ ls) = ap (λ (z : List Line). Split place at used steps low high values ∷ z) (upgraded-twice ls)
upgraded-twice (Drop clauses ∷ ls) = upgraded-twice ls
