-- What a log of some clauses is over the whole problem: clauses and atoms have other numbers there.
use Rattle.std.specs.Prelude.{◌≡◌, ℕ, suc, ◌+◌, ◌-◌, ◌<◌, nat_lt, Bool, true, false, cond, List, [], length, map, slice_get, slice_index_or, Some}
use Rattle.proof_lines.specs.declared.clause.Lit.{Lit}
use Rattle.proof_lines.specs.declared.problem.AtomKind.{AtomKind}
use Rattle.proof_lines.specs.declared.line.Line.{Line}
use Rattle.proof_lines.specs.declared.line.Line.TheVariants.{Resolve, Farkas, Split, Drop}
use Rattle.proof_lines.specs.Clauses.{lit_of}
use Rattle.proof_lines.specs.Problems.{PlainProblem}

-- the number of a part's member in the whole: that of a list, or behind the `whole` others where it is behind the list
abbrev pub number_in : List ℕ → ℕ → ℕ → ℕ
number_in ns whole i = cond (nat_lt i (length ns)) (slice_index_or ns i 0) ((i - length ns) + whole)

-- a literal with the number that its atom has
abbrev pub lit_by : (ℕ → ℕ) → Lit → Lit
lit_by g l = lit_of (g l.atom) l.positive

-- a line that resolves, or one of rows, with the numbers that clauses and atoms have
abbrev pub line_by : (ℕ → ℕ) → (ℕ → ℕ) → Line → Line
line_by f g (Resolve left right pivot) = Resolve (f left) (f right) (g pivot)
line_by f g (Farkas used steps) = Farkas (map (lit_by g) used) steps
line_by f g (Split place at used steps low high values) = Split place at used steps low high values
line_by f g (Drop clauses) = Drop clauses

-- a line that resolves, or a line of rows
abbrev pub is_plain_line : Line → Bool
is_plain_line (Resolve left right pivot) = true
is_plain_line (Farkas used steps) = true
is_plain_line (Split place at used steps low high values) = false
is_plain_line (Drop clauses) = false

-- Atoms and clauses of a problem are those of another one, under other numbers: no two atoms have one number, an atom stands for what
-- it stands for there, and a clause is the one of its number there. Further clauses come behind those of the problem there as here.
pub record IsRenamed (f g : ℕ → ℕ) (q p : PlainProblem) : Type 0 where
  pub kinds : (a : ℕ) → slice_get p.atoms (g a) ≡ slice_get q.atoms a
  pub different : (a b : ℕ) → g a ≡ g b → a ≡ b
  pub clauses : (i : ℕ) (c : List Lit) → slice_get q.clauses i ≡ Some c → slice_get p.clauses (f i) ≡ Some (map (lit_by g) c)
  pub further : (j : ℕ) → f (length q.clauses + j) ≡ length p.clauses + j

-- Some clauses of a problem, as a problem of their own: the numbers of the clauses and of the atoms are these.
abbrev pub IsPart : PlainProblem → PlainProblem → List ℕ → List ℕ → Type 0
IsPart q p clauses atoms = IsRenamed (number_in clauses (length p.clauses)) (number_in atoms (length p.atoms)) q p

-- the line of a part, with the numbers of the whole
abbrev pub line_in : PlainProblem → List ℕ → List ℕ → Line → Line
line_in p clauses atoms l = line_by (number_in clauses (length p.clauses)) (number_in atoms (length p.atoms)) l

-- ---- what is tested of a part

-- the first n numbers are below an end, and each is below the next one
abbrev pub Rise : ℕ → List ℕ → ℕ → Type 0
Rise n ns end = (i : ℕ) → i < n
    → (slice_index_or ns i 0 < end) × (suc i < length ns → slice_index_or ns i 0 < slice_index_or ns (suc i) 0)

-- the first n atoms stand for what those with these numbers stand for
abbrev pub HaveKinds : ℕ → List AtomKind → List AtomKind → List ℕ → Type 0
HaveKinds n small large atoms = (i : ℕ) → i < n → slice_get large (slice_index_or atoms i 0) ≡ slice_get small i

-- the first n literals are these ones, with the numbers that their atoms have
abbrev pub HaveLiterals : (ℕ → ℕ) → ℕ → List Lit → List Lit → Type 0
HaveLiterals g n small large =
    (i : ℕ) → i < n → slice_index_or large i (lit_of 0 false) ≡ lit_by g (slice_index_or small i (lit_of 0 false))

-- the first n clauses are those with these numbers
abbrev pub HaveClauses : (ℕ → ℕ) → ℕ → List (List Lit) → List (List Lit) → List ℕ → Type 0
HaveClauses g n small large clauses =
    (i : ℕ) → i < n → slice_get large (slice_index_or clauses i 0) ≡ Some (map (lit_by g) (slice_index_or small i []))
