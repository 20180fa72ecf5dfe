-- The upgraded log: each clause is dropped behind the last line that names it.
use Rattle.std.specs.Prelude.{ℕ, ◌==◌, nat_lt, Bool, not, if◌then◌else◌, List, [], ◌∷◌, ◌++◌, filter}
use Rattle.std.specs.List.{list_any}
use Rattle.proof_lines.specs.declared.line.Line.{Line}
use Rattle.proof_lines.specs.declared.line.Line.TheVariants.{Resolve, Farkas, Split, Drop}
use Rattle.proof_lines.specs.Numbers.{stands_in}

-- two numbers in rising order, each once
abbrev pub rising : ℕ → ℕ → List ℕ
rising a b = if a == b then a ∷ [] else (if nat_lt a b then a ∷ b ∷ [] else b ∷ a ∷ [])

-- The clauses that a line names, in rising order, each once: the two of a Resolve line. The other lines that give something name
-- literals and rows, and a Drop line lets clauses go.
abbrev pub named : Line → List ℕ
named (Resolve left right pivot) = rising left right
named (Farkas used steps) = []
named (Split place at used steps low high values) = []
named (Drop clauses) = []

-- whether some of these lines names a clause
abbrev pub is_named : List Line → ℕ → Bool
is_named ls n = list_any (λ l. stands_in (named l) n) ls

-- the clauses that a line names and none of the later lines does
abbrev pub last_named : Line → List Line → List ℕ
last_named l later = filter (λ n. not (is_named later n)) (named l)

-- a Drop line of these clauses, where there are some
abbrev pub drop_line : List ℕ → List Line
drop_line [] = []
drop_line (n ∷ ns) = Drop (n ∷ ns) ∷ []

-- a line of the log that isn't a Drop line
abbrev pub unless_drop : Line → List Line
unless_drop (Resolve left right pivot) = Resolve left right pivot ∷ []
unless_drop (Farkas used steps) = Farkas used steps ∷ []
unless_drop (Split place at used steps low high values) =
    Split place at used steps low high values ∷ []
unless_drop (Drop clauses) = []

-- THE UPGRADED LOG: the log without its Drop lines, with a Drop line behind each line that names clauses which no later line
-- names. It holds these clauses, in rising order, each once.
abbrev pub upgraded : List Line → List Line
upgraded [] = []
upgraded (l ∷ ls) = unless_drop l ++ (drop_line (last_named l ls) ++ upgraded ls)
