-- The lines that stand once in a report: the title, the budget, the number of obligations, the summary and the last word.
use Rattle.std.specs.Prelude.{ℕ, nat_le, ◌⊎◌, codes}
use Rattle.std.proofs.Common.{inl, inr}
use Rattle.report_lines.specs.declared.head.Tally.{Tally}
use Rattle.report_lines.specs.declared.head.Outcome.{Outcome}
use Rattle.report_lines.specs.declared.head.Outcome.TheVariants as outcomes
use Rattle.report_lines.specs.Formats.{Format, nothing, key, number, both, behind, seen, only, or_else}
use Rattle.report_lines.specs.Fields.{count_format}

-- `cise report N`, with the version, 1 or 2
abbrev pub title_format : Format ℕ
title_format = behind (codes "cise") (behind (codes "report") (only (nat_le 1) (number 2)))

-- the most lines that a log may be allowed
abbrev pub most_budget : ℕ
most_budget = 1000000

-- `budget N`, with the most lines of a log, at least 1
abbrev pub budget_format : Format ℕ
budget_format = behind (codes "budget") (only (nat_le 1) (number most_budget))

-- `obligations M`, with the number of obligations
abbrev pub obligations_format : Format ℕ
obligations_format = behind (codes "obligations") count_format

-- `summary proved P refuted R undecided U`, with the numbers of verdicts
abbrev pub to_tally : ℕ × (ℕ × ℕ) → Tally
to_tally x = record { proved = x.0; refuted = x.1.0; undecided = x.1.1 }

-- the counts as numbers
abbrev pub of_tally : Tally → ℕ × (ℕ × ℕ)
of_tally t = (t.proved, (t.refuted, t.undecided))

-- the counts of verdicts, each with its word
abbrev pub counts_format : Format (ℕ × (ℕ × ℕ))
counts_format =
    behind (codes "proved") (both count_format
    (behind (codes "refuted") (both count_format (behind (codes "undecided") count_format))))

-- `summary` and the counts
abbrev pub summary_format : Format Tally
summary_format = behind (codes "summary") (seen to_tally of_tally counts_format)

-- `accepted`, `rejected` or `undecided`
abbrev pub to_outcome : Unit {0} ⊎ (Unit {0} ⊎ Unit {0}) → Outcome
to_outcome (inl u) = outcomes.Accepted
to_outcome (inr (inl u)) = outcomes.Rejected
to_outcome (inr (inr u)) = outcomes.Undecided

-- which of the three last words it is
abbrev pub of_outcome : Outcome → Unit {0} ⊎ (Unit {0} ⊎ Unit {0})
of_outcome outcomes.Accepted = inl tt
of_outcome outcomes.Rejected = inr (inl tt)
of_outcome outcomes.Undecided = inr (inr tt)

-- one of three words
abbrev pub outcome_words : Format (Unit {0} ⊎ (Unit {0} ⊎ Unit {0}))
outcome_words =
    or_else (codes "accepted") nothing (or_else (codes "rejected") nothing
    (key (codes "undecided")))

-- the last word
abbrev pub outcome_format : Format Outcome
outcome_format = seen to_outcome of_outcome outcome_words
