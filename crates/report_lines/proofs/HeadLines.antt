-- The lines that stand once in a report are exact and clean.
use Rattle.std.proofs.Common.{◌≡◌, ◌⊎◌, inl, inr, refl, lit≤}
use Rattle.std.specs.Prelude.{codes, nat_le}
use Rattle.report_lines.specs.declared.head.Outcome.{Outcome}
use Rattle.report_lines.specs.declared.head.Outcome.TheVariants as outcomes
use Rattle.report_lines.specs.Formats.{IsExact, IsClean, nothing, key, number}
use Rattle.report_lines.specs.Heads.{title_format, most_budget, budget_format, obligations_format, to_tally, of_tally, counts_format, summary_format, to_outcome, of_outcome, outcome_words, outcome_format}
use Rattle.report_lines.proofs.Exact.{nothing_exact, key_exact, number_exact, chain_exact, behind_exact, seen_exact, only_exact, or_exact, or_apart, key_apart}
use Rattle.report_lines.proofs.Clean.{nothing_clean, key_clean, number_clean, chain_clean, behind_clean, seen_clean, only_clean, or_clean}
use Rattle.report_lines.proofs.NumberFields.{count_exact, count_clean}

pub title_exact : IsExact title_format
title_exact = behind_exact _ _ (behind_exact _ _ (only_exact (nat_le 1) (number 2) (number_exact 2 (lit≤ tt))))

pub title_clean : IsClean title_format
title_clean = behind_clean _ _ refl (behind_clean _ _ refl (only_clean (nat_le 1) (number 2) (number_clean 2 (lit≤ tt))))

pub budget_exact : IsExact budget_format
budget_exact = behind_exact _ _ (only_exact (nat_le 1) (number most_budget) (number_exact most_budget (lit≤ tt)))

pub budget_clean : IsClean budget_format
budget_clean = behind_clean _ _ refl (only_clean (nat_le 1) (number most_budget) (number_clean most_budget (lit≤ tt)))

pub obligations_exact : IsExact obligations_format
obligations_exact = behind_exact _ _ count_exact

pub obligations_clean : IsClean obligations_format
obligations_clean = behind_clean _ _ refl count_clean

counts_exact : IsExact counts_format
counts_exact = behind_exact _ _ (chain_exact _ _ count_exact (λ a. behind_exact _ _ (chain_exact _ _ count_exact (λ b. behind_exact _ _ count_exact))))

counts_clean : IsClean counts_format
counts_clean = behind_clean _ _ refl (chain_clean _ _ count_clean (λ a. behind_clean _ _ refl (chain_clean _ _ count_clean (λ b. behind_clean _ _ refl count_clean))))

pub summary_exact : IsExact summary_format
summary_exact = behind_exact _ _ (seen_exact to_tally of_tally counts_format (λ a. refl) (λ b. refl) counts_exact)

pub summary_clean : IsClean summary_format
summary_clean = behind_clean _ _ refl (seen_clean to_tally of_tally counts_format counts_clean)

outcome_back : (a : Unit {0} ⊎ (Unit {0} ⊎ Unit {0})) → of_outcome (to_outcome a) ≡ a
outcome_back (inl u) = refl
outcome_back (inr (inl u)) = refl
outcome_back (inr (inr u)) = refl

outcome_there : (o : Outcome) → to_outcome (of_outcome o) ≡ o
outcome_there outcomes.Accepted = refl
outcome_there outcomes.Rejected = refl
outcome_there outcomes.Undecided = refl

outcome_words_exact : IsExact outcome_words
outcome_words_exact = or_exact _ _ _ (or_apart _ _ nothing (key (codes "undecided")) refl (key_apart _ _ refl)) nothing_exact (or_exact _ nothing (key (codes "undecided")) (key_apart _ _ refl) nothing_exact (key_exact _))

outcome_words_clean : IsClean outcome_words
outcome_words_clean = or_clean _ nothing _ refl nothing_clean (or_clean _ nothing _ refl nothing_clean (key_clean _ refl))

pub outcome_exact : IsExact outcome_format
outcome_exact = seen_exact to_outcome of_outcome outcome_words outcome_back outcome_there outcome_words_exact

pub outcome_clean : IsClean outcome_format
outcome_clean = seen_clean to_outcome of_outcome outcome_words outcome_words_clean
