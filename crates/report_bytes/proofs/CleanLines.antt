-- The words of each line that may come at a place have no space and no line feed.
use Rattle.std.proofs.Common.{◌≡◌, ℕ, zero, suc, ◌+◌, ◌<◌, ◌≤◌, Bool, true, false, eqb, List, [], ◌∷◌, map, length, get_or, inl, inr, refl, sym, subst, arith}
use Rattle.std.proofs.lemmas.Bool.{cases_lt}
use Rattle.std.proofs.lemmas.List.{get_or_past}
use Rattle.std.proofs.lemmas.List.Elements.{Contains-get_or}
use Rattle.word_cut.specs.Whole.{greatest}
use Rattle.spec_core.specs.declared.spec.Const.{Const}
use Rattle.spec_core.specs.Limits.{most_requires}
use Rattle.spec_core.specs.Specification.{Specification, op_of}
use Rattle.spec_core.specs.Typed.{is_specification}
use Rattle.obligation_list.specs.declared.obligation.Obligation.{Obligation}
use Rattle.obligation_list.specs.declared.obligation.Obligation.TheVariants.{Init, Safety, Commute, Stable}
use Rattle.obligation_list.specs.Obligations.{obligations_of, IsObligation}
use Rattle.obligation_list.proofs.LineFits.{few_requires}
use Rattle.obligation_list.proofs.Listed.{listed_is_obligation}
use Rattle.report_lines.specs.declared.head.Tally.{Tally}
use Rattle.report_lines.specs.Words.{is_part}
use Rattle.report_lines.specs.Formats.{IsClean}
use Rattle.report_lines.proofs.Clean.{case_clean, none_clean}
use Rattle.report_lines.proofs.SpecNames.{names_of, name_part}
use Rattle.report_lines.proofs.HeadLines.{title_clean, budget_clean, obligations_clean, summary_clean, outcome_clean}
use Rattle.report_lines.proofs.BlockLines.{IsCounted, obligation_clean, verdict_clean}
use Rattle.report_lines.proofs.LogLines.{log_clean}
use Rattle.report_lines.proofs.EvidenceLines.{rows_clean, range_clean}
use Rattle.report_lines.proofs.WitnessLines.{size_clean, const_clean, shown_clean}
use Rattle.proof_report.specs.declared.place.Place.{Place}
use Rattle.proof_report.specs.declared.place.Place.TheVariants as places
use Rattle.proof_report.specs.declared.place.Stage.TheVariants as stages
use Rattle.proof_report.specs.Verdicts.{obligation_at, obligation_count, no_const, const_at}
use Rattle.proof_report.specs.Events.{told}
use Rattle.proof_report.specs.Feeding.{place_line, due_line}

-- ---- the names that stand in lines

small : (l n : ℕ) → n ≤ most_requires → l < n → l + 1 ≤ greatest
small l n few lt = omega (arith, few, lt)

counted : (d : Specification) (ob : Obligation) → is_specification d ≡ true → IsObligation d ob → IsCounted ob
counted d (Init i) ok m = tt
counted d (Safety o i) ok m = tt
counted d (Commute o p x) ok m = tt
counted d (Stable o l p) ok m = small l (length (op_of d o).requires_) (few_requires d ok o) m.1

counted_at : (d : Specification) (i : ℕ) → is_specification d ≡ true → IsCounted (obligation_at d i)
counted_at d i ok = elim (cases_lt i (length (obligations_of d))) [
  | inl lt ↦ counted d (obligation_at d i) ok (listed_is_obligation d (obligation_at d i) (Contains-get_or (obligations_of d) i (Init 0) lt))
  | inr past ↦ subst IsCounted (sym (get_or_past (obligations_of d) i (Init 0) past)) tt
]

const_named : (cs : List Const) (j : ℕ) → get_or (map (λ (c : Const). c.name) cs) j [] ≡ (get_or cs j no_const).name
const_named [] j = refl
const_named (c ∷ cs) zero = refl
const_named (c ∷ cs) (suc j) = const_named cs j

const_part : (d : Specification) (j : ℕ) → is_specification d ≡ true → is_part (const_at d j).name ≡ true
const_part d j ok = subst (λ (w : List ℕ). is_part w ≡ true) (const_named d.consts j) (name_part (map (λ (c : Const). c.name) d.consts) j (names_of d ok).const_parts)

-- ---- the line of a place

due_clean : (d : Specification) (b : Bool) (i : ℕ) → is_specification d ≡ true → IsClean (due_line d b i)
due_clean d true i ok = case_clean _ _ summary_clean
due_clean d false i ok = case_clean _ _ (obligation_clean d (obligation_at d i) ok (counted_at d i ok))

pub place_clean : (d : Specification) (ver : ℕ) (t : Tally) (p : Place) → is_specification d ≡ true → IsClean (place_line d ver t p)
place_clean d ver t places.Title ok = case_clean _ _ title_clean
place_clean d ver t places.Budget ok = case_clean _ _ budget_clean
place_clean d ver t places.Count ok = case_clean _ _ obligations_clean
place_clean d ver t places.Due ok = due_clean d (eqb (told t) (obligation_count d)) (told t) ok
place_clean d ver t places.Opened ok = case_clean _ _ verdict_clean
place_clean d ver t (places.Log k zero) ok = none_clean
place_clean d ver t (places.Log k (suc n)) ok = case_clean _ _ (log_clean _)
place_clean d ver t places.Rows ok = case_clean _ _ rows_clean
place_clean d ver t places.Range ok = case_clean _ _ range_clean
place_clean d ver t (places.Sizes w) ok = case_clean _ _ (size_clean (get_or d.sorts (length w.sizes) []) (name_part d.sorts (length w.sizes) (names_of d ok).sort_parts))
place_clean d ver t (places.Consts w) ok = case_clean _ _ (const_clean (const_at d (length w.consts)).name _ (const_part d (length w.consts) ok))
place_clean d ver t (places.Showing stages.Facts p) ok = case_clean _ _ (shown_clean d p.world _ ok)
place_clean d ver t (places.Showing stages.Readings p) ok = case_clean _ _ (shown_clean d p.world _ ok)
place_clean d ver t (places.Showing stages.Calls p) ok = case_clean _ _ (shown_clean d p.world _ ok)
place_clean d ver t places.Last ok = case_clean _ _ outcome_clean
place_clean d ver t places.Over ok = none_clean
