use Rattle.std.proofs.Common.{◌≡◌, ℕ, Bool, true, false, cond, List, [], ◌∷◌, ◌++◌, map, refl, sym, ◌∙◌, subst, arith, Some, slice_get}
use Rattle.std.specs.List.{list_all}
use Rattle.std.specs.Option.{option_and_then}
use Rattle.std.proofs.lemmas.Bool.{and_from}
use Rattle.std.proofs.lemmas.List.{map-append}
use Rattle.std.proofs.lemmas.List.Folds.{list_all-append}
use Rattle.lin_rows.specs.Rows.{Row, negated}
use Rattle.proof_lines.specs.declared.clause.Lit.{Lit}
use Rattle.proof_lines.specs.declared.problem.AtomKind.{AtomKind}
use Rattle.proof_lines.specs.declared.problem.AtomKind.TheVariants.{Row as OfRow}
use Rattle.proof_lines.specs.declared.line.RowStep.{RowStep}
use Rattle.proof_lines.specs.Problems.{PlainProblem}
use Rattle.line_rows.specs.Steps.{row_of_kind, lit_row}
use Rattle.theory_api.specs.Laws.{all_below, IsConflict}
use Rattle.theory_api.proofs.Standing.{lit_at}
use Rattle.sat_core.specs.declared.trail.Entry.{Entry}
use Rattle.sat_core.specs.Trails.{in_trail, Settled}
use Rattle.sat_core.specs.Forcing.{are_plain}
use Rattle.sat_core.proofs.Taken.{farkas_taken}
use Rattle.sat_core.proofs.Valued.{stand-of}
use Rattle.sat_core.specs.declared.analyzing.Analyzed.{Analyzed}
use Rattle.sat_core.specs.declared.analyzing.Analyzed.TheVariants.{Empty, Cut, BudgetExhausted as ExhaustedThere, Memory as NoMemory}
use Rattle.sat_core.specs.Answers.{AreRowsOf}
use Rattle.sat_core.specs.declared.state.SearchState.{SearchState}
use Rattle.sat_core.specs.Searching.{Aim, InSearch, IsRowAssignment, IsLearned, IsRefutation}
use Rattle.sat_core.specs.Outcomes.{outcome_of, IfContinue}
use Rattle.sat_core.proofs.Checked.{stand-plain, given-lits, picked-in}
use Rattle.sat_core.proofs.Outcomes.{aim_of}
use Rattle.unit_propagation.specs.declared.watches.Watches.{Watches}
use Rattle.unit_propagation.specs.Watches.{AllKept}
use Rattle.unit_propagation.specs.Ready.{MayContinue}
use Rattle.unit_propagation.proofs.Changing.{jumped}
use Rattle.watched_search.specs.Early.{AreHeld, IsClash}

-- Rows of a trail that assigns some atoms only.

-- one more literal with its row
pub held-row : (atoms : List AtomKind) (t : List Entry) (lits : List Lit) (rows : List Row) (l : Lit) (q r : Row) → AreHeld atoms t lits rows → slice_get atoms l.atom ≡ Some (OfRow q) → in_trail t l ≡ true
    → cond l.positive (Some q) (negated q) ≡ Some r → AreHeld atoms t (lits ++ l ∷ []) (rows ++ r ∷ [])
held-row atoms t lits rows l q r h k i e =
    let one : lit_row atoms l ≡ Some r = (λ j. cond l.positive (row_of_kind (k j)) (option_and_then negated (row_of_kind (k j)))) ∙ e in
    record {
      stand = map-append (lit_row atoms) lits (l ∷ []) ∙ ((λ j. h.stand j ++ one j ∷ []) ∙ sym (map-append (λ (x : Row). Some x) rows (r ∷ [])));
      in_it = list_all-append (in_trail t) lits (l ∷ []) ∙ and_from (list_all (in_trail t) lits) (list_all (in_trail t) (l ∷ [])) h.in_it (and_from (in_trail t l) true i refl);
    }

-- they are rows of the trail, whatever they leave out
pub assignment-held : (atoms : List AtomKind) (t : List Entry) (lits : List Lit) (rows : List Row) → AreHeld atoms t lits rows → IsRowAssignment atoms t 0 lits rows
assignment-held atoms t lits rows h = record { stand = h.stand; in_it = h.in_it; covers = λ x r l. absurd (omega (arith, l)) }

-- rows in conflict are a clash of their literals
pub clash-so : (q : PlainProblem) (t : List Entry) (lits : List Lit) (rows : List Row) (used : List ℕ) (used2 : List Lit) (steps : List RowStep) → AreHeld q.atoms t lits rows → IsConflict rows used steps → used2 ≡ map (lit_at lits) used → IsClash q t used2 steps
clash-so q t lits rows used used2 steps h c e =
    let stand = stand-of q.atoms lits rows h.stand in
    subst (λ (z : List Lit). IsClash q t z steps) (sym e) (record {
      in_it = picked-in t lits used h.in_it (given-lits q.atoms lits rows used stand c.given);
      refuted = λ given. farkas_taken given q lits rows used steps stand c;
      with_rows = λ p. stand-plain q.atoms lits rows used p stand c.given;
    })

-- a clash is refuted in a search whose trail is settled
pub refutation-of : (a : Aim) (budget : ℕ) (s : SearchState) (used : List Lit) (steps : List RowStep) → InSearch a budget s → Settled s.trail s.grown.clauses → IsClash s.grown s.trail used steps → IsRefutation budget s used steps
refutation-of a budget s used steps x w c = record {
  aim = a;
  search = x;
  settled = w;
  in_it = c.in_it;
  taken = c.refuted;
  uneasy = λ b y e. c.with_rows (subst (λ (z : List AtomKind). are_plain z ≡ true) (sym (y.keeps.plain e.0)) e.0);
}

-- the rows of a search are taken by its solver
pub takes-grown : (split : Bool) (takes : List Row → ℕ → Type 0) (p : PlainProblem) (budget : ℕ) (s : SearchState)
    → (split ≡ true → (rows : List Row) (ints : ℕ) → all_below ints rows ≡ true → takes rows ints) → (split ≡ false → (lits : List Lit) (rows : List Row) → AreRowsOf p.atoms lits rows → takes rows p.ints)
    → InSearch (aim_of p split) budget s → (lits : List Lit) (rows : List Row) → AreRowsOf s.grown.atoms lits rows → all_below s.grown.ints rows ≡ true → takes rows s.grown.ints
takes-grown split takes p budget s all some x lits rows o b = by_case split refl
  where
    by_case : (m : Bool) → split ≡ m → takes rows s.grown.ints
    by_case true h = all h rows s.grown.ints b
    by_case false h = subst (λ (n : ℕ). takes rows n) (sym x.keeps.ints) (some h lits rows (subst (λ (z : List AtomKind). AreRowsOf z lits rows) (x.keeps.unsplit h) o))

pub learned-continue : (e : Analyzed) (budget : ℕ) (s r : SearchState) (a : Aim) (w : Watches) → InSearch a budget s → AllKept s.grown.clauses s.trail w → IsLearned e budget s r → IfContinue (outcome_of e) (MayContinue r.grown.clauses r.trail w)
learned-continue Empty budget s r a w x k h = tt
learned-continue Cut budget s r a w x k h = let y = h a x in (y.0.keeps.few_clauses, jumped s.grown.clauses s.trail r.grown.clauses r.trail w k y.2)
learned-continue ExhaustedThere budget s r a w x k h = tt
learned-continue NoMemory budget s r a w x k h = tt
