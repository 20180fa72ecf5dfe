-- How a line that resolves two clauses is read, and what a reader answers to it.
use Rattle.std.proofs.Common.{◌≡◌, ℕ, suc, ◌+◌, Bool, true, false, List, [], ◌∷◌, None, Some, Ok, inl, inr, refl, sym, ap, subst, arith}
use Rattle.std.specs.Prelude.{codes}
use Rattle.std.specs.Str.{bytes_eq}
use Rattle.std.proofs.lemmas.Option.{none-some, same_Some}
use Rattle.spec_core.specs.Specification.{Specification}
use Rattle.proof_lines.specs.declared.line.Line.TheVariants.{Resolve}
use Rattle.report_lines.specs.declared.head.Tally.{Tally}
use Rattle.report_lines.specs.Fields.{count_format}
use Rattle.report_lines.specs.Formats.{read, key_at, is_empty}
use Rattle.report_lines.specs.Words.{parts}
use Rattle.report_lines.proofs.Exact.{chosen}
use Rattle.proof_report.specs.declared.event.Event.TheVariants as events
use Rattle.proof_report.specs.declared.place.LogOf.{LogOf}
use Rattle.proof_report.specs.declared.place.LogOf.TheVariants as log_of
use Rattle.proof_report.specs.declared.place.Place.{Place}
use Rattle.proof_report.specs.declared.place.Place.TheVariants as places
use Rattle.report_reader.specs.declared.resolving.ResolveLine.{ResolveLine}
use Rattle.proof_report.specs.Feeding.{log_line, drops_in}
use Rattle.report_reader.specs.Reader.{ReaderForm, IsEnd, IsStep, IsAnswered, IsKept, log_end_at}
use Rattle.report_reader.specs.Resolving.{IsOneLess, resolve_told}
use Rattle.report_reader.proofs.Answering.{answered, logged}
use Rattle.proof_report.proofs.Sound.{at}

read_behind_key : (w : List ℕ) (ws ws2 ws3 rest : List (List ℕ)) (a b c : ℕ) (drops : Bool) → bytes_eq w (codes "r") ≡ true → count_format.get ws ≡ Some (a, ws2) → count_format.get ws2 ≡ Some (b, ws3) → count_format.get ws3 ≡ Some (c, rest) → is_empty rest ≡ true
    → read (log_line drops) (w ∷ ws) ≡ Some (events.Log (Resolve a b c))
unfolding read
read_behind_key w ws ws2 ws3 rest a b c true k e f g z = rw (k, e, f, g, z) refl
read_behind_key w ws ws2 ws3 rest a b c false k e f g z = rw (k, e, f, g, z) refl

-- `r` and three numbers are such a line
pub resolve_read : (words ws ws2 ws3 rest : List (List ℕ)) (a b c : ℕ) (drops : Bool) → key_at (codes "r") words ≡ Some (tt, ws) → count_format.get ws ≡ Some (a, ws2) → count_format.get ws2 ≡ Some (b, ws3) → count_format.get ws3 ≡ Some (c, rest) → is_empty rest ≡ true
    → read (log_line drops) words ≡ Some (events.Log (Resolve a b c))
resolve_read [] ws ws2 ws3 rest a b c drops k e f g z = absurd (none-some _ k)
resolve_read (w ∷ vs) ws ws2 ws3 rest a b c drops k e f g z = elim (chosen (bytes_eq w (codes "r")) (Some (tt, vs)) None (Some (tt, ws)) k) [
  | inl p ↦ subst (λ (z : List (List ℕ)). read (log_line drops) (w ∷ z) ≡ Some (events.Log (Resolve a b c))) (sym (ap (λ (x : Unit {0} × List (List ℕ)). x.1) (same_Some _ _ p.1))) (read_behind_key w ws ws2 ws3 rest a b c drops p.0 e f g z)
  | inr p ↦ absurd (none-some _ p.1)
]

no_end : (d : Specification) (k : LogOf) (n : ℕ) → IsEnd d (log_end_at (places.Log k (suc (suc n)))) None
no_end d log_of.Proved n = tt
no_end d log_of.Lines n = tt
no_end d log_of.Rows n = tt
no_end d log_of.Range n = tt

-- such a line that isn't the last one is the next line
pub resolve_step : (d : Specification) (version : ℕ) (t : Tally) (p q : Place) (words : List (List ℕ)) (l : ResolveLine) → IsOneLess p q
    → ((drops : Bool) → read (log_line drops) words ≡ Some (events.Log (Resolve l.left l.right l.pivot)))
    → IsStep d (at version t p) words (at version t q) (Ok (record { fed = resolve_told l; budget = None }))
resolve_step d version t (places.Log k (suc (suc n))) q words l h was =
    subst (λ (z : Place). IsStep d (at version t (places.Log k (suc (suc n)))) words (at version t z) (Ok (record { fed = resolve_told l; budget = None }))) (sym h)
    (logged d version t (places.Log k (suc (suc n))) k (suc (suc n)) words (Resolve l.left l.right l.pivot) (resolve_told l) refl (omega arith) (was (drops_in version k)) refl refl (no_end d k n))
resolve_step d version t _ q words l h was = absurd h

-- what is answered to it
pub resolve_answered : (r : ReaderForm) (text : List ℕ) (q : Place) (l : ResolveLine) (n : ℕ) → r.fault ≡ None → IsOneLess r.state.place q
    → ((drops : Bool) → read (log_line drops) (parts text) ≡ Some (events.Log (Resolve l.left l.right l.pivot))) → n ≡ r.number + 1
    → IsAnswered r text (record { spec = r.spec; state = at r.state.version r.state.tally q; number = n; budget = r.budget; fault = r.fault }) (Ok (resolve_told l))
resolve_answered r text q l n clear less was m =
    answered r text (at r.state.version r.state.tally q) (record { fed = resolve_told l; budget = None }) n r.budget clear
    (resolve_step r.spec r.state.version r.state.tally r.state.place q (parts text) l less was) m refl

-- what a reader keeps stays
pub kept_down : (d : Specification) (t : Tally) (p q : Place) → IsOneLess p q → IsKept d t p → IsKept d t q
kept_down d t (places.Log k (suc (suc n))) q h kept = subst (λ (z : Place). IsKept d t z) (sym h) kept
kept_down d t _ q h kept = absurd h
