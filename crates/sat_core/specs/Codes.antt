-- Codes of trail entries, which the model of a trail asks for.
use Rattle.std.specs.Prelude.{ℕ, refl, Option, Bool}
use Rattle.std.specs.Coded.{Coded, code_by, coded×, coded_ℕ, coded_option, coded_bool}
use Rattle.proof_lines.specs.declared.clause.Lit.{Lit}
use Rattle.sat_core.specs.declared.trail.Entry.{Entry}

-- entries of a trail are told apart by their parts

-- a literal is stored as its atom and its sign
abbrev pub lit_code : Coded Lit
lit_code =
    code_by (ℕ × Bool) (coded× coded_ℕ coded_bool) (λ l. (l.atom, l.positive))
    (λ p. record { atom = p.0; positive = p.1 }) (λ _. refl)

-- an entry is stored as its literal and its reason
abbrev pub entry_code : Coded Entry
entry_code =
    code_by (Lit × Option ℕ) (coded× lit_code (coded_option coded_ℕ)) (λ e. (e.lit, e.reason))
    (λ p. record { lit = p.0; reason = p.1 }) (λ _. refl)
