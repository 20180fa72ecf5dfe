-- A log that is gone through from its end: what one line more gives.
use Rattle.std.proofs.Common.{◌≡◌, ℕ, suc, ◌-◌, ◌<◌, ◌≤◌, List, ◌∷◌, ◌++◌, length, get_or, drop, drop-cons, reverse, sym, ◌∙◌, ap, arith}
use Rattle.std.proofs.lemmas.List.{reverse-append, append_assoc}
use Rattle.proof_lines.specs.declared.line.Line.{Line}
use Rattle.report_upgrader.specs.UpgradedLogs.{last_named, drop_line, unless_drop, upgraded}

pub front_at : (ls : List Line) (i : ℕ) (d : Line) → 0 < i → i ≤ length ls → drop (i - 1) ls ≡ get_or ls (i - 1) d ∷ drop i ls
front_at ls i d some within =
    drop-cons ls (i - 1) d (omega (arith, some, within)) ∙ ap (λ (k : ℕ). get_or ls (i - 1) d ∷ drop k ls) (let e : suc (i - 1) ≡ i = omega (arith, some) in e)

pub written : (l : Line) (ls xs ys : List Line) → xs ≡ reverse (upgraded ls) → ys ≡ xs ++ reverse (unless_drop l ++ drop_line (last_named l ls)) → ys ≡ reverse (upgraded (l ∷ ls))
written l ls xs ys so_far more =
    let u = unless_drop l in
    let d = drop_line (last_named l ls) in
    let whole : reverse (u ++ (d ++ upgraded ls)) ≡ reverse (upgraded ls) ++ reverse (u ++ d) =
    ap reverse (sym (append_assoc u d (upgraded ls))) ∙ reverse-append (u ++ d) (upgraded ls) in
    more ∙ ap (λ (z : List Line). z ++ reverse (u ++ d)) so_far ∙ sym whole
