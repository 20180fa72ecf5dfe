use Rattle.std.proofs.Common.{◌≡◌, List, ℕ, ℤ, map, sym, ap, ◌∙◌}
use Rattle.std.specs.List.{list_all}
use Rattle.spec_core.specs.State.{count_in, listed_keys}
use Rattle.spec_core.specs.Truth.{int_eq}
use Rattle.std.proofs.lemmas.List.Folds.{list_all-map}
use Rattle.spec_states.proofs.Entries.{Key}
use Rattle.spec_states.proofs.listed.Counts.agrees.Goals as goal

pub returns : goal.returns
returns c =
    let p = λ (q : List ℕ). int_eq (count_in c.args.self.now q) (count_in c.args.other.now q) in
    let es = c.self.inside.entries.entries in
    let each : c.all_agree.result ≡ list_all (λ (k : Key). p k.items) (map (λ (e : Key × ℤ). e.0) es) = c.all_agree.ensures in
    each ∙ list_all-map (λ (k : Key). p k.items) (λ (e : Key × ℤ). e.0) es
    ∙ sym (list_all-map (λ (e : List ℕ × ℤ). p e.0) (λ (e : Key × ℤ). (e.0.items, e.1)) es)
    ∙ sym (list_all-map p (λ (e : List ℕ × ℤ). e.0) (map (λ (e : Key × ℤ). (e.0.items, e.1)) es))
    ∙ ap (λ (es : List (List ℕ × ℤ)). list_all p (listed_keys es)) c.self.view_is
