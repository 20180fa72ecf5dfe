use Rattle.std.proofs.Common.{◌≡◌, ◌∙◌, ℕ, sym, subst, length, map, List, true}
use Rattle.std.specs.List.{list_all}
use Rattle.std.specs.Prelude.{IsTrue}
use Rattle.std.proofs.lemmas.Result.{IfOk-weaker}
use Rattle.proof_lines.specs.declared.line.Line.{Line}
use Rattle.needed_clauses.specs.Renaming.{is_plain_line, number_in, line_by}
use Rattle.lazy_ground.specs.Lazy.{lazy_problem}
use Rattle.lazy_logs.specs.Refuted.{Refutes}
use Rattle.lazy_logs.specs.Drops.{without_drops, DropsWell}
use Rattle.lazy_logs.proofs.Wholes.{refutes-whole}
use Rattle.lazy_logs.proofs.Drops.{refutes-with-drops}
use Rattle.lazy_logs.proofs.refuting.are_of_log.Goals as goal

pub returns : goal.returns
returns c =
    let p = lazy_problem c.args.ground.now in
    let lines = c.args.lines.now in
    let part = c.args.part.now in
    let f : ℕ → ℕ = number_in part.picks.numbers.items (length p.clauses) in
    let g : ℕ → ℕ = number_in part.atoms.items (length p.atoms) in
    let plain : list_all is_plain_line c.args.own ≡ true =
    subst (λ (z : List Line). list_all is_plain_line z ≡ true) c.as_slice.ensures (sym c.are_plain_lines.ensures ∙ c.if-not-are_plain_lines.false) in
    let log : c.in_ok-log.log ≡ map (line_by f g) c.args.own =
    c.in_ok-log.ensures
    ∙ (λ i. map (line_by (number_in (c.as_slice-numbers.ensures.value i) (c.requires.sizes.clauses i)) (number_in (c.as_slice-atoms.ensures.value i) (c.requires.sizes.atoms i))) c.args.own) in
    let same : without_drops lines ≡ map (line_by f g) c.args.own = sym (c.are_without_drops-same.ensures c.if-not-same.false) ∙ c.as_slice-2.ensures ∙ log in
    let refuted : Refutes p (without_drops lines) = refutes-whole f g part.problem p c.args.own (without_drops lines) c.requires.part c.requires.refuted plain same in
    IfOk-weaker c.drops_well.result (λ b. IsTrue b → DropsWell c.args.sizes.now.clauses lines) (λ b. IsTrue b → Refutes p lines)
    (λ b h t. refutes-with-drops p lines refuted (subst (λ (n : ℕ). DropsWell n lines) c.requires.sizes.clauses (h t)))
    c.drops_well.ensures
