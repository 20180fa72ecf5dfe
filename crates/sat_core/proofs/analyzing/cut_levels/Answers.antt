use Rattle.std.proofs.Common.{◌≡◌, ◌⊎◌, inl, inr, ℕ, ◌<◌, Bool, true, false, List, length, refl, sym, ◌∙◌, subst}
use Rattle.sat_core.specs.declared.trail.Entry.{Entry}
use Rattle.sat_core.specs.Trails.{is_false, is_assigned, open_in, before_last, IsTrail, Settled}
use Rattle.sat_core.proofs.Trails.{zero-open, open_zero, trail-before, settled-before, is_assigned-before}
use Rattle.sat_core.specs.Searching.{IsBefore}
use Rattle.sat_core.proofs.Resolving.{before-shorter}
use Rattle.sat_core.proofs.Backjumps.{last-before, before-either}
use Rattle.sat_core.proofs.analyzing.cut_levels.Goals as goal

pub cutting-smaller : goal.cutting-smaller
cutting-smaller c =
    let h = before-shorter c.cutting.trail (sym c.cutting-test.ensures) in
    subst (λ (z : List Entry). length z < length c.cutting.trail) (sym c.cut.ensures) h

pub cutting-preserved : goal.cutting-preserved
cutting-preserved c cs w s f =
    let y = c.cutting.invariant cs w s f in
    let t = c.cutting.trail in
    let o : open_in (before_last t) c.args.lits.now ≡ 0 = sym c.count_open_before.ensures ∙ c.if-count_open_before-eq0.true in
    subst (λ (z : List Entry). IsTrail cs z × Settled z cs × (is_false z c.args.lits.now ≡ true) × ((x : ℕ) → is_assigned z x ≡ true → is_assigned c.args.trail.now x ≡ true) × ((z ≡ c.args.trail.now) ⊎ IsBefore z c.args.trail.now)) (sym c.cut.ensures)
    (trail-before cs t y.0, settled-before cs t y.0 (sym c.cutting-test.ensures), zero-open (before_last t) c.args.lits.now o, λ x h. y.3 x (is_assigned-before t x h), inr (before-either (before_last t) t c.args.trail.now y.4 (last-before (before_last t) t (sym c.cutting-test.ensures) (inl refl))))

pub returns-else-count_open_before-eq0 : goal.returns-else-count_open_before-eq0
returns-else-count_open_before-eq0 c cs w s f =
    let y = c.cutting.invariant cs w s f in
    (record { trail = y.0; settled = y.1; now = y.2; not_before = λ d. not_false (is_false (before_last c.cutting.trail) c.args.lits.now) refl }, y.3, y.4)
  where
    not_false : (b : Bool) → is_false (before_last c.cutting.trail) c.args.lits.now ≡ b → b ≡ false
    not_false false e = refl
    not_false true e = absurd (
        let z = open_zero (before_last c.cutting.trail) c.args.lits.now e in
        let k = c.count_open_before.ensures in
        let m = c.if-count_open_before-eq0.false in
        m (k ∙ z))
