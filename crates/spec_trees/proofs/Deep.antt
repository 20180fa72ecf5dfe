-- A formula fits a number of levels exactly where it is no deeper.
use Rattle.std.proofs.Common.{◌≡◌, ℕ, zero, suc, ◌+◌, ◌≤◌, Bool, true, false, cond, leb, refl, arith}
use Rattle.std.proofs.lemmas.Bool.{leb-false, leb-true}
use Rattle.parser_combinators.specs.declared.token.Version.{Version}
use Rattle.spec_trees.specs.Form.{Form, true_form, false_form, not_form, connect_form, has_form, compare_form}
use Rattle.spec_trees.specs.Trees.{FormFits}
use Rattle.spec_trees.specs.Depth.{greater, depth, NamesFree}

greater_within : (a b n : ℕ) → a ≤ n → b ≤ n → greater a b ≤ n
greater_within a b n h k = by (leb a b)
  where
    by : (z : Bool) → cond z b a ≤ n
    by true = k
    by false = h

within_greater : (a b n : ℕ) → greater a b ≤ n → (a ≤ n) × (b ≤ n)
within_greater a b n h = by (leb a b) refl h
  where
    by : (z : Bool) → leb a b ≡ z → cond z b a ≤ n → (a ≤ n) × (b ≤ n)
    by true e k = (let le = leb-true a b e in (omega arith, k))
    by false e k = (let lt = leb-false a b e in (k, omega arith))

pub fits_deep : (v : Version) (d : ℕ) (f : Form) → FormFits v d f → NamesFree v f × (depth f ≤ d + 1)
fits_deep v zero (true_form w) h = (tt, omega arith)
fits_deep v (suc d) (true_form w) h = (tt, omega arith)
fits_deep v zero (false_form w) h = (tt, omega arith)
fits_deep v (suc d) (false_form w) h = (tt, omega arith)
fits_deep v zero (not_form w f) h = absurd h
fits_deep v (suc d) (not_form w f) h = (let k = fits_deep v d f h in (k.0, omega (arith, k.1)))
fits_deep v zero (connect_form w f c g) h = absurd h
fits_deep v (suc d) (connect_form w f c g) h =
    (let k = fits_deep v d f h.0 in let l = fits_deep v d g h.1 in let m = greater_within (depth f) (depth g) (d + 1) k.1 l.1 in ((k.0, l.0), omega (arith, m)))
fits_deep v zero (has_form w r) h = (h, omega arith)
fits_deep v (suc d) (has_form w r) h = (h, omega arith)
fits_deep v zero (compare_form w s c t) h = (h, omega arith)
fits_deep v (suc d) (compare_form w s c t) h = (h, omega arith)

one_at_least : (f : Form) → 1 ≤ depth f
one_at_least (true_form w) = omega arith
one_at_least (false_form w) = omega arith
one_at_least (not_form w f) = omega arith
one_at_least (connect_form w f c g) = omega arith
one_at_least (has_form w r) = omega arith
one_at_least (compare_form w s c t) = omega arith

pub deep_fits : (v : Version) (d : ℕ) (f : Form) → NamesFree v f → depth f ≤ d + 1 → FormFits v d f
deep_fits v zero (true_form w) h k = tt
deep_fits v (suc d) (true_form w) h k = tt
deep_fits v zero (false_form w) h k = tt
deep_fits v (suc d) (false_form w) h k = tt
deep_fits v zero (not_form w f) h k = absurd (omega (arith, k, one_at_least f))
deep_fits v (suc d) (not_form w f) h k = deep_fits v d f h (omega (arith, k))
deep_fits v zero (connect_form w f c g) h k = (let m = within_greater (depth f) (depth g) 0 (omega (arith, k)) in absurd (omega (arith, m.0, one_at_least f)))
deep_fits v (suc d) (connect_form w f c g) h k = (let m = within_greater (depth f) (depth g) (d + 1) (omega (arith, k)) in (deep_fits v d f h.0 m.0, deep_fits v d g h.1 m.1))
deep_fits v zero (has_form w r) h k = h
deep_fits v (suc d) (has_form w r) h k = h
deep_fits v zero (compare_form w s c t) h k = h
deep_fits v (suc d) (compare_form w s c t) h k = h
