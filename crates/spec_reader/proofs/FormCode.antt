-- Reading formulas, as the code goes about it.
use Rattle.std.proofs.Common.{◌≡◌, ℕ, zero, suc, ◌-◌, ◌<◌, true, false, List, [], Ok, Err, inl, inr, refl, ap, arith}
use Rattle.parser_combinators.specs.declared.token.Key.TheVariants as keys
use Rattle.parser_combinators.specs.declared.token.Token.{Token}
use Rattle.parser_combinators.specs.declared.token.Version.{Version}
use Rattle.spec_trees.specs.declared.tree.Reading.{Reading}
use Rattle.spec_trees.specs.declared.tree.Term.{Term}
use Rattle.spec_trees.specs.declared.tree.Comparison.{Comparison}
use Rattle.spec_trees.specs.declared.tree.Connective.{Connective}
use Rattle.spec_trees.specs.Form.{Form, not_form}
use Rattle.parser_combinators.specs.Words.{next, seen, is_key, is_name}
use Rattle.parser_combinators.specs.Read.{Read, ◌>>=◌, mapped, both, key_at}
use Rattle.spec_reader.specs.Reading.{term_at, comparison_at, connective_at, connected_at, to_compared, to_connected, atom_at, to_form, form_at, plain_at, compared_at, After, after_at, to_inside, inside_at, inner_at, named_at, negation_at, starts_term}

bare : {A : Type 0} → A → List Token → Read A
bare a ws = Ok (a, ws)

again : (r : Read Form) → mapped to_form (λ ws. mapped inr (λ ws. r) ws) [] ≡ r
again (Ok x) = refl
again (Err n) = refl

pub form_at-flat : (v : Version) (d : ℕ) (ws : List Token) → d ≡ 0 → form_at v d ws ≡ plain_at v (inner_at v d) ws
unfolding form_at inner_at
form_at-flat v zero ws h = refl
form_at-flat v (suc d) ws h = absurd (omega arith)

pub form_at-plain : (v : Version) (d : ℕ) (ws : List Token) → is_key keys.Not (next (seen ws)) ≡ false → form_at v d ws ≡ plain_at v (inner_at v d) ws
unfolding form_at inner_at
form_at-plain v zero ws h = refl
form_at-plain v (suc d) ws h = rw h (again (plain_at v (inside_at v (form_at v d)) ws))

not_twice : (x : Read ℕ) (f : List Token → Read Form) → mapped to_form (mapped inl (both (λ ws. x) f)) [] ≡ (x >>= λ a. f a.1 >>= λ b. bare (not_form a.0 b.0) b.1)
unfolding bare
not_twice (Err n) f = refl
not_twice (Ok a) f = by (f a.1)
  where
    by : (y : Read Form) → mapped to_form (mapped inl (λ ws. y >>= λ b. bare (a.0, b.0) b.1)) [] ≡ (y >>= λ b. bare (not_form a.0 b.0) b.1)
    by (Ok b) = refl
    by (Err n) = refl

pub form_at-not : (v : Version) (d : ℕ) (ws : List Token) → is_key keys.Not (next (seen ws)) ≡ true → 0 < d → form_at v d ws ≡ negation_at (form_at v (d - 1)) ws
unfolding form_at bare
form_at-not v zero ws h lt = absurd (omega arith)
form_at-not v (suc d) ws h lt =
    let same : suc d - 1 ≡ d = omega arith in
    rw (h, same) (not_twice (key_at keys.Not ws) (form_at v d))

pub inner_at-flat : (v : Version) (d : ℕ) (ws : List Token) → d ≡ 0 → inner_at v d ws ≡ compared_at v ws
unfolding inner_at
inner_at-flat v zero ws h = refl
inner_at-flat v (suc d) ws h = absurd (omega arith)

pub inner_at-more : (v : Version) (d : ℕ) (ws : List Token) → 0 < d → inner_at v d ws ≡ inside_at v (form_at v (d - 1)) ws
unfolding inner_at
inner_at-more v zero ws lt = absurd (omega arith)
inner_at-more v (suc d) ws lt = ap (λ (k : ℕ). inside_at v (form_at v k) ws) (omega arith)

read_twice : (x : Read (ℕ × Reading)) (f : List Token → Read After) → mapped to_inside (mapped inr (mapped inl (both (λ ws. x) f))) [] ≡ (x >>= λ a. mapped (λ y. to_inside (inr (inl (a.0, y)))) f a.1)
unfolding bare
read_twice (Err n) f = refl
read_twice (Ok a) f = by (f a.1)
  where
    by : (y : Read After) → mapped to_inside (mapped inr (mapped inl (λ ws. y >>= λ b. bare (a.0, b.0) b.1))) [] ≡ mapped (λ y. to_inside (inr (inl (a.0, y)))) (λ ws. y) []
    by (Ok b) = refl
    by (Err n) = refl

pub inside_at-named : (v : Version) (r : List Token → Read Form) (ws : List Token) → starts_term (next (seen ws)) ≡ false → is_name v (next (seen ws)) ≡ true → inside_at v r ws ≡ named_at v r ws
unfolding inside_at
inside_at-named v r ws h k = rw (h, k) (read_twice (atom_at v ws) (after_at v r))

compare_twice : (x : Read Term) (f : List Token → Read (Comparison × Term)) → mapped to_inside (mapped inl (both (λ ws. x) f)) [] ≡ mapped to_compared (both (λ ws. x) f) []
unfolding bare
compare_twice (Err n) f = refl
compare_twice (Ok a) f = by (f a.1)
  where
    by : (y : Read (Comparison × Term)) → mapped to_inside (mapped inl (λ ws. y >>= λ b. bare (a.0, b.0) b.1)) [] ≡ mapped to_compared (λ ws. y >>= λ b. bare (a.0, b.0) b.1) []
    by (Ok b) = refl
    by (Err n) = refl

pub inside_at-term : (v : Version) (r : List Token → Read Form) (ws : List Token) → starts_term (next (seen ws)) ≡ true → inside_at v r ws ≡ compared_at v ws
unfolding inside_at compared_at
inside_at-term v r ws h = rw h (compare_twice (term_at v ws) (both comparison_at (term_at v)))

connect_twice : (x : Read Form) (f : List Token → Read (Connective × Form)) → mapped to_inside (mapped inr (mapped inr (both (λ ws. x) f))) [] ≡ mapped to_connected (both (λ ws. x) f) []
unfolding bare
connect_twice (Err n) f = refl
connect_twice (Ok a) f = by (f a.1)
  where
    by : (y : Read (Connective × Form)) → mapped to_inside (mapped inr (mapped inr (λ ws. y >>= λ b. bare (a.0, b.0) b.1))) [] ≡ mapped to_connected (λ ws. y >>= λ b. bare (a.0, b.0) b.1) []
    by (Ok b) = refl
    by (Err n) = refl

pub inside_at-connected : (v : Version) (r : List Token → Read Form) (ws : List Token) → starts_term (next (seen ws)) ≡ false → is_name v (next (seen ws)) ≡ false → inside_at v r ws ≡ connected_at r ws
unfolding inside_at
inside_at-connected v r ws h k = rw (h, k) (connect_twice (r ws) (both connective_at r))
