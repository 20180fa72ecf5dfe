-- Reading the whole, as the code goes about it.
use Rattle.std.proofs.Common.{◌≡◌, ◌-◌, ◌≤◌, ℕ, cond, List, [], ◌∷◌, length, Ok, Err, inl, inr, refl, ap, ◌∙◌}
use Rattle.std.specs.Prelude.{◌==◌}
use Rattle.parser_combinators.specs.declared.token.Kind.{Kind}
use Rattle.parser_combinators.specs.declared.token.Kind.TheVariants as kind
use Rattle.parser_combinators.specs.declared.token.Key.TheVariants as keys
use Rattle.parser_combinators.specs.declared.token.Token.{Token}
use Rattle.parser_combinators.specs.declared.token.Version.TheVariants as version
use Rattle.spec_trees.specs.declared.tree.Tree.{Tree}
use Rattle.spec_trees.specs.Form.{ItemForm, TreeForm, tree_of}
use Rattle.spec_trees.specs.Spelling.{tree as spelled}
use Rattle.spec_trees.specs.Trees.{TreeFits}
use Rattle.spec_reader.proofs.TreeParts.{Place, whole_ok, whole_err, whole_only, whole_left}
use Rattle.parser_combinators.specs.Words.{seen, kind_of, plain, Matches}
use Rattle.parser_combinators.specs.Read.{Read, ◌>>=◌, mapped, both, either, word_at, sign_at}
use Rattle.spec_reader.specs.Reading.{items_at, is_one, is_two, to_tree, tree_at, version_at, tree_by, whole_at, whole_by}

bare : {A : Type 0} → A → List Token → Read A
bare a ws = Ok (a, ws)

first : (x : Read (List ItemForm)) → mapped to_tree (λ ws. (mapped inl (λ ws. x >>= λ y. bare (tt, y.0) y.1) []) >>= λ y. bare (tt, y.0) y.1) [] ≡ (x >>= λ y. bare (record { version = version.First; items = y.0 }) y.1)
unfolding bare
first (Ok y) = refl
first (Err n) = refl

other : (x : Read (List ItemForm)) → mapped to_tree (λ ws. (mapped inr (λ ws. x >>= λ y. bare (tt, y.0) y.1) []) >>= λ y. bare (tt, y.0) y.1) [] ≡ (x >>= λ y. bare (record { version = version.Second; items = y.0 }) y.1)
unfolding bare
other (Ok y) = refl
other (Err n) = refl

by_kind : (d : ℕ) (t : Token) (ts : List Token) (k : Kind) → kind_of t.symbol ≡ k → mapped to_tree (λ ws. either is_one (both (word_at is_one (λ t. tt)) (items_at version.First d)) (both (word_at is_two (λ t. tt)) (items_at version.Second d)) ws >>= λ y. bare (tt, y.0) y.1) (t ∷ ts)
    ≡ (version_at (t ∷ ts) >>= λ v. items_at v.0 d v.1 >>= λ y. bare (record { version = v.0; items = y.0 }) y.1)
unfolding bare
by_kind d t ts kind.One h = rw h (first (items_at version.First d ts))
by_kind d t ts kind.Two h = rw h (other (items_at version.Second d ts))
by_kind d t ts kind.Nothing h = rw h refl
by_kind d t ts kind.Name h = rw h refl
by_kind d t ts kind.Shared h = rw h refl
by_kind d t ts kind.Exclusive h = rw h refl
by_kind d t ts kind.Observes h = rw h refl
by_kind d t ts kind.Unnamed h = rw h refl
by_kind d t ts kind.Number h = rw h refl
by_kind d t ts (kind.Key j) h = rw h refl

rest_is : (d : ℕ) (ws : List Token) → mapped to_tree (λ ws. either is_one (both (word_at is_one (λ t. tt)) (items_at version.First d)) (both (word_at is_two (λ t. tt)) (items_at version.Second d)) ws >>= λ y. bare (tt, y.0) y.1) ws
    ≡ (version_at ws >>= λ v. items_at v.0 d v.1 >>= λ y. bare (record { version = v.0; items = y.0 }) y.1)
unfolding bare
rest_is d [] = refl
rest_is d (t ∷ ts) = by_kind d t ts (kind_of t.symbol) refl

pub tree_at-by : (d : ℕ) (ws : List Token) → tree_at d ws ≡ tree_by d ws
unfolding tree_at bare
tree_at-by d ws = by (sign_at keys.Cise ws)
  where
    by : (x : Read (Unit {0})) → mapped to_tree (both (λ ws. x) (either is_one (both (word_at is_one (λ t. tt)) (items_at version.First d)) (both (word_at is_two (λ t. tt)) (items_at version.Second d)))) ws
        ≡ (x >>= λ a. version_at a.1 >>= λ v. items_at v.0 d v.1 >>= λ y. bare (record { version = v.0; items = y.0 }) y.1)
    by (Err n) = refl
    by (Ok (u, rest)) = rest_is d rest

pub whole_at-by : (d : ℕ) (ws : List Token) → whole_at d ws ≡ whole_by d ws
unfolding whole_at
whole_at-by d ws = ap (λ (z : Read TreeForm). z >>= λ x. cond (length x.1 == 0) (Ok x.0) (Err (length x.1))) (tree_at-by d ws)

pub found : (d : ℕ) (ws : List Token) (t : Tree) → whole_by d ws ≡ Ok (tree_of t) → TreeFits d (tree_of t) × Matches (spelled (tree_of t)) ws []
found d ws t h = whole_ok d ws (tree_of t) (whole_at-by d ws ∙ h)

pub none : (d : ℕ) (ws : List Token) (n : ℕ) → whole_by d ws ≡ Err n → (t : TreeForm) → TreeFits d t → plain (spelled t) ≡ seen ws → ⊥
none d ws n h = whole_only d ws n (whole_at-by d ws ∙ h)

pub place : (d : ℕ) (ws : List Token) (n : ℕ) → whole_by d ws ≡ Err n → Place d (seen ws) (length ws - n)
place d ws n h = whole_err d ws n (whole_at-by d ws ∙ h)

pub left_within : (d : ℕ) (ws : List Token) (n : ℕ) → whole_by d ws ≡ Err n → n ≤ length ws
left_within d ws n h = whole_left d ws n (whole_at-by d ws ∙ h)
