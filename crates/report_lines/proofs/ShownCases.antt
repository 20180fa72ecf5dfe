-- A line of a witness whose first word is `count` is read as a value.
use Rattle.std.proofs.Common.{◌≡◌, ℕ, true, false, List, [], ◌∷◌, Some, None, ◌⊎◌, inl, inr, refl, sym, ap, ◌∙◌}
use Rattle.std.specs.Prelude.{codes}
use Rattle.std.specs.Str.{bytes_eq}
use Rattle.std.proofs.lemmas.Option.{none-some, some_pair_parts}
use Rattle.spec_core.specs.declared.world.World.{World}
use Rattle.spec_core.specs.declared.world.Call.{Call}
use Rattle.spec_core.specs.Specification.{Specification}
use Rattle.report_lines.specs.Words.{next_of}
use Rattle.report_lines.specs.Formats.{Read, Format, mapped, behind, or_else}
use Rattle.report_lines.specs.declared.witness.Reading.{Reading}
use Rattle.report_lines.specs.declared.witness.Due.{Due}
use Rattle.report_lines.specs.declared.witness.Shown.{Shown}
use Rattle.report_lines.specs.Witnesses.{fact_format, reading_format, call_format, at_format, ShownParts, to_shown, shown_format}

-- a form behind its word
pub first_word : {A B : Type 0} (k : List ℕ) (f : Format A) (g : Format B) (ws rest : List (List ℕ)) (w : List ℕ) → next_of ws ≡ Some (w, rest) → bytes_eq w k ≡ true → (or_else k f g).get ws ≡ mapped {A = A} {B = A ⊎ B} inl (f.get rest)
first_word {A} {B} k f g [] rest w is same = absurd (none-some _ is)
first_word {A} {B} k f g (v ∷ ws) rest w is same =
    let p = some_pair_parts v w ws rest is in
    let t : bytes_eq v k ≡ true = ap (λ (x : List ℕ). bytes_eq x k) p.0 ∙ same in
    rw t (ap (λ (x : List (List ℕ)). mapped {A = A} {B = A ⊎ B} inl (f.get x)) p.1)

-- another form, where the word isn't that of the first
pub other_word : {A B : Type 0} (k : List ℕ) (f : Format A) (g : Format B) (ws rest : List (List ℕ)) (w : List ℕ) → next_of ws ≡ Some (w, rest) → bytes_eq w k ≡ false → (or_else k f g).get ws ≡ mapped {A = B} {B = A ⊎ B} inr (g.get ws)
other_word {A} {B} k f g [] rest w is other = absurd (none-some _ is)
other_word {A} {B} k f g (v ∷ ws) rest w is other =
    let p = some_pair_parts v w ws rest is in
    let t : bytes_eq v k ≡ false = ap (λ (x : List ℕ). bytes_eq x k) p.0 ∙ other in
    rw t refl

-- a form behind a word that must be next
pub key_word : {A : Type 0} (k : List ℕ) (f : Format A) (ws rest : List (List ℕ)) (w : List ℕ) → next_of ws ≡ Some (w, rest) → bytes_eq w k ≡ true → (behind k f).get ws ≡ f.get rest
key_word k f [] rest w is same = absurd (none-some _ is)
key_word k f (v ∷ ws) rest w is same =
    let p = some_pair_parts v w ws rest is in
    let t : bytes_eq v k ≡ true = ap (λ (x : List ℕ). bytes_eq x k) p.0 ∙ same in
    rw t (ap f.get p.1)

-- what was read, seen as another value twice
pub two_views : {A B C : Type 0} (f : A → B) (g : B → C) (r : Read A) → mapped {A = A} {B = C} (λ (x : A). g (f x)) r ≡ mapped {A = B} {B = C} g (mapped {A = A} {B = B} f r)
two_views f g None = refl
two_views f g (Some x) = refl

-- what was read, seen as another value three times
one_view : {A B C D : Type 0} (f : A → B) (g : B → C) (h : C → D) (r : Read A) → mapped {A = A} {B = D} (λ (x : A). h (g (f x))) r ≡ mapped {A = C} {B = D} h (mapped {A = B} {B = C} g (mapped {A = A} {B = B} f r))
one_view f g h None = refl
one_view f g h (Some x) = refl

pub reading_read : (d : Specification) (w : World) (due : Due) (ws rest : List (List ℕ)) (first : List ℕ) → next_of ws ≡ Some (first, rest) → bytes_eq first (codes "true") ≡ false → bytes_eq first (codes "count") ≡ true
    → mapped {A = Reading} {B = Shown} (λ (x : Reading). to_shown (inr (inl x))) ((reading_format d w due.counter).get rest) ≡ (shown_format d w due).get ws
reading_read d w due ws rest first is other same =
    let facts = fact_format d w due.relation in
    let readings = reading_format d w due.counter in
    let calls : Format (Call ⊎ List ℕ) = or_else (codes "call") (call_format d) (behind (codes "at") (at_format due.elements)) in
    let later : Format (Reading ⊎ (Call ⊎ List ℕ)) = or_else (codes "count") readings calls in
    let one = first_word (codes "count") readings calls ws rest first is same in
    let two = other_word (codes "true") facts later ws rest first is other in
    one_view {A = Reading} {B = Reading ⊎ (Call ⊎ List ℕ)} {C = ShownParts} {D = Shown} inl inr to_shown (readings.get rest)
    ∙ ap (λ (r : Read (Reading ⊎ (Call ⊎ List ℕ))). mapped {A = ShownParts} {B = Shown} to_shown (mapped {A = Reading ⊎ (Call ⊎ List ℕ)} {B = ShownParts} inr r)) (sym one)
    ∙ ap (λ (r : Read ShownParts). mapped {A = ShownParts} {B = Shown} to_shown r) (sym two)
