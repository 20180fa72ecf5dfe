-- What is known while literals are chosen. It mirrors src/choosing.rt.
use Rattle.std.specs.Prelude.{◌≡◌, ℕ, ◌<◌, Bool, true, false, not, ◌&&◌, List, [], length, slice_index_or, Option, Some, None}
use Rattle.std.specs.List.{list_any, list_all}
use Rattle.proof_lines.specs.declared.clause.Lit.{Lit}
use Rattle.proof_lines.specs.declared.problem.AtomKind.{AtomKind}
use Rattle.proof_lines.specs.Clauses.{has, same_bool, lit_of}
use Rattle.line_rows.specs.Steps.{has_row}
use Rattle.sat_core.specs.declared.trail.Entry.{Entry}
use Rattle.sat_core.specs.Trails.{in_trail}
use Rattle.implicants.specs.declared.choosing.Chosen.{Chosen}
use Rattle.implicants.specs.Implicants.{is_met, IsImplicant}

-- an atom was chosen with a sign
abbrev pub is_sign : Option Bool → Bool → Bool
is_sign (Some s) p = same_bool s p
is_sign None p = false

-- a literal's atom was chosen with its sign
abbrev pub is_marked : List (Option Bool) → Lit → Bool
is_marked signs l = is_sign (slice_index_or signs l.atom None) l.positive

-- the chosen literals are on the trail, and each mark is one of a chosen literal
pub record AreChosen (t : List Entry) (c : Chosen) : Type 0 where
  pub in_it : list_all (in_trail t) c.lits ≡ true
  pub marked : (l : Lit) → is_marked c.signs.items l ≡ true → has c.lits l ≡ true

-- all that was chosen stays so
abbrev pub Keeps : Chosen → Chosen → Type 0
Keeps c d = (l : Lit) → has c.lits l ≡ true → has d.lits l ≡ true

-- a literal was added
pub record IsAdded (t : List Entry) (l : Lit) (c d : Chosen) : Type 0 where
  pub chosen : AreChosen t d
  pub kept : Keeps c d
  pub there : has d.lits l ≡ true

-- a literal over an atom with a row that the trail has
abbrev pub is_candidate : List AtomKind → List Entry → Lit → Bool
is_candidate atoms t l = has_row atoms l && in_trail t l

-- a clause has a literal that holds by what is chosen now, or none that holds by the trail
abbrev pub IsCovered : Bool → List AtomKind → List Bool → List Entry → List Lit → Chosen → Chosen
    → Type 0
IsCovered true atoms values t c before after =
    AreChosen t after × Keeps before after × (is_met atoms values (has after.lits) c ≡ true)
IsCovered false atoms values t c before after = is_met atoms values (in_trail t) c ≡ false

-- some clause has no literal that holds by the values or is on the trail
abbrev pub IsUnmet : List AtomKind → List (List Lit) → List Bool → List Entry → Type 0
IsUnmet atoms cs values t =
    (i : ℕ) × (i < length cs) × (is_met atoms values (in_trail t) (slice_index_or cs i []) ≡ false)

-- the first clauses have literals that hold by what is chosen
abbrev pub AreMet : ℕ → List AtomKind → List (List Lit) → List Bool → Chosen → Type 0
AreMet n atoms cs values c =
    (i : ℕ) → i < n → is_met atoms values (has c.lits) (slice_index_or cs i []) ≡ true

-- all clauses have, or some clause can have none
abbrev pub AreCovered : Bool → List AtomKind → List (List Lit) → List Bool → List Entry → Chosen
    → Type 0
AreCovered true atoms cs values t c = AreChosen t c × IsImplicant atoms cs values c.lits
AreCovered false atoms cs values t c = IsUnmet atoms cs values t
