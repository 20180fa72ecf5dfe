-- Names in an ordered map.
use Rattle.std.proofs.Common.{◌≡◌, ℕ, Bool, true, false, cond, List, [], ◌∷◌, map, refl, sym, ◌∙◌, ap, Option, Some, None, Vec, Global}
use Rattle.std.specs.Str.{bytes_eq}
use Rattle.std.specs.Ordering.{nat_cmp, is_eq, match_ordering}
use Rattle.std.specs.declared.cmp.Ordering.{Ordering}
use Rattle.std.specs.declared.cmp.Ordering.TheVariants.{Less, Equal, Greater}
use Rattle.std.specs.Cmp.Lexicographic.{slice_cmp}
use Rattle.std.specs.BTreeMap.{insert_entry, is_at}
use Rattle.std.specs.Map.{lookup}
use Rattle.std.proofs.lemmas.Map.Text.{is_eq-slice_cmp}
use Rattle.std.proofs.lemmas.Map.Lookups.{exact_bytes}
use Rattle.std.proofs.lemmas.Slice.Eq.{bytes_eq-Decides}
use Rattle.typing_rules.specs.declared.meaning.Meaning.{Meaning}
use Rattle.typing_rules.specs.Scope.{with_name}
use Rattle.spec_types.specs.faults.Names.{meaning_in}

abbrev pub Key : Type 0
Key = Vec ℕ Global

abbrev pub entries_of : List (Key × Meaning) → List (List ℕ × Meaning)
entries_of es = map (λ e. (e.0.items, e.1)) es

abbrev pub compare : Key → Key → Ordering
compare a b = slice_cmp nat_cmp a.items b.items

-- what a look-up finds
pub lookup_meaning : (es : List (Key × Meaning)) (q : List ℕ) → meaning_in (entries_of es) q ≡ lookup (is_at (λ (k : Key). slice_cmp nat_cmp q k.items)) es
lookup_meaning [] q = refl
lookup_meaning (e ∷ es) q =
    ap (λ b. cond b (Some e.1) (meaning_in (entries_of es) q)) (sym (is_eq-slice_cmp q e.0.items))
    ∙ ap (cond (is_eq (slice_cmp nat_cmp q e.0.items)) (Some e.1)) (lookup_meaning es q)

swap_cond : (a b : Bool) (x y z : Option Meaning) → (a ≡ true → b ≡ true → ⊥) → cond a x (cond b y z) ≡ cond b y (cond a x z)
swap_cond true true x y z h = absurd (h refl refl)
swap_cond true false x y z h = refl
swap_cond false b x y z h = refl

same_cond : (a b : Bool) (x y z : Option Meaning) → a ≡ b → cond a x z ≡ cond b x (cond a y z)
same_cond true true x y z h = refl
same_cond true false x y z h = absurd cc
same_cond false true x y z h = absurd cc
same_cond false false x y z h = refl

apart : (x y : List ℕ) → slice_cmp nat_cmp x y ≡ Greater → x ≡ y → ⊥
apart x y p e = let t = (bytes_eq-Decides x y).1 e in let s = is_eq-slice_cmp x y in let u : is_eq (slice_cmp nat_cmp x y) ≡ false = ap is_eq p in cc

insert_at : (es : List (Key × Meaning)) (k : Key) (v : Meaning) (q : List ℕ) → meaning_in (entries_of (insert_entry compare es k v)) q ≡ cond (bytes_eq q k.items) (Some v) (meaning_in (entries_of es) q)
insert_at [] k v q = refl
insert_at (e ∷ es) k v q = at_place (slice_cmp nat_cmp k.items e.0.items) refl (insert_at es k v q)
  where
    at_place : (o : Ordering) → slice_cmp nat_cmp k.items e.0.items ≡ o → meaning_in (entries_of (insert_entry compare es k v)) q ≡ cond (bytes_eq q k.items) (Some v) (meaning_in (entries_of es) q)
        → meaning_in (entries_of (match_ordering o ((k, v) ∷ e ∷ es) ((e.0, v) ∷ es) (e ∷ insert_entry compare es k v))) q ≡ cond (bytes_eq q k.items) (Some v) (meaning_in (entries_of (e ∷ es)) q)
    at_place Less p ih = refl
    at_place Equal p ih = same_cond (bytes_eq q e.0.items) (bytes_eq q k.items) (Some v) (Some e.1) (meaning_in (entries_of es) q) (ap (bytes_eq q) (sym (exact_bytes k.items e.0.items p)))
    at_place Greater p ih = ap (cond (bytes_eq q e.0.items) (Some e.1)) ih ∙ swap_cond (bytes_eq q e.0.items) (bytes_eq q k.items) (Some e.1) (Some v) (meaning_in (entries_of es) q) (λ a b. apart k.items e.0.items p (sym ((bytes_eq-Decides q k.items).0 b) ∙ (bytes_eq-Decides q e.0.items).0 a))

-- what names mean after an insert
pub insert_meaning : (es : List (Key × Meaning)) (k : Key) (v : Meaning) → meaning_in (entries_of (insert_entry compare es k v)) ≡ with_name (meaning_in (entries_of es)) k.items v
insert_meaning es k v = λ i q. insert_at es k v q i
