use Rattle.std.proofs.Common.{◌≡◌, ℕ, ℤ, pos, Bool, true, false, cond, ◌||◌, List, [], ◌∷◌, map, refl, sym, ◌∙◌, ap, arith, Option, Some, Vec, Global}
use Rattle.std.specs.Prelude.{unwrap_or}
use Rattle.std.specs.Str.{bytes_eq}
use Rattle.std.specs.Ordering.{nat_cmp, is_eq, is_lt, match_ordering}
use Rattle.std.specs.declared.cmp.Ordering.{Ordering}
use Rattle.std.specs.declared.cmp.Ordering.TheVariants.{Less, Equal, Greater}
use Rattle.std.specs.Cmp.Lexicographic.{slice_cmp}
use Rattle.std.specs.BTreeMap.{insert_entry, is_at}
use Rattle.std.specs.BTreeSet.{insert_key}
use Rattle.std.specs.Map.{lookup}
use Rattle.std.specs.Set.{remove_key}
use Rattle.std.specs.List.{AllZip, AllByRecursion, list_any, list_all}
use Rattle.std.specs.List.Sorted.{IsStrictlySortedBy}
use Rattle.std.proofs.lemmas.Map.Text.{is_eq-slice_cmp}
use Rattle.std.proofs.lemmas.Map.Lookups.{exact_bytes}
use Rattle.std.proofs.lemmas.Slice.Eq.{bytes_eq-Decides}
use Rattle.spec_core.specs.State.{is_in, count_in, listed_keys, is_rising}
use Rattle.spec_core.specs.Fits.{in_state_range}
use Rattle.std.proofs.lemmas.Bool.{and_parts, and_from}

abbrev pub Key : Type 0
Key = Vec ℕ Global

abbrev pub tuples_of : List Key → List (List ℕ)
tuples_of ks = map (λ k. k.items) ks

abbrev pub counts_of : List (Key × ℤ) → List (List ℕ × ℤ)
counts_of es = map (λ e. (e.0.items, e.1)) es

abbrev pub compare : Key → Key → Ordering
compare a b = slice_cmp nat_cmp a.items b.items

-- ---- sets of tuples

pub contains_in : (ks : List Key) (q : List ℕ) → is_in q (tuples_of ks) ≡ list_any (is_at (λ (k : Key). slice_cmp nat_cmp q k.items)) ks
contains_in [] q = refl
contains_in (k ∷ ks) q = ap (λ b. b || is_in q (tuples_of ks)) (sym (is_eq-slice_cmp q k.items)) ∙ ap (λ b. is_eq (slice_cmp nat_cmp q k.items) || b) (contains_in ks q)

as_cond : (a b : Bool) → (a || b) ≡ cond a true b
as_cond true b = refl
as_cond false b = refl

absorb : (a b c : Bool) → a ≡ b → (b || c) ≡ cond a true (b || c)
absorb true b c h = grind arith
absorb false b c h = refl

swap_or : (a b c : Bool) → (b || cond a true c) ≡ cond a true (b || c)
swap_or a b c = grind arith

pub insert_in : (ks : List Key) (k : Key) (q : List ℕ) → is_in q (tuples_of (insert_key compare ks k)) ≡ cond (bytes_eq q k.items) true (is_in q (tuples_of ks))
insert_in [] k q = as_cond (bytes_eq q k.items) false
insert_in (x ∷ xs) k q = at_place (slice_cmp nat_cmp k.items x.items) refl (insert_in xs k q)
  where
    at_place : (o : Ordering) → slice_cmp nat_cmp k.items x.items ≡ o → is_in q (tuples_of (insert_key compare xs k)) ≡ cond (bytes_eq q k.items) true (is_in q (tuples_of xs))
        → is_in q (tuples_of (match_ordering o (k ∷ x ∷ xs) (x ∷ xs) (x ∷ insert_key compare xs k))) ≡ cond (bytes_eq q k.items) true (is_in q (tuples_of (x ∷ xs)))
    at_place Less p ih = as_cond (bytes_eq q k.items) (is_in q (tuples_of (x ∷ xs)))
    at_place Equal p ih = absorb (bytes_eq q k.items) (bytes_eq q x.items) (is_in q (tuples_of xs)) (ap (bytes_eq q) (exact_bytes k.items x.items p))
    at_place Greater p ih = ap (λ b. bytes_eq q x.items || b) ih ∙ swap_or (bytes_eq q k.items) (bytes_eq q x.items) (is_in q (tuples_of xs))

-- a key that is before others is none of them
before_apart : (x : Key) (ks : List Key) → AllByRecursion (λ y. compare x y ≡ Less) ks → is_in x.items (tuples_of ks) ≡ false
before_apart x [] h = refl
before_apart x (k ∷ ks) h = let e : bytes_eq x.items k.items ≡ false = sym (is_eq-slice_cmp x.items k.items) ∙ ap is_eq h.0 in ap (λ b. b || is_in x.items (tuples_of ks)) e ∙ before_apart x ks h.1

is_in_same : (a b : List ℕ) (ts : List (List ℕ)) → bytes_eq a b ≡ true → is_in a ts ≡ is_in b ts
is_in_same a b ts h = ap (λ t. is_in t ts) ((bytes_eq-Decides a b).0 h)

gone : (a b c : Bool) → a ≡ b → (a ≡ true → c ≡ false) → c ≡ cond a false (b || c)
gone true b c h k = k refl
gone false b c h k = grind arith

keep : (a b c : Bool) → (a ≡ true → b ≡ false) → (b || cond a false c) ≡ cond a false (b || c)
keep true b c h = grind arith
keep false b c h = refl

pub remove_in : (ks : List Key) → IsStrictlySortedBy compare ks → (t q : List ℕ) → is_in q (tuples_of (remove_key (is_at (λ (k : Key). slice_cmp nat_cmp t k.items)) ks)) ≡ cond (bytes_eq q t) false (is_in q (tuples_of ks))
unfolding IsStrictlySortedBy
remove_in [] h t q = same (bytes_eq q t)
  where
    same : (b : Bool) → false ≡ cond b false false
    same true = refl
    same false = refl
remove_in (x ∷ xs) h t q = at (is_eq (slice_cmp nat_cmp t x.items)) refl (remove_in xs h.1 t q)
  where
    at : (b : Bool) → is_eq (slice_cmp nat_cmp t x.items) ≡ b → is_in q (tuples_of (remove_key (is_at (λ (k : Key). slice_cmp nat_cmp t k.items)) xs)) ≡ cond (bytes_eq q t) false (is_in q (tuples_of xs))
        → is_in q (tuples_of (cond b xs (x ∷ remove_key (is_at (λ (k : Key). slice_cmp nat_cmp t k.items)) xs))) ≡ cond (bytes_eq q t) false (is_in q (tuples_of (x ∷ xs)))
    at true p ih =
        let e : t ≡ x.items = (bytes_eq-Decides t x.items).0 (sym (is_eq-slice_cmp t x.items) ∙ p) in
        gone (bytes_eq q t) (bytes_eq q x.items) (is_in q (tuples_of xs)) (ap (bytes_eq q) e)
        (λ k. is_in_same q x.items (tuples_of xs) (sym (ap (bytes_eq q) e) ∙ k) ∙ before_apart x xs h.0)
    at false p ih =
        ap (λ b. bytes_eq q x.items || b) ih ∙ keep (bytes_eq q t) (bytes_eq q x.items) (is_in q (tuples_of xs))
        (λ k. let e : q ≡ t = (bytes_eq-Decides q t).0 k in ap (λ z. bytes_eq z x.items) e ∙ sym (is_eq-slice_cmp t x.items) ∙ p)

all_before : (x : Key) (ks : List Key) → AllByRecursion (λ y. compare x y ≡ Less) ks → list_all (λ u. is_lt (slice_cmp nat_cmp x.items u)) (tuples_of ks) ≡ true
all_before x [] h = refl
all_before x (k ∷ ks) h = and_from _ _ (ap is_lt h.0) (all_before x ks h.1)

-- the keys of an ordered set rise
pub rising : (ks : List Key) → IsStrictlySortedBy compare ks → is_rising (tuples_of ks) ≡ true
unfolding IsStrictlySortedBy
rising [] h = refl
rising (k ∷ ks) h = and_from _ _ (all_before k ks h.0) (rising ks h.1)

items_same : (xs ys : List ℕ) → AllZip (λ (x y : ℕ). y ≡ x) xs ys → ys ≡ xs
items_same [] [] h = refl
items_same [] (y ∷ ys) h = absurd h
items_same (x ∷ xs) [] h = absurd h
items_same (x ∷ xs) (y ∷ ys) h = λ i. h.0 i ∷ items_same xs ys h.1 i

pub cloned_tuples : (L : Key → Key → Type 0) (ks ns : List Key) → AllZip (λ (p q : Key). AllZip (λ (x y : ℕ). y ≡ x) p.items q.items × L p q) ks ns → tuples_of ns ≡ tuples_of ks
cloned_tuples L [] [] h = refl
cloned_tuples L [] (n ∷ ns) h = absurd h
cloned_tuples L (k ∷ ks) [] h = absurd h
cloned_tuples L (k ∷ ks) (n ∷ ns) h = λ i. items_same k.items n.items h.0.0 i ∷ cloned_tuples L ks ns h.1 i

-- ---- keys with values

unwrap-cond : (b : Bool) (x d : ℤ) (o : Option ℤ) → cond b x (unwrap_or o d) ≡ unwrap_or (cond b (Some x) o) d
unwrap-cond true x d o = refl
unwrap-cond false x d o = refl

-- what a look-up finds
pub lookup_count : (es : List (Key × ℤ)) (q : List ℕ) → count_in (counts_of es) q ≡ unwrap_or (lookup (is_at (λ (k : Key). slice_cmp nat_cmp q k.items)) es) (pos 0)
lookup_count [] q = refl
lookup_count (e ∷ es) q =
    ap (λ b. cond b e.1 (count_in (counts_of es) q)) (sym (is_eq-slice_cmp q e.0.items))
    ∙ ap (cond (is_eq (slice_cmp nat_cmp q e.0.items)) e.1) (lookup_count es q)
    ∙ unwrap-cond (is_eq (slice_cmp nat_cmp q e.0.items)) e.1 (pos 0) (lookup (is_at (λ (k : Key). slice_cmp nat_cmp q k.items)) es)

swap_cond : (a b : Bool) (x y z : ℤ) → (a ≡ true → b ≡ true → ⊥) → cond a x (cond b y z) ≡ cond b y (cond a x z)
swap_cond true true x y z h = absurd (h refl refl)
swap_cond true false x y z h = refl
swap_cond false b x y z h = refl

same_cond : (a b : Bool) (x y z : ℤ) → a ≡ b → cond a x z ≡ cond b x (cond a y z)
same_cond true true x y z h = refl
same_cond true false x y z h = absurd cc
same_cond false true x y z h = absurd cc
same_cond false false x y z h = refl

apart : (x y : List ℕ) → slice_cmp nat_cmp x y ≡ Greater → x ≡ y → ⊥
apart x y p e = let t = (bytes_eq-Decides x y).1 e in let s = is_eq-slice_cmp x y in let u : is_eq (slice_cmp nat_cmp x y) ≡ false = ap is_eq p in cc

pub insert_count : (es : List (Key × ℤ)) (k : Key) (v : ℤ) (q : List ℕ) → count_in (counts_of (insert_entry compare es k v)) q ≡ cond (bytes_eq q k.items) v (count_in (counts_of es) q)
insert_count [] k v q = refl
insert_count (e ∷ es) k v q = at_place (slice_cmp nat_cmp k.items e.0.items) refl (insert_count es k v q)
  where
    at_place : (o : Ordering) → slice_cmp nat_cmp k.items e.0.items ≡ o → count_in (counts_of (insert_entry compare es k v)) q ≡ cond (bytes_eq q k.items) v (count_in (counts_of es) q)
        → count_in (counts_of (match_ordering o ((k, v) ∷ e ∷ es) ((e.0, v) ∷ es) (e ∷ insert_entry compare es k v))) q ≡ cond (bytes_eq q k.items) v (count_in (counts_of (e ∷ es)) q)
    at_place Less p ih = refl
    at_place Equal p ih = same_cond (bytes_eq q e.0.items) (bytes_eq q k.items) v e.1 (count_in (counts_of es) q) (ap (bytes_eq q) (sym (exact_bytes k.items e.0.items p)))
    at_place Greater p ih = ap (cond (bytes_eq q e.0.items) e.1) ih ∙ swap_cond (bytes_eq q e.0.items) (bytes_eq q k.items) e.1 v (count_in (counts_of es) q) (λ a b. apart k.items e.0.items p (sym ((bytes_eq-Decides q k.items).0 b) ∙ (bytes_eq-Decides q e.0.items).0 a))

swap_or2 : (a b c : Bool) → (b || (a || c)) ≡ (a || (b || c))
swap_or2 a b c = grind arith

absorb2 : (a b c : Bool) → a ≡ b → (b || c) ≡ (a || (b || c))
absorb2 a b c h = grind arith

-- what is listed after an insert
pub insert_listed : (es : List (Key × ℤ)) (k : Key) (v : ℤ) (q : List ℕ) → is_in q (listed_keys (counts_of (insert_entry compare es k v))) ≡ (bytes_eq q k.items || is_in q (listed_keys (counts_of es)))
insert_listed [] k v q = refl
insert_listed (e ∷ es) k v q = at_place (slice_cmp nat_cmp k.items e.0.items) refl (insert_listed es k v q)
  where
    at_place : (o : Ordering) → slice_cmp nat_cmp k.items e.0.items ≡ o → is_in q (listed_keys (counts_of (insert_entry compare es k v))) ≡ (bytes_eq q k.items || is_in q (listed_keys (counts_of es)))
        → is_in q (listed_keys (counts_of (match_ordering o ((k, v) ∷ e ∷ es) ((e.0, v) ∷ es) (e ∷ insert_entry compare es k v)))) ≡ (bytes_eq q k.items || is_in q (listed_keys (counts_of (e ∷ es))))
    at_place Less p ih = refl
    at_place Equal p ih = absorb2 (bytes_eq q k.items) (bytes_eq q e.0.items) (is_in q (listed_keys (counts_of es))) (ap (bytes_eq q) (exact_bytes k.items e.0.items p))
    at_place Greater p ih = ap (λ b. bytes_eq q e.0.items || b) ih ∙ swap_or2 (bytes_eq q k.items) (bytes_eq q e.0.items) (is_in q (listed_keys (counts_of es)))

abbrev pub in_range : List (List ℕ × ℤ) → Bool
in_range es = list_all (λ (e : List ℕ × ℤ). in_state_range e.1) es

pub insert_range : (es : List (Key × ℤ)) (k : Key) (v : ℤ) → in_state_range v ≡ true → in_range (counts_of es) ≡ true → in_range (counts_of (insert_entry compare es k v)) ≡ true
insert_range [] k v h p = and_from _ _ h refl
insert_range (e ∷ es) k v h p = at_place (slice_cmp nat_cmp k.items e.0.items) (insert_range es k v h (and_parts (in_state_range e.1) (in_range (counts_of es)) p).1)
  where
    at_place : (o : Ordering) → in_range (counts_of (insert_entry compare es k v)) ≡ true
        → in_range (counts_of (match_ordering o ((k, v) ∷ e ∷ es) ((e.0, v) ∷ es) (e ∷ insert_entry compare es k v))) ≡ true
    at_place Less ih = and_from _ _ h p
    at_place Equal ih = and_from _ _ h (and_parts (in_state_range e.1) (in_range (counts_of es)) p).1
    at_place Greater ih = and_from _ _ (and_parts (in_state_range e.1) (in_range (counts_of es)) p).0 ih

keys_listed : (es : List (Key × ℤ)) → listed_keys (counts_of es) ≡ tuples_of (map (λ (e : Key × ℤ). e.0) es)
keys_listed [] = refl
keys_listed (e ∷ es) = ap (λ ts. e.0.items ∷ ts) (keys_listed es)

-- the keys of an ordered map rise
pub rising_keys : (es : List (Key × ℤ)) → IsStrictlySortedBy compare (map (λ (e : Key × ℤ). e.0) es) → is_rising (listed_keys (counts_of es)) ≡ true
rising_keys es h = ap is_rising (keys_listed es) ∙ rising (map (λ (e : Key × ℤ). e.0) es) h

pub cloned_counts : (L : Key → Key → Type 0) (es fs : List (Key × ℤ)) → AllZip (λ (p q : Key × ℤ). (AllZip (λ (x y : ℕ). y ≡ x) p.0.items q.0.items × L p.0 q.0) × (q.1 ≡ p.1)) es fs → counts_of fs ≡ counts_of es
cloned_counts L [] [] h = refl
cloned_counts L [] (f ∷ fs) h = absurd h
cloned_counts L (e ∷ es) [] h = absurd h
cloned_counts L (e ∷ es) (f ∷ fs) h = λ i. (items_same e.0.items f.0.items h.0.0.0 i, h.0.1 i) ∷ cloned_counts L es fs h.1 i
