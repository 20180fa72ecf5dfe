-- Lemmas on blocks of clauses: bits of masks, what they rule out, and blocks with one clause more.
use Rattle.std.proofs.Common.{◌≡◌, ℕ, zero, suc, ◌-◌, ◌*◌, ◌%◌, ◌^◌, ◌<◌, ◌≤◌, Bool, true, false, ◌||◌, inl, inr, List, [], ◌∷◌, ◌++◌, length, map, set, get_or, refl, sym, ◌∙◌, ap, subst, arith, Option, Some, None}
use Rattle.std.specs.Prelude.{slice_index_or, bit_or}
use Rattle.std.specs.Int.{bit_at, w128}
use Rattle.std.specs.List.{list_any}
use Rattle.std.proofs.lemmas.Bool.{cases_eq}
use Rattle.std.proofs.lemmas.List.{get_or-set_same, get_or-set_other, get_or_default}
use Rattle.std.proofs.lemmas.List.Folds.{list_any-append}
use Rattle.std.proofs.lemmas.Nat.Bits.{bit_at_or, bit_at-zero, bit_at-lt, bit_at_set_other, bit_at_ones}
use Rattle.proof_lines.specs.declared.clause.Lit.{Lit}
use Rattle.proof_lines.specs.Numbers.{stands_in}
use Rattle.log_freshness.specs.declared.blocks.Block.{Block}
use Rattle.log_freshness.specs.declared.blocks.Blocks.{Blocks}
use Rattle.log_freshness.specs.Index.{spots, slot_within, marked, MarksAre}
use Rattle.log_freshness.specs.Blocks.{number_within, block_within, slot_has, number_has, mask_bit, BlockFits, AllFit, BlocksFit, IsClearAt, RulesOut, BitsAre, PutsNumber, MovesLast, PutsInBlocks, IsEmptyBlock, HasNoClause}
use Rattle.log_freshness.specs.declared.freshness.Entry.{Entry}
use Rattle.log_freshness.specs.declared.freshness.Index.{Index}
use Rattle.log_freshness.specs.Puts.{IndexFits, PutsClause, PutsEither}
use Rattle.log_freshness.proofs.Index.{sub-all_spots}

-- what spots rule out
pub rules-none : (marks : List Bool) (masks : List ℕ) → RulesOut marks masks 0
rules-none marks masks i h = bit_at-zero i

pub rules-mask : (marks : List Bool) (masks : List ℕ) (k : ℕ) → marked marks k ≡ false → RulesOut marks masks (slice_index_or masks k 0)
rules-mask marks masks k e i h = h k e

pub rules-or : (marks : List Bool) (masks : List ℕ) (a b : ℕ) → RulesOut marks masks a → RulesOut marks masks b → RulesOut marks masks (bit_or a b)
rules-or marks masks a b f g i h = omega (arith, bit_at_or a b i, f i h, g i h)

bit-zero : (n i : ℕ) → (bit_at n i ≡ 1 → ⊥) → bit_at n i ≡ 0
bit-zero n i h = elim (cases_eq (bit_at n i) 1) [
  | inl e ↦ absurd (h e)
  | inr other ↦ omega (arith, bit_at-lt n i)
]

no_both : (b : Bool) → b ≡ true → b ≡ false → ⊥
no_both true t f = cc
no_both false t f = cc

index-map : (f : ℕ → Bool) (xs : List ℕ) (i d : ℕ) → i < length xs → slice_index_or (map f xs) i false ≡ f (get_or xs i d)
index-map f [] i d lt = absurd (omega arith)
index-map f (x ∷ xs) zero d lt = refl
index-map f (x ∷ xs) (suc i) d lt = index-map f xs i d (omega arith)

-- the spots of a clause within another are spots of that one
slot-has : (m k : ℕ) (o : Option (List Lit)) (c : List Lit) → slot_within c o ≡ true → slot_has m k o ≡ true → stands_in (spots m c) k ≡ true
slot-has m k (Some d) c w h = sub-all_spots m d c k w h
slot-has m k None c w h = absurd cc

-- so where a clause lies within another no spot without a mark rules its place out
clear-within : (m : ℕ) (slots : List (Option (List Lit))) (b : Block) (marks : List Bool) (c : List Lit) (i d : ℕ) → BlockFits m slots b → MarksAre m marks c
    → i < length b.numbers → number_within slots c (get_or b.numbers i d) ≡ true → IsClearAt marks b.masks.items i
clear-within m slots b marks c i d fits are lt w k e = bit-zero (slice_index_or b.masks.items k 0) i (λ one.
    no_both (marked marks k)
    (are k ∙ slot-has m k (slice_index_or slots (get_or b.numbers i d) None) c w (sym (index-map (number_has m slots k) b.numbers i d lt) ∙ fits.told k i one)) e)

-- and a place that is ruled out has a clause that doesn't lie within it
pub ruled-not_within : (m : ℕ) (slots : List (Option (List Lit))) (b : Block) (marks : List Bool) (c : List Lit) (out i d : ℕ) → BlockFits m slots b → MarksAre m marks c
    → RulesOut marks b.masks.items out → i < length b.numbers → bit_at out i ≡ 1 → number_within slots c (get_or b.numbers i d) ≡ false
ruled-not_within m slots b marks c out i d fits are rules lt bit = by_case (number_within slots c (get_or b.numbers i d)) refl
  where
    by_case : (w : Bool) → number_within slots c (get_or b.numbers i d) ≡ w → number_within slots c (get_or b.numbers i d) ≡ false
    by_case false e = e
    by_case true e = absurd (let none : bit_at out i ≡ 0 = rules i (clear-within m slots b marks c i d fits are lt e) in omega arith)

any-none : (p : ℕ → Bool) (xs : List ℕ) → ((i : ℕ) → i < length xs → p (get_or xs i 0) ≡ false) → list_any p xs ≡ false
any-none p [] h = refl
any-none p (x ∷ xs) h = ap (λ b. b || list_any p xs) (h zero (omega arith)) ∙ any-none p xs (λ i lt. h (suc i) (omega arith))

pub all-ruled : (m : ℕ) (slots : List (Option (List Lit))) (b : Block) (marks : List Bool) (c : List Lit) (out : ℕ) → BlockFits m slots b → MarksAre m marks c
    → RulesOut marks b.masks.items out → out ≡ 2 ^ 128 - 1 → block_within slots c b ≡ false
all-ruled m slots b marks c out fits are rules e =
    any-none (number_within slots c) b.numbers (λ i lt.
    ruled-not_within m slots b marks c out i 0 fits are rules lt (ap (λ z. bit_at z i) e ∙ bit_at_ones 128 i (omega (arith, fits.few, lt))))

-- one bit more
pub bits-step : (m : ℕ) (c : List Lit) (place s : ℕ) (old masks : List ℕ) → place < 128 → s < length masks → stands_in (spots m c) s ≡ true → BitsAre m c place old masks
    → BitsAre m c place old (set masks s (bit_or (slice_index_or masks s 0) (1 * 2 ^ place % 2 ^ 128)))
bits-step m c place s old masks small lt among h k i one = elim (cases_eq k s) [
  | inl same ↦ elim (cases_eq i place) [
    | inl here ↦ inr (here, subst (λ (z : ℕ). stands_in (spots m c) z ≡ true) (sym same) among)
    | inr other ↦
        let was : mask_bit masks s i ≡ 1 =
        sym (bit_at_set_other w128 (slice_index_or masks s 0) place small i other)
        ∙ sym (ap (λ z. bit_at z i) (get_or-set_same masks s (bit_or (slice_index_or masks s 0) (1 * 2 ^ place % 2 ^ 128)) 0 lt))
        ∙ subst (λ (z : ℕ). mask_bit (set masks s (bit_or (slice_index_or masks s 0) (1 * 2 ^ place % 2 ^ 128))) z i ≡ 1) same one in
        h k i (subst (λ (z : ℕ). mask_bit masks z i ≡ 1) (sym same) was)
  ]
  | inr other ↦ h k i (sym (ap (λ z. bit_at z i) (get_or-set_other masks s k (bit_or (slice_index_or masks s 0) (1 * 2 ^ place % 2 ^ 128)) 0 other)) ∙ one)
]

-- a block with one clause more
map-last : (f : ℕ → Bool) (xs : List ℕ) (y : ℕ) → map f (xs ++ y ∷ []) ≡ map f xs ++ f y ∷ []
map-last f [] y = refl
map-last f (x ∷ xs) y = ap (λ (z : List Bool). f x ∷ z) (map-last f xs y)

length-more : (xs : List ℕ) (y : ℕ) → length (xs ++ y ∷ []) ≡ suc (length xs)
length-more [] y = refl
length-more (x ∷ xs) y = ap suc (length-more xs y)

index-kept : (f : ℕ → Bool) (xs : List ℕ) (y i : ℕ) → slice_index_or (map f xs) i false ≡ true → slice_index_or (map f (xs ++ y ∷ [])) i false ≡ true
index-kept f [] y i h = absurd cc
index-kept f (x ∷ xs) y zero h = h
index-kept f (x ∷ xs) y (suc i) h = index-kept f xs y i h

index-new : (f : ℕ → Bool) (xs : List ℕ) (y : ℕ) → slice_index_or (map f (xs ++ y ∷ [])) (length xs) false ≡ f y
index-new f [] y = refl
index-new f (x ∷ xs) y = index-new f xs y

pub fits-put : (m : ℕ) (slots : List (Option (List Lit))) (c : List Lit) (number : ℕ) (old new : Block) → slice_index_or slots number None ≡ Some c → length old.numbers < 128
    → PutsNumber m c number old new → BlockFits m slots old → BlockFits m slots new
fits-put m slots c number old new is room puts fits = record {
  few = subst (λ (z : List ℕ). length z ≤ 128) (sym puts.numbers) (omega (arith, length-more old.numbers number));
  sized = puts.sized;
  told = λ k i one. subst (λ (z : List ℕ). slice_index_or (map (number_has m slots k) z) i false ≡ true) (sym puts.numbers) (elim (puts.bits k i one) [
    | inl was ↦ index-kept (number_has m slots k) old.numbers number i (fits.told k i was)
    | inr new ↦
        subst (λ (z : ℕ). slice_index_or (map (number_has m slots k) (old.numbers ++ number ∷ [])) z false ≡ true) (sym new.0)
        (index-new (number_has m slots k) old.numbers number ∙ ap (slot_has m k) is ∙ new.1)
  ]);
}

or_false : (b : Bool) → (b || false) ≡ b
or_false b = grind arith

or_last : (a b e : Bool) → (a || (b || e)) ≡ ((a || b) || e)
or_last a b e = grind arith

within-put : (m : ℕ) (slots : List (Option (List Lit))) (c d : List Lit) (number : ℕ) (old new : Block) → PutsNumber m c number old new
    → block_within slots d new ≡ (block_within slots d old || number_within slots d number)
within-put m slots c d number old new puts =
    ap (list_any (number_within slots d)) puts.numbers
    ∙ list_any-append (number_within slots d) old.numbers (number ∷ [])
    ∙ ap (λ b. block_within slots d old || b) (or_false (number_within slots d number))

all-more : (m : ℕ) (slots : List (Option (List Lit))) (bs : List Block) (b : Block) → AllFit m slots bs → BlockFits m slots b → AllFit m slots (bs ++ b ∷ [])
all-more m slots [] b all fits = (fits, tt)
all-more m slots (x ∷ bs) b all fits = (all.0, all-more m slots bs b all.1 fits)

-- the blocks with one clause more in the last one, which has room
pub puts-room : (m : ℕ) (c : List Lit) (number : ℕ) (old new : Blocks) → length old.last.numbers < 128 → length new.last.numbers < 128 → new.full.items ≡ old.full.items
    → PutsNumber m c number old.last new.last → PutsInBlocks m c number old new
puts-room m c number old new room left full puts = record {
  found = λ slots d.
      ap (λ (z : List Block). list_any (block_within slots d) z || block_within slots d new.last) full
      ∙ ap (λ b. list_any (block_within slots d) old.full.items || b) (within-put m slots c d number old.last new.last puts)
      ∙ or_last (list_any (block_within slots d) old.full.items) (block_within slots d old.last) (number_within slots d number);
  fits = λ slots is fits. record {
    full = subst (AllFit m slots) (sym full) fits.full;
    last = fits-put m slots c number old.last new.last is room puts fits.last;
    room = left;
  };
}

-- so where an empty block follows
pub puts-moved : (m : ℕ) (c : List Lit) (number : ℕ) (old middle new : Blocks) → length old.last.numbers < 128 → middle.full.items ≡ old.full.items
    → PutsNumber m c number old.last middle.last → MovesLast m middle new → PutsInBlocks m c number old new
puts-moved m c number old middle new room full puts moves = record {
  found = λ slots d.
      ap (λ (z : List Block). list_any (block_within slots d) z || block_within slots d new.last) (moves.full ∙ ap (λ (z : List Block). z ++ middle.last ∷ []) full)
      ∙ ap (λ (z : List ℕ). list_any (block_within slots d) (old.full.items ++ middle.last ∷ []) || list_any (number_within slots d) z) moves.last.none
      ∙ or_false (list_any (block_within slots d) (old.full.items ++ middle.last ∷ []))
      ∙ list_any-append (block_within slots d) old.full.items (middle.last ∷ [])
      ∙ ap (λ b. list_any (block_within slots d) old.full.items || b) (or_false (block_within slots d middle.last) ∙ within-put m slots c d number old.last middle.last puts)
      ∙ or_last (list_any (block_within slots d) old.full.items) (block_within slots d old.last) (number_within slots d number);
  fits = λ slots is fits. record {
    full = subst (AllFit m slots) (sym (moves.full ∙ ap (λ (z : List Block). z ++ middle.last ∷ []) full))
        (all-more m slots old.full.items middle.last fits.full (fits-put m slots c number old.last middle.last is room puts fits.last));
    last = moves.last.fits slots;
    room = subst (λ (z : List ℕ). length z < 128) (sym moves.last.none) (omega arith);
  };
}

-- no clause stands in blocks without clauses
pub none-in_blocks : (m : ℕ) (blocks : Blocks) → blocks.full.items ≡ [] → IsEmptyBlock m blocks.last → HasNoClause m blocks
none-in_blocks m blocks full last = record {
  none = λ slots c.
      ap (λ (z : List Block). list_any (block_within slots c) z || block_within slots c blocks.last) full
      ∙ ap (list_any (number_within slots c)) last.none;
  fits = λ slots. record {
    full = subst (AllFit m slots) (sym full) tt;
    last = last.fits slots;
    room = subst (λ (z : List ℕ). length z < 128) (sym last.none) (omega arith);
  };
}

-- a clause more in the lists or in the blocks
fits-some : (m : ℕ) (slots : List (Option (List Lit))) (old_lists new_lists : List (List Entry)) (old new : Blocks) (i : ℕ) (d : Option (List Lit)) (c : List Lit)
    → i < length slots → get_or slots i d ≡ Some c → PutsEither m c i old_lists new_lists old new → BlocksFit m slots old → BlocksFit m slots new
fits-some m slots old_lists new_lists old new i d c lt g puts fits = elim puts [
  | inl p ↦ subst (BlocksFit m slots) (sym p.1) fits
  | inr p ↦ p.1.fits slots (get_or_default slots i None d lt ∙ g) fits
]

pub index_fits-some : (slots : List (Option (List Lit))) (old new : Index) (i : ℕ) (d : Option (List Lit)) (c : List Lit)
    → i < length slots → get_or slots i d ≡ Some c → PutsClause c i old new → IndexFits slots old → IndexFits slots new
index_fits-some slots old new i d c lt g puts h = record {
  some = subst (λ (m : ℕ). 0 < m) (sym puts.count) h.some;
  listed = puts.listed;
  blocks = subst (λ (m : ℕ). BlocksFit m slots new.blocks) (sym puts.count)
      (fits-some old.count slots old.lists.items new.lists.items old.blocks new.blocks i d c lt g puts.either h.blocks);
}
